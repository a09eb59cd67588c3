use Rattle.std.proofs.Common.{arith}
use Rattle.std.proofs.lemmas.List.{get_or_read}
use Rattle.koika_check.proofs.Paths.{has-past, has-within}
use Rattle.koika_check.proofs.path.Path.has.Goals as goal

pub returns-then-place-len : goal.returns-then-place-len
returns-then-place-len c =
    has-within c.args.self.now c.requires.kept c.args.rule c.index-place.result.now c.index.result.now
    (get_or_read c.args.self.now.places c.args.rule c.index-place.result.now c.requires.known c.index-place.ensures 0) (omega arith)
    (get_or_read c.args.self.now.rules c.index-place.result.now c.index.result.now (omega arith) c.index.ensures 0)

pub returns-else-place-len : goal.returns-else-place-len
returns-else-place-len c =
    let past = has-past c.args.self.now c.requires.kept c.args.rule c.index-place.result.now (get_or_read c.args.self.now.places c.args.rule c.index-place.result.now c.requires.known c.index-place.ensures 0) (omega arith) in
    grind (arith, past)
