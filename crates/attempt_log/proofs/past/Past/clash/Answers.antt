use Rattle.std.proofs.Common.{◌<◌, Some, length, ap, ◌∙◌, arith}
use Rattle.std.specs.Prelude.{option_map}
use Rattle.attempt_log.specs.inner.Firsts.{clash_of}
use Rattle.attempt_log.proofs.Searches.{search_is_clash}
use Rattle.attempt_log.proofs.past.Past.clash.Goals as goal

pub returns-in-Some : goal.returns-in-Some
returns-in-Some c widths fired s =
    let access = c.args.access.now in
    let lt : access.register < length widths = omega (arith, s.places, c.requires.1, c.requires.2) in
    ap Some c.cause_of.ensures ∙ ap (option_map (clash_of access)) c.in-Some.ensures ∙ search_is_clash access widths c.args.self.now fired s lt

pub returns-in-None : goal.returns-in-None
returns-in-None c widths fired s =
    let access = c.args.access.now in
    let lt : access.register < length widths = omega (arith, s.places, c.requires.1, c.requires.2) in
    ap (option_map (clash_of access)) c.in-None.ensures ∙ search_is_clash access widths c.args.self.now fired s lt
