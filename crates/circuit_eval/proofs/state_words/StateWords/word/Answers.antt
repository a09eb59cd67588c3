use Rattle.std.proofs.Common.{◌<◌, length, ◌∙◌, arith}
use Rattle.std.proofs.lemmas.List.{get_or_read}
use Rattle.circuit_eval.proofs.Kept.{count_now, word_now}
use Rattle.circuit_eval.proofs.state_words.StateWords.word.Goals as goal

pub returns : goal.returns
returns c =
    let count = count_now c.self.inside.widths.items c.self.inside.words.items c.self.inside.wides.items c.args.self.now c.self.view_is c.self.invariant in
    let within : c.args.number < length c.self.inside.words.items = omega (arith, c.requires.state, count, c.self.invariant.each) in
    get_or_read c.self.inside.words.items c.args.number c.index.result.now within c.index.ensures 0
    ∙ word_now c.self.inside.widths.items c.self.inside.words.items c.self.inside.wides.items c.args.self.now c.self.view_is c.self.invariant c.args.number c.requires.state c.requires.narrow
