use Rattle.std.proofs.Common.{◌++◌, ap, ◌∙◌}
use Rattle.std.proofs.lemmas.List.{nil_from_length}
use Rattle.verilog_text.proofs.Cutting.{words_first, words_last}
use Rattle.verilog_text.proofs.words.first_word.Goals as goal

pub returns-in-Some : goal.returns-in-Some
returns-in-Some c =
    let cut = c.split_before.ensures in
    let after = c.in-Some.ensures.cases.0 in
    words_first c.args.text.now c.split_before.result.0.now c.in-Some.field-0-0.now c.in-Some.rest.now (cut.parts
    ∙ ap (λ r. c.split_before.result.0.now ++ r) after) cut.front (rw after at cut.rest)

pub returns-in-None : goal.returns-in-None
returns-in-None c =
    let cut = c.split_before.ensures in
    words_last c.args.text.now c.split_before.result.0.now c.split_before.result.1.now cut.parts cut.front
    (nil_from_length _ c.in-None.ensures.cases)
