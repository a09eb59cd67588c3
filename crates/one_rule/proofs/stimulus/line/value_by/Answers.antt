use Rattle.std.proofs.Common.{rules, sym, ◌∙◌}
use Rattle.std.proofs.lemmas.Cmp.{ranked}
use Rattle.std.proofs.lemmas.List.Sorted.{answers_always}
use Rattle.one_rule.proofs.Lines.{absent_from_search, value_at, value_none}
use Rattle.one_rule.proofs.stimulus.line.value_by.Goals as goal

pub returns-in-Ok : goal.returns-in-Ok
returns-in-Ok c =
    let found = c.in-Ok.ensures.position (λ a. a.0) (answers_always _ _ _ (λ f a r g called. search rules)) c.index-line-at.result in
    value_at c.args.line.now c.args.input c.args.width c.in-Ok.at _ c.requires.line c.in-Ok.ensures.bound (ranked _ _ _ (sym found))

pub returns-in-Err : goal.returns-in-Err
returns-in-Err c =
    let parted = c.in-Err.ensures.position (λ a. a.0) (answers_always _ _ _ (λ f a r g called. search rules)) in
    c.zero.ensures ∙ sym (value_none c.args.line.now c.args.input c.args.width (absent_from_search c.args.line.now c.args.input c.in-Err.field-0 c.requires.line parted))
