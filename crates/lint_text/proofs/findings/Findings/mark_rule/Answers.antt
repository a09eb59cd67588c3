use Rattle.std.proofs.Common.{◌≡◌, ◌∙◌, ℕ, Bool, true, List, ap, sym, arith}
use Rattle.std.specs.Prelude.{◌&&◌, ◌||◌}
use Rattle.std.specs.List.{list_any}
use Rattle.lab_lint.specs.Occurrences.{rule_part}
use Rattle.lab_lint.specs.Order.{is_scheduled}
use Rattle.lab_lint.specs.declared.occurrence.Occurrence.{Occurrence}
use Rattle.lint_text.specs.Findings.{is_set}
use Rattle.lint_text.specs.Notes.{is_of}
use Rattle.lint_text.proofs.Found.{as_many, occurrences-at}
use Rattle.lint_text.proofs.findings.Findings.mark_rule.Goals as goal

pub get-requires : goal.get-requires
get-requires c =
    let d = c.args.design.now in
    omega (arith, c.requires.rule, as_many (λ (r : ℕ). (rule_part d r).all) d.rules c.args.self.now.occurrences c.requires.found.occurrences)

pub returns-then-is_scheduled-clause-marks : goal.returns-then-is_scheduled-clause-marks
returns-then-is_scheduled-clause-marks c number within =
    let d = c.args.design.now in
    let rule = c.args.rule in
    let before = is_set c.args.marks.now number in
    let scheduled : is_scheduled d.nodes rule ≡ true = sym c.is_scheduled.ensures ∙ c.if-is_scheduled.true in
    c.mark_all.ensures.marks number within
    ∙ ap (λ (all : List Occurrence). before || list_any (is_of c.args.of number) all)
    (c.as_slice.ensures ∙ c.get.ensures ∙ occurrences-at d c.args.self.now c.requires.found rule _ c.requires.rule)
    ∙ ap (λ (b : Bool). before || (b && list_any (is_of c.args.of number) (rule_part d rule).all)) (sym scheduled)
