use Rattle.std.proofs.Common.{ℕ, List, sym, subst, ap₂, ◌∙◌}
use Rattle.circuit_eval.specs.Circuits.{state_widths}
use Rattle.circuit_eval.specs.Programs.{AreKept, kept_from}
use Rattle.circuit_eval.proofs.Kept.{first_are_kept, first_kept}
use Rattle.circuit_eval.proofs.state_words.StateWords.first.Goals as goal

pub invariant_of-result : goal.invariant_of-result
invariant_of-result c =
    let wides = c.in_ok-first_wides.field-0.items in
    subst (λ (ws : List ℕ). AreKept ws c.in_ok-first_words.field-0.items wides) (sym c.in_ok-widths_of.ensures)
    (subst (λ (words : List ℕ). AreKept (state_widths c.args.wires.now) words wides) (sym c.in_ok-first_words.ensures) (first_are_kept c.args.wires.now wides c.requires c.in_ok-first_wides.ensures))

pub returns : goal.returns
returns c =
    let wides = c.in_ok-first_wides.field-0.items in
    ap₂ (λ (ws words : List ℕ). kept_from ws words wides 0) c.in_ok-widths_of.ensures c.in_ok-first_words.ensures ∙ first_kept c.args.wires.now wides c.requires c.in_ok-first_wides.ensures
