use Rattle.std.proofs.Common.{rules, ◌≡◌, ℕ, true, List, Option, is_none, ap, sym, ◌∙◌}
use Rattle.btor2_text.specs.declared.line.Argument.{Argument}
use Rattle.btor2_model.specs.Scope.{id_at}
use Rattle.btor2_model.specs.Table.{value_in}
use Rattle.btor2_net.proofs.FirstSettings.{no-value, set-at}
use Rattle.btor2_net.proofs.settings.set_first.Goals as goal

pub returns-in_ok-insert : goal.returns-in_ok-insert
returns-in_ok-insert c = λ state.
    let old = value_in c.args.values.now in
    let given = c.as_slice-given.ensures in
    let absent : is_none (old c.id_at-state.result) ≡ true = search rules in
    set-at c.args.form c.args.line.now old c.id_at-state.result c.id_at.result state (c.id_at-state.ensures ∙ ap (λ (args : List Argument). id_at args 1) given) (c.id_at.ensures ∙ ap (λ (args : List Argument). id_at args 2) given)
    (sym c.is_of.ensures ∙ c.if-is_of.true) (no-value (old c.id_at-state.result) absent) (ap (λ (f : ℕ → Option ℕ). f state) c.in_ok-insert.ensures.ok)
