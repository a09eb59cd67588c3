use Rattle.std.proofs.Common.{◌≡◌, ℕ, false, All, IsSome, List, map, ap, subst, sym, ◌∙◌}
use Rattle.kw_bits.specs.BitVector.{BitVector}
use Rattle.btor2_model.specs.Rules.{is_state}
use Rattle.btor2_model.specs.Run.{Values, first_state_values, flag_ids, ids_of, width_in}
use Rattle.btor2_model.specs.inner.SlowRun.{Knows, known_value}
use Rattle.btor2_model.proofs.Evaluation.{if_some-at}
use Rattle.btor2_model.proofs.Lasting.{all-some}
use Rattle.btor2_model.proofs.Selections.{rows-alike}
use Rattle.btor2_model.proofs.rows.first_row.Goals as goal

pub returns-clause-row : goal.returns-clause-row
returns-clause-row c =
    let lines = c.args.lines.now in
    let found = if_some-at (λ (found : List BitVector). (all : Values) → Knows c.args.states.now all → found ≡ map all c.deref.result.now) c.in_ok-regs.field-0 c.in-Some.regs c.in_ok-regs.ensures.values c.in-Some.is in
    rows-alike c.regs.inside.items.items (map (first_state_values lines) (ids_of is_state lines)) c.from_vec.result (map (λ (_ : ℕ). false) (flag_ids lines))
    (c.regs.view_is ∙ found (first_state_values lines) c.requires.states ∙ ap (map (first_state_values lines)) (c.deref.ensures.value ∙ c.in_ok-state_ids.ensures))
    (c.from_vec.ensures ∙ c.in_ok-no_flags.ensures ∙ ap (map (λ (_ : ℕ). false)) (c.as_slice.ensures.value ∙ c.in_ok-ids.ensures))

pub returns-in_default-clause-some : goal.returns-in_default-clause-some
returns-in_default-clause-some c = λ have.
    let lines = c.args.lines.now in
    let ids = ids_of is_state lines in
    subst IsSome c.in_default.is
    (c.in_ok-regs.ensures.some (subst (All (λ (id : ℕ). IsSome (known_value c.args.states.now id))) (sym (c.deref.ensures.value ∙ c.in_ok-state_ids.ensures)) (all-some c.args.states.now (width_in lines) ids have)))
