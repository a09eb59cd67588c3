use Rattle.std.proofs.Common.{◌≡◌, ◌==◌, ℕ, All, IsSome, List, map, ap, subst, sym, ◌∙◌}
use Rattle.std.proofs.lemmas.Simd.{map-map}
use Rattle.kw_bits.specs.BitVector.{BitVector}
use Rattle.btor2_model.specs.Rules.{is_state}
use Rattle.btor2_model.specs.Run.{Values, flag_ids, ids_of, width_in}
use Rattle.btor2_model.specs.inner.SlowRun.{Knows, known_value}
use Rattle.btor2_model.proofs.Evaluation.{if_some-at}
use Rattle.btor2_model.proofs.Lasting.{all-some, flags-have}
use Rattle.btor2_model.proofs.Selections.{rows-alike}
use Rattle.btor2_model.proofs.rows.row_behind.Goals as goal

pub returns-clause-row : goal.returns-clause-row
returns-clause-row c = λ before after values states.
    let lines = c.args.lines.now in
    let one = λ (value : BitVector). value.number == 1 in
    let found = if_some-at (λ (found : List BitVector). (all : Values) → Knows c.args.states.now all → found ≡ map all c.deref.result.now) c.in_ok-regs.field-0 c.in-Some.regs c.in_ok-regs.ensures.values c.in-Some.is in
    let outputs = if_some-at (λ (found : List BitVector). (all : Values) → Knows c.args.values.now all → found ≡ map all c.deref-2.result.now) c.in_ok-outputs.field-0 c.in-Some-2.outputs c.in_ok-outputs.ensures.values c.in-Some-2.is in
    rows-alike c.regs.inside.items.items (map after (ids_of is_state lines)) c.from_vec.result (map (λ (id : ℕ). one (before id)) (flag_ids lines))
    (c.regs.view_is ∙ found after states ∙ ap (map after) (c.deref.ensures.value ∙ c.in_ok-state_ids.ensures))
    (c.from_vec.ensures ∙ c.in_ok-flags.ensures ∙ ap (map one) (c.as_slice.ensures ∙ outputs before values ∙ ap (map before) (c.deref-2.ensures.value ∙ c.in_ok-flag_ids.ensures)) ∙ map-map one before (flag_ids lines))

pub returns-in_default-clause-some : goal.returns-in_default-clause-some
returns-in_default-clause-some c = λ fine forms filled have.
    let lines = c.args.lines.now in
    let ids = ids_of is_state lines in
    subst IsSome c.in_default.is
    (c.in_ok-regs.ensures.some (subst (All (λ (id : ℕ). IsSome (known_value c.args.states.now id))) (sym (c.deref.ensures.value ∙ c.in_ok-state_ids.ensures)) (all-some c.args.states.now (width_in lines) ids have)))

pub returns-in_default-2-clause-some : goal.returns-in_default-2-clause-some
returns-in_default-2-clause-some c = λ fine forms filled have.
    let lines = c.args.lines.now in
    let values = c.args.values.now in
    subst IsSome c.in_default-2.is
    (c.in_ok-outputs.ensures.some (subst (All (λ (id : ℕ). IsSome (known_value values id))) (sym (c.deref-2.ensures.value ∙ c.in_ok-flag_ids.ensures)) (all-some values (width_in lines) (flag_ids lines) (flags-have lines values fine forms filled))))
