-- Conditions with bodies, one more at the end.
use Rattle.std.proofs.Common.{◌≡◌, List, [], ◌∷◌, ◌++◌, length, arith, refl, ap, sym, subst, ◌∙◌}
use Rattle.std.specs.List.{AllByRecursion}
use Rattle.std.proofs.lemmas.List.{length-append, length-map, map-append}
use Rattle.kw_bits.specs.BitVector.{BitVector}
use Rattle.typed_core.specs.Evaluation.{Evaluation, ◌>>=◌, choose, evaluate}
use Rattle.typed_core.specs.Valid.{ActionHasWidth}
use Rattle.typed_core.specs.declared.action.Action.{Action}
use Rattle.typed_core.specs.declared.outcome.Stopped.{Stopped}
use Rattle.koika_lower.specs.inner.Actions.{IsIf}
use Rattle.koika_lower.specs.inner.Applied.{IsChosen, arms_part, values_of}
use Rattle.koika_lower.specs.declared.lowered.Lowered.{Lowered}

-- of one more at the end
pub each-end : {X : Type 0} (P : X → Type 0) (xs : List X) (x : X) → AllByRecursion P (xs ++ x ∷ []) → AllByRecursion P xs × P x
each-end P [] x h = (tt, h.0)
each-end P (y ∷ xs) x h = let rest = each-end P xs x h.1 in ((h.0, rest.0), rest.1)

-- one more condition with its body
arms-push : (cs bs : List (List BitVector → Evaluation BitVector Stopped)) (c b behind : List BitVector → Evaluation BitVector Stopped) (locals : List BitVector) → length cs ≡ length bs →
    arms_part (cs ++ c ∷ []) (bs ++ b ∷ []) behind locals ≡ arms_part cs bs (λ ls. c ls >>= λ x. choose x (b ls) (behind ls)) locals
arms-push [] [] c b behind locals e = refl
arms-push [] (u ∷ bs) c b behind locals e = absurd (omega arith)
arms-push (p ∷ cs) [] c b behind locals e = absurd (omega arith)
arms-push (p ∷ cs) (u ∷ bs) c b behind locals e = λ i. p locals >>= λ x. choose x (u locals) (arms-push cs bs c b behind locals (omega arith) i)

-- no condition
pub chosen-none : (conditions bodies : List Lowered) (behind : Lowered) → conditions ≡ [] → IsChosen conditions bodies behind behind
chosen-none conditions bodies behind e = record {
  means = λ count env ports locals. λ i. arms_part (values_of env ports (sym e i)) (values_of env ports bodies) (evaluate env ports behind.action) locals;
  typed = λ count width each at. (at, λ d widths cs bs last. last);
}

pub chosen-push : (conditions bodies cinit binit : List Lowered) (condition body behind l : Lowered) (a : Action) → conditions ≡ cinit ++ condition ∷ [] → bodies ≡ binit ++ body ∷ [] →
    IsIf condition.action body.action behind.action a → IsChosen cinit binit (record { action = a; width = body.width }) l → IsChosen conditions bodies behind l
chosen-push conditions bodies cinit binit condition body behind l a ec eb is h =
    let count_of = λ (count : length conditions ≡ length bodies).
    let few : length cinit ≡ length binit =
    omega (arith, count, ap length ec, ap length eb, length-append cinit (condition ∷ []), length-append binit (body ∷ [])) in few in
    record {
      means = λ count env ports locals.
          h.means (count_of count) env ports locals ∙
          (λ i. arms_part (values_of env ports cinit) (values_of env ports binit) (λ ls. is.means env ports ls i) locals) ∙
          sym (arms-push (values_of env ports cinit) (values_of env ports binit) (evaluate env ports condition.action) (evaluate env ports body.action) (evaluate env ports behind.action) locals
          (omega (arith, length-map cinit (λ (l : Lowered). evaluate env ports l.action), length-map binit (λ (l : Lowered). evaluate env ports l.action), count_of count))) ∙
          (λ i. arms_part (sym (map-append (λ (l : Lowered). evaluate env ports l.action) cinit (condition ∷ [])) i) (sym (map-append (λ (l : Lowered). evaluate env ports l.action) binit (body ∷ [])) i)
          (evaluate env ports behind.action) locals) ∙
          (λ i. arms_part (values_of env ports (sym ec i)) (values_of env ports (sym eb i)) (evaluate env ports behind.action) locals);
      typed = λ count width each at.
          let bodies_wide = each-end (λ (b : Lowered). b.width ≡ width) binit body (subst (λ bs. AllByRecursion (λ (b : Lowered). b.width ≡ width) bs) eb each) in
          let rest = h.typed (count_of count) width bodies_wide.0 bodies_wide.1 in (
            rest.0,
            λ d widths cs bs last.
                let c = each-end (λ (c : Lowered). ActionHasWidth d c.action widths 1) cinit condition (subst (λ xs. AllByRecursion (λ (c : Lowered). ActionHasWidth d c.action widths 1) xs) ec cs) in
                let b = each-end (λ (b : Lowered). ActionHasWidth d b.action widths width) binit body (subst (λ xs. AllByRecursion (λ (b : Lowered). ActionHasWidth d b.action widths width) xs) eb bs) in
                rest.1 d widths c.0 b.0 (is.typed d widths width c.1 b.1 last),
          );
    }
