-- Operands that are bound round a body.
use Rattle.std.proofs.Common.{◌≡◌, ℕ, zero, suc, ◌+◌, ◌-◌, ◌*◌, ◌≤◌, length, arith, slice_index_or, List, [], ◌∷◌, ◌++◌, Result, Ok, Err, IfOk, refl, ap, sym, subst, ◌∙◌}
use Rattle.std.proofs.lemmas.List.{map-append}
use Rattle.kw_bits.specs.BitVector.{BitVector}
use Rattle.kw_bits.specs.Operators as op
use Rattle.kw_bits.specs.declared.memory.NoMemory.{NoMemory}
use Rattle.typed_core.specs.Evaluation.{Evaluation, ◌>>=◌, comes_to, evaluate, unit}
use Rattle.typed_core.specs.Valid.{Declarations}
use Rattle.typed_core.specs.declared.action.Action.{Action}
use Rattle.typed_core.specs.declared.outcome.Stopped.{Stopped}
use Rattle.typed_core.specs.declared.action.Action.TheVariants as action
use Rattle.typed_core.specs.declared.action.TwoOp.TheVariants.{Concat}
use Rattle.koika_lower.specs.inner.Actions.{ComesTo, IsLet, IsTwo}
use Rattle.koika_lower.specs.inner.Applied.{IsArray, IsBound, LetsTyped, StackFits, lets, names_stacked, values_of}
use Rattle.koika_lower.specs.declared.lowered.Lowered.{Lowered}

-- what follows from what a call ensures of its answer
pub on_ok : {X : Type 0} {P Q : X → Type 0} (r : Result X NoMemory) → ((x : X) → P x → Q x) → IfOk r P → IfOk r Q
on_ok (Ok x) h p = h x p
on_ok (Err e) h p = p

-- one more at the end
lets-push : (vs : List (List BitVector → Evaluation BitVector Stopped)) (v body : List BitVector → Evaluation BitVector Stopped) (locals : List BitVector) →
    lets (vs ++ v ∷ []) body locals ≡ lets vs (λ ls. v ls >>= λ x. body (x ∷ ls)) locals
lets-push [] v body locals = refl
lets-push (u ∷ vs) v body locals = λ i. u locals >>= λ x. lets-push vs v body (x ∷ locals) i

typed-push : (ds : Declarations) (init : List Lowered) (last : Lowered) (body b : Action) (widths : List ℕ) (width : ℕ) → IsLet last.action body b →
    LetsTyped ds (init ++ last ∷ []) body widths width → LetsTyped ds init b widths width
typed-push ds [] last body b widths width is h = is.typed ds widths last.width width h.0 h.1 h.2
typed-push ds (l ∷ init) last body b widths width is h = (h.0, h.1, typed-push ds init last body b (l.width ∷ widths) width is h.2)

pub bound-push : (operands init : List Lowered) (last : Lowered) (body b a : Action) → operands ≡ init ++ last ∷ [] → IsLet last.action body b → IsBound init b a → IsBound operands body a
bound-push operands init last body b a e is h = record {
  means = λ env ports locals.
      h.means env ports locals ∙
      (λ i. lets (values_of env ports init) (λ ls. is.means env ports ls i) locals) ∙
      sym (lets-push (values_of env ports init) (evaluate env ports last.action) (evaluate env ports body) locals) ∙
      ap (λ vs. lets vs (evaluate env ports body) locals) (sym (map-append (λ (l : Lowered). evaluate env ports l.action) init (last ∷ [])) ∙ ap (values_of env ports) (sym e));
  typed = λ ds widths width t. h.typed ds widths width (typed-push ds init last body b widths width is (subst (λ ls. LetsTyped ds ls body widths width) e t));
}

-- one more name
names-next : (name : ℕ) (locals : List BitVector) → 1 ≤ name → op.concat (names_stacked (name - 1) locals) (slice_index_or locals name unit) ≡ names_stacked (name + 1 - 1) locals
names-next zero locals some = absurd (omega arith)
names-next (suc m) locals some =
    let low : suc m - 1 ≡ m = omega arith in
    let high : suc m ≡ suc m + 1 - 1 = omega arith in
    ap (λ n. op.concat (names_stacked n locals) (slice_index_or locals (suc m) unit)) low ∙ ap (λ n. names_stacked n locals) high

pub stacked-next : (name : ℕ) (before a : Action) → 1 ≤ name → ComesTo before (λ env ports locals. comes_to (names_stacked (name - 1) locals)) → IsTwo Concat before (action.Local name) a →
    ComesTo a (λ env ports locals. comes_to (names_stacked (name + 1 - 1) locals))
stacked-next name before a some h is env ports locals =
    is.means env ports locals ∙
    (λ i. h env ports locals i >>= λ x. comes_to (slice_index_or locals name unit) >>= λ y. comes_to (op.concat x y)) ∙
    ap comes_to (names-next name locals some)

pub stacked-typed : (name : ℕ) (before a : Action) → 1 ≤ name → StackFits name before → IsTwo Concat before (action.Local name) a → StackFits (name + 1) a
stacked-typed name before a some h is d width widths one few each =
    let p : (name + 1) * width ≡ name * width + width = omega arith in
    let low : 1 ≤ name * width = mul-le-mul name width some one in
    is.typed d widths (name * width) width ((name + 1) * width) (h d width widths one (omega arith) (λ i below. each i (omega arith))) (each name (omega arith)) low one (omega arith, p)
  where
    mul-le-mul : (a b : ℕ) → 1 ≤ a → 1 ≤ b → 1 ≤ a * b
    mul-le-mul a b ha hb = grind arith

pub array-is : (items : List Lowered) (body action : Action) (n width : ℕ) → (length items ≤ 128 → n ≡ length items) → (1 ≤ n → ComesTo body (λ env ports locals. comes_to (names_stacked (n - 1) locals))) →
    (1 ≤ n → StackFits n body) → IsBound items body action →
    ((first : Lowered) (rest : List Lowered) → items ≡ first ∷ rest → length items ≤ 128 → length items * first.width ≤ 128 → width ≡ length items * first.width) →
    IsArray items (record { action = action; width = width })
array-is items body action n width e means typed bound wide = record {
  body = body;
  bound = bound;
  means = λ some few. subst (λ k. ComesTo body (λ env ports locals. comes_to (names_stacked (k - 1) locals))) (e few) (means (subst (λ k. 1 ≤ k) (sym (e few)) some));
  typed = λ some few. subst (λ k. StackFits k body) (e few) (typed (subst (λ k. 1 ≤ k) (sym (e few)) some));
  width = wide;
}
