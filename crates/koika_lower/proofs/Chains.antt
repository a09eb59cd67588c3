-- Chains of operators, one more at the end.
use Rattle.std.proofs.Common.{◌≡◌, ℕ, suc, zero, ◌-◌, ◌≤◌, replicate, List, [], ◌∷◌, ◌++◌, length, arith, refl, ap, sym, subst, ◌∙◌}
use Rattle.std.specs.List.{AllByRecursion}
use Rattle.std.proofs.lemmas.List.{length-append, length-map, map-append}
use Rattle.kw_bits.specs.BitVector.{BitVector}
use Rattle.koika_syntax.specs.declared.operator.BinaryOperator.{BinaryOperator}
use Rattle.koika_syntax.specs.declared.operator.BinaryOperator.TheVariants.{Concat}
use Rattle.typed_core.specs.Evaluation.{Evaluation, ◌>>=◌, comes_to, evaluate}
use Rattle.typed_core.specs.Valid.{ActionHasWidth, Declarations, TwoHasWidth}
use Rattle.typed_core.specs.declared.outcome.Stopped.{Stopped}
use Rattle.koika_check.specs.Meaning.{binary_value}
use Rattle.koika_check.specs.Types.{width_of}
use Rattle.koika_check.specs.Typing.{Chains, IsType, Operates, Pairwise}
use Rattle.koika_check.specs.declared.checked.Checked.{Checked}
use Rattle.koika_check.specs.declared.typed.ValueType.{ValueType}
use Rattle.koika_lower.specs.inner.Applied.{AreOperands, IsChain, behind, chain_part, values_of}
use Rattle.koika_lower.specs.inner.Forms.{FormFits, IsFormed, form_value}
use Rattle.koika_lower.specs.declared.forms.Form.{Form}
use Rattle.koika_lower.specs.declared.lowered.Lowered.{Lowered}
use Rattle.koika_lower.proofs.Choices.{each-end}
use Rattle.koika_lower.proofs.Orders.{bind-assoc, bind-nothing}
use Rattle.koika_lower.proofs.Widths.{two-valid}

pub Pairwise-push : {X Y : Type 0} (is : X → Y → Type 0) (xs : List X) (x : X) (ys : List Y) (y : Y) → Pairwise is (xs ++ x ∷ []) (ys ++ y ∷ []) → Pairwise is xs ys × is x y
Pairwise-push is [] x [] y h = (tt, h.0)
Pairwise-push is [] x (z ∷ []) y h = absurd h.1
Pairwise-push is [] x (z ∷ w ∷ ys) y h = absurd h.1
Pairwise-push is (u ∷ []) x [] y h = absurd h.1
Pairwise-push is (u ∷ v ∷ xs) x [] y h = absurd h.1
Pairwise-push is (u ∷ xs) x (z ∷ ys) y h = let rest = Pairwise-push is xs x ys y h.1 in ((h.0, rest.0), rest.1)

module _ (o : BinaryOperator) (v : List BitVector → Evaluation BitVector Stopped) (locals : List BitVector) where
  behind-push : (os : List BinaryOperator) (vs : List (List BitVector → Evaluation BitVector Stopped)) (x : BitVector) → length os ≡ length vs →
      behind (os ++ o ∷ []) (vs ++ v ∷ []) x locals ≡ (behind os vs x locals >>= λ w. v locals >>= λ y. comes_to (binary_value o w y))
  behind-push [] [] x e = refl
  behind-push [] (u ∷ vs) x e = absurd (omega arith)
  behind-push (p ∷ os) [] x e = absurd (omega arith)
  behind-push (p ∷ os) (u ∷ vs) x e =
      (λ i. u locals >>= λ y. behind-push os vs (binary_value p x y) (omega arith) i) ∙
      (λ i events. sym (bind-assoc (u locals) (λ y. behind os vs (binary_value p x y) locals) (λ w. v locals >>= λ y. comes_to (binary_value o w y)) events) i)

  chain-push : (os : List BinaryOperator) (vs : List (List BitVector → Evaluation BitVector Stopped)) → length vs ≡ suc (length os) →
      chain_part (os ++ o ∷ []) (vs ++ v ∷ []) locals ≡ (chain_part os vs locals >>= λ w. v locals >>= λ y. comes_to (binary_value o w y))
  chain-push os [] e = absurd (omega arith)
  chain-push os (u ∷ vs) e =
      (λ i. u locals >>= λ x. behind-push os vs x (omega arith) i) ∙
      (λ i events. sym (bind-assoc (u locals) (λ x. behind os vs x locals) (λ w. v locals >>= λ y. comes_to (binary_value o w y)) events) i)

-- the types of a chain, one more at the end
pub record ChainsPush (os : List BinaryOperator) (o : BinaryOperator) (t : ValueType) (types : List ValueType) (of : ValueType) : Type 0 where
  pub init : List ValueType
  pub last : ValueType
  pub mid : ValueType
  pub are : types ≡ init ++ last ∷ []
  pub chains : Chains os t init mid
  pub operates : Operates o mid last of

pub chains-push : (os : List BinaryOperator) (o : BinaryOperator) (t : ValueType) (types : List ValueType) (of : ValueType) → Chains (os ++ o ∷ []) t types of → ChainsPush os o t types of
chains-push [] o t [] of h = absurd h
chains-push [] o t (u ∷ []) of h = record {
  init = [];
  last = u;
  mid = t;
  are = refl;
  chains = refl;
  operates = subst (λ (x : ValueType). Operates o t u x) (sym h.2) h.1;
}
chains-push [] o t (u ∷ w ∷ types) of h = absurd h.2
chains-push (p ∷ os) o t [] of h = absurd h
chains-push (p ∷ os) o t (u ∷ types) of h =
    let rest = chains-push os o h.0 types of h.2 in
    record { init = u ∷ rest.init; last = rest.last; mid = rest.mid; are = ap (λ (ts : List ValueType). u ∷ ts) rest.are; chains = (h.0, h.1, rest.chains); operates = rest.operates }

pub chain-more : (operators before : List BinaryOperator) (o : BinaryOperator) (operands init : List Lowered) (form : Form) (left right l : Lowered) →
    operators ≡ before ++ o ∷ [] → operands ≡ init ++ right ∷ [] → ((x y : BitVector) → form_value form x y ≡ binary_value o x y) → FormFits (Operates o) form →
    IsChain before init left → IsFormed form left right l → IsChain operators operands l
chain-more operators before o operands init form left right l eo ei value fits h is = record {
  means = λ count env ports locals.
      let few : length init ≡ suc (length before) = omega (arith, count, ap length eo, ap length ei, length-append before (o ∷ []), length-append init (right ∷ [])) in
      let vs = values_of env ports init in
      let v = evaluate env ports right.action in
      is.means env ports locals ∙
      (λ i. h.means few env ports locals i >>= λ x. v locals >>= λ y. comes_to (value x y i)) ∙
      sym (chain-push o v locals before vs (omega (arith, few, length-map init (λ (l : Lowered). evaluate env ports l.action)))) ∙
      (λ i. chain_part (sym eo i) (sym (map-append (λ (l : Lowered). evaluate env ports l.action) init (right ∷ [])) i) locals) ∙
      (λ i. chain_part operators (values_of env ports (sym ei i)) locals);
  typed = λ d t types of are chains.
      let pushed = chains-push before o t types of (subst (λ os. Chains os t types of) eo chains) in
      let both = Pairwise-push (λ (t : ValueType) (l : Lowered). (l.width ≡ width_of d t) × IsType d t) (t ∷ pushed.init) pushed.last init right
      (subst (λ ls. AreOperands d (t ∷ (pushed.init ++ pushed.last ∷ [])) ls) ei (subst (λ ts. AreOperands d (t ∷ ts) operands) pushed.are are)) in
      let before_it = h.typed d t pushed.init pushed.mid both.0 pushed.chains in
      let two = fits d pushed.mid pushed.last of pushed.operates in
      let valid = two-valid form.operator (width_of d pushed.mid) (width_of d pushed.last) (width_of d of) two before_it.1 both.1.1 in
      let at : TwoHasWidth form.operator left.width right.width (width_of d of) =
      subst (λ w. TwoHasWidth form.operator left.width w (width_of d of)) (sym both.1.0)
      (subst (λ w. TwoHasWidth form.operator w (width_of d pushed.last) (width_of d of)) (sym before_it.0) two) in
      let wide : l.width ≡ width_of d of = is.width (width_of d of) at valid.1 in
      let some_left : 1 ≤ left.width = subst (λ w. 1 ≤ w) (sym before_it.0) before_it.1.0 in
      let some_right : 1 ≤ right.width = subst (λ w. 1 ≤ w) (sym both.1.0) both.1.1.0 in (
        wide,
        valid,
        λ ds widths each.
            let all = each-end (λ (o : Lowered). ActionHasWidth ds o.action widths o.width) init right (subst (λ ls. AllByRecursion (λ (o : Lowered). ActionHasWidth ds o.action widths o.width) ls) ei each) in
            subst (λ w. ActionHasWidth ds l.action widths w) (sym wide)
            (is.typed ds widths (width_of d of) (before_it.2 ds widths all.0) all.1 some_left some_right valid.0 at),
      );
}

-- one operand alone
pub chain-one : (operands init : List Lowered) (operators : List BinaryOperator) (last : Lowered) → operators ≡ [] → operands ≡ init ++ last ∷ [] → IsChain operators operands last
chain-one operands [] operators last eo ei = record {
  means = λ count env ports locals.
      (λ i events. sym (bind-nothing (evaluate env ports last.action locals) events) i) ∙
      (λ i. chain_part (sym eo i) (values_of env ports (sym ei i)) locals);
  typed = λ d t types of are chains. one_type d t types of (subst (λ ls. AreOperands d (t ∷ types) ls) ei are) (subst (λ os. Chains os t types of) eo chains);
}
  where
    one_type : (d : Checked) (t : ValueType) (types : List ValueType) (of : ValueType) → AreOperands d (t ∷ types) (last ∷ []) → Chains [] t types of →
        (last.width ≡ width_of d of) × IsType d of × ((ds : Declarations) (widths : List ℕ) → AllByRecursion (λ (o : Lowered). ActionHasWidth ds o.action widths o.width) operands → ActionHasWidth ds last.action widths last.width)
    one_type d t [] of are chains = (
      are.0.0 ∙ ap (width_of d) (sym chains),
      subst (IsType d) (sym chains) are.0.1,
      λ ds widths each. (subst (λ ls. AllByRecursion (λ (o : Lowered). ActionHasWidth ds o.action widths o.width) ls) ei each).0,
    )
    one_type d t (u ∷ types) of are chains = absurd chains
chain-one operands (x ∷ init) operators last eo ei = record {
  means = λ count env ports locals. absurd (omega (arith, count, ap length eo, ap length ei, length-append (x ∷ init) (last ∷ [])));
  typed = λ d t types of are chains. two_types d t types of init (subst (λ ls. AreOperands d (t ∷ types) ls) ei are) (subst (λ os. Chains os t types of) eo chains);
}
  where
    two_types : (d : Checked) (t : ValueType) (types : List ValueType) (of : ValueType) (init : List Lowered) → AreOperands d (t ∷ types) (x ∷ (init ++ last ∷ [])) → Chains [] t types of →
        (last.width ≡ width_of d of) × IsType d of × ((ds : Declarations) (widths : List ℕ) → AllByRecursion (λ (o : Lowered). ActionHasWidth ds o.action widths o.width) operands → ActionHasWidth ds last.action widths last.width)
    two_types d t [] of [] are chains = absurd are.1
    two_types d t [] of (y ∷ init) are chains = absurd are.1
    two_types d t (u ∷ types) of init are chains = absurd chains

-- operands one below the other, one more at the end
replicate-push : {X : Type 0} (n : ℕ) (x : X) → replicate (suc n) x ≡ replicate n x ++ x ∷ []
replicate-push zero x = refl
replicate-push (suc n) x = ap (λ xs. x ∷ xs) (replicate-push n x)

counted : (operands init : List Lowered) (last : Lowered) → operands ≡ init ++ last ∷ [] → (init ≡ [] → ⊥) → length operands - 1 ≡ suc (length init - 1)
counted operands [] last e some = absurd (some refl)
counted operands (x ∷ init) last e some = omega (arith, ap length e, length-append (x ∷ init) (last ∷ []))

pub joined-more : (operands init : List Lowered) (form : Form) (high low l : Lowered) → operands ≡ init ++ low ∷ [] → (init ≡ [] → ⊥) →
    ((x y : BitVector) → form_value form x y ≡ binary_value Concat x y) → FormFits (Operates Concat) form →
    IsChain (replicate (length init - 1) Concat) init high → IsFormed form high low l → IsChain (replicate (length operands - 1) Concat) operands l
joined-more operands init form high low l e some value fits h is =
    chain-more (replicate (length operands - 1) Concat) (replicate (length init - 1) Concat) Concat operands init form high low l
    (ap (λ n. replicate n Concat) (counted operands init low e some) ∙ replicate-push (length init - 1) Concat) e value fits h is
