-- The operands of a chain, as far as they were looked at.
use Rattle.std.proofs.Common.{◌≡◌, ℕ, ◌+◌, ◌<◌, List, [], ◌∷◌, ◌++◌, length, map, take, get_or, Option, Some, Ok, Err, refl, ap, ap₂, sym, ◌∙◌, subst}
use Rattle.std.proofs.lemmas.List.{map-append}
use Rattle.koika_syntax.specs.declared.operator.BinaryOperator.{BinaryOperator}
use Rattle.koika_syntax.specs.declared.tree.Operand.{Operand, out-Operand}
use Rattle.koika_check.specs.inner.Checking.{IsChecker, IsPart, IsTyping, Yields, arrays_of, scope_of, typing_of}
use Rattle.koika_check.specs.Constructs.{Joined, chained, join}
use Rattle.koika_check.specs.Constructs as constructs
use Rattle.koika_check.specs.Expressions.{chain_in, join_in}
use Rattle.koika_check.specs.inner.Expressions.{expression_in, operand_in}
use Rattle.koika_check.specs.Operators.{operated}
use Rattle.koika_check.specs.Outcomes.{Gives, CheckResult, ◌>>=◌, one_by_one}
use Rattle.koika_check.specs.inner.Outcomes.{Ends, Stop, Tells}
use Rattle.koika_check.specs.Scopes.{Scope}
use Rattle.koika_check.specs.inner.Shapes.{Denotes, part_of, type_if}
use Rattle.koika_check.specs.inner.TypedParts.{Chained, In, IsChained}
use Rattle.koika_check.specs.Types.{TypedPart as TypedPart, part, width_if}
use Rattle.koika_check.specs.declared.checker.Checker.{Checker}
use Rattle.koika_check.specs.declared.checker.Typing.{Typing}
use Rattle.koika_check.specs.declared.shapes.Shape.{Shape}
use Rattle.koika_check.specs.declared.typed.Operation.TheVariants as operation
use Rattle.koika_check.specs.declared.typed.Typed.{Typed}
use Rattle.koika_check.specs.declared.typed.Typed.TheVariants as made
use Rattle.koika_check.specs.declared.typed.ValueType.{ValueType}
use Rattle.koika_check.proofs.BlockParts.{chain-parts}
use Rattle.koika_check.proofs.Growth.{grows-refl, grows-trans, part-grows, same-part}
use Rattle.koika_check.proofs.OperatorTypes.{operated-type}
use Rattle.koika_check.proofs.Turns.{ends-behind, ends-bind, ends-same, ends-tells, one-ends, one-push}

-- one operand more in a scope
abbrev pub joining : Scope → Operand → Joined → CheckResult Joined
joining s o = join_in s (record { operator = (out-Operand o).operator; operand = expression_in (out-Operand o).operand })

-- the first operand alone
abbrev pub started : constructs.Typing → Joined
started first = record { left = first.part; operators = []; operands = first ∷ [] }

abbrev pub first-alone : Typing → Chained
first-alone y = record { left = y.part; operators = []; operands = y.typed ∷ [] }

-- what an operator makes of the operands so far and its right one
abbrev pub and-joined : Chained → BinaryOperator → Shape → Typed → Chained
and-joined y o of t = record { left = record { of = Some of; place = y.left.place }; operators = y.operators ++ o ∷ []; operands = y.operands ++ t ∷ [] }

pub chain-start : (c : Checker) → IsChecker c → (y : Typing) → IsPart c y.part → Yields (In IsChained (scope_of c)) c (one_by_one (joining (scope_of c)) [] (started (typing_of c y))) c (first-alone y)
chain-start c h y part = record {
  kept = h;
  grows = grows-refl c;
  value = started (typing_of c y);
  gives = refl;
  means = record { scope_is = refl; means = record { left = refl; type = part; operators = refl; operands = refl } };
}

pub chain-more : (old mid new : Checker) (start : Joined) (rest : List Operand) (i : ℕ) (x : Operand) (y : Chained) (k : Typing) (of : Shape) → i < length rest → x ≡ get_or rest i x →
    Yields (In IsChained (scope_of old)) old (one_by_one (joining (scope_of old)) (take i rest) start) mid y → Yields (IsTyping (scope_of mid)) mid (expression_in (out-Operand x).operand (scope_of mid)) new k →
    Tells (Denotes (arrays_of new)) (operated (out-Operand x).operator (part_of (arrays_of new) y.left) (part_of (arrays_of new) k.part)) (Ok of) →
    Yields (In IsChained (scope_of old)) old (one_by_one (joining (scope_of old)) (take (i + 1) rest) start) new (and-joined y (out-Operand x).operator of k.typed)
chain-more old mid new start rest i x y k of lt is h now tells =
    let S = scope_of old in
    let o = (out-Operand x).operator in
    let before = h.value in
    let left-type = part-grows mid new now.grows y.left h.means.means.type in
    let left : before.left ≡ part_of (arrays_of new) y.left = h.means.means.left ∙ sym (same-part mid new now.grows y.left h.means.means.type) in
    let known = operated-type new o y.left k.part of left-type tells in
    let next = λ (t : Option ValueType). let j : Joined = record { left = part t before.left.place; operators = before.operators ++ o ∷ []; operands = before.operands ++ now.value ∷ [] } in j in
    record {
      kept = now.kept;
      grows = grows-trans old mid new h.grows now.grows;
      value = next (type_if (arrays_of new) (Some of));
      gives =
          one-push (joining S) rest i x start before lt is h.gives
          ∙ ap (λ p. p >>= λ right. join o right before) (ap (expression_in (out-Operand x).operand) (sym h.means.scope_is) ∙ now.gives)
          ∙ ap (λ p. p >>= λ t. Gives (next t)) (ap₂ (operated o) left now.means.part ∙ known.0);
      means = record {
        scope_is = now.means.scope_is ∙ h.means.scope_is;
        means = record {
          left = ap (λ (p : TypedPart). part (type_if (arrays_of new) (Some of)) p.place) h.means.means.left;
          type = known.1;
          operators = ap (λ (os : List BinaryOperator). os ++ o ∷ []) h.means.means.operators;
          operands = map-append (λ (z : constructs.Typing). z.typed) before.operands (now.value ∷ []) ∙ ap₂ (λ (ts : List Typed) (t : Typed). ts ++ t ∷ []) h.means.means.operands now.means.typed;
        };
      };
    }

-- an operand that ends, and an operator between operands that don't agree
pub chain-ends : (old mid : Checker) (start : Joined) (rest : List Operand) (i : ℕ) (x : Operand) (y : Chained) (e : Stop) → i < length rest → x ≡ get_or rest i x →
    Yields (In IsChained (scope_of old)) old (one_by_one (joining (scope_of old)) (take i rest) start) mid y → Ends (expression_in (out-Operand x).operand (scope_of mid)) e →
    Ends (one_by_one (joining (scope_of old)) rest start) e
chain-ends old mid start rest i x y e lt is h k =
    let S = scope_of old in
    one-ends (joining S) rest i x start h.value e lt is h.gives
    (ends-bind (expression_in (out-Operand x).operand S) (λ right. join (out-Operand x).operator right h.value) e
    (ends-same (expression_in (out-Operand x).operand S) (expression_in (out-Operand x).operand (scope_of mid)) e (ap (expression_in (out-Operand x).operand) (sym h.means.scope_is)) k))

pub chain-ends-joined : (old mid new : Checker) (start : Joined) (rest : List Operand) (i : ℕ) (x : Operand) (y : Chained) (k : Typing) (e : Stop) → i < length rest → x ≡ get_or rest i x →
    Yields (In IsChained (scope_of old)) old (one_by_one (joining (scope_of old)) (take i rest) start) mid y → Yields (IsTyping (scope_of mid)) mid (expression_in (out-Operand x).operand (scope_of mid)) new k →
    Tells (Denotes (arrays_of new)) (operated (out-Operand x).operator (part_of (arrays_of new) y.left) (part_of (arrays_of new) k.part)) (Err e) →
    Ends (one_by_one (joining (scope_of old)) rest start) e
chain-ends-joined old mid new start rest i x y k e lt is h now tells =
    let S = scope_of old in
    let o = (out-Operand x).operator in
    let left : h.value.left ≡ part_of (arrays_of new) y.left = h.means.means.left ∙ sym (same-part mid new now.grows y.left h.means.means.type) in
    one-ends (joining S) rest i x start h.value e lt is h.gives
    (ends-behind (expression_in (out-Operand x).operand S) (λ right. join o right h.value) now.value e (ap (expression_in (out-Operand x).operand) (sym h.means.scope_is) ∙ now.gives)
    (ends-bind (operated o h.value.left now.value.part) _ e
    (ends-same (operated o h.value.left now.value.part) (operated o (part_of (arrays_of new) y.left) (part_of (arrays_of new) k.part)) e (ap₂ (operated o) left now.means.part) (ends-tells (Denotes (arrays_of new)) _ e tells))))

-- the whole chain
pub chain-is : (s : Scope) (rest : List Operand) (first : constructs.Typing) → chain_in s (map operand_in rest) first ≡ (one_by_one (joining s) rest (started first) >>= λ all. Gives (chained (width_if s.design first.part.of) all))
chain-is s rest first = ap (λ o. o >>= λ all. Gives (chained (width_if s.design first.part.of) all)) (chain-parts s rest (started first))

pub chain-gives : (old new : Checker) (rest : List Operand) (first : constructs.Typing) (width : ℕ) (y : Chained) (z : Typing) → Yields (In IsChained (scope_of old)) old (one_by_one (joining (scope_of old)) rest (started first)) new y → width ≡ width_if old.design first.part.of →
    z ≡ record { part = record { of = y.left.of; place = y.left.place }; typed = made.Apply (operation.Chain y.operators width) y.operands } → Yields (IsTyping (scope_of old)) old (chain_in (scope_of old) (map operand_in rest) first) new z
chain-gives old new rest first width y z h wide is = record {
  kept = h.kept;
  grows = h.grows;
  value = chained (width_if old.design first.part.of) h.value;
  gives = chain-is (scope_of old) rest first ∙ ap (λ o. o >>= λ all. Gives (chained (width_if old.design first.part.of) all)) h.gives;
  means = subst (λ w. IsTyping (scope_of old) new w (chained (width_if old.design first.part.of) h.value)) (sym is)
      (record { scope_is = h.means.scope_is; part = h.means.means.left; type = h.means.means.type; typed = (λ i. made.Apply (operation.Chain (h.means.means.operators i) (sym wide i)) (h.means.means.operands i)) });
}

pub chain-stops : (s : Scope) (rest : List Operand) (first : constructs.Typing) (e : Stop) → Ends (one_by_one (joining s) rest (started first)) e → Ends (chain_in s (map operand_in rest) first) e
chain-stops s rest first e h = ends-same _ _ e (chain-is s rest first) (ends-bind (one_by_one (joining s) rest (started first)) (λ all. Gives (chained (width_if s.design first.part.of) all)) e h)
