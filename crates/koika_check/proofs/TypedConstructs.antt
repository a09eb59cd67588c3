-- What constructs come to is well typed where their parts are.
use Rattle.std.proofs.Common.{◌≡◌, ℕ, ◌+◌, ◌<◌, ◌≤◌, ◌&&◌, nat_le, List, [], ◌∷◌, ◌++◌, length, map, slice_get, Option, Some, None, arith, refl, ap, sym, subst, ◌∙◌}
use Rattle.std.specs.List.{AllByRecursion}
use Rattle.std.specs.Option.{option_map}
use Rattle.std.proofs.lemmas.List.{length-append, length-map}
use Rattle.std.proofs.lemmas.Option.{slice_get-map, same_Some}
use Rattle.std.proofs.lemmas.Bool.{leb-true}
use Rattle.kw_base.specs.declared.fault_number.TheConstants.{UNKNOWN_NAME, WRONG_WIDTH}
use Rattle.koika_syntax.specs.Grammar.{LiteralFits}
use Rattle.koika_syntax.specs.declared.operator.BinaryOperator.{BinaryOperator}
use Rattle.koika_syntax.specs.declared.operator.BinaryOperator.TheVariants as binary
use Rattle.koika_syntax.specs.declared.operator.Extension.{Extension}
use Rattle.koika_syntax.specs.declared.operator.SignedComparison.{SignedComparison}
use Rattle.koika_syntax.specs.declared.tree.Literal.{Literal}
use Rattle.koika_syntax.specs.declared.tree.Name.{Name}
use Rattle.koika_syntax.specs.declared.tree.Number.{Number}
use Rattle.koika_syntax.specs.declared.tree.UpdatedPart.{UpdatedPart as WrittenPart}
use Rattle.koika_syntax.specs.declared.tree.UpdatedPart.TheVariants as parts
use Rattle.koika_syntax.specs.declared.tree.Prefix.{Prefix}
use Rattle.koika_syntax.specs.declared.tree.Suffix.{Suffix}
use Rattle.koika_types.specs.declared.value.Value.TheOpen.{Value-F}
use Rattle.koika_types.specs.declared.value.Value.TheVariants as value
use Rattle.koika_check.specs.Composites.{member}
use Rattle.koika_check.specs.Constructs.{Joined, SelectedPart, Typing, abort_at, applied, chained, comparison, extended, join, literal, member_in, named, packed, types_of_parts, place_of_prefixes, postfix, read_in, replaced, take_part, typed_of, typing, unary, unpacked, updated, written}
use Rattle.koika_check.specs.Operators.{bits_in, calculated, compared, concatenated, equated, operated, width_or_none}
use Rattle.koika_check.specs.Outcomes.{Gives, first, found, holds, one_by_one, wrong}
use Rattle.koika_check.specs.Scopes.{Local, Named, Scope, at, bare, input_by, local_by, local_named, or_else, register, register_type, type_of_register}
use Rattle.koika_check.specs.Selections.{Selected, select}
use Rattle.koika_check.specs.Types.{TypedPart, agrees, as_bits, bits, each, is_bits, is_value, of_base, part, width_if, width_of, wrong_type}
use Rattle.koika_check.specs.Typing.{Applies, Calculates, Chains, Compares, Equates, HasType, IsType, Joins, Operates, Pairwise, Takes, TakesAll}
use Rattle.koika_check.specs.declared.checked.Checked.{Checked}
use Rattle.koika_check.specs.declared.checked.Input.{Input}
use Rattle.koika_check.specs.declared.checked.Register.{Register}
use Rattle.koika_check.specs.declared.typed.BaseType.TheVariants as base
use Rattle.koika_check.specs.declared.typed.Operation.{Operation}
use Rattle.koika_check.specs.declared.typed.Operation.TheVariants as operation
use Rattle.koika_check.specs.declared.typed.Selection.{Selection}
use Rattle.koika_check.specs.declared.typed.BlockStep.TheOpen as opened
use Rattle.koika_check.specs.declared.typed.Typed.TheVariants as typed
use Rattle.koika_check.specs.declared.typed.ValueType.{ValueType}
use Rattle.koika_check.specs.Kinds.{number_named}
use Rattle.koika_check.specs.declared.things.Kind.TheVariants as kind
use Rattle.koika_check.proofs.Answering.{bind-gives, found-some}
use Rattle.koika_check.proofs.CalledTypes.{at-index}
use Rattle.koika_check.proofs.Positions.{number_of-within}
use Rattle.koika_check.proofs.Telling.{holds-true}
use Rattle.koika_check.proofs.TypedParts.{PartsAre, ReplacesOf, agrees-is, both-true, each-none, field-replaced, gives-same, is-bits, is-value, item-replaced, member-known, selected, where-all}
use Rattle.koika_check.proofs.TypedSoFar.{IsGood, base-type, bits-type, types_in}
use Rattle.koika_check.proofs.TypingLayers.{close-HasType, close-IsOf}

-- a part that is well typed where a scope says what names stand for
abbrev pub IsTyped : Scope → Typing → Type 0
IsTyped scope t = HasType scope.design (length scope.design.functions) t.typed (types_in scope) t.part.of

-- ---- operations on parts

-- the operands are of these types, one by one
pub operands-typed : (scope : Scope) (operands : List Typing) (types : List ValueType) → AllByRecursion (IsTyped scope) operands → PartsAre (types_of_parts operands) types →
    Pairwise (λ x t. HasType scope.design (length scope.design.functions) x (types_in scope) (Some t)) (typed_of operands) types
operands-typed scope [] [] h are = tt
operands-typed scope [] (t ∷ types) h are = absurd are
operands-typed scope (x ∷ operands) [] h are = absurd are
operands-typed scope (x ∷ operands) (t ∷ types) h are =
    (subst (HasType scope.design (length scope.design.functions) x.typed (types_in scope)) are.0 h.0, operands-typed scope operands types h.1 are.1)

-- an operation on them
pub applied-typed : (scope : Scope) (of : Option ValueType) (place : ℕ) (o : Operation) (operands : List Typing) (types : List ValueType) → AllByRecursion (IsTyped scope) operands → PartsAre (types_of_parts operands) types →
    Applies scope.design (length scope.design.functions) o types of → IsTyped scope (applied of place o operands)
applied-typed scope of place o operands types h are applies =
    close-HasType scope.design (length scope.design.functions) (typed.Apply o (typed_of operands)) (opened.Apply o (typed_of operands)) (typed.rolls-Apply o (typed_of operands)) (types_in scope) of
    (types, operands-typed scope operands types h are, applies)

-- ---- literals and names

pub literal-typed : (scope : Scope) (l : Literal) → LiteralFits l → IsTyped scope (literal l)
literal-typed scope l h =
    let t = bits l.bits.width in
    close-HasType scope.design (length scope.design.functions) (typed.Constant (value.Number l.bits)) (opened.Constant (value.Number l.bits)) (typed.rolls-Constant (value.Number l.bits)) (types_in scope) (Some t)
    (t, close-IsOf scope.design (value.Number l.bits) (Value-F.Number l.bits) (value.rolls-Number l.bits) t (refl, h), bits-type scope.design l.bits.width (h.some_bit, h.no_wider), refl)

pub member-typed : (scope : Scope) → IsGood scope → (of m : Name) (x : Typing) → member_in scope.design of m ≡ Gives x → IsTyped scope x
member-typed scope good of m x e =
    let it = bind-gives (member scope.design of m) _ x e in
    let v = value.Member it.0.number it.0.bits in
    let t = of_base (base.Enum it.0.number) in
    let known = member-known scope.design good.design of m it.0 it.1 in
    subst (IsTyped scope) (gives-same (typing (Some t) of.place (typed.Constant v)) x it.2)
    (close-HasType scope.design (length scope.design.functions) (typed.Constant v) (opened.Constant v) (typed.rolls-Constant v) (types_in scope) (Some t)
    (t, close-IsOf scope.design v (Value-F.Member it.0.number it.0.bits) (value.rolls-Member it.0.number it.0.bits) t (refl, known.0), base-type scope.design (base.Enum it.0.number) known.1, refl))

-- what a bare name stands for
abbrev IsNamed : Scope → Named → Type 0
IsNamed scope one = HasType scope.design (length scope.design.functions) one.typed (types_in scope) (Some one.of)

input_named_typed : (scope : Scope) (o : Option ℕ) (i : Option Input) (one : Named) → at scope.design.inputs o ≡ i → input_by o i ≡ Some one → IsNamed scope one
input_named_typed scope None i one a e = absurd cc
input_named_typed scope (Some number) None one a e = absurd cc
input_named_typed scope (Some number) (Some i) one a e =
    let it : Named = record { typed = typed.Input number; of = i.of } in
    subst (IsNamed scope) (same_Some it one e)
    (close-HasType scope.design (length scope.design.functions) (typed.Input number) (opened.Input number) (typed.rolls-Input number) (types_in scope) (Some i.of) (i, a, refl))

local_named_typed : (scope : Scope) (o : Option ℕ) (l : Option Local) (other : Option Named) (one : Named) → at scope.locals o ≡ l → (other ≡ Some one → IsNamed scope one) → or_else (local_by o l) other ≡ Some one → IsNamed scope one
local_named_typed scope None l other one a inputs e = inputs e
local_named_typed scope (Some index) None other one a inputs e = inputs e
local_named_typed scope (Some index) (Some l) other one a inputs e =
    let it : Named = record { typed = typed.Local index; of = l.of } in
    subst (IsNamed scope) (same_Some it one e)
    (close-HasType scope.design (length scope.design.functions) (typed.Local index) (opened.Local index) (typed.rolls-Local index) (types_in scope) (Some l.of)
    (l.of, slice_get-map (λ (l : Local). l.of) scope.locals index ∙ ap (option_map (λ (l : Local). l.of)) a, refl))

pub named-typed : (scope : Scope) (n : Name) (x : Typing) → named scope n ≡ Gives x → IsTyped scope x
named-typed scope n x e =
    let one = bind-gives (bare scope n) _ x e in
    let l = local_named scope.locals n.text in
    let i = number_named kind.Input scope.design n.text in
    subst (IsTyped scope) (gives-same (typing (Some one.0.of) n.place one.0.typed) x one.2)
    (local_named_typed scope l (at scope.locals l) (input_by i (at scope.design.inputs i)) one.0 refl (input_named_typed scope i (at scope.design.inputs i) one.0 refl)
    (found-some (or_else (local_by l (at scope.locals l)) (input_by i (at scope.design.inputs i))) (wrong UNKNOWN_NAME n.place) one.0 one.1))

-- ---- registers

pub register-there : (d : Checked) (n : Name) (number : ℕ) → register d n ≡ Gives number → (r : Register) × (slice_get d.registers number ≡ Some r)
register-there d n number e =
    let names = map (λ (r : Register). r.name) d.registers in
    let within = (number_of-within names n.text number (found-some (number_named kind.Register d n.text) (wrong UNKNOWN_NAME n.place) number e)).0 in
    let it = at-index d.registers number (omega (arith, within, length-map d.registers (λ (r : Register). r.name))) in
    (it.0, it.1)

-- a read, a write and the end of a rule
pub read-typed : (scope : Scope) (place port : ℕ) (r : Name) (x : Typing) → port < 4 → read_in scope.design place port r ≡ Gives x → IsTyped scope x
read-typed scope place port r x lt e =
    let number = bind-gives (register scope.design r) _ x e in
    let it = register-there scope.design r number.0 number.1 in
    subst (IsTyped scope) (gives-same (applied (register_type scope.design number.0) place (operation.Read port number.0) []) x number.2)
    (applied-typed scope (register_type scope.design number.0) place (operation.Read port number.0) [] [] tt tt (it.0, lt, it.1, ap type_of_register it.1))

pub written-typed : (scope : Scope) (place port number : ℕ) (r : Name) (new x : Typing) → port < 4 → register scope.design r ≡ Gives number → IsTyped scope new → written scope.design place port number new ≡ Gives x → IsTyped scope x
written-typed scope place port number r new x lt at h e =
    let it = register-there scope.design r number at in
    let whole = applied None place (operation.Write port number) (new ∷ []) in
    let all = where-all (agrees (register_type scope.design number) new.part ∷ []) whole x e in
    subst (IsTyped scope) all.0
    (applied-typed scope None place (operation.Write port number) (new ∷ []) (it.0.of ∷ []) (h, tt) (agrees-is (register_type scope.design number) new.part all.1.0 ∙ ap type_of_register it.1, tt) (it.0, lt, it.1, refl, refl))

pub abort-typed : (scope : Scope) (place : ℕ) → IsTyped scope (abort_at place)
abort-typed scope place = applied-typed scope None place operation.Abort [] [] tt tt refl

-- ---- operators

pub unary-typed : (scope : Scope) (prefixes : List Prefix) (inner x : Typing) → IsTyped scope inner → unary prefixes inner ≡ Gives x → IsTyped scope x
unary-typed scope prefixes inner x h e =
    let o = operation.Unary (map (λ (p : Prefix). p.operator) prefixes) in
    let place = place_of_prefixes prefixes inner.part.place in
    let all = where-all (is_bits inner.part ∷ []) (applied inner.part.of place o (inner ∷ [])) x e in
    let w = is-bits inner.part all.1.0 in
    subst (IsTyped scope) all.0 (applied-typed scope inner.part.of place o (inner ∷ []) (bits w.0 ∷ []) (h, tt) (w.1, tt) (w.0, refl, w.1))

-- an operator between two parts
pub calculated-typed : (left right : TypedPart) (of : Option ValueType) → calculated left right ≡ Gives of →
    (l : ValueType) × (r : ValueType) × (next : ValueType) × (left.of ≡ Some l) × (right.of ≡ Some r) × (of ≡ Some next) × Calculates l r next
calculated-typed left right of e =
    let all = where-all (each is_bits (left ∷ right ∷ []) ∷ agrees left.of right ∷ []) left.of of e in
    let w = is-bits left (each-none is_bits (left ∷ right ∷ []) all.1.0).0 in
    let t = bits w.0 in
    (t, t, t, w.1, agrees-is left.of right all.1.1.0 ∙ w.1, sym all.0 ∙ w.1, (w.0, (refl, refl), refl))

pub compared-typed : (left right : TypedPart) (of : Option ValueType) → compared left right ≡ Gives of →
    (l : ValueType) × (r : ValueType) × (next : ValueType) × (left.of ≡ Some l) × (right.of ≡ Some r) × (of ≡ Some next) × Compares l r next
compared-typed left right of e =
    let all = where-all (each is_bits (left ∷ right ∷ []) ∷ agrees left.of right ∷ []) (Some (bits 1)) of e in
    let w = is-bits left (each-none is_bits (left ∷ right ∷ []) all.1.0).0 in
    let t = bits w.0 in
    (t, t, bits 1, w.1, agrees-is left.of right all.1.1.0 ∙ w.1, sym all.0, (w.0, (refl, refl), refl))

equated-typed : (left right : TypedPart) (of : Option ValueType) → equated left right ≡ Gives of →
    (l : ValueType) × (r : ValueType) × (next : ValueType) × (left.of ≡ Some l) × (right.of ≡ Some r) × (of ≡ Some next) × Equates l r next
equated-typed left right of e =
    let all = where-all (each is_value (left ∷ right ∷ []) ∷ agrees left.of right ∷ []) (Some (bits 1)) of e in
    let t = is-value left (each-none is_value (left ∷ right ∷ []) all.1.0).0 in
    (t.0, t.0, bits 1, t.1, agrees-is left.of right all.1.1.0 ∙ t.1, sym all.0, (refl, refl))

bits_of : (p : TypedPart) (w : ℕ) → p.of ≡ Some (bits w) → bits_in p ≡ w
bits_of p w e = ap (λ o. width_or_none (as_bits o)) e

concatenated-typed : (left right : TypedPart) (of : Option ValueType) → concatenated left right ≡ Gives of →
    (l : ValueType) × (r : ValueType) × (next : ValueType) × (left.of ≡ Some l) × (right.of ≡ Some r) × (of ≡ Some next) × Joins l r next
concatenated-typed left right of e =
    let sum = bits_in left + bits_in right in
    let all = where-all (each is_bits (left ∷ right ∷ []) ∷ holds (nat_le sum 128) (wrong WRONG_WIDTH left.place) ∷ []) (Some (bits sum)) of e in
    let both = each-none is_bits (left ∷ right ∷ []) all.1.0 in
    let a = is-bits left both.0 in
    let b = is-bits right both.1.0 in
    let same : sum ≡ a.0 + b.0 = omega (arith, bits_of left a.0 a.1, bits_of right b.0 b.1) in
    let few = leb-true sum 128 (holds-true (nat_le sum 128) (wrong WRONG_WIDTH left.place) all.1.1.0) in
    (bits a.0, bits b.0, bits (a.0 + b.0), a.1, b.1, sym all.0 ∙ ap (λ w. Some (bits w)) same, (a.0, b.0, refl, refl, omega (arith, same, few), refl))

-- each operator
pub operated-typed : (o : BinaryOperator) (left right : TypedPart) (of : Option ValueType) → operated o left right ≡ Gives of →
    (l : ValueType) × (r : ValueType) × (next : ValueType) × (left.of ≡ Some l) × (right.of ≡ Some r) × (of ≡ Some next) × Operates o l r next
operated-typed binary.Or left right of e = calculated-typed left right of e
operated-typed binary.Xor left right of e = calculated-typed left right of e
operated-typed binary.And left right of e = calculated-typed left right of e
operated-typed binary.Equal left right of e = equated-typed left right of e
operated-typed binary.NotEqual left right of e = equated-typed left right of e
operated-typed binary.Less left right of e = compared-typed left right of e
operated-typed binary.LessOrEqual left right of e = compared-typed left right of e
operated-typed binary.Greater left right of e = compared-typed left right of e
operated-typed binary.GreaterOrEqual left right of e = compared-typed left right of e
operated-typed binary.Concat left right of e = concatenated-typed left right of e
operated-typed binary.ShiftLeft left right of e = calculated-typed left right of e
operated-typed binary.ShiftRight left right of e = calculated-typed left right of e
operated-typed binary.ShiftRightSigned left right of e = calculated-typed left right of e
operated-typed binary.Add left right of e = calculated-typed left right of e
operated-typed binary.Subtract left right of e = calculated-typed left right of e
operated-typed binary.Multiply left right of e = calculated-typed left right of e

-- ---- chains

chains_push : (operators : List BinaryOperator) (t : ValueType) (ts : List ValueType) (whole : ValueType) (o : BinaryOperator) (r next : ValueType) → Chains operators t ts whole → Operates o whole r next →
    Chains (operators ++ o ∷ []) t (ts ++ r ∷ []) next
chains_push [] t [] whole o r next c h = (next, subst (λ l. Operates o l r next) c h, refl)
chains_push [] t (u ∷ ts) whole o r next c h = absurd c
chains_push (p ∷ operators) t [] whole o r next c h = absurd c
chains_push (p ∷ operators) t (u ∷ ts) whole o r next c h = (c.0, c.1, chains_push operators c.0 ts whole o r next c.2 h)

parts_push : (operands : List Typing) (types : List ValueType) (x : Typing) (t : ValueType) → PartsAre (types_of_parts operands) types → x.part.of ≡ Some t → PartsAre (types_of_parts (operands ++ x ∷ [])) (types ++ t ∷ [])
parts_push [] [] x t are is = (is, tt)
parts_push [] (u ∷ types) x t are is = absurd are
parts_push (y ∷ operands) [] x t are is = absurd are
parts_push (y ∷ operands) (u ∷ types) x t are is = (are.0, parts_push operands types x t are.1 is)

-- one more of a list of which each is so
pub each-push : {X : Type 0} (P : X → Type 0) (xs : List X) (x : X) → AllByRecursion P xs → P x → AllByRecursion P (xs ++ x ∷ [])
each-push P [] x h p = (p, tt)
each-push P (y ∷ xs) x h p = (h.0, each-push P xs x h.1 p)

-- a chain as far as it was looked at: its operands' types, and the type that all of them make
pub record IsJoined (scope : Scope) (first : Option ValueType) (j : Joined) : Type 0 where
  pub t : ValueType
  pub first_is : first ≡ Some t
  pub ts : List ValueType
  pub whole : ValueType
  pub typed : AllByRecursion (IsTyped scope) j.operands
  pub are : PartsAre (types_of_parts j.operands) (t ∷ ts)
  pub chains : Chains j.operators t ts whole
  pub left : j.left.of ≡ Some whole

-- the first operator of a chain, and one more
pub join-first : (scope : Scope) (o : BinaryOperator) (first right : Typing) (j : Joined) → IsTyped scope first → IsTyped scope right →
    join o right (record { left = first.part; operators = []; operands = first ∷ [] }) ≡ Gives j → IsJoined scope first.part.of j × (1 ≤ length j.operators)
join-first scope o first right j h k e =
    let of = bind-gives (operated o first.part right.part) _ j e in
    let it = operated-typed o first.part right.part of.0 of.1 in
    let made : Joined = record { left = part of.0 first.part.place; operators = o ∷ []; operands = first ∷ right ∷ [] } in
    subst (λ (j : Joined). IsJoined scope first.part.of j × (1 ≤ length j.operators)) (gives-same made j of.2) (
      record {
        t = it.0;
        first_is = it.3;
        ts = it.1 ∷ [];
        whole = it.2;
        typed = (h, (k, tt));
        are = (it.3, (it.4, tt));
        chains = (it.2, it.6, refl);
        left = it.5;
      },
      omega arith,
    )

pub join-next : (scope : Scope) (first : Option ValueType) (o : BinaryOperator) (right : Typing) (before j : Joined) → IsJoined scope first before → IsTyped scope right → join o right before ≡ Gives j →
    IsJoined scope first j × (1 ≤ length j.operators)
join-next scope first o right before j b k e =
    let of = bind-gives (operated o before.left right.part) _ j e in
    let it = operated-typed o before.left right.part of.0 of.1 in
    let same : it.0 ≡ b.whole = same_Some it.0 b.whole (sym it.3 ∙ b.left) in
    let made : Joined = record { left = part of.0 before.left.place; operators = before.operators ++ o ∷ []; operands = before.operands ++ right ∷ [] } in
    subst (λ (j : Joined). IsJoined scope first j × (1 ≤ length j.operators)) (gives-same made j of.2) (
      record {
        t = b.t;
        first_is = b.first_is;
        ts = b.ts ++ it.1 ∷ [];
        whole = it.2;
        typed = each-push (IsTyped scope) before.operands right b.typed k;
        are = parts_push before.operands (b.t ∷ b.ts) right it.1 b.are it.4;
        chains = chains_push before.operators b.t b.ts b.whole o it.1 it.2 b.chains (subst (λ l. Operates o l it.1 it.2) same it.6);
        left = it.5;
      },
      omega (arith, length-append before.operators (o ∷ [])),
    )

-- the whole chain
pub chained-typed : (scope : Scope) (first : Option ValueType) (j : Joined) → IsJoined scope first j → 1 ≤ length j.operators → IsTyped scope (chained (width_if scope.design first) j)
chained-typed scope first j h some =
    applied-typed scope j.left.of j.left.place (operation.Chain j.operators (width_if scope.design first)) j.operands (h.t ∷ h.ts) h.typed h.are
    (some, h.whole, h.chains, h.left, ap (width_if scope.design) h.first_is)

-- ---- suffixes

takes_push : (d : Checked) (selections : List Selection) (t whole : ValueType) (s : Selection) (of : ValueType) → TakesAll d selections t whole → Takes d s whole of → TakesAll d (selections ++ s ∷ []) t of
takes_push d [] t whole s of takes h = (of, subst (λ w. Takes d s w of) takes h, refl)
takes_push d (p ∷ selections) t whole s of takes h = (takes.0, takes.1, takes_push d selections takes.0 whole s of takes.2 h)

-- what was taken of a part of a type
abbrev IsTaken : Checked → ValueType → SelectedPart → Type 0
IsTaken d t taken = (of : ValueType) × (taken.whole.of ≡ Some of) × TakesAll d taken.selections t of

take_next : (d : Checked) (t : ValueType) (s : Suffix) (before after : SelectedPart) → IsTaken d t before → take_part d s before ≡ Gives after → IsTaken d t after
take_next d t s before after h e =
    let one = bind-gives (select d before.whole s) _ after e in
    let it = selected d before.whole s one.0 one.1 in
    let same : it.0 ≡ h.0 = same_Some it.0 h.0 (sym it.1 ∙ h.1) in
    let made : SelectedPart = record { whole = part (Some one.0.of) before.whole.place; selections = before.selections ++ one.0.selection ∷ [] } in
    subst (IsTaken d t) (gives-same made after one.2)
    (one.0.of, refl, takes_push d before.selections t h.0 one.0.selection one.0.of h.2 (subst (λ w. Takes d one.0.selection w one.0.of) same it.2))

take_all : (d : Checked) (t : ValueType) (suffixes : List Suffix) (before after : SelectedPart) → IsTaken d t before → one_by_one (take_part d) suffixes before ≡ Gives after → IsTaken d t after
take_all d t [] before after h e = subst (IsTaken d t) (gives-same before after e) h
take_all d t (s ∷ suffixes) before after h e =
    let next = bind-gives (take_part d s before) (one_by_one (take_part d) suffixes) after e in
    take_all d t suffixes next.0 after (take_next d t s before next.0 h next.1) next.2

postfix_from : (scope : Scope) (suffixes : List Suffix) (primary x : Typing) (t : ValueType) → IsTyped scope primary → primary.part.of ≡ Some t → postfix scope.design suffixes primary ≡ Gives x → IsTyped scope x
postfix_from scope suffixes primary x t h is e =
    let start : SelectedPart = record { whole = primary.part; selections = [] } in
    let all = bind-gives (one_by_one (take_part scope.design) suffixes start) _ x e in
    let it = take_all scope.design t suffixes start all.0 (t, is, refl) all.1 in
    subst (IsTyped scope) (gives-same (applied all.0.whole.of all.0.whole.place (operation.Select all.0.selections) (primary ∷ [])) x all.2)
    (applied-typed scope all.0.whole.of all.0.whole.place (operation.Select all.0.selections) (primary ∷ []) (t ∷ []) (h, tt) (is, tt) (it.0, it.2, it.1))

-- a value behind which suffixes stand
pub postfix-typed : (scope : Scope) (suffixes : List Suffix) (primary x : Typing) → 0 < length suffixes → IsTyped scope primary → postfix scope.design suffixes primary ≡ Gives x → IsTyped scope x
postfix-typed scope [] primary x some h e = absurd (omega (arith, some))
postfix-typed scope (s ∷ suffixes) primary x some h e =
    let start : SelectedPart = record { whole = primary.part; selections = [] } in
    let all = bind-gives (one_by_one (take_part scope.design) (s ∷ suffixes) start) _ x e in
    let next = bind-gives (take_part scope.design s start) (one_by_one (take_part scope.design) suffixes) all.0 all.1 in
    let one = bind-gives (select scope.design primary.part s) _ next.0 next.1 in
    let it = selected scope.design primary.part s one.0 one.1 in
    postfix_from scope (s ∷ suffixes) primary x it.0 h it.1 e

-- ---- packing, extensions, comparisons, updates

pub packed-typed : (scope : Scope) (place : ℕ) (inner x : Typing) → IsTyped scope inner → packed scope.design place inner ≡ Gives x → IsTyped scope x
packed-typed scope place inner x h e =
    let of = bind-gives (found inner.part.of (wrong_type inner.part)) _ x e in
    let t = Some (bits (width_of scope.design of.0)) in
    subst (IsTyped scope) (gives-same (applied t place operation.Pack (inner ∷ [])) x of.2)
    (applied-typed scope t place operation.Pack (inner ∷ []) (of.0 ∷ []) (h, tt) (found-some inner.part.of (wrong_type inner.part) of.0 of.1, tt) refl)

pub unpacked-typed : (scope : Scope) (place : ℕ) (of : ValueType) (inner x : Typing) → IsType scope.design of → IsTyped scope inner → unpacked scope.design place of inner ≡ Gives x → IsTyped scope x
unpacked-typed scope place of inner x valid h e =
    let t = bits (width_of scope.design of) in
    let all = where-all (agrees (Some t) inner.part ∷ []) (applied (Some of) place (operation.Unpack of) (inner ∷ [])) x e in
    subst (IsTyped scope) all.0
    (applied-typed scope (Some of) place (operation.Unpack of) (inner ∷ []) (t ∷ []) (h, tt) (agrees-is (Some t) inner.part all.1.0, tt) (valid, refl, refl))

pub extended-typed : (scope : Scope) (place : ℕ) (extension : Extension) (width : Number) (inner x : Typing) → IsTyped scope inner → extended place extension width inner ≡ Gives x → IsTyped scope x
extended-typed scope place extension width inner x h e =
    let fits = nat_le (bits_in inner.part) width.value && nat_le width.value 128 in
    let o = operation.Extend extension width.value in
    let t = Some (bits width.value) in
    let all = where-all (is_bits inner.part ∷ holds fits (wrong WRONG_WIDTH width.place) ∷ []) (applied t place o (inner ∷ [])) x e in
    let w = is-bits inner.part all.1.0 in
    let both = both-true (nat_le (bits_in inner.part) width.value) (nat_le width.value 128) (holds-true fits (wrong WRONG_WIDTH width.place) all.1.1.0) in
    let wide = leb-true (bits_in inner.part) width.value both.0 in
    subst (IsTyped scope) all.0
    (applied-typed scope t place o (inner ∷ []) (bits w.0 ∷ []) (h, tt) (w.1, tt) (w.0, refl, omega (arith, wide, bits_of inner.part w.0 w.1), leb-true width.value 128 both.1, refl))

pub comparison-typed : (scope : Scope) (place : ℕ) (o : SignedComparison) (left right x : Typing) → IsTyped scope left → IsTyped scope right → comparison place o left right ≡ Gives x → IsTyped scope x
comparison-typed scope place o left right x h k e =
    let of = bind-gives (compared left.part right.part) _ x e in
    let it = compared-typed left.part right.part of.0 of.1 in
    subst (IsTyped scope) (gives-same (applied of.0 place (operation.Compare o) (left ∷ right ∷ [])) x of.2)
    (applied-typed scope of.0 place (operation.Compare o) (left ∷ right ∷ []) (it.0 ∷ it.1 ∷ []) (h, (k, tt)) (it.3, (it.4, tt)) (it.2, it.6, it.5))

replaced_of : (d : Checked) (p : WrittenPart) (old new : TypedPart) (one : Selected) → replaced d p old new ≡ Gives one → ReplacesOf d old one × (new.of ≡ Some one.of)
replaced_of d (parts.Field n) old new one e = field-replaced d old n new one e
replaced_of d (parts.Index i) old new one e = item-replaced d old i new one e

pub updated-typed : (scope : Scope) (place : ℕ) (p : WrittenPart) (old new x : Typing) → IsTyped scope old → IsTyped scope new → updated scope.design place p old new ≡ Gives x → IsTyped scope x
updated-typed scope place p old new x h k e =
    let one = bind-gives (replaced scope.design p old.part new.part) _ x e in
    let it = replaced_of scope.design p old.part new.part one.0 one.1 in
    let o = operation.Update one.0.selection in
    subst (IsTyped scope) (gives-same (applied old.part.of place o (old ∷ new ∷ [])) x one.2)
    (applied-typed scope old.part.of place o (old ∷ new ∷ []) (it.0.0 ∷ one.0.of ∷ []) (h, (k, tt)) (it.0.1, (it.1, tt)) (it.0.2, it.0.1))
