-- Calls, structs, arrays and `if`s are well typed where their parts are.
use Rattle.std.proofs.Common.{◌≡◌, ℕ, suc, ◌+◌, ◌≤◌, inl, inr, nat_eq, List, [], ◌∷◌, ◌++◌, length, map, replicate, Option, Some, None, arith, refl, ap, sym, subst, ◌∙◌}
use Rattle.std.specs.List.{AllByRecursion}
use Rattle.std.proofs.lemmas.Bool.{eqb-true}
use Rattle.std.proofs.lemmas.List.{length-map, length-replicate}
use Rattle.std.proofs.lemmas.Option.{slice_get_within, same_Some}
use Rattle.kw_base.specs.declared.fault_number.TheConstants.{UNKNOWN_NAME, WRONG_ARGUMENT_COUNT}
use Rattle.koika_syntax.specs.declared.tree.Name.{Name}
use Rattle.koika_check.specs.Composites.{Given, array_of, fields_of, struct_of}
use Rattle.koika_check.specs.Constructs.{ArmTyping, FieldTyping, Typing, applied, arguments_agree, array_in, call, conditional, given_of, types_of_parts, place_of_arms, struct_in, type_of_bodies, typed_of, typing}
use Rattle.koika_check.specs.Outcomes.{Gives, CheckResult, holds, in_turn, wrong}
use Rattle.koika_check.specs.Scopes.{Called, Scope, at, called, called_function, called_host, called_table, or_else}
use Rattle.koika_check.specs.Types.{TypedPart, agrees, array, bits, each}
use Rattle.koika_check.specs.Typing.{Applies, AreArms, HasType, IsType}
use Rattle.koika_check.specs.declared.checked.Checked.{Checked}
use Rattle.koika_check.specs.declared.checked.CheckedField.{CheckedField}
use Rattle.koika_check.specs.declared.checked.CheckedFunction.{CheckedFunction}
use Rattle.koika_check.specs.declared.checked.Host.{Host}
use Rattle.koika_check.specs.declared.checked.Table.{Table}
use Rattle.koika_check.specs.declared.typed.Operation.TheVariants as operation
use Rattle.koika_check.specs.declared.typed.BlockStep.TheOpen as opened
use Rattle.koika_check.specs.declared.typed.Typed.TheVariants as typed
use Rattle.koika_check.specs.declared.typed.ValueType.{ValueType}
use Rattle.koika_check.specs.Kinds.{number_named}
use Rattle.koika_check.specs.declared.things.Kind.TheVariants as kind
use Rattle.koika_check.proofs.Answering.{bind-gives, found-some}
use Rattle.koika_check.proofs.Telling.{holds-true}
use Rattle.koika_check.proofs.TypedConstructs.{IsTyped, applied-typed}
use Rattle.koika_check.proofs.TypedParts.{PartsAre, agrees-is, array-known, each-none, earlier-both, gives-same, struct-known, where-all}
use Rattle.koika_check.proofs.TypedSoFar.{IsGood, types_in}
use Rattle.koika_check.proofs.TypingLayers.{close-HasType}

-- ---- all parts in turn

pub turn-all : {X Y : Type 0} (P : Y → Type 0) (look : X → CheckResult Y) (xs : List X) (ys : List Y) → AllByRecursion (λ x. (y : Y) → look x ≡ Gives y → P y) xs → in_turn look xs ≡ Gives ys → AllByRecursion P ys
turn-all P look [] ys h e = subst (AllByRecursion P) (gives-same [] ys e) tt
turn-all P look (x ∷ xs) ys h e =
    let first = bind-gives (look x) _ ys e in
    let rest = bind-gives (in_turn look xs) _ ys first.2 in
    subst (AllByRecursion P) (gives-same (first.0 ∷ rest.0) ys rest.2) (h.0 first.0 first.1, turn-all P look xs rest.0 h.1 rest.1)

-- ---- calls

abbrev IsCalled : Checked → Called → Type 0
IsCalled d c = Applies d (length d.functions) c.operation c.parameters c.gives

host_called : (d : Checked) (o : Option ℕ) (h : Option Host) (c : Called) → at d.hosts o ≡ h → called_host o h ≡ Some c → IsCalled d c
host_called d None h c a e = absurd cc
host_called d (Some number) None c a e = absurd cc
host_called d (Some number) (Some h) c a e = subst (IsCalled d) (same_Some _ c e) (h, a, refl, refl)

table_called : (d : Checked) (o : Option ℕ) (t : Option Table) (other : Option Called) (c : Called) → at d.tables o ≡ t → (other ≡ Some c → IsCalled d c) → or_else (called_table o t) other ≡ Some c → IsCalled d c
table_called d None t other c a hosts e = hosts e
table_called d (Some number) None other c a hosts e = hosts e
table_called d (Some number) (Some t) other c a hosts e = subst (IsCalled d) (same_Some _ c e) (t, a, refl, refl)

function_called : (d : Checked) (o : Option ℕ) (f : Option CheckedFunction) (other : Option Called) (c : Called) → at d.functions o ≡ f → (other ≡ Some c → IsCalled d c) → or_else (called_function o f) other ≡ Some c → IsCalled d c
function_called d None f other c a tables e = tables e
function_called d (Some number) None other c a tables e = tables e
function_called d (Some number) (Some f) other c a tables e = subst (IsCalled d) (same_Some _ c e) (f, slice_get_within d.functions number f a, a, refl, refl)

-- what is called applies to its parameters
pub called-applies : (d : Checked) (n : Name) (c : Called) → called d n ≡ Gives c → IsCalled d c
called-applies d n c e =
    let f = number_named kind.Function d n.text in
    let t = number_named kind.Table d n.text in
    let h = number_named kind.Host d n.text in
    let hosts = called_host h (at d.hosts h) in
    let tables = or_else (called_table t (at d.tables t)) hosts in
    function_called d f (at d.functions f) tables c refl (table_called d t (at d.tables t) hosts c refl (host_called d h (at d.hosts h) c refl))
    (found-some (or_else (called_function f (at d.functions f)) tables) (wrong UNKNOWN_NAME n.place) c e)

-- arguments that agree with parameters are of their types
arguments_are : (parameters : List ValueType) (arguments : List TypedPart) → length arguments ≡ length parameters → arguments_agree parameters arguments ≡ None → PartsAre arguments parameters
arguments_are [] [] same e = tt
arguments_are [] (p ∷ arguments) same e = absurd (omega (arith, same))
arguments_are (t ∷ parameters) [] same e = absurd (omega (arith, same))
arguments_are (t ∷ parameters) (p ∷ arguments) same e =
    let both = earlier-both (agrees (Some t) p) _ e in
    let rest = earlier-both (arguments_agree parameters arguments) None both.1 in
    (agrees-is (Some t) p both.0, arguments_are parameters arguments (omega (arith, same)) rest.0)

-- a call
pub call-typed : (scope : Scope) (n : Name) (c : Called) (values : List Typing) (x : Typing) → called scope.design n ≡ Gives c → AllByRecursion (IsTyped scope) values → call n c values ≡ Gives x → IsTyped scope x
call-typed scope n c values x at h e =
    let all = where-all (holds (nat_eq (length values) (length c.parameters)) (wrong WRONG_ARGUMENT_COUNT n.place) ∷ arguments_agree c.parameters (types_of_parts values) ∷ []) (applied c.gives n.place c.operation values) x e in
    let count = eqb-true (length values) (length c.parameters) (holds-true (nat_eq (length values) (length c.parameters)) (wrong WRONG_ARGUMENT_COUNT n.place) all.1.0) in
    subst (IsTyped scope) all.0
    (applied-typed scope c.gives n.place c.operation values c.parameters h
    (arguments_are c.parameters (types_of_parts values) (length-map values (λ (t : Typing). t.part) ∙ count) all.1.1.0) (called-applies scope.design n c at))

-- ---- arrays and structs

pub array-typed : (scope : Scope) (place : ℕ) (values : List Typing) (x : Typing) → AllByRecursion (IsTyped scope) values → array_in scope.design place values ≡ Gives x → IsTyped scope x
array-typed scope place values x h e =
    let whole = bind-gives (array_of scope.design place (types_of_parts values)) _ x e in
    let it = array-known scope.design place (types_of_parts values) whole.0 whole.1 in
    let n = length (types_of_parts values) in
    let count : n ≡ length (replicate n it.0) = sym (length-replicate n it.0) in
    subst (IsTyped scope) (gives-same (applied whole.0.of whole.0.place operation.Array values) x whole.2)
    (applied-typed scope whole.0.of whole.0.place operation.Array values (replicate n it.0) h it.1
    (it.0, ap (λ k. replicate k it.0) count, subst (λ k. IsType scope.design (array k it.0)) count it.2, it.3 ∙ ap (λ k. Some (array k it.0)) count))

fields_typed : (scope : Scope) (fields : List FieldTyping) → AllByRecursion (λ (f : FieldTyping). IsTyped scope f.typing) fields → AllByRecursion (IsTyped scope) (map (λ (f : FieldTyping). f.typing) fields)
fields_typed scope [] h = tt
fields_typed scope (f ∷ fields) h = (h.0, fields_typed scope fields h.1)

same_parts : (fields : List FieldTyping) → map (λ (g : Given). g.part) (map given_of fields) ≡ types_of_parts (map (λ (f : FieldTyping). f.typing) fields)
same_parts [] = refl
same_parts (f ∷ fields) = ap (λ (ps : List TypedPart). f.typing.part ∷ ps) (same_parts fields)

-- a struct of given fields
pub struct-typed : (scope : Scope) → IsGood scope → (number place close : ℕ) (fields : List FieldTyping) (x : Typing) → AllByRecursion (λ (f : FieldTyping). IsTyped scope f.typing) fields →
    struct_in scope.design number place close fields ≡ Gives x → IsTyped scope x
struct-typed scope good number place close fields x h e =
    let whole = bind-gives (struct_of scope.design number place (map given_of fields) close) _ x e in
    let it = struct-known scope.design good.design number place (map given_of fields) close whole.0 whole.1 in
    let values = map (λ (f : FieldTyping). f.typing) fields in
    let types = map (λ (f : CheckedField). f.of) (fields_of scope.design number) in
    subst (IsTyped scope) (gives-same (applied whole.0.of whole.0.place (operation.Struct number) values) x whole.2)
    (applied-typed scope whole.0.of whole.0.place (operation.Struct number) values types (fields_typed scope fields h) (subst (λ ps. PartsAre ps types) (same_parts fields) it.0) (refl, it.1, it.2))

-- ---- `if`

abbrev pub IsArmed : Scope → ArmTyping → Type 0
IsArmed scope arm = IsTyped scope arm.condition × IsTyped scope arm.body

conditions_typed : (scope : Scope) (arms : List ArmTyping) → AllByRecursion (IsArmed scope) arms → AllByRecursion (IsTyped scope) (map (λ (a : ArmTyping). a.condition) arms)
conditions_typed scope [] h = tt
conditions_typed scope (a ∷ arms) h = (h.0.0, conditions_typed scope arms h.1)

bodies_typed : (scope : Scope) (arms : List ArmTyping) (last : List Typing) → AllByRecursion (IsArmed scope) arms → AllByRecursion (IsTyped scope) last → AllByRecursion (IsTyped scope) (map (λ (a : ArmTyping). a.body) arms ++ last)
bodies_typed scope [] last h k = k
bodies_typed scope (a ∷ arms) last h k = (h.0.1, bodies_typed scope arms last h.1 k)

-- parts that agree with a type have it
agree_typed : (scope : Scope) (of : Option ValueType) (values : List Typing) → AllByRecursion (IsTyped scope) values → AllByRecursion (λ p. agrees of p ≡ None) (types_of_parts values) →
    AllByRecursion (λ x. HasType scope.design (length scope.design.functions) x (types_in scope) of) (typed_of values)
agree_typed scope of [] h are = tt
agree_typed scope of (x ∷ values) h are = (subst (HasType scope.design (length scope.design.functions) x.typed (types_in scope)) (agrees-is of x.part are.0) h.0, agree_typed scope of values h.1 are.1)

are_arms : (arms : List ArmTyping) (last : List Typing) → length last ≤ 1 →
    AreArms (length (typed_of (map (λ (a : ArmTyping). a.condition) arms))) (length (typed_of (map (λ (a : ArmTyping). a.body) arms ++ last))) (type_of_bodies (map (λ (a : ArmTyping). a.body) arms) last)
are_arms arms [] few = inr (all_of arms, refl)
  where
    all_of : (arms : List ArmTyping) → length (typed_of (map (λ (a : ArmTyping). a.body) arms ++ [])) ≡ length (typed_of (map (λ (a : ArmTyping). a.condition) arms))
    all_of [] = refl
    all_of (a ∷ arms) = ap suc (all_of arms)
are_arms arms (b ∷ []) few = inl (all_of arms)
  where
    all_of : (arms : List ArmTyping) → length (typed_of (map (λ (a : ArmTyping). a.body) arms ++ b ∷ [])) ≡ length (typed_of (map (λ (a : ArmTyping). a.condition) arms)) + 1
    all_of [] = omega arith
    all_of (a ∷ arms) = omega (arith, all_of arms)
are_arms arms (b ∷ c ∷ last) few = absurd (omega (arith, few))

-- an `if` of arms, with the body of `else` if there is one
pub conditional-typed : (scope : Scope) (arms : List ArmTyping) (last : List Typing) (x : Typing) → length last ≤ 1 → AllByRecursion (IsArmed scope) arms → AllByRecursion (IsTyped scope) last →
    conditional arms last ≡ Gives x → IsTyped scope x
conditional-typed scope arms last x few h k e =
    let conditions = map (λ (a : ArmTyping). a.condition) arms in
    let bodies = map (λ (a : ArmTyping). a.body) arms in
    let of = type_of_bodies bodies last in
    let whole = typing of (place_of_arms arms last) (typed.If (typed_of conditions) (typed_of (bodies ++ last))) in
    let all = where-all (each (agrees (Some (bits 1))) (types_of_parts conditions) ∷ each (agrees of) (types_of_parts (bodies ++ last)) ∷ []) whole x e in
    let first = agree_typed scope (Some (bits 1)) conditions (conditions_typed scope arms h) (each-none (agrees (Some (bits 1))) (types_of_parts conditions) all.1.0) in
    let second = agree_typed scope of (bodies ++ last) (bodies_typed scope arms last h k) (each-none (agrees of) (types_of_parts (bodies ++ last)) all.1.1.0) in
    subst (IsTyped scope) all.0
    (close-HasType scope.design (length scope.design.functions) (typed.If (typed_of conditions) (typed_of (bodies ++ last))) (opened.If (typed_of conditions) (typed_of (bodies ++ last)))
    (typed.rolls-If (typed_of conditions) (typed_of (bodies ++ last))) (types_in scope) of (first, second, are_arms arms last few))
