-- What the parts of declarations of the grammar come to is well typed.
use Rattle.std.proofs.Common.{◌≡◌, ℕ, suc, ◌≤◌, ◌^◌, ◌⊎◌, inl, inr, Bool, true, false, not, cond, ◌&&◌, nat_eq, nat_le, min, List, [], ◌∷◌, ◌++◌, length, map, reverse, slice_get, Option, Some, None, IfSome, arith, refl, ap, sym, subst, ◌∙◌}
use Rattle.std.specs.List.{All, AllByRecursion, Contains, find}
use Rattle.std.specs.Prelude.{is_some, sum_by}
use Rattle.std.specs.Str.{bytes_eq}
use Rattle.std.proofs.lemmas.Bool.{eqb-true, leb-true, not-true}
use Rattle.std.proofs.lemmas.List.{length-map, reverse-append}
use Rattle.std.proofs.lemmas.List.Elements.{All-from_recursion, All-nil, recursion_from_All}
use Rattle.std.proofs.lemmas.Option.{slice_get_within, same_Some}
use Rattle.kw_base.specs.Names.{number_of}
use Rattle.kw_base.specs.declared.fault_number.TheConstants.{REPEATED_NAME, UNKNOWN_HOST_FUNCTION, WRONG_ENTRY_COUNT, WRONG_WIDTH}
use Rattle.kw_bits.specs.BitVector.{BitVector}
use Rattle.kw_bits.specs.Host.{TakesWidth}
use Rattle.kw_bits.specs.Laws.{HasWidth}
use Rattle.koika_syntax.specs.Grammar.{IsBlock, IsConstant, LiteralFits, IsMember}
use Rattle.koika_syntax.specs.declared.tree.Block.{Block}
use Rattle.koika_syntax.specs.declared.tree.Constant.{Constant}
use Rattle.koika_syntax.specs.declared.tree.Field.{Field as WrittenField}
use Rattle.koika_syntax.specs.declared.tree.Literal.{Literal}
use Rattle.koika_syntax.specs.declared.tree.EnumMember.{EnumMember as WrittenMember}
use Rattle.koika_syntax.specs.declared.tree.Name.{Name}
use Rattle.koika_syntax.specs.declared.tree.TypeExpression.{TypeExpression}
use Rattle.koika_syntax.specs.declared.tree.Width.{Width}
use Rattle.koika_types.specs.declared.declarations.EnumDecl.{EnumDecl}
use Rattle.koika_types.specs.declared.declarations.Member.{Member}
use Rattle.typed_core.specs.Valid.{IsHost, IsTable, IsWidth}
use Rattle.kw_bits.specs.declared.host.HostSpec.{HostSpec}
use Rattle.typed_core.specs.declared.limits.TheConstants.{MAX_TABLE_IN_WIDTH}
use Rattle.koika_check.specs.Composites.{field_named}
use Rattle.koika_check.specs.Constants.{constant_of}
use Rattle.koika_check.specs.Declarations.{add_field, add_member, add_parameter, enum_of, enum_typed, enum_with, field_typed, function_body, function_of, function_result, function_typed, function_with, has_width, host_of, host_with, input_of, input_typed, input_with, is_host, names_of_fields, names_of_locals, names_of_members, new_name, other_name, register_known, register_of, register_typed, register_with, result_of, rule_of, rule_typed, rule_with, struct_of, struct_typed, struct_with, table_of, table_with, types_in_order}
use Rattle.koika_check.specs.Expressions.{block_in}
use Rattle.koika_check.specs.Outcomes.{Gives, found, holds, one_by_one, wrong}
use Rattle.koika_check.specs.Scopes.{Local, Scope}
use Rattle.koika_check.specs.Types.{agrees, base_width, each, is_width, type_of, width_of}
use Rattle.koika_check.specs.Typing.{HasType, IsAmong, IsInput, IsOf, IsRegister, IsType}
use Rattle.koika_check.specs.declared.checked.Checked.{Checked}
use Rattle.koika_check.specs.declared.checked.CheckedField.{CheckedField}
use Rattle.koika_check.specs.declared.checked.CheckedFunction.{CheckedFunction}
use Rattle.koika_check.specs.declared.checked.Host.{Host}
use Rattle.koika_check.specs.declared.checked.Input.{Input}
use Rattle.koika_check.specs.declared.checked.Register.{Register}
use Rattle.koika_check.specs.declared.checked.CheckedRule.{CheckedRule}
use Rattle.koika_check.specs.declared.checked.Struct.{Struct}
use Rattle.koika_check.specs.declared.checked.Table.{Table}
use Rattle.koika_check.specs.declared.typed.BaseType.{BaseType}
use Rattle.koika_check.specs.declared.typed.BaseType.TheVariants as base
use Rattle.koika_check.specs.declared.typed.ValueType.{ValueType}
use Rattle.koika_check.proofs.Answering.{bind-gives, found-some}
use Rattle.koika_check.proofs.Declared.{name-push, number-push}
use Rattle.koika_check.proofs.Declaring.{find-all}
use Rattle.koika_check.proofs.Positions.{same, same-is}
use Rattle.koika_check.proofs.Telling.{holds-true}
use Rattle.koika_check.proofs.TypedAdditions.{found-in-push}
use Rattle.koika_check.proofs.TypedConstants.{constant-typed}
use Rattle.koika_check.proofs.TypedConstructs.{each-push}
use Rattle.koika_check.proofs.TypedExpressions.{block-in-typed}
use Rattle.koika_check.proofs.TypedParts.{agrees-is, both-true, each-none, gives-same, is-width, type-valid, where-all}
use Rattle.koika_check.proofs.TypedSoFar.{AreDistinct, IsEnumSoFar, IsTypedSoFar, looked-up, some-base}
use Rattle.koika_check.proofs.TypedBlocks.{types_of}

-- ---- names

none_of : (o : Option ℕ) → is_some o ≡ false → o ≡ None
none_of None e = refl
none_of (Some n) e = absurd cc

-- a name that no other part has
other-new : (names : List (List ℕ)) (n : Name) (name : List ℕ) → other_name names n ≡ Gives name → (n.text ≡ name) × (number_of names n.text ≡ None)
other-new names n name e =
    let all = where-all (holds (not (is_some (number_of names n.text))) (wrong REPEATED_NAME n.place) ∷ []) n.text name e in
    (all.0, none_of (number_of names n.text) (not-true (is_some (number_of names n.text)) (holds-true (not (is_some (number_of names n.text))) (wrong REPEATED_NAME n.place) all.1.0)))

-- ---- enums

has-width : (w : ℕ) (l : Literal) → has_width w l ≡ None → l.bits.width ≡ w
has-width w l e = eqb-true l.bits.width w (holds-true (nat_eq l.bits.width w) (wrong WRONG_WIDTH l.place) e)

abbrev FitsWidth : ℕ → WrittenMember → Type 0
FitsWidth w m = LiteralFits m.value × (m.value.bits.width ≡ w)

members_fit : (w : ℕ) (members : List WrittenMember) (start declared : List Member) → AllByRecursion (FitsWidth w) members → AllByRecursion (λ (m : Member). HasWidth m.bits w) start →
    one_by_one add_member members start ≡ Gives declared → AllByRecursion (λ (m : Member). HasWidth m.bits w) declared
members_fit w [] start declared h fit e = subst (AllByRecursion (λ (m : Member). HasWidth m.bits w)) (gives-same start declared e) fit
members_fit w (m ∷ members) start declared h fit e =
    let next = bind-gives (add_member m start) (one_by_one add_member members) declared e in
    let name = bind-gives (other_name (names_of_members start) m.name) _ next.0 next.1 in
    let one : Member = record { name = name.0; bits = m.value.bits } in
    members_fit w members next.0 declared h.1
    (subst (AllByRecursion (λ (m : Member). HasWidth m.bits w)) (gives-same (start ++ one ∷ []) next.0 name.2) (each-push (λ (m : Member). HasWidth m.bits w) start one fit (h.0.0, h.0.1))) next.2

widths_fit : (w : ℕ) (members : List WrittenMember) → AllByRecursion IsMember members → AllByRecursion (λ l. has_width w l ≡ None) (map (λ (m : WrittenMember). m.value) members) → AllByRecursion (FitsWidth w) members
widths_fit w [] is fit = tt
widths_fit w (m ∷ members) is fit = ((is.0.1, has-width w m.value fit.0), widths_fit w members is.1 fit.1)

-- an enum
pub enum-fits : (d : Checked) (n : Name) (width : Width) (members : List WrittenMember) (x : EnumDecl) → All IsMember members → enum_with d n width members ≡ Gives x → IsEnumSoFar x
enum-fits d n width members x is e =
    let w = width.number.value in
    let name = bind-gives (new_name d n) (enum_of width members) x e in
    let declared = bind-gives (one_by_one add_member members []) (enum_typed width members name.0) x name.2 in
    let made : EnumDecl = record { name = name.0; width = w; members = declared.0 } in
    let all = where-all (holds (is_width w) (wrong WRONG_WIDTH width.place) ∷ each (has_width w) (map (λ (m : WrittenMember). m.value) members) ∷ []) made x declared.2 in
    let fit = widths_fit w members (recursion_from_All IsMember members is) (each-none (has_width w) (map (λ (m : WrittenMember). m.value) members) all.1.1.0) in
    subst IsEnumSoFar all.0
    (is-width w (holds-true (is_width w) (wrong WRONG_WIDTH width.place) all.1.0), All-from_recursion (λ (m : Member). HasWidth m.bits w) declared.0 (members_fit w members [] declared.0 fit tt declared.1))

-- ---- structs

distinct_push : (fields : List CheckedField) (one : CheckedField) → number_of (names_of_fields fields) one.name ≡ None → AreDistinct fields → AreDistinct (fields ++ one ∷ [])
distinct_push fields one new h i f e = by_place (found-in-push fields one i f e)
  where
    pushed : (other : List ℕ) → field_named (fields ++ one ∷ []) other ≡ cond (bytes_eq other one.name) (Some (length fields)) (field_named fields other)
    pushed other =
        ap (λ names. number_of names other) (name-push (λ (f : CheckedField). f.name) fields one one.name refl) ∙ number-push (names_of_fields fields) one.name other new
        ∙ ap (λ n. cond (bytes_eq other one.name) (Some n) (field_named fields other)) (length-map fields (λ (f : CheckedField). f.name))

    none_some : (k : ℕ) → None ≡ Some k → ⊥
    none_some k e = cc

    by_name : (b : Bool) → bytes_eq f.name one.name ≡ b → slice_get fields i ≡ Some f → cond b (Some (length fields)) (field_named fields f.name) ≡ Some i
    by_name true b old = absurd (none_some i (sym new ∙ ap (number_of (names_of_fields fields)) (sym (same-is f.name one.name b)) ∙ h i f old))
    by_name false b old = h i f old

    by_place : (slice_get fields i ≡ Some f) ⊎ ((i ≡ length fields) × (one ≡ f)) → field_named (fields ++ one ∷ []) f.name ≡ Some i
    by_place (inl old) = pushed f.name ∙ by_name (bytes_eq f.name one.name) refl old
    by_place (inr it) =
        let named : one.name ≡ f.name = ap (λ (f : CheckedField). f.name) it.1 in
        pushed f.name ∙ ap (λ b. cond b (Some (length fields)) (field_named fields f.name)) (ap (λ n. bytes_eq n one.name) (sym named) ∙ same one.name) ∙ ap Some (sym it.0)

-- fields of types of values, each with its own name
abbrev AreGoodFields : Checked → List CheckedField → Type 0
AreGoodFields d fields = AllByRecursion (λ (f : CheckedField). IsType d f.of) fields × AreDistinct fields

fields_good : (d : Checked) (written : List WrittenField) (start declared : List CheckedField) → AreGoodFields d start → one_by_one (add_field d) written start ≡ Gives declared → AreGoodFields d declared
fields_good d [] start declared h e = subst (AreGoodFields d) (gives-same start declared e) h
fields_good d (f ∷ written) start declared h e =
    let next = bind-gives (add_field d f start) (one_by_one (add_field d) written) declared e in
    let name = bind-gives (other_name (names_of_fields start) f.name) _ next.0 next.1 in
    let of = bind-gives (type_of d f.of) (field_typed start name.0) next.0 name.2 in
    let new = other-new (names_of_fields start) f.name name.0 name.1 in
    let one : CheckedField = record { name = name.0; of = of.0 } in
    fields_good d written next.0 declared
    (subst (AreGoodFields d) (gives-same (start ++ one ∷ []) next.0 of.2) (
      each-push (λ (f : CheckedField). IsType d f.of) start one h.0 (type-valid d f.of of.0 of.1),
      distinct_push start one (ap (number_of (names_of_fields start)) (sym new.0) ∙ new.1) h.1,
    ))
    next.2

-- a type of values names a struct that there is
pub is-among : (d : Checked) (t : ValueType) → IsType d t → IsAmong (length d.structs) t.base
is-among d t h = by_base t.base (some-base d t h)
  where
    by_base : (b : BaseType) → 1 ≤ base_width d b → IsAmong (length d.structs) b
    by_base (base.Bits w) some = tt
    by_base (base.Enum n) some = tt
    by_base (base.Struct n) some = let s = looked-up (λ (s : Struct). s.width) d.structs n some in slice_get_within d.structs n s.0 s.1

-- a struct
pub struct-good : (d : Checked) (n : Name) (written : List WrittenField) (x : Struct) → struct_with d n written ≡ Gives x →
    All (λ (f : CheckedField). IsType d f.of) x.fields × AreDistinct x.fields × (x.width ≡ min (sum_by (λ (f : CheckedField). width_of d f.of) x.fields) 129)
struct-good d n written x e =
    let name = bind-gives (new_name d n) (struct_of d written) x e in
    let declared = bind-gives (one_by_one (add_field d) written []) (struct_typed d name.0) x name.2 in
    let made : Struct = record { name = name.0; fields = declared.0; width = min (sum_by (λ (f : CheckedField). width_of d f.of) declared.0) 129 } in
    let good = fields_good d written [] declared.0 (tt, λ i f e. absurd cc) declared.1 in
    subst (λ (x : Struct). All (λ (f : CheckedField). IsType d f.of) x.fields × AreDistinct x.fields × (x.width ≡ min (sum_by (λ (f : CheckedField). width_of d f.of) x.fields) 129)) (gives-same made x declared.2)
    (All-from_recursion (λ (f : CheckedField). IsType d f.of) declared.0 good.0, good.1, refl)

-- ---- registers and inputs

-- a register with its first value
pub register-good : (d : Checked) → IsTypedSoFar d → (n : Name) (written : TypeExpression) (first : Constant) (x : Register) → IsConstant first → register_with d n written first ≡ Gives x → IsRegister d x
register-good d good n written first x is e =
    let name = bind-gives (new_name d n) (register_of d written first) x e in
    let of = bind-gives (type_of d written) (register_typed d first name.0) x name.2 in
    let known = bind-gives (constant_of first d) (register_known d name.0 of.0) x of.2 in
    let made : Register = record { name = name.0; of = of.0; width = width_of d of.0; first = known.0.value } in
    let all = where-all (agrees (Some of.0) known.0.part ∷ []) made x known.2 in
    let it = constant-typed first is d good known.0 known.1 in
    let same : it.0 ≡ of.0 = same_Some it.0 of.0 (sym it.1 ∙ agrees-is (Some of.0) known.0.part all.1.0) in
    subst (IsRegister d) all.0 (record { of = type-valid d written of.0 of.1; width = refl; first = subst (IsOf d known.0.value) same it.2 })

-- an input
pub input-good : (d : Checked) (n : Name) (written : TypeExpression) (x : Input) → input_with d n written ≡ Gives x → IsInput d x
input-good d n written x e =
    let name = bind-gives (new_name d n) (input_of d written) x e in
    let of = bind-gives (type_of d written) (input_typed d name.0) x name.2 in
    let made : Input = record { name = name.0; of = of.0; width = width_of d of.0 } in
    subst (IsInput d) (gives-same made x of.2) (record { of = type-valid d written of.0 of.1; width = refl })

-- ---- tables and host functions

entries_fit : (w : ℕ) (entries : List Literal) → AllByRecursion LiteralFits entries → AllByRecursion (λ l. has_width w l ≡ None) entries → AllByRecursion (λ (b : BitVector). HasWidth b w) (map (λ (l : Literal). l.bits) entries)
entries_fit w [] is fit = tt
entries_fit w (l ∷ entries) is fit = ((is.0, has-width w l fit.0), entries_fit w entries is.1 fit.1)

abbrev IsGoodTable : Table → Type 0
IsGoodTable t = IsTable t.spec × IsWidth t.spec.out_width

-- a table
pub table-good : (d : Checked) (n : Name) (input output : Width) (entries : List Literal) (x : Table) → All LiteralFits entries → table_with d n input output entries ≡ Gives x → IsGoodTable x
table-good d n input output entries x is e =
    let name = bind-gives (new_name d n) (table_of n input output entries) x e in
    let in_width = input.number.value in
    let out_width = output.number.value in
    let made : Table = record { name = name.0; spec = record { in_width = in_width; out_width = out_width; entries = map (λ (l : Literal). l.bits) entries } } in
    let few = nat_le 1 in_width && nat_le in_width MAX_TABLE_IN_WIDTH in
    let all = where-all
    (holds few (wrong WRONG_WIDTH input.place) ∷ holds (is_width out_width) (wrong WRONG_WIDTH output.place) ∷ each (has_width out_width) entries
    ∷ holds (nat_eq (length entries) (2 ^ in_width)) (wrong WRONG_ENTRY_COUNT n.place) ∷ []) made x name.2 in
    let both = both-true (nat_le 1 in_width) (nat_le in_width MAX_TABLE_IN_WIDTH) (holds-true few (wrong WRONG_WIDTH input.place) all.1.0) in
    let count = eqb-true (length entries) (2 ^ in_width) (holds-true (nat_eq (length entries) (2 ^ in_width)) (wrong WRONG_ENTRY_COUNT n.place) all.1.1.1.1.0) in
    let fit = entries_fit out_width entries (recursion_from_All LiteralFits entries is) (each-none (has_width out_width) entries all.1.1.1.0) in
    subst IsGoodTable all.0 (
      record {
        some_input = leb-true 1 in_width both.0;
        few_inputs = leb-true in_width MAX_TABLE_IN_WIDTH both.1;
        count = length-map entries (λ (l : Literal). l.bits) ∙ count;
        entries = All-from_recursion (λ (b : BitVector). HasWidth b out_width) (map (λ (l : Literal). l.bits) entries) fit;
      },
      is-width out_width (holds-true (is_width out_width) (wrong WRONG_WIDTH output.place) all.1.1.0),
    )

find_contained : {X : Type 0} (p : X → Bool) (xs : List X) (x : X) → find p xs ≡ Some x → Contains xs x
find_contained p [] x e = absurd cc
find_contained {X} p (y ∷ ys) x e = by_test (p y) refl (find_contained p ys x)
  where
    by_test : (b : Bool) → p y ≡ b → (find p ys ≡ Some x → Contains ys x) → Contains (y ∷ ys) x
    by_test true f inner =
        let here : ◌≡◌ {A = Option X} (Some y) (Some x) = sym (ap (λ b. cond b (Some y) (find p ys)) f) ∙ e in
        (0, omega arith, same_Some y x here)
    by_test false f inner =
        let there = inner (sym (ap (λ b. cond b (Some y) (find p ys)) f) ∙ e) in
        (suc there.0, omega (arith, there.1), there.2)

-- a host function is one of those that are handed in
pub host-good : (hosts : List HostSpec) (d : Checked) (n : Name) (input output : Width) (x : Host) → All (λ (h : HostSpec). TakesWidth h.kind h.in_width) hosts → host_with hosts d n input output ≡ Gives x →
    IsHost x.spec × Contains hosts x.spec
host-good hosts d n input output x takes e =
    let name = bind-gives (new_name d n) (host_of hosts n input output) x e in
    let test = is_host name.0 input.number.value output.number.value in
    let spec = bind-gives (found (find test hosts) (wrong UNKNOWN_HOST_FUNCTION n.place)) _ x name.2 in
    let made : Host = record { name = name.0; spec = spec.0 } in
    let there = found-some (find test hosts) (wrong UNKNOWN_HOST_FUNCTION n.place) spec.0 spec.1 in
    subst (λ (x : Host). IsHost x.spec × Contains hosts x.spec) (gives-same made x spec.2)
    (find-all (λ (h : HostSpec). TakesWidth h.kind h.in_width) test hosts spec.0 takes there, find_contained test hosts spec.0 there)

-- ---- functions and rules

parameters_good : (d : Checked) (written : List WrittenField) (start declared : List Local) → AllByRecursion (IsType d) (types_of start) → one_by_one (add_parameter d) written start ≡ Gives declared → AllByRecursion (IsType d) (types_of declared)
parameters_good d [] start declared h e = subst (λ ls. AllByRecursion (IsType d) (types_of ls)) (gives-same start declared e) h
parameters_good d (f ∷ written) start declared h e =
    let next = bind-gives (add_parameter d f start) (one_by_one (add_parameter d) written) declared e in
    let name = bind-gives (other_name (names_of_locals start) f.name) _ next.0 next.1 in
    let of = bind-gives (type_of d f.of) _ next.0 name.2 in
    let one : Local = record { name = name.0; of = of.0 } in
    parameters_good d written next.0 declared (subst (λ ls. AllByRecursion (IsType d) (types_of ls)) (gives-same (one ∷ start) next.0 of.2) (type-valid d f.of of.0 of.1, h)) next.2

in_order : (d : Checked) (locals : List Local) → AllByRecursion (IsType d) (types_of locals) → AllByRecursion (IsType d) (types_in_order locals)
in_order d [] h = tt
in_order d (l ∷ outer) h = each-push (IsType d) (types_in_order outer) l.of (in_order d outer h.1) h.0

turned : (locals : List Local) → reverse (types_in_order locals) ≡ types_of locals
turned [] = refl
turned (l ∷ outer) = reverse-append (types_in_order outer) (l.of ∷ []) ∙ ap (λ (ts : List ValueType). l.of ∷ ts) (turned outer)

result_good : (d : Checked) (written : Option TypeExpression) (of : Option ValueType) → result_of d written ≡ Gives of → IfSome of (IsType d)
result_good d None of e = subst (λ o. IfSome o (IsType d)) (gives-same None of e) tt
result_good d (Some written) of e =
    let t = bind-gives (type_of d written) _ of e in
    subst (λ o. IfSome o (IsType d)) (gives-same (Some t.0) of t.2) (type-valid d written t.0 t.1)

-- a function's body where it is declared
pub record IsGoodFunction (d : Checked) (f : CheckedFunction) : Type 0 where
  pub parameters : All (IsType d) f.parameters
  pub result : IfSome f.result (IsType d)
  pub body : HasType d (length d.functions) f.body (reverse f.parameters) f.result

-- a function
pub function-good : (d : Checked) → IsTypedSoFar d → (n : Name) (parameters : List WrittenField) (written : Option TypeExpression) (body : Block) (x : CheckedFunction) → IsBlock body →
    function_with d n parameters written body ≡ Gives x → IsGoodFunction d x
function-good d good n parameters written body x is e =
    let name = bind-gives (new_name d n) (function_of d parameters written body) x e in
    let locals = bind-gives (one_by_one (add_parameter d) parameters []) (function_result d written body name.0) x name.2 in
    let of = bind-gives (result_of d written) (function_body d body name.0 locals.0) x locals.2 in
    let scope : Scope = record { design = d; locals = locals.0 } in
    let typed = bind-gives (block_in body scope) (function_typed name.0 locals.0 of.0) x of.2 in
    let made : CheckedFunction = record { name = name.0; parameters = types_in_order locals.0; result = of.0; body = typed.0.typed } in
    let all = where-all (agrees of.0 typed.0.part ∷ []) made x typed.2 in
    let types = parameters_good d parameters [] locals.0 tt locals.1 in
    let has = block-in-typed body is scope (record { design = good; locals = All-from_recursion (IsType d) (types_of locals.0) types }) typed.0 typed.1 in
    subst (IsGoodFunction d) {x = made} all.0
    (record {
      parameters = All-from_recursion (IsType d) (types_in_order locals.0) (in_order d locals.0 types);
      result = result_good d written of.0 of.1;
      body = subst (λ ts. HasType d (length d.functions) typed.0.typed ts of.0) (sym (turned locals.0))
          (subst (HasType d (length d.functions) typed.0.typed (types_of locals.0)) (agrees-is of.0 typed.0.part all.1.0) has);
    })

-- a rule
pub rule-good : (d : Checked) → IsTypedSoFar d → (n : Name) (body : Block) (x : CheckedRule) → IsBlock body → rule_with d n body ≡ Gives x → HasType d (length d.functions) x.body [] None
rule-good d good n body x is e =
    let name = bind-gives (new_name d n) (rule_of d body) x e in
    let scope : Scope = record { design = d; locals = [] } in
    let typed = bind-gives (block_in body scope) (rule_typed name.0) x name.2 in
    let made : CheckedRule = record { name = name.0; body = typed.0.typed } in
    let all = where-all (agrees None typed.0.part ∷ []) made x typed.2 in
    let has = block-in-typed body is scope (record { design = good; locals = All-nil (IsType d) }) typed.0 typed.1 in
    subst (λ (x : CheckedRule). HasType d (length d.functions) x.body [] None) all.0 (subst (HasType d (length d.functions) typed.0.typed []) (agrees-is None typed.0.part all.1.0) has)
