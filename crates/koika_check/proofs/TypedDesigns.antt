-- What the declarations of a tree of the grammar come to is well typed so far.
use Rattle.std.proofs.Common.{◌≡◌, ℕ, ◌<◌, ◌≤◌, not, nat_eq, get_or, min, List, [], ◌∷◌, ◌++◌, length, map, slice_get, Some, None, arith, ap, sym, subst, ◌∙◌}
use Rattle.std.specs.List.{All, AllByRecursion, Contains, list_any}
use Rattle.std.specs.Prelude.{sum_by}
use Rattle.std.proofs.lemmas.List.{length-append, length-map}
use Rattle.std.proofs.lemmas.List.Elements.{All-nil, All-push, All-weaker, recursion_from_All}
use Rattle.kw_base.specs.declared.fault_number.TheConstants.{REPEATED_NAME, UNKNOWN_NAME}
use Rattle.kw_bits.specs.Host.{TakesWidth}
use Rattle.koika_syntax.specs.Grammar.{IsDeclaration}
use Rattle.koika_syntax.specs.declared.tree.Declaration.{Declaration}
use Rattle.koika_syntax.specs.declared.tree.Declaration.TheVariants as declarations
use Rattle.koika_syntax.specs.declared.tree.Name.{Name}
use Rattle.koika_types.specs.declared.declarations.EnumDecl.{EnumDecl}
use Rattle.typed_core.specs.Valid.{IsHost, IsTable, IsWidth}
use Rattle.kw_bits.specs.declared.host.HostSpec.{HostSpec}
use Rattle.typed_core.specs.declared.design.Node.{Node}
use Rattle.koika_check.specs.Declarations.{assert_of, assert_with, declare, enum_with, function_with, host_with, input_with, nothing, register_with, rule_with, struct_with, table_with}
use Rattle.koika_check.specs.Outcomes.{Gives, found, holds, one_by_one, wrong}
use Rattle.koika_check.specs.Types.{width_of}
use Rattle.koika_check.specs.Typing.{HasType, IsFunction, IsInput, IsRegister, IsStruct, IsType}
use Rattle.koika_check.specs.declared.checked.Checked.{Checked}
use Rattle.koika_check.specs.declared.checked.CheckedField.{CheckedField}
use Rattle.koika_check.specs.declared.checked.CheckedFunction.{CheckedFunction}
use Rattle.koika_check.specs.declared.checked.Host.{Host}
use Rattle.koika_check.specs.declared.checked.Input.{Input}
use Rattle.koika_check.specs.declared.checked.Register.{Register}
use Rattle.koika_check.specs.declared.checked.CheckedRule.{CheckedRule}
use Rattle.koika_check.specs.declared.checked.Struct.{Struct}
use Rattle.koika_check.specs.declared.checked.Table.{Table}
use Rattle.koika_check.specs.Kinds.{number_named}
use Rattle.koika_check.specs.declared.things.Kind.TheVariants as kind
use Rattle.koika_check.proofs.Answering.{bind-gives, found-some}
use Rattle.koika_check.proofs.Positions.{number_of-within}
use Rattle.koika_check.proofs.TypedAdditions.{each-at-push, function-stays, input-stays, register-stays, rule-stays, struct-stays}
use Rattle.koika_check.proofs.TypedDeclarations.{enum-fits, function-good, host-good, input-good, is-among, register-good, rule-good, struct-good, table-good}
use Rattle.koika_check.proofs.TypedGrowth.{Extends, stays-push, stays-same, sum-stays, type-stays}
use Rattle.koika_check.proofs.TypedParts.{gives-same, where-all}
use Rattle.koika_check.proofs.TypedSoFar.{AreDistinct, IsEnumSoFar, IsTypedSoFar}

-- ---- one more of a kind

abbrev pub with_enum : Checked → EnumDecl → Checked
with_enum d x = record d { enums = d.enums ++ x ∷ [] }

abbrev pub with_struct : Checked → Struct → Checked
with_struct d x = record d { structs = d.structs ++ x ∷ [] }

abbrev pub with_register : Checked → Register → Checked
with_register d x = record d { registers = d.registers ++ x ∷ [] }

abbrev pub with_input : Checked → Input → Checked
with_input d x = record d { inputs = d.inputs ++ x ∷ [] }

abbrev pub with_table : Checked → Table → Checked
with_table d x = record d { tables = d.tables ++ x ∷ [] }

abbrev pub with_host : Checked → Host → Checked
with_host d x = record d { hosts = d.hosts ++ x ∷ [] }

abbrev pub with_function : Checked → CheckedFunction → Checked
with_function d x = record d { functions = d.functions ++ x ∷ [] }

abbrev pub with_rule : Checked → CheckedRule → Checked
with_rule d x = record d { rules = d.rules ++ x ∷ [] }

abbrev pub with_assert : Checked → ℕ → Checked
with_assert d x = record d { asserts = d.asserts ++ x ∷ [] }

extends-enum : (d : Checked) (x : EnumDecl) → Extends d (with_enum d x)
extends-enum d x = record {
  enums = stays-push d.enums x;
  structs = stays-same d.structs;
  registers = stays-same d.registers;
  inputs = stays-same d.inputs;
  tables = stays-same d.tables;
  hosts = stays-same d.hosts;
  functions = stays-same d.functions;
}

extends-struct : (d : Checked) (x : Struct) → Extends d (with_struct d x)
extends-struct d x = record {
  enums = stays-same d.enums;
  structs = stays-push d.structs x;
  registers = stays-same d.registers;
  inputs = stays-same d.inputs;
  tables = stays-same d.tables;
  hosts = stays-same d.hosts;
  functions = stays-same d.functions;
}

extends-register : (d : Checked) (x : Register) → Extends d (with_register d x)
extends-register d x = record {
  enums = stays-same d.enums;
  structs = stays-same d.structs;
  registers = stays-push d.registers x;
  inputs = stays-same d.inputs;
  tables = stays-same d.tables;
  hosts = stays-same d.hosts;
  functions = stays-same d.functions;
}

extends-input : (d : Checked) (x : Input) → Extends d (with_input d x)
extends-input d x = record {
  enums = stays-same d.enums;
  structs = stays-same d.structs;
  registers = stays-same d.registers;
  inputs = stays-push d.inputs x;
  tables = stays-same d.tables;
  hosts = stays-same d.hosts;
  functions = stays-same d.functions;
}

extends-table : (d : Checked) (x : Table) → Extends d (with_table d x)
extends-table d x = record {
  enums = stays-same d.enums;
  structs = stays-same d.structs;
  registers = stays-same d.registers;
  inputs = stays-same d.inputs;
  tables = stays-push d.tables x;
  hosts = stays-same d.hosts;
  functions = stays-same d.functions;
}

extends-host : (d : Checked) (x : Host) → Extends d (with_host d x)
extends-host d x = record {
  enums = stays-same d.enums;
  structs = stays-same d.structs;
  registers = stays-same d.registers;
  inputs = stays-same d.inputs;
  tables = stays-same d.tables;
  hosts = stays-push d.hosts x;
  functions = stays-same d.functions;
}

extends-function : (d : Checked) (x : CheckedFunction) → Extends d (with_function d x)
extends-function d x = record {
  enums = stays-same d.enums;
  structs = stays-same d.structs;
  registers = stays-same d.registers;
  inputs = stays-same d.inputs;
  tables = stays-same d.tables;
  hosts = stays-same d.hosts;
  functions = stays-push d.functions x;
}

-- nothing that types rest on was declared
extends-others : (d : Checked) (rules : List CheckedRule) (asserts : List ℕ) → Extends d (record d { rules = rules; asserts = asserts })
extends-others d rules asserts = record {
  enums = stays-same d.enums;
  structs = stays-same d.structs;
  registers = stays-same d.registers;
  inputs = stays-same d.inputs;
  tables = stays-same d.tables;
  hosts = stays-same d.hosts;
  functions = stays-same d.functions;
}

-- what was declared before, in a design with more
record IsCarried (d e : Checked) : Type 0 where
  structs : (number : ℕ) (s : Struct) → slice_get d.structs number ≡ Some s → IsStruct e number s × AreDistinct s.fields
  registers : All (IsRegister e) d.registers
  inputs : All (IsInput e) d.inputs
  functions : (number : ℕ) (f : CheckedFunction) → slice_get d.functions number ≡ Some f → IsFunction e number f
  rules : All (λ (r : CheckedRule). HasType e (length e.functions) r.body [] None) d.rules

carried : (d e : Checked) → Extends d e → IsTypedSoFar d → length d.functions ≤ length e.functions → IsCarried d e
carried d e g h le = record {
  structs = λ number s at. (struct-stays d e g h number s (h.structs number s at).0, (h.structs number s at).1);
  registers = All-weaker (IsRegister d) (IsRegister e) (register-stays d e g h) d.registers h.registers;
  inputs = All-weaker (IsInput d) (IsInput e) (input-stays d e g h) d.inputs h.inputs;
  functions = λ number f at. function-stays d e g h number f (h.functions number f at);
  rules = All-weaker (λ (r : CheckedRule). HasType d (length d.functions) r.body [] None) (λ (r : CheckedRule). HasType e (length e.functions) r.body [] None)
      (rule-stays d e g h (length d.functions) (length e.functions) le) d.rules h.rules;
}

-- a design with these lists, of which each is carried or has one more
with_one : (d e : Checked) → IsTypedSoFar d → IsCarried d e → All IsEnumSoFar e.enums →
    ((number : ℕ) (s : Struct) → slice_get e.structs number ≡ Some s → IsStruct e number s × AreDistinct s.fields) → All (IsRegister e) e.registers → All (IsInput e) e.inputs →
    All (λ (t : Table). IsTable t.spec × IsWidth t.spec.out_width) e.tables → All (λ (h : Host). IsHost h.spec) e.hosts → ((number : ℕ) (f : CheckedFunction) → slice_get e.functions number ≡ Some f → IsFunction e number f) →
    All (λ (r : CheckedRule). HasType e (length e.functions) r.body [] None) e.rules → All (λ rule. rule < length e.rules) e.asserts → IsTypedSoFar e
with_one d e h c enums structs registers inputs tables hosts functions rules asserts = record {
  enums = enums;
  structs = structs;
  registers = registers;
  inputs = inputs;
  tables = tables;
  hosts = hosts;
  functions = functions;
  rules = rules;
  asserts = asserts;
}

module _ (d : Checked) (h : IsTypedSoFar d) where
  pub enum-more : (x : EnumDecl) → IsEnumSoFar x → IsTypedSoFar (with_enum d x)
  enum-more x is =
      let e = with_enum d x in
      let c = carried d e (extends-enum d x) h (omega arith) in
      with_one d e h c (All-push IsEnumSoFar d.enums x h.enums is) c.structs c.registers c.inputs h.tables h.hosts c.functions c.rules h.asserts

  pub struct-more : (x : Struct) → IsStruct (with_struct d x) (length d.structs) x × AreDistinct x.fields → IsTypedSoFar (with_struct d x)
  struct-more x is =
      let e = with_struct d x in
      let c = carried d e (extends-struct d x) h (omega arith) in
      with_one d e h c h.enums (each-at-push (λ number s. IsStruct e number s × AreDistinct s.fields) d.structs x c.structs is) c.registers c.inputs h.tables h.hosts c.functions c.rules h.asserts

  pub register-more : (x : Register) → IsRegister d x → IsTypedSoFar (with_register d x)
  register-more x is =
      let e = with_register d x in
      let c = carried d e (extends-register d x) h (omega arith) in
      with_one d e h c h.enums c.structs (All-push (IsRegister e) d.registers x c.registers (register-stays d e (extends-register d x) h x is)) c.inputs h.tables h.hosts c.functions c.rules h.asserts

  pub input-more : (x : Input) → IsInput d x → IsTypedSoFar (with_input d x)
  input-more x is =
      let e = with_input d x in
      let c = carried d e (extends-input d x) h (omega arith) in
      with_one d e h c h.enums c.structs c.registers (All-push (IsInput e) d.inputs x c.inputs (input-stays d e (extends-input d x) h x is)) h.tables h.hosts c.functions c.rules h.asserts

  pub table-more : (x : Table) → IsTable x.spec × IsWidth x.spec.out_width → IsTypedSoFar (with_table d x)
  table-more x is =
      let e = with_table d x in
      let c = carried d e (extends-table d x) h (omega arith) in
      with_one d e h c h.enums c.structs c.registers c.inputs (All-push (λ (t : Table). IsTable t.spec × IsWidth t.spec.out_width) d.tables x h.tables is) h.hosts c.functions c.rules h.asserts

  pub host-more : (x : Host) → IsHost x.spec → IsTypedSoFar (with_host d x)
  host-more x is =
      let e = with_host d x in
      let c = carried d e (extends-host d x) h (omega arith) in
      with_one d e h c h.enums c.structs c.registers c.inputs h.tables (All-push (λ (k : Host). IsHost k.spec) d.hosts x h.hosts is) c.functions c.rules h.asserts

  pub function-more : (x : CheckedFunction) → IsFunction d (length d.functions) x → IsTypedSoFar (with_function d x)
  function-more x is =
      let e = with_function d x in
      let g = extends-function d x in
      let c = carried d e g h (omega (arith, length-append d.functions (x ∷ []))) in
      with_one d e h c h.enums c.structs c.registers c.inputs h.tables h.hosts (each-at-push (IsFunction e) d.functions x c.functions (function-stays d e g h (length d.functions) x is)) c.rules h.asserts

  pub rule-more : (x : CheckedRule) → HasType d (length d.functions) x.body [] None → IsTypedSoFar (with_rule d x)
  rule-more x is =
      let e = with_rule d x in
      let g = extends-others d (d.rules ++ x ∷ []) d.asserts in
      let c = carried d e g h (omega arith) in
      with_one d e h c h.enums c.structs c.registers c.inputs h.tables h.hosts c.functions
      (All-push (λ (r : CheckedRule). HasType e (length e.functions) r.body [] None) d.rules x c.rules (rule-stays d e g h (length d.functions) (length e.functions) (omega arith) x is))
      (All-weaker (λ rule. rule < length d.rules) (λ rule. rule < length e.rules) (λ rule lt. omega (arith, lt, length-append d.rules (x ∷ []))) d.asserts h.asserts)

  pub assert-more : (x : ℕ) → x < length d.rules → IsTypedSoFar (with_assert d x)
  assert-more x is =
      let e = with_assert d x in
      let c = carried d e (extends-others d d.rules (d.asserts ++ x ∷ [])) h (omega arith) in
      with_one d e h c h.enums c.structs c.registers c.inputs h.tables h.hosts c.functions c.rules (All-push (λ rule. rule < length d.rules) d.asserts x h.asserts is)

-- its nodes and its weight are noted
pub noted : (d : Checked) (nodes : List Node) (weight : ℕ) → IsTypedSoFar d → IsTypedSoFar (record d { nodes = nodes; weight = weight })
noted d nodes weight h =
    let e : Checked = record d { nodes = nodes; weight = weight } in
    let g : Extends d e = record {
      enums = stays-same d.enums;
      structs = stays-same d.structs;
      registers = stays-same d.registers;
      inputs = stays-same d.inputs;
      tables = stays-same d.tables;
      hosts = stays-same d.hosts;
      functions = stays-same d.functions;
    } in
    let c = carried d e g h (omega arith) in
    with_one d e h c h.enums c.structs c.registers c.inputs h.tables h.hosts c.functions c.rules h.asserts

-- ---- declarations

-- a struct of good fields, in a design that has it
struct_is : (d : Checked) → IsTypedSoFar d → (x : Struct) → All (λ (f : CheckedField). IsType d f.of) x.fields × AreDistinct x.fields × (x.width ≡ min (sum_by (λ (f : CheckedField). width_of d f.of) x.fields) 129) →
    IsStruct (with_struct d x) (length d.structs) x × AreDistinct x.fields
struct_is d h x good =
    let g = extends-struct d x in (
      record {
        fields = λ k f lt. let t = (get_or x.fields k f).of in (type-stays d (with_struct d x) g t (good.0 k f lt), is-among d t (good.0 k f lt));
        width = good.2 ∙ ap (λ w. min w 129) (sym (sum-stays d (with_struct d x) g x.fields good.0));
      },
      good.1,
    )

-- an `assert` marks a rule that there is
asserted : (d : Checked) (n : Name) (rule : ℕ) → assert_with d n ≡ Gives rule → rule < length d.rules
asserted d n rule e =
    let number = bind-gives (found (number_named kind.Rule d n.text) (wrong UNKNOWN_NAME n.place)) (assert_of d n) rule e in
    let all = where-all (holds (not (list_any (nat_eq number.0) d.asserts)) (wrong REPEATED_NAME n.place) ∷ []) number.0 rule number.2 in
    let names = map (λ (r : CheckedRule). r.name) d.rules in
    let within = (number_of-within names n.text number.0 (found-some (number_named kind.Rule d n.text) (wrong UNKNOWN_NAME n.place) number.0 number.1)).0 in
    subst (λ k. k < length d.rules) all.0 (omega (arith, within, length-map d.rules (λ (r : CheckedRule). r.name)))

-- a design, and its host functions among those that are handed in
abbrev pub IsSoFar : List HostSpec → Checked → Type 0
IsSoFar hosts d = IsTypedSoFar d × All (λ (h : Host). Contains hosts h.spec) d.hosts

module _ (hosts : List HostSpec) (takes : All (λ (h : HostSpec). TakesWidth h.kind h.in_width) hosts) where
  -- one more declaration of the grammar
  pub declared-typed : (x : Declaration) (d e : Checked) → IsDeclaration x → IsSoFar hosts d → declare hosts x d ≡ Gives e → IsSoFar hosts e
  declared-typed (declarations.Enum n width members) d e is h gives =
      let one = bind-gives (enum_with d n width members) _ e gives in
      subst (IsSoFar hosts) (gives-same (with_enum d one.0) e one.2) (enum-more d h.0 one.0 (enum-fits d n width members one.0 is.3 one.1), h.1)
  declared-typed (declarations.Struct n fields) d e is h gives =
      let one = bind-gives (struct_with d n fields) _ e gives in
      subst (IsSoFar hosts) (gives-same (with_struct d one.0) e one.2) (struct-more d h.0 one.0 (struct_is d h.0 one.0 (struct-good d n fields one.0 one.1)), h.1)
  declared-typed (declarations.Register n of first) d e is h gives =
      let one = bind-gives (register_with d n of first) _ e gives in
      subst (IsSoFar hosts) (gives-same (with_register d one.0) e one.2) (register-more d h.0 one.0 (register-good d h.0 n of first one.0 is.2 one.1), h.1)
  declared-typed (declarations.Input n of) d e is h gives =
      let one = bind-gives (input_with d n of) _ e gives in
      subst (IsSoFar hosts) (gives-same (with_input d one.0) e one.2) (input-more d h.0 one.0 (input-good d n of one.0 one.1), h.1)
  declared-typed (declarations.Table n input output entries) d e is h gives =
      let one = bind-gives (table_with d n input output entries) _ e gives in
      subst (IsSoFar hosts) (gives-same (with_table d one.0) e one.2) (table-more d h.0 one.0 (table-good d n input output entries one.0 is.4 one.1), h.1)
  declared-typed (declarations.Host n input output) d e is h gives =
      let one = bind-gives (host_with hosts d n input output) _ e gives in
      let good = host-good hosts d n input output one.0 takes one.1 in
      subst (IsSoFar hosts) (gives-same (with_host d one.0) e one.2) (host-more d h.0 one.0 good.0, All-push (λ (k : Host). Contains hosts k.spec) d.hosts one.0 h.1 good.1)
  declared-typed (declarations.Function n parameters written body) d e is h gives =
      let one = bind-gives (function_with d n parameters written body) _ e gives in
      let good = function-good d h.0 n parameters written body one.0 is.3 one.1 in
      subst (IsSoFar hosts) (gives-same (with_function d one.0) e one.2) (function-more d h.0 one.0 (record { parameters = good.parameters; result = good.result; body = good.body }), h.1)
  declared-typed (declarations.Rule n body) d e is h gives =
      let one = bind-gives (rule_with d n body) _ e gives in
      subst (IsSoFar hosts) (gives-same (with_rule d one.0) e one.2) (rule-more d h.0 one.0 (rule-good d h.0 n body one.0 is.1 one.1), h.1)
  declared-typed (declarations.Assert n) d e is h gives =
      let one = bind-gives (assert_with d n) _ e gives in
      subst (IsSoFar hosts) (gives-same (with_assert d one.0) e one.2) (assert-more d h.0 one.0 (asserted d n one.0 one.1), h.1)

  all_declared : (xs : List Declaration) (d e : Checked) → AllByRecursion IsDeclaration xs → IsSoFar hosts d → one_by_one (declare hosts) xs d ≡ Gives e → IsSoFar hosts e
  all_declared [] d e is h gives = subst (IsSoFar hosts) (gives-same d e gives) h
  all_declared (x ∷ xs) d e is h gives =
      let next = bind-gives (declare hosts x d) (one_by_one (declare hosts) xs) e gives in
      all_declared xs next.0 e is.1 (declared-typed x d next.0 is.0 h next.1) next.2

  nothing_typed : IsSoFar hosts nothing
  nothing_typed = (
    record {
      enums = All-nil IsEnumSoFar;
      structs = λ number s e. absurd cc;
      registers = All-nil (IsRegister nothing);
      inputs = All-nil (IsInput nothing);
      tables = All-nil (λ (t : Table). IsTable t.spec × IsWidth t.spec.out_width);
      hosts = All-nil (λ (h : Host). IsHost h.spec);
      functions = λ number f e. absurd cc;
      rules = All-nil (λ (r : CheckedRule). HasType nothing 0 r.body [] None);
      asserts = All-nil (λ rule. rule < 0);
    },
    All-nil (λ (h : Host). Contains hosts h.spec),
  )

  -- what all declarations of a tree come to
  pub declarations-typed : (xs : List Declaration) (e : Checked) → All IsDeclaration xs → one_by_one (declare hosts) xs nothing ≡ Gives e → IsSoFar hosts e
  declarations-typed xs e is gives = all_declared xs nothing e (recursion_from_All IsDeclaration xs is) nothing_typed gives
