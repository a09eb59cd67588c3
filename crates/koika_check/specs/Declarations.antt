-- What a declaration adds to a design, or its first fault. Declarations are looked at in order of the text, and each
-- name can be used after its declaration. The names of all kinds are one set. This project's own rules.
use Rattle.std.specs.Prelude.{ℕ, ◌^◌, ◌&&◌, ◌||◌, not, nat_eq, nat_le, Bool, map, min, List, [], ◌∷◌, ◌++◌, length, Option, Some, None, is_some, find, sum_by, codes}
use Rattle.std.specs.List.{list_any}
use Rattle.std.specs.Str.{bytes_eq}
use Rattle.kw_base.specs.Names.{number_of}
use Rattle.kw_base.specs.declared.fault_number.TheConstants.{REPEATED_NAME, UNKNOWN_NAME, WRONG_WIDTH, WRONG_ENTRY_COUNT, UNKNOWN_HOST_FUNCTION}
use Rattle.kw_bits.specs.Host as host
use Rattle.kw_bits.specs.declared.host.HostKind.{HostKind}
use Rattle.kw_bits.specs.declared.host.HostKind.TheVariants as kinds
use Rattle.koika_syntax.specs.declared.tree.Block.{Block}
use Rattle.koika_syntax.specs.declared.tree.Constant.{Constant}
use Rattle.koika_syntax.specs.declared.tree.Declaration.{Declaration}
use Rattle.koika_syntax.specs.declared.tree.Declaration.TheVariants as declarations
use Rattle.koika_syntax.specs.declared.tree.Field.{Field as WrittenField}
use Rattle.koika_syntax.specs.declared.tree.Literal.{Literal}
use Rattle.koika_syntax.specs.declared.tree.EnumMember.{EnumMember as WrittenMember}
use Rattle.koika_syntax.specs.declared.tree.Name.{Name}
use Rattle.koika_syntax.specs.declared.tree.TypeExpression.{TypeExpression}
use Rattle.koika_syntax.specs.declared.tree.Width.{Width}
use Rattle.koika_types.specs.declared.declarations.EnumDecl.{EnumDecl}
use Rattle.koika_types.specs.declared.declarations.Member.{Member}
use Rattle.kw_bits.specs.declared.host.HostSpec.{HostSpec}
use Rattle.typed_core.specs.declared.limits.TheConstants.{MAX_TABLE_IN_WIDTH}
use Rattle.koika_check.specs.Outcomes.{CheckResult, ◌>>=◌, Gives, Condition, holds, one_by_one, where_all, found, wrong}
use Rattle.koika_check.specs.Types.{agrees, each, is_width, type_of, width_of}
use Rattle.koika_check.specs.Constants.{Known, constant_of}
use Rattle.koika_check.specs.Scopes.{Local}
use Rattle.koika_check.specs.Constructs.{Typing}
use Rattle.koika_check.specs.Expressions.{block_in}
use Rattle.koika_check.specs.declared.checked.Checked.{Checked}
use Rattle.koika_check.specs.declared.checked.CheckedField.{CheckedField}
use Rattle.koika_check.specs.declared.checked.CheckedFunction.{CheckedFunction}
use Rattle.koika_check.specs.declared.checked.Host.{Host}
use Rattle.koika_check.specs.declared.checked.Input.{Input}
use Rattle.koika_check.specs.declared.checked.Register.{Register}
use Rattle.koika_check.specs.declared.checked.CheckedRule.{CheckedRule}
use Rattle.koika_check.specs.declared.checked.Struct.{Struct}
use Rattle.koika_check.specs.declared.checked.Table.{Table}
use Rattle.koika_check.specs.declared.typed.ValueType.{ValueType}
use Rattle.koika_check.specs.Kinds.{number_named}
use Rattle.koika_check.specs.declared.things.Kind.TheVariants as kind

-- ---- names

-- whether a name is declared, as whatever
abbrev pub is_declared : Checked → List ℕ → Bool
is_declared d name =
    is_some (number_named kind.Enum d name) || is_some (number_named kind.Struct d name) || is_some (number_named kind.Register d name) || is_some (number_named kind.Input d name) ||
    is_some (number_named kind.Table d name) || is_some (number_named kind.Host d name) || is_some (number_named kind.Function d name) || is_some (number_named kind.Rule d name)

-- the second declaration of a name is 21
abbrev pub new_name : Checked → Name → CheckResult (List ℕ)
new_name d n = where_all (holds (not (is_declared d n.text)) (wrong REPEATED_NAME n.place) ∷ []) n.text

-- so is the second of two parts with one name
abbrev pub other_name : List (List ℕ) → Name → CheckResult (List ℕ)
other_name names n = where_all (holds (not (is_some (number_of names n.text))) (wrong REPEATED_NAME n.place) ∷ []) n.text

-- ---- enums and structs

-- the names of members
abbrev pub names_of_members : List Member → List (List ℕ)
names_of_members = map (λ (m : Member). m.name)

-- members and one more, of another name
abbrev pub add_member : WrittenMember → List Member → CheckResult (List Member)
add_member m members = other_name (names_of_members members) m.name >>= λ name.
    Gives (members ++ record { name = name; bits = m.value.bits } ∷ [])

-- a literal of this width (23)
abbrev pub has_width : ℕ → Literal → Condition
has_width width l = holds (nat_eq l.bits.width width) (wrong WRONG_WIDTH l.place)

-- `enum`: its width 1 to 128, and each literal of that width, else 23
abbrev pub enum_typed : Width → List WrittenMember → List ℕ → List Member → CheckResult EnumDecl
enum_typed width members name declared =
    where_all
    (holds (is_width width.number.value) (wrong WRONG_WIDTH width.place)
    ∷ each (has_width width.number.value) (map (λ (m : WrittenMember). m.value) members)
    ∷ [])
    (record { name = name; width = width.number.value; members = declared })

-- an enum of these members
abbrev pub enum_of : Width → List WrittenMember → List ℕ → CheckResult EnumDecl
enum_of width members name = one_by_one add_member members [] >>= enum_typed width members name

-- an enum whose name is new
abbrev pub enum_with : Checked → Name → Width → List WrittenMember → CheckResult EnumDecl
enum_with d n width members = new_name d n >>= enum_of width members

-- the names of fields
abbrev pub names_of_fields : List CheckedField → List (List ℕ)
names_of_fields = map (λ (f : CheckedField). f.name)

-- fields and one more, of this type
abbrev pub field_typed : List CheckedField → List ℕ → ValueType → CheckResult (List CheckedField)
field_typed fields name of = Gives (fields ++ record { name = name; of = of } ∷ [])

-- fields and one more, of another name
abbrev pub add_field : Checked → WrittenField → List CheckedField → CheckResult (List CheckedField)
add_field d f fields = other_name (names_of_fields fields) f.name >>= λ name. type_of d f.of >>= field_typed fields name

-- `struct`: its width is that of its fields together, where 129 stands for more than 128
abbrev pub struct_typed : Checked → List ℕ → List CheckedField → CheckResult Struct
struct_typed d name declared = Gives (record { name = name; fields = declared; width = min (sum_by (λ (f : CheckedField). width_of d f.of) declared) 129 })

-- a struct of these fields
abbrev pub struct_of : Checked → List WrittenField → List ℕ → CheckResult Struct
struct_of d fields name = one_by_one (add_field d) fields [] >>= struct_typed d name

-- a struct whose name is new
abbrev pub struct_with : Checked → Name → List WrittenField → CheckResult Struct
struct_with d n fields = new_name d n >>= struct_of d fields

-- ---- registers and inputs

-- `reg`: the constant agrees
abbrev pub register_known : Checked → List ℕ → ValueType → Known → CheckResult Register
register_known d name of known = where_all (agrees (Some of) known.part ∷ []) (record { name = name; of = of; width = width_of d of; first = known.value })

-- a register of this type, with its first value
abbrev pub register_typed : Checked → Constant → List ℕ → ValueType → CheckResult Register
register_typed d first name of = constant_of first d >>= register_known d name of

-- a register of the type that is written
abbrev pub register_of : Checked → TypeExpression → Constant → List ℕ → CheckResult Register
register_of d written first name = type_of d written >>= register_typed d first name

-- a register whose name is new
abbrev pub register_with : Checked → Name → TypeExpression → Constant → CheckResult Register
register_with d n written first = new_name d n >>= register_of d written first

-- an input of this type
abbrev pub input_typed : Checked → List ℕ → ValueType → CheckResult Input
input_typed d name of = Gives (record { name = name; of = of; width = width_of d of })

-- an input of the type that is written
abbrev pub input_of : Checked → TypeExpression → List ℕ → CheckResult Input
input_of d written name = type_of d written >>= input_typed d name

-- an input whose name is new
abbrev pub input_with : Checked → Name → TypeExpression → CheckResult Input
input_with d n written = new_name d n >>= input_of d written

-- ---- tables and host functions

-- `table`: input width 1 to 12, output width 1 to 128, each entry of the output width, else 23; then 2^input entries,
-- else 28
abbrev pub table_conditions : Name → (input output : Width) → List Literal → List Condition
table_conditions n input output entries =
    holds (nat_le 1 input.number.value && nat_le input.number.value MAX_TABLE_IN_WIDTH) (wrong WRONG_WIDTH input.place)
    ∷ holds (is_width output.number.value) (wrong WRONG_WIDTH output.place)
    ∷ each (has_width output.number.value) entries
    ∷ holds (nat_eq (length entries) (2 ^ input.number.value)) (wrong WRONG_ENTRY_COUNT n.place)
    ∷ []

-- a table of these entries
abbrev pub table_of : Name → (input output : Width) → List Literal → List ℕ → CheckResult Table
table_of n input output entries name =
    where_all (table_conditions n input output entries)
    (record {
      name = name;
      spec = record { in_width = input.number.value; out_width = output.number.value; entries = map (λ (l : Literal). l.bits) entries };
    })

-- a table whose name is new
abbrev pub table_with : Checked → Name → (input output : Width) → List Literal → CheckResult Table
table_with d n input output entries = new_name d n >>= table_of n input output entries

-- the name that a kind of host function has in designs
abbrev pub name_of_kind : HostKind → List ℕ
name_of_kind kinds.Popcount = codes "popcount"
name_of_kind kinds.Parity = codes "parity"
name_of_kind kinds.Reverse = codes "reverse"
name_of_kind kinds.LeadingZeros = codes "clz"
name_of_kind kinds.Gray = codes "gray"
name_of_kind kinds.Hamming = codes "hamming"
name_of_kind kinds.Morton = codes "morton"
name_of_kind kinds.SatAdd = codes "satadd"

-- a host function of this name and these widths
abbrev pub is_host : List ℕ → (input output : ℕ) → HostSpec → Bool
is_host name input output h = bytes_eq name (name_of_kind h.kind) && nat_eq h.in_width input && nat_eq (host.out_width h.kind h.in_width) output

-- `host`: a handed-in function with this kind's name, this input width and this output width, else 29
abbrev pub host_of : List HostSpec → Name → (input output : Width) → List ℕ → CheckResult Host
host_of hosts n input output name =
    found (find (is_host name input.number.value output.number.value) hosts) (wrong UNKNOWN_HOST_FUNCTION n.place) >>= λ spec.
    Gives (record { name = name; spec = spec })

-- a host function whose name is new, and which is offered
abbrev pub host_with : List HostSpec → Checked → Name → (input output : Width) → CheckResult Host
host_with hosts d n input output = new_name d n >>= host_of hosts n input output

-- ---- functions and rules

-- the parameters, the innermost first
abbrev pub names_of_locals : List Local → List (List ℕ)
names_of_locals = map (λ (l : Local). l.name)

-- parameters and one more, of another name
abbrev pub add_parameter : Checked → WrittenField → List Local → CheckResult (List Local)
add_parameter d f parameters = other_name (names_of_locals parameters) f.name >>= λ name.
    type_of d f.of >>= λ of. Gives (record { name = name; of = of } ∷ parameters)

-- the types of parameters, the first one first
abbrev pub types_in_order : List Local → List ValueType
types_in_order [] = []
types_in_order (l ∷ outer) = types_in_order outer ++ l.of ∷ []

-- the type that a function gives, if it gives one
abbrev pub result_of : Checked → Option TypeExpression → CheckResult (Option ValueType)
result_of d None = Gives None
result_of d (Some written) = type_of d written >>= λ of. Gives (Some of)

-- `fun`: the body agrees with the result type
abbrev pub function_typed : List ℕ → List Local → Option ValueType → Typing → CheckResult CheckedFunction
function_typed name locals gives body =
    where_all (agrees gives body.part ∷ []) (record { name = name; parameters = types_in_order locals; result = gives; body = body.typed })

-- a function of this body, which has the type that it gives
abbrev pub function_body : Checked → Block → List ℕ → List Local → Option ValueType → CheckResult CheckedFunction
function_body d body name locals gives = block_in body (record { design = d; locals = locals }) >>= function_typed name locals gives

-- a function with the result that is written
abbrev pub function_result : Checked → Option TypeExpression → Block → List ℕ → List Local → CheckResult CheckedFunction
function_result d written body name locals = result_of d written >>= function_body d body name locals

-- a function with these parameters
abbrev pub function_of : Checked → List WrittenField → Option TypeExpression → Block → List ℕ → CheckResult CheckedFunction
function_of d parameters written body name = one_by_one (add_parameter d) parameters [] >>= function_result d written body name

-- a function whose name is new
abbrev pub function_with : Checked → Name → List WrittenField → Option TypeExpression → Block → CheckResult CheckedFunction
function_with d n parameters written body = new_name d n >>= function_of d parameters written body

-- `rule`: the body is unit (22)
abbrev pub rule_typed : List ℕ → Typing → CheckResult CheckedRule
rule_typed name body = where_all (agrees None body.part ∷ []) (record { name = name; body = body.typed })

-- a rule of this body
abbrev pub rule_of : Checked → Block → List ℕ → CheckResult CheckedRule
rule_of d body name = block_in body (record { design = d; locals = [] }) >>= rule_typed name

-- a rule whose name is new
abbrev pub rule_with : Checked → Name → Block → CheckResult CheckedRule
rule_with d n body = new_name d n >>= rule_of d body

-- `assert`: a rule (20) that isn't marked already (21)
abbrev pub assert_of : Checked → Name → ℕ → CheckResult ℕ
assert_of d n rule = where_all (holds (not (list_any (nat_eq rule) d.asserts)) (wrong REPEATED_NAME n.place) ∷ []) rule

-- the rule that is marked, which has to be there
abbrev pub assert_with : Checked → Name → CheckResult ℕ
assert_with d n = found (number_named kind.Rule d n.text) (wrong UNKNOWN_NAME n.place) >>= assert_of d n

-- ---- declarations

-- nothing is declared
abbrev pub nothing : Checked
nothing = record {
  enums = [];
  structs = [];
  registers = [];
  inputs = [];
  tables = [];
  hosts = [];
  functions = [];
  rules = [];
  asserts = [];
  nodes = [];
  weight = 0;
}

-- one more declaration, the last of its kind
abbrev pub declare : List HostSpec → Declaration → Checked → CheckResult Checked
declare hosts (declarations.Enum n width members) d = enum_with d n width members >>= λ one. Gives (record d { enums = d.enums ++ one ∷ [] })
declare hosts (declarations.Struct n fields) d = struct_with d n fields >>= λ one. Gives (record d { structs = d.structs ++ one ∷ [] })
declare hosts (declarations.Register n of first) d = register_with d n of first >>= λ one. Gives (record d { registers = d.registers ++ one ∷ [] })
declare hosts (declarations.Input n of) d = input_with d n of >>= λ one. Gives (record d { inputs = d.inputs ++ one ∷ [] })
declare hosts (declarations.Table n input output entries) d = table_with d n input output entries >>= λ one. Gives (record d { tables = d.tables ++ one ∷ [] })
declare hosts (declarations.Host n input output) d = host_with hosts d n input output >>= λ one. Gives (record d { hosts = d.hosts ++ one ∷ [] })
declare hosts (declarations.Function n parameters written body) d = function_with d n parameters written body >>= λ one. Gives (record d { functions = d.functions ++ one ∷ [] })
declare hosts (declarations.Rule n body) d = rule_with d n body >>= λ one. Gives (record d { rules = d.rules ++ one ∷ [] })
declare hosts (declarations.Assert n) d = assert_with d n >>= λ one. Gives (record d { asserts = d.asserts ++ one ∷ [] })
