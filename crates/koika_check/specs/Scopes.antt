-- What a name stands for at one place of a design: what is declared before, and the names that are bound round it. A local
-- hides an equal earlier one, and as a bare name an input. This project's own rules.
use Rattle.std.specs.Prelude.{ℕ, ◌/◌, map, replicate, List, [], ◌∷◌, Option, Some, None, slice_get}
use Rattle.kw_base.specs.Names.{number_of}
use Rattle.kw_base.specs.declared.fault_number.TheConstants.{UNKNOWN_NAME}
use Rattle.kw_bits.specs.Host as host
use Rattle.koika_syntax.specs.declared.tree.Name.{Name}
use Rattle.koika_check.specs.Outcomes.{CheckResult, found, wrong}
use Rattle.koika_check.specs.Types.{bits}
use Rattle.koika_check.specs.declared.checked.Checked.{Checked}
use Rattle.koika_check.specs.declared.checked.CheckedFunction.{CheckedFunction}
use Rattle.koika_check.specs.declared.checked.Host.{Host}
use Rattle.koika_check.specs.declared.checked.Input.{Input}
use Rattle.koika_check.specs.declared.checked.Register.{Register}
use Rattle.koika_check.specs.declared.checked.Table.{Table}
use Rattle.koika_check.specs.declared.typed.Operation.{Operation}
use Rattle.koika_check.specs.declared.typed.Operation.TheVariants as operation
use Rattle.koika_check.specs.declared.typed.Typed.{Typed}
use Rattle.koika_check.specs.declared.typed.Typed.TheVariants as typed
use Rattle.koika_check.specs.declared.typed.ValueType.{ValueType}
use Rattle.koika_check.specs.Kinds.{number_named}
use Rattle.koika_check.specs.declared.things.Kind.TheVariants as kind

-- a name that is bound, and its type
pub record Local : Type 0 where
  pub name : List ℕ
  pub of : ValueType

-- how many names were bound further inside than the innermost of this name, where the innermost is the first
abbrev pub local_named : List Local → List ℕ → Option ℕ
local_named locals = number_of (map (λ (l : Local). l.name) locals)

-- what is declared, and what is bound, the innermost first
pub record Scope : Type 0 where
  pub design : Checked
  pub locals : List Local

-- one more name, inside the others
abbrev pub bound : List ℕ → ValueType → Scope → Scope
bound name of scope = record { design = scope.design; locals = record { name = name; of = of } ∷ scope.locals }

-- ---- registers

-- the type of a register, if there is one
abbrev pub type_of_register : Option Register → Option ValueType
type_of_register None = None
type_of_register (Some register) = Some register.of

-- `read` and `write` want a register (20)
abbrev pub register : Checked → Name → CheckResult ℕ
register d n = found (number_named kind.Register d n.text) (wrong UNKNOWN_NAME n.place)

-- the type of the register of this number
abbrev pub register_type : Checked → ℕ → Option ValueType
register_type d number = type_of_register (slice_get d.registers number)

-- ---- bare names

-- what a bare name stands for, and its type
pub record Named : Type 0 where
  pub typed : Typed
  pub of : ValueType

-- a bound name's value and type
abbrev pub local_by : Option ℕ → Option Local → Option Named
local_by (Some index) (Some local) = Some (record { typed = typed.Local index; of = local.of })
local_by index local = None

-- an input's value and type
abbrev pub input_by : Option ℕ → Option Input → Option Named
input_by (Some number) (Some input) = Some (record { typed = typed.Input number; of = input.of })
input_by number input = None

-- the item at an index that may be there
abbrev pub at : {X : Type 0} → List X → Option ℕ → Option X
at xs None = None
at xs (Some index) = slice_get xs index

-- the first if there is one, else the other
abbrev pub or_else : {X : Type 0} → Option X → Option X → Option X
or_else (Some x) other = Some x
or_else None other = other

-- a bare name wants a local or an input (20)
abbrev pub bare : Scope → Name → CheckResult Named
bare scope n = found
    (or_else
    (local_by (local_named scope.locals n.text) (at scope.locals (local_named scope.locals n.text)))
    (input_by (number_named kind.Input scope.design n.text) (at scope.design.inputs (number_named kind.Input scope.design n.text))))
    (wrong UNKNOWN_NAME n.place)

-- ---- what is called

-- what a call does, the types that its arguments are to have, and that of what it gives
pub record Called : Type 0 where
  pub operation : Operation
  pub parameters : List ValueType
  pub gives : Option ValueType

-- a call of a function, with its parameters and its result
abbrev pub called_function : Option ℕ → Option CheckedFunction → Option Called
called_function (Some number) (Some f) = Some (record { operation = operation.Call number; parameters = f.parameters; gives = f.result })
called_function number f = None

-- a table has one argument
abbrev pub called_table : Option ℕ → Option Table → Option Called
called_table (Some number) (Some t) =
    Some (record { operation = operation.Table number; parameters = bits t.spec.in_width ∷ []; gives = Some (bits t.spec.out_width) })
called_table number t = None

-- a host function has as many as its kind, each with as many of the input's bits
abbrev pub called_host : Option ℕ → Option Host → Option Called
called_host (Some number) (Some h) =
    Some (record {
      operation = operation.Host number;
      parameters = replicate (host.arity h.spec.kind) (bits (h.spec.in_width / host.arity h.spec.kind));
      gives = Some (bits (host.out_width h.spec.kind h.spec.in_width));
    })
called_host number h = None

-- a call wants a function, a table or a host function (20)
abbrev pub called : Checked → Name → CheckResult Called
called d n = found
    (or_else (called_function (number_named kind.Function d n.text) (at d.functions (number_named kind.Function d n.text)))
    (or_else (called_table (number_named kind.Table d n.text) (at d.tables (number_named kind.Table d n.text)))
    (called_host (number_named kind.Host d n.text) (at d.hosts (number_named kind.Host d n.text)))))
    (wrong UNKNOWN_NAME n.place)
