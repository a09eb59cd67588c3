-- What an action stands for, where an expression of the typed tree is lowered to it: at all ports that fit it notes
-- the same events and evaluates to the packed value, or is stopped by the same cause. All of it serves private
-- functions alone.
use Rattle.std.specs.Prelude.{◌≡◌, ℕ, ◌+◌, ◌-◌, ◌<◌, map, reverse, take, length, List, [], ◌∷◌, Bool, true, false, if◌then◌else◌, Option, Some, None, IfSome, slice_get, slice_index_or}
use Rattle.std.specs.List.{AllByRecursion}
use Rattle.kw_bits.specs.BitVector.{BitVector}
use Rattle.kw_bits.specs.Laws.{HasWidth}
use Rattle.koika_types.specs.Values.{packed}
use Rattle.koika_types.specs.declared.value.Value.{Value}
use Rattle.typed_core.specs.Evaluation.{Ending, Value as Reached, Stop, Progress, Evaluation, ◌>>=◌, Environment, Externs, Ports, evaluate, unit}
use Rattle.typed_core.specs.Fits.{EventsFit, PortsFit}
use Rattle.typed_core.specs.Valid.{ActionHasWidth, Declarations}
use Rattle.typed_core.specs.Widths.{HaveWidths}
use Rattle.typed_core.specs.declared.access.Event.{Event}
use Rattle.typed_core.specs.declared.outcome.Stopped.{Stopped}
use Rattle.koika_check.specs.Meaning.{Meaning, RuleSetting, apply, bodies_behind, in_turn, meaning}
use Rattle.koika_check.specs.Types.{width_of}
use Rattle.koika_check.specs.Typing.{Applies, IsOf, IsType, IsTypedDesign, Pairwise}
use Rattle.koika_check.specs.declared.checked.Checked.{Checked}
use Rattle.koika_check.specs.declared.checked.CheckedFunction.{CheckedFunction}
use Rattle.koika_check.specs.declared.checked.Host.{Host}
use Rattle.koika_check.specs.declared.checked.Table.{Table}
use Rattle.koika_check.specs.declared.typed.Operation.{Operation}
use Rattle.koika_check.specs.declared.typed.Operation.TheVariants as operation
use Rattle.koika_check.specs.declared.typed.ValueType.{ValueType}
use Rattle.koika_lower.specs.Lowering.{typed_input_widths, register_widths}
use Rattle.koika_lower.specs.declared.lowered.Bound.{Bound}
use Rattle.koika_lower.specs.declared.lowered.Lowered.{Lowered}

-- ---- parts that evaluate to related values

-- two endings: of related values, or of one cause
abbrev pub EndAlike : {V W : Type 0} → (V → W → Type 0) → Ending V Stopped → Ending W Stopped → Type 0
EndAlike R (Reached v) (Reached w) = R v w
EndAlike R (Stop cause) (Stop cause') = cause ≡ cause'
EndAlike R e e' = ⊥

-- the same events, which fit registers of these widths, and two such endings
abbrev pub Alike : {V W : Type 0} → List ℕ → (V → W → Type 0) → Progress V Stopped → Progress W Stopped → Type 0
Alike regs R p q = (q.events ≡ p.events) × EventsFit regs p.events × EndAlike R p.ending q.ending

-- after the same events that fit
abbrev pub Simulates : {V W : Type 0} → List ℕ → (V → W → Type 0) → Evaluation V Stopped → Evaluation W Stopped → Type 0
Simulates regs R m a = (events : List Event) → EventsFit regs events → Alike regs R (m events) (a events)

-- ---- values

-- the bits stand for a value of the type, or for none where it is unit
abbrev pub Stands : Checked → Option ValueType → Option Value → BitVector → Type 0
Stands d None None x = x.width ≡ 0
Stands d (Some t) (Some v) x = IsOf d v t × (packed v ≡ x) × HasWidth x (width_of d t)
Stands d of v x = ⊥

-- vectors of bits that stand for values of these types, one by one
abbrev pub StandAll : Checked → List ValueType → List Value → List BitVector → Type 0
StandAll d [] [] [] = Unit {0}
StandAll d (t ∷ types) (v ∷ values) (x ∷ xs) = Stands d (Some t) (Some v) x × StandAll d types values xs
StandAll d types values xs = ⊥

-- the width of an action that has a value of the type, 0 where it is unit
abbrev pub width_if : Checked → Option ValueType → ℕ
width_if d None = 0
width_if d (Some t) = width_of d t

-- ---- names

-- where `depth` lets stand round an expression: how many of them stand inside the one that binds the name
abbrev pub place_of : (depth : ℕ) → Bound → ℕ
place_of depth b = depth - b.level - 1

-- names that are bound inside that many lets, of valid types
abbrev pub IsName : Checked → (depth : ℕ) → Bound → ValueType → Type 0
IsName d depth b t = (b.level < depth) × (b.width ≡ width_of d t) × IsType d t

abbrev pub AreNames : Checked → (depth : ℕ) → List Bound → List ValueType → Type 0
AreNames d depth = Pairwise (IsName d depth)

-- the names have their widths among those of the lets
abbrev pub NamesFit : (depth : ℕ) → List Bound → List ℕ → Type 0
NamesFit depth names widths = AllByRecursion (λ (b : Bound). slice_get widths (place_of depth b) ≡ Some b.width) names

-- the names' values are those of the lets
abbrev pub NamesStand : Checked → (depth : ℕ) → List Bound → List ValueType → List Value → List BitVector → Type 0
NamesStand d depth [] [] [] locals = Unit {0}
NamesStand d depth (b ∷ names) (t ∷ types) (v ∷ values) locals =
    Stands d (Some t) (Some v) (slice_index_or locals (place_of depth b) unit) × NamesStand d depth names types values locals
NamesStand d depth names types values locals = ⊥

-- ---- what is declared

abbrev pub externs_of : Checked → Externs
externs_of d = record { tables = map (λ (t : Table). t.spec) d.tables; hosts = map (λ (h : Host). h.spec) d.hosts }

abbrev pub declared_by : Checked → Declarations
declared_by d = record { regs = register_widths d; inputs = typed_input_widths d; externs = externs_of d }

-- what the actions of a design are evaluated in
abbrev pub environment : Checked → List BitVector → Environment
environment d inputs = record { externs = externs_of d; inputs = inputs }

-- the setting in which that many functions, the first ones, may be called
abbrev pub world : Checked → (functions : ℕ) → List BitVector → Ports Stopped → RuleSetting Stopped
world d functions inputs ports = bodies_behind (record { design = d; inputs = inputs; ports = ports; bodies = [] }) (take functions d.functions)

-- ---- lowered expressions

-- what an expression evaluates to, in a setting
abbrev pub Sense : Type 0
Sense = RuleSetting Stopped → Meaning Stopped

-- The action evaluates to what the expression evaluates to, where that many functions may be called, that many lets
-- stand round it and these names, of these types, are bound by some of them. It has the width of the expression's type.
pub record Lowers (d : Checked) (functions depth : ℕ) (names : List Bound) (types : List ValueType) (of : Option ValueType) (sense : Sense) (l : Lowered) : Type 0 where
  pub valid : IfSome of (IsType d)
  pub width : l.width ≡ width_if d of
  pub typed : (widths : List ℕ) → NamesFit depth names widths → ActionHasWidth (declared_by d) l.action widths l.width
  pub means : (inputs : List BitVector) (ports : Ports Stopped) (values : List Value) (locals : List BitVector) →
      HaveWidths (typed_input_widths d) inputs → PortsFit (register_widths d) ports → NamesStand d depth names types values locals →
      Simulates (register_widths d) (Stands d of) (sense (world d functions inputs ports) values) (evaluate (environment d inputs) ports l.action locals)

-- expressions side by side, each of which stands one let deeper than the one before where the depth rises
abbrev pub LowersAll : Checked → (functions depth : ℕ) → (rises : Bool) → List Bound → List ValueType → List (Option ValueType) → List Sense → List Lowered → Type 0
LowersAll d functions depth rises names types [] [] [] = Unit {0}
LowersAll d functions depth rises names types (of ∷ ofs) (sense ∷ senses) (l ∷ ls) =
    Lowers d functions depth names types of sense l × LowersAll d functions (if rises then depth + 1 else depth) rises names types ofs senses ls
LowersAll d functions depth rises names types ofs senses ls = ⊥

-- ---- operations

-- whether each operand of an operation stands one let deeper than the one before
abbrev pub rises : Operation → Bool
rises (operation.Update one) = true
rises operation.Array = true
rises (operation.Call number) = true
rises o = false

-- what an operation on operands evaluates to
abbrev pub apply_sense : Operation → List Sense → Sense
apply_sense o senses s values = in_turn (map (λ (m : Sense). m s) senses) values >>= apply s o

-- an operation on lowered operands of a well typed design
pub record IsApplied (d : Checked) (functions depth : ℕ) (names : List Bound) (types : List ValueType) (o : Operation) (ts : List ValueType) (of : Option ValueType) (senses : List Sense) (operands : List Lowered) : Type 0 where
  pub design : IsTypedDesign d
  pub are : AreNames d depth names types
  pub all : LowersAll d functions depth (rises o) names types (map Some ts) senses operands
  pub applies : Applies d functions o ts of

-- ---- bodies of functions

-- the names of parameters after others, where that many lets stand round the first of them
abbrev pub parameter_names : Checked → (level : ℕ) → List ValueType → List Bound → List Bound
parameter_names d level [] names = names
parameter_names d level (t ∷ types) names = parameter_names d (level + 1) types (record { level = level; width = width_of d t } ∷ names)

-- the body of a function stands where its parameters alone are bound, and may call the functions before it
abbrev pub IsBody : Checked → (number : ℕ) → CheckedFunction → Lowered → Type 0
IsBody d number f l =
    Lowers d number (length f.parameters) (parameter_names d 0 f.parameters []) (reverse f.parameters) f.result (λ s. meaning s f.body) l

-- the body of the function that an operation calls, which is one of the first that many
abbrev pub IsCallee : Checked → (functions : ℕ) → Operation → Lowered → Type 0
IsCallee d functions (operation.Call number) l = (f : CheckedFunction) → number < functions → slice_get d.functions number ≡ Some f → IsBody d number f l
IsCallee d functions o l = Unit {0}
