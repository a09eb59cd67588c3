-- The run of a module by IEEE 1364-2005, in words of clauses 5, 6 and 9: values of expressions over wires in order, and
-- registers at each rising edge of the clock, which is 0 at time 0. In a legal module the operands of an expression
-- have the widths that it asks for, so that no operand is extended or truncated (5.4).
use Rattle.std.specs.Prelude.{ℕ, zero, suc, ◌+◌, ◌==◌, if◌then◌else◌, Bool, false, Option, None, Some, List, [], ◌∷◌, ◌++◌, map, slice_index_or}
use Rattle.kw_bits.specs.BitVector.{BitVector}
use Rattle.kw_bits.specs.Operators as op
use Rattle.one_rule.specs.Run.{InputsByCycle}
use Rattle.one_rule.specs.declared.rows.Row.{Row}
use Rattle.verilog_text.specs.declared.module.Form.{Form}
use Rattle.verilog_text.specs.declared.module.Form.TheVariants.{One, Two, Choice, Slice, Extension}
use Rattle.verilog_text.specs.declared.module.Infix.{Infix}
use Rattle.verilog_text.specs.declared.module.Infix.TheVariants as twos
use Rattle.verilog_text.specs.declared.module.Module.{Module}
use Rattle.verilog_text.specs.declared.module.Operand.{Operand}
use Rattle.verilog_text.specs.declared.module.Operand.TheVariants.{Constant, Input, Register as Held, Wire as Inner}
use Rattle.verilog_text.specs.declared.module.Output.{Output}
use Rattle.verilog_text.specs.declared.module.Prefix.{Prefix}
use Rattle.verilog_text.specs.declared.module.Prefix.TheVariants as ones
use Rattle.verilog_text.specs.declared.module.Register.{Register}
use Rattle.verilog_text.specs.declared.module.Wire.{Wire}

-- ---- values

-- the values of signals at a time: those of inputs, registers and wires
pub record Signals : Type 0 where
  pub inputs : List BitVector
  pub registers : List BitVector
  pub wires : List BitVector

-- no bits at all
abbrev pub no_bits : BitVector
no_bits = record { width = 0; number = 0 }

-- the value of the signal of this number
abbrev pub signal : List BitVector → ℕ → BitVector
signal values number = slice_index_or values number no_bits

-- the value of an operand
abbrev pub operand_value : Signals → Operand → BitVector
operand_value s (Constant value) = value
operand_value s (Input number) = signal s.inputs number
operand_value s (Held number) = signal s.registers number
operand_value s (Inner number) = signal s.wires number

-- `~` (5.1.10), unary `-` (5.1.5), and the reductions `&`, `|` and `^` (5.1.11)
unfoldable pub prefix_value : Prefix → BitVector → BitVector
prefix_value ones.Not a = op.not a
prefix_value ones.Neg a = op.neg a
prefix_value ones.RedAnd a = op.redand a
prefix_value ones.RedOr a = op.redor a
prefix_value ones.RedXor a = op.redxor a

-- bitwise operators (5.1.10), arithmetic (5.1.5), shifts, of which `>>>` on a signed operand fills with the sign bit
-- and takes every amount as unsigned (5.1.12), equality (5.1.8), relations, which are signed where both operands are
-- (5.1.7), and concatenation, the first operand above the second (5.1.14). `$signed` reads an operand in two's
-- complement (5.5)
unfoldable pub infix_value : Infix → BitVector → BitVector → BitVector
infix_value twos.And a b = op.and a b
infix_value twos.Or a b = op.or a b
infix_value twos.Xor a b = op.xor a b
infix_value twos.Nand a b = op.not (op.and a b)
infix_value twos.Nor a b = op.not (op.or a b)
infix_value twos.Xnor a b = op.not (op.xor a b)
infix_value twos.Add a b = op.add a b
infix_value twos.Sub a b = op.sub a b
infix_value twos.Mul a b = op.mul a b
infix_value twos.ShiftLeft a b = op.sll a b
infix_value twos.ShiftRight a b = op.srl a b
infix_value twos.ShiftSigned a b = op.sra a b
infix_value twos.Equal a b = op.eq_bits a b
infix_value twos.Unequal a b = op.not (op.eq_bits a b)
infix_value twos.Below a b = op.ult a b
infix_value twos.AtMost a b = op.ulte a b
infix_value twos.SignedBelow a b = op.slt a b
infix_value twos.SignedAtMost a b = op.slte a b
infix_value twos.Join a b = op.concat a b

-- a bit vector this many times, one above the other (5.1.14)
unfoldable pub repeated : ℕ → BitVector → BitVector
repeated zero a = no_bits
repeated (suc count) a = op.concat a (repeated count a)

-- the conditional operator: the first choice where the condition isn't 0, else the second (5.1.13)
unfoldable pub chosen : BitVector → BitVector → BitVector → BitVector
chosen condition a b = if condition.number == 0 then b else a

-- a signal below its highest bit, which has this index, repeated (5.1.14, 5.2.1)
unfoldable pub extended : BitVector → ℕ → ℕ → BitVector
extended a top count = op.concat (repeated count (op.slice a top top)) a

-- the value of an expression; a selection has the bits from its lower bound to its upper (5.2.1)
abbrev pub form_value : Signals → Form → BitVector
form_value s (One operator a) = prefix_value operator (operand_value s a)
form_value s (Two operator a b) = infix_value operator (operand_value s a) (operand_value s b)
form_value s (Choice condition a b) = chosen (operand_value s condition) (operand_value s a) (operand_value s b)
form_value s (Slice a upper lower) = op.slice (operand_value s a) upper lower
form_value s (Extension a top count) = extended (operand_value s a) top count

-- wires in order, each by the values before it (6.1.1)
abbrev pub with_wires : Signals → List Wire → Signals
with_wires s [] = s
with_wires s (wire ∷ wires) = with_wires (record s { wires = s.wires ++ form_value s wire.form ∷ [] }) wires

-- the values of all signals of a module, by those of its inputs and registers
abbrev pub signals_of : Module → List BitVector → List BitVector → Signals
signals_of m inputs registers = with_wires (record { inputs = inputs; registers = registers; wires = [] }) m.wires

-- ---- cycles

-- the first values of the registers, which they have at time 0 (6.2.1) and after a reset
abbrev pub first_values : Module → List BitVector
first_values m = map (λ (register : Register). register.first) m.registers

-- the values that the registers take at a rising edge, all at once (9.2.2)
abbrev pub next_values : Module → Signals → List BitVector
next_values m s = map (λ (register : Register). operand_value s register.next) m.registers

-- whether each output is 1
abbrev pub output_flags : Module → Signals → List Bool
output_flags m s = map (λ (output : Output). (operand_value s output.value).number == 1) m.outputs

-- whether the reset of a module is 1 in a cycle
abbrev pub is_reset : Option (List ℕ) → Bool → Bool
is_reset None reset = false
is_reset (Some name) reset = reset

-- the outputs in a cycle, and the registers after the rising edge that ends it
abbrev pub row_after : Module → Bool → List BitVector → List BitVector → Row
row_after m reset inputs registers =
    let s : Signals = signals_of m inputs registers in
    record { regs = if is_reset m.reset reset then first_values m else next_values m s; fired = output_flags m s }

-- the rows of this many cycles after the last one, from the values that it left in the registers, with the reset as
-- given by cycle
unfoldable pub rows_after : Module → (ℕ → Bool) → InputsByCycle → ℕ → ℕ → List BitVector → List Row
rows_after m resets inputs zero last registers = []
rows_after m resets inputs (suc count) last registers =
    let row : Row = row_after m (resets (last + 1)) (inputs (last + 1)) registers in
    row ∷ rows_after m resets inputs count (last + 1) row.regs

-- the row before the first cycle: the first values, and no output is looked at
abbrev pub first_row : Module → Row
first_row m = record { regs = first_values m; fired = map (λ (output : Output). false) m.outputs }

-- the run of a module for n cycles, with its reset and its inputs as given by cycle
abbrev pub run_of : Module → (ℕ → Bool) → InputsByCycle → ℕ → List Row
run_of m resets inputs n = first_row m ∷ rows_after m resets inputs n 0 (first_values m)
