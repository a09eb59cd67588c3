-- The text of a module: the synthesizable part of Verilog (IEEE 1364-2005) that circuits need, with one way to write
-- each thing. An expression has one operator over names and constants.
use Rattle.std.specs.Prelude.{ℕ, Bool, ◌+◌, ◌-◌, ◌==◌, if◌then◌else◌, Option, None, Some, List, [], ◌∷◌, ◌++◌, codes, decimal, slice_get}
use Rattle.kw_bits.specs.BitVector.{BitVector}
use Rattle.verilog_text.specs.declared.module.Form.{Form}
use Rattle.verilog_text.specs.declared.module.Form.TheVariants.{One, Two, Choice, Slice, Extension}
use Rattle.verilog_text.specs.declared.module.Infix.{Infix}
use Rattle.verilog_text.specs.declared.module.Infix.TheVariants as twos
use Rattle.verilog_text.specs.declared.module.Module.{Module}
use Rattle.verilog_text.specs.declared.module.Operand.{Operand}
use Rattle.verilog_text.specs.declared.module.Operand.TheVariants.{Constant, Input, Register as Held, Wire as Inner}
use Rattle.verilog_text.specs.declared.module.Output.{Output}
use Rattle.verilog_text.specs.declared.module.Port.{Port}
use Rattle.verilog_text.specs.declared.module.Prefix.{Prefix}
use Rattle.verilog_text.specs.declared.module.Prefix.TheVariants as ones
use Rattle.verilog_text.specs.declared.module.Register.{Register}
use Rattle.verilog_text.specs.declared.module.Wire.{Wire}

-- ---- operands

-- a constant: its width, `'d` and its value (2.5.1)
abbrev pub constant_text : BitVector → List ℕ
constant_text value = decimal value.width ++ codes "'d" ++ decimal value.number

-- the name of a wire by its number
abbrev pub wire_name : ℕ → List ℕ
wire_name number = codes "w$" ++ decimal number

-- the name of an input that may be there
abbrev pub input_name : Option Port → List ℕ
input_name None = []
input_name (Some port) = port.name

-- the name of a register that may be there
abbrev pub register_name : Option Register → List ℕ
register_name None = []
register_name (Some register) = register.name

-- a constant, or a name
unfoldable pub operand_text : Module → Operand → List ℕ
operand_text m (Constant value) = constant_text value
operand_text m (Input number) = input_name (slice_get m.inputs number)
operand_text m (Held number) = register_name (slice_get m.registers number)
operand_text m (Inner number) = wire_name number

-- ---- expressions

-- the sign of an operator on one operand (5.1.5, 5.1.10, 5.1.11)
abbrev pub sign : Prefix → List ℕ
sign ones.Not = codes "~"
sign ones.Neg = codes "-"
sign ones.RedAnd = codes "&"
sign ones.RedOr = codes "|"
sign ones.RedXor = codes "^"

-- what is written before the first of two operands
abbrev pub opening : Infix → List ℕ
opening twos.Nand = codes "~("
opening twos.Nor = codes "~("
opening twos.Xnor = codes "~("
opening twos.ShiftSigned = codes "$signed("
opening twos.SignedBelow = codes "$signed("
opening twos.SignedAtMost = codes "$signed("
opening twos.Join = codes "{"
opening other = []

-- what is written between them
abbrev pub middle : Infix → List ℕ
middle twos.And = codes " & "
middle twos.Or = codes " | "
middle twos.Xor = codes " ^ "
middle twos.Nand = codes " & "
middle twos.Nor = codes " | "
middle twos.Xnor = codes " ^ "
middle twos.Add = codes " + "
middle twos.Sub = codes " - "
middle twos.Mul = codes " * "
middle twos.ShiftLeft = codes " << "
middle twos.ShiftRight = codes " >> "
middle twos.ShiftSigned = codes ") >>> "
middle twos.Equal = codes " == "
middle twos.Unequal = codes " != "
middle twos.Below = codes " < "
middle twos.AtMost = codes " <= "
middle twos.SignedBelow = codes ") < $signed("
middle twos.SignedAtMost = codes ") <= $signed("
middle twos.Join = codes ", "

-- what is written after the second
abbrev pub closing : Infix → List ℕ
closing twos.Nand = codes ")"
closing twos.Nor = codes ")"
closing twos.Xnor = codes ")"
closing twos.SignedBelow = codes ")"
closing twos.SignedAtMost = codes ")"
closing twos.Join = codes "}"
closing other = []

-- a bit of a signal (5.2.1)
abbrev pub bit_text : ℕ → List ℕ
bit_text index = codes "[" ++ decimal index ++ codes "]"

-- the bits from a lower bound to an upper
abbrev pub bits_text : ℕ → ℕ → List ℕ
bits_text upper lower =
    if upper == lower then bit_text upper else codes "[" ++ decimal upper ++ codes ":" ++ decimal lower ++ codes "]"

-- the highest bit of a signal, which has this index. Of a signal of one bit no bit is selected
abbrev pub top_text : ℕ → List ℕ
top_text top = if top == 0 then [] else bit_text top

-- an operator with two operands
unfoldable pub two_text : Module → Infix → Operand → Operand → List ℕ
two_text m operator a b =
    opening operator ++ operand_text m a ++ middle operator ++ operand_text m b ++ closing operator

-- the conditional operator (5.1.13)
unfoldable pub choice_text : Module → Operand → Operand → Operand → List ℕ
choice_text m condition a b =
    operand_text m condition ++ codes " ? " ++ operand_text m a ++ codes " : " ++ operand_text m b

-- the highest bit of an operand, repeated (5.1.14)
unfoldable pub repeated_text : Module → Operand → ℕ → ℕ → List ℕ
repeated_text m a top count =
    codes "{{" ++ decimal count ++ codes "{" ++ operand_text m a ++ top_text top ++ codes "}}, "

-- the operand below it
unfoldable pub extension_text : Module → Operand → ℕ → ℕ → List ℕ
extension_text m a top count = repeated_text m a top count ++ operand_text m a ++ codes "}"

-- the text of an expression
unfoldable pub form_text : Module → Form → List ℕ
form_text m (One operator a) = sign operator ++ operand_text m a
form_text m (Two operator a b) = two_text m operator a b
form_text m (Choice condition a b) = choice_text m condition a b
form_text m (Slice a upper lower) = operand_text m a ++ bits_text upper lower
form_text m (Extension a top count) = extension_text m a top count

-- ---- lines

-- a line of the text
abbrev pub line : List ℕ → List ℕ
line bytes = bytes ++ 10 ∷ []

-- the texts of all items of a list, one after the other
abbrev pub each : {A : Type 0} → (A → List ℕ) → List A → List ℕ
each text [] = []
each text (x ∷ xs) = text x ++ each text xs

-- the range of a signal of this width, where it has more than one bit
abbrev pub range_text : ℕ → List ℕ
range_text width = if width == 1 then [] else codes "[" ++ decimal (width - 1) ++ codes ":0] "

-- a port after the first
abbrev pub port_text : List ℕ → List ℕ
port_text name = codes ", " ++ name

-- an input as a port
abbrev pub input_port : Port → List ℕ
input_port port = port_text port.name

-- an output as a port
abbrev pub output_port : Output → List ℕ
output_port output = port_text output.name

-- a register as a port, where it is one
abbrev pub register_port : Register → List ℕ
register_port register = if register.is_port then port_text register.name else []

-- the declaration of an input of this width
abbrev pub input_line : ℕ → List ℕ → List ℕ
input_line width name = line (codes "  input " ++ range_text width ++ name ++ codes ";")

-- the declaration of an input
abbrev pub port_line : Port → List ℕ
port_line port = input_line port.width port.name

-- the declaration of an output
abbrev pub output_line : Output → List ℕ
output_line output = line (codes "  output " ++ output.name ++ codes ";")

-- what a register's declaration begins with, where it is an output and where it isn't
abbrev pub kind_text : Bool → List ℕ
kind_text is_port = if is_port then codes "  output reg " else codes "  reg "

-- the declaration of a register with its first value (6.2.1)
abbrev pub register_line : Register → List ℕ
register_line register =
    line (kind_text register.is_port ++ range_text register.first.width ++ register.name ++ codes " = "
    ++ constant_text register.first
    ++ codes ";")

-- the declaration of the wire of this number with its expression (6.1.1)
abbrev pub wire_line : Module → ℕ → Wire → List ℕ
wire_line m number wire =
    line (codes "  wire " ++ range_text wire.width ++ wire_name number ++ codes " = " ++ form_text m wire.form
    ++ codes ";")

-- the declarations of wires from this number on
abbrev pub wire_lines : Module → ℕ → List Wire → List ℕ
wire_lines m number [] = []
wire_lines m number (wire ∷ wires) = wire_line m number wire ++ wire_lines m (number + 1) wires

-- the value of an output (6.1.2)
abbrev pub assign_line : Module → Output → List ℕ
assign_line m output =
    line (codes "  assign " ++ output.name ++ codes " = " ++ operand_text m output.value ++ codes ";")

-- what a register's new value is written after (9.2.2)
abbrev pub target : List ℕ → Register → List ℕ
target blanks register = blanks ++ register.name ++ codes " <= "

-- a register takes a value
abbrev pub set_line : List ℕ → Register → List ℕ → List ℕ
set_line blanks register value = line (target blanks register ++ value ++ codes ";")

-- it takes its next value
abbrev pub next_line : Module → List ℕ → Register → List ℕ
next_line m blanks register = set_line blanks register (operand_text m register.next)

-- it takes its first value
abbrev pub first_line : Register → List ℕ
first_line register = set_line (codes "      ") register (constant_text register.first)

-- the branch in which a reset of this name is 1
abbrev pub first_branch : Module → List ℕ → List ℕ
first_branch m reset = line (codes "    if (" ++ reset ++ codes ") begin") ++ each first_line m.registers

-- the other branch
abbrev pub next_branch : Module → List ℕ
next_branch m =
    line (codes "    end else begin") ++ each (next_line m (codes "      ")) m.registers ++ line (codes "    end")

-- both branches
abbrev pub either : Module → List ℕ → List ℕ
either m reset = first_branch m reset ++ next_branch m

-- what is done at a rising edge, with a reset or without one
abbrev pub block : Module → Option (List ℕ) → List ℕ
block m None = each (next_line m (codes "    ")) m.registers
block m (Some reset) = either m reset

-- ---- modules

-- the port of the reset, if there is one
abbrev pub reset_port : Option (List ℕ) → List ℕ
reset_port None = []
reset_port (Some reset) = port_text reset

-- its declaration, if there is one
abbrev pub reset_line : Option (List ℕ) → List ℕ
reset_line None = []
reset_line (Some reset) = input_line 1 reset

-- the ports after the clock
unfoldable pub ports_text : Module → List ℕ
ports_text m =
    reset_port m.reset ++ each input_port m.inputs ++ each output_port m.outputs ++ each register_port m.registers

-- the line with the ports
unfoldable pub head_text : Module → List ℕ
head_text m = line (codes "module " ++ m.name ++ codes "(" ++ m.clock ++ ports_text m ++ codes ");")

-- declarations, wires and outputs
unfoldable pub declarations_text : Module → List ℕ
declarations_text m =
    input_line 1 m.clock ++ reset_line m.reset ++ each port_line m.inputs ++ each output_line m.outputs
    ++ each register_line m.registers ++ wire_lines m 0 m.wires ++ each (assign_line m) m.outputs

-- the block of the clock
unfoldable pub block_text : Module → List ℕ
block_text m =
    line (codes "  always @(posedge " ++ m.clock ++ codes ") begin") ++ block m m.reset ++ line (codes "  end")

-- the text of a module
unfoldable pub text_of : Module → List ℕ
text_of m = head_text m ++ declarations_text m ++ block_text m ++ line (codes "endmodule")
