-- Which modules are legal (IEEE 1364-2005): names that differ and are no reserved words, and expressions whose operands
-- are declared before them and have the widths that they ask for (5.4), so that no operand is extended or truncated.
-- The standard has no bound for a constant amount of a shift, but tools have one, so there is one here.
use Rattle.std.specs.Prelude.{◌≡◌, ◌≢◌, ◌⊎◌, ℕ, ◌+◌, ◌-◌, ◌<◌, ◌≤◌, ◌==◌, ◌||◌, IsTrue, ◌^◌, Bool, false, Some, List, [], ◌∷◌, ◌++◌, length, All, AllPairs, map, slice_get}
use Rattle.std.specs.Char.{is_ascii_alphabetic, is_ascii_alphanumeric}
use Rattle.std.specs.List.{list_all}
use Rattle.std.specs.Option.{option_to_list}
use Rattle.kw_bits.specs.BitVector.{IsBits}
use Rattle.kw_bits.specs.Laws.{HasWidth}
use Rattle.verilog_text.specs.Names.{is_reserved}
use Rattle.verilog_text.specs.declared.module.Form.{Form}
use Rattle.verilog_text.specs.declared.module.Form.TheVariants.{One, Two, Choice, Slice, Extension}
use Rattle.verilog_text.specs.declared.module.Infix.{Infix}
use Rattle.verilog_text.specs.declared.module.Infix.TheVariants as twos
use Rattle.verilog_text.specs.declared.module.Module.{Module}
use Rattle.verilog_text.specs.declared.module.Operand.{Operand}
use Rattle.verilog_text.specs.declared.module.Operand.TheVariants.{Constant, Input, Register as Held, Wire as Inner}
use Rattle.verilog_text.specs.declared.module.Output.{Output}
use Rattle.verilog_text.specs.declared.module.Port.{Port}
use Rattle.verilog_text.specs.declared.module.Prefix.{Prefix}
use Rattle.verilog_text.specs.declared.module.Prefix.TheVariants as ones
use Rattle.verilog_text.specs.declared.module.Register.{Register}
use Rattle.verilog_text.specs.declared.module.Wire.{Wire}

-- ---- names

-- a letter or an underscore
abbrev pub begins_word : ℕ → Bool
begins_word b = is_ascii_alphabetic b || (b == 95)

-- a letter, a digit or an underscore
abbrev pub continues_word : ℕ → Bool
continues_word b = is_ascii_alphanumeric b || (b == 95)

-- a simple identifier without `$` (2.7)
abbrev pub IsWord : List ℕ → Type 0
IsWord [] = ⊥
IsWord (b ∷ bytes) = IsTrue (begins_word b) × IsTrue (list_all continues_word bytes)

-- a word and a `$`, which is a simple identifier too
abbrev pub IsMarkedWord : List ℕ → Type 0
IsMarkedWord name = (word : List ℕ) × IsWord word × (name ≡ word ++ 36 ∷ [])

-- a word that isn't reserved, or a word and a `$`: neither is a wire's name
abbrev pub IsName : List ℕ → Type 0
IsName name = (IsWord name × (is_reserved name ≡ false)) ⊎ IsMarkedWord name

-- the names of a module but those of its wires
abbrev pub names_of : Module → List (List ℕ)
names_of m =
    m.name ∷ m.clock ∷ option_to_list m.reset ++ map (λ (port : Port). port.name) m.inputs
    ++ map (λ (output : Output). output.name) m.outputs ++ map (λ (register : Register). register.name) m.registers

-- each is a name, and no two are equal
pub record AreNamed (m : Module) : Type 0 where
  pub names : All IsName (names_of m)
  pub distinct : AllPairs (λ a b. a ≢ b) (names_of m)

-- ---- widths

-- the widths of signals
pub record Widths : Type 0 where
  pub inputs : List ℕ
  pub registers : List ℕ
  pub wires : List ℕ

-- the operand is there and has this width
abbrev pub HasOperand : Widths → Operand → ℕ → Type 0
HasOperand ws (Constant value) width = HasWidth value width
HasOperand ws (Input number) width = slice_get ws.inputs number ≡ Some width
HasOperand ws (Held number) width = slice_get ws.registers number ≡ Some width
HasOperand ws (Inner number) width = slice_get ws.wires number ≡ Some width

-- bits are selected of signals alone
abbrev pub IsSignal : Operand → Type 0
IsSignal (Constant value) = ⊥
IsSignal other = Unit {0}

-- the width of an operand, and that of the expression
unfoldable pub PrefixFits : Prefix → ℕ → ℕ → Type 0
PrefixFits ones.Not a own = a ≡ own
PrefixFits ones.Neg a own = a ≡ own
PrefixFits reduction a own = own ≡ 1

-- the widths of two operands, and that of the expression; a shift's amount may have any width
unfoldable pub InfixFits : Infix → ℕ → ℕ → ℕ → Type 0
InfixFits twos.ShiftLeft a b own = a ≡ own
InfixFits twos.ShiftRight a b own = a ≡ own
InfixFits twos.ShiftSigned a b own = a ≡ own
InfixFits twos.Equal a b own = (a ≡ b) × (own ≡ 1)
InfixFits twos.Unequal a b own = (a ≡ b) × (own ≡ 1)
InfixFits twos.Below a b own = (a ≡ b) × (own ≡ 1)
InfixFits twos.AtMost a b own = (a ≡ b) × (own ≡ 1)
InfixFits twos.SignedBelow a b own = (a ≡ b) × (own ≡ 1)
InfixFits twos.SignedAtMost a b own = (a ≡ b) × (own ≡ 1)
InfixFits twos.Join a b own = a + b ≡ own
InfixFits bitwise a b own = (a ≡ own) × (b ≡ own)

-- a constant amount of a shift is at most the width of what is shifted (5.1.12)
abbrev pub AmountFits : Infix → Operand → ℕ → Type 0
AmountFits twos.ShiftLeft (Constant value) width = value.number ≤ width
AmountFits twos.ShiftRight (Constant value) width = value.number ≤ width
AmountFits twos.ShiftSigned (Constant value) width = value.number ≤ width
AmountFits other b width = Unit {0}

-- an expression of this width over signals of these. A selection leaves out some bits of its signal (5.2.1), so of a
-- signal of one bit no bit is selected
abbrev pub FormFits : Widths → ℕ → Form → Type 0
FormFits ws own (One operator a) = (k : ℕ) × HasOperand ws a k × PrefixFits operator k own
FormFits ws own (Two operator a b) =
    (k : ℕ)
    × ((l : ℕ) × HasOperand ws a k × HasOperand ws b l × InfixFits operator k l own × AmountFits operator b k)
FormFits ws own (Choice condition a b) = HasOperand ws condition 1 × HasOperand ws a own × HasOperand ws b own
FormFits ws own (Slice a upper lower) =
    IsSignal a × ((k : ℕ) × HasOperand ws a k × (lower ≤ upper) × (upper < k) × (own < k) × (own ≡ upper - lower + 1))
FormFits ws own (Extension a top count) =
    IsSignal a × HasOperand ws a (top + 1) × (1 ≤ count) × (own ≡ count + (top + 1))

-- a signal has 1 to 128 bits
abbrev pub IsWidth : ℕ → Type 0
IsWidth width = (1 ≤ width) × (width ≤ 128)

-- one more wire
abbrev pub with_wire : Widths → ℕ → Widths
with_wire ws width = record ws { wires = ws.wires ++ width ∷ [] }

-- wires in order, each over the signals before it
abbrev pub WiresFit : Widths → List Wire → Type 0
WiresFit ws [] = Unit {0}
WiresFit ws (wire ∷ wires) =
    IsWidth wire.width × FormFits ws wire.width wire.form × WiresFit (with_wire ws wire.width) wires

-- the widths of the inputs and registers
abbrev pub outer_widths : Module → Widths
outer_widths m =
    record {
      inputs = map (λ (port : Port). port.width) m.inputs;
      registers = map (λ (register : Register). register.first.width) m.registers;
      wires = [];
    }

-- the widths of all signals
abbrev pub widths_of : Module → Widths
widths_of m = record (outer_widths m) { wires = map (λ (wire : Wire). wire.width) m.wires }

-- A register's next value has the width of its first one, and an output one bit. Numbers of wires have at most 20
-- digits.
pub record IsLegal (m : Module) : Type 0 where
  pub inputs : All (λ (port : Port). IsWidth port.width) m.inputs
  pub registers : All (λ (register : Register). IsBits register.first) m.registers
  pub wires : WiresFit (outer_widths m) m.wires
  pub few : length m.wires < 2 ^ 64
  pub nexts : All (λ (register : Register). HasOperand (widths_of m) register.next register.first.width) m.registers
  pub outputs : All (λ (output : Output). HasOperand (widths_of m) output.value 1) m.outputs
