-- What a source spells: the tokens in front of its line `%%` are a design, its design is well typed, and the lines
-- after it are a stimulus for the design's inputs; and the faults with which a source is refused, in their order.
use Rattle.std.specs.Prelude.{◌≡◌, ℕ, ◌<◌, ◌≤◌, ◌⊎◌, List, length, map, Result, Ok, Err}
use Rattle.kw_base.specs.Fault.{fault_at}
use Rattle.kw_base.specs.Place.{place_at}
use Rattle.kw_base.specs.declared.fault.Fault.{Fault}
use Rattle.koika_syntax.specs.Grammar.{Derives, tree_leaves}
use Rattle.koika_syntax.specs.TokenFaults.{IsFirstTokenFault}
use Rattle.koika_syntax.specs.Tokens.{AreTokensOf}
use Rattle.koika_syntax.specs.declared.token.Token.{Token}
use Rattle.koika_syntax.specs.declared.tree.Tree.{Tree}
use Rattle.koika_parse.specs.Brackets.{AreFewOpen}
use Rattle.koika_parse.specs.Faults.{StandsBetween}
use Rattle.koika_check.specs.Checks.{checked}
use Rattle.koika_check.specs.Outcomes.{Fails, Gives}
use Rattle.koika_check.specs.declared.checked.Checked.{Checked}
use Rattle.koika_check.specs.declared.checked.Input.{Input}
use Rattle.koika_check.specs.declared.checked.Register.{Register}
use Rattle.koika_check.specs.declared.checked.CheckedRule.{CheckedRule}
use Rattle.koika_check.specs.declared.stop.Wrong.{Wrong}
use Rattle.one_rule.specs.Stimulus.{InputVectors}
use Rattle.stim_report.specs.Cuts as cuts
use Rattle.stim_report.specs.Stimuli.{stimulus_of}
use Rattle.stim_report.specs.declared.shape.NameWidth.{NameWidth}
use Rattle.stim_report.specs.declared.shape.Shape.{Shape}
use Rattle.kw_bits.specs.declared.host.HostSpec.{HostSpec}

-- a source may have this many bytes
abbrev pub longest_source : ℕ
longest_source = 1048576

-- the fault of this number that speaks of the whole source
abbrev pub fault_of_source : ℕ → Fault
fault_of_source number = record { number = number; line = 0; column = 0 }

-- the bytes in front of the mark
abbrev pub design_part : List ℕ → List ℕ
design_part source = (cuts.parts_of source).design

-- the source isn't too long, and in front of its mark stand the tokens of this tree, with few open brackets
pub record SpellsTree (source : List ℕ) (tree : Tree) : Type 0 where
  pub short : length source ≤ longest_source
  pub tokens : List Token
  pub are : AreTokensOf tokens (design_part source)
  pub derived : Derives (design_part source) tree tokens
  pub few : AreFewOpen 0 (tree_leaves tree)

-- the tree is well typed where these host functions are handed in, and is this design with its names resolved
pub record SpellsDesign (hosts : List HostSpec) (source : List ℕ) (design : Checked) : Type 0 where
  pub tree : Tree
  pub spelled : SpellsTree source tree
  pub typed : checked hosts tree ≡ Gives design

-- the inputs, registers and rules of a typed design by name
abbrev pub of_input : Input → NameWidth
of_input i = record { name = i.name; width = i.width }

-- a register's name and width
abbrev pub of_register : Register → NameWidth
of_register r = record { name = r.name; width = r.width }

-- a rule's name
abbrev pub name_of : CheckedRule → List ℕ
name_of r = r.name

-- the names and widths of a design, as reports show them
abbrev pub shape_of : Checked → Shape
shape_of d = record { inputs = map of_input d.inputs; registers = map of_register d.registers; rules = map name_of d.rules }

-- the stimulus of a source for a design, or its first fault
abbrev pub stimulus_in : List ℕ → Checked → Result InputVectors Fault
stimulus_in source design = let parts = cuts.parts_of source in stimulus_of (shape_of design) parts.first_line parts.stimulus

-- the source spells this design, and this stimulus after it
pub record Spells (hosts : List HostSpec) (source : List ℕ) (design : Checked) (stimulus : InputVectors) : Type 0 where
  pub spelled : SpellsDesign hosts source design
  pub given : stimulus_in source design ≡ Ok stimulus

-- ---- faults

-- 40 where the source is too long
abbrev pub IsTooLong : List ℕ → Fault → Type 0
IsTooLong source fault = (fault ≡ fault_of_source 40) × (longest_source < length source)

-- else the fault of its tokens: 10, 13, 14
abbrev pub HasNoTokens : List ℕ → Fault → Type 0
HasNoTokens source fault = (length source ≤ longest_source) × IsFirstTokenFault (design_part source) fault

-- else that of the grammar: 11, 12
abbrev pub HasNoTree : List ℕ → Fault → Type 0
HasNoTree source fault =
    (length source ≤ longest_source) × ((tokens : List Token) × AreTokensOf tokens (design_part source) × StandsBetween (design_part source) tokens fault)

-- else that of names, types and limits: 20 to 29, and 41, 42, 47, 43, 44, 46
abbrev pub HasNoDesign : List HostSpec → List ℕ → Fault → Type 0
HasNoDesign hosts source fault =
    (tree : Tree) × (wrong : Wrong) × SpellsTree source tree × (checked hosts tree ≡ Fails wrong) × (fault ≡ fault_at wrong.number (place_at (design_part source) wrong.place))

-- else that of the stimulus: 30, 31, 32
abbrev pub HasNoStimulus : List HostSpec → List ℕ → Fault → Type 0
HasNoStimulus hosts source fault = (design : Checked) × SpellsDesign hosts source design × (stimulus_in source design ≡ Err fault)

-- the source spells no tree, and this is why; no design; no design with a stimulus
abbrev pub IsUnread : List ℕ → Fault → Type 0
IsUnread source fault = HasNoTokens source fault ⊎ HasNoTree source fault

-- a source's design isn't read, or isn't well typed
abbrev pub IsIllTyped : List HostSpec → List ℕ → Fault → Type 0
IsIllTyped hosts source fault = IsUnread source fault ⊎ HasNoDesign hosts source fault

-- a source has no design, or its stimulus has a fault
abbrev pub IsUnspelled : List HostSpec → List ℕ → Fault → Type 0
IsUnspelled hosts source fault = IsIllTyped hosts source fault ⊎ HasNoStimulus hosts source fault
