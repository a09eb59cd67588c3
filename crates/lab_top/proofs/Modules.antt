-- The module of a design's circuit is the design's.
use Rattle.std.proofs.Common.{◌≡◌, ◌++◌, ℕ, List, [], ◌∷◌, map, get_or, codes, Some, None, if◌then◌else◌, sym, ap, subst, ◌∙◌}
use Rattle.std.specs.Prelude.{All}
use Rattle.std.specs.List.{AllByRecursion}
use Rattle.std.proofs.lemmas.List.Elements.{All-append, All-from_recursion, All-map}
use Rattle.std.proofs.lemmas.Simd.{map-map}
use Rattle.net_graph.specs.Nets.{width_at, widths_of}
use Rattle.circuit_eval.specs.Run.{first_states}
use Rattle.circuit_eval.specs.declared.circuit.InputWire.{InputWire}
use Rattle.circuit_eval.specs.declared.circuit.OutputWire.{OutputWire}
use Rattle.circuit_eval.specs.declared.circuit.StateWire.{StateWire}
use Rattle.circuit_eval.specs.declared.circuit.Wires.{Wires}
use Rattle.koika_syntax.specs.Lexemes as design
use Rattle.koika_check.specs.declared.checked.Checked.{Checked}
use Rattle.koika_check.specs.declared.checked.Input.{Input}
use Rattle.koika_check.specs.declared.checked.Register.{Register}
use Rattle.koika_check.specs.declared.checked.CheckedRule.{CheckedRule}
use Rattle.front_end.specs.Circuits.{IsWiredAs}
use Rattle.front_end.specs.Names.{AreDistinct, HasWordNames, names_of}
use Rattle.front_end.specs.Sources.{name_of}
use Rattle.front_end.specs.Systems as typed
use Rattle.verilog_text.specs.Laws.{LeaveFirstValues}
use Rattle.verilog_text.specs.Modules.{IsWord}
use Rattle.verilog_text.specs.Names.{own_name, written}
use Rattle.verilog_text.specs.Translations as circuit
use Rattle.verilog_text.specs.Translations.{HasFlags, HasNames, HasParts, IsTextOf}
use Rattle.verilog_text.specs.declared.module.Module.{Module}
use Rattle.verilog_text.specs.declared.verilog.Options.{Options}
use Rattle.lab_top.specs.Verilog.{HasPartsOf, IsModuleOf}

-- a word of a design is one of a module
same-word : (bytes : List ℕ) → design.IsWord bytes → IsWord bytes
same-word [] is = is
same-word (b ∷ bytes) is = is

all-ones : (f : OutputWire → ℕ) (wires : List OutputWire) (rules : List CheckedRule) → map f wires ≡ map (λ (r : CheckedRule). 1) rules
    → AllByRecursion (λ (wire : OutputWire). f wire ≡ 1) wires
all-ones f [] rules e = tt
all-ones f (wire ∷ wires) [] e = absurd cc
all-ones f (wire ∷ wires) (r ∷ rules) e =
    let first : f wire ≡ 1 = cc in
    let others : map f wires ≡ map (λ (r : CheckedRule). 1) rules = cc in
    (first, all-ones f wires rules others)

module _ (d : Checked) (c : Wires) (wired : IsWiredAs d c) where
  pub has-flags : HasFlags c
  has-flags =
      All-from_recursion (λ (wire : OutputWire). width_at (widths_of c.net) wire.id ≡ 1) c.outputs
      (all-ones (λ (wire : OutputWire). width_at (widths_of c.net) wire.id) c.outputs d.rules wired.output_widths)

  names-same : circuit.names_of c ≡ names_of d
  names-same = λ i. wired.inputs i ++ wired.outputs i ++ wired.states i

  module _ (names : HasWordNames d) (distinct : AreDistinct (names_of d)) where
    has-names : HasNames c
    has-names = record {
      words = subst (All IsWord) (sym names-same)
          (All-append IsWord (map (λ (i : Input). i.name) d.inputs ++ map name_of d.rules)
          (map (λ (r : Register). r.name) d.registers)
          (All-append IsWord (map (λ (i : Input). i.name) d.inputs) (map name_of d.rules)
          (All-map IsWord (λ (i : Input). i.name) d.inputs
          (λ k x within. same-word (get_or d.inputs k x).name (names.inputs k x within)))
          (All-map IsWord name_of d.rules
          (λ k x within. same-word (get_or d.rules k x).name (names.rules k x within))))
          (All-map IsWord (λ (r : Register). r.name) d.registers
          (λ k x within. same-word (get_or d.registers k x).name (names.registers k x within))));
      distinct = subst AreDistinct (sym names-same) distinct;
    }

    module _ (firsts : first_states c.states ≡ typed.first_values d) (options : Options) where
      has-parts : (m : Module) → HasParts c options m → HasPartsOf d options m
      has-parts m parts = record {
        name = parts.name ∙ ap (λ names. own_name names (codes "koika")) names-same;
        clock = parts.clock ∙ ap (λ names. own_name names (codes "clk")) names-same;
        reset = parts.reset
            ∙ ap (λ names. if options.reset then Some (own_name names (codes "rst")) else None) names-same;
        ports = parts.ports;
        inputs = parts.inputs ∙ sym (map-map written (λ (wire : InputWire). wire.name) c.inputs)
            ∙ ap (map written) wired.inputs ∙ map-map written (λ (i : Input). i.name) d.inputs;
        input_widths = parts.input_widths ∙ wired.input_widths;
        outputs = parts.outputs ∙ sym (map-map written (λ (wire : OutputWire). wire.name) c.outputs)
            ∙ ap (map written) wired.outputs ∙ map-map written name_of d.rules;
        registers = parts.registers ∙ sym (map-map written (λ (wire : StateWire). wire.name) c.states)
            ∙ ap (map written) wired.states ∙ map-map written (λ (r : Register). r.name) d.registers;
        first_values = parts.first_values ∙ firsts;
      }

      pub is-module : LeaveFirstValues → (text : List ℕ) → IsTextOf c options text → IsModuleOf options d text
      is-module leaves text is = record {
        of = is.of;
        printed = is.printed;
        legal = is.legal;
        named = is.named has-names;
        parts = has-parts is.of is.parts;
        run = λ stimulus resets n given never.
            is.run stimulus resets n (given.widths ∙ sym wired.input_widths) given.fits never ∙ wired.run stimulus n given;
        resets = λ name inputs registers reset.
            leaves is.of name inputs registers reset ∙ is.parts.first_values ∙ firsts;
      }
