-- The first values of a design's circuits are those of the design's registers: the first row of a run has them, on the
-- stimulus that has no lines.
use Rattle.std.proofs.Common.{◌≡◌, ℕ, zero, suc, List, [], ◌∷◌, map, refl, sym, ap, subst}
use Rattle.std.specs.Prelude.{All}
use Rattle.std.proofs.lemmas.List.Elements.{All-nil}
use Rattle.kw_bits.specs.BitVector.{BitVector}
use Rattle.typed_core.specs.Valid.{IsWidth}
use Rattle.typed_core.specs.Widths.{HaveWidths}
use Rattle.one_rule.specs.Stimulus.{Assigns, InputVectors, inputs_by, inputs_of}
use Rattle.one_rule.specs.declared.rows.Row.{Row}
use Rattle.one_rule.proofs.Inputs.{inputs_by_fits}
use Rattle.stim_report.specs.declared.shape.NameWidth.{NameWidth}
use Rattle.circuit_eval.specs.Run.{first_states}
use Rattle.circuit_eval.specs.declared.circuit.Wires.{Wires}
use Rattle.aig_blast.specs.Aigs.{AigParts}
use Rattle.aig_blast.specs.AigRun.{first_words}
use Rattle.koika_check.specs.Typing.{IsTypedDesign}
use Rattle.koika_check.specs.declared.checked.Checked.{Checked}
use Rattle.koika_lower.specs.Lowering.{typed_input_widths}
use Rattle.front_end.specs.Sources.{of_input, shape_of}
use Rattle.front_end.specs.Systems.{first_values}
use Rattle.front_end.proofs.LoweredRuns.{twice}
use Rattle.front_end.proofs.Reading.{widths-valid}
use Rattle.front_end.specs.Aigs.{IsAigOf}
use Rattle.front_end.specs.Circuits.{IsStimulusFor, IsWiredAs}

-- the registers of the first of some rows
abbrev first_registers : List Row → List BitVector
first_registers [] = []
first_registers (row ∷ rows) = row.regs

module _ (d : Checked) (typed : IsTypedDesign d) where
  abbrev no_lines : InputVectors
  no_lines = record { widths = typed_input_widths d; cycles = [] }

  valid : All IsWidth (typed_input_widths d)
  valid = subst (All IsWidth) (twice of_input (λ (n : NameWidth). n.width) d.inputs) (widths-valid d (shape_of d) typed refl)

  all-zero : HaveWidths (typed_input_widths d) (inputs_by (typed_input_widths d) [])
  all-zero = inputs_by_fits (typed_input_widths d) [] valid (All-nil (Assigns (typed_input_widths d)))

  no_lines-fits : (cycle : ℕ) → HaveWidths (typed_input_widths d) (inputs_of no_lines cycle)
  unfolding inputs_of
  no_lines-fits zero = all-zero
  no_lines-fits (suc before) = all-zero

  no_lines-for : IsStimulusFor d no_lines
  no_lines-for = record { widths = refl; fits = no_lines-fits }

  pub circuit-first : (c : Wires) → IsWiredAs d c → first_states c.states ≡ first_values d
  circuit-first c is = ap first_registers (is.run no_lines 0 no_lines-for)

  pub aig-first : (aig : AigParts) → IsAigOf d aig → first_words aig.latches ≡ first_values d
  aig-first aig is = ap first_registers (is.run no_lines 0 no_lines-for)
