-- A circuit that was printed and read again is still the design's.
use Rattle.std.proofs.Common.{◌≡◌, ℕ, List, sym, subst, ◌∙◌, None, Result, Ok}
use Rattle.kw_base.specs.Fault.{IfFault, IsOkUnlessNoMemory}
use Rattle.kw_base.specs.declared.fault.Refusal.{Refusal}
use Rattle.circuit_eval.specs.declared.circuit.Wires.{Wires}
use Rattle.btor2_text.specs.Printable.{ArePrintable, numbered_from}
use Rattle.btor2_text.specs.Reading.{AreLinesOf}
use Rattle.btor2_text.specs.declared.line.Line.{Line}
use Rattle.btor2_model.specs.Acceptance.{IsAccepted, first_fault}
use Rattle.btor2_net.specs.Translations as translation
use Rattle.btor2_net.specs.Translations.{HasLines}
use Rattle.koika_check.specs.declared.checked.Checked.{Checked}
use Rattle.koika_top.specs.Compile.{AreCircuitOf}
use Rattle.front_end.specs.Circuits.{IsWiredAs}
use Rattle.front_end.proofs.Results.{no-fault, value-is}

-- ---- lines that are read again

-- accepted lines that are printed, and stay numbered, are read and accepted again
module _ (lines : List Line) (accepted : IsAccepted lines) (numbers : numbered_from 1 lines ≡ lines) (printed bytes : List ℕ) (is : bytes ≡ printed) (again : ArePrintable lines → AreLinesOf printed (numbered_from 1 lines))
    (read : Result (List Line) Refusal) (reads : (found : List Line) → AreLinesOf bytes found → IsOkUnlessNoMemory read (λ (ls : List Line). ls ≡ found)) where
  reads-lines : IsOkUnlessNoMemory read (λ (ls : List Line). ls ≡ lines)
  reads-lines = reads lines (subst (λ (text : List ℕ). AreLinesOf text lines) (sym is) (subst (AreLinesOf printed) numbers (again accepted.forms)))

  pub no-fault-read : IfFault read (λ fault. ⊥)
  no-fault-read = no-fault read _ reads-lines

  module _ (found : List Line) (ok : read ≡ Ok found) where
    pub found-is : found ≡ lines
    found-is = value-is read _ found reads-lines ok

    module _ (text : Result (List Line) Refusal) (accepts : first_fault found ≡ None → IsOkUnlessNoMemory text (λ (ls : List Line). ls ≡ found)) where
      accepts-found : IsOkUnlessNoMemory text (λ (ls : List Line). ls ≡ found)
      accepts-found = accepts (subst (λ (ls : List Line). first_fault ls ≡ None) (sym found-is) accepted.no_fault)

      pub no-fault-accepted : IfFault text (λ fault. ⊥)
      no-fault-accepted = no-fault text _ accepts-found

      pub text-is : (taken : List Line) → text ≡ Ok taken → taken ≡ lines
      text-is taken ok = value-is text _ taken accepts-found ok ∙ found-is

-- the circuit of the text of a design's circuit is the design's
pub wired-again : (d : Checked) (lines : List Line) → AreCircuitOf d lines → (c : Wires) → HasLines lines c → translation.RunsAs lines c → IsWiredAs d c
wired-again d lines are c has runs = record {
  inputs = has.inputs ∙ are.parts.inputs;
  input_widths = has.input_widths ∙ are.parts.input_widths;
  states = has.states ∙ are.parts.states;
  state_widths = has.state_widths ∙ are.parts.state_widths;
  outputs = has.outputs ∙ are.parts.outputs;
  output_widths = has.output_widths ∙ are.parts.output_widths;
  run = λ stimulus n fits. runs stimulus n (fits.widths ∙ sym (has.input_widths ∙ are.parts.input_widths)) fits.fits ∙ are.run stimulus n fits;
}
