-- An invariant that no step breaks, in the rows of a run: by induction over the cycles.
use Rattle.std.proofs.Common.{◌≡◌, ℕ, zero, suc, ◌+◌, true, false, not, List, [], ◌∷◌, map, get_or, refl, subst}
use Rattle.std.specs.List.{All}
use Rattle.std.proofs.lemmas.Bool.{false_from_ne_true, not-false, or_parts}
use Rattle.std.proofs.lemmas.List.Elements.{All-cons, All-nil}
use Rattle.std.proofs.lemmas.List.Folds.{list_any_none}
use Rattle.kw_bits.specs.BitVector.{BitVector}
use Rattle.circuit_eval.specs.Circuits.{AreBits}
use Rattle.circuit_eval.proofs.Stimuli.{HaveWidths-AreBits}
use Rattle.one_rule.specs.Run.{InputsByCycle}
use Rattle.one_rule.specs.Stimulus.{inputs_of}
use Rattle.one_rule.specs.declared.rows.Row.{Row}
use Rattle.clause_check.specs.Clauses.{Clause, Cnf, IsUnsatisfiable}
use Rattle.aig_blast.specs.AigRun.{first_row, first_words, row_after, rows_after, values_in}
use Rattle.aig_blast.specs.Aigs.{AigParts, IsAig, input_word_widths, latch_widths, variables}
use Rattle.aig_blast.specs.declared.aig.OutputBit.{OutputBit}
use Rattle.aig_blast.proofs.SimValues.{first_words-AreBits, next_words-AreBits}
use Rattle.invariant_check.specs.Kept.{IsKept, IsKeptInEveryRun, SaysWhatBreaks, breaks, fires, is_true_of}

-- no output is 1 before the first step
none_at : (outputs : List OutputBit) (k : ℕ) → get_or (map (λ (output : OutputBit). false) outputs) k false ≡ false
none_at [] k = refl
none_at (output ∷ outputs) zero = refl
none_at (output ∷ outputs) (suc k) = none_at outputs k

first_silent : (a : AigParts) (claimed : List ℕ) → fires claimed (first_row a).fired ≡ false
first_silent a claimed =
    list_any_none (λ (output : ℕ). get_or (map (λ (bit : OutputBit). false) a.outputs) output false) claimed
    (λ k d within. none_at a.outputs (get_or claimed k d))

module _ (a : AigParts) (invariant : List Clause) (claimed : List ℕ) (formula : Cnf) (valid : IsAig a)
    (says : SaysWhatBreaks a invariant claimed formula)
    (never : IsUnsatisfiable formula.clauses) where
  -- a step from registers of which the invariant is true breaks nothing
  unbroken : (inputs registers : List BitVector) → AreBits inputs (input_word_widths a.inputs)
      → AreBits registers (latch_widths a.latches) → is_true_of invariant registers ≡ true
      → IsKept invariant claimed (row_after a inputs registers)
  unbroken inputs registers given held holds =
      let none : breaks a invariant claimed inputs registers ≡ false =
      false_from_ne_true (breaks a invariant claimed inputs registers) (λ broken.
      let found = (says inputs registers given held).1 (holds, broken) in
      never found.0 found.2) in
      let row : Row = row_after a inputs registers in
      let parts = or_parts (fires claimed row.fired) (not (is_true_of invariant row.regs)) none in
      record { holds = not-false (is_true_of invariant row.regs) parts.1; silent = parts.0 }

  rows_kept : (inputs : InputsByCycle) → ((cycle : ℕ) → AreBits (inputs cycle) (input_word_widths a.inputs))
      → (count last : ℕ) (registers : List BitVector)
      → AreBits registers (latch_widths a.latches) → is_true_of invariant registers ≡ true
      → All (IsKept invariant claimed) (rows_after a inputs count last registers)
  unfolding rows_after
  rows_kept inputs given zero last registers held holds = All-nil (IsKept invariant claimed)
  rows_kept inputs given (suc count) last registers held holds =
      let row : Row = row_after a (inputs (last + 1)) registers in
      let kept = unbroken (inputs (last + 1)) registers (given (last + 1)) held holds in
      All-cons (IsKept invariant claimed) row (rows_after a inputs count (last + 1) row.regs) kept
      (rows_kept inputs given count (last + 1) row.regs
      (next_words-AreBits (variables a) a.latches (values_in a (inputs (last + 1)) registers) valid.latches)
      kept.holds)

  pub kept_in_every_run : is_true_of invariant (first_words a.latches) ≡ true → IsKeptInEveryRun a invariant claimed
  kept_in_every_run holds = λ stimulus n same fits.
      All-cons (IsKept invariant claimed) (first_row a) (rows_after a (inputs_of stimulus) n 0 (first_words a.latches))
      (record { holds = holds; silent = first_silent a claimed })
      (rows_kept (inputs_of stimulus)
      (λ cycle. subst (AreBits (inputs_of stimulus cycle)) same
      (HaveWidths-AreBits stimulus.widths (inputs_of stimulus cycle) (fits cycle)))
      n 0 (first_words a.latches) (first_words-AreBits (variables a) a.latches valid.latches) holds)
