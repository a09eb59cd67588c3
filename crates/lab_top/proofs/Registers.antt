-- The registers that a run leaves, cycle by cycle and batch by batch.
use Rattle.std.proofs.Common.{◌≡◌, ℕ, zero, suc, ◌+◌, ◌-◌, ◌≤◌, List, [], ◌∷◌, ◌++◌, length, get_or, drop, refl, sym, ap, subst, ◌∙◌, arith}
use Rattle.kw_bits.specs.BitVector.{BitVector}
use Rattle.typed_core.specs.Valid.{IsValid}
use Rattle.typed_core.specs.Widths.{HaveWidths, input_widths, register_widths}
use Rattle.typed_core.specs.declared.design.Parts.{Parts}
use Rattle.one_rule.specs.Cycle.{System, cycle, system_of}
use Rattle.one_rule.specs.Rows.{RowsFit}
use Rattle.one_rule.specs.Run.{InputsByCycle, first_values, last_registers, rows_after, run, run_of}
use Rattle.one_rule.specs.declared.rows.Row.{Row}
use Rattle.one_rule.proofs.Fitting.{first_values_fit}
use Rattle.one_rule.proofs.Runs.{runs_fit, runs_in_parts}

-- the last of rows in two parts
last-append : (regs : List BitVector) (xs ys : List Row) → last_registers regs (xs ++ ys) ≡ last_registers (last_registers regs xs) ys
last-append regs [] ys = refl
last-append regs (x ∷ xs) ys = last-append x.regs xs ys

-- it is those of the last row
pub last-row : (regs : List BitVector) (rows : List Row) (n : ℕ) (d : Row) → n + 1 ≡ length rows → last_registers regs rows ≡ (get_or rows n d).regs
last-row regs [] n d e = absurd (omega (arith, e))
last-row regs (row ∷ []) zero d e = refl
last-row regs (row ∷ []) (suc n) d e = absurd (omega (arith, e))
last-row regs (row ∷ next ∷ rows) zero d e = absurd (omega (arith, e))
last-row regs (row ∷ next ∷ rows) (suc n) d e = last-row row.regs (next ∷ rows) n d (omega (arith, e))

-- and fits where all do
pub last-fits : (design : Parts) (regs : List BitVector) (rows : List Row) → HaveWidths (register_widths design) regs → RowsFit design rows → HaveWidths (register_widths design) (last_registers regs rows)
last-fits design regs [] fits all = fits
last-fits design regs (row ∷ rows) fits all = last-fits design row.regs rows all.0.registers all.1

drop-none : (rows : List Row) → drop 0 rows ≡ rows
drop-none [] = refl
drop-none (row ∷ rows) = refl

module _ (system : System) (inputs : InputsByCycle) (first : List BitVector) where
  -- the registers that a run of n cycles leaves
  abbrev pub left : ℕ → List BitVector
  left n = last_registers first (run system inputs first 0 n)

  -- a run that goes on from the registers that a shorter one leaves
  pub left-more : (k n : ℕ) → k ≤ n → last_registers (left k) (run system inputs (left k) k n) ≡ left n
  left-more k n h =
      let rest : List Row = rows_after system inputs (n - k) k (left k) in
      sym
      (ap (last_registers first) (runs_in_parts system inputs first 0 k n (omega arith) h)
      ∙ last-append first (run system inputs first 0 k) (drop 1 (run system inputs (left k) k n))
      ∙ ap (last_registers (left k)) (drop-none rest))

  -- the registers after one more cycle
  pub left-next : (k : ℕ) → (cycle system (inputs (k + 1)) (left k)).regs ≡ left (k + 1)
  left-next k =
      let one : k + 1 - k ≡ 1 = omega arith in
      sym (ap (λ (count : ℕ). last_registers (left k) (rows_after system inputs count k (left k))) one) ∙ left-more k (k + 1) (omega arith)

  -- the registers after a cycle
  pub left-step : (n : ℕ) → 1 ≤ n → (cycle system (inputs n) (left (n - 1))).regs ≡ left n
  left-step n h =
      let back : n - 1 + 1 ≡ n = omega (arith, h) in
      subst (λ (k : ℕ). (cycle system (inputs k) (left (n - 1))).regs ≡ left k) back (left-next (n - 1))

-- they fit, where the inputs do
pub left-fit : (design : Parts) → IsValid design → (inputs : InputsByCycle) → ((k : ℕ) → HaveWidths (input_widths design) (inputs k)) → (n : ℕ) → HaveWidths (register_widths design) (left (system_of design) inputs (first_values design) n)
left-fit design valid inputs fit n =
    last-fits design (first_values design) (run_of design inputs n) (first_values_fit design valid) (runs_fit design inputs n valid (λ k low high. fit k))
