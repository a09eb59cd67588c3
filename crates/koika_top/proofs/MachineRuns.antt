-- The rows of a simulator's run from its beginning are those of its circuit.
use Rattle.std.proofs.Common.{◌≡◌, ℕ, ◌-◌, List, ◌∷◌, sym, ap, ◌∙◌, arith}
use Rattle.one_rule.specs.Run.{InputsByCycle}
use Rattle.one_rule.specs.declared.rows.Row.{Row}
use Rattle.aig_blast.specs.AigRun as bits
use Rattle.aig_blast.specs.AigSims as bit_sims
use Rattle.aig_blast.specs.Aigs.{AigParts}
use Rattle.aig_blast.proofs.AigRows as bit_rows
use Rattle.circuit_eval.specs.Run as words
use Rattle.circuit_eval.specs.Simulations as sims
use Rattle.circuit_eval.specs.declared.circuit.Wires.{Wires}
use Rattle.circuit_eval.proofs.RowByRow.{rows-are}
use Rattle.koika_top.specs.inner.Engines.{rows_of}

-- of a circuit of words
pub circuit-rows : (c : Wires) (sim : sims.Simulation) (inputs : InputsByCycle) (n : ℕ) → sim ≡ sims.beginning c → rows_of sims.after_step sims.row_at inputs sim n ≡ words.run_of c inputs n
circuit-rows c sim inputs n is =
    ap (λ (s : sims.Simulation). rows_of sims.after_step sims.row_at inputs s n) is
    ∙ ap (λ (rows : List Row). words.first_row c ∷ rows) (rows-are inputs n 0 (sims.beginning c))

-- and of one of gates
pub aig-rows : (a : AigParts) (sim : bit_sims.Simulation) (inputs : InputsByCycle) (n : ℕ) → sim ≡ bit_sims.beginning a → rows_of bit_sims.after_step bit_sims.row_at inputs sim n ≡ bits.run_of a inputs n
aig-rows a sim inputs n is =
    let all : n - 0 ≡ n = omega arith in
    let first : Row = bit_sims.row_at (bit_sims.beginning a) in
    ap (λ (s : bit_sims.Simulation). rows_of bit_sims.after_step bit_sims.row_at inputs s n) is
    ∙ ap (λ (rows : List Row). first ∷ rows)
    (bit_rows.rows-are inputs n 0 (bit_sims.beginning a) ∙ sym (ap (λ (k : ℕ). bits.rows_after a inputs k 0 (bits.first_words a.latches)) all))
    ∙ bit_rows.run-begins a inputs n
