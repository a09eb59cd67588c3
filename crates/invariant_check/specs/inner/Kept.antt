-- What private functions alone cite of this crate's `Kept`.
use Rattle.std.specs.Prelude.{ℕ, ◌<◌, List, length, All, sum}
use Rattle.clause_check.specs.Clauses.{Clause, IsLiteral}
use Rattle.aig_blast.specs.Aigs.{AigParts, latch_widths}

-- the literals of an invariant are of bits of the registers, and the claimed outputs are there
pub record IsClaim (a : AigParts) (invariant : List Clause) (claimed : List ℕ) : Type 0 where
  pub literals : All (All (IsLiteral (sum (latch_widths a.latches)))) invariant
  pub outputs : All (λ output. output < length a.outputs) claimed
