-- What an obligation is made of. Only contracts of private functions cite it.
use Rattle.std.specs.Prelude.{◌≡◌, ℕ, List, sum}
use Rattle.clause_check.specs.Clauses.{Clause}
use Rattle.aig_blast.specs.Aigs.{AigParts, IsAig, input_word_widths}
use Rattle.invariant_check.specs.inner.Kept.{IsClaim}
use Rattle.invariant_check.specs.Obligations.{claimed_lits, needed_in, next_lits, top_of}
use Rattle.invariant_check.specs.declared.obligations.Parts.{Parts}

-- the parts are those of a circuit, an invariant and claimed outputs
pub record ArePartsOf (a : AigParts) (invariant : List Clause) (claimed : List ℕ) (parts : Parts) : Type 0 where
  pub aig : IsAig a
  pub claim : IsClaim a invariant claimed
  pub inputs : parts.inputs ≡ sum (input_word_widths a.inputs)
  pub nexts : parts.nexts.items ≡ next_lits a.latches
  pub claims : parts.claims.items ≡ claimed_lits a.outputs claimed
  pub needed : parts.needed.items ≡ needed_in a invariant claimed
  pub top : parts.top ≡ top_of a invariant claimed
