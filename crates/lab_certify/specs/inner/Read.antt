-- A claim as it is read, with a bit-level circuit of its design. Only contracts of private functions cite it.
use Rattle.std.specs.Prelude.{◌≡◌, ℕ, ◌<◌, IsTrue, List, All, length, sum}
use Rattle.front_end.specs.Aigs.{IsAigOf}
use Rattle.koika_check.specs.Typing.{IsTypedDesign}
use Rattle.aig_blast.specs.AigRun.{first_words}
use Rattle.aig_blast.specs.Aigs.{IsAig, latch_widths}
use Rattle.invariant_check.specs.Kept.{HaveLiterals, is_true_of}
use Rattle.lab_certify.specs.Claims.{Claim, InvariantPart}
use Rattle.lab_certify.specs.declared.claimed.Claimed.{Claimed}

-- bytes and the number of their first line
abbrev pub part_of : List ℕ → ℕ → InvariantPart
part_of text first_line = record { text = text; first_line = first_line }

-- what is claimed
abbrev pub claim_of : Claimed → Claim
claim_of it = record { design = it.design; invariant = it.invariant.clauses; rules = it.rules.items }

-- the circuit is valid and the design's, the rules are there, and the invariant is over the bits of its registers and
-- true of the first values
pub record IsReady (it : Claimed) : Type 0 where
  pub typed : IsTypedDesign it.design
  pub valid : IsAig it.aig
  pub circuit : IsAigOf it.design it.aig
  pub rules : All (λ rule. rule < length it.design.rules) it.rules.items
  pub bits : it.invariant.variables ≡ sum (latch_widths it.aig.latches)
  pub literals : HaveLiterals it.invariant.clauses
  pub first : IsTrue (is_true_of it.invariant.clauses (first_words it.aig.latches))
