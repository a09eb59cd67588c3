-- What has to be refuted for a claim to hold, what `obligation` writes of it, and when `certify` takes a refutation:
-- the proof by a SAT solver, in LRAT (Cruz-Filipe et al., CADE 2017), that each cycle keeps the invariant and that under
-- it no claimed rule fires. Which circuit of the design the clauses are made of is left open: any that has its run.
use Rattle.std.specs.Prelude.{◌≡◌, ℕ, ◌≤◌, ◌⊎◌, IsTrue, List, [], ◌∷◌, ◌++◌, codes, decimal, length, All, Option, None, Some}
use Rattle.std.specs.List.{flat_map, list_any}
use Rattle.kw_base.specs.declared.fault.Fault.{Fault}
use Rattle.kw_bits.specs.declared.host.HostSpec.{HostSpec}
use Rattle.koika_check.specs.declared.checked.Checked.{Checked}
use Rattle.one_rule.specs.Stimulus.{InputVectors, inputs_of}
use Rattle.front_end.specs.Certified.{proof_parts_of}
use Rattle.front_end.specs.Marks.{marked_name}
use Rattle.front_end.specs.Systems.{run_of}
use Rattle.front_end.specs.Aigs.{IsAigOf}
use Rattle.front_end.specs.Circuits.{IsStimulusFor}
use Rattle.aig_blast.specs.Aigs.{AigParts, IsAig, sources}
use Rattle.clause_check.specs.Clauses.{Cnf, IsLiteral}
use Rattle.clause_check.specs.Refutations.{fault_of, is_empty}
use Rattle.invariant_check.specs.Kept.{IsIdle, IsKept, SaysWhatBreaks}
use Rattle.invariant_check.specs.Obligations.{obligation_of}
use Rattle.invariant_check.specs.Texts.{text_of}
use Rattle.lab_certify.specs.Claims.{Claim, Claims, HasNoClaim, last_part, third_part}

-- ---- obligations

-- the clauses to be refuted, by a bit-level circuit of the claim's design: both commands mean these
abbrev pub obligation_in : AigParts → Claim → Cnf
obligation_in circuit claim = obligation_of circuit claim.invariant claim.rules

-- what the clauses promise
pub record KeepsPromise (circuit : AigParts) (claim : Claim) (formula : Cnf) : Type 0 where
  -- the registers and inputs that satisfying assignments give are exactly those of which the invariant is true, and for
  -- which in the circuit's step a claimed rule fires or after it the invariant is false
  pub says : SaysWhatBreaks circuit claim.invariant claim.rules formula
  -- there is a clause without literals only where, with constants folded, nothing is left to be refuted
  pub empty : IsTrue (list_any is_empty formula.clauses) → IsIdle circuit claim.invariant claim.rules
  -- no number is above the greatest that the text names
  pub named : sources circuit ≤ formula.variables
  pub within : All (All (IsLiteral formula.variables)) formula.clauses

-- the text is that of the obligation of the source's claim
pub record ShowsObligation (circuit : AigParts) (hosts : List HostSpec) (name : Option (List ℕ)) (source text : List ℕ)
    : Type 0 where
  pub claim : Claim
  pub claims : Claims hosts name (last_part source) source claim
  pub is : IsAig circuit
  pub is_of : IsAigOf claim.design circuit
  pub told : text ≡ text_of circuit (obligation_in circuit claim)
  pub promise : KeepsPromise circuit claim (obligation_in circuit claim)

-- ---- certificates

-- on every stimulus for the design's inputs and for every number of cycles, in each row of the design's run each clause
-- of the invariant is true of the registers, and no claimed rule is among those that fired
abbrev pub HoldsInEveryRun : Claim → Type 0
HoldsInEveryRun claim = (stimulus : InputVectors) (n : ℕ) → IsStimulusFor claim.design stimulus
    → All (IsKept claim.invariant claim.rules) (run_of claim.design (inputs_of stimulus) n)

-- the first fault of a source's refutation of these clauses, or none where it refutes them
abbrev pub fault_in : List ℕ → Cnf → Option Fault
fault_in source formula =
    fault_of formula (proof_parts_of source).refutation_line (proof_parts_of source).refutation

-- a line for a claimed rule
abbrev pub never_line : Checked → ℕ → List ℕ
never_line d rule = codes "never " ++ marked_name d rule ++ 10 ∷ []

-- what `certify` writes of a claim: how many clauses its invariant has, and which rules never fire
abbrev pub claim_text : Claim → List ℕ
claim_text claim =
    codes "clauses " ++ decimal (length claim.invariant) ++ 10 ∷ flat_map (never_line claim.design) claim.rules

-- the source's refutation is taken, its claim holds, and the text says so
pub record ShowsCertified (circuit : AigParts) (hosts : List HostSpec) (name : Option (List ℕ)) (source text : List ℕ)
    : Type 0 where
  pub claim : Claim
  pub claims : Claims hosts name (third_part source) source claim
  pub is : IsAig circuit
  pub is_of : IsAigOf claim.design circuit
  pub taken : fault_in source (obligation_in circuit claim) ≡ None
  pub holds : HoldsInEveryRun claim
  pub told : text ≡ claim_text claim

-- the source claims something, and its refutation has a fault: the first line with 93 or 94, or else 95 past the last line
abbrev pub IsUnrefuted : AigParts → List HostSpec → Option (List ℕ) → List ℕ → Fault → Type 0
IsUnrefuted circuit hosts name source fault =
    (claim : Claim) × Claims hosts name (third_part source) source claim × IsAig circuit
    × IsAigOf claim.design circuit × (fault_in source (obligation_in circuit claim) ≡ Some fault)

-- the source is no certificate, and this is why
abbrev pub IsUncertified : AigParts → List HostSpec → Option (List ℕ) → List ℕ → Fault → Type 0
IsUncertified circuit hosts name source fault =
    HasNoClaim hosts name (third_part source) source fault ⊎ IsUnrefuted circuit hosts name source fault
