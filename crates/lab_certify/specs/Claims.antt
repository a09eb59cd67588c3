-- What a source of `obligation` or `certify` claims: that an invariant is true of a design's registers in every run, and
-- that some of its rules never fire. An invariant is clauses over bits of registers (inductive invariants: Bradley,
-- "SAT-Based Model Checking without Unrolling", VMCAI 2011). And the faults of sources that claim nothing, in their
-- order. The form of sources is this project's own.
use Rattle.std.specs.Prelude.{◌≡◌, ℕ, ◌<◌, ◌≤◌, ◌⊎◌, List, [], ◌∷◌, map, Option, None, Some, option_map, Result, Ok, Err}
use Rattle.std.specs.List.{flat_map}
use Rattle.kw_base.specs.declared.fault.Fault.{Fault}
use Rattle.kw_bits.specs.declared.host.HostSpec.{HostSpec}
use Rattle.koika_check.specs.BitWeights.{bit_weight}
use Rattle.koika_check.specs.declared.checked.Checked.{Checked}
use Rattle.koika_check.specs.declared.checked.Register.{Register}
use Rattle.one_rule.specs.Stimulus.{InputVectors}
use Rattle.journal_check.specs.Tokens.{number_named}
use Rattle.front_end.specs.Certified.{HasNoParts, SpellsBoth, parts_of, proof_parts_of}
use Rattle.front_end.specs.Sources.{fault_of_source, name_of}
use Rattle.front_end.specs.Systems.{first_values}
use Rattle.front_end.specs.Aigs.{most_bits}
use Rattle.clause_check.specs.Clauses.{Clause}
use Rattle.invariant_check.specs.Bits.{bit_names}
use Rattle.invariant_check.specs.Invariants.{invariant_of}

-- ---- claims

-- an invariant's text, and the number of its first line in the source
pub record InvariantPart : Type 0 where
  pub text : List ℕ
  pub first_line : ℕ

-- the invariant of `obligation`: all after the second line `%%`
abbrev pub last_part : List ℕ → InvariantPart
last_part source = record { text = (parts_of source).certificate; first_line = (parts_of source).certificate_line }

-- the invariant of `certify`: what is between the second line `%%` and the third
abbrev pub third_part : List ℕ → InvariantPart
third_part source =
    record { text = (proof_parts_of source).invariant; first_line = (proof_parts_of source).invariant_line }

-- the names of the bits of a design's registers, in order of declaration, bit 0 first
abbrev pub register_bits : Checked → List (List ℕ)
register_bits d = flat_map (λ (r : Register). bit_names r.name r.width) d.registers

-- the invariant of a design that a text gives, which is true of the first values, or its first fault
abbrev pub invariant_in : Checked → InvariantPart → Result (List Clause) Fault
invariant_in d part = invariant_of (register_bits d) (first_values d) part.first_line part.text

-- the rules that are claimed never to fire: the one of a name, if there is one, or else those of all assertions
abbrev pub claimed_of : Checked → Option (List ℕ) → Option (List ℕ)
claimed_of d None = Some d.asserts
claimed_of d (Some name) = option_map (λ rule. rule ∷ []) (number_named (map name_of d.rules) name)

-- a claim: a design, an invariant of it, and the rules that never fire
pub record Claim : Type 0 where
  pub design : Checked
  pub invariant : List Clause
  pub rules : List ℕ

-- the source spells this design, which has few bits, and a stimulus for it
pub record SpellsLight (hosts : List HostSpec) (source : List ℕ) (design : Checked) : Type 0 where
  pub stimulus : InputVectors
  pub spelled : SpellsBoth hosts source design stimulus
  pub light : bit_weight design ≤ most_bits

-- with its invariant in this part the source claims this of the rule of a name, or of those of all assertions
pub record Claims (hosts : List HostSpec) (name : Option (List ℕ)) (part : InvariantPart) (source : List ℕ)
    (claim : Claim) : Type 0 where
  pub spelled : SpellsLight hosts source claim.design
  pub named : claimed_of claim.design name ≡ Some claim.rules
  pub read : invariant_in claim.design part ≡ Ok claim.invariant

-- ---- faults

-- 48 where the design has too many bits
abbrev pub HasTooManyBits : List HostSpec → List ℕ → Fault → Type 0
HasTooManyBits hosts source fault =
    (fault ≡ fault_of_source 48) × ((design : Checked) × (stimulus : InputVectors)
    × SpellsBoth hosts source design stimulus × (most_bits < bit_weight design))

-- else 90 where no rule has the name
abbrev pub NamesNoRule : List HostSpec → Option (List ℕ) → List ℕ → Fault → Type 0
NamesNoRule hosts name source fault =
    (fault ≡ fault_of_source 90) × ((design : Checked) × SpellsLight hosts source design
    × (claimed_of design name ≡ None))

-- else the invariant's first fault: that of the first literal that is none, 91, or of the first clause that is false, 92
abbrev pub HasNoInvariant : List HostSpec → Option (List ℕ) → InvariantPart → List ℕ → Fault → Type 0
HasNoInvariant hosts name part source fault =
    (design : Checked) × (rules : List ℕ) × SpellsLight hosts source design × (claimed_of design name ≡ Some rules)
    × (invariant_in design part ≡ Err fault)

-- the source claims nothing, and this is why: first come the faults of the source's length, design and stimulus
abbrev pub HasNoClaim : List HostSpec → Option (List ℕ) → InvariantPart → List ℕ → Fault → Type 0
HasNoClaim hosts name part source fault =
    HasNoParts hosts source fault ⊎ (HasTooManyBits hosts source fault
    ⊎ (NamesNoRule hosts name source fault ⊎ HasNoInvariant hosts name part source fault))
