-- The bits of a design's registers are those of the latches of its bit-level circuits.
use Rattle.std.proofs.Common.{◌≡◌, ◌<◌, ℕ, List, [], ◌∷◌, ◌++◌, length, map, Result, refl, sym, ap, ap₂, subst, ◌∙◌}
use Rattle.std.proofs.lemmas.List.{length-map}
use Rattle.std.specs.Prelude.{All}
use Rattle.std.specs.List.{flat_map}
use Rattle.kw_base.specs.declared.fault.Fault.{Fault}
use Rattle.koika_check.specs.Typing.{IsTypedDesign}
use Rattle.koika_check.specs.declared.checked.Checked.{Checked}
use Rattle.koika_check.specs.declared.checked.Register.{Register}
use Rattle.front_end.specs.Aigs.{IsAigOf}
use Rattle.front_end.specs.Sources.{name_of}
use Rattle.front_end.proofs.FirstValues.{aig-first}
use Rattle.aig_blast.specs.AigRun.{first_words}
use Rattle.aig_blast.specs.Aigs.{AigParts}
use Rattle.aig_blast.specs.declared.aig.LatchWord.{LatchWord}
use Rattle.aig_blast.specs.declared.aig.OutputBit.{OutputBit}
use Rattle.clause_check.specs.Clauses.{Clause}
use Rattle.invariant_check.specs.Bits as bits
use Rattle.invariant_check.specs.Bits.{bit_names}
use Rattle.invariant_check.specs.Invariants.{invariant_of}
use Rattle.lab_certify.specs.Claims.{invariant_in, register_bits}

bits_by : List Register → List (List ℕ)
bits_by [] = []
bits_by (r ∷ registers) = bit_names r.name r.width ++ bits_by registers

-- words with the names and widths of registers have the names of their bits
alike : (words : List LatchWord) (registers : List Register)
    → map (λ (word : LatchWord). word.name) words ≡ map (λ (r : Register). r.name) registers
    → map (λ (word : LatchWord). word.first.width) words ≡ map (λ (r : Register). r.width) registers
    → bits.register_bits words ≡ bits_by registers
unfolding bits_by
alike [] [] names widths = refl
alike [] (r ∷ registers) names widths = absurd cc
alike (word ∷ words) [] names widths = absurd cc
alike (word ∷ words) (r ∷ registers) names widths =
    let name : word.name ≡ r.name = cc in
    let width : word.first.width ≡ r.width = cc in
    let names' : map (λ (word : LatchWord). word.name) words ≡ map (λ (r : Register). r.name) registers = cc in
    let widths' : map (λ (word : LatchWord). word.first.width) words ≡ map (λ (r : Register). r.width) registers = cc in
    ap₂ (λ (xs ys : List (List ℕ)). xs ++ ys) (ap₂ bit_names name width) (alike words registers names' widths')

by-mapping : (registers : List Register)
    → bits_by registers ≡ flat_map (λ (r : Register). bit_names r.name r.width) registers
unfolding bits_by
by-mapping [] = refl
by-mapping (r ∷ registers) = ap (λ (xs : List (List ℕ)). bit_names r.name r.width ++ xs) (by-mapping registers)

module _ (d : Checked) (aig : AigParts) (is : IsAigOf d aig) where
  pub same-bits : bits.register_bits aig.latches ≡ register_bits d
  same-bits = alike aig.latches d.registers is.latches is.latch_widths ∙ by-mapping d.registers

  -- there is an output for each rule
  pub outputs-count : length aig.outputs ≡ length d.rules
  outputs-count =
      sym (length-map aig.outputs (λ (output : OutputBit). output.name)) ∙ ap length is.outputs
      ∙ length-map d.rules name_of

  pub outputs-within : (rules : List ℕ) → All (λ rule. rule < length d.rules) rules
      → All (λ output. output < length aig.outputs) rules
  outputs-within rules all = subst (λ (n : ℕ). All (λ rule. rule < n) rules) (sym outputs-count) all

  -- so an invariant of the circuit is one of the design
  pub same-invariant : IsTypedDesign d → (first_line : ℕ) (text : List ℕ) (read : Result (List Clause) Fault)
      → invariant_of (bits.register_bits aig.latches) (first_words aig.latches) first_line text ≡ read
      → invariant_in d (record { text = text; first_line = first_line }) ≡ read
  same-invariant typed first_line text read h =
      sym (λ i. invariant_of (same-bits i) (aig-first d typed aig is i) first_line text) ∙ h
