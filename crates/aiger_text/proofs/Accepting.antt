-- A text is accepted exactly where it has a circuit, and its fault is the same.
use Rattle.std.proofs.Common.{◌≡◌, ℕ, ◌+◌, ◌&&◌, Bool, cond, List, [], ◌∷◌, length, take, Option, None, Some, Result, Ok, Err, refl, sym, ap, ap₂, ◌∙◌, arith}
use Rattle.std.specs.Prelude.{is_some}
use Rattle.std.proofs.lemmas.List.{take_all}
use Rattle.kw_base.specs.Place.{capped}
use Rattle.kw_base.specs.declared.fault.Fault.{Fault}
use Rattle.aig_blast.specs.Aigs.{AigParts}
use Rattle.aig_blast.specs.declared.gate.Gate.{Gate}
use Rattle.stim_report.specs.Stimuli.{after, next_line}
use Rattle.aiger_text.specs.Acceptance.{accepted_text, first_of_faults, first_unusable, is_usable, unless_fault, unusable_gate, unusable_literal}
use Rattle.aiger_text.specs.Drafts.{Draft, draft_of, fault_in}
use Rattle.aiger_text.specs.Reading.{aig_by, aig_of, all_placed, gate_by, gates_of, gates_placed, known, lits_of, nexts_of, placed_gate, placed_literal}
use Rattle.aiger_text.proofs.Lines.{aig_by-parts, parts_from}
use Rattle.aiger_text.proofs.Placements.{placed-usable}

-- the fault of a result, if it is one
abbrev fault_of : {X : Type 0} → Result X Fault → Option Fault
fault_of (Ok x) = None
fault_of (Err fault) = Some fault

-- an item of a line before the items of later lines
one-more : {X : Type 0} (number : ℕ) (first : Option X) (rest : Result (List X) Fault) (later : Option Fault) → fault_of rest ≡ later
    → fault_of (after (known number first) (λ first. after rest (λ others. Ok (first ∷ others)))) ≡ cond (is_some first) later (Some (fault_in 74 number))
one-more number None rest later is = refl
one-more number (Some first) (Ok others) later is = is
one-more number (Some first) (Err fault) later is = is

literals-fault : (variables : List ℕ) (n number : ℕ) (lits : List ℕ) → fault_of (all_placed variables (1 + n) number lits) ≡ unusable_literal (take n variables) number lits
literals-fault variables n number [] = refl
literals-fault variables n number (lit ∷ lits) =
    one-more number (placed_literal variables (1 + n) lit) (all_placed variables (1 + n) (next_line number) lits) (unusable_literal (take n variables) (next_line number) lits) (literals-fault variables n (next_line number) lits)
    ∙ ap (λ t. cond t (unusable_literal (take n variables) (next_line number) lits) (Some (fault_in 74 number))) (placed-usable variables n lit)

both-some : (left right : Option ℕ) → is_some (gate_by left right) ≡ (is_some left && is_some right)
both-some None right = refl
both-some (Some left) None = refl
both-some (Some left) (Some right) = refl

gate-usable : (variables : List ℕ) (n : ℕ) (gate : Gate) → is_some (placed_gate variables (1 + n) gate) ≡ (is_usable (take n variables) gate.left && is_usable (take n variables) gate.right)
gate-usable variables n gate =
    both-some (placed_literal variables (1 + n) gate.left) (placed_literal variables (1 + n) gate.right)
    ∙ ap₂ (λ (x y : Bool). x && y) (placed-usable variables n gate.left) (placed-usable variables n gate.right)

gates-fault : (variables : List ℕ) (n number : ℕ) (gates : List Gate) → fault_of (gates_placed variables (1 + n) number gates) ≡ unusable_gate variables n number gates
gates-fault variables n number [] = refl
gates-fault variables n number (gate ∷ gates) =
    let next : 1 + n + 1 ≡ 1 + (n + 1) = omega arith in
    one-more number (placed_gate variables (1 + n) gate) (gates_placed variables (1 + n + 1) (next_line number) gates) (unusable_gate variables (n + 1) (next_line number) gates)
    (ap (λ k. fault_of (gates_placed variables k (next_line number) gates)) next ∙ gates-fault variables (n + 1) (next_line number) gates)
    ∙ ap (λ t. cond t (unusable_gate variables (n + 1) (next_line number) gates) (Some (fault_in 74 number))) (gate-usable variables n gate)

-- next literals and outputs may use all variables
all-usable : (variables : List ℕ) (number : ℕ) (lits : List ℕ) → fault_of (all_placed variables (1 + length variables) number lits) ≡ unusable_literal variables number lits
all-usable variables number lits =
    literals-fault variables (length variables) number lits ∙ ap (λ vs. unusable_literal vs number lits) (take_all (length variables) variables (omega arith))

parts-fault : (d : Draft) (nexts lits : Result (List ℕ) Fault) (gates : Result (List Gate) Fault)
    → fault_of (parts_from d nexts lits gates) ≡ first_of_faults (fault_of nexts) (first_of_faults (fault_of lits) (fault_of gates))
parts-fault d (Err fault) lits gates = refl
parts-fault d (Ok nexts) (Err fault) gates = refl
parts-fault d (Ok nexts) (Ok lits) (Err fault) = refl
parts-fault d (Ok nexts) (Ok lits) (Ok gates) = refl

-- the first fault of what lines say is that of the first literal that may not be used
aig_by-fault : (d : Draft) → fault_of (aig_by d) ≡ first_unusable d
aig_by-fault d =
    let sources : ℕ = length d.inputs + length d.nexts in
    let nexts = all-usable d.variables (capped (2 + length d.inputs)) d.nexts in
    let lits = all-usable d.variables (capped (2 + sources)) d.lits in
    let gates = gates-fault d.variables sources (capped (2 + sources + length d.lits)) d.gates in
    ap fault_of (aig_by-parts d) ∙ parts-fault d (nexts_of d) (lits_of d) (gates_of d)
    ∙ ap₂ first_of_faults nexts (ap₂ first_of_faults lits gates)

-- what the lines of a text say, where it has a circuit
pub record IsRead (text : List ℕ) (a : AigParts) : Type 0 where
  pub said : Draft
  pub drafted : draft_of text ≡ Ok said
  pub made : aig_by said ≡ Ok a
  pub accepts : accepted_text text ≡ Ok said

pub read-of : (text : List ℕ) (a : AigParts) → aig_of text ≡ Ok a → IsRead text a
unfolding aig_of accepted_text
read-of text a is = by (draft_of text) refl is
  where
    by : (r : Result Draft Fault) → draft_of text ≡ r → after r aig_by ≡ Ok a → IsRead text a
    by (Err fault) reads is = absurd (cc)
    by (Ok d) reads is =
        let free : first_unusable d ≡ None = sym (aig_by-fault d) ∙ ap fault_of is in
        record {
          said = d;
          drafted = reads;
          made = is;
          accepts = ap (λ (r : Result Draft Fault). after r (λ (d : Draft). unless_fault (first_unusable d) d)) reads ∙ ap (λ o. unless_fault o d) free;
        }

pub refused-of : (text : List ℕ) (fault : Fault) → aig_of text ≡ Err fault → accepted_text text ≡ Err fault
unfolding aig_of accepted_text
refused-of text fault is = by (draft_of text) is
  where
    by : (r : Result Draft Fault) → after r aig_by ≡ Err fault → after r (λ (d : Draft). unless_fault (first_unusable d) d) ≡ Err fault
    by (Err other) is = let same : other ≡ fault = cc in ap (λ (f : Fault). Err f) same
    by (Ok d) is =
        let found : first_unusable d ≡ Some fault = sym (aig_by-fault d) ∙ ap fault_of is in
        ap (λ o. unless_fault o d) found
