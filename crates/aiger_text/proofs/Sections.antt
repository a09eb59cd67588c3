-- What the lines of a printed circuit lead to, section by section.
use Rattle.std.proofs.Common.{◌≡◌, ℕ, zero, suc, ◌+◌, ◌*◌, ◌/◌, ◌<◌, ◌≤◌, ◌^◌, Bool, List, [], ◌∷◌, ◌++◌, length, replicate, sym, ap, ap₂, subst, ◌∙◌, arith, append_assoc, append-nil, Option, None}
use Rattle.std.specs.List.{AllByRecursion}
use Rattle.std.proofs.lemmas.List.{length_push}
use Rattle.aig_blast.specs.declared.gate.Gate.{Gate}
use Rattle.aiger_text.specs.Drafts.{Draft, defined, is_end, more_gates, more_inputs, more_outputs}
use Rattle.aiger_text.specs.Printing.{reset_text}
use Rattle.aiger_text.specs.declared.header.Header.{Header}
use Rattle.aiger_text.proofs.PrintedLines.{numbers_line}
use Rattle.aiger_text.proofs.Ranges.{range, range-push}
use Rattle.aiger_text.proofs.Stepping.{at-gate, at-input, at-latch, at-output, gate_line, input_line, latch_line_read, Leads, leads-line, leads-none, output_line}

-- the lines of that many inputs after some variables, and of latches, outputs and gates
abbrev pub input_rows : ℕ → ℕ → List (List ℕ)
input_rows k zero = []
input_rows k (suc m) = numbers_line (2 * suc k) [] ∷ input_rows (suc k) m

abbrev pub latch_rows : ℕ → List ℕ → List Bool → List (List ℕ)
latch_rows k [] resets = []
latch_rows k (next ∷ nexts) [] = []
latch_rows k (next ∷ nexts) (reset ∷ resets) = numbers_line (2 * suc k) (next ∷ reset_text reset) ∷ latch_rows (suc k) nexts resets

abbrev pub output_rows : List ℕ → List (List ℕ)
output_rows [] = []
output_rows (lit ∷ lits) = numbers_line lit [] ∷ output_rows lits

abbrev pub gate_rows : ℕ → List Gate → List (List ℕ)
gate_rows k [] = []
gate_rows k (gate ∷ gates) = numbers_line (2 * suc k) (gate.left ∷ gate.right ∷ []) ∷ gate_rows (suc k) gates

abbrev pub nones : ℕ → List (Option (List ℕ))
nones m = replicate m None

push_variable : (vs : List ℕ) (k : ℕ) → vs ≡ range 0 k → vs ++ 2 * suc k / 2 ∷ [] ≡ range 0 (suc k)
push_variable vs k are =
    let half : 2 * suc k / 2 ≡ suc (0 + k) = omega arith in
    ap₂ (λ (front : List ℕ) (v : ℕ). front ++ v ∷ []) are half ∙ range-push 0 k

one_more : {X : Type 0} (xs ys : List X) (x : X) → xs ++ x ∷ ys ≡ (xs ++ x ∷ []) ++ ys
one_more xs ys x = sym (append_assoc xs (x ∷ []) ys)

-- the header leaves room for literals of printed circuits
pub record Roomy (h : Header) : Type 0 where
  pub most : h.most ≤ 2 ^ 60

pub inputs_lead : (h : Header) → Roomy h → (m k : ℕ) (d new : Draft) → d.variables ≡ range 0 k → length d.inputs + m ≤ h.inputs → k + m ≤ h.most
    → new ≡ record d { variables = range 0 (k + m); inputs = d.inputs ++ nones m } → Leads h d (input_rows k m) new
inputs_lead h room zero k d new are count fits is =
    let same : k ≡ k + 0 = omega arith in
    subst (Leads h d []) (ap₂ (λ (vs : List ℕ) (is : List (Option (List ℕ))). record d { variables = vs; inputs = is }) (are ∙ ap (range 0) same) (sym (append-nil d.inputs)) ∙ sym is) (leads-none h d)
inputs_lead h room (suc m) k d new are count fits is =
    let more : Draft = more_inputs (defined d (2 * suc k)) in
    let some : length d.inputs < h.inputs = omega (arith, count) in
    let next : k + suc m ≡ suc k + m = omega arith in
    leads-line h d more new (numbers_line (2 * suc k) []) (input_rows (suc k) m) (input_line h d k are some (omega (arith, fits)) (omega (arith, fits, room.most)))
    (ap (λ s. is_end s (numbers_line (2 * suc k) [])) (at-input h d some))
    (inputs_lead h room m (suc k) more new (push_variable d.variables k are) (omega (arith, count, length_push d.inputs None)) (omega (arith, fits))
    (is ∙ ap₂ (λ (n : ℕ) (is : List (Option (List ℕ))). record d { variables = range 0 n; inputs = is }) next (one_more d.inputs (nones m) None)))

pub latches_lead : (h : Header) → Roomy h → (nexts : List ℕ) (resets : List Bool) (k : ℕ) (d new : Draft) → length resets ≡ length nexts → d.variables ≡ range 0 k → h.inputs ≤ length d.inputs → length d.latches + length nexts ≤ h.latches
    → k + length nexts ≤ h.most → AllByRecursion (λ (lit : ℕ). lit / 2 ≤ h.most) nexts
    → new ≡ record d { variables = range 0 (k + length nexts); latches = d.latches ++ nones (length nexts); nexts = d.nexts ++ nexts; resets = d.resets ++ resets } → Leads h d (latch_rows k nexts resets) new
latches_lead h room [] [] k d new all are inputs count fits lits is =
    let same : k ≡ k + 0 = omega arith in
    subst (Leads h d [])
    (ap₂ (λ (vs : List ℕ) (ls : List (Option (List ℕ))). record d { variables = vs; latches = ls }) (are ∙ ap (range 0) same) (sym (append-nil d.latches))
    ∙ ap₂ (λ (ns : List ℕ) (rs : List Bool). record d { variables = range 0 (k + 0); latches = d.latches ++ []; nexts = ns; resets = rs }) (sym (append-nil d.nexts)) (sym (append-nil d.resets)) ∙ sym is) (leads-none h d)
latches_lead h room [] (r ∷ resets) k d new all are inputs count fits lits is = absurd (omega (arith, all))
latches_lead h room (next ∷ nexts) [] k d new all are inputs count fits lits is = absurd (omega (arith, all))
latches_lead h room (next ∷ nexts) (reset ∷ resets) k d new all are inputs count fits lits is =
    let more : Draft = record d { variables = d.variables ++ 2 * suc k / 2 ∷ []; latches = d.latches ++ None ∷ []; nexts = d.nexts ++ next ∷ []; resets = d.resets ++ reset ∷ [] } in
    let some : length d.latches < h.latches = omega (arith, count) in
    let place : k + suc (length nexts) ≡ suc k + length nexts = omega arith in
    leads-line h d more new (numbers_line (2 * suc k) (next ∷ reset_text reset)) (latch_rows (suc k) nexts resets)
    (latch_line_read h d k next reset are inputs some (omega (arith, fits)) lits.0 (omega (arith, fits, room.most)) (omega (arith, lits.0, room.most)))
    (ap (λ s. is_end s (numbers_line (2 * suc k) (next ∷ reset_text reset))) (at-latch h d inputs some))
    (latches_lead h room nexts resets (suc k) more new (omega (arith, all)) (push_variable d.variables k are) inputs (omega (arith, count, length_push d.latches None)) (omega (arith, fits)) lits.1
    (is
    ∙ ap₂ (λ (n : ℕ) (ls : List (Option (List ℕ))). record d { variables = range 0 n; latches = ls; nexts = d.nexts ++ next ∷ nexts; resets = d.resets ++ reset ∷ resets }) place (one_more d.latches (nones (length nexts)) None)
    ∙ ap₂ (λ (ns : List ℕ) (rs : List Bool). record d { variables = range 0 (suc k + length nexts); latches = (d.latches ++ None ∷ []) ++ nones (length nexts); nexts = ns; resets = rs }) (one_more d.nexts nexts next)
    (one_more d.resets resets reset)))

pub outputs_lead : (h : Header) → Roomy h → (lits : List ℕ) (d new : Draft) → h.inputs ≤ length d.inputs → h.latches ≤ length d.latches → length d.outputs + length lits ≤ h.outputs → AllByRecursion (λ (lit : ℕ). lit / 2 ≤ h.most) lits
    → new ≡ record d { outputs = d.outputs ++ nones (length lits); lits = d.lits ++ lits } → Leads h d (output_rows lits) new
outputs_lead h room [] d new inputs latches count below is =
    subst (Leads h d []) (ap₂ (λ (os : List (Option (List ℕ))) (ls : List ℕ). record d { outputs = os; lits = ls }) (sym (append-nil d.outputs)) (sym (append-nil d.lits)) ∙ sym is) (leads-none h d)
outputs_lead h room (lit ∷ lits) d new inputs latches count below is =
    let more : Draft = more_outputs lit d in
    let some : length d.outputs < h.outputs = omega (arith, count) in
    leads-line h d more new (numbers_line lit []) (output_rows lits) (output_line h d lit inputs latches some below.0 (omega (arith, below.0, room.most)))
    (ap (λ s. is_end s (numbers_line lit [])) (at-output h d inputs latches some))
    (outputs_lead h room lits more new inputs latches (omega (arith, count, length_push d.outputs None)) below.1
    (is ∙ ap₂ (λ (os : List (Option (List ℕ))) (ls : List ℕ). record d { outputs = os; lits = ls }) (one_more d.outputs (nones (length lits)) None) (one_more d.lits lits lit)))

pub gates_lead : (h : Header) → Roomy h → (gates : List Gate) (k : ℕ) (d new : Draft) → d.variables ≡ range 0 k → h.inputs ≤ length d.inputs → h.latches ≤ length d.latches → h.outputs ≤ length d.outputs → length d.gates + length gates ≤ h.gates
    → k + length gates ≤ h.most → AllByRecursion (λ (gate : Gate). (gate.left / 2 ≤ h.most) × (gate.right / 2 ≤ h.most)) gates → new ≡ record d { variables = range 0 (k + length gates); gates = d.gates ++ gates } → Leads h d (gate_rows k gates) new
gates_lead h room [] k d new are inputs latches outputs count fits below is =
    let same : k ≡ k + 0 = omega arith in
    subst (Leads h d []) (ap₂ (λ (vs : List ℕ) (gs : List Gate). record d { variables = vs; gates = gs }) (are ∙ ap (range 0) same) (sym (append-nil d.gates)) ∙ sym is) (leads-none h d)
gates_lead h room (gate ∷ gates) k d new are inputs latches outputs count fits below is =
    let more : Draft = more_gates gate.left gate.right (defined d (2 * suc k)) in
    let some : length d.gates < h.gates = omega (arith, count) in
    let place : k + suc (length gates) ≡ suc k + length gates = omega arith in
    leads-line h d more new (numbers_line (2 * suc k) (gate.left ∷ gate.right ∷ [])) (gate_rows (suc k) gates)
    (gate_line h d k gate.left gate.right are inputs latches outputs some (omega (arith, fits)) below.0.0 below.0.1 (omega (arith, fits, room.most)) (omega (arith, below.0.0, room.most)) (omega (arith, below.0.1, room.most)))
    (ap (λ s. is_end s (numbers_line (2 * suc k) (gate.left ∷ gate.right ∷ []))) (at-gate h d inputs latches outputs some))
    (gates_lead h room gates (suc k) more new (push_variable d.variables k are) inputs latches outputs (omega (arith, count, length_push d.gates gate)) (omega (arith, fits)) below.1
    (is ∙ ap₂ (λ (n : ℕ) (gs : List Gate). record d { variables = range 0 n; gates = gs }) place (one_more d.gates gates gate)))
