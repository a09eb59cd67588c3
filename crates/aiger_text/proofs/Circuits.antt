-- What the lines of an AIGER text say makes a bit-level circuit once its literals have places.
use Rattle.std.proofs.Common.{◌≡◌, ℕ, zero, suc, ◌+◌, ◌*◌, ◌/◌, ◌%◌, ◌<◌, ◌≤◌, ◌^◌, Bool, true, false, cond, List, [], ◌∷◌, length, Option, None, Some, Result, Ok, Err, refl, sym, ap, subst, ◌∙◌, arith, ◌⊎◌, inl, inr}
use Rattle.std.specs.Prelude.{◌≢◌, nat_lt, sum}
use Rattle.std.specs.List.{All, AllByRecursion}
use Rattle.std.proofs.lemmas.Bool.{ltb-true}
use Rattle.std.proofs.lemmas.List.Elements.{All-from_recursion}
use Rattle.kw_base.specs.Place.{capped}
use Rattle.kw_base.specs.declared.fault.Fault.{Fault}
use Rattle.aig_blast.specs.Aigs.{AigParts, input_word_widths, IsAig, IsInputWord, IsLatchWord, IsOutputBit, sources, variables}
use Rattle.aig_blast.specs.Graphs.{AllStand, Below, Stands}
use Rattle.aig_blast.specs.declared.aig.InputWord.{InputWord}
use Rattle.aig_blast.specs.declared.gate.Gate.{Gate}
use Rattle.stim_report.specs.Stimuli.{after, next_line}
use Rattle.aiger_text.specs.Drafts.{Draft}
use Rattle.aiger_text.specs.Places.{place_of}
use Rattle.aiger_text.specs.Reading.{all_placed, gate_by, gates_of, gates_placed, known, literal_at, lits_of, nexts_of, parts_by, placed_literal, placed_gate}
use Rattle.aiger_text.specs.Runs.{words_of_bits}
use Rattle.aiger_text.specs.inner.Sound.{IsDraft}
use Rattle.aiger_text.proofs.Naming.{latch_words-width, latch_words-words, output_bits-bits, words_of_bits-width, words_of_bits-words}

-- a literal with a place
literal_at-below : (bound sign other : ℕ) (place : Option ℕ) → sign < 2 → literal_at bound place sign ≡ Some other → other < 2 * bound
literal_at-below bound sign other None bit is = absurd (cc)
literal_at-below bound sign other (Some place) bit is = by (nat_lt place bound) refl is
  where
    by : (t : Bool) → nat_lt place bound ≡ t → cond {A = Option ℕ} t (Some (2 * place + sign)) None ≡ Some other → other < 2 * bound
    by true below is =
        let same : 2 * place + sign ≡ other = cc in
        omega (arith, ltb-true place bound below, same, bit)
    by false above is = absurd (cc)

placed_literal-below : (vs : List ℕ) (bound lit other : ℕ) → placed_literal vs bound lit ≡ Some other → other < 2 * bound
placed_literal-below vs bound lit other is = literal_at-below bound (lit % 2) other (place_of vs (lit / 2)) (omega arith) is

-- all literals of lines
pub all_placed-lits : (vs : List ℕ) (count number : ℕ) (lits found : List ℕ) → all_placed vs (1 + count) number lits ≡ Ok found → AllByRecursion (Below count) found × (length found ≡ length lits)
all_placed-lits vs count number [] found is = let none : [] ≡ found = cc in (subst (AllByRecursion (Below count)) none tt, sym (ap length none))
all_placed-lits vs count number (lit ∷ lits) found is =
    by (all_placed-lits vs count (next_line number) lits) (placed_literal vs (1 + count) lit) (all_placed vs (1 + count) (next_line number) lits) refl refl is
  where
    by : ((others : List ℕ) → all_placed vs (1 + count) (next_line number) lits ≡ Ok others → AllByRecursion (Below count) others × (length others ≡ length lits))
        → (first : Option ℕ) (rest : Result (List ℕ) Fault) → placed_literal vs (1 + count) lit ≡ first → all_placed vs (1 + count) (next_line number) lits ≡ rest
        → after (known number first) (λ first. after rest (λ others. Ok (first ∷ others))) ≡ Ok found → AllByRecursion (Below count) found × (length found ≡ suc (length lits))
    by more None rest has goes is = absurd (cc)
    by more (Some first) (Err fault) has goes is = absurd (cc)
    by more (Some first) (Ok others) has goes is =
        let all = more others goes in
        let same : first ∷ others ≡ found = cc in
        let below : first < 2 * count + 2 = omega (arith, placed_literal-below vs (1 + count) lit first has) in
        (subst (AllByRecursion (Below count)) same (below, all.0), sym (ap length same) ∙ ap suc all.1)

pub all_placed-count : (vs : List ℕ) (count number : ℕ) (lits found : List ℕ) → all_placed vs (1 + count) number lits ≡ Ok found → length found ≡ length lits
all_placed-count vs count number lits found is = (all_placed-lits vs count number lits found is).1

-- all gates of lines
gate_by-stands : (count : ℕ) (left right : Option ℕ) (found : Gate) → ((other : ℕ) → left ≡ Some other → other < 2 * (1 + count)) → ((other : ℕ) → right ≡ Some other → other < 2 * (1 + count))
    → gate_by left right ≡ Some found → Stands count found
gate_by-stands count (Some left) (Some right) found l r is =
    let same : record { left = left; right = right } ≡ found = cc in
    subst (Stands count) same (record { left = omega (arith, l left refl); right = omega (arith, r right refl) })
gate_by-stands count (Some left) None found l r is = absurd (cc)
gate_by-stands count None right found l r is = absurd (cc)

placed_gate-stands : (vs : List ℕ) (count : ℕ) (gate found : Gate) → placed_gate vs (1 + count) gate ≡ Some found → Stands count found
placed_gate-stands vs count gate found is =
    gate_by-stands count (placed_literal vs (1 + count) gate.left) (placed_literal vs (1 + count) gate.right) found (placed_literal-below vs (1 + count) gate.left) (placed_literal-below vs (1 + count) gate.right) is

stand-cons : (count : ℕ) (gate : Gate) (gates : List Gate) → Stands count gate → AllStand (count + 1) gates → AllStand count (gate ∷ gates)
stand-cons count gate gates first rest zero other at = let same : gate ≡ other = cc in let here : count ≡ count + 0 = omega arith in subst (λ n. Stands n other) here (subst (Stands count) same first)
stand-cons count gate gates first rest (suc k) other at = let here : count + 1 + k ≡ count + suc k = omega arith in subst (λ n. Stands n other) here (rest k other at)

stand-none : (count : ℕ) → AllStand count []
stand-none count k gate at = absurd (cc)

pub gates_placed-stand : (vs : List ℕ) (count number : ℕ) (gates found : List Gate) → gates_placed vs (1 + count) number gates ≡ Ok found → AllStand count found × (length found ≡ length gates)
gates_placed-stand vs count number [] found is = let none : [] ≡ found = cc in (subst (AllStand count) none (stand-none count), sym (ap length none))
gates_placed-stand vs count number (gate ∷ gates) found is =
    by (gates_placed-stand vs (count + 1) (next_line number) gates) (placed_gate vs (1 + count) gate) (gates_placed vs (1 + count + 1) (next_line number) gates) refl refl is
  where
    by : ((others : List Gate) → gates_placed vs (1 + (count + 1)) (next_line number) gates ≡ Ok others → AllStand (count + 1) others × (length others ≡ length gates))
        → (first : Option Gate) (rest : Result (List Gate) Fault) → placed_gate vs (1 + count) gate ≡ first → gates_placed vs (1 + count + 1) (next_line number) gates ≡ rest
        → after (known number first) (λ first. after rest (λ others. Ok (first ∷ others))) ≡ Ok found → AllStand count found × (length found ≡ suc (length gates))
    by more None rest has goes is = absurd (cc)
    by more (Some first) (Err fault) has goes is = absurd (cc)
    by more (Some first) (Ok others) has goes is =
        let next : 1 + (count + 1) ≡ 1 + count + 1 = omega arith in
        let all = more others (ap (λ n. gates_placed vs n (next_line number) gates) next ∙ goes) in
        let same : first ∷ others ≡ found = cc in
        (subst (AllStand count) same (stand-cons count first others (placed_gate-stands vs count gate first has) all.0), sym (ap length same) ∙ ap suc all.1)

differ : (a b : ℕ) → (a < b) ⊎ (b < a) → a ≢ b
differ a b (inl below) same = absurd (omega (arith, below, same))
differ a b (inr above) same = absurd (omega (arith, above, same))

latch_names : (d : Draft) → IsDraft d → length d.latches ≤ 2 ^ 60 → AllByRecursion IsInputWord (words_of_bits 108 d.latches)
latch_names d draft few = words_of_bits-words 108 (differ 108 10 (inr (omega arith))) (differ 108 13 (inr (omega arith))) (differ 108 32 (inr (omega arith))) (differ 108 9 (inr (omega arith))) d.latches few draft.latches

-- the words of latches before they have next literals and resets
pub latch_names-widths : (d : Draft) (words : List InputWord) → IsDraft d → length d.variables ≤ 2 ^ 60 → words ≡ words_of_bits 108 d.latches → All (λ (word : InputWord). (1 ≤ word.width) × (word.width ≤ 128)) words
latch_names-widths d words draft few are =
    let all_latches : length d.latches ≤ 2 ^ 60 = omega (arith, draft.variables, few) in
    subst (λ (ws : List InputWord). All (λ (word : InputWord). (1 ≤ word.width) × (word.width ≤ 128)) ws) (sym are)
    (λ k d' within.
    let own = All-from_recursion IsInputWord (words_of_bits 108 d.latches) (latch_names d draft all_latches) k d' within in
    (own.some, own.most))

pub latch_names-count : (d : Draft) (words : List InputWord) → words ≡ words_of_bits 108 d.latches → length d.latches ≡ sum (input_word_widths words)
latch_names-count d words are = sym (words_of_bits-width 108 d.latches) ∙ ap (λ (ws : List InputWord). sum (input_word_widths ws)) (sym are)

-- the circuit
pub circuit_of : (d : Draft) (nexts lits : List ℕ) (gates : List Gate) → IsDraft d → length d.variables ≤ 2 ^ 60 → length d.outputs < 2 ^ 64 → nexts_of d ≡ Ok nexts → lits_of d ≡ Ok lits → gates_of d ≡ Ok gates
    → IsAig (parts_by d nexts lits gates)
circuit_of d nexts lits gates draft few outputs next_lits output_lits gate_lits =
    let a : AigParts = parts_by d nexts lits gates in
    let count : ℕ = length d.variables in
    let placed_nexts = all_placed-lits d.variables count (capped (2 + length d.inputs)) d.nexts nexts next_lits in
    let placed_lits = all_placed-lits d.variables count (capped (2 + (length d.inputs + length d.nexts))) d.lits lits output_lits in
    let placed_gates = gates_placed-stand d.variables (length d.inputs + length d.nexts) (capped (2 + (length d.inputs + length d.nexts) + length d.lits)) d.gates gates gate_lits in
    let all_inputs : length d.inputs ≤ 2 ^ 60 = omega (arith, draft.variables, few) in
    let all_latches : length d.latches ≤ 2 ^ 60 = omega (arith, draft.variables, few) in
    let input_words = words_of_bits-words 105 (differ 105 10 (inr (omega arith))) (differ 105 13 (inr (omega arith))) (differ 105 32 (inr (omega arith))) (differ 105 9 (inr (omega arith))) d.inputs all_inputs draft.inputs in
    let names = latch_names d draft all_latches in
    let latch_count : length d.latches ≡ sum (input_word_widths (words_of_bits 108 d.latches)) = sym (words_of_bits-width 108 d.latches) in
    let next_count : length nexts ≡ sum (input_word_widths (words_of_bits 108 d.latches)) = placed_nexts.1 ∙ draft.nexts ∙ latch_count in
    let reset_count : length d.resets ≡ sum (input_word_widths (words_of_bits 108 d.latches)) = draft.resets ∙ latch_count in
    let source_count : sources a ≡ length d.inputs + length d.nexts = omega (arith, words_of_bits-width 105 d.inputs, latch_words-width (words_of_bits 108 d.latches) nexts d.resets reset_count, words_of_bits-width 108 d.latches, draft.nexts) in
    let variable_count : variables a ≡ count = omega (arith, source_count, draft.variables, draft.nexts, placed_gates.1) in
    record {
      inputs = All-from_recursion IsInputWord a.inputs input_words;
      latches =
          subst (λ n. All (IsLatchWord n) a.latches) (sym variable_count)
          (All-from_recursion (IsLatchWord count) a.latches (latch_words-words count (words_of_bits 108 d.latches) nexts d.resets names next_count reset_count (All-from_recursion (Below count) nexts placed_nexts.0)));
      outputs = subst (λ n. All (IsOutputBit n) a.outputs) (sym variable_count) (All-from_recursion (IsOutputBit count) a.outputs (output_bits-bits count 0 d.outputs lits (omega (arith, outputs)) draft.outputs placed_lits.0));
      gates = subst (λ n. AllStand n gates) (sym source_count) placed_gates.0;
      few = omega (arith, variable_count, few);
    }
