-- What the clauses of an obligation say: the invariant before the step, and that the step breaks it or a claimed output
-- is 1.
use Rattle.std.proofs.Common.{◌≡◌, ℕ, zero, suc, ◌+◌, ◌-◌, ◌/◌, ◌<◌, ◌≤◌, Bool, true, false, not, cond, ◌&&◌, ◌||◌, List, [], ◌∷◌, ◌++◌, map, length, take, get_or, refl, sym, ap, ap₂, ◌∙◌, arith, inl, inr, sum}
use Rattle.std.specs.List.{All, list_all}
use Rattle.std.proofs.lemmas.Bool.{and_from, and_parts, not_from_false, or_cases, or_left, or_right}
use Rattle.std.proofs.lemmas.List.{get_or-append-add, get_or-map, get_or-take, get_or_append_left, length-append, length-map, length-take-le}
use Rattle.std.proofs.lemmas.List.Elements.{All-append, All-head, All-map, All-nil, All-tail, All-weaker}
use Rattle.std.proofs.lemmas.List.Folds.{list_all-append, list_all-map, list_any-append}
use Rattle.std.proofs.lemmas.List.Sums.{sum_by-cons}
use Rattle.kw_bits.specs.BitVector.{BitVector}
use Rattle.circuit_eval.specs.Circuits.{AreBits}
use Rattle.clause_check.specs.Clauses.{Assignment, Clause, IsLiteral, Satisfies, clause_value, literal_value}
use Rattle.clause_check.specs.declared.literal.Literal.{Literal}
use Rattle.aig_blast.specs.AigRun.{bits_of, next_words, outputs_in, values_in}
use Rattle.aig_blast.specs.Aigs.{AigParts, IsAig, IsLatchWord, IsOutputBit, input_word_widths, latch_widths, sources, variables}
use Rattle.aig_blast.specs.Graphs.{Below, lit_value}
use Rattle.aig_blast.specs.declared.aig.LatchWord.{LatchWord}
use Rattle.aig_blast.specs.declared.aig.OutputBit.{OutputBit}
use Rattle.aig_blast.proofs.Growing.{get_or-values_after, length-values_after}
use Rattle.aig_blast.proofs.SourceWords.{length-bits_of}
use Rattle.invariant_check.specs.Bits.{bit_values}
use Rattle.invariant_check.specs.Cones.{is_needed}
use Rattle.invariant_check.specs.Kept.{Gives, SaysWhatBreaks, breaks, fires, is_true_of}
use Rattle.invariant_check.specs.inner.Kept.{IsClaim}
use Rattle.invariant_check.specs.Obligations.{all_broken_clauses, before_step, broken_lits, claimed_lits, graph_clauses, graph_obligation, literals_in, needed_in, needed_lits, next_lit, next_lits, obligation_of, plain, top_of}
use Rattle.invariant_check.proofs.BitsOfWords.{bits_of-next}
use Rattle.invariant_check.proofs.Broken.{Flags, clause_after, flags_hold, flags_in, flags_say, literal_after, some_broken}
use Rattle.invariant_check.proofs.Cones.{cone-closed, cone-literals, cone-sources, greatest-above, greatest-within, stands-each}
use Rattle.invariant_check.proofs.Folding.{all_folded, all_hold, grounded, grounded-same, lit_true, plain-true, same_lit, signed-true, some_true}
use Rattle.invariant_check.proofs.Lists.{all_flat, all_left, all_map, all_right, all_same, and-true, any_same, flat_all, list_any-map}
use Rattle.invariant_check.proofs.Tseitin.{Agrees, follows_graph, graph_holds}

map_map : {X Y Z : Type 0} (f : Y → Z) (h : X → Y) (xs : List X) → map f (map h xs) ≡ map (λ x. f (h x)) xs
map_map f h [] = refl
map_map f h (x ∷ xs) = ap (λ ys. f (h x) ∷ ys) (map_map f h xs)

map_same : {X Y : Type 0} (f h : X → Y) (xs : List X) → All (λ x. f x ≡ h x) xs → map f xs ≡ map h xs
map_same f h [] same = refl
map_same {X} {Y} f h (x ∷ xs) same =
    ap₂ (λ (y : Y) (ys : List Y). y ∷ ys) (All-head (λ (y : X). f y
    ≡ h y) x xs same) (map_same f h xs (All-tail (λ (y : X). f y ≡ h y) x xs same))

-- ---- the literals of the next bits

pub length-next_lits : (count : ℕ) (latches : List LatchWord) → All (IsLatchWord count) latches
    → length (next_lits latches) ≡ sum (latch_widths latches)
length-next_lits count [] are = refl
length-next_lits count (word ∷ latches) are =
    let own : IsLatchWord count word = All-head (IsLatchWord count) word latches are in
    omega (
      arith,
      length-append word.nexts (next_lits latches),
      own.count,
      length-next_lits count latches (All-tail (IsLatchWord count) word latches are),
      sum_by-cons (λ (w : ℕ). w) word.first.width (latch_widths latches),
    )

nexts_below : (count : ℕ) (latches : List LatchWord) → All (IsLatchWord count) latches
    → All (Below count) (next_lits latches)
nexts_below count [] are = All-nil (Below count)
nexts_below count (word ∷ latches) are =
    All-append (Below count) word.nexts (next_lits latches) (All-head (IsLatchWord count) word latches are).nexts
    (nexts_below count latches (All-tail (IsLatchWord count) word latches are))

-- ---- what is needed

module _ (a : AigParts) (invariant : List Clause) (claimed : List ℕ) (valid : IsAig a)
    (claim : IsClaim a invariant claimed) where
  pub nexts_long : length (next_lits a.latches) ≡ sum (latch_widths a.latches)
  nexts_long = length-next_lits (variables a) a.latches valid.latches

  pub lits_below : All (Below (variables a)) (needed_lits a invariant claimed)
  lits_below = All-append (Below (variables a)) (claimed_lits a.outputs claimed)
      (map (next_lit (next_lits a.latches)) (literals_in invariant)) claims nexts
    where
      bits : List ℕ
      bits = map (λ (bit : OutputBit). bit.lit) a.outputs

      outputs : All (Below (variables a)) (map (λ (bit : OutputBit). bit.lit) a.outputs)
      outputs =
          All-map (Below (variables a)) (λ (bit : OutputBit). bit.lit) a.outputs
          (All-weaker (IsOutputBit (variables a)) (λ (bit : OutputBit). Below (variables a) bit.lit) (λ bit is. is.lit)
          a.outputs valid.outputs)

      claims : All (Below (variables a)) (claimed_lits a.outputs claimed)
      claims =
          All-map (Below (variables a)) (λ (output : ℕ). get_or (map (λ (bit : OutputBit). bit.lit) a.outputs) output 0)
          claimed
          (λ k d within. outputs (get_or claimed k d) 0
          (omega (arith, claim.outputs k d within, length-map a.outputs (λ (bit : OutputBit). bit.lit))))

      nexts : All (Below (variables a)) (map (next_lit (next_lits a.latches)) (literals_in invariant))
      nexts =
          All-map (Below (variables a)) (next_lit (next_lits a.latches)) (literals_in invariant)
          (All-weaker (IsLiteral (sum (latch_widths a.latches)))
          (λ (literal : Literal). Below (variables a) (next_lit (next_lits a.latches) literal))
          (λ literal is. nexts_below (variables a) a.latches valid.latches (literal.variable - 1) 0
          (omega (arith, is.some, is.within, nexts_long)))
          (literals_in invariant) (flat_all (IsLiteral (sum (latch_widths a.latches))) invariant claim.literals))

  pub needs : All (λ lit. is_needed (needed_in a invariant claimed) (lit / 2) ≡ true) (needed_lits a invariant claimed)
  needs = cone-literals (sources a) a.gates (needed_lits a invariant claimed) lits_below

  pub needs_claims : All
      (λ output. is_needed (needed_in a invariant claimed)
      (get_or (map (λ (bit : OutputBit). bit.lit) a.outputs) output 0 / 2) ≡ true) claimed
  needs_claims =
      all_map (λ (lit : ℕ). is_needed (needed_in a invariant claimed) (lit / 2)
      ≡ true) (λ (output : ℕ). get_or (map (λ (bit : OutputBit). bit.lit) a.outputs) output 0) claimed
      (all_left (λ (lit : ℕ). is_needed (needed_in a invariant claimed) (lit / 2)
      ≡ true) (claimed_lits a.outputs claimed) (map (next_lit (next_lits a.latches)) (literals_in invariant)) needs)

  pub needs_nexts : All
      (All (λ literal. is_needed (needed_in a invariant claimed) (next_lit (next_lits a.latches) literal / 2)
      ≡ true)) invariant
  needs_nexts =
      all_flat (λ (literal : Literal). is_needed (needed_in a invariant claimed)
      (next_lit (next_lits a.latches) literal / 2) ≡ true) invariant
      (all_map (λ (lit : ℕ). is_needed (needed_in a invariant claimed) (lit / 2)
      ≡ true) (next_lit (next_lits a.latches)) (literals_in invariant)
      (all_right (λ (lit : ℕ). is_needed (needed_in a invariant claimed) (lit / 2)
      ≡ true) (claimed_lits a.outputs claimed) (map (next_lit (next_lits a.latches)) (literals_in invariant))
      needs))

  pub top_within : top_of a invariant claimed ≤ variables a
  top_within = greatest-within (needed_in a invariant claimed) (variables a)

  pub below_top : (v : ℕ) → v ≤ variables a → is_needed (needed_in a invariant claimed) v ≡ true
      → v ≤ top_of a invariant claimed
  below_top v within is = greatest-above (needed_in a invariant claimed) (variables a) v within is

  pub sources_below : sources a ≤ top_of a invariant claimed
  sources_below = below_top (sources a) (omega arith)
      (cone-sources (sources a) a.gates (needed_lits a invariant claimed) (sources a) (omega arith))

-- ---- the parts of an obligation

abbrev pub before_part : AigParts → List Clause → List (List ℕ)
before_part a invariant = map (λ (clause : Clause). map (before_step (sum (input_word_widths a.inputs))) clause) invariant

abbrev pub graph_part : AigParts → List Clause → List ℕ → List (List ℕ)
graph_part a invariant claimed = graph_clauses (needed_in a invariant claimed) (1 + sources a) a.gates

abbrev pub broken_part : AigParts → List Clause → List ℕ → List (List ℕ)
broken_part a invariant claimed = all_broken_clauses (next_lits a.latches) (1 + top_of a invariant claimed) invariant

abbrev pub broken_row : AigParts → List Clause → List ℕ → List ℕ
broken_row a invariant claimed = broken_lits (1 + top_of a invariant claimed) (length invariant)

four : (a : AigParts) (invariant : List Clause) (claimed : List ℕ) (g : ℕ → Bool)
    → all_hold g (graph_obligation a invariant claimed)
    ≡ (((all_hold g (before_part a invariant) && all_hold g (graph_part a invariant claimed)) && all_hold g
    (broken_part a invariant claimed))
    && (some_true g (claimed_lits a.outputs claimed) || some_true g (broken_row a invariant claimed)))
four a invariant claimed g =
    let first : List (List ℕ) = before_part a invariant in
    let second : List (List ℕ) = graph_part a invariant claimed in
    let third : List (List ℕ) = broken_part a invariant claimed in
    let claims : List ℕ = claimed_lits a.outputs claimed in
    let broken : List ℕ = broken_row a invariant claimed in
    list_all-append (some_true g) (first ++ second ++ third) ((claims ++ broken) ∷ [])
    ∙ ap₂ (λ x y. x && y)
    (list_all-append (some_true g) (first ++ second) third
    ∙ ap (λ x. x && all_hold g third) (list_all-append (some_true g) first second))
    (and-true (some_true g (claims ++ broken)) ∙ list_any-append (lit_true g) claims broken)

each_of : (w x y z : Bool) → (((w && x) && y) && z) ≡ true → (w ≡ true) × (x ≡ true) × (y ≡ true) × (z ≡ true)
each_of w x y z all =
    let one = and_parts ((w && x) && y) z all in
    let two = and_parts (w && x) y one.0 in
    let three = and_parts w x two.0 in
    (three.0, three.1, two.1, one.1)

all_of : (w x y z : Bool) → w ≡ true → x ≡ true → y ≡ true → z ≡ true → (((w && x) && y) && z) ≡ true
all_of w x y z p q r s = and_from ((w && x) && y) z (and_from (w && x) y (and_from w x p q) r) s

-- ---- a step

module _ (a : AigParts) (invariant : List Clause) (claimed : List ℕ) (valid : IsAig a)
    (claim : IsClaim a invariant claimed)
    (inputs registers : List BitVector) (given : AreBits inputs (input_word_widths a.inputs))
    (held : AreBits registers (latch_widths a.latches)) where
  abbrev bits : List Bool
  bits = bits_of inputs ++ bits_of registers

  abbrev values : List Bool
  values = values_in a inputs registers

  abbrev regs_after : List BitVector
  regs_after = next_words a.latches (values_in a inputs registers)

  count_inputs : length (bits_of inputs) ≡ sum (input_word_widths a.inputs)
  count_inputs = length-bits_of inputs ∙ ap sum given.widths

  count_registers : length (bits_of registers) ≡ sum (latch_widths a.latches)
  count_registers = length-bits_of registers ∙ ap sum held.widths

  count_bits : length (bits_of inputs ++ bits_of registers) ≡ sources a
  count_bits = omega (arith, length-append (bits_of inputs) (bits_of registers), count_inputs, count_registers)

  count_values : length (values_in a inputs registers) ≡ 1 + variables a
  count_values = omega (arith, length-values_after (false ∷ (bits_of inputs ++ bits_of registers)) a.gates, count_bits)

  -- the values of sources
  source-value : (v : ℕ) → v ≤ sources a → get_or (values_in a inputs registers) v false
      ≡ get_or (false ∷ (bits_of inputs ++ bits_of registers)) v false
  source-value v within = get_or-values_after (false ∷ (bits_of inputs ++ bits_of registers)) a.gates v
      (omega (arith, within, count_bits))

  -- under an assignment with the values of the graph, the clauses of the invariant say what they say of the registers
  module _ (g : ℕ → Bool) (agrees : Agrees g (needed_in a invariant claimed) (values_in a inputs registers)) where
    literal-before : (literal : Literal) → IsLiteral (sum (latch_widths a.latches)) literal
        → lit_true g (before_step (sum (input_word_widths a.inputs)) literal) ≡ literal_value (bit_values registers) literal
    literal-before literal is =
        let v : ℕ = literal.variable in
        let place : ℕ = sum (input_word_widths a.inputs) + v in
        let within : place ≤ sources a = omega (arith, is.within) in
        let next : place ≡ suc (length (bits_of inputs) + (v - 1)) = omega (arith, is.some, count_inputs) in
        let own : v ≡ suc (v - 1) = omega (arith, is.some) in
        let same : lit_true g (plain place) ≡ bit_values registers v =
        plain-true g place
        ∙ agrees place (omega (arith, within, count_values))
        (cone-sources (sources a) a.gates (needed_lits a invariant claimed) place within)
        ∙ source-value place within
        ∙ ap (λ n. get_or (false ∷ (bits_of inputs ++ bits_of registers)) n false) next
        ∙ get_or-append-add (bits_of inputs) (bits_of registers) (v - 1) false
        ∙ sym (ap (λ n. get_or (false ∷ bits_of registers) n false) own) in
        signed-true g literal.is_negated (plain place) ∙ ap (λ x. cond literal.is_negated (not x) x) same

    invariant-before : all_hold g
        (map (λ (clause : Clause). map (before_step (sum (input_word_widths a.inputs))) clause) invariant)
        ≡ is_true_of invariant registers
    invariant-before =
        list_all-map (some_true g) (λ (clause : Clause). map (before_step (sum (input_word_widths a.inputs))) clause)
        invariant
        ∙ all_same (λ (clause : Clause). some_true g (map (before_step (sum (input_word_widths a.inputs))) clause))
        (clause_value (bit_values registers)) invariant
        (All-weaker (All (IsLiteral (sum (latch_widths a.latches))))
        (λ (clause : Clause). some_true g (map (before_step (sum (input_word_widths a.inputs))) clause)
        ≡ clause_value (bit_values registers) clause)
        (λ clause are.
        list_any-map (lit_true g) (before_step (sum (input_word_widths a.inputs))) clause
        ∙ any_same (λ (literal : Literal). lit_true g (before_step (sum (input_word_widths a.inputs)) literal))
        (literal_value (bit_values registers)) clause
        (All-weaker (IsLiteral (sum (latch_widths a.latches)))
        (λ (literal : Literal). lit_true g (before_step (sum (input_word_widths a.inputs)) literal)
        ≡ literal_value (bit_values registers) literal) literal-before clause are))
        invariant claim.literals)

    -- a literal of a variable that is needed
    needed-value : (lit : ℕ) → Below (variables a) lit → is_needed (needed_in a invariant claimed) (lit / 2) ≡ true
        → lit_true g lit ≡ lit_value (values_in a inputs registers) lit
    needed-value lit below is = same_lit g (values_in a inputs registers) lit
        (agrees (lit / 2) (omega (arith, below, count_values)) is)

    literal-after : (literal : Literal) → IsLiteral (sum (latch_widths a.latches)) literal
        → is_needed (needed_in a invariant claimed) (next_lit (next_lits a.latches) literal / 2) ≡ true
        → literal_after g (next_lits a.latches) literal ≡ literal_value (bit_values regs_after) literal
    literal-after literal is needs_it =
        let v : ℕ = literal.variable in
        let lits : List ℕ = next_lits a.latches in
        let own : v ≡ suc (v - 1) = omega (arith, is.some) in
        let within : v - 1 < length lits = omega (arith, is.some, is.within, nexts_long a invariant claimed valid claim)
        in
        let same : lit_true g (next_lit lits literal) ≡ bit_values regs_after v =
        needed-value (next_lit lits literal) (nexts_below (variables a) a.latches valid.latches (v - 1) 0 within)
        needs_it
        ∙ sym (get_or-map (lit_value (values_in a inputs registers)) lits (v - 1) 0 false within)
        ∙ sym (ap (λ (bs : List Bool). get_or bs (v - 1) false) (bits_of-next a.latches (values_in a inputs registers)))
        ∙ sym (ap (λ n. get_or (false ∷ bits_of regs_after) n false) own) in
        signed-true g literal.is_negated (next_lit lits literal) ∙ ap (λ x. cond literal.is_negated (not x) x) same

    clause-after : All (λ clause. clause_after g (next_lits a.latches) clause
        ≡ clause_value (bit_values regs_after) clause) invariant
    clause-after = λ k d within.
        any_same (literal_after g (next_lits a.latches)) (literal_value (bit_values regs_after)) (get_or invariant k d)
        (λ i e here. literal-after (get_or (get_or invariant k d) i e) (claim.literals k d within i e here)
        (needs_nexts a invariant claimed valid claim k d within i e here))

    invariant-after : list_all (clause_after g (next_lits a.latches)) invariant ≡ is_true_of invariant regs_after
    invariant-after = all_same (clause_after g (next_lits a.latches)) (clause_value (bit_values regs_after)) invariant
        clause-after

    claims-after : some_true g (claimed_lits a.outputs claimed)
        ≡ fires claimed (outputs_in a.outputs (values_in a inputs registers))
    claims-after =
        list_any-map (lit_true g) (λ (output : ℕ). get_or (map (λ (bit : OutputBit). bit.lit) a.outputs) output 0)
        claimed
        ∙ any_same (λ (output : ℕ). lit_true g (get_or (map (λ (bit : OutputBit). bit.lit) a.outputs) output 0))
        (λ (output : ℕ). get_or (outputs_in a.outputs (values_in a inputs registers)) output false) claimed
        (λ k d within. output-after (get_or claimed k d) (claim.outputs k d within)
        (needs_claims a invariant claimed valid claim k d within))
      where
        output-after : (output : ℕ) → output < length a.outputs
            → is_needed (needed_in a invariant claimed) (get_or (map (λ (bit : OutputBit). bit.lit) a.outputs) output 0 / 2)
            ≡ true
            → lit_true g (get_or (map (λ (bit : OutputBit). bit.lit) a.outputs) output 0)
            ≡ get_or (outputs_in a.outputs (values_in a inputs registers)) output false
        output-after output there needs_it =
            let lits : List ℕ = map (λ (bit : OutputBit). bit.lit) a.outputs in
            let within : output < length lits = omega
            (arith, there, length-map a.outputs (λ (bit : OutputBit). bit.lit)) in
            let below : Below (variables a) (get_or lits output 0) =
            All-map (Below (variables a)) (λ (bit : OutputBit). bit.lit) a.outputs
            (All-weaker (IsOutputBit (variables a)) (λ (bit : OutputBit). Below (variables a) bit.lit)
            (λ bit is. is.lit) a.outputs valid.outputs) output 0 within in
            needed-value (get_or lits output 0) below needs_it
            ∙ sym (get_or-map (lit_value (values_in a inputs registers)) lits output 0 false within)
            ∙ ap (λ (fired : List Bool). get_or fired output false)
            (map_map (lit_value (values_in a inputs registers)) (λ (bit : OutputBit). bit.lit) a.outputs)

  -- an assignment that gives these values and satisfies the clauses
  pub sound : (assignment : Assignment) → Gives assignment inputs registers
      → Satisfies assignment (obligation_of a invariant claimed).clauses
      → (is_true_of invariant registers ≡ true) × (breaks a invariant claimed inputs registers ≡ true)
  unfolding obligation_of
  sound assignment gives satisfies = (sym (invariant-before (grounded assignment) agrees) ∙ parts.0, broken)
    where
      parts : (all_hold (grounded assignment) (before_part a invariant) ≡ true)
          × (all_hold (grounded assignment) (graph_part a invariant claimed) ≡ true)
          × (all_hold (grounded assignment) (broken_part a invariant claimed) ≡ true)
          × ((some_true (grounded assignment) (claimed_lits a.outputs claimed) || some_true (grounded assignment)
          (broken_row a invariant claimed)) ≡ true)
      parts =
          each_of (all_hold (grounded assignment) (before_part a invariant))
          (all_hold (grounded assignment) (graph_part a invariant claimed))
          (all_hold (grounded assignment) (broken_part a invariant claimed))
          (some_true (grounded assignment) (claimed_lits a.outputs claimed) || some_true (grounded assignment)
          (broken_row a invariant claimed))
          (sym (four a invariant claimed (grounded assignment))
          ∙ sym (all_folded assignment (graph_obligation a invariant claimed)) ∙ satisfies)

      begins : Agrees (grounded assignment) (needed_in a invariant claimed) (false ∷ (bits_of inputs
          ++ bits_of registers))
      begins zero within is = refl
      begins (suc k) within is = gives k (omega (arith, within))

      agrees : Agrees (grounded assignment) (needed_in a invariant claimed) (values_in a inputs registers)
      agrees =
          follows_graph (grounded assignment) (needed_in a invariant claimed) (false ∷ (bits_of inputs
          ++ bits_of registers)) (1 + sources a) a.gates (omega (arith, count_bits))
          (stands-each (sources a) a.gates valid.gates)
          (cone-closed (sources a) a.gates (needed_lits a invariant claimed) valid.gates) begins parts.1

      broken : breaks a invariant claimed inputs registers ≡ true
      broken =
          elim (or_cases (some_true (grounded assignment) (claimed_lits a.outputs claimed))
          (some_true (grounded assignment) (broken_row a invariant claimed)) parts.3) [
            | inl fired ↦
                or_left (fires claimed (outputs_in a.outputs (values_in a inputs registers)))
                (not (is_true_of invariant regs_after))
                (sym (claims-after (grounded assignment) agrees) ∙ fired)
            | inr found ↦
                or_right (fires claimed (outputs_in a.outputs (values_in a inputs registers)))
                (not (is_true_of invariant regs_after))
                (not_from_false (is_true_of invariant regs_after)
                (sym (invariant-after (grounded assignment) agrees)
                ∙ some_broken (grounded assignment) (next_lits a.latches) (1 + top_of a invariant claimed) invariant
                parts.2 found))
          ]

  -- the assignment of the values of the graph, and of which clauses are broken
  abbrev flags : List Bool
  flags = map (λ (clause : Clause). not (clause_value (bit_values regs_after) clause)) invariant

  abbrev front : List Bool
  front = take (1 + top_of a invariant claimed) (values_in a inputs registers)

  abbrev made : Assignment
  made v = get_or (front ++ flags) v false

  length-front : length front ≡ 1 + top_of a invariant claimed
  length-front =
      length-take-le (1 + top_of a invariant claimed) (values_in a inputs registers)
      (omega (arith, count_values, top_within a invariant claimed valid claim))

  made-value : (v : ℕ) → v ≤ top_of a invariant claimed → made v ≡ get_or (values_in a inputs registers) v false
  made-value v within =
      get_or_append_left front flags false v (omega (arith, within, length-front))
      ∙ get_or-take (1 + top_of a invariant claimed) (values_in a inputs registers) v false (omega (arith, within))

  made-flag : (k : ℕ) → made (1 + top_of a invariant claimed + k) ≡ get_or flags k false
  made-flag k = ap (λ n. get_or (front ++ flags) (n + k) false) (sym length-front)
      ∙ get_or-append-add front flags k false

  made-zero : made 0 ≡ false
  made-zero = made-value 0 (omega arith) ∙ source-value 0 (omega arith)

  made-gives : Gives made inputs registers
  made-gives k within =
      let there : suc k ≤ sources a = omega (arith, within, count_bits) in
      made-value (suc k) (omega (arith, there, sources_below a invariant claimed valid claim))
      ∙ source-value (suc k) there

  made-agrees : Agrees (grounded made) (needed_in a invariant claimed) (values_in a inputs registers)
  made-agrees v within is =
      grounded-same made v made-zero
      ∙ made-value v (below_top a invariant claimed valid claim v (omega (arith, within, count_values)) is)

  made-flags : Flags (grounded made) (next_lits a.latches) (1 + top_of a invariant claimed) invariant
  made-flags =
      flags_in (grounded made) (next_lits a.latches) (1 + top_of a invariant claimed) invariant flags
      (sym (map_same (λ (clause : Clause). not (clause_after (grounded made) (next_lits a.latches) clause))
      (λ (clause : Clause). not (clause_value (bit_values regs_after) clause)) invariant
      (λ k d within. ap not (clause-after (grounded made) made-agrees k d within))))
      (λ k within. grounded-same made (1 + top_of a invariant claimed + k) made-zero ∙ made-flag k)

  pub complete : is_true_of invariant registers ≡ true → breaks a invariant claimed inputs registers ≡ true
      → (assignment : Assignment) × Gives assignment inputs registers
      × Satisfies assignment (obligation_of a invariant claimed).clauses
  unfolding obligation_of
  complete holds broken = (made, made-gives, all_folded made (graph_obligation a invariant claimed) ∙ all)
    where
      last : (some_true (grounded made) (claimed_lits a.outputs claimed) || some_true (grounded made)
          (broken_row a invariant claimed)) ≡ true
      last =
          ap₂ (λ x y. x || y) (claims-after (grounded made) made-agrees)
          (flags_say (grounded made) (next_lits a.latches) (1 + top_of a invariant claimed) invariant made-flags
          ∙ ap not (invariant-after (grounded made) made-agrees))
          ∙ broken

      all : all_hold (grounded made) (graph_obligation a invariant claimed) ≡ true
      all =
          four a invariant claimed (grounded made)
          ∙ all_of (all_hold (grounded made) (before_part a invariant))
          (all_hold (grounded made) (graph_part a invariant claimed))
          (all_hold (grounded made) (broken_part a invariant claimed))
          (some_true (grounded made) (claimed_lits a.outputs claimed) || some_true (grounded made)
          (broken_row a invariant claimed))
          (invariant-before (grounded made) made-agrees ∙ holds)
          (graph_holds (grounded made) (needed_in a invariant claimed) (false ∷ (bits_of inputs ++ bits_of registers))
          (1 + sources a) a.gates (omega (arith, count_bits))
          (stands-each (sources a) a.gates valid.gates)
          (cone-closed (sources a) a.gates (needed_lits a invariant claimed) valid.gates) made-agrees)
          (flags_hold (grounded made) (next_lits a.latches) (1 + top_of a invariant claimed) invariant made-flags)
          last

-- the obligation says what breaks an invariant
pub says_what_breaks : (a : AigParts) (invariant : List Clause) (claimed : List ℕ) → IsAig a
    → IsClaim a invariant claimed → SaysWhatBreaks a invariant claimed (obligation_of a invariant claimed)
says_what_breaks a invariant claimed valid claim = λ inputs registers given held. (
  λ found. sound a invariant claimed valid claim inputs registers given held found.0 found.1 found.2,
  λ so. complete a invariant claimed valid claim inputs registers given held so.0 so.1,
)
