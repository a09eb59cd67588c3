-- The values of a text's own variables are those of a graph's variables at their places.
use Rattle.std.proofs.Common.{◌≡◌, ℕ, zero, suc, ◌+◌, ◌*◌, ◌/◌, ◌%◌, ◌<◌, Bool, true, false, ◌&&◌, cond, List, [], ◌∷◌, ◌++◌, length, get_or, map, Option, None, Some, Result, Ok, Err, refl, sym, ap, ap₂, subst, ◌∙◌, arith, append_assoc, append-nil, inl, inr}
use Rattle.std.specs.Prelude.{◌≢◌, nat_eq, nat_lt}
use Rattle.std.proofs.lemmas.Bool.{cases_lt, eqb-true}
use Rattle.std.proofs.lemmas.List.{get_or_append_left, get_or_past, get_or_push, length-append, length_push}
use Rattle.kw_base.specs.declared.fault.Fault.{Fault}
use Rattle.aig_blast.specs.BitLists.{xor}
use Rattle.aig_blast.specs.Graphs.{gate_value, lit_value, values_after}
use Rattle.aig_blast.specs.declared.gate.Gate.{Gate}
use Rattle.stim_report.specs.Stimuli.{after, next_line}
use Rattle.aiger_text.specs.Meaning.{all_false, value_of_gate, value_of_literal, with_gate_lines, with_lines, with_variable}
use Rattle.aiger_text.specs.Places.{place_of}
use Rattle.aiger_text.specs.Reading.{all_placed, gate_by, gates_placed, known, literal_at, placed_gate, placed_literal}
use Rattle.aiger_text.specs.inner.Sound.{AreApart}
use Rattle.aiger_text.proofs.Placements.{place-other, place-own, place-within}

-- the value at a place, if there is one
abbrev pub value_at : List Bool → Option ℕ → Bool
value_at listed None = false
value_at listed (Some place) = get_or listed place false

-- each variable has the value that is listed at its place
abbrev pub Agree : List ℕ → List Bool → (ℕ → Bool) → Type 0
Agree variables listed values = (u : ℕ) → values u ≡ value_at listed (place_of variables u)

-- ---- one value more

index-push : (listed : List Bool) (x : Bool) (p : ℕ) → p ≢ length listed → get_or listed p false ≡ get_or (listed ++ x ∷ []) p false
index-push listed x p other =
    elim (cases_lt p (length listed)) [
      | inl within ↦ sym (get_or_append_left listed (x ∷ []) false p within)
      | inr past ↦ get_or_past listed p false past ∙ sym (get_or_past (listed ++ x ∷ []) p false (omega (arith, length_push listed x, past, other)))
    ]

value-push : (listed : List Bool) (x : Bool) (o : Option ℕ) → ((p : ℕ) → o ≡ Some p → p ≢ length listed) → value_at listed o ≡ value_at (listed ++ x ∷ []) o
value-push listed x None other = refl
value-push listed x (Some p) other = index-push listed x p (other p refl)

-- that of the next variable
agree-more : (variables front rest : List ℕ) (v : ℕ) (listed : List Bool) (values : ℕ → Bool) (x : Bool) → AreApart variables → variables ≡ front ++ v ∷ rest → length listed ≡ suc (length front)
    → Agree variables listed values → Agree variables (listed ++ x ∷ []) (with_variable values v x)
agree-more variables front rest v listed values x apart cut long agree u = by (nat_eq u v) refl
  where
    by : (t : Bool) → nat_eq u v ≡ t → cond t x (values u) ≡ value_at (listed ++ x ∷ []) (place_of variables u)
    by true same =
        let own : place_of variables u ≡ Some (suc (length front)) = ap (place_of variables) (eqb-true u v same) ∙ place-own variables front rest v cut apart in
        sym (ap (value_at (listed ++ x ∷ [])) own ∙ get_or_push listed x false (suc (length front)) long)
    by false other =
        agree u ∙ value-push listed x (place_of variables u) (λ p at same. place-other variables front rest u v p cut other at (same ∙ long))

-- where each variable has a value, further ones change none
agree-past : (variables : List ℕ) (listed : List Bool) (values : ℕ → Bool) (x : Bool) → length variables < length listed → Agree variables listed values → Agree variables (listed ++ x ∷ []) values
agree-past variables listed values x all agree u =
    agree u ∙ value-push listed x (place_of variables u) (λ p at same. absurd (omega (arith, place-within variables u p at, same, all)))

agree-bits : (variables : List ℕ) (listed bits : List Bool) (values : ℕ → Bool) → length variables < length listed → Agree variables listed values → Agree variables (listed ++ bits) values
agree-bits variables listed [] values all agree = subst (λ (l : List Bool). Agree variables l values) (sym (append-nil listed)) agree
agree-bits variables listed (x ∷ bits) values all agree =
    subst (λ (l : List Bool). Agree variables l values) (append_assoc listed (x ∷ []) bits)
    (agree-bits variables (listed ++ x ∷ []) bits values (omega (arith, length_push listed x, all)) (agree-past variables listed values x all agree))

agree-gates : (variables : List ℕ) (listed : List Bool) (gates : List Gate) (values : ℕ → Bool) → length variables < length listed → Agree variables listed values → Agree variables (values_after listed gates) values
agree-gates variables listed [] values all agree = agree
agree-gates variables listed (gate ∷ gates) values all agree =
    let x : Bool = gate_value listed gate in
    agree-gates variables (listed ++ x ∷ []) gates values (omega (arith, length_push listed x, all)) (agree-past variables listed values x all agree)

-- ---- literals

pub literal-agrees : (variables : List ℕ) (listed : List Bool) (values : ℕ → Bool) (bound lit placed : ℕ) → Agree variables listed values → placed_literal variables bound lit ≡ Some placed
    → value_of_literal values lit ≡ lit_value listed placed
literal-agrees variables listed values bound lit placed agree is = by (place_of variables (lit / 2)) refl is
  where
    with_place : (p : ℕ) → place_of variables (lit / 2) ≡ Some p → (t : Bool) → cond {A = Option ℕ} t (Some (2 * p + lit % 2)) None ≡ Some placed → value_of_literal values lit ≡ lit_value listed placed
    with_place p at true is =
        let same : 2 * p + lit % 2 ≡ placed = cc in
        let odd : lit % 2 ≡ placed % 2 = omega (arith, same) in
        let half : p ≡ placed / 2 = omega (arith, same) in
        ap₂ (λ (n : ℕ) (value : Bool). xor (nat_eq n 1) value) odd (agree (lit / 2) ∙ ap (value_at listed) at ∙ ap (λ k. get_or listed k false) half)
    with_place p at false is = absurd (cc)

    by : (o : Option ℕ) → place_of variables (lit / 2) ≡ o → literal_at bound o (lit % 2) ≡ Some placed → value_of_literal values lit ≡ lit_value listed placed
    by None at is = absurd (cc)
    by (Some p) at is = with_place p at (nat_lt p bound) is

pub literals-agree : (variables : List ℕ) (listed : List Bool) (values : ℕ → Bool) (bound number : ℕ) (lits found : List ℕ) → Agree variables listed values → all_placed variables bound number lits ≡ Ok found
    → map (lit_value listed) found ≡ map (value_of_literal values) lits
literals-agree variables listed values bound number [] found agree is = let none : [] ≡ found = cc in ap (map (lit_value listed)) (sym none)
literals-agree variables listed values bound number (lit ∷ lits) found agree is =
    by (λ others. literals-agree variables listed values bound (next_line number) lits others agree) (placed_literal variables bound lit) (all_placed variables bound (next_line number) lits) refl refl is
  where
    by : ((others : List ℕ) → all_placed variables bound (next_line number) lits ≡ Ok others → map (lit_value listed) others ≡ map (value_of_literal values) lits)
        → (first : Option ℕ) (rest : Result (List ℕ) Fault) → placed_literal variables bound lit ≡ first → all_placed variables bound (next_line number) lits ≡ rest
        → after (known number first) (λ first. after rest (λ others. Ok (first ∷ others))) ≡ Ok found → map (lit_value listed) found ≡ value_of_literal values lit ∷ map (value_of_literal values) lits
    by more None rest has goes is = absurd (cc)
    by more (Some first) (Err fault) has goes is = absurd (cc)
    by more (Some first) (Ok others) has goes is =
        let same : first ∷ others ≡ found = cc in
        ap (map (lit_value listed)) (sym same)
        ∙ ap₂ (λ (x : Bool) (xs : List Bool). x ∷ xs) (sym (literal-agrees variables listed values bound lit first agree has)) (more others goes)

gate-agrees : (variables : List ℕ) (listed : List Bool) (values : ℕ → Bool) (bound : ℕ) (gate found : Gate) → Agree variables listed values → placed_gate variables bound gate ≡ Some found
    → value_of_gate values gate ≡ gate_value listed found
gate-agrees variables listed values bound gate found agree is = by (placed_literal variables bound gate.left) (placed_literal variables bound gate.right) refl refl is
  where
    by : (left right : Option ℕ) → placed_literal variables bound gate.left ≡ left → placed_literal variables bound gate.right ≡ right → gate_by left right ≡ Some found
        → value_of_gate values gate ≡ gate_value listed found
    by None right l r is = absurd (cc)
    by (Some left) None l r is = absurd (cc)
    by (Some left) (Some right) l r is =
        let same : record { left = left; right = right } ≡ found = cc in
        ap₂ (λ (x y : Bool). x && y) (literal-agrees variables listed values bound gate.left left agree l) (literal-agrees variables listed values bound gate.right right agree r)
        ∙ ap (gate_value listed) same

-- ---- all lines

module _ (variables : List ℕ) (apart : AreApart variables) where
  gates-agree : (gates found : List Gate) (bound number : ℕ) (front rest : List ℕ) (listed : List Bool) (values : ℕ → Bool) → gates_placed variables bound number gates ≡ Ok found → variables ≡ front ++ rest
      → length listed ≡ suc (length front) → Agree variables listed values → Agree variables (values_after listed found) (with_gate_lines values rest gates)
  gates-agree [] found bound number front rest listed values is cut long agree =
      let none : [] ≡ found = cc in
      subst (λ (gs : List Gate). Agree variables (values_after listed gs) values) none agree
  gates-agree (gate ∷ gates) found bound number front [] listed values is cut long agree =
      let all : length variables ≡ length front = ap length (cut ∙ append-nil front) in
      agree-gates variables listed found values (omega (arith, all, long)) agree
  gates-agree (gate ∷ gates) found bound number front (v ∷ rest) listed values is cut long agree =
      by (λ others values'. gates-agree gates others (bound + 1) (next_line number) (front ++ v ∷ []) rest (listed ++ value_of_gate values gate ∷ []) values')
      (placed_gate variables bound gate) (gates_placed variables (bound + 1) (next_line number) gates) refl refl is
    where
      by : ((others : List Gate) (values' : ℕ → Bool) → gates_placed variables (bound + 1) (next_line number) gates ≡ Ok others → variables ≡ (front ++ v ∷ []) ++ rest
          → length (listed ++ value_of_gate values gate ∷ []) ≡ suc (length (front ++ v ∷ [])) → Agree variables (listed ++ value_of_gate values gate ∷ []) values' → Agree variables (values_after (listed ++ value_of_gate values gate ∷ []) others) (with_gate_lines values' rest gates))
          → (first : Option Gate) (others : Result (List Gate) Fault) → placed_gate variables bound gate ≡ first → gates_placed variables (bound + 1) (next_line number) gates ≡ others
          → after (known number first) (λ first. after others (λ others. Ok (first ∷ others))) ≡ Ok found → Agree variables (values_after listed found) (with_gate_lines (with_variable values v (value_of_gate values gate)) rest gates)
      by more None others has goes is = absurd (cc)
      by more (Some first) (Err fault) has goes is = absurd (cc)
      by more (Some first) (Ok others) has goes is =
          let same : first ∷ others ≡ found = cc in
          let value : value_of_gate values gate ≡ gate_value listed first = gate-agrees variables listed values bound gate first agree has in
          subst (λ (gs : List Gate). Agree variables (values_after listed gs) (with_gate_lines (with_variable values v (value_of_gate values gate)) rest gates)) same
          (subst (λ (x : Bool). Agree variables (values_after (listed ++ x ∷ []) others) (with_gate_lines (with_variable values v (value_of_gate values gate)) rest gates)) value
          (more others (with_variable values v (value_of_gate values gate)) goes (cut ∙ sym (append_assoc front (v ∷ []) rest)) (omega (arith, length_push listed (value_of_gate values gate), length_push front v, long))
          (agree-more variables front rest v listed values (value_of_gate values gate) apart cut long agree)))

  lines-agree : (bits : List Bool) (gates found : List Gate) (bound number : ℕ) (front rest : List ℕ) (listed : List Bool) (values : ℕ → Bool) → gates_placed variables bound number gates ≡ Ok found → variables ≡ front ++ rest
      → length listed ≡ suc (length front) → Agree variables listed values → Agree variables (values_after (listed ++ bits) found) (with_lines values rest bits gates)
  lines-agree [] gates found bound number front rest listed values is cut long agree =
      subst (λ (l : List Bool). Agree variables (values_after l found) (with_gate_lines values rest gates)) (sym (append-nil listed))
      (gates-agree gates found bound number front rest listed values is cut long agree)
  lines-agree (bit ∷ bits) gates found bound number front [] listed values is cut long agree =
      let all : length variables ≡ length front = ap length (cut ∙ append-nil front) in
      agree-gates variables (listed ++ bit ∷ bits) found values (omega (arith, all, long, length-append listed (bit ∷ bits))) (agree-bits variables listed (bit ∷ bits) values (omega (arith, all, long)) agree)
  lines-agree (bit ∷ bits) gates found bound number front (v ∷ rest) listed values is cut long agree =
      subst (λ (l : List Bool). Agree variables (values_after l found) (with_lines (with_variable values v bit) rest bits gates)) (append_assoc listed (bit ∷ []) bits)
      (lines-agree bits gates found bound number (front ++ v ∷ []) rest (listed ++ bit ∷ []) (with_variable values v bit) is (cut ∙ sym (append_assoc front (v ∷ []) rest))
      (omega (arith, length_push listed bit, length_push front v, long)) (agree-more variables front rest v listed values bit apart cut long agree))

  none-true : (o : Option ℕ) → false ≡ value_at (false ∷ []) o
  none-true None = refl
  none-true (Some zero) = refl
  none-true (Some (suc p)) = refl

  -- the values of a step
  pub step-agrees : (bits : List Bool) (gates found : List Gate) (bound number : ℕ) → gates_placed variables bound number gates ≡ Ok found
      → Agree variables (values_after (false ∷ bits) found) (with_lines all_false variables bits gates)
  step-agrees bits gates found bound number is =
      lines-agree bits gates found bound number [] variables (false ∷ []) all_false is refl refl (λ u. none-true (place_of variables u))
