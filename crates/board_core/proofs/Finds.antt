-- What a search finds in a list, and in one that goes on.
use Rattle.std.proofs.Common.{◌≡◌, ℕ, zero, suc, ◌+◌, ◌-◌, ◌<◌, ◌≤◌, ◌%◌, Bool, true, false, List, [], ◌∷◌, ◌++◌, length, Option, Some, None, refl, sym, ap, ◌∙◌, subst, arith, append-nil, append_assoc, take, drop, filter, map, flat_map, not, ap₂, is_some}
use Rattle.std.specs.Prelude.{slice_get, if◌then◌else◌}
use Rattle.std.proofs.Math.Nat.{mod-lt}
use Rattle.std.proofs.lemmas.Option.{slice_get_within}
use Rattle.std.specs.List.{enumerate_from, range_with_len}
use Rattle.std.specs.Prelude.{◌==◌, ◌&&◌, slice_index_or}
use Rattle.std.proofs.lemmas.List.{length-map, length_push, take-append-drop}
use Rattle.std.proofs.lemmas.List.FromFn.{length-enumerate_from}
use Rattle.std.proofs.Math.Seq.{take-suc}
use Rattle.std.proofs.lemmas.Grind.{flat_map-append}
use Rattle.std.proofs.lemmas.List.Elements.{filter-append}
use Rattle.std.proofs.lemmas.Option.{get_or_from_slice_get}
use Rattle.typed_core.specs.declared.design.Next.{Next}
use Rattle.typed_core.specs.declared.design.Next.TheVariants as next
use Rattle.typed_core.specs.declared.design.Node.{Node}
use Rattle.one_rule.specs.Cycle.{is_among}
use Rattle.typed_core.specs.Continuations.{is_at}
use Rattle.board_core.specs.Board.{Board, node_at, stands}
use Rattle.board_core.specs.Candidates.{Picks, first, is_further, pair_at, pair_of, pairs}
use Rattle.board_core.specs.Kept.{Kept, StandsFor, slots_from}
use Rattle.board_core.proofs.Flags.{flag_at}
use Rattle.board_core.proofs.Sound.{some_home}
use Rattle.board_core.specs.inner.Search.{Finds, comes_further}
use Rattle.board_core.specs.declared.candidate.Candidate.{Candidate}
use Rattle.board_core.specs.declared.candidate.Search.{Search}

-- what stands in a list stands in one that goes on
pub found_more : (xs ys : List Candidate) (n : ℕ) (c : Candidate) → slice_get xs n ≡ Some c → slice_get (xs ++ ys) n ≡ Some c
found_more [] ys n c is = absurd cc
found_more (x ∷ xs) ys zero c is = is
found_more (x ∷ xs) ys (suc n) c is = found_more xs ys n c is

found_last : (xs : List Candidate) (c : Candidate) → slice_get (xs ++ c ∷ []) (length xs) ≡ Some c
found_last [] c = refl
found_last (x ∷ xs) c = found_last xs c

-- what stands among the first pairs stands among all
pub found_so_far : (p : Candidate → Bool) (all xs : List Candidate) (n number : ℕ) (c : Candidate) → slice_get (all ++ filter p (take n xs)) number ≡ Some c → slice_get (all ++ filter p xs) number ≡ Some c
found_so_far p all xs n number c is =
    subst (λ (ys : List Candidate). slice_get ys number ≡ Some c)
    (append_assoc all (filter p (take n xs)) (filter p (drop n xs)) ∙ ap (λ (ys : List Candidate). all ++ ys) (sym (filter-append p (take n xs) (drop n xs)) ∙ ap (filter p) (take-append-drop n xs)))
    (found_more (all ++ filter p (take n xs)) (filter p (drop n xs)) number c is)

-- none is left to go past: the next one is it
pub found_here : (xs : List Candidate) (n : ℕ) (c : Candidate) → length xs ≡ n → slice_get (xs ++ c ∷ []) n ≡ Some c
found_here xs n c is = ap (slice_get (xs ++ c ∷ [])) (sym is) ∙ found_last xs c

-- past what is no candidate
pub past_none : (all : List Candidate) (n : ℕ) (s : Search) → Finds all n s → Finds (all ++ []) n s
past_none all n s f = subst (λ (xs : List Candidate). Finds xs n s) (sym (append-nil all)) f

-- no candidate, no pick
pub picks_no : (all : List Candidate) (pick count : ℕ) → count ≡ length all → count ≡ 0 → Picks all pick None
picks_no [] pick count same is = refl
picks_no (x ∷ all) pick count same is = absurd (omega (arith, same, is))

-- counted round, it is found
pub picks_round : (all : List Candidate) (pick count : ℕ) (c : Candidate) → count ≡ length all → slice_get all (pick % count) ≡ Some c → Picks all pick (Some c)
picks_round all pick count c same is =
    let here = ap (λ (n : ℕ). slice_get all (pick % n)) (sym same) ∙ is in
    let within = slice_get_within all (pick % length all) c here in
    (omega (arith, within), here)

-- and none is left
pub never_past : (all : List Candidate) (pick count left : ℕ) → count ≡ length all → 0 < count → left + length all ≡ pick % count → ⊥
never_past all pick count left same some is = let less = mod-lt pick some in omega (arith, less, same, is)

-- ---- pairs

abbrev with_node : ℕ → ℕ → Option Node → Option Candidate
with_node cycle n None = None
with_node cycle n (Some node) = Some (pair_of cycle (n, node))

pairs_from : (k cycle : ℕ) (nodes : List Node) (n : ℕ) (node : Node) → slice_get nodes n ≡ Some node → slice_get (map (pair_of cycle) (enumerate_from k nodes)) n ≡ Some (pair_of cycle (k + n, node))
pairs_from k cycle [] n node is = absurd cc
pairs_from k cycle (x ∷ nodes) zero node is = let same : k ≡ k + 0 = omega arith in ap (with_node cycle k) is ∙ ap (λ (m : ℕ). Some (pair_of cycle (m, node))) same
pairs_from k cycle (x ∷ nodes) (suc n) node is =
    let later : k + 1 + n ≡ k + suc n = omega arith in
    pairs_from (k + 1) cycle nodes n node is ∙ ap (λ (m : ℕ). Some (pair_of cycle (m, node))) later

-- a node is in the pair of its number
pub pair_get : (cycle : ℕ) (nodes : List Node) (n : ℕ) (node : Node) → slice_get nodes n ≡ Some node → slice_get (pairs nodes cycle) n ≡ Some (pair_of cycle (n, node))
pair_get cycle nodes n node is = let same : 0 + n ≡ n = omega arith in pairs_from 0 cycle nodes n node is ∙ ap (λ (m : ℕ). Some (pair_of cycle (m, node))) same

take_all : (n : ℕ) (xs : List Candidate) → length xs ≤ n → take n xs ≡ xs
take_all zero [] less = refl
take_all (suc n) [] less = refl
take_all zero (x ∷ xs) less = absurd (omega (arith, less))
take_all (suc n) (x ∷ xs) less = ap (λ (ys : List Candidate). x ∷ ys) (take_all n xs (omega (arith, less)))

-- past the last node are all pairs
pub all_pairs : (cycle : ℕ) (nodes : List Node) (n : ℕ) → length nodes ≤ n → take n (pairs nodes cycle) ≡ pairs nodes cycle
all_pairs cycle nodes n less = take_all n (pairs nodes cycle) (omega (arith, less, length-map (enumerate_from 0 nodes) (pair_of cycle), length-enumerate_from 0 nodes))

-- one pair more
pub further_on : (p : Candidate → Bool) (all xs : List Candidate) (n m : ℕ) (pair : Candidate) → m ≡ suc n → slice_get xs n ≡ Some pair
    → (all ++ filter p (take n xs)) ++ (if p pair then pair ∷ [] else []) ≡ all ++ filter p (take m xs)
further_on p all xs n m pair more is =
    let next : take m xs ≡ take n xs ++ pair ∷ [] = ap (λ (k : ℕ). take k xs) more ∙ take-suc xs n pair (slice_get_within xs n pair is) ∙ ap (λ (x : Candidate). take n xs ++ x ∷ []) (get_or_from_slice_get xs n pair pair is) in
    append_assoc all (filter p (take n xs)) (if p pair then pair ∷ [] else [])
    ∙ ap (λ (ys : List Candidate). all ++ ys) (sym (ap (filter p) next ∙ filter-append p (take n xs) (pair ∷ [])))

-- one pair more is gone past, or is the one
module _ (p : Candidate → Bool) (all xs : List Candidate) (n m number left : ℕ) (pair : Candidate) (more : m ≡ suc n) (is : slice_get xs n ≡ Some pair) (so_far : left + length (all ++ filter p (take n xs)) ≡ number) where
  grown : (b : Bool) → p pair ≡ b → all ++ filter p (take m xs) ≡ (all ++ filter p (take n xs)) ++ (if b then pair ∷ [] else [])
  grown b e = sym (further_on p all xs n m pair more is) ∙ ap (λ (b : Bool). (all ++ filter p (take n xs)) ++ (if b then pair ∷ [] else [])) e

  pub past_other : p pair ≡ false → left + length (all ++ filter p (take m xs)) ≡ number
  past_other e = omega (arith, so_far, ap (λ (ys : List Candidate). length ys) (grown false e ∙ append-nil (all ++ filter p (take n xs))))

  pub past_candidate : p pair ≡ true → 0 < left → (left - 1) + length (all ++ filter p (take m xs)) ≡ number
  past_candidate e some = omega (arith, so_far, some, ap (λ (ys : List Candidate). length ys) (grown true e), length_push (all ++ filter p (take n xs)) pair)

  pub is_next : p pair ≡ true → left ≡ 0 → slice_get (all ++ filter p xs) number ≡ Some pair
  is_next e none =
      found_so_far p all xs m number pair
      (ap (λ (ys : List Candidate). slice_get ys number) (grown true e) ∙ found_here (all ++ filter p (take n xs)) number pair (omega (arith, so_far, none)))

range_next : (a n : ℕ) → range_with_len a (suc n) ≡ range_with_len a n ++ (a + n) ∷ []
range_next a zero = let same : a ≡ a + 0 = omega arith in ap (λ (m : ℕ). m ∷ []) same
range_next a (suc n) =
    let later : a + 1 + n ≡ a + suc n = omega arith in
    ap (λ (ms : List ℕ). a ∷ ms) (range_next (a + 1) n ∙ ap (λ (m : ℕ). range_with_len (a + 1) n ++ m ∷ []) later)

-- one cycle more
pub cycles_on : (f : ℕ → List Candidate) (all : List Candidate) (a n m cycle : ℕ) → m ≡ suc n → cycle ≡ a + n
    → (all ++ flat_map f (range_with_len a n)) ++ f cycle ≡ all ++ flat_map f (range_with_len a m)
cycles_on f all a n m cycle more is =
    append_assoc all (flat_map f (range_with_len a n)) (f cycle)
    ∙ ap (λ (ys : List Candidate). all ++ ys)
    (ap (λ (m : ℕ). flat_map f (range_with_len a n) ++ f m) is ∙ ap (λ (ys : List Candidate). flat_map f (range_with_len a n) ++ ys) (sym (append-nil (f (a + n))))
    ∙ sym (ap (flat_map f) (ap (range_with_len a) more ∙ range_next a n) ∙ flat_map-append f (range_with_len a n) ((a + n) ∷ [])))

module _ (kept : Kept) (board : Board) (st : StandsFor kept board) where
  -- the test is the board's
  pub further_same : (c : Candidate) → c.rule < length kept.opening.design.rules → comes_further kept c ≡ is_further board c
  further_same c within =
      let flag = ap (λ (fs : List Bool). slice_index_or fs c.rule false) st.place.settled ∙ flag_at (length kept.opening.design.rules) board.settled c.rule false within in
      let stands' = sym (some_home kept (slots_from kept.cycle kept.slots c.cycle c.rule)) ∙ ap is_some (st.slots c.cycle c.rule) in
      ap₂ (λ (f s : Bool). not ((c.cycle == kept.cycle) && is_at c.node kept.place.at) && (not ((c.cycle == kept.cycle) && f) && not s)) flag stands'
      ∙ ap₂ (λ (cycle : ℕ) (at : Next). not ((c.cycle == cycle) && is_at c.node at) && (not ((c.cycle == cycle) && is_among board.settled c.rule) && not (stands board c.cycle c.rule))) st.cycle st.place.at

  -- the head is the board's
  pub first_same : (pair : Candidate) (free : Bool) → pair_at kept.cycle kept.place.at (node_at kept.opening.design.nodes kept.place.at) ≡ pair ∷ []
      → pair.cycle ≡ kept.cycle → free ≡ not (is_some (slots_from kept.cycle kept.slots kept.cycle pair.rule)) → (if free then pair ∷ [] else []) ≡ first kept.opening board
  first_same pair free here cycle is =
      let q : Candidate → Bool = λ c. not (stands board c.cycle c.rule) in
      let free' : free ≡ q pair = is ∙ ap not (ap is_some (ap (λ (n : ℕ). slots_from kept.cycle kept.slots n pair.rule) (sym cycle)) ∙ sym (some_home kept (slots_from kept.cycle kept.slots pair.cycle pair.rule)) ∙ ap is_some (st.slots pair.cycle pair.rule)) in
      let there = sym here ∙ ap₂ (λ (n : ℕ) (at : Next). pair_at n at (node_at kept.opening.design.nodes at)) st.cycle st.place.at in
      ap (λ (b : Bool). if b then pair ∷ [] else []) free' ∙ ap (filter q) there

  pub first_none : kept.place.at ≡ next.End → [] ≡ first kept.opening board
  first_none is =
      let q : Candidate → Bool = λ c. not (stands board c.cycle c.rule) in
      ap (λ (at : Next). filter q (pair_at board.cycle at (node_at kept.opening.design.nodes at))) (sym is ∙ st.place.at)
