-- How the counts of the window's cycles change with each step, and what a search may go past by them.
use Rattle.std.proofs.Common.{◌≡◌, ◌⊎◌, inl, inr, ℕ, zero, suc, ◌+◌, ◌-◌, ◌<◌, ◌≤◌, Bool, true, false, not, List, [], ◌∷◌, ◌++◌, length, map, filter, replicate, take, drop, Option, Some, None, refl, sym, ap, ap₂, ◌∙◌, subst, eq-eqb, eqb-true, arith, true≢false, is_some}
use Rattle.std.specs.Prelude.{◌==◌, ◌&&◌, ◌||◌, nat_le, nat_lt, cond, slice_get, slice_index_or, slice_set, if◌then◌else◌}
use Rattle.std.specs.List.{count_by, enumerate_from}
use Rattle.std.proofs.lemmas.Bool.{cases_eq, cases_lt, eqb-false, le-leb, leb-false, ltb-false, ne_eqb, or_left, or_right}
use Rattle.std.proofs.lemmas.List.{get_or-replicate, get_or-set_same, get_or-set_other, get_or_append_left, length-append, length-map, length-replicate, length-set}
use Rattle.std.proofs.lemmas.List.FromFn.{length-enumerate_from}
use Rattle.std.proofs.lemmas.List.Sums.{count_by-le-length, length-filter, sum_by-cons}
use Rattle.typed_core.specs.declared.design.Next.{Next}
use Rattle.typed_core.specs.declared.design.Next.TheVariants as next
use Rattle.typed_core.specs.declared.design.Node.{Node}
use Rattle.one_rule.specs.Cycle.{is_among, join}
use Rattle.typed_core.specs.Continuations.{is_at}
use Rattle.attempt_log.specs.Attempt.{Attempted}
use Rattle.attempt_log.specs.Setting.{at_design}
use Rattle.attempt_log.specs.Verdict.{verdict}
use Rattle.attempt_log.specs.declared.cause.Verdict.{Verdict}
use Rattle.attempt_log.specs.declared.cause.Verdict.TheVariants.{Commit, Skip, Stale}
use Rattle.attempt_log.specs.declared.entry.Settled.{Settled}
use Rattle.attempt_log.specs.declared.entry.Settled.TheVariants as settled
use Rattle.attempt_log.specs.declared.entry.Submitted.{Submitted}
use Rattle.attempt_log.specs.declared.entry.Submitted.TheVariants as submitted
use Rattle.board_core.specs.Board.{Board, BoardStep, Opening, closed, dropped, head, is_ahead, is_late, judged, node_at, opened, settle, settle_at, settle_with, settled_by, stands, stays, stored, submit}
use Rattle.board_core.specs.Candidates.{first, further, is_further, is_head, is_open, pair_at, pair_of, pairs}
use Rattle.board_core.specs.Kept.{Kept, StandsFor, slots_from}
use Rattle.board_core.specs.Position.{IsOpening, IsPlain}
use Rattle.board_core.specs.declared.candidate.Candidate.{Candidate}
use Rattle.board_core.specs.declared.event.BoardAnswer.{BoardAnswer}
use Rattle.board_core.specs.declared.event.BoardAnswer.TheVariants as answer
use Rattle.board_core.specs.inner.Counts.{HasCounts, comes_open, count_open, is_closing, is_stored, stale_rule, weight}
use Rattle.board_core.proofs.Flags.{flag_at, one_more, or_no}
use Rattle.board_core.proofs.Open.{neither}
use Rattle.board_core.proofs.Positions.{at_node}
use Rattle.board_core.proofs.Sound.{some_home, submit_ahead, submit_late, submit_near}

-- ---- counts of nodes

pub same_count : (p q : Node → Bool) → ((n : Node) → p n ≡ q n) → (nodes : List Node) → count_by p nodes ≡ count_by q nodes
same_count p q h [] = refl
same_count p q h (n ∷ nodes) =
    sum_by-cons (λ (x : Node). cond (p x) 1 0) n nodes ∙ ap₂ (λ (b : Bool) (k : ℕ). cond b 1 0 + k) (h n) (same_count p q h nodes)
    ∙ sym (sum_by-cons (λ (x : Node). cond (q x) 1 0) n nodes)

-- the nodes of a rule come off
taken_count : (p q : Node → Bool) (rule : ℕ) → ((n : Node) → cond (q n) 1 0 + cond (n.rule == rule) 1 0 ≡ cond (p n) 1 0) → (nodes : List Node) → count_by q nodes + weight nodes rule ≡ count_by p nodes
taken_count p q rule h [] = refl
taken_count p q rule h (n ∷ nodes) =
    omega (arith, sum_by-cons (λ (x : Node). cond (q x) 1 0) n nodes, sum_by-cons (λ (x : Node). cond (x.rule == rule) 1 0) n nodes, sum_by-cons (λ (x : Node). cond (p x) 1 0) n nodes, h n, taken_count p q rule h nodes)

pub all_count : (p : Node → Bool) → ((n : Node) → p n ≡ true) → (nodes : List Node) → count_by p nodes ≡ length nodes
all_count p h [] = refl
all_count p h (n ∷ nodes) = sum_by-cons (λ (x : Node). cond (p x) 1 0) n nodes ∙ ap₂ (λ (b : Bool) (k : ℕ). cond b 1 0 + k) (h n) (all_count p h nodes) ∙ omega arith

pub length_first : (n : ℕ) (nodes : List Node) → length (take n nodes) ≤ n
length_first zero nodes = omega arith
length_first (suc n) [] = omega arith
length_first (suc n) (x ∷ nodes) = omega (arith, length_first n nodes)

-- the nodes' rules are of the design
abbrev pub RulesWithin : ℕ → List Node → Type 0
RulesWithin rules nodes = (k : ℕ) (n : Node) → slice_get nodes k ≡ Some n → n.rule < rules

pub rules_within : (o : Opening) → IsOpening o → RulesWithin (length o.design.rules) o.design.nodes
rules_within o p k n is = (p.design.nodes k n is).rule

same_within : (p q : Node → Bool) (rules : ℕ) → ((n : Node) → n.rule < rules → p n ≡ q n) → (nodes : List Node) → RulesWithin rules nodes → count_by p nodes ≡ count_by q nodes
same_within p q rules h [] all = refl
same_within p q rules h (n ∷ nodes) all =
    sum_by-cons (λ (x : Node). cond (p x) 1 0) n nodes ∙ ap₂ (λ (b : Bool) (k : ℕ). cond b 1 0 + k) (h n (all zero n refl)) (same_within p q rules h nodes (λ k m is. all (suc k) m is))
    ∙ sym (sum_by-cons (λ (x : Node). cond (q x) 1 0) n nodes)

-- a rule is open unless it is settled in this cycle, or an attempt stands for it
abbrev pub open_if : Bool → Bool → Bool → Bool
open_if now done held = not (now && done) && not held

abbrev pub open_at : Board → ℕ → ℕ → Bool
open_at board cycle rule = open_if (cycle == board.cycle) (is_among board.settled rule) (stands board cycle rule)

open_alike : (x y d e h i : Bool) → x ≡ y → d ≡ e → h ≡ i → open_if x d h ≡ open_if y e i
open_alike x y d e h i f g k = ap₂ (λ (b c : Bool). open_if b c h) f g ∙ ap (open_if y e) k

-- where none is settled, those are open for which no attempt stands
open_fresh : (now held : Bool) → open_if now false held ≡ not held
open_fresh true held = refl
open_fresh false held = refl

-- the nodes whose rules are open in the cycle
abbrev pub count_at : Board → ℕ → List Node → ℕ
count_at board cycle nodes = count_by (λ (n : Node). open_at board cycle n.rule) nodes

open_same : (kept : Kept) (board : Board) → StandsFor kept board → (cycle rule : ℕ) → rule < length kept.opening.design.rules → comes_open kept cycle rule ≡ open_at board cycle rule
open_same kept board st cycle rule within =
    open_alike (cycle == kept.cycle) (cycle == board.cycle) (slice_index_or kept.place.settled.items rule false) (is_among board.settled rule)
    (is_some (slots_from kept.cycle kept.slots cycle rule)) (stands board cycle rule)
    (ap (λ (c : ℕ). cycle == c) st.cycle)
    (ap (λ (fs : List Bool). slice_index_or fs rule false) st.place.settled ∙ flag_at (length kept.opening.design.rules) board.settled rule false within)
    (sym (some_home kept (slots_from kept.cycle kept.slots cycle rule)) ∙ ap is_some (st.slots cycle rule))

pub count_same : (kept : Kept) (board : Board) → IsOpening kept.opening → StandsFor kept board → (cycle : ℕ) → count_open kept cycle ≡ count_at board cycle kept.opening.design.nodes
count_same kept board p st cycle =
    same_within (λ (n : Node). comes_open kept cycle n.rule) (λ (n : Node). open_at board cycle n.rule) (length kept.opening.design.rules)
    (λ n within. open_same kept board st cycle n.rule within) kept.opening.design.nodes (rules_within kept.opening p)

-- ---- counts of pairs

abbrev pairs_from : ℕ → ℕ → List Node → List Candidate
pairs_from cycle k nodes = map (pair_of cycle) (enumerate_from k nodes)

one_pair : (p : Candidate → Bool) (cycle k : ℕ) (n : Node) (nodes : List Node) → count_by p (pairs_from cycle k (n ∷ nodes)) ≡ cond (p (pair_of cycle (k, n))) 1 0 + count_by p (pairs_from cycle (k + 1) nodes)
one_pair p cycle k n nodes = sum_by-cons (λ (c : Candidate). cond (p c) 1 0) (pair_of cycle (k, n)) (pairs_from cycle (k + 1) nodes)

same_pairs : (p q : Candidate → Bool) (cycle : ℕ) → ((k : ℕ) (n : Node) → p (pair_of cycle (k, n)) ≡ q (pair_of cycle (k, n))) → (k : ℕ) (nodes : List Node) → count_by p (pairs_from cycle k nodes) ≡ count_by q (pairs_from cycle k nodes)
same_pairs p q cycle h k [] = refl
same_pairs p q cycle h k (n ∷ nodes) =
    one_pair p cycle k n nodes ∙ ap₂ (λ (b : Bool) (m : ℕ). cond b 1 0 + m) (h k n) (same_pairs p q cycle h (k + 1) nodes) ∙ sym (one_pair q cycle k n nodes)

no_pairs : (p : Candidate → Bool) (cycle : ℕ) → ((k : ℕ) (n : Node) → p (pair_of cycle (k, n)) ≡ false) → (k : ℕ) (nodes : List Node) → count_by p (pairs_from cycle k nodes) ≡ 0
no_pairs p cycle h k [] = refl
no_pairs p cycle h k (n ∷ nodes) = one_pair p cycle k n nodes ∙ ap₂ (λ (b : Bool) (m : ℕ). cond b 1 0 + m) (h k n) (no_pairs p cycle h (k + 1) nodes)

-- the open pairs are those of the open nodes
open_pairs : (board : Board) (cycle k : ℕ) (nodes : List Node) → count_by (is_open board) (pairs_from cycle k nodes) ≡ count_at board cycle nodes
open_pairs board cycle k [] = refl
open_pairs board cycle k (n ∷ nodes) =
    one_pair (is_open board) cycle k n nodes ∙ ap (λ (m : ℕ). cond (open_at board cycle n.rule) 1 0 + m) (open_pairs board cycle (k + 1) nodes)
    ∙ sym (sum_by-cons (λ (x : Node). cond (open_at board cycle x.rule) 1 0) n nodes)

parted : (p q : Candidate → Bool) (xs : List Candidate) → count_by (λ (c : Candidate). p c && q c) xs + count_by (λ (c : Candidate). not (p c) && q c) xs ≡ count_by q xs
parted p q [] = refl
parted p q (x ∷ xs) =
    omega (arith, sum_by-cons (λ (c : Candidate). cond (p c && q c) 1 0) x xs, sum_by-cons (λ (c : Candidate). cond (not (p c) && q c) 1 0) x xs, sum_by-cons (λ (c : Candidate). cond (q c) 1 0) x xs, one (p x) (q x), parted p q xs)
  where
    one : (a b : Bool) → cond (a && b) 1 0 + cond (not a && b) 1 0 ≡ cond b 1 0
    one true true = refl
    one true false = refl
    one false true = refl
    one false false = refl

-- the pair of one number
module _ (g : ℕ → Bool) (cycle h : ℕ) where
  abbrev this : Candidate → Bool
  this c = (c.node == h) && g c.rule

  abbrev that : Option Node → ℕ
  that None = 0
  that (Some node) = cond (g node.rule) 1 0

  behind : (k : ℕ) (nodes : List Node) → h < k → count_by this (pairs_from cycle k nodes) ≡ 0
  behind k [] less = refl
  behind k (n ∷ nodes) less =
      one_pair this cycle k n nodes ∙ ap₂ (λ (b : Bool) (m : ℕ). cond (b && g n.rule) 1 0 + m) (ne_eqb k h (λ e. absurd (omega (arith, e, less)))) (behind (k + 1) nodes (omega (arith, less)))

  at_number : (k j : ℕ) (nodes : List Node) → h ≡ k + j → count_by this (pairs_from cycle k nodes) ≡ that (slice_get nodes j)
  at_number k zero [] e = refl
  at_number k (suc j) [] e = refl
  at_number k zero (n ∷ nodes) e =
      let here = ap {B = ℕ} (λ (b : Bool). cond (b && g n.rule) 1 0) (eq-eqb k h (omega (arith, e))) in
      omega (arith, one_pair this cycle k n nodes, here, behind (k + 1) nodes (omega (arith, e)))
  at_number k (suc j) (n ∷ nodes) e =
      let off = ap {B = ℕ} (λ (b : Bool). cond (b && g n.rule) 1 0) (ne_eqb k h (λ f. absurd (omega (arith, e, f)))) in
      omega (arith, one_pair this cycle k n nodes, off, at_number (k + 1) j nodes (omega (arith, e)))

module _ (o : Opening) (board : Board) where
  -- in a later cycle the further candidates are the open nodes
  later_count : (cycle : ℕ) → (cycle ≡ board.cycle → ⊥) → length (further o board cycle) ≡ count_at board cycle o.design.nodes
  later_count cycle ne =
      length-filter (is_further board) (pairs o.design.nodes cycle)
      ∙ same_pairs (is_further board) (is_open board) cycle (λ k n. ap (λ (b : Bool). not (b && is_at k board.walk.at) && open_at board cycle n.rule) (ne_eqb cycle board.cycle ne)) 0 o.design.nodes
      ∙ open_pairs board cycle 0 o.design.nodes

  abbrev head_open : Candidate → Bool
  head_open c = is_head board c && is_open board c

  abbrev waits : Candidate → Bool
  waits c = not (stands board c.cycle c.rule)

  -- the head is a candidate where its node is open, since its rule isn't settled
  first_count : ((node : Node) → head o board ≡ Some node → is_among board.settled node.rule ≡ false) → length (first o board) ≡ count_by head_open (pairs o.design.nodes board.cycle)
  first_count new = by board.walk.at refl
    where
      nodes : List Node
      nodes = o.design.nodes

      cycle : ℕ
      cycle = board.cycle

      g : ℕ → Bool
      g rule = open_at board cycle rule

      of_node : (h : ℕ) (held : Option Node) → ((node : Node) → held ≡ Some node → is_among board.settled node.rule ≡ false) → length (filter waits (pair_at cycle (next.Node h) held)) ≡ that g cycle h held
      of_node h None f = refl
      of_node h (Some node) f =
          let free : g node.rule ≡ not (stands board cycle node.rule) = ap (λ (d : Bool). open_if (cycle == cycle) d (stands board cycle node.rule)) (f node refl) ∙ open_fresh (cycle == cycle) (stands board cycle node.rule) in
          omega (arith, length-filter waits (pair_of cycle (h, node) ∷ []), sum_by-cons (λ (c : Candidate). cond (waits c) 1 0) (pair_of cycle (h, node)) [], ap {B = ℕ} (λ (b : Bool). cond b 1 0) free)

      by : (at : Next) → board.walk.at ≡ at → length (first o board) ≡ count_by head_open (pairs nodes cycle)
      by next.End e =
          ap (λ (at : Next). length (filter waits (pair_at cycle at (node_at nodes at)))) e
          ∙ sym (no_pairs head_open cycle (λ k n. ap₂ (λ (b : Bool) (at : Next). (b && is_at k at) && g n.rule) (eq-eqb cycle cycle refl) e) 0 nodes)
      by (next.Node h) e =
          ap (λ (at : Next). length (filter waits (pair_at cycle at (node_at nodes at)))) e
          ∙ of_node h (slice_get nodes h) (λ node is. new node (ap (node_at nodes) e ∙ is))
          ∙ sym (same_pairs head_open (this g cycle h) cycle (λ k n. ap₂ (λ (b : Bool) (at : Next). (b && is_at k at) && g n.rule) (eq-eqb cycle cycle refl) e) 0 nodes
          ∙ at_number g cycle h 0 h nodes (omega arith))

  -- in the current cycle the head and the further candidates are the open nodes
  current_count : ((node : Node) → head o board ≡ Some node → is_among board.settled node.rule ≡ false) → length (first o board) + length (further o board board.cycle) ≡ count_at board board.cycle o.design.nodes
  current_count new =
      omega (arith, first_count new, length-filter (is_further board) (pairs o.design.nodes board.cycle), parted (is_head board) (is_open board) (pairs o.design.nodes board.cycle), open_pairs board board.cycle 0 o.design.nodes)

  -- the head is at most one candidate
  pub few_first : length (first o board) ≤ 1
  few_first = omega (arith, length-filter waits (pair_at board.cycle board.walk.at (head o board)), count_by-le-length waits (pair_at board.cycle board.walk.at (head o board)), few board.walk.at (head o board))
    where
      few : (at : Next) (held : Option Node) → length (pair_at board.cycle at held) ≤ 1
      few next.End held = omega arith
      few (next.Node h) None = omega arith
      few (next.Node h) (Some node) = omega arith

-- the further candidates of a cycle are no more than the nodes
pub few_further : (o : Opening) (board : Board) (cycle : ℕ) → length (further o board cycle) ≤ length o.design.nodes
few_further o board cycle =
    let all = pairs o.design.nodes cycle in
    omega (arith, length-filter (is_further board) all, count_by-le-length (is_further board) all, length-map (enumerate_from 0 o.design.nodes) (pair_of cycle), length-enumerate_from 0 o.design.nodes)

-- ---- searching

-- what the counts say of the candidates of a cycle
module _ (kept : Kept) (board : Board) (p : IsOpening kept.opening) (st : StandsFor kept board) (counts : List ℕ) (has : HasCounts kept counts) (cycle : ℕ) (from : kept.cycle ≤ cycle) (within : cycle < kept.cycle + kept.opening.window) where
  counted : slice_index_or counts (cycle - kept.cycle) 0 ≡ count_at board cycle kept.opening.design.nodes
  counted =
      let at : kept.cycle + (cycle - kept.cycle) ≡ cycle = omega (arith, from) in
      has.each (cycle - kept.cycle) (omega (arith, from, within)) ∙ ap (count_open kept) at ∙ count_same kept board p st cycle

  pub further_later : kept.cycle < cycle → slice_index_or counts (cycle - kept.cycle) 0 ≡ length (further kept.opening board cycle)
  further_later later = counted ∙ sym (later_count kept.opening board cycle (λ e. absurd (omega (arith, e, st.cycle, later))))

  pub further_now : cycle ≤ kept.cycle → ((node : Node) → node_at kept.opening.design.nodes kept.place.at ≡ Some node → slice_index_or kept.place.settled.items node.rule true ≡ false)
      → slice_index_or counts (cycle - kept.cycle) 0 ≡ length (first kept.opening board) + length (further kept.opening board cycle)
  further_now least new =
      let here : cycle ≡ board.cycle = omega (arith, from, least, st.cycle) in
      counted
      ∙ ap (λ (c : ℕ). count_at board c kept.opening.design.nodes) here
      ∙ sym (ap (λ (c : ℕ). length (first kept.opening board) + length (further kept.opening board c)) here ∙ current_count kept.opening board unsettled)
    where
      unsettled : (node : Node) → head kept.opening board ≡ Some node → is_among board.settled node.rule ≡ false
      unsettled node is =
          let rules = length kept.opening.design.rules in
          let (to, at, found) = at_node kept.opening.design.nodes board.walk.at node is in
          sym (ap (λ (fs : List Bool). slice_index_or fs node.rule true) st.place.settled ∙ flag_at rules board.settled node.rule true (rules_within kept.opening p to node found))
          ∙ new node (ap (node_at kept.opening.design.nodes) st.place.at ∙ is)

-- candidates are gone past by their number
pub skips : (all more : List Candidate) (number left count : ℕ) → count ≡ length more → count ≤ left → left + length all ≡ number → (left - count) + length (all ++ more) ≡ number
skips all more number left count many less finds = omega (arith, finds, many, less, length-append all more)

-- ---- an attempt is stored

-- what is told of a submit, by the board step
module _ (o : Opening) (board : Board) (a : Attempted) where
  -- the attempt is in the window, its rule isn't settled, and none stood for it
  pub record Taken : Type 0 where
    pub late : is_late board a ≡ false
    pub ahead : is_ahead o board a ≡ false
    pub free : stands board a.cycle a.rule ≡ false
    pub is : (submit o board a).board ≡ stored o board a

  abbrev stored_in : BoardAnswer → Bool
  stored_in (answer.Submit s) = is_stored s
  stored_in (answer.Settle s) = false

  pub is_taken : (told : Submitted) → is_stored told ≡ true → answer.Submit told ≡ (submit o board a).answer → Taken
  is_taken told is h = by1 (is_late board a) refl
    where
      so : (s : BoardStep) → submit o board a ≡ s → stored_in s.answer ≡ true
      so s e = sym (ap stored_in (h ∙ ap (λ (x : BoardStep). x.answer) e)) ∙ is

      by3 : (b : Bool) → is_late board a ≡ false → is_ahead o board a ≡ false → stands board a.cycle a.rule ≡ b → Taken
      by3 true late ahead e =
          absurd (true≢false (sym (so (stays board (answer.Submit (submitted.Twice a)))
          (submit_near o board a late ahead ∙ ap (λ (b : Bool). if b then stays board (answer.Submit (submitted.Twice a)) else record { answer = answer.Submit submitted.Stored; board = stored o board a }) e))))
      by3 false late ahead e =
          record {
            late = late;
            ahead = ahead;
            free = e;
            is = ap (λ (x : BoardStep). x.board)
                (submit_near o board a late ahead ∙ ap (λ (b : Bool). if b then stays board (answer.Submit (submitted.Twice a)) else record { answer = answer.Submit submitted.Stored; board = stored o board a }) e);
          }

      by2 : (b : Bool) → is_late board a ≡ false → is_ahead o board a ≡ b → Taken
      by2 true late e = absurd (true≢false (sym (so (stays board (answer.Submit (submitted.Ahead a))) (submit_ahead o board a late e))))
      by2 false late e = by3 (stands board a.cycle a.rule) late e refl

      by1 : (b : Bool) → is_late board a ≡ b → Taken
      by1 true e = absurd (true≢false (sym (so (stays board (answer.Submit (submitted.Late a))) (submit_late o board a e))))
      by1 false e = by2 (is_ahead o board a) e refl

  -- the nodes of its rule aren't open any more
  pub stored_count : is_late board a ≡ false → stands board a.cycle a.rule ≡ false → (nodes : List Node) → count_at (stored o board a) a.cycle nodes + weight nodes a.rule ≡ count_at board a.cycle nodes
  stored_count late free = taken_count (λ (n : Node). open_at board a.cycle n.rule) (λ (n : Node). open_at (stored o board a) a.cycle n.rule) a.rule one
    where
      held : Bool → Bool → ℕ → Bool
      held x y r = is_some (if x && y then Some (at_design o.design a) else board.slots a.cycle r)

      unsettled : ℕ → Bool
      unsettled r = not ((a.cycle == board.cycle) && is_among board.settled r)

      one : (n : Node) → cond (open_at (stored o board a) a.cycle n.rule) 1 0 + cond (n.rule == a.rule) 1 0 ≡ cond (open_at board a.cycle n.rule) 1 0
      one n = by (n.rule == a.rule) refl
        where
          here : (b : Bool) → (n.rule == a.rule) ≡ b → cond (open_at (stored o board a) a.cycle n.rule) 1 0 + cond (n.rule == a.rule) 1 0 ≡ cond (unsettled n.rule && not (held true b n.rule)) 1 0 + cond b 1 0
          here b e = ap₂ (λ (x y : Bool). cond (unsettled n.rule && not (held x y n.rule)) 1 0 + cond y 1 0) (eq-eqb a.cycle a.cycle refl) e

          by : (b : Bool) → (n.rule == a.rule) ≡ b → cond (open_at (stored o board a) a.cycle n.rule) 1 0 + cond (n.rule == a.rule) 1 0 ≡ cond (open_at board a.cycle n.rule) 1 0
          by true e =
              let rule = eqb-true n.rule a.rule e in
              let new : unsettled n.rule ≡ true = ap unsettled rule ∙ ap not (neither (nat_lt a.cycle board.cycle) ((a.cycle == board.cycle) && is_among board.settled a.rule) late).1 in
              let none : stands board a.cycle n.rule ≡ false = ap (stands board a.cycle) rule ∙ free in
              here true e ∙ ap (λ (s : Bool). cond (s && not (held true true n.rule)) 1 0 + cond true 1 0) new ∙ sym (ap₂ (λ (s t : Bool). cond (s && not t) 1 0) new none)
          by false e = here false e ∙ omega arith

  -- in other cycles nothing is changed
  stored_other : (cycle : ℕ) → (cycle ≡ a.cycle → ⊥) → (nodes : List Node) → count_at (stored o board a) cycle nodes ≡ count_at board cycle nodes
  stored_other cycle ne =
      same_count (λ (n : Node). open_at (stored o board a) cycle n.rule) (λ (n : Node). open_at board cycle n.rule)
      (λ n. ap (λ (b : Bool). open_if (cycle == board.cycle) (is_among board.settled n.rule) (is_some (if b && (n.rule == a.rule) then Some (at_design o.design a) else board.slots cycle n.rule))) (ne_eqb cycle a.cycle ne))

-- a core before and after it stored an attempt
pub record TakenAt (kept new : Kept) (board : Board) (a : Attempted) : Type 0 where
  pub after : StandsFor new (stored kept.opening board a)
  pub late : is_late board a ≡ false
  pub free : stands board a.cycle a.rule ≡ false
  pub from : kept.cycle ≤ a.cycle
  pub within : a.cycle < kept.cycle + kept.opening.window

pub taken_at : (kept new : Kept) (board : Board) (a : Attempted) (told : Submitted) → StandsFor kept board → is_stored told ≡ true → answer.Submit told ≡ (submit kept.opening board a).answer → StandsFor new (submit kept.opening board a).board → TakenAt kept new board a
taken_at kept new board a told st is h st' =
    let o = kept.opening in
    let t = is_taken o board a told is h in
    let late = neither (nat_lt a.cycle board.cycle) ((a.cycle == board.cycle) && is_among board.settled a.rule) t.late in
    let ahead = neither (nat_le (board.cycle + o.window) a.cycle) (nat_lt o.to a.cycle) t.ahead in
    let from : board.cycle ≤ a.cycle = ltb-false a.cycle board.cycle late.0 in
    let within : a.cycle < board.cycle + o.window = leb-false (board.cycle + o.window) a.cycle ahead.0 in
    record { after = subst (StandsFor new) t.is st'; late = t.late; free = t.free; from = omega (arith, from, st.cycle); within = omega (arith, within, st.cycle) }

-- the counts of a core at another board
module _ (kept new : Kept) (same : new.opening ≡ kept.opening) (p : IsOpening kept.opening) where
  pub new_count : (board' : Board) → StandsFor new board' → (cycle : ℕ) → count_open new cycle ≡ count_at board' cycle kept.opening.design.nodes
  new_count board' st' cycle = count_same new board' (subst IsOpening (sym same) p) st' cycle ∙ ap (λ (o : Opening). count_at board' cycle o.design.nodes) same

  -- one count is another, and the rest stays
  pub counts_set : (board board' : Board) (counts : List ℕ) → StandsFor kept board → StandsFor new board' → board'.cycle ≡ board.cycle → HasCounts kept counts → (k n : ℕ) → k < kept.opening.window
      → n ≡ count_at board' (kept.cycle + k) kept.opening.design.nodes
      → ((c : ℕ) → (c ≡ kept.cycle + k → ⊥) → count_at board' c kept.opening.design.nodes ≡ count_at board c kept.opening.design.nodes) → HasCounts new (slice_set counts k n)
  counts_set board board' counts st st' goes_on has k n within is other =
      record {
        count = length-set counts k n ∙ has.count ∙ sym (ap (λ (o : Opening). o.window) same);
        each = λ ahead inside. by ahead (subst (λ (o : Opening). ahead < o.window) same inside) (cases_eq ahead k);
      }
    where
      moved : (ahead : ℕ) → new.cycle + ahead ≡ kept.cycle + ahead
      moved ahead = ap (λ (c : ℕ). c + ahead) (st'.cycle ∙ goes_on ∙ sym st.cycle)

      by : (ahead : ℕ) → ahead < kept.opening.window → (ahead ≡ k) ⊎ (ahead ≡ k → ⊥) → slice_index_or (slice_set counts k n) ahead 0 ≡ count_open new (new.cycle + ahead)
      by ahead inside (inl e) =
          ap (λ (m : ℕ). slice_index_or (slice_set counts k n) m 0) e ∙ get_or-set_same counts k n 0 (omega (arith, within, has.count)) ∙ is
          ∙ sym (new_count board' st' (kept.cycle + k)) ∙ sym (ap (count_open new) (moved ahead ∙ ap (λ (m : ℕ). kept.cycle + m) e))
      by ahead inside (inr ne) =
          let apart : kept.cycle + ahead ≡ kept.cycle + k → ⊥ = λ g. ne (let h : ahead ≡ k = omega (arith, g) in h) in
          get_or-set_other counts k ahead n 0 ne ∙ has.each ahead inside ∙ count_same kept board p st (kept.cycle + ahead)
          ∙ sym (other (kept.cycle + ahead) apart) ∙ sym (new_count board' st' (kept.cycle + ahead)) ∙ sym (ap (count_open new) (moved ahead))

-- an attempt was stored
module _ (kept new : Kept) (same : new.opening ≡ kept.opening) (p : IsOpening kept.opening) (board : Board) (a : Attempted) (st : StandsFor kept board) (t : TakenAt kept new board a) (counts : List ℕ) (has : HasCounts kept counts) (w k : ℕ) (is : w ≡ weight kept.opening.design.nodes a.rule) (e : k ≡ a.cycle - kept.cycle) where
  at_cycle : kept.cycle + k ≡ a.cycle
  at_cycle = omega (arith, t.from, e)

  inside : k < kept.opening.window
  inside = omega (arith, e, t.from, t.within)

  before : slice_index_or counts k 0 ≡ count_at board a.cycle kept.opening.design.nodes
  before = has.each k inside ∙ ap (count_open kept) at_cycle ∙ count_same kept board p st a.cycle

  less : count_at (stored kept.opening board a) a.cycle kept.opening.design.nodes + w ≡ slice_index_or counts k 0
  less = omega (arith, before, is, stored_count kept.opening board a t.late t.free kept.opening.design.nodes)

  -- there are as many to take
  pub enough : w ≤ slice_index_or counts k 0
  enough = omega (arith, less)

  pub counts_taken : HasCounts new (slice_set counts k (slice_index_or counts k 0 - w))
  counts_taken =
      let nodes = kept.opening.design.nodes in
      counts_set kept new same p board (stored kept.opening board a) counts st t.after refl has k (slice_index_or counts k 0 - w) inside
      (omega (arith, less, ap (λ (c : ℕ). count_at (stored kept.opening board a) c nodes) at_cycle))
      (λ c ne. stored_other kept.opening board a c (λ f. ne (f ∙ sym at_cycle)) nodes)

-- ---- beginning

pub begun_counts : (kept : Kept) (o : Opening) → kept.opening ≡ o → IsOpening kept.opening → StandsFor kept (opened kept.opening) → (counts : List ℕ) → counts ≡ replicate o.window (length o.design.nodes) → HasCounts kept counts
begun_counts kept o same p st counts is =
    let window = ap (λ (x : Opening). x.window) same in
    record {
      count = ap length is ∙ length-replicate o.window (length o.design.nodes) ∙ sym window;
      each = λ ahead within.
          let board = opened kept.opening in
          let cycle = kept.cycle + ahead in
          ap (λ (xs : List ℕ). slice_index_or xs ahead 0) is ∙ get_or-replicate o.window ahead (length o.design.nodes) 0 (omega (arith, within, window))
          ∙ sym (ap (λ (x : Opening). length x.design.nodes) same)
          ∙ sym (all_count (λ (n : Node). open_at board cycle n.rule) (λ n. open_fresh (cycle == board.cycle) false) kept.opening.design.nodes)
          ∙ sym (count_same kept board p st cycle);
    }

-- ---- settling

module _ (o : Opening) (board : Board) where
  abbrev all : List Node
  all = o.design.nodes

  -- the same nodes are open
  pub record Keeps (new : Board) : Type 0 where
    pub cycle : new.cycle ≡ board.cycle
    pub each : (c : ℕ) → count_at new c all ≡ count_at board c all

  -- the nodes of the rule are open again in the current cycle
  pub record Gives (rule : ℕ) (new : Board) : Type 0 where
    pub cycle : new.cycle ≡ board.cycle
    pub within : rule < length o.design.rules
    pub here : count_at new board.cycle all ≡ count_at board board.cycle all + weight all rule
    pub other : (c : ℕ) → (c ≡ board.cycle → ⊥) → count_at new c all ≡ count_at board c all

  -- what a settle does, by its answer
  abbrev Goes : BoardAnswer → Board → Type 0
  Goes (answer.Settle (settled.CycleClosed c)) new = new ≡ closed o board
  Goes (answer.Settle (settled.Stale c rule read)) new = Gives rule new
  Goes (answer.Settle (settled.Committed c rule)) new = Keeps new
  Goes (answer.Settle (settled.Skipped c rule cause)) new = Keeps new
  Goes (answer.Settle (settled.Waiting c rule)) new = Keeps new
  Goes (answer.Settle settled.Finished) new = Keeps new
  Goes (answer.Submit s) new = Unit {0}

  nothing : Keeps board
  nothing = record { cycle = refl; each = λ c. refl }

  -- the attempt at the rule of the head is taken away
  module _ (rule : ℕ) (within : rule < length o.design.rules) (some : stands board board.cycle rule ≡ true) (new : is_among board.settled rule ≡ false) where
    abbrev held : ℕ → Bool → ℕ → Bool
    held c b r = is_some (if b then None else board.slots c r)

    -- in another cycle
    apart : (done : Bool) (c r : ℕ) → (c ≡ board.cycle → ⊥) → open_if (c == board.cycle) done (held c ((c == board.cycle) && (r == rule)) r) ≡ open_at board c r
    apart done c r ne =
        ap (λ (b : Bool). open_if b done (held c (b && (r == rule)) r)) (ne_eqb c board.cycle ne)
        ∙ sym (ap (λ (b : Bool). open_if b (is_among board.settled r) (stands board c r)) (ne_eqb c board.cycle ne))

    -- at another rule
    beside : (r : ℕ) → (r == rule) ≡ false → held board.cycle ((board.cycle == board.cycle) && (r == rule)) r ≡ stands board board.cycle r
    beside r e = ap₂ (λ (b d : Bool). held board.cycle (b && d) r) (eq-eqb board.cycle board.cycle refl) e

    -- before, the rule wasn't open
    closed_before : (r : ℕ) → r ≡ rule → open_at board board.cycle r ≡ false
    closed_before r e =
        open_alike (board.cycle == board.cycle) true (is_among board.settled r) false (stands board board.cycle r) true
        (eq-eqb board.cycle board.cycle refl) (ap (is_among board.settled) e ∙ new) (ap (stands board board.cycle) e ∙ some)

    dropped_gives : Gives rule (dropped board rule)
    dropped_gives =
        record {
          cycle = refl;
          within = within;
          here = sym (taken_count (λ (n : Node). open_at (dropped board rule) board.cycle n.rule) (λ (n : Node). open_at board board.cycle n.rule) rule (λ n. by n (n.rule == rule) refl) all);
          other = λ c ne. same_count (λ (n : Node). open_at (dropped board rule) c n.rule) (λ (n : Node). open_at board c n.rule) (λ n. apart (is_among board.settled n.rule) c n.rule ne) all;
        }
      where
        by : (n : Node) (b : Bool) → (n.rule == rule) ≡ b → cond (open_at board board.cycle n.rule) 1 0 + cond (n.rule == rule) 1 0 ≡ cond (open_at (dropped board rule) board.cycle n.rule) 1 0
        by n true e =
            let r = eqb-true n.rule rule e in
            ap₂ (λ (x y : Bool). cond x 1 0 + cond y 1 0) (closed_before n.rule r) e
            ∙ sym (ap (λ (b : Bool). cond b 1 0) (open_alike (board.cycle == board.cycle) true (is_among board.settled n.rule) false (stands (dropped board rule) board.cycle n.rule) false
            (eq-eqb board.cycle board.cycle refl) (ap (is_among board.settled) r ∙ new) (ap₂ (λ (b d : Bool). held board.cycle (b && d) n.rule) (eq-eqb board.cycle board.cycle refl) e)))
        by n false e =
            let same = ap {B = ℕ} (λ (h : Bool). cond (open_if (board.cycle == board.cycle) (is_among board.settled n.rule) h) 1 0) (beside n.rule e) in
            let off = ap {B = ℕ} (λ (b : Bool). cond b 1 0) e in
            omega (arith, same, off)

    settled_keeps : (walk : _) → Keeps (settled_by board rule walk)
    settled_keeps walk = record { cycle = refl; each = λ c. same_count (λ (n : Node). open_at (settled_by board rule walk) c n.rule) (λ (n : Node). open_at board c n.rule) (λ n. by c n.rule (cases_eq c board.cycle)) all }
      where
        done : ℕ → Bool
        done r = is_among (board.settled ++ rule ∷ []) r

        here : (r : ℕ) (b : Bool) → (r == rule) ≡ b → open_at (settled_by board rule walk) board.cycle r ≡ open_at board board.cycle r
        here r true e =
            let same = eqb-true r rule e in
            let is : done r ≡ true = one_more board.settled rule r ∙ or_right (is_among board.settled r) ((rule == r) || false) (or_left (rule == r) false (eq-eqb rule r (sym same))) in
            ap₂ (λ (b d : Bool). open_if b d (stands (settled_by board rule walk) board.cycle r)) (eq-eqb board.cycle board.cycle refl) is ∙ sym (closed_before r same)
        here r false e =
            let other : rule ≡ r → ⊥ = λ f. eqb-false r rule e (sym f) in
            let is : done r ≡ is_among board.settled r = one_more board.settled rule r ∙ ap (λ (b : Bool). is_among board.settled r || (b || false)) (ne_eqb rule r other) ∙ or_no (is_among board.settled r) in
            ap₂ (λ (d h : Bool). open_if (board.cycle == board.cycle) d h) is (beside r e)

        by : (c r : ℕ) → (c ≡ board.cycle) ⊎ (c ≡ board.cycle → ⊥) → open_at (settled_by board rule walk) c r ≡ open_at board c r
        by c r (inl e) = subst (λ (k : ℕ). open_at (settled_by board rule walk) k r ≡ open_at board k r) (sym e) (here r (r == rule) refl)
        by c r (inr ne) = apart (done r) c r ne

    of_verdict : (node : Node) → node.rule ≡ rule → (a : Attempted) (v : Verdict) → Goes (judged board node a v).answer (judged board node a v).board
    of_verdict node e a Commit = subst (λ (r : ℕ). Keeps (settled_by board r (record { state = join board.walk.state r a.run.events; at = node.yes }))) (sym e) (settled_keeps (record { state = join board.walk.state rule a.run.events; at = node.yes }))
    of_verdict node e a (Skip cause) = subst (λ (r : ℕ). Keeps (settled_by board r (record { state = board.walk.state; at = node.no }))) (sym e) (settled_keeps (record { state = board.walk.state; at = node.no }))
    of_verdict node e a (Stale read) = subst (λ (r : ℕ). Gives r (dropped board r)) (sym e) dropped_gives

  module _ (p : IsOpening o) (plain : IsPlain o board) where
    of_slot : (node : Node) → head o board ≡ Some node → (held : Option Attempted) → board.slots board.cycle node.rule ≡ held → Goes (settle_with board node held).answer (settle_with board node held).board
    of_slot node here None is = nothing
    of_slot node here (Some a) is =
        let some : stands board board.cycle node.rule ≡ true = ap is_some is in
        let (to, at, found) = at_node o.design.nodes board.walk.at node here in
        let fresh = neither (nat_lt board.cycle board.cycle) ((board.cycle == board.cycle) && is_among board.settled node.rule) (plain.stand board.cycle node.rule some).unsettled in
        of_verdict node.rule (rules_within o p to node found) some (sym (ap (λ (b : Bool). b && is_among board.settled node.rule) (eq-eqb board.cycle board.cycle refl)) ∙ fresh.1)
        node refl a (verdict board.walk.state.regs board.walk.state.past a.run)

    of_head : (node : Option Node) → head o board ≡ node → Goes (settle_at o board node).answer (settle_at o board node).board
    of_head None here = refl
    of_head (Some node) here = of_slot node here (board.slots board.cycle node.rule) refl

    goes : (b : Bool) → let s = if b then stays board (answer.Settle settled.Finished) else settle_at o board (head o board) in Goes s.answer s.board
    goes true = nothing
    goes false = of_head (head o board) refl

    goes_so : (told : Settled) → answer.Settle told ≡ (settle o board).answer → Goes (answer.Settle told) (settle o board).board
    goes_so told h = subst (λ (s : BoardAnswer). Goes s (settle o board).board) (sym h) (goes (nat_lt o.to board.cycle))

    pub on_closing : (told : Settled) → answer.Settle told ≡ (settle o board).answer → is_closing told ≡ true → (settle o board).board ≡ closed o board
    on_closing told h is = by told is (goes_so told h)
      where
        by : (s : Settled) → is_closing s ≡ true → Goes (answer.Settle s) (settle o board).board → (settle o board).board ≡ closed o board
        by (settled.CycleClosed c) e g = g
        by (settled.Committed c rule) e g = absurd (true≢false (sym e))
        by (settled.Skipped c rule cause) e g = absurd (true≢false (sym e))
        by (settled.Stale c rule read) e g = absurd (true≢false (sym e))
        by (settled.Waiting c rule) e g = absurd (true≢false (sym e))
        by settled.Finished e g = absurd (true≢false (sym e))

    pub on_stale : (told : Settled) → answer.Settle told ≡ (settle o board).answer → (rule : ℕ) → stale_rule told ≡ Some rule → Gives rule (settle o board).board
    on_stale told h rule is = by told is (goes_so told h)
      where
        by : (s : Settled) → stale_rule s ≡ Some rule → Goes (answer.Settle s) (settle o board).board → Gives rule (settle o board).board
        by (settled.Stale c r read) e g = let same : r ≡ rule = cc in subst (λ (n : ℕ). Gives n (settle o board).board) same g
        by (settled.CycleClosed c) e g = absurd cc
        by (settled.Committed c r) e g = absurd cc
        by (settled.Skipped c r cause) e g = absurd cc
        by (settled.Waiting c r) e g = absurd cc
        by settled.Finished e g = absurd cc

    pub on_other : (told : Settled) → answer.Settle told ≡ (settle o board).answer → is_closing told ≡ false → stale_rule told ≡ None → Keeps (settle o board).board
    on_other told h not_closed not_stale = by told not_closed not_stale (goes_so told h)
      where
        by : (s : Settled) → is_closing s ≡ false → stale_rule s ≡ None → Goes (answer.Settle s) (settle o board).board → Keeps (settle o board).board
        by (settled.CycleClosed c) e f g = absurd (true≢false e)
        by (settled.Stale c rule read) e f g = absurd cc
        by (settled.Committed c rule) e f g = g
        by (settled.Skipped c rule cause) e f g = g
        by (settled.Waiting c rule) e f g = g
        by settled.Finished e f g = g

  -- the cycle after the window is empty
  pub none_beyond : IsPlain o board → (rule : ℕ) → stands board (board.cycle + o.window) rule ≡ false
  none_beyond plain rule = by (stands board (board.cycle + o.window) rule) refl
    where
      by : (b : Bool) → stands board (board.cycle + o.window) rule ≡ b → b ≡ false
      by false e = refl
      by true e =
          let outside = neither (nat_le (board.cycle + o.window) (board.cycle + o.window)) (nat_lt o.to (board.cycle + o.window)) (plain.stand (board.cycle + o.window) rule e).in_window in
          absurd (true≢false (sym (le-leb (board.cycle + o.window) (board.cycle + o.window) (omega arith)) ∙ outside.0))

  -- in a later cycle the same rules are open after the cycle is closed
  closed_other : (c : ℕ) → (c ≡ board.cycle → ⊥) → (nodes : List Node) → count_at (closed o board) c nodes ≡ count_at board c nodes
  closed_other c ne =
      same_count (λ (n : Node). open_at (closed o board) c n.rule) (λ (n : Node). open_at board c n.rule)
      (λ n. open_fresh (c == board.cycle + 1) (stands (closed o board) c n.rule)
      ∙ ap (λ (b : Bool). not (is_some (if b then None else board.slots c n.rule))) (ne_eqb c board.cycle ne)
      ∙ sym (ap (λ (b : Bool). open_if b (is_among board.settled n.rule) (stands board c n.rule)) (ne_eqb c board.cycle ne)))

-- the cycle goes on
module _ (kept new : Kept) (same : new.opening ≡ kept.opening) (p : IsOpening kept.opening) (board board' : Board) (st : StandsFor kept board) (st' : StandsFor new board') (counts : List ℕ) (has : HasCounts kept counts) where
  pub counts_on : Keeps kept.opening board board' → HasCounts new counts
  counts_on k =
      record {
        count = has.count ∙ sym (ap (λ (o : Opening). o.window) same);
        each = λ ahead within.
            let cycle : new.cycle + ahead ≡ kept.cycle + ahead = ap (λ (c : ℕ). c + ahead) (st'.cycle ∙ k.cycle ∙ sym st.cycle) in
            has.each ahead (subst (λ (o : Opening). ahead < o.window) same within) ∙ count_same kept board p st (kept.cycle + ahead)
            ∙ sym (k.each (kept.cycle + ahead)) ∙ sym (new_count kept new same p board' st' (kept.cycle + ahead)) ∙ sym (ap (count_open new) cycle);
      }

  -- the count of the current cycle with the nodes of a rule
  module _ (some : 1 ≤ kept.opening.window) (rule : ℕ) (g : Gives kept.opening board rule board') (w : ℕ) (is : w ≡ weight kept.opening.design.nodes rule) where
    current : slice_index_or counts 0 0 ≡ count_at board board.cycle kept.opening.design.nodes
    current = let at : kept.cycle + 0 ≡ board.cycle = omega (arith, st.cycle) in has.each 0 (omega (arith, some)) ∙ ap (count_open kept) at ∙ count_same kept board p st board.cycle

    given : slice_index_or counts 0 0 + w ≡ count_at board' board.cycle kept.opening.design.nodes
    given = omega (arith, current, is, g.here)

    -- there are at most all nodes
    pub room : slice_index_or counts 0 0 + w ≤ length kept.opening.design.nodes
    room = omega (arith, given, count_by-le-length (λ (n : Node). open_at board' board.cycle n.rule) kept.opening.design.nodes)

    pub counts_given : HasCounts new (slice_set counts 0 (slice_index_or counts 0 0 + w))
    counts_given =
        let at : kept.cycle + 0 ≡ board.cycle = omega (arith, st.cycle) in
        counts_set kept new same p board board' counts st st' g.cycle has 0 (slice_index_or counts 0 0 + w) (omega (arith, some))
        (given ∙ ap (λ (c : ℕ). count_at board' c kept.opening.design.nodes) (sym at))
        (λ c ne. g.other c (λ f. ne (f ∙ sym at)))

-- the counts move up by one
abbrev pub moved_on : List ℕ → ℕ → ℕ → List ℕ
moved_on counts last nodes = slice_set (drop 1 counts ++ take 1 counts) last nodes

pub counts_closed : (kept new : Kept) (board : Board) → new.opening ≡ kept.opening → IsOpening kept.opening → 1 ≤ kept.opening.window → IsPlain kept.opening board → StandsFor kept board → StandsFor new (closed kept.opening board)
    → (counts : List ℕ) → HasCounts kept counts → (last nodes : ℕ) → last ≡ kept.opening.window - 1 → nodes ≡ length kept.opening.design.nodes → HasCounts new (moved_on counts last nodes)
counts_closed kept new board same p some plain st after counts has last nodes e f = of counts refl
  where
    all : List Node
    all = kept.opening.design.nodes

    window : ℕ
    window = kept.opening.window

    known : (c : ℕ) → (c ≡ board.cycle → ⊥) → count_open new c ≡ count_at board c all
    known c ne = new_count kept new same p (closed kept.opening board) after c ∙ closed_other kept.opening board c ne all

    free : (rule : ℕ) → open_at board (board.cycle + window) rule ≡ true
    free rule =
        ap₂ (λ (b h : Bool). open_if b (is_among board.settled rule) h) (ne_eqb (board.cycle + window) board.cycle (λ g'. absurd (omega (arith, g', some)))) (none_beyond kept.opening board plain rule)

    of : (list : List ℕ) → counts ≡ list → HasCounts new (moved_on counts last nodes)
    of [] g = absurd (omega (arith, ap length g, has.count, some))
    of (first ∷ rest) g = subst (λ (xs : List ℕ). HasCounts new (moved_on xs last nodes)) (sym g) now
      where
        long : suc (length rest) ≡ window
        long = sym (ap length g) ∙ has.count

        list : List ℕ
        list = rest ++ first ∷ []

        total : length list ≡ window
        total = length-append rest (first ∷ []) ∙ omega (arith, long)

        next : (ahead : ℕ) → new.cycle + ahead ≡ board.cycle + (ahead + 1)
        next ahead = ap (λ (c : ℕ). c + ahead) after.cycle ∙ omega arith

        later : (ahead : ℕ) → board.cycle + (ahead + 1) ≡ board.cycle → ⊥
        later ahead g' = absurd (omega (arith, g'))

        by : (ahead : ℕ) → ahead < window → (ahead ≡ last) ⊎ (ahead ≡ last → ⊥) → slice_index_or (slice_set list last nodes) ahead 0 ≡ count_open new (new.cycle + ahead)
        by ahead within (inl i) =
            let beyond : board.cycle + (ahead + 1) ≡ board.cycle + window = omega (arith, i, e, some) in
            ap (λ (n : ℕ). slice_index_or (slice_set list last nodes) n 0) i ∙ get_or-set_same list last nodes 0 (omega (arith, total, e, some)) ∙ f
            ∙ sym (all_count (λ (n : Node). open_at board (board.cycle + window) n.rule) (λ n. free n.rule) all)
            ∙ sym (ap (count_open new) (next ahead ∙ beyond) ∙ known (board.cycle + window) (λ g'. absurd (omega (arith, g', some))))
        by ahead within (inr ne) =
            let inside : ahead < length rest = omega (arith, ne_less ahead within ne, long) in
            get_or-set_other list last ahead nodes 0 ne ∙ get_or_append_left rest (first ∷ []) 0 ahead inside
            ∙ sym (ap (λ (xs : List ℕ). slice_index_or xs (suc ahead) 0) g)
            ∙ has.each (suc ahead) (omega (arith, inside, long)) ∙ count_same kept board p st (kept.cycle + suc ahead)
            ∙ ap (λ (c : ℕ). count_at board c all) (ap (λ (c : ℕ). c + suc ahead) st.cycle ∙ omega arith)
            ∙ sym (ap (count_open new) (next ahead) ∙ known (board.cycle + (ahead + 1)) (later ahead))
          where
            ne_less : (n : ℕ) → n < window → (n ≡ last → ⊥) → n < last
            ne_less n l d = by' (cases_lt n last)
              where
                by' : (n < last) ⊎ (last ≤ n) → n < last
                by' (inl k) = k
                by' (inr k) = absurd (d (let same' : n ≡ last = omega (arith, k, l, e) in same'))

        now : HasCounts new (moved_on (first ∷ rest) last nodes)
        now =
            record {
              count = length-set list last nodes ∙ total ∙ sym (ap (λ (o : Opening). o.window) same);
              each = λ ahead within. by ahead (subst (λ (o : Opening). ahead < o.window) same within) (cases_eq ahead last);
            }
