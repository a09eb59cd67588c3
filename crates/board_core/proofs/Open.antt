-- Attempts stand only inside the window, up to the last cycle, and for rules that aren't settled: each step keeps it.
use Rattle.std.proofs.Common.{◌≡◌, ℕ, ◌+◌, ◌≤◌, Bool, true, false, [], ◌∷◌, ◌++◌, Some, None, refl, sym, ap, ap₂, ◌∙◌, eqb-true, arith, true≢false, is_some}
use Rattle.std.specs.Prelude.{◌==◌, ◌&&◌, ◌||◌, nat_le, nat_lt, if◌then◌else◌}
use Rattle.std.proofs.lemmas.Bool.{and_parts, eqb-false, le-ltb, leb-false, lt-leb, ltb-false, ltb-true}
use Rattle.one_rule.specs.Cycle.{is_among}
use Rattle.attempt_log.specs.Attempt.{Attempted}
use Rattle.attempt_log.specs.Setting.{at_design}
use Rattle.board_core.specs.Board.{Board, Opening, closed, dropped, is_ahead, is_beyond, is_late, is_past, stands, stored}
use Rattle.board_core.specs.Position.{IsOpen}
use Rattle.board_core.proofs.Flags.{one_more}

pub neither : (x y : Bool) → (x || y) ≡ false → (x ≡ false) × (y ≡ false)
neither true y h = absurd (true≢false h)
neither false y h = (refl, h)

both_false : (x y : Bool) → x ≡ false → y ≡ false → (x || y) ≡ false
both_false x y e f = ap₂ (λ (a b : Bool). a || b) e f

and_none : (x : Bool) → (x && false) ≡ false
and_none true = refl
and_none false = refl

-- no attempt stands
abbrev pub AllOpen : Opening → Board → Type 0
AllOpen o board = (cycle rule : ℕ) → stands board cycle rule ≡ true → IsOpen o board cycle rule

module _ (o : Opening) (board : Board) (all : AllOpen o board) where
  -- an attempt is put
  pub stored_open : (a : Attempted) → is_late board a ≡ false → is_ahead o board a ≡ false → AllOpen o (stored o board a)
  stored_open a late ahead c r h = chosen ((c == a.cycle) && (r == a.rule)) refl h
    where
      chosen : (b : Bool) → ((c == a.cycle) && (r == a.rule)) ≡ b → is_some (if b then Some (at_design o.design a) else board.slots c r) ≡ true → IsOpen o (stored o board a) c r
      chosen true e h =
          let same = and_parts (c == a.cycle) (r == a.rule) e in
          let cycle = eqb-true c a.cycle same.0 in
          record {
            unsettled = ap₂ (is_past board) cycle (eqb-true r a.rule same.1) ∙ late;
            in_window = ap (is_beyond o board) cycle ∙ ahead;
          }
      chosen false e h = let i = all c r h in record { unsettled = i.unsettled; in_window = i.in_window }

  -- one is taken away
  pub dropped_open : (rule : ℕ) → AllOpen o (dropped board rule)
  dropped_open rule c r h = chosen ((c == board.cycle) && (r == rule)) h
    where
      chosen : (b : Bool) → is_some (if b then None else board.slots c r) ≡ true → IsOpen o (dropped board rule) c r
      chosen true h = absurd (true≢false (sym h))
      chosen false h = let i = all c r h in record { unsettled = i.unsettled; in_window = i.in_window }

  -- a rule is settled, and its attempt is taken away
  pub settled_open : (rule : ℕ) (walk : _) → AllOpen o (record { cycle = board.cycle; walk = walk; settled = board.settled ++ rule ∷ []; rows = board.rows; slots = (dropped board rule).slots })
  settled_open rule walk c r h = chosen (c == board.cycle) (r == rule) refl refl h
    where
      new : Board
      new = record { cycle = board.cycle; walk = walk; settled = board.settled ++ rule ∷ []; rows = board.rows; slots = (dropped board rule).slots }

      -- another rule, or one of another cycle
      other : (here this : Bool) → (c == board.cycle) ≡ here → (here ≡ true → this ≡ false) → (r == rule) ≡ this → IsOpen o board c r → ((c == board.cycle) && is_among (board.settled ++ rule ∷ []) r) ≡ false
      other true this e not_this f i =
          ap (λ (b : Bool). b && is_among (board.settled ++ rule ∷ []) r) e
          ∙ one_more board.settled rule r
          ∙ both_false (is_among board.settled r) ((rule == r) || false)
          (sym (ap (λ (b : Bool). b && is_among board.settled r) e) ∙ (neither (nat_lt c board.cycle) ((c == board.cycle) && is_among board.settled r) i.unsettled).1)
          (ap (λ (b : Bool). b || false) (other_number (f ∙ not_this refl)))
        where
          other_number : (r == rule) ≡ false → (rule == r) ≡ false
          other_number d = by (rule == r) refl
            where
              by : (b : Bool) → (rule == r) ≡ b → b ≡ false
              by true g = absurd (eqb-false r rule d (sym (eqb-true rule r g)))
              by false g = refl
      other false this e not_this f i = ap (λ (b : Bool). b && is_among (board.settled ++ rule ∷ []) r) e

      found : (here this : Bool) → (c == board.cycle) ≡ here → (here ≡ true → this ≡ false) → (r == rule) ≡ this → IsOpen o board c r → IsOpen o new c r
      found here this e not_this f i =
          let before = neither (nat_lt c board.cycle) ((c == board.cycle) && is_among board.settled r) i.unsettled in
          record {
            unsettled = both_false (nat_lt c board.cycle) ((c == board.cycle) && is_among (board.settled ++ rule ∷ []) r) before.0 (other here this e not_this f i);
            in_window = i.in_window;
          }

      chosen : (here this : Bool) → (c == board.cycle) ≡ here → (r == rule) ≡ this → is_some (if (c == board.cycle) && (r == rule) then None else board.slots c r) ≡ true → IsOpen o new c r
      chosen true true e f h = absurd (true≢false (sym (sym (ap₂ (λ (a b : Bool). is_some (if a && b then None else board.slots c r)) e f) ∙ h)))
      chosen true false e f h = found true false e (λ _. refl) f (all c r (sym (ap₂ (λ (a b : Bool). is_some (if a && b then None else board.slots c r)) e f) ∙ h))
      chosen false this e f h = found false this e (λ t. absurd (true≢false (sym t))) f (all c r (sym (ap (λ (a : Bool). is_some (if a && (r == rule) then None else board.slots c r)) e) ∙ h))

  -- the cycle is closed
  pub closed_open : AllOpen o (closed o board)
  closed_open c r h = chosen (c == board.cycle) refl h
    where
      chosen : (b : Bool) → (c == board.cycle) ≡ b → is_some (if b then None else board.slots c r) ≡ true → IsOpen o (closed o board) c r
      chosen true e h = absurd (true≢false (sym h))
      chosen false e h =
          let i = all c r h in
          let late = neither (nat_lt c board.cycle) ((c == board.cycle) && is_among board.settled r) i.unsettled in
          let ahead = neither (nat_le (board.cycle + o.window) c) (nat_lt o.to c) i.in_window in
          let from = ltb-false c board.cycle late.0 in
          let inside = leb-false (board.cycle + o.window) c ahead.0 in
          let past : board.cycle + 1 ≤ c = later (λ same. eqb-false c board.cycle e same) from in
          record {
            unsettled = both_false (nat_lt c (board.cycle + 1)) ((c == board.cycle + 1) && false) (le-ltb c (board.cycle + 1) past) (and_none (c == board.cycle + 1));
            in_window = both_false (nat_le (board.cycle + 1 + o.window) c) (nat_lt o.to c) (lt-leb (board.cycle + 1 + o.window) c (omega (arith, inside))) ahead.1;
          }
        where
          later : (c ≡ board.cycle → ⊥) → board.cycle ≤ c → board.cycle + 1 ≤ c
          later ne from = by (nat_lt board.cycle c) refl
            where
              by : (b : Bool) → nat_lt board.cycle c ≡ b → board.cycle + 1 ≤ c
              by true g = omega (arith, ltb-true board.cycle c g)
              by false g = let less = ltb-false board.cycle c g in let same : c ≡ board.cycle = omega (arith, less, from) in absurd (ne same)
