-- Slots by lists: what one holds after another is put or emptied, and after a cycle is closed.
use Rattle.std.proofs.Common.{◌≡◌, ◌⊎◌, inl, inr, ℕ, zero, suc, ◌+◌, ◌-◌, ◌<◌, ◌≤◌, Bool, List, [], ◌∷◌, ◌++◌, length, replicate, take, drop, Option, None, All, refl, sym, ap, ◌∙◌, eq-eqb, arith}
use Rattle.std.specs.Prelude.{◌==◌, ◌&&◌, slice_index_or, slice_set, if◌then◌else◌}
use Rattle.std.proofs.lemmas.Bool.{cases_eq, cases_lt, le-ltb, lt-ltb, ne_eqb}
use Rattle.std.proofs.lemmas.List.{get_or-set_other, get_or-set_same}
use Rattle.std.proofs.lemmas.List.Elements.{All-push, All-tail}
use Rattle.attempt_log.specs.Attempt.{Attempted}
use Rattle.board_core.specs.Kept.{slots_from}

abbrev Row : Type 0
Row = List (Option Attempted)

-- what a rule's slot holds in a list
abbrev holds : Row → ℕ → Option Attempted
holds row rule = slice_index_or row rule None

module _ (current : ℕ) (lists : List Row) where
  before : (c r : ℕ) → c < current → slots_from current lists c r ≡ None
  before c r less = ap (λ (b : Bool). if b then None else holds (slice_index_or lists (c - current) []) r) (lt-ltb c current less)

  pub from_on : (c r : ℕ) → current ≤ c → slots_from current lists c r ≡ slice_index_or (slice_index_or lists (c - current) []) r None
  from_on c r least = ap (λ (b : Bool). if b then None else holds (slice_index_or lists (c - current) []) r) (le-ltb c current least)

-- ---- one slot is written

-- in the list of its cycle
set_row : (row : Row) (rule r : ℕ) (held : Option Attempted) → rule < length row → holds (slice_set row rule held) r ≡ (if r == rule then held else holds row r)
set_row row rule r held inside = chosen (cases_eq r rule)
  where
    chosen : (r ≡ rule) ⊎ (r ≡ rule → ⊥) → holds (slice_set row rule held) r ≡ (if r == rule then held else holds row r)
    chosen (inl e) =
        ap (λ (n : ℕ). holds (slice_set row rule held) n) e ∙ get_or-set_same row rule held None inside
        ∙ sym (ap (λ (b : Bool). if b then held else holds row r) (eq-eqb r rule e))
    chosen (inr ne) = get_or-set_other row rule r held None ne ∙ sym (ap (λ (b : Bool). if b then held else holds row r) (ne_eqb r rule ne))

-- in the list of its cycle among the others
pub slots_set : (current : ℕ) (lists : List Row) (ahead rule : ℕ) (held : Option Attempted) → ahead < length lists → rule < length (slice_index_or lists ahead [])
    → (c r : ℕ) → slots_from current (slice_set lists ahead (slice_set (slice_index_or lists ahead []) rule held)) c r ≡ (if (c == current + ahead) && (r == rule) then held else slots_from current lists c r)
slots_set current lists ahead rule held inside in_row c r = chosen (cases_eq c (current + ahead)) (cases_lt c current)
  where
    row : Row
    row = slice_set (slice_index_or lists ahead []) rule held

    new : List Row
    new = slice_set lists ahead row

    other : (c ≡ current + ahead → ⊥) → (if (c == current + ahead) && (r == rule) then held else slots_from current lists c r) ≡ slots_from current lists c r
    other ne = ap (λ (b : Bool). if b && (r == rule) then held else slots_from current lists c r) (ne_eqb c (current + ahead) ne)

    chosen : (c ≡ current + ahead) ⊎ (c ≡ current + ahead → ⊥) → (c < current) ⊎ (current ≤ c) → slots_from current new c r ≡ (if (c == current + ahead) && (r == rule) then held else slots_from current lists c r)
    chosen (inl e) (inl less) = absurd (omega (arith, e, less))
    chosen (inl e) (inr least) =
        let this : c - current ≡ ahead = omega (arith, e) in
        from_on current new c r least
        ∙ ap (λ (n : ℕ). holds (slice_index_or new n []) r) this ∙ ap (λ (w : Row). holds w r) (get_or-set_same lists ahead row [] inside)
        ∙ set_row (slice_index_or lists ahead []) rule r held in_row
        ∙ sym (ap (λ (b : Bool). if b && (r == rule) then held else slots_from current lists c r) (eq-eqb c (current + ahead) e)
        ∙ ap (λ (o : Option Attempted). if r == rule then held else o) (from_on current lists c r least ∙ ap (λ (n : ℕ). holds (slice_index_or lists n []) r) this))
    chosen (inr ne) (inl less) = before current new c r less ∙ sym (other ne ∙ before current lists c r less)
    chosen (inr ne) (inr least) =
        from_on current new c r least
        ∙ ap (λ (w : Row). holds w r) (get_or-set_other lists ahead (c - current) row [] (λ e. ne (let h : c ≡ current + ahead = omega (arith, e, least) in h)))
        ∙ sym (other ne ∙ from_on current lists c r least)

-- ---- a cycle is closed

empty_row : (n r : ℕ) → holds (replicate n None) r ≡ None
empty_row zero r = refl
empty_row (suc n) zero = refl
empty_row (suc n) (suc r) = empty_row n r

-- an empty list more holds nothing more
pushed : (rest : List Row) (n d r : ℕ) → holds (slice_index_or (rest ++ replicate n None ∷ []) d []) r ≡ holds (slice_index_or rest d []) r
pushed [] n zero r = empty_row n r
pushed [] n (suc d) r = refl
pushed (row ∷ rest) n zero r = refl
pushed (row ∷ rest) n (suc d) r = pushed rest n d r

-- the lists move up by one, and an empty one comes last
abbrev pub moved_up : ℕ → List Row → List Row
moved_up n lists = let cleared : List Row = slice_set lists 0 (replicate n None) in drop 1 cleared ++ take 1 cleared

pub slots_next : (current n : ℕ) (lists : List Row) → 1 ≤ length lists → (c r : ℕ) → slots_from (current + 1) (moved_up n lists) c r ≡ (if c == current then None else slots_from current lists c r)
slots_next current n [] some c r = absurd (omega (arith, some))
slots_next current n (row ∷ rest) some c r = chosen (cases_eq c current) (cases_lt c current)
  where
    new : List Row
    new = rest ++ replicate n None ∷ []

    chosen : (c ≡ current) ⊎ (c ≡ current → ⊥) → (c < current) ⊎ (current ≤ c) → slots_from (current + 1) new c r ≡ (if c == current then None else slots_from current (row ∷ rest) c r)
    chosen (inl e) which = before (current + 1) new c r (omega (arith, e)) ∙ sym (ap (λ (b : Bool). if b then None else slots_from current (row ∷ rest) c r) (eq-eqb c current e))
    chosen (inr ne) (inl less) =
        before (current + 1) new c r (omega (arith, less))
        ∙ sym (ap (λ (b : Bool). if b then None else slots_from current (row ∷ rest) c r) (ne_eqb c current ne) ∙ before current (row ∷ rest) c r less)
    chosen (inr ne) (inr least) = later (cases_lt current c)
      where
        later : (current < c) ⊎ (c ≤ current) → slots_from (current + 1) new c r ≡ (if c == current then None else slots_from current (row ∷ rest) c r)
        later (inr most) = absurd (ne (let h : c ≡ current = omega (arith, least, most) in h))
        later (inl more) =
            let d : c - current ≡ suc (c - (current + 1)) = omega (arith, more) in
            from_on (current + 1) new c r (omega (arith, more)) ∙ pushed rest n (c - (current + 1)) r
            ∙ sym (ap (λ (b : Bool). if b then None else slots_from current (row ∷ rest) c r) (ne_eqb c current ne)
            ∙ from_on current (row ∷ rest) c r least ∙ ap (λ (k : ℕ). holds (slice_index_or (row ∷ rest) k []) r) d)

-- what holds of all lists and of an empty one holds of those
pub All-moved_up : (P : Row → Type 0) (n : ℕ) (lists : List Row) → All P lists → P (replicate n None) → All P (moved_up n lists)
All-moved_up P n [] all p = all
All-moved_up P n (row ∷ rest) all p = All-push P rest (replicate n None) (All-tail P row rest all) p

-- ---- no attempt stands

no_row : (window n d r : ℕ) → holds (slice_index_or (replicate window (replicate n None)) d []) r ≡ None
no_row zero n d r = refl
no_row (suc window) n zero r = empty_row n r
no_row (suc window) n (suc d) r = no_row window n d r

pub none_stands : (current window n c r : ℕ) → slots_from current (replicate window (replicate n None)) c r ≡ None
none_stands current window n c r = chosen (cases_lt c current)
  where
    chosen : (c < current) ⊎ (current ≤ c) → slots_from current (replicate window (replicate n None)) c r ≡ None
    chosen (inl less) = before current (replicate window (replicate n None)) c r less
    chosen (inr least) = from_on current (replicate window (replicate n None)) c r least ∙ no_row window n (c - current) r
