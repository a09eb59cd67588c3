-- Flags and slots: which rules have a flag, and how many.
use Rattle.std.proofs.Common.{◌≡◌, ◌⊎◌, ℕ, zero, suc, ◌+◌, ◌<◌, Bool, true, false, List, [], ◌∷◌, ◌++◌, length, replicate, refl, sym, ap, ◌∙◌, inl, inr, drop, eq-eqb, arith}
use Rattle.std.specs.Prelude.{◌==◌, ◌||◌, slice_index_or, slice_set, if◌then◌else◌}
use Rattle.std.specs.List.{count_by}
use Rattle.std.proofs.lemmas.Bool.{cases_eq, ne_eqb, or_right, or_left}
use Rattle.std.proofs.lemmas.List.{get_or-replicate, get_or-set_other, get_or-set_same, length-replicate, length-set, same_lists}
use Rattle.std.proofs.lemmas.List.Folds.{list_any-append}
use Rattle.std.proofs.lemmas.List.FromFn.{get_or-map-range_with_len, length-map-range_with_len}
use Rattle.std.proofs.lemmas.List.Sums.{count_by-le-length, sum_by-cons}
use Rattle.typed_core.specs.declared.access.Event.{Event}
use Rattle.one_rule.specs.Cycle.{flags, is_among, numbers}
use Rattle.one_rule.specs.declared.cycle.Fired.{Fired}

-- ---- flags of rules

-- no rule has one
pub flags_none : (rules : ℕ) → replicate rules false ≡ flags rules []
flags_none rules =
    same_lists (replicate rules false) (flags rules []) (length-replicate rules false ∙ sym (length-map-range_with_len (is_among []) 0 rules)) (λ k d inside.
    let within : k < rules = omega (arith, inside, length-replicate rules false) in
    get_or-replicate rules k false d within ∙ sym (get_or-map-range_with_len (is_among []) 0 rules k k d within (omega arith)))

pub or_no : (b : Bool) → (b || false) ≡ b
or_no true = refl
or_no false = refl

pub one_more : (fired : List ℕ) (rule k : ℕ) → is_among (fired ++ rule ∷ []) k ≡ (is_among fired k || ((rule == k) || false))
one_more fired rule k = list_any-append (λ (n : ℕ). n == k) fired (rule ∷ [])

pub flags_count : (rules : ℕ) (fired : List ℕ) → length (flags rules fired) ≡ rules
flags_count rules fired = length-map-range_with_len (is_among fired) 0 rules

-- the flag of a rule
pub flag_at : (rules : ℕ) (fired : List ℕ) (rule : ℕ) (d : Bool) → rule < rules → slice_index_or (flags rules fired) rule d ≡ is_among fired rule
flag_at rules fired rule d within = get_or-map-range_with_len (is_among fired) 0 rules rule rule d within (omega arith)

-- one rule more sets its flag
pub flags_more : (rules : ℕ) (fired : List ℕ) (rule : ℕ) → slice_set (flags rules fired) rule true ≡ flags rules (fired ++ rule ∷ [])
flags_more rules fired rule =
    same_lists (slice_set (flags rules fired) rule true) (flags rules (fired ++ rule ∷ [])) (length-set (flags rules fired) rule true ∙ flags_count rules fired ∙ sym (flags_count rules (fired ++ rule ∷ [])))
    (λ k d inside. at k d (omega (arith, inside, length-set (flags rules fired) rule true, flags_count rules fired)) (cases_eq k rule))
  where
    at : (k : ℕ) (d : Bool) → k < rules → (k ≡ rule) ⊎ (k ≡ rule → ⊥) → slice_index_or (slice_set (flags rules fired) rule true) k d ≡ slice_index_or (flags rules (fired ++ rule ∷ [])) k d
    at k d within (inl e) =
        let here : rule < length (flags rules fired) = omega (arith, within, e, flags_count rules fired) in
        let same : is_among (fired ++ rule ∷ []) k ≡ true = one_more fired rule k ∙ or_right (is_among fired k) ((rule == k) || false) (or_left (rule == k) false (eq-eqb rule k (sym e))) in
        ap (λ (n : ℕ). slice_index_or (slice_set (flags rules fired) rule true) n d) e ∙ get_or-set_same (flags rules fired) rule true d here
        ∙ sym (flag_at rules (fired ++ rule ∷ []) k d within ∙ same)
    at k d within (inr ne) =
        let same : is_among (fired ++ rule ∷ []) k ≡ is_among fired k = one_more fired rule k ∙ ap (λ (b : Bool). is_among fired k || (b || false)) (ne_eqb rule k (λ e. ne (sym e))) ∙ or_no (is_among fired k) in
        get_or-set_other (flags rules fired) rule k true d ne ∙ flag_at rules fired k d within ∙ sym (flag_at rules (fired ++ rule ∷ []) k d within ∙ same)

-- ---- how many are set

abbrev pub set_flags : List Bool → ℕ
set_flags flags = count_by (λ (is_settled : Bool). is_settled) flags

set_yes : (rest : List Bool) → set_flags (true ∷ rest) ≡ 1 + set_flags rest
set_yes rest = sum_by-cons (λ (b : Bool). if b then 1 else 0) true rest

set_no : (rest : List Bool) → set_flags (false ∷ rest) ≡ set_flags rest
set_no rest = sum_by-cons (λ (b : Bool). if b then 1 else 0) false rest ∙ (let e : 0 + set_flags rest ≡ set_flags rest = omega arith in e)

-- where one isn't set, not all are
pub one_left : (rest : List Bool) (k : ℕ) → slice_index_or rest k true ≡ false → set_flags rest < length rest
one_left [] k h = absurd cc
one_left (true ∷ rest) zero h = absurd cc
one_left (false ∷ rest) zero h = omega (arith, set_no rest, count_by-le-length (λ (b : Bool). b) rest)
one_left (true ∷ rest) (suc k) h = omega (arith, set_yes rest, one_left rest k h)
one_left (false ∷ rest) (suc k) h = omega (arith, set_no rest, one_left rest k h)

-- to set it is one more
pub one_set : (rest : List Bool) (k : ℕ) → slice_index_or rest k true ≡ false → set_flags (slice_set rest k true) ≡ set_flags rest + 1
one_set [] k h = absurd cc
one_set (true ∷ rest) zero h = absurd cc
one_set (false ∷ rest) zero h = set_yes rest ∙ (let e : 1 + set_flags rest ≡ set_flags (false ∷ rest) + 1 = omega (arith, set_no rest) in e)
one_set (true ∷ rest) (suc k) h = set_yes (slice_set rest k true) ∙ (let e : 1 + set_flags (slice_set rest k true) ≡ set_flags (true ∷ rest) + 1 = omega (arith, set_yes rest, one_set rest k h) in e)
one_set (false ∷ rest) (suc k) h = set_no (slice_set rest k true) ∙ (let e : set_flags (slice_set rest k true) ≡ set_flags (false ∷ rest) + 1 = omega (arith, set_no rest, one_set rest k h) in e)

-- a flag that isn't set is one that there is
pub unset_inside : (rest : List Bool) (k : ℕ) → slice_index_or rest k true ≡ false → k < length rest
unset_inside [] k h = absurd cc
unset_inside (b ∷ rest) zero h = omega arith
unset_inside (b ∷ rest) (suc k) h = omega (arith, unset_inside rest k h)

-- ---- lists that are overwritten from the front

pub set_next : {X : Type 0} (n : ℕ) (v : X) (xs : List X) → n < length xs → slice_set (replicate n v ++ drop n xs) n v ≡ replicate (suc n) v ++ drop (suc n) xs
set_next zero v [] h = absurd (omega (arith, h))
set_next zero v (x ∷ xs) h = refl
set_next (suc n) v [] h = absurd (omega (arith, h))
set_next (suc n) v (x ∷ xs) h = ap (λ ys. v ∷ ys) (set_next n v xs (omega (arith, h)))

-- ---- rules that fired

pub numbers-push : (past : List Fired) (rule : ℕ) (events : List Event) → numbers (past ++ record { rule = rule; events = events } ∷ []) ≡ numbers past ++ rule ∷ []
numbers-push [] rule events = refl
numbers-push (f ∷ past) rule events = ap (λ (ns : List ℕ). f.rule ∷ ns) (numbers-push past rule events)
