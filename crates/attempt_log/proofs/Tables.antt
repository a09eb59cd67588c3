-- What a table of first commits keeps to: there is room for a place that holds nothing, and a clear leaves nothing.
use Rattle.std.proofs.Common.{◌≡◌, ◌⊎◌, ℕ, ◌+◌, ◌<◌, ◌≤◌, Bool, true, false, List, [], ◌∷◌, ◌++◌, length, replicate, Option, Some, None, is_some, All, zero, suc, refl, sym, ap, ◌∙◌, subst, inl, inr, eq-eqb, cond, sum_by, take, arith}
use Rattle.std.specs.Prelude.{◌==◌, ◌||◌, slice_index_or, slice_set}
use Rattle.std.specs.List.{count_by, list_any}
use Rattle.std.proofs.lemmas.Bool.{both_ways, cases_Bool, cases_eq, cases_lt, ne_eqb, or_left, or_right}
use Rattle.std.proofs.lemmas.List.{get_or_default, get_or-replicate, get_or-set_same, get_or-set_other, get_or_past, length-replicate, length-set, length_push, same_lists}
use Rattle.std.proofs.lemmas.List.Elements.{All-append}
use Rattle.std.proofs.lemmas.List.Sums.{count_by-le-length, sum_by-set}
use Rattle.std.proofs.lemmas.List.Folds.{list_any-append, list_any_more}
use Rattle.attempt_log.specs.inner.Firsts.{IsSound, is_listed}
use Rattle.attempt_log.specs.declared.first.Commit.{Commit}

abbrev pub Table : Type 0
Table = List (Option Commit)

abbrev some : Option Commit → Bool
some o = is_some o

abbrev counts : Option Commit → ℕ
counts o = cond (some o) 1 0

pub none_from : (o : Option Commit) → is_some o ≡ false → o ≡ None
none_from None h = refl
none_from (Some c) h = absurd cc

-- ---- room

fewer : (firsts : Table) (number : ℕ) (commit : Commit) → number < length firsts → slice_index_or firsts number None ≡ None → count_by some firsts + 1 ≤ length firsts
fewer firsts number commit within none =
    let step : sum_by counts (slice_set firsts number (Some commit)) + counts (slice_index_or firsts number None) ≡ sum_by counts firsts + 1 = sum_by-set counts firsts number (Some commit) None within in
    let zero_here : counts (slice_index_or firsts number None) ≡ 0 = ap counts none in
    let most : count_by some (slice_set firsts number (Some commit)) ≤ length (slice_set firsts number (Some commit)) = count_by-le-length some (slice_set firsts number (Some commit)) in
    omega (arith, step, zero_here, most, length-set firsts number (Some commit))

module _ (firsts : Table) (touched : List ℕ) (room number : ℕ) (commit : Commit) (s : IsSound firsts touched room) (within : number < length firsts) (none : slice_index_or firsts number None ≡ None) where
  -- there is room for one more place while one holds nothing
  pub room_left : length touched + 1 ≤ room
  room_left = omega (arith, s.no_more, s.room_for_all, fewer firsts number commit within none)

  -- a place that held nothing, and is listed now
  pub sound_more : IsSound (slice_set firsts number (Some commit)) (touched ++ number ∷ []) room
  sound_more = record {
    room_for_all = omega (arith, s.room_for_all, length-set firsts number (Some commit));
    no_more = omega (arith, s.no_more, length_push touched number, step, zero_here);
    within = subst (λ (n : ℕ). All (λ (t : ℕ). t < n) (touched ++ number ∷ [])) (sym (length-set firsts number (Some commit)))
        (All-append (λ (t : ℕ). t < length firsts) touched (number ∷ []) s.within (λ k d inside. one k d inside));
    listed = λ other h. list_any-append (λ (t : ℕ). t == other) touched (number ∷ []) ∙ listed other h (cases_eq other number);
  }
    where
      step : count_by some (slice_set firsts number (Some commit)) + counts (slice_index_or firsts number None) ≡ count_by some firsts + 1
      step = sum_by-set counts firsts number (Some commit) None within

      zero_here : counts (slice_index_or firsts number None) ≡ 0
      zero_here = ap counts none

      one : (k d : ℕ) → k < length (number ∷ []) → slice_index_or (number ∷ []) k d < length firsts
      one zero d inside = within
      one (suc k) d inside = absurd (omega arith)

      listed : (other : ℕ) → is_some (slice_index_or (slice_set firsts number (Some commit)) other None) ≡ true → (other ≡ number) ⊎ (other ≡ number → ⊥)
          → (list_any (λ (t : ℕ). t == other) touched || ((number == other) || false)) ≡ true
      listed other h (inl e) = or_right (is_listed touched other) ((number == other) || false) (or_left (number == other) false (eq-eqb number other (sym e)))
      listed other h (inr ne) =
          or_left (is_listed touched other) ((number == other) || false)
          (s.listed other (ap some (sym (get_or-set_other firsts number other (Some commit) None ne)) ∙ h))

-- ---- a table that holds nothing

abbrev pub HoldsNothing : Table → Type 0
HoldsNothing firsts = (number : ℕ) → slice_index_or firsts number None ≡ None

abbrev nothing : Option Commit
nothing = None

pub nothing_held : (places : ℕ) → HoldsNothing (replicate places None)
nothing_held places number = chosen (cases_lt number places)
  where
    chosen : (number < places) ⊎ (places ≤ number) → slice_index_or (replicate places nothing) number nothing ≡ nothing
    chosen (inl lt) = get_or-replicate places number nothing nothing lt
    chosen (inr ge) = get_or_past (replicate places nothing) number nothing (omega (arith, length-replicate places nothing))

pub sound_none : (firsts : Table) (room : ℕ) → HoldsNothing firsts → length firsts ≤ room → IsSound firsts [] room
sound_none firsts room none fits = record {
  room_for_all = fits;
  no_more = omega arith;
  within = λ k d inside. absurd (omega arith);
  listed = λ number h. absurd (both_ways (some (slice_index_or firsts number None)) (ap some (none number)) h);
}

-- what was walked holds nothing, and what wasn't held nothing
pub holds_nothing : (old new : Table) (touched : List ℕ) (room : ℕ) → IsSound old touched room
    → ((number : ℕ) → (slice_index_or new number None ≡ None) ⊎ ((slice_index_or new number None ≡ slice_index_or old number None) × (is_listed touched number ≡ false)))
    → HoldsNothing new
holds_nothing old new touched room s each number = chosen (each number)
  where
    chosen : (slice_index_or new number None ≡ None) ⊎ ((slice_index_or new number None ≡ slice_index_or old number None) × (is_listed touched number ≡ false)) → slice_index_or new number None ≡ None
    chosen (inl e) = e
    chosen (inr (e, free)) = e ∙ by_test (cases_Bool (some (slice_index_or old number None)))
      where
        by_test : (some (slice_index_or old number None) ≡ true) ⊎ (some (slice_index_or old number None) ≡ false) → slice_index_or old number None ≡ None
        by_test (inl h) = absurd (both_ways (is_listed touched number) free (s.listed number h))
        by_test (inr h) = none_from (slice_index_or old number None) h

pub nothing_same : (old new : Table) → HoldsNothing new → length new ≡ length old → new ≡ replicate (length old) None
nothing_same old new none size =
    same_lists new (replicate (length old) None) (size ∙ sym (length-replicate (length old) nothing))
    (λ number d inside.
    let here : number < length old = omega (arith, inside, size) in
    at number d inside ∙ sym (get_or-replicate (length old) number None d here))
  where
    at : (number : ℕ) (d : Option Commit) → number < length new → slice_index_or new number d ≡ None
    at number d inside = get_or_default new number d None inside ∙ none number

or_false : (a : Bool) → a ≡ false → (a || false) ≡ false
or_false true h = absurd cc
or_false false h = refl

-- one more place is walked
pub cleared_more : (old now : Table) (touched : List ℕ) (i d number : ℕ) → i < length touched → slice_index_or touched i d < length now
    → (slice_index_or now number None ≡ None) ⊎ ((slice_index_or now number None ≡ slice_index_or old number None) × (is_listed (take i touched) number ≡ false))
    → let new = slice_set now (slice_index_or touched i d) None in
    (slice_index_or new number None ≡ None) ⊎ ((slice_index_or new number None ≡ slice_index_or old number None) × (is_listed (take (i + 1) touched) number ≡ false))
cleared_more old now touched i d number within inside was = chosen (cases_eq number (slice_index_or touched i d)) was
  where
    here : ℕ
    here = slice_index_or touched i d

    more : is_listed (take (i + 1) touched) number ≡ (is_listed (take i touched) number || (here == number))
    more = list_any_more (λ (t : ℕ). t == number) touched i d within

    chosen : (number ≡ here) ⊎ (number ≡ here → ⊥) → (slice_index_or now number None ≡ None) ⊎ ((slice_index_or now number None ≡ slice_index_or old number None) × (is_listed (take i touched) number ≡ false))
        → (slice_index_or (slice_set now here None) number None ≡ None) ⊎ ((slice_index_or (slice_set now here None) number None ≡ slice_index_or old number None) × (is_listed (take (i + 1) touched) number ≡ false))
    chosen (inl e) was' = inl (ap (λ (n : ℕ). slice_index_or (slice_set now here None) n None) e ∙ get_or-set_same now here None None inside)
    chosen (inr ne) (inl h) = inl (get_or-set_other now here number None None ne ∙ h)
    chosen (inr ne) (inr (h, free)) =
        let other : (here == number) ≡ false = ne_eqb here number (λ e. ne (sym e)) in
        inr (get_or-set_other now here number None None ne ∙ h, more ∙ ap (λ (b : Bool). is_listed (take i touched) number || b) other ∙ or_false (is_listed (take i touched) number) free)
