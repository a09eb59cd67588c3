-- The flags of the inputs that a line assigns.
use Rattle.std.proofs.Common.{◌≡◌, ◌≢◌, ℕ, zero, suc, ◌+◌, ◌<◌, ◌≤◌, Bool, true, false, ◌||◌, List, [], ◌∷◌, ◌++◌, length, drop, get_or, set, refl, sym, ap, ◌∙◌, subst, arith, true≢false}
use Rattle.std.specs.Prelude.{All, nat_eq}
use Rattle.std.specs.List.{AllByRecursion}
use Rattle.std.proofs.lemmas.Bool.{eqb-true, eqb-false, false_from_ne_true, true_from_ne_false}
use Rattle.std.proofs.lemmas.List.{drop_more, drop_all, get_or-set_same, get_or-set_other, length-set}
use Rattle.std.proofs.lemmas.List.Folds.{list_any-append}
use Rattle.one_rule.specs.Stimulus.{Assignment}
use Rattle.stim_report.specs.Assignments.{is_assigned}
use Rattle.stim_report.specs.inner.Given.{AreGiven}

eqb-same : (n : ℕ) → nat_eq n n ≡ true
eqb-same n = true_from_ne_false (nat_eq n n) (λ is. eqb-false n n is refl)

neither-left : (a b : Bool) → (a || b) ≡ false → a ≡ false
neither-left true b h = absurd (true≢false h)
neither-left false b h = refl

neither-right : (a b : Bool) → (a || b) ≡ false → b ≡ false
neither-right true b h = absurd (true≢false h)
neither-right false b h = h

inputs_more : (n m : ℕ) (line : List Assignment) (a : Assignment) → n ≡ m → AllByRecursion (λ (x : Assignment). x.0 < n) line → a.0 < m → AllByRecursion (λ (x : Assignment). x.0 < m) (line ++ a ∷ [])
inputs_more n m [] a same all within = (within, tt)
inputs_more n m (first ∷ line) a same all within = (omega (arith, all.0, same), inputs_more n m line a same all.1 within)

or-false : (b : Bool) → (b || false) ≡ b
or-false true = refl
or-false false = refl

or-true : (b : Bool) → (b || true) ≡ true
or-true true = refl
or-true false = refl

-- an input is assigned
pub given_more : (flags : List Bool) (line : List Assignment) (a : Assignment) → AreGiven flags line → a.0 < length flags → AreGiven (set flags a.0 true) (line ++ a ∷ [])
given_more flags line a given within = record {
  inputs = inputs_more (length flags) (length (set flags a.0 true)) line a (sym (length-set flags a.0 true)) given.inputs (omega (arith, within, length-set flags a.0 true));
  flag_each = λ input. each input (nat_eq a.0 input) refl;
}
  where
    each : (input : ℕ) (same : Bool) → nat_eq a.0 input ≡ same → get_or (set flags a.0 true) input false ≡ is_assigned (line ++ a ∷ []) input
    each input true is =
        let e : a.0 ≡ input = eqb-true a.0 input is in
        ap (λ (k : ℕ). get_or (set flags a.0 true) k false) (sym e) ∙ get_or-set_same flags a.0 true false within
        ∙ sym (list_any-append (λ (x : Assignment). nat_eq x.0 input) line (a ∷ []) ∙ ap (λ (b : Bool). is_assigned line input || (b || false)) is ∙ or-true (is_assigned line input))
    each input false is =
        get_or-set_other flags a.0 input true false (λ same. true≢false (sym (eqb-same a.0) ∙ ap (λ (k : ℕ). nat_eq a.0 k) (sym same) ∙ is))
        ∙ given.flag_each input
        ∙ sym (list_any-append (λ (x : Assignment). nat_eq x.0 input) line (a ∷ []) ∙ ap (λ (b : Bool). is_assigned line input || (b || false)) is ∙ or-false (is_assigned line input))

not_in : (line : List Assignment) (input : ℕ) → is_assigned line input ≡ false → (k : ℕ) (d : Assignment) → k < length line → (get_or line k d).0 ≢ input
not_in [] input none k d h = absurd (omega (arith, h))
not_in (a ∷ line) input none zero d h = λ same. eqb-false a.0 input (neither-left (nat_eq a.0 input) (is_assigned line input) none) same
not_in (a ∷ line) input none (suc k) d h = not_in line input (neither-right (nat_eq a.0 input) (is_assigned line input) none) k d (omega (arith, h))

-- an input that isn't given is assigned nowhere in the line
pub apart_from : (flags : List Bool) (line : List Assignment) (input : ℕ) → AreGiven flags line → get_or flags input false ≡ false → All (λ (x : Assignment). x.0 ≢ input) line
apart_from flags line input given is = not_in line input (sym (given.flag_each input) ∙ is)

-- the first input that is left, and those behind it
pub first_input : (n : ℕ) (line : List Assignment) (i : ℕ) (a : Assignment) → i < length line → a ≡ get_or line i a → AllByRecursion (λ (x : Assignment). x.0 < n) (drop i line) → a.0 < n
first_input n line i a h is all = omega (arith, (subst (AllByRecursion (λ (x : Assignment). x.0 < n)) (drop_more line i a h) all).0, ap (λ (x : Assignment). x.0) is)

pub other_inputs : (n : ℕ) (line : List Assignment) (i : ℕ) (a : Assignment) → i < length line → AllByRecursion (λ (x : Assignment). x.0 < n) (drop i line) → AllByRecursion (λ (x : Assignment). x.0 < n) (drop (i + 1) line)
other_inputs n line i a h all = (subst (AllByRecursion (λ (x : Assignment). x.0 < n)) (drop_more line i a h) all).1

-- what is left to take back
pub taken_back : (flags : List Bool) (line : List Assignment) (i : ℕ) (a : Assignment) → i < length line → a ≡ get_or line i a → a.0 < length flags
    → ((k : ℕ) → get_or flags k false ≡ true → is_assigned (drop i line) k ≡ true)
    → (k : ℕ) → get_or (set flags a.0 false) k false ≡ true → is_assigned (drop (i + 1) line) k ≡ true
taken_back flags line i a h is within left k given = at (nat_eq a.0 k) refl
  where
    more : is_assigned (drop i line) k ≡ (nat_eq a.0 k || is_assigned (drop (i + 1) line) k)
    more = ap (λ (xs : List Assignment). is_assigned xs k) (drop_more line i a h) ∙ ap (λ (x : Assignment). nat_eq x.0 k || is_assigned (drop (i + 1) line) k) (sym is)

    at : (same : Bool) → nat_eq a.0 k ≡ same → is_assigned (drop (i + 1) line) k ≡ true
    at true same =
        let e : a.0 ≡ k = eqb-true a.0 k same in
        absurd (true≢false (sym given ∙ ap (λ (j : ℕ). get_or (set flags a.0 false) j false) (sym e) ∙ get_or-set_same flags a.0 false false within))
    at false other =
        let kept : get_or flags k false ≡ true = sym (get_or-set_other flags a.0 k false false (λ same. true≢false (sym (eqb-same a.0) ∙ ap (λ (j : ℕ). nat_eq a.0 j) (sym same) ∙ other))) ∙ given in
        sym (ap (λ (b : Bool). b || is_assigned (drop (i + 1) line) k) other) ∙ sym more ∙ left k kept

-- nothing is given any more
pub none_left : (flags : List Bool) (line : List Assignment) (i : ℕ) → length line ≤ i → ((k : ℕ) → get_or flags k false ≡ true → is_assigned (drop i line) k ≡ true) → AreGiven flags []
none_left flags line i h left = record {
  inputs = tt;
  flag_each = λ k. false_from_ne_true (get_or flags k false) (λ given. true≢false (sym (left k given) ∙ ap (λ (xs : List Assignment). is_assigned xs k) (drop_all i line h)));
}
