-- An event's token is cut where its value begins.
use Rattle.std.proofs.Common.{◌≡◌, ℕ, ◌+◌, ◌-◌, ◌<◌, ◌≤◌, ◌==◌, Bool, true, false, not, List, [], ◌∷◌, ◌++◌, length, length-append, take, drop, get_or, Some, sym, ap, ap₂, ◌∙◌, append_assoc, arith}
use Rattle.std.specs.List.{list_all}
use Rattle.std.proofs.Math.Seq.{get_or-append_seam, take-append_seam, drop-append_seam}
use Rattle.std.proofs.lemmas.List.{get_or-append_right}
use Rattle.std.proofs.lemmas.List.Sums.{AllPass-from_list_all, suffix_len-take_no, suffix_len-take_yes, suffix_len_is}
use Rattle.stim_report.specs.Assignments.{behind_equals, name_and_value}
use Rattle.stim_report.proofs.Equals.{parts_some}

-- no byte is an `=`
abbrev pub has_no_equals : List ℕ → Bool
has_no_equals bytes = list_all (λ b. not (b == 61)) bytes

-- the bytes after the last `=`
behind : (front digits : List ℕ) → has_no_equals digits ≡ true → length front + 1 + behind_equals (front ++ 61 ∷ digits) ≡ length (front ++ 61 ∷ digits)
behind front digits none =
    let word = front ++ 61 ∷ digits in
    let start = length front + 1 in
    let whole : length word ≡ start + length digits = length-append front (61 ∷ digits) ∙ omega arith in
    let apart : word ≡ (front ++ 61 ∷ []) ++ digits = sym (append_assoc front (61 ∷ []) digits) in
    let front_long : length (front ++ 61 ∷ []) ≡ start = length-append front (61 ∷ []) in
    let pass : (k : ℕ) → start ≤ k → k < length word → not (get_or word k 0 == 61) ≡ true =
    λ k from within. ap (λ (w : List ℕ). not (get_or w k 0 == 61)) apart ∙ ap (λ (b : ℕ). not (b == 61)) (get_or-append_right (front ++ 61 ∷ []) digits start k 0 front_long from) ∙ AllPass-from_list_all (λ b. not (b == 61)) digits none (k - start) 0 (omega (arith, whole, from, within)) in
    let before : start - 1 ≡ length front = omega arith in
    let stop : not (get_or word (start - 1) 0 == 61) ≡ false = ap (λ (n : ℕ). not (get_or word n 0 == 61)) before ∙ ap (λ (b : ℕ). not (b == 61)) (get_or-append_seam front 61 digits 0) in
    let is = suffix_len_is (λ b. not (b == 61)) word start 0 (omega (arith, whole)) pass (λ some. stop) in
    omega (arith, whole, is)

pub cut_event : (front digits : List ℕ) → 1 ≤ length front → has_no_equals digits ≡ true → name_and_value (front ++ 61 ∷ digits) ≡ Some (front, digits)
cut_event front digits some none =
    let word = front ++ 61 ∷ digits in
    let start = length front + 1 in
    let apart : word ≡ (front ++ 61 ∷ []) ++ digits = sym (append_assoc front (61 ∷ []) digits) in
    let front_long : start ≡ length (front ++ 61 ∷ []) = sym (length-append front (61 ∷ [])) in
    let before : start - 1 ≡ length front = omega arith in
    parts_some word start (behind front digits none) (omega (arith, some))
    ∙ ap₂ (λ (a b : List ℕ). Some (a, b)) (ap (λ (n : ℕ). take n word) before ∙ take-append_seam front (61 ∷ digits))
    (ap₂ (λ (n : ℕ) (w : List ℕ). drop n w) front_long apart ∙ drop-append_seam (front ++ 61 ∷ []) digits)

pub ruleset equals = (suffix_len-take_yes, suffix_len-take_no)
