-- A word cut at its last `=`.
use Rattle.std.proofs.Common.{◌≡◌, ℕ, ◌+◌, ◌-◌, ◌<◌, ◌≤◌, Bool, List, length, take, drop, Some, None, ap, ◌∙◌, arith}
use Rattle.std.specs.Prelude.{if◌then◌else◌}
use Rattle.std.proofs.lemmas.Bool.{le-ltb, lt-ltb}
use Rattle.std.proofs.lemmas.List.Sums.{suffix_len-take_yes, suffix_len-take_no}
use Rattle.stim_report.specs.Assignments.{behind_equals, name_and_value}

pub parts_none : (word : List ℕ) (start : ℕ) → start + behind_equals word ≡ length word → start < 2 → name_and_value word ≡ None
unfolding name_and_value
parts_none word start is few =
    ap (λ (b : Bool). if b then Some (take (length word - behind_equals word - 1) word, drop (length word - behind_equals word) word) else None)
    (le-ltb (behind_equals word + 1) (length word) (omega (arith, is, few)))

pub parts_some : (word : List ℕ) (start : ℕ) → start + behind_equals word ≡ length word → 2 ≤ start → name_and_value word ≡ Some (take (start - 1) word, drop start word)
unfolding name_and_value
parts_some word start is many =
    let at : length word - behind_equals word ≡ start = omega (arith, is) in
    ap (λ (b : Bool). if b then Some (take (length word - behind_equals word - 1) word, drop (length word - behind_equals word) word) else None)
    (lt-ltb (behind_equals word + 1) (length word) (omega (arith, is, many)))
    ∙ ap (λ (n : ℕ). Some (take (n - 1) word, drop n word)) at

pub ruleset equals = (suffix_len-take_yes, suffix_len-take_no)
