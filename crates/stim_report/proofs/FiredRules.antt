-- The names of the rules that fired, one by one.
use Rattle.std.proofs.Common.{◌≡◌, ℕ, ◌+◌, ◌<◌, ◌≤◌, Bool, true, false, not, ◌&&◌, List, [], ◌∷◌, ◌++◌, length, length-append, drop, get_or, refl, sym, ap, ap₂, ◌∙◌, subst, arith}
use Rattle.std.proofs.lemmas.List.{drop_more}
use Rattle.kw_bits.specs.Reserved.{ReservedList}
use Rattle.stim_report.specs.inner.Pages.{Leaves}
use Rattle.stim_report.specs.Report.{fired_names, listed, more_names}
use Rattle.stim_report.specs.inner.Steps.{shown, rest_listed}

-- a rule, and those behind it
rest_shown : (b : Bool) (name : List ℕ) (names : List (List ℕ)) (fired : Bool) (flags : List Bool)
    → rest_listed b (fired_names (name ∷ names) (fired ∷ flags)) ≡ shown b name fired ++ rest_listed (b && not fired) (fired_names names flags)
rest_shown true name names true flags = refl
rest_shown true name names false flags = refl
rest_shown false name names true flags = refl
rest_shown false name names false flags = refl

-- the same of the rules from one on
pub rest_more : (b : Bool) (names : List (List ℕ)) (flags : List Bool) (i : ℕ) (name : List ℕ) (fired : Bool) → i < length names → i < length flags
    → rest_listed b (fired_names (drop i names) (drop i flags))
    ≡ shown b (get_or names i name) (get_or flags i fired) ++ rest_listed (b && not (get_or flags i fired)) (fired_names (drop (i + 1) names) (drop (i + 1) flags))
rest_more b names flags i name fired h k =
    ap₂ (λ (ns : List (List ℕ)) (fs : List Bool). rest_listed b (fired_names ns fs)) (drop_more names i name h) (drop_more flags i fired k)
    ∙ rest_shown b (get_or names i name) (drop (i + 1) names) (get_or flags i fired) (drop (i + 1) flags)

-- names behind commas are at least as long as those with commas between them, but for the dash
pub listed_room : (names : List (List ℕ)) → length (listed names) ≤ 1 + length (more_names names)
listed_room [] = omega arith
listed_room (name ∷ names) =
    omega (arith, length-append name (more_names names), length-append (44 ∷ name) (more_names names))

-- the name of a rule is what is left next
pub rule_shown : {old now : ReservedList ℕ} {whole : List ℕ} (b : Bool) (names : List (List ℕ)) (flags : List Bool) (i : ℕ) (name : List ℕ)
    → i < length names → length names ≤ length flags → name ≡ get_or names i name
    → Leaves old whole now (rest_listed b (fired_names (drop i names) (drop i flags)))
    → Leaves old whole now (shown b name (get_or flags i false) ++ rest_listed (b && not (get_or flags i false)) (fired_names (drop (i + 1) names) (drop (i + 1) flags)))
rule_shown {old} {now} {whole} b names flags i name h few is left =
    let rest = rest_listed (b && not (get_or flags i false)) (fired_names (drop (i + 1) names) (drop (i + 1) flags)) in
    let more = rest_more b names flags i name false h (omega (arith, h, few)) ∙ ap (λ (n : List ℕ). shown b n (get_or flags i false) ++ rest) (sym is) in
    subst (λ (text : List ℕ). Leaves old whole now text) more left
