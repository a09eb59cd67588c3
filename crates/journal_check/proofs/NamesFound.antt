-- A name is looked for among the declarations.
use Rattle.std.proofs.Common.{◌≡◌, ℕ, ◌+◌, ◌<◌, ◌≤◌, Bool, true, false, cond, List, [], length, map, get_or, Some, None, sym, ap, subst, ◌∙◌, refl, arith}
use Rattle.std.specs.Prelude.{nat_lt}
use Rattle.std.specs.List.{position_or_len}
use Rattle.std.specs.Str.{bytes_eq}
use Rattle.std.proofs.lemmas.Bool.{lt-ltb, le-ltb, ltb-true, ltb-false}
use Rattle.std.proofs.lemmas.List.{get_or-map, length-map}
use Rattle.std.proofs.lemmas.List.Sums.{position_or_len_is}
use Rattle.journal_check.specs.Tokens.{number_named}

-- no name before this place is this one
abbrev pub NoneBefore : List (List ℕ) → List ℕ → ℕ → Type 0
NoneBefore names name n = (k : ℕ) → k < n → bytes_eq name (get_or names k []) ≡ false

-- the name of a thing is at its place
name_at : {X : Type 0} (view : X → List ℕ) (things list : List X) (n : ℕ) (x : X) → list ≡ things → n < length list → x ≡ get_or list n x → get_or (map view things) n [] ≡ view x
name_at {X} view things list n x same within is =
    let inside : n < length things = subst (λ (l : List X). n < length l) same within in
    get_or-map view things n x [] inside ∙ ap view (sym (is ∙ ap (λ (l : List X). get_or l n x) same))

-- a place further
pub name_passed : {X : Type 0} (view : X → List ℕ) (things list : List X) (name : List ℕ) (n : ℕ) (x : X) → list ≡ things → n < length list → x ≡ get_or list n x
    → NoneBefore (map view things) name n → bytes_eq name (view x) ≡ false → NoneBefore (map view things) name (n + 1)
name_passed view things list name n x same within is none other k below = choose (nat_lt k n) refl
  where
    choose : (b : Bool) → nat_lt k n ≡ b → bytes_eq name (get_or (map view things) k []) ≡ false
    choose true less = none k (ltb-true k n less)
    choose false less =
        let here : k ≡ n = omega (arith, ltb-false k n less, below) in
        ap (λ (j : ℕ). bytes_eq name (get_or (map view things) j [])) here ∙ ap (bytes_eq name) (name_at view things list n x same within is) ∙ other

-- the first place of a name
pub name_found : {X : Type 0} (view : X → List ℕ) (things list : List X) (name : List ℕ) (n : ℕ) (x : X) → list ≡ things → n < length list → x ≡ get_or list n x
    → NoneBefore (map view things) name n → bytes_eq name (view x) ≡ true → Some n ≡ number_named (map view things) name
name_found {X} view things list name n x same within is none test =
    let names = map view things in
    let inside : n < length things = subst (λ (l : List X). n < length l) same within in
    let among : n < length names = omega (arith, length-map things view, inside) in
    let place : position_or_len (bytes_eq name) names ≡ n = position_or_len_is (bytes_eq name) names n [] (omega (arith, among)) none (λ h. ap (bytes_eq name) (name_at view things list n x same within is) ∙ test) in
    sym (ap (λ (k : ℕ). cond (nat_lt k (length names)) (Some k) None) place ∙ ap (λ (b : Bool). cond b (Some n) None) (lt-ltb n (length names) among))

-- a name that has no place
pub name_missing : {X : Type 0} (view : X → List ℕ) (things list : List X) (name : List ℕ) (n : ℕ) → list ≡ things → length list ≤ n → NoneBefore (map view things) name n → None ≡ number_named (map view things) name
name_missing {X} view things list name n same all none =
    let names = map view things in
    let count = length names in
    let whole : length things ≤ n = subst (λ (l : List X). length l ≤ n) same all in
    let place : position_or_len (bytes_eq name) names ≡ count =
    position_or_len_is (bytes_eq name) names count [] (omega arith) (λ k below. none k (omega (arith, below, whole, length-map things view))) (λ h. absurd (omega (arith, h))) in
    sym (ap (λ (k : ℕ). cond (nat_lt k count) (Some k) None) place ∙ ap (λ (b : Bool). cond b (Some count) None) (le-ltb count count (omega arith)))
