-- Lists over the first numbers, one number more.
use Rattle.std.proofs.Common.{◌≡◌, ◌≢◌, ℕ, ◌+◌, ◌<◌, Bool, true, false, List, [], ◌∷◌, ◌++◌, length, map, take, zero, suc, add-one, get_or, refl, sym, ap, ap₂, ◌∙◌, append_assoc, append-nil, arith}
use Rattle.std.specs.Prelude.{◌||◌, Err, IfOk, Ok, OnOk, Result}
use Rattle.std.specs.List.{flat_map, list_any, range_with_len}
use Rattle.std.proofs.lemmas.Grind.{flat_map-append}
use Rattle.std.proofs.lemmas.List.{get_or_default, map-id}
use Rattle.std.proofs.lemmas.List.FromFn.{get_or-map-range_with_len, map-range_with_len_more}

range_more : (n : ℕ) → range_with_len 0 (n + 1) ≡ range_with_len 0 n ++ n ∷ []
range_more n =
    sym (map-id (range_with_len 0 (n + 1))) ∙ map-range_with_len_more (λ (x : ℕ). x) 0 n n (omega arith)
    ∙ ap (λ (r : List ℕ). r ++ n ∷ []) (map-id (range_with_len 0 n))

-- what is added number by number
pub flat_more : {X : Type 0} (f : ℕ → List X) (n : ℕ) (old now next : List X)
    → now ≡ old ++ flat_map f (range_with_len 0 n) → next ≡ now ++ f n
    → next ≡ old ++ flat_map f (range_with_len 0 (n + 1))
flat_more {X} f n old now next so_far more =
    let before : List X = flat_map f (range_with_len 0 n) in
    let last : flat_map f (range_with_len 0 (n + 1)) ≡ before ++ f n =
    ap (flat_map f) (range_more n) ∙ flat_map-append f (range_with_len 0 n) (n ∷ [])
    ∙ ap (λ (xs : List X). before ++ xs) (append-nil (f n)) in
    more ∙ ap (λ (xs : List X). xs ++ f n) so_far ∙ append_assoc old before (f n) ∙ ap (λ (xs : List X). old ++ xs) (sym last)

or-nil : (b : Bool) → (b || false) ≡ b
or-nil true = refl
or-nil false = refl

any-append : {X : Type 0} (p : X → Bool) (xs ys : List X) → list_any p (xs ++ ys) ≡ (list_any p xs || list_any p ys)
any-append p [] ys = refl
any-append p (x ∷ xs) ys = or-assoc (p x) (list_any p xs) (list_any p ys) (list_any p (xs ++ ys)) (any-append p xs ys)
  where
    or-assoc : (a b c d : Bool) → d ≡ (b || c) → (a || d) ≡ ((a || b) || c)
    or-assoc true b c d e = refl
    or-assoc false b c d e = e

-- whether one of the first numbers is so
pub any_more : (p : ℕ → Bool) (n : ℕ) → list_any p (range_with_len 0 (n + 1)) ≡ (list_any p (range_with_len 0 n) || p n)
any_more p n =
    ap (list_any p) (range_more n) ∙ any-append p (range_with_len 0 n) (n ∷ [])
    ∙ ap (λ (b : Bool). list_any p (range_with_len 0 n) || b) (or-nil (p n))

pub none_more : (p : ℕ → Bool) (n : ℕ) → list_any p (range_with_len 0 n) ≡ false → p n ≡ false
    → list_any p (range_with_len 0 (n + 1)) ≡ false
none_more p n none here = any_more p n ∙ ap₂ (λ (a b : Bool). a || b) none here

-- one of them is so
pub any_found : (p : ℕ → Bool) (n count : ℕ) → n < count → p n ≡ true → list_any p (range_with_len 0 count) ≡ true
any_found p n zero inside here = absurd (omega (arith, inside))
any_found p n (suc m) inside here =
    ap (λ (k : ℕ). list_any p (range_with_len 0 k)) (sym (add-one m)) ∙ any_more p m ∙ found (p m) (list_any p (range_with_len 0 m)) refl refl
    (λ other. any_found p n m (omega (arith, inside, other)) here)
  where
    found : (last before : Bool) → p m ≡ last → list_any p (range_with_len 0 m) ≡ before
        → (n ≢ m → list_any p (range_with_len 0 m) ≡ true) → (before || last) ≡ true
    found true true e f earlier = refl
    found true false e f earlier = refl
    found false true e f earlier = refl
    found false false e f earlier =
        let other : n ≢ m = λ same. let both : true ≡ false = sym here ∙ ap p same ∙ e in cc in
        let both : true ≡ false = sym (earlier other) ∙ f in cc

-- the item of a number
pub at_number : {X Y : Type 0} (f : ℕ → X) (xs : List Y) (k : ℕ) (d : X) → k < length xs
    → get_or (map f (range_with_len 0 (length xs))) k d ≡ f k
at_number f xs k d inside = get_or-map-range_with_len f 0 (length xs) k k d inside (omega arith)

-- what follows where a call went well
pub on_ok : {T E : Type 0} (r : Result T E) (P Q : Type 0) → OnOk r P → (P → Q) → OnOk r Q
on_ok (Ok v) P Q h f = f h
on_ok (Err e) P Q h f = h

-- one item of a list more
pub flat_take : {X Y : Type 0} (f : X → List Y) (xs : List X) (i : ℕ) (x : X) → i < length xs → x ≡ get_or xs i x
    → flat_map f (take (i + 1) xs) ≡ flat_map f (take i xs) ++ f x
flat_take {X} f xs i x inside is = ap (λ (k : ℕ). flat_map f (take k xs)) (add-one i) ∙ more xs i inside is
  where
    more : (ys : List X) (k : ℕ) → k < length ys → x ≡ get_or ys k x → flat_map f (take (suc k) ys) ≡ flat_map f (take k ys) ++ f x
    more [] k h e = absurd (omega (arith, h))
    more (y ∷ ys) zero h e = append-nil (f y) ∙ ap f (sym e)
    more (y ∷ ys) (suc k) h e =
        ap (λ (zs : List _). f y ++ zs) (more ys k (omega (arith, h)) e) ∙ sym (append_assoc (f y) (flat_map f (take k ys)) (f x))

-- one item more of what is added item by item
pub flat_more_at : {X Y : Type 0} (f : X → List Y) (xs : List X) (i : ℕ) (d : X) (old now next : List Y) → next ≡ now ++ f (get_or xs i d)
    → now ≡ old ++ flat_map f (take i xs) → i < length xs → next ≡ old ++ flat_map f (take (i + 1) xs)
flat_more_at {X} {Y} f xs i d old now next one so_far inside =
    let x : X = get_or xs i d in
    one ∙ ap (λ (ys : List Y). ys ++ f x) so_far ∙ append_assoc old (flat_map f (take i xs)) (f x)
    ∙ ap (λ (ys : List Y). old ++ ys) (sym (flat_take f xs i x inside (get_or_default xs i d x inside)))

pub map_take : {X Y : Type 0} (f : X → Y) (xs : List X) (i : ℕ) (x : X) → i < length xs → x ≡ get_or xs i x
    → map f (take (i + 1) xs) ≡ map f (take i xs) ++ f x ∷ []
map_take {X} f xs i x inside is = ap (λ (k : ℕ). map f (take k xs)) (add-one i) ∙ more xs i inside is
  where
    more : (ys : List X) (k : ℕ) → k < length ys → x ≡ get_or ys k x → map f (take (suc k) ys) ≡ map f (take k ys) ++ f x ∷ []
    more [] k h e = absurd (omega (arith, h))
    more (y ∷ ys) zero h e = ap (λ (z : X). f z ∷ []) (sym e)
    more (y ∷ ys) (suc k) h e = ap (λ (zs : List _). f y ∷ zs) (more ys k (omega (arith, h)) e)

-- what holds of what a call gave
pub if_ok : {T E : Type 0} (r : Result T E) (P Q : T → Type 0) → IfOk r P → ((v : T) → P v → Q v) → IfOk r Q
if_ok (Ok v) P Q h f = f v h
if_ok (Err e) P Q h f = h
