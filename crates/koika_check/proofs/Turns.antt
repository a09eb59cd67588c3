-- Parts that are looked at one after another, as far as they were looked at.
use Rattle.std.proofs.Common.{◌≡◌, ℕ, ◌+◌, ◌<◌, List, [], ◌∷◌, ◌++◌, length, map, take, drop, get_or, zero, suc, None, Some, Err, refl, ap, sym, ◌∙◌, subst, arith}
use Rattle.std.proofs.lemmas.List.{drop_more, take-append-drop, take_more}
use Rattle.koika_check.specs.Outcomes.{Condition, Fails, Gives, CheckResult, ◌>>=◌, in_turn, one_by_one, unless}
use Rattle.koika_check.specs.inner.Outcomes.{Ends, Passes, Stop, Tells}
use Rattle.kw_bits.specs.declared.failure.Failure.TheVariants as failures

-- ---- outcomes one after another

pub bind-gives : {X : Type 0} (o : CheckResult X) → (o >>= λ x. Gives x) ≡ o
bind-gives (Gives x) = refl
bind-gives (Fails w) = refl

pub bind-bind : {X Y Z : Type 0} (o : CheckResult X) (f : X → CheckResult Y) (g : Y → CheckResult Z) → ((o >>= f) >>= g) ≡ (o >>= λ x. f x >>= g)
bind-bind (Gives x) f g = refl
bind-bind (Fails w) f g = refl

-- ---- why checking ends

pub ends-bind : {X Y : Type 0} (o : CheckResult X) (f : X → CheckResult Y) (e : Stop) → Ends o e → Ends (o >>= f) e
ends-bind o f failures.NoMemory h = tt
ends-bind o f (failures.Why w) h = ap (λ p. p >>= f) h

pub ends-same : {X : Type 0} (o o' : CheckResult X) (e : Stop) → o ≡ o' → Ends o' e → Ends o e
ends-same o o' e same h = subst (λ p. Ends p e) (sym same) h

-- what comes behind a part that gives this ends as the whole does
pub ends-behind : {X Y : Type 0} (o : CheckResult X) (f : X → CheckResult Y) (x : X) (e : Stop) → o ≡ Gives x → Ends (f x) e → Ends (o >>= f) e
ends-behind o f x e gives h = ends-same (o >>= f) (f x) e (ap (λ p. p >>= f) gives) h

pub ends-tells : {X Y : Type 0} (is : Y → X → Type 0) (o : CheckResult X) (e : Stop) → Tells is o (Err e) → Ends o e
ends-tells is o failures.NoMemory h = tt
ends-tells is (Gives x) (failures.Why w) h = absurd h
ends-tells is (Fails v) (failures.Why w) h = ap Fails (sym h)

pub ends-passes : (Y : Type 0) {X : Type 0} (c : Condition) (x : X) (e : Stop) → Passes {X = Y} c (Err e) → Ends (unless c x) e
ends-passes Y None x e h = absurd h
ends-passes Y (Some v) x (failures.Why w) h = ap Fails (sym h)
ends-passes Y (Some v) x failures.NoMemory h = absurd h

-- ---- all in turn

pub turn-push : {X Y : Type 0} (look : X → CheckResult Y) (xs : List X) (i : ℕ) (x : X) (ys : List Y) (y : Y) → i < length xs → x ≡ get_or xs i x →
    in_turn look (take i xs) ≡ Gives ys → look x ≡ Gives y → in_turn look (take (i + 1) xs) ≡ Gives (ys ++ y ∷ [])
turn-push {X = X} {Y = Y} look xs i x ys y lt is before now =
    ap (in_turn look) (take_more xs i x lt ∙ ap (λ z. take i xs ++ z ∷ []) (sym is)) ∙ behind (take i xs) x ys y before now
  where
    consed : (o : CheckResult Y) (p : CheckResult (List Y)) (ys : List Y) → (o >>= λ z. p >>= λ zs. Gives (z ∷ zs)) ≡ Gives ys → (z : Y) × (zs : List Y) × (o ≡ Gives z) × (p ≡ Gives zs) × (ys ≡ z ∷ zs)
    consed (Gives z) (Gives zs) ys e = (z, zs, refl, refl, sym (given e))
      where
        given : {a b : List Y} → Gives a ≡ Gives b → a ≡ b
        given e = cc
    consed (Gives z) (Fails w) ys e = absurd cc
    consed (Fails w) p ys e = absurd cc

    none : (ys : List Y) → ◌≡◌ {A = CheckResult (List Y)} (Gives []) (Gives ys) → [] ≡ ys
    none ys e = cc

    behind : (xs : List X) (x : X) (ys : List Y) (y : Y) → in_turn look xs ≡ Gives ys → look x ≡ Gives y → in_turn look (xs ++ x ∷ []) ≡ Gives (ys ++ y ∷ [])
    behind [] x ys y e now = ap (λ o. o >>= λ z. Gives (z ∷ [])) now ∙ ap (λ zs. Gives (zs ++ y ∷ [])) (none ys e)
    behind (a ∷ xs) x ys y e now =
        let r = consed (look a) (in_turn look xs) ys e in
        ap (λ o. o >>= λ z. in_turn look (xs ++ x ∷ []) >>= λ zs. Gives (z ∷ zs)) r.2
        ∙ ap (λ p. p >>= λ zs. Gives (r.0 ∷ zs)) (behind xs x r.1 y r.3 now)
        ∙ ap (λ zs. Gives (zs ++ y ∷ [])) (sym r.4)

pub turn-ends : {X Y : Type 0} (look : X → CheckResult Y) (xs : List X) (i : ℕ) (x : X) (ys : List Y) (e : Stop) → i < length xs → x ≡ get_or xs i x →
    in_turn look (take i xs) ≡ Gives ys → Ends (look x) e → Ends (in_turn look xs) e
turn-ends {X = X} {Y = Y} look xs i x ys failures.NoMemory lt is before h = tt
turn-ends {X = X} {Y = Y} look xs i x ys (failures.Why w) lt is before h = by_front xs i x ys lt is before h
  where
    consed : (o : CheckResult Y) (p : CheckResult (List Y)) (ys : List Y) → (o >>= λ z. p >>= λ zs. Gives (z ∷ zs)) ≡ Gives ys → (z : Y) × (zs : List Y) × (o ≡ Gives z) × (p ≡ Gives zs)
    consed (Gives z) (Gives zs) ys e = (z, zs, refl, refl)
    consed (Gives z) (Fails w) ys e = absurd cc
    consed (Fails w) p ys e = absurd cc

    by_front : (xs : List X) (i : ℕ) (x : X) (ys : List Y) → i < length xs → x ≡ get_or xs i x → in_turn look (take i xs) ≡ Gives ys → look x ≡ Fails w → in_turn look xs ≡ Fails w
    by_front [] i x ys lt is before h = absurd (omega (arith, lt))
    by_front (a ∷ xs) zero x ys lt is before h = ap (λ z. look z >>= λ y. in_turn look xs >>= λ ys. Gives (y ∷ ys)) (sym is) ∙ ap (λ o. o >>= λ y. in_turn look xs >>= λ ys. Gives (y ∷ ys)) h
    by_front (a ∷ xs) (suc i) x ys lt is before h =
        let r = consed (look a) (in_turn look (take i xs)) ys before in
        ap (λ o. o >>= λ y. in_turn look xs >>= λ ys. Gives (y ∷ ys)) r.2 ∙ ap (λ p. p >>= λ ys. Gives (r.0 ∷ ys)) (by_front xs i x r.1 (omega (arith, lt)) is r.3 h)

pub turn-map : {X Y Z : Type 0} (look : Y → CheckResult Z) (f : X → Y) (xs : List X) → in_turn look (map f xs) ≡ in_turn (λ x. look (f x)) xs
turn-map look f [] = refl
turn-map look f (x ∷ xs) = ap (λ o. look (f x) >>= λ y. o >>= λ ys. Gives (y ∷ ys)) (turn-map look f xs)

-- ---- one by one

one-append : {X S : Type 0} (look : X → S → CheckResult S) (xs ys : List X) (s : S) → one_by_one look (xs ++ ys) s ≡ (one_by_one look xs s >>= one_by_one look ys)
one-append look [] ys s = refl
one-append {X = X} {S = S} look (x ∷ xs) ys s = behind (look x s) (one-append look xs ys)
  where
    behind : (o : CheckResult S) → ((t : S) → one_by_one look (xs ++ ys) t ≡ (one_by_one look xs t >>= one_by_one look ys)) → (o >>= one_by_one look (xs ++ ys)) ≡ ((o >>= one_by_one look xs) >>= one_by_one look ys)
    behind (Gives t) rest = rest t
    behind (Fails w) rest = refl

pub one-push : {X S : Type 0} (look : X → S → CheckResult S) (xs : List X) (i : ℕ) (x : X) (s t : S) → i < length xs → x ≡ get_or xs i x →
    one_by_one look (take i xs) s ≡ Gives t → one_by_one look (take (i + 1) xs) s ≡ look x t
one-push look xs i x s t lt is before =
    ap (λ zs. one_by_one look zs s) (take_more xs i x lt ∙ ap (λ z. take i xs ++ z ∷ []) (sym is)) ∙ one-append look (take i xs) (x ∷ []) s
    ∙ ap (λ o. o >>= one_by_one look (x ∷ [])) before ∙ bind-gives (look x t)

pub one-ends : {X S : Type 0} (look : X → S → CheckResult S) (xs : List X) (i : ℕ) (x : X) (s t : S) (e : Stop) → i < length xs → x ≡ get_or xs i x →
    one_by_one look (take i xs) s ≡ Gives t → Ends (look x t) e → Ends (one_by_one look xs s) e
one-ends look xs i x s t e lt is before h =
    ends-same (one_by_one look xs s) (look x t >>= one_by_one look (drop (i + 1) xs)) e
    (ap (λ zs. one_by_one look zs s) (sym (take-append-drop i xs) ∙ ap (λ zs. take i xs ++ zs) (drop_more xs i x lt ∙ ap (λ z. z ∷ drop (i + 1) xs) (sym is)))
    ∙ one-append look (take i xs) (x ∷ drop (i + 1) xs) s ∙ ap (λ o. o >>= one_by_one look (x ∷ drop (i + 1) xs)) before)
    (ends-bind (look x t) (one_by_one look (drop (i + 1) xs)) e h)

pub one-map : {X Y S : Type 0} (look : Y → S → CheckResult S) (f : X → Y) (xs : List X) (s : S) → one_by_one look (map f xs) s ≡ one_by_one (λ x. look (f x)) xs s
one-map look f [] s = refl
one-map {X = X} {S = S} look f (x ∷ xs) s = behind (look (f x) s) (one-map look f xs)
  where
    behind : (o : CheckResult S) → ((t : S) → one_by_one look (map f xs) t ≡ one_by_one (λ x. look (f x)) xs t) → (o >>= one_by_one look (map f xs)) ≡ (o >>= one_by_one (λ x. look (f x)) xs)
    behind (Gives t) rest = rest t
    behind (Fails w) rest = refl

-- what comes behind a part that gives this
pub gives-behind : {X Y : Type 0} (o : CheckResult X) (f : X → CheckResult Y) (x : X) → o ≡ Gives x → (o >>= f) ≡ f x
gives-behind o f x e = ap (λ p. p >>= f) e
