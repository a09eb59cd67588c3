-- What a call answers where the calls that it makes answer what outcomes say, and what parts one by one come to.
use Rattle.std.proofs.Common.{◌≡◌, ℕ, suc, ◌+◌, ◌<◌, ◌≤◌, List, [], ◌∷◌, length, drop, get_or, Option, Some, None, Ok, Err, refl, ap, sym, ◌∙◌, add-one}
use Rattle.std.proofs.Math.Seq.{drop-cons}
use Rattle.std.proofs.lemmas.List.{drop_all}
use Rattle.koika_check.specs.Outcomes.{Condition, Gives, Fails, CheckResult, ◌>>=◌, found, one_by_one, smaller, smallest, unless, where_all}
use Rattle.koika_check.specs.inner.Outcomes.{Ends, Passes, Stop, Tells}
use Rattle.kw_bits.specs.declared.failure.Failure.TheVariants as failures
use Rattle.koika_check.specs.declared.stop.Wrong.{Wrong}

-- why a part ends is why the whole ends
pub ends : {X Y : Type 0} (whole : CheckResult Y) (o : CheckResult X) (f : X → CheckResult Y) (e : Stop) → whole ≡ (o >>= f) → Ends o e → Ends whole e
ends whole o f failures.NoMemory q h = tt
ends whole o f (failures.Why w) q h = q ∙ ap (λ p. p >>= f) h

pub ends-same : {X : Type 0} (whole o : CheckResult X) (e : Stop) → whole ≡ o → Ends o e → Ends whole e
ends-same whole o failures.NoMemory q h = tt
ends-same whole o (failures.Why w) q h = q ∙ h

pub tells-ends : {X Y : Type 0} (is : Y → X → Type 0) (o : CheckResult X) (e : Stop) → Tells is o (Err e) → Ends o e
tells-ends is o failures.NoMemory h = tt
tells-ends is (Gives x) (failures.Why w) h = absurd h
tells-ends is (Fails f) (failures.Why w) h = ap Fails (sym h)

-- what is found is there
pub found-some : {X : Type 0} (o : Option X) (w : Wrong) (x : X) → found o w ≡ Gives x → o ≡ Some x
found-some None w x e = absurd cc
found-some (Some y) w x e = cc

-- a part of what gives something gives something
pub bind-gives : {X Y : Type 0} (o : CheckResult X) (f : X → CheckResult Y) (y : Y) → (o >>= f) ≡ Gives y → (x : X) × (o ≡ Gives x) × (f x ≡ Gives y)
bind-gives (Gives x) f y e = (x, refl, e)
bind-gives (Fails w) f y e = absurd cc

-- the fault of a condition ends a call, which goes on where it holds
pub passes-ends : (X : Type 0) {Y : Type 0} (c c' : Condition) (y : Y) (e : Stop) → c ≡ c' → Passes {X = X} c (Err e) → Ends (where_all (c' ∷ []) y) e
passes-ends X c c' y failures.NoMemory q h = tt
passes-ends X None c' y (failures.Why w) q h = absurd h
passes-ends X (Some f) c' y (failures.Why w) q h = ap (λ (k : Condition). unless (smaller k None) y) (sym q) ∙ ap Fails (sym h)

pub passes-gives : {X Y : Type 0} (c c' : Condition) (x : X) (y : Y) → c ≡ c' → Passes c (Ok x) → where_all (c' ∷ []) y ≡ Gives y
passes-gives None c' x y q h = ap (λ (k : Condition). unless (smaller k None) y) (sym q)
passes-gives (Some f) c' x y q h = absurd h

-- the same of several conditions
pub all-ends : (X : Type 0) {Y : Type 0} (c : Condition) (cs : List Condition) (y : Y) (e : Stop) → c ≡ smallest cs → Passes {X = X} c (Err e) → Ends (where_all cs y) e
all-ends X c cs y failures.NoMemory q h = tt
all-ends X None cs y (failures.Why w) q h = absurd h
all-ends X (Some f) cs y (failures.Why w) q h = ap (λ (k : Condition). unless k y) (sym q) ∙ ap Fails (sym h)

pub all-gives : {X Y : Type 0} (c : Condition) (cs : List Condition) (x : X) (y : Y) → c ≡ smallest cs → Passes c (Ok x) → where_all cs y ≡ Gives y
all-gives None cs x y q h = ap (λ (k : Condition). unless k y) (sym q)
all-gives (Some f) cs x y q h = absurd h

-- ---- parts one by one

pub next-drop : {X : Type 0} (xs : List X) (i : ℕ) (d x : X) → i < length xs → x ≡ get_or xs i d → drop i xs ≡ x ∷ drop (i + 1) xs
next-drop xs i d x lt e = drop-cons xs i d lt ∙ ap (λ y. y ∷ drop (suc i) xs) (sym e) ∙ ap (λ n. x ∷ drop n xs) (sym (add-one i))

pub step-ok : {X S : Type 0} (look : X → S → CheckResult S) (xs : List X) (i : ℕ) (x : X) (s next start : S) → i < length xs → x ≡ get_or xs i x →
    one_by_one look (drop i xs) s ≡ one_by_one look xs start → look x s ≡ Gives next → one_by_one look (drop (i + 1) xs) next ≡ one_by_one look xs start
step-ok look xs i x s next start lt item before gives =
    ap (λ o. o >>= one_by_one look (drop (i + 1) xs)) (sym gives) ∙ ap (λ l. one_by_one look l s) (sym (next-drop xs i x x lt item)) ∙ before

pub step-err : {X S : Type 0} (look : X → S → CheckResult S) (xs : List X) (i : ℕ) (x : X) (s start : S) (e : Stop) → i < length xs → x ≡ get_or xs i x →
    one_by_one look (drop i xs) s ≡ one_by_one look xs start → Ends (look x s) e → Ends (one_by_one look xs start) e
step-err look xs i x s start e lt item before h =
    ends (one_by_one look xs start) (look x s) (one_by_one look (drop (i + 1) xs)) e (sym before ∙ ap (λ l. one_by_one look l s) (next-drop xs i x x lt item)) h

pub all-done : {X S : Type 0} (look : X → S → CheckResult S) (xs : List X) (i : ℕ) (s start : S) → length xs ≤ i →
    one_by_one look (drop i xs) s ≡ one_by_one look xs start → one_by_one look xs start ≡ Gives s
all-done look xs i s start le before = sym before ∙ ap (λ l. one_by_one look l s) (drop_all i xs le)
