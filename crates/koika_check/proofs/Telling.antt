-- What a call answers where the calls that it makes tell what outcomes say.
use Rattle.std.proofs.Common.{◌≡◌, refl, sym, ◌∙◌, ap, subst, Ok, Err, ℕ, Option, None, Some, Bool, true, false, cond, nat_lt, [], ◌∷◌}
use Rattle.koika_check.specs.Outcomes.{Condition, Gives, Fails, CheckResult, ◌>>=◌, found, holds, smaller, unless, where_all}
use Rattle.koika_check.specs.inner.Outcomes.{Passes, Stop, Tells}
use Rattle.kw_bits.specs.declared.failure.Failure.TheVariants as failures
use Rattle.koika_check.specs.declared.stop.Wrong.{Wrong}

-- a result is told as a result
pub tells-ok : {X Y : Type 0} (is : Y → X → Type 0) (o : CheckResult X) (y : Y) → Tells is o (Ok y) → (x : X) × (o ≡ Gives x) × is y x
tells-ok is (Gives x) y h = (x, refl, h)
tells-ok is (Fails f) y h = absurd h

-- why a part ends is why the whole ends
pub tells-err : {X Y X' Y' : Type 0} (is : Y → X → Type 0) (is' : Y' → X' → Type 0) (o : CheckResult X) (f : X → CheckResult X') (e : Stop) → Tells is o (Err e) → Tells is' (o >>= f) (Err e)
tells-err is is' (Gives x) f (failures.Why w) h = absurd h
tells-err is is' (Fails w') f (failures.Why w) h = h
tells-err is is' o f failures.NoMemory h = h

-- a condition holds behind a call that goes on; its fault is that of a call that ends
pub passes-ok : {X : Type 0} (c : Condition) (x : X) → Passes c (Ok x) → c ≡ None
passes-ok None x h = refl
passes-ok (Some w) x h = absurd h

pub passes-err : (X : Type 0) {Y Z : Type 0} (is : Z → Y → Type 0) (c : Condition) (y : Y) (e : Stop) → Passes {X = X} c (Err e) → Tells is (unless c y) (Err e)
passes-err X is None y e h = absurd h
passes-err X is (Some w) y (failures.Why w') h = h
passes-err X is (Some w) y failures.NoMemory h = absurd h

smaller-none : (c : Condition) → smaller c None ≡ c
smaller-none None = refl
smaller-none (Some w) = refl

-- one condition, and two
pub one-ok : {X Y : Type 0} (c c' : Condition) (x : X) (y : Y) → c ≡ c' → Passes c (Ok x) → where_all (c' ∷ []) y ≡ Gives y
one-ok c c' x y e h = ap (λ d. unless d y) (smaller-none c' ∙ sym e ∙ passes-ok c x h)

pub one-err : (X : Type 0) {Y Z : Type 0} (is : Z → Y → Type 0) (c c' : Condition) (y : Y) (e : Stop) → c ≡ c' → Passes {X = X} c (Err e) → Tells is (where_all (c' ∷ []) y) (Err e)
one-err X is c c' y e same h = subst (λ d. Tells is (unless d y) (Err e)) (same ∙ sym (smaller-none c')) (passes-err X is c y e h)

pub two-ok : {X Y : Type 0} (a b a' b' c : Condition) (x : X) (y : Y) → c ≡ smaller a b → a ≡ a' → b ≡ b' → Passes c (Ok x) → where_all (a' ∷ b' ∷ []) y ≡ Gives y
two-ok a b a' b' c x y is ea eb h =
    ap (λ d. unless d y) (ap (smaller a') (smaller-none b') ∙ sym (is ∙ ap (λ d. smaller d b) ea ∙ ap (smaller a') eb) ∙ passes-ok c x h)

pub two-err : (X : Type 0) {Y Z : Type 0} (is : Z → Y → Type 0) (a b a' b' c : Condition) (y : Y) (e : Stop) → c ≡ smaller a b → a ≡ a' → b ≡ b' → Passes {X = X} c (Err e) → Tells is (where_all (a' ∷ b' ∷ []) y) (Err e)
two-err X is a b a' b' c y e whole ea eb h =
    subst (λ d. Tells is (unless d y) (Err e)) (whole ∙ ap (λ d. smaller d b) ea ∙ ap (smaller a') eb ∙ ap (smaller a') (sym (smaller-none b'))) (passes-err X is c y e h)

-- whether conditions hold doesn't rest on what there is where they do
pub unless-ok : {X Y Z : Type 0} (is : Z → X → Type 0) (c : Condition) (x : X) (y : Y) (z : Z) → Tells is (unless c x) (Ok z) → unless c y ≡ Gives y
unless-ok is None x y z h = refl
unless-ok is (Some w) x y z h = absurd h

pub unless-err : {X Y Z Z' : Type 0} (is : Z → X → Type 0) (is' : Z' → Y → Type 0) (c : Condition) (x : X) (y : Y) (e : Stop) → Tells is (unless c x) (Err e) → Tells is' (unless c y) (Err e)
unless-err is is' c x y failures.NoMemory h = h
unless-err is is' None x y (failures.Why w) h = absurd h
unless-err is is' (Some v) x y (failures.Why w) h = h

-- what stands for what there is
pub tells-with : {X Y Y' : Type 0} (is : Y → X → Type 0) (is' : Y' → X → Type 0) (o : CheckResult X) (y : Y) (y' : Y') → ((x : X) → is y x → is' y' x) → Tells is o (Ok y) → Tells is' o (Ok y')
tells-with is is' (Gives x) y y' f h = f x h
tells-with is is' (Fails w) y y' f h = absurd h

-- what stands for the result where the conditions hold
pub unless-with : {X Y Y' : Type 0} (is : Y → X → Type 0) (is' : Y' → X → Type 0) (c : Condition) (x : X) (y : Y) (y' : Y') → (is y x → is' y' x) → Tells is (unless c x) (Ok y) → Tells is' (unless c x) (Ok y')
unless-with is is' None x y y' f h = f h
unless-with is is' (Some w) x y y' f h = absurd h

-- the fault that a call answers
pub tells-fault : {X Y : Type 0} (is : Y → X → Type 0) (o : CheckResult X) (w : Wrong) (e : Stop) → e ≡ failures.Why w → o ≡ Fails w → Tells is o (Err e)
tells-fault {X} {Y} is o w e se oe = subst (λ s. Tells is o (Err s)) (sym se) (subst (λ p. Tells is p (Err (failures.Why w))) (sym oe) refl)

-- conditions as they were joined
pub one-is : {Y : Type 0} (c c' : Condition) (y : Y) → c ≡ c' → where_all (c' ∷ []) y ≡ unless c y
one-is c c' y e = ap (λ d. unless d y) (smaller-none c' ∙ sym e)

pub two-is : {Y : Type 0} (a b a' b' c : Condition) (y : Y) → c ≡ smaller a b → a ≡ a' → b ≡ b' → where_all (a' ∷ b' ∷ []) y ≡ unless c y
two-is a b a' b' c y is ea eb = ap (λ d. unless d y) (ap (smaller a') (smaller-none b') ∙ sym (is ∙ ap (λ d. smaller d b) ea ∙ ap (smaller a') eb))

pub three-is : {Y : Type 0} (a b d a' b' d' r c : Condition) (y : Y) → c ≡ smaller a r → r ≡ smaller b d → a ≡ a' → b ≡ b' → d ≡ d' → where_all (a' ∷ b' ∷ d' ∷ []) y ≡ unless c y
three-is a b d a' b' d' r c y is behind ea eb ed =
    ap (λ e. unless e y)
    (ap (λ e. smaller a' (smaller b' e)) (smaller-none d') ∙ sym (is ∙ ap (λ e. smaller e r) ea ∙ ap (smaller a') (behind ∙ ap (λ e. smaller e d) eb ∙ ap (smaller b') ed)))

-- where none of two conditions fails
pub smaller-both : (a b : Condition) → smaller a b ≡ None → (a ≡ None) × (b ≡ None)
smaller-both None b e = (refl, e)
smaller-both (Some v) None e = absurd cc
smaller-both (Some v) (Some w) e = by_number (nat_lt w.number v.number) e
  where
    by_number : (t : Bool) → cond t (Some w) (Some v) ≡ None → (◌≡◌ {A = Condition} (Some v) None) × (◌≡◌ {A = Condition} (Some w) None)
    by_number true e = absurd cc
    by_number false e = absurd cc

pub holds-true : (t : Bool) (w : Wrong) → holds t w ≡ None → t ≡ true
holds-true true w e = refl
holds-true false w e = absurd cc

-- what was found
pub tells-found : (o : Option ℕ) (w : Wrong) (n : ℕ) → Tells (λ m of. m ≡ of) (found o w) (Ok n) → o ≡ Some n
tells-found None w n h = absurd h
tells-found (Some m) w n h = ap Some (sym h)
