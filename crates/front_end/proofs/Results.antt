-- A result is a value or an error, and one of them.
use Rattle.std.proofs.Common.{◌≡◌, Option, Some, None, Result, Ok, Err, sym, subst, ◌∙◌}
use Rattle.std.specs.Prelude.{IfOk, OnOk}
use Rattle.kw_base.specs.Fault.{IfFault, IsOkUnlessNoMemory}
use Rattle.kw_base.specs.declared.fault.Refusal.{Refusal}
use Rattle.kw_base.specs.declared.fault.Refusal.TheVariants as refusals

pub ok-same : {X E : Type 0} (x y : X) → (r : Result X E) → r ≡ Ok x → r ≡ Ok y → x ≡ y
ok-same x y r h k = let e : Ok x ≡ Ok y = sym h ∙ k in cc

pub err-same : {X E : Type 0} (x y : E) (r : Result X E) → r ≡ Err x → r ≡ Err y → x ≡ y
err-same x y r h k = let e : Err x ≡ Err y = sym h ∙ k in cc

pub ok_or_err : {X E : Type 0} (x : X) (y : E) (r : Result X E) → r ≡ Ok x → r ≡ Err y → ⊥
ok_or_err x y r h k = let e : Ok x ≡ Err y = sym h ∙ k in absurd cc

pub some-same : {X : Type 0} (x y : X) (o : Option X) → o ≡ Some x → o ≡ Some y → x ≡ y
some-same x y o h k = let e : Some x ≡ Some y = sym h ∙ k in cc

pub some_or_none : {X : Type 0} (x : X) (o : Option X) → o ≡ Some x → o ≡ None → ⊥
some_or_none x o h k = let e : Some x ≡ None = sym h ∙ k in absurd cc

-- what is read of what is right has no fault
pub no-fault : {X : Type 0} (r : Result X Refusal) (P : X → Type 0) → IsOkUnlessNoMemory r P → IfFault r (λ fault. ⊥)
no-fault (Ok x) P h = tt
no-fault (Err (refusals.Fault fault)) P h = h
no-fault (Err refusals.NoMemory) P h = tt

-- and is what it should be
pub value-is : {X : Type 0} (r : Result X Refusal) (P : X → Type 0) (x : X) → IsOkUnlessNoMemory r P → r ≡ Ok x → P x
value-is {X} r P x h is = subst (λ (read : Result X Refusal). IsOkUnlessNoMemory read P) is h

-- what follows from two facts of a value
pub both-ok : {X E : Type 0} (r : Result X E) (P Q R : X → Type 0) → ((x : X) → P x → Q x → R x) → IfOk r P → IfOk r Q → IfOk r R
both-ok (Ok x) P Q R f h k = f x h k
both-ok (Err e) P Q R f h k = tt

-- what holds holds where there is a value
pub on-ok-any : {E : Type 0} (r : Result (Unit {0}) E) (P : Type 0) → P → OnOk r P
on-ok-any (Ok u) P p = p
on-ok-any (Err e) P p = tt
