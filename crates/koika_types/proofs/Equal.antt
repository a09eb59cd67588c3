-- What `==` answers of types.
use Rattle.std.proofs.Common.{◌≡◌, ◌↔◌, ℕ, nat_eq, Bool, true, false, ◌&&◌, refl, sym, ◌∙◌, subst, true≢false, rules}
use Rattle.koika_types.specs.Types.{SameTy}
use Rattle.koika_types.specs.declared.ty.Ty.{Ty}
use Rattle.koika_types.specs.declared.ty.Ty.TheVariants as ty
use Rattle.koika_types.specs.contracts.ty.TyPartialEq.TheImpl as ty_eq
use Rattle.koika_types.specs.contracts.ty.TyPartialEq.TheImpl.Laws.{is, unfolded}

-- the test answers whether the fact holds
abbrev Answers : Bool → Type 0 → Type 0
Answers test P = (test ≡ true) ↔ P

number-same : (x y : ℕ) → Answers (nat_eq x y) (x ≡ y)
number-same x y = search rules

both : (p q : Bool) {P Q : Type 0} → Answers p P → Answers q Q → Answers (p && q) (P × Q)
both true q f g = (λ e. (f.0 refl, g.0 e), λ r. g.1 r.1)
both false q f g = (λ e. absurd cc, λ r. f.1 r.0)

abbrev eq : Ty → Ty → Bool
eq = (ty_eq.ghosts).eq

by : (a b : Ty) {P : Type 0} → Answers (unfolded a b) P → Answers (eq a b) P
by a b {P} h = subst (λ (test : Bool). Answers test P) (sym (is a b)) h

-- `==` answers whether two types are the same
pub eq-SameTy : (a b : Ty) → Answers (eq a b) (SameTy a b)
eq-SameTy (ty.Bits n) (ty.Bits n') = by _ _ (number-same n n')
eq-SameTy (ty.Enum n) (ty.Enum n') = by _ _ (number-same n n')
eq-SameTy (ty.Struct n) (ty.Struct n') = by _ _ (number-same n n')
eq-SameTy (ty.Array' p a n) (ty.Array' p' a' n') = by (ty.Array' p a n) (ty.Array' p' a' n') (both _ _ (eq-SameTy a a') (number-same n n'))
eq-SameTy a b = (λ h. absurd (true≢false (sym h ∙ is a b)), λ h. absurd h)
