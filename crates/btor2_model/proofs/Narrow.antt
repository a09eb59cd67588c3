-- Sorts stay narrow when one more id is declared.
use Rattle.std.proofs.Common.{◌≡◌, ℕ, ◌≤◌, nat_eq, Bool, true, false, cond, Option, Some, subst}
use Rattle.std.specs.Map.{update}
use Rattle.btor2_model.specs.declared.meaning.IdMeaning.{IdMeaning}
use Rattle.btor2_model.specs.declared.meaning.Role.TheVariants as roles

-- the meaning is no sort of more than 128 bits
IsNarrow : IdMeaning → Type 0
IsNarrow m = m.role ≡ roles.Sort → m.width ≤ 128

narrow-cond : (now : Bool) (old : Option IdMeaning) (new meaning : IdMeaning) → ((m : IdMeaning) → old ≡ Some m → IsNarrow m) → IsNarrow new → cond now (Some new) old ≡ Some meaning → IsNarrow meaning
unfolding IsNarrow
narrow-cond true old new meaning olds news is = let same : new ≡ meaning = cc in subst IsNarrow same news
narrow-cond false old new meaning olds news is = olds meaning is

pub narrow-update : (meanings : ℕ → Option IdMeaning) (id : ℕ) (new : IdMeaning) → ((k : ℕ) (m : IdMeaning) → meanings k ≡ Some m → m.role ≡ roles.Sort → m.width ≤ 128)
    → (new.role ≡ roles.Sort → new.width ≤ 128) → (k : ℕ) (m : IdMeaning) → update nat_eq meanings id (Some new) k ≡ Some m → m.role ≡ roles.Sort → m.width ≤ 128
unfolding IsNarrow
narrow-update meanings id new olds news k m is = narrow-cond (nat_eq id k) (meanings k) new m (olds k) news is
