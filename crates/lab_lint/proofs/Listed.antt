-- Accesses that are among those of lists.
use Rattle.std.proofs.Common.{◌≡◌, inl, inr, ℕ, zero, suc, ◌<◌, Bool, true, false, List, [], ◌∷◌, ◌++◌, length, map, refl, sym, ap, ap₂, ◌∙◌, subst, eq-eqb, eqb-true, arith}
use Rattle.std.specs.Prelude.{Contains, ◌==◌, ◌&&◌, slice_index_or}
use Rattle.std.specs.List.{AllByRecursion, filter, list_any}
use Rattle.std.proofs.lemmas.Bool.{and_parts}
use Rattle.typed_core.specs.Clash.{clashes, ports_clash}
use Rattle.typed_core.specs.Laws.{read_at, write_at}
use Rattle.typed_core.specs.Valid.{IsPort}
use Rattle.typed_core.specs.declared.access.Access.{Access}
use Rattle.koika_check.specs.declared.checked.Checked.{Checked}
use Rattle.lab_core.specs.Numbers.{same_access, same_kind}
use Rattle.lab_lint.specs.Occurrences.{Pair, Part, rule_part}
use Rattle.lab_lint.specs.Refusals.{accesses_of, cannot_follow, clashed, clashing, is_access, is_refused_in, made, occurs_in, own_writes, ports}
use Rattle.lab_lint.proofs.Among.{Among, among-any, among-filter, among-left, among-map, among-right}
use Rattle.lab_lint.proofs.Does.{occurs, pair}

-- ---- items of a list

pub contains : {X : Type 0} (x : X) (xs : List X) → Among x xs → Contains xs x
contains x [] h = absurd h
contains x (y ∷ xs) (inl e) = (0, omega arith, sym e)
contains x (y ∷ xs) (inr h) = let rest = contains x xs h in (suc rest.0, omega (arith, rest.1), rest.2)

pub contained : {X : Type 0} (x : X) (xs : List X) → Contains xs x → Among x xs
contained x [] (k, inside, e) = absurd (omega (arith, inside))
contained x (y ∷ xs) (zero, inside, e) = inl (sym e)
contained x (y ∷ xs) (suc k, inside, e) = inr (contained x xs (k, omega (arith, inside), e))

-- ---- accesses

same-self : (a : Access) → same_access a a ≡ true
same-self a = ap₂ (λ x y. x && y) (ap₂ (λ x y. x && y) (kind a.write) (eq-eqb a.port a.port refl)) (eq-eqb a.register a.register refl)
  where
    kind : (b : Bool) → same_kind b b ≡ true
    kind true = refl
    kind false = refl

port-among : (port : ℕ) → IsPort port → Among port ports
port-among zero h = inl refl
port-among (suc zero) h = inr (inl refl)
port-among (suc (suc zero)) h = inr (inr (inl refl))
port-among (suc (suc (suc zero))) h = inr (inr (inr (inl refl)))
port-among (suc (suc (suc (suc port)))) h = absurd (omega (arith, h))

-- an access is a read or a write at its port
as-kind : (a : Access) (w : Bool) → a.write ≡ w → a ≡ record { write = w; port = a.port; register = a.register }
as-kind a w e = ap (λ (x : Bool). let b : Access = record { write = x; port = a.port; register = a.register } in b) e

access-among : (a : Access) → IsPort a.port → Among a (accesses_of a.register)
access-among a h = chosen a.write refl
  where
    chosen : (w : Bool) → a.write ≡ w → Among a (accesses_of a.register)
    chosen false e =
        subst (λ (x : Access). Among x (accesses_of a.register)) (sym (as-kind a false e))
        (among-left (read_at a.port a.register) (map (λ port. read_at port a.register) ports) (map (λ port. write_at port a.register) ports) (among-map (λ port. read_at port a.register) a.port ports (port-among a.port h)))
    chosen true e =
        subst (λ (x : Access). Among x (accesses_of a.register)) (sym (as-kind a true e))
        (among-right (write_at a.port a.register) (map (λ port. read_at port a.register) ports) (map (λ port. write_at port a.register) ports) (among-map (λ port. write_at port a.register) a.port ports (port-among a.port h)))

-- an access that occurs is among those of its register that the rule makes
made-among : (d : Checked) (rule : ℕ) (a : Access) → IsPort a.port → Among (occurs a) (rule_part d rule).all → Among a (made d rule a.register)
made-among d rule a h o =
    among-filter (occurs_in (rule_part d rule)) a (accesses_of a.register) (access-among a h)
    (among-any (is_access a) (occurs a) (rule_part d rule).all o (same-self a))

-- a write with an earlier access that it cannot follow
pub own-among : (d : Checked) (rule : ℕ) (a e : Access) → IsPort a.port → a.write ≡ true → Among (occurs a) (rule_part d rule).all → Among (pair e a) (rule_part d rule).pairs → clashes a e ≡ true → Contains (own_writes d rule a.register) a
own-among d rule a e h write o p clash =
    contains a (own_writes d rule a.register)
    (among-filter (λ (x : Access). x.write && is_refused_in (rule_part d rule) x) a (made d rule a.register) (made-among d rule a h o)
    (ap₂ (λ x y. x && y) write (among-any (λ (q : Pair). is_access a q.later && cannot_follow a q.earlier) (pair e a) (rule_part d rule).pairs p (ap₂ (λ x y. x && y) (same-self a) clash))))

-- two accesses of two rules, of which one cannot follow the other
module _ (d : Checked) (rule earlier : ℕ) (a e : Access) (a_port : IsPort a.port) (e_port : IsPort e.port) (mine : Among (occurs a) (rule_part d rule).all) (other : Among (occurs e) (rule_part d earlier).all)
    (clash : clashes a e ≡ true) where
  one-register : e.register ≡ a.register
  one-register = sym (eqb-true a.register e.register (and_parts (a.register == e.register) (ports_clash a.write a.port e.write e.port) clash).0)

  first : Among a (made d rule a.register)
  first = made-among d rule a a_port mine

  second : Among e (made d earlier a.register)
  second = subst (λ register. Among e (made d earlier register)) one-register (made-among d earlier e e_port other)

  pub clashing-among : Contains (clashing d rule earlier a.register) a
  clashing-among =
      contains a (clashing d rule earlier a.register)
      (among-filter (λ (x : Access). list_any (λ (y : Access). clashes x y) (made d earlier a.register)) a (made d rule a.register) first
      (among-any (λ (y : Access). clashes a y) e (made d earlier a.register) second clash))

  pub clashed-among : Contains (clashed d rule earlier a.register) e
  clashed-among =
      contains e (clashed d rule earlier a.register)
      (among-filter (λ (y : Access). list_any (λ (x : Access). clashes x y) (made d rule a.register)) e (made d earlier a.register) second
      (among-any (λ (x : Access). clashes x e) a (made d rule a.register) first clash))
