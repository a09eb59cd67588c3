-- What an `if` comes to behind its arms and the body behind `else`.
use Rattle.std.proofs.Common.{◌≡◌, ℕ, List, [], ◌∷◌, ◌++◌, append-nil, map, Option, Some, None, Result, Ok, Err, refl, ap, ap₂, sym, ◌∙◌, subst, arith}
use Rattle.std.specs.List.{All}
use Rattle.std.specs.Option.{unwrap_or}
use Rattle.koika_check.specs.inner.Checking.{AreTyped, Checks, Grows, IsChecker, IsPart, IsTypeOrUnit, IsTyping, TypedAs, Yields, arrays_of, of_first, scope_of, typing_of}
use Rattle.koika_check.specs.Composites.{type_of_first}
use Rattle.koika_check.specs.Constructs.{ArmTyping, conditional, types_of_parts, place_of_arms, type_of_bodies, typed_of, typing}
use Rattle.koika_check.specs.Constructs as constructs
use Rattle.koika_check.specs.Expressions.{otherwise_in}
use Rattle.koika_check.specs.Outcomes.{Condition, Gives, CheckResult, ◌>>=◌, smallest, unless, where_all}
use Rattle.koika_check.specs.inner.Outcomes.{Stop, Tells}
use Rattle.koika_check.specs.Scopes.{Scope}
use Rattle.koika_check.specs.inner.Shapes.{part_of, type_if}
use Rattle.koika_check.specs.inner.TypedParts.{AreArms, In, IsLast, place_of_first, typings_of}
use Rattle.koika_check.specs.Types.{TypedPart as TypedPart, agrees, bits, each}
use Rattle.koika_check.specs.declared.agreement.Part.{Part}
use Rattle.koika_check.specs.declared.checker.Checker.{Checker}
use Rattle.koika_check.specs.declared.checker.Typing.{Typing}
use Rattle.koika_check.specs.declared.checker.Typings.{Typings}
use Rattle.koika_check.specs.declared.expressions.Arms.{Arms}
use Rattle.koika_check.specs.declared.shapes.Shape.{Shape}
use Rattle.kw_bits.specs.declared.failure.Failure.TheVariants as failures
use Rattle.koika_check.specs.declared.typed.Typed.{Typed}
use Rattle.koika_check.specs.declared.typed.Typed.TheVariants as made
use Rattle.koika_check.specs.declared.typed.ValueType.{ValueType}
use Rattle.koika_check.proofs.Composed.{behind, tells-checks}
use Rattle.koika_check.proofs.Growth.{grows-refl}
use Rattle.koika_check.proofs.PartsInOrder.{typed-grow}

-- ---- the body behind `else`

pub last-none : (c : Checker) → IsChecker c → Yields (In IsLast (scope_of c)) c (otherwise_in (scope_of c) None) c None
last-none c h = record { kept = h; grows = grows-refl c; value = []; gives = refl; means = record { scope_is = refl; means = record { last = refl; type = tt } } }

pub last-gives : (old new : Checker) (look : Scope → CheckResult constructs.Typing) (y : Typing) → Yields (IsTyping (scope_of old)) old (look (scope_of old)) new y →
    Yields (In IsLast (scope_of old)) old (otherwise_in (scope_of old) (Some look)) new (Some y)
last-gives old new look y h = record {
  kept = h.kept;
  grows = h.grows;
  value = h.value ∷ [];
  gives = ap (λ o. o >>= λ (body : constructs.Typing). Gives (body ∷ [])) h.gives;
  means = record {
    scope_is = h.means.scope_is;
    means = record { last = ap (λ (t : constructs.Typing). t ∷ []) (ap₂ (λ (p : TypedPart) (t : Typed). let z : constructs.Typing = record { part = p; typed = t } in z) h.means.part h.means.typed); type = h.means.type };
  };
}

-- ---- arms and the last body

arms-grow : (a b : Checker) → Grows a b → (y : Arms) (xs : List ArmTyping) → AreArms a y xs → AreArms b y xs
arms-grow a b g y xs h = record {
  place = h.place;
  conditions = typed-grow a b g y.conditions _ h.conditions;
  bodies = typed-grow a b g y.bodies _ h.bodies;
}

-- the body behind `else`, behind arms
pub last-checks : (old new : Checker) (last : Option (Scope → CheckResult constructs.Typing)) (arms : Arms) (xs : List ArmTyping) (y : Option Typing) (r : Result Typing Stop) → AreArms old arms xs →
    Yields (In IsLast (scope_of old)) old (otherwise_in (scope_of old) last) new y → ((xs : List ArmTyping) (ys : List constructs.Typing) → AreArms new arms xs → IsLast new y ys → Tells (TypedAs new) (conditional xs ys) r) →
    Checks (IsTyping (scope_of old)) old (otherwise_in (scope_of old) last >>= conditional xs) new r
last-checks old new last arms xs y r h k t =
    behind (In IsLast (scope_of old)) (IsTyping (scope_of old)) old new new (otherwise_in (scope_of old) last) (conditional xs) y r k
    (tells-checks new (scope_of old) (conditional xs k.value) r k.kept k.means.scope_is (t xs k.value (arms-grow old new k.grows arms xs h) k.means.means))

-- the whole
pub choice-checks : (old mid new : Checker) (o : CheckResult (List ArmTyping)) (last : Option (Scope → CheckResult constructs.Typing)) (arms : Arms) (r : Result Typing Stop) → Yields (In AreArms (scope_of old)) old o mid arms →
    ((xs : List ArmTyping) → AreArms mid arms xs → Checks (IsTyping (scope_of mid)) mid (otherwise_in (scope_of mid) last >>= conditional xs) new r) →
    Checks (IsTyping (scope_of old)) old (o >>= λ xs. otherwise_in (scope_of old) last >>= conditional xs) new r
choice-checks old mid new o last arms r h k =
    behind (In AreArms (scope_of old)) (IsTyping (scope_of old)) old mid new o (λ xs. otherwise_in (scope_of old) last >>= conditional xs) arms r h
    (subst (λ s. Checks (IsTyping s) mid (otherwise_in s last >>= conditional h.value) new r) h.means.scope_is (k h.value h.means.means))

-- ---- the conditions of an `if`

tells-unless : {X Y : Type 0} (is : Y → X → Type 0) (c c' : Condition) (z : Y) (x : X) (r : Result Y Stop) → c ≡ c' → is z x → Tells (λ (y z : Y). y ≡ z) (unless c z) r → Tells is (unless c' x) r
tells-unless is c c' z x (Err failures.NoMemory) e h t = tt
tells-unless is None c' z x (Ok y) e h t = subst (λ d. Tells is (unless d x) (Ok y)) e (subst (λ w. is w x) (sym t) h)
tells-unless is None c' z x (Err (failures.Why w)) e h t = absurd t
tells-unless is (Some f) c' z x (Ok y) e h t = absurd t
tells-unless is (Some f) c' z x (Err (failures.Why w)) e h t = subst (λ d. Tells is (unless d x) (Err (failures.Why w))) e t

first-of-bodies : (bodies : List constructs.Typing) (y : constructs.Typing) → type_of_bodies bodies (y ∷ []) ≡ type_of_first (types_of_parts (bodies ++ y ∷ []))
first-of-bodies [] y = refl
first-of-bodies (b ∷ bodies) y = refl

pub first-known : (c : Checker) (ps : List Part) → All (IsPart c) ps → IsTypeOrUnit c (of_first ps)
first-known c [] h = tt
first-known c (p ∷ ps) h = h 0 p (omega arith)

place-alone : (xs : List ArmTyping) → unwrap_or (place_of_first xs) 0 ≡ place_of_arms xs []
place-alone [] = refl
place-alone (x ∷ xs) = refl

place-with : (xs : List ArmTyping) (y : constructs.Typing) → unwrap_or (place_of_first xs) y.part.place ≡ place_of_arms xs (y ∷ [])
place-with [] y = refl
place-with (x ∷ xs) y = refl

-- conditions and bodies of one type
decided-tells : (c : Checker) (arms : Arms) (bodies : Typings) (of : Option Shape) (place : ℕ) (xs : List ArmTyping) (ys : List constructs.Typing) (r : Result Typing Stop) → AreArms c arms xs →
    AreTyped c bodies (map (λ (x : ArmTyping). x.body) xs ++ ys) → type_of_bodies (map (λ (x : ArmTyping). x.body) xs) ys ≡ type_if (arrays_of c) of → IsTypeOrUnit c of → place ≡ place_of_arms xs ys →
    Tells (λ (y z : Typing). y ≡ z) (where_all (each (agrees (Some (bits 1))) (map (part_of (arrays_of c)) arms.conditions.parts) ∷ each (agrees (type_if (arrays_of c) of)) (map (part_of (arrays_of c)) bodies.parts) ∷ [])
    (record { part = record { of = of; place = place }; typed = made.If arms.conditions.typed bodies.typed })) r →
    Tells (TypedAs c) (conditional xs ys) r
decided-tells c arms bodies of place xs ys r h many type known at t =
    tells-unless (TypedAs c)
    (smallest (each (agrees (Some (bits 1))) (map (part_of (arrays_of c)) arms.conditions.parts) ∷ each (agrees (type_if (arrays_of c) of)) (map (part_of (arrays_of c)) bodies.parts) ∷ []))
    (smallest (each (agrees (Some (bits 1))) (types_of_parts (map (λ (x : ArmTyping). x.condition) xs)) ∷ each (agrees (type_of_bodies (map (λ (x : ArmTyping). x.body) xs) ys)) (types_of_parts (map (λ (x : ArmTyping). x.body) xs ++ ys)) ∷ []))
    (record { part = record { of = of; place = place }; typed = made.If arms.conditions.typed bodies.typed })
    (typing (type_of_bodies (map (λ (x : ArmTyping). x.body) xs) ys) (place_of_arms xs ys) (made.If (typed_of (map (λ (x : ArmTyping). x.condition) xs)) (typed_of (map (λ (x : ArmTyping). x.body) xs ++ ys))))
    r
    (ap₂ (λ (a b : Condition). smallest (a ∷ b ∷ [])) (ap (each (agrees (Some (bits 1)))) (sym h.conditions.parts)) (ap₂ (λ (o : Option ValueType) (ps : List TypedPart). each (agrees o) ps) (sym type) (sym many.parts)))
    (ap₂ (λ (o : Option ValueType) (t : Typed). typing o (place_of_arms xs ys) t) type (ap₂ made.If h.conditions.typed many.typed) ∙ ap (λ (p : ℕ). typing (type_if (arrays_of c) of) p (made.If arms.conditions.typed bodies.typed)) (sym at), known)
    t

-- without `else`
pub without-last : (c : Checker) (arms : Arms) (place : ℕ) (xs : List ArmTyping) (ys : List constructs.Typing) (last : Option Typing) (r : Result Typing Stop) → AreArms c arms xs → IsLast c last ys → last ≡ None → place ≡ unwrap_or arms.place 0 →
    Tells (λ (y z : Typing). y ≡ z) (where_all (each (agrees (Some (bits 1))) (map (part_of (arrays_of c)) arms.conditions.parts) ∷ each (agrees None) (map (part_of (arrays_of c)) arms.bodies.parts) ∷ [])
    (record { part = record { of = None; place = place }; typed = made.If arms.conditions.typed arms.bodies.typed })) r →
    Tells (TypedAs c) (conditional xs ys) r
without-last c arms place xs ys last r h l none at t =
    let unit : ys ≡ [] = l.last ∙ ap (typings_of c) none in
    subst (λ zs. Tells (TypedAs c) (conditional xs zs) r) (sym unit)
    (decided-tells c arms arms.bodies None place xs [] r h
    (subst (AreTyped c arms.bodies) (sym (append-nil (map (λ (x : ArmTyping). x.body) xs))) h.bodies) refl tt
    (at ∙ ap (λ (o : Option ℕ). unwrap_or o 0) (sym h.place) ∙ place-alone xs) t)

-- with `else`
pub with-last : (c : Checker) (arms : Arms) (bodies : Typings) (of : Option Shape) (place : ℕ) (xs : List ArmTyping) (ys : List constructs.Typing) (last : Option Typing) (one : Typing) (r : Result Typing Stop) → AreArms c arms xs → IsLast c last ys → last ≡ Some one →
    AreTyped c bodies (map (λ (x : ArmTyping). x.body) xs ++ typing_of c one ∷ []) → type_if (arrays_of c) of ≡ type_of_first (map (part_of (arrays_of c)) bodies.parts) → of ≡ of_first bodies.parts → place ≡ unwrap_or arms.place one.part.place →
    Tells (λ (y z : Typing). y ≡ z) (where_all (each (agrees (Some (bits 1))) (map (part_of (arrays_of c)) arms.conditions.parts) ∷ each (agrees (type_if (arrays_of c) of)) (map (part_of (arrays_of c)) bodies.parts) ∷ [])
    (record { part = record { of = of; place = place }; typed = made.If arms.conditions.typed bodies.typed })) r →
    Tells (TypedAs c) (conditional xs ys) r
with-last c arms bodies of place xs ys last one r h l some many type first at t =
    let one_is : ys ≡ typing_of c one ∷ [] = l.last ∙ ap (typings_of c) some in
    let before = map (λ (x : ArmTyping). x.body) xs in
    subst (λ zs. Tells (TypedAs c) (conditional xs zs) r) (sym one_is)
    (decided-tells c arms bodies of place xs (typing_of c one ∷ []) r h many
    (first-of-bodies before (typing_of c one) ∙ ap type_of_first many.parts ∙ sym type)
    (subst (IsTypeOrUnit c) (sym first) (first-known c bodies.parts many.types))
    (at ∙ ap (λ (o : Option ℕ). unwrap_or o one.part.place) (sym h.place) ∙ place-with xs (typing_of c one)) t)

-- what is known of the parts of the last body
pub last-part : (c : Checker) (last : Option Typing) (one : Typing) (ys : List constructs.Typing) → IsLast c last ys → last ≡ Some one → IsPart c one.part
last-part c None one ys l e = absurd cc
last-part c (Some y) one ys l e = let same : y ≡ one = cc in subst (λ (t : Typing). IsPart c t.part) same l.type
