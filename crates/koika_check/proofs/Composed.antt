-- What a construct comes to behind parts that give values.
use Rattle.std.proofs.Common.{◌≡◌, ℕ, List, Result, Ok, Err, refl, ap, ap₂, sym, ◌∙◌, subst}
use Rattle.koika_syntax.specs.declared.tree.Name.{Name}
use Rattle.koika_check.specs.inner.Checking.{AreTyped, Checks, Grows, IsCalled, IsChecker, IsPart, IsTyping, Stands, TypedAs, Yields, arrays_of, scope_of, typing_of}
use Rattle.koika_check.specs.Constructs as constructs
use Rattle.koika_check.specs.Outcomes.{Fails, Gives, CheckResult, ◌>>=◌}
use Rattle.koika_check.specs.inner.Outcomes.{Ends, Stop, Tells}
use Rattle.koika_check.specs.Scopes as scopes
use Rattle.koika_check.specs.Scopes.{Scope}
use Rattle.koika_check.specs.inner.Shapes.{part_of}
use Rattle.koika_check.specs.inner.TypedParts.{In}
use Rattle.koika_check.specs.Types.{TypedPart as TypedPart, part}
use Rattle.koika_check.specs.declared.calls.Called.{Called}
use Rattle.koika_check.specs.declared.checked.Checked.{Checked}
use Rattle.koika_check.specs.declared.checker.Checker.{Checker}
use Rattle.koika_check.specs.declared.checker.Typing.{Typing}
use Rattle.koika_check.specs.declared.checker.Typings.{Typings}
use Rattle.koika_check.specs.declared.typed.Typed.{Typed}
use Rattle.koika_check.specs.declared.typed.ValueType.{ValueType}
use Rattle.koika_check.specs.declared.types.NamedType.{NamedType}
use Rattle.koika_check.proofs.Growth.{grows-refl, grows-trans, same-part, same-scope, same-type-if, stands-grows, type-if-grows, types-grow}
use Rattle.koika_check.proofs.Telling.{tells-ok}
use Rattle.koika_check.proofs.Turns.{ends-behind, ends-bind, ends-same, ends-tells}

-- what comes behind a part, by what the part gives
pub behind : {X Y Z W : Type 0} (M : Checker → Y → X → Type 0) (N : Checker → W → Z → Type 0) (old mid new : Checker) (o : CheckResult X) (f : X → CheckResult Z) (y : Y) (r : Result W Stop) →
    (h : Yields M old o mid y) → Checks N mid (f h.value) new r → Checks N old (o >>= f) new r
behind M N old mid new o f y (Ok w) h k = record {
  kept = k.kept;
  grows = grows-trans old mid new h.grows k.grows;
  value = k.value;
  gives = ap (λ p. p >>= f) h.gives ∙ k.gives;
  means = k.means;
}
behind M N old mid new o f y (Err e) h k = ends-behind o f h.value e h.gives k

-- what comes behind something that is known
pub behind-known : {X Z W : Type 0} (N : Checker → W → Z → Type 0) (old new : Checker) (o : CheckResult X) (f : X → CheckResult Z) (x : X) (r : Result W Stop) → o ≡ Gives x → Checks N old (f x) new r → Checks N old (o >>= f) new r
behind-known N old new o f x r e k = subst (λ p. Checks N old p new r) (sym (ap (λ p. p >>= f) e)) k

-- a call that changes nothing
pub tells-checks : (c : Checker) (scope : Scope) (o : CheckResult constructs.Typing) (r : Result Typing Stop) → IsChecker c → scope_of c ≡ scope → Tells (TypedAs c) o r → Checks (IsTyping scope) c o c r
tells-checks c scope o (Ok y) kept is h =
    let t = tells-ok (TypedAs c) o y h in
    record { kept = kept; grows = grows-refl c; value = t.0; gives = t.1; means = record { scope_is = is; part = ap (λ (x : constructs.Typing). x.part) t.2.0; type = t.2.1; typed = ap (λ (x : constructs.Typing). x.typed) t.2.0 } }
tells-checks c scope o (Err e) kept is h = ends-tells (TypedAs c) o e h

-- the same typing, by its parts
same-typing : (x : constructs.Typing) (p : TypedPart) (t : Typed) → x.part ≡ p → x.typed ≡ t → x ≡ record { part = p; typed = t }
same-typing x p t e f = ap₂ (λ (q : TypedPart) (u : Typed). let z : constructs.Typing = record { part = q; typed = u } in z) e f

pub typing-is : (scope : Scope) (c : Checker) (y : Typing) (x : constructs.Typing) → IsTyping scope c y x → x ≡ typing_of c y
typing-is scope c y x h = same-typing x (part_of (arrays_of c) y.part) y.typed h.part h.typed

pub typing-grows : (a b : Checker) → Grows a b → (y : Typing) → IsPart a y.part → typing_of b y ≡ typing_of a y
typing-grows a b g y h = ap (λ (q : TypedPart). let z : constructs.Typing = record { part = q; typed = y.typed } in z) (same-part a b g y.part h)

-- a construct of one part
pub one-part : (old mid : Checker) (o : CheckResult constructs.Typing) (g : Checked → constructs.Typing → CheckResult constructs.Typing) (y : Typing) (r : Result Typing Stop) →
    Yields (IsTyping (scope_of old)) old o mid y → Tells (TypedAs mid) (g mid.design (typing_of mid y)) r → Checks (IsTyping (scope_of old)) old (o >>= g old.design) mid r
one-part old mid o g y r h t =
    behind (IsTyping (scope_of old)) (IsTyping (scope_of old)) old mid mid o (g old.design) y r h
    (tells-checks mid (scope_of old) (g old.design h.value) r h.kept h.means.scope_is
    (subst (λ p. Tells (TypedAs mid) p r) (ap₂ g h.grows.design (sym (typing-is (scope_of old) mid y h.value h.means))) t))

-- a construct of a part that is known and one more
pub second-part : (old new : Checker) (o : CheckResult constructs.Typing) (g : Checked → constructs.Typing → constructs.Typing → CheckResult constructs.Typing) (y z : Typing) (r : Result Typing Stop) → IsPart old y.part →
    Yields (IsTyping (scope_of old)) old o new z → Tells (TypedAs new) (g new.design (typing_of new y) (typing_of new z)) r → Checks (IsTyping (scope_of old)) old (o >>= g old.design (typing_of old y)) new r
second-part old new o g y z r part h t =
    one-part old new o (λ d. g d (typing_of old y)) z r h (subst (λ x. Tells (TypedAs new) (g new.design x (typing_of new z)) r) (typing-grows old new h.grows y part) t)

-- ---- calls

called-grows : (a b : Checker) → Grows a b → (y : Called) (x : scopes.Called) → IsCalled a y x → IsCalled b y x
called-grows a b g y x h = record {
  operation = h.operation;
  parameters = types-grow a b g y.parameters x.parameters h.parameters;
  gives = record { is = h.gives.is ∙ sym (same-type-if a b g y.gives h.gives.known); known = type-if-grows a b g y.gives h.gives.known };
}

pub call-checks : (old mid : Checker) (n : Name) (o : CheckResult scopes.Called) (p : CheckResult (List constructs.Typing)) (called : Called) (values : Typings) (r : Result Typing Stop) → Tells (IsCalled old) o (Ok called) →
    Yields (In AreTyped (scope_of old)) old p mid values → ((x : scopes.Called) (xs : List constructs.Typing) → IsCalled mid called x → AreTyped mid values xs → Tells (TypedAs mid) (constructs.call n x xs) r) →
    Checks (IsTyping (scope_of old)) old (o >>= λ c. p >>= constructs.call n c) mid r
call-checks old mid n o p called values r t h k =
    let c = tells-ok (IsCalled old) o called t in
    behind-known (IsTyping (scope_of old)) old mid o (λ c. p >>= constructs.call n c) c.0 r c.1
    (behind (In AreTyped (scope_of old)) (IsTyping (scope_of old)) old mid mid p (constructs.call n c.0) values r h
    (tells-checks mid (scope_of old) (constructs.call n c.0 h.value) r h.kept h.means.scope_is (k c.0 h.value (called-grows old mid h.grows called c.0 c.2) h.means.means)))

pub call-ends : {Z : Type 0} (old : Checker) (o : CheckResult scopes.Called) (p : CheckResult (List constructs.Typing)) (f : scopes.Called → List constructs.Typing → CheckResult Z) (called : Called) (e : Stop) → Tells (IsCalled old) o (Ok called) → Ends p e → Ends (o >>= λ c. p >>= f c) e
call-ends old o p f called e t h =
    let c = tells-ok (IsCalled old) o called t in
    ends-behind o (λ c. p >>= f c) c.0 e c.1 (ends-bind p (f c.0) e h)

-- ---- writes

pub number-gives : (o : CheckResult ℕ) (n : ℕ) → Tells (λ (m of : ℕ). m ≡ of) o (Ok n) → o ≡ Gives n
number-gives (Gives m) n h = ap Gives (sym h)
number-gives (Fails w) n h = absurd h

-- ---- types that are named

-- a type stands for one, and names stand for what this scope says
pub record IsNamedType (scope : Scope) (c : Checker) (y : NamedType) (x : ValueType) : Type 0 where
  pub scope_is : scope_of c ≡ scope
  pub of : y.of ≡ x
  pub stands : Stands c y.shape x

pub named-yields : (old new : Checker) (o : CheckResult ValueType) (y : NamedType) → IsChecker old → IsChecker new → Grows old new → new.locals ≡ old.locals → Tells (λ (named : NamedType) (of : ValueType). (named.of ≡ of) × Stands new named.shape of) o (Ok y) →
    Yields (IsNamedType (scope_of old)) old o new y
named-yields old new o y h kept grows locals t =
    let a = tells-ok (λ (named : NamedType) (of : ValueType). (named.of ≡ of) × Stands new named.shape of) o y t in
    record { kept = kept; grows = grows; value = a.0; gives = a.1; means = record { scope_is = same-scope old new grows locals h.bound; of = a.2.0; stands = a.2.1 } }

-- the same, as more array types are added
pub named-stands : (old mid new : Checker) (o : CheckResult ValueType) (y : NamedType) → Yields (IsNamedType (scope_of old)) old o mid y → Grows mid new → Stands new y.shape y.of
named-stands old mid new o y h g = subst (Stands new y.shape) (sym h.means.of) (stands-grows mid new g y.shape h.value h.means.stands)

pub unpack-checks : (old mid new : Checker) (place : ℕ) (o : CheckResult ValueType) (look : Scope → CheckResult constructs.Typing) (to : NamedType) (y : Typing) (r : Result Typing Stop) → Yields (IsNamedType (scope_of old)) old o mid to →
    Yields (IsTyping (scope_of mid)) mid (look (scope_of mid)) new y → Tells (TypedAs new) (constructs.unpacked new.design place to.of (typing_of new y)) r →
    Checks (IsTyping (scope_of old)) old (o >>= λ of. look (scope_of old) >>= constructs.unpacked old.design place of) new r
unpack-checks old mid new place o look to y r h k t =
    let S = scope_of old in
    let same : constructs.unpacked new.design place to.of (typing_of new y) ≡ constructs.unpacked old.design place h.value k.value =
    ap (λ d. constructs.unpacked d place to.of (typing_of new y)) (k.grows.design ∙ h.grows.design) ∙ ap₂ (constructs.unpacked old.design place) h.means.of (sym (typing-is (scope_of mid) new y k.value k.means)) in
    behind (IsNamedType S) (IsTyping S) old mid new o (λ of. look S >>= constructs.unpacked old.design place of) to r h
    (subst (λ p. Checks (IsTyping S) mid (p >>= constructs.unpacked old.design place h.value) new r) (ap look h.means.scope_is)
    (behind (IsTyping (scope_of mid)) (IsTyping S) mid new new (look (scope_of mid)) (constructs.unpacked old.design place h.value) y r k
    (tells-checks new S (constructs.unpacked old.design place h.value k.value) r k.kept (k.means.scope_is ∙ h.means.scope_is) (subst (λ p. Tells (TypedAs new) p r) same t))))

pub unpack-ends : {Z : Type 0} (old mid : Checker) (o : CheckResult ValueType) (look : Scope → CheckResult constructs.Typing) (f : ValueType → constructs.Typing → CheckResult Z) (to : NamedType) (e : Stop) →
    Yields (IsNamedType (scope_of old)) old o mid to → Ends (look (scope_of mid)) e → Ends (o >>= λ of. look (scope_of old) >>= f of) e
unpack-ends old mid o look f to e h k =
    ends-behind o (λ of. look (scope_of old) >>= f of) h.value e h.gives
    (ends-bind (look (scope_of old)) (f h.value) e (ends-same (look (scope_of old)) (look (scope_of mid)) e (ap look (sym h.means.scope_is)) k))

-- ---- parentheses

pub inside-gives : (old new : Checker) (place : ℕ) (o : CheckResult constructs.Typing) (y z : Typing) → Yields (IsTyping (scope_of old)) old o new y → z ≡ record { part = record { of = y.part.of; place = place }; typed = y.typed } →
    Yields (IsTyping (scope_of old)) old (o >>= λ inner. Gives (constructs.typing inner.part.of place inner.typed)) new z
inside-gives old new place o y z h is =
    subst (λ w. Yields (IsTyping (scope_of old)) old (o >>= λ inner. Gives (constructs.typing inner.part.of place inner.typed)) new w) (sym is)
    (record {
      kept = h.kept;
      grows = h.grows;
      value = constructs.typing h.value.part.of place h.value.typed;
      gives = ap (λ p. p >>= λ (inner : constructs.Typing). Gives (constructs.typing inner.part.of place inner.typed)) h.gives;
      means = record { scope_is = h.means.scope_is; part = ap (λ (p : TypedPart). part p.of place) h.means.part; type = h.means.type; typed = h.means.typed };
    })

-- what an equal outcome says
pub same-checks : {X Y : Type 0} (M : Checker → Y → X → Type 0) (old new : Checker) (o o' : CheckResult X) (r : Result Y Stop) → o ≡ o' → Checks M old o' new r → Checks M old o new r
same-checks M old new o o' r e h = subst (λ p. Checks M old p new r) (sym e) h

-- what comes behind a part in its scope
pub then-in : {W Z : Type 0} (M : Scope → Checker → W → Z → Type 0) (old mid new : Checker) (o : CheckResult constructs.Typing) (k : Scope → constructs.Typing → CheckResult Z) (y : Typing) (r : Result W Stop) →
    Yields (IsTyping (scope_of old)) old o mid y → Checks (M (scope_of mid)) mid (k (scope_of mid) (typing_of mid y)) new r → Checks (M (scope_of old)) old (o >>= k (scope_of old)) new r
then-in M old mid new o k y r h g =
    behind (IsTyping (scope_of old)) (M (scope_of old)) old mid new o (k (scope_of old)) y r h
    (subst (λ s. Checks (M s) mid (k s h.value) new r) h.means.scope_is
    (subst (λ x. Checks (M (scope_of mid)) mid (k (scope_of mid) x) new r) (sym (typing-is (scope_of old) mid y h.value h.means)) g))

-- a typing that is made
pub made-checks : (c : Checker) → IsChecker c → (o : CheckResult constructs.Typing) (x : constructs.Typing) (y : Typing) → o ≡ Gives x → TypedAs c y x → Yields (IsTyping (scope_of c)) c o c y
made-checks c kept o x y e h = record {
  kept = kept;
  grows = grows-refl c;
  value = x;
  gives = e;
  means = record { scope_is = refl; part = ap (λ (z : constructs.Typing). z.part) h.0; type = h.1; typed = ap (λ (z : constructs.Typing). z.typed) h.0 };
}
