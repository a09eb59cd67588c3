-- What steps of a checker come to one behind another.
use Rattle.std.proofs.Common.{◌≡◌, Result, Ok, Err, refl, ap, ap₂, sym, ◌∙◌}
use Rattle.koika_check.specs.inner.Checking.{Checks, Grows, IsChecker, IsPart, IsTyping, TypedAs, Yields, arrays_of, scope_of, typing_of}
use Rattle.koika_check.specs.Constructs as constructs
use Rattle.koika_check.specs.Outcomes.{CheckResult, ◌>>=◌}
use Rattle.koika_check.specs.inner.Outcomes.{Ends, Stop, Tells}
use Rattle.koika_check.specs.Scopes.{Scope}
use Rattle.koika_check.specs.inner.Shapes.{part_of}
use Rattle.koika_check.specs.Types.{TypedPart as TypedPart}
use Rattle.koika_check.specs.declared.checked.Checked.{Checked}
use Rattle.koika_check.specs.declared.checker.Checker.{Checker}
use Rattle.koika_check.specs.declared.checker.Typing.{Typing}
use Rattle.koika_check.specs.declared.typed.Typed.{Typed}
use Rattle.koika_check.proofs.Growth.{grows-refl, grows-trans, same-part}
use Rattle.koika_check.proofs.Telling.{tells-ok}
use Rattle.koika_check.proofs.Turns.{ends-behind, ends-bind, ends-same, ends-tells}

abbrev pub typed_as : TypedPart → Typed → constructs.Typing
typed_as p t = record { part = p; typed = t }

pub typing-is : (c : Checker) (y : Typing) (x : constructs.Typing) → x.part ≡ part_of (arrays_of c) y.part → x.typed ≡ y.typed → x ≡ typing_of c y
typing-is c y x p t = ap₂ typed_as p t

-- an earlier part stands for the same behind later ones
pub typing-grows : (a b : Checker) → Grows a b → (y : Typing) → IsPart a y.part → typing_of b y ≡ typing_of a y
typing-grows a b g y h = ap (λ p. typed_as p y.typed) (same-part a b g y.part h)

-- conditions alone
pub leaf : (c : Checker) → IsChecker c → (o : CheckResult constructs.Typing) (r : Result Typing Stop) → Tells (TypedAs c) o r → Checks (IsTyping (scope_of c)) c o c r
leaf c h o (Ok z) t =
    let a = tells-ok (TypedAs c) o z t in
    record { kept = h; grows = grows-refl c; value = a.0; gives = a.1; means = record { scope_is = refl; part = ap (λ (x : constructs.Typing). x.part) a.2.0; type = a.2.1; typed = ap (λ (x : constructs.Typing). x.typed) a.2.0 } }
leaf c h o (Err e) t = ends-tells (TypedAs c) o e t

-- a step, and conditions behind it
pub then-one : (scope : Scope) (old new : Checker) (o : CheckResult constructs.Typing) (y : Typing) (F : Checked → constructs.Typing → CheckResult constructs.Typing) (r : Result Typing Stop) →
    Yields (IsTyping scope) old o new y → Tells (TypedAs new) (F new.design (typing_of new y)) r → Checks (IsTyping scope) old (o >>= F old.design) new r
then-one scope old new o y F r h t = by_answer r t
  where
    whole : (o >>= F old.design) ≡ F new.design (typing_of new y)
    whole = ap (λ p. p >>= F old.design) h.gives ∙ ap (F old.design) (typing-is new y h.value h.means.part h.means.typed) ∙ ap (λ d. F d (typing_of new y)) (sym h.grows.design)

    by_answer : (r : Result Typing Stop) → Tells (TypedAs new) (F new.design (typing_of new y)) r → Checks (IsTyping scope) old (o >>= F old.design) new r
    by_answer (Ok z) t =
        let a = tells-ok (TypedAs new) (F new.design (typing_of new y)) z t in
        record {
          kept = h.kept;
          grows = h.grows;
          value = a.0;
          gives = whole ∙ a.1;
          means = record { scope_is = h.means.scope_is; part = ap (λ (x : constructs.Typing). x.part) a.2.0; type = a.2.1; typed = ap (λ (x : constructs.Typing). x.typed) a.2.0 };
        }
    by_answer (Err e) t = ends-same (o >>= F old.design) (F new.design (typing_of new y)) e whole (ends-tells (TypedAs new) (F new.design (typing_of new y)) e t)

-- two steps, and conditions behind them
pub then-two : (old mid new : Checker) (o : CheckResult constructs.Typing) (y z : Typing) (g : Scope → CheckResult constructs.Typing) (F : Checked → constructs.Typing → constructs.Typing → CheckResult constructs.Typing) (r : Result Typing Stop) →
    Yields (IsTyping (scope_of old)) old o mid y → Yields (IsTyping (scope_of mid)) mid (g (scope_of mid)) new z → Tells (TypedAs new) (F new.design (typing_of new y) (typing_of new z)) r →
    Checks (IsTyping (scope_of old)) old (o >>= λ a. g (scope_of old) >>= F old.design a) new r
then-two old mid new o y z g F r h k t = by_answer r t
  where
    whole : (o >>= λ a. g (scope_of old) >>= F old.design a) ≡ F new.design (typing_of new y) (typing_of new z)
    whole =
        ap (λ p. p >>= λ a. g (scope_of old) >>= F old.design a) h.gives
        ∙ ap (λ s. g s >>= F old.design h.value) (sym h.means.scope_is) ∙ ap (λ p. p >>= F old.design h.value) k.gives
        ∙ ap₂ (F old.design) (typing-is mid y h.value h.means.part h.means.typed ∙ sym (typing-grows mid new k.grows y h.means.type)) (typing-is new z k.value k.means.part k.means.typed)
        ∙ ap (λ d. F d (typing_of new y) (typing_of new z)) (sym (k.grows.design ∙ h.grows.design))

    by_answer : (r : Result Typing Stop) → Tells (TypedAs new) (F new.design (typing_of new y) (typing_of new z)) r → Checks (IsTyping (scope_of old)) old (o >>= λ a. g (scope_of old) >>= F old.design a) new r
    by_answer (Ok w) t =
        let a = tells-ok (TypedAs new) (F new.design (typing_of new y) (typing_of new z)) w t in
        record {
          kept = k.kept;
          grows = grows-trans old mid new h.grows k.grows;
          value = a.0;
          gives = whole ∙ a.1;
          means = record { scope_is = k.means.scope_is ∙ h.means.scope_is; part = ap (λ (x : constructs.Typing). x.part) a.2.0; type = a.2.1; typed = ap (λ (x : constructs.Typing). x.typed) a.2.0 };
        }
    by_answer (Err e) t =
        ends-same (o >>= λ a. g (scope_of old) >>= F old.design a) (F new.design (typing_of new y) (typing_of new z)) e whole (ends-tells (TypedAs new) (F new.design (typing_of new y) (typing_of new z)) e t)

-- the second step ends
pub second-ends : {X : Type 0} (old mid : Checker) (o : CheckResult constructs.Typing) (y : Typing) (g : Scope → CheckResult X) (F : constructs.Typing → X → CheckResult constructs.Typing) (e : Stop) →
    Yields (IsTyping (scope_of old)) old o mid y → Ends (g (scope_of mid)) e → Ends (o >>= λ a. g (scope_of old) >>= F a) e
second-ends old mid o y g F e h k =
    ends-behind o (λ a. g (scope_of old) >>= F a) h.value e h.gives
    (ends-bind (g (scope_of old)) (F h.value) e (ends-same (g (scope_of old)) (g (scope_of mid)) e (ap g (sym h.means.scope_is)) k))
