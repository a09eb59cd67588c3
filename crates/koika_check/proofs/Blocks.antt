-- The statements of a block, as far as they were looked at, and whole blocks, whose locals are unbound behind them.
use Rattle.std.proofs.Common.{◌≡◌, ℕ, ◌+◌, ◌-◌, ◌<◌, ◌≤◌, List, [], ◌∷◌, ◌++◌, append_assoc, length, length-append, take, drop, get_or, Option, Some, None, refl, ap, ap₂, sym, ◌∙◌, subst, arith}
use Rattle.std.specs.List.{All}
use Rattle.std.proofs.Math.Seq.{drop-append_seam}
use Rattle.std.proofs.lemmas.List.{length-map}
use Rattle.std.proofs.lemmas.List.Elements.{All-push, All-take}
use Rattle.koika_syntax.specs.declared.tree.Expression.{Expression}
use Rattle.koika_syntax.specs.declared.tree.Name.{Name}
use Rattle.koika_syntax.specs.declared.tree.Statement.{Statement}
use Rattle.koika_check.specs.inner.Checking.{IsChecker, IsPart, IsType, IsTyping, Yields, arrays_of, scope_of, typing_of}
use Rattle.koika_check.specs.Constructs.{typing}
use Rattle.koika_check.specs.Constructs as constructs
use Rattle.koika_check.specs.Expressions.{BlockSoFar, Stepping, close, run}
use Rattle.koika_check.specs.inner.Expressions.{expression_in, statement_in}
use Rattle.koika_check.specs.inner.Locals.{AreLocals, inside_of, local_of, locals_of, shapes_of}
use Rattle.koika_check.specs.Outcomes.{Gives, CheckResult, ◌>>=◌, found, one_by_one}
use Rattle.koika_check.specs.inner.Outcomes.{Ends, Stop}
use Rattle.koika_check.specs.Scopes.{Local, Scope, bound}
use Rattle.koika_check.specs.inner.Shapes.{part_of, type_if, type_of_shape}
use Rattle.koika_check.specs.inner.TypedParts.{AreSteps, IsStep, bound_step}
use Rattle.koika_check.specs.Types.{TypedPart as TypedPart, part, wrong_type}
use Rattle.koika_check.specs.declared.checked.Checked.{Checked}
use Rattle.koika_check.specs.declared.checker.Checker.{Checker}
use Rattle.koika_check.specs.declared.checker.Typing.{Typing}
use Rattle.koika_check.specs.declared.locals.Locals.{Locals}
use Rattle.koika_check.specs.declared.shapes.Shape.{Shape}
use Rattle.kw_bits.specs.declared.failure.Failure.TheVariants as failures
use Rattle.koika_check.specs.declared.stop.Wrong.{Wrong}
use Rattle.koika_check.specs.declared.typed.BlockStep.{BlockStep}
use Rattle.koika_check.specs.declared.typed.BlockStep.TheVariants as step
use Rattle.koika_check.specs.declared.typed.Typed.{Typed}
use Rattle.koika_check.specs.declared.typed.Typed.TheVariants as made
use Rattle.koika_check.specs.declared.typed.ValueType.{ValueType}
use Rattle.koika_check.proofs.Bindings.{length-inside}
use Rattle.koika_check.proofs.Growth.{grows-refl, grows-trans, locals-kept, part-grows, unbound}
use Rattle.koika_check.proofs.Turns.{ends-behind, ends-bind, ends-same, one-ends, one-push}

-- ---- statements

abbrev pub running : Statement → BlockSoFar → CheckResult BlockSoFar
running t = run (statement_in t)

abbrev pub run-of : List BlockStep → Scope → BlockSoFar
run-of steps behind = record { steps = steps; behind = behind }

pub steps-start : (c : Checker) → IsChecker c → Yields (AreSteps (scope_of c)) c (one_by_one running [] (run-of [] (scope_of c))) c []
steps-start c h = record { kept = h; grows = grows-refl c; value = run-of [] (scope_of c); gives = refl; means = record { steps = refl; behind = refl; inner = ([], refl) } }

pub steps-more : (old mid new : Checker) (xs : List Statement) (i : ℕ) (x : Statement) (y : List BlockStep) (s : BlockStep) → i < length xs → x ≡ get_or xs i x →
    Yields (AreSteps (scope_of old)) old (one_by_one running (take i xs) (run-of [] (scope_of old))) mid y → Yields (IsStep (scope_of mid)) mid (statement_in x (scope_of mid)) new s →
    Yields (AreSteps (scope_of old)) old (one_by_one running (take (i + 1) xs) (run-of [] (scope_of old))) new (y ++ s ∷ [])
steps-more old mid new xs i x y s lt is h now = record {
  kept = now.kept;
  grows = grows-trans old mid new h.grows now.grows;
  value = run-of (h.value.steps ++ now.value.step ∷ []) now.value.behind;
  gives =
      one-push running xs i x (run-of [] (scope_of old)) h.value lt is h.gives
      ∙ ap (λ o. o >>= λ (one : Stepping). Gives (run-of (h.value.steps ++ one.step ∷ []) one.behind)) (ap (statement_in x) (sym h.means.behind) ∙ now.gives);
  means = record {
    steps = ap₂ (λ (ts : List BlockStep) (t : BlockStep). ts ++ t ∷ []) h.means.steps now.means.step;
    behind = now.means.behind;
    inner = (
      now.means.inner.0 ++ h.means.inner.0,
      now.means.inner.1 ∙ ap (λ ls. now.means.inner.0 ++ ls) (ap (λ (s : Scope). s.locals) h.means.behind ∙ h.means.inner.1) ∙ sym (append_assoc now.means.inner.0 h.means.inner.0 (scope_of old).locals),
    );
  };
}

pub steps-end : (old mid : Checker) (xs : List Statement) (i : ℕ) (x : Statement) (y : List BlockStep) (e : Stop) → i < length xs → x ≡ get_or xs i x →
    Yields (AreSteps (scope_of old)) old (one_by_one running (take i xs) (run-of [] (scope_of old))) mid y → Ends (statement_in x (scope_of mid)) e → Ends (one_by_one running xs (run-of [] (scope_of old))) e
steps-end old mid xs i x y e lt is h k =
    one-ends running xs i x (run-of [] (scope_of old)) h.value e lt is h.gives
    (ends-bind (statement_in x h.value.behind) _ e (ends-same (statement_in x h.value.behind) (statement_in x (scope_of mid)) e (ap (statement_in x) (sym h.means.behind)) k))

-- a value that isn't bound
pub done-gives : (old new : Checker) (o : CheckResult constructs.Typing) (y : Typing) → Yields (IsTyping (scope_of old)) old o new y →
    Yields (IsStep (scope_of old)) old (o >>= λ inner. Gives (record { step = step.Do inner.typed; behind = scope_of old })) new (step.Do y.typed)
done-gives old new o y h = record {
  kept = h.kept;
  grows = h.grows;
  value = record { step = step.Do h.value.typed; behind = scope_of old };
  gives = ap (λ p. p >>= λ (inner : constructs.Typing). Gives (did inner.typed)) h.gives;
  means = record { step = ap step.Do h.means.typed; behind = h.means.scope_is; inner = ([], refl) };
}
  where
    did : Typed → Stepping
    did t = record { step = step.Do t; behind = scope_of old }

-- ---- `let`

pub unit-unbound : (c : Checker) (n : Name) (y : Typing) (w : Wrong) → y.part.of ≡ None → w ≡ wrong_type (part_of (arrays_of c) y.part) → Ends (bound_step n (scope_of c) (typing_of c y)) (failures.Why w)
unit-unbound c n y w none is = fails (type_if (arrays_of c) y.part.of) (ap (type_if (arrays_of c)) none)
  where
    fails : (o : Option ValueType) → o ≡ None → Ends {X = Stepping} (found o (wrong_type (part_of (arrays_of c) y.part)) >>= λ of. Gives (record { step = step.Let y.typed; behind = bound n.text of (scope_of c) })) (failures.Why w)
    fails None e = ap (λ v. found None v >>= λ of. Gives (record { step = step.Let y.typed; behind = bound n.text of (scope_of c) })) (sym is)
    fails (Some t) e = absurd cc

-- the binding of a value
pub value-bound : (c : Checker) → IsChecker c → (l : Locals) → AreLocals l → (n : Name) (name : List ℕ) (s : Shape) (y : Typing) → name ≡ n.text → y.part.of ≡ Some s → IsPart c y.part →
    ((arrays : List ValueType) → locals_of arrays l ≡ record { name = name; of = type_of_shape arrays s } ∷ locals_of arrays c.locals) → shapes_of l ≡ shapes_of c.locals ++ s ∷ [] →
    Yields (IsStep (scope_of c)) c (bound_step n (scope_of c) (typing_of c y)) (record c { locals = l }) (step.Let y.typed)
value-bound c h l kept n name s y text some part locals shapes =
    let type : IsType c s = inner y.part.of some part in
    let t = type_of_shape (arrays_of c) s in
    record {
      kept = locals-kept c h l kept (subst (All (IsType c)) (sym shapes) (All-push (IsType c) (shapes_of c.locals) s h.bound type));
      grows = unbound c l;
      value = record { step = step.Let y.typed; behind = bound n.text t (scope_of c) };
      gives = ap (λ o. found (type_if (arrays_of c) o) (wrong_type (part_of (arrays_of c) y.part)) >>= λ of. Gives (let_of of)) some;
      means = record {
        step = refl;
        behind = ap scoped (locals (arrays_of c)) ∙ ap (λ (m : List ℕ). scoped (record { name = m; of = t } ∷ locals_of (arrays_of c) c.locals)) text;
        inner = (record { name = n.text; of = t } ∷ [], refl);
      };
    }
  where
    let_of : ValueType → Stepping
    let_of of = record { step = step.Let y.typed; behind = bound n.text of (scope_of c) }

    scoped : List Local → Scope
    scoped ls = record { design = c.design; locals = ls }

    inner : (o : Option Shape) → o ≡ Some s → IsPart c (record { of = o; place = y.part.place }) → IsType c s
    inner None e p = absurd cc
    inner (Some u) e p = let same : u ≡ s = cc in subst (IsType c) same p

-- ---- the end of a block

pub closed-none : (c : Checker) → IsChecker c → (place : ℕ) (steps : List BlockStep) (y : Typing) → y ≡ record { part = record { of = None; place = place }; typed = made.Block steps } →
    Yields (IsTyping (scope_of c)) c (close place None (run-of steps (scope_of c))) c y
closed-none c h place steps y is =
    subst (λ z. Yields (IsTyping (scope_of c)) c (close place None (run-of steps (scope_of c))) c z) (sym is)
    (record { kept = h; grows = grows-refl c; value = typing None place (made.Block steps); gives = refl; means = record { scope_is = refl; part = refl; type = tt; typed = refl } })

pub closed-gives : (old new : Checker) (place : ℕ) (steps all : List BlockStep) (last : Expression) (y z : Typing) → Yields (IsTyping (scope_of old)) old (expression_in last (scope_of old)) new y → all ≡ steps ++ step.Give y.typed ∷ [] →
    z ≡ record { part = record { of = y.part.of; place = place }; typed = made.Block all } → Yields (IsTyping (scope_of old)) old (close place (Some (expression_in last)) (run-of steps (scope_of old))) new z
closed-gives old new place steps all last y z h pushed is =
    subst (λ w. Yields (IsTyping (scope_of old)) old (close place (Some (expression_in last)) (run-of steps (scope_of old))) new w) (sym is)
    (record {
      kept = h.kept;
      grows = h.grows;
      value = typing h.value.part.of place (made.Block (steps ++ step.Give h.value.typed ∷ []));
      gives = ap (λ o. o >>= λ (v : constructs.Typing). Gives (typing v.part.of place (made.Block (steps ++ step.Give v.typed ∷ [])))) h.gives;
      means = record {
        scope_is = h.means.scope_is;
        part = ap (λ (p : TypedPart). part p.of place) h.means.part;
        type = h.means.type;
        typed = ap made.Block (ap (λ t. steps ++ step.Give t ∷ []) h.means.typed ∙ sym pushed);
      };
    })

-- ---- whole blocks

count-locals : (arrays : List ValueType) (l : Locals) → length (locals_of arrays l) ≡ length l.bound
count-locals arrays l = omega (arith, length-map (inside_of [] l.bound) (local_of arrays l.names), length-inside [] l.bound)

-- what was bound in a block is inside what was bound before it
inside-block : (old mid new : Checker) (o : CheckResult BlockSoFar) (p : CheckResult constructs.Typing) (steps : List BlockStep) (y : Typing) → (h : Yields (AreSteps (scope_of old)) old o mid steps) → Yields (IsTyping (scope_of mid)) mid p new y →
    locals_of (arrays_of new) new.locals ≡ h.means.inner.0 ++ locals_of (arrays_of old) old.locals
inside-block old mid new o p steps y h k = ap (λ (s : Scope). s.locals) (k.means.scope_is ∙ h.means.behind) ∙ h.means.inner.1

count-inside : (old new : Checker) (more : List Local) → locals_of (arrays_of new) new.locals ≡ more ++ locals_of (arrays_of old) old.locals → length new.locals.bound ≡ length more + length old.locals.bound
count-inside old new more e =
    omega (arith, count-locals (arrays_of new) new.locals, ap length e, length-append more (locals_of (arrays_of old) old.locals), count-locals (arrays_of old) old.locals)

pub block-within : (old mid new : Checker) (o : CheckResult BlockSoFar) (p : CheckResult constructs.Typing) (steps : List BlockStep) (y : Typing) → Yields (AreSteps (scope_of old)) old o mid steps → Yields (IsTyping (scope_of mid)) mid p new y →
    length old.locals.bound ≤ length new.locals.bound
block-within old mid new o p steps y h k = omega (arith, count-inside old new h.means.inner.0 (inside-block old mid new o p steps y h k))

pub block-gives : (old mid new : Checker) (o : CheckResult BlockSoFar) (place : ℕ) (value : Option (Scope → CheckResult constructs.Typing)) (steps : List BlockStep) (y : Typing) (l : Locals) (n : ℕ) → Yields (AreSteps (scope_of old)) old o mid steps →
    Yields (IsTyping (scope_of mid)) mid (close place value (run-of steps (scope_of mid))) new y → n ≡ length old.locals.bound → AreLocals l →
    ((arrays : List ValueType) → locals_of arrays l ≡ drop (length new.locals.bound - n) (locals_of arrays new.locals)) → shapes_of l ≡ take n (shapes_of new.locals) →
    Yields (IsTyping (scope_of old)) old (o >>= close place value) (record new { locals = l }) y
block-gives old mid new o place value steps y l n h k count kept left shapes =
    let more = h.means.inner.0 in
    let inside = inside-block old mid new o (close place value (run-of steps (scope_of mid))) steps y h k in
    let many = count-inside old new more inside in
    let gone : length new.locals.bound - n ≡ length more = omega (arith, many, count) in
    let locals : locals_of (arrays_of new) l ≡ locals_of (arrays_of old) old.locals =
    left (arrays_of new) ∙ ap (λ k. drop k (locals_of (arrays_of new) new.locals)) gone ∙ ap (drop (length more)) inside ∙ drop-append_seam more (locals_of (arrays_of old) old.locals) in
    record {
      kept = locals-kept new k.kept l kept (subst (All (IsType new)) (sym shapes) (All-take (IsType new) n (shapes_of new.locals) k.kept.bound));
      grows = grows-trans old new (record new { locals = l }) (grows-trans old mid new h.grows k.grows) (unbound new l);
      value = k.value;
      gives = ap (λ p. p >>= close place value) h.gives ∙ ap (close place value) (ap₂ run-of h.means.steps (sym h.means.behind)) ∙ k.gives;
      means = record {
        scope_is = ap₂ scoped (k.grows.design ∙ h.grows.design) locals;
        part = k.means.part;
        type = part-grows new (record new { locals = l }) (unbound new l) y.part k.means.type;
        typed = k.means.typed;
      };
    }
  where
    scoped : Checked → List Local → Scope
    scoped d ls = record { design = d; locals = ls }

pub block-ends : (old mid : Checker) (o : CheckResult BlockSoFar) (place : ℕ) (value : Option (Scope → CheckResult constructs.Typing)) (steps : List BlockStep) (e : Stop) → Yields (AreSteps (scope_of old)) old o mid steps →
    Ends (close place value (run-of steps (scope_of mid))) e → Ends (o >>= close place value) e
block-ends old mid o place value steps e h k =
    ends-behind o (close place value) h.value e h.gives (ends-same (close place value h.value) (close place value (run-of steps (scope_of mid))) e (ap (close place value) (ap₂ run-of h.means.steps (sym h.means.behind))) k)
