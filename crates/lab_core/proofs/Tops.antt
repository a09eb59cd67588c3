-- What tops tell of clashes, and which rules trials say fired.
use Rattle.std.proofs.Common.{◌≡◌, ℕ, Bool, true, false, List, [], ◌∷◌, ◌++◌, Option, Some, None, refl, sym, ap, ◌∙◌, subst, eqb-true, append-nil, append_assoc, arith}
use Rattle.std.specs.Prelude.{◌==◌, ◌&&◌, ◌||◌, nat_lt, slice_get, if◌then◌else◌, Result, Ok, Err, OnOk, OnErr}
use Rattle.std.specs.List.{AllByRecursion}
use Rattle.std.proofs.lemmas.Bool.{ltb-false, lt-leb, le-ltb, or_parts}
use Rattle.typed_core.specs.Clash.{clashes, ports_clash}
use Rattle.typed_core.specs.declared.access.Access.{Access}
use Rattle.typed_core.specs.declared.access.Event.{Event}
use Rattle.one_rule.specs.declared.cycle.Fired.{Fired}
use Rattle.attempt_log.specs.Verdict.{clash, clash_or, first_clash, named_first}
use Rattle.lab_core.specs.declared.trial.Trial.{Trial}
use Rattle.lab_core.specs.declared.tried.Top.{Top}
use Rattle.lab_core.specs.inner.Tops.{Covers, IsCovered, IsUnder, Keeps, fired_by, fired_in, may_clash, may_meet}

-- ---- clashes

-- under the top of one register, ports that may not meet don't clash
ports_apart : (top : Top) (w : Bool) (i : ℕ) (v : Bool) (j : ℕ) → IsUnder top v j → (nat_lt i top.write || (w && nat_lt i top.read)) ≡ false → ports_clash w i v j ≡ false
ports_apart top false i false j under h = refl
ports_apart top false i true j under h =
    let high = ltb-false i top.write (or_parts (nat_lt i top.write) false h).0 in
    lt-leb i j (omega (arith, under, high))
ports_apart top true i false j under h =
    let high = ltb-false i top.read (or_parts (nat_lt i top.write) (nat_lt i top.read) h).1 in
    le-ltb i j (omega (arith, under, high))
ports_apart top true i true j under h =
    let high = ltb-false i top.write (or_parts (nat_lt i top.write) (nat_lt i top.read) h).0 in
    lt-leb i j (omega (arith, under, high))

apart : (tops : List Top) (a e : Access) → IsCovered tops e → may_clash tops a ≡ false → clashes a e ≡ false
apart tops a e covered h = chosen (a.register == e.register) refl
  where
    here : a.register ≡ e.register → (o : Option Top) → slice_get tops a.register ≡ o → may_meet o a.write a.port ≡ false → ports_clash a.write a.port e.write e.port ≡ false
    here same None is k = absurd cc
    here same (Some top) is k = ports_apart top a.write a.port e.write e.port (covered top (ap (slice_get tops) (sym same) ∙ is)) k

    chosen : (b : Bool) → (a.register == e.register) ≡ b → (b && ports_clash a.write a.port e.write e.port) ≡ false
    chosen false is = refl
    chosen true is = here (eqb-true a.register e.register is) (slice_get tops a.register) refl h

first_none : (tops : List Top) (a : Access) → may_clash tops a ≡ false → (events : List Event) → AllByRecursion (λ (e : Event). IsCovered tops e.access) events → first_clash a events ≡ None
first_none tops a h [] covered = refl
first_none tops a h (e ∷ events) covered =
    ap (λ (b : Bool). if b then Some (named_first e.access (first_clash a events)) else first_clash a events) (apart tops a e.access covered.0 h)
    ∙ first_none tops a h events covered.1

-- an access that may clash with none doesn't
pub no_clash : (tops : List Top) (a : Access) (fired : List Fired) → Covers tops fired → may_clash tops a ≡ false → clash a fired ≡ None
no_clash tops a [] covered h = refl
no_clash tops a (f ∷ fired) covered h =
    ap (λ (o : Option Access). clash_or a f.rule o (clash a fired)) (first_none tops a h f.events covered.0)
    ∙ no_clash tops a fired covered.1 h

-- ---- tops that rise

kept_events : (old new : List Top) → Keeps old new → (events : List Event) → AllByRecursion (λ (e : Event). IsCovered old e.access) events → AllByRecursion (λ (e : Event). IsCovered new e.access) events
kept_events old new keeps [] h = tt
kept_events old new keeps (e ∷ events) h = (keeps e.access h.0, kept_events old new keeps events h.1)

pub covers_kept : (old new : List Top) (fired : List Fired) → Keeps old new → Covers old fired → Covers new fired
covers_kept old new [] keeps h = tt
covers_kept old new (f ∷ fired) keeps h = (kept_events old new keeps f.events h.0, covers_kept old new fired keeps h.1)

pub covers_more : (tops : List Top) (fired more : List Fired) → Covers tops fired → Covers tops more → Covers tops (fired ++ more)
covers_more tops [] more h k = k
covers_more tops (f ∷ fired) more h k = (h.0, covers_more tops fired more h.1 k)

-- ---- the rules that fired

pub fired_in-push : (tried : List Trial) (t : Trial) → fired_in (tried ++ t ∷ []) ≡ fired_in tried ++ fired_by t.verdict t.rule t.events
fired_in-push [] t = append-nil (fired_by t.verdict t.rule t.events)
fired_in-push (x ∷ tried) t =
    ap (λ (fired : List Fired). fired_by x.verdict x.rule x.events ++ fired) (fired_in-push tried t)
    ∙ sym (append_assoc (fired_by x.verdict x.rule x.events) (fired_in tried) (fired_by t.verdict t.rule t.events))

-- one trial more
pub covers_push : {E : Type 0} (old new : List Top) (tried more : List Trial) (t : Trial) (r : Result (Unit {0}) E)
    → Covers old (fired_in tried) → Keeps old new → Covers new (fired_by t.verdict t.rule t.events)
    → OnOk r (more ≡ tried ++ t ∷ []) → OnErr r (more ≡ tried) → Covers new (fired_in more)
covers_push old new tried more t (Ok x) h keeps k ok err =
    subst (Covers new) (sym (ap fired_in ok ∙ fired_in-push tried t))
    (covers_more new (fired_in tried) (fired_by t.verdict t.rule t.events) (covers_kept old new (fired_in tried) keeps h) k)
covers_push old new tried more t (Err e) h keeps k ok err = subst (Covers new) (sym (ap fired_in err)) (covers_kept old new (fired_in tried) keeps h)
