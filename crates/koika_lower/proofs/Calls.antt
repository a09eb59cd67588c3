-- Calls of functions are lowered: the arguments are bound round the body.
use Rattle.std.proofs.Common.{◌≡◌, ℕ, zero, suc, ◌+◌, ◌≤◌, ◌<◌, List, [], ◌∷◌, ◌++◌, length, map, take, Option, Some, true, slice_get, arith, refl, ap, sym, subst, ◌∙◌}
use Rattle.std.specs.Prelude.{All, reverse}
use Rattle.kw_bits.specs.BitVector.{BitVector}
use Rattle.koika_types.specs.declared.value.Value.{Value}
use Rattle.typed_core.specs.Evaluation.{Ports, evaluate}
use Rattle.typed_core.specs.Valid.{ActionHasWidth}
use Rattle.typed_core.specs.declared.action.Action.{Action}
use Rattle.typed_core.specs.declared.outcome.Stopped.{Stopped}
use Rattle.koika_check.specs.Meaning.{Meaning, RuleSetting, apply, bodies_behind, body_by, meaning}
use Rattle.koika_check.specs.Types.{width_of}
use Rattle.koika_check.specs.Typing.{IsType}
use Rattle.koika_check.specs.declared.checked.Checked.{Checked}
use Rattle.koika_check.specs.declared.checked.CheckedFunction.{CheckedFunction}
use Rattle.koika_check.specs.declared.typed.Operation.TheVariants as operation
use Rattle.koika_check.specs.declared.typed.ValueType.{ValueType}
use Rattle.koika_lower.specs.inner.Applied.{IsBound, IsCalled, LetsTyped, lets}
use Rattle.koika_lower.specs.Lowering.{register_widths}
use Rattle.koika_lower.specs.inner.Simulation.{AreNames, IsApplied, IsBody, IsCallee, Lowers, LowersAll, NamesFit, NamesStand, Sense, Simulates, StandAll, Stands, apply_sense, declared_by, environment, parameter_names, world}
use Rattle.koika_lower.specs.declared.lowered.Bound.{Bound}
use Rattle.koika_lower.specs.declared.lowered.Lowered.{Lowered}
use Rattle.koika_lower.proofs.Constructs.{sim-core}
use Rattle.koika_lower.proofs.Names.{fit-bind, fit-deeper, names-bind, names-deeper, stand-bind}
use Rattle.koika_lower.proofs.Operands.{onto, onto-reverse, parts, sim-lets}

-- ---- the bodies of functions

pub get-front : {X : Type 0} (xs ys : List X) (i : ℕ) → i < length xs → slice_get (xs ++ ys) i ≡ slice_get xs i
get-front [] ys i h = absurd (omega arith)
get-front (x ∷ xs) ys zero h = refl
get-front (x ∷ xs) ys (suc i) h = get-front xs ys i (omega arith)

get-end : {X : Type 0} (xs : List X) (x : X) → slice_get (xs ++ x ∷ []) (length xs) ≡ Some x
get-end [] x = refl
get-end (y ∷ xs) x = get-end xs x

length-end : {X : Type 0} (xs : List X) (x : X) → length (xs ++ x ∷ []) ≡ suc (length xs)
length-end [] x = refl
length-end (y ∷ xs) x = ap suc (length-end xs x)

one_more : RuleSetting Stopped → CheckedFunction → RuleSetting Stopped
one_more s f = record s { bodies = s.bodies ++ meaning s f.body ∷ [] }

bodies-keep : (s : RuleSetting Stopped) (fs : List CheckedFunction) (i : ℕ) → i < length s.bodies → slice_get (bodies_behind s fs).bodies i ≡ slice_get s.bodies i
unfolding one_more
bodies-keep s [] i h = refl
bodies-keep s (f ∷ fs) i h =
    bodies-keep (one_more s f) fs i (omega (arith, length-end s.bodies (meaning s f.body))) ∙ get-front s.bodies (meaning s f.body ∷ []) i h

bodies-get : (s : RuleSetting Stopped) (fs : List CheckedFunction) (n number : ℕ) (f : CheckedFunction) → number < n → slice_get fs number ≡ Some f →
    slice_get (bodies_behind s (take n fs)).bodies (length s.bodies + number) ≡ Some (meaning (bodies_behind s (take number fs)) f.body)
unfolding one_more
bodies-get s [] n number f h e = cc
bodies-get s (g ∷ fs) zero number f h e = absurd (omega arith)
bodies-get s (g ∷ fs) (suc n) zero f h e =
    let same : g ≡ f = cc in
    ap (λ i. slice_get (bodies_behind (one_more s g) (take n fs)).bodies i) (omega arith) ∙
    bodies-keep (one_more s g) (take n fs) (length s.bodies) (omega (arith, length-end s.bodies (meaning s g.body))) ∙
    get-end s.bodies (meaning s g.body) ∙
    ap (λ (x : CheckedFunction). Some (meaning s x.body)) same
bodies-get s (g ∷ fs) (suc n) (suc number) f h e =
    ap (λ i. slice_get (bodies_behind (one_more s g) (take n fs)).bodies i) (omega (arith, length-end s.bodies (meaning s g.body))) ∙
    bodies-get (one_more s g) fs n number f (omega arith) e

pub world-bodies : (d : Checked) (n number : ℕ) (inputs : List BitVector) (ports : Ports Stopped) (f : CheckedFunction) → number < n → slice_get d.functions number ≡ Some f →
    slice_get (world d n inputs ports).bodies number ≡ Some (meaning (world d number inputs ports) f.body)
world-bodies d n number inputs ports f h e =
    ap (λ i. slice_get (world d n inputs ports).bodies i) (omega arith) ∙ bodies-get (record { design = d; inputs = inputs; ports = ports; bodies = [] }) d.functions n number f h e

-- ---- parameters

params-stand : (d : Checked) (level : ℕ) (ts : List ValueType) (names : List Bound) (types : List ValueType) (values vs : List Value) (locals xs : List BitVector) → AreNames d level names types →
    NamesStand d level names types values locals → All (IsType d) ts → StandAll d ts vs xs → NamesStand d (level + length ts) (parameter_names d level ts names) (onto ts types) (onto vs values) (onto xs locals)
params-stand d level [] names types values [] locals [] are st valid h = subst (λ k. NamesStand d k names types values locals) (omega arith) st
params-stand d level [] names types values [] locals (x ∷ xs) are st valid h = absurd h
params-stand d level [] names types values (v ∷ vs) locals xs are st valid h = absurd h
params-stand d level (t ∷ ts) names types values [] locals xs are st valid h = absurd h
params-stand d level (t ∷ ts) names types values (v ∷ vs) locals [] are st valid h = absurd h
params-stand d level (t ∷ ts) names types values (v ∷ vs) locals (x ∷ xs) are st valid h =
    subst (λ k. NamesStand d k (parameter_names d (level + 1) ts (record { level = level; width = width_of d t } ∷ names)) (onto ts (t ∷ types)) (onto vs (v ∷ values)) (onto xs (x ∷ locals))) (omega arith)
    (params-stand d (level + 1) ts (record { level = level; width = width_of d t } ∷ names) (t ∷ types) (v ∷ values) vs (x ∷ locals) xs
    (names-bind d level names types t (width_of d t) refl (valid 0 t (omega arith)) are) (stand-bind d level names types values locals t v x (width_of d t) are st h.0)
    (λ k z below. valid (suc k) z (omega arith)) h.1)

pub params-are : (d : Checked) (level : ℕ) (ts : List ValueType) (names : List Bound) (types : List ValueType) → AreNames d level names types → All (IsType d) ts →
    AreNames d (level + length ts) (parameter_names d level ts names) (onto ts types)
params-are d level [] names types are valid = subst (λ k. AreNames d k names types) (omega arith) are
params-are d level (t ∷ ts) names types are valid =
    subst (λ k. AreNames d k (parameter_names d (level + 1) ts (record { level = level; width = width_of d t } ∷ names)) (onto ts (t ∷ types))) (omega arith)
    (params-are d (level + 1) ts (record { level = level; width = width_of d t } ∷ names) (t ∷ types) (names-bind d level names types t (width_of d t) refl (valid 0 t (omega arith)) are)
    (λ k z below. valid (suc k) z (omega arith)))

params-fit : (d : Checked) (level : ℕ) (ts : List ValueType) (names : List Bound) (types : List ValueType) (widths : List ℕ) → AreNames d level names types → NamesFit level names widths → All (IsType d) ts →
    NamesFit (level + length ts) (parameter_names d level ts names) (onto (map (width_of d) ts) widths)
params-fit d level [] names types widths are f valid = subst (λ k. NamesFit k names widths) (omega arith) f
params-fit d level (t ∷ ts) names types widths are f valid =
    subst (λ k. NamesFit k (parameter_names d (level + 1) ts (record { level = level; width = width_of d t } ∷ names)) (onto (map (width_of d) ts) (width_of d t ∷ widths))) (omega arith)
    (params-fit d (level + 1) ts (record { level = level; width = width_of d t } ∷ names) (t ∷ types) (width_of d t ∷ widths) (names-bind d level names types t (width_of d t) refl (valid 0 t (omega arith)) are)
    (fit-bind d level names types widths (width_of d t) are f) (λ k z below. valid (suc k) z (omega arith)))

-- ---- operands that are bound

pub lets-typed : (d : Checked) (n depth : ℕ) (names : List Bound) (types : List ValueType) (ts : List ValueType) (senses : List Sense) (ls : List Lowered) (body : Action) (widths : List ℕ) (width : ℕ) →
    AreNames d depth names types → NamesFit depth names widths → LowersAll d n depth true names types (map Some ts) senses ls →
    ActionHasWidth (declared_by d) body (onto (map (width_of d) ts) widths) width → LetsTyped (declared_by d) ls body widths width
lets-typed d n depth names types [] [] [] body widths width are f all h = h
lets-typed d n depth names types [] [] (l ∷ ls) body widths width are f all h = absurd all
lets-typed d n depth names types [] (m ∷ ms) ls body widths width are f all h = absurd all
lets-typed d n depth names types (t ∷ ts) [] ls body widths width are f all h = absurd all
lets-typed d n depth names types (t ∷ ts) (m ∷ ms) [] body widths width are f all h = absurd all
lets-typed d n depth names types (t ∷ ts) (m ∷ ms) (l ∷ ls) body widths width are f all h = (
  all.0.typed widths f,
  subst (λ w. 1 ≤ w) (sym all.0.width) all.0.valid.0,
  subst (λ w. LetsTyped (declared_by d) ls body (w ∷ widths) width) (sym all.0.width)
      (lets-typed d n (depth + 1) names types ts ms ls body (width_of d t ∷ widths) width (names-deeper d depth names types are) (fit-deeper d depth names types widths (width_of d t) are f) all.1 h),
)

module _ (d : Checked) (n depth : ℕ) (names : List Bound) (types : List ValueType) where
  call-lowers : (number : ℕ) (ts : List ValueType) (of : Option ValueType) (senses : List Sense) (operands : List Lowered) (body : Lowered) (a : Action) →
      IsCallee d n (operation.Call number) body → IsBound operands body.action a → IsApplied d n depth names types (operation.Call number) ts of senses operands →
      Lowers d n depth names types of (apply_sense (operation.Call number) senses) (record { action = a; width = body.width })
  call-lowers number ts of senses operands body a callee bound given =
      let it = given.applies in
      let f : CheckedFunction = it.0 in
      let is : IsBody d number f body = callee f it.1 it.2 in
      let valid = (given.design.functions number f it.2).parameters in
      let all : LowersAll d n depth true names types (map Some f.parameters) senses operands = subst (λ us. LowersAll d n depth true names types (map Some us) senses operands) it.3 given.all in
      subst (λ (o : Option ValueType). Lowers d n depth names types o (apply_sense (operation.Call number) senses) (record { action = a; width = body.width })) (sym it.4)
      (record {
        valid = is.valid;
        width = is.width;
        typed = λ widths fits. bound.typed (declared_by d) widths body.width
            (lets-typed d n depth names types f.parameters senses operands body.action widths body.width given.are fits all
            (is.typed (onto (map (width_of d) f.parameters) widths)
            (subst (λ k. NamesFit k (parameter_names d 0 f.parameters []) (onto (map (width_of d) f.parameters) widths)) (omega arith) (params-fit d 0 f.parameters [] [] widths tt tt valid))));
        means = λ inputs ports values locals w p st.
            sim-core (register_widths d) (Stands d f.result) (apply_sense (operation.Call number) senses (world d n inputs ports) values) (evaluate (environment d inputs) ports a locals)
            (lets (parts d n names types inputs ports values w p operands) (evaluate (environment d inputs) ports body.action) locals) (bound.means (environment d inputs) ports locals)
            (sim-lets d n names types inputs ports values w p (Stands d f.result) depth f.parameters senses operands (apply (world d n inputs ports) (operation.Call number)) (evaluate (environment d inputs) ports body.action) locals
            given.are st all
            (λ vs xs each.
            subst (λ (o : Option (Meaning Stopped)). Simulates (register_widths d) (Stands d f.result) (body_by o (reverse vs)) (evaluate (environment d inputs) ports body.action (onto xs locals)))
            (sym (world-bodies d n number inputs ports f it.1 it.2))
            (is.means inputs ports (reverse vs) (onto xs locals) w p
            (subst (λ us. NamesStand d (length f.parameters) (parameter_names d 0 f.parameters []) us (reverse vs) (onto xs locals)) (onto-reverse f.parameters)
            (subst (λ us. NamesStand d (length f.parameters) (parameter_names d 0 f.parameters []) (onto f.parameters []) us (onto xs locals)) (onto-reverse vs)
            (subst (λ k. NamesStand d k (parameter_names d 0 f.parameters []) (onto f.parameters []) (onto vs []) (onto xs locals)) (omega arith)
            (params-stand d 0 f.parameters [] [] [] vs locals xs tt tt valid each)))))));
      })

  -- what the code makes of a call
  pub called-lowers : (number : ℕ) (ts : List ValueType) (of : Option ValueType) (senses : List Sense) (operands : List Lowered) (body l : Lowered) → IsCallee d n (operation.Call number) body →
      IsCalled body operands l → IsApplied d n depth names types (operation.Call number) ts of senses operands → Lowers d n depth names types of (apply_sense (operation.Call number) senses) l
  called-lowers number ts of senses operands body l callee is given =
      subst (λ w. Lowers d n depth names types of (apply_sense (operation.Call number) senses) (record { action = l.action; width = w })) (sym is.width)
      (call-lowers number ts of senses operands body l.action callee is.bound given)
