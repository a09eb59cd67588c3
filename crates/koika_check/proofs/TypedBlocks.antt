-- Blocks and chains are well typed where their parts are.
use Rattle.std.proofs.Common.{◌≡◌, ℕ, zero, suc, ◌<◌, ◌≤◌, ◌⊎◌, inl, inr, List, [], ◌∷◌, ◌++◌, length, map, Option, Some, None, IfSome, arith, refl, ap, sym, subst, ◌∙◌, append_assoc, append-nil}
use Rattle.std.specs.List.{All, AllByRecursion}
use Rattle.koika_check.specs.Constructs.{Joined, Typing, chained, join, typing}
use Rattle.koika_check.specs.Expressions.{Joining, ExpressionTyping, BlockSoFar, StatementTyping, Stepping, block_from, chain_in, close, join_in, run}
use Rattle.koika_check.specs.Outcomes.{Gives, one_by_one}
use Rattle.koika_check.specs.Scopes.{Local, Scope}
use Rattle.koika_check.specs.Types.{width_if}
use Rattle.koika_check.specs.Typing.{Binds, HasType, IsType, Runs, StepsHaveType}
use Rattle.koika_check.specs.inner.Typing.{StepHasType}
use Rattle.koika_check.specs.Typing as has
use Rattle.koika_check.specs.declared.checked.Checked.{Checked}
use Rattle.koika_check.specs.declared.typed.BlockStep.{BlockStep}
use Rattle.koika_check.specs.declared.typed.BlockStep.TheOpen as opened
use Rattle.koika_check.specs.declared.typed.BlockStep.TheVariants as step
use Rattle.koika_check.specs.declared.typed.Typed.TheVariants as typed
use Rattle.koika_check.specs.declared.typed.ValueType.{ValueType}
use Rattle.koika_check.proofs.Answering.{bind-gives}
use Rattle.koika_check.proofs.TypedConstructs.{IsJoined, IsTyped, chained-typed, join-first, join-next}
use Rattle.koika_check.proofs.TypedParts.{gives-same}
use Rattle.koika_check.proofs.TypedSoFar.{IsGood}
use Rattle.koika_check.proofs.TypingLayers.{close-HasType, close-step}

-- what an expression comes to is well typed
abbrev pub Sound : ExpressionTyping → Type 0
Sound m = (scope : Scope) → IsGood scope → (x : Typing) → m scope ≡ Gives x → IsTyped scope x

-- ---- chains

-- operators and operands behind the first ones
join_all : (scope : Scope) (first : Option ValueType) → IsGood scope → (rest : List Joining) (before after : Joined) → AllByRecursion (λ (j : Joining). Sound j.operand) rest → IsJoined scope first before →
    1 ≤ length before.operators → one_by_one (join_in scope) rest before ≡ Gives after → IsJoined scope first after × (1 ≤ length after.operators)
join_all scope first good [] before after sound h some e = subst (λ (j : Joined). IsJoined scope first j × (1 ≤ length j.operators)) (gives-same before after e) (h, some)
join_all scope first good (j ∷ rest) before after sound h some e =
    let next = bind-gives (join_in scope j before) (one_by_one (join_in scope) rest) after e in
    let right = bind-gives (j.operand scope) (λ right. join j.operator right before) next.0 next.1 in
    let it = join-next scope first j.operator right.0 before next.0 h (sound.0 scope good right.0 right.1) right.2 in
    join_all scope first good rest next.0 after sound.1 it.0 it.1 next.2

-- a chain of at least one operator
pub chain-typed : (scope : Scope) → IsGood scope → (rest : List Joining) (first x : Typing) → 0 < length rest → AllByRecursion (λ (j : Joining). Sound j.operand) rest → IsTyped scope first →
    chain_in scope rest first ≡ Gives x → IsTyped scope x
chain-typed scope good [] first x some sound h e = absurd (omega (arith, some))
chain-typed scope good (j ∷ rest) first x some sound h e =
    let start : Joined = record { left = first.part; operators = []; operands = first ∷ [] } in
    let all = bind-gives (one_by_one (join_in scope) (j ∷ rest) start) _ x e in
    let next = bind-gives (join_in scope j start) (one_by_one (join_in scope) rest) all.0 all.1 in
    let right = bind-gives (j.operand scope) (λ right. join j.operator right start) next.0 next.1 in
    let it = join-first scope j.operator first right.0 next.0 h (sound.0 scope good right.0 right.1) right.2 in
    let whole = join_all scope first.part.of good rest next.0 all.0 sound.1 it.0 it.1 next.2 in
    subst (IsTyped scope) (gives-same (chained (width_if scope.design first.part.of) all.0) x all.2) (chained-typed scope first.part.of all.0 whole.0 whole.1)

-- ---- statements

abbrev pub scope_at : Checked → List Local → Scope
scope_at d locals = record { design = d; locals = locals }

abbrev pub types_of : List Local → List ValueType
types_of = map (λ (l : Local). l.of)

-- a statement binds a value in what stands behind it, or is run for its effect
abbrev pub IsStepped : Checked → List Local → Stepping → Type 0
IsStepped d locals one =
    ((l : Local) × StepHasType d (length d.functions) one.step (types_of locals) (Binds l.of) × IsType d l.of × (one.behind ≡ scope_at d (l ∷ locals))) ⊎
    (StepHasType d (length d.functions) one.step (types_of locals) Runs × (one.behind ≡ scope_at d locals))

-- what a statement comes to is so in each good scope
abbrev pub SoundStep : StatementTyping → Type 0
SoundStep m = (d : Checked) (locals : List Local) → IsGood (scope_at d locals) → (one : Stepping) → m (scope_at d locals) ≡ Gives one → IsStepped d locals one

-- statements as far as they were looked at: what stands behind them has the block's type
pub record IsRun (d : Checked) (start : List Local) (r : BlockSoFar) : Type 0 where
  pub locals : List Local
  pub behind : r.behind ≡ scope_at d locals
  pub good : IsGood (scope_at d locals)
  pub rest : (tail : List BlockStep) (of : Option ValueType) → StepsHaveType (StepHasType d (length d.functions)) tail (types_of locals) of →
      StepsHaveType (StepHasType d (length d.functions)) (r.steps ++ tail) (types_of start) of

bound_too : (d : Checked) (locals : List Local) (l : Local) → IsGood (scope_at d locals) → IsType d l.of → IsGood (scope_at d (l ∷ locals))
bound_too d locals l good valid = record { design = good.design; locals = all_of }
  where
    all_of : All (IsType d) (types_of (l ∷ locals))
    all_of zero b lt = valid
    all_of (suc k) b lt = good.locals k b (omega (arith, lt))

module _ (d : Checked) (start : List Local) where
  run_next : (m : StatementTyping) (before after : BlockSoFar) → SoundStep m → IsRun d start before → run m before ≡ Gives after → IsRun d start after
  run_next m before after sound h e =
      let one = bind-gives (m before.behind) _ after e in
      let there : m (scope_at d h.locals) ≡ Gives one.0 = ap m (sym h.behind) ∙ one.1 in
      subst (IsRun d start) (gives-same (record { steps = before.steps ++ one.0.step ∷ []; behind = one.0.behind }) after one.2)
      (by_step one.0 (sound d h.locals h.good one.0 there))
    where
      by_step : (one : Stepping) → IsStepped d h.locals one → IsRun d start (record { steps = before.steps ++ one.step ∷ []; behind = one.behind })
      by_step one (inl it) = record {
        locals = it.0 ∷ h.locals;
        behind = it.3;
        good = bound_too d h.locals it.0 h.good it.2;
        rest = λ tail of t. subst (λ steps. StepsHaveType (StepHasType d (length d.functions)) steps (types_of start) of) (sym (append_assoc before.steps (one.step ∷ []) tail))
            (h.rest (one.step ∷ tail) of (inl (it.0.of, it.1, t)));
      }
      by_step one (inr it) = record {
        locals = h.locals;
        behind = it.1;
        good = h.good;
        rest = λ tail of t. subst (λ steps. StepsHaveType (StepHasType d (length d.functions)) steps (types_of start) of) (sym (append_assoc before.steps (one.step ∷ []) tail))
            (h.rest (one.step ∷ tail) of (inr (inl (it.0, t))));
      }

  run_all : (statements : List StatementTyping) (before after : BlockSoFar) → AllByRecursion SoundStep statements → IsRun d start before → one_by_one run statements before ≡ Gives after → IsRun d start after
  run_all [] before after sound h e = subst (IsRun d start) (gives-same before after e) h
  run_all (m ∷ statements) before after sound h e =
      let next = bind-gives (run m before) (one_by_one run statements) after e in
      run_all statements next.0 after sound.1 (run_next m before next.0 sound.0 h next.1) next.2

  block_has : (place : ℕ) (of : Option ValueType) (steps : List BlockStep) → StepsHaveType (StepHasType d (length d.functions)) steps (types_of start) of → IsTyped (scope_at d start) (typing of place (typed.Block steps))
  block_has place of steps h = close-HasType d (length d.functions) (typed.Block steps) (opened.Block steps) (typed.rolls-Block steps) (types_of start) of h

  close_typed : (place : ℕ) (last : Option ExpressionTyping) (all : BlockSoFar) (x : Typing) → IfSome last Sound → IsRun d start all → close place last all ≡ Gives x → IsTyped (scope_at d start) x
  close_typed place None all x sound h e =
      subst (IsTyped (scope_at d start)) (gives-same (typing None place (typed.Block all.steps)) x e)
      (block_has place None all.steps (subst (λ steps. StepsHaveType (StepHasType d (length d.functions)) steps (types_of start) None) (append-nil all.steps) (h.rest [] None refl)))
  close_typed place (Some last) all x sound h e =
      let value = bind-gives (last all.behind) _ x e in
      let there : last (scope_at d h.locals) ≡ Gives value.0 = ap last (sym h.behind) ∙ value.1 in
      let t = value.0.typed in
      let of = value.0.part.of in
      let it : HasType d (length d.functions) t (types_of h.locals) of = sound (scope_at d h.locals) h.good value.0 there in
      subst (IsTyped (scope_at d start)) (gives-same (typing of place (typed.Block (all.steps ++ step.Give t ∷ []))) x value.2)
      (block_has place of (all.steps ++ step.Give t ∷ [])
      (h.rest (step.Give t ∷ []) of (inr (inr (close-step d (length d.functions) (step.Give t) (opened.Give t) (step.rolls-Give t) (types_of h.locals) (has.Gives of) it, tt)))))

  block_typed : (place : ℕ) (statements : List StatementTyping) (last : Option ExpressionTyping) (x : Typing) → IsGood (scope_at d start) → AllByRecursion SoundStep statements → IfSome last Sound →
      block_from place statements last (scope_at d start) ≡ Gives x → IsTyped (scope_at d start) x
  block_typed place statements last x good sound last_sound e =
      let begin : BlockSoFar = record { steps = []; behind = scope_at d start } in
      let all = bind-gives (one_by_one run statements begin) (close place last) x e in
      close_typed place last all.0 x last_sound (run_all statements begin all.0 sound (record { locals = start; behind = refl; good = good; rest = λ tail of t. t }) all.1) all.2

-- a block of such statements, and a last expression
pub block-typed : (place : ℕ) (statements : List StatementTyping) (last : Option ExpressionTyping) → AllByRecursion SoundStep statements → IfSome last Sound → Sound (block_from place statements last)
block-typed place statements last sound last_sound scope good x e = block_typed scope.design scope.locals place statements last x good sound last_sound e
