-- The steps of a block are lowered, from one on.
use Rattle.std.proofs.Common.{◌≡◌, ℕ, ◌+◌, ◌≤◌, inl, inr, List, [], ◌∷◌, Option, Some, None, IfSome, arith, refl, ap, sym, subst, ◌∙◌}
use Rattle.kw_bits.specs.BitVector.{BitVector}
use Rattle.koika_types.specs.declared.value.Value.{Value}
use Rattle.typed_core.specs.Evaluation.{Ending, Value as Reached, Stop, Evaluation, ◌>>=◌, comes_to, evaluate, unit}
use Rattle.typed_core.specs.Valid.{ActionHasWidth}
use Rattle.typed_core.specs.declared.action.Action.{Action}
use Rattle.typed_core.specs.declared.outcome.Stopped.{Stopped}
use Rattle.koika_check.specs.Meaning.{StepMeaning, meaning, with_value}
use Rattle.koika_check.specs.Typing.{Binds, Gives, HasType, IsType, Runs, StepsHaveType}
use Rattle.koika_check.specs.inner.Typing.{StepHasType}
use Rattle.koika_check.specs.declared.checked.Checked.{Checked}
use Rattle.koika_check.specs.declared.typed.BlockStep.{BlockStep}
use Rattle.koika_check.specs.declared.typed.BlockStep.TheOpen as opened
use Rattle.koika_check.specs.declared.typed.BlockStep.TheVariants as step
use Rattle.koika_check.specs.declared.typed.Typed.{Typed}
use Rattle.koika_check.specs.declared.typed.ValueType.{ValueType}
use Rattle.koika_lower.specs.inner.Actions.{IsLet}
use Rattle.koika_lower.specs.inner.Applied.{IsAfter, idle}
use Rattle.koika_lower.specs.inner.Expressions.{block_sense, sense_of}
use Rattle.koika_lower.specs.Lowering.{register_widths}
use Rattle.koika_lower.specs.inner.Simulation.{AreNames, EndAlike, Lowers, Sense, Simulates, Stands, declared_by, environment, width_if, world}
use Rattle.koika_lower.specs.declared.lowered.Bound.{Bound}
use Rattle.koika_lower.specs.declared.lowered.Lowered.{Lowered}
use Rattle.koika_lower.proofs.Constructs.{sim-core}
use Rattle.koika_lower.proofs.Atoms.{lowers-sense}
use Rattle.koika_lower.proofs.MeaningLayers.{meaning-Do, meaning-Give, meaning-Let}
use Rattle.koika_lower.proofs.Names.{fit-bind, stand-bind}
use Rattle.koika_lower.proofs.Operands.{some_value}
use Rattle.koika_lower.proofs.Simulations.{sim-bind, sim-then, sim-value}
use Rattle.koika_check.proofs.TypingLayers.{open-step}

-- ---- what steps do, by their kinds

module _ (d : Checked) (n : ℕ) (rest : List BlockStep) (types : List ValueType) (of : Option ValueType) where
  pub let-typed : (v : Typed) → StepsHaveType (StepHasType d n) (step.Let v ∷ rest) types of →
      (bound : ValueType) × HasType d n v types (Some bound) × StepsHaveType (StepHasType d n) rest (bound ∷ types) of
  let-typed v (inl h) = (h.0, open-step d n (step.Let v) (opened.Let v) (step.rolls-Let v) types (Binds h.0) h.1, h.2)
  let-typed v (inr (inl h)) = absurd (open-step d n (step.Let v) (opened.Let v) (step.rolls-Let v) types Runs h.0)
  let-typed v (inr (inr h)) = absurd (open-step d n (step.Let v) (opened.Let v) (step.rolls-Let v) types (Gives of) h.0)

  pub do-typed : (v : Typed) → StepsHaveType (StepHasType d n) (step.Do v ∷ rest) types of →
      (first : Option ValueType) × HasType d n v types first × StepsHaveType (StepHasType d n) rest types of
  do-typed v (inl h) = absurd (open-step d n (step.Do v) (opened.Do v) (step.rolls-Do v) types (Binds h.0) h.1)
  do-typed v (inr (inl h)) = let first = open-step d n (step.Do v) (opened.Do v) (step.rolls-Do v) types Runs h.0 in (first.0, first.1, h.1)
  do-typed v (inr (inr h)) = absurd (open-step d n (step.Do v) (opened.Do v) (step.rolls-Do v) types (Gives of) h.0)

  pub give-typed : (v : Typed) → StepsHaveType (StepHasType d n) (step.Give v ∷ rest) types of → HasType d n v types of
  give-typed v (inl h) = absurd (open-step d n (step.Give v) (opened.Give v) (step.rolls-Give v) types (Binds h.0) h.1)
  give-typed v (inr (inl h)) = absurd (open-step d n (step.Give v) (opened.Give v) (step.rolls-Give v) types Runs h.0)
  give-typed v (inr (inr h)) = open-step d n (step.Give v) (opened.Give v) (step.rolls-Give v) types (Gives of) h.0

-- ---- nothing

-- a type whose values have no bits is none
no-type : (d : Checked) (of : Option ValueType) → IfSome of (IsType d) → width_if d of ≡ 0 → of ≡ None
no-type d None valid e = refl
no-type d (Some t) valid e = absurd (omega (arith, valid.0, e))

no-bits : (d : Checked) (x : BitVector) → x.width ≡ 0 → (v : Ending (Option Value) Stopped) → EndAlike (Stands d None) v (Reached unit) → EndAlike (Stands d None) v (Reached x)
no-bits d x e (Reached None) h = e
no-bits d x e (Reached (Some v)) h = absurd h
no-bits d x e (Stop c) h = absurd h

no-width : (d : Checked) (v : Option Value) (x : BitVector) → Stands d None v x → x.width ≡ 0
no-width d None x h = h
no-width d (Some v) x h = absurd h

sim-unit : (d : Checked) (regs : List ℕ) (m : Evaluation (Option Value) Stopped) (x : BitVector) → x.width ≡ 0 → Simulates regs (Stands d None) m (comes_to unit) → Simulates regs (Stands d None) m (comes_to x)
sim-unit d regs m x e h events fit = let s = h events fit in (s.0, s.1, no-bits d x e (m events).ending s.2)

module _ (d : Checked) (n depth : ℕ) (names : List Bound) (types : List ValueType) where
  pub end-lowers : (of : Option ValueType) → of ≡ None → Lowers d n depth names types of (block_sense []) idle
  end-lowers of e = subst (λ (o : Option ValueType). Lowers d n depth names types o (block_sense []) idle) (sym e) (record {
    valid = tt;
    width = refl;
    typed = λ widths f. refl;
    means = λ inputs ports values locals w p st. sim-value (register_widths d) (Stands d None) None unit refl;
  })

  -- ---- a value that is bound

  pub let-lowers : (v : Typed) (t : ValueType) (rest : List BlockStep) (of : Option ValueType) (value behind : Lowered) (a : Action) → AreNames d depth names types → IsLet value.action behind.action a →
      Lowers d n depth names types (Some t) (sense_of v) value →
      Lowers d n (depth + 1) (record { level = depth; width = value.width } ∷ names) (t ∷ types) of (block_sense rest) behind →
      Lowers d n depth names types of (block_sense (step.Let v ∷ rest)) (record { action = a; width = behind.width })
  let-lowers v t rest of value behind a are is bound body =
      lowers-sense d n depth names types of (λ s values. meaning s v values >>= λ x. block_sense rest s (with_value x values)) (block_sense (step.Let v ∷ rest)) (record { action = a; width = behind.width })
      (λ s. sym (ap (λ (m : StepMeaning Stopped). m (block_sense rest s)) (meaning-Let s v)))
      (record {
        valid = body.valid;
        width = body.width;
        typed = λ widths f. is.typed (declared_by d) widths value.width behind.width (bound.typed widths f) (subst (λ w. 1 ≤ w) (sym bound.width) bound.valid.0)
            (body.typed (value.width ∷ widths) (fit-bind d depth names types widths value.width are f));
        means = λ inputs ports values locals w p st.
            sim-core (register_widths d) (Stands d of) (meaning (world d n inputs ports) v values >>= λ x. block_sense rest (world d n inputs ports) (with_value x values))
            (evaluate (environment d inputs) ports a locals)
            (evaluate (environment d inputs) ports value.action locals >>= λ x. evaluate (environment d inputs) ports behind.action (x ∷ locals))
            (is.means (environment d inputs) ports locals)
            (sim-bind (register_widths d) (Stands d (Some t)) (Stands d of) (λ x. block_sense rest (world d n inputs ports) (with_value x values))
            (λ x. evaluate (environment d inputs) ports behind.action (x ∷ locals))
            (some_value d (register_widths d) (Stands d of) t (λ x. block_sense rest (world d n inputs ports) (with_value x values)) (λ x. evaluate (environment d inputs) ports behind.action (x ∷ locals))
            (λ u x stands. body.means inputs ports (u ∷ values) (x ∷ locals) w p (stand-bind d depth names types values locals t u x value.width are st stands)))
            (meaning (world d n inputs ports) v values) (evaluate (environment d inputs) ports value.action locals) (bound.means inputs ports values locals w p st));
      })

  -- ---- a value that is dropped

  -- one after another
  abbrev both : Typed → List BlockStep → Sense
  both v rest s values = meaning s v values >>= λ _. block_sense rest s values

  after : (v : Typed) (t : Option ValueType) (rest : List BlockStep) (of : Option ValueType) (first behind l : Lowered) → IsAfter first behind l → Lowers d n depth names types t (sense_of v) first →
      Lowers d n depth names types of (block_sense rest) behind → Lowers d n depth names types of (both v rest) l
  after v t rest of first behind l (inl (nothing, same)) run body =
      subst (λ (x : Lowered). Lowers d n depth names types of (both v rest) x) (sym same) (record {
        valid = body.valid;
        width = body.width;
        typed = body.typed;
        means = λ inputs ports values locals w p st.
            sim-bind (register_widths d) (Stands d t) (Stands d of) (λ _. block_sense rest (world d n inputs ports) values) (λ _. evaluate (environment d inputs) ports behind.action locals)
            (λ u x stands. body.means inputs ports values locals w p st) (meaning (world d n inputs ports) v values) (comes_to unit)
            (subst (λ (a : Action). Simulates (register_widths d) (Stands d t) (meaning (world d n inputs ports) v values) (evaluate (environment d inputs) ports a locals)) nothing
            (run.means inputs ports values locals w p st));
      })
  after v t rest of first behind l (inr (inl (none, also, nothing, same))) run body =
      let empty : t ≡ None = no-type d t run.valid (sym run.width ∙ none) in
      let whole : of ≡ None = no-type d of body.valid (sym body.width ∙ also) in
      subst (λ (x : Lowered). Lowers d n depth names types of (both v rest) x) (sym same)
      (subst (λ (o : Option ValueType). Lowers d n depth names types o (both v rest) first) (sym whole) (record {
        valid = tt;
        width = none;
        typed = run.typed;
        means = λ inputs ports values locals w p st.
            sim-then (register_widths d) (Stands d None) (Stands d None) (meaning (world d n inputs ports) v values) (evaluate (environment d inputs) ports first.action locals)
            (λ _. block_sense rest (world d n inputs ports) values)
            (subst (λ (o : Option ValueType). Simulates (register_widths d) (Stands d o) (meaning (world d n inputs ports) v values) (evaluate (environment d inputs) ports first.action locals)) empty
            (run.means inputs ports values locals w p st))
            (λ u x stands. sim-unit d (register_widths d) (block_sense rest (world d n inputs ports) values) x (no-width d u x stands)
            (subst (λ (a : Action). Simulates (register_widths d) (Stands d None) (block_sense rest (world d n inputs ports) values) (evaluate (environment d inputs) ports a locals)) nothing
            (subst (λ (o : Option ValueType). Simulates (register_widths d) (Stands d o) (block_sense rest (world d n inputs ports) values) (evaluate (environment d inputs) ports behind.action locals)) whole
            (body.means inputs ports values locals w p st))));
      }))
  after v t rest of first behind l (inr (inr (is, same))) run body =
      record {
        valid = body.valid;
        width = same ∙ body.width;
        typed = λ widths f. subst (λ w. ActionHasWidth (declared_by d) l.action widths w) (sym same)
            (is.typed (declared_by d) widths first.width behind.width (run.typed widths f) (body.typed widths f));
        means = λ inputs ports values locals w p st.
            sim-core (register_widths d) (Stands d of) (both v rest (world d n inputs ports) values) (evaluate (environment d inputs) ports l.action locals)
            (evaluate (environment d inputs) ports first.action locals >>= λ _. evaluate (environment d inputs) ports behind.action locals) (is.means (environment d inputs) ports locals)
            (sim-bind (register_widths d) (Stands d t) (Stands d of) (λ _. block_sense rest (world d n inputs ports) values) (λ _. evaluate (environment d inputs) ports behind.action locals)
            (λ u x stands. body.means inputs ports values locals w p st) (meaning (world d n inputs ports) v values) (evaluate (environment d inputs) ports first.action locals)
            (run.means inputs ports values locals w p st));
      }

  pub do-lowers : (v : Typed) (t : Option ValueType) (rest : List BlockStep) (of : Option ValueType) (first behind l : Lowered) → IsAfter first behind l → Lowers d n depth names types t (sense_of v) first →
      Lowers d n depth names types of (block_sense rest) behind → Lowers d n depth names types of (block_sense (step.Do v ∷ rest)) l
  do-lowers v t rest of first behind l is run body =
      lowers-sense d n depth names types of (both v rest) (block_sense (step.Do v ∷ rest)) l (λ s. sym (ap (λ (m : StepMeaning Stopped). m (block_sense rest s)) (meaning-Do s v)))
      (after v t rest of first behind l is run body)

  -- ---- the value of the block

  pub give-lowers : (v : Typed) (rest : List BlockStep) (of : Option ValueType) (l : Lowered) → Lowers d n depth names types of (sense_of v) l →
      Lowers d n depth names types of (block_sense (step.Give v ∷ rest)) l
  give-lowers v rest of l h =
      lowers-sense d n depth names types of (sense_of v) (block_sense (step.Give v ∷ rest)) l (λ s. sym (ap (λ (m : StepMeaning Stopped). m (block_sense rest s)) (meaning-Give s v))) h
