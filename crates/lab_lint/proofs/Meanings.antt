-- What an expression evaluates to does what its occurrences say.
use Rattle.std.proofs.Common.{◌≡◌, ℕ, zero, suc, Bool, true, false, List, [], ◌∷◌, ◌++◌, map, nat_eq, Option, Some, None, refl, ap, sym, subst, ◌∙◌}
use Rattle.std.specs.Prelude.{if◌then◌else◌, reverse, slice_get}
use Rattle.std.specs.List.{AllByRecursion}
use Rattle.kw_bits.specs.BitVector.{BitVector}
use Rattle.koika_types.specs.declared.value.Value.{Value}
use Rattle.typed_core.specs.Evaluation.{Evaluation as Run, Ports, ◌>>=◌, bind, comes_to}
use Rattle.typed_core.specs.declared.outcome.Stopped.{Stopped}
use Rattle.koika_check.specs.Meaning.{Meaning, RuleSetting, StepMeaning, apply, bits_of_first, bodies_behind, body_by, choose, gives, in_turn, input_as, meaning, number_by, read_as, rule_body, setting, step_step, steps_in_turn, typed_step, unpacked, with_value}
use Rattle.koika_check.specs.declared.checked.Checked.{Checked}
use Rattle.koika_check.specs.declared.checked.CheckedFunction.{CheckedFunction}
use Rattle.koika_check.specs.declared.checked.Input.{Input}
use Rattle.koika_check.specs.declared.checked.Register.{Register}
use Rattle.koika_check.specs.declared.typed.Operation.{Operation}
use Rattle.koika_check.specs.declared.typed.Operation.TheVariants as operation
use Rattle.koika_check.specs.declared.typed.BlockStep.{BlockStep, BlockStep-F, map-BlockStep, roll-BlockStep, fold-roll-BlockStep}
use Rattle.koika_check.specs.declared.typed.BlockStep.TheOpen as opened
use Rattle.koika_check.specs.declared.typed.Typed.{Typed, Typed-F, map-Typed, roll-Typed, fold-roll-Typed, ind-Typed}
use Rattle.koika_syntax.proofs.TreeParts.{Such}
use Rattle.koika_check.proofs.TypedTreeParts.{EachOfStep, EachOfTyped, each_of_step, each_of_typed}
use Rattle.koika_lower.specs.inner.Expressions.{step_meaning}
use Rattle.koika_lower.proofs.Progress.{meaning-roll}
use Rattle.lab_lint.specs.Occurrences as parts
use Rattle.lab_lint.specs.Occurrences.{Part, choice, either, in_order, nothing, one, own, part_if, part_of}
use Rattle.lab_lint.specs.inner.Occurrences.{part_of_step}
use Rattle.lab_lint.specs.declared.occurrence.Occurrence.TheVariants as occurrence
use Rattle.lab_lint.proofs.Does.{Does, DoesRun, IsWithin, PortsDo, first-within, left-within, nothing-within, does-stop, right-within, run-bind, run-pure, run-value, run-within, second-within}
use Rattle.lab_lint.proofs.Layers.{part-roll, step-roll}

-- ---- one layer

stepped-roll : (s : RuleSetting Stopped) (x : BlockStep-F BlockStep Typed) → step_meaning s (roll-BlockStep x) ≡ step_step (map-BlockStep BlockStep Typed (StepMeaning Stopped) (Meaning Stopped) (step_meaning s) (meaning s) x)
unfolding meaning step_meaning
stepped-roll s x = fold-roll-BlockStep (StepMeaning Stopped) (Meaning Stopped) step_step (typed_step s) x

-- wherever it is evaluated
abbrev pub DoesAs : Part → Meaning Stopped → Type 0
DoesAs part m = (locals : List Value) → DoesRun part (m locals)

abbrev pub BodiesDo : List Part → List (Meaning Stopped) → Type 0
BodiesDo ps ms = (number : ℕ) → DoesAs (part_if (slice_get ps number)) (body_by (slice_get ms number))

module _ (ps : List Part) (s : RuleSetting Stopped) (ports : PortsDo s.ports) (bodies : BodiesDo ps s.bodies) where
  abbrev Fine : Typed → Type 0
  Fine e = DoesAs (part_of ps e) (meaning s e)

  abbrev FineStep : BlockStep → Type 0
  FineStep x = (rest : Part) (behind : Meaning Stopped) → DoesAs rest behind → DoesAs (in_order (part_of_step ps x) rest) (step_meaning s x behind)

  turns-do : (es : List Typed) → AllByRecursion Fine es → (locals : List Value) → DoesRun (parts.in_turn (map (part_of ps) es)) (in_turn (map (meaning s) es) locals)
  turns-do [] fine locals = run-value nothing []
  turns-do (e ∷ es) fine locals =
      run-bind (part_of ps e) (parts.in_turn (map (part_of ps) es)) (meaning s e locals) (λ v. in_turn (map (meaning s) es) locals >>= λ values. comes_to (with_value v values)) (fine.0 locals)
      (λ v. run-pure (parts.in_turn (map (part_of ps) es)) (in_turn (map (meaning s) es) locals) (λ values. with_value v values) (turns-do es fine.1 locals))

  arm-does : (b : Bool) (first second : Part) (x y : Run (Option Value) Stopped) → DoesRun first x → DoesRun second y → DoesRun (either first second) (if b then x else y)
  arm-does true first second x y d e = run-within first (either first second) x (left-within first second) d
  arm-does false first second x y d e = run-within second (either first second) y (right-within first second) e

  choice-does : (cs bs : List Typed) → AllByRecursion Fine cs → AllByRecursion Fine bs → (locals : List Value) →
      DoesRun (choice (map (part_of ps) cs) (map (part_of ps) bs)) (choose (map (meaning s) cs) (map (meaning s) bs) locals)
  choice-does [] [] fc fb locals = run-value nothing None
  choice-does [] (b ∷ bs) fc fb locals = fb.0 locals
  choice-does (c ∷ cs) [] fc fb locals = run-value nothing None
  choice-does (c ∷ cs) (b ∷ bs) fc fb locals =
      run-bind (part_of ps c) (either (part_of ps b) (choice (map (part_of ps) cs) (map (part_of ps) bs))) (meaning s c locals)
      (λ v. if nat_eq (number_by v) 1 then meaning s b locals else choose (map (meaning s) cs) (map (meaning s) bs) locals) (fc.0 locals)
      (λ v. arm-does (nat_eq (number_by v) 1) (part_of ps b) (choice (map (part_of ps) cs) (map (part_of ps) bs)) (meaning s b locals) (choose (map (meaning s) cs) (map (meaning s) bs) locals)
      (fb.0 locals) (choice-does cs bs fc.1 fb.1 locals))

  steps-do : (xs : List BlockStep) → AllByRecursion FineStep xs → DoesAs (parts.in_turn (map (part_of_step ps) xs)) (steps_in_turn (map (step_meaning s) xs))
  steps-do [] fine locals = run-value nothing None
  steps-do (x ∷ xs) fine locals = fine.0 (parts.in_turn (map (part_of_step ps) xs)) (steps_in_turn (map (step_meaning s) xs)) (steps-do xs fine.1) locals

  -- ---- operations

  pub apply-does : (o : Operation) (values : List Value) → DoesRun (own ps o) (apply s o values)
  apply-does (operation.Unary operators) values = run-value nothing _
  apply-does (operation.Chain operators width) [] = run-value nothing _
  apply-does (operation.Chain operators width) (v ∷ values) = run-value nothing _
  apply-does (operation.Select selections) [] = run-value nothing _
  apply-does (operation.Select selections) (v ∷ values) = run-value nothing _
  apply-does (operation.Update selection) [] = run-value nothing _
  apply-does (operation.Update selection) (v ∷ []) = run-value nothing _
  apply-does (operation.Update selection) (v ∷ w ∷ values) = run-value nothing _
  apply-does (operation.Struct number) values = run-value nothing _
  apply-does operation.Array values = run-value nothing _
  apply-does operation.Pack values = run-value nothing _
  apply-does (operation.Unpack of) values = run-value nothing _
  apply-does (operation.Extend extension width) values = run-value nothing _
  apply-does (operation.Compare comparison) [] = run-value nothing _
  apply-does (operation.Compare comparison) (v ∷ []) = run-value nothing _
  apply-does (operation.Compare comparison) (v ∷ w ∷ values) = run-value nothing _
  apply-does (operation.Table number) values = run-value _ _
  apply-does (operation.Host number) values = run-value _ _
  apply-does (operation.Call number) values = bodies number (reverse values)
  apply-does (operation.Read port register) values = read-does (slice_get s.design.registers register)
    where
      read-does : (r : Option Register) → DoesRun (own ps (operation.Read port register)) (s.ports.read port register >>= λ bits. read_as s.design r bits)
      read-does None =
          let f : BitVector → Option Value = λ bits. None in
          run-pure (own ps (operation.Read port register)) (s.ports.read port register) f (ports.read port register)
      read-does (Some r) =
          let f : BitVector → Option Value = λ bits. Some (unpacked s.design r.of bits) in
          run-pure (own ps (operation.Read port register)) (s.ports.read port register) f (ports.read port register)
  apply-does (operation.Write port register) values =
      let f : BitVector → Option Value = λ _. None in
      run-pure (own ps (operation.Write port register)) (s.ports.write port register (bits_of_first values)) f (ports.write port register (bits_of_first values))
  apply-does operation.Abort values = λ before. does-stop nothing s.ports.abort before ports.abort

  -- ---- one layer of an expression

  input-does : (number : ℕ) (i : Option Input) (bits : Option BitVector) → DoesRun (one (occurrence.Input number)) (input_as s.design i bits)
  input-does number None bits = run-value _ _
  input-does number (Some i) None = run-value _ _
  input-does number (Some i) (Some bits) = run-value _ _

  part-does : (x : Typed-F BlockStep Typed) → EachOfTyped FineStep Fine x →
      DoesAs (parts.typed_step ps (map-Typed BlockStep Typed Part Part (part_of_step ps) (part_of ps) x)) (typed_step s (map-Typed BlockStep Typed (StepMeaning Stopped) (Meaning Stopped) (step_meaning s) (meaning s) x))
  part-does (opened.Constant v) fine locals = run-value nothing _
  part-does (opened.Local index) fine locals = run-value nothing _
  part-does (opened.Input number) fine locals = input-does number (slice_get s.design.inputs number) (slice_get s.inputs number)
  part-does (opened.Apply o operands) fine locals =
      run-bind (parts.in_turn (map (part_of ps) operands)) (own ps o) (in_turn (map (meaning s) operands) locals) (apply s o) (turns-do operands fine locals) (apply-does o)
  part-does (opened.If conditions arms) fine locals = choice-does conditions arms fine.0 fine.1 locals
  part-does (opened.Block steps) fine locals = steps-do steps fine locals

  typed_layer : (x : Typed-F BlockStep Typed) (y : Typed-F (Such FineStep) (Such Fine)) → map-Typed (Such FineStep) (Such Fine) BlockStep Typed (λ e. e.0) (λ e. e.0) y ≡ x → Fine (roll-Typed x)
  typed_layer x y same =
      let it = part-does x (subst (EachOfTyped FineStep Fine) same (each_of_typed FineStep Fine y)) in
      subst (λ (m : Meaning Stopped). DoesAs (part_of ps (roll-Typed x)) m) (sym (meaning-roll s x))
      (subst (λ (p : Part). DoesAs p (typed_step s (map-Typed BlockStep Typed (StepMeaning Stopped) (Meaning Stopped) (step_meaning s) (meaning s) x))) (sym (part-roll ps x)) it)

  -- ---- and of a step

  step-does : (x : BlockStep-F BlockStep Typed) → EachOfStep FineStep Fine x → (rest : Part) (behind : Meaning Stopped) → DoesAs rest behind →
      DoesAs (in_order (parts.step_step (map-BlockStep BlockStep Typed Part Part (part_of_step ps) (part_of ps) x)) rest) (step_step (map-BlockStep BlockStep Typed (StepMeaning Stopped) (Meaning Stopped) (step_meaning s) (meaning s) x) behind)
  step-does (opened.Let v) fine rest behind next locals =
      run-bind (part_of ps v) rest (meaning s v locals) (λ bound. behind (with_value bound locals)) (fine locals) (λ bound. next (with_value bound locals))
  step-does (opened.Do v) fine rest behind next locals = run-bind (part_of ps v) rest (meaning s v locals) (λ _. behind locals) (fine locals) (λ _. next locals)
  step-does (opened.Give v) fine rest behind next locals = run-within (part_of ps v) (in_order (part_of ps v) rest) (meaning s v locals) (first-within (part_of ps v) rest) (fine locals)

  step_layer : (x : BlockStep-F BlockStep Typed) (y : BlockStep-F (Such FineStep) (Such Fine)) → map-BlockStep (Such FineStep) (Such Fine) BlockStep Typed (λ e. e.0) (λ e. e.0) y ≡ x → FineStep (roll-BlockStep x)
  step_layer x y same rest behind next =
      let it = step-does x (subst (EachOfStep FineStep Fine) same (each_of_step FineStep Fine y)) rest behind next in
      subst (λ (m : StepMeaning Stopped). DoesAs (in_order (part_of_step ps (roll-BlockStep x)) rest) (m behind)) (sym (stepped-roll s x))
      (subst (λ (p : Part). DoesAs (in_order p rest) (step_step (map-BlockStep BlockStep Typed (StepMeaning Stopped) (Meaning Stopped) (step_meaning s) (meaning s) x) behind)) (sym (step-roll ps x)) it)

  -- where these bodies may be called
  pub expression-does : (e : Typed) → DoesAs (part_of ps e) (meaning s e)
  expression-does = ind-Typed FineStep Fine step_layer typed_layer

-- ---- bodies

abbrev Side : List Part → List (Meaning Stopped) → Type 0
Side [] [] = Unit {0}
Side (p ∷ ps) (m ∷ ms) = DoesAs p m × Side ps ms
Side ps ms = ⊥

side-at : (ps : List Part) (ms : List (Meaning Stopped)) → Side ps ms → BodiesDo ps ms
side-at [] [] side number locals = run-value nothing None
side-at [] (m ∷ ms) side number locals = absurd side
side-at (p ∷ ps) [] side number locals = absurd side
side-at (p ∷ ps) (m ∷ ms) side zero locals = side.0 locals
side-at (p ∷ ps) (m ∷ ms) side (suc number) locals = side-at ps ms side.1 number locals

side-push : (ps : List Part) (ms : List (Meaning Stopped)) (p : Part) (m : Meaning Stopped) → Side ps ms → DoesAs p m → Side (ps ++ p ∷ []) (ms ++ m ∷ [])
side-push [] [] p m side does = (does, tt)
side-push [] (n ∷ ms) p m side does = absurd side
side-push (q ∷ ps) [] p m side does = absurd side
side-push (q ∷ ps) (n ∷ ms) p m side does = (side.0, side-push ps ms p m side.1 does)

-- settings in which these bodies may be called, and the parts that they are
record Settled (ps : List Part) (before after : RuleSetting Stopped) : Type 0 where
  ports : after.ports ≡ before.ports
  side : Side ps after.bodies

settle : (s : RuleSetting Stopped) (ps : List Part) (fs : List CheckedFunction) → PortsDo s.ports → Side ps s.bodies → Settled (parts.bodies_behind ps fs) s (bodies_behind s fs)
settle s ps [] ports side = record { ports = refl; side = side }
settle s ps (f ∷ fs) ports side =
    let next : RuleSetting Stopped = record s { bodies = s.bodies ++ meaning s f.body ∷ [] } in
    let it = settle next (ps ++ part_of ps f.body ∷ []) fs ports
    (side-push ps s.bodies (part_of ps f.body) (meaning s f.body) side (expression-does ps s ports (side-at ps s.bodies side) f.body)) in
    record { ports = it.ports; side = it.side }

-- a body of a rule, in a design all of whose functions may be called
pub body-does : (d : Checked) (inputs : List BitVector) (ports : Ports Stopped) (e : Typed) → PortsDo ports → DoesRun (part_of (parts.bodies_behind [] d.functions) e) (rule_body d inputs ports e)
body-does d inputs ports e they =
    let s : RuleSetting Stopped = record { design = d; inputs = inputs; ports = ports; bodies = [] } in
    let it = settle s [] d.functions they tt in
    expression-does (parts.bodies_behind [] d.functions) (bodies_behind s d.functions) (subst PortsDo (sym it.ports) they) (side-at (parts.bodies_behind [] d.functions) (bodies_behind s d.functions).bodies it.side) e []
