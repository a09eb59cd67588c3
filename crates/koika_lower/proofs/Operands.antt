-- Operands that are evaluated in turn, and what goes on with their values.
use Rattle.std.proofs.Common.{◌≡◌, ℕ, ◌+◌, List, [], ◌∷◌, map, Option, Some, None, true, refl, ◌∙◌}
use mathlib.Core.List.{reverse_aux}
use Rattle.std.specs.Prelude.{reverse}
use Rattle.kw_bits.specs.BitVector.{BitVector}
use Rattle.koika_types.specs.declared.value.Value.{Value}
use Rattle.typed_core.specs.Evaluation.{Evaluation, Ports, ◌>>=◌, comes_to, evaluate}
use Rattle.typed_core.specs.Fits.{PortsFit}
use Rattle.typed_core.specs.Widths.{HaveWidths}
use Rattle.typed_core.specs.declared.outcome.Stopped.{Stopped}
use Rattle.koika_check.specs.Meaning.{Meaning, in_turn, with_value}
use Rattle.koika_check.specs.declared.checked.Checked.{Checked}
use Rattle.koika_check.specs.declared.typed.ValueType.{ValueType}
use Rattle.koika_lower.specs.inner.Applied.{lets, values_of}
use Rattle.koika_lower.specs.Lowering.{typed_input_widths, register_widths}
use Rattle.koika_lower.specs.inner.Simulation.{AreNames, LowersAll, NamesStand, Sense, Simulates, StandAll, Stands, environment, world}
use Rattle.koika_lower.specs.declared.lowered.Bound.{Bound}
use Rattle.koika_lower.specs.declared.lowered.Lowered.{Lowered}
use Rattle.koika_lower.proofs.Names.{names-deeper, stand-deeper}
use Rattle.koika_lower.proofs.Orders.{bind-assoc}
use Rattle.koika_lower.proofs.Simulations.{sim-bind, sim-same, sim-then}

-- values on top of others, the last of them innermost
abbrev pub onto : {X : Type 0} → List X → List X → List X
onto [] ys = ys
onto (x ∷ xs) ys = onto xs (x ∷ ys)

onto-aux : {X : Type 0} (xs ys : List X) → onto xs ys ≡ reverse_aux xs ys
onto-aux [] ys = refl
onto-aux (x ∷ xs) ys = onto-aux xs (x ∷ ys)

pub onto-reverse : {X : Type 0} (xs : List X) → onto xs [] ≡ reverse xs
onto-reverse xs = onto-aux xs []

-- the first operand, and what goes on with its value and those behind it
turn-cons : {V : Type 0} (m : Meaning Stopped) (ms : List (Meaning Stopped)) (values : List Value) (k : List Value → Evaluation V Stopped) →
    (events : _) → (in_turn (m ∷ ms) values >>= k) events ≡ (m values >>= λ v. in_turn ms values >>= λ vs. k (with_value v vs)) events
turn-cons m ms values k events =
    bind-assoc (m values) (λ v. in_turn ms values >>= λ vs. comes_to (with_value v vs)) k events ∙
    (λ i. (m values >>= λ v. λ es. bind-assoc (in_turn ms values) (λ vs. comes_to (with_value v vs)) k es i) events)

module _ (d : Checked) (regs : List ℕ) where
  -- a value that isn't unit
  pub some_value : {V W : Type 0} (Q : V → W → Type 0) (t : ValueType) (f : Option Value → Evaluation V Stopped) (g : BitVector → Evaluation W Stopped) →
      ((v : Value) (x : BitVector) → Stands d (Some t) (Some v) x → Simulates regs Q (f (Some v)) (g x)) →
      (v : Option Value) (x : BitVector) → Stands d (Some t) v x → Simulates regs Q (f v) (g x)
  some_value Q t f g next (Some v) x is = next v x is
  some_value Q t f g next None x is = absurd is

  -- an operand in front of others
  pub sim-cons : {V W : Type 0} (Q : V → W → Type 0) (t : ValueType) (m : Meaning Stopped) (ms : List (Meaning Stopped)) (values : List Value) (k : List Value → Evaluation V Stopped)
      (a : Evaluation BitVector Stopped) (g : BitVector → Evaluation W Stopped) → Simulates regs (Stands d (Some t)) (m values) a →
      ((v : Value) (x : BitVector) → Stands d (Some t) (Some v) x → Simulates regs Q (in_turn ms values >>= λ vs. k (v ∷ vs)) (g x)) →
      Simulates regs Q (in_turn (m ∷ ms) values >>= k) (a >>= g)
  sim-cons Q t m ms values k a g h next =
      sim-same regs Q (in_turn (m ∷ ms) values >>= k) (m values >>= λ v. in_turn ms values >>= λ vs. k (with_value v vs)) (a >>= g) (turn-cons m ms values k)
      (sim-bind regs (Stands d (Some t)) Q (λ v. in_turn ms values >>= λ vs. k (with_value v vs)) g (some_value Q t (λ v. in_turn ms values >>= λ vs. k (with_value v vs)) g next) (m values) a h)

  -- one operand
  pub sim-one : {V W : Type 0} (Q : V → W → Type 0) (t : ValueType) (m : Meaning Stopped) (values : List Value) (k : List Value → Evaluation V Stopped)
      (a : Evaluation BitVector Stopped) (g : BitVector → Evaluation W Stopped) → Simulates regs (Stands d (Some t)) (m values) a →
      ((v : Value) (x : BitVector) → Stands d (Some t) (Some v) x → Simulates regs Q (k (v ∷ [])) (g x)) →
      Simulates regs Q (in_turn (m ∷ []) values >>= k) (a >>= g)
  sim-one Q t m values k a g h next = sim-cons Q t m [] values k a g h next

  -- one operand, whose bits are the result's
  pub sim-same-bits : {V : Type 0} (Q : V → BitVector → Type 0) (t : ValueType) (m : Meaning Stopped) (values : List Value) (k : List Value → Evaluation V Stopped)
      (a : Evaluation BitVector Stopped) → Simulates regs (Stands d (Some t)) (m values) a →
      ((v : Value) (x : BitVector) → Stands d (Some t) (Some v) x → Simulates regs Q (k (v ∷ [])) (comes_to x)) →
      Simulates regs Q (in_turn (m ∷ []) values >>= k) a
  sim-same-bits Q t m values k a h next =
      sim-same regs Q (in_turn (m ∷ []) values >>= k) (m values >>= λ v. k (with_value v [])) a (turn-cons m [] values k)
      (sim-then regs (Stands d (Some t)) Q (m values) a (λ v. k (with_value v [])) h (some_value Q t (λ v. k (with_value v [])) comes_to next))

-- where operands stand: what the settings and the names' values have to be
module _ (d : Checked) (n : ℕ) (names : List Bound) (types : List ValueType) (inputs : List BitVector) (ports : Ports Stopped) (values : List Value)
    (widths : HaveWidths (typed_input_widths d) inputs) (fit : PortsFit (register_widths d) ports) where
  abbrev pub meanings : List Sense → List (Meaning Stopped)
  meanings = map (λ (m : Sense). m (world d n inputs ports))

  abbrev pub parts : List Lowered → List (List BitVector → Evaluation BitVector Stopped)
  parts = values_of (environment d inputs) ports

  -- operands each of which is bound round those behind it and a body
  pub sim-lets : {V : Type 0} (Q : V → BitVector → Type 0) (depth : ℕ) (ts : List ValueType) (senses : List Sense) (ls : List Lowered) (k : List Value → Evaluation V Stopped)
      (body : List BitVector → Evaluation BitVector Stopped) (locals : List BitVector) → AreNames d depth names types → NamesStand d depth names types values locals →
      LowersAll d n depth true names types (map Some ts) senses ls →
      ((vs : List Value) (xs : List BitVector) → StandAll d ts vs xs → Simulates (register_widths d) Q (k vs) (body (onto xs locals))) →
      Simulates (register_widths d) Q (in_turn (meanings senses) values >>= k) (lets (parts ls) body locals)
  sim-lets Q depth [] [] [] k body locals are st all next = next [] [] tt
  sim-lets Q depth [] [] (l ∷ ls) k body locals are st all next = absurd all
  sim-lets Q depth [] (m ∷ senses) ls k body locals are st all next = absurd all
  sim-lets Q depth (t ∷ ts) [] ls k body locals are st all next = absurd all
  sim-lets Q depth (t ∷ ts) (m ∷ senses) [] k body locals are st all next = absurd all
  sim-lets Q depth (t ∷ ts) (m ∷ senses) (l ∷ ls) k body locals are st all next =
      sim-cons d (register_widths d) Q t (m (world d n inputs ports)) (meanings senses) values k (evaluate (environment d inputs) ports l.action locals) (λ x. lets (parts ls) body (x ∷ locals))
      (all.0.means inputs ports values locals widths fit st)
      (λ v x is. sim-lets Q (depth + 1) ts senses ls (λ vs. k (v ∷ vs)) body (x ∷ locals) (names-deeper d depth names types are) (stand-deeper d depth names types values locals x are st) all.1
      (λ vs xs are_all. next (v ∷ vs) (x ∷ xs) (is, are_all)))
