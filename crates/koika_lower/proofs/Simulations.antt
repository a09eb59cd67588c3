-- Parts that come to related values: one behind another, and lists of them.
use Rattle.std.proofs.Common.{◌≡◌, ℕ, List, refl, sym, subst}
use Rattle.typed_core.specs.Evaluation.{Ending, Value, Stop, Evaluation, ◌>>=◌, bind, comes_to, stops}
use Rattle.typed_core.specs.Fits.{EventsFit}
use Rattle.typed_core.specs.declared.access.Event.{Event}
use Rattle.typed_core.specs.declared.outcome.Stopped.{Stopped}
use Rattle.koika_lower.proofs.Orders.{bind-unit}
use Rattle.koika_lower.specs.inner.Simulation.{Alike, EndAlike, Simulates}

module _ {V W V' W' : Type 0} (regs : List ℕ) (R : V → W → Type 0) (Q : V' → W' → Type 0) (f : V → Evaluation V' Stopped) (g : W → Evaluation W' Stopped) (next : (v : V) (w : W) → R v w → Simulates regs Q (f v) (g w)) where
  ends : (es es' : List Event) (x : Ending V Stopped) (y : Ending W Stopped) → es' ≡ es → EventsFit regs es → EndAlike R x y → Alike regs Q (bind es x f) (bind es' y g)
  ends es es' (Value v) (Value w) same fit r = subst (λ (us : List Event). Alike regs Q (f v es) (g w us)) (sym same) (next v w r es fit)
  ends es es' (Stop c) (Stop c') same fit r = (same, fit, r)
  ends es es' (Value v) (Stop c) same fit r = absurd r
  ends es es' (Stop c) (Value w) same fit r = absurd r

  -- one part behind another
  pub sim-bind : (m : Evaluation V Stopped) (a : Evaluation W Stopped) → Simulates regs R m a → Simulates regs Q (m >>= f) (a >>= g)
  sim-bind m a s events fit = ends (m events).events (a events).events (m events).ending (a events).ending (s events fit).0 (s events fit).1 (s events fit).2

-- a value
pub sim-value : {V W : Type 0} (regs : List ℕ) (R : V → W → Type 0) (v : V) (w : W) → R v w → Simulates regs R (comes_to v) (comes_to w)
sim-value regs R v w r events fit = (refl, fit, r)

-- what stops the rule
pub sim-stop : {V W : Type 0} (regs : List ℕ) (R : V → W → Type 0) (c : Stopped) → Simulates regs R (stops c) (stops c)
sim-stop regs R c events fit = (refl, fit, refl)

-- a weaker relation
weaker : {V W : Type 0} (R Q : V → W → Type 0) → ((v : V) (w : W) → R v w → Q v w) → (x : Ending V Stopped) (y : Ending W Stopped) → EndAlike R x y → EndAlike Q x y
weaker R Q h (Value v) (Value w) r = h v w r
weaker R Q h (Stop c) (Stop c') r = r
weaker R Q h (Value v) (Stop c) r = absurd r
weaker R Q h (Stop c) (Value w) r = absurd r

pub sim-weaken : {V W : Type 0} (regs : List ℕ) (R Q : V → W → Type 0) (m : Evaluation V Stopped) (a : Evaluation W Stopped) →
    ((v : V) (w : W) → R v w → Q v w) → Simulates regs R m a → Simulates regs Q m a
sim-weaken regs R Q m a h s events fit = ((s events fit).0, (s events fit).1, weaker R Q h (m events).ending (a events).ending (s events fit).2)

-- a part that goes on with its value alone, beside one that ends
pub sim-then : {V W V' : Type 0} (regs : List ℕ) (R : V → W → Type 0) (Q : V' → W → Type 0) (m : Evaluation V Stopped) (a : Evaluation W Stopped) (f : V → Evaluation V' Stopped) →
    Simulates regs R m a → ((v : V) (w : W) → R v w → Simulates regs Q (f v) (comes_to w)) → Simulates regs Q (m >>= f) a
sim-then regs R Q m a f s next events fit =
    subst (λ p. Alike regs Q ((m >>= f) events) p) (bind-unit (a events).events (a events).ending) (sim-bind regs R Q f comes_to next m a s events fit)

-- the same parts
pub sim-same : {V W : Type 0} (regs : List ℕ) (R : V → W → Type 0) (m m' : Evaluation V Stopped) (a : Evaluation W Stopped) →
    ((events : List Event) → m events ≡ m' events) → Simulates regs R m' a → Simulates regs R m a
sim-same regs R m m' a same s events fit = subst (λ p. Alike regs R p (a events)) (sym (same events)) (s events fit)
