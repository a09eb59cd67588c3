-- Which engines a crew has that makes the runs which words ask for.
use Rattle.std.proofs.Common.{◌≡◌, ℕ, false, List, Option, sym, subst, arith}
use Rattle.std.specs.Prelude.{IfSome}
use Rattle.koika_top.specs.inner.Steps.{AskFor, HasFewWorkers, IsAlone, IsInRange, RunsBy}
use Rattle.koika_top.specs.Words.{asks_workers}
use Rattle.koika_top.specs.declared.words.Command.{Command}
use Rattle.koika_top.specs.declared.words.Command.TheVariants.{Check, Print, Sim, Compile, Btorsim, Gen, Aiger, Aigsim, Journal, Recheck}
use Rattle.koika_top.proofs.Options.{runs-alone}

-- words that ask for no workers ask for an engine without any
pub ask-alone : (words : List (List ℕ)) → asks_workers words ≡ false → AskFor IsAlone words
ask-alone words none command asked range = subst (λ (found : Option Command). IfSome found (RunsBy IsAlone)) (sym asked) (runs-alone words none)

in-range : (P : Type 0) → P → (command : Command) → IsInRange command → RunsBy (λ engine. P × HasFewWorkers engine) command
in-range P p (Sim cycles shown engine) h = (p, h)
in-range P p Check h = tt
in-range P p Print h = tt
in-range P p (Btorsim cycles shown) h = tt
in-range P p Compile h = tt
in-range P p (Gen stages) h = tt
in-range P p Aiger h = tt
in-range P p (Aigsim cycles shown) h = tt
in-range P p (Journal cycles workers) h = (p, (h.0, omega (arith, h.1)))
in-range P p (Recheck cycles) h = tt

-- all words ask for 64 workers at most
pub ask-few : (P : Type 0) → P → (words : List (List ℕ)) → AskFor (λ engine. P × HasFewWorkers engine) words
ask-few P p words command asked range = in-range P p command range
