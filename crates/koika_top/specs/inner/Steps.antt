-- What only the contracts of private functions cite: a command's status, what it wrote, and the answers that there are.
use Rattle.std.specs.Prelude.{◌≡◌, ◌≤◌, ⊤, List, ℕ, Option, Some}
use Rattle.front_end.specs.Streams.{Stream}
use Rattle.front_end.specs.inner.Steps as steps
use Rattle.front_end.specs.declared.answer.Answer.{Answer}
use Rattle.front_end.specs.declared.status.Status.{Status}
use Rattle.koika_top.specs.Answer.{koika}
use Rattle.koika_top.specs.Words.{command_of}
use Rattle.koika_top.specs.declared.engine_kind.EngineKind.{EngineKind}
use Rattle.koika_top.specs.declared.engine_kind.EngineKind.TheVariants.{Workers}
use Rattle.koika_top.specs.declared.words.Command.{Command}
use Rattle.koika_top.specs.declared.words.Command.TheVariants.{Gen, Journal, Sim}

-- the status and what was written are those of this answer; of such an answer; of one of this kind that is right for known bytes
abbrev pub TellsOne : Answer → Stream → Status → Type 0
TellsOne = steps.TellsOne koika

abbrev pub Tells : (Answer → Type 0) → Stream → Status → Type 0
Tells = steps.Tells koika

abbrev pub TellsRead : (Answer → Type 0) → Option (List ℕ) → (List ℕ → Answer → Type 0) → Stream → Status → Type 0
TellsRead = steps.TellsRead koika

-- 1 to 64 workers make a run, where any do
abbrev pub HasFewWorkers : EngineKind → Type 0
HasFewWorkers (Workers count) = (1 ≤ count) × (count ≤ 64)
HasFewWorkers other = ⊤

-- a pipeline that is asked for has at most 100 stages, and a run few workers
abbrev pub IsInRange : Command → Type 0
IsInRange (Gen stages) = stages ≤ 100
IsInRange (Sim cycles shown engine) = HasFewWorkers engine
IsInRange (Journal cycles workers) = (1 ≤ workers) × (workers ≤ 8)
IsInRange other = ⊤

-- no workers make the run
abbrev pub IsAlone : EngineKind → Type 0
IsAlone (Workers count) = ⊥
IsAlone other = ⊤

-- where the command is a run, its engine is one of these
abbrev pub RunsBy : (EngineKind → Type 0) → Command → Type 0
RunsBy has (Sim cycles shown engine) = has engine
RunsBy has (Journal cycles workers) = has (Workers workers)
RunsBy has other = ⊤

-- so it is for each command that words may ask for
abbrev pub AskFor : (EngineKind → Type 0) → List (List ℕ) → Type 0
AskFor has words = (command : Command) → Some command ≡ command_of words → IsInRange command → RunsBy has command
