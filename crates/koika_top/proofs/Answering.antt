-- What calls that write a text say of the program's answers.
use Rattle.std.proofs.Common.{◌≡◌, ℕ, List, Result, Ok, Err, refl}
use Rattle.kw_base.specs.Fault.{IfFault}
use Rattle.kw_base.specs.declared.fault.Refusal.{Refusal}
use Rattle.front_end.specs.Program.{status_of}
use Rattle.front_end.specs.Streams.{Stream}
use Rattle.front_end.specs.Told.{TellsMade, TellsText, TellsWhy, Told, status_by}
use Rattle.front_end.specs.declared.answer.Answer.{Answer}
use Rattle.front_end.specs.declared.answer.Answer.TheVariants.{Usage, Refused, Written}
use Rattle.front_end.specs.declared.status.Status.{Status}
use Rattle.front_end.specs.declared.untold.Untold.{Untold}
use Rattle.front_end.specs.inner.Steps.{Makes}
use Rattle.front_end.proofs.Told as told
use Rattle.front_end.proofs.Told.{Embeds}
use Rattle.koika_top.specs.Answer.{koika, text_of}
use Rattle.koika_top.specs.inner.Steps.{Tells, TellsOne}

-- the program's answers and statuses are those that are written
abbrev embeds : Embeds koika
embeds = record { of = λ s. s; answer = λ a. a; ends = λ s. refl; plain = λ a. refl; answered = λ a. refl }

pub tells-one : (answer : Answer) (s : Stream) (r : Status) → TellsText (status_of answer) (text_of answer) s r → TellsOne answer s r
tells-one answer s r h = told.tells-one koika embeds answer s r h

-- an answer whose text was told
pub told-one : (answer : Answer) (s : Stream) (r : Result (Unit {0}) Untold) → Told (text_of answer) s r → TellsOne answer s (status_by r (status_of answer))
told-one Usage s r h = tells-one Usage s _ (told.told-usage _ s r h)
told-one (Refused fault) s r h = tells-one (Refused fault) s _ (told.told-refused _ s r h)
told-one (Written text) s r h = tells-one (Written text) s _ (told.told-done _ s r h)

-- what was made, or why there is no text, is such an answer
pub tells-made : (Is : Answer → Type 0) (made : Result (List ℕ) Refusal) → Makes Is made → (s : Stream) (r : Status) → TellsMade made s r → Tells Is s r
tells-made Is made is s r h = told.tells-made koika embeds Is s r made is h

pub tells-refusal : (Is : Answer → Type 0) (refusal : Refusal) → IfFault {X = Unit {0}} (Err refusal) (λ fault. Is (Refused fault)) → (s : Stream) (r : Status) → TellsWhy refusal s r → Tells Is s r
tells-refusal Is refusal is s r h = told.tells-refusal koika embeds Is s r refusal is h
