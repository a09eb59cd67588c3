-- A source with an AIGER text has a run, or a fault.
use Rattle.std.proofs.Common.{◌≡◌, ◌⊎◌, ℕ, Bool, true, false, List, length, Result, Ok, Err, refl, inl, inr, ⊎_elim}
use Rattle.std.proofs.lemmas.Bool.{cases_lt}
use Rattle.aiger_text.specs.Acceptance.{accepted_text}
use Rattle.aiger_text.specs.Drafts.{Draft}
use Rattle.one_rule.specs.Stimulus.{InputVectors}
use Rattle.koika_top.specs.Aigsim.{AnswersAigsim, HoldsAigText, HoldsRun, is_too_long, shown_run, stimulus_in}
use Rattle.koika_top.specs.Btorsim.{longest_circuit}
use Rattle.front_end.specs.Sources.{design_part, fault_of_source}
use Rattle.front_end.specs.declared.answer.Answer.{Answer}
use Rattle.front_end.specs.declared.answer.Answer.TheVariants.{Refused, Written}
use Rattle.koika_top.specs.declared.shown.Shown.{Shown}
use Rattle.koika_top.proofs.CircuitAnswered.{told, yes_or_no}

module _ (source : List ℕ) (cycles : ℕ) (shown : Shown) where
  abbrev Found : Type 0
  Found = (answer : Answer) × AnswersAigsim cycles shown source answer

  run_of : (said : Draft) (s : InputVectors) → HoldsAigText source said → stimulus_in source said ≡ Ok s → Found
  run_of said s text given =
      let holds : HoldsRun source said s = record { holds = text; given = given } in
      ⊎_elim
      (λ long. (Refused (fault_of_source 45), inr (inr (inr (refl, (said, s, holds, long))))))
      (λ within. (Written (shown_run shown said s cycles), record { said = said; stimulus = s; holds = holds; within = within; told = refl }))
      (yes_or_no (is_too_long cycles said))

  stimulus_of_text : (said : Draft) → HoldsAigText source said → Found
  stimulus_of_text said holds =
      ⊎_elim
      (λ given. run_of said given.0 holds given.1)
      (λ wrong. (Refused wrong.0, inr (inr (inl (said, holds, wrong.1)))))
      (told (stimulus_in source said))

  pub aigsim_answer : Found
  aigsim_answer =
      ⊎_elim
      (λ long. (Refused (fault_of_source 40), inl (refl, long)))
      (λ short.
      ⊎_elim
      (λ found. stimulus_of_text found.0 (record { short = short; read = found.1 }))
      (λ wrong. (Refused wrong.0, inr (inl (short, wrong.1))))
      (told (accepted_text (design_part source))))
      (cases_lt longest_circuit (length source))
