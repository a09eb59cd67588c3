-- A source with a circuit text has a run, or a fault.
use Rattle.std.proofs.Common.{◌≡◌, ◌⊎◌, ℕ, Bool, true, false, List, length, Option, Some, None, Result, Ok, Err, refl, inl, inr, ⊎_elim}
use Rattle.std.proofs.lemmas.Bool.{cases_lt}
use Rattle.one_rule.specs.Stimulus.{InputVectors, inputs_of}
use Rattle.btor2_model.specs.Acceptance.{first_fault}
use Rattle.btor2_text.specs.declared.line.Line.{Line}
use Rattle.btor2_text.proofs.LinesOrFault.{lines_or_first_fault}
use Rattle.koika_top.specs.Btorsim.{AnswersBtorsim, HoldsLines, HoldsRun, HoldsText, is_too_long, longest_circuit, shown_run, stimulus_in}
use Rattle.front_end.specs.Sources.{design_part, fault_of_source}
use Rattle.front_end.specs.declared.answer.Answer.{Answer}
use Rattle.front_end.specs.declared.answer.Answer.TheVariants.{Refused, Written}
use Rattle.koika_top.specs.declared.shown.Shown.{Shown}

pub yes_or_no : (b : Bool) → (b ≡ true) ⊎ (b ≡ false)
yes_or_no true = inl refl
yes_or_no false = inr refl

pub told : {X E : Type 0} (r : Result X E) → ((x : X) × (r ≡ Ok x)) ⊎ ((e : E) × (r ≡ Err e))
told (Ok x) = inl (x, refl)
told (Err e) = inr (e, refl)

there_or_not : {X : Type 0} (o : Option X) → ((x : X) × (o ≡ Some x)) ⊎ (o ≡ None)
there_or_not (Some x) = inl (x, refl)
there_or_not None = inr refl

module _ (source : List ℕ) (cycles : ℕ) (shown : Shown) where
  abbrev Found : Type 0
  Found = (answer : Answer) × AnswersBtorsim cycles shown source answer

  run_of : (lines : List Line) (s : InputVectors) → HoldsText source lines → stimulus_in source lines ≡ Ok s → Found
  run_of lines s text given =
      let holds : HoldsRun source lines s = record { text = text; given = given } in
      ⊎_elim
      (λ long. (Refused (fault_of_source 45), inr (inr (inr (inr (refl, (lines, s, holds, long)))))))
      (λ within. (Written (shown_run shown lines (inputs_of s) cycles), record { lines = lines; stimulus = s; holds = holds; within = within; told = refl }))
      (yes_or_no (is_too_long cycles lines))

  stimulus_of_text : (lines : List Line) → HoldsText source lines → Found
  stimulus_of_text lines text =
      ⊎_elim
      (λ given. run_of lines given.0 text given.1)
      (λ wrong. (Refused wrong.0, inr (inr (inr (inl (lines, text, wrong.1))))))
      (told (stimulus_in source lines))

  text_of_lines : (lines : List Line) → HoldsLines source lines → Found
  text_of_lines lines holds =
      ⊎_elim
      (λ wrong. (Refused wrong.0, inr (inr (inl (lines, holds, wrong.1)))))
      (λ fine. stimulus_of_text lines (record { holds = holds; no_fault = fine }))
      (there_or_not (first_fault lines))

  pub btorsim_answer : Found
  btorsim_answer =
      ⊎_elim
      (λ long. (Refused (fault_of_source 40), inl (refl, long)))
      (λ short.
      ⊎_elim
      (λ found. text_of_lines found.0 (record { short = short; are = found.1 }))
      (λ wrong. (Refused wrong.0, inr (inl (short, wrong.1))))
      (lines_or_first_fault (design_part source)))
      (cases_lt longest_circuit (length source))
