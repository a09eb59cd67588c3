-- Words and a source have an answer.
use Rattle.std.proofs.Common.{◌≡◌, ◌⊎◌, ◌+◌, ◌≤◌, ℕ, zero, suc, true, false, List, [], ◌∷◌, ◌++◌, length, length-append, take, Option, Some, None, Result, Ok, Err, refl, ap, inl, inr, arith, ⊎_elim}
use Rattle.std.specs.Prelude.{MatchOption, position}
use Rattle.std.specs.List.{flat_map, join_with_byte, slice_split}
use Rattle.std.proofs.lemmas.Bool.{cases_lt, false≢true}
use Rattle.std.proofs.lemmas.List.Splits.{join_with_byte-slice_split}
use Rattle.kw_base.specs.Fault.{fault_at}
use Rattle.kw_base.specs.Place.{place_at}
use Rattle.kw_base.specs.declared.fault.Fault.{Fault}
use Rattle.koika_syntax.specs.Grammar.{tree_leaves}
use Rattle.koika_syntax.specs.declared.tree.Tree.{Tree}
use Rattle.koika_syntax.specs.Tokens.{AreTokensOf}
use Rattle.koika_syntax.specs.declared.token.Token.{Token}
use Rattle.koika_syntax.proofs.Lexing.{tokens_or_first_fault}
use Rattle.koika_parse.specs.Laws.{IsParsed}
use Rattle.koika_parse.proofs.EachText.{each_text}
use Rattle.koika_check.specs.BitWeights.{bit_weight}
use Rattle.koika_check.specs.Checks.{checked}
use Rattle.koika_check.specs.Counts.{counts_of}
use Rattle.koika_check.specs.Outcomes.{CheckResult, Fails, Gives}
use Rattle.koika_check.specs.declared.checked.Checked.{Checked}
use Rattle.koika_check.specs.declared.stop.Wrong.{Wrong}
use Rattle.koika_print.specs.Printed.{printed}
use Rattle.one_rule.specs.Stimulus.{InputVectors, inputs_of}
use Rattle.kw_base.specs.Texts.{ends_line}
use Rattle.stim_report.specs.Cuts.{cut_at, is_mark, parts_of, with_line_feed}
use Rattle.kw_bits.specs.declared.host.HostSpec.{HostSpec}
use Rattle.front_end.specs.Aigs.{most_bits}
use Rattle.front_end.specs.Certified.{SpellsBoth}
use Rattle.koika_top.specs.Aiger.{AnswersAiger}
use Rattle.koika_top.specs.Answer.{Answers, IsAnswer, is_answered}
use Rattle.koika_top.specs.Compile.{AnswersCompile}
use Rattle.koika_top.specs.Generator.{pipeline}
use Rattle.koika_top.specs.Journal.{AnswersJournal, HasJournal, is_too_heavy}
use Rattle.koika_top.specs.Reads.{AnswersCheck, AnswersPrint, counts_line}
use Rattle.koika_top.specs.Recheck as recheck
use Rattle.koika_top.specs.Sim.{AnswersSim, text_of_rows}
use Rattle.front_end.specs.Lengths.{is_too_long_for}
use Rattle.front_end.specs.Marks.{marks_of}
use Rattle.front_end.specs.Sources.{IsIllTyped, IsUnread, IsUnspelled, Spells, SpellsDesign, SpellsTree, design_part, fault_of_source, longest_source, shape_of, stimulus_in}
use Rattle.front_end.specs.Systems.{run_of}
use Rattle.koika_top.specs.Words.{command_of}
use Rattle.front_end.specs.declared.answer.Answer.{Answer}
use Rattle.front_end.specs.declared.answer.Answer.TheVariants.{Usage, Refused, Written}
use Rattle.koika_top.specs.declared.shown.Shown.{Shown}
use Rattle.koika_top.specs.declared.words.Command.{Command}
use Rattle.koika_top.specs.declared.words.Command.TheVariants.{Check, Print, Sim, Compile, Btorsim, Gen, Aiger, Aigsim, Journal, Recheck}
use Rattle.front_end.proofs.OneCertified.{parts_or_fault}
use Rattle.front_end.proofs.SomeSource.{tree_or_fault, spelled_or_fault}
use Rattle.koika_top.proofs.AigAnswered.{aigsim_answer}
use Rattle.koika_top.proofs.CircuitAnswered.{btorsim_answer, yes_or_no}

module _ (hosts : List HostSpec) (source : List ℕ) where
  print_answer : (answer : Answer) × AnswersPrint source answer
  print_answer =
      ⊎_elim
      (λ long. (Refused (fault_of_source 40), inl (refl, long)))
      (λ short.
      ⊎_elim
      (λ found. (Written (printed (tree_leaves found.0)), record { tree = found.0; spelled = found.1; told = refl }))
      (λ wrong. (Refused wrong.0, inr wrong.1))
      (tree_or_fault hosts source short))
      (cases_lt longest_source (length source))

  check_answer : (answer : Answer) × AnswersCheck hosts source answer
  check_answer =
      ⊎_elim
      (λ long. (Refused (fault_of_source 40), inl (refl, long)))
      (λ short.
      ⊎_elim
      (λ found. (Written (counts_line (counts_of found.0)), record { design = found.0; stimulus = found.1; spelled = found.2; told = refl }))
      (λ wrong. (Refused wrong.0, inr wrong.1))
      (spelled_or_fault hosts source short))
      (cases_lt longest_source (length source))

  module _ (cycles : ℕ) (shown : Shown) where
    run_answer : (d : Checked) (s : InputVectors) → Spells hosts source d s → (answer : Answer) × AnswersSim hosts cycles shown source answer
    run_answer d s spelled =
        ⊎_elim
        (λ long. (Refused (fault_of_source 45), inr (inr (refl, (d, s, spelled, long)))))
        (λ within. (
          Written (text_of_rows shown (shape_of d) (marks_of d) (run_of d (inputs_of s) cycles)),
          record { design = d; stimulus = s; spelled = spelled; within = within; told = refl },
        ))
        (yes_or_no (is_too_long_for cycles d))

    sim_answer : (answer : Answer) × AnswersSim hosts cycles shown source answer
    sim_answer =
        ⊎_elim
        (λ long. (Refused (fault_of_source 40), inl (refl, long)))
        (λ short.
        ⊎_elim
        (λ found. run_answer found.0 found.1 found.2)
        (λ wrong. (Refused wrong.0, inr (inl wrong.1)))
        (spelled_or_fault hosts source short))
        (cases_lt longest_source (length source))

command_answer : (hosts : List HostSpec) (command : Command) (source : List ℕ) → is_answered (Some command) ≡ true → (answer : Answer) × Answers hosts command source answer
command_answer hosts Check source one = check_answer hosts source
command_answer hosts Print source one = print_answer hosts source
command_answer hosts (Sim cycles shown engine) source one = sim_answer hosts source cycles shown
command_answer hosts (Btorsim cycles shown) source one = btorsim_answer source cycles shown
command_answer hosts Compile source one = absurd (false≢true one)
command_answer hosts (Gen stages) source one = (Written (pipeline stages), refl)
command_answer hosts Aiger source one = absurd (false≢true one)
command_answer hosts (Aigsim cycles shown) source one = aigsim_answer source cycles shown
command_answer hosts (Journal cycles workers) source one = absurd (false≢true one)
command_answer hosts (Recheck cycles) source one = absurd (false≢true one)

by_words : (hosts : List HostSpec) (command : Option Command) (source : List ℕ) → is_answered command ≡ true → (answer : Answer) × MatchOption command (answer ≡ Usage) (λ c. Answers hosts c source answer)
by_words hosts None source one = (Usage, refl)
by_words hosts (Some command) source one = command_answer hosts command source one

-- there is an answer
pub some_answer : (hosts : List HostSpec) (words : List (List ℕ)) (source : List ℕ) → is_answered (command_of words) ≡ true → (answer : Answer) × IsAnswer hosts words source answer
some_answer hosts words source one = by_words hosts (command_of words) source one

-- a source is refused by `compile`, or spells what a circuit can be written of
pub some_circuit : (hosts : List HostSpec) (source : List ℕ) →
    ((fault : Fault) × AnswersCompile hosts source (Refused fault)) ⊎ ((design : Checked) × (stimulus : InputVectors) × Spells hosts source design stimulus)
some_circuit hosts source =
    ⊎_elim
    (λ long. inl (fault_of_source 40, inl (refl, long)))
    (λ short. ⊎_elim (λ found. inr found) (λ wrong. inl (wrong.0, inr wrong.1)) (spelled_or_fault hosts source short))
    (cases_lt longest_source (length source))

-- a source is refused by `aiger`, or spells what a bit-level circuit can be written of
pub some_aig : (hosts : List HostSpec) (source : List ℕ) →
    ((fault : Fault) × AnswersAiger hosts source (Refused fault)) ⊎ ((design : Checked) × (stimulus : InputVectors) × Spells hosts source design stimulus × (bit_weight design ≤ most_bits))
some_aig hosts source =
    ⊎_elim
    (λ long. inl (fault_of_source 40, inl (refl, long)))
    (λ short.
    ⊎_elim
    (λ found.
    ⊎_elim
    (λ heavy. inl (fault_of_source 48, inr (inr (refl, (found.0, found.1, found.2, heavy)))))
    (λ light. inr (found.0, found.1, found.2, light))
    (cases_lt most_bits (bit_weight found.0)))
    (λ wrong. inl (wrong.0, inr (inl wrong.1)))
    (spelled_or_fault hosts source short))
    (cases_lt longest_source (length source))

-- a source is refused by `sim --journal`, or spells what a journal can be written of
module _ (hosts : List HostSpec) (cycles workers : ℕ) (source : List ℕ) where
  abbrev IsOrHas : Type 0
  IsOrHas = ((fault : Fault) × AnswersJournal hosts cycles workers source (Refused fault)) ⊎ ((design : Checked) × (stimulus : InputVectors) × HasJournal hosts cycles source design stimulus)

  has_journal : (d : Checked) (s : InputVectors) → Spells hosts source d s → IsOrHas
  has_journal d s spelled =
      ⊎_elim
      (λ long. inl (fault_of_source 45, inr (inl (inr (refl, (d, s, spelled, long))))))
      (λ within.
      ⊎_elim
      (λ heavy. inl (fault_of_source 49, inr (inr (refl, (d, s, spelled, within, heavy)))))
      (λ light. inr (d, s, record { spelled = spelled; within = within; light = light }))
      (yes_or_no (is_too_heavy cycles d)))
      (yes_or_no (is_too_long_for cycles d))

  pub some_journal : IsOrHas
  some_journal =
      ⊎_elim
      (λ long. inl (fault_of_source 40, inl (refl, long)))
      (λ short.
      ⊎_elim
      (λ found. has_journal found.0 found.1 found.2)
      (λ wrong. inl (wrong.0, inr (inl (inl wrong.1))))
      (spelled_or_fault hosts source short))
      (cases_lt longest_source (length source))

-- a source is refused by `recheck` before its journal is looked at, or may have a journal
module _ (hosts : List HostSpec) (cycles : ℕ) (source : List ℕ) where
  abbrev IsOrMay : Type 0
  IsOrMay = ((fault : Fault) × recheck.IsRefusedBefore hosts cycles source fault) ⊎ ((design : Checked) × (stimulus : InputVectors) × recheck.MayHaveJournal hosts cycles source design stimulus)

  may_have_journal : (d : Checked) (s : InputVectors) → SpellsBoth hosts source d s → IsOrMay
  may_have_journal d s spelled =
      ⊎_elim
      (λ long. inl (fault_of_source 45, inr (d, s, spelled, inl (refl, long))))
      (λ within.
      ⊎_elim
      (λ heavy. inl (fault_of_source 49, inr (d, s, spelled, inr (refl, within, heavy))))
      (λ light. inr (d, s, record { spelled = spelled; within = within; light = light }))
      (yes_or_no (is_too_heavy cycles d)))
      (yes_or_no (is_too_long_for cycles d))

  pub some_recheck : IsOrMay
  some_recheck =
      ⊎_elim
      (λ found. may_have_journal found.0 found.1 found.2)
      (λ wrong. inl (wrong.0, inl wrong.1))
      (parts_or_fault hosts source)
