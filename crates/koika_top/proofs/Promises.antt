-- What was told of an answer keeps what is promised of a call of the program.
use Rattle.std.proofs.lemmas.Bool.{false≢true}
use Rattle.std.proofs.Common.{◌≡◌, ◌⊎◌, ◌<◌, ◌≤◌, ℕ, length, true, false, List, [], Option, Some, None, Result, refl, sym, ap, subst, ◌∙◌, inl, inr, ⊎_elim}
use Rattle.std.specs.Prelude.{IfSome, MatchOption}
use Rattle.kw_base.specs.declared.fault.Fault.{Fault}
use Rattle.kw_bits.specs.declared.host.HostSpec.{HostSpec}
use Rattle.kw_io.specs.Portions.{TakesAll}
use Rattle.btor2_text.specs.declared.line.Line.{Line}
use Rattle.koika_check.specs.BitWeights.{bit_weight}
use Rattle.typed_core.specs.declared.design.Parts.{Parts}
use Rattle.journal_check.specs.Printing.{journal_text}
use Rattle.koika_check.specs.declared.checked.Checked.{Checked}
use Rattle.koika_lower.specs.Lowering.{IsLowered}
use Rattle.one_rule.specs.Stimulus.{InputVectors, inputs_of}
use Rattle.aig_blast.specs.Aigs.{AigParts}
use Rattle.front_end.specs.Calls as calls
use Rattle.front_end.specs.Calls.{CountsReadFault, IsAnswerTo, command_in, known_in}
use Rattle.front_end.specs.Lengths.{is_too_long_for}
use Rattle.front_end.specs.Program.{Agrees, IsFailure, known_source, status_of}
use Rattle.front_end.specs.Sources.{Spells, fault_of_source}
use Rattle.front_end.specs.Streams.{GainsNothing, Stream}
use Rattle.front_end.specs.Told.{TellsText, Told, status_by}
use Rattle.front_end.specs.declared.answer.Answer.{Answer}
use Rattle.front_end.specs.declared.answer.Answer.TheVariants.{Usage, Refused, Written}
use Rattle.front_end.specs.declared.status.Status.{Status}
use Rattle.front_end.specs.declared.status.Status.TheVariants as status
use Rattle.front_end.specs.declared.untold.Untold.{Untold}
use Rattle.front_end.specs.inner.Steps as steps
use Rattle.front_end.specs.inner.Steps.{IsReply, Replies, TellsCall}
use Rattle.front_end.proofs.Promises as promises
use Rattle.front_end.proofs.Promises.{IsDefinite, of-any, of-known}
use Rattle.front_end.specs.Aigs.{most_bits}
use Rattle.koika_top.specs.Aiger.{AnswersAiger}
use Rattle.koika_top.specs.Aigsim as aigsim
use Rattle.koika_top.specs.Aigsim.{AnswersAigsim}
use Rattle.koika_top.specs.inner.AigTexts.{HoldsGraphRun, shown_graph}
use Rattle.koika_top.specs.Answer.{Answers, IsAnswer, is_of_source, koika}
use Rattle.koika_top.specs.inner.Answer.{longest_of, reads_source}
use Rattle.koika_top.specs.Btorsim as circuit
use Rattle.koika_top.specs.Btorsim.{AnswersBtorsim, HoldsRun, shown_run}
use Rattle.koika_top.specs.Calls.{Call, IsKept}
use Rattle.koika_top.specs.Compile.{AnswersCompile}
use Rattle.koika_top.specs.Journal.{AnswersJournal, HasJournal, IsJournalOf}
use Rattle.koika_top.specs.inner.Journaling.{WritesJournal}
use Rattle.koika_top.specs.Sim.{AnswersSim, rows_text, text_of_run}
use Rattle.koika_top.specs.inner.Steps.{Tells, TellsOne, TellsRead}
use Rattle.koika_top.specs.Words.{command_of}
use Rattle.koika_top.specs.declared.shown.Shown.{Shown}
use Rattle.koika_top.specs.declared.words.Command.{Command}
use Rattle.koika_top.specs.declared.words.Command.TheVariants.{Check, Print, Sim, Compile, Btorsim, Gen, Aiger, Aigsim, Journal, Recheck}
use Rattle.koika_top.proofs.Answering.{tells-one, told-one}
use Rattle.koika_top.proofs.OneAnswer.{light_or_refused, spelled_or_refused}
use Rattle.koika_top.proofs.OneOfWords.{one_answer, one_status}
use Rattle.koika_top.proofs.Rechecked.{journaled, rechecked}

-- ---- the program

-- its answers and statuses are those that are written
agrees : Agrees koika
agrees = record {
  ends = λ a. refl;
  written = λ a text e. e;
  is_written = λ s text. refl;
  refused = λ a fault e. e;
  is_refused = λ fault. refl;
}

-- no command's answer is how to use the program
never-usage : (hosts : List HostSpec) (command : Command) (bytes : List ℕ) (answer : Answer) → Answers hosts command bytes answer → IsReply answer
never-usage hosts command bytes (Refused fault) h = tt
never-usage hosts command bytes (Written text) h = tt
never-usage hosts Check bytes Usage h = h
never-usage hosts Print bytes Usage h = h
never-usage hosts (Sim cycles shown engine) bytes Usage h = h
never-usage hosts (Btorsim cycles shown) bytes Usage h = h
never-usage hosts Compile bytes Usage h = h
never-usage hosts (Gen stages) bytes Usage h = absurd cc
never-usage hosts Aiger bytes Usage h = h
never-usage hosts (Aigsim cycles shown) bytes Usage h = h
never-usage hosts (Journal cycles workers) bytes Usage h = h
never-usage hosts (Recheck cycles) bytes Usage h = h

-- and its answers are definite
definite : IsDefinite koika
definite = record {
  status = λ hosts words bytes a b h k. (one_status hosts words bytes a b h k).status;
  text = λ hosts words bytes a b one h k. (one_answer hosts words bytes a b one h k).text;
  reply = never-usage;
}

-- ---- what four commands accept

-- an answer of `compile` to a source that spells a design and a stimulus is a text
compiled : (hosts : List HostSpec) (bytes : List ℕ) (answer : Answer) (result : Status) (design : Checked) (stimulus : InputVectors) → Spells hosts bytes design stimulus → AnswersCompile hosts bytes answer
    → (result ≡ status_of answer) ⊎ ((result ≡ status.WriteFault) ⊎ (result ≡ status.NoMemory)) → (result ≡ status.Done) ⊎ IsFailure result
compiled hosts bytes Usage result design stimulus spelled is told = absurd is
compiled hosts bytes (Refused fault) result design stimulus spelled is told = absurd (spelled_or_refused hosts bytes fault design stimulus spelled is)
compiled hosts bytes (Written text) result design stimulus spelled is (inl e) = inl e
compiled hosts bytes (Written text) result design stimulus spelled is (inr f) = inr (inr f)

-- and one of `aiger` where the design has few bits besides
converted : (hosts : List HostSpec) (bytes : List ℕ) (answer : Answer) (result : Status) (design : Checked) (stimulus : InputVectors) → Spells hosts bytes design stimulus → bit_weight design ≤ most_bits
    → AnswersAiger hosts bytes answer → (result ≡ status_of answer) ⊎ ((result ≡ status.WriteFault) ⊎ (result ≡ status.NoMemory)) → (result ≡ status.Done) ⊎ IsFailure result
converted hosts bytes Usage result design stimulus spelled light is told = absurd is
converted hosts bytes (Refused fault) result design stimulus spelled light is told = absurd (light_or_refused hosts bytes fault design stimulus spelled light is)
converted hosts bytes (Written text) result design stimulus spelled light is (inl e) = inl e
converted hosts bytes (Written text) result design stimulus spelled light is (inr f) = inr (inr f)

module _ (c : Call) where
  -- an answer was told
  module _ (mine : Answer) (right : IfSome (known_in koika c) (λ bytes. IsAnswerTo koika c bytes mine)) (told : TellsOne mine c.sink c.status) where
    by-command : (command : Command) → command_in koika c ≡ Some command → (Q : List ℕ → Type 0) → ((bytes : List ℕ) → Answers c.hosts command bytes mine → Q bytes) → IfSome (known_in koika c) Q
    by-command command asked Q f =
        of-known (λ bytes. IsAnswerTo koika c bytes mine) Q (known_in koika c)
        (λ bytes is. f bytes (subst (λ (o : Option Command). MatchOption o (mine ≡ Usage) (λ (one : Command). Answers c.hosts one bytes mine)) asked is)) right

    accepted-told : (untouched : Type 0) → calls.IsKept koika untouched c → IsKept untouched c
    accepted-told untouched any = record {
      any = any;
      compiles = λ asked. by-command Compile asked _ (λ bytes is design stimulus spelled. compiled c.hosts bytes mine c.status design stimulus spelled is told.status);
      converts = λ asked. by-command Aiger asked _ (λ bytes is design stimulus spelled light. converted c.hosts bytes mine c.status design stimulus spelled light is told.status);
      journals = λ cycles workers asked.
          by-command (Journal cycles workers) asked _ (λ bytes is design stimulus has. journaled c.hosts cycles workers bytes mine c.status design stimulus has is told.status);
      rechecks = λ cycles asked.
          by-command (Recheck cycles) asked _ (λ bytes is design stimulus core may lowered. rechecked c.hosts cycles bytes design stimulus core may lowered mine c.status is told.status);
    }

  -- nothing was
  accepted-none : (c.status ≡ status.ReadFault) ⊎ (c.status ≡ status.NoMemory) → (untouched : Type 0) → calls.IsKept koika untouched c → IsKept untouched c
  accepted-none why untouched any =
      let failed : IsFailure c.status = ⊎_elim (λ e. inl e) (λ e. inr (inr e)) why in
      record {
        any = any;
        compiles = λ asked. of-any _ (known_in koika c) (λ bytes design stimulus spelled. inr failed);
        converts = λ asked. of-any _ (known_in koika c) (λ bytes design stimulus spelled light. inr failed);
        journals = λ cycles workers asked. of-any _ (known_in koika c) (λ bytes design stimulus has. inr failed);
        rechecks = λ cycles asked. of-any _ (known_in koika c) (λ bytes design stimulus core may lowered.
            record { good = λ j read good. inr failed; other = λ j read bad. inr failed; none = λ no. inr failed });
      }

  accepted : (untouched : Type 0) → calls.IsKept koika untouched c → TellsCall koika c → IsKept untouched c
  accepted untouched any (inl (mine, kind, right, told)) = accepted-told mine right told untouched any
  accepted untouched any (inr (nothing, why)) = accepted-none why untouched any

  -- a call that doesn't read its source
  pub kept-unread : (untouched : Type 0) → reads_source (command_in koika c) ≡ false → untouched → (c.status ≡ status.ReadFault → ⊥) → TellsCall koika c → IsKept untouched c
  kept-unread untouched quiet same never told =
      accepted untouched (promises.kept-unread koika agrees definite untouched c quiet same never told) told

  -- a call that does
  pub kept-source : (untouched : Type 0) → reads_source (command_in koika c) ≡ true → (c.status ≡ status.Done → IfSome c.source.before (λ _. c.source.after ≡ Some [])) → CountsReadFault koika c → TellsCall koika c → IsKept untouched c
  kept-source untouched reads whole read_fault told =
      accepted untouched (promises.kept-source koika agrees definite untouched c reads whole read_fault told) told

  -- a call that finds no memory before it does anything
  pub kept-out_of_memory : (untouched : Type 0) → untouched → GainsNothing c.sink → c.status ≡ status.NoMemory → IsKept untouched c
  kept-out_of_memory untouched same nothing out =
      accepted-none (inr out) untouched (promises.kept-out_of_memory koika agrees definite untouched c same nothing out)

-- a status that is told isn't that of a read fault
pub never-read : (sink : Stream) (result : Status) (mine : Answer) → TellsOne mine sink result → result ≡ status.ReadFault → ⊥
never-read sink result mine told d = promises.never-read koika agrees sink result mine told d

pub never-read-told : (Is : Answer → Type 0) (sink : Stream) (result : Status) → Tells Is sink result → result ≡ status.ReadFault → ⊥
never-read-told Is sink result told d = promises.never-read-told koika agrees Is sink result told d

-- ---- commands and words

-- what was told of the bytes that were read is told of the source
pub tells-read : (hosts : List HostSpec) (command : Command) (left new : Option (List ℕ)) (bytes : List ℕ) (sink : Stream) (result : Status) → TakesAll left new bytes
    → Tells (Answers hosts command bytes) sink result → TellsRead IsReply left (Answers hosts command) sink result
tells-read hosts command left new bytes sink result took told = promises.tells-read koika definite hosts command left new bytes sink result took told

-- each command that reads its source refuses one that is too long
refuses-long : (hosts : List HostSpec) (command : Command) (source : List ℕ) (fault : Fault) → is_of_source command ≡ true → fault ≡ fault_of_source 40 → longest_of command < length source
    → Answers hosts command source (Refused fault)
refuses-long hosts Check source fault reads is long = inl (is, long)
refuses-long hosts Print source fault reads is long = inl (is, long)
refuses-long hosts (Sim cycles shown engine) source fault reads is long = inl (is, long)
refuses-long hosts (Btorsim cycles shown) source fault reads is long = inl (is, long)
refuses-long hosts Compile source fault reads is long = inl (is, long)
refuses-long hosts (Gen stages) source fault reads is long = absurd (false≢true reads)
refuses-long hosts Aiger source fault reads is long = inl (is, long)
refuses-long hosts (Aigsim cycles shown) source fault reads is long = inl (is, long)
refuses-long hosts (Journal cycles workers) source fault reads is long = inl (is, long)
refuses-long hosts (Recheck cycles) source fault reads is long = inl (inl (inl (is, inl long)))

pub tells-long : (hosts : List HostSpec) (command : Command) (fault : Fault) → is_of_source command ≡ true → fault ≡ fault_of_source 40 → (left : Option (List ℕ)) (sink : Stream) (result : Status)
    → IfSome left (λ bytes. longest_of command < length bytes) → TellsOne (Refused fault) sink result → TellsRead IsReply left (Answers hosts command) sink result
tells-long hosts command fault reads is left sink result long told =
    promises.tells-long koika definite hosts command (longest_of command) (Refused fault) tt (λ bytes h. refuses-long hosts command bytes fault reads is h) left sink result long told

module _ (hosts : List HostSpec) (words : List (List ℕ)) (left : Option (List ℕ)) (sink : Stream) (result : Status) where
  abbrev Asked : Type 0
  Asked = TellsRead (Replies koika (command_of words)) (known_source koika (command_of words) left) (IsAnswer hosts words) sink result

  -- a command that reads its source
  pub tells-source : (command : Command) → Some command ≡ command_of words → is_of_source command ≡ true → TellsRead IsReply left (Answers hosts command) sink result → Asked
  tells-source command e reads told = promises.tells-source koika definite hosts words left sink result command e reads told

  -- one that doesn't
  pub tells-alone : (command : Command) → Some command ≡ command_of words → is_of_source command ≡ false → Tells (Answers hosts command []) sink result → Asked
  tells-alone command e reads told = promises.tells-alone koika definite hosts words left sink result command e reads told

  -- invalid words
  pub tells-usage : None ≡ command_of words → TellsOne Usage sink result → Asked
  tells-usage e told = promises.tells-usage koika definite hosts words left sink result e Usage refl told

-- ---- runs

-- a run that was told, of the design that a source spells
pub tells-run : (hosts : List HostSpec) (cycles n : ℕ) (shown kind : Shown) (source : List ℕ) (design : Checked) (stimulus : InputVectors) → Spells hosts source design stimulus → is_too_long_for n design ≡ false → n ≡ cycles → kind ≡ shown
    → (s : Stream) (r : Result (Unit {0}) Untold) → Told (text_of_run design stimulus n kind) s r → Tells (AnswersSim hosts cycles shown source) s (status_by r status.Done)
tells-run hosts cycles n shown kind source design stimulus spelled within same like s r told =
    let mine = text_of_run design stimulus n kind in
    inl (
      Written mine,
      record { design = design; stimulus = stimulus; spelled = spelled; within = sym (ap (λ (k : ℕ). is_too_long_for k design) same) ∙ within; told = λ i. text_of_run design stimulus (same i) (like i) },
      told-one (Written mine) s r told,
    )

-- a journal that was told, of the design that a source spells
pub tells-journal : (hosts : List HostSpec) (cycles n workers count : ℕ) (source : List ℕ) (design : Checked) (stimulus : InputVectors) (core : Parts) → HasJournal hosts cycles source design stimulus → IsLowered design core → n ≡ cycles → count ≡ workers
    → (s : Stream) (r : Result (Unit {0}) Untold) → WritesJournal core stimulus n count s r → Tells (AnswersJournal hosts cycles workers source) s (status_by r status.Done)
tells-journal hosts cycles n workers count source design stimulus core has lowered same many s r (journal, is, told) =
    inl (
      Written (journal_text core journal),
      record {
        design = design;
        stimulus = stimulus;
        spelled = has;
        core = core;
        lowered = lowered;
        journal = journal;
        is = subst (λ (k : ℕ). IsJournalOf core stimulus k workers journal) same (subst (λ (k : ℕ). IsJournalOf core stimulus n k journal) many is);
        told = refl;
      },
      told-one (Written (journal_text core journal)) s r told,
    )

-- and of the BTOR2 text that it holds
pub tells-circuit-run : (cycles n : ℕ) (shown kind : Shown) (source : List ℕ) (lines : List Line) (stimulus : InputVectors) → HoldsRun source lines stimulus → circuit.is_too_long cycles lines ≡ false → n ≡ cycles → kind ≡ shown
    → (s : Stream) (r : Result (Unit {0}) Untold) → Told (shown_run kind lines (inputs_of stimulus) n) s r → Tells (AnswersBtorsim cycles shown source) s (status_by r status.Done)
tells-circuit-run cycles n shown kind source lines stimulus holds within same like s r told =
    let mine = shown_run kind lines (inputs_of stimulus) n in
    inl (
      Written mine,
      record { lines = lines; stimulus = stimulus; holds = holds; within = within; told = λ i. shown_run (like i) lines (inputs_of stimulus) (same i) },
      told-one (Written mine) s r told,
    )

-- and of the AIGER text that it holds
pub tells-aig-run : (cycles n : ℕ) (shown kind : Shown) (source : List ℕ) (aig : AigParts) (stimulus : InputVectors) → HoldsGraphRun cycles source aig stimulus → n ≡ cycles → kind ≡ shown
    → (s : Stream) (r : Result (Unit {0}) Untold) → Told (shown_graph kind aig stimulus n) s r → Tells (AnswersAigsim cycles shown source) s (status_by r status.Done)
tells-aig-run cycles n shown kind source aig stimulus held same like s r told =
    let said = held.text.said in
    let graph = held.text.graph in
    let mine = aigsim.shown_run kind said stimulus n in
    let own : shown_graph kind aig stimulus n ≡ mine = λ i. rows_text kind (graph.shape i) (graph.run (inputs_of stimulus) n i) in
    inl (
      Written mine,
      record {
        said = said;
        stimulus = stimulus;
        holds = record { holds = held.text.holds; given = held.given };
        within = held.within;
        told = λ i. aigsim.shown_run (like i) said stimulus (same i);
      },
      told-one (Written mine) s r (subst (λ (text : List ℕ). Told text s r) own told),
    )
