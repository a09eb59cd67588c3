-- What was told of an answer keeps what is promised of a call, of any program.
use Rattle.std.proofs.lemmas.Bool.{false≢true}
use Rattle.std.proofs.Common.{◌≡◌, ◌⊎◌, ◌<◌, ℕ, Bool, cond, length, true, false, List, [], Option, Some, None, refl, sym, ap, subst, ◌∙◌, inl, inr, ⊎_elim}
use Rattle.std.specs.Prelude.{IfSome, MatchOption}
use Rattle.kw_base.specs.FaultLine.{line_of_fault}
use Rattle.kw_base.specs.declared.fault.Fault.{Fault}
use Rattle.kw_io.specs.Portions.{TakesAll}
use Rattle.kw_bits.specs.declared.host.HostSpec.{HostSpec}
use Rattle.front_end.specs.Calls.{Call, CountsReadFault, IsAnswerTo, IsKept, LeavesUnread, ReadsAll, command_in, known_in}
use Rattle.front_end.specs.Program.{Agrees, IsAnswer, Program, known_source, reads_source, status_of, text_in, text_of}
use Rattle.front_end.specs.Streams.{Gains, GainsFront, GainsNothing, Stream}
use Rattle.front_end.specs.declared.answer.Answer.{Answer}
use Rattle.front_end.specs.declared.answer.Answer.TheVariants.{Usage, Refused, Written}
use Rattle.front_end.specs.declared.status.Status.{Status}
use Rattle.front_end.specs.declared.status.Status.TheVariants as status
use Rattle.front_end.specs.inner.Steps.{IsReply, Replies, Tells, TellsCall, TellsOne, TellsRead}
use Rattle.front_end.proofs.Told.{front-none}

-- ---- bytes that may be known

-- what holds of the bytes that were read holds of those that are known
pub of-read : (P : List ℕ → Type 0) (left new : Option (List ℕ)) (bytes : List ℕ) → TakesAll left new bytes → P bytes → IfSome left P
of-read P None new bytes h p = tt
of-read P (Some all) new bytes h p = subst P (sym h.0) p

-- a source of which all was taken has nothing left
pub nothing-left : (left new : Option (List ℕ)) (bytes : List ℕ) → TakesAll left new bytes → IfSome left (λ _. new ≡ Some [])
nothing-left None new bytes h = tt
nothing-left (Some all) new bytes h = h.1

-- what holds of all bytes holds of those that are known
pub of-any : (P : List ℕ → Type 0) (left : Option (List ℕ)) → ((bytes : List ℕ) → P bytes) → IfSome left P
of-any P None f = tt
of-any P (Some bytes) f = f bytes

-- what follows from what holds of them
pub of-known : (P Q : List ℕ → Type 0) (left : Option (List ℕ)) → ((bytes : List ℕ) → P bytes → Q bytes) → IfSome left P → IfSome left Q
of-known P Q None f h = tt
of-known P Q (Some bytes) f h = f bytes h

-- ---- statuses and what they say

-- an answer whose status says that it was written is a text; that it was refused, a fault; and so on
pub is-written : (a : Answer) → status_of a ≡ status.Done → (text : List ℕ) × (a ≡ Written text)
is-written Usage e = let bad : status.Usage ≡ status.Done = e in absurd cc
is-written (Refused fault) e = let bad : status.Refused ≡ status.Done = e in absurd cc
is-written (Written text) e = (text, refl)

pub is-refused : (a : Answer) → status_of a ≡ status.Refused → (fault : Fault) × (a ≡ Refused fault)
is-refused Usage e = let bad : status.Usage ≡ status.Refused = e in absurd cc
is-refused (Refused fault) e = (fault, refl)
is-refused (Written text) e = let bad : status.Done ≡ status.Refused = e in absurd cc

pub is-usage : (a : Answer) → status_of a ≡ status.Usage → a ≡ Usage
is-usage Usage e = refl
is-usage (Refused fault) e = let bad : status.Refused ≡ status.Usage = e in absurd cc
is-usage (Written text) e = let bad : status.Done ≡ status.Usage = e in absurd cc

no-read : (a : Answer) → status_of a ≡ status.ReadFault → ⊥
no-read Usage e = let bad : status.Usage ≡ status.ReadFault = e in absurd cc
no-read (Refused fault) e = let bad : status.Refused ≡ status.ReadFault = e in absurd cc
no-read (Written text) e = let bad : status.Done ≡ status.ReadFault = e in absurd cc

-- ---- programs

-- all answers to a command and a source have one status, and one text where there is one; none is how to use the program
pub record IsDefinite {C A S : Type 0} (p : Program C A S) : Type 0 where
  pub status : (hosts : List HostSpec) (words : List (List ℕ)) (bytes : List ℕ) (a b : A) → IsAnswer p hosts words bytes a → IsAnswer p hosts words bytes b → p.answered a ≡ p.answered b
  pub text : (hosts : List HostSpec) (words : List (List ℕ)) (bytes : List ℕ) (a b : A) → p.has_one_text (p.command_of words) ≡ true → IsAnswer p hosts words bytes a → IsAnswer p hosts words bytes b → text_in p a ≡ text_in p b
  pub reply : (hosts : List HostSpec) (command : C) (bytes : List ℕ) (a : A) → p.Answers hosts command bytes a → IsReply (p.plain a)

module _ {C A S : Type 0} (p : Program C A S) (agrees : Agrees p) where
  -- ---- statuses of an answer that was told

  module _ (sink : Stream) (result : S) (mine : A) (told : TellsOne p mine sink result) where
    -- a status of no failure is that of the answer
    so : (want : Status) → (status.WriteFault ≡ want → ⊥) → (status.NoMemory ≡ want → ⊥) → p.ends result ≡ want → (result ≡ p.answered mine) × (status_of (p.plain mine) ≡ want)
    so want f g d =
        ⊎_elim
        (λ e. (e, sym (agrees.ends mine) ∙ sym (ap p.ends e) ∙ d))
        (λ failed. ⊎_elim (λ e. absurd (f (sym e ∙ d))) (λ e. absurd (g (sym e ∙ d))) failed)
        told.status

    done-by : p.ends result ≡ status.Done → (text : List ℕ) × (mine ≡ p.written result text) × Gains sink text
    done-by d =
        let is = so status.Done (λ bad. absurd cc) (λ bad. absurd cc) d in
        let found = is-written (p.plain mine) is.1 in (
          found.0,
          agrees.written mine found.0 found.1 ∙ ap (λ (s : S). p.written s found.0) (sym is.0),
          subst (Gains sink) (ap (text_of p.usage_line) found.1) (told.all is.0),
        )

    refused-by : p.ends result ≡ status.Refused → (fault : Fault) × (mine ≡ p.refused fault) × Gains sink (line_of_fault fault)
    refused-by d =
        let is = so status.Refused (λ bad. absurd cc) (λ bad. absurd cc) d in
        let found = is-refused (p.plain mine) is.1 in
        (found.0, agrees.refused mine found.0 found.1, subst (Gains sink) (ap (text_of p.usage_line) found.1) (told.all is.0))

    usage-by : p.ends result ≡ status.Usage → (p.plain mine ≡ Usage) × Gains sink p.usage_line
    usage-by d =
        let is = so status.Usage (λ bad. absurd cc) (λ bad. absurd cc) d in
        let found = is-usage (p.plain mine) is.1 in
        (found, subst (Gains sink) (ap (text_of p.usage_line) found) (told.all is.0))

    pub never-read : p.ends result ≡ status.ReadFault → ⊥
    never-read d = no-read (p.plain mine) (so status.ReadFault (λ bad. absurd cc) (λ bad. absurd cc) d).1

  -- only how to use the program answers no command
  reply-none : (command : Option C) (answer : A) → Replies p command answer → p.plain answer ≡ Usage → command ≡ None
  reply-none None answer kind e = refl
  reply-none (Some command) answer kind e = absurd (subst IsReply e kind)

  reply-usage : (command : Option C) (answer : A) → Replies p command answer → command ≡ None → p.plain answer ≡ Usage
  reply-usage None answer kind e = kind
  reply-usage (Some command) answer kind e = absurd cc

  module _ (one : IsDefinite p) where
    module _ (untouched : Type 0) (c : Call S) (whole : ReadsAll p c) (unread : LeavesUnread p untouched c) (read_fault : CountsReadFault p c) where
      -- an answer was told
      module _ (mine : A) (kind : Replies p (command_in p c) mine) (right : IfSome (known_in p c) (λ bytes. IsAnswerTo p c bytes mine)) (told : TellsOne p mine c.sink c.status) where
        by-mine : (Q : List ℕ → Type 0) → ((bytes : List ℕ) → IsAnswerTo p c bytes mine → Q bytes) → IfSome (known_in p c) Q
        by-mine Q f = of-known (λ bytes. IsAnswerTo p c bytes mine) Q (known_in p c) f right

        kept-told : IsKept p untouched c
        kept-told = record {
          done = λ d.
              let found = done-by c.sink c.status mine told d in
              by-mine _ (λ bytes is. (found.0, subst (IsAnswerTo p c bytes) found.1 is, found.2));
          whole = whole;
          usage = λ d. let found = usage-by c.sink c.status mine told d in (reply-none (command_in p c) mine kind found.0, found.1);
          usage_only = λ none.
              ⊎_elim
              (λ e. inl (ap p.ends e ∙ agrees.ends mine ∙ ap status_of (reply-usage (command_in p c) mine kind none)))
              (λ f. inr f)
              told.status;
          usage_front = λ none. subst (GainsFront c.sink) (ap (text_of p.usage_line) (reply-usage (command_in p c) mine kind none)) told.front;
          unread = unread;
          refused = λ d.
              let found = refused-by c.sink c.status mine told d in
              by-mine _ (λ bytes is. (found.0, subst (IsAnswerTo p c bytes) found.1 is, found.2));
          refused_line = λ d. let found = refused-by c.sink c.status mine told d in (found.0, found.2);
          exact = by-mine _ (λ bytes is answer k. ⊎_elim (λ e. inl (e ∙ one.status c.hosts c.words bytes mine answer is k)) (λ f. inr (inr f)) told.status);
          front = λ has_one. by-mine _ (λ bytes is answer k. subst (GainsFront c.sink) (one.text c.hosts c.words bytes mine answer has_one is k) told.front);
          some = by-mine _ (λ bytes is. inl (mine, is, told.front));
          read_fault = read_fault;
          nothing_written = λ d. absurd (never-read c.sink c.status mine told d);
          write_fault = told.cause;
          agrees = agrees;
        }

      -- nothing was
      module _ (kept : GainsNothing c.sink) (why : (p.ends c.status ≡ status.ReadFault) ⊎ (p.ends c.status ≡ status.NoMemory)) where
        not-so : (other : Status) → (status.ReadFault ≡ other → ⊥) → (status.NoMemory ≡ other → ⊥) → p.ends c.status ≡ other → ⊥
        not-so other f g d = ⊎_elim (λ e. f (sym e ∙ d)) (λ e. g (sym e ∙ d)) why

        kept-none : IsKept p untouched c
        kept-none = record {
          done = λ d. absurd (not-so status.Done (λ bad. absurd cc) (λ bad. absurd cc) d);
          whole = whole;
          usage = λ d. absurd (not-so status.Usage (λ bad. absurd cc) (λ bad. absurd cc) d);
          usage_only = λ none. ⊎_elim (λ e. absurd ((unread (ap (reads_source p) none)).1 e)) (λ e. inr (inr e)) why;
          usage_front = λ none. front-none c.sink p.usage_line kept;
          unread = unread;
          refused = λ d. absurd (not-so status.Refused (λ bad. absurd cc) (λ bad. absurd cc) d);
          refused_line = λ d. absurd (not-so status.Refused (λ bad. absurd cc) (λ bad. absurd cc) d);
          exact = of-any _ (known_in p c) (λ bytes answer k. inr (⊎_elim (λ e. inl e) (λ e. inr (inr e)) why));
          front = λ has_one. of-any _ (known_in p c) (λ bytes answer k. front-none c.sink (text_in p answer) kept);
          some = of-any _ (known_in p c) (λ bytes. inr (kept, why));
          read_fault = read_fault;
          nothing_written = λ d. kept;
          write_fault = λ d. absurd (not-so status.WriteFault (λ bad. absurd cc) (λ bad. absurd cc) d);
          agrees = agrees;
        }

      -- what was told keeps each promise
      pub kept : TellsCall p c → IsKept p untouched c
      kept (inl (mine, kind, right, told)) = kept-told mine kind right told
      kept (inr (nothing, why)) = kept-none nothing why

    module _ (untouched : Type 0) (c : Call S) where
      -- a call that doesn't read its source
      pub kept-unread : reads_source p (command_in p c) ≡ false → untouched → (p.ends c.status ≡ status.ReadFault → ⊥) → TellsCall p c → IsKept p untouched c
      kept-unread quiet same never told = kept untouched c (λ d. inl quiet) (λ e. (same, never)) (λ d. absurd (never d)) told

      -- a call that does
      pub kept-source : reads_source p (command_in p c) ≡ true → (p.ends c.status ≡ status.Done → IfSome c.source.before (λ _. c.source.after ≡ Some [])) → CountsReadFault p c → TellsCall p c → IsKept p untouched c
      kept-source reads whole read_fault told =
          kept untouched c (λ d. inr (whole d)) (λ quiet. let bad : false ≡ true = sym quiet ∙ reads in absurd (false≢true bad)) read_fault told

      -- a call that finds no memory before it does anything
      pub kept-out_of_memory : untouched → GainsNothing c.sink → p.ends c.status ≡ status.NoMemory → IsKept p untouched c
      kept-out_of_memory same nothing out =
          kept untouched c (λ d. let bad : status.NoMemory ≡ status.Done = sym out ∙ d in absurd cc)
          (λ quiet. (same, λ d. let bad : status.NoMemory ≡ status.ReadFault = sym out ∙ d in absurd cc))
          (λ d. let bad : status.NoMemory ≡ status.ReadFault = sym out ∙ d in absurd cc) (inr (nothing, inr out))

  -- a status that is told isn't that of a read fault
  pub never-read-told : (Is : A → Type 0) (sink : Stream) (result : S) → Tells p Is sink result → p.ends result ≡ status.ReadFault → ⊥
  never-read-told Is sink result (inl (answer, is, told)) d = never-read sink result answer told d
  never-read-told Is sink result (inr (kept, e)) d = let bad : status.NoMemory ≡ status.ReadFault = sym e ∙ d in absurd cc

-- ---- commands and words

module _ {C A S : Type 0} (p : Program C A S) (one : IsDefinite p) where
  -- what was told of the bytes that were read is told of the source
  pub tells-read : (hosts : List HostSpec) (command : C) (left new : Option (List ℕ)) (bytes : List ℕ) (sink : Stream) (result : S) → TakesAll left new bytes
      → Tells p (p.Answers hosts command bytes) sink result → TellsRead p (λ answer. IsReply (p.plain answer)) left (p.Answers hosts command) sink result
  tells-read hosts command left new bytes sink result took (inl (answer, is, told)) =
      inl (answer, one.reply hosts command bytes answer is, of-read (λ (bytes : List ℕ). p.Answers hosts command bytes answer) left new bytes took is, told)
  tells-read hosts command left new bytes sink result took (inr (kept, e)) = inr (kept, inr e)

  -- a source that is too long for the command was refused
  pub tells-long : (hosts : List HostSpec) (command : C) (longest : ℕ) (answer : A) → IsReply (p.plain answer) → ((bytes : List ℕ) → longest < length bytes → p.Answers hosts command bytes answer)
      → (left : Option (List ℕ)) (sink : Stream) (result : S) → IfSome left (λ bytes. longest < length bytes) → TellsOne p answer sink result
      → TellsRead p (λ other. IsReply (p.plain other)) left (p.Answers hosts command) sink result
  tells-long hosts command longest answer reply refuses left sink result long told =
      inl (answer, reply, of-known (λ bytes. longest < length bytes) (λ bytes. p.Answers hosts command bytes answer) left refuses long, told)

  -- what is known of the source of a command that reads it, and of one that doesn't
  read-known : (command : C) (left : Option (List ℕ)) (P : List ℕ → Type 0) → p.is_of_source command ≡ true → IfSome left P → IfSome (known_source p (Some command) left) P
  read-known command left P reads h = subst (λ (b : Bool). IfSome (cond b left (Some [])) P) (sym reads) h

  unread-known : (command : C) (left : Option (List ℕ)) (P : List ℕ → Type 0) → p.is_of_source command ≡ false → P [] → IfSome (known_source p (Some command) left) P
  unread-known command left P reads h = subst (λ (b : Bool). IfSome (cond b left (Some [])) P) (sym reads) h

  module _ (hosts : List HostSpec) (words : List (List ℕ)) (left : Option (List ℕ)) (sink : Stream) (result : S) where
    abbrev Asked : Type 0
    Asked = TellsRead p (Replies p (p.command_of words)) (known_source p (p.command_of words) left) (IsAnswer p hosts words) sink result

    -- what answers the command that words ask for answers the words
    by-command : (command : Option C) → command ≡ p.command_of words
        → TellsRead p (Replies p command) (known_source p command left) (λ bytes answer. MatchOption command (p.plain answer ≡ Usage) (λ asked. p.Answers hosts asked bytes answer)) sink result → Asked
    by-command command e h =
        subst (λ (asked : Option C). TellsRead p (Replies p asked) (known_source p asked left) (λ bytes answer. MatchOption asked (p.plain answer ≡ Usage) (λ (one : C). p.Answers hosts one bytes answer)) sink result) e h

    -- a command that reads its source
    pub tells-source : (command : C) → Some command ≡ p.command_of words → p.is_of_source command ≡ true → TellsRead p (λ answer. IsReply (p.plain answer)) left (p.Answers hosts command) sink result → Asked
    tells-source command e reads (inl (answer, kind, right, told)) =
        by-command (Some command) e (inl (answer, kind, read-known command left (λ bytes. p.Answers hosts command bytes answer) reads right, told))
    tells-source command e reads (inr none) = by-command (Some command) e (inr none)

    -- one that doesn't
    pub tells-alone : (command : C) → Some command ≡ p.command_of words → p.is_of_source command ≡ false → Tells p (p.Answers hosts command []) sink result → Asked
    tells-alone command e reads (inl (answer, is, told)) =
        by-command (Some command) e
        (inl (answer, one.reply hosts command [] answer is, unread-known command left (λ bytes. p.Answers hosts command bytes answer) reads is, told))
    tells-alone command e reads (inr (kept, why)) = by-command (Some command) e (inr (kept, inr why))

    -- invalid words
    pub tells-usage : None ≡ p.command_of words → (answer : A) → p.plain answer ≡ Usage → TellsOne p answer sink result → Asked
    tells-usage e answer usage told = by-command None e (inl (answer, usage, usage, told))
