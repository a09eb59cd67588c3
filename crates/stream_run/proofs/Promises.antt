-- What is promised of a session follows from what was written of one reply.
use Rattle.std.proofs.Common.{◌≡◌, ◌⊎◌, ◌≤◌, arith, ℕ, List, [], ◌++◌, Option, None, Some, Result, Ok, Err, refl, sym, ap, subst, ◌∙◌, inl, inr, ⊎_elim, append-nil}
use Rattle.std.specs.Prelude.{IfSome}
use Rattle.std.specs.Io.KnownBytes.{Appends, Keeps}
use Rattle.kw_base.specs.FaultLine.{line_of_fault}
use Rattle.kw_base.specs.declared.fault.Fault.{Fault}
use Rattle.kw_bits.specs.Faults.{Rose}
use Rattle.kw_bits.specs.declared.host.HostSpec.{HostSpec}
use Rattle.front_end.specs.Program.{IsFailure}
use Rattle.front_end.specs.Sources.{fault_of_source}
use Rattle.front_end.specs.Streams.{AppendsFront, Gains, GainsFront, GainsNothing, Stream}
use Rattle.front_end.specs.Told.{Told, status_by}
use Rattle.front_end.specs.declared.status.Status.{Status}
use Rattle.front_end.specs.declared.status.Status.TheVariants as status
use Rattle.front_end.specs.declared.untold.Untold.{Untold}
use Rattle.front_end.specs.declared.untold.Untold.TheVariants as untold
use Rattle.front_end.proofs.Told.{appends-twice, front-none}
use Rattle.stream_run.specs.Replies.{Answers, Reply, status_for, status_of}
use Rattle.stream_run.specs.Sessions.{CountsReadFault, CountsWriteFault, HasNoWords, HasStatusOfReply, IsKept, MayGive, ReadsAll, Session, WritesFront, WritesRefusal, WritesReply, WritesReport, WritesSomeFront, session}
use Rattle.stream_run.specs.inner.Telling.{FinishesSession, Writes}
use Rattle.stream_run.specs.declared.stop.Stop.{Stop}
use Rattle.stream_run.specs.declared.stop.Stop.TheVariants as stops
use Rattle.stream_run.proofs.OneReply.{one_reply}
use Rattle.stream_run.proofs.Writing.{front-after}

-- the status and what was written are those of a reply, or its first bytes and those of a failure
pub record TellsReply (reply : Reply) (old new : Option (List ℕ)) (result : Status) : Type 0 where
  pub status : (result ≡ status_of reply) ⊎ IsFailure result
  pub all : result ≡ status_of reply → Appends old new reply.text
  pub front : AppendsFront old new reply.text

-- no reply's status is that of a failure, or of invalid words
no_failure : (fault : Option Fault) → IsFailure (status_for fault) → ⊥
no_failure None (inl e) = let bad : status.Done ≡ status.ReadFault = e in absurd cc
no_failure None (inr (inl e)) = let bad : status.Done ≡ status.WriteFault = e in absurd cc
no_failure None (inr (inr e)) = let bad : status.Done ≡ status.NoMemory = e in absurd cc
no_failure (Some fault) (inl e) = let bad : status.Refused ≡ status.ReadFault = e in absurd cc
no_failure (Some fault) (inr (inl e)) = let bad : status.Refused ≡ status.WriteFault = e in absurd cc
no_failure (Some fault) (inr (inr e)) = let bad : status.Refused ≡ status.NoMemory = e in absurd cc

-- the first bytes were written, and something failed
tells-failure : (reply : Reply) (a b : Option (List ℕ)) (result : Status) → IsFailure result → AppendsFront a b reply.text → TellsReply reply a b result
tells-failure reply a b result failed front = record {
  status = inr failed;
  all = λ is. absurd (no_failure reply.fault (subst IsFailure is failed));
  front = front;
}

-- all of it was written
tells-all : (reply : Reply) (a b : Option (List ℕ)) (result : Status) → result ≡ status_of reply → Appends a b reply.text → TellsReply reply a b result
tells-all reply a b result is all = record { status = inl is; all = λ _. all; front = (reply.text, [], append-nil reply.text, all) }

-- ---- how a session ends

-- it ended without a fault
pub tells-done : (reply : Reply) (a b : Option (List ℕ)) (done : Unit {0}) → Writes reply a b (Ok done) → TellsReply reply a b status.Done
tells-done reply a b done writes = tells-all reply a b status.Done (ap status_for (sym writes.0)) writes.1

-- it ended with a fault, whose line was written to its end or wasn't
pub tells-fault : (reply : Reply) (fault : Fault) (a : Option (List ℕ)) (s : Stream) (r : Result (Unit {0}) Untold) → Writes reply a s.before (Err (stops.Fault fault)) → Told (line_of_fault fault) s r
    → TellsReply reply a s.after (status_by r status.Refused)
tells-fault reply fault a s (Ok done) writes told =
    tells-all reply a s.after status.Refused (ap status_for (sym writes.0))
    (subst (Appends a s.after) (sym writes.1.1) (appends-twice a s.before s.after writes.1.0 (line_of_fault fault) writes.1.2 told.all))
tells-fault reply fault a s (Err untold.WriteFault) writes told =
    tells-failure reply a s.after status.WriteFault (inr (inl refl)) (subst (AppendsFront a s.after) (sym writes.1.1) (front-after a s.before s.after writes.1.0 (line_of_fault fault) writes.1.2 told.front))
tells-fault reply fault a s (Err untold.NoMemory) writes told =
    tells-failure reply a s.after status.NoMemory (inr (inr refl)) (subst (AppendsFront a s.after) (sym writes.1.1) (front-after a s.before s.after writes.1.0 (line_of_fault fault) writes.1.2 told.front))

-- a part of a reply to bytes that the source may give was written, or nothing was
abbrev pub TellsSession : List HostSpec → Option (List ℕ) → Stream → Status → Type 0
TellsSession hosts left sink result =
    ((bytes : List ℕ) × MayGive left bytes × ((reply : Reply) × Answers hosts bytes reply × TellsReply reply sink.before sink.after result))
    ⊎ (GainsNothing sink × ((result ≡ status.ReadFault) ⊎ (result ≡ status.NoMemory)))

-- reading failed or memory ran out: both are failures
failed : {r : Status} → (r ≡ status.ReadFault) ⊎ (r ≡ status.NoMemory) → IsFailure r
failed (inl e) = inl e
failed (inr e) = inr (inr e)

-- ---- the clauses

module _ (s : Session) (told : TellsSession s.hosts s.source.before s.sink s.status) where
  -- a call that ended with the status of a reply wrote one
  settled : (whole : Option Fault) → s.status ≡ status_for whole → (fault : Option Fault) × (s.status ≡ status_for fault) × WritesReply s fault
  settled whole is =
      ⊎_elim
      (λ found.
      ⊎_elim
      (λ same. (found.2.0.fault, same, (found.0, found.1, (found.2.0, found.2.1, refl, found.2.2.all same))))
      (λ failed. absurd (no_failure whole (subst IsFailure is failed)))
      found.2.2.status)
      (λ none. absurd (no_failure whole (subst IsFailure is (failed none.1))))
      told

  is_done : (fault : Option Fault) → s.status ≡ status.Done → s.status ≡ status_for fault → WritesReply s fault → WritesReply s None
  is_done None is same writes = writes
  is_done (Some fault) is same writes = let bad : status.Done ≡ status.Refused = sym is ∙ same in absurd cc

  is_refused : (fault : Option Fault) → s.status ≡ status.Refused → s.status ≡ status_for fault → WritesReply s fault → (fault : Fault) × WritesReply s (Some fault)
  is_refused None is same writes = let bad : status.Refused ≡ status.Done = sym is ∙ same in absurd cc
  is_refused (Some fault) is same writes = (fault, writes)

  pub done : WritesReport s
  done is = let one = settled None is in is_done one.0 is one.1 one.2

  pub refused : WritesRefusal s
  refused is = let one = settled (Some (fault_of_source 40)) is in is_refused one.0 is one.1 one.2

  pub some : WritesSomeFront s
  some = ⊎_elim (λ found. inl (found.0, found.1, (found.2.0, found.2.1, found.2.2.front))) (λ none. inr none) told

  no_usage : (fault : Option Fault) → s.status ≡ status.Usage → s.status ≡ status_for fault → ⊥
  no_usage None is same = let bad : status.Usage ≡ status.Done = sym is ∙ same in absurd cc
  no_usage (Some fault) is same = let bad : status.Usage ≡ status.Refused = sym is ∙ same in absurd cc

  failed_usage : IsFailure s.status → s.status ≡ status.Usage → ⊥
  failed_usage (inl e) is = let bad : status.Usage ≡ status.ReadFault = sym is ∙ e in absurd cc
  failed_usage (inr (inl e)) is = let bad : status.Usage ≡ status.WriteFault = sym is ∙ e in absurd cc
  failed_usage (inr (inr e)) is = let bad : status.Usage ≡ status.NoMemory = sym is ∙ e in absurd cc

  pub no_words : HasNoWords s
  no_words is =
      ⊎_elim
      (λ found. ⊎_elim (λ same. no_usage found.2.0.fault is same) (λ failed. failed_usage failed is) found.2.2.status)
      (λ none. failed_usage (failed none.1) is)
      told

-- what holds of one reply holds of each
exact-of : (s : Session) (left : Option (List ℕ)) → TellsSession s.hosts left s.sink s.status
    → IfSome left (λ bytes. (reply : Reply) → Answers s.hosts bytes reply → (s.status ≡ status_of reply) ⊎ IsFailure s.status)
exact-of s None told = tt
exact-of s (Some bytes) (inl (given, may, (reply, answers, tells))) = λ other right.
    let same = one_reply s.hosts bytes reply other (subst (λ (b : List ℕ). Answers s.hosts b reply) (sym may) answers) right in
    subst (λ (r : Reply). (s.status ≡ status_of r) ⊎ IsFailure s.status) same tells.status
exact-of s (Some bytes) (inr none) = λ other right. inr (failed none.1)

front-of : (s : Session) (left : Option (List ℕ)) → TellsSession s.hosts left s.sink s.status → IfSome left (λ bytes. (reply : Reply) → Answers s.hosts bytes reply → GainsFront s.sink reply.text)
front-of s None told = tt
front-of s (Some bytes) (inl (given, may, (reply, answers, tells))) = λ other right.
    let same = one_reply s.hosts bytes reply other (subst (λ (b : List ℕ). Answers s.hosts b reply) (sym may) answers) right in
    subst (λ (r : Reply). GainsFront s.sink r.text) same tells.front
front-of s (Some bytes) (inr none) = λ other right. front-none s.sink other.text none.0

-- all of it
pub kept : (s : Session) → TellsSession s.hosts s.source.before s.sink s.status → ReadsAll s → CountsReadFault s → CountsWriteFault s → IsKept s
kept s told whole read write = record {
  done = done s told;
  whole = whole;
  refused = refused s told;
  exact = exact-of s s.source.before told;
  front = front-of s s.source.before told;
  some = some s told;
  no_words = no_words s told;
  read_fault = read;
  write_fault = write;
}

-- ---- the ends of a session

module _ (hosts : List HostSpec) (left : Option (List ℕ)) (sink : Stream) where
  told-done : (done : Unit {0}) → FinishesSession hosts left sink.before sink.after (Ok done) → TellsSession hosts left sink status.Done
  told-done done (inl (bytes, may, (reply, answers, writes))) = inl (bytes, may, (reply, answers, tells-done reply sink.before sink.after done writes))
  told-done done (inr (none, inl e)) = absurd cc
  told-done done (inr (none, inr e)) = absurd cc

  told-read : FinishesSession hosts left sink.before sink.after (Err stops.ReadFault) → TellsSession hosts left sink status.ReadFault
  told-read (inl (bytes, may, (reply, answers, writes))) = inl (bytes, may, (reply, answers, tells-failure reply sink.before sink.after status.ReadFault (inl refl) writes))
  told-read (inr none) = inr (none.0, inl refl)

  told-write : FinishesSession hosts left sink.before sink.after (Err stops.WriteFault) → TellsSession hosts left sink status.WriteFault
  told-write (inl (bytes, may, (reply, answers, writes))) = inl (bytes, may, (reply, answers, tells-failure reply sink.before sink.after status.WriteFault (inr (inl refl)) writes))
  told-write (inr (none, inl e)) = absurd cc
  told-write (inr (none, inr e)) = absurd cc

  told-memory : FinishesSession hosts left sink.before sink.after (Err stops.NoMemory) → TellsSession hosts left sink status.NoMemory
  told-memory (inl (bytes, may, (reply, answers, writes))) = inl (bytes, may, (reply, answers, tells-failure reply sink.before sink.after status.NoMemory (inr (inr refl)) writes))
  told-memory (inr none) = inr (none.0, inr refl)

-- the sink from before the session to after the line of its fault
abbrev pub through : Option (List ℕ) → ℕ → Stream → Stream
through old count last = record { before = old; after = last.after; faults_before = count; faults_after = last.faults_after }

told-fault : (hosts : List HostSpec) (left old : Option (List ℕ)) (count : ℕ) (fault : Fault) (last : Stream) (r : Result (Unit {0}) Untold) → FinishesSession hosts left old last.before (Err (stops.Fault fault))
    → Told (line_of_fault fault) last r → TellsSession hosts left (through old count last) (status_by r status.Refused)
told-fault hosts left old count fault last r (inl (bytes, may, (reply, answers, writes))) told = inl (bytes, may, (reply, answers, tells-fault reply fault old last r writes told))
told-fault hosts left old count fault last r (inr (none, inl e)) told = absurd cc
told-fault hosts left old count fault last r (inr (none, inr e)) told = absurd cc

rose-after : (l m n : ℕ) → l ≤ m → Rose m n → Rose l n
rose-after l m n h (inl less) = inl (omega (arith, h, less))
rose-after l m n h (inr last) = inr last

module _ (hosts : List HostSpec) (source : Stream) where
  pub kept-done : (sink : Stream) (done : Unit {0}) → FinishesSession hosts source.before sink.before sink.after (Ok done) → IfSome source.before (λ _. source.after ≡ Some []) → IsKept (session hosts source sink status.Done)
  kept-done sink done ends whole =
      kept (session hosts source sink status.Done) (told-done hosts source.before sink done ends) (λ _. whole)
      (λ e. let bad : status.Done ≡ status.ReadFault = e in absurd cc) (λ e. let bad : status.Done ≡ status.WriteFault = e in absurd cc)

  pub kept-read : (sink : Stream) → FinishesSession hosts source.before sink.before sink.after (Err stops.ReadFault) → Rose source.faults_before source.faults_after → IsKept (session hosts source sink status.ReadFault)
  kept-read sink ends rose =
      kept (session hosts source sink status.ReadFault) (told-read hosts source.before sink ends) (λ e. let bad : status.ReadFault ≡ status.Done = e in absurd cc)
      (λ _. rose) (λ e. let bad : status.ReadFault ≡ status.WriteFault = e in absurd cc)

  pub kept-write : (sink : Stream) → FinishesSession hosts source.before sink.before sink.after (Err stops.WriteFault) → Rose sink.faults_before sink.faults_after → IsKept (session hosts source sink status.WriteFault)
  kept-write sink ends rose =
      kept (session hosts source sink status.WriteFault) (told-write hosts source.before sink ends) (λ e. let bad : status.WriteFault ≡ status.Done = e in absurd cc)
      (λ e. let bad : status.WriteFault ≡ status.ReadFault = e in absurd cc) (λ _. rose)

  pub kept-memory : (sink : Stream) → FinishesSession hosts source.before sink.before sink.after (Err stops.NoMemory) → IsKept (session hosts source sink status.NoMemory)
  kept-memory sink ends =
      kept (session hosts source sink status.NoMemory) (told-memory hosts source.before sink ends) (λ e. let bad : status.NoMemory ≡ status.Done = e in absurd cc)
      (λ e. let bad : status.NoMemory ≡ status.ReadFault = e in absurd cc) (λ e. let bad : status.NoMemory ≡ status.WriteFault = e in absurd cc)

  module _ (old : Option (List ℕ)) (count : ℕ) (fault : Fault) (last : Stream) where
    not_done : (r : Result (Unit {0}) Untold) → status_by r status.Refused ≡ status.Done → ⊥
    not_done (Ok done) e = let bad : status.Refused ≡ status.Done = e in absurd cc
    not_done (Err untold.WriteFault) e = let bad : status.WriteFault ≡ status.Done = e in absurd cc
    not_done (Err untold.NoMemory) e = let bad : status.NoMemory ≡ status.Done = e in absurd cc

    not_read : (r : Result (Unit {0}) Untold) → status_by r status.Refused ≡ status.ReadFault → ⊥
    not_read (Ok done) e = let bad : status.Refused ≡ status.ReadFault = e in absurd cc
    not_read (Err untold.WriteFault) e = let bad : status.WriteFault ≡ status.ReadFault = e in absurd cc
    not_read (Err untold.NoMemory) e = let bad : status.NoMemory ≡ status.ReadFault = e in absurd cc

    rose_by : (r : Result (Unit {0}) Untold) → Told (line_of_fault fault) last r → status_by r status.Refused ≡ status.WriteFault → Rose last.faults_before last.faults_after
    rose_by (Ok done) told e = let bad : status.Refused ≡ status.WriteFault = e in absurd cc
    rose_by (Err untold.WriteFault) told e = told.cause refl
    rose_by (Err untold.NoMemory) told e = let bad : status.NoMemory ≡ status.WriteFault = e in absurd cc

    pub kept-fault : (r : Result (Unit {0}) Untold) → FinishesSession hosts source.before old last.before (Err (stops.Fault fault)) → Told (line_of_fault fault) last r → count ≤ last.faults_before
        → IsKept (session hosts source (through old count last) (status_by r status.Refused))
    kept-fault r ends told up =
        kept (session hosts source (through old count last) (status_by r status.Refused)) (told-fault hosts source.before old count fault last r ends told) (λ e. absurd (not_done r e)) (λ e. absurd (not_read r e))
        (λ e. rose-after count last.faults_before last.faults_after up (rose_by r told e))

-- ---- the same where a part stopped

module _ (hosts : List HostSpec) (source sink : Stream) (stop : Stop) where
  pub stopped-read : stop ≡ stops.ReadFault → FinishesSession hosts source.before sink.before sink.after (Err stop) → (◌≡◌ {A = Result (Unit {0}) Stop} (Err stop) (Err stops.ReadFault) → Rose source.faults_before source.faults_after)
      → IsKept (session hosts source sink status.ReadFault)
  stopped-read is ends rose = kept-read hosts source sink (subst (λ (s : Stop). FinishesSession hosts source.before sink.before sink.after (Err s)) is ends) (rose (ap (λ (s : Stop). Err s) is))

  pub stopped-write : stop ≡ stops.WriteFault → FinishesSession hosts source.before sink.before sink.after (Err stop) → (◌≡◌ {A = Result (Unit {0}) Stop} (Err stop) (Err stops.WriteFault) → Rose sink.faults_before sink.faults_after)
      → IsKept (session hosts source sink status.WriteFault)
  stopped-write is ends rose = kept-write hosts source sink (subst (λ (s : Stop). FinishesSession hosts source.before sink.before sink.after (Err s)) is ends) (rose (ap (λ (s : Stop). Err s) is))

  pub stopped-memory : stop ≡ stops.NoMemory → FinishesSession hosts source.before sink.before sink.after (Err stop) → IsKept (session hosts source sink status.NoMemory)
  stopped-memory is ends = kept-memory hosts source sink (subst (λ (s : Stop). FinishesSession hosts source.before sink.before sink.after (Err s)) is ends)

pub stopped-fault : (hosts : List HostSpec) (source : Stream) (old : Option (List ℕ)) (count : ℕ) (stop : Stop) (fault : Fault) (last : Stream) (r : Result (Unit {0}) Untold) (result : Status) → stop ≡ stops.Fault fault
    → FinishesSession hosts source.before old last.before (Err stop) → Told (line_of_fault fault) last r → count ≤ last.faults_before → result ≡ status_by r status.Refused → IsKept (session hosts source (through old count last) result)
stopped-fault hosts source old count stop fault last r result is ends told up by =
    subst (λ (s : Status). IsKept (session hosts source (through old count last) s)) (sym by)
    (kept-fault hosts source old count fault last r (subst (λ (s : Stop). FinishesSession hosts source.before old last.before (Err s)) is ends) told up)
