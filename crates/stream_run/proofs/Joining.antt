-- A session made of its parts: the head, the first row, and the lines.
use Rattle.std.proofs.Common.{◌≡◌, ◌⊎◌, ℕ, Bool, true, false, List, [], ◌++◌, Option, None, Some, Result, Ok, Err, refl, sym, ap, subst, ◌∙◌, inl, inr, append-nil}
use Rattle.std.specs.Prelude.{IfSome, OnOk, OnSome}
use Rattle.std.specs.Io.KnownBytes.{Appends, Consumes, IsAtEnd, Keeps}
use Rattle.std.proofs.KnownBytes.{Keeps-refl}
use Rattle.kw_base.specs.Fault.{IfFault}
use Rattle.kw_base.specs.declared.fault.Fault.{Fault}
use Rattle.kw_base.specs.declared.fault.Refusal.{Refusal}
use Rattle.kw_base.specs.declared.fault.Refusal.TheVariants as refusals
use Rattle.kw_bits.specs.BitVector.{BitVector}
use Rattle.kw_bits.specs.declared.host.HostSpec.{HostSpec}
use Rattle.koika_check.specs.declared.checked.Checked.{Checked}
use Rattle.one_rule.specs.Run.{opening}
use Rattle.one_rule.specs.Stimulus.{InputVectors}
use Rattle.stim_report.specs.Cuts.{parts_of}
use Rattle.stim_report.specs.Report.{line_of}
use Rattle.stim_report.specs.Shapes.{widths_of}
use Rattle.stim_report.specs.Stimuli.{stimulus_of}
use Rattle.front_end.specs.Sources.{IsIllTyped, IsUnspelled, SpellsDesign, shape_of}
use Rattle.front_end.specs.Streams.{Stream}
use Rattle.front_end.specs.Systems.{first_values, system_of}
use Rattle.front_end.specs.Told.{Told}
use Rattle.front_end.specs.declared.untold.Untold.{Untold}
use Rattle.front_end.proofs.Told.{appends-none}
use Rattle.stream_run.specs.Lines.{head_of, heard, lines_in}
use Rattle.stream_run.specs.Replies.{Answers, Reply, refusal, reply_to}
use Rattle.stream_run.specs.Sessions.{MayGive}
use Rattle.stream_run.specs.inner.Reading.{HasHead, HasNoHead, TakesHead, to_come}
use Rattle.stream_run.specs.inner.Stops.{stop_by_refusal, stop_by_untold}
use Rattle.stream_run.specs.inner.Telling.{Finishes, FinishesDesign, FinishesSession, Place, Writes, first_place, told_from, whole_reply}
use Rattle.stream_run.specs.declared.stop.Stop.{Stop}
use Rattle.stream_run.specs.declared.stop.Stop.TheVariants as stops
use Rattle.stream_run.proofs.Coming.{append-empty, may-after, may-end, some-come}
use Rattle.stream_run.proofs.LineInputs.{stimulus-none}
use Rattle.stream_run.proofs.Replies.{whole-replies}
use Rattle.stream_run.proofs.Writing.{IsNoFault, writes-after, writes-as, writes-cut, writes-nothing}

-- ---- a design

module _ (d : Checked) (line : ℕ) (coming : Option (List ℕ)) where
  -- a reply to lines that may come, where some may
  of_rest : (is_open : Bool) (old new : Option (List ℕ)) (r : Result (Unit {0}) Stop) → ((rest : List ℕ) → Writes (whole_reply d line rest) old new r) → FinishesDesign d line is_open coming old new r
  of_rest true old new r writes = let some = some-come coming in record { rest = some.0; some = λ _. some.1; none = λ e. absurd cc; writes = writes some.0 }
  of_rest false old new r writes = record { rest = []; some = λ e. absurd cc; none = λ _. refl; writes = writes [] }

  -- nothing was written
  pub design-here : (is_open : Bool) (old : Option (List ℕ)) (stop : Stop) → IsNoFault stop → FinishesDesign d line is_open coming old old (Err stop)
  design-here is_open old stop none = of_rest is_open old old (Err stop) (λ rest. writes-nothing (whole_reply d line rest) old stop none)

  -- the first row wasn't written to its end
  pub design-cut : (is_open : Bool) (regs : List BitVector) (s : Stream) (e : Untold) → regs ≡ first_values d → Told (line_of (shape_of d) 0 (opening (system_of d).rules regs)) s (Err e)
      → FinishesDesign d line is_open coming s.before s.after (Err (stop_by_untold e))
  design-cut is_open regs s e is told =
      let first = subst (λ (values : List BitVector). Told (line_of (shape_of d) 0 (opening (system_of d).rules values)) s (Err e)) is told in
      of_rest is_open s.before s.after (Err (stop_by_untold e)) (λ rest. writes-cut (line_of (shape_of d) 0 (opening (system_of d).rules (first_values d))) (told_from d (first_place d line) (lines_in rest)) s e first)

  module _ (place : Place) (is : place ≡ first_place d line) (s : Stream) (done : Unit {0}) (told : Told (line_of (shape_of d) 0 (opening (system_of d).rules place.regs)) s (Ok done)) where
    first : Appends s.before s.after (line_of (shape_of d) 0 (opening (system_of d).rules (first_values d)))
    first = subst (λ (p : Place). Appends s.before s.after (line_of (shape_of d) 0 (opening (system_of d).rules p.regs))) is told.all

    on : (rest : List ℕ) (last : Option (List ℕ)) (r : Result (Unit {0}) Stop) → Writes (told_from d place (lines_in rest)) s.after last r → Writes (whole_reply d line rest) s.before last r
    on rest last r writes =
        writes-after (line_of (shape_of d) 0 (opening (system_of d).rules (first_values d))) (told_from d (first_place d line) (lines_in rest)) s.before s.after last r first
        (subst (λ (p : Place). Writes (told_from d p (lines_in rest)) s.after last r) is writes)

    -- and later the lines were answered
    pub design-lines : (last : Option (List ℕ)) (r : Result (Unit {0}) Stop) → Finishes d place coming s.after last r → FinishesDesign d line true coming s.before last r
    design-lines last r later = record { rest = later.0; some = λ _. later.1; none = λ e. absurd cc; writes = on later.0 last r later.2 }

    -- or there was none
    pub design-alone : (last : Option (List ℕ)) (r : Result (Unit {0}) Stop) → Writes (told_from d place (lines_in [])) s.after last r → FinishesDesign d line false coming s.before last r
    design-alone last r writes = record { rest = []; some = λ e. absurd cc; none = λ _. refl; writes = on [] last r writes }

-- ---- a session

-- nothing was written before
come-first : (left : Option (List ℕ)) (bytes : List ℕ) → MayGive (to_come [] left) bytes → MayGive left bytes
come-first None bytes may = tt
come-first (Some all) bytes may = may

module _ (hosts : List HostSpec) (left old : Option (List ℕ)) where
  -- memory ran out
  pub session-memory : FinishesSession hosts left old old (Err stops.NoMemory)
  session-memory = inr (Keeps-refl old, inr refl)

  -- the line of a fault is all that there is to write
  writes-refusal : (fault : Fault) → Writes (refusal fault) old old (Err (stops.Fault fault))
  writes-refusal fault = (refl, ([], refl, appends-none old))

  -- there was no head
  pub session-no_head : (stop : Stop) → HasNoHead (to_come [] left) stop → FinishesSession hosts left old old (Err stop)
  session-no_head (stops.Fault fault) (bytes, may, long) =
      inl (bytes, come-first left bytes may, (refusal fault, inl (fault, inl long, refl), writes-refusal fault))
  session-no_head stops.ReadFault none = inr (Keeps-refl old, inl refl)
  session-no_head stops.WriteFault none = absurd none
  session-no_head stops.NoMemory none = session-memory

  module _ (coming : Option (List ℕ)) (head : List ℕ) where
    -- bytes that may have this head
    some_bytes : (is_open : Bool) → TakesHead (to_come [] left) coming head is_open → (rest : List ℕ) × MayGive left (head ++ rest) × HasHead (head ++ rest) head rest
    some_bytes true takes = let some = some-come coming in (some.0, come-first left (head ++ some.0) (may-after (to_come [] left) coming head some.0 takes.taken some.1), takes.marked refl some.0)
    some_bytes false takes =
        let closed = takes.closed refl in
        let same = sym (append-nil head) in
        ([], come-first left (head ++ []) (subst (MayGive (to_come [] left)) same (may-end (to_come [] left) coming head takes.taken closed.1)), subst (λ (bytes : List ℕ). HasHead bytes head []) same closed.0)

    -- the head spells no design
    pub session-ill : (is_open : Bool) (refusal_of : Refusal) → TakesHead (to_come [] left) coming head is_open → IfFault {X = Unit {0}} (Err refusal_of) (IsIllTyped hosts head)
        → FinishesSession hosts left old old (Err (stop_by_refusal refusal_of))
    session-ill is_open (refusals.Fault fault) takes ill =
        let some = some_bytes is_open takes in
        inl (head ++ some.0, some.1, (refusal fault, inl (fault, inr (subst (λ (front : List ℕ). IsIllTyped hosts front fault) (sym some.2.head) ill), refl), writes-refusal fault))
    session-ill is_open refusals.NoMemory takes ill = session-memory

    -- the bytes that were answered
    module _ (d : Checked) (line : ℕ) (new : Option (List ℕ)) (r : Result (Unit {0}) Stop) where
      answered : (is_open : Bool) → TakesHead (to_come [] left) coming head is_open → (later : FinishesDesign d line is_open coming old new r)
          → MayGive left (head ++ later.rest) × HasHead (head ++ later.rest) head later.rest
      answered true takes later = (come-first left (head ++ later.rest) (may-after (to_come [] left) coming head later.rest takes.taken (later.some refl)), takes.marked refl later.rest)
      answered false takes later =
          let closed = takes.closed refl in
          let same = sym (append-nil head) in
          let may = come-first left (head ++ []) (subst (MayGive (to_come [] left)) same (may-end (to_come [] left) coming head takes.taken closed.1)) in
          let has = subst (λ (bytes : List ℕ). HasHead bytes head []) same closed.0 in
          subst (λ (rest : List ℕ). MayGive left (head ++ rest) × HasHead (head ++ rest) head rest) (sym (later.none refl)) (may, has)

      -- the head spells a design
      pub session-design : (is_open : Bool) → TakesHead (to_come [] left) coming head is_open → SpellsDesign hosts head d → line ≡ (parts_of head).first_line → FinishesDesign d line is_open coming old new r
          → FinishesSession hosts left old new r
      session-design is_open takes spelled number later =
          let of = answered is_open takes later in
          let bytes = head ++ later.rest in
          let same = whole-replies d bytes later.rest line of.1.rest (of.1.line ∙ sym number) in
          inl (bytes, of.0, (reply_to d (heard d bytes), inr (d, subst (λ (front : List ℕ). SpellsDesign hosts front d) (sym of.1.head) spelled, refl), writes-as (whole_reply d line later.rest) (reply_to d (heard d bytes)) old new r (sym same) later.writes))

-- ---- heads

-- nothing follows a head in it
pub head-alone : (coming left : Option (List ℕ)) (head : List ℕ) (is_open : Bool) → TakesHead coming left head is_open → (parts_of head).stimulus ≡ []
head-alone coming left head true takes = (takes.marked refl []).alone
head-alone coming left head false takes = (takes.closed refl).0.alone

-- so it has no fault of its lines
pub ill-only : (hosts : List HostSpec) (head : List ℕ) → (parts_of head).stimulus ≡ [] → (fault : Fault) → IsUnspelled hosts head fault → IsIllTyped hosts head fault
ill-only hosts head none fault (inl ill) = ill
ill-only hosts head none fault (inr (d, spells, is)) =
    let bad : ◌≡◌ {A = Result InputVectors Fault} (Ok (record { widths = widths_of (shape_of d).inputs; cycles = [] })) (Err fault) =
    sym (stimulus-none (shape_of d) (parts_of head).first_line) ∙ ap (stimulus_of (shape_of d) (parts_of head).first_line) (sym none) ∙ is in
    absurd cc

-- the source is at its end where the lines were answered to it, or where the head was all
pub whole-by : (left behind last : Option (List ℕ)) (unread head : List ℕ) (is_open : Bool) (r : Result (Unit {0}) Stop) → TakesHead (to_come [] left) (to_come unread behind) head is_open
    → (is_open ≡ true → OnOk r (IfSome (to_come unread behind) (λ _. last ≡ Some []))) → (is_open ≡ false → last ≡ behind) → OnOk r (IfSome left (λ _. last ≡ Some []))
whole-by left behind last unread head is_open (Err stop) takes lines none = tt
whole-by None behind last unread head is_open (Ok done) takes lines none = tt
whole-by (Some all) None last unread head is_open (Ok done) takes lines none = absurd takes.taken
whole-by (Some all) (Some more) last unread head true (Ok done) takes lines none = lines refl
whole-by (Some all) (Some more) last unread head false (Ok done) takes lines none = none refl ∙ ap Some (append-empty unread more (takes.closed refl).1)

-- ---- the parts, as they are called

module _ (d : Checked) (line : ℕ) (coming : Option (List ℕ)) (place : Place) (is : place ≡ first_place d line) (s : Stream) (done : Unit {0})
    (told : Told (line_of (shape_of d) 0 (opening (system_of d).rules place.regs)) s (Ok done)) (is_open : Bool) where
  pub design-open : (last : Option (List ℕ)) (r : Result (Unit {0}) Stop) → is_open ≡ true → Finishes d place coming s.after last r → FinishesDesign d line is_open coming s.before last r
  design-open last r opened later = subst (λ (b : Bool). FinishesDesign d line b coming s.before last r) (sym opened) (design-lines d line coming place is s done told last r later)

  pub design-shut : (last : Option (List ℕ)) (r : Result (Unit {0}) Stop) → is_open ≡ false → Writes (told_from d place (lines_in [])) s.after last r → FinishesDesign d line is_open coming s.before last r
  design-shut last r shut writes = subst (λ (b : Bool). FinishesDesign d line b coming s.before last r) (sym shut) (design-alone d line coming place is s done told last r writes)

module _ (hosts : List HostSpec) (left old : Option (List ℕ)) (unread : List ℕ) (none : unread ≡ []) where
  pub no-head : (stop : Stop) → HasNoHead (to_come unread left) stop → FinishesSession hosts left old old (Err stop)
  no-head stop has = session-no_head hosts left old stop (subst (λ (bytes : List ℕ). HasNoHead (to_come bytes left) stop) none has)

  module _ (coming : Option (List ℕ)) (head given : List ℕ) (is_open : Bool) (takes : TakesHead (to_come unread left) coming head is_open) (same : given ≡ head) where
    first_taken : TakesHead (to_come [] left) coming head is_open
    first_taken = subst (λ (bytes : List ℕ). TakesHead (to_come bytes left) coming head is_open) none takes

    pub ill-head : (refusal_of : Refusal) → IfFault {X = Unit {0}} (Err refusal_of) (IsIllTyped hosts given) → FinishesSession hosts left old old (Err (stop_by_refusal refusal_of))
    ill-head refusal_of ill =
        session-ill hosts left old coming head is_open refusal_of first_taken (subst (λ (front : List ℕ). IfFault {X = Unit {0}} (Err refusal_of) (IsIllTyped hosts front)) same ill)

    pub good-head : (again : List ℕ) (d : Checked) (line : ℕ) (new : Option (List ℕ)) (r : Result (Unit {0}) Stop) → again ≡ head → SpellsDesign hosts given d → line ≡ (parts_of again).first_line
        → FinishesDesign d line is_open coming old new r → FinishesSession hosts left old new r
    good-head again d line new r too spelled number later =
        session-design hosts left old coming head d line new r is_open first_taken (subst (λ (front : List ℕ). SpellsDesign hosts front d) same spelled)
        (number ∙ ap (λ (bytes : List ℕ). (parts_of bytes).first_line) too) later

  pub whole-head : (behind last : Option (List ℕ)) (more head : List ℕ) (is_open : Bool) (r : Result (Unit {0}) Stop) → TakesHead (to_come unread left) (to_come more behind) head is_open
      → (is_open ≡ true → OnOk r (IfSome (to_come more behind) (λ _. last ≡ Some []))) → (is_open ≡ false → last ≡ behind) → OnOk r (IfSome left (λ _. last ≡ Some []))
  whole-head behind last more head is_open r takes lines shut =
      whole-by left behind last more head is_open r (subst (λ (bytes : List ℕ). TakesHead (to_come bytes left) (to_come more behind) head is_open) none takes) lines shut
