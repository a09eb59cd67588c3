-- What is written of one line, and of the last one.
use Rattle.std.proofs.Common.{◌≡◌, ◌⊎◌, ℕ, ◌+◌, ◌<◌, List, [], ◌∷◌, length, Option, None, Some, Result, Ok, Err, inl, inr, refl, sym, ap, subst, ◌∙◌, arith}
use Rattle.std.specs.Io.KnownBytes.{Appends}
use Rattle.kw_base.specs.declared.fault.Fault.{Fault}
use Rattle.kw_bits.specs.BitVector.{BitVector}
use Rattle.koika_assert.specs.Violations.{watched_text}
use Rattle.koika_check.specs.declared.checked.Checked.{Checked}
use Rattle.stim_report.specs.Report.{line_of}
use Rattle.front_end.specs.Sources.{shape_of}
use Rattle.front_end.specs.Streams.{Stream}
use Rattle.front_end.specs.Told.{Told}
use Rattle.front_end.specs.declared.untold.Untold.{Untold}
use Rattle.stream_run.specs.Lines.{inputs_on, lines_in}
use Rattle.stream_run.specs.Replies.{Reply}
use Rattle.stream_run.specs.inner.Reading.{IsOneLine}
use Rattle.stream_run.specs.inner.Stops.{stop_by_untold}
use Rattle.stream_run.specs.inner.Telling.{AnswersLine, Place, Writes, after_text, next_place, next_row, told_from, told_then}
use Rattle.stream_run.specs.declared.stop.Stop.{Stop}
use Rattle.stream_run.specs.declared.stop.Stop.TheVariants as stops
use Rattle.stream_run.proofs.Coming.{lines-last}
use Rattle.stream_run.proofs.Writing.{IsNoFault, writes-after, writes-as, writes-cut, writes-last}

-- reading fails, or memory runs out
pub no-fault : {X : Type 0} (stop : Stop) → (◌≡◌ {A = Result X Stop} (Err stop) (Err stops.ReadFault)) ⊎ (◌≡◌ {A = Result X Stop} (Err stop) (Err stops.NoMemory)) → IsNoFault stop
no-fault {X} (stops.Fault fault) (inl e) = let bad : ◌≡◌ {A = Result X Stop} (Err (stops.Fault fault)) (Err stops.ReadFault) = e in absurd cc
no-fault {X} (stops.Fault fault) (inr e) = let bad : ◌≡◌ {A = Result X Stop} (Err (stops.Fault fault)) (Err stops.NoMemory) = e in absurd cc
no-fault {X} stops.ReadFault e = tt
no-fault {X} stops.WriteFault e = tt
no-fault {X} stops.NoMemory e = tt

one_line : (line : List ℕ) → IsOneLine line → 0 < length line → lines_in line ≡ line ∷ []
one_line [] one some = absurd (omega (arith, some))
one_line (b ∷ line) one some = lines-last b line one

module _ (d : Checked) (place : Place) where
  -- the row of a line wasn't written to its end
  pub answers-cut : (behind : Place) (line : List ℕ) (values : List BitVector) (text : List ℕ) (s : Stream) (e : Untold) → inputs_on (shape_of d).inputs (place.cycle + 1) place.line line ≡ Ok values
      → text ≡ line_of (shape_of d) (place.cycle + 1) (next_row d place values) → Told text s (Err e) → AnswersLine d place behind line s.before s.after (Err (stop_by_untold e))
  answers-cut behind line values text s e inputs is told = λ lines.
      let later = λ (given : List BitVector). after_text (line_of (shape_of d) (place.cycle + 1) (next_row d place given)) (told_from d (next_place d place given) lines) in
      let row = subst (λ (t : List ℕ). Told t s (Err e)) is told in
      subst (λ (r : Result (List BitVector) Fault). Writes (told_then r later) s.before s.after (Err (stop_by_untold e))) (sym inputs)
      (writes-cut (line_of (shape_of d) (place.cycle + 1) (next_row d place values)) (told_from d (next_place d place values) lines) s e row)

  -- no line was left
  pub ends-none : (line : List ℕ) (s : Stream) (u done : Unit {0}) → line ≡ [] → Told (watched_text place.known) s (Ok u) → Writes (told_from d place (lines_in line)) s.before s.after (Ok done)
  ends-none line s u done none told = subst (λ (text : List ℕ). Writes (told_from d place (lines_in text)) s.before s.after (Ok done)) (sym none) (refl, told.all)

  pub ends-none-cut : (line : List ℕ) (s : Stream) (e : Untold) → line ≡ [] → Told (watched_text place.known) s (Err e) → Writes (told_from d place (lines_in line)) s.before s.after (Err (stop_by_untold e))
  ends-none-cut line s e none told = subst (λ (text : List ℕ). Writes (told_from d place (lines_in text)) s.before s.after (Err (stop_by_untold e))) (sym none) (writes-last (watched_text place.known) s e told)

  module _ (line : List ℕ) (one : IsOneLine line) (some : 0 < length line) (behind : Place) (old : Option (List ℕ)) where
    -- the last line couldn't be answered
    pub ends-stop : (new : Option (List ℕ)) (stop : Stop) → AnswersLine d place behind line old new (Err stop) → Writes (told_from d place (lines_in line)) old new (Err stop)
    ends-stop new stop answers = subst (λ (lines : List (List ℕ)). Writes (told_from d place lines) old new (Err stop)) (sym (one_line line one some)) (answers [])

    -- it was answered, and then the ending was written
    last_reply : (s : Stream) (done : Unit {0}) (r : Result (Unit {0}) Stop) → AnswersLine d place behind line old s.before (Ok done) → Writes (told_from d behind []) s.before s.after r → Writes (told_from d place (lines_in line)) old s.after r
    last_reply s done r answers writes =
        writes-as (after_text answers.0 (told_from d behind [])) (told_from d place (lines_in line)) old s.after r
        (sym (ap (told_from d place) (one_line line one some) ∙ answers.2 []))
        (writes-after answers.0 (told_from d behind []) old s.before s.after r answers.1 writes)

    pub ends-line : (s : Stream) (done u last : Unit {0}) → AnswersLine d place behind line old s.before (Ok done) → Told (watched_text behind.known) s (Ok u) → Writes (told_from d place (lines_in line)) old s.after (Ok last)
    ends-line s done u last answers told = last_reply s done (Ok last) answers (refl, told.all)

    -- or wasn't written to its end
    pub ends-line-cut : (s : Stream) (done : Unit {0}) (e : Untold) → AnswersLine d place behind line old s.before (Ok done) → Told (watched_text behind.known) s (Err e)
        → Writes (told_from d place (lines_in line)) old s.after (Err (stop_by_untold e))
    ends-line-cut s done e answers told = last_reply s done (Err (stop_by_untold e)) answers (writes-last (watched_text behind.known) s e told)
