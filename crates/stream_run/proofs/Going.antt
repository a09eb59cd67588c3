-- How a session goes on from line to line, and how it ends.
use Rattle.std.proofs.Common.{◌≡◌, ◌⊎◌, ℕ, ◌+◌, ◌<◌, ◌≤◌, Bool, true, false, List, [], ◌∷◌, ◌++◌, length, length-append, Option, None, Some, Result, Ok, Err, refl, sym, ap, subst, ◌∙◌, append_assoc, append-nil, arith, ⊎_elim}
use Rattle.std.specs.Prelude.{IfSome, OnOk, OnSome}
use Rattle.std.specs.Io.KnownBytes.{Appends, Consumes, IsAtEnd}
use Rattle.std.proofs.KnownBytes.{Consumes-nil, Consumes-trans}
use Rattle.std.proofs.lemmas.Bool.{cases_lt}
use Rattle.kw_bits.specs.BitVector.{BitVector}
use Rattle.kw_base.specs.declared.fault.Fault.{Fault}
use Rattle.koika_check.specs.declared.checked.Checked.{Checked}
use Rattle.stim_report.specs.Report.{line_of}
use Rattle.front_end.specs.Sources.{fault_of_source, longest_source, shape_of}
use Rattle.front_end.proofs.Told.{appends-none, appends-twice}
use Rattle.stream_run.specs.Lines.{lines_in}
use Rattle.stream_run.specs.Replies.{Reply, refusal}
use Rattle.stream_run.specs.inner.Reading.{IsOneLine, TakesLine, to_come}
use Rattle.stream_run.specs.inner.Telling.{AnswersLine, Finishes, Place, Writes, after_text, next_place, next_row, told_from, told_then}
use Rattle.stream_run.specs.declared.stop.Stop.{Stop}
use Rattle.stream_run.proofs.Coming.{inputs-long, lines-long, lines-more, may-after, may-end, some-come, source-end}
use Rattle.stream_run.proofs.Writing.{IsNoFault, writes-after, writes-as, writes-nothing}

module _ (d : Checked) where
  -- what is left to write after a line that is too long
  told-long : (place : Place) (line : List ℕ) (lines : List (List ℕ)) → longest_source < length line → told_from d place (line ∷ lines) ≡ refusal (fault_of_source 40)
  told-long place line lines long =
      ap
      (λ (r : Result (List BitVector) Fault). told_then r (λ (values : List BitVector).
      after_text (line_of (shape_of d) (place.cycle + 1) (next_row d place values)) (told_from d (next_place d place values) lines)))
      (inputs-long (shape_of d).inputs (place.cycle + 1) place.line line long)

  told-long-in : (place : Place) (line more : List ℕ) → IsOneLine line → longest_source < length line → told_from d place (lines_in (line ++ more)) ≡ refusal (fault_of_source 40)
  told-long-in place line more one long =
      let first = lines-long line more one (omega (arith, long)) in
      ap (told_from d place) first.2 ∙ told-long place (line ++ first.0) first.1 (omega (arith, long, length-append line first.0))

  -- a session went on from one place to another, took these bytes and wrote this text
  pub record Reached (from to : Place) (coming left old new : Option (List ℕ)) : Type 0 where
    pub taken : List ℕ
    pub text : List ℕ
    pub took : Consumes coming left taken
    pub wrote : Appends old new text
    pub told : (rest : List ℕ) → told_from d from (lines_in (taken ++ rest)) ≡ after_text text (told_from d to (lines_in rest))

  pub reached-none : (place : Place) (coming old : Option (List ℕ)) → Reached place place coming coming old old
  reached-none place coming old = record { taken = []; text = []; took = Consumes-nil coming; wrote = appends-none old; told = λ rest. refl }

  -- by one line more
  pub reached-line : (from mid to : Place) (coming left behind old new last : Option (List ℕ)) (limit : ℕ) (line : List ℕ) (done : Unit {0}) → Reached from mid coming left old new
      → TakesLine left behind limit line true → AnswersLine d mid to line new last (Ok done) → Reached from to coming behind old last
  reached-line from mid to coming left behind old new last limit line done before takes answers =
      let whole = line ++ 10 ∷ [] in
      record {
        taken = before.taken ++ whole;
        text = before.text ++ answers.0;
        took = Consumes-trans coming left behind before.taken whole before.took (takes.whole refl);
        wrote = appends-twice old new last before.text answers.0 before.wrote answers.1;
        told = λ rest.
            let joined : (before.taken ++ whole) ++ rest ≡ before.taken ++ (line ++ 10 ∷ rest) =
            append_assoc before.taken whole rest ∙ ap (λ (bytes : List ℕ). before.taken ++ bytes) (append_assoc line (10 ∷ []) rest) in
            let later = told_from d to (lines_in rest) in
            ap (λ (bytes : List ℕ). told_from d from (lines_in bytes)) joined
            ∙ before.told (line ++ 10 ∷ rest)
            ∙ ap (λ (lines : List (List ℕ)). after_text before.text (told_from d mid lines)) (lines-more line rest takes.one)
            ∙ ap (after_text before.text) (answers.2 (lines_in rest))
            ∙ ap (λ (text : List ℕ). let reply : Reply = record { text = text; fault = later.fault } in reply) (sym (append_assoc before.text answers.0 later.text));
      }

  -- ---- ends

  pub finishes-behind : (from mid : Place) (coming left old new last : Option (List ℕ)) (r : Result (Unit {0}) Stop) → Reached from mid coming left old new → Finishes d mid left new last r → Finishes d from coming old last r
  finishes-behind from mid coming left old new last r before later = (
    before.taken ++ later.0,
    may-after coming left before.taken later.0 before.took later.1,
    writes-as _ _ old last r (sym (before.told later.0)) (writes-after before.text _ old new last r before.wrote later.2),
  )

  -- where nothing more was written
  pub finishes-here : (place : Place) (coming old : Option (List ℕ)) (stop : Stop) → IsNoFault stop → Finishes d place coming old old (Err stop)
  finishes-here place coming old stop none =
      let some = some-come coming in
      (some.0, some.1, writes-nothing (told_from d place (lines_in some.0)) old stop none)

  -- with a line that couldn't be answered
  pub finishes-line : (place to : Place) (coming left old new : Option (List ℕ)) (limit : ℕ) (line : List ℕ) (stop : Stop) → TakesLine coming left limit line true → AnswersLine d place to line old new (Err stop)
      → Finishes d place coming old new (Err stop)
  finishes-line place to coming left old new limit line stop takes answers =
      let some = some-come left in
      let whole = line ++ 10 ∷ [] in
      let joined : lines_in (whole ++ some.0) ≡ line ∷ lines_in some.0 = ap lines_in (append_assoc line (10 ∷ []) some.0) ∙ lines-more line some.0 takes.one in (
        whole ++ some.0,
        may-after coming left whole some.0 (takes.whole refl) some.1,
        writes-as _ _ old new (Err stop) (sym (ap (told_from d place) joined)) (answers (lines_in some.0)),
      )

  -- with what comes before no line feed
  pub finishes-broken : (place : Place) (coming left old new : Option (List ℕ)) (line : List ℕ) (r : Result (Unit {0}) Stop) → TakesLine coming left longest_source line false
      → Writes (told_from d place (lines_in line)) old new r → Finishes d place coming old new r
  finishes-broken place coming left old new line r takes writes =
      ⊎_elim
      (λ long.
      let some = some-come left in
      let same : told_from d place (lines_in line) ≡ told_from d place (lines_in (line ++ some.0)) =
      ap (λ (bytes : List ℕ). told_from d place (lines_in bytes)) (sym (append-nil line)) ∙ told-long-in place line [] takes.one long ∙ sym (told-long-in place line some.0 takes.one long) in
      (line ++ some.0, may-after coming left line some.0 (takes.broken refl) some.1, writes-as _ _ old new r same writes))
      (λ short. (line, may-end coming left line (takes.broken refl) (takes.end refl short), writes))
      (cases_lt longest_source (length line))

  -- where the session ended without a fault, nothing is left
  pub ended-whole : (place : Place) (coming left old new : Option (List ℕ)) (line : List ℕ) (done : Unit {0}) → TakesLine coming left longest_source line false
      → Writes (told_from d place (lines_in line)) old new (Ok done) → OnSome coming (IsAtEnd left)
  ended-whole place coming left old new line done takes writes =
      ⊎_elim
      (λ long.
      let same = ap (λ (bytes : List ℕ). told_from d place (lines_in bytes)) (sym (append-nil line)) ∙ told-long-in place line [] takes.one long in
      let bad : Some (fault_of_source 40) ≡ None = sym (ap (λ (reply : Reply). reply.fault) same) ∙ writes.0 in
      absurd cc)
      (λ short. takes.end refl short)
      (cases_lt longest_source (length line))

  -- a session whose last line was answered
  pub ended : (place : Place) (first coming left old new : Option (List ℕ)) (taken unread line : List ℕ) (r : Result (Unit {0}) Stop) → Consumes first coming taken
      → TakesLine coming (to_come unread left) longest_source line false → Writes (told_from d place (lines_in line)) old new r → OnOk r (IfSome first (λ _. left ≡ Some []))
  ended place first coming left old new taken unread line (Ok done) took takes writes =
      source-end first coming left taken line unread took (takes.broken refl) (ended-whole place coming (to_come unread left) old new line done takes writes)
  ended place first coming left old new taken unread line (Err stop) took takes writes = tt

  -- where the next line couldn't be read
  pub finishes-err : (from mid : Place) (coming left old new : Option (List ℕ)) (r : Result (Unit {0}) Stop) (stop : Stop) → r ≡ Err stop → Reached from mid coming left old new → IsNoFault stop → Finishes d from coming old new r
  finishes-err from mid coming left old new r stop is before none =
      subst (λ (res : Result (Unit {0}) Stop). Finishes d from coming old new res) (sym is) (finishes-behind from mid coming left old new new (Err stop) before (finishes-here mid left new stop none))

  -- ---- a line that was taken and handed on

  module _ (from mid : Place) (coming left behind old new last : Option (List ℕ)) (line given : List ℕ) (is_whole : Bool) (same : given ≡ line) (before : Reached from mid coming left old new)
      (takes : TakesLine left behind longest_source line is_whole) where
    -- with its line feed
    whole : is_whole ≡ true → TakesLine left behind longest_source given true
    whole is = subst (λ (text : List ℕ). TakesLine left behind longest_source text true) (sym same) (subst (λ (b : Bool). TakesLine left behind longest_source line b) is takes)

    broken : is_whole ≡ false → TakesLine left behind longest_source given false
    broken is = subst (λ (text : List ℕ). TakesLine left behind longest_source text false) (sym same) (subst (λ (b : Bool). TakesLine left behind longest_source line b) is takes)

    -- it was answered
    pub next-line : (to : Place) (done : Unit {0}) → is_whole ≡ true → AnswersLine d mid to given new last (Ok done) → Reached from to coming behind old last
    next-line to done is answers = reached-line from mid to coming left behind old new last longest_source given done before (whole is) answers

    -- the session ended with it
    pub stops-line : (to : Place) (stop : Stop) → is_whole ≡ true → AnswersLine d mid to given new last (Err stop) → Finishes d from coming old last (Err stop)
    stops-line to stop is answers =
        finishes-behind from mid coming left old new last (Err stop) before (finishes-line mid to left behind new last longest_source given stop (whole is) answers)

    -- it was the last one
    pub last-line : (r : Result (Unit {0}) Stop) → is_whole ≡ false → Writes (told_from d mid (lines_in given)) new last r → Finishes d from coming old last r
    last-line r is writes = finishes-behind from mid coming left old new last r before (finishes-broken mid left behind new last given r (broken is) writes)

  -- and nothing is left then
  pub last-whole : (from mid : Place) (coming left rest old new last : Option (List ℕ)) (unread line given : List ℕ) (is_whole : Bool) → given ≡ line → Reached from mid coming left old new
      → TakesLine left (to_come unread rest) longest_source line is_whole → (r : Result (Unit {0}) Stop) → is_whole ≡ false → Writes (told_from d mid (lines_in given)) new last r
      → OnOk r (IfSome coming (λ _. rest ≡ Some []))
  last-whole from mid coming left rest old new last unread line given is_whole same before takes r is writes =
      ended mid coming left rest new last before.taken unread given r before.took
      (subst (λ (text : List ℕ). TakesLine left (to_come unread rest) longest_source text false) (sym same) (subst (λ (b : Bool). TakesLine left (to_come unread rest) longest_source line b) is takes)) writes
