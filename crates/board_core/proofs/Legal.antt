-- Legal histories are those whose attempts are traces, with the board's answers: that inputs and events fit follows.
use Rattle.std.proofs.Common.{◌≡◌, ℕ, ◌<◌, List, [], ◌∷◌, length, sym, subst}
use Rattle.std.specs.List.{AllByRecursion}
use Rattle.kw_bits.specs.BitVector.{BitVector}
use Rattle.typed_core.specs.Same.{SameDesign}
use Rattle.typed_core.specs.Widths.{HaveWidths, input_widths}
use Rattle.typed_core.specs.declared.outcome.Alone.{Alone}
use Rattle.typed_core.proofs.Equal.{SameDesign-refl, SameDesign-sym}
use Rattle.one_rule.specs.Stimulus.{inputs_of}
use Rattle.one_rule.proofs.Alike.{length-same}
use Rattle.attempt_log.specs.Attempt.{Attempted, IsAttempt}
use Rattle.attempt_log.specs.Setting.{IsFor, at_design}
use Rattle.attempt_log.specs.Trace.{IsTrace}
use Rattle.attempt_log.specs.declared.entry.Entry.{Entry}
use Rattle.attempt_log.specs.declared.entry.Entry.TheVariants as entry
use Rattle.attempt_log.proofs.Alike.{attempt_at, equal_designs_trace_alike}
use Rattle.attempt_log.proofs.Commits.{traces_fit}
use Rattle.board_core.specs.Board.{Opening, setting_of}
use Rattle.board_core.specs.History.{SubmitsFor, event_of, events_of}
use Rattle.board_core.specs.Laws.{IsTraced, LegalByTraces, TracesSubmit}
use Rattle.board_core.specs.Position.{IsOpening}

module _ (o : Opening) (opening : IsOpening o) where
  -- the stimulus's inputs fit
  inputs_fit : (inputs : List BitVector) (cycle : ℕ) → inputs ≡ inputs_of o.stimulus cycle → HaveWidths (input_widths o.design) inputs
  inputs_fit inputs cycle is =
      subst (HaveWidths (input_widths o.design)) (sym is) (subst (λ (widths : List ℕ). HaveWidths widths (inputs_of o.stimulus cycle)) opening.stimulus (opening.always cycle))

  -- a trace at the board's own design
  at_home : (a : Attempted) → SameDesign a.design o.design → a.inputs ≡ inputs_of o.stimulus a.cycle → a.rule < length a.design.rules → IsTrace a.design a.rule a.inputs a.run → IsAttempt (at_design o.design a)
  at_home a same is within trace =
      let fit = inputs_fit a.inputs a.cycle is in
      let here : IsTrace o.design a.rule a.inputs a.run = equal_designs_trace_alike a.design o.design a.rule a.inputs a.run same trace in
      record {
        rule = subst (λ (n : ℕ). a.rule < n) (length-same a.design.rules o.design.rules same.rules) within;
        inputs = fit;
        trace = here;
        events = traces_fit o.design a.rule a.inputs a.run opening.design fit here;
      }

  submits : (a : Attempted) → IsFor (setting_of o) a → a.rule < length a.design.rules → IsTrace a.design a.rule a.inputs a.run → IsAttempt a
  submits a is within trace =
      let back = attempt_at (at_design o.design a) a.design (SameDesign-sym a.design o.design is.design) (at_home a is.design is.inputs within trace) in
      record { rule = within; inputs = back.inputs; trace = trace; events = back.events }

  -- ---- histories

  legal_from : (e : Entry) → IsTraced o e → SubmitsFor o (event_of o.design e)
  legal_from (entry.Submit worker cycle rule inputs events outcome answer) traced =
      let run : Alone = record { events = events; outcome = outcome } in
      let a : Attempted = record { design = o.design; cycle = cycle; rule = rule; inputs = inputs; run = run } in
      let is : IsFor (setting_of o) a = record { design = SameDesign-refl o.design; inputs = traced.1 } in
      record { attempt = submits a is traced.0 traced.2; is_for = is }
  legal_from (entry.Settle worker answer) traced = tt

  traced_from : (e : Entry) → SubmitsFor o (event_of o.design e) → IsTraced o e
  traced_from (entry.Submit worker cycle rule inputs events outcome answer) is = (is.attempt.rule, is.is_for.inputs, is.attempt.trace)
  traced_from (entry.Settle worker answer) is = tt

  legal_all : (entries : List Entry) → AllByRecursion (IsTraced o) entries → AllByRecursion (SubmitsFor o) (events_of o entries)
  legal_all [] all = tt
  legal_all (e ∷ entries) all = (legal_from e all.0, legal_all entries all.1)

  traced_all : (entries : List Entry) → AllByRecursion (SubmitsFor o) (events_of o entries) → AllByRecursion (IsTraced o) entries
  traced_all [] all = tt
  traced_all (e ∷ entries) all = (traced_from e all.0, traced_all entries all.1)

pub traces_submit : TracesSubmit
traces_submit o a opening is within trace = record { attempt = submits o opening a is within trace; is_for = is }

pub legal_by_traces : LegalByTraces
legal_by_traces o entries opening = (
  (λ legal. (traced_all o opening entries legal.attempts, legal.answers)),
  (λ both. record { attempts = legal_all o opening entries both.0; answers = both.1 }),
)
