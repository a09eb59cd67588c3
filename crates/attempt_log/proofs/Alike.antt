-- Designs that are equal by value have the same traces, and so the same attempts.
use Rattle.std.proofs.Common.{◌≡◌, ℕ, zero, suc, ◌<◌, List, [], ◌∷◌, sym, refl, ap, ap₂, ◌∙◌, subst}
use Rattle.std.specs.Prelude.{map, slice_get}
use Rattle.kw_bits.specs.BitVector.{BitVector}
use Rattle.typed_core.specs.Alone.{outcome_of}
use Rattle.typed_core.specs.Evaluation.{Environment, Progress}
use Rattle.typed_core.specs.Fits.{EventsFit}
use Rattle.typed_core.specs.Same.{SameDesign, SameRules}
use Rattle.typed_core.specs.Widths.{HaveWidths, input_widths, register_widths}
use Rattle.typed_core.specs.declared.access.Event.{Event}
use Rattle.typed_core.specs.declared.design.InputDecl.{InputDecl}
use Rattle.typed_core.specs.declared.design.Parts.{Parts}
use Rattle.typed_core.specs.declared.design.RegDecl.{RegDecl}
use Rattle.typed_core.specs.declared.design.Rule.{Rule}
use Rattle.typed_core.specs.declared.outcome.Alone.{Alone}
use Rattle.typed_core.specs.declared.outcome.Stopped.{Stopped}
use Rattle.typed_core.proofs.Equal.{SameDesign-refl}
use Rattle.typed_core.proofs.Meaning.{evaluate-same}
use Rattle.one_rule.specs.Cycle.{environment}
use Rattle.one_rule.proofs.Alike.{length-same}
use Rattle.attempt_log.specs.Attempt.{Attempted, IsAttempt}
use Rattle.attempt_log.specs.Laws.{EqualDesignsTraceAlike}
use Rattle.attempt_log.specs.Setting.{at_design}
use Rattle.attempt_log.specs.Trace.{ReadsFit, retrace, trace_ports}

retrace-same : (env : Environment) (widths : List ℕ) (trace : List Event) (xs ys : List Rule) (rule : ℕ) → SameRules xs ys → retrace env widths trace (slice_get xs rule) ≡ retrace env widths trace (slice_get ys rule)
retrace-same env widths trace [] [] rule h = refl
retrace-same env widths trace [] (y ∷ ys) rule h = absurd h
retrace-same env widths trace (x ∷ xs) [] rule h = absurd h
retrace-same env widths trace (x ∷ xs) (y ∷ ys) zero h =
    ap (λ (meaning : List BitVector → List Event → Progress BitVector Stopped). let end = meaning [] [] in let run : Alone = record { events = end.events; outcome = outcome_of end.ending } in run) (evaluate-same env (trace_ports widths trace) x.body y.body h.0.1)
retrace-same env widths trace (x ∷ xs) (y ∷ ys) (suc rule) h = retrace-same env widths trace xs ys rule h.1

pub register_widths-same : (d e : Parts) → SameDesign d e → register_widths d ≡ register_widths e
register_widths-same d e h = ap (λ (regs : List RegDecl). map (λ (decl : RegDecl). decl.width) regs) h.regs

input_widths-same : (d e : Parts) → SameDesign d e → input_widths d ≡ input_widths e
input_widths-same d e h = ap (λ (inputs : List InputDecl). map (λ (decl : InputDecl). decl.width) inputs) h.inputs

environment-same : (d e : Parts) (inputs : List BitVector) → SameDesign d e → environment d inputs ≡ environment e inputs
environment-same d e inputs h =
    ap₂ (λ tables hosts. let env : Environment = record { externs = record { tables = tables; hosts = hosts }; inputs = inputs } in env) h.tables h.hosts

pub equal_designs_trace_alike : EqualDesignsTraceAlike
equal_designs_trace_alike d e rule inputs run h t =
    record {
      gives =
          ap₂ (λ (env : Environment) (widths : List ℕ). retrace env widths run.events (slice_get e.rules rule)) (sym (environment-same d e inputs h)) (sym (register_widths-same d e h))
          ∙ sym (retrace-same (environment d inputs) (register_widths d) run.events d.rules e.rules rule h.rules)
          ∙ t.gives;
      reads = subst (λ (widths : List ℕ). ReadsFit widths run.events) (register_widths-same d e h) t.reads;
    }

-- the attempt is one at the other design too
pub attempt_at : (a : Attempted) (design : Parts) → SameDesign a.design design → IsAttempt a → IsAttempt (at_design design a)
attempt_at a design h is =
    record {
      rule = subst (λ (n : ℕ). a.rule < n) (length-same a.design.rules design.rules h.rules) is.rule;
      inputs = subst (λ (widths : List ℕ). HaveWidths widths a.inputs) (input_widths-same a.design design h) is.inputs;
      trace = equal_designs_trace_alike a.design design a.rule a.inputs a.run h is.trace;
      events = subst (λ (widths : List ℕ). EventsFit widths a.run.events) (register_widths-same a.design design h) is.events;
    }

-- a design equals itself by value
pub same_by_equal : (d e : Parts) → d ≡ e → SameDesign d e
same_by_equal d e same = subst (SameDesign d) same (SameDesign-refl d)
