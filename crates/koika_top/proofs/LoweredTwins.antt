-- Designs of the core that one design is lowered to are twins: their rules have the same traces.
use Rattle.std.proofs.Common.{◌≡◌, ◌<◌, ℕ, List, length, Option, Some, None, refl, sym, ap, subst, ◌∙◌}
use Rattle.std.specs.Prelude.{All, slice_get}
use Rattle.std.proofs.lemmas.Option.{slice_get_within}
use Rattle.kw_bits.specs.BitVector.{BitVector}
use Rattle.typed_core.specs.Valid.{IsWidth}
use Rattle.typed_core.specs.Widths.{HaveWidths}
use Rattle.typed_core.specs.declared.design.Parts.{Parts}
use Rattle.typed_core.specs.declared.design.Rule.{Rule}
use Rattle.typed_core.specs.declared.outcome.Alone.{Alone}
use Rattle.one_rule.specs.Cycle.{environment}
use Rattle.one_rule.specs.Stimulus.{InputVectors, inputs_of}
use Rattle.attempt_log.specs.Trace.{IsTrace, ReadsFit, retrace, trace_ports}
use Rattle.attempt_log.proofs.Traces.{PortsFit-trace}
use Rattle.journal_check.specs.Twins.{AreTwins}
use Rattle.koika_check.specs.declared.checked.Checked.{Checked}
use Rattle.koika_lower.specs.Lowering.{IsLowered, typed_input_widths, register_widths}
use Rattle.koika_lower.proofs.TwoLowerings.{lowerings_do_alike}
use Rattle.front_end.proofs.LoweredRuns.{not_past, registers-wide, rules-count}

module _ (d : Checked) (wide : All IsWidth (register_widths d)) (inputs : List BitVector) (fit : HaveWidths (typed_input_widths d) inputs) (rule : ℕ) (a b : Parts) (left : IsLowered d a) (right : IsLowered d b) where
  -- as many rules
  rules-same : length a.rules ≡ length b.rules
  rules-same = rules-count d a left ∙ sym (rules-count d b right)

  module _ (run : Alone) (reads : ReadsFit (register_widths d) run.events) where
    found-same : (o p : Option Rule) → slice_get a.rules rule ≡ o → slice_get b.rules rule ≡ p
        → retrace (environment a inputs) (register_widths d) run.events o ≡ retrace (environment b inputs) (register_widths d) run.events p
    found-same (Some x) (Some y) at also =
        (lowerings_do_alike d a b left right).rules rule x y at also inputs (trace_ports (register_widths d) run.events) fit (PortsFit-trace (register_widths d) run.events wide reads)
    found-same None None at also = refl
    found-same (Some x) None at also = absurd (not_past b.rules rule also (subst (λ n. rule < n) rules-same (slice_get_within a.rules rule x at)))
    found-same None (Some y) at also = absurd (not_past a.rules rule at (subst (λ n. rule < n) (sym rules-same) (slice_get_within b.rules rule y also)))

  trace-across : (run : Alone) → IsTrace a rule inputs run → IsTrace b rule inputs run
  trace-across run h =
      let reads = subst (λ (widths : List ℕ). ReadsFit widths run.events) (registers-wide d a left) h.reads in
      record {
        gives =
            ap (λ (widths : List ℕ). retrace (environment b inputs) widths run.events (slice_get b.rules rule)) (registers-wide d b right)
            ∙ sym (found-same run reads (slice_get a.rules rule) (slice_get b.rules rule) refl refl)
            ∙ ap (λ (widths : List ℕ). retrace (environment a inputs) widths run.events (slice_get a.rules rule)) (sym (registers-wide d a left))
            ∙ h.gives;
        reads = subst (λ (widths : List ℕ). ReadsFit widths run.events) (sym (registers-wide d b right)) reads;
      }

-- on a stimulus that always fits
pub lowered-twins : (d : Checked) (stimulus : InputVectors) (a b : Parts) → All IsWidth (register_widths d) → ((cycle : ℕ) → HaveWidths (typed_input_widths d) (inputs_of stimulus cycle)) → IsLowered d a → IsLowered d b → AreTwins stimulus a b
lowered-twins d stimulus a b wide fit left right =
    let alike = lowerings_do_alike d a b left right in
    record {
      regs = alike.registers;
      inputs = alike.inputs;
      tables = alike.tables;
      hosts = alike.hosts;
      names = alike.names;
      nodes = alike.nodes;
      traces = λ rule cycle run. (
        trace-across d wide (inputs_of stimulus cycle) (fit cycle) rule a b left right run,
        trace-across d wide (inputs_of stimulus cycle) (fit cycle) rule b a right left run,
      );
    }
