use Rattle.std.proofs.Common.{◌≡◌, ℕ, ◌+◌, List, [], ◌∷◌, Result, Ok, Err, sym, ap, subst, ◌∙◌, arith}
use Rattle.std.specs.Prelude.{OnOk, slice_index_or}
use Rattle.std.specs.Arc.{arc_value}
use Rattle.std.proofs.lemmas.Result.{IfOk-weaker}
use Rattle.kw_bits.specs.BitVector.{BitVector}
use Rattle.koika_assert.specs.Violations.{Watched}
use Rattle.typed_core.specs.Widths.{HaveWidths, register_widths}
use Rattle.one_rule.specs.Run.{opening}
use Rattle.one_rule.specs.Stimulus.{inputs_of}
use Rattle.one_rule.specs.declared.rows.Row.{Row}
use Rattle.stim_report.specs.Report.{line_of}
use Rattle.stim_report.specs.declared.shape.Shape.{Shape}
use Rattle.front_end.specs.Systems.{system_of}
use Rattle.stream_run.specs.inner.Telling.{next_row, place_of}
use Rattle.stream_run.proofs.Places.{cycles-more}
use Rattle.stream_run.proofs.line_run.LineRun.take_cycle.Goals as goal

on_ok : {X E : Type 0} (r : Result X E) (P : Type 0) → P → OnOk r P
on_ok (Ok x) P p = p
on_ok (Err e) P p = tt

pub invariant_of-self : goal.invariant_of-self
invariant_of-self c = record {
  cycles = ap (λ (w : Watched). w.cycles) c.add.ensures.fields ∙ cycles-more c.args.self.now.watch c.in_ok-rows.rows _ _ c.in_ok-rows.ensures.rows ∙ ap (λ (n : ℕ). n + 1) c.args.self.now.cycles;
  few = omega (arith, c.requires.few);
}

pub invariant_of-self-2 : goal.invariant_of-self-2
invariant_of-self-2 c = record {
  cycles = ap (λ (w : Watched). w.cycles) c.add.ensures.fields ∙ cycles-more c.args.self.now.watch c.in_ok-rows.rows _ _ c.in_ok-rows.ensures.rows ∙ ap (λ (n : ℕ). n + 1) c.args.self.now.cycles;
  few = omega (arith, c.requires.few);
}

pub returns-clause-text : goal.returns-clause-text
returns-clause-text c =
    let it = c.args.lowered.now in
    let place = place_of c.args.self.now in
    let next = next_row it.checked place (inputs_of c.args.stimulus.now 1) in
    IfOk-weaker c.row_line.result (λ (text : List ℕ). (first next : Row) → c.in_ok-rows.rows ≡ first ∷ next ∷ [] → text ≡ line_of it.shape (c.args.self.now.cycle + 1) next) _
    (λ text told. told (opening (system_of it.checked).rules c.args.self.now.regs) next c.in_ok-rows.ensures.rows ∙ ap (λ (shape : Shape). line_of shape (c.args.self.now.cycle + 1) next) it.shape_fits)
    c.row_line.ensures

pub returns-clause-fits : goal.returns-clause-fits
returns-clause-fits c =
    let it = c.args.lowered.now in
    let next = next_row it.checked (place_of c.args.self.now) (inputs_of c.args.stimulus.now 1) in
    let first = opening (system_of it.checked).rules c.args.self.now.regs in
    let row : c.get.result.now ≡ next = c.get.ensures ∙ ap (λ (rows : List Row). slice_index_or rows 1 c.get.result.now) c.in_ok-rows.ensures.rows in
    let regs = c.in_ok-self.ensures ∙ c.as_slice.ensures ∙ ap (λ (r : Row). r.regs) row in
    on_ok c.row_line.result _
    (subst (λ (values : List BitVector). HaveWidths (register_widths (arc_value it.design)) values) (sym regs) (c.in_ok-rows.ensures.registers first next c.in_ok-rows.ensures.rows))
