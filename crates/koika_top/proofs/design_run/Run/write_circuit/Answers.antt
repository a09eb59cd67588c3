use Rattle.std.proofs.Common.{ap, refl, sym, subst, ◌∙◌}
use Rattle.std.proofs.lemmas.Result.{err_from_is_err_and}
use Rattle.std.specs.Arc.{arc_value}
use Rattle.circuit_eval.specs.Simulations.{after_step, beginning, row_at}
use Rattle.one_rule.specs.Stimulus.{AlwaysFits, InputVectors, inputs_of}
use Rattle.koika_top.specs.inner.Engines.{rows_of}
use Rattle.koika_top.proofs.MachineRuns.{circuit-rows}
use Rattle.koika_top.proofs.ReadAgain.{wired-again}
use Rattle.front_end.proofs.Told.{told-none}
use Rattle.koika_top.proofs.design_run.Run.write_circuit.Goals as goal

pub begin-engine-requires-clause-first : goal.begin-engine-requires-clause-first
begin-engine-requires-clause-first g c = rw c.in_ok-sim.ensures refl

pub begin-engine-requires-clause-widths : goal.begin-engine-requires-clause-widths
begin-engine-requires-clause-widths g c =
    let it = c.args.self.now.lowered in
    let wired = wired-again it.checked c.in_ok-lines.lines c.in_ok-lines.ensures.circuit c.in_ok-circuit.circuit c.in_ok-circuit.ensures.lines c.in_ok-circuit.ensures.run in
    rw c.in_ok-sim.ensures (ap (λ (s : InputVectors). s.widths) c.deref-stimulus.ensures ∙ it.stimulus_fits ∙ sym wired.input_widths)

pub write_by-requires-clause-run : goal.write_by-requires-clause-run
write_by-requires-clause-run g c n =
    let it = c.args.self.now.lowered in
    let wired = wired-again it.checked c.in_ok-lines.lines c.in_ok-lines.ensures.circuit c.in_ok-circuit.circuit c.in_ok-circuit.ensures.lines c.in_ok-circuit.ensures.run in
    let engine = c.begin-engine.ensures in
    let first = engine.machine ∙ c.in_ok-sim.ensures in
    let stimulus = engine.stimulus ∙ c.deref-stimulus.ensures in
    (λ i. rows_of after_step row_at (inputs_of (stimulus i)) (beginning (first i).circuit) n)
    ∙ circuit-rows c.in_ok-circuit.circuit (beginning c.in_ok-circuit.circuit) (inputs_of (arc_value it.stimulus)) n refl
    ∙ wired.run (arc_value it.stimulus) n (record { widths = it.stimulus_fits; fits = subst AlwaysFits c.deref-stimulus.ensures c.recall.ensures })

pub returns-in_err-lines : goal.returns-in_err-lines
returns-in_err-lines g c =
    let p = err_from_is_err_and c.from_residual.result c.from_residual.ensures.1 in
    rw (p.1, p.2) (told-none _ _ _)

pub returns-in_err-circuit : goal.returns-in_err-circuit
returns-in_err-circuit g c =
    let p = err_from_is_err_and c.from_residual-in_err-circuit.result c.from_residual-in_err-circuit.ensures.1 in
    rw (p.1, p.2) (told-none _ _ _)

pub returns-in_err-sim : goal.returns-in_err-sim
returns-in_err-sim g c =
    let p = err_from_is_err_and c.from_residual-in_err-sim.result c.from_residual-in_err-sim.ensures.1 in
    rw (p.1, p.2) (told-none _ _ _)
