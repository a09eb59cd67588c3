use Rattle.std.proofs.Common.{◌≡◌, ℕ, List, [], Some, subst, sym, ap, ◌∙◌}
use Rattle.std.specs.Prelude.{slice_get, slice_index_or}
use Rattle.std.proofs.lemmas.Option.{slice_get-get_or}
use Rattle.kw_bits.specs.BitVector.{BitVector}
use Rattle.typed_core.specs.Evaluation.{Progress, evaluate}
use Rattle.typed_core.specs.Widths.{HaveWidths, register_widths}
use Rattle.typed_core.specs.declared.access.Event.{Event}
use Rattle.typed_core.specs.declared.design.Parts.{Parts}
use Rattle.typed_core.specs.declared.design.Rule.{Rule}
use Rattle.typed_core.specs.declared.outcome.Stopped.{Stopped}
use Rattle.one_rule.specs.Externs.{kept}
use Rattle.one_rule.proofs.Fitting.{HaveWidths-own, widths-same}
use Rattle.rule_log.specs.StandsFor.{RegisterLog, StandsFor}
use Rattle.action_interp.specs.inner.ByLog.{IsRunning, ports_by, widths_of}
use Rattle.action_interp.specs.Runs.{end_of}
use Rattle.action_interp.proofs.ByLog.{PortsFit-by}
use Rattle.action_interp.proofs.Runs.{ended, run_follows, runs_alike}
use Rattle.action_interp.proofs.run.run_logged.Goals as goal

pub evaluate-value-requires-clause-registers : goal.evaluate-value-requires-clause-registers
evaluate-value-requires-clause-registers c = widths-same (register_widths c.args.env.now.design.now) c.args.regs.now c.requires.registers

-- a log of registers of the design is one of registers of their own widths
own : (widths : List ℕ) (regs : List BitVector) (log : RegisterLog) (events : List Event) → widths_of regs ≡ widths → StandsFor widths log events → StandsFor (widths_of regs) log events
own widths regs log events same stands = subst (λ (ws : List ℕ). StandsFor ws log events) (sym same) stands

pub evaluate-value-requires-clause-reading : goal.evaluate-value-requires-clause-reading
evaluate-value-requires-clause-reading c =
    let regs = c.args.regs.now in
    let same = widths-same (register_widths c.args.env.now.design.now) regs c.requires.registers in
    PortsFit-by (widths_of regs) c.args.sched.now c.requires.sched.0 regs
    (own (register_widths c.args.env.now.design.now) regs c.args.sched.now c.requires.sched.0 same c.requires.sched.1)
    (HaveWidths-own (register_widths c.args.env.now.design.now) regs c.requires.registers)

-- a rule that begins
begins : (widths : List ℕ) (regs : List BitVector) (sched log : RegisterLog) (before : List Event) → HaveWidths widths regs → StandsFor widths sched before → StandsFor widths log [] → IsRunning regs sched log []
begins widths regs sched log before fits behind empty =
    let same = widths-same widths regs fits in
    record {
      fits = HaveWidths-own widths regs fits;
      behind = (before, own widths regs sched before same behind);
      noted = own widths regs log [] same empty;
    }

pub evaluate-value-requires-clause-events : goal.evaluate-value-requires-clause-events
evaluate-value-requires-clause-events c =
    ([], begins (register_widths c.args.env.now.design.now) c.args.regs.now c.args.sched.now c.args.log.value c.requires.sched.0 c.requires.registers c.requires.sched.1 c.requires.log, tt)

pub returns-clause-run : goal.returns-clause-run
returns-clause-run c events stands =
    let design = c.args.env.now.design.now in
    let regs = c.args.regs.now in
    let rule : Rule = c.get.result.now in
    let ports = c.evaluate-value.new.ports in
    let found : slice_get design.rules c.args.rule ≡ Some rule =
    slice_get-get_or design.rules c.args.rule rule c.requires.rule
    ∙ ap Some (sym (c.get.ensures ∙ ap (λ (d : Parts). slice_index_or d.rules c.args.rule rule) c.design.view_is)) in
    let same = widths-same (register_widths design) regs c.requires.registers in
    let running : IsRunning regs c.args.sched.now c.args.log.value [] = begins (register_widths design) regs c.args.sched.now c.args.log.value c.requires.sched.0 c.requires.registers c.requires.sched.1 c.requires.log in
    let end : Progress BitVector Stopped = evaluate (record { externs = kept c.args.env.now.externs.now; inputs = c.args.env.now.inputs.now }) (ports_by c.args.sched.now regs) rule.body c.empty.result [] in
    let is = runs_alike design c.args.env.now.inputs.now regs c.args.rule rule found events (register_widths design) c.args.sched.now stands (kept c.args.env.now.externs.now) c.requires.externs c.empty.result c.empty.ensures in
    let ran = ended (λ (es : List Event). IsRunning ports.regs.now ports.sched.now ports.log.value es) c.evaluate-value.result end c.in_ok-end.end (c.evaluate-value.ensures.answers [] running) c.in_ok-end.ensures in
    let log : StandsFor (register_widths design) ports.log.value end.events = subst (λ (ws : List ℕ). StandsFor ws ports.log.value end.events) (c.evaluate-value.ensures.widths ∙ same) ran.1.noted in
    subst (λ (p : Progress BitVector Stopped). (c.in_ok-end.end ≡ end_of p.ending) × StandsFor (register_widths design) ports.log.value p.events) is (ran.0, log)

pub returns-clause-follows : goal.returns-clause-follows
returns-clause-follows c events stands =
    let design = c.args.env.now.design.now in
    let rule : Rule = c.get.result.now in
    let found : slice_get design.rules c.args.rule ≡ Some rule =
    slice_get-get_or design.rules c.args.rule rule c.requires.rule
    ∙ ap Some (sym (c.get.ensures ∙ ap (λ (d : Parts). slice_index_or d.rules c.args.rule rule) c.design.view_is)) in
    run_follows design c.args.env.now.inputs.now c.args.regs.now c.args.rule rule found events
