use Rattle.std.proofs.Common.{◌≡◌, ◌+◌, ◌-◌, ap, ◌∙◌, arith}
use Rattle.std.proofs.lemmas.Result.{err_from_is_err_and}
use Rattle.std.specs.Arc.{arc_value}
use Rattle.one_rule.specs.Stimulus.{inputs_of}
use Rattle.front_end.proofs.Told.{told-as, told-empty, told-none}
use Rattle.lab_top.specs.Runs.{text_in, why_text}
use Rattle.lab_top.specs.inner.Registers.{registers_after}
use Rattle.lab_top.proofs.ByNumber.{next-cut, next-told}
use Rattle.lab_top.proofs.why.WhyRun.write.Goals as goal

pub returns-in_err-regs : goal.returns-in_err-regs
returns-in_err-regs g c =
    let p = err_from_is_err_and c.from_residual.result c.from_residual.ensures.1 in
    rw (p.1, p.2) (told-none _ _ _)

pub loop-cycle-init : goal.loop-cycle-init
loop-cycle-init g c =
    let it = c.args.self.now.lowered in
    let none : 0 ≡ c.args.self.now.cycle - c.args.self.now.cycle = omega arith in
    record {
      low = omega arith;
      left = c.in_ok-regs.ensures;
      told = told-as _ _ _ _ (ap (why_text it.checked c.args.self.now.only (inputs_of (arc_value it.stimulus)) c.args.self.now.cycle) none) (told-empty _ _ tt);
    }

pub loop-cycle-preserved : goal.loop-cycle-preserved
loop-cycle-preserved g c =
    let it = c.args.self.now.lowered in
    let before = c.loop-cycle.invariant in
    let back : c.loop-cycle.cycle ≡ c.loop-cycle.cycle + 1 - 1 = omega arith in
    record {
      low = omega (arith, before.low);
      left = c.in_ok-write_cycle.ensures.registers ∙ ap (registers_after (arc_value it.design) (inputs_of (arc_value it.stimulus))) back;
      told = next-told (text_in it.checked c.args.self.now.only (inputs_of (arc_value it.stimulus))) c.args.self.now.cycle c.loop-cycle.cycle before.low _ _ _ _ _ _ _ _ before.told c.in_ok-write_cycle.ensures.told;
    }

pub returns-in_err-write_cycle : goal.returns-in_err-write_cycle
returns-in_err-write_cycle g c =
    let it = c.args.self.now.lowered in
    let before = c.loop-cycle.invariant in
    let p = err_from_is_err_and c.from_residual-in_err-write_cycle.result c.from_residual-in_err-write_cycle.ensures.1 in
    rw (p.1, p.2)
    (next-cut (text_in it.checked c.args.self.now.only (inputs_of (arc_value it.stimulus))) c.args.self.now.cycle c.loop-cycle.cycle c.args.self.now.cycles before.low (omega arith) _ _ _ _ _ _ _ _ before.told c.in_err-write_cycle.ensures.told)

pub returns : goal.returns
returns g c =
    let it = c.args.self.now.lowered in
    let all : c.loop-cycle.cycle - c.args.self.now.cycle ≡ c.args.self.now.cycles = omega arith in
    told-as _ _ _ _ (ap (why_text it.checked c.args.self.now.only (inputs_of (arc_value it.stimulus)) c.args.self.now.cycle) all) c.loop-cycle.invariant.told
