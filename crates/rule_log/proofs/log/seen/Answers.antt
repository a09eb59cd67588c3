use Rattle.std.proofs.Common.{ap, ◌∙◌, arith}
use Rattle.kw_bits.specs.BitVector.{BitVector}
use Rattle.typed_core.specs.Alone.{seen}
use Rattle.rule_log.proofs.Logs.{below_is_seen}
use Rattle.rule_log.proofs.log.seen.Goals as goal

pub returns : goal.returns
returns c widths rule_events sched_events r s =
    let port = c.args.port in
    let register = c.args.register in
    c.value_below-2.ensures
    ∙ below_is_seen widths c.args.rule.now rule_events r port register c.value_below.result.now (omega (arith, c.requires.port)) (omega (arith, c.requires.rule, r.count))
    ∙ ap (λ (v : BitVector). seen port register rule_events v) (c.value_below.ensures ∙ below_is_seen widths c.args.sched.now sched_events s port register c.args.start (omega (arith, c.requires.port)) (omega (arith, c.requires.sched, s.count)))
