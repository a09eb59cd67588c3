use Rattle.std.proofs.Common.{Bool, not, ap, arith}
use Rattle.rule_log.specs.Flags.{has}
use Rattle.rule_log.specs.StandsFor.{is_set, written}
use Rattle.rule_log.proofs.Telling.{read_refused}
use Rattle.rule_log.proofs.log.may_read.Goals as goal

pub returns : goal.returns
returns c widths events s =
    let sched = c.args.sched.now in
    ap (λ (b : Bool). not b) (read_refused widths (is_set sched) (written sched) events s.tells c.args.port c.args.register (omega (arith, s.count, c.requires.register))
    (has c.flags_of.result) c.flags_of.ensures c.has_write_from.result c.has_write_from.ensures)
