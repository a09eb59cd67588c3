use Rattle.std.proofs.Common.{◌≡◌, Bool, not, sym, ap, ap₂, ◌∙◌}
use Rattle.std.specs.Prelude.{◌||◌}
use Rattle.rule_log.proofs.Logs.{write_refused}
use Rattle.rule_log.proofs.log.may_write.Goals as goal
use Rattle.rule_log.proofs.log.may_write.Goals.{then-is_written, else-is_written}

pub returns : goal.returns
returns c widths rule_events sched_events r s =
    let writes : Bool = c.has_write_from-is_written.result in
    let reads : Bool = c.has_read_above-is_read.result in
    let either : c.if-is_written.result ≡ (writes || reads) =
    elim c.if-is_written.branch [
      | then-is_written w ↦ w.result-is ∙ w.if-is_written.true ∙ sym (ap (λ (b : Bool). b || reads) w.if-is_written.true)
      | else-is_written w ↦ w.result-is ∙ sym (ap (λ (b : Bool). b || reads) w.if-is_written.false)
    ] in
    ap (λ (b : Bool). not b) (either ∙ write_refused widths c.args.sched.now c.args.rule.now sched_events rule_events s r c.args.port c.args.register c.requires.sched
    c.and_also-flags.result (λ write at. c.and_also-flags.ensures.flags write at ∙ ap₂ (λ (a b : Bool). a || b) (c.flags_of.ensures write at) (c.flags_of-2.ensures write at))
    writes reads c.has_write_from-is_written.ensures c.has_read_above-is_read.ensures)
