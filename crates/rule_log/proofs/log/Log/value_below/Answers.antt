use Rattle.std.proofs.Common.{true, sym, ◌∙◌}
use Rattle.rule_log.proofs.Logs.{below_none, below_top}
use Rattle.rule_log.proofs.log.Log.value_below.Goals as goal

pub returns-in-Some : goal.returns-in-Some
returns-in-Some c =
    let top = c.in-Some.top in
    c.value_at.ensures
    ∙ sym (below_top c.args.self.now top c.args.port c.args.register c.args.start.now c.in-Some.ensures.below.0
    (sym (c.flags_of.ensures true top) ∙ c.in-Some.ensures.below.1)
    (λ at above below. sym (c.flags_of.ensures true at) ∙ c.in-Some.ensures.highest at above below))

pub returns-in-None : goal.returns-in-None
returns-in-None c =
    sym (below_none c.args.self.now c.args.port c.args.register c.args.start.now
    (λ at below. sym (c.flags_of.ensures true at) ∙ c.in-None.ensures.below at below))
