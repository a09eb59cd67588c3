use Rattle.std.proofs.Common.{ap, ◌∙◌}
use Rattle.typed_core.specs.declared.outcome.Alone.{Alone}
use Rattle.one_rule.specs.Cycle.{fires}
use Rattle.attempt_log.proofs.Commits.{alone_gives_traces, commits_fire, skips_do_not_fire}
use Rattle.attempt_log.proofs.laws.an_attempt_may_be_made_on_any_registers.Goals as goal

pub returns : goal.returns
returns c design rule inputs made_on regs fired valid given fit =
    let trace = alone_gives_traces design rule inputs made_on valid given fit in (
      (λ commit. let told = commits_fire design rule inputs regs fired _ trace commit in (told.0, ap (λ (run : Alone). fires fired run) told.0 ∙ told.1)),
      (λ cause skip. skips_do_not_fire design rule inputs regs fired _ cause trace skip),
    )
