use Rattle.std.proofs.Common.{ap, sym, subst, ◌∙◌}
use Rattle.std.specs.Prelude.{All, Contains}
use Rattle.koika_lower.specs.Lowering.{IsLowered}
use Rattle.one_rule.specs.Externs.{kept}
use Rattle.one_rule.specs.Hosts.{host_specs}
use Rattle.one_rule.specs.Stimulus.{InputVectors}
use Rattle.typed_core.specs.Valid.{externs_of}
use Rattle.front_end.proofs.LoweredRuns.{all-of-map}
use Rattle.front_end.proofs.lowered.Lowered.new.Goals as goal

pub new-requires : goal.new-requires
new-requires g c =
    subst (All (Contains (host_specs c.args.hosts.now))) (sym c.in_ok-lowered.ensures.hosts) (all-of-map (host_specs c.args.hosts.now) c.args.spelled.design.hosts c.requires.offered)

pub invariant_of-result-clause-lowered : goal.invariant_of-result-clause-lowered
invariant_of-result-clause-lowered g c = subst (IsLowered c.args.spelled.design) (sym c.in_ok-design.ensures.ok) c.in_ok-lowered.ensures

pub invariant_of-result-clause-externs_fit : goal.invariant_of-result-clause-externs_fit
invariant_of-result-clause-externs_fit g c = ap kept c.in_ok-externs.ensures.ok ∙ c.in_ok-asked.ensures ∙ sym (ap externs_of c.in_ok-design.ensures.ok)

pub invariant_of-result-clause-stimulus_fits : goal.invariant_of-result-clause-stimulus_fits
invariant_of-result-clause-stimulus_fits g c = ap (λ (s : InputVectors). s.widths) c.in_ok-stimulus.ensures.ok ∙ c.args.spelled.stimulus_fits
