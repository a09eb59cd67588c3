use Rattle.std.proofs.Common.{◌≡◌, ap, ◌∙◌}
use Rattle.std.specs.Arc.{arc_value}
use Rattle.one_rule.specs.Stimulus.{InputVectors, inputs_of}
use Rattle.lab_core.specs.Numbers.{fails_strictly}
use Rattle.lab_core.specs.Profiles.{profile_text}
use Rattle.lab_top.specs.Runs.{numbers_in}
use Rattle.lab_top.proofs.LabRuns.{profile-same}
use Rattle.lab_top.proofs.profile.count_source.Goals as goal

pub returns-clause-counts : goal.returns-clause-counts
returns-clause-counts g c =
    let it = c.in_ok-lowered.lowered in
    let d = it.checked in
    let stimulus = arc_value it.stimulus in
    let numbers : c.in_ok-profile.profile ≡ numbers_in d (inputs_of stimulus) c.args.cycles =
    c.in_ok-profile.ensures ∙ ap (λ (s : InputVectors). numbers_in d (inputs_of s) c.args.cycles) c.deref-stimulus.ensures
    in
    record {
      design = d;
      stimulus = stimulus;
      spelled = c.in_ok-lowered.ensures.spelled;
      within = rw c.from.ensures at c.in_ok-lowered.ensures.within;
      told = c.in_ok-text.ensures
          ∙ (λ i. profile_text (c.deref-design.ensures i) (c.asserts-marks.ensures i) (numbers i))
          ∙ profile-same d (arc_value it.design) it.lowered d.asserts (numbers_in d (inputs_of stimulus) c.args.cycles);
      doubt = c.fails_strictly.ensures ∙ (λ i. fails_strictly (c.asserts-marks.ensures i) (numbers i));
    }
