use Rattle.std.proofs.Common.{length, ap, ◌∙◌}
use Rattle.typed_core.specs.declared.design.Parts.{Parts}
use Rattle.lab_core.proofs.Grown.{run_begins}
use Rattle.lab_core.proofs.profile.Profile.new.Goals as goal

pub returns : goal.returns
returns c =
    run_begins (length c.args.design.now.rules) c.len.result c.in_ok-no_counts.field-0.items c.in_ok-no_counts.ensures (c.len.ensures ∙ ap (λ (d : Parts). length d.rules) c.design.view_is)
