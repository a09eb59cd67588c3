use Rattle.std.proofs.Common.{[], refl, ap, ◌∙◌, length, replicate}
use Rattle.wave_text.specs.Parts.{progress}
use Rattle.wave_text.specs.declared.level.Level.TheVariants.{Unknown}
use Rattle.wave_text.proofs.Batches.{same_progress}
use Rattle.wave_text.proofs.waves.Waves.new.Goals as goal

pub returns-clause-none : goal.returns-clause-none
unfolding progress
returns-clause-none c = λ inputs.
    same_progress _ (progress c.args.shape.now inputs []) refl (c.in_ok-no_levels.ensures ∙ ap (λ n. replicate n Unknown) (c.len-count.ensures ∙ ap length c.in_ok-variables.ensures)) c.new.ensures
