use Rattle.std.proofs.Common.{◌+◌, ◌*◌, ◌++◌, ap, ap₂, sym, ◌∙◌, length, List, ℕ}
use Rattle.wave_text.specs.Parts.{Progress, ending}
use Rattle.wave_text.specs.Waves.{last_levels, time, variables}
use Rattle.wave_text.proofs.Moments.{length_last_levels, same_edge}
use Rattle.wave_text.proofs.waves.Waves.ending.Goals as goal

pub push_edge-requires-clause-now : goal.push_edge-requires-clause-now
push_edge-requires-clause-now c =
    let registers = ap (λ (p : Progress). length p.registers) c.self.view_is ∙ c.requires.registers in
    ap length (c.as_slice-4.ensures ∙ c.in_ok-now.ensures ∙ ap (last_levels c.args.shape.now) c.as_slice.ensures)
    ∙ length_last_levels c.args.shape.now c.self.inside.registers registers ∙ sym (ap length (c.as_slice-2.ensures ∙ c.in_ok-variables.ensures))

pub returns : goal.returns
unfolding ending
returns c =
    let now = c.as_slice-4.ensures ∙ c.in_ok-now.ensures ∙ ap (last_levels c.args.shape.now) c.as_slice.ensures in
    let written = same_edge _ (variables c.args.shape.now) c.self.inside.cycle _ c.self.inside.levels _ (last_levels c.args.shape.now c.self.inside.registers) (c.as_slice-2.ensures ∙ c.in_ok-variables.ensures) c.as_slice-3.ensures now in
    c.in_ok-push_time.ensures
    ∙ ap₂ (λ (t : List ℕ) (n : ℕ). t ++ time (10 * (n + 1))) (c.in_ok-push_edge.ensures ∙ ap₂ (λ (a b : List ℕ). a ++ b) c.new-text.ensures written) c.from.ensures
    ∙ ap (ending c.args.shape.now) c.self.view_is
