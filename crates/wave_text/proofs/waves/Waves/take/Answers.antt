use Rattle.std.proofs.Common.{List, ◌+◌, ◌-◌, get_or, ap, ap₂, ◌∙◌}
use Rattle.one_rule.specs.Stimulus.{inputs_of}
use Rattle.one_rule.specs.declared.rows.Row.{Row}
use Rattle.wave_text.specs.Parts.{last_of, moments_before_last}
use Rattle.wave_text.specs.Waves.{edges, variables}
use Rattle.wave_text.specs.declared.level.Level.{Level}
use Rattle.wave_text.proofs.Batches.{last_row, takes_rows}
use Rattle.wave_text.proofs.waves.Waves.take.Goals as goal

pub returns-clause-takes : goal.returns-clause-takes
returns-clause-takes c = λ before is goes.
    let inputs = inputs_of c.args.stimulus.now in
    let rows = c.args.rows.now in
    let old = c.self.inside in
    takes_rows c.args.shape.now inputs before rows c.requires.some goes (record { cycle = old.cycle; levels = old.levels; registers = old.registers }) _ c.in_ok-written.written.text (c.self.view_is ∙ is)
    (ap (λ n. old.cycle + (n - 1)) c.len-later.ensures)
    (c.in_ok-written.ensures.levels ∙ ap₂ (λ (l : List Level) (rs : List Row). last_of l (moments_before_last inputs old.cycle rs)) c.as_slice.ensures c.as_slice-2.ensures)
    (c.in_ok-self-inside.ensures ∙ c.as_slice-3.ensures
    ∙ last_row rows c.index.result.now c.requires.some (c.index.ensures ∙ ap (λ n. get_or rows (n - 1) c.index.result.now) c.len-later.ensures))
    (c.in_ok-written.ensures.text ∙ ap₂ (λ (l : List Level) (rs : List Row). edges (variables c.args.shape.now) old.cycle l (moments_before_last inputs old.cycle rs)) c.as_slice.ensures c.as_slice-2.ensures)
