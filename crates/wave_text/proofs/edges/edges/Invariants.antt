use Rattle.std.proofs.Common.{◌≡◌, ◌+◌, ◌++◌, drop, length}
use Rattle.one_rule.specs.Stimulus.{inputs_of}
use Rattle.stim_report.specs.Shapes.{RowsMatch}
use Rattle.wave_text.specs.Parts.{last_of, moments_before_last}
use Rattle.wave_text.specs.Waves as texts
use Rattle.wave_text.specs.Waves.{variables}
use Rattle.wave_text.proofs.edges.edges.Given as goal

abbrev pub invariant-loop-number : goal.invariant-loop-number
invariant-loop-number l =
    let left = moments_before_last (inputs_of l.stimulus) (l.cycle + l.number) (drop l.number l.rows) in
    let all = moments_before_last (inputs_of l.stimulus) l.cycle l.rows in
    record {
      written : l.text ++ texts.edges (variables l.shape) (l.cycle + l.number) l.last left ≡ texts.edges (variables l.shape) l.cycle l.before all;
      last : last_of l.last left ≡ last_of l.before all;
      count : length l.last ≡ length (variables l.shape);
      fit : RowsMatch l.shape (drop l.number l.rows);
    }
