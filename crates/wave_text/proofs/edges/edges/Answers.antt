use Rattle.std.proofs.Common.{◌+◌, ◌<◌, ◌++◌, length, ap, sym, ◌∙◌, arith}
use Rattle.one_rule.specs.Stimulus.{inputs_of}
use Rattle.stim_report.specs.Shapes.{RowMatches}
use Rattle.wave_text.specs.Parts.{last_of}
use Rattle.wave_text.specs.Waves as texts
use Rattle.wave_text.specs.Waves.{variables}
use Rattle.wave_text.proofs.Moments.{count_levels, edge_written, last_more, none_left, rest_fits, same_edge, same_levels}
use Rattle.wave_text.proofs.Turns.{ended}
use Rattle.wave_text.proofs.edges.edges.Goals as goal

pub push_edge-requires-clause-now : goal.push_edge-requires-clause-now
push_edge-requires-clause-now c =
    let row = c.index-rows-number in
    let next = c.index-rows-number-in-loop-number in
    let is = c.in_ok-now.ensures ∙ same_levels _ _ _ _ _ _ c.as_slice.ensures c.as_slice-in-loop-number.ensures c.as_slice-in-loop-number-2.ensures in
    ap length c.as_slice-in-loop-number-5.ensures
    ∙ count_levels c.args.shape.now c.args.stimulus.now.widths c.in_ok-inputs.inputs c.args.rows.now c.loop-number.number row.result next.result (omega (arith, c.loop-number-test.true, c.requires.some)) row.is next.is
    c.loop-number.invariant.fit c.requires.inputs c.in_ok-inputs.ensures.fits c.in_ok-now.now is
    ∙ sym (ap length (c.as_slice-in-loop-number-3.ensures ∙ c.in_ok-variables.ensures))

pub loop-number-preserved : goal.loop-number-preserved
loop-number-preserved c =
    let inputs = inputs_of c.args.stimulus.now in
    let rows = c.args.rows.now in
    let i = c.loop-number.number in
    let row = c.index-rows-number in
    let next = c.index-rows-number-in-loop-number in
    let h : i + 1 < length rows = omega (arith, c.loop-number-test.true, c.requires.some) in
    let given = c.in_ok-now.ensures ∙ same_levels _ _ _ _ _ _ c.as_slice.ensures c.as_slice-in-loop-number.ensures c.as_slice-in-loop-number-2.ensures in
    let is = c.in_ok-now.ensures ∙ same_levels _ _ _ _ _ _ (c.as_slice.ensures ∙ c.in_ok-inputs.ensures.inputs) c.as_slice-in-loop-number.ensures c.as_slice-in-loop-number-2.ensures in
    let written = c.in_ok-push_edge.ensures
    ∙ ap (λ t. c.loop-number.text ++ t)
    (same_edge _ _ (c.args.cycle + i) _ _ _ _ (c.as_slice-in-loop-number-3.ensures ∙ c.in_ok-variables.ensures) c.as_slice-in-loop-number-4.ensures c.as_slice-in-loop-number-5.ensures) in
    record {
      written = edge_written inputs rows c.args.cycle i row.result next.result h row.is next.is c.loop-number.last c.in_ok-now.now is (variables c.args.shape.now) _ _ _ c.loop-number.invariant.written written;
      last = last_more inputs rows c.args.cycle i row.result next.result h row.is next.is c.loop-number.last c.in_ok-now.now is _ c.loop-number.invariant.last;
      count = count_levels c.args.shape.now c.args.stimulus.now.widths c.in_ok-inputs.inputs rows i row.result next.result h row.is next.is c.loop-number.invariant.fit c.requires.inputs c.in_ok-inputs.ensures.fits
          c.in_ok-now.now given;
      fit = rest_fits (RowMatches c.args.shape.now.registers c.args.shape.now.rules) rows i row.result (omega (arith, h)) c.loop-number.invariant.fit;
    }

pub returns-clause-text : goal.returns-clause-text
returns-clause-text c =
    let l = c.loop-number in
    let none = none_left (inputs_of c.args.stimulus.now) (c.args.cycle + l.number) c.args.rows.now l.number (omega (arith, c.loop-number-test.false, c.requires.some)) in
    ended _ l.text _ l.invariant.written (ap (texts.edges (variables c.args.shape.now) (c.args.cycle + l.number) l.last) none)

pub returns-clause-levels : goal.returns-clause-levels
returns-clause-levels c =
    let l = c.loop-number in
    let none = none_left (inputs_of c.args.stimulus.now) (c.args.cycle + l.number) c.args.rows.now l.number (omega (arith, c.loop-number-test.false, c.requires.some)) in
    sym (ap (last_of l.last) none) ∙ l.invariant.last
