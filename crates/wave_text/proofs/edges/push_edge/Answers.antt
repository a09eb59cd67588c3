use Rattle.std.proofs.Common.{◌+◌, ◌*◌, ◌++◌, ap, ◌∙◌}
use Rattle.std.specs.Prelude.{codes}
use Rattle.wave_text.specs.Waves.{edge, line, marked, rise, time}
use Rattle.wave_text.proofs.Turns.{four_parts}
use Rattle.wave_text.proofs.edges.push_edge.Goals as goal

pub returns : goal.returns
unfolding edge
returns c =
    let cycle = c.args.cycle in
    four_parts c.args.text.now c.push_time.new.text c.push_rise.new.text c.push_time-2.new.text c.push_line.new.text
    (time (10 * cycle)) (marked cycle (rise c.args.variables.now c.args.before.now c.args.now.now)) (time (10 * cycle + 5)) (line (codes "0c"))
    (c.in_ok-push_time.ensures ∙ ap (λ n. c.args.text.now ++ time (10 * n)) c.from-at.ensures)
    c.in_ok-push_rise.ensures
    (c.in_ok-push_time-2.ensures ∙ ap (λ n. c.push_rise.new.text ++ time (10 * n + 5)) c.from-at.ensures)
    c.in_ok-push_line.ensures
