use Rattle.std.proofs.Common.{List, ◌++◌, map, ap, ◌∙◌}
use Rattle.std.specs.Prelude.{codes}
use Rattle.stim_report.specs.declared.shape.NameWidth.{NameWidth}
use Rattle.wave_text.specs.Waves.{declarations, head, line, of_rule, scope}
use Rattle.wave_text.specs.declared.variable.VariableKind.TheVariants.{Input, Register, Rule}
use Rattle.wave_text.proofs.Turns.{head_parts}
use Rattle.wave_text.proofs.declarations.head.Goals as goal

pub returns : goal.returns
unfolding head scope
returns c =
    let rules = c.as_slice-4.ensures ∙ c.in_ok-rules.ensures ∙ ap (map of_rule) c.as_slice.ensures in
    head_parts c.new-text.result c.push_line.new.text c.push_line-2.new.text c.push_line-3.new.text c.push_scope.new.text c.push_scope-2.new.text c.push_scope-3.new.text c.push_line-4.new.text c.push_line-5.new.text
    (line (codes "$timescale 1 ns $end")) (line (codes "$scope module design $end")) (line (codes "$var wire 1 c clk $end"))
    (scope (codes "inputs") (declarations Input 0 c.args.shape.now.inputs)) (scope (codes "registers") (declarations Register 0 c.args.shape.now.registers))
    (scope (codes "rules") (declarations Rule 0 (map of_rule c.args.shape.now.rules))) (line (codes "$upscope $end")) (line (codes "$enddefinitions $end"))
    c.new-text.ensures c.in_ok-push_line.ensures c.in_ok-push_line-2.ensures c.in_ok-push_line-3.ensures
    (c.in_ok-push_scope.ensures ∙ ap (λ (named : List NameWidth). c.push_line-3.new.text ++ scope (codes "inputs") (declarations Input 0 named)) c.as_slice-2.ensures)
    (c.in_ok-push_scope-2.ensures ∙ ap (λ (named : List NameWidth). c.push_scope.new.text ++ scope (codes "registers") (declarations Register 0 named)) c.as_slice-3.ensures)
    (c.in_ok-push_scope-3.ensures ∙ ap (λ (named : List NameWidth). c.push_scope-2.new.text ++ scope (codes "rules") (declarations Rule 0 named)) rules)
    c.in_ok-push_line-4.ensures c.in_ok-push_line-5.ensures
