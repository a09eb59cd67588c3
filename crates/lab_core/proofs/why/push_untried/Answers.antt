use Rattle.std.proofs.Common.{◌≡◌, ◌++◌, ◌<◌, ℕ, length, ap, ◌∙◌, arith}
use Rattle.std.specs.List.{filter, flat_map}
use Rattle.typed_core.specs.declared.design.Parts.{Parts}
use Rattle.lab_core.specs.Trials.{untried}
use Rattle.lab_core.specs.Why.{is_asked, untried_line}
use Rattle.lab_core.proofs.Tables.{table_length, verdict_at}
use Rattle.lab_core.proofs.Texts.{line_more}
use Rattle.lab_core.proofs.why.push_untried.Goals as goal

pub loop-rule-preserved : goal.loop-rule-preserved
loop-rule-preserved c =
    let tried = c.args.tried.now in
    let verdicts = c.in_ok-verdicts.verdicts in
    let size = table_length c.len.result tried verdicts.items c.in_ok-verdicts.ensures in
    let within : c.loop-rule.rule < c.len.result = omega (arith, c.loop-rule-test.true, c.len-rule-end.ensures, verdicts.ok, size) in
    line_more c.args.design.now c.args.only c.loop-rule.rule tried c.args.text.now c.loop-rule.text c.push_if_untried.new.text c.index.result.now
    (c.index.ensures ∙ verdict_at c.len.result c.loop-rule.rule tried verdicts.items c.index.result.now c.in_ok-verdicts.ensures within)
    c.loop-rule.invariant c.in_ok-push_if_untried.ensures

pub returns : goal.returns
returns c =
    let tried = c.args.tried.now in
    let verdicts = c.in_ok-verdicts.verdicts in
    let size = table_length c.len.result tried verdicts.items c.in_ok-verdicts.ensures in
    let all : c.loop-rule.rule ≡ length c.args.design.now.rules =
    omega (arith, c.loop-rule-test.false, c.loop-rule.auto.rule-end, c.len-rule-end.ensures, verdicts.ok, size, c.len.ensures, ap (λ (d : Parts). length d.rules) c.design.view_is) in
    c.loop-rule.invariant ∙ ap (λ (k : ℕ). c.args.text.now ++ flat_map (untried_line c.args.design.now) (filter (is_asked c.args.only) (untried k tried))) all
