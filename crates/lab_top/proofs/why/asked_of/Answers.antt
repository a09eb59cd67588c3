use Rattle.std.proofs.Common.{◌≡◌, Some, None, ap, sym, ◌∙◌}
use Rattle.lab_core.specs.Why.{rule_named}
use Rattle.lab_top.specs.Runs.{asked_of}
use Rattle.lab_top.proofs.LabRuns.{asked-none, asked-some}
use Rattle.lab_top.proofs.why.asked_of.Goals as goal

pub returns-in-Some-rule_named : goal.returns-in-Some-rule_named
returns-in-Some-rule_named c d lowered =
    let design = c.args.design.now in
    let named : rule_named design c.in-Some.name ≡ Some c.in-Some-rule_named.rule = ap (rule_named design) (sym c.as_slice.ensures) ∙ sym c.in-Some-rule_named.ensures in
    sym (ap (asked_of d) c.in-Some.is ∙ asked-some d design lowered c.in-Some.name c.in-Some-rule_named.rule named)

pub returns : goal.returns
returns c d lowered =
    let design = c.args.design.now in
    let named : rule_named design c.in-Some.name ≡ None = ap (rule_named design) (sym c.as_slice.ensures) ∙ sym c.in-None-rule_named.ensures in
    sym (ap (asked_of d) c.in-Some.is ∙ asked-none d design lowered c.in-Some.name named)
