use Rattle.std.proofs.Common.{List, subst}
use Rattle.std.proofs.lemmas.List.{take_all}
use Rattle.stim_report.specs.inner.FirstNames.{AreFirst}
use Rattle.stim_report.specs.declared.shape.NameWidth.{NameWidth}
use Rattle.stim_report.proofs.names.InputNames.new.Goals as goal

pub returns : goal.returns
returns c =
    let l = c.loop-number in
    subst (λ (inputs : List NameWidth). AreFirst l.names l.firsts.items inputs) (take_all l.number c.args.inputs.now c.loop-number-test.false) l.invariant.1
