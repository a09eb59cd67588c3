use Rattle.std.proofs.Common.{subst}
use Rattle.kw_base.specs.Names.{AreNumbered}
use Rattle.stim_report.proofs.FirstOfNames.{added_new, added_there, first_new, first_there}
use Rattle.stim_report.proofs.names.add_name.Goals as goal

pub returns-in_ok-push-clause-first : goal.returns-in_ok-push-clause-first
returns-in_ok-push-clause-first c = λ before first is.
    let new = added_new c.args.names.now c.add.new.self c.args.input.now.name c.as_slice.result.now c.in_ok-add.field-0 c.in-New.field-0 c.in-New.is c.in_ok-add.ensures.adds c.as_slice.ensures in
    rw (new, c.in_ok-push.ensures.items, is) (first_new c.args.names.now c.args.firsts.now.items before c.args.input.now first (subst AreNumbered new c.in_ok-add.ensures.numbered))

pub returns-in_default-clause-first : goal.returns-in_default-clause-first
returns-in_default-clause-first c = λ before first is.
    let there = added_there c.args.names.now c.add.new.self c.args.input.now.name c.as_slice.result.now c.in_ok-add.field-0 c.in_default.field-0 c.in_default.is c.in_ok-add.ensures.adds c.as_slice.ensures in
    rw there.1 (first_there c.args.names.now c.args.firsts.now.items before c.args.input.now c.in_default.field-0 first there.0)
