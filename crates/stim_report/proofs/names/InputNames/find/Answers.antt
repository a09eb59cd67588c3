use Rattle.std.proofs.Common.{rules, sym, ◌∙◌, arith}
use Rattle.stim_report.proofs.FirstOfNames.{find_first, find_none, first_within}
use Rattle.stim_report.proofs.names.InputNames.find.Goals as goal

pub index-requires : goal.index-requires
index-requires c =
    let within = first_within c.args.self.now.names c.args.self.now.firsts.items c.args.inputs.now c.args.name.now c.in_ok-number.number c.requires (sym c.in_ok-number.ensures.number) in
    first_of (omega (arith, within), grind (arith, within), search (rules, within))

pub returns : goal.returns
returns c =
    find_first c.args.self.now.names c.args.self.now.firsts.items c.args.inputs.now c.args.name.now c.in_ok-number.number c.index.result.now c.requires (sym c.in_ok-number.ensures.number) c.index.ensures

pub returns-in_err-number : goal.returns-in_err-number
returns-in_err-number c =
    c.from_residual.ensures ∙ find_none c.args.self.now.names c.args.self.now.firsts.items c.args.inputs.now c.args.name.now c.requires (sym c.in_err-number.ensures.number)
