use Rattle.std.proofs.lemmas.Result.{err_from_is_err_and}
use Rattle.koika_top.proofs.AigRuns.{aig-held, aig-refused, aig-refused-later, few-inputs-read}
use Rattle.koika_top.proofs.aig_run.AigRun.read.Goals as goal

pub returns-in_err-aig-clause-refused : goal.returns-in_err-aig-clause-refused
returns-in_err-aig-clause-refused c =
    let p = err_from_is_err_and c.from_residual.result c.from_residual.ensures.1 in
    rw (p.1, p.2)
    (aig-refused c.args.cycles c.args.source.now _ c.in_err-aig.field-0.0 c.requires c.source_parts-parts.ensures.design c.in_err-aig.ensures.refused)

pub run_of-requires-clause-aig : goal.run_of-requires-clause-aig
run_of-requires-clause-aig c = aig-held c.args.source.now _ c.in_ok-aig.aig c.requires c.source_parts-parts.ensures.design c.in_ok-aig.ensures.text

pub run_of-requires-clause-few : goal.run_of-requires-clause-few
run_of-requires-clause-few c = few-inputs-read c.args.source.now _ c.in_ok-aig.aig c.requires c.source_parts-parts.ensures.within c.in_ok-aig.ensures.aig

pub returns-clause-refused : goal.returns-clause-refused
returns-clause-refused c = aig-refused-later c.args.cycles c.args.source.now _ c.run_of.ensures.refused
