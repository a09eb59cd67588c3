use Rattle.std.proofs.lemmas.Result.{err_from_is_err_and}
use Rattle.one_rule.specs.Hosts.{host_specs}
use Rattle.front_end.proofs.Reading.{fault-of-part}
use Rattle.stream_run.proofs.Joining.{ill-only}
use Rattle.stream_run.proofs.session.lowered_of.Goals as goal

pub returns-in_err-spelled-clause-refused : goal.returns-in_err-spelled-clause-refused
returns-in_err-spelled-clause-refused g c =
    let p = err_from_is_err_and c.from_residual.result c.from_residual.ensures.1 in
    rw (p.1, p.2) (fault-of-part _ _ c.in_err-spelled.field-0.0 (ill-only (host_specs c.args.hosts.now) c.args.head.now c.requires.alone) c.in_err-spelled.ensures.refused)
