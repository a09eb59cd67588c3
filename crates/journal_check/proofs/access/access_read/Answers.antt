use Rattle.std.proofs.lemmas.List.{take_rest}
use Rattle.std.proofs.lemmas.Result.{err_from_is_err_and}
use Rattle.journal_check.proofs.AccessRead.{access_is, no_access}
use Rattle.journal_check.proofs.access.access_read.Goals as goal

pub returns-in_err-register : goal.returns-in_err-register
returns-in_err-register c =
    let p = err_from_is_err_and c.from_residual.result c.from_residual.ensures.1 in
    rw (p.1, p.2) (no_access c.args.names.now.design.now c.args.token.now _ c.in_err-register.field-0.0 c.in-len3-up.len_at_least (take_rest c.args.token.now 3) c.in_err-register.ensures)

pub returns : goal.returns
returns c = access_is c.args.names.now.design.now c.args.token.now _ c.from.result c.in_ok-register.field-0 c.in-len3-up.len_at_least (take_rest c.args.token.now 3) c.from.ensures c.in_ok-register.ensures
