use Rattle.std.proofs.Common.{arith}
use Rattle.std.proofs.lemmas.Result.{err_from_is_err_and}
use Rattle.kw_io.proofs.Portions.{TakesUpTo-behind}
use Rattle.kw_io.proofs.reading.join_pieces.Goals as goal

pub returns-in_err-append_piece-clause-too_long : goal.returns-in_err-append_piece-clause-too_long
returns-in_err-append_piece-clause-too_long g c =
    let p = err_from_is_err_and c.from_residual.result c.from_residual.ensures.1 in
    let count = c.loop-bytes.bytes.ok.0 in
    rw (p.1, p.2) (TakesUpTo-behind _ _ _ c.loop-bytes.bytes.items _ (omega arith) c.loop-bytes.invariant.taken (λ e. cc, λ e. cc) (rw count at c.in_err-append_piece.ensures.err))
