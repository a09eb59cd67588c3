use Rattle.koika_parse.proofs.Reading.{shorter}
use Rattle.koika_parse.proofs.Expected.{fails, fails_last, last_part, not_so}
use Rattle.koika_parse.proofs.ChainWords.{index_at, slice_at, suffix_bracket, suffix_dot}
use Rattle.koika_parse.proofs.Steps.{◌then◌, ◌past◌, ◌so◌}
use Rattle.koika_parse.proofs.source.Source.suffix.Goals as goal

pub returns-then-is_at_sign-clause-read : goal.returns-then-is_at_sign-clause-read
returns-then-is_at_sign-clause-read c = c.in_ok-sign.ensures.read then c.in_ok-name.ensures.read

pub returns-then-is_at_sign-clause-some : goal.returns-then-is_at_sign-clause-some
returns-then-is_at_sign-clause-some c = shorter (c.in_ok-sign.ensures.read then c.in_ok-name.ensures.read)

pub returns-then-is_at_sign-2-clause-read : goal.returns-then-is_at_sign-2-clause-read
returns-then-is_at_sign-2-clause-read c = c.in_ok-sign-2.ensures.read then c.in_ok-high.ensures.read
    then c.in_ok-sign-3.ensures.read then c.in_ok-low.ensures.read then c.in_ok-sign-4.ensures.read

pub returns-then-is_at_sign-2-clause-some : goal.returns-then-is_at_sign-2-clause-some
returns-then-is_at_sign-2-clause-some c = shorter
    (c.in_ok-sign-2.ensures.read then c.in_ok-high.ensures.read then c.in_ok-sign-3.ensures.read
    then c.in_ok-low.ensures.read then c.in_ok-sign-4.ensures.read)

pub returns-clause-read : goal.returns-clause-read
returns-clause-read c = c.in_ok-sign-2.ensures.read then c.in_ok-high.ensures.read then c.in_ok-sign-5.ensures.read

pub returns-clause-some : goal.returns-clause-some
returns-clause-some c =
    shorter (c.in_ok-sign-2.ensures.read then c.in_ok-high.ensures.read then c.in_ok-sign-5.ensures.read)

pub returns-in_err-sign-clause-takes : goal.returns-in_err-sign-clause-takes
returns-in_err-sign-clause-takes c = fails _ c.from_residual.ensures
    (suffix_dot (c.is_at_sign.ensures.0 c.if-is_at_sign.true)) c.in_err-sign.ensures.takes

pub returns-in_err-name-clause-takes : goal.returns-in_err-name-clause-takes
returns-in_err-name-clause-takes c = fails_last _ c.from_residual-in_err-name.ensures
    (suffix_dot (c.is_at_sign.ensures.0 c.if-is_at_sign.true) past c.in_ok-sign.ensures.takes)
    c.in_err-name.ensures.takes

pub returns-then-is_at_sign-clause-takes : goal.returns-then-is_at_sign-clause-takes
returns-then-is_at_sign-clause-takes c = last_part _
    (suffix_dot (c.is_at_sign.ensures.0 c.if-is_at_sign.true) past c.in_ok-sign.ensures.takes)
    c.in_ok-name.ensures.takes

pub returns-in_err-sign-2-clause-takes : goal.returns-in_err-sign-2-clause-takes
returns-in_err-sign-2-clause-takes c = fails _ c.from_residual-in_err-sign-2.ensures
    (suffix_bracket (not_so c.is_at_sign.ensures c.if-is_at_sign.false)) c.in_err-sign-2.ensures.takes

pub returns-in_err-high-clause-takes : goal.returns-in_err-high-clause-takes
returns-in_err-high-clause-takes c = fails _ c.from_residual-in_err-high.ensures
    (suffix_bracket (not_so c.is_at_sign.ensures c.if-is_at_sign.false) past c.in_ok-sign-2.ensures.takes)
    c.in_err-high.ensures.takes

pub returns-in_err-sign-3-clause-takes : goal.returns-in_err-sign-3-clause-takes
returns-in_err-sign-3-clause-takes c = fails _ c.from_residual-in_err-sign-3.ensures
    (suffix_bracket (not_so c.is_at_sign.ensures c.if-is_at_sign.false) past c.in_ok-sign-2.ensures.takes
    past c.in_ok-high.ensures.takes so slice_at (c.is_at_sign-2.ensures.0 c.if-is_at_sign-2.true))
    c.in_err-sign-3.ensures.takes

pub returns-in_err-low-clause-takes : goal.returns-in_err-low-clause-takes
returns-in_err-low-clause-takes c = fails _ c.from_residual-in_err-low.ensures
    (suffix_bracket (not_so c.is_at_sign.ensures c.if-is_at_sign.false) past c.in_ok-sign-2.ensures.takes
    past c.in_ok-high.ensures.takes so slice_at (c.is_at_sign-2.ensures.0 c.if-is_at_sign-2.true)
    past c.in_ok-sign-3.ensures.takes) c.in_err-low.ensures.takes

pub returns-in_err-sign-4-clause-takes : goal.returns-in_err-sign-4-clause-takes
returns-in_err-sign-4-clause-takes c = fails_last _ c.from_residual-in_err-sign-4.ensures
    (suffix_bracket (not_so c.is_at_sign.ensures c.if-is_at_sign.false) past c.in_ok-sign-2.ensures.takes
    past c.in_ok-high.ensures.takes so slice_at (c.is_at_sign-2.ensures.0 c.if-is_at_sign-2.true)
    past c.in_ok-sign-3.ensures.takes past c.in_ok-low.ensures.takes) c.in_err-sign-4.ensures.takes

pub returns-then-is_at_sign-2-clause-takes : goal.returns-then-is_at_sign-2-clause-takes
returns-then-is_at_sign-2-clause-takes c = last_part _
    (suffix_bracket (not_so c.is_at_sign.ensures c.if-is_at_sign.false) past c.in_ok-sign-2.ensures.takes
    past c.in_ok-high.ensures.takes so slice_at (c.is_at_sign-2.ensures.0 c.if-is_at_sign-2.true)
    past c.in_ok-sign-3.ensures.takes past c.in_ok-low.ensures.takes) c.in_ok-sign-4.ensures.takes

pub returns-in_err-sign-5-clause-takes : goal.returns-in_err-sign-5-clause-takes
returns-in_err-sign-5-clause-takes c = fails_last _ c.from_residual-in_err-sign-5.ensures
    (suffix_bracket (not_so c.is_at_sign.ensures c.if-is_at_sign.false) past c.in_ok-sign-2.ensures.takes
    past c.in_ok-high.ensures.takes so index_at (not_so c.is_at_sign-2.ensures c.if-is_at_sign-2.false))
    c.in_err-sign-5.ensures.takes

pub returns-clause-takes : goal.returns-clause-takes
returns-clause-takes c = last_part _
    (suffix_bracket (not_so c.is_at_sign.ensures c.if-is_at_sign.false) past c.in_ok-sign-2.ensures.takes
    past c.in_ok-high.ensures.takes so index_at (not_so c.is_at_sign-2.ensures c.if-is_at_sign-2.false))
    c.in_ok-sign-5.ensures.takes
