use Rattle.std.proofs.Common.{◌≡◌, arith}
use Rattle.btor2_text.specs.Cut.{words_of}
use Rattle.btor2_text.proofs.Arguments.{skipped_more, skipped_all}
use Rattle.btor2_text.proofs.argument.skip_tokens.Goals as goal

pub loop-preserved : goal.loop-preserved
loop-preserved c = skipped_more _ _ _ _ _ c.loop.invariant.1 c.in_ok-rest.ensures.found

pub returns-in_err-rest-clause-absent : goal.returns-in_err-rest-clause-absent
returns-in_err-rest-clause-absent c =
    rw c.from_residual.ensures (omega (arith, skipped_all (words_of c.args.bytes.now) (words_of c.loop.rest.now) c.loop.counter c.loop.invariant.1 c.in_err-rest.ensures.absent, c.loop-test.true))

pub returns-clause-found : goal.returns-clause-found
returns-clause-found c =
    let end : c.loop.counter ≡ c.args.count = omega arith in
    rw (← end) c.loop.invariant
