use Rattle.std.proofs.Common.{◌≡◌, length, drop, sym, subst, arith}
use Rattle.std.proofs.lemmas.List.{take_at}
use Rattle.net_simplify.specs.inner.Passes.{AreServing}
use Rattle.net_simplify.proofs.reach.serving.Goals as goal

pub returns : goal.returns
returns c =
    let many : length c.mark_serving.new.serves ≡ c.in_ok-serves.serves.len = omega (arith, c.mark_serving.ensures.count, c.in_ok-serves.ensures.len, c.len.ensures.len) in
    subst (AreServing c.args.wires.now) (sym (take_at c.mark_serving.new.serves (drop (length c.mark_serving.new.serves) c.in_ok-serves.serves.items) c.in_ok-serves.serves.len many)) c.mark_serving.ensures
