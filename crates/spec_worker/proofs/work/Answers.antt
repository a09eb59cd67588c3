use Rattle.std.proofs.Common.{rules}
use Rattle.spec_worker.proofs.Gaining.{asked_more, fell_never, gains_more, gains_then_none}
use Rattle.spec_worker.proofs.work.Goals as goal

pub returns-in-Finished-clause-own : goal.returns-in-Finished-clause-own
returns-in-Finished-clause-own g c = gains_then_none _ _ _ _ _ _ _ _ _ _ c.loop-turn.invariant.own c.in-Finished.ensures.own

pub returns-in-NoMemory-clause-own : goal.returns-in-NoMemory-clause-own
returns-in-NoMemory-clause-own g c = gains_then_none _ _ _ _ _ _ _ _ _ _ c.loop-turn.invariant.own c.in-NoMemory.ensures.own

pub loop-turn-preserved : goal.loop-turn-preserved
loop-turn-preserved g c = record {
  number = search rules;
  origin = search rules;
  setting = search rules;
  few = search rules;
  few_settled = search rules;
  own = gains_more _ _ _ _ _ _ _ _ _ _ _ _ _ c.loop-turn.invariant.own c.in-Made.ensures.own;
  ended = fell_never _ _ _ c.loop-turn.invariant.ended c.loop-turn.invariant.counted c.take_turn.ensures.never_fell;
  counted = c.take_turn.ensures.counted c.loop-turn.invariant.counted;
  asked = asked_more _ _ _ _ c.loop-turn.invariant.asked c.take_turn.ensures.asked;
}
