use Rattle.std.proofs.Common.{◌≡◌, ◌+◌, ◌*◌, ◌/◌, ◌^◌, ◌++◌, take}
use Rattle.aig_blast.specs.Steps.{digits}
use Rattle.aig_blast.specs.inner.AigSims.{both}
use Rattle.aig_blast.proofs.sim.put_word.Given as goal

abbrev pub invariant-loop-k : goal.invariant-loop-k
invariant-loop-k l = record {
  rest : l.rest ≡ l.fn.word.number / 2 ^ l.k;
  values : take (2 * (1 + l.before + l.k)) l.values ≡ take (2 * (1 + l.before)) l.fn.values ++ both (digits l.fn.word.number l.k);
}
