use Rattle.std.proofs.Common.{◌≡◌, ◌+◌, ◌*◌, ◌++◌, length, take}
use Rattle.aig_blast.specs.AigRun.{bits_of}
use Rattle.aig_blast.specs.inner.AigSims.{both}
use Rattle.aig_blast.proofs.sim.put_words.Given as goal

abbrev pub invariant-loop-word : goal.invariant-loop-word
invariant-loop-word l = record {
  count : l.count ≡ l.before + length (bits_of (take l.word-index l.words));
  values : take (2 * (1 + l.count)) l.values ≡ take (2 * (1 + l.before)) l.fn.values ++ both (bits_of (take l.word-index l.words));
}
