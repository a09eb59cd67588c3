use Rattle.std.proofs.Common.{◌≡◌, drop, map, string_bytes}
use Rattle.koika_top.specs.Words.{asks_workers}
use Rattle.koika_top.proofs.words.asks_workers.Given as goal

abbrev pub invariant-loop-word : goal.invariant-loop-word
invariant-loop-word l = asks_workers (map string_bytes l.words) ≡ asks_workers (map string_bytes (drop l.word-index l.words))
