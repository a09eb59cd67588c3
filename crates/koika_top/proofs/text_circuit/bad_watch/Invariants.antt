use Rattle.std.proofs.Common.{◌≡◌, take}
use Rattle.std.specs.List.{range_with_len}
use Rattle.koika_top.proofs.text_circuit.bad_watch.Given as goal

abbrev pub invariant-loop-number : goal.invariant-loop-number
invariant-loop-number l = record {
  copies : l.copies ≡ take l.number l.names;
  marks : l.marks ≡ range_with_len l.others l.number;
}
