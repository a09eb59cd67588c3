use Rattle.std.proofs.Common.{◌≡◌, ◌*◌, drop}
use Rattle.koika_check.specs.Types.{all_lengths, width_of}
use Rattle.koika_lower.proofs.type_width.width_of.Given as goal

abbrev pub invariant-loop-length : goal.invariant-loop-length
invariant-loop-length l = l.width * all_lengths (drop l.length-index l.fn.of.lengths) ≡ width_of l.fn.checked l.fn.of
