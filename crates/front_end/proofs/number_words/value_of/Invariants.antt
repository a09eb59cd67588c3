use Rattle.std.proofs.Common.{◌≡◌, ◌<◌, ◌^◌, take}
use Rattle.front_end.specs.NumberWords.{value_of}
use Rattle.front_end.proofs.number_words.value_of.Given as goal

abbrev pub invariant-loop-digit : goal.invariant-loop-digit
invariant-loop-digit l =
    record {
      so_far : l.value ≡ value_of (take l.digit-index l.digits);
      small : l.value < 10 ^ l.digit-index;
    }
