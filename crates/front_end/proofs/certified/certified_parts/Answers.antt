use Rattle.std.proofs.Common.{length, ap, arith}
use Rattle.front_end.proofs.CutAgain.{stimulus_length}
use Rattle.front_end.proofs.certified.certified_parts.Goals as goal

pub source_parts-back-requires : goal.source_parts-back-requires
source_parts-back-requires c = omega (arith, ap length c.source_parts-front.ensures.stimulus, stimulus_length c.args.source.now, c.requires)
