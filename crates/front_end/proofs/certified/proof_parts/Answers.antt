use Rattle.std.proofs.Common.{length, ap, arith}
use Rattle.stim_report.specs.Cuts.{parts_of}
use Rattle.front_end.proofs.CutAgain.{stimulus_length}
use Rattle.front_end.proofs.certified.proof_parts.Goals as goal

pub source_parts-ends-requires : goal.source_parts-ends-requires
source_parts-ends-requires c =
    let source = c.args.source.now in
    omega (arith, ap length c.certified_parts-parts.ensures.certificate, stimulus_length (parts_of source).stimulus, stimulus_length source, c.requires)
