use Rattle.wave_text.proofs.ReadBack.{clock_reads_back, reads_back}
use Rattle.wave_text.proofs.laws.a_dump_reads_back.Goals as goal

pub returns : goal.returns
returns c = record { variables = reads_back; clock = clock_reads_back }
