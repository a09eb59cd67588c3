use Rattle.kw_bits.proofs.Halves.{hamming-joined, morton-joined, sat_add-joined}
use Rattle.kw_bits.proofs.laws.host_answers_of_two.Goals as goal

pub returns : goal.returns
returns c = record {
  hamming = hamming-joined;
  morton = morton-joined;
  sat_add = sat_add-joined;
}
