use Rattle.kw_bits.proofs.OperatorLaws.{slice-concat, concat-slice, slice-whole}
use Rattle.kw_bits.proofs.laws.concat_and_slice_undo_each_other.Goals as goal

pub returns : goal.returns
returns c = record {
  slice_of_concat = slice-concat;
  concat_of_slices = concat-slice;
  whole = slice-whole;
}
