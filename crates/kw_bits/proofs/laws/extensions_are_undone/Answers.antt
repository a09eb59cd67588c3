use Rattle.kw_bits.proofs.OperatorLaws.{slice-zext, slice-sext, signed-sext}
use Rattle.kw_bits.proofs.laws.extensions_are_undone.Goals as goal

pub returns : goal.returns
returns c = record {
  zext = slice-zext;
  sext = slice-sext;
  signed = signed-sext;
}
