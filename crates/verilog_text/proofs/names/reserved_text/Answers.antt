use Rattle.std.proofs.Common.{refl}
use Rattle.verilog_text.specs.Names.{reserved_text}
use Rattle.verilog_text.proofs.names.reserved_text.Goals as goal

pub returns : goal.returns
unfolding reserved_text
returns c = refl
