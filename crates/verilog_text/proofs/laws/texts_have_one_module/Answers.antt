use Rattle.verilog_text.proofs.OneModule.{one-module}
use Rattle.verilog_text.proofs.laws.texts_have_one_module.Goals as goal

pub returns : goal.returns
returns c = one-module
