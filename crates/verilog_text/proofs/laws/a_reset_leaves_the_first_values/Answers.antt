use Rattle.std.proofs.Common.{Option, List, ℕ, ap, cond, true}
use Rattle.verilog_text.specs.Runs.{first_values, is_reset, next_values, signals_of}
use Rattle.verilog_text.proofs.laws.a_reset_leaves_the_first_values.Goals as goal

pub returns : goal.returns
returns c m name inputs registers is =
    ap (λ (r : Option (List ℕ)). cond (is_reset r true) (first_values m)
    (next_values m (signals_of m inputs registers))) is
