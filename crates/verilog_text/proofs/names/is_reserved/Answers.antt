use Rattle.std.proofs.Common.{List, ℕ, ap, ◌∙◌}
use Rattle.verilog_text.specs.Names.{is_reserved}
use Rattle.verilog_text.specs.inner.Words.{has_word}
use Rattle.verilog_text.proofs.names.is_reserved.Goals as goal

pub returns : goal.returns
unfolding is_reserved
returns c = c.has_word.ensures ∙ ap (λ (text : List ℕ). has_word text c.args.name.now) c.reserved_text.ensures
