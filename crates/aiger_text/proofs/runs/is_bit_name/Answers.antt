use Rattle.std.proofs.Common.{length, ◌∙◌, sym}
use Rattle.std.proofs.lemmas.List.{take-append-drop}
use Rattle.aiger_text.proofs.Running.{name-other, name-then}
use Rattle.aiger_text.proofs.runs.is_bit_name.Goals as goal

pub returns-then-eq : goal.returns-then-eq
returns-then-eq c =
    name-then c.args.symbol.now c.split_at.result.0.now c.split_at.result.1.now c.args.name.now c.args.k c.is_index.result (cc (take-append-drop (length c.args.name.now) c.args.symbol.now)) c.split_at.ensures.front_len (sym c.if-eq.true ∙ c.eq.ensures) c.is_index.ensures

pub returns-else-eq : goal.returns-else-eq
returns-else-eq c =
    name-other c.args.symbol.now c.split_at.result.0.now c.split_at.result.1.now c.args.name.now c.args.k c.eq.result (cc (take-append-drop (length c.args.name.now) c.args.symbol.now)) c.split_at.ensures.front_len c.eq.ensures c.if-eq.false
