use Rattle.std.proofs.Common.{◌<◌, length, arith}
use Rattle.aiger_text.proofs.Drafting.{put_symbol-kept, put_symbol-new}
use Rattle.aiger_text.proofs.draft.put_name.Goals as goal

pub returns-then-is_some : goal.returns-then-is_some
returns-then-is_some c =
    let within : c.args.index < length c.args.symbols.now.items = omega arith in
    put_symbol-kept c.args.symbols.now.items c.args.index c.args.name.now c.index.result.now c.is_some.result within c.index.ensures c.is_some.ensures c.if-is_some.true

pub returns : goal.returns
returns c =
    let within : c.args.index < length c.args.symbols.now.items = omega arith in
    put_symbol-new c.args.symbols.now.items c.args.index c.args.name.now c.in_ok-text.text c.index.result.now c.is_some.result within c.index.ensures c.is_some.ensures c.if-is_some.false c.in_ok-text.ensures
