use Rattle.std.proofs.Common.{◌++◌, ap, ◌∙◌}
use Rattle.aiger_text.specs.Runs.{name_or, output_bits}
use Rattle.aiger_text.proofs.Running.{output_bits-end, output_bits-more}
use Rattle.aiger_text.proofs.runs.output_bits.Goals as goal

pub loop-k-init : goal.loop-k-init
loop-k-init c = ap (λ front. front ++ output_bits 0 c.args.symbols.now c.args.lits.now) c.new-outputs.ensures.items

pub loop-k-preserved : goal.loop-k-preserved
loop-k-preserved c =
    output_bits-more c.args.symbols.now c.args.lits.now c.loop-k.k c.index-symbols-k.result 0 c.in_ok-name.name c.loop-k.outputs.items c.push.new.self.items _ c.loop-k-test.true c.requires (c.in_ok-name.ensures ∙ ap (name_or 111 c.loop-k.k) c.index-symbols-k.is)
    c.in_ok-push.ensures.items c.loop-k.invariant

pub returns : goal.returns
returns c = output_bits-end c.args.symbols.now c.args.lits.now c.loop-k.k c.loop-k.outputs.items _ c.loop-k-test.false c.loop-k.invariant
