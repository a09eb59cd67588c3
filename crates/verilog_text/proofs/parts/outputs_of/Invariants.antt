use Rattle.std.proofs.Common.{◌≡◌, ◌++◌, drop, map}
use Rattle.verilog_text.specs.inner.Making.{output_of}
use Rattle.verilog_text.proofs.parts.outputs_of.Given as goal

abbrev pub invariant-loop-wire : goal.invariant-loop-wire
invariant-loop-wire l =
    l.outputs ++ map (output_of l.operands) (drop l.wire-index l.wires) ≡ map (output_of l.operands) l.wires
