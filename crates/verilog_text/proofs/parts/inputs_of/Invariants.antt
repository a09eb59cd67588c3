use Rattle.std.proofs.Common.{◌≡◌, ◌++◌, drop, map}
use Rattle.verilog_text.specs.inner.Making.{input_of}
use Rattle.verilog_text.proofs.parts.inputs_of.Given as goal

abbrev pub invariant-loop-wire : goal.invariant-loop-wire
invariant-loop-wire l = l.inputs ++ map input_of (drop l.wire-index l.wires) ≡ map input_of l.wires
