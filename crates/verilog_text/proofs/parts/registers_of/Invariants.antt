use Rattle.std.proofs.Common.{◌≡◌, ◌++◌, drop, map}
use Rattle.verilog_text.specs.inner.Making.{register_of}
use Rattle.verilog_text.proofs.parts.registers_of.Given as goal

abbrev pub invariant-loop-wire : goal.invariant-loop-wire
invariant-loop-wire l =
    l.registers
    ++ map (register_of l.are_ports l.operands) (drop l.wire-index l.wires) ≡ map
    (register_of l.are_ports l.operands) l.wires
