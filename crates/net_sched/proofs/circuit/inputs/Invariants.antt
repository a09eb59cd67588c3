use Rattle.std.proofs.Common.{◌≡◌, All, map, take}
use Rattle.typed_core.specs.declared.design.InputDecl.{InputDecl}
use Rattle.circuit_eval.specs.Circuits.{IsInput, input_widths}
use Rattle.circuit_eval.specs.declared.circuit.InputWire.{InputWire}
use Rattle.net_sched.proofs.circuit.inputs.Given as goal

abbrev pub invariant-loop-decl : goal.invariant-loop-decl
invariant-loop-decl l = record {
  names : map (λ (wire : InputWire). wire.name) l.inputs ≡ map (λ (decl : InputDecl). decl.name) (take l.decl-index l.decls);
  fit : All IsInput l.inputs;
  widths : input_widths l.inputs ≡ map (λ (decl : InputDecl). decl.width) (take l.decl-index l.decls);
}
