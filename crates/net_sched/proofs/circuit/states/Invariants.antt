use Rattle.std.proofs.Common.{◌≡◌, All, map, take}
use Rattle.kw_bits.specs.Laws.{HasWidth}
use Rattle.typed_core.specs.declared.design.RegDecl.{RegDecl}
use Rattle.circuit_eval.specs.Circuits.{state_widths}
use Rattle.circuit_eval.specs.Run.{first_states}
use Rattle.circuit_eval.specs.declared.circuit.StateWire.{StateWire}
use Rattle.net_sched.proofs.circuit.states.Given as goal

abbrev pub invariant-loop-register : goal.invariant-loop-register
invariant-loop-register l = record {
  names : map (λ (wire : StateWire). wire.name) l.states ≡ map (λ (decl : RegDecl). decl.name) (take l.register l.decls);
  widths : state_widths l.states ≡ map (λ (decl : RegDecl). decl.width) (take l.register l.decls);
  first : first_states l.states ≡ map (λ (decl : RegDecl). decl.first) (take l.register l.decls);
  fit : All (λ (wire : StateWire). HasWidth wire.first wire.width) l.states;
  next : map (λ (wire : StateWire). wire.next) l.states ≡ take l.register l.next;
}
