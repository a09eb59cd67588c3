use Rattle.std.proofs.Common.{◌≡◌, List, map, ap, subst, ◌∙◌}
use Rattle.typed_core.specs.declared.design.InputDecl.{InputDecl}
use Rattle.typed_core.specs.declared.design.Parts.{Parts}
use Rattle.typed_core.specs.declared.design.RegDecl.{RegDecl}
use Rattle.typed_core.specs.declared.design.Rule.{Rule}
use Rattle.net_sched.proofs.circuit.named.Goals as goal

pub returns-clause-named : goal.returns-clause-named
returns-clause-named c =
    let decls = subst (λ (d : Parts). c.as_slice.result.now ≡ d.regs) c.design.view_is c.as_slice.ensures in
    let inputs = subst (λ (d : Parts). c.as_slice-2.result.now ≡ d.inputs) c.design.view_is c.as_slice-2.ensures in
    let rules = subst (λ (d : Parts). c.as_slice-3.result.now ≡ d.rules) c.design.view_is c.as_slice-3.ensures in
    record {
      inputs = c.in_ok-inputs.ensures.names ∙ ap (λ (decls : List InputDecl). map (λ (decl : InputDecl). decl.name) decls) inputs;
      input_widths = c.in_ok-inputs.ensures.widths ∙ ap (λ (decls : List InputDecl). map (λ (decl : InputDecl). decl.width) decls) inputs;
      are_inputs = c.in_ok-inputs.ensures.fit;
      states = c.in_ok-states.ensures.names ∙ ap (λ (decls : List RegDecl). map (λ (decl : RegDecl). decl.name) decls) decls;
      state_widths = c.in_ok-states.ensures.widths ∙ ap (λ (decls : List RegDecl). map (λ (decl : RegDecl). decl.width) decls) decls;
      first = c.in_ok-states.ensures.first ∙ ap (λ (decls : List RegDecl). map (λ (decl : RegDecl). decl.first) decls) decls;
      fit = c.in_ok-states.ensures.fit;
      next = c.in_ok-states.ensures.next;
      outputs = c.in_ok-outputs.ensures.names ∙ ap (λ (rules : List Rule). map (λ (rule : Rule). rule.name) rules) rules;
      ids = c.in_ok-outputs.ensures.ids;
    }
