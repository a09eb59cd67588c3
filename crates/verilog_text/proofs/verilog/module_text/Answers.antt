use Rattle.std.proofs.Common.{◌≡◌, ◌^◌, ◌<◌, length, ap, subst, ◌∙◌}
use Rattle.circuit_eval.specs.Circuits.{IsCircuit}
use Rattle.circuit_eval.specs.declared.circuit.Wires.{Wires}
use Rattle.verilog_text.specs.Texts.{text_of}
use Rattle.verilog_text.specs.declared.draft.Draft.{Draft}
use Rattle.verilog_text.specs.declared.module.Module.{Module}
use Rattle.verilog_text.specs.declared.verilog.Options.{Options}
use Rattle.verilog_text.specs.inner.Making.{draft_of, module_of, module_with}
use Rattle.verilog_text.proofs.NamedModules.{are-named}
use Rattle.verilog_text.proofs.Translated.{is-legal, parts, runs}
use Rattle.verilog_text.proofs.verilog.module_text.Goals as goal

pub returns : goal.returns
returns c =
    let circuit : Wires = c.args.circuit.now in
    let options : Options = c.args.options in
    let valid : IsCircuit circuit = subst IsCircuit c.circuit.view_is c.circuit.invariant in
    let draft : c.in_ok-draft.draft ≡ draft_of circuit.net = c.in_ok-draft.ensures
    ∙ ap (λ (w : Wires). draft_of w.net) c.circuit.view_is in
    let same : c.in_ok-made.made ≡ module_of circuit options = c.in_ok-made.ensures
    ∙ ap (λ (d : Draft). module_with circuit d options) draft in
    record {
      of = module_of circuit options;
      printed = c.in_ok-text.ensures ∙ ap text_of same;
      legal = is-legal circuit options valid c.requires
          (subst (λ (m : Module). length m.wires < 2 ^ 64) same c.has_few_wires.ensures);
      named = λ names. are-named circuit names (draft_of circuit.net) options;
      parts = parts circuit options valid c.requires;
      run = runs circuit options valid c.requires;
    }
