use Rattle.lab_top.proofs.Modules.{has-flags, is-module}
use Rattle.lab_top.proofs.verilog.design_text.Goals as goal

pub module_text-requires : goal.module_text-requires
module_text-requires c = has-flags c.args.lowered.now.checked c.in_ok-circuit.circuit c.in_ok-circuit.ensures.wired

pub returns : goal.returns
returns c =
    let it = c.args.lowered.now in
    let circuit = c.in_ok-circuit.circuit in
    let wired = c.in_ok-circuit.ensures.wired in
    is-module it.checked circuit wired it.names it.distinct
    (c.circuits_have_the_first_values.ensures.words it.checked circuit c.requires wired) c.args.ports
    c.a_reset_leaves_the_first_values.ensures c.in_ok-text.text c.in_ok-text.ensures
