use Rattle.typed_core.proofs.Readings.{PortsAppend-alone, evaluate_appends}
use Rattle.typed_core.proofs.Typed.{PortsFit-alone, evaluate_fits}
use Rattle.typed_core.proofs.laws.actions_keep_what_ports_keep.Goals as goal

pub returns : goal.returns
returns c t = record {
  append = λ env ports action values appends. evaluate_appends env ports appends action values;
  fit = λ d env ports action locals values width events fits keeps typed l e. evaluate_fits d env ports fits keeps action locals values width typed l events e;
  alone = λ widths regs holds. (PortsAppend-alone regs, PortsFit-alone widths regs holds);
}
