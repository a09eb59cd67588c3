use Rattle.std.proofs.Common.{false}
use Rattle.one_rule.specs.Hosts.{host_specs}
use Rattle.front_end.proofs.Told.{tells-made}
use Rattle.lab_top.specs.Answer.{lab}
use Rattle.lab_top.specs.Verilog.{AnswersVerilog, IsModuleOf}
use Rattle.lab_top.specs.inner.Steps.{no_circuit}
use Rattle.lab_top.proofs.Answering.{embeds}
use Rattle.lab_top.proofs.Failing.{never-failed}
use Rattle.lab_top.proofs.Reading.{makes-of}
use Rattle.lab_top.proofs.program.translate.Goals as goal

pub returns-clause-tells : goal.returns-clause-tells
returns-clause-tells g c =
    let hosts = host_specs c.args.hosts.now in
    let source = c.args.source.now in
    rw c.of.ensures
    (tells-made (lab no_circuit) (embeds no_circuit false) (AnswersVerilog hosts c.args.ports source) _ _ c.verilog_source-made.result
    (makes-of (IsModuleOf c.args.ports) hosts source _ c.verilog_source-made.ensures.text
    c.verilog_source-made.ensures.refused)
    c.write_made.ensures)

pub returns-clause-fails : goal.returns-clause-fails
returns-clause-fails g c failed = never-failed c.write_made.result _ c.of.ensures failed
