use Rattle.std.proofs.Common.{false}
use Rattle.one_rule.specs.Hosts.{host_specs}
use Rattle.front_end.proofs.Told.{tells-made}
use Rattle.lab_top.specs.Answer.{lab}
use Rattle.lab_top.specs.Certify.{AnswersObligation}
use Rattle.lab_top.proofs.Answering.{embeds}
use Rattle.lab_top.proofs.Failing.{never-failed}
use Rattle.lab_top.proofs.Reading.{makes-obligation}
use Rattle.lab_top.proofs.program.write_obligation.Goals as goal

pub returns-clause-tells : goal.returns-clause-tells
returns-clause-tells g c =
    let hosts = host_specs c.args.hosts.now in
    let source = c.args.source.now in
    let text = c.obligation_text-made in
    let made = makes-obligation hosts c.args.name source text.result text.ensures.text text.ensures.refused in
    let circuit = made.0 in
    rw c.of.ensures (
      circuit,
      tells-made (lab circuit) (embeds circuit false) (AnswersObligation circuit hosts c.args.name source) _ _ text.result made.1
          c.write_made.ensures,
    )

pub returns-clause-fails : goal.returns-clause-fails
returns-clause-fails g c failed = never-failed c.write_made.result _ c.of.ensures failed
