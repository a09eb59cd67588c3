use Rattle.koika_top.proofs.Generated.{generated}
use Rattle.koika_top.proofs.GeneratedSource.{pipeline-shown, pipeline-whole}
use Rattle.koika_top.proofs.laws.generated_as_printed.Goals as goal

pub returns-clause-whole : goal.returns-clause-whole
returns-clause-whole c = pipeline-whole

pub returns-clause-shown : goal.returns-clause-shown
returns-clause-shown c = pipeline-shown

pub returns-clause-each : goal.returns-clause-each
returns-clause-each c = λ stages tokens tree most are derived. generated stages tokens tree most are derived
