use Rattle.lab_top.specs.inner.Steps.{no_circuit}
use Rattle.lab_top.proofs.program.answer_bytes.Goals as goal

pub returns-in-Why-clause-tells : goal.returns-in-Why-clause-tells
returns-in-Why-clause-tells g c = rw c.in-Why.is (no_circuit, c.explain.ensures.tells)

pub returns-in-Profile-clause-tells : goal.returns-in-Profile-clause-tells
returns-in-Profile-clause-tells g c = rw c.in-Profile.is (no_circuit, c.profile.ensures.tells)

pub returns-in-Waves-clause-tells : goal.returns-in-Waves-clause-tells
returns-in-Waves-clause-tells g c = rw c.in-Waves.is (no_circuit, c.draw.ensures.tells)

pub returns-in-Verilog-clause-tells : goal.returns-in-Verilog-clause-tells
returns-in-Verilog-clause-tells g c = rw c.in-Verilog.is (no_circuit, c.translate.ensures.tells)

pub returns-in-Lint-clause-tells : goal.returns-in-Lint-clause-tells
returns-in-Lint-clause-tells g c = rw c.in-Lint.is (no_circuit, c.remark.ensures.tells)

pub returns-in-Obligation-clause-tells : goal.returns-in-Obligation-clause-tells
returns-in-Obligation-clause-tells g c = rw c.in-Obligation.is c.write_obligation.ensures.tells

pub returns-in-Certify-clause-tells : goal.returns-in-Certify-clause-tells
returns-in-Certify-clause-tells g c = rw c.in-Certify.is c.write_certified.ensures.tells
