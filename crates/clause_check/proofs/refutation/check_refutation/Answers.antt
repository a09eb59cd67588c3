use Rattle.std.proofs.Common.{sym, ◌∙◌}
use Rattle.kw_base.specs.Texts.{lines_of}
use Rattle.clause_check.specs.inner.Progresses.{progress_of}
use Rattle.clause_check.proofs.Checking.{ends_refuted, first_line_same}
use Rattle.clause_check.proofs.Soundness.{refuted}
use Rattle.clause_check.proofs.refutation.check_refutation.Goals as goal

pub loop-cut-init : goal.loop-cut-init
loop-cut-init c =
    record {
      ready = record { database = c.in_ok-database.ensures.variables ∙ sym c.variables-variables.ensures; values = c.in_ok-values.ensures.count; trail = c.in_ok-values.ensures.open };
      same = first_line_same c.args.formula.now c.variables-variables.result (progress_of c.in_ok-database.database) c.args.first_line c.args.bytes.now c.variables-variables.ensures c.in_ok-database.ensures.progress;
    }

pub returns-then-checker-clause-refuted : goal.returns-then-checker-clause-refuted
returns-then-checker-clause-refuted c =
    refuted c.args.formula.now c.args.first_line c.args.bytes.now
    (sym c.loop-cut.invariant.same ∙ ends_refuted c.variables-variables.result (progress_of c.loop-cut.checker.database) c.loop-cut.number (lines_of c.loop-cut.rest.now) c.in_default.ensures.absent c.if-checker.true)
