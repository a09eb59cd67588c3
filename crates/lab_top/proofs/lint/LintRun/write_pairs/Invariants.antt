use Rattle.std.proofs.Common.{Ok}
use Rattle.front_end.specs.Streams.{stream}
use Rattle.front_end.specs.Told.{Told}
use Rattle.lint_text.specs.Findings.{order_of}
use Rattle.lab_top.specs.inner.Lint.{pairs_to}
use Rattle.lab_top.proofs.lint.LintRun.write_pairs.Given as goal

-- the lines of the rules before this one are written
abbrev pub invariant-loop-rule : goal.invariant-loop-rule
invariant-loop-rule g l =
    let it = l.self in
    Told (pairs_to it.lowered.checked it.places (order_of it.findings) l.rule)
    (stream g.K.Sink.written g.K.Sink.faults l.fn.sink l.sink) (Ok tt)
