use Rattle.std.proofs.Common.{◌≡◌, ℕ, ◌-◌, ◌≤◌, vec_len}
use Rattle.std.specs.Io.KnownBytes.{Consumes}
use Rattle.stream_run.specs.inner.Reading.{to_come}
use Rattle.stream_run.proofs.Heads.{Passed}
use Rattle.stream_run.proofs.head.Head.read.Given as goal

-- the bytes so far are lines, none of them the mark
abbrev pub invariant-line : goal.invariant-line
invariant-line g l =
    let source = g.S.Source in
    record {
      taken : Consumes (to_come l.fn.reader (source.left l.fn.source)) (to_come l.reader (source.left l.source)) l.bytes.items;
      passed : (lines : ℕ) × Passed l.bytes.items lines;
      short : vec_len l.bytes ≤ 1048576;
      never_falls : source.faults l.fn.source ≤ source.faults l.source;
    }

abbrev pub decreases-line : goal.decreases-line
decreases-line g l = 1048577 - vec_len l.bytes
