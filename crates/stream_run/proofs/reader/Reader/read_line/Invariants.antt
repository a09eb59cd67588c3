use Rattle.std.proofs.Common.{◌≡◌, ◌+◌, ◌-◌, ◌≤◌, vec_len}
use Rattle.std.specs.Io.KnownBytes.{Consumes}
use Rattle.stream_run.specs.inner.Reading.{IsOneLine, to_come}
use Rattle.stream_run.proofs.reader.Reader.read_line.Given as goal

-- the bytes so far have no line feed
abbrev pub invariant-line : goal.invariant-line
invariant-line g l =
    let source = g.S.Source in
    record {
      one : IsOneLine l.bytes.items;
      taken : Consumes (to_come l.fn.self (source.left l.fn.source)) (to_come l.self (source.left l.source)) l.bytes.items;
      never_falls : source.faults l.fn.source ≤ source.faults l.source;
    }

abbrev pub decreases-line : goal.decreases-line
decreases-line g l = l.limit + 1 - vec_len l.bytes
