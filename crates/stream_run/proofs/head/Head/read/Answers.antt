use Rattle.std.proofs.Common.{◌≡◌, ℕ, ◌+◌, ◌-◌, ◌<◌, ◌≤◌, true, false, List, ◌++◌, length, vec_len, sym, ap, ◌∙◌, arith}
use Rattle.std.proofs.lemmas.Grind.{common_steps}
use Rattle.stim_report.specs.Cuts.{is_mark}
use Rattle.front_end.specs.Sources.{longest_source}
use Rattle.stream_run.specs.inner.Reading.{with_end}
use Rattle.stream_run.proofs.HeadsTaken.{head-closed, head-more, head-open, head-taken, head-too-long}
use Rattle.stream_run.proofs.head.Head.read.Goals as goal

pub returns-then-len-gt-LONGEST-clause-refused : goal.returns-then-len-gt-LONGEST-clause-refused
returns-then-len-gt-LONGEST-clause-refused g c =
    let l = c.line in
    let line = c.in_ok-line.line in
    let all = c.in_ok-append_to.ensures in
    let many : longest_source < length (l.bytes.items ++ with_end line.bytes.items line.is_whole) =
    omega (arith, ap length all, c.append_to.new.bytes.ok.0, c.len-in-line.ensures, c.if-len-gt-LONGEST.true) in
    let some = head-too-long _ _ _ l.bytes.items line.bytes.items l.invariant.passed.0 _ l.invariant.passed.1 l.invariant.taken line.is_whole c.in_ok-line.ensures.takes many in
    (some.0, some.1, (c.fault_of_source.ensures, some.2.1))

pub returns-then-not-line-clause-taken : goal.returns-then-not-line-clause-taken
returns-then-not-line-clause-taken g c =
    let l = c.line in
    let line = c.in_ok-line.line in
    let is : line.is_whole ≡ false = first_of (cc, grind (arith, common_steps)) in
    let room : 1048576 - length l.bytes.items ≤ 1048576 - c.len.result = omega (arith, l.bytes.ok.0, c.len.ensures) in
    let short : length c.append_to.new.bytes.items ≤ 1048576 = omega (arith, c.append_to.new.bytes.ok.0, c.len-in-line.ensures, c.if-len-gt-LONGEST.false) in
    head-closed _ _ _ l.bytes.items line.bytes.items l.invariant.passed.0 _ l.invariant.passed.1 l.invariant.taken line.is_whole c.in_ok-line.ensures.takes c.append_to.new.bytes.items c.in_ok-append_to.ensures is room short

pub returns-then-is_mark-clause-taken : goal.returns-then-is_mark-clause-taken
returns-then-is_mark-clause-taken g c =
    let l = c.line in
    let line = c.in_ok-line.line in
    let is : line.is_whole ≡ true = first_of (cc, grind (arith, common_steps)) in
    let marked : is_mark line.bytes.items ≡ true = ap is_mark (sym c.deref.ensures.value) ∙ sym c.is_mark.ensures ∙ c.if-is_mark.true in
    head-open _ _ _ l.bytes.items line.bytes.items l.invariant.passed.0 _ l.invariant.passed.1 l.invariant.taken line.is_whole c.in_ok-line.ensures.takes c.append_to.new.bytes.items c.in_ok-append_to.ensures is marked

pub line-preserved : goal.line-preserved
line-preserved g c =
    let l = c.line in
    let line = c.in_ok-line.line in
    let is : line.is_whole ≡ true = first_of (cc, grind (arith, common_steps)) in
    let unmarked : is_mark line.bytes.items ≡ false = ap is_mark (sym c.deref.ensures.value) ∙ sym c.is_mark.ensures ∙ c.if-is_mark.false in
    record {
      taken = head-taken _ _ _ l.bytes.items line.bytes.items l.invariant.passed.0 _ l.invariant.passed.1 l.invariant.taken line.is_whole c.in_ok-line.ensures.takes c.append_to.new.bytes.items c.in_ok-append_to.ensures;
      passed = (l.invariant.passed.0 + 1, head-more _ _ _ l.bytes.items line.bytes.items l.invariant.passed.0 _ l.invariant.passed.1 l.invariant.taken line.is_whole c.in_ok-line.ensures.takes c.append_to.new.bytes.items c.in_ok-append_to.ensures is unmarked);
      short = omega (arith, c.len-in-line.ensures, c.if-len-gt-LONGEST.false);
      never_falls = omega (arith, l.invariant.never_falls, c.in_ok-line.ensures.never_falls);
    }
