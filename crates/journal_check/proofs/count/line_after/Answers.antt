use Rattle.std.proofs.Common.{◌≡◌, ◌+◌, length, refl, ap, ◌∙◌, arith}
use Rattle.kw_base.specs.Texts.{lines_of}
use Rattle.journal_check.proofs.count.line_after.Goals as goal

pub loop-line-init : goal.loop-line-init
loop-line-init c = record { few = omega (arith, c.ranges.first_line.fits); same = refl }

pub loop-line-preserved : goal.loop-line-preserved
loop-line-preserved c =
    let longer : length (lines_of c.loop-line.rest.now) ≡ length (lines_of c.in-Some.line.rest.now) + 1 = ap length c.in-Some.ensures.found ∙ omega arith in
    record {
      few = omega (arith, c.saturating_add-number.ensures);
      same = omega (arith, longer, c.loop-line.invariant.few, c.loop-line.invariant.same, c.saturating_add-number.ensures);
    }

pub returns : goal.returns
returns c =
    let none : length (lines_of c.loop-line.rest.now) ≡ 0 = ap length c.in_default.ensures.absent in
    omega (arith, none, c.loop-line.invariant.few, c.loop-line.invariant.same)
