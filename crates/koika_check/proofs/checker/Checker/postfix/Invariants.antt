use Rattle.std.proofs.Common.{◌≡◌, [], take}
use Rattle.koika_check.specs.inner.Checking.{IsPart, arrays_of}
use Rattle.koika_check.specs.Constructs.{take_part}
use Rattle.koika_check.specs.Outcomes.{Gives, one_by_one}
use Rattle.koika_check.specs.inner.Shapes.{part_of}
use Rattle.koika_check.proofs.checker.Checker.postfix.Given as goal

abbrev pub invariant-loop-suffix : goal.invariant-loop-suffix
invariant-loop-suffix l =
    IsPart l.fn.self l.whole ×
    (one_by_one (take_part l.fn.self.design) (take l.suffix-index l.suffixes) (record { whole = part_of (arrays_of l.fn.self) l.fn.primary.part; selections = [] })
    ≡ Gives (record { whole = part_of (arrays_of l.fn.self) l.whole; selections = l.selections }))
