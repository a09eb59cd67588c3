use Rattle.koika_check.proofs.Blocks.{value-bound}
use Rattle.koika_check.proofs.Growth.{checker-of}
use Rattle.koika_check.proofs.checker.Checker.bound.Goals as goal

pub returns-in_ok-bind-in-Some : goal.returns-in_ok-bind-in-Some
returns-in_ok-bind-in-Some c =
    value-bound c.args.self.now (checker-of c.args.self.now c.requires.checker) c.bind.new.self c.in_ok-bind-in-Some.ensures.kept c.args.name.now c.as_slice.result.now c.in-Some.shape c.args.value c.as_slice.ensures c.in-Some.is c.requires.part
    c.in_ok-bind-in-Some.ensures.bound c.in_ok-bind-in-Some.ensures.shapes
