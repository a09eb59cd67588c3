use Rattle.std.proofs.Common.{◌≡◌, ◌+◌, drop, length}
use Rattle.koika_check.specs.inner.Paths.{IsAt}
use Rattle.koika_check.specs.Schedule.{path_behind}
use Rattle.koika_check.proofs.schedule.Nodes.names.Given as goal

abbrev pub invariant-loop-name : goal.invariant-loop-name
invariant-loop-name l =
    IsAt l.checker l.self × (l.self.made ≡ l.fn.self.made) × (length l.self.path.rules ≡ length l.fn.self.path.rules + l.name-index) ×
    (path_behind l.checker.design (drop l.name-index l.names) l.self.path.rules ≡ path_behind l.checker.design l.names l.fn.self.path.rules)
