use Rattle.std.proofs.Common.{◌≡◌, ℕ, take}
use Rattle.btor2_model.specs.Table.{value_in}
use Rattle.btor2_net.specs.inner.Wires.{set_by}
use Rattle.btor2_net.proofs.settings.values_set.Given as goal

abbrev pub invariant-loop-line : goal.invariant-loop-line
invariant-loop-line l = (state : ℕ) → value_in l.values state ≡ set_by l.form state (take l.line-index l.lines)
