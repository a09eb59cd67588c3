use Rattle.std.proofs.Common.{◌≡◌, ℕ, ◌*◌, ◌≤◌, length}
use Rattle.std.specs.Prelude.{Some}
use Rattle.aig_blast.specs.inner.Trims.{place_at}
use Rattle.aig_blast.proofs.trim.source_places.Given as goal

abbrev pub invariant-loop-variable : goal.invariant-loop-variable
invariant-loop-variable l =
    (length l.places.items ≡ l.variable) × ((v place : ℕ) → place_at l.places.items v ≡ Some place → (place ≡ 2 * v) × (v ≤ l.sources))
