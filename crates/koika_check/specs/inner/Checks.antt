-- What private functions alone cite of this crate's `Checks`.
use Rattle.std.specs.Prelude.{ℕ, List}
use Rattle.koika_syntax.specs.declared.tree.Choice.{Choice, fold-Choice}
use Rattle.koika_check.specs.Checks.{places_in_choice, places_in_scheduler}

-- ---- limits

unfoldable pub choice_places : Choice → List ℕ
choice_places = fold-Choice (List ℕ) (List ℕ) places_in_choice places_in_scheduler
