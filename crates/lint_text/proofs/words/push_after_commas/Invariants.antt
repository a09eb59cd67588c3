use Rattle.std.proofs.Common.{◌≡◌, ◌++◌, take}
use Rattle.std.specs.List.{flat_map}
use Rattle.lint_text.specs.Text.{after_comma}
use Rattle.lint_text.proofs.words.push_after_commas.Given as goal

abbrev pub invariant-loop-access : goal.invariant-loop-access
invariant-loop-access l = l.text ≡ l.fn.text ++ flat_map after_comma (take l.access-index l.accesses)
