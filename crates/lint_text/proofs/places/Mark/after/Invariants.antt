use Rattle.std.proofs.Common.{◌≡◌, take}
use Rattle.kw_base.specs.Place.{column_after, line_after}
use Rattle.lint_text.proofs.places.Mark.after.Given as goal

abbrev pub invariant-loop-at : goal.invariant-loop-at
invariant-loop-at l = (l.line ≡ line_after (take l.at l.fn.text)) × (l.column ≡ column_after (take l.at l.fn.text))
