-- What holds of the lines of every text.
use Rattle.std.specs.Prelude.{ℕ, ◌+◌, ◌<◌, ◌^◌, Bool, List, length}
use Rattle.btor2_text.specs.Reading.{AreLinesOf}
use Rattle.btor2_text.specs.declared.line.Line.{Line}
use Rattle.btor2_model.specs.Run.{lines_by_rule}
use Rattle.btor2_model.specs.declared.rule.FormRule.{FormRule}

-- a text has at most one line more than bytes, so its lines of a rule are few where the text is short
abbrev pub HaveFewLines : Type 0
HaveFewLines = (test : FormRule → Bool) (text : List ℕ) (lines : List Line) → AreLinesOf text lines → length text + 1 < 2 ^ 32 → length (lines_by_rule test lines) < 2 ^ 32
