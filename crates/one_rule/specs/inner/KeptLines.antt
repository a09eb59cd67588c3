-- What private functions alone cite of this crate's `KeptLines`.
use Rattle.std.specs.Prelude.{◌≡◌, List, All}
use Rattle.one_rule.specs.Stimulus.{Assignment, value_by}

-- each value that a line gives is the input's value by the other line
abbrev pub AgreesWith : List Assignment → List Assignment → Type 0
AgreesWith line other = All (λ (a : Assignment). value_by other a.0 a.1.width ≡ a.1) line
