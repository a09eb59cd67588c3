-- Widths in lines whose ids are 1, 2, 3 and so on, by the sorts that lines name. Contracts of private functions alone
-- cite it.
use Rattle.std.specs.Prelude.{◌==◌, ℕ, zero, suc, Bool, ◌&&◌, List, [], slice_get}
use Rattle.std.specs.Option.{option_map_or}
use Rattle.btor2_text.specs.declared.line.Argument.{Argument}
use Rattle.btor2_text.specs.declared.line.Line.{Line}
use Rattle.btor2_model.specs.Rules.{is_output, rule_of}
use Rattle.btor2_model.specs.Scope.{id_at, argument_number}

-- the arguments of the line of an id, or none
abbrev pub arguments_of : List Line → ℕ → List Argument
arguments_of lines zero = []
arguments_of lines (suc place) = option_map_or (λ (line : Line). line.arguments) (slice_get lines place) []

-- the width in the line of a value's sort
abbrev pub written_width : List Line → ℕ → ℕ
written_width lines id = argument_number (slice_get (arguments_of lines (id_at (arguments_of lines id) 0)) 1)

-- the line is an output of a value whose sort has one bit
abbrev pub is_narrow : List Line → Line → Bool
is_narrow lines line = is_output (rule_of line.keyword) && (written_width lines (id_at line.arguments 0) == 1)
