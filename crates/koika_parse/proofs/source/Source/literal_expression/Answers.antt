use Rattle.koika_parse.proofs.PrimaryWords.{literal_start}
use Rattle.koika_parse.proofs.Reading.{as_leaves}
use Rattle.koika_parse.proofs.Parts.{is_literal, level_literal}
use Rattle.koika_parse.proofs.Calls.{leaves_literal}
use Rattle.koika_parse.proofs.Expected.{fails_last, last_part}
use Rattle.koika_parse.proofs.source.Source.literal_expression.Goals as goal

pub returns-clause-read : goal.returns-clause-read
returns-clause-read c = as_leaves _ (leaves_literal c.in_ok-literal.literal) (c.in_ok-literal.ensures.read)

pub returns-clause-is : goal.returns-clause-is
returns-clause-is c = is_literal c.in_ok-literal.literal c.in_ok-literal.ensures.is

pub returns-clause-level : goal.returns-clause-level
returns-clause-level c = level_literal c.in_ok-literal.literal

pub returns-in_err-literal-clause-takes : goal.returns-in_err-literal-clause-takes
returns-in_err-literal-clause-takes c = fails_last c.from_residual.result c.from_residual.ensures literal_start c.in_err-literal.ensures.takes

pub returns-clause-takes : goal.returns-clause-takes
returns-clause-takes c = last_part _ literal_start c.in_ok-literal.ensures.takes
