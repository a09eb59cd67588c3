use Rattle.kw_base.specs.Texts.{separates}
use Rattle.kw_base.proofs.Cutting.{first_word, no_word, none_by_test, some_by_test, words_of-more, words_of-none}
use Rattle.kw_base.proofs.texts.next_word.Goals as goal

pub returns-then-is_empty-clause-no_columns : goal.returns-then-is_empty-clause-no_columns
returns-then-is_empty-clause-no_columns c = λ column.
    let blanks = c.split_separators.ensures in
    let word = c.split_before.ensures in
    no_word (separates c.args.at) column _ _ _ _ _ blanks.parts blanks.front blanks.rest word.parts word.rest (none_by_test _ _ c.is_empty.ensures c.if-is_empty.true)

pub returns-then-is_empty-clause-absent : goal.returns-then-is_empty-clause-absent
returns-then-is_empty-clause-absent c = words_of-none (separates c.args.at) c.args.bytes.now (returns-then-is_empty-clause-no_columns c 0)

pub returns-clause-columns : goal.returns-clause-columns
returns-clause-columns c = λ column.
    let blanks = c.split_separators.ensures in
    let word = c.split_before.ensures in
    first_word (separates c.args.at) column _ _ _ _ _ blanks.parts blanks.front word.parts word.front word.rest (some_by_test _ _ c.is_empty.ensures c.if-is_empty.false)

pub returns-clause-found : goal.returns-clause-found
returns-clause-found c = words_of-more (separates c.args.at) c.args.bytes.now _ c.split_before.result.0.now _ c.split_before.result.1.now (returns-clause-columns c 0)
