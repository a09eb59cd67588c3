use Rattle.std.proofs.Common.{arith}
use Rattle.koika_syntax.proofs.Fronts.{text_begins_keyword, text_begins_name, text_faulty_name}
use Rattle.koika_syntax.proofs.word.word.Goals as goal

pub returns-in-Some : goal.returns-in-Some
returns-in-Some c =
    rw c.word_len-len.ensures
    (text_begins_keyword c.args.text.now c.requires.some_byte c.requires.first c.in-Some.keyword (rw c.word_len-len.ensures at c.in-Some.ensures.found))

pub returns-then-len-gt-LONGEST_NAME : goal.returns-then-len-gt-LONGEST_NAME
returns-then-len-gt-LONGEST_NAME c = text_faulty_name c.args.text.now c.requires.some_byte c.requires.first (omega (arith, c.word_len-len.ensures))

pub returns : goal.returns
returns c =
    rw c.word_len-len.ensures
    (text_begins_name c.args.text.now c.requires.some_byte c.requires.first (rw c.word_len-len.ensures at c.in_default.ensures.absent) (omega (arith, c.word_len-len.ensures)))
