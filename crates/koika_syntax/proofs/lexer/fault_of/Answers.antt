use Rattle.std.proofs.Common.{drop, length-drop, arith}
use Rattle.koika_syntax.specs.inner.LexemeAnswers.{number_of, offset_of}
use Rattle.koika_syntax.proofs.Cuts.{faulty_within}
use Rattle.koika_syntax.proofs.lexer.fault_of.Goals as goal

pub overflow_add-offset : goal.overflow_add-offset
overflow_add-offset c =
    let within = faulty_within (drop c.args.offset c.args.text.now) (number_of c.args.flaw) (offset_of c.args.flaw) c.requires.faulty in
    omega (arith, within, length-drop c.args.offset c.args.text.now, c.offset.ensures)

pub place_of-requires : goal.place_of-requires
place_of-requires c =
    let within = faulty_within (drop c.args.offset c.args.text.now) (number_of c.args.flaw) (offset_of c.args.flaw) c.requires.faulty in
    omega (arith, within, length-drop c.args.offset c.args.text.now, c.offset.ensures)
