use Rattle.std.proofs.Common.{map, string_bytes}
use Rattle.koika_top.proofs.Crews.{ask-alone}
use Rattle.koika_top.proofs.program.run_here.Goals as goal

pub answer_words-requires : goal.answer_words-requires
answer_words-requires g c = record { crew = ask-alone (map string_bytes c.args.words.now) c.requires.alone }
