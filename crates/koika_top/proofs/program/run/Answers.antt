use Rattle.std.proofs.Common.{map, string_bytes}
use Rattle.koika_top.proofs.Crews.{ask-few}
use Rattle.koika_top.proofs.program.run.Goals as goal

pub answer_words-requires : goal.answer_words-requires
answer_words-requires g c = record { crew = ask-few _ (record { shared = c.type_bounds.sync-R.shared }) (map string_bytes c.args.words.now) }
