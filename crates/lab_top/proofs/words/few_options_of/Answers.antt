use Rattle.std.proofs.Common.{◌<◌, length, map, string_bytes, sym, arith}
use Rattle.std.proofs.lemmas.List.{length-map}
use Rattle.lab_top.proofs.Options.{options-few}
use Rattle.lab_top.proofs.words.few_options_of.Goals as goal

pub returns-then-words-gt-MOST_WORDS : goal.returns-then-words-gt-MOST_WORDS
returns-then-words-gt-MOST_WORDS c =
    let many : 7 < length (map string_bytes c.args.words.now) = omega (arith, c.if-words-gt-MOST_WORDS.true, length-map c.args.words.now string_bytes) in
    sym (options-few (map string_bytes c.args.words.now) many)
