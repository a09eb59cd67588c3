-- Options are few words: each stands at most once.
use Rattle.std.proofs.Common.{◌≡◌, ℕ, ◌+◌, ◌<◌, ◌≤◌, Bool, true, false, List, [], ◌∷◌, length, Option, Some, None, refl, arith, take, drop}
use Rattle.std.specs.Prelude.{codes, if◌then◌else◌}
use Rattle.std.specs.Str.{bytes_eq}
use Rattle.front_end.specs.GivenOnce.{asked_flag, given_once}
use Rattle.front_end.proofs.GivenFew.{Takes, either-takes, fewer, flag_few, flag_words, once-takes, value_few, value_words}
use Rattle.front_end.specs.NumberWords.{number_of_word}
use Rattle.lab_top.specs.Words.{name_of, no_options, options_of, with_cycle, with_cycles, with_rule, with_strict, with_word}
use Rattle.lab_top.specs.declared.words.Options.{Options}

abbrev pub words_of : Options → ℕ
words_of o = value_words o.cycle + value_words o.cycles + value_words o.rule + flag_words o.is_strict

with_cycle-takes : (word : List ℕ) (others : Option Options) (m : ℕ) → Takes words_of m others → Takes words_of (m + 2) (with_cycle word others)
with_cycle-takes word None m h = tt
with_cycle-takes word (Some o) m h =
    once-takes words_of o.cycle _ (number_of_word word) (m + 2) (λ n none. let few : m ≤ 0 + value_words o.cycles + value_words o.rule + flag_words o.is_strict = rw none at h in omega (arith, few))

with_cycles-takes : (word : List ℕ) (others : Option Options) (m : ℕ) → Takes words_of m others → Takes words_of (m + 2) (with_cycles word others)
with_cycles-takes word None m h = tt
with_cycles-takes word (Some o) m h =
    once-takes words_of o.cycles _ (number_of_word word) (m + 2) (λ n none. let few : m ≤ value_words o.cycle + 0 + value_words o.rule + flag_words o.is_strict = rw none at h in omega (arith, few))

with_rule-takes : (word : List ℕ) (others : Option Options) (m : ℕ) → Takes words_of m others → Takes words_of (m + 2) (with_rule word others)
with_rule-takes word None m h = tt
with_rule-takes word (Some o) m h =
    once-takes words_of o.rule _ (name_of word) (m + 2) (λ n none. let few : m ≤ value_words o.cycle + value_words o.cycles + 0 + flag_words o.is_strict = rw none at h in omega (arith, few))

with_strict-takes : (others : Option Options) (m : ℕ) → Takes words_of m others → Takes words_of (m + 1) (with_strict others)
with_strict-takes None m h = tt
with_strict-takes (Some o) m h = of o.is_strict refl
  where
    of : (b : Bool) → o.is_strict ≡ b → Takes words_of (m + 1) (given_once (asked_flag b) (λ strict. record o { is_strict = strict }) (Some true))
    of false is = let few : m ≤ value_words o.cycle + value_words o.cycles + value_words o.rule + 0 = rw is at h in omega (arith, few)
    of true is = tt

with_word-takes : (word : List ℕ) (others : Option Options) (m : ℕ) → Takes words_of m others → Takes words_of (m + 1) (with_word word others)
with_word-takes word others m h =
    let one : m + 1 ≤ m + 2 = omega arith in
    either-takes words_of (bytes_eq word (codes "--strict")) _ _ (m + 1)
    (with_strict-takes others m h)
    (either-takes words_of (bytes_eq (take 8 word) (codes "--cycle=")) _ _ (m + 1)
    (fewer words_of (with_cycle (drop 8 word) others) (m + 2) (m + 1) one (with_cycle-takes (drop 8 word) others m h))
    (either-takes words_of (bytes_eq (take 9 word) (codes "--cycles=")) _ _ (m + 1)
    (fewer words_of (with_cycles (drop 9 word) others) (m + 2) (m + 1) one (with_cycles-takes (drop 9 word) others m h))
    (either-takes words_of (bytes_eq (take 7 word) (codes "--rule=")) _ None (m + 1)
    (fewer words_of (with_rule (drop 7 word) others) (m + 2) (m + 1) one (with_rule-takes (drop 7 word) others m h))
    tt)))

-- options take as many words as they are given by
pub options-take : (words : List (List ℕ)) → Takes words_of (length words) (options_of words)
options-take [] = omega arith
options-take (word ∷ []) = with_word-takes word (Some no_options) 0 (omega arith)
options-take (word ∷ value ∷ rest) =
    fewer words_of (options_of (word ∷ value ∷ rest)) (length rest + 2) (length (word ∷ value ∷ rest)) (omega arith)
    (either-takes words_of (bytes_eq word (codes "--cycle")) (with_cycle value (options_of rest)) _ (length rest + 2)
    (with_cycle-takes value (options_of rest) (length rest) (options-take rest))
    (either-takes words_of (bytes_eq word (codes "--cycles")) (with_cycles value (options_of rest)) _ (length rest + 2)
    (with_cycles-takes value (options_of rest) (length rest) (options-take rest))
    (either-takes words_of (bytes_eq word (codes "--rule")) (with_rule value (options_of rest)) _ (length rest + 2)
    (with_rule-takes value (options_of rest) (length rest) (options-take rest))
    (fewer words_of (with_word word (options_of (value ∷ rest))) (length (value ∷ rest) + 1) (length rest + 2) (omega arith)
    (with_word-takes word (options_of (value ∷ rest)) (length (value ∷ rest)) (options-take (value ∷ rest)))))))

too_many : (options : Option Options) (n : ℕ) → 7 < n → Takes words_of n options → options ≡ None
too_many None n h t = refl
too_many (Some o) n h t = absurd (omega (arith, h, t, value_few o.cycle, value_few o.cycles, value_few o.rule, flag_few o.is_strict))

-- more than seven words are no options
pub options-few : (words : List (List ℕ)) → 7 < length words → options_of words ≡ None
options-few words h = too_many (options_of words) (length words) h (options-take words)
