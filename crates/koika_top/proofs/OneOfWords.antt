-- Words and a source have one answer, by its status and its text.
use Rattle.std.proofs.Common.{◌≡◌, ℕ, true, false, List, Option, Some, None, sym, ap, ◌∙◌}
use Rattle.std.specs.Prelude.{MatchOption}
use Rattle.std.proofs.lemmas.Bool.{false≢true}
use Rattle.kw_bits.specs.declared.host.HostSpec.{HostSpec}
use Rattle.koika_top.specs.Answer.{Answers, IsAnswer, IsLikeAnswer, IsSameAnswer, has_one_text, text_of}
use Rattle.front_end.specs.Program.{status_of}
use Rattle.koika_top.specs.Words.{command_of}
use Rattle.front_end.specs.declared.answer.Answer.{Answer}
use Rattle.front_end.specs.declared.answer.Answer.TheVariants.{Usage}
use Rattle.koika_top.specs.declared.words.Command.{Command}
use Rattle.koika_top.specs.declared.words.Command.TheVariants.{Check, Print, Sim, Compile, Btorsim, Gen, Aiger, Aigsim, Journal, Recheck}
use Rattle.koika_top.proofs.OneAigAnswer.{aigsim-same}
use Rattle.koika_top.proofs.OneAnswer.{aiger-like, check-same, compile-like, journal-like, print-same, same-like, sim-same}
use Rattle.koika_top.proofs.OneCircuitAnswer.{btorsim-same}
use Rattle.koika_top.proofs.OneRecheck.{recheck-same}

-- answers that are equal can't be told apart
equal-same : (a b : Answer) → a ≡ b → IsSameAnswer a b
equal-same a b e = record { status = ap status_of e; text = ap text_of e }

-- the answers of a command to a source have one status
command-like : (hosts : List HostSpec) (command : Command) (source : List ℕ) (a b : Answer) → Answers hosts command source a → Answers hosts command source b → IsLikeAnswer a b
command-like hosts Check source a b h k = same-like a b (check-same hosts source a b h k)
command-like hosts Print source a b h k = same-like a b (print-same source a b h k)
command-like hosts (Sim cycles shown engine) source a b h k = same-like a b (sim-same hosts source cycles shown a b h k)
command-like hosts Compile source a b h k = compile-like hosts source a b h k
command-like hosts (Btorsim cycles shown) source a b h k = same-like a b (btorsim-same source cycles shown a b h k)
command-like hosts (Gen stages) source a b h k = same-like a b (equal-same a b (h ∙ sym k))
command-like hosts Aiger source a b h k = aiger-like hosts source a b h k
command-like hosts (Aigsim cycles shown) source a b h k = same-like a b (aigsim-same source cycles shown a b h k)
command-like hosts (Journal cycles workers) source a b h k = journal-like hosts source cycles workers a b h k
command-like hosts (Recheck cycles) source a b h k = same-like a b (recheck-same hosts cycles source a b h k)

like-by_words : (hosts : List HostSpec) (command : Option Command) (source : List ℕ) (a b : Answer) → MatchOption command (a ≡ Usage) (λ c. Answers hosts c source a) → MatchOption command (b ≡ Usage) (λ c. Answers hosts c source b) → IsLikeAnswer a b
like-by_words hosts None source a b h k = same-like a b (equal-same a b (h ∙ sym k))
like-by_words hosts (Some command) source a b h k = command-like hosts command source a b h k

pub one_status : (hosts : List HostSpec) (words : List (List ℕ)) (source : List ℕ) (a b : Answer) → IsAnswer hosts words source a → IsAnswer hosts words source b → IsLikeAnswer a b
one_status hosts words source a b h k = like-by_words hosts (command_of words) source a b h k

-- and all but those of `compile`, `aiger` and `sim --journal` are one
same-by_words : (hosts : List HostSpec) (command : Option Command) (source : List ℕ) (a b : Answer) → has_one_text command ≡ true → MatchOption command (a ≡ Usage) (λ c. Answers hosts c source a) → MatchOption command (b ≡ Usage) (λ c. Answers hosts c source b) → IsSameAnswer a b
same-by_words hosts None source a b one h k = equal-same a b (h ∙ sym k)
same-by_words hosts (Some Check) source a b one h k = check-same hosts source a b h k
same-by_words hosts (Some Print) source a b one h k = print-same source a b h k
same-by_words hosts (Some (Sim cycles shown engine)) source a b one h k = sim-same hosts source cycles shown a b h k
same-by_words hosts (Some Compile) source a b one h k = absurd (false≢true one)
same-by_words hosts (Some (Btorsim cycles shown)) source a b one h k = btorsim-same source cycles shown a b h k
same-by_words hosts (Some (Gen stages)) source a b one h k = equal-same a b (h ∙ sym k)
same-by_words hosts (Some Aiger) source a b one h k = absurd (false≢true one)
same-by_words hosts (Some (Aigsim cycles shown)) source a b one h k = aigsim-same source cycles shown a b h k
same-by_words hosts (Some (Journal cycles workers)) source a b one h k = absurd (false≢true one)
same-by_words hosts (Some (Recheck cycles)) source a b one h k = recheck-same hosts cycles source a b h k

pub one_answer : (hosts : List HostSpec) (words : List (List ℕ)) (source : List ℕ) (a b : Answer) → has_one_text (command_of words) ≡ true → IsAnswer hosts words source a → IsAnswer hosts words source b → IsSameAnswer a b
one_answer hosts words source a b one h k = same-by_words hosts (command_of words) source a b one h k
