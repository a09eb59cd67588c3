-- What `profile` writes of the numbers of a run. This project's own text form; accesses are those of journals.
use Rattle.std.specs.Prelude.{ℕ, ◌+◌, List, [], ◌∷◌, ◌++◌, codes, decimal, Option, Some, None, slice_get}
use Rattle.std.specs.List.{flat_map}
use Rattle.typed_core.specs.declared.design.Parts.{Parts}
use Rattle.attempt_log.specs.declared.cause.Cause.{Cause}
use Rattle.attempt_log.specs.declared.cause.Cause.TheVariants as cause
use Rattle.journal_check.specs.Printing.{access_text, ended, joined_tokens, rule_name}
use Rattle.lab_core.specs.Numbers.{Counted, RunNumbers, RuleNumbers, unwatched_count}

-- how many cycles there were
abbrev pub cycles_line : ℕ → List ℕ
cycles_line cycles = ended (joined_tokens (codes "cycles" ∷ decimal cycles ∷ []))

-- the five counts of a rule
abbrev pub counts_line : List ℕ → RuleNumbers → List ℕ
counts_line name n =
    ended (joined_tokens (codes "rule" ∷ name ∷ codes "fired" ∷ decimal n.fired ∷ codes "abort" ∷ decimal n.aborted
    ∷ codes "own" ∷ decimal n.own ∷ codes "clash" ∷ decimal n.clashed ∷ codes "untried" ∷ decimal n.untried ∷ []))

-- a refusal of a rule
abbrev pub refusal_tokens : Parts → List ℕ → Cause → List (List ℕ)
refusal_tokens design name cause.Abort = codes "abort" ∷ name ∷ []
refusal_tokens design name (cause.OwnClash a) = codes "own" ∷ name ∷ access_text design a ∷ []
refusal_tokens design name (cause.Clash a rule earlier) =
    codes "clash" ∷ name ∷ access_text design a ∷ rule_name design rule ∷ access_text design earlier ∷ []

-- a first cycle
abbrev pub first_tokens : ℕ → List (List ℕ)
first_tokens cycle = codes "first" ∷ decimal cycle ∷ []

-- a refusal with its count and its first cycle
abbrev pub refusal_line : Parts → List ℕ → Counted → List ℕ
refusal_line design name c =
    ended (joined_tokens (refusal_tokens design name c.cause ++ (decimal c.count ∷ first_tokens c.first)))

-- the lines of a rule
abbrev pub rule_text : Parts → List ℕ → RuleNumbers → List ℕ
rule_text design name n = counts_line name n ++ flat_map (refusal_line design name) n.refusals

-- the lines of these rules, the first of them of this number
abbrev pub rules_text : Parts → ℕ → List RuleNumbers → List ℕ
rules_text design rule [] = []
rules_text design rule (n ∷ rules) = rule_text design (rule_name design rule) n ++ rules_text design (rule + 1) rules

-- the first cycle that says nothing of an assertion, if there is one
abbrev pub unwatched_tokens : Option ℕ → List (List ℕ)
unwatched_tokens None = []
unwatched_tokens (Some cycle) = first_tokens cycle

-- the counts of an assertion: it holds in the cycles in which its rule aborts, and is violated in those in which it fires
abbrev pub assert_counts : List ℕ → RuleNumbers → List (List ℕ)
assert_counts name n =
    codes "assert" ∷ name ∷ codes "held" ∷ decimal n.aborted ∷ codes "violated" ∷ decimal n.fired ∷ codes "unwatched" ∷ decimal (unwatched_count n) ∷ []

-- the line of an assertion, whose rule has these numbers
abbrev pub assert_line : List ℕ → Option RuleNumbers → List ℕ
assert_line name None = []
assert_line name (Some n) = ended (joined_tokens (assert_counts name n ++ unwatched_tokens n.unwatched))

-- the text of numbers, with the assertions of these rules
abbrev pub profile_text : Parts → List ℕ → RunNumbers → List ℕ
profile_text design marks numbers =
    cycles_line numbers.cycles ++ rules_text design 0 numbers.rules
    ++ flat_map (λ mark. assert_line (rule_name design mark) (slice_get numbers.rules mark)) marks
