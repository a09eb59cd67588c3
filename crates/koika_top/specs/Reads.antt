-- What `check` and `print` answer to a source.
use Rattle.std.specs.Prelude.{◌≡◌, ℕ, ◌⊎◌, List, [], ◌∷◌, ◌++◌, codes, decimal}
use Rattle.koika_syntax.specs.Grammar.{tree_leaves}
use Rattle.koika_syntax.specs.declared.tree.Tree.{Tree}
use Rattle.koika_check.specs.Counts.{counts_of}
use Rattle.koika_check.specs.declared.checked.Checked.{Checked}
use Rattle.koika_check.specs.declared.counts.Counts.{Counts}
use Rattle.koika_print.specs.Printed.{printed}
use Rattle.one_rule.specs.Stimulus.{InputVectors}
use Rattle.kw_bits.specs.declared.host.HostSpec.{HostSpec}
use Rattle.front_end.specs.Sources.{IsTooLong, IsUnread, IsUnspelled, Spells, SpellsTree}
use Rattle.front_end.specs.declared.answer.Answer.{Answer}
use Rattle.front_end.specs.declared.answer.Answer.TheVariants.{Usage, Refused, Written}

-- ok registers=R rules=Q nodes=M weight=W
abbrev pub counts_line : Counts → List ℕ
counts_line c =
    codes "ok registers=" ++ decimal c.registers ++ codes " rules=" ++ decimal c.rules ++ codes " nodes=" ++ decimal c.nodes
    ++ codes " weight=" ++ decimal c.weight ++ 10 ∷ []

-- the text tells how large the source's design is; the source spells a stimulus for it too
pub record TellsCounts (hosts : List HostSpec) (source text : List ℕ) : Type 0 where
  pub design : Checked
  pub stimulus : InputVectors
  pub spelled : Spells hosts source design stimulus
  pub told : text ≡ counts_line (counts_of design)

-- the answer of `check`
abbrev pub AnswersCheck : List HostSpec → List ℕ → Answer → Type 0
AnswersCheck hosts source Usage = ⊥
AnswersCheck hosts source (Refused fault) = IsTooLong source fault ⊎ IsUnspelled hosts source fault
AnswersCheck hosts source (Written text) = TellsCounts hosts source text

-- the text is the source's tree, printed; nothing after the mark is looked at
pub record ShowsTree (source text : List ℕ) : Type 0 where
  pub tree : Tree
  pub spelled : SpellsTree source tree
  pub told : text ≡ printed (tree_leaves tree)

-- the answer of `print`
abbrev pub AnswersPrint : List ℕ → Answer → Type 0
AnswersPrint source Usage = ⊥
AnswersPrint source (Refused fault) = IsTooLong source fault ⊎ IsUnread source fault
AnswersPrint source (Written text) = ShowsTree source text
