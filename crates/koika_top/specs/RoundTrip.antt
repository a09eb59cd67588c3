-- The law of printed trees: the text of a tree of the grammar has tokens, and they are read again as that tree, up to
-- places. `printed` is the text that `print` gives, the lexer gives the tokens of a text, and what the parser gives for
-- them reads back. This project's own.
use Rattle.std.specs.Prelude.{Result, List}
use Rattle.kw_base.specs.Fault.{IsOkUnlessNoMemory}
use Rattle.kw_base.specs.declared.fault.Refusal.{Refusal}
use Rattle.koika_syntax.specs.Grammar.{Derives, IsDesign, tree_leaves}
use Rattle.koika_syntax.specs.Tokens.{AreTokensOf}
use Rattle.koika_syntax.specs.declared.token.Token.{Token}
use Rattle.koika_syntax.specs.declared.tree.Tree.{Tree}
use Rattle.koika_parse.specs.Brackets.{AreFewOpen}
use Rattle.koika_parse.specs.Laws.{ReadsBack}
use Rattle.koika_parse.specs.Places.{SameUpToPlaces}
use Rattle.koika_print.specs.Printed.{printed}

-- the text of a tree has tokens; each tree that derives them is this one up to places, and so is what is read of them
-- where few brackets are open, unless memory runs out
pub record IsReadAgain (tree : Tree) : Type 0 where
  pub lexed : (tokens : List Token) × AreTokensOf tokens (printed (tree_leaves tree))
  pub derived : (tokens : List Token) (found : Tree) → AreTokensOf tokens (printed (tree_leaves tree)) → Derives (printed (tree_leaves tree)) found tokens → SameUpToPlaces tree found
  pub parsed : (tokens : List Token) (result : Result Tree Refusal) → AreFewOpen 0 (tree_leaves tree) → AreTokensOf tokens (printed (tree_leaves tree))
      → ReadsBack (printed (tree_leaves tree)) tokens result → IsOkUnlessNoMemory result (λ found. SameUpToPlaces tree found)

abbrev pub PrintedIsReadAgain : Type 0
PrintedIsReadAgain = (tree : Tree) → IsDesign tree → IsReadAgain tree
