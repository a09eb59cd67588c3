-- What is printed is read again.
use Rattle.std.proofs.Common.{◌≡◌, List, ap, refl, ◌∙◌}
use Rattle.koika_syntax.specs.Grammar.{IsDesign, tree_leaves}
use Rattle.koika_syntax.specs.Tokens.{AreTokensOf}
use Rattle.koika_syntax.specs.declared.token.Token.{Token}
use Rattle.koika_syntax.specs.declared.tree.Tree.{Tree}
use Rattle.koika_syntax.proofs.Cuts.{one_list}
use Rattle.koika_parse.specs.Laws.{terminals, terminals_in}
use Rattle.koika_parse.proofs.Unambiguous.{read_again}
use Rattle.koika_print.specs.Printed.{IsLexedAs, printed}
use Rattle.koika_top.specs.RoundTrip.{PrintedIsReadAgain}
use Rattle.koika_print.proofs.Lexed.{lexed_text}
use Rattle.koika_print.proofs.Writable.{writable}

lexed : (tree : Tree) → IsDesign tree → IsLexedAs (printed (tree_leaves tree)) (tree_leaves tree)
lexed tree is = lexed_text (printed (tree_leaves tree)) (tree_leaves tree) refl (writable tree is)

-- the tokens of the text are the tree's
tokens_are : (tree : Tree) → IsDesign tree → (tokens : List Token) → AreTokensOf tokens (printed (tree_leaves tree)) → terminals_in (printed (tree_leaves tree)) tokens ≡ terminals tree
tokens_are tree is tokens are =
    let text = printed (tree_leaves tree) in
    let as_leaves = lexed tree is in
    ap (terminals_in text) (one_list text tokens as_leaves.tokens are as_leaves.are) ∙ as_leaves.same

pub printed_is_read_again : PrintedIsReadAgain
printed_is_read_again tree is =
    let text = printed (tree_leaves tree) in
    let as_leaves = lexed tree is in
    record {
      lexed = (as_leaves.tokens, as_leaves.are);
      derived = λ tokens found are derives. read_again text tokens tree found is (tokens_are tree is tokens are) derives;
      parsed = λ tokens result few are back. back tree is (tokens_are tree is tokens are) few;
    }
