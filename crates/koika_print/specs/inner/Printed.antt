-- What private functions alone cite of this crate's `Printed`.
use Rattle.std.specs.Prelude.{◌≡◌, ℕ, zero, suc, List, [], ◌++◌}
use Rattle.koika_syntax.specs.Tree.{Leaf, sign, word}
use Rattle.koika_syntax.specs.declared.keyword.Keyword.TheVariants as keywords
use Rattle.koika_syntax.specs.declared.symbol.Symbol.TheVariants as symbols
use Rattle.koika_print.specs.Printed.{printed}

-- the new text is the old one with these tokens after it
pub record Prints (old new : List ℕ) (leaves : List Leaf) : Type 0 where
  pub text : new ≡ old ++ printed leaves

-- a comma after items, and `else` after arms, if there are any
abbrev pub comma_behind : ℕ → List Leaf
comma_behind zero = []
comma_behind (suc items) = sign symbols.Comma

abbrev pub else_behind : ℕ → List Leaf
else_behind zero = []
else_behind (suc arms) = word keywords.Else
