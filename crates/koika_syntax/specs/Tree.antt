-- The leaves of a tree: the tokens that it stands for, in order, and where the tree says that they are.
-- What a name, a number or an operator is written as; how the parts of a design follow one another is the
-- grammar. This project's own text form.
use Rattle.std.specs.Prelude.{◌≡◌, ℕ, Option, None, Some, IfSome, List, [], ◌∷◌, ◌++◌, slice_range, slice_index_or}
use Rattle.std.specs.List.{flat_map}
use Rattle.kw_bits.specs.BitVector.{BitVector}
use Rattle.koika_syntax.specs.declared.keyword.Keyword.{Keyword}
use Rattle.koika_syntax.specs.declared.keyword.Keyword.TheVariants as keywords
use Rattle.koika_syntax.specs.declared.symbol.Symbol.{Symbol}
use Rattle.koika_syntax.specs.declared.symbol.Symbol.TheVariants as symbols
use Rattle.koika_syntax.specs.declared.token.Token.{Token}
use Rattle.koika_syntax.specs.declared.token.TokenKind.{TokenKind}
use Rattle.koika_syntax.specs.declared.token.TokenKind.TheVariants as kinds
use Rattle.koika_syntax.specs.declared.operator.BinaryOperator.{BinaryOperator}
use Rattle.koika_syntax.specs.declared.operator.BinaryOperator.TheVariants as binary
use Rattle.koika_syntax.specs.declared.operator.Extension.{Extension}
use Rattle.koika_syntax.specs.declared.operator.Extension.TheVariants as extensions
use Rattle.koika_syntax.specs.declared.tree.Literal.{Literal}
use Rattle.koika_syntax.specs.declared.tree.Name.{Name}
use Rattle.koika_syntax.specs.declared.tree.Number.{Number}
use Rattle.koika_syntax.specs.declared.operator.SignedComparison.{SignedComparison}
use Rattle.koika_syntax.specs.declared.operator.SignedComparison.TheVariants as comparisons
use Rattle.koika_syntax.specs.declared.operator.UnaryOperator.{UnaryOperator}
use Rattle.koika_syntax.specs.declared.operator.UnaryOperator.TheVariants as unary
use Rattle.koika_syntax.specs.declared.tree.Width.{Width}

-- what a token is to the grammar
pub data Terminal : Type 0 where
  name : List ℕ → Terminal
  number : ℕ → Terminal
  literal : BitVector → Terminal
  keyword : Keyword → Terminal
  symbol : Symbol → Terminal

-- a token of a tree, with its place where the tree has it
pub record Leaf : Type 0 where
  pub terminal : Terminal
  pub place : Option ℕ

-- one token without a place, and one with its place
abbrev pub word : Keyword → List Leaf
word k = record { terminal = keyword k; place = None } ∷ []

-- a symbol whose place the tree doesn't keep
abbrev pub sign : Symbol → List Leaf
sign s = record { terminal = symbol s; place = None } ∷ []

-- a token at a place
abbrev pub placed : Terminal → ℕ → List Leaf
placed terminal place = record { terminal = terminal; place = Some place } ∷ []

-- a name, a number, a literal
abbrev pub name_leaves : Name → List Leaf
name_leaves n = placed (name n.text) n.place

-- a number
abbrev pub number_leaves : Number → List Leaf
number_leaves n = placed (number n.value) n.place

-- a literal
abbrev pub literal_leaves : Literal → List Leaf
literal_leaves l = placed (literal l.bits) l.place

-- `bits` and a number
abbrev pub width_leaves : Width → List Leaf
width_leaves w = placed (keyword keywords.Bits) w.place ++ number_leaves w.number

-- parts one after another; the same with something in front of each; and with something between them
abbrev pub all_of : List (List Leaf) → List Leaf
all_of parts = flat_map (λ part. part) parts

-- parts, each after the same tokens
abbrev pub each_after : List Leaf → List (List Leaf) → List Leaf
each_after between parts = flat_map (λ part. between ++ part) parts

-- parts with the same tokens between them
unfoldable pub with_between : List Leaf → List (List Leaf) → List Leaf
with_between between [] = []
with_between between (part ∷ parts) = part ++ each_after between parts

-- parts with commas between them
abbrev pub commas : List (List Leaf) → List Leaf
commas parts = with_between (sign symbols.Comma) parts

-- parts in brackets
abbrev pub in_braces : List Leaf → List Leaf
in_braces inside = sign symbols.LeftBrace ++ inside ++ sign symbols.RightBrace

-- tokens in parentheses
abbrev pub in_parentheses : List Leaf → List Leaf
in_parentheses inside = sign symbols.LeftParenthesis ++ inside ++ sign symbols.RightParenthesis

-- how operators are written
abbrev pub unary_symbol : UnaryOperator → Symbol
unary_symbol unary.Not = symbols.Tilde
unary_symbol unary.Negate = symbols.Minus

-- the symbol of an operator between two operands
abbrev pub binary_symbol : BinaryOperator → Symbol
binary_symbol binary.Or = symbols.Bar
binary_symbol binary.Xor = symbols.Caret
binary_symbol binary.And = symbols.Ampersand
binary_symbol binary.Equal = symbols.EqualsEquals
binary_symbol binary.NotEqual = symbols.NotEquals
binary_symbol binary.Less = symbols.Less
binary_symbol binary.LessOrEqual = symbols.LessEquals
binary_symbol binary.Greater = symbols.Greater
binary_symbol binary.GreaterOrEqual = symbols.GreaterEquals
binary_symbol binary.Concat = symbols.PlusPlus
binary_symbol binary.ShiftLeft = symbols.LessLess
binary_symbol binary.ShiftRight = symbols.GreaterGreater
binary_symbol binary.ShiftRightSigned = symbols.GreaterGreaterGreater
binary_symbol binary.Add = symbols.Plus
binary_symbol binary.Subtract = symbols.Minus
binary_symbol binary.Multiply = symbols.Star

-- the keyword of a signed comparison
abbrev pub comparison_word : SignedComparison → Keyword
comparison_word comparisons.Less = keywords.Slt
comparison_word comparisons.LessOrEqual = keywords.Sle
comparison_word comparisons.Greater = keywords.Sgt
comparison_word comparisons.GreaterOrEqual = keywords.Sge

-- the keyword of an extension
abbrev pub extension_word : Extension → Keyword
extension_word extensions.Zero = keywords.Zext
extension_word extensions.Sign = keywords.Sext

-- how a read and a write are written, port by port
abbrev pub read_words : List Keyword
read_words = keywords.Read0 ∷ keywords.Read1 ∷ keywords.Read2 ∷ keywords.Read3 ∷ []

-- the keywords of writes, by port
abbrev pub write_words : List Keyword
write_words = keywords.Write0 ∷ keywords.Write1 ∷ keywords.Write2 ∷ keywords.Write3 ∷ []

-- the keyword of a read at a port
abbrev pub read_word : ℕ → Keyword
read_word port = slice_index_or read_words port keywords.Read0

-- the keyword of a write at a port
abbrev pub write_word : ℕ → Keyword
write_word port = slice_index_or write_words port keywords.Write0

-- what the grammar sees of a token of a text
abbrev pub terminal_of : List ℕ → Token → Terminal
terminal_of text token = of_kind token.kind
  where
    of_kind : TokenKind → Terminal
    of_kind kinds.Name = name (slice_range text token.start token.end)
    of_kind (kinds.Number n) = number n
    of_kind (kinds.Literal bits) = literal bits
    of_kind (kinds.Keyword k) = keyword k
    of_kind (kinds.Symbol s) = symbol s

-- the leaf is this token of the text, and is where the tree says
abbrev pub IsLeafAt : List ℕ → Leaf → Token → Type 0
IsLeafAt text leaf token = (leaf.terminal ≡ terminal_of text token) × IfSome leaf.place (λ place. place ≡ token.start)
