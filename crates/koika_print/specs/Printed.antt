-- The text that a tree is printed as: its tokens in order, each in its one written form and with a blank after
-- it. This project's own text form.
use Rattle.std.specs.Prelude.{◌≡◌, ℕ, ◌<◌, ◌^◌, ⊤, map, List, [], ◌∷◌, ◌++◌, codes, decimal}
use Rattle.std.specs.List.{flat_map, AllByRecursion}
use Rattle.kw_bits.specs.BitVector.{IsBitVector}
use Rattle.koika_syntax.specs.Keywords.{keyword_text}
use Rattle.koika_syntax.specs.Symbols.{symbol_text}
use Rattle.koika_syntax.specs.Tokens.{IsToken, AreTokensOf}
use Rattle.koika_syntax.specs.Tree.{terminal_of, Leaf, Terminal, name, number, literal, keyword, symbol}
use Rattle.koika_syntax.specs.declared.symbol.Symbol.{Symbol}
use Rattle.koika_syntax.specs.declared.symbol.Symbol.TheVariants as symbols
use Rattle.koika_syntax.specs.declared.token.Token.{Token}
use Rattle.koika_syntax.specs.declared.token.TokenKind.TheVariants as kinds

-- a token as it is written: numbers are decimal, without leading zeros, and a literal's base is ten
abbrev pub written : Terminal → List ℕ
written (name text) = text
written (number n) = decimal n
written (literal bits) = decimal bits.width ++ (codes "'d" ++ decimal bits.number)
written (keyword k) = keyword_text k
written (symbol s) = symbol_text s

-- a line feed after `;`, `{` and `}`, and a space after every other token
abbrev pub blank_after_symbol : Symbol → ℕ
blank_after_symbol symbols.Semicolon = 10
blank_after_symbol symbols.LeftBrace = 10
blank_after_symbol symbols.RightBrace = 10
blank_after_symbol _ = 32

-- the blank or line feed after a token
abbrev pub blank_after : Terminal → ℕ
blank_after (symbol s) = blank_after_symbol s
blank_after _ = 32

-- the text of a token and what comes after it
abbrev pub leaf_text : Leaf → List ℕ
leaf_text leaf = written leaf.terminal ++ blank_after leaf.terminal ∷ []

-- the text of tokens
abbrev pub printed : List Leaf → List ℕ
printed leaves = flat_map leaf_text leaves

-- a token that has a written form: a name is one, and a number and a literal are in their ranges
abbrev pub IsWritable : Terminal → Type 0
IsWritable (name text) = IsToken kinds.Name text
IsWritable (number n) = n < 2 ^ 32
IsWritable (literal bits) = IsBitVector bits.width bits.number
IsWritable (keyword k) = ⊤
IsWritable (symbol s) = ⊤

-- each of the tokens has one
abbrev pub AreWritable : List Leaf → Type 0
AreWritable leaves = AllByRecursion (λ leaf. IsWritable leaf.terminal) leaves

-- the text is cut into tokens, and they are these, in order
pub record IsLexedAs (text : List ℕ) (leaves : List Leaf) : Type 0 where
  pub tokens : List Token
  pub are : AreTokensOf tokens text
  pub same : map (terminal_of text) tokens ≡ map (λ leaf. leaf.terminal) leaves
