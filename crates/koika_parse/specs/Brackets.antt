-- How many brackets are open after tokens, where that many are open in front of them. At most 64 are open at
-- once; this project's own limit.
use Rattle.std.specs.Prelude.{ℕ, suc, ◌-◌, ◌≤◌, ⊤, List, [], ◌∷◌}
use Rattle.koika_syntax.specs.Tree.{Leaf, Terminal, symbol}
use Rattle.koika_syntax.specs.declared.symbol.Symbol.{Symbol}
use Rattle.koika_syntax.specs.declared.symbol.Symbol.TheVariants as symbols

-- an opening bracket is one more, and a closing one is one less
abbrev pub open_behind_symbol : ℕ → Symbol → ℕ
open_behind_symbol depth symbols.LeftParenthesis = suc depth
open_behind_symbol depth symbols.LeftBracket = suc depth
open_behind_symbol depth symbols.LeftBrace = suc depth
open_behind_symbol depth symbols.RightParenthesis = depth - 1
open_behind_symbol depth symbols.RightBracket = depth - 1
open_behind_symbol depth symbols.RightBrace = depth - 1
open_behind_symbol depth _ = depth

-- how many brackets are open after a token
abbrev pub open_behind : ℕ → Terminal → ℕ
open_behind depth (symbol s) = open_behind_symbol depth s
open_behind depth _ = depth

-- how many are open after all of the tokens
abbrev pub open_behind_all : ℕ → List Leaf → ℕ
open_behind_all depth [] = depth
open_behind_all depth (leaf ∷ leaves) = open_behind_all (open_behind depth leaf.terminal) leaves

-- no more than 64 are open after any of the tokens
abbrev pub AreFewOpen : ℕ → List Leaf → Type 0
AreFewOpen depth [] = ⊤
AreFewOpen depth (leaf ∷ leaves) = (open_behind depth leaf.terminal ≤ 64) × AreFewOpen (open_behind depth leaf.terminal) leaves
