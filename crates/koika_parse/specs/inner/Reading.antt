-- What a reader of a part has read: the tokens from where it began to where it ended.
use Rattle.std.specs.Prelude.{◌≡◌, ℕ, ◌+◌, ◌-◌, ◌≤◌, Option, List, ◌++◌, drop, length, slice_get}
use Rattle.std.specs.List.{AllZip}
use Rattle.std.specs.Option.{option_map}
use Rattle.koika_syntax.specs.Tree.{Leaf, Terminal, IsLeafAt, terminal_of}
use Rattle.koika_syntax.specs.declared.token.Token.{Token}
use Rattle.koika_syntax.specs.declared.token.TokenKind.{TokenKind}
use Rattle.koika_parse.specs.Brackets.{open_behind_all, AreFewOpen}
use Rattle.koika_parse.specs.declared.cursor.Cursor.{Cursor}
use Rattle.koika_parse.specs.declared.source.Source.{Source}

-- the next token, if there is one
abbrev pub token_at : Source → Cursor → Option Token
token_at source cursor = slice_get source.tokens.now cursor.at

abbrev pub kind_at : Source → Cursor → Option TokenKind
kind_at source cursor = option_map (λ token. token.kind) (token_at source cursor)

abbrev pub next : Source → Cursor → Option Terminal
next source cursor = option_map (terminal_of source.text.now) (token_at source cursor)

-- how many tokens there are left to read
abbrev pub tokens_left : Source → Cursor → ℕ
tokens_left source cursor = length source.tokens.now - cursor.at

-- from the old cursor to the new one stand these tokens, and no more than 64 brackets are open after any of them
pub record Reads (source : Source) (old new : Cursor) (leaves : List Leaf) : Type 0 where
  pub tokens : List Token
  pub split : drop old.at source.tokens.now ≡ tokens ++ drop new.at source.tokens.now
  pub each : AllZip (IsLeafAt source.text.now) leaves tokens
  pub left : length leaves + tokens_left source new ≡ tokens_left source old
  pub depth : new.depth ≡ open_behind_all old.depth leaves
  pub few : old.depth ≤ 64 → AreFewOpen old.depth leaves
