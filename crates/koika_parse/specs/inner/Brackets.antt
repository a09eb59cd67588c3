-- What private functions alone cite of this crate's `Brackets`.
use Rattle.std.specs.Prelude.{ℕ}
use Rattle.koika_syntax.specs.declared.symbol.Symbol.{Symbol}
use Rattle.koika_syntax.specs.declared.token.TokenKind.{TokenKind}
use Rattle.koika_syntax.specs.declared.token.TokenKind.TheVariants as kinds
use Rattle.koika_parse.specs.Brackets.{open_behind_symbol}

abbrev pub open_behind_kind : ℕ → TokenKind → ℕ
open_behind_kind depth (kinds.Symbol s) = open_behind_symbol depth s
open_behind_kind depth _ = depth
