-- The symbols of a design's text, each with its bytes. This project's own text form.
use Rattle.std.specs.Prelude.{ℕ, List, codes}
use Rattle.koika_syntax.specs.declared.symbol.Symbol.{Symbol}
use Rattle.koika_syntax.specs.declared.symbol.Symbol.TheVariants as symbols

-- the bytes of a symbol
abbrev pub symbol_text : Symbol → List ℕ
symbol_text symbols.LeftBrace = codes "{"
symbol_text symbols.RightBrace = codes "}"
symbol_text symbols.LeftParenthesis = codes "("
symbol_text symbols.RightParenthesis = codes ")"
symbol_text symbols.LeftBracket = codes "["
symbol_text symbols.RightBracket = codes "]"
symbol_text symbols.Semicolon = codes ";"
symbol_text symbols.Colon = codes ":"
symbol_text symbols.ColonColon = codes "::"
symbol_text symbols.Comma = codes ","
symbol_text symbols.Equals = codes "="
symbol_text symbols.Dot = codes "."
symbol_text symbols.Arrow = codes "->"
symbol_text symbols.Plus = codes "+"
symbol_text symbols.Minus = codes "-"
symbol_text symbols.Star = codes "*"
symbol_text symbols.Ampersand = codes "&"
symbol_text symbols.Bar = codes "|"
symbol_text symbols.Caret = codes "^"
symbol_text symbols.Tilde = codes "~"
symbol_text symbols.EqualsEquals = codes "=="
symbol_text symbols.NotEquals = codes "!="
symbol_text symbols.Less = codes "<"
symbol_text symbols.LessEquals = codes "<="
symbol_text symbols.Greater = codes ">"
symbol_text symbols.GreaterEquals = codes ">="
symbol_text symbols.LessLess = codes "<<"
symbol_text symbols.GreaterGreater = codes ">>"
symbol_text symbols.GreaterGreaterGreater = codes ">>>"
symbol_text symbols.PlusPlus = codes "++"
