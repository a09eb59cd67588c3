-- Which symbols a text begins with, by their sizes.
use Rattle.std.proofs.Common.{◌≡◌, ◌≢◌, ℕ, List, [], ◌∷◌, ◌++◌, ◌<◌, ◌≤◌, ◌⊎◌, length, Option, Some, refl, sym, ap, ◌∙◌, inl, inr, arith}
use Rattle.std.specs.List.{find}
use Rattle.std.specs.Prelude.{slice_index}
use Rattle.std.specs.Str.{bytes_eq}
use Rattle.koika_syntax.specs.Symbols.{symbol_text}
use Rattle.koika_syntax.specs.inner.Symbols.{BeginsWith}
use Rattle.koika_syntax.specs.declared.symbol.Symbol.{Symbol}
use Rattle.koika_syntax.specs.declared.symbol.Symbol.TheVariants as symbols

-- how many bytes the symbol has, and which
pub data Size (symbol : Symbol) : Type 0 where
  one : (first : ℕ) → symbol_text symbol ≡ first ∷ [] → Size symbol
  two : (first second : ℕ) → symbol_text symbol ≡ first ∷ second ∷ [] → Size symbol
  three : symbol_text symbol ≡ 62 ∷ 62 ∷ 62 ∷ [] → Size symbol

pub size : (symbol : Symbol) → Size symbol
size symbols.LeftBrace = one 123 refl
size symbols.RightBrace = one 125 refl
size symbols.LeftParenthesis = one 40 refl
size symbols.RightParenthesis = one 41 refl
size symbols.LeftBracket = one 91 refl
size symbols.RightBracket = one 93 refl
size symbols.Semicolon = one 59 refl
size symbols.Colon = one 58 refl
size symbols.ColonColon = two 58 58 refl
size symbols.Comma = one 44 refl
size symbols.Equals = one 61 refl
size symbols.Dot = one 46 refl
size symbols.Arrow = two 45 62 refl
size symbols.Plus = one 43 refl
size symbols.Minus = one 45 refl
size symbols.Star = one 42 refl
size symbols.Ampersand = one 38 refl
size symbols.Bar = one 124 refl
size symbols.Caret = one 94 refl
size symbols.Tilde = one 126 refl
size symbols.EqualsEquals = two 61 61 refl
size symbols.NotEquals = two 33 61 refl
size symbols.Less = one 60 refl
size symbols.LessEquals = two 60 61 refl
size symbols.Greater = one 62 refl
size symbols.GreaterEquals = two 62 61 refl
size symbols.LessLess = two 60 60 refl
size symbols.GreaterGreater = two 62 62 refl
size symbols.GreaterGreaterGreater = three refl
size symbols.PlusPlus = two 43 43 refl

-- what a text shows of a symbol that it begins with, by the symbol's size
abbrev pub Shown : List ℕ → Symbol → Type 0
Shown text symbol =
    (symbol_text symbol ≡ slice_index text 0 ∷ [])
    ⊎ ((1 < length text) × (symbol_text symbol ≡ slice_index text 0 ∷ slice_index text 1 ∷ []))
    ⊎ BeginsWith text (62 ∷ 62 ∷ 62 ∷ [])

shown : (text : List ℕ) (symbol : Symbol) → BeginsWith text (symbol_text symbol) → Shown text symbol
shown text symbol begins = by (size symbol)
  where
    split : (bytes : List ℕ) → symbol_text symbol ≡ bytes → text ≡ bytes ++ begins.0
    split bytes is = begins.1 ∙ ap (λ l. l ++ begins.0) is

    by : Size symbol → Shown text symbol
    by (Size.one first is) = inl (is ∙ ap (λ l. slice_index l 0 ∷ []) (sym (split (first ∷ []) is)))
    by (Size.two first second is) =
        let whole = split (first ∷ second ∷ []) is in
        inr (inl (omega (arith, ap length whole), is ∙ ap (λ l. slice_index l 0 ∷ slice_index l 1 ∷ []) (sym whole)))
    by (Size.three is) = inr (inr (begins.0, split (62 ∷ 62 ∷ 62 ∷ []) is))

-- no symbol has more than three bytes
pub length-symbol_text-le3 : (symbol : Symbol) → length (symbol_text symbol) ≤ 3
length-symbol_text-le3 symbol = by (size symbol)
  where
    by : Size symbol → length (symbol_text symbol) ≤ 3
    by (Size.one first is) = omega (arith, ap length is)
    by (Size.two first second is) = omega (arith, ap length is)
    by (Size.three is) = omega (arith, ap length is)

-- a text that begins with no symbol of three bytes begins with none of more than two
pub length-le2 : (text : List ℕ) → ¬ BeginsWith text (62 ∷ 62 ∷ 62 ∷ []) → (symbol : Symbol) → BeginsWith text (symbol_text symbol) → length (symbol_text symbol) ≤ 2
length-le2 text no_three symbol begins = elim (shown text symbol begins) [
  | inl single ↦ omega (arith, ap length single)
  | inr (inl pair) ↦ omega (arith, ap length pair.1)
  | inr (inr triple) ↦ absurd (no_three triple)
]

-- a text that begins with the symbol of three bytes begins with one of two
pub two_of_three : (text : List ℕ) → BeginsWith text (62 ∷ 62 ∷ 62 ∷ []) → (1 < length text) × (symbol_text symbols.GreaterGreater ≡ slice_index text 0 ∷ slice_index text 1 ∷ [])
two_of_three text begins = (omega (arith, ap length begins.1), ap (λ l. slice_index l 0 ∷ slice_index l 1 ∷ []) (sym begins.1))

-- where the first two bytes of a text are no symbol, it begins with none but its first byte
pub only_first : (text : List ℕ) → (1 < length text → (symbol : Symbol) → symbol_text symbol ≢ slice_index text 0 ∷ slice_index text 1 ∷ [])
    → (symbol : Symbol) → BeginsWith text (symbol_text symbol) → symbol_text symbol ≡ slice_index text 0 ∷ []
only_first text no_two symbol begins = elim (shown text symbol begins) [
  | inl single ↦ single
  | inr (inl pair) ↦ absurd (no_two pair.0 symbol pair.1)
  | inr (inr triple) ↦ let pair = two_of_three text triple in absurd (no_two pair.0 symbols.GreaterGreater pair.1)
]

-- a text begins with its first byte
pub begins-first : (text bytes : List ℕ) → 0 < length text → bytes ≡ slice_index text 0 ∷ [] → BeginsWith text bytes
begins-first [] bytes some is = absurd (omega (arith, some))
begins-first (a ∷ text) bytes some is = (text, ap (λ l. l ++ text) (sym is))

-- and with its first two
pub begins-two : (text bytes : List ℕ) → 1 < length text → bytes ≡ slice_index text 0 ∷ slice_index text 1 ∷ [] → BeginsWith text bytes
begins-two [] bytes some is = absurd (omega (arith, some))
begins-two (a ∷ []) bytes some is = absurd (omega (arith, some))
begins-two (a ∷ b ∷ text) bytes some is = (text, ap (λ l. l ++ text) (sym is))

-- every symbol
every_symbol : List Symbol
every_symbol =
    symbols.LeftBrace ∷ symbols.RightBrace ∷ symbols.LeftParenthesis ∷ symbols.RightParenthesis ∷ symbols.LeftBracket ∷ symbols.RightBracket ∷ symbols.Semicolon ∷ symbols.Colon ∷ symbols.ColonColon ∷ symbols.Comma ∷ symbols.Equals ∷ symbols.Dot ∷ symbols.Arrow ∷ symbols.Plus ∷ symbols.Minus ∷ symbols.Star ∷ symbols.Ampersand ∷ symbols.Bar ∷ symbols.Caret ∷ symbols.Tilde ∷ symbols.EqualsEquals ∷ symbols.NotEquals ∷ symbols.Less ∷ symbols.LessEquals ∷ symbols.Greater ∷ symbols.GreaterEquals ∷ symbols.LessLess ∷ symbols.GreaterGreater ∷ symbols.GreaterGreaterGreater ∷ symbols.PlusPlus ∷ []

-- the symbol of bytes
pub symbol_at : List ℕ → Option Symbol
symbol_at bytes = find (λ symbol. bytes_eq (symbol_text symbol) bytes) every_symbol

pub symbol_at-symbol_text : (symbol : Symbol) → symbol_at (symbol_text symbol) ≡ Some symbol
unfolding symbol_at every_symbol
symbol_at-symbol_text symbols.GreaterGreaterGreater = refl
symbol_at-symbol_text symbols.ColonColon = refl
symbol_at-symbol_text symbols.Arrow = refl
symbol_at-symbol_text symbols.EqualsEquals = refl
symbol_at-symbol_text symbols.NotEquals = refl
symbol_at-symbol_text symbols.LessEquals = refl
symbol_at-symbol_text symbols.GreaterEquals = refl
symbol_at-symbol_text symbols.LessLess = refl
symbol_at-symbol_text symbols.GreaterGreater = refl
symbol_at-symbol_text symbols.PlusPlus = refl
symbol_at-symbol_text symbols.LeftBrace = refl
symbol_at-symbol_text symbols.RightBrace = refl
symbol_at-symbol_text symbols.LeftParenthesis = refl
symbol_at-symbol_text symbols.RightParenthesis = refl
symbol_at-symbol_text symbols.LeftBracket = refl
symbol_at-symbol_text symbols.RightBracket = refl
symbol_at-symbol_text symbols.Semicolon = refl
symbol_at-symbol_text symbols.Colon = refl
symbol_at-symbol_text symbols.Comma = refl
symbol_at-symbol_text symbols.Equals = refl
symbol_at-symbol_text symbols.Dot = refl
symbol_at-symbol_text symbols.Plus = refl
symbol_at-symbol_text symbols.Minus = refl
symbol_at-symbol_text symbols.Star = refl
symbol_at-symbol_text symbols.Ampersand = refl
symbol_at-symbol_text symbols.Bar = refl
symbol_at-symbol_text symbols.Caret = refl
symbol_at-symbol_text symbols.Tilde = refl
symbol_at-symbol_text symbols.Less = refl
symbol_at-symbol_text symbols.Greater = refl

-- no two symbols have the same bytes
pub same_symbol : (a b : Symbol) → symbol_text a ≡ symbol_text b → a ≡ b
same_symbol a b same =
    let e : Some a ≡ Some b = sym (symbol_at-symbol_text a) ∙ ap symbol_at same ∙ symbol_at-symbol_text b in cc
