-- The token that bytes begin with. Only contracts of private functions cite it.
use Rattle.std.specs.Prelude.{ℕ, Bool, not, List}
use Rattle.kw_base.specs.Texts.{front_of, is_blank, rest_of}

-- a byte of a token
abbrev pub not_blank : ℕ → Bool
not_blank b = not (is_blank b)

-- the token that bytes begin with, and the bytes after it
abbrev pub token_of : List ℕ → List ℕ
token_of bytes = front_of not_blank bytes

abbrev pub after_token : List ℕ → List ℕ
after_token bytes = rest_of not_blank bytes
