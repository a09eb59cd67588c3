-- Words of a text, one after another. Contracts of private functions alone cite it.
use Rattle.std.specs.Prelude.{◌≡◌, ℕ, Bool, false, List, [], ◌∷◌, Option, None, Some, bytes_eq}
use Rattle.std.specs.List.{list_any, slice_split}
use Rattle.verilog_text.specs.Names.{is_blank}
use denote.Ref.{Bor}

-- whether a name is one of the words of a text
abbrev pub has_word : List ℕ → List ℕ → Bool
has_word text name = list_any (λ word. bytes_eq word name) (slice_split is_blank text)

-- the words of what is left of a text
abbrev pub words_of : Option (Bor (List ℕ)) → List (List ℕ)
words_of None = []
words_of (Some rest) = slice_split is_blank rest.now

-- the bytes don't go on with one that passes
abbrev pub StopsAt : (ℕ → Bool) → List ℕ → Type 0
StopsAt passes [] = Unit {0}
StopsAt passes (b ∷ bytes) = passes b ≡ false
