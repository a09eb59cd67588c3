-- How a source is cut, at its first line `%%`, into a design and a stimulus. This project's own text form.
use Rattle.std.specs.Prelude.{ℕ, ◌+◌, Bool, Option, None, Some, List, [], ◌∷◌, ◌++◌, length, take, drop, codes, bytes_eq, position}
use Rattle.std.specs.List.{flat_map, join_with_byte, slice_split}
use Rattle.kw_base.specs.Place.{capped}
use Rattle.kw_base.specs.Texts.{ends_line, without_return}

-- the line that ends a design
abbrev pub is_mark : List ℕ → Bool
is_mark line = bytes_eq (without_return line) (codes "%%")

-- a source: the bytes before the mark, those after its line, and the number of the line that they begin with
pub record SourceParts : Type 0 where
  pub design : List ℕ
  pub stimulus : List ℕ
  pub first_line : ℕ

-- a line and its line feed
abbrev pub with_line_feed : List ℕ → List ℕ
with_line_feed line = line ++ 10 ∷ []

-- the parts of a source with these lines whose mark is the line with this index; without a mark all is the design
abbrev pub cut_at : List (List ℕ) → Option ℕ → List ℕ → SourceParts
cut_at lines None bytes = record { design = bytes; stimulus = []; first_line = capped (length lines + 1) }
cut_at lines (Some mark) bytes =
    record {
      design = flat_map with_line_feed (take mark lines);
      stimulus = join_with_byte 10 (drop (mark + 1) lines);
      first_line = capped (mark + 2);
    }

-- the design before the first line `%%`, and the stimulus after it
unfoldable pub parts_of : List ℕ → SourceParts
parts_of bytes = let lines = slice_split ends_line bytes in cut_at lines (position is_mark lines) bytes
