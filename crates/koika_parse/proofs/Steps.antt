-- The steps of a reader written in a row, from the first token to the last.
use Rattle.std.proofs.Common.{◌≡◌, ℕ, Ok, Option, List, ◌++◌, sym}
use Rattle.koika_syntax.specs.Tree.{Leaf, Terminal, keyword, placed}
use Rattle.koika_syntax.specs.declared.keyword.Keyword.{Keyword}
use Rattle.koika_parse.specs.inner.Expected.{Any, Takes, Then}
use Rattle.koika_parse.specs.inner.Reading.{Reads}
use Rattle.koika_parse.specs.declared.cursor.Cursor.{Cursor}
use Rattle.koika_parse.specs.declared.source.Source.{Source}
use Rattle.koika_parse.proofs.Reading.{in_place_of, in_turn}
use Rattle.koika_parse.proofs.Expected.{Apart, Goes, next_part, step}

infixl 40 ◌then◌
infixl 40 ◌past◌
infixl 40 ◌past◌by◌
infixl 40 ◌so◌
-- what is read, and what is read after it
pub ◌then◌ : {source : Source} {old mid new : Cursor} {xs ys : List Leaf} →
    Reads source old mid xs → Reads source mid new ys → Reads source old new (xs ++ ys)
p then q = in_turn p q

-- what is left after one part more, which any token may follow
pub ◌past◌ : {X : Type 0} {source : Source} {old mid new : Cursor} {Word : List Leaf → Type 0}
    {Follow : Option Terminal → Type 0} {P Q : List Leaf → Type 0} {x : X} →
    Goes source old mid Word Follow (Then P Q) → Takes source mid new P Any (Ok x) → Goes source old new Word Follow Q
goes past takes = next_part goes takes

-- the same of a part that only some tokens may follow, by what is left
pub ◌past◌by◌ : {X : Type 0} {source : Source} {old mid new : Cursor} {Word : List Leaf → Type 0}
    {Follow Mid : Option Terminal → Type 0} {P Q : List Leaf → Type 0} {x : X} →
    Goes source old mid Word Follow (Then P Q) → Takes source mid new P Mid (Ok x) → Apart Q Follow Mid →
    Goes source old new Word Follow Q
goes past takes by apart = step goes takes apart

-- what is left, and what the next token says of it
pub ◌so◌ : {Left Told : Type 0} → Left → (Left → Told) → Told
left so tells = tells left

-- the keyword that was read is that one
pub reads_word : {source : Source} {old new : Cursor} {place : ℕ} {a b : Keyword} → a ≡ b →
    Reads source old new (placed (keyword a) place) → Reads source old new (placed (keyword b) place)
reads_word {place = place} {b = b} same read = in_place_of (λ k. placed (keyword k) place) b (sym same) read
