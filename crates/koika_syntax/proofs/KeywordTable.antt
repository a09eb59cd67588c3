-- Each keyword has a place of its own in the table.
use Rattle.std.proofs.Common.{◌≡◌, ℕ, ◌+◌, ◌-◌, ◌*◌, ◌/◌, ◌%◌, ◌≤◌, List, length, Option, Some, refl, sym, ap, ◌∙◌, lit≤}
use Rattle.std.specs.Prelude.{slice_get, slice_index}
use Rattle.koika_syntax.specs.Keywords.{keyword_text}
use Rattle.koika_syntax.specs.Lexemes.{IsWord}
use Rattle.koika_syntax.specs.declared.keyword.TheConstants.{KEYWORDS, PLACES}
use Rattle.koika_syntax.specs.declared.keyword.Keyword.{Keyword}
use Rattle.koika_syntax.specs.declared.keyword.Keyword.TheVariants as keywords

-- the keyword that has the place of a word
abbrev pub keyword_at : List ℕ → Option Keyword
keyword_at word = slice_get KEYWORDS (slice_index PLACES ((4 * slice_index word 0 + slice_index word (length word / 2) + slice_index word (length word - 1)) % 128))

pub keyword_at-keyword_text : (keyword : Keyword) → keyword_at (keyword_text keyword) ≡ Some keyword
keyword_at-keyword_text keywords.Reg = refl
keyword_at-keyword_text keywords.Input = refl
keyword_at-keyword_text keywords.Enum = refl
keyword_at-keyword_text keywords.Struct = refl
keyword_at-keyword_text keywords.Table = refl
keyword_at-keyword_text keywords.Host = refl
keyword_at-keyword_text keywords.Fun = refl
keyword_at-keyword_text keywords.Rule = refl
keyword_at-keyword_text keywords.Schedule = refl
keyword_at-keyword_text keywords.Try = refl
keyword_at-keyword_text keywords.Then = refl
keyword_at-keyword_text keywords.Else = refl
keyword_at-keyword_text keywords.If = refl
keyword_at-keyword_text keywords.Let = refl
keyword_at-keyword_text keywords.Bits = refl
keyword_at-keyword_text keywords.Unit = refl
keyword_at-keyword_text keywords.Abort = refl
keyword_at-keyword_text keywords.Pack = refl
keyword_at-keyword_text keywords.Unpack = refl
keyword_at-keyword_text keywords.Update = refl
keyword_at-keyword_text keywords.Zext = refl
keyword_at-keyword_text keywords.Sext = refl
keyword_at-keyword_text keywords.Slt = refl
keyword_at-keyword_text keywords.Sle = refl
keyword_at-keyword_text keywords.Sgt = refl
keyword_at-keyword_text keywords.Sge = refl
keyword_at-keyword_text keywords.Read0 = refl
keyword_at-keyword_text keywords.Read1 = refl
keyword_at-keyword_text keywords.Read2 = refl
keyword_at-keyword_text keywords.Read3 = refl
keyword_at-keyword_text keywords.Write0 = refl
keyword_at-keyword_text keywords.Write1 = refl
keyword_at-keyword_text keywords.Write2 = refl
keyword_at-keyword_text keywords.Write3 = refl
keyword_at-keyword_text keywords.Assert = refl

-- no two keywords have the same bytes
pub same_keyword : (a b : Keyword) → keyword_text a ≡ keyword_text b → a ≡ b
same_keyword a b same =
    let e : Some a ≡ Some b = sym (keyword_at-keyword_text a) ∙ ap keyword_at same ∙ keyword_at-keyword_text b in cc

-- a keyword is a word
pub IsWord-keyword_text : (keyword : Keyword) → IsWord (keyword_text keyword)
IsWord-keyword_text keywords.Reg = (refl, refl)
IsWord-keyword_text keywords.Input = (refl, refl)
IsWord-keyword_text keywords.Enum = (refl, refl)
IsWord-keyword_text keywords.Struct = (refl, refl)
IsWord-keyword_text keywords.Table = (refl, refl)
IsWord-keyword_text keywords.Host = (refl, refl)
IsWord-keyword_text keywords.Fun = (refl, refl)
IsWord-keyword_text keywords.Rule = (refl, refl)
IsWord-keyword_text keywords.Schedule = (refl, refl)
IsWord-keyword_text keywords.Try = (refl, refl)
IsWord-keyword_text keywords.Then = (refl, refl)
IsWord-keyword_text keywords.Else = (refl, refl)
IsWord-keyword_text keywords.If = (refl, refl)
IsWord-keyword_text keywords.Let = (refl, refl)
IsWord-keyword_text keywords.Bits = (refl, refl)
IsWord-keyword_text keywords.Unit = (refl, refl)
IsWord-keyword_text keywords.Abort = (refl, refl)
IsWord-keyword_text keywords.Pack = (refl, refl)
IsWord-keyword_text keywords.Unpack = (refl, refl)
IsWord-keyword_text keywords.Update = (refl, refl)
IsWord-keyword_text keywords.Zext = (refl, refl)
IsWord-keyword_text keywords.Sext = (refl, refl)
IsWord-keyword_text keywords.Slt = (refl, refl)
IsWord-keyword_text keywords.Sle = (refl, refl)
IsWord-keyword_text keywords.Sgt = (refl, refl)
IsWord-keyword_text keywords.Sge = (refl, refl)
IsWord-keyword_text keywords.Read0 = (refl, refl)
IsWord-keyword_text keywords.Read1 = (refl, refl)
IsWord-keyword_text keywords.Read2 = (refl, refl)
IsWord-keyword_text keywords.Read3 = (refl, refl)
IsWord-keyword_text keywords.Write0 = (refl, refl)
IsWord-keyword_text keywords.Write1 = (refl, refl)
IsWord-keyword_text keywords.Write2 = (refl, refl)
IsWord-keyword_text keywords.Write3 = (refl, refl)
IsWord-keyword_text keywords.Assert = (refl, refl)

-- and no long one
pub length-keyword_text : (keyword : Keyword) → length (keyword_text keyword) ≤ 64
length-keyword_text keywords.Reg = lit≤ tt
length-keyword_text keywords.Input = lit≤ tt
length-keyword_text keywords.Enum = lit≤ tt
length-keyword_text keywords.Struct = lit≤ tt
length-keyword_text keywords.Table = lit≤ tt
length-keyword_text keywords.Host = lit≤ tt
length-keyword_text keywords.Fun = lit≤ tt
length-keyword_text keywords.Rule = lit≤ tt
length-keyword_text keywords.Schedule = lit≤ tt
length-keyword_text keywords.Try = lit≤ tt
length-keyword_text keywords.Then = lit≤ tt
length-keyword_text keywords.Else = lit≤ tt
length-keyword_text keywords.If = lit≤ tt
length-keyword_text keywords.Let = lit≤ tt
length-keyword_text keywords.Bits = lit≤ tt
length-keyword_text keywords.Unit = lit≤ tt
length-keyword_text keywords.Abort = lit≤ tt
length-keyword_text keywords.Pack = lit≤ tt
length-keyword_text keywords.Unpack = lit≤ tt
length-keyword_text keywords.Update = lit≤ tt
length-keyword_text keywords.Zext = lit≤ tt
length-keyword_text keywords.Sext = lit≤ tt
length-keyword_text keywords.Slt = lit≤ tt
length-keyword_text keywords.Sle = lit≤ tt
length-keyword_text keywords.Sgt = lit≤ tt
length-keyword_text keywords.Sge = lit≤ tt
length-keyword_text keywords.Read0 = lit≤ tt
length-keyword_text keywords.Read1 = lit≤ tt
length-keyword_text keywords.Read2 = lit≤ tt
length-keyword_text keywords.Read3 = lit≤ tt
length-keyword_text keywords.Write0 = lit≤ tt
length-keyword_text keywords.Write1 = lit≤ tt
length-keyword_text keywords.Write2 = lit≤ tt
length-keyword_text keywords.Write3 = lit≤ tt
length-keyword_text keywords.Assert = lit≤ tt
