-- The words of each part, as the words of its own parts in turn.
use Rattle.std.proofs.Common.{◌≡◌, ℕ, ◌<◌, ◌^◌, Option, None, Some, Ok, List, [], ◌∷◌, ◌++◌, append_assoc, refl, ap, sym, subst, ◌∙◌}
use Rattle.koika_syntax.specs.Grammar.{IsName, NumberFits, LiteralFits, IsWidth, IsType, IsTypeLayer, IsMember, IsField, type_leaves, member_leaves, field_leaves}
use Rattle.kw_bits.specs.BitVector.{BitVector, IsBitVector}
use Rattle.koika_syntax.specs.Tokens.{IsToken}
use Rattle.koika_syntax.specs.Tree.{Leaf, Terminal, name, number, literal, keyword, symbol, name_leaves, number_leaves, literal_leaves, width_leaves, word, sign, placed}
use Rattle.koika_syntax.specs.declared.keyword.Keyword.{Keyword}
use Rattle.koika_syntax.specs.declared.keyword.Keyword.TheVariants as keywords
use Rattle.koika_syntax.specs.declared.symbol.Symbol.{Symbol}
use Rattle.koika_syntax.specs.declared.symbol.Symbol.TheVariants as symbols
use Rattle.koika_syntax.specs.declared.tree.Field.{Field}
use Rattle.koika_syntax.specs.declared.tree.EnumMember.{EnumMember}
use Rattle.koika_syntax.specs.declared.tree.Number.{Number}
use Rattle.koika_syntax.specs.declared.tree.TypeExpression.{TypeExpression}
use Rattle.koika_syntax.specs.declared.tree.TypeExpression.TheOpen as type_expression
use Rattle.koika_syntax.specs.declared.tree.TypeExpression.TheViews as type_views
use Rattle.koika_syntax.specs.declared.tree.Width.{Width}
use Rattle.koika_parse.specs.inner.Expected.{Any, NoComma, One, Part, Takes, Then, first}
use Rattle.koika_parse.specs.inner.Reading.{Reads, kind_at, next}
use Rattle.koika_parse.proofs.Reading.{in_turn}
use Rattle.koika_parse.specs.inner.Words.{ArrayTypeWord}
use Rattle.std.specs.Option.{option_map}
use Rattle.koika_syntax.specs.declared.token.TokenKind.TheVariants as kinds
use Rattle.koika_parse.specs.declared.cursor.Cursor.{Cursor}
use Rattle.koika_parse.specs.declared.source.Source.{Source}
use Rattle.koika_parse.proofs.Expected.{Apart, Goes, Has, Like, Within, before_one, begin, kind_of_next, narrow_part}
use Rattle.koika_parse.proofs.Expected.{next_part, starts, like_one, like_part, like_then, made, made_at, place_then}
use Rattle.koika_parse.proofs.Expected.{single, some_one, some_then, kind_of, name_or_word, sign_or_word, word_or_name}
use Rattle.koika_parse.proofs.Expected.{sign_or_name}
use Rattle.koika_parse.proofs.Witnesses.{a_literal, a_literal_is, a_name, a_name_is, some_literal, some_name, some_number, some_type, some_width}
use Rattle.koika_parse.proofs.Layers.{of_leaves, type_grown, type_kind, type_layer, type_leaves_by}
use Rattle.koika_parse.proofs.Parts.{is_array_type, is_named_type, is_width_type}
use Rattle.koika_parse.proofs.Calls.{leaves_array_type, leaves_named_type, leaves_width_type}

infixr 50 ◌then◌
pub sign_word : (s : Symbol) → One (symbol s) (sign s)
sign_word s = (_, refl, refl)

pub word_word : (k : Keyword) → One (keyword k) (word k)
word_word k = (_, refl, refl)

pub assoc2 : (e a b : List Leaf) → e ++ a ++ b ≡ e ++ (a ++ b)
assoc2 e a b = append_assoc e a b

pub assoc3 : (e a b c : List Leaf) → e ++ a ++ b ++ c ≡ e ++ (a ++ b ++ c)
assoc3 e a b c = ap (λ t. t ++ c) (assoc2 e a b) ∙ append_assoc e (a ++ b) c

pub assoc4 : (e a b c d : List Leaf) → e ++ a ++ b ++ c ++ d ≡ e ++ (a ++ b ++ c ++ d)
assoc4 e a b c d = ap (λ t. t ++ d) (assoc3 e a b c) ∙ append_assoc e (a ++ b ++ c) d

pub assoc5 : (e a b c d f : List Leaf) → e ++ a ++ b ++ c ++ d ++ f ≡ e ++ (a ++ b ++ c ++ d ++ f)
assoc5 e a b c d f = ap (λ t. t ++ f) (assoc4 e a b c d) ∙ append_assoc e (a ++ b ++ c ++ d) f

pub placed_word : (terminal : Terminal) (place : ℕ) → One terminal (placed terminal place)
placed_word terminal place = (_, refl, refl)

-- behind the parts of a list stands a closing bracket
pub before_brace : Apart (One (symbol symbols.RightBrace)) Any (NoComma Any)
before_brace = before_one Any (NoComma Any) (symbol symbols.RightBrace) (tt, refl)

pub before_bracket : Apart (One (symbol symbols.RightBracket)) Any (NoComma Any)
before_bracket = before_one Any (NoComma Any) (symbol symbols.RightBracket) (tt, refl)

-- a language of which a word is known, and for each of its words leaves that are like it
pub record Known (P : List Leaf → Type 0) : Type 0 where
  pub some : Has P
  pub like : (q : List Leaf) → P q → Like q

-- one token, without its place or with it
abbrev pub one : (terminal : Terminal) → Known (One terminal)
one terminal = record { some = (record { terminal = terminal; place = None } ∷ [], (_, refl, refl)); like = λ q one. like_one one }

abbrev pub one_at : (terminal : Terminal) (place : ℕ) → Known (One terminal)
one_at terminal place = record { some = (placed terminal place, placed_word terminal place); like = λ q one. like_one one }

-- a part, of which a word is known
abbrev pub part : {X : Type 0} {Is : X → Type 0} {leaves : X → List Leaf} → Has (Part Is leaves) → Known (Part Is leaves)
part some = record { some = some; like = λ q part. like_part part }

abbrev pub this : {X : Type 0} {Is : X → Type 0} {leaves : X → List Leaf} (x : X) → Is x → Has (Part Is leaves)
this {leaves = leaves} x is = (leaves x, (x, is, refl))

-- the words of one language, each with a word of another behind it
abbrev pub ◌then◌ : {P Q : List Leaf → Type 0} → Known P → Known Q → Known (Then P Q)
a then b = record {
  some = (a.some.0 ++ b.some.0, (a.some.0, b.some.0, a.some.1, b.some.1, refl));
  like = λ q both. like_then both (a.like both.0 both.2) (b.like both.1 both.3);
}

-- a name, a number and a literal by the next token
pub one_name : {source : Source} {cursor : Cursor} {terminal : Terminal} (bytes : List ℕ) →
    IsToken kinds.Name bytes → name bytes ≡ terminal → next source cursor ≡ Some terminal →
    Goes source cursor cursor (Part IsName name_leaves) Any (One terminal)
one_name bytes is same at =
    single (λ n. record { terminal = name n.text; place = Some n.place }) (λ n. refl) (λ place. record { text = bytes; place = place }) (λ place. is) (λ place. same) (λ place. refl) at

pub one_number : {source : Source} {cursor : Cursor} {terminal : Terminal} (value : ℕ) →
    value < 2 ^ 32 → number value ≡ terminal → next source cursor ≡ Some terminal →
    Goes source cursor cursor (Part NumberFits number_leaves) Any (One terminal)
one_number value is same at =
    single (λ n. record { terminal = number n.value; place = Some n.place }) (λ n. refl) (λ place. record { value = value; place = place }) (λ place. is) (λ place. same) (λ place. refl) at

pub one_literal : {source : Source} {cursor : Cursor} {terminal : Terminal} (bits : BitVector) →
    IsBitVector bits.width bits.number → literal bits ≡ terminal → next source cursor ≡ Some terminal →
    Goes source cursor cursor (Part LiteralFits literal_leaves) Any (One terminal)
one_literal bits is same at =
    single (λ l. record { terminal = literal l.bits; place = Some l.place }) (λ l. refl) (λ place. record { bits = bits; place = place }) (λ place. is) (λ place. same) (λ place. refl) at

-- `bits` and a number
abbrev pub WidthWord : List Leaf → Type 0
WidthWord = Then (One (keyword keywords.Bits)) (Part NumberFits number_leaves)

pub width_word : (width : Width) → IsWidth width → WidthWord (width_leaves width)
width_word width is =
    let words : Known WidthWord = one_at (keyword keywords.Bits) width.place then part (this width.number is) in
    words.some.1

width_within : Within WidthWord (Part IsWidth width_leaves)
width_within q both = made_at q (λ place. place_then place both (like_part both.3)) (λ place. record { place = place; number = both.3.0 }) (λ place. both.3.1) (λ place. refl)

pub width_start : {source : Source} {cursor : Cursor} {Follow : Option Terminal → Type 0} → Goes source cursor cursor (Part IsWidth width_leaves) Follow WidthWord
width_start = starts WidthWord width_word (some_then (some_one (keyword keywords.Bits)) some_number) width_within

-- a member, and a field
abbrev pub MemberWord : List Leaf → Type 0
MemberWord = Then (Part IsName name_leaves) (Then (One (symbol symbols.Equals)) (Part LiteralFits literal_leaves))

abbrev member_words : Has (Part IsName name_leaves) → Has (Part LiteralFits literal_leaves) → Known MemberWord
member_words n value = part n then one (symbol symbols.Equals) then part value

pub member_word : (member : EnumMember) → IsMember member → MemberWord (member_leaves member)
member_word member is = (member_words (this member.name is.0) (this member.value is.1)).some.1

abbrev known_member : Known MemberWord
known_member = member_words some_name some_literal

member_within : Within MemberWord (Part IsMember member_leaves)
member_within q both =
    made q (known_member.like q both) (record { name = both.2.0; value = both.3.3.0 }) (both.2.1, both.3.3.1) refl

pub member_start : {source : Source} {cursor : Cursor} {Follow : Option Terminal → Type 0} → Goes source cursor cursor (Part IsMember member_leaves) Follow MemberWord
member_start = starts MemberWord member_word known_member.some member_within

abbrev pub FieldWord : List Leaf → Type 0
FieldWord = Then (Part IsName name_leaves) (Then (One (symbol symbols.Colon)) (Part IsType type_leaves))

abbrev field_words : Has (Part IsName name_leaves) → Has (Part IsType type_leaves) → Known FieldWord
field_words n of = part n then one (symbol symbols.Colon) then part of

pub field_word : (field : Field) → IsField field → FieldWord (field_leaves field)
field_word field is = (field_words (this field.name is.0) (this field.of is.1)).some.1

abbrev known_field : Known FieldWord
known_field = field_words some_name some_type

field_within : Within FieldWord (Part IsField field_leaves)
field_within q both =
    made q (known_field.like q both) (record { name = both.2.0; of = both.3.3.0 }) (both.2.1, both.3.3.1) refl

pub field_start : {source : Source} {cursor : Cursor} {Follow : Option Terminal → Type 0} → Goes source cursor cursor (Part IsField field_leaves) Follow FieldWord
field_start = starts FieldWord field_word known_field.some field_within

pub some_member : Has (Part IsMember member_leaves)
some_member = let m : EnumMember = record { name = a_name; value = a_literal } in (member_leaves m, (m, (a_name_is, a_literal_is), refl))

pub some_field : Has (Part IsField field_leaves)
some_field =
    let f : Field = record { name = a_name; of = type_views.made-Named a_name } in
    (field_leaves f, (f, (a_name_is, is_named_type a_name a_name_is), refl))

-- the word of a declaration and the name behind it
abbrev pub DeclaredWord : Keyword → List Leaf → Type 0
DeclaredWord k = Then (One (keyword k)) (Part IsName name_leaves)

pub declared_start : {source : Source} {cursor : Cursor} {Follow : Option Terminal → Type 0} (k : Keyword) →
    Goes source cursor cursor (DeclaredWord k) Follow (DeclaredWord k)
declared_start k = begin (DeclaredWord k) (some_then (some_one (keyword k)) some_name)

-- what is a type
pub width_is_type : Within (Part IsWidth width_leaves) (Part IsType type_leaves)
width_is_type q part = made q (like_part part) (type_views.made-Bits part.0) (is_width_type part.0 part.1) (leaves_width_type part.0)

pub name_is_type : Within (Part IsName name_leaves) (Part IsType type_leaves)
name_is_type q part = made q (like_part part) (type_views.made-Named part.0) (is_named_type part.0 part.1) (leaves_named_type part.0)

abbrev array_words : ℕ → Has (Part IsType type_leaves) → Has (Part NumberFits number_leaves) → Known ArrayTypeWord
array_words place element size =
    one_at (symbol symbols.LeftBracket) place then part element
    then one (symbol symbols.Semicolon) then part size then one (symbol symbols.RightBracket)

array_leaves : (place : ℕ) (element : List Leaf) (size : Number) →
    placed (symbol symbols.LeftBracket) place ++ element ++ sign symbols.Semicolon ++ number_leaves size ++ sign symbols.RightBracket
    ≡ placed (symbol symbols.LeftBracket) place ++ (element ++ (sign symbols.Semicolon ++ number_leaves size ++ sign symbols.RightBracket))
array_leaves place element size =
    ap (λ t. placed (symbol symbols.LeftBracket) place ++ t)
    (assoc3 element (sign symbols.Semicolon) (number_leaves size) (sign symbols.RightBracket))

pub array_is_type : Within ArrayTypeWord (Part IsType type_leaves)
array_is_type q both =
    let element = both.3.2 in
    let behind = both.3.3 in
    let size = behind.3.2 in
    let sized = like_then behind.3 (like_part size) (like_one behind.3.3) in
    made_at q (λ place. place_then place both (like_then both.3 (like_part element) (like_then behind (like_one behind.2) sized)))
    (λ place. type_views.Array place element.0 size.0) (λ place. is_array_type place element.0 size.0 element.1 size.1)
    (λ place. leaves_array_type place element.0 size.0 ∙ array_leaves place (type_leaves element.0) size.0)

pub some_array_type : Has ArrayTypeWord
some_array_type = (array_words 0 some_type some_number).some

-- a type by its next token
-- each type, where its first token is the next one, has a word of this language
abbrev pub EachType : (List Leaf → Type 0) → List Leaf → Option Terminal → Type 0
EachType W v next =
    (y : type_kind.Open) → IsTypeLayer (type_kind.closed y) → first (type_layer (type_kind.closed y) ++ v) ≡ next → W (type_layer (type_kind.closed y))

pub type_case : (W : List Leaf → Type 0) {v : List Leaf} {next : Option Terminal} → EachType W v next →
    (of : TypeExpression) → IsType of → first (type_leaves of ++ v) ≡ next → W (type_leaves of)
type_case W {v} {next} each of is = of_leaves type_kind type_grown type_leaves_by (λ u. first (u ++ v) ≡ next → W u) each of is

pub type_bits : (of : TypeExpression) → IsType of → (v : List Leaf) (next : Option Terminal) → first (type_leaves of ++ v) ≡ next →
    next ≡ Some (keyword keywords.Bits) → Part IsWidth width_leaves (type_leaves of)
type_bits of is v next at bits = type_case (Part IsWidth width_leaves) each of is at
  where
    each : EachType (Part IsWidth width_leaves) v next
    each (type_expression.Bits width) is at = (width, is, refl)
    each (type_expression.Named n) is at = absurd (name_or_word (at ∙ bits))
    each (type_expression.Array place element size) is at = absurd (sign_or_word (at ∙ bits))

pub type_name : (of : TypeExpression) → IsType of → (v : List Leaf) (next : Option Terminal) → first (type_leaves of ++ v) ≡ next →
    option_map kind_of next ≡ Some kinds.Name → Part IsName name_leaves (type_leaves of)
type_name of is v next at named = type_case (Part IsName name_leaves) each of is at
  where
    each : EachType (Part IsName name_leaves) v next
    each (type_expression.Bits width) is at = absurd (word_or_name (ap (option_map kind_of) at ∙ named))
    each (type_expression.Named n) is at = (n, is, refl)
    each (type_expression.Array place element size) is at = absurd (sign_or_name (ap (option_map kind_of) at ∙ named))

pub type_array : (of : TypeExpression) → IsType of → (v : List Leaf) (next : Option Terminal) → first (type_leaves of ++ v) ≡ next →
    (next ≡ Some (keyword keywords.Bits) → ⊥) → (option_map kind_of next ≡ Some kinds.Name → ⊥) → ArrayTypeWord (type_leaves of)
type_array of is v next at bits named = type_case ArrayTypeWord each of is at
  where
    each : EachType ArrayTypeWord v next
    each (type_expression.Bits width) is at = absurd (bits (sym at))
    each (type_expression.Named n) is at = absurd (named (sym (ap (option_map kind_of) at)))
    each (type_expression.Array place element size) is at =
        subst ArrayTypeWord (sym (array_leaves place (type_leaves element.0) size)) (array_words place (this element.0 element.1) (this size is)).some.1

pub type_at_bits : {source : Source} {cursor : Cursor} {Follow : Option Terminal → Type 0} → next source cursor ≡ Some (keyword keywords.Bits) →
    Goes source cursor cursor (Part IsType type_leaves) Follow (Part IsWidth width_leaves)
type_at_bits {source} {cursor} bits = narrow_part (Part IsWidth width_leaves) (λ x is v at. type_bits x is v (next source cursor) at bits) some_width width_is_type

pub type_at_name : {source : Source} {cursor : Cursor} {Follow : Option Terminal → Type 0} → kind_at source cursor ≡ Some kinds.Name →
    Goes source cursor cursor (Part IsType type_leaves) Follow (Part IsName name_leaves)
type_at_name {source} {cursor} named =
    narrow_part (Part IsName name_leaves) (λ x is v at. type_name x is v (next source cursor) at (kind_of_next source cursor ∙ named)) some_name name_is_type

pub type_elsewhere : {source : Source} {cursor : Cursor} {Follow : Option Terminal → Type 0} →
    (next source cursor ≡ Some (keyword keywords.Bits) → ⊥) → (kind_at source cursor ≡ Some kinds.Name → ⊥) →
    Goes source cursor cursor (Part IsType type_leaves) Follow ArrayTypeWord
type_elsewhere {source} {cursor} bits named =
    narrow_part ArrayTypeWord (λ x is v at. type_array x is v (next source cursor) at bits (λ e. named (sym (kind_of_next source cursor) ∙ e))) some_array_type array_is_type
