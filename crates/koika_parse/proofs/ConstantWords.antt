-- The words of constants.
use Rattle.std.proofs.Common.{◌≡◌, Option, Some, List, [], ◌∷◌, ◌++◌, map, inl, inr, refl, ap, sym, ◌∙◌}
use Rattle.std.specs.List.{All}
use Rattle.koika_syntax.specs.Grammar.{IsName, IsNonempty, LiteralFits, constant_leaves, IsConstant, IsConstantLayer}
use Rattle.koika_syntax.specs.inner.Grammar.{constant_field_leaves}
use Rattle.koika_syntax.specs.Tree.{Leaf, Terminal, symbol, name_leaves, literal_leaves, sign}
use Rattle.koika_syntax.specs.declared.symbol.Symbol.TheVariants as symbols
use Rattle.koika_parse.specs.inner.Expected.{Commas, One, Part, Then, first}
use Rattle.koika_parse.specs.inner.Words.{ConstantArrayWord, ConstantColonsWord, ConstantTailWord, NamedConstantWord}
use Rattle.koika_parse.specs.inner.Reading.{kind_at, next}
use Rattle.koika_parse.specs.declared.cursor.Cursor.{Cursor}
use Rattle.koika_parse.specs.declared.source.Source.{Source}
use Rattle.koika_parse.proofs.Commas.{some_commas}
use Rattle.koika_parse.proofs.Witnesses.{some_constant, some_literal, some_name}
use Rattle.koika_parse.proofs.Layers.{Such, of_leaves, constant_kind, constant_grown, constant_layer, constant_leaves_by}
use Rattle.koika_parse.proofs.Layers.{constant_field_kind, constant_field_grown, constant_field_leaves_by}
use Rattle.koika_parse.proofs.Parts.{is_constant_array, is_constant_field, is_constant_literal, is_constant_member, is_constant_struct}
use Rattle.koika_parse.proofs.Calls.{leaves_constant_field, leaves_constant_literal, leaves_constant_member}
use Rattle.std.specs.Option.{option_map}
use Rattle.koika_syntax.specs.declared.token.TokenKind.TheVariants as kinds
use Rattle.koika_parse.proofs.Expected.{Goes, Has, Kept, Within, begin, has_within, starts, narrow_part, like_one}
use Rattle.koika_parse.proofs.Expected.{like_part, like_then, made, made_at, place_one, place_then, then_place}
use Rattle.koika_parse.proofs.Expected.{some_one, some_then, kind_of_next, kind_of, sign_or_name, literal_or_sign}
use Rattle.koika_parse.proofs.Expected.{name_or_sign, literal_or_name}
use Rattle.std.proofs.lemmas.List.Elements.{All-cons, All-nil}
use Rattle.koika_syntax.specs.declared.tree.Constant.{Constant}
use Rattle.koika_syntax.specs.declared.tree.Constant.TheOpen as constant
use Rattle.koika_syntax.specs.declared.tree.Name.{Name}
use Rattle.koika_syntax.specs.declared.tree.ConstantField.{ConstantField, roll-ConstantField}
use Rattle.koika_syntax.proofs.Leaves.{array_constant, struct_constant}
use Rattle.koika_syntax.specs.declared.tree.Constant.TheViews as constant_views
use Rattle.koika_parse.specs.inner.Parts.{IsConstantField}
use Rattle.koika_parse.proofs.Words.{Known, one, one_at, part, this, ◌then◌, sign_word}

abbrev pub ConstantFieldWord : List Leaf → Type 0
ConstantFieldWord = Then (Part IsName name_leaves) (Then (One (symbol symbols.Colon)) (Part IsConstant constant_leaves))

pub firsts_are : {X : Type 0} (P : X → Type 0) (xs : List (Such P)) → All P (map (λ e. e.0) xs)
firsts_are P [] = All-nil P
firsts_are P (x ∷ xs) = All-cons P x.0 (map (λ e. e.0) xs) x.1 (firsts_are P xs)

abbrev held_in : {X : Type 0} {Is : X → Type 0} (leaves : X → List Leaf) (xs : List (Such Is)) → IsNonempty (map (λ e. e.0) xs) → Has (Commas Is leaves)
held_in {Is = Is} leaves xs some = this (map (λ e. e.0) xs) (some, firsts_are Is xs)

-- each constant, where its first token is the next one, has a word of this language
abbrev EachConstant : (List Leaf → Type 0) → List Leaf → Option Terminal → Type 0
EachConstant W v next =
    (y : constant_kind.Open) → IsConstantLayer (constant_kind.closed y) → first (constant_layer (constant_kind.closed y) ++ v) ≡ next → W (constant_layer (constant_kind.closed y))

constant_case : (W : List Leaf → Type 0) {v : List Leaf} {next : Option Terminal} → EachConstant W v next →
    (t : Constant) → IsConstant t → first (constant_leaves t ++ v) ≡ next → W (constant_leaves t)
constant_case W {v} {next} each t is = of_leaves constant_kind constant_grown constant_leaves_by (λ u. first (u ++ v) ≡ next → W u) each t is

-- a constant by its next token
colons_word : (n : Name) → IsName n → (u : List Leaf) → ConstantColonsWord u → NamedConstantWord (name_leaves n ++ (sign symbols.ColonColon ++ u))
colons_word n is u word = (name_leaves n, sign symbols.ColonColon ++ u, (n, is, refl), (sign symbols.ColonColon, u, sign_word symbols.ColonColon, word, refl), refl)

pub constant_named : (t : Constant) → IsConstant t → (v : List Leaf) (next : Option Terminal) → first (constant_leaves t ++ v) ≡ next →
    option_map kind_of next ≡ Some kinds.Name → NamedConstantWord (constant_leaves t)
constant_named t is v next at named = constant_case NamedConstantWord each t is at
  where
    each : EachConstant NamedConstantWord v next
    each (constant.Literal l) is at = absurd (literal_or_name (ap (option_map kind_of) at ∙ named))
    each (constant.Member of member) is at = colons_word of is.0 (name_leaves member) (inl (member, is.1, refl))
    each (constant.Struct of fields close) is at =
        let words : Known ConstantTailWord = one (symbol symbols.LeftBrace) then part (held_in constant_field_leaves fields is.1) then one_at (symbol symbols.RightBrace) close in
        colons_word of is.0 words.some.0 (inr words.some.1)
    each (constant.Array place elements) is at = absurd (sign_or_name (ap (option_map kind_of) at ∙ named))

pub constant_bracket : (t : Constant) → IsConstant t → (v : List Leaf) (next : Option Terminal) → first (constant_leaves t ++ v) ≡ next →
    next ≡ Some (symbol symbols.LeftBracket) → ConstantArrayWord (constant_leaves t)
constant_bracket t is v next at here = constant_case ConstantArrayWord each t is at
  where
    each : EachConstant ConstantArrayWord v next
    each (constant.Literal l) is at = absurd (literal_or_sign (at ∙ here))
    each (constant.Member of member) is at = absurd (name_or_sign (at ∙ here))
    each (constant.Struct of fields close) is at = absurd (name_or_sign (at ∙ here))
    each (constant.Array place elements) is at =
        let words : Known ConstantArrayWord = one_at (symbol symbols.LeftBracket) place then part (held_in constant_leaves elements is) then one (symbol symbols.RightBracket) in
        words.some.1

pub constant_literal : (t : Constant) → IsConstant t → (v : List Leaf) (next : Option Terminal) → first (constant_leaves t ++ v) ≡ next →
    (option_map kind_of next ≡ Some kinds.Name → ⊥) → (next ≡ Some (symbol symbols.LeftBracket) → ⊥) → Part LiteralFits literal_leaves (constant_leaves t)
constant_literal t is v next at named here = constant_case (Part LiteralFits literal_leaves) each t is at
  where
    each : EachConstant (Part LiteralFits literal_leaves) v next
    each (constant.Literal l) is at = (l, is, refl)
    each (constant.Member of member) is at = absurd (named (sym (ap (option_map kind_of) at)))
    each (constant.Struct of fields close) is at = absurd (named (sym (ap (option_map kind_of) at)))
    each (constant.Array place elements) is at = absurd (here (sym at))

abbrev constant_field_words : Has (Part IsName name_leaves) → Has (Part IsConstant constant_leaves) → Known ConstantFieldWord
constant_field_words n value = part n then one (symbol symbols.Colon) then part value

pub constant_field_word : (t : ConstantField) → IsConstantField t → ConstantFieldWord (constant_field_leaves t)
constant_field_word = of_leaves constant_field_kind constant_field_grown constant_field_leaves_by ConstantFieldWord
    (λ y is. (constant_field_words (this y.name is) (this y.value.0 y.value.1)).some.1)

abbrev known_constant_field : Known ConstantFieldWord
known_constant_field = constant_field_words some_name some_constant

constant_field_within : Within ConstantFieldWord (Part IsConstantField constant_field_leaves)
constant_field_within q both =
    made q (known_constant_field.like q both) (roll-ConstantField (record { name = both.2.0; value = both.3.3.0 }))
    (is_constant_field both.2.0 both.3.3.0 both.2.1 both.3.3.1) (leaves_constant_field both.2.0 both.3.3.0)

pub constant_field_start : {source : Source} {cursor : Cursor} {Follow : Option Terminal → Type 0} →
    Goes source cursor cursor (Part IsConstantField constant_field_leaves) Follow ConstantFieldWord
constant_field_start = starts ConstantFieldWord constant_field_word known_constant_field.some constant_field_within

pub some_constant_field : Has (Part IsConstantField constant_field_leaves)
some_constant_field = has_within constant_field_within known_constant_field.some

-- what stands behind `::` of a constant, and what is a constant
abbrev pub FieldsTail : List Leaf → Type 0
FieldsTail = Then (Commas IsConstantField constant_field_leaves) (One (symbol symbols.RightBrace))

pub some_fields_tail : Has FieldsTail
some_fields_tail = some_then (some_commas some_constant_field) (some_one (symbol symbols.RightBrace))

some_named_constant : Has NamedConstantWord
some_named_constant = some_then some_name (some_then (some_one (symbol symbols.ColonColon)) (some_name.0, inl some_name.1))

pub named_constant_start : {source : Source} {cursor : Cursor} {Follow : Option Terminal → Type 0} → Goes source cursor cursor NamedConstantWord Follow NamedConstantWord
named_constant_start = begin NamedConstantWord some_named_constant

named_constant_within : Within NamedConstantWord (Part IsConstant constant_leaves)
named_constant_within q both = of both.3.3
  where
    of : ConstantColonsWord both.3.1 → Kept (Part IsConstant constant_leaves) q
    of (inl member) =
        made q (like_then both (like_part both.2) (like_then both.3 (like_one both.3.2) (like_part member))) (constant_views.made-Member both.2.0 member.0)
        (is_constant_member both.2.0 member.0 (both.2.1, member.1)) (leaves_constant_member both.2.0 member.0)
    of (inr tail) =
        let n = both.2 in
        let listed = tail.3.2 in
        let fields = listed.0 in
        made_at q
        (λ place. then_place both (like_part n) (then_place both.3 (like_one both.3.2) (then_place tail (like_one tail.2) (then_place tail.3 (like_part listed) (place_one place tail.3.3)))))
        (λ place. constant_views.Struct n.0 fields place) (λ place. is_constant_struct n.0 fields place listed.1.1 (n.1, listed.1.0))
        (λ place. struct_constant n.0 fields place)

some_constant_array : Has ConstantArrayWord
some_constant_array = some_then (some_one (symbol symbols.LeftBracket)) (some_then (some_commas some_constant) (some_one (symbol symbols.RightBracket)))

pub constant_array_start : {source : Source} {cursor : Cursor} {Follow : Option Terminal → Type 0} → Goes source cursor cursor ConstantArrayWord Follow ConstantArrayWord
constant_array_start = begin ConstantArrayWord some_constant_array

constant_array_within : Within ConstantArrayWord (Part IsConstant constant_leaves)
constant_array_within q both =
    let elements = both.3.2.0 in
    made_at q (λ place. place_then place both (like_then both.3 (like_part both.3.2) (like_one both.3.3))) (λ place. constant_views.Array place elements)
    (λ place. is_constant_array place elements both.3.2.1.1 both.3.2.1.0) (λ place. array_constant place elements)

literal_constant_within : Within (Part LiteralFits literal_leaves) (Part IsConstant constant_leaves)
literal_constant_within q part = made q (like_part part) (constant_views.made-Literal part.0) (is_constant_literal part.0 part.1) (leaves_constant_literal part.0)

-- a constant by the next token
pub constant_at_name : {source : Source} {cursor : Cursor} {Follow : Option Terminal → Type 0} → kind_at source cursor ≡ Some kinds.Name →
    Goes source cursor cursor (Part IsConstant constant_leaves) Follow NamedConstantWord
constant_at_name {source} {cursor} named =
    narrow_part NamedConstantWord (λ x is v at. constant_named x is v (next source cursor) at (kind_of_next source cursor ∙ named)) some_named_constant named_constant_within

pub constant_at_bracket : {source : Source} {cursor : Cursor} {Follow : Option Terminal → Type 0} → next source cursor ≡ Some (symbol symbols.LeftBracket) →
    Goes source cursor cursor (Part IsConstant constant_leaves) Follow ConstantArrayWord
constant_at_bracket {source} {cursor} here = narrow_part ConstantArrayWord (λ x is v at. constant_bracket x is v (next source cursor) at here) some_constant_array constant_array_within

pub constant_elsewhere : {source : Source} {cursor : Cursor} {Follow : Option Terminal → Type 0} →
    (kind_at source cursor ≡ Some kinds.Name → ⊥) → (next source cursor ≡ Some (symbol symbols.LeftBracket) → ⊥) →
    Goes source cursor cursor (Part IsConstant constant_leaves) Follow (Part LiteralFits literal_leaves)
constant_elsewhere {source} {cursor} named here =
    narrow_part (Part LiteralFits literal_leaves)
    (λ x is v at. constant_literal x is v (next source cursor) at (λ e. named (sym (kind_of_next source cursor) ∙ e)) here) some_literal literal_constant_within
