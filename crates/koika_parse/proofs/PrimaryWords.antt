-- What is left of a primary, of what stands behind a name, and of arguments, by the next token.
use Rattle.koika_syntax.specs.declared.symbol.Symbol.{Symbol}
use Rattle.koika_syntax.specs.declared.keyword.Keyword.{Keyword}
use Rattle.koika_parse.proofs.Commas.{some_commas}
use Rattle.kw_bits.specs.BitVector.{BitVector}
use Rattle.koika_syntax.specs.declared.operator.Extension.{Extension}
use Rattle.koika_syntax.specs.declared.operator.SignedComparison.{SignedComparison}
use Rattle.koika_parse.specs.inner.Stops.{Stop}
use Rattle.std.proofs.Common.{Result}
use Rattle.koika_parse.proofs.Expected.{Language, Lookahead, same_first, tail, free_last}
use Rattle.koika_parse.proofs.Witnesses.{some_expression, some_level, some_name, some_number, a_number, some_block, some_literal, some_type}
use Rattle.koika_parse.specs.inner.Parts.{IsFieldValue}
use Rattle.koika_parse.proofs.MadeExpressions.{field_value_within, literal_primary, named_primary}
use Rattle.std.proofs.Common.{◌≡◌, ℕ, ◌<◌, Option, Some, Err, List, [], ◌∷◌, ◌++◌, length, map, append_assoc, inl, inr, refl, ap, sym, subst, ◌∙◌, arith, lit<}
use Rattle.std.specs.Prelude.{◌⊎◌, ◌≢◌}
use Rattle.std.specs.List.{All}
use Rattle.std.proofs.lemmas.List.Elements.{All-head, All-nil}
use Rattle.koika_syntax.specs.Grammar.{IsPart, part_leaves}
use Rattle.koika_syntax.specs.inner.Grammar.{IsExpression, expression_leaves, field_value_leaves}
use Rattle.koika_syntax.specs.Tree.{Leaf, Terminal, keyword, symbol, number_leaves, commas, with_between, sign, each_after, comparison_word, extension_word, read_word, write_word}
use Rattle.koika_syntax.specs.declared.keyword.Keyword.TheVariants as keywords
use Rattle.koika_syntax.specs.declared.symbol.Symbol.TheVariants as symbols
use Rattle.koika_syntax.specs.declared.token.TokenKind.{TokenKind}
use Rattle.koika_syntax.specs.declared.token.TokenKind.TheVariants as kinds
use Rattle.koika_syntax.specs.declared.tree.Expression.{Expression}
use Rattle.koika_syntax.specs.declared.tree.UpdatedPart as tree_parts
use Rattle.koika_syntax.specs.declared.tree.UpdatedPart.TheVariants as parts
use Rattle.koika_parse.specs.inner.Expected.{One, Part, Then, first, Takes, Commas, Any, NoComma}
use Rattle.koika_parse.specs.inner.ExpressionWords.{Free, LevelWord, NamedWord, NamedTailWord, CallTailWord, ColonsWord}
use Rattle.koika_parse.specs.inner.ExpressionWords.{ArgumentsWord, ConditionalWord, parenthesis_follows, ArrayWord}
use Rattle.koika_parse.specs.inner.ExpressionWords.{CompareWord, ExtendWord, KeywordWord, OneBlock, OneLiteral, OnePart}
use Rattle.koika_parse.specs.inner.ExpressionWords.{PackWord, ParenthesesWord, ReadWord, SymbolWord, UnpackWord}
use Rattle.koika_parse.specs.inner.ExpressionWords.{UpdateWord, WriteWord}
use Rattle.koika_parse.specs.inner.Reading.{kind_at, next}
use Rattle.koika_parse.specs.declared.cursor.Cursor.{Cursor}
use Rattle.koika_parse.specs.declared.source.Source.{Source}
use Rattle.kw_bits.specs.declared.failure.Failure.TheVariants as failures
use Rattle.koika_parse.specs.declared.stop.Unread.TheVariants as unread
use Rattle.koika_parse.proofs.Expected.{Empty, Goes, start, narrow_part, refused, same_of_some, kind_is, Has, Within, begin, has_within, kept, kind_of, like_part, made, same_of, some_one, some_then}
use Rattle.koika_parse.proofs.Rows.{the_first, the_second, first_one}
use Rattle.koika_parse.proofs.ExpressionWords.{OneExpression, PrimaryWord, primary_word, ArmWord, arm_word, expression_split, FieldValueWord}
use Rattle.koika_parse.proofs.ChainWords.{OneName, OneNumber, begins, chain_begins, other_token}

-- a primary by the kind of the next token
pub primary_at : {source : Source} {cursor : Cursor} {Follow : Lookahead} (kind : TokenKind) → Has (PrimaryWord kind) → Within (PrimaryWord kind) (LevelWord 12) → kind_at source cursor ≡ Some kind →
    Goes source cursor cursor (LevelWord 12) Follow (PrimaryWord kind)
primary_at {source} {cursor} kind some within at = narrow_part (PrimaryWord kind) (λ x is v same.
    let headed = primary_word x is in
    subst (λ k. PrimaryWord k (expression_leaves x)) (same_of_some (sym (kind_is source cursor (sym (same_first v headed.2) ∙ same)) ∙ at)) headed.3) some within

pub primary_none : {Y : Type 0} {source : Source} {cursor : Cursor} {Follow : Lookahead} → ((kind : TokenKind) → kind_at source cursor ≡ Some kind → (u : List Leaf) → PrimaryWord kind u → ⊥) →
    Takes {X = Y} source cursor cursor (LevelWord 12) Follow (Err (failures.Why unread.Unexpected))
primary_none {Y} {source} {cursor} none = refused (begin (LevelWord 12) (some_level 12 (omega arith))) (λ r v word behind same.
    let headed = primary_word word.0 word.1 in
    none (kind_of headed.0.terminal) (kind_is source cursor (sym (same_first v (word.2 ∙ headed.2)) ∙ same)) (expression_leaves word.0) headed.3)

-- an `if` begins with its word
pub conditional_first : (r v : List Leaf) → ConditionalWord r → first (r ++ v) ≡ Some (keyword keywords.If)
conditional_first r v both =
    same_first v both.4 ∙ ap first (append_assoc both.0 both.1 v)
    ∙ first_one (keyword keywords.If) _ both.0 (both.1 ++ v) (subst ArmWord (sym both.2.2) (arm_word both.2.0 both.2.1))

-- what no expression begins with
pub no_expression : (r v : List Leaf) (terminal : Terminal) → OneExpression r → first (r ++ v) ≡ Some terminal → begins terminal ≡ 0 → Some terminal ≢ Some (keyword keywords.If) → ⊥
no_expression r v terminal word at none other = of (expression_split r word)
  where
    of : LevelWord 1 r ⊎ ConditionalWord r → ⊥
    of (inl chain) = other_token v terminal (chain_begins 1 (omega arith) (omega arith) r chain) at (omega (arith, none))
    of (inr conditional) = other (sym at ∙ conditional_first r v conditional)

-- what stands behind a name
pub some_named : Has NamedWord
some_named = some_then some_name ([], inl refl)

pub some_field_value_word : Has FieldValueWord
some_field_value_word = some_then some_name (some_then (some_one (symbol symbols.Colon)) some_expression)

no_arguments : Has ArgumentsWord
no_arguments = (commas (map expression_leaves []), ([], All-nil IsExpression, refl))

pub named_start : {source : Source} {cursor : Cursor} {Follow : Lookahead} → Goes source cursor cursor NamedWord Follow NamedWord
named_start = begin NamedWord some_named

pub some_field_value : Has (Part IsFieldValue field_value_leaves)
some_field_value = has_within field_value_within some_field_value_word

some_call : Has CallTailWord
some_call = some_then (some_one (symbol symbols.LeftParenthesis)) (some_then no_arguments (some_one (symbol symbols.RightParenthesis)))

-- what stands between the brackets of a struct
abbrev pub FieldValuesTail : Language
FieldValuesTail = Then (Commas IsFieldValue field_value_leaves) (One (symbol symbols.RightBrace))

pub some_field_values_tail : Has FieldValuesTail
some_field_values_tail = some_then (some_commas some_field_value) (some_one (symbol symbols.RightBrace))

free_call : (next : Option Terminal) → Free 12 next → next ≡ Some (symbol symbols.LeftParenthesis) → ⊥
free_call next free at = let less : 12 < 12 = subst (Free 12) at free in omega (arith, less)

free_colons : (next : Option Terminal) → Free 12 next → next ≡ Some (symbol symbols.ColonColon) → ⊥
free_colons next free at = let less : 12 < 12 = subst (Free 12) at free in omega (arith, less)

-- a double colon and what is after it
abbrev pub MemberTailWord : Language
MemberTailWord = Then (One (symbol symbols.ColonColon)) ColonsWord

colons_or_call : Some (symbol symbols.ColonColon) ≡ Some (symbol symbols.LeftParenthesis) → ⊥
colons_or_call e = cc e

pub named_call :
    {source : Source} {old new : Cursor} {Word : Language} → next source new ≡ Some (symbol symbols.LeftParenthesis) →
    Goes source old new Word (Free 12) NamedTailWord → Goes source old new Word (Free 12) CallTailWord
named_call {source} {old} {new} at goes = the_first (the_second goes
    (λ r v empty behind same. free_call (next source new) (subst (Free 12) (same_first v (sym empty) ∙ same) behind) at) (some_call.0, inl some_call.1))
    (λ r v colons behind same. colons_or_call (sym (first_one (symbol symbols.ColonColon) ColonsWord r v colons) ∙ same ∙ at)) some_call

pub named_colons :
    {source : Source} {old new : Cursor} {Word : Language} → next source new ≡ Some (symbol symbols.ColonColon) →
    Goes source old new Word (Free 12) NamedTailWord → Goes source old new Word (Free 12) MemberTailWord
named_colons {source} {old} {new} at goes = the_second (the_second goes
    (λ r v empty behind same. free_colons (next source new) (subst (Free 12) (same_first v (sym empty) ∙ same) behind) at) (some_call.0, inl some_call.1))
    (λ r v call behind same. colons_or_call (sym (sym (first_one (symbol symbols.LeftParenthesis) (Then ArgumentsWord (One (symbol symbols.RightParenthesis))) r v call) ∙ same ∙ at)))
    (some_then (some_one (symbol symbols.ColonColon)) (some_name.0, inl some_name.1))

pub named_end :
    {source : Source} {old new : Cursor} {Word : Language} {Follow : Lookahead} →
    next source new ≢ Some (symbol symbols.LeftParenthesis) → next source new ≢ Some (symbol symbols.ColonColon) →
    Goes source old new Word Follow NamedTailWord → Goes source old new Word Follow Empty
named_end {source} {old} {new} call colons goes = the_first goes (λ r v more behind same. of r v more same) ([], refl)
  where
    of : (r v : List Leaf) → CallTailWord r ⊎ MemberTailWord r → first (r ++ v) ≡ next source new → ⊥
    of r v (inl word) same = call (sym same ∙ first_one (symbol symbols.LeftParenthesis) (Then ArgumentsWord (One (symbol symbols.RightParenthesis))) r v word)
    of r v (inr word) same = colons (sym same ∙ first_one (symbol symbols.ColonColon) ColonsWord r v word)

pub no_commas : commas [] ≡ []
unfolding with_between
no_commas = refl

commas_more : (part : List Leaf) (parts : List (List Leaf)) → commas (part ∷ parts) ≡ part ++ each_after (sign symbols.Comma) parts
unfolding with_between
commas_more part parts = refl

number_or_name : {n : ℕ} → Some (kinds.Number n) ≡ Some kinds.Name → ⊥
number_or_name e = cc e

-- no argument, or at least one
abbrev SomeArguments : Language
SomeArguments = Commas IsExpression expression_leaves

arguments_cases : (r : List Leaf) → ArgumentsWord r → Empty r ⊎ SomeArguments r
arguments_cases r word = subst (λ r. Empty r ⊎ SomeArguments r) (sym word.2) (of word.0 word.1)
  where
    of : (xs : List Expression) → All IsExpression xs → Empty (commas (map expression_leaves xs)) ⊎ SomeArguments (commas (map expression_leaves xs))
    of [] all = inl no_commas
    of (x ∷ xs) all = inr (x ∷ xs, (omega arith, all), refl)

arguments_within : Within (λ u. Empty u ⊎ SomeArguments u) ArgumentsWord
arguments_within q (inl empty) = kept q (commas (map expression_leaves [])) ([], All-nil IsExpression, refl) (same_of (no_commas ∙ sym empty))
arguments_within q (inr word) = kept q q (word.0, word.1.1, word.2) (same_of refl)

arguments_start : {source : Source} {cursor : Cursor} {Follow : Lookahead} → Goes source cursor cursor ArgumentsWord Follow (λ u. Empty u ⊎ SomeArguments u)
arguments_start = start arguments_cases ([], inl refl) arguments_within

arguments_first : (r v : List Leaf) → SomeArguments r → first (r ++ v) ≡ Some (symbol symbols.RightParenthesis) → ⊥
arguments_first r v word at = of word.0 word.1.0 word.1.1 (same_first v (sym word.2) ∙ at)
  where
    of : (xs : List Expression) → 0 < length xs → All IsExpression xs → first (commas (map expression_leaves xs) ++ v) ≡ Some (symbol symbols.RightParenthesis) → ⊥
    of [] some all at = omega (arith, some)
    of (x ∷ xs) some all at =
        let more = each_after (sign symbols.Comma) (map expression_leaves xs) in
        let first_is = ap first (sym (append_assoc (expression_leaves x) more v)) ∙ same_first v (sym (commas_more (expression_leaves x) (map expression_leaves xs))) in
        no_expression (expression_leaves x) (more ++ v) (symbol symbols.RightParenthesis) (x, All-head IsExpression x xs all, refl) (first_is ∙ at) refl (λ e. cc e)

pub arguments_end : {source : Source} {cursor : Cursor} {Follow : Lookahead} → next source cursor ≡ Some (symbol symbols.RightParenthesis) → Goes source cursor cursor ArgumentsWord Follow Empty
arguments_end at = the_first arguments_start (λ r v some behind same. arguments_first r v some (same ∙ at)) ([], refl)

pub arguments_at : {source : Source} {cursor : Cursor} → next source cursor ≢ Some (symbol symbols.RightParenthesis) → Goes source cursor cursor ArgumentsWord parenthesis_follows SomeArguments
arguments_at other = the_second arguments_start (λ r v empty behind same. other (sym same ∙ same_first v empty ∙ behind)) (some_commas some_expression)

-- the part of an update by the next token
pub part_name : {source : Source} {cursor : Cursor} {Follow : Lookahead} → kind_at source cursor ≡ Some kinds.Name → Goes source cursor cursor OnePart Follow OneName
part_name {source} {cursor} named = narrow_part OneName (λ x is v at. of x is v at) some_name (λ q part. made q (like_part part) (parts.Field part.0) part.1 refl)
  where
    of : (x : tree_parts.UpdatedPart) → IsPart x → (v : List Leaf) → first (part_leaves x ++ v) ≡ next source cursor → OneName (part_leaves x)
    of (parts.Field n) is v at = (n, is, refl)
    of (parts.Index index) is v at = absurd (number_or_name (sym (kind_is source cursor at) ∙ named))

pub part_number : {source : Source} {cursor : Cursor} {Follow : Lookahead} → kind_at source cursor ≢ Some kinds.Name → Goes source cursor cursor OnePart Follow OneNumber
part_number {source} {cursor} other = narrow_part OneNumber (λ x is v at. of x is v at) some_number (λ q part. made q (like_part part) (parts.Index part.0) part.1 refl)
  where
    of : (x : tree_parts.UpdatedPart) → IsPart x → (v : List Leaf) → first (part_leaves x ++ v) ≡ next source cursor → OneNumber (part_leaves x)
    of (parts.Field n) is v at = absurd (other (kind_is source cursor at))
    of (parts.Index index) is v at = (index, is, refl)

-- a parenthesis goes on with no expression, and is no comma
pub parenthesis_free : (next : Option Terminal) → parenthesis_follows next → NoComma (Free 0) next
parenthesis_free next at = subst (NoComma (Free 0)) (sym at) (tt, refl)

pub parenthesis_any : (next : Option Terminal) → parenthesis_follows next → NoComma Any next
parenthesis_any next at = subst (NoComma Any) (sym at) (tt, refl)

-- each primary by the symbol or the keyword that it begins with
pub some_array : Has ArrayWord
some_array = some_then (some_one (symbol symbols.LeftBracket)) (some_then (some_commas some_expression) (some_one (symbol symbols.RightBracket)))

pub array_start : {source : Source} {cursor : Cursor} {Follow : Lookahead} → Goes source cursor cursor ArrayWord Follow ArrayWord
array_start = begin ArrayWord some_array

pub some_parentheses : Has ParenthesesWord
some_parentheses = some_then (some_one (symbol symbols.LeftParenthesis)) (some_then some_expression (some_one (symbol symbols.RightParenthesis)))

pub parentheses_start : {source : Source} {cursor : Cursor} {Follow : Lookahead} → Goes source cursor cursor ParenthesesWord Follow ParenthesesWord
parentheses_start = begin ParenthesesWord some_parentheses

-- a word in front of arguments in parentheses
some_arguments : (k : Keyword) {P : Language} → Has P → Has (Then (One (keyword k)) (Then (One (symbol symbols.LeftParenthesis)) P))
some_arguments k some = some_then (some_one (keyword k)) (some_then (some_one (symbol symbols.LeftParenthesis)) some)

close : Has (One (symbol symbols.RightParenthesis))
close = some_one (symbol symbols.RightParenthesis)

comma_then : {P : Language} → Has P → Has (Then (One (symbol symbols.Comma)) P)
comma_then some = some_then (some_one (symbol symbols.Comma)) some

pub some_read : (port : ℕ) → Has (ReadWord port)
some_read port = some_arguments (read_word port) (some_then some_name close)

pub read_start : {source : Source} {cursor : Cursor} {Follow : Lookahead} (port : ℕ) → Goes source cursor cursor (ReadWord port) Follow (ReadWord port)
read_start port = begin (ReadWord port) (some_read port)

pub some_write : (port : ℕ) → Has (WriteWord port)
some_write port = some_arguments (write_word port) (some_then some_name (comma_then (some_then some_expression close)))

pub write_start : {source : Source} {cursor : Cursor} {Follow : Lookahead} (port : ℕ) → Goes source cursor cursor (WriteWord port) Follow (WriteWord port)
write_start port = begin (WriteWord port) (some_write port)

pub abort_start : {source : Source} {cursor : Cursor} {Follow : Lookahead} → Goes source cursor cursor (One (keyword keywords.Abort)) Follow (One (keyword keywords.Abort))
abort_start = begin (One (keyword keywords.Abort)) (some_one (keyword keywords.Abort))

pub some_pack : Has PackWord
some_pack = some_arguments keywords.Pack (some_then some_expression close)

pub pack_start : {source : Source} {cursor : Cursor} {Follow : Lookahead} → Goes source cursor cursor PackWord Follow PackWord
pack_start = begin PackWord some_pack

pub some_unpack : Has UnpackWord
some_unpack = some_arguments keywords.Unpack (some_then some_type (comma_then (some_then some_expression close)))

pub unpack_start : {source : Source} {cursor : Cursor} {Follow : Lookahead} → Goes source cursor cursor UnpackWord Follow UnpackWord
unpack_start = begin UnpackWord some_unpack

pub some_extend : (extension : Extension) → Has (ExtendWord extension)
some_extend extension = some_arguments (extension_word extension) (some_then some_expression (comma_then (some_then some_number close)))

pub extend_start : {source : Source} {cursor : Cursor} {Follow : Lookahead} (extension : Extension) → Goes source cursor cursor (ExtendWord extension) Follow (ExtendWord extension)
extend_start extension = begin (ExtendWord extension) (some_extend extension)

pub some_compare : (comparison : SignedComparison) → Has (CompareWord comparison)
some_compare comparison = some_arguments (comparison_word comparison) (some_then some_expression (comma_then (some_then some_expression close)))

pub compare_start : {source : Source} {cursor : Cursor} {Follow : Lookahead} (comparison : SignedComparison) → Goes source cursor cursor (CompareWord comparison) Follow (CompareWord comparison)
compare_start comparison = begin (CompareWord comparison) (some_compare comparison)

some_part : Has OnePart
some_part = (number_leaves a_number, (parts.Index a_number, lit< tt, refl))

pub some_update : Has UpdateWord
some_update = some_arguments keywords.Update (some_then some_expression (comma_then (some_then some_part (comma_then (some_then some_expression close)))))

pub update_start : {source : Source} {cursor : Cursor} {Follow : Lookahead} → Goes source cursor cursor UpdateWord Follow UpdateWord
update_start = begin UpdateWord some_update

pub literal_start : {source : Source} {cursor : Cursor} {Follow : Lookahead} → Goes source cursor cursor OneLiteral Follow OneLiteral
literal_start = begin OneLiteral some_literal

pub block_primary_start : {source : Source} {cursor : Cursor} {Follow : Lookahead} → Goes source cursor cursor OneBlock Follow OneBlock
block_primary_start = begin OneBlock some_block

-- what begins with a literal and a name, and with each symbol and keyword
pub literal_at :
    {source : Source} {cursor : Cursor} {Follow : Lookahead} (bits : BitVector) →
    kind_at source cursor ≡ Some (kinds.Literal bits) → Goes source cursor cursor (LevelWord 12) Follow OneLiteral
literal_at bits = primary_at (kinds.Literal bits) some_literal literal_primary

pub named_at : {source : Source} {cursor : Cursor} {Follow : Lookahead} → kind_at source cursor ≡ Some kinds.Name → Goes source cursor cursor (LevelWord 12) Follow NamedWord
named_at = primary_at kinds.Name some_named named_primary

pub symbol_at :
    {X : Type 0} {source : Source} {old new : Cursor} {result : Result X Stop} (s : Symbol) → Has (SymbolWord s) →
    Within (SymbolWord s) (LevelWord 12) → kind_at source old ≡ Some (kinds.Symbol s) →
    Takes source old new (SymbolWord s) Any result →
    Takes source old new (LevelWord 12) (Free 12) result
symbol_at {result = result} s some within at takes = tail result (primary_at (kinds.Symbol s) some within at) takes (free_last (Free 12))

pub keyword_at :
    {X : Type 0} {source : Source} {old new : Cursor} {result : Result X Stop} (k : Keyword) → Has (KeywordWord k) →
    Within (KeywordWord k) (LevelWord 12) → kind_at source old ≡ Some (kinds.Keyword k) →
    Takes source old new (KeywordWord k) Any result →
    Takes source old new (LevelWord 12) (Free 12) result
keyword_at {result = result} k some within at takes = tail result (primary_at (kinds.Keyword k) some within at) takes (free_last (Free 12))

-- no primary begins with a symbol or a keyword that is none of those
other_symbol : (s : Symbol) → s ≢ symbols.LeftBracket → s ≢ symbols.LeftParenthesis → s ≢ symbols.LeftBrace → (u : List Leaf) → SymbolWord s u → ⊥
other_symbol symbols.LeftBracket a b c u word = a refl
other_symbol symbols.LeftParenthesis a b c u word = b refl
other_symbol symbols.LeftBrace a b c u word = c refl
other_symbol _ a b c u word = word

pub symbol_refused :
    {Y : Type 0} {source : Source} {cursor : Cursor} {Follow : Lookahead} (s : Symbol) → s ≢ symbols.LeftBracket →
    s ≢ symbols.LeftParenthesis → s ≢ symbols.LeftBrace → kind_at source cursor ≡ Some (kinds.Symbol s) →
    Takes {X = Y} source cursor cursor (LevelWord 12) Follow (Err (failures.Why unread.Unexpected))
symbol_refused s a b c at = primary_none (λ kind here u word. other_symbol s a b c u (subst (λ k. PrimaryWord k u) (same_of_some (sym here ∙ at)) word))

pub other_keyword : (k : Keyword) → k ≢ keywords.Read0 → k ≢ keywords.Read1 → k ≢ keywords.Read2 → k ≢ keywords.Read3 →
    k ≢ keywords.Write0 → k ≢ keywords.Write1 → k ≢ keywords.Write2 → k ≢ keywords.Write3 → k ≢ keywords.Abort →
    k ≢ keywords.Pack → k ≢ keywords.Unpack → k ≢ keywords.Zext → k ≢ keywords.Sext → k ≢ keywords.Slt → k ≢ keywords.Sle →
    k ≢ keywords.Sgt → k ≢ keywords.Sge → k ≢ keywords.Update → (u : List Leaf) → KeywordWord k u → ⊥
other_keyword keywords.Read0 n0 n1 n2 n3 n4 n5 n6 n7 n8 n9 n10 n11 n12 n13 n14 n15 n16 n17 u word = n0 refl
other_keyword keywords.Read1 n0 n1 n2 n3 n4 n5 n6 n7 n8 n9 n10 n11 n12 n13 n14 n15 n16 n17 u word = n1 refl
other_keyword keywords.Read2 n0 n1 n2 n3 n4 n5 n6 n7 n8 n9 n10 n11 n12 n13 n14 n15 n16 n17 u word = n2 refl
other_keyword keywords.Read3 n0 n1 n2 n3 n4 n5 n6 n7 n8 n9 n10 n11 n12 n13 n14 n15 n16 n17 u word = n3 refl
other_keyword keywords.Write0 n0 n1 n2 n3 n4 n5 n6 n7 n8 n9 n10 n11 n12 n13 n14 n15 n16 n17 u word = n4 refl
other_keyword keywords.Write1 n0 n1 n2 n3 n4 n5 n6 n7 n8 n9 n10 n11 n12 n13 n14 n15 n16 n17 u word = n5 refl
other_keyword keywords.Write2 n0 n1 n2 n3 n4 n5 n6 n7 n8 n9 n10 n11 n12 n13 n14 n15 n16 n17 u word = n6 refl
other_keyword keywords.Write3 n0 n1 n2 n3 n4 n5 n6 n7 n8 n9 n10 n11 n12 n13 n14 n15 n16 n17 u word = n7 refl
other_keyword keywords.Abort n0 n1 n2 n3 n4 n5 n6 n7 n8 n9 n10 n11 n12 n13 n14 n15 n16 n17 u word = n8 refl
other_keyword keywords.Pack n0 n1 n2 n3 n4 n5 n6 n7 n8 n9 n10 n11 n12 n13 n14 n15 n16 n17 u word = n9 refl
other_keyword keywords.Unpack n0 n1 n2 n3 n4 n5 n6 n7 n8 n9 n10 n11 n12 n13 n14 n15 n16 n17 u word = n10 refl
other_keyword keywords.Zext n0 n1 n2 n3 n4 n5 n6 n7 n8 n9 n10 n11 n12 n13 n14 n15 n16 n17 u word = n11 refl
other_keyword keywords.Sext n0 n1 n2 n3 n4 n5 n6 n7 n8 n9 n10 n11 n12 n13 n14 n15 n16 n17 u word = n12 refl
other_keyword keywords.Slt n0 n1 n2 n3 n4 n5 n6 n7 n8 n9 n10 n11 n12 n13 n14 n15 n16 n17 u word = n13 refl
other_keyword keywords.Sle n0 n1 n2 n3 n4 n5 n6 n7 n8 n9 n10 n11 n12 n13 n14 n15 n16 n17 u word = n14 refl
other_keyword keywords.Sgt n0 n1 n2 n3 n4 n5 n6 n7 n8 n9 n10 n11 n12 n13 n14 n15 n16 n17 u word = n15 refl
other_keyword keywords.Sge n0 n1 n2 n3 n4 n5 n6 n7 n8 n9 n10 n11 n12 n13 n14 n15 n16 n17 u word = n16 refl
other_keyword keywords.Update n0 n1 n2 n3 n4 n5 n6 n7 n8 n9 n10 n11 n12 n13 n14 n15 n16 n17 u word = n17 refl
other_keyword _ n0 n1 n2 n3 n4 n5 n6 n7 n8 n9 n10 n11 n12 n13 n14 n15 n16 n17 u word = word

pub keyword_refused : {Y : Type 0} {source : Source} {cursor : Cursor} {Follow : Lookahead} (k : Keyword) → ((u : List Leaf) → KeywordWord k u → ⊥) → kind_at source cursor ≡ Some (kinds.Keyword k) →
    Takes {X = Y} source cursor cursor (LevelWord 12) Follow (Err (failures.Why unread.Unexpected))
keyword_refused k none at = primary_none (λ kind here u word. none u (subst (λ k. PrimaryWord k u) (same_of_some (sym here ∙ at)) word))
