-- The words of declarations and of a design, and what is left of them by the next token.
use Rattle.koika_parse.proofs.Witnesses.{some_block, some_constant, some_declaration, some_literal, some_name, some_scheduler, some_type, some_width}
use Rattle.koika_parse.proofs.Commas.{some_commas}
use Rattle.std.proofs.lemmas.List.Elements.{All-nil}
use Rattle.std.proofs.Common.{◌≡◌, ℕ, ◌<◌, Option, None, Some, IfSome, Err, List, [], ◌∷◌, ◌++◌, length, map, append_assoc, append-nil, inl, inr, refl, ap, sym, subst, ◌∙◌, arith}
use Rattle.std.specs.Prelude.{◌⊎◌}
use Rattle.std.specs.List.{All, flat_map}
use Rattle.koika_syntax.specs.Grammar.{IsName, IsWidth, IsType, IsConstant, IsBlock, IsField, IsDeclaration, IsDesign}
use Rattle.koika_syntax.specs.Grammar.{type_leaves, member_leaves, field_leaves, constant_leaves, block_leaves}
use Rattle.koika_syntax.specs.Grammar.{scheduler_leaves, result_leaves, declaration_leaves, tree_leaves, LiteralFits}
use Rattle.koika_syntax.specs.Grammar.{IsMember}
use Rattle.koika_syntax.specs.Tree.{Leaf, Terminal, terminal_of, name, keyword, symbol, word, sign, placed, name_leaves, literal_leaves, width_leaves, commas, with_between, in_braces}
use Rattle.koika_syntax.specs.declared.keyword.Keyword.{Keyword}
use Rattle.koika_syntax.specs.declared.keyword.Keyword.TheVariants as keywords
use Rattle.koika_syntax.specs.declared.symbol.Symbol.TheVariants as symbols
use Rattle.koika_syntax.specs.declared.token.TokenKind.TheVariants as kinds
use Rattle.koika_syntax.specs.declared.tree.Declaration.{Declaration}
use Rattle.koika_syntax.specs.declared.tree.Declaration.TheVariants as declarations
use Rattle.koika_syntax.specs.declared.tree.Block.{Block}
use Rattle.koika_syntax.specs.declared.tree.Constant.{Constant}
use Rattle.koika_syntax.specs.declared.tree.Field.{Field}
use Rattle.koika_syntax.specs.declared.tree.Name.{Name}
use Rattle.koika_syntax.specs.declared.tree.Tree.{Tree}
use Rattle.koika_syntax.specs.declared.tree.TypeExpression.{TypeExpression}
use Rattle.koika_syntax.specs.declared.tree.TypeExpression.TheOpen as type_expression
use Rattle.std.specs.Option.{option_map}
use Rattle.std.proofs.lemmas.Option.{slice_get-get_or}
use Rattle.koika_parse.specs.inner.Expected.{Any, One, Part, Then, Commas, first, Takes}
use Rattle.koika_parse.specs.inner.ExpressionWords.{parenthesis_follows}
use Rattle.koika_parse.specs.inner.Reading.{kind_at, next}
use Rattle.koika_parse.specs.inner.Words.{ParametersWord, ResultWord, DeclarationWord, DeclarationsWord, DesignWord}
use Rattle.koika_parse.specs.inner.Words.{end_follows, schedule_follows, AssertWord, EnumWord, FunctionWord, HostWord}
use Rattle.koika_parse.specs.inner.Words.{InputWord, RegisterWord, RuleWord, StructWord, TableWord}
use Rattle.koika_parse.specs.declared.cursor.Cursor.{Cursor}
use Rattle.koika_parse.specs.declared.source.Source.{Source}
use Rattle.kw_bits.specs.declared.failure.Failure.TheVariants as failures
use Rattle.koika_parse.specs.declared.stop.Unread.TheVariants as unread
use Rattle.koika_parse.proofs.Expected.{Apart, Empty, Goes, before_one_then, start, starts, goes_as, narrow_part}
use Rattle.koika_parse.proofs.Expected.{refused, same_of_some, never_none, kind_is, sign_or_name, Has, Within, begin}
use Rattle.koika_parse.proofs.Expected.{has_within, kept, like_one, like_part, made, made_at, place_then, same_of}
use Rattle.koika_parse.proofs.Expected.{some_one, some_then, then_place}
use Rattle.koika_parse.proofs.Rows.{the_first, the_second, rows_none, rows_split}
use Rattle.koika_parse.proofs.SchedulerWords.{BracedScheduler}
use Rattle.koika_parse.proofs.Words.{DeclaredWord, EachType, type_case, Known, one, one_at, part, this, ◌then◌, word_word, assoc2, assoc3, assoc4, some_field, some_member}
use Rattle.koika_parse.proofs.PrimaryWords.{no_commas}

-- the words of each declaration, with its parts
abbrev named : (k : Keyword) → Has (Part IsName name_leaves) → Known (DeclaredWord k)
named k n = one (keyword k) then part n

abbrev enum_words : Has (Part IsName name_leaves) → Has (Part IsWidth width_leaves) → Has (Commas IsMember member_leaves) → Known EnumWord
enum_words n width members =
    named keywords.Enum n then one (symbol symbols.Colon) then part width
    then one (symbol symbols.LeftBrace) then part members then one (symbol symbols.RightBrace)

abbrev struct_words : Has (Part IsName name_leaves) → Has (Commas IsField field_leaves) → Known StructWord
struct_words n fields = named keywords.Struct n then one (symbol symbols.LeftBrace) then part fields then one (symbol symbols.RightBrace)

abbrev register_words : Has (Part IsName name_leaves) → Has (Part IsType type_leaves) → Has (Part IsConstant constant_leaves) → Known RegisterWord
register_words n of first =
    named keywords.Reg n then one (symbol symbols.Colon) then part of
    then one (symbol symbols.Equals) then part first then one (symbol symbols.Semicolon)

abbrev input_words : Has (Part IsName name_leaves) → Has (Part IsType type_leaves) → Known InputWord
input_words n of = named keywords.Input n then one (symbol symbols.Colon) then part of then one (symbol symbols.Semicolon)

abbrev table_words : Has (Part IsName name_leaves) → (input output : Has (Part IsWidth width_leaves)) → Has (Commas LiteralFits literal_leaves) → Known TableWord
table_words n input output entries =
    named keywords.Table n then one (symbol symbols.Colon) then part input then one (symbol symbols.Arrow) then part output
    then one (symbol symbols.LeftBrace) then part entries then one (symbol symbols.RightBrace)

abbrev host_words : Has (Part IsName name_leaves) → (input output : Has (Part IsWidth width_leaves)) → Known HostWord
host_words n input output =
    named keywords.Host n then one (symbol symbols.Colon) then part input
    then one (symbol symbols.Arrow) then part output then one (symbol symbols.Semicolon)

abbrev function_words : Has (Part IsName name_leaves) → Has ParametersWord → Has ResultWord → Has (Part IsBlock block_leaves) → Known FunctionWord
function_words n parameters result body =
    named keywords.Fun n then one (symbol symbols.LeftParenthesis) then part parameters
    then one (symbol symbols.RightParenthesis) then one (symbol symbols.Colon) then part result then part body

abbrev rule_words : Has (Part IsName name_leaves) → Has (Part IsBlock block_leaves) → Known RuleWord
rule_words n body = named keywords.Rule n then part body

abbrev assert_words : Has (Part IsName name_leaves) → Known AssertWord
assert_words n = named keywords.Assert n then one (symbol symbols.Semicolon)

-- the leaves of a register and of a function are those of such a word
register_leaves : (n : Name) (of : TypeExpression) (first : Constant) →
    declaration_leaves (declarations.Register n of first)
    ≡ word keywords.Reg ++ name_leaves n ++ (sign symbols.Colon ++ (type_leaves of ++ (sign symbols.Equals ++ constant_leaves first ++ sign symbols.Semicolon)))
register_leaves n of first =
    ap (λ t. word keywords.Reg ++ name_leaves n ++ (sign symbols.Colon ++ t))
    (assoc3 (type_leaves of) (sign symbols.Equals) (constant_leaves first) (sign symbols.Semicolon))

function_leaves : (n : Name) (parameters : List Field) (result : Option TypeExpression) (body : Block) →
    declaration_leaves (declarations.Function n parameters result body)
    ≡ word keywords.Fun ++ name_leaves n ++ (sign symbols.LeftParenthesis ++ (commas (map field_leaves parameters)
    ++ (sign symbols.RightParenthesis ++ sign symbols.Colon ++ result_leaves result ++ block_leaves body)))
function_leaves n parameters result body =
    ap (λ t. word keywords.Fun ++ name_leaves n ++ (sign symbols.LeftParenthesis ++ t))
    (assoc4 (commas (map field_leaves parameters)) (sign symbols.RightParenthesis) (sign symbols.Colon) (result_leaves result) (block_leaves body))

-- a declaration has the words of the keyword that it begins with
abbrev pub Headed : Declaration → Type 0
Headed d = (k : Keyword) × DeclarationWord k (declaration_leaves d) × ((v : List Leaf) → first (declaration_leaves d ++ v) ≡ Some (keyword k))

pub declaration_word : (d : Declaration) → IsDeclaration d → Headed d
declaration_word (declarations.Enum n width members) is =
    (keywords.Enum, (enum_words (this n is.0) (this width is.1) (this members (is.2, is.3))).some.1, λ v. refl)
declaration_word (declarations.Struct n fields) is = (keywords.Struct, (struct_words (this n is.0) (this fields (is.1, is.2))).some.1, λ v. refl)
declaration_word (declarations.Register n of first) is =
    let words = register_words (this n is.0) (this of is.1) (this first is.2) in
    (keywords.Reg, subst RegisterWord (sym (register_leaves n of first)) words.some.1, λ v. refl)
declaration_word (declarations.Input n of) is = (keywords.Input, (input_words (this n is.0) (this of is.1)).some.1, λ v. refl)
declaration_word (declarations.Table n input output entries) is =
    (keywords.Table, (table_words (this n is.0) (this input is.1) (this output is.2) (this entries (is.3, is.4))).some.1, λ v. refl)
declaration_word (declarations.Host n input output) is = (keywords.Host, (host_words (this n is.0) (this input is.1) (this output is.2)).some.1, λ v. refl)
declaration_word (declarations.Function n parameters result body) is =
    let words = function_words (this n is.0) (this parameters is.1) (this result is.2) (this body is.3) in
    (keywords.Fun, subst FunctionWord (sym (function_leaves n parameters result body)) words.some.1, λ v. refl)
declaration_word (declarations.Rule n body) is = (keywords.Rule, (rule_words (this n is.0) (this body is.1)).some.1, λ v. refl)
declaration_word (declarations.Assert n) is = (keywords.Assert, (assert_words (this n is)).some.1, λ v. refl)

the_keyword : Terminal → Keyword
the_keyword (keyword k) = k
the_keyword _ = keywords.Schedule

same_keyword : {a b : Keyword} → Some (keyword a) ≡ Some (keyword b) → a ≡ b
unfolding the_keyword
same_keyword same = ap the_keyword (same_of_some same)

-- what is made of the words of declarations
abbrev pub ADeclaration : List Leaf → Type 0
ADeclaration = Part IsDeclaration declaration_leaves

abbrev DeclaredAs : (Word : List Leaf → Type 0) → Type 0
DeclaredAs Word = Within Word ADeclaration

no_parameters : Has ParametersWord
no_parameters = (commas (map field_leaves []), ([], All-nil IsField, refl))

some_result : Has ResultWord
some_result = (word keywords.Unit, (None, tt, refl))

abbrev known_enum : Known EnumWord
known_enum = enum_words some_name some_width (some_commas some_member)

pub some_enum : Has EnumWord
some_enum = known_enum.some

pub enum_within : DeclaredAs EnumWord
enum_within q both =
    let n = both.2.3 in
    let width = both.3.3.2 in
    let members = both.3.3.3.3.2 in
    made q (known_enum.like q both) (declarations.Enum n.0 width.0 members.0) (n.1, width.1, members.1.0, members.1.1) refl

abbrev known_struct : Known StructWord
known_struct = struct_words some_name (some_commas some_field)

pub some_struct : Has StructWord
some_struct = known_struct.some

pub struct_within : DeclaredAs StructWord
struct_within q both =
    let n = both.2.3 in
    let fields = both.3.3.2 in
    made q (known_struct.like q both) (declarations.Struct n.0 fields.0) (n.1, fields.1.0, fields.1.1) refl

abbrev known_register : Known RegisterWord
known_register = register_words some_name some_type some_constant

pub some_register : Has RegisterWord
some_register = known_register.some

pub register_within : DeclaredAs RegisterWord
register_within q both =
    let n = both.2.3 in
    let of = both.3.3.2 in
    let first = both.3.3.3.3.2 in
    made q (known_register.like q both) (declarations.Register n.0 of.0 first.0) (n.1, of.1, first.1) (register_leaves n.0 of.0 first.0)

abbrev known_input : Known InputWord
known_input = input_words some_name some_type

pub some_input : Has InputWord
some_input = known_input.some

pub input_within : DeclaredAs InputWord
input_within q both =
    let n = both.2.3 in
    let of = both.3.3.2 in
    made q (known_input.like q both) (declarations.Input n.0 of.0) (n.1, of.1) refl

abbrev known_table : Known TableWord
known_table = table_words some_name some_width some_width (some_commas some_literal)

pub some_table : Has TableWord
some_table = known_table.some

pub table_within : DeclaredAs TableWord
table_within q both =
    let n = both.2.3 in
    let input = both.3.3.2 in
    let output = both.3.3.3.3.2 in
    let entries = both.3.3.3.3.3.3.2 in
    made q (known_table.like q both) (declarations.Table n.0 input.0 output.0 entries.0) (n.1, input.1, output.1, entries.1.0, entries.1.1) refl

abbrev known_host : Known HostWord
known_host = host_words some_name some_width some_width

pub some_host : Has HostWord
some_host = known_host.some

pub host_within : DeclaredAs HostWord
host_within q both =
    let n = both.2.3 in
    let input = both.3.3.2 in
    let output = both.3.3.3.3.2 in
    made q (known_host.like q both) (declarations.Host n.0 input.0 output.0) (n.1, input.1, output.1) refl

abbrev known_function : Known FunctionWord
known_function = function_words some_name no_parameters some_result some_block

pub some_function : Has FunctionWord
some_function = known_function.some

pub function_within : DeclaredAs FunctionWord
function_within q both =
    let n = both.2.3 in
    let parameters = both.3.3.2 in
    let result = both.3.3.3.3.3.2 in
    let body = both.3.3.3.3.3.3 in
    made q (known_function.like q both) (declarations.Function n.0 parameters.0 result.0 body.0)
    (n.1, parameters.1, result.1, body.1) (function_leaves n.0 parameters.0 result.0 body.0)

abbrev known_rule : Known RuleWord
known_rule = rule_words some_name some_block

pub some_rule : Has RuleWord
some_rule = known_rule.some

pub rule_within : DeclaredAs RuleWord
rule_within q both = made q (known_rule.like q both) (declarations.Rule both.2.3.0 both.3.0) (both.2.3.1, both.3.1) refl

abbrev known_assert : Known AssertWord
known_assert = assert_words some_name

pub some_assert : Has AssertWord
some_assert = known_assert.some

pub assert_within : DeclaredAs AssertWord
assert_within q both = made q (known_assert.like q both) (declarations.Assert both.2.3.0) both.2.3.1 refl

-- behind the parameters of a function stands a closing parenthesis
pub before_parenthesis : {Q : List Leaf → Type 0} → Apart (Then (One (symbol symbols.RightParenthesis)) Q) Any parenthesis_follows
before_parenthesis {Q} = before_one_then Q Any parenthesis_follows (symbol symbols.RightParenthesis) refl

pub function_start : {source : Source} {cursor : Cursor} {Follow : Option Terminal → Type 0} → Goes source cursor cursor FunctionWord Follow FunctionWord
function_start = begin FunctionWord some_function

-- a declaration by the next token
pub declaration_at : {source : Source} {cursor : Cursor} {Follow : Option Terminal → Type 0} (k : Keyword) →
    Has (DeclarationWord k) → DeclaredAs (DeclarationWord k) →
    next source cursor ≡ Some (keyword k) → Goes source cursor cursor ADeclaration Follow (DeclarationWord k)
declaration_at k some within at = narrow_part (DeclarationWord k) (λ x is v same.
    let head = declaration_word x is in
    subst (λ j. DeclarationWord j (declaration_leaves x)) (same_keyword (sym (head.2 v) ∙ same ∙ at)) head.1) some within

pub declaration_none : {Y : Type 0} {source : Source} {cursor : Cursor} {Follow : Option Terminal → Type 0} →
    ((k : Keyword) → next source cursor ≡ Some (keyword k) → ⊥) → Takes {X = Y} source cursor cursor ADeclaration Follow (Err (failures.Why unread.Unexpected))
declaration_none other = refused (begin ADeclaration some_declaration) (λ r v word behind same.
    let head = declaration_word word.0 word.1 in
    other head.0 (sym same ∙ ap (λ l. first (l ++ v)) word.2 ∙ head.2 v))

-- no declaration begins with a keyword that is none of those
pub other_declaration : (k : Keyword) →
    (k ≡ keywords.Enum → ⊥) → (k ≡ keywords.Struct → ⊥) → (k ≡ keywords.Reg → ⊥) → (k ≡ keywords.Input → ⊥) → (k ≡ keywords.Table → ⊥) →
    (k ≡ keywords.Host → ⊥) → (k ≡ keywords.Fun → ⊥) → (k ≡ keywords.Rule → ⊥) → (k ≡ keywords.Assert → ⊥) → (u : List Leaf) → DeclarationWord k u → ⊥
other_declaration keywords.Enum n0 n1 n2 n3 n4 n5 n6 n7 n8 u word = n0 refl
other_declaration keywords.Struct n0 n1 n2 n3 n4 n5 n6 n7 n8 u word = n1 refl
other_declaration keywords.Reg n0 n1 n2 n3 n4 n5 n6 n7 n8 u word = n2 refl
other_declaration keywords.Input n0 n1 n2 n3 n4 n5 n6 n7 n8 u word = n3 refl
other_declaration keywords.Table n0 n1 n2 n3 n4 n5 n6 n7 n8 u word = n4 refl
other_declaration keywords.Host n0 n1 n2 n3 n4 n5 n6 n7 n8 u word = n5 refl
other_declaration keywords.Fun n0 n1 n2 n3 n4 n5 n6 n7 n8 u word = n6 refl
other_declaration keywords.Rule n0 n1 n2 n3 n4 n5 n6 n7 n8 u word = n7 refl
other_declaration keywords.Assert n0 n1 n2 n3 n4 n5 n6 n7 n8 u word = n8 refl
other_declaration _ n0 n1 n2 n3 n4 n5 n6 n7 n8 u word = word

pub declaration_refused : {Y : Type 0} {source : Source} {cursor : Cursor} {Follow : Option Terminal → Type 0} (k : Keyword) →
    ((u : List Leaf) → DeclarationWord k u → ⊥) → next source cursor ≡ Some (keyword k) →
    Takes {X = Y} source cursor cursor ADeclaration Follow (Err (failures.Why unread.Unexpected))
declaration_refused k none at = refused (begin ADeclaration some_declaration) (λ r v word behind same.
    let head = declaration_word word.0 word.1 in
    let same_word = same_keyword (sym (head.2 v) ∙ ap (λ l. first (l ++ v)) (sym word.2) ∙ same ∙ at) in
    none (declaration_leaves word.0) (subst (λ j. DeclarationWord j (declaration_leaves word.0)) same_word head.1))

-- a declaration more, or none
declarations_first : (r v : List Leaf) → Then ADeclaration DeclarationsWord r → first (r ++ v) ≡ Some (keyword keywords.Schedule) → ⊥
declarations_first r v both same =
    let head = declaration_word both.2.0 both.2.1 in
    let at : first (declaration_leaves both.2.0 ++ (both.1 ++ v)) ≡ Some (keyword keywords.Schedule) =
    ap (λ l. first (l ++ (both.1 ++ v))) (sym both.2.2) ∙ ap first (sym (append_assoc both.0 both.1 v)) ∙ ap (λ l. first (l ++ v)) (sym both.4) ∙ same in
    subst (λ j. DeclarationWord j (declaration_leaves both.2.0)) (same_keyword (sym (head.2 (both.1 ++ v)) ∙ at)) head.1

no_declarations : Has DeclarationsWord
no_declarations = ([], rows_none IsDeclaration declaration_leaves)

pub declarations_start : {source : Source} {cursor : Cursor} {Follow : Option Terminal → Type 0} → Goes source cursor cursor DeclarationsWord Follow DeclarationsWord
declarations_start = begin DeclarationsWord no_declarations

pub declarations_at : {source : Source} {old new : Cursor} {Word : List Leaf → Type 0} →
    (next source new ≡ Some (keyword keywords.Schedule) → ⊥) → Goes source old new Word schedule_follows DeclarationsWord →
    Goes source old new Word schedule_follows (Then ADeclaration DeclarationsWord)
declarations_at other goes = the_second (rows_split IsDeclaration declaration_leaves goes)
    (λ r v empty behind same. other (sym same ∙ ap (λ l. first (l ++ v)) empty ∙ behind))
    (some_then some_declaration no_declarations)

pub declarations_end : {source : Source} {old new : Cursor} {Word : List Leaf → Type 0} {Follow : Option Terminal → Type 0} →
    next source new ≡ Some (keyword keywords.Schedule) → Goes source old new Word Follow DeclarationsWord → Goes source old new Word Follow Empty
declarations_end at goes = the_first (rows_split IsDeclaration declaration_leaves goes)
    (λ r v both behind same. declarations_first r v both (same ∙ at)) ([], refl)

-- a design is declarations and a schedule
abbrev pub TreeWord : List Leaf → Type 0
TreeWord = Then DeclarationsWord (Then (One (keyword keywords.Schedule)) BracedScheduler)

tree_leaves_are : (t : Tree) →
    tree_leaves t ≡ flat_map declaration_leaves t.declarations ++ (placed (keyword keywords.Schedule) t.schedule ++ in_braces (scheduler_leaves t.scheduler))
tree_leaves_are t = assoc2 (flat_map declaration_leaves t.declarations) (placed (keyword keywords.Schedule) t.schedule) (in_braces (scheduler_leaves t.scheduler))

tree_word : (t : Tree) → IsDesign t → TreeWord (tree_leaves t)
tree_word t is =
    let words : Known TreeWord = part (this t.declarations is.declarations) then one_at (keyword keywords.Schedule) t.schedule then part (this t.scheduler is.scheduler) in
    subst TreeWord (sym (tree_leaves_are t)) words.some.1

tree_within : Within TreeWord (Part IsDesign tree_leaves)
tree_within q both =
    let declared = both.2 in
    let scheduler = both.3.3 in
    let tree = λ (place : ℕ). let t : Tree = record { declarations = declared.0; schedule = place; scheduler = scheduler.0 } in t in
    made_at q (λ place. then_place both (like_part declared) (place_then place both.3 (like_part scheduler))) tree
    (λ place. record { declarations = declared.1; scheduler = scheduler.1 }) (λ place. tree_leaves_are (tree place))

some_tree : Has TreeWord
some_tree = some_then no_declarations (some_then (some_one (keyword keywords.Schedule)) some_scheduler)

pub some_design : Has DesignWord
some_design = has_within tree_within some_tree

pub tree_start : {source : Source} {cursor : Cursor} {Follow : Option Terminal → Type 0} → Goes source cursor cursor DesignWord Follow TreeWord
tree_start = starts TreeWord tree_word some_tree tree_within

-- a result by the next token
name_or_unit : {bytes : List ℕ} → Some (name bytes) ≡ Some (keyword keywords.Unit) → ⊥
name_or_unit e = cc e

bits_or_unit : Some (keyword keywords.Bits) ≡ Some (keyword keywords.Unit) → ⊥
bits_or_unit e = cc e

bracket_or_unit : Some (symbol symbols.LeftBracket) ≡ Some (keyword keywords.Unit) → ⊥
bracket_or_unit e = cc e

type_or_unit : (of : TypeExpression) → IsType of → (v : List Leaf) → first (type_leaves of ++ v) ≡ Some (keyword keywords.Unit) → ⊥
type_or_unit of is v at = type_case (λ u. ⊥) each of is at
  where
    each : EachType (λ u. ⊥) v (Some (keyword keywords.Unit))
    each (type_expression.Bits width) is at = bits_or_unit at
    each (type_expression.Named n) is at = name_or_unit at
    each (type_expression.Array place element size) is at = bracket_or_unit at

pub result_unit : {source : Source} {cursor : Cursor} {Follow : Option Terminal → Type 0} → next source cursor ≡ Some (keyword keywords.Unit) →
    Goes source cursor cursor ResultWord Follow (One (keyword keywords.Unit))
result_unit {source} {cursor} unit =
    narrow_part (One (keyword keywords.Unit)) (λ x is v at. of x is v (at ∙ unit)) (some_one (keyword keywords.Unit)) (λ q one. made q (like_one one) None tt refl)
  where
    of : (x : Option TypeExpression) → IfSome x IsType → (v : List Leaf) → first (result_leaves x ++ v) ≡ Some (keyword keywords.Unit) → One (keyword keywords.Unit) (result_leaves x)
    of None is v at = word_word keywords.Unit
    of (Some type) is v at = absurd (type_or_unit type is v at)

pub result_type : {source : Source} {cursor : Cursor} {Follow : Option Terminal → Type 0} → (next source cursor ≡ Some (keyword keywords.Unit) → ⊥) →
    Goes source cursor cursor ResultWord Follow (Part IsType type_leaves)
result_type {source} {cursor} other =
    narrow_part (Part IsType type_leaves) (λ x is v at. of x is v at) some_type (λ q part. made q (like_part part) (Some part.0) part.1 refl)
  where
    of : (x : Option TypeExpression) → IfSome x IsType → (v : List Leaf) → first (result_leaves x ++ v) ≡ next source cursor → Part IsType type_leaves (result_leaves x)
    of None is v at = absurd (other (sym at))
    of (Some type) is v at = (type, is, refl)

-- no parameter, or at least one
abbrev Fields : List Leaf → Type 0
Fields = Commas IsField field_leaves

parameters_cases : (r : List Leaf) → ParametersWord r → Empty r ⊎ Fields r
parameters_cases r word = subst (λ r. Empty r ⊎ Fields r) (sym word.2) (of word.0 word.1)
  where
    of : (xs : List Field) → All IsField xs → Empty (commas (map field_leaves xs)) ⊎ Fields (commas (map field_leaves xs))
    of [] all = inl no_commas
    of (x ∷ xs) all = inr (x ∷ xs, (omega arith, all), refl)

parameters_within : Within (λ u. Empty u ⊎ Fields u) ParametersWord
parameters_within q (inl empty) = kept q (commas (map field_leaves [])) ([], All-nil IsField, refl) (same_of (no_commas ∙ sym empty))
parameters_within q (inr word) = kept q q (word.0, word.1.1, word.2) (same_of refl)

parameters_start : {source : Source} {cursor : Cursor} {Follow : Option Terminal → Type 0} → Goes source cursor cursor ParametersWord Follow (λ u. Empty u ⊎ Fields u)
parameters_start = start parameters_cases ([], inl refl) parameters_within

fields_first : (xs : List Field) (v : List Leaf) → 0 < length xs → (bytes : List ℕ) × (first (commas (map field_leaves xs) ++ v) ≡ Some (name bytes))
unfolding with_between
fields_first [] v some = absurd (omega (arith, some))
fields_first (x ∷ xs) v some = (x.name.text, refl)

pub parameters_at : {source : Source} {cursor : Cursor} → kind_at source cursor ≡ Some kinds.Name → Goes source cursor cursor ParametersWord parenthesis_follows Fields
parameters_at {source} {cursor} named = the_second parameters_start
    (λ r v empty behind same. sign_or_name (sym (kind_is source cursor (sym (ap (λ l. first (l ++ v)) empty ∙ behind) ∙ same)) ∙ named))
    (some_commas some_field)

pub parameters_end : {source : Source} {cursor : Cursor} {Follow : Option Terminal → Type 0} → (kind_at source cursor ≡ Some kinds.Name → ⊥) →
    Goes source cursor cursor ParametersWord Follow Empty
parameters_end {source} {cursor} other = the_first parameters_start (λ r v word behind same.
    let head = fields_first word.0 v word.1.0 in
    other (kind_is source cursor (sym head.1 ∙ ap (λ l. first (l ++ v)) (sym word.2) ∙ same))) ([], refl)

-- nothing is left behind the last part
pub then_nothing : {source : Source} {old new : Cursor} {Word : List Leaf → Type 0} {Follow : Option Terminal → Type 0} {P : List Leaf → Type 0} →
    Goes source old new Word Follow P → Goes source old new Word Follow (Then P Empty)
then_nothing {P = P} goes =
    goes_as goes (λ r word. (r, [], word, refl, sym (append-nil r))) (some_then goes.some ([], refl))
    (λ q both. kept q both.0 both.2 (same_of (sym (both.4 ∙ ap (λ t. both.0 ++ t) both.3 ∙ append-nil both.0))))

no_next : (source : Source) (cursor : Cursor) → cursor.at < length source.tokens.now → next source cursor ≡ None → ⊥
no_next source cursor within none =
    never_none (sym none ∙ ap (option_map (terminal_of source.text.now)) (slice_get-get_or source.tokens.now cursor.at (record { kind = kinds.Name; start = 0; end = 0 }) within))

-- nothing stands behind a design
pub tree_ended : {Y : Type 0} {source : Source} {old new : Cursor} {Word : List Leaf → Type 0} → new.at < length source.tokens.now →
    Goes source old new Word end_follows Empty → Takes {X = Y} source old new Word end_follows (Err (failures.Why unread.Unexpected))
tree_ended {Y} {source} {old} {new} within goes =
    refused goes (λ r v empty behind same. no_next source new within (sym same ∙ ap (λ l. first (l ++ v)) empty ∙ behind))
