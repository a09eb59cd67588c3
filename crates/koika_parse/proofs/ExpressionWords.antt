-- The words of expressions: what each part of an expression is, as the words of its own parts.
use Rattle.std.proofs.Common.{◌≡◌, ℕ, zero, suc, ◌+◌, ◌<◌, ◌≤◌, Option, None, Some, IfSome, List, [], ◌∷◌, ◌++◌, length}
use Rattle.std.proofs.Common.{map, append_assoc, append-nil, inl, inr, refl, ap, sym, subst, ◌∙◌, arith, Vec, Box}
use Rattle.std.proofs.Common.{Global, eq-or-lt_of_le}
use Rattle.std.specs.Prelude.{◌⊎◌}
use Rattle.std.specs.List.{All}
use Rattle.std.proofs.lemmas.List.Elements.{All-cons, All-nil, All-head, All-tail}
use Rattle.koika_syntax.specs.Grammar.{IsSuffix, LiteralFits, IsName, IsNonempty, IsBlock, IsOperandAt}
use Rattle.koika_syntax.specs.Grammar.{IsExpressionLayer, IsStatementLayer, level, level_of, level_of_chain as chain_level}
use Rattle.koika_syntax.specs.Grammar.{level_of_layer as layer_level, call_leaves, last_leaves, block_leaves}
use Rattle.koika_syntax.specs.inner.Grammar.{IsExpression, expression_leaves, statement_leaves, arm_leaves, field_value_leaves, operand_leaves}
use Rattle.koika_syntax.specs.Tree.{Leaf, keyword, symbol, word, sign, placed, name_leaves, literal_leaves, commas}
use Rattle.koika_syntax.specs.Tree.{with_between, all_of, each_after, binary_symbol, comparison_word, extension_word}
use Rattle.koika_syntax.specs.Tree.{read_word, write_word}
use Rattle.koika_syntax.specs.declared.keyword.Keyword.{Keyword}
use Rattle.koika_syntax.specs.declared.keyword.Keyword.TheVariants as keywords
use Rattle.koika_syntax.specs.declared.symbol.Symbol.TheVariants as symbols
use Rattle.koika_syntax.specs.declared.token.TokenKind.{TokenKind}
use Rattle.koika_syntax.specs.declared.token.TokenKind.TheVariants as kinds
use Rattle.koika_syntax.specs.declared.operator.BinaryOperator.{BinaryOperator}
use Rattle.koika_syntax.specs.declared.operator.BinaryOperator.TheVariants as binary
use Rattle.koika_syntax.specs.declared.operator.Extension.{Extension}
use Rattle.koika_syntax.specs.declared.operator.Extension.TheVariants as extensions
use Rattle.koika_syntax.specs.declared.operator.SignedComparison.{SignedComparison}
use Rattle.koika_syntax.specs.declared.operator.SignedComparison.TheVariants as comparisons
use Rattle.koika_syntax.specs.declared.tree.Expression.TheOpen as expression
use Rattle.koika_parse.specs.inner.Expected.{One, Part, Then}
use Rattle.koika_parse.specs.inner.ExpressionWords.{LevelWord, OperatorWord, SomeOperandsWord, PrefixesWord}
use Rattle.koika_parse.specs.inner.ExpressionWords.{SuffixesWord, ReadWord, WriteWord, ExtendWord, CompareWord}
use Rattle.koika_parse.specs.inner.ExpressionWords.{NamedWord, KeywordWord, SymbolWord, LetWord, ArrayWord}
use Rattle.koika_parse.specs.inner.ExpressionWords.{CallTailWord, ColonsWord, ParenthesesWord, StructTailWord}
use Rattle.koika_parse.specs.inner.ExpressionWords.{ConditionalWord, InsideWord}
use Rattle.koika_parse.specs.inner.Parts.{IsArm, IsFieldValue, IsOperand, IsOperandIn, IsStatement}
use Rattle.koika_parse.proofs.Expected.{Language, Has, ◌⨾◌, a_part, a_placed, a_sign, a_word, word_as, kind_of}
use Rattle.koika_parse.proofs.ConstantWords.{firsts_are}
use Rattle.koika_parse.proofs.Layers.{Such, of_layers, of_leaves, expression_kind, expression_grown, expression_layer, expression_leaves_by}
use Rattle.koika_parse.proofs.Layers.{statement_kind, statement_grown, statement_layer, statement_leaves_by, arm_kind, arm_grown, arm_leaves_by}
use Rattle.koika_parse.proofs.Layers.{block_kind, block_grown, block_layer, block_leaves_by, field_value_kind, field_value_grown, field_value_leaves_by}
use Rattle.koika_parse.proofs.Layers.{operand_kind, operand_grown, operand_layer, operand_leaves_by}
use Rattle.koika_parse.proofs.Calls.{all_of_map}
use Rattle.koika_parse.proofs.Words.{sign_word}
use Rattle.koika_syntax.specs.declared.tree.Expression.{Expression, out-Expression}
use Rattle.koika_syntax.specs.declared.tree.Statement.{Statement}
use Rattle.koika_syntax.specs.declared.tree.Arm.{Arm}
use Rattle.koika_syntax.specs.declared.tree.Block.{Block}
use Rattle.koika_syntax.specs.declared.tree.FieldValue.{FieldValue}
use Rattle.koika_syntax.specs.declared.tree.Operand.{Operand, out-Operand}

-- a primary by the kind of its first token
abbrev pub PrimaryWord : TokenKind → Language
PrimaryWord (kinds.Literal bits) = Part LiteralFits literal_leaves
PrimaryWord kinds.Name = NamedWord
PrimaryWord (kinds.Symbol s) = SymbolWord s
PrimaryWord (kinds.Keyword k) = KeywordWord k
PrimaryWord (kinds.Number n) = λ u. ⊥

-- a word by its first token
abbrev pub Headed : (TokenKind → Language) → Language
Headed P u = (leaf : Leaf) × (rest : List Leaf) × (u ≡ leaf ∷ rest) × P (kind_of leaf.terminal) u

abbrev pub OneExpression : Language
OneExpression = Part IsExpression expression_leaves

-- the parts of a list, without the proofs that they are the grammar's
abbrev firsts : {X : Type 0} {Is : X → Type 0} → List (Such Is) → List X
firsts held = map (λ e. e.0) held

-- no operator holds as tightly as a unary run
low_operator : (operator : BinaryOperator) → level_of operator ≤ 9
low_operator binary.Or = omega arith
low_operator _ = omega arith

low_chain : (rest : List Operand) → chain_level rest ≤ 9
low_chain [] = omega arith
low_chain (o ∷ rest) = low_operator (out-Operand o).operator

abbrev pub ArmWord : Language
ArmWord = Then (One (keyword keywords.If)) (Then (LevelWord 1) (Part IsBlock block_leaves))

abbrev pub FieldValueWord : Language
FieldValueWord = Then (Part IsName name_leaves) (Then (One (symbol symbols.Colon)) OneExpression)

abbrev pub DoWord : Language
DoWord = Then OneExpression (One (symbol symbols.Semicolon))

abbrev pub BlockWord : Language
BlockWord = Then (One (symbol symbols.LeftBrace)) (Then InsideWord (One (symbol symbols.RightBrace)))

-- a part of a layer is a word of its language
abbrev part_of : {X : Type 0} {Is : X → Type 0} {leaves : X → List Leaf} → Such Is → Has (Part Is leaves)
part_of held = a_part held.0 held.1

pub arm_word : (t : Arm) → IsArm t → ArmWord (arm_leaves t)
arm_word = of_leaves arm_kind arm_grown arm_leaves_by ArmWord
    (λ y is. word_as ArmWord (a_placed (keyword keywords.If) y.place ⨾ a_part y.condition.0 (y.condition.1, omega (arith, is)) ⨾ part_of y.body) refl)

pub field_value_word : (t : FieldValue) → IsFieldValue t → FieldValueWord (field_value_leaves t)
field_value_word = of_leaves field_value_kind field_value_grown field_value_leaves_by FieldValueWord
    (λ y is. word_as FieldValueWord (a_part y.name is ⨾ a_sign symbols.Colon ⨾ part_of y.value) refl)

-- a statement is a binding or an expression
abbrev pub StatementWord : Language
StatementWord u = LetWord u ⊎ DoWord u

statement_layer_word : (y : statement_kind.Open) → IsStatementLayer (statement_kind.closed y) → StatementWord (statement_layer (statement_kind.closed y))
statement_layer_word (expression.Let n value) is =
    inl (word_as LetWord (a_word keywords.Let ⨾ a_part n is ⨾ a_sign symbols.Equals ⨾ part_of value ⨾ a_sign symbols.Semicolon) refl)
statement_layer_word (expression.Do value) is = inr (word_as DoWord (part_of value ⨾ a_sign symbols.Semicolon) refl)

pub statement_word : (t : Statement) → IsStatement t → StatementWord (statement_leaves t)
statement_word = of_leaves statement_kind statement_grown statement_leaves_by StatementWord statement_layer_word

block_layer_word : (y : block_kind.Open) → BlockWord (block_layer (block_kind.closed y))
block_layer_word y = of_value y.place y.statements y.value
  where
    inside : (statements : List (Such IsStatement)) (value : Option Expression) → IfSome value IsExpression → Has InsideWord
    inside statements value is =
        let leaves = sym (all_of_map statement_leaves (firsts statements)) in
        (_, (firsts statements, value, firsts_are IsStatement statements, is, ap (λ t. t ++ last_leaves value expression_leaves) leaves))

    of_value : (place : ℕ) (statements : List (Such IsStatement)) (value : Option (Such IsExpression)) →
        BlockWord (block_layer (block_kind.closed (record { place = place; statements = statements; value = value })))
    of_value place statements None =
        word_as BlockWord (a_placed (symbol symbols.LeftBrace) place ⨾ inside statements None tt ⨾ a_sign symbols.RightBrace) refl
    of_value place statements (Some value) =
        word_as BlockWord (a_placed (symbol symbols.LeftBrace) place ⨾ inside statements (Some value.0) value.1 ⨾ a_sign symbols.RightBrace) refl

pub block_word : (t : Block) → IsBlock t → BlockWord (block_leaves t)
block_word = of_leaves block_kind block_grown block_leaves_by BlockWord (λ y is. block_layer_word y)

-- parts with commas between them, up to the parenthesis behind the last
abbrev up_to_close : List Leaf → List (List Leaf) → List Leaf
up_to_close part [] = part ++ sign symbols.RightParenthesis
up_to_close part (next ∷ parts) = part ++ (sign symbols.Comma ++ up_to_close next parts)

close_last : (part : List Leaf) (parts : List (List Leaf)) → commas (part ∷ parts) ++ sign symbols.RightParenthesis ≡ up_to_close part parts
unfolding with_between
close_last part [] = ap (λ t. t ++ sign symbols.RightParenthesis) (append-nil part)
close_last part (next ∷ parts) =
    append_assoc part (each_after (sign symbols.Comma) (next ∷ parts)) (sign symbols.RightParenthesis)
    ∙ ap (λ t. part ++ (sign symbols.Comma ++ t)) (close_last next parts)

-- what stands behind the name of a struct or an enum
abbrev MemberTailWord : Language
MemberTailWord = Then (One (symbol symbols.ColonColon)) ColonsWord

-- a primary by its first token
headed : (leaf : Leaf) (rest : List Leaf) → PrimaryWord (kind_of leaf.terminal) (leaf ∷ rest) → Headed PrimaryWord (leaf ∷ rest)
headed leaf rest word = (leaf, rest, refl, word)

-- a call that a keyword begins, by the words of its arguments
call_headed : {Arguments : Language} (k : Keyword) (place : ℕ) (part : List Leaf) (parts : List (List Leaf)) →
    ((u : List Leaf) → Then (One (keyword k)) (Then (One (symbol symbols.LeftParenthesis)) Arguments) u → KeywordWord k u) →
    (arguments : Has Arguments) → arguments.0 ≡ up_to_close part parts → Headed PrimaryWord (call_leaves (placed (keyword k) place) (part ∷ parts))
call_headed {Arguments} k place part parts into arguments same =
    let rest : Has Arguments = (_, subst Arguments (same ∙ sym (close_last part parts)) arguments.1) in
    let word : Has (Then (One (keyword k)) (Then (One (symbol symbols.LeftParenthesis)) Arguments)) =
    a_placed (keyword k) place ⨾ a_sign symbols.LeftParenthesis ⨾ rest in
    headed _ _ (into word.0 word.1)

read_keyword : (port : ℕ) → port < 4 → (u : List Leaf) → ReadWord port u → KeywordWord (read_word port) u
read_keyword zero low u word = word
read_keyword (suc zero) low u word = word
read_keyword (suc (suc zero)) low u word = word
read_keyword (suc (suc (suc zero))) low u word = word
read_keyword (suc (suc (suc (suc port)))) low u word = absurd (omega (arith, low))

write_keyword : (port : ℕ) → port < 4 → (u : List Leaf) → WriteWord port u → KeywordWord (write_word port) u
write_keyword zero low u word = word
write_keyword (suc zero) low u word = word
write_keyword (suc (suc zero)) low u word = word
write_keyword (suc (suc (suc zero))) low u word = word
write_keyword (suc (suc (suc (suc port)))) low u word = absurd (omega (arith, low))

extension_keyword : (extension : Extension) (u : List Leaf) → ExtendWord extension u → KeywordWord (extension_word extension) u
extension_keyword extensions.Zero u word = word
extension_keyword extensions.Sign u word = word

comparison_keyword : (comparison : SignedComparison) (u : List Leaf) → CompareWord comparison u → KeywordWord (comparison_word comparison) u
comparison_keyword comparisons.Less u word = word
comparison_keyword comparisons.LessOrEqual u word = word
comparison_keyword comparisons.Greater u word = word
comparison_keyword comparisons.GreaterOrEqual u word = word

block_headed : (t : Block) → IsBlock t → Headed PrimaryWord (block_leaves t)
block_headed t is =
    let word = block_word t is in
    (word.2.0, word.1, word.4 ∙ ap (λ l. l ++ word.1) word.2.2, subst (λ s. PrimaryWord (kind_of s) (block_leaves t)) (sym word.2.1) (t, is, refl))

-- a layer of an expression whose parts are the grammar's
abbrev OpenExpression : Type 0
OpenExpression = expression_kind.Open

abbrev closed_expression : OpenExpression → expression_kind.Layer
closed_expression y = expression_kind.closed y

-- a layer of an expression of this level or a tighter one
abbrev IsOf : ℕ → expression_kind.Layer → Type 0
IsOf k d = IsExpressionLayer d × (k ≤ layer_level d)

primary_layer_word : (y : OpenExpression) → IsOf 12 (closed_expression y) → Headed PrimaryWord (expression_layer (closed_expression y))
primary_layer_word (expression.If arms otherwise) is = absurd (omega (arith, is.1))
primary_layer_word (expression.Chain first rest) is = absurd (omega (arith, is.1, low_chain (firsts rest)))
primary_layer_word (expression.Unary prefixes operand) is = absurd (omega (arith, is.1))
primary_layer_word (expression.Postfix primary suffixes) is = absurd (omega (arith, is.1))
primary_layer_word (expression.Literal l) is = headed _ [] (l, is.0, refl)
primary_layer_word (expression.Name n) is = headed _ [] (word_as NamedWord (a_part n is.0 ⨾ (_, inl refl)) refl)
primary_layer_word (expression.Call called arguments) is =
    let tail : Has CallTailWord = a_sign symbols.LeftParenthesis ⨾ a_part _ (firsts_are IsExpression arguments) ⨾ a_sign symbols.RightParenthesis in
    headed _ _ (word_as NamedWord (a_part called is.0 ⨾ (tail.0, inr (inl tail.1))) refl)
primary_layer_word (expression.Member of member) is =
    let tail : Has MemberTailWord = a_sign symbols.ColonColon ⨾ (name_leaves member, inl (member, is.0.1, refl)) in
    headed _ _ (word_as NamedWord (a_part of is.0.0 ⨾ (tail.0, inr (inr tail.1))) refl)
primary_layer_word (expression.Struct of fields close) is =
    let are : IsNonempty (firsts fields) × All IsFieldValue (firsts fields) = (is.0.1, firsts_are IsFieldValue fields) in
    let inside : Has StructTailWord = a_sign symbols.LeftBrace ⨾ a_part _ are ⨾ a_placed (symbol symbols.RightBrace) close in
    let tail : Has MemberTailWord = a_sign symbols.ColonColon ⨾ (inside.0, inr inside.1) in
    headed _ _ (word_as NamedWord (a_part of is.0.0 ⨾ (tail.0, inr (inr tail.1))) refl)
primary_layer_word (expression.Array place elements) is =
    headed _ _ (word_as ArrayWord (a_placed (symbol symbols.LeftBracket) place ⨾ a_part (firsts elements) (is.0, firsts_are IsExpression elements) ⨾ a_sign symbols.RightBracket) refl)
primary_layer_word (expression.Parentheses place inside) is =
    headed _ _ (word_as ParenthesesWord (a_placed (symbol symbols.LeftParenthesis) place ⨾ part_of inside ⨾ a_sign symbols.RightParenthesis) refl)
primary_layer_word (expression.Block block) is = block_headed block.0 block.1
primary_layer_word (expression.Read place port register) is =
    call_headed (read_word port) place _ [] (read_keyword port is.0.0) (a_part register is.0.1 ⨾ a_sign symbols.RightParenthesis) refl
primary_layer_word (expression.Write place port register value) is =
    call_headed (write_word port) place _ (_ ∷ []) (write_keyword port is.0.0)
    (a_part register is.0.1 ⨾ a_sign symbols.Comma ⨾ part_of value ⨾ a_sign symbols.RightParenthesis) refl
primary_layer_word (expression.Abort place) is = headed _ [] (a_placed (keyword keywords.Abort) place).1
primary_layer_word (expression.Pack place value) is =
    call_headed keywords.Pack place _ [] (λ u word. word) (part_of value ⨾ a_sign symbols.RightParenthesis) refl
primary_layer_word (expression.Unpack place to value) is =
    call_headed keywords.Unpack place _ (_ ∷ []) (λ u word. word)
    (a_part to is.0 ⨾ a_sign symbols.Comma ⨾ part_of value ⨾ a_sign symbols.RightParenthesis) refl
primary_layer_word (expression.Extend place extension value width) is =
    call_headed (extension_word extension) place _ (_ ∷ []) (extension_keyword extension)
    (part_of value ⨾ a_sign symbols.Comma ⨾ a_part width is.0 ⨾ a_sign symbols.RightParenthesis) refl
primary_layer_word (expression.Compare place comparison left right) is =
    call_headed (comparison_word comparison) place _ (_ ∷ []) (comparison_keyword comparison)
    (part_of left ⨾ a_sign symbols.Comma ⨾ part_of right ⨾ a_sign symbols.RightParenthesis) refl
primary_layer_word (expression.Update place whole part value) is =
    call_headed keywords.Update place _ (_ ∷ _ ∷ []) (λ u word. word)
    (part_of whole ⨾ a_sign symbols.Comma ⨾ a_part part is.0 ⨾ a_sign symbols.Comma ⨾ part_of value ⨾ a_sign symbols.RightParenthesis) refl

pub primary_word : (t : Expression) → IsExpression t × (12 ≤ level t) → Headed PrimaryWord (expression_leaves t)
primary_word t is =
    subst (Headed PrimaryWord) (sym (expression_leaves_by t _ refl))
    (of_layers expression_kind expression_grown (λ d. 12 ≤ layer_level d → Headed PrimaryWord (expression_layer d))
    (λ y here high. primary_layer_word y (here, high)) t is.0 is.1)

-- an expression of a level is one of a tighter level, or what that level makes of tighter ones
abbrev SplitsTo : ℕ → Language → expression_kind.Layer → Type 0
SplitsTo k P d = (k + 1 ≤ layer_level d) ⊎ P (expression_layer d)

layered : (k : ℕ) (P : Language) → ((y : OpenExpression) → IsOf k (closed_expression y) → SplitsTo k P (closed_expression y)) → (u : List Leaf) →
    LevelWord k u → LevelWord (k + 1) u ⊎ P u
layered k P each u word =
    of (of_layers expression_kind expression_grown (λ d. k ≤ layer_level d → SplitsTo k P d) (λ y here high. each y (here, high)) word.0 word.1.0 word.1.1)
  where
    of : SplitsTo k P (out-Expression word.0) → LevelWord (k + 1) u ⊎ P u
    of (inl high) = inl (word.0, (word.1.0, high), word.2)
    of (inr low) = inr (subst P (sym (word.2 ∙ expression_leaves_by word.0 _ refl)) low)

operands_of : (k : ℕ) (rest : List Operand) → All IsOperand rest → IsNonempty rest → k ≡ chain_level rest →
    All (IsOperandAt (chain_level rest)) rest → SomeOperandsWord k (all_of (map operand_leaves rest))
operands_of k [] are some same all = absurd (omega (arith, some))
operands_of k (o ∷ os) are some same all =
    let fit : All (IsOperandIn k) (o ∷ os) = both (o ∷ os) are (subst (λ l. All (IsOperandAt l) (o ∷ os)) (sym same) all) in (
      operand_leaves o,
      all_of (map operand_leaves os),
      (o, All-head (IsOperandIn k) o os fit, refl),
      (os, All-tail (IsOperandIn k) o os fit, sym (all_of_map operand_leaves os)),
      refl,
    )
  where
    both : (xs : List Operand) → All IsOperand xs → All (IsOperandAt k) xs → All (IsOperandIn k) xs
    both [] a b = All-nil (IsOperandIn k)
    both (x ∷ xs) a b =
        All-cons (IsOperandIn k) x xs (All-head IsOperand x xs a, All-head (IsOperandAt k) x xs b)
        (both xs (All-tail IsOperand x xs a) (All-tail (IsOperandAt k) x xs b))

-- a chain is an operand and those behind it, if any
pub chain_split : (k : ℕ) → 0 < k → k ≤ 9 → (u : List Leaf) → LevelWord k u → LevelWord (k + 1) u ⊎ Then (LevelWord (k + 1)) (SomeOperandsWord k) u
chain_split k low high u word = layered k (Then (LevelWord (k + 1)) (SomeOperandsWord k)) each u word
  where
    chained : (first : Such IsExpression) (rest : List Operand) → All IsOperand rest → IsNonempty rest →
        chain_level rest < level first.0 → All (IsOperandAt (chain_level rest)) rest → (k ≡ chain_level rest) ⊎ (k < chain_level rest) →
        (k + 1 ≤ chain_level rest) ⊎ Then (LevelWord (k + 1)) (SomeOperandsWord k) (expression_leaves first.0 ++ all_of (map operand_leaves rest))
    chained first rest are some loose all (inl same) =
        inr (_, _, (first.0, (first.1, omega (arith, loose, same)), refl), operands_of k rest are some same all, refl)
    chained first rest are some loose all (inr more) = inl (omega (arith, more))

    each : (y : OpenExpression) → IsOf k (closed_expression y) → SplitsTo k (Then (LevelWord (k + 1)) (SomeOperandsWord k)) (closed_expression y)
    each (expression.If arms otherwise) is = absurd (omega (arith, low, is.1))
    each (expression.Chain first rest) is =
        chained first (firsts rest) (firsts_are IsOperand rest) is.0.0 is.0.1 is.0.2 (eq-or-lt_of_le is.1)
    each _ is = inl (omega (arith, high))

-- a unary run is operators in front of an operand, if any, and the operand
pub unary_split : (u : List Leaf) → LevelWord 10 u → LevelWord 11 u ⊎ Then PrefixesWord (LevelWord 11) u
unary_split u word = layered 10 (Then PrefixesWord (LevelWord 11)) each u word
  where
    each : (y : OpenExpression) → IsOf 10 (closed_expression y) → SplitsTo 10 (Then PrefixesWord (LevelWord 11)) (closed_expression y)
    each (expression.If arms otherwise) is = absurd (omega (arith, is.1))
    each (expression.Chain first rest) is = absurd (omega (arith, is.1, low_chain (firsts rest)))
    each (expression.Unary [] operand) is = absurd (omega (arith, is.0.0))
    each (expression.Unary (prefix ∷ prefixes) operand) is =
        let front : Has PrefixesWord = a_part prefix tt ⨾ a_part prefixes (λ i d lt. tt) in
        inr (word_as (Then PrefixesWord (LevelWord 11)) (front ⨾ a_part operand.0 (operand.1, is.0.1)) refl)
    each _ is = inl (omega arith)

-- a postfix is a primary and suffixes, if any
pub postfix_split : (u : List Leaf) → LevelWord 11 u → LevelWord 12 u ⊎ Then (LevelWord 12) SuffixesWord u
postfix_split u word = layered 11 (Then (LevelWord 12) SuffixesWord) each u word
  where
    each : (y : OpenExpression) → IsOf 11 (closed_expression y) → SplitsTo 11 (Then (LevelWord 12) SuffixesWord) (closed_expression y)
    each (expression.If arms otherwise) is = absurd (omega (arith, is.1))
    each (expression.Chain first rest) is = absurd (omega (arith, is.1, low_chain (firsts rest)))
    each (expression.Unary prefixes operand) is = absurd (omega (arith, is.1))
    each (expression.Postfix primary []) is = absurd (omega (arith, is.0.1))
    each (expression.Postfix primary (suffix ∷ suffixes)) is =
        let behind : Has SuffixesWord = a_part suffix (All-head IsSuffix suffix suffixes is.0.2) ⨾ a_part suffixes (All-tail IsSuffix suffix suffixes is.0.2) in
        inr (word_as (Then (LevelWord 12) SuffixesWord) (a_part primary.0 (primary.1, is.0.0) ⨾ behind) refl)
    each _ is = inl (omega arith)

conditional : (arms : List Arm) → All IsArm arms → (otherwise : Option Block) → IfSome otherwise IsBlock → IsNonempty arms →
    ConditionalWord (with_between (word keywords.Else) (map arm_leaves arms) ++ last_leaves otherwise (λ block. word keywords.Else ++ block_leaves block))
unfolding with_between
conditional [] are otherwise last some = absurd (omega (arith, some))
conditional (arm ∷ arms) are otherwise last some =
    let more = each_after (word keywords.Else) (map arm_leaves arms) in
    let end = last_leaves otherwise (λ block. word keywords.Else ++ block_leaves block) in (
      arm_leaves arm,
      more ++ end,
      (arm, All-head IsArm arm arms are, refl),
      (arms, otherwise, All-tail IsArm arm arms are, last, refl),
      append_assoc (arm_leaves arm) more end,
    )

-- an expression is a chain or an `if`
pub expression_split : (u : List Leaf) → OneExpression u → LevelWord 1 u ⊎ ConditionalWord u
expression_split u word = layered 0 ConditionalWord each u (word.0, (word.1, omega arith), word.2)
  where
    chained : (rest : List Operand) → IsNonempty rest → 1 ≤ chain_level rest
    chained [] some = absurd (omega (arith, some))
    chained (o ∷ rest) some = of_operator (out-Operand o).operator
      where
        of_operator : (operator : BinaryOperator) → 1 ≤ level_of operator
        of_operator binary.Or = omega arith
        of_operator _ = omega arith

    each : (y : OpenExpression) → IsOf 0 (closed_expression y) → SplitsTo 0 ConditionalWord (closed_expression y)
    each (expression.If arms None) is = inr (conditional (firsts arms) (firsts_are IsArm arms) None tt is.0)
    each (expression.If arms (Some block)) is =
        inr (conditional (firsts arms) (firsts_are IsArm arms) (Some block.0) block.1 is.0)
    each (expression.Chain first rest) is = inl (chained (firsts rest) is.0.0)
    each _ is = inl (omega arith)

-- an operand is an operator and an expression that holds together more tightly
abbrev pub OperandWord : ℕ → Language
OperandWord k = Then (OperatorWord k) (LevelWord (k + 1))

abbrev IsOperandOf : ℕ → operand_kind.Layer → Type 0
IsOperandOf k d = (level_of d.operator ≡ k) × (k < level d.operand)

pub operand_word : (k : ℕ) (t : Operand) → IsOperandIn k t → OperandWord k (operand_leaves t)
operand_word k t is =
    subst (OperandWord k) (sym (operand_leaves_by t _ refl))
    (of_layers operand_kind operand_grown (λ d. IsOperandOf k d → OperandWord k (operand_layer d))
    (λ y here at. word_as (OperandWord k) ((_, (y.operator, at.0, sign_word (binary_symbol y.operator))) ⨾ a_part y.operand.0 (y.operand.1, omega (arith, at.1))) refl)
    t is.0 is.1)
