-- What expressions are made of: of each word of a level or of a part, an expression or that part with the same tokens.
use Rattle.koika_parse.specs.inner.ExpressionWords.{ArrayWord, ColonsWord, CompareWord, ConditionalWord, ExtendWord}
use Rattle.koika_parse.specs.inner.ExpressionWords.{LetWord, LevelWord, NamedTailWord, NamedWord, OneBlock, OneLiteral}
use Rattle.koika_parse.specs.inner.ExpressionWords.{OperandsWord, OperatorWord, PackWord, ParenthesesWord, PrefixesWord}
use Rattle.koika_parse.specs.inner.ExpressionWords.{ReadWord, UnpackWord, UpdateWord, WriteWord}
use Rattle.koika_parse.proofs.Expected.{Kept, Like, Within, kept, like_one, like_part, like_then, made, made_at, place_one, place_then, same_of, then_place}
use Rattle.koika_parse.proofs.Parts.{is_abort, is_arm, is_array, is_block, is_block_expression, is_call, is_chain_of}
use Rattle.koika_parse.proofs.Parts.{is_compare, is_do, is_extend, is_field_value, is_if, is_let, is_literal, is_member}
use Rattle.koika_parse.proofs.Parts.{is_name, is_operand, is_operand_at, is_pack, is_parentheses, is_postfix, is_read}
use Rattle.koika_parse.proofs.Parts.{is_struct, is_unary, is_unpack, is_update, is_write, level_abort, level_array}
use Rattle.koika_parse.proofs.Parts.{level_block, level_call, level_chain_of, level_compare, level_extend}
use Rattle.koika_parse.proofs.Parts.{level_literal, level_member, level_name, level_pack, level_parentheses}
use Rattle.koika_parse.proofs.Parts.{level_postfix, level_read, level_struct, level_unary, level_unpack, level_update}
use Rattle.koika_parse.proofs.Parts.{level_write}
use Rattle.koika_parse.proofs.Calls.{all_of_map, leaves_abort, leaves_arm, leaves_block, leaves_do, leaves_extend}
use Rattle.koika_parse.proofs.Calls.{leaves_field_value, leaves_let, leaves_literal, leaves_member, leaves_name}
use Rattle.koika_parse.proofs.Calls.{leaves_operand, leaves_pack, leaves_parentheses, leaves_postfix, leaves_read}
use Rattle.koika_parse.proofs.Calls.{leaves_unary, leaves_unpack, leaves_write}
use Rattle.koika_parse.proofs.ExpressionWords.{ArmWord, BlockWord, DoWord, FieldValueWord}
use Rattle.koika_syntax.specs.Tree.{all_of, keyword, placed, symbol, word, Leaf, Terminal, comparison_word, each_after, extension_word, in_parentheses, with_between, number_leaves, sign}
use Rattle.koika_parse.specs.inner.Parts.{IsArm, IsFieldValue, IsOperandIn, IsStatement}
use Rattle.koika_syntax.specs.Grammar.{level, IsBlock, IsSuffix, block_leaves, last_leaves, part_leaves, suffix_leaves, type_leaves}
use Rattle.koika_syntax.specs.inner.Grammar.{IsExpression, arm_leaves, expression_leaves, field_value_leaves, operand_leaves, statement_leaves}
use Rattle.koika_syntax.proofs.Leaves.{array_expression, block_expression, call_expression, chain_expression, compare_expression, if_expression, struct_expression, update_expression}
use Rattle.koika_syntax.specs.declared.tree.Suffix.{Suffix}
use Rattle.koika_parse.specs.inner.Expected.{One, Part, Then}
use Rattle.koika_syntax.specs.declared.tree.Expression.{Expression}
use Rattle.koika_syntax.specs.declared.tree.FieldValue.{roll-FieldValue}
use Rattle.koika_syntax.specs.declared.tree.Arm.{Arm, roll-Arm}
use Rattle.std.proofs.lemmas.List.Elements.{All-cons}
use Rattle.koika_parse.proofs.Rows.{Rows}
use Rattle.koika_syntax.specs.declared.tree.Statement.{Statement}
use Rattle.koika_parse.proofs.Words.{assoc3, assoc5}
use Rattle.koika_syntax.specs.declared.tree.Operand.{Operand, roll-Operand}
use Rattle.koika_syntax.specs.declared.keyword.Keyword.{Keyword}
use Rattle.koika_syntax.specs.declared.tree.Block.{Block, roll-Block}
use Rattle.std.proofs.Common.{◌≡◌, ℕ, ◌+◌, ◌<◌, ◌≤◌, Option, None, Some, IfSome, List, [], ◌∷◌, ◌++◌, map, append_assoc, append-nil, inl, inr, refl, ap, sym, ◌∙◌, arith}
use Rattle.std.specs.Prelude.{◌⊎◌}
use Rattle.std.specs.List.{All, flat_map}
use Rattle.koika_syntax.specs.declared.keyword.Keyword.TheVariants as keywords
use Rattle.koika_syntax.specs.declared.symbol.Symbol.TheVariants as symbols
use Rattle.koika_syntax.specs.declared.operator.Extension.{Extension}
use Rattle.koika_syntax.specs.declared.operator.SignedComparison.{SignedComparison}
use Rattle.koika_syntax.specs.declared.tree.Expression.TheViews as views

-- a tighter level is of each looser one
pub looser : (k l : ℕ) → k ≤ l → (u : List Leaf) → LevelWord l u → LevelWord k u
looser k l low u word = (word.0, (word.1.0, omega (arith, low, word.1.1)), word.2)

-- a part and a token behind it; these behind a token; and two parts so
abbrev like_closed : {X : Type 0} {Is : X → Type 0} {leaves : X → List Leaf} {close : Terminal} {u : List Leaf} →
    Then (Part Is leaves) (One close) u → Like u
like_closed both = like_then both (like_part both.2) (like_one both.3)

abbrev like_argument : {X : Type 0} {Is : X → Type 0} {leaves : X → List Leaf} {open' close : Terminal} {u : List Leaf} →
    Then (One open') (Then (Part Is leaves) (One close)) u → Like u
like_argument both = like_then both (like_one both.2) (like_closed both.3)

abbrev like_arguments : {X Y : Type 0} {Is : X → Type 0} {leaves : X → List Leaf} {Is' : Y → Type 0} {leaves' : Y → List Leaf} {open' comma close : Terminal} {u : List Leaf} →
    Then (One open') (Then (Part Is leaves) (Then (One comma) (Then (Part Is' leaves') (One close)))) u → Like u
like_arguments both = like_then both (like_one both.2) (like_then both.3 (like_part both.3.2) (like_argument both.3.3))

-- primaries
abbrev Primary : (List Leaf → Type 0) → Type 0
Primary Word = Within Word (LevelWord 12)

pub literal_primary : Primary OneLiteral
literal_primary q part = made q (like_part part) (views.made-Literal part.0) (is_literal part.0 part.1, omega (arith, level_literal part.0)) (leaves_literal part.0)

pub block_primary : Primary OneBlock
block_primary q part = made q (like_part part) (views.Block part.0) (is_block_expression part.0 part.1 tt, omega (arith, level_block part.0)) (block_expression part.0)

pub array_primary : Primary ArrayWord
array_primary q both =
    let elements = both.3.2.0 in
    made_at q (λ place. place_then place both (like_closed both.3)) (λ place. views.Array place elements)
    (λ place. (is_array place elements both.3.2.1.1 both.3.2.1.0, omega (arith, level_array place elements))) (λ place. array_expression place elements)

pub parentheses_primary : Primary ParenthesesWord
parentheses_primary q both =
    let inside = both.3.2.0 in
    made_at q (λ place. place_then place both (like_closed both.3)) (λ place. views.Parentheses place inside)
    (λ place. (is_parentheses place inside both.3.2.1 tt, omega (arith, level_parentheses place inside))) (λ place. leaves_parentheses place inside)

pub read_primary : (port : ℕ) → port < 4 → Primary (ReadWord port)
read_primary port low q both =
    let register = both.3.3.2 in
    made_at q (λ place. place_then place both (like_argument both.3)) (λ place. views.made-Read place port register.0)
    (λ place. (is_read place port register.0 (low, register.1), omega (arith, level_read place port register.0))) (λ place. leaves_read place port register.0)

pub write_primary : (port : ℕ) → port < 4 → Primary (WriteWord port)
write_primary port low q both =
    let register = both.3.3.2 in
    let value = both.3.3.3.3.2.0 in
    made_at q (λ place. place_then place both (like_arguments both.3))
    (λ place. views.Write place port register.0 value)
    (λ place. (is_write place port register.0 value both.3.3.3.3.2.1 (low, register.1), omega (arith, level_write place port register.0 value)))
    (λ place. leaves_write place port register.0 value)

pub abort_primary : Primary (One (keyword keywords.Abort))
abort_primary q one = made_at q (λ place. place_one place one) (λ place. views.made-Abort place) (λ place. (is_abort place tt, omega (arith, level_abort place))) (λ place. leaves_abort place)

pub pack_primary : Primary PackWord
pack_primary q both =
    let value = both.3.3.2.0 in
    made_at q (λ place. place_then place both (like_argument both.3)) (λ place. views.Pack place value)
    (λ place. (is_pack place value both.3.3.2.1 tt, omega (arith, level_pack place value))) (λ place. leaves_pack place value)

-- two arguments in parentheses behind a word
two_arguments : (place : ℕ) (k : Keyword) (a b : List Leaf) → placed (keyword k) place ++ in_parentheses (a ++ sign symbols.Comma ++ b) ≡
    placed (keyword k) place ++ (sign symbols.LeftParenthesis ++ (a ++ (sign symbols.Comma ++ (b ++ sign symbols.RightParenthesis))))
two_arguments place k a b =
    ap (λ t. placed (keyword k) place ++ (sign symbols.LeftParenthesis ++ t)) (assoc3 a (sign symbols.Comma) b (sign symbols.RightParenthesis))

pub unpack_primary : Primary UnpackWord
unpack_primary q both =
    let to = both.3.3.2 in
    let value = both.3.3.3.3.2.0 in
    made_at q (λ place. place_then place both (like_arguments both.3))
    (λ place. views.Unpack place to.0 value)
    (λ place. (is_unpack place to.0 value both.3.3.3.3.2.1 to.1, omega (arith, level_unpack place to.0 value)))
    (λ place. leaves_unpack place to.0 value ∙ two_arguments place keywords.Unpack (type_leaves to.0) (expression_leaves value))

pub extend_primary : (extension : Extension) → Primary (ExtendWord extension)
extend_primary extension q both =
    let value = both.3.3.2.0 in
    let width = both.3.3.3.3.2 in
    made_at q (λ place. place_then place both (like_arguments both.3))
    (λ place. views.Extend place extension value width.0) (λ place. (is_extend place extension value width.0 both.3.3.2.1 width.1, omega (arith, level_extend place extension value width.0)))
    (λ place. leaves_extend place extension value width.0 ∙ two_arguments place (extension_word extension) (expression_leaves value) (number_leaves width.0))

pub compare_primary : (comparison : SignedComparison) → Primary (CompareWord comparison)
compare_primary comparison q both =
    let left = both.3.3.2.0 in
    let right = both.3.3.3.3.2.0 in
    made_at q (λ place. place_then place both (like_arguments both.3))
    (λ place. views.Compare place comparison left right)
    (λ place. (is_compare place comparison left right both.3.3.2.1 both.3.3.3.3.2.1 tt, omega (arith, level_compare place comparison left right)))
    (λ place. compare_expression place comparison left right ∙ two_arguments place (comparison_word comparison) (expression_leaves left) (expression_leaves right))

pub update_primary : Primary UpdateWord
update_primary q both =
    let whole = both.3.3.2.0 in
    let part = both.3.3.3.3.2 in
    let more = both.3.3.3.3.3 in
    let value = more.3.2.0 in
    let comma = sign symbols.Comma in
    let close = sign symbols.RightParenthesis in
    let grouped =
    assoc5 (expression_leaves whole) comma (part_leaves part.0) comma (expression_leaves value) close
    ∙ ap (λ t. expression_leaves whole ++ (comma ++ t)) (assoc3 (part_leaves part.0) comma (expression_leaves value) close) in
    made_at q (λ place. place_then place both (like_then both.3 (like_one both.3.2) (like_then both.3.3 (like_part both.3.3.2) (like_arguments both.3.3.3))))
    (λ place. views.Update place whole part.0 value) (λ place. (is_update place whole part.0 value both.3.3.2.1 more.3.2.1 part.1, omega (arith, level_update place whole part.0 value)))
    (λ place. update_expression place whole part.0 value ∙ ap (λ t. placed (keyword keywords.Update) place ++ (sign symbols.LeftParenthesis ++ t)) grouped)

pub named_primary : Primary NamedWord
named_primary q both = of both.3
  where
    of : NamedTailWord both.1 → Kept (LevelWord 12) q
    of (inl empty) =
        made q (like_then both (like_part both.2) ([], same_of (sym empty))) (views.made-Name both.2.0) (is_name both.2.0 both.2.1, omega (arith, level_name both.2.0)) (leaves_name both.2.0)
    of (inr (inl call)) =
        let arguments = call.3.2.0 in
        made q (like_then both (like_part both.2) (like_argument call)) (views.Call both.2.0 arguments)
        (is_call both.2.0 arguments call.3.2.1 both.2.1, omega (arith, level_call both.2.0 arguments)) (call_expression both.2.0 arguments)
    of (inr (inr colons)) = behind colons.3
      where
        behind : ColonsWord colons.1 → Kept (LevelWord 12) q
        behind (inl member) =
            made q (like_then both (like_part both.2) (like_then colons (like_one colons.2) (like_part member))) (views.made-Member both.2.0 member.0)
            (is_member both.2.0 member.0 (both.2.1, member.1), omega (arith, level_member both.2.0 member.0)) (leaves_member both.2.0 member.0)
        behind (inr tail) =
            let fields = tail.3.2.0 in
            made_at q
            (λ place. then_place both (like_part both.2) (then_place colons (like_one colons.2)
            (then_place tail (like_one tail.2) (then_place tail.3 (like_part tail.3.2) (place_one place tail.3.3)))))
            (λ place. views.Struct both.2.0 fields place)
            (λ place. (is_struct both.2.0 fields place tail.3.2.1.1 (both.2.1, tail.3.2.1.0), omega (arith, level_struct both.2.0 fields place)))
            (λ place. struct_expression both.2.0 fields place)

-- chains, unary runs and postfixes
pub chain_within : (k : ℕ) → Within (Then (LevelWord (k + 1)) (OperandsWord k)) (LevelWord k)
chain_within k q both = of both.3.0 both.3.1 both.3.2
  where
    of : (operands : List Operand) → All (IsOperandIn k) operands → both.1 ≡ flat_map operand_leaves operands → Kept (LevelWord k) q
    of [] all same = kept q both.0 (looser k (k + 1) (omega arith) both.0 both.2) (same_of (sym (both.4 ∙ ap (λ t. both.0 ++ t) same ∙ append-nil both.0)))
    of (o ∷ os) all same =
        let first = both.2.0 in
        let rest = o ∷ os in
        let above : k < level first = omega (arith, both.2.1.1) in
        made q (like_then both (like_part both.2) (flat_map operand_leaves (o ∷ os), same_of (sym same))) (views.Chain first rest)
        (is_chain_of k first rest (omega arith) all above both.2.1.0, omega (arith, level_chain_of k first rest (omega arith) all above))
        (chain_expression first rest ∙ ap (λ t. expression_leaves first ++ t) (sym (all_of_map operand_leaves (o ∷ os))))

pub unary_within : Within (λ u. LevelWord 11 u ⊎ Then PrefixesWord (LevelWord 11) u) (LevelWord 10)
unary_within q (inl postfix) = kept q q (looser 10 11 (omega arith) q postfix) (same_of refl)
unary_within q (inr both) =
    let prefixes = both.2.2.0 ∷ both.2.3.0 in
    let operand = both.3.0 in
    made q (like_then both (like_then both.2 (like_part both.2.2) (like_part both.2.3)) (like_part both.3)) (views.Unary prefixes operand)
    (is_unary prefixes operand both.3.1.0 (omega arith, omega (arith, both.3.1.1)), omega (arith, level_unary prefixes operand)) (leaves_unary prefixes operand)

pub postfix_within : Within (Then (LevelWord 12) (Rows IsSuffix suffix_leaves)) (LevelWord 11)
postfix_within q both = of both.3.0 both.3.1 both.3.2
  where
    of : (suffixes : List Suffix) → All IsSuffix suffixes → both.1 ≡ flat_map suffix_leaves suffixes → Kept (LevelWord 11) q
    of [] all same = kept q both.0 (looser 11 12 (omega arith) both.0 both.2) (same_of (sym (both.4 ∙ ap (λ t. both.0 ++ t) same ∙ append-nil both.0)))
    of (s ∷ ss) all same =
        let primary = both.2.0 in
        made q (like_then both (like_part both.2) (flat_map suffix_leaves (s ∷ ss), same_of (sym same))) (views.Postfix primary (s ∷ ss))
        (is_postfix primary (s ∷ ss) both.2.1.0 (omega (arith, both.2.1.1), omega arith, all), omega (arith, level_postfix primary (s ∷ ss))) (leaves_postfix primary (s ∷ ss))

pub operand_within : (k : ℕ) → Within (Then (OperatorWord k) (LevelWord (k + 1))) (Part (IsOperandIn k) operand_leaves)
operand_within k q both =
    let operator = both.2.0 in
    let operand = both.3.0 in
    made q (like_then both (like_one both.2.2) (like_part both.3)) (roll-Operand (record { operator = operator; operand = operand }))
    (is_operand operator operand both.3.1.0, is_operand_at k operator operand both.2.1 (omega (arith, both.3.1.1))) (leaves_operand operator operand)

-- an `if`, its arms, blocks and what stands in them
else_leaves : List Arm → Option Block → List Leaf
else_leaves arms otherwise = each_after (word keywords.Else) (map arm_leaves arms) ++ last_leaves otherwise (λ block. word keywords.Else ++ block_leaves block)

if_leaves_are : (arm : Arm) (arms : List Arm) (otherwise : Option Block) →
    with_between (word keywords.Else) (map arm_leaves (arm ∷ arms)) ++ last_leaves otherwise (λ block. word keywords.Else ++ block_leaves block) ≡ arm_leaves arm ++ else_leaves arms otherwise
unfolding with_between else_leaves
if_leaves_are arm arms otherwise =
    append_assoc (arm_leaves arm) (each_after (word keywords.Else) (map arm_leaves arms)) (last_leaves otherwise (λ block. word keywords.Else ++ block_leaves block))

pub conditional_within : Within ConditionalWord (Part IsExpression expression_leaves)
unfolding else_leaves
conditional_within q both =
    let arm = both.2.0 in
    let arms = both.3.0 in
    let otherwise = both.3.1 in
    let all = arm ∷ arms in
    made q (like_then both (like_part both.2) (else_leaves arms otherwise, same_of (sym both.3.4))) (views.If all otherwise)
    (is_if all otherwise (All-cons IsArm arm arms both.2.1 both.3.2) both.3.3 (omega arith)) (if_expression all otherwise ∙ if_leaves_are arm arms otherwise)

pub expression_within : Within (λ u. LevelWord 1 u ⊎ ConditionalWord u) (Part IsExpression expression_leaves)
expression_within q (inl chain) = kept q q (chain.0, chain.1.0, chain.2) (same_of refl)
expression_within q (inr conditional) = conditional_within q conditional

pub arm_within : Within ArmWord (Part IsArm arm_leaves)
arm_within q both =
    let condition = both.3.2.0 in
    let body = both.3.3.0 in
    made_at q (λ place. place_then place both (like_then both.3 (like_part both.3.2) (like_part both.3.3)))
    (λ place. roll-Arm (record { place = place; condition = condition; body = body }))
    (λ place. is_arm place condition body both.3.2.1.0 (omega (arith, both.3.2.1.1)) both.3.3.1) (λ place. leaves_arm place condition body)

pub field_value_within : Within FieldValueWord (Part IsFieldValue field_value_leaves)
field_value_within q both =
    made q (like_then both (like_part both.2) (like_then both.3 (like_one both.3.2) (like_part both.3.3))) (roll-FieldValue (record { name = both.2.0; value = both.3.3.0 }))
    (is_field_value both.2.0 both.3.3.0 both.2.1 both.3.3.1) (leaves_field_value both.2.0 both.3.3.0)

pub block_within : Within BlockWord (Part IsBlock block_leaves)
block_within q both = of both.3.2.1 both.3.2.3 both.3.2.4
  where
    statements : List Statement
    statements = both.3.2.0

    -- the block's leaves, with those of each statement
    in_block : (place : ℕ) (last : List Leaf) →
        placed (symbol symbols.LeftBrace) place ++ ((all_of (map statement_leaves both.3.2.0) ++ last) ++ sign symbols.RightBrace) ≡
        placed (symbol symbols.LeftBrace) place ++ ((flat_map statement_leaves both.3.2.0 ++ last) ++ sign symbols.RightBrace)
    in_block place last =
        ap (λ t. placed (symbol symbols.LeftBrace) place ++ ((t ++ last) ++ sign symbols.RightBrace)) (sym (all_of_map statement_leaves both.3.2.0))

    of : (value : Option Expression) → IfSome value IsExpression →
        both.3.0 ≡ flat_map statement_leaves both.3.2.0 ++ last_leaves value expression_leaves → Kept (Part IsBlock block_leaves) q
    of None is same =
        made_at q
        (λ place. place_then place both (like_then both.3 (flat_map statement_leaves both.3.2.0 ++ [], same_of (sym same)) (like_one both.3.3)))
        (λ place. roll-Block (record { place = place; statements = statements; value = None }))
        (λ place. is_block place statements None both.3.2.2 tt)
        (λ place. leaves_block place statements None ∙ in_block place [])
    of (Some e) is same =
        made_at q
        (λ place. place_then place both (like_then both.3 (flat_map statement_leaves both.3.2.0 ++ expression_leaves e, same_of (sym same)) (like_one both.3.3)))
        (λ place. roll-Block (record { place = place; statements = statements; value = Some e }))
        (λ place. is_block place statements (Some e) both.3.2.2 is)
        (λ place. leaves_block place statements (Some e) ∙ in_block place (expression_leaves e))

pub let_within : Within LetWord (Part IsStatement statement_leaves)
let_within q both =
    let bound = both.3.2 in
    let value = both.3.3.3.2 in
    made q (like_then both (like_one both.2) (like_then both.3 (like_part bound) (like_argument both.3.3))) (views.made-Let bound.0 value.0)
    (is_let bound.0 value.0 bound.1 value.1) (leaves_let bound.0 value.0)

pub do_within : Within DoWord (Part IsStatement statement_leaves)
do_within q both = made q (like_then both (like_part both.2) (like_one both.3)) (views.made-Do both.2.0) (is_do both.2.0 both.2.1) (leaves_do both.2.0)
