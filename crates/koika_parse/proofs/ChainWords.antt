-- What is left of a chain, of operators in front of an operand and of suffixes behind it, by the next token.
use Rattle.std.specs.List.{All, flat_map}
use Rattle.koika_parse.proofs.MadeExpressions.{chain_within, operand_within, postfix_within, unary_within}
use Rattle.koika_parse.proofs.Witnesses.{some_level, some_name, some_number, some_suffix}
use Rattle.std.proofs.lemmas.List.Elements.{All-head, All-tail}
use Rattle.koika_syntax.specs.declared.tree.Operand.{Operand}
use Rattle.std.proofs.Common.{◌≢◌, ◌≡◌, ℕ, zero, suc, ◌+◌, ◌-◌, ◌<◌, ◌≤◌, Option, None, Some, IfSome, Err, List, []}
use Rattle.std.proofs.Common.{◌∷◌, ◌++◌, append_assoc, append-nil, inl, inr, refl, ap, sym, subst, ◌∙◌, arith, Ok}
use Rattle.std.specs.Prelude.{◌⊎◌, ⊤}
use Rattle.koika_syntax.specs.Grammar.{IsSuffix, IsName, NumberFits, level_of, prefix_leaves, suffix_leaves}
use Rattle.koika_syntax.specs.inner.Grammar.{expression_leaves, operand_leaves}
use Rattle.koika_syntax.specs.Tree.{Leaf, Terminal, name, number, literal, keyword, symbol, name_leaves, sign, number_leaves, unary_symbol, binary_symbol}
use Rattle.koika_syntax.specs.declared.keyword.Keyword.TheVariants as keywords
use Rattle.koika_syntax.specs.declared.symbol.Symbol.TheVariants as symbols
use Rattle.koika_syntax.specs.declared.operator.BinaryOperator.{BinaryOperator}
use Rattle.koika_syntax.specs.declared.operator.BinaryOperator.TheVariants as binary
use Rattle.koika_syntax.specs.declared.operator.UnaryOperator.{UnaryOperator}
use Rattle.koika_syntax.specs.declared.operator.UnaryOperator.TheVariants as unary
use Rattle.koika_syntax.specs.declared.tree.Suffix.{Suffix}
use Rattle.koika_syntax.specs.declared.tree.Suffix.TheVariants as suffixes
use Rattle.koika_syntax.specs.declared.tree.Prefix.{Prefix}
use Rattle.koika_parse.specs.inner.Expected.{One, Part, Then, first, Behind, Takes}
use Rattle.koika_parse.specs.inner.ExpressionWords.{OneSuffix, holds, Free, LevelWord, OperandsWord, OperatorWord}
use Rattle.koika_parse.specs.inner.ExpressionWords.{SomeOperandsWord, IsAtOperator, PrefixWord, PrefixesWord}
use Rattle.koika_parse.specs.inner.ExpressionWords.{SuffixesWord, IsAtPrefix, IsAtSuffix, no_prefix}
use Rattle.koika_parse.specs.inner.Parts.{IsOperandIn}
use Rattle.koika_parse.specs.inner.Reading.{next}
use Rattle.koika_parse.specs.declared.cursor.Cursor.{Cursor}
use Rattle.koika_parse.specs.declared.source.Source.{Source}
use Rattle.kw_bits.specs.declared.failure.Failure.TheVariants as failures
use Rattle.koika_parse.specs.declared.stop.Unread.TheVariants as unread
use Rattle.koika_parse.proofs.Expected.{Language, Lookahead, same_first, ◌⨾◌, a_part, a_sign, word_as, Empty, Apart}
use Rattle.koika_parse.proofs.Expected.{Goes, start, starts, goes_as, narrow, narrow_part, refused, same_of_some}
use Rattle.koika_parse.proofs.Expected.{kind_of, Has, Kept, Within, begin, has_within, kept, like_one, like_part}
use Rattle.koika_parse.proofs.Expected.{like_then, made, made_at, place_one, same_of, some_one, some_then}
use Rattle.koika_parse.proofs.Expected.{step}
use Rattle.koika_parse.proofs.Rows.{Rows, the_first, the_second, rows_cases, rows_made, rows_none, first_one, rows_split}
use Rattle.koika_parse.proofs.Words.{sign_word}
use Rattle.koika_parse.proofs.ExpressionWords.{OperandWord, PrimaryWord, primary_word, chain_split, unary_split, postfix_split, operand_word}

abbrev pub OneName : Language
OneName = Part IsName name_leaves

abbrev pub OneNumber : Language
OneNumber = Part NumberFits number_leaves

abbrev pub OneOperand : ℕ → Language
OneOperand k = Part (IsOperandIn k) operand_leaves

-- how tightly what begins with a token may hold together: 2 for a primary, 1 for operators in front of one
abbrev pub begins : Terminal → ℕ
begins (literal bits) = 2
begins (name bytes) = 2
begins (symbol symbols.LeftBracket) = 2
begins (symbol symbols.LeftParenthesis) = 2
begins (symbol symbols.LeftBrace) = 2
begins (symbol symbols.Tilde) = 1
begins (symbol symbols.Minus) = 1
begins (keyword keywords.Abort) = 2
begins (keyword keywords.Pack) = 2
begins (keyword keywords.Unpack) = 2
begins (keyword keywords.Update) = 2
begins (keyword keywords.Zext) = 2
begins (keyword keywords.Sext) = 2
begins (keyword keywords.Slt) = 2
begins (keyword keywords.Sle) = 2
begins (keyword keywords.Sgt) = 2
begins (keyword keywords.Sge) = 2
begins (keyword keywords.Read0) = 2
begins (keyword keywords.Read1) = 2
begins (keyword keywords.Read2) = 2
begins (keyword keywords.Read3) = 2
begins (keyword keywords.Write0) = 2
begins (keyword keywords.Write1) = 2
begins (keyword keywords.Write2) = 2
begins (keyword keywords.Write3) = 2
begins _ = 0

-- a word that begins so
abbrev pub Begins : ℕ → Language
Begins n u = (leaf : Leaf) × (rest : List Leaf) × (u ≡ leaf ∷ rest) × (n ≤ begins leaf.terminal)

begins_then : {n : ℕ} {a : List Leaf} (b u : List Leaf) → Begins n a → u ≡ a ++ b → Begins n u
begins_then b u word same = (word.0, word.1 ++ b, same ∙ ap (λ l. l ++ b) word.2, word.3)

-- a word that begins so doesn't begin with this token
pub other_token : {n : ℕ} {u : List Leaf} (v : List Leaf) (terminal : Terminal) → Begins n u → first (u ++ v) ≡ Some terminal → begins terminal < n → ⊥
other_token {n} {u} v terminal word at low = omega (arith, low, word.3, ap begins (same_of_some (sym (same_first v word.2) ∙ at)))

primary_begins : (t : Terminal) (u : List Leaf) → PrimaryWord (kind_of t) u → 2 ≤ begins t
primary_begins (literal bits) u word = omega arith
primary_begins (name bytes) u word = omega arith
primary_begins (number n) u word = absurd word
primary_begins (symbol symbols.LeftBracket) u word = omega arith
primary_begins (symbol symbols.LeftParenthesis) u word = omega arith
primary_begins (symbol symbols.LeftBrace) u word = omega arith
primary_begins (symbol _) u word = absurd word
primary_begins (keyword keywords.Abort) u word = omega arith
primary_begins (keyword keywords.Pack) u word = omega arith
primary_begins (keyword keywords.Unpack) u word = omega arith
primary_begins (keyword keywords.Update) u word = omega arith
primary_begins (keyword keywords.Zext) u word = omega arith
primary_begins (keyword keywords.Sext) u word = omega arith
primary_begins (keyword keywords.Slt) u word = omega arith
primary_begins (keyword keywords.Sle) u word = omega arith
primary_begins (keyword keywords.Sgt) u word = omega arith
primary_begins (keyword keywords.Sge) u word = omega arith
primary_begins (keyword keywords.Read0) u word = omega arith
primary_begins (keyword keywords.Read1) u word = omega arith
primary_begins (keyword keywords.Read2) u word = omega arith
primary_begins (keyword keywords.Read3) u word = omega arith
primary_begins (keyword keywords.Write0) u word = omega arith
primary_begins (keyword keywords.Write1) u word = omega arith
primary_begins (keyword keywords.Write2) u word = omega arith
primary_begins (keyword keywords.Write3) u word = omega arith
primary_begins (keyword _) u word = absurd word

level_12_begins : (u : List Leaf) → LevelWord 12 u → Begins 2 u
level_12_begins u word =
    let headed = primary_word word.0 word.1 in
    (headed.0, headed.1, word.2 ∙ headed.2, primary_begins headed.0.terminal (expression_leaves word.0) headed.3)

pub postfix_begins : (u : List Leaf) → LevelWord 11 u → Begins 2 u
postfix_begins u word = of (postfix_split u word)
  where
    of : LevelWord 12 u ⊎ Then (LevelWord 12) SuffixesWord u → Begins 2 u
    of (inl primary) = level_12_begins u primary
    of (inr both) = begins_then both.1 u (level_12_begins both.0 both.2) both.4

prefix_at : (operator : UnaryOperator) → 1 ≤ begins (symbol (unary_symbol operator))
prefix_at unary.Not = omega arith
prefix_at unary.Negate = omega arith

unary_begins : (u : List Leaf) → LevelWord 10 u → Begins 1 u
unary_begins u word = of (unary_split u word)
  where
    lower : (a : List Leaf) → Begins 2 a → Begins 1 a
    lower a word = (word.0, word.1, word.2, omega (arith, word.3))

    of : LevelWord 11 u ⊎ Then PrefixesWord (LevelWord 11) u → Begins 1 u
    of (inl postfix) = lower u (postfix_begins u postfix)
    of (inr both) = begins_then both.1 u (begins_then both.2.1 both.0 (_, [], both.2.2.2, prefix_at both.2.2.0.operator) both.2.4) both.4

level_begins : (n k : ℕ) → k + n ≡ 10 → 0 < k → (u : List Leaf) → LevelWord k u → Begins 1 u
level_begins zero k same low u word = unary_begins u (subst (λ k. LevelWord k u) (omega (arith, same)) word)
level_begins (suc n) k same low u word = split (chain_split k low (omega (arith, same)) u word) (λ a tighter. level_begins n (k + 1) (omega (arith, same)) (omega arith) a tighter)
  where
    split : LevelWord (k + 1) u ⊎ Then (LevelWord (k + 1)) (SomeOperandsWord k) u → ((a : List Leaf) → LevelWord (k + 1) a → Begins 1 a) → Begins 1 u
    split (inl tighter) each = each u tighter
    split (inr both) each = begins_then both.1 u (each both.0 both.2) both.4

-- a chain begins with a primary or operators in front of one
pub chain_begins : (k : ℕ) → 0 < k → k ≤ 10 → (u : List Leaf) → LevelWord k u → Begins 1 u
chain_begins k low high u word = level_begins (10 - k) k (omega (arith, high)) low u word

pub holds_operator : (operator : BinaryOperator) → holds (binary_symbol operator) ≡ Some (level_of operator)
holds_operator binary.Or = refl
holds_operator _ = refl

-- an operator goes on with the expressions of its level and looser ones alone
free_operator : (k : ℕ) (operator : BinaryOperator) → level_of operator < k → Free k (Some (symbol (binary_symbol operator)))
free_operator k operator low = subst (λ o. IfSome o (λ l. l < k)) (sym (holds_operator operator)) low

taken_operator : (k : ℕ) (operator : BinaryOperator) → Free k (Some (symbol (binary_symbol operator))) → level_of operator < k
taken_operator k operator free = subst (λ o. IfSome o (λ l. l < k)) (holds_operator operator) free

-- what goes on with no looser expression goes on with no tighter one
pub free_more : (k l : ℕ) → k ≤ l → (next : Option Terminal) → Free k next → Free l next
free_more k l less None free = tt
free_more k l less (Some (symbol s)) free = of (holds s) free
  where
    of : (o : Option ℕ) → IfSome o (λ n. n < k) → IfSome o (λ n. n < l)
    of None low = tt
    of (Some n) low = omega (arith, low, less)
free_more k l less (Some (keyword keywords.Else)) free = omega (arith, free, less)
free_more k l less _ free = tt

-- an operator of this level is the first token
abbrev BeginsWithOperator : ℕ → List Leaf → Type 0
BeginsWithOperator k u = (operator : BinaryOperator) × (level_of operator ≡ k) × (first u ≡ Some (symbol (binary_symbol operator)))

-- an operand begins with its operator
pub operand_first : (k : ℕ) (r v : List Leaf) → OneOperand k r → BeginsWithOperator k (r ++ v)
operand_first k r v part =
    let word = operand_word k part.0 part.1 in
    (word.2.0, word.2.1, same_first v (part.2 ∙ word.4 ∙ ap (λ l. l ++ word.1) word.2.2.2) ∙ ap Some word.2.2.1)

operands_first : (k : ℕ) (r v : List Leaf) → SomeOperandsWord k r → BeginsWithOperator k (r ++ v)
operands_first k r v both =
    let head = operand_first k both.0 (both.1 ++ v) both.2 in
    (head.0, head.1, same_first v both.4 ∙ ap first (append_assoc both.0 both.1 v) ∙ head.2)

abbrev no_operands : (k : ℕ) → Has (OperandsWord k)
no_operands k = ([], rows_none (IsOperandIn k) operand_leaves)

-- operands have been read, and more may follow
abbrev pub OperandsGo : Source → (old new : Cursor) → ℕ → Language → Type 0
OperandsGo source old new k Word = Goes source old new Word (Free k) (OperandsWord k)

-- an operand of a chain may have more operands behind it
pub operands_apart : (k : ℕ) → Apart (OperandsWord k) (Free k) (Free (k + 1))
operands_apart k q v word behind = of (rows_cases (IsOperandIn k) operand_leaves q word)
  where
    of : Empty q ⊎ SomeOperandsWord k q → Behind (Free (k + 1)) (q ++ v)
    of (inl empty) = subst (λ l. Behind (Free (k + 1)) (l ++ v)) (sym empty) (free_more k (k + 1) (omega arith) (first v) behind)
    of (inr some) =
        let head = operands_first k q v some in
        subst (Free (k + 1)) (sym head.2) (free_operator (k + 1) head.0 (omega (arith, head.1)))

-- an operator of each level
some_operator : (k : ℕ) → 0 < k → k ≤ 9 → Has (OperatorWord k)
some_operator k low high = found (of k low high)
  where
    of : (k : ℕ) → 0 < k → k ≤ 9 → (operator : BinaryOperator) × (level_of operator ≡ k)
    of zero low high = absurd (omega (arith, low))
    of (suc zero) low high = (binary.Or, refl)
    of (suc (suc zero)) low high = (binary.Xor, refl)
    of (suc (suc (suc zero))) low high = (binary.And, refl)
    of (suc (suc (suc (suc zero)))) low high = (binary.Equal, refl)
    of (suc (suc (suc (suc (suc zero))))) low high = (binary.Less, refl)
    of (suc (suc (suc (suc (suc (suc zero)))))) low high = (binary.Concat, refl)
    of (suc (suc (suc (suc (suc (suc (suc zero))))))) low high = (binary.ShiftLeft, refl)
    of (suc (suc (suc (suc (suc (suc (suc (suc zero)))))))) low high = (binary.Add, refl)
    of (suc (suc (suc (suc (suc (suc (suc (suc (suc zero))))))))) low high = (binary.Multiply, refl)
    of (suc (suc (suc (suc (suc (suc (suc (suc (suc (suc k)))))))))) low high = absurd (omega (arith, high))

    found : (operator : BinaryOperator) × (level_of operator ≡ k) → Has (OperatorWord k)
    found o = let one = some_one (symbol (binary_symbol o.0)) in (one.0, (o.0, o.1, one.1))

some_operand_word : (k : ℕ) → 0 < k → k ≤ 9 → Has (OperandWord k)
some_operand_word k low high = some_then (some_operator k low high) (some_level (k + 1) (omega (arith, high)))

some_operand : (k : ℕ) → 0 < k → k ≤ 9 → Has (OneOperand k)
some_operand k low high = has_within (operand_within k) (some_operand_word k low high)

-- at an operator of the level, one operand more; elsewhere none
pub operands_at : {source : Source} {old new : Cursor} {Word : Language} (k : ℕ) → 0 < k → k ≤ 9 → IsAtOperator source new k →
    OperandsGo source old new k Word → Goes source old new Word (Free k) (SomeOperandsWord k)
operands_at k low high at go = the_second (rows_split (IsOperandIn k) operand_leaves go)
    (λ r v empty behind same. omega (arith, at.1, taken_operator k at.0 (subst (Free k) (same_first v (sym empty) ∙ same ∙ at.2) behind)))
    (some_then (some_operand k low high) (no_operands k))

pub operands_end : {source : Source} {old new : Cursor} {Word : Language} (k : ℕ) → (IsAtOperator source new k → ⊥) → OperandsGo source old new k Word → Goes source old new Word (Free k) Empty
operands_end k other go = the_first (rows_split (IsOperandIn k) operand_leaves go)
    (λ r v some behind same. let head = operands_first k r v some in other (head.0, head.1, sym same ∙ head.2)) ([], refl)

-- a chain is an operand and those behind it
pub chain_start : {source : Source} {cursor : Cursor} {Follow : Lookahead} (k : ℕ) → 0 < k → k ≤ 9 → Goes source cursor cursor (LevelWord k) Follow (Then (LevelWord (k + 1)) (OperandsWord k))
chain_start k low high = start (λ u word. of u (chain_split k low high u word)) (some_then (some_level (k + 1) (omega (arith, high))) (no_operands k)) (chain_within k)
  where
    of : (u : List Leaf) → LevelWord (k + 1) u ⊎ Then (LevelWord (k + 1)) (SomeOperandsWord k) u → Then (LevelWord (k + 1)) (OperandsWord k) u
    of u (inl tighter) = (u, [], tighter, (no_operands k).1, sym (append-nil u))
    of u (inr both) = (both.0, both.1, both.2, rows_made (IsOperandIn k) operand_leaves both.1 both.3, both.4)

-- behind the first operand of a chain
abbrev pub chain_go :
    {X : Type 0} {source : Source} {old new : Cursor} {x : X} (k : ℕ) → 0 < k → k ≤ 9 →
    Takes source old new (LevelWord (k + 1)) (Free (k + 1)) (Ok x) → OperandsGo source old new k (LevelWord k)
chain_go k low high takes = step (chain_start k low high) takes (operands_apart k)

pub operands_start : {source : Source} {cursor : Cursor} {Follow : Lookahead} (k : ℕ) → 0 < k → k ≤ 9 → Goes source cursor cursor (SomeOperandsWord k) Follow (SomeOperandsWord k)
operands_start k low high = begin (SomeOperandsWord k) (some_then (some_operand k low high) (no_operands k))

pub operand_start : {source : Source} {cursor : Cursor} {Follow : Lookahead} (k : ℕ) → 0 < k → k ≤ 9 → Goes source cursor cursor (OneOperand k) Follow (OperandWord k)
operand_start k low high = starts (OperandWord k) (operand_word k) (some_operand_word k low high) (operand_within k)

pub operator_start : {source : Source} {cursor : Cursor} {Follow : Lookahead} (k : ℕ) → 0 < k → k ≤ 9 → Goes source cursor cursor (OperatorWord k) Follow (OperatorWord k)
operator_start k low high = begin (OperatorWord k) (some_operator k low high)

-- an operator by the next token
pub operator_at :
    {source : Source} {cursor : Cursor} {Follow : Lookahead} (k : ℕ) → 0 < k → k ≤ 9 → (operator : BinaryOperator) →
    level_of operator ≡ k → next source cursor ≡ Some (symbol (binary_symbol operator)) →
    Goes source cursor cursor (OperatorWord k) Follow (One (symbol (binary_symbol operator)))
operator_at k low high operator level at =
    narrow (operator_start k low high) (λ r v word behind same. (word.2.0, same_of_some (sym (same_first v word.2.2) ∙ same ∙ at), word.2.2))
    (some_one (symbol (binary_symbol operator))) (λ q one. kept q q (operator, level, one) (same_of refl))

pub operator_refused :
    {Y : Type 0} {source : Source} {cursor : Cursor} {Follow : Lookahead} (k : ℕ) → 0 < k → k ≤ 9 →
    (IsAtOperator source cursor k → ⊥) →
    Takes {X = Y} source cursor cursor (OperatorWord k) Follow (Err (failures.Why unread.Unexpected))
operator_refused k low high other = refused (operator_start k low high) (λ r v word behind same. other (word.0, word.1, sym same ∙ same_first v word.2.2 ∙ ap Some word.2.1))

prefix_low : (operator : UnaryOperator) → begins (symbol (unary_symbol operator)) < 2
prefix_low unary.Not = omega arith
prefix_low unary.Negate = omega arith

-- operators in front of an operand
some_prefix : Has PrefixWord
some_prefix = (prefix_leaves (record { operator = unary.Not; place = 0 }), (record { operator = unary.Not; place = 0 }, tt, refl))

some_prefixes : Has PrefixesWord
some_prefixes = some_then some_prefix ([], rows_none (λ prefix. ⊤) prefix_leaves)

pub unary_start : {source : Source} {cursor : Cursor} {Follow : Lookahead} → Goes source cursor cursor (LevelWord 10) Follow (λ u. LevelWord 11 u ⊎ Then PrefixesWord (LevelWord 11) u)
unary_start = start unary_split (let e = some_level 11 (omega arith) in (e.0, inl e.1)) unary_within

prefixes_first : (r v : List Leaf) → PrefixesWord r → (operator : UnaryOperator) × (first (r ++ v) ≡ Some (symbol (unary_symbol operator)))
prefixes_first r v word = (word.2.0.operator, same_first v (word.4 ∙ ap (λ l. l ++ word.1) word.2.2))

pub unary_at : {source : Source} {cursor : Cursor} {Follow : Lookahead} → IsAtPrefix source cursor → Goes source cursor cursor (LevelWord 10) Follow (Then PrefixesWord (LevelWord 11))
unary_at at =
    the_second unary_start
    (λ r v postfix behind same. other_token v (symbol (unary_symbol at.0)) (postfix_begins r postfix) (same ∙ at.1) (prefix_low at.0))
    (some_then some_prefixes (some_level 11 (omega arith)))

pub unary_end : {source : Source} {cursor : Cursor} {Follow : Lookahead} → (IsAtPrefix source cursor → ⊥) → Goes source cursor cursor (LevelWord 10) Follow (LevelWord 11)
unary_end other = the_first unary_start (λ r v both behind same.
    let head = prefixes_first both.0 (both.1 ++ v) both.2 in
    other (head.0, sym same ∙ same_first v both.4 ∙ ap first (append_assoc both.0 both.1 v) ∙ head.1)) (some_level 11 (omega arith))

no_prefix_of : (t : Terminal) → 2 ≤ begins t → no_prefix (Some t)
no_prefix_of (symbol symbols.Tilde) high = omega (arith, high)
no_prefix_of (symbol symbols.Minus) high = omega (arith, high)
no_prefix_of (symbol _) high = tt
no_prefix_of _ high = tt

-- a postfix begins with no operator
pub prefixes_apart : (Follow : Lookahead) → Apart (LevelWord 11) Follow no_prefix
prefixes_apart Follow q v word behind =
    let head = postfix_begins q word in
    subst no_prefix (sym (same_first v head.2)) (no_prefix_of head.0.terminal head.3)

abbrev pub MorePrefixes : Language
MorePrefixes = Rows (λ (prefix : Prefix). ⊤) prefix_leaves

pub prefixes_start : {source : Source} {cursor : Cursor} {Follow : Lookahead} → Goes source cursor cursor PrefixesWord Follow PrefixesWord
prefixes_start = begin PrefixesWord some_prefixes

no_prefix_next : (operator : UnaryOperator) → no_prefix (Some (symbol (unary_symbol operator))) → ⊥
no_prefix_next unary.Not free = free
no_prefix_next unary.Negate free = free

pub prefixes_at : {source : Source} {old new : Cursor} {Word : Language} → IsAtPrefix source new → Goes source old new Word no_prefix MorePrefixes → Goes source old new Word no_prefix PrefixesWord
prefixes_at at goes = the_second (rows_split (λ prefix. ⊤) prefix_leaves goes)
    (λ r v empty behind same. no_prefix_next at.0 (subst no_prefix (same_first v (sym empty) ∙ same ∙ at.1) behind)) some_prefixes

pub prefixes_end :
    {source : Source} {old new : Cursor} {Word : Language} {Follow : Lookahead} → (IsAtPrefix source new → ⊥) →
    Goes source old new Word Follow MorePrefixes → Goes source old new Word Follow Empty
prefixes_end other goes = the_first (rows_split (λ prefix. ⊤) prefix_leaves goes)
    (λ r v some behind same. let head = prefixes_first r v some in other (head.0, sym same ∙ head.1)) ([], refl)

pub prefix_start : {source : Source} {cursor : Cursor} {Follow : Lookahead} → Goes source cursor cursor PrefixWord Follow PrefixWord
prefix_start = begin PrefixWord some_prefix

pub prefix_at_sign :
    {source : Source} {cursor : Cursor} {Follow : Lookahead} (operator : UnaryOperator) →
    next source cursor ≡ Some (symbol (unary_symbol operator)) →
    Goes source cursor cursor PrefixWord Follow (One (symbol (unary_symbol operator)))
prefix_at_sign operator at = narrow prefix_start (λ r v word behind same. (_, same_of_some (sym (same_first v word.2) ∙ same ∙ at), word.2))
    (some_one (symbol (unary_symbol operator))) (λ q one. made_at q (λ place. place_one place one) (λ place. record { operator = operator; place = place }) (λ place. tt) (λ place. refl))

pub prefix_refused :
    {Y : Type 0} {source : Source} {cursor : Cursor} {Follow : Lookahead} → (IsAtPrefix source cursor → ⊥) →
    Takes {X = Y} source cursor cursor PrefixWord Follow (Err (failures.Why unread.Unexpected))
prefix_refused other = refused prefix_start (λ r v word behind same. other (word.0.operator, sym same ∙ same_first v word.2))

abbrev pub MoreSuffixes : Language
MoreSuffixes = Rows IsSuffix suffix_leaves

bracket_or_dot : Some (symbol symbols.LeftBracket) ≡ Some (symbol symbols.Dot) → ⊥
bracket_or_dot e = cc e

bracket_or_colon : Some (symbol symbols.RightBracket) ≡ Some (symbol symbols.Colon) → ⊥
bracket_or_colon e = cc e

-- suffixes behind a primary
some_suffixes : Has SuffixesWord
some_suffixes = some_then some_suffix ([], rows_none IsSuffix suffix_leaves)

pub postfix_start : {source : Source} {cursor : Cursor} {Follow : Lookahead} → Goes source cursor cursor (LevelWord 11) Follow (Then (LevelWord 12) MoreSuffixes)
postfix_start = start (λ u word. of u (postfix_split u word)) (some_then (some_level 12 (omega arith)) ([], rows_none IsSuffix suffix_leaves)) postfix_within
  where
    of : (u : List Leaf) → LevelWord 12 u ⊎ Then (LevelWord 12) SuffixesWord u → Then (LevelWord 12) MoreSuffixes u
    of u (inl primary) = (u, [], primary, rows_none IsSuffix suffix_leaves, sym (append-nil u))
    of u (inr both) = (both.0, both.1, both.2, rows_made IsSuffix suffix_leaves both.1 both.3, both.4)

pub suffixes_start : {source : Source} {cursor : Cursor} {Follow : Lookahead} → Goes source cursor cursor SuffixesWord Follow SuffixesWord
suffixes_start = begin SuffixesWord some_suffixes

-- a suffix begins with a dot or a bracket
suffix_first : (suffix : Suffix) (v : List Leaf) (next : Option Terminal) → first (suffix_leaves suffix ++ v) ≡ next → (next ≡ Some (symbol symbols.Dot)) ⊎ (next ≡ Some (symbol symbols.LeftBracket))
suffix_first (suffixes.Field n) v next at = inl (sym at)
suffix_first (suffixes.Index index) v next at = inr (sym at)
suffix_first (suffixes.Slice high low) v next at = inr (sym at)

suffixes_first : (r v : List Leaf) (next : Option Terminal) → SuffixesWord r → first (r ++ v) ≡ next → (next ≡ Some (symbol symbols.Dot)) ⊎ (next ≡ Some (symbol symbols.LeftBracket))
suffixes_first r v next word at = suffix_first word.2.0 (word.1 ++ v) next
    (ap first (sym (append_assoc (suffix_leaves word.2.0) word.1 v)) ∙ same_first v (sym (word.4 ∙ ap (λ l. l ++ word.1) word.2.2)) ∙ at)

free_suffix : (k : ℕ) → k ≤ 11 → (next : Option Terminal) → Free k next → (next ≡ Some (symbol symbols.Dot)) ⊎ (next ≡ Some (symbol symbols.LeftBracket)) → ⊥
free_suffix k low next free (inl dot) = let less : 11 < k = subst (Free k) dot free in omega (arith, low, less)
free_suffix k low next free (inr bracket) = let less : 11 < k = subst (Free k) bracket free in omega (arith, low, less)

pub suffixes_apart : Apart MoreSuffixes (Free 11) (Free 12)
suffixes_apart q v word behind = of (rows_cases IsSuffix suffix_leaves q word)
  where
    begun : (next : Option Terminal) → (next ≡ Some (symbol symbols.Dot)) ⊎ (next ≡ Some (symbol symbols.LeftBracket)) → Free 12 next
    begun next (inl dot) = subst (Free 12) (sym dot) (omega arith)
    begun next (inr bracket) = subst (Free 12) (sym bracket) (omega arith)

    of : Empty q ⊎ SuffixesWord q → Behind (Free 12) (q ++ v)
    of (inl empty) = subst (λ l. Behind (Free 12) (l ++ v)) (sym empty) (free_more 11 12 (omega arith) (first v) behind)
    of (inr some) = begun (first (q ++ v)) (suffixes_first q v (first (q ++ v)) some refl)

pub suffixes_at : {source : Source} {old new : Cursor} {Word : Language} → IsAtSuffix source new → Goes source old new Word (Free 11) MoreSuffixes → Goes source old new Word (Free 11) SuffixesWord
suffixes_at {source} {old} {new} at goes = the_second (rows_split IsSuffix suffix_leaves goes)
    (λ r v empty behind same. free_suffix 11 (omega arith) (next source new) (subst (Free 11) (same_first v (sym empty) ∙ same) behind) at) some_suffixes

pub suffixes_end :
    {source : Source} {old new : Cursor} {Word : Language} {Follow : Lookahead} → (IsAtSuffix source new → ⊥) →
    Goes source old new Word Follow MoreSuffixes → Goes source old new Word Follow Empty
suffixes_end {source} {old} {new} other goes = the_first (rows_split IsSuffix suffix_leaves goes)
    (λ r v some behind same. other (suffixes_first r v (next source new) some same)) ([], refl)

-- a colon, the lower number and the closing bracket
abbrev pub SliceTail : Language
SliceTail = Then (One (symbol symbols.Colon)) (Then OneNumber (One (symbol symbols.RightBracket)))

-- a suffix by the next token
abbrev pub AfterNumber : Language
AfterNumber u = One (symbol symbols.RightBracket) u ⊎ SliceTail u

abbrev pub IndexWord : Language
IndexWord = Then (One (symbol symbols.LeftBracket)) (Then OneNumber AfterNumber)

index_within : Within IndexWord OneSuffix
index_within q both = of both.3.3
  where
    of : AfterNumber both.3.1 → Kept OneSuffix q
    of (inl close) = made q (like_then both (like_one both.2) (like_then both.3 (like_part both.3.2) (like_one close))) (suffixes.Index both.3.2.0) both.3.2.1 refl
    of (inr slice) =
        made q (like_then both (like_one both.2) (like_then both.3 (like_part both.3.2) (like_then slice (like_one slice.2) (like_then slice.3 (like_part slice.3.2) (like_one slice.3.3)))))
        (suffixes.Slice both.3.2.0 slice.3.2.0) (both.3.2.1, slice.3.2.1) refl

some_index : Has IndexWord
some_index = let close = some_one (symbol symbols.RightBracket) in some_then (some_one (symbol symbols.LeftBracket)) (some_then some_number (close.0, inl close.1))

abbrev pub DotWord : Language
DotWord = Then (One (symbol symbols.Dot)) OneName

pub suffix_dot : {source : Source} {cursor : Cursor} {Follow : Lookahead} → next source cursor ≡ Some (symbol symbols.Dot) →
    Goes source cursor cursor OneSuffix Follow DotWord
suffix_dot {source} {cursor} dot = narrow_part DotWord (λ x is v at. of x is v (at ∙ dot)) (some_then (some_one (symbol symbols.Dot)) some_name)
    (λ q both. made q (like_then both (like_one both.2) (like_part both.3)) (suffixes.Field both.3.0) both.3.1 refl)
  where
    of : (x : Suffix) → IsSuffix x → (v : List Leaf) → first (suffix_leaves x ++ v) ≡ Some (symbol symbols.Dot) → DotWord (suffix_leaves x)
    of (suffixes.Field n) is v at = (sign symbols.Dot, name_leaves n, sign_word symbols.Dot, (n, is, refl), refl)
    of (suffixes.Index index) is v at = absurd (bracket_or_dot at)
    of (suffixes.Slice high low) is v at = absurd (bracket_or_dot at)

pub suffix_bracket : {source : Source} {cursor : Cursor} {Follow : Lookahead} → next source cursor ≢ Some (symbol symbols.Dot) → Goes source cursor cursor OneSuffix Follow IndexWord
suffix_bracket {source} {cursor} other = narrow_part IndexWord (λ x is v at. of x is v at) some_index index_within
  where
    of : (x : Suffix) → IsSuffix x → (v : List Leaf) → first (suffix_leaves x ++ v) ≡ next source cursor → IndexWord (suffix_leaves x)
    of (suffixes.Field n) is v at = absurd (other (sym at))
    of (suffixes.Index index) is v at =
        let tail : Has AfterNumber = (sign symbols.RightBracket, inl (sign_word symbols.RightBracket)) in
        word_as IndexWord (a_sign symbols.LeftBracket ⨾ a_part index is ⨾ tail) refl
    of (suffixes.Slice high low) is v at =
        let slice : Has SliceTail = a_sign symbols.Colon ⨾ a_part low is.1 ⨾ a_sign symbols.RightBracket in
        let tail : Has AfterNumber = (slice.0, inr slice.1) in
        word_as IndexWord (a_sign symbols.LeftBracket ⨾ a_part high is.0 ⨾ tail) refl

pub slice_at :
    {source : Source} {old new : Cursor} {Word : Language} {Follow : Lookahead} →
    next source new ≡ Some (symbol symbols.Colon) → Goes source old new Word Follow AfterNumber →
    Goes source old new Word Follow SliceTail
slice_at colon goes =
    the_second goes (λ r v one behind at. bracket_or_colon (sym (same_first v one.2 ∙ ap Some one.1) ∙ at ∙ colon))
    (some_then (some_one (symbol symbols.Colon)) (some_then some_number (some_one (symbol symbols.RightBracket))))

pub index_at :
    {source : Source} {old new : Cursor} {Word : Language} {Follow : Lookahead} →
    next source new ≢ Some (symbol symbols.Colon) → Goes source old new Word Follow AfterNumber →
    Goes source old new Word Follow (One (symbol symbols.RightBracket))
index_at other goes = the_first goes (λ r v both behind at. other (sym at ∙ first_one (symbol symbols.Colon) _ r v both)) (some_one (symbol symbols.RightBracket))
