-- What is left of an expression, of an `if` and of a block, by the next token.
use Rattle.koika_parse.proofs.Witnesses.{some_block, some_expression, some_level, some_name}
use Rattle.koika_parse.proofs.MadeExpressions.{arm_within, block_within, do_within, expression_within, field_value_within, let_within}
use Rattle.std.proofs.Common.{◌≢◌, ◌≡◌, ℕ, ◌<◌, Option, None, Some, IfSome, List, [], ◌∷◌, ◌++◌, map, append_assoc}
use Rattle.std.proofs.Common.{append-nil, inl, inr, refl, ap, sym, subst, ◌∙◌, arith, Ok}
use Rattle.std.specs.Prelude.{◌⊎◌}
use Rattle.std.specs.List.{All, flat_map}
use Rattle.std.proofs.lemmas.List.Elements.{All-head, All-tail, All-cons, All-nil}
use Rattle.koika_syntax.specs.Grammar.{IsBlock, block_leaves, last_leaves}
use Rattle.koika_syntax.specs.inner.Grammar.{IsExpression, expression_leaves, statement_leaves, arm_leaves, field_value_leaves}
use Rattle.koika_syntax.specs.Tree.{Leaf, Terminal, keyword, symbol, word, each_after}
use Rattle.koika_syntax.specs.declared.keyword.Keyword.TheVariants as keywords
use Rattle.koika_syntax.specs.declared.symbol.Symbol.TheVariants as symbols
use Rattle.koika_syntax.specs.declared.tree.Arm.{Arm}
use Rattle.koika_syntax.specs.declared.tree.Block.{Block}
use Rattle.koika_syntax.specs.declared.tree.Expression.{Expression}
use Rattle.koika_syntax.specs.declared.tree.Statement.{Statement}
use Rattle.koika_parse.specs.inner.Expected.{One, Part, StandAt, Then, first, Any, Takes}
use Rattle.koika_parse.specs.inner.ExpressionWords.{OneBlock, Free, LevelWord, LetWord, ElseWord, ConditionalWord, InsideWord, brace_follows}
use Rattle.koika_parse.specs.inner.Parts.{IsArm, IsFieldValue, IsStatement}
use Rattle.koika_parse.specs.inner.Reading.{next}
use Rattle.koika_parse.specs.declared.cursor.Cursor.{Cursor}
use Rattle.koika_parse.specs.declared.source.Source.{Source}
use Rattle.koika_parse.proofs.Expected.{Language, Lookahead, same_first, Empty, Apart, Goes, start, starts, goes_as}
use Rattle.koika_parse.proofs.Expected.{Has, Kept, Within, begin, has_within, kept, next_part, same_again}
use Rattle.koika_parse.proofs.Expected.{same_of, same_one, same_part, same_then, some_one, some_then, stand_append}
use Rattle.koika_parse.proofs.Expected.{stand_split}
use Rattle.koika_parse.proofs.Rows.{the_first, the_second, first_one}
use Rattle.koika_parse.proofs.Words.{word_word}
use Rattle.koika_parse.proofs.ExpressionWords.{OneExpression, ArmWord, arm_word, BlockWord, block_word, FieldValueWord, field_value_word, StatementWord, statement_word, expression_split}
use Rattle.koika_parse.proofs.ChainWords.{begins, chain_begins, other_token}
use Rattle.koika_parse.proofs.PrimaryWords.{conditional_first, no_expression, some_field_value_word}

abbrev pub OneArm : Language
OneArm = Part IsArm arm_leaves

some_arm_word : Has ArmWord
some_arm_word = some_then (some_one (keyword keywords.If)) (some_then (some_level 1 (omega arith)) some_block)

some_arm : Has OneArm
some_arm = has_within arm_within some_arm_word

abbrev no_else : Has ElseWord
no_else = ([], ([], None, All-nil IsArm, tt, refl))

some_conditional : Has ConditionalWord
some_conditional = some_then some_arm no_else

abbrev no_inside : Has InsideWord
no_inside = ([], ([], None, All-nil IsStatement, tt, refl))

some_let : Has LetWord
some_let = some_then (some_one (keyword keywords.Let)) (some_then some_name (some_then (some_one (symbol symbols.Equals)) (some_then some_expression (some_one (symbol symbols.Semicolon)))))

-- an expression by the next token
expression_parts : {source : Source} {cursor : Cursor} {Follow : Lookahead} → Goes source cursor cursor OneExpression Follow (λ u. LevelWord 1 u ⊎ ConditionalWord u)
expression_parts = start expression_split (let e = some_level 1 (omega arith) in (e.0, inl e.1)) expression_within

pub expression_if : {source : Source} {cursor : Cursor} {Follow : Lookahead} → next source cursor ≡ Some (keyword keywords.If) → Goes source cursor cursor OneExpression Follow ConditionalWord
expression_if at =
    the_second expression_parts
    (λ r v chain behind same. other_token v (keyword keywords.If) (chain_begins 1 (omega arith) (omega arith) r chain) (same ∙ at) (omega arith))
    some_conditional

pub expression_chain : {source : Source} {cursor : Cursor} {Follow : Lookahead} → next source cursor ≢ Some (keyword keywords.If) → Goes source cursor cursor OneExpression Follow (LevelWord 1)
expression_chain other = the_first expression_parts (λ r v conditional behind same. other (sym same ∙ conditional_first r v conditional)) (some_level 1 (omega arith))

pub expression_start : {source : Source} {cursor : Cursor} {Follow : Lookahead} → Goes source cursor cursor OneExpression Follow OneExpression
expression_start = begin OneExpression some_expression

pub arm_start : {source : Source} {cursor : Cursor} {Follow : Lookahead} → Goes source cursor cursor OneArm Follow ArmWord
arm_start = starts ArmWord arm_word some_arm_word arm_within

pub block_start : {source : Source} {cursor : Cursor} {Follow : Lookahead} → Goes source cursor cursor OneBlock Follow BlockWord
block_start = starts BlockWord block_word (some_then (some_one (symbol symbols.LeftBrace)) (some_then no_inside (some_one (symbol symbols.RightBrace)))) block_within

pub field_value_start : {source : Source} {cursor : Cursor} {Follow : Lookahead} → Goes source cursor cursor (Part IsFieldValue field_value_leaves) Follow FieldValueWord
field_value_start = starts FieldValueWord field_value_word some_field_value_word field_value_within

pub let_start : {source : Source} {cursor : Cursor} {Follow : Lookahead} → Goes source cursor cursor LetWord Follow LetWord
let_start = begin LetWord some_let

block_first : (r v : List Leaf) → OneBlock r → first (r ++ v) ≡ Some (symbol symbols.LeftBrace)
block_first r v part = first_one (symbol symbols.LeftBrace) (Then InsideWord (One (symbol symbols.RightBrace))) r v (subst BlockWord (sym part.2) (block_word part.0 part.1))

arm_first : (r v : List Leaf) → OneArm r → first (r ++ v) ≡ Some (keyword keywords.If)
arm_first r v part = first_one (keyword keywords.If) (Then (LevelWord 1) OneBlock) r v (subst ArmWord (sym part.2) (arm_word part.0 part.1))

arm_first_then : (r v : List Leaf) → Then OneArm ElseWord r → first (r ++ v) ≡ Some (keyword keywords.If)
arm_first_then r v both = same_first v both.4 ∙ ap first (append_assoc both.0 both.1 v) ∙ arm_first both.0 (both.1 ++ v) both.2

-- a block stands behind a condition
pub before_block : (k : ℕ) (Follow : Lookahead) → Apart OneBlock Follow (Free k)
before_block k Follow q v part behind = subst (Free k) (sym (block_first q v part)) tt

-- what stands behind `else`
abbrev pub ElseTail : Language
ElseTail u = Then OneArm ElseWord u ⊎ OneBlock u

abbrev ElseCases : Language
ElseCases r = Empty r ⊎ Then (One (keyword keywords.Else)) ElseTail r

else_cases : (r : List Leaf) → ElseWord r → ElseCases r
else_cases r found = subst ElseCases (sym found.4) (of found.0 found.1 found.2 found.3)
  where
    of : (arms : List Arm) (otherwise : Option Block) → All IsArm arms → IfSome otherwise IsBlock →
        ElseCases (each_after (word keywords.Else) (map arm_leaves arms) ++ last_leaves otherwise (λ block. word keywords.Else ++ block_leaves block))
    of [] None all last = inl refl
    of [] (Some block) all last = inr (word keywords.Else, block_leaves block, word_word keywords.Else, inr (block, last, refl), refl)
    of (arm ∷ arms) otherwise all last =
        let more = each_after (word keywords.Else) (map arm_leaves arms) in
        let end = last_leaves otherwise (λ block. word keywords.Else ++ block_leaves block) in
        inr (
          word keywords.Else,
          arm_leaves arm ++ more ++ end,
          word_word keywords.Else,
          inl (
            arm_leaves arm,
            more ++ end,
            (arm, All-head IsArm arm arms all, refl),
            (arms, otherwise, All-tail IsArm arm arms all, last, refl),
            append_assoc (arm_leaves arm) more end,
          ),
          refl,
        )

else_within : Within ElseCases ElseWord
else_within q (inl empty) = kept q [] no_else.1 (same_of (sym empty))
else_within q (inr both) = of both.3
  where
    of : ElseTail both.1 → Kept ElseWord q
    of (inr last) =
        kept q (word keywords.Else ++ block_leaves last.0) ([], Some last.0, All-nil IsArm, last.1, refl)
        (same_then (word keywords.Else) (block_leaves last.0) both (same_one both.2) (same_part last))
    of (inl more) =
        let arm = more.2.0 in
        let arms = more.3.0 in
        let otherwise = more.3.1 in
        let rest = each_after (word keywords.Else) (map arm_leaves arms) in
        let end = last_leaves otherwise (λ block. word keywords.Else ++ block_leaves block) in
        let whole = each_after (word keywords.Else) (map arm_leaves (arm ∷ arms)) ++ end in
        let front = word keywords.Else ++ arm_leaves arm in
        let behind = same_then (arm_leaves arm) (rest ++ end) more (same_part more.2) (same_of (sym more.3.4)) in
        kept q whole (arm ∷ arms, otherwise, All-cons IsArm arm arms more.2.1 more.3.2, more.3.3, refl)
        (same_again whole (front ++ (rest ++ end)) q (same_of (append_assoc front rest end))
        (same_then (word keywords.Else) (arm_leaves arm ++ (rest ++ end)) both (same_one both.2) behind))

else_no_follow : (next : Option Terminal) → Free 0 next → next ≡ Some (keyword keywords.Else) → ⊥
else_no_follow next free at = let less : 0 < 0 = subst (Free 0) at free in omega (arith, less)

pub conditional_start : {source : Source} {cursor : Cursor} {Follow : Lookahead} → Goes source cursor cursor ConditionalWord Follow ConditionalWord
conditional_start = begin ConditionalWord some_conditional

-- what is left of an `if`, and of what stands between the brackets of a block
abbrev pub BranchesGo : Source → (old new : Cursor) → Language → Type 0
BranchesGo source old new Rest = Goes source old new ConditionalWord (Free 0) Rest

abbrev pub BracesGo : Source → (old new : Cursor) → Language → Type 0
BracesGo source old new Rest = Goes source old new InsideWord brace_follows Rest

-- arms have been read, or statements, and more may follow
abbrev pub ElseGo : Source → (old new : Cursor) → Type 0
ElseGo source old new = BranchesGo source old new ElseWord

abbrev pub InsideGo : Source → (old new : Cursor) → Type 0
InsideGo source old new = BracesGo source old new InsideWord

-- at `else`, an arm more or the last block; elsewhere none
else_split : {source : Source} {old new : Cursor} → ElseGo source old new → BranchesGo source old new ElseCases
else_split go = goes_as go else_cases ([], inl refl) else_within

pub else_at :
    {source : Source} {old new : Cursor} → next source new ≡ Some (keyword keywords.Else) →
    ElseGo source old new → BranchesGo source old new (Then (One (keyword keywords.Else)) ElseTail)
else_at {source} {old} {new} at go = the_second (else_split go) (λ r v empty behind same. else_no_follow (next source new) (subst (Free 0) (same_first v (sym empty) ∙ same) behind) at)
    (some_then (some_one (keyword keywords.Else)) (some_block.0, inr some_block.1))

pub else_end : {source : Source} {old new : Cursor} → next source new ≢ Some (keyword keywords.Else) → ElseGo source old new → BranchesGo source old new Empty
else_end other go = the_first (else_split go) (λ r v more behind same. other (sym same ∙ first_one (keyword keywords.Else) ElseTail r v more)) ([], refl)

if_or_brace : Some (keyword keywords.If) ≡ Some (symbol symbols.LeftBrace) → ⊥
if_or_brace e = cc e

pub else_arm : {source : Source} {old new : Cursor} → next source new ≡ Some (keyword keywords.If) → BranchesGo source old new ElseTail → BranchesGo source old new (Then OneArm ElseWord)
else_arm at goes = the_first goes (λ r v block behind same. if_or_brace (sym at ∙ sym same ∙ block_first r v block)) (some_then some_arm no_else)

pub else_block : {source : Source} {old new : Cursor} → next source new ≢ Some (keyword keywords.If) → BranchesGo source old new ElseTail → BranchesGo source old new OneBlock
else_block other goes = the_second goes (λ r v both behind same. other (sym same ∙ arm_first_then r v both)) some_block

-- what stands behind an expression in a block
abbrev pub AfterWord : Language
AfterWord u = Empty u ⊎ Then (One (symbol symbols.Semicolon)) InsideWord u

abbrev pub MoreInside : Language
MoreInside u = Then LetWord InsideWord u ⊎ Then OneExpression AfterWord u

inside_cases : (r : List Leaf) → InsideWord r → Empty r ⊎ MoreInside r
inside_cases r found = subst (λ r. Empty r ⊎ MoreInside r) (sym found.4) (of found.0 found.1 found.2 found.3)
  where
    stated : (a rest : List Leaf) → StatementWord a → InsideWord rest → MoreInside (a ++ rest)
    stated a rest (inl binding) more = inl (a, rest, binding, more, refl)
    stated a rest (inr both) more = inr (both.0, both.1 ++ rest, both.2, inr (both.1, rest, both.3, more, refl), ap (λ l. l ++ rest) both.4 ∙ append_assoc both.0 both.1 rest)

    of : (statements : List Statement) (value : Option Expression) → All IsStatement statements → IfSome value IsExpression →
        Empty (flat_map statement_leaves statements ++ last_leaves value expression_leaves) ⊎ MoreInside (flat_map statement_leaves statements ++ last_leaves value expression_leaves)
    of [] None all last = inl refl
    of [] (Some e) all last = inr (inr (expression_leaves e, [], (e, last, refl), inl refl, sym (append-nil (expression_leaves e))))
    of (s ∷ statements) value all last =
        let more = flat_map statement_leaves statements in
        let end = last_leaves value expression_leaves in
        inr (subst MoreInside (sym (append_assoc (statement_leaves s) more end))
        (stated (statement_leaves s) (more ++ end) (statement_word s (All-head IsStatement s statements all))
        (statements, value, All-tail IsStatement s statements all, last, refl)))

-- a statement in front of what stands in a block
statement_front : (q a rest : List Leaf) → q ≡ a ++ rest → Kept (Part IsStatement statement_leaves) a → InsideWord rest → Kept InsideWord q
statement_front q a rest split found more spots stand =
    let cut = stand_split a rest spots (subst (λ l. StandAt l spots) split stand) in
    let first = found cut.0 cut.2 in
    let s = first.1.0 in
    let statements = more.0 in
    let behind = flat_map statement_leaves statements in
    let end = last_leaves more.1 expression_leaves in
    let stands = stand_append (statement_leaves s) (behind ++ end) cut.0 cut.1 (subst (λ l. StandAt l cut.0) first.1.2 first.2) (subst (λ l. StandAt l cut.1) more.4 cut.3) in (
      flat_map statement_leaves (s ∷ statements) ++ end,
      (s ∷ statements, more.1, All-cons IsStatement s statements first.1.1 more.2, more.3, refl),
      subst (λ l. StandAt l spots) (sym (append_assoc (statement_leaves s) behind end)) (subst (StandAt (statement_leaves s ++ (behind ++ end))) (sym cut.4) stands),
    )

inside_within : Within (λ r. Empty r ⊎ MoreInside r) InsideWord
inside_within q (inl empty) = kept q [] no_inside.1 (same_of (sym empty))
inside_within q (inr (inl both)) = statement_front q both.0 both.1 both.4 (let_within both.0 both.2) both.3
inside_within q (inr (inr both)) = of both.3
  where
    of : AfterWord both.1 → Kept InsideWord q
    of (inl empty) =
        kept q (expression_leaves both.2.0) ([], Some both.2.0, All-nil IsStatement, both.2.1, refl)
        (same_of (sym (both.4 ∙ ap (λ t. both.0 ++ t) empty ∙ append-nil both.0 ∙ both.2.2)))
    of (inr more) =
        let split = both.4 ∙ ap (λ t. both.0 ++ t) more.4 ∙ sym (append_assoc both.0 more.0 more.1) in
        statement_front q (both.0 ++ more.0) more.1 split (do_within (both.0 ++ more.0) (both.0, more.0, both.2, more.2, refl)) more.3

pub inside_start : {source : Source} {cursor : Cursor} → InsideGo source cursor cursor
inside_start = begin InsideWord no_inside

inside_split : {source : Source} {old new : Cursor} → InsideGo source old new → BracesGo source old new (λ r. Empty r ⊎ MoreInside r)
inside_split go = goes_as go inside_cases ([], inl refl) inside_within

let_or_brace : Some (keyword keywords.Let) ≡ Some (symbol symbols.RightBrace) → ⊥
let_or_brace e = cc e

let_first : (r v : List Leaf) → Then LetWord InsideWord r → first (r ++ v) ≡ Some (keyword keywords.Let)
let_first r v both = same_first v both.4 ∙ ap first (append_assoc both.0 both.1 v) ∙ first_one (keyword keywords.Let) _ both.0 (both.1 ++ v) both.2

expressed :
    (r v : List Leaf) (terminal : Terminal) → Then OneExpression AfterWord r →
    first (r ++ v) ≡ Some terminal → begins terminal ≡ 0 → Some terminal ≢ Some (keyword keywords.If) → ⊥
expressed r v terminal both at none other = no_expression both.0 (both.1 ++ v) terminal both.2 (ap first (sym (append_assoc both.0 both.1 v)) ∙ same_first v (sym both.4) ∙ at) none other

-- at the closing bracket, nothing; elsewhere a statement or an expression
pub inside_end : {source : Source} {old new : Cursor} → next source new ≡ Some (symbol symbols.RightBrace) → InsideGo source old new → BracesGo source old new Empty
inside_end {source} {old} {new} at go = the_first (inside_split go) (λ r v more behind same. of r v more (same ∙ at)) ([], refl)
  where
    of : (r v : List Leaf) → MoreInside r → first (r ++ v) ≡ Some (symbol symbols.RightBrace) → ⊥
    of r v (inl both) at = let_or_brace (sym (let_first r v both) ∙ at)
    of r v (inr both) at = expressed r v (symbol symbols.RightBrace) both at refl (λ e. cc e)

inside_more : {source : Source} {old new : Cursor} → next source new ≢ Some (symbol symbols.RightBrace) → InsideGo source old new → BracesGo source old new MoreInside
inside_more other go = the_second (inside_split go) (λ r v empty behind same. other (sym same ∙ same_first v empty ∙ behind)) (let e = some_then some_expression ([], inl refl) in (e.0, inr e.1))

pub inside_let : {source : Source} {old new : Cursor} → next source new ≢ Some (symbol symbols.RightBrace) → next source new ≡ Some (keyword keywords.Let) → InsideGo source old new →
    BracesGo source old new (Then LetWord InsideWord)
inside_let other at go = the_first (inside_more other go) (λ r v both behind same. expressed r v (keyword keywords.Let) both (same ∙ at) refl (λ e. cc e)) (some_then some_let no_inside)

pub inside_expression : {source : Source} {old new : Cursor} → next source new ≢ Some (symbol symbols.RightBrace) → next source new ≢ Some (keyword keywords.Let) → InsideGo source old new →
    BracesGo source old new (Then OneExpression AfterWord)
inside_expression other no_let go = the_second (inside_more other go) (λ r v both behind same. no_let (sym same ∙ let_first r v both)) (some_then some_expression ([], inl refl))

brace_or_semicolon : Some (symbol symbols.RightBrace) ≡ Some (symbol symbols.Semicolon) → ⊥
brace_or_semicolon e = cc e

-- an expression in a block has a semicolon or the closing bracket behind it
pub after_apart : Apart AfterWord brace_follows (Free 0)
after_apart q v (inl empty) behind = subst (Free 0) (sym (same_first v empty ∙ behind)) tt
after_apart q v (inr both) behind = subst (Free 0) (sym (first_one (symbol symbols.Semicolon) InsideWord q v both)) tt

pub after_at : {source : Source} {old new : Cursor} → next source new ≡ Some (symbol symbols.Semicolon) → BracesGo source old new AfterWord →
    BracesGo source old new (Then (One (symbol symbols.Semicolon)) InsideWord)
after_at at goes = the_second goes (λ r v empty behind same. brace_or_semicolon (sym behind ∙ same_first v (sym empty) ∙ same ∙ at))
    (some_then (some_one (symbol symbols.Semicolon)) no_inside)

pub after_end : {source : Source} {old new : Cursor} → next source new ≢ Some (symbol symbols.Semicolon) → BracesGo source old new AfterWord → BracesGo source old new Empty
after_end other goes = the_first goes (λ r v both behind same. other (sym same ∙ first_one (symbol symbols.Semicolon) InsideWord r v both)) ([], refl)
