-- A tree of the grammar with the tokens of the pipeline design: part by part, the leaves of each spelled out. Its places
-- are all 0, since what is read of the text has its own.
use Rattle.std.proofs.Common.{◌≡◌, ℕ, zero, suc, ◌+◌, ◌<◌, ◌≤◌, ◌^◌, Option, None, Some, List, [], ◌∷◌, ◌++◌, length, map, codes, decimal, refl, sym, ap, ap₂, ◌∙◌, subst, arith, append_assoc, append-nil, lit<}
use Rattle.std.specs.List.{All, flat_map}
use Rattle.std.proofs.lemmas.List.{map-append}
use Rattle.std.proofs.lemmas.List.Elements.{All-append, All-cons, All-nil}
use Rattle.std.proofs.lemmas.Grind.{flat_map-append}
use Rattle.kw_bits.specs.BitVector.{IsBitVector}
use Rattle.koika_syntax.specs.Grammar.{IsBlock, IsDeclaration, IsDesign, IsName, block_leaves, declaration_leaves, level, level_of, rule_leaves, scheduler_leaves, tree_leaves}
use Rattle.koika_syntax.specs.inner.Grammar.{arm_leaves, operand_leaves, statement_leaves}
use Rattle.koika_syntax.specs.Tokens.{IsToken}
use Rattle.koika_syntax.specs.Tree.{Leaf, Terminal, binary_symbol, in_braces, in_parentheses, keyword, literal_leaves, name, name_leaves, placed, read_word, sign, symbol, width_leaves, with_between, word, write_word}
use Rattle.koika_syntax.specs.declared.keyword.Keyword.TheVariants as keywords
use Rattle.koika_syntax.specs.declared.operator.BinaryOperator.{BinaryOperator}
use Rattle.koika_syntax.specs.declared.operator.BinaryOperator.TheVariants as binary
use Rattle.koika_syntax.specs.declared.operator.UnaryOperator.TheVariants as unary
use Rattle.koika_syntax.specs.declared.symbol.Symbol.TheVariants as symbols
use Rattle.koika_syntax.specs.declared.token.TokenKind.TheVariants as kinds
use Rattle.koika_syntax.specs.declared.tree.Arm.{Arm, roll-Arm}
use Rattle.koika_syntax.specs.declared.tree.Block.{roll-Block}
use Rattle.koika_syntax.specs.declared.tree.Constant.TheViews as constant_views
use Rattle.koika_syntax.specs.declared.tree.Declaration.{Declaration}
use Rattle.koika_syntax.specs.declared.tree.Declaration.TheVariants as declarations
use Rattle.koika_syntax.specs.declared.tree.Expression.{Expression}
use Rattle.koika_syntax.specs.declared.tree.Expression.TheViews as views
use Rattle.koika_syntax.specs.declared.tree.Literal.{Literal}
use Rattle.koika_syntax.specs.declared.tree.Name.{Name}
use Rattle.koika_syntax.specs.declared.tree.Operand.{Operand, roll-Operand}
use Rattle.koika_syntax.specs.declared.tree.Prefix.{Prefix}
use Rattle.koika_syntax.specs.declared.tree.Scheduler.{roll-Scheduler}
use Rattle.koika_syntax.specs.declared.tree.Statement.{Statement}
use Rattle.koika_syntax.specs.declared.tree.Tree.{Tree}
use Rattle.koika_syntax.specs.declared.tree.TypeExpression.TheViews as type_views
use Rattle.koika_syntax.specs.declared.tree.Width.{Width}
use Rattle.koika_syntax.proofs.Leaves.{chain_expression, if_expression}
use Rattle.koika_parse.specs.inner.Expected.{Part}
use Rattle.koika_parse.specs.inner.ExpressionWords.{LevelWord}
use Rattle.koika_parse.specs.inner.Parts.{IsArm, IsOperandIn, IsStatement}
use Rattle.koika_parse.proofs.Calls.{all_of_map, leaves_abort, leaves_arm, leaves_block, leaves_constant_literal, leaves_do, leaves_literal, leaves_operand, leaves_read, leaves_scheduler, leaves_unary, leaves_width_type, leaves_write}
use Rattle.koika_parse.proofs.MadeExpressions.{looser}
use Rattle.koika_parse.proofs.Parts.{is_abort, is_arm, is_block, is_chain_of, is_constant_literal, is_do, is_if, is_literal, is_operand, is_operand_at, is_read, is_scheduler, is_unary, is_width_type, is_write, level_abort, level_chain_of, level_literal, level_read, level_unary, level_write}
use Rattle.koika_top.proofs.Generated.{ascending_of, d-fine, d0-fine, descending_of, drain-fine, drain_at, feed-fine, fill-fine, fill_rule, flag, move-fine, move_at, others, registers_at, schedule_begin, schedule_end, scheduled_at, tokens_at, total-fine, v-fine, v0-fine, word_of}

-- ---- expressions

abbrev named : List ℕ → Name
named bytes = record { text = bytes; place = 0 }

abbrev valued : ℕ → ℕ → Literal
valued width number = record { bits = record { width = width; number = number }; place = 0 }

-- `readP ( R )`
abbrev reading : ℕ → List ℕ → List Leaf
reading port register = placed (keyword (read_word port)) 0 ++ in_parentheses (name_leaves (named register))

read : (port : ℕ) (register : List ℕ) → port < 4 → IsToken kinds.Name register → LevelWord 12 (reading port register)
read port register low is = (views.made-Read 0 port (named register), (is_read 0 port (named register) (low, is), omega (arith, level_read 0 port (named register))), sym (leaves_read 0 port (named register)))

value : (width number : ℕ) → IsBitVector width number → LevelWord 12 (literal_leaves (valued width number))
value width number is = (views.made-Literal (valued width number), (is_literal (valued width number) is, omega (arith, level_literal (valued width number))), sym (leaves_literal (valued width number)))

-- two operands of an operator
joined : (k : ℕ) (operator : BinaryOperator) (a b : List Leaf) → level_of operator ≡ k → LevelWord (k + 1) a → LevelWord (k + 1) b → LevelWord k (a ++ (sign (binary_symbol operator) ++ b))
joined k operator a b at left right =
    let first : Expression = left.0 in
    let other : Operand = roll-Operand (record { operator = operator; operand = right.0 }) in
    let rest : List Operand = other ∷ [] in
    let above : k < level first = omega (arith, left.1.1) in
    let all : All (IsOperandIn k) rest = All-cons (IsOperandIn k) other [] (is_operand operator right.0 right.1.0, is_operand_at k operator right.0 at (omega (arith, right.1.1))) (All-nil (IsOperandIn k)) in
    let some : 0 < length rest = lit< tt in (
      views.Chain first rest,
      (is_chain_of k first rest some all above left.1.0, omega (arith, level_chain_of k first rest some all above)),
      sym (chain_expression first rest ∙ ap₂ (λ (x y : List Leaf). x ++ y) (sym left.2) (append-nil (operand_leaves other) ∙ leaves_operand operator right.0 ∙ ap (λ (t : List Leaf). sign (binary_symbol operator) ++ t) (sym right.2))),
    )

-- `~ e`
negation : Prefix
negation = record { operator = unary.Not; place = 0 }

negated : (a : List Leaf) → LevelWord 11 a → LevelWord 10 (placed (symbol symbols.Tilde) 0 ++ a)
unfolding negation
negated a made =
    let operand : Expression = made.0 in
    let prefixes : List Prefix = negation ∷ [] in (
      views.Unary prefixes operand,
      (is_unary prefixes operand made.1.0 (lit< tt, omega (arith, made.1.1)), omega (arith, level_unary prefixes operand)),
      sym (leaves_unary prefixes operand ∙ ap (λ (t : List Leaf). placed (symbol symbols.Tilde) 0 ++ t) (sym made.2)),
    )

-- `writeP ( R , e )`
abbrev writing : ℕ → List ℕ → List Leaf → List Leaf
writing port register a = placed (keyword (write_word port)) 0 ++ in_parentheses (name_leaves (named register) ++ sign symbols.Comma ++ a)

write : (port : ℕ) (register : List ℕ) (a : List Leaf) → port < 4 → IsToken kinds.Name register → LevelWord 0 a → LevelWord 12 (writing port register a)
write port register a low is made =
    let what : Expression = made.0 in (
      views.Write 0 port (named register) what,
      (is_write 0 port (named register) what made.1.0 (low, is), omega (arith, level_write 0 port (named register) what)),
      sym (leaves_write 0 port (named register) what ∙ ap (writing port register) (sym made.2)),
    )

-- ---- blocks

-- statements with these tokens
record Statements (u : List Leaf) : Type 0 where
  all : List Statement
  are : All IsStatement all
  leaves : flat_map statement_leaves all ≡ u

none : Statements []
none = record { all = []; are = All-nil IsStatement; leaves = refl }

one : (a : List Leaf) → LevelWord 0 a → Statements (a ++ sign symbols.Semicolon)
one a made =
    let s : Statement = views.made-Do made.0 in
    record {
      all = s ∷ [];
      are = All-cons IsStatement s [] (is_do made.0 made.1.0) (All-nil IsStatement);
      leaves = append-nil (statement_leaves s) ∙ leaves_do made.0 ∙ ap (λ (t : List Leaf). t ++ sign symbols.Semicolon) (sym made.2);
    }

more : (a u : List Leaf) → LevelWord 0 a → Statements u → Statements ((a ++ sign symbols.Semicolon) ++ u)
more a u made rest =
    let s : Statement = views.made-Do made.0 in
    record {
      all = s ∷ rest.all;
      are = All-cons IsStatement s rest.all (is_do made.0 made.1.0) rest.are;
      leaves = ap₂ (λ (x y : List Leaf). x ++ y) (leaves_do made.0 ∙ ap (λ (t : List Leaf). t ++ sign symbols.Semicolon) (sym made.2)) rest.leaves;
    }

abbrev BlockWord : List Leaf → Type 0
BlockWord = Part IsBlock block_leaves

block : (u a : List Leaf) → Statements u → LevelWord 0 a → BlockWord (placed (symbol symbols.LeftBrace) 0 ++ u ++ a ++ sign symbols.RightBrace)
block u a statements made =
    let last : Option Expression = Some made.0 in (
      roll-Block (record { place = 0; statements = statements.all; value = last }),
      is_block 0 statements.all last statements.are made.1.0,
      sym (leaves_block 0 statements.all last
          ∙ ap₂ (λ (x y : List Leaf). placed (symbol symbols.LeftBrace) 0 ++ x ++ y ++ sign symbols.RightBrace) (sym (all_of_map statement_leaves statements.all) ∙ statements.leaves) (sym made.2)),
    )

-- `{ abort }`
abbrev aborting : List Leaf
aborting = placed (symbol symbols.LeftBrace) 0 ++ [] ++ placed (keyword keywords.Abort) 0 ++ sign symbols.RightBrace

abort : BlockWord aborting
abort = block [] (placed (keyword keywords.Abort) 0) none (views.made-Abort 0, (is_abort 0 tt, omega (arith, level_abort 0)), sym (leaves_abort 0))

-- `if c b else d`
if_one : (arm : List Leaf) (block : List Leaf) → with_between (word keywords.Else) (arm ∷ []) ++ block ≡ arm ++ block
unfolding with_between
if_one arm block = ap (λ (t : List Leaf). t ++ block) (append-nil arm)

choice : (c b other : List Leaf) → LevelWord 1 c → BlockWord b → BlockWord other → LevelWord 0 ((placed (keyword keywords.If) 0 ++ c ++ b) ++ (word keywords.Else ++ other))
choice c b other condition body otherwise =
    let arm : Arm = roll-Arm (record { place = 0; condition = condition.0; body = body.0 }) in
    let arms : List Arm = arm ∷ [] in (
      views.If arms (Some otherwise.0),
      (is_if arms (Some otherwise.0) (All-cons IsArm arm [] (is_arm 0 condition.0 body.0 condition.1.0 (omega (arith, condition.1.1)) body.1) (All-nil IsArm)) otherwise.1 (lit< tt), omega arith),
      sym (if_expression arms (Some otherwise.0) ∙ if_one (arm_leaves arm) (word keywords.Else ++ block_leaves otherwise.0)
          ∙ ap₂ (λ (x y : List Leaf). x ++ (word keywords.Else ++ y)) (leaves_arm 0 condition.0 body.0 ∙ ap₂ (λ (x y : List Leaf). placed (keyword keywords.If) 0 ++ x ++ y) (sym condition.2) (sym body.2)) (sym otherwise.2)),
    )

-- ---- declarations

-- declarations with these tokens
pub record Declares (ts : List Terminal) : Type 0 where
  pub all : List Declaration
  pub are : All IsDeclaration all
  pub same : map (λ leaf. leaf.terminal) (flat_map declaration_leaves all) ≡ ts

nothing : Declares []
nothing = record { all = []; are = All-nil IsDeclaration; same = refl }

in_turn : (ts us : List Terminal) → Declares ts → Declares us → Declares (ts ++ us)
in_turn ts us a b = record {
  all = a.all ++ b.all;
  are = All-append IsDeclaration a.all b.all a.are b.are;
  same = ap (map (λ (leaf : Leaf). leaf.terminal)) (flat_map-append declaration_leaves a.all b.all)
      ∙ map-append (λ (leaf : Leaf). leaf.terminal) (flat_map declaration_leaves a.all) (flat_map declaration_leaves b.all)
      ∙ ap₂ (λ (x y : List Terminal). x ++ y) a.same b.same;
}

single : (u : List Leaf) → Part IsDeclaration declaration_leaves u → Declares (map (λ leaf. leaf.terminal) u)
single u part = record {
  all = part.0 ∷ [];
  are = All-cons IsDeclaration part.0 [] part.1 (All-nil IsDeclaration);
  same = ap (map (λ (leaf : Leaf). leaf.terminal)) (append-nil (declaration_leaves part.0) ∙ sym part.2);
}

-- `bits W`
abbrev sized : ℕ → Width
sized width = record { place = 0; number = record { value = width; place = 0 } }

-- `reg N : bits W = L ;`
abbrev register_of : List ℕ → ℕ → List Leaf
register_of bytes width =
    word keywords.Reg ++ name_leaves (named bytes) ++ sign symbols.Colon ++ width_leaves (sized width) ++ sign symbols.Equals ++ literal_leaves (valued width 0) ++ sign symbols.Semicolon

register : (bytes : List ℕ) (width : ℕ) → IsToken kinds.Name bytes → width < 2 ^ 32 → IsBitVector width 0 → Declares (map (λ leaf. leaf.terminal) (register_of bytes width))
register bytes width is low fits =
    single (register_of bytes width) (
      declarations.Register (named bytes) (type_views.made-Bits (sized width)) (constant_views.made-Literal (valued width 0)),
      (is, is_width_type (sized width) low, is_constant_literal (valued width 0) fits),
      ap₂ (λ (of first : List Leaf). word keywords.Reg ++ name_leaves (named bytes) ++ sign symbols.Colon ++ of ++ sign symbols.Equals ++ first ++ sign symbols.Semicolon) (sym (leaves_width_type (sized width))) (sym (leaves_constant_literal (valued width 0))),
    )

-- `rule N { e }`
abbrev rule_of : List ℕ → List Leaf → List Leaf
rule_of bytes a = word keywords.Rule ++ name_leaves (named bytes) ++ (placed (symbol symbols.LeftBrace) 0 ++ [] ++ a ++ sign symbols.RightBrace)

ruled : (bytes : List ℕ) (a : List Leaf) → IsToken kinds.Name bytes → LevelWord 0 a → Declares (map (λ leaf. leaf.terminal) (rule_of bytes a))
ruled bytes a is made =
    let body = block [] a none made in
    single (rule_of bytes a) (declarations.Rule (named bytes) body.0, (is, body.1), ap (λ (t : List Leaf). word keywords.Rule ++ name_leaves (named bytes) ++ t) body.2)

-- ---- the declarations of the pipeline

abbrev v_name : ℕ → List ℕ
v_name k = 118 ∷ decimal k

abbrev d_name : ℕ → List ℕ
d_name k = 100 ∷ decimal k

abbrev move_name : ℕ → List ℕ
move_name k = 109 ∷ 111 ∷ 118 ∷ 101 ∷ decimal k

-- a literal of 0 or 1, as an operand of `+` or as what is written
abbrev digit : (k width number : ℕ) → k ≤ 12 → IsBitVector width number → LevelWord k (literal_leaves (valued width number))
digit k width number low is = looser k 12 low (literal_leaves (valued width number)) (value width number is)

-- a register's value as an operand
abbrev held : (k port : ℕ) (register : List ℕ) → k ≤ 12 → port < 4 → IsToken kinds.Name register → LevelWord k (reading port register)
held k port register low below is = looser k 12 low (reading port register) (read port register below is)

abbrev put : (port : ℕ) (register : List ℕ) (a : List Leaf) → port < 4 → IsToken kinds.Name register → LevelWord 0 a → LevelWord 0 (writing port register a)
put port register a below is made = looser 0 12 (omega arith) (writing port register a) (write port register a below is made)

registers-declared : (k : ℕ) → k < 102 → Declares (registers_at k)
unfolding registers_at
registers-declared k most = in_turn _ _ (register (v_name k) 1 (v-fine k most) (lit< tt) (flag 0 (lit< tt))) (register (d_name k) 32 (d-fine k most) (lit< tt) (word_of 0 (lit< tt)))

others-declared : Declares others
unfolding others
others-declared = in_turn _ _ (register (codes "total") 32 total-fine (lit< tt) (word_of 0 (lit< tt))) (register (codes "feed") 32 feed-fine (lit< tt) (word_of 0 (lit< tt)))

-- `a + b` as what is written
sum : (a b : List Leaf) → LevelWord 9 a → LevelWord 9 b → LevelWord 0 (a ++ (sign symbols.Plus ++ b))
sum a b left right = looser 0 8 (omega arith) (a ++ (sign symbols.Plus ++ b)) (joined 8 binary.Add a b refl left right)

drain-declared : (k : ℕ) → k < 102 → Declares (drain_at k)
unfolding drain_at
drain-declared k most =
    let total = codes "total" in
    let empties = put 0 (v_name k) _ (lit< tt) (v-fine k most) (digit 0 1 0 (omega arith) (flag 0 (lit< tt))) in
    let adds = put 0 total _ (lit< tt) total-fine (sum _ _ (held 9 0 total (omega arith) (lit< tt) total-fine) (held 9 0 (d_name k) (omega arith) (lit< tt) (d-fine k most))) in
    ruled (codes "drain") _ drain-fine (choice _ _ _ (held 1 0 (v_name k) (omega arith) (lit< tt) (v-fine k most)) (block _ _ (one _ empties) adds) abort)

move-declared : (k : ℕ) → k < 101 → Declares (move_at k)
unfolding move_at
move-declared k most =
    let here : k < 102 = omega (arith, most) in
    let next : k + 1 < 102 = omega (arith, most) in
    let free = negated _ (held 11 1 (v_name (k + 1)) (omega arith) (lit< tt) (v-fine (k + 1) next)) in
    let condition = joined 3 binary.And _ _ refl (held 4 0 (v_name k) (omega arith) (lit< tt) (v-fine k here)) (looser 4 10 (omega arith) _ free) in
    let empties = put 0 (v_name k) _ (lit< tt) (v-fine k here) (digit 0 1 0 (omega arith) (flag 0 (lit< tt))) in
    let fills = put 1 (v_name (k + 1)) _ (lit< tt) (v-fine (k + 1) next) (digit 0 1 1 (omega arith) (flag 1 (lit< tt))) in
    let counts = sum _ _ (held 9 0 (d_name k) (omega arith) (lit< tt) (d-fine k here)) (digit 9 32 1 (omega arith) (word_of 1 (lit< tt))) in
    let passes = put 1 (d_name (k + 1)) _ (lit< tt) (d-fine (k + 1) next) counts in
    ruled (move_name k) _ (move-fine k here) (choice _ _ _ (looser 1 3 (omega arith) _ condition) (block _ _ (more _ _ empties (one _ fills)) passes) abort)

fill-declared : Declares fill_rule
unfolding fill_rule
fill-declared =
    let feed = codes "feed" in
    let free = negated _ (held 11 1 (codes "v0") (omega arith) (lit< tt) v0-fine) in
    let fills = put 1 (codes "v0") _ (lit< tt) v0-fine (digit 0 1 1 (omega arith) (flag 1 (lit< tt))) in
    let feeds = put 1 (codes "d0") _ (lit< tt) d0-fine (held 0 0 feed (omega arith) (lit< tt) feed-fine) in
    let counts = put 0 feed _ (lit< tt) feed-fine (sum _ _ (held 9 0 feed (omega arith) (lit< tt) feed-fine) (digit 9 32 1 (omega arith) (word_of 1 (lit< tt)))) in
    ruled (codes "fill") _ fill-fine (choice _ _ _ (looser 1 10 (omega arith) _ free) (block _ _ (more _ _ fills (one _ feeds)) counts) abort)

ascending-declared : (f : ℕ → List Terminal) (n : ℕ) → ((k : ℕ) → k < n → Declares (f k)) → Declares (ascending_of f n)
unfolding ascending_of
ascending-declared f zero each = nothing
ascending-declared f (suc n) each = in_turn (ascending_of f n) (f n) (ascending-declared f n (λ k below. each k (omega (arith, below)))) (each n (omega arith))

descending-declared : (f : ℕ → List Terminal) (n : ℕ) → ((k : ℕ) → k < n → Declares (f k)) → Declares (descending_of f n)
unfolding descending_of
descending-declared f zero each = nothing
descending-declared f (suc n) each = in_turn (f n) (descending_of f n) (each n (omega arith)) (descending-declared f n (λ k below. each k (omega (arith, below))))

-- ---- the schedule

-- rules in a row with these tokens
record Schedules (ts : List Terminal) : Type 0 where
  all : List Name
  are : All IsName all
  same : map (λ leaf. leaf.terminal) (flat_map rule_leaves all) ≡ ts

unscheduled : Schedules []
unscheduled = record { all = []; are = All-nil IsName; same = refl }

after : (ts us : List Terminal) → Schedules ts → Schedules us → Schedules (ts ++ us)
after ts us a b = record {
  all = a.all ++ b.all;
  are = All-append IsName a.all b.all a.are b.are;
  same = ap (map (λ (leaf : Leaf). leaf.terminal)) (flat_map-append rule_leaves a.all b.all)
      ∙ map-append (λ (leaf : Leaf). leaf.terminal) (flat_map rule_leaves a.all) (flat_map rule_leaves b.all)
      ∙ ap₂ (λ (x y : List Terminal). x ++ y) a.same b.same;
}

scheduled : (bytes : List ℕ) → IsToken kinds.Name bytes → Schedules (name bytes ∷ symbol symbols.Semicolon ∷ [])
scheduled bytes is = record { all = named bytes ∷ []; are = All-cons IsName (named bytes) [] is (All-nil IsName); same = refl }

moves-scheduled : (n : ℕ) → n < 102 → Schedules (descending_of scheduled_at n)
unfolding descending_of scheduled_at
moves-scheduled zero most = unscheduled
moves-scheduled (suc n) most = after (scheduled_at n) (descending_of scheduled_at n) (scheduled (move_name n) (move-fine n (omega (arith, most)))) (moves-scheduled n (omega (arith, most)))

-- ---- the tree

-- a tree of the grammar with these tokens
pub record HasTree (ts : List Terminal) : Type 0 where
  pub tree : Tree
  pub design : IsDesign tree
  pub same : map (λ leaf. leaf.terminal) (tree_leaves tree) ≡ ts

whole : (ts us : List Terminal) → Declares ts → Schedules us → HasTree ((ts ++ keyword keywords.Schedule ∷ []) ++ ((symbol symbols.LeftBrace ∷ us) ++ symbol symbols.RightBrace ∷ []))
whole ts us declared scheduled =
    let terminal = λ (leaf : Leaf). leaf.terminal in
    let ds = flat_map declaration_leaves declared.all in
    let rules = flat_map rule_leaves scheduled.all in
    let in_order = roll-Scheduler (record { rules = scheduled.all; last = None }) in
    record {
      tree = record { declarations = declared.all; schedule = 0; scheduler = in_order };
      design = record { declarations = declared.are; scheduler = is_scheduler scheduled.all None scheduled.are tt };
      same = map-append terminal (ds ++ placed (keyword keywords.Schedule) 0) (in_braces (scheduler_leaves in_order))
          ∙ ap₂ (λ (x y : List Terminal). x ++ y)
          (map-append terminal ds (placed (keyword keywords.Schedule) 0) ∙ ap (λ (x : List Terminal). x ++ keyword keywords.Schedule ∷ []) declared.same)
          (ap (λ (x : List Leaf). map terminal (in_braces x)) (leaves_scheduler scheduled.all None ∙ append-nil rules) ∙ map-append terminal (sign symbols.LeftBrace ++ rules) (sign symbols.RightBrace)
          ∙ ap (λ (x : List Terminal). (symbol symbols.LeftBrace ∷ x) ++ symbol symbols.RightBrace ∷ []) scheduled.same);
    }

-- the parts of the design in the other order of brackets
in_order : (ts ss : List Terminal) → (ts ++ keyword keywords.Schedule ∷ []) ++ ((symbol symbols.LeftBrace ∷ (((name (codes "drain") ∷ symbol symbols.Semicolon ∷ []) ++ ss) ++ name (codes "fill") ∷ symbol symbols.Semicolon ∷ [])) ++ symbol symbols.RightBrace ∷ []) ≡ ts ++ schedule_begin ++ ss ++ schedule_end
unfolding schedule_begin schedule_end
in_order ts ss =
    let ends = symbol symbols.RightBrace ∷ [] in
    let fills = name (codes "fill") ∷ symbol symbols.Semicolon ∷ [] in
    append_assoc ts (keyword keywords.Schedule ∷ []) _
    ∙ ap (λ (x : List Terminal). ts ++ (schedule_begin ++ x)) (append_assoc ss fills ends)
    ∙ sym (append_assoc ts schedule_begin (ss ++ schedule_end)) ∙ sym (append_assoc (ts ++ schedule_begin) ss schedule_end)

pub pipeline_tree : (stages : ℕ) → stages ≤ 100 → HasTree (tokens_at stages)
unfolding tokens_at
pipeline_tree stages most =
    let a = ascending-declared registers_at (stages + 1) (λ k below. registers-declared k (omega (arith, below, most))) in
    let b = in_turn _ _ a others-declared in
    let c = in_turn _ _ b (drain-declared stages (omega (arith, most))) in
    let e = in_turn _ _ c (descending-declared move_at stages (λ k below. move-declared k (omega (arith, below, most)))) in
    let f = in_turn _ _ e fill-declared in
    let s = after _ _ (after _ _ (scheduled (codes "drain") drain-fine) (moves-scheduled stages (omega (arith, most)))) (scheduled (codes "fill") fill-fine) in
    subst HasTree (in_order _ (descending_of scheduled_at stages)) (whole _ _ f s)
