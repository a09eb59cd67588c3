-- Types, constants, blocks and expressions are read as they are, with other places.
use Rattle.std.proofs.Common.{◌≡◌, ℕ, zero, suc, ◌<◌, ◌≤◌, Option, Some, None, IfSome, List, [], ◌∷◌, ◌++◌}
use Rattle.std.proofs.Common.{length, map, refl, ap, subst, sym, ◌∙◌, inl, inr, arith, append_assoc, append-nil}
use Rattle.std.specs.Prelude.{⊤, ◌⊎◌}
use Rattle.std.specs.List.{AllByRecursion, flat_map}
use Rattle.std.proofs.lemmas.List.Folds.{flat_map-map}
use Rattle.std.proofs.lemmas.List.Elements.{recursion_from_All}
use Rattle.koika_syntax.specs.Grammar.{IsType, IsConstant, IsBlock, type_leaves, constant_leaves, block_leaves, last_leaves, prefix_leaves, suffix_leaves, part_leaves, call_leaves}
use Rattle.koika_syntax.specs.Grammar.{IsOperandAt, level, level_of, level_of_chain, level_of_layer}
use Rattle.koika_syntax.specs.Tree.{Leaf, Terminal, symbol, keyword, sign, word, placed, name_leaves, number_leaves, commas, with_between, all_of, each_after, in_parentheses}
use Rattle.koika_syntax.specs.Tree.{unary_symbol, binary_symbol, comparison_word, extension_word, read_word, write_word}
use Rattle.koika_syntax.specs.declared.keyword.Keyword.TheVariants as keywords
use Rattle.koika_syntax.specs.declared.operator.BinaryOperator.{BinaryOperator}
use Rattle.koika_syntax.specs.declared.operator.BinaryOperator.TheVariants as binary
use Rattle.koika_syntax.specs.declared.operator.Extension.{Extension}
use Rattle.koika_syntax.specs.declared.operator.Extension.TheVariants as extensions
use Rattle.koika_syntax.specs.declared.operator.SignedComparison.{SignedComparison}
use Rattle.koika_syntax.specs.declared.operator.SignedComparison.TheVariants as comparisons
use Rattle.koika_syntax.specs.declared.operator.UnaryOperator.{UnaryOperator}
use Rattle.koika_syntax.specs.declared.operator.UnaryOperator.TheVariants as unaries
use Rattle.koika_syntax.specs.declared.symbol.Symbol.{Symbol}
use Rattle.koika_syntax.specs.declared.symbol.Symbol.TheVariants as symbols
use Rattle.koika_syntax.specs.declared.tree.Arm.{Arm}
use Rattle.koika_syntax.specs.declared.tree.Block.{Block}
use Rattle.koika_syntax.specs.declared.tree.Constant.{Constant, roll-Constant}
use Rattle.koika_syntax.specs.declared.tree.Constant.TheOpen as constant
use Rattle.koika_syntax.specs.declared.tree.ConstantField.{ConstantField, roll-ConstantField}
use Rattle.koika_syntax.specs.declared.tree.Expression.{Expression, roll-Expression}
use Rattle.koika_syntax.specs.declared.tree.Expression.TheOpen as expression
use Rattle.koika_syntax.specs.declared.tree.FieldValue.{FieldValue, roll-FieldValue}
use Rattle.koika_syntax.specs.declared.tree.Name.{Name}
use Rattle.koika_syntax.specs.declared.tree.Number.{Number}
use Rattle.koika_syntax.specs.declared.tree.Operand.{Operand, out-Operand, roll-Operand}
use Rattle.koika_syntax.specs.declared.tree.Prefix.{Prefix}
use Rattle.koika_syntax.specs.declared.tree.Statement.{Statement}
use Rattle.koika_syntax.specs.declared.tree.Suffix.{Suffix}
use Rattle.koika_syntax.specs.declared.tree.Suffix.TheVariants as suffixes
use Rattle.koika_syntax.specs.declared.tree.TypeExpression.{TypeExpression}
use Rattle.koika_syntax.specs.declared.tree.TypeExpression.TheOpen as type_expression
use Rattle.koika_syntax.specs.declared.tree.UpdatedPart.{UpdatedPart}
use Rattle.koika_syntax.specs.declared.tree.UpdatedPart.TheVariants as parts
use Rattle.koika_syntax.specs.inner.Grammar.{IsExpression, constant_field_leaves, expression_leaves, statement_leaves, arm_leaves, field_value_leaves, operand_leaves}
use Rattle.koika_parse.specs.Places.{moved_name, moved_number, moved_type, moved_constant, moved_block, moved_prefix, moved_suffix, moved_part}
use Rattle.koika_parse.specs.inner.Parts.{IsConstantField, IsStatement, IsArm, IsFieldValue, IsOperand, IsOperandIn}
use Rattle.koika_parse.proofs.Layers.{Such, of_leaves, type_kind, type_grown, type_layer, type_leaves_by, constant_kind, constant_grown, constant_layer, constant_leaves_by}
use Rattle.koika_parse.proofs.Layers.{constant_field_kind, constant_field_grown, constant_field_leaves_by}
use Rattle.koika_parse.proofs.Layers.{expression_kind, expression_grown, expression_layer, expression_leaves_by, statement_kind, statement_grown, statement_layer, statement_leaves_by}
use Rattle.koika_parse.proofs.Layers.{arm_kind, arm_grown, arm_leaves_by, block_kind, block_grown, block_layer, block_leaves_by}
use Rattle.koika_parse.proofs.Layers.{field_value_kind, field_value_grown, field_value_leaves_by, operand_kind, operand_grown, operand_leaves_by}
use Rattle.koika_parse.proofs.UnambiguousGrammar.{Reader, grip, give, on, then, phrase, a_type, a_constant, an_expression, some_prefixes, block_parts, if_branches, grammar}
use Rattle.koika_parse.proofs.UnambiguousGrammar.{separated, type_at, constant_at, field_of, after_colons, made_block, block_at, arm, branch_at, if_at, words1, words2, words3}
use Rattle.koika_parse.proofs.UnambiguousGrammar.{part_at, named_at, primary_at, suffix_at, postfixed, postfix, prefix_at, more_prefixes, prefixed, unary, operand_at, chained, chain, level1}
use Rattle.koika_parse.proofs.UnambiguousReaders.{Reads, Refuses, Begins, Front, grouped, reads_by, refuses_then, reads_give, reads_placed, reads_sign, reads_skip, reads_then, reads_closed}
use Rattle.koika_parse.proofs.UnambiguousReaders.{reads_freely, reads_map, reads_or, reads_other}
use Rattle.koika_parse.proofs.UnambiguousReaders.{peek_here, peek_past, front_many, reads_many, reads_alone, reads_separated, reads_phrase, first_placed, first_sign, shorter, looser}
use Rattle.koika_parse.proofs.UnambiguousLevels.{Each, by_layers, firsts, moved_constant_field, type_becomes, type_moved_by, constant_becomes, constant_moved_by, constant_field_moved_by}
use Rattle.koika_parse.proofs.UnambiguousLevels.{moved_expression, moved_statement, moved_arm, moved_field_value, moved_operand}
use Rattle.koika_parse.proofs.UnambiguousLevels.{expression_becomes, expression_moved_by, statement_becomes, statement_moved_by}
use Rattle.koika_parse.proofs.UnambiguousLevels.{arm_becomes, arm_moved_by, block_becomes, block_moved_by, field_value_moved_by, operand_moved_by}

pub no_facts : {X : Type 0} (xs : List X) → AllByRecursion (λ x. ⊤) xs
no_facts [] = tt
no_facts (x ∷ xs) = (tt, no_facts xs)

module _ {at : ℕ → ℕ} {d : ℕ} where
  -- a struct after its name and `::`, and the elements of an array
  struct_reads : {n k : ℕ} {E F X : Type 0} {r : Reader F} (member : Name → X) (make : List F → ℕ → X) (leaves : E → List Leaf) (out : E → F) (Is : E → Type 0) →
      ((t : E) → Is t → Reads at d n r (leaves t) (out t) 1) → (ts : List E) → 0 < length ts → AllByRecursion Is ts → (close : ℕ) →
      Reads at d n (on (after_colons r member make)) (sign symbols.LeftBrace ++ commas (map leaves ts) ++ placed (symbol symbols.RightBrace) close) (make (map out ts) (at close)) k
  struct_reads member make leaves out Is claim ts some all close = reads_sign (λ q. reads_then (reads_separated leaves out Is claim ts some all) (omega arith) (reads_placed reads_give))

  -- parts with commas between them, and the token after them
  pub list_reads : {n k : ℕ} {E F X : Type 0} {r : Reader F} {next : List F → Reader X} {ms : List Leaf} {x : X} (s : Symbol) (leaves : E → List Leaf) (out : E → F) (Is : E → Type 0) →
      ((t : E) → Is t → Reads at d n r (leaves t) (out t) 1) → (ts : List E) → 0 < length ts → AllByRecursion Is ts → grip (Some (symbol s)) ≤ 0 → Reads at d n (next (map out ts)) ms x k →
      Reads at d n (then (separated r) (λ xs. on (λ t p. next xs))) (commas (map leaves ts) ++ (sign s ++ ms)) x k
  list_reads s leaves out Is claim ts some all closes more = reads_then (reads_separated leaves out Is claim ts some all) closes (reads_skip more)

-- a type, whatever follows
abbrev pub ReadsTypes : (ℕ → ℕ) → ℕ → Type 0
ReadsTypes at d = (t : TypeExpression) → IsType t → (k : ℕ) → Reads at d d (phrase a_type) (type_leaves t) (moved_type at t) k

abbrev pub ReadsConstants : (ℕ → ℕ) → ℕ → Type 0
ReadsConstants at d = (t : Constant) → IsConstant t → Reads at d d (phrase a_constant) (constant_leaves t) (moved_constant at t) 1

module _ {at : ℕ → ℕ} (d : ℕ) where
  type_reads : ReadsTypes at d → ReadsTypes at (suc d)
  type_reads types t is k =
      reads_phrase {s = a_type} (by_layers type_kind type_grown type_leaves_by (type_moved_by at) (λ _ l x. Reads at d (suc d) (on type_at) l x k) each t is)
    where
      each : Each type_kind type_layer (type_becomes at) (λ _ l x. Reads at d (suc d) (on type_at) l x k)
      each (type_expression.Bits width) is = reads_placed (reads_placed reads_give)
      each (type_expression.Named n) is = reads_placed reads_give
      each (type_expression.Array place element size) is =
          let semicolon = sign symbols.Semicolon in
          let close = sign symbols.RightBracket in
          let same = ap (λ l. l ++ close) (append_assoc (type_leaves element.0) semicolon (number_leaves size)) ∙ append_assoc (type_leaves element.0) (semicolon ++ number_leaves size) close in
          first_placed (grouped same (reads_freely (types element.0 element.1) (reads_skip (reads_placed (reads_skip reads_give)))))

  module _ (constants : ReadsConstants at d) where
    abbrev constant_field : Reader ConstantField
    constant_field = field_of (phrase a_constant) (λ n value. roll-ConstantField (record { name = n; value = value }))

    constant_field_reads : (t : ConstantField) → IsConstantField t → Reads at d d constant_field (constant_field_leaves t) (moved_constant_field at t) 1
    constant_field_reads = by_layers constant_field_kind constant_field_grown constant_field_leaves_by (constant_field_moved_by at)
        (λ _ l x. Reads at d d constant_field l x 1) (λ y is. reads_placed (reads_skip (reads_map (constants y.value.0 y.value.1))))

    constant_reads : ReadsConstants at (suc d)
    constant_reads t is =
        reads_phrase {s = a_constant} (by_layers constant_kind constant_grown constant_leaves_by (constant_moved_by at) (λ _ l x. Reads at d (suc d) (on constant_at) l x 1) each t is)
      where
        each : Each constant_kind constant_layer (constant_becomes at) (λ _ l x. Reads at d (suc d) (on constant_at) l x 1)
        each (constant.Literal l) is = reads_placed reads_give
        each (constant.Member of member) is = reads_placed (reads_skip (reads_placed reads_give))
        each (constant.Struct of fields close) is =
            first_placed (reads_skip (struct_reads (λ member. roll-Constant (constant.Member (moved_name at of) member))
            (λ fields close. roll-Constant (constant.Struct (moved_name at of) fields close)) constant_field_leaves (moved_constant_field at) IsConstantField constant_field_reads
            (map (λ e. e.0) fields) is.1 (firsts IsConstantField fields) close))
        each (constant.Array place elements) is =
            first_placed (list_reads symbols.RightBracket constant_leaves (moved_constant at) IsConstant constants (map (λ e. e.0) elements) is (firsts IsConstant elements)
            (omega arith) reads_give)

-- the parts of expressions: what is in a block, what is after the first arm of an `if`, and prefixes with their operand
abbrev pub moved_last : {X : Type 0} → (X → X) → Option X → Option X
moved_last moved None = None
moved_last moved (Some last) = Some (moved last)

abbrev pub inside_leaves : List Statement → Option Expression → List Leaf
inside_leaves ss value = all_of (map statement_leaves ss) ++ last_leaves value expression_leaves ++ sign symbols.RightBrace

abbrev branch_leaves : List Arm → Option Block → List Leaf
branch_leaves arms otherwise = each_after (word keywords.Else) (map arm_leaves arms) ++ last_leaves otherwise (λ block. word keywords.Else ++ block_leaves block)

abbrev pub ReadsExpressions : (ℕ → ℕ) → ℕ → Type 0
ReadsExpressions at d = (t : Expression) → IsExpression t → Reads at d d (phrase an_expression) (expression_leaves t) (moved_expression at t) 1

abbrev pub ReadsInside : (ℕ → ℕ) → ℕ → Type 0
ReadsInside at d =
    (ss : List Statement) → AllByRecursion IsStatement ss → (value : Option Expression) → IfSome value IsExpression → (k : ℕ) →
    Reads at d d (phrase block_parts) (inside_leaves ss value) (map (moved_statement at) ss, moved_last (moved_expression at) value) k

abbrev ReadsBranches : (ℕ → ℕ) → ℕ → Type 0
ReadsBranches at d =
    (arms : List Arm) → AllByRecursion IsArm arms → (otherwise : Option Block) → IfSome otherwise IsBlock →
    Reads at d d (phrase if_branches) (branch_leaves arms otherwise) (map (moved_arm at) arms, moved_last (moved_block at) otherwise) 1

abbrev ReadsPrefixes : (ℕ → ℕ) → ℕ → Type 0
ReadsPrefixes at d =
    (ps : List Prefix) (t : Expression) → IsExpression t → 10 < level t →
    Reads at d d (phrase some_prefixes) (flat_map prefix_leaves ps ++ expression_leaves t) (map (moved_prefix at) ps, moved_expression at t) 11

-- what no expression begins with
no_brace : (d : ℕ) → Refuses d (phrase an_expression) (symbol symbols.RightBrace)
no_brace zero = record { refuses = λ q items. refl }
no_brace (suc d) = record { refuses = λ q items. refl }

no_parenthesis : (d : ℕ) → Refuses d (phrase an_expression) (symbol symbols.RightParenthesis)
no_parenthesis zero = record { refuses = λ q items. refl }
no_parenthesis (suc d) = record { refuses = λ q items. refl }

no_binding : (d : ℕ) → Refuses d (phrase an_expression) (keyword keywords.Let)
no_binding zero = record { refuses = λ q items. refl }
no_binding (suc d) = record { refuses = λ q items. refl }

no_postfix : (d : ℕ) (o : UnaryOperator) → Refuses d postfix (symbol (unary_symbol o))
no_postfix d unaries.Not = record { refuses = λ q items. refl }
no_postfix d unaries.Negate = record { refuses = λ q items. refl }

-- a block begins with its bracket
pub front_block : (k : ℕ) (t : Block) → IsBlock t → Front 1 (block_leaves t) k
front_block k = of_leaves block_kind block_grown block_leaves_by (λ l. Front 1 l k) (λ y is. omega arith)

-- an arm begins with its `if`, which no chain begins with
first_if : (t : Arm) → IsArm t → (place : ℕ) × (ls : List Leaf) × (arm_leaves t ≡ placed (keyword keywords.If) place ++ ls)
first_if = of_leaves arm_kind arm_grown arm_leaves_by (λ l. (place : ℕ) × (ls : List Leaf) × (l ≡ placed (keyword keywords.If) place ++ ls)) (λ y is. (y.place, _, refl))

no_chain : {d : ℕ} → Refuses d level1 (keyword keywords.If)
no_chain = record { refuses = λ q items. refl }

-- levels
operator_level : (o : BinaryOperator) → (1 ≤ level_of o) × (level_of o ≤ 9)
operator_level binary.Or = (omega arith, omega arith)
operator_level _ = (omega arith, omega arith)

chain_level : (rest : List Operand) → 0 < length rest → (1 ≤ level_of_chain rest) × (level_of_chain rest ≤ 9)
chain_level [] some = absurd (omega (arith, some))
chain_level (o ∷ os) some = operator_level (out-Operand o).operator

operator_begins : (o : BinaryOperator) → grip (Some (symbol (binary_symbol o))) ≡ suc (suc (level_of o))
operator_begins binary.Or = refl
operator_begins _ = refl

split_level : (k l : ℕ) → k ≤ l → (suc k ≤ l) ⊎ (l ≡ k)
split_level k l le = grind (arith, le)

both_of : {X : Type 0} (P Q : X → Type 0) (xs : List X) → AllByRecursion P xs → AllByRecursion Q xs → AllByRecursion (λ x. P x × Q x) xs
both_of P Q [] p q = tt
both_of P Q (x ∷ xs) p q = ((p.0, q.0), both_of P Q xs p.1 q.1)

-- arguments of a keyword, with their closing bracket
commas_one : (x : List Leaf) → commas (x ∷ []) ++ sign symbols.RightParenthesis ≡ x ++ sign symbols.RightParenthesis
unfolding with_between
commas_one x = ap (λ l. l ++ sign symbols.RightParenthesis) (append-nil x)

commas_two : (x y : List Leaf) → commas (x ∷ y ∷ []) ++ sign symbols.RightParenthesis ≡ x ++ (sign symbols.Comma ++ (y ++ sign symbols.RightParenthesis))
unfolding with_between
commas_two x y = ap (λ l. (x ++ (sign symbols.Comma ++ l)) ++ sign symbols.RightParenthesis) (append-nil y) ∙ append_assoc x (sign symbols.Comma ++ y) (sign symbols.RightParenthesis)

commas_three : (x y z : List Leaf) → commas (x ∷ y ∷ z ∷ []) ++ sign symbols.RightParenthesis ≡ x ++ (sign symbols.Comma ++ (y ++ (sign symbols.Comma ++ (z ++ sign symbols.RightParenthesis))))
unfolding with_between
commas_three x y z =
    ap (λ l. (x ++ (sign symbols.Comma ++ (y ++ (sign symbols.Comma ++ l)))) ++ sign symbols.RightParenthesis) (append-nil z)
    ∙ append_assoc x (sign symbols.Comma ++ (y ++ (sign symbols.Comma ++ z))) (sign symbols.RightParenthesis)
    ∙ ap (λ l. x ++ (sign symbols.Comma ++ l)) (append_assoc y (sign symbols.Comma ++ z) (sign symbols.RightParenthesis))

module _ {at : ℕ → ℕ} {d : ℕ} where
  words1_reads : {n k : ℕ} {A : Type 0} {r : Reader A} {make : A → Expression} {x : List Leaf} {a : A} →
      Reads at d n r x a 1 → Reads at d n (words1 r make) (in_parentheses (commas (x ∷ []))) (make a) k
  words1_reads {x = x} h = reads_skip (grouped (commas_one x) (reads_then h (omega arith) (reads_skip reads_give)))

  words2_reads : {n k : ℕ} {A B : Type 0} {r : Reader A} {s : Reader B} {make : A → B → Expression} {x y : List Leaf} {a : A} {b : B} →
      Reads at d n r x a 1 → Reads at d n s y b 1 → Reads at d n (words2 r s make) (in_parentheses (commas (x ∷ y ∷ []))) (make a b) k
  words2_reads {x = x} {y = y} h h' =
      reads_skip (grouped (commas_two x y) (reads_then h (omega arith) (reads_skip (reads_then h' (omega arith) (reads_skip reads_give)))))

  words3_reads : {n k : ℕ} {A B C : Type 0} {r : Reader A} {s : Reader B} {t : Reader C} {make : A → B → C → Expression} {x y z : List Leaf} {a : A} {b : B} {c : C} →
      Reads at d n r x a 1 → Reads at d n s y b 1 → Reads at d n t z c 1 → Reads at d n (words3 r s t make) (in_parentheses (commas (x ∷ y ∷ z ∷ []))) (make a b c) k
  words3_reads {x = x} {y = y} {z = z} h h' h'' =
      reads_skip (grouped (commas_three x y z) (reads_then h (omega arith) (reads_skip (reads_then h' (omega arith) (reads_skip (reads_then h'' (omega arith) (reads_skip reads_give)))))))

  part_reads : {n k : ℕ} (part : UpdatedPart) → Reads at d n (on part_at) (part_leaves part) (moved_part at part) k
  part_reads (parts.Field n) = reads_placed reads_give
  part_reads (parts.Index index) = reads_placed reads_give

  suffix_reads : {n k : ℕ} (s : Suffix) → Reads at d n (on suffix_at) (suffix_leaves s) (moved_suffix at s) k
  suffix_reads (suffixes.Field n) = reads_sign (λ q. reads_placed reads_give)
  suffix_reads (suffixes.Index index) = reads_sign (λ q. reads_placed (reads_sign (λ q. reads_give)))
  suffix_reads (suffixes.Slice high low) = reads_sign (λ q. reads_placed (reads_sign (λ q. reads_placed (reads_skip reads_give))))

  prefix_reads : {n k : ℕ} {X : Type 0} (next : Prefix → Reader X) (o : UnaryOperator) (place : ℕ) {ls : List Leaf} {x : X} →
      Reads at d n (next (record { operator = o; place = at place })) ls x k → Reads at d (suc n) (on (prefix_at next)) (placed (symbol (unary_symbol o)) place ++ ls) x k
  prefix_reads next unaries.Not place h = first_placed h
  prefix_reads next unaries.Negate place h = first_placed h

  operand_reads : {n k : ℕ} {tighter : Reader Expression} (o : BinaryOperator) {ls : List Leaf} {x : Expression} →
      Reads at d n tighter ls x k → Reads at d n (on (operand_at tighter)) (sign (binary_symbol o) ++ ls) (roll-Operand (record { operator = o; operand = x })) k
  operand_reads binary.Or h = reads_sign (λ q. reads_map h)
  operand_reads _ h = reads_sign (λ q. reads_map h)

suffix_begins : (s : Suffix) → Begins 13 (suffix_leaves s)
suffix_begins (suffixes.Field n) = refl
suffix_begins (suffixes.Index index) = refl
suffix_begins (suffixes.Slice high low) = refl

-- a block, by a reader that reads one where it sees the bracket
module _ {at : ℕ → ℕ} (d : ℕ) (insides : ReadsInside at d) where
  module _ {X : Type 0} (f : Terminal → ℕ → Reader X) (make : Block → X)
      (same : (p : ℕ) → then (phrase block_parts) (λ parts. give (make (made_block p parts))) ≡ f (symbol symbols.LeftBrace) p) (k : ℕ) where
    abbrev ReadsBlock : block_kind.Layer → List Leaf → Block → Type 0
    ReadsBlock dl l x = Reads at d (suc d) (on f) l (make x) k

    of_value : (place : ℕ) (statements : List (Such IsStatement)) (value : Option (Such IsExpression)) →
        let y : block_kind.Open = record { place = place; statements = statements; value = value } in
        ReadsBlock (block_kind.closed y) (block_layer (block_kind.closed y)) (block_becomes at (block_kind.closed y))
    of_value place statements None =
        first_placed (reads_by (same (at place)) (reads_map (insides (map (λ e. e.0) statements) (firsts IsStatement statements) None tt k)))
    of_value place statements (Some value) =
        first_placed (reads_by (same (at place)) (reads_map (insides (map (λ e. e.0) statements) (firsts IsStatement statements) (Some value.0) value.1 k)))

    pub blocks_by : (t : Block) → IsBlock t → Reads at d (suc d) (on f) (block_leaves t) (make (moved_block at t)) k
    blocks_by = by_layers block_kind block_grown block_leaves_by (block_moved_by at) ReadsBlock (λ y is. of_value y.place y.statements y.value)

  pub block_reads : (t : Block) → IsBlock t → (k : ℕ) → Reads at d (suc d) (on block_at) (block_leaves t) (moved_block at t) k
  block_reads t is k = blocks_by block_at (λ b. b) (λ p. refl) k t is

module _ {at : ℕ → ℕ} (d : ℕ) (types : ReadsTypes at d) (expressions : ReadsExpressions at d) (insides : ReadsInside at d) (branched : ReadsBranches at d) (prefixes_of : ReadsPrefixes at d) where
  -- an arm, by a reader that reads one where it sees the `if`
  module _ {X : Type 0} (f : Terminal → ℕ → Reader X) (next : Arm → Reader X) (same : (p : ℕ) → then (arm p) next ≡ f (keyword keywords.If) p) where
    arms_by : (t : Arm) → IsArm t → (ms : List Leaf) (x : X) (k : ℕ) → Reads at d d (next (moved_arm at t)) ms x k → Reads at d (suc d) (on f) (arm_leaves t ++ ms) x k
    arms_by t is ms x k = by_layers arm_kind arm_grown arm_leaves_by (arm_moved_by at) (λ _ l a. Reads at d d (next a) ms x k → Reads at d (suc d) (on f) (l ++ ms) x k)
        (λ y is more.
        let body : (j : ℕ) → Reads at d d (arm (at y.place)) (expression_leaves y.condition.0 ++ block_leaves y.body.0) (arm_becomes at (arm_kind.closed y)) j =
        λ j. reads_then (expressions y.condition.0 y.condition.1) (front_block j y.body.0 y.body.1) (reads_map (shorter (block_reads d insides y.body.0 y.body.1 j))) in
        first_placed (reads_by (same (at y.place)) (reads_freely body more))) t is

  branch_reads : (arms : List Arm) → AllByRecursion IsArm arms → (otherwise : Option Block) → IfSome otherwise IsBlock →
      Reads at d (suc d) (grammar if_branches) (branch_leaves arms otherwise) (map (moved_arm at) arms, moved_last (moved_block at) otherwise) 1
  branch_reads [] all None is = peek_past (omega arith) reads_give
  branch_reads [] all (Some b) is = peek_here refl (first_sign (λ q. shorter (blocks_by d insides branch_at (λ b. ([], Some b)) (λ p. refl) 1 b is)))
  branch_reads (a ∷ arms) all otherwise is =
      let more = reads_map (branched arms all.1 otherwise is) in
      let same = append_assoc (arm_leaves a) (each_after (word keywords.Else) (map arm_leaves arms)) (last_leaves otherwise (λ block. word keywords.Else ++ block_leaves block)) in
      peek_here refl (first_sign (λ q. grouped same (shorter (arms_by branch_at _ (λ p. refl) a all.0 (branch_leaves arms otherwise) _ 1 more))))

  if_reads : (arms : List Arm) → 0 < length arms → AllByRecursion IsArm arms → (otherwise : Option Block) → IfSome otherwise IsBlock →
      Reads at d (suc d) (grammar an_expression) (with_between (word keywords.Else) (map arm_leaves arms) ++ last_leaves otherwise (λ block. word keywords.Else ++ block_leaves block))
      (roll-Expression (expression.If (map (moved_arm at) arms) (moved_last (moved_block at) otherwise))) 1
  unfolding with_between
  if_reads [] some all otherwise is = absurd (omega (arith, some))
  if_reads (a ∷ arms) some all otherwise is =
      let ms = branch_leaves arms otherwise in
      let front = first_if a all.0 in
      let same = append_assoc (arm_leaves a) (each_after (word keywords.Else) (map arm_leaves arms)) (last_leaves otherwise (λ block. word keywords.Else ++ block_leaves block)) in
      let begins = ap (λ l. l ++ ms) front.2 in
      grouped (same ∙ begins) (reads_other no_chain (grouped (sym begins) (arms_by if_at _ (λ p. refl) a all.0 ms _ 1 (reads_map (branched arms all.1 otherwise is)))))

  -- what is in a block
  statement_reads : (t : Statement) → IsStatement t → (ms : List Leaf) (y : List Statement × Option Expression) (k : ℕ) → Reads at d d (phrase block_parts) ms y k →
      Reads at d (suc d) (grammar block_parts) (statement_leaves t ++ ms) (moved_statement at t ∷ y.0, y.1) k
  statement_reads t is ms y k = by_layers statement_kind statement_grown statement_leaves_by (statement_moved_by at)
      (λ _ l x. Reads at d d (phrase block_parts) ms y k → Reads at d (suc d) (grammar block_parts) (l ++ ms) (x ∷ y.0, y.1) k) each t is
    where
      each : Each statement_kind statement_layer (statement_becomes at) (λ _ l x. Reads at d d (phrase block_parts) ms y k → Reads at d (suc d) (grammar block_parts) (l ++ ms) (x ∷ y.0, y.1) k)
      each (expression.Let n value) is more =
          reads_other (refuses_then (no_binding d)) (first_sign (λ q. reads_placed (reads_skip
          (grouped (append_assoc (expression_leaves value.0) (sign symbols.Semicolon) ms) (reads_then (expressions value.0 value.1) (omega arith) (reads_skip (reads_map more)))))))
      each (expression.Do value) is more =
          grouped (append_assoc (expression_leaves value.0) (sign symbols.Semicolon) ms) (reads_or (reads_closed (expressions value.0 value.1) (omega arith) (first_sign (λ q. reads_map more))))

  inside_reads : (ss : List Statement) → AllByRecursion IsStatement ss → (value : Option Expression) → IfSome value IsExpression → (k : ℕ) →
      Reads at d (suc d) (grammar block_parts) (inside_leaves ss value) (map (moved_statement at) ss, moved_last (moved_expression at) value) k
  inside_reads [] all None is k = reads_other (refuses_then (no_brace d)) (reads_sign (λ q. reads_give))
  inside_reads [] all (Some e) is k = reads_or (reads_closed (expressions e is) (omega arith) (reads_sign (λ q. reads_give)))
  inside_reads (s ∷ ss) all value is k =
      let rest = all_of (map statement_leaves ss) in
      let last = last_leaves value expression_leaves in
      let same = ap (λ l. l ++ sign symbols.RightBrace) (append_assoc (statement_leaves s) rest last) ∙ append_assoc (statement_leaves s) (rest ++ last) (sign symbols.RightBrace) in
      grouped same (statement_reads s all.0 (inside_leaves ss value) _ k (insides ss all.1 value is k))

  -- fields and primaries
  abbrev field_value : Reader FieldValue
  field_value = field_of (phrase an_expression) (λ n value. roll-FieldValue (record { name = n; value = value }))

  field_value_reads : (t : FieldValue) → IsFieldValue t → Reads at d d field_value (field_value_leaves t) (moved_field_value at t) 1
  field_value_reads = by_layers field_value_kind field_value_grown field_value_leaves_by (field_value_moved_by at)
      (λ _ l x. Reads at d d field_value l x 1) (λ y is. reads_placed (reads_skip (reads_map (expressions y.value.0 y.value.1))))

  arguments_reads : {k : ℕ} (called : Name) (ts : List Expression) → AllByRecursion IsExpression ts →
      Reads at d d (named_at called (symbol symbols.LeftParenthesis) 0) (commas (map expression_leaves ts) ++ sign symbols.RightParenthesis)
      (roll-Expression (expression.Call called (map (moved_expression at) ts))) k
  unfolding with_between
  arguments_reads called [] all = reads_other (refuses_then (refuses_then (no_parenthesis d))) (reads_skip reads_give)
  arguments_reads called (t ∷ ts) all =
      reads_or (list_reads symbols.RightParenthesis expression_leaves (moved_expression at) IsExpression expressions (t ∷ ts) (omega arith) all (omega arith) reads_give)

  abbrev Primary : Expression → List Leaf → ℕ → Type 0
  Primary x l k = Reads at d (suc d) (on primary_at) l x k

  abbrev read : (e : Such IsExpression) → Reads at d d (phrase an_expression) (expression_leaves e.0) (moved_expression at e.0) 1
  read e = expressions e.0 e.1

  read_reads : {k : ℕ} (place port : ℕ) (register : Name) → port < 4 →
      Primary (roll-Expression (expression.Read (at place) port (moved_name at register))) (call_leaves (placed (keyword (read_word port)) place) (name_leaves register ∷ [])) k
  read_reads place (suc (suc (suc (suc port)))) register below = absurd (omega (arith, below))
  read_reads place _ register below = first_placed (words1_reads (reads_placed reads_give))

  write_reads : {k : ℕ} (place port : ℕ) (register : Name) (e : Such IsExpression) → port < 4 →
      Primary (roll-Expression (expression.Write (at place) port (moved_name at register) (moved_expression at e.0)))
      (call_leaves (placed (keyword (write_word port)) place) (name_leaves register ∷ expression_leaves e.0 ∷ [])) k
  write_reads place (suc (suc (suc (suc port)))) register e below = absurd (omega (arith, below))
  write_reads place _ register e below = first_placed (words2_reads (reads_placed reads_give) (read e))

  extend_reads : {k : ℕ} (place : ℕ) (extension : Extension) (e : Such IsExpression) (width : Number) →
      Primary (roll-Expression (expression.Extend (at place) extension (moved_expression at e.0) (moved_number at width)))
      (call_leaves (placed (keyword (extension_word extension)) place) (expression_leaves e.0 ∷ number_leaves width ∷ [])) k
  extend_reads place extensions.Zero e width = first_placed (words2_reads (read e) (reads_placed reads_give))
  extend_reads place _ e width = first_placed (words2_reads (read e) (reads_placed reads_give))

  compare_reads : {k : ℕ} (place : ℕ) (comparison : SignedComparison) (e f : Such IsExpression) →
      Primary (roll-Expression (expression.Compare (at place) comparison (moved_expression at e.0) (moved_expression at f.0)))
      (call_leaves (placed (keyword (comparison_word comparison)) place) (expression_leaves e.0 ∷ expression_leaves f.0 ∷ [])) k
  compare_reads place comparisons.Less e f = first_placed (words2_reads (read e) (read f))
  compare_reads place _ e f = first_placed (words2_reads (read e) (read f))

  abbrev ReadsPrimary : expression_kind.Layer → List Leaf → Expression → Type 0
  ReadsPrimary dl l x = 12 ≤ level_of_layer dl → Reads at d (suc d) (on primary_at) l x 13

  primary_layer : Each expression_kind expression_layer (expression_becomes at) ReadsPrimary
  primary_layer (expression.If arms otherwise) is high = absurd (omega (arith, high))
  primary_layer (expression.Chain first rest) is high = absurd (omega (arith, high, (chain_level (map (λ e. e.0) rest) is.0).1))
  primary_layer (expression.Unary prefixes operand) is high = absurd (omega (arith, high))
  primary_layer (expression.Postfix whole suffixes) is high = absurd (omega (arith, high))
  primary_layer (expression.Literal l) is high = reads_placed reads_give
  primary_layer (expression.Name n) is high = reads_placed (peek_past (omega arith) reads_give)
  primary_layer (expression.Call called arguments) is high =
      first_placed (peek_here refl (reads_sign (λ q. arguments_reads (moved_name at called) (map (λ e. e.0) arguments) (firsts IsExpression arguments))))
  primary_layer (expression.Member of member) is high = reads_placed (peek_here refl (reads_sign (λ q. reads_placed reads_give)))
  primary_layer (expression.Struct of fields close) is high =
      first_placed (peek_here refl (reads_sign (λ q. struct_reads (λ member. roll-Expression (expression.Member (moved_name at of) member))
      (λ fields close. roll-Expression (expression.Struct (moved_name at of) fields close)) field_value_leaves (moved_field_value at) IsFieldValue field_value_reads
      (map (λ e. e.0) fields) is.1 (firsts IsFieldValue fields) close)))
  primary_layer (expression.Array place elements) is high =
      first_placed (list_reads symbols.RightBracket expression_leaves (moved_expression at) IsExpression expressions (map (λ e. e.0) elements) is (firsts IsExpression elements)
      (omega arith) reads_give)
  primary_layer (expression.Parentheses place inside) is high = first_placed (reads_then (read inside) (omega arith) (reads_skip reads_give))
  primary_layer (expression.Block b) is high = blocks_by d insides primary_at (λ b. roll-Expression (expression.Block b)) (λ p. refl) 13 b.0 b.1
  primary_layer (expression.Read place port register) is high = read_reads place port register is.0
  primary_layer (expression.Write place port register value) is high = write_reads place port register value is.0
  primary_layer (expression.Abort place) is high = reads_placed reads_give
  primary_layer (expression.Pack place value) is high = first_placed (words1_reads (read value))
  primary_layer (expression.Unpack place to value) is high = first_placed (words2_reads (types to is 1) (read value))
  primary_layer (expression.Extend place extension value width) is high = extend_reads place extension value width
  primary_layer (expression.Compare place comparison left right) is high = compare_reads place comparison left right
  primary_layer (expression.Update place whole part value) is high = first_placed (words3_reads (read whole) (part_reads part) (read value))

  -- expressions of a level and tighter ones; those of the level are read if tighter ones are
  abbrev ReadsFrom : Reader Expression → ℕ → Type 0
  ReadsFrom r k = (t : Expression) → IsExpression t → k ≤ level t → Reads at d (suc d) r (expression_leaves t) (moved_expression at t) (suc k)

  module _ (r : Reader Expression) (k : ℕ) where
    abbrev ReadsLevel : expression_kind.Layer → List Leaf → Expression → Type 0
    ReadsLevel dl l x = level_of_layer dl ≡ k → Reads at d (suc d) r l x (suc k)

    by_level : ((t : Expression) → IsExpression t → suc k ≤ level t → Reads at d (suc d) r (expression_leaves t) (moved_expression at t) (suc k)) →
        Each expression_kind expression_layer (expression_becomes at) ReadsLevel → ReadsFrom r k
    by_level tighter each t is high = of_level (split_level k (level t) high)
      where
        of_level : (suc k ≤ level t) ⊎ (level t ≡ k) → Reads at d (suc d) r (expression_leaves t) (moved_expression at t) (suc k)
        of_level (inl higher) = tighter t is higher
        of_level (inr same) = by_layers expression_kind expression_grown expression_leaves_by (expression_moved_by at) ReadsLevel each t is same

  primary_reads : ReadsFrom (on primary_at) 12
  primary_reads = by_layers expression_kind expression_grown expression_leaves_by (expression_moved_by at) ReadsPrimary primary_layer

  -- a primary with suffixes
  suffixed : (e : Such IsExpression) → 11 < level e.0 → (ss : List Suffix) → 0 < length ss →
      Reads at d (suc d) postfix (expression_leaves e.0 ++ flat_map suffix_leaves ss) (roll-Expression (expression.Postfix (moved_expression at e.0) (map (moved_suffix at) ss))) 12
  suffixed e high [] some = absurd (omega (arith, some))
  suffixed e high (s ∷ ss) some =
      reads_then (primary_reads e.0 e.1 high) (front_many 12 suffix_leaves (λ s. ⊤) (λ s is. suffix_begins s) (s ∷ ss) (no_facts (s ∷ ss)))
      (reads_map (reads_many suffix_leaves (moved_suffix at) (λ s. ⊤) (λ s is. suffix_reads s) (λ s is. suffix_begins s) (s ∷ ss) (no_facts (s ∷ ss))))

  postfix_reads : ReadsFrom postfix 11
  postfix_reads = by_level postfix 11 (λ t is high. reads_alone {f = postfixed} (primary_reads t is high) (omega arith)) each
    where
      each : Each expression_kind expression_layer (expression_becomes at) (ReadsLevel postfix 11)
      each (expression.Postfix whole suffixes) is same = suffixed whole is.0 suffixes is.1
      each (expression.Chain first rest) is same = absurd (omega (arith, same, (chain_level (map (λ e. e.0) rest) is.0).1))
      each _ is same = absurd (omega (arith, same))

  -- operators before a postfix
  prefixes_reads : (ps : List Prefix) (t : Expression) → IsExpression t → 10 < level t →
      Reads at d (suc d) (grammar some_prefixes) (flat_map prefix_leaves ps ++ expression_leaves t) (map (moved_prefix at) ps, moved_expression at t) 11
  prefixes_reads [] t is high = reads_or (reads_map (looser (omega arith) (postfix_reads t is high)))
  prefixes_reads (p ∷ ps) t is high = reads_other (refuses_then (no_postfix d p.operator)) (prefix_reads more_prefixes p.operator p.place (reads_map (prefixes_of ps t is high)))

  unary_run : (e : Such IsExpression) → 10 < level e.0 → (ps : List Prefix) → 0 < length ps →
      Reads at d (suc d) unary (flat_map prefix_leaves ps ++ expression_leaves e.0) (roll-Expression (expression.Unary (map (moved_prefix at) ps) (moved_expression at e.0))) 11
  unary_run e high [] some = absurd (omega (arith, some))
  unary_run e high (p ∷ ps) some = reads_other (no_postfix d p.operator) (prefix_reads prefixed p.operator p.place (reads_map (prefixes_of ps e.0 e.1 high)))

  unary_reads : ReadsFrom unary 10
  unary_reads = by_level unary 10 (λ t is high. reads_or (looser (omega arith) (postfix_reads t is high))) each
    where
      each : Each expression_kind expression_layer (expression_becomes at) (ReadsLevel unary 10)
      each (expression.Unary prefixes operand) is same = unary_run operand is.1 prefixes is.0
      each (expression.Chain first rest) is same = absurd (omega (arith, same, (chain_level (map (λ e. e.0) rest) is.0).1))
      each _ is same = absurd (omega (arith, same))

  -- a chain of a level
  module _ (k : ℕ) (low : 1 ≤ k) (high : k ≤ 9) (tighter : Reader Expression) (tighter_reads : ReadsFrom tighter (suc k)) where
    chain_operand_reads : (o : Operand) → IsOperandIn k o → Reads at d (suc d) (on (operand_at tighter)) (operand_leaves o) (moved_operand at o) (suc (suc k))
    chain_operand_reads o is =
        by_layers operand_kind operand_grown operand_leaves_by (operand_moved_by at) (λ dl l x. k < level dl.operand → Reads at d (suc d) (on (operand_at tighter)) l x (suc (suc k)))
        (λ y here high. operand_reads y.operator (tighter_reads y.operand.0 y.operand.1 high)) o is.0 is.1.1

    operand_begins : (o : Operand) → IsOperandIn k o → Begins (suc (suc k)) (operand_leaves o)
    operand_begins o is =
        by_layers operand_kind operand_grown operand_leaves_by (operand_moved_by at) (λ dl l x. level_of dl.operator ≡ k → Begins (suc (suc k)) l)
        (λ y here same. operator_begins y.operator ∙ ap (λ k. suc (suc k)) same) o is.0 is.1.0

    chain_run : (e : Such IsExpression) → k < level e.0 → (os : List Operand) → 0 < length os → AllByRecursion (IsOperandIn k) os →
        Reads at d (suc d) (chain k tighter) (expression_leaves e.0 ++ all_of (map operand_leaves os))
        (roll-Expression (expression.Chain (moved_expression at e.0) (map (moved_operand at) os))) (suc k)
    chain_run e above [] some all = absurd (omega (arith, some))
    chain_run e above (o ∷ os) some all =
        grouped (ap (λ l. expression_leaves e.0 ++ l) (flat_map-map (λ part. part) operand_leaves (o ∷ os)))
        (reads_then (tighter_reads e.0 e.1 above) (front_many (suc k) operand_leaves (IsOperandIn k) operand_begins (o ∷ os) all)
        (reads_map (reads_many operand_leaves (moved_operand at) (IsOperandIn k) chain_operand_reads operand_begins (o ∷ os) all)))

    chain_reads : ReadsFrom (chain k tighter) k
    chain_reads = by_level (chain k tighter) k (λ t is higher. reads_alone {f = chained} (tighter_reads t is higher) (omega arith)) each
      where
        each : Each expression_kind expression_layer (expression_becomes at) (ReadsLevel (chain k tighter) k)
        each (expression.Chain first rest) is same =
            let os = map (λ e. e.0) rest in
            let at_level = recursion_from_All (IsOperandAt (level_of_chain os)) os is.2 in
            chain_run first (omega (arith, is.1, same)) os is.0
            (both_of IsOperand (IsOperandAt k) os (firsts IsOperand rest) (subst (λ k. AllByRecursion (IsOperandAt k) os) same at_level))
        each (expression.If arms otherwise) is same = absurd (omega (arith, same, low))
        each _ is same = absurd (omega (arith, same, high))

  level1_reads : ReadsFrom level1 1
  level1_reads =
      let nine = chain_reads 9 (omega arith) (omega arith) unary unary_reads in
      let eight = chain_reads 8 (omega arith) (omega arith) _ nine in
      let seven = chain_reads 7 (omega arith) (omega arith) _ eight in
      let six = chain_reads 6 (omega arith) (omega arith) _ seven in
      let five = chain_reads 5 (omega arith) (omega arith) _ six in
      let four = chain_reads 4 (omega arith) (omega arith) _ five in
      let three = chain_reads 3 (omega arith) (omega arith) _ four in
      let two = chain_reads 2 (omega arith) (omega arith) _ three in
      chain_reads 1 (omega arith) (omega arith) _ two

  -- an expression: a chain, or an `if`
  expression_reads : (t : Expression) → IsExpression t → Reads at d (suc d) (grammar an_expression) (expression_leaves t) (moved_expression at t) 1
  expression_reads t is = by_level (grammar an_expression) 0 (λ t is high. reads_or (looser (omega arith) (level1_reads t is high))) each t is (omega arith)
    where
      each : Each expression_kind expression_layer (expression_becomes at) (ReadsLevel (grammar an_expression) 0)
      each (expression.If arms None) is same = if_reads (map (λ e. e.0) arms) is (firsts IsArm arms) None tt
      each (expression.If arms (Some b)) is same = if_reads (map (λ e. e.0) arms) is (firsts IsArm arms) (Some b.0) b.1
      each (expression.Chain first rest) is same = absurd (omega (arith, same, (chain_level (map (λ e. e.0) rest) is.0).0))
      each _ is same = absurd (omega (arith, same))

-- all phrases, nested in any depth
module _ {at : ℕ → ℕ} where
  pub nothing : {X : Type 0} {r : Reader X} {k : ℕ} {ls : List Leaf} {x : X} → Reads at zero zero r ls x k
  nothing = record { reads = λ items rest within shows free. absurd (omega (arith, within)) }

  pub types_read : (d : ℕ) → ReadsTypes at d
  types_read zero = λ t is k. nothing
  types_read (suc d) = type_reads d (types_read d)

  pub constants_read : (d : ℕ) → ReadsConstants at d
  constants_read zero = λ t is. nothing
  constants_read (suc d) = constant_reads d (constants_read d)

  expressions_read : (d : ℕ) → ReadsExpressions at d × ReadsInside at d × ReadsBranches at d × ReadsPrefixes at d
  expressions_read zero = (λ t is. nothing, λ ss all value is k. nothing, λ arms all otherwise is. nothing, λ ps t is high. nothing)
  expressions_read (suc d) =
      let h = expressions_read d in (
        λ t is. reads_phrase {s = an_expression} (expression_reads d (types_read d) h.0 h.1 h.2 h.3 t is),
        λ ss all value is k. reads_phrase {s = block_parts} (inside_reads d (types_read d) h.0 h.1 h.2 h.3 ss all value is k),
        λ arms all otherwise is. reads_phrase {s = if_branches} (branch_reads d (types_read d) h.0 h.1 h.2 h.3 arms all otherwise is),
        λ ps t is high. reads_phrase {s = some_prefixes} (prefixes_reads d (types_read d) h.0 h.1 h.2 h.3 ps t is high),
      )

  pub blocks_read : (d : ℕ) (t : Block) → IsBlock t → (k : ℕ) → Reads at d d (on block_at) (block_leaves t) (moved_block at t) k
  blocks_read d t is k = shorter (block_reads d (expressions_read d).1 t is k)
