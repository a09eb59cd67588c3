-- The tokens of each text are a tree's, or they have a fault of the grammar.
use Rattle.std.proofs.Common.{◌≡◌, ℕ, ◌≤◌, Option, Some, Ok, Err, List, [], ◌∷◌, ◌++◌, length, length-append, append-nil, drop, inl, inr, refl, sym, ap, ◌∙◌, subst, arith}
use Rattle.std.specs.Prelude.{⊤}
use Rattle.std.specs.List.{All, AllZip}
use Rattle.std.proofs.lemmas.List.{drop_all}
use Rattle.kw_base.specs.Fault.{fault_at}
use Rattle.koika_syntax.specs.Grammar.{Derives, IsDeclaration, IsName, declaration_leaves, tree_leaves}
use Rattle.koika_syntax.specs.Tokens.{IsCut, Piece, StandsIn, tokens_behind}
use Rattle.koika_syntax.specs.Tree.{IsLeafAt, Leaf, Terminal, keyword, name_leaves, symbol}
use Rattle.koika_syntax.specs.declared.keyword.Keyword.{Keyword}
use Rattle.koika_syntax.specs.declared.keyword.Keyword.TheVariants as keywords
use Rattle.koika_syntax.specs.declared.symbol.Symbol.TheVariants as symbols
use Rattle.koika_syntax.specs.declared.token.Token.{Token}
use Rattle.koika_syntax.specs.declared.tree.Tree.{Tree}
use Rattle.koika_syntax.proofs.Cuts.{length-piece}
use Rattle.koika_syntax.proofs.Spans.{tokens_stand}
use Rattle.koika_parse.specs.Brackets.{AreFewOpen, open_behind}
use Rattle.koika_parse.specs.inner.Expected.{Any, Behind, One, Part, StandAt, Takes, Then, first, spots_of}
use Rattle.koika_parse.specs.inner.ExpressionWords.{parenthesis_follows}
use Rattle.koika_parse.specs.Faults.{place_behind, seen}
use Rattle.koika_parse.specs.Laws.{EachTextIsParsed, IsParsed}
use Rattle.koika_parse.specs.inner.Reading.{kind_at, next}
use Rattle.koika_parse.specs.inner.Words.{AssertWord, DeclarationsWord, DesignWord, EnumWord, FunctionWord, HostWord}
use Rattle.koika_parse.specs.inner.Words.{InputWord, ParametersWord, RegisterWord, ResultWord, RuleWord, StructWord}
use Rattle.koika_parse.specs.inner.Words.{TableWord, end_follows, schedule_follows}
use Rattle.koika_parse.specs.declared.cursor.Cursor.{Cursor}
use Rattle.koika_parse.specs.declared.source.Source.{Source}
use Rattle.koika_parse.specs.inner.Stops.{Stop}
use Rattle.kw_bits.specs.declared.failure.Failure.TheVariants as failures
use Rattle.koika_parse.specs.declared.stop.Unread.TheVariants as unread
use Rattle.koika_parse.proofs.Answered.{Answered, Ended, Fewer, HasToken, IsRefusal, any_last, any_then, by_case, unexpected}
use Rattle.koika_parse.proofs.Answered.{by_tokens, decide_below, decide_named, decide_next, none_left, one_last}
use Rattle.koika_parse.proofs.Answered.{one_then, part_last, part_more, part_then}
use Rattle.koika_parse.proofs.AnsweredExpressions.{block_answered}
use Rattle.koika_parse.proofs.AnsweredParts.{closed_answered, commas_answered, constant_answered, field_answered}
use Rattle.koika_parse.proofs.AnsweredParts.{literal_answered, member_answered, name_answered, scheduler_answered}
use Rattle.koika_parse.proofs.AnsweredParts.{type_answered, width_answered}
use Rattle.koika_parse.proofs.DeclarationWords.{assert_within, declaration_at, declaration_none, declaration_refused}
use Rattle.koika_parse.proofs.DeclarationWords.{declaration_word, declarations_at, declarations_end, declarations_start}
use Rattle.koika_parse.proofs.DeclarationWords.{enum_within, function_start, function_within}
use Rattle.koika_parse.proofs.DeclarationWords.{host_within, input_within}
use Rattle.koika_parse.proofs.DeclarationWords.{parameters_at, parameters_end, register_within, result_type}
use Rattle.koika_parse.proofs.DeclarationWords.{result_unit, rule_within, some_assert, some_design, some_enum}
use Rattle.koika_parse.proofs.DeclarationWords.{some_function, some_host, some_input, some_register, some_rule}
use Rattle.koika_parse.proofs.DeclarationWords.{some_struct, some_table, struct_within, table_within, then_nothing}
use Rattle.koika_parse.proofs.DeclarationWords.{tree_ended, tree_start}
use Rattle.koika_parse.proofs.Designs.{stands_between}
use Rattle.koika_parse.proofs.Expected.{Apart, Empty, Goes, begin, before_one_then, free, last_stopped, step}
use Rattle.koika_parse.proofs.Names.{names_stand, starts_stand}
use Rattle.koika_parse.proofs.PrimaryWords.{parenthesis_any}
use Rattle.koika_parse.proofs.Seen.{few_seen}
use Rattle.koika_parse.proofs.Witnesses.{heap, some_literal}
use Rattle.koika_parse.proofs.Words.{declared_start, some_field, some_member}

-- each declaration has a token
declaration_token : HasToken (Part IsDeclaration declaration_leaves)
declaration_token q part = let head = declaration_word part.0 part.1 in (keyword head.0, ap (λ l. first (l ++ [])) part.2 ∙ head.2 [])

module _ (source : Source) (stands : All (StandsIn source.text.now) source.tokens.now) where
  -- a word, and the name of what is declared
  declared : (k : Keyword) (old : Cursor) → Answered source old (Then (One (keyword k)) (Part IsName name_leaves)) Any
  declared k old = one_then (declared_start k) λ n fewer goes. any_last goes (name_answered source stands n)

  enum_answered : (old : Cursor) → Answered source old EnumWord Any
  enum_answered old = any_then (begin EnumWord some_enum) (declared keywords.Enum old)
      λ colon forward goes. one_then goes
      λ width fewer goes. any_then goes (width_answered source stands width)
      λ brace further goes. one_then goes
      λ members less goes. closed_answered source stands some_member tt (tt, refl) goes (λ m at. member_answered source stands m)

  struct_answered : (old : Cursor) → Answered source old StructWord Any
  struct_answered old = any_then (begin StructWord some_struct) (declared keywords.Struct old)
      λ brace forward goes. one_then goes
      λ fields fewer goes. closed_answered source stands some_field tt (tt, refl) goes (λ m at. field_answered source stands m)

  register_answered : (old : Cursor) → Answered source old RegisterWord Any
  register_answered old = any_then (begin RegisterWord some_register) (declared keywords.Reg old)
      λ colon forward goes. one_then goes
      λ type fewer goes. any_then goes (type_answered source stands type)
      λ equals further goes. one_then goes
      λ value less goes. any_then goes (constant_answered source stands value)
      λ close beyond goes. one_last goes

  input_answered : (old : Cursor) → Answered source old InputWord Any
  input_answered old = any_then (begin InputWord some_input) (declared keywords.Input old)
      λ colon forward goes. one_then goes
      λ type fewer goes. any_then goes (type_answered source stands type)
      λ close further goes. one_last goes

  table_answered : (old : Cursor) → Answered source old TableWord Any
  table_answered old = any_then (begin TableWord some_table) (declared keywords.Table old)
      λ colon forward goes. one_then goes
      λ input fewer goes. any_then goes (width_answered source stands input)
      λ arrow further goes. one_then goes
      λ output less goes. any_then goes (width_answered source stands output)
      λ brace beyond goes. one_then goes
      λ entries least goes. closed_answered source stands some_literal tt (tt, refl) goes (λ m at. literal_answered source stands m)

  host_answered : (old : Cursor) → Answered source old HostWord Any
  host_answered old = any_then (begin HostWord some_host) (declared keywords.Host old)
      λ colon forward goes. one_then goes
      λ input fewer goes. any_then goes (width_answered source stands input)
      λ arrow further goes. one_then goes
      λ output less goes. any_then goes (width_answered source stands output)
      λ close beyond goes. one_last goes

  parameters_answered : (old : Cursor) → Answered source old ParametersWord parenthesis_follows
  parameters_answered old = by_case (decide_named (kind_at source old))
      (λ named. part_last (parameters_at named) (commas_answered source stands some_field tt old (λ m at. field_answered source stands m)) (λ v follows. parenthesis_any (first v) follows))
      (λ named. none_left (parameters_end named))

  result_answered : (old : Cursor) → Answered source old ResultWord Any
  result_answered old = by_case (decide_next (next source old) (keyword keywords.Unit)) (λ unit. one_last (result_unit unit)) (λ unit. any_last (result_type unit) (type_answered source stands old))

  function_answered : (old : Cursor) → Answered source old FunctionWord Any
  function_answered old = any_then function_start (declared keywords.Fun old)
      λ bracket forward goes. one_then goes
      λ parameters fewer goes. part_then goes (parameters_answered parameters) (before_one_then _ Any parenthesis_follows (symbol symbols.RightParenthesis) refl)
      λ close further goes. one_then goes
      λ colon less goes. one_then goes
      λ result least goes. any_then goes (result_answered result)
      λ body beyond goes. any_last goes (block_answered source stands body)

  rule_answered : (old : Cursor) → Answered source old RuleWord Any
  rule_answered old = any_then (begin RuleWord some_rule) (declared keywords.Rule old) λ body forward goes. any_last goes (block_answered source stands body)

  assert_answered : (old : Cursor) → Answered source old AssertWord Any
  assert_answered old = any_then (begin AssertWord some_assert) (declared keywords.Assert old) λ close forward goes. one_last goes

  -- a declaration by its word
  declaration_by : (old : Cursor) (k : Keyword) → next source old ≡ Some (keyword k) → Answered source old (Part IsDeclaration declaration_leaves) Any
  declaration_by old keywords.Enum at = any_last (declaration_at keywords.Enum some_enum enum_within at) (enum_answered old)
  declaration_by old keywords.Struct at = any_last (declaration_at keywords.Struct some_struct struct_within at) (struct_answered old)
  declaration_by old keywords.Reg at = any_last (declaration_at keywords.Reg some_register register_within at) (register_answered old)
  declaration_by old keywords.Input at = any_last (declaration_at keywords.Input some_input input_within at) (input_answered old)
  declaration_by old keywords.Table at = any_last (declaration_at keywords.Table some_table table_within at) (table_answered old)
  declaration_by old keywords.Host at = any_last (declaration_at keywords.Host some_host host_within at) (host_answered old)
  declaration_by old keywords.Fun at = any_last (declaration_at keywords.Fun some_function function_within at) (function_answered old)
  declaration_by old keywords.Rule at = any_last (declaration_at keywords.Rule some_rule rule_within at) (rule_answered old)
  declaration_by old keywords.Assert at = any_last (declaration_at keywords.Assert some_assert assert_within at) (assert_answered old)
  declaration_by old k at = unexpected (declaration_refused k (λ u word. word) at)

  declaration_answered : (old : Cursor) → Answered source old (Part IsDeclaration declaration_leaves) Any
  declaration_answered old = of (next source old) refl
    where
      of : (o : Option Terminal) → next source old ≡ o → Answered source old (Part IsDeclaration declaration_leaves) Any
      of (Some (keyword k)) at = declaration_by old k at
      of o at = unexpected (declaration_none (λ k here. none k (sym at ∙ here)))
        where
          none : (k : Keyword) → o ≡ Some (keyword k) → ⊥
          none k e = cc e

  -- declarations, and a design
  abbrev Declared : Cursor → Cursor → Type 0
  Declared old mid = Goes source old mid DeclarationsWord schedule_follows DeclarationsWord → Answered source old DeclarationsWord schedule_follows

  declarations_answered : (old : Cursor) → Answered source old DeclarationsWord schedule_follows
  declarations_answered old = by_tokens source (Declared old) each old declarations_start
    where
      each : (mid : Cursor) → Fewer source mid (Declared old) → Declared old mid
      each mid again goes = by_case (decide_next (next source mid) (keyword keywords.Schedule))
          (λ at. none_left (declarations_end at goes))
          (λ at. part_more declaration_token (declarations_at at goes) (declaration_answered mid) (free DeclarationsWord schedule_follows) λ new fewer goes. again new fewer goes)

  design_answered : (old : Cursor) → Answered source old DesignWord end_follows
  design_answered old = part_then tree_start (declarations_answered old) (before_one_then _ end_follows schedule_follows (keyword keywords.Schedule) refl)
      λ schedule forward goes. one_then goes
      λ scheduler fewer goes. any_last goes (scheduler_answered source stands scheduler)

-- leaves of tokens where they stand
stand_each : (text : List ℕ) (leaves : List Leaf) (tokens : List Token) → StandAt leaves (spots_of text tokens) → AllZip (IsLeafAt text) leaves tokens
stand_each text [] [] stand = tt
stand_each text [] (token ∷ tokens) stand = stand
stand_each text (leaf ∷ leaves) [] stand = stand
stand_each text (leaf ∷ leaves) (token ∷ tokens) stand = (stand.0, stand_each text leaves tokens stand.1)

-- few brackets are open among leaves where few are among their tokens
few_leaves : (text : List ℕ) (depth : ℕ) (leaves : List Leaf) (tokens : List Token) → AllZip (IsLeafAt text) leaves tokens → AreFewOpen depth (seen text tokens) → AreFewOpen depth leaves
few_leaves text depth [] [] each few = tt
few_leaves text depth [] (token ∷ tokens) each few = absurd each
few_leaves text depth (leaf ∷ leaves) [] each few = absurd each
few_leaves text depth (leaf ∷ leaves) (token ∷ tokens) each few =
    let same = ap (open_behind depth) (sym each.0.0) in
    (subst (λ n. n ≤ 64) same few.0, few_leaves text (open_behind depth leaf.terminal) leaves tokens each.1 (subst (λ n. AreFewOpen n (seen text tokens)) same few.1))

-- what has been read to the end is a tree
read_design : {source : Source} {old new : Cursor} → old.at ≡ 0 → old.depth ≡ 0 → length source.tokens.now ≤ new.at → Takes {X = ⊤} source old new DesignWord end_follows (Ok tt) →
    (tree : Tree) × Derives source.text.now tree source.tokens.now × AreFewOpen 0 (tree_leaves tree)
read_design {source} {old} {new} begins depth ends takes =
    let text = source.text.now in
    let tokens = source.tokens.now in
    let front = takes.leads in
    let reads = front.reads in
    let tree = front.word.0 in
    let all : tokens ≡ reads.tokens = ap (λ n. drop n tokens) (sym begins) ∙ reads.split ∙ ap (λ d. reads.tokens ++ d) (drop_all new.at tokens ends) ∙ append-nil reads.tokens in
    let each : AllZip (IsLeafAt text) front.whole reads.tokens = stand_each text front.whole reads.tokens (subst (StandAt front.whole) (append-nil (spots_of text reads.tokens)) front.stands) in
    let few : AreFewOpen 0 front.read = subst (λ d. AreFewOpen d front.read) depth (reads.few (omega (arith, depth))) in (
      tree,
      record { design = front.word.1; leaves = subst (AllZip (IsLeafAt text) (tree_leaves tree)) (sym all) (subst (λ l. AllZip (IsLeafAt text) l reads.tokens) front.word.2 each) },
      subst (AreFewOpen 0) front.word.2 (few_leaves text 0 front.whole reads.tokens each (few_seen text 0 front.read reads.tokens reads.each few)),
    )

-- where reading stops, a fault stands
read_fault :
    {source : Source} {old new : Cursor} (stop : Stop) → IsRefusal stop → old.at ≡ 0 → old.depth ≡ 0 →
    Takes {X = Tree} source old new DesignWord end_follows (Err stop) → IsParsed source.text.now source.tokens.now
read_fault {source} {old} {new} (failures.Why unread.Unexpected) is at depth takes =
    inr (fault_at 11 (place_behind source.text.now (drop new.at source.tokens.now)), stands_between (failures.Why unread.Unexpected) _ at depth takes refl)
read_fault {source} {old} {new} (failures.Why unread.TooDeep) is at depth takes =
    inr (fault_at 12 (place_behind source.text.now (drop new.at source.tokens.now)), stands_between (failures.Why unread.TooDeep) _ at depth takes refl)
read_fault failures.NoMemory is at depth takes = absurd is

nothing_apart : Apart Empty end_follows end_follows
nothing_apart q v empty behind = subst (λ l. Behind end_follows (l ++ v)) (sym empty) behind

read_text : (source : Source) → All (StandsIn source.text.now) source.tokens.now → IsParsed source.text.now source.tokens.now
read_text source stands = of answered.1
  where
    old : Cursor
    old = record { at = 0; depth = 0 }

    answered : Answered source old DesignWord end_follows
    answered = design_answered source stands old

    of : Ended source old answered.0 DesignWord end_follows → IsParsed source.text.now source.tokens.now
    of (inl takes) = by_case (decide_below answered.0.at (length source.tokens.now))
        (λ within. read_fault {old = old} {new = answered.0} (failures.Why unread.Unexpected) tt refl refl
        (tree_ended {Y = Tree} within (step (then_nothing (begin DesignWord some_design)) takes nothing_apart)))
        (λ past. inl (read_design {old = old} {new = answered.0} refl refl (omega (arith, past)) takes))
    of (inr refused) = read_fault {old = old} {new = answered.0} refused.0 refused.1 refl refl (last_stopped {Y = Tree} (begin DesignWord some_design) refused.2 (λ v follows. follows))

-- a text has no more tokens than bytes
fewer_tokens : (before : List ℕ) (pieces : List Piece) (text rest : List ℕ) → IsCut pieces text rest → length (tokens_behind before pieces) ≤ length text
fewer_tokens before [] text rest cut = omega arith
fewer_tokens before (Piece.gap bytes ∷ pieces) text rest cut = omega (arith, fewer_tokens (before ++ bytes) pieces cut.0 rest cut.4, ap length cut.1, length-append bytes cut.0)
fewer_tokens before (Piece.token kind bytes ∷ pieces) text rest cut =
    omega (arith, fewer_tokens (before ++ bytes) pieces cut.0 rest cut.4, ap length cut.1, length-append bytes cut.0, length-piece (Piece.token kind bytes) cut.2)

pub each_text : EachTextIsParsed
each_text text tokens are short =
    let stand = tokens_stand tokens text are in
    let few = fewer_tokens [] are.pieces text [] are.cut in
    read_text (record {
      alloc = heap;
      text = record { ref_ptr = (0, 0); now = text };
      tokens = record { ref_ptr = (0, 0); now = tokens };
      starts = starts_stand text tokens stand;
      short = omega (arith, few, short, ap length are.spans);
      names = names_stand text tokens stand;
    }) stand
