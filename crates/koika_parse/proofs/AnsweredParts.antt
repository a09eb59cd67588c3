-- Reading a name, a number, a literal, a type, parts with commas, a constant and a scheduler comes to an end.
use Rattle.std.proofs.Common.{◌≡◌, ℕ, ◌≤◌, Option, Some, List, get_or, inr, refl, sym, ap, ◌∙◌, subst, arith}
use Rattle.std.specs.Prelude.{slice_range}
use Rattle.std.specs.List.{All}
use Rattle.std.specs.Option.{option_map}
use Rattle.std.proofs.lemmas.Option.{slice_get-get_or}
use Rattle.kw_bits.specs.BitVector.{BitVector, IsBitVector}
use Rattle.koika_syntax.specs.Grammar.{IsConstant, IsField, LiteralFits, IsMember, IsName, NumberFits, IsScheduler}
use Rattle.koika_syntax.specs.Grammar.{IsType, IsWidth, constant_leaves, field_leaves, member_leaves, scheduler_leaves}
use Rattle.koika_syntax.specs.Grammar.{type_leaves}
use Rattle.koika_syntax.specs.inner.Grammar.{constant_field_leaves}
use Rattle.koika_syntax.specs.Tokens.{IsToken, StandsIn, literal_width}
use Rattle.koika_syntax.specs.Tree.{Leaf, Terminal, in_braces, keyword, literal, literal_leaves, name_leaves, number, number_leaves, symbol, terminal_of, width_leaves}
use Rattle.koika_syntax.specs.declared.keyword.Keyword.TheVariants as keywords
use Rattle.koika_syntax.specs.declared.symbol.Symbol.{Symbol}
use Rattle.koika_syntax.specs.declared.symbol.Symbol.TheVariants as symbols
use Rattle.koika_syntax.specs.declared.token.Token.{Token}
use Rattle.koika_syntax.specs.declared.token.TokenKind.TheVariants as kinds
use Rattle.koika_parse.specs.inner.Expected.{Any, Commas, NoComma, One, Part, Then}
use Rattle.koika_parse.specs.inner.Parts.{IsConstantField}
use Rattle.koika_parse.specs.inner.Reading.{kind_at, next}
use Rattle.koika_parse.specs.inner.Words.{LastChoiceWord, RulesWord, no_name, no_try}
use Rattle.koika_parse.specs.declared.cursor.Cursor.{Cursor}
use Rattle.koika_parse.specs.declared.source.Source.{Source}
use Rattle.koika_parse.proofs.Answered.{Answered, Ends, Fewer, Further, any_last, any_then, by_case, by_tokens, decide_named, decide_next, none_left, one_last, one_then, part_then, unexpected}
use Rattle.koika_parse.proofs.Commas.{CommasGo, commas_apart, commas_at, commas_end, commas_start}
use Rattle.koika_parse.proofs.ConstantWords.{FieldsTail, constant_at_bracket, constant_at_name, constant_elsewhere, constant_field_start, some_constant_field, some_fields_tail}
use Rattle.koika_parse.proofs.Expected.{Language, Lookahead, same_first, Goes, Has, begin, before_one, kind_is, kind_of_next, literal_kind, named_terminal, narrow_part, refused, some_next, within}
use Rattle.koika_parse.proofs.Names.{name_is}
use Rattle.koika_parse.proofs.Rows.{brace_not_name, name_not_brace}
use Rattle.koika_parse.proofs.SchedulerWords.{choice_start, last_at, last_none, rules_apart, rules_at, rules_end, rules_start, scheduler_start}
use Rattle.koika_parse.proofs.Witnesses.{some_constant, some_literal, some_name, some_number, some_width}
use Rattle.koika_parse.proofs.Words.{array_is_type, field_start, member_start, name_is_type, one_literal, one_name}
use Rattle.koika_parse.proofs.Words.{one_number, some_array_type, type_array, type_bits, type_name, width_is_type}
use Rattle.koika_parse.proofs.Words.{width_start}

no_token : Token
no_token = record { kind = kinds.Name; start = 0; end = 0 }

module _ (source : Source) (stands : All (StandsIn source.text.now) source.tokens.now) where
  -- a name, a number and a literal
  pub name_answered : (old : Cursor) → Answered source old (Part IsName name_leaves) Any
  name_answered old = by_case (decide_named (kind_at source old))
      (λ named.
      let text = source.text.now in
      let tokens = source.tokens.now in
      let low = within source old (some_next source old named).1 in
      let token = get_or tokens old.at no_token in
      let kind : token.kind ≡ kinds.Name = literal_kind source old no_token low named in
      let is = name_is (source.names old.at no_token low kind) in
      let at = ap (option_map (terminal_of text)) (slice_get-get_or tokens old.at no_token low) in
      one_last (one_name (slice_range text token.start token.end) is (named_terminal text token kind) at))
      (λ other. unexpected (refused (begin (Part IsName name_leaves) some_name) (λ r v word behind same. other (kind_is source old (same_first v (sym word.2) ∙ same)))))

  pub number_answered : (old : Cursor) → Answered source old (Part NumberFits number_leaves) Any
  number_answered old = of (next source old) refl
    where
      of : (o : Option Terminal) → next source old ≡ o → Answered source old (Part NumberFits number_leaves) Any
      of (Some (number n)) at =
          let low = within source old at in
          let token = get_or source.tokens.now old.at no_token in
          let kind : token.kind ≡ kinds.Number n = literal_kind source old no_token low (kind_is source old (sym at)) in
          let text = slice_range source.text.now token.start token.end in
          let is : IsToken (kinds.Number n) text = subst (λ k. IsToken k text) kind (stands old.at no_token low).bytes in
          one_last (one_number n is.2 refl at)
      of o at = unexpected (refused (begin (Part NumberFits number_leaves) some_number) (λ r v word behind same. none word.0.value (sym at ∙ sym same ∙ same_first v word.2)))
        where
          none : (x : ℕ) → o ≡ Some (number x) → ⊥
          none x e = cc e

  pub literal_answered : (old : Cursor) → Answered source old (Part LiteralFits literal_leaves) Any
  literal_answered old = of (next source old) refl
    where
      of : (o : Option Terminal) → next source old ≡ o → Answered source old (Part LiteralFits literal_leaves) Any
      of (Some (literal bits)) at =
          let low = within source old at in
          let token = get_or source.tokens.now old.at no_token in
          let kind : token.kind ≡ kinds.Literal bits = literal_kind source old no_token low (kind_is source old (sym at)) in
          let text = slice_range source.text.now token.start token.end in
          let is : IsToken (kinds.Literal bits) text = subst (λ k. IsToken k text) kind (stands old.at no_token low).bytes in
          let said = is.2 in
          one_last (one_literal bits (subst (λ w. IsBitVector w bits.number) (sym said.width) (subst (IsBitVector (literal_width is.0)) (sym said.number) said.in_range)) refl at)
      of o at = unexpected (refused (begin (Part LiteralFits literal_leaves) some_literal) (λ r v word behind same. none word.0.bits (sym at ∙ sym same ∙ same_first v word.2)))
        where
          none : (x : BitVector) → o ≡ Some (literal x) → ⊥
          none x e = cc e

  -- a width and a type
  pub width_answered : (old : Cursor) → Answered source old (Part IsWidth width_leaves) Any
  width_answered old = one_then width_start λ mid fewer goes. any_last goes (number_answered mid)

  pub type_answered : (old : Cursor) → Answered source old (Part IsType type_leaves) Any
  type_answered = by_tokens source (λ old. Answered source old (Part IsType type_leaves) Any) each
    where
      each : (old : Cursor) → Fewer source old (λ mid. Answered source mid (Part IsType type_leaves) Any) → Answered source old (Part IsType type_leaves) Any
      each old inner = by_case (decide_next (next source old) (keyword keywords.Bits))
          (λ bits. any_last (narrow_part (Part IsWidth width_leaves) (λ x is v at. type_bits x is v (next source old) at bits) some_width width_is_type) (width_answered old))
          (λ bits. by_case (decide_named (kind_at source old))
          (λ named. any_last (narrow_part (Part IsName name_leaves) (λ x is v at. type_name x is v (next source old) at (kind_of_next source old ∙ named)) some_name name_is_type) (name_answered old))
          (λ named. one_then (narrow_part _ (λ x is v at. type_array x is v (next source old) at bits (λ e. named (sym (kind_of_next source old) ∙ e))) some_array_type array_is_type)
          λ mid fewer goes. any_then goes (inner mid fewer)
          λ behind forward goes. one_then goes
          λ size fewer goes. any_then goes (number_answered size)
          λ close forward goes. one_last goes))

  pub field_answered : (old : Cursor) → Answered source old (Part IsField field_leaves) Any
  field_answered old = any_then field_start (name_answered old) λ colon forward goes. one_then goes λ type fewer goes. any_last goes (type_answered type)

  pub member_answered : (old : Cursor) → Answered source old (Part IsMember member_leaves) Any
  member_answered old = any_then member_start (name_answered old) λ equals forward goes. one_then goes λ value fewer goes. any_last goes (literal_answered value)

  -- parts with commas between them
  module _ {X : Type 0} {Follow : Lookahead} {Is : X → Type 0} {leaves : X → List Leaf} (some : Has (Part Is leaves)) (comma : Follow (Some (symbol symbols.Comma)))
      (old : Cursor) (part : Further old (λ mid. Answered source mid (Part Is leaves) Follow)) where
    More : Cursor → Type 0
    More mid = old.at ≤ mid.at → CommasGo source old mid Follow Is leaves → Answered source old (Commas Is leaves) (NoComma Follow)

    more_answered : (mid : Cursor) → More mid
    unfolding More
    more_answered = by_tokens source More each
      where
        each : (mid : Cursor) → Fewer source mid More → More mid
        each mid again forward go = by_case (decide_next (next source mid) (symbol symbols.Comma))
            (λ at. one_then (commas_at some at go)
            λ beyond fewer goes. part_then goes (part beyond (omega (arith, fewer, forward))) (commas_apart some Follow comma)
            λ new further goes. again new (omega (arith, fewer, further)) (omega (arith, fewer, forward, further)) goes)
            (λ other. none_left (commas_end some other go))

    pub commas_answered : Answered source old (Commas Is leaves) (NoComma Follow)
    unfolding More
    commas_answered = part_then (commas_start some) (part old (omega arith)) (commas_apart some Follow comma) more_answered

  -- parts with commas between them, up to the symbol that closes them
  pub closed_answered : {X : Type 0} {Follow Mid : Lookahead} {Is : X → Type 0} {leaves : X → List Leaf} {Word : Language} {close : Symbol} {old mid : Cursor} →
      Has (Part Is leaves) → Mid (Some (symbol symbols.Comma)) → NoComma Mid (Some (symbol close)) → Goes source old mid Word Follow (Then (Commas Is leaves) (One (symbol close))) →
      Further mid (λ m. Answered source m (Part Is leaves) Mid) → Answered source old Word Follow
  closed_answered {Follow = Follow} {Mid = Mid} {close = close} {mid = mid} some comma closes goes part =
      part_then goes (commas_answered some comma mid part) (before_one Follow (NoComma Mid) (symbol close) closes) λ behind forward goes. one_last goes

  -- a constant
  abbrev ConstantAnswered : Cursor → Type 0
  ConstantAnswered old = Answered source old (Part IsConstant constant_leaves) Any

  pub constant_answered : (old : Cursor) → Answered source old (Part IsConstant constant_leaves) Any
  constant_answered = by_tokens source ConstantAnswered each
    where
      field : (old : Cursor) → Further old ConstantAnswered → Answered source old (Part IsConstantField constant_field_leaves) Any
      field old inner = any_then constant_field_start (name_answered old)
          λ colon forward goes. one_then goes
          λ value fewer goes. any_last goes (inner value (omega (arith, forward, fewer)))

      each : (old : Cursor) → Fewer source old ConstantAnswered → ConstantAnswered old
      each old inner = by_case (decide_named (kind_at source old))
          (λ named. any_then (constant_at_name named) (name_answered old)
          λ colons forward goes. one_then goes
          λ mid fewer goes. by_case (decide_named (kind_at source mid))
          (λ member. any_last (name_not_brace FieldsTail member goes) (name_answered mid))
          (λ member. one_then (brace_not_name FieldsTail member some_fields_tail goes)
          λ start less goes. closed_answered some_constant_field tt (tt, refl) goes
          λ at further. field at (λ m more. inner m (omega (arith, forward, fewer, less, further, more)))))
          (λ named. by_case (decide_next (next source old) (symbol symbols.LeftBracket))
          (λ at. one_then (constant_at_bracket at)
          λ start fewer goes. closed_answered some_constant tt (tt, refl) goes (λ m further. inner m (omega (arith, fewer, further))))
          (λ other. any_last (constant_elsewhere named other) (literal_answered old)))

  -- a scheduler
  rules_answered : (old : Cursor) → Answered source old RulesWord no_name
  rules_answered old = by_tokens source (Ends source old RulesWord no_name RulesWord) each old rules_start
    where
      each : (mid : Cursor) → Fewer source mid (Ends source old RulesWord no_name RulesWord) → Ends source old RulesWord no_name RulesWord mid
      each mid again goes = by_case (decide_named (kind_at source mid))
          (λ named. any_then (rules_at named goes) (name_answered mid)
          λ semicolon forward goes. one_then goes
          λ new fewer goes. again new (omega (arith, forward, fewer)) goes)
          (λ named. none_left (rules_end named goes))

  abbrev OneScheduler : Language
  OneScheduler = Part IsScheduler (λ s. in_braces (scheduler_leaves s))

  pub scheduler_answered : (old : Cursor) → Answered source old OneScheduler Any
  scheduler_answered = by_tokens source (λ old. Answered source old OneScheduler Any) each
    where
      last_choice : (old : Cursor) → Further old (λ mid. Answered source mid OneScheduler Any) → Answered source old LastChoiceWord no_try
      last_choice old inner = by_case (decide_next (next source old) (keyword keywords.Try))
          (λ at. any_last (last_at at) (one_then choice_start
          λ rule fewer goes. any_then goes (name_answered rule)
          λ then forward goes. one_then goes
          λ taken less goes. any_then goes (inner taken (omega (arith, fewer, forward, less)))
          λ else further goes. one_then goes
          λ other least goes. any_last goes (inner other (omega (arith, fewer, forward, less, further, least)))))
          (λ at. none_left (last_none at))

      each : (old : Cursor) → Fewer source old (λ mid. Answered source mid OneScheduler Any) → Answered source old OneScheduler Any
      each old inner = one_then scheduler_start
          λ mid fewer goes. part_then goes (rules_answered mid) (rules_apart Any)
          λ last forward goes. part_then goes (last_choice last (λ m further. inner m (omega (arith, fewer, forward, further)))) (before_one Any no_try (symbol symbols.RightBrace) tt)
          λ close further goes. one_last goes
