-- Declarations, schedulers and whole designs are read as they are, with other places.
use Rattle.std.proofs.Common.{◌≡◌, ℕ, zero, suc, ◌+◌, Option, Some, None, IfSome, List, [], ◌∷◌, ◌++◌}
use Rattle.std.proofs.Common.{length, map, refl, ap, sym, ◌∙◌, arith, append_assoc}
use Rattle.std.specs.Prelude.{⊤}
use Rattle.std.specs.List.{AllByRecursion, flat_map}
use Rattle.std.proofs.lemmas.List.Elements.{recursion_from_All}
use Rattle.koika_syntax.specs.Grammar.{IsType, IsBlock, IsField, IsDeclaration, IsScheduler, IsDesign, type_leaves, constant_leaves, block_leaves}
use Rattle.koika_syntax.specs.Grammar.{member_leaves, field_leaves, result_leaves, declaration_leaves, rule_leaves, scheduler_leaves, tree_leaves}
use Rattle.koika_syntax.specs.Tree.{Leaf, symbol, keyword, sign, word, placed, literal_leaves, commas, with_between}
use Rattle.koika_syntax.specs.declared.keyword.Keyword.TheVariants as keywords
use Rattle.koika_syntax.specs.declared.symbol.Symbol.TheVariants as symbols
use Rattle.koika_syntax.specs.declared.tree.Block.{Block}
use Rattle.koika_syntax.specs.declared.tree.Choice.{Choice}
use Rattle.koika_syntax.specs.declared.tree.Declaration.{Declaration}
use Rattle.koika_syntax.specs.declared.tree.Declaration.TheVariants as declarations
use Rattle.koika_syntax.specs.declared.tree.EnumMember.{EnumMember}
use Rattle.koika_syntax.specs.declared.tree.Field.{Field}
use Rattle.koika_syntax.specs.declared.tree.Literal.{Literal}
use Rattle.koika_syntax.specs.declared.tree.Name.{Name}
use Rattle.koika_syntax.specs.declared.tree.Scheduler.{Scheduler, roll-Scheduler}
use Rattle.koika_syntax.specs.declared.tree.Tree.{Tree}
use Rattle.koika_syntax.specs.declared.tree.TypeExpression.{TypeExpression}
use Rattle.koika_syntax.specs.inner.Grammar.{choice_leaves}
use Rattle.koika_parse.specs.Places.{moved_name, moved_literal, moved_block, moved_member, moved_field, moved_result, moved_declaration, moved_scheduler, moved}
use Rattle.koika_parse.specs.inner.Parts.{IsChoice}
use Rattle.koika_parse.proofs.Layers.{Such, choice_kind, choice_grown, choice_leaves_by, scheduler_kind, scheduler_grown, scheduler_layer, scheduler_leaves_by}
use Rattle.koika_parse.proofs.UnambiguousGrammar.{on, with_literal, give, many, phrase, a_type, a_scheduler, grammar, member, field, result, declaration_of, declaration_at, rule, last_at, design}
use Rattle.koika_parse.proofs.UnambiguousReaders.{Item, Shows, Reads, Begins, Front, Refuses, grouped, refuses_then, reads_give, reads_placed, reads_sign, reads_skip, reads_then}
use Rattle.koika_parse.proofs.UnambiguousReaders.{reads_freely, reads_map, reads_or, reads_other, reads_many, reads_phrase, first_sign}
use Rattle.koika_parse.proofs.UnambiguousLevels.{by_layers, moved_choice, choice_moved_by, scheduler_becomes, scheduler_moved_by}
use Rattle.koika_parse.proofs.UnambiguousExpressions.{no_facts, list_reads, nothing, types_read, constants_read, blocks_read}

no_unit : (d : ℕ) → Refuses d (phrase a_type) (keyword keywords.Unit)
no_unit zero = record { refuses = λ q items. refl }
no_unit (suc d) = record { refuses = λ q items. refl }

no_field : {d : ℕ} → Refuses d field (symbol symbols.RightParenthesis)
no_field = record { refuses = λ q items. refl }

declaration_begins : (d : Declaration) → Begins 16 (declaration_leaves d)
declaration_begins (declarations.Enum n width members) = refl
declaration_begins (declarations.Struct n fields) = refl
declaration_begins (declarations.Register n of first) = refl
declaration_begins (declarations.Input n of) = refl
declaration_begins (declarations.Table n input output entries) = refl
declaration_begins (declarations.Host n input output) = refl
declaration_begins (declarations.Function f parameters of body) = refl
declaration_begins (declarations.Rule n body) = refl
declaration_begins (declarations.Assert n) = refl

-- leaves grouped to the right
grouped3 : (a b c d : List Leaf) → ((a ++ b) ++ c) ++ d ≡ a ++ ((b ++ c) ++ d)
grouped3 a b c d = ap (λ l. l ++ d) (append_assoc a b c) ∙ append_assoc a (b ++ c) d

-- a scheduler and the bracket after it
abbrev closed_leaves : Scheduler → List Leaf
closed_leaves t = scheduler_leaves t ++ sign symbols.RightBrace

abbrev ReadsSchedulers : (ℕ → ℕ) → ℕ → Type 0
ReadsSchedulers at d = (t : Scheduler) → IsScheduler t → (k : ℕ) → Reads at d d (phrase a_scheduler) (closed_leaves t) (moved_scheduler at t) k

module _ {at : ℕ → ℕ} (d : ℕ) where
  member_reads : (m : EnumMember) → ⊤ → Reads at d d member (member_leaves m) (moved_member at m) 1
  member_reads m is = reads_placed (reads_skip (reads_placed reads_give))

  field_reads : (f : Field) → IsField f → Reads at d d field (field_leaves f) (moved_field at f) 1
  field_reads f is = reads_placed (reads_skip (reads_map (types_read d f.of is.1 1)))

  entry_reads : (l : Literal) → ⊤ → Reads at d d (on (with_literal give)) (literal_leaves l) (moved_literal at l) 1
  entry_reads l is = reads_placed reads_give

  result_reads : (of : Option TypeExpression) → IfSome of IsType → (k : ℕ) → Reads at d d result (result_leaves of) (moved_result at of) k
  result_reads None is k = reads_other (refuses_then (no_unit d)) (reads_skip reads_give)
  result_reads (Some of) is k = reads_or (reads_map (types_read d of is k))

  parameters_reads : (n : Name) (ps : List Field) → AllByRecursion IsField ps → (of : Option TypeExpression) → IfSome of IsType → (body : Block) → IsBlock body → (k : ℕ) →
      Reads at d d (declaration_of keywords.Fun n) (sign symbols.LeftParenthesis ++
      (commas (map field_leaves ps) ++ (sign symbols.RightParenthesis ++ (sign symbols.Colon ++ (result_leaves of ++ block_leaves body)))))
      (declarations.Function n (map (moved_field at) ps) (moved_result at of) (moved_block at body)) k
  unfolding with_between
  parameters_reads n [] all of is body is' k =
      reads_skip (reads_other (refuses_then (refuses_then no_field)) (reads_skip (reads_skip (reads_freely (result_reads of is) (reads_map (blocks_read d body is' k))))))
  parameters_reads n (p ∷ ps) all of is body is' k =
      reads_skip (reads_or (list_reads symbols.RightParenthesis field_leaves (moved_field at) IsField field_reads (p ∷ ps) (omega arith) all (omega arith)
      (reads_skip (reads_freely (result_reads of is) (reads_map (blocks_read d body is' k))))))

  declaration_reads : (t : Declaration) → IsDeclaration t → (k : ℕ) → Reads at d d (on declaration_at) (declaration_leaves t) (moved_declaration at t) k
  declaration_reads (declarations.Enum n width members) is k =
      reads_sign (λ q. reads_placed (reads_skip (reads_placed (reads_placed (reads_skip
      (list_reads symbols.RightBrace member_leaves (moved_member at) (λ m. ⊤) member_reads members is.2 (no_facts members) (omega arith) reads_give))))))
  declaration_reads (declarations.Struct n fields) is k =
      reads_sign (λ q. reads_placed (reads_skip (list_reads symbols.RightBrace field_leaves (moved_field at) IsField field_reads fields is.1 (recursion_from_All IsField fields is.2)
      (omega arith) reads_give)))
  declaration_reads (declarations.Register n of first) is k =
      reads_sign (λ q. reads_placed (reads_skip (grouped (grouped3 (type_leaves of) (sign symbols.Equals) (constant_leaves first) (sign symbols.Semicolon))
      (reads_freely (types_read d of is.1) (reads_skip (reads_then (constants_read d first is.2) (omega arith) (reads_skip reads_give)))))))
  declaration_reads (declarations.Input n of) is k = reads_sign (λ q. reads_placed (reads_skip (reads_freely (types_read d of is.1) (reads_skip reads_give))))
  declaration_reads (declarations.Table n input output entries) is k =
      reads_sign (λ q. reads_placed (reads_skip (reads_placed (reads_placed (reads_skip (reads_placed (reads_placed (reads_skip
      (list_reads symbols.RightBrace literal_leaves (moved_literal at) (λ l. ⊤) entry_reads entries is.3 (no_facts entries) (omega arith) reads_give)))))))))
  declaration_reads (declarations.Host n input output) is k =
      reads_sign (λ q. reads_placed (reads_skip (reads_placed (reads_placed (reads_skip (reads_placed (reads_placed (reads_skip reads_give))))))))
  declaration_reads (declarations.Function n parameters of body) is k =
      let ps = commas (map field_leaves parameters) in
      let close = sign symbols.RightParenthesis in
      let same = ap (λ l. l ++ block_leaves body) (grouped3 ps close (sign symbols.Colon) (result_leaves of))
      ∙ append_assoc ps ((close ++ sign symbols.Colon) ++ result_leaves of) (block_leaves body) in
      reads_sign (λ q. reads_placed (grouped (ap (λ l. sign symbols.LeftParenthesis ++ l) same)
      (parameters_reads (moved_name at n) parameters (recursion_from_All IsField parameters is.1) of is.2 body is.3 k)))
  declaration_reads (declarations.Rule n body) is k = reads_sign (λ q. reads_placed (reads_map (blocks_read d body is.1 k)))
  declaration_reads (declarations.Assert n) is k = reads_sign (λ q. reads_placed (reads_skip reads_give))

  module _ (claim : ReadsSchedulers at d) (k : ℕ) where
    abbrev ReadsLast : List Name → choice_kind.Layer → List Leaf → Choice → Type 0
    ReadsLast rules dl l x =
        Front 14 (l ++ sign symbols.RightBrace) k × Reads at d (suc d) (on (last_at rules)) (l ++ sign symbols.RightBrace) (roll-Scheduler (record { rules = rules; last = Some x })) k

    choice_reads : (rules : List Name) (t : Choice) → IsChoice t →
        Front 14 (choice_leaves t ++ sign symbols.RightBrace) k ×
        Reads at d (suc d) (on (last_at rules)) (choice_leaves t ++ sign symbols.RightBrace) (roll-Scheduler (record { rules = rules; last = Some (moved_choice at t) })) k
    choice_reads rules = by_layers choice_kind choice_grown choice_leaves_by (choice_moved_by at) (ReadsLast rules)
        (λ y is.
        let same = grouped3 (closed_leaves y.then.0) (word keywords.Else) (sign symbols.LeftBrace ++ closed_leaves y.otherwise.0) (sign symbols.RightBrace) in
        let fires = claim y.then.0 y.then.1 in
        let waits = claim y.otherwise.0 y.otherwise.1 in (
          omega arith,
          first_sign (λ q. reads_placed (reads_skip (reads_skip (grouped same
              (reads_freely fires (reads_skip (reads_skip (reads_freely waits (reads_skip reads_give))))))))),
        )
        )

    rules_read : (rules : List Name) → Reads at d (suc d) (many 15 rule) (flat_map rule_leaves rules) (map (moved_name at) rules) 14
    rules_read rules = reads_many rule_leaves (moved_name at) (λ n. ⊤) (λ n is. reads_placed (reads_skip reads_give)) (λ n is. refl) rules (no_facts rules)

    abbrev ReadsScheduler : scheduler_kind.Layer → List Leaf → Scheduler → Type 0
    ReadsScheduler dl l x = Reads at d (suc d) (grammar a_scheduler) (l ++ sign symbols.RightBrace) x k

    last_reads : (rules : List Name) (last : Option (Such IsChoice)) →
        let y : scheduler_kind.Open = record { rules = rules; last = last } in
        ReadsScheduler (scheduler_kind.closed y) (scheduler_layer (scheduler_kind.closed y)) (scheduler_becomes at (scheduler_kind.closed y))
    last_reads rules None =
        grouped (append_assoc (flat_map rule_leaves rules) [] (sign symbols.RightBrace)) (reads_then (rules_read rules) (omega arith) (reads_sign (λ q. reads_give)))
    last_reads rules (Some c) =
        let last = choice_reads (map (moved_name at) rules) c.0 c.1 in
        grouped (append_assoc (flat_map rule_leaves rules) (choice_leaves c.0) (sign symbols.RightBrace)) (reads_then (rules_read rules) last.0 last.1)

    scheduler_reads : (t : Scheduler) → IsScheduler t → Reads at d (suc d) (grammar a_scheduler) (closed_leaves t) (moved_scheduler at t) k
    scheduler_reads = by_layers scheduler_kind scheduler_grown scheduler_leaves_by (scheduler_moved_by at) ReadsScheduler (λ y is. last_reads y.rules y.last)

module _ (at : ℕ → ℕ) where
  schedulers_read : (d : ℕ) → ReadsSchedulers at d
  schedulers_read zero = λ t is k. nothing
  schedulers_read (suc d) = λ t is k. reads_phrase {s = a_scheduler} (scheduler_reads d (schedulers_read d) k t is)

  design_reads : (d : ℕ) (t : Tree) → IsDesign t → Reads at d d design (tree_leaves t) (moved at t) 0
  design_reads d t is =
      let schedule = placed (keyword keywords.Schedule) t.schedule in
      let all = reads_many declaration_leaves (moved_declaration at) IsDeclaration (λ t is. declaration_reads d t is 16) (λ t is. declaration_begins t) t.declarations
      (recursion_from_All IsDeclaration t.declarations is.declarations) in
      grouped (append_assoc (flat_map declaration_leaves t.declarations) schedule (sign symbols.LeftBrace ++ closed_leaves t.scheduler))
      (reads_then all (omega arith) (reads_placed (reads_skip (reads_map (schedulers_read d t.scheduler is.scheduler 0)))))

  -- two trees of the grammar whose leaves are the same items are the same with other places
  pub one_moved : (t u : Tree) → IsDesign t → IsDesign u → (items : List Item) → Shows at (tree_leaves t) items [] → Shows at (tree_leaves u) items [] → moved at t ≡ moved at u
  one_moved t u is is' items shows shows' =
      let d = suc (length (tree_leaves t) + length (tree_leaves u)) in
      let r = (design_reads d t is).reads items [] (omega arith) shows (omega arith) in
      let s = (design_reads d u is').reads items [] (omega arith) shows' (omega arith) in
      ap found (sym r ∙ s)
    where
      found : Option (Tree × List Item) → Tree
      found None = t
      found (Some read) = read.0
