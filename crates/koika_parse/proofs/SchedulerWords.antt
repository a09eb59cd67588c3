-- The words of schedulers.
use Rattle.koika_parse.proofs.Witnesses.{a_name, a_name_is, some_name, some_scheduler}
use Rattle.koika_parse.proofs.Parts.{is_choice, is_scheduler}
use Rattle.koika_parse.proofs.Calls.{leaves_choice, leaves_scheduler}
use Rattle.std.proofs.Common.{◌≡◌, Option, None, Some, IfSome, List, [], ◌++◌, append_assoc, inl, inr, refl, ap, sym, subst, ◌∙◌}
use Rattle.std.specs.Prelude.{◌⊎◌}
use Rattle.std.specs.List.{All, flat_map}
use Rattle.koika_syntax.specs.Grammar.{IsName, IsScheduler, scheduler_leaves, rule_leaves, choice_step, last_leaves}
use Rattle.koika_syntax.specs.inner.Grammar.{choice_leaves}
use Rattle.koika_syntax.specs.Tree.{Leaf, Terminal, keyword, symbol, name_leaves, word, sign, in_braces}
use Rattle.koika_syntax.specs.declared.keyword.Keyword.{Keyword}
use Rattle.koika_syntax.specs.declared.keyword.Keyword.TheVariants as keywords
use Rattle.koika_syntax.specs.declared.symbol.Symbol.TheVariants as symbols
use Rattle.koika_parse.specs.inner.Expected.{Any, One, Part, Then, first, Behind}
use Rattle.koika_parse.specs.inner.Words.{LastChoiceWord, RulesWord, no_name, no_try}
use Rattle.std.specs.Option.{option_map}
use Rattle.koika_syntax.specs.declared.token.TokenKind.TheVariants as kinds
use Rattle.koika_parse.proofs.Expected.{Apart, Empty, before_one, kind_of, Goes, start, goes_as, kind_of_next, kind_is}
use Rattle.koika_parse.proofs.Expected.{name_of, same_of_some, never_none, Has, Within, begin, has_within, kept, made}
use Rattle.koika_parse.proofs.Expected.{same_of, same_one, same_part, same_then, some_one, some_then, starts}
use Rattle.koika_syntax.specs.declared.tree.Name.{Name}
use Rattle.koika_syntax.specs.declared.tree.Choice.{Choice, roll-Choice}
use Rattle.koika_syntax.specs.declared.tree.Scheduler.{Scheduler, roll-Scheduler}
use Rattle.koika_parse.specs.inner.Parts.{IsChoice}
use Rattle.koika_parse.proofs.Words.{Known, one, part, this, ◌then◌, sign_word, assoc2}
use Rattle.koika_parse.specs.inner.Reading.{kind_at, next}
use Rattle.koika_parse.specs.declared.cursor.Cursor.{Cursor}
use Rattle.koika_parse.specs.declared.source.Source.{Source}
use Rattle.koika_parse.proofs.Rows.{the_first, the_second, rows_none, rows_split}
use Rattle.koika_parse.proofs.Layers.{Such, of_leaves, choice_kind, choice_grown, choice_leaves_by}
use Rattle.koika_parse.proofs.Layers.{scheduler_kind, scheduler_grown, scheduler_layer, scheduler_leaves_by}

-- a scheduler in its braces
abbrev pub BracedScheduler : List Leaf → Type 0
BracedScheduler = Part IsScheduler (λ s. in_braces (scheduler_leaves s))

abbrev pub SchedulerWord : List Leaf → Type 0
SchedulerWord = Then (One (symbol symbols.LeftBrace)) (Then (RulesWord) (Then (LastChoiceWord) (One (symbol symbols.RightBrace))))

abbrev pub ChoiceWord : List Leaf → Type 0
ChoiceWord =
    Then (One (keyword keywords.Try)) (Then (Part IsName name_leaves)
    (Then (One (keyword keywords.Then)) (Then BracedScheduler (Then (One (keyword keywords.Else)) BracedScheduler))))

-- their words, with their parts
abbrev scheduler_words : Has RulesWord → Has LastChoiceWord → Known SchedulerWord
scheduler_words rules last = one (symbol symbols.LeftBrace) then part rules then part last then one (symbol symbols.RightBrace)

abbrev choice_words : Has (Part IsName name_leaves) → (taken other : Has BracedScheduler) → Known ChoiceWord
choice_words rule taken other =
    one (keyword keywords.Try) then part rule then one (keyword keywords.Then) then part taken then one (keyword keywords.Else) then part other

braced_rules : (rules : List Name) (last : List Leaf) →
    in_braces (flat_map rule_leaves rules ++ last) ≡ sign symbols.LeftBrace ++ (flat_map rule_leaves rules ++ (last ++ sign symbols.RightBrace))
braced_rules rules last = ap (λ t. sign symbols.LeftBrace ++ t) (append_assoc (flat_map rule_leaves rules) last (sign symbols.RightBrace))

choice_in_turn : (rule : Name) (taken other : List Leaf) →
    choice_step (record { rule = rule; then = taken; otherwise = other })
    ≡ word keywords.Try ++ (name_leaves rule ++ (word keywords.Then ++ (in_braces taken ++ (word keywords.Else ++ in_braces other))))
choice_in_turn rule taken other =
    ap (λ t. word keywords.Try ++ (name_leaves rule ++ (word keywords.Then ++ t))) (assoc2 (in_braces taken) (word keywords.Else) (in_braces other))

scheduler_layer_word : (rules : List Name) (last : Option (Such IsChoice)) → All IsName rules →
    SchedulerWord (in_braces (scheduler_layer (scheduler_kind.closed (record { rules = rules; last = last }))))
scheduler_layer_word rules None here = subst SchedulerWord (sym (braced_rules rules [])) (scheduler_words (this rules here) (this None tt)).some.1
scheduler_layer_word rules (Some b) here =
    subst SchedulerWord (sym (braced_rules rules (choice_leaves b.0))) (scheduler_words (this rules here) (this (Some b.0) b.1)).some.1

pub scheduler_word : (t : Scheduler) → IsScheduler t → SchedulerWord (in_braces (scheduler_leaves t))
scheduler_word = of_leaves scheduler_kind scheduler_grown scheduler_leaves_by (λ u. SchedulerWord (in_braces u)) (λ y here. scheduler_layer_word y.rules y.last here)

pub choice_word : (t : Choice) → IsChoice t → ChoiceWord (choice_leaves t)
choice_word = of_leaves choice_kind choice_grown choice_leaves_by ChoiceWord (λ c named.
    subst ChoiceWord (sym (choice_in_turn c.rule (scheduler_leaves c.then.0) (scheduler_leaves c.otherwise.0)))
    (choice_words (this c.rule named) (this c.then.0 c.then.1) (this c.otherwise.0 c.otherwise.1)).some.1)

first_of : (k : Keyword) (Q : List Leaf → Type 0) (u v : List Leaf) → Then (One (keyword k)) Q u → first (u ++ v) ≡ Some (keyword k)
first_of k Q u v both = ap (λ l. first (l ++ v)) (both.4 ∙ ap (λ l. l ++ both.1) both.2.2) ∙ ap Some both.2.1

-- no name stands behind the rules of a scheduler
pub rules_apart : (Follow : Option Terminal → Type 0) (q v : List Leaf) → Then LastChoiceWord (One (symbol symbols.RightBrace)) q → Behind Follow v → Behind no_name (q ++ v)
rules_apart Follow q v both behind = subst (λ l. Behind no_name (l ++ v)) (sym both.4) (of both.2.0 both.2.1 both.0 both.2.2)
  where
    of : (last : Option Choice) → IfSome last IsChoice → (a : List Leaf) → a ≡ last_leaves last choice_leaves → Behind no_name (a ++ both.1 ++ v)
    of None is a same = subst (λ l. Behind no_name (l ++ both.1 ++ v)) (sym same) (subst (λ l. Behind no_name (l ++ v)) (sym both.3.2) (subst (λ t. no_name (Some t)) (sym both.3.1) tt))
    of (Some c) is a same =
        let begins = first_of keywords.Try _ (choice_leaves c) (both.1 ++ v) (choice_word c is) in
        subst (λ l. Behind no_name (l ++ both.1 ++ v)) (sym same) (subst no_name (sym (ap first (append_assoc (choice_leaves c) both.1 v) ∙ begins)) tt)

-- no `try` stands behind the last choice
pub last_apart : Apart (One (symbol symbols.RightBrace)) Any no_try
last_apart = before_one Any no_try (symbol symbols.RightBrace) tt

not_named : (o : Option Terminal) → no_name o → option_map kind_of o ≡ Some kinds.Name → ⊥
not_named None free e = never_none e
not_named (Some t) free e = let b = name_of t (same_of_some e) in subst (λ t. no_name (Some t)) b.1 free

-- what is made of the words
scheduler_of : (rules : List Name) (last : Option Choice) → All IsName rules → IfSome last IsChoice →
    (s : Scheduler) × IsScheduler s
    × (in_braces (scheduler_leaves s) ≡ sign symbols.LeftBrace ++ (flat_map rule_leaves rules ++ (last_leaves last choice_leaves ++ sign symbols.RightBrace)))
scheduler_of rules None named is =
    let s = roll-Scheduler (record { rules = rules; last = None }) in
    (s, is_scheduler rules None named tt, ap in_braces (leaves_scheduler rules None) ∙ braced_rules rules [])
scheduler_of rules (Some c) named is =
    let s = roll-Scheduler (record { rules = rules; last = Some c }) in
    (s, is_scheduler rules (Some c) named is, ap in_braces (leaves_scheduler rules (Some c)) ∙ braced_rules rules (choice_leaves c))

no_rules : Has RulesWord
no_rules = ([], rows_none IsName rule_leaves)

abbrev known_scheduler : Known SchedulerWord
known_scheduler = scheduler_words no_rules ([], (None, tt, refl))

scheduler_within : Within SchedulerWord BracedScheduler
scheduler_within q both =
    let rules = both.3.2 in
    let last = both.3.3.2 in
    let found = scheduler_of rules.0 last.0 rules.1 last.1 in
    made q (known_scheduler.like q both) found.0 found.1 found.2

pub scheduler_start : {source : Source} {cursor : Cursor} {Follow : Option Terminal → Type 0} → Goes source cursor cursor BracedScheduler Follow SchedulerWord
scheduler_start = starts SchedulerWord scheduler_word known_scheduler.some scheduler_within

abbrev known_choice : Known ChoiceWord
known_choice = choice_words some_name some_scheduler some_scheduler

choice_within : Within ChoiceWord (Part IsChoice choice_leaves)
choice_within q both =
    let rule = both.3.2 in
    let taken = both.3.3.3.2 in
    let other = both.3.3.3.3.3 in
    made q (known_choice.like q both)
    (roll-Choice (record { rule = rule.0; then = taken.0; otherwise = other.0 })) (is_choice rule.0 taken.0 other.0 rule.1 taken.1 other.1)
    (leaves_choice rule.0 taken.0 other.0 ∙ choice_in_turn rule.0 (scheduler_leaves taken.0) (scheduler_leaves other.0))

some_choice : Has (Part IsChoice choice_leaves)
some_choice = has_within choice_within known_choice.some

pub choice_start : {source : Source} {cursor : Cursor} {Follow : Option Terminal → Type 0} → Goes source cursor cursor (Part IsChoice choice_leaves) Follow ChoiceWord
choice_start = starts ChoiceWord choice_word known_choice.some choice_within

pub rules_start : {source : Source} {cursor : Cursor} {Follow : Option Terminal → Type 0} → Goes source cursor cursor RulesWord Follow RulesWord
rules_start = begin RulesWord no_rules

-- at a name, one rule more; elsewhere none
abbrev pub RuleWord : List Leaf → Type 0
RuleWord = Then (Part IsName name_leaves) (Then (One (symbol symbols.Semicolon)) RulesWord)

some_rule : Has RuleWord
some_rule = some_then some_name (some_then (some_one (symbol symbols.Semicolon)) no_rules)

rule_word : (r : List Leaf) → Then (Part IsName rule_leaves) RulesWord r → RuleWord r
rule_word r both =
    let n = both.2 in
    let ends = sign symbols.Semicolon ++ both.1 in
    (name_leaves n.0, ends, (n.0, n.1, refl), (sign symbols.Semicolon, both.1, sign_word symbols.Semicolon, both.3, refl), both.4 ∙ ap (λ l. l ++ both.1) n.2)

rule_within : Within RuleWord (Then (Part IsName rule_leaves) RulesWord)
rule_within q both =
    let n = both.2 in
    let rest = both.3.1 in
    kept q (rule_leaves n.0 ++ rest) (rule_leaves n.0, rest, (n.0, n.1, refl), both.3.3, refl)
    (same_then (name_leaves n.0) (sign symbols.Semicolon ++ rest) both (same_part n) (same_then (sign symbols.Semicolon) rest both.3 (same_one both.3.2) (same_of refl)))

pub rules_at : {source : Source} {old new : Cursor} {Word : List Leaf → Type 0} → kind_at source new ≡ Some kinds.Name →
    Goes source old new Word no_name RulesWord → Goes source old new Word no_name RuleWord
rules_at {source} {old} {new} named goes =
    let more = the_second (rows_split IsName rule_leaves goes)
    (λ r v empty behind at. not_named (first v) behind (ap (option_map kind_of) (ap (λ l. first (l ++ v)) (sym empty) ∙ at) ∙ kind_of_next source new ∙ named))
    (some_then (rule_leaves a_name, (a_name, a_name_is, refl)) no_rules) in
    goes_as more rule_word some_rule rule_within

pub rules_end : {source : Source} {old new : Cursor} {Word : List Leaf → Type 0} → (kind_at source new ≡ Some kinds.Name → ⊥) →
    Goes source old new Word no_name RulesWord → Goes source old new Word no_name Empty
rules_end {source} {old} {new} other goes = the_first (rows_split IsName rule_leaves goes)
    (λ r v both behind at. other (kind_is source new (sym (ap (λ l. first (l ++ v)) (both.4 ∙ ap (λ l. l ++ both.1) both.2.2)) ∙ at))) ([], refl)

-- no last choice, or one
last_cases : (u : List Leaf) → LastChoiceWord u → Empty u ⊎ Part IsChoice choice_leaves u
last_cases u word = subst (λ u. Empty u ⊎ Part IsChoice choice_leaves u) (sym word.2) (of word.0 word.1)
  where
    of : (last : Option Choice) → IfSome last IsChoice → Empty (last_leaves last choice_leaves) ⊎ Part IsChoice choice_leaves (last_leaves last choice_leaves)
    of None is = inl refl
    of (Some c) is = inr (c, is, refl)

last_within : Within (λ u. Empty u ⊎ Part IsChoice choice_leaves u) LastChoiceWord
last_within q (inl empty) = kept q [] (None, tt, refl) (same_of (sym empty))
last_within q (inr part) = kept q q (Some part.0, part.1, part.2) (same_of refl)

last_start : {source : Source} {cursor : Cursor} {Follow : Option Terminal → Type 0} → Goes source cursor cursor LastChoiceWord Follow (λ u. Empty u ⊎ Part IsChoice choice_leaves u)
last_start = start last_cases ([], inl refl) last_within

first_choice : (r v : List Leaf) → Part IsChoice choice_leaves r → first (r ++ v) ≡ Some (keyword keywords.Try)
first_choice r v part = first_of keywords.Try _ r v (subst ChoiceWord (sym part.2) (choice_word part.0 part.1))

pub last_at : {source : Source} {cursor : Cursor} → next source cursor ≡ Some (keyword keywords.Try) → Goes source cursor cursor LastChoiceWord no_try (Part IsChoice choice_leaves)
last_at at_try = the_second last_start (λ r v empty behind at. subst no_try (ap (λ l. first (l ++ v)) (sym empty) ∙ at ∙ at_try) behind) some_choice

pub last_none : {source : Source} {cursor : Cursor} → (next source cursor ≡ Some (keyword keywords.Try) → ⊥) → Goes source cursor cursor LastChoiceWord no_try Empty
last_none other = the_first last_start (λ r v part behind at. other (sym at ∙ first_choice r v part)) ([], refl)
