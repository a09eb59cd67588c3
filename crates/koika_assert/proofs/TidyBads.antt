-- Tidy lines are tidy with bad lines behind them.
use Rattle.std.proofs.Common.{◌≡◌, ◌≢◌, ℕ, ◌+◌, ◌⊎◌, inl, inr, Bool, false, cond, List, [], ◌∷◌, ◌++◌, length, map, get_or, refl, sym, ap, ◌∙◌, subst, arith, append-nil, All}
use Rattle.std.specs.Prelude.{AllPairs, Contains, IfOk, Result}
use Rattle.std.proofs.lemmas.List.Elements.{All-cons, All-contains, All-nil, Contains-append_cases, Contains-get_or, filter-append}
use Rattle.std.proofs.lemmas.Result.{IfOk-weaker}
use Rattle.btor2_text.specs.declared.keyword.Keyword.{Keyword}
use Rattle.btor2_text.specs.declared.keyword.Keyword.TheVariants as keywords
use Rattle.btor2_text.specs.declared.line.Argument.{Argument}
use Rattle.btor2_text.specs.declared.line.Line.{Line}
use Rattle.btor2_model.specs.Rules.{is_next, is_output, rule_of}
use Rattle.btor2_model.specs.Run.{lines_by_rule}
use Rattle.btor2_model.specs.Scope.{id_at}
use Rattle.btor2_model.specs.declared.rule.FormRule.{FormRule}
use Rattle.btor2_model.specs.declared.rule.FormRule.TheVariants as forms
use Rattle.btor2_net.specs.TidyLines.{AreTidy, Differ, IdServes, IsNeededBy, IsNeededLine, IsOpenLine, is_any_constant, is_operator, next, operand, operand_ids, output}
use Rattle.koika_assert.specs.Bads.{bad_line, bad_lines, marked, with_bads}

no-others : (test : FormRule → Bool) (id : ℕ) (outputs : List Line) → test forms.Bad ≡ false → lines_by_rule test (bad_lines id outputs) ≡ []
no-others test id [] never = refl
no-others test id (one ∷ outputs) never = ap (λ (b : Bool). cond b (bad_line id one ∷ lines_by_rule test (bad_lines (id + 1) outputs)) (lines_by_rule test (bad_lines (id + 1) outputs))) never ∙ no-others test (id + 1) outputs never

all-bad : (id : ℕ) (outputs : List Line) (line : Line) → Contains (bad_lines id outputs) line → line.keyword ≡ keywords.Bad
all-bad id [] line there = absurd (omega (arith, there.1))
all-bad id (one ∷ outputs) line there = by (all-bad (id + 1) outputs line) (Contains-append_cases (bad_line id one ∷ []) (bad_lines (id + 1) outputs) line there)
  where
    by : (Contains (bad_lines (id + 1) outputs) line → line.keyword ≡ keywords.Bad) → Contains (bad_line id one ∷ []) line ⊎ Contains (bad_lines (id + 1) outputs) line → line.keyword ≡ keywords.Bad
    by rest (inl here) = All-contains (λ (l : Line). l.keyword ≡ keywords.Bad) (bad_line id one ∷ []) line (All-cons (λ (l : Line). l.keyword ≡ keywords.Bad) (bad_line id one) [] refl (All-nil (λ (l : Line). l.keyword ≡ keywords.Bad))) here
    by rest (inr later) = rest later

module _ (lines : List Line) (first : ℕ) (outputs : List Line) where
  abbrev all : List Line
  all = lines ++ bad_lines first outputs

  -- lines of other rules are the same
  pub same : (test : FormRule → Bool) → test forms.Bad ≡ false → lines_by_rule test all ≡ lines_by_rule test lines
  same test never =
      filter-append (λ (l : Line). test (rule_of l.keyword)) lines (bad_lines first outputs) ∙ ap (λ (ls : List Line). lines_by_rule test lines ++ ls) (no-others test first outputs never)
      ∙ append-nil (lines_by_rule test lines)

  still-there : (test : FormRule → Bool) (line : Line) → test forms.Bad ≡ false → Contains (lines_by_rule test lines) line → Contains (lines_by_rule test all) line
  still-there test line never there = subst (λ (ls : List Line). Contains ls line) (sym (same test never)) there

  still-serves : (id : ℕ) → IdServes lines id → IdServes all id
  still-serves id (next line there) = next line (still-there is_next line refl there)
  still-serves id (output line there) = output line (still-there is_output line refl there)
  still-serves id (operand given user there among serves) = operand id user (still-there is_operator user refl there) among (still-serves user.id serves)

  still-needed : (keyword : Keyword) (given : List Argument) → IsNeededBy lines keyword given → IsNeededBy all keyword given
  still-needed keywords.Ite given needed = needed
  still-needed keywords.And given needed = needed
  still-needed keywords.Or given needed = needed
  still-needed keywords.Not given needed = λ other there is. by other is (Contains-append_cases lines (bad_lines first outputs) other there)
    where
      by : (other : Line) → other.keyword ≡ keywords.Not → Contains lines other ⊎ Contains (bad_lines first outputs) other → other.id ≢ id_at given 1
      by other is (inl before) = needed other before is
      by other is (inr bad) = let keyword = all-bad first outputs other bad in absurd (cc)
  still-needed keyword given needed = tt

  each-needed : (line : Line) → All (IsNeededLine lines) lines → Contains lines line ⊎ Contains (bad_lines first outputs) line → IsNeededLine all line
  each-needed line needed (inl before) = still-needed line.keyword line.arguments (All-contains (IsNeededLine lines) lines line needed before)
  each-needed line needed (inr bad) = subst (λ (keyword : Keyword). IsNeededBy all keyword line.arguments) (sym (all-bad first outputs line bad)) tt

  pub still-tidy : AreTidy lines → AreTidy all
  still-tidy tidy = record {
    distinct = subst (AllPairs Differ) (sym (same is_operator refl)) tidy.distinct;
    serve = subst (All (λ (line : Line). IdServes all line.id)) (sym (same is_operator refl)) (λ k d within. still-serves (get_or (lines_by_rule is_operator lines) k d).id (tidy.serve k d within));
    are_open = subst (All (IsOpenLine all)) (sym (same is_operator refl))
        (λ k d within constants.
        tidy.are_open k d within
        (subst (λ (ls : List Line). All (Contains (map (λ (l : Line). l.id) ls)) (operand_ids (get_or (lines_by_rule is_operator lines) k d).arguments)) (same is_any_constant refl) constants));
    needed = λ k d within. each-needed (get_or all k d) tidy.needed (Contains-append_cases lines (bad_lines first outputs) (get_or all k d) (Contains-get_or all k d within));
  }

-- the same of what a call gives, where it gives the lines
pub are-tidy : {E : Type 0} (r : Result (List Line) E) (lines : List Line) (marks : List ℕ) → IfOk r (λ (all : List Line). all ≡ with_bads lines marks) → IfOk r (λ (all : List Line). AreTidy lines → AreTidy all)
are-tidy {E} r lines marks is =
    IfOk-weaker r (λ (all : List Line). all ≡ with_bads lines marks) (λ (all : List Line). AreTidy lines → AreTidy all)
    (λ all at tidy. subst AreTidy (sym at) (still-tidy lines (length lines + 1) (marked lines marks) tidy)) is
