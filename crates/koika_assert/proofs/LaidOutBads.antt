-- Lines that are laid out are so with bad lines after them.
use Rattle.std.proofs.Common.{◌≡◌, ℕ, suc, ◌+◌, ◌<◌, cond, List, [], ◌∷◌, ◌++◌, Some, length, map, get_or, refl, sym, ap, ◌∙◌, subst, All}
use Rattle.std.specs.Prelude.{AllPairs, Contains, IfOk, Result, slice_get, ◌==◌}
use Rattle.std.specs.List.{AllByRecursion}
use Rattle.std.proofs.lemmas.List.Elements.{All-append, All-filter, All-from_recursion, filter-append, recursion_from_All}
use Rattle.std.proofs.lemmas.Result.{IfOk-weaker}
use Rattle.btor2_text.specs.declared.line.Line.{Line}
use Rattle.btor2_model.specs.Acceptance.{IsAccepted}
use Rattle.btor2_model.specs.Rules.{is_init, is_next, is_output, is_sort, is_state, rule_of}
use Rattle.btor2_model.specs.Run.{lines_by_rule, width_in}
use Rattle.btor2_model.specs.Scope.{id_at}
use Rattle.btor2_model.specs.declared.rule.FormRule.{FormRule}
use Rattle.btor2_model.specs.declared.rule.FormRule.TheVariants as forms
use Rattle.btor2_net.specs.Layout.{AreLaidOut, DifferInWidth, HasSymbol, StartsBefore, is_named, state_set, value_set}
use Rattle.btor2_net.specs.TidyLines.{is_any_constant}
use Rattle.btor2_net.specs.Translations.{AreCounted}
use Rattle.btor2_net.proofs.WrittenLines.{one-of-all}
use Rattle.koika_assert.specs.Bads.{bad_lines, flag_lines, marked, with_bads}
use Rattle.koika_assert.proofs.MarkedRuns.{marked-ids, picked-out}
use Rattle.koika_assert.proofs.TidyBads.{same}

-- outputs are lines with names
outputs-among : (lines : List Line) → AllByRecursion HasSymbol (lines_by_rule is_named lines) → AllByRecursion HasSymbol (lines_by_rule is_output lines)
outputs-among [] all = tt
outputs-among (line ∷ lines) all = by (rule_of line.keyword) (outputs-among lines) all
  where
    by : (rule : FormRule) → (AllByRecursion HasSymbol (lines_by_rule is_named lines) → AllByRecursion HasSymbol (lines_by_rule is_output lines))
        → AllByRecursion HasSymbol (cond (is_named rule) (line ∷ lines_by_rule is_named lines) (lines_by_rule is_named lines))
        → AllByRecursion HasSymbol (cond (is_output rule) (line ∷ lines_by_rule is_output lines) (lines_by_rule is_output lines))
    by forms.Output rest all = (all.0, rest all.1)
    by forms.Input rest all = rest all.1
    by forms.State rest all = rest all.1
    by forms.Bad rest all = rest all.1
    by other rest all = rest all

bads-named : (id : ℕ) (outputs : List Line) → ((k : ℕ) (line : Line) → slice_get outputs k ≡ Some line → HasSymbol line) → AllByRecursion HasSymbol (lines_by_rule is_named (bad_lines id outputs))
bads-named id [] each = tt
bads-named id (output ∷ outputs) each = (each 0 output refl, bads-named (id + 1) outputs (λ k line at. each (suc k) line at))

-- outputs of one bit that are marked have symbols
marked-named : (lines : List Line) (marks : List ℕ) → All HasSymbol (lines_by_rule is_named lines) → (k : ℕ) (line : Line) → slice_get (marked lines marks) k ≡ Some line → HasSymbol line
marked-named lines marks all =
    let outputs : All HasSymbol (lines_by_rule is_output lines) = All-from_recursion HasSymbol (lines_by_rule is_output lines) (outputs-among lines (recursion_from_All HasSymbol (lines_by_rule is_named lines) all)) in
    let flags : All HasSymbol (flag_lines lines) = All-filter (λ (line : Line). width_in lines (id_at line.arguments 0) == 1) HasSymbol (lines_by_rule is_output lines) outputs in
    picked-out HasSymbol (flag_lines lines) marks (λ k line at. one-of-all HasSymbol (flag_lines lines) k line flags at)

module _ (lines : List Line) (first : ℕ) (outputs : List Line) where
  abbrev all : List Line
  all = lines ++ bad_lines first outputs

  starts-still : (line : Line) → StartsBefore lines line → StartsBefore all line
  starts-still line is = record {
    constant = subst (λ (ls : List Line). Contains (map (λ (l : Line). l.id) ls) (value_set line)) (sym (same lines first outputs is_any_constant refl)) is.constant;
    before = is.before;
  }

  still-laid-out : AreCounted all → ((k : ℕ) (line : Line) → slice_get outputs k ≡ Some line → HasSymbol line) → AreLaidOut lines → AreLaidOut all
  still-laid-out counted named laid = record {
    ids = counted;
    sorts = subst (AllPairs DifferInWidth) (sym (same lines first outputs is_sort refl)) laid.sorts;
    inits = ap (map state_set) (same lines first outputs is_init refl) ∙ laid.inits ∙ sym (ap (map (λ (l : Line). l.id)) (same lines first outputs is_state refl));
    constants = subst (All (StartsBefore all)) (sym (same lines first outputs is_init refl)) (λ k d within. starts-still (get_or (lines_by_rule is_init lines) k d) (laid.constants k d within));
    nexts = ap (map state_set) (same lines first outputs is_next refl) ∙ laid.nexts ∙ sym (ap (map (λ (l : Line). l.id)) (same lines first outputs is_state refl));
    symbols = subst (All HasSymbol) (sym (filter-append (λ (l : Line). is_named (rule_of l.keyword)) lines (bad_lines first outputs)))
        (All-append HasSymbol (lines_by_rule is_named lines) (lines_by_rule is_named (bad_lines first outputs)) laid.symbols
        (All-from_recursion HasSymbol (lines_by_rule is_named (bad_lines first outputs)) (bads-named first outputs named)));
  }

-- the same of what a call gives, where it gives the lines
pub are-laid-out : {E : Type 0} (r : Result (List Line) E) (lines : List Line) (marks : List ℕ) → IsAccepted lines → AreCounted lines → All (λ (mark : ℕ). mark < length (flag_lines lines)) marks
    → IfOk r (λ (all : List Line). all ≡ with_bads lines marks) → IfOk r (λ (all : List Line). AreLaidOut lines → AreLaidOut all)
are-laid-out {E} r lines marks accepted counted within is =
    IfOk-weaker r (λ (all : List Line). all ≡ with_bads lines marks) (λ (all : List Line). AreLaidOut lines → AreLaidOut all)
    (λ all at laid. subst AreLaidOut (sym at) (still-laid-out lines (length lines + 1) (marked lines marks) (marked-ids lines accepted counted marks within) (marked-named lines marks laid.symbols) laid)) is
