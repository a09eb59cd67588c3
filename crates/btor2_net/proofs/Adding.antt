-- One more line behind accepted ones.
use Rattle.std.proofs.Common.{◌≡◌, ℕ, zero, suc, ◌+◌, ◌<◌, ◌≤◌, ◌^◌, nat_eq, nat_le, not, Bool, true, false, ◌&&◌, ◌||◌, cond, List, [], ◌∷◌, ◌++◌, Option, None, Some, is_some, length, refl, sym, ap, ap₂, ◌∙◌, subst, arith, length-append}
use Rattle.std.specs.List.{list_all, list_any}
use Rattle.std.specs.Map.{update}
use Rattle.std.specs.Option.{option_map, option_or, option_to_list}
use Rattle.std.proofs.lemmas.Bool.{eq-eqb, eqb-true, leb-false, leb-true}
use Rattle.std.proofs.lemmas.Map.{update_apart, update_here}
use Rattle.kw_base.specs.declared.fault.Fault.{Fault}
use Rattle.btor2_text.specs.Printable.{ArePrintable, AreTokens, FitKinds}
use Rattle.btor2_text.specs.declared.keyword.Keyword.{Keyword}
use Rattle.btor2_text.specs.declared.kind.ArgumentKind.{ArgumentKind}
use Rattle.btor2_text.specs.declared.line.Argument.{Argument}
use Rattle.btor2_text.specs.declared.line.Line.{Line}
use Rattle.btor2_model.specs.Acceptance.{fault_in, init_is_fixed, is_known, line_fault, lines_fault, names_state, numeral_fits, passes, sets_first}
use Rattle.btor2_model.specs.Rules.{bounds_fit, is_input, is_state, role_of, rule_of, widths_agree, width_given}
use Rattle.btor2_model.specs.Run.{StepValues, Values, no_bits, value_by, values_at, values_behind}
use Rattle.btor2_model.specs.Scope.{DeclaredIds, argument_depends, behind, behind_all, measures, measures_of, meaning_of, no_lines, width_or_none}
use Rattle.btor2_model.specs.declared.meaning.IdMeaning.{IdMeaning}
use Rattle.btor2_model.specs.declared.rule.Measures.{Measures}
use Rattle.btor2_model.specs.declared.rule.FormRule.{FormRule}
use Rattle.btor2_model.proofs.Conditions.{Meets, no-fault}
use Rattle.btor2_model.proofs.KindsByRule.{kinds-by, kinds_by}
use Rattle.btor2_net.specs.Pages.{Page, line_on, next_id, put}

behind_all-append : (scope : DeclaredIds) (a b : List Line) → behind_all scope (a ++ b) ≡ behind_all (behind_all scope a) b
behind_all-append scope [] b = refl
behind_all-append scope (line ∷ a) b = behind_all-append (behind scope line) a b

or-none : (f : ℕ → Fault) (o : Option ℕ) (r : Option Fault) → o ≡ None → r ≡ None → option_or (option_map f o) r ≡ None
or-none f None r first rest = rest
or-none f (Some x) r first rest = absurd (cc)

both-none : (a b : Option Fault) → option_or a b ≡ None → (a ≡ None) × (b ≡ None)
both-none None b is = (refl, is)
both-none (Some x) b is = absurd (cc)

lines_fault-append : (scope : DeclaredIds) (a b : List Line) → lines_fault scope a ≡ None → lines_fault (behind_all scope a) b ≡ None → lines_fault scope (a ++ b) ≡ None
lines_fault-append scope [] b first rest = rest
lines_fault-append scope (line ∷ a) b first rest =
    let each = both-none (option_map (fault_in line) (line_fault scope line)) (lines_fault (behind scope line) a) first in
    ap₂ option_or each.0 (lines_fault-append (behind scope line) a b each.1 rest)

values_behind-append : (step : StepValues) (scope : DeclaredIds) (v : Values) (a b : List Line) → values_behind step scope v (a ++ b) ≡ values_behind step (behind_all scope a) (values_behind step scope v a) b
values_behind-append step scope v [] b = refl
values_behind-append step scope v (line ∷ a) b = values_behind-append step (behind scope line) (λ id. cond (nat_eq line.id id) (value_by (rule_of line.keyword) step scope v line) (v id)) a b

printable-push : (lines : List Line) (line : Line) → ArePrintable lines → ArePrintable (line ∷ []) → ArePrintable (lines ++ line ∷ [])
printable-push [] line all own = own
printable-push (first ∷ lines) line all own = (all.0, printable-push lines line all.1 own)

-- what a page declares
abbrev pub scope_of : Page → DeclaredIds
scope_of p = behind_all no_lines p.lines

-- the lines of a page are accepted, and no id is 0 or above their number
pub record Sound (p : Page) : Type 0 where
  pub fine : lines_fault no_lines p.lines ≡ None
  pub forms : length p.lines < 2 ^ 64 → ArePrintable p.lines
  pub low : (scope_of p).meanings 0 ≡ None
  pub bound : (id : ℕ) → length p.lines < id → (scope_of p).meanings id ≡ None

pub scope-put : (p : Page) (keyword : Keyword) (given : List Argument) (symbol : Option (List ℕ)) → scope_of (put p keyword given symbol) ≡ behind (scope_of p) (line_on p keyword given symbol)
scope-put p keyword given symbol = behind_all-append no_lines p.lines (line_on p keyword given symbol ∷ [])

pub length-put : (p : Page) (keyword : Keyword) (given : List Argument) (symbol : Option (List ℕ)) → length (put p keyword given symbol).lines ≡ length p.lines + 1
length-put p keyword given symbol = omega (arith, length-append p.lines (line_on p keyword given symbol ∷ []))

pub meanings-put : (p : Page) (keyword : Keyword) (given : List Argument) (symbol : Option (List ℕ))
    → (scope_of (put p keyword given symbol)).meanings ≡ update nat_eq (scope_of p).meanings (next_id p) (Some (meaning_of (scope_of p) (line_on p keyword given symbol)))
meanings-put p keyword given symbol = ap (λ (s : DeclaredIds). s.meanings) (scope-put p keyword given symbol)

-- the values of a page with one more line
pub values-put : (p : Page) (keyword : Keyword) (given : List Argument) (symbol : Option (List ℕ)) (step : StepValues) (id : ℕ)
    → values_at (put p keyword given symbol).lines step id
    ≡ cond (nat_eq (next_id p) id) (value_by (rule_of keyword) step (scope_of p) (values_at p.lines step) (line_on p keyword given symbol)) (values_at p.lines step id)
values-put p keyword given symbol step id = ap (λ (f : Values). f id) (values_behind-append step no_lines (λ _. no_bits) p.lines (line_on p keyword given symbol ∷ []))

-- an id that is known is from 1 to the number of lines
pub known-within : (p : Page) (id : ℕ) (m : IdMeaning) → Sound p → (scope_of p).meanings id ≡ Some m → (1 ≤ id) × (id ≤ length p.lines)
known-within p id m s is = (positive id refl, at-most (nat_le id (length p.lines)) refl)
  where
    positive : (k : ℕ) → id ≡ k → 1 ≤ id
    positive zero same = let none : (scope_of p).meanings id ≡ None = ap (scope_of p).meanings same ∙ s.low in absurd (cc)
    positive (suc k) same = omega (arith, same)

    at-most : (b : Bool) → nat_le id (length p.lines) ≡ b → id ≤ length p.lines
    at-most true le = leb-true id (length p.lines) le
    at-most false gt = let none = s.bound id (leb-false id (length p.lines) gt) in absurd (cc)

-- what an id means stays
pub means-put : (p : Page) (keyword : Keyword) (given : List Argument) (symbol : Option (List ℕ)) (id : ℕ) (m : IdMeaning) → Sound p → (scope_of p).meanings id ≡ Some m → (scope_of (put p keyword given symbol)).meanings id ≡ Some m
means-put p keyword given symbol id m s is =
    let within = known-within p id m s is in
    ap (λ (f : ℕ → Option IdMeaning). f id) (meanings-put p keyword given symbol) ∙ update_apart (scope_of p).meanings (next_id p) (Some (meaning_of (scope_of p) (line_on p keyword given symbol))) id (λ same. omega (arith, within.1, same)) ∙ is

-- and the line's own
pub means-new : (p : Page) (keyword : Keyword) (given : List Argument) (symbol : Option (List ℕ)) → (scope_of (put p keyword given symbol)).meanings (next_id p) ≡ Some (meaning_of (scope_of p) (line_on p keyword given symbol))
means-new p keyword given symbol =
    ap (λ (f : ℕ → Option IdMeaning). f (next_id p)) (meanings-put p keyword given symbol) ∙ update_here (scope_of p).meanings (next_id p) (Some (meaning_of (scope_of p) (line_on p keyword given symbol)))

apart : (a b : ℕ) → (a ≡ b → ⊥) → nat_eq a b ≡ false
apart a b differ = by (nat_eq a b) refl
  where
    by : (c : Bool) → nat_eq a b ≡ c → nat_eq a b ≡ false
    by true is = absurd (differ (eqb-true a b is))
    by false is = is

-- a value stays
pub value-put : (p : Page) (keyword : Keyword) (given : List Argument) (symbol : Option (List ℕ)) (step : StepValues) (id : ℕ) (m : IdMeaning) → Sound p → (scope_of p).meanings id ≡ Some m
    → values_at (put p keyword given symbol).lines step id ≡ values_at p.lines step id
value-put p keyword given symbol step id m s is =
    let within = known-within p id m s is in
    values-put p keyword given symbol step id
    ∙ ap (λ (b : Bool). cond b (value_by (rule_of keyword) step (scope_of p) (values_at p.lines step) (line_on p keyword given symbol)) (values_at p.lines step id)) (apart (next_id p) id (λ same. omega (arith, within.1, same)))

-- and the line's own
pub value-new : (p : Page) (keyword : Keyword) (given : List Argument) (symbol : Option (List ℕ)) (step : StepValues)
    → values_at (put p keyword given symbol).lines step (next_id p) ≡ value_by (rule_of keyword) step (scope_of p) (values_at p.lines step) (line_on p keyword given symbol)
value-new p keyword given symbol step =
    values-put p keyword given symbol step (next_id p)
    ∙ ap (λ (b : Bool). cond b (value_by (rule_of keyword) step (scope_of p) (values_at p.lines step) (line_on p keyword given symbol)) (values_at p.lines step (next_id p))) (eq-eqb (next_id p) (next_id p) refl)

-- what a line is asked, by the rule of its form
pub record Asked (p : Page) (rule : FormRule) (keyword : Keyword) (given : List Argument) (m : Measures) : Type 0 where
  pub of : rule_of keyword ≡ rule
  pub known : list_all (is_known (scope_of p)) given ≡ true
  pub measured : measures (scope_of p) (kinds_by rule) given ≡ Some m
  pub state : names_state rule (scope_of p) given ≡ true
  pub widths : widths_agree rule m ≡ true
  pub bounds : bounds_fit rule m ≡ true
  pub first : sets_first rule (scope_of p) given ≡ true
  pub numeral : numeral_fits rule (scope_of p) given ≡ true
  pub fixed : init_is_fixed rule (scope_of p) given ≡ true
  pub forms : length p.lines < 2 ^ 64 → FitKinds (kinds_by rule) given

not-known : (o : Option IdMeaning) → o ≡ None → not (is_some o) ≡ true
not-known o none = ap (λ (x : Option IdMeaning). not (is_some x)) none

two-true : (a b : Bool) → a ≡ true → b ≡ true → (a && b) ≡ true
two-true true true p q = refl
two-true true false p q = absurd (cc)
two-true false b p q = absurd (cc)

module _ (p : Page) (rule : FormRule) (keyword : Keyword) (given : List Argument) (symbol : Option (List ℕ)) (m : Measures) (s : Sound p) (asked : Asked p rule keyword given m) (token : AreTokens (option_to_list symbol)) where
  abbrev line : Line
  line = line_on p keyword given symbol

  measured-line : measures_of (scope_of p) line ≡ Some m
  measured-line = ap (λ (ks : List ArgumentKind). measures (scope_of p) ks given) (kinds-by keyword ∙ ap kinds_by asked.of) ∙ asked.measured

  met : Meets (scope_of p) line
  met = record {
    fresh = not-known ((scope_of p).meanings (next_id p)) (s.bound (next_id p) (omega arith));
    known = asked.known;
    agrees = two-true (names_state (rule_of keyword) (scope_of p) given) (passes widths_agree (rule_of keyword) (measures_of (scope_of p) line)) (ap (λ (r : FormRule). names_state r (scope_of p) given) asked.of ∙ asked.state)
        (ap₂ (λ (r : FormRule) (o : Option Measures). passes widths_agree r o) asked.of measured-line ∙ asked.widths);
    bounds = ap₂ (λ (r : FormRule) (o : Option Measures). passes bounds_fit r o) asked.of measured-line ∙ asked.bounds;
    first = ap (λ (r : FormRule). sets_first r (scope_of p) given) asked.of ∙ asked.first;
    numeral = ap (λ (r : FormRule). numeral_fits r (scope_of p) given) asked.of ∙ asked.numeral;
    fixed = ap (λ (r : FormRule). init_is_fixed r (scope_of p) given) asked.of ∙ asked.fixed;
  }

  -- a page with the line is sound
  pub put-sound : Sound (put p keyword given symbol)
  put-sound = record {
    fine = lines_fault-append no_lines p.lines (line ∷ []) s.fine (or-none (fault_in line) (line_fault (scope_of p) line) None (no-fault (scope_of p) line met) refl);
    forms = λ few.
        let count = length-put p keyword given symbol in
        printable-push p.lines line (s.forms (omega (arith, few, count))) (
          record {
            id = (omega arith, omega (arith, few, count));
            arguments = subst (λ (ks : List ArgumentKind). FitKinds ks given) (sym (kinds-by keyword ∙ ap kinds_by asked.of)) (asked.forms (omega (arith, few, count)));
            symbol = token;
          },
          tt,
        );
    low = ap (λ (f : ℕ → Option IdMeaning). f 0) (meanings-put p keyword given symbol) ∙ update_apart (scope_of p).meanings (next_id p) (Some (meaning_of (scope_of p) line)) 0 (λ same. omega (arith, same)) ∙ s.low;
    bound = λ id above.
        let count = length-put p keyword given symbol in
        ap (λ (f : ℕ → Option IdMeaning). f id) (meanings-put p keyword given symbol) ∙ update_apart (scope_of p).meanings (next_id p) (Some (meaning_of (scope_of p) line)) id (λ same. omega (arith, same, above, count))
        ∙ s.bound id (omega (arith, above, count));
  }

  -- what the line means
  pub meaning-is : meaning_of (scope_of p) line
      ≡ record { role = role_of rule; width = width_given rule m; depends = (is_input rule || is_state rule) || list_any (argument_depends (scope_of p)) given }
  meaning-is =
      ap₂ (λ (r : FormRule) (o : Option Measures). let x : IdMeaning = record { role = role_of r; width = width_or_none r o; depends = (is_input r || is_state r) || list_any (argument_depends (scope_of p)) given } in x) asked.of measured-line
