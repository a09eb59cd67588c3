-- What depends on no input and no state has one value in all steps.
use Rattle.std.proofs.Common.{◌≡◌, ℕ, nat_eq, Bool, true, false, ◌||◌, cond, List, [], ◌∷◌, Some, refl, ap, ap₂, ◌∙◌}
use Rattle.std.specs.List.{list_any}
use Rattle.kw_bits.specs.BitVector.{BitVector}
use Rattle.kw_bits.specs.Operators as vector
use Rattle.btor2_text.specs.declared.keyword.Keyword.{Keyword}
use Rattle.btor2_text.specs.declared.line.Argument.{Argument}
use Rattle.btor2_text.specs.declared.line.Argument.TheVariants as arguments
use Rattle.btor2_text.specs.declared.line.Line.{Line}
use Rattle.btor2_model.specs.Rules.{is_input, is_state, rule_of}
use Rattle.btor2_model.specs.Run.{StepValues, Values, binary, extended, no_bits, operator_value, unary, value_by, values_at, values_behind}
use Rattle.btor2_model.specs.Scope.{DeclaredIds, argument_depends, behind, behind_all, meaning_depends, meaning_of, no_lines}
use Rattle.btor2_model.specs.declared.rule.FormRule.{FormRule}
use Rattle.btor2_model.specs.declared.rule.FormRule.TheVariants as forms

-- values that agree on all ids that depend on no input and no state
Agree : DeclaredIds → Values → Values → Type 0
Agree scope v w = (id : ℕ) → meaning_depends (scope.meanings id) ≡ false → v id ≡ w id

neither : (a b : Bool) → (a || b) ≡ false → (a ≡ false) × (b ≡ false)
neither false b is = (refl, is)
neither true b is = absurd (cc)

operator-agrees : (scope : DeclaredIds) (v w : Values) (keyword : Keyword) (given : List Argument) → Agree scope v w → list_any (argument_depends scope) given ≡ false → operator_value scope v keyword given ≡ operator_value scope w keyword given
unfolding Agree
operator-agrees scope v w keyword (arguments.Id s ∷ arguments.Id a ∷ []) agree free =
    let x = neither (meaning_depends (scope.meanings s)) (meaning_depends (scope.meanings a) || false) free in
    let y = neither (meaning_depends (scope.meanings a)) false x.1 in
    ap (unary keyword) (agree a y.0)
operator-agrees scope v w keyword (arguments.Id s ∷ arguments.Id a ∷ arguments.Id b ∷ []) agree free =
    let x = neither (meaning_depends (scope.meanings s)) (meaning_depends (scope.meanings a) || (meaning_depends (scope.meanings b) || false)) free in
    let y = neither (meaning_depends (scope.meanings a)) (meaning_depends (scope.meanings b) || false) x.1 in
    let z = neither (meaning_depends (scope.meanings b)) false y.1 in
    ap₂ (binary keyword) (agree a y.0) (agree b z.0)
operator-agrees scope v w keyword (arguments.Id s ∷ arguments.Id a ∷ arguments.Number more ∷ []) agree free =
    let x = neither (meaning_depends (scope.meanings s)) (meaning_depends (scope.meanings a) || (false || false)) free in
    let y = neither (meaning_depends (scope.meanings a)) (false || false) x.1 in
    ap (λ (x : BitVector). extended keyword x more) (agree a y.0)
operator-agrees scope v w keyword (arguments.Id s ∷ arguments.Id a ∷ arguments.Number upper ∷ arguments.Number lower ∷ []) agree free =
    let x = neither (meaning_depends (scope.meanings s)) (meaning_depends (scope.meanings a) || (false || (false || false))) free in
    let y = neither (meaning_depends (scope.meanings a)) (false || (false || false)) x.1 in
    ap (λ (x : BitVector). vector.slice x upper lower) (agree a y.0)
operator-agrees scope v w keyword (arguments.Id s ∷ arguments.Id c ∷ arguments.Id a ∷ arguments.Id b ∷ []) agree free =
    let x = neither (meaning_depends (scope.meanings s)) (meaning_depends (scope.meanings c) || (meaning_depends (scope.meanings a) || (meaning_depends (scope.meanings b) || false))) free in
    let y = neither (meaning_depends (scope.meanings c)) (meaning_depends (scope.meanings a) || (meaning_depends (scope.meanings b) || false)) x.1 in
    let z = neither (meaning_depends (scope.meanings a)) (meaning_depends (scope.meanings b) || false) y.1 in
    let u = neither (meaning_depends (scope.meanings b)) false z.1 in
    ap₂ (λ (c a : BitVector). cond (nat_eq c.number 1) a (v b)) (agree c y.0) (agree a z.0) ∙ ap (λ (x : BitVector). cond (nat_eq (w c).number 1) (w a) x) (agree b u.0)
operator-agrees scope v w keyword other agree free = refl

line-agrees : (rule : FormRule) (step other : StepValues) (scope : DeclaredIds) (v w : Values) (line : Line) → Agree scope v w → (is_input rule || is_state rule) ≡ false → list_any (argument_depends scope) line.arguments ≡ false
    → value_by rule step scope v line ≡ value_by rule other scope w line
line-agrees forms.Input step other scope v w line agree none free = absurd (cc)
line-agrees forms.State step other scope v w line agree none free = absurd (cc)
line-agrees rule step other scope v w line agree none free = operator-agrees scope v w line.keyword line.arguments agree free

next-agrees : (step other : StepValues) (scope : DeclaredIds) (v w : Values) (line : Line) → Agree scope v w
    → Agree (behind scope line) (λ id. cond (nat_eq line.id id) (value_by (rule_of line.keyword) step scope v line) (v id)) (λ id. cond (nat_eq line.id id) (value_by (rule_of line.keyword) other scope w line) (w id))
unfolding Agree
next-agrees step other scope v w line agree = λ id free. by (nat_eq line.id id) id free
  where
    by : (here : Bool) (id : ℕ) → meaning_depends (cond here (Some (meaning_of scope line)) (scope.meanings id)) ≡ false
        → cond here (value_by (rule_of line.keyword) step scope v line) (v id) ≡ cond here (value_by (rule_of line.keyword) other scope w line) (w id)
    by true id free =
        let x = neither (is_input (rule_of line.keyword) || is_state (rule_of line.keyword)) (list_any (argument_depends scope) line.arguments) free in
        line-agrees (rule_of line.keyword) step other scope v w line agree x.0 x.1
    by false id free = agree id free

all-agree : (lines : List Line) (step other : StepValues) (scope : DeclaredIds) (v w : Values) → Agree scope v w → Agree (behind_all scope lines) (values_behind step scope v lines) (values_behind other scope w lines)
all-agree [] step other scope v w agree = agree
all-agree (line ∷ lines) step other scope v w agree =
    all-agree lines step other (behind scope line) (λ id. cond (nat_eq line.id id) (value_by (rule_of line.keyword) step scope v line) (v id)) (λ id. cond (nat_eq line.id id) (value_by (rule_of line.keyword) other scope w line) (w id))
    (next-agrees step other scope v w line agree)

-- the value in one step is that in another
pub same-in-all-steps : (lines : List Line) (step other : StepValues) (id : ℕ) → meaning_depends ((behind_all no_lines lines).meanings id) ≡ false → values_at lines step id ≡ values_at lines other id
unfolding Agree
same-in-all-steps lines step other id free = all-agree lines step other no_lines (λ _. no_bits) (λ _. no_bits) (λ id none. refl) id free
