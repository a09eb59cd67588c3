-- What stands at the end of an accepted text for the ids of its lines, and for the ids that they name.
use Rattle.std.proofs.Common.{◌≡◌, ℕ, suc, not, Bool, true, false, ◌&&◌, cond, filter, List, [], ◌∷◌, Option, None, Some, refl, sym, ap, ◌∙◌, subst, arith, All}
use Rattle.std.specs.List.{find}
use Rattle.std.specs.Option.{option_map, unwrap_or}
use Rattle.std.proofs.lemmas.Bool.{eq-eqb}
use Rattle.std.proofs.lemmas.List.Elements.{All-cons, All-nil, All-weaker}
use Rattle.kw_base.specs.declared.fault.Fault.{Fault}
use Rattle.btor2_text.specs.Forms.{kinds_of}
use Rattle.btor2_text.specs.Printable.{ArePrintable, FitKinds}
use Rattle.btor2_text.specs.declared.kind.ArgumentKind.{ArgumentKind}
use Rattle.btor2_text.specs.declared.kind.ArgumentKind.TheVariants as kinds
use Rattle.btor2_text.specs.declared.line.Argument.{Argument}
use Rattle.btor2_text.specs.declared.line.Line.{Line}
use Rattle.btor2_model.specs.Acceptance.{IsAccepted, fault_in, lacks_next, line_fault, lines_fault, states_fault}
use Rattle.btor2_model.specs.Rules.{is_input, is_next, is_output, is_state, role_of, rule_of}
use Rattle.btor2_model.specs.Run.{lines_by_rule, width_in}
use Rattle.btor2_model.specs.Scope.{DeclaredIds, behind, behind_all, id_at, meaning_of, measures, no_lines, value_width, width_wanted}
use Rattle.btor2_model.specs.inner.SlowRun.{sets}
use Rattle.btor2_model.specs.declared.meaning.IdMeaning.{IdMeaning}
use Rattle.btor2_model.specs.declared.meaning.Role.{Role}
use Rattle.btor2_model.specs.declared.meaning.Role.TheVariants as roles
use Rattle.btor2_model.specs.declared.rule.FormRule.{FormRule}
use Rattle.btor2_model.specs.declared.rule.FormRule.TheVariants as forms
use Rattle.btor2_model.proofs.Ends.{SameWidth, measured-widths, next-found, wanted-stays}
use Rattle.btor2_model.proofs.Evaluation.{option_map-none, option_or-none}
use Rattle.btor2_model.proofs.Filled.{each-measure, value-alone}
use Rattle.btor2_model.proofs.Filling.{stays}
use Rattle.btor2_model.proofs.KindsByRule.{kinds-by, kinds_by}

-- a line and those behind it have no fault
pub each-fine : (scope : DeclaredIds) (line : Line) (rest : List Line) → lines_fault scope (line ∷ rest) ≡ None → (line_fault scope line ≡ None) × (lines_fault (behind scope line) rest ≡ None)
each-fine scope line rest fine =
    let e = option_or-none (option_map (fault_in line) (line_fault scope line)) (lines_fault (behind scope line) rest) fine in (option_map-none (fault_in line) (line_fault scope line) e.0, e.1)

-- what holds at the end for each line that passes, by what stands before it
pub each-line : (test : FormRule → Bool) (P : DeclaredIds → Line → Type 0)
    → ((scope : DeclaredIds) (line : Line) (rest : List Line) → lines_fault scope (line ∷ rest) ≡ None → FitKinds (kinds_of line.keyword) line.arguments → test (rule_of line.keyword) ≡ true → P (behind_all scope (line ∷ rest)) line)
    → (lines : List Line) (scope : DeclaredIds) → lines_fault scope lines ≡ None → ArePrintable lines → All (λ (line : Line). test (rule_of line.keyword) ≡ true → P (behind_all scope lines) line) lines
each-line test P here [] scope fine forms = All-nil (λ (line : Line). test (rule_of line.keyword) ≡ true → P (behind_all scope []) line)
each-line test P here (line ∷ lines) scope fine forms =
    All-cons (λ (l : Line). test (rule_of l.keyword) ≡ true → P (behind_all scope (line ∷ lines)) l) line lines (here scope line lines fine forms.0.arguments)
    (each-line test P here lines (behind scope line) (each-fine scope line lines fine).1 forms.1)

-- the same of the lines that pass alone
pub all-passing : (test : FormRule → Bool) (P : Line → Type 0) (lines : List Line) → All (λ (line : Line). test (rule_of line.keyword) ≡ true → P line) lines → All P (lines_by_rule test lines)
all-passing test P [] all = All-nil P
all-passing test P (line ∷ lines) all = by (test (rule_of line.keyword)) refl (all-passing test P lines (λ k d within. all (suc k) d (omega (arith, within))))
  where
    by : (b : Bool) → test (rule_of line.keyword) ≡ b → All P (lines_by_rule test lines) → All P (filter (λ (l : Line). test (rule_of l.keyword)) (line ∷ lines))
    by true is rest = subst (λ (b : Bool). All P (cond b (line ∷ lines_by_rule test lines) (lines_by_rule test lines))) (sym is) (All-cons P line (lines_by_rule test lines) (all 0 line (omega arith) is) rest)
    by false is rest = subst (λ (b : Bool). All P (cond b (line ∷ lines_by_rule test lines) (lines_by_rule test lines))) (sym is) rest

-- the id stands for a value of this width
abbrev pub IsValue : DeclaredIds → ℕ → ℕ → Type 0
IsValue scope id width = width_wanted kinds.Value (scope.meanings id) ≡ Some width

abbrev pub width_at_end : DeclaredIds → ℕ → ℕ
width_at_end scope id = unwrap_or (option_map (λ (meaning : IdMeaning). meaning.width) (scope.meanings id)) 0

-- the width of a value
value-width-is : (role_width : Option IdMeaning) (w : ℕ) → width_wanted kinds.Value role_width ≡ Some w → unwrap_or (option_map (λ (meaning : IdMeaning). meaning.width) role_width) 0 ≡ w
value-width-is None w is = absurd (cc)
value-width-is (Some m) w is = value-role m.role m.width w is
  where
    value-role : (role : Role) (v w : ℕ) → value_width role v ≡ Some w → v ≡ w
    value-role roles.Value v w is = cc
    value-role roles.State v w is = cc
    value-role other v w is = absurd (cc)

-- it is the width that it has in the text
pub width-is : (scope : DeclaredIds) (id w : ℕ) → IsValue scope id w → width_at_end scope id ≡ w
width-is scope id w is = value-width-is (scope.meanings id) w is

-- inputs and states are values of their widths
pub own-value : (test : FormRule → Bool) → ((rule : FormRule) (w : ℕ) → test rule ≡ true → value_width (role_of rule) w ≡ Some w) → (lines : List Line) → lines_fault no_lines lines ≡ None → ArePrintable lines
    → All (λ (line : Line). test (rule_of line.keyword) ≡ true → IsValue (behind_all no_lines lines) line.id (width_in lines line.id)) lines
own-value test values lines fine forms =
    each-line test (λ scope line. IsValue scope line.id (width_at_end scope line.id))
    (λ scope line rest line_fine fits passes.
    let each = each-fine scope line rest line_fine in
    let new = meaning_of scope line in
    let end : (behind_all scope (line ∷ rest)).meanings line.id ≡ Some new =
    stays rest (behind scope line) line.id new each.1 (ap (λ (b : Bool). cond b (Some new) (scope.meanings line.id)) (eq-eqb line.id line.id refl)) in
    ap (width_wanted kinds.Value) end ∙ values (rule_of line.keyword) new.width passes ∙ sym (ap (λ (o : Option IdMeaning). Some (unwrap_or (option_map (λ (m : IdMeaning). m.width) o) 0)) end))
    lines no_lines fine forms

pub input-values : (rule : FormRule) (w : ℕ) → is_input rule ≡ true → value_width (role_of rule) w ≡ Some w
input-values forms.Input w is = refl
input-values other w is = absurd (cc)

pub state-values : (rule : FormRule) (w : ℕ) → is_state rule ≡ true → value_width (role_of rule) w ≡ Some w
state-values forms.State w is = refl
state-values other w is = absurd (cc)

pub output-rule : (rule : FormRule) → is_output rule ≡ true → rule ≡ forms.Output
output-rule forms.Output is = refl
output-rule other is = absurd (cc)

-- an output names a value
pub output-value : (lines : List Line) → lines_fault no_lines lines ≡ None → ArePrintable lines
    → All (λ (line : Line). is_output (rule_of line.keyword) ≡ true → IsValue (behind_all no_lines lines) (id_at line.arguments 0) (width_in lines (id_at line.arguments 0))) lines
output-value lines fine forms =
    each-line is_output (λ scope line. IsValue scope (id_at line.arguments 0) (width_at_end scope (id_at line.arguments 0)))
    (λ scope line rest line_fine fits passes.
    let each = each-fine scope line rest line_fine in
    let (m, measured, widths) = measured-widths scope line each.0 in
    let form : kinds_of line.keyword ≡ kinds.Value ∷ [] = kinds-by line.keyword ∙ ap kinds_by (output-rule (rule_of line.keyword) passes) in
    let (a, is) = value-alone line.arguments (subst (λ (ks : List ArgumentKind). FitKinds ks line.arguments) form fits) in
    let w = (each-measure (width_wanted kinds.Value (scope.meanings a)) (Some 0) (Some 0) (Some 0) m (sym (ap (measures scope (kinds.Value ∷ [])) is) ∙ ap (λ (ks : List ArgumentKind). measures scope ks line.arguments) (sym form) ∙ measured)).0 in
    let named : id_at line.arguments 0 ≡ a = ap (λ (given : List Argument). id_at given 0) is in
    let end = wanted-stays (line ∷ rest) scope a m.first line_fine w in
    let at : IsValue (behind_all scope (line ∷ rest)) (id_at line.arguments 0) m.first = subst (λ (id : ℕ). IsValue (behind_all scope (line ∷ rest)) id m.first) (sym named) end in
    at ∙ ap Some (sym (width-is (behind_all scope (line ∷ rest)) (id_at line.arguments 0) m.first at)))
    lines no_lines fine forms

-- each state has a `next`
lacks : (lines : List Line) (p : Line → Bool) → find p lines ≡ None → All (λ (line : Line). p line ≡ false) lines
lacks [] p none = All-nil (λ (line : Line). p line ≡ false)
lacks (line ∷ lines) p none = by (p line) refl (lacks lines p)
  where
    by : (b : Bool) → p line ≡ b → (find p lines ≡ None → All (λ (l : Line). p l ≡ false) lines) → All (λ (l : Line). p l ≡ false) (line ∷ lines)
    by true is more = let some : find p (line ∷ lines) ≡ Some line = ap (λ (b : Bool). cond b (Some line) (find p lines)) is in absurd (cc)
    by false is more = All-cons (λ (l : Line). p l ≡ false) line lines is (more (sym (ap (λ (b : Bool). cond b (Some line) (find p lines)) is) ∙ none))

no-find : (lines : List Line) (f : Line → Fault) (o : Option Line) → option_map f o ≡ None → o ≡ None
no-find lines f None is = refl
no-find lines f (Some x) is = absurd (cc)

not-lacking : (state continued : Bool) → (state && not continued) ≡ false → state ≡ true → continued ≡ true
not-lacking true true is on = refl
not-lacking true false is on = absurd (cc)
not-lacking false continued is on = absurd (cc)

-- what an accepted text has
pub fine-lines : (lines : List Line) → IsAccepted lines → lines_fault no_lines lines ≡ None
fine-lines lines is = (option_or-none (lines_fault no_lines lines) (states_fault (behind_all no_lines lines) lines) is.no_fault).0

-- the `next` of a state
pub next-of : (lines : List Line) → IsAccepted lines
    → All (λ (line : Line). is_state (rule_of line.keyword) ≡ true → (next : Line) × (find (sets is_next line.id) lines ≡ Some next) × SameWidth (behind_all no_lines lines) line.id (id_at next.arguments 2)) lines
next-of lines is =
    let end = behind_all no_lines lines in
    let found = no-find lines (λ (line : Line). fault_in line 56) (find (lacks_next end) lines) (option_or-none (lines_fault no_lines lines) (states_fault end lines) is.no_fault).1 in
    All-weaker (λ (line : Line). lacks_next end line ≡ false)
    (λ (line : Line). is_state (rule_of line.keyword) ≡ true → (next : Line) × (find (sets is_next line.id) lines ≡ Some next) × SameWidth end line.id (id_at next.arguments 2))
    (λ line has state. next-found lines no_lines line.id (fine-lines lines is) is.forms refl (not-lacking (is_state (rule_of line.keyword)) (end.continued line.id) has state))
    lines (lacks lines (lacks_next end) found)
