-- A line that is turned means what it meant, and the text that shows bad lines beside outputs is accepted.
use Rattle.std.proofs.Common.{◌≡◌, ◌⊎◌, inl, inr, ℕ, nat_eq, Bool, true, false, ◌||◌, cond, List, [], ◌∷◌, Option, None, Some, refl, sym, ap, ap₂, ◌∙◌, subst}
use Rattle.std.specs.List.{find, list_any}
use Rattle.std.specs.Map.{update}
use Rattle.std.specs.Option.{option_map, option_or}
use Rattle.kw_bits.specs.BitVector.{BitVector}
use Rattle.kw_base.specs.declared.fault.Fault.{Fault}
use Rattle.btor2_text.specs.Forms.{kinds_of}
use Rattle.btor2_text.specs.Printable.{ArePrintable, FitKinds}
use Rattle.btor2_text.specs.declared.keyword.Keyword.{Keyword}
use Rattle.btor2_text.specs.declared.keyword.Keyword.TheVariants as keywords
use Rattle.btor2_text.specs.declared.kind.ArgumentKind.{ArgumentKind}
use Rattle.btor2_text.specs.declared.line.Argument.{Argument}
use Rattle.btor2_text.specs.declared.line.Argument.TheVariants as arguments
use Rattle.btor2_text.specs.declared.line.Line.{Line}
use Rattle.btor2_model.specs.Acceptance.{IsAccepted, fault_in, first_fault, lacks_next, line_fault, lines_fault, passes, states_fault}
use Rattle.btor2_model.specs.Rules.{bounds_fit, rule_of, widths_agree}
use Rattle.btor2_model.specs.Run.{StepValues, Values, operator_value, value_by, values_behind}
use Rattle.btor2_model.specs.Scope.{DeclaredIds, argument_depends, behind, behind_all, measures, no_lines, set_now, id_at, width_or_none}
use Rattle.btor2_model.specs.declared.meaning.IdMeaning.{IdMeaning}
use Rattle.btor2_model.specs.declared.meaning.Role.TheVariants as roles
use Rattle.btor2_model.specs.declared.rule.FormRule.TheVariants as forms
use Rattle.btor2_model.specs.declared.rule.Measures.{Measures}
use Rattle.btor2_model.proofs.Conditions.{Meets, meets, no-fault}
use Rattle.btor2_model.proofs.Declared.{each-fine}
use Rattle.btor2_model.proofs.Evaluation.{option_or-none}
use Rattle.koika_assert.specs.Bads.{as_output, bads_beside_outputs, turned}

-- ---- lines

-- a bad line, or one that stays
pub turned-cases : (keyword : Keyword) → (keyword ≡ keywords.Bad) ⊎ (as_output keyword ≡ keyword)
turned-cases keywords.Bad = inl refl
turned-cases other = inr refl

-- the line with another keyword
abbrev pub with_keyword : Line → Keyword → Line
with_keyword line keyword = record { id = line.id; keyword = keyword; arguments = line.arguments; symbol = line.symbol; number = line.number }

-- what is the same of outputs and of bad lines is the same of a line that is turned
pub turned-same : {X : Type 0} (f : Line → X) (line : Line) → f (with_keyword line keywords.Output) ≡ f (with_keyword line keywords.Bad) → f (turned line) ≡ f line
turned-same {X} f line same = by (turned-cases line.keyword)
  where
    by : (line.keyword ≡ keywords.Bad) ⊎ (as_output line.keyword ≡ line.keyword) → f (turned line) ≡ f line
    by (inl is) = ap (λ (k : Keyword). f (with_keyword line (as_output k))) is ∙ same ∙ sym (ap (λ (k : Keyword). f (with_keyword line k)) is)
    by (inr is) = ap (λ (k : Keyword). f (with_keyword line k)) is

-- ---- what they declare

width-turned : (o : Option Measures) → width_or_none forms.Output o ≡ width_or_none forms.Bad o
width-turned None = refl
width-turned (Some m) = refl

-- a line that is turned declares what it declared
pub behind-turned : (scope : DeclaredIds) (line : Line) → behind scope (turned line) ≡ behind scope line
behind-turned scope line =
    let after : ℕ → DeclaredIds = λ w. record {
      meanings = update nat_eq scope.meanings line.id (Some (let m : IdMeaning = record { role = roles.NoValue; width = w; depends = (false || false) || list_any (argument_depends scope) line.arguments } in m));
      initialized = set_now false scope.initialized (id_at line.arguments 1);
      continued = set_now false scope.continued (id_at line.arguments 1);
    } in
    turned-same (behind scope) line (ap after (width-turned (measures scope (kinds_of keywords.Bad) line.arguments)))

pub behind-all-turned : (scope : DeclaredIds) (lines : List Line) → behind_all scope (bads_beside_outputs lines) ≡ behind_all scope lines
behind-all-turned scope [] = refl
behind-all-turned scope (line ∷ lines) = ap (λ (s : DeclaredIds). behind_all s (bads_beside_outputs lines)) (behind-turned scope line) ∙ behind-all-turned (behind scope line) lines

-- ---- their values

operator-turned : (scope : DeclaredIds) (values : Values) (given : List Argument) → operator_value scope values keywords.Output given ≡ operator_value scope values keywords.Bad given
operator-turned scope values (arguments.Id s ∷ []) = refl
operator-turned scope values (arguments.Id s ∷ arguments.Numeral digits ∷ []) = refl
operator-turned scope values (arguments.Id s ∷ arguments.Id a ∷ []) = refl
operator-turned scope values (arguments.Id s ∷ arguments.Id a ∷ arguments.Id b ∷ []) = refl
operator-turned scope values (arguments.Id s ∷ arguments.Id a ∷ arguments.Number more ∷ []) = refl
operator-turned scope values (arguments.Id s ∷ arguments.Id a ∷ arguments.Number upper ∷ arguments.Number lower ∷ []) = refl
operator-turned scope values (arguments.Id s ∷ arguments.Id c ∷ arguments.Id a ∷ arguments.Id b ∷ []) = refl
operator-turned scope values other = refl

-- a line that is turned has the value that it had
pub value-turned : (step : StepValues) (scope : DeclaredIds) (values : Values) (line : Line)
    → value_by (rule_of (turned line).keyword) step scope values (turned line) ≡ value_by (rule_of line.keyword) step scope values line
value-turned step scope values line = turned-same (λ (l : Line). value_by (rule_of l.keyword) step scope values l) line (operator-turned scope values line.arguments)

pub values-turned : (step : StepValues) (scope : DeclaredIds) (values : Values) (lines : List Line) → values_behind step scope values (bads_beside_outputs lines) ≡ values_behind step scope values lines
values-turned step scope values [] = refl
values-turned step scope values (line ∷ lines) =
    ap₂ (λ (s : DeclaredIds) (v : BitVector). values_behind step s (λ (id : ℕ). cond (nat_eq line.id id) v (values id)) (bads_beside_outputs lines)) (behind-turned scope line) (value-turned step scope values line)
    ∙ values-turned step (behind scope line) (λ (id : ℕ). cond (nat_eq line.id id) (value_by (rule_of line.keyword) step scope values line) (values id)) lines

-- ---- they have no fault

passes-output : (o : Option Measures) → passes widths_agree forms.Bad o ≡ true → passes widths_agree forms.Output o ≡ true
passes-output None is = absurd (cc)
passes-output (Some m) is = refl

passes-bounds : (o : Option Measures) → passes bounds_fit forms.Bad o ≡ true → passes bounds_fit forms.Output o ≡ true
passes-bounds None is = absurd (cc)
passes-bounds (Some m) is = refl

met-bad : (scope : DeclaredIds) (line : Line) → Meets scope (with_keyword line keywords.Bad) → Meets scope (with_keyword line keywords.Output)
met-bad scope line m = record {
  fresh = m.fresh;
  known = m.known;
  agrees = passes-output (measures scope (kinds_of keywords.Bad) line.arguments) m.agrees;
  bounds = passes-bounds (measures scope (kinds_of keywords.Bad) line.arguments) m.bounds;
  first = refl;
  numeral = refl;
  fixed = refl;
}

met-turned : (scope : DeclaredIds) (line : Line) → Meets scope line → Meets scope (turned line)
met-turned scope line met = by (turned-cases line.keyword)
  where
    by : (line.keyword ≡ keywords.Bad) ⊎ (as_output line.keyword ≡ line.keyword) → Meets scope (turned line)
    by (inl is) =
        subst (λ (k : Keyword). Meets scope (with_keyword line (as_output k))) (sym is) (met-bad scope line (subst (λ (k : Keyword). Meets scope (with_keyword line k)) is met))
    by (inr is) = subst (λ (k : Keyword). Meets scope (with_keyword line k)) (sym is) met

both-none : (f : ℕ → Fault) (o : Option ℕ) (r : Option Fault) → o ≡ None → r ≡ None → option_or (option_map f o) r ≡ None
both-none f None r first rest = rest
both-none f (Some x) r first rest = absurd (cc)

fine-turned : (scope : DeclaredIds) (lines : List Line) → lines_fault scope lines ≡ None → lines_fault scope (bads_beside_outputs lines) ≡ None
fine-turned scope [] fine = refl
fine-turned scope (line ∷ lines) fine =
    let each = each-fine scope line lines fine in
    let rest : lines_fault (behind scope (turned line)) (bads_beside_outputs lines) ≡ None = ap (λ (s : DeclaredIds). lines_fault s (bads_beside_outputs lines)) (behind-turned scope line) ∙ fine-turned (behind scope line) lines each.1 in
    both-none (fault_in (turned line)) (line_fault scope (turned line)) (lines_fault (behind scope (turned line)) (bads_beside_outputs lines))
    (no-fault scope (turned line) (met-turned scope line (meets scope line each.0))) rest

-- no state of theirs lacks a `next`
none-lacks : (end : DeclaredIds) (lines : List Line) → find (lacks_next end) lines ≡ None → find (lacks_next end) (bads_beside_outputs lines) ≡ None
none-lacks end [] none = refl
none-lacks end (line ∷ lines) none = by (lacks_next end line) refl (none-lacks end lines)
  where
    by : (b : Bool) → lacks_next end line ≡ b → (find (lacks_next end) lines ≡ None → find (lacks_next end) (bads_beside_outputs lines) ≡ None) → find (lacks_next end) (bads_beside_outputs (line ∷ lines)) ≡ None
    by true lacks more = let some : find (lacks_next end) (line ∷ lines) ≡ Some line = ap (λ (x : Bool). cond x (Some line) (find (lacks_next end) lines)) lacks in absurd (cc)
    by false lacks more =
        ap (λ (x : Bool). cond x (Some (turned line)) (find (lacks_next end) (bads_beside_outputs lines))) (turned-same (lacks_next end) line refl ∙ lacks)
        ∙ more (sym (ap (λ (x : Bool). cond x (Some line) (find (lacks_next end) lines)) lacks) ∙ none)

no-find : (f : Line → Fault) (o : Option Line) → option_map f o ≡ None → o ≡ None
no-find f None is = refl
no-find f (Some x) is = absurd (cc)

-- the text has no fault
pub no-fault-turned : (lines : List Line) → IsAccepted lines → first_fault (bads_beside_outputs lines) ≡ None
no-fault-turned lines accepted =
    let end = behind_all no_lines lines in
    let parts = option_or-none (lines_fault no_lines lines) (states_fault end lines) accepted.no_fault in
    let lacks = none-lacks end lines (no-find (λ (line : Line). fault_in line 56) (find (lacks_next end) lines) parts.1) in
    let found : find (lacks_next (behind_all no_lines (bads_beside_outputs lines))) (bads_beside_outputs lines) ≡ None =
    ap (λ (s : DeclaredIds). find (lacks_next s) (bads_beside_outputs lines)) (behind-all-turned no_lines lines) ∙ lacks in
    ap₂ option_or (fine-turned no_lines lines parts.0) (ap (option_map (λ (line : Line). fault_in line 56)) found)

-- the lines are of their forms
pub printable-turned : (lines : List Line) → ArePrintable lines → ArePrintable (bads_beside_outputs lines)
printable-turned [] forms = tt
printable-turned (line ∷ lines) forms =
    let same : kinds_of (as_output line.keyword) ≡ kinds_of line.keyword = turned-same (λ (l : Line). kinds_of l.keyword) line refl in (
      record { id = forms.0.id; arguments = subst (λ (ks : List ArgumentKind). FitKinds ks line.arguments) (sym same) forms.0.arguments; symbol = forms.0.symbol },
      printable-turned lines forms.1,
    )
