-- In accepted lines whose ids are counted, the width of a value stands in the line of its sort.
use Rattle.std.proofs.Common.{◌≡◌, ℕ, suc, nat_eq, Bool, true, false, ◌&&◌, cond, filter, List, [], ◌∷◌, Option, None, Some, refl, sym, ap, ap₂, ◌∙◌, subst, arith}
use Rattle.std.specs.Prelude.{slice_get}
use Rattle.std.specs.Option.{option_map_or}
use Rattle.std.proofs.lemmas.Bool.{eqb-true}
use Rattle.std.proofs.lemmas.Option.{get_or_from_slice_get, slice_get_within}
use Rattle.btor2_text.specs.Forms.{kinds_of}
use Rattle.btor2_text.specs.Printable.{ArePrintable, FitKinds}
use Rattle.btor2_text.specs.declared.kind.ArgumentKind.{ArgumentKind}
use Rattle.btor2_text.specs.declared.kind.ArgumentKind.TheVariants as kinds
use Rattle.btor2_text.specs.declared.line.Argument.{Argument}
use Rattle.btor2_text.specs.declared.line.Argument.TheVariants as arguments
use Rattle.btor2_text.specs.declared.line.Line.{Line}
use Rattle.btor2_model.specs.Acceptance.{IsAccepted, line_fault, lines_fault}
use Rattle.btor2_model.specs.Rules.{is_output, role_of, rule_of, width_given}
use Rattle.btor2_model.specs.Run.{lines_by_rule, width_in}
use Rattle.btor2_model.specs.Scope.{DeclaredIds, behind, behind_all, id_at, meaning_of, measure, measures_of, no_lines, argument_number, sort_width, value_width, width_or_none, width_wanted}
use Rattle.btor2_model.specs.declared.meaning.IdMeaning.{IdMeaning}
use Rattle.btor2_model.specs.declared.rule.Measures.{Measures}
use Rattle.btor2_model.specs.declared.rule.FormRule.{FormRule}
use Rattle.btor2_model.specs.declared.rule.FormRule.TheVariants as forms
use Rattle.btor2_model.proofs.Ends.{measured-widths}
use Rattle.btor2_model.proofs.Filled.{each-measure, some-same}
use Rattle.btor2_model.proofs.Filling.{stays}
use Rattle.btor2_model.proofs.KindsByRule.{kinds-by, kinds_by}
use Rattle.btor2_net.specs.Translations.{AreCounted}
use Rattle.btor2_model.proofs.Declared.{IsValue, each-fine, fine-lines, output-value}
use Rattle.btor2_net.proofs.Keeping.{known-by}
use Rattle.koika_assert.specs.Bads.{flag_lines}
use Rattle.koika_assert.specs.inner.Widths.{arguments_of, is_narrow, written_width}

-- the line that declared an id, behind what stood before it
record IsDeclared (lines : List Line) (end : DeclaredIds) (id : ℕ) (m : IdMeaning) : Type 0 where
  place : ℕ
  line : Line
  before : DeclaredIds
  at : slice_get lines place ≡ Some line
  id_is : line.id ≡ id
  fine : line_fault before line ≡ None
  fits : FitKinds (kinds_of line.keyword) line.arguments
  means : meaning_of before line ≡ m
  stay : (i : ℕ) (x : IdMeaning) → before.meanings i ≡ Some x → end.meanings i ≡ Some x

declared : (lines : List Line) (scope : DeclaredIds) (id : ℕ) (m : IdMeaning) → lines_fault scope lines ≡ None → ArePrintable lines → scope.meanings id ≡ None → (behind_all scope lines).meanings id ≡ Some m → IsDeclared lines (behind_all scope lines) id m
declared [] scope id m fine forms none is = absurd (cc)
declared (line ∷ lines) scope id m fine forms none is = by (nat_eq line.id id) refl (λ before. declared lines (behind scope line) id m (each-fine scope line lines fine).1 forms.1 before is)
  where
    each : (line_fault scope line ≡ None) × (lines_fault (behind scope line) lines ≡ None)
    each = each-fine scope line lines fine

    by : (b : Bool) → nat_eq line.id id ≡ b → ((behind scope line).meanings id ≡ None → IsDeclared lines (behind_all (behind scope line) lines) id m) → IsDeclared (line ∷ lines) (behind_all scope (line ∷ lines)) id m
    by true here rest =
        let own : (behind scope line).meanings id ≡ Some (meaning_of scope line) = ap (λ (b : Bool). cond b (Some (meaning_of scope line)) (scope.meanings id)) here in
        let same : Some (meaning_of scope line) ≡ Some m = sym (stays lines (behind scope line) id (meaning_of scope line) each.1 own) ∙ is in
        record {
          place = 0;
          line = line;
          before = scope;
          at = refl;
          id_is = eqb-true line.id id here;
          fine = each.0;
          fits = forms.0.arguments;
          means = cc;
          stay = λ i x known. stays (line ∷ lines) scope i x fine known;
        }
    by false other rest =
        let more = rest (ap (λ (b : Bool). cond b (Some (meaning_of scope line)) (scope.meanings id)) other ∙ none) in
        record {
          place = suc more.place;
          line = more.line;
          before = more.before;
          at = more.at;
          id_is = more.id_is;
          fine = more.fine;
          fits = more.fits;
          means = more.means;
          stay = more.stay;
        }

-- the form of a line that has a value: its sort comes first, and its width is the sort's
record HasSort (rule : FormRule) (m : Measures) (w : ℕ) : Type 0 where
  others : List ArgumentKind
  kinds_are : kinds_by rule ≡ kinds.Sort ∷ others
  width : m.first ≡ w

value-form : (rule : FormRule) (m : Measures) (w : ℕ) → value_width (role_of rule) (width_given rule m) ≡ Some w → HasSort rule m w
value-form forms.Sort m w is = absurd (cc)
value-form forms.Init m w is = absurd (cc)
value-form forms.Next m w is = absurd (cc)
value-form forms.Output m w is = absurd (cc)
value-form forms.Bad m w is = absurd (cc)
value-form forms.Input m w is = record { others = []; kinds_are = refl; width = some-same m.first w is }
value-form forms.State m w is = record { others = []; kinds_are = refl; width = some-same m.first w is }
value-form forms.Constant m w is = record { others = []; kinds_are = refl; width = some-same m.first w is }
value-form (forms.Numeral base) m w is = record { others = kinds.Numeral base ∷ []; kinds_are = refl; width = some-same m.first w is }
value-form forms.Unary m w is = record { others = kinds.Value ∷ []; kinds_are = refl; width = some-same m.first w is }
value-form forms.Reduced m w is = record { others = kinds.Value ∷ []; kinds_are = refl; width = some-same m.first w is }
value-form forms.Binary m w is = record { others = kinds.Value ∷ kinds.Value ∷ []; kinds_are = refl; width = some-same m.first w is }
value-form forms.Compared m w is = record { others = kinds.Value ∷ kinds.Value ∷ []; kinds_are = refl; width = some-same m.first w is }
value-form forms.Boolean m w is = record { others = kinds.Value ∷ kinds.Value ∷ []; kinds_are = refl; width = some-same m.first w is }
value-form forms.Joined m w is = record { others = kinds.Value ∷ kinds.Value ∷ []; kinds_are = refl; width = some-same m.first w is }
value-form forms.Sliced m w is = record { others = kinds.Value ∷ kinds.Number ∷ kinds.Number ∷ []; kinds_are = refl; width = some-same m.first w is }
value-form forms.Extended m w is = record { others = kinds.Value ∷ kinds.Number ∷ []; kinds_are = refl; width = some-same m.first w is }
value-form forms.Chosen m w is = record { others = kinds.Value ∷ kinds.Value ∷ kinds.Value ∷ []; kinds_are = refl; width = some-same m.first w is }

-- the form of a sort
record IsSortForm (rule : FormRule) (m : Measures) (w : ℕ) : Type 0 where
  kinds_are : kinds_by rule ≡ kinds.Bitvec ∷ kinds.Number ∷ []
  width : m.second ≡ w

sort-form : (rule : FormRule) (m : Measures) (w : ℕ) → sort_width (role_of rule) (width_given rule m) ≡ Some w → IsSortForm rule m w
sort-form forms.Sort m w is = record { kinds_are = refl; width = some-same m.second w is }
sort-form other m w is = absurd (cc)

-- the first argument, where it is an id
sort-argument : (scope : DeclaredIds) (others : List ArgumentKind) (given : List Argument) (w : ℕ) → FitKinds (kinds.Sort ∷ others) given → measure scope (Some kinds.Sort) (slice_get given 0) ≡ Some w
    → width_wanted kinds.Sort (scope.meanings (id_at given 0)) ≡ Some w
sort-argument scope others given w fits is =
    let first : slice_get given 0 ≡ Some (arguments.Id fits.3.0) = ap (λ (g : List Argument). slice_get g 0) fits.2 ∙ ap Some fits.3.2 in
    let named : id_at given 0 ≡ fits.3.0 = ap (λ (g : List Argument). id_at g 0) (fits.2 ∙ ap (λ (a : Argument). a ∷ fits.1) fits.3.2) in
    ap (λ (i : ℕ). width_wanted kinds.Sort (scope.meanings i)) named ∙ sym (ap (measure scope (Some kinds.Sort)) first) ∙ is

-- the second, where it is a number
number-argument : (scope : DeclaredIds) (given : List Argument) (w : ℕ) → FitKinds (kinds.Bitvec ∷ kinds.Number ∷ []) given → measure scope (Some kinds.Number) (slice_get given 1) ≡ Some w → argument_number (slice_get given 1) ≡ w
number-argument scope given w fits is =
    let second : slice_get given 1 ≡ Some (arguments.Number fits.4.3.0) = ap (λ (g : List Argument). slice_get g 1) (fits.2 ∙ ap (λ (gs : List Argument). fits.0 ∷ gs) fits.4.2) ∙ ap Some fits.4.3.2 in
    let same : Some fits.4.3.0 ≡ Some w = sym (ap (measure scope (Some kinds.Number)) second) ∙ is in
    ap argument_number second ∙ some-same fits.4.3.0 w same

module _ (lines : List Line) (accepted : IsAccepted lines) (counted : AreCounted lines) where
  abbrev end : DeclaredIds
  end = behind_all no_lines lines

  -- the arguments of a line by its id
  arguments-at : (place id : ℕ) (line : Line) → slice_get lines place ≡ Some line → line.id ≡ id → arguments_of lines id ≡ line.arguments
  arguments-at place id line at named =
      let number : id ≡ suc place = omega (arith, counted place line at, named) in
      ap (arguments_of lines) number ∙ ap (λ (o : Option Line). option_map_or (λ (l : Line). l.arguments) o []) at

  all-measures : (before : DeclaredIds) (line : Line) (m : Measures) (ks : List ArgumentKind) → kinds_by (rule_of line.keyword) ≡ ks → measures_of before line ≡ Some m
      → (measure before (slice_get ks 0) (slice_get line.arguments 0) ≡ Some m.first) × (measure before (slice_get ks 1) (slice_get line.arguments 1) ≡ Some m.second)
  all-measures before line m ks form is =
      let kinds_are = kinds-by line.keyword ∙ form in
      let each = each-measure (measure before (slice_get (kinds_of line.keyword) 0) (slice_get line.arguments 0)) (measure before (slice_get (kinds_of line.keyword) 1) (slice_get line.arguments 1))
      (measure before (slice_get (kinds_of line.keyword) 2) (slice_get line.arguments 2)) (measure before (slice_get (kinds_of line.keyword) 3) (slice_get line.arguments 3)) m is in (
        sym (ap (λ (k : List ArgumentKind). measure before (slice_get k 0) (slice_get line.arguments 0)) kinds_are) ∙ each.0,
        sym (ap (λ (k : List ArgumentKind). measure before (slice_get k 1) (slice_get line.arguments 1)) kinds_are) ∙ each.1,
      )

  -- the width in the line of a sort
  sort-written : (id w : ℕ) → width_wanted kinds.Sort (end.meanings id) ≡ Some w → argument_number (slice_get (arguments_of lines id) 1) ≡ w
  sort-written id w is =
      let known = known-by kinds.Sort (end.meanings id) w is in
      let d = declared lines no_lines id known.0 (fine-lines lines accepted) accepted.forms refl known.1 in
      let (m, measured, agree) = measured-widths d.before d.line d.fine in
      let role : sort_width known.0.role known.0.width ≡ Some w = sym (ap (width_wanted kinds.Sort) known.1) ∙ is in
      let own : sort_width (role_of (rule_of d.line.keyword)) (width_given (rule_of d.line.keyword) m) ≡ Some w =
      sym (ap (λ (o : Option Measures). sort_width (role_of (rule_of d.line.keyword)) (width_or_none (rule_of d.line.keyword) o)) measured) ∙ ap (λ (x : IdMeaning). sort_width x.role x.width) d.means ∙ role in
      let form = sort-form (rule_of d.line.keyword) m w own in
      let fits = subst (λ (ks : List ArgumentKind). FitKinds ks d.line.arguments) (kinds-by d.line.keyword ∙ form.kinds_are) d.fits in
      let each = all-measures d.before d.line m (kinds.Bitvec ∷ kinds.Number ∷ []) form.kinds_are measured in
      ap (λ (given : List Argument). argument_number (slice_get given 1)) (arguments-at d.place id d.line d.at d.id_is) ∙ number-argument d.before d.line.arguments m.second fits each.1 ∙ form.width

  -- and that of a value
  value-written : (id w : ℕ) → IsValue end id w → written_width lines id ≡ w
  value-written id w is =
      let known = known-by kinds.Value (end.meanings id) w is in
      let d = declared lines no_lines id known.0 (fine-lines lines accepted) accepted.forms refl known.1 in
      let (m, measured, agree) = measured-widths d.before d.line d.fine in
      let role : value_width known.0.role known.0.width ≡ Some w = sym (ap (width_wanted kinds.Value) known.1) ∙ is in
      let own : value_width (role_of (rule_of d.line.keyword)) (width_given (rule_of d.line.keyword) m) ≡ Some w =
      sym (ap (λ (o : Option Measures). value_width (role_of (rule_of d.line.keyword)) (width_or_none (rule_of d.line.keyword) o)) measured) ∙ ap (λ (x : IdMeaning). value_width x.role x.width) d.means ∙ role in
      let form = value-form (rule_of d.line.keyword) m w own in
      let fits = subst (λ (ks : List ArgumentKind). FitKinds ks d.line.arguments) (kinds-by d.line.keyword ∙ form.kinds_are) d.fits in
      let each = all-measures d.before d.line m (kinds.Sort ∷ form.others) form.kinds_are measured in
      let sort = id_at d.line.arguments 0 in
      let wanted : width_wanted kinds.Sort (d.before.meanings sort) ≡ Some m.first = sort-argument d.before form.others d.line.arguments m.first fits each.0 in
      let meant = known-by kinds.Sort (d.before.meanings sort) m.first wanted in
      let later : width_wanted kinds.Sort (end.meanings sort) ≡ Some m.first = ap (width_wanted kinds.Sort) (d.stay sort meant.0 meant.1) ∙ sym (ap (width_wanted kinds.Sort) meant.1) ∙ wanted in
      ap (λ (given : List Argument). argument_number (slice_get (arguments_of lines (id_at given 0)) 1)) (arguments-at d.place id d.line d.at d.id_is) ∙ sort-written sort m.first later ∙ form.width

  -- lines that pass one test and then another pass both
  both-pass : (ls : List Line) → ((k : ℕ) (line : Line) → slice_get ls k ≡ Some line → is_output (rule_of line.keyword) ≡ true → written_width lines (id_at line.arguments 0) ≡ width_in lines (id_at line.arguments 0))
      → filter (is_narrow lines) ls ≡ filter (λ (line : Line). nat_eq (width_in lines (id_at line.arguments 0)) 1) (lines_by_rule is_output ls)
  both-pass [] same = refl
  both-pass (line ∷ ls) same = by (is_output (rule_of line.keyword)) refl (both-pass ls (λ k l at. same (suc k) l at))
    where
      by : (b : Bool) → is_output (rule_of line.keyword) ≡ b → filter (is_narrow lines) ls ≡ filter (λ (l : Line). nat_eq (width_in lines (id_at l.arguments 0)) 1) (lines_by_rule is_output ls)
          → filter (is_narrow lines) (line ∷ ls) ≡ filter (λ (l : Line). nat_eq (width_in lines (id_at l.arguments 0)) 1) (lines_by_rule is_output (line ∷ ls))
      by true is rest =
          ap (λ (b : Bool). cond (b && nat_eq (written_width lines (id_at line.arguments 0)) 1) (line ∷ filter (is_narrow lines) ls) (filter (is_narrow lines) ls)) is
          ∙ ap₂ (λ (w : ℕ) (kept : List Line). cond (nat_eq w 1) (line ∷ kept) kept) (same 0 line refl is) rest
          ∙ sym (ap (λ (b : Bool). filter (λ (l : Line). nat_eq (width_in lines (id_at l.arguments 0)) 1) (cond b (line ∷ lines_by_rule is_output ls) (lines_by_rule is_output ls))) is)
      by false is rest =
          ap (λ (b : Bool). cond (b && nat_eq (written_width lines (id_at line.arguments 0)) 1) (line ∷ filter (is_narrow lines) ls) (filter (is_narrow lines) ls)) is ∙ rest
          ∙ sym (ap (λ (b : Bool). filter (λ (l : Line). nat_eq (width_in lines (id_at l.arguments 0)) 1) (cond b (line ∷ lines_by_rule is_output ls) (lines_by_rule is_output ls))) is)

  -- the narrow outputs are those of one bit
  pub narrow-are : filter (is_narrow lines) lines ≡ flag_lines lines
  narrow-are =
      both-pass lines
      (λ k line at output.
      let own = output-value lines (fine-lines lines accepted) accepted.forms k line (slice_get_within lines k line at) in
      let is = subst (λ (l : Line). is_output (rule_of l.keyword) ≡ true → IsValue end (id_at l.arguments 0) (width_in lines (id_at l.arguments 0))) (get_or_from_slice_get lines k line line at) own output in
      value-written (id_at line.arguments 0) (width_in lines (id_at line.arguments 0)) is)
