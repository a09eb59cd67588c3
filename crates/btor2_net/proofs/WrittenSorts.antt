-- A page that has the sort of a width, and one with a constant.
use Rattle.std.proofs.Common.{◌≡◌, ℕ, ◌<◌, ◌≤◌, ◌^◌, nat_eq, Bool, true, false, ◌&&◌, ◌||◌, cond, List, [], ◌∷◌, Option, None, Some, refl, sym, ap, ap₂, ◌∙◌, subst, arith, lit<, lit≤}
use Rattle.std.specs.Prelude.{decimal}
use Rattle.std.specs.Option.{unwrap_or}
use Rattle.std.specs.Str.Parse.{digits_value}
use Rattle.std.proofs.lemmas.Bool.{eqb-true, eq-eqb, le-leb, lt-ltb}
use Rattle.std.proofs.Math.Nat.{pow-le-pow_right}
use Rattle.std.proofs.lemmas.Fmt.{decimal_is_IsNumeral_wide}
use Rattle.kw_bits.specs.BitVector.{BitVector, IsBits}
use Rattle.btor2_text.specs.declared.keyword.Keyword.TheVariants as keywords
use Rattle.btor2_text.specs.declared.kind.Base.TheVariants as bases
use Rattle.btor2_text.specs.declared.kind.ArgumentKind.TheVariants as kinds
use Rattle.btor2_text.specs.declared.line.Argument.{Argument}
use Rattle.btor2_text.specs.declared.line.Argument.TheVariants as arguments
use Rattle.btor2_model.specs.Run.{StepValues, lines_by_rule, values_at}
use Rattle.btor2_model.specs.Scope.{meaning_depends, sort_width_in, width_wanted}
use Rattle.btor2_model.specs.declared.meaning.IdMeaning.{IdMeaning}
use Rattle.btor2_model.specs.declared.meaning.Role.TheVariants as roles
use Rattle.btor2_model.specs.declared.rule.FormRule.{FormRule}
use Rattle.btor2_model.specs.declared.rule.FormRule.TheVariants as forms
use Rattle.btor2_net.specs.Pages.{Page, blank, id_of_line, next_id, put, sort_id, with_constant, with_sort, with_sort_by}
use Rattle.btor2_net.proofs.Adding.{Asked, scope_of}
use Rattle.btor2_net.proofs.Asking.{Agrees, Special, asked-two, bitvec-given, four, number-given, numeral-given, sort-given}
use Rattle.btor2_net.proofs.Keeping.{Good, Keeps, Names, keeps-all, keeps-both, not-picked, put-good, put-keeps, put-means, put-value, sort_meaning}

-- no line
pub blank-good : Good blank
blank-good = record {
  sound = record { fine = refl; forms = λ few. tt; low = refl; bound = λ id above. refl };
  sorted = λ width id is. absurd (cc);
  late = λ id above. refl;
  counted = λ place line at. absurd (cc);
}

-- a page with the sort of a width
pub record HasSort (p q : Page) (width : ℕ) : Type 0 where
  pub good : Good q
  pub keeps : Keeps p q
  pub sort : (scope_of q).meanings (sort_id q width) ≡ Some (sort_meaning width)
  pub same : (test : FormRule → Bool) → test forms.Sort ≡ false → lines_by_rule test q.lines ≡ lines_by_rule test p.lines

abbrev pub sort_arguments : ℕ → List Argument
sort_arguments width = arguments.Bitvec ∷ arguments.Number width ∷ []

module _ (p : Page) (width : ℕ) (g : Good p) (some : 1 ≤ width) (most : width ≤ 128) where
  abbrev sorted_page : Page
  sorted_page = with_sort_by p width None

  special : Special p forms.Sort (sort_arguments width)
  special = record { state = refl; first = refl; numeral = refl; fixed = refl }

  agrees : Agrees forms.Sort (four 0 width 0 0)
  agrees = record { widths = refl; bounds = ap₂ (λ (a b : Bool). a && b) (le-leb 1 width some) (le-leb width 128 most) }

  asked : Asked p forms.Sort keywords.Sort (sort_arguments width) (four 0 width 0 0)
  asked = asked-two p forms.Sort keywords.Sort refl kinds.Bitvec kinds.Number arguments.Bitvec (arguments.Number width) 0 width refl (bitvec-given p) (number-given p width (omega (arith, most))) special agrees

  line-good : Good (put p keywords.Sort (sort_arguments width) None)
  line-good = put-good p forms.Sort keywords.Sort (sort_arguments width) None (four 0 width 0 0) g asked tt (λ is. absurd (cc))

  line-keeps : Keeps p (put p keywords.Sort (sort_arguments width) None)
  line-keeps = put-keeps p forms.Sort keywords.Sort (sort_arguments width) None (four 0 width 0 0) g asked tt

  line-means : (scope_of (put p keywords.Sort (sort_arguments width) None)).meanings (next_id p) ≡ Some (sort_meaning width)
  line-means = put-means p forms.Sort keywords.Sort (sort_arguments width) None (four 0 width 0 0) g asked tt

  sorted-next : (w id : ℕ) → sorted_page.sorts w ≡ Some id → (scope_of sorted_page).meanings id ≡ Some (sort_meaning w)
  sorted-next w id is = by (nat_eq width w) refl is
    where
      by : (b : Bool) → nat_eq width w ≡ b → cond (nat_eq width w) (Some (next_id p)) (p.sorts w) ≡ Some id → (scope_of sorted_page).meanings id ≡ Some (sort_meaning w)
      by true here is =
          let same : next_id p ≡ id = cc in
          subst (λ (k : ℕ). (scope_of sorted_page).meanings k ≡ Some (sort_meaning w)) same (line-means ∙ ap (λ (k : ℕ). Some (sort_meaning k)) (eqb-true width w here))
      by false other is = line-keeps.means id (sort_meaning w) (g.sorted w id (sym (ap (λ (b : Bool). cond b (Some (next_id p)) (p.sorts w)) other) ∙ is))

  has-new : HasSort p sorted_page width
  has-new =
      let here : sort_id sorted_page width ≡ next_id p = ap (λ (b : Bool). unwrap_or (cond b (Some (next_id p)) (p.sorts width)) 0) (eq-eqb width width refl) in
      record {
        good = record {
          sound = record { fine = line-good.sound.fine; forms = line-good.sound.forms; low = line-good.sound.low; bound = line-good.sound.bound };
          sorted = sorted-next;
          late = line-good.late;
          counted = line-good.counted;
        };
        keeps = record { means = line-keeps.means; values = line-keeps.values };
        sort = ap (λ (k : ℕ). (scope_of sorted_page).meanings k) here ∙ line-means;
        same = λ test no. not-picked test p keywords.Sort (sort_arguments width) None no;
      }

  pub has-sort : HasSort p (with_sort p width) width
  has-sort = by (p.sorts width) refl
    where
      by : (o : Option ℕ) → p.sorts width ≡ o → HasSort p (with_sort_by p width o) width
      by None is = has-new
      by (Some id) is = record {
        good = g;
        keeps = keeps-all p;
        sort = ap (λ (o : Option ℕ). (scope_of p).meanings (unwrap_or o 0)) is ∙ g.sorted width id is;
        same = λ test no. refl;
      }

-- no line of a rule that is a sort, a constant or an operator
pub record Quiet (test : FormRule → Bool) : Type 0 where
  pub sort : test forms.Sort ≡ false
  pub numeral : test (forms.Numeral bases.Decimal) ≡ false
  pub unary : test forms.Unary ≡ false
  pub reduced : test forms.Reduced ≡ false
  pub binary : test forms.Binary ≡ false
  pub compared : test forms.Compared ≡ false
  pub boolean : test forms.Boolean ≡ false
  pub joined : test forms.Joined ≡ false
  pub sliced : test forms.Sliced ≡ false
  pub extended : test forms.Extended ≡ false
  pub chosen : test forms.Chosen ≡ false

-- a page with a constant
pub record HasConstant (p q : Page) (id : ℕ) (value : BitVector) : Type 0 where
  pub good : Good q
  pub keeps : Keeps p q
  pub means : (scope_of q).meanings id ≡ Some (record { role = roles.Value; width = value.width; depends = false })
  pub gives : (step : StepValues) → values_at q.lines step id ≡ value
  pub same : (test : FormRule → Bool) → test forms.Sort ≡ false → test (forms.Numeral bases.Decimal) ≡ false → lines_by_rule test q.lines ≡ lines_by_rule test p.lines

module _ (p : Page) (value : BitVector) (g : Good p) (is : IsBits value) where
  abbrev one : Page
  one = with_sort p value.width

  abbrev sort : ℕ
  sort = sort_id one value.width

  abbrev given : List Argument
  given = arguments.Id sort ∷ arguments.Numeral (decimal value.number) ∷ []

  h : HasSort p one value.width
  h = has-sort p value.width g is.some_bit is.no_wider

  sort-named : Names kinds.Sort one sort value.width
  sort-named = ap (width_wanted kinds.Sort) h.sort

  small : value.number < 10 ^ 64
  small =
      let wide : 2 ^ value.width ≤ 2 ^ 128 = pow-le-pow_right {n = 2} (lit< tt) {i = value.width} {j = 128} is.no_wider in
      let most : 2 ^ 128 ≤ 10 ^ 64 = lit≤ tt in
      let in_range : value.number < 2 ^ value.width = is.in_range in
      omega (arith, in_range, wide, most)

  numeral-special : Special one (forms.Numeral bases.Decimal) given
  numeral-special = record {
    state = refl;
    first = refl;
    numeral = lt-ltb (digits_value 10 (decimal value.number)) (2 ^ sort_width_in (scope_of one) sort)
        (let written = (decimal_is_IsNumeral_wide value.number small).1 in
        let wide : sort_width_in (scope_of one) sort ≡ value.width = ap (λ (o : Option ℕ). unwrap_or o 0) sort-named in
        subst (λ (k : ℕ). k < 2 ^ sort_width_in (scope_of one) sort) (sym written) (subst (λ (k : ℕ). value.number < 2 ^ k) (sym wide) is.in_range));
    fixed = refl;
  }

  constant-asked : Asked one (forms.Numeral bases.Decimal) keywords.Constd given (four value.width 0 0 0)
  constant-asked =
      asked-two one (forms.Numeral bases.Decimal) keywords.Constd refl kinds.Sort (kinds.Numeral bases.Decimal) (arguments.Id sort) (arguments.Numeral (decimal value.number)) value.width 0 refl
      (sort-given one sort value.width h.good.sound sort-named) (numeral-given one bases.Decimal (decimal value.number) (decimal_is_IsNumeral_wide value.number small).0) numeral-special
      (record { widths = refl; bounds = refl })

  pub has-constant : HasConstant p (with_constant p value) (id_of_line p value.width) value
  has-constant = record {
    good = put-good one (forms.Numeral bases.Decimal) keywords.Constd given None (four value.width 0 0 0) h.good constant-asked tt (λ is. absurd (cc));
    keeps = keeps-both p one (with_constant p value) h.keeps (put-keeps one (forms.Numeral bases.Decimal) keywords.Constd given None (four value.width 0 0 0) h.good constant-asked tt);
    means = put-means one (forms.Numeral bases.Decimal) keywords.Constd given None (four value.width 0 0 0) h.good constant-asked tt
        ∙ ap (λ (b : Bool). Some (let m : IdMeaning = record { role = roles.Value; width = value.width; depends = b || false } in m)) (ap meaning_depends h.sort);
    gives = λ step. put-value one (forms.Numeral bases.Decimal) keywords.Constd given None (four value.width 0 0 0) h.good constant-asked tt step
        ∙ ap₂ (λ (w n : ℕ). let v : BitVector = record { width = w; number = n } in v) (ap (λ (o : Option ℕ). unwrap_or o 0) sort-named) (decimal_is_IsNumeral_wide value.number small).1;
    same = λ test no_sort no_numeral. not-picked test one keywords.Constd given None no_numeral ∙ h.same test no_sort;
  }
