-- What each kind of line that a circuit is written with is asked.
use Rattle.std.proofs.Common.{◌≡◌, ℕ, ◌<◌, ◌^◌, Bool, true, false, ◌&&◌, List, [], ◌∷◌, Option, Some, is_some, length, refl, sym, ap, ◌∙◌, subst}
use Rattle.std.specs.Str.Parse.{IsNumeral}
use Rattle.btor2_text.specs.Forms.{radix_of}
use Rattle.btor2_text.specs.Printable.{FitKinds, FitsKind}
use Rattle.btor2_text.specs.declared.keyword.Keyword.{Keyword}
use Rattle.btor2_text.specs.declared.kind.Base.{Base}
use Rattle.btor2_text.specs.declared.kind.ArgumentKind.{ArgumentKind}
use Rattle.btor2_text.specs.declared.kind.ArgumentKind.TheVariants as kinds
use Rattle.btor2_text.specs.declared.line.Argument.{Argument}
use Rattle.btor2_text.specs.declared.line.Argument.TheVariants as arguments
use Rattle.btor2_model.specs.Acceptance.{init_is_fixed, is_known, names_state, numeral_fits, sets_first}
use Rattle.btor2_model.specs.Rules.{bounds_fit, rule_of, widths_agree}
use Rattle.btor2_model.specs.Scope.{measure, measures, measures_from, width_wanted}
use Rattle.btor2_model.specs.declared.meaning.IdMeaning.{IdMeaning}
use Rattle.btor2_model.specs.declared.rule.Measures.{Measures}
use Rattle.btor2_model.specs.declared.rule.FormRule.{FormRule}
use Rattle.btor2_model.proofs.KindsByRule.{kinds_by}
use Rattle.btor2_net.specs.Pages.{Page}
use Rattle.btor2_net.proofs.Adding.{Asked, Sound, scope_of}
use Rattle.btor2_net.proofs.Keeping.{Names, known-by, written-id}

-- a line's four measures
abbrev pub four : ℕ → ℕ → ℕ → ℕ → Measures
four first second third fourth = record { first = first; second = second; third = third; fourth = fourth }

-- an argument of a kind, and its measure
pub record Given (p : Page) (kind : ArgumentKind) (argument : Argument) (measured : ℕ) : Type 0 where
  pub known : is_known (scope_of p) argument ≡ true
  pub measure_is : measure (scope_of p) (Some kind) (Some argument) ≡ Some measured
  pub fits : length p.lines < 2 ^ 64 → FitsKind kind argument

known-some : (kind : ArgumentKind) (o : Option IdMeaning) (width : ℕ) → width_wanted kind o ≡ Some width → is_some o ≡ true
known-some kind o width is = let m = known-by kind o width is in ap is_some m.1

pub sort-given : (p : Page) (id width : ℕ) → Sound p → Names kinds.Sort p id width → Given p kinds.Sort (arguments.Id id) width
sort-given p id width s is = record {
  known = known-some kinds.Sort ((scope_of p).meanings id) width is;
  measure_is = is;
  fits = λ few. (id, written-id kinds.Sort p id width s is few, refl);
}

pub value-given : (p : Page) (id width : ℕ) → Sound p → Names kinds.Value p id width → Given p kinds.Value (arguments.Id id) width
value-given p id width s is = record {
  known = known-some kinds.Value ((scope_of p).meanings id) width is;
  measure_is = is;
  fits = λ few. (id, written-id kinds.Value p id width s is few, refl);
}

pub number-given : (p : Page) (number : ℕ) → number < 2 ^ 32 → Given p kinds.Number (arguments.Number number) number
number-given p number small = record { known = refl; measure_is = refl; fits = λ few. (number, small, refl) }

pub bitvec-given : (p : Page) → Given p kinds.Bitvec arguments.Bitvec 0
bitvec-given p = record { known = refl; measure_is = refl; fits = λ few. refl }

pub numeral-given : (p : Page) (base : Base) (digits : List ℕ) → IsNumeral (radix_of base) digits → Given p (kinds.Numeral base) (arguments.Numeral digits) 0
numeral-given p base digits is = record { known = refl; measure_is = refl; fits = λ few. (digits, is, refl) }

-- what is asked of a line beside its arguments and widths
pub record Special (p : Page) (rule : FormRule) (given : List Argument) : Type 0 where
  pub state : names_state rule (scope_of p) given ≡ true
  pub first : sets_first rule (scope_of p) given ≡ true
  pub numeral : numeral_fits rule (scope_of p) given ≡ true
  pub fixed : init_is_fixed rule (scope_of p) given ≡ true

-- nothing, for most forms
abbrev pub Plain : FormRule → Type 0
Plain rule = (p : Page) (given : List Argument) → Special p rule given

-- the widths and numbers are as the form asks
pub record Agrees (rule : FormRule) (m : Measures) : Type 0 where
  pub widths : widths_agree rule m ≡ true
  pub bounds : bounds_fit rule m ≡ true

all-measured : (a b c d : Option ℕ) (w x y z : ℕ) → a ≡ Some w → b ≡ Some x → c ≡ Some y → d ≡ Some z → measures_from a b c d ≡ Some (four w x y z)
all-measured a b c d w x y z first second third fourth =
    ap (λ (o : Option ℕ). measures_from o b c d) first ∙ ap (λ (o : Option ℕ). measures_from (Some w) o c d) second ∙ ap (λ (o : Option ℕ). measures_from (Some w) (Some x) o d) third
    ∙ ap (λ (o : Option ℕ). measures_from (Some w) (Some x) (Some y) o) fourth

pub all-true : (a b : Bool) → a ≡ true → b ≡ true → (a && b) ≡ true
all-true true b first second = second
all-true false b first second = absurd (cc)

module _ (p : Page) (rule : FormRule) (keyword : Keyword) (of : rule_of keyword ≡ rule) where
  -- a line of one argument, and of more
  pub asked-one : (k : ArgumentKind) (a : Argument) (w : ℕ) → kinds_by rule ≡ k ∷ [] → Given p k a w → Special p rule (a ∷ []) → Agrees rule (four w 0 0 0) → Asked p rule keyword (a ∷ []) (four w 0 0 0)
  asked-one k a w form one special agrees = record {
    of = of;
    known = all-true (is_known (scope_of p) a) true one.known refl;
    measured = ap (λ (ks : List ArgumentKind). measures (scope_of p) ks (a ∷ [])) form ∙ all-measured (measure (scope_of p) (Some k) (Some a)) (Some 0) (Some 0) (Some 0) w 0 0 0 one.measure_is refl refl refl;
    state = special.state;
    widths = agrees.widths;
    bounds = agrees.bounds;
    first = special.first;
    numeral = special.numeral;
    fixed = special.fixed;
    forms = λ few. subst (λ (ks : List ArgumentKind). FitKinds ks (a ∷ [])) (sym form) (a, [], refl, one.fits few, refl);
  }

  pub asked-two : (k l : ArgumentKind) (a b : Argument) (w x : ℕ) → kinds_by rule ≡ k ∷ l ∷ [] → Given p k a w → Given p l b x → Special p rule (a ∷ b ∷ []) → Agrees rule (four w x 0 0)
      → Asked p rule keyword (a ∷ b ∷ []) (four w x 0 0)
  asked-two k l a b w x form one two special agrees = record {
    of = of;
    known = all-true (is_known (scope_of p) a) (is_known (scope_of p) b && true) one.known (all-true (is_known (scope_of p) b) true two.known refl);
    measured = ap (λ (ks : List ArgumentKind). measures (scope_of p) ks (a ∷ b ∷ [])) form
        ∙ all-measured (measure (scope_of p) (Some k) (Some a)) (measure (scope_of p) (Some l) (Some b)) (Some 0) (Some 0) w x 0 0 one.measure_is two.measure_is refl refl;
    state = special.state;
    widths = agrees.widths;
    bounds = agrees.bounds;
    first = special.first;
    numeral = special.numeral;
    fixed = special.fixed;
    forms = λ few. subst (λ (ks : List ArgumentKind). FitKinds ks (a ∷ b ∷ [])) (sym form) (a, b ∷ [], refl, one.fits few, (b, [], refl, two.fits few, refl));
  }

  pub asked-three : (k l n : ArgumentKind) (a b c : Argument) (w x y : ℕ) → kinds_by rule ≡ k ∷ l ∷ n ∷ [] → Given p k a w → Given p l b x → Given p n c y → Special p rule (a ∷ b ∷ c ∷ []) → Agrees rule (four w x y 0)
      → Asked p rule keyword (a ∷ b ∷ c ∷ []) (four w x y 0)
  asked-three k l n a b c w x y form one two three special agrees = record {
    of = of;
    known = all-true (is_known (scope_of p) a) (is_known (scope_of p) b && (is_known (scope_of p) c && true)) one.known
        (all-true (is_known (scope_of p) b) (is_known (scope_of p) c && true) two.known (all-true (is_known (scope_of p) c) true three.known refl));
    measured = ap (λ (ks : List ArgumentKind). measures (scope_of p) ks (a ∷ b ∷ c ∷ [])) form
        ∙ all-measured (measure (scope_of p) (Some k) (Some a)) (measure (scope_of p) (Some l) (Some b)) (measure (scope_of p) (Some n) (Some c)) (Some 0) w x y 0 one.measure_is two.measure_is three.measure_is refl;
    state = special.state;
    widths = agrees.widths;
    bounds = agrees.bounds;
    first = special.first;
    numeral = special.numeral;
    fixed = special.fixed;
    forms = λ few. subst (λ (ks : List ArgumentKind). FitKinds ks (a ∷ b ∷ c ∷ [])) (sym form) (a, b ∷ c ∷ [], refl, one.fits few, (b, c ∷ [], refl, two.fits few, (c, [], refl, three.fits few, refl)));
  }

  pub asked-four : (k l n o : ArgumentKind) (a b c d : Argument) (w x y z : ℕ) → kinds_by rule ≡ k ∷ l ∷ n ∷ o ∷ [] → Given p k a w → Given p l b x → Given p n c y → Given p o d z
      → Special p rule (a ∷ b ∷ c ∷ d ∷ []) → Agrees rule (four w x y z) → Asked p rule keyword (a ∷ b ∷ c ∷ d ∷ []) (four w x y z)
  asked-four k l n o a b c d w x y z form one two three last special agrees = record {
    of = of;
    known = all-true (is_known (scope_of p) a) (is_known (scope_of p) b && (is_known (scope_of p) c && (is_known (scope_of p) d && true))) one.known
        (all-true (is_known (scope_of p) b) (is_known (scope_of p) c && (is_known (scope_of p) d && true)) two.known
        (all-true (is_known (scope_of p) c) (is_known (scope_of p) d && true) three.known (all-true (is_known (scope_of p) d) true last.known refl)));
    measured = ap (λ (ks : List ArgumentKind). measures (scope_of p) ks (a ∷ b ∷ c ∷ d ∷ [])) form
        ∙ all-measured (measure (scope_of p) (Some k) (Some a)) (measure (scope_of p) (Some l) (Some b)) (measure (scope_of p) (Some n) (Some c)) (measure (scope_of p) (Some o) (Some d)) w x y z
        one.measure_is two.measure_is three.measure_is last.measure_is;
    state = special.state;
    widths = agrees.widths;
    bounds = agrees.bounds;
    first = special.first;
    numeral = special.numeral;
    fixed = special.fixed;
    forms = λ few. subst (λ (ks : List ArgumentKind). FitKinds ks (a ∷ b ∷ c ∷ d ∷ [])) (sym form)
        (a, b ∷ c ∷ d ∷ [], refl, one.fits few, (b, c ∷ d ∷ [], refl, two.fits few, (c, d ∷ [], refl, three.fits few, (d, [], refl, last.fits few, refl))));
  }
