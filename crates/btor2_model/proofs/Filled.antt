-- A line without a fault has a value of the width that it gives its id, where its operands have theirs.
use Rattle.std.proofs.Common.{◌≡◌, ℕ, ◌+◌, ◌-◌, ◌^◌, ◌<◌, ◌≤◌, nat_eq, nat_le, not, Bool, true, false, ◌&&◌, ◌||◌, List, [], ◌∷◌, Option, None, Some, refl, sym, ap, ◌∙◌, subst, arith}
use Rattle.std.proofs.lemmas.Bool.{eqb-true, leb-true, ltb-true}
use Rattle.std.specs.List.{find, list_all, list_any}
use Rattle.std.specs.Option.{option_map, unwrap_or}
use Rattle.std.specs.Str.Parse.{digits_value}
use Rattle.kw_bits.specs.BitVector.{BitVector}
use Rattle.btor2_text.specs.Forms.{kinds_of, radix_of}
use Rattle.btor2_text.specs.Printable.{FitKinds}
use Rattle.btor2_text.specs.declared.keyword.Keyword.{Keyword}
use Rattle.btor2_text.specs.declared.kind.Base.{Base}
use Rattle.btor2_text.specs.declared.kind.ArgumentKind.{ArgumentKind}
use Rattle.btor2_text.specs.declared.kind.ArgumentKind.TheVariants as kinds
use Rattle.btor2_text.specs.declared.line.Argument.{Argument}
use Rattle.btor2_text.specs.declared.line.Argument.TheVariants as arguments
use Rattle.btor2_text.specs.declared.line.Line.{Line}
use Rattle.btor2_model.specs.Acceptance.{agree, init_is_fixed, is_fresh, is_known, line_fault, names_state, numeral_fits, passes, sets_first}
use Rattle.btor2_model.specs.Rules.{rule_of, bounds_fit, widths_agree}
use Rattle.btor2_model.specs.Run.{base_of}
use Rattle.btor2_model.specs.Scope.{DeclaredIds, argument_depends, measures, measures_from, measures_of, meaning_depends, sort_width_in, width_wanted}
use Rattle.btor2_model.specs.SlowRun.{HasValue, is_constant}
use Rattle.btor2_model.specs.inner.SlowRun.{GivesValue, computes, IsFilled, known_value, takes_one, takes_alike, width_by}
use Rattle.btor2_model.specs.declared.known_values.KnownValues.{KnownValues}
use Rattle.btor2_model.specs.declared.rule.Measures.{Measures}
use Rattle.btor2_model.specs.declared.rule.FormRule.{FormRule}
use Rattle.btor2_model.specs.declared.rule.FormRule.TheVariants as forms
use Rattle.btor2_model.proofs.KindsByRule.{IsBaseOf, base-by, kinds-by, kinds_by}

-- the first of a line's measures, which is its width where it has a value; 0 where it has none
abbrev pub first_measure : Option Measures → ℕ
first_measure None = 0
first_measure (Some m) = m.first

-- the four numbers are those of the arguments
pub each-measure : (a b c d : Option ℕ) (m : Measures) → measures_from a b c d ≡ Some m → (a ≡ Some m.first) × (b ≡ Some m.second) × (c ≡ Some m.third) × (d ≡ Some m.fourth)
each-measure (Some a) (Some b) (Some c) (Some d) m is =
    let same : record { first = a; second = b; third = c; fourth = d } ≡ m = cc in
    (ap (λ (n : Measures). Some n.first) same, ap (λ (n : Measures). Some n.second) same, ap (λ (n : Measures). Some n.third) same, ap (λ (n : Measures). Some n.fourth) same)
each-measure None b c d m is = absurd (cc)
each-measure (Some a) None c d m is = absurd (cc)
each-measure (Some a) (Some b) None d m is = absurd (cc)
each-measure (Some a) (Some b) (Some c) None m is = absurd (cc)

value-of : (found : Option BitVector) (width : ℕ) → HasValue found width → (x : BitVector) × (found ≡ Some x) × (x.width ≡ width)
value-of (Some x) width has = (x, refl, has)
value-of None width has = absurd has

pub both : (a b : Bool) → (a && b) ≡ true → (a ≡ true) × (b ≡ true)
both true true is = (refl, refl)
both true false is = absurd (cc)
both false b is = absurd (cc)

pub later : (a b : Bool) → b ≡ true → (a || b) ≡ true
later true b is = refl
later false b is = is

pub sooner : (a b : Bool) → a ≡ true → (a || b) ≡ true
sooner true b is = refl
sooner false b is = absurd (cc)

-- the first argument, by its kind
sort-first : (more : List ArgumentKind) (given : List Argument) → FitKinds (kinds.Sort ∷ more) given → (id : ℕ) × (others : List Argument) × (given ≡ arguments.Id id ∷ others) × FitKinds more others
sort-first more given fits = (fits.3.0, fits.1, fits.2 ∙ ap (λ (a : Argument). a ∷ fits.1) fits.3.2, fits.4)

value-first : (more : List ArgumentKind) (given : List Argument) → FitKinds (kinds.Value ∷ more) given → (id : ℕ) × (others : List Argument) × (given ≡ arguments.Id id ∷ others) × FitKinds more others
value-first more given fits = (fits.3.0, fits.1, fits.2 ∙ ap (λ (a : Argument). a ∷ fits.1) fits.3.2, fits.4)

number-first : (more : List ArgumentKind) (given : List Argument) → FitKinds (kinds.Number ∷ more) given → (n : ℕ) × (others : List Argument) × (given ≡ arguments.Number n ∷ others) × FitKinds more others
number-first more given fits = (fits.3.0, fits.1, fits.2 ∙ ap (λ (a : Argument). a ∷ fits.1) fits.3.2, fits.4)

numeral-first : (base : Base) (more : List ArgumentKind) (given : List Argument) → FitKinds (kinds.Numeral base ∷ more) given → (digits : List ℕ) × (others : List Argument) × (given ≡ arguments.Numeral digits ∷ others) × FitKinds more others
numeral-first base more given fits = (fits.3.0, fits.1, fits.2 ∙ ap (λ (a : Argument). a ∷ fits.1) fits.3.2, fits.4)

-- one argument more
put : (first : Argument) (given others rest : List Argument) → given ≡ first ∷ others → others ≡ rest → given ≡ first ∷ rest
put first given others rest is same = is ∙ ap (λ (more : List Argument). first ∷ more) same

pub sort-alone : (given : List Argument) → FitKinds (kinds.Sort ∷ []) given → (sort : ℕ) × (given ≡ arguments.Id sort ∷ [])
sort-alone given fits = let s = sort-first [] given fits in (s.0, put (arguments.Id s.0) given s.1 [] s.2 s.3)

pub sort-numeral : (base : Base) (given : List Argument) → FitKinds (kinds.Sort ∷ kinds.Numeral base ∷ []) given → (sort : ℕ) × (digits : List ℕ) × (given ≡ arguments.Id sort ∷ arguments.Numeral digits ∷ [])
sort-numeral base given fits =
    let s = sort-first (kinds.Numeral base ∷ []) given fits in
    let d = numeral-first base [] s.1 s.3 in
    (s.0, d.0, put (arguments.Id s.0) given s.1 (arguments.Numeral d.0 ∷ []) s.2 (put (arguments.Numeral d.0) s.1 d.1 [] d.2 d.3))

pub value-alone : (given : List Argument) → FitKinds (kinds.Value ∷ []) given → (a : ℕ) × (given ≡ arguments.Id a ∷ [])
value-alone given fits = let s = value-first [] given fits in (s.0, put (arguments.Id s.0) given s.1 [] s.2 s.3)

value-value : (given : List Argument) → FitKinds (kinds.Value ∷ kinds.Value ∷ []) given → (a b : ℕ) × (given ≡ arguments.Id a ∷ arguments.Id b ∷ [])
value-value given fits =
    let s = value-first (kinds.Value ∷ []) given fits in
    let t = value-alone s.1 s.3 in
    (s.0, t.0, put (arguments.Id s.0) given s.1 (arguments.Id t.0 ∷ []) s.2 t.1)

pub sort-one : (given : List Argument) → FitKinds (kinds.Sort ∷ kinds.Value ∷ []) given → (sort a : ℕ) × (given ≡ arguments.Id sort ∷ arguments.Id a ∷ [])
sort-one given fits =
    let s = sort-first (kinds.Value ∷ []) given fits in
    let t = value-alone s.1 s.3 in
    (s.0, t.0, put (arguments.Id s.0) given s.1 (arguments.Id t.0 ∷ []) s.2 t.1)

pub sort-two : (given : List Argument) → FitKinds (kinds.Sort ∷ kinds.Value ∷ kinds.Value ∷ []) given → (sort a b : ℕ) × (given ≡ arguments.Id sort ∷ arguments.Id a ∷ arguments.Id b ∷ [])
sort-two given fits =
    let s = sort-first (kinds.Value ∷ kinds.Value ∷ []) given fits in
    let t = value-value s.1 s.3 in
    (s.0, t.0, t.1, put (arguments.Id s.0) given s.1 (arguments.Id t.0 ∷ arguments.Id t.1 ∷ []) s.2 t.2)

pub sort-three : (given : List Argument) → FitKinds (kinds.Sort ∷ kinds.Value ∷ kinds.Value ∷ kinds.Value ∷ []) given → (sort c a b : ℕ) × (given ≡ arguments.Id sort ∷ arguments.Id c ∷ arguments.Id a ∷ arguments.Id b ∷ [])
sort-three given fits =
    let s = sort-first (kinds.Value ∷ kinds.Value ∷ kinds.Value ∷ []) given fits in
    let v = value-first (kinds.Value ∷ kinds.Value ∷ []) s.1 s.3 in
    let t = value-value v.1 v.3 in
    (s.0, v.0, t.0, t.1, put (arguments.Id s.0) given s.1 (arguments.Id v.0 ∷ arguments.Id t.0 ∷ arguments.Id t.1 ∷ []) s.2 (put (arguments.Id v.0) s.1 v.1 (arguments.Id t.0 ∷ arguments.Id t.1 ∷ []) v.2 t.2))

pub sort-number : (given : List Argument) → FitKinds (kinds.Sort ∷ kinds.Value ∷ kinds.Number ∷ []) given → (sort a n : ℕ) × (given ≡ arguments.Id sort ∷ arguments.Id a ∷ arguments.Number n ∷ [])
sort-number given fits =
    let s = sort-first (kinds.Value ∷ kinds.Number ∷ []) given fits in
    let v = value-first (kinds.Number ∷ []) s.1 s.3 in
    let n = number-first [] v.1 v.3 in
    (s.0, v.0, n.0, put (arguments.Id s.0) given s.1 (arguments.Id v.0 ∷ arguments.Number n.0 ∷ []) s.2 (put (arguments.Id v.0) s.1 v.1 (arguments.Number n.0 ∷ []) v.2 (put (arguments.Number n.0) v.1 n.1 [] n.2 n.3)))

pub sort-bounds : (given : List Argument) → FitKinds (kinds.Sort ∷ kinds.Value ∷ kinds.Number ∷ kinds.Number ∷ []) given → (sort a u l : ℕ) × (given ≡ arguments.Id sort ∷ arguments.Id a ∷ arguments.Number u ∷ arguments.Number l ∷ [])
sort-bounds given fits =
    let s = sort-first (kinds.Value ∷ kinds.Number ∷ kinds.Number ∷ []) given fits in
    let v = value-first (kinds.Number ∷ kinds.Number ∷ []) s.1 s.3 in
    let u = number-first (kinds.Number ∷ []) v.1 v.3 in
    let l = number-first [] u.1 u.3 in (
      s.0,
      v.0,
      u.0,
      l.0,
      put (arguments.Id s.0) given s.1 (arguments.Id v.0 ∷ arguments.Number u.0 ∷ arguments.Number l.0 ∷ []) s.2
          (put (arguments.Id v.0) s.1 v.1 (arguments.Number u.0 ∷ arguments.Number l.0 ∷ []) v.2 (put (arguments.Number u.0) v.1 u.1 (arguments.Number l.0 ∷ []) u.2 (put (arguments.Number l.0) u.1 l.1 [] l.2 l.3))),
    )

-- what a line stands on: sorts of 1 to 128 bits, the values before it, and what it makes of them
pub record Standing (given : Bool) (scope : DeclaredIds) (known : KnownValues) (keyword : Keyword) (args : List Argument) (result : Option BitVector) : Type 0 where
  pub sorts : (id width : ℕ) → width_wanted kinds.Sort (scope.meanings id) ≡ Some width → (1 ≤ width) × (width ≤ 128)
  pub filled : IsFilled given scope known
  pub depends : list_any (argument_depends scope) args ≡ true → given ≡ true
  pub gives : GivesValue scope known keyword args result

-- an operand's value
operand : (given : Bool) (scope : DeclaredIds) (known : KnownValues) (keyword : Keyword) (args : List Argument) (result : Option BitVector) → Standing given scope known keyword args result
    → (a width : ℕ) → width_wanted kinds.Value (scope.meanings a) ≡ Some width → (meaning_depends (scope.meanings a) ≡ true → list_any (argument_depends scope) args ≡ true)
    → (x : BitVector) × (known_value known a ≡ Some x) × (x.width ≡ width)
operand given scope known keyword args result s a width is depends = value-of (known_value known a) width (s.filled a width is (λ d. s.depends (depends d)))

sort-width : (scope : DeclaredIds) (sort width : ℕ) → width_wanted kinds.Sort (scope.meanings sort) ≡ Some width → sort_width_in scope sort ≡ width
sort-width scope sort width is = ap (λ (o : Option ℕ). unwrap_or o 0) is

-- operators of one operand
one-has : (given : Bool) (scope : DeclaredIds) (known : KnownValues) (keyword : Keyword) (args : List Argument) (result : Option BitVector) (m : Measures) (rule : FormRule) → Standing given scope known keyword args result
    → rule_of keyword ≡ rule → FitKinds (kinds.Sort ∷ kinds.Value ∷ []) args → measures scope (kinds.Sort ∷ kinds.Value ∷ []) args ≡ Some m → takes_one rule ≡ true → width_by rule m.second ≡ m.first → HasValue result m.first
one-has given scope known keyword args result m rule s of fits measured takes agree =
    let (sort, a, is) = sort-one args fits in
    let w = each-measure (width_wanted kinds.Sort (scope.meanings sort)) (width_wanted kinds.Value (scope.meanings a)) (Some 0) (Some 0) m
    (sym (ap (measures scope (kinds.Sort ∷ kinds.Value ∷ [])) is) ∙ measured) in
    let x = operand given scope known keyword args result s a m.second w.1
    (λ d. ap (list_any (argument_depends scope)) is ∙ later (meaning_depends (scope.meanings sort)) (meaning_depends (scope.meanings a) || false) (sooner (meaning_depends (scope.meanings a)) false d)) in
    subst (HasValue result) (ap (λ (r : FormRule). width_by r x.0.width) of ∙ ap (width_by rule) x.2 ∙ agree) (s.gives.one sort a x.0 is x.1 (ap takes_one of ∙ takes))

pub some-same : (a b : ℕ) → Some a ≡ Some b → a ≡ b
some-same a b is = cc

-- what depends among the operands makes the line depend
second : (scope : DeclaredIds) (args : List Argument) (s a : ℕ) (more : List Argument) → args ≡ arguments.Id s ∷ arguments.Id a ∷ more → meaning_depends (scope.meanings a) ≡ true → list_any (argument_depends scope) args ≡ true
second scope args s a more is d =
    ap (list_any (argument_depends scope)) is ∙ later (meaning_depends (scope.meanings s)) (meaning_depends (scope.meanings a) || list_any (argument_depends scope) more) (sooner (meaning_depends (scope.meanings a)) (list_any (argument_depends scope) more) d)

third : (scope : DeclaredIds) (args : List Argument) (s a b : ℕ) (more : List Argument) → args ≡ arguments.Id s ∷ arguments.Id a ∷ arguments.Id b ∷ more → meaning_depends (scope.meanings b) ≡ true → list_any (argument_depends scope) args ≡ true
third scope args s a b more is d =
    let rest = list_any (argument_depends scope) more in
    ap (list_any (argument_depends scope)) is
    ∙ later (meaning_depends (scope.meanings s)) (meaning_depends (scope.meanings a) || (meaning_depends (scope.meanings b) || rest))
    (later (meaning_depends (scope.meanings a)) (meaning_depends (scope.meanings b) || rest) (sooner (meaning_depends (scope.meanings b)) rest d))

fourth : (scope : DeclaredIds) (args : List Argument) (s a b c : ℕ) (more : List Argument) → args ≡ arguments.Id s ∷ arguments.Id a ∷ arguments.Id b ∷ arguments.Id c ∷ more → meaning_depends (scope.meanings c) ≡ true → list_any (argument_depends scope) args ≡ true
fourth scope args s a b c more is d =
    let rest = list_any (argument_depends scope) more in
    ap (list_any (argument_depends scope)) is
    ∙ later (meaning_depends (scope.meanings s)) (meaning_depends (scope.meanings a) || (meaning_depends (scope.meanings b) || (meaning_depends (scope.meanings c) || rest)))
    (later (meaning_depends (scope.meanings a)) (meaning_depends (scope.meanings b) || (meaning_depends (scope.meanings c) || rest))
    (later (meaning_depends (scope.meanings b)) (meaning_depends (scope.meanings c) || rest) (sooner (meaning_depends (scope.meanings c)) rest d)))

-- operators of two operands of one width
alike-has : (given : Bool) (scope : DeclaredIds) (known : KnownValues) (keyword : Keyword) (args : List Argument) (result : Option BitVector) (m : Measures) (rule : FormRule) → Standing given scope known keyword args result
    → rule_of keyword ≡ rule → FitKinds (kinds.Sort ∷ kinds.Value ∷ kinds.Value ∷ []) args → measures scope (kinds.Sort ∷ kinds.Value ∷ kinds.Value ∷ []) args ≡ Some m → takes_alike rule ≡ true
    → m.second ≡ m.third → (rule ≡ forms.Boolean → m.second ≡ 1) → width_by rule m.second ≡ m.first → HasValue result m.first
alike-has given scope known keyword args result m rule s of fits measured takes same one agree =
    let (sort, a, b, is) = sort-two args fits in
    let w = each-measure (width_wanted kinds.Sort (scope.meanings sort)) (width_wanted kinds.Value (scope.meanings a)) (width_wanted kinds.Value (scope.meanings b)) (Some 0) m
    (sym (ap (measures scope (kinds.Sort ∷ kinds.Value ∷ kinds.Value ∷ [])) is) ∙ measured) in
    let x = operand given scope known keyword args result s a m.second w.1 (second scope args sort a (arguments.Id b ∷ []) is) in
    let y = operand given scope known keyword args result s b m.third w.2 (third scope args sort a b [] is) in
    subst (HasValue result) (ap (λ (r : FormRule). width_by r x.0.width) of ∙ ap (width_by rule) x.2 ∙ agree)
    (s.gives.alike sort a b x.0 y.0 is x.1 y.1 (x.2 ∙ same ∙ sym y.2) (ap takes_alike of ∙ takes) (λ boolean. x.2 ∙ one (sym of ∙ boolean)))

-- operands that are joined
joined-has : (given : Bool) (scope : DeclaredIds) (known : KnownValues) (keyword : Keyword) (args : List Argument) (result : Option BitVector) (m : Measures) → Standing given scope known keyword args result
    → rule_of keyword ≡ forms.Joined → FitKinds (kinds.Sort ∷ kinds.Value ∷ kinds.Value ∷ []) args → measures scope (kinds.Sort ∷ kinds.Value ∷ kinds.Value ∷ []) args ≡ Some m → m.first ≡ m.second + m.third → HasValue result m.first
joined-has given scope known keyword args result m s of fits measured agree =
    let (sort, a, b, is) = sort-two args fits in
    let w = each-measure (width_wanted kinds.Sort (scope.meanings sort)) (width_wanted kinds.Value (scope.meanings a)) (width_wanted kinds.Value (scope.meanings b)) (Some 0) m
    (sym (ap (measures scope (kinds.Sort ∷ kinds.Value ∷ kinds.Value ∷ [])) is) ∙ measured) in
    let x = operand given scope known keyword args result s a m.second w.1 (second scope args sort a (arguments.Id b ∷ []) is) in
    let y = operand given scope known keyword args result s b m.third w.2 (third scope args sort a b [] is) in
    let narrow = (s.sorts sort m.first w.0).1 in
    let total : x.0.width + y.0.width ≡ m.first = omega (arith, x.2, y.2, agree) in
    subst (HasValue result) total (s.gives.joined sort a b x.0 y.0 is x.1 y.1 (omega (arith, total, narrow)) of)

-- an operand that is extended
extended-has : (given : Bool) (scope : DeclaredIds) (known : KnownValues) (keyword : Keyword) (args : List Argument) (result : Option BitVector) (m : Measures) → Standing given scope known keyword args result
    → FitKinds (kinds.Sort ∷ kinds.Value ∷ kinds.Number ∷ []) args → measures scope (kinds.Sort ∷ kinds.Value ∷ kinds.Number ∷ []) args ≡ Some m → m.first ≡ m.second + m.third → HasValue result m.first
extended-has given scope known keyword args result m s fits measured agree =
    let (sort, a, n, is) = sort-number args fits in
    let w = each-measure (width_wanted kinds.Sort (scope.meanings sort)) (width_wanted kinds.Value (scope.meanings a)) (Some n) (Some 0) m
    (sym (ap (measures scope (kinds.Sort ∷ kinds.Value ∷ kinds.Number ∷ [])) is) ∙ measured) in
    let x = operand given scope known keyword args result s a m.second w.1 (second scope args sort a (arguments.Number n ∷ []) is) in
    let narrow = (s.sorts sort m.first w.0).1 in
    let more : n ≡ m.third = some-same n m.third w.2 in
    let total : x.0.width + n ≡ m.first = omega (arith, x.2, more, agree) in
    subst (HasValue result) total (s.gives.extended sort a n x.0 is x.1 (omega (arith, total, narrow)))

-- bits of an operand
sliced-has : (given : Bool) (scope : DeclaredIds) (known : KnownValues) (keyword : Keyword) (args : List Argument) (result : Option BitVector) (m : Measures) → Standing given scope known keyword args result
    → FitKinds (kinds.Sort ∷ kinds.Value ∷ kinds.Number ∷ kinds.Number ∷ []) args → measures scope (kinds.Sort ∷ kinds.Value ∷ kinds.Number ∷ kinds.Number ∷ []) args ≡ Some m
    → m.fourth ≤ m.third → m.first + m.fourth ≡ m.third + 1 → m.third < m.second → HasValue result m.first
sliced-has given scope known keyword args result m s fits measured order agree within =
    let (sort, a, u, l, is) = sort-bounds args fits in
    let w = each-measure (width_wanted kinds.Sort (scope.meanings sort)) (width_wanted kinds.Value (scope.meanings a)) (Some u) (Some l) m
    (sym (ap (measures scope (kinds.Sort ∷ kinds.Value ∷ kinds.Number ∷ kinds.Number ∷ [])) is) ∙ measured) in
    let x = operand given scope known keyword args result s a m.second w.1 (second scope args sort a (arguments.Number u ∷ arguments.Number l ∷ []) is) in
    let upper : u ≡ m.third = some-same u m.third w.2 in
    let lower : l ≡ m.fourth = some-same l m.fourth w.3 in
    let total : u - l + 1 ≡ m.first = omega (arith, upper, lower, order, agree) in
    subst (HasValue result) total (s.gives.sliced sort a u l x.0 is x.1 (omega (arith, upper, lower, order)) (omega (arith, upper, x.2, within)))

-- one operand of two
chosen-has : (given : Bool) (scope : DeclaredIds) (known : KnownValues) (keyword : Keyword) (args : List Argument) (result : Option BitVector) (m : Measures) → Standing given scope known keyword args result
    → FitKinds (kinds.Sort ∷ kinds.Value ∷ kinds.Value ∷ kinds.Value ∷ []) args → measures scope (kinds.Sort ∷ kinds.Value ∷ kinds.Value ∷ kinds.Value ∷ []) args ≡ Some m
    → m.third ≡ m.first → m.fourth ≡ m.first → HasValue result m.first
chosen-has given scope known keyword args result m s fits measured one other =
    let (sort, c, a, b, is) = sort-three args fits in
    let w = each-measure (width_wanted kinds.Sort (scope.meanings sort)) (width_wanted kinds.Value (scope.meanings c)) (width_wanted kinds.Value (scope.meanings a)) (width_wanted kinds.Value (scope.meanings b)) m
    (sym (ap (measures scope (kinds.Sort ∷ kinds.Value ∷ kinds.Value ∷ kinds.Value ∷ [])) is) ∙ measured) in
    let z = operand given scope known keyword args result s c m.second w.1 (second scope args sort c (arguments.Id a ∷ arguments.Id b ∷ []) is) in
    let x = operand given scope known keyword args result s a m.third w.2 (third scope args sort c a (arguments.Id b ∷ []) is) in
    let y = operand given scope known keyword args result s b m.fourth w.3 (fourth scope args sort c a b [] is) in
    subst (HasValue result) (x.2 ∙ one) (s.gives.chosen sort c a b z.0 x.0 y.0 is z.1 x.1 y.1 (x.2 ∙ one ∙ sym other ∙ sym y.2))

-- constants
constant-has : (given : Bool) (scope : DeclaredIds) (known : KnownValues) (keyword : Keyword) (args : List Argument) (result : Option BitVector) (m : Measures) → Standing given scope known keyword args result
    → rule_of keyword ≡ forms.Constant → FitKinds (kinds.Sort ∷ []) args → measures scope (kinds.Sort ∷ []) args ≡ Some m → HasValue result m.first
constant-has given scope known keyword args result m s of fits measured =
    let (sort, is) = sort-alone args fits in
    let w = each-measure (width_wanted kinds.Sort (scope.meanings sort)) (Some 0) (Some 0) (Some 0) m (sym (ap (measures scope (kinds.Sort ∷ [])) is) ∙ measured) in
    let width = sort-width scope sort m.first w.0 in
    let some = (s.sorts sort m.first w.0).0 in
    subst (HasValue result) width (s.gives.constant sort is (ap is_constant of) (omega (arith, width, some)))

numeral-has : (given : Bool) (scope : DeclaredIds) (known : KnownValues) (keyword : Keyword) (args : List Argument) (result : Option BitVector) (m : Measures) (base : Base) → Standing given scope known keyword args result
    → rule_of keyword ≡ forms.Numeral base → FitKinds (kinds.Sort ∷ kinds.Numeral base ∷ []) args → measures scope (kinds.Sort ∷ kinds.Numeral base ∷ []) args ≡ Some m → numeral_fits (forms.Numeral base) scope args ≡ true → HasValue result m.first
numeral-has given scope known keyword args result m base s of fits measured below =
    let (sort, digits, is) = sort-numeral base args fits in
    let w = each-measure (width_wanted kinds.Sort (scope.meanings sort)) (Some 0) (Some 0) (Some 0) m (sym (ap (measures scope (kinds.Sort ∷ kinds.Numeral base ∷ [])) is) ∙ measured) in
    let width = sort-width scope sort m.first w.0 in
    let some = (s.sorts sort m.first w.0).0 in
    let written : base_of keyword ≡ base = subst (λ (r : FormRule). IsBaseOf r (base_of keyword)) of (base-by keyword) in
    let small = ltb-true (digits_value (radix_of base) digits) (2 ^ sort_width_in scope sort) (sym (ap (numeral_fits (forms.Numeral base) scope) is) ∙ below) in
    let fits_in = subst (λ (b : Base). digits_value (radix_of b) digits < 2 ^ sort_width_in scope sort) (sym written) small in
    subst (HasValue result) width (s.gives.numeral sort digits is (omega (arith, width, some)) fits_in)

-- each line of an operator or a constant
by-rule : (given : Bool) (scope : DeclaredIds) (known : KnownValues) (keyword : Keyword) (args : List Argument) (result : Option BitVector) (m : Measures) (rule : FormRule) → Standing given scope known keyword args result → rule_of keyword ≡ rule → FitKinds (kinds_by rule) args → measures scope (kinds_by rule) args ≡ Some m
    → widths_agree rule m ≡ true → bounds_fit rule m ≡ true → numeral_fits rule scope args ≡ true → computes rule ≡ true → HasValue result m.first
by-rule given scope known keyword args result m forms.Sort s of fits ms agree bounds below value = absurd (cc)
by-rule given scope known keyword args result m forms.Input s of fits ms agree bounds below value = absurd (cc)
by-rule given scope known keyword args result m forms.State s of fits ms agree bounds below value = absurd (cc)
by-rule given scope known keyword args result m forms.Constant s of fits ms agree bounds below value = constant-has given scope known keyword args result m s of fits ms
by-rule given scope known keyword args result m (forms.Numeral base) s of fits ms agree bounds below value = numeral-has given scope known keyword args result m base s of fits ms below
by-rule given scope known keyword args result m forms.Unary s of fits ms agree bounds below value = one-has given scope known keyword args result m forms.Unary s of fits ms refl (eqb-true m.second m.first agree)
by-rule given scope known keyword args result m forms.Reduced s of fits ms agree bounds below value = one-has given scope known keyword args result m forms.Reduced s of fits ms refl (sym (eqb-true m.first 1 agree))
by-rule given scope known keyword args result m forms.Binary s of fits ms agree bounds below value =
    let e = both (nat_eq m.second m.first) (nat_eq m.third m.first) agree in
    let one = eqb-true m.second m.first e.0 in
    alike-has given scope known keyword args result m forms.Binary s of fits ms refl (one ∙ sym (eqb-true m.third m.first e.1)) (λ boolean. absurd (cc)) one
by-rule given scope known keyword args result m forms.Compared s of fits ms agree bounds below value =
    let e = both (nat_eq m.first 1) (nat_eq m.second m.third) agree in
    alike-has given scope known keyword args result m forms.Compared s of fits ms refl (eqb-true m.second m.third e.1) (λ boolean. absurd (cc)) (sym (eqb-true m.first 1 e.0))
by-rule given scope known keyword args result m forms.Boolean s of fits ms agree bounds below value =
    let e = both (nat_eq m.first 1) (nat_eq m.second 1 && nat_eq m.third 1) agree in
    let f = both (nat_eq m.second 1) (nat_eq m.third 1) e.1 in
    let one = eqb-true m.second 1 f.0 in
    alike-has given scope known keyword args result m forms.Boolean s of fits ms refl (one ∙ sym (eqb-true m.third 1 f.1)) (λ boolean. one) (sym (eqb-true m.first 1 e.0))
by-rule given scope known keyword args result m forms.Joined s of fits ms agree bounds below value = joined-has given scope known keyword args result m s of fits ms (eqb-true m.first (m.second + m.third) agree)
by-rule given scope known keyword args result m forms.Sliced s of fits ms agree bounds below value =
    let e = both (nat_le m.fourth m.third) (nat_eq (m.first + m.fourth) (m.third + 1)) agree in
    sliced-has given scope known keyword args result m s fits ms (leb-true m.fourth m.third e.0) (eqb-true (m.first + m.fourth) (m.third + 1) e.1) (ltb-true m.third m.second bounds)
by-rule given scope known keyword args result m forms.Extended s of fits ms agree bounds below value = extended-has given scope known keyword args result m s fits ms (eqb-true m.first (m.second + m.third) agree)
by-rule given scope known keyword args result m forms.Chosen s of fits ms agree bounds below value =
    let e = both (nat_eq m.second 1) (nat_eq m.third m.first && nat_eq m.fourth m.first) agree in
    let f = both (nat_eq m.third m.first) (nat_eq m.fourth m.first) e.1 in
    chosen-has given scope known keyword args result m s fits ms (eqb-true m.third m.first f.0) (eqb-true m.fourth m.first f.1)
by-rule given scope known keyword args result m forms.Init s of fits ms agree bounds below value = absurd (cc)
by-rule given scope known keyword args result m forms.Next s of fits ms agree bounds below value = absurd (cc)
by-rule given scope known keyword args result m forms.Output s of fits ms agree bounds below value = absurd (cc)
by-rule given scope known keyword args result m forms.Bad s of fits ms agree bounds below value = absurd (cc)

-- all conditions are met where none has a fault
pub all-met : (a b c d e f g : Bool) → option_map (λ (k : ℕ × Bool). k.0) (find (λ (k : ℕ × Bool). not k.1) ((51, a) ∷ (52, b) ∷ (53, c) ∷ (55, d) ∷ (57, e) ∷ (58, f) ∷ (59, g) ∷ [])) ≡ None
    → (c ≡ true) × (d ≡ true) × (f ≡ true)
all-met true true true true true true g is = (refl, refl, refl)
all-met true true true true true false g is = absurd (cc)
all-met true true true true false f g is = absurd (cc)
all-met true true true false e f g is = absurd (cc)
all-met true true false d e f g is = absurd (cc)
all-met true false c d e f g is = absurd (cc)
all-met false b c d e f g is = absurd (cc)

pub passes-some : (test : FormRule → Measures → Bool) (rule : FormRule) (found : Option Measures) → passes test rule found ≡ true → (m : Measures) × (found ≡ Some m) × (test rule m ≡ true)
passes-some test rule (Some m) is = (m, refl, is)
passes-some test rule None is = absurd (cc)

pub passes-at : (test : FormRule → Measures → Bool) (rule : FormRule) (found : Option Measures) (m : Measures) → found ≡ Some m → passes test rule found ≡ true → test rule m ≡ true
passes-at test rule found m is met = sym (ap (passes test rule) is) ∙ met

-- a line of an operator or a constant has a value of the width that it gives its id
pub line-has : (given : Bool) (scope : DeclaredIds) (known : KnownValues) (line : Line) (result : Option BitVector) → line_fault scope line ≡ None → FitKinds (kinds_of line.keyword) line.arguments
    → ((id width : ℕ) → width_wanted kinds.Sort (scope.meanings id) ≡ Some width → (1 ≤ width) × (width ≤ 128)) → IsFilled given scope known → (list_any (argument_depends scope) line.arguments ≡ true → given ≡ true)
    → computes (rule_of line.keyword) ≡ true → GivesValue scope known line.keyword line.arguments result → HasValue result (first_measure (measures_of scope line))
line-has given scope known line result fine fits sorts filled depends value gives =
    let rule = rule_of line.keyword in
    let met = all-met (is_fresh scope line.id) (list_all (is_known scope) line.arguments) (agree scope line.keyword line.arguments) (passes bounds_fit rule (measures_of scope line)) (sets_first rule scope line.arguments)
    (numeral_fits rule scope line.arguments) (init_is_fixed rule scope line.arguments) fine in
    let (m, measured, widths) = passes-some widths_agree rule (measures_of scope line) (both (names_state rule scope line.arguments) (passes widths_agree rule (measures_of scope line)) met.0).1 in
    let kinds_are = kinds-by line.keyword in
    let has = by-rule given scope known line.keyword line.arguments result m rule (record { sorts = sorts; filled = filled; depends = depends; gives = gives }) refl
    (subst (λ (ks : List ArgumentKind). FitKinds ks line.arguments) kinds_are fits) (ap (λ (ks : List ArgumentKind). measures scope ks line.arguments) (sym kinds_are) ∙ measured) widths
    (passes-at bounds_fit rule (measures_of scope line) m measured met.1) met.2 value in
    subst (HasValue result) (sym (ap first_measure measured)) has
