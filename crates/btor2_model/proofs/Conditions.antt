-- A line without a fault meets all conditions.
use Rattle.std.proofs.Common.{◌≡◌, ℕ, not, Bool, true, false, [], ◌∷◌, None, refl}
use Rattle.std.specs.List.{find, list_all}
use Rattle.std.specs.Option.{option_map}
use Rattle.btor2_text.specs.declared.line.Line.{Line}
use Rattle.btor2_model.specs.Acceptance.{agree, init_is_fixed, is_fresh, is_known, line_fault, numeral_fits, passes, sets_first}
use Rattle.btor2_model.specs.Rules.{bounds_fit, rule_of}
use Rattle.btor2_model.specs.Scope.{DeclaredIds, measures_of}

-- each condition that a line is asked
pub record Meets (scope : DeclaredIds) (line : Line) : Type 0 where
  pub fresh : is_fresh scope line.id ≡ true
  pub known : list_all (is_known scope) line.arguments ≡ true
  pub agrees : agree scope line.keyword line.arguments ≡ true
  pub bounds : passes bounds_fit (rule_of line.keyword) (measures_of scope line) ≡ true
  pub first : sets_first (rule_of line.keyword) scope line.arguments ≡ true
  pub numeral : numeral_fits (rule_of line.keyword) scope line.arguments ≡ true
  pub fixed : init_is_fixed (rule_of line.keyword) scope line.arguments ≡ true

all-seven : (a b c d e f g : Bool) → option_map (λ (k : ℕ × Bool). k.0) (find (λ (k : ℕ × Bool). not k.1) ((51, a) ∷ (52, b) ∷ (53, c) ∷ (55, d) ∷ (57, e) ∷ (58, f) ∷ (59, g) ∷ [])) ≡ None
    → (a ≡ true) × (b ≡ true) × (c ≡ true) × (d ≡ true) × (e ≡ true) × (f ≡ true) × (g ≡ true)
all-seven true true true true true true true is = (refl, refl, refl, refl, refl, refl, refl)
all-seven true true true true true true false is = absurd (cc)
all-seven true true true true true false g is = absurd (cc)
all-seven true true true true false f g is = absurd (cc)
all-seven true true true false e f g is = absurd (cc)
all-seven true true false d e f g is = absurd (cc)
all-seven true false c d e f g is = absurd (cc)
all-seven false b c d e f g is = absurd (cc)

pub meets : (scope : DeclaredIds) (line : Line) → line_fault scope line ≡ None → Meets scope line
meets scope line fine =
    let rule = rule_of line.keyword in
    let all = all-seven (is_fresh scope line.id) (list_all (is_known scope) line.arguments) (agree scope line.keyword line.arguments) (passes bounds_fit rule (measures_of scope line)) (sets_first rule scope line.arguments)
    (numeral_fits rule scope line.arguments) (init_is_fixed rule scope line.arguments) fine in
    record { fresh = all.0; known = all.1; agrees = all.2; bounds = all.3; first = all.4; numeral = all.5; fixed = all.6 }

none-left : (a b c d e f g : Bool) → a ≡ true → b ≡ true → c ≡ true → d ≡ true → e ≡ true → f ≡ true → g ≡ true
    → option_map (λ (k : ℕ × Bool). k.0) (find (λ (k : ℕ × Bool). not k.1) ((51, a) ∷ (52, b) ∷ (53, c) ∷ (55, d) ∷ (57, e) ∷ (58, f) ∷ (59, g) ∷ [])) ≡ None
none-left true true true true true true true p q r s t u v = refl
none-left true true true true true true false p q r s t u v = absurd (cc)
none-left true true true true true false g p q r s t u v = absurd (cc)
none-left true true true true false f g p q r s t u v = absurd (cc)
none-left true true true false e f g p q r s t u v = absurd (cc)
none-left true true false d e f g p q r s t u v = absurd (cc)
none-left true false c d e f g p q r s t u v = absurd (cc)
none-left false b c d e f g p q r s t u v = absurd (cc)

-- and the other way round
pub no-fault : (scope : DeclaredIds) (line : Line) → Meets scope line → line_fault scope line ≡ None
no-fault scope line m =
    let rule = rule_of line.keyword in
    none-left (is_fresh scope line.id) (list_all (is_known scope) line.arguments) (agree scope line.keyword line.arguments) (passes bounds_fit rule (measures_of scope line)) (sets_first rule scope line.arguments)
    (numeral_fits rule scope line.arguments) (init_is_fixed rule scope line.arguments) m.fresh m.known m.agrees m.bounds m.first m.numeral m.fixed
