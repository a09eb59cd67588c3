-- What is known of values, line by line.
use Rattle.std.proofs.Common.{◌≡◌, ℕ, ◌+◌, ◌<◌, ◌≤◌, nat_eq, Bool, true, false, cond, List, ◌∷◌, length, get_or, drop, Option, None, Some, IfSome, refl, sym, ap, ◌∙◌, subst}
use Rattle.std.proofs.lemmas.Bool.{eqb-true}
use Rattle.std.proofs.lemmas.List.{drop_more, drop_all}
use Rattle.std.specs.Map.{update}
use Rattle.std.specs.Option.{option_map, option_or}
use Rattle.kw_base.specs.declared.fault.Fault.{Fault}
use Rattle.kw_bits.specs.BitVector.{BitVector}
use Rattle.btor2_text.specs.declared.line.Line.{Line}
use Rattle.btor2_model.specs.Acceptance.{lines_fault, line_fault, fault_in}
use Rattle.btor2_model.specs.inner.Known.{AreNarrow}
use Rattle.btor2_model.specs.Rules.{rule_of, is_input}
use Rattle.btor2_model.specs.Run.{StepValues, Values, ids_of, no_bits, value_by, values_behind, values_with}
use Rattle.btor2_model.specs.Scope.{DeclaredIds, no_lines, behind}
use Rattle.btor2_model.specs.inner.SlowRun.{Knows, known_value, step_with}
use Rattle.btor2_model.specs.declared.known_values.KnownValues.{KnownValues}

-- what holds of a value that is there
pub if_some-at : {X : Type 0} (P : X → Type 0) (value : Option X) (v : X) → IfSome value P → value ≡ Some v → P v
if_some-at {X} P value v holds is = subst (λ (o : Option X). IfSome o P) is holds

set-at : (here : Bool) (value before : Option BitVector) (x old v : BitVector) → (before ≡ Some v → old ≡ v) → (value ≡ Some v → x ≡ v) → cond here value before ≡ Some v → cond here x old ≡ v
set-at true value before x old v others one is = one is
set-at false value before x old v others one is = others is

-- one more value is known
Knows-set : (known next : KnownValues) (id : ℕ) (value : Option BitVector) (old : Values) (x : BitVector) → known_value next ≡ update nat_eq (known_value known) id value → Knows known old → IfSome value (λ v. v ≡ x)
    → Knows next (λ q. cond (nat_eq id q) x (old q))
Knows-set known next id value old x is knows here = λ q v found.
    set-at (nat_eq id q) value (known_value known q) x (old q) v (knows q v) (λ some. sym (if_some-at (λ w. w ≡ x) value v here some)) (sym (ap (λ (f : ℕ → Option BitVector). f q) is) ∙ found)

same-at : (here : Bool) (value before : Option BitVector) (f : Values) (id q : ℕ) (v : BitVector) → (here ≡ true → id ≡ q) → (before ≡ Some v → f q ≡ v) → (value ≡ Some v → f id ≡ v) → cond here value before ≡ Some v → f q ≡ v
same-at true value before f id q v tells others one is = ap f (sym (tells refl)) ∙ one is
same-at false value before f id q v tells others one is = others is

-- the same of values that stay
pub Knows-more : (known next : KnownValues) (id : ℕ) (value : Option BitVector) (f : Values) → known_value next ≡ update nat_eq (known_value known) id value → Knows known f → IfSome value (λ v. f id ≡ v) → Knows next f
Knows-more known next id value f is knows here = λ q v found.
    same-at (nat_eq id q) value (known_value known q) f id q v (eqb-true id q) (knows q v) (λ some. if_some-at (λ w. f id ≡ w) value v here some) (sym (ap (λ (g : ℕ → Option BitVector). g q) is) ∙ found)

-- where nothing is known, all of it is so
pub Knows-nothing : (known : KnownValues) (f : Values) → known_value known ≡ (λ _. None) → Knows known f
Knows-nothing known f is = λ q v found. let none : None ≡ Some v = sym (ap (λ (g : ℕ → Option BitVector). g q) is) ∙ found in absurd (cc)

pub option_or-none : (a b : Option Fault) → option_or a b ≡ None → (a ≡ None) × (b ≡ None)
option_or-none None b is = (refl, is)
option_or-none (Some x) b is = absurd (cc)

pub option_map-none : (f : ℕ → Fault) (a : Option ℕ) → option_map f a ≡ None → a ≡ None
option_map-none f None is = refl
option_map-none f (Some x) is = absurd (cc)

-- no line of an accepted text has a fault
pub accepted-lines : (lines : List Line) (other : Option Fault) → option_or (lines_fault no_lines lines) other ≡ None → lines_fault no_lines lines ≡ None
accepted-lines lines other is = (option_or-none (lines_fault no_lines lines) other is).0

-- nor has the next one, nor those behind it
pub accepted-next : (lines : List Line) (place : ℕ) (scope : DeclaredIds) (line : Line) → place < length lines → line ≡ get_or lines place line → lines_fault scope (drop place lines) ≡ None
    → (line_fault scope line ≡ None) × (lines_fault (behind scope line) (drop (place + 1) lines) ≡ None)
accepted-next lines place scope line within is fine =
    let here : drop place lines ≡ line ∷ drop (place + 1) lines = drop_more lines place line within ∙ ap (λ l. l ∷ drop (place + 1) lines) (sym is) in
    let both = option_or-none (option_map (fault_in line) (line_fault scope line)) (lines_fault (behind scope line) (drop (place + 1) lines)) (sym (ap (lines_fault scope) here) ∙ fine) in
    (option_map-none (fault_in line) (line_fault scope line) both.0, both.1)

-- behind the lines before this place, what is known of values is so, and leads on to the values of all
pub record Evaluated (lines : List Line) (inputs : List BitVector) (states : KnownValues) (place : ℕ) (scope : DeclaredIds) (values : KnownValues) : Type 0 where
  pub narrow : AreNarrow scope
  pub accepted : lines_fault scope (drop place lines) ≡ None
  pub known : (all : Values) → Knows states all
      → (before : Values) × Knows values before × (values_with lines inputs all ≡ values_behind (step_with (ids_of is_input lines) inputs all) scope before (drop place lines))

pub Evaluated-start : (lines : List Line) (inputs : List BitVector) (states : KnownValues) (scope : DeclaredIds) (values : KnownValues) → scope ≡ no_lines → AreNarrow scope → lines_fault no_lines lines ≡ None → known_value values ≡ (λ _. None)
    → Evaluated lines inputs states 0 scope values
Evaluated-start lines inputs states scope values is narrow fine none = record {
  narrow = narrow;
  accepted = ap (λ (s : DeclaredIds). lines_fault s lines) is ∙ fine;
  known = λ all knows. (λ _. no_bits, Knows-nothing values (λ _. no_bits) none, ap (λ (s : DeclaredIds). values_behind (step_with (ids_of is_input lines) inputs all) s (λ _. no_bits) lines) (sym is));
}

-- one more line
pub Evaluated-next : (lines : List Line) (inputs : List BitVector) (states : KnownValues) (place : ℕ) (scope next : DeclaredIds) (values more : KnownValues) (line : Line) (value : Option BitVector)
    → Evaluated lines inputs states place scope values → place < length lines → line ≡ get_or lines place line → next ≡ behind scope line → AreNarrow next → known_value more ≡ update nat_eq (known_value values) line.id value
    → ((before after : Values) → Knows states before → Knows values after → IfSome value (λ v. v ≡ value_by (rule_of line.keyword) (step_with (ids_of is_input lines) inputs before) scope after line))
    → Evaluated lines inputs states (place + 1) next more
Evaluated-next lines inputs states place scope next values more line value reached within is declares narrow sets computes =
    let here : drop place lines ≡ line ∷ drop (place + 1) lines = drop_more lines place line within ∙ ap (λ l. l ∷ drop (place + 1) lines) (sym is) in
    record {
      narrow = narrow;
      accepted = ap (λ (s : DeclaredIds). lines_fault s (drop (place + 1) lines)) declares ∙ (accepted-next lines place scope line within is reached.accepted).1;
      known = λ all knows.
          let step : StepValues = step_with (ids_of is_input lines) inputs all in
          let past = reached.known all knows in
          let x : BitVector = value_by (rule_of line.keyword) step scope past.0 line in (
            λ q. cond (nat_eq line.id q) x (past.0 q),
            Knows-set values more line.id value past.0 x sets past.1 (computes all past.0 knows past.1),
            past.2 ∙ ap (values_behind step scope past.0) here ∙ ap (λ (s : DeclaredIds). values_behind step s (λ q. cond (nat_eq line.id q) x (past.0 q)) (drop (place + 1) lines)) (sym declares),
          );
    }

-- the end
pub Evaluated-end : (lines : List Line) (inputs : List BitVector) (states : KnownValues) (place : ℕ) (scope : DeclaredIds) (values : KnownValues) → Evaluated lines inputs states place scope values → length lines ≤ place
    → (all : Values) → Knows states all → Knows values (values_with lines inputs all)
Evaluated-end lines inputs states place scope values reached end all knows =
    let past = reached.known all knows in
    subst (Knows values) (sym (past.2 ∙ ap (values_behind (step_with (ids_of is_input lines) inputs all) scope past.0) (drop_all place lines end))) past.1
