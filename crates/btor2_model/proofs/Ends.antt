-- The line that sets a state to a value, and that both are of one width.
use Rattle.std.proofs.Common.{◌≡◌, ℕ, nat_eq, not, Bool, true, false, ◌&&◌, cond, List, [], ◌∷◌, Option, None, Some, refl, sym, ap, ◌∙◌, subst}
use Rattle.std.proofs.lemmas.Bool.{eqb-true, eq-eqb}
use Rattle.std.specs.List.{find}
use Rattle.std.specs.Option.{option_map}
use Rattle.btor2_text.specs.Forms.{kinds_of}
use Rattle.btor2_text.specs.Printable.{ArePrintable, FitKinds}
use Rattle.btor2_text.specs.declared.kind.ArgumentKind.{ArgumentKind}
use Rattle.btor2_text.specs.declared.kind.ArgumentKind.TheVariants as kinds
use Rattle.btor2_text.specs.declared.line.Argument.{Argument}
use Rattle.btor2_text.specs.declared.line.Line.{Line}
use Rattle.std.specs.List.{list_all}
use Rattle.btor2_model.specs.Acceptance.{agree, fault_in, init_is_fixed, is_fresh, is_known, line_fault, lines_fault, names_state, numeral_fits, passes, sets_first}
use Rattle.btor2_model.specs.Rules.{bounds_fit, is_init, is_next, rule_of, widths_agree}
use Rattle.btor2_model.specs.Scope.{DeclaredIds, behind, behind_all, id_at, meaning_depends, measures, measures_of, width_wanted}
use Rattle.btor2_model.specs.inner.SlowRun.{sets}
use Rattle.btor2_model.specs.declared.meaning.IdMeaning.{IdMeaning}
use Rattle.btor2_model.specs.declared.rule.Measures.{Measures}
use Rattle.btor2_model.specs.declared.rule.FormRule.{FormRule}
use Rattle.btor2_model.specs.declared.rule.FormRule.TheVariants as forms
use Rattle.btor2_model.proofs.Conditions.{meets}
use Rattle.btor2_model.proofs.Evaluation.{option_map-none, option_or-none}
use Rattle.btor2_model.proofs.Filled.{all-met, both, each-measure, passes-some, sort-two}
use Rattle.btor2_model.proofs.Filling.{stays}
use Rattle.btor2_model.proofs.KindsByRule.{kinds-by, kinds_by}

-- both ids stand for values of one width
unfoldable pub SameWidth : DeclaredIds → ℕ → ℕ → Type 0
SameWidth scope a b = (w : ℕ) × (width_wanted kinds.Value (scope.meanings a) ≡ Some w) × (width_wanted kinds.Value (scope.meanings b) ≡ Some w)

pub wanted-some : (o : Option IdMeaning) (w : ℕ) → width_wanted kinds.Value o ≡ Some w → (m : IdMeaning) × (o ≡ Some m)
wanted-some (Some m) w is = (m, refl)
wanted-some None w is = absurd (cc)

-- a width that is wanted stays behind lines without a fault
pub wanted-stays : (lines : List Line) (scope : DeclaredIds) (id w : ℕ) → lines_fault scope lines ≡ None → width_wanted kinds.Value (scope.meanings id) ≡ Some w → width_wanted kinds.Value ((behind_all scope lines).meanings id) ≡ Some w
wanted-stays lines scope id w fine is =
    let m = wanted-some (scope.meanings id) w is in
    ap (width_wanted kinds.Value) (stays lines scope id m.0 fine m.1) ∙ sym (ap (width_wanted kinds.Value) m.1) ∙ is

-- the widths of a line without a fault are as its form asks
pub measured-widths : (scope : DeclaredIds) (line : Line) → line_fault scope line ≡ None → (m : Measures) × (measures_of scope line ≡ Some m) × (widths_agree (rule_of line.keyword) m ≡ true)
measured-widths scope line fine =
    let rule = rule_of line.keyword in
    let met = all-met (is_fresh scope line.id) (list_all (is_known scope) line.arguments) (agree scope line.keyword line.arguments) (passes bounds_fit rule (measures_of scope line)) (sets_first rule scope line.arguments)
    (numeral_fits rule scope line.arguments) (init_is_fixed rule scope line.arguments) fine in
    passes-some widths_agree rule (measures_of scope line) (both (names_state rule scope line.arguments) (passes widths_agree rule (measures_of scope line)) met.0).1

pub is-next : (rule : FormRule) → is_next rule ≡ true → rule ≡ forms.Next
is-next forms.Sort is = absurd (cc)
is-next forms.Input is = absurd (cc)
is-next forms.State is = absurd (cc)
is-next forms.Constant is = absurd (cc)
is-next (forms.Numeral base) is = absurd (cc)
is-next forms.Unary is = absurd (cc)
is-next forms.Reduced is = absurd (cc)
is-next forms.Binary is = absurd (cc)
is-next forms.Compared is = absurd (cc)
is-next forms.Boolean is = absurd (cc)
is-next forms.Joined is = absurd (cc)
is-next forms.Sliced is = absurd (cc)
is-next forms.Extended is = absurd (cc)
is-next forms.Chosen is = absurd (cc)
is-next forms.Init is = absurd (cc)
is-next forms.Next is = refl
is-next forms.Output is = absurd (cc)
is-next forms.Bad is = absurd (cc)

is-init : (rule : FormRule) → is_init rule ≡ true → rule ≡ forms.Init
is-init forms.Init is = refl
is-init other is = absurd (cc)

-- a line that sets a state names the state and a value of one width
set-widths : (rule : FormRule) (scope : DeclaredIds) (line : Line) → line_fault scope line ≡ None → FitKinds (kinds_of line.keyword) line.arguments → rule_of line.keyword ≡ rule → kinds_by rule ≡ kinds.Sort ∷ kinds.Value ∷ kinds.Value ∷ []
    → ((m : Measures) → widths_agree rule m ≡ (nat_eq m.second m.first && nat_eq m.third m.first)) → SameWidth scope (id_at line.arguments 1) (id_at line.arguments 2)
unfolding SameWidth
set-widths rule scope line fine fits of form agree =
    let kinds_are = kinds-by line.keyword ∙ ap kinds_by of ∙ form in
    let (m, measured, widths) = measured-widths scope line fine in
    let (sort, a, b, is) = sort-two line.arguments (subst (λ (k : List ArgumentKind). FitKinds k line.arguments) kinds_are fits) in
    let w = each-measure (width_wanted kinds.Sort (scope.meanings sort)) (width_wanted kinds.Value (scope.meanings a)) (width_wanted kinds.Value (scope.meanings b)) (Some 0) m
    (sym (ap (measures scope (kinds.Sort ∷ kinds.Value ∷ kinds.Value ∷ [])) is) ∙ ap (λ (k : List ArgumentKind). measures scope k line.arguments) (sym kinds_are) ∙ measured) in
    let each = both (nat_eq m.second m.first) (nat_eq m.third m.first) (sym (agree m) ∙ sym (ap (λ (r : FormRule). widths_agree r m) of) ∙ widths) in (
      m.first,
      ap (λ (as_given : List Argument). width_wanted kinds.Value (scope.meanings (id_at as_given 1))) is ∙ w.1 ∙ ap Some (eqb-true m.second m.first each.0),
      ap (λ (as_given : List Argument). width_wanted kinds.Value (scope.meanings (id_at as_given 2))) is ∙ w.2 ∙ ap Some (eqb-true m.third m.first each.1),
    )

next-widths : (scope : DeclaredIds) (line : Line) → line_fault scope line ≡ None → FitKinds (kinds_of line.keyword) line.arguments → is_next (rule_of line.keyword) ≡ true → SameWidth scope (id_at line.arguments 1) (id_at line.arguments 2)
next-widths scope line fine fits next = set-widths forms.Next scope line fine fits (is-next (rule_of line.keyword) next) refl (λ m. refl)

init-widths : (scope : DeclaredIds) (line : Line) → line_fault scope line ≡ None → FitKinds (kinds_of line.keyword) line.arguments → is_init (rule_of line.keyword) ≡ true → SameWidth scope (id_at line.arguments 1) (id_at line.arguments 2)
init-widths scope line fine fits init = set-widths forms.Init scope line fine fits (is-init (rule_of line.keyword) init) refl (λ m. refl)

pub found-step : (b : Bool) (p : Line → Bool) (Q : Line → Type 0) (line : Line) (rest : List Line) → p line ≡ b → (b ≡ true → Q line) → (b ≡ false → (l : Line) × (find p rest ≡ Some l) × Q l) → (l : Line) × (find p (line ∷ rest) ≡ Some l) × Q l
found-step true p Q line rest is here others = (line, ap (λ (b : Bool). cond b (Some line) (find p rest)) is, here refl)
found-step false p Q line rest is here others = let r = others refl in (r.0, ap (λ (b : Bool). cond b (Some line) (find p rest)) is ∙ r.1, r.2)

turned-eq : (c : Bool) (a b : ℕ) → nat_eq b a ≡ c → nat_eq a b ≡ false → nat_eq b a ≡ false
turned-eq true a b is lacks = let same = eqb-true b a is in let gains = eq-eqb a b (sym same) in absurd (cc)
turned-eq false a b is lacks = is

turned : (now : Bool) (a b : ℕ) → (now && nat_eq a b) ≡ false → (now && nat_eq b a) ≡ false
turned false a b is = refl
turned true a b is = turned-eq (nat_eq b a) a b refl is

not-continued : (now : Bool) (a s : ℕ) (before : Bool) → (now && nat_eq s a) ≡ false → before ≡ false → cond (now && nat_eq a s) true before ≡ false
not-continued now a s before lacks is = ap (λ (b : Bool). cond b true before) (turned now s a lacks) ∙ is

-- a state that has a `next` at the end and none before has one among these lines
pub next-found : (lines : List Line) (scope : DeclaredIds) (s : ℕ) → lines_fault scope lines ≡ None → ArePrintable lines → scope.continued s ≡ false → (behind_all scope lines).continued s ≡ true
    → (line : Line) × (find (sets is_next s) lines ≡ Some line) × SameWidth (behind_all scope lines) s (id_at line.arguments 2)
unfolding SameWidth
next-found [] scope s fine forms lacks gains = absurd (cc)
next-found (line ∷ lines) scope s fine forms lacks gains =
    let each = option_or-none (option_map (fault_in line) (line_fault scope line)) (lines_fault (behind scope line) lines) fine in
    let now = is_next (rule_of line.keyword) in
    found-step (sets is_next s line) (sets is_next s) (λ (l : Line). SameWidth (behind_all scope (line ∷ lines)) s (id_at l.arguments 2)) line lines refl
    (λ here.
    let two = both now (nat_eq s (id_at line.arguments 1)) here in
    let same = eqb-true s (id_at line.arguments 1) two.1 in
    let w = next-widths scope line (option_map-none (fault_in line) (line_fault scope line) each.0) forms.0.arguments two.0 in
    (w.0, wanted-stays (line ∷ lines) scope s w.0 fine (ap (λ (i : ℕ). width_wanted kinds.Value (scope.meanings i)) same ∙ w.1), wanted-stays (line ∷ lines) scope (id_at line.arguments 2) w.0 fine w.2))
    (λ other. next-found lines (behind scope line) s each.1 forms.1 (not-continued now (id_at line.arguments 1) s (scope.continued s) other lacks) gains)

-- what stands for an id that is known stays, and with it whether it depends
known-stays : (lines : List Line) (scope : DeclaredIds) (id w : ℕ) → lines_fault scope lines ≡ None → width_wanted kinds.Value (scope.meanings id) ≡ Some w → (behind_all scope lines).meanings id ≡ scope.meanings id
known-stays lines scope id w fine is = let m = wanted-some (scope.meanings id) w is in stays lines scope id m.0 fine m.1 ∙ sym m.1

same-line : (a b : Line) → Some a ≡ Some b → a ≡ b
same-line a b is = cc

not-true : (b : Bool) → not b ≡ true → b ≡ false
not-true true is = absurd (cc)
not-true false is = refl

fixed-value : (rule : FormRule) (scope : DeclaredIds) (given : List Argument) → rule ≡ forms.Init → init_is_fixed rule scope given ≡ true → meaning_depends (scope.meanings (id_at given 2)) ≡ false
fixed-value rule scope given of is = not-true (meaning_depends (scope.meanings (id_at given 2))) (sym (ap (λ (r : FormRule). init_is_fixed r scope given) of) ∙ is)

-- the `init` of a state names a value of its width that depends on no input and no state
pub init-found : (lines : List Line) (scope : DeclaredIds) (s : ℕ) (found : Line) → lines_fault scope lines ≡ None → ArePrintable lines → find (sets is_init s) lines ≡ Some found
    → SameWidth (behind_all scope lines) s (id_at found.arguments 2) × (meaning_depends ((behind_all scope lines).meanings (id_at found.arguments 2)) ≡ false)
unfolding SameWidth
init-found [] scope s found fine forms is = absurd (cc)
init-found (line ∷ lines) scope s found fine forms is =
    by (sets is_init s line) refl
    (λ (later : find (sets is_init s) lines ≡ Some found). init-found lines (behind scope line) s found (option_or-none (option_map (fault_in line) (line_fault scope line)) (lines_fault (behind scope line) lines) fine).1 forms.1 later)
  where
    each : (line_fault scope line ≡ None) × (lines_fault (behind scope line) lines ≡ None)
    each = let e = option_or-none (option_map (fault_in line) (line_fault scope line)) (lines_fault (behind scope line) lines) fine in (option_map-none (fault_in line) (line_fault scope line) e.0, e.1)

    by : (b : Bool) → sets is_init s line ≡ b
        → (find (sets is_init s) lines ≡ Some found → ((w : ℕ) × (width_wanted kinds.Value ((behind_all scope (line ∷ lines)).meanings s) ≡ Some w) × (width_wanted kinds.Value ((behind_all scope (line ∷ lines)).meanings (id_at found.arguments 2)) ≡ Some w))
        × (meaning_depends ((behind_all scope (line ∷ lines)).meanings (id_at found.arguments 2)) ≡ false))
        → ((w : ℕ) × (width_wanted kinds.Value ((behind_all scope (line ∷ lines)).meanings s) ≡ Some w) × (width_wanted kinds.Value ((behind_all scope (line ∷ lines)).meanings (id_at found.arguments 2)) ≡ Some w))
        × (meaning_depends ((behind_all scope (line ∷ lines)).meanings (id_at found.arguments 2)) ≡ false)
    by false other later = later (sym (ap (λ (b : Bool). cond b (Some line) (find (sets is_init s) lines)) other) ∙ is)
    by true here later =
        let same = same-line line found (sym (ap (λ (b : Bool). cond b (Some line) (find (sets is_init s) lines)) here) ∙ is) in
        let two = both (is_init (rule_of line.keyword)) (nat_eq s (id_at line.arguments 1)) here in
        let state = eqb-true s (id_at line.arguments 1) two.1 in
        let w = init-widths scope line each.0 forms.0.arguments two.0 in
        let fixed = fixed-value (rule_of line.keyword) scope line.arguments (is-init (rule_of line.keyword) two.0) (meets scope line each.0).fixed in
        let value = id_at line.arguments 2 in
        let named : value ≡ id_at found.arguments 2 = ap (λ (l : Line). id_at l.arguments 2) same in
        subst (λ (id : ℕ). ((w : ℕ) × (width_wanted kinds.Value ((behind_all scope (line ∷ lines)).meanings s) ≡ Some w) × (width_wanted kinds.Value ((behind_all scope (line ∷ lines)).meanings id) ≡ Some w))
        × (meaning_depends ((behind_all scope (line ∷ lines)).meanings id) ≡ false)) named (
          (w.0, wanted-stays (line ∷ lines) scope s w.0 fine (ap (λ (i : ℕ). width_wanted kinds.Value (scope.meanings i)) state ∙ w.1), wanted-stays (line ∷ lines) scope value w.0 fine w.2),
          ap meaning_depends (known-stays (line ∷ lines) scope value w.0 fine w.2) ∙ fixed,
        )
