-- The value that the first line of a form sets a state to.
use Rattle.std.proofs.Common.{◌≡◌, ℕ, ◌+◌, ◌<◌, nat_eq, Bool, true, false, ◌&&◌, cond, List, [], ◌∷◌, ◌++◌, Option, None, Some, length, get_or, take, is_none, refl, sym, ap, ap₂, ◌∙◌}
use Rattle.std.proofs.lemmas.Bool.{eq-eqb, eqb-true}
use Rattle.std.proofs.lemmas.List.{take_more}
use Rattle.std.proofs.lemmas.List.Folds.{find-append}
use Rattle.std.specs.List.{find}
use Rattle.std.specs.Option.{option_map, option_or}
use Rattle.btor2_text.specs.declared.line.Line.{Line}
use Rattle.btor2_model.specs.Rules.{rule_of}
use Rattle.btor2_model.specs.Scope.{id_at}
use Rattle.btor2_model.specs.inner.SlowRun.{sets}
use Rattle.btor2_net.specs.inner.Wires.{is_form, set_by}
use Rattle.btor2_net.specs.declared.form.Form.{Form}

or-none : (o : Option ℕ) → option_or o None ≡ o
or-none None = refl
or-none (Some x) = refl

turned : (a b : ℕ) (c : Bool) → nat_eq a b ≡ c → nat_eq b a ≡ c
turned a b true is = eq-eqb b a (sym (eqb-true a b is))
turned a b false is = by (nat_eq b a) refl
  where
    by : (c : Bool) → nat_eq b a ≡ c → nat_eq b a ≡ false
    by true other = let same = eq-eqb a b (sym (eqb-true b a other)) in absurd (cc)
    by false other = other

-- a state that has no value so far gets the one of this line
pub set-here : (form : Form) (line : Line) (old : ℕ → Option ℕ) (state : ℕ) → is_form form (rule_of line.keyword) ≡ true → old (id_at line.arguments 1) ≡ None
    → cond (nat_eq (id_at line.arguments 1) state) (Some (id_at line.arguments 2)) (old state) ≡ option_or (old state) (set_by form state (line ∷ []))
set-here form line old state now absent = by (nat_eq (id_at line.arguments 1) state) refl
  where
    by : (c : Bool) → nat_eq (id_at line.arguments 1) state ≡ c → cond (nat_eq (id_at line.arguments 1) state) (Some (id_at line.arguments 2)) (old state) ≡ option_or (old state) (set_by form state (line ∷ []))
    by true same =
        let none : old state ≡ None = ap old (sym (eqb-true (id_at line.arguments 1) state same)) ∙ absent in
        ap (λ (b : Bool). cond b (Some (id_at line.arguments 2)) (old state)) same
        ∙ sym (ap (λ (o : Option ℕ). option_or o (set_by form state (line ∷ []))) none
        ∙ ap (λ (b : Bool). option_map (λ (l : Line). id_at l.arguments 2) (cond (b && nat_eq state (id_at line.arguments 1)) (Some line) None)) now
        ∙ ap (λ (b : Bool). option_map (λ (l : Line). id_at l.arguments 2) (cond b (Some line) None)) (turned (id_at line.arguments 1) state true same))
    by false apart =
        ap (λ (b : Bool). cond b (Some (id_at line.arguments 2)) (old state)) apart
        ∙ sym (ap (λ (b : Bool). option_or (old state) (option_map (λ (l : Line). id_at l.arguments 2) (cond (b && nat_eq state (id_at line.arguments 1)) (Some line) None))) now
        ∙ ap (λ (b : Bool). option_or (old state) (option_map (λ (l : Line). id_at l.arguments 2) (cond b (Some line) None))) (turned (id_at line.arguments 1) state false apart)
        ∙ or-none (old state))

pub no-value : (o : Option ℕ) → is_none o ≡ true → o ≡ None
no-value None is = refl
no-value (Some x) is = absurd (cc)

-- the same, where it was set so
pub set-at : (form : Form) (line : Line) (old : ℕ → Option ℕ) (a v state : ℕ) {x : Option ℕ} → a ≡ id_at line.arguments 1 → v ≡ id_at line.arguments 2 → is_form form (rule_of line.keyword) ≡ true → old a ≡ None
    → x ≡ cond (nat_eq a state) (Some v) (old state) → x ≡ option_or (old state) (set_by form state (line ∷ []))
set-at form line old a v state {x} first second now absent is =
    is ∙ ap₂ (λ (i j : ℕ). cond (nat_eq i state) (Some j) (old state)) first second ∙ set-here form line old state now (ap old (sym first) ∙ absent)

map-or : (f : Line → ℕ) (a b : Option Line) → option_map f (option_or a b) ≡ option_or (option_map f a) (option_map f b)
map-or f None b = refl
map-or f (Some x) b = refl

-- one line more
pub set-next : (form : Form) (state : ℕ) (lines : List Line) (place : ℕ) (line : Line) → place < length lines → line ≡ get_or lines place line
    → option_or (set_by form state (take place lines)) (set_by form state (line ∷ [])) ≡ set_by form state (take (place + 1) lines)
set-next form state lines place line within is =
    let more : take (place + 1) lines ≡ take place lines ++ line ∷ [] = take_more lines place line within ∙ ap (λ l. take place lines ++ l ∷ []) (sym is) in
    let p = sets (is_form form) state in
    sym (ap (set_by form state) more ∙ ap (option_map (λ (l : Line). id_at l.arguments 2)) (find-append p (take place lines) (line ∷ []))
    ∙ map-or (λ (l : Line). id_at l.arguments 2) (find p (take place lines)) (find p (line ∷ [])))
