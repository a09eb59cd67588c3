-- Words that are made one literal after another.
use Rattle.std.proofs.Common.{◌≡◌, ℕ, suc, ◌<◌, ◌≤◌, Bool, false, List, [], ◌∷◌, ◌++◌, length, get_or, refl, sym, ap, ap₂, ◌∙◌, arith}
use Rattle.std.proofs.lemmas.List.{map_push, get_or-map, length-map}
use Rattle.std.proofs.lemmas.List.Elements.{All-push}
use Rattle.aig_blast.specs.Graphs.{value, variables, IsLit, Keeps, Makes}
use Rattle.aig_blast.specs.Graphs.{Gates}
use Rattle.aig_blast.proofs.Values.{Keeps-refl, Keeps-trans}
use Rattle.aig_blast.specs.Words.{word, AreLits, MakesWord}

pub AreLits-kept : (old new : Gates) (lits : List ℕ) → Keeps old new → AreLits old lits → AreLits new lits
AreLits-kept old new lits keeps are k d within =
    let longer : variables old ≤ variables new = keeps.longer in
    let here : IsLit old (get_or lits k d) = are k d within in
    omega arith

pub word-kept : (inputs : List Bool) (old new : Gates) (lits : List ℕ) → Keeps old new → AreLits old lits → word inputs new lits ≡ word inputs old lits
word-kept inputs old new [] keeps are = refl
word-kept inputs old new (lit ∷ lits) keeps are =
    ap₂ (λ b bs. b ∷ bs) (keeps.values inputs lit (are 0 lit (omega arith))) (word-kept inputs old new lits keeps (λ k d h. are (suc k) d (omega arith)))

pub MakesWord-as : {old new : Gates} {lits : List ℕ} {f : List Bool → List Bool} (g : List Bool → List Bool) → ((i : List Bool) → f i ≡ g i) → MakesWord old new lits f → MakesWord old new lits g
MakesWord-as g same m = record { keeps = m.keeps; are_lits = m.are_lits; has_value = λ i. m.has_value i ∙ same i }

pub MakesWord-given : {old new : Gates} (lits : List ℕ) → Keeps old new → AreLits old lits → MakesWord old new lits (λ i. word i old lits)
MakesWord-given {old} {new} lits keeps are = record {
  keeps = keeps;
  are_lits = AreLits-kept old new lits keeps are;
  has_value = λ i. word-kept i old new lits keeps are;
}

pub MakesWord-kept : {old mid new : Gates} {lits : List ℕ} {f : List Bool → List Bool} → MakesWord old mid lits f → Keeps mid new → MakesWord old new lits f
MakesWord-kept {old} {mid} {new} {lits} m keeps = record {
  keeps = Keeps-trans old mid new m.keeps keeps;
  are_lits = AreLits-kept mid new lits keeps m.are_lits;
  has_value = λ i. word-kept i mid new lits keeps m.are_lits ∙ m.has_value i;
}

-- one more literal
pub MakesWord-push : {old mid new : Gates} {lits : List ℕ} {lit : ℕ} {f : List Bool → List Bool} {b : List Bool → Bool} → MakesWord old mid lits f → Keeps mid new → Makes old new lit b → MakesWord old new (lits ++ lit ∷ []) (λ i. f i ++ b i ∷ [])
MakesWord-push {old} {mid} {new} {lits} {lit} {f} {b} m keeps bit =
    let kept = MakesWord-kept m keeps in
    record {
      keeps = kept.keeps;
      are_lits = All-push (IsLit new) lits lit kept.are_lits bit.is_lit;
      has_value = λ i. map_push (value i new) lits lit ∙ ap₂ (λ w x. w ++ x ∷ []) (kept.has_value i) (bit.has_value i);
    }

pub MakesWord-none : (g : Gates) (f : List Bool → List Bool) → ((i : List Bool) → [] ≡ f i) → MakesWord g g [] f
MakesWord-none g f same = record { keeps = Keeps-refl g; are_lits = λ k d h. absurd (omega arith); has_value = same }

-- the literal at a place of a word has the value at that place
pub Makes-at : {old new : Gates} {lits : List ℕ} {f : List Bool → List Bool} (k lit : ℕ) → MakesWord old new lits f → k < length lits → lit ≡ get_or lits k 0 → Makes old new lit (λ i. get_or (f i) k false)
Makes-at {old} {new} {lits} {f} k lit m within is = record {
  keeps = m.keeps;
  is_lit = rw is (m.are_lits k 0 within);
  has_value = λ i. ap (value i new) is ∙ sym (get_or-map (value i new) lits k 0 false within) ∙ ap (λ w. get_or w k false) (m.has_value i);
}

pub Makes-element : {old new : Gates} (k : ℕ) (lits : List ℕ) → Keeps old new → AreLits old lits → k < length lits → Makes old new (get_or lits k 0) (λ i. get_or (word i old lits) k false)
Makes-element k lits keeps are within = Makes-at k (get_or lits k 0) (MakesWord-given lits keeps are) within refl

-- two words of one width have values of one width
pub same_widths : (i : List Bool) (g : Gates) (a b : List ℕ) → length a ≡ length b → length (word i g a) ≡ length (word i g b)
same_widths i g a b same = length-map a (value i g) ∙ same ∙ sym (length-map b (value i g))

pub width : (i : List Bool) (g : Gates) (a : List ℕ) → length (word i g a) ≡ length a
width i g a = length-map a (value i g)

-- a function of three literals' values
pub Makes-by3 : {old mid new : Gates} {a b d lit : ℕ} {f g h : List Bool → Bool} (op : Bool → Bool → Bool → Bool) → Makes old mid a f → Makes old mid b g → Makes old mid d h → Makes mid new lit (λ i. op (value i mid a) (value i mid b) (value i mid d)) → Makes old new lit (λ i. op (f i) (g i) (h i))
Makes-by3 {old} {mid} {new} {b = b} {d = d} {f = f} {g = g} op p q r m = record {
  keeps = Keeps-trans old mid new p.keeps m.keeps;
  is_lit = m.is_lit;
  has_value = λ i. m.has_value i ∙ ap (λ x. op x (value i mid b) (value i mid d)) (p.has_value i) ∙ ap₂ (op (f i)) (q.has_value i) (r.has_value i);
}

-- the same function of the inputs, otherwise written
pub Makes-like : {old new : Gates} {lit : ℕ} {f : List Bool → Bool} (g : List Bool → Bool) → ((i : List Bool) → f i ≡ g i) → Makes old new lit f → Makes old new lit g
Makes-like g same m = record { keeps = m.keeps; is_lit = m.is_lit; has_value = λ i. m.has_value i ∙ same i }
