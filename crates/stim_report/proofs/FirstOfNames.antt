-- The first input of each name, as names come one by one.
use Rattle.std.proofs.Common.{◌≡◌, ℕ, ◌<◌, Bool, true, false, cond, List, [], ◌∷◌, ◌++◌, length, length-append, get_or, Option, Some, None, refl, sym, ap, ◌∙◌, subst, arith}
use Rattle.std.specs.Prelude.{nat_lt, option_map, slice_get, slice_index, bytes_eq}
use Rattle.std.specs.List.{position_or_len}
use Rattle.std.proofs.lemmas.Bool.{false_from_ne_true, lt-ltb}
use Rattle.std.proofs.lemmas.List.{get_or_default}
use Rattle.std.proofs.lemmas.List.Quantifiers.{position-Some}
use Rattle.std.proofs.lemmas.List.Sums.{position_or_len_is}
use Rattle.std.proofs.lemmas.Option.{get_or_from_slice_get, slice_get_within}
use Rattle.std.proofs.lemmas.Slice.Eq.{bytes_eq-Decides}
use Rattle.kw_base.specs.Names.{Adds, AreNumbered, number_of}
use Rattle.kw_base.specs.declared.names.Added.{Added}
use Rattle.kw_base.specs.declared.names.Added.TheVariants.{New, There}
use Rattle.kw_base.proofs.FirstPlaces.{at_found, at_other, before_last, last_of, or_at, position_push}
use Rattle.stim_report.specs.Assignments.{input_by_name}
use Rattle.stim_report.specs.inner.FirstNames.{AreFirst}
use Rattle.stim_report.specs.declared.shape.NameWidth.{NameWidth}

map_found : (f : ℕ → ℕ) (o : Option ℕ) (k : ℕ) → o ≡ Some k → option_map f o ≡ Some (f k)
map_found f o k is = ap (option_map f) is

-- an input whose name was seen changes nothing
pub first_there : (names : List (List ℕ)) (firsts : List ℕ) (before : List NameWidth) (input : NameWidth) (number : ℕ) → AreFirst names firsts before → number_of names input.name ≡ Some number
    → AreFirst names firsts (before ++ input ∷ [])
first_there names firsts before input number first found = record {
  numbered = first.numbered;
  count = first.count;
  first = λ name. position_push (λ (i : NameWidth). bytes_eq name i.name) before input ∙ same name (bytes_eq name input.name) refl ∙ first.first name;
}
  where
    same : (name : List ℕ) (b : Bool) → bytes_eq name input.name ≡ b → or_at (input_by_name before name) b (length before) ≡ input_by_name before name
    same name false is = at_other (input_by_name before name) (length before)
    same name true is =
        let named : name ≡ input.name = (bytes_eq-Decides name input.name).0 is in
        at_found (input_by_name before name) (slice_index firsts number) (length before) true
        (first.first name ∙ map_found (slice_index firsts) (number_of names name) number (ap (number_of names) named ∙ found))

-- an input of a new name is the first of it
pub first_new : (names : List (List ℕ)) (firsts : List ℕ) (before : List NameWidth) (input : NameWidth) → AreFirst names firsts before → AreNumbered (names ++ input.name ∷ [])
    → AreFirst (names ++ input.name ∷ []) (firsts ++ length before ∷ []) (before ++ input ∷ [])
unfolding or_at
first_new names firsts before input first numbered = record {
  numbered = numbered;
  count = omega (arith, length-append firsts (length before ∷ []), length-append names (input.name ∷ []), first.count);
  first = λ name.
      position_push (λ (i : NameWidth). bytes_eq name i.name) before input
      ∙ ap (λ (o : Option ℕ). or_at o (bytes_eq name input.name) (length before)) (first.first name)
      ∙ one_more (number_of names name) (bytes_eq name input.name) (λ k found. (position-Some (bytes_eq name) names k [] found).0)
      ∙ sym (ap (option_map (slice_index (firsts ++ length before ∷ []))) (position_push (bytes_eq name) names input.name));
}
  where
    one_more : (o : Option ℕ) (b : Bool) → ((k : ℕ) → o ≡ Some k → k < length names)
        → or_at (option_map (slice_index firsts) o) b (length before) ≡ option_map (slice_index (firsts ++ length before ∷ [])) (or_at o b (length names))
    one_more (Some k) b within = ap Some (sym (before_last firsts (length before) k (omega (arith, within k refl, first.count))))
    one_more None true within = ap Some (sym (ap (slice_index (firsts ++ length before ∷ [])) (sym first.count) ∙ last_of firsts (length before)))
    one_more None false within = refl

-- no names and no inputs
pub first_none : (firsts : List ℕ) → firsts ≡ [] → AreFirst [] firsts []
first_none firsts none = record {
  numbered = record { distinct = λ i j d less below. absurd (omega (arith, below)); few = omega arith };
  count = ap length none;
  first = λ name. refl;
}

-- the number of a name is that of its place, since no two are equal
pub number_at : (names : List (List ℕ)) (name : List ℕ) (k : ℕ) → AreNumbered names → slice_get names k ≡ Some name → Some k ≡ number_of names name
number_at names name k numbered found =
    let within : k < length names = slice_get_within names k name found in
    let at : get_or names k [] ≡ name = get_or_from_slice_get names k name [] found in
    let place : position_or_len (bytes_eq name) names ≡ k =
    position_or_len_is (bytes_eq name) names k [] (omega (arith, within))
    (λ i below. false_from_ne_true (bytes_eq name (get_or names i [])) (λ same. numbered.distinct i k [] below within (sym ((bytes_eq-Decides name (get_or names i [])).0 same) ∙ sym at)))
    (λ h. (bytes_eq-Decides name (get_or names k [])).1 (sym at)) in
    sym (ap (λ (n : ℕ). cond (nat_lt n (length names)) (Some n) None) place ∙ ap (λ (b : Bool). cond b (Some k) None) (lt-ltb k (length names) within))

-- the number of a name is one of those that are kept
pub first_within : (names : List (List ℕ)) (firsts : List ℕ) (inputs : List NameWidth) (name : List ℕ) (number : ℕ) → AreFirst names firsts inputs → number_of names name ≡ Some number → number < length firsts
first_within names firsts inputs name number first found = omega (arith, (position-Some (bytes_eq name) names number [] found).0, first.count)

-- the first input of a name that was found, and that there is none
pub find_first : (names : List (List ℕ)) (firsts : List ℕ) (inputs : List NameWidth) (name : List ℕ) (number x : ℕ) → AreFirst names firsts inputs → number_of names name ≡ Some number → x ≡ get_or firsts number x
    → Some x ≡ input_by_name inputs name
find_first names firsts inputs name number x first found is =
    let same : get_or firsts number x ≡ slice_index firsts number = get_or_default firsts number x 0 (first_within names firsts inputs name number first found) in
    ap Some (is ∙ same) ∙ sym (first.first name ∙ map_found (slice_index firsts) (number_of names name) number found)

pub find_none : (names : List (List ℕ)) (firsts : List ℕ) (inputs : List NameWidth) (name : List ℕ) → AreFirst names firsts inputs → number_of names name ≡ None → None ≡ input_by_name inputs name
find_none names firsts inputs name first found = sym (first.first name ∙ ap (option_map (slice_index firsts)) found)

-- what adding a name gives
pub added_new : (old new : List (List ℕ)) (name read : List ℕ) (added : Added) (k : ℕ) → added ≡ New k → Adds old read added new → read ≡ name → new ≡ old ++ name ∷ []
added_new old new name read added k is adds same =
    (subst (λ (a : Added). Adds old read a new) is adds).2 ∙ ap (λ (n : List ℕ). old ++ n ∷ []) same

pub added_there : (old new : List (List ℕ)) (name read : List ℕ) (added : Added) (k : ℕ) → added ≡ There k → Adds old read added new → read ≡ name → (number_of old name ≡ Some k) × (new ≡ old)
added_there old new name read added k is adds same =
    let there = subst (λ (a : Added). Adds old read a new) is adds in
    (ap (number_of old) (sym same) ∙ there.0, there.1)
