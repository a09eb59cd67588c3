-- The first bit of each name, as names come one by one.
use Rattle.std.proofs.Common.{◌≡◌, ℕ, ◌+◌, ◌<◌, Bool, true, false, List, [], ◌∷◌, ◌++◌, length, length-append, get_or, Option, Some, None, refl, sym, ap, ◌∙◌, subst, arith}
use Rattle.std.specs.Prelude.{option_map, position, slice_index, bytes_eq}
use Rattle.std.proofs.lemmas.List.{get_or_default}
use Rattle.std.proofs.lemmas.List.Quantifiers.{position-Some}
use Rattle.std.proofs.lemmas.Slice.Eq.{bytes_eq-Decides}
use Rattle.kw_base.specs.Names as names
use Rattle.kw_base.specs.Names.{Adds, AreNumbered}
use Rattle.kw_base.specs.declared.names.Added.{Added}
use Rattle.kw_base.specs.declared.names.Added.TheVariants.{New, There}
use Rattle.kw_base.proofs.FirstPlaces.{at_other, before_last, last_of, or_at, position_push}
use Rattle.invariant_check.specs.Invariants.{number_of}
use Rattle.invariant_check.specs.inner.FirstNames.{AreFirst}

-- a name that was seen changes nothing
pub first_there : (seen : List (List ℕ)) (numbers : List ℕ) (bits : List (List ℕ)) (own : List ℕ) (k : ℕ)
    → AreFirst seen numbers bits → names.number_of seen own ≡ Some k
    → AreFirst seen numbers (bits ++ own ∷ [])
unfolding or_at
first_there seen numbers bits own k first found = record {
  numbered = first.numbered;
  count = first.count;
  first = λ name. ap (option_map (λ (n : ℕ). n + 1)) (position_push (bytes_eq name) bits own)
      ∙ same name (bytes_eq name own) refl ∙ first.first name;
}
  where
    stays : (o : Option ℕ) (x : ℕ) → option_map (λ (n : ℕ). n + 1) o ≡ Some x → or_at o true (length bits) ≡ o
    stays (Some j) x is = refl
    stays None x is = absurd cc

    same : (name : List ℕ) (b : Bool) → bytes_eq name own ≡ b
        → option_map (λ (n : ℕ). n + 1) (or_at (position (bytes_eq name) bits) b (length bits)) ≡ number_of bits name
    same name false is = ap (option_map (λ (n : ℕ). n + 1)) (at_other (position (bytes_eq name) bits) (length bits))
    same name true is =
        let named : name ≡ own = (bytes_eq-Decides name own).0 is in
        ap (option_map (λ (n : ℕ). n + 1))
        (stays (position (bytes_eq name) bits) (slice_index numbers k)
        (first.first name ∙ ap (option_map (slice_index numbers)) (ap (names.number_of seen) named ∙ found)))

-- a bit of a new name is the first of it
pub first_new : (seen : List (List ℕ)) (numbers : List ℕ) (bits : List (List ℕ)) (own : List ℕ)
    → AreFirst seen numbers bits → AreNumbered (seen ++ own ∷ [])
    → AreFirst (seen ++ own ∷ []) (numbers ++ (length bits + 1) ∷ []) (bits ++ own ∷ [])
unfolding or_at
first_new seen numbers bits own first numbered = record {
  numbered = numbered;
  count = omega (arith, length-append numbers ((length bits + 1) ∷ []), length-append seen (own ∷ []), first.count);
  first = λ name.
      ap (option_map (λ (n : ℕ). n + 1)) (position_push (bytes_eq name) bits own)
      ∙ one_more (position (bytes_eq name) bits) (names.number_of seen name) (bytes_eq name own) (first.first name)
      (λ k found. (position-Some (bytes_eq name) seen k [] found).0)
      ∙ sym (ap (option_map (slice_index (numbers ++ (length bits + 1) ∷ [])))
      (position_push (bytes_eq name) seen own));
}
  where
    one_more : (o p : Option ℕ) (b : Bool) → option_map (λ (n : ℕ). n + 1) o ≡ option_map (slice_index numbers) p
        → ((k : ℕ) → p ≡ Some k → k < length seen)
        → option_map (λ (n : ℕ). n + 1) (or_at o b (length bits))
        ≡ option_map (slice_index (numbers ++ (length bits + 1) ∷ [])) (or_at p b (length seen))
    one_more (Some j) (Some k) b same within = same
        ∙ ap Some (sym (before_last numbers (length bits + 1) k (omega (arith, within k refl, first.count))))
    one_more (Some j) None b same within = absurd cc
    one_more None (Some k) b same within = absurd cc
    one_more None None true same within =
        ap Some (sym (ap (slice_index (numbers ++ (length bits + 1) ∷ [])) (sym first.count)
        ∙ last_of numbers (length bits + 1)))
    one_more None None false same within = refl

-- no names and no bits
pub first_none : (seen : List (List ℕ)) (numbers : List ℕ) → seen ≡ [] → numbers ≡ [] → AreFirst seen numbers []
first_none seen numbers none empty =
    subst (λ (s : List (List ℕ)). AreFirst s numbers []) (sym none)
    (record {
      numbered = record { distinct = λ i j d less below. absurd (omega (arith, below)); few = omega arith };
      count = ap length empty;
      first = λ name. refl;
    })

-- the number of a name is one of those that are kept
pub first_within : (seen : List (List ℕ)) (numbers : List ℕ) (bits : List (List ℕ)) (name : List ℕ) (k : ℕ)
    → AreFirst seen numbers bits → names.number_of seen name ≡ Some k → k < length numbers
first_within seen numbers bits name k first found = omega
    (arith, (position-Some (bytes_eq name) seen k [] found).0, first.count)

-- the first bit of a name that was found, and that there is none
pub find_first : (seen : List (List ℕ)) (numbers : List ℕ) (bits : List (List ℕ)) (name : List ℕ) (k x : ℕ)
    → AreFirst seen numbers bits → names.number_of seen name ≡ Some k → x ≡ get_or numbers k x
    → Some x ≡ number_of bits name
find_first seen numbers bits name k x first found is =
    let same : get_or numbers k x
    ≡ slice_index numbers k = get_or_default numbers k x 0 (first_within seen numbers bits name k first found) in
    ap Some (is ∙ same) ∙ sym (first.first name ∙ ap (option_map (slice_index numbers)) found)

pub find_none : (seen : List (List ℕ)) (numbers : List ℕ) (bits : List (List ℕ)) (name : List ℕ)
    → AreFirst seen numbers bits → names.number_of seen name ≡ None → None ≡ number_of bits name
find_none seen numbers bits name first found = sym (first.first name ∙ ap (option_map (slice_index numbers)) found)

-- what adding a name gives
pub added_new : (old new : List (List ℕ)) (name : List ℕ) (added : Added) (k : ℕ) → added ≡ New k
    → Adds old name added new → new ≡ old ++ name ∷ []
added_new old new name added k is adds = (subst (λ (a : Added). Adds old name a new) is adds).2

pub added_there : (old new : List (List ℕ)) (name : List ℕ) (added : Added) (k : ℕ) → added ≡ There k
    → Adds old name added new → (names.number_of old name ≡ Some k) × (new ≡ old)
added_there old new name added k is adds = subst (λ (a : Added). Adds old name a new) is adds
