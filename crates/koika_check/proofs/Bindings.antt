-- The places of locals, as names are bound and unbound.
use Rattle.std.proofs.Common.{◌≡◌, ℕ, zero, suc, ◌+◌, ◌-◌, ◌<◌, ◌≤◌, Bool, true, false, cond, nat_eq, ltb, inl, inr, ◌^◌, length-append, set, List, [], ◌∷◌, ◌++◌, length, map, get_or, slice_get, Option, Some, None, refl, ap, ap₂, sym, ◌∙◌, subst, arith}
use Rattle.std.specs.Option.{option_map}
use Rattle.std.specs.Str.{bytes_eq}
use Rattle.std.proofs.lemmas.Bool.{eqb-true, eqb-false, ltb-true, ltb-false}
use Rattle.std.proofs.lemmas.List.{length-set, get_or-set_other, get_or-set_same}
use Rattle.std.proofs.lemmas.Option.{slice_get-get_or, slice_get-map}
use Rattle.kw_base.specs.Names.{AreNumbered, number_of}
use Rattle.koika_check.specs.inner.Locals.{AllHide, AreLocals, inside_of, local_of, locals_of, place_of}
use Rattle.koika_check.specs.Scopes.{Local, local_named}
use Rattle.koika_check.specs.inner.Shapes.{type_of_shape}
use Rattle.koika_check.specs.declared.locals.Bound.{Bound}
use Rattle.koika_check.specs.declared.locals.Locals.{Locals}
use Rattle.koika_check.specs.declared.typed.ValueType.{ValueType}
use Rattle.koika_check.specs.declared.shapes.Shape.TheVariants as shape
use Rattle.koika_check.proofs.ArrayTypes.{get-last, get-push, le_split}
use Rattle.koika_check.proofs.Positions.{index, index-push, not_there, number_of-within, or_last, position-index, same, same-is}

-- one more is the innermost
pub inside-push : (inner bs : List Bound) (b : Bound) → inside_of inner (bs ++ b ∷ []) ≡ b ∷ inside_of inner bs
inside-push inner [] b = refl
inside-push inner (a ∷ bs) b = inside-push (a ∷ inner) bs b

pub length-inside : (inner bs : List Bound) → length (inside_of inner bs) ≡ length inner + length bs
length-inside inner [] = omega arith
length-inside inner (a ∷ bs) = length-inside (a ∷ inner) bs ∙ omega arith

-- the outermost are behind
get-outer : (inner bs : List Bound) (k : ℕ) (d : Bound) → get_or (inside_of inner bs) (length bs + k) d ≡ get_or inner k d
get-outer inner [] k d = ap (λ i. get_or inner i d) (omega arith)
get-outer inner (a ∷ bs) k d =
    let e : suc (length bs) + k ≡ length bs + suc k = omega arith in
    ap (λ i. get_or (inside_of (a ∷ inner) bs) i d) e ∙ get-outer (a ∷ inner) bs (suc k) d

pub get-inside : (inner bs : List Bound) (p : ℕ) (d : Bound) → p < length bs → get_or (inside_of inner bs) (length bs - 1 - p) d ≡ get_or bs p d
get-inside inner [] p d lt = absurd (omega (arith, lt))
get-inside inner (a ∷ bs) zero d lt =
    let e : suc (length bs) - 1 - 0 ≡ length bs + 0 = omega arith in
    ap (λ i. get_or (inside_of (a ∷ inner) bs) i d) e ∙ get-outer (a ∷ inner) bs 0 d
get-inside inner (a ∷ bs) (suc p) d lt =
    let e : suc (length bs) - 1 - suc p ≡ length bs - 1 - p = omega arith in
    ap (λ i. get_or (inside_of (a ∷ inner) bs) i d) e ∙ get-inside (a ∷ inner) bs p d (omega (arith, lt))

-- where a name is found
pub place-found : (ins : List Bound) (n p : ℕ) (d : Bound) → place_of ins n ≡ Some p → (p < length ins) × ((get_or ins (length ins - 1 - p) d).name ≡ n)
place-found [] n p d e = absurd cc
place-found (b ∷ rest) n p d e = by_test (nat_eq n b.name) refl (place-found rest n p d) e
  where
    by_test : (t : Bool) → nat_eq n b.name ≡ t → (place_of rest n ≡ Some p → (p < length rest) × ((get_or rest (length rest - 1 - p) d).name ≡ n)) → cond t (Some (length rest)) (place_of rest n) ≡ Some p →
        (p < suc (length rest)) × ((get_or (b ∷ rest) (suc (length rest) - 1 - p) d).name ≡ n)
    by_test true t inner e =
        let q : length rest ≡ p = cc in
        let z : suc (length rest) - 1 - p ≡ 0 = omega (arith, q) in
        (omega (arith, q), ap (λ i. (get_or (b ∷ rest) i d).name) z ∙ sym (eqb-true n b.name t))
    by_test false t inner e =
        let found = inner e in
        let z : suc (length rest) - 1 - p ≡ suc (length rest - 1 - p) = omega (arith, found.0) in
        (omega (arith, found.0), ap (λ i. (get_or (b ∷ rest) i d).name) z ∙ found.1)

pub not_true : (b : Bool) → (b ≡ true → ⊥) → b ≡ false
not_true true h = absurd (h refl)
not_true false h = refl

-- a number that no local has is found nowhere
place-fresh : (names : ℕ) (ins : List Bound) (n : ℕ) → AllHide names ins → names ≤ n → place_of ins n ≡ None
place-fresh names [] n h le = refl
place-fresh names (b ∷ rest) n h le = rw (other_number n b.name (omega (arith, h.0, le))) (place-fresh names rest n h.2 le)
  where
    other_number : (n m : ℕ) → m < n → nat_eq n m ≡ false
    other_number n m lt = not_true (nat_eq n m) (λ e. omega (arith, lt, eqb-true n m e))

-- no two names have one number
one_number : (names : List (List ℕ)) → AreNumbered names → (n m : ℕ) → n < length names → m < length names → get_or names n [] ≡ get_or names m [] → n ≡ m
one_number names are n m ln lm e = by_order (ltb n m) (ltb m n) refl refl
  where
    by_order : (a b : Bool) → ltb n m ≡ a → ltb m n ≡ b → n ≡ m
    by_order true b f g = absurd (are.distinct n m [] (ltb-true n m f) lm e)
    by_order false true f g = absurd (are.distinct m n [] (ltb-true m n g) ln (sym e))
    by_order false false f g = omega (arith, ltb-false n m f, ltb-false m n g)

-- the names of locals are those by their numbers
same_name : (names : List (List ℕ)) → AreNumbered names → (name : List ℕ) (n m : ℕ) → number_of names name ≡ Some n → m < length names → bytes_eq name (get_or names m []) ≡ nat_eq n m
same_name names are name n m e lt = by_test (nat_eq n m) refl
  where
    by_test : (t : Bool) → nat_eq n m ≡ t → bytes_eq name (get_or names m []) ≡ t
    by_test true t = ap (λ i. bytes_eq name (get_or names i [])) (sym (eqb-true n m t)) ∙ ap (bytes_eq name) (number_of-within names name n e).1 ∙ same name
    by_test false t = not_true (bytes_eq name (get_or names m [])) (λ b.
        let found = number_of-within names name n e in
        eqb-false n m t (one_number names are n m found.0 lt (found.1 ∙ same-is name (get_or names m []) b)))

other_name : (names : List (List ℕ)) (name : List ℕ) (m : ℕ) → number_of names name ≡ None → m < length names → bytes_eq name (get_or names m []) ≡ false
other_name names name m e lt = not_true (bytes_eq name (get_or names m [])) (λ b. not_there names name [] m e lt (sym (same-is name (get_or names m []) b)))

-- how many were bound inside the one of this name
abbrev inner_names : List ValueType → List (List ℕ) → List Bound → List (List ℕ)
inner_names arrays names ins = map (λ (l : Local). l.name) (map (local_of arrays names) ins)

lookup-some : (arrays : List ValueType) (names : List (List ℕ)) (ins : List Bound) → AreNumbered names → AllHide (length names) ins → (name : List ℕ) (n : ℕ) → number_of names name ≡ Some n →
    index (bytes_eq name) (inner_names arrays names ins) ≡ option_map (λ p. length ins - 1 - p) (place_of ins n)
lookup-some arrays names [] are h name n e = refl
lookup-some arrays names (b ∷ rest) are h name n e =
    ap (λ t. cond t (Some 0) (option_map suc (index (bytes_eq name) (inner_names arrays names rest)))) (same_name names are name n b.name e h.0)
    ∙ ap (λ o. cond (nat_eq n b.name) (Some 0) (option_map suc o)) (lookup-some arrays names rest are h.2 name n e)
    ∙ by_test (nat_eq n b.name) (place_of rest n) refl
  where
    by_test : (t : Bool) (o : Option ℕ) → place_of rest n ≡ o →
        cond t (Some 0) (option_map suc (option_map (λ p. length rest - 1 - p) o)) ≡ option_map (λ p. suc (length rest) - 1 - p) (cond t (Some (length rest)) o)
    by_test true o f = let z : 0 ≡ suc (length rest) - 1 - length rest = omega arith in ap Some z
    by_test false None f = refl
    by_test false (Some p) f =
        let found = (place-found rest n p b f).0 in
        let z : suc (length rest - 1 - p) ≡ suc (length rest) - 1 - p = omega (arith, found) in ap Some z

lookup-none : (arrays : List ValueType) (names : List (List ℕ)) (ins : List Bound) → AllHide (length names) ins → (name : List ℕ) → number_of names name ≡ None → index (bytes_eq name) (inner_names arrays names ins) ≡ None
lookup-none arrays names [] h name e = refl
lookup-none arrays names (b ∷ rest) h name e =
    rw (other_name names name b.name e h.0) (ap (option_map suc) (lookup-none arrays names rest h.2 name e))

-- ---- what is found

pub named-none : (arrays : List ValueType) (s : Locals) → AreLocals s → (name : List ℕ) → number_of s.names name ≡ None → local_named (locals_of arrays s) name ≡ None
named-none arrays s h name e = position-index (bytes_eq name) _ ∙ lookup-none arrays s.names (inside_of [] s.bound) h.hidden name e

pub named-some : (arrays : List ValueType) (s : Locals) → AreLocals s → AreNumbered s.names → (name : List ℕ) (n : ℕ) (o d : Option ℕ) → number_of s.names name ≡ Some n → o ≡ get_or s.innermost n d →
    local_named (locals_of arrays s) name ≡ option_map (λ p. length s.bound - 1 - p) o
named-some arrays s h are name n o d e f =
    let place = h.places n d (number_of-within s.names name n e).0 in
    position-index (bytes_eq name) _ ∙ lookup-some arrays s.names (inside_of [] s.bound) are h.hidden name n e
    ∙ ap₂ (λ k q. option_map (λ p. k - 1 - p) q) (length-inside [] s.bound ∙ omega arith) (sym (f ∙ place))

pub named-within : (s : Locals) → AreLocals s → (name : List ℕ) (n p : ℕ) (d : Option ℕ) → number_of s.names name ≡ Some n → Some p ≡ get_or s.innermost n d → p < length s.bound
named-within s h name n p d e f =
    let place = h.places n d (number_of-within s.names name n e).0 in
    let found = place-found (inside_of [] s.bound) n p none (sym (f ∙ place)) in
    omega (arith, found.0, length-inside [] s.bound)
  where
    none : Bound
    none = record { name = 0; shape = shape.Bits 0; hides = None }

pub named-local : (arrays : List ValueType) (s : Locals) → AreLocals s → (name : List ℕ) (n p : ℕ) (d : Option ℕ) (b : Bound) → number_of s.names name ≡ Some n → Some p ≡ get_or s.innermost n d → b ≡ get_or s.bound p b →
    slice_get (locals_of arrays s) (length s.bound - 1 - p) ≡ Some (record { name = name; of = type_of_shape arrays b.shape })
named-local arrays s h name n p d b e f g =
    let place = h.places n d (number_of-within s.names name n e).0 in
    let found = place-found (inside_of [] s.bound) n p b (sym (f ∙ place)) in
    let count : length (inside_of [] s.bound) ≡ length s.bound = omega (arith, length-inside [] s.bound) in
    let within : p < length s.bound = omega (arith, found.0, count) in
    let inner : length s.bound - 1 - p < length (inside_of [] s.bound) = omega (arith, within, count) in
    let is : get_or (inside_of [] s.bound) (length s.bound - 1 - p) b ≡ b = get-inside [] s.bound p b within ∙ sym g in
    let called : b.name ≡ n = ap (λ (c : Bound). c.name) (sym is ∙ ap (λ k. get_or (inside_of [] s.bound) (k - 1 - p) b) (sym count)) ∙ found.1 in
    slice_get-map (local_of arrays s.names) (inside_of [] s.bound) (length s.bound - 1 - p)
    ∙ ap (option_map (local_of arrays s.names)) (slice_get-get_or (inside_of [] s.bound) (length s.bound - 1 - p) b inner ∙ ap Some is)
    ∙ ap (λ m. Some (named m (type_of_shape arrays b.shape))) (ap (λ k. get_or s.names k []) called ∙ (number_of-within s.names name n e).1)
  where
    named : List ℕ → ValueType → Local
    named m t = record { name = m; of = t }

-- ---- one more name

AllHide-more : (n m : ℕ) (ins : List Bound) → n ≤ m → AllHide n ins → AllHide m ins
AllHide-more n m [] le h = tt
AllHide-more n m (b ∷ rest) le h = (omega (arith, h.0, le), h.1, AllHide-more n m rest le h.2)

pub name-kept : (s : Locals) (name : List ℕ) → AreLocals s → AreLocals (record { names = s.names ++ name ∷ []; innermost = s.innermost ++ None ∷ []; bound = s.bound })
name-kept s name h = record {
  numbers = omega (arith, h.numbers, length-append s.names (name ∷ []), length-append s.innermost (None ∷ []));
  places = λ n d lt. elim (le_split n (length s.names) (omega (arith, lt, length-append s.names (name ∷ [])))) [
    | inl below ↦ get-push s.innermost None d n (omega (arith, below, h.numbers)) ∙ h.places n d below
    | inr last ↦ get-last s.innermost None d n (omega (arith, last, h.numbers)) ∙ sym (place-fresh (length s.names) (inside_of [] s.bound) n h.hidden (omega (arith, last)))
  ];
  hidden = AllHide-more (length s.names) (length (s.names ++ name ∷ [])) (inside_of [] s.bound) (omega (arith, length-append s.names (name ∷ []))) h.hidden;
  few = h.few;
}

pub name-same : (arrays : List ValueType) (names : List (List ℕ)) (name : List ℕ) (ins : List Bound) → AllHide (length names) ins → map (local_of arrays (names ++ name ∷ [])) ins ≡ map (local_of arrays names) ins
name-same arrays names name [] h = refl
name-same arrays names name (b ∷ rest) h =
    ap₂ (λ m ls. named m (type_of_shape arrays b.shape) ∷ ls) (get-push names name [] b.name h.0) (name-same arrays names name rest h.2)
  where
    named : List ℕ → ValueType → Local
    named m t = record { name = m; of = t }

pub name-number : (names : List (List ℕ)) (name : List ℕ) → number_of names name ≡ None → number_of (names ++ name ∷ []) name ≡ Some (length names)
name-number names name e =
    position-index (bytes_eq name) (names ++ name ∷ []) ∙ index-push (bytes_eq name) names name
    ∙ ap₂ (λ o b. or_last o b (length names)) (sym (position-index (bytes_eq name) names) ∙ e) (same name)

-- ---- one more local, and one fewer

places-set : (xs : List (Option ℕ)) (n m : ℕ) (x y d : Option ℕ) → n < length xs → (nat_eq m n ≡ true → x ≡ y) → (nat_eq m n ≡ false → get_or xs m d ≡ y) → get_or (set xs n x) m d ≡ y
places-set xs n m x y d lt is isnt = by_test (nat_eq m n) refl
  where
    by_test : (t : Bool) → nat_eq m n ≡ t → get_or (set xs n x) m d ≡ y
    by_test true e = ap (λ k. get_or (set xs n x) k d) (eqb-true m n e) ∙ get_or-set_same xs n x d lt ∙ is e
    by_test false e = get_or-set_other xs n m x d (eqb-false m n e) ∙ isnt e

pub bound-kept : (s : Locals) → AreLocals s → (n place : ℕ) (b : Bound) → n < length s.names → b.name ≡ n → b.hides ≡ get_or s.innermost n b.hides → place ≡ length s.bound → length s.bound < 2 ^ 32 →
    AreLocals (record { names = s.names; innermost = set s.innermost n (Some place); bound = s.bound ++ b ∷ [] })
bound-kept s h n place b lt name hides at few = record {
  numbers = length-set s.innermost n (Some place) ∙ h.numbers;
  places = λ m d lm. places-set s.innermost n m (Some place) (place_of (inside_of [] (s.bound ++ b ∷ [])) m) d (omega (arith, lt, h.numbers))
      (λ e. ap Some (omega (arith, at, length-inside [] s.bound)) ∙ sym (ap (λ ins. place_of ins m) (inside-push [] s.bound b) ∙ ap (λ t. cond t (Some (length (inside_of [] s.bound))) (place_of (inside_of [] s.bound) m)) (ap (nat_eq m) name ∙ e)))
      (λ e. h.places m d lm ∙ sym (ap (λ ins. place_of ins m) (inside-push [] s.bound b) ∙ ap (λ t. cond t (Some (length (inside_of [] s.bound))) (place_of (inside_of [] s.bound) m)) (ap (nat_eq m) name ∙ e)));
  hidden = subst (AllHide (length s.names)) (sym (inside-push [] s.bound b)) (omega (arith, lt, name), hides ∙ h.places n b.hides lt ∙ ap (place_of (inside_of [] s.bound)) (sym name), h.hidden);
  few = omega (arith, few, length-append s.bound (b ∷ []));
}

pub unbound-kept : (s : Locals) → AreLocals s → (bs : List Bound) (l : Bound) → s.bound ≡ bs ++ l ∷ [] → AreLocals (record { names = s.names; innermost = set s.innermost l.name l.hides; bound = bs })
unbound-kept s h bs l e =
    let hidden = subst (AllHide (length s.names)) (ap (inside_of []) e ∙ inside-push [] bs l) h.hidden in
    record {
      numbers = length-set s.innermost l.name l.hides ∙ h.numbers;
      places = λ m d lm. places-set s.innermost l.name m l.hides (place_of (inside_of [] bs) m) d (omega (arith, hidden.0, h.numbers))
          (λ f. hidden.1 ∙ ap (place_of (inside_of [] bs)) (sym (eqb-true m l.name f)))
          (λ f. h.places m d lm ∙ ap (λ ins. place_of ins m) (ap (inside_of []) e ∙ inside-push [] bs l) ∙ ap (λ t. cond t (Some (length (inside_of [] bs))) (place_of (inside_of [] bs) m)) f);
      hidden = hidden.2;
      few = omega (arith, h.few, ap length e, length-append bs (l ∷ []));
    }

pub unbound-named : (s : Locals) → AreLocals s → (bs : List Bound) (l : Bound) → s.bound ≡ bs ++ l ∷ [] → l.name < length s.names
unbound-named s h bs l e = (subst (AllHide (length s.names)) (ap (inside_of []) e ∙ inside-push [] bs l) h.hidden).0
