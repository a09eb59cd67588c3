-- Places of ascending numbers, and the clauses at them.
use mathlib.Core.Path.{fun_ext}
use Rattle.std.proofs.Common.{◌≡◌, ◌≢◌, ℕ, zero, suc, ◌+◌, ◌-◌, ◌<◌, ◌≤◌, Bool, true, false, cond, eqb, List, [], ◌∷◌, ◌++◌, length, get_or, set, take, drop, Option, Some, None, Result, Ok, Err, refl, sym, ap, ap₂, ◌∙◌, subst, arith}
use Rattle.std.specs.List.{All, list_any, slice_get, slice_range}
use Rattle.std.specs.Result.{OnOk}
use Rattle.kw_bits.specs.declared.memory.NoMemory.{NoMemory}
use Rattle.std.specs.Prelude.{◌||◌}
use Rattle.std.proofs.lemmas.Bool.{eqb-true, eqb-false, eq-eqb, ne_eqb}
use Rattle.std.proofs.lemmas.List.{drop-append-le, drop_at, get_or_append_left, length-append, length-drop, length_push, take-append-le, take_all}
use Rattle.std.proofs.lemmas.List.Folds.{list_any-append}
use Rattle.clause_check.specs.Clauses.{Clause}
use Rattle.clause_check.specs.Propagation.{Numbered}
use Rattle.clause_check.specs.Refutations.{Progress, begin, is_empty, numbered, with_clause}
use Rattle.clause_check.specs.declared.database.Place.{Place}
use Rattle.clause_check.specs.declared.literal.Literal.{Literal}
use Rattle.clause_check.specs.inner.Databases.{Ascends, IsKept, IsPlace, Keeps, clause_by, clause_in, place_in}

-- two ways of progress with the same clauses, greatest number and refutation are one
pub same_progress : (t u : Numbered) (l m : ℕ) (r s : Bool) → ((n : ℕ) → t n ≡ u n) → l ≡ m → r ≡ s
    → (let p : Progress = record { there = t; last = l; is_refuted = r } in p) ≡ (let p : Progress = record { there = u; last = m; is_refuted = s } in p)
same_progress t u l m r s there last refuted =
    ap (λ (v : Numbered). let p : Progress = record { there = v; last = l; is_refuted = r } in p) (fun_ext there)
    ∙ ap₂ (λ (n : ℕ) (b : Bool). let p : Progress = record { there = u; last = n; is_refuted = b } in p) last refuted

ascends_tail : (n : ℕ) (numbers : List ℕ) → Ascends (n ∷ numbers) → Ascends numbers
ascends_tail n numbers up = λ i j less within. up (suc i) (suc j) (omega (arith, less)) (omega (arith, within))

-- the first number is below all others
first_below : (n : ℕ) (numbers : List ℕ) (i : ℕ) → Ascends (n ∷ numbers) → i < length numbers → n < get_or numbers i 0
first_below n numbers i up within = up 0 (suc i) (omega arith) (omega (arith, within))

-- the place of the number at an index
pub place_found : (numbers : List ℕ) (places : List Place) (i n : ℕ) (place : Place) → Ascends numbers → length numbers ≡ length places → i < length numbers → get_or numbers i 0 ≡ n → place ≡ get_or places i place
    → place_in numbers places n ≡ Some place
place_found [] places i n place up same within is at = absurd (omega (arith, within))
place_found (m ∷ numbers) [] i n place up same within is at = absurd (omega (arith, same))
place_found (m ∷ numbers) (p ∷ places) zero n place up same within is at =
    ap (λ t. cond t (Some p) (place_in numbers places n)) (eq-eqb n m (sym is)) ∙ ap Some (sym at)
place_found (m ∷ numbers) (p ∷ places) (suc i) n place up same within is at =
    let less = first_below m numbers i up (omega (arith, within)) in
    ap (λ t. cond t (Some p) (place_in numbers places n)) (ne_eqb n m (λ e. omega (arith, less, is, e)))
    ∙ place_found numbers places i n place (ascends_tail m numbers up) (omega (arith, same)) (omega (arith, within)) is at

-- a number that isn't there has no place
pub place_absent : (numbers : List ℕ) (places : List Place) (n : ℕ) → ((i : ℕ) → i < length numbers → get_or numbers i 0 ≢ n) → place_in numbers places n ≡ None
place_absent [] places n other = refl
place_absent (m ∷ numbers) [] n other = refl
place_absent (m ∷ numbers) (p ∷ places) n other =
    ap (λ t. cond t (Some p) (place_in numbers places n)) (ne_eqb n m (λ e. other 0 (omega arith) (sym e)))
    ∙ place_absent numbers places n (λ i within. other (suc i) (omega (arith, within)))

-- one number more, above all others
pub place_more : (numbers : List ℕ) (places : List Place) (m n : ℕ) (p : Place) → length numbers ≡ length places → ((i : ℕ) → i < length numbers → get_or numbers i 0 < m)
    → place_in (numbers ++ m ∷ []) (places ++ p ∷ []) n ≡ cond (eqb n m) (Some p) (place_in numbers places n)
place_more [] [] m n p same below = refl
place_more [] (q ∷ places) m n p same below = absurd (omega (arith, same))
place_more (a ∷ numbers) [] m n p same below = absurd (omega (arith, same))
place_more (a ∷ numbers) (q ∷ places) m n p same below =
    by (below 0 (omega arith)) (place_more numbers places m n p (omega (arith, same)) (λ i within. below (suc i) (omega (arith, within)))) (eqb n a) refl
  where
    by : a < m → place_in (numbers ++ m ∷ []) (places ++ p ∷ []) n ≡ cond (eqb n m) (Some p) (place_in numbers places n) → (t : Bool) → eqb n a ≡ t
        → cond t (Some q) (place_in (numbers ++ m ∷ []) (places ++ p ∷ []) n) ≡ cond (eqb n m) (Some p) (cond t (Some q) (place_in numbers places n))
    by less more true is = sym (ap (λ t. cond t (Some p) (Some q)) (ne_eqb n m (λ e. omega (arith, less, eqb-true n a is, e))))
    by less more false is = more

-- another place for the number at an index
pub place_changed : (numbers : List ℕ) (places : List Place) (i n : ℕ) (q : Place) → Ascends numbers → length numbers ≡ length places → i < length numbers
    → place_in numbers (set places i q) n ≡ cond (eqb n (get_or numbers i 0)) (Some q) (place_in numbers places n)
place_changed [] places i n q up same within = absurd (omega (arith, within))
place_changed (a ∷ numbers) [] i n q up same within = absurd (omega (arith, same))
place_changed (a ∷ numbers) (p ∷ places) zero n q up same within = by (eqb n a)
  where
    by : (t : Bool) → cond t (Some q) (place_in numbers places n) ≡ cond t (Some q) (cond t (Some p) (place_in numbers places n))
    by true = refl
    by false = refl
place_changed (a ∷ numbers) (p ∷ places) (suc i) n q up same within =
    by (first_below a numbers i up (omega (arith, within))) (place_changed numbers places i n q (ascends_tail a numbers up) (omega (arith, same)) (omega (arith, within))) (eqb n a) refl
  where
    by : a < get_or numbers i 0 → place_in numbers (set places i q) n ≡ cond (eqb n (get_or numbers i 0)) (Some q) (place_in numbers places n) → (t : Bool) → eqb n a ≡ t
        → cond t (Some p) (place_in numbers (set places i q) n) ≡ cond (eqb n (get_or numbers i 0)) (Some q) (cond t (Some p) (place_in numbers places n))
    by less others true is = sym (ap (λ t. cond t (Some q) (Some p)) (ne_eqb n (get_or numbers i 0) (λ e. omega (arith, less, eqb-true n a is, e))))
    by less others false is = others

-- a place is one of the list
place_all : (P : Place → Type 0) (numbers : List ℕ) (places : List Place) (n : ℕ) (place : Place) → All P places → place_in numbers places n ≡ Some place → P place
place_all P [] places n place all is = absurd (cc)
place_all P (a ∷ numbers) [] n place all is = absurd (cc)
place_all P (a ∷ numbers) (p ∷ places) n place all is = by (place_all P numbers places n place (λ k d within. all (suc k) d (omega (arith, within)))) (eqb n a) is
  where
    by : (place_in numbers places n ≡ Some place → P place) → (t : Bool) → cond t (Some p) (place_in numbers places n) ≡ Some place → P place
    by others true is = let same : p ≡ place = cc in subst P same (all 0 p (omega arith))
    by others false is = others is

-- literals at the end change no clause before them
range_kept : (xs ys : List Literal) (from to : ℕ) → from ≤ to → to ≤ length xs → slice_range (xs ++ ys) from to ≡ slice_range xs from to
range_kept xs ys from to ordered within =
    ap (take (to - from)) (drop-append-le from xs ys (omega (arith, ordered, within)))
    ∙ take-append-le (to - from) (drop from xs) ys (omega (arith, length-drop from xs, ordered, within))

range_new : (xs ys : List Literal) (from to : ℕ) → from ≡ length xs → to ≡ length xs + length ys → slice_range (xs ++ ys) from to ≡ ys
range_new xs ys from to start end = ap (take (to - from)) (drop_at xs ys from (sym start)) ∙ take_all (to - from) ys (omega (arith, start, end))

clause_kept : (numbers : List ℕ) (places : List Place) (literals more : List Literal) (n : ℕ) → All (IsPlace (length literals)) places
    → clause_in numbers places (literals ++ more) n ≡ clause_in numbers places literals n
clause_kept numbers places literals more n all = by (place_in numbers places n) refl
  where
    by : (o : Option Place) → place_in numbers places n ≡ o → clause_by (literals ++ more) o ≡ clause_by literals o
    by None is = refl
    by (Some place) is =
        let ok = place_all (IsPlace (length literals)) numbers places n place all is in
        ap (λ clause. cond place.is_there (Some clause) None) (range_kept literals more place.start place.end ok.ordered ok.within)

-- a clause more
pub clause_more : (numbers : List ℕ) (places : List Place) (literals clause : List Literal) (m : ℕ) (place : Place) → length numbers ≡ length places → ((i : ℕ) → i < length numbers → get_or numbers i 0 < m)
    → All (IsPlace (length literals)) places → place.start ≡ length literals → place.end ≡ length literals + length clause → place.is_there ≡ true
    → (n : ℕ) → clause_in (numbers ++ m ∷ []) (places ++ place ∷ []) (literals ++ clause) n ≡ cond (eqb n m) (Some clause) (clause_in numbers places literals n)
clause_more numbers places literals clause m place same below all start end there n =
    ap (clause_by (literals ++ clause)) (place_more numbers places m n place same below) ∙ by (eqb n m)
  where
    by : (t : Bool) → clause_by (literals ++ clause) (cond t (Some place) (place_in numbers places n)) ≡ cond t (Some clause) (clause_in numbers places literals n)
    by true = ap₂ (λ (t : Bool) (c : Clause). cond t (Some c) None) there (range_new literals clause place.start place.end start end)
    by false = clause_kept numbers places literals clause n all

-- a clause less
pub clause_less : (numbers : List ℕ) (places : List Place) (literals : List Literal) (i m : ℕ) (place : Place) → Ascends numbers → length numbers ≡ length places → i < length numbers → get_or numbers i 0 ≡ m → place.is_there ≡ false
    → (n : ℕ) → clause_in numbers (set places i place) literals n ≡ cond (eqb n m) None (clause_in numbers places literals n)
clause_less numbers places literals i m place up same within is gone n =
    ap (clause_by literals) (place_changed numbers places i n place up same within ∙ ap (λ k. cond (eqb n k) (Some place) (place_in numbers places n)) is) ∙ by (eqb n m)
  where
    by : (t : Bool) → clause_by literals (cond t (Some place) (place_in numbers places n)) ≡ cond t None (clause_in numbers places literals n)
    by true = ap (λ t. cond t (Some (slice_range literals place.start place.end)) None) gone
    by false = refl

-- the clause of the number at an index
pub clause_found : (numbers : List ℕ) (places : List Place) (literals : List Literal) (i n : ℕ) (place : Place) → Ascends numbers → length numbers ≡ length places → i < length numbers → get_or numbers i 0 ≡ n → place ≡ get_or places i place
    → clause_in numbers places literals n ≡ cond place.is_there (Some (slice_range literals place.start place.end)) None
clause_found numbers places literals i n place up same within is at = ap (clause_by literals) (place_found numbers places i n place up same within is at)

pub clause_absent : (numbers : List ℕ) (places : List Place) (literals : List Literal) (n : ℕ) → ((i : ℕ) → i < length numbers → get_or numbers i 0 ≢ n) → clause_in numbers places literals n ≡ None
clause_absent numbers places literals n other = ap (clause_by literals) (place_absent numbers places n other)

-- the clauses of the first numbers, one number more
clause_taken : (numbers : List ℕ) (places : List Place) (literals : List Literal) (k : ℕ) → Ascends numbers → length numbers ≡ length places → k < length numbers → (n : ℕ)
    → clause_in (take (suc k) numbers) (take (suc k) places) literals n
    ≡ cond (eqb n (get_or numbers k 0)) (clause_in numbers places literals n) (clause_in (take k numbers) (take k places) literals n)
clause_taken [] places literals k up same within n = absurd (omega (arith, within))
clause_taken (a ∷ numbers) [] literals k up same within n = absurd (omega (arith, same))
clause_taken (a ∷ numbers) (p ∷ places) literals zero up same within n = by (eqb n a)
  where
    by : (t : Bool) → clause_by literals (cond t (Some p) (place_in [] [] n)) ≡ cond t (clause_by literals (cond t (Some p) (place_in numbers places n))) None
    by true = refl
    by false = refl
clause_taken (a ∷ numbers) (p ∷ places) literals (suc k) up same within n =
    by (first_below a numbers k up (omega (arith, within))) (clause_taken numbers places literals k (ascends_tail a numbers up) (omega (arith, same)) (omega (arith, within)) n) (eqb n a) refl
  where
    by : a < get_or numbers k 0
        → clause_in (take (suc k) numbers) (take (suc k) places) literals n ≡ cond (eqb n (get_or numbers k 0)) (clause_in numbers places literals n) (clause_in (take k numbers) (take k places) literals n)
        → (t : Bool) → eqb n a ≡ t
        → clause_by literals (cond t (Some p) (place_in (take (suc k) numbers) (take (suc k) places) n))
        ≡ cond (eqb n (get_or numbers k 0)) (clause_by literals (cond t (Some p) (place_in numbers places n))) (clause_by literals (cond t (Some p) (place_in (take k numbers) (take k places) n)))
    by less others true is = sym (ap (λ t. cond t (clause_by literals (Some p)) (clause_by literals (Some p))) (ne_eqb n (get_or numbers k 0) (λ e. omega (arith, less, eqb-true n a is, e))))
    by less others false is = others

-- a clause more at the end of a list
get-push : (clauses : List Clause) (clause : Clause) (k : ℕ) → slice_get (clauses ++ clause ∷ []) k ≡ cond (eqb k (length clauses)) (Some clause) (slice_get clauses k)
get-push [] clause zero = refl
get-push [] clause (suc k) = sym (ap (λ t. cond t (Some clause) None) (ne_eqb (suc k) 0 (λ e. omega (arith, e))))
get-push (c ∷ clauses) clause zero = sym (ap (λ t. cond t (Some clause) (Some c)) (ne_eqb 0 (length (c ∷ clauses)) (λ e. omega (arith, e))))
get-push (c ∷ clauses) clause (suc k) = get-push clauses clause k ∙ ap (λ t. cond t (Some clause) (slice_get clauses k)) (shift (eqb k (length clauses)) refl)
  where
    shift : (t : Bool) → eqb k (length clauses) ≡ t → eqb k (length clauses) ≡ eqb (suc k) (length (c ∷ clauses))
    shift true is = is ∙ sym (eq-eqb (suc k) (length (c ∷ clauses)) (omega (arith, eqb-true k (length clauses) is)))
    shift false is = is ∙ sym (ne_eqb (suc k) (length (c ∷ clauses)) (λ e. eqb-false k (length clauses) is (omega (arith, e))))

numbered-push : (clauses : List Clause) (clause : Clause) (n : ℕ) → cond (eqb n (length clauses + 1)) (Some clause) (numbered clauses n) ≡ numbered (clauses ++ clause ∷ []) n
numbered-push clauses clause zero = ap (λ t. cond t (Some clause) None) (ne_eqb 0 (length clauses + 1) (λ e. omega (arith, e)))
numbered-push clauses clause (suc k) = ap (λ t. cond t (Some clause) (slice_get clauses k)) (shift (eqb k (length clauses)) refl) ∙ sym (get-push clauses clause k)
  where
    shift : (t : Bool) → eqb k (length clauses) ≡ t → eqb (suc k) (length clauses + 1) ≡ eqb k (length clauses)
    shift true is = eq-eqb (suc k) (length clauses + 1) (omega (arith, eqb-true k (length clauses) is)) ∙ sym is
    shift false is = ne_eqb (suc k) (length clauses + 1) (λ e. eqb-false k (length clauses) is (omega (arith, e))) ∙ sym is

or-false : (b : Bool) → (b || false) ≡ b
or-false true = refl
or-false false = refl

-- before the first line, one clause after another was added
pub begin-push : (clauses : List Clause) (clause : Clause) → with_clause (length clauses + 1) clause (begin clauses) ≡ begin (clauses ++ clause ∷ [])
begin-push clauses clause =
    same_progress _ _ _ _ _ _ (numbered-push clauses clause) (sym (length_push clauses clause))
    (sym (list_any-append is_empty clauses (clause ∷ []) ∙ ap (λ t. list_any is_empty clauses || t) (or-false (is_empty clause))))

-- ---- what the database's calls find and leave

module _ (variables last : ℕ) (numbers : List ℕ) (places : List Place) (literals : List Literal) (kept : IsKept variables numbers places literals last) where
  pub clause_missing : (items : List ℕ) (n : ℕ) → items ≡ numbers → ((i : ℕ) → i < length items → get_or items i 0 ≢ n) → clause_in numbers places literals n ≡ None
  clause_missing items n same other = clause_absent numbers places literals n (rw same at other)

  pub clause_at : (items : List ℕ) (i n : ℕ) (place : Place) (t : Bool) → items ≡ numbers → i < length items → get_or items i 0 ≡ n → place ≡ get_or places i place → place.is_there ≡ t
      → clause_in numbers places literals n ≡ cond t (Some (slice_range literals place.start place.end)) None
  clause_at items i n place t same within is at there =
      let here : i < length numbers = subst (λ (xs : List ℕ). i < length xs) same within in
      let number : get_or numbers i 0 ≡ n = sym (ap (λ (xs : List ℕ). get_or xs i 0) same) ∙ is in
      clause_found numbers places literals i n place kept.ascends kept.lengths here number at ∙ ap (λ b. cond b (Some (slice_range literals place.start place.end)) None) there

  -- after a clause was added
  pub clause_added : (numbers' : List ℕ) (places' : List Place) (literals' clause : List Literal) (m : ℕ) (place : Place) → numbers' ≡ numbers ++ m ∷ [] → places' ≡ places ++ place ∷ [] → literals' ≡ literals ++ clause
      → last < m → place.start ≡ length literals → place.end ≡ length literals + length clause → place.is_there ≡ true
      → (n : ℕ) → clause_in numbers' places' literals' n ≡ cond (eqb n m) (Some clause) (clause_in numbers places literals n)
  clause_added numbers' places' literals' clause m place as_numbers as_places as_literals above start end there n =
      ap (λ (xs : List ℕ). clause_in xs places' literals' n) as_numbers ∙ ap₂ (λ (ps : List Place) (ls : List Literal). clause_in (numbers ++ m ∷ []) ps ls n) as_places as_literals
      ∙ clause_more numbers places literals clause m place kept.lengths (λ i within. omega (arith, kept.below i within, above)) kept.each_place start end there n

  -- after one was dropped
  pub clause_dropped : (items : List ℕ) (i m : ℕ) (place : Place) → items ≡ numbers → i < length items → get_or items i 0 ≡ m → place.is_there ≡ false
      → (n : ℕ) → clause_in numbers (set places i place) literals n ≡ cond (eqb n m) None (clause_in numbers places literals n)
  clause_dropped items i m place same within is gone n =
      clause_less numbers places literals i m place kept.ascends kept.lengths (subst (λ (xs : List ℕ). i < length xs) same within) (sym (ap (λ (xs : List ℕ). get_or xs i 0) same) ∙ is) gone n

  -- a number above all others has no clause
  pub clause_above : (n : ℕ) → last < n → clause_in numbers places literals n ≡ None
  clause_above n above = clause_absent numbers places literals n (λ i within e. omega (arith, kept.below i within, above, e))

-- a clause that isn't there any more needs no keeping
pub keeps_gone : (number : ℕ) (all old : Numbered) → all number ≡ None → old number ≡ None → Keeps number all old old
keeps_gone number all old gone none n = by (eqb n number) refl
  where
    by : (t : Bool) → eqb n number ≡ t → old n ≡ cond t (all n) (old n)
    by true is = ap old (eqb-true n number is) ∙ none ∙ sym gone ∙ sym (ap all (eqb-true n number is))
    by false is = refl

-- a clause that is there is added
pub keeps_there : (number : ℕ) (clause : Clause) (all : Numbered) (p q : Progress) → all number ≡ Some clause → q ≡ with_clause number clause p → Keeps number all p.there q.there
keeps_there number clause all p q is added n = ap (λ (r : Progress). r.there n) added ∙ by (eqb n number) refl
  where
    by : (t : Bool) → eqb n number ≡ t → cond t (Some clause) (p.there n) ≡ cond t (all n) (p.there n)
    by true same = sym is ∙ sym (ap all (eqb-true n number same))
    by false same = refl

-- the clauses of the first numbers, where one more was kept
pub kept_more : (numbers : List ℕ) (places : List Place) (literals : List Literal) (k : ℕ) (old new : Numbered) → Ascends numbers → length numbers ≡ length places → k < length numbers
    → Keeps (get_or numbers k 0) (clause_in numbers places literals) old new → ((n : ℕ) → old n ≡ clause_in (take k numbers) (take k places) literals n)
    → (n : ℕ) → new n ≡ clause_in (take (k + 1) numbers) (take (k + 1) places) literals n
kept_more numbers places literals k old new up same within keeps first n =
    keeps n ∙ ap (λ o. cond (eqb n (get_or numbers k 0)) (clause_in numbers places literals n) o) (first n)
    ∙ sym (ap (λ (j : ℕ). clause_in (take j numbers) (take j places) literals n) (let next : k + 1 ≡ suc k = omega arith in next) ∙ clause_taken numbers places literals k up same within n)

-- all were kept
pub kept_all : (numbers : List ℕ) (places : List Place) (literals : List Literal) (k : ℕ) (new : Numbered) → length numbers ≡ length places → length numbers ≤ k
    → ((n : ℕ) → new n ≡ clause_in (take k numbers) (take k places) literals n) → (n : ℕ) → new n ≡ clause_in numbers places literals n
kept_all numbers places literals k new same end first n =
    first n ∙ ap₂ (λ (xs : List ℕ) (ps : List Place). clause_in xs ps literals n) (take_all k numbers end) (take_all k places (omega (arith, same, end)))

-- one clause of a formula more
pub begun_more : (front : List Clause) (clause : Clause) (p q : Progress) → p ≡ begin front → q ≡ with_clause (p.last + 1) clause p → q ≡ begin (front ++ clause ∷ [])
begun_more front clause p q begun added = added ∙ ap (λ (r : Progress). with_clause (r.last + 1) clause r) begun ∙ begin-push front clause

pub all_left : (P : Literal → Type 0) (xs ys : List Literal) → All P (xs ++ ys) → All P xs
all_left P xs ys all = λ k d within. subst P (get_or_append_left xs ys d k within) (all k d (omega (arith, length-append xs ys, within)))

pub all_right : (P : Literal → Type 0) (xs ys : List Literal) → All P (xs ++ ys) → All P ys
all_right P [] ys all = all
all_right P (x ∷ xs) ys all = all_right P xs ys (λ k d within. all (suc k) d (omega (arith, within)))

-- no clause is there at first
pub numbered-nil : (n : ℕ) → numbered [] n ≡ None
numbered-nil zero = refl
numbered-nil (suc k) = refl

-- what was added is kept
pub keeps_ok : (r : Result (Unit {0}) NoMemory) (number m : ℕ) (clause copy : Clause) (all : Numbered) (p q : Progress) → m ≡ number → all number ≡ Some clause → copy ≡ clause → OnOk r (q ≡ with_clause m copy p)
    → OnOk r (Keeps number all p.there q.there)
keeps_ok (Ok done) number m clause copy all p q same is copied added =
    keeps_there number clause all p q is (added ∙ ap₂ (λ (n : ℕ) (c : Clause). with_clause n c p) same copied)
keeps_ok (Err e) number m clause copy all p q same is copied added = added
