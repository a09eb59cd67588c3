-- A worker's entries in histories.
use Rattle.std.proofs.Common.{◌≡◌, ℕ, ◌≤◌, ◌≢◌, Bool, true, false, cond, eqb, eq-eqb, ne_eqb, List, [], ◌∷◌, ◌++◌, length, sym, refl, ap, ◌∙◌, arith, append_assoc, append-nil, length-append}
use Rattle.std.proofs.lemmas.List.{append_cancel_left}
use Rattle.attempt_log.specs.declared.entry.Entry.{Entry}
use Rattle.board_lock.specs.Histories.{StartsWith, by}
use Rattle.attempt_log.specs.Entries.{worker_of}

pick-append : (b : Bool) (e : Entry) (xs ys zs : List Entry) → zs ≡ xs ++ ys → cond b (e ∷ zs) zs ≡ cond b (e ∷ xs) xs ++ ys
pick-append true e xs ys zs h = ap (λ (l : List Entry). e ∷ l) h
pick-append false e xs ys zs h = h

pub by-append : (n : ℕ) (xs ys : List Entry) → by n (xs ++ ys) ≡ by n xs ++ by n ys
by-append n [] ys = refl
by-append n (x ∷ xs) ys = pick-append (eqb (worker_of x) n) x (by n xs) (by n ys) (by n (xs ++ ys)) (by-append n xs ys)

pub by_one : (n : ℕ) (e : Entry) → (worker_of e) ≡ n → by n (e ∷ []) ≡ e ∷ []
by_one n e is = ap (λ b. cond b (e ∷ []) []) (eq-eqb (worker_of e) n is)

by_none : (n : ℕ) (e : Entry) → (worker_of e) ≢ n → by n (e ∷ []) ≡ []
by_none n e is = ap (λ b. cond b (e ∷ []) []) (ne_eqb (worker_of e) n is)

pub by_same : (n : ℕ) (log : List Entry) (e : Entry) → (worker_of e) ≡ n → by n (log ++ e ∷ []) ≡ by n log ++ e ∷ []
by_same n log e is = by-append n log (e ∷ []) ∙ ap (λ (l : List Entry). by n log ++ l) (by_one n e is)

pub by_other : (n : ℕ) (log : List Entry) (e : Entry) → (worker_of e) ≢ n → by n (log ++ e ∷ []) ≡ by n log
by_other n log e is = by-append n log (e ∷ []) ∙ (ap (λ (l : List Entry). by n log ++ l) (by_none n e is) ∙ append-nil (by n log))

pub starts_later : (log seen more : List Entry) → StartsWith log seen → StartsWith (log ++ more) seen
starts_later log seen more s = (s.0 ++ more, ap (λ (l : List Entry). l ++ more) s.1 ∙ append_assoc seen s.0 more)

pub starts_through : (a b c : List Entry) → StartsWith a b → StartsWith b c → StartsWith a c
starts_through a b c s t = (t.0 ++ s.0, s.1 ∙ (ap (λ (l : List Entry). l ++ s.0) t.1 ∙ append_assoc c t.0 s.0))

-- of two beginnings of a history the shorter begins the longer
pub begins : (log a b : List Entry) → StartsWith log a → StartsWith log b → length a ≤ length b → StartsWith b a
begins log [] b s t le = (b, refl)
begins log (x ∷ a) [] s t le = absurd (omega (arith, le))
begins [] (x ∷ a) (y ∷ b) s t le = absurd (omega (arith, ap length s.1))
begins (z ∷ log) (x ∷ a) (y ∷ b) s t le =
    let r = begins log a b (s.0, ap tail s.1) (t.0, ap tail t.1) (omega (arith, le)) in
    (r.0, λ i. ((sym (ap (first z) t.1) ∙ ap (first z) s.1) i) ∷ (r.1 i))
  where
    tail : List Entry → List Entry
    tail [] = []
    tail (u ∷ us) = us

    first : Entry → List Entry → Entry
    first d [] = d
    first d (u ∷ us) = u

pub nil_right : (a b : List Entry) → a ++ b ≡ a → b ≡ []
nil_right a b e = append_cancel_left a b [] (e ∙ sym (append-nil a))

nil_left : (a b : List Entry) → a ++ b ≡ [] → a ≡ []
nil_left [] b e = refl
nil_left (x ∷ a) b e = absurd (omega (arith, ap length e))

nil_last : (a b : List Entry) → a ++ b ≡ [] → b ≡ []
nil_last [] b e = e
nil_last (x ∷ a) b e = absurd (omega (arith, ap length e))

-- who has seen all entries of a number has seen them all once it has seen more
pub seen_more : (n : ℕ) (log a b : List Entry) → StartsWith log b → StartsWith b a → by n a ≡ by n log → by n b ≡ by n log
seen_more n log a b s t is =
    let whole : by n log ≡ by n a ++ (by n t.0 ++ by n s.0) =
    ap (by n) s.1 ∙ (by-append n b s.0 ∙ (ap (λ (l : List Entry). l ++ by n s.0) (ap (by n) t.1 ∙ by-append n a t.0) ∙ append_assoc (by n a) (by n t.0) (by n s.0))) in
    let none = nil_right (by n a) (by n t.0 ++ by n s.0) (sym whole ∙ sym is) in
    ap (by n) t.1 ∙ (by-append n a t.0 ∙ (ap (λ (l : List Entry). by n a ++ l) (nil_left (by n t.0) (by n s.0) none) ∙ (append-nil (by n a) ∙ is)))

none_of_none : (rest : List Entry) → ((n : ℕ) → by n rest ≡ []) → rest ≡ []
none_of_none [] h = refl
none_of_none (e ∷ es) h = absurd (omega (arith, ap length (sym (by-append (worker_of e) (e ∷ []) es) ∙ h (worker_of e)), ap length (by_one (worker_of e) e refl), length-append (by (worker_of e) (e ∷ [])) (by (worker_of e) es)))

-- who has seen all entries of every number has seen the whole history
pub whole : (log seen : List Entry) → StartsWith log seen → ((n : ℕ) → by n seen ≡ by n log) → seen ≡ log
whole log seen s all =
    let none = none_of_none s.0 (λ n. nil_right (by n seen) (by n s.0) (sym (by-append n seen s.0) ∙ (sym (ap (by n) s.1) ∙ sym (all n)))) in
    sym (s.1 ∙ (ap (λ (l : List Entry). seen ++ l) none ∙ append-nil seen))
