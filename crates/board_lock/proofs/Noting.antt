-- What the seats noted of a history is the whole of it.
use Rattle.std.proofs.Common.{◌≡◌, ℕ, zero, suc, ◌+◌, ◌-◌, ◌*◌, ◌%◌, ◌^◌, ◌<◌, ◌≤◌, ◌≢◌, Bool, true, false, cond, eqb, eq-eqb, ne_eqb, List, [], ◌∷◌, ◌++◌, map, length, sym, refl, ap, ◌∙◌, subst, arith, Option, Some, None, append_assoc, append-nil, length-append}
use Rattle.std.specs.List.{AllByRecursion}
use Rattle.std.specs.Prelude.{slice_get, slice_index_or}
use Rattle.std.proofs.lemmas.List.{append_cancel_right, map-append}
use mathlib.Core.Logic.{dite}
use native.Mathlib.Decide.{ℕ_discrete, dec_le}
use Rattle.attempt_log.specs.Entries.{worker_of}
use Rattle.attempt_log.specs.declared.entry.Entry.{Entry}
use Rattle.board_lock.specs.declared.notes.Note.{Note}
use Rattle.board_lock.specs.inner.Notes.{noted, AreNotes}
use Rattle.board_core.specs.Board.{Opening}
use Rattle.board_lock.specs.Histories.{Each, InRun, StartsWith, by}
use mathlib.Core.Option.{some, some-injective}
use lib.ListN.{get_elem?}
use Rattle.attempt_log.specs.declared.report.Report.{Report}
use Rattle.board_lock.specs.declared.view.Done.{Done}
use Rattle.board_lock.specs.Plays.{Mine, Extends, KnowsAll, Stands, done_of}
use Rattle.board_lock.specs.Work.{Told}
use Rattle.board_lock.specs.inner.Receipts.{wrapped, receipts, HasNoted, Noting}
use Rattle.board_lock.specs.declared.view.View.{View}
use Rattle.board_lock.specs.declared.view.Part.{Part}
use Rattle.board_lock.proofs.Ranges.{all_of, by_all, each_of, every-map, every_by}
use Rattle.board_lock.proofs.Own.{by-append, by_same, by_one, nil_right}

pick-append : (b : Bool) (x : Note) (xs ys zs : List Note) → zs ≡ xs ++ ys → cond b (x ∷ zs) zs ≡ cond b (x ∷ xs) xs ++ ys
pick-append true x xs ys zs h = ap (λ (l : List Note). x ∷ l) h
pick-append false x xs ys zs h = h

noted-append : (n p : ℕ) (xs ys : List Entry) → noted n p (xs ++ ys) ≡ noted n p xs ++ noted n (p + length xs) ys
noted-append n p [] ys = ap (λ (q : ℕ). noted n q ys) (omega arith)
noted-append n p (x ∷ xs) ys = pick-append (eqb (worker_of x) n) (record { place = p; entry = x }) (noted n (p + 1) xs) (noted n (p + length (x ∷ xs)) ys) (noted n (p + 1) (xs ++ ys))
    (noted-append n (p + 1) xs ys ∙ ap (λ (q : ℕ). noted n (p + 1) xs ++ noted n q ys) (omega arith))

by_cons : (n : ℕ) (x : Entry) (xs : List Entry) → by n (x ∷ xs) ≡ [] → ((worker_of x) ≢ n) × (by n xs ≡ [])
by_cons n x xs e =
    let both : by n (x ∷ []) ++ by n xs ≡ [] = sym (by-append n (x ∷ []) xs) ∙ e in
    ((λ is. absurd (omega (arith, ap length both, length-append (by n (x ∷ [])) (by n xs), ap length (by_one n x is)))), nil (by n (x ∷ [])) (by n xs) both)
  where
    nil : (a b : List Entry) → a ++ b ≡ [] → b ≡ []
    nil [] b h = h
    nil (y ∷ a) b h = absurd (omega (arith, ap length h))

noted_nil : (n p : ℕ) (h : List Entry) → by n h ≡ [] → noted n p h ≡ []
noted_nil n p [] e = refl
noted_nil n p (x ∷ xs) e =
    let t = by_cons n x xs e in
    ap (λ b. cond b (record { place = p; entry = x } ∷ noted n (p + 1) xs) (noted n (p + 1) xs)) (ne_eqb (worker_of x) n t.0) ∙ noted_nil n (p + 1) xs t.1

noted_same : (n p : ℕ) (h seen : List Entry) → StartsWith h seen → by n h ≡ by n seen → noted n p h ≡ noted n p seen
noted_same n p h seen s is =
    let none = nil_right (by n seen) (by n s.0) (sym (by-append n seen s.0) ∙ (ap (by n) (sym s.1) ∙ is)) in
    ap (noted n p) s.1 ∙ (noted-append n p seen s.0 ∙ (ap (λ (l : List Note). noted n p seen ++ l) (noted_nil n (p + length seen) s.0 none) ∙ append-nil (noted n p seen)))

pick-map : (b : Bool) (x : Note) (xs : List Note) → wrapped x ≡ x → map wrapped xs ≡ xs → map wrapped (cond b (x ∷ xs) xs) ≡ cond b (x ∷ xs) xs
pick-map true x xs h t = λ i. h i ∷ t i
pick-map false x xs h t = t

plain : (n p : ℕ) (h : List Entry) → p + length h ≤ 2 ^ 64 → map wrapped (noted n p h) ≡ noted n p h
plain n p [] l = refl
plain n p (x ∷ xs) l = pick-map (eqb (worker_of x) n) (record { place = p; entry = x }) (noted n (p + 1) xs) (let small : p % 2 ^ 64 ≡ p = omega (arith, l) in λ i. record { place = small i; entry = x }) (plain n (p + 1) xs (omega (arith, l)))

-- a seat's notes are those of its number in what it has seen, and stay so
pub note_more : (old new : View) (e : Entry) → Mine old.part old.seen → Extends old e new → (worker_of e) ≡ old.part.worker
    → receipts old.part.worker new.seen ≡ receipts old.part.worker old.seen ++ record { place = (length new.seen - 1) % 2 ^ 64; entry = e } ∷ []
note_more old new e mine x of =
    let n : ℕ = old.part.worker in
    let before : List Entry = old.seen ++ x.0 in
    let whole : by n new.seen ≡ (by n old.part.base ++ old.part.own) ++ e ∷ [] = subst (λ (p : Part). by p.worker new.seen ≡ by p.worker p.base ++ p.own) x.3 x.5 ∙ sym (append_assoc (by n old.part.base) old.part.own (e ∷ [])) in
    let cut : by n before ++ e ∷ [] ≡ by n old.seen ++ e ∷ [] = sym (by_same n before e of) ∙ (ap (by n) (sym x.1) ∙ (whole ∙ ap (λ (l : List Entry). l ++ e ∷ []) (sym mine))) in
    let same : by n before ≡ by n old.seen = append_cancel_right (by n before) (by n old.seen) (e ∷ []) cut in
    let first : noted n 0 before ≡ noted n 0 old.seen = noted_same n 0 before old.seen (x.0, refl) same in
    let last : noted n (0 + length before) (e ∷ []) ≡ record { place = 0 + length before; entry = e } ∷ [] = ap (λ b. cond b (record { place = 0 + length before; entry = e } ∷ []) []) (eq-eqb (worker_of e) n of) in
    let at : (0 + length before) % 2 ^ 64 ≡ (length new.seen - 1) % 2 ^ 64 = ap (λ (k : ℕ). k % 2 ^ 64) (omega (arith, ap length x.1, length-append before (e ∷ []))) in
    ap (λ (l : List Entry). map wrapped (noted n 0 l)) x.1
    ∙ (ap (map wrapped) (noted-append n 0 before (e ∷ [])) ∙ (map-append wrapped (noted n 0 before) (noted n (0 + length before) (e ∷ []))
    ∙ (λ i. map wrapped (first i) ++ map wrapped (last i)) ∙ (λ i. receipts n old.seen ++ record { place = at i; entry = e } ∷ [])))

-- they stay so where more was seen and no entry made
pub notes_kept : (old new : View) → StartsWith new.seen old.seen → new.part ≡ old.part → Mine old.part old.seen → Mine new.part new.seen → receipts old.part.worker new.seen ≡ receipts old.part.worker old.seen
notes_kept old new s same mine after =
    let n : ℕ = old.part.worker in
    let whole : by n new.seen ≡ by n old.part.base ++ old.part.own = subst (λ (p : Part). Mine p new.seen) same after in
    ap (map wrapped) (noted_same n 0 new.seen old.seen s (whole ∙ sym mine))

has : (h : List Entry) (i : ℕ) (e : Entry) → slice_get h i ≡ Some e → by (worker_of e) h ≢ []
has [] i e there none = omega (arith, ap is there)
  where
    is : Option Entry → ℕ
    is None = 0
    is (Some x) = 1
has (x ∷ xs) zero e there none = (by_cons (worker_of e) x xs none).0 (ap inside there)
  where
    inside : Option Entry → ℕ
    inside None = 0
    inside (Some y) = (worker_of y)
has (x ∷ xs) (suc i) e there none = has xs i e there (by_cons (worker_of e) x xs none).1

-- how many entries the numbers below k have
tally : ℕ → List Entry → ℕ
tally zero h = 0
tally (suc k) h = length (by k h) + tally k h

by_less : (n : ℕ) (x : Entry) (xs : List Entry) → length (by n xs) ≤ length (by n (x ∷ xs))
by_less n x xs = omega (arith, ap length (by-append n (x ∷ []) xs), length-append (by n (x ∷ [])) (by n xs))

by_more : (n : ℕ) (x : Entry) (xs : List Entry) → (worker_of x) ≡ n → 1 + length (by n xs) ≤ length (by n (x ∷ xs))
by_more n x xs is = omega (arith, ap length (by-append n (x ∷ []) xs), length-append (by n (x ∷ [])) (by n xs), ap length (by_one n x is))

tally_less : (k : ℕ) (x : Entry) (xs : List Entry) → tally k xs ≤ tally k (x ∷ xs)
unfolding tally
tally_less zero x xs = omega arith
tally_less (suc k) x xs = omega (arith, by_less k x xs, tally_less k x xs)

tally_more : (k : ℕ) (x : Entry) (xs : List Entry) → (worker_of x) < k → 1 + tally k xs ≤ tally k (x ∷ xs)
unfolding tally
tally_more zero x xs l = absurd (omega (arith, l))
tally_more (suc k) x xs l = dite (ℕ_discrete (worker_of x) k)
    (λ is. omega (arith, by_more k x xs is, tally_less k x xs))
    (λ ne. omega (arith, by_less k x xs, tally_more k x xs (omega (arith, l, ne))))

tally_all : (k : ℕ) (h : List Entry) → ((i : ℕ) (e : Entry) → slice_get h i ≡ Some e → (worker_of e) < k) → length h ≤ tally k h
tally_all k [] below = omega arith
tally_all k (x ∷ xs) below = omega (arith, tally_more k x xs (below 0 x refl), tally_all k xs (λ i e there. below (suc i) e there))

tally_few : (k : ℕ) (h : List Entry) → ((i : ℕ) → i < k → length (by i h) ≤ 2 ^ 57) → tally k h ≤ k * 2 ^ 57
unfolding tally
tally_few zero h few = omega arith
tally_few (suc k) h few = omega (arith, few k (omega arith), tally_few k h (λ i l. few i (omega (arith, l))))

pub are_notes : (count : ℕ) (h : List Entry) (lists : List (List Note)) → length lists ≡ count → count ≤ 64 → ((n : ℕ) → count ≤ n → by n h ≡ []) → ((i : ℕ) → i < count → HasNoted h i (slice_index_or lists i []))
    → AreNotes 0 h lists × (length h < 2 ^ 64 - 1)
are_notes count h lists long few none each =
    let below : (i : ℕ) (e : Entry) → slice_get h i ≡ Some e → (worker_of e) < count = λ i e there. dite (dec_le count (worker_of e)) (λ le. absurd (has h i e there (none (worker_of e) le))) (λ nle. omega (arith, nle)) in
    let small : length h < 2 ^ 64 - 1 = omega (arith, few, tally_all count h below, tally_few count h (λ i l. (each i l).4)) in (
      record {
        each = λ i within. let t = each i (omega (arith, within, long)) in t.3 ∙ (ap (map wrapped) (sym (noted_same i 0 h t.0 t.1 t.2)) ∙ plain i 0 h (omega (arith, small)));
        below = λ i e there. let b = below i e there in omega (arith, b, long);
      },
      small,
    )

noted_long : (n p : ℕ) (h : List Entry) → length (map wrapped (noted n p h)) ≡ length (by n h)
noted_long n p [] = refl
noted_long n p (x ∷ xs) = pick (eqb (worker_of x) n) (record { place = p; entry = x }) x (noted n (p + 1) xs) (by n xs) (noted_long n (p + 1) xs)
  where
    pick : (b : Bool) (y : Note) (e : Entry) (ys : List Note) (es : List Entry) → length (map wrapped ys) ≡ length es → length (map wrapped (cond b (y ∷ ys) ys)) ≡ length (cond b (e ∷ es) es)
    pick true y e ys es h = ap suc h
    pick false y e ys es h = h

at_noting : (o : Opening) (n i : ℕ) (ls : List (List Note)) (ds : List Done) → Noting o n ls ds → i < length ls
    → (d : Done) × (get_elem? ds i ≡ some d) × (slice_index_or ls i [] ≡ receipts (n + i) d.seen) × (d.worker ≡ n + i) × (by (n + i) d.seen ≡ by (n + i) d.base ++ d.own) × Each (InRun o) d.own
at_noting o n i [] ds m l = absurd (omega (arith, l))
at_noting o n i (x ∷ ls) [] m l = absurd m
at_noting o n zero (x ∷ ls) (d ∷ ds) m l =
    let z : n ≡ n + 0 = omega arith in
    (d, refl, m.0 ∙ ap (λ (k : ℕ). receipts k d.seen) z, m.1 ∙ z, subst (λ (k : ℕ). by k d.seen ≡ by k d.base ++ d.own) z m.2, m.3)
at_noting o n (suc i) (x ∷ ls) (d ∷ ds) m l =
    let h = at_noting o (n + 1) i ls ds m.4 (omega (arith, l)) in
    let z : (n + 1) + i ≡ n + suc i = omega arith in
    (h.0, h.1, h.2 ∙ ap (λ (k : ℕ). receipts k h.0.seen) z, h.3 ∙ z, subst (λ (k : ℕ). by k h.0.seen ≡ by k h.0.base ++ h.0.own) z h.4, h.5)

at_list : (rs : List Report) (i : ℕ) → i < length rs → (r : Report) × (get_elem? rs i ≡ some r)
at_list [] i l = absurd (omega (arith, l))
at_list (x ∷ rs) zero l = (x, refl)
at_list (x ∷ rs) (suc i) l = at_list rs i (omega (arith, l))

-- what was noted is the whole history that the board's own seat has seen, and each entry is for a cycle that the board
-- runs
pub journaled : (o : Opening) (turns count : ℕ) (v w : View) (reports : List Report) (lists : List (List Note)) → v.seen ≡ [] → KnowsAll w → Told turns count v w reports → length lists ≡ count → length reports ≡ count → turns ≤ 2 ^ 56 → count ≤ 64 → Noting o 0 lists w.part.dones
    → AreNotes 0 w.seen lists × (length w.seen < 2 ^ 64 - 1) × Each (InRun o) w.seen
journaled o turns count v w reports lists empty s told long reported turns-few few noting =
    let all : w.seen ≡ told.added = told.seen ∙ ap (λ (l : List Entry). l ++ told.added) empty in
    let notes = are_notes count w.seen lists long few (λ n above. ap (by n) all ∙ told.others n above) (λ i within.
    let within' : i < length reports = omega (arith, within, reported) in
    let t = at_noting o 0 i lists w.part.dones noting (omega (arith, within, long)) in
    let d : Done = t.0 in
    let stands : Stands w.seen d = s.dones i d t.1 in
    let z : 0 + i ≡ i = omega arith in
    let number : d.worker ≡ i = t.3 ∙ z in
    let whole : by i w.seen ≡ by i d.base ++ d.own = subst (λ (k : ℕ). by k w.seen ≡ by k d.base ++ d.own) number stands.2 in
    let mine : by i d.seen ≡ by i d.base ++ d.own = subst (λ (k : ℕ). by k d.seen ≡ by k d.base ++ d.own) z t.4 in
    let notes : slice_index_or lists i [] ≡ receipts i d.seen = t.2 ∙ ap (λ (k : ℕ). receipts k d.seen) z in
    (d.seen, stands.0, whole ∙ sym mine, notes, (let r = at_list reports i within' in let small = (told.each i r.0 r.1).few in omega (arith, small, turns-few, ap (λ (l : List Entry). length (by i l)) all)))) in (
      notes.0,
      notes.1,
      each_of (InRun o) w.seen (every_by (InRun o) w.seen (λ n. dite (dec_le count n)
          (λ above. subst (λ (l : List Entry). AllByRecursion (InRun o) l) (sym (ap (by n) all ∙ told.others n above)) tt)
          (λ nle. let below : n < count = omega (arith, nle) in
          let t = at_noting o 0 n lists w.part.dones noting (omega (arith, below, long)) in
          let r = at_list reports n (omega (arith, below, reported)) in
          let done = (told.each n r.0 r.1).done in
          let same : t.0 ≡ done.0 = some-injective t.0 done.0 (sym t.1 ∙ done.1) in
          subst (λ (l : List Entry). AllByRecursion (InRun o) l) (ap (λ (d : Done). d.own) same ∙ (done.2 ∙ sym (ap (by n) all))) (all_of (InRun o) t.0.own t.5)))),
    )

-- the workers of all entries are those that were told
pub told_below : (turns count : ℕ) (v w : View) (reports : List Report) → v.seen ≡ [] → Told turns count v w reports → Each (λ (e : Entry). worker_of e < count) w.seen
told_below turns count v w reports empty told =
    let all : w.seen ≡ told.added = told.seen ∙ ap (λ (l : List Entry). l ++ told.added) empty in
    let P : Entry → Type 0 = λ e. worker_of e < count in
    each_of P w.seen (every_by P w.seen (λ n. dite (dec_le count n)
    (λ above. subst (λ (l : List Entry). AllByRecursion P l) (sym (ap (by n) all ∙ told.others n above)) tt)
    (λ nle. every-map (λ (e : Entry). worker_of e ≡ n) P (by n w.seen) (λ e is. omega (arith, nle, is)) (by_all n w.seen))))

pub noting_more : (o : Opening) (k : ℕ) (ls : List (List Note)) (ds : List Done) (l : List Note) (y : View) → Noting o (k + 1) ls ds → l ≡ receipts k y.seen → y.part.worker ≡ k → Mine y.part y.seen → Each (InRun o) y.part.own → Noting o k (l ∷ ls) (done_of y ∷ ds)
noting_more o k ls ds l y m is number mine in_run = (is, number, subst (λ (n : ℕ). by n y.seen ≡ by n y.part.base ++ y.part.own) number mine, in_run, m)
