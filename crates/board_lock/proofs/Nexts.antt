-- The next entry of a history is at the head of its worker's notes, and of no other's.
use Rattle.std.proofs.Common.{◌≡◌, ℕ, suc, ◌+◌, ◌<◌, ◌≢◌, true, false, true≢false, cond, eq-eqb, ne_eqb, List, [], ◌∷◌, length, set, sym, refl, ap, ◌∙◌, subst, arith, Some, get_or, length-set, get_or-set_same, get_or-set_other}
use Rattle.std.specs.Prelude.{slice_index_or}
use mathlib.Core.Logic.{dite}
use native.Mathlib.Decide.{ℕ_discrete}
use Rattle.attempt_log.specs.Entries.{worker_of}
use Rattle.attempt_log.specs.declared.entry.Entry.{Entry}
use Rattle.board_lock.specs.declared.notes.Note.{Note}
use Rattle.board_lock.specs.inner.Notes.{noted, heads, AreNotes, IsNext}

mine : (n place : ℕ) (e : Entry) (es : List Entry) → worker_of e ≡ n → noted n place (e ∷ es) ≡ record { place = place; entry = e } ∷ noted n (place + 1) es
mine n place e es is = ap (λ b. cond b (record { place = place; entry = e } ∷ noted n (place + 1) es) (noted n (place + 1) es)) (eq-eqb (worker_of e) n is)

other : (n place : ℕ) (e : Entry) (es : List Entry) → worker_of e ≢ n → noted n place (e ∷ es) ≡ noted n (place + 1) es
other n place e es is = ap (λ b. cond b (record { place = place; entry = e } ∷ noted n (place + 1) es) (noted n (place + 1) es)) (ne_eqb (worker_of e) n is)

-- notes from a later place don't begin with an earlier one
later : (n p place : ℕ) (h : List Entry) → p < place → heads p (noted n place h) ≡ false
later n p place [] l = refl
later n p place (e ∷ es) l = dite (ℕ_discrete (worker_of e) n)
    (λ is. ap (heads p) (mine n place e es is) ∙ ne_eqb place p (λ same. omega (arith, l, same)))
    (λ ne. ap (heads p) (other n place e es ne) ∙ later n p (place + 1) es (omega (arith, l)))

pub none_left : (place : ℕ) (h : List Entry) (lists : List (List Note)) → AreNotes place h lists → ((i : ℕ) → i < length lists → heads place (slice_index_or lists i []) ≡ false) → h ≡ []
none_left place [] lists a none = refl
none_left place (e ∷ es) lists a none =
    let w : ℕ = worker_of e in
    let within : w < length lists = a.below 0 e refl in
    absurd (true≢false (sym (ap (heads place) (mine w place e es refl) ∙ eq-eqb place place refl) ∙ (ap (heads place) (sym (a.each w within)) ∙ none w within)))

pub one_taken : (place : ℕ) (h : List Entry) (lists : List (List Note)) (i : ℕ) (n : Note) (ns : List Note) → AreNotes place h lists → i < length lists → heads place (slice_index_or lists i []) ≡ true → slice_index_or lists i [] ≡ n ∷ ns
    → IsNext place h (Some n.entry) (set lists i ns)
one_taken place [] lists i n ns a within begins is = absurd (true≢false (sym begins ∙ ap (heads place) (a.each i within)))
one_taken place (e ∷ es) lists i n ns a within begins is = dite (ℕ_discrete (worker_of e) i)
    (λ own.
    let both : n ∷ ns ≡ record { place = place; entry = e } ∷ noted i (place + 1) es = sym is ∙ (a.each i within ∙ mine i place e es own) in (
      es,
      (λ k. entry_of e (sym both k) ∷ es),
      record {
        each = λ j in_set. dite (ℕ_discrete j i)
            (λ here. subst (λ (x : ℕ). get_or (set lists i ns) x [] ≡ noted x (place + 1) es) (sym here) (get_or-set_same lists i ns [] within ∙ ap rest_of both))
            (λ apart. get_or-set_other lists i j ns [] apart ∙ (a.each j (omega (arith, in_set, length-set lists i ns)) ∙ other j place e es (λ same. apart (sym same ∙ own))));
        below = λ j x there. let b = a.below (suc j) x there in omega (arith, b, length-set lists i ns);
      },
    ))
    (λ ne. absurd (true≢false (sym begins ∙ (ap (heads place) (a.each i within ∙ other i place e es ne) ∙ later i place (place + 1) es (omega arith)))))
  where
    entry_of : Entry → List Note → Entry
    entry_of d [] = d
    entry_of d (x ∷ xs) = x.entry

    rest_of : List Note → List Note
    rest_of [] = []
    rest_of (x ∷ xs) = xs
