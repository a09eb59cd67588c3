-- Parts from left to right, with one part more.
use Rattle.std.proofs.Common.{◌≡◌, ℕ, suc, ◌+◌, ◌<◌, ◌≤◌, List, [], ◌∷◌, ◌++◌, length, map, take, drop, get_or, append_assoc, append-nil, refl, ap, ap₂, sym, ◌∙◌, arith}
use Rattle.std.proofs.lemmas.List.{drop_all, drop_more, take_all}
use Rattle.typed_core.specs.declared.access.Access.{Access}
use Rattle.koika_check.proofs.Runs.{taken}
use Rattle.lab_lint.specs.Occurrences.{Part, choice, in_order, in_turn, nothing}
use Rattle.lab_lint.specs.inner.Meetings as meetings
use Rattle.lab_lint.specs.inner.Meetings.{meeting_of}
use Rattle.lab_lint.specs.declared.meeting.Meeting.{Meeting}
use Rattle.lab_lint.specs.declared.occurrence.Occurrence.{Occurrence}
use Rattle.lab_lint.proofs.Meets.{meets-in_order}

turn-push : (parts : List Part) (p : Part) → (in_turn (parts ++ p ∷ [])).all ≡ (in_turn parts).all ++ p.all
turn-push [] p = append-nil p.all
turn-push (q ∷ parts) p = ap (λ os. q.all ++ os) (turn-push parts p) ∙ sym (append_assoc q.all (in_turn parts).all p.all)

-- the occurrences of one part more
pub turn-more : {X : Type 0} (f : X → Part) (xs : List X) (i : ℕ) (x : X) (text before after : List Occurrence) → i < length xs → x ≡ get_or xs i x
    → before ≡ text ++ (in_turn (map f (take i xs))).all → after ≡ before ++ (f x).all → after ≡ text ++ (in_turn (map f (take (i + 1) xs))).all
turn-more f xs i x text before after inside is was pushed =
    let next : i + 1 ≡ suc i = omega arith in
    let more = ap (λ k. (in_turn (map f (take k xs))).all) next ∙ ap (λ ps. (in_turn ps).all) (taken f xs i x inside) ∙ turn-push (map f (take i xs)) (f (get_or xs i x)) ∙ ap (λ y. (in_turn (map f (take i xs))).all ++ (f y).all) (sym is) in
    pushed ∙ ap (λ os. os ++ (f x).all) was ∙ append_assoc text (in_turn (map f (take i xs))).all (f x).all ∙ ap (λ os. text ++ os) (sym more)

pub turn-whole : {X : Type 0} (f : X → Part) (xs : List X) (i : ℕ) (text after : List Occurrence) → length xs ≤ i → after ≡ text ++ (in_turn (map f (take i xs))).all → after ≡ text ++ (in_turn (map f xs)).all
turn-whole f xs i text after all was = was ∙ ap (λ ys. text ++ (in_turn (map f ys)).all) (take_all i xs all)

-- what one part more has to do with an access, before those after it
pub meet-more : {X : Type 0} (f : X → Part) (a : Access) (xs : List X) (i : ℕ) (x : X) (one later : Meeting) → i < length xs → x ≡ get_or xs i x
    → one ≡ meeting_of a (f x) → later ≡ meeting_of a (in_turn (map f (drop (i + 1) xs))) → meetings.in_order one later ≡ meeting_of a (in_turn (map f (drop i xs)))
meet-more f a xs i x one later inside is here behind =
    ap₂ meetings.in_order here behind ∙ meets-in_order a (f x) (in_turn (map f (drop (i + 1) xs)))
    ∙ ap (λ y. meeting_of a (in_order (f y) (in_turn (map f (drop (i + 1) xs))))) is ∙ ap (λ ys. meeting_of a (in_turn (map f ys))) (sym (drop_more xs i x inside))

pub meet-none : {X : Type 0} (f : X → Part) (a : Access) (xs : List X) (i : ℕ) → length xs ≤ i → meetings.none ≡ meeting_of a (in_turn (map f (drop i xs)))
meet-none f a xs i all = ap (λ ys. meeting_of a (in_turn (map f ys))) (sym (drop_all i xs all))

-- without bodies nothing is chosen
pub choice-none : {X : Type 0} (f : X → Part) (conditions bodies : List X) → length bodies ≡ 0 → choice (map f conditions) (map f bodies) ≡ nothing
choice-none f [] [] e = refl
choice-none f (c ∷ conditions) [] e = refl
choice-none f conditions (b ∷ bodies) e = absurd (omega (arith, e))
