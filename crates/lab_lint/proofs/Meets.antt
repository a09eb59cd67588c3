-- What parts have to do with an access, by what their own parts have to do with it.
use Rattle.std.proofs.Common.{◌≡◌, Bool, true, false, List, [], ◌∷◌, ◌++◌, map, refl, sym, ap, ap₂, ◌∙◌}
use Rattle.std.specs.Prelude.{◌&&◌, ◌||◌}
use Rattle.std.specs.List.{list_any}
use Rattle.typed_core.specs.declared.access.Access.{Access}
use Rattle.lab_lint.specs.Occurrences as parts
use Rattle.lab_lint.specs.Occurrences.{Pair, Part, each_before_each}
use Rattle.lab_lint.specs.Refusals.{cannot_follow, is_access}
use Rattle.lab_lint.specs.inner.Meetings.{either, in_order, meeting_of}
use Rattle.lab_lint.specs.declared.meeting.Meeting.{Meeting}
use Rattle.lab_lint.specs.declared.occurrence.Occurrence.{Occurrence}

or-assoc : (a b c : Bool) → (a || (b || c)) ≡ ((a || b) || c)
or-assoc true b c = refl
or-assoc false b c = refl

pub any-append : {X : Type 0} (p : X → Bool) (xs ys : List X) → list_any p (xs ++ ys) ≡ (list_any p xs || list_any p ys)
any-append p [] ys = refl
any-append p (x ∷ xs) ys = ap (λ b. p x || b) (any-append p xs ys) ∙ or-assoc (p x) (list_any p xs) (list_any p ys)

module _ (a : Access) where
  abbrev refuses : Pair → Bool
  refuses p = is_access a p.later && cannot_follow a p.earlier

  abbrev pair : Occurrence → Occurrence → Pair
  pair x y = record { earlier = x; later = y }

  with_one : (x : Occurrence) (ys : List Occurrence) → list_any refuses (map (pair x) ys) ≡ (cannot_follow a x && list_any (is_access a) ys)
  with_one x [] = nothing (cannot_follow a x)
    where
      nothing : (b : Bool) → false ≡ (b && false)
      nothing true = refl
      nothing false = refl
  with_one x (y ∷ ys) = ap (λ b. (is_access a y && cannot_follow a x) || b) (with_one x ys) ∙ joined (is_access a y) (cannot_follow a x) (list_any (is_access a) ys)
    where
      joined : (i c r : Bool) → ((i && c) || (c && r)) ≡ (c && (i || r))
      joined true true r = refl
      joined true false r = refl
      joined false true r = refl
      joined false false r = refl

  with_each : (xs ys : List Occurrence) → list_any refuses (each_before_each xs ys) ≡ (list_any (cannot_follow a) xs && list_any (is_access a) ys)
  with_each [] ys = refl
  with_each (x ∷ xs) ys =
      any-append refuses (map (pair x) ys) (each_before_each xs ys) ∙ ap₂ (λ b c. b || c) (with_one x ys) (with_each xs ys)
      ∙ joined (cannot_follow a x) (list_any (cannot_follow a) xs) (list_any (is_access a) ys)
    where
      joined : (c h o : Bool) → ((c && o) || (h && o)) ≡ ((c || h) && o)
      joined true h true = refl
      joined true true false = refl
      joined true false false = refl
      joined false h o = refl

  unfoldable meeting : (o h r : Bool) → Meeting
  meeting o h r = record { occurs = o; hinders = h; is_refused = r }

  pub meets-in_order : (p q : Part) → in_order (meeting_of a p) (meeting_of a q) ≡ meeting_of a (parts.in_order p q)
  unfolding meeting
  meets-in_order p q = sym (
      ap (λ o. meeting o (list_any (cannot_follow a) (p.all ++ q.all)) (list_any refuses ((p.pairs ++ q.pairs) ++ each_before_each p.all q.all))) (any-append (is_access a) p.all q.all)
      ∙ ap₂ (meeting (list_any (is_access a) p.all || list_any (is_access a) q.all)) (any-append (cannot_follow a) p.all q.all)
      (any-append refuses (p.pairs ++ q.pairs) (each_before_each p.all q.all) ∙ ap₂ (λ b c. b || c) (any-append refuses p.pairs q.pairs) (with_each p.all q.all))
      )

  pub meets-either : (p q : Part) → either (meeting_of a p) (meeting_of a q) ≡ meeting_of a (parts.either p q)
  unfolding meeting
  meets-either p q = sym (
      ap (λ o. meeting o (list_any (cannot_follow a) (p.all ++ q.all)) (list_any refuses (p.pairs ++ q.pairs))) (any-append (is_access a) p.all q.all)
      ∙ ap₂ (meeting (list_any (is_access a) p.all || list_any (is_access a) q.all)) (any-append (cannot_follow a) p.all q.all) (any-append refuses p.pairs q.pairs)
      )
