-- Where names stand in schedulers and declarations, in order.
use Rattle.std.proofs.Common.{◌≡◌, ℕ, zero, suc, ◌-◌, ◌<◌, List, [], ◌∷◌, ◌++◌, Option, Some, None, refl, ap, sym, ◌∙◌, append_assoc, arith, slice_get}
use Rattle.std.specs.Option.{option_map}
use Rattle.koika_syntax.specs.declared.tree.Choice.{Choice, out-Choice, fold_out-Choice}
use Rattle.koika_syntax.specs.declared.tree.Name.{Name}
use Rattle.koika_syntax.specs.declared.tree.Scheduler.{Scheduler, out-Scheduler, roll-Scheduler, roll-out-Scheduler, fold-roll-Scheduler}
use Rattle.koika_check.specs.Checks.{places_in_choice, places_if, places_of, scheduler_places, places_in_scheduler}
use Rattle.koika_check.specs.inner.Checks.{choice_places}
use Rattle.koika_check.specs.inner.Places.{or_further}

abbrev pub last_places : Option Choice → Option (List ℕ)
last_places last = option_map choice_places last

scheduler_at : (rules : List Name) (last : Option Choice) → scheduler_places (roll-Scheduler (record { rules = rules; last = last })) ≡ places_of rules ++ places_if (last_places last)
unfolding scheduler_places choice_places
scheduler_at rules None = fold-roll-Scheduler (List ℕ) (List ℕ) places_in_choice places_in_scheduler (record { rules = rules; last = None })
scheduler_at rules (Some choice) = fold-roll-Scheduler (List ℕ) (List ℕ) places_in_choice places_in_scheduler (record { rules = rules; last = Some choice })

pub places-scheduler : (s : Scheduler) → scheduler_places s ≡ places_of (out-Scheduler s).rules ++ places_if (last_places (out-Scheduler s).last)
places-scheduler s = ap scheduler_places (sym (roll-out-Scheduler s)) ∙ scheduler_at (out-Scheduler s).rules (out-Scheduler s).last

pub places-choice : (c : Choice) → choice_places c ≡ (out-Choice c).rule.place ∷ scheduler_places (out-Choice c).then ++ scheduler_places (out-Choice c).otherwise
unfolding scheduler_places choice_places
places-choice c = fold_out-Choice (List ℕ) (List ℕ) places_in_choice places_in_scheduler c

-- the first place of a choice, and those behind it
pub choice-first : (c : Choice) (behind : List ℕ) (k : ℕ) → k ≡ 0 → slice_get (choice_places c ++ behind) k ≡ Some (out-Choice c).rule.place
choice-first c behind k e = ap (slice_get (choice_places c ++ behind)) e ∙ ap (λ ps. slice_get (ps ++ behind) 0) (places-choice c)

one_less : (p : ℕ) (xs : List ℕ) (k : ℕ) → 0 < k → slice_get (p ∷ xs) k ≡ slice_get xs (k - 1)
one_less p xs zero lt = absurd (omega (arith, lt))
one_less p xs (suc k) lt = ap (slice_get xs) (omega arith)

pub choice-rest : (c : Choice) (behind : List ℕ) (k : ℕ) → 0 < k → slice_get (choice_places c ++ behind) k ≡ slice_get (scheduler_places (out-Choice c).then ++ (scheduler_places (out-Choice c).otherwise ++ behind)) (k - 1)
choice-rest c behind k lt =
    ap (λ ps. slice_get (ps ++ behind) k) (places-choice c) ∙ one_less (out-Choice c).rule.place ((scheduler_places (out-Choice c).then ++ scheduler_places (out-Choice c).otherwise) ++ behind) k lt
    ∙ ap (λ ps. slice_get ps (k - 1)) (append_assoc (scheduler_places (out-Choice c).then) (scheduler_places (out-Choice c).otherwise) behind)

-- the places of rules one after another, and those at the end of a scheduler
pub scheduler-split : (s : Scheduler) (names : List Name) (behind : List ℕ) (k : ℕ) → names ≡ (out-Scheduler s).rules →
    slice_get (scheduler_places s ++ behind) k ≡ slice_get (places_of names ++ (places_if (last_places (out-Scheduler s).last) ++ behind)) k
scheduler-split s names behind k e =
    ap (λ ps. slice_get (ps ++ behind) k) (places-scheduler s)
    ∙ ap (λ ps. slice_get ps k) (append_assoc (places_of (out-Scheduler s).rules) (places_if (last_places (out-Scheduler s).last)) behind)
    ∙ ap (λ ns. slice_get (places_of ns ++ (places_if (last_places (out-Scheduler s).last) ++ behind)) k) (sym e)

-- what is found where nothing is behind
pub or-nothing : (o : Option ℕ) (k : ℕ) → or_further o [] k ≡ o
or-nothing (Some p) k = refl
or-nothing None k = refl
