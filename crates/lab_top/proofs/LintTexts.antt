-- The notes of a design are written in three parts: those of single rules, those of pairs of them, and the others.
use Rattle.std.proofs.Common.{◌≡◌, ℕ, Bool, List, [], ◌∷◌, ◌++◌, length, refl, sym, ap, ◌∙◌, append_assoc}
use Rattle.std.specs.List.{flat_map}
use Rattle.std.proofs.lemmas.Grind.{flat_map-append}
use Rattle.koika_check.specs.declared.checked.Checked.{Checked}
use Rattle.lab_lint.specs.Order.{Order}
use Rattle.lab_lint.specs.Rules.{numbers}
use Rattle.lint_text.specs.Notes.{if_scheduled, last_notes, may_notes, notes, pair_notes, rule_notes}
use Rattle.lint_text.specs.Text.{note_line, notes_text}
use Rattle.lint_text.specs.declared.places.Places.{Places}
use Rattle.lab_top.specs.inner.Lint.{pairs_of, pairs_to}

flat_map-twice : {X Y Z : Type 0} (f : Y → List Z) (g : X → List Y) (xs : List X) → flat_map f (flat_map g xs) ≡ flat_map (λ x. flat_map f (g x)) xs
flat_map-twice f g [] = refl
flat_map-twice f g (x ∷ xs) = flat_map-append f (g x) (flat_map g xs) ∙ ap (λ (later : List _). flat_map f (g x) ++ later) (flat_map-twice f g xs)

module _ (d : Checked) (places : Places) (order : Order) (is_never : ℕ → Bool) where
  abbrev pub first : List ℕ
  first = notes_text d places (rule_notes is_never d)

  abbrev pub middle : List ℕ
  middle = pairs_to d places order (length d.rules)

  abbrev pub last : List ℕ
  last = notes_text d places (last_notes order d)

  -- the lines of all pairs are those of each rule
  pairs-whole : notes_text d places (pair_notes order d) ≡ middle
  pairs-whole = flat_map-twice (note_line d places) (if_scheduled d (may_notes order d)) (numbers d.rules)

  pub whole : first ++ middle ++ last ≡ notes_text d places (notes order is_never d)
  whole =
      append_assoc first middle last
      ∙ ap (λ (pairs : List ℕ). first ++ (pairs ++ last)) (sym pairs-whole)
      ∙ ap (λ (later : List ℕ). first ++ later) (sym (flat_map-append (note_line d places) (pair_notes order d) (last_notes order d)))
      ∙ sym (flat_map-append (note_line d places) (rule_notes is_never d) (pair_notes order d ++ last_notes order d))
