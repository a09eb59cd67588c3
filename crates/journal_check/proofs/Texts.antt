-- Tokens that are written one after another.
use Rattle.std.proofs.Common.{◌≡◌, ℕ, List, ◌++◌, sym, ap, ◌∙◌, append_assoc}
use Rattle.std.specs.List.{flat_map}
use Rattle.std.proofs.lemmas.Grind.{flat_map-append}
use Rattle.journal_check.specs.Printing.{spaced}

pub spaced_in_turn : (text : List ℕ) (xs ys zs : List (List ℕ)) → ((text ++ flat_map spaced xs) ++ flat_map spaced ys) ++ flat_map spaced zs ≡ text ++ flat_map spaced (xs ++ (ys ++ zs))
spaced_in_turn text xs ys zs =
    append_assoc (text ++ flat_map spaced xs) (flat_map spaced ys) (flat_map spaced zs)
    ∙ ap (λ (rest : List ℕ). (text ++ flat_map spaced xs) ++ rest) (sym (flat_map-append spaced ys zs))
    ∙ append_assoc text (flat_map spaced xs) (flat_map spaced (ys ++ zs))
    ∙ ap (λ (rest : List ℕ). text ++ rest) (sym (flat_map-append spaced xs (ys ++ zs)))
