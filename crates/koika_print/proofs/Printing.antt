-- What is printed for parts in turn is what is printed for all of them.
use Rattle.std.proofs.Common.{◌≡◌, ℕ, List, ◌++◌, Result, Ok, Err, OnOk, sym, ap, ◌∙◌, append_assoc, append-nil, []}
use Rattle.std.proofs.lemmas.Grind.{flat_map-append}
use Rattle.koika_syntax.proofs.Leaves.{parts_of_constants, parts_of_expressions, parts_of_schedulers}
use Rattle.koika_syntax.specs.Tree.{Leaf}
use Rattle.koika_print.specs.Printed.{printed, leaf_text}
use Rattle.koika_print.specs.inner.Printed.{Prints}

-- one part after another
pub in_turn : {old mid new : List ℕ} {xs ys : List Leaf} → Prints old mid xs → Prints mid new ys → Prints old new (xs ++ ys)
in_turn {old} {mid} {new} {xs} {ys} p q = record {
  text = q.text ∙ ap (λ t. t ++ printed ys) p.text ∙ append_assoc old (printed xs) (printed ys) ∙ ap (λ t. old ++ t) (sym (flat_map-append leaf_text xs ys));
}

-- the same where the last part may fail
pub at_last : {X E : Type 0} (r : Result X E) {old mid : List ℕ} (new : List ℕ) {xs : List Leaf} (ys : List Leaf) →
    Prints old mid xs → OnOk r (Prints mid new ys) → OnOk r (Prints old new (xs ++ ys))
at_last (Ok x) new ys p q = in_turn p q
at_last (Err e) new ys p q = q

-- what a text says of itself
pub made : {X E : Type 0} (r : Result X E) (old new : List ℕ) (leaves : List Leaf) → OnOk r (new ≡ old ++ printed leaves) → OnOk r (Prints old new leaves)
made (Ok x) old new leaves e = record { text = e }
made (Err e) old new leaves _ = tt

-- nothing is printed
pub nothing : (old new : List ℕ) → new ≡ old → Prints old new []
nothing old new e = record { text = e ∙ sym (append-nil old) }

pub ruleset printing = (in_turn, at_last, nothing, flat_map-append, append_assoc)

pub ruleset printing_constants = (printing, parts_of_constants)

pub ruleset printing_expressions = (printing, parts_of_expressions)

pub ruleset printing_schedulers = (printing, parts_of_schedulers)
