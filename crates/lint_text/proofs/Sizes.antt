-- The weights and the depths of a typed design's rules are within the limits, so they are counted as they are.
use Rattle.std.proofs.Common.{◌≡◌, ℕ, ◌+◌, ◌≤◌, List, [], ◌∷◌, map, min, refl, ap, ap₂, ◌∙◌, arith}
use Rattle.std.proofs.lemmas.List.Sums.{sum_by-cons}
use Rattle.koika_check.specs.Capped.{capped}
use Rattle.koika_check.specs.Sizes.{Size, depths, rule_sizes, weights}
use Rattle.koika_check.specs.Typing.{IsTypedDesign}
use Rattle.koika_check.specs.declared.checked.Checked.{Checked}
use Rattle.lint_text.specs.Notes.{sizes_from}
use Rattle.lint_text.specs.declared.note.Note.{Note}
use Rattle.lint_text.specs.declared.note.Note.TheVariants as note
use Rattle.lint_text.specs.inner.Measured.{measures_from}

within : (a b : ℕ) → a ≤ b → min a (b + 1) ≡ a
within a b h = omega (arith, h)

sizes-counted : (rule : ℕ) (sizes : List Size) → weights sizes ≤ 32768 → depths sizes ≤ 512
    → measures_from rule (map capped sizes) ≡ sizes_from rule sizes
sizes-counted rule [] light shallow = refl
sizes-counted rule (s ∷ sizes) light shallow =
    let sum : weights (s ∷ sizes) ≡ s.weight + weights sizes = sum_by-cons (λ (x : Size). x.weight) s sizes in
    let weight : min s.weight 32769 ≡ s.weight = within s.weight 32768 (omega (arith, light, sum)) in
    let depth : min s.depth 513 ≡ s.depth = within s.depth 512 (omega (arith, shallow)) in
    ap₂ (λ (w : ℕ) (d : ℕ). note.Size rule w d ∷ measures_from (rule + 1) (map capped sizes)) weight depth
    ∙ ap (λ (notes : List Note). note.Size rule s.weight s.depth ∷ notes)
    (sizes-counted (rule + 1) sizes (omega (arith, light, sum)) (omega (arith, shallow)))

pub sizes-are : (d : Checked) → IsTypedDesign d → measures_from 0 (map capped (rule_sizes d)) ≡ sizes_from 0 (rule_sizes d)
sizes-are d typed =
    sizes-counted 0 (rule_sizes d) (omega (arith, typed.light)) typed.shallow
