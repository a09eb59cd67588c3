-- A measure of values that is less for the parts of a value: how many structs and arrays there are in it.
use Rattle.std.proofs.Common.{◌≡◌, ℕ, ◌+◌, ◌<◌, ◌≤◌, List, length, sum_by, get_or, ap, sym, ◌∙◌, arith}
use Rattle.std.proofs.lemmas.List.Sums.{sum_by_more_le}
use Rattle.koika_types.specs.declared.value.Value.{Value}
use Rattle.koika_types.specs.declared.value.Value.TheVariants as value
use Rattle.koika_types.specs.declared.value.Value.TheOpen.{Value-F}
use Rattle.koika_types.specs.declared.value.Value.TheFolds.{fold-Value, fold-roll-Value}
use Rattle.koika_types.proofs.Sizes.{sum_by-map}

abbrev part_count : Value-F ℕ → ℕ
part_count (Value-F.Number bits) = 0
part_count (Value-F.Member number bits) = 0
part_count (Value-F.Fields number counts) = sum_by (λ n. n) counts + 1
part_count (Value-F.Items counts) = sum_by (λ n. n) counts + 1

abbrev pub count : Value → ℕ
count = fold-Value ℕ part_count

pub count-Fields : (n : ℕ) (vs : List Value) → count (value.Fields n vs) ≡ sum_by count vs + 1
count-Fields n vs = ap count (sym (value.rolls-Fields n vs)) ∙ fold-roll-Value ℕ part_count (Value-F.Fields n vs) ∙ ap (λ k. k + 1) (sum_by-map (λ k. k) count vs)

pub count-Items : (vs : List Value) → count (value.Items vs) ≡ sum_by count vs + 1
count-Items vs = ap count (sym (value.rolls-Items vs)) ∙ fold-roll-Value ℕ part_count (Value-F.Items vs) ∙ ap (λ k. k + 1) (sum_by-map (λ k. k) count vs)

pub count-part : (vs : List Value) (k : ℕ) (x : Value) → k < length vs → count (get_or vs k x) ≤ sum_by count vs
count-part vs k x lt = omega (arith, sum_by_more_le count vs k x lt)
