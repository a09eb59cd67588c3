-- Lists of wires that grow one by one.
use Rattle.std.proofs.Common.{◌≡◌, ◌⊎◌, ℕ, ◌+◌, ◌≤◌, ◌<◌, List, [], ◌∷◌, ◌++◌, length, sym, ap, ◌∙◌, subst, inl, inr, arith, length-append, Some}
use Rattle.std.specs.Prelude.{slice_set}
use Rattle.std.proofs.lemmas.Bool.{cases_eq, cases_lt}
use Rattle.std.proofs.lemmas.List.{get_or_append_left, get_or_at, get_or-set_other, get_or-set_same, length-set}
use Rattle.net_graph.specs.declared.node.NetOp.{NetOp}
use Rattle.net_action.specs.Gates.{Grows}
use Rattle.net_action.specs.Wires.{HasWire}
use Rattle.net_action.proofs.Growth.{wire_kept}
use Rattle.net_sched.specs.inner.Cycles.{AreFlags, nth}

-- what holds of each wire holds of each with one more
pub pushed : (P : ℕ → ℕ → Type 0) (xs : List ℕ) (x n : ℕ) → length xs ≡ n → ((i : ℕ) → i < n → P i (nth xs i)) → P n x → (i : ℕ) → i < n + 1 → P i (nth (xs ++ x ∷ []) i)
pushed P xs x n count each own i within = chosen (cases_lt i n)
  where
    chosen : (i < n) ⊎ (n ≤ i) → P i (nth (xs ++ x ∷ []) i)
    chosen (inl lt) = subst (λ (a : ℕ). P i a) (sym (get_or_append_left xs (x ∷ []) 0 i (omega (arith, count)))) (each i lt)
    chosen (inr ge) =
        let e : i ≡ n = omega (arith, within) in
        subst (λ (a : ℕ). P i a) (sym (get_or_at xs x [] 0 i (omega (arith, count)))) (subst (λ (m : ℕ). P m x) (sym e) own)

pub longer : (xs : List ℕ) (x n : ℕ) → length xs ≡ n → length (xs ++ x ∷ []) ≡ n + 1
longer xs x n count = omega (arith, length-append xs (x ∷ []))

pub flags_more : (old new : List NetOp) (wires : List ℕ) (wire n : ℕ) → Grows [] old new → AreFlags old n wires → HasWire new wire 1 → AreFlags new (n + 1) (wires ++ wire ∷ [])
flags_more old new wires wire n grows are own = record {
  count = longer wires wire n are.count;
  each = pushed (λ i w. HasWire new w 1) wires wire n are.count (λ i within. wire_kept [] old new (nth wires i) 1 grows (are.each i within)) own;
}

pub flags_kept : (inputs : List ℕ) (old new : List NetOp) (wires : List ℕ) (n : ℕ) → Grows inputs old new → AreFlags old n wires → AreFlags new n wires
flags_kept inputs old new wires n grows are = record { count = are.count; each = λ i within. wire_kept inputs old new (nth wires i) 1 grows (are.each i within) }

-- one flag in the place of another
pub flags_set : (old new : List NetOp) (wires : List ℕ) (place wire n : ℕ) → Grows [] old new → AreFlags old n wires → HasWire new wire 1 → AreFlags new n (slice_set wires place wire)
flags_set old new wires place wire n grows are own = record { count = length-set wires place wire ∙ are.count; each = λ i within. at i within (cases_eq i place) }
  where
    at : (i : ℕ) → i < n → (i ≡ place) ⊎ (i ≡ place → ⊥) → HasWire new (nth (slice_set wires place wire) i) 1
    at i within (inl e) =
        subst (λ (w : ℕ). HasWire new w 1) (sym (ap (λ (k : ℕ). nth (slice_set wires place wire) k) e ∙ get_or-set_same wires place wire 0 (omega (arith, e, within, are.count)))) own
    at i within (inr ne) =
        subst (λ (w : ℕ). HasWire new w 1) (sym (get_or-set_other wires place i wire 0 ne)) (wire_kept [] old new (nth wires i) 1 grows (are.each i within))

-- a wire has one width
pub same_width : (net : List NetOp) (wire a b : ℕ) → HasWire net wire a → HasWire net wire b → a ≡ b
same_width net wire a b h k = some_same (sym h.0 ∙ k.0)
  where
    some_same : Some a ≡ Some b → a ≡ b
    some_same e = cc
