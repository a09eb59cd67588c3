-- Values of variables that grow gate by gate.
use Rattle.std.proofs.Common.{◌≡◌, ℕ, ◌+◌, ◌<◌, Bool, false, List, [], ◌∷◌, ◌++◌, length, replicate, get_or, refl, ◌∙◌, arith}
use Rattle.std.proofs.lemmas.List.{length_push, length-append, length-replicate, length-take-le, get_or_append_left}
use Rattle.aig_blast.specs.Graphs.{fitted, gate_value, values_after}
use Rattle.aig_blast.specs.declared.gate.Gate.{Gate}

pub values_after-append : (before : List Bool) (xs ys : List Gate) → values_after before (xs ++ ys) ≡ values_after (values_after before xs) ys
values_after-append before [] ys = refl
values_after-append before (x ∷ xs) ys = values_after-append (before ++ gate_value before x ∷ []) xs ys

pub length-values_after : (before : List Bool) (xs : List Gate) → length (values_after before xs) ≡ length before + length xs
length-values_after before [] = omega arith
length-values_after before (x ∷ xs) =
    omega (arith, length-values_after (before ++ gate_value before x ∷ []) xs, length_push before (gate_value before x))

-- the values before stay
pub get_or-values_after : (before : List Bool) (xs : List Gate) (i : ℕ) → i < length before → get_or (values_after before xs) i false ≡ get_or before i false
get_or-values_after before [] i within = refl
get_or-values_after before (x ∷ xs) i within =
    get_or-values_after (before ++ gate_value before x ∷ []) xs i (omega (arith, length_push before (gate_value before x))) ∙ get_or_append_left before (gate_value before x ∷ []) false i within

pub length-fitted : (count : ℕ) (inputs : List Bool) → length (fitted count inputs) ≡ count
length-fitted count inputs =
    length-take-le count (inputs ++ replicate count false) (omega (arith, length-append inputs (replicate count false), length-replicate count false))
