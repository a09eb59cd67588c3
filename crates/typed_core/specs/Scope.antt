-- What callers see of the names that are bound round an action: what they stand for, the innermost first.
use Rattle.std.specs.Prelude.{List, [], ◌∷◌, Option, Some, None}
use Rattle.std.specs.Borrow.{Bor}

-- the innermost name, if there is one, in front of those that it is bound inside
abbrev pub names : {A : Type 0} → Option (A × Bor (List A)) → List A
names None = []
names (Some bound) = bound.0 ∷ bound.1.now
