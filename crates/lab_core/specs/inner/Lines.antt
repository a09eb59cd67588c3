-- Lines that there may be, for private functions.
use Rattle.std.specs.Prelude.{ℕ, List, [], Option, Some, None, if◌then◌else◌}
use Rattle.typed_core.specs.declared.design.Parts.{Parts}
use Rattle.lab_core.specs.Why.{is_asked, untried_line}
use Rattle.lab_core.specs.declared.trial.TrialVerdict.{TrialVerdict}

-- the line of a rule by its verdict, if it has none and is asked for
abbrev pub asked_line : Parts → Option ℕ → ℕ → Option TrialVerdict → List ℕ
asked_line design only rule (Some v) = []
asked_line design only rule None = if is_asked only rule then untried_line design rule else []

-- the text of the item at a place, if there is one
abbrev pub text_at : {X : Type 0} → (X → List ℕ) → Option X → List ℕ
text_at f None = []
text_at f (Some x) = f x
