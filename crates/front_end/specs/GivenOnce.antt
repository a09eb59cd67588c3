-- Options on a command line that may be given once.
use Rattle.std.specs.Prelude.{Bool, true, false, Option, Some, None}

-- options with a value that is given once, and is valid: there is no earlier one, and there is this one
abbrev pub given_once : {X Options : Type 0} → Option X → (X → Options) → Option X → Option Options
given_once None put None = None
given_once None put (Some value) = Some (put value)
given_once (Some earlier) put value = None

-- a flag that isn't given asks for nothing
abbrev pub asked_flag : Bool → Option Bool
asked_flag false = None
asked_flag true = Some true
