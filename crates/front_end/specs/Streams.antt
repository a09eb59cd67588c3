-- What a contract knows of a source or a sink in a call.
use Rattle.std.specs.Prelude.{◌≡◌, ℕ, List, ◌++◌, Option}
use Rattle.std.specs.Io.KnownBytes.{Appends, Keeps}

-- the bytes that a source has left or a sink was given, where they are known, and its count of faults: before a call and after it
pub record Stream : Type 0 where
  pub before : Option (List ℕ)
  pub after : Option (List ℕ)
  pub faults_before : ℕ
  pub faults_after : ℕ

-- the same by what is known of any source or sink
abbrev pub stream : {X : Type 0} → (X → Option (List ℕ)) → (X → ℕ) → X → X → Stream
stream bytes faults old new = record { before = bytes old; after = bytes new; faults_before = faults old; faults_after = faults new }

-- known bytes grow by the first bytes of a text, by all of them or fewer
abbrev pub AppendsFront : Option (List ℕ) → Option (List ℕ) → List ℕ → Type 0
AppendsFront old new text = (front : List ℕ) × (rest : List ℕ) × (front ++ rest ≡ text) × Appends old new front

-- a sink was given all of a text; its first bytes; nothing
abbrev pub Gains : Stream → List ℕ → Type 0
Gains sink text = Appends sink.before sink.after text

-- the first bytes of a text were written, and nothing else
abbrev pub GainsFront : Stream → List ℕ → Type 0
GainsFront sink text = AppendsFront sink.before sink.after text

-- nothing was written
abbrev pub GainsNothing : Stream → Type 0
GainsNothing sink = Keeps sink.before sink.after
