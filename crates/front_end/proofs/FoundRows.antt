-- The rows that the reader of command lines has found, by the options of a command: each option has an id, and a way to read
-- its values.
use Rattle.std.proofs.Common.{◌≡◌, ◌∙◌, Bool, true, false, cond, List, [], ◌∷◌, ◌++◌, Option, Some, None, is_some, refl, sym, ap, ap₂, append-nil}
use Rattle.std.specs.Prelude.{if◌then◌else◌, find, option_map}
use Rattle.std.specs.Option.{option_or}
use Rattle.std.specs.Str.{bytes_eq}
use Rattle.std.proofs.lemmas.List.Folds.{find-append}
use Rattle.std.proofs.lemmas.Option.{none-some}
use Rattle.clap.specs.Walk.{Row, Text, at_row, has_row, more_values, with_values, without}
use Rattle.clap.specs.declared.parser.matches.ValueSource.{ValueSource}
use Rattle.clap.specs.declared.parser.matches.ValueSource.TheVariants.{CommandLine}
use Rattle.clap.specs.declared.builder.value_parser.Reading.{Reading}

pub or-none : {X : Type 0} (found : Option X) → option_or found None ≡ found
or-none None = refl
or-none (Some x) = refl

abbrev pub row_of_id : Text → List Row → Option Row
row_of_id id rows = find (λ (r : Row). bytes_eq r.id id) rows

-- a row more, where there is none of its id
module _ (id : Text) where
  row-behind : (change : Row → List Row) (missing rows : List Row) → row_of_id id rows ≡ None → at_row id change missing rows ≡ rows ++ missing
  row-behind change missing [] none = refl
  row-behind change missing (r ∷ rows) none = go (bytes_eq r.id id) refl none (λ none. row-behind change missing rows none)
    where
      go : (b : Bool) → bytes_eq r.id id ≡ b → cond b (Some r) (row_of_id id rows) ≡ None → (row_of_id id rows ≡ None → at_row id change missing rows ≡ rows ++ missing)
          → at_row id change missing (r ∷ rows) ≡ (r ∷ rows) ++ missing
      go true is none later = absurd (none-some r (sym none))
      go false is none later = rw is (ap (λ rest. r ∷ rest) (later none))

  pub has-found : (rows : List Row) → has_row id rows ≡ is_some (row_of_id id rows)
  has-found [] = refl
  has-found (r ∷ rows) = go (bytes_eq r.id id) refl (has-found rows)
    where
      go : (b : Bool) → bytes_eq r.id id ≡ b → has_row id rows ≡ is_some (row_of_id id rows) → has_row id (r ∷ rows) ≡ is_some (row_of_id id (r ∷ rows))
      go true is later = rw is refl
      go false is later = rw is later

  pub with_row-is : (how : Reading) (source : ValueSource) (values : List Text) (rows : List Row) → row_of_id id rows ≡ None
      → with_values id how source values rows ≡ rows ++ (record { id = id; values = values; count = None; source = Some source; reading = how } ∷ [])
  with_row-is how source values rows none = row-behind (more_values source values) _ rows none

  pub without-none : (rows : List Row) → row_of_id id rows ≡ None → without id rows ≡ rows
  without-none rows none = row-behind (λ r. []) [] rows none ∙ append-nil rows

module _ {Slot : Type 0} (id_of : Slot → Text) (reading_of : Slot → Reading) where
  abbrev pub row_for : Slot → List Text → Row
  row_for slot values = record { id = id_of slot; values = values; count = None; source = Some CommandLine; reading = reading_of slot }

  -- what is known of rows: the values of each option
  abbrev pub Known : List Row → (Slot → Option (List Text)) → Type 0
  Known rows values = (slot : Slot) → row_of_id (id_of slot) rows ≡ option_map (row_for slot) (values slot)

  abbrev pub with_given : Slot → List Text → (Slot → Option (List Text)) → Slot → Option (List Text)
  with_given slot given values other = if bytes_eq (id_of slot) (id_of other) then Some given else values other

  abbrev pub used_by : Slot → List Text → List Row → List Row
  used_by slot given rows = with_values (id_of slot) (reading_of slot) CommandLine given (without (id_of slot) rows)

  module _ (rows : List Row) (values : Slot → Option (List Text)) (known : Known rows values) (slot : Slot) (given : List Text) (fresh : values slot ≡ None) where
    no-row : row_of_id (id_of slot) rows ≡ None
    no-row = known slot ∙ ap (option_map (row_for slot)) fresh

    used-is : used_by slot given rows ≡ rows ++ (row_for slot given ∷ [])
    used-is =
        ap (with_values (id_of slot) (reading_of slot) CommandLine given) (without-none (id_of slot) rows no-row)
        ∙ with_row-is (id_of slot) (reading_of slot) CommandLine given rows no-row

    found-behind : (other : Slot) → row_of_id (id_of other) (used_by slot given rows) ≡ option_or (option_map (row_for other) (values other)) (cond (bytes_eq (id_of slot) (id_of other)) (Some (row_for slot given)) None)
    found-behind other =
        ap (row_of_id (id_of other)) used-is
        ∙ find-append (λ (r : Row). bytes_eq r.id (id_of other)) rows (row_for slot given ∷ [])
        ∙ ap (λ found. option_or found (cond (bytes_eq (id_of slot) (id_of other)) (Some (row_for slot given)) None)) (known other)

  module _ (rows : List Row) (values : Slot → Option (List Text)) (known : Known rows values) where
    pub found-own : (slot : Slot) (given : List Text) → values slot ≡ None → bytes_eq (id_of slot) (id_of slot) ≡ true → row_of_id (id_of slot) (used_by slot given rows) ≡ Some (row_for slot given)
    found-own slot given fresh same =
        found-behind rows values known slot given fresh slot
        ∙ ap₂ (λ found b. option_or (option_map (row_for slot) found) (cond b (Some (row_for slot given)) None)) fresh same

    pub found-other : (slot other : Slot) (given : List Text) → values slot ≡ None → bytes_eq (id_of slot) (id_of other) ≡ false → row_of_id (id_of other) (used_by slot given rows) ≡ option_map (row_for other) (values other)
    found-other slot other given fresh differ =
        found-behind rows values known slot given fresh other
        ∙ ap (λ b. option_or (option_map (row_for other) (values other)) (cond b (Some (row_for slot given)) None)) differ
        ∙ or-none (option_map (row_for other) (values other))

    pub none-used : (slot : Slot) → values slot ≡ None → has_row (id_of slot) rows ≡ false
    none-used slot fresh = has-found (id_of slot) rows ∙ ap is_some (known slot) ∙ ap (λ found. is_some (option_map (row_for slot) found)) fresh
