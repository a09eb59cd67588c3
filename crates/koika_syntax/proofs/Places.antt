-- The item at a place of a table.
use Rattle.std.proofs.Common.{◌≡◌, ℕ, List, length, Option, Some, None, refl, sym, Bor}
use Rattle.std.specs.Prelude.{slice_get, option_copied}
use Rattle.std.specs.Slice.{IsItemAt}
use Rattle.std.proofs.lemmas.Option.{slice_get_past, slice_get_read}

pub option_copied-item : {X : Type 0} (items : List X) (place : ℕ) (found : Option (Bor X)) → IsItemAt items place found → option_copied found ≡ slice_get items place
option_copied-item items place None item = sym (slice_get_past items place item.3)
option_copied-item items place (Some x) item = sym (slice_get_read items (length items) place x.now refl item.3.0 item.1)
