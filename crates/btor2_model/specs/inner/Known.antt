-- What the table and the sets that acceptance fills hold, line by line. Contracts of private functions alone cite it.
use Rattle.std.specs.Prelude.{◌≡◌, ℕ, ◌≤◌, Some}
use Rattle.std.specs.Ordering.{nat_cmp}
use Rattle.std.specs.BTreeSet as set
use Rattle.btor2_model.specs.Scope.{DeclaredIds}
use Rattle.btor2_model.specs.declared.meaning.IdMeaning.{IdMeaning}
use Rattle.btor2_model.specs.declared.meaning.Role.TheVariants as roles
use Rattle.btor2_model.specs.Table.{value_in}
use Rattle.btor2_model.specs.declared.known.Known.{Known}

-- what is declared
abbrev pub scope_of : Known → DeclaredIds
scope_of known = record { meanings = value_in known.meanings; initialized = set.contains nat_cmp known.initialized; continued = set.contains nat_cmp known.continued }

-- each sort has at most 128 bits
abbrev pub AreNarrow : DeclaredIds → Type 0
AreNarrow scope = (id : ℕ) (meaning : IdMeaning) → scope.meanings id ≡ Some meaning → meaning.role ≡ roles.Sort → meaning.width ≤ 128
