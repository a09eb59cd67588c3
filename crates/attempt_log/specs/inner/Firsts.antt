-- The table of first commits, for private functions: what its places hold, how accesses are noted in it, and how it is
-- searched for what an access clashes with.
use Rattle.std.specs.Prelude.{◌≡◌, ℕ, zero, suc, ◌-◌, ◌<◌, ◌≤◌, Bool, true, ◌==◌, not, nat_lt, List, [], ◌∷◌, length, Option, Some, None, is_some, option_map, slice_index_or, slice_set, All, if◌then◌else◌}
use Rattle.std.specs.List.{count_by, list_any}
use Rattle.typed_core.specs.Clash.{clashes}
use Rattle.typed_core.specs.declared.access.Access.{Access}
use Rattle.typed_core.specs.declared.access.Event.{Event}
use Rattle.typed_core.specs.declared.limits.TheConstants.{PORTS}
use Rattle.attempt_log.specs.Past.{place}
use Rattle.attempt_log.specs.declared.cause.Cause.{Cause}
use Rattle.attempt_log.specs.declared.cause.Cause.TheVariants as cause
use Rattle.attempt_log.specs.declared.first.Commit.{Commit}
use Rattle.attempt_log.specs.declared.past.Clashing.{Clashing}

-- ---- places

abbrev pub is_listed : List ℕ → ℕ → Bool
is_listed touched number = list_any (λ (t : ℕ). t == number) touched

-- the places that hold a commit are listed, and the list has room for all places
pub record IsSound (firsts : List (Option Commit)) (touched : List ℕ) (room : ℕ) : Type 0 where
  pub room_for_all : length firsts ≤ room
  pub no_more : length touched ≤ count_by is_some firsts
  pub within : All (λ (t : ℕ). t < length firsts) touched
  pub listed : (number : ℕ) → is_some (slice_index_or firsts number None) ≡ true → is_listed touched number ≡ true

-- ---- accesses that are noted

abbrev pub place_of : Access → ℕ
place_of access = place access.write access.port access.register

-- a commit's access is put at its place, if that holds nothing yet
abbrev pub noted : Commit → List (Option Commit) → Access → List (Option Commit)
noted commit firsts access =
    if is_some (slice_index_or firsts (place_of access) None) then firsts else slice_set firsts (place_of access) (Some commit)

abbrev pub noted_all : Commit → List (Option Commit) → List Event → List (Option Commit)
noted_all commit firsts [] = firsts
noted_all commit firsts (e ∷ events) = noted_all commit (noted commit firsts e.access) events

-- ---- the search

-- the access of a kind of a register
abbrev pub is_write_kind : ℕ → Bool
is_write_kind number = not (nat_lt number PORTS)

abbrev pub port_of_kind : ℕ → ℕ
port_of_kind number = if nat_lt number PORTS then number else number - PORTS

abbrev pub access_of : ℕ → ℕ → Access
access_of number register = record { write = is_write_kind number; port = port_of_kind number; register = register }

-- what of a kind is in an access's way, given the first commit with that kind of access of its register
abbrev pub in_the_way : Access → (ℕ → Option Commit) → ℕ → Option Clashing
in_the_way access first number =
    let earlier : Access = access_of number access.register in
    if clashes access earlier then option_map (λ (commit : Commit). record { commit = commit; earlier = earlier }) (first number) else None

-- the one with the earlier commit, and of two with the same the first
abbrev pub earlier_of : Option Clashing → Option Clashing → Option Clashing
earlier_of None b = b
earlier_of (Some a) None = Some a
earlier_of (Some a) (Some b) = if nat_lt b.commit.position a.commit.position then Some b else Some a

-- the earliest of the kinds below a number that is in the way
unfoldable pub earliest_below : Access → (ℕ → Option Commit) → ℕ → Option Clashing
earliest_below access first zero = None
earliest_below access first (suc number) = earlier_of (earliest_below access first number) (in_the_way access first number)

-- what a table holds of the kinds of a register
abbrev pub row : List (Option Commit) → ℕ → ℕ → Option Commit
row firsts register number = slice_index_or firsts (place_of (access_of number register)) None

-- the clash that was found
abbrev pub clash_of : Access → Clashing → Cause
clash_of access found = cause.Clash access found.commit.rule found.earlier
