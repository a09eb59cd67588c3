-- What is kept of the rules that were committed in a cycle: the first that read each register, and the first that
-- wrote it, at each port. It is what the checks of Kôika's scheduler log (Bourgeat et al., PLDI 2020) need to name
-- the rule that is in the way. Values, and later accesses of the same kind, aren't kept.
use Rattle.std.specs.Prelude.{◌≡◌, ℕ, ◌+◌, ◌*◌, ◌<◌, Bool, true, false, not, ◌==◌, ◌&&◌, List, [], ◌∷◌, length, Option, Some, None, slice_index_or, if◌then◌else◌}
use Rattle.std.specs.List.{AllByRecursion, list_any}
use Rattle.typed_core.specs.Fits.{EventsFit}
use Rattle.typed_core.specs.Valid.{IsPort}
use Rattle.typed_core.specs.declared.access.Event.{Event}
use Rattle.typed_core.specs.declared.limits.TheConstants.{PORTS}
use Rattle.one_rule.specs.declared.cycle.Fired.{Fired}
use Rattle.attempt_log.specs.declared.first.Commit.{Commit}

-- the event is an access of this kind, at this port, of this register; true says a write
abbrev pub is_access : Bool → ℕ → ℕ → Event → Bool
is_access true port register e = e.access.write && (e.access.port == port) && (e.access.register == register)
is_access false port register e = not e.access.write && (e.access.port == port) && (e.access.register == register)

-- one of the events is such an access
abbrev pub has_access : Bool → ℕ → ℕ → List Event → Bool
has_access write port register events = list_any (is_access write port register) events

-- the position, counted from this one on, and the rule of the first that made such an access
abbrev pub first_from : ℕ → Bool → ℕ → ℕ → List Fired → Option Commit
first_from position write port register [] = None
first_from position write port register (f ∷ fired) =
    if has_access write port register f.events then Some (record { position = position; rule = f.rule })
    else first_from (position + 1) write port register fired

-- the kinds of access of a register: reads, and after them writes, each at all ports
abbrev pub kinds : ℕ
kinds = PORTS + PORTS

abbrev pub kind : Bool → ℕ → ℕ
kind false port = port
kind true port = PORTS + port

-- where the first commit with an access is kept
abbrev pub place : Bool → ℕ → ℕ → ℕ
place write port register = kinds * register + kind write port

-- the first commit with each kind of access, each at its place, and how many commits there are
pub record Commits : Type 0 where
  pub firsts : List (Option Commit)
  pub count : ℕ

-- there is a place for each kind of access of that many registers
abbrev pub HasPlaces : ℕ → Commits → Type 0
HasPlaces registers past = length past.firsts ≡ kinds * registers

-- with registers of these widths, the past stands for these rules with their events
pub record StandsFor (widths : List ℕ) (past : Commits) (fired : List Fired) : Type 0 where
  pub places : HasPlaces (length widths) past
  pub firsts : (write : Bool) (port register : ℕ) → IsPort port → register < length widths → slice_index_or past.firsts (place write port register) None ≡ first_from 0 write port register fired
  pub count : past.count ≡ length fired
  pub fit : AllByRecursion (λ (f : Fired). EventsFit widths f.events) fired
