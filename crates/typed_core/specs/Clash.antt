-- Which accesses of a register cannot follow which in a cycle, after the checks of Kôika's logs (Bourgeat et al., PLDI
-- 2020), as pairs of accesses at ports i and j. It says nothing of which rules made them.
use Rattle.std.specs.Prelude.{ℕ, Bool, true, false, ◌==◌, ◌&&◌, nat_lt, nat_le}
use Rattle.typed_core.specs.declared.access.Access.{Access}

-- Two accesses of one register, the later at port i and the earlier at port j; true says a write.
-- Two reads never clash. A write at port j is seen from the ports above j alone.
abbrev pub ports_clash : Bool → ℕ → Bool → ℕ → Bool
ports_clash false i false j = false
ports_clash false i true j = nat_le i j
ports_clash true i false j = nat_lt i j
ports_clash true i true j = nat_le i j

-- the later access cannot follow the earlier one in a cycle
abbrev pub clashes : Access → Access → Bool
clashes later earlier =
    (later.register == earlier.register) && ports_clash later.write later.port earlier.write earlier.port
