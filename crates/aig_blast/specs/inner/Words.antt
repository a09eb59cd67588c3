-- What private functions alone cite of this crate's `Words`.
use Rattle.std.specs.Prelude.{ℕ, nat_le, if◌then◌else◌}
use Rattle.aig_blast.specs.declared.bitwise.Pair.{Pair}
use Rattle.aig_blast.specs.declared.bitwise.Pair.TheVariants.{And, Or, Xor}

-- the literal that a reduction starts from
abbrev pub start_lit : Pair → ℕ
start_lit And = 1
start_lit Or = 0
start_lit Xor = 0

-- how many bits of a shift's amount count at a width up to 128
abbrev pub stages : ℕ → ℕ
stages w = if nat_le w 1 then 0 else if nat_le w 2 then 1 else if nat_le w 4 then 2 else if nat_le w 8 then 3 else if nat_le w 16 then 4 else if nat_le w 32 then 5 else if nat_le w 64 then 6 else 7
