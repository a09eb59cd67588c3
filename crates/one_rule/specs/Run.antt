-- A run: one row for the opening registers and one for each cycle.
use Rattle.std.specs.Prelude.{ℕ, zero, suc, ◌+◌, ◌-◌, false, List, [], ◌∷◌, map, replicate}
use Rattle.kw_bits.specs.BitVector.{BitVector}
use Rattle.typed_core.specs.declared.design.RegDecl.{RegDecl}
use Rattle.typed_core.specs.declared.design.Parts.{Parts}
use Rattle.one_rule.specs.Cycle.{System, cycle, system_of}
use Rattle.one_rule.specs.declared.rows.Row.{Row}

-- the inputs of each cycle, by its number
abbrev pub InputsByCycle : Type 0
InputsByCycle = ℕ → List BitVector

-- the rows of this many cycles after the last one, from the registers that it left
abbrev pub rows_after : System → InputsByCycle → ℕ → ℕ → List BitVector → List Row
rows_after system inputs zero last regs = []
rows_after system inputs (suc count) last regs =
    let row : Row = cycle system (inputs (last + 1)) regs in
    row ∷ rows_after system inputs count (last + 1) row.regs

-- the opening row of a run with this many rules: registers, and no rule that fired
abbrev pub opening : ℕ → List BitVector → Row
opening rules regs = record { regs = regs; fired = replicate rules false }

-- the rows from one cycle to another: the opening registers, then those after each cycle
abbrev pub run : System → InputsByCycle → List BitVector → ℕ → ℕ → List Row
run system inputs regs from to = opening system.rules regs ∷ rows_after system inputs (to - from) from regs

-- the registers that rows end with, where they come after these
abbrev pub last_registers : List BitVector → List Row → List BitVector
last_registers regs [] = regs
last_registers regs (row ∷ rows) = last_registers row.regs rows

-- the first values of a design's registers
abbrev pub first_values : Parts → List BitVector
first_values design = map (λ (decl : RegDecl). decl.first) design.regs

-- the run of a design for n cycles, from its first values
abbrev pub run_of : Parts → InputsByCycle → ℕ → List Row
run_of design inputs n = run (system_of design) inputs (first_values design) 0 n
