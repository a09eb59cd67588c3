-- Tables: functions from bit vectors of one width to bit vectors of one width, given by the list of their values. The
-- entry of an input is at the input's number.
use Rattle.std.specs.Prelude.{◌≡◌, ◌≤◌, ◌^◌, length, All}
use Rattle.kw_bits.specs.BitVector.{BitVector}
use Rattle.kw_bits.specs.Laws.{HasWidth}
use Rattle.kw_bits.specs.declared.table.TableSpec.{TableSpec}

-- a table has an entry of its output width for each number of its input width, which is of 1 to 12 bits
pub record IsTable (table : TableSpec) : Type 0 where
  pub some_input : 1 ≤ table.in_width
  pub few_inputs : table.in_width ≤ 12
  pub count : length table.entries ≡ 2 ^ table.in_width
  pub entries : All (λ (entry : BitVector). HasWidth entry table.out_width) table.entries
