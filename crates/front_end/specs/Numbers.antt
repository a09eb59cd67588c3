-- The number of each exit status.
use Rattle.std.specs.Prelude.{ℕ}
use Rattle.front_end.specs.declared.status.Status.{Status}
use Rattle.front_end.specs.declared.status.Status.TheVariants as status

-- the exit status of a program
abbrev pub exit_status : Status → ℕ
exit_status status.Done = 0
exit_status status.Usage = 1
exit_status status.Refused = 2
exit_status status.ReadFault = 3
exit_status status.WriteFault = 4
exit_status status.NoMemory = 5
