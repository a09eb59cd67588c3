-- The number of each exit status, and of the fault that is the lab's own.
use Rattle.std.specs.Prelude.{◌≡◌, ℕ}
use Rattle.lab_top.specs.declared.fault_number.TheConstants.{NO_SUCH_RULE}
use Rattle.lab_top.specs.declared.status.LabStatus.{LabStatus}
use Rattle.lab_top.specs.declared.status.LabStatus.TheVariants as status

-- the exit status of the lab
abbrev pub exit_status : LabStatus → ℕ
exit_status status.Done = 0
exit_status status.Failed = 8
exit_status status.Usage = 1
exit_status status.Refused = 2
exit_status status.ReadFault = 3
exit_status status.WriteFault = 4
exit_status status.NoMemory = 5

-- no rule has the name that is asked for
pub record AreFaultNumbers : Type 0 where
  pub no_such_rule : NO_SUCH_RULE ≡ 90
