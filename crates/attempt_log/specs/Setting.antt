-- What seats and attempts are for: a design with a stimulus, and a rule in a cycle. Designs are compared by value.
use Rattle.std.specs.Prelude.{◌≡◌}
use Rattle.std.specs.Arc.{arc_value}
use Rattle.typed_core.specs.Same.{SameDesign}
use Rattle.typed_core.specs.declared.design.Parts.{Parts}
use Rattle.one_rule.specs.Cycle.{system_of}
use Rattle.one_rule.specs.Externs.{kept}
use Rattle.one_rule.specs.Stimulus.{InputVectors, inputs_of}
use Rattle.attempt_log.specs.Attempt.{Attempted, FitDesign}
use Rattle.attempt_log.specs.declared.job.Job.{Job}
use Rattle.attempt_log.specs.declared.seat.Task.{Task}

-- a design and a stimulus
pub record DesignAndStimulus : Type 0 where
  pub design : Parts
  pub stimulus : InputVectors

-- the attempt is for the setting: for a design of equal value, and on the stimulus's inputs for its cycle
pub record IsFor (s : DesignAndStimulus) (a : Attempted) : Type 0 where
  pub design : SameDesign a.design s.design
  pub inputs : a.inputs ≡ inputs_of s.stimulus a.cycle

-- the attempt at another design
abbrev pub at_design : Parts → Attempted → Attempted
at_design design a = record a { design = design }

-- the cycle and the rule of an attempt
abbrev pub task_of : Attempted → Task
task_of a = record { cycle = a.cycle; rule = a.rule }

-- the job's parts fit its own design
abbrev pub FitsItself : Job → Type 0
FitsItself job = FitDesign (arc_value job.design) (kept (arc_value job.externs)) job.rule job.inputs job.regs

-- the attempt that does a job: its rule runs alone on its inputs and registers
abbrev pub attempt_of : Job → Attempted
attempt_of job =
    let design = arc_value job.design in
    record {
      design = design;
      cycle = job.cycle;
      rule = job.rule;
      inputs = job.inputs;
      run = (system_of design).alone job.rule job.inputs job.regs;
    }
