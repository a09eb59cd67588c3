-- The dump of a run is written in three parts: its head, the edges of its cycles, and its ending.
use Rattle.std.proofs.Common.{◌≡◌, ℕ, List, ◌++◌, arith}
use Rattle.koika_check.specs.declared.checked.Checked.{Checked}
use Rattle.one_rule.specs.Run.{InputsByCycle}
use Rattle.one_rule.proofs.Runs.{rows_are_cycles}
use Rattle.front_end.specs.Sources.{shape_of}
use Rattle.front_end.specs.Systems.{first_values, run_of, system_of}
use Rattle.wave_text.specs.Parts.{ending, progress}
use Rattle.wave_text.specs.Waves.{head}
use Rattle.wave_text.proofs.Batches.{parts_join}
use Rattle.lab_top.specs.Runs.{waves_in}
use Rattle.lab_top.specs.inner.Waves.{edges_to}

module _ (d : Checked) (inputs : InputsByCycle) (n : ℕ) where
  abbrev pub first : List ℕ
  first = head (shape_of d)

  abbrev pub middle : List ℕ
  middle = edges_to d inputs n

  abbrev pub last : List ℕ
  last = ending (shape_of d) (progress (shape_of d) inputs (run_of d inputs n))

  pub whole : first ++ middle ++ last ≡ waves_in d inputs n
  whole =
      parts_join (shape_of d) inputs (run_of d inputs n)
      (omega (arith, rows_are_cycles (system_of d) inputs (first_values d) 0 n))
