-- A word so far, by its fields. Contracts of private functions alone cite it.
use Rattle.aiger_text.specs.Runs.{WordRun}
use Rattle.aiger_text.specs.declared.runs.Run.{Run as RunFields}

abbrev pub run_of : RunFields → WordRun
run_of run = record { word = run.word; is_run = run.is_run }
