-- What is done at the boards of a journal: a legal history of each (Herlihy and Wing, TOPLAS 1990), made by workers and
-- by whoever finishes the batch after them. Which of them makes which call isn't said.
use Rattle.std.specs.Prelude.{ℕ, ◌≤◌, List}
use Rattle.kw_bits.specs.BitVector.{BitVector}
use Rattle.typed_core.specs.declared.design.Parts.{Parts}
use Rattle.one_rule.specs.Stimulus.{InputVectors}
use Rattle.attempt_log.specs.Entries.{worker_of}
use Rattle.attempt_log.specs.declared.entry.Entry.{Entry}
use Rattle.board_core.specs.Board.{Opening}
use Rattle.board_lock.specs.Histories.{Each}

-- the board of the cycles after `from` up to `to`, on registers that cycle `from` left; four cycles may be ahead, the
-- current one included
abbrev pub board_of : Parts → InputVectors → List BitVector → ℕ → ℕ → Opening
board_of design stimulus regs from to = record { design = design; stimulus = stimulus; regs = regs; from = from; to = to; window = 4 }

-- the entries are of workers with at most this number
abbrev pub AreBy : ℕ → List Entry → Type 0
AreBy worker entries = Each (λ (e : Entry). worker_of e ≤ worker) entries
