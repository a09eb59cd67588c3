-- Which arguments are valid, as words of the command line, and what they ask for. The program's own name isn't among them.
use Rattle.std.specs.Prelude.{ℕ, ◌&&◌, ◌||◌, nat_le, Bool, true, false, List, [], ◌∷◌, codes, take, drop, Option, Some, None, if◌then◌else◌}
use Rattle.std.specs.Str.{bytes_eq}
use Rattle.front_end.specs.GivenOnce.{asked_flag, given_once}
use Rattle.front_end.specs.NumberWords.{number_of_word}
use Rattle.koika_top.specs.declared.engine_kind.EngineKind.{EngineKind}
use Rattle.koika_top.specs.declared.engine_kind.EngineKind.TheVariants.{Plain, Circuit, Workers}
use Rattle.koika_top.specs.declared.shown.Shown.{Shown}
use Rattle.koika_top.specs.declared.shown.Shown.TheVariants.{Report, Summary}
use Rattle.koika_top.specs.declared.words.Command.{Command}
use Rattle.koika_top.specs.declared.words.Command.TheVariants.{Check, Print, Sim, Compile, Btorsim, Gen, Aiger, Aigsim, Journal, Recheck}
use Rattle.koika_top.specs.declared.words.Options.{Options}

-- the engine that a word names
abbrev pub engine_of : List ℕ → Option EngineKind
engine_of word = if bytes_eq word (codes "plain") then Some Plain else if bytes_eq word (codes "circuit") then Some Circuit else None

-- no option is given
abbrev pub no_options : Options
no_options = record { cycles = None; engine = None; workers = None; shown = Report; journal = false }

-- options, if they are valid, with a value of `--cycles`
abbrev pub with_cycles : List ℕ → Option Options → Option Options
with_cycles word None = None
with_cycles word (Some options) = given_once options.cycles (λ n. record options { cycles = Some n }) (number_of_word word)

-- options, if they are valid, with a value of `--engine`
abbrev pub with_engine : List ℕ → Option Options → Option Options
with_engine word None = None
with_engine word (Some options) = given_once options.engine (λ kind. record options { engine = Some kind }) (engine_of word)

-- options, if they are valid, with a value of `--workers`
abbrev pub with_workers : List ℕ → Option Options → Option Options
with_workers word None = None
with_workers word (Some options) = given_once options.workers (λ count. record options { workers = Some count }) (number_of_word word)

-- a report is shown where nothing is asked for
abbrev pub asked_for : Shown → Option Shown
asked_for Report = None
asked_for Summary = Some Summary

-- options, if they are valid, with a summary
abbrev pub with_summary : Option Options → Option Options
with_summary None = None
with_summary (Some options) = given_once (asked_for options.shown) (λ shown. record options { shown = shown }) (Some Summary)

-- options, if they are valid, with a journal
abbrev pub with_journal : Option Options → Option Options
with_journal None = None
with_journal (Some options) = given_once (asked_flag options.journal) (λ journal. record options { journal = journal }) (Some true)

-- the other options, if they are valid, with one that is a word of its own
abbrev pub with_word : List ℕ → Option Options → Option Options
with_word word others =
    if bytes_eq word (codes "--summary") then with_summary others
    else if bytes_eq word (codes "--journal") then with_journal others
    else if bytes_eq (take 9 word) (codes "--cycles=") then with_cycles (drop 9 word) others
    else if bytes_eq (take 9 word) (codes "--engine=") then with_engine (drop 9 word) others
    else if bytes_eq (take 10 word) (codes "--workers=") then with_workers (drop 10 word) others
    else None

-- what options ask for: each is given at most once, in any order, and a value follows its option or `=`
abbrev pub options_of : List (List ℕ) → Option Options
options_of [] = Some no_options
options_of (word ∷ []) = with_word word (Some no_options)
options_of (word ∷ value ∷ rest) =
    if bytes_eq word (codes "--cycles") then with_cycles value (options_of rest)
    else if bytes_eq word (codes "--engine") then with_engine value (options_of rest)
    else if bytes_eq word (codes "--workers") then with_workers value (options_of rest)
    else with_word word (options_of (value ∷ rest))

-- 1 to 64 workers run the design rule by rule
abbrev pub by_workers : ℕ → Option EngineKind
by_workers count = if nat_le 1 count && nat_le count 64 then Some (Workers count) else None

-- the engine of a run, by what is given of it and of the workers: without either it is the plain one, and no workers run
-- the circuit
abbrev pub engine_by : Option EngineKind → Option ℕ → Option EngineKind
engine_by (Some Circuit) None = Some Circuit
engine_by (Some Circuit) (Some count) = None
engine_by engine None = Some Plain
engine_by engine (Some count) = by_workers count

-- `sim` with options: the cycles have to be given
abbrev pub sim_by : Option ℕ → Shown → Option EngineKind → Option Command
sim_by (Some cycles) shown (Some engine) = Some (Sim cycles shown engine)
sim_by cycles shown engine = None

-- a journal of 1 to 8 workers; it takes neither a summary nor an engine
abbrev pub journal_by : Option ℕ → Shown → Option EngineKind → Option ℕ → Option Command
journal_by (Some cycles) Report None (Some workers) = if nat_le 1 workers && nat_le workers 8 then Some (Journal cycles workers) else None
journal_by cycles shown engine workers = None

-- `sim` with options
abbrev pub sim_of : Option Options → Option Command
sim_of None = None
sim_of (Some options) =
    if options.journal then journal_by options.cycles options.shown options.engine options.workers
    else sim_by options.cycles options.shown (engine_by options.engine options.workers)

-- `btorsim` with options: the cycles have to be given, and neither an engine nor workers
abbrev pub btorsim_by : Option ℕ → Shown → Option EngineKind → Option ℕ → Option Command
btorsim_by (Some cycles) shown None None = Some (Btorsim cycles shown)
btorsim_by cycles shown engine workers = None

-- `btorsim` with options
abbrev pub btorsim_of : Option Options → Option Command
btorsim_of None = None
btorsim_of (Some options) = if options.journal then None else btorsim_by options.cycles options.shown options.engine options.workers

-- `aigsim` with options, as `btorsim`
abbrev pub aigsim_by : Option ℕ → Shown → Option EngineKind → Option ℕ → Option Command
aigsim_by (Some cycles) shown None None = Some (Aigsim cycles shown)
aigsim_by cycles shown engine workers = None

-- `aigsim` with options
abbrev pub aigsim_of : Option Options → Option Command
aigsim_of None = None
aigsim_of (Some options) = if options.journal then None else aigsim_by options.cycles options.shown options.engine options.workers

-- `recheck` with options: the cycles alone are given
abbrev pub recheck_by : Option ℕ → Shown → Option EngineKind → Option ℕ → Option Command
recheck_by (Some cycles) Report None None = Some (Recheck cycles)
recheck_by cycles shown engine workers = None

-- `recheck` with options
abbrev pub recheck_of : Option Options → Option Command
recheck_of None = None
recheck_of (Some options) = if options.journal then None else recheck_by options.cycles options.shown options.engine options.workers

-- `gen` with a number of stages from 1 to 100
abbrev pub gen_by : Option ℕ → Option Command
gen_by None = None
gen_by (Some stages) = if nat_le 1 stages && nat_le stages 100 then Some (Gen stages) else None

-- `gen` with a number
abbrev pub gen_of : List (List ℕ) → Option Command
gen_of (word ∷ []) = gen_by (number_of_word word)
gen_of words = None

-- a command that takes no words
abbrev pub alone_of : Command → List (List ℕ) → Option Command
alone_of command [] = Some command
alone_of command words = None

-- the command that words ask for; no other words are valid
abbrev pub command_of : List (List ℕ) → Option Command
command_of [] = None
command_of (word ∷ rest) =
    if bytes_eq word (codes "check") then alone_of Check rest
    else if bytes_eq word (codes "print") then alone_of Print rest
    else if bytes_eq word (codes "sim") then sim_of (options_of rest)
    else if bytes_eq word (codes "btorsim") then btorsim_of (options_of rest)
    else if bytes_eq word (codes "compile") then alone_of Compile rest
    else if bytes_eq word (codes "gen") then gen_of rest
    else if bytes_eq word (codes "aiger") then alone_of Aiger rest
    else if bytes_eq word (codes "aigsim") then aigsim_of (options_of rest)
    else if bytes_eq word (codes "recheck") then recheck_of (options_of rest)
    else None

-- whether a word, and whether one of the words, asks for workers
abbrev pub is_of_workers : List ℕ → Bool
is_of_workers word = bytes_eq word (codes "--workers") || bytes_eq (take 10 word) (codes "--workers=")

-- some word gives a number of workers
abbrev pub asks_workers : List (List ℕ) → Bool
asks_workers [] = false
asks_workers (word ∷ words) = is_of_workers word || asks_workers words
