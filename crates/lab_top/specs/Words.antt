-- Which arguments of the lab are valid, as words of the command line, and what they ask for. The program's own name
-- isn't among them. This project's own.
use Rattle.std.specs.Prelude.{ℕ, ◌&&◌, ◌||◌, ◌==◌, nat_le, Bool, true, false, if◌then◌else◌}
use Rattle.std.specs.Prelude.{List, [], ◌∷◌, codes, fold, take, drop, Option, Some, None, unwrap_or}
use Rattle.std.specs.List.{list_all}
use Rattle.std.specs.Char.{is_ascii_alphabetic, is_ascii_digit}
use Rattle.std.specs.Str.{bytes_eq}
use Rattle.front_end.specs.GivenOnce.{asked_flag, given_once}
use Rattle.front_end.specs.NumberWords.{number_of_word}
use Rattle.verilog_text.specs.declared.verilog.Options.{Options as Ports}
use Rattle.lab_top.specs.declared.words.Command.{Command}
use Rattle.lab_top.specs.declared.words.Command.TheVariants.{Why, Profile, Waves, Verilog, Lint, Obligation, Certify}
use Rattle.lab_top.specs.declared.words.Options.{Options}

-- a name begins with an ASCII letter or `_`, and goes on with these and digits
abbrev pub begins_name : ℕ → Bool
begins_name byte = is_ascii_alphabetic byte || byte == 95

-- a letter, a digit or `_`
abbrev pub continues_name : ℕ → Bool
continues_name byte = begins_name byte || is_ascii_digit byte

-- a name begins with a letter or `_`
abbrev pub is_name : List ℕ → Bool
is_name [] = false
is_name (first ∷ rest) = begins_name first && list_all continues_name rest

-- the name that a word is; what it names is another question
abbrev pub name_of : List ℕ → Option (List ℕ)
name_of word = if is_name word then Some word else None

-- no option is given
abbrev pub no_options : Options
no_options = record { cycle = None; cycles = None; rule = None; is_strict = false }

-- options, if they are valid, with a value of `--cycle`
abbrev pub with_cycle : List ℕ → Option Options → Option Options
with_cycle word None = None
with_cycle word (Some options) = given_once options.cycle (λ n. record options { cycle = Some n }) (number_of_word word)

-- options, if they are valid, with a value of `--cycles`
abbrev pub with_cycles : List ℕ → Option Options → Option Options
with_cycles word None = None
with_cycles word (Some options) = given_once options.cycles (λ n. record options { cycles = Some n }) (number_of_word word)

-- options, if they are valid, with a name that is valid, if it is
abbrev pub with_name : Option (List ℕ) → Option Options → Option Options
with_name name None = None
with_name name (Some options) = given_once options.rule (λ given. record options { rule = Some given }) name

-- options, if they are valid, with a value of `--rule`
abbrev pub with_rule : List ℕ → Option Options → Option Options
with_rule word others = with_name (name_of word) others

-- options, if they are valid, with `--strict`
abbrev pub with_strict : Option Options → Option Options
with_strict None = None
with_strict (Some options) =
    given_once (asked_flag options.is_strict) (λ strict. record options { is_strict = strict }) (Some true)

-- the other options, if they are valid, with one that is a word of its own
abbrev pub with_word : List ℕ → Option Options → Option Options
with_word word others =
    if bytes_eq word (codes "--strict") then with_strict others
    else if bytes_eq (take 8 word) (codes "--cycle=") then with_cycle (drop 8 word) others
    else if bytes_eq (take 9 word) (codes "--cycles=") then with_cycles (drop 9 word) others
    else if bytes_eq (take 7 word) (codes "--rule=") then with_rule (drop 7 word) others
    else None

-- what options ask for: each is given at most once, in any order, and a value follows its option or `=`
abbrev pub options_of : List (List ℕ) → Option Options
options_of [] = Some no_options
options_of (word ∷ []) = with_word word (Some no_options)
options_of (word ∷ value ∷ rest) =
    if bytes_eq word (codes "--cycle") then with_cycle value (options_of rest)
    else if bytes_eq word (codes "--cycles") then with_cycles value (options_of rest)
    else if bytes_eq word (codes "--rule") then with_rule value (options_of rest)
    else with_word word (options_of (value ∷ rest))

-- `why` from a cycle on, for some cycles: both numbers are 1 or more
abbrev pub why_from : ℕ → ℕ → Option (List ℕ) → Option Command
why_from cycle cycles rule = if nat_le 1 cycle && nat_le 1 cycles then Some (Why cycle cycles rule) else None

-- `why` with options: the first cycle has to be given, and it is for one cycle where no number is given
abbrev pub why_by : Option ℕ → Option ℕ → Option (List ℕ) → Bool → Option Command
why_by (Some cycle) cycles rule false = why_from cycle (unwrap_or cycles 1) rule
why_by cycle cycles rule is_strict = None

-- `why` with options
abbrev pub why_of : Option Options → Option Command
why_of None = None
why_of (Some options) = why_by options.cycle options.cycles options.rule options.is_strict

-- `profile` with options: the cycles have to be given, and may be strict
abbrev pub profile_by : Option ℕ → Option ℕ → Option (List ℕ) → Bool → Option Command
profile_by None (Some cycles) None is_strict = Some (Profile cycles is_strict)
profile_by cycle cycles rule is_strict = None

-- `profile` with options
abbrev pub profile_of : Option Options → Option Command
profile_of None = None
profile_of (Some options) = profile_by options.cycle options.cycles options.rule options.is_strict

-- `waves` with options: the cycles have to be given, and nothing else is
abbrev pub waves_by : Option ℕ → Option ℕ → Option (List ℕ) → Bool → Option Command
waves_by None (Some cycles) None false = Some (Waves cycles)
waves_by cycle cycles rule is_strict = None

abbrev pub waves_of : Option Options → Option Command
waves_of None = None
waves_of (Some options) = waves_by options.cycle options.cycles options.rule options.is_strict

-- no reset is asked for, and no registers as ports
abbrev pub no_ports : Ports
no_ports = record { reset = false; registers = false }

-- ports with a reset, which isn't asked for yet
abbrev pub with_reset : Ports → Option Ports
with_reset ports = if ports.reset then None else Some (record ports { reset = true })

-- ports with the registers, which aren't asked for yet
abbrev pub with_registers : Ports → Option Ports
with_registers ports = if ports.registers then None else Some (record ports { registers = true })

-- ports, if they are valid, with those that one word more asks for
abbrev pub with_port : Option Ports → List ℕ → Option Ports
with_port None word = None
with_port (Some ports) word =
    if bytes_eq word (codes "--reset") then with_reset ports
    else if bytes_eq word (codes "--registers") then with_registers ports
    else None

-- `verilog` with ports, if they are valid
abbrev pub verilog_by : Option Ports → Option Command
verilog_by None = None
verilog_by (Some ports) = Some (Verilog ports)

-- `verilog` with the ports that words ask for: each is asked for at most once, in any order
abbrev pub verilog_of : List (List ℕ) → Option Command
verilog_of words = verilog_by (fold with_port (Some no_ports) words)

-- `lint`, which has no options
abbrev pub lint_of : List (List ℕ) → Option Command
lint_of [] = Some Lint
lint_of words = None

-- `obligation` with options: a rule may be named, and nothing else is given
abbrev pub obligation_by : Option ℕ → Option ℕ → Option (List ℕ) → Bool → Option Command
obligation_by None None rule false = Some (Obligation rule)
obligation_by cycle cycles rule is_strict = None

-- `obligation` with options
abbrev pub obligation_of : Option Options → Option Command
obligation_of None = None
obligation_of (Some options) = obligation_by options.cycle options.cycles options.rule options.is_strict

-- `certify` with options: a rule may be named, and nothing else is given
abbrev pub certify_by : Option ℕ → Option ℕ → Option (List ℕ) → Bool → Option Command
certify_by None None rule false = Some (Certify rule)
certify_by cycle cycles rule is_strict = None

-- `certify` with options
abbrev pub certify_of : Option Options → Option Command
certify_of None = None
certify_of (Some options) = certify_by options.cycle options.cycles options.rule options.is_strict

-- the command that words ask for; no other words are valid
abbrev pub command_of : List (List ℕ) → Option Command
command_of [] = None
command_of (word ∷ rest) =
    if bytes_eq word (codes "why") then why_of (options_of rest)
    else if bytes_eq word (codes "profile") then profile_of (options_of rest)
    else if bytes_eq word (codes "waves") then waves_of (options_of rest)
    else if bytes_eq word (codes "verilog") then verilog_of rest
    else if bytes_eq word (codes "lint") then lint_of rest
    else if bytes_eq word (codes "obligation") then obligation_of (options_of rest)
    else if bytes_eq word (codes "certify") then certify_of (options_of rest)
    else None
