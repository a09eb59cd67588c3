-- What `why` writes: for each cycle its inputs, the registers that it finds and its trials. This project's own text
-- form; accesses and events are those of journals.
use Rattle.std.specs.Prelude.{ℕ, Bool, true, ◌==◌, List, [], ◌∷◌, ◌++◌, length, map, codes, decimal, Option, Some, None}
use Rattle.std.specs.List.{filter, flat_map, range_with_len}
use Rattle.kw_bits.specs.BitVector.{BitVector}
use Rattle.typed_core.specs.declared.design.Parts.{Parts}
use Rattle.one_rule.specs.Cycle.{system_of}
use Rattle.one_rule.specs.Run.{InputsByCycle}
use Rattle.stim_report.specs.Report.{registers_text}
use Rattle.stim_report.specs.Shapes.{shape_of}
use Rattle.journal_check.specs.Printing.{cause_tokens, ended, event_text, joined_tokens, rule_name}
use Rattle.journal_check.specs.Tokens.{number_named, rule_names}
use Rattle.lab_core.specs.Runs.{registers_before}
use Rattle.lab_core.specs.Trials.{trials, untried}
use Rattle.lab_core.specs.declared.trial.Trial.{Trial}
use Rattle.lab_core.specs.declared.trial.TrialVerdict.{TrialVerdict}
use Rattle.lab_core.specs.declared.trial.TrialVerdict.TheVariants as verdict

-- the cycle, its inputs, and the registers that it finds
abbrev pub cycle_line : Parts → ℕ → List BitVector → List BitVector → List ℕ
cycle_line design cycle inputs regs =
    ended (codes "cycle " ++ decimal cycle ++ registers_text (shape_of design).inputs inputs ++ registers_text (shape_of design).registers regs)

-- whether a rule fired, or why not
abbrev pub verdict_tokens : Parts → TrialVerdict → List (List ℕ)
verdict_tokens design verdict.Fired = codes "fired" ∷ []
verdict_tokens design (verdict.Refused cause) = cause_tokens design cause

-- the rule, its verdict, a colon and the events
abbrev pub trial_line : Parts → Trial → List ℕ
trial_line design t =
    ended (joined_tokens (rule_name design t.rule ∷ verdict_tokens design t.verdict ++ (codes ":" ∷ map (event_text design) t.events)))

-- a rule that has no trial
abbrev pub untried_line : Parts → ℕ → List ℕ
untried_line design rule = ended (joined_tokens (rule_name design rule ∷ codes "untried" ∷ []))

-- whether lines of the rule are written: where one rule is asked for, those of that rule alone
abbrev pub is_asked : Option ℕ → ℕ → Bool
is_asked None rule = true
is_asked (Some only) rule = rule == only

-- the lines of trials, and after them those of rules without one
abbrev pub trials_text : Parts → Option ℕ → List Trial → List ℕ
trials_text design only tried =
    flat_map (trial_line design) (filter (λ (t : Trial). is_asked only t.rule) tried)
    ++ flat_map (untried_line design) (filter (is_asked only) (untried (length design.rules) tried))

-- the text of the cycle with these inputs and registers
abbrev pub cycle_text : Parts → Option ℕ → ℕ → List BitVector → List BitVector → List ℕ
cycle_text design only cycle inputs regs =
    cycle_line design cycle inputs regs ++ trials_text design only (trials (system_of design) inputs regs)

-- the text of a cycle of the run
abbrev pub text_in : Parts → Option ℕ → InputsByCycle → ℕ → List ℕ
text_in design only inputs cycle = cycle_text design only cycle (inputs cycle) (registers_before design inputs cycle)

-- the text of that many cycles of the run, from this one on
abbrev pub why_text : Parts → Option ℕ → InputsByCycle → ℕ → ℕ → List ℕ
why_text design only inputs first count = flat_map (text_in design only inputs) (range_with_len first count)

-- the number of the first rule of a name
abbrev pub rule_named : Parts → List ℕ → Option ℕ
rule_named design name = number_named (rule_names design) name
