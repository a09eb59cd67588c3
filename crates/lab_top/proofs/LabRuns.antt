-- What the lab says of a run of a lowered design is what it says of the typed design.
use Rattle.std.proofs.Common.{◌≡◌, ℕ, ◌-◌, List, map, Option, Some, None, sym, ap, ap₂, subst, ◌∙◌, ◌++◌}
use Rattle.std.specs.Prelude.{option_map}
use Rattle.kw_bits.specs.BitVector.{BitVector}
use Rattle.typed_core.specs.Valid.{IsValid}
use Rattle.typed_core.specs.Widths as core
use Rattle.typed_core.specs.Widths.{HaveWidths}
use Rattle.typed_core.specs.declared.design.Parts.{Parts}
use Rattle.typed_core.specs.declared.design.Rule.{Rule as CoreRule}
use Rattle.one_rule.specs.Cycle as core_cycle
use Rattle.one_rule.specs.Run as core_run
use Rattle.one_rule.specs.Run.{InputsByCycle, last_registers}
use Rattle.one_rule.specs.Stimulus.{AlwaysFits, InputVectors, inputs_of}
use Rattle.koika_check.specs.declared.checked.Checked.{Checked}
use Rattle.koika_lower.specs.Lowering.{IsLowered, typed_input_widths, register_widths}
use Rattle.front_end.specs.Systems.{system_of}
use Rattle.front_end.proofs.LoweredRuns.{first-same, inputs-wide, registers-wide, run-same, same-alone, twice}
use Rattle.lab_core.specs.Numbers.{RunNumbers}
use Rattle.lab_core.specs.Profiles.{profile_text}
use Rattle.lab_core.specs.Trials.{trials}
use Rattle.journal_check.specs.Tokens.{number_named}
use Rattle.front_end.specs.Sources.{name_of}
use Rattle.lab_core.specs.Why.{cycle_line, rule_named, trials_text}
use Rattle.lab_top.specs.Named.{declared, named}
use Rattle.lab_top.specs.Runs.{asked_of, registers_before, text_in, trials_in}
use Rattle.lab_top.proofs.NamedAlike.{cycle_line-same, names_in, profile_text-same, trials_text-same}
use Rattle.lab_top.proofs.Registers.{left, left-fit}
use Rattle.lab_top.proofs.SameTrials.{same-trials}

-- a stimulus for the typed design's inputs fits them in each cycle
pub stimulus-fit : (d : Checked) (stimulus : InputVectors) → stimulus.widths ≡ typed_input_widths d → AlwaysFits stimulus → (k : ℕ) → HaveWidths (typed_input_widths d) (inputs_of stimulus k)
stimulus-fit d stimulus fits always k = subst (λ (ws : List ℕ). HaveWidths ws (inputs_of stimulus k)) fits (always k)

module _ (d : Checked) (design : Parts) (lowered : IsLowered d design) where
  -- and those of what it is lowered to
  pub stimulus-wide : (widths : List ℕ) → widths ≡ typed_input_widths d → widths ≡ core.input_widths design
  stimulus-wide widths fits = fits ∙ sym (inputs-wide d design lowered)

  names-same : names_in design ≡ names_in (declared d)
  names-same = lowered.names ∙ sym (twice named (λ (r : CoreRule). r.name) d.rules)

  module _ (valid : IsValid design) (inputs : InputsByCycle) (fit : (k : ℕ) → HaveWidths (typed_input_widths d) (inputs k)) where
    -- the registers that a cycle finds
    abbrev pub found : ℕ → List BitVector
    found cycle = left (core_cycle.system_of design) inputs (core_run.first_values design) (cycle - 1)

    pub registers-same : (cycle : ℕ) → found cycle ≡ registers_before d inputs cycle
    registers-same cycle i = last_registers (first-same d design lowered i) (run-same d design lowered valid inputs fit (cycle - 1) i)

    pub core-fit : (k : ℕ) → HaveWidths (core.input_widths design) (inputs k)
    core-fit k = subst (λ (ws : List ℕ). HaveWidths ws (inputs k)) (sym (inputs-wide d design lowered)) (fit k)

    registers-fit : (cycle : ℕ) → HaveWidths (register_widths d) (found cycle)
    registers-fit cycle = subst (λ (ws : List ℕ). HaveWidths ws (found cycle)) (registers-wide d design lowered) (left-fit design valid inputs core-fit (cycle - 1))

    -- its trials
    pub trials-same : (cycle : ℕ) → trials (core_cycle.system_of design) (inputs cycle) (found cycle) ≡ trials_in d inputs cycle
    trials-same cycle =
        same-trials (typed_input_widths d) (register_widths d) (core_cycle.system_of design) (system_of d) (same-alone d design lowered valid) (inputs cycle) (fit cycle) (found cycle) (registers-fit cycle)
        ∙ ap (trials (system_of d) (inputs cycle)) (registers-same cycle)

    -- and what `why` writes of it
    pub text-same : (only : Option ℕ) (cycle : ℕ)
        → cycle_line design cycle (inputs cycle) (found cycle) ++ trials_text design only (trials (core_cycle.system_of design) (inputs cycle) (found cycle)) ≡ text_in d only inputs cycle
    text-same only cycle =
        ap₂ (λ (x y : List ℕ). x ++ y)
        (cycle_line-same design (declared d) lowered.registers lowered.inputs names-same cycle (inputs cycle) (found cycle) ∙ ap (cycle_line (declared d) cycle (inputs cycle)) (registers-same cycle))
        (trials_text-same design (declared d) lowered.registers lowered.inputs names-same only _ ∙ ap (trials_text (declared d) only) (trials-same cycle))

  -- the rule of a name
  named-same : (name : List ℕ) → number_named (map name_of d.rules) name ≡ rule_named design name
  named-same name = ap (λ (names : List (List ℕ)). number_named names name) (sym lowered.names)

  -- what `profile` writes of numbers
  pub profile-same : (marks : List ℕ) (numbers : RunNumbers) → profile_text design marks numbers ≡ profile_text (declared d) marks numbers
  profile-same marks numbers = profile_text-same design (declared d) lowered.registers lowered.inputs names-same marks numbers

  -- the rule that is asked for
  pub asked-none : (name : List ℕ) → rule_named design name ≡ None → asked_of d (Some name) ≡ None
  asked-none name is = ap (option_map (λ rule. Some rule)) (named-same name ∙ is)

  pub asked-some : (name : List ℕ) (rule : ℕ) → rule_named design name ≡ Some rule → asked_of d (Some name) ≡ Some (Some rule)
  asked-some name rule is = ap (option_map (λ rule. Some rule)) (named-same name ∙ is)
