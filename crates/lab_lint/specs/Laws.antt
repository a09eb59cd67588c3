-- What holds of the lists: each refusal of each trial is in them, on all inputs and registers. It adds nothing to what
-- the lists are.
use Rattle.std.specs.Prelude.{◌≡◌, ℕ, false, List, Contains, IsTrue}
use Rattle.kw_bits.specs.BitVector.{BitVector}
use Rattle.typed_core.specs.Valid.{IsValid}
use Rattle.typed_core.specs.Widths.{HaveWidths, input_widths, register_widths}
use Rattle.typed_core.specs.declared.access.Access.{Access}
use Rattle.typed_core.specs.declared.design.Parts.{Parts}
use Rattle.one_rule.specs.Cycle.{system_of}
use Rattle.one_rule.specs.Stimulus.{AlwaysFits, InputVectors, StimulusFits, inputs_of}
use Rattle.attempt_log.specs.declared.cause.Cause.TheVariants as cause
use Rattle.koika_check.specs.Typing.{IsTypedDesign}
use Rattle.koika_check.specs.declared.checked.Checked.{Checked}
use Rattle.koika_lower.specs.Lowering.{IsLowered}
use Rattle.lab_core.specs.Numbers.{is_unwatched, verdict_in}
use Rattle.lab_core.specs.Runs.{trials_in}
use Rattle.lab_core.specs.Trials.{trials}
use Rattle.lab_core.specs.declared.trial.Trial.{Trial}
use Rattle.lab_core.specs.declared.trial.TrialVerdict.TheVariants as verdict
use Rattle.lab_lint.specs.Rules.{may_be_refused}
use Rattle.lab_lint.specs.Order.{IsOrder, MayPrecede, Order, is_scheduled}
use Rattle.lab_lint.specs.Refusals.{clashed, clashing, own_writes}

-- the design is what a well typed design is lowered to
pub record IsDesignOf (d : Checked) (design : Parts) : Type 0 where
  pub typed : IsTypedDesign d
  pub lowered : IsLowered d design
  pub valid : IsValid design

-- a cycle of it may begin with these inputs and registers
pub record MayBegin (design : Parts) (given found : List BitVector) : Type 0 where
  pub inputs : HaveWidths (input_widths design) given
  pub registers : HaveWidths (register_widths design) found

-- a write that a trial's rule refuses by its own accesses is in the list of the rule and the register
abbrev pub OwnsAreListed : Type 0
OwnsAreListed = (d : Checked) (design : Parts) (inputs regs : List BitVector) (t : Trial) (a : Access)
    → IsDesignOf d design → MayBegin design inputs regs → Contains (trials (system_of design) inputs regs) t
    → t.verdict ≡ verdict.Refused (cause.OwnClash a)
    → IsTrue (is_scheduled d.nodes t.rule) × Contains (own_writes d t.rule a.register) a

-- the two accesses of a clash are in the lists of the two rules and the register, and the one rule may precede the
-- other
abbrev pub ClashesAreListed : Type 0
ClashesAreListed = (d : Checked) (design : Parts) (inputs regs : List BitVector)
    (t : Trial) (a e : Access) (earlier : ℕ)
    → IsDesignOf d design → MayBegin design inputs regs → Contains (trials (system_of design) inputs regs) t
    → t.verdict ≡ verdict.Refused (cause.Clash a earlier e)
    → MayPrecede d.nodes earlier t.rule
    × Contains (clashing d t.rule earlier a.register) a
    × Contains (clashed d t.rule earlier a.register) e

-- an assertion of a rule that may be neither refused nor untried is looked at in each cycle of each run
abbrev pub OthersAreWatched : Type 0
OthersAreWatched = (d : Checked) (design : Parts) (order : Order) (stimulus : InputVectors) (cycle rule : ℕ)
    → IsDesignOf d design → IsOrder d.nodes order → StimulusFits design stimulus → AlwaysFits stimulus
    → may_be_refused order d rule ≡ false → order.may_be_untried rule ≡ false
    → is_unwatched (verdict_in rule (trials_in design (inputs_of stimulus) cycle)) ≡ false
