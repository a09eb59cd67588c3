-- What a rule of a typed tree does when it runs alone, after Kôika's semantics with an empty scheduler log (Bourgeat
-- et al., PLDI 2020): its events and how it ends. The registers that it leaves are those after its events.
use Rattle.std.specs.Prelude.{List, [], Option}
use Rattle.kw_bits.specs.BitVector.{BitVector}
use Rattle.koika_types.specs.declared.value.Value.{Value}
use Rattle.typed_core.specs.Alone.{alone_ports}
use Rattle.typed_core.specs.Evaluation.{Ending, Value as Reached, Stop}
use Rattle.typed_core.specs.declared.outcome.Alone.{Alone}
use Rattle.typed_core.specs.declared.outcome.Outcome.{Outcome}
use Rattle.typed_core.specs.declared.outcome.Outcome.TheVariants as ends
use Rattle.typed_core.specs.declared.outcome.Stopped.{Stopped}
use Rattle.typed_core.specs.declared.outcome.Stopped.TheVariants as stopped
use Rattle.koika_check.specs.Meaning.{rule_body}
use Rattle.koika_check.specs.declared.checked.Checked.{Checked}
use Rattle.koika_check.specs.declared.typed.Typed.{Typed}

-- a body that reaches its end, and one that is stopped
abbrev pub outcome_of : Ending (Option Value) Stopped → Outcome
outcome_of (Reached value) = ends.Done
outcome_of (Stop stopped.Abort) = ends.Abort
outcome_of (Stop (stopped.Refused access)) = ends.OwnClash access

-- the events and the outcome of a rule's body that runs alone on these inputs and registers
abbrev pub typed_alone : Checked → List BitVector → List BitVector → Typed → Alone
typed_alone d inputs regs body =
    let end = rule_body d inputs (alone_ports regs) body [] in
    record { events = end.events; outcome = outcome_of end.ending }
