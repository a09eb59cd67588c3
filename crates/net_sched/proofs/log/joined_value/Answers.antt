use Rattle.std.proofs.Common.{ℕ, [], ap, subst, ◌∙◌, Bool}
use Rattle.std.specs.Prelude.{if◌then◌else◌}
use Rattle.net_graph.specs.Values.{value_at}
use Rattle.net_action.specs.Wires.{HasWire}
use Rattle.net_action.proofs.Growth.{grows_on, values_before, wire_kept}
use Rattle.net_sched.proofs.Pushing.{same_width}
use Rattle.net_sched.proofs.log.joined_value.Goals as goal

pub choice-requires-clause-one_width : goal.choice-requires-clause-one_width
choice-requires-clause-one_width c = (
  c.requires.one_width.0,
  wire_kept [] c.args.net.now c.both.new.net c.args.first c.requires.one_width.0 (c.both.ensures.grows []) c.requires.one_width.1,
  wire_kept [] c.args.net.now c.both.new.net c.args.second c.requires.one_width.0 (c.both.ensures.grows []) c.requires.one_width.2,
)

pub returns-in_err-value-clause-grows : goal.returns-in_err-value-clause-grows
returns-in_err-value-clause-grows c inputs = grows_on inputs c.args.net.now c.both.new.net c.choice.new.net (c.both.ensures.grows inputs) (c.choice.ensures.grows inputs)

pub returns-clause-grows : goal.returns-clause-grows
returns-clause-grows c inputs = grows_on inputs c.args.net.now c.both.new.net c.choice.new.net (c.both.ensures.grows inputs) (c.choice.ensures.grows inputs)

pub returns-clause-wire : goal.returns-clause-wire
returns-clause-wire c width h =
    subst (λ (w : ℕ). HasWire c.choice.new.net c.in_ok-value.value w) (same_width c.args.net.now c.args.second c.requires.one_width.0 width c.requires.one_width.2 h)
    (c.in_ok-value.ensures.wire c.requires.one_width.0 (wire_kept [] c.args.net.now c.both.new.net c.args.first c.requires.one_width.0 (c.both.ensures.grows []) c.requires.one_width.1))

pub returns-clause-value : goal.returns-clause-value
returns-clause-value c s values are =
    c.in_ok-value.ensures.value s values are
    ∙ ap (λ (b : Bool). if b then value_at values c.args.first else value_at values c.args.second)
    (c.in_ok-noted.ensures.up s values (values_before s [] c.both.new.net c.choice.new.net values (c.choice.ensures.grows []) are))
