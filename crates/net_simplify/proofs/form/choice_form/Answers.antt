use Rattle.std.proofs.Common.{sym, ◌∙◌}
use Rattle.std.specs.Prelude.{nat_eq}
use Rattle.std.proofs.lemmas.Bool.{eqb-true}
use Rattle.net_simplify.proofs.ChoiceForms.{and_stands, choice-and, choice-condition, choice-first, choice-not, choice-or, choice-second, or_stands}
use Rattle.net_simplify.proofs.Standing.{within_node}
use Rattle.net_simplify.proofs.form.choice_form.Goals as goal

pub known_if_set-first-requires-clause-condition : goal.known_if_set-first-requires-clause-condition
known_if_set-first-requires-clause-condition c = within_node c.args.net.now c.requires.lean.is_net c.args.condition c.requires.stands.0

pub known_if_set-first-requires-clause-node : goal.known_if_set-first-requires-clause-node
known_if_set-first-requires-clause-node c = within_node c.args.net.now c.requires.lean.is_net c.args.a c.requires.stands.1

pub known_if_clear-second-requires-clause-condition : goal.known_if_clear-second-requires-clause-condition
known_if_clear-second-requires-clause-condition c = within_node c.args.net.now c.requires.lean.is_net c.args.condition c.requires.stands.0

pub known_if_clear-second-requires-clause-node : goal.known_if_clear-second-requires-clause-node
known_if_clear-second-requires-clause-node c = within_node c.args.net.now c.requires.lean.is_net c.args.b c.requires.stands.2

pub width-is_bit-requires : goal.width-is_bit-requires
width-is_bit-requires c = within_node c.args.net.now c.requires.lean.is_net c.args.a c.requires.stands.1

pub known_at-requires-clause-node : goal.known_at-requires-clause-node
known_at-requires-clause-node c = within_node c.args.net.now c.requires.lean.is_net c.args.condition c.requires.stands.0

pub two_form-requires-clause-stands : goal.two_form-requires-clause-stands
two_form-requires-clause-stands c = or_stands c.args.net.now c.requires.lean c.args.condition c.args.a c.args.b c.requires.stands c.known_at.result c.known_if_set-first.result c.known_if_clear-second.result (nat_eq c.width-is_bit.result 1) (nat_eq c.args.a c.args.b) c.known_at.ensures c.known_if_set-first.ensures c.known_if_clear-second.ensures (λ h. sym c.width-is_bit.ensures.width ∙ eqb-true c.width-is_bit.result 1 h) (eqb-true c.args.a c.args.b) c.in-ConditionOrSecond.ensures.leaves

pub two_form-requires-in-ConditionAndFirst-clause-stands : goal.two_form-requires-in-ConditionAndFirst-clause-stands
two_form-requires-in-ConditionAndFirst-clause-stands c = and_stands c.args.net.now c.requires.lean c.args.condition c.args.a c.args.b c.requires.stands c.known_at.result c.known_if_set-first.result c.known_if_clear-second.result (nat_eq c.width-is_bit.result 1) (nat_eq c.args.a c.args.b) c.known_at.ensures c.known_if_set-first.ensures c.known_if_clear-second.ensures (λ h. sym c.width-is_bit.ensures.width ∙ eqb-true c.width-is_bit.result 1 h) (eqb-true c.args.a c.args.b) c.in-ConditionAndFirst.ensures.leaves

pub returns-in-First : goal.returns-in-First
returns-in-First c = choice-first c.args.net.now c.requires.lean c.args.condition c.args.a c.args.b c.requires.stands c.known_at.result c.known_if_set-first.result c.known_if_clear-second.result (nat_eq c.width-is_bit.result 1) (nat_eq c.args.a c.args.b) c.known_at.ensures c.known_if_set-first.ensures c.known_if_clear-second.ensures (λ h. sym c.width-is_bit.ensures.width ∙ eqb-true c.width-is_bit.result 1 h) (eqb-true c.args.a c.args.b) c.in-First.ensures.comes_to

pub returns-in-Second : goal.returns-in-Second
returns-in-Second c = choice-second c.args.net.now c.requires.lean c.args.condition c.args.a c.args.b c.requires.stands c.known_at.result c.known_if_set-first.result c.known_if_clear-second.result (nat_eq c.width-is_bit.result 1) (nat_eq c.args.a c.args.b) c.known_at.ensures c.known_if_set-first.ensures c.known_if_clear-second.ensures (λ h. sym c.width-is_bit.ensures.width ∙ eqb-true c.width-is_bit.result 1 h) (eqb-true c.args.a c.args.b) c.in-Second.ensures.comes_to

pub returns-in-Condition : goal.returns-in-Condition
returns-in-Condition c = choice-condition c.args.net.now c.requires.lean c.args.condition c.args.a c.args.b c.requires.stands c.known_at.result c.known_if_set-first.result c.known_if_clear-second.result (nat_eq c.width-is_bit.result 1) (nat_eq c.args.a c.args.b) c.known_at.ensures c.known_if_set-first.ensures c.known_if_clear-second.ensures (λ h. sym c.width-is_bit.ensures.width ∙ eqb-true c.width-is_bit.result 1 h) (eqb-true c.args.a c.args.b) c.in-Condition.ensures.leaves c.in-Condition.ensures.comes_to

pub returns-in-NotCondition : goal.returns-in-NotCondition
returns-in-NotCondition c = choice-not c.args.net.now c.requires.lean c.args.condition c.args.a c.args.b c.requires.stands c.known_at.result c.known_if_set-first.result c.known_if_clear-second.result (nat_eq c.width-is_bit.result 1) (nat_eq c.args.a c.args.b) c.known_at.ensures c.known_if_set-first.ensures c.known_if_clear-second.ensures (λ h. sym c.width-is_bit.ensures.width ∙ eqb-true c.width-is_bit.result 1 h) (eqb-true c.args.a c.args.b) c.in-NotCondition.ensures.leaves c.in-NotCondition.ensures.comes_to c.not_form.result c.not_form.ensures

pub returns-in-ConditionOrSecond : goal.returns-in-ConditionOrSecond
returns-in-ConditionOrSecond c = choice-or c.args.net.now c.requires.lean c.args.condition c.args.a c.args.b c.requires.stands c.known_at.result c.known_if_set-first.result c.known_if_clear-second.result (nat_eq c.width-is_bit.result 1) (nat_eq c.args.a c.args.b) c.known_at.ensures c.known_if_set-first.ensures c.known_if_clear-second.ensures (λ h. sym c.width-is_bit.ensures.width ∙ eqb-true c.width-is_bit.result 1 h) (eqb-true c.args.a c.args.b) c.in-ConditionOrSecond.ensures.leaves c.in-ConditionOrSecond.ensures.comes_to c.two_form.result c.two_form.ensures

pub returns-in-ConditionAndFirst : goal.returns-in-ConditionAndFirst
returns-in-ConditionAndFirst c = choice-and c.args.net.now c.requires.lean c.args.condition c.args.a c.args.b c.requires.stands c.known_at.result c.known_if_set-first.result c.known_if_clear-second.result (nat_eq c.width-is_bit.result 1) (nat_eq c.args.a c.args.b) c.known_at.ensures c.known_if_set-first.ensures c.known_if_clear-second.ensures (λ h. sym c.width-is_bit.ensures.width ∙ eqb-true c.width-is_bit.result 1 h) (eqb-true c.args.a c.args.b) c.in-ConditionAndFirst.ensures.leaves c.in-ConditionAndFirst.ensures.comes_to c.two_form-in-ConditionAndFirst.result c.two_form-in-ConditionAndFirst.ensures
