use Rattle.net_simplify.proofs.Growing.{gains_added, gains_constant}
use Rattle.net_simplify.proofs.reduced.add_simplest.Goals as goal

pub returns-in_ok-id-in-Constant : goal.returns-in_ok-id-in-Constant
returns-in_ok-id-in-Constant c = gains_constant c.args.net.now c.add.new.self c.args.op c.in-Constant.value c.in_ok-id-in-Constant.id c.requires.lean c.in-Constant.ensures c.in_ok-id-in-Constant.ensures.net c.in_ok-id-in-Constant.ensures.adds

pub returns-in_ok-id-in-Operator : goal.returns-in_ok-id-in-Operator
returns-in_ok-id-in-Operator c =
    let form = c.in-Operator.ensures in
    gains_added c.args.net.now c.args.op c.in-Operator.simpler c.requires.lean form.stands.0 form.stands.1 form.stands.2 form.equals c.add-in-Operator.new.self c.in_ok-id-in-Operator.id c.in_ok-id-in-Operator.ensures.net c.in_ok-id-in-Operator.ensures.adds
