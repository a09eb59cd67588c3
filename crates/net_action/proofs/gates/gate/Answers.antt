use Rattle.net_action.proofs.gates.gate.Goals as goal

pub returns-in_err-id-clause-grows : goal.returns-in_err-id-clause-grows
returns-in_err-id-clause-grows c inputs = c.added.ensures.grows inputs (c.requires.inner inputs)

pub returns-clause-grows : goal.returns-clause-grows
returns-clause-grows c inputs = c.added.ensures.grows inputs (c.requires.inner inputs)
