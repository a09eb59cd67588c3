use Rattle.koika_check.proofs.operators.is_value.Goals as goal

pub returns-in-Some-None : goal.returns-in-Some-None
returns-in-Some-None c arrays = rw (c.in-Some-None.is-0, c.in-Some-None.is-1, c.wrong_type.ensures)

pub returns-in-None-default : goal.returns-in-None-default
returns-in-None-default c arrays = rw (c.in-None-default.is-0, c.wrong_type-in-None-default.ensures)
