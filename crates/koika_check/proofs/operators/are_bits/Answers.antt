use Rattle.koika_check.proofs.operators.are_bits.Goals as goal

pub returns-in-Some-None : goal.returns-in-Some-None
returns-in-Some-None c arrays a l r = rw (← c.in-Some-None.ensures.width arrays a l, ← c.in-Some-None.ensures'.width arrays a r, c.wrong_type.ensures)

pub returns-in-None-default : goal.returns-in-None-default
returns-in-None-default c arrays a l r = rw (← c.in-None-default.ensures.width arrays a l, c.wrong_type-in-None-default.ensures)
