use Rattle.koika_check.proofs.operators.width_of_bits.Goals as goal

pub returns-in-None : goal.returns-in-None
returns-in-None c arrays a p = rw (← c.in-None.ensures.width arrays a p) c.wrong_type.ensures
