use Rattle.koika_top.proofs.plain_engine.PlainEngine.begin.Goals as goal

pub returns-clause-stands : goal.returns-clause-stands
returns-clause-stands c = c.in_ok-last.ensures c.args.stimulus.now
