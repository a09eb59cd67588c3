use Rattle.std.proofs.lemmas.Result.{err_from_is_err_and}
use Rattle.front_end.specs.Marks.{Marks}
use Rattle.koika_top.proofs.CircuitTold.{has-own, nothing-after}
use Rattle.front_end.proofs.Told.{told-as, told-none}
use Rattle.koika_top.proofs.machine_run.MachineRun.tell_shown.Goals as goal

pub returns-in_err-none : goal.returns-in_err-none
returns-in_err-none g c =
    let p = err_from_is_err_and c.from_residual.result c.from_residual.ensures.1 in
    rw (p.1, p.2) (told-none _ _ _)

pub returns-in_err-teller : goal.returns-in_err-teller
returns-in_err-teller g c =
    let p = err_from_is_err_and c.from_residual-in_err-teller.result c.from_residual-in_err-teller.ensures.1 in
    rw (p.1, p.2) (told-none _ _ _)

pub tell-requires-clause-none : goal.tell-requires-clause-none
tell-requires-clause-none g c =
    let marks : Marks = record { names = c.new.result; rules = c.new-2.result } in
    has-own c.in_ok-teller.teller c.args.shape.now marks (c.in_ok-teller.ensures.rows marks c.in_ok-none.ensures)

pub returns : goal.returns
returns g c =
    let marks : Marks = record { names = c.new.result; rules = c.new-2.result } in
    told-as _ _ _ c.tell.result
    (nothing-after c.in_ok-teller.teller c.args.shape.now marks c.args.shown _ c.new.ensures (c.in_ok-teller.ensures.rows marks c.in_ok-none.ensures) c.in_ok-teller.ensures.shown)
    c.tell.ensures
