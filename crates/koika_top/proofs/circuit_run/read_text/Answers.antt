use Rattle.std.proofs.Common.{inl}
use Rattle.std.proofs.lemmas.Result.{err_from_is_err_and}
use Rattle.koika_top.proofs.CircuitTexts.{fault-of-part, few-found, no-text, text-found}
use Rattle.koika_top.proofs.circuit_run.read_text.Goals as goal

pub returns-in_err-lines-clause-refused : goal.returns-in_err-lines-clause-refused
returns-in_err-lines-clause-refused c =
    let p = err_from_is_err_and c.from_residual.result c.from_residual.ensures.1 in
    rw (p.1, p.2)
    (fault-of-part _ _ c.in_err-lines.field-0.0 (λ fault h. inl (c.requires.short, rw (← c.requires.cut) h)) c.in_err-lines.ensures.fault)

pub returns-clause-text : goal.returns-clause-text
returns-clause-text c =
    text-found c.args.source.now _ c.in_ok-lines.lines c.requires.short c.requires.cut c.in_ok-lines.ensures.lines _ c.accept.ensures.lines c.accept.ensures.no_fault

pub returns-clause-few : goal.returns-clause-few
returns-clause-few c =
    few-found c.args.source.now _ c.in_ok-lines.lines c.requires.short c.requires.within c.in_ok-lines.ensures.lines _ c.accept.ensures.lines

pub returns-clause-refused : goal.returns-clause-refused
returns-clause-refused c =
    no-text c.args.source.now _ c.in_ok-lines.lines c.requires.short c.requires.cut c.in_ok-lines.ensures.lines _ c.accept.ensures.fault
