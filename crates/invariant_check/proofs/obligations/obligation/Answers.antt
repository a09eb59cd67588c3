use Rattle.std.proofs.Common.{sym, subst}
use Rattle.clause_check.specs.Clauses.{Cnf}
use Rattle.invariant_check.specs.Kept.{SaysWhatBreaks}
use Rattle.invariant_check.proofs.Bounds.{named_bound}
use Rattle.invariant_check.proofs.Breaking.{says_what_breaks}
use Rattle.invariant_check.proofs.Idle.{only_idle}
use Rattle.invariant_check.proofs.Runs.{kept_in_every_run}
use Rattle.invariant_check.proofs.obligations.obligation.Goals as goal

pub returns-clause-says : goal.returns-clause-says
returns-clause-says c =
    let a = c.args.aig.now in
    let invariant = c.args.invariant.now.clauses in
    let claimed = c.args.claimed.now in
    let parts = c.in_ok-parts.ensures in
    subst (λ (f : Cnf). SaysWhatBreaks a invariant claimed f) (sym c.in_ok-formula.ensures)
    (says_what_breaks a invariant claimed parts.aig parts.claim)

pub returns-clause-kept : goal.returns-clause-kept
returns-clause-kept c = λ holds never.
    let a = c.args.aig.now in
    let invariant = c.args.invariant.now.clauses in
    let claimed = c.args.claimed.now in
    let parts = c.in_ok-parts.ensures in
    kept_in_every_run a invariant claimed c.in_ok-formula.formula parts.aig
    (subst (λ (f : Cnf). SaysWhatBreaks a invariant claimed f) (sym c.in_ok-formula.ensures)
    (says_what_breaks a invariant claimed parts.aig parts.claim)) never holds

pub returns-clause-empty : goal.returns-clause-empty
returns-clause-empty c = λ some is.
    let a = c.args.aig.now in
    let invariant = c.args.invariant.now.clauses in
    let claimed = c.args.claimed.now in
    let parts = c.in_ok-parts.ensures in
    only_idle a invariant claimed parts.claim some (rw c.in_ok-formula.ensures at is)

pub returns-clause-named : goal.returns-clause-named
returns-clause-named c =
    let parts = c.in_ok-parts.ensures in
    rw c.in_ok-formula.ensures
    (named_bound c.args.aig.now c.args.invariant.now.clauses c.args.claimed.now parts.aig parts.claim)
