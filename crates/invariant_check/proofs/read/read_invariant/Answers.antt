use Rattle.std.proofs.Common.{◌≡◌, ℕ, List, Err, ap, subst, ◌∙◌}
use Rattle.std.proofs.lemmas.Result.{err_from_is_err_and}
use Rattle.kw_base.specs.Fault.{fault_at}
use Rattle.kw_base.specs.declared.fault.Fault.{Fault}
use Rattle.kw_base.specs.Texts.{lines_of}
use Rattle.clause_check.proofs.Refusals.{passes, refused}
use Rattle.aig_blast.specs.AigRun.{first_words}
use Rattle.aig_blast.specs.Aigs.{AigParts}
use Rattle.aig_blast.specs.declared.aig.LatchWord.{LatchWord}
use Rattle.invariant_check.specs.Bits.{register_bits}
use Rattle.invariant_check.specs.Invariants.{clauses_from, invariant_of}
use Rattle.invariant_check.proofs.Reading.{read-false, read-fault, read-ok, read_of}
use Rattle.invariant_check.proofs.read.read_invariant.Goals as goal

pub returns-in_err-clauses-clause-fault : goal.returns-in_err-clauses-clause-fault
returns-in_err-clauses-clause-fault c =
    let a = c.args.aig.now in
    let same = c.in_ok-registers.ensures ∙ c.as_slice.ensures ∙ ap (λ (x : AigParts). x.latches) c.aig.view_is in
    let p = err_from_is_err_and c.from_residual-in_err-clauses.result c.from_residual-in_err-clauses.ensures.1 in
    rw (p.1, p.2)
    (passes ℕ ℕ c.in_err-clauses.field-0.0
    (λ (fault : Fault). clauses_from (register_bits c.in_ok-registers.registers.latches.now) c.args.first_line
    (lines_of c.args.bytes.now) ≡ Err fault)
    (λ (fault : Fault). invariant_of (register_bits a.latches) (first_words a.latches) c.args.first_line c.args.bytes.now
    ≡ Err fault) c.in_err-clauses.ensures.fault
    (λ fault is.
    read-fault a.latches c.args.first_line c.args.bytes.now fault
    (subst (λ (latches : List LatchWord). clauses_from (register_bits latches) c.args.first_line
    (lines_of c.args.bytes.now) ≡ Err fault) same is)))

pub returns-in-Some-clause-fault : goal.returns-in-Some-clause-fault
returns-in-Some-clause-fault c =
    let a = c.args.aig.now in
    let same = c.in_ok-registers.ensures ∙ c.as_slice.ensures ∙ ap (λ (x : AigParts). x.latches) c.aig.view_is in
    refused ℕ c.fault.result (fault_at 92 (record { line = c.in-Some.line; column = 1 }))
    (λ (fault : Fault). invariant_of (register_bits a.latches) (first_words a.latches) c.args.first_line c.args.bytes.now ≡ Err fault) c.fault.ensures
    (read-false a.latches c.args.first_line c.args.bytes.now c.in_ok-clauses.clauses.formula.clauses
    c.in_ok-clauses.clauses.false_line c.in-Some.line c.in-Some.is
    (read_of a.latches c.in_ok-registers.registers.latches.now c.args.first_line c.args.bytes.now
    c.in_ok-clauses.clauses.formula.clauses c.in_ok-clauses.clauses.false_line same c.in_ok-clauses.ensures.read))

pub returns-clause-invariant : goal.returns-clause-invariant
returns-clause-invariant c =
    let a = c.args.aig.now in
    let same = c.in_ok-registers.ensures ∙ c.as_slice.ensures ∙ ap (λ (x : AigParts). x.latches) c.aig.view_is in
    (read-ok a.latches c.args.first_line c.args.bytes.now c.in_ok-clauses.clauses.formula.clauses
    c.in_ok-clauses.clauses.false_line c.in-None.is
    (read_of a.latches c.in_ok-registers.registers.latches.now c.args.first_line c.args.bytes.now
    c.in_ok-clauses.clauses.formula.clauses c.in_ok-clauses.clauses.false_line same c.in_ok-clauses.ensures.read)).0

pub returns-clause-first : goal.returns-clause-first
returns-clause-first c =
    let a = c.args.aig.now in
    let same = c.in_ok-registers.ensures ∙ c.as_slice.ensures ∙ ap (λ (x : AigParts). x.latches) c.aig.view_is in
    (read-ok a.latches c.args.first_line c.args.bytes.now c.in_ok-clauses.clauses.formula.clauses
    c.in_ok-clauses.clauses.false_line c.in-None.is
    (read_of a.latches c.in_ok-registers.registers.latches.now c.args.first_line c.args.bytes.now
    c.in_ok-clauses.clauses.formula.clauses c.in_ok-clauses.clauses.false_line same c.in_ok-clauses.ensures.read)).1
