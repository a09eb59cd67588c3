use Rattle.std.proofs.Common.{ℕ, List, length, Ok, sym, ap, ◌∙◌, arith}
use Rattle.std.proofs.lemmas.Result.{err_from_is_err_and}
use Rattle.aiger_text.specs.inner.Steps.{parts_of}
use Rattle.aiger_text.proofs.Circuits.{all_placed-count, circuit_of}
use Rattle.aiger_text.proofs.Lines.{aig_by-all, aig_by-gates, aig_by-lits, aig_by-nexts, faults_pass}
use Rattle.aiger_text.proofs.read.to_aig.Goals as goal

pub returns-in_err-nexts-clause-fault : goal.returns-in_err-nexts-clause-fault
returns-in_err-nexts-clause-fault c =
    let p = err_from_is_err_and c.from_residual.result c.from_residual.ensures.1 in
    rw (p.1, p.2) (faults_pass c.in_err-nexts.field-0.0 _ _ c.in_err-nexts.ensures.fault (λ fault reads. aig_by-nexts (parts_of c.args.draft.now) fault reads))

pub returns-in_err-lits-clause-fault : goal.returns-in_err-lits-clause-fault
returns-in_err-lits-clause-fault c =
    let p = err_from_is_err_and c.from_residual-in_err-lits.result c.from_residual-in_err-lits.ensures.1 in
    rw (p.1, p.2) (faults_pass c.in_err-lits.field-0.0 _ _ c.in_err-lits.ensures.fault (λ fault reads. aig_by-lits (parts_of c.args.draft.now) c.in_ok-nexts.nexts.items fault c.in_ok-nexts.ensures.placed reads))

pub returns-in_err-gates-clause-fault : goal.returns-in_err-gates-clause-fault
returns-in_err-gates-clause-fault c =
    let p = err_from_is_err_and c.from_residual-in_err-gates.result c.from_residual-in_err-gates.ensures.1 in
    rw (p.1, p.2) (faults_pass c.in_err-gates.field-0.0 _ _ c.in_err-gates.ensures.fault (λ fault reads. aig_by-gates (parts_of c.args.draft.now) c.in_ok-nexts.nexts.items c.in_ok-lits.lits.items fault c.in_ok-nexts.ensures.placed c.in_ok-lits.ensures.placed reads))

pub in_words-requires-clause-nexts : goal.in_words-requires-clause-nexts
in_words-requires-clause-nexts c = ap (λ (lits : List ℕ). length lits) c.as_slice-next_lits.ensures.value ∙ all_placed-count _ _ _ _ c.in_ok-nexts.nexts.items c.in_ok-nexts.ensures.placed

pub in_words-requires-clause-lits : goal.in_words-requires-clause-lits
in_words-requires-clause-lits c = ap (λ (lits : List ℕ). length lits) c.as_slice-output_lits.ensures.value ∙ all_placed-count _ _ _ _ c.in_ok-lits.lits.items c.in_ok-lits.ensures.placed

pub in_words-requires-clause-aig : goal.in_words-requires-clause-aig
in_words-requires-clause-aig c =
    circuit_of (parts_of c.args.draft.now) c.as_slice-next_lits.result.now c.as_slice-output_lits.result.now c.in_ok-gates.gates.items c.requires.draft c.requires.few
    (omega (arith, c.args.draft.now.outputs.ok.0, c.args.draft.now.outputs.ok.1, c.args.draft.now.outputs.small)) (c.in_ok-nexts.ensures.placed ∙ ap Ok (sym c.as_slice-next_lits.ensures.value))
    (c.in_ok-lits.ensures.placed ∙ ap Ok (sym c.as_slice-output_lits.ensures.value)) c.in_ok-gates.ensures.placed

pub returns-clause-aig : goal.returns-clause-aig
returns-clause-aig c =
    aig_by-all (parts_of c.args.draft.now) c.as_slice-next_lits.result.now c.as_slice-output_lits.result.now c.in_ok-gates.gates.items (c.in_ok-nexts.ensures.placed ∙ ap Ok (sym c.as_slice-next_lits.ensures.value))
    (c.in_ok-lits.ensures.placed ∙ ap Ok (sym c.as_slice-output_lits.ensures.value)) c.in_ok-gates.ensures.placed ∙ ap Ok (sym c.in_ok-aig.ensures)
