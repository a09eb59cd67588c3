use Rattle.std.proofs.Common.{Ok, Err, inl, inr, ⊎_elim}
use Rattle.std.proofs.lemmas.Result.{err_from_is_err_and}
use Rattle.front_end.proofs.Reading.{fault-of-part}
use Rattle.lab_certify.proofs.Bits.{same-invariant}
use Rattle.lab_certify.proofs.claimed.Claimed.read.Goals as goal

pub returns-clause-claims : goal.returns-clause-claims
returns-clause-claims g c =
    let it = c.in_ok-lowered in
    let aig = c.in_ok-aig in
    let read = c.in_ok-invariant in
    record {
      spelled = it.ensures.spelled;
      named = c.in_ok-rules.ensures.rules;
      read = same-invariant it.lowered.checked aig.aig aig.ensures it.ensures.typed c.args.first_line
          c.args.invariant.now (Ok read.invariant.clauses) read.ensures.invariant;
    }

pub returns-clause-ready : goal.returns-clause-ready
returns-clause-ready g c =
    let read = c.in_ok-invariant.ensures in
    record {
      typed = c.in_ok-lowered.ensures.typed;
      valid = c.recall.ensures;
      circuit = c.in_ok-aig.ensures;
      rules = c.in_ok-rules.ensures.within;
      bits = read.variables;
      literals = read.literals;
      first = read.first;
    }

pub returns-in_err-lowered-clause-refused : goal.returns-in_err-lowered-clause-refused
returns-in_err-lowered-clause-refused g c =
    let p = err_from_is_err_and c.from_residual.result c.from_residual.ensures.1 in
    rw (p.1, p.2)
    (fault-of-part _ _ c.in_err-lowered.field-0.0 (λ fault h. ⊎_elim (λ a. inl a) (λ b. inr (inl b)) h)
    c.in_err-lowered.ensures.refused)

pub returns-in_err-rules-clause-refused : goal.returns-in_err-rules-clause-refused
returns-in_err-rules-clause-refused g c =
    let p = err_from_is_err_and c.from_residual-in_err-rules.result c.from_residual-in_err-rules.ensures.1 in
    let it = c.in_ok-lowered in
    rw (p.1, p.2)
    (fault-of-part _ _ c.in_err-rules.field-0.0
    (λ fault h. inr (inr (inl (h.0, (it.lowered.checked, it.ensures.spelled, h.1))))) c.in_err-rules.ensures.unknown)

pub returns-in_err-invariant-clause-refused : goal.returns-in_err-invariant-clause-refused
returns-in_err-invariant-clause-refused g c =
    let p = err_from_is_err_and c.from_residual-in_err-invariant.result c.from_residual-in_err-invariant.ensures.1 in
    let it = c.in_ok-lowered in
    let aig = c.in_ok-aig in
    let rules = c.in_ok-rules in
    rw (p.1, p.2)
    (fault-of-part _ _ c.in_err-invariant.field-0.0
    (λ fault h.
    inr (inr (inr (
      it.lowered.checked,
      rules.rules.items,
      it.ensures.spelled,
      rules.ensures.rules,
      same-invariant it.lowered.checked aig.aig aig.ensures it.ensures.typed c.args.first_line c.args.invariant.now
          (Err fault) h,
    ))))
    c.in_err-invariant.ensures.fault)
