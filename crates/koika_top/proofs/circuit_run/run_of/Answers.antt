use Rattle.std.proofs.Common.{inl, inr}
use Rattle.std.proofs.lemmas.Result.{err_from_is_err_and}
use Rattle.front_end.proofs.FewCycles.{few-cycles}
use Rattle.koika_top.proofs.CircuitTexts.{fault-of-part, few-flags, few-inputs, given-to, long-as, stimulus-fits, widths-fit}
use Rattle.koika_top.proofs.circuit_run.run_of.Goals as goal

pub of-requires : goal.of-requires
of-requires c = c.requires.few

pub read_stimulus-requires-clause-few : goal.read_stimulus-requires-clause-few
read_stimulus-requires-clause-few c = few-inputs c.args.text c.in_ok-made.made.shape c.requires.few c.in_ok-made.ensures.shape_is

pub read_stimulus-requires-clause-widths : goal.read_stimulus-requires-clause-widths
read_stimulus-requires-clause-widths c = widths-fit c.args.text _ _ _ c.recall.ensures c.in_ok-made.ensures

pub returns-in_err-stimulus-clause-refused : goal.returns-in_err-stimulus-clause-refused
returns-in_err-stimulus-clause-refused c =
    let p = err_from_is_err_and c.from_residual-in_err-stimulus.result c.from_residual-in_err-stimulus.ensures.1 in
    let shape = c.in_ok-made.ensures.shape_is in
    rw (p.1, p.2)
    (fault-of-part _ _ c.in_err-stimulus.field-0.0
    (λ fault h. inl (c.args.text, c.requires.text, given-to c.args.source.now c.args.text _ _ _ _ shape c.requires.first_line c.requires.stimulus h))
    c.in_err-stimulus.ensures.fault)

pub returns-in_err-fits-clause-refused : goal.returns-in_err-fits-clause-refused
returns-in_err-fits-clause-refused c =
    let p = err_from_is_err_and c.from_residual-in_err-fits.result c.from_residual-in_err-fits.ensures.1 in
    let shape = c.in_ok-made.ensures.shape_is in
    let given = given-to c.args.source.now c.args.text _ _ _ _ shape c.requires.first_line c.requires.stimulus c.in_ok-stimulus.ensures.stimulus in
    rw (p.1, p.2)
    (fault-of-part _ _ c.in_err-fits.field-0.0
    (λ fault h. inr (h.0, (c.args.text, c.in_ok-stimulus.stimulus, record { text = c.requires.text; given = given }, long-as c.args.cycles c.args.text _ _ shape h.1)))
    c.in_err-fits.ensures.refused)

pub returns-clause-run : goal.returns-clause-run
returns-clause-run c =
    let shape = c.in_ok-made.ensures.shape_is in
    record { text = c.requires.text; given = given-to c.args.source.now c.args.text _ _ _ _ shape c.requires.first_line c.requires.stimulus c.in_ok-stimulus.ensures.stimulus }

pub returns-clause-circuit : goal.returns-clause-circuit
returns-clause-circuit c = c.in_ok-made.ensures

pub returns-clause-within : goal.returns-clause-within
returns-clause-within c = long-as c.args.cycles c.args.text _ _ c.in_ok-made.ensures.shape_is c.in_ok-fits.ensures.within

pub invariant_of-result-clause-registers_fit : goal.invariant_of-result-clause-registers_fit
invariant_of-result-clause-registers_fit c = c.in_ok-made.ensures.registers

pub invariant_of-result-clause-rules_fit : goal.invariant_of-result-clause-rules_fit
invariant_of-result-clause-rules_fit c = c.in_ok-made.ensures.rules

pub invariant_of-result-clause-stimulus_fits : goal.invariant_of-result-clause-stimulus_fits
invariant_of-result-clause-stimulus_fits c = stimulus-fits c.args.text _ _ _ _ _ c.in_ok-stimulus.stimulus c.in_ok-made.ensures c.in_ok-stimulus.ensures.stimulus

pub invariant_of-result-clause-few_flags : goal.invariant_of-result-clause-few_flags
invariant_of-result-clause-few_flags c = few-flags c.args.text _ _ c.requires.few c.in_ok-made.ensures.shape_is c.in_ok-made.ensures.bads

pub invariant_of-result-clause-few_cycles : goal.invariant_of-result-clause-few_cycles
invariant_of-result-clause-few_cycles c = few-cycles c.args.cycles _ _ c.in_ok-fits.ensures.within
