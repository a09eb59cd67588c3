use Rattle.std.proofs.Common.{inl, inr, ◌∙◌}
use Rattle.std.proofs.lemmas.Result.{err_from_is_err_and}
use Rattle.koika_top.proofs.AigRuns.{aig-given, aig-long-as, aig-stimulus-fits, aig-widths-valid, few-inputs-told}
use Rattle.front_end.proofs.FewCycles.{few-cycles}
use Rattle.koika_top.proofs.CircuitTexts.{fault-of-part}
use Rattle.koika_top.proofs.aig_run.run_of.Goals as goal

pub read_stimulus-requires-clause-few : goal.read_stimulus-requires-clause-few
read_stimulus-requires-clause-few c = few-inputs-told c.args.aig c.in_ok-shape.shape c.requires.few c.in_ok-shape.ensures

pub read_stimulus-requires-clause-widths : goal.read_stimulus-requires-clause-widths
read_stimulus-requires-clause-widths c = aig-widths-valid c.args.aig c.in_ok-shape.shape c.recall.ensures.inputs c.in_ok-shape.ensures

pub returns-in_err-stimulus-clause-refused : goal.returns-in_err-stimulus-clause-refused
returns-in_err-stimulus-clause-refused c =
    let p = err_from_is_err_and c.from_residual-in_err-stimulus.result c.from_residual-in_err-stimulus.ensures.1 in
    rw (p.1, p.2)
    (fault-of-part _ _ c.in_err-stimulus.field-0.0
    (λ fault h. inl (c.requires.aig.said, c.requires.aig.holds, aig-given c.args.source.now c.requires.aig.said c.in_ok-shape.shape _ _ _ (c.in_ok-shape.ensures ∙ c.requires.aig.graph.shape) c.requires.first_line c.requires.stimulus h))
    c.in_err-stimulus.ensures.fault)

pub returns-in_err-fits-clause-refused : goal.returns-in_err-fits-clause-refused
returns-in_err-fits-clause-refused c =
    let p = err_from_is_err_and c.from_residual-in_err-fits.result c.from_residual-in_err-fits.ensures.1 in
    let held = c.requires.aig in
    let shape = c.in_ok-shape.ensures ∙ held.graph.shape in
    let given = aig-given c.args.source.now held.said c.in_ok-shape.shape _ _ _ shape c.requires.first_line c.requires.stimulus c.in_ok-stimulus.ensures.stimulus in
    rw (p.1, p.2)
    (fault-of-part _ _ c.in_err-fits.field-0.0
    (λ fault h. inr (h.0, (held.said, c.in_ok-stimulus.stimulus, record { holds = held.holds; given = given }, aig-long-as c.args.cycles held.said c.in_ok-shape.shape _ shape h.1)))
    c.in_err-fits.ensures.refused)

pub returns-clause-run : goal.returns-clause-run
returns-clause-run c =
    let held = c.requires.aig in
    let shape = c.in_ok-shape.ensures ∙ held.graph.shape in
    record {
      text = held;
      given = aig-given c.args.source.now held.said c.in_ok-shape.shape _ _ _ shape c.requires.first_line c.requires.stimulus c.in_ok-stimulus.ensures.stimulus;
      within = aig-long-as c.args.cycles held.said c.in_ok-shape.shape _ shape c.in_ok-fits.ensures.within;
    }

pub invariant_of-result-clause-shape_fits : goal.invariant_of-result-clause-shape_fits
invariant_of-result-clause-shape_fits c = c.in_ok-shape.ensures

pub invariant_of-result-clause-stimulus_fits : goal.invariant_of-result-clause-stimulus_fits
invariant_of-result-clause-stimulus_fits c = aig-stimulus-fits c.args.aig c.in_ok-shape.shape _ _ c.in_ok-stimulus.stimulus c.in_ok-shape.ensures c.in_ok-stimulus.ensures.stimulus

pub invariant_of-result-clause-few_cycles : goal.invariant_of-result-clause-few_cycles
invariant_of-result-clause-few_cycles c = few-cycles c.args.cycles _ _ c.in_ok-fits.ensures.within
