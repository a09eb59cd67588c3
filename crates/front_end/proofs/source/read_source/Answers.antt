use Rattle.std.proofs.Common.{inr}
use Rattle.std.proofs.lemmas.Result.{err_from_is_err_and}
use Rattle.one_rule.specs.Hosts.{host_specs}
use Rattle.front_end.proofs.DistinctNames.{distinct-names}
use Rattle.front_end.proofs.WordNames.{word-names}
use Rattle.front_end.proofs.Reading.{fault-of-part, stimulus-at, stimulus-fits, widths-valid}
use Rattle.front_end.proofs.source.read_source.Goals as goal

pub read_stimulus-requires-clause-widths : goal.read_stimulus-requires-clause-widths
read_stimulus-requires-clause-widths g c = widths-valid c.in_ok-design.design c.in_ok-shape.shape c.in_ok-design.ensures.typed c.in_ok-shape.ensures

pub returns-in_err-stimulus-clause-refused : goal.returns-in_err-stimulus-clause-refused
returns-in_err-stimulus-clause-refused g c =
    let p = err_from_is_err_and c.from_residual-in_err-stimulus.result c.from_residual-in_err-stimulus.ensures.1 in
    rw (p.1, p.2)
    (fault-of-part _ _ c.in_err-stimulus.field-0.0
    (λ fault h. inr (
      c.in_ok-design.design,
      c.in_ok-design.ensures.spelled,
      stimulus-at c.args.source.now c.in_ok-design.design c.in_ok-shape.shape _ _ _ c.in_ok-shape.ensures c.source_parts-parts.ensures.first_line c.source_parts-parts.ensures.stimulus h,
    ))
    c.in_err-stimulus.ensures.fault)

pub invariant_of-result-clause-names : goal.invariant_of-result-clause-names
invariant_of-result-clause-names g c =
    let design = c.in_ok-design.ensures.spelled in
    word-names (host_specs c.args.hosts.now) design.tree c.in_ok-design.design design.spelled.derived.design.declarations design.typed

pub invariant_of-result-clause-distinct : goal.invariant_of-result-clause-distinct
invariant_of-result-clause-distinct g c = distinct-names (host_specs c.args.hosts.now) c.args.source.now c.in_ok-design.design c.in_ok-design.ensures.spelled

pub invariant_of-result-clause-stimulus_fits : goal.invariant_of-result-clause-stimulus_fits
invariant_of-result-clause-stimulus_fits g c = stimulus-fits c.in_ok-design.design c.in_ok-shape.shape _ _ _ c.in_ok-shape.ensures c.in_ok-stimulus.ensures.stimulus
