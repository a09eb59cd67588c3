use Rattle.std.proofs.Common.{◌≡◌, ℕ, List, ap, ◌∙◌}
use Rattle.std.proofs.lemmas.Result.{err_from_is_err_and}
use Rattle.one_rule.specs.Hosts.{host_specs}
use Rattle.stim_report.specs.Cuts.{parts_of}
use Rattle.stream_run.proofs.Joining.{good-head, head-alone, ill-head, no-head, whole-head}
use Rattle.stream_run.proofs.session.answer_source.Goals as goal

pub returns-in_err-head-clause-finishes : goal.returns-in_err-head-clause-finishes
returns-in_err-head-clause-finishes g c =
    let p = err_from_is_err_and c.from_residual-in_err-head.result c.from_residual-in_err-head.ensures.1 in
    rw (p.1, p.2) (no-head (host_specs c.args.hosts.now) _ _ _ c.in_ok-reader.ensures _ c.in_err-head.ensures.refused)

pub lowered_of-requires-clause-alone : goal.lowered_of-requires-clause-alone
lowered_of-requires-clause-alone g c = ap (λ (bytes : List ℕ). (parts_of bytes).stimulus) c.deref.ensures.value ∙ head-alone _ _ _ _ c.in_ok-head.ensures.taken

pub returns-in_err-lowered-clause-finishes : goal.returns-in_err-lowered-clause-finishes
returns-in_err-lowered-clause-finishes g c =
    let p = err_from_is_err_and c.from_residual-in_err-lowered.result c.from_residual-in_err-lowered.ensures.1 in
    rw (p.1, p.2)
    (ill-head (host_specs c.args.hosts.now) _ _ _ c.in_ok-reader.ensures _ c.in_ok-head.head.bytes.items c.deref.result.now c.in_ok-head.head.is_open c.in_ok-head.ensures.taken c.deref.ensures.value _ c.in_err-lowered.ensures.refused)

pub returns-clause-finishes : goal.returns-clause-finishes
returns-clause-finishes g c =
    good-head (host_specs c.args.hosts.now) _ _ _ c.in_ok-reader.ensures _ c.in_ok-head.head.bytes.items c.deref.result.now c.in_ok-head.head.is_open c.in_ok-head.ensures.taken c.deref.ensures.value
    c.deref-2.result.now c.in_ok-lowered.lowered.checked _ _ c.answer_design.result c.deref-2.ensures.value c.in_ok-lowered.ensures.spelled c.source_parts-line.ensures.first_line c.answer_design.ensures.finishes

pub returns-clause-whole : goal.returns-clause-whole
returns-clause-whole g c =
    whole-head (host_specs c.args.hosts.now) _ (g.K.Sink.written c.args.sink.now) _ c.in_ok-reader.ensures _ _ _ c.in_ok-head.head.bytes.items c.in_ok-head.head.is_open c.answer_design.result c.in_ok-head.ensures.taken c.answer_design.ensures.whole
    (λ shut. ap g.S.Source.left (c.answer_design.ensures.unread shut))
