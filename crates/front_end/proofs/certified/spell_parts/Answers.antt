use Rattle.std.proofs.Common.{List, ℕ, inl, inr, sym, ap, subst, ◌∙◌}
use Rattle.std.proofs.lemmas.Result.{err_from_is_err_and}
use Rattle.one_rule.specs.Hosts.{host_specs}
use Rattle.stim_report.specs.Stimuli.{stimulus_of}
use Rattle.front_end.specs.Sources.{IsIllTyped, SpellsDesign, design_part}
use Rattle.front_end.proofs.CutAgain.{design_part-again}
use Rattle.front_end.proofs.DistinctNames.{distinct-names}
use Rattle.front_end.proofs.WordNames.{word-names}
use Rattle.front_end.proofs.Reading.{fault-of-part, stimulus-fits, widths-valid}
use Rattle.front_end.proofs.certified.spell_parts.Goals as goal

pub read_design-requires-clause-cut : goal.read_design-requires-clause-cut
read_design-requires-clause-cut g c = c.requires.design ∙ sym (design_part-again c.args.source.now) ∙ ap design_part (sym c.requires.design)

pub returns-in_err-design-clause-refused : goal.returns-in_err-design-clause-refused
returns-in_err-design-clause-refused g c =
    let p = err_from_is_err_and c.from_residual.result c.from_residual.ensures.1 in
    rw (p.1, p.2)
    (fault-of-part _ _ c.in_err-design.field-0.0
    (λ fault h. inr (inl (c.requires.short, subst (λ (s : List ℕ). IsIllTyped (host_specs c.args.hosts.now) s fault) c.requires.design h)))
    c.in_err-design.ensures.refused)

pub read_stimulus-requires-clause-widths : goal.read_stimulus-requires-clause-widths
read_stimulus-requires-clause-widths g c = widths-valid c.in_ok-design.design c.in_ok-shape.shape c.in_ok-design.ensures.typed c.in_ok-shape.ensures

pub returns-clause-spelled : goal.returns-clause-spelled
returns-clause-spelled g c =
    record {
      first = record { short = c.requires.short; spelled = subst (λ (s : List ℕ). SpellsDesign (host_specs c.args.hosts.now) s c.in_ok-design.design) c.requires.design c.in_ok-design.ensures.spelled };
      given = sym (λ i. stimulus_of (c.in_ok-shape.ensures i) (c.requires.stimulus_line i) (c.requires.stimulus i)) ∙ c.in_ok-stimulus.ensures.stimulus;
    }

pub invariant_of-result-clause-names : goal.invariant_of-result-clause-names
invariant_of-result-clause-names g c =
    let design = c.in_ok-design.ensures.spelled in
    word-names (host_specs c.args.hosts.now) design.tree c.in_ok-design.design design.spelled.derived.design.declarations design.typed

pub invariant_of-result-clause-distinct : goal.invariant_of-result-clause-distinct
invariant_of-result-clause-distinct g c = distinct-names (host_specs c.args.hosts.now) c.args.parts.design.now c.in_ok-design.design c.in_ok-design.ensures.spelled

pub invariant_of-result-clause-stimulus_fits : goal.invariant_of-result-clause-stimulus_fits
invariant_of-result-clause-stimulus_fits g c = stimulus-fits c.in_ok-design.design c.in_ok-shape.shape _ _ _ c.in_ok-shape.ensures c.in_ok-stimulus.ensures.stimulus
