use Rattle.std.proofs.Common.{List, ℕ, ◌+◌, refl, ap, ◌∙◌, subst, arith}
use Rattle.std.proofs.lemmas.List.{with_items_is}
use Rattle.stim_report.specs.Summary.{Totals}
use Rattle.stim_report.specs.Tallies.{counted}
use Rattle.stim_report.specs.inner.Tallies.{AddsFired}
use Rattle.stim_report.proofs.CountedCycles.{counts_more}
use Rattle.stim_report.proofs.tally.Tally.count.Goals as goal

pub returns : goal.returns
returns c =
    let inside = c.self.inside in
    let before : Totals = record { registers = inside.registers; rules = inside.rules; cycles = inside.cycles; counts = inside.counts.items; last = inside.last.items } in
    let adds = subst (λ (counts : List ℕ). AddsFired counts c.add_fired.new.counts c.args.fired.now) c.deref_mut.ensures.value c.add_fired.ensures in
    let items = with_items_is inside.counts c.add_fired.new.counts (omega (arith, adds.count, inside.counts.ok.0)) in
    ap (λ (counts : List ℕ). record { registers = inside.registers; rules = inside.rules; cycles = inside.cycles + 1; counts = counts; last = inside.last.items }) items
    ∙ counts_more before c.add_fired.new.counts (inside.cycles + 1) c.args.fired.now adds refl
    ∙ ap (λ (t : Totals). counted t c.args.fired.now) c.self.view_is
