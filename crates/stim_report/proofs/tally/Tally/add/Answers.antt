use Rattle.std.proofs.Common.{ℕ, ◌+◌, ◌-◌, sym, ap, ◌∙◌, subst, arith}
use Rattle.std.specs.List.{AllByRecursion}
use Rattle.stim_report.specs.Shapes.{RowFits}
use Rattle.stim_report.specs.Summary.{Totals}
use Rattle.stim_report.specs.Tallies.{totals_on}
use Rattle.stim_report.proofs.TotalsOfBatches.{fits_before, keeps_totals, length-last_values, totals_added, totals_joined}
use Rattle.stim_report.proofs.tally.Tally.add.Goals as goal

pub keep_last-requires-clause-room : goal.keep_last-requires-clause-room
keep_last-requires-clause-room c =
    let fit = subst (λ (t : Totals). AllByRecursion (RowFits t.registers t.rules) c.args.rows.now) (sym c.self.view_is) c.requires.fit in
    let count = length-last_values c.self.inside.registers c.self.inside.rules c.args.rows.now c.requires.some fit in
    rw c.as_slice-2.ensures (omega (arith, count, c.self.invariant.room_for_all))

pub invariant_of-self : goal.invariant_of-self
invariant_of-self c =
    let inside = c.self.inside in
    let fit = subst (λ (t : Totals). AllByRecursion (RowFits t.registers t.rules) c.args.rows.now) (sym c.self.view_is) c.requires.fit in
    let from = c.from-2.ensures ∙ c.requires.goes_on ∙ ap (λ (t : Totals). t.cycles) (sym c.self.view_is) in
    let adds = rw c.as_slice.ensures at c.add_counts.ensures in
    rw (c.keep_last.ensures.items, c.keep_last.ensures.capacity, c.as_slice-2.ensures)
    (keeps_totals inside.registers inside.rules inside.cycles inside.counts.items c.add_counts.new.counts.items inside.last.items inside.last.capacity c.args.rows.now c.from-2.result
    (c.from-2.result + (c.len.result - 1)) c.self.invariant from (ap (λ (n : ℕ). c.from-2.result + (n - 1)) c.len.ensures) adds c.requires.some fit)

pub returns-clause-fields : goal.returns-clause-fields
returns-clause-fields c =
    let inside = c.self.inside in
    let now : Totals = record { registers = inside.registers; rules = inside.rules; cycles = inside.cycles; counts = inside.counts.items; last = inside.last.items } in
    let from = c.from-2.ensures ∙ c.requires.goes_on ∙ ap (λ (t : Totals). t.cycles) (sym c.self.view_is) in
    let adds = rw c.as_slice.ensures at c.add_counts.ensures in
    rw (c.keep_last.ensures.items, c.as_slice-2.ensures)
    (totals_added now c.args.rows.now c.add_counts.new.counts.items (c.from-2.result + (c.len.result - 1)) adds (ap (λ (n : ℕ). n + (c.len.result - 1)) from ∙ ap (λ (n : ℕ). inside.cycles + (n - 1)) c.len.ensures)
    ∙ ap (λ (t : Totals). totals_on t c.args.rows.now) c.self.view_is)

pub returns-clause-joined : goal.returns-clause-joined
returns-clause-joined c = λ shape before fits is.
    let inside = c.self.inside in
    let now : Totals = record { registers = inside.registers; rules = inside.rules; cycles = inside.cycles; counts = inside.counts.items; last = inside.last.items } in
    let fit = subst (λ (t : Totals). AllByRecursion (RowFits t.registers t.rules) c.args.rows.now) (sym c.self.view_is) c.requires.fit in
    let from = c.from-2.ensures ∙ c.requires.goes_on ∙ ap (λ (t : Totals). t.cycles) (sym c.self.view_is) in
    let adds = rw c.as_slice.ensures at c.add_counts.ensures in
    rw (c.keep_last.ensures.items, c.as_slice-2.ensures)
    (totals_joined shape before c.args.rows.now now c.add_counts.new.counts.items (c.from-2.result + (c.len.result - 1)) (c.self.view_is ∙ is) fits (fits_before shape before now c.args.rows.now (c.self.view_is ∙ is) fit)
    c.requires.some adds (ap (λ (n : ℕ). n + (c.len.result - 1)) from ∙ ap (λ (n : ℕ). inside.cycles + (n - 1)) c.len.ensures))
