use Rattle.std.proofs.Common.{ℕ, ap, ◌∙◌, replicate}
use Rattle.kw_bits.specs.BitVector.{BitVector}
use Rattle.kw_bits.specs.Reserved.{ReservedList}
use Rattle.stim_report.proofs.TotalsOfBatches.{new_totals}
use Rattle.stim_report.proofs.tally.Tally.new.Goals as goal

pub returns : goal.returns
returns c =
    new_totals c.args.shape.now c.in_ok-copy_named.field-0 c.in_ok-copy_names.field-0 c.in_ok-no_counts.field-0.items c.in_ok-with_capacity.field-0.items
    (c.in_ok-copy_named.ensures ∙ c.as_slice.ensures) (c.in_ok-copy_names.ensures ∙ c.as_slice-2.ensures)
    (c.in_ok-no_counts.ensures ∙ ap (λ (n : ℕ). replicate n 0) c.len.ensures) (ap (λ (r : ReservedList BitVector). r.items) c.in_ok-with_capacity.ensures)
