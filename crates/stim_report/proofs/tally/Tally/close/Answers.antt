use Rattle.std.proofs.Common.{ap, ◌∙◌}
use Rattle.kw_bits.specs.BitVector.{BitVector}
use Rattle.kw_bits.specs.Reserved.{ReservedList}
use Rattle.stim_report.specs.Summary.{Totals}
use Rattle.stim_report.specs.Tallies.{closed}
use Rattle.stim_report.proofs.CountedCycles.{closes}
use Rattle.stim_report.proofs.tally.Tally.close.Goals as goal

pub returns : goal.returns
returns c =
    let inside = c.self.inside in
    let before : Totals = record { registers = inside.registers; rules = inside.rules; cycles = inside.cycles; counts = inside.counts.items; last = inside.last.items } in
    closes before c.replace.new.last.items c.args.regs.now (ap (λ (r : ReservedList BitVector). r.items) c.replace.ensures)
    ∙ ap (λ (t : Totals). closed t c.args.regs.now) c.self.view_is
