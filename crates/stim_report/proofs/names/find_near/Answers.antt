use Rattle.std.proofs.Common.{◌≡◌, Some, sym, ap, ◌∙◌}
use Rattle.std.proofs.lemmas.Slice.Eq.{bytes_eq-Decides}
use Rattle.stim_report.proofs.FirstOfNames.{number_at}
use Rattle.stim_report.proofs.names.find_near.Goals as goal

pub returns-then-eq : goal.returns-then-eq
returns-then-eq c =
    let named : c.name.result.now ≡ c.args.name.now = (bytes_eq-Decides c.name.result.now c.args.name.now).0 (sym c.eq.ensures ∙ c.if-eq.true) in
    record { number = number_at c.args.names.now c.args.name.now c.args.expected c.requires (c.name.ensures ∙ ap Some named) }
