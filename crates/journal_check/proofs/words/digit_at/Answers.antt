use Rattle.std.proofs.Common.{ℕ, ◌*◌, ◌/◌, ◌%◌, ◌^◌, ap, ◌∙◌, arith}
use Rattle.std.proofs.Math.Nat.{mod-lt}
use Rattle.stim_report.specs.Report.{hex_digit}
use Rattle.stim_report.proofs.Hex.{in_table, shifted_by_places}
use Rattle.journal_check.proofs.words.digit_at.Goals as goal

pub returns : goal.returns
returns c =
    in_table (c.args.number / 2 ^ (4 * c.args.place) % 16) (mod-lt (c.args.number / 2 ^ (4 * c.args.place)) (omega arith))
    ∙ ap (λ (n : ℕ). hex_digit (n % 16)) (shifted_by_places c.args.number c.args.place)
