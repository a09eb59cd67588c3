use Rattle.std.proofs.Common.{◌==◌, ℕ, not, ap, ◌∙◌}
use Rattle.std.specs.Int.{bit_at}
use Rattle.rule_log.specs.Flags.{place}
use Rattle.rule_log.proofs.Bits.{flag_of_both, some_of_both}
use Rattle.rule_log.proofs.flags.PortFlags.and_also.Goals as goal

pub returns-clause-flags : goal.returns-clause-flags
returns-clause-flags c write port =
    ap (λ (x : ℕ). bit_at x (place write port) == 1) (c.union.ensures tt) ∙ flag_of_both c.args.self.0 c.args.other.0 (place write port)

pub returns-clause-some : goal.returns-clause-some
returns-clause-some c h = ap (λ (x : ℕ). not (x == 0)) (c.union.ensures tt) ∙ some_of_both c.args.self.0 c.args.other.0 h
