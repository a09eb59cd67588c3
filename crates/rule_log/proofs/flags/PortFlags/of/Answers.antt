use Rattle.std.proofs.Common.{◌≡◌, ◌==◌, ◌<◌, ℕ, Bool, true, false, ap, sym, ◌∙◌, arith}
use Rattle.std.specs.Int.{bit_at}
use Rattle.typed_core.specs.Valid.{IsPort}
use Rattle.rule_log.specs.Flags.{place}
use Rattle.rule_log.proofs.Bits.{flag_alone, one_shifted}
use Rattle.rule_log.proofs.flags.PortFlags.of.Goals as goal
use Rattle.rule_log.proofs.flags.PortFlags.of.Goals.{then-write, else-write}

small : (write : Bool) (port : ℕ) → IsPort port → place write port < 8
small true port p = omega arith
small false port p = omega arith

pub returns : goal.returns
returns c kind at p =
    let k = c.if-write.place in
    let is : k ≡ place c.args.write c.args.port =
    elim c.if-write.branch [
      | then-write w ↦ w.place-is ∙ ap (λ (b : Bool). place b c.args.port) (sym w.if-write.true)
      | else-write w ↦ w.place-is ∙ ap (λ (b : Bool). place b c.args.port) (sym w.if-write.false)
    ] in
    let below : k < 8 = omega (arith, is, small c.args.write c.args.port c.requires) in
    ap (λ (x : ℕ). bit_at x (place kind at) == 1) (one_shifted k below) ∙ flag_alone k (place kind at) ∙ ap (λ (x : ℕ). place kind at == x) is
