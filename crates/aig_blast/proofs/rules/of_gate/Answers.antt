use Rattle.std.proofs.Common.{◌≡◌, ◌%◌, ◌&&◌, sym, ap, ap₂, ◌∙◌, arith}
use Rattle.aig_blast.proofs.PairRules.{even-value, odd-value, less-of}
use Rattle.aig_blast.proofs.rules.of_gate.Goals as goal

pub returns : goal.returns
returns c count v values known_a known_b =
    let a = c.args.a in
    let b = c.args.b in
    let rest = c.in_ok-rest.rest in
    let odd : b.lit % 2 ≡ 1 = omega arith in
    let va = even-value count v a known_a c.requires in
    let turned = ap v c.not.ensures.negation ∙ values.opposite rest in
    record {
      first = known_a.lit;
      second = omega (arith, c.not.ensures.variable, c.in_ok-rest.ensures.lit count known_b.left known_b.right);
      same = ap₂ (λ x y. x && y) va turned ∙ less-of (v a.left && v a.right) (v b.left && v b.right) (v rest) (c.in_ok-rest.ensures.value v) ∙ sym (ap₂ (λ x y. x && y) va (odd-value count v b known_b odd));
    }
