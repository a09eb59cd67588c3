use Rattle.std.proofs.Common.{◌≡◌, ◌%◌, ◌&&◌, not, sym, ap, ap₂, ◌∙◌, arith}
use Rattle.aig_blast.proofs.PairRules.{odd-value, less-of-second, and-of-same}
use Rattle.aig_blast.proofs.rules.of_opposite_gate.Goals as goal

pub returns-in-Some : goal.returns-in-Some
returns-in-Some c count v values known_a known_b =
    let a = c.args.a in
    let b = c.args.b in
    let rest = c.in-Some.rest in
    let turned = ap v c.not.ensures.negation ∙ values.opposite rest in
    record {
      first = known_b.lit;
      second = omega (arith, c.not.ensures.variable, c.in-Some.ensures.lit count known_a.left known_a.right);
      same = ap (λ y. v b.lit && y) turned ∙ less-of-second (v b.lit) (v a.left && v a.right) (v rest) (c.in-Some.ensures.value v) ∙ sym (ap (λ x. x && v b.lit) (odd-value count v a known_a c.requires));
    }

pub returns : goal.returns
returns c count v values known_a known_b =
    let a = c.args.a in
    let b = c.args.b in
    let odd : b.lit % 2 ≡ 1 = omega arith in
    let stands = c.in_ok-shared.ensures.lit count known_a.left known_a.right in
    record {
      first = stands;
      second = stands;
      same = and-of-same (v c.in_ok-shared.shared) (not (v a.left && v a.right)) (not (v b.left && v b.right)) (c.in_ok-shared.ensures.value v values)
          ∙ sym (ap₂ (λ x y. x && y) (odd-value count v a known_a c.requires) (odd-value count v b known_b odd));
    }
