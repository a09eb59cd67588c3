use Rattle.std.proofs.Common.{◌≡◌, ◌%◌, ◌&&◌, not, sym, ap, ap₂, ◌∙◌, arith}
use Rattle.aig_blast.specs.Graphs.{choice}
use Rattle.aig_blast.proofs.PairRules.{choice-not, even-value, not-not, odd-value}
use Rattle.aig_blast.proofs.rules.choice_by.Goals as goal

pub returns-then-whole-eq1 : goal.returns-then-whole-eq1
returns-then-whole-eq1 c count v values whole a b left right =
    let m = c.in_ok-arms.arms in
    let lits = c.in_ok-arms.ensures.lits count v a b in
    let odd_a : c.args.a.lit % 2 ≡ 1 = omega arith in
    let odd_b : c.args.b.lit % 2 ≡ 1 = omega arith in
    let inner = ap₂ (λ x y. x && y) (ap v (sym left) ∙ odd-value count v c.args.a a odd_a) (ap v (sym right) ∙ odd-value count v c.args.b b odd_b) ∙ c.in_ok-arms.ensures.value v values in
    record {
      stands = whole.lit;
      condition = lits.0;
      first = lits.1;
      second = lits.2;
      value = odd-value count v c.args.whole whole c.if-whole-eq1.true ∙ ap not inner ∙ not-not (choice (v m.condition) (v m.first) (v m.second));
    }

pub returns : goal.returns
returns c count v values whole a b left right =
    let m = c.in_ok-arms.arms in
    let lits = c.in_ok-arms.ensures.lits count v a b in
    let odd_a : c.args.a.lit % 2 ≡ 1 = omega arith in
    let odd_b : c.args.b.lit % 2 ≡ 1 = omega arith in
    let even : c.args.whole.lit % 2 ≡ 0 = omega arith in
    let inner = ap₂ (λ x y. x && y) (ap v (sym left) ∙ odd-value count v c.args.a a odd_a) (ap v (sym right) ∙ odd-value count v c.args.b b odd_b) ∙ c.in_ok-arms.ensures.value v values in
    let first = ap v c.not.ensures.negation ∙ values.opposite m.first in
    let second = ap v c.not-2.ensures.negation ∙ values.opposite m.second in
    record {
      stands = whole.lit;
      condition = lits.0;
      first = omega (arith, c.not.ensures.variable, lits.1);
      second = omega (arith, c.not-2.ensures.variable, lits.2);
      value = even-value count v c.args.whole whole even ∙ inner ∙ choice-not (v m.condition) (v m.first) (v m.second) ∙ sym (ap₂ (λ x y. choice (v m.condition) x y) first second);
    }
