-- The word of a node by each step.
use Rattle.std.proofs.Common.{◌≡◌, ℕ, ◌≤◌, Fits, w64, get_or, lit<, refl, ap, subst, ◌∙◌, arith}
use Rattle.std.proofs.Math.Nat.{pow-le-pow_right}
use Rattle.std.proofs.lemmas.List.{get_or_default}
use Rattle.kw_bits.specs.BitVector.{BitVector, IsBits}
use Rattle.kw_bits.specs.Operators as op
use Rattle.kw_bits.proofs.OperatorLaws.{add-HasWidth, and-HasWidth, eq_bits-HasWidth, mul-HasWidth, not-HasWidth, or-HasWidth, sub-HasWidth, ult-HasWidth, ulte-HasWidth, xor-HasWidth}
use Rattle.net_graph.specs.Operators.{TakesTwo, two_value}
use Rattle.net_graph.specs.Values.{no_bits}
use Rattle.net_graph.specs.declared.node.NetTwo.TheVariants.{Add, And, Concat, EqBits, Mul, Neq, Or, Sub, Ult, Ulte, Xor}
use Rattle.net_graph.specs.declared.node.NetOne.TheVariants.{Not}
use Rattle.circuit_eval.specs.Programs.{Makes}
use Rattle.circuit_eval.specs.declared.program.Step.{Step}
use Rattle.circuit_eval.proofs.NodeWords.{by_masked, by_two, chosen, constant, copied, cut, input_there, inverted, joined, of_input, of_state, state_there}
use Rattle.circuit_eval.proofs.Programs.{of_ite, of_one, of_slice, of_two, of_uext}
use Rattle.circuit_eval.proofs.steps.word_of.Goals as goal

word_fits : (number : ℕ) (value : BitVector) → number ≡ value.number → IsBits value → value.width ≤ 64 → Fits w64 number
word_fits number value same bits narrow = omega (arith, same, bits.in_range, pow-le-pow_right {n = 2} (lit< tt) narrow)

pub at-requires-in-Both : goal.at-requires-in-Both
at-requires-in-Both c =
    let m = subst (λ (it : Step). Makes c.args.net.now c.args.id it) c.in-Both.is c.requires.makes in
    omega (arith, (of_two c.args.net.now c.args.id c.in-Both.a c.in-Both.b And c.requires.net m.0).first.within, c.requires.words)

pub at-requires-in-Both-2 : goal.at-requires-in-Both-2
at-requires-in-Both-2 c =
    let m = subst (λ (it : Step). Makes c.args.net.now c.args.id it) c.in-Both.is c.requires.makes in
    omega (arith, (of_two c.args.net.now c.args.id c.in-Both.a c.in-Both.b And c.requires.net m.0).second.within, c.requires.words)

pub returns-in-Both-clause-word : goal.returns-in-Both-clause-word
unfolding two_value TakesTwo
returns-in-Both-clause-word c =
    let m = subst (λ (it : Step). Makes c.args.net.now c.args.id it) c.in-Both.is c.requires.makes in
    by_two (record { inputs = c.args.sources.inputs.now; states = c.args.sources.states.now }) c.args.net.now c.args.words.now c.args.wides.now c.args.id c.requires.net c.requires.feeds c.requires.keeps And op.and (λ w. w) (λ w v t. t) (λ x y. refl) and-HasWidth (λ w h. h) c.in-Both.a c.in-Both.b c.at-in-Both.result c.at-in-Both-2.result c.and.result m c.at-in-Both.ensures c.at-in-Both-2.ensures c.and.ensures

pub at-requires-in-Either : goal.at-requires-in-Either
at-requires-in-Either c =
    let m = subst (λ (it : Step). Makes c.args.net.now c.args.id it) c.in-Either.is c.requires.makes in
    omega (arith, (of_two c.args.net.now c.args.id c.in-Either.a c.in-Either.b Or c.requires.net m.0).first.within, c.requires.words)

pub at-requires-in-Either-2 : goal.at-requires-in-Either-2
at-requires-in-Either-2 c =
    let m = subst (λ (it : Step). Makes c.args.net.now c.args.id it) c.in-Either.is c.requires.makes in
    omega (arith, (of_two c.args.net.now c.args.id c.in-Either.a c.in-Either.b Or c.requires.net m.0).second.within, c.requires.words)

pub returns-in-Either-clause-word : goal.returns-in-Either-clause-word
unfolding two_value TakesTwo
returns-in-Either-clause-word c =
    let m = subst (λ (it : Step). Makes c.args.net.now c.args.id it) c.in-Either.is c.requires.makes in
    by_two (record { inputs = c.args.sources.inputs.now; states = c.args.sources.states.now }) c.args.net.now c.args.words.now c.args.wides.now c.args.id c.requires.net c.requires.feeds c.requires.keeps Or op.or (λ w. w) (λ w v t. t) (λ x y. refl) or-HasWidth (λ w h. h) c.in-Either.a c.in-Either.b c.at-in-Either.result c.at-in-Either-2.result c.or.result m c.at-in-Either.ensures c.at-in-Either-2.ensures c.or.ensures

pub at-requires-in-OneOf : goal.at-requires-in-OneOf
at-requires-in-OneOf c =
    let m = subst (λ (it : Step). Makes c.args.net.now c.args.id it) c.in-OneOf.is c.requires.makes in
    omega (arith, (of_two c.args.net.now c.args.id c.in-OneOf.a c.in-OneOf.b Xor c.requires.net m.0).first.within, c.requires.words)

pub at-requires-in-OneOf-2 : goal.at-requires-in-OneOf-2
at-requires-in-OneOf-2 c =
    let m = subst (λ (it : Step). Makes c.args.net.now c.args.id it) c.in-OneOf.is c.requires.makes in
    omega (arith, (of_two c.args.net.now c.args.id c.in-OneOf.a c.in-OneOf.b Xor c.requires.net m.0).second.within, c.requires.words)

pub returns-in-OneOf-clause-word : goal.returns-in-OneOf-clause-word
unfolding two_value TakesTwo
returns-in-OneOf-clause-word c =
    let m = subst (λ (it : Step). Makes c.args.net.now c.args.id it) c.in-OneOf.is c.requires.makes in
    by_two (record { inputs = c.args.sources.inputs.now; states = c.args.sources.states.now }) c.args.net.now c.args.words.now c.args.wides.now c.args.id c.requires.net c.requires.feeds c.requires.keeps Xor op.xor (λ w. w) (λ w v t. t) (λ x y. refl) xor-HasWidth (λ w h. h) c.in-OneOf.a c.in-OneOf.b c.at-in-OneOf.result c.at-in-OneOf-2.result c.xor.result m c.at-in-OneOf.ensures c.at-in-OneOf-2.ensures c.xor.ensures

pub at-requires-in-Equal : goal.at-requires-in-Equal
at-requires-in-Equal c =
    let m = subst (λ (it : Step). Makes c.args.net.now c.args.id it) c.in-Equal.is c.requires.makes in
    omega (arith, (of_two c.args.net.now c.args.id c.in-Equal.a c.in-Equal.b EqBits c.requires.net m.0).first.within, c.requires.words)

pub at-requires-in-Equal-2 : goal.at-requires-in-Equal-2
at-requires-in-Equal-2 c =
    let m = subst (λ (it : Step). Makes c.args.net.now c.args.id it) c.in-Equal.is c.requires.makes in
    omega (arith, (of_two c.args.net.now c.args.id c.in-Equal.a c.in-Equal.b EqBits c.requires.net m.0).second.within, c.requires.words)

pub returns-in-Equal-clause-word : goal.returns-in-Equal-clause-word
unfolding two_value TakesTwo
returns-in-Equal-clause-word c =
    let m = subst (λ (it : Step). Makes c.args.net.now c.args.id it) c.in-Equal.is c.requires.makes in
    by_two (record { inputs = c.args.sources.inputs.now; states = c.args.sources.states.now }) c.args.net.now c.args.words.now c.args.wides.now c.args.id c.requires.net c.requires.feeds c.requires.keeps EqBits op.eq_bits (λ w. 1) (λ w v t. t) (λ x y. refl) eq_bits-HasWidth (λ w h. omega arith) c.in-Equal.a c.in-Equal.b c.at-in-Equal.result c.at-in-Equal-2.result c.equal.result m c.at-in-Equal.ensures c.at-in-Equal-2.ensures c.equal.ensures

pub at-requires-in-Unequal : goal.at-requires-in-Unequal
at-requires-in-Unequal c =
    let m = subst (λ (it : Step). Makes c.args.net.now c.args.id it) c.in-Unequal.is c.requires.makes in
    omega (arith, (of_two c.args.net.now c.args.id c.in-Unequal.a c.in-Unequal.b Neq c.requires.net m.0).first.within, c.requires.words)

pub at-requires-in-Unequal-2 : goal.at-requires-in-Unequal-2
at-requires-in-Unequal-2 c =
    let m = subst (λ (it : Step). Makes c.args.net.now c.args.id it) c.in-Unequal.is c.requires.makes in
    omega (arith, (of_two c.args.net.now c.args.id c.in-Unequal.a c.in-Unequal.b Neq c.requires.net m.0).second.within, c.requires.words)

pub returns-in-Unequal-clause-word : goal.returns-in-Unequal-clause-word
unfolding two_value TakesTwo
returns-in-Unequal-clause-word c =
    let m = subst (λ (it : Step). Makes c.args.net.now c.args.id it) c.in-Unequal.is c.requires.makes in
    by_two (record { inputs = c.args.sources.inputs.now; states = c.args.sources.states.now }) c.args.net.now c.args.words.now c.args.wides.now c.args.id c.requires.net c.requires.feeds c.requires.keeps Neq (λ (x y : BitVector). op.not (op.eq_bits x y)) (λ w. 1) (λ w v t. t) (λ x y. refl) (λ x y p q e. let h = eq_bits-HasWidth x y p q e in let n = not-HasWidth (op.eq_bits x y) h.0 in (n.0, n.1 ∙ h.1)) (λ w h. omega arith) c.in-Unequal.a c.in-Unequal.b c.at-in-Unequal.result c.at-in-Unequal-2.result c.differ.result m c.at-in-Unequal.ensures c.at-in-Unequal-2.ensures c.differ.ensures

pub at-requires-in-Below : goal.at-requires-in-Below
at-requires-in-Below c =
    let m = subst (λ (it : Step). Makes c.args.net.now c.args.id it) c.in-Below.is c.requires.makes in
    omega (arith, (of_two c.args.net.now c.args.id c.in-Below.a c.in-Below.b Ult c.requires.net m.0).first.within, c.requires.words)

pub at-requires-in-Below-2 : goal.at-requires-in-Below-2
at-requires-in-Below-2 c =
    let m = subst (λ (it : Step). Makes c.args.net.now c.args.id it) c.in-Below.is c.requires.makes in
    omega (arith, (of_two c.args.net.now c.args.id c.in-Below.a c.in-Below.b Ult c.requires.net m.0).second.within, c.requires.words)

pub returns-in-Below-clause-word : goal.returns-in-Below-clause-word
unfolding two_value TakesTwo
returns-in-Below-clause-word c =
    let m = subst (λ (it : Step). Makes c.args.net.now c.args.id it) c.in-Below.is c.requires.makes in
    by_two (record { inputs = c.args.sources.inputs.now; states = c.args.sources.states.now }) c.args.net.now c.args.words.now c.args.wides.now c.args.id c.requires.net c.requires.feeds c.requires.keeps Ult op.ult (λ w. 1) (λ w v t. t) (λ x y. refl) ult-HasWidth (λ w h. omega arith) c.in-Below.a c.in-Below.b c.at-in-Below.result c.at-in-Below-2.result c.below.result m c.at-in-Below.ensures c.at-in-Below-2.ensures c.below.ensures

pub at-requires-in-AtMost : goal.at-requires-in-AtMost
at-requires-in-AtMost c =
    let m = subst (λ (it : Step). Makes c.args.net.now c.args.id it) c.in-AtMost.is c.requires.makes in
    omega (arith, (of_two c.args.net.now c.args.id c.in-AtMost.a c.in-AtMost.b Ulte c.requires.net m.0).first.within, c.requires.words)

pub at-requires-in-AtMost-2 : goal.at-requires-in-AtMost-2
at-requires-in-AtMost-2 c =
    let m = subst (λ (it : Step). Makes c.args.net.now c.args.id it) c.in-AtMost.is c.requires.makes in
    omega (arith, (of_two c.args.net.now c.args.id c.in-AtMost.a c.in-AtMost.b Ulte c.requires.net m.0).second.within, c.requires.words)

pub returns-in-AtMost-clause-word : goal.returns-in-AtMost-clause-word
unfolding two_value TakesTwo
returns-in-AtMost-clause-word c =
    let m = subst (λ (it : Step). Makes c.args.net.now c.args.id it) c.in-AtMost.is c.requires.makes in
    by_two (record { inputs = c.args.sources.inputs.now; states = c.args.sources.states.now }) c.args.net.now c.args.words.now c.args.wides.now c.args.id c.requires.net c.requires.feeds c.requires.keeps Ulte op.ulte (λ w. 1) (λ w v t. t) (λ x y. refl) ulte-HasWidth (λ w h. omega arith) c.in-AtMost.a c.in-AtMost.b c.at-in-AtMost.result c.at-in-AtMost-2.result c.at_most.result m c.at-in-AtMost.ensures c.at-in-AtMost-2.ensures c.at_most.ensures

pub at-requires-in-Sum : goal.at-requires-in-Sum
at-requires-in-Sum c =
    let m = subst (λ (it : Step). Makes c.args.net.now c.args.id it) c.in-Sum.is c.requires.makes in
    omega (arith, (of_two c.args.net.now c.args.id c.in-Sum.a c.in-Sum.b Add c.requires.net m.0.0).first.within, c.requires.words)

pub at-requires-in-Sum-2 : goal.at-requires-in-Sum-2
at-requires-in-Sum-2 c =
    let m = subst (λ (it : Step). Makes c.args.net.now c.args.id it) c.in-Sum.is c.requires.makes in
    omega (arith, (of_two c.args.net.now c.args.id c.in-Sum.a c.in-Sum.b Add c.requires.net m.0.0).second.within, c.requires.words)

pub returns-in-Sum-clause-word : goal.returns-in-Sum-clause-word
unfolding two_value TakesTwo
returns-in-Sum-clause-word c =
    let m = subst (λ (it : Step). Makes c.args.net.now c.args.id it) c.in-Sum.is c.requires.makes in
    by_masked (record { inputs = c.args.sources.inputs.now; states = c.args.sources.states.now }) c.args.net.now c.args.words.now c.args.wides.now c.args.id c.requires.net c.requires.feeds c.requires.keeps Add op.add (λ w. w) (λ w v t. t) (λ x y. refl) add-HasWidth (λ w h. h) c.in-Sum.a c.in-Sum.b c.in-Sum.mask c.at-in-Sum.result c.at-in-Sum-2.result c.add.result m.0 m.1 c.at-in-Sum.ensures c.at-in-Sum-2.ensures c.add.ensures

pub at-requires-in-Difference : goal.at-requires-in-Difference
at-requires-in-Difference c =
    let m = subst (λ (it : Step). Makes c.args.net.now c.args.id it) c.in-Difference.is c.requires.makes in
    omega (arith, (of_two c.args.net.now c.args.id c.in-Difference.a c.in-Difference.b Sub c.requires.net m.0.0).first.within, c.requires.words)

pub at-requires-in-Difference-2 : goal.at-requires-in-Difference-2
at-requires-in-Difference-2 c =
    let m = subst (λ (it : Step). Makes c.args.net.now c.args.id it) c.in-Difference.is c.requires.makes in
    omega (arith, (of_two c.args.net.now c.args.id c.in-Difference.a c.in-Difference.b Sub c.requires.net m.0.0).second.within, c.requires.words)

pub returns-in-Difference-clause-word : goal.returns-in-Difference-clause-word
unfolding two_value TakesTwo
returns-in-Difference-clause-word c =
    let m = subst (λ (it : Step). Makes c.args.net.now c.args.id it) c.in-Difference.is c.requires.makes in
    by_masked (record { inputs = c.args.sources.inputs.now; states = c.args.sources.states.now }) c.args.net.now c.args.words.now c.args.wides.now c.args.id c.requires.net c.requires.feeds c.requires.keeps Sub op.sub (λ w. w) (λ w v t. t) (λ x y. refl) sub-HasWidth (λ w h. h) c.in-Difference.a c.in-Difference.b c.in-Difference.mask c.at-in-Difference.result c.at-in-Difference-2.result c.sub.result m.0 m.1 c.at-in-Difference.ensures c.at-in-Difference-2.ensures c.sub.ensures

pub at-requires-in-Product : goal.at-requires-in-Product
at-requires-in-Product c =
    let m = subst (λ (it : Step). Makes c.args.net.now c.args.id it) c.in-Product.is c.requires.makes in
    omega (arith, (of_two c.args.net.now c.args.id c.in-Product.a c.in-Product.b Mul c.requires.net m.0.0).first.within, c.requires.words)

pub at-requires-in-Product-2 : goal.at-requires-in-Product-2
at-requires-in-Product-2 c =
    let m = subst (λ (it : Step). Makes c.args.net.now c.args.id it) c.in-Product.is c.requires.makes in
    omega (arith, (of_two c.args.net.now c.args.id c.in-Product.a c.in-Product.b Mul c.requires.net m.0.0).second.within, c.requires.words)

pub returns-in-Product-clause-word : goal.returns-in-Product-clause-word
unfolding two_value TakesTwo
returns-in-Product-clause-word c =
    let m = subst (λ (it : Step). Makes c.args.net.now c.args.id it) c.in-Product.is c.requires.makes in
    by_masked (record { inputs = c.args.sources.inputs.now; states = c.args.sources.states.now }) c.args.net.now c.args.words.now c.args.wides.now c.args.id c.requires.net c.requires.feeds c.requires.keeps Mul op.mul (λ w. w) (λ w v t. t) (λ x y. refl) mul-HasWidth (λ w h. h) c.in-Product.a c.in-Product.b c.in-Product.mask c.at-in-Product.result c.at-in-Product-2.result c.mul.result m.0 m.1 c.at-in-Product.ensures c.at-in-Product-2.ensures c.mul.ensures

pub returns-in-Constant-clause-word : goal.returns-in-Constant-clause-word
returns-in-Constant-clause-word c =
    let m = subst (λ (it : Step). Makes c.args.net.now c.args.id it) c.in-Constant.is c.requires.makes in
    constant (record { inputs = c.args.sources.inputs.now; states = c.args.sources.states.now }) c.args.net.now c.args.words.now c.args.wides.now c.args.id c.requires.net c.requires.feeds c.requires.keeps m.0 c.in-Constant.word m.1 m.2 m.3

pub at-requires : goal.at-requires
at-requires c =
    let m = subst (λ (it : Step). Makes c.args.net.now c.args.id it) c.in-Copy.is c.requires.makes in
    omega (arith, (of_uext c.args.net.now c.args.id c.in-Copy.a m.0 c.requires.net m.1).0.within, c.requires.words)

pub returns-in-Copy-clause-word : goal.returns-in-Copy-clause-word
returns-in-Copy-clause-word c =
    let m = subst (λ (it : Step). Makes c.args.net.now c.args.id it) c.in-Copy.is c.requires.makes in
    copied (record { inputs = c.args.sources.inputs.now; states = c.args.sources.states.now }) c.args.net.now c.args.words.now c.args.wides.now c.args.id c.requires.net c.requires.feeds c.requires.keeps c.in-Copy.a m.0 c.at.result m.1 m.2 c.at.ensures

pub at-requires-in-Invert : goal.at-requires-in-Invert
at-requires-in-Invert c =
    let m = subst (λ (it : Step). Makes c.args.net.now c.args.id it) c.in-Invert.is c.requires.makes in
    omega (arith, (of_one c.args.net.now c.args.id c.in-Invert.a Not c.requires.net m.0).within, c.requires.words)

pub returns-in-Invert-clause-word : goal.returns-in-Invert-clause-word
returns-in-Invert-clause-word c =
    let m = subst (λ (it : Step). Makes c.args.net.now c.args.id it) c.in-Invert.is c.requires.makes in
    inverted (record { inputs = c.args.sources.inputs.now; states = c.args.sources.states.now }) c.args.net.now c.args.words.now c.args.wides.now c.args.id c.requires.net c.requires.feeds c.requires.keeps c.in-Invert.a c.in-Invert.mask c.at-in-Invert.result c.not.result m.0 m.1 m.2 c.at-in-Invert.ensures c.not.ensures

pub at-requires-in-Join : goal.at-requires-in-Join
at-requires-in-Join c =
    let m = subst (λ (it : Step). Makes c.args.net.now c.args.id it) c.in-Join.is c.requires.makes in
    omega (arith, (of_two c.args.net.now c.args.id c.in-Join.a c.in-Join.b Concat c.requires.net m.0).first.within, c.requires.words)

pub at-requires-in-Join-2 : goal.at-requires-in-Join-2
at-requires-in-Join-2 c =
    let m = subst (λ (it : Step). Makes c.args.net.now c.args.id it) c.in-Join.is c.requires.makes in
    omega (arith, (of_two c.args.net.now c.args.id c.in-Join.a c.in-Join.b Concat c.requires.net m.0).second.within, c.requires.words)

pub returns-in-Join-clause-word : goal.returns-in-Join-clause-word
returns-in-Join-clause-word c =
    let m = subst (λ (it : Step). Makes c.args.net.now c.args.id it) c.in-Join.is c.requires.makes in
    joined (record { inputs = c.args.sources.inputs.now; states = c.args.sources.states.now }) c.args.net.now c.args.words.now c.args.wides.now c.args.id c.requires.net c.requires.feeds c.requires.keeps c.in-Join.a c.in-Join.b c.in-Join.shift c.at-in-Join.result c.at-in-Join-2.result c.concat.result m.0 m.1 m.2 c.at-in-Join.ensures c.at-in-Join-2.ensures c.concat.ensures

pub at-requires-in-Cut : goal.at-requires-in-Cut
at-requires-in-Cut c =
    let m = subst (λ (it : Step). Makes c.args.net.now c.args.id it) c.in-Cut.is c.requires.makes in
    omega (arith, (of_slice c.args.net.now c.args.id c.in-Cut.a m.0 c.in-Cut.lower c.requires.net m.1).0.within, c.requires.words)

pub returns-in-Cut-clause-word : goal.returns-in-Cut-clause-word
returns-in-Cut-clause-word c =
    let m = subst (λ (it : Step). Makes c.args.net.now c.args.id it) c.in-Cut.is c.requires.makes in
    cut (record { inputs = c.args.sources.inputs.now; states = c.args.sources.states.now }) c.args.net.now c.args.words.now c.args.wides.now c.args.id c.requires.net c.requires.feeds c.requires.keeps c.in-Cut.a m.0 c.in-Cut.lower c.in-Cut.mask c.at-in-Cut.result c.slice.result m.1 m.2 m.3 c.at-in-Cut.ensures c.slice.ensures

pub at-requires-in-Choose : goal.at-requires-in-Choose
at-requires-in-Choose c =
    let m = subst (λ (it : Step). Makes c.args.net.now c.args.id it) c.in-Choose.is c.requires.makes in
    omega (arith, (of_ite c.args.net.now c.args.id c.in-Choose.condition c.in-Choose.a c.in-Choose.b c.requires.net m.0).chooser.within, c.requires.words)

pub at-requires-in-Choose-2 : goal.at-requires-in-Choose-2
at-requires-in-Choose-2 c =
    let m = subst (λ (it : Step). Makes c.args.net.now c.args.id it) c.in-Choose.is c.requires.makes in
    omega (arith, (of_ite c.args.net.now c.args.id c.in-Choose.condition c.in-Choose.a c.in-Choose.b c.requires.net m.0).first.within, c.requires.words)

pub at-requires-in-Choose-3 : goal.at-requires-in-Choose-3
at-requires-in-Choose-3 c =
    let m = subst (λ (it : Step). Makes c.args.net.now c.args.id it) c.in-Choose.is c.requires.makes in
    omega (arith, (of_ite c.args.net.now c.args.id c.in-Choose.condition c.in-Choose.a c.in-Choose.b c.requires.net m.0).second.within, c.requires.words)

pub returns-in-Choose-clause-word : goal.returns-in-Choose-clause-word
returns-in-Choose-clause-word c =
    let m = subst (λ (it : Step). Makes c.args.net.now c.args.id it) c.in-Choose.is c.requires.makes in
    chosen (record { inputs = c.args.sources.inputs.now; states = c.args.sources.states.now }) c.args.net.now c.args.words.now c.args.wides.now c.args.id c.requires.net c.requires.feeds c.requires.keeps c.in-Choose.condition c.in-Choose.a c.in-Choose.b c.at-in-Choose.result c.at-in-Choose-2.result c.at-in-Choose-3.result c.ite.result m.0 m.1 c.at-in-Choose.ensures c.at-in-Choose-2.ensures c.at-in-Choose-3.ensures c.ite.ensures

pub word-requires-clause-state : goal.word-requires-clause-state
word-requires-clause-state c =
    let m = subst (λ (it : Step). Makes c.args.net.now c.args.id it) c.in-TakeState.is c.requires.makes in
    (state_there (record { inputs = c.args.sources.inputs.now; states = c.args.sources.states.now }) c.args.net.now c.args.words.now c.args.wides.now c.args.id c.requires.net c.requires.feeds c.requires.keeps c.in-TakeState.number m.0 m.1).0

pub word-requires-clause-narrow : goal.word-requires-clause-narrow
word-requires-clause-narrow c =
    let m = subst (λ (it : Step). Makes c.args.net.now c.args.id it) c.in-TakeState.is c.requires.makes in
    let at = state_there (record { inputs = c.args.sources.inputs.now; states = c.args.sources.states.now }) c.args.net.now c.args.words.now c.args.wides.now c.args.id c.requires.net c.requires.feeds c.requires.keeps c.in-TakeState.number m.0 m.1 in
    omega (arith, at.1, m.2)

pub overflow_cast-result : goal.overflow_cast-result
overflow_cast-result c =
    let m = subst (λ (it : Step). Makes c.args.net.now c.args.id it) c.in-TakeInput.is c.requires.makes in
    let at = input_there (record { inputs = c.args.sources.inputs.now; states = c.args.sources.states.now }) c.args.net.now c.args.words.now c.args.wides.now c.args.id c.requires.net c.requires.feeds c.requires.keeps c.in-TakeInput.number m.0 m.1 in
    let same : get_or c.args.sources.inputs.now c.in-TakeInput.number c.index-sources-number.result ≡ get_or c.args.sources.inputs.now c.in-TakeInput.number no_bits = get_or_default c.args.sources.inputs.now c.in-TakeInput.number c.index-sources-number.result no_bits at.0 in
    word_fits c.number.result (get_or c.args.sources.inputs.now c.in-TakeInput.number c.index-sources-number.result) c.number.ensures.number c.number.ensures.bits (omega (arith, ap (λ (v : BitVector). v.width) same, at.1, m.2))

pub returns-in-TakeInput-clause-word : goal.returns-in-TakeInput-clause-word
returns-in-TakeInput-clause-word c =
    let m = subst (λ (it : Step). Makes c.args.net.now c.args.id it) c.in-TakeInput.is c.requires.makes in
    let at = input_there (record { inputs = c.args.sources.inputs.now; states = c.args.sources.states.now }) c.args.net.now c.args.words.now c.args.wides.now c.args.id c.requires.net c.requires.feeds c.requires.keeps c.in-TakeInput.number m.0 m.1 in
    let same : get_or c.args.sources.inputs.now c.in-TakeInput.number c.index-sources-number.result ≡ get_or c.args.sources.inputs.now c.in-TakeInput.number no_bits = get_or_default c.args.sources.inputs.now c.in-TakeInput.number c.index-sources-number.result no_bits at.0 in
    of_input (record { inputs = c.args.sources.inputs.now; states = c.args.sources.states.now }) c.args.net.now c.args.words.now c.args.wides.now c.args.id c.requires.net c.requires.feeds c.requires.keeps c.in-TakeInput.number m.0 c.number.result m.1 m.2 (c.number.ensures.number ∙ ap (λ (v : BitVector). v.number) same)

pub returns-in-TakeState-clause-word : goal.returns-in-TakeState-clause-word
returns-in-TakeState-clause-word c =
    let m = subst (λ (it : Step). Makes c.args.net.now c.args.id it) c.in-TakeState.is c.requires.makes in
    of_state (record { inputs = c.args.sources.inputs.now; states = c.args.sources.states.now }) c.args.net.now c.args.words.now c.args.wides.now c.args.id c.requires.net c.requires.feeds c.requires.keeps c.in-TakeState.number m.0 c.word.result m.1 m.2 c.word.ensures
