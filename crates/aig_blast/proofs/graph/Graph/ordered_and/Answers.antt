use Rattle.std.proofs.Common.{Bool, ◌&&◌, List, sym, ap, ◌∙◌, arith}
use Rattle.aig_blast.specs.Graphs.{value}
use Rattle.aig_blast.proofs.Values.{Keeps-refl}
use Rattle.aig_blast.proofs.Gates.{Makes-as, Makes-given, and-same, and-opposite, value-false, value-true, value-negation}
use Rattle.aig_blast.proofs.graph.Graph.ordered_and.Goals as goal
use Rattle.aig_blast.proofs.graph.Graph.ordered_and.Goals.{then-a-eq-TRUE-via-then-a-eq-TRUE, then-a-eq-TRUE-via-else-a-eq-TRUE+then-a-b}
use Rattle.std.proofs.Common.{inl, inr}

pub returns-then-a-eq-FALSE : goal.returns-then-a-eq-FALSE
returns-then-a-eq-FALSE c =
    let g = c.args.self.now in
    let false_and = λ (i : List Bool). ap (λ x. x && value i g c.args.b) (ap (value i g) c.if-a-eq-FALSE.true ∙ value-false i g) in
    Makes-as (λ i. value i g c.args.a && value i g c.args.b) (λ i. value-false i g ∙ sym (false_and i)) (Makes-given 0 (Keeps-refl g) (omega arith))

pub returns-then-a-eq-TRUE : goal.returns-then-a-eq-TRUE
returns-then-a-eq-TRUE c =
    let g = c.args.self.now in
    Makes-as (λ i. value i g c.args.a && value i g c.args.b)
    (λ i. elim c.then-a-eq-TRUE.either [
      | inl one ↦ sym (ap (λ x. x && value i g c.args.b) (ap (value i g) one ∙ value-true i g))
      | inr equal ↦ and-same (value i g c.args.b) ∙ ap (λ x. value i g x && value i g c.args.b) (sym equal.1)
    ])
    (Makes-given c.args.b (Keeps-refl g) c.requires.b)

pub returns-then-a-not : goal.returns-then-a-not
returns-then-a-not c =
    let g = c.args.self.now in
    let opposite = λ (i : List Bool). ap (value i g) (c.if-a-not.true ∙ c.not.ensures.negation) ∙ value-negation i g c.args.b in
    Makes-as (λ i. value i g c.args.a && value i g c.args.b)
    (λ i. value-false i g ∙ and-opposite (value i g c.args.b) ∙ ap (λ x. x && value i g c.args.b) (sym (opposite i)))
    (Makes-given 0 (Keeps-refl g) (omega arith))

pub returns : goal.returns
unfolding value
returns c = c.in_ok-gate.ensures
