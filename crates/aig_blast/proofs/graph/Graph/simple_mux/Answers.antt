use Rattle.std.proofs.Common.{ℕ, Bool, ◌&&◌, ◌||◌, List, ap, sym, ◌∙◌, inl, inr}
use Rattle.aig_blast.specs.Graphs.{choice, value}
use Rattle.aig_blast.proofs.Values.{Keeps-refl}
use Rattle.aig_blast.proofs.Gates.{Makes-as, Makes-given, Makes-kept, Makes-not, Makes-by, choice-by_or, value-false, value-true, value-negation}
use Rattle.aig_blast.proofs.PairRules.{choice-opposite, choice-same}
use Rattle.aig_blast.proofs.graph.Graph.simple_mux.Goals as goal

pub returns-then-a-b : goal.returns-then-a-b
returns-then-a-b c =
    let g = c.args.self.now in
    let v = λ (i : List Bool) (lit : ℕ). value i g lit in
    Makes-as (λ i. choice (v i c.args.condition) (v i c.args.a) (v i c.args.b))
    (λ i. elim c.then-a-b.either [
      | inl same ↦ choice-same (v i c.args.condition) (v i c.args.a) ∙ ap (λ x. choice (v i c.args.condition) (v i c.args.a) (v i x)) same
      | inr one ↦ sym (ap (λ x. choice x (v i c.args.a) (v i c.args.b)) (ap (value i g) one.1 ∙ value-true i g))
    ])
    (Makes-given c.args.a (Keeps-refl g) c.requires.a)

pub returns-then-condition-eq-FALSE : goal.returns-then-condition-eq-FALSE
returns-then-condition-eq-FALSE c =
    let g = c.args.self.now in
    let v = λ (i : List Bool) (lit : ℕ). value i g lit in
    Makes-as (λ i. choice (v i c.args.condition) (v i c.args.a) (v i c.args.b))
    (λ i. sym (ap (λ x. choice x (v i c.args.a) (v i c.args.b)) (ap (value i g) c.if-condition-eq-FALSE.true ∙ value-false i g)))
    (Makes-given c.args.b (Keeps-refl g) c.requires.b)

pub returns-then-a-not : goal.returns-then-a-not
returns-then-a-not c =
    let g = c.args.self.now in
    let v = λ (i : List Bool) (lit : ℕ). value i g lit in
    Makes-as (λ i. choice (v i c.args.condition) (v i c.args.a) (v i c.args.b))
    (λ i. choice-opposite (v i c.args.condition) (v i c.args.b) ∙ ap (λ x. choice (v i c.args.condition) x (v i c.args.b)) (sym (ap (value i g) (c.if-a-not.true ∙ c.not.ensures.negation) ∙ value-negation i g c.args.b)))
    c.in_ok-opposite.ensures

pub returns : goal.returns
returns c =
    let g = c.args.self.now in
    let v = λ (i : List Bool) (lit : ℕ). value i g lit in
    let first = c.in_ok-first.ensures in
    let condition = Makes-given c.args.condition first.keeps c.requires.condition in
    let b = Makes-given c.args.b first.keeps c.requires.b in
    let second = Makes-by (λ x y. x && y) (Makes-not c.not-2.ensures.negation condition) b c.in_ok-second.ensures in
    let chosen = Makes-by (λ x y. x || y) (Makes-kept first c.in_ok-second.ensures.keeps) second c.in_ok-chosen.ensures in
    Makes-as (λ i. choice (v i c.args.condition) (v i c.args.a) (v i c.args.b)) (λ i. choice-by_or (v i c.args.condition) (v i c.args.a) (v i c.args.b)) chosen
