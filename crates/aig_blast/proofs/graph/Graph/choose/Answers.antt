use Rattle.std.proofs.Common.{[], ℕ, Bool, List, sym, ap, ap₂, ◌∙◌, arith}
use Rattle.aig_blast.specs.Graphs.{choice, value, variables}
use Rattle.aig_blast.proofs.Gates.{Makes-as, Makes-given, Makes-kept}
use Rattle.aig_blast.proofs.Making.{Makes-by3}
use Rattle.aig_blast.proofs.PairRules.{choice-of-choices, graph-values}
use Rattle.aig_blast.proofs.graph.Graph.choose.Goals as goal

pub simple_mux-requires-2-clause-a : goal.simple_mux-requires-2-clause-a
simple_mux-requires-2-clause-a c =
    let g = c.args.self.now in
    let a = λ (i : List Bool). c.in-Some.ensures.first (variables g) (value i g) (graph-values i g) (c.choice_of-first.ensures i) (c.choice_of-second.ensures i) in
    (a []).condition

pub simple_mux-requires-2-clause-b : goal.simple_mux-requires-2-clause-b
simple_mux-requires-2-clause-b c =
    let g = c.args.self.now in
    let b = λ (i : List Bool). c.in-Some.ensures.second (variables g) (value i g) (graph-values i g) (c.choice_of-first.ensures i) (c.choice_of-second.ensures i) in
    (b []).condition

pub simple_mux-requires-3-clause-a : goal.simple_mux-requires-3-clause-a
simple_mux-requires-3-clause-a c =
    let g = c.args.self.now in
    let a = λ (i : List Bool). c.in-Some.ensures.first (variables g) (value i g) (graph-values i g) (c.choice_of-first.ensures i) (c.choice_of-second.ensures i) in
    omega (arith, (a []).first, c.in_ok-is_other.ensures.keeps.longer)

pub simple_mux-requires-3-clause-b : goal.simple_mux-requires-3-clause-b
simple_mux-requires-3-clause-b c =
    let g = c.args.self.now in
    let b = λ (i : List Bool). c.in-Some.ensures.second (variables g) (value i g) (graph-values i g) (c.choice_of-first.ensures i) (c.choice_of-second.ensures i) in
    omega (arith, (b []).first, c.in_ok-is_other.ensures.keeps.longer)

pub simple_mux-requires-4-clause-b : goal.simple_mux-requires-4-clause-b
simple_mux-requires-4-clause-b c =
    let g = c.args.self.now in
    let a = λ (i : List Bool). c.in-Some.ensures.first (variables g) (value i g) (graph-values i g) (c.choice_of-first.ensures i) (c.choice_of-second.ensures i) in
    omega (arith, (a []).second, c.in_ok-is_other.ensures.keeps.longer, c.in_ok-other.ensures.keeps.longer)

pub returns : goal.returns
returns c =
    let g = c.args.self.now in
    let v = λ (i : List Bool) (lit : ℕ). value i g lit in
    let a = λ (i : List Bool). c.in-Some.ensures.first (variables g) (value i g) (graph-values i g) (c.choice_of-first.ensures i) (c.choice_of-second.ensures i) in
    let b = λ (i : List Bool). c.in-Some.ensures.second (variables g) (value i g) (graph-values i g) (c.choice_of-first.ensures i) (c.choice_of-second.ensures i) in
    let m = c.in-Some.first in
    let n = c.in-Some.second in
    let is_other = c.in_ok-is_other.ensures in
    let condition = Makes-given c.args.condition is_other.keeps c.requires.condition in
    let other = Makes-by3 choice condition (Makes-given m.first is_other.keeps (a []).first) (Makes-given n.first is_other.keeps (b []).first) c.in_ok-other.ensures in
    let chosen = Makes-by3 choice (Makes-kept is_other c.in_ok-other.ensures.keeps) other (Makes-given m.second other.keeps (a []).second) c.in_ok-chosen-2.ensures in
    Makes-as (λ i. choice (v i c.args.condition) (v i c.args.a) (v i c.args.b))
    (λ i. choice-of-choices (v i c.args.condition) (v i m.condition) (v i m.first) (v i n.condition) (v i n.first) (v i m.second)
    ∙ ap₂ (λ x y. choice (v i c.args.condition) x y) (sym (a i).value) (ap (λ lit. choice (v i n.condition) (v i n.first) (v i lit)) c.in-Some.ensures.one ∙ sym (b i).value))
    chosen
