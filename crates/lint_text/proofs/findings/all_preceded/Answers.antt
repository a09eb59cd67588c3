use Rattle.std.proofs.Common.{◌≡◌, ◌<◌, [], ℕ, List, length, sym, subst, arith}
use Rattle.std.specs.Prelude.{All}
use Rattle.typed_core.specs.Paths.{Ascends}
use Rattle.typed_core.specs.declared.design.Node.{Node}
use Rattle.lint_text.proofs.Orders.{PrecedeTo, SaysPrecede, all-there, ascends, precede-all, such-more, such-none}
use Rattle.lint_text.proofs.findings.all_preceded.Goals as goal

pub preceded-requires-clause-ascends : goal.preceded-requires-clause-ascends
preceded-requires-clause-ascends c =
    let d = c.args.design.now in
    subst Ascends (sym c.as_slice.ensures) (ascends (length d.rules) d.nodes c.requires.nodes)

pub preceded-requires-clause-rules : goal.preceded-requires-clause-rules
preceded-requires-clause-rules c =
    let d = c.args.design.now in
    subst (λ (nodes : List Node). All (λ (n : Node). n.rule < c.len-rules.result) nodes) (sym c.as_slice.ensures)
    (subst (λ (count : ℕ). All (λ (n : Node). n.rule < count) d.nodes) (sym c.len-rules.ensures) (all-there (length d.rules) d.nodes c.requires.nodes))

pub loop-earlier-init : goal.loop-earlier-init
loop-earlier-init c = subst (PrecedeTo c.args.design.now.nodes 0) (sym c.new-all.ensures) (such-none (SaysPrecede c.args.design.now.nodes) [])

pub loop-earlier-preserved : goal.loop-earlier-preserved
loop-earlier-preserved c =
    let nodes = c.args.design.now.nodes in
    let n = c.loop-earlier.earlier in
    such-more (SaysPrecede nodes) [] n c.loop-earlier.all _ _ c.loop-earlier.invariant c.in_ok-push.ensures.ok
    (subst (λ (ns : List Node). SaysPrecede ns n c.in_ok-preceded.field-0) c.as_slice.ensures c.in_ok-preceded.ensures)

pub returns : goal.returns
returns c =
    let d = c.args.design.now in
    let whole : c.loop-earlier.earlier ≡ length d.rules = omega (arith, c.loop-earlier-test.false, c.loop-earlier.auto.earlier-end, c.len-rules.ensures) in
    precede-all (length d.rules) d.nodes c.loop-earlier.all c.requires.nodes (subst (λ (k : ℕ). PrecedeTo d.nodes k c.loop-earlier.all) whole c.loop-earlier.invariant)
