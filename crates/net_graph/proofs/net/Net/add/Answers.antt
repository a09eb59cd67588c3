use Rattle.std.proofs.Common.{◌≡◌, true, List, [], ◌∷◌, ◌++◌, ◌∙◌, ap, subst}
use Rattle.net_graph.specs.Nets.{IsNet, widths_of}
use Rattle.net_graph.specs.declared.node.NetOp.{NetOp}
use Rattle.net_graph.proofs.Sharing.{Adds-insert, IsNet-push, new_last, widths_of-push}
use Rattle.net_graph.proofs.net.Net.add.Goals as goal

added : (c : goal.In-Ok-default-true) → c.insert_full.new.self.keys ≡ c.args.self.now ++ c.args.op ∷ []
added c =
    let done = c.in-Ok-default-true.ensures in
    let is_new : c.in-Ok-default-true.field-0-1 ≡ true = c.in-Ok-default-true.field-0-1-test in
    let before : c.self.inside.ops.keys ≡ c.args.self.now = c.self.view_is in
    new_last c.self.inside.ops.keys c.insert_full.new.self.keys c.args.op c.in-Ok-default-true.field-0-1 done.keys done.added is_new ∙ ap (λ (ops : List NetOp). ops ++ c.args.op ∷ []) before

net : (c : goal.In-Ok-default-true) → IsNet c.insert_full.new.self.keys
net c =
    let whole : List NetOp = c.args.self.now ++ c.args.op ∷ [] in
    let old : IsNet c.args.self.now = subst IsNet c.self.view_is c.self.invariant.0 in
    rw (added c) (IsNet-push c.args.self.now c.args.op old c.requires c.width_of.ensures.constant (rw (added c) at c.in-Ok-default-true.ensures.unique))

pub invariant_of-self-in-Ok-default-true : goal.invariant_of-self-in-Ok-default-true
invariant_of-self-in-Ok-default-true c =
    let stored : c.deref.result.now ≡ widths_of c.args.self.now = c.deref.ensures.value ∙ c.self.invariant.1 ∙ ap widths_of c.self.view_is in
    (net c, c.in_ok-push.ensures.items ∙ rw (added c, widths_of-push c.args.self.now c.args.op, c.width_of.ensures.width, stored, c.self.invariant.1, c.self.view_is))

pub returns-in-Ok-default-true-clause-net : goal.returns-in-Ok-default-true-clause-net
returns-in-Ok-default-true-clause-net c = net c

pub returns-in-Ok-default-true-clause-adds : goal.returns-in-Ok-default-true-clause-adds
returns-in-Ok-default-true-clause-adds c =
    let done = c.in-Ok-default-true.ensures in
    rw (← c.self.view_is) (Adds-insert c.self.inside.ops.keys c.insert_full.new.self.keys c.args.op c.in-Ok-default-true.id done.keys done.stored)

pub returns-in-Ok-default-false-clause-adds : goal.returns-in-Ok-default-false-clause-adds
returns-in-Ok-default-false-clause-adds c =
    let done = c.in-Ok-default-false.ensures in
    rw (← c.self.view_is) (Adds-insert c.self.inside.ops.keys c.insert_full.new.self.keys c.args.op c.in-Ok-default-false.id done.keys done.stored)
