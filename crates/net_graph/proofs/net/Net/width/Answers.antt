use Rattle.std.proofs.Common.{◌≡◌, ℕ, ◌<◌, List, [], length, get_or, ◌∙◌, ap, subst, arith}
use Rattle.std.proofs.lemmas.List.{get_or_read}
use Rattle.net_graph.specs.Nets.{IsNet, op_width, width_at, widths_of}
use Rattle.net_graph.specs.declared.node.NetOp.{NetOp}
use Rattle.net_graph.proofs.NodeWidths.{widths_of-Wide}
use Rattle.net_graph.proofs.OneByOne.{length-one_by_one}
use Rattle.net_graph.proofs.net.Net.width.Goals as goal

within : (widths : List ℕ) (ops : List NetOp) (id : ℕ) → widths ≡ widths_of ops → id < length ops → id < length widths
within widths ops id kept h = omega (arith, ap length kept, length-one_by_one op_width [] ops)

pub index-requires : goal.index-requires
index-requires c =
    let kept = c.self.invariant.1 ∙ ap widths_of c.self.view_is in
    omega (arith, within c.self.inside.widths.items c.args.self.now c.args.id kept c.requires, c.self.inside.widths.ok.0)

pub returns : goal.returns
returns c =
    let kept : c.self.inside.widths.items ≡ widths_of c.args.self.now = c.self.invariant.1 ∙ ap widths_of c.self.view_is in
    let inside = within c.self.inside.widths.items c.args.self.now c.args.id kept c.requires in
    let width : c.index.result.now ≡ width_at (widths_of c.args.self.now) c.args.id =
    get_or_read c.self.inside.widths.items c.args.id c.index.result.now inside c.index.ensures 0 ∙ ap (λ (widths : List ℕ). get_or widths c.args.id 0) kept in
    let net : IsNet c.args.self.now = subst IsNet c.self.view_is c.self.invariant.0 in
    let wide = widths_of-Wide c.args.self.now net c.args.id 0 (omega (arith, c.requires, length-one_by_one op_width [] c.args.self.now)) in
    record {
      width = width;
      some = omega (arith, width, wide.0);
      most = omega (arith, width, wide.1);
    }
