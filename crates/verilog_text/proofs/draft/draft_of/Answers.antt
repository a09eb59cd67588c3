use Rattle.std.proofs.Common.{◌≡◌, ◌+◌, ◌<◌, ℕ, suc, List, ◌∷◌, drop, length, get_or, arith, sym, ap, ap₂, subst, ◌∙◌, drop-cons}
use Rattle.net_graph.specs.Nets.{Stands, width_at, widths_of}
use Rattle.net_graph.specs.declared.node.NetOp.{NetOp}
use Rattle.verilog_text.specs.declared.draft.Draft.{Draft}
use Rattle.verilog_text.specs.declared.module.Operand.{Operand}
use Rattle.verilog_text.specs.declared.nodes.Piece.{Piece}
use Rattle.verilog_text.specs.inner.Making.{ConstantsFit, piece_of, with_nodes, with_piece}
use Rattle.verilog_text.proofs.Constants.{length-with_piece, next-fits, node-stands}
use Rattle.verilog_text.proofs.draft.draft_of.Goals as goal

pub piece_of-piece-requires : goal.piece_of-piece-requires
piece_of-piece-requires c =
    let net : List NetOp = c.args.net.now in
    let node : NetOp = c.op-item.result in
    let ops = c.ops-op-items.ensures.ops in
    let within : c.loop-id.id < length net = omega (arith, c.loop-id-test.true, ap length ops) in
    let at : get_or net c.loop-id.id node ≡ node = ap (λ (xs : List NetOp). get_or xs c.loop-id.id node) (sym ops)
    ∙ sym c.op-item.is in
    record {
      stands = subst (Stands (widths_of net)) at (node-stands net c.ops-op-items.ensures.net c.loop-id.id node within);
      constants =
          subst (λ (os : List Operand). ConstantsFit (widths_of net) os)
          (sym c.as_slice.ensures) c.loop-id.invariant.constants;
    }

pub loop-id-preserved : goal.loop-id-preserved
loop-id-preserved c =
    let net : List NetOp = c.args.net.now in
    let id : ℕ = c.loop-id.id in
    let node : NetOp = c.op-item.result in
    let widths : List ℕ = widths_of net in
    let d : Draft = c.loop-id.draft in
    let ops = c.ops-op-items.ensures.ops in
    let within : id < length net = omega (arith, c.loop-id-test.true, ap length ops) in
    let at : get_or net id node ≡ node = ap (λ (xs : List NetOp). get_or xs id node) (sym ops) ∙ sym c.op-item.is in
    let width : ℕ = width_at widths (length d.operands) in
    let piece : Piece = piece_of widths d.operands node in
    let is-width : c.width-width.result ≡ width = c.width-width.ensures.width
    ∙ ap (λ n. width_at widths n) (sym c.loop-id.invariant.count) in
    let is-piece : c.piece_of-piece.result ≡ piece = c.piece_of-piece.ensures
    ∙ ap (λ (os : List Operand). piece_of widths os node) c.as_slice.ensures in
    let made : c.add_piece.new.draft ≡ with_piece d width piece = c.in_ok-add_piece.ensures
    ∙ ap₂ (λ (w : ℕ) (p : Piece). with_piece d w p) is-width is-piece in
    let one : suc id ≡ id + 1 = omega arith in
    let dropped : drop id net ≡ node ∷ drop (id + 1) net = drop-cons net id node within
    ∙ ap₂ (λ (x : NetOp) (n : ℕ). x ∷ drop n net) at one in
    let fit =
    next-fits net c.ops-op-items.ensures.net id node within d width c.loop-id.invariant.count
    c.loop-id.invariant.constants in
    record {
      rest = ap (λ (e : Draft). with_nodes widths e (drop (id + 1) net)) made
          ∙ sym (ap (λ (xs : List NetOp). with_nodes widths d xs) dropped) ∙ c.loop-id.invariant.rest;
      count = ap (λ (e : Draft). length e.operands) made ∙ length-with_piece d width piece
          ∙ ap (λ n. n + 1) c.loop-id.invariant.count;
      constants = subst (λ (e : Draft). ConstantsFit widths e.operands) (sym made)
          (subst (λ (n : NetOp). ConstantsFit widths (with_piece d width (piece_of widths d.operands n)).operands) at
          fit);
    }
