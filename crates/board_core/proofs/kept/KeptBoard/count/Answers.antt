use Rattle.std.proofs.Common.{◌≡◌, ◌+◌, ℕ, suc, ◌++◌, flat_map, length, append-nil, sym, ap, ◌∙◌, arith}
use Rattle.std.specs.List.{range_with_len}
use Rattle.std.proofs.lemmas.List.{length-append}
use Rattle.board_core.specs.Candidates.{first, further}
use Rattle.board_core.specs.Kept.{Kept}
use Rattle.board_core.proofs.Counts.{few_first, few_further}
use Rattle.board_core.proofs.Finds.{cycles_on}
use Rattle.board_core.proofs.kept.KeptBoard.count.Goals as goal

pub loop-ahead-init : goal.loop-ahead-init
loop-ahead-init c =
    let o = c.args.self.now.opening in
    let p = c.recall.ensures in
    record {
      few = omega (arith, c.count_head-count.ensures p.board p.stands, few_first o p.board);
      counts = λ board st. c.count_head-count.ensures board st ∙ ap length (sym (append-nil (first o board)));
    }

pub loop-ahead-preserved : goal.loop-ahead-preserved
loop-ahead-preserved c =
    let o = c.args.self.now.opening in
    let n = c.loop-ahead.ahead in
    let h = c.loop-ahead.invariant in
    let p = c.recall.ensures in
    let now = c.self.inside.cycle + n in
    record {
      few = omega (arith, h.few, c.count_further-count.ensures p.board p.stands, few_further o p.board now, p.opening.design.few_nodes);
      counts = λ board st.
          let f = further o board in
          let more : n + 1 ≡ suc n = omega arith in
          let cycle = ap (λ (k : ℕ). k + n) (ap (λ (k : Kept). k.cycle) c.self.view_is ∙ st.cycle) in
          let so_far = first o board ++ flat_map f (range_with_len board.cycle n) in
          omega (arith, h.counts board st, c.count_further-count.ensures board st, length-append so_far (f now), ap length (cycles_on f (first o board) board.cycle n (n + 1) now more cycle));
    }

pub overflow_add-count : goal.overflow_add-count
overflow_add-count c =
    let o = c.args.self.now.opening in
    let p = c.recall.ensures in
    let now = c.self.inside.cycle + c.loop-ahead.ahead in
    omega (arith, c.loop-ahead.invariant.few, c.count_further-count.ensures p.board p.stands, few_further o p.board now, p.opening.design.few_nodes, c.loop-ahead-test.true, c.min-cycles.ensures, c.self.invariant.few_ahead)
