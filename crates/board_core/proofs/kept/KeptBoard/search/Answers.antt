use Rattle.std.proofs.Common.{◌≡◌, ◌+◌, ℕ, suc, List, ◌++◌, flat_map, ap, ◌∙◌, subst, arith}
use Rattle.std.specs.List.{range_with_len}
use Rattle.board_core.specs.Candidates.{first, further}
use Rattle.board_core.specs.Kept.{Kept}
use Rattle.board_core.specs.inner.Search.{Finds}
use Rattle.board_core.specs.declared.candidate.Candidate.{Candidate}
use Rattle.board_core.proofs.Finds.{cycles_on}
use Rattle.board_core.proofs.kept.KeptBoard.search.Goals as goal

pub loop-ahead-preserved : goal.loop-ahead-preserved
loop-ahead-preserved c =
    let o = c.args.self.now.opening in
    let n = c.loop-ahead.ahead in
    record {
      finds = λ board st.
          let f = further o board in
          let more : n + 1 ≡ suc n = omega arith in
          let cycle = ap (λ (k : ℕ). k + n) (ap (λ (k : Kept). k.cycle) c.self.view_is ∙ st.cycle) in
          subst (λ (ys : List Candidate). Finds ys c.args.number c.pass_cycle-search.result)
          (cycles_on f (first o board) board.cycle n (n + 1) (c.self.inside.cycle + n) more cycle)
          (c.pass_cycle-search.ensures.finds (λ b. first o b ++ flat_map (further o b) (range_with_len b.cycle n)) c.args.number c.loop-ahead.invariant.finds board st);
      rule = c.pass_cycle-search.ensures.rule;
    }
