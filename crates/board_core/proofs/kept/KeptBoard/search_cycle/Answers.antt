use Rattle.std.proofs.Common.{◌≡◌, ◌+◌, ◌-◌, ◌<◌, ◌≤◌, suc, ℕ, List, [], ◌++◌, Option, None, filter, length, take, ap, sym, ◌∙◌, subst, arith, is_some}
use Rattle.std.specs.Prelude.{slice_index_or}
use Rattle.std.proofs.lemmas.List.{get_or_default}
use Rattle.typed_core.specs.declared.design.Parts.{Parts}
use Rattle.attempt_log.specs.Attempt.{Attempted}
use Rattle.board_core.specs.Candidates.{is_further, pairs}
use Rattle.board_core.specs.Kept.{Kept, slots_from}
use Rattle.board_core.specs.inner.Search.{Finds}
use Rattle.board_core.specs.declared.candidate.Candidate.{Candidate}
use Rattle.board_core.specs.declared.candidate.Search.TheVariants as search
use Rattle.board_core.proofs.Finds.{all_pairs, further_same, is_next, past_candidate, past_other}
use Rattle.board_core.proofs.Slots.{from_on}
use Rattle.board_core.proofs.kept.KeptBoard.search_cycle.Goals as goal
use Rattle.board_core.proofs.kept.KeptBoard.search_cycle.Goals.{else-is_further, then-is_further+else-left-eq0}

pub stands-stands-requires : goal.stands-stands-requires
stands-stands-requires c =
    let i = c.self.inside in
    let k = c.args.cycle - i.cycle in
    let cycle = ap (λ (k : Kept). k.cycle) c.self.view_is in
    let window = ap (λ (k : Kept). k.opening.window) c.self.view_is in
    let rules = ap (λ (k : Kept). length k.opening.design.rules) c.self.view_is in
    let inside : k < length i.slots.items = omega (arith, c.self.invariant.cycles, c.requires.from, c.requires.within, cycle, window) in
    let row = c.index-slots.ensures ∙ get_or_default i.slots.items k c.index-slots.result.now [] inside in
    omega (arith, ap (λ (w : List (Option Attempted)). length w) row, (c.self.invariant.slots k [] inside).count, c.pair-pair.ensures.rule, rules)

pub is_further-requires-clause-stands : goal.is_further-requires-clause-stands
is_further-requires-clause-stands c =
    let i = c.self.inside in
    let pair = c.pair-pair.result in
    let k = c.args.cycle - i.cycle in
    let cycle = ap (λ (k : Kept). k.cycle) c.self.view_is in
    let window = ap (λ (k : Kept). k.opening.window) c.self.view_is in
    let least : i.cycle ≤ c.args.cycle = omega (arith, c.requires.from, cycle) in
    let inside : k < length i.slots.items = omega (arith, c.self.invariant.cycles, c.requires.from, c.requires.within, cycle, window) in
    let row = c.index-slots.ensures ∙ get_or_default i.slots.items k c.index-slots.result.now [] inside in
    subst (λ (kept : Kept). c.stands-stands.result ≡ is_some (slots_from kept.cycle kept.slots pair.cycle pair.rule)) c.self.view_is
    (c.stands-stands.ensures ∙ ap (λ (w : List (Option Attempted)). is_some (slice_index_or w pair.rule None)) row
    ∙ ap is_some (sym (ap (λ (n : ℕ). slots_from i.cycle i.slots.items n pair.rule) c.pair-pair.ensures.cycle ∙ from_on i.cycle i.slots.items c.args.cycle pair.rule least)))

pub loop-number-preserved : goal.loop-number-preserved
loop-number-preserved c =
    let kept = c.args.self.now in
    let pair = c.pair-pair.result in
    let n = c.loop-number.number in
    let xs = pairs kept.opening.design.nodes c.args.cycle in
    record {
      finds = λ all number f board st.
          let more : n + 1 ≡ suc n = omega arith in
          let same = sym (c.is_further.ensures ∙ further_same kept board st pair c.pair-pair.ensures.rule) in
          let before = c.loop-number.invariant.finds all number f board st in
          elim c.if-is_further.branch [
            | then-is_further+else-left-eq0 w ↦
                subst (λ (left : ℕ). Finds (all board ++ filter (is_further board) (take (n + 1) xs)) number (search.Left left)) (sym w.left-is)
                (past_candidate (is_further board) (all board) xs n (n + 1) number c.loop-number.left pair more c.pair-pair.ensures.pair before (same ∙ w.if-is_further.true) (omega (arith, w.if-left-eq0.false)))
            | else-is_further w ↦
                subst (λ (left : ℕ). Finds (all board ++ filter (is_further board) (take (n + 1) xs)) number (search.Left left)) (sym w.left-is)
                (past_other (is_further board) (all board) xs n (n + 1) number c.loop-number.left pair more c.pair-pair.ensures.pair before (same ∙ w.if-is_further.false))
          ];
    }

pub returns-then-left-eq0-clause-finds : goal.returns-then-left-eq0-clause-finds
returns-then-left-eq0-clause-finds c all number f board st =
    let kept = c.args.self.now in
    let pair = c.pair-pair.result in
    let n = c.loop-number.number in
    let more : n + 1 ≡ suc n = omega arith in
    let is = sym (c.is_further.ensures ∙ further_same kept board st pair c.pair-pair.ensures.rule) ∙ c.if-is_further.true in
    is_next (is_further board) (all board) (pairs kept.opening.design.nodes c.args.cycle) n (n + 1) number c.loop-number.left pair more c.pair-pair.ensures.pair
    (c.loop-number.invariant.finds all number f board st) is (omega (arith, c.if-left-eq0.true))

pub returns-clause-finds : goal.returns-clause-finds
returns-clause-finds c all number f board st =
    let nodes = c.args.self.now.opening.design.nodes in
    let n = c.loop-number.number in
    let same = ap (λ (k : Kept). length k.opening.design.nodes) c.self.view_is in
    let behind = ap (λ (d : Parts). length d.nodes) (c.behind-self.view_is ∙ c.deref.ensures) in
    let end : length nodes ≤ n = omega (arith, same, behind, c.len-number-end.ensures, c.loop-number-test.false) in
    subst (λ (xs : List Candidate). Finds (all board ++ filter (is_further board) xs) number (search.Left c.loop-number.left)) (all_pairs c.args.cycle nodes n end) (c.loop-number.invariant.finds all number f board st)
