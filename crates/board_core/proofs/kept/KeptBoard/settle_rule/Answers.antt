use Rattle.std.proofs.Common.{◌≤◌, Option, None, List, [], refl, sym, ap, ◌∙◌, subst}
use Rattle.std.specs.Prelude.{slice_index_or, slice_set}
use Rattle.std.proofs.lemmas.List.{get_or_default}
use Rattle.std.specs.Arc.{arc_value}
use Rattle.typed_core.proofs.Equal.{SameDesign-sym}
use Rattle.attempt_log.specs.Attempt.{Attempted}
use Rattle.board_core.specs.Board.{Board, judged, node_at, settle}
use Rattle.board_core.specs.Kept.{Kept, StandsFor}
use Rattle.board_core.specs.inner.Kept.{IsShaped, IsSound, kept_by}
use Rattle.board_core.specs.declared.event.BoardAnswer.TheVariants as answer
use Rattle.board_core.proofs.Plain.{settle_plain}
use Rattle.board_core.proofs.Sound as sound
use Rattle.board_core.proofs.kept.KeptBoard.settle_rule.Goals as goal

pub judge-requires-clause-shape : goal.judge-requires-clause-shape
judge-requires-clause-shape c =
    let i = c.self.inside in
    let node = c.args.node in
    let kept : Kept = kept_by (arc_value i.design) (arc_value i.stimulus) i.first i.last i.window i.cycle i.place i.rows.items i.slots.items in
    let here = ap (λ (k : Kept). node_at k.opening.design.nodes k.place.at) c.self.view_is ∙ c.requires.head in
    let row = c.index_mut.ensures.value ∙ get_or_default i.slots.items 0 c.index_mut.result.now [] (sound.some_slots kept i.blanks.items i.rows.capacity c.self.invariant) in
    let some = sym (ap (λ (w : List (Option Attempted)). slice_index_or w node.rule None) row) ∙ sym c.take.ensures.taken ∙ c.in-Some.is in
    let same = sound.head_same_design kept i.blanks.items i.rows.capacity c.self.invariant node here c.in-Some.attempt some in
    sound.shaped_alike kept.opening.design c.in-Some.attempt.design i.place (SameDesign-sym c.in-Some.attempt.design kept.opening.design same) c.self.invariant.place

pub judge-requires-clause-rule : goal.judge-requires-clause-rule
judge-requires-clause-rule c =
    let i = c.self.inside in
    let node = c.args.node in
    let kept : Kept = kept_by (arc_value i.design) (arc_value i.stimulus) i.first i.last i.window i.cycle i.place i.rows.items i.slots.items in
    let here = ap (λ (k : Kept). node_at k.opening.design.nodes k.place.at) c.self.view_is ∙ c.requires.head in
    let row = c.index_mut.ensures.value ∙ get_or_default i.slots.items 0 c.index_mut.result.now [] (sound.some_slots kept i.blanks.items i.rows.capacity c.self.invariant) in
    let some = sym (ap (λ (w : List (Option Attempted)). slice_index_or w node.rule None) row) ∙ sym c.take.ensures.taken ∙ c.in-Some.is in
    (sound.head_right kept i.blanks.items i.rows.capacity c.self.invariant node here c.in-Some.attempt some).at_rule

pub judge-requires-clause-new : goal.judge-requires-clause-new
judge-requires-clause-new c =
    let i = c.self.inside in
    let kept : Kept = kept_by (arc_value i.design) (arc_value i.stimulus) i.first i.last i.window i.cycle i.place i.rows.items i.slots.items in
    let here = ap (λ (k : Kept). node_at k.opening.design.nodes k.place.at) c.self.view_is ∙ c.requires.head in
    sound.head_new kept i.blanks.items i.rows.capacity c.self.invariant c.args.node here

pub invariant_of-self-in-Some : goal.invariant_of-self-in-Some
invariant_of-self-in-Some c =
    let i = c.self.inside in
    let node = c.args.node in
    let kept : Kept = kept_by (arc_value i.design) (arc_value i.stimulus) i.first i.last i.window i.cycle i.place i.rows.items i.slots.items in
    let blanks = i.blanks.items in
    let room = i.rows.capacity in
    let sure : IsSound kept blanks room = c.self.invariant in
    let a = c.in-Some.attempt in
    let place = c.judge.new.self in
    let here = ap (λ (k : Kept). node_at k.opening.design.nodes k.place.at) c.self.view_is ∙ c.requires.head in
    let row = c.index_mut.ensures.value ∙ get_or_default i.slots.items 0 c.index_mut.result.now [] (sound.some_slots kept blanks room sure) in
    let some = sym (ap (λ (w : List (Option Attempted)). slice_index_or w node.rule None) row) ∙ sym c.take.ensures.taken ∙ c.in-Some.is in
    let equal = sound.head_same_design kept blanks room sure node here a some in
    let less : kept.cycle ≤ kept.opening.to = subst (λ (k : Kept). k.cycle ≤ k.opening.to) (sym c.self.view_is) c.requires.within in
    let same = sound.written_back i.slots.items 0 0 node.rule node.rule c.index_mut.result.now c.take.new.self None refl refl c.index_mut.ensures.value (sound.some_slots kept blanks room sure) c.take.ensures.left in
    let shape : IsShaped kept.opening.design place = sound.shaped_alike a.design kept.opening.design place equal c.judge.ensures.shape in
    let own = λ (board : Board) (st : StandsFor kept board). sound.at_alike kept.opening.design a.design kept.place board.walk board.settled (SameDesign-sym a.design kept.opening.design equal) st.place in
    let judges = sound.judges kept blanks room sure node here a c.judge.result place (answer.Settle c.told.result) some less
    (λ (board : Board) (st : StandsFor kept board). c.judge.ensures.verdict board.walk board.settled (own board st))
    (λ (board : Board) (st : StandsFor kept board). c.told.ensures.answer board node a (sym st.cycle) refl)
    (λ (board : Board) (st : StandsFor kept board). sound.at_alike a.design kept.opening.design place (judged board node a c.judge.result).board.walk (judged board node a c.judge.result).board.settled equal (c.judge.ensures.at board (own board st))) in
    subst (λ (slots : List (List (Option Attempted))). IsSound (record kept { place = place; slots = slots }) blanks room) (sym same)
    (sound.taken_sound kept blanks room sure node here place shape (settle kept.opening sure.board).board (judges sure.board sure.stands).1 (settle_plain kept.opening sure.opening sure.board sure.plain))

pub returns-in-Some-clause-step : goal.returns-in-Some-clause-step
returns-in-Some-clause-step c =
    let i = c.self.inside in
    let node = c.args.node in
    let kept : Kept = kept_by (arc_value i.design) (arc_value i.stimulus) i.first i.last i.window i.cycle i.place i.rows.items i.slots.items in
    let blanks = i.blanks.items in
    let room = i.rows.capacity in
    let sure : IsSound kept blanks room = c.self.invariant in
    let a = c.in-Some.attempt in
    let place = c.judge.new.self in
    let here = ap (λ (k : Kept). node_at k.opening.design.nodes k.place.at) c.self.view_is ∙ c.requires.head in
    let row = c.index_mut.ensures.value ∙ get_or_default i.slots.items 0 c.index_mut.result.now [] (sound.some_slots kept blanks room sure) in
    let some = sym (ap (λ (w : List (Option Attempted)). slice_index_or w node.rule None) row) ∙ sym c.take.ensures.taken ∙ c.in-Some.is in
    let equal = sound.head_same_design kept blanks room sure node here a some in
    let less : kept.cycle ≤ kept.opening.to = subst (λ (k : Kept). k.cycle ≤ k.opening.to) (sym c.self.view_is) c.requires.within in
    let same = sound.written_back i.slots.items 0 0 node.rule node.rule c.index_mut.result.now c.take.new.self None refl refl c.index_mut.ensures.value (sound.some_slots kept blanks room sure) c.take.ensures.left in
    let shape : IsShaped kept.opening.design place = sound.shaped_alike a.design kept.opening.design place equal c.judge.ensures.shape in
    let own = λ (board : Board) (st : StandsFor kept board). sound.at_alike kept.opening.design a.design kept.place board.walk board.settled (SameDesign-sym a.design kept.opening.design equal) st.place in
    let judges = sound.judges kept blanks room sure node here a c.judge.result place (answer.Settle c.told.result) some less
    (λ (board : Board) (st : StandsFor kept board). c.judge.ensures.verdict board.walk board.settled (own board st))
    (λ (board : Board) (st : StandsFor kept board). c.told.ensures.answer board node a (sym st.cycle) refl)
    (λ (board : Board) (st : StandsFor kept board). sound.at_alike a.design kept.opening.design place (judged board node a c.judge.result).board.walk (judged board node a c.judge.result).board.settled equal (c.judge.ensures.at board (own board st))) in
    sound.does_for settle kept c.args.self.now (sound.taken kept blanks room sure node here place) (record kept { place = place; slots = slice_set i.slots.items 0 c.take.new.self }) (answer.Settle c.told.result) c.self.view_is
    (ap (λ (slots : List (List (Option Attempted))). let k : Kept = record kept { place = place; slots = slots } in k) (sym same)) judges
