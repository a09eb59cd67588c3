use Rattle.std.proofs.Common.{◌≡◌, ℕ, ◌+◌, ◌≤◌, length, Bool, Option, None, List, [], ◌∷◌, ◌++◌, replicate, drop, sym, ap, ap₂, ◌∙◌, subst}
use Rattle.std.specs.Prelude.{slice_set}
use Rattle.std.specs.Arc.{arc_value}
use Rattle.typed_core.specs.declared.design.Parts.{Parts}
use Rattle.attempt_log.specs.Attempt.{Attempted}
use Rattle.board_core.specs.Board.{settle}
use Rattle.board_core.specs.Kept.{IsAt, Kept}
use Rattle.board_core.specs.inner.Kept.{IsShaped, IsSound, kept_by}
use Rattle.board_core.specs.declared.event.BoardAnswer.TheVariants as answer
use Rattle.attempt_log.specs.declared.entry.Settled.TheVariants as settled
use Rattle.std.proofs.Common.{take}
use Rattle.std.specs.Option.{option_to_list}
use Rattle.std.proofs.lemmas.List.{get_or_default}
use Rattle.kw_bits.specs.BitVector.{BitVector}
use Rattle.kw_bits.specs.Reserved.{ReservedList}
use Rattle.typed_core.specs.declared.design.Next.TheVariants as next
use Rattle.one_rule.specs.Cycle.{begin}
use Rattle.one_rule.specs.Walk.{Walk, start}
use Rattle.one_rule.specs.declared.cycle.State.{State}
use Rattle.one_rule.specs.declared.rows.Row.{Row}
use Rattle.board_core.specs.declared.blank.Blank.{Blank}
use Rattle.board_core.proofs.Slots.{moved_up}
use Rattle.board_core.proofs.Sound as sound
use Rattle.board_core.proofs.kept.KeptBoard.close.Goals as goal

pub invariant_of-self : goal.invariant_of-self
invariant_of-self c =
    let i = c.self.inside in
    let kept : Kept = kept_by (arc_value i.design) (arc_value i.stimulus) i.first i.last i.window i.cycle i.place i.rows.items i.slots.items in
    let blanks = i.blanks.items in
    let room = i.rows.capacity in
    let sure : IsSound kept blanks room = c.self.invariant in
    let design = kept.opening.design in
    let place = c.begin_next.new.self in
    let row = c.filled.result in
    let less : kept.cycle ≤ kept.opening.to = subst (λ (k : Kept). k.cycle ≤ k.opening.to) (sym c.self.view_is) c.requires.within in
    let end : kept.place.at ≡ next.End = subst (λ (k : Kept). k.place.at ≡ next.End) (sym c.self.view_is) c.requires.end in
    let made : row ≡ record { regs = kept.place.regs; fired = kept.place.fired.items } = c.filled.ensures ∙ ap (λ (fired : List Bool). let r : Row = record { regs = kept.place.regs; fired = fired } in r) c.deref.ensures.value in
    let begins = λ (walk : Walk State) (done : List ℕ) (at : IsAt design kept.place walk done).
    subst (λ (d : Parts). IsAt d place (start d.nodes (begin walk.state.regs)) []) c.deref-2.ensures (c.begin_next.ensures.at walk done (subst (λ (d : Parts). IsAt d kept.place walk done) (sym c.deref-2.ensures) at)) in
    let n = length design.rules in
    let first = c.index_mut.ensures.value ∙ get_or_default i.slots.items 0 c.index_mut.result.now [] (sound.some_slots kept blanks room sure) in
    let count : length c.index_mut.result.now ≡ n = ap (λ (w : List (Option Attempted)). length w) first ∙ (sure.slots 0 [] (sound.some_slots kept blanks room sure)).count in
    let cleared : c.clear.new.self ≡ replicate n None = c.clear.ensures ∙ ap (λ (k : ℕ). replicate k None) count in
    let slots : c.rotate_left.new.self.items ≡ moved_up n i.slots.items = c.rotate_left.ensures.items ∙ ap (λ (w : List (Option Attempted)). let all : List (List (Option Attempted)) = slice_set i.slots.items 0 w in drop 1 all ++ take 1 all) cleared in
    let rows : c.push.new.self.items ≡ i.rows.items ++ row ∷ [] = ap (λ (r : ReservedList Row). r.items) c.push.ensures in
    let same : sound.closed_to kept blanks room sure place row ≡ kept_by (arc_value i.design) (arc_value i.stimulus) i.first i.last i.window (i.cycle + 1) place c.push.new.self.items c.rotate_left.new.self.items =
    ap (λ (regs : List BitVector). let k : Kept = record { opening = record kept.opening { regs = regs }; cycle = i.cycle + 1; place = place; rows = i.rows.items ++ row ∷ []; slots = moved_up n i.slots.items } in k) (sym (sound.opened_same kept blanks room sure row))
    ∙ ap₂ (λ (rs : List Row) (ss : List (List (Option Attempted))). kept_by (arc_value i.design) (arc_value i.stimulus) i.first i.last i.window (i.cycle + 1) place rs ss) (sym rows) (sym slots) in
    let popped : blanks ≡ c.pop.new.self.items ++ c.in-Some.blank ∷ [] = c.pop.ensures.items ∙ ap (λ (o : Option Blank). c.pop.new.self.items ++ option_to_list o) c.in-Some.is in
    let shape : IsShaped design place = subst (λ (d : Parts). IsShaped d place) c.deref-2.ensures c.begin_next.ensures.shape in
    let capacity : room ≡ c.push.new.self.capacity = sym (ap (λ (r : ReservedList Row). r.capacity) c.push.ensures) in
    subst (λ (k : Kept). IsSound k c.pop.new.self.items c.push.new.self.capacity) same
    (subst (λ (r : ℕ). IsSound (sound.closed_to kept blanks room sure place row) c.pop.new.self.items r) capacity
    (sound.closed_sound kept blanks room sure place row made begins less end c.pop.new.self.items c.in-Some.blank popped shape))

pub returns-clause-step : goal.returns-clause-step
returns-clause-step c =
    let i = c.self.inside in
    let kept : Kept = kept_by (arc_value i.design) (arc_value i.stimulus) i.first i.last i.window i.cycle i.place i.rows.items i.slots.items in
    let blanks = i.blanks.items in
    let room = i.rows.capacity in
    let sure : IsSound kept blanks room = c.self.invariant in
    let design = kept.opening.design in
    let place = c.begin_next.new.self in
    let row = c.filled.result in
    let less : kept.cycle ≤ kept.opening.to = subst (λ (k : Kept). k.cycle ≤ k.opening.to) (sym c.self.view_is) c.requires.within in
    let end : kept.place.at ≡ next.End = subst (λ (k : Kept). k.place.at ≡ next.End) (sym c.self.view_is) c.requires.end in
    let made : row ≡ record { regs = kept.place.regs; fired = kept.place.fired.items } = c.filled.ensures ∙ ap (λ (fired : List Bool). let r : Row = record { regs = kept.place.regs; fired = fired } in r) c.deref.ensures.value in
    let begins = λ (walk : Walk State) (done : List ℕ) (at : IsAt design kept.place walk done).
    subst (λ (d : Parts). IsAt d place (start d.nodes (begin walk.state.regs)) []) c.deref-2.ensures (c.begin_next.ensures.at walk done (subst (λ (d : Parts). IsAt d kept.place walk done) (sym c.deref-2.ensures) at)) in
    let n = length design.rules in
    let first = c.index_mut.ensures.value ∙ get_or_default i.slots.items 0 c.index_mut.result.now [] (sound.some_slots kept blanks room sure) in
    let count : length c.index_mut.result.now ≡ n = ap (λ (w : List (Option Attempted)). length w) first ∙ (sure.slots 0 [] (sound.some_slots kept blanks room sure)).count in
    let cleared : c.clear.new.self ≡ replicate n None = c.clear.ensures ∙ ap (λ (k : ℕ). replicate k None) count in
    let slots : c.rotate_left.new.self.items ≡ moved_up n i.slots.items = c.rotate_left.ensures.items ∙ ap (λ (w : List (Option Attempted)). let all : List (List (Option Attempted)) = slice_set i.slots.items 0 w in drop 1 all ++ take 1 all) cleared in
    let rows : c.push.new.self.items ≡ i.rows.items ++ row ∷ [] = ap (λ (r : ReservedList Row). r.items) c.push.ensures in
    let same : sound.closed_to kept blanks room sure place row ≡ kept_by (arc_value i.design) (arc_value i.stimulus) i.first i.last i.window (i.cycle + 1) place c.push.new.self.items c.rotate_left.new.self.items =
    ap (λ (regs : List BitVector). let k : Kept = record { opening = record kept.opening { regs = regs }; cycle = i.cycle + 1; place = place; rows = i.rows.items ++ row ∷ []; slots = moved_up n i.slots.items } in k) (sym (sound.opened_same kept blanks room sure row))
    ∙ ap₂ (λ (rs : List Row) (ss : List (List (Option Attempted))). kept_by (arc_value i.design) (arc_value i.stimulus) i.first i.last i.window (i.cycle + 1) place rs ss) (sym rows) (sym slots) in
    sound.does_for settle kept c.args.self.now (sound.closed_to kept blanks room sure place row)
    (kept_by (arc_value i.design) (arc_value i.stimulus) i.first i.last i.window (i.cycle + 1) place c.push.new.self.items c.rotate_left.new.self.items)
    (answer.Settle (settled.CycleClosed i.cycle)) c.self.view_is same (sound.closes kept blanks room sure place row made begins less end)
