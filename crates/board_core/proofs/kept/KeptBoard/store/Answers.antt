use Rattle.std.proofs.Common.{◌≡◌, ℕ, ◌-◌, ◌<◌, length, Option, Some, List, [], sym, ap, ◌∙◌, subst, arith}
use Rattle.std.specs.Prelude.{slice_set}
use Rattle.std.proofs.lemmas.List.{get_or_default}
use Rattle.std.specs.Arc.{arc_value}
use Rattle.attempt_log.specs.Attempt.{Attempted}
use Rattle.attempt_log.specs.Setting.{IsFor}
use Rattle.board_core.specs.Board.{setting_of, stored}
use Rattle.board_core.specs.Kept.{Kept, StandsFor}
use Rattle.board_core.specs.inner.Kept.{IsSound, IsNear, kept_by}
use Rattle.board_core.proofs.Sound as sound
use Rattle.board_core.proofs.kept.KeptBoard.store.Goals as goal

pub put-requires : goal.put-requires
put-requires c =
    let i = c.self.inside in
    let a = c.args.attempt in
    let kept : Kept = kept_by (arc_value i.design) (arc_value i.stimulus) i.first i.last i.window i.cycle i.place i.rows.items i.slots.items in
    let is_for = subst (λ (k : Kept). IsFor (setting_of k.opening) a) (sym c.self.view_is) c.requires.fits in
    let near = subst (λ (k : Kept). IsNear k a) (sym c.self.view_is) c.requires.near in
    let blanks = i.blanks.items in
    let room = i.rows.capacity in
    let ahead : c.cycle.result - i.cycle ≡ a.cycle - kept.cycle = ap (λ (n : ℕ). n - i.cycle) c.cycle.ensures in
    let inside : c.cycle.result - i.cycle < length i.slots.items = omega (arith, sound.store_inside kept blanks room c.self.invariant a c.recall.ensures is_for near, ahead) in
    let row = c.index_mut.ensures.value ∙ get_or_default i.slots.items (c.cycle.result - i.cycle) c.index_mut.result.now [] inside in
    let count = ap (λ (w : List (Option Attempted)). length w) row ∙ (c.self.invariant.slots (c.cycle.result - i.cycle) [] inside).count in
    omega (arith, count, sound.rule_within kept blanks room c.self.invariant a c.recall.ensures is_for near, c.rule-rule.ensures.rule)

pub invariant_of-self : goal.invariant_of-self
invariant_of-self c =
    let i = c.self.inside in
    let a = c.args.attempt in
    let kept : Kept = kept_by (arc_value i.design) (arc_value i.stimulus) i.first i.last i.window i.cycle i.place i.rows.items i.slots.items in
    let is_for = subst (λ (k : Kept). IsFor (setting_of k.opening) a) (sym c.self.view_is) c.requires.fits in
    let near = subst (λ (k : Kept). IsNear k a) (sym c.self.view_is) c.requires.near in
    let blanks = i.blanks.items in
    let room = i.rows.capacity in
    let ahead : c.cycle.result - i.cycle ≡ a.cycle - kept.cycle = ap (λ (n : ℕ). n - i.cycle) c.cycle.ensures in
    let inside : c.cycle.result - i.cycle < length i.slots.items = omega (arith, sound.store_inside kept blanks room c.self.invariant a c.recall.ensures is_for near, ahead) in
    let same = sound.written_back i.slots.items (c.cycle.result - i.cycle) (a.cycle - kept.cycle) c.rule-rule.result a.rule c.index_mut.result.now c.put.new.self (Some a) ahead c.rule-rule.ensures.rule c.index_mut.ensures.value inside c.put.ensures in
    subst (λ (slots : List (List (Option Attempted))). IsSound (record kept { slots = slots }) blanks room) (sym same)
    (sound.store_sound kept blanks room c.self.invariant a c.recall.ensures is_for near)

pub returns-clause-stored : goal.returns-clause-stored
returns-clause-stored c board h =
    let i = c.self.inside in
    let a = c.args.attempt in
    let kept : Kept = kept_by (arc_value i.design) (arc_value i.stimulus) i.first i.last i.window i.cycle i.place i.rows.items i.slots.items in
    let is_for = subst (λ (k : Kept). IsFor (setting_of k.opening) a) (sym c.self.view_is) c.requires.fits in
    let near = subst (λ (k : Kept). IsNear k a) (sym c.self.view_is) c.requires.near in
    let blanks = i.blanks.items in
    let room = i.rows.capacity in
    let ahead : c.cycle.result - i.cycle ≡ a.cycle - kept.cycle = ap (λ (n : ℕ). n - i.cycle) c.cycle.ensures in
    let inside : c.cycle.result - i.cycle < length i.slots.items = omega (arith, sound.store_inside kept blanks room c.self.invariant a c.recall.ensures is_for near, ahead) in
    let same = sound.written_back i.slots.items (c.cycle.result - i.cycle) (a.cycle - kept.cycle) c.rule-rule.result a.rule c.index_mut.result.now c.put.new.self (Some a) ahead c.rule-rule.ensures.rule c.index_mut.ensures.value inside c.put.ensures in
    let new = c.put.new.self in
    subst (λ (k : Kept). StandsFor (record kept { slots = slice_set i.slots.items (c.cycle.result - i.cycle) new }) (stored k.opening board a)) c.self.view_is
    (subst (λ (slots : List (List (Option Attempted))). StandsFor (record kept { slots = slots }) (stored kept.opening board a)) (sym same)
    (sound.store_stands kept blanks room c.self.invariant a c.recall.ensures is_for near board (subst (λ (k : Kept). StandsFor k board) (sym c.self.view_is) h)))
