use Rattle.std.proofs.Common.{◌≡◌, ℕ, ◌+◌, length, Option, None, List, [], ◌∷◌, ◌++◌, replicate, sym, ap, ap₂, ◌∙◌, subst, arith}
use Rattle.std.specs.Arc.{arc_value}
use Rattle.typed_core.specs.declared.design.Parts.{Parts}
use Rattle.attempt_log.specs.Attempt.{Attempted}
use Rattle.board_core.specs.Kept.{IsAt, StandsFor}
use Rattle.board_core.specs.inner.Kept.{IsShaped, IsSound, kept_by}
use Rattle.kw_bits.specs.BitVector.{BitVector}
use Rattle.kw_bits.specs.Reserved.{ReservedList}
use Rattle.typed_core.specs.Valid.{IsValid}
use Rattle.one_rule.specs.Cycle.{begin}
use Rattle.one_rule.specs.Run.{opening}
use Rattle.one_rule.specs.Stimulus.{AlwaysFits}
use Rattle.one_rule.specs.Walk.{start}
use Rattle.one_rule.specs.declared.rows.Row.{Row}
use Rattle.board_core.specs.Board.{Opening, opened}
use Rattle.board_core.specs.inner.Kept.{IsBlank}
use Rattle.board_core.specs.Position.{IsOpening}
use Rattle.std.specs.Prelude.{All}
use Rattle.board_core.proofs.Sound as sound
use Rattle.board_core.proofs.kept.KeptBoard.begin.Goals as goal

pub invariant_of-result : goal.invariant_of-result
invariant_of-result c =
    let a = c.args in
    let o : Opening = record { design = arc_value a.design; stimulus = arc_value a.stimulus; regs = a.regs; from = a.span.from; to = a.span.to; window = a.span.window } in
    let valid : IsValid o.design = subst IsValid (c.behind-design.view_is ∙ c.deref-5.ensures) c.behind-design.invariant in
    let always : AlwaysFits o.stimulus = subst AlwaysFits c.deref.ensures c.recall.ensures in
    let sure : IsOpening o = record { design = valid; stimulus = c.requires.stimulus; always = always; registers = c.requires.registers; order = a.span.order } in
    let place = c.in_ok-new.field-0 in
    let at : IsAt o.design place (start o.design.nodes (begin o.regs)) [] = subst (λ (d : Parts). IsAt d place (start d.nodes (begin o.regs)) []) c.deref-3.ensures c.in_ok-new.ensures.at in
    let row : c.in_ok-opening.field-0 ≡ opening (length o.design.rules) o.regs =
    c.in_ok-opening.ensures.row ∙ ap₂ (λ (d : Parts) (regs : List BitVector). opening (length d.rules) regs) c.deref-2.ensures (c.in_ok-copy.ensures ∙ c.as_slice.ensures) in
    let held = c.rows-2.view_is ∙ c.push.ensures in
    let rows : c.rows-2.inside.items.items ≡ opening (length o.design.rules) o.regs ∷ [] =
    ap (λ (r : ReservedList Row). r.items) held ∙ ap (λ (r : ReservedList Row). r.items ++ c.in_ok-opening.field-0 ∷ []) c.in_ok-rows.ensures ∙ ap (λ (r : Row). r ∷ []) row in
    let rules' : c.len.result ≡ length o.design.rules = c.len.ensures ∙ ap (λ (d : Parts). length d.rules) (c.behind-design.view_is ∙ c.deref-5.ensures) in
    let slots : c.in_ok-empty_slots.field-0.items ≡ replicate o.window (replicate (length o.design.rules) None) =
    c.in_ok-empty_slots.ensures ∙ ap (λ (n : ℕ). let row : List (Option Attempted) = replicate n None in replicate o.window row) rules' in
    let shape : IsShaped o.design place = subst (λ (d : Parts). IsShaped d place) c.deref-3.ensures c.in_ok-new.ensures.shape in
    let blanks = c.in_ok-room.field-0.items in
    let all : All (IsBlank o.design) blanks = subst (λ (d : Parts). All (IsBlank d) blanks) c.deref-4.ensures c.in_ok-room.ensures.blank in
    let room = c.rows-2.inside.items.cap in
    let capacity = ap (λ (r : ReservedList Row). r.capacity) held ∙ ap (λ (r : ReservedList Row). r.capacity) c.in_ok-rows.ensures in
    subst (λ (rs : List Row). IsSound (kept_by o.design o.stimulus o.from o.to o.window (o.from + 1) place rs c.in_ok-empty_slots.field-0.items) blanks room) (sym rows)
    (subst (λ (ss : List (List (Option Attempted))). IsSound (kept_by o.design o.stimulus o.from o.to o.window (o.from + 1) place (opening (length o.design.rules) o.regs ∷ []) ss) blanks room) (sym slots)
    (sound.begun_sound o sure place at blanks room a.span.last a.span.some_ahead a.span.few_ahead shape all (omega (arith, c.in_ok-room.ensures.count, a.span.order)) (omega (arith, c.in_ok-room.ensures.count, capacity, a.span.order))))

pub returns-clause-opened : goal.returns-clause-opened
returns-clause-opened c =
    let a = c.args in
    let o : Opening = record { design = arc_value a.design; stimulus = arc_value a.stimulus; regs = a.regs; from = a.span.from; to = a.span.to; window = a.span.window } in
    let valid : IsValid o.design = subst IsValid (c.behind-design.view_is ∙ c.deref-5.ensures) c.behind-design.invariant in
    let always : AlwaysFits o.stimulus = subst AlwaysFits c.deref.ensures c.recall.ensures in
    let sure : IsOpening o = record { design = valid; stimulus = c.requires.stimulus; always = always; registers = c.requires.registers; order = a.span.order } in
    let place = c.in_ok-new.field-0 in
    let at : IsAt o.design place (start o.design.nodes (begin o.regs)) [] = subst (λ (d : Parts). IsAt d place (start d.nodes (begin o.regs)) []) c.deref-3.ensures c.in_ok-new.ensures.at in
    let row : c.in_ok-opening.field-0 ≡ opening (length o.design.rules) o.regs =
    c.in_ok-opening.ensures.row ∙ ap₂ (λ (d : Parts) (regs : List BitVector). opening (length d.rules) regs) c.deref-2.ensures (c.in_ok-copy.ensures ∙ c.as_slice.ensures) in
    let held = c.rows-2.view_is ∙ c.push.ensures in
    let rows : c.rows-2.inside.items.items ≡ opening (length o.design.rules) o.regs ∷ [] =
    ap (λ (r : ReservedList Row). r.items) held ∙ ap (λ (r : ReservedList Row). r.items ++ c.in_ok-opening.field-0 ∷ []) c.in_ok-rows.ensures ∙ ap (λ (r : Row). r ∷ []) row in
    let rules' : c.len.result ≡ length o.design.rules = c.len.ensures ∙ ap (λ (d : Parts). length d.rules) (c.behind-design.view_is ∙ c.deref-5.ensures) in
    let slots : c.in_ok-empty_slots.field-0.items ≡ replicate o.window (replicate (length o.design.rules) None) =
    c.in_ok-empty_slots.ensures ∙ ap (λ (n : ℕ). let row : List (Option Attempted) = replicate n None in replicate o.window row) rules' in
    subst (λ (rs : List Row). StandsFor (kept_by o.design o.stimulus o.from o.to o.window (o.from + 1) place rs c.in_ok-empty_slots.field-0.items) (opened (kept_by o.design o.stimulus o.from o.to o.window (o.from + 1) place rs c.in_ok-empty_slots.field-0.items).opening)) (sym rows)
    (subst (λ (ss : List (List (Option Attempted))). StandsFor (kept_by o.design o.stimulus o.from o.to o.window (o.from + 1) place (opening (length o.design.rules) o.regs ∷ []) ss) (opened o)) (sym slots)
    (sound.begun_stands o sure place at))
