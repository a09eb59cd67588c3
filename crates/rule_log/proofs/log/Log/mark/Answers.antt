use Rattle.std.proofs.Common.{◌≡◌, ◌==◌, ◌<◌, true, false, length, lit<, sym, ap, ◌∙◌, arith}
use Rattle.std.specs.Prelude.{slice_index_or}
use Rattle.std.proofs.lemmas.Bool.{not_from_true, not_from_false}
use Rattle.std.proofs.lemmas.List.{get_or_read}
use Rattle.rule_log.specs.Flags.{is_some}
use Rattle.rule_log.specs.StandsFor.{RegisterLog, registers}
use Rattle.rule_log.specs.declared.flags.PortFlags.{PortFlags}
use Rattle.rule_log.proofs.Logs.{no_flag}
use Rattle.rule_log.proofs.Walks.{room_left, sound_same}
use Rattle.rule_log.proofs.log.Log.mark.Goals as goal

pub push_reserved-requires : goal.push_reserved-requires
push_reserved-requires c =
    let inside : c.args.register < length c.self.inside.flags.items = omega (arith, c.requires, ap (λ (l : RegisterLog). registers l) c.self.view_is) in
    let read : c.index.result.now ≡ slice_index_or c.self.inside.flags.items c.args.register no_flag = get_or_read c.self.inside.flags.items c.args.register c.index.result.now inside c.index.ensures no_flag in
    let empty : (c.index.result.now.0 == 0) ≡ true = sym (c.is_empty.ensures tt) ∙ c.if-is_empty.true in
    let none : is_some (slice_index_or c.self.inside.flags.items c.args.register no_flag) ≡ false = ap (λ (f : PortFlags). is_some f) (sym read) ∙ not_from_true (c.index.result.now.0 == 0) empty in
    (lit< tt, room_left c.self.inside.flags.items c.self.inside.values.items c.self.inside.touched.items c.self.inside.touched.capacity c.args.register c.self.invariant inside none)

pub invariant_of-self-else-is_empty : goal.invariant_of-self-else-is_empty
invariant_of-self-else-is_empty c =
    let inside : c.args.register < length c.self.inside.flags.items = omega (arith, c.requires, ap (λ (l : RegisterLog). registers l) c.self.view_is) in
    let read : c.index.result.now ≡ slice_index_or c.self.inside.flags.items c.args.register no_flag = get_or_read c.self.inside.flags.items c.args.register c.index.result.now inside c.index.ensures no_flag in
    let full : (c.index.result.now.0 == 0) ≡ false = sym (c.is_empty.ensures tt) ∙ c.if-is_empty.false in
    let some : is_some c.index.result.now ≡ true = not_from_false (c.index.result.now.0 == 0) full in
    let before : is_some (slice_index_or c.self.inside.flags.items c.args.register no_flag) ≡ true = ap (λ (f : PortFlags). is_some f) (sym read) ∙ some in
    let sound = sound_same c.self.inside.flags.items c.self.inside.values.items c.self.inside.touched.items c.self.inside.touched.capacity c.args.register c.and_also-both.result c.self.invariant inside (c.and_also-both.ensures.some some ∙ sym before) in
    rw c.set.ensures sound
