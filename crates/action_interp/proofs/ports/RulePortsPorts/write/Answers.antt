use Rattle.std.proofs.Common.{refl, ap, arith}
use Rattle.std.proofs.lemmas.List.{length-map}
use Rattle.std.proofs.lemmas.Option.{slice_get_within}
use Rattle.kw_bits.specs.BitVector.{BitVector}
use Rattle.rule_log.specs.StandsFor.{RegisterLog, registers}
use Rattle.action_interp.specs.inner.ByLog.{widths_of}
use Rattle.action_interp.proofs.Steps.{write_notes, write_stops}
use Rattle.action_interp.proofs.ports.RulePortsPorts.write.Goals as goal

pub may_write-requires-clause-rule : goal.may_write-requires-clause-rule
may_write-requires-clause-rule c =
    let regs = c.args.self.now.regs.now in
    omega (arith, ap (λ (log : RegisterLog). registers log) c.deref.ensures, slice_get_within (widths_of regs) c.args.register c.args.value.width c.requires.width, length-map regs (λ (v : BitVector). v.width), c.args.self.now.log_fits)

pub may_write-requires-clause-sched : goal.may_write-requires-clause-sched
may_write-requires-clause-sched c =
    let regs = c.args.self.now.regs.now in
    omega (arith, slice_get_within (widths_of regs) c.args.register c.args.value.width c.requires.width, length-map regs (λ (v : BitVector). v.width), c.args.self.now.sched_fits)

pub note-requires-clause-register : goal.note-requires-clause-register
note-requires-clause-register c =
    let regs = c.args.self.now.regs.now in
    omega (arith, ap (λ (log : RegisterLog). registers log) c.deref_mut.ensures.value, slice_get_within (widths_of regs) c.args.register c.args.value.width c.requires.width, length-map regs (λ (v : BitVector). v.width), c.args.self.now.log_fits)

pub returns-then-not-may_write-clause-answers : goal.returns-then-not-may_write-clause-answers
returns-then-not-may_write-clause-answers c events running =
    let ports = c.args.self.now in
    write_stops ports.regs.now ports.sched.now ports.log.value c.args.port c.args.register c.args.value events running c.may_write.result (rw c.deref.ensures at c.may_write.ensures) c.if-not-may_write.true

pub returns-clause-answers : goal.returns-clause-answers
returns-clause-answers c events running =
    let ports = c.args.self.now in
    write_notes ports.regs.now ports.sched.now ports.log.value c.args.port c.args.register c.args.value events running c.note.new.self c.may_write.result
    c.requires.port c.requires.width (c.width-width.ensures.bits, refl) (rw c.deref.ensures at c.may_write.ensures) c.if-not-may_write.false (rw c.deref_mut.ensures.value at c.note.ensures.stands)
