use Rattle.std.proofs.Common.{◌<◌, length, ap, arith}
use Rattle.std.proofs.lemmas.List.{get_or_read, length-map}
use Rattle.kw_bits.specs.BitVector.{BitVector}
use Rattle.typed_core.specs.Evaluation.{unit}
use Rattle.rule_log.specs.StandsFor.{RegisterLog, registers}
use Rattle.action_interp.proofs.Steps.{read_notes, read_stops}
use Rattle.action_interp.proofs.ports.RulePortsPorts.read.Goals as goal

pub may_read-requires-clause-register : goal.may_read-requires-clause-register
may_read-requires-clause-register c =
    omega (arith, c.requires.register, length-map c.args.self.now.regs.now (λ (v : BitVector). v.width), c.args.self.now.sched_fits)

pub seen-value-requires-clause-rule : goal.seen-value-requires-clause-rule
seen-value-requires-clause-rule c =
    omega (arith, ap (λ (log : RegisterLog). registers log) c.deref.ensures, c.requires.register, length-map c.args.self.now.regs.now (λ (v : BitVector). v.width), c.args.self.now.log_fits)

pub seen-value-requires-clause-sched : goal.seen-value-requires-clause-sched
seen-value-requires-clause-sched c =
    omega (arith, c.requires.register, length-map c.args.self.now.regs.now (λ (v : BitVector). v.width), c.args.self.now.sched_fits)

pub note-requires-clause-register : goal.note-requires-clause-register
note-requires-clause-register c =
    omega (arith, ap (λ (log : RegisterLog). registers log) c.deref_mut.ensures.value, c.requires.register, length-map c.args.self.now.regs.now (λ (v : BitVector). v.width), c.args.self.now.log_fits)

pub returns-then-not-may_read-clause-answers : goal.returns-then-not-may_read-clause-answers
returns-then-not-may_read-clause-answers c events running =
    let ports = c.args.self.now in
    read_stops ports.regs.now ports.sched.now ports.log.value c.args.port c.args.register events running c.may_read.result c.may_read.ensures c.if-not-may_read.true

pub returns-clause-answers : goal.returns-clause-answers
returns-clause-answers c events running =
    let ports = c.args.self.now in
    let within : c.args.register < length ports.regs.now = omega (arith, c.requires.register, length-map ports.regs.now (λ (v : BitVector). v.width)) in
    let begins = get_or_read ports.regs.now c.args.register c.get-start.result.now within c.get-start.ensures unit in
    read_notes ports.regs.now ports.sched.now ports.log.value c.args.port c.args.register events running c.note.new.self c.get-start.result.now c.seen-value.result c.may_read.result
    c.requires.port c.requires.register begins (rw c.deref.ensures at c.seen-value.ensures) c.may_read.ensures c.if-not-may_read.false (rw c.deref_mut.ensures.value at c.note.ensures.stands)
