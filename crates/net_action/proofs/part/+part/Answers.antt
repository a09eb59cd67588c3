use Rattle.std.proofs.Common.{ℕ, List, ◌∷◌, Option, ap, sym, subst, ◌∙◌, rules}
use Rattle.std.specs.Prelude.{nat_eq}
use Rattle.std.proofs.lemmas.Result.{IfOk-weaker}
use Rattle.kw_bits.specs.BitVector.{BitVector}
use Rattle.typed_core.specs.Valid.{ActionHasWidth, declarations}
use Rattle.typed_core.specs.Widths.{input_widths, register_widths}
use Rattle.typed_core.specs.declared.action.Action.{the_lemmas}
use Rattle.typed_core.specs.declared.action.Action.TheVariants as action
use Rattle.net_action.specs.inner.Parts.{CanBe, CanBeOperand, IsPart, IsRunning}
use Rattle.net_action.specs.Wires.{ArePortWires}
use Rattle.net_action.proofs.Growth.{grows_on, log_kept, ports_kept, wire_kept}
use Rattle.net_action.proofs.Making.{abort_made, host_form, if_form, let_form, one_form, sequence_form, sext_form, slice_form, table_form, two_form, write_form, zext_form, arms_fit, binary_applies, binary_first, binary_made, binary_second, const_made, if_arms, if_bit, if_first, if_made, input_made, let_first, let_made, let_second, local_made, of_form, operand_has_wire, operand_part, read_made, read_ready, sequence_first, sequence_made, sequence_second, unary_applies, unary_first, unary_made, write_applies, write_first, write_made}
use Rattle.net_action.proofs.part.+part.Goals as goal

-- ---- an operation on an operand

pub unary-operand-requires : goal.unary-operand-requires
unary-operand-requires g t c κs within =
    let ready : CanBeOperand (declarations c.args.context.now.design.now) c.args.net.now c.args.a.now c.args.context.now.locals.now = unary_first (declarations c.args.context.now.design.now) c.args.context.now.ports.now c.args.net.now c.args.context.now.locals.now c.args.operation c.args.a.now c.requires.ready in
    search (rules, the_lemmas)

pub unary-apply-requires-clause-operation : goal.unary-apply-requires-clause-operation
unary-apply-requires-clause-operation g t c = unary_applies (declarations c.args.context.now.design.now) c.args.context.now.ports.now c.args.net.now c.operand.new.net c.args.run.now c.operand.new.run c.args.context.now.locals.now c.args.operation c.args.a.now c.in_ok-x.x c.requires.ready c.in_ok-x.ensures.part

pub unary-returns-in_err-wire-clause-grows : goal.unary-returns-in_err-wire-clause-grows
unary-returns-in_err-wire-clause-grows g t c = grows_on (input_widths c.args.context.now.design.now) c.args.net.now c.operand.new.net c.apply.new.net c.operand.ensures.grows (c.apply.ensures.grows (input_widths c.args.context.now.design.now))

pub unary-returns-clause-grows : goal.unary-returns-clause-grows
unary-returns-clause-grows g t c = grows_on (input_widths c.args.context.now.design.now) c.args.net.now c.operand.new.net c.apply.new.net c.operand.ensures.grows (c.apply.ensures.grows (input_widths c.args.context.now.design.now))

pub unary-returns-clause-part : goal.unary-returns-clause-part
unary-returns-clause-part g t c = unary_made (declarations c.args.context.now.design.now) c.args.context.now.ports.now c.args.net.now c.operand.new.net c.apply.new.net c.args.run.now c.operand.new.run c.args.operation c.args.a.now c.args.context.now.locals.now c.in_ok-x.x c.in_ok-wire.wire c.in_ok-x.ensures.part (c.apply.ensures.grows (input_widths c.args.context.now.design.now)) c.in_ok-wire.ensures.wire c.in_ok-wire.ensures.value

-- ---- an operator on two operands

pub binary-operand-requires : goal.binary-operand-requires
binary-operand-requires g t c κs within =
    let ready : CanBeOperand (declarations c.args.context.now.design.now) c.args.net.now c.args.a.now c.args.context.now.locals.now = binary_first (declarations c.args.context.now.design.now) c.args.context.now.ports.now c.args.net.now c.args.context.now.locals.now c.args.operator c.args.a.now c.args.b.now c.requires.ready in
    search (rules, the_lemmas)

pub binary-operand-requires-2 : goal.binary-operand-requires-2
binary-operand-requires-2 g t c κs within =
    let ready : CanBeOperand (declarations c.args.context.now.design.now) c.operand.new.net c.args.b.now c.args.context.now.locals.now = binary_second (declarations c.args.context.now.design.now) c.args.context.now.ports.now c.args.net.now c.operand.new.net c.args.context.now.locals.now c.args.operator c.args.a.now c.args.b.now c.operand.ensures.grows c.requires.ready in
    let ports : ArePortWires c.operand.new.net (register_widths c.args.context.now.design.now) c.args.context.now.ports.now = ports_kept (input_widths c.args.context.now.design.now) c.args.net.now c.operand.new.net (register_widths c.args.context.now.design.now) c.args.context.now.ports.now c.operand.ensures.grows c.requires.ports in
    let running : IsRunning c.operand.new.net (register_widths c.args.context.now.design.now) c.operand.new.run = c.in_ok-x.ensures.part.running in
    search (rules, the_lemmas)

pub binary-returns-in_err-y-clause-grows : goal.binary-returns-in_err-y-clause-grows
binary-returns-in_err-y-clause-grows g t c = (grows_on (input_widths c.args.context.now.design.now) c.args.net.now c.operand.new.net c.operand-2.new.net c.operand.ensures.grows c.operand-2.ensures.grows)

pub binary-two-requires : goal.binary-two-requires
binary-two-requires g t c = binary_applies (declarations c.args.context.now.design.now) c.args.context.now.ports.now c.args.net.now c.operand.new.net c.operand-2.new.net c.args.run.now c.operand.new.run c.operand-2.new.run c.args.context.now.locals.now c.args.operator c.args.a.now c.args.b.now c.in_ok-x.x c.in_ok-y.y c.operand.ensures.grows c.operand-2.ensures.grows c.requires.ready c.in_ok-x.ensures.part c.in_ok-y.ensures.part

pub binary-returns-in_err-wire-clause-grows : goal.binary-returns-in_err-wire-clause-grows
binary-returns-in_err-wire-clause-grows g t c = grows_on (input_widths c.args.context.now.design.now) c.args.net.now c.operand-2.new.net c.two.new.net (grows_on (input_widths c.args.context.now.design.now) c.args.net.now c.operand.new.net c.operand-2.new.net c.operand.ensures.grows c.operand-2.ensures.grows) (c.two.ensures.grows (input_widths c.args.context.now.design.now))

pub binary-returns-clause-grows : goal.binary-returns-clause-grows
binary-returns-clause-grows g t c = grows_on (input_widths c.args.context.now.design.now) c.args.net.now c.operand-2.new.net c.two.new.net (grows_on (input_widths c.args.context.now.design.now) c.args.net.now c.operand.new.net c.operand-2.new.net c.operand.ensures.grows c.operand-2.ensures.grows) (c.two.ensures.grows (input_widths c.args.context.now.design.now))

pub binary-returns-clause-part : goal.binary-returns-clause-part
binary-returns-clause-part g t c = binary_made (declarations c.args.context.now.design.now) c.args.context.now.ports.now c.args.net.now c.operand.new.net c.operand-2.new.net c.two.new.net c.args.run.now c.operand.new.run c.operand-2.new.run c.args.operator c.args.a.now c.args.b.now c.args.context.now.locals.now c.in_ok-x.x c.in_ok-y.y c.in_ok-wire.wire c.operand.ensures.grows c.operand-2.ensures.grows (c.two.ensures.grows (input_widths c.args.context.now.design.now)) c.in_ok-x.ensures.part c.in_ok-y.ensures.part c.in_ok-wire.ensures.wire c.in_ok-wire.ensures.value

-- ---- a body in which a name is bound

pub bound-operand-requires : goal.bound-operand-requires
bound-operand-requires g t c κs within =
    let ready : CanBeOperand (declarations c.args.context.now.design.now) c.args.net.now c.args.value.now c.args.context.now.locals.now = let_first (declarations c.args.context.now.design.now) c.args.context.now.ports.now c.args.net.now c.args.context.now.locals.now c.args.value.now c.args.body.now c.requires.ready in
    search (rules, the_lemmas)

pub bound-part-requires : goal.bound-part-requires
bound-part-requires g t c κs within =
    let inner : CanBe (ActionHasWidth (declarations c.args.context.now.design.now) c.args.body.now) c.operand.new.net (c.in_ok-x.x ∷ c.args.context.now.locals.now) = let_second (declarations c.args.context.now.design.now) c.args.context.now.ports.now c.args.net.now c.operand.new.net c.args.run.now c.operand.new.run c.args.context.now.locals.now c.args.value.now c.args.body.now c.in_ok-x.x c.operand.ensures.grows c.requires.ready c.in_ok-x.ensures.part in
    let ready : CanBe (ActionHasWidth (declarations c.args.context.now.design.now) c.args.body.now) c.operand.new.net c.bind-locals.result = subst (λ (names : List ℕ). CanBe (ActionHasWidth (declarations c.args.context.now.design.now) c.args.body.now) c.operand.new.net names) (sym c.bind-locals.ensures) inner in
    let ports : ArePortWires c.operand.new.net (register_widths c.args.context.now.design.now) c.args.context.now.ports.now = ports_kept (input_widths c.args.context.now.design.now) c.args.net.now c.operand.new.net (register_widths c.args.context.now.design.now) c.args.context.now.ports.now c.operand.ensures.grows c.requires.ports in
    let running : IsRunning c.operand.new.net (register_widths c.args.context.now.design.now) c.operand.new.run = c.in_ok-x.ensures.part.running in
    search (rules, the_lemmas)

pub bound-returns-clause-grows : goal.bound-returns-clause-grows
bound-returns-clause-grows g t c = grows_on (input_widths c.args.context.now.design.now) c.args.net.now c.operand.new.net c.part.new.net c.operand.ensures.grows c.part.ensures.grows

pub bound-returns-clause-part : goal.bound-returns-clause-part
bound-returns-clause-part g t c =
    IfOk-weaker c.part.result _ _ (λ wire made_inside.
    let made : IsPart (declarations c.args.context.now.design.now) c.args.context.now.ports.now c.operand.new.net c.operand.new.run c.args.body.now (c.in_ok-x.x ∷ c.args.context.now.locals.now) c.part.new.net c.part.new.run wire = subst (λ (names : List ℕ). IsPart (declarations c.args.context.now.design.now) c.args.context.now.ports.now c.operand.new.net c.operand.new.run c.args.body.now names c.part.new.net c.part.new.run wire) c.bind-locals.ensures made_inside in
    let_made (declarations c.args.context.now.design.now) c.args.context.now.ports.now c.args.net.now c.operand.new.net c.part.new.net c.args.run.now c.operand.new.run c.part.new.run c.args.value.now c.args.body.now c.args.context.now.locals.now c.in_ok-x.x wire c.operand.ensures.grows c.part.ensures.grows c.in_ok-x.ensures.part made) c.part.ensures.part

-- ---- one action after another

pub sequence-part-requires : goal.sequence-part-requires
sequence-part-requires g t c κs within =
    let ready : CanBe (ActionHasWidth (declarations c.args.context.now.design.now) c.args.first.now) c.args.net.now c.args.context.now.locals.now = sequence_first (declarations c.args.context.now.design.now) c.args.context.now.ports.now c.args.net.now c.args.context.now.locals.now c.args.first.now c.args.second.now c.requires.ready in
    search (rules, the_lemmas)

pub sequence-part-requires-2 : goal.sequence-part-requires-2
sequence-part-requires-2 g t c κs within =
    let ready : CanBe (ActionHasWidth (declarations c.args.context.now.design.now) c.args.second.now) c.part.new.net c.args.context.now.locals.now = sequence_second (declarations c.args.context.now.design.now) c.args.context.now.ports.now c.args.net.now c.part.new.net c.args.context.now.locals.now c.args.first.now c.args.second.now c.part.ensures.grows c.requires.ready in
    let ports : ArePortWires c.part.new.net (register_widths c.args.context.now.design.now) c.args.context.now.ports.now = ports_kept (input_widths c.args.context.now.design.now) c.args.net.now c.part.new.net (register_widths c.args.context.now.design.now) c.args.context.now.ports.now c.part.ensures.grows c.requires.ports in
    let running : IsRunning c.part.new.net (register_widths c.args.context.now.design.now) c.part.new.run = c.in_ok-_dropped.ensures.part.running in
    search (rules, the_lemmas)

pub sequence-returns-clause-grows : goal.sequence-returns-clause-grows
sequence-returns-clause-grows g t c = grows_on (input_widths c.args.context.now.design.now) c.args.net.now c.part.new.net c.part-2.new.net c.part.ensures.grows c.part-2.ensures.grows

pub sequence-returns-clause-part : goal.sequence-returns-clause-part
sequence-returns-clause-part g t c =
    IfOk-weaker c.part-2.result _ _ (λ wire made. sequence_made (declarations c.args.context.now.design.now) c.args.context.now.ports.now c.args.net.now c.part.new.net c.part-2.new.net c.args.run.now c.part.new.run c.part-2.new.run c.args.first.now c.args.second.now c.args.context.now.locals.now c.in_ok-_dropped._dropped wire c.part.ensures.grows c.part-2.ensures.grows c.in_ok-_dropped.ensures.part made) c.part-2.ensures.part

-- ---- a write

pub written-operand-requires : goal.written-operand-requires
written-operand-requires g t c κs within =
    let ready : CanBeOperand (declarations c.args.context.now.design.now) c.args.net.now c.args.a.now c.args.context.now.locals.now = write_first (declarations c.args.context.now.design.now) c.args.context.now.ports.now c.args.net.now c.args.context.now.locals.now c.args.port c.args.register c.args.a.now c.requires.ports c.requires.ready in
    search (rules, the_lemmas)

pub written-write-requires-clause-port : goal.written-write-requires-clause-port
written-write-requires-clause-port g t c = (write_applies (declarations c.args.context.now.design.now) c.args.context.now.ports.now c.args.net.now c.operand.new.net c.args.run.now c.operand.new.run c.args.context.now.locals.now c.args.port c.args.register c.args.a.now c.in_ok-value.value c.requires.ready c.in_ok-value.ensures.part).0

pub written-write-requires-clause-ports : goal.written-write-requires-clause-ports
written-write-requires-clause-ports g t c = ports_kept (input_widths c.args.context.now.design.now) c.args.net.now c.operand.new.net (register_widths c.args.context.now.design.now) c.args.context.now.ports.now c.operand.ensures.grows c.requires.ports

pub written-write-requires-clause-run : goal.written-write-requires-clause-run
written-write-requires-clause-run g t c = c.in_ok-value.ensures.part.running

pub written-write-requires-clause-value : goal.written-write-requires-clause-value
written-write-requires-clause-value g t c = (write_applies (declarations c.args.context.now.design.now) c.args.context.now.ports.now c.args.net.now c.operand.new.net c.args.run.now c.operand.new.run c.args.context.now.locals.now c.args.port c.args.register c.args.a.now c.in_ok-value.value c.requires.ready c.in_ok-value.ensures.part).1

pub written-returns-in_err-write-clause-grows : goal.written-returns-in_err-write-clause-grows
written-returns-in_err-write-clause-grows g t c = grows_on (input_widths c.args.context.now.design.now) c.args.net.now c.operand.new.net c.write.new.net c.operand.ensures.grows (c.write.ensures.grows (input_widths c.args.context.now.design.now))

pub written-returns-clause-grows : goal.written-returns-clause-grows
written-returns-clause-grows g t c = grows_on (input_widths c.args.context.now.design.now) c.args.net.now c.operand.new.net c.write.new.net c.operand.ensures.grows (c.write.ensures.grows (input_widths c.args.context.now.design.now))

pub written-returns-clause-part : goal.written-returns-clause-part
written-returns-clause-part g t c = write_made (declarations c.args.context.now.design.now) c.args.context.now.ports.now c.args.net.now c.operand.new.net c.write.new.net c.args.run.now c.operand.new.run c.write.new.run c.args.port c.args.register c.args.a.now c.args.context.now.locals.now c.in_ok-value.value (c.write.ensures.grows (input_widths c.args.context.now.design.now)) c.in_ok-value.ensures.part c.in_ok-write.ensures.running c.in_ok-write.ensures.means

-- ---- an operand

pub operand-part-requires : goal.operand-part-requires
operand-part-requires g t c κs within =
    let ready : CanBe (ActionHasWidth (declarations c.args.context.now.design.now) c.args.action.now) c.args.net.now c.args.context.now.locals.now = operand_part (declarations c.args.context.now.design.now) c.args.context.now.ports.now c.args.net.now c.args.action.now c.args.context.now.locals.now c.requires.ready in
    search (rules, the_lemmas)

pub operand-unreachable-requires : goal.operand-unreachable-requires
operand-unreachable-requires g t c =
    operand_has_wire (declarations c.args.context.now.design.now) c.args.context.now.ports.now c.args.net.now c.part.new.net c.args.run.now c.part.new.run c.args.action.now c.args.context.now.locals.now c.requires.ready
    (subst (λ (o : Option ℕ). IsPart (declarations c.args.context.now.design.now) c.args.context.now.ports.now c.args.net.now c.args.run.now c.args.action.now c.args.context.now.locals.now c.part.new.net c.part.new.run o) c.in-None.is c.in_ok-wire.ensures.part)

-- ---- both arms

pub conditional-operand-requires : goal.conditional-operand-requires
conditional-operand-requires g t c κs within =
    let ready : CanBeOperand (declarations c.args.context.now.design.now) c.args.net.now c.args.condition.now c.args.context.now.locals.now = if_first (declarations c.args.context.now.design.now) c.args.context.now.ports.now c.args.net.now c.args.context.now.locals.now c.args.condition.now c.args.first.now c.args.second.now c.requires.ready in
    search (rules, the_lemmas)

pub conditional-both-requires-clause-a : goal.conditional-both-requires-clause-a
conditional-both-requires-clause-a g t c = c.in_ok-x.ensures.part.running.fires

pub conditional-both-requires-clause-b : goal.conditional-both-requires-clause-b
conditional-both-requires-clause-b g t c = if_bit (declarations c.args.context.now.design.now) c.args.context.now.ports.now c.args.net.now c.operand.new.net c.args.run.now c.operand.new.run c.args.context.now.locals.now c.args.condition.now c.args.first.now c.args.second.now c.in_ok-x.x c.requires.ready c.in_ok-x.ensures.part

pub conditional-part-requires : goal.conditional-part-requires
conditional-part-requires g t c κs within =
    let ready : CanBe (ActionHasWidth (declarations c.args.context.now.design.now) c.args.first.now) c.both.new.net c.args.context.now.locals.now = (if_arms (declarations c.args.context.now.design.now) c.args.context.now.ports.now c.args.net.now c.both.new.net c.args.context.now.locals.now c.args.condition.now c.args.first.now c.args.second.now (grows_on (input_widths c.args.context.now.design.now) c.args.net.now c.operand.new.net c.both.new.net c.operand.ensures.grows (c.both.ensures.grows (input_widths c.args.context.now.design.now))) c.requires.ready).0 in
    let ports : ArePortWires c.both.new.net (register_widths c.args.context.now.design.now) c.args.context.now.ports.now = ports_kept (input_widths c.args.context.now.design.now) c.args.net.now c.both.new.net (register_widths c.args.context.now.design.now) c.args.context.now.ports.now (grows_on (input_widths c.args.context.now.design.now) c.args.net.now c.operand.new.net c.both.new.net c.operand.ensures.grows (c.both.ensures.grows (input_widths c.args.context.now.design.now))) c.requires.ports in
    let running : IsRunning c.both.new.net (register_widths c.args.context.now.design.now) (record { fires = c.in_ok-taken.taken; log = c.operand.new.run.log }) = record { fires = c.in_ok-taken.ensures.wire; log = log_kept (input_widths c.args.context.now.design.now) c.operand.new.net c.both.new.net (register_widths c.args.context.now.design.now) c.operand.new.run.log (c.both.ensures.grows (input_widths c.args.context.now.design.now)) c.in_ok-x.ensures.part.running.log } in
    search (rules, the_lemmas)

pub conditional-both_not-requires-clause-a : goal.conditional-both_not-requires-clause-a
conditional-both_not-requires-clause-a g t c = wire_kept (input_widths c.args.context.now.design.now) c.operand.new.net c.part.new.net c.operand.new.run.fires 1 (grows_on (input_widths c.args.context.now.design.now) c.operand.new.net c.both.new.net c.part.new.net (c.both.ensures.grows (input_widths c.args.context.now.design.now)) c.part.ensures.grows) c.in_ok-x.ensures.part.running.fires

pub conditional-both_not-requires-clause-b : goal.conditional-both_not-requires-clause-b
conditional-both_not-requires-clause-b g t c = wire_kept (input_widths c.args.context.now.design.now) c.operand.new.net c.part.new.net c.in_ok-x.x 1 (grows_on (input_widths c.args.context.now.design.now) c.operand.new.net c.both.new.net c.part.new.net (c.both.ensures.grows (input_widths c.args.context.now.design.now)) c.part.ensures.grows) (if_bit (declarations c.args.context.now.design.now) c.args.context.now.ports.now c.args.net.now c.operand.new.net c.args.run.now c.operand.new.run c.args.context.now.locals.now c.args.condition.now c.args.first.now c.args.second.now c.in_ok-x.x c.requires.ready c.in_ok-x.ensures.part)

pub conditional-part-requires-2 : goal.conditional-part-requires-2
conditional-part-requires-2 g t c κs within =
    let ready : CanBe (ActionHasWidth (declarations c.args.context.now.design.now) c.args.second.now) c.both_not.new.net c.args.context.now.locals.now = (if_arms (declarations c.args.context.now.design.now) c.args.context.now.ports.now c.args.net.now c.both_not.new.net c.args.context.now.locals.now c.args.condition.now c.args.first.now c.args.second.now (grows_on (input_widths c.args.context.now.design.now) c.args.net.now c.part.new.net c.both_not.new.net (grows_on (input_widths c.args.context.now.design.now) c.args.net.now c.both.new.net c.part.new.net (grows_on (input_widths c.args.context.now.design.now) c.args.net.now c.operand.new.net c.both.new.net c.operand.ensures.grows (c.both.ensures.grows (input_widths c.args.context.now.design.now))) c.part.ensures.grows) (c.both_not.ensures.grows (input_widths c.args.context.now.design.now))) c.requires.ready).1 in
    let ports : ArePortWires c.both_not.new.net (register_widths c.args.context.now.design.now) c.args.context.now.ports.now = ports_kept (input_widths c.args.context.now.design.now) c.args.net.now c.both_not.new.net (register_widths c.args.context.now.design.now) c.args.context.now.ports.now (grows_on (input_widths c.args.context.now.design.now) c.args.net.now c.part.new.net c.both_not.new.net (grows_on (input_widths c.args.context.now.design.now) c.args.net.now c.both.new.net c.part.new.net (grows_on (input_widths c.args.context.now.design.now) c.args.net.now c.operand.new.net c.both.new.net c.operand.ensures.grows (c.both.ensures.grows (input_widths c.args.context.now.design.now))) c.part.ensures.grows) (c.both_not.ensures.grows (input_widths c.args.context.now.design.now))) c.requires.ports in
    let running : IsRunning c.both_not.new.net (register_widths c.args.context.now.design.now) (record { fires = c.in_ok-other.other; log = c.part.new.run.log }) = record { fires = c.in_ok-other.ensures.wire; log = log_kept (input_widths c.args.context.now.design.now) c.part.new.net c.both_not.new.net (register_widths c.args.context.now.design.now) c.part.new.run.log (c.both_not.ensures.grows (input_widths c.args.context.now.design.now)) c.in_ok-a.ensures.part.running.log } in
    search (rules, the_lemmas)

pub conditional-either-requires-clause-a : goal.conditional-either-requires-clause-a
conditional-either-requires-clause-a g t c = wire_kept (input_widths c.args.context.now.design.now) c.part.new.net c.part-2.new.net c.part.new.run.fires 1 (grows_on (input_widths c.args.context.now.design.now) c.part.new.net c.both_not.new.net c.part-2.new.net (c.both_not.ensures.grows (input_widths c.args.context.now.design.now)) c.part-2.ensures.grows) c.in_ok-a.ensures.part.running.fires

pub conditional-either-requires-clause-b : goal.conditional-either-requires-clause-b
conditional-either-requires-clause-b g t c = c.in_ok-b.ensures.part.running.fires

pub conditional-chosen-requires-clause-condition : goal.conditional-chosen-requires-clause-condition
conditional-chosen-requires-clause-condition g t c = wire_kept (input_widths c.args.context.now.design.now) c.operand.new.net c.either.new.net c.in_ok-x.x 1 (grows_on (input_widths c.args.context.now.design.now) c.operand.new.net c.part-2.new.net c.either.new.net (grows_on (input_widths c.args.context.now.design.now) c.operand.new.net c.both_not.new.net c.part-2.new.net (grows_on (input_widths c.args.context.now.design.now) c.operand.new.net c.part.new.net c.both_not.new.net (grows_on (input_widths c.args.context.now.design.now) c.operand.new.net c.both.new.net c.part.new.net (c.both.ensures.grows (input_widths c.args.context.now.design.now)) c.part.ensures.grows) (c.both_not.ensures.grows (input_widths c.args.context.now.design.now))) c.part-2.ensures.grows) (c.either.ensures.grows (input_widths c.args.context.now.design.now))) (if_bit (declarations c.args.context.now.design.now) c.args.context.now.ports.now c.args.net.now c.operand.new.net c.args.run.now c.operand.new.run c.args.context.now.locals.now c.args.condition.now c.args.first.now c.args.second.now c.in_ok-x.x c.requires.ready c.in_ok-x.ensures.part)

pub conditional-chosen-requires-clause-arms : goal.conditional-chosen-requires-clause-arms
conditional-chosen-requires-clause-arms g t c = arms_fit (declarations c.args.context.now.design.now) c.args.context.now.ports.now c.args.net.now c.both.new.net c.part.new.net c.both_not.new.net c.part-2.new.net c.either.new.net c.args.condition.now c.args.first.now c.args.second.now c.args.context.now.locals.now (record { fires = c.in_ok-taken.taken; log = c.operand.new.run.log }) c.part.new.run (record { fires = c.in_ok-other.other; log = c.part.new.run.log }) c.part-2.new.run c.in_ok-a.a c.in_ok-b.b c.requires.ready (grows_on (input_widths c.args.context.now.design.now) c.args.net.now c.operand.new.net c.both.new.net c.operand.ensures.grows (c.both.ensures.grows (input_widths c.args.context.now.design.now))) (grows_on (input_widths c.args.context.now.design.now) c.args.net.now c.part.new.net c.both_not.new.net (grows_on (input_widths c.args.context.now.design.now) c.args.net.now c.both.new.net c.part.new.net (grows_on (input_widths c.args.context.now.design.now) c.args.net.now c.operand.new.net c.both.new.net c.operand.ensures.grows (c.both.ensures.grows (input_widths c.args.context.now.design.now))) c.part.ensures.grows) (c.both_not.ensures.grows (input_widths c.args.context.now.design.now))) (grows_on (input_widths c.args.context.now.design.now) c.part.new.net c.part-2.new.net c.either.new.net (grows_on (input_widths c.args.context.now.design.now) c.part.new.net c.both_not.new.net c.part-2.new.net (c.both_not.ensures.grows (input_widths c.args.context.now.design.now)) c.part-2.ensures.grows) (c.either.ensures.grows (input_widths c.args.context.now.design.now))) (c.either.ensures.grows (input_widths c.args.context.now.design.now)) c.in_ok-a.ensures.part c.in_ok-b.ensures.part

pub conditional-returns-in_err-taken-clause-grows : goal.conditional-returns-in_err-taken-clause-grows
conditional-returns-in_err-taken-clause-grows g t c = (grows_on (input_widths c.args.context.now.design.now) c.args.net.now c.operand.new.net c.both.new.net c.operand.ensures.grows (c.both.ensures.grows (input_widths c.args.context.now.design.now)))

pub conditional-returns-in_err-a-clause-grows : goal.conditional-returns-in_err-a-clause-grows
conditional-returns-in_err-a-clause-grows g t c = (grows_on (input_widths c.args.context.now.design.now) c.args.net.now c.both.new.net c.part.new.net (grows_on (input_widths c.args.context.now.design.now) c.args.net.now c.operand.new.net c.both.new.net c.operand.ensures.grows (c.both.ensures.grows (input_widths c.args.context.now.design.now))) c.part.ensures.grows)

pub conditional-returns-in_err-other-clause-grows : goal.conditional-returns-in_err-other-clause-grows
conditional-returns-in_err-other-clause-grows g t c = (grows_on (input_widths c.args.context.now.design.now) c.args.net.now c.part.new.net c.both_not.new.net (grows_on (input_widths c.args.context.now.design.now) c.args.net.now c.both.new.net c.part.new.net (grows_on (input_widths c.args.context.now.design.now) c.args.net.now c.operand.new.net c.both.new.net c.operand.ensures.grows (c.both.ensures.grows (input_widths c.args.context.now.design.now))) c.part.ensures.grows) (c.both_not.ensures.grows (input_widths c.args.context.now.design.now)))

pub conditional-returns-in_err-b-clause-grows : goal.conditional-returns-in_err-b-clause-grows
conditional-returns-in_err-b-clause-grows g t c = (grows_on (input_widths c.args.context.now.design.now) c.args.net.now c.both_not.new.net c.part-2.new.net (grows_on (input_widths c.args.context.now.design.now) c.args.net.now c.part.new.net c.both_not.new.net (grows_on (input_widths c.args.context.now.design.now) c.args.net.now c.both.new.net c.part.new.net (grows_on (input_widths c.args.context.now.design.now) c.args.net.now c.operand.new.net c.both.new.net c.operand.ensures.grows (c.both.ensures.grows (input_widths c.args.context.now.design.now))) c.part.ensures.grows) (c.both_not.ensures.grows (input_widths c.args.context.now.design.now))) c.part-2.ensures.grows)

pub conditional-returns-in_err-after-clause-grows : goal.conditional-returns-in_err-after-clause-grows
conditional-returns-in_err-after-clause-grows g t c = (grows_on (input_widths c.args.context.now.design.now) c.args.net.now c.part-2.new.net c.either.new.net (grows_on (input_widths c.args.context.now.design.now) c.args.net.now c.both_not.new.net c.part-2.new.net (grows_on (input_widths c.args.context.now.design.now) c.args.net.now c.part.new.net c.both_not.new.net (grows_on (input_widths c.args.context.now.design.now) c.args.net.now c.both.new.net c.part.new.net (grows_on (input_widths c.args.context.now.design.now) c.args.net.now c.operand.new.net c.both.new.net c.operand.ensures.grows (c.both.ensures.grows (input_widths c.args.context.now.design.now))) c.part.ensures.grows) (c.both_not.ensures.grows (input_widths c.args.context.now.design.now))) c.part-2.ensures.grows) (c.either.ensures.grows (input_widths c.args.context.now.design.now)))

pub conditional-returns-in_err-wire-clause-grows : goal.conditional-returns-in_err-wire-clause-grows
conditional-returns-in_err-wire-clause-grows g t c = (grows_on (input_widths c.args.context.now.design.now) c.args.net.now c.either.new.net c.chosen.new.net (grows_on (input_widths c.args.context.now.design.now) c.args.net.now c.part-2.new.net c.either.new.net (grows_on (input_widths c.args.context.now.design.now) c.args.net.now c.both_not.new.net c.part-2.new.net (grows_on (input_widths c.args.context.now.design.now) c.args.net.now c.part.new.net c.both_not.new.net (grows_on (input_widths c.args.context.now.design.now) c.args.net.now c.both.new.net c.part.new.net (grows_on (input_widths c.args.context.now.design.now) c.args.net.now c.operand.new.net c.both.new.net c.operand.ensures.grows (c.both.ensures.grows (input_widths c.args.context.now.design.now))) c.part.ensures.grows) (c.both_not.ensures.grows (input_widths c.args.context.now.design.now))) c.part-2.ensures.grows) (c.either.ensures.grows (input_widths c.args.context.now.design.now))) (c.chosen.ensures.grows (input_widths c.args.context.now.design.now)))

pub conditional-returns-clause-grows : goal.conditional-returns-clause-grows
conditional-returns-clause-grows g t c = (grows_on (input_widths c.args.context.now.design.now) c.args.net.now c.either.new.net c.chosen.new.net (grows_on (input_widths c.args.context.now.design.now) c.args.net.now c.part-2.new.net c.either.new.net (grows_on (input_widths c.args.context.now.design.now) c.args.net.now c.both_not.new.net c.part-2.new.net (grows_on (input_widths c.args.context.now.design.now) c.args.net.now c.part.new.net c.both_not.new.net (grows_on (input_widths c.args.context.now.design.now) c.args.net.now c.both.new.net c.part.new.net (grows_on (input_widths c.args.context.now.design.now) c.args.net.now c.operand.new.net c.both.new.net c.operand.ensures.grows (c.both.ensures.grows (input_widths c.args.context.now.design.now))) c.part.ensures.grows) (c.both_not.ensures.grows (input_widths c.args.context.now.design.now))) c.part-2.ensures.grows) (c.either.ensures.grows (input_widths c.args.context.now.design.now))) (c.chosen.ensures.grows (input_widths c.args.context.now.design.now)))

pub conditional-returns-clause-part : goal.conditional-returns-clause-part
conditional-returns-clause-part g t c =
    if_made (declarations c.args.context.now.design.now) c.args.context.now.ports.now c.args.net.now c.operand.new.net c.both.new.net c.part.new.net c.both_not.new.net c.part-2.new.net c.either.new.net c.chosen.new.net c.args.run.now c.operand.new.run c.part.new.run c.part-2.new.run c.args.context.now.locals.now c.in_ok-x.x c.in_ok-taken.taken c.in_ok-other.other c.in_ok-after.after c.in_ok-a.a c.in_ok-b.b c.in_ok-wire.wire c.args.condition.now c.args.first.now c.args.second.now
    c.operand.ensures.grows (c.both.ensures.grows (input_widths c.args.context.now.design.now)) c.part.ensures.grows (c.both_not.ensures.grows (input_widths c.args.context.now.design.now)) c.part-2.ensures.grows (c.either.ensures.grows (input_widths c.args.context.now.design.now)) (c.chosen.ensures.grows (input_widths c.args.context.now.design.now))
    c.in_ok-x.ensures.part c.in_ok-taken.ensures.up c.in_ok-a.ensures.part c.in_ok-other.ensures.up c.in_ok-b.ensures.part c.in_ok-after.ensures.up c.in_ok-after.ensures.wire c.in_ok-wire.ensures.wire c.in_ok-wire.ensures.value (if_bit (declarations c.args.context.now.design.now) c.args.context.now.ports.now c.args.net.now c.operand.new.net c.args.run.now c.operand.new.run c.args.context.now.locals.now c.args.condition.now c.args.first.now c.args.second.now c.in_ok-x.x c.requires.ready c.in_ok-x.ensures.part)

-- ---- an action by its form

pub part-read-requires-clause-register : goal.part-read-requires-clause-register
part-read-requires-clause-register g t c = read_ready (declarations c.args.context.now.design.now) c.args.context.now.ports.now c.args.net.now c.args.context.now.locals.now c.args.action.now c.in-Read.port c.in-Read.register c.in-Read.is c.requires.ready

pub part-returns-in_err-known-in-Const-clause-grows : goal.part-returns-in_err-known-in-Const-clause-grows
part-returns-in_err-known-in-Const-clause-grows g t c = c.in_err-known-in-Const.ensures.grows (input_widths c.args.context.now.design.now)

pub part-returns-in_err-seen-in-Read-clause-grows : goal.part-returns-in_err-seen-in-Read-clause-grows
part-returns-in_err-seen-in-Read-clause-grows g t c = c.in_err-seen-in-Read.ensures.grows (input_widths c.args.context.now.design.now)

pub part-returns-in_err-never-in-Abort-clause-grows : goal.part-returns-in_err-never-in-Abort-clause-grows
part-returns-in_err-never-in-Abort-clause-grows g t c = c.in_err-never-in-Abort.ensures.grows (input_widths c.args.context.now.design.now)

pub part-returns-in_ok-known-in-Const-clause-grows : goal.part-returns-in_ok-known-in-Const-clause-grows
part-returns-in_ok-known-in-Const-clause-grows g t c = c.in_ok-known-in-Const.ensures.grows (input_widths c.args.context.now.design.now)

pub part-returns-in_ok-seen-in-Read-clause-grows : goal.part-returns-in_ok-seen-in-Read-clause-grows
part-returns-in_ok-seen-in-Read-clause-grows g t c = c.in_ok-seen-in-Read.ensures.grows (input_widths c.args.context.now.design.now)

pub part-returns-in_ok-never-in-Abort-clause-grows : goal.part-returns-in_ok-never-in-Abort-clause-grows
part-returns-in_ok-never-in-Abort-clause-grows g t c = c.in_ok-never-in-Abort.ensures.grows (input_widths c.args.context.now.design.now)

pub part-returns-in_ok-known-in-Const-clause-part : goal.part-returns-in_ok-known-in-Const-clause-part
part-returns-in_ok-known-in-Const-clause-part g t c =
    of_form (declarations c.args.context.now.design.now) c.args.context.now.ports.now _ _ _ _ c.args.action.now (action.Const c.in-Const.value) c.args.context.now.locals.now _ c.in-Const.is
    (const_made (declarations c.args.context.now.design.now) c.args.context.now.ports.now c.args.net.now _ c.args.run.now c.args.context.now.locals.now c.in-Const.value c.in_ok-known-in-Const.known (c.in_ok-known-in-Const.ensures.grows (input_widths c.args.context.now.design.now)) c.requires.run c.in_ok-known-in-Const.ensures.wire c.in_ok-known-in-Const.ensures.value)

pub part-returns-in-Local-clause-part : goal.part-returns-in-Local-clause-part
part-returns-in-Local-clause-part g t c =
    of_form (declarations c.args.context.now.design.now) c.args.context.now.ports.now _ _ _ _ c.args.action.now (action.Local c.in-Local.name) c.args.context.now.locals.now _ c.in-Local.is
    (local_made (declarations c.args.context.now.design.now) c.args.context.now.ports.now c.args.net.now c.args.run.now c.args.context.now.locals.now c.in-Local.name c.get.result c.requires.run c.get.ensures)

pub part-returns-in_ok-given-in-Input-clause-part : goal.part-returns-in_ok-given-in-Input-clause-part
part-returns-in_ok-given-in-Input-clause-part g t c =
    of_form (declarations c.args.context.now.design.now) c.args.context.now.ports.now _ _ _ _ c.args.action.now (action.Input c.in-Input.input) c.args.context.now.locals.now _ c.in-Input.is
    (input_made (declarations c.args.context.now.design.now) c.args.context.now.ports.now c.args.net.now _ c.args.run.now c.args.context.now.locals.now c.in-Input.input c.in_ok-given-in-Input.given c.in_ok-given-in-Input.ensures.grows c.requires.run c.in_ok-given-in-Input.ensures.wire c.in_ok-given-in-Input.ensures.value)

pub part-returns-in_ok-seen-in-Read-clause-part : goal.part-returns-in_ok-seen-in-Read-clause-part
part-returns-in_ok-seen-in-Read-clause-part g t c =
    of_form (declarations c.args.context.now.design.now) c.args.context.now.ports.now _ _ _ _ c.args.action.now (action.Read c.in-Read.port c.in-Read.register) c.args.context.now.locals.now _ c.in-Read.is
    (read_made (declarations c.args.context.now.design.now) c.args.context.now.ports.now c.args.net.now _ c.args.run.now _ c.in-Read.port c.in-Read.register c.args.context.now.locals.now c.in_ok-seen-in-Read.seen c.in_ok-seen-in-Read.ensures.running c.in_ok-seen-in-Read.ensures.wire c.in_ok-seen-in-Read.ensures.means)

pub part-returns-in_ok-never-in-Abort-clause-part : goal.part-returns-in_ok-never-in-Abort-clause-part
part-returns-in_ok-never-in-Abort-clause-part g t c =
    of_form (declarations c.args.context.now.design.now) c.args.context.now.ports.now _ _ _ _ c.args.action.now action.Abort c.args.context.now.locals.now _ c.in-Abort.is
    (abort_made (declarations c.args.context.now.design.now) c.args.context.now.ports.now c.args.net.now _ c.args.run.now c.args.context.now.locals.now c.in_ok-never-in-Abort.never (c.in_ok-never-in-Abort.ensures.grows (input_widths c.args.context.now.design.now)) c.requires.run
    (rw c.zero.ensures at c.in_ok-never-in-Abort.ensures.wire)
    (λ s values are. ap (λ (v : BitVector). nat_eq v.number 1) (c.in_ok-never-in-Abort.ensures.value s values are ∙ c.zero.ensures)))

pub part-returns-in-One-clause-part : goal.part-returns-in-One-clause-part
part-returns-in-One-clause-part g t c =
    IfOk-weaker c.unary.result _ _ (λ wire made. one_form (declarations c.args.context.now.design.now) c.args.context.now.ports.now _ _ _ _ c.args.action.now _ _ c.in-One.operator _ c.args.context.now.locals.now wire c.in-One.is c.deref.ensures made) c.unary.ensures.part

pub part-returns-in-Two-clause-part : goal.part-returns-in-Two-clause-part
part-returns-in-Two-clause-part g t c =
    IfOk-weaker c.binary.result _ _ (λ wire made. two_form (declarations c.args.context.now.design.now) c.args.context.now.ports.now _ _ _ _ c.args.action.now _ _ _ _ c.in-Two.operator _ _ c.args.context.now.locals.now wire c.in-Two.is c.deref-in-Two.ensures c.deref-in-Two-2.ensures made) c.binary.ensures.part

pub part-returns-in-Slice-clause-part : goal.part-returns-in-Slice-clause-part
part-returns-in-Slice-clause-part g t c =
    IfOk-weaker c.unary-in-Slice.result _ _ (λ wire made. slice_form (declarations c.args.context.now.design.now) c.args.context.now.ports.now _ _ _ _ c.args.action.now _ _ c.in-Slice.upper c.in-Slice.lower _ c.args.context.now.locals.now wire c.in-Slice.is c.deref-in-Slice.ensures made) c.unary-in-Slice.ensures.part

pub part-returns-in-Zext-clause-part : goal.part-returns-in-Zext-clause-part
part-returns-in-Zext-clause-part g t c =
    IfOk-weaker c.unary-in-Zext.result _ _ (λ wire made. zext_form (declarations c.args.context.now.design.now) c.args.context.now.ports.now _ _ _ _ c.args.action.now _ _ c.in-Zext.width _ c.args.context.now.locals.now wire c.in-Zext.is c.deref-in-Zext.ensures made) c.unary-in-Zext.ensures.part

pub part-returns-in-Sext-clause-part : goal.part-returns-in-Sext-clause-part
part-returns-in-Sext-clause-part g t c =
    IfOk-weaker c.unary-in-Sext.result _ _ (λ wire made. sext_form (declarations c.args.context.now.design.now) c.args.context.now.ports.now _ _ _ _ c.args.action.now _ _ c.in-Sext.width _ c.args.context.now.locals.now wire c.in-Sext.is c.deref-in-Sext.ensures made) c.unary-in-Sext.ensures.part

pub part-returns-in-Table-clause-part : goal.part-returns-in-Table-clause-part
part-returns-in-Table-clause-part g t c =
    IfOk-weaker c.unary-in-Table.result _ _ (λ wire made. table_form (declarations c.args.context.now.design.now) c.args.context.now.ports.now _ _ _ _ c.args.action.now _ _ c.in-Table.table _ c.args.context.now.locals.now wire c.in-Table.is c.deref-in-Table.ensures made) c.unary-in-Table.ensures.part

pub part-returns-in-Host-clause-part : goal.part-returns-in-Host-clause-part
part-returns-in-Host-clause-part g t c =
    IfOk-weaker c.unary-in-Host.result _ _ (λ wire made. host_form (declarations c.args.context.now.design.now) c.args.context.now.ports.now _ _ _ _ c.args.action.now _ _ c.in-Host.host _ c.args.context.now.locals.now wire c.in-Host.is c.deref-in-Host.ensures made) c.unary-in-Host.ensures.part

pub part-returns-in-Let-clause-part : goal.part-returns-in-Let-clause-part
part-returns-in-Let-clause-part g t c =
    IfOk-weaker c.bound.result _ _ (λ wire made. let_form (declarations c.args.context.now.design.now) c.args.context.now.ports.now _ _ _ _ c.args.action.now _ _ _ _ _ _ c.args.context.now.locals.now wire c.in-Let.is c.deref-in-Let.ensures c.deref-in-Let-2.ensures made) c.bound.ensures.part

pub part-returns-in-If-clause-part : goal.part-returns-in-If-clause-part
part-returns-in-If-clause-part g t c =
    IfOk-weaker c.conditional.result _ _ (λ wire made. if_form (declarations c.args.context.now.design.now) c.args.context.now.ports.now _ _ _ _ c.args.action.now _ _ _ _ _ _ _ _ _ c.args.context.now.locals.now wire c.in-If.is c.deref-in-If.ensures c.deref-in-If-2.ensures c.deref-in-If-3.ensures made) c.conditional.ensures.part

pub part-returns-in-Seq-clause-part : goal.part-returns-in-Seq-clause-part
part-returns-in-Seq-clause-part g t c =
    IfOk-weaker c.sequence.result _ _ (λ wire made. sequence_form (declarations c.args.context.now.design.now) c.args.context.now.ports.now _ _ _ _ c.args.action.now _ _ _ _ _ _ c.args.context.now.locals.now wire c.in-Seq.is c.deref-in-Seq.ensures c.deref-in-Seq-2.ensures made) c.sequence.ensures.part

pub part-returns-in-Write-clause-part : goal.part-returns-in-Write-clause-part
part-returns-in-Write-clause-part g t c =
    IfOk-weaker c.written.result _ _ (λ wire made. write_form (declarations c.args.context.now.design.now) c.args.context.now.ports.now _ _ _ _ c.args.action.now _ _ c.in-Write.port c.in-Write.register _ c.args.context.now.locals.now wire c.in-Write.is c.deref-in-Write.ensures made) c.written.ensures.part
