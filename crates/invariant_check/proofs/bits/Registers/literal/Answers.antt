use Rattle.std.proofs.Common.{◌∙◌}
use Rattle.std.proofs.lemmas.List.{nil_from_length}
use Rattle.invariant_check.specs.Bits.{register_bits}
use Rattle.invariant_check.proofs.Reading.{literal-first, literal-none, literal-other}
use Rattle.invariant_check.proofs.bits.Registers.literal.Goals as goal

pub returns-in_default : goal.returns-in_default
returns-in_default c = c.literal_by.ensures
    ∙ literal-none (register_bits c.args.self.now.latches.now) c.args.word.now
    (nil_from_length c.args.word.now c.in_default.ensures.cases)

pub returns-then-first-eq126 : goal.returns-then-first-eq126
returns-then-first-eq126 c =
    c.literal_by-then-first-eq126.ensures
    ∙ literal-first (register_bits c.args.self.now.latches.now) c.args.word.now c.in-Some.name.now c.in-Some.first.now
    c.in-Some.ensures.cases.0 c.if-first-eq126.true

pub returns : goal.returns
returns c =
    c.literal_by-2.ensures
    ∙ literal-other (register_bits c.args.self.now.latches.now) c.args.word.now c.in-Some.name.now c.in-Some.first.now
    c.in-Some.ensures.cases.0 c.if-first-eq126.false
