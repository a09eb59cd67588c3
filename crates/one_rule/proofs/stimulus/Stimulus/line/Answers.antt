use Rattle.std.proofs.Common.{◌≡◌, ◌-◌, [], get_or, inl, inr, sym, subst, arith}
use Rattle.std.proofs.lemmas.List.Elements.{All-get_or}
use Rattle.one_rule.specs.KeptLines.{IsKeptLine}
use Rattle.one_rule.specs.Stimulus.{InputVectors, inputs_by, inputs_of}
use Rattle.one_rule.proofs.Cycles.{inputs_of_line, inputs_of_no_line}
use Rattle.one_rule.proofs.stimulus.Stimulus.line.Goals as goal
use Rattle.one_rule.proofs.stimulus.Stimulus.line.Goals.{then-cycle-eq0-via-then-cycle-eq0, then-cycle-eq0-via-else-cycle-eq0+then-cycle-len}

pub returns-then-cycle-eq0-clause-inputs : goal.returns-then-cycle-eq0-clause-inputs
returns-then-cycle-eq0-clause-inputs c =
    let none = inputs_of_no_line c.self.inside.widths.items c.self.inside.lines.items c.args.cycle in
    subst (λ (s : InputVectors). inputs_by s.widths [] ≡ inputs_of s c.args.cycle) c.self.view_is (sym (none (elim c.then-cycle-eq0.branch [ then-cycle-eq0-via-then-cycle-eq0 w ↦ inl (omega arith) | then-cycle-eq0-via-else-cycle-eq0+then-cycle-len w ↦ inr (omega arith) ])))

pub returns-clause-inputs : goal.returns-clause-inputs
returns-clause-inputs c =
    let has = inputs_of_line c.self.inside.widths.items c.self.inside.lines.items c.args.cycle c.index.result.now c.if-cycle-eq0.false (omega arith) c.index.ensures in
    rw c.as_slice.ensures (subst (λ (s : InputVectors). inputs_by s.widths c.index.result.now ≡ inputs_of s c.args.cycle) c.self.view_is (sym has))

pub returns-clause-kept : goal.returns-clause-kept
returns-clause-kept c =
    let kept = All-get_or (IsKeptLine c.self.inside.widths.items) c.self.inside.lines.items (c.args.cycle - 1) c.index.result.now (omega arith) c.self.invariant.each_line in
    rw (c.as_slice.ensures, c.index.ensures) (subst (λ (s : InputVectors). IsKeptLine s.widths (get_or c.self.inside.lines.items (c.args.cycle - 1) c.index.result.now)) c.self.view_is kept)
