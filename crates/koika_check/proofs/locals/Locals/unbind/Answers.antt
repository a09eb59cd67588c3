use Rattle.std.proofs.Common.{ap, arith, [], ◌∙◌, drop, map, sym}
use Rattle.koika_check.specs.inner.Locals.{inside_of, local_of}
use Rattle.koika_check.proofs.Bindings.{inside-push, unbound-kept, unbound-named}
use Rattle.koika_check.proofs.locals.Locals.unbind.Goals as goal

pub set-requires : goal.set-requires
set-requires c = omega (arith, unbound-named c.args.self.now c.requires.kept c.pop.new.self c.in-Some.local c.in-Some.ensures.items, c.requires.kept.numbers)

pub returns-in-Some-clause-kept : goal.returns-in-Some-clause-kept
returns-in-Some-clause-kept c = rw c.set.ensures (unbound-kept c.args.self.now c.requires.kept c.pop.new.self c.in-Some.local c.in-Some.ensures.items)

pub returns-in-Some-clause-left : goal.returns-in-Some-clause-left
returns-in-Some-clause-left c arrays =
    sym (ap (λ ins. drop 1 (map (local_of arrays c.args.self.now.names) ins)) (ap (inside_of []) c.in-Some.ensures.items ∙ inside-push [] c.pop.new.self c.in-Some.local))
