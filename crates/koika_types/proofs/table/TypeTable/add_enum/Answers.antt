use Rattle.koika_types.proofs.Growth.{after_enum}
use Rattle.koika_types.proofs.table.TypeTable.add_enum.Goals as goal

pub invariant_of-self : goal.invariant_of-self
invariant_of-self c = after_enum c.push.result c.self.inside.declared _ c.args.decl c.push.ensures.ok c.push.ensures.err c.self.invariant c.requires
