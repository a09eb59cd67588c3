use Rattle.lab_core.proofs.Tops.{covers_push}
use Rattle.lab_core.proofs.tried.Tried.push.Goals as goal

pub invariant_of-self : goal.invariant_of-self
invariant_of-self c =
    covers_push c.self.inside.tops.items c.raise_for.new.tops.items c.self.inside.list c.push.new.self c.args.trial c.push.result
    c.self.invariant c.raise_for.ensures.kept c.raise_for.ensures.covers c.push.ensures.ok c.push.ensures.err
