use Rattle.std.proofs.Common.{◌≡◌, min, List, sym, subst, ◌∙◌, ap₂}
use Rattle.koika_types.specs.Types.{AreTypes, total_width}
use Rattle.koika_types.specs.declared.declarations.Field.{Field}
use Rattle.koika_types.proofs.Growth.{after_struct}
use Rattle.koika_types.proofs.table.TypeTable.add_struct.Goals as goal

pub invariant_of-self : goal.invariant_of-self
invariant_of-self c =
    let d = c.self.inside.declared in
    let counted : c.total_width-width.result ≡ min (total_width d c.args.fields) 129 =
    c.total_width-width.ensures ∙ ap₂ (λ e (fields : List Field). min (total_width e fields) 129) (sym c.self.view_is) c.as_slice.ensures in
    let valid : AreTypes d c.args.fields = subst (λ e. AreTypes e c.args.fields) (sym c.self.view_is) c.requires in
    after_struct c.push.result d _ c.args.name c.args.fields _ counted c.push.ensures.ok c.push.ensures.err c.self.invariant valid
