use Rattle.std.proofs.Common.{sym, ap, ◌∙◌}
use Rattle.attempt_log.specs.Verdict.{clash}
use Rattle.lab_core.specs.inner.Tops.{fired_in, may_clash}
use Rattle.lab_core.proofs.Tops.{no_clash}
use Rattle.lab_core.proofs.tried.Tried.clash.Goals as goal

pub returns-else-may_clash : goal.returns-else-may_clash
returns-else-may_clash c =
    let access = c.args.access.now in
    let none = no_clash c.self.inside.tops.items access (fired_in c.self.inside.list) c.self.invariant (ap (λ t. may_clash t access) (sym c.deref.ensures.value) ∙ sym c.may_clash.ensures ∙ c.if-may_clash.false) in
    sym (ap (λ list. clash access (fired_in list)) (sym c.self.view_is) ∙ none)
