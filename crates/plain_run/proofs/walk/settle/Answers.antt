use Rattle.std.proofs.Common.{◌≡◌, List, Bool, true, length, refl, sym, ap, ◌∙◌, subst}
use Rattle.std.specs.Prelude.{slice_set}
use Rattle.typed_core.specs.Widths.{register_widths}
use Rattle.one_rule.specs.PortRun.{PortState}
use Rattle.one_rule.specs.Walk.{Walk}
use Rattle.plain_run.specs.inner.Walking.{Stands}
use Rattle.plain_run.specs.declared.walk.Walking.{Walking}
use Rattle.plain_run.proofs.Walking.{fires, flags_more}
use Rattle.plain_run.proofs.walk.settle.Goals as goal

pub returns-in-Fired : goal.returns-in-Fired
returns-in-Fired c design state p stands ends log follow =
    let node = c.args.node.now in
    let walking : Walking = record { sched = c.merge.new.self; fired = c.set.new.self; at = node.yes } in
    subst (λ (w : Walk PortState). Stands design walking w.state × (node.yes ≡ w.at)) (sym (fires node state p.events p.ending (sym c.in-Fired.is ∙ ends))) (
      record {
        log = c.merge.ensures.stands (register_widths design) state.log p.events stands.log log follow;
        flags = c.set.ensures ∙ ap (λ (fired : List Bool). slice_set fired node.rule true) stands.flags ∙ flags_more (length design.rules) state.fired node.rule;
      },
      refl,
    )
