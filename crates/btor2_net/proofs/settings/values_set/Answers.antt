use Rattle.std.proofs.Common.{ℕ, [], ◌∷◌, Option, ap, ◌∙◌}
use Rattle.std.specs.Option.{option_or}
use Rattle.btor2_net.specs.inner.Wires.{set_by}
use Rattle.btor2_net.proofs.FirstSettings.{set-next}
use Rattle.btor2_net.proofs.settings.values_set.Goals as goal

pub loop-line-init : goal.loop-line-init
loop-line-init c = λ state. ap (λ (f : ℕ → Option ℕ). f state) c.in_ok-values.ensures

pub loop-line-preserved : goal.loop-line-preserved
loop-line-preserved c = λ state.
    c.in_ok-set_first.ensures state ∙ ap (λ (o : Option ℕ). option_or o (set_by c.args.form state (c.line-item.result ∷ []))) (c.loop-line.invariant state)
    ∙ set-next c.args.form state c.args.lines.now c.loop-line.line-index c.line-item.result c.loop-line-test.true c.line-item.is
