use Rattle.std.proofs.Common.{◌≡◌, ℕ, ◌-◌, ap, arith, drop, length, sym, take, ◌∙◌}
use Rattle.std.proofs.lemmas.List.{drop-drop, length-map, take-take, take_all}
use Rattle.koika_check.specs.inner.Locals.{locals_of, shapes_of}
use Rattle.koika_check.specs.declared.locals.Bound.{Bound}
use Rattle.koika_check.proofs.locals.Locals.leave.Goals as goal

pub loop-self-preserved : goal.loop-self-preserved
loop-self-preserved c = (
  c.unbind.ensures.kept,
  omega arith,
  omega arith,
  λ arrays.
      c.unbind.ensures.left arrays ∙ ap (drop 1) (c.loop-self.invariant.3 arrays)
      ∙ drop-drop 1 (length c.args.self.now.bound - length c.loop-self.self.bound) (locals_of arrays c.args.self.now)
      ∙ ap (λ n. drop n (locals_of arrays c.args.self.now)) (omega arith),
  c.unbind.ensures.shapes ∙ ap (take (length c.unbind.new.self.bound)) c.loop-self.invariant.4
      ∙ take-take (length c.unbind.new.self.bound) (length c.loop-self.self.bound) (shapes_of c.args.self.now) (omega arith),
)

same : (n : ℕ) → 0 ≡ n - n
same n = omega arith

pub loop-self-init : goal.loop-self-init
loop-self-init c = (
  c.requires.kept,
  c.requires.bound,
  omega arith,
  λ arrays. ap (λ n. drop n (locals_of arrays c.args.self.now)) (same (length c.args.self.now.bound)),
  sym (take_all (length c.args.self.now.bound) (shapes_of c.args.self.now) (omega (arith, length-map c.args.self.now.bound (λ (b : Bound). b.shape)))),
)

pub returns-clause-shapes : goal.returns-clause-shapes
returns-clause-shapes c = c.loop-self.invariant.4 ∙ ap (λ n. take n (shapes_of c.args.self.now)) (omega arith)
