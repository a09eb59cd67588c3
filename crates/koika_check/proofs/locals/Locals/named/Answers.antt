use Rattle.std.proofs.Common.{ap, arith, sym, ◌∙◌, ◌-◌, length}
use Rattle.std.proofs.lemmas.List.{get_or-map, length-map}
use Rattle.std.specs.Option.{option_map}
use Rattle.koika_check.specs.declared.locals.Bound.{Bound}
use Rattle.koika_check.proofs.Bindings.{named-local, named-none, named-some, named-within}
use Rattle.koika_check.proofs.locals.Locals.named.Goals as goal

pub returns-in_err-number-clause-local : goal.returns-in_err-number-clause-local
returns-in_err-number-clause-local c arrays = rw c.from_residual.ensures (named-none arrays c.args.self.now c.requires c.args.name.now (sym c.in_err-number.ensures.number))

pub returns-in_err-place-clause-local : goal.returns-in_err-place-clause-local
returns-in_err-place-clause-local c arrays =
    rw c.from_residual-in_err-place.ensures
    (named-some arrays c.args.self.now c.requires c.find.ensures.numbered c.args.name.now c.in_ok-number.number c.index.result.now c.index.result.now (sym c.in_ok-number.ensures.number) c.index.ensures
    ∙ ap (option_map (λ p. length c.args.self.now.bound - 1 - p)) c.in_err-place.was)

pub overflow_sub-result-2 : goal.overflow_sub-result-2
overflow_sub-result-2 c =
    omega (arith, named-within c.args.self.now c.requires c.args.name.now c.in_ok-number.number c.in_ok-place.place c.index.result.now (sym c.in_ok-number.ensures.number) (sym c.in_ok-place.was ∙ c.index.ensures))

pub index-requires-2 : goal.index-requires-2
index-requires-2 c =
    named-within c.args.self.now c.requires c.args.name.now c.in_ok-number.number c.in_ok-place.place c.index.result.now (sym c.in_ok-number.ensures.number) (sym c.in_ok-place.was ∙ c.index.ensures)

pub returns-clause-local : goal.returns-clause-local
returns-clause-local c arrays =
    rw c.len.ensures (
      named-some arrays c.args.self.now c.requires c.find.ensures.numbered c.args.name.now c.in_ok-number.number c.index.result.now c.index.result.now (sym c.in_ok-number.ensures.number) c.index.ensures
          ∙ ap (option_map (λ p. length c.args.self.now.bound - 1 - p)) c.in_ok-place.was,
      named-local arrays c.args.self.now c.requires c.args.name.now c.in_ok-number.number c.in_ok-place.place c.index.result.now c.index-2.result.now (sym c.in_ok-number.ensures.number) (sym c.in_ok-place.was ∙ c.index.ensures) c.index-2.ensures,
    )

pub returns-clause-shape : goal.returns-clause-shape
returns-clause-shape c =
    let within = named-within c.args.self.now c.requires c.args.name.now c.in_ok-number.number c.in_ok-place.place c.index.result.now (sym c.in_ok-number.ensures.number) (sym c.in_ok-place.was ∙ c.index.ensures) in (
      c.in_ok-place.place,
      omega (arith, within, length-map c.args.self.now.bound (λ (b : Bound). b.shape)),
      get_or-map (λ (b : Bound). b.shape) c.args.self.now.bound c.in_ok-place.place c.index-2.result.now c.index-2.result.now.shape within ∙ ap (λ (b : Bound). b.shape) (sym c.index-2.ensures),
    )
