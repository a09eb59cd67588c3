use Rattle.std.proofs.Common.{◌≡◌, ℕ, ◌<◌, inl, inr, IsTrue, Some, sym, subst, ap, ◌∙◌, arith}
use Rattle.std.specs.Prelude.{slice_get}
use Rattle.std.proofs.lemmas.Bool.{cases_lt}
use Rattle.std.proofs.lemmas.Option.{get_or_from_slice_get, slice_get-get_or}
use Rattle.std.proofs.lemmas.List.{get_or-map, length-map}
use Rattle.host_fn.specs.Stored.{spec_of}
use Rattle.one_rule.specs.Hosts.{host_specs}
use Rattle.one_rule.proofs.externs.host_of.Goals as goal

pub loop-function-preserved : goal.loop-function-preserved
loop-function-preserved g c k within is =
    let i = c.loop-function.function-index in
    let offered = c.args.offered.now in
    let f = c.function-item.result in
    elim (cases_lt k i) [
      | inl before ↦ c.loop-function.invariant k before is
      | inr there ↦
          let here : k ≡ i = omega (arith, within, there) in
          let found = subst (λ (n : ℕ). slice_get (host_specs offered) n ≡ Some c.args.spec.now) here is in
          let same = ap spec_of c.function-item.is ∙ sym (get_or-map spec_of offered i f (spec_of f) (omega arith)) ∙ get_or_from_slice_get (host_specs offered) i c.args.spec.now (spec_of f) found in
          let no = subst IsTrue c.if-meets.false (c.meets.ensures.1 same) in
          absurd cc
    ]

pub unreachable-requires : goal.unreachable-requires
unreachable-requires g c =
    let (k, inside, is) = c.requires in
    let specs = host_specs c.args.offered.now in
    let passed : k < c.loop-function.function-index = omega (arith, inside, length-map c.args.offered.now spec_of, c.loop-function-test.false) in
    c.loop-function.invariant k passed (slice_get-get_or specs k c.args.spec.now inside ∙ ap Some is)
