use Rattle.std.proofs.Common.{◌≡◌, ◌+◌, ◌-◌, ◌/◌, ◌<◌, length, refl, sym, ap, ◌∙◌, arith}
use Rattle.std.specs.Prelude.{slice_get}
use Rattle.std.proofs.lemmas.Option.{slice_get-get_or}
use Rattle.aig_blast.specs.Graphs.{Gates, IsLit}
use Rattle.aig_blast.proofs.PairRules.{known-gate, known-source}
use Rattle.aig_blast.proofs.graph.Graph.known.Goals as goal

pub returns-then-variable-self-clause-known : goal.returns-then-variable-self-clause-known
returns-then-variable-self-clause-known c i = known-source i c.args.self.now c.args.lit _ c.requires refl

pub returns-clause-known : goal.returns-clause-known
returns-clause-known c i =
    let g : Gates = record { sources = c.self.inside.sources; gates = c.self.inside.gates.keys } in
    let is_lit : IsLit g c.args.lit = rw (← c.self.view_is) at c.requires in
    let k = c.args.lit / 2 - c.self.inside.sources - 1 in
    let gates = c.as_slice.result.now in
    let count : length gates ≡ length c.self.inside.gates.keys = ap length c.as_slice.ensures.keys in
    let within : k < length gates = omega arith in
    let place : c.args.lit / 2 ≡ c.self.inside.sources + k + 1 = omega arith in
    let at = ap (λ xs. slice_get xs k) (sym c.as_slice.ensures.keys) ∙ slice_get-get_or gates k (record { left = 0; right = 0 }) within in
    rw (← c.self.view_is) (known-gate i g c.args.lit k _ c.self.invariant is_lit place at)
