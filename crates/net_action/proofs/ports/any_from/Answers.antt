use Rattle.std.proofs.Common.{◌≡◌, ℕ, ◌+◌, ◌≤◌, ◌<◌, ◌⊎◌, inl, inr, false, [], ap, sym, subst, ◌∙◌, arith}
use Rattle.std.specs.Prelude.{◌||◌}
use Rattle.std.proofs.lemmas.Bool.{cases_lt, or_from, or_parts}
use Rattle.net_action.specs.Wires.{HasWire, is_up, wire_at}
use Rattle.net_action.proofs.Growth.{grows_on, values_before, wire_kept}
use Rattle.net_action.proofs.ports.any_from.Goals as goal

last : (port n : ℕ) (P : ℕ → Type 0) → ((at : ℕ) → port ≤ at → at < n → P at) → P n → (at : ℕ) → port ≤ at → at < n + 1 → P at
last port n P below here at above within = chosen (cases_lt at n)
  where
    chosen : (at < n) ⊎ (n ≤ at) → P at
    chosen (inl lt) = below at above lt
    chosen (inr ge) = let e : n ≡ at = omega arith in subst P e here

pub either-requires-clause-b : goal.either-requires-clause-b
either-requires-clause-b c =
    subst (λ (w : ℕ). HasWire c.loop-at.net w 1) (sym c.wire_at.ensures) (wire_kept [] c.args.net.now c.loop-at.net (wire_at c.args.wires.now c.loop-at.at c.args.register) 1 (c.loop-at.invariant.grows []) (c.requires.wires c.loop-at.at (omega arith)))

pub returns-in_err-any-2-clause-grows : goal.returns-in_err-any-2-clause-grows
returns-in_err-any-2-clause-grows c inputs = grows_on inputs c.args.net.now c.loop-at.net c.either.new.net (c.loop-at.invariant.grows inputs) (c.either.ensures.grows inputs)

pub loop-at-preserved : goal.loop-at-preserved
loop-at-preserved c = record {
  grows = λ inputs. grows_on inputs c.args.net.now c.loop-at.net c.either.new.net (c.loop-at.invariant.grows inputs) (c.either.ensures.grows inputs);
  wire = c.in_ok-any-2.ensures.wire;
  down = λ s values are.
      let before = c.loop-at.invariant.down s values (values_before s [] c.loop-at.net c.either.new.net values (c.either.ensures.grows []) are) in
      let up : is_up values c.in_ok-any-2.any ≡ (is_up values c.loop-at.any || is_up values (wire_at c.args.wires.now c.loop-at.at c.args.register)) =
      c.in_ok-any-2.ensures.up s values are ∙ ap (λ (w : ℕ). is_up values c.loop-at.any || is_up values w) c.wire_at.ensures in (
        λ h at above below.
            let parts = or_parts (is_up values c.loop-at.any) (is_up values (wire_at c.args.wires.now c.loop-at.at c.args.register)) (sym up ∙ h) in
            last c.args.port c.loop-at.at (λ (k : ℕ). is_up values (wire_at c.args.wires.now k c.args.register) ≡ false) (before.0 parts.0) parts.1 at above below,
        λ h. up ∙ or_from _ _ (before.1 (λ at above below. h at above (omega arith))) (h c.loop-at.at (omega arith) (omega arith)),
      );
}
