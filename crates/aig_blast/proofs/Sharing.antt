-- Equal gates, and how a graph grows by one that is new.
use Rattle.std.proofs.Common.{◌≡◌, ℕ, ◌+◌, ◌*◌, ◌<◌, ◌^◌, Bool, true, List, [], ◌∷◌, ◌++◌, length, get_or, Decides, rules, sym, subst, ap, ◌∙◌, inl, inr, arith}
use Rattle.std.specs.Prelude.{slice_get, Some}
use Rattle.std.specs.List.{list_any, IsDistinct}
use Rattle.std.proofs.lemmas.Bool.{cases_cond, cases_lt}
use Rattle.std.proofs.lemmas.List.{length_push, get_or_push, get_or_append_left}
use Rattle.std.proofs.lemmas.Option.{get_or_from_slice_get, slice_get_within, slice_get-get_or}
use Rattle.std.proofs.lemmas.Map.Made.{AllPairs-from_IsDistinct}
use Rattle.indexmap.specs.IndexSet.{insert_key}
use Rattle.aig_blast.specs.Graphs.{AllStand, Gates, Stands, IsGraph, Keeps, Makes, gate_value, variables, variables_of}
use Rattle.aig_blast.specs.declared.gate.Gate.{Gate}
use Rattle.aig_blast.specs.contracts.gate.GatePartialEq.TheImpl as like
use Rattle.aig_blast.proofs.Values.{Keeps-append, Keeps-refl, Makes-gate, with_gates}

abbrev pub equal : Gate → Gate → Bool
equal = (like.ghosts).eq

pub equal-Decides : (x y : Gate) → Decides (equal x y) (x ≡ y)
equal-Decides x y = search rules

stand-push : (sources : ℕ) (gates : List Gate) (gate : Gate) → Stands (sources + length gates) gate → AllStand sources gates → AllStand sources (gates ++ gate ∷ [])
stand-push sources gates gate stands stand k g at =
    let here : get_or (gates ++ gate ∷ []) k g ≡ g = get_or_from_slice_get (gates ++ gate ∷ []) k g g at in
    let within : k < length (gates ++ gate ∷ []) = slice_get_within (gates ++ gate ∷ []) k g at in
    elim (cases_lt k (length gates)) [
      | inl low ↦
          stand k g (slice_get-get_or gates k g low ∙ ap Some (sym (get_or_append_left gates (gate ∷ []) g k low) ∙ here))
      | inr high ↦
          let last : length gates ≡ k = omega (arith, length_push gates gate) in
          subst (λ x. Stands (sources + k) x) (sym (get_or_push gates gate g k last) ∙ here) (subst (λ c. Stands (sources + c) gate) last stands)
    ]

pub IsGraph-insert : (old : Gates) (gates : List Gate) (gate : Gate) → IsGraph old → variables old < 2 ^ 60 → Stands (variables old) gate → gates ≡ insert_key equal old.gates gate → IsDistinct equal gates → IsGraph (with_gates old gates) × Keeps old (with_gates old gates)
IsGraph-insert old gates gate graph room stands inserted distinct =
    let apart = AllPairs-from_IsDistinct equal-Decides gates distinct in
    elim (cases_cond (list_any (equal gate) old.gates) old.gates (old.gates ++ gate ∷ []) gates inserted) [
      | inl same ↦
          (record { stand = rw same graph.stand; distinct = apart; few = rw same graph.few }, rw same (Keeps-refl old))
      | inr more ↦
          (record { stand = rw more (stand-push old.sources old.gates gate stands graph.stand); distinct = apart; few = rw more (omega (arith, length_push old.gates gate)) }, rw more (Keeps-append old (gate ∷ [])))
    ]

-- what a look-up and a push made
pub Makes-insert : (old new : Gates) (gate : Gate) (id : ℕ) → IsGraph new → Keeps old new → Stands (variables old) gate → (k : Gate) × (slice_get new.gates id ≡ Some k) × (equal gate k ≡ true) → Makes old new (2 * (new.sources + id + 1)) (λ inputs. gate_value (variables_of inputs old) gate)
Makes-insert old new gate id graph keeps stands stored =
    Makes-gate old new id gate keeps stands graph (stored.1 ∙ ap Some (sym ((equal-Decides gate stored.0).0 stored.2)))
