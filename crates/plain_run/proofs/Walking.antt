-- The plain engine's flags and log go with the rules that fire.
use Rattle.std.proofs.Common.{◌≡◌, ◌⊎◌, ℕ, ◌<◌, Bool, true, false, List, [], ◌∷◌, ◌++◌, length, replicate, refl, sym, ap, ◌∙◌, inl, inr, eq-eqb, arith}
use Rattle.std.specs.Prelude.{◌==◌, ◌||◌, slice_index_or, slice_set}
use Rattle.std.proofs.lemmas.Bool.{cases_eq, ne_eqb, or_right, or_left}
use Rattle.std.proofs.lemmas.List.{get_or-replicate, get_or-set_other, get_or-set_same, length-replicate, length-set, same_lists}
use Rattle.std.proofs.lemmas.List.Folds.{list_any-append}
use Rattle.std.proofs.lemmas.List.FromFn.{get_or-map-range_with_len, length-map-range_with_len}
use Rattle.kw_bits.specs.BitVector.{BitVector}
use Rattle.typed_core.specs.Evaluation.{Ending, Stop, Value}
use Rattle.typed_core.specs.declared.access.Event.{Event}
use Rattle.typed_core.specs.declared.design.Node.{Node}
use Rattle.typed_core.specs.declared.outcome.Stopped.{Stopped}
use Rattle.typed_core.specs.declared.outcome.Stopped.TheVariants.{Abort, Refused}
use Rattle.one_rule.specs.Cycle.{flags, is_among}
use Rattle.one_rule.specs.PortRun.{PortState, merge}
use Rattle.one_rule.specs.Walk.{goes_on}
use Rattle.action_interp.specs.Runs.{end_of}
use Rattle.action_interp.specs.declared.run.RuleEnd.TheVariants as end

-- ---- flags

-- no rule has fired
pub flags_none : (rules : ℕ) → replicate rules false ≡ flags rules []
flags_none rules =
    same_lists (replicate rules false) (flags rules []) (length-replicate rules false ∙ sym (length-map-range_with_len (is_among []) 0 rules)) (λ k d inside.
    let within : k < rules = omega (arith, inside, length-replicate rules false) in
    get_or-replicate rules k false d within ∙ sym (get_or-map-range_with_len (is_among []) 0 rules k k d within (omega arith)))

or_no : (b : Bool) → (b || false) ≡ b
or_no true = refl
or_no false = refl

one_more : (fired : List ℕ) (rule k : ℕ) → is_among (fired ++ rule ∷ []) k ≡ (is_among fired k || ((rule == k) || false))
one_more fired rule k = list_any-append (λ (n : ℕ). n == k) fired (rule ∷ [])

-- a rule that fires sets its flag
pub flags_more : (rules : ℕ) (fired : List ℕ) (rule : ℕ) → slice_set (flags rules fired) rule true ≡ flags rules (fired ++ rule ∷ [])
flags_more rules fired rule =
    same_lists (slice_set (flags rules fired) rule true) (flags rules (fired ++ rule ∷ [])) (length-set (flags rules fired) rule true ∙ count fired ∙ sym (count (fired ++ rule ∷ [])))
    (λ k d inside. at k d (omega (arith, inside, length-set (flags rules fired) rule true, count fired)) (cases_eq k rule))
  where
    count : (ns : List ℕ) → length (flags rules ns) ≡ rules
    count ns = length-map-range_with_len (is_among ns) 0 rules

    at : (k : ℕ) (d : Bool) → k < rules → (k ≡ rule) ⊎ (k ≡ rule → ⊥) → slice_index_or (slice_set (flags rules fired) rule true) k d ≡ slice_index_or (flags rules (fired ++ rule ∷ [])) k d
    at k d within (inl e) =
        let here : rule < length (flags rules fired) = omega (arith, within, e, count fired) in
        let same : is_among (fired ++ rule ∷ []) k ≡ true = one_more fired rule k ∙ or_right (is_among fired k) ((rule == k) || false) (or_left (rule == k) false (eq-eqb rule k (sym e))) in
        ap (λ (n : ℕ). slice_index_or (slice_set (flags rules fired) rule true) n d) e ∙ get_or-set_same (flags rules fired) rule true d here
        ∙ sym (get_or-map-range_with_len (is_among (fired ++ rule ∷ [])) 0 rules k k d within (omega arith) ∙ same)
    at k d within (inr ne) =
        let same : is_among (fired ++ rule ∷ []) k ≡ is_among fired k = one_more fired rule k ∙ ap (λ (b : Bool). is_among fired k || (b || false)) (ne_eqb rule k (λ e. ne (sym e))) ∙ or_no (is_among fired k) in
        get_or-set_other (flags rules fired) rule k true d ne
        ∙ get_or-map-range_with_len (is_among fired) 0 rules k k d within (omega arith)
        ∙ sym (get_or-map-range_with_len (is_among (fired ++ rule ∷ [])) 0 rules k k d within (omega arith) ∙ same)

-- ---- rules that fire, and others

-- a rule that comes to its end fires
pub fires : (node : Node) (state : PortState) (events : List Event) (ending : Ending BitVector Stopped) → end.Fired ≡ end_of ending
    → goes_on node state (merge state node.rule events ending) ≡ record { state = record { log = state.log ++ events; fired = state.fired ++ node.rule ∷ [] }; at = node.yes }
fires node state events (Value value) h = refl
fires node state events (Stop Abort) h = absurd cc
fires node state events (Stop (Refused access)) h = absurd cc

-- every other leaves all as it is
pub fails : (node : Node) (state : PortState) (events : List Event) (ending : Ending BitVector Stopped) → (end.Fired ≡ end_of ending → ⊥)
    → goes_on node state (merge state node.rule events ending) ≡ record { state = state; at = node.no }
fails node state events (Value value) h = absurd (h refl)
fails node state events (Stop Abort) h = refl
fails node state events (Stop (Refused access)) h = refl

pub flags_count : (rules : ℕ) (fired : List ℕ) → length (flags rules fired) ≡ rules
flags_count rules fired = length-map-range_with_len (is_among fired) 0 rules
