-- The values of a graph's literals.
use Rattle.std.proofs.Common.{◌≡◌, ℕ, ◌+◌, ◌*◌, ◌/◌, ◌%◌, ◌<◌, Bool, false, ◌&&◌, eqb, List, [], ◌∷◌, ◌++◌, length, get_or, take, drop, refl, sym, ap, ap₂, subst, ◌∙◌, arith}
use Rattle.std.specs.Prelude.{Some, slice_get}
use Rattle.std.proofs.lemmas.List.{get_or_push, take-append-drop, drop_more, append_assoc, length-take-le, length_push, length-append}
use Rattle.std.proofs.lemmas.Option.{get_or_from_slice_get, slice_get_within}
use Rattle.aig_blast.specs.Graphs.{xor, fitted, gate_value, variables, variables_of, value, Gates, Stands, IsGraph, IsLit, Keeps, Makes}
use Rattle.aig_blast.specs.declared.gate.Gate.{Gate}
use Rattle.aig_blast.proofs.Growing.{values_after-append, length-values_after, get_or-values_after, length-fitted}

-- a graph with these gates in place of its own
abbrev pub with_gates : Gates → List Gate → Gates
with_gates g gates = record { sources = g.sources; gates = gates }

pub length-variables_of : (inputs : List Bool) (g : Gates) → length (variables_of inputs g) ≡ variables g + 1
length-variables_of inputs g = omega (arith, length-values_after (false ∷ fitted g.sources inputs) g.gates, length-fitted g.sources inputs)

-- gates that are added leave the values of those before them
pub value-append : (inputs : List Bool) (g : Gates) (more : List Gate) (lit : ℕ) → IsLit g lit → value inputs (with_gates g (g.gates ++ more)) lit ≡ value inputs g lit
unfolding value
value-append inputs g more lit is_lit =
    let within : lit / 2 < length (variables_of inputs g) = omega (arith, length-variables_of inputs g) in
    let same : get_or (variables_of inputs (with_gates g (g.gates ++ more))) (lit / 2) false ≡ get_or (variables_of inputs g) (lit / 2) false =
    ap (λ values. get_or values (lit / 2) false) (values_after-append (false ∷ fitted g.sources inputs) g.gates more) ∙ get_or-values_after (variables_of inputs g) more (lit / 2) within in
    ap (λ v. xor (eqb (lit % 2) 1) v) same

pub Keeps-append : (g : Gates) (more : List Gate) → Keeps g (with_gates g (g.gates ++ more))
Keeps-append g more = record {
  same_sources = refl;
  longer = omega (arith, length-append g.gates more);
  values = λ inputs lit is_lit. value-append inputs g more lit is_lit;
}

pub Keeps-refl : (g : Gates) → Keeps g g
Keeps-refl g = record { same_sources = refl; longer = omega arith; values = λ inputs lit is_lit. refl }

pub Keeps-trans : (a b c : Gates) → Keeps a b → Keeps b c → Keeps a c
Keeps-trans a b c p q = record {
  same_sources = q.same_sources ∙ p.same_sources;
  longer = omega arith;
  values = λ inputs lit is_lit. q.values inputs lit (omega arith) ∙ p.values inputs lit is_lit;
}

-- the literal of a variable has the variable's value
pub value-variable : (inputs : List Bool) (g : Gates) (v : ℕ) → value inputs g (2 * v) ≡ get_or (variables_of inputs g) v false
unfolding value
value-variable inputs g v =
    let even : 2 * v % 2 ≡ 0 = omega arith in
    let half : 2 * v / 2 ≡ v = omega arith in
    ap₂ (λ r i. xor (eqb r 1) (get_or (variables_of inputs g) i false)) even half

-- a gate's value depends only on the literals below it
gate_value-kept : (inputs : List Bool) (old new : Gates) (gate : Gate) → Keeps old new → Stands (variables old) gate → gate_value (variables_of inputs new) gate ≡ gate_value (variables_of inputs old) gate
unfolding value
gate_value-kept inputs old new gate keeps stands = ap₂ (λ x y. x && y) (keeps.values inputs gate.left stands.left) (keeps.values inputs gate.right stands.right)

value-last : (inputs : List Bool) (g : Gates) (gate : Gate) → value inputs (with_gates g (g.gates ++ gate ∷ [])) (2 * (variables g + 1)) ≡ gate_value (variables_of inputs g) gate
value-last inputs g gate =
    value-variable inputs (with_gates g (g.gates ++ gate ∷ [])) (variables g + 1) ∙ ap (λ values. get_or values (variables g + 1) false) (values_after-append (false ∷ fitted g.sources inputs) g.gates (gate ∷ []))
    ∙ get_or_push (variables_of inputs g) (gate_value (variables_of inputs g) gate) false (variables g + 1) (length-variables_of inputs g)

-- a gate of a graph has its value over the values of all variables
pub value-at : (inputs : List Bool) (g : Gates) (k : ℕ) (gate : Gate) → IsGraph g → slice_get g.gates k ≡ Some gate → value inputs g (2 * (g.sources + k + 1)) ≡ gate_value (variables_of inputs g) gate
value-at inputs g k gate graph at =
    let within : k < length g.gates = slice_get_within g.gates k gate at in
    let first : List Gate = take k g.gates in
    let rest : List Gate = drop (k + 1) g.gates in
    let low : Gates = with_gates g first in
    let upto : Gates = with_gates g (first ++ gate ∷ []) in
    let count : length first ≡ k = length-take-le k g.gates (omega arith) in
    let here : get_or g.gates k gate ≡ gate = get_or_from_slice_get g.gates k gate gate at in
    let split : first ++ gate ∷ rest ≡ g.gates = ap (λ x. first ++ x ∷ rest) (sym here) ∙ ap (λ xs. first ++ xs) (sym (drop_more g.gates k gate within)) ∙ take-append-drop k g.gates in
    let whole : first ++ gate ∷ [] ++ rest ≡ g.gates = append_assoc first (gate ∷ []) rest ∙ split in
    let grows : Keeps upto g = subst (λ gs. Keeps upto (with_gates g gs)) whole (Keeps-append upto rest) in
    let keeps : Keeps low g = subst (λ gs. Keeps low (with_gates g gs)) split (Keeps-append low (gate ∷ rest)) in
    let place : g.sources + k ≡ variables low = omega arith in
    let stands : Stands (variables low) gate = subst (λ n. Stands n gate) place (graph.stand k gate at) in
    ap (λ i. value inputs g (2 * (i + 1))) place ∙ grows.values inputs (2 * (variables low + 1)) (omega (arith, length_push first gate))
    ∙ value-last inputs low gate ∙ sym (gate_value-kept inputs low g gate keeps stands)

-- what an added gate makes
pub Makes-gate : (old new : Gates) (k : ℕ) (gate : Gate) → Keeps old new → Stands (variables old) gate → IsGraph new → slice_get new.gates k ≡ Some gate → Makes old new (2 * (new.sources + k + 1)) (λ inputs. gate_value (variables_of inputs old) gate)
Makes-gate old new k gate keeps stands graph at =
    let within : k < length new.gates = slice_get_within new.gates k gate at in
    record {
      keeps = keeps;
      is_lit = omega arith;
      has_value = λ inputs. value-at inputs new k gate graph at ∙ gate_value-kept inputs old new gate keeps stands;
    }
