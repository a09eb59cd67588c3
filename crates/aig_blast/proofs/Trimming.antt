-- Copies of some of a graph's gates.
use Rattle.std.proofs.Common.{◌≡◌, ◌≢◌, ℕ, zero, suc, ◌+◌, ◌*◌, ◌/◌, ◌%◌, ◌≤◌, Bool, true, false, not, ◌&&◌, eqb, List, [], ◌∷◌, ◌++◌, length, map, get_or, refl, sym, ap, ap₂, subst, ◌∙◌, ◌⊎◌, inl, inr, arith}
use Rattle.std.specs.Prelude.{Option, Some, None, IfSome, is_some, slice_get}
use Rattle.std.specs.List.{All, AllPairs}
use Rattle.std.proofs.lemmas.Bool.{cases_eq, eq-eqb, ne_eqb}
use Rattle.std.proofs.lemmas.List.{length-map, length_push}
use Rattle.std.proofs.lemmas.Option.{same_Some, slice_get_within}
use Rattle.circuit_eval.specs.declared.circuit.OutputWire.{OutputWire}
use Rattle.circuit_eval.specs.declared.circuit.StateWire.{StateWire}
use Rattle.circuit_eval.specs.declared.circuit.Wires.{Wires}
use Rattle.aig_blast.specs.BitLists.{as_bits, xor}
use Rattle.aig_blast.specs.Graphs.{Gates, IsGraph, IsLit, Keeps, Makes, fitted, value}
use Rattle.aig_blast.specs.Words.{bits, word, AreLits}
use Rattle.aig_blast.specs.inner.Nodes.{AreWords, IsWord, Made, lengths, word_at}
use Rattle.aig_blast.specs.inner.Trims.{ArePlaces, IsPlaced, moved, place_at, signed_place}
use Rattle.aig_blast.specs.declared.gate.Gate.{Gate}
use Rattle.aig_blast.proofs.Gates.{IsLit-negation, value-negation}
use Rattle.aig_blast.proofs.PairRules.{value-signed}
use Rattle.aig_blast.proofs.Growing.{get_or-values_after, length-fitted}
use Rattle.aig_blast.proofs.Values.{value-at, value-variable}

-- a literal in a copy stands there, with its value
signed-value : (i : List Bool) (h : Gates) (place lit : ℕ) (x : Bool) → value i h place ≡ x → value i h (signed_place (Some place) lit) ≡ xor (eqb (lit % 2) 1) x
signed-value i h place lit x is =
    elim (cases_eq (lit % 2) 1) [
      | inl odd ↦ rw (eq-eqb (lit % 2) 1 odd) (value-negation i h place ∙ ap not is)
      | inr even ↦ rw (ne_eqb (lit % 2) 1 even) is
    ]

signed-lit : (h : Gates) (place lit : ℕ) → IsLit h place → IsLit h (signed_place (Some place) lit)
signed-lit h place lit stands =
    elim (cases_eq (lit % 2) 1) [
      | inl odd ↦ rw (eq-eqb (lit % 2) 1 odd) (IsLit-negation h place stands)
      | inr even ↦ rw (ne_eqb (lit % 2) 1 even) stands
    ]

signed-stands : (h : Gates) (o : Option ℕ) (lit : ℕ) → ((place : ℕ) → o ≡ Some place → IsLit h place) → IsLit h (signed_place o lit)
signed-stands h (Some place) lit all = signed-lit h place lit (all place refl)
signed-stands h None lit all = omega arith

signed-same : (i : List Bool) (h : Gates) (o : Option ℕ) (lit : ℕ) (x : Bool) → is_some o ≡ true → ((place : ℕ) → o ≡ Some place → value i h place ≡ x) → value i h (signed_place o lit) ≡ xor (eqb (lit % 2) 1) x
signed-same i h (Some place) lit x some all = signed-value i h place lit x (all place refl)
signed-same i h None lit x some all = absurd cc

pub moved-stands : (h : Gates) (places : List (Option ℕ)) (lit x : ℕ) → ((v place : ℕ) → place_at places v ≡ Some place → IsLit h place) → x ≡ moved places lit → IsLit h x
moved-stands h places lit x all is = subst (IsLit h) (sym is) (signed-stands h (place_at places (lit / 2)) lit (λ place at. all (lit / 2) place at))

pub moved-lit : (g h : Gates) (places : List (Option ℕ)) (lit : ℕ) → ArePlaces g h places → IsLit h (moved places lit)
moved-lit g h places lit are = signed-stands h (place_at places (lit / 2)) lit (λ place is. are.stand (lit / 2) place is)

pub moved-value : (g h : Gates) (places : List (Option ℕ)) (lit : ℕ) → ArePlaces g h places → IsPlaced places lit → (i : List Bool) → value i h (moved places lit) ≡ value i g lit
moved-value g h places lit are placed i =
    signed-same i h (place_at places (lit / 2)) lit (value i g (2 * (lit / 2))) placed (λ place is. are.values (lit / 2) place is i) ∙ sym (value-signed i g lit)

-- ---- one more place

place-push : (places : List (Option ℕ)) (last : Option ℕ) (v p : ℕ) → place_at (places ++ last ∷ []) v ≡ Some p → (place_at places v ≡ Some p) ⊎ ((v ≡ length places) × (last ≡ Some p))
place-push [] last zero p is = inr (refl, is)
place-push [] last (suc v) p is = absurd cc
place-push (x ∷ xs) last zero p is = inl is
place-push (x ∷ xs) last (suc v) p is =
    elim (place-push xs last v p is) [
      | inl before ↦ inl before
      | inr here ↦ inr (ap suc here.0, here.1)
    ]

some-if : (P : ℕ → Type 0) (o : Option ℕ) (x : ℕ) → o ≡ Some x → IfSome o P → P x
some-if P o x is all = subst (λ (p : Option ℕ). IfSome p P) is all

kept : (g h k : Gates) (places : List (Option ℕ)) → ArePlaces g h places → Keeps h k → ArePlaces g k places
kept g h k places are keeps = record {
  same_sources = keeps.same_sources ∙ are.same_sources;
  stand = λ v p is. omega (arith, are.stand v p is, keeps.longer);
  values = λ v p is i. keeps.values i p (are.stand v p is) ∙ are.values v p is i;
}

gate-here : (g : Gates) (n v : ℕ) (gate : Gate) (i : List Bool) → IsGraph g → slice_get g.gates n ≡ Some gate → v ≡ g.sources + n + 1 → value i g (2 * v) ≡ (value i g gate.left && value i g gate.right)
unfolding value
gate-here g n v gate i graph at is = ap (λ m. value i g (2 * m)) is ∙ value-at i g n gate graph at

places-push : (g h k : Gates) (places : List (Option ℕ)) (n : ℕ) (gate : Gate) (last : Option ℕ) → IsGraph g → slice_get g.gates n ≡ Some gate → length places ≡ 1 + g.sources + n → ArePlaces g h places → Keeps h k
    → IfSome last (λ lit. IsPlaced places gate.left) → IfSome last (λ lit. IsPlaced places gate.right) → IfSome last (λ lit. Makes h k lit (λ i. value i h (moved places gate.left) && value i h (moved places gate.right)))
    → ArePlaces g k (places ++ last ∷ [])
places-push g h k places n gate last graph at count are keeps left right makes = record {
  same_sources = keeps.same_sources ∙ are.same_sources;
  stand = λ v p is. elim (place-push places last v p is) [
    | inl before ↦ (kept g h k places are keeps).stand v p before
    | inr here ↦ (some-if _ last p here.1 makes).is_lit
  ];
  values = λ v p is i. elim (place-push places last v p is) [
    | inl before ↦ (kept g h k places are keeps).values v p before i
    | inr here ↦
        let variable : v ≡ g.sources + n + 1 = omega (arith, here.0) in
        (some-if _ last p here.1 makes).has_value i
        ∙ ap₂ (λ x y. x && y) (moved-value g h places gate.left are (some-if _ last p here.1 left) i) (moved-value g h places gate.right are (some-if _ last p here.1 right) i)
        ∙ sym (gate-here g n v gate i graph at variable)
  ];
}

-- the same, where a slice and a vector hold the places
pub places-next : (g h k : Gates) (places seen next : List (Option ℕ)) (n : ℕ) (gate : Gate) (last : Option ℕ) → IsGraph g → slice_get g.gates n ≡ Some gate → length places ≡ 1 + g.sources + n → ArePlaces g h places → seen ≡ places
    → next ≡ places ++ last ∷ [] → Keeps h k
    → IfSome last (λ lit. IsPlaced seen gate.left) → IfSome last (λ lit. IsPlaced seen gate.right) → IfSome last (λ lit. Makes h k lit (λ i. value i h (moved seen gate.left) && value i h (moved seen gate.right)))
    → IsGraph k → (length next ≡ 1 + g.sources + (n + 1)) × ArePlaces g k next × IsGraph k
places-next g h k places seen next n gate last graph at count are same is keeps left right makes whole = (
  omega (arith, ap length is, length_push places last, count),
  subst (ArePlaces g k) (sym is) (places-push g h k places n gate last graph at count are keeps
      (subst (λ (ps : List (Option ℕ)). IfSome last (λ lit. IsPlaced ps gate.left)) same left)
      (subst (λ (ps : List (Option ℕ)). IfSome last (λ lit. IsPlaced ps gate.right)) same right)
      (subst (λ (ps : List (Option ℕ)). IfSome last (λ lit. Makes h k lit (λ i. value i h (moved ps gate.left) && value i h (moved ps gate.right)))) same makes)),
  whole,
)

-- a graph without gates
pub bare-graph : (g h : Gates) → h.gates ≡ [] → h.sources ≡ g.sources → IsGraph g → IsGraph h
bare-graph g h none same graph = record {
  stand = λ k gate at. absurd (omega (arith, slice_get_within h.gates k gate at, ap length none));
  distinct = subst (AllPairs (λ a b. a ≢ b)) (sym none) (λ i j x y before within. absurd (omega arith));
  few = omega (arith, graph.few, ap length none);
}

-- the sources are at their own places
sources-same : (i : List Bool) (g h : Gates) (v : ℕ) → h.sources ≡ g.sources → v ≤ g.sources → value i h (2 * v) ≡ value i g (2 * v)
sources-same i g h v same within =
    value-variable i h v ∙ get_or-values_after (false ∷ fitted h.sources i) h.gates v (omega (arith, length-fitted h.sources i)) ∙ ap (λ n. get_or (false ∷ fitted n i) v false) same
    ∙ sym (value-variable i g v ∙ get_or-values_after (false ∷ fitted g.sources i) g.gates v (omega (arith, length-fitted g.sources i)))

pub places-sources : (g h : Gates) (places : List (Option ℕ)) → h.sources ≡ g.sources → ((v place : ℕ) → place_at places v ≡ Some place → (place ≡ 2 * v) × (v ≤ g.sources)) → ArePlaces g h places
places-sources g h places same own = record {
  same_sources = same;
  stand = λ v p is. omega (arith, (own v p is).0, (own v p is).1);
  values = λ v p is i. ap (value i h) (own v p is).0 ∙ sources-same i g h v same (own v p is).1;
}

-- one more source
pub places-own-push : (places : List (Option ℕ)) (count sources : ℕ) → length places ≡ count → count ≤ sources → ((v place : ℕ) → place_at places v ≡ Some place → (place ≡ 2 * v) × (v ≤ sources))
    → (v place : ℕ) → place_at (places ++ Some (2 * count) ∷ []) v ≡ Some place → (place ≡ 2 * v) × (v ≤ sources)
places-own-push places count sources is within own v place at =
    elim (place-push places (Some (2 * count)) v place at) [
      | inl before ↦ own v place before
      | inr here ↦ let own_place : 2 * count ≡ place = same_Some (2 * count) place here.1 in (omega (arith, here.0), omega (arith, here.0))
    ]

-- ---- words

pub word-moved : (g h : Gates) (places : List (Option ℕ)) (lits : List ℕ) → ArePlaces g h places → All (IsPlaced places) lits → (i : List Bool) → word i h (map (moved places) lits) ≡ word i g lits
word-moved g h places [] are all i = refl
word-moved g h places (lit ∷ lits) are all i =
    ap₂ (λ (b : Bool) (bs : List Bool). b ∷ bs) (moved-value g h places lit are (all 0 lit (omega arith)) i) (word-moved g h places lits are (λ k d l. all (suc k) d (omega arith)) i)

word_at-moved : (places : List (Option ℕ)) (words : List (List ℕ)) (id : ℕ) → word_at (map (map (moved places)) words) id ≡ map (moved places) (word_at words id)
word_at-moved places [] id = refl
word_at-moved places (word ∷ words) zero = refl
word_at-moved places (word ∷ words) (suc id) = word_at-moved places words id

lengths-moved : (places : List (Option ℕ)) (words : List (List ℕ)) → lengths (map (map (moved places)) words) ≡ lengths words
lengths-moved places [] = refl
lengths-moved places (word ∷ words) = ap₂ (λ (n : ℕ) (ns : List ℕ). n ∷ ns) (length-map word (moved places)) (lengths-moved places words)

lits-moved : (g h : Gates) (places : List (Option ℕ)) (lits : List ℕ) → ArePlaces g h places → AreLits h (map (moved places) lits)
lits-moved g h places [] are k d l = absurd (omega arith)
lits-moved g h places (lit ∷ lits) are zero d l = moved-lit g h places lit are
lits-moved g h places (lit ∷ lits) are (suc k) d l = lits-moved g h places lits are k d (omega arith)

words-moved : (g h : Gates) (places : List (Option ℕ)) (words : List (List ℕ)) → ArePlaces g h places → AreWords g words → AreWords h (map (map (moved places)) words)
words-moved g h places [] are all k d l = absurd (omega arith)
words-moved g h places (word ∷ words) are all zero d l =
    let own : IsWord g word = all 0 word (omega arith) in
    record { some = omega (arith, length-map word (moved places), own.some); most = omega (arith, length-map word (moved places), own.most); are_lits = lits-moved g h places word are }
words-moved g h places (word ∷ words) are all (suc k) d l = words-moved g h places words are (λ j e m. all (suc j) e (omega arith)) k d (omega arith)

-- what was tested of slices holds of what they are slices of
pub nexts-placed : (places seen : List (Option ℕ)) (words read : List (List ℕ)) (wires gone : List StateWire) → seen ≡ places → read ≡ words → gone ≡ wires
    → All (λ (wire : StateWire). All (IsPlaced seen) (word_at read wire.next)) gone → All (λ (wire : StateWire). All (IsPlaced places) (word_at words wire.next)) wires
nexts-placed places seen words read wires gone same is are all =
    subst (All (λ (wire : StateWire). All (IsPlaced places) (word_at words wire.next))) are
    (subst (λ (ws : List (List ℕ)). All (λ (wire : StateWire). All (IsPlaced places) (word_at ws wire.next)) gone) is
    (subst (λ (ps : List (Option ℕ)). All (λ (wire : StateWire). All (IsPlaced ps) (word_at read wire.next)) gone) same all))

pub outputs-placed : (places seen : List (Option ℕ)) (words read : List (List ℕ)) (wires gone : List OutputWire) → seen ≡ places → read ≡ words → gone ≡ wires
    → All (λ (wire : OutputWire). All (IsPlaced seen) (word_at read wire.id)) gone → All (λ (wire : OutputWire). All (IsPlaced places) (word_at words wire.id)) wires
outputs-placed places seen words read wires gone same is are all =
    subst (All (λ (wire : OutputWire). All (IsPlaced places) (word_at words wire.id))) are
    (subst (λ (ws : List (List ℕ)). All (λ (wire : OutputWire). All (IsPlaced places) (word_at ws wire.id)) gone) is
    (subst (λ (ps : List (Option ℕ)). All (λ (wire : OutputWire). All (IsPlaced ps) (word_at read wire.id)) gone) same all))

-- the words of a circuit, in a copy that has those of next nodes and of outputs
pub Made-moved : (c : Wires) (g h : Gates) (places : List (Option ℕ)) (words : List (List ℕ)) → Made c g words → IsGraph h → ArePlaces g h places
    → All (λ (wire : StateWire). All (IsPlaced places) (word_at words wire.next)) c.states → All (λ (wire : OutputWire). All (IsPlaced places) (word_at words wire.id)) c.outputs → Made c h (map (map (moved places)) words)
Made-moved c g h places words made graph are nexts outputs = record {
  count = are.same_sources ∙ made.count;
  graph = graph;
  are_words = words-moved g h places words are made.are_words;
  widths = lengths-moved places words ∙ made.widths;
  nexts = λ inputs states given now k d l. same _ (get_or c.states k d).next (nexts k d l) ∙ made.nexts inputs states given now k d l;
  outputs = λ inputs states given now k d l. same _ (get_or c.outputs k d).id (outputs k d l) ∙ made.outputs inputs states given now k d l;
}
  where
    same : (i : List Bool) (id : ℕ) → All (IsPlaced places) (word_at words id) → bits i h (word_at (map (map (moved places)) words) id) ≡ bits i g (word_at words id)
    same i id all = ap (bits i h) (word_at-moved places words id) ∙ ap as_bits (word-moved g h places (word_at words id) are all i)
