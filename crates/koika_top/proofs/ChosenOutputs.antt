-- Items apart by their marks: what is chosen of images, of all items that pass a test, and of a text's outputs and bad lines.
use Rattle.std.proofs.Common.{◌≡◌, ℕ, zero, suc, ◌+◌, ◌<◌, not, Bool, true, false, cond, filter, List, [], ◌∷◌, ◌++◌, length, map, take, get_or, All, refl, sym, ap, ap₂, ◌∙◌, append_assoc, append-nil, arith}
use Rattle.std.specs.Prelude.{◌||◌}
use Rattle.std.specs.List.{AllByRecursion}
use Rattle.std.proofs.lemmas.Simd.{map-map}
use Rattle.std.proofs.lemmas.List.Elements.{All-from_recursion, recursion_from_All}
use Rattle.net_graph.specs.declared.node.NetOp.{NetOp}
use Rattle.circuit_eval.specs.Circuits.{IsCircuit, IsOutput}
use Rattle.circuit_eval.specs.declared.circuit.OutputWire.{OutputWire}
use Rattle.circuit_eval.specs.declared.circuit.Wires.{Wires}
use Rattle.btor2_model.specs.Rules.{is_bad, is_output, rule_of}
use Rattle.btor2_model.specs.Run.{lines_by_rule}
use Rattle.btor2_model.specs.declared.rule.FormRule.{FormRule}
use Rattle.btor2_model.specs.declared.rule.FormRule.TheVariants as forms
use Rattle.btor2_text.specs.declared.line.Line.{Line}
use Rattle.koika_assert.specs.Bads.{is_shown}
use Rattle.koika_top.specs.inner.CircuitRuns.{chosen, output_mask, unmarked, with_outputs}

-- ---- lists

map-cond : {X Y : Type 0} (f : X → Y) (b : Bool) (x : X) (xs : List X) (ys : List Y) → map f xs ≡ ys → cond b (f x ∷ ys) ys ≡ map f (cond b (x ∷ xs) xs)
map-cond f true x xs ys is = ap (λ l. f x ∷ l) (sym is)
map-cond f false x xs ys is = sym is

-- what is chosen of images are the images of what is chosen
pub chosen-map : {X Y : Type 0} (f : X → Y) (mask : List Bool) (xs : List X) → chosen mask (map f xs) ≡ map f (chosen mask xs)
chosen-map f [] xs = refl
chosen-map f (b ∷ mask) [] = refl
chosen-map f (b ∷ mask) (x ∷ xs) = map-cond f b x (chosen mask xs) (chosen mask (map f xs)) (sym (chosen-map f mask xs))

-- by the marks of a test, those that pass it are chosen
pub chosen-filter : {X : Type 0} (p : X → Bool) (xs : List X) → chosen (map p xs) xs ≡ filter p xs
chosen-filter p [] = refl
chosen-filter p (x ∷ xs) = ap (λ l. cond (p x) (x ∷ l) l) (chosen-filter p xs)

all-cond : {X : Type 0} (P : X → Type 0) (b : Bool) (x : X) (xs : List X) → P x → AllByRecursion P xs → AllByRecursion P (cond b (x ∷ xs) xs)
all-cond P true x xs here all = (here, all)
all-cond P false x xs here all = all

-- what is true of all items is true of those that are chosen
chosen-all : {X : Type 0} (P : X → Type 0) (mask : List Bool) (xs : List X) → AllByRecursion P xs → AllByRecursion P (chosen mask xs)
chosen-all P [] xs all = tt
chosen-all P (b ∷ mask) [] all = tt
chosen-all P (b ∷ mask) (x ∷ xs) all = all-cond P b x (chosen mask xs) all.0 (chosen-all P mask xs all.1)

cond-front : {X : Type 0} (b : Bool) (x : X) (xs more : List X) → cond b (x ∷ (xs ++ more)) (xs ++ more) ≡ cond b (x ∷ xs) xs ++ more
cond-front true x xs more = refl
cond-front false x xs more = refl

-- of one item more
pub chosen-more : {X : Type 0} (mask : List Bool) (xs : List X) (k : ℕ) (b : Bool) (d : X) → k < length xs → k < length mask
    → chosen (take (k + 1) mask) (take (k + 1) xs) ≡ chosen (take k mask) (take k xs) ++ cond (get_or mask k b) (get_or xs k d ∷ []) []
chosen-more [] xs k b d some marked = absurd (omega (arith, marked))
chosen-more (c ∷ mask) [] k b d some marked = absurd (omega (arith, some))
chosen-more (c ∷ mask) (x ∷ xs) zero b d some marked = refl
chosen-more (c ∷ mask) (x ∷ xs) (suc k) b d some marked =
    let on : suc k + 1 ≡ suc (k + 1) = omega arith in
    ap (λ n. chosen (take n (c ∷ mask)) (take n (x ∷ xs))) on
    ∙ ap (λ l. cond c (x ∷ l) l) (chosen-more mask xs k b d (omega (arith, some)) (omega (arith, marked)))
    ∙ cond-front c x (chosen (take k mask) (take k xs)) (cond (get_or mask k b) (get_or xs k d ∷ []) [])

-- the next item, where it is marked, after those that were chosen so far
pub push-more : (mask : List Bool) (wires first all next : List OutputWire) (k : ℕ) (b : Bool) (wire : OutputWire) → k < length wires → k < length mask → all ≡ first ++ chosen (take k mask) (take k wires)
    → wire ≡ get_or wires k wire → next ≡ all ++ cond (get_or mask k b) (wire ∷ []) [] → next ≡ first ++ chosen (take (k + 1) mask) (take (k + 1) wires)
push-more mask wires first all next k b wire some marked was is put =
    put
    ∙ ap (λ (xs : List OutputWire). xs ++ cond (get_or mask k b) (wire ∷ []) []) was
    ∙ ap (λ (w : OutputWire). (first ++ chosen (take k mask) (take k wires)) ++ cond (get_or mask k b) (w ∷ []) []) is
    ∙ append_assoc first (chosen (take k mask) (take k wires)) (cond (get_or mask k b) (get_or wires k wire ∷ []) [])
    ∙ ap (λ (more : List OutputWire). first ++ more) (sym (chosen-more mask wires k b wire some marked))

-- ---- circuits

-- outputs that are chosen still stand
pub chosen-stand : (net : List NetOp) (mask : List Bool) (wires : List OutputWire) → All (IsOutput net) wires → All (IsOutput net) (chosen mask wires)
chosen-stand net mask wires all =
    All-from_recursion (IsOutput net) (chosen mask wires) (chosen-all (IsOutput net) mask wires (recursion_from_All (IsOutput net) wires all))

-- a circuit with other outputs that stand is one
pub other-outputs : (c : Wires) (wires : List OutputWire) → IsCircuit c → All (IsOutput c.net) wires → IsCircuit (with_outputs c wires)
other-outputs c wires valid all = record { net = valid.net; reads = valid.reads; states = valid.states; inputs = valid.inputs; outputs = all }

-- ---- outputs and bad lines

-- no output is a bad line
pub output-no-bad : (rule : FormRule) → is_output rule ≡ true → is_bad rule ≡ false
output-no-bad forms.Output e = refl
output-no-bad forms.Bad e = absurd cc
output-no-bad other e = refl

kept-out : (p q : Bool) (x : Line) (all outs bads : List Line) → (p ≡ true → q ≡ false) → filter (λ (line : Line). is_output (rule_of line.keyword)) all ≡ outs
    → is_output (rule_of x.keyword) ≡ p → filter (λ (line : Line). is_output (rule_of line.keyword)) (cond (p || q) (x ∷ all) all) ≡ cond p (x ∷ outs) outs
kept-out true q x all outs bads apart is e = rw e (ap (λ (l : List Line). x ∷ l) is)
kept-out false true x all outs bads apart is e = rw e is
kept-out false false x all outs bads apart is e = is

-- of the lines that are shown, the outputs are those of the text
outputs-shown : (lines : List Line) → filter (λ (line : Line). is_output (rule_of line.keyword)) (lines_by_rule is_shown lines) ≡ lines_by_rule is_output lines
outputs-shown [] = refl
outputs-shown (line ∷ lines) =
    kept-out (is_output (rule_of line.keyword)) (is_bad (rule_of line.keyword)) line (lines_by_rule is_shown lines) (lines_by_rule is_output lines) [] (output-no-bad (rule_of line.keyword)) (outputs-shown lines) refl

kept-bad : (p q : Bool) (x : Line) (all bads : List Line) → (p ≡ true → q ≡ false) → filter (λ (line : Line). not (is_output (rule_of line.keyword))) all ≡ bads
    → is_output (rule_of x.keyword) ≡ p → filter (λ (line : Line). not (is_output (rule_of line.keyword))) (cond (p || q) (x ∷ all) all) ≡ cond q (x ∷ bads) bads
kept-bad true true x all bads apart is e = let no : true ≡ false = apart refl in absurd cc
kept-bad true false x all bads apart is e = rw e is
kept-bad false true x all bads apart is e = rw e (ap (λ (l : List Line). x ∷ l) is)
kept-bad false false x all bads apart is e = is

-- and the others are its bad lines
bads-shown : (lines : List Line) → filter (λ (line : Line). not (is_output (rule_of line.keyword))) (lines_by_rule is_shown lines) ≡ lines_by_rule is_bad lines
bads-shown [] = refl
bads-shown (line ∷ lines) =
    kept-bad (is_output (rule_of line.keyword)) (is_bad (rule_of line.keyword)) line (lines_by_rule is_shown lines) (lines_by_rule is_bad lines) (output-no-bad (rule_of line.keyword)) (bads-shown lines) refl

-- so they are chosen by the mask
pub chosen-outputs : (lines : List Line) → chosen (output_mask lines) (lines_by_rule is_shown lines) ≡ lines_by_rule is_output lines
chosen-outputs lines = chosen-filter (λ (line : Line). is_output (rule_of line.keyword)) (lines_by_rule is_shown lines) ∙ outputs-shown lines

pub unmarked-bads : (lines : List Line) → unmarked (output_mask lines) (lines_by_rule is_shown lines) ≡ lines_by_rule is_bad lines
unmarked-bads lines =
    let shown : List Line = lines_by_rule is_shown lines in
    ap (λ (mask : List Bool). chosen mask shown) (map-map not (λ (line : Line). is_output (rule_of line.keyword)) shown)
    ∙ chosen-filter (λ (line : Line). not (is_output (rule_of line.keyword))) shown
    ∙ bads-shown lines
