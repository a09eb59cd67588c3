-- What reports show of a circuit is what they show of its BTOR2 file.
use Rattle.std.proofs.Common.{◌≡◌, ℕ, ◌==◌, Bool, true, false, cond, filter, List, [], ◌∷◌, map, length, All, refl, sym, ap, ◌∙◌}
use Rattle.std.proofs.lemmas.List.{length-map}
use Rattle.std.proofs.lemmas.Simd.{map-map}
use Rattle.std.specs.List.{AllByRecursion}
use Rattle.std.proofs.lemmas.List.Elements.{All-from_recursion, recursion_from_All}
use Rattle.net_graph.specs.Nets.{width_at, widths_of}
use Rattle.typed_core.specs.Valid.{IsWidth}
use Rattle.btor2_text.specs.declared.line.Line.{Line}
use Rattle.btor2_model.specs.Rules.{is_input, is_output, is_state}
use Rattle.btor2_model.specs.Run.{lines_by_rule, width_in}
use Rattle.btor2_model.specs.Scope.{id_at}
use Rattle.btor2_net.specs.Translations.{HasLines, line_name}
use Rattle.circuit_eval.specs.Circuits.{IsInput, input_widths}
use Rattle.circuit_eval.specs.declared.circuit.InputWire.{InputWire}
use Rattle.circuit_eval.specs.declared.circuit.OutputWire.{OutputWire}
use Rattle.circuit_eval.specs.declared.circuit.StateWire.{StateWire}
use Rattle.circuit_eval.specs.declared.circuit.Wires.{Wires}
use Rattle.stim_report.specs.Shapes as told
use Rattle.stim_report.specs.declared.shape.NameWidth.{NameWidth}
use Rattle.stim_report.specs.declared.shape.Shape.{Shape}
use Rattle.koika_top.specs.Btorsim as text
use Rattle.koika_top.specs.CircuitShapes as circuit

abbrev named : List ℕ → ℕ → NameWidth
named name width = record { name = name; width = width }

-- what agrees in names and in widths agrees in both
pub both-agree : {A B : Type 0} (f : A → List ℕ) (g : A → ℕ) (f' : B → List ℕ) (g' : B → ℕ) (xs : List A) (ys : List B) → map f xs ≡ map f' ys → map g xs ≡ map g' ys
    → map (λ x. named (f x) (g x)) xs ≡ map (λ y. named (f' y) (g' y)) ys
both-agree f g f' g' [] [] names widths = refl
both-agree f g f' g' [] (y ∷ ys) names widths = absurd cc
both-agree f g f' g' (x ∷ xs) [] names widths = absurd cc
both-agree f g f' g' (x ∷ xs) (y ∷ ys) names widths =
    let name : f x ≡ f' y = cc in
    let width : g x ≡ g' y = cc in
    let names' : map f xs ≡ map f' ys = cc in
    let widths' : map g xs ≡ map g' ys = cc in
    let rest = both-agree f g f' g' xs ys names' widths' in
    ap (λ n. named n (g x) ∷ map (λ x. named (f x) (g x)) xs) name
    ∙ ap (λ w. named (f' y) w ∷ map (λ x. named (f x) (g x)) xs) width
    ∙ ap (λ l. named (f' y) (g' y) ∷ l) rest

-- the names of those of one bit agree too
kept-agree : {A B : Type 0} (f : A → List ℕ) (f' : B → List ℕ) (one two : Bool) (x : A) (y : B) (xs : List A) (ys : List B) → one ≡ two → f x ≡ f' y → map f xs ≡ map f' ys
    → map f (cond one (x ∷ xs) xs) ≡ map f' (cond two (y ∷ ys) ys)
kept-agree f f' true true x y xs ys same name names = ap (λ n. n ∷ map f xs) name ∙ ap (λ l. f' y ∷ l) names
kept-agree f f' false false x y xs ys same name names = names
kept-agree f f' true false x y xs ys same name names = absurd cc
kept-agree f f' false true x y xs ys same name names = absurd cc

flags-agree : {A B : Type 0} (f : A → List ℕ) (g : A → ℕ) (f' : B → List ℕ) (g' : B → ℕ) (xs : List A) (ys : List B) → map f xs ≡ map f' ys → map g xs ≡ map g' ys
    → map f (filter (λ x. g x == 1) xs) ≡ map f' (filter (λ y. g' y == 1) ys)
flags-agree f g f' g' [] [] names widths = refl
flags-agree f g f' g' [] (y ∷ ys) names widths = absurd cc
flags-agree f g f' g' (x ∷ xs) [] names widths = absurd cc
flags-agree f g f' g' (x ∷ xs) (y ∷ ys) names widths =
    let name : f x ≡ f' y = cc in
    let width : g x ≡ g' y = cc in
    let names' : map f xs ≡ map f' ys = cc in
    let widths' : map g xs ≡ map g' ys = cc in
    kept-agree f f' (g x == 1) (g' y == 1) x y (filter (λ x. g x == 1) xs) (filter (λ y. g' y == 1) ys) (ap (λ w. w == 1) width) name (flags-agree f g f' g' xs ys names' widths')

-- a circuit of a text has the text's shape
pub shape-of-text : (lines : List Line) (c : Wires) → HasLines lines c → circuit.shape_of c ≡ text.shape_of lines
shape-of-text lines c has =
    let inputs = both-agree (λ (w : InputWire). w.name) (λ (w : InputWire). w.width) line_name (λ (l : Line). width_in lines l.id) c.inputs (lines_by_rule is_input lines)
    has.inputs (has.input_widths ∙ map-map (width_in lines) (λ (l : Line). l.id) (lines_by_rule is_input lines)) in
    let states = both-agree (λ (w : StateWire). w.name) (λ (w : StateWire). w.width) line_name (λ (l : Line). width_in lines l.id) c.states (lines_by_rule is_state lines)
    has.states (has.state_widths ∙ map-map (width_in lines) (λ (l : Line). l.id) (lines_by_rule is_state lines)) in
    let flags = flags-agree (λ (w : OutputWire). w.name) (λ (w : OutputWire). width_at (widths_of c.net) w.id) line_name (λ (l : Line). width_in lines (id_at l.arguments 0)) c.outputs (lines_by_rule is_output lines)
    has.outputs has.output_widths in
    let shape : List NameWidth → List NameWidth → List (List ℕ) → Shape = λ is ss rs. record { inputs = is; registers = ss; rules = rs } in
    ap (λ l. shape l (map circuit.of_state c.states) (map circuit.name_of (filter (circuit.is_flag (widths_of c.net)) c.outputs))) inputs
    ∙ ap (λ l. shape (text.named_lines is_input lines) l (map circuit.name_of (filter (circuit.is_flag (widths_of c.net)) c.outputs))) states
    ∙ ap (λ l. shape (text.named_lines is_input lines) (text.named_lines is_state lines) l) flags

-- the widths of a circuit's inputs as texts tell them
pub widths-told : (inputs : List InputWire) → told.widths_of (map circuit.of_input inputs) ≡ input_widths inputs
widths-told inputs = map-map (λ (n : NameWidth). n.width) circuit.of_input inputs

each-valid : (inputs : List InputWire) → AllByRecursion IsInput inputs → AllByRecursion IsWidth (told.widths_of (map circuit.of_input inputs))
each-valid [] all = tt
each-valid (wire ∷ inputs) all = (all.0, each-valid inputs all.1)

-- they are valid
pub widths-valid : (inputs : List InputWire) → All IsInput inputs → All IsWidth (told.widths_of (map circuit.of_input inputs))
widths-valid inputs all = All-from_recursion IsWidth (told.widths_of (map circuit.of_input inputs)) (each-valid inputs (recursion_from_All IsInput inputs all))

-- a circuit of a text has an input for each of the text's
pub inputs-count : (lines : List Line) (c : Wires) → HasLines lines c → length (map circuit.of_input c.inputs) ≡ length (lines_by_rule is_input lines)
inputs-count lines c has =
    length-map c.inputs circuit.of_input ∙ sym (length-map c.inputs (λ (w : InputWire). w.name)) ∙ ap length has.inputs ∙ length-map (lines_by_rule is_input lines) line_name
