-- What the readers of a source found of its circuit text.
use Rattle.std.proofs.Common.{◌≡◌, ℕ, ◌+◌, ◌≤◌, ◌<◌, ◌^◌, Bool, true, false, cond, List, [], ◌∷◌, map, length, Option, None, Some, All, Result, Ok, Err, inl, inr, ⊎_elim, refl, sym, ap, ap₂, subst, ◌∙◌, arith}
use Rattle.std.specs.Prelude.{IfOk, OnOk, ◌⊎◌, ◌||◌, ◌*◌, min, nat_lt}
use Rattle.std.specs.List.{list_any}
use Rattle.std.proofs.lemmas.Bool.{ltb-false}
use Rattle.std.proofs.lemmas.List.{length-map}
use Rattle.kw_base.specs.Fault.{IfFault}
use Rattle.kw_base.specs.declared.fault.Fault.{Fault}
use Rattle.kw_base.specs.declared.fault.Refusal.{Refusal}
use Rattle.kw_base.specs.declared.fault.Refusal.TheVariants as refusals
use Rattle.kw_bits.specs.BitVector.{BitVector}
use Rattle.one_rule.specs.Stimulus.{InputVectors}
use Rattle.btor2_text.specs.Reading.{AreLinesOf}
use Rattle.btor2_text.specs.declared.line.Line.{Line}
use Rattle.btor2_model.specs.Acceptance.{first_fault}
use Rattle.btor2_model.specs.Rules.{is_bad, is_input, is_output, is_state, rule_of}
use Rattle.btor2_model.specs.Run.{lines_by_rule, width_in}
use Rattle.btor2_model.specs.declared.rule.FormRule.{FormRule}
use Rattle.btor2_net.specs.Translations.{line_name}
use Rattle.btor2_net.proofs.FewLines.{few-lines, filter-fewer}
use Rattle.circuit_eval.specs.Circuits.{IsCircuit, input_widths}
use Rattle.circuit_eval.specs.declared.circuit.OutputWire.{OutputWire}
use Rattle.circuit_eval.specs.declared.circuit.Wires.{Wires}
use Rattle.typed_core.specs.Valid.{IsWidth}
use Rattle.koika_assert.specs.Bads.{ShowsBeside, is_shown, turned}
use Rattle.kw_base.specs.Texts as texts
use Rattle.stim_report.specs.Cuts as cuts
use Rattle.stim_report.specs.Shapes.{widths_of}
use Rattle.stim_report.specs.Stimuli.{after, cycles_from, stimulus_of}
use Rattle.stim_report.specs.declared.shape.NameWidth.{NameWidth}
use Rattle.stim_report.specs.declared.shape.Shape.{Shape}
use Rattle.koika_top.specs.Btorsim as text
use Rattle.koika_top.specs.Btorsim.{HasNoLines, HasNoStimulus, HasNoText, HoldsLines, HoldsText, IsRefusal, RunsTooLong, is_too_long, longest_circuit}
use Rattle.koika_top.specs.inner.CircuitRuns.{HasFewLines, IsCircuitOf, IsMixedOf, output_mask}
use Rattle.front_end.specs.Lengths as lengths
use Rattle.front_end.proofs.FewCycles.{or-sides}
use Rattle.koika_top.proofs.ChosenOutputs.{output-no-bad}
use Rattle.koika_top.proofs.Shapes.{widths-told, widths-valid}

-- a fault of a part is one of the whole
pub fault-of-part : (P Q : Fault → Type 0) (e : Refusal) → ((fault : Fault) → P fault → Q fault) → IfFault {X = Unit {0}} (Err e) P → IfFault {X = Unit {0}} (Err e) Q
fault-of-part P Q (refusals.Fault fault) f h = f fault h
fault-of-part P Q refusals.NoMemory f h = tt

-- ---- lines

held : (source read : List ℕ) (lines : List Line) → length source ≤ longest_circuit → read ≡ (cuts.parts_of source).design → AreLinesOf read lines → HoldsLines source lines
held source read lines short is are = record { short = short; are = subst (λ (x : List ℕ). AreLinesOf x lines) is are }

-- accepted lines are the text of the source
pub text-found : (source read : List ℕ) (lines : List Line) → length source ≤ longest_circuit → read ≡ (cuts.parts_of source).design → AreLinesOf read lines
    → (r : Result (List Line) Refusal) → IfOk r (λ t. t ≡ lines) → OnOk r (first_fault lines ≡ None) → IfOk r (HoldsText source)
text-found source read lines short is are (Ok t) same none = subst (HoldsText source) (sym same) (record { holds = held source read lines short is are; no_fault = none })
text-found source read lines short is are (Err e) same none = tt

-- and they are few
pub few-found : (source read : List ℕ) (lines : List Line) → length source ≤ longest_circuit → length read ≤ length source → AreLinesOf read lines
    → (r : Result (List Line) Refusal) → IfOk r (λ t. t ≡ lines) → IfOk r HasFewLines
few-found source read lines short within are (Ok t) same =
    subst HasFewLines (sym same) (λ (test : FormRule → Bool). few-lines test read lines are (omega (arith, short, within)))
few-found source read lines short within are (Err e) same = tt

-- and a fault is that of the text
pub no-text : (source read : List ℕ) (lines : List Line) → length source ≤ longest_circuit → read ≡ (cuts.parts_of source).design → AreLinesOf read lines
    → (r : Result (List Line) Refusal) → IfFault r (λ fault. first_fault lines ≡ Some fault) → IfFault r (λ fault. HasNoLines source fault ⊎ HasNoText source fault)
no-text source read lines short is are (Ok t) h = tt
no-text source read lines short is are (Err (refusals.Fault fault)) h = inr (lines, held source read lines short is are, h)
no-text source read lines short is are (Err refusals.NoMemory) h = tt

-- ---- bad lines

-- where no line is a bad line there are none
pub none-bad : (lines : List Line) → list_any (λ (line : Line). is_bad (rule_of line.keyword)) lines ≡ false → lines_by_rule is_bad lines ≡ []
none-bad [] none = refl
none-bad (line ∷ lines) none =
    let both = or-sides (is_bad (rule_of line.keyword)) (list_any (λ (line : Line). is_bad (rule_of line.keyword)) lines) none in
    rw both.0 (none-bad lines both.1)

fewer-lines : (test : FormRule → Bool) (lines shown : List Line) → map line_name (lines_by_rule test shown) ≡ map line_name (lines_by_rule test lines) → length (lines_by_rule test lines) < 2 ^ 32
    → length (lines_by_rule test shown) < 2 ^ 32
fewer-lines test lines shown named few =
    omega (arith, ap length named, length-map (lines_by_rule test shown) line_name, length-map (lines_by_rule test lines) line_name, few)

-- the text that shows bad lines beside outputs has as few inputs and states
pub few-beside : (lines shown : List Line) → HasFewLines lines → ShowsBeside lines shown → (length (lines_by_rule is_input shown) < 2 ^ 32) × (length (lines_by_rule is_state shown) < 2 ^ 32)
few-beside lines shown few shows = (fewer-lines is_input lines shown shows.inputs (few is_input), fewer-lines is_state lines shown shows.states (few is_state))

one-counted : (p q : Bool) (x : Line) (os bs all : List Line) → (p ≡ true → q ≡ false) → length os + length bs ≡ length all
    → length (cond p (x ∷ os) os) + length (cond q (x ∷ bs) bs) ≡ length (cond (p || q) (x ∷ all) all)
one-counted true true x os bs all apart count = let no : true ≡ false = apart refl in absurd cc
one-counted true false x os bs all apart count = omega (arith, count)
one-counted false true x os bs all apart count = omega (arith, count)
one-counted false false x os bs all apart count = count

shown-count : (lines : List Line) → length (lines_by_rule is_output lines) + length (lines_by_rule is_bad lines) ≡ length (lines_by_rule is_shown lines)
shown-count [] = refl
shown-count (line ∷ lines) =
    one-counted (is_output (rule_of line.keyword)) (is_bad (rule_of line.keyword)) line (lines_by_rule is_output lines) (lines_by_rule is_bad lines) (lines_by_rule is_shown lines) (output-no-bad (rule_of line.keyword)) (shown-count lines)

-- a mark for each output and bad line is one for each output of the circuit that shows them
pub mask-each : (lines : List Line) (c : Wires) → IsMixedOf lines c → length (output_mask lines) ≡ length c.outputs
mask-each lines c mixed =
    let marks = length-map (lines_by_rule is_shown lines) (λ (line : Line). is_output (rule_of line.keyword)) in
    let wires = length-map c.outputs (λ (wire : OutputWire). wire.name) in
    let outputs = ap length mixed.has.outputs ∙ length-map (lines_by_rule is_output mixed.shown) line_name ∙ ap length mixed.shows.outputs ∙ length-map (lines_by_rule is_shown lines) turned in
    omega (arith, marks, wires, outputs)

-- ---- shapes and stimuli

pub few-inputs : (lines : List Line) (shape : Shape) → HasFewLines lines → shape ≡ text.shape_of lines → length shape.inputs < 2 ^ 32
few-inputs lines shape few is =
    let named : Line → NameWidth = λ line. record { name = line_name line; width = width_in lines line.id } in
    omega (arith, ap (λ (s : Shape). length s.inputs) is, length-map (lines_by_rule is_input lines) named, few is_input)

-- they have valid widths
pub widths-fit : (lines : List Line) (c : Wires) (shape : Shape) (names : List (List ℕ)) → IsCircuit c → IsCircuitOf lines c shape names → All IsWidth (widths_of shape.inputs)
widths-fit lines c shape names valid is = subst (All IsWidth) (widths-told c.inputs ∙ sym is.inputs) (widths-valid c.inputs valid.inputs)

widths-after : (shape : Shape) (cycles : Result (List (List BitVector)) Fault) (stimulus : InputVectors)
    → after cycles (λ (cycles : List (List BitVector)). Ok (record { widths = widths_of shape.inputs; cycles = cycles })) ≡ Ok stimulus → stimulus.widths ≡ widths_of shape.inputs
widths-after shape (Ok cycles) stimulus e = sym cc
widths-after shape (Err fault) stimulus e = absurd cc

-- a stimulus has the widths of the shape's inputs
pub stimulus-widths : (shape : Shape) (line : ℕ) (bytes : List ℕ) (stimulus : InputVectors) → stimulus_of shape line bytes ≡ Ok stimulus → stimulus.widths ≡ widths_of shape.inputs
unfolding stimulus_of
stimulus-widths shape line bytes stimulus e = widths-after shape (cycles_from shape.inputs line (texts.lines_of bytes)) stimulus e

-- and so those of the circuit's
pub stimulus-fits : (lines : List Line) (c : Wires) (shape : Shape) (names : List (List ℕ)) (line : ℕ) (bytes : List ℕ) (stimulus : InputVectors) → IsCircuitOf lines c shape names
    → stimulus_of shape line bytes ≡ Ok stimulus → stimulus.widths ≡ input_widths c.inputs
stimulus-fits lines c shape names line bytes stimulus is e = stimulus-widths shape line bytes stimulus e ∙ is.inputs

-- what a source gives what has this shape is what it gives the text
pub given-to : (source : List ℕ) (lines : List Line) (shape : Shape) (line : ℕ) (bytes : List ℕ) (r : Result InputVectors Fault) → shape ≡ text.shape_of lines → line ≡ (cuts.parts_of source).first_line → bytes ≡ (cuts.parts_of source).stimulus
    → stimulus_of shape line bytes ≡ r → text.stimulus_in source lines ≡ r
given-to source lines shape line bytes r is first rest given = sym (λ i. stimulus_of (is i) (first i) (rest i)) ∙ given

-- a fault after the text is one of the whole
pub refused-later : {X : Type 0} (cycles : ℕ) (source : List ℕ) (r : Result X Refusal) → IfFault r (λ fault. HasNoStimulus source fault ⊎ RunsTooLong cycles source fault) → IfFault r (IsRefusal cycles source)
refused-later cycles source (Ok x) h = tt
refused-later cycles source (Err (refusals.Fault fault)) h = ⊎_elim (λ a. inr (inr (inr (inl a)))) (λ b. inr (inr (inr (inr b)))) h
refused-later cycles source (Err refusals.NoMemory) h = tt

-- ---- lengths

-- a run of the shape is too long, or isn't, where one of the text is
pub long-as : (cycles : ℕ) (lines : List Line) (shape : Shape) (long : Bool) → shape ≡ text.shape_of lines → lengths.is_too_long cycles (length shape.registers) (length shape.rules) ≡ long → is_too_long cycles lines ≡ long
long-as cycles lines shape long is h =
    let named : Line → NameWidth = λ line. record { name = line_name line; width = width_in lines line.id } in
    let states = ap (λ (s : Shape). length s.registers) is ∙ length-map (lines_by_rule is_state lines) named in
    let flags = ap (λ (s : Shape). length s.rules) is ∙ length-map (text.flag_lines lines) line_name in
    sym (ap₂ (lengths.is_too_long cycles) states flags) ∙ h

-- flags and bad lines are few together
pub few-flags : (lines : List Line) (shape : Shape) (names : List (List ℕ)) → HasFewLines lines → shape ≡ text.shape_of lines → names ≡ map line_name (lines_by_rule is_bad lines)
    → length shape.rules + length names < 2 ^ 32
few-flags lines shape names few is named =
    let rules = ap (λ (s : Shape). length s.rules) is ∙ length-map (text.flag_lines lines) line_name in
    let fewer = filter-fewer (text.is_flag lines) (lines_by_rule is_output lines) in
    let bads = ap length named ∙ length-map (lines_by_rule is_bad lines) line_name in
    omega (arith, rules, fewer, bads, shown-count lines, few is_shown)
