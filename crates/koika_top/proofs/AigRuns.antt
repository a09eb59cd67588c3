-- What the readers of a source found of its AIGER text and of the bit-level circuit that they made of it.
use Rattle.std.proofs.Common.{◌≡◌, ◌⊎◌, ℕ, ◌≤◌, ◌<◌, ◌^◌, Bool, List, [], ◌∷◌, map, length, Result, Ok, Err, inl, inr, sym, ap, subst, ◌∙◌, ⊎_elim, arith}
use Rattle.std.specs.Prelude.{All}
use Rattle.std.specs.List.{AllByRecursion}
use Rattle.std.proofs.lemmas.List.{length-map}
use Rattle.std.proofs.lemmas.List.Elements.{All-from_recursion, recursion_from_All}
use Rattle.std.proofs.lemmas.Simd.{map-map}
use Rattle.kw_base.specs.Fault.{IfFault}
use Rattle.kw_base.specs.declared.fault.Fault.{Fault}
use Rattle.kw_base.specs.declared.fault.Refusal.{Refusal}
use Rattle.kw_base.specs.declared.fault.Refusal.TheVariants as refusals
use Rattle.one_rule.specs.Stimulus.{InputVectors}
use Rattle.typed_core.specs.Valid.{IsWidth}
use Rattle.aig_blast.specs.Aigs.{AigParts, IsInputWord, input_word_widths}
use Rattle.aig_blast.specs.declared.aig.InputWord.{InputWord}
use Rattle.aiger_text.specs.Acceptance.{accepted_text}
use Rattle.aiger_text.specs.AigShapes as shapes
use Rattle.aiger_text.specs.Drafts.{Draft}
use Rattle.aiger_text.specs.Meaning.{HasGraph, text_shape}
use Rattle.aiger_text.specs.Reading.{aig_of}
use Rattle.stim_report.specs.Cuts as cuts
use Rattle.stim_report.specs.Shapes.{widths_of}
use Rattle.stim_report.specs.Stimuli.{stimulus_of}
use Rattle.stim_report.specs.declared.shape.NameWidth.{NameWidth}
use Rattle.stim_report.specs.declared.shape.Shape.{Shape}
use Rattle.koika_top.specs.Aigsim.{HasNoStimulus, IsRefusal, RunsTooLong, is_too_long, stimulus_in}
use Rattle.koika_top.specs.Btorsim.{longest_circuit}
use Rattle.koika_top.specs.inner.AigTexts.{HoldsGraph}
use Rattle.front_end.specs.Lengths as lengths
use Rattle.koika_top.proofs.AigTexts.{few-words}
use Rattle.koika_top.proofs.CircuitTexts.{stimulus-widths}

-- ---- texts

-- the circuit that was read of a design part is one of what the source's text says
pub aig-held : (source design : List ℕ) (aig : AigParts) → length source ≤ longest_circuit → design ≡ (cuts.parts_of source).design → HasGraph design aig → HoldsGraph source aig
aig-held source design aig short cut has =
    record { said = has.said; holds = record { short = short; read = sym (ap accepted_text cut) ∙ has.reads }; graph = has.graph }

-- and it has few words of inputs
pub few-inputs-read : (source design : List ℕ) (aig : AigParts) → length source ≤ longest_circuit → length design ≤ length source → aig_of design ≡ Ok aig → length aig.inputs < 2 ^ 32
few-inputs-read source design aig short within read = omega (arith, short, within, few-words design aig read)

-- a fault of the text is one of the whole
pub aig-refused : (cycles : ℕ) (source design : List ℕ) (e : Refusal) → length source ≤ longest_circuit → design ≡ (cuts.parts_of source).design → IfFault {X = Unit {0}} (Err e) (λ fault. accepted_text design ≡ Err fault)
    → IfFault {X = Unit {0}} (Err e) (IsRefusal cycles source)
aig-refused cycles source design (refusals.Fault fault) short cut read = inr (inl (short, sym (ap accepted_text cut) ∙ read))
aig-refused cycles source design refusals.NoMemory short cut read = tt

-- and so is a fault after it
pub aig-refused-later : {X : Type 0} (cycles : ℕ) (source : List ℕ) (r : Result X Refusal) → IfFault r (λ fault. HasNoStimulus source fault ⊎ RunsTooLong cycles source fault) → IfFault r (IsRefusal cycles source)
aig-refused-later cycles source (Ok x) h = tt
aig-refused-later cycles source (Err (refusals.Fault fault)) h = ⊎_elim (λ a. inr (inr (inl a))) (λ b. inr (inr (inr b))) h
aig-refused-later cycles source (Err refusals.NoMemory) h = tt

-- ---- shapes and stimuli

pub few-inputs-told : (aig : AigParts) (shape : Shape) → length aig.inputs < 2 ^ 32 → shape ≡ shapes.shape_of aig → length shape.inputs < 2 ^ 32
few-inputs-told aig shape few is =
    let count = ap (λ (s : Shape). length s.inputs) is ∙ length-map aig.inputs shapes.of_input in
    omega (arith, count, few)

-- the widths of a circuit's inputs as texts tell them
widths-told : (inputs : List InputWord) → widths_of (map shapes.of_input inputs) ≡ input_word_widths inputs
widths-told inputs = map-map (λ (n : NameWidth). n.width) shapes.of_input inputs

each-valid : (inputs : List InputWord) → AllByRecursion IsInputWord inputs → AllByRecursion IsWidth (widths_of (map shapes.of_input inputs))
each-valid [] all = tt
each-valid (word ∷ inputs) all = ((all.0.some, all.0.most), each-valid inputs all.1)

-- they are valid
pub aig-widths-valid : (aig : AigParts) (shape : Shape) → All IsInputWord aig.inputs → shape ≡ shapes.shape_of aig → All IsWidth (widths_of shape.inputs)
aig-widths-valid aig shape all is =
    subst (λ (s : Shape). All IsWidth (widths_of s.inputs)) (sym is)
    (All-from_recursion IsWidth (widths_of (map shapes.of_input aig.inputs)) (each-valid aig.inputs (recursion_from_All IsInputWord aig.inputs all)))

-- a stimulus of the shape has the widths of the circuit's words of inputs
pub aig-stimulus-fits : (aig : AigParts) (shape : Shape) (line : ℕ) (bytes : List ℕ) (stimulus : InputVectors) → shape ≡ shapes.shape_of aig → stimulus_of shape line bytes ≡ Ok stimulus → stimulus.widths ≡ input_word_widths aig.inputs
aig-stimulus-fits aig shape line bytes stimulus is e =
    stimulus-widths shape line bytes stimulus e ∙ ap (λ (s : Shape). widths_of s.inputs) is ∙ widths-told aig.inputs

-- what a source gives what has this shape is what it gives the text
pub aig-given : (source : List ℕ) (said : Draft) (shape : Shape) (line : ℕ) (bytes : List ℕ) (r : Result InputVectors Fault) → shape ≡ text_shape said → line ≡ (cuts.parts_of source).first_line → bytes ≡ (cuts.parts_of source).stimulus
    → stimulus_of shape line bytes ≡ r → stimulus_in source said ≡ r
aig-given source said shape line bytes r is first rest given = sym (λ i. stimulus_of (is i) (first i) (rest i)) ∙ given

-- a run of the shape is too long, or isn't, where one of the text is
pub aig-long-as : (cycles : ℕ) (said : Draft) (shape : Shape) (long : Bool) → shape ≡ text_shape said → lengths.is_too_long cycles (length shape.registers) (length shape.rules) ≡ long → is_too_long cycles said ≡ long
aig-long-as cycles said shape long is h = sym (ap (λ (s : Shape). lengths.is_too_long cycles (length s.registers) (length s.rules)) is) ∙ h
