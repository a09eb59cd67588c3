-- Empty lines after those of a stimulus leave its inputs the same in every cycle.
use Rattle.std.proofs.Common.{◌≡◌, ℕ, zero, suc, List, [], ◌∷◌, ◌++◌, get_or, replicate, Result, Ok, refl, ap, ◌∙◌}
use Rattle.std.proofs.lemmas.List.{append-nil}
use Rattle.kw_base.specs.declared.fault.Fault.{Fault}
use Rattle.kw_bits.specs.BitVector.{BitVector}
use Rattle.one_rule.specs.Stimulus.{AreSame, Assignment, InputVectors, inputs_by, inputs_of}
use Rattle.kw_base.specs.Texts.{lines_of, words_from}
use Rattle.stim_report.specs.Shapes.{widths_of}
use Rattle.stim_report.specs.Stimuli.{after, cycles_from, line_of, next_line, stimulus_of}
use Rattle.stim_report.specs.declared.shape.NameWidth.{NameWidth}
use Rattle.stim_report.specs.declared.shape.Shape.{Shape}
use Rattle.koika_top.proofs.StimuliFit.{after-ok, cycles-free}

-- ---- cycles

module _ (inputs : List NameWidth) where
  -- the inputs of a line that assigns nothing
  abbrev zeros : List BitVector
  zeros = inputs_by (widths_of inputs) []

  -- an empty line assigns nothing
  empty-cycles : (number more : ℕ) → cycles_from inputs number (replicate more []) ≡ Ok (replicate more zeros)
  unfolding line_of words_from
  empty-cycles number zero = refl
  empty-cycles number (suc more) =
      ap (λ (r : Result (List (List BitVector)) Fault). after r (λ (cycles : List (List BitVector)). Ok (zeros ∷ cycles))) (empty-cycles (next_line number) more)

  -- empty lines after others give the cycles of those, and then zeros
  more-cycles : (number more : ℕ) (lines : List (List ℕ)) (cycles : List (List BitVector)) → cycles_from inputs number lines ≡ Ok cycles → cycles_from inputs number (lines ++ replicate more []) ≡ Ok (cycles ++ replicate more zeros)
  more-cycles number more [] cycles e =
      let same : [] ≡ cycles = cc in
      empty-cycles number more ∙ ap (λ (cs : List (List BitVector)). Ok (cs ++ replicate more zeros)) same
  more-cycles number more (line ∷ lines) cycles e =
      let with : List (List ℕ) → List Assignment → Result (List (List BitVector)) Fault =
      λ rest given. after (cycles_from inputs (next_line number) rest) (λ (cs : List (List BitVector)). Ok (inputs_by (widths_of inputs) given ∷ cs))
      in
      let found = after-ok (line_of inputs number line) (with lines) cycles e in
      let first = inputs_by (widths_of inputs) found.0 in
      let others = after-ok (cycles_from inputs (next_line number) lines) (λ (cs : List (List BitVector)). Ok (first ∷ cs)) cycles found.2 in
      let same : first ∷ others.0 ≡ cycles = cc (others.2) in
      ap (λ (r : Result (List Assignment) Fault). after r (with (lines ++ replicate more []))) found.1
      ∙ ap (λ (r : Result (List (List BitVector)) Fault). after r (λ (cs : List (List BitVector)). Ok (first ∷ cs))) (more-cycles (next_line number) more lines others.0 others.1)
      ∙ ap (λ (cs : List (List BitVector)). Ok (cs ++ replicate more zeros)) same

-- ---- inputs

-- the default at each place, where the list is empty or has it at each place
past-none : (more k : ℕ) (d : List BitVector) → d ≡ get_or (replicate more d) k d
past-none zero k d = refl
past-none (suc more) zero d = refl
past-none (suc more) (suc k) d = past-none more k d

-- the default after a list changes no place of it
past-some : (cycles : List (List BitVector)) (more k : ℕ) (d : List BitVector) → get_or cycles k d ≡ get_or (cycles ++ replicate more d) k d
past-some [] more k d = past-none more k d
past-some (cycle ∷ cycles) more zero d = refl
past-some (cycle ∷ cycles) more (suc k) d = past-some cycles more k d

-- the stimulus with that many more cycles, in which each input is 0
abbrev pub longer : ℕ → InputVectors → InputVectors
longer more s = record { widths = s.widths; cycles = s.cycles ++ replicate more (inputs_by s.widths []) }

-- it has the same inputs in every cycle
longer-inputs : (more : ℕ) (s : InputVectors) (cycle : ℕ) → inputs_of s cycle ≡ inputs_of (longer more s) cycle
unfolding inputs_of
longer-inputs more s zero = refl
longer-inputs more s (suc before) = past-some s.cycles more before (inputs_by s.widths [])

-- so it is the same stimulus by its widths and inputs
pub longer-same : (more : ℕ) (s : InputVectors) → AreSame s (longer more s)
longer-same more s = record { widths = refl; inputs = longer-inputs more s }

-- with no more cycles it is the stimulus itself
pub longer-equal : (more : ℕ) (s : InputVectors) → more ≡ 0 → longer more s ≡ s
longer-equal more s none =
    ap (λ (n : ℕ). longer n s) none ∙ ap (λ (cycles : List (List BitVector)). let with : InputVectors = record { widths = s.widths; cycles = cycles } in with) (append-nil s.cycles)

-- ---- texts

-- a text with these lines and more empty ones gives the stimulus with as many more cycles
pub longer-text : (shape : Shape) (l m more : ℕ) (text other : List ℕ) (s : InputVectors) → lines_of other ≡ lines_of text ++ replicate more [] → stimulus_of shape l text ≡ Ok s → stimulus_of shape m other ≡ Ok (longer more s)
unfolding stimulus_of
longer-text shape l m more text other s lines e =
    let make : List (List BitVector) → Result InputVectors Fault = λ cycles. Ok (record { widths = widths_of shape.inputs; cycles = cycles }) in
    let found = after-ok (cycles_from shape.inputs l (lines_of text)) make s e in
    let mine : InputVectors = record { widths = widths_of shape.inputs; cycles = found.0 } in
    let same : mine ≡ s = cc (found.2) in
    let read = more-cycles shape.inputs m more (lines_of text) found.0 (cycles-free shape.inputs l m (lines_of text) found.0 found.1) in
    ap (λ (ls : List (List ℕ)). after (cycles_from shape.inputs m ls) make) lines
    ∙ ap (λ (r : Result (List (List BitVector)) Fault). after r make) read
    ∙ ap (λ (t : InputVectors). Ok (longer more t)) same
