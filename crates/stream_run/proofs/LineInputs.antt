-- The inputs that a line gives, read as a stimulus of one line.
use Rattle.std.proofs.Common.{◌≡◌, ℕ, ◌≤◌, List, [], ◌∷◌, length, Result, Ok, Err, refl, sym, ap, ◌∙◌}
use Rattle.kw_base.specs.declared.fault.Fault.{Fault}
use Rattle.kw_bits.specs.BitVector.{BitVector}
use Rattle.one_rule.specs.Stimulus.{Assignment, InputVectors, inputs_by, inputs_of}
use Rattle.kw_base.specs.Texts.{lines_of, without_return, words_from}
use Rattle.stim_report.specs.Shapes.{widths_of}
use Rattle.stim_report.specs.Stimuli.{after, cycles_from, line_of, stimulus_of}
use Rattle.stim_report.specs.declared.shape.NameWidth.{NameWidth}
use Rattle.stim_report.specs.declared.shape.Shape.{Shape}
use Rattle.kw_base.proofs.Cutting.{lines_of-last, lines_of-nil, words_from-nil}
use Rattle.front_end.specs.Sources.{longest_source}
use Rattle.stream_run.specs.Lines.{inputs_on, most_cycles}
use Rattle.stream_run.specs.inner.Reading.{IsOneLine}
use Rattle.stream_run.proofs.Coming.{inputs-read}
use Rattle.stream_run.proofs.Heads.{pieces-one}

-- the values that assignments give, and the stimulus that has them alone
abbrev given : List NameWidth → Result (List Assignment) Fault → Result (List BitVector) Fault
given inputs r = after r (λ (line : List Assignment). Ok (inputs_by (widths_of inputs) line))

abbrev alone : List NameWidth → Result (List Assignment) Fault → Result InputVectors Fault
alone inputs r =
    after (after r (λ (line : List Assignment). after (Ok []) (λ (cycles : List (List BitVector)). Ok (inputs_by (widths_of inputs) line ∷ cycles))))
    (λ (cycles : List (List BitVector)). Ok (record { widths = widths_of inputs; cycles = cycles }))

given-ok : (inputs : List NameWidth) (r : Result (List Assignment) Fault) (stimulus : InputVectors) → alone inputs r ≡ Ok stimulus → given inputs r ≡ Ok (inputs_of stimulus 1)
unfolding inputs_of
given-ok inputs (Ok line) stimulus is =
    let same : record { widths = widths_of inputs; cycles = inputs_by (widths_of inputs) line ∷ [] } ≡ stimulus = cc in
    ap (λ (s : InputVectors). Ok (inputs_of s 1)) same
given-ok inputs (Err fault) stimulus is = absurd cc

given-err : (inputs : List NameWidth) (r : Result (List Assignment) Fault) (fault : Fault) → alone inputs r ≡ Err fault → given inputs r ≡ Err fault
given-err inputs (Ok line) fault is = absurd cc
given-err inputs (Err other) fault is = let same : other ≡ fault = cc in ap (λ (f : Fault). Err f) same

-- no line assigns nothing
none-given : (inputs : List NameWidth) (number : ℕ) → line_of inputs number [] ≡ Ok []
unfolding line_of words_from
none-given inputs number = refl

pub stimulus-none : (shape : Shape) (number : ℕ) → stimulus_of shape number [] ≡ Ok (record { widths = widths_of shape.inputs; cycles = [] })
unfolding stimulus_of
stimulus-none shape number = ap (λ (lines : List (List ℕ)). after (cycles_from shape.inputs number lines) (λ (cycles : List (List BitVector)). Ok (record { widths = widths_of shape.inputs; cycles = cycles }))) lines_of-nil

stimulus-one : (shape : Shape) (number b : ℕ) (line : List ℕ) → IsOneLine (b ∷ line) → stimulus_of shape number (b ∷ line) ≡ alone shape.inputs (line_of shape.inputs number (without_return (b ∷ line)))
unfolding stimulus_of
stimulus-one shape number b line one =
    ap (λ (lines : List (List ℕ)). after (cycles_from shape.inputs number lines) (λ (cycles : List (List BitVector)). Ok (record { widths = widths_of shape.inputs; cycles = cycles })))
    (lines_of-last (b ∷ line) (b ∷ line) (pieces-one (b ∷ line) one) (λ none. absurd cc))

-- an empty line gives what no line gives
none-of : (inputs : List NameWidth) → inputs_of (record { widths = widths_of inputs; cycles = [] }) 1 ≡ inputs_by (widths_of inputs) []
unfolding inputs_of
none-of inputs = refl

module _ (shape : Shape) (number : ℕ) where
  pub read-ok : (line : List ℕ) (stimulus : InputVectors) → IsOneLine line → stimulus_of shape number line ≡ Ok stimulus → given shape.inputs (line_of shape.inputs number (without_return line)) ≡ Ok (inputs_of stimulus 1)
  read-ok [] stimulus one is =
      let both : Ok (record { widths = widths_of shape.inputs; cycles = [] }) ≡ Ok stimulus = sym (stimulus-none shape number) ∙ is in
      let same : record { widths = widths_of shape.inputs; cycles = [] } ≡ stimulus = cc in
      ap (given shape.inputs) (none-given shape.inputs number) ∙ ap (λ (values : List BitVector). Ok values) (sym (none-of shape.inputs)) ∙ ap (λ (s : InputVectors). Ok (inputs_of s 1)) same
  read-ok (b ∷ line) stimulus one is =
      given-ok shape.inputs (line_of shape.inputs number (without_return (b ∷ line))) stimulus (sym (stimulus-one shape number b line one) ∙ is)

  pub read-err : (line : List ℕ) (fault : Fault) → IsOneLine line → stimulus_of shape number line ≡ Err fault → given shape.inputs (line_of shape.inputs number (without_return line)) ≡ Err fault
  read-err [] fault one is = let bad : ◌≡◌ {A = Result InputVectors Fault} (Ok (record { widths = widths_of shape.inputs; cycles = [] })) (Err fault) = sym (stimulus-none shape number) ∙ is in absurd cc
  read-err (b ∷ line) fault one is =
      given-err shape.inputs (line_of shape.inputs number (without_return (b ∷ line))) fault (sym (stimulus-one shape number b line one) ∙ is)

  -- the same of a line that isn't too long, in a cycle that a session may have
  pub line-ok : (cycle : ℕ) (line : List ℕ) (stimulus : InputVectors) → IsOneLine line → length line ≤ longest_source → cycle ≤ most_cycles → stimulus_of shape number line ≡ Ok stimulus
      → inputs_on shape.inputs cycle number line ≡ Ok (inputs_of stimulus 1)
  line-ok cycle line stimulus one short few is = inputs-read shape.inputs cycle number line short few ∙ read-ok line stimulus one is

  pub line-err : (cycle : ℕ) (line : List ℕ) (fault : Fault) → IsOneLine line → length line ≤ longest_source → cycle ≤ most_cycles → stimulus_of shape number line ≡ Err fault
      → inputs_on shape.inputs cycle number line ≡ Err fault
  line-err cycle line fault one short few is = inputs-read shape.inputs cycle number line short few ∙ read-err line fault one is
