-- A line read word by word, and a text read line by line.
use Rattle.std.proofs.Common.{◌≡◌, ℕ, ◌+◌, List, [], ◌∷◌, ◌++◌, length, append_assoc, append-nil, Result, Ok, Err, refl, sym, ap, ap₂, ◌∙◌, arith}
use Rattle.kw_base.specs.Fault.{IfFault}
use Rattle.kw_base.specs.declared.fault.Fault.{Fault}
use Rattle.kw_base.specs.declared.fault.Refusal.{Refusal}
use Rattle.kw_base.specs.declared.fault.Refusal.TheVariants as refusals
use Rattle.kw_base.specs.declared.place.Place.{Place}
use Rattle.kw_bits.specs.BitVector.{BitVector}
use Rattle.one_rule.specs.Stimulus.{Assignment, InputVectors, inputs_by}
use Rattle.stim_report.specs.Assignments.{assignment_of}
use Rattle.kw_base.specs.Texts.{is_blank, lines_of, words_from}
use Rattle.stim_report.specs.inner.Reading.{ReadsWord}
use Rattle.stim_report.specs.Shapes.{widths_of}
use Rattle.stim_report.specs.Stimuli.{after, at_place, cycles_from, line_from, line_of, next_line, place, stimulus_of}
use Rattle.stim_report.specs.declared.shape.NameWidth.{NameWidth}
use Rattle.stim_report.specs.declared.shape.Shape.{Shape}

-- what a word gives, and what follows
word_first : (inputs : List NameWidth) (number : ℕ) (line : List Assignment) (column start : ℕ) (word rest behind : List ℕ) (at : Place) (r : Result Assignment Fault)
    → words_from is_blank column rest ≡ (start, word) ∷ words_from is_blank (start + length word) behind → at ≡ place number start → at_place at (assignment_of inputs line word) ≡ r
    → line_from inputs number line (words_from is_blank column rest) ≡ after r (λ (a : Assignment). line_from inputs number (line ++ a ∷ []) (words_from is_blank (start + length word) behind))
word_first inputs number line column start word rest behind at r cut is reads =
    ap (line_from inputs number line) cut
    ∙ ap (λ (res : Result Assignment Fault). after res (λ (a : Assignment). line_from inputs number (line ++ a ∷ []) (words_from is_blank (start + length word) behind)))
    (ap (λ (p : Place). at_place p (assignment_of inputs line word)) (sym is) ∙ reads)

pub line_more : (inputs : List NameWidth) (number : ℕ) (line new : List Assignment) (column blanks : ℕ) (word rest behind : List ℕ) (at : Place) (a : Assignment) (whole : Result (List Assignment) Fault)
    → words_from is_blank column rest ≡ (column + blanks, word) ∷ words_from is_blank (column + blanks + length word) behind → at ≡ place number (column + blanks) → at_place at (assignment_of inputs line word) ≡ Ok a → new ≡ line ++ a ∷ []
    → line_from inputs number line (words_from is_blank column rest) ≡ whole → line_from inputs number new (words_from is_blank (column + (blanks + length word)) behind) ≡ whole
line_more inputs number line new column blanks word rest behind at a whole cut is reads more left =
    let e : column + (blanks + length word) ≡ column + blanks + length word = omega arith in
    ap₂ (λ (l : List Assignment) (n : ℕ). line_from inputs number l (words_from is_blank n behind)) more e
    ∙ sym (word_first inputs number line column (column + blanks) word rest behind at (Ok a) cut is reads) ∙ left

pub line_fault : (inputs : List NameWidth) (number : ℕ) (line : List Assignment) (column blanks : ℕ) (word rest behind bytes : List ℕ) (at : Place) (fault : Fault)
    → words_from is_blank column rest ≡ (column + blanks, word) ∷ words_from is_blank (column + blanks + length word) behind → at ≡ place number (column + blanks) → at_place at (assignment_of inputs line word) ≡ Err fault
    → line_from inputs number line (words_from is_blank column rest) ≡ line_from inputs number [] (words_from is_blank 1 bytes) → line_of inputs number bytes ≡ Err fault
unfolding line_of
line_fault inputs number line column blanks word rest behind bytes at fault cut is reads left =
    sym left ∙ word_first inputs number line column (column + blanks) word rest behind at (Err fault) cut is reads

pub line_end : (inputs : List NameWidth) (number : ℕ) (line : List Assignment) (column : ℕ) (rest bytes : List ℕ) → words_from is_blank column rest ≡ []
    → line_from inputs number line (words_from is_blank column rest) ≡ line_from inputs number [] (words_from is_blank 1 bytes) → line_of inputs number bytes ≡ Ok line
unfolding line_of
line_end inputs number line column rest bytes none left = sym left ∙ ap (line_from inputs number line) none

line_first : (inputs : List NameWidth) (number : ℕ) (rest line behind : List ℕ) (r : Result (List Assignment) Fault) → lines_of rest ≡ line ∷ lines_of behind → line_of inputs number line ≡ r
    → cycles_from inputs number (lines_of rest)
    ≡ after r (λ (given : List Assignment). after (cycles_from inputs (next_line number) (lines_of behind)) (λ (cycles : List (List BitVector)). Ok (inputs_by (widths_of inputs) given ∷ cycles)))
line_first inputs number rest line behind r cut reads =
    ap (cycles_from inputs number) cut
    ∙ ap (λ (res : Result (List Assignment) Fault). after res (λ (given : List Assignment). after (cycles_from inputs (next_line number) (lines_of behind)) (λ (cycles : List (List BitVector)). Ok (inputs_by (widths_of inputs) given ∷ cycles)))) reads

one_more : (front : List (List BitVector)) (one : List BitVector) (r : Result (List (List BitVector)) Fault)
    → after (after r (λ (cycles : List (List BitVector)). Ok (one ∷ cycles))) (λ (cycles : List (List BitVector)). Ok (front ++ cycles)) ≡ after r (λ (cycles : List (List BitVector)). Ok ((front ++ one ∷ []) ++ cycles))
one_more front one (Ok cycles) = ap Ok (sym (append_assoc front (one ∷ []) cycles))
one_more front one (Err fault) = refl

pub cycles_more : (inputs : List NameWidth) (number next : ℕ) (rest line behind : List ℕ) (given : List Assignment) (front new : List (List BitVector)) (whole : Result (List (List BitVector)) Fault)
    → lines_of rest ≡ line ∷ lines_of behind → line_of inputs number line ≡ Ok given → next ≡ next_line number → new ≡ front ++ inputs_by (widths_of inputs) given ∷ []
    → after (cycles_from inputs number (lines_of rest)) (λ (cycles : List (List BitVector)). Ok (front ++ cycles)) ≡ whole
    → after (cycles_from inputs next (lines_of behind)) (λ (cycles : List (List BitVector)). Ok (new ++ cycles)) ≡ whole
cycles_more inputs number next rest line behind given front new whole cut reads is more left =
    ap₂ (λ (n : ℕ) (cs : List (List BitVector)). after (cycles_from inputs n (lines_of behind)) (λ (cycles : List (List BitVector)). Ok (cs ++ cycles))) is more
    ∙ sym (one_more front (inputs_by (widths_of inputs) given) (cycles_from inputs (next_line number) (lines_of behind)))
    ∙ sym (ap (λ (r : Result (List (List BitVector)) Fault). after r (λ (cycles : List (List BitVector)). Ok (front ++ cycles))) (line_first inputs number rest line behind (Ok given) cut reads))
    ∙ left

pub cycles_fault : (shape : Shape) (first number : ℕ) (bytes rest line behind : List ℕ) (fault : Fault) (front : List (List BitVector)) → lines_of rest ≡ line ∷ lines_of behind → line_of shape.inputs number line ≡ Err fault
    → after (cycles_from shape.inputs number (lines_of rest)) (λ (cycles : List (List BitVector)). Ok (front ++ cycles)) ≡ cycles_from shape.inputs first (lines_of bytes)
    → stimulus_of shape first bytes ≡ Err fault
unfolding stimulus_of
cycles_fault shape first number bytes rest line behind fault front cut reads left =
    ap (λ (r : Result (List (List BitVector)) Fault). after r (λ (cycles : List (List BitVector)). Ok (record { widths = widths_of shape.inputs; cycles = cycles })))
    (sym left ∙ ap (λ (r : Result (List (List BitVector)) Fault). after r (λ (cycles : List (List BitVector)). Ok (front ++ cycles))) (line_first shape.inputs number rest line behind (Err fault) cut reads))

pub cycles_end : (shape : Shape) (first number : ℕ) (bytes rest : List ℕ) (s : InputVectors) → lines_of rest ≡ [] → s.widths ≡ widths_of shape.inputs
    → after (cycles_from shape.inputs number (lines_of rest)) (λ (cycles : List (List BitVector)). Ok (s.cycles ++ cycles)) ≡ cycles_from shape.inputs first (lines_of bytes)
    → stimulus_of shape first bytes ≡ Ok s
unfolding stimulus_of
cycles_end shape first number bytes rest s none widths left =
    ap (λ (r : Result (List (List BitVector)) Fault). after r (λ (cycles : List (List BitVector)). Ok (record { widths = widths_of shape.inputs; cycles = cycles })))
    (sym left ∙ ap (λ (lines : List (List ℕ)). after (cycles_from shape.inputs number lines) (λ (cycles : List (List BitVector)). Ok (s.cycles ++ cycles))) none ∙ ap Ok (append-nil s.cycles))
    ∙ ap (λ (ws : List ℕ). Ok (record { widths = ws; cycles = s.cycles })) (sym widths)

pub begins_empty : (r : Result (List (List BitVector)) Fault) → after r (λ (cycles : List (List BitVector)). Ok ([] ++ cycles)) ≡ r
begins_empty (Ok cycles) = refl
begins_empty (Err fault) = refl

-- a fault that a word has is the line's, and one that a line has is the text's
pub word_faults : (e : Refusal) (wanted : Result Assignment Fault) (old new : List Assignment) (whole : Result (List Assignment) Fault) → ReadsWord (Err e) wanted old new
    → ((fault : Fault) → wanted ≡ Err fault → whole ≡ Err fault) → IfFault {X = ℕ} (Err e) (λ fault. whole ≡ Err fault)
word_faults (refusals.Fault fault) wanted old new whole reads passes = passes fault reads
word_faults refusals.NoMemory wanted old new whole reads passes = tt

pub faults_pass : (e : Refusal) (one : Result (List Assignment) Fault) (whole : Result InputVectors Fault) → IfFault {X = ℕ} (Err e) (λ fault. one ≡ Err fault)
    → ((fault : Fault) → one ≡ Err fault → whole ≡ Err fault) → IfFault {X = ℕ} (Err e) (λ fault. whole ≡ Err fault)
faults_pass (refusals.Fault fault) one whole reads passes = passes fault reads
faults_pass refusals.NoMemory one whole reads passes = tt
