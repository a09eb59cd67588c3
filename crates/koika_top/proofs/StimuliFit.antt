-- A stimulus that a text gives has values of its inputs' widths in every cycle, and is the same wherever its lines are.
use Rattle.std.proofs.Common.{◌≡◌, ℕ, zero, suc, ◌<◌, ◌^◌, Bool, true, false, List, [], ◌∷◌, ◌++◌, length, get_or, Option, None, Some, Result, Ok, Err, refl, ap, subst, ◌∙◌, arith}
use Rattle.std.specs.Prelude.{All, if◌then◌else◌, nat_lt, slice_index}
use Rattle.std.specs.List.{AllByRecursion}
use Rattle.std.proofs.lemmas.Bool.{ltb-true}
use Rattle.std.proofs.lemmas.List.{length-map}
use Rattle.std.proofs.lemmas.List.Elements.{All-from_recursion, All-push}
use Rattle.std.proofs.lemmas.Option.{slice_get-get_or}
use Rattle.kw_base.specs.declared.fault.Fault.{Fault}
use Rattle.kw_base.specs.declared.place.Place.{Place}
use Rattle.kw_bits.specs.BitVector.{BitVector}
use Rattle.one_rule.specs.Stimulus.{AlwaysFits, Assignment, Assigns, InputVectors, inputs_by, inputs_of}
use Rattle.one_rule.proofs.Inputs.{inputs_by_fits}
use Rattle.stim_report.specs.Assignments.{assigned_by, assigned_to, assignment_of, input_by_name, is_assigned, name_and_number}
use Rattle.kw_base.specs.Texts.{is_blank, lines_of, words_from}
use Rattle.stim_report.specs.Shapes.{widths_of}
use Rattle.stim_report.specs.Stimuli.{after, at_place, cycles_from, line_from, line_of, next_line, place, stimulus_of}
use Rattle.stim_report.specs.declared.shape.NameWidth.{NameWidth}
use Rattle.stim_report.specs.declared.shape.Shape.{Shape}
use Rattle.stim_report.proofs.AssignmentsRead.{input_within}
use Rattle.typed_core.specs.Valid.{IsWidth}
use Rattle.typed_core.specs.Widths.{HaveWidths}

-- what follows a value has one
pub after-ok : {X Y E : Type 0} (r : Result X E) (f : X → Result Y E) (y : Y) → after r f ≡ Ok y → (x : X) × (r ≡ Ok x) × (f x ≡ Ok y)
after-ok (Ok x) f y e = (x, refl, e)
after-ok (Err z) f y e = absurd cc

place-ok : {X : Type 0} (p : Place) (r : Result X ℕ) (x : X) → at_place p r ≡ Ok x → r ≡ Ok x
place-ok p (Ok z) x e = let same : z ≡ x = cc in ap Ok same
place-ok p (Err n) x e = absurd cc

-- an assignment by whether its input has a value already, and whether its number is small enough
abbrev bounded : Bool → Bool → Assignment → Result Assignment ℕ
bounded b c a = if b then Err 30 else (if c then Ok a else Err 32)

module _ (inputs : List NameWidth) where
  -- ---- the number of a line is only in its faults

  line-free : (l m : ℕ) (line : List Assignment) (words : List (ℕ × List ℕ)) (out : List Assignment) → line_from inputs l line words ≡ Ok out → line_from inputs m line words ≡ Ok out
  line-free l m line [] out e = e
  line-free l m line (word ∷ words) out e =
      let found = after-ok (at_place (place l word.0) (assignment_of inputs line word.1)) (λ (a : Assignment). line_from inputs l (line ++ a ∷ []) words) out e in
      let is = place-ok (place l word.0) (assignment_of inputs line word.1) found.0 found.1 in
      ap (λ (r : Result Assignment ℕ). after (at_place (place m word.0) r) (λ (a : Assignment). line_from inputs m (line ++ a ∷ []) words)) is
      ∙ line-free l m (line ++ found.0 ∷ []) words out found.2

  pub cycles-free : (l m : ℕ) (lines : List (List ℕ)) (cycles : List (List BitVector)) → cycles_from inputs l lines ≡ Ok cycles → cycles_from inputs m lines ≡ Ok cycles
  unfolding line_of
  cycles-free l m [] cycles e = e
  cycles-free l m (line ∷ lines) cycles e =
      let rest : ℕ → List Assignment → Result (List (List BitVector)) Fault =
      λ k given. after (cycles_from inputs (next_line k) lines) (λ (cs : List (List BitVector)). Ok (inputs_by (widths_of inputs) given ∷ cs))
      in
      let found = after-ok (line_of inputs l line) (rest l) cycles e in
      let others = after-ok (cycles_from inputs (next_line l) lines) (λ (cs : List (List BitVector)). Ok (inputs_by (widths_of inputs) found.0 ∷ cs)) cycles found.2 in
      ap (λ (r : Result (List Assignment) Fault). after r (rest m)) (line-free l m [] (words_from is_blank 1 line) found.0 found.1)
      ∙ ap (λ (r : Result (List (List BitVector)) Fault). after r (λ (cs : List (List BitVector)). Ok (inputs_by (widths_of inputs) found.0 ∷ cs))) (cycles-free (next_line l) (next_line m) lines others.0 others.1)
      ∙ others.2

  -- ---- values fit

  module _ (all : All IsWidth (widths_of inputs)) where
    assigns : (line : List Assignment) (word : List ℕ) (a : Assignment) → assignment_of inputs line word ≡ Ok a → Assigns (widths_of inputs) a
    unfolding assignment_of
    assigns line word a e = by-parts (name_and_number word) e
      where
        by-bounds : (b c : Bool) (input number : ℕ) → input < length (widths_of inputs) → nat_lt number (2 ^ slice_index (widths_of inputs) input) ≡ c
            → bounded b c (input, record { width = slice_index (widths_of inputs) input; number = number }) ≡ Ok a → Assigns (widths_of inputs) a
        by-bounds true c input number within below e = absurd cc
        by-bounds false false input number within below e = absurd cc
        by-bounds false true input number within below e =
            let width = slice_index (widths_of inputs) input in
            let is = all input 0 within in
            let mine : Assignment = (input, record { width = width; number = number }) in
            let same : mine ≡ a = cc in
            subst (Assigns (widths_of inputs)) same
            (width, slice_get-get_or (widths_of inputs) input 0 within, (record { some_bit = is.0; no_wider = is.1; in_range = ltb-true number (2 ^ width) below }, refl))

        by-input : (o : Option ℕ) (name : List ℕ) (number : ℕ) → input_by_name inputs name ≡ o → assigned_to inputs line o number ≡ Ok a → Assigns (widths_of inputs) a
        by-input None name number found e = absurd cc
        by-input (Some input) name number found e =
            let d : NameWidth = record { name = []; width = 0 } in
            let within : input < length (widths_of inputs) = omega (arith, input_within inputs name input d found, length-map inputs (λ (one : NameWidth). one.width)) in
            by-bounds (is_assigned line input) (nat_lt number (2 ^ slice_index (widths_of inputs) input)) input number within refl e

        by-parts : (o : Option (List ℕ × ℕ)) → assigned_by inputs line o ≡ Ok a → Assigns (widths_of inputs) a
        by-parts None e = absurd cc
        by-parts (Some parts) e = by-input (input_by_name inputs parts.0) parts.0 parts.1 refl e

    line-fits : (l : ℕ) (line : List Assignment) (words : List (ℕ × List ℕ)) (out : List Assignment) → All (Assigns (widths_of inputs)) line → line_from inputs l line words ≡ Ok out → All (Assigns (widths_of inputs)) out
    line-fits l line [] out fit e = let same : line ≡ out = cc in subst (All (Assigns (widths_of inputs))) same fit
    line-fits l line (word ∷ words) out fit e =
        let found = after-ok (at_place (place l word.0) (assignment_of inputs line word.1)) (λ (a : Assignment). line_from inputs l (line ++ a ∷ []) words) out e in
        let is = place-ok (place l word.0) (assignment_of inputs line word.1) found.0 found.1 in
        line-fits l (line ++ found.0 ∷ []) words out (All-push (Assigns (widths_of inputs)) line found.0 fit (assigns line word.1 found.0 is)) found.2

    cycles-fit : (l : ℕ) (lines : List (List ℕ)) (cycles : List (List BitVector)) → cycles_from inputs l lines ≡ Ok cycles → AllByRecursion (HaveWidths (widths_of inputs)) cycles
    unfolding line_of
    cycles-fit l [] cycles e = let same : [] ≡ cycles = cc in subst (AllByRecursion (HaveWidths (widths_of inputs))) same tt
    cycles-fit l (line ∷ lines) cycles e =
        let rest : List Assignment → Result (List (List BitVector)) Fault =
        λ given. after (cycles_from inputs (next_line l) lines) (λ (cs : List (List BitVector)). Ok (inputs_by (widths_of inputs) given ∷ cs))
        in
        let found = after-ok (line_of inputs l line) rest cycles e in
        let others = after-ok (cycles_from inputs (next_line l) lines) (λ (cs : List (List BitVector)). Ok (inputs_by (widths_of inputs) found.0 ∷ cs)) cycles found.2 in
        let first = inputs_by (widths_of inputs) found.0 in
        let same : first ∷ others.0 ≡ cycles = cc (others.2) in
        let nothing : All (Assigns (widths_of inputs)) [] = All-from_recursion (Assigns (widths_of inputs)) [] tt in
        subst (AllByRecursion (HaveWidths (widths_of inputs))) same
        (inputs_by_fits (widths_of inputs) found.0 all (line-fits l [] (words_from is_blank 1 line) found.0 nothing found.1), cycles-fit (next_line l) lines others.0 others.1)

-- a stimulus that a text gives is the same whatever number its first line has
pub stimulus-free : (shape : Shape) (l m : ℕ) (text : List ℕ) (stimulus : InputVectors) → stimulus_of shape l text ≡ Ok stimulus → stimulus_of shape m text ≡ Ok stimulus
unfolding stimulus_of
stimulus-free shape l m text stimulus e =
    let make : List (List BitVector) → Result InputVectors Fault = λ cycles. Ok (record { widths = widths_of shape.inputs; cycles = cycles }) in
    let found = after-ok (cycles_from shape.inputs l (lines_of text)) make stimulus e in
    ap (λ (r : Result (List (List BitVector)) Fault). after r make) (cycles-free shape.inputs l m (lines_of text) found.0 found.1) ∙ found.2

entry-fits : (widths : List ℕ) (cycles : List (List BitVector)) (k : ℕ) (d : List BitVector) → AllByRecursion (HaveWidths widths) cycles → HaveWidths widths d → HaveWidths widths (get_or cycles k d)
entry-fits widths [] k d all none = none
entry-fits widths (cycle ∷ cycles) zero d all none = all.0
entry-fits widths (cycle ∷ cycles) (suc k) d all none = entry-fits widths cycles k d all.1 none

each-fits : (widths : List ℕ) (cycles : List (List BitVector)) (cycle : ℕ) → AllByRecursion (HaveWidths widths) cycles → HaveWidths widths (inputs_by widths []) → HaveWidths widths (inputs_of (record { widths = widths; cycles = cycles }) cycle)
unfolding inputs_of
each-fits widths cycles zero fit empty = empty
each-fits widths cycles (suc before) fit empty = entry-fits widths cycles before (inputs_by widths []) fit empty

-- it fits in every cycle
pub stimulus-always : (shape : Shape) (l : ℕ) (text : List ℕ) (stimulus : InputVectors) → All IsWidth (widths_of shape.inputs) → stimulus_of shape l text ≡ Ok stimulus → AlwaysFits stimulus
unfolding stimulus_of
stimulus-always shape l text stimulus all e cycle =
    let widths = widths_of shape.inputs in
    let make : List (List BitVector) → Result InputVectors Fault = λ cycles. Ok (record { widths = widths; cycles = cycles }) in
    let found = after-ok (cycles_from shape.inputs l (lines_of text)) make stimulus e in
    let mine : InputVectors = record { widths = widths; cycles = found.0 } in
    let same : mine ≡ stimulus = cc (found.2) in
    let nothing : All (Assigns widths) [] = All-from_recursion (Assigns widths) [] tt in
    let empty = inputs_by_fits widths [] all nothing in
    subst (λ (s : InputVectors). HaveWidths s.widths (inputs_of s cycle)) same (each-fits widths found.0 cycle (cycles-fit shape.inputs all l (lines_of text) found.0 found.1) empty)
