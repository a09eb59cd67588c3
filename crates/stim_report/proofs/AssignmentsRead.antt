-- What a word gives, by what was found of it.
use Rattle.std.proofs.Common.{◌≡◌, ℕ, zero, suc, ◌<◌, ◌^◌, Bool, true, false, List, [], ◌∷◌, length, get_or, Option, Some, None, Result, Ok, Err, refl, sym, ap, ◌∙◌, subst, arith}
use Rattle.std.specs.Prelude.{All, bytes_eq, if◌then◌else◌, nat_lt, option_and_then, option_map, slice_index}
use Rattle.std.proofs.lemmas.Bool.{ltb-true}
use Rattle.std.proofs.lemmas.List.{length-map}
use Rattle.std.proofs.lemmas.List.Quantifiers.{position-Some}
use Rattle.std.proofs.lemmas.Option.{slice_get-map, slice_get-get_or}
use Rattle.kw_bits.specs.BitVector.{BitVector}
use Rattle.kw_bits.specs.Laws.{HasWidth}
use Rattle.one_rule.specs.Stimulus.{Assignment, Assigns}
use Rattle.stim_report.specs.Assignments.{assigned, assigned_by, assigned_to, assignment_of, input_by_name, is_assigned, name_and_value, value_written}
use Rattle.typed_core.specs.Valid.{IsWidth}
use Rattle.stim_report.specs.Shapes.{widths_of}
use Rattle.stim_report.specs.declared.shape.NameWidth.{NameWidth}

-- it is no name and value
pub no_parts : (inputs : List NameWidth) (line : List Assignment) (word : List ℕ) → name_and_value word ≡ None → assignment_of inputs line word ≡ Err 30
unfolding assignment_of
no_parts inputs line word none =
    ap (λ (parts : Option (List ℕ × List ℕ)). assigned_by inputs line (option_and_then (λ (p : List ℕ × List ℕ). option_map (λ (n : ℕ). (p.0, n)) (value_written p.1)) parts)) none

some_parts : (inputs : List NameWidth) (line : List Assignment) (word name value : List ℕ) → name_and_value word ≡ Some (name, value)
    → assignment_of inputs line word ≡ assigned_by inputs line (option_map (λ (n : ℕ). (name, n)) (value_written value))
unfolding assignment_of
some_parts inputs line word name value is =
    ap (λ (parts : Option (List ℕ × List ℕ)). assigned_by inputs line (option_and_then (λ (p : List ℕ × List ℕ). option_map (λ (n : ℕ). (p.0, n)) (value_written p.1)) parts)) is

-- its value is no number
pub no_number : (inputs : List NameWidth) (line : List Assignment) (word name value : List ℕ) → name_and_value word ≡ Some (name, value) → value_written value ≡ None → assignment_of inputs line word ≡ Err 30
no_number inputs line word name value is none =
    some_parts inputs line word name value is ∙ ap (λ (o : Option ℕ). assigned_by inputs line (option_map (λ (n : ℕ). (name, n)) o)) none

some_number : (inputs : List NameWidth) (line : List Assignment) (word name value : List ℕ) (number : ℕ) → name_and_value word ≡ Some (name, value) → value_written value ≡ Some number
    → assignment_of inputs line word ≡ assigned_to inputs line (input_by_name inputs name) number
some_number inputs line word name value number is writes =
    some_parts inputs line word name value is ∙ ap (λ (o : Option ℕ). assigned_by inputs line (option_map (λ (n : ℕ). (name, n)) o)) writes

-- no input has its name
pub no_input : (inputs : List NameWidth) (line : List Assignment) (word name value : List ℕ) (number : ℕ) → name_and_value word ≡ Some (name, value) → value_written value ≡ Some number → input_by_name inputs name ≡ None
    → assignment_of inputs line word ≡ Err 31
no_input inputs line word name value number is writes none =
    some_number inputs line word name value number is writes ∙ ap (λ (o : Option ℕ). assigned_to inputs line o number) none

some_input : (inputs : List NameWidth) (line : List Assignment) (word name value : List ℕ) (number input : ℕ) → name_and_value word ≡ Some (name, value) → value_written value ≡ Some number → input_by_name inputs name ≡ Some input
    → assignment_of inputs line word ≡ assigned line input (slice_index (widths_of inputs) input) number
some_input inputs line word name value number input is writes found =
    some_number inputs line word name value number is writes ∙ ap (λ (o : Option ℕ). assigned_to inputs line o number) found

-- the line assigns the input before
pub given_twice : (inputs : List NameWidth) (line : List Assignment) (word name value : List ℕ) (number input : ℕ) → name_and_value word ≡ Some (name, value) → value_written value ≡ Some number → input_by_name inputs name ≡ Some input
    → is_assigned line input ≡ true → assignment_of inputs line word ≡ Err 30
given_twice inputs line word name value number input is writes found twice =
    let width = slice_index (widths_of inputs) input in
    some_input inputs line word name value number input is writes found
    ∙ ap (λ (b : Bool). if b then Err 30 else (if nat_lt number (2 ^ width) then Ok (input, record { width = width; number = number }) else Err 32)) twice

abbrev pub chosen : ℕ → ℕ → Option BitVector
chosen width number = if nat_lt number (2 ^ width) then Some (record { width = width; number = number }) else None

abbrev fitted : ℕ → ℕ → ℕ → Option BitVector → Result Assignment ℕ
fitted input width number None = Err 32
fitted input width number (Some bits) = Ok (input, bits)

-- it is given once: its value fits or is too wide
given_once : (inputs : List NameWidth) (line : List Assignment) (word name value : List ℕ) (number input width : ℕ) (bits : Option BitVector) → name_and_value word ≡ Some (name, value) → value_written value ≡ Some number
    → input_by_name inputs name ≡ Some input → is_assigned line input ≡ false → width ≡ slice_index (widths_of inputs) input
    → bits ≡ chosen width number → assignment_of inputs line word ≡ fitted input width number bits
given_once inputs line word name value number input width bits is writes found once w fits =
    some_input inputs line word name value number input is writes found
    ∙ ap (λ (b : Bool). if b then Err 30 else (if nat_lt number (2 ^ slice_index (widths_of inputs) input) then Ok (input, record { width = slice_index (widths_of inputs) input; number = number }) else Err 32)) once
    ∙ ap (λ (x : ℕ). if nat_lt number (2 ^ x) then Ok (input, record { width = x; number = number }) else Err 32) (sym w)
    ∙ by_test (nat_lt number (2 ^ width))
    ∙ ap (fitted input width number) (sym fits)
  where
    by_test : (b : Bool) → (if b then Ok (input, record { width = width; number = number }) else Err 32) ≡ fitted input width number (if b then Some (record { width = width; number = number }) else None)
    by_test true = refl
    by_test false = refl

pub given_fits : (inputs : List NameWidth) (line : List Assignment) (word name value : List ℕ) (number input width : ℕ) (bits : BitVector) → name_and_value word ≡ Some (name, value) → value_written value ≡ Some number
    → input_by_name inputs name ≡ Some input → is_assigned line input ≡ false → width ≡ slice_index (widths_of inputs) input
    → Some bits ≡ chosen width number → Ok (input, bits) ≡ assignment_of inputs line word
given_fits inputs line word name value number input width bits is writes found once w fits = sym (given_once inputs line word name value number input width (Some bits) is writes found once w fits)

pub given_too_wide : (inputs : List NameWidth) (line : List Assignment) (word name value : List ℕ) (number input width : ℕ) → name_and_value word ≡ Some (name, value) → value_written value ≡ Some number
    → input_by_name inputs name ≡ Some input → is_assigned line input ≡ false → width ≡ slice_index (widths_of inputs) input
    → None ≡ chosen width number → Err 32 ≡ assignment_of inputs line word
given_too_wide inputs line word name value number input width is writes found once w fits = sym (given_once inputs line word name value number input width None is writes found once w fits)

-- the width of an input
pub input_within : (inputs : List NameWidth) (name : List ℕ) (input : ℕ) (d : NameWidth) → input_by_name inputs name ≡ Some input → input < length inputs
input_within inputs name input d found = (position-Some (λ (i : NameWidth). bytes_eq name i.name) inputs input d found).0

pub width_is : (inputs : List NameWidth) (input : ℕ) (d : NameWidth) → input < length inputs → (get_or inputs input d).width ≡ slice_index (widths_of inputs) input
width_is [] input d h = absurd (omega (arith, h))
width_is (first ∷ inputs) zero d h = refl
width_is (first ∷ inputs) (suc input) d h = width_is inputs input d (omega (arith, h))

pub width_at : (inputs : List NameWidth) (input : ℕ) (d : NameWidth) → input < length inputs → All IsWidth (widths_of inputs) → IsWidth (get_or inputs input d).width
width_at inputs input d h all =
    let P : ℕ → Type 0 = λ n. IsWidth n in
    subst P (sym (width_is inputs input d h)) (all input 0 (omega (arith, h, length-map inputs (λ (one : NameWidth). one.width))))

chosen_fits : (bits : BitVector) (width number : ℕ) (b : Bool) → nat_lt number (2 ^ width) ≡ b → IsWidth width → Some bits ≡ (if b then Some (record { width = width; number = number }) else None) → HasWidth bits width
chosen_fits bits width number true below is chosen =
    let same : bits ≡ record { width = width; number = number } = some_same bits (record { width = width; number = number }) chosen in
    subst (λ (v : BitVector). HasWidth v width) (sym same) (record { some_bit = is.0; no_wider = is.1; in_range = ltb-true number (2 ^ width) below }, refl)
  where
    some_same : (x y : BitVector) → Some x ≡ Some y → x ≡ y
    some_same x y e = cc
chosen_fits bits width number false below is chosen = absurd cc

pub assigns_input : (inputs : List NameWidth) (name : List ℕ) (input number : ℕ) (d : NameWidth) (bits : BitVector) → input_by_name inputs name ≡ Some input → All IsWidth (widths_of inputs)
    → Some bits ≡ (if nat_lt number (2 ^ (get_or inputs input d).width) then Some (record { width = (get_or inputs input d).width; number = number }) else None) → Assigns (widths_of inputs) (input, bits)
assigns_input inputs name input number d bits found all chosen =
    let within = input_within inputs name input d found in
    let width = (get_or inputs input d).width in (
      width,
      slice_get-map (λ (one : NameWidth). one.width) inputs input ∙ ap (option_map (λ (one : NameWidth). one.width)) (slice_get-get_or inputs input d within),
      chosen_fits bits width number (nat_lt number (2 ^ width)) refl (width_at inputs input d within all) chosen,
    )
