-- One more mark is one more bad line.
use Rattle.std.proofs.Common.{◌≡◌, ℕ, ◌+◌, ◌<◌, List, [], ◌∷◌, ◌++◌, Option, Some, length, get_or, take, refl, sym, ap, ◌∙◌, arith, append_assoc, length-append}
use Rattle.std.specs.Prelude.{All, slice_get, slice_index_or}
use Rattle.std.specs.List.{cons_option}
use Rattle.std.proofs.lemmas.List.{take_more}
use Rattle.std.proofs.lemmas.List.Elements.{filter_map-append}
use Rattle.std.proofs.lemmas.Option.{slice_get-get_or}
use Rattle.btor2_text.specs.declared.line.Line.{Line}
use Rattle.koika_assert.specs.Bads.{bad_line, bad_lines, flag_lines, marked, with_bads}

bad_lines-append : (id : ℕ) (outputs more : List Line) → bad_lines id (outputs ++ more) ≡ bad_lines id outputs ++ bad_lines (id + length outputs) more
bad_lines-append id [] more = let same : id ≡ id + 0 = omega arith in ap (λ (k : ℕ). bad_lines k more) same
bad_lines-append id (output ∷ outputs) more =
    let same : (id + 1) + length outputs ≡ id + length (output ∷ outputs) = omega arith in
    ap (λ (ls : List Line). bad_line id output ∷ ls) (bad_lines-append (id + 1) outputs more ∙ ap (λ (k : ℕ). bad_lines (id + 1) outputs ++ bad_lines k more) same)

length-bad_lines : (id : ℕ) (outputs : List Line) → length (bad_lines id outputs) ≡ length outputs
length-bad_lines id [] = refl
length-bad_lines id (output ∷ outputs) = let rest = length-bad_lines (id + 1) outputs in omega (arith, rest)

one-more-bad : (lines : List Line) (marks : List ℕ) (place mark d : ℕ) (output : Line) → place < length marks → get_or marks place d ≡ mark → slice_get (flag_lines lines) mark ≡ Some output
    → with_bads lines (take (place + 1) marks) ≡ with_bads lines (take place marks) ++ bad_line (length (with_bads lines (take place marks)) + 1) output ∷ []
one-more-bad lines marks place mark d output within is at =
    let before = marked lines (take place marks) in
    let first = length lines + 1 in
    let picked : marked lines (take (place + 1) marks) ≡ before ++ output ∷ [] =
    ap (marked lines) (take_more marks place d within ∙ ap (λ (m : ℕ). take place marks ++ m ∷ []) is) ∙ filter_map-append (slice_get (flag_lines lines)) (take place marks) (mark ∷ [])
    ∙ ap (λ (o : Option Line). before ++ cons_option o []) at in
    let id : first + length before ≡ length (with_bads lines (take place marks)) + 1 = omega (arith, length-append lines (bad_lines first before), length-bad_lines first before) in
    ap (λ (ls : List Line). lines ++ bad_lines first ls) picked ∙ ap (λ (ls : List Line). lines ++ ls) (bad_lines-append first before (output ∷ []))
    ∙ ap (λ (k : ℕ). lines ++ (bad_lines first before ++ bad_line k output ∷ [])) id ∙ sym (append_assoc lines (bad_lines first before) (bad_line (length (with_bads lines (take place marks)) + 1) output ∷ []))

-- the same by what a step of the loop has
pub mark-more : (lines flags all new : List Line) (marks : List ℕ) (place : ℕ) (output : Line) → place < length marks → All (λ (mark : ℕ). mark < length (flag_lines lines)) marks → flags ≡ flag_lines lines
    → output ≡ slice_index_or flags (slice_index_or marks place 0) output → all ≡ with_bads lines (take place marks) → new ≡ all ++ bad_line (length all + 1) output ∷ []
    → new ≡ with_bads lines (take (place + 1) marks)
mark-more lines flags all new marks place output within few flags_are is so_far more =
    let mark = slice_index_or marks place 0 in
    let at : slice_get (flag_lines lines) mark ≡ Some output =
    slice_get-get_or (flag_lines lines) mark output (few place 0 within) ∙ ap Some (sym (is ∙ ap (λ (ls : List Line). slice_index_or ls mark output) flags_are)) in
    more ∙ ap (λ (ls : List Line). ls ++ bad_line (length ls + 1) output ∷ []) so_far ∙ sym (one-more-bad lines marks place mark 0 output within refl at)
