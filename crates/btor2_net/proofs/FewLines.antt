-- A text has at most one line more than bytes.
use Rattle.std.proofs.Common.{◌≡◌, ℕ, ◌≤◌, not, Bool, filter, List, [], ◌∷◌, Option, None, Some, length, refl, ap, ◌∙◌, arith, length-append}
use Rattle.std.specs.Prelude.{count_by}
use Rattle.std.specs.Option.{option_to_list}
use Rattle.std.proofs.lemmas.List.Filters.{length-filter_both}
use Rattle.std.proofs.lemmas.List.Splits.{length-slice_split}
use Rattle.std.proofs.lemmas.List.Sums.{length-filter}
use Rattle.kw_base.specs.Texts.{ends_line}
use Rattle.btor2_text.specs.Cut.{lines_of as cut_lines, number_after}
use Rattle.btor2_text.specs.Reading.{AreLines}
use Rattle.btor2_text.specs.declared.line.Line.{Line}
use Rattle.btor2_model.specs.Rules.{rule_of}
use Rattle.btor2_net.specs.Laws.{HaveFewLines}

at-most-one : (o : Option Line) → length (option_to_list o) ≤ 1
at-most-one None = omega arith
at-most-one (Some line) = omega arith

-- a filter keeps no more than there is
pub filter-fewer : {X : Type 0} (p : X → Bool) (xs : List X) → length (filter p xs) ≤ length xs
filter-fewer {X} p xs = omega (arith, length-filter_both p (λ (x : X). not (p x)) (λ x. refl) xs)

no-more : (number : ℕ) (texts : List (List ℕ)) (lines : List Line) → AreLines number texts lines → length lines ≤ length texts
no-more number [] lines are = let none : length lines ≡ 0 = ap length are in omega (arith, none)
no-more number (text ∷ texts) lines (read, others, parts, gives, rest) =
    let count = ap length parts ∙ length-append (option_to_list read) others in
    omega (arith, count, at-most-one read, no-more (number_after number) texts others rest)

pub count-fewer : (p : ℕ → Bool) (xs : List ℕ) → count_by p xs ≤ length xs
count-fewer p xs = omega (arith, length-filter p xs, filter-fewer p xs)

pub few-lines : HaveFewLines
few-lines test text lines are short =
    let cut = length-slice_split ends_line text in
    omega (arith, cut, count-fewer ends_line text, no-more 1 (cut_lines text) lines are, filter-fewer (λ (line : Line). test (rule_of line.keyword)) lines, short)
