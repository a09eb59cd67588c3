-- How long the lexemes are that begin with a decimal digit: numbers and literals.
use Rattle.std.proofs.Common.{◌≡◌, ◌≢◌, ℕ, suc, ◌+◌, ◌≤◌, ◌==◌, cond, List, [], ◌∷◌, ◌++◌, length, length-append, get_or, drop, refl, sym, ap, ◌∙◌, subst, arith, ⊎_elim}
use Rattle.std.specs.Char.{is_digit}
use Rattle.std.specs.List.{prefix_len}
use Rattle.std.specs.Str.Parse.{IsNumeral, AllDigits}
use Rattle.std.proofs.lemmas.List.{append_assoc}
use Rattle.koika_syntax.specs.Lexemes.{LexemeKind, HasKind, letter_of, radix_of}
use Rattle.koika_syntax.specs.declared.literal.Base.{Base}
use Rattle.koika_syntax.specs.declared.literal.Base.TheVariants as bases
use Rattle.koika_syntax.proofs.Longest.{NoneLonger, NoneLonger-from_family}
use Rattle.koika_syntax.proofs.Runs.{length-le-prefix_len, prefix_len-append-cons, list_all-from_digits}
use Rattle.koika_syntax.proofs.LexemeKinds.{family, family_at, family-digit}

-- what follows the apostrophe of a literal, whole or broken off: nothing, or a base and digits
pub data IsTail : List ℕ → Type 0 where
  broken : IsTail []
  going : (base : Base) (value : List ℕ) → AllDigits (radix_of base) value → IsTail (letter_of base ∷ value)

base_at : ℕ → Base
base_at letter = cond (letter == 98) bases.Binary (cond (letter == 100) bases.Decimal bases.Hexadecimal)

base_at-letter_of : (base : Base) → base_at (letter_of base) ≡ base
unfolding base_at
base_at-letter_of bases.Binary = refl
base_at-letter_of bases.Decimal = refl
base_at-letter_of bases.Hexadecimal = refl

-- a letter names one base
pub same_base : (a b : Base) → letter_of a ≡ letter_of b → a ≡ b
same_base a b same = sym (base_at-letter_of a) ∙ ap base_at same ∙ base_at-letter_of b

-- two lists are cut at one place in one way
pub same_cut : (xs us ys vs : List ℕ) → length xs ≡ length us → xs ++ ys ≡ us ++ vs → (xs ≡ us) × (ys ≡ vs)
same_cut [] [] ys vs same whole = (refl, whole)
same_cut [] (u ∷ us) ys vs same whole = absurd (omega (arith, same))
same_cut (x ∷ xs) [] ys vs same whole = absurd (omega (arith, same))
same_cut (x ∷ xs) (u ∷ us) ys vs same whole =
    let first : x ≡ u = ap (λ l. get_or l 0 0) whole in
    let rest = same_cut xs us ys vs (omega (arith, same)) (ap (drop 1) whole) in
    ((λ i. first i ∷ rest.0 i), rest.1)

-- the digits before an apostrophe
pub digits_run : (width tail : List ℕ) → AllDigits 10 width → prefix_len (λ b. is_digit b 10) (width ++ 39 ∷ tail) ≡ length width
digits_run width tail digits = prefix_len-append-cons (λ b. is_digit b 10) width 39 tail (list_all-from_digits 10 width digits) refl

-- the digits before an apostrophe are those that the text begins with
run_split : (digits behind width tail : List ℕ) → prefix_len (λ b. is_digit b 10) (digits ++ behind) ≡ length digits → AllDigits 10 width → digits ++ behind ≡ width ++ 39 ∷ tail → (digits ≡ width) × (behind ≡ 39 ∷ tail)
run_split digits behind width tail run numeral whole =
    same_cut digits width behind (39 ∷ tail) (sym run ∙ ap (prefix_len (λ b. is_digit b 10)) whole ∙ digits_run width tail numeral) whole

module _ (d : ℕ) (digits behind : List ℕ) (most : ℕ) (numeral : AllDigits 10 (d ∷ digits))
    (run : prefix_len (λ b. is_digit b 10) ((d ∷ digits) ++ behind) ≡ length (d ∷ digits))
    (number : length (d ∷ digits) ≤ most)
    (tails : (tail rest : List ℕ) → behind ≡ 39 ∷ tail ++ rest → IsTail tail → length (d ∷ digits) + suc (length tail) ≤ most) where
  tail_within : (width tail bytes rest : List ℕ) → IsNumeral 10 width → bytes ≡ width ++ 39 ∷ tail → IsTail tail → (d ∷ digits) ++ behind ≡ bytes ++ rest → length bytes ≤ most
  tail_within width tail bytes rest has_width text is_tail whole =
      let regrouped : (d ∷ digits) ++ behind ≡ width ++ 39 ∷ (tail ++ rest) = whole ∙ ap (λ l. l ++ rest) text ∙ append_assoc width (39 ∷ tail) rest in
      let parts = run_split (d ∷ digits) behind width (tail ++ rest) run has_width.1 regrouped in
      let bound = tails tail rest parts.1 is_tail in
      let width_length : length (d ∷ digits) ≡ length width = ap length parts.0 in
      omega (arith, bound, width_length, ap length text, length-append width (39 ∷ tail))

  by_kind : (kind : LexemeKind) (bytes rest : List ℕ) → family_at d ≡ family kind → d ∷ (digits ++ behind) ≡ (d ∷ bytes) ++ rest → HasKind kind (d ∷ bytes) → length (d ∷ bytes) ≤ most
  by_kind LexemeKind.blank bytes rest same whole has = let e : LexemeKind.number ≡ LexemeKind.blank = sym (family-digit d numeral.0) ∙ same in cc
  by_kind LexemeKind.comment bytes rest same whole has = let e : LexemeKind.number ≡ LexemeKind.comment = sym (family-digit d numeral.0) ∙ same in cc
  by_kind LexemeKind.word bytes rest same whole has = let e : LexemeKind.number ≡ LexemeKind.word = sym (family-digit d numeral.0) ∙ same in cc
  by_kind LexemeKind.symbol bytes rest same whole has = let e : LexemeKind.number ≡ LexemeKind.symbol = sym (family-digit d numeral.0) ∙ same in cc
  by_kind LexemeKind.number bytes rest same whole has =
      let within = length-le-prefix_len (λ b. is_digit b 10) (d ∷ bytes) rest (list_all-from_digits 10 (d ∷ bytes) has.1) in
      omega (arith, within, ap (prefix_len (λ b. is_digit b 10)) whole, run, number)
  by_kind LexemeKind.literal bytes rest same whole (parts, literal) =
      tail_within parts.width (letter_of parts.base ∷ parts.value) (d ∷ bytes) rest literal.width literal.text (going parts.base parts.value literal.value.1) whole
  by_kind LexemeKind.unfinished bytes rest same whole (width, has_width, broken_off) =
      ⊎_elim
      (λ text. tail_within width [] (d ∷ bytes) rest has_width text broken whole)
      (λ text. tail_within width (letter_of text.0 ∷ []) (d ∷ bytes) rest has_width text.1 (going text.0 [] tt) whole)
      broken_off

  -- a number or a literal goes as far as its digits, or as far as its tail
  none_longer : NoneLonger ((d ∷ digits) ++ behind) most
  none_longer = NoneLonger-from_family d (digits ++ behind) most by_kind

pub NoneLonger-digits : (digits behind : List ℕ) (most : ℕ) → IsNumeral 10 digits
    → prefix_len (λ b. is_digit b 10) (digits ++ behind) ≡ length digits → length digits ≤ most
    → ((tail rest : List ℕ) → behind ≡ 39 ∷ tail ++ rest → IsTail tail → length digits + suc (length tail) ≤ most)
    → NoneLonger (digits ++ behind) most
NoneLonger-digits [] behind most numeral run number tails = absurd (omega (arith, numeral.0))
NoneLonger-digits (d ∷ digits) behind most numeral run number tails = none_longer d digits behind most numeral.1 run number tails

-- digits that no apostrophe follows
pub NoneLonger-number : (digits behind : List ℕ) → IsNumeral 10 digits → prefix_len (λ b. is_digit b 10) (digits ++ behind) ≡ length digits
    → ((tail : List ℕ) → behind ≢ 39 ∷ tail) → NoneLonger (digits ++ behind) (length digits)
NoneLonger-number digits behind numeral run other =
    NoneLonger-digits digits behind (length digits) numeral run (omega arith) (λ tail rest split is_tail. absurd (other (tail ++ rest) split))

-- digits and an apostrophe that no base follows
pub NoneLonger-no_base : (width tail : List ℕ) → IsNumeral 10 width → ((base : Base) (more : List ℕ) → tail ≢ letter_of base ∷ more) → NoneLonger (width ++ 39 ∷ tail) (length width + 1)
NoneLonger-no_base width tail numeral other =
    NoneLonger-digits width (39 ∷ tail) (length width + 1) numeral (digits_run width tail numeral.1) (omega arith) by
  where
    by : (t rest : List ℕ) → 39 ∷ tail ≡ 39 ∷ t ++ rest → IsTail t → length width + suc (length t) ≤ length width + 1
    by t rest split broken = omega arith
    by t rest split (going base value digits) = absurd (other base (value ++ rest) (ap (drop 1) split))

-- digits, an apostrophe and a base
pub NoneLonger-base : (width tail : List ℕ) (base : Base) → IsNumeral 10 width
    → NoneLonger (width ++ 39 ∷ letter_of base ∷ tail) (length width + 2 + prefix_len (λ b. is_digit b (radix_of base)) tail)
NoneLonger-base width tail base numeral =
    NoneLonger-digits width (39 ∷ letter_of base ∷ tail) (length width + 2 + prefix_len (λ b. is_digit b (radix_of base)) tail) numeral (digits_run width (letter_of base ∷ tail) numeral.1) (omega arith) by
  where
    by : (t rest : List ℕ) → 39 ∷ letter_of base ∷ tail ≡ 39 ∷ t ++ rest → IsTail t → length width + suc (length t) ≤ length width + 2 + prefix_len (λ b. is_digit b (radix_of base)) tail
    by t rest split broken = omega arith
    by t rest split (going other value digits) =
        let behind : letter_of base ∷ tail ≡ letter_of other ∷ (value ++ rest) = ap (drop 1) split in
        let same : base ≡ other = same_base base other (ap (λ l. get_or l 0 0) behind) in
        let all = subst (λ (b : Base). AllDigits (radix_of b) value) (sym same) digits in
        let within = length-le-prefix_len (λ b. is_digit b (radix_of base)) value rest (list_all-from_digits (radix_of base) value all) in
        let tail_is : tail ≡ value ++ rest = ap (drop 1) behind in
        omega (arith, within, ap (prefix_len (λ b. is_digit b (radix_of base))) tail_is)
