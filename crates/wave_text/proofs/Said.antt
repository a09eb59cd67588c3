-- What the lines of a dump say.
use Rattle.std.proofs.Common.{◌≡◌, ◌⊎◌, ℕ, zero, suc, ◌+◌, ◌*◌, ◌/◌, ◌%◌, ◌^◌, ◌<◌, ◌≤◌, Bool, true, false, List, [], ◌∷◌, ◌++◌, refl, sym, ap, subst, ◌∙◌, inl, inr, arith}
use Rattle.std.specs.Prelude.{◌==◌, bytes_eq, codes, decimal, if◌then◌else◌}
use Rattle.std.specs.Char.{digit_value}
use Rattle.std.specs.List.{onto_first, slice_split}
use Rattle.std.specs.Str.Parse.{AllDigits, digits_value, digits_value_after}
use Rattle.std.proofs.Math.Nat.{add-mul, mod-eq_of_lt, mod-lt, mul_assoc, mul_comm, pow-le-pow_right, pow-suc}
use Rattle.std.proofs.lemmas.Bool.{and_left, cond-false, cond_both, eqb-true, ne_eqb}
use Rattle.std.proofs.lemmas.Fmt.{decimal_is_IsNumeral}
use Rattle.std.proofs.lemmas.List.Splits.{slice_split-cons_no, slice_split-cons_yes}
use Rattle.std.proofs.lemmas.Nat.{mod-pow-add}
use Rattle.std.proofs.lemmas.Str.Parse.{digit_from_value}
use Rattle.wave_text.specs.Reading.{begins, gives, neither, said_by, vector_level, vector_said}
use Rattle.wave_text.specs.Waves.{binary, binary_digits, bit_text, change, code, letter, line, vector_text, without_leading_zeros}
use Rattle.wave_text.specs.declared.level.Level.{Level}
use Rattle.wave_text.specs.declared.level.Level.TheVariants.{Unknown, Known}
use Rattle.wave_text.specs.declared.variable.VariableKind.{VariableKind}
use Rattle.wave_text.specs.declared.variable.VariableKind.TheVariants.{Input, Register, Rule}
use Rattle.wave_text.specs.declared.variable.Variable.{Variable}

-- ---- cuts

abbrev pub is_feed : ℕ → Bool
is_feed b = b == 10

abbrev pub is_space : ℕ → Bool
is_space b = b == 32

-- no byte passes a test
abbrev pub Clear : (ℕ → Bool) → List ℕ → Type 0
Clear p [] = Unit {0}
Clear p (x ∷ xs) = (p x ≡ false) × Clear p xs

clear_append : (p : ℕ → Bool) (xs ys : List ℕ) → Clear p xs → Clear p ys → Clear p (xs ++ ys)
clear_append p [] ys first second = second
clear_append p (x ∷ xs) ys first second = (first.0, clear_append p xs ys first.1 second)

pub split_at : (p : ℕ → Bool) (xs : List ℕ) (y : ℕ) (ys : List ℕ) → Clear p xs → p y ≡ true → slice_split p (xs ++ y ∷ ys) ≡ xs ∷ slice_split p ys
split_at p [] y ys clear hit = slice_split-cons_yes p y ys hit
split_at p (x ∷ xs) y ys clear hit = slice_split-cons_no p x (xs ++ y ∷ ys) clear.0 ∙ ap (onto_first x) (split_at p xs y ys clear.1 hit)

split_none : (p : ℕ → Bool) (xs : List ℕ) → Clear p xs → slice_split p xs ≡ xs ∷ []
split_none p [] clear = refl
split_none p (x ∷ xs) clear = slice_split-cons_no p x xs clear.0 ∙ ap (onto_first x) (split_none p xs clear.1)

-- ---- decimal digits and codes

-- a test that no digit passes
abbrev NoDigit : (ℕ → Bool) → Type 0
NoDigit p = (b : ℕ) → 48 ≤ b → b ≤ 57 → p b ≡ false

feed_no_digit : NoDigit is_feed
feed_no_digit b low high = ne_eqb b 10 (λ e. absurd (omega (arith, low, e)))

space_no_digit : NoDigit is_space
space_no_digit b low high = ne_eqb b 32 (λ e. absurd (omega (arith, low, e)))

digits_clear : (p : ℕ → Bool) → NoDigit p → (ds : List ℕ) → AllDigits 10 ds → Clear p ds
digits_clear p none_is [] all = tt
digits_clear p none_is (d ∷ ds) all = let r = digit_from_value d all.0 in (none_is d r.0 r.1, digits_clear p none_is ds all.1)

decimal_clear : (p : ℕ → Bool) → NoDigit p → (n : ℕ) → n < 2 ^ 64 → Clear p (decimal n)
decimal_clear p none_is n small = digits_clear p none_is (decimal n) (decimal_is_IsNumeral n small).0.1

letter_is : (p : ℕ → Bool) (k : VariableKind) → p 105 ≡ false → p 114 ≡ false → p 102 ≡ false → p (letter k) ≡ false
letter_is p Input i r f = i
letter_is p Register i r f = r
letter_is p Rule i r f = f

code_clear : (p : ℕ → Bool) → NoDigit p → p 105 ≡ false → p 114 ≡ false → p 102 ≡ false → (v : Variable) → v.number < 2 ^ 64 → Clear p (code v)
code_clear p none_is i r f v small = (letter_is p v.kind i r f, decimal_clear p none_is v.number small)

-- ---- binary digits

abbrev AreBits : List ℕ → Type 0
AreBits [] = Unit {0}
AreBits (d ∷ ds) = ((d ≡ 48) ⊎ (d ≡ 49)) × AreBits ds

one_bit : (b : ℕ) → b < 2 → (48 + b ≡ 48) ⊎ (48 + b ≡ 49)
one_bit zero less = inl refl
one_bit (suc zero) less = inr refl
one_bit (suc (suc b)) less = absurd (omega (arith, less))

are_bits : (count number : ℕ) → AreBits (binary_digits count number)
are_bits zero number = tt
are_bits (suc count) number = (one_bit (number / 2 ^ count % 2) (mod-lt (number / 2 ^ count) (omega arith)), are_bits count number)

bits_left : (ds : List ℕ) → AreBits ds → AreBits (without_leading_zeros ds)
bits_left [] all = tt
bits_left (d ∷ []) all = all
bits_left (d ∷ n ∷ ds) all = cond_both (d == 48) (without_leading_zeros (n ∷ ds)) (d ∷ n ∷ ds) AreBits (λ e. bits_left (n ∷ ds) all.1) (λ e. all)

binary_bits : (n : ℕ) → AreBits (binary n)
unfolding binary
binary_bits n = bits_left (binary_digits 128 n) (are_bits 128 n)

bits_clear : (p : ℕ → Bool) → p 48 ≡ false → p 49 ≡ false → (ds : List ℕ) → AreBits ds → Clear p ds
bits_clear p zero_is one_is [] all = tt
bits_clear p zero_is one_is (d ∷ ds) all =
    (elim all.0 [ inl e ↦ ap p e ∙ zero_is | inr e ↦ ap p e ∙ one_is ], bits_clear p zero_is one_is ds all.1)

not_x : (ds : List ℕ) → AreBits ds → bytes_eq ds (codes "x") ≡ false
not_x [] all = refl
not_x (d ∷ ds) all = and_left (d == 120) (bytes_eq ds []) (elim all.0 [ inl e ↦ ne_eqb d 120 (λ x. absurd (omega (arith, e, x))) | inr e ↦ ne_eqb d 120 (λ x. absurd (omega (arith, e, x))) ])

-- the number that they write
digit_is : (b : ℕ) → b < 2 → digit_value (48 + b) ≡ b
digit_is zero less = refl
digit_is (suc zero) less = refl
digit_is (suc (suc b)) less = absurd (omega (arith, less))

shifted : (a b x : ℕ) → (a * 2 + b) * x ≡ a * (x * 2) + b * x
shifted a b x = add-mul (a * 2) b x ∙ ap (λ n. n + b * x) (mul_assoc a 2 x ∙ ap (λ n. a * n) (mul_comm 2 x))

value_on : (count number before : ℕ) → digits_value_after 2 before (binary_digits count number) ≡ before * 2 ^ count + number % 2 ^ count
value_on zero number before = omega (arith, mod-lt number {m = 2 ^ 0} (omega arith))
value_on (suc count) number before =
    let bit = number / 2 ^ count % 2 in
    let one : digit_value (48 + bit) ≡ bit = digit_is bit (mod-lt (number / 2 ^ count) (omega arith)) in
    let e : suc count ≡ 1 + count = omega arith in
    let low : number % 2 ^ suc count ≡ bit * 2 ^ count + number % 2 ^ count = ap (λ n. number % 2 ^ n) e ∙ mod-pow-add number 1 count in
    ap (λ n. digits_value_after 2 (before * 2 + n) (binary_digits count number)) one
    ∙ value_on count number (before * 2 + bit)
    ∙ ap (λ n. n + number % 2 ^ count) (shifted before bit (2 ^ count))
    ∙ omega (arith, low, ap (λ n. before * n) (pow-suc 2 count))

trimmed_value : (ds : List ℕ) → AreBits ds → digits_value 2 (without_leading_zeros ds) ≡ digits_value 2 ds
trimmed_value [] all = refl
trimmed_value (d ∷ []) all = refl
trimmed_value (d ∷ n ∷ ds) all =
    cond_both (d == 48) (without_leading_zeros (n ∷ ds)) (d ∷ n ∷ ds) (λ (t : List ℕ). digits_value 2 t ≡ digits_value 2 (d ∷ n ∷ ds))
    (λ e. trimmed_value (n ∷ ds) all.1 ∙ ap (λ (c : ℕ). digits_value_after 2 (0 * 2 + digit_value c) (n ∷ ds)) (sym (eqb-true d 48 e))) (λ e. refl)

binary_value : (n : ℕ) → n < 2 ^ 128 → digits_value 2 (binary n) ≡ n
unfolding binary
binary_value n small = trimmed_value (binary_digits 128 n) (are_bits 128 n) ∙ value_on 128 n 0 ∙ omega (arith, mod-eq_of_lt small)

-- ---- changes

-- a variable can show a value
abbrev pub Shows : Variable → Level → Type 0
Shows v Unknown = Unit {0}
Shows v (Known n) = (n < 2 ^ v.width) × (v.width ≤ 128)

-- the bytes of a change before the line feed
abbrev pub change_bytes : Variable → Level → List ℕ
change_bytes v level = if v.width == 1 then bit_text level ∷ code v else 98 ∷ vector_text level ++ 32 ∷ code v

line_of_choice : (b : Bool) (x y : List ℕ) → (if b then line x else line y) ≡ line (if b then x else y)
line_of_choice true x y = refl
line_of_choice false x y = refl

pub change_is_line : (v : Variable) (level : Level) → change v level ≡ line (change_bytes v level)
change_is_line v level = line_of_choice (v.width == 1) (bit_text level ∷ code v) (98 ∷ vector_text level ++ 32 ∷ code v)

vector_clear : (p : ℕ → Bool) → p 120 ≡ false → p 48 ≡ false → p 49 ≡ false → (level : Level) → Clear p (vector_text level)
vector_clear p x_is zero_is one_is Unknown = (x_is, tt)
vector_clear p x_is zero_is one_is (Known n) = bits_clear p zero_is one_is (binary n) (binary_bits n)

vector_is : (level : Level) (v : Variable) → Shows v level → vector_level (vector_text level) ≡ level
vector_is Unknown v shows = refl
vector_is (Known n) v shows =
    let small : n < 2 ^ 128 = below n v.width shows.0 shows.1 in
    cond-false (bytes_eq (binary n) (codes "x")) Unknown (Known (digits_value 2 (binary n))) (not_x (binary n) (binary_bits n)) ∙ ap Known (binary_value n small)
  where
    below : (n width : ℕ) → n < 2 ^ width → width ≤ 128 → n < 2 ^ 128
    below n width less most = let power : 2 ^ width ≤ 2 ^ 128 = pow-le-pow_right {n = 2} (omega arith) {i = width} {j = 128} most in omega (arith, less, power)

bit_said : (v : Variable) (level : Level) → v.width ≡ 1 → Shows v level → said_by (bit_text level ∷ code v) ≡ gives (code v) level
unfolding said_by
bit_said v Unknown one shows = refl
bit_said v (Known zero) one shows = refl
bit_said v (Known (suc zero)) one shows = refl
bit_said v (Known (suc (suc n))) one shows = absurd (let less : suc (suc n) < 2 ^ 1 = subst (λ w. suc (suc n) < 2 ^ w) one shows.0 in omega (arith, less))

vector_is_said : (v : Variable) (level : Level) → v.number < 2 ^ 64 → Shows v level → said_by (98 ∷ vector_text level ++ 32 ∷ code v) ≡ gives (code v) level
unfolding said_by
vector_is_said v level small shows =
    ap vector_said
    (split_at is_space (vector_text level) 32 (code v) (vector_clear is_space refl refl refl level) refl
    ∙ ap (λ (parts : List (List ℕ)). vector_text level ∷ parts) (split_none is_space (code v) (code_clear is_space space_no_digit refl refl refl v small)))
    ∙ ap (gives (code v)) (vector_is level v shows)

-- a change says which variable gets which value
pub change_said : (v : Variable) (level : Level) → v.number < 2 ^ 64 → Shows v level → said_by (change_bytes v level) ≡ gives (code v) level
change_said v level small shows =
    cond_both (v.width == 1) (bit_text level ∷ code v) (98 ∷ vector_text level ++ 32 ∷ code v) (λ (bytes : List ℕ). said_by bytes ≡ gives (code v) level)
    (λ e. bit_said v level (eqb-true v.width 1 e) shows) (λ e. vector_is_said v level small shows)

bit_clear : (v : Variable) (level : Level) → v.width ≡ 1 → Shows v level → is_feed (bit_text level) ≡ false
bit_clear v Unknown one shows = refl
bit_clear v (Known zero) one shows = refl
bit_clear v (Known (suc zero)) one shows = refl
bit_clear v (Known (suc (suc n))) one shows = absurd (let less : suc (suc n) < 2 ^ 1 = subst (λ w. suc (suc n) < 2 ^ w) one shows.0 in omega (arith, less))

-- and is one line
pub change_clear : (v : Variable) (level : Level) → v.number < 2 ^ 64 → Shows v level → Clear is_feed (change_bytes v level)
change_clear v level small shows =
    let own = code_clear is_feed feed_no_digit refl refl refl v small in
    cond_both (v.width == 1) (bit_text level ∷ code v) (98 ∷ vector_text level ++ 32 ∷ code v) (Clear is_feed)
    (λ e. (bit_clear v level (eqb-true v.width 1 e) shows, own))
    (λ e. (refl, clear_append is_feed (vector_text level) (32 ∷ code v) (vector_clear is_feed refl refl refl level) (refl, own)))

-- ---- times

pub time_said : (t : ℕ) → t < 2 ^ 64 → said_by (35 ∷ decimal t) ≡ begins t
unfolding said_by
time_said t small = ap begins (decimal_is_IsNumeral t small).1

pub time_clear : (t : ℕ) → t < 2 ^ 64 → Clear is_feed (35 ∷ decimal t)
time_clear t small = (refl, decimal_clear is_feed feed_no_digit t small)

-- ---- other lines

pub rise_said : said_by (codes "1c") ≡ gives (codes "c") (Known 1)
unfolding said_by
rise_said = refl

pub fall_said : said_by (codes "0c") ≡ gives (codes "c") (Known 0)
unfolding said_by
fall_said = refl

pub begin_said : said_by (codes "$dumpvars") ≡ neither
unfolding said_by
begin_said = refl

pub end_said : said_by (codes "$end") ≡ neither
unfolding said_by
end_said = refl

pub lines_clear : Clear is_feed (codes "1c") × Clear is_feed (codes "0c") × Clear is_feed (codes "$dumpvars") × Clear is_feed (codes "$end")
lines_clear = (
  (refl, (refl, tt)),
  (refl, (refl, tt)),
  (refl, (refl, (refl, (refl, (refl, (refl, (refl, (refl, (refl, tt))))))))),
  (refl, (refl, (refl, (refl, tt)))),
)
