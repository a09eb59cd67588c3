-- Stretches of bytes: two texts that begin with bytes that pass, each followed by one that doesn't, have equal beginnings and
-- equal rests.
use Rattle.std.proofs.Common.{◌≡◌, ℕ, ◌^◌, ◌<◌, ◌||◌, Bool, true, false, true≢false, List, [], ◌∷◌, ◌++◌, length, leb, codes, decimal, pow_mono, inl, inr, ⊎_elim, arith, refl, sym, ap, ap₂, subst, ◌∙◌, append_assoc}
use Rattle.std.specs.Prelude.{◌==◌}
use Rattle.std.specs.Char.{is_ascii_digit}
use Rattle.std.specs.Int.{IsInRange, is_in_range}
use Rattle.std.specs.List.{list_all}
use Rattle.std.specs.Str.Parse.{AllDigits, digits_value}
use Rattle.std.proofs.lemmas.Bool.{and_from, and_parts, le-leb, leb-true, eqb-true, or_cases}
use Rattle.std.proofs.lemmas.Fmt.{decimal_is_IsNumeral_wide}
use Rattle.std.proofs.lemmas.List.Folds.{list_all-append}
use Rattle.std.proofs.lemmas.Str.Parse.{digit_from_value}
use Rattle.kw_bits.specs.BitVector.{BitVector, IsBits}
use Rattle.verilog_text.specs.Modules.{IsName, IsWord, begins_word, continues_word}
use Rattle.verilog_text.specs.Texts.{constant_text}
use Rattle.verilog_text.specs.inner.Words.{StopsAt}

-- a byte that passes, and one that stops
passes-or-stops : (p : ℕ → Bool) (b c : ℕ) (more rest : List ℕ) → list_all p (b ∷ more) ≡ true → p c ≡ false → b ≡ c → ⊥
passes-or-stops p b c more rest all stop e =
    let passes : p b ≡ true = (and_parts (p b) (list_all p more) all).0 in
    true≢false (sym passes ∙ ap p e ∙ stop)

pub stretch-same : (p : ℕ → Bool) (xs ys s t : List ℕ) → list_all p xs ≡ true → list_all p ys ≡ true → StopsAt p s → StopsAt p t
    → xs ++ s ≡ ys ++ t → (xs ≡ ys) × (s ≡ t)
stretch-same p [] [] s t all all' stops stops' e = (refl, e)
stretch-same p [] (y ∷ ys) [] t all all' stops stops' e = absurd cc
stretch-same p [] (y ∷ ys) (c ∷ s) t all all' stops stops' e =
    let head : y ≡ c = cc in
    absurd (passes-or-stops p y c ys s all' stops head)
stretch-same p (x ∷ xs) [] s [] all all' stops stops' e = absurd cc
stretch-same p (x ∷ xs) [] s (c ∷ t) all all' stops stops' e =
    let head : x ≡ c = cc in
    absurd (passes-or-stops p x c xs t all stops' head)
stretch-same p (x ∷ xs) (y ∷ ys) s t all all' stops stops' e =
    let head : x ≡ y = cc in
    let tail : xs ++ s ≡ ys ++ t = cc in
    let more = stretch-same p xs ys s t (and_parts (p x) (list_all p xs) all).1 (and_parts (p y) (list_all p ys) all').1 stops stops' tail in
    (ap₂ (λ z zs. z ∷ zs) head more.0, more.1)

-- a test that lets more pass
pub all-weaker : (p q : ℕ → Bool) (xs : List ℕ) → ((b : ℕ) → p b ≡ true → q b ≡ true) → list_all p xs ≡ true → list_all q xs ≡ true
all-weaker p q [] weaker all = refl
all-weaker p q (x ∷ xs) weaker all =
    let both = and_parts (p x) (list_all p xs) all in
    and_from (q x) (list_all q xs) (weaker x both.0) (all-weaker p q xs weaker both.1)

pub all-append : (p : ℕ → Bool) (xs ys : List ℕ) → list_all p xs ≡ true → list_all p ys ≡ true → list_all p (xs ++ ys) ≡ true
all-append p xs ys all all' = list_all-append p xs ys ∙ and_from (list_all p xs) (list_all p ys) all all'

-- ---- digits

digits-pass : (ds : List ℕ) → AllDigits 10 ds → list_all is_ascii_digit ds ≡ true
digits-pass [] all = refl
digits-pass (d ∷ ds) all =
    let range : IsInRange 48 57 d = digit_from_value d all.0 in
    and_from (is_ascii_digit d) (list_all is_ascii_digit ds) (and_from _ _ (le-leb 48 d (omega (arith, range))) (le-leb d 57 (omega (arith, range)))) (digits-pass ds all.1)

pub decimal-passes : (n : ℕ) → n < 10 ^ 64 → list_all is_ascii_digit (decimal n) ≡ true
decimal-passes n small = digits-pass (decimal n) (decimal_is_IsNumeral_wide n small).0.1

pub number-same : (m n : ℕ) (s t : List ℕ) → m < 10 ^ 64 → n < 10 ^ 64 → StopsAt is_ascii_digit s → StopsAt is_ascii_digit t
    → decimal m ++ s ≡ decimal n ++ t → (m ≡ n) × (s ≡ t)
number-same m n s t small small' stops stops' e =
    let both = stretch-same is_ascii_digit (decimal m) (decimal n) s t (decimal-passes m small) (decimal-passes n small') stops stops' e in
    let same : m ≡ n =
    sym (decimal_is_IsNumeral_wide m small).1 ∙ ap (digits_value 10) both.0 ∙ (decimal_is_IsNumeral_wide n small').1
    in
    (same, both.1)

pub decimal-same : (m n : ℕ) → m < 10 ^ 64 → n < 10 ^ 64 → decimal m ≡ decimal n → m ≡ n
decimal-same m n small small' e =
    sym (decimal_is_IsNumeral_wide m small).1 ∙ ap (digits_value 10) e ∙ (decimal_is_IsNumeral_wide n small').1

-- ---- names

-- a byte of a name or of a wire's name
abbrev pub is_name_byte : ℕ → Bool
is_name_byte b = continues_word b || (b == 36)

continues-passes : (b : ℕ) → continues_word b ≡ true → is_name_byte b ≡ true
continues-passes b is = rw is refl

begins-continues : (b : ℕ) → begins_word b ≡ true → continues_word b ≡ true
begins-continues b is = widen (is_in_range 48 57 b) (is_in_range 65 90 b) (is_in_range 97 122 b) (b == 95) is
  where
    widen : (digit upper lower under : Bool) → (upper || lower || under) ≡ true → (digit || upper || lower || under) ≡ true
    widen true upper lower under is = refl
    widen false upper lower under is = is

word-passes : (name : List ℕ) → IsWord name → list_all is_name_byte name ≡ true
word-passes [] is = absurd is
word-passes (b ∷ bytes) is =
    and_from (is_name_byte b) (list_all is_name_byte bytes) (continues-passes b (begins-continues b is.0))
    (all-weaker continues_word is_name_byte bytes continues-passes is.1)

pub name-passes : (name : List ℕ) → IsName name → list_all is_name_byte name ≡ true
name-passes name (inl (word, free)) = word-passes name word
name-passes name (inr (word, is, e)) =
    rw e (all-append is_name_byte word (36 ∷ []) (word-passes word is) refl)

-- ---- beginnings

-- a text that begins with a byte that passes
pub record Begins (p : ℕ → Bool) (text : List ℕ) : Type 0 where
  pub byte : ℕ
  pub rest : List ℕ
  pub is : text ≡ byte ∷ rest
  pub passes : p byte ≡ true

pub begins-weaker : (p q : ℕ → Bool) (text : List ℕ) → ((b : ℕ) → p b ≡ true → q b ≡ true) → Begins p text → Begins q text
begins-weaker p q text weaker begins =
    record { byte = begins.byte; rest = begins.rest; is = begins.is; passes = weaker begins.byte begins.passes }

pub begins-more : (p : ℕ → Bool) (text more : List ℕ) → Begins p text → Begins p (text ++ more)
begins-more p text more begins =
    record { byte = begins.byte; rest = begins.rest ++ more; is = ap (λ t. t ++ more) begins.is; passes = begins.passes }

-- a byte that doesn't pass stops
pub stops-begun : (p q : ℕ → Bool) (text : List ℕ) → ((b : ℕ) → p b ≡ true → q b ≡ false) → Begins p text → StopsAt q text
stops-begun p q text apart begins = subst (StopsAt q) (sym begins.is) (apart begins.byte begins.passes)

pub digits-begin : (n : ℕ) → n < 10 ^ 64 → Begins is_ascii_digit (decimal n)
digits-begin n small = go (decimal n) (decimal_is_IsNumeral_wide n small).0.0 (decimal-passes n small)
  where
    go : (ds : List ℕ) → 0 < length ds → list_all is_ascii_digit ds ≡ true → Begins is_ascii_digit ds
    go [] some all = absurd (omega (arith, some))
    go (d ∷ ds) some all =
        record { byte = d; rest = ds; is = refl; passes = (and_parts (is_ascii_digit d) (list_all is_ascii_digit ds) all).0 }

word-begins : (name : List ℕ) → IsWord name → Begins begins_word name
word-begins [] is = absurd is
word-begins (b ∷ bytes) is = record { byte = b; rest = bytes; is = refl; passes = is.0 }

pub name-begins : (name : List ℕ) → IsName name → Begins begins_word name
name-begins name (inl (word, free)) = word-begins name word
name-begins name (inr (word, is, e)) =
    subst (Begins begins_word) (sym e) (begins-more begins_word word (36 ∷ []) (word-begins word is))

-- no letter is a digit
pub letter-or-digit : (b : ℕ) → begins_word b ≡ true → is_ascii_digit b ≡ true → ⊥
letter-or-digit b letter digit =
    let at = and_parts (leb 48 b) (leb b 57) digit in
    let high = leb-true b 57 at.1 in
    ⊎_elim
    (λ alphabetic.
    ⊎_elim
    (λ upper. omega (arith, high, leb-true 65 b (and_parts (leb 65 b) (leb b 90) upper).0))
    (λ lower. omega (arith, high, leb-true 97 b (and_parts (leb 97 b) (leb b 122) lower).0))
    (or_cases (is_in_range 65 90 b) (is_in_range 97 122 b) alphabetic))
    (λ under. omega (arith, high, eqb-true b 95 under))
    (or_cases (is_in_range 65 90 b || is_in_range 97 122 b) (b == 95) letter)

digit-continues : (b : ℕ) → is_ascii_digit b ≡ true → continues_word b ≡ true
digit-continues b is = rw is refl

pub digit-passes : (b : ℕ) → is_ascii_digit b ≡ true → is_name_byte b ≡ true
digit-passes b is = continues-passes b (digit-continues b is)

pub letter-continues : (b : ℕ) → begins_word b ≡ true → continues_word b ≡ true
letter-continues = begins-continues

pub digit-begins : (text : List ℕ) → Begins is_ascii_digit text → Begins continues_word text
digit-begins text begins = begins-weaker is_ascii_digit continues_word text digit-continues begins

pub letter-begins : (text : List ℕ) → Begins begins_word text → Begins continues_word text
letter-begins text begins = begins-weaker begins_word continues_word text begins-continues begins

-- texts that begin with a letter and with a digit differ
pub letters-or-digits : (s t : List ℕ) → Begins begins_word s → Begins is_ascii_digit t → s ≡ t → ⊥
letters-or-digits s t letter digit e =
    let both : letter.byte ∷ letter.rest ≡ digit.byte ∷ digit.rest = sym letter.is ∙ e ∙ digit.is in
    let same : letter.byte ≡ digit.byte = cc in
    letter-or-digit letter.byte letter.passes (ap is_ascii_digit same ∙ digit.passes)

-- what stops names stops digits
not-name-not-digit : (b : ℕ) → is_name_byte b ≡ false → is_ascii_digit b ≡ false
not-name-not-digit b none = go (is_ascii_digit b) refl
  where
    go : (d : Bool) → is_ascii_digit b ≡ d → d ≡ false
    go false is = refl
    go true is = absurd (true≢false (sym (digit-passes b is) ∙ none))

pub digits-stop : (s : List ℕ) → StopsAt is_name_byte s → StopsAt is_ascii_digit s
digits-stop [] stops = tt
digits-stop (b ∷ s) stops = not-name-not-digit b stops

-- ---- constants

pub number-small : (v : BitVector) → IsBits v → v.number < 10 ^ 64
number-small v is = omega (arith, is.in_range, pow_mono {i = v.width} {j = 128} is.no_wider)

width-small : (v : BitVector) → IsBits v → v.width < 10 ^ 64
width-small v is = omega (arith, is.no_wider)

constant-is : (v : BitVector) (s : List ℕ) → constant_text v ++ s ≡ decimal v.width ++ (39 ∷ 100 ∷ (decimal v.number ++ s))
constant-is v s =
    append_assoc (decimal v.width ++ codes "'d") (decimal v.number) s
    ∙ append_assoc (decimal v.width) (codes "'d") (decimal v.number ++ s)

pub constant-same : (v w : BitVector) (s t : List ℕ) → IsBits v → IsBits w → StopsAt is_ascii_digit s → StopsAt is_ascii_digit t
    → constant_text v ++ s ≡ constant_text w ++ t → (v ≡ w) × (s ≡ t)
constant-same v w s t is is' stops stops' e =
    let widths =
    number-same v.width w.width (39 ∷ 100 ∷ (decimal v.number ++ s)) (39 ∷ 100 ∷ (decimal w.number ++ t)) (width-small v is)
    (width-small w is') refl refl (sym (constant-is v s) ∙ e ∙ constant-is w t)
    in
    let rest : decimal v.number ++ s ≡ decimal w.number ++ t = let all = widths.1 in cc in
    let numbers = number-same v.number w.number s t (number-small v is) (number-small w is') stops stops' rest in
    (λ i. record { width = widths.0 i; number = numbers.0 i }, numbers.1)

pub constant-begins : (v : BitVector) → IsBits v → Begins is_ascii_digit (constant_text v)
constant-begins v is =
    begins-more is_ascii_digit (decimal v.width ++ codes "'d") (decimal v.number)
    (begins-more is_ascii_digit (decimal v.width) (codes "'d") (digits-begin v.width (width-small v is)))
