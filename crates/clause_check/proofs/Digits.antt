-- The number that the first token of bytes writes, read digit by digit.
use Rattle.std.proofs.Common.{◌≡◌, ◌≢◌, ℕ, ◌+◌, ◌*◌, ◌^◌, ◌<◌, ◌≤◌, Bool, true, false, not, cond, eqb, List, [], ◌∷◌, Option, Some, None, refl, sym, ap, ap₂, ◌∙◌, arith, lit<, true≢false}
use Rattle.std.specs.Char.{digit_value, is_digit}
use Rattle.std.specs.List.{list_all}
use Rattle.std.specs.Prelude.{nat_le, nat_lt, ◌&&◌, ◌||◌}
use Rattle.std.specs.Str.Parse.{digits_value, digits_value_after}
use Rattle.std.proofs.lemmas.Bool.{and_parts, eqb-true, le-leb, le-ltb, lt-ltb, ltb-false, ltb-true}
use Rattle.kw_base.specs.Texts.{is_blank}
use Rattle.clause_check.specs.Steps.{◌>>=◌, number_of}
use Rattle.clause_check.specs.inner.Cuts.{after_token, token_of}
use Rattle.clause_check.specs.inner.Tokens.{digits_from, if_small}
use Rattle.clause_check.proofs.Cutting.{after_token-first, token_of-first}

abbrev are_digits : List ℕ → Bool
are_digits ds = list_all (λ b. is_digit b 10) ds

-- the number that digits write after others, if they are digits and it is below 2 to the 63
abbrev pub value_after : ℕ → List ℕ → Option ℕ
value_after n ds = cond (are_digits ds && nat_lt (digits_value_after 10 n ds) (2 ^ 63)) (Some (digits_value_after 10 n ds)) None

abbrev pub with_rest : Option ℕ → List ℕ → Option (ℕ × List ℕ)
with_rest None rest = None
with_rest (Some n) rest = Some (n, rest)

grows : (n : ℕ) (ds : List ℕ) → n ≤ digits_value_after 10 n ds
grows n [] = omega arith
grows n (b ∷ ds) = omega (arith, grows (n * 10 + digit_value b) ds)

never : (t u : Bool) → u ≡ false → (t && u) ≡ false
never true u is = is
never false u is = refl

-- a digit isn't blank
digit_shown : (b : ℕ) → is_digit b 10 ≡ true → is_blank b ≡ false
digit_shown b is = by (eqb b 32) refl (eqb b 9) refl
  where
    differs : (n : ℕ) → eqb b n ≡ true → is_digit n 10 ≡ true
    differs n same = sym (ap (λ k. is_digit k 10) (eqb-true b n same)) ∙ is

    by : (t : Bool) → eqb b 32 ≡ t → (u : Bool) → eqb b 9 ≡ u → (t || u) ≡ false
    by true same u other = absurd (true≢false (sym (differs 32 same)))
    by false other true same = absurd (true≢false (sym (differs 9 same)))
    by false other false another = refl

-- digits are read as far as the first token goes
pub digits_from-token : (n : ℕ) (bytes : List ℕ) → n < 2 ^ 63 → digits_from n bytes ≡ with_rest (value_after n (token_of bytes)) (after_token bytes)
digits_from-token n [] small = sym (ap (λ t. with_rest (cond t (Some n) None) []) (lt-ltb n (2 ^ 63) small))
digits_from-token n (b ∷ bytes) small = by (λ m. digits_from-token m bytes) (is_digit b 10) refl
  where
    fits : ((m : ℕ) → m < 2 ^ 63 → digits_from m bytes ≡ with_rest (value_after m (token_of bytes)) (after_token bytes)) → (t : Bool) → nat_lt (n * 10 + digit_value b) (2 ^ 63) ≡ t
        → (cond t (Some (n * 10 + digit_value b)) None >>= λ (m : ℕ). digits_from m bytes) ≡ with_rest (value_after (n * 10 + digit_value b) (token_of bytes)) (after_token bytes)
    fits others true below = others (n * 10 + digit_value b) (ltb-true (n * 10 + digit_value b) (2 ^ 63) below)
    fits others false above =
        let great : nat_lt (digits_value_after 10 (n * 10 + digit_value b) (token_of bytes)) (2 ^ 63) ≡ false
        = le-ltb _ _ (omega (arith, grows (n * 10 + digit_value b) (token_of bytes), ltb-false (n * 10 + digit_value b) (2 ^ 63) above)) in
        sym (ap (λ t. with_rest (cond t (Some (digits_value_after 10 (n * 10 + digit_value b) (token_of bytes))) None) (after_token bytes)) (never (are_digits (token_of bytes)) _ great))

    ends : (t : Bool) → is_digit b 10 ≡ false
        → cond t (Some (n, b ∷ bytes)) None ≡ with_rest (value_after n (cond (not t) (b ∷ token_of bytes) [])) (cond (not t) (after_token bytes) (b ∷ bytes))
    ends true is = sym (ap (λ t. with_rest (cond t (Some n) None) (b ∷ bytes)) (lt-ltb n (2 ^ 63) small))
    ends false is = sym (ap (λ t. with_rest (cond ((t && are_digits (token_of bytes)) && nat_lt (digits_value_after 10 n (b ∷ token_of bytes)) (2 ^ 63)) (Some (digits_value_after 10 n (b ∷ token_of bytes))) None) (after_token bytes)) is)

    by : ((m : ℕ) → m < 2 ^ 63 → digits_from m bytes ≡ with_rest (value_after m (token_of bytes)) (after_token bytes)) → (t : Bool) → is_digit b 10 ≡ t
        → cond t (if_small (n * 10 + digit_value b) >>= λ (m : ℕ). digits_from m bytes) (cond (is_blank b) (Some (n, b ∷ bytes)) None)
        ≡ with_rest (value_after n (token_of (b ∷ bytes))) (after_token (b ∷ bytes))
    by others true is =
        fits others (nat_lt (n * 10 + digit_value b) (2 ^ 63)) refl
        ∙ sym (ap₂ (λ (token rest : List ℕ). with_rest (value_after n token) rest) (token_of-first b bytes (digit_shown b is)) (after_token-first b bytes (digit_shown b is))
        ∙ ap (λ t. with_rest (cond ((t && are_digits (token_of bytes)) && nat_lt (digits_value_after 10 n (b ∷ token_of bytes)) (2 ^ 63)) (Some (digits_value_after 10 n (b ∷ token_of bytes))) None) (after_token bytes)) is)
    by others false is = ends (is_blank b) is

-- a value that was read
chosen : (t : Bool) (value v : ℕ) → cond t (Some value) None ≡ Some v → (t ≡ true) × (value ≡ v)
chosen true value v h = (refl, cc)
chosen false value v h = absurd (cc)

unchosen : (t : Bool) (value : ℕ) → cond t (Some value) None ≡ None → t ≡ false
unchosen true value h = absurd (cc)
unchosen false value h = refl

-- the number that a token of digits writes
numeral : (b : ℕ) (ds : List ℕ) (t : Bool) → are_digits (b ∷ ds) ≡ true → nat_lt (digits_value 10 (b ∷ ds)) (2 ^ 63) ≡ true → nat_le 1 (digits_value 10 (b ∷ ds)) ≡ t
    → number_of (b ∷ ds) ≡ cond (t && true) (Some (digits_value 10 (b ∷ ds))) None
unfolding number_of
numeral b ds t digits small positive =
    let value : ℕ = digits_value 10 (b ∷ ds) in
    ap (λ x. cond ((true && x) && (nat_le 1 value && nat_lt value (2 ^ 63))) (Some value) None) digits
    ∙ ap (λ x. cond ((true && true) && (nat_le 1 value && x)) (Some value) None) small ∙ ap (λ x. cond ((true && true) && (x && true)) (Some value) None) positive

positive : (n : ℕ) → n ≢ 0 → nat_le 1 n ≡ true
positive n some = le-leb 1 n (omega (arith, some))

pub number-some : (token : List ℕ) (v : ℕ) → value_after 0 token ≡ Some v → v ≢ 0 → number_of token ≡ Some v
number-some [] v is some = let zero_is : 0 ≡ v = cc in absurd (some (sym zero_is))
number-some (b ∷ ds) v is some =
    let parts = chosen _ _ v is in
    let tests = and_parts _ _ parts.0 in
    numeral b ds true tests.0 tests.1 (positive _ (λ none. some (sym parts.1 ∙ none))) ∙ ap Some parts.1

pub number-zero : (token : List ℕ) → value_after 0 token ≡ Some 0 → number_of token ≡ None
unfolding number_of
number-zero [] is = refl
number-zero (b ∷ ds) is =
    let parts = chosen _ _ 0 is in
    let tests = and_parts _ _ parts.0 in
    numeral b ds false tests.0 tests.1 (ap (nat_le 1) parts.1)

pub number-none : (token : List ℕ) → value_after 0 token ≡ None → number_of token ≡ None
unfolding number_of
number-none [] is = refl
number-none (b ∷ ds) is = by (are_digits (b ∷ ds)) (nat_lt (digits_value 10 (b ∷ ds)) (2 ^ 63)) (nat_le 1 (digits_value 10 (b ∷ ds))) (unchosen _ _ is)
  where
    by : (x y z : Bool) → (x && y) ≡ false → cond ((true && x) && (z && y)) (Some (digits_value 10 (b ∷ ds))) None ≡ None
    by false y z h = refl
    by true false true h = refl
    by true false false h = refl
    by true true z h = absurd (true≢false h)

with_rest-some : (o : Option ℕ) (after : List ℕ) (v : ℕ) (rest : List ℕ) → with_rest o after ≡ Some (v, rest) → (o ≡ Some v) × (after ≡ rest)
with_rest-some None after v rest h = absurd (cc)
with_rest-some (Some w) after v rest h = (ap (λ o. number_in o) h, ap (λ o. rest_in o) h)
  where
    number_in : Option (ℕ × List ℕ) → Option ℕ
    number_in None = None
    number_in (Some p) = Some p.0

    rest_in : Option (ℕ × List ℕ) → List ℕ
    rest_in None = []
    rest_in (Some p) = p.1

with_rest-none : (o : Option ℕ) (after : List ℕ) → with_rest o after ≡ None → o ≡ None
with_rest-none None after h = refl
with_rest-none (Some w) after h = absurd (cc)

-- what the digits of the first token say of the number that it writes
pub number_read : (bytes : List ℕ) (v : ℕ) (rest : List ℕ) → digits_from 0 bytes ≡ Some (v, rest) → v ≢ 0 → (number_of (token_of bytes) ≡ Some v) × (after_token bytes ≡ rest)
number_read bytes v rest read some =
    let parts = with_rest-some (value_after 0 (token_of bytes)) (after_token bytes) v rest (sym (digits_from-token 0 bytes (lit< tt)) ∙ read) in
    (number-some (token_of bytes) v parts.0 some, parts.1)

pub zero_read : (bytes rest : List ℕ) → digits_from 0 bytes ≡ Some (0, rest) → number_of (token_of bytes) ≡ None
zero_read bytes rest read =
    number-zero (token_of bytes) (with_rest-some (value_after 0 (token_of bytes)) (after_token bytes) 0 rest (sym (digits_from-token 0 bytes (lit< tt)) ∙ read)).0

pub none_read : (bytes : List ℕ) → digits_from 0 bytes ≡ None → number_of (token_of bytes) ≡ None
none_read bytes read = number-none (token_of bytes) (with_rest-none (value_after 0 (token_of bytes)) (after_token bytes) (sym (digits_from-token 0 bytes (lit< tt)) ∙ read))
