-- Expressions are read off their texts: how one begins, and what follows its first operand, tell which it is.
use Rattle.std.proofs.Common.{◌≡◌, ℕ, ◌^◌, ◌<◌, ◌+◌, ◌*◌, ◌==◌, if◌then◌else◌, Bool, true, false, true≢false, List, [], ◌∷◌, ◌++◌, codes, decimal, arith, refl, sym, ap, subst, ◌∙◌, append_assoc}
use Rattle.std.proofs.lemmas.Bool.{eqb-true}
use Rattle.std.proofs.lemmas.List.{append_cancel_left}
use Rattle.verilog_text.specs.Modules.{AreNamed, continues_word}
use Rattle.verilog_text.specs.Texts.{bit_text, bits_text, choice_text, closing, extension_text, form_text, middle, opening, operand_text, repeated_text, sign, top_text, two_text}
use Rattle.verilog_text.specs.inner.Words.{StopsAt}
use Rattle.verilog_text.specs.declared.module.Form.{Form}
use Rattle.verilog_text.specs.declared.module.Form.TheVariants.{One, Two, Choice, Slice, Extension}
use Rattle.verilog_text.specs.declared.module.Infix.{Infix}
use Rattle.verilog_text.specs.declared.module.Infix.TheVariants as twos
use Rattle.verilog_text.specs.declared.module.Module.{Module}
use Rattle.verilog_text.specs.declared.module.Operand.{Operand}
use Rattle.verilog_text.specs.declared.module.Prefix.{Prefix}
use Rattle.verilog_text.specs.declared.module.Prefix.TheVariants as ones
use Rattle.verilog_text.proofs.Operands.{IsThere, operand-begins, operand-same}
use Rattle.verilog_text.proofs.Stretches.{Begins, is_name_byte, number-same}

-- ---- kinds of expressions

data Kind : Type 0 where
  one : Prefix → Kind
  two : Infix → Kind
  choice : Kind
  slice : Kind
  extension : Kind

abbrev kind_of : Form → Kind
kind_of (One operator a) = one operator
kind_of (Two operator a b) = two operator
kind_of (Choice condition a b) = choice
kind_of (Slice a upper lower) = slice
kind_of (Extension a top count) = extension

abbrev is_extension : Kind → Bool
is_extension extension = true
is_extension other = false

-- the first byte of a text, and the rest
abbrev pub head : List ℕ → ℕ
head [] = 0
head (b ∷ bytes) = b

abbrev pub rest : List ℕ → List ℕ
rest [] = []
rest (b ∷ bytes) = bytes

-- how a text begins before an operand
abbrev begun : List ℕ → ℕ
begun text =
    if continues_word (head text) then 0
    else if continues_word (head (rest text)) then head text
    else head text + 200

-- and how it goes on after one
abbrev following : List ℕ → ℕ
following text =
    if head text == 32 then 1000 * head (rest text) + head (rest (rest text))
    else if head text == 41 then 100000 + 1000 * head (rest (rest text)) + head (rest (rest (rest text)))
    else head text

-- the same of a kind
abbrev two_begun : Infix → ℕ
two_begun twos.Nand = 326
two_begun twos.Nor = 326
two_begun twos.Xnor = 326
two_begun twos.ShiftSigned = 36
two_begun twos.SignedBelow = 36
two_begun twos.SignedAtMost = 36
two_begun twos.Join = 123
two_begun other = 0

abbrev kind_begun : Kind → ℕ
kind_begun (one operator) = head (sign operator)
kind_begun (two operator) = two_begun operator
kind_begun choice = 0
kind_begun slice = 0
kind_begun extension = 323

abbrev kind_following : Kind → ℕ
kind_following (one operator) = 59
kind_following (two operator) = following (middle operator)
kind_following choice = 63032
kind_following slice = 91
kind_following extension = 0

-- the kind that begins so and goes on so
abbrev plain_kind : ℕ → Kind
plain_kind next =
    if next == 38032 then two twos.And else if next == 124032 then two twos.Or else if next == 94032 then two twos.Xor
    else if next == 43032 then two twos.Add else if next == 45032 then two twos.Sub else if next == 42032 then two twos.Mul
    else if next == 60060 then two twos.ShiftLeft else if next == 62062 then two twos.ShiftRight
    else if next == 61061 then two twos.Equal else if next == 33061 then two twos.Unequal
    else if next == 60032 then two twos.Below else if next == 60061 then two twos.AtMost
    else if next == 63032 then choice else slice

abbrev kind_at : ℕ → ℕ → Kind
kind_at first next =
    if first == 0 then plain_kind next
    else if first == 326 then (if next == 38032 then two twos.Nand else if next == 124032 then two twos.Nor else two twos.Xnor)
    else if first == 36 then (if next == 162062 then two twos.ShiftSigned else if next == 160032 then two twos.SignedBelow else two twos.SignedAtMost)
    else if first == 123 then two twos.Join else if first == 126 then one ones.Not else if first == 45 then one ones.Neg
    else if first == 38 then one ones.RedAnd else if first == 124 then one ones.RedOr else if first == 94 then one ones.RedXor
    else extension

kind-told : (k : Kind) → kind_at (kind_begun k) (kind_following k) ≡ k
kind-told (one ones.Not) = refl
kind-told (one other) = refl
kind-told (two twos.And) = refl
kind-told (two other) = refl
kind-told choice = refl
kind-told slice = refl
kind-told extension = refl

kind-extends : (k : Kind) → (kind_begun k == 323) ≡ is_extension k
kind-extends (one ones.Not) = refl
kind-extends (one other) = refl
kind-extends (two twos.And) = refl
kind-extends (two other) = refl
kind-extends choice = refl
kind-extends slice = refl
kind-extends extension = refl

-- ---- the parts of a text

-- what is written before the first operand
abbrev opening_text : Form → List ℕ
opening_text (One operator a) = sign operator
opening_text (Two operator a b) = opening operator
opening_text (Choice condition a b) = []
opening_text (Slice a upper lower) = []
opening_text (Extension a top count) = codes "{{" ++ (decimal count ++ codes "{")

-- it is told by how the text begins, but for an extension
abbrev opening_at : ℕ → List ℕ
opening_at first = if first == 0 then [] else if first == 326 then codes "~(" else if first == 36 then codes "$signed(" else first ∷ []

opens : (f : Form) → is_extension (kind_of f) ≡ false → opening_text f ≡ opening_at (kind_begun (kind_of f))
opens (One ones.Not a) plain = refl
opens (One other a) plain = refl
opens (Two twos.And a b) plain = refl
opens (Two other a b) plain = refl
opens (Choice condition a b) plain = refl
opens (Slice a upper lower) plain = refl
opens (Extension a top count) plain = absurd (true≢false plain)

abbrev operand_of : Form → Operand
operand_of (One operator a) = a
operand_of (Two operator a b) = a
operand_of (Choice condition a b) = condition
operand_of (Slice a upper lower) = a
operand_of (Extension a top count) = a

-- how a text begins that begins with an operand, or with this byte and an operand
begun-plain : (text more : List ℕ) → Begins continues_word text → begun (text ++ more) ≡ 0
begun-plain text more begins =
    ap (λ t. begun (t ++ more)) begins.is
    ∙ ap (λ (b : Bool). if b then 0 else if continues_word (head (begins.rest ++ more)) then begins.byte else begins.byte + 200) begins.passes

begun-signed : (byte : ℕ) (text more : List ℕ) → continues_word byte ≡ false → Begins continues_word text → begun (byte ∷ (text ++ more)) ≡ byte
begun-signed byte text more none begins =
    let next : continues_word (head (text ++ more)) ≡ true =
    ap (λ t. continues_word (head (t ++ more))) begins.is ∙ begins.passes
    in
    ap (λ (b : Bool). if b then 0 else if continues_word (head (text ++ more)) then byte else byte + 200) none
    ∙ ap (λ (b : Bool). if b then byte else byte + 200) next

two-begun : (operator : Infix) (text more : List ℕ) → Begins continues_word text → begun (opening operator ++ (text ++ more)) ≡ two_begun operator
two-begun twos.Nand text more begins = refl
two-begun twos.Nor text more begins = refl
two-begun twos.Xnor text more begins = refl
two-begun twos.ShiftSigned text more begins = refl
two-begun twos.SignedBelow text more begins = refl
two-begun twos.SignedAtMost text more begins = refl
two-begun twos.Join text more begins = begun-signed 123 text more refl begins
two-begun other text more begins = begun-plain text more begins

one-begun : (operator : Prefix) (text more : List ℕ) → Begins continues_word text → begun (sign operator ++ (text ++ more)) ≡ head (sign operator)
one-begun ones.Not text more begins = begun-signed 126 text more refl begins
one-begun ones.Neg text more begins = begun-signed 45 text more refl begins
one-begun ones.RedAnd text more begins = begun-signed 38 text more refl begins
one-begun ones.RedOr text more begins = begun-signed 124 text more refl begins
one-begun ones.RedXor text more begins = begun-signed 94 text more refl begins

form-begun : (f : Form) (text more : List ℕ) → Begins continues_word text → begun (opening_text f ++ (text ++ more)) ≡ kind_begun (kind_of f)
form-begun (One operator a) text more begins = one-begun operator text more begins
form-begun (Two operator a b) text more begins = two-begun operator text more begins
form-begun (Choice condition a b) text more begins = begun-plain text more begins
form-begun (Slice a upper lower) text more begins = begun-plain text more begins
form-begun (Extension a top count) text more begins = refl

middle-follows : (operator : Infix) (more : List ℕ) → following (middle operator ++ more) ≡ following (middle operator)
middle-follows twos.And more = refl
middle-follows other more = refl

middle-stops : (operator : Infix) (more : List ℕ) → StopsAt is_name_byte (middle operator ++ more)
middle-stops twos.And more = refl
middle-stops other more = refl

closing-stops : (operator : Infix) (more : List ℕ) → StopsAt is_name_byte (closing operator ++ (59 ∷ more))
closing-stops twos.And more = refl
closing-stops other more = refl

bits-follow : (upper lower : ℕ) (more : List ℕ) → following (bits_text upper lower ++ more) ≡ 91
bits-follow upper lower more = go (upper == lower)
  where
    go : (one : Bool)
        → following ((if one then bit_text upper else codes "[" ++ decimal upper ++ codes ":" ++ decimal lower ++ codes "]") ++ more) ≡ 91
    go true = refl
    go false = refl

bits-stop : (upper lower : ℕ) (more : List ℕ) → StopsAt is_name_byte (bits_text upper lower ++ more)
bits-stop upper lower more = go (upper == lower)
  where
    go : (one : Bool)
        → StopsAt is_name_byte ((if one then bit_text upper else codes "[" ++ decimal upper ++ codes ":" ++ decimal lower ++ codes "]") ++ more)
    go true = refl
    go false = refl

top-stops : (top : ℕ) (more : List ℕ) → StopsAt is_name_byte (top_text top ++ (125 ∷ more))
top-stops top more = go (top == 0)
  where
    go : (none : Bool) → StopsAt is_name_byte ((if none then [] else bit_text top) ++ (125 ∷ more))
    go true = refl
    go false = refl

-- ---- bits

-- eight texts, one after another
eight : (l d b a t e c f s : List ℕ) → l ++ d ++ b ++ a ++ t ++ e ++ c ++ f ++ s ≡ (l ++ (d ++ b)) ++ (a ++ (t ++ (e ++ (c ++ (f ++ s)))))
eight l d b a t e c f s = simp append_assoc

bit-is : (index : ℕ) (more : List ℕ) → bit_text index ++ more ≡ 91 ∷ (decimal index ++ (93 ∷ more))
bit-is index more = ap (λ t. 91 ∷ t) (append_assoc (decimal index) (codes "]") more)

range-is : (upper lower : ℕ) (more : List ℕ)
    → (codes "[" ++ decimal upper ++ codes ":" ++ decimal lower ++ codes "]") ++ more ≡ 91 ∷ (decimal upper ++ (58 ∷ (decimal lower ++ (93 ∷ more))))
range-is upper lower more =
    ap (λ t. 91 ∷ t)
    (append_assoc (decimal upper ++ codes ":" ++ decimal lower) (codes "]") more
    ∙ append_assoc (decimal upper ++ codes ":") (decimal lower) (93 ∷ more)
    ∙ append_assoc (decimal upper) (codes ":") (decimal lower ++ (93 ∷ more)))

-- what follows the first byte
pub rests : (b c : ℕ) (s t : List ℕ) → b ∷ s ≡ c ∷ t → s ≡ t
rests b c s t e = ap rest e

module _ (s t : List ℕ) where
  bit-bit : (u v : ℕ) → u < 10 ^ 64 → v < 10 ^ 64 → bit_text u ++ s ≡ bit_text v ++ t → (u ≡ v) × (s ≡ t)
  bit-bit u v su sv e =
      let digits = rests 91 91 (decimal u ++ (93 ∷ s)) (decimal v ++ (93 ∷ t)) (sym (bit-is u s) ∙ e ∙ bit-is v t) in
      let both = number-same u v (93 ∷ s) (93 ∷ t) su sv refl refl digits in
      (both.0, rests 93 93 s t both.1)

  bit-range : (u v k : ℕ) → u < 10 ^ 64 → v < 10 ^ 64 → bit_text u ++ s ≡ (codes "[" ++ decimal v ++ codes ":" ++ decimal k ++ codes "]") ++ t → ⊥
  bit-range u v k su sv e =
      let more : List ℕ = 58 ∷ (decimal k ++ (93 ∷ t)) in
      let digits = rests 91 91 (decimal u ++ (93 ∷ s)) (decimal v ++ more) (sym (bit-is u s) ∙ e ∙ range-is v k t) in
      let both = number-same u v (93 ∷ s) more su sv refl refl digits in
      let bad : 93 ≡ 58 = ap head both.1 in
      omega (arith, bad)

  range-range : (u l v k : ℕ) → u < 10 ^ 64 → l < 10 ^ 64 → v < 10 ^ 64 → k < 10 ^ 64
      → (codes "[" ++ decimal u ++ codes ":" ++ decimal l ++ codes "]") ++ s ≡ (codes "[" ++ decimal v ++ codes ":" ++ decimal k ++ codes "]") ++ t
      → (u ≡ v) × (l ≡ k) × (s ≡ t)
  range-range u l v k su sl sv sk e =
      let x : List ℕ = decimal l ++ (93 ∷ s) in
      let y : List ℕ = decimal k ++ (93 ∷ t) in
      let digits = rests 91 91 (decimal u ++ (58 ∷ x)) (decimal v ++ (58 ∷ y)) (sym (range-is u l s) ∙ e ∙ range-is v k t) in
      let uppers = number-same u v (58 ∷ x) (58 ∷ y) su sv refl refl digits in
      let lowers = number-same l k (93 ∷ s) (93 ∷ t) sl sk refl refl (rests 58 58 x y uppers.1) in
      (uppers.0, lowers.0, rests 93 93 s t lowers.1)

module _ (s t : List ℕ) where
  pub bits-same : (u l v k : ℕ) → u < 10 ^ 64 → l < 10 ^ 64 → v < 10 ^ 64 → k < 10 ^ 64
      → bits_text u l ++ s ≡ bits_text v k ++ t → (u ≡ v) × (l ≡ k) × (s ≡ t)
  bits-same u l v k su sl sv sk e = go (u == l) (v == k) refl refl e
    where
      go : (a b : Bool) → (u == l) ≡ a → (v == k) ≡ b
          → (if a then bit_text u else codes "[" ++ decimal u ++ codes ":" ++ decimal l ++ codes "]") ++ s
          ≡ (if b then bit_text v else codes "[" ++ decimal v ++ codes ":" ++ decimal k ++ codes "]") ++ t
          → (u ≡ v) × (l ≡ k) × (s ≡ t)
      go true true p q e =
          let both = bit-bit s t u v su sv e in
          (both.0, sym (eqb-true u l p) ∙ both.0 ∙ eqb-true v k q, both.1)
      go true false p q e = absurd (bit-range s t u v k su sv e)
      go false true p q e = absurd (bit-range t s v u l sv su (sym e))
      go false false p q e = range-range s t u l v k su sl sv sk e

  top-same : (j k : ℕ) → j < 10 ^ 64 → k < 10 ^ 64 → top_text j ++ (125 ∷ s) ≡ top_text k ++ (125 ∷ t) → (j ≡ k) × (s ≡ t)
  top-same j k small small' e = go (j == 0) (k == 0) refl refl e
    where
      go : (a b : Bool) → (j == 0) ≡ a → (k == 0) ≡ b
          → (if a then [] else bit_text j) ++ (125 ∷ s) ≡ (if b then [] else bit_text k) ++ (125 ∷ t) → (j ≡ k) × (s ≡ t)
      go true true p q e = (eqb-true j 0 p ∙ sym (eqb-true k 0 q), rests 125 125 s t e)
      go true false p q e = let bad : 125 ≡ 91 = ap head e in absurd (omega (arith, bad))
      go false true p q e = let bad : 91 ≡ 125 = ap head e in absurd (omega (arith, bad))
      go false false p q e =
          let both = bit-bit (125 ∷ s) (125 ∷ t) j k small small' e in
          (both.0, rests 125 125 s t both.1)

-- ---- expressions

module _ (m : Module) where
  -- the operands are there, and indices and counts have few digits
  abbrev pub AreThere : Form → Type 0
  AreThere (One operator a) = IsThere m a
  AreThere (Two operator a b) = IsThere m a × IsThere m b
  AreThere (Choice condition a b) = IsThere m condition × IsThere m a × IsThere m b
  AreThere (Slice a upper lower) = IsThere m a × (upper < 10 ^ 64) × (lower < 10 ^ 64)
  AreThere (Extension a top count) = IsThere m a × (top < 10 ^ 64) × (count < 10 ^ 64)

  first-there : (f : Form) → AreThere f → IsThere m (operand_of f)
  first-there (One operator a) there = there
  first-there (Two operator a b) there = there.0
  first-there (Choice condition a b) there = there.0
  first-there (Slice a upper lower) there = there.0
  first-there (Extension a top count) there = there.0

  -- what is written after the first operand, and then s
  abbrev tail_text : Form → List ℕ → List ℕ
  tail_text (One operator a) s = s
  tail_text (Two operator a b) s = middle operator ++ (operand_text m b ++ (closing operator ++ s))
  tail_text (Choice condition a b) s = codes " ? " ++ (operand_text m a ++ (codes " : " ++ (operand_text m b ++ s)))
  tail_text (Slice a upper lower) s = bits_text upper lower ++ s
  tail_text (Extension a top count) s = top_text top ++ (codes "}}, " ++ (operand_text m a ++ (125 ∷ s)))

  in-parts : (f : Form) (s : List ℕ) → form_text m f ++ s ≡ opening_text f ++ (operand_text m (operand_of f) ++ tail_text f s)
  unfolding form_text two_text choice_text repeated_text extension_text
  in-parts (One operator a) s = append_assoc (sign operator) (operand_text m a) s
  in-parts (Two operator a b) s = simp append_assoc
  in-parts (Choice condition a b) s = simp append_assoc
  in-parts (Slice a upper lower) s = append_assoc (operand_text m a) (bits_text upper lower) s
  in-parts (Extension a top count) s =
      eight (codes "{{") (decimal count) (codes "{") (operand_text m a) (top_text top) (codes "}}, ") (operand_text m a) (codes "}") s

  tail-follows : (f : Form) (s : List ℕ) → is_extension (kind_of f) ≡ false → following (tail_text f (59 ∷ s)) ≡ kind_following (kind_of f)
  tail-follows (One operator a) s plain = refl
  tail-follows (Two operator a b) s plain = middle-follows operator (operand_text m b ++ (closing operator ++ (59 ∷ s)))
  tail-follows (Choice condition a b) s plain = refl
  tail-follows (Slice a upper lower) s plain = bits-follow upper lower (59 ∷ s)
  tail-follows (Extension a top count) s plain = absurd (true≢false plain)

  tail-stops : (f : Form) (s : List ℕ) → StopsAt is_name_byte (tail_text f (59 ∷ s))
  tail-stops (One operator a) s = refl
  tail-stops (Two operator a b) s = middle-stops operator (operand_text m b ++ (closing operator ++ (59 ∷ s)))
  tail-stops (Choice condition a b) s = refl
  tail-stops (Slice a upper lower) s = bits-stop upper lower (59 ∷ s)
  tail-stops (Extension a top count) s = top-stops top (125 ∷ 44 ∷ 32 ∷ (operand_text m a ++ (125 ∷ 59 ∷ s)))

  module _ (named : AreNamed m) (s t : List ℕ) where
    -- two expressions of one kind with one first operand
    two-same : (p q : Infix) (a b c d : Operand) → IsThere m b → IsThere m d → p ≡ q → a ≡ c
        → middle p ++ (operand_text m b ++ (closing p ++ (59 ∷ s))) ≡ middle q ++ (operand_text m d ++ (closing q ++ (59 ∷ t)))
        → (Two p a b ≡ Two q c d) × (s ≡ t)
    two-same p q a b c d there there' same first e =
        let e' : middle p ++ (operand_text m b ++ (closing p ++ (59 ∷ s))) ≡ middle p ++ (operand_text m d ++ (closing p ++ (59 ∷ t))) =
        subst (λ (o : Infix). middle p ++ (operand_text m b ++ (closing p ++ (59 ∷ s))) ≡ middle o ++ (operand_text m d ++ (closing o ++ (59 ∷ t)))) (sym same) e
        in
        let both =
        operand-same m named b d (closing p ++ (59 ∷ s)) (closing p ++ (59 ∷ t)) there there' (closing-stops p s) (closing-stops p t)
        (append_cancel_left (middle p) _ _ e')
        in
        let ends = append_cancel_left (closing p) (59 ∷ s) (59 ∷ t) both.1 in
        ((λ i. Two (same i) (first i) (both.0 i)), rests 59 59 s t ends)

    choice-same : (c a b d x y : Operand) → IsThere m a → IsThere m b → IsThere m x → IsThere m y → c ≡ d
        → codes " ? " ++ (operand_text m a ++ (codes " : " ++ (operand_text m b ++ (59 ∷ s)))) ≡ codes " ? " ++ (operand_text m x ++ (codes " : " ++ (operand_text m y ++ (59 ∷ t))))
        → (Choice c a b ≡ Choice d x y) × (s ≡ t)
    choice-same c a b d x y ta tb tx ty first e =
        let one =
        operand-same m named a x (32 ∷ 58 ∷ 32 ∷ (operand_text m b ++ (59 ∷ s))) (32 ∷ 58 ∷ 32 ∷ (operand_text m y ++ (59 ∷ t))) ta tx refl refl
        (append_cancel_left (codes " ? ") _ _ e)
        in
        let other = operand-same m named b y (59 ∷ s) (59 ∷ t) tb ty refl refl (append_cancel_left (codes " : ") _ _ one.1) in
        ((λ i. Choice (first i) (one.0 i) (other.0 i)), rests 59 59 s t other.1)

    extension-same : (a b : Operand) (j k c d : ℕ) → AreThere (Extension a j c) → AreThere (Extension b k d)
        → form_text m (Extension a j c) ++ (59 ∷ s) ≡ form_text m (Extension b k d) ++ (59 ∷ t)
        → (Extension a j c ≡ Extension b k d) × (s ≡ t)
    extension-same a b j k c d there there' e =
        let x : List ℕ = operand_text m a ++ tail_text (Extension a j c) (59 ∷ s) in
        let y : List ℕ = operand_text m b ++ tail_text (Extension b k d) (59 ∷ t) in
        let e' = sym (in-parts (Extension a j c) (59 ∷ s)) ∙ e ∙ in-parts (Extension b k d) (59 ∷ t) in
        let counts = append_cancel_left (codes "{{") ((decimal c ++ codes "{") ++ x) ((decimal d ++ codes "{") ++ y) e' in
        let number =
        number-same c d (123 ∷ x) (123 ∷ y) there.2 there'.2 refl refl
        (sym (append_assoc (decimal c) (codes "{") x) ∙ counts ∙ append_assoc (decimal d) (codes "{") y)
        in
        let operands = append_cancel_left (codes "{") x y number.1 in
        let first =
        operand-same m named a b (tail_text (Extension a j c) (59 ∷ s)) (tail_text (Extension b k d) (59 ∷ t)) there.0 there'.0
        (tail-stops (Extension a j c) s) (tail-stops (Extension b k d) t) operands
        in
        let u : List ℕ = 125 ∷ 44 ∷ 32 ∷ (operand_text m a ++ (125 ∷ 59 ∷ s)) in
        let v : List ℕ = 125 ∷ 44 ∷ 32 ∷ (operand_text m b ++ (125 ∷ 59 ∷ t)) in
        let tops = top-same u v j k there.1 there'.1 first.1 in
        let again =
        operand-same m named a b (125 ∷ 59 ∷ s) (125 ∷ 59 ∷ t) there.0 there'.0 refl refl (append_cancel_left (codes "}, ") _ _ tops.1)
        in
        ((λ i. Extension (first.0 i) (tops.0 i) (number.0 i)), rests 59 59 s t (rests 125 125 (59 ∷ s) (59 ∷ t) again.1))

    of-kind : (f g : Form) → AreThere f → AreThere g → is_extension (kind_of f) ≡ false → kind_of f ≡ kind_of g → operand_of f ≡ operand_of g
        → tail_text f (59 ∷ s) ≡ tail_text g (59 ∷ t) → (f ≡ g) × (s ≡ t)
    of-kind (One p a) (One q b) there there' plain same first e =
        let signs : p ≡ q = cc in
        ((λ i. One (signs i) (first i)), rests 59 59 s t e)
    of-kind (Two p a b) (Two q c d) there there' plain same first e =
        let signs : p ≡ q = cc in
        two-same p q a b c d there.1 there'.1 signs first e
    of-kind (Choice c a b) (Choice d x y) there there' plain same first e =
        choice-same c a b d x y there.1 there.2 there'.1 there'.2 first e
    of-kind (Slice a u l) (Slice b v k) there there' plain same first e =
        let all = bits-same (59 ∷ s) (59 ∷ t) u l v k there.1 there.2 there'.1 there'.2 e in
        ((λ i. Slice (first i) (all.0 i) (all.1 i)), rests 59 59 s t all.2)
    of-kind (Extension a top count) g there there' plain same first e = absurd (true≢false plain)
    of-kind f g there there' plain same first e = absurd cc

    -- two expressions that aren't extensions
    plain-same : (f g : Form) → AreThere f → AreThere g → is_extension (kind_of f) ≡ false → is_extension (kind_of g) ≡ false
        → form_text m f ++ (59 ∷ s) ≡ form_text m g ++ (59 ∷ t) → (f ≡ g) × (s ≡ t)
    plain-same f g there there' plain plain' e =
        let a = operand_of f in
        let b = operand_of g in
        let x : List ℕ = tail_text f (59 ∷ s) in
        let y : List ℕ = tail_text g (59 ∷ t) in
        let e' : opening_text f ++ (operand_text m a ++ x) ≡ opening_text g ++ (operand_text m b ++ y) =
        sym (in-parts f (59 ∷ s)) ∙ e ∙ in-parts g (59 ∷ t)
        in
        let begins = operand-begins m named a (first-there f there) in
        let begins' = operand-begins m named b (first-there g there') in
        let firsts : kind_begun (kind_of f) ≡ kind_begun (kind_of g) =
        sym (form-begun f (operand_text m a) x begins) ∙ ap begun e' ∙ form-begun g (operand_text m b) y begins'
        in
        let openings : opening_text f ≡ opening_text g = opens f plain ∙ ap opening_at firsts ∙ sym (opens g plain') in
        let both =
        operand-same m named a b x y (first-there f there) (first-there g there') (tail-stops f s) (tail-stops g t)
        (append_cancel_left (opening_text f) _ _ (e' ∙ ap (λ o. o ++ (operand_text m b ++ y)) (sym openings)))
        in
        let nexts : kind_following (kind_of f) ≡ kind_following (kind_of g) =
        sym (tail-follows f s plain) ∙ ap following both.1 ∙ tail-follows g t plain'
        in
        let kinds : kind_of f ≡ kind_of g = sym (kind-told (kind_of f)) ∙ (λ i. kind_at (firsts i) (nexts i)) ∙ kind-told (kind_of g) in
        of-kind f g there there' plain kinds both.0 both.1

    -- an extension and another
    extension-or-plain : (f g : Form) → AreThere f → AreThere g → is_extension (kind_of f) ≡ true → is_extension (kind_of g) ≡ false
        → form_text m f ++ (59 ∷ s) ≡ form_text m g ++ (59 ∷ t) → ⊥
    extension-or-plain f g there there' extends plain e =
        let a = operand_of f in
        let b = operand_of g in
        let x : List ℕ = tail_text f (59 ∷ s) in
        let y : List ℕ = tail_text g (59 ∷ t) in
        let firsts : kind_begun (kind_of f) ≡ kind_begun (kind_of g) =
        sym (form-begun f (operand_text m a) x (operand-begins m named a (first-there f there)))
        ∙ ap begun (sym (in-parts f (59 ∷ s)) ∙ e ∙ in-parts g (59 ∷ t))
        ∙ form-begun g (operand_text m b) y (operand-begins m named b (first-there g there'))
        in
        true≢false (sym extends ∙ sym (kind-extends (kind_of f)) ∙ ap (λ n. n == 323) firsts ∙ kind-extends (kind_of g) ∙ plain)

module _ (m : Module) (named : AreNamed m) (s t : List ℕ) where
  pub form-same : (f g : Form) → AreThere m f → AreThere m g → form_text m f ++ (59 ∷ s) ≡ form_text m g ++ (59 ∷ t) → (f ≡ g) × (s ≡ t)
  form-same (Extension a j c) (Extension b k d) there there' e = extension-same m named s t a b j k c d there there' e
  form-same (Extension a j c) g there there' e = absurd (extension-or-plain m named s t (Extension a j c) g there there' refl refl e)
  form-same f (Extension b k d) there there' e = absurd (extension-or-plain m named t s (Extension b k d) f there' there refl refl (sym e))
  form-same f g there there' e = plain-same m named s t f g there there' refl refl e
