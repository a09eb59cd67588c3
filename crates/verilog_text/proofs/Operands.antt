-- Operands are read off their texts: no two of a module's signals have one name, and no name is a constant's or a wire's.
use Rattle.std.proofs.Common.{◌≡◌, ℕ, ◌^◌, ◌<◌, ◌+◌, true, true≢false, List, [], ◌∷◌, ◌++◌, length, map, get_or, slice_get, option_map, decimal, Some, Option, inl, inr, ⊎_elim, arith, refl, sym, ap, subst, ◌∙◌, length-append, get_or-append-add}
use Rattle.std.specs.Char.{is_ascii_digit}
use Rattle.std.specs.List.{list_all}
use Rattle.std.specs.Option.{option_to_list}
use Rattle.std.proofs.lemmas.Bool.{and_parts, cases_order}
use Rattle.std.proofs.lemmas.Fmt.{decimal_is_IsNumeral_wide}
use Rattle.std.proofs.lemmas.List.{get_or_append_left, length-map}
use Rattle.std.proofs.lemmas.Option.{get_or_from_slice_get, slice_get-map, slice_get_within}
use Rattle.kw_bits.specs.BitVector.{BitVector, IsBits}
use Rattle.verilog_text.specs.Modules.{AreNamed, IsName, IsSignal, begins_word, continues_word, names_of}
use Rattle.verilog_text.specs.Texts.{constant_text, input_name, operand_text, register_name, wire_name}
use Rattle.verilog_text.specs.inner.Words.{StopsAt}
use Rattle.verilog_text.specs.declared.module.Module.{Module}
use Rattle.verilog_text.specs.declared.module.Operand.{Operand}
use Rattle.verilog_text.specs.declared.module.Operand.TheVariants.{Constant, Input, Register as Held, Wire as Inner}
use Rattle.verilog_text.specs.declared.module.Output.{Output}
use Rattle.verilog_text.specs.declared.module.Port.{Port}
use Rattle.verilog_text.specs.declared.module.Register.{Register}
use Rattle.verilog_text.proofs.Stretches.{Begins, all-weaker, constant-begins, constant-same, decimal-passes, decimal-same, digit-begins, digit-passes, digits-stop, is_name_byte, letter-begins, letters-or-digits, name-begins, name-passes, begins-more, stretch-same}

-- ---- the names of wires are no others

wire-no-name : (n : ℕ) → n < 10 ^ 64 → IsName (wire_name n) → ⊥
wire-no-name n small (inl (word, free)) = true≢false (sym (and_parts (continues_word 36) (list_all continues_word (decimal n)) word.1).0)
wire-no-name n small (inr ([], is, e)) = absurd is
wire-no-name n small (inr (b ∷ [], is, e)) =
    let none : decimal n ≡ [] = cc in
    omega (arith, (decimal_is_IsNumeral_wide n small).0.0, ap length none)
wire-no-name n small (inr (b ∷ c ∷ word, is, e)) =
    let mark : c ≡ 36 = cc in
    let passes : continues_word c ≡ true = (and_parts (continues_word c) (list_all continues_word word) is.1).0 in
    true≢false (sym passes ∙ ap continues_word mark)

-- ---- where names are

module _ (m : Module) where
  abbrev pub front : List (List ℕ)
  front = m.name ∷ m.clock ∷ option_to_list m.reset

  abbrev pub input_names : List (List ℕ)
  input_names = map (λ (port : Port). port.name) m.inputs

  abbrev pub output_names : List (List ℕ)
  output_names = map (λ (output : Output). output.name) m.outputs

  abbrev pub register_names : List (List ℕ)
  register_names = map (λ (register : Register). register.name) m.registers

  -- the operand is there
  abbrev pub IsThere : Operand → Type 0
  IsThere (Constant value) = IsBits value
  IsThere (Input number) = (port : Port) × (slice_get m.inputs number ≡ Some port)
  IsThere (Held number) = (register : Register) × (slice_get m.registers number ≡ Some register)
  IsThere (Inner number) = number < 10 ^ 64

  -- a name at a place
  record IsAt (place : ℕ) (name : List ℕ) : Type 0 where
    within : place < length (names_of m)
    is : get_or (names_of m) place [] ≡ name

  input-at : (n : ℕ) (port : Port) → slice_get m.inputs n ≡ Some port → IsAt (length front + n) port.name
  input-at n port e =
      let here : n < length m.inputs = slice_get_within m.inputs n port e in
      let count = length-map m.inputs (λ (port : Port). port.name) in
      let a = length-append front input_names in
      let b = length-append (front ++ input_names) output_names in
      let c = length-append (front ++ input_names ++ output_names) register_names in
      let k : ℕ = length front + n in
      let own : get_or input_names n [] ≡ port.name =
      get_or_from_slice_get input_names n port.name [] (slice_get-map (λ (port : Port). port.name) m.inputs n ∙ ap (option_map (λ (port : Port). port.name)) e)
      in
      record {
        within = omega (arith, here, count, a, b, c);
        is =
            get_or_append_left (front ++ input_names ++ output_names) register_names [] k (omega (arith, here, count, a, b))
            ∙ get_or_append_left (front ++ input_names) output_names [] k (omega (arith, here, count, a))
            ∙ get_or-append-add front input_names n []
            ∙ own;
      }

  register-at : (n : ℕ) (register : Register) → slice_get m.registers n ≡ Some register → IsAt (length (front ++ input_names ++ output_names) + n) register.name
  register-at n register e =
      let here : n < length m.registers = slice_get_within m.registers n register e in
      let count = length-map m.registers (λ (register : Register). register.name) in
      let c = length-append (front ++ input_names ++ output_names) register_names in
      let own : get_or register_names n [] ≡ register.name =
      get_or_from_slice_get register_names n register.name [] (slice_get-map (λ (register : Register). register.name) m.registers n ∙ ap (option_map (λ (register : Register). register.name)) e)
      in
      record {
        within = omega (arith, here, count, c);
        is = get_or-append-add (front ++ input_names ++ output_names) register_names n [] ∙ own;
      }

  module _ (named : AreNamed m) where
    name-is : (place : ℕ) (name : List ℕ) → IsAt place name → IsName name
    name-is place name at = subst IsName at.is (named.names place [] at.within)

    -- two places of one name are one
    places-same : (i j : ℕ) (a b : List ℕ) → IsAt i a → IsAt j b → a ≡ b → i ≡ j
    places-same i j a b at at' e =
        let same : get_or (names_of m) i [] ≡ get_or (names_of m) j [] = at.is ∙ e ∙ sym at'.is in
        ⊎_elim (λ is. is)
        (λ apart.
        ⊎_elim (λ less. absurd (named.distinct i j [] less at'.within same))
        (λ more. absurd (named.distinct j i [] more at.within (sym same)))
        apart)
        (cases_order i j)

    -- an input isn't after all outputs
    apart : (n k : ℕ) → n < length m.inputs → length front + n ≡ length (front ++ input_names ++ output_names) + k → ⊥
    apart n k here e =
        let count = length-map m.inputs (λ (port : Port). port.name) in
        let a = length-append front input_names in
        let b = length-append (front ++ input_names) output_names in
        omega (arith, here, count, a, b, e)

    module _ (n k : ℕ) where
      inputs-same : (p q : Port) → slice_get m.inputs n ≡ Some p → slice_get m.inputs k ≡ Some q → p.name ≡ q.name → n ≡ k
      inputs-same p q at at' e =
          let same = places-same (length front + n) (length front + k) p.name q.name (input-at n p at) (input-at k q at') e in
          omega (arith, same)

      registers-same : (r q : Register) → slice_get m.registers n ≡ Some r → slice_get m.registers k ≡ Some q → r.name ≡ q.name → n ≡ k
      registers-same r q at at' e =
          let l : ℕ = length (front ++ input_names ++ output_names) in
          let same : l + n ≡ l + k = places-same (l + n) (l + k) r.name q.name (register-at n r at) (register-at k q at') e in
          omega (arith, same)

      input-or-register : (p : Port) (r : Register) → slice_get m.inputs n ≡ Some p → slice_get m.registers k ≡ Some r → p.name ≡ r.name → ⊥
      input-or-register p r at at' e =
          apart n k (slice_get_within m.inputs n p at)
          (places-same (length front + n) (length (front ++ input_names ++ output_names) + k) p.name r.name (input-at n p at) (register-at k r at') e)

      input-or-wire : (p : Port) → slice_get m.inputs n ≡ Some p → k < 10 ^ 64 → p.name ≡ wire_name k → ⊥
      input-or-wire p at small e =
          wire-no-name k small (subst IsName e (name-is (length front + n) p.name (input-at n p at)))

      register-or-wire : (r : Register) → slice_get m.registers n ≡ Some r → k < 10 ^ 64 → r.name ≡ wire_name k → ⊥
      register-or-wire r at small e =
          wire-no-name k small (subst IsName e (name-is (length (front ++ input_names ++ output_names) + n) r.name (register-at n r at)))

      wires-same : n < 10 ^ 64 → k < 10 ^ 64 → wire_name n ≡ wire_name k → n ≡ k
      wires-same small small' e = let digits : decimal n ≡ decimal k = cc in decimal-same n k small small' digits

    -- signals of one name are one
    signal-same : (x y : Operand) → IsSignal x → IsSignal y → IsThere x → IsThere y → operand_text m x ≡ operand_text m y → x ≡ y
    unfolding operand_text
    signal-same (Constant v) y is is' there there' e = absurd is
    signal-same x (Constant w) is is' there there' e = absurd is'
    signal-same (Input n) (Input k) is is' (p, at) (q, at') e =
        ap (λ i. Input i) (inputs-same n k p q at at' (sym (ap input_name at) ∙ e ∙ ap input_name at'))
    signal-same (Input n) (Held k) is is' (p, at) (r, at') e =
        absurd (input-or-register n k p r at at' (sym (ap input_name at) ∙ e ∙ ap register_name at'))
    signal-same (Input n) (Inner k) is is' (p, at) small e = absurd (input-or-wire n k p at small (sym (ap input_name at) ∙ e))
    signal-same (Held n) (Input k) is is' (r, at) (p, at') e =
        absurd (input-or-register k n p r at' at (sym (ap input_name at') ∙ sym e ∙ ap register_name at))
    signal-same (Held n) (Held k) is is' (r, at) (q, at') e =
        ap (λ i. Held i) (registers-same n k r q at at' (sym (ap register_name at) ∙ e ∙ ap register_name at'))
    signal-same (Held n) (Inner k) is is' (r, at) small e = absurd (register-or-wire n k r at small (sym (ap register_name at) ∙ e))
    signal-same (Inner n) (Input k) is is' small (p, at) e = absurd (input-or-wire k n p at small (sym (ap input_name at) ∙ sym e))
    signal-same (Inner n) (Held k) is is' small (r, at) e = absurd (register-or-wire k n r at small (sym (ap register_name at) ∙ sym e))
    signal-same (Inner n) (Inner k) is is' small small' e = ap (λ i. Inner i) (wires-same n k small small' e)

    signal-named : (x : Operand) → IsSignal x → IsThere x → list_all is_name_byte (operand_text m x) ≡ true
    unfolding operand_text
    signal-named (Constant v) is there = absurd is
    signal-named (Input n) is (p, at) =
        ap (λ (o : Option Port). list_all is_name_byte (input_name o)) at
        ∙ name-passes p.name (name-is (length front + n) p.name (input-at n p at))
    signal-named (Held n) is (r, at) =
        ap (λ (o : Option Register). list_all is_name_byte (register_name o)) at
        ∙ name-passes r.name (name-is (length (front ++ input_names ++ output_names) + n) r.name (register-at n r at))
    signal-named (Inner n) is small = all-weaker is_ascii_digit is_name_byte (decimal n) digit-passes (decimal-passes n small)

    signal-begins : (x : Operand) → IsSignal x → IsThere x → Begins begins_word (operand_text m x)
    unfolding operand_text
    signal-begins (Constant v) is there = absurd is
    signal-begins (Input n) is (p, at) =
        subst (λ (o : Option Port). Begins begins_word (input_name o)) (sym at)
        (name-begins p.name (name-is (length front + n) p.name (input-at n p at)))
    signal-begins (Held n) is (r, at) =
        subst (λ (o : Option Register). Begins begins_word (register_name o)) (sym at)
        (name-begins r.name (name-is (length (front ++ input_names ++ output_names) + n) r.name (register-at n r at)))
    signal-begins (Inner n) is small = record { byte = 119; rest = 36 ∷ decimal n; is = refl; passes = refl }

    pub operand-begins : (x : Operand) → IsThere x → Begins continues_word (operand_text m x)
    unfolding operand_text
    operand-begins (Constant v) there = digit-begins (constant_text v) (constant-begins v there)
    operand-begins (Input n) there = letter-begins (operand_text m (Input n)) (signal-begins (Input n) tt there)
    operand-begins (Held n) there = letter-begins (operand_text m (Held n)) (signal-begins (Held n) tt there)
    operand-begins (Inner n) there = letter-begins (operand_text m (Inner n)) (signal-begins (Inner n) tt there)

    -- a constant isn't a signal
    constant-or-signal : (v : BitVector) (y : Operand) (s t : List ℕ) → IsBits v → IsSignal y → IsThere y
        → constant_text v ++ s ≡ operand_text m y ++ t → ⊥
    constant-or-signal v y s t bits is there e =
        letters-or-digits (operand_text m y ++ t) (constant_text v ++ s)
        (begins-more begins_word (operand_text m y) t (signal-begins y is there))
        (begins-more is_ascii_digit (constant_text v) s (constant-begins v bits)) (sym e)

    signals-same : (x y : Operand) (s t : List ℕ) → IsSignal x → IsSignal y → IsThere x → IsThere y → StopsAt is_name_byte s → StopsAt is_name_byte t
        → operand_text m x ++ s ≡ operand_text m y ++ t → (x ≡ y) × (s ≡ t)
    signals-same x y s t is is' there there' stops stops' e =
        let both =
        stretch-same is_name_byte (operand_text m x) (operand_text m y) s t (signal-named x is there) (signal-named y is' there') stops stops' e
        in
        (signal-same x y is is' there there' both.0, both.1)

    pub operand-same : (x y : Operand) (s t : List ℕ) → IsThere x → IsThere y → StopsAt is_name_byte s → StopsAt is_name_byte t
        → operand_text m x ++ s ≡ operand_text m y ++ t → (x ≡ y) × (s ≡ t)
    unfolding operand_text
    operand-same (Constant v) (Constant w) s t there there' stops stops' e =
        let both = constant-same v w s t there there' (digits-stop s stops) (digits-stop t stops') e in
        (ap (λ c. Constant c) both.0, both.1)
    operand-same (Constant v) y s t there there' stops stops' e = absurd (constant-or-signal v y s t there tt there' e)
    operand-same x (Constant w) s t there there' stops stops' e = absurd (constant-or-signal w x t s there' tt there (sym e))
    operand-same x y s t there there' stops stops' e = signals-same x y s t tt tt there there' stops stops' e
