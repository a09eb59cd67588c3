-- Lines are read off the text of a module, one after another.
use Rattle.std.proofs.Common.{◌≡◌, ◌⊎◌, ℕ, ◌^◌, ◌<◌, ◌≤◌, ◌+◌, ◌-◌, ◌==◌, if◌then◌else◌, Bool, true, false, true≢false, List, [], ◌∷◌, ◌++◌, length, map, slice_get, option_map, Option, Some, None, codes, decimal, inl, inr, ⊎_elim, arith, refl, sym, ap, ap₂, subst, ◌∙◌, append_assoc, length-append}
use Rattle.std.specs.Prelude.{All}
use Rattle.std.specs.List.{AllByRecursion}
use Rattle.std.proofs.lemmas.Bool.{eqb-true}
use Rattle.std.proofs.lemmas.List.{append_cancel_left}
use Rattle.std.proofs.lemmas.List.Elements.{All-push}
use Rattle.std.proofs.lemmas.Option.{get_or_from_slice_get, none-some, same_Some, slice_get-map, slice_get_within}
use Rattle.kw_bits.specs.BitVector.{BitVector, IsBits}
use Rattle.verilog_text.specs.Modules.{AreNamed, FormFits, HasOperand, IsName, IsWidth, Widths, WiresFit, continues_word, with_wire}
use Rattle.verilog_text.specs.Texts.{assign_line, constant_text, each, form_text, kind_text, next_line, operand_text, port_line, range_text, wire_line, wire_lines, wire_name}
use Rattle.verilog_text.specs.inner.Words.{StopsAt}
use Rattle.verilog_text.specs.declared.module.Form.{Form}
use Rattle.verilog_text.specs.declared.module.Form.TheVariants.{One, Two, Choice, Slice, Extension}
use Rattle.verilog_text.specs.declared.module.Module.{Module}
use Rattle.verilog_text.specs.declared.module.Operand.{Operand}
use Rattle.verilog_text.specs.declared.module.Operand.TheVariants.{Constant, Input, Register as Held, Wire as Inner}
use Rattle.verilog_text.specs.declared.module.Output.{Output}
use Rattle.verilog_text.specs.declared.module.Port.{Port}
use Rattle.verilog_text.specs.declared.module.Register.{Register}
use Rattle.verilog_text.specs.declared.module.Wire.{Wire}
use Rattle.verilog_text.proofs.Forms.{AreThere, form-same, head, rest, rests}
use Rattle.verilog_text.proofs.Operands.{IsThere, operand-same}
use Rattle.verilog_text.proofs.Stretches.{Begins, begins-more, constant-same, is_name_byte, letter-begins, name-begins, name-passes, number-same, stretch-same}

-- ---- lists of lines

-- texts one after another
three : (a b c s : List ℕ) → a ++ b ++ c ++ s ≡ a ++ (b ++ (c ++ s))
three a b c s = simp append_assoc

five : (a b c d e s : List ℕ) → a ++ b ++ c ++ d ++ e ++ s ≡ a ++ (b ++ (c ++ (d ++ (e ++ s))))
five a b c d e s = simp append_assoc

six : (a b c d e f s : List ℕ) → a ++ b ++ c ++ d ++ e ++ f ++ s ≡ a ++ (b ++ (c ++ (d ++ (e ++ (f ++ s)))))
six a b c d e f s = simp append_assoc

seven : (a b c d e f g s : List ℕ) → a ++ b ++ c ++ d ++ e ++ f ++ g ++ s ≡ a ++ (b ++ (c ++ (d ++ (e ++ (f ++ (g ++ s))))))
seven a b c d e f g s = simp append_assoc

module _ {A : Type 0} (f : A → List ℕ) (IsFine : A → Type 0) where
  -- a text that doesn't go on with such a line
  abbrev pub Ends : List ℕ → Type 0
  Ends text = (x : A) (s : List ℕ) → IsFine x → f x ++ s ≡ text → ⊥

  -- lines are read off
  abbrev pub AreReadOff : Type 0
  AreReadOff = (x y : A) (s t : List ℕ) → IsFine x → IsFine y → f x ++ s ≡ f y ++ t → (x ≡ y) × (s ≡ t)

  pub each-same : AreReadOff → (xs ys : List A) (s t : List ℕ) → AllByRecursion IsFine xs → AllByRecursion IsFine ys → Ends s → Ends t
      → each f xs ++ s ≡ each f ys ++ t → (xs ≡ ys) × (s ≡ t)
  each-same read [] [] s t fine fine' ends ends' e = (refl, e)
  each-same read [] (y ∷ ys) s t fine fine' ends ends' e =
      absurd (ends y (each f ys ++ t) fine'.0 (sym (append_assoc (f y) (each f ys) t) ∙ sym e))
  each-same read (x ∷ xs) [] s t fine fine' ends ends' e =
      absurd (ends' x (each f xs ++ s) fine.0 (sym (append_assoc (f x) (each f xs) s) ∙ e))
  each-same read (x ∷ xs) (y ∷ ys) s t fine fine' ends ends' e =
      let first =
      read x y (each f xs ++ s) (each f ys ++ t) fine.0 fine'.0
      (sym (append_assoc (f x) (each f xs) s) ∙ e ∙ append_assoc (f y) (each f ys) t)
      in
      let more = each-same read xs ys s t fine.1 fine'.1 ends ends' first.1 in
      (ap₂ (λ z zs. z ∷ zs) first.0 more.0, more.1)

pub each-map : {A B : Type 0} (f : B → List ℕ) (g : A → B) (xs : List A) → each (λ (x : A). f (g x)) xs ≡ each f (map g xs)
each-map f g [] = refl
each-map f g (x ∷ xs) = ap (λ t. f (g x) ++ t) (each-map f g xs)

pub each-append : {A : Type 0} (f : A → List ℕ) (xs ys : List A) → each f (xs ++ ys) ≡ each f xs ++ each f ys
each-append f [] ys = refl
each-append f (x ∷ xs) ys = ap (λ t. f x ++ t) (each-append f xs ys) ∙ sym (append_assoc (f x) (each f xs) (each f ys))

-- the third byte of a text
abbrev pub third : List ℕ → ℕ
third text = head (rest (rest text))

-- ---- names and ranges

pub name-same : (x y s t : List ℕ) → IsName x → IsName y → StopsAt is_name_byte s → StopsAt is_name_byte t → x ++ s ≡ y ++ t → (x ≡ y) × (s ≡ t)
name-same x y s t is is' stops stops' e = stretch-same is_name_byte x y s t (name-passes x is) (name-passes y is') stops stops' e

-- a text that begins with a letter or a digit doesn't begin with a bracket
no-bracket : (s t : List ℕ) → Begins continues_word s → s ≡ 91 ∷ t → ⊥
no-bracket s t begins e =
    true≢false (sym begins.passes ∙ ap continues_word (sym (ap head begins.is) ∙ ap head e))

wide-is : (w : ℕ) (s : List ℕ) → (codes "[" ++ decimal (w - 1) ++ codes ":0] ") ++ s ≡ 91 ∷ (decimal (w - 1) ++ (codes ":0] " ++ s))
wide-is w s = ap (λ t. 91 ∷ t) (append_assoc (decimal (w - 1)) (codes ":0] ") s)

module _ (s t : List ℕ) where
  wide-same : (w v : ℕ) → IsWidth w → IsWidth v
      → (codes "[" ++ decimal (w - 1) ++ codes ":0] ") ++ s ≡ (codes "[" ++ decimal (v - 1) ++ codes ":0] ") ++ t → (w ≡ v) × (s ≡ t)
  wide-same w v is is' e =
      let x : List ℕ = codes ":0] " ++ s in
      let y : List ℕ = codes ":0] " ++ t in
      let digits = rests 91 91 (decimal (w - 1) ++ x) (decimal (v - 1) ++ y) (sym (wide-is w s) ∙ e ∙ wide-is v t) in
      let small : w - 1 < 10 ^ 64 = omega (arith, is.1) in
      let small' : v - 1 < 10 ^ 64 = omega (arith, is'.1) in
      let both = number-same (w - 1) (v - 1) x y small small' refl refl digits in
      let same : w ≡ v = omega (arith, both.0, is.0, is'.0) in
      (same, append_cancel_left (codes ":0] ") s t both.1)

  range-same : (w v : ℕ) → IsWidth w → IsWidth v → Begins continues_word s → Begins continues_word t
      → range_text w ++ s ≡ range_text v ++ t → (w ≡ v) × (s ≡ t)
  range-same w v is is' begins begins' e = go (w == 1) (v == 1) refl refl e
    where
      go : (a b : Bool) → (w == 1) ≡ a → (v == 1) ≡ b
          → (if a then [] else codes "[" ++ decimal (w - 1) ++ codes ":0] ") ++ s ≡ (if b then [] else codes "[" ++ decimal (v - 1) ++ codes ":0] ") ++ t
          → (w ≡ v) × (s ≡ t)
      go true true p q e = (eqb-true w 1 p ∙ sym (eqb-true v 1 q), e)
      go true false p q e = absurd (no-bracket s (decimal (v - 1) ++ (codes ":0] " ++ t)) begins (e ∙ wide-is v t))
      go false true p q e = absurd (no-bracket t (decimal (w - 1) ++ (codes ":0] " ++ s)) begins' (sym e ∙ wide-is w s))
      go false false p q e = wide-same w v is is' e

named-begins : (name more : List ℕ) → IsName name → Begins continues_word (name ++ more)
named-begins name more is = begins-more continues_word name more (letter-begins name (name-begins name is))

-- ---- inputs

abbrev pub IsPort : Port → Type 0
IsPort port = IsName port.name × IsWidth port.width

port-is : (port : Port) (s : List ℕ) → port_line port ++ s ≡ codes "  input " ++ (range_text port.width ++ (port.name ++ (59 ∷ 10 ∷ s)))
port-is port s = five (codes "  input ") (range_text port.width) port.name (codes ";") (10 ∷ []) s

pub ports-same : AreReadOff port_line IsPort
ports-same p q s t is is' e =
    let x : List ℕ = 59 ∷ 10 ∷ s in
    let y : List ℕ = 59 ∷ 10 ∷ t in
    let all = append_cancel_left (codes "  input ") _ _ (sym (port-is p s) ∙ e ∙ port-is q t) in
    let widths =
    range-same (p.name ++ x) (q.name ++ y) p.width q.width is.1 is'.1 (named-begins p.name x is.0) (named-begins q.name y is'.0) all
    in
    let names = name-same p.name q.name x y is.0 is'.0 refl refl widths.1 in
    ((λ i. record { name = names.0 i; width = widths.0 i }), append_cancel_left (codes ";" ++ (10 ∷ [])) s t names.1)

pub ports-end : (text : List ℕ) → (third text ≡ 105 → ⊥) → Ends port_line IsPort text
ports-end text other port s is e = other (sym (ap third e))

-- ---- outputs

abbrev pub name_line : List ℕ → List ℕ
name_line name = codes "  output " ++ name ++ codes ";" ++ (10 ∷ [])

name_line-is : (name s : List ℕ) → name_line name ++ s ≡ codes "  output " ++ (name ++ (59 ∷ 10 ∷ s))
name_line-is name s =
    append_assoc (codes "  output " ++ name ++ codes ";") (10 ∷ []) s
    ∙ append_assoc (codes "  output " ++ name) (codes ";") (10 ∷ s)
    ∙ append_assoc (codes "  output ") name (59 ∷ 10 ∷ s)

pub names-same : AreReadOff name_line IsName
names-same x y s t is is' e =
    let all = append_cancel_left (codes "  output ") _ _ (sym (name_line-is x s) ∙ e ∙ name_line-is y t) in
    let names = name-same x y (59 ∷ 10 ∷ s) (59 ∷ 10 ∷ t) is is' refl refl all in
    (names.0, append_cancel_left (codes ";" ++ (10 ∷ [])) s t names.1)

-- ---- registers

-- what a register's declaration says
pub record Head : Type 0 where
  pub name : List ℕ
  pub is_port : Bool
  pub first : BitVector

abbrev pub head_of : Register → Head
head_of register = record { name = register.name; is_port = register.is_port; first = register.first }

abbrev pub head_line : Head → List ℕ
head_line h =
    kind_text h.is_port ++ range_text h.first.width ++ h.name ++ codes " = " ++ constant_text h.first ++ codes ";" ++ (10 ∷ [])

abbrev pub IsHead : Head → Type 0
IsHead h = IsName h.name × IsBits h.first

head-is : (h : Head) (s : List ℕ)
    → head_line h ++ s ≡ kind_text h.is_port ++ (range_text h.first.width ++ (h.name ++ (codes " = " ++ (constant_text h.first ++ (59 ∷ 10 ∷ s)))))
head-is h s = seven (kind_text h.is_port) (range_text h.first.width) h.name (codes " = ") (constant_text h.first) (codes ";") (10 ∷ []) s

kinds-same : (p q : Bool) (s t : List ℕ) → kind_text p ++ s ≡ kind_text q ++ t → (p ≡ q) × (s ≡ t)
kinds-same true true s t e = (refl, append_cancel_left (codes "  output reg ") s t e)
kinds-same false false s t e = (refl, append_cancel_left (codes "  reg ") s t e)
kinds-same true false s t e = let bad : 111 ≡ 114 = ap third e in absurd (omega (arith, bad))
kinds-same false true s t e = let bad : 114 ≡ 111 = ap third e in absurd (omega (arith, bad))

bits-width : (v : BitVector) → IsBits v → IsWidth v.width
bits-width v is = (is.some_bit, is.no_wider)

pub heads-same : AreReadOff head_line IsHead
heads-same h k s t is is' e =
    let x : List ℕ = codes " = " ++ (constant_text h.first ++ (59 ∷ 10 ∷ s)) in
    let y : List ℕ = codes " = " ++ (constant_text k.first ++ (59 ∷ 10 ∷ t)) in
    let kinds = kinds-same h.is_port k.is_port _ _ (sym (head-is h s) ∙ e ∙ head-is k t) in
    let widths =
    range-same (h.name ++ x) (k.name ++ y) h.first.width k.first.width (bits-width h.first is.1) (bits-width k.first is'.1)
    (named-begins h.name x is.0) (named-begins k.name y is'.0) kinds.1
    in
    let names = name-same h.name k.name x y is.0 is'.0 refl refl widths.1 in
    let values =
    constant-same h.first k.first (59 ∷ 10 ∷ s) (59 ∷ 10 ∷ t) is.1 is'.1 refl refl (append_cancel_left (codes " = ") _ _ names.1)
    in (
      (λ i. record { name = names.0 i; is_port = kinds.0 i; first = values.0 i }),
      append_cancel_left (codes ";" ++ (10 ∷ [])) s t values.1,
    )

pub third-head : (h : Head) (s : List ℕ) → (third (head_line h ++ s) ≡ 111) ⊎ (third (head_line h ++ s) ≡ 114)
third-head h s = go h.is_port _ (head-is h s)
  where
    go : (p : Bool) (more : List ℕ) → head_line h ++ s ≡ kind_text p ++ more
        → (third (head_line h ++ s) ≡ 111) ⊎ (third (head_line h ++ s) ≡ 114)
    go true more e = inl (ap third e)
    go false more e = inr (ap third e)

pub heads-end : (text : List ℕ) → (third text ≡ 111 → ⊥) → (third text ≡ 114 → ⊥) → Ends head_line IsHead text
heads-end text none none' h s is e = ⊎_elim (λ a. none (sym (ap third e) ∙ a)) (λ a. none' (sym (ap third e) ∙ a)) (third-head h s)

-- no output is a register's declaration
name-or-head : (h : Head) (x s t : List ℕ) → IsName x → name_line x ++ s ≡ head_line h ++ t → ⊥
name-or-head h x s t is e = go h.is_port _ (sym (name_line-is x s) ∙ e ∙ head-is h t)
  where
    go : (p : Bool) (more : List ℕ) → codes "  output " ++ (x ++ (59 ∷ 10 ∷ s)) ≡ kind_text p ++ more → ⊥
    go false more e = let bad : 111 ≡ 114 = ap third e in omega (arith, bad)
    go true more e =
        let both =
        stretch-same is_name_byte x (codes "reg") (59 ∷ 10 ∷ s) (32 ∷ more) (name-passes x is) refl refl refl
        (append_cancel_left (codes "  output ") _ _ e)
        in
        let bad : 59 ≡ 32 = ap head both.1 in
        omega (arith, bad)

pub names-end : (hs : List Head) (t : List ℕ) → (third t ≡ 111 → ⊥) → Ends name_line IsName (each head_line hs ++ t)
names-end [] t none x s is e = none (sym (ap third e))
names-end (h ∷ hs) t none x s is e = name-or-head h x s (each head_line hs ++ t) is (e ∙ append_assoc (head_line h) (each head_line hs) t)

-- ---- what is there

option_map-some : {A B : Type 0} (f : A → B) (o : Option A) (y : B) → option_map f o ≡ Some y → (x : A) × (o ≡ Some x) × (f x ≡ y)
option_map-some f None y e = absurd (none-some y e)
option_map-some f (Some x) y e = (x, refl, same_Some (f x) y e)

-- a wire has a width, and its operands are there
abbrev pub IsFineWire : Module → Wire → Type 0
IsFineWire m wire = IsWidth wire.width × AreThere m wire.form

module _ (m : Module) (ports : All (λ (port : Port). IsWidth port.width) m.inputs)
    (held : All (λ (register : Register). IsBits register.first) m.registers) where
  -- widths are those of the module's signals, of which there are few
  pub record Knows (ws : Widths) : Type 0 where
    pub inputs : ws.inputs ≡ map (λ (port : Port). port.width) m.inputs
    pub registers : ws.registers ≡ map (λ (register : Register). register.first.width) m.registers
    pub few : length ws.wires < 10 ^ 64
    pub wires : All IsWidth ws.wires

  module _ (ws : Widths) (knows : Knows ws) where
    input-there : (n k : ℕ) → slice_get ws.inputs n ≡ Some k → (port : Port) × (slice_get m.inputs n ≡ Some port) × (port.width ≡ k)
    input-there n k e =
        option_map-some (λ (port : Port). port.width) (slice_get m.inputs n) k
        (sym (slice_get-map (λ (port : Port). port.width) m.inputs n) ∙ ap (λ xs. slice_get xs n) (sym knows.inputs) ∙ e)

    register-there : (n k : ℕ) → slice_get ws.registers n ≡ Some k
        → (register : Register) × (slice_get m.registers n ≡ Some register) × (register.first.width ≡ k)
    register-there n k e =
        option_map-some (λ (register : Register). register.first.width) (slice_get m.registers n) k
        (sym (slice_get-map (λ (register : Register). register.first.width) m.registers n) ∙ ap (λ xs. slice_get xs n) (sym knows.registers) ∙ e)

    pub operand-there : (x : Operand) (k : ℕ) → HasOperand ws x k → IsThere m x
    operand-there (Constant v) k has = has.0
    operand-there (Input n) k has = let found = input-there n k has in (found.0, found.1)
    operand-there (Held n) k has = let found = register-there n k has in (found.0, found.1)
    operand-there (Inner n) k has = omega (arith, slice_get_within ws.wires n k has, knows.few)

    operand-narrow : (x : Operand) (k : ℕ) → HasOperand ws x k → k ≤ 128
    operand-narrow (Constant v) k has = omega (arith, has.0.no_wider, has.1)
    operand-narrow (Input n) k has =
        let found = input-there n k has in
        let wide : IsWidth found.0.width =
        subst (λ (port : Port). IsWidth port.width) (get_or_from_slice_get m.inputs n found.0 found.0 found.1)
        (ports n found.0 (slice_get_within m.inputs n found.0 found.1))
        in
        omega (arith, wide.1, found.2)
    operand-narrow (Held n) k has =
        let found = register-there n k has in
        let bits : IsBits found.0.first =
        subst (λ (register : Register). IsBits register.first) (get_or_from_slice_get m.registers n found.0 found.0 found.1)
        (held n found.0 (slice_get_within m.registers n found.0 found.1))
        in
        omega (arith, bits.no_wider, found.2)
    operand-narrow (Inner n) k has =
        let wide : IsWidth k =
        subst IsWidth (get_or_from_slice_get ws.wires n k 0 has) (knows.wires n 0 (slice_get_within ws.wires n k has))
        in
        wide.1

    form-there : (own : ℕ) (f : Form) → IsWidth own → FormFits ws own f → AreThere m f
    form-there own (One operator a) wide (k, has, fits) = operand-there a k has
    form-there own (Two operator a b) wide (k, (l, has, has', fits, small)) = (operand-there a k has, operand-there b l has')
    form-there own (Choice c a b) wide fits = (operand-there c 1 fits.0, operand-there a own fits.1, operand-there b own fits.2)
    form-there own (Slice a upper lower) wide (signal, (k, has, order, within, fewer, is)) =
        let narrow = operand-narrow a k has in
        (operand-there a k has, omega (arith, within, narrow), omega (arith, order, within, narrow))
    form-there own (Extension a top count) wide fits =
        (operand-there a (top + 1) fits.1, omega (arith, fits.3, wide.1), omega (arith, fits.3, wide.1))

  pub wires-there : (ws : Widths) (wires : List Wire) → Knows ws → length ws.wires + length wires < 10 ^ 64 → WiresFit ws wires
      → AllByRecursion (IsFineWire m) wires
  wires-there ws [] knows few fits = tt
  wires-there ws (wire ∷ wires) knows few fits =
      let count = length-append ws.wires (wire.width ∷ []) in
      let next : Knows (with_wire ws wire.width) = record {
        inputs = knows.inputs;
        registers = knows.registers;
        few = omega (arith, few, count);
        wires = All-push IsWidth ws.wires wire.width knows.wires fits.0;
      } in (
        (fits.0, form-there ws knows wire.width wire.form fits.0 fits.1),
        wires-there (with_wire ws wire.width) wires next (omega (arith, few, count)) fits.2,
      )

-- ---- wires, outputs and next values

module _ (m : Module) (named : AreNamed m) where
  wire-is : (n : ℕ) (wire : Wire) (s : List ℕ)
      → wire_line m n wire ++ s ≡ codes "  wire " ++ (range_text wire.width ++ (wire_name n ++ (codes " = " ++ (form_text m wire.form ++ (59 ∷ 10 ∷ s)))))
  wire-is n wire s =
      seven (codes "  wire ") (range_text wire.width) (wire_name n) (codes " = ") (form_text m wire.form) (codes ";") (10 ∷ []) s

  wire-same : (n : ℕ) (v w : Wire) (s t : List ℕ) → IsFineWire m v → IsFineWire m w → wire_line m n v ++ s ≡ wire_line m n w ++ t → (v ≡ w) × (s ≡ t)
  wire-same n v w s t is is' e =
      let x : List ℕ = codes " = " ++ (form_text m v.form ++ (59 ∷ 10 ∷ s)) in
      let y : List ℕ = codes " = " ++ (form_text m w.form ++ (59 ∷ 10 ∷ t)) in
      let all = append_cancel_left (codes "  wire ") _ _ (sym (wire-is n v s) ∙ e ∙ wire-is n w t) in
      let begins : (z : List ℕ) → Begins continues_word (wire_name n ++ z) =
      λ z. record { byte = 119; rest = 36 ∷ (decimal n ++ z); is = refl; passes = refl }
      in
      let widths = range-same (wire_name n ++ x) (wire_name n ++ y) v.width w.width is.0 is'.0 (begins x) (begins y) all in
      let expressions = append_cancel_left (codes " = ") _ _ (append_cancel_left (wire_name n) x y widths.1) in
      let forms = form-same m named (10 ∷ s) (10 ∷ t) v.form w.form is.1 is'.1 expressions in
      ((λ i. record { width = widths.0 i; form = forms.0 i }), append_cancel_left (10 ∷ []) s t forms.1)

  pub wires-same : (n : ℕ) (vs ws : List Wire) (s t : List ℕ) → AllByRecursion (IsFineWire m) vs → AllByRecursion (IsFineWire m) ws
      → (third s ≡ 119 → ⊥) → (third t ≡ 119 → ⊥) → wire_lines m n vs ++ s ≡ wire_lines m n ws ++ t → (vs ≡ ws) × (s ≡ t)
  wires-same n [] [] s t fine fine' ends ends' e = (refl, e)
  wires-same n [] (w ∷ ws) s t fine fine' ends ends' e =
      absurd (ends (ap third e ∙ ap third (append_assoc (wire_line m n w) (wire_lines m (n + 1) ws) t) ∙ ap third (wire-is n w (wire_lines m (n + 1) ws ++ t))))
  wires-same n (v ∷ vs) [] s t fine fine' ends ends' e =
      absurd (ends' (ap third (sym e) ∙ ap third (append_assoc (wire_line m n v) (wire_lines m (n + 1) vs) s) ∙ ap third (wire-is n v (wire_lines m (n + 1) vs ++ s))))
  wires-same n (v ∷ vs) (w ∷ ws) s t fine fine' ends ends' e =
      let first =
      wire-same n v w (wire_lines m (n + 1) vs ++ s) (wire_lines m (n + 1) ws ++ t) fine.0 fine'.0
      (sym (append_assoc (wire_line m n v) (wire_lines m (n + 1) vs) s) ∙ e ∙ append_assoc (wire_line m n w) (wire_lines m (n + 1) ws) t)
      in
      let more = wires-same (n + 1) vs ws s t fine.1 fine'.1 ends ends' first.1 in
      (ap₂ (λ z zs. z ∷ zs) first.0 more.0, more.1)

  -- values after equal beginnings
  values-same : (front : List ℕ) (x y : Operand) (s t : List ℕ) → IsThere m x → IsThere m y
      → front ++ (operand_text m x ++ (59 ∷ 10 ∷ s)) ≡ front ++ (operand_text m y ++ (59 ∷ 10 ∷ t)) → (x ≡ y) × (s ≡ t)
  values-same front x y s t there there' e =
      let both = operand-same m named x y (59 ∷ 10 ∷ s) (59 ∷ 10 ∷ t) there there' refl refl (append_cancel_left front _ _ e) in
      (both.0, append_cancel_left (codes ";" ++ (10 ∷ [])) s t both.1)

  assign-is : (o : Output) (s : List ℕ)
      → assign_line m o ++ s ≡ (codes "  assign " ++ o.name ++ codes " = ") ++ (operand_text m o.value ++ (59 ∷ 10 ∷ s))
  assign-is o s =
      six (codes "  assign ") o.name (codes " = ") (operand_text m o.value) (codes ";") (10 ∷ []) s
      ∙ sym (three (codes "  assign ") o.name (codes " = ") (operand_text m o.value ++ (59 ∷ 10 ∷ s)))

  pub assigns-same : (os ps : List Output) (s t : List ℕ) → AllByRecursion (λ (o : Output). IsThere m o.value) os → AllByRecursion (λ (o : Output). IsThere m o.value) ps
      → map (λ (o : Output). o.name) os ≡ map (λ (o : Output). o.name) ps
      → each (assign_line m) os ++ s ≡ each (assign_line m) ps ++ t → (os ≡ ps) × (s ≡ t)
  assigns-same [] [] s t there there' names e = (refl, e)
  assigns-same [] (p ∷ ps) s t there there' names e = absurd cc
  assigns-same (o ∷ os) [] s t there there' names e = absurd cc
  assigns-same (o ∷ os) (p ∷ ps) s t there there' names e =
      let name : o.name ≡ p.name = cc in
      let others : map (λ (o : Output). o.name) os ≡ map (λ (o : Output). o.name) ps = cc in
      let x : List ℕ = each (assign_line m) os ++ s in
      let y : List ℕ = each (assign_line m) ps ++ t in
      let all =
      sym (assign-is o x) ∙ sym (append_assoc (assign_line m o) (each (assign_line m) os) s) ∙ e
      ∙ append_assoc (assign_line m p) (each (assign_line m) ps) t ∙ assign-is p y
      ∙ ap (λ n. (codes "  assign " ++ n ++ codes " = ") ++ (operand_text m p.value ++ (59 ∷ 10 ∷ y))) (sym name)
      in
      let first = values-same (codes "  assign " ++ o.name ++ codes " = ") o.value p.value x y there.0 there'.0 all in
      let more = assigns-same os ps s t there.1 there'.1 others first.1 in
      (ap₂ (λ z zs. z ∷ zs) (λ i. record { name = name i; value = first.0 i }) more.0, more.1)

  next-is : (blanks : List ℕ) (r : Register) (s : List ℕ)
      → next_line m blanks r ++ s ≡ (blanks ++ r.name ++ codes " <= ") ++ (operand_text m r.next ++ (59 ∷ 10 ∷ s))
  next-is blanks r s =
      six blanks r.name (codes " <= ") (operand_text m r.next) (codes ";") (10 ∷ []) s
      ∙ sym (three blanks r.name (codes " <= ") (operand_text m r.next ++ (59 ∷ 10 ∷ s)))

  pub nexts-same : (blanks : List ℕ) (rs qs : List Register) (s t : List ℕ) → AllByRecursion (λ (r : Register). IsThere m r.next) rs
      → AllByRecursion (λ (r : Register). IsThere m r.next) qs → map head_of rs ≡ map head_of qs
      → each (next_line m blanks) rs ++ s ≡ each (next_line m blanks) qs ++ t → (rs ≡ qs) × (s ≡ t)
  nexts-same blanks [] [] s t there there' heads e = (refl, e)
  nexts-same blanks [] (q ∷ qs) s t there there' heads e = absurd cc
  nexts-same blanks (r ∷ rs) [] s t there there' heads e = absurd cc
  nexts-same blanks (r ∷ rs) (q ∷ qs) s t there there' heads e =
      let first_head : head_of r ≡ head_of q = cc in
      let others : map head_of rs ≡ map head_of qs = cc in
      let x : List ℕ = each (next_line m blanks) rs ++ s in
      let y : List ℕ = each (next_line m blanks) qs ++ t in
      let all =
      sym (next-is blanks r x) ∙ sym (append_assoc (next_line m blanks r) (each (next_line m blanks) rs) s) ∙ e
      ∙ append_assoc (next_line m blanks q) (each (next_line m blanks) qs) t ∙ next-is blanks q y
      ∙ ap (λ (h : Head). (blanks ++ h.name ++ codes " <= ") ++ (operand_text m q.next ++ (59 ∷ 10 ∷ y))) (sym first_head)
      in
      let first = values-same (blanks ++ r.name ++ codes " <= ") r.next q.next x y there.0 there'.0 all in
      let more = nexts-same blanks rs qs s t there.1 there'.1 others first.1 in (
        ap₂ (λ z zs. z ∷ zs) (λ i. record { name = (first_head i).name; is_port = (first_head i).is_port; first = (first_head i).first; next = first.0 i }) more.0,
        more.1,
      )
