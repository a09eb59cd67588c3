-- A text is that of one module at most: its parts are read off it, from the first line to the last.
use Rattle.std.proofs.Common.{◌≡◌, ◌⊎◌, ℕ, ◌+◌, ◌==◌, if◌then◌else◌, Bool, true, false, true≢false, List, [], ◌∷◌, ◌++◌, length, map, get_or, slice_get, option_map, Option, Some, None, is_some, codes, decimal, inl, inr, ⊎_elim, arith, refl, sym, ap, ap₂, subst, ◌∙◌, append_assoc, append-nil, length-append, get_or-append-add}
use Rattle.std.specs.Prelude.{All, not}
use Rattle.std.specs.List.{AllByRecursion, list_all}
use Rattle.std.specs.Option.{option_to_list}
use Rattle.std.proofs.lemmas.Bool.{eqb-true, false≢true}
use Rattle.std.proofs.lemmas.List.{append_cancel_left, append_cancel_right, get_or_append_left, length-map}
use Rattle.std.proofs.lemmas.List.Elements.{All-from_recursion, All-head, All-nil, All-tail, recursion_from_All}
use Rattle.std.proofs.lemmas.Option.{slice_get-map}
use Rattle.kw_bits.specs.BitVector.{IsBits}
use Rattle.verilog_text.specs.Laws.{IsWrittenAs}
use Rattle.verilog_text.specs.Modules.{AreNamed, HasOperand, IsLegal, IsName, IsWidth, WiresFit, outer_widths, widths_of}
use Rattle.verilog_text.specs.Texts.{assign_line, block, block_text, choice_text, closing, declarations_text, each, either, extension_text, first_branch, first_line, form_text, head_text, input_name, input_port, line, middle, next_branch, next_line, opening, operand_text, output_line, output_port, port_line, port_text, ports_text, range_text, register_line, register_name, register_port, repeated_text, reset_line, reset_port, set_line, sign, text_of, top_text, two_text, bits_text, constant_text, wire_lines, wire_name}
use Rattle.verilog_text.specs.declared.module.Form.{Form}
use Rattle.verilog_text.specs.declared.module.Form.TheVariants.{One, Two, Choice, Slice, Extension}
use Rattle.verilog_text.specs.declared.module.Module.{Module}
use Rattle.verilog_text.specs.declared.module.Operand.{Operand}
use Rattle.verilog_text.specs.declared.module.Operand.TheVariants.{Constant, Input, Register as Held, Wire as Inner}
use Rattle.verilog_text.specs.declared.module.Output.{Output}
use Rattle.verilog_text.specs.declared.module.Port.{Port}
use Rattle.verilog_text.specs.declared.module.Register.{Register}
use Rattle.verilog_text.specs.declared.module.Wire.{Wire}
use Rattle.verilog_text.proofs.Forms.{AreThere, head, rests}
use Rattle.verilog_text.proofs.ReadLines.{Head, IsFineWire, IsHead, IsPort, Knows, assigns-same, each-append, each-map, each-same, head_line, head_of, heads-end, heads-same, name_line, name-same, names-end, names-same, nexts-same, operand-there, ports-end, ports-same, third, third-head, wires-same, wires-there}
use Rattle.verilog_text.proofs.Operands.{IsThere, front, input_names, output_names, register_names}
use Rattle.verilog_text.proofs.Stretches.{all-append, all-weaker, is_name_byte, name-passes, stretch-same}

-- ---- what holds of parts of a list

module _ {A : Type 0} (P : A → Type 0) where
  all-left : (xs ys : List A) → All P (xs ++ ys) → All P xs
  all-left xs ys all k d within =
      subst P (get_or_append_left xs ys d k within) (all k d (omega (arith, within, length-append xs ys)))

  all-right : (xs ys : List A) → All P (xs ++ ys) → All P ys
  all-right xs ys all k d within =
      subst P (get_or-append-add xs ys k d) (all (length xs + k) d (omega (arith, within, length-append xs ys)))

  all-joined : (xs ys : List A) → AllByRecursion P xs → AllByRecursion P ys → AllByRecursion P (xs ++ ys)
  all-joined [] ys all all' = all'
  all-joined (x ∷ xs) ys all all' = (all.0, all-joined xs ys all.1 all')

all-of-map : {A B : Type 0} (g : A → B) (P : B → Type 0) (xs : List A) → AllByRecursion P (map g xs) → AllByRecursion (λ (x : A). P (g x)) xs
all-of-map g P [] all = tt
all-of-map g P (x ∷ xs) all = (all.0, all-of-map g P xs all.1)

all-to-map : {A B : Type 0} (g : A → B) (P : B → Type 0) (xs : List A) → AllByRecursion (λ (x : A). P (g x)) xs → AllByRecursion P (map g xs)
all-to-map g P [] all = tt
all-to-map g P (x ∷ xs) all = (all.0, all-to-map g P xs all.1)

all-both : {A : Type 0} (P Q : A → Type 0) (xs : List A) → AllByRecursion P xs → AllByRecursion Q xs → AllByRecursion (λ (x : A). P x × Q x) xs
all-both P Q [] all all' = tt
all-both P Q (x ∷ xs) all all' = ((all.0, all'.0), all-both P Q xs all.1 all'.1)

map-twice : {A B C : Type 0} (g : A → B) (h : B → C) (xs : List A) → map h (map g xs) ≡ map (λ (x : A). h (g x)) xs
map-twice g h [] = refl
map-twice g h (x ∷ xs) = ap (λ ys. h (g x) ∷ ys) (map-twice g h xs)

each-alike : {A : Type 0} (f g : A → List ℕ) (xs : List A) → ((x : A) → f x ≡ g x) → each f xs ≡ each g xs
each-alike f g [] same = refl
each-alike f g (x ∷ xs) same = ap₂ (λ s t. s ++ t) (same x) (each-alike f g xs same)

-- ---- names

-- each name of a module is a name
record Named (m : Module) : Type 0 where
  name : IsName m.name
  clock : IsName m.clock
  reset : AllByRecursion IsName (option_to_list m.reset)
  inputs : AllByRecursion IsName (input_names m)
  outputs : AllByRecursion IsName (output_names m)
  registers : AllByRecursion IsName (register_names m)

names-are : (m : Module) → AreNamed m → Named m
names-are m named =
    let f : List (List ℕ) = front m in
    let i : List (List ℕ) = input_names m in
    let o : List (List ℕ) = output_names m in
    let r : List (List ℕ) = register_names m in
    let c : List (List ℕ) = option_to_list m.reset in
    let first = all-left IsName f i (all-left IsName (f ++ i) o (all-left IsName (f ++ i ++ o) r named.names)) in
    let later = All-tail IsName m.name (m.clock ∷ c) first in
    record {
      name = All-head IsName m.name (m.clock ∷ c) first;
      clock = All-head IsName m.clock c later;
      reset = recursion_from_All IsName c (All-tail IsName m.clock c later);
      inputs = recursion_from_All IsName i (all-right IsName f i (all-left IsName (f ++ i) o (all-left IsName (f ++ i ++ o) r named.names)));
      outputs = recursion_from_All IsName o (all-right IsName (f ++ i) o (all-left IsName (f ++ i ++ o) r named.names));
      registers = recursion_from_All IsName r (all-right IsName (f ++ i ++ o) r named.names);
    }

-- ---- the parts of a text

abbrev reset_ports : Option (List ℕ) → List Port
reset_ports None = []
reset_ports (Some name) = record { name = name; width = 1 } ∷ []

-- the clock, the reset and the inputs
abbrev all_ports : Module → List Port
all_ports m = record { name = m.clock; width = 1 } ∷ (reset_ports m.reset ++ m.inputs)

abbrev heads : Module → List Head
heads m = map head_of m.registers

abbrev ending : List ℕ
ending = line (codes "endmodule")

abbrev after : Module → List ℕ
after m = block_text m ++ ending

abbrev from_assigns : Module → List ℕ
from_assigns m = each (assign_line m) m.outputs ++ after m

abbrev from_wires : Module → List ℕ
from_wires m = wire_lines m 0 m.wires ++ from_assigns m

abbrev from_registers : Module → List ℕ
from_registers m = each head_line (heads m) ++ from_wires m

abbrev from_outputs : Module → List ℕ
from_outputs m = each name_line (output_names m) ++ from_registers m

abbrev body : Module → List ℕ
body m = each port_line (all_ports m) ++ from_outputs m

nine : (h c r i o g w a b e : List ℕ) → h ++ (c ++ r ++ i ++ o ++ g ++ w ++ a) ++ b ++ e ≡ h ++ ((c ++ (r ++ i)) ++ (o ++ (g ++ (w ++ (a ++ (b ++ e))))))
nine h c r i o g w a b e = simp append_assoc

reset-port-is : (r : Option (List ℕ)) → reset_line r ≡ each port_line (reset_ports r)
reset-port-is None = refl
reset-port-is (Some name) = sym (append-nil (port_line (record { name = name; width = 1 })))

text-is : (m : Module) → text_of m ≡ head_text m ++ body m
unfolding text_of declarations_text
text-is m =
    let clock : Port = record { name = m.clock; width = 1 } in
    let ports : port_line clock ++ (reset_line m.reset ++ each port_line m.inputs) ≡ each port_line (all_ports m) =
    ap (λ t. port_line clock ++ (t ++ each port_line m.inputs)) (reset-port-is m.reset)
    ∙ ap (λ t. port_line clock ++ t) (sym (each-append port_line (reset_ports m.reset) m.inputs))
    in
    nine (head_text m) (port_line clock) (reset_line m.reset) (each port_line m.inputs) (each output_line m.outputs)
    (each register_line m.registers) (wire_lines m 0 m.wires) (each (assign_line m) m.outputs) (block_text m) ending
    ∙ (λ i. head_text m ++ (ports i ++ (each-map name_line (λ (o : Output). o.name) m.outputs i ++ (each-map head_line head_of m.registers i ++ from_wires m))))

first-line : (a n b c p z l s : List ℕ) → a ++ n ++ b ++ c ++ p ++ z ++ l ++ s ≡ a ++ (n ++ (b ++ ((c ++ (p ++ z)) ++ (l ++ s))))
first-line a n b c p z l s = simp append_assoc

abbrev rest_of_line : Module → List ℕ
rest_of_line m = m.clock ++ (ports_text m ++ codes ");")

head-is : (m : Module) (s : List ℕ) → head_text m ++ s ≡ codes "module " ++ (m.name ++ (codes "(" ++ (rest_of_line m ++ (10 ∷ s))))
unfolding head_text
head-is m s = first-line (codes "module ") m.name (codes "(") m.clock (ports_text m) (codes ");") (10 ∷ []) s

-- ---- the first line

-- a byte that doesn't end a line
abbrev stays : ℕ → Bool
stays b = not (b == 10)

byte-stays : (b : ℕ) → is_name_byte b ≡ true → stays b ≡ true
byte-stays b is = go (b == 10) refl
  where
    go : (e : Bool) → (b == 10) ≡ e → not e ≡ true
    go false e = refl
    go true e = absurd (false≢true (sym (ap is_name_byte (eqb-true b 10 e)) ∙ is))

name-stays : (name : List ℕ) → IsName name → list_all stays name ≡ true
name-stays name is = all-weaker is_name_byte stays name byte-stays (name-passes name is)

each-stays : {A : Type 0} (f : A → List ℕ) (P : A → Type 0) (xs : List A) → ((x : A) → P x → list_all stays (f x) ≡ true)
    → AllByRecursion P xs → list_all stays (each f xs) ≡ true
each-stays f P [] one all = refl
each-stays f P (x ∷ xs) one all = all-append stays (f x) (each f xs) (one x all.0) (each-stays f P xs one all.1)

reset-stays : (r : Option (List ℕ)) → AllByRecursion IsName (option_to_list r) → list_all stays (reset_port r) ≡ true
reset-stays None all = refl
reset-stays (Some name) all = name-stays name all.0

register-stays : (r : Register) → IsName r.name → list_all stays (register_port r) ≡ true
register-stays r is = go r.is_port
  where
    go : (b : Bool) → list_all stays (if b then port_text r.name else []) ≡ true
    go true = name-stays r.name is
    go false = refl

line-stays : (m : Module) → Named m → list_all stays (rest_of_line m) ≡ true
unfolding ports_text
line-stays m named =
    let p : List ℕ = reset_port m.reset in
    let i : List ℕ = each input_port m.inputs in
    let o : List ℕ = each output_port m.outputs in
    let r : List ℕ = each register_port m.registers in
    let i-stay : list_all stays i ≡ true =
    each-stays input_port (λ (port : Port). IsName port.name) m.inputs (λ port is. name-stays port.name is)
    (all-of-map (λ (port : Port). port.name) IsName m.inputs named.inputs)
    in
    let o-stay : list_all stays o ≡ true =
    each-stays output_port (λ (output : Output). IsName output.name) m.outputs (λ output is. name-stays output.name is)
    (all-of-map (λ (output : Output). output.name) IsName m.outputs named.outputs)
    in
    let r-stay : list_all stays r ≡ true =
    each-stays register_port (λ (register : Register). IsName register.name) m.registers register-stays
    (all-of-map (λ (register : Register). register.name) IsName m.registers named.registers)
    in
    all-append stays m.clock (p ++ i ++ o ++ r ++ codes ");") (name-stays m.clock named.clock)
    (all-append stays (p ++ i ++ o ++ r) (codes ");")
    (all-append stays (p ++ i ++ o) r (all-append stays (p ++ i) o (all-append stays p i (reset-stays m.reset named.reset) i-stay) o-stay) r-stay) refl)

heads-read : (a b : Module) → Named a → Named b → head_text a ++ body a ≡ head_text b ++ body b → (a.name ≡ b.name) × (body a ≡ body b)
heads-read a b named named' e =
    let x : List ℕ = rest_of_line a ++ (10 ∷ body a) in
    let y : List ℕ = rest_of_line b ++ (10 ∷ body b) in
    let names =
    name-same a.name b.name (40 ∷ x) (40 ∷ y) named.name named'.name refl refl
    (append_cancel_left (codes "module ") _ _ (sym (head-is a (body a)) ∙ e ∙ head-is b (body b)))
    in
    let lines =
    stretch-same stays (rest_of_line a) (rest_of_line b) (10 ∷ body a) (10 ∷ body b) (line-stays a named) (line-stays b named') refl refl
    (rests 40 40 x y names.1)
    in
    (names.0, rests 10 10 (body a) (body b) lines.1)

-- ---- which lines follow

third-each : {A : Type 0} (f : A → List ℕ) (k : ℕ) → ((x : A) (s : List ℕ) → third (f x ++ s) ≡ k) → (xs : List A) (s : List ℕ)
    → (third (each f xs ++ s) ≡ k) ⊎ (third (each f xs ++ s) ≡ third s)
third-each f k is [] s = inr refl
third-each f k is (x ∷ xs) s = inl (ap third (append_assoc (f x) (each f xs) s) ∙ is x (each f xs ++ s))

module _ (m : Module) where
  third-after : third (after m) ≡ 97
  unfolding block_text
  third-after = refl

  third-assigns : third (from_assigns m) ≡ 97
  third-assigns = ⊎_elim (λ e. e) (λ e. e ∙ third-after) (third-each (assign_line m) 97 (λ o s. refl) m.outputs (after m))

  third-wires : (third (from_wires m) ≡ 119) ⊎ (third (from_wires m) ≡ 97)
  third-wires = go m.wires
    where
      go : (ws : List Wire) → (third (wire_lines m 0 ws ++ from_assigns m) ≡ 119) ⊎ (third (wire_lines m 0 ws ++ from_assigns m) ≡ 97)
      go [] = inr third-assigns
      go (w ∷ ws) = inl refl

  -- each other line isn't the declaration of an input, or of a register
  no-wire : third (from_assigns m) ≡ 119 → ⊥
  no-wire e = omega (arith, e, third-assigns)

  no-port-wires : third (from_wires m) ≡ 111 → ⊥
  no-port-wires e = ⊎_elim (λ a. omega (arith, e, a)) (λ a. omega (arith, e, a)) third-wires

  no-register-wires : third (from_wires m) ≡ 114 → ⊥
  no-register-wires e = ⊎_elim (λ a. omega (arith, e, a)) (λ a. omega (arith, e, a)) third-wires

  no-input-wires : third (from_wires m) ≡ 105 → ⊥
  no-input-wires e = ⊎_elim (λ a. omega (arith, e, a)) (λ a. omega (arith, e, a)) third-wires

  no-input-registers : third (from_registers m) ≡ 105 → ⊥
  no-input-registers e = go (heads m) e
    where
      go : (hs : List Head) → third (each head_line hs ++ from_wires m) ≡ 105 → ⊥
      go [] e = no-input-wires e
      go (h ∷ hs) e =
          let is = ap third (append_assoc (head_line h) (each head_line hs) (from_wires m)) in
          ⊎_elim (λ a. omega (arith, e, a, is)) (λ a. omega (arith, e, a, is)) (third-head h (each head_line hs ++ from_wires m))

  no-input : third (from_outputs m) ≡ 105 → ⊥
  no-input e =
      ⊎_elim (λ a. omega (arith, e, a)) (λ a. no-input-registers (sym a ∙ e))
      (third-each name_line 111 (λ name s. refl) (output_names m) (from_registers m))

-- ---- the last lines

-- a text whose last line ends so
record EndsIn (byte : ℕ) (text : List ℕ) : Type 0 where
  before : List ℕ
  is : text ≡ before ++ (byte ∷ 10 ∷ [])

ends-more : (byte : ℕ) (before text : List ℕ) → EndsIn byte text → EndsIn byte (before ++ text)
ends-more byte before text ends =
    record { before = before ++ ends.before; is = ap (λ t. before ++ t) ends.is ∙ sym (append_assoc before ends.before (byte ∷ 10 ∷ [])) }

last-same : (xs ys : List ℕ) (b c : ℕ) → xs ++ (b ∷ 10 ∷ []) ≡ ys ++ (c ∷ 10 ∷ []) → b ≡ c
last-same [] [] b c e = ap head e
last-same [] (y ∷ ys) b c e = absurd (omega (arith, ap length e, length-append ys (c ∷ 10 ∷ [])))
last-same (x ∷ xs) [] b c e = absurd (omega (arith, ap length e, length-append xs (b ∷ 10 ∷ [])))
last-same (x ∷ xs) (y ∷ ys) b c e = last-same xs ys b c (rests x y (xs ++ (b ∷ 10 ∷ [])) (ys ++ (c ∷ 10 ∷ [])) e)

ends-same : (b c : ℕ) (s t : List ℕ) → EndsIn b s → EndsIn c t → s ≡ t → b ≡ c
ends-same b c s t ends ends' e = last-same ends.before ends'.before b c (sym ends.is ∙ e ∙ ends'.is)

module _ (m : Module) where
  next-ends : (blanks : List ℕ) (r : Register) → EndsIn 59 (next_line m blanks r)
  next-ends blanks r =
      record { before = blanks ++ r.name ++ codes " <= " ++ operand_text m r.next; is = append_assoc (blanks ++ r.name ++ codes " <= " ++ operand_text m r.next) (codes ";") (10 ∷ []) }

  nexts-end : (blanks : List ℕ) (r : Register) (rs : List Register) → EndsIn 59 (each (next_line m blanks) (r ∷ rs))
  nexts-end blanks r [] = subst (EndsIn 59) (sym (append-nil (next_line m blanks r))) (next-ends blanks r)
  nexts-end blanks r (q ∷ rs) = ends-more 59 (next_line m blanks r) (each (next_line m blanks) (q ∷ rs)) (nexts-end blanks q rs)

  plain-ends : (before : List ℕ) (rs : List Register) → EndsIn 110 before
      → (EndsIn 110 (before ++ each (next_line m (codes "    ")) rs)) ⊎ (EndsIn 59 (before ++ each (next_line m (codes "    ")) rs))
  plain-ends before [] ends = inl (subst (EndsIn 110) (sym (append-nil before)) ends)
  plain-ends before (r ∷ rs) ends =
      inr (ends-more 59 before (each (next_line m (codes "    ")) (r ∷ rs)) (nexts-end (codes "    ") r rs))

  reset-ends : (before reset : List ℕ) → EndsIn 100 (before ++ either m reset)
  reset-ends before reset =
      ends-more 100 before (either m reset)
      (ends-more 100 (first_branch m reset) (next_branch m)
      (ends-more 100 (line (codes "    end else begin") ++ each (next_line m (codes "      ")) m.registers) (line (codes "    end"))
      (record { before = codes "    en"; is = refl })))

  abbrev always_line : List ℕ
  always_line = line (codes "  always @(posedge " ++ m.clock ++ codes ") begin")

  always-ends : (before : List ℕ) → EndsIn 110 (before ++ always_line)
  always-ends before =
      ends-more 110 before always_line
      (record {
        before = codes "  always @(posedge " ++ m.clock ++ codes ") begi";
        is = ap (λ t. t ++ (10 ∷ [])) (sym (append_assoc (codes "  always @(posedge " ++ m.clock) (codes ") begi") (110 ∷ [])))
            ∙ append_assoc (codes "  always @(posedge " ++ m.clock ++ codes ") begi") (110 ∷ []) (10 ∷ []);
      })

  abbrev before_block : List ℕ
  before_block = head_text m ++ declarations_text m ++ always_line

  last-lines : (h d l b e x : List ℕ) → h ++ d ++ (l ++ b ++ e) ++ x ≡ (h ++ d ++ l ++ b) ++ (e ++ x)
  last-lines h d l b e x = simp append_assoc

  in-blocks : text_of m ≡ (before_block ++ block m m.reset) ++ (line (codes "  end") ++ ending)
  unfolding text_of block_text
  in-blocks = last-lines (head_text m) (declarations_text m) always_line (block m m.reset) (line (codes "  end")) ending

-- a module with a reset and one without have different texts
reset-or-none : (a b : Module) (reset : List ℕ) → a.reset ≡ Some reset → b.reset ≡ None → text_of a ≡ text_of b → ⊥
reset-or-none a b reset is none e =
    let x : List ℕ = line (codes "  end") ++ ending in
    let blocks : before_block a ++ either a reset ≡ before_block b ++ each (next_line b (codes "    ")) b.registers =
    append_cancel_right _ _ x
    (ap (λ (r : Option (List ℕ)). (before_block a ++ block a r) ++ x) (sym is) ∙ sym (in-blocks a) ∙ e ∙ in-blocks b
    ∙ ap (λ (r : Option (List ℕ)). (before_block b ++ block b r) ++ x) none)
    in
    let ends = reset-ends a (before_block a) reset in
    ⊎_elim
    (λ ends'. let bad = ends-same 100 110 _ _ ends ends' blocks in omega (arith, bad))
    (λ ends'. let bad = ends-same 100 59 _ _ ends ends' blocks in omega (arith, bad))
    (plain-ends b (before_block b) b.registers (always-ends b (head_text b ++ declarations_text b)))

resets-alike : (a b : Module) → text_of a ≡ text_of b → is_some a.reset ≡ is_some b.reset
resets-alike a b e = go a.reset b.reset refl refl
  where
    go : (r q : Option (List ℕ)) → a.reset ≡ r → b.reset ≡ q → is_some r ≡ is_some q
    go None None p s = refl
    go (Some x) (Some y) p s = refl
    go (Some x) None p s = absurd (reset-or-none a b x p s e)
    go None (Some y) p s = absurd (reset-or-none b a y s p (sym e))

-- the name of the first port, and the others
abbrev first_name : List Port → List ℕ
first_name [] = []
first_name (p ∷ ps) = p.name

abbrev other_ports : List Port → List Port
other_ports [] = []
other_ports (p ∷ ps) = ps

ports-read : (r q : Option (List ℕ)) (i j : List Port) → is_some r ≡ is_some q → reset_ports r ++ i ≡ reset_ports q ++ j → (r ≡ q) × (i ≡ j)
ports-read None None i j alike e = (refl, e)
ports-read (Some x) (Some y) i j alike e = (ap (λ ps. Some (first_name ps)) e, ap other_ports e)
ports-read None (Some y) i j alike e = absurd (false≢true alike)
ports-read (Some x) None i j alike e = absurd (true≢false alike)

-- ---- one module's names in another's text

module _ (a b : Module) (inputs : a.inputs ≡ b.inputs) (names : register_names a ≡ register_names b) where
  abbrev name_or_none : Option (List ℕ) → List ℕ
  name_or_none None = []
  name_or_none (Some name) = name

  register-named : (rs : List Register) (n : ℕ) → register_name (slice_get rs n) ≡ name_or_none (slice_get (map (λ (r : Register). r.name) rs) n)
  register-named rs n = go (slice_get rs n) ∙ sym (ap name_or_none (slice_get-map (λ (r : Register). r.name) rs n))
    where
      go : (o : Option Register) → register_name o ≡ name_or_none (option_map (λ (r : Register). r.name) o)
      go None = refl
      go (Some r) = refl

  operands-alike : (x : Operand) → operand_text b x ≡ operand_text a x
  unfolding operand_text
  operands-alike (Constant v) = refl
  operands-alike (Input n) = ap (λ (ps : List Port). input_name (slice_get ps n)) (sym inputs)
  operands-alike (Held n) =
      register-named b.registers n ∙ ap (λ ns. name_or_none (slice_get ns n)) (sym names) ∙ sym (register-named a.registers n)
  operands-alike (Inner n) = refl

  forms-alike : (f : Form) → form_text b f ≡ form_text a f
  unfolding form_text two_text choice_text repeated_text extension_text
  forms-alike (One operator x) = ap (λ t. sign operator ++ t) (operands-alike x)
  forms-alike (Two operator x y) =
      λ i. opening operator ++ operands-alike x i ++ middle operator ++ operands-alike y i ++ closing operator
  forms-alike (Choice c x y) = λ i. operands-alike c i ++ codes " ? " ++ operands-alike x i ++ codes " : " ++ operands-alike y i
  forms-alike (Slice x upper lower) = ap (λ t. t ++ bits_text upper lower) (operands-alike x)
  forms-alike (Extension x top count) =
      ap (λ t. codes "{{" ++ decimal count ++ codes "{" ++ t ++ top_text top ++ codes "}}, " ++ t ++ codes "}") (operands-alike x)

  wires-alike : (n : ℕ) (ws : List Wire) → wire_lines b n ws ≡ wire_lines a n ws
  wires-alike n [] = refl
  wires-alike n (w ∷ ws) =
      ap₂ (λ (f : List ℕ) (more : List ℕ). line (codes "  wire " ++ range_text w.width ++ wire_name n ++ codes " = " ++ f ++ codes ";") ++ more)
      (forms-alike w.form) (wires-alike (n + 1) ws)

  assigns-alike : (os : List Output) → each (assign_line b) os ≡ each (assign_line a) os
  assigns-alike os =
      each-alike (assign_line b) (assign_line a) os
      (λ o. ap (λ t. line (codes "  assign " ++ o.name ++ codes " = " ++ t ++ codes ";")) (operands-alike o.value))

  nexts-alike : (blanks : List ℕ) (rs : List Register) → each (next_line b blanks) rs ≡ each (next_line a blanks) rs
  nexts-alike blanks rs =
      each-alike (next_line b blanks) (next_line a blanks) rs (λ r. ap (λ t. set_line blanks r t) (operands-alike r.next))

-- ---- two modules of one text

block-is : (l b e x : List ℕ) → (l ++ b ++ e) ++ x ≡ l ++ (b ++ (e ++ x))
block-is l b e x = simp append_assoc

branches-are : (l f k n z x : List ℕ) → ((l ++ f) ++ (k ++ n ++ z)) ++ x ≡ (l ++ f ++ k) ++ (n ++ (z ++ x))
branches-are l f k n z x = simp append_assoc

knows-outer : (m : Module) (legal : IsLegal m) → Knows m legal.inputs legal.registers (outer_widths m)
knows-outer m legal = record { inputs = refl; registers = refl; few = omega arith; wires = All-nil IsWidth }

all-first : {A : Type 0} (P Q : A → Type 0) (xs : List A) → AllByRecursion (λ (x : A). P x × Q x) xs → AllByRecursion P xs
all-first P Q [] all = tt
all-first P Q (x ∷ xs) all = (all.0.0, all-first P Q xs all.1)

knows-all : (m : Module) (legal : IsLegal m) → AllByRecursion (IsFineWire m) m.wires → Knows m legal.inputs legal.registers (widths_of m)
knows-all m legal fine = record {
  inputs = refl;
  registers = refl;
  few = omega (arith, legal.few, length-map m.wires (λ (wire : Wire). wire.width));
  wires =
      All-from_recursion IsWidth (map (λ (wire : Wire). wire.width) m.wires)
      (all-to-map (λ (wire : Wire). wire.width) IsWidth m.wires
      (all-first (λ (wire : Wire). IsWidth wire.width) (λ (wire : Wire). AreThere m wire.form) m.wires fine));
}

fine-reset : (r : Option (List ℕ)) → AllByRecursion IsName (option_to_list r) → AllByRecursion IsPort (reset_ports r)
fine-reset None all = tt
fine-reset (Some name) all = ((all.0, (omega arith, omega arith)), tt)

module _ (m : Module) (named : Named m) (legal : IsLegal m) where
  fine-ports : AllByRecursion IsPort (all_ports m)
  fine-ports =
      let inputs =
      all-both (λ (p : Port). IsName p.name) (λ (p : Port). IsWidth p.width) m.inputs
      (all-of-map (λ (p : Port). p.name) IsName m.inputs named.inputs)
      (recursion_from_All (λ (p : Port). IsWidth p.width) m.inputs legal.inputs)
      in
      let others = all-joined IsPort (reset_ports m.reset) m.inputs (fine-reset m.reset named.reset) inputs in
      ((named.clock, (omega arith, omega arith)), others)

  fine-heads : AllByRecursion IsHead (heads m)
  fine-heads =
      all-to-map head_of IsHead m.registers
      (all-both (λ (r : Register). IsName r.name) (λ (r : Register). IsBits r.first) m.registers
      (all-of-map (λ (r : Register). r.name) IsName m.registers named.registers)
      (recursion_from_All (λ (r : Register). IsBits r.first) m.registers legal.registers))

after-is : (m : Module) → after m ≡ always_line m ++ (block m m.reset ++ (line (codes "  end") ++ ending))
unfolding block_text
after-is m = block-is (always_line m) (block m m.reset) (line (codes "  end")) ending

-- a register's line in the branch of the reset
abbrev first_of : Head → List ℕ
first_of h = line (codes "      " ++ h.name ++ codes " <= " ++ constant_text h.first ++ codes ";")

firsts-are : (rs : List Register) → each first_line rs ≡ each first_of (map head_of rs)
firsts-are rs = each-map first_of head_of rs

module _ (text : List ℕ) (a b : Module) (is : IsWrittenAs a text) (is' : IsWrittenAs b text) where
  texts : text_of a ≡ text_of b
  texts = sym is.printed ∙ is'.printed

  named : Named a
  named = names-are a is.named

  named' : Named b
  named' = names-are b is'.named

  first-lines : (a.name ≡ b.name) × (body a ≡ body b)
  first-lines = heads-read a b named named' (sym (text-is a) ∙ texts ∙ text-is b)

  ports : (all_ports a ≡ all_ports b) × (from_outputs a ≡ from_outputs b)
  ports =
      each-same port_line IsPort ports-same (all_ports a) (all_ports b) (from_outputs a) (from_outputs b)
      (fine-ports a named is.legal) (fine-ports b named' is'.legal) (ports-end (from_outputs a) (no-input a))
      (ports-end (from_outputs b) (no-input b)) first-lines.1

  clocks : a.clock ≡ b.clock
  clocks = ap first_name ports.0

  inputs : (a.reset ≡ b.reset) × (a.inputs ≡ b.inputs)
  inputs = ports-read a.reset b.reset a.inputs b.inputs (resets-alike a b texts) (ap other_ports ports.0)

  outputs : (output_names a ≡ output_names b) × (from_registers a ≡ from_registers b)
  outputs =
      each-same name_line IsName names-same (output_names a) (output_names b) (from_registers a) (from_registers b)
      named.outputs named'.outputs (names-end (heads a) (from_wires a) (no-port-wires a))
      (names-end (heads b) (from_wires b) (no-port-wires b)) ports.1

  registers : (heads a ≡ heads b) × (from_wires a ≡ from_wires b)
  registers =
      each-same head_line IsHead heads-same (heads a) (heads b) (from_wires a) (from_wires b) (fine-heads a named is.legal)
      (fine-heads b named' is'.legal) (heads-end (from_wires a) (no-port-wires a) (no-register-wires a))
      (heads-end (from_wires b) (no-port-wires b) (no-register-wires b)) outputs.1

  names : register_names a ≡ register_names b
  names =
      sym (map-twice head_of (λ (h : Head). h.name) a.registers) ∙ ap (map (λ (h : Head). h.name)) registers.0
      ∙ map-twice head_of (λ (h : Head). h.name) b.registers

  input_widths-alike : map (λ (p : Port). p.width) b.inputs ≡ map (λ (p : Port). p.width) a.inputs
  input_widths-alike = ap (map (λ (p : Port). p.width)) (sym inputs.1)

  register_widths-alike : map (λ (r : Register). r.first.width) b.registers ≡ map (λ (r : Register). r.first.width) a.registers
  register_widths-alike =
      sym (map-twice head_of (λ (h : Head). h.first.width) b.registers) ∙ ap (map (λ (h : Head). h.first.width)) (sym registers.0)
      ∙ map-twice head_of (λ (h : Head). h.first.width) a.registers

  outer-alike : outer_widths b ≡ outer_widths a
  outer-alike = λ i. record { inputs = input_widths-alike i; registers = register_widths-alike i; wires = [] }

  fine-wires : AllByRecursion (IsFineWire a) a.wires
  fine-wires =
      wires-there a is.legal.inputs is.legal.registers (outer_widths a) a.wires (knows-outer a is.legal)
      (omega (arith, is.legal.few)) is.legal.wires

  fine-wires' : AllByRecursion (IsFineWire a) b.wires
  fine-wires' =
      wires-there a is.legal.inputs is.legal.registers (outer_widths a) b.wires (knows-outer a is.legal)
      (omega (arith, is'.legal.few)) (subst (λ ws. WiresFit ws b.wires) outer-alike is'.legal.wires)

  wires : (a.wires ≡ b.wires) × (from_assigns a ≡ from_assigns b)
  wires =
      wires-same a is.named 0 a.wires b.wires (from_assigns a) (from_assigns b) fine-wires fine-wires' (no-wire a) (no-wire b)
      (registers.1 ∙ ap (λ t. t ++ from_assigns b) (wires-alike a b inputs.1 names 0 b.wires))

  widths-alike : widths_of b ≡ widths_of a
  widths-alike =
      λ i. record {
        inputs = input_widths-alike i;
        registers = register_widths-alike i;
        wires = map (λ (wire : Wire). wire.width) (sym wires.0 i);
      }

  there : (x : Operand) (k : ℕ) → HasOperand (widths_of a) x k → IsThere a x
  there x k has = operand-there a is.legal.inputs is.legal.registers (widths_of a) (knows-all a is.legal fine-wires) x k has

  there' : (x : Operand) (k : ℕ) → HasOperand (widths_of b) x k → IsThere a x
  there' x k has = there x k (subst (λ ws. HasOperand ws x k) widths-alike has)

  values : (a.outputs ≡ b.outputs) × (after a ≡ after b)
  values =
      assigns-same a is.named a.outputs b.outputs (after a) (after b)
      (recursion_from_All (λ (o : Output). IsThere a o.value) a.outputs (λ k d within. there (get_or a.outputs k d).value 1 (is.legal.outputs k d within)))
      (recursion_from_All (λ (o : Output). IsThere a o.value) b.outputs (λ k d within. there' (get_or b.outputs k d).value 1 (is'.legal.outputs k d within)))
      outputs.0 (wires.1 ∙ ap (λ t. t ++ after b) (assigns-alike a b inputs.1 names b.outputs))

  abbrev ends : List ℕ
  ends = line (codes "  end") ++ ending

  blocks : block a a.reset ++ ends ≡ block b a.reset ++ ends
  blocks =
      append_cancel_left (always_line a) (block a a.reset ++ ends) (block b a.reset ++ ends)
      (sym (after-is a) ∙ values.1 ∙ after-is b
      ∙ (λ i. line (codes "  always @(posedge " ++ sym clocks i ++ codes ") begin") ++ (block b (sym inputs.0 i) ++ ends)))

  nexts : (blanks s : List ℕ) → each (next_line a blanks) a.registers ++ s ≡ each (next_line b blanks) b.registers ++ s → a.registers ≡ b.registers
  nexts blanks s e =
      (nexts-same a is.named blanks a.registers b.registers s s
      (recursion_from_All (λ (r : Register). IsThere a r.next) a.registers (λ k d within. let r : Register = get_or a.registers k d in there r.next r.first.width (is.legal.nexts k d within)))
      (recursion_from_All (λ (r : Register). IsThere a r.next) b.registers (λ k d within. let r : Register = get_or b.registers k d in there' r.next r.first.width (is'.legal.nexts k d within)))
      registers.0
      (e ∙ ap (λ t. t ++ s) (nexts-alike a b inputs.1 names blanks b.registers))).0

  registers-same : (r : Option (List ℕ)) → block a r ++ ends ≡ block b r ++ ends → a.registers ≡ b.registers
  registers-same None e = nexts (codes "    ") ends e
  registers-same (Some reset) e =
      let l : List ℕ = line (codes "    if (" ++ reset ++ codes ") begin") in
      let k : List ℕ = line (codes "    end else begin") in
      let z : List ℕ = line (codes "    end") in
      let n : List ℕ = each (next_line a (codes "      ")) a.registers in
      let n' : List ℕ = each (next_line b (codes "      ")) b.registers in
      let firsts : each first_line b.registers ≡ each first_line a.registers =
      firsts-are b.registers ∙ ap (each first_of) (sym registers.0) ∙ sym (firsts-are a.registers)
      in
      nexts (codes "      ") (z ++ ends)
      (append_cancel_left (l ++ each first_line a.registers ++ k) (n ++ (z ++ ends)) (n' ++ (z ++ ends))
      (sym (branches-are l (each first_line a.registers) k n z ends) ∙ e
      ∙ branches-are l (each first_line b.registers) k n' z ends
      ∙ ap (λ f. (l ++ f ++ k) ++ (n' ++ (z ++ ends))) firsts))

  pub one-module : a ≡ b
  one-module =
      λ i. record {
        name = first-lines.0 i;
        clock = clocks i;
        reset = inputs.0 i;
        inputs = inputs.1 i;
        outputs = values.0 i;
        registers = registers-same a.reset blocks i;
        wires = wires.0 i;
      }
