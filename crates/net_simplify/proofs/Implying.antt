-- What the value of one bit says of another node, and what this makes of an `and` or an `or` of both.
use Rattle.std.proofs.Common.{◌≡◌, ◌≢◌, ℕ, ◌<◌, Bool, true, false, refl, sym, ap, ap₂, subst, ◌∙◌, arith}
use Rattle.std.specs.Prelude.{◌&&◌, ◌||◌, not, nat_eq, slice_get, Some, Option, List, length}
use Rattle.std.proofs.Math.Bool.{beq}
use Rattle.kw_bits.specs.BitVector.{BitVector, IsBits, zero_at}
use Rattle.kw_bits.specs.Laws.{HasWidth}
use Rattle.kw_bits.specs.Operators as op
use Rattle.kw_bits.proofs.OperatorLaws.{flag_logic, one_bit-flag}
use Rattle.net_graph.specs.Laws.{Feeds}
use Rattle.net_graph.specs.Nets.{IsNet, Stands, width_at, widths_of}
use Rattle.net_graph.specs.Operators.{one_value, two_value, two_width, TakesTwo}
use Rattle.net_graph.specs.Values.{node_value, Sources}
use Rattle.net_graph.specs.declared.node.NetOne.TheVariants.{Not}
use Rattle.net_graph.specs.declared.node.NetTwo.{NetTwo}
use Rattle.net_graph.specs.declared.node.NetTwo.TheVariants.{And, Or}
use Rattle.net_graph.specs.declared.node.NetOp.{NetOp}
use Rattle.net_graph.specs.declared.node.NetOp.TheVariants.{Const, One, Two}
use Rattle.net_simplify.specs.inner.Forms.{Alike, IsForm, IsKnownBit, IsUnit, Tells}
use Rattle.net_simplify.specs.declared.form.Form.{Form}
use Rattle.net_simplify.specs.declared.form.Form.TheVariants.{Node, Constant}
use Rattle.net_simplify.proofs.Factoring.{and_operands, and_turned, Opposite, or_operands, or_turned}
use Rattle.net_simplify.proofs.Forming.{form_through, turned_twice}
use Rattle.net_simplify.proofs.Standing.{bits_node, constant_bits, stands_node, value_node, within_node}

-- ---- bits

-- the two bits differ
apart : op.flag false ≢ op.flag true
unfolding op.flag
apart e = omega (arith, ap (λ (v : BitVector). v.number) e)

pub flag_clear : zero_at 1 ≡ op.flag false
unfolding op.flag
flag_clear = refl

pub flag_set : op.not (zero_at 1) ≡ op.flag true
unfolding op.flag op.not
flag_set = refl

pub same_bit : (a b : Bool) → beq a b ≡ true → a ≡ b
same_bit true true h = refl
same_bit false false h = refl
same_bit true false h = absurd cc
same_bit false true h = absurd cc

not_flag : (b : Bool) → op.not (op.flag b) ≡ op.flag (not b)
not_flag b = (flag_logic b b).0

and_flag : (a b : Bool) → op.and (op.flag a) (op.flag b) ≡ op.flag (a && b)
and_flag a b = (flag_logic a b).1

or_flag : (a b : Bool) → op.or (op.flag a) (op.flag b) ≡ op.flag (a || b)
or_flag a b = (flag_logic a b).2

flag_width : (b : Bool) → (op.flag b).width ≡ 1
unfolding op.flag
flag_width b = refl

-- a bit vector of one bit is a flag
as_flag : (x : BitVector) → IsBits x → x.width ≡ 1 → (b : Bool) × (x ≡ op.flag b)
as_flag x p w = (nat_eq x.number 1, one_bit-flag x p w)

pub not_known : (x : BitVector) (known : Bool) → x ≡ op.flag known → op.not x ≡ op.flag (not known)
not_known x known e = ap op.not e ∙ not_flag known

module _ (x y : BitVector) (p : IsBits x) (q : IsBits y) (w : x.width ≡ y.width) where
  first_flag : (b : Bool) → y ≡ op.flag b → (a : Bool) × (x ≡ op.flag a)
  first_flag b e = as_flag x p (w ∙ ap (λ (v : BitVector). v.width) e ∙ flag_width b)

  second_flag : (a : Bool) → x ≡ op.flag a → (b : Bool) × (y ≡ op.flag b)
  second_flag a e = as_flag y q (sym w ∙ ap (λ (v : BitVector). v.width) e ∙ flag_width a)

  pub and-first_clear : x ≡ op.flag false → op.and x y ≡ op.flag false
  and-first_clear e = let o = second_flag false e in ap₂ op.and e o.1 ∙ and_flag false o.0

  pub and-second_clear : y ≡ op.flag false → op.and x y ≡ op.flag false
  and-second_clear e = let o = first_flag false e in ap₂ op.and o.1 e ∙ and_flag o.0 false ∙ ap op.flag (and-false o.0)
    where
      and-false : (b : Bool) → (b && false) ≡ false
      and-false true = refl
      and-false false = refl

  pub and-set : x ≡ op.flag true → y ≡ op.flag true → op.and x y ≡ op.flag true
  and-set e f = ap₂ op.and e f ∙ and_flag true true

  pub or-first_set : x ≡ op.flag true → op.or x y ≡ op.flag true
  or-first_set e = let o = second_flag true e in ap₂ op.or e o.1 ∙ or_flag true o.0

  pub or-second_set : y ≡ op.flag true → op.or x y ≡ op.flag true
  or-second_set e = let o = first_flag true e in ap₂ op.or o.1 e ∙ or_flag o.0 true ∙ ap op.flag (or-true o.0)
    where
      or-true : (b : Bool) → (b || true) ≡ true
      or-true true = refl
      or-true false = refl

  pub or-clear : x ≡ op.flag false → y ≡ op.flag false → op.or x y ≡ op.flag false
  or-clear e f = ap₂ op.or e f ∙ or_flag false false

  -- where an `and` is 1 both operands are, and where an `or` is 0
  both_flags : (v : BitVector) (b : Bool) → v.width ≡ x.width → v ≡ op.flag b → (x ≡ op.flag (nat_eq x.number 1)) × (y ≡ op.flag (nat_eq y.number 1))
  both_flags v b h e =
      let one : x.width ≡ 1 = sym h ∙ ap (λ (u : BitVector). u.width) e ∙ flag_width b in
      (one_bit-flag x p one, one_bit-flag y q (sym w ∙ one))

  and-width : (op.and x y).width ≡ x.width
  unfolding op.and
  and-width = refl

  or-width : (op.or x y).width ≡ x.width
  unfolding op.or
  or-width = refl

  pub and-is_set : op.and x y ≡ op.flag true → (x ≡ op.flag true) × (y ≡ op.flag true)
  and-is_set e =
      let f = both_flags (op.and x y) true and-width e in
      let both = set (nat_eq x.number 1) (nat_eq y.number 1) (sym (ap₂ op.and f.0 f.1 ∙ and_flag (nat_eq x.number 1) (nat_eq y.number 1)) ∙ e) in
      (f.0 ∙ both.0, f.1 ∙ both.1)
    where
      set : (a b : Bool) → op.flag (a && b) ≡ op.flag true → (op.flag a ≡ op.flag true) × (op.flag b ≡ op.flag true)
      set true true h = (refl, refl)
      set true false h = absurd (apart h)
      set false true h = absurd (apart h)
      set false false h = absurd (apart h)

  pub or-is_clear : op.or x y ≡ op.flag false → (x ≡ op.flag false) × (y ≡ op.flag false)
  or-is_clear e =
      let f = both_flags (op.or x y) false or-width e in
      let both = clear (nat_eq x.number 1) (nat_eq y.number 1) (sym (ap₂ op.or f.0 f.1 ∙ or_flag (nat_eq x.number 1) (nat_eq y.number 1)) ∙ e) in
      (f.0 ∙ both.0, f.1 ∙ both.1)
    where
      clear : (a b : Bool) → op.flag (a || b) ≡ op.flag false → (op.flag a ≡ op.flag false) × (op.flag b ≡ op.flag false)
      clear false false h = (refl, refl)
      clear true true h = absurd (apart (sym h))
      clear true false h = absurd (apart (sym h))
      clear false true h = absurd (apart (sym h))

-- ---- what is known of a node

module _ (net : List NetOp) (is : IsNet net) (bit : ℕ) (value : Bool) where
  pub tells-const : (id : ℕ) (c : BitVector) → slice_get net id ≡ Some (Const c) → c.width ≡ 1 → Tells net bit value id (Some (nat_eq c.number 1))
  tells-const id c at w s feeds h = value_node net is s id (Const c) at ∙ one_bit-flag c (constant_bits net is id c at) w

  pub tells-not : (id a : ℕ) → slice_get net id ≡ Some (One Not a) → (known result : Option Bool) → Tells net bit value a known
      → ((x : BitVector) → IsKnownBit known x → IsKnownBit result (op.not x)) → Tells net bit value id result
  unfolding one_value
  tells-not id a at known result below turns s feeds h =
      subst (IsKnownBit result) (sym (value_node net is s id (One Not a) at)) (turns (node_value s net a) (below s feeds h))

  abbrev Joins : (BitVector → BitVector → BitVector) → Option Bool → Option Bool → Option Bool → Type 0
  Joins f ka kb result = (x y : BitVector) → IsBits x → IsBits y → x.width ≡ y.width → IsKnownBit ka x → IsKnownBit kb y → IsKnownBit result (f x y)

  joined : (f : BitVector → BitVector → BitVector) (a b : ℕ) → Alike net a b → (ka kb result : Option Bool) → Tells net bit value a ka → Tells net bit value b kb → Joins f ka kb result
      → (s : Sources) → Feeds s net → node_value s net bit ≡ op.flag value → IsKnownBit result (f (node_value s net a) (node_value s net b))
  joined f a b alike ka kb result first second joins s feeds h =
      let x = bits_node net is s a feeds alike.first in
      let y = bits_node net is s b feeds alike.second in
      joins (node_value s net a) (node_value s net b) x.0 y.0 (x.1 ∙ alike.width ∙ sym y.1) (first s feeds h) (second s feeds h)

  pub tells-and : (id a b : ℕ) → slice_get net id ≡ Some (Two And a b) → (ka kb result : Option Bool) → Tells net bit value a ka → Tells net bit value b kb → Joins op.and ka kb result → Tells net bit value id result
  unfolding two_value
  tells-and id a b at ka kb result first second joins s feeds h =
      subst (IsKnownBit result) (sym (value_node net is s id (Two And a b) at)) (joined op.and a b (and_operands net is id a b at) ka kb result first second joins s feeds h)

  pub tells-or : (id a b : ℕ) → slice_get net id ≡ Some (Two Or a b) → (ka kb result : Option Bool) → Tells net bit value a ka → Tells net bit value b kb → Joins op.or ka kb result → Tells net bit value id result
  unfolding two_value
  tells-or id a b at ka kb result first second joins s feeds h =
      subst (IsKnownBit result) (sym (value_node net is s id (Two Or a b) at)) (joined op.or a b (or_operands net is id a b at) ka kb result first second joins s feeds h)

  -- ---- what the bit states

  pub stated-itself : (id : ℕ) → id ≡ bit → Tells net bit value id (Some value)
  stated-itself id e s feeds h = ap (node_value s net) e ∙ h

  pub stated-opposite : (id : ℕ) → Opposite net is bit id → Tells net bit value id (Some (not value))
  stated-opposite id turned s feeds h = turned s feeds ∙ ap op.not h ∙ not_flag value

  pub stated-not : (a id : ℕ) → slice_get net bit ≡ Some (One Not a) → (known : Option Bool) → Tells net a (not value) id known → Tells net bit value id known
  unfolding one_value
  stated-not a id at known below s feeds h =
      let bits = bits_node net is s a feeds (within_node net is a (stands_node net is bit (One Not a) at)) in
      below s feeds (sym (turned_twice (node_value s net a) bits.0) ∙ ap op.not (sym (value_node net is s bit (One Not a) at) ∙ h) ∙ not_flag value)

  abbrev Chooses : Option Bool → Option Bool → Option Bool → Type 0
  Chooses ka kb result = (x : BitVector) → IsKnownBit ka x → IsKnownBit kb x → IsKnownBit result x

  pub stated-and : (a b id : ℕ) → slice_get net bit ≡ Some (Two And a b) → value ≡ true → (ka kb result : Option Bool) → Tells net a true id ka → Tells net b true id kb → Chooses ka kb result → Tells net bit value id result
  unfolding two_value
  stated-and a b id at e ka kb result first second chooses s feeds h =
      let alike = and_operands net is bit a b at in
      let x = bits_node net is s a feeds alike.first in
      let y = bits_node net is s b feeds alike.second in
      let set = and-is_set (node_value s net a) (node_value s net b) x.0 y.0 (x.1 ∙ alike.width ∙ sym y.1) (sym (value_node net is s bit (Two And a b) at) ∙ h ∙ ap op.flag e) in
      chooses (node_value s net id) (first s feeds set.0) (second s feeds set.1)

  pub stated-or : (a b id : ℕ) → slice_get net bit ≡ Some (Two Or a b) → value ≡ false → (ka kb result : Option Bool) → Tells net a false id ka → Tells net b false id kb → Chooses ka kb result → Tells net bit value id result
  unfolding two_value
  stated-or a b id at e ka kb result first second chooses s feeds h =
      let alike = or_operands net is bit a b at in
      let x = bits_node net is s a feeds alike.first in
      let y = bits_node net is s b feeds alike.second in
      let clear = or-is_clear (node_value s net a) (node_value s net b) x.0 y.0 (x.1 ∙ alike.width ∙ sym y.1) (sym (value_node net is s bit (Two Or a b) at) ∙ h ∙ ap op.flag e) in
      chooses (node_value s net id) (first s feeds clear.0) (second s feeds clear.1)

-- ---- an `and` or an `or` of a bit and a node that it decides

module _ (x y : BitVector) (p : HasWidth x 1) (q : HasWidth y 1) where
  first : x ≡ op.flag (nat_eq x.number 1)
  first = one_bit-flag x p.0 p.1

  second : y ≡ op.flag (nat_eq y.number 1)
  second = one_bit-flag y q.0 q.1

  by_and : (a b known : Bool) → (op.flag a ≡ op.flag true → op.flag b ≡ op.flag known) → op.and (op.flag a) (op.flag b) ≡ op.flag (a && known)
  by_and true b known h = ap (op.and (op.flag true)) (h refl) ∙ and_flag true known
  by_and false b known h = and_flag false b

  by_or : (a b known : Bool) → (op.flag a ≡ op.flag false → op.flag b ≡ op.flag known) → op.or (op.flag a) (op.flag b) ≡ op.flag (a || known)
  by_or true b known h = or_flag true b
  by_or false b known h = ap (op.or (op.flag false)) (h refl) ∙ or_flag false known

  -- by the value that the second has wherever the first is 1, or 0
  and-decided : (known : Bool) → (x ≡ op.flag true → y ≡ op.flag known) → op.and x y ≡ op.flag (nat_eq x.number 1 && known)
  and-decided known h = ap₂ op.and first second ∙ by_and (nat_eq x.number 1) (nat_eq y.number 1) known (λ e. sym second ∙ h (first ∙ e))

  or-decided : (known : Bool) → (x ≡ op.flag false → y ≡ op.flag known) → op.or x y ≡ op.flag (nat_eq x.number 1 || known)
  or-decided known h = ap₂ op.or first second ∙ by_or (nat_eq x.number 1) (nat_eq y.number 1) known (λ e. sym second ∙ h (first ∙ e))

  and-implied : (x ≡ op.flag true → y ≡ op.flag true) → op.and x y ≡ x
  and-implied h = and-decided true h ∙ ap op.flag (left (nat_eq x.number 1)) ∙ sym first
    where
      left : (b : Bool) → (b && true) ≡ b
      left true = refl
      left false = refl

  and-excluded : (x ≡ op.flag true → y ≡ op.flag false) → op.and x y ≡ op.flag false
  and-excluded h = and-decided false h ∙ ap op.flag (left (nat_eq x.number 1))
    where
      left : (b : Bool) → (b && false) ≡ false
      left true = refl
      left false = refl

  or-implied : (x ≡ op.flag false → y ≡ op.flag false) → op.or x y ≡ x
  or-implied h = or-decided false h ∙ ap op.flag (left (nat_eq x.number 1)) ∙ sym first
    where
      left : (b : Bool) → (b || false) ≡ b
      left true = refl
      left false = refl

  or-excluded : (x ≡ op.flag false → y ≡ op.flag true) → op.or x y ≡ op.flag true
  or-excluded h = or-decided true h ∙ ap op.flag (left (nat_eq x.number 1))
    where
      left : (b : Bool) → (b || true) ≡ true
      left true = refl
      left false = refl

module _ (net : List NetOp) (is : IsNet net) where
  -- the operands of an `and` or an `or`, the other way round
  pub turned_stands : (operator : NetTwo) (unit : Bool) → IsUnit operator unit → (a b : ℕ) → Stands (widths_of net) (Two operator a b) → Stands (widths_of net) (Two operator b a)
  unfolding TakesTwo
  turned_stands And unit u a b h = (h.1, h.0, sym h.2)
  turned_stands Or unit u a b h = (h.1, h.0, sym h.2)
  turned_stands _ unit u a b h = absurd u

  one_width : (operator : NetTwo) (unit : Bool) → IsUnit operator unit → (a b : ℕ) → Stands (widths_of net) (Two operator a b) → width_at (widths_of net) a ≡ width_at (widths_of net) b
  unfolding TakesTwo
  one_width And unit u a b h = h.2
  one_width Or unit u a b h = h.2
  one_width _ unit u a b h = absurd u

  module _ (a b : ℕ) (one : width_at (widths_of net) a ≡ width_at (widths_of net) b) (h : a < length net) (k : b < length net) where
    same_widths : (s : Sources) → Feeds s net → (node_value s net b).width ≡ (node_value s net a).width
    same_widths s feeds = (bits_node net is s b feeds k).1 ∙ sym one ∙ sym (bits_node net is s a feeds h).1

    and_round : (form : Form) → IsForm net (Two And b a) form → IsForm net (Two And a b) form
    unfolding two_value two_width
    and_round form f = form_through net (Two And a b) (Two And b a) form (record {
      width = sym one;
      value = λ s feeds. and_turned (node_value s net b) (node_value s net a) (same_widths s feeds);
      reads = λ inputs states r. tt;
    }) f

    or_round : (form : Form) → IsForm net (Two Or b a) form → IsForm net (Two Or a b) form
    unfolding two_value two_width
    or_round form f = form_through net (Two Or a b) (Two Or b a) form (record {
      width = sym one;
      value = λ s feeds. or_turned (node_value s net b) (node_value s net a) (same_widths s feeds);
      reads = λ inputs states r. tt;
    }) f

  pub form_round : (operator : NetTwo) (unit : Bool) → IsUnit operator unit → (a b : ℕ) → Stands (widths_of net) (Two operator a b) → (form : Form) → IsForm net (Two operator b a) form → IsForm net (Two operator a b) form
  form_round And unit u a b h form f = and_round a b (one_width And unit u a b h) (within_node net is a h.0) (within_node net is b h.1) form f
  form_round Or unit u a b h form f = or_round a b (one_width Or unit u a b h) (within_node net is a h.0) (within_node net is b h.1) form f
  form_round _ unit u a b h form f = absurd u

  module _ (a b : ℕ) (h : a < length net) (k : b < length net) (one : width_at (widths_of net) a ≡ 1) (other : width_at (widths_of net) b ≡ 1) where
    first_bit : (s : Sources) → Feeds s net → HasWidth (node_value s net a) 1
    first_bit s feeds = let bits = bits_node net is s a feeds h in (bits.0, bits.1 ∙ one)

    second_bit : (s : Sources) → Feeds s net → HasWidth (node_value s net b) 1
    second_bit s feeds = let bits = bits_node net is s b feeds k in (bits.0, bits.1 ∙ other)

    and-node : Tells net a true b (Some true) → IsForm net (Two And a b) (Node a)
    unfolding two_value two_width
    and-node tells = record {
      stands = h;
      equals = record {
        width = refl;
        value = λ s feeds. sym (and-implied (node_value s net a) (node_value s net b) (first_bit s feeds) (second_bit s feeds) (tells s feeds));
        reads = λ inputs states r. tt;
      };
    }

    and-constant : Tells net a true b (Some false) → IsForm net (Two And a b) (Constant (op.flag false))
    unfolding two_value two_width
    and-constant tells = record {
      stands = tt;
      equals = record {
        width = flag_width false ∙ sym one;
        value = λ s feeds. sym (and-excluded (node_value s net a) (node_value s net b) (first_bit s feeds) (second_bit s feeds) (tells s feeds));
        reads = λ inputs states r. tt;
      };
    }

    or-node : Tells net a false b (Some false) → IsForm net (Two Or a b) (Node a)
    unfolding two_value two_width
    or-node tells = record {
      stands = h;
      equals = record {
        width = refl;
        value = λ s feeds. sym (or-implied (node_value s net a) (node_value s net b) (first_bit s feeds) (second_bit s feeds) (tells s feeds));
        reads = λ inputs states r. tt;
      };
    }

    or-constant : Tells net a false b (Some true) → IsForm net (Two Or a b) (Constant (op.flag true))
    unfolding two_value two_width
    or-constant tells = record {
      stands = tt;
      equals = record {
        width = flag_width true ∙ sym one;
        value = λ s feeds. sym (or-excluded (node_value s net a) (node_value s net b) (first_bit s feeds) (second_bit s feeds) (tells s feeds));
        reads = λ inputs states r. tt;
      };
    }

    -- the form that is chosen
    abbrev IsChosen : Bool → Bool → Form → Type 0
    IsChosen unit known form = (known ≡ unit → form ≡ Node a) × (known ≢ unit → form ≡ Constant (op.flag known))

    bit_form : (operator : NetTwo) (unit known : Bool) → IsUnit operator unit → Tells net a unit b (Some known) → (form : Form) → IsChosen unit known form → IsForm net (Two operator a b) form
    bit_form And true true u tells form c = subst (λ (f : Form). IsForm net (Two And a b) f) (sym (c.0 refl)) (and-node tells)
    bit_form And true false u tells form c = subst (λ (f : Form). IsForm net (Two And a b) f) (sym (c.1 (λ e. absurd cc))) (and-constant tells)
    bit_form And false known u tells form c = absurd cc
    bit_form Or false false u tells form c = subst (λ (f : Form). IsForm net (Two Or a b) f) (sym (c.0 refl)) (or-node tells)
    bit_form Or false true u tells form c = subst (λ (f : Form). IsForm net (Two Or a b) f) (sym (c.1 (λ e. absurd cc))) (or-constant tells)
    bit_form Or true known u tells form c = absurd cc
    bit_form _ unit known u tells form c = absurd u

  pub decided-first : (operator : NetTwo) (a b : ℕ) → Stands (widths_of net) (Two operator a b) → (unit known : Bool) → IsUnit operator unit → width_at (widths_of net) a ≡ 1 → Tells net a unit b (Some known)
      → (form : Form) → (known ≡ unit → form ≡ Node a) → (known ≢ unit → form ≡ Constant (op.flag known)) → IsForm net (Two operator a b) form
  decided-first operator a b h unit known u one tells form same other =
      bit_form a b (within_node net is a h.0) (within_node net is b h.1) one (sym (one_width operator unit u a b h) ∙ one) operator unit known u tells form (same, other)

  pub decided-second : (operator : NetTwo) (a b : ℕ) → Stands (widths_of net) (Two operator a b) → (unit known : Bool) → IsUnit operator unit → width_at (widths_of net) a ≡ 1 → Tells net b unit a (Some known)
      → (form : Form) → (known ≡ unit → form ≡ Node b) → (known ≢ unit → form ≡ Constant (op.flag known)) → IsForm net (Two operator a b) form
  decided-second operator a b h unit known u one tells form same other =
      form_round operator unit u a b h form
      (decided-first operator b a (turned_stands operator unit u a b h) unit known u (sym (one_width operator unit u a b h) ∙ one) tells form same other)
