-- Operators on constants alone.
use Rattle.std.proofs.Common.{◌≡◌, ℕ, ◌+◌, ◌<◌, ◌≤◌, List, [], ◌∷◌, sym, ap, ap₂, subst, ◌∙◌, lit<}
use Rattle.std.specs.Prelude.{slice_get, Some}
use Rattle.std.specs.List.{All}
use Rattle.std.proofs.lemmas.List.Elements.{All-cons, All-nil}
use Rattle.kw_bits.specs.BitVector.{BitVector, IsBits}
use Rattle.net_graph.specs.Nets.{IsNet, Stands, width_at, widths_of}
use Rattle.net_graph.specs.Operators.{ite_value, one_value, one_width, two_value, two_width, TakesTwo, uext_value, sext_value}
use Rattle.kw_bits.specs.Operators as op
use Rattle.net_graph.specs.Values.{op_value, Sources, value_at, values_of}
use Rattle.net_graph.specs.declared.node.NetOne.{NetOne}
use Rattle.net_graph.specs.declared.node.NetTwo.{NetTwo}
use Rattle.net_graph.specs.declared.node.NetOp.{NetOp}
use Rattle.net_graph.specs.declared.node.NetOp.TheVariants.{Const, One, Two, Slice, Uext, Sext, Ite}
use Rattle.net_graph.proofs.OperatorWidths.{op_value-HasWidth}
use Rattle.net_simplify.specs.inner.Forms.{Equals}
use Rattle.net_simplify.specs.declared.form.Form.TheVariants.{Constant}
use Rattle.net_simplify.proofs.Standing.{constant_bits, value_node, width_node}

-- nothing is read from outside
abbrev pub nowhere : Sources
nowhere = record { inputs = []; states = [] }

all_one : (x : BitVector) → IsBits x → All IsBits (x ∷ [])
all_one x p = All-cons IsBits x [] p (All-nil IsBits)

all_two : (x y : BitVector) → IsBits x → IsBits y → All IsBits (x ∷ y ∷ [])
all_two x y p q = All-cons IsBits x (y ∷ []) p (all_one y q)

all_three : (c x y : BitVector) → IsBits c → IsBits x → IsBits y → All IsBits (c ∷ x ∷ y ∷ [])
all_three c x y o p q = All-cons IsBits c (x ∷ y ∷ []) o (all_two x y p q)

module _ (net : List NetOp) (is : IsNet net) where
  abbrev Holds : ℕ → BitVector → Type 0
  Holds id value = slice_get net id ≡ Some (Const value)

  pub constant_width : (id : ℕ) (value : BitVector) → Holds id value → width_at (widths_of net) id ≡ value.width
  constant_width id value at = width_node net is id (Const value) at

  constant_value : (s : Sources) (id : ℕ) (value : BitVector) → Holds id value → value_at (values_of s net) id ≡ value
  constant_value s id value at = value_node net is s id (Const value) at

  -- ---- what an operator takes over these constants

  pub two_stands : (operator : NetTwo) (a b : ℕ) (x y : BitVector) → Holds a x → Holds b y → Stands (widths_of net) (Two operator a b) → Stands (x.width ∷ y.width ∷ []) (Two operator 0 1)
  two_stands operator a b x y p q h =
      (lit< tt, lit< tt, subst (λ w. TakesTwo operator x.width w) (constant_width b y q) (subst (λ w. TakesTwo operator w (width_at (widths_of net) b)) (constant_width a x p) h.2))

  pub slice_stands : (a upper lower : ℕ) (x : BitVector) → Holds a x → Stands (widths_of net) (Slice a upper lower) → Stands (x.width ∷ []) (Slice 0 upper lower)
  slice_stands a upper lower x p h = (lit< tt, h.1, subst (λ w. upper < w) (constant_width a x p) h.2)

  pub uext_stands : (a added : ℕ) (x : BitVector) → Holds a x → Stands (widths_of net) (Uext a added) → Stands (x.width ∷ []) (Uext 0 added)
  uext_stands a added x p h = (lit< tt, subst (λ w. w + added ≤ 128) (constant_width a x p) h.1)

  pub sext_stands : (a added : ℕ) (x : BitVector) → Holds a x → Stands (widths_of net) (Sext a added) → Stands (x.width ∷ []) (Sext 0 added)
  sext_stands a added x p h = (lit< tt, subst (λ w. w + added ≤ 128) (constant_width a x p) h.1)

  pub ite_stands : (condition a b : ℕ) (c x y : BitVector) → Holds condition c → Holds a x → Holds b y → Stands (widths_of net) (Ite condition a b) → Stands (c.width ∷ x.width ∷ y.width ∷ []) (Ite 0 1 2)
  ite_stands condition a b c x y o p q h =
      (lit< tt, lit< tt, lit< tt, sym (constant_width condition c o) ∙ h.3, sym (constant_width a x p) ∙ h.4 ∙ constant_width b y q)

  -- ---- what it comes to

  pub one-folds : (operator : NetOne) (a : ℕ) (x value : BitVector) → Holds a x → value ≡ op_value nowhere (x ∷ []) (One operator 0) → Equals net (One operator a) (Constant value)
  one-folds operator a x value p e = record {
    width = ap (λ (v : BitVector). v.width) e ∙ (op_value-HasWidth nowhere (x ∷ []) (One operator 0) (All-nil IsBits) (All-nil IsBits) (all_one x (constant_bits net is a x p)) (lit< tt) tt tt).1
        ∙ ap (one_width operator) (sym (constant_width a x p));
    value = λ s feeds. e ∙ ap (one_value operator) (sym (constant_value s a x p));
    reads = λ inputs states h. tt;
  }

  pub slice-folds : (a upper lower : ℕ) (x value : BitVector) → Holds a x → Stands (widths_of net) (Slice a upper lower) → value ≡ op_value nowhere (x ∷ []) (Slice 0 upper lower) → Equals net (Slice a upper lower) (Constant value)
  slice-folds a upper lower x value p h e = record {
    width = ap (λ (v : BitVector). v.width) e ∙ (op_value-HasWidth nowhere (x ∷ []) (Slice 0 upper lower) (All-nil IsBits) (All-nil IsBits) (all_one x (constant_bits net is a x p)) (slice_stands a upper lower x p h) tt tt).1;
    value = λ s feeds. e ∙ ap (λ (v : BitVector). op.slice v upper lower) (sym (constant_value s a x p));
    reads = λ inputs states h. tt;
  }

  pub uext-folds : (a added : ℕ) (x value : BitVector) → Holds a x → Stands (widths_of net) (Uext a added) → value ≡ op_value nowhere (x ∷ []) (Uext 0 added) → Equals net (Uext a added) (Constant value)
  uext-folds a added x value p h e = record {
    width = ap (λ (v : BitVector). v.width) e ∙ (op_value-HasWidth nowhere (x ∷ []) (Uext 0 added) (All-nil IsBits) (All-nil IsBits) (all_one x (constant_bits net is a x p)) (uext_stands a added x p h) tt tt).1
        ∙ ap (λ w. w + added) (sym (constant_width a x p));
    value = λ s feeds. e ∙ ap (λ (v : BitVector). uext_value v added) (sym (constant_value s a x p));
    reads = λ inputs states h. tt;
  }

  pub sext-folds : (a added : ℕ) (x value : BitVector) → Holds a x → Stands (widths_of net) (Sext a added) → value ≡ op_value nowhere (x ∷ []) (Sext 0 added) → Equals net (Sext a added) (Constant value)
  sext-folds a added x value p h e = record {
    width = ap (λ (v : BitVector). v.width) e ∙ (op_value-HasWidth nowhere (x ∷ []) (Sext 0 added) (All-nil IsBits) (All-nil IsBits) (all_one x (constant_bits net is a x p)) (sext_stands a added x p h) tt tt).1
        ∙ ap (λ w. w + added) (sym (constant_width a x p));
    value = λ s feeds. e ∙ ap (λ (v : BitVector). sext_value v added) (sym (constant_value s a x p));
    reads = λ inputs states h. tt;
  }

  pub two-folds : (operator : NetTwo) (a b : ℕ) (x y value : BitVector) → Holds a x → Holds b y → Stands (widths_of net) (Two operator a b) → value ≡ op_value nowhere (x ∷ y ∷ []) (Two operator 0 1) → Equals net (Two operator a b) (Constant value)
  two-folds operator a b x y value p q h e = record {
    width = ap (λ (v : BitVector). v.width) e
        ∙ (op_value-HasWidth nowhere (x ∷ y ∷ []) (Two operator 0 1) (All-nil IsBits) (All-nil IsBits) (all_two x y (constant_bits net is a x p) (constant_bits net is b y q)) (two_stands operator a b x y p q h) tt tt).1
        ∙ ap₂ (two_width operator) (sym (constant_width a x p)) (sym (constant_width b y q));
    value = λ s feeds. e ∙ ap₂ (two_value operator) (sym (constant_value s a x p)) (sym (constant_value s b y q));
    reads = λ inputs states h. tt;
  }

  pub ite-folds : (condition a b : ℕ) (c x y value : BitVector) → Holds condition c → Holds a x → Holds b y → Stands (widths_of net) (Ite condition a b) → value ≡ op_value nowhere (c ∷ x ∷ y ∷ []) (Ite 0 1 2) → Equals net (Ite condition a b) (Constant value)
  ite-folds condition a b c x y value o p q h e = record {
    width = ap (λ (v : BitVector). v.width) e
        ∙ (op_value-HasWidth nowhere (c ∷ x ∷ y ∷ []) (Ite 0 1 2) (All-nil IsBits) (All-nil IsBits) (all_three c x y (constant_bits net is condition c o) (constant_bits net is a x p) (constant_bits net is b y q)) (ite_stands condition a b c x y o p q h) tt tt).1
        ∙ sym (constant_width a x p);
    value = λ s feeds. e ∙ ap (λ (v : BitVector). ite_value v x y) (sym (constant_value s condition c o)) ∙ ap₂ (ite_value (value_at (values_of s net) condition)) (sym (constant_value s a x p)) (sym (constant_value s b y q));
    reads = λ inputs states h. tt;
  }
