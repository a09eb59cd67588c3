-- What is left of an `or` of two `and`s, and of an `and` of two `or`s, that have one operand in common and else turned ones.
use Rattle.std.proofs.Common.{◌≡◌, ℕ, ◌-◌, ◌^◌, ◌<◌, bit_and, bit_or, max, min, refl, sym, ap, ap₂, subst, ◌∙◌, arith}
use Rattle.std.specs.Int.Bits.{and_zero_r, or_zero_r}
use Rattle.std.specs.Prelude.{slice_get, IfSome, None, Option, Some, List}
use Rattle.std.proofs.Math.Nat.{max-min_distrib_left}
use Rattle.std.proofs.lemmas.Nat.{and-not, and_assoc, and_comm, or_comm, or_disjoint}
use Rattle.std.proofs.lemmas.Nat.Bits.{bit_at_and, bit_at_or, same_from_bits}
use Rattle.kw_bits.specs.BitVector.{BitVector, IsBits}
use Rattle.kw_bits.specs.Operators as op
use Rattle.net_graph.specs.Laws.{Feeds}
use Rattle.net_graph.specs.Nets.{IsNet}
use Rattle.net_graph.specs.Operators.{two_value, two_width, TakesTwo}
use Rattle.net_graph.specs.Values.{node_value, Sources}
use Rattle.net_graph.specs.declared.node.NetTwo.TheVariants.{And, Or}
use Rattle.net_graph.specs.declared.node.NetOp.{NetOp}
use Rattle.net_graph.specs.declared.node.NetOp.TheVariants.{Two}
use Rattle.net_simplify.specs.inner.Forms.{Alike, IsCommon, IsForm}
use Rattle.net_simplify.specs.declared.form.Form.TheVariants.{Node}
use Rattle.net_simplify.proofs.Opposing.{nothing_common}
use Rattle.net_simplify.proofs.Standing.{bits_node, stands_node, value_node, width_node, within_node}
use Rattle.net_simplify.proofs.Units.{same_parts}

-- ---- numbers

or_of_and : (x y n : ℕ) → bit_and (bit_or x y) (bit_or x n) ≡ bit_or x (bit_and y n)
or_of_and x y n =
    same_from_bits (bit_and (bit_or x y) (bit_or x n)) (bit_or x (bit_and y n))
    (λ i. bit_at_and (bit_or x y) (bit_or x n) i ∙ ap₂ min (bit_at_or x y i) (bit_at_or x n i)
    ∙ sym (bit_at_or x (bit_and y n) i ∙ ap (max _) (bit_at_and y n i) ∙ max-min_distrib_left _ _ _))

-- what two `and`s with the same number and opposite ones have in common
apart : (w x y : ℕ) → y < 2 ^ w → bit_and (bit_and x y) (bit_and x (2 ^ w - 1 - y)) ≡ 0
apart w x y h =
    let n : ℕ = 2 ^ w - 1 - y in
    sym (and_assoc n (bit_and x y) x) ∙ ap (λ k. bit_and k n) (and_comm (bit_and x y) x ∙ sym (and_assoc y x x)) ∙ and_assoc n (bit_and x x) y
    ∙ ap (bit_and (bit_and x x)) (nothing_common w y h) ∙ and_zero_r (bit_and x x)

or_parts : (w x y : ℕ) → x < 2 ^ w → y < 2 ^ w → bit_or (bit_and x y) (bit_and x (2 ^ w - 1 - y)) ≡ x
or_parts w x y p q =
    let n : ℕ = 2 ^ w - 1 - y in
    or_disjoint (bit_and x y) (bit_and x n) (apart w x y q) ∙ omega (arith, and-not w y x q p, and_comm x y, and_comm x n)

and_parts : (w x y : ℕ) → y < 2 ^ w → bit_and (bit_or x y) (bit_or x (2 ^ w - 1 - y)) ≡ x
and_parts w x y q = or_of_and x y (2 ^ w - 1 - y) ∙ ap (bit_or x) (nothing_common w y q) ∙ or_zero_r x

-- ---- bit vectors

pub and_turned : (x y : BitVector) → x.width ≡ y.width → op.and x y ≡ op.and y x
unfolding op.and
and_turned x y w = same_parts (op.and y x) x.width (bit_and x.number y.number) w (and_comm x.number y.number)

pub or_turned : (x y : BitVector) → x.width ≡ y.width → op.or x y ≡ op.or y x
unfolding op.or
or_turned x y w = same_parts (op.or y x) x.width (bit_or x.number y.number) w (or_comm x.number y.number)

module _ (x y : BitVector) (p : IsBits x) (q : IsBits y) (w : x.width ≡ y.width) where
  of_ands : op.or (op.and x y) (op.and x (op.not y)) ≡ x
  unfolding op.or op.and op.not
  of_ands =
      same_parts x x.width (bit_or (bit_and x.number y.number) (bit_and x.number (2 ^ y.width - 1 - y.number))) refl
      (or_parts y.width x.number y.number (subst (λ k. x.number < 2 ^ k) w p.in_range) q.in_range)

  of_ors : op.and (op.or x y) (op.or x (op.not y)) ≡ x
  unfolding op.or op.and op.not
  of_ors =
      same_parts x x.width (bit_and (bit_or x.number y.number) (bit_or x.number (2 ^ y.width - 1 - y.number))) refl
      (and_parts y.width x.number y.number q.in_range)

-- ---- nodes

-- a weaker fact of what is found
pub some_weaker : (o : Option ℕ) (P Q : ℕ → Type 0) → ((id : ℕ) → P id → Q id) → IfSome o P → IfSome o Q
some_weaker (Some id) P Q f p = f id p
some_weaker None P Q f p = tt

module _ (net : List NetOp) (is : IsNet net) where
  pub alike_turned : (p q : ℕ) → Alike net p q → Alike net q p
  alike_turned p q h = record { first = h.second; second = h.first; width = sym h.width }

  value_width : (p q : ℕ) → Alike net p q → (s : Sources) → Feeds s net → (node_value s net p).width ≡ (node_value s net q).width
  value_width p q h s feeds = (bits_node net is s p feeds h.first).1 ∙ h.width ∙ sym (bits_node net is s q feeds h.second).1

  -- the second has the first's value with its bits turned
  abbrev pub Opposite : ℕ → ℕ → Type 0
  Opposite q t = (s : Sources) → Feeds s net → node_value s net t ≡ op.not (node_value s net q)

  pub common : (p q t : ℕ) → Alike net p q → Opposite q t → IsCommon net p q p t p
  common p q t h turned = record {
    stands = h.first;
    width = refl;
    of_ands = λ s feeds.
        let x = (bits_node net is s p feeds h.first).0 in
        let y = (bits_node net is s q feeds h.second).0 in
        ap (λ (v : BitVector). op.or (op.and (node_value s net p) (node_value s net q)) (op.and (node_value s net p) v)) (turned s feeds) ∙ of_ands (node_value s net p) (node_value s net q) x y (value_width p q h s feeds);
    of_ors = λ s feeds.
        let x = (bits_node net is s p feeds h.first).0 in
        let y = (bits_node net is s q feeds h.second).0 in
        ap (λ (v : BitVector). op.and (op.or (node_value s net p) (node_value s net q)) (op.or (node_value s net p) v)) (turned s feeds) ∙ of_ors (node_value s net p) (node_value s net q) x y (value_width p q h s feeds);
  }

  -- either pair the other way round
  first_turned : (p q r t id : ℕ) → Alike net p q → IsCommon net q p r t id → IsCommon net p q r t id
  first_turned p q r t id h c = record {
    stands = c.stands;
    width = c.width ∙ sym h.width;
    of_ands = λ s feeds. ap (λ (v : BitVector). op.or v (op.and (node_value s net r) (node_value s net t))) (and_turned (node_value s net p) (node_value s net q) (value_width p q h s feeds)) ∙ c.of_ands s feeds;
    of_ors = λ s feeds. ap (λ (v : BitVector). op.and v (op.or (node_value s net r) (node_value s net t))) (or_turned (node_value s net p) (node_value s net q) (value_width p q h s feeds)) ∙ c.of_ors s feeds;
  }

  second_turned : (p q r t id : ℕ) → Alike net r t → IsCommon net p q t r id → IsCommon net p q r t id
  second_turned p q r t id h c = record {
    stands = c.stands;
    width = c.width;
    of_ands = λ s feeds. ap (λ (v : BitVector). op.or (op.and (node_value s net p) (node_value s net q)) v) (and_turned (node_value s net r) (node_value s net t) (value_width r t h s feeds)) ∙ c.of_ands s feeds;
    of_ors = λ s feeds. ap (λ (v : BitVector). op.and (op.or (node_value s net p) (node_value s net q)) v) (or_turned (node_value s net r) (node_value s net t) (value_width r t h s feeds)) ∙ c.of_ors s feeds;
  }

  module _ (p q r t : ℕ) (one : Alike net p q) (other : Alike net r t) where
    pub common-first_first : p ≡ r → Opposite q t → IsCommon net p q r t p
    common-first_first e turned = subst (λ (k : ℕ). IsCommon net p q k t p) e (common p q t one turned)

    pub common-first_second : p ≡ t → Opposite q r → IsCommon net p q r t p
    common-first_second e turned = second_turned p q r t p other (subst (λ (k : ℕ). IsCommon net p q k r p) e (common p q r one turned))

    pub common-second_first : q ≡ r → Opposite p t → IsCommon net p q r t q
    common-second_first e turned = first_turned p q r t q one (subst (λ (k : ℕ). IsCommon net q p k t q) e (common q p t (alike_turned p q one) turned))

    pub common-second_second : q ≡ t → Opposite p r → IsCommon net p q r t q
    common-second_second e turned =
        first_turned p q r t q one (second_turned q p r t q other (subst (λ (k : ℕ). IsCommon net q p k r q) e (common q p r (alike_turned p q one) turned)))

  -- the operands of an `and` or an `or` are of one width
  pub and_operands : (a p q : ℕ) → slice_get net a ≡ Some (Two And p q) → Alike net p q
  unfolding TakesTwo
  and_operands a p q at =
      let stands = stands_node net is a (Two And p q) at in
      record { first = within_node net is p stands.0; second = within_node net is q stands.1; width = stands.2 }

  pub or_operands : (a p q : ℕ) → slice_get net a ≡ Some (Two Or p q) → Alike net p q
  unfolding TakesTwo
  or_operands a p q at =
      let stands = stands_node net is a (Two Or p q) at in
      record { first = within_node net is p stands.0; second = within_node net is q stands.1; width = stands.2 }

  pub or-factored : (a b p q r t id : ℕ) → slice_get net a ≡ Some (Two And p q) → slice_get net b ≡ Some (Two And r t) → IsCommon net p q r t id → IsForm net (Two Or a b) (Node id)
  unfolding two_value two_width
  or-factored a b p q r t id first second c = record {
    stands = c.stands;
    equals = record {
      width = c.width ∙ sym (width_node net is a (Two And p q) first);
      value = λ s feeds. sym (ap₂ op.or (value_node net is s a (Two And p q) first) (value_node net is s b (Two And r t) second) ∙ c.of_ands s feeds);
      reads = λ inputs states h. tt;
    };
  }

  pub and-factored : (a b p q r t id : ℕ) → slice_get net a ≡ Some (Two Or p q) → slice_get net b ≡ Some (Two Or r t) → IsCommon net p q r t id → IsForm net (Two And a b) (Node id)
  unfolding two_value two_width
  and-factored a b p q r t id first second c = record {
    stands = c.stands;
    equals = record {
      width = c.width ∙ sym (width_node net is a (Two Or p q) first);
      value = λ s feeds. sym (ap₂ op.and (value_node net is s a (Two Or p q) first) (value_node net is s b (Two Or r t) second) ∙ c.of_ors s feeds);
      reads = λ inputs states h. tt;
    };
  }
