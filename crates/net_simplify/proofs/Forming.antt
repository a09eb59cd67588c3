-- Which forms an operator on one or two nodes can have.
use Rattle.std.proofs.Common.{◌≡◌, ℕ, ◌-◌, ◌^◌, ◌<◌, Bool, true, List, [], length, refl, sym, ap, subst, ◌∙◌, arith}
use Rattle.std.specs.Prelude.{slice_get, Some}
use Rattle.std.specs.List.{All}
use Rattle.std.proofs.lemmas.Bool.{both_ways}
use Rattle.std.proofs.lemmas.Option.{get_or_from_slice_get, slice_get_within}
use Rattle.kw_bits.specs.BitVector.{BitVector, IsBits, zero_at}
use Rattle.kw_bits.specs.Laws.{HasWidth}
use Rattle.kw_bits.specs.Operators as op
use Rattle.net_graph.specs.Laws.{Feeds}
use Rattle.net_graph.specs.Nets.{IsNet, op_width, Stands, width_at, widths_of}
use Rattle.net_graph.specs.Operators.{one_value, one_width, two_value, two_width, TakesTwo}
use Rattle.net_graph.specs.Values.{node_value, Sources}
use Rattle.net_graph.specs.declared.node.NetOne.TheVariants.{Not}
use Rattle.net_graph.specs.declared.node.NetTwo.{NetTwo}
use Rattle.net_graph.specs.declared.node.NetTwo.TheVariants.{And, Or}
use Rattle.net_graph.specs.declared.node.NetOp.{NetOp}
use Rattle.net_graph.specs.declared.node.NetOp.TheVariants.{One, Two}
use Rattle.net_graph.proofs.OneByOne.{length-one_by_one}
use Rattle.circuit_eval.specs.Tidy.{IsNeeded, IsOpen}
use Rattle.net_simplify.specs.inner.Forms.{IsOfOpposites, Equals, IsForm, IsLean, IsOpposite, Turns}
use Rattle.net_simplify.specs.inner.Identities.{HoldsOf, identity_value, identity_width, IsAsWide, IsDistinguishing, IsKnown, LeavesOnly, ones}
use Rattle.net_simplify.specs.declared.form.Form.{Form}
use Rattle.net_simplify.specs.declared.form.Form.TheVariants.{Node, Constant, Operator}
use Rattle.net_simplify.specs.declared.identities.Identity.{Identity}
use Rattle.net_simplify.specs.declared.identities.Identity.TheVariants as identities
use Rattle.net_simplify.specs.declared.known.Known.{Known}
use Rattle.net_simplify.proofs.Standing.{bits_node, stands_node, value_node, width_node, within_node}
use Rattle.net_simplify.proofs.Units.{same_parts}

-- what holds of all operators of a net holds of a node's
pub all_at : (P : NetOp → Type 0) (net : List NetOp) (id : ℕ) (op : NetOp) → All P net → slice_get net id ≡ Some op → P op
all_at P net id op all at = subst P (get_or_from_slice_get net id op op at) (all id op (slice_get_within net id op at))

-- a bit vector that is turned twice
pub turned_twice : (x : BitVector) → IsBits x → op.not (op.not x) ≡ x
unfolding op.not
turned_twice x p =
    let below : x.number < 2 ^ x.width = p.in_range in
    same_parts x x.width (2 ^ x.width - 1 - (2 ^ x.width - 1 - x.number)) refl (omega arith)

needed_two : (net : List NetOp) (operator : NetTwo) (a b : ℕ) → IsDistinguishing operator → IsNeeded net (Two operator a b)
needed_two net And a b h = absurd h
needed_two net Or a b h = absurd h
needed_two net _ a b h = tt

-- an operator that is left as it is
pub needed_left : (net : List NetOp) (operator : NetTwo) (a b : ℕ) (same : Bool) → LeavesOnly operator same identities.Itself → (a ≡ b → same ≡ true) → IsNeeded net (Two operator a b)
needed_left net And a b same h e = λ equal. both_ways same h (e equal)
needed_left net Or a b same h e = λ equal. both_ways same h (e equal)
needed_left net _ a b same h e = tt

module _ (net : List NetOp) where
  pub form_itself : (op : NetOp) → Stands (widths_of net) op → IsOpen net op → IsNeeded net op → IsForm net op (Operator op)
  form_itself op stands is_open needed = record {
    stands = (stands, is_open, needed);
    equals = record { width = refl; value = λ s feeds. refl; reads = λ inputs states h. h };
  }

  -- a form of an operator that equals another is one of the other
  pub form_through : (op other : NetOp) (form : Form) → Equals net op (Operator other) → IsForm net other form → IsForm net op form
  form_through op other form e h = record {
    stands = h.stands;
    equals = record {
      width = h.equals.width ∙ e.width;
      value = λ s feeds. h.equals.value s feeds ∙ e.value s feeds;
      reads = λ inputs states r. h.equals.reads inputs states (e.reads inputs states r);
    };
  }

module _ (net : List NetOp) (is : IsNet net) where
  -- the opposite comparison of a node's operands has the node's value with its bits turned
  comparison_turned : (a x y : ℕ) (operator other : NetTwo) → slice_get net a ≡ Some (Two operator x y) → IsOpposite operator other
      → (s : Sources) → Feeds s net → two_value other (node_value s net x) (node_value s net y) ≡ op.not (node_value s net a)
  comparison_turned a x y operator other at opposite s feeds =
      let stands = stands_node net is a (Two operator x y) at in
      let first = bits_node net is s x feeds (within_node net is x stands.0) in
      let second = bits_node net is s y feeds (within_node net is y stands.1) in
      let takes : TakesTwo operator (node_value s net x).width (node_value s net y).width =
      subst (λ w. TakesTwo operator w (node_value s net y).width) (sym first.1) (subst (λ w. TakesTwo operator (width_at (widths_of net) x) w) (sym second.1) stands.2) in
      opposite.value (node_value s net x) (node_value s net y) first.0 second.0 takes ∙ ap op.not (sym (value_node net is s a (Two operator x y) at))

  -- so do the nodes of opposite comparisons
  pub nodes_turned : (a b : ℕ) (one other : NetOp) → slice_get net a ≡ Some one → slice_get net b ≡ Some other → Turns one other
      → (s : Sources) → Feeds s net → node_value s net b ≡ op.not (node_value s net a)
  nodes_turned a b one other p q t s feeds =
      value_node net is s b (Two t.other t.first t.second) (q ∙ ap Some t.turned_is) ∙ comparison_turned a t.first t.second t.operator t.other (p ∙ ap Some t.is) t.opposite s feeds

module _ (net : List NetOp) (lean : IsLean net) where
  within : (id : ℕ) → id < length (widths_of net) → id < length net
  within id h = omega (arith, length-one_by_one op_width [] net)

  -- ---- `not`

  pub not_not : (a b : ℕ) → slice_get net a ≡ Some (One Not b) → IsForm net (One Not a) (Node b)
  unfolding one_value one_width
  not_not a b at =
      let below : b < length net = within b (stands_node net lean.is_net a (One Not b) at) in
      record {
        stands = below;
        equals = record {
          width = sym (width_node net lean.is_net a (One Not b) at);
          value = λ s feeds. sym (ap op.not (value_node net lean.is_net s a (One Not b) at) ∙ turned_twice (node_value s net b) (bits_node net lean.is_net s b feeds below).0);
          reads = λ inputs states h. tt;
        };
      }

  opposite_form : (a x y : ℕ) (operator other : NetTwo) → slice_get net a ≡ Some (Two operator x y) → IsOpposite operator other → IsForm net (One Not a) (Operator (Two other x y))
  unfolding one_value one_width
  opposite_form a x y operator other at opposite =
      let stands = stands_node net lean.is_net a (Two operator x y) at in
      record {
        stands = (
          (stands.0, stands.1, opposite.takes (width_at (widths_of net) x) (width_at (widths_of net) y) stands.2),
          all_at (IsOpen net) net a (Two operator x y) lean.are_open at,
          needed_two net other x y opposite.other_needs,
        );
        equals = record {
          width = opposite.width (width_at (widths_of net) x) (width_at (widths_of net) y) ∙ sym (width_node net lean.is_net a (Two operator x y) at);
          value = λ s feeds. comparison_turned net lean.is_net a x y operator other at opposite s feeds;
          reads = λ inputs states h. tt;
        };
      }

  pub not_turned : (a : ℕ) (op turned : NetOp) → slice_get net a ≡ Some op → Turns op turned → IsForm net (One Not a) (Operator turned)
  not_turned a op turned at t =
      subst (λ (o : NetOp). IsForm net (One Not a) (Operator o)) (sym t.turned_is)
      (opposite_form a t.first t.second t.operator t.other (at ∙ ap Some t.is) t.opposite)

  pub opposites_form : (operator : NetTwo) (a b : ℕ) → Stands (widths_of net) (Two operator a b) → ((s : Sources) → Feeds s net → node_value s net b ≡ op.not (node_value s net a))
      → (width : ℕ) (value : BitVector) → width ≡ width_at (widths_of net) a → IsOfOpposites operator width value → IsForm net (Two operator a b) (Constant value)
  opposites_form operator a b stands opposite width value w is = record {
    stands = tt;
    equals = record {
      width = is.as_wide (width_at (widths_of net) b) (subst (λ k. TakesTwo operator k (width_at (widths_of net) b)) (sym w) stands.2) ∙ ap (λ k. two_width operator k (width_at (widths_of net) b)) w;
      value = λ s feeds.
          let bits = bits_node net lean.is_net s a feeds (within a stands.0) in
          sym (is.value (node_value s net a) bits.0 (bits.1 ∙ sym w)) ∙ ap (two_value operator (node_value s net a)) (sym (opposite s feeds));
      reads = λ inputs states h. tt;
    };
  }

  -- ---- an operator on two nodes

  module _ (operator : NetTwo) (a b : ℕ) (stands : Stands (widths_of net) (Two operator a b)) (ka kb : Known) (same : Bool)
      (first : (s : Sources) → Feeds s net → IsKnown ka (node_value s net a)) (second : (s : Sources) → Feeds s net → IsKnown kb (node_value s net b)) (equal : same ≡ true → a ≡ b) where
    abbrev Holds : Identity → Type 0
    Holds identity = HoldsOf operator ka kb same identity

    first_bits : (s : Sources) → Feeds s net → HasWidth (node_value s net a) (width_at (widths_of net) a)
    first_bits s feeds = bits_node net lean.is_net s a feeds (within a stands.0)

    second_bits : (s : Sources) → Feeds s net → HasWidth (node_value s net b) (width_at (widths_of net) b)
    second_bits s feeds = bits_node net lean.is_net s b feeds (within b stands.1)

    is_value : (identity : Identity) → Holds identity → (s : Sources) → Feeds s net → identity_value operator identity (node_value s net a) (node_value s net b) ≡ two_value operator (node_value s net a) (node_value s net b)
    is_value identity holds s feeds =
        let x = first_bits s feeds in
        let y = second_bits s feeds in
        let takes : TakesTwo operator (node_value s net a).width (node_value s net b).width =
        subst (λ w. TakesTwo operator w (node_value s net b).width) (sym x.1) (subst (λ w. TakesTwo operator (width_at (widths_of net) a) w) (sym y.1) stands.2) in
        sym (holds (node_value s net a) (node_value s net b) takes (record {
          first = x.0;
          second = y.0;
          first_known = first s feeds;
          second_known = second s feeds;
          equal = λ h. ap (node_value s net) (equal h);
        }))

    is_width : (identity : Identity) → IsAsWide operator identity → identity_width operator identity (width_at (widths_of net) a) (width_at (widths_of net) b) ≡ two_width operator (width_at (widths_of net) a) (width_at (widths_of net) b)
    is_width identity wide = wide (width_at (widths_of net) a) (width_at (widths_of net) b) stands.2

    pub two-first : Holds identities.First → IsAsWide operator identities.First → IsForm net (Two operator a b) (Node a)
    two-first holds wide = record {
      stands = within a stands.0;
      equals = record { width = is_width identities.First wide; value = is_value identities.First holds; reads = λ inputs states h. tt };
    }

    pub two-second : Holds identities.Second → IsAsWide operator identities.Second → IsForm net (Two operator a b) (Node b)
    two-second holds wide = record {
      stands = within b stands.1;
      equals = record { width = is_width identities.Second wide; value = is_value identities.Second holds; reads = λ inputs states h. tt };
    }

    pub two-not_first : Holds identities.NotFirst → IsAsWide operator identities.NotFirst → (form : Form) → IsForm net (One Not a) form → IsForm net (Two operator a b) form
    unfolding one_value one_width
    two-not_first holds wide form h = form_through net (Two operator a b) (One Not a) form (record {
      width = is_width identities.NotFirst wide;
      value = is_value identities.NotFirst holds;
      reads = λ inputs states r. tt;
    }) h

    pub two-not_second : Holds identities.NotSecond → IsAsWide operator identities.NotSecond → (form : Form) → IsForm net (One Not b) form → IsForm net (Two operator a b) form
    unfolding one_value one_width
    two-not_second holds wide form h = form_through net (Two operator a b) (One Not b) form (record {
      width = is_width identities.NotSecond wide;
      value = is_value identities.NotSecond holds;
      reads = λ inputs states r. tt;
    }) h

    constant_form : (value : BitVector) → value.width ≡ two_width operator (width_at (widths_of net) a) (width_at (widths_of net) b)
        → ((s : Sources) → Feeds s net → value ≡ two_value operator (node_value s net a) (node_value s net b)) → IsForm net (Two operator a b) (Constant value)
    constant_form value width is = record { stands = tt; equals = record { width = width; value = is; reads = λ inputs states h. tt } }

    pub two-zero : Holds identities.Zero → IsAsWide operator identities.Zero → (value : BitVector) (width : ℕ) → value ≡ zero_at width → width ≡ width_at (widths_of net) a → IsForm net (Two operator a b) (Constant value)
    two-zero holds wide value width e w =
        constant_form value (ap (λ (v : BitVector). v.width) e ∙ w ∙ is_width identities.Zero wide)
        (λ s feeds. e ∙ ap zero_at (w ∙ sym (first_bits s feeds).1) ∙ is_value identities.Zero holds s feeds)

    pub two-false : Holds identities.False → IsAsWide operator identities.False → (value : BitVector) → value ≡ zero_at 1 → IsForm net (Two operator a b) (Constant value)
    two-false holds wide value e =
        constant_form value (ap (λ (v : BitVector). v.width) e ∙ is_width identities.False wide) (λ s feeds. e ∙ is_value identities.False holds s feeds)

    pub two-true : Holds identities.True → IsAsWide operator identities.True → (value zero : BitVector) → value ≡ op.not zero → zero ≡ zero_at 1 → IsForm net (Two operator a b) (Constant value)
    unfolding op.not
    two-true holds wide value zero e z =
        let one : value ≡ ones 1 = e ∙ ap op.not z in
        constant_form value (ap (λ (v : BitVector). v.width) one ∙ is_width identities.True wide) (λ s feeds. one ∙ is_value identities.True holds s feeds)
