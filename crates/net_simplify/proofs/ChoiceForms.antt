-- Which forms a choice can have.
use Rattle.std.proofs.Common.{◌≡◌, ◌≢◌, ℕ, ◌-◌, ◌^◌, ◌<◌, ◌⊎◌, inl, inr, Bool, true, List, [], length, refl, sym, ap, subst, ◌∙◌, arith}
use Rattle.std.specs.Prelude.{slice_get, Some}
use Rattle.std.proofs.lemmas.Bool.{cases_eq}
use Rattle.kw_bits.specs.BitVector.{BitVector}
use Rattle.kw_bits.specs.Laws.{HasWidth}
use Rattle.kw_bits.specs.Operators as op
use Rattle.net_graph.specs.Laws.{Feeds}
use Rattle.net_graph.specs.Nets.{IsNet, op_width, Stands, width_at, widths_of}
use Rattle.net_graph.specs.Operators.{ite_value, one_value, one_width, two_value, two_width, TakesTwo}
use Rattle.net_graph.specs.Values.{node_value, Sources}
use Rattle.net_graph.specs.declared.node.NetOne.TheVariants.{Not}
use Rattle.net_graph.specs.declared.node.NetTwo.TheVariants.{And, Or}
use Rattle.net_graph.specs.declared.node.NetOp.{NetOp}
use Rattle.net_graph.specs.declared.node.NetOp.TheVariants.{Ite, One, Two}
use Rattle.net_graph.proofs.OneByOne.{length-one_by_one}
use Rattle.net_simplify.specs.inner.Forms.{IsForm, IsLean, IsNodeIf}
use Rattle.net_simplify.specs.inner.Identities.{choice_value, ComesTo, IsKnown}
use Rattle.net_simplify.specs.declared.choices.Choice.{Choice}
use Rattle.net_simplify.specs.declared.choices.Choice.TheVariants as choices
use Rattle.net_simplify.specs.declared.form.Form.{Form}
use Rattle.net_simplify.specs.declared.form.Form.TheVariants.{Node}
use Rattle.net_simplify.specs.declared.known.Known.{Known}
use Rattle.net_simplify.proofs.Choosing.{chosen_first, chosen_second}
use Rattle.net_simplify.proofs.Forming.{form_through}
use Rattle.net_simplify.proofs.Standing.{bits_node, stands_node, value_node, width_node, within_node}

module _ (net : List NetOp) (lean : IsLean net) where
  within : (id : ℕ) → id < length (widths_of net) → id < length net
  within id h = omega (arith, length-one_by_one op_width [] net)

  module _ (condition a b : ℕ) (stands : Stands (widths_of net) (Ite condition a b)) where
    condition_bits : (s : Sources) → Feeds s net → HasWidth (node_value s net condition) (width_at (widths_of net) condition)
    condition_bits s feeds = bits_node net lean.is_net s condition feeds (within condition stands.0)

    condition_bit : (s : Sources) → Feeds s net → HasWidth (node_value s net condition) 1
    condition_bit s feeds = ((condition_bits s feeds).0, (condition_bits s feeds).1 ∙ stands.3)

    first_bits : (s : Sources) → Feeds s net → HasWidth (node_value s net a) (width_at (widths_of net) a)
    first_bits s feeds = bits_node net lean.is_net s a feeds (within a stands.1)

    second_bits : (s : Sources) → Feeds s net → HasWidth (node_value s net b) (width_at (widths_of net) b)
    second_bits s feeds = bits_node net lean.is_net s b feeds (within b stands.2)

    -- ---- what is known of it

    module _ (kc ka kb : Known) (one same : Bool)
        (known : (s : Sources) → Feeds s net → IsKnown kc (node_value s net condition))
        (first : (s : Sources) → Feeds s net → (node_value s net condition).number ≡ 1 → IsKnown ka (node_value s net a))
        (second : (s : Sources) → Feeds s net → (node_value s net condition).number ≢ 1 → IsKnown kb (node_value s net b))
        (narrow : one ≡ true → width_at (widths_of net) a ≡ 1) (equal : same ≡ true → a ≡ b) where
      abbrev Comes : Choice → Type 0
      Comes choice = ComesTo kc ka kb one same choice

      is_value : (choice : Choice) → Comes choice → (s : Sources) → Feeds s net
          → choice_value choice (node_value s net condition) (node_value s net a) (node_value s net b) ≡ ite_value (node_value s net condition) (node_value s net a) (node_value s net b)
      is_value choice comes s feeds =
          let x = first_bits s feeds in
          let y = second_bits s feeds in
          sym (comes (node_value s net condition) (node_value s net a) (node_value s net b) (record {
            is_bit = condition_bit s feeds;
            first = x.0;
            second = y.0;
            one_width = x.1 ∙ stands.4 ∙ sym y.1;
            narrow = λ h. x.1 ∙ narrow h;
            condition_known = known s feeds;
            first_known = first s feeds;
            second_known = second s feeds;
            equal = λ h. ap (node_value s net) (equal h);
          }))

      pub choice-first : Comes choices.First → IsForm net (Ite condition a b) (Node a)
      choice-first comes = record {
        stands = within a stands.1;
        equals = record { width = refl; value = is_value choices.First comes; reads = λ inputs states h. tt };
      }

      pub choice-second : Comes choices.Second → IsForm net (Ite condition a b) (Node b)
      choice-second comes = record {
        stands = within b stands.2;
        equals = record { width = sym stands.4; value = is_value choices.Second comes; reads = λ inputs states h. tt };
      }

      pub choice-condition : one ≡ true → Comes choices.Condition → IsForm net (Ite condition a b) (Node condition)
      choice-condition e comes = record {
        stands = within condition stands.0;
        equals = record { width = stands.3 ∙ sym (narrow e); value = is_value choices.Condition comes; reads = λ inputs states h. tt };
      }

      pub choice-not : one ≡ true → Comes choices.NotCondition → (form : Form) → IsForm net (One Not condition) form → IsForm net (Ite condition a b) form
      unfolding one_value one_width
      choice-not e comes form h = form_through net (Ite condition a b) (One Not condition) form (record {
        width = stands.3 ∙ sym (narrow e);
        value = is_value choices.NotCondition comes;
        reads = λ inputs states r. tt;
      }) h

      pub or_stands : one ≡ true → Stands (widths_of net) (Two Or condition b)
      unfolding TakesTwo
      or_stands e = (stands.0, stands.2, stands.3 ∙ sym (narrow e) ∙ stands.4)

      pub choice-or : one ≡ true → Comes choices.ConditionOrSecond → (form : Form) → IsForm net (Two Or condition b) form → IsForm net (Ite condition a b) form
      unfolding two_value two_width
      choice-or e comes form h = form_through net (Ite condition a b) (Two Or condition b) form (record {
        width = stands.3 ∙ sym (narrow e);
        value = is_value choices.ConditionOrSecond comes;
        reads = λ inputs states r. tt;
      }) h

      pub and_stands : one ≡ true → Stands (widths_of net) (Two And condition a)
      unfolding TakesTwo
      and_stands e = (stands.0, stands.1, stands.3 ∙ sym (narrow e))

      pub choice-and : one ≡ true → Comes choices.ConditionAndFirst → (form : Form) → IsForm net (Two And condition a) form → IsForm net (Ite condition a b) form
      unfolding two_value two_width
      choice-and e comes form h = form_through net (Ite condition a b) (Two And condition a) form (record {
        width = stands.3 ∙ sym (narrow e);
        value = is_value choices.ConditionAndFirst comes;
        reads = λ inputs states r. tt;
      }) h

  -- ---- a choice by a `not`

  module _ (condition turned a b : ℕ) (at : slice_get net condition ≡ Some (One Not turned)) (stands : Stands (widths_of net) (Ite condition a b)) where
    turned_within : turned < length (widths_of net)
    turned_within = stands_node net lean.is_net condition (One Not turned) at

    turned_width : width_at (widths_of net) turned ≡ 1
    unfolding one_width
    turned_width = sym (width_node net lean.is_net condition (One Not turned) at) ∙ stands.3

    pub turned_stands : Stands (widths_of net) (Ite turned b a)
    turned_stands = (turned_within, stands.2, stands.1, turned_width, sym stands.4)

    other_choice : (d c x y : BitVector) → HasWidth d 1 → c ≡ op.not d → ite_value d y x ≡ ite_value c x y
    unfolding op.not
    other_choice d c x y bit e =
        by (cases_eq d.number 1)
      where
        below : d.number < 2 ^ 1
        below = subst (λ w. d.number < 2 ^ w) bit.1 bit.0.in_range

        number : c.number ≡ 2 ^ 1 - 1 - d.number
        number = ap (λ (v : BitVector). v.number) e ∙ ap (λ w. 2 ^ w - 1 - d.number) bit.1

        by : (d.number ≡ 1) ⊎ (d.number ≢ 1) → ite_value d y x ≡ ite_value c x y
        by (inl h) = chosen_first d y x h ∙ sym (chosen_second c x y (λ k. absurd (omega (arith, number))))
        by (inr h) = chosen_second d y x h ∙ sym (chosen_first c x y (omega (arith, number, below, h)))

    pub choice-turned : (form : Form) → IsForm net (Ite turned b a) form → IsForm net (Ite condition a b) form
    unfolding one_value
    choice-turned form h = form_through net (Ite condition a b) (Ite turned b a) form (record {
      width = sym stands.4;
      value = λ s feeds.
          let bits = bits_node net lean.is_net s turned feeds (within turned turned_within) in
          other_choice (node_value s net turned) (node_value s net condition) (node_value s net a) (node_value s net b) (bits.0, bits.1 ∙ turned_width) (value_node net lean.is_net s condition (One Not turned) at);
      reads = λ inputs states r. tt;
    }) h

  -- ---- a choice of choices by the same condition

  module _ (condition a b x y : ℕ) (stands : Stands (widths_of net) (Ite condition a b)) (first : IsNodeIf net (λ (c : BitVector). c.number ≡ 1) condition a x) (second : IsNodeIf net (λ (c : BitVector). c.number ≢ 1) condition b y) where
    pub nested_stands : Stands (widths_of net) (Ite condition x y)
    nested_stands = (
      stands.0,
      omega (arith, first.stands, length-one_by_one op_width [] net),
      omega (arith, second.stands, length-one_by_one op_width [] net),
      stands.3,
      first.width ∙ stands.4 ∙ sym second.width,
    )

    pub nested : (form : Form) → IsForm net (Ite condition x y) form → IsForm net (Ite condition a b) form
    nested form h = form_through net (Ite condition a b) (Ite condition x y) form (record {
      width = first.width;
      value = λ s feeds. by s feeds (cases_eq (node_value s net condition).number 1);
      reads = λ inputs states r. tt;
    }) h
      where
        by : (s : Sources) → Feeds s net → ((node_value s net condition).number ≡ 1) ⊎ ((node_value s net condition).number ≢ 1)
            → ite_value (node_value s net condition) (node_value s net x) (node_value s net y) ≡ ite_value (node_value s net condition) (node_value s net a) (node_value s net b)
        by s feeds (inl e) = chosen_first (node_value s net condition) (node_value s net x) (node_value s net y) e ∙ first.value s feeds e ∙ sym (chosen_first (node_value s net condition) (node_value s net a) (node_value s net b) e)
        by s feeds (inr e) = chosen_second (node_value s net condition) (node_value s net x) (node_value s net y) e ∙ second.value s feeds e ∙ sym (chosen_second (node_value s net condition) (node_value s net a) (node_value s net b) e)

-- ---- what is chosen by a condition

module _ (net : List NetOp) (is : IsNet net) (condition id x y : ℕ) (at : slice_get net id ≡ Some (Ite condition x y)) where
  pub chosen_if_set : IsNodeIf net (λ (c : BitVector). c.number ≡ 1) condition id x
  chosen_if_set = record {
    stands = within_node net is x (stands_node net is id (Ite condition x y) at).1;
    width = sym (width_node net is id (Ite condition x y) at);
    value = λ s feeds h. sym (value_node net is s id (Ite condition x y) at ∙ chosen_first (node_value s net condition) (node_value s net x) (node_value s net y) h);
  }

  pub chosen_if_clear : IsNodeIf net (λ (c : BitVector). c.number ≢ 1) condition id y
  chosen_if_clear = record {
    stands = within_node net is y (stands_node net is id (Ite condition x y) at).2;
    width = sym (stands_node net is id (Ite condition x y) at).4 ∙ sym (width_node net is id (Ite condition x y) at);
    value = λ s feeds h. sym (value_node net is s id (Ite condition x y) at ∙ chosen_second (node_value s net condition) (node_value s net x) (node_value s net y) h);
  }
