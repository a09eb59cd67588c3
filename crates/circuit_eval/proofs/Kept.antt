-- Values that are kept as words, and wide ones as themselves.
use Rattle.std.proofs.Common.{◌≡◌, ⊎_elim, ℕ, suc, zero, ◌+◌, ◌<◌, ◌≤◌, Bool, true, false, List, [], ◌∷◌, get_or, length, map, take, refl, sym, ap, ap₂, subst, ◌∙◌, arith}
use Rattle.std.specs.Prelude.{All, cond, filter, if◌then◌else◌, nat_eq}
use Rattle.std.proofs.lemmas.Bool.{cases_Bool, cases_lt, eqb-true, le-leb, lt-leb}
use Rattle.std.proofs.lemmas.List.{get_or-map, get_or-take, get_or_default, length-map, length-take-le, same_lists}
use Rattle.std.proofs.lemmas.Nat.{pow_pos}
use Rattle.kw_bits.specs.BitVector.{BitVector, IsBits, zero_at}
use Rattle.kw_bits.specs.Laws.{HasWidth}
use Rattle.net_graph.specs.Nets.{IsNet, op_width, width_at, widths_of}
use Rattle.net_graph.specs.Values.{no_bits, op_value, Sources, value_at, widths}
use Rattle.net_graph.specs.declared.node.NetOp.{NetOp}
use Rattle.net_graph.proofs.NodeWidths.{widths_of-Wide}
use Rattle.net_graph.proofs.OneByOne.{length-one_by_one}
use Rattle.net_graph.proofs.OperatorWidths.{width-value_at}
use Rattle.net_graph.proofs.Values.{values-widths}
use Rattle.circuit_eval.proofs.Fitting.{made, next_states-AreBits, step_feeds}
use Rattle.circuit_eval.specs.Circuits.{AreBits, input_widths, IsCircuit, IsState, state_widths}
use Rattle.circuit_eval.specs.Programs.{AreKept, kept_from, kept_value, node_width, word_at}
use Rattle.circuit_eval.specs.inner.Programs.{AreWides, Keeps, narrow_number}
use Rattle.circuit_eval.specs.Run.{first_states, flag_nodes, flags, is_one, is_one_bit, next_states, outputs_in, values_in, zero_outputs}
use Rattle.circuit_eval.specs.declared.circuit.OutputWire.{OutputWire}
use Rattle.circuit_eval.specs.declared.circuit.StateWire.{StateWire}
use Rattle.circuit_eval.specs.declared.circuit.Wires.{Wires}

pub length-kept_from : (ws words : List ℕ) (wides : List BitVector) (place : ℕ) → length (kept_from ws words wides place) ≡ length ws
unfolding kept_from
length-kept_from [] words wides place = refl
length-kept_from (w ∷ ws) words wides place = ap suc (length-kept_from ws words wides (place + 1))

at_place : (ws words : List ℕ) (wides : List BitVector) (place k : ℕ) → k < length ws
    → value_at (kept_from ws words wides place) k ≡ kept_value (width_at ws k) (word_at words (place + k)) (value_at wides (place + k))
unfolding kept_from
at_place [] words wides place k h = absurd (omega arith)
at_place (w ∷ ws) words wides place zero h = ap (λ (n : ℕ). kept_value w (word_at words n) (value_at wides n)) (omega arith)
at_place (w ∷ ws) words wides place (suc k) h =
    at_place ws words wides (place + 1) k (omega arith) ∙ ap (λ (n : ℕ). kept_value (width_at ws k) (word_at words n) (value_at wides n)) (omega arith)

module _ (ws words : List ℕ) (wides : List BitVector) where
  at_first : (k : ℕ) → k < length ws → value_at (kept_from ws words wides 0) k ≡ kept_value (width_at ws k) (word_at words k) (value_at wides k)
  at_first k h =
      let same : 0 + k ≡ k = omega arith in
      at_place ws words wides 0 k h ∙ ap (λ (n : ℕ). kept_value (width_at ws k) (word_at words n) (value_at wides n)) same

  -- a value of up to 64 bits has its word as its number
  pub kept_narrow : (k : ℕ) → k < length ws → width_at ws k ≤ 64 → value_at (kept_from ws words wides 0) k ≡ record { width = width_at ws k; number = word_at words k }
  kept_narrow k h narrow =
      at_first k h
      ∙ ap (λ (b : Bool). if b then (record { width = width_at ws k; number = word_at words k }) else value_at wides k) (le-leb (width_at ws k) 64 narrow)

  -- a wider one is as it is kept
  pub kept_wide : (k : ℕ) → k < length ws → 64 < width_at ws k → value_at (kept_from ws words wides 0) k ≡ value_at wides k
  kept_wide k h wide =
      at_first k h
      ∙ ap (λ (b : Bool). if b then (record { width = width_at ws k; number = word_at words k }) else value_at wides k) (lt-leb (width_at ws k) 64 wide)

  -- what is kept of values is these values
  pub kept_is : (values : List BitVector) → length values ≡ length ws → ((k : ℕ) → k < length ws → (value_at values k).width ≡ width_at ws k)
      → ((k : ℕ) → k < length ws → width_at ws k ≤ 64 → word_at words k ≡ (value_at values k).number)
      → ((k : ℕ) → k < length ws → 64 < width_at ws k → value_at wides k ≡ value_at values k) → kept_from ws words wides 0 ≡ values
  kept_is values count sized narrow wide =
      let here : (k : ℕ) → k < length ws → value_at (kept_from ws words wides 0) k ≡ value_at values k = λ k h.
      ⊎_elim (λ (l : 64 < width_at ws k). kept_wide k h l ∙ wide k h l)
      (λ (l : width_at ws k ≤ 64). kept_narrow k h l ∙ (λ i. record { width = sym (sized k h) i; number = narrow k h l i })) (cases_lt 64 (width_at ws k)) in
      same_lists (kept_from ws words wides 0) values (length-kept_from ws words wides 0 ∙ sym count) (λ k d h.
      let within : k < length ws = omega (arith, h, length-kept_from ws words wides 0) in
      get_or_default (kept_from ws words wides 0) k d no_bits h ∙ here k within ∙ get_or_default values k no_bits d (omega (arith, within, count)))

-- the width of one of them
pub width_of : (values : List BitVector) (ws : List ℕ) → AreBits values ws → (k : ℕ) → (value_at values k).width ≡ width_at ws k
width_of values ws fit k = sym (width-value_at values k) ∙ ap (λ (vs : List ℕ). width_at vs k) fit.widths

pub has_width : (values : List BitVector) (ws : List ℕ) → AreBits values ws → (k : ℕ) → k < length ws → HasWidth (value_at values k) (width_at ws k)
has_width values ws fit k h =
    let count : length values ≡ length ws = sym (length-map values (λ (b : BitVector). b.width)) ∙ ap length fit.widths in
    (fit.bits k no_bits (omega (arith, h, count)), width_of values ws fit k)

pub length-widths_of : (net : List NetOp) → length (widths_of net) ≡ length net
length-widths_of net = omega (arith, length-one_by_one op_width [] net)

-- what is kept of the nodes of a net keeps its values
pub nodes_kept : (net : List NetOp) (words : List ℕ) (wides : List BitVector) → AreBits (kept_from (widths_of net) words wides 0) (widths_of net)
    → Keeps net words wides (kept_from (widths_of net) words wides 0) (length net)
nodes_kept net words wides fit k h =
    let within : k < length (widths_of net) = omega (arith, h, length-widths_of net) in
    record {
      fits = has_width (kept_from (widths_of net) words wides 0) (widths_of net) fit k within;
      narrow = λ n. sym (ap (λ (v : BitVector). v.number) (kept_narrow (widths_of net) words wides k within n));
      wide = λ w. sym (kept_wide (widths_of net) words wides k within w);
    }

-- and the values that are kept of them are these
pub kept_nodes : (net : List NetOp) (words : List ℕ) (wides values : List BitVector) → length values ≡ length net → Keeps net words wides values (length net)
    → kept_from (widths_of net) words wides 0 ≡ values
kept_nodes net words wides values count keeps =
    let inside : (k : ℕ) → k < length (widths_of net) → k < length net = λ k h. omega (arith, h, length-widths_of net) in
    kept_is (widths_of net) words wides values (count ∙ sym (length-widths_of net)) (λ k h. (keeps k (inside k h)).fits.1)
    (λ k h n. (keeps k (inside k h)).narrow n) (λ k h w. (keeps k (inside k h)).wide w)

-- the flags of outputs are the words of the nodes of one bit
pub flags_are : (ns words : List ℕ) (values : List BitVector) (outputs : List OutputWire)
    → All (λ (wire : OutputWire). ((value_at values wire.id).width ≡ width_at ns wire.id) × (width_at ns wire.id ≡ 1 → (value_at values wire.id).number ≡ word_at words wire.id)) outputs
    → flags (outputs_in outputs values) ≡ map (λ (id : ℕ). nat_eq (word_at words id) 1) (flag_nodes ns outputs)
flags_are ns words values [] fit = refl
flags_are ns words values (wire ∷ outputs) fit =
    let rest = flags_are ns words values outputs (λ k d within. fit (suc k) d (omega (arith, within))) in
    let own = fit 0 wire (omega arith) in
    let value : BitVector = value_at values wire.id in
    let others : List BitVector = filter is_one_bit (outputs_in outputs values) in
    let wires : List OutputWire = filter (λ (wire : OutputWire). nat_eq (width_at ns wire.id) 1) outputs in
    let ids : List OutputWire → List ℕ = map (λ (wire : OutputWire). wire.id) in
    let bits : List ℕ → List Bool = map (λ (id : ℕ). nat_eq (word_at words id) 1) in
    ⊎_elim (λ (t : nat_eq (width_at ns wire.id) 1 ≡ true).
    ap (λ (b : Bool). map is_one (cond b (value ∷ others) others)) (ap (λ (n : ℕ). nat_eq n 1) own.0 ∙ t)
    ∙ ap₂ (λ (b : Bool) (bs : List Bool). b ∷ bs) (ap (λ (n : ℕ). nat_eq n 1) (own.1 (eqb-true (width_at ns wire.id) 1 t))) rest
    ∙ sym (ap (λ (b : Bool). bits (ids (cond b (wire ∷ wires) wires))) t))
    (λ (t : nat_eq (width_at ns wire.id) 1 ≡ false).
    ap (λ (b : Bool). map is_one (cond b (value ∷ others) others)) (ap (λ (n : ℕ). nat_eq n 1) own.0 ∙ t) ∙ rest
    ∙ sym (ap (λ (b : Bool). bits (ids (cond b (wire ∷ wires) wires))) t))
    (cases_Bool (nat_eq (width_at ns wire.id) 1))

-- some item of a list that has one
first_of : {X : Type 0} (items : List X) (k : ℕ) → k < length items → X
first_of [] k h = absurd (omega arith)
first_of (item ∷ items) k h = item

-- values, as they are kept
module _ (ws words : List ℕ) (wides now : List BitVector) (is : kept_from ws words wides 0 ≡ now) (kept : AreKept ws words wides) where
  pub count_now : length now ≡ length ws
  count_now = ap length (sym is) ∙ length-kept_from ws words wides 0

  pub fit_now : AreBits now ws
  fit_now = subst (λ (vs : List BitVector). AreBits vs ws) is kept.fit

  pub narrow_now : (k : ℕ) → k < length now → width_at ws k ≤ 64 → value_at now k ≡ record { width = width_at ws k; number = word_at words k }
  narrow_now k h narrow = ap (λ (vs : List BitVector). value_at vs k) (sym is) ∙ kept_narrow ws words wides k (omega (arith, h, count_now)) narrow

  pub wide_now : (k : ℕ) → k < length now → 64 < width_at ws k → value_at now k ≡ value_at wides k
  wide_now k h wide = ap (λ (vs : List BitVector). value_at vs k) (sym is) ∙ kept_wide ws words wides k (omega (arith, h, count_now)) wide

  pub word_now : (k : ℕ) → k < length now → (value_at now k).width ≤ 64 → word_at words k ≡ (value_at now k).number
  word_now k h narrow = sym (ap (λ (v : BitVector). v.number) (narrow_now k h (omega (arith, narrow, width_of now ws fit_now k))))

-- the next values of states are kept
module _ (net : List NetOp) (nodes_words : List ℕ) (nodes_wides values : List BitVector) (keeps : Keeps net nodes_words nodes_wides values (length net))
    (wires : List StateWire) (stand : All (IsState net) wires) where
  next_at : (k : ℕ) (d : StateWire) → k < length wires → value_at (next_states wires values) k ≡ value_at values (get_or wires k d).next
  next_at k d h = get_or-map (λ (wire : StateWire). value_at values wire.next) wires k d no_bits h

  next_fits : (k : ℕ) (d : StateWire) → k < length wires → HasWidth (value_at (next_states wires values) k) (width_at (state_widths wires) k)
  next_fits k d h =
      let wire : StateWire = get_or wires k d in
      let here = stand k d h in
      let width : node_width net wire.next ≡ width_at (state_widths wires) k = here.next_width ∙ sym (get_or-map (λ (wire : StateWire). wire.width) wires k d 0 h) in
      subst (λ (w : ℕ). HasWidth (value_at (next_states wires values) k) w) width
      (subst (λ (v : BitVector). HasWidth v (node_width net wire.next)) (sym (next_at k d h)) (keeps wire.next here.next).fits)

  next_count : length (next_states wires values) ≡ length (state_widths wires)
  next_count = length-map wires (λ (wire : StateWire). value_at values wire.next) ∙ sym (length-map wires (λ (wire : StateWire). wire.width))

  next_word : (k : ℕ) (d : StateWire) → k < length wires → width_at (state_widths wires) k ≤ 64
      → word_at (map (λ (wire : StateWire). word_at nodes_words wire.next) wires) k ≡ (value_at (next_states wires values) k).number
  next_word k d h narrow =
      let wire : StateWire = get_or wires k d in
      let here = stand k d h in
      let width : width_at (state_widths wires) k ≡ wire.width = get_or-map (λ (wire : StateWire). wire.width) wires k d 0 h in
      get_or-map (λ (wire : StateWire). word_at nodes_words wire.next) wires k d 0 h ∙ (keeps wire.next here.next).narrow (omega (arith, here.next_width, width, narrow))
      ∙ ap (λ (v : BitVector). v.number) (sym (next_at k d h))

  -- as words, and as values where one is wide
  pub next_kept : (wides : List BitVector) → ((k : ℕ) → k < length wires → 64 < width_at (state_widths wires) k → value_at wides k ≡ value_at (next_states wires values) k)
      → kept_from (state_widths wires) (map (λ (wire : StateWire). word_at nodes_words wire.next) wires) wides 0 ≡ next_states wires values
  next_kept wides wide =
      let inside : (k : ℕ) → k < length (state_widths wires) → k < length wires = λ k h. omega (arith, h, length-map wires (λ (wire : StateWire). wire.width)) in
      kept_is (state_widths wires) (map (λ (wire : StateWire). word_at nodes_words wire.next) wires) wides (next_states wires values) next_count
      (λ k h. (next_fits k (first_of wires k (inside k h)) (inside k h)).1) (λ k h n. next_word k (first_of wires k (inside k h)) (inside k h) n) (λ k h w. wide k (inside k h) w)

  pub next_are : AreBits (next_states wires values) (state_widths wires)
  next_are = made (λ (wire : StateWire). value_at values wire.next) wires (λ k d h.
      let wire : StateWire = get_or wires k d in
      let here = stand k d h in
      subst (λ (w : ℕ). HasWidth (value_at values wire.next) w) here.next_width (keeps wire.next here.next).fits)

  -- and they are kept so after a step
  pub next_state_words : (ws words : List ℕ) (wides : List BitVector) (n : ℕ) → ws ≡ state_widths wires → words ≡ map (λ (wire : StateWire). word_at nodes_words wire.next) wires
      → wides ≡ take n (next_states wires values) → n ≤ length ws → ((k : ℕ) → k < length ws → 64 < width_at ws k → k < n)
      → AreKept ws words wides × (kept_from ws words wides 0 ≡ next_states wires values)
  next_state_words ws words wides n same_widths same_words same_wides few wide =
      let next : List BitVector = next_states wires values in
      let inside : (k : ℕ) → k < length wires → k < length ws = λ k h. omega (arith, h, ap length same_widths, length-map wires (λ (wire : StateWire). wire.width)) in
      let long : length wides ≡ n = ap length same_wides ∙ length-take-le n next (omega (arith, few, ap length same_widths, next_count)) in
      let is : kept_from ws words wides 0 ≡ next =
      ap (λ (vs : List ℕ). kept_from vs words wides 0) same_widths ∙ ap (λ (vs : List ℕ). kept_from (state_widths wires) vs wides 0) same_words
      ∙ next_kept wides (λ k h w. let own : 64 < width_at ws k = subst (λ (vs : List ℕ). 64 < width_at vs k) (sym same_widths) w in
      ap (λ (vs : List BitVector). value_at vs k) same_wides ∙ get_or-take n next k no_bits (wide k (inside k h) own)) in (
        record {
          fit = subst (λ (vs : List BitVector). AreBits vs ws) (sym is) (subst (λ (vs : List ℕ). AreBits next vs) (sym same_widths) next_are);
          each = ap length same_words ∙ length-map wires (λ (wire : StateWire). word_at nodes_words wire.next) ∙ sym (ap length same_widths ∙ length-map wires (λ (wire : StateWire). wire.width));
          few = omega (arith, long, few);
          wide = λ k h w. omega (arith, long, wide k h w);
        },
        is,
      )

-- the first values of states are kept
module _ (wires : List StateWire) (wides : List BitVector) (fits : All (λ (wire : StateWire). HasWidth wire.first wire.width) wires) (are : AreWides wires wides) where
  first_at : (k : ℕ) (d : StateWire) → k < length wires → value_at (first_states wires) k ≡ (get_or wires k d).first
  first_at k d h = get_or-map (λ (wire : StateWire). wire.first) wires k d no_bits h

  width_of_state : (k : ℕ) (d : StateWire) → k < length wires → width_at (state_widths wires) k ≡ (get_or wires k d).width
  width_of_state k d h = get_or-map (λ (wire : StateWire). wire.width) wires k d 0 h

  inside_states : (k : ℕ) → k < length (state_widths wires) → k < length wires
  inside_states k h = omega (arith, h, length-map wires (λ (wire : StateWire). wire.width))

  first_word : (k : ℕ) (d : StateWire) → k < length wires → width_at (state_widths wires) k ≤ 64
      → word_at (map (λ (wire : StateWire). narrow_number wire.first) wires) k ≡ (value_at (first_states wires) k).number
  first_word k d h narrow =
      let wire : StateWire = get_or wires k d in
      let small : wire.first.width ≤ 64 = omega (arith, (fits k d h).1, width_of_state k d h, narrow) in
      get_or-map (λ (wire : StateWire). narrow_number wire.first) wires k d 0 h ∙ ap (λ (b : Bool). if b then wire.first.number else 0) (le-leb wire.first.width 64 small)
      ∙ ap (λ (v : BitVector). v.number) (sym (first_at k d h))

  first_wide : (k : ℕ) (d : StateWire) → k < length wires → 64 < width_at (state_widths wires) k → value_at wides k ≡ value_at (first_states wires) k
  first_wide k d h wide =
      ⊎_elim (λ e. ap (λ (vs : List BitVector). value_at vs k) e) (λ none. absurd (omega (arith, none.0 k d h, width_of_state k d h, wide))) are

  pub first_kept : kept_from (state_widths wires) (map (λ (wire : StateWire). narrow_number wire.first) wires) wides 0 ≡ first_states wires
  first_kept =
      kept_is (state_widths wires) (map (λ (wire : StateWire). narrow_number wire.first) wires) wides (first_states wires)
      (length-map wires (λ (wire : StateWire). wire.first) ∙ sym (length-map wires (λ (wire : StateWire). wire.width)))
      (λ k h. let within = inside_states k h in
      let d : StateWire = first_of wires k within in
      ap (λ (v : BitVector). v.width) (first_at k d within) ∙ (fits k d within).1 ∙ sym (width_of_state k d within))
      (λ k h n. first_word k (first_of wires k (inside_states k h)) (inside_states k h) n)
      (λ k h w. first_wide k (first_of wires k (inside_states k h)) (inside_states k h) w)

  pub first_are_kept : AreKept (state_widths wires) (map (λ (wire : StateWire). narrow_number wire.first) wires) wides
  first_are_kept = record {
    fit = subst (λ (vs : List BitVector). AreBits vs (state_widths wires)) (sym first_kept) (made (λ (wire : StateWire). wire.first) wires fits);
    each = length-map wires (λ (wire : StateWire). narrow_number wire.first) ∙ sym (length-map wires (λ (wire : StateWire). wire.width));
    few = ⊎_elim (λ e. omega (arith, ap length e, length-map wires (λ (wire : StateWire). wire.first), length-map wires (λ (wire : StateWire). wire.width)))
        (λ none. omega (arith, ap length none.1)) are;
    wide = λ k h w. ⊎_elim (λ e. omega (arith, h, ap length e, length-map wires (λ (wire : StateWire). wire.first), length-map wires (λ (wire : StateWire). wire.width)))
        (λ none. let within = inside_states k h in
        let wire : StateWire = first_of wires k within in
        absurd (omega (arith, w, width_of_state k wire within, none.0 k wire within))) are;
  }

-- zeros are kept as words that are 0, and as wide zeros
zero_at_place : (ws : List ℕ) (k : ℕ) → k < length ws → value_at (map zero_at ws) k ≡ zero_at (width_at ws k)
zero_at_place ws k h = get_or-map zero_at ws k 0 no_bits h

pub zeros_kept : (net : List NetOp) (wides : List BitVector)
    → ((id : ℕ) → id < length net → 64 < node_width net id → (id < length wides) × (value_at wides id ≡ zero_at (node_width net id)))
    → kept_from (widths_of net) (map (λ (op : NetOp). 0) net) wides 0 ≡ map zero_at (widths_of net)
zeros_kept net wides wide =
    let ws : List ℕ = widths_of net in
    let inside : (k : ℕ) → k < length ws → k < length net = λ k h. omega (arith, h, length-widths_of net) in
    kept_is ws (map (λ (op : NetOp). 0) net) wides (map zero_at ws) (length-map ws zero_at)
    (λ k h. ap (λ (v : BitVector). v.width) (zero_at_place ws k h))
    (λ k h n. get_or-map (λ (op : NetOp). 0) net k (first_of net k (inside k h)) 0 (inside k h) ∙ ap (λ (v : BitVector). v.number) (sym (zero_at_place ws k h)))
    (λ k h w. (wide k (inside k h) w).1 ∙ sym (zero_at_place ws k h))

pub zeros_are : (net : List NetOp) → IsNet net → AreBits (map zero_at (widths_of net)) (widths_of net)
zeros_are net valid =
    let ws : List ℕ = widths_of net in
    let values : List BitVector = map zero_at ws in
    let count : length (widths values) ≡ length ws = length-map values (λ (b : BitVector). b.width) ∙ length-map ws zero_at in
    record {
      widths = same_lists (widths values) ws count (λ k d h.
          let within : k < length ws = omega (arith, h, count) in
          get_or_default (widths values) k d 0 h ∙ width-value_at values k ∙ ap (λ (v : BitVector). v.width) (zero_at_place ws k within) ∙ get_or_default ws k 0 d within);
      bits = λ k d h.
          let within : k < length ws = omega (arith, h, length-map ws zero_at) in
          let wide = widths_of-Wide net valid k 0 within in
          let bits : IsBits (zero_at (width_at ws k)) = record { some_bit = wide.0; no_wider = wide.1; in_range = pow_pos (width_at ws k) } in
          subst IsBits (sym (zero_at_place ws k within) ∙ get_or_default values k no_bits d h) bits;
    }

-- the outputs before the first step
pub zero_outputs_are : (ws : List ℕ) (outputs : List OutputWire) → All (λ (wire : OutputWire). wire.id < length ws) outputs → outputs_in outputs (map zero_at ws) ≡ zero_outputs ws outputs
zero_outputs_are ws [] stand = refl
zero_outputs_are ws (wire ∷ outputs) stand =
    ap₂ (λ (v : BitVector) (vs : List BitVector). v ∷ vs) (zero_at_place ws wire.id (stand 0 wire (omega arith))) (zero_outputs_are ws outputs (λ k d h. stand (suc k) d (omega (arith, h))))

-- the nodes of the outputs of one bit are nodes
all_more : {X : Type 0} (P : X → Type 0) (x : X) (xs : List X) → P x → All P xs → All P (x ∷ xs)
all_more P x xs own rest zero d h = own
all_more P x xs own rest (suc k) d h = rest k d (omega (arith, h))

pub flag_nodes_stand : (n : ℕ) (ns : List ℕ) (outputs : List OutputWire) → All (λ (wire : OutputWire). wire.id < n) outputs → All (λ (id : ℕ). id < n) (flag_nodes ns outputs)
flag_nodes_stand n ns [] stand = λ k d h. absurd (omega arith)
flag_nodes_stand n ns (wire ∷ outputs) stand =
    let rest = flag_nodes_stand n ns outputs (λ k d h. stand (suc k) d (omega (arith, h))) in
    let wires : List OutputWire = filter (λ (wire : OutputWire). nat_eq (width_at ns wire.id) 1) outputs in
    let ids : List OutputWire → List ℕ = map (λ (wire : OutputWire). wire.id) in
    ⊎_elim (λ (t : nat_eq (width_at ns wire.id) 1 ≡ true). subst (λ (b : Bool). All (λ (id : ℕ). id < n) (ids (cond b (wire ∷ wires) wires))) (sym t)
    (all_more (λ (id : ℕ). id < n) wire.id (ids wires) (stand 0 wire (omega arith)) rest))
    (λ (t : nat_eq (width_at ns wire.id) 1 ≡ false). subst (λ (b : Bool). All (λ (id : ℕ). id < n) (ids (cond b (wire ∷ wires) wires))) (sym t) rest)
    (cases_Bool (nat_eq (width_at ns wire.id) 1))

-- the flags of a net's outputs, by what is kept of its nodes
pub flags_kept : (net : List NetOp) (words : List ℕ) (wides : List BitVector) (outputs : List OutputWire) → AreBits (kept_from (widths_of net) words wides 0) (widths_of net)
    → All (λ (wire : OutputWire). wire.id < length net) outputs
    → flags (outputs_in outputs (kept_from (widths_of net) words wides 0)) ≡ map (λ (id : ℕ). nat_eq (word_at words id) 1) (flag_nodes (widths_of net) outputs)
flags_kept net words wides outputs fit stand =
    flags_are (widths_of net) words (kept_from (widths_of net) words wides 0) outputs (λ k d h.
    let id : ℕ = (get_or outputs k d).id in
    let within : id < length (widths_of net) = omega (arith, stand k d h, length-widths_of net) in
    (width_of (kept_from (widths_of net) words wides 0) (widths_of net) fit id, λ one. ap (λ (v : BitVector). v.number) (kept_narrow (widths_of net) words wides id within (omega (arith, one)))))

-- what is kept is the same where it is read
pub keeps_read : (net n : List NetOp) (words ws : List ℕ) (wides vs nodes : List BitVector) → n ≡ net → ws ≡ words → vs ≡ wides → Keeps net words wides nodes (length net)
    → Keeps n ws vs nodes (length n)
keeps_read net n words ws wides vs nodes is e f kept =
    subst (λ (m : List NetOp). Keeps m ws vs nodes (length m)) (sym is)
    (subst (λ (xs : List ℕ). Keeps net xs vs nodes (length net)) (sym e) (subst (λ (xs : List BitVector). Keeps net words xs nodes (length net)) (sym f) kept))

-- what is kept after a step of a circuit
pub record IsStepped (c : Wires) (inputs states : List BitVector) (words : List ℕ) (wides : List BitVector) : Type 0 where
  pub states_fit : AreBits (next_states c.states (values_in c inputs states)) (state_widths c.states)
  pub nodes_fit : AreBits (kept_from (widths_of c.net) words wides 0) (widths_of c.net)
  pub nodes : kept_from (widths_of c.net) words wides 0 ≡ values_in c inputs states

pub stepped : (c : Wires) (inputs states : List BitVector) (words : List ℕ) (wides : List BitVector) → IsCircuit c → AreBits inputs (input_widths c.inputs) → AreBits states (state_widths c.states)
    → Keeps c.net words wides (values_in c inputs states) (length c.net) → IsStepped c inputs states words wides
stepped c inputs states words wides valid given now keeps =
    let s : Sources = record { inputs = inputs; states = states } in
    let fit = values-widths s c.net valid.net (step_feeds c inputs states valid given now) in
    let count : length (values_in c inputs states) ≡ length c.net = omega (arith, length-one_by_one (op_value s) [] c.net) in
    let same : kept_from (widths_of c.net) words wides 0 ≡ values_in c inputs states = kept_nodes c.net words wides (values_in c inputs states) count keeps in
    let own : AreBits (values_in c inputs states) (widths_of c.net) = record { widths = fit.0; bits = fit.1 } in
    record { states_fit = next_states-AreBits c inputs states valid given now; nodes_fit = subst (λ (vs : List BitVector). AreBits vs (widths_of c.net)) (sym same) own; nodes = same }
