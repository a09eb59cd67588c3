-- How the nodes of a net get their places in another, one after another.
use Rattle.std.proofs.Common.{◌≡◌, ℕ, ◌+◌, ◌<◌, ◌≤◌, ◌⊎◌, inl, inr, List, [], ◌∷◌, ◌++◌, length, get_or, take, sym, ap, subst, ◌∙◌, arith, length-append}
use Rattle.std.specs.Prelude.{slice_get, Some}
use Rattle.std.specs.List.{All}
use Rattle.std.proofs.lemmas.Bool.{cases_lt}
use Rattle.std.proofs.lemmas.List.{get_or_append_left, get_or_at, length-take-le, length_push}
use Rattle.std.proofs.lemmas.Option.{slice_get_within}
use Rattle.net_graph.specs.Laws.{Feeds}
use Rattle.net_graph.specs.Nets.{IsNet, op_width, Stands, width_at, widths_of}
use Rattle.net_graph.specs.Values.{node_value, op_value, Reads, Sources, values_of}
use Rattle.net_graph.specs.declared.node.NetOp.{NetOp}
use Rattle.net_graph.specs.declared.node.NetOp.TheVariants.{Input, State}
use Rattle.net_graph.proofs.OneByOne.{length-one_by_one}
use Rattle.net_graph.proofs.Values.{values-kept}
use Rattle.circuit_eval.specs.Tidy.{operands}
use Rattle.net_simplify.specs.inner.Passes.{Gains, nth, ReadsOnly, Reduces, renamed, StandsFor}
use Rattle.net_simplify.proofs.Forming.{all_at}
use Rattle.net_simplify.proofs.Growing.{width_kept}
use Rattle.net_simplify.proofs.OtherOperands.{operands_stand, renamed_stands, renamed_value, renamed_width, SameWidth}
use Rattle.net_simplify.proofs.Standing.{stands_before, stands_node, value_node, width_node}

-- ---- places

pub nth_before : (places : List ℕ) (place id : ℕ) → id < length places → nth (places ++ place ∷ []) id ≡ nth places id
nth_before places place id h = get_or_append_left places (place ∷ []) 0 id h

pub nth_last : (places : List ℕ) (place id : ℕ) → length places ≡ id → nth (places ++ place ∷ []) id ≡ place
nth_last places place id h = get_or_at places place [] 0 id h

-- a renamed operator reads what the operator does
pub reads_renamed : (inputs states : List ℕ) (place : ℕ → ℕ) (op : NetOp) → Reads inputs states op → Reads inputs states (renamed place op)
reads_renamed inputs states place (Input number width) h = h
reads_renamed inputs states place (State number width) h = h
reads_renamed inputs states place _ h = tt

-- what feeds a net feeds one that reads nothing else
pub feeds_only : (s : Sources) (old new : List NetOp) → ReadsOnly old new → Feeds s old → Feeds s new
feeds_only s old new only feeds = record { inputs = feeds.inputs; states = feeds.states; reads = only _ _ feeds.reads }

-- the operands of a node stand before it
pub operands_before : (net : List NetOp) → IsNet net → (id : ℕ) (op : NetOp) → slice_get net id ≡ Some op → All (λ a. a < id) (operands op)
operands_before net is id op at k d h =
    let within : get_or (operands op) k d < length (take id (widths_of net)) = operands_stand (take id (widths_of net)) op (stands_before net is id op at) k d h in
    omega (arith, within, length-take-le id (widths_of net) (omega (arith, slice_get_within net id op at, length-one_by_one op_width [] net)))

-- a node that stands for another does so in a net that has grown
pub stands_for_more : (old new nodes : List NetOp) (id place : ℕ) → StandsFor old id new place → StandsFor old id (new ++ nodes) place
stands_for_more old new nodes id place for = record {
  stands = omega (arith, for.stands, length-append new nodes);
  width = width_kept new nodes place for.stands ∙ for.width;
  value = λ s feeds. values-kept s new nodes place for.stands ∙ for.value s feeds;
}

-- ---- an operator on places that stand for its operands

module _ (old new : List NetOp) (is : IsNet old) (id : ℕ) (op : NetOp) (at : slice_get old id ≡ Some op) (place : ℕ → ℕ) (for : All (λ a. StandsFor old a new (place a)) (operands op)) where
  same : All (SameWidth (widths_of old) (widths_of new) place) (operands op)
  same k d h =
      let one = for k d h in
      record { stands = omega (arith, one.stands, length-one_by_one op_width [] new); width = one.width }

  pub carried_stands : Stands (widths_of new) (renamed place op)
  carried_stands = renamed_stands (widths_of old) (widths_of new) place op same (stands_node old is id op at)

  pub carried_width : op_width (widths_of new) (renamed place op) ≡ width_at (widths_of old) id
  carried_width = renamed_width (widths_of old) (widths_of new) place op same ∙ sym (width_node old is id op at)

  pub carried_value : (s : Sources) → Feeds s old → op_value s (values_of s new) (renamed place op) ≡ node_value s old id
  carried_value s feeds =
      renamed_value s (values_of s old) (values_of s new) place op (λ k d h. (for k d h).value s feeds) ∙ sym (value_node old is s id op at)

-- ---- one node more

module _ (old new : List NetOp) (count : ℕ) (places : List ℕ) (is : IsNet old) (so_far : Reduces old count new places) (op : NetOp) (at : slice_get old count ≡ Some op) where
  pub operands_placed : All (λ a. a < length places) (operands op)
  operands_placed k d h = omega (arith, operands_before old is count op at k d h, so_far.many)

  for : All (λ a. StandsFor old a new (nth places a)) (operands op)
  for k d h = so_far.each (get_or (operands op) k d) (operands_before old is count op at k d h)

  pub next_stands : Stands (widths_of new) (renamed (nth places) op)
  next_stands = carried_stands old new is count op at (nth places) for

  pub reduces-more : (newer : List NetOp) (place : ℕ) → Gains new (renamed (nth places) op) newer place → Reduces old (count + 1) newer (places ++ place ∷ [])
  reduces-more newer place gains = record {
    many = length_push places place ∙ ap (λ n. n + 1) so_far.many;
    lean = gains.lean;
    reads = λ inputs states h. gains.reads inputs states (reads_renamed inputs states (nth places) op (all_at (Reads inputs states) old count op h at)) (so_far.reads inputs states h);
    each = λ id h. by id (cases_lt id count) h;
  }
    where
      one : StandsFor old count newer place
      one = record {
        stands = gains.stands;
        width = gains.width ∙ carried_width old new is count op at (nth places) for;
        value = λ s feeds. gains.value s (feeds_only s old new so_far.reads feeds) ∙ carried_value old new is count op at (nth places) for s feeds;
      }

      by : (id : ℕ) → (id < count) ⊎ (count ≤ id) → id < count + 1 → StandsFor old id newer (nth (places ++ place ∷ []) id)
      by id (inl h) below =
          subst (StandsFor old id newer) (sym (nth_before places place id (omega (arith, so_far.many))))
          (subst (λ (n : List NetOp). StandsFor old id n (nth places id)) (sym gains.more.1) (stands_for_more old new gains.more.0 id (nth places id) (so_far.each id h)))
      by id (inr h) below =
          let last : id ≡ count = omega arith in
          subst (λ k. StandsFor old k newer (nth (places ++ place ∷ []) k)) (sym last) (subst (StandsFor old count newer) (sym (nth_last places place count so_far.many)) one)
