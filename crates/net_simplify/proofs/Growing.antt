-- Nets that grow by an operator, and what keeps when they do.
use Rattle.std.proofs.Common.{◌≡◌, ℕ, zero, suc, ◌<◌, ◌⊎◌, inl, inr, true, false, List, [], ◌∷◌, ◌++◌, length, get_or, refl, sym, ap, subst, ◌∙◌, arith, append-nil, length-append}
use Rattle.std.specs.Prelude.{slice_get, Some}
use Rattle.std.specs.List.{All, list_any}
use Rattle.std.proofs.lemmas.Bool.{both_ways, cases_Bool}
use Rattle.std.proofs.lemmas.List.Elements.{All-push}
use Rattle.std.proofs.lemmas.Option.{slice_get-get_or, slice_get_within}
use Rattle.kw_bits.specs.BitVector.{BitVector}
use Rattle.net_graph.specs.Nets.{Adds, IsNet, op_width, Stands, width_at, widths_of}
use Rattle.net_graph.specs.Values.{op_value, Reads, Sources, value_at, values_of}
use Rattle.net_graph.specs.declared.node.NetOne.TheVariants.{Not}
use Rattle.net_graph.specs.declared.node.NetTwo.TheVariants.{And, Or}
use Rattle.net_graph.specs.declared.node.NetOp.{NetOp}
use Rattle.net_graph.specs.declared.node.NetOp.TheVariants.{Const, Input, State, One, Two, Slice, Uext, Sext, Ite}
use Rattle.net_graph.proofs.OneByOne.{get_or-one_by_one-append, length-one_by_one}
use Rattle.net_graph.proofs.Sharing.{contains_from_found, equal, found_from_contains}
use Rattle.net_graph.proofs.Values.{values-kept}
use Rattle.circuit_eval.specs.Tidy.{IsNeeded, IsOpen, operands}
use Rattle.net_simplify.specs.inner.Forms.{Equals, IsForm, IsLean}
use Rattle.net_simplify.specs.inner.Passes.{Gains, renamed}
use Rattle.net_simplify.specs.declared.form.Form.TheVariants.{Node, Constant, Operator}
use Rattle.net_simplify.proofs.OtherOperands.{operands_stand, renamed_value, renamed_width, SameWidth}
use Rattle.net_simplify.proofs.Standing.{stands_node, value_node, width_node}

-- ---- lists that begin with another

pub before_more : {X : Type 0} (xs ys : List X) (i : ℕ) → i < length xs → slice_get (xs ++ ys) i ≡ slice_get xs i
before_more [] ys i h = absurd (omega arith)
before_more (x ∷ xs) ys zero h = refl
before_more (x ∷ xs) ys (suc i) h = before_more xs ys i (omega arith)

-- the operator that stands on its own operands
pub renamed-same : (op : NetOp) → renamed (λ a. a) op ≡ op
renamed-same (Const value) = refl
renamed-same (Input number width) = refl
renamed-same (State number width) = refl
renamed-same (One operator a) = refl
renamed-same (Two operator a b) = refl
renamed-same (Slice a upper lower) = refl
renamed-same (Uext a added) = refl
renamed-same (Sext a added) = refl
renamed-same (Ite condition a b) = refl

module _ (old more : List NetOp) where
  count : length (widths_of old) ≡ length old
  count = omega (arith, length-one_by_one op_width [] old)

  -- ---- widths and values of the nodes before

  pub width_kept : (id : ℕ) → id < length old → width_at (widths_of (old ++ more)) id ≡ width_at (widths_of old) id
  width_kept id within = get_or-one_by_one-append op_width old more id 0 within

  pub op_width_kept : (op : NetOp) → Stands (widths_of old) op → op_width (widths_of (old ++ more)) op ≡ op_width (widths_of old) op
  op_width_kept op stands =
      let all : All (SameWidth (widths_of old) (widths_of (old ++ more)) (λ a. a)) (operands op) = λ k d h.
      let within = operands_stand (widths_of old) op stands k d h in
      record {
        stands = omega (arith, within, count, length-one_by_one op_width [] (old ++ more), length-append old more);
        width = width_kept (get_or (operands op) k d) (omega (arith, within, count));
      } in
      ap (op_width (widths_of (old ++ more))) (sym (renamed-same op)) ∙ renamed_width (widths_of old) (widths_of (old ++ more)) (λ a. a) op all

  pub op_value_kept : (s : Sources) (op : NetOp) → Stands (widths_of old) op → op_value s (values_of s (old ++ more)) op ≡ op_value s (values_of s old) op
  op_value_kept s op stands =
      let all : All (λ a. value_at (values_of s (old ++ more)) a ≡ value_at (values_of s old) a) (operands op) = λ k d h.
      values-kept s old more (get_or (operands op) k d) (omega (arith, operands_stand (widths_of old) op stands k d h, count)) in
      ap (op_value s (values_of s (old ++ more))) (sym (renamed-same op)) ∙ renamed_value s (values_of s old) (values_of s (old ++ more)) (λ a. a) op all

  -- ---- what a tidy circuit asks of the operators before

  open_kept : (op : NetOp) → Stands (widths_of old) op → IsOpen old op → IsOpen (old ++ more) op
  open_kept op stands is_open some all =
      is_open some (λ k d h.
      let is = all k d h in
      (is.0, sym (before_more old more (get_or (operands op) k d) (omega (arith, operands_stand (widths_of old) op stands k d h, count))) ∙ is.1))

  needed_kept : (op : NetOp) → Stands (widths_of old) op → IsNeeded old op → IsNeeded (old ++ more) op
  needed_kept (Ite condition a b) stands h = h
  needed_kept (Two And a b) stands h = h
  needed_kept (Two Or a b) stands h = h
  needed_kept (One Not a) stands h = λ b at. h b (sym (before_more old more a (omega (arith, stands, count))) ∙ at)
  needed_kept _ stands h = tt

  kept : (P Q : NetOp → Type 0) → IsNet old → ((op : NetOp) → Stands (widths_of old) op → P op → Q op) → All P old → All Q old
  kept P Q is more all k d h = more (get_or old k d) (stands_node old is k (get_or old k d) (slice_get-get_or old k d h)) (all k d h)

  pub open_all : IsNet old → All (IsOpen old) old → All (IsOpen (old ++ more)) old
  open_all is all = kept (IsOpen old) (IsOpen (old ++ more)) is open_kept all

  pub needed_all : IsNet old → All (IsNeeded old) old → All (IsNeeded (old ++ more)) old
  needed_all is all = kept (IsNeeded old) (IsNeeded (old ++ more)) is needed_kept all

  pub open_one : (op : NetOp) → Stands (widths_of old) op → IsOpen old op → IsOpen (old ++ more) op
  open_one op stands h = open_kept op stands h

  pub needed_one : (op : NetOp) → Stands (widths_of old) op → IsNeeded old op → IsNeeded (old ++ more) op
  needed_one op stands h = needed_kept op stands h

-- ---- a form that was added

pub gains_node : (old : List NetOp) (op : NetOp) (id : ℕ) → IsLean old → IsForm old op (Node id) → Gains old op old id
gains_node old op id lean form = record {
  more = ([], sym (append-nil old));
  lean = lean;
  reads = λ inputs states r h. h;
  stands = form.stands;
  width = form.equals.width;
  value = form.equals.value;
}

module _ (old : List NetOp) (op added : NetOp) (lean : IsLean old) (stands : Stands (widths_of old) added) (is_open : IsOpen old added) (needed : IsNeeded old added) (equals : Equals old op (Operator added)) where
  shared : (id : ℕ) → slice_get old id ≡ Some added → Gains old op old id
  shared id at = record {
    more = ([], sym (append-nil old));
    lean = lean;
    reads = λ inputs states r h. h;
    stands = slice_get_within old id added at;
    width = width_node old lean.is_net id added at ∙ equals.width;
    value = λ s feeds. value_node old lean.is_net s id added at ∙ equals.value s feeds;
  }

  last : (id : ℕ) → IsNet (old ++ added ∷ []) → slice_get (old ++ added ∷ []) id ≡ Some added → Gains old op (old ++ added ∷ []) id
  last id is at =
      let more : List NetOp = added ∷ [] in
      record {
        more = (more, refl);
        lean = record {
          is_net = is;
          are_open = All-push (IsOpen (old ++ more)) old added (open_all old more lean.is_net lean.are_open) (open_one old more added stands is_open);
          needed = All-push (IsNeeded (old ++ more)) old added (needed_all old more lean.is_net lean.needed) (needed_one old more added stands needed);
        };
        reads = λ inputs states r h. All-push (Reads inputs states) old added h (equals.reads inputs states r);
        stands = slice_get_within (old ++ more) id added at;
        width = width_node (old ++ more) is id added at ∙ op_width_kept old more added stands ∙ equals.width;
        value = λ s feeds. value_node (old ++ more) is s id added at ∙ op_value_kept old more s added stands ∙ equals.value s feeds;
      }

  pub gains_added : (new : List NetOp) (id : ℕ) → IsNet new → Adds old added id new → Gains old op new id
  gains_added new id is adds = by (cases_Bool (list_any (equal added) old))
    where
      by : (list_any (equal added) old ≡ true) ⊎ (list_any (equal added) old ≡ false) → Gains old op new id
      by (inl there) =
          let same = adds.shared (contains_from_found old added there) in
          subst (λ (n : List NetOp). Gains old op n id) (sym same) (shared id (subst (λ (n : List NetOp). slice_get n id ≡ Some added) same adds.at))
      by (inr absent) =
          let same = adds.last (λ there. both_ways _ absent (found_from_contains old added there)) in
          subst (λ (n : List NetOp). Gains old op n id) (sym same) (last id (subst IsNet same is) (subst (λ (n : List NetOp). slice_get n id ≡ Some added) same adds.at))

-- a constant is an operator that stands on nothing
pub gains_constant : (old new : List NetOp) (op : NetOp) (value : BitVector) (id : ℕ) → IsLean old → IsForm old op (Constant value) → IsNet new → Adds old (Const value) id new → Gains old op new id
gains_constant old new op value id lean form is adds =
    gains_added old op (Const value) lean tt (λ some all. some refl) tt (record {
      width = form.equals.width;
      value = form.equals.value;
      reads = λ inputs states r. tt;
    }) new id is adds
