-- How the nodes that serve are laid out, one after another.
use Rattle.std.proofs.Common.{◌≡◌, ℕ, ◌+◌, ◌<◌, ◌≤◌, ◌⊎◌, inl, inr, Bool, true, false, List, [], ◌∷◌, ◌++◌, length, get_or, sym, ap, subst, ◌∙◌, arith}
use Rattle.std.specs.Prelude.{slice_get, Some}
use Rattle.std.specs.List.{All, Contains}
use Rattle.std.proofs.lemmas.Bool.{both_ways, cases_lt}
use Rattle.std.proofs.lemmas.List.{length_push}
use Rattle.std.proofs.lemmas.List.Elements.{All-push}
use Rattle.std.proofs.lemmas.Option.{get_or_from_slice_get, same_Some, slice_get-get_or, slice_get_within}
use Rattle.net_graph.specs.Nets.{Adds, IsNet, Stands, widths_of}
use Rattle.net_graph.specs.Values.{Reads}
use Rattle.net_graph.specs.declared.node.NetOp.{NetOp}
use Rattle.circuit_eval.specs.Tidy.{operands}
use Rattle.net_simplify.specs.inner.Passes.{is_marked, LaysOut, MarksOperands, nth, renamed, StandsFor}
use Rattle.net_simplify.proofs.Forming.{all_at}
use Rattle.net_simplify.proofs.Growing.{before_more, op_value_kept, op_width_kept}
use Rattle.net_simplify.proofs.OtherOperands.{renamed-agree, same_by_renamed}
use Rattle.net_simplify.proofs.Reducing.{carried_stands, carried_value, carried_width, nth_before, nth_last, operands_before, reads_renamed, stands_for_more}
use Rattle.net_simplify.proofs.Standing.{value_node, width_node}

module _ (old : List NetOp) (marks : List Bool) (is : IsNet old) (closed : (id : ℕ) (op : NetOp) → slice_get old id ≡ Some op → is_marked marks id ≡ true → MarksOperands marks op)
    (count : ℕ) (new : List NetOp) (places : List ℕ) (so_far : LaysOut old marks count new places) (op : NetOp) (at : slice_get old count ≡ Some op) where
  abbrev longer : ℕ → List ℕ
  longer place = places ++ place ∷ []

  before : (place id : ℕ) → id < count → nth (longer place) id ≡ nth places id
  before place id h = nth_before places place id (omega (arith, so_far.many))

  last : (place : ℕ) → nth (longer place) count ≡ place
  last place = nth_last places place count so_far.many

  -- a further place changes nothing for the operators so far
  same_renamed : (place id : ℕ) (o : NetOp) → id ≤ count → slice_get old id ≡ Some o → renamed (nth places) o ≡ renamed (nth (longer place)) o
  same_renamed place id o h here =
      renamed-agree (nth places) (nth (longer place)) o (λ k d within. sym (before place (get_or (operands o) k d) (omega (arith, operands_before old is id o here k d within))))

  pub operands_within : All (λ a. a < length places) (operands op)
  operands_within k d h = omega (arith, operands_before old is count op at k d h, so_far.many)

  -- ---- a node that doesn't serve

  module _ (clear : is_marked marks count ≡ false) where
    earlier : (id : ℕ) → id < count + 1 → is_marked marks id ≡ true → id < count
    earlier id h m = by (cases_lt id count)
      where
        by : (id < count) ⊎ (count ≤ id) → id < count
        by (inl l) = l
        by (inr l) = let e : id ≡ count = omega arith in absurd (both_ways (is_marked marks id) (ap (is_marked marks) e ∙ clear) m)

    pub lays-skipped : (place : ℕ) → LaysOut old marks (count + 1) new (longer place)
    lays-skipped place = record {
      many = length_push places place ∙ ap (λ n. n + 1) so_far.many;
      is_net = so_far.is_net;
      reads = so_far.reads;
      each = λ id h m. let l = earlier id h m in subst (StandsFor old id new) (sym (before place id l)) (so_far.each id l m);
      at = λ id o h m here.
          let l = earlier id h m in
          ap (slice_get new) (before place id l) ∙ so_far.at id o l m here ∙ ap Some (same_renamed place id o (omega arith) here);
      from = λ p h. let f = so_far.from p h in (f.0, omega (arith, f.1), f.2, before place f.0 f.1 ∙ f.3);
      apart = λ a b h k m n e.
          let i = earlier a h m in
          let j = earlier b k n in
          so_far.apart a b i j m n (sym (before place a i) ∙ e ∙ before place b j);
    }

  -- ---- a node that serves

  module _ (set : is_marked marks count ≡ true) where
    for : All (λ a. StandsFor old a new (nth places a)) (operands op)
    for k d h = so_far.each (get_or (operands op) k d) (operands_before old is count op at k d h) (closed count op at set k d h)

    abbrev moved : NetOp
    moved = renamed (nth places) op

    pub moved_stands : Stands (widths_of new) moved
    moved_stands = carried_stands old new is count op at (nth places) for

    abbrev IsPlaced : ℕ → Type 0
    IsPlaced a = (a < count) × (is_marked marks a ≡ true)

    placed : (id : ℕ) (o : NetOp) → id ≤ count → slice_get old id ≡ Some o → is_marked marks id ≡ true → All IsPlaced (operands o)
    placed id o h here m k d within = (omega (arith, operands_before old is id o here k d within), closed id o here m k d within)

    -- no node so far is the one that is due, since each is that of an earlier one
    absent : ¬ Contains new moved
    absent there =
        let f = so_far.from there.0 there.1 in
        let here : f.0 < length old = omega (arith, f.1, slice_get_within old count op at) in
        let o : NetOp = get_or old f.0 op in
        let is_o : slice_get old f.0 ≡ Some o = slice_get-get_or old f.0 op here in
        let one : slice_get new there.0 ≡ Some moved = slice_get-get_or new there.0 moved there.1 ∙ ap Some there.2 in
        let other : slice_get new there.0 ≡ Some (renamed (nth places) o) = ap (slice_get new) (sym f.3) ∙ so_far.at f.0 o f.1 f.2 is_o in
        let same : renamed (nth places) o ≡ moved = same_Some (renamed (nth places) o) moved (sym other ∙ one) in
        let equal : o ≡ op = same_by_renamed (nth places) IsPlaced (λ a b p q e. so_far.apart a b p.0 q.0 p.1 q.1 e) o op (placed f.0 o (omega (arith, f.1)) is_o f.2) (placed count op (omega arith) at set) same in
        is.distinct f.0 count op f.1 (slice_get_within old count op at) (equal ∙ sym (get_or_from_slice_get old count op op at))

    grown : IsNet (new ++ moved ∷ []) → slice_get (new ++ moved ∷ []) (length new) ≡ Some moved → LaysOut old marks (count + 1) (new ++ moved ∷ []) (longer (length new))
    grown net here = record {
      many = length_push places (length new) ∙ ap (λ n. n + 1) so_far.many;
      is_net = net;
      reads = λ inputs states h. All-push (Reads inputs states) new moved (so_far.reads inputs states h) (reads_renamed inputs states (nth places) op (all_at (Reads inputs states) old count op h at));
      each = λ id h m. each id (cases_lt id count) h m;
      at = λ id o h m is_o. at_place id o (cases_lt id count) h m is_o;
      from = λ p h. from p (cases_lt p (length new)) h;
      apart = λ a b h k m n e. apart a b (cases_lt a count) (cases_lt b count) h k m n e;
    }
      where
        newer : List NetOp
        newer = new ++ moved ∷ []

        one : StandsFor old count (new ++ moved ∷ []) (length new)
        one = record {
          stands = omega (arith, length_push new moved);
          width = width_node (new ++ moved ∷ []) net (length new) moved here ∙ op_width_kept new (moved ∷ []) moved moved_stands ∙ carried_width old new is count op at (nth places) for;
          value = λ s feeds. value_node (new ++ moved ∷ []) net s (length new) moved here ∙ op_value_kept new (moved ∷ []) s moved moved_stands ∙ carried_value old new is count op at (nth places) for s feeds;
        }

        each : (id : ℕ) → (id < count) ⊎ (count ≤ id) → id < count + 1 → is_marked marks id ≡ true → StandsFor old id (new ++ moved ∷ []) (nth (longer (length new)) id)
        each id (inl l) h m = subst (StandsFor old id (new ++ moved ∷ [])) (sym (before (length new) id l)) (stands_for_more old new (moved ∷ []) id (nth places id) (so_far.each id l m))
        each id (inr l) h m =
            let e : id ≡ count = omega arith in
            subst (λ k. StandsFor old k (new ++ moved ∷ []) (nth (longer (length new)) k)) (sym e) (subst (StandsFor old count (new ++ moved ∷ [])) (sym (last (length new))) one)

        at_place : (id : ℕ) (o : NetOp) → (id < count) ⊎ (count ≤ id) → id < count + 1 → is_marked marks id ≡ true → slice_get old id ≡ Some o → slice_get (new ++ moved ∷ []) (nth (longer (length new)) id) ≡ Some (renamed (nth (longer (length new))) o)
        at_place id o (inl l) h m is_o =
            ap (slice_get (new ++ moved ∷ [])) (before (length new) id l) ∙ before_more new (moved ∷ []) (nth places id) (so_far.each id l m).stands ∙ so_far.at id o l m is_o ∙ ap Some (same_renamed (length new) id o (omega arith) is_o)
        at_place id o (inr l) h m is_o =
            let e : id ≡ count = omega arith in
            let same : op ≡ o = same_Some op o (sym at ∙ ap (slice_get old) (sym e) ∙ is_o) in
            ap (λ k. slice_get (new ++ moved ∷ []) (nth (longer (length new)) k)) e ∙ ap (slice_get (new ++ moved ∷ [])) (last (length new)) ∙ here
            ∙ ap Some (same_renamed (length new) count op (omega arith) at ∙ ap (renamed (nth (longer (length new)))) same)

        from : (p : ℕ) → (p < length new) ⊎ (length new ≤ p) → p < length (new ++ moved ∷ []) → (id : ℕ) × (id < count + 1) × (is_marked marks id ≡ true) × (nth (longer (length new)) id ≡ p)
        from p (inl l) h = let f = so_far.from p l in (f.0, omega (arith, f.1), f.2, before (length new) f.0 f.1 ∙ f.3)
        from p (inr l) h = let e : length new ≡ p = omega (arith, length_push new moved) in (count, omega arith, set, last (length new) ∙ e)

        apart : (a b : ℕ) → (a < count) ⊎ (count ≤ a) → (b < count) ⊎ (count ≤ b) → a < count + 1 → b < count + 1 → is_marked marks a ≡ true → is_marked marks b ≡ true → nth (longer (length new)) a ≡ nth (longer (length new)) b → a ≡ b
        apart a b (inl i) (inl j) h k m n e = so_far.apart a b i j m n (sym (before (length new) a i) ∙ e ∙ before (length new) b j)
        apart a b (inl i) (inr j) h k m n e =
            let is_b : b ≡ count = omega arith in
            let below : nth places a < length new = (so_far.each a i m).stands in
            let equal : nth places a ≡ length new = sym (before (length new) a i) ∙ e ∙ ap (nth (longer (length new))) is_b ∙ last (length new) in
            absurd (omega (arith, below, equal))
        apart a b (inr i) (inl j) h k m n e =
            let is_a : a ≡ count = omega arith in
            let below : nth places b < length new = (so_far.each b j n).stands in
            let equal : nth places b ≡ length new = sym (before (length new) b j) ∙ sym e ∙ ap (nth (longer (length new))) is_a ∙ last (length new) in
            absurd (omega (arith, below, equal))
        apart a b (inr i) (inr j) h k m n e = omega arith

    pub lays-more : (newer : List NetOp) (place : ℕ) → IsNet newer → Adds new moved place newer → LaysOut old marks (count + 1) newer (longer place)
    lays-more newer place net adds =
        let whole : newer ≡ new ++ moved ∷ [] = adds.last absent in
        let here : slice_get (new ++ moved ∷ []) place ≡ Some moved = subst (λ (n : List NetOp). slice_get n place ≡ Some moved) whole adds.at in
        let e : length new ≡ place = at_end place (cases_lt place (length new)) here in
        subst (λ k. LaysOut old marks (count + 1) newer (longer k)) e
        (subst (λ (n : List NetOp). LaysOut old marks (count + 1) n (longer (length new))) (sym whole)
        (grown (subst IsNet whole net) (subst (λ k. slice_get (new ++ moved ∷ []) k ≡ Some moved) (sym e) here)))
      where
        at_end : (place : ℕ) → (place < length new) ⊎ (length new ≤ place) → slice_get (new ++ moved ∷ []) place ≡ Some moved → length new ≡ place
        at_end place (inl l) here =
            let one : slice_get new place ≡ Some moved = sym (before_more new (moved ∷ []) place l) ∙ here in
            absurd (absent (place, l, get_or_from_slice_get new place moved moved one))
        at_end place (inr l) here = omega (arith, length_push new moved, slice_get_within (new ++ moved ∷ []) place moved here)
