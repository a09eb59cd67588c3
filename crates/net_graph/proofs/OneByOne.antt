-- Lists that grow one by one, each item by those before it.
use Rattle.std.proofs.Common.{◌≡◌, ℕ, ◌+◌, ◌<◌, ◌≤◌, List, [], ◌∷◌, ◌++◌, length, get_or, take, drop, refl, sym, ap, ◌∙◌, arith}
use Rattle.std.proofs.lemmas.List.{length_push, take-take, take-append-drop, take_all, take_at, take_more, length-take-le, get_or-take}
use Rattle.net_graph.specs.Nets.{one_by_one}
use Rattle.net_graph.specs.declared.node.NetOp.{NetOp}

module _ {A : Type 0} (item : List A → NetOp → A) where
  -- what grows over two lists grows over the first and then over the second
  pub one_by_one-append : (before : List A) (xs ys : List NetOp) → one_by_one item before (xs ++ ys) ≡ one_by_one item (one_by_one item before xs) ys
  one_by_one-append before [] ys = refl
  one_by_one-append before (x ∷ xs) ys = one_by_one-append (before ++ item before x ∷ []) xs ys

  pub length-one_by_one : (before : List A) (ops : List NetOp) → length (one_by_one item before ops) ≡ length before + length ops
  length-one_by_one before [] = omega arith
  length-one_by_one before (op ∷ ops) =
      omega (arith, length-one_by_one (before ++ item before op ∷ []) ops, length_push before (item before op))

  -- the items before stay
  pub take-one_by_one : (before : List A) (ops : List NetOp) → take (length before) (one_by_one item before ops) ≡ before
  take-one_by_one before [] = take_all (length before) before (omega arith)
  take-one_by_one before (op ∷ ops) =
      let more : List A = before ++ item before op ∷ [] in
      let shorter : length before ≤ length more = omega (arith, length_push before (item before op)) in
      sym (take-take (length before) (length more) (one_by_one item more ops) shorter) ∙ ap (take (length before)) (take-one_by_one more ops) ∙ take_at before (item before op ∷ []) (length before) refl

  -- the items of the first operators are the first items
  pub one_by_one-take : (ops : List NetOp) (i : ℕ) → i ≤ length ops → one_by_one item [] (take i ops) ≡ take i (one_by_one item [] ops)
  one_by_one-take ops i within =
      let first : List A = one_by_one item [] (take i ops) in
      let count : length first ≡ i = omega (arith, length-one_by_one [] (take i ops), length-take-le i ops within) in
      let whole : one_by_one item first (drop i ops) ≡ one_by_one item [] ops = sym (one_by_one-append [] (take i ops) (drop i ops)) ∙ ap (one_by_one item []) (take-append-drop i ops) in
      sym (take-one_by_one first (drop i ops)) ∙ ap (λ n. take n (one_by_one item first (drop i ops))) count ∙ ap (take i) whole

  -- the next item comes from the items before it
  pub take_more-one_by_one : (ops : List NetOp) (i : ℕ) (d : NetOp) → i < length ops
      → take (i + 1) (one_by_one item [] ops) ≡ take i (one_by_one item [] ops) ++ item (take i (one_by_one item [] ops)) (get_or ops i d) ∷ []
  take_more-one_by_one ops i d within =
      let first = one_by_one-take ops i (omega arith) in
      sym (one_by_one-take ops (i + 1) (omega arith)) ∙ ap (one_by_one item []) (take_more ops i d within) ∙ one_by_one-append [] (take i ops) (get_or ops i d ∷ [])
      ∙ ap (λ (xs : List A). xs ++ item xs (get_or ops i d) ∷ []) first

  -- operators that are added leave the items before them
  pub get_or-one_by_one-append : (old more : List NetOp) (i : ℕ) (d : A) → i < length old → get_or (one_by_one item [] (old ++ more)) i d ≡ get_or (one_by_one item [] old) i d
  get_or-one_by_one-append old more i d within =
      let first : List A = one_by_one item [] old in
      let count : length first ≡ length old = omega (arith, length-one_by_one [] old) in
      sym (get_or-take (length first) (one_by_one item [] (old ++ more)) i d (omega arith)) ∙ ap (λ xs. get_or (take (length first) xs) i d) (one_by_one-append [] old more) ∙ ap (λ xs. get_or xs i d) (take-one_by_one first more)
