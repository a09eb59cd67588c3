-- What is laid out of a lean circuit by its marks is tidy.
use Rattle.std.proofs.Common.{◌≡◌, ◌≢◌, ℕ, ◌<◌, Bool, true, List, length, map, get_or, sym, ap, subst, ◌∙◌, arith, lit<}
use Rattle.std.specs.Prelude.{slice_get, Some}
use Rattle.std.specs.List.{All, Contains}
use Rattle.std.proofs.lemmas.List.{get_or-map, length-map}
use Rattle.std.proofs.lemmas.List.Elements.{All-contains}
use Rattle.std.proofs.lemmas.Option.{get_or_from_slice_get, same_Some, slice_get-get_or, slice_get_within}
use Rattle.net_graph.specs.declared.node.NetOne.TheVariants.{Not}
use Rattle.net_graph.specs.declared.node.NetTwo.TheVariants.{And, Or}
use Rattle.net_graph.specs.declared.node.NetOp.{NetOp}
use Rattle.net_graph.specs.declared.node.NetOp.TheVariants.{Const, Input, One, Two, Ite}
use Rattle.circuit_eval.specs.Circuits.{IsCircuit}
use Rattle.circuit_eval.specs.Tidy.{IsConstant, IsNeeded, IsOpen, IsTidy, operands, Serves, next, output, operand}
use Rattle.circuit_eval.specs.declared.circuit.OutputWire.{OutputWire}
use Rattle.circuit_eval.specs.declared.circuit.StateWire.{StateWire}
use Rattle.circuit_eval.specs.declared.circuit.Wires.{Wires}
use Rattle.net_simplify.specs.inner.Forms.{IsLean}
use Rattle.net_simplify.specs.inner.Passes.{AreServing, is_marked, LaysOut, moved_output, moved_state, nth, renamed, rewired}
use Rattle.net_simplify.proofs.Forming.{all_at}
use Rattle.net_simplify.proofs.OtherOperands.{operands-renamed, rebuilt, rebuilt-back}
use Rattle.net_simplify.proofs.Reducing.{operands_before}
use Rattle.net_simplify.proofs.SameRuns.{Carries}

contains-map : {X Y : Type 0} (f : X → Y) (xs : List X) (x : X) → Contains xs x → Contains (map f xs) (f x)
contains-map f xs x c = (c.0, omega (arith, c.1, length-map xs f), get_or-map f xs c.0 x (f x) c.1 ∙ ap f c.2)

module _ (c : Wires) (valid : IsCircuit c) (marks : List Bool) (serving : AreServing c marks) (net : List NetOp) (places : List ℕ) (lays : LaysOut c.net marks (length c.net) net places) where
  pub carries : Carries c net places
  carries = record {
    is_net = lays.is_net;
    reads = lays.reads;
    states = λ k d h. lays.each (get_or c.states k d).next (valid.states k d h).next (serving.states k d h);
    outputs = λ k d h. lays.each (get_or c.outputs k d).id (valid.outputs k d h) (serving.outputs k d h);
  }

  -- ---- what serves is marked, and serves at its place

  place : ℕ → ℕ
  place = nth places

  abbrev new : Wires
  new = rewired net places c

  moved : (id : ℕ) → Serves c id → (is_marked marks id ≡ true) × Serves new (nth places id)
  moved id (next wire there) =
      (All-contains (λ (w : StateWire). is_marked marks w.next ≡ true) c.states wire serving.states there, next (moved_state places wire) (contains-map (moved_state places) c.states wire there))
  moved id (output wire there) =
      (All-contains (λ (w : OutputWire). is_marked marks w.id ≡ true) c.outputs wire serving.outputs there, output (moved_output places wire) (contains-map (moved_output places) c.outputs wire there))
  moved id (operand a user op at there serves) =
      let below = moved user serves in (
        All-contains (λ b. is_marked marks b ≡ true) (operands op) id (serving.closed user op at below.0) there,
        operand (nth places id) (nth places user) (renamed (nth places) op) (lays.at user op (slice_get_within c.net user op at) below.0 at)
            (subst (λ ids. Contains ids (nth places id)) (sym (operands-renamed (nth places) op)) (contains-map (nth places) (operands op) id there)) below.1,
      )

  serve : (id : ℕ) → id < length net → Serves new id
  serve id h =
      let f = lays.from id h in
      subst (Serves new) f.3 (moved f.0 (serving.sound f.0 f.2)).1

  -- ---- the operators

  abbrev IsPlaced : ℕ → Type 0
  IsPlaced a = (a < length c.net) × (is_marked marks a ≡ true)

  -- the operator of a place comes from that of the node there
  back : (a : ℕ) (op other : NetOp) → IsPlaced a → slice_get c.net a ≡ Some op → slice_get net (nth places a) ≡ Some other → op ≡ rebuilt other (operands op)
  back a op other placed at there =
      sym (rebuilt-back (nth places) op) ∙ ap (λ (o : NetOp). rebuilt o (operands op)) (same_Some (renamed (nth places) op) other (sym (lays.at a op placed.0 placed.1 at) ∙ there))

  node : (a : ℕ) → IsPlaced a → (op : NetOp) × (slice_get c.net a ≡ Some op)
  node a placed = (get_or c.net a (Input 0 0), slice_get-get_or c.net a (Input 0 0) placed.0)

  constant_back : (a : ℕ) → IsPlaced a → IsConstant net (nth places a) → IsConstant c.net a
  unfolding rebuilt
  constant_back a placed is =
      let n = node a placed in
      (is.0, n.1 ∙ ap Some (back a n.0 (Const is.0) placed n.1 is.1))

  not_back : (a b : ℕ) → IsPlaced a → slice_get net (nth places a) ≡ Some (One Not b) → (d : ℕ) × (slice_get c.net a ≡ Some (One Not d))
  unfolding rebuilt
  not_back a b placed at =
      let n = node a placed in
      (nth (operands n.0) 0, n.1 ∙ ap Some (back a n.0 (One Not b) placed n.1 at))

  open_moved : (op : NetOp) → All IsPlaced (operands op) → IsOpen c.net op → IsOpen net (renamed (nth places) op)
  open_moved op placed is_open some all =
      is_open (λ none. some (operands-renamed (nth places) op ∙ ap (map (nth places)) none)) (λ k d h.
      let a : ℕ = get_or (operands op) k d in
      let mapped : get_or (operands (renamed (nth places) op)) k d ≡ nth places a = ap (λ ids. get_or ids k d) (operands-renamed (nth places) op) ∙ get_or-map (nth places) (operands op) k d d h in
      constant_back a (placed k d h) (subst (IsConstant net) mapped (all k d (omega (arith, h, ap length (operands-renamed (nth places) op), length-map (operands op) (nth places))))))

  apart : (a b : ℕ) → IsPlaced a → IsPlaced b → a ≢ b → nth places a ≢ nth places b
  apart a b p q h e = h (lays.apart a b p.0 q.0 p.1 q.1 e)

  needed_moved : (op : NetOp) → All IsPlaced (operands op) → IsNeeded c.net op → IsNeeded net (renamed (nth places) op)
  needed_moved (Ite condition a b) placed h = apart a b (placed 1 0 (lit< tt)) (placed 2 0 (lit< tt)) h
  needed_moved (Two And a b) placed h = apart a b (placed 0 0 (lit< tt)) (placed 1 0 (lit< tt)) h
  needed_moved (Two Or a b) placed h = apart a b (placed 0 0 (lit< tt)) (placed 1 0 (lit< tt)) h
  needed_moved (One Not a) placed h = λ b at. let n = not_back a b (placed 0 0 (lit< tt)) at in h n.0 n.1
  needed_moved _ placed h = tt

  -- what holds of the moved operators holds of all
  of_all : (P Q : NetOp → Type 0) → ((op : NetOp) → All IsPlaced (operands op) → P op → Q (renamed (nth places) op)) → All P c.net → All Q net
  of_all P Q move all k d h =
      let f = lays.from k h in
      let n = node f.0 (f.1, f.2) in
      let there : slice_get net k ≡ Some (renamed (nth places) n.0) = ap (slice_get net) (sym f.3) ∙ lays.at f.0 n.0 f.1 f.2 n.1 in
      let placed : All IsPlaced (operands n.0) = λ j e within.
      (omega (arith, operands_before c.net valid.net f.0 n.0 n.1 j e within, f.1), serving.closed f.0 n.0 n.1 f.2 j e within) in
      subst Q (sym (get_or_from_slice_get net k (renamed (nth places) n.0) d there)) (move n.0 placed (all_at P c.net f.0 n.0 all n.1))

  pub lean_moved : IsLean c.net → IsLean net
  lean_moved lean = record {
    is_net = lays.is_net;
    are_open = of_all (IsOpen c.net) (IsOpen net) open_moved lean.are_open;
    needed = of_all (IsNeeded c.net) (IsNeeded net) needed_moved lean.needed;
  }

  pub tidied : IsLean c.net → IsTidy new
  tidied lean =
      let now = lean_moved lean in
      record { distinct = lays.is_net.distinct; serve = serve; are_open = now.are_open; needed = now.needed }
