-- Marks of nodes, and which of them stay.
use Rattle.std.proofs.Common.{◌≡◌, ◌≢◌, ℕ, zero, suc, ◌+◌, ◌<◌, ◌≤◌, ◌⊎◌, inl, inr, Bool, true, false, List, [], ◌∷◌, ◌++◌, length, map, get_or, take, refl, sym, ap, subst, ◌∙◌, arith}
use Rattle.std.specs.Prelude.{slice_get, slice_set, replicate, Some}
use Rattle.std.specs.List.{All}
use Rattle.std.proofs.Math.ListN.{length-set}
use Rattle.std.proofs.lemmas.Bool.{cases_eq}
use Rattle.std.proofs.lemmas.Bool.{both_ways}
use Rattle.std.proofs.lemmas.List.{get_or-map, length-map, map-append, take_more}
use Rattle.std.proofs.lemmas.List.Elements.{All-head, All-map, All-tail, Contains-get_or}
use Rattle.std.proofs.lemmas.Option.{same_Some}
use Rattle.net_graph.specs.Nets.{IsNet}
use Rattle.net_graph.specs.declared.node.NetOp.{NetOp}
use Rattle.circuit_eval.specs.Circuits.{IsCircuit}
use Rattle.circuit_eval.specs.Tidy.{operands, Serves, next, output, operand}
use Rattle.circuit_eval.specs.declared.circuit.OutputWire.{OutputWire}
use Rattle.circuit_eval.specs.declared.circuit.StateWire.{StateWire}
use Rattle.circuit_eval.specs.declared.circuit.Wires.{Wires}
use Rattle.net_simplify.specs.inner.Passes.{AreServing, Closes, ClosesAt, is_marked, marked}
use Rattle.net_simplify.proofs.Reducing.{operands_before}

pub length-marked : (ids : List ℕ) (marks : List Bool) → length (marked ids marks) ≡ length marks
length-marked [] marks = refl
length-marked (id ∷ ids) marks = length-marked ids (slice_set marks id true) ∙ length-set marks id true

-- one mark more
set_same : (marks : List Bool) (id : ℕ) → id < length marks → is_marked (slice_set marks id true) id ≡ true
set_same [] id h = absurd (omega arith)
set_same (m ∷ marks) zero h = refl
set_same (m ∷ marks) (suc id) h = set_same marks id (omega arith)

set_other : (marks : List Bool) (id x : ℕ) → x ≢ id → is_marked (slice_set marks id true) x ≡ is_marked marks x
set_other [] id x h = refl
set_other (m ∷ marks) zero zero h = absurd (h refl)
set_other (m ∷ marks) zero (suc x) h = refl
set_other (m ∷ marks) (suc id) zero h = refl
set_other (m ∷ marks) (suc id) (suc x) h = set_other marks id x (λ e. h (ap suc e))

set_kept : (marks : List Bool) (id x : ℕ) → id < length marks → is_marked marks x ≡ true → is_marked (slice_set marks id true) x ≡ true
set_kept marks id x within h = by (cases_eq x id)
  where
    by : (x ≡ id) ⊎ (x ≢ id) → is_marked (slice_set marks id true) x ≡ true
    by (inl e) = subst (λ k. is_marked (slice_set marks id true) k ≡ true) (sym e) (set_same marks id within)
    by (inr e) = set_other marks id x e ∙ h

within_more : (ids : List ℕ) (marks : List Bool) (id : ℕ) → All (λ a. a < length marks) ids → All (λ a. a < length (slice_set marks id true)) ids
within_more ids marks id h = subst (λ n. All (λ a. a < n) ids) (sym (length-set marks id true)) h

pub marked-kept : (ids : List ℕ) (marks : List Bool) (x : ℕ) → All (λ a. a < length marks) ids → is_marked marks x ≡ true → is_marked (marked ids marks) x ≡ true
marked-kept [] marks x within h = h
marked-kept (id ∷ ids) marks x within h =
    marked-kept ids (slice_set marks id true) x (within_more ids marks id (All-tail (λ a. a < length marks) id ids within)) (set_kept marks id x (All-head (λ a. a < length marks) id ids within) h)

pub marked-all : (ids : List ℕ) (marks : List Bool) → All (λ a. a < length marks) ids → All (λ a. is_marked (marked ids marks) a ≡ true) ids
marked-all [] marks within k d h = absurd (omega arith)
marked-all (id ∷ ids) marks within zero d h =
    marked-kept ids (slice_set marks id true) id (within_more ids marks id (All-tail (λ a. a < length marks) id ids within)) (set_same marks id (All-head (λ a. a < length marks) id ids within))
marked-all (id ∷ ids) marks within (suc k) d h =
    marked-all ids (slice_set marks id true) (within_more ids marks id (All-tail (λ a. a < length marks) id ids within)) k d (omega arith)

-- what is marked afterwards was marked before or is among them
pub marked-cases : (P : ℕ → Type 0) (ids : List ℕ) (marks : List Bool) → All P ids → ((x : ℕ) → is_marked marks x ≡ true → P x) → (x : ℕ) → is_marked (marked ids marks) x ≡ true → P x
marked-cases P [] marks all before x h = before x h
marked-cases P (id ∷ ids) marks all before x h = marked-cases P ids (slice_set marks id true) (All-tail P id ids all) (λ y k. by y k (cases_eq y id)) x h
  where
    by : (y : ℕ) → is_marked (slice_set marks id true) y ≡ true → (y ≡ id) ⊎ (y ≢ id) → P y
    by y k (inl e) = subst P (sym e) (All-head P id ids all)
    by y k (inr e) = before y (sym (set_other marks id y e) ∙ k)

pub marked-push : (ids : List ℕ) (marks : List Bool) (id : ℕ) → marked (ids ++ id ∷ []) marks ≡ slice_set (marked ids marks) id true
marked-push [] marks id = refl
marked-push (x ∷ ids) marks id = marked-push ids (slice_set marks x true) id

-- the marks so far, and one more
pub marked-more : {X : Type 0} (f : X → ℕ) (xs : List X) (i : ℕ) (x : X) (marks now : List Bool) → i < length xs → x ≡ get_or xs i x → now ≡ marked (map f (take i xs)) marks → slice_set now (f x) true ≡ marked (map f (take (i + 1) xs)) marks
marked-more f xs i x marks now h is e =
    let longer : map f (take (i + 1) xs) ≡ map f (take i xs) ++ f x ∷ [] = ap (map f) (take_more xs i x h) ∙ map-append f (take i xs) (get_or xs i x ∷ []) ∙ ap (λ y. map f (take i xs) ++ f y ∷ []) (sym is) in
    ap (λ s. slice_set s (f x) true) e ∙ sym (marked-push (map f (take i xs)) marks (f x)) ∙ ap (λ ids. marked ids marks) (sym longer)

none_marked : (n x : ℕ) → is_marked (replicate n false) x ≡ false
none_marked zero x = refl
none_marked (suc n) zero = refl
none_marked (suc n) (suc x) = none_marked n x

-- ---- the operands of nodes

module _ (net : List NetOp) (is : IsNet net) (node : ℕ) (op : NetOp) (at : slice_get net node ≡ Some op) (marks : List Bool) (many : length net ≡ length marks) (inside : node < length net) where
  pub within : All (λ a. a < length marks) (operands op)
  within k d h = omega (arith, operands_before net is node op at k d h)

  pub closes-marked : is_marked marks node ≡ true → ClosesAt net node marks (marked (operands op) marks)
  closes-marked set = record {
    count = length-marked (operands op) marks;
    kept = λ id h. marked-kept (operands op) marks id within h;
    here = λ other there h. subst (λ (o : NetOp). All (λ a. is_marked (marked (operands op) marks) a ≡ true) (operands o)) (same_Some op other (sym at ∙ there)) (marked-all (operands op) marks within);
    above = λ id over h. marked-cases (λ x. node ≤ x → is_marked marks x ≡ true) (operands op) marks (λ k d j below. absurd (omega (arith, operands_before net is node op at k d j))) (λ x k below. k) id h over;
    sound = λ c e serves id h.
        marked-cases (Serves c) (operands op) marks
        (λ k d j. operand (get_or (operands op) k d) node op (subst (λ (n : List NetOp). slice_get n node ≡ Some op) (sym e) at) (Contains-get_or (operands op) k d j) (serves node set)) serves id h;
  }

pub closes-clear : (net : List NetOp) (node : ℕ) (marks : List Bool) → is_marked marks node ≡ false → ClosesAt net node marks marks
closes-clear net node marks clear = record {
  count = refl;
  kept = λ id h. h;
  here = λ op at h. absurd (both_ways (is_marked marks node) clear h);
  above = λ id over h. h;
  sound = λ c e serves id h. serves id h;
}

pub closes-none : (net : List NetOp) (from : ℕ) (marks : List Bool) → ((id : ℕ) (op : NetOp) → slice_get net id ≡ Some op → id < from) → Closes net from marks marks
closes-none net from marks past = record {
  count = refl;
  kept = λ id h. h;
  closed = λ id op over at h. absurd (omega (arith, past id op at));
  sound = λ c e serves id h. serves id h;
}

-- one node more
pub closes-more : (net : List NetOp) (node from : ℕ) (before middle after : List Bool) → from ≡ node + 1 → Closes net from before middle → ClosesAt net node middle after → Closes net node before after
closes-more net node from before middle after e so_far more = record {
  count = more.count ∙ so_far.count;
  kept = λ id h. more.kept id (so_far.kept id h);
  closed = λ id op over at h. by id op (cases_eq id node) over at h;
  sound = λ c same serves id h. more.sound c same (λ x k. so_far.sound c same serves x k) id h;
}
  where
    by : (id : ℕ) (op : NetOp) → (id ≡ node) ⊎ (id ≢ node) → node ≤ id → slice_get net id ≡ Some op → is_marked after id ≡ true → All (λ a. is_marked after a ≡ true) (operands op)
    by id op (inl is) over at h = more.here op (ap (slice_get net) (sym is) ∙ at) (ap (is_marked after) (sym is) ∙ h)
    by id op (inr other) over at h = λ k d within. more.kept (get_or (operands op) k d) (so_far.closed id op (omega (arith, other)) at (more.above id over h) k d within)

-- ---- all that serves

module _ (c : Wires) where
  abbrev pub nexts : List ℕ
  nexts = map (λ (wire : StateWire). wire.next) c.states

  abbrev pub ids : List ℕ
  ids = map (λ (wire : OutputWire). wire.id) c.outputs

  abbrev pub none : List Bool
  none = replicate (length c.net) false

  module _ (valid : IsCircuit c) (marks : List Bool) (many : length none ≡ length c.net) where
    pub nexts_within : All (λ a. a < length none) nexts
    nexts_within = All-map (λ a. a < length none) (λ (wire : StateWire). wire.next) c.states (λ k d h. omega (arith, (valid.states k d h).next))

    pub ids_within : All (λ a. a < length (marked nexts none)) ids
    ids_within = All-map (λ a. a < length (marked nexts none)) (λ (wire : OutputWire). wire.id) c.outputs (λ k d h. omega (arith, valid.outputs k d h, length-marked nexts none))

    pub serving_all : Closes c.net 0 (marked ids (marked nexts none)) marks → AreServing c marks
    serving_all closes = record {
      count = closes.count ∙ length-marked ids (marked nexts none) ∙ length-marked nexts none ∙ many;
      states = λ k d h.
          let next : ℕ = (get_or c.states k d).next in
          let first : is_marked (marked nexts none) next ≡ true =
          subst (λ a. is_marked (marked nexts none) a ≡ true) (get_or-map (λ (wire : StateWire). wire.next) c.states k d 0 h) (marked-all nexts none nexts_within k 0 (omega (arith, h, length-map c.states (λ (wire : StateWire). wire.next)))) in
          closes.kept next (marked-kept ids (marked nexts none) next ids_within first);
      outputs = λ k d h.
          let id : ℕ = (get_or c.outputs k d).id in
          closes.kept id (subst (λ a. is_marked (marked ids (marked nexts none)) a ≡ true) (get_or-map (λ (wire : OutputWire). wire.id) c.outputs k d 0 h)
          (marked-all ids (marked nexts none) ids_within k 0 (omega (arith, h, length-map c.outputs (λ (wire : OutputWire). wire.id)))));
      closed = λ id op at h. closes.closed id op (omega arith) at h;
      sound = closes.sound c refl (marked-cases (Serves c) ids (marked nexts none)
          (All-map (Serves c) (λ (wire : OutputWire). wire.id) c.outputs (λ k d h. output (get_or c.outputs k d) (Contains-get_or c.outputs k d h)))
          (marked-cases (Serves c) nexts none
          (All-map (Serves c) (λ (wire : StateWire). wire.next) c.states (λ k d h. next (get_or c.states k d) (Contains-get_or c.states k d h)))
          (λ x h. absurd (both_ways (is_marked none x) (none_marked (length c.net) x) h))));
    }
