-- Operators on the places of their operands.
use Rattle.std.proofs.Common.{◌≡◌, ℕ, ◌+◌, ◌<◌, ◌≤◌, List, [], ◌∷◌, length, map, refl, sym, ap, ap₂, subst, ◌∙◌}
use Rattle.std.specs.List.{All}
use Rattle.std.proofs.lemmas.List.Elements.{All-cons, All-head, All-nil, All-tail}
use Rattle.kw_bits.specs.BitVector.{BitVector}
use Rattle.kw_bits.specs.Operators as op
use Rattle.net_graph.specs.Nets.{op_width, Stands, width_at}
use Rattle.net_graph.specs.Operators.{ite_value, one_value, one_width, sext_value, TakesTwo, two_value, two_width, uext_value}
use Rattle.net_graph.specs.Values.{op_value, Sources, value_at}
use Rattle.net_graph.specs.declared.node.NetOp.{NetOp}
use Rattle.net_graph.specs.declared.node.NetOp.TheVariants.{Const, Input, State, One, Two, Slice, Uext, Sext, Ite}
use Rattle.circuit_eval.specs.Tidy.{operands}
use Rattle.net_simplify.specs.inner.Passes.{nth, renamed}

one : (P : ℕ → Type 0) (a : ℕ) → P a → All P (a ∷ [])
one P a p = All-cons P a [] p (All-nil P)

two : (P : ℕ → Type 0) (a b : ℕ) → P a → P b → All P (a ∷ b ∷ [])
two P a b p q = All-cons P a (b ∷ []) p (one P b q)

-- the first, second and third of what holds of all
pub at_first : (P : ℕ → Type 0) (a : ℕ) (rest : List ℕ) → All P (a ∷ rest) → P a
at_first P a rest h = All-head P a rest h

pub at_second : (P : ℕ → Type 0) (a b : ℕ) (rest : List ℕ) → All P (a ∷ b ∷ rest) → P b
at_second P a b rest h = All-head P b rest (All-tail P a (b ∷ rest) h)

pub at_third : (P : ℕ → Type 0) (a b c : ℕ) (rest : List ℕ) → All P (a ∷ b ∷ c ∷ rest) → P c
at_third P a b c rest h = All-head P c rest (All-tail P b (c ∷ rest) (All-tail P a (b ∷ c ∷ rest) h))

-- the operands of an operator that stands are nodes
pub operands_stand : (ws : List ℕ) (op : NetOp) → Stands ws op → All (λ a. a < length ws) (operands op)
operands_stand ws (Const value) h = All-nil (λ a. a < length ws)
operands_stand ws (Input number width) h = All-nil (λ a. a < length ws)
operands_stand ws (State number width) h = All-nil (λ a. a < length ws)
operands_stand ws (One operator a) h = one (λ a. a < length ws) a h
operands_stand ws (Two operator a b) h = two (λ a. a < length ws) a b h.0 h.1
operands_stand ws (Slice a upper lower) h = one (λ a. a < length ws) a h.0
operands_stand ws (Uext a added) h = one (λ a. a < length ws) a h.0
operands_stand ws (Sext a added) h = one (λ a. a < length ws) a h.0
operands_stand ws (Ite condition a b) h = All-cons (λ a. a < length ws) condition (a ∷ b ∷ []) h.0 (two (λ a. a < length ws) a b h.1 h.2)

-- ---- an operator on places where its operands have the same widths

module _ (ws places_ws : List ℕ) (place : ℕ → ℕ) where
  pub record SameWidth (a : ℕ) : Type 0 where
    pub stands : place a < length places_ws
    pub width : width_at places_ws (place a) ≡ width_at ws a

  pub renamed_stands : (op : NetOp) → All SameWidth (operands op) → Stands ws op → Stands places_ws (renamed place op)
  renamed_stands (Const value) same h = tt
  renamed_stands (Input number width) same h = h
  renamed_stands (State number width) same h = h
  renamed_stands (One operator a) same h = (at_first SameWidth a [] same).stands
  renamed_stands (Two operator a b) same h =
      let x = at_first SameWidth a (b ∷ []) same in
      let y = at_second SameWidth a b [] same in
      (x.stands, y.stands, subst (λ w. TakesTwo operator w (width_at places_ws (place b))) (sym x.width) (subst (λ w. TakesTwo operator (width_at ws a) w) (sym y.width) h.2))
  renamed_stands (Slice a upper lower) same h =
      let x = at_first SameWidth a [] same in (x.stands, h.1, subst (λ w. upper < w) (sym x.width) h.2)
  renamed_stands (Uext a added) same h =
      let x = at_first SameWidth a [] same in (x.stands, subst (λ w. w + added ≤ 128) (sym x.width) h.1)
  renamed_stands (Sext a added) same h =
      let x = at_first SameWidth a [] same in (x.stands, subst (λ w. w + added ≤ 128) (sym x.width) h.1)
  renamed_stands (Ite condition a b) same h =
      let z = at_first SameWidth condition (a ∷ b ∷ []) same in
      let x = at_second SameWidth condition a (b ∷ []) same in
      let y = at_third SameWidth condition a b [] same in
      (z.stands, x.stands, y.stands, z.width ∙ h.3, x.width ∙ h.4 ∙ sym y.width)

  pub renamed_width : (op : NetOp) → All SameWidth (operands op) → op_width places_ws (renamed place op) ≡ op_width ws op
  renamed_width (Const value) same = refl
  renamed_width (Input number width) same = refl
  renamed_width (State number width) same = refl
  renamed_width (One operator a) same = ap (one_width operator) (at_first SameWidth a [] same).width
  renamed_width (Two operator a b) same = ap₂ (two_width operator) (at_first SameWidth a (b ∷ []) same).width (at_second SameWidth a b [] same).width
  renamed_width (Slice a upper lower) same = refl
  renamed_width (Uext a added) same = ap (λ w. w + added) (at_first SameWidth a [] same).width
  renamed_width (Sext a added) same = ap (λ w. w + added) (at_first SameWidth a [] same).width
  renamed_width (Ite condition a b) same = (at_second SameWidth condition a (b ∷ []) same).width

-- and the same values
module _ (s : Sources) (values places_values : List BitVector) (place : ℕ → ℕ) where
  abbrev SameValue : ℕ → Type 0
  SameValue a = value_at places_values (place a) ≡ value_at values a

  pub renamed_value : (op : NetOp) → All SameValue (operands op) → op_value s places_values (renamed place op) ≡ op_value s values op
  renamed_value (Const value) same = refl
  renamed_value (Input number width) same = refl
  renamed_value (State number width) same = refl
  renamed_value (One operator a) same = ap (one_value operator) (at_first SameValue a [] same)
  renamed_value (Two operator a b) same = ap₂ (two_value operator) (at_first SameValue a (b ∷ []) same) (at_second SameValue a b [] same)
  renamed_value (Slice a upper lower) same = ap (λ (v : BitVector). op.slice v upper lower) (at_first SameValue a [] same)
  renamed_value (Uext a added) same = ap (λ (v : BitVector). uext_value v added) (at_first SameValue a [] same)
  renamed_value (Sext a added) same = ap (λ (v : BitVector). sext_value v added) (at_first SameValue a [] same)
  renamed_value (Ite condition a b) same =
      ap (λ (v : BitVector). ite_value v (value_at places_values (place a)) (value_at places_values (place b))) (at_first SameValue condition (a ∷ b ∷ []) same)
      ∙ ap₂ (ite_value (value_at values condition)) (at_second SameValue condition a (b ∷ []) same) (at_third SameValue condition a b [] same)

-- places that agree on the operands
pub renamed-agree : (place other : ℕ → ℕ) (op : NetOp) → All (λ a. place a ≡ other a) (operands op) → renamed place op ≡ renamed other op
renamed-agree place other (Const value) h = refl
renamed-agree place other (Input number width) h = refl
renamed-agree place other (State number width) h = refl
renamed-agree place other (One operator a) h = ap (One operator) (at_first (λ a. place a ≡ other a) a [] h)
renamed-agree place other (Two operator a b) h = ap₂ (Two operator) (at_first (λ a. place a ≡ other a) a (b ∷ []) h) (at_second (λ a. place a ≡ other a) a b [] h)
renamed-agree place other (Slice a upper lower) h = ap (λ (k : ℕ). Slice k upper lower) (at_first (λ a. place a ≡ other a) a [] h)
renamed-agree place other (Uext a added) h = ap (λ (k : ℕ). Uext k added) (at_first (λ a. place a ≡ other a) a [] h)
renamed-agree place other (Sext a added) h = ap (λ (k : ℕ). Sext k added) (at_first (λ a. place a ≡ other a) a [] h)
renamed-agree place other (Ite condition a b) h =
    ap (λ (k : ℕ). Ite k (place a) (place b)) (at_first (λ a. place a ≡ other a) condition (a ∷ b ∷ []) h)
    ∙ ap₂ (Ite (other condition)) (at_second (λ a. place a ≡ other a) condition a (b ∷ []) h) (at_third (λ a. place a ≡ other a) condition a b [] h)

-- ---- an operator by its operands

-- an operator on operands of a list
unfoldable pub rebuilt : NetOp → List ℕ → NetOp
rebuilt (Const value) ids = Const value
rebuilt (Input number width) ids = Input number width
rebuilt (State number width) ids = State number width
rebuilt (One operator a) ids = One operator (nth ids 0)
rebuilt (Two operator a b) ids = Two operator (nth ids 0) (nth ids 1)
rebuilt (Slice a upper lower) ids = Slice (nth ids 0) upper lower
rebuilt (Uext a added) ids = Uext (nth ids 0) added
rebuilt (Sext a added) ids = Sext (nth ids 0) added
rebuilt (Ite condition a b) ids = Ite (nth ids 0) (nth ids 1) (nth ids 2)

rebuilt-own : (op : NetOp) → rebuilt op (operands op) ≡ op
unfolding rebuilt
rebuilt-own (Const value) = refl
rebuilt-own (Input number width) = refl
rebuilt-own (State number width) = refl
rebuilt-own (One operator a) = refl
rebuilt-own (Two operator a b) = refl
rebuilt-own (Slice a upper lower) = refl
rebuilt-own (Uext a added) = refl
rebuilt-own (Sext a added) = refl
rebuilt-own (Ite condition a b) = refl

rebuilt-renamed : (place : ℕ → ℕ) (op : NetOp) (ids : List ℕ) → rebuilt (renamed place op) ids ≡ rebuilt op ids
unfolding rebuilt
rebuilt-renamed place (Const value) ids = refl
rebuilt-renamed place (Input number width) ids = refl
rebuilt-renamed place (State number width) ids = refl
rebuilt-renamed place (One operator a) ids = refl
rebuilt-renamed place (Two operator a b) ids = refl
rebuilt-renamed place (Slice a upper lower) ids = refl
rebuilt-renamed place (Uext a added) ids = refl
rebuilt-renamed place (Sext a added) ids = refl
rebuilt-renamed place (Ite condition a b) ids = refl

-- an operator is the renamed one on its own operands
pub rebuilt-back : (place : ℕ → ℕ) (op : NetOp) → rebuilt (renamed place op) (operands op) ≡ op
rebuilt-back place op = rebuilt-renamed place op (operands op) ∙ rebuilt-own op

pub operands-renamed : (place : ℕ → ℕ) (op : NetOp) → operands (renamed place op) ≡ map place (operands op)
operands-renamed place (Const value) = refl
operands-renamed place (Input number width) = refl
operands-renamed place (State number width) = refl
operands-renamed place (One operator a) = refl
operands-renamed place (Two operator a b) = refl
operands-renamed place (Slice a upper lower) = refl
operands-renamed place (Uext a added) = refl
operands-renamed place (Sext a added) = refl
operands-renamed place (Ite condition a b) = refl

-- lists whose places are the same, where places tell their items apart
same_by_places : (place : ℕ → ℕ) (P : ℕ → Type 0) → ((a b : ℕ) → P a → P b → place a ≡ place b → a ≡ b) → (xs ys : List ℕ) → All P xs → All P ys → map place xs ≡ map place ys → xs ≡ ys
same_by_places place P apart [] [] h k e = refl
same_by_places place P apart [] (y ∷ ys) h k e = absurd cc
same_by_places place P apart (x ∷ xs) [] h k e = absurd cc
same_by_places place P apart (x ∷ xs) (y ∷ ys) h k e =
    let first : place x ≡ place y = cc in
    let rest : map place xs ≡ map place ys = cc in
    ap₂ (λ (z : ℕ) (zs : List ℕ). z ∷ zs) (apart x y (All-head P x xs h) (All-head P y ys k) first) (same_by_places place P apart xs ys (All-tail P x xs h) (All-tail P y ys k) rest)

-- operators that are the same on places, where places tell their operands apart
pub same_by_renamed : (place : ℕ → ℕ) (P : ℕ → Type 0) → ((a b : ℕ) → P a → P b → place a ≡ place b → a ≡ b) → (op other : NetOp) → All P (operands op) → All P (operands other) → renamed place op ≡ renamed place other → op ≡ other
same_by_renamed place P apart op other h k e =
    let same : operands op ≡ operands other =
    same_by_places place P apart (operands op) (operands other) h k (sym (operands-renamed place op) ∙ ap operands e ∙ operands-renamed place other) in
    sym (rebuilt-back place op) ∙ ap (λ (o : NetOp). rebuilt o (operands op)) e ∙ ap (rebuilt (renamed place other)) same ∙ rebuilt-back place other
