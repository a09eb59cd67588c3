-- The constants among the operands of a net's nodes have the widths of the nodes.
use Rattle.std.proofs.Common.{◌≡◌, ℕ, zero, suc, ◌+◌, ◌-◌, ◌<◌, ◌≤◌, Bool, true, false, cond, eqb, List, [], ◌∷◌, ◌++◌, length, get_or, take, ⊎_elim, arith, refl, sym, ap, ap₂, subst, ◌∙◌}
use Rattle.std.proofs.Math.Nat.{eq-or-lt_of_le}
use Rattle.std.proofs.lemmas.Bool.{cases_lt, eqb-true, ne_eqb}
use Rattle.std.proofs.lemmas.List.{get_or-take, get_or_at, length-take-le, length_push}
use Rattle.kw_bits.specs.BitVector.{zero_at}
use Rattle.kw_bits.specs.Operators as op
use Rattle.net_graph.specs.Nets.{IsNet, Stands, op_width, width_at, widths_of}
use Rattle.net_graph.specs.Operators.{one_width, two_width}
use Rattle.net_graph.specs.declared.node.NetOp.{NetOp}
use Rattle.net_graph.specs.declared.node.NetOp.TheVariants as nodes
use Rattle.net_graph.proofs.OneByOne.{length-one_by_one, take_more-one_by_one}
use Rattle.net_graph.proofs.Standing.{stands_at}
use Rattle.verilog_text.specs.declared.draft.Draft.{Draft}
use Rattle.verilog_text.specs.declared.module.Form.TheVariants.{Two}
use Rattle.verilog_text.specs.declared.module.Infix.TheVariants as twos
use Rattle.verilog_text.specs.declared.module.Operand.{Operand}
use Rattle.verilog_text.specs.declared.module.Operand.TheVariants.{Constant, Input, Register as Held, Wire as Inner}
use Rattle.verilog_text.specs.declared.nodes.Piece.{Piece}
use Rattle.verilog_text.specs.declared.nodes.Piece.TheVariants.{Same, Made}
use Rattle.verilog_text.specs.inner.Making.{ConstantsFit, FitsConstant, operand_at, piece_of, sext_of, sext_piece, slice_of, slice_piece, with_piece, zext_of}

-- ---- widths

-- an operator over the first nodes stands over all of them, and has its width by them
pub stands-wider : (i : ℕ) (all : List ℕ) (node : NetOp) → length (take i all) ≤ i → length (take i all) ≤ length all
    → Stands (take i all) node → Stands all node
stands-wider i all (nodes.Const value) few some stands = tt
stands-wider i all (nodes.Input number width) few some stands = stands
stands-wider i all (nodes.State number width) few some stands = stands
stands-wider i all (nodes.One operator a) few some stands = omega (arith, some, stands)
stands-wider i all (nodes.Two operator a b) few some stands =
    let left = get_or-take i all a 0 (omega (arith, few, stands.0)) in
    let right = get_or-take i all b 0 (omega (arith, few, stands.1)) in
    (omega (arith, some, stands.0), omega (arith, some, stands.1), rw right at (rw left at stands.2))
stands-wider i all (nodes.Slice a upper lower) few some stands = (
  omega (arith, some, stands.0),
  stands.1,
  subst (λ w. upper < w)
      (get_or-take i all a 0 (omega (arith, few, stands.0))) stands.2,
)
stands-wider i all (nodes.Uext a added) few some stands = (
  omega (arith, some, stands.0),
  subst (λ w. w + added ≤ 128)
      (get_or-take i all a 0 (omega (arith, few, stands.0))) stands.1,
)
stands-wider i all (nodes.Sext a added) few some stands = (
  omega (arith, some, stands.0),
  subst (λ w. w + added ≤ 128)
      (get_or-take i all a 0 (omega (arith, few, stands.0))) stands.1,
)
stands-wider i all (nodes.Ite condition a b) few some stands =
    let first = get_or-take i all condition 0 (omega (arith, few, stands.0)) in
    let left = get_or-take i all a 0 (omega (arith, few, stands.1)) in
    let right = get_or-take i all b 0 (omega (arith, few, stands.2)) in (
      omega (arith, some, stands.0),
      omega (arith, some, stands.1),
      omega (arith, some, stands.2),
      sym first
          ∙ stands.3,
      sym left ∙ stands.4 ∙ right,
    )

width-wider : (i : ℕ) (all : List ℕ) (node : NetOp) → length (take i all) ≤ i → Stands (take i all) node
    → op_width (take i all) node ≡ op_width all node
width-wider i all (nodes.Const value) few stands = refl
width-wider i all (nodes.Input number width) few stands = refl
width-wider i all (nodes.State number width) few stands = refl
width-wider i all (nodes.One operator a) few stands =
    ap (one_width operator) (get_or-take i all a 0 (omega (arith, few, stands)))
width-wider i all (nodes.Two operator a b) few stands =
    ap₂ (two_width operator) (get_or-take i all a 0 (omega (arith, few, stands.0)))
    (get_or-take i all b 0 (omega (arith, few, stands.1)))
width-wider i all (nodes.Slice a upper lower) few stands = refl
width-wider i all (nodes.Uext a added) few stands =
    ap (λ w. w + added) (get_or-take i all a 0 (omega (arith, few, stands.0)))
width-wider i all (nodes.Sext a added) few stands =
    ap (λ w. w + added) (get_or-take i all a 0 (omega (arith, few, stands.0)))
width-wider i all (nodes.Ite condition a b) few stands = get_or-take i all a 0 (omega (arith, few, stands.1))

module _ (net : List NetOp) (is : IsNet net) (id : ℕ) (d : NetOp) (within : id < length net) where
  count-widths : length (widths_of net) ≡ length net
  count-widths = omega (arith, length-one_by_one op_width [] net)

  exact : length (take id (widths_of net)) ≡ id
  exact = length-take-le id (widths_of net) (omega (arith, within, count-widths))

  -- a node of a net stands over all nodes, and its width is its operator's
  pub node-stands : Stands (widths_of net) (get_or net id d)
  node-stands =
      stands-wider id (widths_of net) (get_or net id d) (omega (arith, exact))
      (omega (arith, exact, within, count-widths)) (stands_at net id d within is.stand)

  pub node-width : width_at (widths_of net) id ≡ op_width (widths_of net) (get_or net id d)
  node-width =
      let first : List ℕ = take id (widths_of net) in
      sym (get_or-take (id + 1) (widths_of net) id 0 (omega arith))
      ∙ ap (λ (ws : List ℕ). get_or ws id 0) (take_more-one_by_one op_width net id d within)
      ∙ get_or_at first (op_width first (get_or net id d)) [] 0 id exact
      ∙ width-wider id (widths_of net) (get_or net id d) (omega (arith, exact)) (stands_at net id d within is.stand)

-- ---- pieces

-- a piece that is a constant has this width
PieceFits : Piece → ℕ → Type 0
PieceFits (Same a) width = FitsConstant a width
PieceFits (Made form) width = Unit {0}

fits-as : (a : Operand) (w u : ℕ) → FitsConstant a w → w ≡ u → FitsConstant a u
fits-as a w u fits same = subst (FitsConstant a) same fits

slice-fits : (a : Operand) (w upper lower : ℕ) → FitsConstant a w
    → PieceFits (slice_of a w upper lower) (upper - lower + 1)
unfolding PieceFits op.slice
slice-fits a w upper lower fits = by (eqb (upper - lower + 1) w) refl
  where
    rest : (a : Operand) → PieceFits (slice_piece a upper lower) (upper - lower + 1)
    rest (Constant value) = refl
    rest (Input number) = tt
    rest (Held number) = tt
    rest (Inner number) = tt

    by : (all : Bool) → eqb (upper - lower + 1) w ≡ all
        → PieceFits (cond all (Same a) (slice_piece a upper lower)) (upper - lower + 1)
    by true is = fits-as a w (upper - lower + 1) fits (sym (eqb-true (upper - lower + 1) w is))
    by false is = rest a

pub not-none : (more : ℕ) → eqb (suc more) 0 ≡ false
not-none more = ne_eqb (suc more) 0 (λ e. omega (arith, e))

-- a choice by a test that fails
pub from-false : (P : Piece → Type 0) (b : Bool) (x y : Piece) → b ≡ false → P y → P (cond b x y)
from-false P true x y is here = absurd cc
from-false P false x y is here = here

zext-fits : (a : Operand) (w added : ℕ) → FitsConstant a w → PieceFits (zext_of a added) (w + added)
unfolding PieceFits
zext-fits a w zero fits = fits-as a w (w + 0) fits (omega arith)
zext-fits a w (suc more) fits =
    from-false (λ p. PieceFits p (w + suc more)) (eqb (suc more) 0) (Same a)
    (Made (Two twos.Join (Constant (zero_at (suc more))) a)) (not-none more) tt

sext-piece : (a : Operand) (w added : ℕ) → PieceFits (sext_piece a w added) (w + added)
unfolding PieceFits op.sext
sext-piece (Constant value) w added = refl
sext-piece (Input number) w added = tt
sext-piece (Held number) w added = tt
sext-piece (Inner number) w added = tt

sext-fits : (a : Operand) (w added : ℕ) → FitsConstant a w → PieceFits (sext_of a w added) (w + added)
unfolding PieceFits
sext-fits a w zero fits = fits-as a w (w + 0) fits (omega arith)
sext-fits a w (suc more) fits =
    from-false (λ p. PieceFits p (w + suc more)) (eqb (suc more) 0) (Same a) (sext_piece a w (suc more))
    (not-none more) (sext-piece a w (suc more))

piece-fits : (widths : List ℕ) (operands : List Operand) (node : NetOp) → ConstantsFit widths operands
    → PieceFits (piece_of widths operands node) (op_width widths node)
unfolding PieceFits piece_of
piece-fits widths operands (nodes.Const value) fit = refl
piece-fits widths operands (nodes.Input number width) fit = tt
piece-fits widths operands (nodes.State number width) fit = tt
piece-fits widths operands (nodes.One operator a) fit = tt
piece-fits widths operands (nodes.Two operator a b) fit = tt
piece-fits widths operands (nodes.Slice a upper lower) fit =
    slice-fits (operand_at operands a) (width_at widths a) upper lower (fit a)
piece-fits widths operands (nodes.Uext a added) fit =
    zext-fits (operand_at operands a) (width_at widths a) added (fit a)
piece-fits widths operands (nodes.Sext a added) fit =
    sext-fits (operand_at operands a) (width_at widths a) added (fit a)
piece-fits widths operands (nodes.Ite condition a b) fit = tt

-- ---- one node more

past : (xs : List Operand) (d : Operand) (n : ℕ) → length xs ≤ n → get_or xs n d ≡ d
past [] d n over = refl
past (x ∷ xs) d zero over = absurd (omega (arith, over))
past (x ∷ xs) d (suc n) over = past xs d n (omega (arith, over))

kept : (xs : List Operand) (y d : Operand) (n : ℕ) → n < length xs → get_or (xs ++ y ∷ []) n d ≡ get_or xs n d
kept [] y d n within = absurd (omega (arith, within))
kept (x ∷ xs) y d zero within = refl
kept (x ∷ xs) y d (suc n) within = kept xs y d n (omega (arith, within))

last : (xs : List Operand) (y d : Operand) → get_or (xs ++ y ∷ []) (length xs) d ≡ y
last [] y d = refl
last (x ∷ xs) y d = last xs y d

beyond : (xs : List Operand) (y d : Operand) (n : ℕ) → length xs < n → get_or (xs ++ y ∷ []) n d ≡ d
beyond [] y d zero over = absurd (omega (arith, over))
beyond [] y d (suc n) over = refl
beyond (x ∷ xs) y d zero over = absurd (omega (arith, over))
beyond (x ∷ xs) y d (suc n) over = beyond xs y d n (omega (arith, over))

pushed : (widths : List ℕ) (operands : List Operand) (a : Operand) → ConstantsFit widths operands
    → FitsConstant a (width_at widths (length operands)) → ConstantsFit widths (operands ++ a ∷ [])
pushed widths operands a fit own id =
    ⊎_elim (λ (less : id < length operands). subst (λ (o : Operand). FitsConstant o (width_at widths id))
    (sym (kept operands a (Inner 0) id less)) (fit id))
    (λ (more : length operands ≤ id).
    ⊎_elim (λ (e : length operands ≡ id).
    subst (λ n. FitsConstant (operand_at (operands ++ a ∷ []) n) (width_at widths n)) e
    (subst (λ (o : Operand). FitsConstant o (width_at widths (length operands))) (sym (last operands a (Inner 0))) own))
    (λ (over : length operands < id). subst (λ (o : Operand). FitsConstant o (width_at widths id))
    (sym (beyond operands a (Inner 0) id over)) tt)
    (eq-or-lt_of_le more))
    (cases_lt id (length operands))

with-piece : (widths : List ℕ) (draft : Draft) (width : ℕ) (piece : Piece) → ConstantsFit widths draft.operands
    → PieceFits piece (width_at widths (length draft.operands))
    → ConstantsFit widths (with_piece draft width piece).operands
unfolding PieceFits
with-piece widths draft width (Same a) fit own = pushed widths draft.operands a fit own
with-piece widths draft width (Made form) fit own = pushed widths draft.operands (Inner (length draft.wires)) fit tt

-- constants fit with one node more
pub next-fits : (net : List NetOp) (is : IsNet net) (id : ℕ) (d : NetOp) → id < length net
    → (draft : Draft) (width : ℕ) → length draft.operands ≡ id → ConstantsFit (widths_of net) draft.operands
    → ConstantsFit (widths_of net)
    (with_piece draft width (piece_of (widths_of net) draft.operands (get_or net id d))).operands
next-fits net is id d within draft width count fit =
    let node : NetOp = get_or net id d in
    let own : op_width (widths_of net) node ≡ width_at (widths_of net) (length draft.operands) =
    sym (node-width net is id d within) ∙ ap (λ n. width_at (widths_of net) n) (sym count) in
    with-piece (widths_of net) draft width (piece_of (widths_of net) draft.operands node) fit
    (subst (PieceFits (piece_of (widths_of net) draft.operands node)) own
    (piece-fits (widths_of net) draft.operands node fit))

-- no operand is a constant before the first node
pub none-fit : (widths : List ℕ) → ConstantsFit widths []
none-fit widths id = tt

-- there is one operand more
pub length-with_piece : (draft : Draft) (width : ℕ) (piece : Piece)
    → length (with_piece draft width piece).operands ≡ length draft.operands + 1
length-with_piece draft width (Same a) = length_push draft.operands a
length-with_piece draft width (Made form) = length_push draft.operands (Inner (length draft.wires))
