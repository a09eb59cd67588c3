-- The wires of a circuit's nodes fit, and the operand of each node has the node's value.
use Rattle.std.proofs.Common.{◌≡◌, ℕ, zero, suc, ◌+◌, ◌<◌, ◌≤◌, Some, List, [], ◌∷◌, ◌++◌, length, map, get_or, take, ⊎_elim, arith, refl, sym, ap, subst, ◌∙◌, append_assoc, append-nil}
use Rattle.std.specs.Prelude.{slice_get}
use Rattle.std.specs.List.{All}
use Rattle.std.proofs.Math.Nat.{eq-or-lt_of_le}
use Rattle.std.proofs.lemmas.List.{get_or-take, get_or_at, length-map, length-take-le, length_push, map-append}
use Rattle.std.proofs.lemmas.Option.{get_or_from_slice_get, slice_get-get_or, slice_get_within}
use Rattle.kw_bits.specs.BitVector.{BitVector, IsBits}
use Rattle.kw_bits.specs.Laws.{HasWidth}
use Rattle.net_graph.specs.Laws.{Feeds}
use Rattle.net_graph.specs.Nets.{HoldsBits, IsNet, Stands, op_width, width_at, widths_of}
use Rattle.net_graph.specs.Values.{Reads, Sources, no_bits, op_value, value_at, values_of, widths}
use Rattle.net_graph.specs.declared.node.NetOp.{NetOp}
use Rattle.net_graph.specs.declared.node.NetOp.TheVariants as nodes
use Rattle.net_graph.proofs.NodeWidths.{widths_of-Wide}
use Rattle.net_graph.proofs.OneByOne.{length-one_by_one, take_more-one_by_one}
use Rattle.net_graph.proofs.OperatorWidths.{width-value_at}
use Rattle.net_graph.proofs.Standing.{stands_at}
use Rattle.net_graph.proofs.Values.{values-by_operators, values-widths}
use Rattle.verilog_text.specs.Modules.{FormFits, HasOperand, IsWidth, Widths, WiresFit, with_wire}
use Rattle.verilog_text.specs.Runs.{Signals, form_value, with_wires}
use Rattle.verilog_text.specs.declared.draft.Draft.{Draft}
use Rattle.verilog_text.specs.declared.module.Operand.{Operand}
use Rattle.verilog_text.specs.declared.module.Operand.TheVariants.{Constant, Input, Register as Held, Wire as Inner}
use Rattle.verilog_text.specs.declared.module.Wire.{Wire}
use Rattle.verilog_text.specs.declared.nodes.Piece.{Piece}
use Rattle.verilog_text.specs.declared.nodes.Piece.TheVariants.{Same, Made}
use Rattle.verilog_text.specs.inner.Making.{blank, draft_of, one_form, operand_at, piece_of, sext_of, slice_of, with_nodes, with_piece}
use Rattle.verilog_text.proofs.Pieces.{Gives, PieceShows, Shows, constant-shows, ite-shows, one-shows, sext-shows, slice-shows, two-shows, uext-shows}

-- ---- lists

-- an item that goes last leaves the others, and is there
get-more : {X : Type 0} (xs : List X) (y : X) (n : ℕ) (x : X) → slice_get xs n ≡ Some x
    → slice_get (xs ++ y ∷ []) n ≡ Some x
get-more [] y n x is = absurd cc
get-more (z ∷ xs) y zero x is = is
get-more (z ∷ xs) y (suc n) x is = get-more xs y n x is

get-at : {X : Type 0} (xs : List X) (y : X) (ys : List X) → slice_get (xs ++ y ∷ ys) (length xs) ≡ Some y
get-at [] y ys = refl
get-at (x ∷ xs) y ys = get-at xs y ys

get_or-more : {X : Type 0} (xs : List X) (y d : X) (n : ℕ) → n < length xs → get_or (xs ++ y ∷ []) n d ≡ get_or xs n d
get_or-more xs y d n within =
    get_or_from_slice_get (xs ++ y ∷ []) n (get_or xs n d) d
    (get-more xs y n (get_or xs n d) (slice_get-get_or xs n d within))

get_or-last : {X : Type 0} (xs : List X) (y d : X) → get_or (xs ++ y ∷ []) (length xs) d ≡ y
get_or-last xs y d = get_or_from_slice_get (xs ++ y ∷ []) (length xs) y d (get-at xs y [])

-- ---- one wire more

HasOperand-more : (ws : Widths) (more : ℕ) (a : Operand) (width : ℕ) → HasOperand ws a width
    → HasOperand (with_wire ws more) a width
HasOperand-more ws more (Constant value) width has = has
HasOperand-more ws more (Input number) width has = has
HasOperand-more ws more (Held number) width has = has
HasOperand-more ws more (Inner number) width has = get-more ws.wires more number width has

abbrev with_value : Signals → BitVector → Signals
with_value s value = record s { wires = s.wires ++ value ∷ [] }

Gives-more : (s : Signals) (more : BitVector) (a : Operand) (value : BitVector) → Gives s a value
    → Gives (with_value s more) a value
Gives-more s more (Constant constant) value gives = gives
Gives-more s more (Input number) value gives = gives
Gives-more s more (Held number) value gives = gives
Gives-more s more (Inner number) value gives = get-more s.wires more number value gives

with_wires-push : (s : Signals) (wires : List Wire) (wire : Wire)
    → with_wires s (wires ++ wire ∷ []) ≡ with_value (with_wires s wires) (form_value (with_wires s wires) wire.form)
with_wires-push s [] wire = refl
with_wires-push s (first ∷ wires) wire = with_wires-push (with_value s (form_value s first.form)) wires wire

length-with_wires : (s : Signals) (wires : List Wire)
    → length (with_wires s wires).wires ≡ length s.wires + length wires
length-with_wires s [] = omega arith
length-with_wires s (wire ∷ wires) =
    omega (
      arith,
      length-with_wires (with_value s (form_value s wire.form)) wires,
      length_push s.wires
          (form_value s wire.form),
    )

abbrev pub wire_width : Wire → ℕ
wire_width wire = wire.width

-- the widths of signals with those of these wires
abbrev pub with_widths : Widths → List Wire → Widths
with_widths ws wires = record ws { wires = ws.wires ++ map wire_width wires }

with_widths-next : (ws : Widths) (wire : Wire) (wires : List Wire)
    → with_widths (with_wire ws wire.width) wires ≡ with_widths ws (wire ∷ wires)
with_widths-next ws wire wires =
    ap (λ (all : List ℕ). record ws { wires = all }) (append_assoc ws.wires (wire.width ∷ []) (map wire_width wires))

with_widths-push : (ws : Widths) (wires : List Wire) (wire : Wire)
    → with_widths ws (wires ++ wire ∷ []) ≡ with_wire (with_widths ws wires) wire.width
with_widths-push ws wires wire =
    ap (λ (all : List ℕ). record ws { wires = all })
    (ap (λ (more : List ℕ). ws.wires ++ more) (map-append wire_width wires (wire ∷ []))
    ∙ sym (append_assoc ws.wires (map wire_width wires) (wire.width ∷ [])))

WiresFit-push : (ws : Widths) (wires : List Wire) (wire : Wire) → WiresFit ws wires → IsWidth wire.width
    → FormFits (with_widths ws wires) wire.width wire.form → WiresFit ws (wires ++ wire ∷ [])
WiresFit-push ws [] wire fit wide form =
    let same : with_widths ws [] ≡ ws = ap (λ (all : List ℕ). record ws { wires = all }) (append-nil ws.wires) in
    (wide, subst (λ (t : Widths). FormFits t wire.width wire.form) same form, tt)
WiresFit-push ws (first ∷ wires) wire fit wide form = (
  fit.0,
  fit.1,
  WiresFit-push (with_wire ws first.width) wires wire fit.2 wide
      (subst (λ (t : Widths). FormFits t wire.width wire.form) (sym (with_widths-next ws first wires)) form),
)

-- ---- nodes

-- a node over nodes that show their values shows its own
node-shows : (ws : Widths) (s : Signals) (sources : Sources) (before : List ℕ) (values : List BitVector)
    (operands : List Operand) (node : NetOp)
    → Stands before node → HoldsBits node → Reads (widths sources.inputs) (widths sources.states) node
    → ((number width : ℕ) → slice_get (widths sources.inputs) number ≡ Some width
    → Shows ws s (Input number) width (value_at sources.inputs number))
    → ((number width : ℕ) → slice_get (widths sources.states) number ≡ Some width
    → Shows ws s (Held number) width (value_at sources.states number))
    → ((j : ℕ) → j < length before → Shows ws s (operand_at operands j) (width_at before j) (value_at values j))
    → PieceShows ws s (piece_of before operands node) (op_width before node) (op_value sources values node)
unfolding piece_of
node-shows ws s sources before values operands (nodes.Const value) stands constant reads inputs states shows =
    constant-shows ws s value value.width (constant, refl)
node-shows ws s sources before values operands (nodes.Input number width) stands constant reads inputs states shows =
    inputs number width reads
node-shows ws s sources before values operands (nodes.State number width) stands constant reads inputs states shows =
    states number width reads
node-shows ws s sources before values operands (nodes.One operator a) stands constant reads inputs states shows =
    one-shows ws s operator (operand_at operands a) (width_at before a) (value_at values a) (shows a stands)
node-shows ws s sources before values operands (nodes.Two operator a b) stands constant reads inputs states shows =
    two-shows ws s operator (operand_at operands a) (operand_at operands b) (width_at before a) (width_at before b)
    (value_at values a) (value_at values b) (shows a stands.0) (shows b stands.1) stands.2
node-shows ws s sources before values operands (nodes.Slice a upper lower) stands constant reads inputs states shows =
    slice-shows ws s (operand_at operands a) (width_at before a) upper lower (value_at values a)
    (shows a stands.0) stands.1 stands.2
node-shows ws s sources before values operands (nodes.Uext a added) stands constant reads inputs states shows =
    uext-shows ws s (operand_at operands a) (width_at before a) added (value_at values a) (shows a stands.0) stands.1
node-shows ws s sources before values operands (nodes.Sext a added) stands constant reads inputs states shows =
    sext-shows ws s (operand_at operands a) (width_at before a) added (value_at values a) (shows a stands.0) stands.1
node-shows ws s sources before values operands (nodes.Ite condition a b) stands constant reads inputs states shows =
    ite-shows ws s (operand_at operands condition) (operand_at operands a) (operand_at operands b) (width_at before a)
    (value_at values condition) (value_at values a) (value_at values b)
    (subst (λ k. Shows ws s (operand_at operands condition) k (value_at values condition)) stands.3
    (shows condition stands.0))
    (shows a stands.1)
    (subst (λ k. Shows ws s (operand_at operands b) k (value_at values b)) (sym stands.4) (shows b stands.2))

-- a node reads the widths of its operands alone
same-piece : (i : ℕ) (all : List ℕ) (operands : List Operand) (node : NetOp) → length (take i all) ≤ i
    → Stands (take i all) node → piece_of all operands node ≡ piece_of (take i all) operands node
unfolding piece_of
same-piece i all operands (nodes.Const value) few stands = refl
same-piece i all operands (nodes.Input number width) few stands = refl
same-piece i all operands (nodes.State number width) few stands = refl
same-piece i all operands (nodes.One operator a) few stands =
    ap (λ w. Made (one_form operator w (operand_at operands a)))
    (sym (get_or-take i all a 0 (omega (arith, few, stands))))
same-piece i all operands (nodes.Two operator a b) few stands = refl
same-piece i all operands (nodes.Slice a upper lower) few stands =
    ap (λ w. slice_of (operand_at operands a) w upper lower)
    (sym (get_or-take i all a 0 (omega (arith, few, stands.0))))
same-piece i all operands (nodes.Uext a added) few stands = refl
same-piece i all operands (nodes.Sext a added) few stands =
    ap (λ w. sext_of (operand_at operands a) w added) (sym (get_or-take i all a 0 (omega (arith, few, stands.0))))
same-piece i all operands (nodes.Ite condition a b) few stands = refl

-- ---- sources

-- equal operands of equal widths show equal values
shown-as : (ws : Widths) (s : Signals) (a b : Operand) (w u : ℕ) (v x : BitVector) → a ≡ b → w ≡ u → v ≡ x
    → Shows ws s a w v → Shows ws s b u x
shown-as ws s a b w u v x same wide equal shows =
    subst (λ (y : BitVector). Shows ws s b u y) equal
    (subst (λ k. Shows ws s b k v) wide (subst (λ (o : Operand). Shows ws s o w v) same shows))

-- wires leave inputs and registers
kept : (s : Signals) (wires : List Wire)
    → ((with_wires s wires).inputs ≡ s.inputs) × ((with_wires s wires).registers ≡ s.registers)
kept s [] = (refl, refl)
kept s (wire ∷ wires) = kept (with_value s (form_value s wire.form)) wires

within-values : (vs : List BitVector) (n w : ℕ) → slice_get (widths vs) n ≡ Some w → n < length vs
within-values vs n w at = omega (arith, slice_get_within (widths vs) n w at, length-map vs (λ (v : BitVector). v.width))

value-there : (vs : List BitVector) (n w : ℕ) → slice_get (widths vs) n ≡ Some w → slice_get vs n ≡ Some (value_at vs n)
value-there vs n w at = slice_get-get_or vs n no_bits (within-values vs n w at)

value-wide : (vs : List BitVector) (n w : ℕ) → All IsBits vs → slice_get (widths vs) n ≡ Some w
    → HasWidth (value_at vs n) w
value-wide vs n w bits at =
    (bits n no_bits (within-values vs n w at), sym (width-value_at vs n) ∙ get_or_from_slice_get (widths vs) n w 0 at)

-- ---- nets

module _ (net : List NetOp) (is : IsNet net) (sources : Sources) (feeds : Feeds sources net) where
  abbrev all_widths : List ℕ
  all_widths = widths_of net

  abbrev all_values : List BitVector
  all_values = values_of sources net

  -- the widths and the values of signals, with those of these wires
  abbrev pub outer : Widths
  outer = record { inputs = widths sources.inputs; registers = widths sources.states; wires = [] }

  abbrev pub start : Signals
  start = record { inputs = sources.inputs; registers = sources.states; wires = [] }

  -- the nodes so far fit and show their values
  pub record AreShown (d : Draft) (count : ℕ) : Type 0 where
    pub number : length d.operands ≡ count
    pub fit : WiresFit outer d.wires
    pub shows : (j : ℕ) → j < count
        → Shows (with_widths outer d.wires) (with_wires start d.wires) (operand_at d.operands j)
        (width_at all_widths j) (value_at all_values j)

  count-widths : length all_widths ≡ length net
  count-widths = omega (arith, length-one_by_one op_width [] net)

  count-values : length all_values ≡ length net
  count-values = omega (arith, length-one_by_one (op_value sources) [] net)

  value-fits : (id : ℕ) → id < length net → HasWidth (value_at all_values id) (width_at all_widths id)
  value-fits id within =
      let all = values-widths sources net is feeds in (
        all.1 id no_bits (omega (arith, within, count-values)),
        sym (width-value_at all_values id)
            ∙ ap (λ (ws : List ℕ). width_at ws id) all.0,
      )

  node-width : (id : ℕ) (node : NetOp) → id < length net → get_or net id node ≡ node
      → width_at all_widths id ≡ op_width (take id all_widths) node
  node-width id node within here =
      let first : List ℕ = take id all_widths in
      sym (get_or-take (id + 1) all_widths id 0 (omega arith))
      ∙ ap (λ (ws : List ℕ). get_or ws id 0) (take_more-one_by_one op_width net id node within)
      ∙ get_or_at first (op_width first (get_or net id node)) [] 0 id
      (length-take-le id all_widths (omega (arith, within, count-widths))) ∙ ap (op_width first) here

  -- a wire more leaves what operands show
  more : (wires : List Wire) (wire : Wire) (a : Operand) (width : ℕ) (value : BitVector)
      → Shows (with_widths outer wires) (with_wires start wires) a width value
      → Shows (with_widths outer (wires ++ wire ∷ [])) (with_wires start (wires ++ wire ∷ [])) a width value
  more wires wire a width value shows = record {
    has = subst (λ (t : Widths). HasOperand t a width) (sym (with_widths-push outer wires wire))
        (HasOperand-more (with_widths outer wires) wire.width a width shows.has);
    gives = subst (λ (t : Signals). Gives t a value) (sym (with_wires-push start wires wire))
        (Gives-more (with_wires start wires) (form_value (with_wires start wires) wire.form) a value shows.gives);
    fits = shows.fits;
  }

  -- the new wire has its value
  last : (wires : List Wire) (wire : Wire) (value : BitVector) → form_value (with_wires start wires) wire.form ≡ value
      → HasWidth value wire.width
      → Shows (with_widths outer (wires ++ wire ∷ [])) (with_wires start (wires ++ wire ∷ []))
      (Inner (length wires)) wire.width value
  last wires wire value same fits = record {
    has = subst (λ n. slice_get (map wire_width (wires ++ wire ∷ [])) n ≡ Some wire.width) (length-map wires wire_width)
        (ap (λ (ws : List ℕ). slice_get ws (length (map wire_width wires))) (map-append wire_width wires (wire ∷ []))
        ∙ get-at (map wire_width wires) wire.width []);
    gives =
        let before : Signals = with_wires start wires in
        let count : length before.wires ≡ length wires = omega (arith, length-with_wires start wires) in
        ap (λ (t : Signals). slice_get t.wires (length wires)) (with_wires-push start wires wire)
        ∙ ap (λ n. slice_get (before.wires ++ form_value before wire.form ∷ []) n) (sym count)
        ∙ get-at before.wires (form_value before wire.form) [] ∙ ap Some same;
    fits = fits;
  }

  -- one node more
  grown : (d : Draft) (count width : ℕ) (value : BitVector) (piece : Piece) → AreShown d count → IsWidth width
      → HasWidth value width
      → PieceShows (with_widths outer d.wires) (with_wires start d.wires) piece width value
      → width ≡ width_at all_widths count → value ≡ value_at all_values count
      → AreShown (with_piece d width piece) (suc count)
  grown d count width value (Same a) before wide fits shows is-width is-value = record {
    number = length_push d.operands a ∙ omega (arith, before.number);
    fit = before.fit;
    shows = λ j within.
        ⊎_elim (λ (e : j ≡ count).
        let here : a ≡ operand_at (d.operands ++ a ∷ []) j = sym (get_or-last d.operands a (Inner 0))
        ∙ ap (λ n. get_or (d.operands ++ a ∷ []) n (Inner 0)) (before.number ∙ sym e) in
        let at : width ≡ width_at all_widths j = is-width ∙ ap (λ n. width_at all_widths n) (sym e) in
        let valued : value ≡ value_at all_values j = is-value ∙ ap (λ n. value_at all_values n) (sym e) in
        shown-as (with_widths outer d.wires) (with_wires start d.wires) a (operand_at (d.operands ++ a ∷ []) j) width
        (width_at all_widths j) value (value_at all_values j) here at valued shows)
        (λ (l : j < count).
        let same : operand_at d.operands j ≡ operand_at (d.operands ++ a ∷ []) j =
        sym (get_or-more d.operands a (Inner 0) j (omega (arith, l, before.number))) in
        subst (λ (o : Operand). Shows (with_widths outer d.wires) (with_wires start d.wires) o (width_at all_widths j)
        (value_at all_values j)) same (before.shows j l))
        (eq-or-lt_of_le (omega (arith, within)));
  }
  grown d count width value (Made form) before wide fits shows is-width is-value =
      let wire : Wire = record { width = width; form = form } in
      let a : Operand = Inner (length d.wires) in
      let wires : List Wire = d.wires ++ wire ∷ [] in
      record {
        number = length_push d.operands a ∙ omega (arith, before.number);
        fit = WiresFit-push outer d.wires wire before.fit wide shows.0;
        shows = λ j within.
            ⊎_elim (λ (e : j ≡ count).
            let here : a ≡ operand_at (d.operands ++ a ∷ []) j = sym (get_or-last d.operands a (Inner 0))
            ∙ ap (λ n. get_or (d.operands ++ a ∷ []) n (Inner 0)) (before.number ∙ sym e) in
            let at : width ≡ width_at all_widths j = is-width ∙ ap (λ n. width_at all_widths n) (sym e) in
            let valued : value ≡ value_at all_values j = is-value ∙ ap (λ n. value_at all_values n) (sym e) in
            shown-as (with_widths outer wires) (with_wires start wires) a (operand_at (d.operands ++ a ∷ []) j) width
            (width_at all_widths j) value (value_at all_values j) here at valued
            (last d.wires wire value shows.1 fits))
            (λ (l : j < count).
            let same : operand_at d.operands j ≡ operand_at (d.operands ++ a ∷ []) j =
            sym (get_or-more d.operands a (Inner 0) j (omega (arith, l, before.number))) in
            subst (λ (o : Operand). Shows (with_widths outer wires) (with_wires start wires) o (width_at all_widths j)
            (value_at all_values j)) same
            (more d.wires wire (operand_at d.operands j) (width_at all_widths j) (value_at all_values j)
            (before.shows j l)))
            (eq-or-lt_of_le (omega (arith, within)));
      }

  -- what is read from outside
  source-shows : (wires : List Wire)
      → ((number width : ℕ) → slice_get (widths sources.inputs) number ≡ Some width
      → Shows (with_widths outer wires) (with_wires start wires) (Input number) width (value_at sources.inputs number))
      × ((number width : ℕ) → slice_get (widths sources.states) number ≡ Some width
      → Shows (with_widths outer wires) (with_wires start wires) (Held number) width
      (value_at sources.states number))
  source-shows wires = (
    (λ number width at. record {
      has = at;
      gives = ap (λ (vs : List BitVector). slice_get vs number) (kept start wires).0
          ∙ value-there sources.inputs number width at;
      fits = value-wide sources.inputs number width feeds.inputs at;
    }),
    (λ number width at. record {
      has = at;
      gives = ap (λ (vs : List BitVector). slice_get vs number) (kept start wires).1
          ∙ value-there sources.states number width at;
      fits = value-wide sources.states number width feeds.states at;
    }),
  )

  -- a node that comes next fits and shows its value
  node-fits : (d : Draft) (count : ℕ) (node : NetOp) → AreShown d count → slice_get net count ≡ Some node
      → PieceShows (with_widths outer d.wires) (with_wires start d.wires) (piece_of all_widths d.operands node)
      (op_width (take count all_widths) node) (op_value sources all_values node)
  node-fits d count node shown at =
      let within : count < length net = slice_get_within net count node at in
      let here : get_or net count node ≡ node = get_or_from_slice_get net count node node at in
      let before : List ℕ = take count all_widths in
      let stands : Stands before node = subst (Stands before) here (stands_at net count node within is.stand) in
      let exact : length before ≡ count = length-take-le count all_widths (omega (arith, within, count-widths)) in
      let few : length before ≤ count = omega (arith, exact) in
      let constant : HoldsBits node = subst HoldsBits here (is.constants count node within) in
      let reads : Reads (widths sources.inputs) (widths sources.states) node =
      subst (Reads (widths sources.inputs) (widths sources.states)) here (feeds.reads count node within) in
      let outside = source-shows d.wires in
      let shows : (j : ℕ) → j < length before
      → Shows (with_widths outer d.wires) (with_wires start d.wires) (operand_at d.operands j) (width_at before j)
      (value_at all_values j) =
      λ j inside.
      let less : j < count = omega (arith, inside, exact) in
      subst (λ k. Shows (with_widths outer d.wires) (with_wires start d.wires) (operand_at d.operands j) k
      (value_at all_values j)) (sym (get_or-take count all_widths j 0 less)) (shown.shows j less) in
      subst (λ (p : Piece). PieceShows (with_widths outer d.wires) (with_wires start d.wires) p (op_width before node)
      (op_value sources all_values node))
      (sym (same-piece count all_widths d.operands node few stands))
      (node-shows (with_widths outer d.wires)
      (with_wires start d.wires) sources before all_values d.operands node stands constant reads outside.0
      outside.1 shows)

  -- all nodes
  go : (done rest : List NetOp) (d : Draft) → done ++ rest ≡ net → AreShown d (length done)
      → AreShown (with_nodes all_widths d rest) (length net)
  go done [] d whole shown = subst (AreShown d) (ap length (sym (append-nil done) ∙ whole)) shown
  go done (node ∷ rest) d whole shown =
      let count : ℕ = length done in
      let at : slice_get net count ≡ Some node = ap (λ (ops : List NetOp). slice_get ops count) (sym whole)
      ∙ get-at done node rest in
      let within : count < length net = slice_get_within net count node at in
      let here : get_or net count node ≡ node = get_or_from_slice_get net count node node at in
      let width : ℕ = width_at all_widths (length d.operands) in
      let placed : width ≡ width_at all_widths count = ap (λ n. width_at all_widths n) shown.number in
      let piece : Piece = piece_of all_widths d.operands node in
      let value : BitVector = value_at all_values count in
      let is-width : op_width (take count all_widths) node ≡ width = sym (node-width count node within here)
      ∙ sym placed in
      let is-value : op_value sources all_values node ≡ value =
      sym (values-by_operators sources net count node is at) in
      let fits = node-fits d count node shown at in
      let shows : PieceShows (with_widths outer d.wires) (with_wires start d.wires) piece width value =
      subst (λ (v : BitVector). PieceShows (with_widths outer d.wires) (with_wires start d.wires) piece width v)
      is-value
      (subst (λ k. PieceShows (with_widths outer d.wires) (with_wires start d.wires) piece k
      (op_value sources all_values node)) is-width fits) in
      let valued : HasWidth value width = subst (HasWidth value) (sym placed) (value-fits count within) in
      let wide : IsWidth width =
      widths_of-Wide net is (length d.operands) 0 (omega (arith, within, count-widths, shown.number)) in
      let next : Draft = with_piece d width piece in
      let counted : suc count ≡ length (done ++ node ∷ []) = sym (length_push done node ∙ omega arith) in
      go (done ++ node ∷ []) rest next (append_assoc done (node ∷ []) rest ∙ whole)
      (subst (AreShown next) counted (grown d count width value piece shown wide valued shows placed refl))

  -- the wires of all nodes fit, and each node's operand shows its value
  pub drafted : AreShown (draft_of net) (length net)
  unfolding draft_of
  drafted =
      go [] net blank refl (record { number = refl; fit = tt; shows = λ j within. absurd (omega (arith, within)) })
