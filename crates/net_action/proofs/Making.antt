-- The wires of each form of action, by those of its parts.
use Rattle.std.proofs.Common.{◌≡◌, ℕ, zero, suc, ◌≤◌, ◌<◌, false, List, [], ◌∷◌, length, refl, sym, subst, arith, Option, Some, None}
use Rattle.std.specs.Prelude.{◌&&◌, ◌||◌, not, slice_get, slice_index_or, if◌then◌else◌}
use Rattle.std.proofs.lemmas.Option.{slice_get_within}
use Rattle.kw_bits.specs.BitVector.{BitVector}
use Rattle.net_graph.specs.Values.{Sources, value_at}
use Rattle.net_graph.specs.declared.node.NetOp.{NetOp}
use Rattle.typed_core.specs.Evaluation.{apply_two, choose, comes_to, evaluate, unit, ◌>>=◌}
use Rattle.typed_core.specs.Valid.{ActionHasWidth, Declarations, TwoHasWidth, IsPort}
use Rattle.typed_core.specs.declared.access.Event.{Event}
use Rattle.typed_core.specs.declared.action.Action.{Action}
use Rattle.typed_core.specs.declared.action.Action.TheVariants as action
use Rattle.typed_core.specs.declared.action.OneOp.{OneOp}
use Rattle.typed_core.specs.declared.action.TwoOp.{TwoOp}
use Rattle.one_rule.specs.PortRun.{ports_behind, read_behind, write_behind}
use Rattle.net_action.specs.Gates.{Grows, HasValue, IsUp}
use Rattle.net_action.specs.inner.Parts.{BinaryHasWidth, CanBe, CanBeOperand, HaveWires, IfHasWidth, IsMade, IsPart, IsRunning, LetHasWidth, Means, OperationHasWidth, SequenceHasWidth, UnaryHasWidth, WireFits, WriteHasWidth, binary_of, environment_in, if_of, let_of, operation_value, sequence_of, unary_of, values_at, wire_value, write_of}
use Rattle.net_action.specs.Wires.{AreValues, ArePortWires, HasWire, PortsStandFor, is_up}
use Rattle.net_action.specs.declared.lookup.Asked.TheVariants.{Table, Host}
use Rattle.net_action.specs.declared.operation.Operation.{Operation}
use Rattle.net_action.specs.declared.operation.Operation.TheVariants.{One, Slice, Zext, Sext, Ask}
use Rattle.net_action.specs.declared.wires.PortWires.{PortWires}
use Rattle.net_action.specs.declared.wires.RuleNet.{RuleNet}
use Rattle.net_action.proofs.Growth.{fits_kept, grows_on, names_kept, running_kept, values_before, wire_kept}
use Rattle.net_action.proofs.Running.{means_choice, means_then, means_value, same_self}

-- ---- names

name_fits : (net : List NetOp) (widths locals : List ℕ) (name width : ℕ) → HaveWires net widths locals → slice_get widths name ≡ Some width → WireFits net width (slice_get locals name)
name_fits net [] [] name width h e = absurd cc
name_fits net [] (l ∷ locals) name width h e = absurd h
name_fits net (w ∷ widths) [] name width h e = absurd h
name_fits net (w ∷ widths) (l ∷ locals) zero width h e = subst (λ (n : ℕ). HasWire net l n) (some_same w width e) h.0
  where
    some_same : (a b : ℕ) → Some a ≡ Some b → a ≡ b
    some_same a b e = cc
name_fits net (w ∷ widths) (l ∷ locals) (suc name) width h e = name_fits net widths locals name width h.1 e

name_value : (values : List BitVector) (locals : List ℕ) (name : ℕ) → slice_index_or (values_at values locals) name unit ≡ wire_value values (slice_get locals name)
name_value values [] name = refl
name_value values (l ∷ locals) zero = refl
name_value values (l ∷ locals) (suc name) = name_value values locals name

module _ (d : Declarations) (ports : PortWires) where
  -- ---- what can be made wires

  pub unary_first : (net : List NetOp) (locals : List ℕ) (operation : Operation) (a : Action) → CanBe (UnaryHasWidth d operation a) net locals → CanBeOperand d net a locals
  unary_first net locals operation a (widths, width, h, (operand, t, o)) = (widths, operand, h, t, some operation o)
    where
      some : (of : Operation) → OperationHasWidth d.externs of operand width → 1 ≤ operand
      some (One operator) o = o.0
      some (Slice upper lower) o = omega (arith, o.1)
      some (Zext to) o = o.0
      some (Sext to) o = o.0
      some (Ask asked) o = o.0

  pub unary_applies : (old mid : List NetOp) (r0 r1 : RuleNet) (locals : List ℕ) (operation : Operation) (a : Action) (x : ℕ) → CanBe (UnaryHasWidth d operation a) old locals → IsPart d ports old r0 a locals mid r1 (Some x)
      → (operand : ℕ) × (width : ℕ) × HasWire mid x operand × OperationHasWidth d.externs operation operand width
  unary_applies old mid r0 r1 locals operation a x (widths, width, h, (operand, t, o)) made = (operand, width, made.fits widths operand h t, o)

  pub binary_first : (net : List NetOp) (locals : List ℕ) (operator : TwoOp) (a b : Action) → CanBe (BinaryHasWidth d operator a b) net locals → CanBeOperand d net a locals
  binary_first net locals operator a b (widths, width, h, (left, right, t, u, some, others, o)) = (widths, left, h, t, some)

  pub binary_second : (old mid : List NetOp) (locals : List ℕ) (operator : TwoOp) (a b : Action) → Grows d.inputs old mid → CanBe (BinaryHasWidth d operator a b) old locals → CanBeOperand d mid b locals
  binary_second old mid locals operator a b g (widths, width, h, (left, right, t, u, some, others, o)) = (widths, right, names_kept d.inputs old mid widths locals g h, u, others)

  pub binary_applies : (old mid mid2 : List NetOp) (r0 r1 r2 : RuleNet) (locals : List ℕ) (operator : TwoOp) (a b : Action) (x y : ℕ) → Grows d.inputs old mid → Grows d.inputs mid mid2 → CanBe (BinaryHasWidth d operator a b) old locals
      → IsPart d ports old r0 a locals mid r1 (Some x) → IsPart d ports mid r1 b locals mid2 r2 (Some y) → (left : ℕ) × (right : ℕ) × (width : ℕ) × HasWire mid2 x left × HasWire mid2 y right × TwoHasWidth operator left right width
  binary_applies old mid mid2 r0 r1 r2 locals operator a b x y g g2 (widths, width, h, (left, right, t, u, some, others, o)) made made2 =
      (left, right, width, wire_kept d.inputs mid mid2 x left g2 (made.fits widths left h t), made2.fits widths right (names_kept d.inputs old mid widths locals g h) u, o)

  pub let_first : (net : List NetOp) (locals : List ℕ) (a body : Action) → CanBe (LetHasWidth d a body) net locals → CanBeOperand d net a locals
  let_first net locals a body (widths, width, h, (bound, t, some, u)) = (widths, bound, h, t, some)

  pub let_second : (old mid : List NetOp) (r0 r1 : RuleNet) (locals : List ℕ) (a body : Action) (x : ℕ) → Grows d.inputs old mid → CanBe (LetHasWidth d a body) old locals → IsPart d ports old r0 a locals mid r1 (Some x) → CanBe (ActionHasWidth d body) mid (x ∷ locals)
  let_second old mid r0 r1 locals a body x g (widths, width, h, (bound, t, some, u)) made = (bound ∷ widths, width, (made.fits widths bound h t, names_kept d.inputs old mid widths locals g h), u)

  pub sequence_first : (net : List NetOp) (locals : List ℕ) (first second : Action) → CanBe (SequenceHasWidth d first second) net locals → CanBe (ActionHasWidth d first) net locals
  sequence_first net locals first second (widths, width, h, (dropped, t, u)) = (widths, dropped, h, t)

  pub sequence_second : (old mid : List NetOp) (locals : List ℕ) (first second : Action) → Grows d.inputs old mid → CanBe (SequenceHasWidth d first second) old locals → CanBe (ActionHasWidth d second) mid locals
  sequence_second old mid locals first second g (widths, width, h, (dropped, t, u)) = (widths, width, names_kept d.inputs old mid widths locals g h, u)

  pub write_first : (net : List NetOp) (locals : List ℕ) (port register : ℕ) (a : Action) → ArePortWires net d.regs ports → CanBe (WriteHasWidth d port register a) net locals → CanBeOperand d net a locals
  write_first net locals port register a are (widths, width, h, (held, t, at_port, r, none)) = (widths, held, h, t, (are.each_start register held r).1)

  pub write_applies : (old mid : List NetOp) (r0 r1 : RuleNet) (locals : List ℕ) (port register : ℕ) (a : Action) (x : ℕ) → CanBe (WriteHasWidth d port register a) old locals → IsPart d ports old r0 a locals mid r1 (Some x)
      → IsPort port × ((width : ℕ) × (slice_get d.regs register ≡ Some width) × HasWire mid x width)
  write_applies old mid r0 r1 locals port register a x (widths, width, h, (held, t, at_port, r, none)) made = (at_port, (held, r, made.fits widths held h t))

  pub if_first : (net : List NetOp) (locals : List ℕ) (condition first second : Action) → CanBe (IfHasWidth d condition first second) net locals → CanBeOperand d net condition locals
  if_first net locals condition first second (widths, width, h, (t, u, v)) = (widths, 1, h, t, omega arith)

  pub if_bit : (old mid : List NetOp) (r0 r1 : RuleNet) (locals : List ℕ) (condition first second : Action) (x : ℕ) → CanBe (IfHasWidth d condition first second) old locals → IsPart d ports old r0 condition locals mid r1 (Some x) → HasWire mid x 1
  if_bit old mid r0 r1 locals condition first second x (widths, width, h, (t, u, v)) made = made.fits widths 1 h t

  pub if_arms : (old mid : List NetOp) (locals : List ℕ) (condition first second : Action) → Grows d.inputs old mid → CanBe (IfHasWidth d condition first second) old locals → CanBe (ActionHasWidth d first) mid locals × CanBe (ActionHasWidth d second) mid locals
  if_arms old mid locals condition first second g (widths, width, h, (t, u, v)) =
      ((widths, width, names_kept d.inputs old mid widths locals g h, u), (widths, width, names_kept d.inputs old mid widths locals g h, v))

  -- the arms have one width, or come to no value both
  pub arms_fit : (old n2 n3 n4 n5 n6 : List NetOp) (condition first second : Action) (locals : List ℕ) (r2 r3 r4 r5 : RuleNet) (a b : Option ℕ) → CanBe (IfHasWidth d condition first second) old locals
      → Grows d.inputs old n2 → Grows d.inputs old n4 → Grows d.inputs n3 n6 → Grows d.inputs n5 n6 → IsPart d ports n2 r2 first locals n3 r3 a → IsPart d ports n4 r4 second locals n5 r5 b → (width : ℕ) × WireFits n6 width a × WireFits n6 width b
  arms_fit old n2 n3 n4 n5 n6 condition first second locals r2 r3 r4 r5 a b (widths, width, h, (t, u, v)) g2 g4 g3 g5 one two =
      (width, fits_kept d.inputs n3 n6 width a g3 (one.fits widths width (names_kept d.inputs old n2 widths locals g2 h) u), fits_kept d.inputs n5 n6 width b g5 (two.fits widths width (names_kept d.inputs old n4 widths locals g4 h) v))

  pub operand_part : (net : List NetOp) (a : Action) (locals : List ℕ) → CanBeOperand d net a locals → CanBe (ActionHasWidth d a) net locals
  operand_part net a locals (widths, width, h, t, some) = (widths, width, h, t)

  pub operand_has_wire : (old new : List NetOp) (r0 r1 : RuleNet) (a : Action) (locals : List ℕ) → CanBeOperand d old a locals → IsPart d ports old r0 a locals new r1 None → ⊥
  operand_has_wire old new r0 r1 a locals (widths, width, h, t, some) made = omega (arith, made.fits widths width h t)

  -- what can be made wires of an action can be made of its form
  pub to_form : (net : List NetOp) (locals : List ℕ) (part form : Action) → part ≡ form → CanBe (ActionHasWidth d part) net locals → CanBe (ActionHasWidth d form) net locals
  to_form net locals part form is ready = subst (λ (n : Action). CanBe (ActionHasWidth d n) net locals) is ready

  -- what is of a form is of the action
  pub of_form : (old new : List NetOp) (r0 r1 : RuleNet) (part form : Action) (locals : List ℕ) (wire : Option ℕ) → part ≡ form → IsPart d ports old r0 form locals new r1 wire → IsPart d ports old r0 part locals new r1 wire
  of_form old new r0 r1 part form locals wire is made = subst (λ (n : Action). IsPart d ports old r0 n locals new r1 wire) (sym is) made

  -- ---- what was made wires

  pub unit_made : (net : List NetOp) (run : RuleNet) (locals : List ℕ) → IsRunning net d.regs run → IsPart d ports net run action.Unit locals net run None
  unit_made net run locals running = record {
    running = running;
    fits = λ widths width h t. t;
    means = λ s values events regs are st. means_value d.regs values run None unit refl;
  }

  pub const_made : (old new : List NetOp) (run : RuleNet) (locals : List ℕ) (value : BitVector) (id : ℕ) → Grows d.inputs old new → IsRunning old d.regs run → HasWire new id value.width → HasValue new (λ values. value) id → IsPart d ports old run (action.Const value) locals new run (Some id)
  const_made old new run locals value id g running wire is = record {
    running = running_kept d.inputs old new d.regs run g running;
    fits = λ widths width h t. subst (λ (n : ℕ). HasWire new id n) t.1 wire;
    means = λ s values events regs are st. means_value d.regs values run (Some id) value (sym (is s values are));
  }

  pub local_made : (net : List NetOp) (run : RuleNet) (locals : List ℕ) (name : ℕ) (wire : Option ℕ) → IsRunning net d.regs run → wire ≡ slice_get locals name → IsPart d ports net run (action.Local name) locals net run wire
  local_made net run locals name wire running is = subst (λ (w : Option ℕ). IsPart d ports net run (action.Local name) locals net run w) (sym is) (record {
    running = running;
    fits = λ widths width h t. name_fits net widths locals name width h t;
    means = λ s values events regs are st. means_value d.regs values run (slice_get locals name) (slice_index_or (values_at values locals) name unit) (name_value values locals name);
  })

  pub input_made : (old new : List NetOp) (run : RuleNet) (locals : List ℕ) (input id : ℕ) → Grows d.inputs old new → IsRunning old d.regs run → ((width : ℕ) → slice_get d.inputs input ≡ Some width → HasWire new id width)
      → ((s : Sources) (values : List BitVector) → AreValues s new values → value_at values id ≡ value_at s.inputs input) → IsPart d ports old run (action.Input input) locals new run (Some id)
  input_made old new run locals input id g running wire is = record {
    running = running_kept d.inputs old new d.regs run g running;
    fits = λ widths width h t. wire width t;
    means = λ s values events regs are st. means_value d.regs values run (Some id) (slice_index_or s.inputs input unit) (sym (is s values are));
  }

  pub unary_made : (old mid new : List NetOp) (r0 r1 : RuleNet) (operation : Operation) (a : Action) (locals : List ℕ) (x id : ℕ) → IsPart d ports old r0 a locals mid r1 (Some x) → Grows d.inputs mid new
      → ((operand width : ℕ) → HasWire mid x operand → OperationHasWidth d.externs operation operand width → HasWire new id width) → HasValue new (λ values. operation_value d.externs operation (value_at values x)) id
      → IsMade d ports old r0 (UnaryHasWidth d operation a) (unary_of operation a) locals new r1 (Some id)
  unary_made old mid new r0 r1 operation a locals x id made g wire is = record {
    running = running_kept d.inputs mid new d.regs r1 g made.running;
    fits = λ widths width h (operand, t, o). wire operand width (made.fits widths operand h t) o;
    means = λ s values events regs are st.
        means_then d.regs values r0 r1 r1 (Some x) (Some id) (evaluate (environment_in d s) (ports_behind events regs) a (values_at values locals)) (λ v. comes_to (operation_value d.externs operation v))
        (made.means s values events regs (values_before s d.inputs mid new values g are) st) (means_value d.regs values r1 (Some id) (operation_value d.externs operation (value_at values x)) (sym (is s values are)));
  }

  pub binary_made : (old mid mid2 new : List NetOp) (r0 r1 r2 : RuleNet) (operator : TwoOp) (a b : Action) (locals : List ℕ) (x y id : ℕ)
      → Grows d.inputs old mid → Grows d.inputs mid mid2 → Grows d.inputs mid2 new → IsPart d ports old r0 a locals mid r1 (Some x) → IsPart d ports mid r1 b locals mid2 r2 (Some y)
      → ((left right width : ℕ) → HasWire mid2 x left → HasWire mid2 y right → TwoHasWidth operator left right width → HasWire new id width) → HasValue new (λ values. apply_two operator (value_at values x) (value_at values y)) id
      → IsMade d ports old r0 (BinaryHasWidth d operator a b) (binary_of operator a b) locals new r2 (Some id)
  binary_made old mid mid2 new r0 r1 r2 operator a b locals x y id g1 g2 g3 made made2 wire is = record {
    running = running_kept d.inputs mid2 new d.regs r2 g3 made2.running;
    fits = λ widths width h (left, right, t, u, some, others, o).
        wire left right width (wire_kept d.inputs mid mid2 x left g2 (made.fits widths left h t)) (made2.fits widths right (names_kept d.inputs old mid widths locals g1 h) u) o;
    means = λ s values events regs are st.
        let are2 = values_before s d.inputs mid2 new values g3 are in
        let are1 = values_before s d.inputs mid mid2 values g2 are2 in
        let env = environment_in d s in
        let behind = ports_behind events regs in
        means_then d.regs values r0 r1 r2 (Some x) (Some id) (evaluate env behind a (values_at values locals)) (λ v. evaluate env behind b (values_at values locals) >>= λ w. comes_to (apply_two operator v w))
        (made.means s values events regs are1 st)
        (means_then d.regs values r1 r2 r2 (Some y) (Some id) (evaluate env behind b (values_at values locals)) (λ w. comes_to (apply_two operator (value_at values x) w))
        (made2.means s values events regs are2 st) (means_value d.regs values r2 (Some id) (apply_two operator (value_at values x) (value_at values y)) (sym (is s values are))));
  }

  pub let_made : (old mid new : List NetOp) (r0 r1 r2 : RuleNet) (a body : Action) (locals : List ℕ) (x : ℕ) (wire : Option ℕ)
      → Grows d.inputs old mid → Grows d.inputs mid new → IsPart d ports old r0 a locals mid r1 (Some x) → IsPart d ports mid r1 body (x ∷ locals) new r2 wire
      → IsMade d ports old r0 (LetHasWidth d a body) (let_of a body) locals new r2 wire
  let_made old mid new r0 r1 r2 a body locals x wire g1 g2 made made2 = record {
    running = made2.running;
    fits = λ widths width h (bound, t, some, u). made2.fits (bound ∷ widths) width (made.fits widths bound h t, names_kept d.inputs old mid widths locals g1 h) u;
    means = λ s values events regs are st.
        let env = environment_in d s in
        let behind = ports_behind events regs in
        means_then d.regs values r0 r1 r2 (Some x) wire (evaluate env behind a (values_at values locals)) (λ v. evaluate env behind body (v ∷ values_at values locals))
        (made.means s values events regs (values_before s d.inputs mid new values g2 are) st) (made2.means s values events regs are st);
  }

  pub sequence_made : (old mid new : List NetOp) (r0 r1 r2 : RuleNet) (first second : Action) (locals : List ℕ) (dropped wire : Option ℕ)
      → Grows d.inputs old mid → Grows d.inputs mid new → IsPart d ports old r0 first locals mid r1 dropped → IsPart d ports mid r1 second locals new r2 wire
      → IsMade d ports old r0 (SequenceHasWidth d first second) (sequence_of first second) locals new r2 wire
  sequence_made old mid new r0 r1 r2 first second locals dropped wire g1 g2 made made2 = record {
    running = made2.running;
    fits = λ widths width h (n, t, u). made2.fits widths width (names_kept d.inputs old mid widths locals g1 h) u;
    means = λ s values events regs are st.
        let env = environment_in d s in
        let behind = ports_behind events regs in
        means_then d.regs values r0 r1 r2 dropped wire (evaluate env behind first (values_at values locals)) (λ _. evaluate env behind second (values_at values locals))
        (made.means s values events regs (values_before s d.inputs mid new values g2 are) st) (made2.means s values events regs are st);
  }

  pub read_made : (old new : List NetOp) (r0 r1 : RuleNet) (port register : ℕ) (locals : List ℕ) (id : ℕ) → IsRunning new d.regs r1 → ((width : ℕ) → slice_get d.regs register ≡ Some width → HasWire new id width)
      → ((s : Sources) (values : List BitVector) (events : List Event) (regs : List BitVector) → AreValues s new values → PortsStandFor d.regs values ports events regs → Means d.regs values r0 r1 (Some id) (read_behind events regs port register))
      → IsPart d ports old r0 (action.Read port register) locals new r1 (Some id)
  read_made old new r0 r1 port register locals id running wire means = record {
    running = running;
    fits = λ widths width h t. wire width t.1;
    means = means;
  }

  pub write_made : (old mid new : List NetOp) (r0 r1 r2 : RuleNet) (port register : ℕ) (a : Action) (locals : List ℕ) (x : ℕ) → Grows d.inputs mid new → IsPart d ports old r0 a locals mid r1 (Some x) → IsRunning new d.regs r2
      → ((s : Sources) (values : List BitVector) (events : List Event) (regs : List BitVector) → AreValues s new values → PortsStandFor d.regs values ports events regs → Means d.regs values r1 r2 None (write_behind events port register (value_at values x)))
      → IsMade d ports old r0 (WriteHasWidth d port register a) (write_of port register a) locals new r2 None
  write_made old mid new r0 r1 r2 port register a locals x g made running means = record {
    running = running;
    fits = λ widths width h (held, t, at_port, r, none). none;
    means = λ s values events regs are st.
        means_then d.regs values r0 r1 r2 (Some x) None (evaluate (environment_in d s) (ports_behind events regs) a (values_at values locals)) (λ v. write_behind events port register v)
        (made.means s values events regs (values_before s d.inputs mid new values g are) st) (means s values events regs are st);
  }

  pub abort_made : (old new : List NetOp) (run : RuleNet) (locals : List ℕ) (id : ℕ) → Grows d.inputs old new → IsRunning old d.regs run → HasWire new id 1 → IsUp new (λ values. false) id
      → IsPart d ports old run action.Abort locals new (record { fires = id; log = run.log }) None
  abort_made old new run locals id g running wire off = record {
    running = record { fires = wire; log = (running_kept d.inputs old new d.regs run g running).log };
    fits = λ widths width h t. t;
    means = λ s values events regs are st. record { runs = λ own up stands. off s values are; stands_still = λ down. (off s values are, same_self d.regs values run.log) };
  }

  -- ---- what was made of a form was made of the action

  pub read_ready : (net : List NetOp) (locals : List ℕ) (part : Action) (port register : ℕ) → part ≡ action.Read port register → CanBe (ActionHasWidth d part) net locals → register < length d.regs
  read_ready net locals part port register is ready = by (to_form net locals part (action.Read port register) is ready)
    where
      by : CanBe (ActionHasWidth d (action.Read port register)) net locals → register < length d.regs
      by (widths, width, h, (at_port, t)) = slice_get_within d.regs register width t

  pub one_form : (old new : List NetOp) (r0 r1 : RuleNet) (part x a : Action) (operator : OneOp) (p : _) (locals : List ℕ) (wire : Option ℕ) → part ≡ action.One' operator p a → x ≡ a → IsMade d ports old r0 (UnaryHasWidth d (One operator) x) (unary_of (One operator) x) locals new r1 wire → IsPart d ports old r0 part locals new r1 wire
  one_form old new r0 r1 part x a operator p locals wire is e0 made =
      let m = subst (λ (n : Action). IsMade d ports old r0 (UnaryHasWidth d (One operator) n) (unary_of (One operator) n) locals new r1 wire) e0 (made) in
      of_form old new r0 r1 part (action.One' operator p a) locals wire is (record { running = m.running; fits = λ widths width h (operand, t, some, o). m.fits widths width h (operand, t, (some, o)); means = m.means })

  pub slice_form : (old new : List NetOp) (r0 r1 : RuleNet) (part x a : Action) (upper : ℕ) (lower : ℕ) (p : _) (locals : List ℕ) (wire : Option ℕ) → part ≡ action.Slice' p a upper lower → x ≡ a → IsMade d ports old r0 (UnaryHasWidth d (Slice upper lower) x) (unary_of (Slice upper lower) x) locals new r1 wire → IsPart d ports old r0 part locals new r1 wire
  slice_form old new r0 r1 part x a upper lower p locals wire is e0 made =
      let m = subst (λ (n : Action). IsMade d ports old r0 (UnaryHasWidth d (Slice upper lower) n) (unary_of (Slice upper lower) n) locals new r1 wire) e0 (made) in
      of_form old new r0 r1 part (action.Slice' p a upper lower) locals wire is (record { running = m.running; fits = λ widths width h (operand, t, order, inside, o). m.fits widths width h (operand, t, (order, inside, o)); means = m.means })

  pub zext_form : (old new : List NetOp) (r0 r1 : RuleNet) (part x a : Action) (to : ℕ) (p : _) (locals : List ℕ) (wire : Option ℕ) → part ≡ action.Zext' p a to → x ≡ a → IsMade d ports old r0 (UnaryHasWidth d (Zext to) x) (unary_of (Zext to) x) locals new r1 wire → IsPart d ports old r0 part locals new r1 wire
  zext_form old new r0 r1 part x a to p locals wire is e0 made =
      let m = subst (λ (n : Action). IsMade d ports old r0 (UnaryHasWidth d (Zext to) n) (unary_of (Zext to) n) locals new r1 wire) e0 (made) in
      of_form old new r0 r1 part (action.Zext' p a to) locals wire is (record { running = m.running; fits = λ widths width h (operand, t, some, wider, most, o). m.fits widths width h (operand, t, (some, wider, most, o)); means = m.means })

  pub sext_form : (old new : List NetOp) (r0 r1 : RuleNet) (part x a : Action) (to : ℕ) (p : _) (locals : List ℕ) (wire : Option ℕ) → part ≡ action.Sext' p a to → x ≡ a → IsMade d ports old r0 (UnaryHasWidth d (Sext to) x) (unary_of (Sext to) x) locals new r1 wire → IsPart d ports old r0 part locals new r1 wire
  sext_form old new r0 r1 part x a to p locals wire is e0 made =
      let m = subst (λ (n : Action). IsMade d ports old r0 (UnaryHasWidth d (Sext to) n) (unary_of (Sext to) n) locals new r1 wire) e0 (made) in
      of_form old new r0 r1 part (action.Sext' p a to) locals wire is (record { running = m.running; fits = λ widths width h (operand, t, some, wider, most, o). m.fits widths width h (operand, t, (some, wider, most, o)); means = m.means })

  pub table_form : (old new : List NetOp) (r0 r1 : RuleNet) (part x a : Action) (table : ℕ) (p : _) (locals : List ℕ) (wire : Option ℕ) → part ≡ action.Table' table p a → x ≡ a → IsMade d ports old r0 (UnaryHasWidth d (Ask (Table table)) x) (unary_of (Ask (Table table)) x) locals new r1 wire → IsPart d ports old r0 part locals new r1 wire
  table_form old new r0 r1 part x a table p locals wire is e0 made =
      let m = subst (λ (n : Action). IsMade d ports old r0 (UnaryHasWidth d (Ask (Table table)) n) (unary_of (Ask (Table table)) n) locals new r1 wire) e0 (made) in
      of_form old new r0 r1 part (action.Table' table p a) locals wire is (record { running = m.running; fits = λ widths width h (operand, t, some, o). m.fits widths width h (operand, t, (some, o)); means = m.means })

  pub host_form : (old new : List NetOp) (r0 r1 : RuleNet) (part x a : Action) (host : ℕ) (p : _) (locals : List ℕ) (wire : Option ℕ) → part ≡ action.Host' host p a → x ≡ a → IsMade d ports old r0 (UnaryHasWidth d (Ask (Host host)) x) (unary_of (Ask (Host host)) x) locals new r1 wire → IsPart d ports old r0 part locals new r1 wire
  host_form old new r0 r1 part x a host p locals wire is e0 made =
      let m = subst (λ (n : Action). IsMade d ports old r0 (UnaryHasWidth d (Ask (Host host)) n) (unary_of (Ask (Host host)) n) locals new r1 wire) e0 (made) in
      of_form old new r0 r1 part (action.Host' host p a) locals wire is (record { running = m.running; fits = λ widths width h (operand, t, some, o). m.fits widths width h (operand, t, (some, o)); means = m.means })

  pub two_form : (old new : List NetOp) (r0 r1 : RuleNet) (part x y a b : Action) (operator : TwoOp) (p : _) (q : _) (locals : List ℕ) (wire : Option ℕ) → part ≡ action.Two' operator p a q b → x ≡ a → y ≡ b → IsMade d ports old r0 (BinaryHasWidth d operator x y) (binary_of operator x y) locals new r1 wire → IsPart d ports old r0 part locals new r1 wire
  two_form old new r0 r1 part x y a b operator p q locals wire is e0 e1 made =
      of_form old new r0 r1 part (action.Two' operator p a q b) locals wire is (subst (λ (n : Action). IsMade d ports old r0 (BinaryHasWidth d operator a n) (binary_of operator a n) locals new r1 wire) e1 (subst (λ (n : Action). IsMade d ports old r0 (BinaryHasWidth d operator n y) (binary_of operator n y) locals new r1 wire) e0 (made)))

  pub let_form : (old new : List NetOp) (r0 r1 : RuleNet) (part x y a b : Action) (p : _) (q : _) (locals : List ℕ) (wire : Option ℕ) → part ≡ action.Let' p a q b → x ≡ a → y ≡ b → IsMade d ports old r0 (LetHasWidth d x y) (let_of x y) locals new r1 wire → IsPart d ports old r0 part locals new r1 wire
  let_form old new r0 r1 part x y a b p q locals wire is e0 e1 made =
      of_form old new r0 r1 part (action.Let' p a q b) locals wire is (subst (λ (n : Action). IsMade d ports old r0 (LetHasWidth d a n) (let_of a n) locals new r1 wire) e1 (subst (λ (n : Action). IsMade d ports old r0 (LetHasWidth d n y) (let_of n y) locals new r1 wire) e0 (made)))

  pub sequence_form : (old new : List NetOp) (r0 r1 : RuleNet) (part x y a b : Action) (p : _) (q : _) (locals : List ℕ) (wire : Option ℕ) → part ≡ action.Seq' p a q b → x ≡ a → y ≡ b → IsMade d ports old r0 (SequenceHasWidth d x y) (sequence_of x y) locals new r1 wire → IsPart d ports old r0 part locals new r1 wire
  sequence_form old new r0 r1 part x y a b p q locals wire is e0 e1 made =
      of_form old new r0 r1 part (action.Seq' p a q b) locals wire is (subst (λ (n : Action). IsMade d ports old r0 (SequenceHasWidth d a n) (sequence_of a n) locals new r1 wire) e1 (subst (λ (n : Action). IsMade d ports old r0 (SequenceHasWidth d n y) (sequence_of n y) locals new r1 wire) e0 (made)))

  pub write_form : (old new : List NetOp) (r0 r1 : RuleNet) (part x a : Action) (port : ℕ) (register : ℕ) (p : _) (locals : List ℕ) (wire : Option ℕ) → part ≡ action.Write' port register p a → x ≡ a → IsMade d ports old r0 (WriteHasWidth d port register x) (write_of port register x) locals new r1 wire → IsPart d ports old r0 part locals new r1 wire
  write_form old new r0 r1 part x a port register p locals wire is e0 made =
      of_form old new r0 r1 part (action.Write' port register p a) locals wire is (subst (λ (n : Action). IsMade d ports old r0 (WriteHasWidth d port register n) (write_of port register n) locals new r1 wire) e0 (made))

  pub if_form : (old new : List NetOp) (r0 r1 : RuleNet) (part x y z a b c : Action) (p : _) (q : _) (r : _) (locals : List ℕ) (wire : Option ℕ) → part ≡ action.If' p a q b r c → x ≡ a → y ≡ b → z ≡ c → IsMade d ports old r0 (IfHasWidth d x y z) (if_of x y z) locals new r1 wire → IsPart d ports old r0 part locals new r1 wire
  if_form old new r0 r1 part x y z a b c p q r locals wire is e0 e1 e2 made =
      of_form old new r0 r1 part (action.If' p a q b r c) locals wire is (subst (λ (n : Action). IsMade d ports old r0 (IfHasWidth d a b n) (if_of a b n) locals new r1 wire) e2 (subst (λ (n : Action). IsMade d ports old r0 (IfHasWidth d a n z) (if_of a n z) locals new r1 wire) e1 (subst (λ (n : Action). IsMade d ports old r0 (IfHasWidth d n y z) (if_of n y z) locals new r1 wire) e0 (made))))

  module _ (old n1 n2 n3 n4 n5 n6 n7 : List NetOp) (r0 r1 r3 r5 : RuleNet) (locals : List ℕ) (x g1 g2 g3 : ℕ) (a b wire : Option ℕ) (condition first second : Action)
      (s1 : Grows d.inputs old n1) (s2 : Grows d.inputs n1 n2) (s3 : Grows d.inputs n2 n3) (s4 : Grows d.inputs n3 n4) (s5 : Grows d.inputs n4 n5) (s6 : Grows d.inputs n5 n6) (s7 : Grows d.inputs n6 n7)
      (test : IsPart d ports old r0 condition locals n1 r1 (Some x))
      (up1 : IsUp n2 (λ values. is_up values r1.fires && is_up values x) g1)
      (one : IsPart d ports n2 (record { fires = g1; log = r1.log }) first locals n3 r3 a)
      (up2 : IsUp n4 (λ values. is_up values r1.fires && not (is_up values x)) g2)
      (two : IsPart d ports n4 (record { fires = g2; log = r3.log }) second locals n5 r5 b)
      (up3 : IsUp n6 (λ values. is_up values r3.fires || is_up values r5.fires) g3) (wide3 : HasWire n6 g3 1)
      (fits : (width : ℕ) → WireFits n6 width a → WireFits n7 width wire)
      (is : (s : Sources) (values : List BitVector) → AreValues s n7 values → wire_value values wire ≡ (if is_up values x then wire_value values a else wire_value values b))
      (bit : HasWire n1 x 1) where
    first_kept : (width : ℕ) → WireFits n3 width a → WireFits n6 width a
    first_kept width h = fits_kept d.inputs n3 n6 width a (grows_on d.inputs n3 n5 n6 (grows_on d.inputs n3 n4 n5 s4 s5) s6) h

    pub if_made : IsMade d ports old r0 (IfHasWidth d condition first second) (if_of condition first second) locals n7 (record { fires = g3; log = r5.log }) wire
    if_made = record {
      running = record {
        fires = wire_kept d.inputs n6 n7 g3 1 s7 wide3;
        log = (running_kept d.inputs n5 n7 d.regs r5 (grows_on d.inputs n5 n6 n7 s6 s7) two.running).log;
      };
      fits = λ widths width h (t, u, v). fits width (first_kept width (one.fits widths width (names_kept d.inputs old n2 widths locals (grows_on d.inputs old n1 n2 s1 s2) h) u));
      means = λ s values events regs are7 st.
          let are6 = values_before s d.inputs n6 n7 values s7 are7 in
          let are5 = values_before s d.inputs n5 n6 values s6 are6 in
          let are4 = values_before s d.inputs n4 n5 values s5 are5 in
          let are3 = values_before s d.inputs n3 n4 values s4 are4 in
          let are2 = values_before s d.inputs n2 n3 values s3 are3 in
          let are1 = values_before s d.inputs n1 n2 values s2 are2 in
          let env = environment_in d s in
          let behind = ports_behind events regs in
          means_then d.regs values r0 r1 (record { fires = g3; log = r5.log }) (Some x) wire (evaluate env behind condition (values_at values locals))
          (λ v. choose v (evaluate env behind first (values_at values locals)) (evaluate env behind second (values_at values locals)))
          (test.means s values events regs are1 st)
          (means_choice d.regs values r1 r3 r5 x g1 g2 g3 a b wire (evaluate env behind first (values_at values locals)) (evaluate env behind second (values_at values locals))
          (up1 s values are2) (one.means s values events regs are3 st) (up2 s values are4) (two.means s values events regs are5 st) (up3 s values are6) (is s values are7) (are1.fit x 1 bit));
    }
