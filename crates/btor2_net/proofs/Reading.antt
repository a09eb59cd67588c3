-- The nodes of the lines before a place, line by line.
use Rattle.std.proofs.Common.{rules, ◌≡◌, ℕ, ◌+◌, ◌^◌, ◌<◌, ◌≤◌, nat_eq, Bool, true, false, cond, List, [], ◌∷◌, ◌++◌, Option, None, Some, IfSome, length, get_or, take, drop, map, refl, sym, ap, ◌∙◌, subst, arith, length-append}
use Rattle.std.specs.Prelude.{slice_get}
use Rattle.std.proofs.lemmas.List.{drop_all, drop_more, length-map, map-append, take-append-drop, take_more}
use Rattle.std.proofs.lemmas.List.Elements.{filter-append}
use Rattle.std.proofs.lemmas.Bool.{eq-eqb}
use Rattle.std.proofs.lemmas.Option.{slice_get-map, slice_get_within}
use Rattle.std.specs.Option.{option_map}
use Rattle.kw_bits.specs.BitVector.{BitVector}
use Rattle.net_graph.specs.Nets.{IsNet, Stands, widths_of}
use Rattle.net_graph.specs.Values.{AllRead, Sources, values_of}
use Rattle.net_graph.specs.declared.node.NetOp.{NetOp}
use Rattle.btor2_text.specs.Printable.{ArePrintable}
use Rattle.btor2_text.specs.declared.kind.ArgumentKind.TheVariants as kinds
use Rattle.btor2_text.specs.declared.line.Line.{Line}
use Rattle.btor2_model.specs.Acceptance.{lines_fault}
use Rattle.btor2_model.specs.Rules.{is_input, is_state, rule_of}
use Rattle.btor2_model.specs.Run.{StepValues, Values, ids_of, lines_by_rule, no_bits, value_by, values_at, values_behind, width_in}
use Rattle.btor2_model.specs.Scope.{DeclaredIds, behind, behind_all, meaning_of, measures_of, no_lines, width_or_none, width_wanted}
use Rattle.btor2_model.specs.declared.rule.FormRule.{FormRule}
use Rattle.btor2_model.proofs.Conditions.{Meets, meets}
use Rattle.btor2_model.proofs.Evaluation.{accepted-next}
use Rattle.btor2_model.proofs.Filling.{width-of-line}
use Rattle.btor2_net.specs.inner.Nodes.{AddsLine, HasConstant, IsFew, Numbering, op_of}
use Rattle.btor2_net.specs.Translations.{widths_in}
use Rattle.btor2_net.specs.inner.Values.{AreNodesOf, SameStep}
use Rattle.btor2_net.proofs.Operands.{Follows, Holds}
use Rattle.btor2_net.proofs.Passing.{absent-next, follows-next, has-constant, holds-next, inside-next, may-add, reads-next}

-- the lines before this place have their nodes
pub record Reading (lines : List Line) (place : ℕ) (scope : DeclaredIds) (n : Numbering) (net : List NetOp) : Type 0 where
  pub is_net : IsNet net
  pub accepted : lines_fault scope (drop place lines) ≡ None
  pub declared : behind_all no_lines lines ≡ behind_all scope (drop place lines)
  pub forms : ArePrintable (drop place lines)
  pub inputs : n.inputs ≡ length (ids_of is_input (take place lines))
  pub states : n.states ≡ length (ids_of is_state (take place lines))
  pub holds : Holds scope n net
  pub absent : (id : ℕ) → scope.meanings id ≡ None → n.nodes id ≡ None
  pub inside : (id node : ℕ) → n.nodes id ≡ Some node → node < length net
  pub reads : AllRead (widths_in is_input lines) (widths_in is_state lines) net
  pub values : (step : StepValues) (s : Sources) → SameStep lines step s → (before : Values) × Follows n (values_of s net) before × (values_at lines step ≡ values_behind step scope before (drop place lines))

-- and what they declare
abbrev pub Reads : List Line → ℕ → Numbering → List NetOp → Type 0
Reads lines place n net = (scope : DeclaredIds) × Reading lines place scope n net

no-nodes : IsNet []
no-nodes = record { stand = tt; constants = λ k d within. absurd (omega arith); distinct = search rules }

pub reading-start : (lines : List Line) (n : Numbering) (net : List NetOp) → lines_fault no_lines lines ≡ None → ArePrintable lines → n.inputs ≡ 0 → n.states ≡ 0 → n.sorts ≡ (λ _. None) → n.nodes ≡ (λ _. None) → net ≡ []
    → Reads lines 0 n net
reading-start lines n net fine forms inputs states sorts nodes none = (
  no_lines,
  record {
    is_net = subst IsNet (sym none) no-nodes;
    accepted = fine;
    declared = refl;
    forms = forms;
    inputs = inputs;
    states = states;
    holds = record { sorts = λ id w wanted. absurd (cc); widths = λ id w wanted. absurd (cc) };
    absent = λ id is. ap (λ (f : ℕ → Option ℕ). f id) nodes;
    inside = λ id node is. let no : n.nodes id ≡ None = ap (λ (f : ℕ → Option ℕ). f id) nodes in absurd (cc);
    reads = subst (λ (ops : List NetOp). AllRead (widths_in is_input lines) (widths_in is_state lines) ops) (sym none) (λ k d within. absurd (omega arith));
    values = λ step s same. (λ _. no_bits, (λ id node is. let no : n.nodes id ≡ None = ap (λ (f : ℕ → Option ℕ). f id) nodes in absurd (cc)), refl);
  },
)

-- the ids of lines that pass, where one more line is looked at
ids-cond : (test : FormRule → Bool) (line : Line) (rest : List Line) (b : Bool) → test (rule_of line.keyword) ≡ b
    → ids_of test (line ∷ rest) ≡ cond b (line.id ∷ ids_of test rest) (ids_of test rest)
ids-cond test line rest true is = ap (λ (b : Bool). map (λ (l : Line). l.id) (cond b (line ∷ lines_by_rule test rest) (lines_by_rule test rest))) is
ids-cond test line rest false is = ap (λ (b : Bool). map (λ (l : Line). l.id) (cond b (line ∷ lines_by_rule test rest) (lines_by_rule test rest))) is

ids-append : (test : FormRule → Bool) (a b : List Line) → ids_of test (a ++ b) ≡ ids_of test a ++ ids_of test b
ids-append test a b = ap (map (λ (l : Line). l.id)) (filter-append (λ (l : Line). test (rule_of l.keyword)) a b) ∙ map-append (λ (l : Line). l.id) (lines_by_rule test a) (lines_by_rule test b)

-- an item behind others is found at their number
found-behind : (xs ys : List ℕ) (y k : ℕ) → k ≡ length xs → slice_get (xs ++ y ∷ ys) k ≡ Some y
found-behind [] ys y k is = ap (slice_get (y ∷ ys)) is
found-behind (x ∷ xs) ys y k is = ap (slice_get (x ∷ (xs ++ y ∷ ys))) is ∙ found-behind xs ys y (length xs) refl

module _ (lines : List Line) (place : ℕ) (line : Line) (within : place < length lines) (at : line ≡ get_or lines place line) where
  abbrev rest : List Line
  rest = drop (place + 1) lines

  here : drop place lines ≡ line ∷ rest
  here = drop_more lines place line within ∙ ap (λ (l : Line). l ∷ rest) (sym at)

  more : take (place + 1) lines ≡ take place lines ++ line ∷ []
  more = take_more lines place line within ∙ ap (λ (l : Line). take place lines ++ l ∷ []) (sym at)

  -- a line that passes stands behind those before it
  number-of : (test : FormRule → Bool) (k : ℕ) → test (rule_of line.keyword) ≡ true → k ≡ length (ids_of test (take place lines)) → slice_get (ids_of test lines) k ≡ Some line.id
  number-of test k passes is =
      let all : ids_of test lines ≡ ids_of test (take place lines) ++ line.id ∷ ids_of test rest =
      ap (ids_of test) (sym (take-append-drop place lines) ∙ ap (λ (ls : List Line). take place lines ++ ls) here) ∙ ids-append test (take place lines) (line ∷ rest)
      ∙ ap (λ (ids : List ℕ). ids_of test (take place lines) ++ ids) (ids-cond test line rest true passes) in
      ap (λ (ids : List ℕ). slice_get ids k) all ∙ found-behind (ids_of test (take place lines)) (ids_of test rest) line.id k is

  count-next : (test : FormRule → Bool) (k : ℕ) (b : Bool) → test (rule_of line.keyword) ≡ b → k ≡ length (ids_of test (take place lines)) → cond b (k + 1) k ≡ length (ids_of test (take (place + 1) lines))
  count-next test k true passes is =
      let ids : ids_of test (take (place + 1) lines) ≡ ids_of test (take place lines) ++ line.id ∷ [] =
      ap (ids_of test) more ∙ ids-append test (take place lines) (line ∷ []) ∙ ap (λ (ids : List ℕ). ids_of test (take place lines) ++ ids) (ids-cond test line [] true passes) in
      omega (arith, is, ap length ids, length-append (ids_of test (take place lines)) (line.id ∷ []))
  count-next test k false passes is =
      let ids : ids_of test (take (place + 1) lines) ≡ ids_of test (take place lines) ++ [] =
      ap (ids_of test) more ∙ ids-append test (take place lines) (line ∷ []) ∙ ap (λ (ids : List ℕ). ids_of test (take place lines) ++ ids) (ids-cond test line [] false passes) in
      omega (arith, is, ap length ids, length-append (ids_of test (take place lines)) [])

  count-below : (test : FormRule → Bool) (k : ℕ) → length (lines_by_rule test lines) < 2 ^ 32 → test (rule_of line.keyword) ≡ true → k ≡ length (ids_of test (take place lines)) → k + 1 < 2 ^ 32
  count-below test k few passes is =
      let found = number-of test k passes is in
      let inside = slice_get_within (ids_of test lines) k line.id found in
      omega (arith, few, inside, length-map (lines_by_rule test lines) (λ (l : Line). l.id))

  module _ (scope : DeclaredIds) (n : Numbering) (net : List NetOp) (r : Reading lines place scope n net) where
    met : Meets scope line
    met = meets scope line (accepted-next lines place scope line within at r.accepted).0

    shaped : ArePrintable (line ∷ rest)
    shaped = subst ArePrintable here r.forms

    -- what adding the line asks
    pub may-add-line : IfSome (op_of n line) (Stands (widths_of net))
    may-add-line = may-add scope n net r.holds line met shaped.0.arguments

    pub has-constant-line : HasConstant n line
    has-constant-line = has-constant scope n net r.holds line met shaped.0.arguments

    pub is-few-line : length (lines_by_rule is_input lines) < 2 ^ 32 → length (lines_by_rule is_state lines) < 2 ^ 32 → IsFew n line
    is-few-line few_inputs few_states = record {
      inputs = λ is. count-below is_input n.inputs few_inputs is r.inputs;
      states = λ is. count-below is_state n.states few_states is r.states;
    }

    -- the line with its node
    module _ (m : Numbering) (new : List NetOp) (is_net : IsNet new) (adds : AddsLine line n m net new) where
      abbrev width : ℕ
      width = width_or_none (rule_of line.keyword) (measures_of scope line)

      declared : behind_all no_lines lines ≡ behind_all (behind scope line) rest
      declared = r.declared ∙ ap (behind_all scope) here

      line-width : width_in lines line.id ≡ width
      line-width =
          width-of-line lines rest scope line declared (accepted-next lines place scope line within at r.accepted).1
          (ap (λ (b : Bool). cond b (Some (meaning_of scope line)) (scope.meanings line.id)) (eq-eqb line.id line.id refl))

      width-at : (test : FormRule → Bool) (k : ℕ) → test (rule_of line.keyword) ≡ true → k ≡ length (ids_of test (take place lines)) → slice_get (widths_in test lines) k ≡ Some width
      width-at test k passes is =
          slice_get-map (width_in lines) (ids_of test lines) k ∙ ap (option_map (width_in lines)) (number-of test k passes is) ∙ ap Some line-width

      pub reading-next : Reads lines (place + 1) m new
      reading-next = (
        behind scope line,
        record {
          is_net = is_net;
          accepted = (accepted-next lines place scope line within at r.accepted).1;
          declared = declared;
          forms = shaped.1;
          inputs = adds.inputs ∙ count-next is_input n.inputs (is_input (rule_of line.keyword)) refl r.inputs;
          states = adds.states ∙ count-next is_state n.states (is_state (rule_of line.keyword)) refl r.states;
          holds = holds-next scope n net r.holds line met shaped.0.arguments m new is_net adds r.inside;
          absent = absent-next scope n net r.holds line met shaped.0.arguments m new is_net adds r.inside r.absent;
          inside = inside-next scope n net r.holds line met shaped.0.arguments m new is_net adds r.inside r.absent;
          reads = reads-next scope n net r.holds line met shaped.0.arguments m new is_net adds r.inside (widths_in is_input lines) (widths_in is_state lines) r.reads
              (λ is. width-at is_input n.inputs (ap is_input is) r.inputs) (λ is. width-at is_state n.states (ap is_state is) r.states);
          values = λ step s same.
              let (before, follows, is) = r.values step s same in
              let x : BitVector = value_by (rule_of line.keyword) step scope before line in (
                λ q. cond (nat_eq line.id q) x (before q),
                follows-next scope n net r.holds line met shaped.0.arguments m new is_net adds r.inside r.absent s step before follows
                    (λ on. same.inputs n.inputs line.id (number-of is_input n.inputs on r.inputs)) (λ on. same.states n.states line.id (number-of is_state n.states on r.states)),
                is ∙ ap (values_behind step scope before) here,
              );
        },
      )

-- the end
pub reading-end : (lines : List Line) (place : ℕ) (n : Numbering) (net : List NetOp) → IsNet net → Reads lines place n net → length lines ≤ place → AreNodesOf lines n net
reading-end lines place n net is_net reads end =
    let scope = reads.0 in
    let r = reads.1 in
    let none = drop_all place lines end in
    let declared : behind_all no_lines lines ≡ scope = r.declared ∙ ap (behind_all scope) none in
    record {
      is_net = is_net;
      widths = λ id w wanted. r.holds.widths id w (subst (λ (s : DeclaredIds). width_wanted kinds.Value (s.meanings id) ≡ Some w) declared wanted);
      reads = r.reads;
      values = λ step s same id node is.
          let (before, follows, all) = r.values step s same in
          follows id node is ∙ sym (ap (λ (f : Values). f id) (all ∙ ap (values_behind step scope before) none));
    }
