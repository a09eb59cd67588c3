-- The lines that a circuit is written as are laid out.
use Rattle.std.proofs.Common.{◌≡◌, ◌≢◌, ℕ, suc, ◌+◌, ◌<◌, ◌≤◌, nat_eq, Bool, true, false, cond, List, [], ◌∷◌, ◌++◌, Option, None, Some, length, map, get_or, refl, sym, ap, ap₂, ◌∙◌, subst, arith, append_assoc, append-nil, All}
use Rattle.std.specs.Prelude.{AllPairs, Contains, IfOk, Result, decimal}
use Rattle.std.proofs.lemmas.Bool.{eq-eqb}
use Rattle.std.proofs.lemmas.List.{map-append}
use Rattle.std.proofs.lemmas.List.Elements.{All-nil, All-push, Contains-append_left, Contains-append_right, filter-append}
use Rattle.std.proofs.lemmas.List.Quantifiers.{all_pairs_push}
use Rattle.std.proofs.lemmas.Result.{IfOk-weaker}
use Rattle.kw_bits.specs.BitVector.{BitVector}
use Rattle.net_graph.specs.Nets.{width_at, widths_of}
use Rattle.net_graph.specs.declared.node.NetOp.{NetOp}
use Rattle.net_graph.specs.declared.node.NetOp.TheVariants.{Const, Input, State, One, Two, Slice, Uext, Sext, Ite}
use Rattle.circuit_eval.specs.Circuits.{IsCircuit}
use Rattle.circuit_eval.specs.declared.circuit.InputWire.{InputWire}
use Rattle.circuit_eval.specs.declared.circuit.OutputWire.{OutputWire}
use Rattle.circuit_eval.specs.declared.circuit.StateWire.{StateWire}
use Rattle.circuit_eval.specs.declared.circuit.Wires.{Wires}
use Rattle.btor2_text.specs.declared.keyword.Keyword.{Keyword}
use Rattle.btor2_text.specs.declared.keyword.Keyword.TheVariants as keywords
use Rattle.btor2_text.specs.declared.line.Argument.{Argument}
use Rattle.btor2_text.specs.declared.line.Argument.TheVariants as arguments
use Rattle.btor2_text.specs.declared.line.Line.{Line}
use Rattle.btor2_model.specs.Rules.{is_init, is_next, is_sort, is_state, rule_of}
use Rattle.btor2_model.specs.Run.{ids_of, lines_by_rule}
use Rattle.btor2_model.specs.declared.rule.FormRule.{FormRule}
use Rattle.btor2_model.specs.declared.rule.FormRule.TheVariants as forms
use Rattle.btor2_net.specs.Layout.{AreLaidOut, DifferInWidth, HasSymbol, StartsBefore, declared_width, is_named, state_set, value_set}
use Rattle.btor2_net.specs.Pages as pages
use Rattle.btor2_net.specs.Pages.{Draft, Page, arguments_of, id_in, id_of_line, line_on, next_id, put, sort_id, with_constant, with_inputs, with_line, with_next, with_nexts, with_node, with_nodes, with_output, with_outputs, with_sort, with_sort_by, with_state, with_states}
use Rattle.btor2_net.specs.TidyLines.{is_any_constant, is_operator}
use Rattle.btor2_net.specs.Translations.{HasTokens}
use Rattle.btor2_net.proofs.Adding.{length-put}
use Rattle.btor2_net.proofs.Keeping.{not-picked, picked}
use Rattle.btor2_net.proofs.OperatorLines.{is_op, keyword_of, operator-rule}
use Rattle.btor2_net.proofs.Written as written

-- lines as far as they are made, where these states have no `init` yet
record Stand (waiting : List ℕ) (lines : List Line) : Type 0 where
  pub inits : map state_set (lines_by_rule is_init lines) ++ waiting ≡ ids_of is_state lines
  pub constants : All (StartsBefore lines) (lines_by_rule is_init lines)
  pub symbols : All HasSymbol (lines_by_rule is_named lines)

-- a page knows the width of each of its sorts, and each has its own
record AreSorted (p : Page) : Type 0 where
  pub apart : AllPairs DifferInWidth (lines_by_rule is_sort p.lines)
  pub known : All (λ (line : Line). p.sorts (declared_width line) ≢ None) (lines_by_rule is_sort p.lines)

record Sits (waiting : List ℕ) (p : Page) : Type 0 where
  pub lines : Stand waiting p.lines
  pub sorts : AreSorted p

-- ---- one more line

ids-append : (test : FormRule → Bool) (lines more : List Line) → ids_of test (lines ++ more) ≡ ids_of test lines ++ ids_of test more
ids-append test lines more =
    ap (map (λ (l : Line). l.id)) (filter-append (λ (l : Line). test (rule_of l.keyword)) lines more) ∙ map-append (λ (l : Line). l.id) (lines_by_rule test lines) (lines_by_rule test more)

-- a constant is among lines
abbrev HasConstant : List Line → ℕ → Type 0
HasConstant lines id = Contains (ids_of is_any_constant lines) id

constant-stays : (lines more : List Line) (id : ℕ) → HasConstant lines id → HasConstant (lines ++ more) id
constant-stays lines more id has =
    subst (λ (ids : List ℕ). Contains ids id) (sym (ids-append is_any_constant lines more)) (Contains-append_left (ids_of is_any_constant lines) (ids_of is_any_constant more) id has)

starts-still : (lines more : List Line) (line : Line) → StartsBefore lines line → StartsBefore (lines ++ more) line
starts-still lines more line is = record { constant = constant-stays lines more (value_set line) is.constant; before = is.before }

module _ (p : Page) (keyword : Keyword) (given : List Argument) (symbol : Option (List ℕ)) where
  abbrev line : Line
  line = line_on p keyword given symbol

  abbrev new : Page
  new = put p keyword given symbol

  symbols-put : (is_named (rule_of keyword) ≡ true → symbol ≢ None) → All HasSymbol (lines_by_rule is_named p.lines) → All HasSymbol (lines_by_rule is_named new.lines)
  symbols-put named all = by (is_named (rule_of keyword)) refl
    where
      by : (b : Bool) → is_named (rule_of keyword) ≡ b → All HasSymbol (lines_by_rule is_named new.lines)
      by true is = subst (All HasSymbol) (sym (picked is_named p keyword given symbol true is)) (All-push HasSymbol (lines_by_rule is_named p.lines) line all (named is))
      by false is = subst (All HasSymbol) (sym (not-picked is_named p keyword given symbol is)) all

  starts-put : All (StartsBefore p.lines) (lines_by_rule is_init p.lines) → All (StartsBefore new.lines) (lines_by_rule is_init p.lines)
  starts-put all k d within = starts-still p.lines (line ∷ []) (get_or (lines_by_rule is_init p.lines) k d) (all k d within)

  -- a line of another rule
  stand-put : (waiting : List ℕ) → is_state (rule_of keyword) ≡ false → is_init (rule_of keyword) ≡ false → (is_named (rule_of keyword) ≡ true → symbol ≢ None) → Stand waiting p.lines → Stand waiting new.lines
  stand-put waiting no_state no_init named s = record {
    inits = ap (λ (ls : List Line). map state_set ls ++ waiting) (not-picked is_init p keyword given symbol no_init) ∙ s.inits ∙ sym (ap (map (λ (l : Line). l.id)) (not-picked is_state p keyword given symbol no_state));
    constants = subst (All (StartsBefore new.lines)) (sym (not-picked is_init p keyword given symbol no_init)) (starts-put s.constants);
    symbols = symbols-put named s.symbols;
  }

  sorted-put : is_sort (rule_of keyword) ≡ false → AreSorted p → AreSorted new
  sorted-put no_sort s = record {
    apart = subst (AllPairs DifferInWidth) (sym (not-picked is_sort p keyword given symbol no_sort)) s.apart;
    known = subst (All (λ (l : Line). p.sorts (declared_width l) ≢ None)) (sym (not-picked is_sort p keyword given symbol no_sort)) s.known;
  }

-- a keyword of no sort, no state and no `init`, and of a line with a symbol only where there is one
record IsPlain (keyword : Keyword) (symbol : Option (List ℕ)) : Type 0 where
  pub no_sort : is_sort (rule_of keyword) ≡ false
  pub no_state : is_state (rule_of keyword) ≡ false
  pub no_init : is_init (rule_of keyword) ≡ false
  pub named : is_named (rule_of keyword) ≡ true → symbol ≢ None

sits-put : (waiting : List ℕ) (p : Page) (keyword : Keyword) (given : List Argument) (symbol : Option (List ℕ)) → IsPlain keyword symbol → Sits waiting p → Sits waiting (put p keyword given symbol)
sits-put waiting p keyword given symbol is s = record { lines = stand-put p keyword given symbol waiting is.no_state is.no_init is.named s.lines; sorts = sorted-put p keyword given symbol is.no_sort s.sorts }

-- ---- a sort

module _ (p : Page) (width : ℕ) where
  abbrev sort_given : List Argument
  sort_given = arguments.Bitvec ∷ arguments.Number width ∷ []

  abbrev sort_line : Line
  sort_line = line_on p keywords.Sort sort_given None

  abbrev sorted_page : Page
  sorted_page = with_sort_by p width None

  still-known : (w : ℕ) → p.sorts w ≢ None → sorted_page.sorts w ≢ None
  still-known w known = by (nat_eq width w)
    where
      by : (b : Bool) → cond b (Some (next_id p)) (p.sorts w) ≢ None
      by true none = absurd (cc)
      by false none = known none

  now-known : sorted_page.sorts width ≢ None
  now-known = subst (λ (b : Bool). cond b (Some (next_id p)) (p.sorts width) ≢ None) (sym (eq-eqb width width refl)) (λ none. absurd (cc))

  sits-new-sort : (waiting : List ℕ) → p.sorts width ≡ None → Sits waiting p → Sits waiting sorted_page
  sits-new-sort waiting none s = record {
    lines = stand-put p keywords.Sort sort_given None waiting refl refl (λ is. absurd (cc)) s.lines;
    sorts = record {
      apart = subst (AllPairs DifferInWidth) (sym (picked is_sort p keywords.Sort sort_given None true refl))
          (all_pairs_push DifferInWidth (lines_by_rule is_sort p.lines) sort_line s.sorts.apart (λ k d within same. s.sorts.known k d within (ap p.sorts same ∙ none)));
      known = subst (All (λ (l : Line). sorted_page.sorts (declared_width l) ≢ None)) (sym (picked is_sort p keywords.Sort sort_given None true refl))
          (All-push (λ (l : Line). sorted_page.sorts (declared_width l) ≢ None) (lines_by_rule is_sort p.lines) sort_line
          (λ k d within. still-known (declared_width (get_or (lines_by_rule is_sort p.lines) k d)) (s.sorts.known k d within)) now-known);
    };
  }

  sits-sort : (waiting : List ℕ) → Sits waiting p → Sits waiting (with_sort p width)
  sits-sort waiting s = by (p.sorts width) refl
    where
      by : (o : Option ℕ) → p.sorts width ≡ o → Sits waiting (with_sort_by p width o)
      by None is = sits-new-sort waiting is s
      by (Some id) is = s

  constant-after-sort : (id : ℕ) → HasConstant p.lines id → HasConstant (with_sort p width).lines id
  constant-after-sort id has = by (p.sorts width)
    where
      by : (o : Option ℕ) → HasConstant (with_sort_by p width o).lines id
      by None = constant-stays p.lines (sort_line ∷ []) id has
      by (Some found) = has

  longer-sort : length p.lines ≤ length (with_sort p width).lines
  longer-sort = by (p.sorts width)
    where
      by : (o : Option ℕ) → length p.lines ≤ length (with_sort_by p width o).lines
      by None = omega (arith, length-put p keywords.Sort sort_given None)
      by (Some found) = omega arith

-- ---- lines of a width

sits-line : (waiting : List ℕ) (p : Page) (width : ℕ) (keyword : Keyword) (ids numbers : List ℕ) (symbol : Option (List ℕ)) → IsPlain keyword symbol → Sits waiting p
    → Sits waiting (with_line p width keyword ids numbers symbol)
sits-line waiting p width keyword ids numbers symbol is s =
    sits-put waiting (with_sort p width) keyword (arguments_of (sort_id (with_sort p width) width) ids numbers) symbol is (sits-sort p width waiting s)

plain-constant : IsPlain keywords.Constd None
plain-constant = record { no_sort = refl; no_state = refl; no_init = refl; named = λ is. absurd (cc) }

sits-constant : (waiting : List ℕ) (p : Page) (value : BitVector) → Sits waiting p → Sits waiting (with_constant p value)
sits-constant waiting p value s = sits-put waiting (with_sort p value.width) keywords.Constd _ None plain-constant (sits-sort p value.width waiting s)

-- ---- a state and its `init`

sits-state-line : (p : Page) (given : List Argument) (name : List ℕ) → Sits [] p → Sits (next_id p ∷ []) (put p keywords.State given (Some name))
sits-state-line p given name s =
    let line : Line = line_on p keywords.State given (Some name) in
    let before : map state_set (lines_by_rule is_init p.lines) ≡ ids_of is_state p.lines = sym (append-nil (map state_set (lines_by_rule is_init p.lines))) ∙ s.lines.inits in
    record {
      lines = record {
        inits = ap (λ (ls : List Line). map state_set ls ++ next_id p ∷ []) (not-picked is_init p keywords.State given (Some name) refl) ∙ ap (λ (ids : List ℕ). ids ++ next_id p ∷ []) before
            ∙ sym (ids-append is_state p.lines (line ∷ []));
        constants = subst (All (StartsBefore (put p keywords.State given (Some name)).lines)) (sym (not-picked is_init p keywords.State given (Some name) refl))
            (starts-put p keywords.State given (Some name) s.lines.constants);
        symbols = symbols-put p keywords.State given (Some name) (λ is none. absurd (cc)) s.lines.symbols;
      };
      sorts = sorted-put p keywords.State given (Some name) refl s.sorts;
    }

sits-init-line : (p : Page) (sort state constant : ℕ) → Sits (state ∷ []) p → HasConstant p.lines constant → constant < state
    → Sits [] (put p keywords.Init (arguments_of sort (state ∷ constant ∷ []) []) None)
sits-init-line p sort state constant s has before =
    let given : List Argument = arguments_of sort (state ∷ constant ∷ []) [] in
    let line : Line = line_on p keywords.Init given None in
    let new : Page = put p keywords.Init given None in
    record {
      lines = record {
        inits = append-nil (map state_set (lines_by_rule is_init new.lines)) ∙ ap (map state_set) (picked is_init p keywords.Init given None true refl) ∙ map-append state_set (lines_by_rule is_init p.lines) (line ∷ [])
            ∙ s.lines.inits ∙ sym (ap (map (λ (l : Line). l.id)) (not-picked is_state p keywords.Init given None refl));
        constants = subst (All (StartsBefore new.lines)) (sym (picked is_init p keywords.Init given None true refl))
            (All-push (StartsBefore new.lines) (lines_by_rule is_init p.lines) line (starts-put p keywords.Init given None s.lines.constants)
            (record { constant = constant-stays p.lines (line ∷ []) constant has; before = before }));
        symbols = symbols-put p keywords.Init given None (λ is. absurd (cc)) s.lines.symbols;
      };
      sorts = sorted-put p keywords.Init given None refl s.sorts;
    }

module _ (d : Draft) (wire : StateWire) (s : Sits [] d.page) where
  abbrev w : ℕ
  w = wire.width

  abbrev one : Page
  one = with_sort d.page wire.first.width

  abbrev c : Page
  c = with_constant d.page wire.first

  abbrev constant_id : ℕ
  constant_id = id_of_line d.page wire.first.width

  abbrev constant_line : Line
  constant_line = line_on one keywords.Constd (arguments.Id (sort_id one wire.first.width) ∷ arguments.Numeral (decimal wire.first.number) ∷ []) None

  abbrev state_page : Page
  state_page = with_line c w keywords.State [] [] (Some wire.name)

  abbrev state_id : ℕ
  state_id = id_of_line c w

  abbrev state_given : List Argument
  state_given = arguments_of (sort_id (with_sort c w) w) [] []

  abbrev middle : Page
  middle = with_sort state_page w

  has-constant : HasConstant middle.lines constant_id
  has-constant =
      constant-after-sort state_page w constant_id
      (constant-stays (with_sort c w).lines (line_on (with_sort c w) keywords.State state_given (Some wire.name) ∷ []) constant_id
      (constant-after-sort c w constant_id
      (subst (λ (ids : List ℕ). Contains ids constant_id) (sym (ids-append is_any_constant one.lines (constant_line ∷ [])))
      (Contains-append_right (ids_of is_any_constant one.lines) (constant_id ∷ []) constant_id (0, omega arith, refl)))))

  constant-before : constant_id < state_id
  constant-before = omega (arith, length-put one keywords.Constd constant_line.arguments None, longer-sort c w)

  sits-state : Sits [] (with_state d wire).page
  sits-state =
      sits-init-line middle (sort_id middle w) state_id constant_id
      (sits-sort state_page w (state_id ∷ []) (sits-state-line (with_sort c w) state_given wire.name (sits-sort c w [] (sits-constant [] d.page wire.first s)))) has-constant constant-before

sits-states : (d : Draft) (wires : List StateWire) → Sits [] d.page → Sits [] (with_states d wires).page
sits-states d [] s = s
sits-states d (wire ∷ wires) s = sits-states (with_state d wire) wires (sits-state d wire s)

-- ---- inputs, nodes, `next`s and outputs

sits-inputs : (d : Draft) (wires : List InputWire) → Sits [] d.page → Sits [] (with_inputs d wires).page
sits-inputs d [] s = s
sits-inputs d (wire ∷ wires) s =
    sits-inputs (pages.with_input d wire) wires
    (sits-line [] d.page wire.width keywords.Input [] [] (Some wire.name) (record { no_sort = refl; no_state = refl; no_init = refl; named = λ is none. absurd (cc) }) s)

-- the line of an operator is of no other rule
not-sort : (rule : FormRule) → is_operator rule ≡ true → is_sort rule ≡ false
not-sort forms.Sort is = absurd (cc)
not-sort rule is = refl

not-state : (rule : FormRule) → is_operator rule ≡ true → is_state rule ≡ false
not-state forms.State is = absurd (cc)
not-state rule is = refl

not-init : (rule : FormRule) → is_operator rule ≡ true → is_init rule ≡ false
not-init forms.Init is = absurd (cc)
not-init rule is = refl

not-named : (rule : FormRule) → is_operator rule ≡ true → is_named rule ≡ true → ⊥
not-named forms.Input is named = cc
not-named forms.State is named = cc
not-named forms.Output is named = cc
not-named forms.Bad is named = cc
not-named rule is named = cc

plain-operator : (op : NetOp) → is_op op ≡ true → IsPlain (keyword_of op) None
plain-operator op is =
    let rule = operator-rule op is in
    let r : FormRule = rule_of (keyword_of op) in
    record { no_sort = not-sort r rule; no_state = not-state r rule; no_init = not-init r rule; named = λ named. absurd (not-named r rule named) }

sits-node : (inputs states : List ℕ) (d : Draft) (width : ℕ) (op : NetOp) → Sits [] d.page → Sits [] (with_node inputs states d width op).page
sits-node inputs states d width (Const value) s = sits-constant [] d.page value s
sits-node inputs states d width (Input number of_width) s = s
sits-node inputs states d width (State number of_width) s = s
sits-node inputs states d width (One operator a) s = sits-line [] d.page width (pages.keyword_of_one operator) (id_in d.ids a ∷ []) [] None (plain-operator (One operator a) refl) s
sits-node inputs states d width (Two operator a b) s = sits-line [] d.page width (pages.keyword_of_two operator) (id_in d.ids a ∷ id_in d.ids b ∷ []) [] None (plain-operator (Two operator a b) refl) s
sits-node inputs states d width (Slice a upper lower) s = sits-line [] d.page width keywords.Slice (id_in d.ids a ∷ []) (upper ∷ lower ∷ []) None (plain-operator (Slice a upper lower) refl) s
sits-node inputs states d width (Uext a added) s = sits-line [] d.page width keywords.Uext (id_in d.ids a ∷ []) (added ∷ []) None (plain-operator (Uext a added) refl) s
sits-node inputs states d width (Sext a added) s = sits-line [] d.page width keywords.Sext (id_in d.ids a ∷ []) (added ∷ []) None (plain-operator (Sext a added) refl) s
sits-node inputs states d width (Ite condition a b) s = sits-line [] d.page width keywords.Ite (id_in d.ids condition ∷ id_in d.ids a ∷ id_in d.ids b ∷ []) [] None (plain-operator (Ite condition a b) refl) s

sits-nodes : (inputs states widths : List ℕ) (d : Draft) (ops : List NetOp) → Sits [] d.page → Sits [] (with_nodes inputs states widths d ops).page
sits-nodes inputs states widths d [] s = s
sits-nodes inputs states widths d (op ∷ ops) s =
    sits-nodes inputs states widths (with_node inputs states d (width_at widths (length d.ids)) op) ops (sits-node inputs states d (width_at widths (length d.ids)) op s)

plain-next : IsPlain keywords.Next None
plain-next = record { no_sort = refl; no_state = refl; no_init = refl; named = λ is. absurd (cc) }

sits-nexts : (nodes states : List ℕ) (p : Page) (number : ℕ) (wires : List StateWire) → Sits [] p → Sits [] (with_nexts nodes states p number wires)
sits-nexts nodes states p number [] s = s
sits-nexts nodes states p number (wire ∷ wires) s =
    sits-nexts nodes states (with_next nodes p wire (id_in states number)) (number + 1) wires
    (sits-line [] p wire.width keywords.Next (id_in states number ∷ id_in nodes wire.next ∷ []) [] None plain-next s)

sits-outputs : (nodes : List ℕ) (p : Page) (wires : List OutputWire) → Sits [] p → Sits [] (with_outputs nodes p wires)
sits-outputs nodes p [] s = s
sits-outputs nodes p (wire ∷ wires) s =
    sits-outputs nodes (with_output nodes p wire) wires
    (sits-put [] p keywords.Output (arguments.Id (id_in nodes wire.id) ∷ []) (Some wire.name) (record { no_sort = refl; no_state = refl; no_init = refl; named = λ is none. absurd (cc) }) s)

sits-blank : Sits [] pages.blank
sits-blank = record {
  lines = record { inits = refl; constants = All-nil (StartsBefore []); symbols = All-nil HasSymbol };
  sorts = record { apart = λ j k d before within. absurd (omega (arith, within)); known = All-nil (λ (line : Line). pages.blank.sorts (declared_width line) ≢ None) };
}

-- ---- the states that `next`s set

-- the states of this number and the ones after it, one for each wire
turns : List ℕ → ℕ → List StateWire → List ℕ
turns states number [] = []
turns states number (wire ∷ wires) = id_in states number ∷ turns states (number + 1) wires

turns-later : (first : ℕ) (states : List ℕ) (number : ℕ) (wires : List StateWire) → turns (first ∷ states) (number + 1) wires ≡ turns states number wires
unfolding turns
turns-later first states number [] = refl
turns-later first states number (wire ∷ wires) =
    let same : number + 1 ≡ suc number = omega arith in
    ap₂ (λ (id : ℕ) (ids : List ℕ). id ∷ ids) (ap (id_in (first ∷ states)) same) (turns-later first states (number + 1) wires)

all-turns : (states : List ℕ) (wires : List StateWire) → length states ≡ length wires → turns states 0 wires ≡ states
unfolding turns
all-turns [] [] same = refl
all-turns [] (wire ∷ wires) same = absurd (omega (arith, same))
all-turns (id ∷ ids) [] same = absurd (omega (arith, same))
all-turns (id ∷ ids) (wire ∷ wires) same = ap (λ (rest : List ℕ). id ∷ rest) (turns-later id ids 0 wires ∙ all-turns ids wires (omega (arith, same)))

same-nexts : (p : Page) (width : ℕ) → lines_by_rule is_next (with_sort p width).lines ≡ lines_by_rule is_next p.lines
same-nexts p width = by (p.sorts width)
  where
    by : (o : Option ℕ) → lines_by_rule is_next (with_sort_by p width o).lines ≡ lines_by_rule is_next p.lines
    by None = not-picked is_next p keywords.Sort (arguments.Bitvec ∷ arguments.Number width ∷ []) None refl
    by (Some found) = refl

nexts-set : (nodes states : List ℕ) (p : Page) (number : ℕ) (wires : List StateWire)
    → map state_set (lines_by_rule is_next (with_nexts nodes states p number wires).lines) ≡ map state_set (lines_by_rule is_next p.lines) ++ turns states number wires
unfolding turns
nexts-set nodes states p number [] = sym (append-nil (map state_set (lines_by_rule is_next p.lines)))
nexts-set nodes states p number (wire ∷ wires) =
    let one : Page = with_sort p wire.width in
    let id : ℕ = id_in states number in
    let given : List Argument = arguments_of (sort_id one wire.width) (id ∷ id_in nodes wire.next ∷ []) [] in
    let line : Line = line_on one keywords.Next given None in
    nexts-set nodes states (with_next nodes p wire id) (number + 1) wires
    ∙ ap (λ (ids : List ℕ). ids ++ turns states (number + 1) wires)
    (ap (map state_set) (picked is_next one keywords.Next given None true refl) ∙ map-append state_set (lines_by_rule is_next one.lines) (line ∷ [])
    ∙ ap (λ (ls : List Line). map state_set ls ++ id ∷ []) (same-nexts p wire.width))
    ∙ append_assoc (map state_set (lines_by_rule is_next p.lines)) (id ∷ []) (turns states (number + 1) wires)

-- ---- all lines

module _ (c : Wires) (is : IsCircuit c) (tokens : HasTokens c) where
  abbrev s : Draft
  s = pages.states_of c

  abbrev i : Draft
  i = pages.inputs_of c

  abbrev n : Draft
  n = pages.nodes_of c

  abbrev x : Page
  x = with_nexts n.ids s.ids n.page 0 c.states

  abbrev e : Page
  e = with_outputs n.ids x c.outputs

  sits : Sits [] e
  sits =
      sits-outputs n.ids x c.outputs
      (sits-nexts n.ids s.ids n.page 0 c.states
      (sits-nodes i.ids s.ids (widths_of c.net) (record { page = i.page; ids = [] }) c.net
      (sits-inputs (record { page = s.page; ids = [] }) c.inputs
      (sits-states (record { page = pages.blank; ids = [] }) c.states sits-blank))))

  nexts : map state_set (lines_by_rule is_next e.lines) ≡ ids_of is_state e.lines
  nexts =
      ap (map state_set) ((written.has-e c is tokens).same is_next refl) ∙ nexts-set n.ids s.ids n.page 0 c.states
      ∙ ap (λ (ls : List Line). map state_set ls ++ turns s.ids 0 c.states) (written.nexts-before c is tokens) ∙ all-turns s.ids c.states (written.states-count c is tokens)
      ∙ sym (written.state-ids c is tokens)

  pub lines-laid-out : AreLaidOut (pages.lines_of c)
  unfolding pages.lines_of
  lines-laid-out = record {
    ids = written.lines-counted c is tokens;
    sorts = sits.sorts.apart;
    inits = sym (append-nil (map state_set (lines_by_rule is_init e.lines))) ∙ sits.lines.inits;
    constants = sits.lines.constants;
    nexts = nexts;
    symbols = sits.lines.symbols;
  }

-- the same of what a call gives, where it gives the lines
pub are-laid-out : {E : Type 0} (r : Result (List Line) E) (c : Wires) → IsCircuit c → HasTokens c → IfOk r (λ (lines : List Line). lines ≡ pages.lines_of c) → IfOk r AreLaidOut
are-laid-out {E} r c is tokens lines = IfOk-weaker r (λ (ls : List Line). ls ≡ pages.lines_of c) AreLaidOut (λ ls at. subst AreLaidOut (sym at) (lines-laid-out c is tokens)) lines
