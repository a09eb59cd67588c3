-- The `next`s and the outputs of a circuit on its page.
use Rattle.std.proofs.Common.{◌≡◌, ℕ, suc, ◌+◌, ◌<◌, ◌≤◌, ◌⊎◌, inl, inr, nat_eq, Bool, true, false, ◌&&◌, cond, List, [], ◌∷◌, ◌++◌, Option, None, Some, length, map, refl, sym, ap, ◌∙◌, subst, arith, append_assoc, append-nil}
use Rattle.std.specs.Prelude.{slice_get}
use Rattle.std.specs.List.{find}
use Rattle.std.specs.Option.{option_or}
use Rattle.std.proofs.lemmas.Bool.{cases_lt, eq-eqb, eqb-true}
use Rattle.std.proofs.lemmas.List.{map-append}
use Rattle.std.proofs.lemmas.List.Folds.{find-append}
use Rattle.circuit_eval.specs.declared.circuit.OutputWire.{OutputWire}
use Rattle.circuit_eval.specs.declared.circuit.StateWire.{StateWire}
use Rattle.btor2_text.specs.Printable.{IsPlainToken}
use Rattle.btor2_text.specs.declared.keyword.Keyword.TheVariants as keywords
use Rattle.btor2_text.specs.declared.kind.ArgumentKind.TheVariants as kinds
use Rattle.btor2_text.specs.declared.line.Argument.{Argument}
use Rattle.btor2_text.specs.declared.line.Argument.TheVariants as arguments
use Rattle.btor2_text.specs.declared.line.Line.{Line}
use Rattle.btor2_model.specs.Acceptance.{stands_for_state}
use Rattle.btor2_model.specs.Rules.{is_next, is_output}
use Rattle.btor2_model.specs.Run.{lines_by_rule}
use Rattle.btor2_model.specs.Scope.{id_at, no_lines, width_wanted}
use Rattle.btor2_model.specs.declared.rule.FormRule.{FormRule}
use Rattle.btor2_model.specs.declared.rule.FormRule.TheVariants as forms
use Rattle.btor2_net.specs.Pages.{Page, arguments_of, id_in, line_on, sort_id, with_next, with_nexts, with_output, with_outputs, with_sort}
use Rattle.btor2_net.specs.Translations.{line_name}
use Rattle.btor2_net.proofs.Adding.{Asked, scope_of}
use Rattle.btor2_net.proofs.Asking.{asked-one, asked-three, four, sort-given, value-given}
use Rattle.btor2_net.proofs.Distinct.{AreDistinct}
use Rattle.btor2_net.proofs.Keeping.{Good, Keeps, Names, continued-by, keeps-all, keeps-both, names-keep, not-picked, picked, put-good, put-keeps, set_of, unset}
use Rattle.btor2_net.proofs.WrittenLines.{HasLine, has-line}
use Rattle.btor2_net.proofs.WrittenSorts.{HasSort}
use Rattle.btor2_net.proofs.WrittenStates.{not-so, state_meaning, both-true}

-- the `next` of a state names this value
pub record IsNextOn (p : Page) (state value : ℕ) : Type 0 where
  pub set : Line
  pub found : find (set_of state) (lines_by_rule is_next p.lines) ≡ Some set
  pub named : id_at set.arguments 2 ≡ value

pub next-stays : (p q : Page) (more : List Line) (state value : ℕ) → lines_by_rule is_next q.lines ≡ lines_by_rule is_next p.lines ++ more → IsNextOn p state value → IsNextOn q state value
next-stays p q more state value adds on = record {
  set = on.set;
  found = ap (find (set_of state)) adds ∙ find-append (set_of state) (lines_by_rule is_next p.lines) more ∙ ap (λ (o : Option Line). option_or o (find (set_of state) more)) on.found;
  named = on.named;
}

module _ (nodes states : List ℕ) (distinct : AreDistinct states) where
  -- what a `next` asks of a page: the state, and the value that it takes
  pub record MayGoOn (p : Page) (number : ℕ) (wire : StateWire) : Type 0 where
    pub some : 1 ≤ wire.width
    pub most : wire.width ≤ 128
    pub at : slice_get states number ≡ Some (id_in states number)
    pub state : (scope_of p).meanings (id_in states number) ≡ Some (state_meaning wire.width)
    pub value : Names kinds.Value p (id_in nodes wire.next) wire.width

  pub may-go-on : (p q : Page) (number : ℕ) (wire : StateWire) → Keeps p q → MayGoOn p number wire → MayGoOn q number wire
  may-go-on p q number wire keeps may = record {
    some = may.some;
    most = may.most;
    at = may.at;
    state = keeps.means (id_in states number) (state_meaning wire.width) may.state;
    value = names-keep kinds.Value p q (id_in nodes wire.next) wire.width keeps may.value;
  }

  -- a page with the `next`s of the states before this number, and no others
  pub record HasNexts (wires : List StateWire) (p q : Page) (number : ℕ) : Type 0 where
    pub good : Good q
    pub keeps : Keeps p q
    pub same : (test : FormRule → Bool) → test forms.Sort ≡ false → test forms.Next ≡ false → lines_by_rule test q.lines ≡ lines_by_rule test p.lines
    pub before : (j : ℕ) (wire : StateWire) → j < number → slice_get wires j ≡ Some wire → IsNextOn q (id_in states j) (id_in nodes wire.next)
    pub after : (j id : ℕ) → number ≤ j → slice_get states j ≡ Some id → find (set_of id) (lines_by_rule is_next q.lines) ≡ None

  -- one more
  module _ (wires : List StateWire) (p q : Page) (number : ℕ) (wire : StateWire) (h : HasNexts wires p q number) (may : MayGoOn q number wire) (at : slice_get wires number ≡ Some wire) where
    abbrev w : ℕ
    w = wire.width

    abbrev one : Page
    one = with_sort q w

    abbrev state : ℕ
    state = id_in states number

    abbrev value : ℕ
    value = id_in nodes wire.next

    abbrev given : List Argument
    given = arguments_of (sort_id one w) (state ∷ value ∷ []) []

    abbrev line : Line
    line = line_on one keywords.Next given None

    abbrev new : Page
    new = with_next nodes q wire state

    nexts-before : HasSort q one w → find (set_of state) (lines_by_rule is_next one.lines) ≡ None
    nexts-before s = ap (find (set_of state)) (s.same is_next refl) ∙ h.after number state (omega arith) may.at

    asked : HasSort q one w → Asked one forms.Next keywords.Next given (four w w w 0)
    asked s =
        let on = may-go-on q one number wire s.keeps may in
        asked-three one forms.Next keywords.Next refl kinds.Sort kinds.Value kinds.Value (arguments.Id (sort_id one w)) (arguments.Id state) (arguments.Id value) w w w refl
        (sort-given one (sort_id one w) w s.good.sound (ap (width_wanted kinds.Sort) s.sort)) (value-given one state w s.good.sound (ap (width_wanted kinds.Value) on.state)) (value-given one value w s.good.sound on.value)
        (record {
          state = ap stands_for_state on.state;
          first = not-so ((scope_of one).continued state)
              (ap (λ (f : ℕ → Bool). f state) (continued-by one.lines no_lines) ∙ unset (lines_by_rule is_next one.lines) (λ _. false) state refl (nexts-before s));
          numeral = refl;
          fixed = refl;
        })
        (record { widths = both-true (nat_eq w w) (nat_eq w w) (eq-eqb w w refl) (eq-eqb w w refl); bounds = refl })

    l : HasLine q one new w line forms.Next (four w w w 0)
    l = has-line q w keywords.Next (state ∷ value ∷ []) [] None forms.Next (four w w w 0) h.good may.some may.most asked tt (λ is. absurd (cc))

    nexts : lines_by_rule is_next new.lines ≡ lines_by_rule is_next q.lines ++ line ∷ []
    nexts = l.picked is_next ∙ ap (λ (ls : List Line). ls ++ line ∷ []) (l.sorted.same is_next refl)

    -- this state's
    here : IsNextOn new state value
    here = record {
      set = line;
      found = ap (find (set_of state)) (l.picked is_next) ∙ find-append (set_of state) (lines_by_rule is_next one.lines) (line ∷ []) ∙ ap (λ (o : Option Line). option_or o (find (set_of state) (line ∷ []))) (nexts-before l.sorted)
          ∙ ap (λ (b : Bool). cond b (Some line) None) (eq-eqb state state refl);
      named = refl;
    }

    earlier : (j : ℕ) (other : StateWire) → j < number + 1 → slice_get wires j ≡ Some other → IsNextOn new (id_in states j) (id_in nodes other.next)
    earlier j other within found = by (cases_lt j number)
      where
        by : (j < number) ⊎ (number ≤ j) → IsNextOn new (id_in states j) (id_in nodes other.next)
        by (inl before) = next-stays q new (line ∷ []) (id_in states j) (id_in nodes other.next) nexts (h.before j other before found)
        by (inr behind) =
            let same : number ≡ j = omega (arith, within, behind) in
            let alike : Some wire ≡ Some other = sym at ∙ ap (slice_get wires) same ∙ found in
            let one_wire : wire ≡ other = cc in
            subst (λ (i : ℕ). IsNextOn new (id_in states i) (id_in nodes other.next)) same (subst (λ (x : StateWire). IsNextOn new state (id_in nodes x.next)) one_wire here)

    later : (j id : ℕ) → number + 1 ≤ j → slice_get states j ≡ Some id → find (set_of id) (lines_by_rule is_next new.lines) ≡ None
    unfolding AreDistinct
    later j id behind found =
        ap (find (set_of id)) nexts ∙ find-append (set_of id) (lines_by_rule is_next q.lines) (line ∷ [])
        ∙ ap (λ (o : Option Line). option_or o (find (set_of id) (line ∷ []))) (h.after j id (omega (arith, behind)) found) ∙ ap (λ (b : Bool). cond b (Some line) None) (by (nat_eq id state) refl)
      where
        by : (b : Bool) → nat_eq id state ≡ b → nat_eq id state ≡ false
        by false apart = apart
        by true is = let same : j ≡ number = distinct j number id found (may.at ∙ ap Some (sym (eqb-true id state is))) in absurd (omega (arith, behind, same))

    pub one-next : HasNexts wires p new (number + 1)
    one-next = record {
      good = l.good;
      keeps = keeps-both p q new h.keeps l.keeps;
      same = λ test no_sort no_next. l.picked test ∙ ap (λ (b : Bool). lines_by_rule test one.lines ++ cond b (line ∷ []) []) no_next ∙ append-nil (lines_by_rule test one.lines) ∙ l.sorted.same test no_sort
          ∙ h.same test no_sort no_next;
      before = earlier;
      after = later;
    }

  pub has-nexts : (wires : List StateWire) (p q : Page) (number : ℕ) (rest : List StateWire) → HasNexts wires p q number → ((j : ℕ) (wire : StateWire) → slice_get rest j ≡ Some wire → slice_get wires (number + j) ≡ Some wire)
      → ((j : ℕ) (wire : StateWire) → slice_get wires j ≡ Some wire → MayGoOn p j wire) → HasNexts wires p (with_nexts nodes states q number rest) (number + length rest)
  has-nexts wires p q number [] h places may = let count : number ≡ number + 0 = omega arith in subst (HasNexts wires p q) count h
  has-nexts wires p q number (wire ∷ rest) h places may =
      let none : number + 0 ≡ number = omega arith in
      let at : slice_get wires number ≡ Some wire = subst (λ (i : ℕ). slice_get wires i ≡ Some wire) none (places 0 wire refl) in
      let next = one-next wires p q number wire h (may-go-on p q number wire h.keeps (may number wire at)) at in
      let count : (number + 1) + length rest ≡ number + suc (length rest) = omega arith in
      subst (HasNexts wires p (with_nexts nodes states (with_next nodes q wire (id_in states number)) (number + 1) rest)) count
      (has-nexts wires p (with_next nodes q wire (id_in states number)) (number + 1) rest next
      (λ j other found. let turn : number + suc j ≡ (number + 1) + j = omega arith in subst (λ (i : ℕ). slice_get wires i ≡ Some other) turn (places (suc j) other found)) may)

  -- none yet
  pub no-nexts : (wires : List StateWire) (p : Page) → Good p → lines_by_rule is_next p.lines ≡ [] → HasNexts wires p p 0
  no-nexts wires p g none = record {
    good = g;
    keeps = keeps-all p;
    same = λ test no_sort no_next. refl;
    before = λ j wire within at. absurd (omega (arith, within));
    after = λ j id behind at. ap (find (set_of id)) none;
  }

-- a page with these outputs behind another
pub record HasOutputs (nodes : List ℕ) (p q : Page) (wires : List OutputWire) : Type 0 where
  pub good : Good q
  pub keeps : Keeps p q
  pub same : (test : FormRule → Bool) → test forms.Output ≡ false → lines_by_rule test q.lines ≡ lines_by_rule test p.lines
  pub names : map line_name (lines_by_rule is_output q.lines) ≡ map (λ (wire : OutputWire). wire.name) wires
  pub ids : map (λ (line : Line). id_at line.arguments 0) (lines_by_rule is_output q.lines) ≡ map (λ (wire : OutputWire). id_in nodes wire.id) wires

-- an output that can be written
pub record MayCome (nodes : List ℕ) (p : Page) (wire : OutputWire) : Type 0 where
  pub width : ℕ
  pub value : Names kinds.Value p (id_in nodes wire.id) width
  pub token : IsPlainToken wire.name

one-output : (nodes : List ℕ) (p q : Page) (done : List OutputWire) (wire : OutputWire) → HasOutputs nodes p q done → MayCome nodes p wire → HasOutputs nodes p (with_output nodes q wire) (done ++ wire ∷ [])
one-output nodes p q done wire h may =
    let id = id_in nodes wire.id in
    let given : List Argument = arguments.Id id ∷ [] in
    let line : Line = line_on q keywords.Output given (Some wire.name) in
    let new : Page = with_output nodes q wire in
    let asked : Asked q forms.Output keywords.Output given (four may.width 0 0 0) =
    asked-one q forms.Output keywords.Output refl kinds.Value (arguments.Id id) may.width refl (value-given q id may.width h.good.sound (names-keep kinds.Value p q id may.width h.keeps may.value))
    (record { state = refl; first = refl; numeral = refl; fixed = refl }) (record { widths = refl; bounds = refl }) in
    let outputs : lines_by_rule is_output new.lines ≡ lines_by_rule is_output q.lines ++ line ∷ [] = picked is_output q keywords.Output given (Some wire.name) true refl in
    record {
      good = put-good q forms.Output keywords.Output given (Some wire.name) (four may.width 0 0 0) h.good asked (may.token, tt) (λ is. absurd (cc));
      keeps = keeps-both p q new h.keeps (put-keeps q forms.Output keywords.Output given (Some wire.name) (four may.width 0 0 0) h.good asked (may.token, tt));
      same = λ test no. not-picked test q keywords.Output given (Some wire.name) no ∙ h.same test no;
      names = ap (map line_name) outputs ∙ map-append line_name (lines_by_rule is_output q.lines) (line ∷ []) ∙ ap (λ (names : List (List ℕ)). names ++ wire.name ∷ []) h.names
          ∙ sym (map-append (λ (w : OutputWire). w.name) done (wire ∷ []));
      ids = ap (map (λ (l : Line). id_at l.arguments 0)) outputs ∙ map-append (λ (l : Line). id_at l.arguments 0) (lines_by_rule is_output q.lines) (line ∷ []) ∙ ap (λ (ids : List ℕ). ids ++ id ∷ []) h.ids
          ∙ sym (map-append (λ (w : OutputWire). id_in nodes w.id) done (wire ∷ []));
    }

pub has-outputs : (nodes : List ℕ) (p q : Page) (done wires : List OutputWire) → HasOutputs nodes p q done → ((k : ℕ) (wire : OutputWire) → slice_get wires k ≡ Some wire → MayCome nodes p wire)
    → HasOutputs nodes p (with_outputs nodes q wires) (done ++ wires)
has-outputs nodes p q done [] h may = subst (HasOutputs nodes p q) (sym (append-nil done)) h
has-outputs nodes p q done (wire ∷ wires) h may =
    subst (HasOutputs nodes p (with_outputs nodes (with_output nodes q wire) wires)) (append_assoc done (wire ∷ []) wires)
    (has-outputs nodes p (with_output nodes q wire) (done ++ wire ∷ []) wires (one-output nodes p q done wire h (may 0 wire refl)) (λ k w at. may (suc k) w at))

pub no-outputs : (nodes : List ℕ) (p : Page) → Good p → lines_by_rule is_output p.lines ≡ [] → HasOutputs nodes p p []
no-outputs nodes p g none = record {
  good = g;
  keeps = keeps-all p;
  same = λ test no. refl;
  names = ap (map line_name) none;
  ids = ap (map (λ (line : Line). id_at line.arguments 0)) none;
}
