-- The states of a circuit on its page.
use Rattle.std.proofs.Common.{◌≡◌, ℕ, suc, ◌≤◌, nat_eq, not, Bool, true, false, ◌&&◌, cond, List, [], ◌∷◌, ◌++◌, Option, None, Some, length, map, refl, sym, ap, ap₂, ◌∙◌, subst, arith, append_assoc, append-nil}
use Rattle.std.specs.Prelude.{slice_get}
use Rattle.std.specs.List.{find}
use Rattle.std.specs.Option.{option_or}
use Rattle.std.proofs.lemmas.Bool.{eq-eqb}
use Rattle.std.proofs.lemmas.List.{map-append}
use Rattle.std.proofs.lemmas.List.Folds.{find-append}
use Rattle.kw_bits.specs.Laws.{HasWidth}
use Rattle.circuit_eval.specs.declared.circuit.StateWire.{StateWire}
use Rattle.btor2_text.specs.Printable.{IsPlainToken}
use Rattle.btor2_text.specs.declared.keyword.Keyword.TheVariants as keywords
use Rattle.btor2_text.specs.declared.kind.Base.TheVariants as bases
use Rattle.btor2_text.specs.declared.kind.ArgumentKind.TheVariants as kinds
use Rattle.btor2_text.specs.declared.line.Argument.{Argument}
use Rattle.btor2_text.specs.declared.line.Argument.TheVariants as arguments
use Rattle.btor2_text.specs.declared.line.Line.{Line}
use Rattle.btor2_model.specs.Acceptance.{stands_for_state}
use Rattle.btor2_model.specs.Rules.{is_init, is_state}
use Rattle.btor2_model.specs.Run.{StepValues, ids_of, lines_by_rule, values_at}
use Rattle.btor2_model.specs.Scope.{id_at, meaning_depends, no_lines, width_wanted}
use Rattle.btor2_model.specs.declared.meaning.IdMeaning.{IdMeaning}
use Rattle.btor2_model.specs.declared.meaning.Role.TheVariants as roles
use Rattle.btor2_model.specs.declared.rule.FormRule.{FormRule}
use Rattle.btor2_model.specs.declared.rule.FormRule.TheVariants as forms
use Rattle.btor2_net.specs.Pages.{Draft, Page, arguments_of, blank, id_of_line, line_on, sort_id, with_constant, with_line, with_sort, with_state, with_states}
use Rattle.btor2_net.specs.Translations.{line_name}
use Rattle.btor2_net.proofs.Adding.{known-within, scope_of}
use Rattle.btor2_net.proofs.Asking.{Agrees, Special, asked-one, asked-three, four, sort-given, value-given}
use Rattle.btor2_net.proofs.Keeping.{Good, Keeps, Names, initialized-by, keeps-both, names-keep, set_of, unset, value-keep}
use Rattle.btor2_net.proofs.WrittenLines.{HasLine, Pairs, has-line, pairs-push, pairs-weaker}
use Rattle.btor2_net.proofs.WrittenSorts.{HasConstant, HasSort, Quiet, blank-good, has-constant, has-sort}

abbrev pub state_meaning : ℕ → IdMeaning
state_meaning width = record { role = roles.State; width = width; depends = true }

-- the id is that of a state with the wire's width, whose `init` names its first value
pub record IsStateOn (p : Page) (id : ℕ) (wire : StateWire) : Type 0 where
  pub means : (scope_of p).meanings id ≡ Some (state_meaning wire.width)
  pub value : (step : StepValues) → values_at p.lines step id ≡ step.states id
  pub set : Line
  pub found : find (set_of id) (lines_by_rule is_init p.lines) ≡ Some set
  pub named : Names kinds.Value p (id_at set.arguments 2) wire.width
  pub gives : (step : StepValues) → values_at p.lines step (id_at set.arguments 2) ≡ wire.first

-- it stays while the lines of `init` are added to
pub state-stays : (p q : Page) (more : List Line) (id : ℕ) (wire : StateWire) → Keeps p q → lines_by_rule is_init q.lines ≡ lines_by_rule is_init p.lines ++ more → IsStateOn p id wire → IsStateOn q id wire
state-stays p q more id wire keeps adds s = record {
  means = keeps.means id (state_meaning wire.width) s.means;
  value = λ step. keeps.values step id (state_meaning wire.width) s.means ∙ s.value step;
  set = s.set;
  found = ap (find (set_of id)) adds ∙ find-append (set_of id) (lines_by_rule is_init p.lines) more ∙ ap (λ (o : Option Line). option_or o (find (set_of id) more)) s.found;
  named = names-keep kinds.Value p q (id_at s.set.arguments 2) wire.width keeps s.named;
  gives = λ step. value-keep kinds.Value p q step (id_at s.set.arguments 2) wire.width keeps s.named ∙ s.gives step;
}

-- no line of a rule that the states have
pub record NoState (test : FormRule → Bool) : Type 0 where
  pub sort : test forms.Sort ≡ false
  pub numeral : test (forms.Numeral bases.Decimal) ≡ false
  pub state : test forms.State ≡ false
  pub init : test forms.Init ≡ false

-- a page with one more state
pub record HasState (p q : Page) (id : ℕ) (wire : StateWire) : Type 0 where
  pub good : Good q
  pub keeps : Keeps p q
  pub state : IsStateOn q id wire
  pub line : Line
  pub states : lines_by_rule is_state q.lines ≡ lines_by_rule is_state p.lines ++ line ∷ []
  pub id_is : line.id ≡ id
  pub name_is : line_name line ≡ wire.name
  pub init : Line
  pub inits : lines_by_rule is_init q.lines ≡ lines_by_rule is_init p.lines ++ init ∷ []
  pub same : (test : FormRule → Bool) → NoState test → lines_by_rule test q.lines ≡ lines_by_rule test p.lines

pub both-true : (a b : Bool) → a ≡ true → b ≡ true → (a && b) ≡ true
both-true true b first second = second
both-true false b first second = absurd (cc)

pub not-so : (b : Bool) → b ≡ false → not b ≡ true
not-so false is = refl
not-so true is = absurd (cc)

pub quiet-state : Quiet is_state
quiet-state = record { sort = refl; numeral = refl; unary = refl; reduced = refl; binary = refl; compared = refl; boolean = refl; joined = refl; sliced = refl; extended = refl; chosen = refl }

pub quiet-init : Quiet is_init
quiet-init = record { sort = refl; numeral = refl; unary = refl; reduced = refl; binary = refl; compared = refl; boolean = refl; joined = refl; sliced = refl; extended = refl; chosen = refl }

module _ (d : Draft) (wire : StateWire) (g : Good d.page) (first : HasWidth wire.first wire.width) (token : IsPlainToken wire.name) where
  abbrev p : Page
  p = d.page

  abbrev w : ℕ
  w = wire.width

  some : 1 ≤ w
  some = subst (λ (k : ℕ). 1 ≤ k) first.1 first.0.some_bit

  most : w ≤ 128
  most = subst (λ (k : ℕ). k ≤ 128) first.1 first.0.no_wider

  -- the constant
  abbrev c : Page
  c = with_constant p wire.first

  abbrev constant_id : ℕ
  constant_id = id_of_line p wire.first.width

  has-c : HasConstant p c constant_id wire.first
  has-c = has-constant p wire.first g first.0

  -- the state
  abbrev before : Page
  before = with_sort c w

  abbrev state_given : List Argument
  state_given = arguments_of (sort_id before w) [] []

  abbrev state_line : Line
  state_line = line_on before keywords.State state_given (Some wire.name)

  abbrev s : Page
  s = with_line c w keywords.State [] [] (Some wire.name)

  abbrev state_id : ℕ
  state_id = id_of_line c w

  has-s : HasLine c before s w state_line forms.State (four w 0 0 0)
  has-s =
      has-line c w keywords.State [] [] (Some wire.name) forms.State (four w 0 0 0) has-c.good some most
      (λ h. asked-one before forms.State keywords.State refl kinds.Sort (arguments.Id (sort_id before w)) w refl (sort-given before (sort_id before w) w h.good.sound (ap (width_wanted kinds.Sort) h.sort))
      (record { state = refl; first = refl; numeral = refl; fixed = refl }) (record { widths = refl; bounds = refl }))
      (token, tt) (λ is. absurd (cc))

  -- its `init`
  abbrev middle : Page
  middle = with_sort s w

  abbrev init_given : List Argument
  init_given = arguments_of (sort_id middle w) (state_id ∷ constant_id ∷ []) []

  abbrev init_line : Line
  init_line = line_on middle keywords.Init init_given None

  abbrev q : Page
  q = with_line s w keywords.Init (state_id ∷ constant_id ∷ []) [] None

  no-init : find (set_of state_id) (lines_by_rule is_init s.lines) ≡ None
  no-init = ap (find (set_of state_id)) (has-s.picked is_init ∙ append-nil (lines_by_rule is_init before.lines)) ∙ has-s.sorted.good.late state_id (omega arith)

  module _ (h : HasSort s middle w) where
    state-in-middle : (scope_of middle).meanings state_id ≡ Some (state_meaning w)
    state-in-middle = h.keeps.means state_id (state_meaning w) has-s.means

    constant-in-middle : (scope_of middle).meanings constant_id ≡ Some (record { role = roles.Value; width = wire.first.width; depends = false })
    constant-in-middle =
        let m : IdMeaning = record { role = roles.Value; width = wire.first.width; depends = false } in h.keeps.means constant_id m (has-s.keeps.means constant_id m has-c.means)

    not-yet : (scope_of middle).initialized state_id ≡ false
    not-yet =
        ap (λ (f : ℕ → Bool). f state_id) (initialized-by middle.lines no_lines) ∙ unset (lines_by_rule is_init middle.lines) (λ _. false) state_id refl (ap (find (set_of state_id)) (h.same is_init refl) ∙ no-init)

    init-special : Special middle forms.Init init_given
    init-special = record {
      state = ap stands_for_state state-in-middle;
      first = not-so ((scope_of middle).initialized state_id) not-yet;
      numeral = refl;
      fixed = not-so (meaning_depends ((scope_of middle).meanings constant_id)) (ap meaning_depends constant-in-middle);
    }

    init-agrees : Agrees forms.Init (four w w w 0)
    init-agrees = record { widths = both-true (nat_eq w w) (nat_eq w w) (eq-eqb w w refl) (eq-eqb w w refl); bounds = refl }

    state-named : Names kinds.Value middle state_id w
    state-named = ap (width_wanted kinds.Value) state-in-middle

    constant-named : Names kinds.Value middle constant_id w
    constant-named = ap (width_wanted kinds.Value) constant-in-middle ∙ ap Some first.1

    state-low : state_id ≤ length middle.lines
    state-low = (known-within middle state_id (state_meaning w) h.good.sound state-in-middle).1

  has-q : HasLine s middle q w init_line forms.Init (four w w w 0)
  has-q =
      has-line s w keywords.Init (state_id ∷ constant_id ∷ []) [] None forms.Init (four w w w 0) has-s.good some most
      (λ h. asked-three middle forms.Init keywords.Init refl kinds.Sort kinds.Value kinds.Value (arguments.Id (sort_id middle w)) (arguments.Id state_id) (arguments.Id constant_id) w w w refl
      (sort-given middle (sort_id middle w) w h.good.sound (ap (width_wanted kinds.Sort) h.sort)) (value-given middle state_id w h.good.sound (state-named h)) (value-given middle constant_id w h.good.sound (constant-named h))
      (init-special h) (init-agrees h))
      tt (λ is. state-low (has-q-sort))
    where
      has-q-sort : HasSort s middle w
      has-q-sort = has-sort s w has-s.good some most

  q-state : (scope_of q).meanings state_id ≡ Some (state_meaning w)
  q-state = has-q.keeps.means state_id (state_meaning w) has-s.means

  q-constant : Names kinds.Value q constant_id w
  q-constant = names-keep kinds.Value middle q constant_id w has-q.last (constant-named has-q.sorted)

  inits-are : lines_by_rule is_init q.lines ≡ lines_by_rule is_init p.lines ++ init_line ∷ []
  inits-are =
      has-q.picked is_init
      ∙ ap (λ (ls : List Line). ls ++ init_line ∷ []) (has-q.sorted.same is_init refl ∙ has-s.picked is_init ∙ append-nil (lines_by_rule is_init before.lines) ∙ has-s.sorted.same is_init refl ∙ has-c.same is_init refl refl)

  found-init : find (set_of state_id) (lines_by_rule is_init q.lines) ≡ Some init_line
  found-init =
      ap (find (set_of state_id)) (has-q.picked is_init) ∙ find-append (set_of state_id) (lines_by_rule is_init middle.lines) (init_line ∷ [])
      ∙ ap (λ (o : Option Line). option_or o (find (set_of state_id) (init_line ∷ []))) (ap (find (set_of state_id)) (has-q.sorted.same is_init refl) ∙ no-init)
      ∙ ap (λ (b : Bool). cond b (Some init_line) None) (eq-eqb state_id state_id refl)

  pub has-state : HasState p q state_id wire
  has-state = record {
    good = has-q.good;
    keeps = keeps-both p s q (keeps-both p c s has-c.keeps has-s.keeps) has-q.keeps;
    state = record {
      means = q-state;
      value = λ step. has-q.keeps.values step state_id (state_meaning w) has-s.means ∙ has-s.value step;
      set = init_line;
      found = found-init;
      named = q-constant;
      gives = λ step.
          let m : IdMeaning = record { role = roles.Value; width = wire.first.width; depends = false } in
          has-q.keeps.values step constant_id m (has-s.keeps.means constant_id m has-c.means) ∙ has-s.keeps.values step constant_id m has-c.means ∙ has-c.gives step;
    };
    line = state_line;
    states = has-q.picked is_state ∙ append-nil (lines_by_rule is_state middle.lines) ∙ has-q.sorted.same is_state refl ∙ has-s.picked is_state
        ∙ ap (λ (ls : List Line). ls ++ state_line ∷ []) (has-s.sorted.same is_state refl ∙ has-c.same is_state refl refl);
    id_is = refl;
    name_is = refl;
    init = init_line;
    inits = inits-are;
    same = λ test no.
        has-q.picked test ∙ ap (λ (b : Bool). lines_by_rule test middle.lines ++ cond b (init_line ∷ []) []) no.init ∙ append-nil (lines_by_rule test middle.lines) ∙ has-q.sorted.same test no.sort
        ∙ has-s.picked test ∙ ap (λ (b : Bool). lines_by_rule test before.lines ++ cond b (state_line ∷ []) []) no.state ∙ append-nil (lines_by_rule test before.lines) ∙ has-s.sorted.same test no.sort
        ∙ has-c.same test no.sort no.numeral;
  }

-- a page that has these states
pub record HasStates (d : Draft) (wires : List StateWire) : Type 0 where
  pub good : Good d.page
  pub states : Pairs (IsStateOn d.page) d.ids wires
  pub ids : ids_of is_state d.page.lines ≡ d.ids
  pub names : map line_name (lines_by_rule is_state d.page.lines) ≡ map (λ (wire : StateWire). wire.name) wires
  pub none : (test : FormRule → Bool) → NoState test → lines_by_rule test d.page.lines ≡ []

-- a state that can be written
abbrev pub IsWritable : StateWire → Type 0
IsWritable wire = HasWidth wire.first wire.width × IsPlainToken wire.name

pub one-more : (d : Draft) (done : List StateWire) (wire : StateWire) → HasStates d done → IsWritable wire → HasStates (with_state d wire) (done ++ wire ∷ [])
one-more d done wire h is =
    let s = has-state d wire h.good is.0 is.1 in
    let next = with_state d wire in
    record {
      good = s.good;
      states = pairs-push (IsStateOn next.page) d.ids done (id_of_line (with_constant d.page wire.first) wire.width) wire
          (pairs-weaker (IsStateOn d.page) (IsStateOn next.page) d.ids done (λ id w on. state-stays d.page next.page (s.init ∷ []) id w s.keeps s.inits on) h.states) s.state;
      ids = ap (map (λ (l : Line). l.id)) s.states ∙ map-append (λ (l : Line). l.id) (lines_by_rule is_state d.page.lines) (s.line ∷ [])
          ∙ ap₂ (λ (ids : List ℕ) (id : ℕ). ids ++ id ∷ []) h.ids s.id_is;
      names = ap (map line_name) s.states ∙ map-append line_name (lines_by_rule is_state d.page.lines) (s.line ∷ []) ∙ ap₂ (λ (names : List (List ℕ)) (name : List ℕ). names ++ name ∷ []) h.names s.name_is
          ∙ sym (map-append (λ (w : StateWire). w.name) done (wire ∷ []));
      none = λ test no. s.same test no ∙ h.none test no;
    }

pub has-states : (d : Draft) (done wires : List StateWire) → HasStates d done → ((k : ℕ) (wire : StateWire) → slice_get wires k ≡ Some wire → IsWritable wire) → HasStates (with_states d wires) (done ++ wires)
has-states d done [] h writable = subst (HasStates d) (sym (append-nil done)) h
has-states d done (wire ∷ wires) h writable =
    subst (HasStates (with_states (with_state d wire) wires)) (append_assoc done (wire ∷ []) wires)
    (has-states (with_state d wire) (done ++ wire ∷ []) wires (one-more d done wire h (writable 0 wire refl)) (λ k w at. writable (suc k) w at))

-- the page before all states
pub no-states : HasStates (record { page = blank; ids = [] }) []
no-states = record { good = blank-good; states = tt; ids = refl; names = refl; none = λ test no. refl }
