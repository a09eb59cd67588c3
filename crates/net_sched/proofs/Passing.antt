-- The wires of a cycle go past a node as the walk does.
use Rattle.std.proofs.Common.{◌≡◌, ◌⊎◌, ℕ, ◌+◌, ◌≤◌, ◌<◌, Bool, true, false, List, [], ◌∷◌, ◌++◌, length, refl, sym, ap, ap₂, ◌∙◌, subst, inl, inr, eqb-true, eq-eqb, arith, take}
use Rattle.std.specs.Prelude.{◌==◌, ◌&&◌, ◌||◌, slice_index_or, if◌then◌else◌}
use Rattle.std.proofs.lemmas.Bool.{cases_eq, ne_eqb}
use Rattle.std.proofs.lemmas.List.{length-take-le, take_more}
use Rattle.std.proofs.lemmas.List.Folds.{list_any-append}
use Rattle.kw_bits.specs.BitVector.{BitVector}
use Rattle.typed_core.specs.Evaluation.{Ending, Stop, Value}
use Rattle.typed_core.specs.Valid.{IsContinuation}
use Rattle.typed_core.specs.declared.access.Event.{Event}
use Rattle.typed_core.specs.declared.design.Next.{Next}
use Rattle.typed_core.specs.declared.design.Next.TheVariants as next
use Rattle.typed_core.specs.declared.design.Node.{Node}
use Rattle.typed_core.specs.declared.outcome.Stopped.{Stopped}
use Rattle.one_rule.specs.Cycle.{is_among}
use Rattle.one_rule.specs.PortRun.{PortState, merge}
use Rattle.one_rule.specs.Walk.{Firing, Walk, goes_on, pass, walk_past}
use Rattle.typed_core.specs.Continuations.{is_at}
use Rattle.net_graph.specs.Values.{value_at}
use Rattle.net_action.specs.Wires.{LogStandsFor, PortsStandFor, is_up}
use Rattle.net_action.specs.declared.wires.LogWires.{LogWires}
use Rattle.net_sched.specs.inner.Cycles.{CycleStandsFor, IsVisit, IsWithin, nth}
use Rattle.net_sched.specs.declared.cycle.CycleWires.{CycleWires}
use Rattle.net_sched.specs.declared.visit.NodeWires.{NodeWires}

-- ---- truth values

unset : (a b c : Bool) → c ≡ false → (a || (b && c)) ≡ a
unset true b c e = refl
unset false true c e = e
unset false false c e = refl

is_set : (a b c : Bool) → c ≡ true → (a || (b && c)) ≡ (a || b)
is_set true b c e = refl
is_set false true c e = e
is_set false false c e = refl

-- ---- places of a walk

-- a walk that is at one node is at no other
elsewhere : (number other : ℕ) (at : Next) → is_at number at ≡ true → number < other → is_at other at ≡ false
elsewhere number other (next.Node to) here less = ne_eqb other to (λ e. omega (arith, e, eqb-true number to here))
elsewhere number other next.End here less = refl

same_eq : (a b : ℕ) → (a == b) ≡ ((b == a) || false)
same_eq a b = chosen (cases_eq a b)
  where
    chosen : (a ≡ b) ⊎ (a ≡ b → ⊥) → (a == b) ≡ ((b == a) || false)
    chosen (inl e) = eq-eqb a b e ∙ sym (ap (λ (c : Bool). c || false) (eq-eqb b a (sym e)))
    chosen (inr ne) = ne_eqb a b ne ∙ sym (ap (λ (c : Bool). c || false) (ne_eqb b a (λ e. ne (sym e))))

-- a continuation is within its nodes
pub is_within : (nodes number : ℕ) (at : Next) → IsContinuation nodes number at → IsWithin nodes at
is_within nodes number (next.Node to) inside = inside.1
is_within nodes number next.End inside = tt

-- a rule that fires is among those that fired
one_more : (fired : List ℕ) (rule other : ℕ) → (is_among fired other || (other == rule)) ≡ is_among (fired ++ rule ∷ []) other
one_more fired rule other =
    ap (λ (b : Bool). is_among fired other || b) (same_eq other rule) ∙ sym (list_any-append (λ (n : ℕ). n == other) fired (rule ∷ []))

module _ (widths : List ℕ) (nodes rules : ℕ) (values regs : List BitVector) (old new : CycleWires) (number : ℕ) (node : Node) (walk : Walk PortState) (visit : NodeWires) (between : List ℕ)
    (start : new.ports.start ≡ old.ports.start) (log : new.ports.log ≡ visit.log)
    (yes : (n : ℕ) → n < nodes → is_up values (nth between n) ≡ (is_up values (nth old.visited n) || (is_at n node.yes && is_up values visit.fires)))
    (no : (n : ℕ) → n < nodes → is_up values (nth new.visited n) ≡ (is_up values (nth between n) || (is_at n node.no && is_up values visit.fails)))
    (marks : (n : ℕ) → n < rules → is_up values (nth new.fired n) ≡ (is_up values (nth old.fired n) || ((n == node.rule) && is_up values visit.fires)))
    (stands : CycleStandsFor widths nodes rules values regs old number walk) where
  abbrev pub Stands : Walk PortState → Type 0
  Stands w = CycleStandsFor widths nodes rules values regs new (number + 1) w

  abbrev Up : ℕ → Bool
  Up wire = is_up values wire

  ports_behind : (events : List Event) → LogStandsFor widths values visit.log events → PortsStandFor widths values new.ports events regs
  ports_behind events l = record {
    start = λ register within. ap (λ (ws : List ℕ). value_at values (nth ws register)) start ∙ stands.ports.start register within;
    log = subst (λ (w : LogWires). LogStandsFor widths values w events) (sym log) l;
  }

  on_yes : is_up values visit.fires ≡ true → (n : ℕ) → n < nodes → Up (nth between n) ≡ (Up (nth old.visited n) || is_at n node.yes)
  on_yes on n within = yes n within ∙ is_set (Up (nth old.visited n)) (is_at n node.yes) (Up visit.fires) on

  not_yes : is_up values visit.fires ≡ false → (n : ℕ) → n < nodes → Up (nth between n) ≡ Up (nth old.visited n)
  not_yes off n within = yes n within ∙ unset (Up (nth old.visited n)) (is_at n node.yes) (Up visit.fires) off

  on_no : is_up values visit.fails ≡ true → (n : ℕ) → n < nodes → Up (nth new.visited n) ≡ (Up (nth between n) || is_at n node.no)
  on_no on n within = no n within ∙ is_set (Up (nth between n)) (is_at n node.no) (Up visit.fails) on

  not_no : is_up values visit.fails ≡ false → (n : ℕ) → n < nodes → Up (nth new.visited n) ≡ Up (nth between n)
  not_no off n within = no n within ∙ unset (Up (nth between n)) (is_at n node.no) (Up visit.fails) off

  not_marked : is_up values visit.fires ≡ false → (n : ℕ) → n < rules → Up (nth new.fired n) ≡ is_among walk.state.fired n
  not_marked off n within = marks n within ∙ unset (Up (nth old.fired n)) (n == node.rule) (Up visit.fires) off ∙ stands.fired n within

  behind : is_at number walk.at ≡ true → (n : ℕ) → number + 1 ≤ n → n < nodes → Up (nth old.visited n) ≡ false
  behind here n later within = stands.visited n (omega (arith, later)) within ∙ elsewhere number n walk.at here (omega (arith, later))

  module _ (events : List Event) where
    pub gone : (here : Bool) (ending : Ending BitVector Stopped) → is_at number walk.at ≡ here → IsVisit widths values visit here walk.state (merge walk.state node.rule events ending)
        → Stands (if here then goes_on node walk.state (merge walk.state node.rule events ending) else walk)
    gone false ending here (f, g, l) = record {
      ports = ports_behind walk.state.log l;
      visited = λ n later within. not_no g n within ∙ not_yes f n within ∙ stands.visited n (omega (arith, later)) within;
      fired = λ n within. not_marked f n within;
    }
    gone true (Value value) here (f, g, l) = record {
      ports = ports_behind (walk.state.log ++ events) l;
      visited = λ n later within. not_no g n within ∙ on_yes f n within ∙ ap (λ (b : Bool). b || is_at n node.yes) (behind here n later within);
      fired = λ n within.
          marks n within ∙ is_set (Up (nth old.fired n)) (n == node.rule) (Up visit.fires) f ∙ ap (λ (b : Bool). b || (n == node.rule)) (stands.fired n within)
          ∙ one_more walk.state.fired node.rule n;
    }
    gone true (Stop cause) here (f, g, l) = record {
      ports = ports_behind walk.state.log l;
      visited = λ n later within. on_no g n within ∙ ap (λ (b : Bool). b || is_at n node.no) (not_yes f n within ∙ behind here n later within);
      fired = λ n within. not_marked f n within;
    }

-- the walk past one node more
pub walk_past_more : (fire : Firing PortState) (first : ℕ) (nodes : List Node) (node : Node) (walk : Walk PortState)
    → walk_past fire first (nodes ++ node ∷ []) walk ≡ pass fire (first + length nodes) node (walk_past fire first nodes walk)
walk_past_more fire first [] node walk = ap (λ (n : ℕ). pass fire n node walk) (omega arith)
walk_past_more fire first (one ∷ nodes) node walk =
    walk_past_more fire (first + 1) nodes node (pass fire first one walk)
    ∙ ap (λ (n : ℕ). pass fire n node (walk_past fire (first + 1) nodes (pass fire first one walk))) (omega arith)

pub walk_past_next : (fire : Firing PortState) (nodes items : List Node) (number : ℕ) (d : Node) (walk : Walk PortState) → items ≡ nodes → number < length nodes
    → walk_past fire 0 (take (number + 1) nodes) walk ≡ pass fire number (slice_index_or items number d) (walk_past fire 0 (take number nodes) walk)
walk_past_next fire nodes items number d walk same within =
    let count : 0 + length (take number nodes) ≡ number = omega (arith, length-take-le number nodes (omega (arith, within))) in
    ap (λ (ns : List Node). walk_past fire 0 ns walk) (take_more nodes number d within)
    ∙ walk_past_more fire 0 (take number nodes) (slice_index_or nodes number d) walk
    ∙ ap₂ (λ (n : ℕ) (node : Node). pass fire n node (walk_past fire 0 (take number nodes) walk)) count (ap (λ (ns : List Node). slice_index_or ns number d) (sym same))
