-- Systems whose rules do the same have the same cycles and runs.
use Rattle.std.proofs.Common.{◌≡◌, ℕ, zero, suc, ◌+◌, ◌-◌, Bool, true, false, List, [], ◌∷◌, length, Option, Some, None, refl, ap, ap₂, ◌∙◌, subst}
use Rattle.std.specs.Prelude.{slice_get, if◌then◌else◌}
use Rattle.kw_bits.specs.BitVector.{BitVector}
use Rattle.typed_core.specs.Alone.{after, alone_ports, outcome_of}
use Rattle.typed_core.specs.Evaluation.{Environment, Progress}
use Rattle.typed_core.specs.Same.{SameDesign, SameRules}
use Rattle.typed_core.specs.Widths.{HaveWidths}
use Rattle.typed_core.specs.declared.access.Event.{Event}
use Rattle.typed_core.specs.declared.design.Node.{Node}
use Rattle.typed_core.specs.declared.design.Parts.{Parts}
use Rattle.typed_core.specs.declared.design.Rule.{Rule}
use Rattle.typed_core.specs.declared.outcome.Alone.{Alone}
use Rattle.typed_core.specs.declared.outcome.Stopped.{Stopped}
use Rattle.typed_core.proofs.Events.{after_fits}
use Rattle.typed_core.proofs.Meaning.{evaluate-same}
use Rattle.one_rule.specs.Cycle.{System, alone_if, begin, cycle, environment, fire, fires, flags, join, numbers, system_of, walk_of}
use Rattle.one_rule.specs.Laws.{DoTheSameAlone, EqualDesignsCycleAlike, EqualDesignsRunAlike, SameCycles, SameRuns}
use Rattle.one_rule.specs.Run.{InputsByCycle, opening, rows_after, run}
use Rattle.one_rule.specs.Walk.{walk_from}
use Rattle.one_rule.specs.declared.cycle.State.{State}
use Rattle.one_rule.specs.declared.rows.Row.{Row}
use Rattle.one_rule.proofs.WalkLaws.{BothFire, walks_together}

-- what a rule that does this alone makes of a state
made : State → ℕ → Alone → Option State
made state rule run = if fires state.past run then Some (join state rule run.events) else None

-- On the inputs and registers of which this holds, the rules of both systems do the same alone, and it stays so.
pub record AreAlike (I R : List BitVector → Type 0) (a b : System) : Type 0 where
  pub rules : a.rules ≡ b.rules
  pub nodes : a.nodes ≡ b.nodes
  pub alone : (rule : ℕ) (inputs regs : List BitVector) → I inputs → R regs → a.alone rule inputs regs ≡ b.alone rule inputs regs
  pub stays : (rule : ℕ) (inputs regs : List BitVector) → I inputs → R regs → R (after (a.alone rule inputs regs).events regs)

module _ (I R : List BitVector → Type 0) (a b : System) (alike : AreAlike I R a b) where
  -- the states are one, and it holds of their registers
  abbrev One : State → State → Type 0
  One s t = (s ≡ t) × R s.regs

  fires_alike : (inputs : List BitVector) → I inputs → (rule : ℕ) (s t : State) → One s t → BothFire One (fire a inputs rule s) (fire b inputs rule t)
  unfolding made
  fires_alike inputs i rule s t (same, r) =
      subst (λ (u : State). BothFire One (fire a inputs rule s) (fire b inputs rule u)) same
      (subst (λ (run : Alone). BothFire One (fire a inputs rule s) (made s rule run)) (alike.alone rule inputs s.regs i r) (at_once (fires s.past (a.alone rule inputs s.regs))))
    where
      left : State
      left = join s rule (a.alone rule inputs s.regs).events

      at_once : (b : Bool) → BothFire One (if b then Some left else None) (if b then Some left else None)
      at_once true = (refl, alike.stays rule inputs s.regs i r)
      at_once false = tt

  -- they end a cycle in one state
  pub ends_alike : (inputs regs : List BitVector) → I inputs → R regs → One (walk_of a inputs regs).state (walk_of b inputs regs).state
  ends_alike inputs regs i r =
      subst (λ (nodes : List Node). One (walk_of a inputs regs).state (walk_from (fire b inputs) nodes (begin regs)).state) alike.nodes
      (walks_together One (fire a inputs) (fire b inputs) (fires_alike inputs i) a.nodes (begin regs) (begin regs) (refl, r)).states

  pub cycle_alike : (inputs regs : List BitVector) → I inputs → R regs → cycle a inputs regs ≡ cycle b inputs regs
  cycle_alike inputs regs i r =
      ap₂ (λ (end : State) (rules : ℕ). let row : Row = record { regs = end.regs; fired = flags rules (numbers end.past) } in row) (ends_alike inputs regs i r).0 alike.rules

  rows_after_alike : (inputs : InputsByCycle) → ((k : ℕ) → I (inputs k)) → (count last : ℕ) (regs : List BitVector) → R regs → rows_after a inputs count last regs ≡ rows_after b inputs count last regs
  rows_after_alike inputs i zero last regs r = refl
  rows_after_alike inputs i (suc count) last regs r =
      let now = inputs (last + 1) in
      ap (λ (row : Row). row ∷ rows_after a inputs count (last + 1) row.regs) (cycle_alike now regs (i (last + 1)) r)
      ∙ ap (λ rows. cycle b now regs ∷ rows) (
      rows_after_alike inputs i count (last + 1) (cycle b now regs).regs
      (subst R (ap (λ (row : Row). row.regs) (cycle_alike now regs (i (last + 1)) r)) (ends_alike now regs (i (last + 1)) r).1)
      )

  pub run_alike : (inputs : InputsByCycle) → ((k : ℕ) → I (inputs k)) → (regs : List BitVector) → R regs → (from to : ℕ) → run a inputs regs from to ≡ run b inputs regs from to
  run_alike inputs i regs r from to =
      ap₂ (λ (rules : ℕ) rows. opening rules regs ∷ rows) alike.rules (rows_after_alike inputs i (to - from) from regs r)

-- ---- systems on inputs and registers of given widths

of_widths : (inputs registers : List ℕ) (a b : System) → DoTheSameAlone inputs registers a b → AreAlike (HaveWidths inputs) (HaveWidths registers) a b
of_widths inputs registers a b h =
    record {
      rules = h.rules;
      nodes = h.nodes;
      alone = h.alone;
      stays = λ rule values regs i r. after_fits registers (a.alone rule values regs).events regs (h.events rule values regs i r) r;
    }

pub same_cycles : SameCycles
same_cycles inputs registers a b values regs h i r = cycle_alike (HaveWidths inputs) (HaveWidths registers) a b (of_widths inputs registers a b h) values regs i r

pub same_runs : SameRuns
same_runs inputs registers a b values regs from to h i r = run_alike (HaveWidths inputs) (HaveWidths registers) a b (of_widths inputs registers a b h) values i regs r from to

-- ---- designs that are equal by value

alone-same : (env : Environment) (regs : List BitVector) (xs ys : List Rule) (rule : ℕ) → SameRules xs ys → alone_if env regs (slice_get xs rule) ≡ alone_if env regs (slice_get ys rule)
alone-same env regs [] [] rule h = refl
alone-same env regs [] (y ∷ ys) rule h = absurd h
alone-same env regs (x ∷ xs) [] rule h = absurd h
alone-same env regs (x ∷ xs) (y ∷ ys) zero h =
    ap (λ (meaning : List BitVector → List Event → Progress BitVector Stopped). let end = meaning [] [] in let run : Alone = record { events = end.events; outcome = outcome_of end.ending } in run) (evaluate-same env (alone_ports regs) x.body y.body h.0.1)
alone-same env regs (x ∷ xs) (y ∷ ys) (suc rule) h = alone-same env regs xs ys rule h.1

pub length-same : (xs ys : List Rule) → SameRules xs ys → length xs ≡ length ys
length-same [] [] h = refl
length-same [] (y ∷ ys) h = absurd h
length-same (x ∷ xs) [] h = absurd h
length-same (x ∷ xs) (y ∷ ys) h = ap (λ n. suc n) (length-same xs ys h.1)

of_equal : (d e : Parts) → SameDesign d e → AreAlike (λ _. Unit {0}) (λ _. Unit {0}) (system_of d) (system_of e)
of_equal d e h =
    record {
      rules = length-same d.rules e.rules h.rules;
      nodes = h.nodes;
      alone = λ rule inputs regs _ _.
          alone-same (environment d inputs) regs d.rules e.rules rule h.rules
          ∙ ap₂ (λ tables hosts. alone_if (record { externs = record { tables = tables; hosts = hosts }; inputs = inputs }) regs (slice_get e.rules rule)) h.tables h.hosts;
      stays = λ rule inputs regs _ _. tt;
    }

pub equal_designs_cycle_alike : EqualDesignsCycleAlike
equal_designs_cycle_alike d e inputs regs h = cycle_alike (λ _. Unit {0}) (λ _. Unit {0}) (system_of d) (system_of e) (of_equal d e h) inputs regs tt tt

pub equal_designs_run_alike : EqualDesignsRunAlike
equal_designs_run_alike d e inputs regs from to h = run_alike (λ _. Unit {0}) (λ _. Unit {0}) (system_of d) (system_of e) (of_equal d e h) inputs (λ k. tt) regs tt from to
