-- Each refusal of each trial is in the lists.
use Rattle.std.proofs.Common.{◌≡◌, ◌⊎◌, inl, inr, ℕ, zero, suc, ◌+◌, ◌-◌, ◌<◌, Bool, true, false, List, [], ◌∷◌, ◌++◌, length, map, Option, Some, None, refl, ap, ap₂, sym, subst, ◌∙◌, eq-eqb, eqb-true, arith}
use Rattle.std.specs.Prelude.{◌==◌, Contains, IsTrue, if◌then◌else◌, slice_get, slice_index_or}
use Rattle.std.specs.List.{AllByRecursion, list_any}
use Rattle.std.proofs.lemmas.List.{length-map}
use Rattle.std.proofs.lemmas.Option.{get_or_from_slice_get, slice_get_within, slice_get-get_or}
use Rattle.kw_bits.specs.BitVector.{BitVector}
use Rattle.typed_core.specs.Alone.{alone_ports}
use Rattle.typed_core.specs.Evaluation.{Ending, Value as Reached, Stop}
use Rattle.typed_core.specs.Widths as core
use Rattle.typed_core.specs.Widths.{HaveWidths}
use Rattle.typed_core.specs.declared.access.Access.{Access}
use Rattle.typed_core.specs.declared.access.Event.{Event}
use Rattle.typed_core.specs.declared.design.InputDecl.{InputDecl}
use Rattle.typed_core.specs.declared.design.Next.{Next}
use Rattle.typed_core.specs.declared.design.Next.TheVariants as next
use Rattle.typed_core.specs.declared.design.Node.{Node}
use Rattle.typed_core.specs.declared.design.Parts.{Parts}
use Rattle.typed_core.specs.declared.design.RegDecl.{RegDecl}
use Rattle.typed_core.specs.declared.design.Rule.{Rule as CoreRule}
use Rattle.typed_core.specs.declared.outcome.Alone.{Alone}
use Rattle.typed_core.specs.declared.outcome.Outcome.{Outcome}
use Rattle.typed_core.specs.declared.outcome.Outcome.TheVariants as outcome
use Rattle.typed_core.specs.declared.outcome.Stopped.{Stopped}
use Rattle.typed_core.specs.declared.outcome.Stopped.TheVariants as stopped
use Rattle.koika_types.specs.declared.value.Value.{Value}
use Rattle.one_rule.specs.Cycle.{System, alone_if, begin, environment, fire, fires, join, system_of}
use Rattle.one_rule.specs.Walk.{Walk, goes_on, pass, start, visit}
use Rattle.typed_core.specs.Continuations.{is_at, root}
use Rattle.one_rule.specs.declared.cycle.Fired.{Fired}
use Rattle.one_rule.specs.declared.cycle.State.{State}
use Rattle.one_rule.proofs.Fitting.{fire_fits}
use Rattle.one_rule.proofs.WalkLaws.{StandFrom, StandFrom-all, StandFrom-first, StandFrom-rest}
use Rattle.attempt_log.specs.declared.cause.Cause.{Cause}
use Rattle.attempt_log.specs.declared.cause.Cause.TheVariants as cause
use Rattle.koika_check.specs.Meaning.{rule_body}
use Rattle.koika_check.specs.TypedAlone.{outcome_of, typed_alone}
use Rattle.koika_check.specs.declared.checked.Checked.{Checked}
use Rattle.koika_check.specs.declared.checked.Input.{Input}
use Rattle.koika_check.specs.declared.checked.Register.{Register}
use Rattle.koika_check.specs.declared.checked.CheckedRule.{CheckedRule}
use Rattle.koika_lower.specs.Lowering.{IsLowered, core_input, typed_input_widths, register_of, register_widths}
use Rattle.lab_core.specs.Trials.{clash_among, refused, trial_at, trial_of, trials, trials_past, verdict_of}
use Rattle.lab_core.specs.declared.trial.Trial.{Trial}
use Rattle.lab_core.specs.declared.trial.TrialVerdict.{TrialVerdict}
use Rattle.lab_core.specs.declared.trial.TrialVerdict.TheVariants as verdict
use Rattle.lab_core.proofs.Verdicts.{verdict_plain}
use Rattle.lab_lint.specs.Laws.{ClashesAreListed, IsDesignOf, MayBegin, OwnsAreListed}
use Rattle.lab_lint.specs.Occurrences.{bodies_behind, bodies_before, body_if, part_of, rule_part}
use Rattle.lab_lint.specs.Order.{Fires, GoesOn, MayHaveFired, MayPrecede, is_scheduled}
use Rattle.lab_lint.specs.Refusals.{clashed, clashing, own_writes}
use Rattle.lab_lint.proofs.Among.{Among, all-append, all-weaker, among-all, among-any}
use Rattle.lab_lint.proofs.Bodies.{bodies-all}
use Rattle.lab_lint.proofs.Clashes.{IsClash, IsOwn, clash_among-is, clash_among-other}
use Rattle.lab_lint.proofs.Does.{RefusedAfter, accesses, alone-do, occurs, pair}
use Rattle.lab_lint.proofs.Listed.{clashed-among, clashing-among, contained, own-among}
use Rattle.lab_lint.proofs.Meanings.{body-does}
use Rattle.lab_lint.proofs.Typed.{rule-right}

-- ---- the widths of a design are those of the typed one

inputs-wide : (inputs : List Input) → map (λ (x : InputDecl). x.width) (map core_input inputs) ≡ map (λ (i : Input). i.width) inputs
inputs-wide [] = refl
inputs-wide (i ∷ inputs) = ap (λ (ws : List ℕ). i.width ∷ ws) (inputs-wide inputs)

registers-wide : (registers : List Register) → map (λ (x : RegDecl). x.width) (map register_of registers) ≡ map (λ (r : Register). r.width) registers
registers-wide [] = refl
registers-wide (r ∷ registers) = ap (λ (ws : List ℕ). r.width ∷ ws) (registers-wide registers)

-- ---- what a rule does alone

-- its events are of accesses that occur, and its own refusals are in its lists
record IsRun (d : Checked) (rule : ℕ) (run : Alone) : Type 0 where
  events : AllByRecursion (λ (e : Event). Among (occurs e.access) (rule_part d rule).all) run.events
  own : (a : Access) → run.outcome ≡ outcome.OwnClash a → Contains (own_writes d rule a.register) a × (a.register < length d.registers)

refused-by : (x : Ending (Option Value) Stopped) (a : Access) → outcome_of x ≡ outcome.OwnClash a → x ≡ Stop (stopped.Refused a)
refused-by (Reached v) a h = absurd cc
refused-by (Stop stopped.Abort) a h = absurd cc
refused-by (Stop (stopped.Refused b)) a h = let same : b ≡ a = cc in ap (λ (c : Access). Stop (stopped.Refused c)) same

module _ (d : Checked) (design : Parts) (of : IsDesignOf d design) (inputs : List BitVector) (wide : HaveWidths (core.input_widths design) inputs) where
  abbrev system : System
  system = system_of design

  typed-inputs : HaveWidths (typed_input_widths d) inputs
  typed-inputs = subst (λ (ws : List ℕ). HaveWidths ws inputs) (ap (λ (xs : List InputDecl). map (λ (x : InputDecl). x.width) xs) of.lowered.inputs ∙ inputs-wide d.inputs) wide

  typed-registers : (regs : List BitVector) → HaveWidths (core.register_widths design) regs → HaveWidths (register_widths d) regs
  typed-registers regs fit = subst (λ (ws : List ℕ). HaveWidths ws regs) (ap (λ (xs : List RegDecl). map (λ (x : RegDecl). x.width) xs) of.lowered.registers ∙ registers-wide d.registers) fit

  part-is : (rule : ℕ) (r : CheckedRule) → slice_get d.rules rule ≡ Some r → rule_part d rule ≡ part_of (bodies_behind [] d.functions) r.body
  unfolding rule_part
  part-is rule r at = ap (body_if d) at ∙ ap (λ ps. part_of ps r.body) (bodies-all d)

  -- a rule of the typed design, of which the core's is the same
  run-typed : (rule : ℕ) (r : CheckedRule) (regs : List BitVector) → HaveWidths (core.register_widths design) regs → slice_get d.rules rule ≡ Some r → system.alone rule inputs regs ≡ typed_alone d inputs regs r.body → IsRun d rule (system.alone rule inputs regs)
  run-typed rule r regs fit at same =
      let p = part_of (bodies_behind [] d.functions) r.body in
      let is : rule_part d rule ≡ p = part-is rule r at in
      let end = rule_body d inputs (alone_ports regs) r.body [] in
      let does = body-does d inputs (alone_ports regs) r.body (alone-do regs) [] in
      let named = subst (λ (es : List Event). AllByRecursion (λ (e : Event). Among (occurs e.access) p.all) es) (sym does.are ∙ sym (ap (λ (x : Alone). x.events) same)) does.occur in
      record {
        events = subst (λ q. AllByRecursion (λ (e : Event). Among (occurs e.access) q.all) (system.alone rule inputs regs).events) (sym is) named;
        own = λ a h. owned a (does.refused a (refused-by end.ending a (sym (ap (λ (x : Alone). x.outcome) same) ∙ h)));
      }
    where
      owned : (a : Access) → Among (occurs a) (part_of (bodies_behind [] d.functions) r.body).all × RefusedAfter (part_of (bodies_behind [] d.functions) r.body) [] a → Contains (own_writes d rule a.register) a × (a.register < length d.registers)
      owned a (o, ref) =
          let o' : Among (occurs a) (rule_part d rule).all = subst (λ q. Among (occurs a) q.all) (sym (part-is rule r at)) o in
          let right = (rule-right d of.typed rule (occurs a) o').0 in
          elim ref.earlier [
            | inl h ↦ absurd h
            | inr h ↦ (own-among d rule a ref.access right.0 ref.is_write o' (subst (λ q. Among (pair ref.access a) q.pairs) (sym (part-is rule r at)) h) ref.clash, right.1)
          ]

  typed-rule : (rule : ℕ) (c : CoreRule) → slice_get design.rules rule ≡ Some c → (r : CheckedRule) × (slice_get d.rules rule ≡ Some r)
  typed-rule rule c at =
      let count : length design.rules ≡ length d.rules =
      sym (length-map design.rules (λ (x : CoreRule). x.name)) ∙ ap (λ (ns : List (List ℕ)). length ns) of.lowered.names ∙ length-map d.rules (λ (x : CheckedRule). x.name) in
      found d.rules rule (omega (arith, slice_get_within design.rules rule c at, count))
    where
      found : (rs : List CheckedRule) (k : ℕ) → k < length rs → (r : CheckedRule) × (slice_get rs k ≡ Some r)
      found [] k h = absurd (omega (arith, h))
      found (r ∷ rs) zero h = (r, refl)
      found (r ∷ rs) (suc k) h = found rs k (omega (arith, h))

  run-is : (rule : ℕ) (regs : List BitVector) → HaveWidths (core.register_widths design) regs → IsRun d rule (system.alone rule inputs regs)
  run-is rule regs fit = chosen (slice_get design.rules rule) refl
    where
      chosen : (o : Option CoreRule) → slice_get design.rules rule ≡ o → IsRun d rule (system.alone rule inputs regs)
      chosen None at =
          subst (IsRun d rule) (sym (ap (alone_if (environment design inputs) regs) at)) (record { events = tt; own = λ a h. absurd cc })
      chosen (Some c) at =
          let r = typed-rule rule c at in
          run-typed rule r.0 regs fit r.1 (ap (alone_if (environment design inputs) regs) at ∙ of.lowered.alone rule r.0 c r.1 at inputs regs typed-inputs (typed-registers regs fit))

  -- ---- the walk

  -- a rule that fired made these accesses
  abbrev IsPast : Fired → Type 0
  IsPast f = AllByRecursion (λ (e : Event). Among (occurs e.access) (rule_part d f.rule).all) f.events

  -- and may have fired before the scheduler comes here
  abbrev MayBeAt : Fired → Next → Type 0
  MayBeAt f (next.Node to) = MayHaveFired d.nodes f.rule to
  MayBeAt f next.End = Unit {0}

  record Walked (w : Walk State) : Type 0 where
    registers : HaveWidths (core.register_widths design) w.state.regs
    past : AllByRecursion IsPast w.state.past
    before : AllByRecursion (λ f. MayBeAt f w.at) w.state.past

  -- what a trial's refusal is in the lists of
  pub record IsListed (t : Trial) : Type 0 where
    pub own : (a : Access) → t.verdict ≡ verdict.Refused (cause.OwnClash a) → IsTrue (is_scheduled d.nodes t.rule) × Contains (own_writes d t.rule a.register) a × (a.register < length d.registers)
    pub clash : (a e : Access) (earlier : ℕ) → t.verdict ≡ verdict.Refused (cause.Clash a earlier e) →
        MayPrecede d.nodes earlier t.rule × Contains (clashing d t.rule earlier a.register) a × Contains (clashed d t.rule earlier a.register) e × (a.register < length d.registers) × (earlier < length d.rules)

  goes-to : (number : ℕ) (node : Node) (f : Fired) (to : Next) → slice_get d.nodes number ≡ Some node → (node.yes ≡ to) ⊎ (node.no ≡ to) → MayHaveFired d.nodes f.rule number → MayBeAt f to
  goes-to number node f (next.Node to) at side h = GoesOn number to h (node, at, side)
  goes-to number node f next.End at side h = tt

  fired-to : (number : ℕ) (node : Node) (f : Fired) (to : Next) → slice_get d.nodes number ≡ Some node → node.rule ≡ f.rule → node.yes ≡ to → MayBeAt f to
  fired-to number node f (next.Node to) at same goes = Fires number to node at same goes
  fired-to number node f next.End at same goes = tt

  here-at : (number : ℕ) (at : Next) (past : List Fired) → is_at number at ≡ true → AllByRecursion (λ f. MayBeAt f at) past → AllByRecursion (λ (f : Fired). MayHaveFired d.nodes f.rule number) past
  here-at number (next.Node to) past h all = subst (λ k. AllByRecursion (λ (f : Fired). MayHaveFired d.nodes f.rule k) past) (sym (eqb-true number to h)) all
  here-at number next.End past h all = absurd cc

  module _ (number : ℕ) (node : Node) (w : Walk State) (at : slice_get d.nodes number ≡ Some node) (walked : Walked w) (here : is_at number w.at ≡ true) where
    before : AllByRecursion (λ (f : Fired). MayHaveFired d.nodes f.rule number) w.state.past
    before = here-at number w.at w.state.past here walked.before

    abbrev run : Alone
    run = system.alone node.rule inputs w.state.regs

    is-run : IsRun d node.rule (system.alone node.rule inputs w.state.regs)
    is-run = run-is node.rule w.state.regs walked.registers

    visited : Walked (visit (fire system inputs) node w)
    visited = chosen (fires w.state.past (system.alone node.rule inputs w.state.regs)) refl
      where
        chosen : (b : Bool) → fires w.state.past (system.alone node.rule inputs w.state.regs) ≡ b →
            Walked (goes_on node w.state (if b then Some (join w.state node.rule (system.alone node.rule inputs w.state.regs).events) else None))
        chosen true h = record {
          registers = fire_fits design of.valid inputs wide node.rule w.state (join w.state node.rule (system.alone node.rule inputs w.state.regs).events) walked.registers
              (ap (λ (b : Bool). if b then Some (join w.state node.rule (system.alone node.rule inputs w.state.regs).events) else None) h);
          past = all-append IsPast w.state.past (record { rule = node.rule; events = (system.alone node.rule inputs w.state.regs).events } ∷ []) walked.past (is-run.events, tt);
          before = all-append (λ x. MayBeAt x node.yes) w.state.past (record { rule = node.rule; events = (system.alone node.rule inputs w.state.regs).events } ∷ [])
              (all-weaker (λ (x : Fired). MayHaveFired d.nodes x.rule number) (λ x. MayBeAt x node.yes) w.state.past (λ x m. goes-to number node x node.yes at (inl refl) m) before)
              (fired-to number node (record { rule = node.rule; events = (system.alone node.rule inputs w.state.regs).events }) node.yes at refl refl, tt);
        }
        chosen false h = record {
          registers = walked.registers;
          past = walked.past;
          before = all-weaker (λ (x : Fired). MayHaveFired d.nodes x.rule number) (λ x. MayBeAt x node.no) w.state.past (λ x m. goes-to number node x node.no at (inr refl) m) before;
        }

    scheduled : IsTrue (is_scheduled d.nodes node.rule)
    scheduled = among-any (λ (n : Node). n.rule == node.rule) node d.nodes (node-among d.nodes number at) (eq-eqb node.rule node.rule refl)
      where
        node-among : (ns : List Node) (k : ℕ) → slice_get ns k ≡ Some node → Among node ns
        node-among [] k e = absurd cc
        node-among (n ∷ ns) zero e = let same : n ≡ node = cc in inl (sym same)
        node-among (n ∷ ns) (suc k) e = inr (node-among ns k e)

    plain : verdict_of w.state.past run ≡ refused (clash_among w.state.past run.events) run.outcome
    plain = verdict_plain w.state.past run

    own-refused : (a : Access) (c : Option Cause) (o : Outcome) → ((x : Cause) → c ≡ Some x → IsOwn x → ⊥) → refused c o ≡ verdict.Refused (cause.OwnClash a) → o ≡ outcome.OwnClash a
    own-refused a (Some found) o other h = let same : found ≡ cause.OwnClash a = cc in absurd (other found refl (subst IsOwn (sym same) tt))
    own-refused a None outcome.Abort other h = absurd cc
    own-refused a None outcome.Done other h = absurd cc
    own-refused a None (outcome.OwnClash b) other h = let same : b ≡ a = cc in ap (λ (x : Access). outcome.OwnClash x) same

    clash-refused : (a e : Access) (earlier : ℕ) (c : Option Cause) (o : Outcome) → refused c o ≡ verdict.Refused (cause.Clash a earlier e) → c ≡ Some (cause.Clash a earlier e)
    clash-refused a e earlier (Some found) o h = let same : found ≡ cause.Clash a earlier e = cc in ap (λ (x : Cause). Some x) same
    clash-refused a e earlier None outcome.Abort h = absurd cc
    clash-refused a e earlier None outcome.Done h = absurd cc
    clash-refused a e earlier None (outcome.OwnClash b) h = absurd cc

    access-of : (P : Access → Type 0) (es : List Event) (a : Access) → AllByRecursion (λ (e : Event). P e.access) es → Among a (accesses es) → P a
    access-of P [] a all h = absurd h
    access-of P (e ∷ es) a all (inl same) = subst P (sym same) all.0
    access-of P (e ∷ es) a all (inr h) = access-of P es a all.1 h

    listed : IsListed (trial_of system inputs node.rule w.state)
    listed = record {
      own = λ a h. let found = is-run.own a (own-refused a (clash_among w.state.past run.events) run.outcome (λ x is own. clash_among-other w.state.past run.events x own is) (sym plain ∙ h)) in (scheduled, found.0, found.1);
      clash = λ a e earlier h. of-clash a e earlier (clash_among-is w.state.past run.events a earlier e (clash-refused a e earlier (clash_among w.state.past run.events) run.outcome (sym plain ∙ h)));
    }
      where
        of-clash : (a e : Access) (earlier : ℕ) → IsClash w.state.past run.events a earlier e →
            MayPrecede d.nodes earlier node.rule × Contains (clashing d node.rule earlier a.register) a × Contains (clashed d node.rule earlier a.register) e × (a.register < length d.registers) × (earlier < length d.rules)
        of-clash a e earlier c =
            let mine = access-of (λ (x : Access). Among (occurs x) (rule_part d node.rule).all) run.events a is-run.events c.access in
            let past = among-all IsPast c.fired w.state.past walked.past c.among in
            let its = access-of (λ (x : Access). Among (occurs x) (rule_part d c.fired.rule).all) c.fired.events e past c.earlier in
            let other : Among (occurs e) (rule_part d earlier).all = subst (λ q. Among (occurs e) (rule_part d q).all) c.is_rule its in
            let a_right = (rule-right d of.typed node.rule (occurs a) mine).0 in
            let e_right = rule-right d of.typed earlier (occurs e) other in
            let fired : MayHaveFired d.nodes earlier number = subst (λ q. MayHaveFired d.nodes q number) c.is_rule (among-all (λ (x : Fired). MayHaveFired d.nodes x.rule number) c.fired w.state.past before c.among) in (
              (number, (node, at, refl), fired),
              clashing-among d node.rule earlier a e a_right.0 e_right.0.0 mine other c.clash,
              clashed-among d node.rule earlier a e a_right.0 e_right.0.0 mine other c.clash,
              a_right.1,
              e_right.1,
            )

  passed : (number : ℕ) (node : Node) (w : Walk State) → slice_get d.nodes number ≡ Some node → Walked w → Walked (pass (fire system inputs) number node w)
  passed number node w at walked = chosen (is_at number w.at) refl
    where
      chosen : (b : Bool) → is_at number w.at ≡ b → Walked (if b then visit (fire system inputs) node w else w)
      chosen true h = visited number node w at walked h
      chosen false h = walked

  tried : (number : ℕ) (node : Node) (w : Walk State) → slice_get d.nodes number ≡ Some node → Walked w → AllByRecursion IsListed (trial_at system inputs number node w)
  tried number node w at walked = chosen (is_at number w.at) refl
    where
      chosen : (b : Bool) → is_at number w.at ≡ b → AllByRecursion IsListed (if b then trial_of system inputs node.rule w.state ∷ [] else [])
      chosen true h = (listed number node w at walked h, tt)
      chosen false h = tt

  all-tried : (number : ℕ) (rest : List Node) (w : Walk State) → StandFrom d.nodes number rest → Walked w → AllByRecursion IsListed (trials_past system inputs number rest w)
  all-tried number [] w stand walked = tt
  all-tried number (node ∷ rest) w stand walked =
      all-append IsListed (trial_at system inputs number node w) (trials_past system inputs (number + 1) rest (pass (fire system inputs) number node w))
      (tried number node w (StandFrom-first d.nodes number node rest stand) walked)
      (all-tried (number + 1) rest (pass (fire system inputs) number node w) (StandFrom-rest d.nodes number node rest stand) (passed number node w (StandFrom-first d.nodes number node rest stand) walked))

  pub trial-listed : (regs : List BitVector) → HaveWidths (core.register_widths design) regs → (t : Trial) → Contains (trials system inputs regs) t → IsListed t
  trial-listed regs fit t has =
      let w : Walk State = start design.nodes (begin regs) in
      among-all IsListed t (trials system inputs regs)
      (all-tried 0 design.nodes w (subst (λ (ns : List Node). StandFrom d.nodes 0 ns) (sym of.lowered.nodes) (StandFrom-all d.nodes)) (record { registers = fit; past = tt; before = tt }))
      (contained t (trials system inputs regs) has)

pub owns_are_listed : OwnsAreListed
owns_are_listed d design inputs regs t a of may has is = let found = (trial-listed d design of inputs may.inputs regs may.registers t has).own a is in (found.0, found.1)

pub clashes_are_listed : ClashesAreListed
clashes_are_listed d design inputs regs t a e earlier of may has is =
    let found = (trial-listed d design of inputs may.inputs regs may.registers t has).clash a e earlier is in
    (found.0, found.1, found.2)
