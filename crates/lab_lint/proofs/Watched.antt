-- An assertion of a rule that may be neither refused nor untried is looked at in each cycle of each run.
use Rattle.std.proofs.Common.{◌≡◌, ◌≢◌, ◌⊎◌, inl, inr, ℕ, zero, suc, ◌+◌, ◌-◌, ◌<◌, ◌≤◌, Bool, true, false, cond, List, [], ◌∷◌, ◌++◌, length, map, Option, Some, None, is_some, refl, ap, ap₂, sym, subst, ◌∙◌, eq-eqb, eqb-true, nat_eq, arith}
use Rattle.std.specs.Prelude.{Contains, IsTrue, ◌&&◌, ◌==◌, ◌||◌, option_map, if◌then◌else◌, slice_get, slice_index_or}
use Rattle.std.specs.List.{find, list_any, range_with_len}
use Rattle.std.proofs.lemmas.Bool.{ne_eqb}
use Rattle.kw_bits.specs.BitVector.{BitVector}
use Rattle.typed_core.specs.Widths.{HaveWidths, input_widths, register_widths}
use Rattle.typed_core.specs.declared.access.Access.{Access}
use Rattle.typed_core.specs.declared.design.Next.{Next}
use Rattle.typed_core.specs.declared.design.Next.TheVariants as next
use Rattle.typed_core.specs.declared.design.Node.{Node}
use Rattle.typed_core.specs.declared.design.Parts.{Parts}
use Rattle.one_rule.specs.Cycle.{System, begin, fire, system_of}
use Rattle.one_rule.specs.Rows.{RowsFit}
use Rattle.one_rule.specs.Run.{first_values, last_registers, run_of}
use Rattle.one_rule.specs.Stimulus.{InputVectors, inputs_of}
use Rattle.one_rule.specs.Walk.{Walk, goes_on, pass, start, visit, walk_from, walk_past}
use Rattle.typed_core.specs.Continuations.{is_at}
use Rattle.one_rule.specs.declared.cycle.State.{State}
use Rattle.one_rule.specs.declared.rows.Row.{Row}
use Rattle.one_rule.proofs.Fitting.{first_values_fit}
use Rattle.one_rule.proofs.Runs.{runs_fit}
use Rattle.one_rule.proofs.WalkLaws.{StandFrom, StandFrom-all, StandFrom-first, StandFrom-rest, walk_ends}
use Rattle.attempt_log.specs.declared.cause.Cause.{Cause}
use Rattle.attempt_log.specs.declared.cause.Cause.TheVariants as cause
use Rattle.koika_check.specs.declared.checked.Checked.{Checked}
use Rattle.lab_core.specs.Numbers.{is_unwatched, verdict_in}
use Rattle.lab_core.specs.Runs.{registers_before, trials_in}
use Rattle.lab_core.specs.Trials.{is_tried, trial_at, trial_of, trials, trials_past}
use Rattle.lab_core.specs.declared.trial.Trial.{Trial}
use Rattle.lab_core.specs.declared.trial.TrialVerdict.{TrialVerdict}
use Rattle.lab_core.specs.declared.trial.TrialVerdict.TheVariants as verdict
use Rattle.lab_core.proofs.Tables.{tried_some}
use Rattle.lab_lint.specs.Laws.{IsDesignOf, OthersAreWatched}
use Rattle.lab_lint.specs.Occurrences.{rule_part}
use Rattle.lab_lint.specs.Order.{Begins, ComesPast, IsOrder, MayPrecede, Order, Passes, is_scheduled}
use Rattle.lab_lint.specs.Refusals.{clashed, clashing, own_writes}
use Rattle.lab_lint.specs.Rules.{has_any, may_be_clashed, may_be_refused, may_clash, may_refuse_itself, numbers}
use Rattle.lab_lint.proofs.Among.{Among, among-left, among-right}
use Rattle.lab_lint.proofs.Listed.{contained, contains}
use Rattle.lab_lint.proofs.Trials.{IsListed, trial-listed}

-- ---- a rule without a trial is passed by

module _ (system : System) (inputs : List BitVector) (rule : ℕ) where
  abbrev of_rule : Trial → Bool
  of_rule t = t.rule == rule

  or-none : (a b : Bool) → (a || b) ≡ false → (a ≡ false) × (b ≡ false)
  or-none true b h = absurd cc
  or-none false b h = (refl, h)

  none-append : (xs ys : List Trial) → list_any of_rule (xs ++ ys) ≡ false → (list_any of_rule xs ≡ false) × (list_any of_rule ys ≡ false)
  none-append [] ys h = (refl, h)
  none-append (x ∷ xs) ys h =
      let parts = or-none (of_rule x) (list_any of_rule (xs ++ ys)) h in
      let rest = none-append xs ys parts.1 in
      (ap₂ (λ a b. a || b) parts.0 rest.0, rest.1)

  went : (number : ℕ) (node : Node) (s : State) (o : Option State) → slice_get system.nodes number ≡ Some node → node.rule ≢ rule → ComesPast system.nodes rule (next.Node number) → ComesPast system.nodes rule (goes_on node s o).at
  went number node s (Some fired) at other past = Passes number node.yes node past at other (inl refl)
  went number node s None at other past = Passes number node.no node past at other (inr refl)

  at-node : (number : ℕ) (at : Next) → is_at number at ≡ true → ComesPast system.nodes rule at → ComesPast system.nodes rule (next.Node number)
  at-node number (next.Node to) h past = subst (λ k. ComesPast system.nodes rule (next.Node k)) (sym (eqb-true number to h)) past
  at-node number next.End h past = absurd cc

  passes : (number : ℕ) (node : Node) (w : Walk State) → slice_get system.nodes number ≡ Some node → ComesPast system.nodes rule w.at → list_any of_rule (trial_at system inputs number node w) ≡ false → ComesPast system.nodes rule (pass (fire system inputs) number node w).at
  passes number node w at past none = chosen (is_at number w.at) refl none
    where
      chosen : (b : Bool) → is_at number w.at ≡ b → list_any of_rule (if b then trial_of system inputs node.rule w.state ∷ [] else []) ≡ false → ComesPast system.nodes rule (if b then visit (fire system inputs) node w else w).at
      chosen true h k =
          let other : node.rule ≢ rule = λ e. let both = sym (ap (λ b. b || false) (eq-eqb node.rule rule e)) ∙ k in absurd cc in
          went number node w.state (fire system inputs node.rule w.state) at other (at-node number w.at h past)
      chosen false h k = past

  comes : (number : ℕ) (rest : List Node) (w : Walk State) → StandFrom system.nodes number rest → ComesPast system.nodes rule w.at → list_any of_rule (trials_past system inputs number rest w) ≡ false →
      ComesPast system.nodes rule (walk_past (fire system inputs) number rest w).at
  comes number [] w stand past none = past
  comes number (node ∷ rest) w stand past none =
      let parts = none-append (trial_at system inputs number node w) (trials_past system inputs (number + 1) rest (pass (fire system inputs) number node w)) none in
      comes (number + 1) rest (pass (fire system inputs) number node w) (StandFrom-rest system.nodes number node rest stand)
      (passes number node w (StandFrom-first system.nodes number node rest stand) past parts.0) parts.1

-- ---- what there is some of

pub any-of : {X : Type 0} (xs : List X) (x : X) → Contains xs x → has_any xs ≡ true
any-of [] x has = absurd (omega (arith, has.1))
any-of (y ∷ xs) x has = refl

or-right : (a b : Bool) → b ≡ true → (a || b) ≡ true
or-right true b h = refl
or-right false b h = h

some-any : (f : ℕ → Bool) (k : ℕ) (xs : List ℕ) → Among k xs → f k ≡ true → list_any f xs ≡ true
some-any f k [] among h = absurd among
some-any f k (x ∷ xs) (inl e) h = ap (λ b. b || list_any f xs) (sym (ap f e) ∙ h)
some-any f k (x ∷ xs) (inr r) h = or-right (f x) (list_any f xs) (some-any f k xs r h)

in-range : (k n from : ℕ) → k < n → Among (from + k) (range_with_len from n)
in-range k zero from h = absurd (omega (arith, h))
in-range zero (suc n) from h = inl (omega arith)
in-range (suc k) (suc n) from h = inr (subst (λ m. Among m (range_with_len (from + 1) n)) (omega arith) (in-range k n (from + 1) (omega (arith, h))))

pub numbered : {X : Type 0} (xs : List X) (k : ℕ) → k < length xs → Among k (numbers xs)
numbered xs k h = subst (λ m. Among m (numbers xs)) (omega arith) (in-range k (length xs) 0 h)

-- ---- trials

record IsTrialOf (tried : List Trial) (rule : ℕ) (v : TrialVerdict) : Type 0 where
  trial : Trial
  among : Among trial tried
  is_rule : trial.rule ≡ rule
  is_verdict : trial.verdict ≡ v

trial-in : (rule : ℕ) (tried : List Trial) (v : TrialVerdict) → verdict_in rule tried ≡ Some v → IsTrialOf tried rule v
trial-in rule [] v h = absurd cc
trial-in rule (t ∷ tried) v h = chosen (t.rule == rule) refl h (trial-in rule tried v)
  where
    chosen : (b : Bool) → (t.rule == rule) ≡ b → option_map (λ (x : Trial). x.verdict) (cond b (Some t) (find (λ (x : Trial). x.rule == rule) tried)) ≡ Some v
        → (verdict_in rule tried ≡ Some v → IsTrialOf tried rule v) → IsTrialOf (t ∷ tried) rule v
    chosen true is k rest = let same : t.verdict ≡ v = cc in record { trial = t; among = inl refl; is_rule = eqb-true t.rule rule is; is_verdict = same }
    chosen false is k rest = let it = rest k in record { trial = it.trial; among = inr it.among; is_rule = it.is_rule; is_verdict = it.is_verdict }

last-fits : (design : Parts) (regs : List BitVector) (rows : List Row) → HaveWidths (register_widths design) regs → RowsFit design rows → HaveWidths (register_widths design) (last_registers regs rows)
last-fits design regs [] fits all = fits
last-fits design regs (row ∷ rows) fits all = last-fits design row.regs rows all.0.registers all.1

module _ (d : Checked) (design : Parts) (order : Order) (of : IsDesignOf d design) (is_order : IsOrder d.nodes order) (rule : ℕ)
    (never : may_be_refused order d rule ≡ false) (always : order.may_be_untried rule ≡ false) where
  or-false : (a b : Bool) → (a || b) ≡ false → (a ≡ false) × (b ≡ false)
  or-false true b h = absurd cc
  or-false false b h = (refl, h)

  none : (may_refuse_itself d rule ≡ false) × (may_be_clashed order d rule ≡ false)
  none = or-false (may_refuse_itself d rule) (may_be_clashed order d rule) never

  -- an own refusal is counted
  no-own : (a : Access) → IsTrue (is_scheduled d.nodes rule) → a.register < length d.registers → Contains (own_writes d rule a.register) a → ⊥
  no-own a scheduled inside has =
      let f : ℕ → Bool = λ register. has_any (own_writes d rule register) in
      let some : list_any f (numbers d.registers) ≡ true =
      some-any f a.register (numbers d.registers) (numbered d.registers a.register inside) (any-of (own_writes d rule a.register) a has) in
      let shown : may_refuse_itself d rule ≡ true = ap (λ b. b && list_any f (numbers d.registers)) scheduled ∙ some in
      let both : true ≡ false = sym shown ∙ none.0 in
      cc

  -- and a clash
  no-clash : (a : Access) (earlier : ℕ) → MayPrecede d.nodes earlier rule → a.register < length d.registers → earlier < length d.rules → Contains (clashing d rule earlier a.register) a → ⊥
  no-clash a earlier precedes inside there has =
      let f : ℕ → Bool = λ register. has_any (clashing d rule earlier register) in
      let g : ℕ → Bool = λ other. order.may_precede other rule && may_clash d rule other in
      let some : may_clash d rule earlier ≡ true =
      some-any f a.register (numbers d.registers) (numbered d.registers a.register inside) (any-of (clashing d rule earlier a.register) a has) in
      let pair : g earlier ≡ true = ap (λ b. b && may_clash d rule earlier) ((is_order.may_precede earlier rule).1 precedes) ∙ some in
      let whole : may_be_clashed order d rule ≡ true = some-any g earlier (numbers d.rules) (numbered d.rules earlier there) pair in
      let both : true ≡ false = sym whole ∙ none.1 in
      cc

  module _ (inputs regs : List BitVector) (wide : HaveWidths (input_widths design) inputs) (fit : HaveWidths (register_widths design) regs) where
    abbrev tried : List Trial
    tried = trials (system_of design) inputs regs

    -- the rule is tried
    not-past : is_tried tried rule ≡ false → ⊥
    not-past h =
        let w : Walk State = start design.nodes (begin regs) in
        let past = comes (system_of design) inputs rule 0 design.nodes w (StandFrom-all design.nodes) (Begins _ refl) h in
        let ends = walk_ends (fire (system_of design) inputs) (length design.rules) design.nodes of.valid.nodes (begin regs) in
        let end = subst (ComesPast design.nodes rule) ends past in
        let end' : ComesPast d.nodes rule next.End = subst (λ (ns : List Node). ComesPast ns rule next.End) of.lowered.nodes end in
        let shown = (is_order.may_be_untried rule).1 end' in
        let both : false ≡ true = sym always ∙ shown in
        cc

    watched : (o : Option TrialVerdict) → verdict_in rule tried ≡ o → is_unwatched o ≡ false
    watched None is =
        absurd (not-past (sym (tried_some rule tried) ∙ ap (λ (o : Option TrialVerdict). is_some o) is))
    watched (Some verdict.Fired) is = refl
    watched (Some (verdict.Refused cause.Abort)) is = refl
    watched (Some (verdict.Refused (cause.OwnClash a))) is =
        let it = trial-in rule tried (verdict.Refused (cause.OwnClash a)) is in
        let listed = trial-listed d design of inputs wide regs fit it.trial (contains it.trial tried it.among) in
        let found = listed.own a it.is_verdict in
        absurd (no-own a (subst (λ r. IsTrue (is_scheduled d.nodes r)) it.is_rule found.0) found.2 (subst (λ r. Contains (own_writes d r a.register) a) it.is_rule found.1))
    watched (Some (verdict.Refused (cause.Clash a earlier e))) is =
        let it = trial-in rule tried (verdict.Refused (cause.Clash a earlier e)) is in
        let listed = trial-listed d design of inputs wide regs fit it.trial (contains it.trial tried it.among) in
        let found = listed.clash a e earlier it.is_verdict in
        absurd (no-clash a earlier (subst (λ r. MayPrecede d.nodes earlier r) it.is_rule found.0) found.3 found.4 (subst (λ r. Contains (clashing d r earlier a.register) a) it.is_rule found.1))

pub others_are_watched : OthersAreWatched
others_are_watched d design order stimulus cycle rule of is_order fits always never tried =
    let wide : (k : ℕ) → HaveWidths (input_widths design) (inputs_of stimulus k) = λ k. subst (λ (ws : List ℕ). HaveWidths ws (inputs_of stimulus k)) fits (always k) in
    let regs = registers_before design (inputs_of stimulus) cycle in
    let fit : HaveWidths (register_widths design) regs =
    last-fits design (first_values design) (run_of design (inputs_of stimulus) (cycle - 1)) (first_values_fit design of.valid)
    (runs_fit design (inputs_of stimulus) (cycle - 1) of.valid (λ k low high. wide k)) in
    watched d design order of is_order rule never tried (inputs_of stimulus cycle) regs (wide cycle) fit (verdict_in rule (trials (system_of design) (inputs_of stimulus cycle) regs)) refl
