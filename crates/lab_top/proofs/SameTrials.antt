-- Systems whose rules do the same alone have the same trials.
use Rattle.std.proofs.Common.{◌≡◌, ℕ, ◌+◌, Bool, true, false, List, [], ◌∷◌, ◌++◌, Option, Some, None, refl, ap, subst, ◌∙◌}
use Rattle.std.specs.Prelude.{if◌then◌else◌}
use Rattle.std.proofs.lemmas.Option.{none-some}
use Rattle.kw_bits.specs.BitVector.{BitVector}
use Rattle.typed_core.specs.Widths.{HaveWidths}
use Rattle.typed_core.specs.declared.design.Node.{Node}
use Rattle.typed_core.specs.declared.outcome.Alone.{Alone}
use Rattle.typed_core.proofs.Events.{after_fits}
use Rattle.one_rule.specs.Cycle.{System, begin, fire, fires, join}
use Rattle.one_rule.specs.Laws.{DoTheSameAlone}
use Rattle.one_rule.specs.Walk.{Walk, goes_on, pass, start}
use Rattle.typed_core.specs.Continuations.{is_at}
use Rattle.one_rule.specs.declared.cycle.State.{State}
use Rattle.one_rule.proofs.WalkLaws.{walk_past_keeps}
use Rattle.lab_core.specs.Trials.{trial_at, trial_of, trials, trials_past, unclashed, verdict_of}
use Rattle.lab_core.specs.declared.trial.Trial.{Trial}

module _ (widths registers : List ℕ) (a b : System) (same : DoTheSameAlone widths registers a b) (inputs : List BitVector) (wide : HaveWidths widths inputs) where
  abbrev Fits : State → Type 0
  Fits s = HaveWidths registers s.regs

  abbrev run_in : ℕ → State → Alone
  run_in rule s = a.alone rule inputs s.regs

  alone-same : (rule : ℕ) (s : State) → Fits s → run_in rule s ≡ b.alone rule inputs s.regs
  alone-same rule s fits = same.alone rule inputs s.regs wide fits

  -- what a rule makes of a state
  fire-same : (rule : ℕ) (s : State) → Fits s → fire a inputs rule s ≡ fire b inputs rule s
  fire-same rule s fits =
      ap (λ (run : Alone). let made : Option State = if fires s.past run then Some (join s rule run.events) else None in made) (alone-same rule s fits)

  trial-same : (rule : ℕ) (s : State) → Fits s → trial_of a inputs rule s ≡ trial_of b inputs rule s
  trial-same rule s fits =
      ap (λ (run : Alone). let tried : Trial = record { rule = rule; verdict = verdict_of s.past run; events = unclashed s.past run.events } in tried) (alone-same rule s fits)

  -- the state that it makes has registers of the same widths
  made-fits : (does : Bool) (rule : ℕ) (s s' : State) → Fits s → (if does then Some (join s rule (run_in rule s).events) else None) ≡ Some s' → Fits s'
  made-fits true rule s s' fits e =
      let is : join s rule (run_in rule s).events ≡ s' = cc in
      subst Fits is (after_fits registers (run_in rule s).events s.regs (same.events rule inputs s.regs wide fits) fits)
  made-fits false rule s s' fits e = absurd (none-some s' e)

  fire-fits : (rule : ℕ) (s s' : State) → Fits s → fire a inputs rule s ≡ Some s' → Fits s'
  fire-fits rule s s' fits e = made-fits (fires s.past (run_in rule s)) rule s s' fits e

  pass-fits : (number : ℕ) (node : Node) (w : Walk State) → Fits w.state → Fits (pass (fire a inputs) number node w).state
  pass-fits number node w fits = walk_past_keeps Fits (fire a inputs) fire-fits number (node ∷ []) w fits

  pass-same : (number : ℕ) (node : Node) (w : Walk State) → Fits w.state → pass (fire a inputs) number node w ≡ pass (fire b inputs) number node w
  pass-same number node w fits =
      ap (λ (made : Option State). let next : Walk State = if is_at number w.at then goes_on node w.state made else w in next) (fire-same node.rule w.state fits)

  past-same : (number : ℕ) (nodes : List Node) (w : Walk State) → Fits w.state → trials_past a inputs number nodes w ≡ trials_past b inputs number nodes w
  past-same number [] w fits = refl
  past-same number (node ∷ nodes) w fits =
      let next : Walk State = pass (fire a inputs) number node w in
      ap (λ (tried : Trial). let here : List Trial = if is_at number w.at then tried ∷ [] else [] in here ++ trials_past a inputs (number + 1) nodes next) (trial-same node.rule w.state fits)
      ∙ ap (λ (later : List Trial). trial_at b inputs number node w ++ later)
      (past-same (number + 1) nodes next (pass-fits number node w fits) ∙ ap (trials_past b inputs (number + 1) nodes) (pass-same number node w fits))

  -- they have the same trials on registers of the widths
  pub same-trials : (regs : List BitVector) → HaveWidths registers regs → trials a inputs regs ≡ trials b inputs regs
  same-trials regs fits =
      past-same 0 a.nodes (start a.nodes (begin regs)) fits
      ∙ ap (λ (nodes : List Node). trials_past b inputs 0 nodes (start nodes (begin regs))) same.nodes
