-- The notes of a design are complete, and the rules that are said to never fire don't.
use Rattle.std.proofs.Common.{◌≡◌, ℕ, zero, suc, ◌<◌, Bool, true, false, List, [], ◌∷◌, length, Option, Some, None, refl, sym, ap, subst, ◌∙◌, eq-eqb, arith}
use Rattle.std.specs.Prelude.{Contains, ◌==◌, ◌||◌, slice_get}
use Rattle.std.specs.List.{filter}
use Rattle.std.proofs.lemmas.Option.{slice_get_within}
use Rattle.kw_bits.specs.BitVector.{BitVector}
use Rattle.typed_core.specs.Widths as core
use Rattle.typed_core.specs.Widths.{HaveWidths}
use Rattle.typed_core.specs.declared.access.Access.{Access}
use Rattle.typed_core.specs.declared.design.Node.{Node}
use Rattle.typed_core.specs.declared.design.Parts.{Parts}
use Rattle.one_rule.specs.Cycle as core_cycle
use Rattle.one_rule.specs.Laws.{Tries}
use Rattle.one_rule.specs.Stimulus.{inputs_of}
use Rattle.one_rule.specs.declared.rows.Row.{Row}
use Rattle.circuit_eval.specs.declared.circuit.Wires.{Wires}
use Rattle.koika_check.specs.declared.checked.Checked.{Checked}
use Rattle.koika_check.specs.declared.checked.CheckedRule.{CheckedRule}
use Rattle.koika_lower.specs.Lowering.{register_widths, typed_input_widths}
use Rattle.front_end.specs.Circuits.{IsWiredAs}
use Rattle.front_end.specs.Systems.{system_of}
use Rattle.front_end.proofs.LoweredRuns.{inputs-wide, registers-wide, same-alone}
use Rattle.lab_core.specs.Numbers.{is_unwatched, verdict_in}
use Rattle.lab_core.specs.Trials.{trials}
use Rattle.lab_core.specs.declared.trial.Trial.{Trial}
use Rattle.lab_lint.specs.Laws.{IsDesignOf}
use Rattle.lab_lint.specs.Occurrences.{body_if, nothing, rule_part}
use Rattle.lab_lint.specs.Order.{IsOrder, Order, is_scheduled}
use Rattle.lab_lint.specs.Refusals.{accesses_of, clashed, clashing, made, occurs_in, own_writes}
use Rattle.lab_lint.specs.Rules.{may_be_refused}
use Rattle.lab_lint.proofs.Trials.{trial-listed}
use Rattle.lab_lint.proofs.Watched.{others_are_watched}
use Rattle.lint_text.specs.Never.{AreNeverOne}
use Rattle.lint_text.specs.Notes.{notes}
use Rattle.lint_text.specs.declared.note.Note.{Note}
use Rattle.lint_text.proofs.Noted.{clash-noted, own-noted, refused-noted, untried-noted}
use Rattle.lint_text.proofs.Marked.{or-true}
use Rattle.lab_top.specs.Lint.{AreComplete, ClashesAreNoted, IsTrialIn, OthersAreWatched, OwnsAreNoted}
use Rattle.lab_top.specs.Runs.{trials_in}
use Rattle.lab_top.specs.inner.Lint.{NeverFire}
use Rattle.lab_top.proofs.LabRuns.{stimulus-fit, stimulus-wide, trials-same}
use Rattle.lab_top.proofs.SameTrials.{same-trials}

-- ---- rules that never fire

-- an output of the design's circuit that is never 1 is that of a rule that never fires
pub never-fire : (d : Checked) (c : Wires) → IsWiredAs d c → (marks : List Bool) → AreNeverOne c marks → NeverFire d marks
never-fire d c wired marks are rule marked stimulus n cycle row given at =
    are rule marked stimulus n cycle row (given.widths ∙ sym wired.input_widths) given.fits
    (ap (λ (rows : List Row). slice_get rows cycle) (wired.run stimulus n given) ∙ at)

-- ---- lists of rules that there are

nothing-made : (accesses : List Access) → filter (occurs_in nothing) accesses ≡ []
nothing-made [] = refl
nothing-made (a ∷ accesses) = nothing-made accesses

-- a rule that isn't there makes no accesses
made-none : (d : Checked) (rule register : ℕ) → slice_get d.rules rule ≡ None → made d rule register ≡ []
unfolding rule_part
made-none d rule register none =
    ap (λ (r : Option CheckedRule). filter (occurs_in (body_if d r)) (accesses_of register)) none
    ∙ nothing-made (accesses_of register)

-- so a rule that has one of them in a list is there
of-made : (d : Checked) (p : Access → Bool) (rule register : ℕ) (a : Access) → Contains (filter p (made d rule register)) a → rule < length d.rules
of-made d p rule register a has = found (slice_get d.rules rule) refl
  where
    found : (r : Option CheckedRule) → slice_get d.rules rule ≡ r → rule < length d.rules
    found (Some r) at = slice_get_within d.rules rule r at
    found None none =
        let empty : Contains (filter p []) a = subst (λ (accesses : List Access). Contains (filter p accesses) a) (made-none d rule register none) has in
        absurd (omega (arith, empty.1))

-- a rule that a node tries is scheduled
tried-scheduled : (nodes : List Node) (rule number : ℕ) (node : Node) → slice_get nodes number ≡ Some node → node.rule ≡ rule → is_scheduled nodes rule ≡ true
tried-scheduled [] rule number node at is = absurd cc
tried-scheduled (n ∷ nodes) rule zero node at is =
    let same : n ≡ node = cc in
    ap (λ (b : Bool). b || is_scheduled nodes rule) (eq-eqb n.rule rule (ap (λ (x : Node). x.rule) same ∙ is))
tried-scheduled (n ∷ nodes) rule (suc number) node at is =
    let later : is_scheduled nodes rule ≡ true = tried-scheduled nodes rule number node at is in
    ap (λ (b : Bool). (n.rule == rule) || b) later ∙ or-true (n.rule == rule)

-- ---- notes

module _ (d : Checked) (order : Order) (is_never : ℕ → Bool) where
  abbrev noted : List Note
  noted = notes order is_never d

  not-true : (b : Bool) → (b ≡ true → ⊥) → b ≡ false
  not-true true h = absurd (h refl)
  not-true false h = refl

  module _ (design : Parts) (of : IsDesignOf d design) (is_order : IsOrder d.nodes order) where
    module _ (t : Trial) (is : IsTrialIn d t) where
      wide : HaveWidths (core.input_widths design) is.inputs
      wide = subst (λ (ws : List ℕ). HaveWidths ws is.inputs) (sym (inputs-wide d design of.lowered)) is.wide

      fit : HaveWidths (core.register_widths design) is.registers
      fit = subst (λ (ws : List ℕ). HaveWidths ws is.registers) (sym (registers-wide d design of.lowered)) is.fit

      tried : Contains (trials (core_cycle.system_of design) is.inputs is.registers) t
      tried =
          subst (λ (ts : List Trial). Contains ts t)
          (sym (same-trials (typed_input_widths d) (register_widths d) (core_cycle.system_of design) (system_of d) (same-alone d design of.lowered of.valid) is.inputs is.wide is.registers is.fit))
          is.tried

    owns : OwnsAreNoted d noted
    owns t a is refused =
        let listed = trial-listed d design of is.inputs (wide t is) is.registers (fit t is) t (tried t is) in
        let found = listed.own a refused in
        let there = of-made d _ t.rule a.register a found.1 in
        (own_writes d t.rule a.register, own-noted order is_never d t.rule a.register a found.0 there found.2 found.1, found.1)

    clashes : ClashesAreNoted d noted
    clashes t a e earlier is refused =
        let listed = trial-listed d design of is.inputs (wide t is) is.registers (fit t is) t (tried t is) in
        let found = listed.clash a e earlier refused in
        let tries : Tries d.nodes found.0.0 t.rule = found.0.1 in
        let scheduled = tried-scheduled d.nodes t.rule found.0.0 tries.0 tries.1 tries.2 in
        let precedes = (is_order.may_precede earlier t.rule).1 found.0 in
        let there = of-made d _ t.rule a.register a found.1 in (
          clashing d t.rule earlier a.register,
          clashed d t.rule earlier a.register,
          clash-noted order is_never d t.rule earlier a.register a scheduled precedes there found.4 found.3 found.1,
          found.1,
          found.2,
        )

    others : OthersAreWatched d noted
    others stimulus cycle rule given asserted no_refused no_untried =
        let never = not-true (may_be_refused order d rule) (λ may. no_refused (refused-noted order is_never d rule asserted may)) in
        let always = not-true (order.may_be_untried rule) (λ may. no_untried (untried-noted order is_never d rule asserted may)) in
        subst (λ (ts : List Trial). is_unwatched (verdict_in rule ts) ≡ false)
        (trials-same d design of.lowered of.valid (inputs_of stimulus) (stimulus-fit d stimulus given.widths given.fits) cycle)
        (others_are_watched d design order stimulus cycle rule of is_order (stimulus-wide d design of.lowered stimulus.widths given.widths) given.fits never always)

    pub complete : AreComplete d noted
    complete = record { owns = owns; clashes = clashes; others = others }
