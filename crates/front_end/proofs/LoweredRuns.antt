-- A typed design and what it is lowered to have the same shape and the same runs.
use Rattle.std.proofs.Common.{◌≡◌, ℕ, ◌<◌, List, [], ◌∷◌, length, map, Option, Some, None, refl, sym, ap, subst, ◌∙◌, ⊎_elim, arith}
use Rattle.std.specs.Prelude.{All, Contains, slice_get}
use Rattle.std.specs.List.{AllByRecursion}
use Rattle.std.proofs.lemmas.List.{length-map}
use Rattle.std.proofs.lemmas.List.Elements.{All-from_recursion, recursion_from_All}
use Rattle.std.proofs.lemmas.Option.{slice_get_cases, slice_get_within}
use Rattle.kw_bits.specs.BitVector.{BitVector}
use Rattle.typed_core.specs.Fits.{EventsFit}
use Rattle.typed_core.specs.Valid.{IsValid}
use Rattle.typed_core.specs.Widths as core
use Rattle.typed_core.specs.Widths.{HaveWidths}
use Rattle.kw_bits.specs.declared.host.HostSpec.{HostSpec}
use Rattle.typed_core.specs.declared.design.InputDecl.{InputDecl}
use Rattle.typed_core.specs.declared.design.Parts.{Parts}
use Rattle.typed_core.specs.declared.design.RegDecl.{RegDecl}
use Rattle.typed_core.specs.declared.design.Rule.{Rule as CoreRule}
use Rattle.one_rule.specs.Cycle as core_cycle
use Rattle.one_rule.specs.Cycle.{alone_if, environment}
use Rattle.one_rule.specs.Laws.{DoTheSameAlone}
use Rattle.one_rule.specs.Run as core_run
use Rattle.one_rule.specs.Run.{InputsByCycle, run}
use Rattle.one_rule.proofs.Alike.{same_runs}
use Rattle.one_rule.proofs.Fitting.{first_values_fit, run_fits}
use Rattle.stim_report.specs.Shapes as core_shapes
use Rattle.koika_check.specs.declared.checked.Checked.{Checked}
use Rattle.koika_check.specs.declared.checked.Host.{Host}
use Rattle.koika_check.specs.declared.checked.CheckedRule.{CheckedRule}
use Rattle.koika_lower.specs.Lowering.{IsLowered, core_input, typed_input_widths, register_of, register_widths}
use Rattle.front_end.specs.Sources.{name_of, of_register}
use Rattle.front_end.specs.Systems.{first_values, run_of, system_of, typed_alone_if}

-- a list that is mapped twice
pub twice : {X Y Z : Type 0} (f : X → Y) (g : Y → Z) (xs : List X) → map g (map f xs) ≡ map (λ x. g (f x)) xs
twice f g [] = refl
twice f g (x ∷ xs) = ap (λ zs. g (f x) ∷ zs) (twice f g xs)

-- what is within a list is there
pub not_past : {X : Type 0} (xs : List X) (k : ℕ) → slice_get xs k ≡ None → k < length xs → ⊥
not_past xs k none within =
    ⊎_elim
    (λ found. let bad : None ≡ Some found.0 = sym none ∙ found.2 in absurd cc)
    (λ past. omega (arith, within, past.0))
    (slice_get_cases xs k).1

-- what holds of the images of all holds of all
pub all-of-map : (offered : List HostSpec) (hosts : List Host) → All (λ (h : Host). Contains offered h.spec) hosts → All (Contains offered) (map (λ (h : Host). h.spec) hosts)
all-of-map offered hosts all = All-from_recursion (Contains offered) (map (λ (h : Host). h.spec) hosts) (each hosts (recursion_from_All (λ (h : Host). Contains offered h.spec) hosts all))
  where
    each : (hosts : List Host) → AllByRecursion (λ (h : Host). Contains offered h.spec) hosts → AllByRecursion (Contains offered) (map (λ (h : Host). h.spec) hosts)
    each [] all = tt
    each (h ∷ hosts) all = (all.0, each hosts all.1)

module _ (d : Checked) (design : Parts) (lowered : IsLowered d design) where
  -- ---- shapes

  pub registers-named : map of_register d.registers ≡ map core_shapes.of_register design.regs
  registers-named = sym (ap (map core_shapes.of_register) lowered.registers ∙ twice register_of core_shapes.of_register d.registers)

  pub rules-named : map name_of d.rules ≡ map core_shapes.name_of design.rules
  rules-named = sym lowered.names

  pub registers-wide : core.register_widths design ≡ register_widths d
  registers-wide = ap (map (λ (decl : RegDecl). decl.width)) lowered.registers ∙ twice register_of (λ (decl : RegDecl). decl.width) d.registers

  pub inputs-wide : core.input_widths design ≡ typed_input_widths d
  inputs-wide = ap (map (λ (decl : InputDecl). decl.width)) lowered.inputs ∙ twice core_input (λ (decl : InputDecl). decl.width) d.inputs

  pub first-same : core_run.first_values design ≡ first_values d
  first-same = ap (map (λ (decl : RegDecl). decl.first)) lowered.registers ∙ twice register_of (λ (decl : RegDecl). decl.first) d.registers

  pub rules-count : length design.rules ≡ length d.rules
  rules-count = sym (length-map design.rules (λ (c : CoreRule). c.name)) ∙ ap length lowered.names ∙ length-map d.rules (λ (r : CheckedRule). r.name)

  -- ---- rules

  module _ (rule : ℕ) (values regs : List BitVector) (wide : HaveWidths (typed_input_widths d) values) (held : HaveWidths (register_widths d) regs) where
    found-same : (o : Option CoreRule) (p : Option CheckedRule) → slice_get design.rules rule ≡ o → slice_get d.rules rule ≡ p → alone_if (environment design values) regs o ≡ typed_alone_if d values regs p
    found-same (Some c) (Some r) e h = lowered.alone rule r c h e values regs wide held
    found-same None None e h = refl
    found-same (Some c) None e h =
        absurd (not_past d.rules rule h (subst (λ n. rule < n) rules-count (slice_get_within design.rules rule c e)))
    found-same None (Some r) e h =
        absurd (not_past design.rules rule e (subst (λ n. rule < n) (sym rules-count) (slice_get_within d.rules rule r h)))

    rule-same : alone_if (environment design values) regs (slice_get design.rules rule) ≡ typed_alone_if d values regs (slice_get d.rules rule)
    rule-same = found-same (slice_get design.rules rule) (slice_get d.rules rule) refl refl

  -- ---- systems and runs

  pub same-alone : IsValid design → DoTheSameAlone (typed_input_widths d) (register_widths d) (core_cycle.system_of design) (system_of d)
  same-alone valid = record {
    rules = rules-count;
    nodes = lowered.nodes;
    alone = rule-same;
    events = λ rule values regs wide held.
        subst (λ ws. EventsFit ws ((core_cycle.system_of design).alone rule values regs).events) registers-wide
        (run_fits design valid values regs (subst (λ ws. HaveWidths ws values) (sym inputs-wide) wide) (subst (λ ws. HaveWidths ws regs) (sym registers-wide) held) rule);
  }

  -- the run of what the design is lowered to is the run of the typed design
  pub run-same : IsValid design → (inputs : InputsByCycle) → ((k : ℕ) → HaveWidths (typed_input_widths d) (inputs k)) → (cycles : ℕ) → core_run.run_of design inputs cycles ≡ run_of d inputs cycles
  run-same valid inputs fit cycles =
      same_runs (typed_input_widths d) (register_widths d) (core_cycle.system_of design) (system_of d) inputs (core_run.first_values design) 0 cycles (same-alone valid) fit
      (subst (λ ws. HaveWidths ws (core_run.first_values design)) registers-wide (first_values_fit design valid))
      ∙ ap (λ regs. run (system_of d) inputs regs 0 cycles) first-same
