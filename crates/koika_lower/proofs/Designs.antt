-- The design of the core that is made of a typed design's registers, inputs, tables, hosts and rules is valid, and each of its
-- rules does alone what the typed tree's rule does.
use Rattle.std.proofs.Common.{◌≡◌, ℕ, ◌≤◌, List, [], length, map, Option, None, refl, ap, ap₂, sym, subst, ◌∙◌}
use Rattle.std.proofs.Math.Seq.{take-length}
use Rattle.std.proofs.lemmas.List.{length-map}
use Rattle.std.proofs.lemmas.List.Elements.{All-map}
use Rattle.std.proofs.lemmas.Simd.{map-map}
use Rattle.std.specs.Prelude.{All}
use Rattle.kw_bits.specs.BitVector.{BitVector}
use Rattle.kw_bits.specs.Laws.{HasWidth}
use Rattle.koika_types.specs.Values.{packed}
use Rattle.koika_types.specs.declared.value.Value.{Value}
use Rattle.typed_core.specs.Alone.{alone, alone_ports, outcome_of}
use Rattle.typed_core.specs.Evaluation.{Ending, Value as Reached, Stop, Progress, Ports, evaluate}
use Rattle.typed_core.specs.Fits.{PortsFit}
use Rattle.typed_core.specs.Valid.{ActionHasWidth, AreNodes, Declarations, IsHost, IsRegister as IsCoreRegister, IsTable, IsValid, IsWidth, TriesNoneTwice, declarations, externs_of}
use Rattle.typed_core.specs.Widths.{HaveWidths}
use Rattle.kw_bits.specs.declared.host.HostSpec.{HostSpec}
use Rattle.typed_core.specs.declared.design.InputDecl.{InputDecl}
use Rattle.typed_core.specs.declared.design.Node.{Node}
use Rattle.typed_core.specs.declared.design.Parts.{Parts}
use Rattle.typed_core.specs.declared.design.RegDecl.{RegDecl}
use Rattle.typed_core.specs.declared.design.Rule.{Rule as CoreRule}
use Rattle.kw_bits.specs.declared.table.TableSpec.{TableSpec}
use Rattle.typed_core.specs.declared.outcome.Alone.{Alone}
use Rattle.typed_core.specs.declared.outcome.Outcome.{Outcome}
use Rattle.typed_core.specs.declared.outcome.Outcome.TheVariants as ends
use Rattle.typed_core.specs.declared.outcome.Stopped.{Stopped}
use Rattle.typed_core.specs.declared.outcome.Stopped.TheVariants as stopped
use Rattle.typed_core.proofs.Typed.{PortsFit-alone}
use Rattle.koika_check.specs.Meaning.{RuleSetting, bodies_behind, meaning, rule_body, setting}
use Rattle.koika_check.specs.TypedAlone.{outcome_of as typed_outcome, typed_alone}
use Rattle.koika_check.specs.Typing.{HasType, IsRegister, IsTypedDesign}
use Rattle.koika_check.specs.declared.checked.Checked.{Checked}
use Rattle.koika_check.specs.declared.checked.CheckedFunction.{CheckedFunction}
use Rattle.koika_check.specs.declared.checked.Host.{Host}
use Rattle.koika_check.specs.declared.checked.Input.{Input}
use Rattle.koika_check.specs.declared.checked.Register.{Register}
use Rattle.koika_check.specs.declared.checked.CheckedRule.{CheckedRule}
use Rattle.koika_check.specs.declared.checked.Table.{Table}
use Rattle.koika_check.specs.declared.typed.ValueType.{ValueType}
use Rattle.koika_lower.specs.Lowering.{IsLowered, ends_of, core_input, register_of, register_widths, typed_ends}
use Rattle.koika_lower.specs.inner.Rules.{AreRules, IsRule}
use Rattle.koika_lower.specs.inner.Simulation.{Alike, AreNames, EndAlike, Lowers, Stands, declared_by, environment, world}
use Rattle.koika_lower.specs.declared.lowered.Bound.{Bound}
use Rattle.koika_lower.specs.declared.lowered.Lowered.{Lowered}
use Rattle.koika_lower.proofs.Lists.{pairs-at, pairs-length, pairs-map, pairs-second}
use Rattle.koika_lower.proofs.Values.{constant-stands}

-- ---- one rule alone

-- endings alike are one outcome
same_outcome : (d : Checked) (of : Option ValueType) (x : Ending (Option Value) Stopped) (y : Ending BitVector Stopped) → EndAlike (Stands d of) x y → outcome_of y ≡ typed_outcome x
same_outcome d of (Reached v) (Reached w) h = refl
same_outcome d of (Reached v) (Stop c) h = absurd h
same_outcome d of (Stop c) (Reached w) h = absurd h
same_outcome d of (Stop stopped.Abort) (Stop c) h = subst (λ (z : Stopped). outcome_of (Stop z) ≡ ends.Abort) h refl
same_outcome d of (Stop (stopped.Refused access)) (Stop c) h = subst (λ (z : Stopped). outcome_of (Stop z) ≡ ends.OwnClash access) h refl

same_alone : (d : Checked) (of : Option ValueType) (p : Progress (Option Value) Stopped) (q : Progress BitVector Stopped) → Alike (register_widths d) (Stands d of) p q →
    (let a : Alone = record { events = q.events; outcome = outcome_of q.ending } in a) ≡ record { events = p.events; outcome = typed_outcome p.ending }
same_alone d of p q h = ap₂ (λ es (o : Outcome). let a : Alone = record { events = es; outcome = o } in a) h.0 (same_outcome d of p.ending q.ending h.2)

-- all functions may be called in a rule
world-setting : (d : Checked) (inputs : List BitVector) (ports : Ports Stopped) → world d (length d.functions) inputs ports ≡ setting d inputs ports
world-setting d inputs ports =
    ap (λ (fs : List CheckedFunction). bodies_behind (let s : RuleSetting Stopped = record { design = d; inputs = inputs; ports = ports; bodies = [] } in s) fs) (take-length d.functions)

rule-at : (d : Checked) (r : CheckedRule) (c : CoreRule) (inputs : List BitVector) (ports : Ports Stopped) → IsRule d r c → HaveWidths (map (λ (i : Input). i.width) d.inputs) inputs → PortsFit (register_widths d) ports →
    ends_of (evaluate (environment d inputs) ports c.body [] []) ≡ typed_ends (rule_body d inputs ports r.body [])
rule-at d r c inputs ports is w fit =
    same_alone d None (meaning (setting d inputs ports) r.body [] []) (evaluate (environment d inputs) ports c.body [] [])
    (subst (λ (s : RuleSetting Stopped). Alike (register_widths d) (Stands d None) (meaning s r.body [] []) (evaluate (environment d inputs) ports c.body [] [])) (world-setting d inputs ports)
    (is.body.means inputs ports [] [] w fit tt [] tt))

rule-alone : (d : Checked) (r : CheckedRule) (c : CoreRule) (inputs regs : List BitVector) → IsRule d r c → HaveWidths (map (λ (i : Input). i.width) d.inputs) inputs → HaveWidths (register_widths d) regs →
    alone (environment d inputs) regs c.body ≡ typed_alone d inputs regs r.body
rule-alone d r c inputs regs is w held = rule-at d r c inputs (alone_ports regs) is w (PortsFit-alone (register_widths d) regs held)

-- a rule whose body is lowered where no name is bound and all functions may be called
pub rule-is : (d : Checked) (functions : ℕ) (names : List Bound) (r : CheckedRule) (name : List ℕ) (l : Lowered) → IsTypedDesign d → functions ≡ length d.functions → names ≡ [] →
    HasType d (length d.functions) r.body [] None → name ≡ r.name →
    ((types : List ValueType) (t : Option ValueType) → IsTypedDesign d → AreNames d 0 names types → HasType d functions r.body types t →
    Lowers d functions 0 names types t (λ s. meaning s r.body) l) →
    IsRule d r (record { name = name; body = l.action })
rule-is d functions names r name l is all none typed same lowers =
    let one : Lowers d (length d.functions) 0 [] [] None (λ s. meaning s r.body) l =
    subst (λ n. Lowers d n 0 [] [] None (λ s. meaning s r.body) l) all
    (subst (λ (bs : List Bound). Lowers d functions 0 bs [] None (λ s. meaning s r.body) l) none
    (lowers [] None is (subst (λ (bs : List Bound). AreNames d 0 bs []) (sym none) tt) (subst (λ n. HasType d n r.body [] None) (sym all) typed))) in
    record {
      name = same;
      body = subst (λ w. Lowers d (length d.functions) 0 [] [] None (λ s. meaning s r.body) (record { action = l.action; width = w })) one.width one;
    }

-- ---- the whole design

module _ (d : Checked) (is : IsTypedDesign d) (p : Parts) (regs : p.regs ≡ map register_of d.registers) (inputs : p.inputs ≡ map core_input d.inputs) (tables : p.tables ≡ map (λ (t : Table). t.spec) d.tables)
    (hosts : p.hosts ≡ map (λ (h : Host). h.spec) d.hosts) (rules : AreRules d d.rules p.rules) (nodes : p.nodes ≡ d.nodes) where
  same_declarations : declared_by d ≡ declarations p
  same_declarations =
      let widths : map (λ (r : Register). r.width) d.registers ≡ map (λ (r : RegDecl). r.width) p.regs = sym (ap (map (λ (r : RegDecl). r.width)) regs ∙ map-map (λ (r : RegDecl). r.width) register_of d.registers) in
      let ins : map (λ (i : Input). i.width) d.inputs ≡ map (λ (i : InputDecl). i.width) p.inputs = sym (ap (map (λ (i : InputDecl). i.width)) inputs ∙ map-map (λ (i : InputDecl). i.width) core_input d.inputs) in
      ap (λ rs. let a : Declarations = record { regs = rs; inputs = map (λ (i : Input). i.width) d.inputs; externs = record { tables = map (λ (t : Table). t.spec) d.tables; hosts = map (λ (h : Host). h.spec) d.hosts } } in a) widths ∙
      ap (λ is. let a : Declarations = record { regs = map (λ (r : RegDecl). r.width) p.regs; inputs = is; externs = record { tables = map (λ (t : Table). t.spec) d.tables; hosts = map (λ (h : Host). h.spec) d.hosts } } in a) ins ∙
      ap (λ ts. let a : Declarations = record { regs = map (λ (r : RegDecl). r.width) p.regs; inputs = map (λ (i : InputDecl). i.width) p.inputs; externs = record { tables = ts; hosts = map (λ (h : Host). h.spec) d.hosts } } in a) (sym tables) ∙
      ap (λ hs. let a : Declarations = record { regs = map (λ (r : RegDecl). r.width) p.regs; inputs = map (λ (i : InputDecl). i.width) p.inputs; externs = record { tables = p.tables; hosts = hs } } in a) (sym hosts)

  first_fits : (r : Register) → IsRegister d r → HasWidth (packed r.first) r.width
  first_fits r h = subst (HasWidth (packed r.first)) (sym h.width) (constant-stands d is r.of r.first h.of h.first).2

  pub parts-valid : IsValid p
  parts-valid = record {
    few_registers = subst (λ k. k ≤ 256) (sym (ap length regs ∙ length-map d.registers register_of)) is.few_registers;
    registers = subst (λ (l : List RegDecl). All IsCoreRegister l) (sym regs) (All-map IsCoreRegister register_of d.registers (λ i r h. first_fits _ (is.registers i r h)));
    few_inputs = subst (λ k. k ≤ 256) (sym (ap length inputs ∙ length-map d.inputs core_input)) is.few_inputs;
    inputs = subst (λ (l : List InputDecl). All (λ (input : InputDecl). IsWidth input.width) l) (sym inputs)
        (All-map (λ (input : InputDecl). IsWidth input.width) core_input d.inputs (λ i x h. let one = is.inputs i x h in subst IsWidth (sym one.width) one.of));
    tables = subst (λ (l : List TableSpec). All IsTable l) (sym tables) (All-map IsTable (λ (t : Table). t.spec) d.tables (λ i t h. (is.tables i t h).0));
    hosts = subst (λ (l : List HostSpec). All IsHost l) (sym hosts) (All-map IsHost (λ (h : Host). h.spec) d.hosts is.hosts);
    few_rules = subst (λ k. k ≤ 256) (sym (pairs-length (IsRule d) d.rules p.rules rules)) is.few_rules;
    rules = subst (λ (ds : Declarations). All (λ (c : CoreRule). ActionHasWidth ds c.body [] 0) p.rules) same_declarations
        (pairs-second (IsRule d) (λ (c : CoreRule). ActionHasWidth (declared_by d) c.body [] 0) (λ r c h. h.body.typed [] tt) d.rules p.rules rules);
    few_nodes = subst (λ (l : List Node). length l ≤ 1024) (sym nodes) is.few_nodes;
    nodes = subst (λ k. AreNodes k p.nodes) (sym (pairs-length (IsRule d) d.rules p.rules rules)) (subst (AreNodes (length d.rules)) (sym nodes) is.nodes);
    once = subst TriesNoneTwice (sym nodes) is.once;
  }

  same_environment : (ins : List BitVector) → (let e : _ = environment d ins in e) ≡ record { externs = externs_of p; inputs = ins }
  same_environment ins = ap₂ (λ ts hs. record { externs = record { tables = ts; hosts = hs }; inputs = ins }) (sym tables) (sym hosts)

  pub parts-lowered : IsLowered d p
  parts-lowered = record {
    registers = regs;
    inputs = inputs;
    tables = tables;
    hosts = hosts;
    names = pairs-map (IsRule d) (λ (r : CheckedRule). r.name) (λ (c : CoreRule). c.name) (λ r c h. h.name) d.rules p.rules rules;
    nodes = nodes;
    alone = λ number r c at at' ins held w h.
        subst (λ env. alone env held c.body ≡ typed_alone d ins held r.body) (same_environment ins)
        (rule-alone d r c ins held (pairs-at (IsRule d) d.rules p.rules number r c rules at at') w h);
    at_ports = λ number r c at at' ins ports w fit.
        subst (λ env. ends_of (evaluate env ports c.body [] []) ≡ typed_ends (rule_body d ins ports r.body [])) (same_environment ins)
        (rule-at d r c ins ports (pairs-at (IsRule d) d.rules p.rules number r c rules at at') w fit);
  }
