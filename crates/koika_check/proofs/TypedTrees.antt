-- What a tree of the grammar comes to is a well typed design, whose host functions are among those that are handed in.
use Rattle.std.proofs.Common.{Result, Ok, Err, IfOk, ◌≡◌, ◌≤◌, List, [], length, None, arith, ap, sym, subst}
use Rattle.std.specs.List.{All, Contains}
use Rattle.std.proofs.lemmas.List.Elements.{All-weaker}
use Rattle.kw_bits.specs.Host.{TakesWidth}
use Rattle.koika_syntax.specs.Grammar.{IsDesign}
use Rattle.koika_syntax.specs.declared.tree.Tree.{Tree}
use Rattle.typed_core.specs.Valid.{AreNodes, TriesNoneTwice}
use Rattle.kw_bits.specs.declared.host.HostSpec.{HostSpec}
use Rattle.typed_core.specs.declared.design.Node.{Node}
use Rattle.typed_core.specs.declared.limits.TheConstants.{MAX_INPUTS, MAX_NODES, MAX_REGISTERS, MAX_RULES}
use Rattle.koika_check.specs.Checks.{checked, limits, scheduled, within_limits}
use Rattle.koika_check.specs.Declarations.{declare, nothing}
use Rattle.koika_check.specs.Outcomes.{Gives, one_by_one}
use Rattle.koika_check.specs.inner.Outcomes.{Answers, Stop}
use Rattle.koika_check.specs.Schedule.{scheduler_nodes}
use Rattle.koika_check.specs.Sizes.{Size, design_size}
use Rattle.koika_check.specs.Typing.{IsEnum, IsTypedDesign}
use Rattle.koika_check.specs.declared.checked.Checked.{Checked}
use Rattle.koika_check.specs.declared.checked.Host.{Host}
use Rattle.koika_check.specs.declared.measure.TheConstants.{MAX_DEPTH, MAX_WEIGHT}
use Rattle.koika_check.proofs.Answering.{bind-gives}
use Rattle.koika_check.proofs.TypedDesigns.{IsSoFar, declarations-typed, noted}
use Rattle.koika_check.proofs.TypedLimits.{IsWithin, limits-kept, parts-counted, same-size}
use Rattle.koika_check.proofs.TypedParts.{unless-gives}
use Rattle.koika_check.proofs.TypedSchedules.{nodes-fine}
use Rattle.koika_check.proofs.TypedSoFar.{IsEnumSoFar, IsTypedSoFar}

-- a design with its nodes, and with its weight
abbrev pub with_nodes : Checked → List Node → Checked
with_nodes d nodes = record d { nodes = nodes }

abbrev weighed : Checked → Checked
weighed d = record d { weight = (design_size d).weight }

-- what a tree comes to, by its parts
record IsMade (hosts : List HostSpec) (tree : Tree) (d : Checked) : Type 0 where
  declared : Checked
  nodes : List Node
  declares : one_by_one (declare hosts) tree.declarations nothing ≡ Gives declared
  schedules : scheduler_nodes tree.scheduler declared [] 0 ≡ Gives nodes
  keeps : limits tree (design_size (with_nodes declared nodes)) ≡ None
  is : weighed (with_nodes declared nodes) ≡ d

made : (hosts : List HostSpec) (tree : Tree) (d : Checked) → checked hosts tree ≡ Gives d → IsMade hosts tree d
made hosts tree d e =
    let all = bind-gives (one_by_one (declare hosts) tree.declarations nothing) (scheduled tree) d e in
    let nodes = bind-gives (scheduler_nodes tree.scheduler all.0 [] 0) (λ ns. within_limits tree (with_nodes all.0 ns)) d all.2 in
    let both = unless-gives (limits tree (design_size (with_nodes all.0 nodes.0))) (weighed (with_nodes all.0 nodes.0)) d nodes.2 in
    record { declared = all.0; nodes = nodes.0; declares = all.1; schedules = nodes.1; keeps = both.0; is = both.1 }

-- a design so far with nodes, within the limits
finished : (tree : Tree) (d : Checked) (nodes : List Node) → IsTypedSoFar d → IsWithin tree (design_size (with_nodes d nodes)) → length d.registers ≤ MAX_REGISTERS → length d.rules ≤ MAX_RULES → length d.inputs ≤ MAX_INPUTS →
    length nodes ≤ MAX_NODES → AreNodes (length d.rules) nodes → TriesNoneTwice nodes → IsTypedDesign (weighed (with_nodes d nodes))
finished tree d nodes h within registers rules inputs few are once =
    let it = noted d nodes (design_size (with_nodes d nodes)).weight h in
    let same = same-size (with_nodes d nodes) (design_size (with_nodes d nodes)).weight in
    record {
      enums = All-weaker IsEnumSoFar IsEnum (λ e is. is.0) d.enums it.enums;
      structs = λ number s at. (it.structs number s at).0;
      few_registers = registers;
      registers = it.registers;
      few_inputs = inputs;
      inputs = it.inputs;
      tables = it.tables;
      hosts = it.hosts;
      functions = it.functions;
      few_rules = rules;
      rules = it.rules;
      asserts = it.asserts;
      few_nodes = few;
      nodes = are;
      once = once;
      weight = ap (λ (s : Size). s.weight) (sym same);
      light = subst (λ (s : Size). s.weight ≤ MAX_WEIGHT) (sym same) within.light;
      shallow = subst (λ (s : Size). s.depth ≤ MAX_DEPTH) (sym same) within.shallow;
    }

module _ (hosts : List HostSpec) (tree : Tree) (d : Checked) (takes : All (λ (h : HostSpec). TakesWidth h.kind h.in_width) hosts) (is : IsDesign tree) (e : checked hosts tree ≡ Gives d) where
  so_far : IsSoFar hosts (made hosts tree d e).declared
  so_far = let m = made hosts tree d e in declarations-typed hosts takes tree.declarations m.declared is.declarations m.declares

  -- the design is well typed
  pub typed-design : IsTypedDesign d
  typed-design =
      let m = made hosts tree d e in
      let counts = parts-counted hosts tree.declarations m.declared m.declares in
      let within = limits-kept tree (design_size (with_nodes m.declared m.nodes)) m.keeps in
      let fine = nodes-fine tree.scheduler m.declared m.nodes m.schedules in
      subst IsTypedDesign m.is
      (finished tree m.declared m.nodes so_far.0 within (omega (arith, counts.0, within.registers)) (omega (arith, counts.1, within.rules)) (omega (arith, counts.2, within.inputs))
      (omega (arith, fine.2, within.nodes)) fine.0 fine.1)

  -- and its host functions are offered
  pub hosts-offered : All (λ (h : Host). Contains hosts h.spec) d.hosts
  hosts-offered = let m = made hosts tree d e in subst (λ (x : Checked). All (λ (h : Host). Contains hosts h.spec) x.hosts) m.is so_far.1

-- the same of a call that answers what the tree comes to
module _ (hosts : List HostSpec) (tree : Tree) (takes : All (λ (h : HostSpec). TakesWidth h.kind h.in_width) hosts) (is : IsDesign tree) where
  pub answer-typed : (r : Result Checked Stop) → Answers (λ (x of : Checked). x ≡ of) (checked hosts tree) r → IfOk r IsTypedDesign
  answer-typed (Ok d) h = subst IsTypedDesign (sym h.2) (typed-design hosts tree h.0 takes is h.1)
  answer-typed (Err stop) h = tt

  pub answer-offered : (r : Result Checked Stop) → Answers (λ (x of : Checked). x ≡ of) (checked hosts tree) r → IfOk r (λ (d : Checked). All (λ (h : Host). Contains hosts h.spec) d.hosts)
  answer-offered (Ok d) h = subst (λ (x : Checked). All (λ (h : Host). Contains hosts h.spec) x.hosts) (sym h.2) (hosts-offered hosts tree h.0 takes is h.1)
  answer-offered (Err stop) h = tt
