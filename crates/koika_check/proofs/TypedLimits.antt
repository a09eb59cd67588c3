-- What the limits of a tree say of its design: how many parts it has of each kind, and what it weighs.
use Rattle.std.proofs.Common.{◌≡◌, ℕ, ◌+◌, ◌<◌, ◌≤◌, ◌⊎◌, inl, inr, nat_le, List, [], ◌∷◌, length, slice_get, Option, Some, None, arith, refl, subst}
use Rattle.std.specs.List.{flat_map}
use Rattle.std.proofs.lemmas.List.{length-append}
use Rattle.std.proofs.lemmas.Option.{slice_get-get_or}
use Rattle.std.proofs.lemmas.Bool.{leb-true}
use Rattle.kw_base.specs.declared.fault_number.TheConstants.{TOO_DEEP, TOO_HEAVY, TOO_MANY_INPUTS, TOO_MANY_NODES, TOO_MANY_REGISTERS, TOO_MANY_RULES}
use Rattle.koika_syntax.specs.declared.tree.Declaration.{Declaration}
use Rattle.koika_syntax.specs.declared.tree.Declaration.TheVariants as declarations
use Rattle.koika_syntax.specs.declared.tree.Tree.{Tree}
use Rattle.kw_bits.specs.declared.host.HostSpec.{HostSpec}
use Rattle.typed_core.specs.declared.limits.TheConstants.{MAX_INPUTS, MAX_NODES, MAX_REGISTERS, MAX_RULES}
use Rattle.koika_check.specs.Checks.{at_most, counts_within, input_place, limits, register_place, rule_place, scheduler_places, size_within, surplus}
use Rattle.koika_check.specs.Declarations.{assert_with, declare, enum_with, function_with, host_with, input_with, nothing, register_with, rule_with, struct_with, table_with}
use Rattle.koika_check.specs.Outcomes.{Gives, first, holds, one_by_one, wrong}
use Rattle.koika_check.specs.Sizes.{Size, design_size, size_of}
use Rattle.koika_check.specs.declared.checked.Checked.{Checked}
use Rattle.koika_check.specs.declared.measure.TheConstants.{MAX_DEPTH, MAX_WEIGHT}
use Rattle.koika_check.proofs.Answering.{bind-gives}
use Rattle.koika_check.proofs.Telling.{holds-true}
use Rattle.koika_check.proofs.TypedDesigns.{with_assert, with_enum, with_function, with_host, with_input, with_register, with_rule, with_struct, with_table}
use Rattle.koika_check.proofs.TypedParts.{earlier-both, gives-same}

-- ---- how many parts there are

-- so many registers, rules and inputs more
abbrev Counts : (d e : Checked) → (registers rules inputs : ℕ) → Type 0
Counts d e registers rules inputs =
    (length e.registers ≡ length d.registers + registers) × (length e.rules ≡ length d.rules + rules) × (length e.inputs ≡ length d.inputs + inputs)

abbrev Counted : Checked → Declaration → Checked → Type 0
Counted d x e = Counts d e (length (register_place x)) (length (rule_place x)) (length (input_place x))

none_more : (d : Checked) → Counts d d 0 0 0
none_more d = (omega arith, omega arith, omega arith)

-- what a declaration adds, by its kind
counted : (hosts : List HostSpec) (x : Declaration) (d e : Checked) → declare hosts x d ≡ Gives e → Counted d x e
counted hosts (declarations.Enum n width members) d e gives =
    let one = bind-gives (enum_with d n width members) _ e gives in
    subst (λ e. Counts d e 0 0 0) (gives-same (with_enum d one.0) e one.2) (omega arith, omega arith, omega arith)
counted hosts (declarations.Struct n fields) d e gives =
    let one = bind-gives (struct_with d n fields) _ e gives in
    subst (λ e. Counts d e 0 0 0) (gives-same (with_struct d one.0) e one.2) (omega arith, omega arith, omega arith)
counted hosts (declarations.Register n of first) d e gives =
    let one = bind-gives (register_with d n of first) _ e gives in
    subst (λ e. Counts d e 1 0 0) (gives-same (with_register d one.0) e one.2) (length-append d.registers (one.0 ∷ []), omega arith, omega arith)
counted hosts (declarations.Input n of) d e gives =
    let one = bind-gives (input_with d n of) _ e gives in
    subst (λ e. Counts d e 0 0 1) (gives-same (with_input d one.0) e one.2) (omega arith, omega arith, length-append d.inputs (one.0 ∷ []))
counted hosts (declarations.Table n input output entries) d e gives =
    let one = bind-gives (table_with d n input output entries) _ e gives in
    subst (λ e. Counts d e 0 0 0) (gives-same (with_table d one.0) e one.2) (omega arith, omega arith, omega arith)
counted hosts (declarations.Host n input output) d e gives =
    let one = bind-gives (host_with hosts d n input output) _ e gives in
    subst (λ e. Counts d e 0 0 0) (gives-same (with_host d one.0) e one.2) (omega arith, omega arith, omega arith)
counted hosts (declarations.Function n parameters written body) d e gives =
    let one = bind-gives (function_with d n parameters written body) _ e gives in
    subst (λ e. Counts d e 0 0 0) (gives-same (with_function d one.0) e one.2) (omega arith, omega arith, omega arith)
counted hosts (declarations.Rule n body) d e gives =
    let one = bind-gives (rule_with d n body) _ e gives in
    subst (λ e. Counts d e 0 1 0) (gives-same (with_rule d one.0) e one.2) (omega arith, length-append d.rules (one.0 ∷ []), omega arith)
counted hosts (declarations.Assert n) d e gives =
    let one = bind-gives (assert_with d n) _ e gives in
    subst (λ e. Counts d e 0 0 0) (gives-same (with_assert d one.0) e one.2) (omega arith, omega arith, omega arith)

abbrev AllCounted : Checked → List Declaration → Checked → Type 0
AllCounted d xs e = Counts d e (length (flat_map register_place xs)) (length (flat_map rule_place xs)) (length (flat_map input_place xs))

all_counted : (hosts : List HostSpec) (xs : List Declaration) (d e : Checked) → one_by_one (declare hosts) xs d ≡ Gives e → AllCounted d xs e
all_counted hosts [] d e gives = subst (λ e. Counts d e 0 0 0) (gives-same d e gives) (none_more d)
all_counted hosts (x ∷ xs) d e gives =
    let next = bind-gives (declare hosts x d) (one_by_one (declare hosts) xs) e gives in
    let one = counted hosts x d next.0 next.1 in
    let rest = all_counted hosts xs next.0 e next.2 in (
      omega (arith, one.0, rest.0, length-append (register_place x) (flat_map register_place xs)),
      omega (arith, one.1, rest.1, length-append (rule_place x) (flat_map rule_place xs)),
      omega (arith, one.2, rest.2, length-append (input_place x) (flat_map input_place xs)),
    )

-- as many parts of each kind as the tree declares
pub parts-counted : (hosts : List HostSpec) (xs : List Declaration) (e : Checked) → one_by_one (declare hosts) xs nothing ≡ Gives e →
    (length e.registers ≡ length (flat_map register_place xs)) × (length e.rules ≡ length (flat_map rule_place xs)) × (length e.inputs ≡ length (flat_map input_place xs))
parts-counted hosts xs e gives = let all = all_counted hosts xs nothing e gives in (omega (arith, all.0), omega (arith, all.1), omega (arith, all.2))

-- ---- limits

-- there are at most as many places as the limit
few_places : (limit number : ℕ) (places : List ℕ) → at_most limit number places ≡ None → length places ≤ limit
few_places limit number places e = by_order (order (length places) limit)
  where
    order : (a b : ℕ) → (a ≤ b) ⊎ (b < a)
    order a b = grind arith

    some_fault : (o : Option ℕ) (p : ℕ) → o ≡ Some p → surplus number o ≡ None → ⊥
    some_fault None p o e = cc
    some_fault (Some q) p o e = cc

    by_order : (length places ≤ limit) ⊎ (limit < length places) → length places ≤ limit
    by_order (inl le) = le
    by_order (inr lt) = absurd (some_fault (slice_get places limit) _ (slice_get-get_or places limit 0 lt) e)

-- the limits are kept
pub record IsWithin (tree : Tree) (size : Size) : Type 0 where
  pub registers : length (flat_map register_place tree.declarations) ≤ MAX_REGISTERS
  pub rules : length (flat_map rule_place tree.declarations) ≤ MAX_RULES
  pub inputs : length (flat_map input_place tree.declarations) ≤ MAX_INPUTS
  pub nodes : length (scheduler_places tree.scheduler) ≤ MAX_NODES
  pub light : size.weight ≤ MAX_WEIGHT
  pub shallow : size.depth ≤ MAX_DEPTH

-- where no limit has a fault
pub limits-kept : (tree : Tree) (size : Size) → limits tree size ≡ None → IsWithin tree size
limits-kept tree size e =
    let both = earlier-both (counts_within tree) (size_within tree.schedule size) e in
    let registers = earlier-both (at_most MAX_REGISTERS TOO_MANY_REGISTERS (flat_map register_place tree.declarations)) _ both.0 in
    let rules = earlier-both (at_most MAX_RULES TOO_MANY_RULES (flat_map rule_place tree.declarations)) _ registers.1 in
    let inputs = earlier-both (at_most MAX_INPUTS TOO_MANY_INPUTS (flat_map input_place tree.declarations)) _ rules.1 in
    let nodes = earlier-both (at_most MAX_NODES TOO_MANY_NODES (scheduler_places tree.scheduler)) None inputs.1 in
    let weight = earlier-both (holds (nat_le size.weight MAX_WEIGHT) (wrong TOO_HEAVY tree.schedule)) _ both.1 in
    let depth = earlier-both (holds (nat_le size.depth MAX_DEPTH) (wrong TOO_DEEP tree.schedule)) None weight.1 in
    record {
      registers = few_places MAX_REGISTERS TOO_MANY_REGISTERS (flat_map register_place tree.declarations) registers.0;
      rules = few_places MAX_RULES TOO_MANY_RULES (flat_map rule_place tree.declarations) rules.0;
      inputs = few_places MAX_INPUTS TOO_MANY_INPUTS (flat_map input_place tree.declarations) inputs.0;
      nodes = few_places MAX_NODES TOO_MANY_NODES (scheduler_places tree.scheduler) nodes.0;
      light = leb-true size.weight MAX_WEIGHT (holds-true (nat_le size.weight MAX_WEIGHT) (wrong TOO_HEAVY tree.schedule) weight.0);
      shallow = leb-true size.depth MAX_DEPTH (holds-true (nat_le size.depth MAX_DEPTH) (wrong TOO_DEEP tree.schedule) depth.0);
    }

-- ---- the weight

-- a design weighs the same whatever weight it has noted
pub same-size : (d : Checked) (weight : ℕ) → design_size (record d { weight = weight }) ≡ design_size d
unfolding size_of
same-size d weight = refl
