-- The registers and inputs of what a tree comes to have valid widths, whatever host functions are handed in.
use Rattle.std.proofs.Common.{◌≡◌, List, [], ◌∷◌, map, Some, subst}
use Rattle.std.specs.Prelude.{All}
use Rattle.std.proofs.lemmas.List.Elements.{All-map, All-nil, All-push}
use Rattle.koika_syntax.specs.declared.tree.Constant.{Constant}
use Rattle.koika_syntax.specs.declared.tree.Declaration.{Declaration}
use Rattle.koika_syntax.specs.declared.tree.Declaration.TheVariants as declarations
use Rattle.koika_syntax.specs.declared.tree.Name.{Name}
use Rattle.koika_syntax.specs.declared.tree.Tree.{Tree}
use Rattle.koika_syntax.specs.declared.tree.TypeExpression.{TypeExpression}
use Rattle.kw_bits.specs.declared.host.HostSpec.{HostSpec}
use Rattle.typed_core.specs.Valid.{IsWidth}
use Rattle.koika_check.specs.Checks.{checked, limits, scheduled, within_limits}
use Rattle.koika_check.specs.Constants.{constant_of}
use Rattle.koika_check.specs.Declarations.{assert_with, declare, enum_with, function_with, host_with, input_of, input_typed, input_with, new_name, nothing, register_known, register_of, register_typed, register_with, rule_with, struct_with, table_with}
use Rattle.koika_check.specs.Outcomes.{Gives, one_by_one}
use Rattle.koika_check.specs.Schedule.{scheduler_nodes}
use Rattle.koika_check.specs.Sizes.{design_size}
use Rattle.koika_check.specs.Types.{agrees, type_of, width_of}
use Rattle.koika_check.specs.declared.checked.Checked.{Checked}
use Rattle.koika_check.specs.declared.checked.Input.{Input}
use Rattle.koika_check.specs.declared.checked.Register.{Register}
use Rattle.koika_check.proofs.Answering.{bind-gives}
use Rattle.koika_check.proofs.TypedDesigns.{with_assert, with_enum, with_function, with_host, with_input, with_register, with_rule, with_struct, with_table}
use Rattle.koika_check.proofs.TypedParts.{gives-same, type-valid, unless-gives, where-all}
use Rattle.koika_lower.specs.Lowering.{register_widths}
use Rattle.stim_report.specs.Shapes.{widths_of}
use Rattle.stim_report.specs.declared.shape.NameWidth.{NameWidth}
use Rattle.front_end.specs.Sources.{of_input, shape_of}

-- each register and each input has a width of bit vectors
record HasWidths (d : Checked) : Type 0 where
  registers : All (λ (r : Register). IsWidth r.width) d.registers
  inputs : All (λ (i : Input). IsWidth i.width) d.inputs

register-wide : (d : Checked) (n : Name) (written : TypeExpression) (first : Constant) (x : Register) → register_with d n written first ≡ Gives x → IsWidth x.width
register-wide d n written first x e =
    let name = bind-gives (new_name d n) (register_of d written first) x e in
    let of = bind-gives (type_of d written) (register_typed d first name.0) x name.2 in
    let known = bind-gives (constant_of first d) (register_known d name.0 of.0) x of.2 in
    let made : Register = record { name = name.0; of = of.0; width = width_of d of.0; first = known.0.value } in
    let all = where-all (agrees (Some of.0) known.0.part ∷ []) made x known.2 in
    subst (λ (r : Register). IsWidth r.width) all.0 (type-valid d written of.0 of.1)

input-wide : (d : Checked) (n : Name) (written : TypeExpression) (x : Input) → input_with d n written ≡ Gives x → IsWidth x.width
input-wide d n written x e =
    let name = bind-gives (new_name d n) (input_of d written) x e in
    let of = bind-gives (type_of d written) (input_typed d name.0) x name.2 in
    let made : Input = record { name = name.0; of = of.0; width = width_of d of.0 } in
    subst (λ (i : Input). IsWidth i.width) (gives-same made x of.2) (type-valid d written of.0 of.1)

module _ (hosts : List HostSpec) where
  declared : (x : Declaration) (d e : Checked) → HasWidths d → declare hosts x d ≡ Gives e → HasWidths e
  declared (declarations.Enum n width members) d e h gives =
      let one = bind-gives (enum_with d n width members) _ e gives in
      subst HasWidths (gives-same (with_enum d one.0) e one.2) (record { registers = h.registers; inputs = h.inputs })
  declared (declarations.Struct n fields) d e h gives =
      let one = bind-gives (struct_with d n fields) _ e gives in
      subst HasWidths (gives-same (with_struct d one.0) e one.2) (record { registers = h.registers; inputs = h.inputs })
  declared (declarations.Register n of first) d e h gives =
      let one = bind-gives (register_with d n of first) _ e gives in
      subst HasWidths (gives-same (with_register d one.0) e one.2)
      (record { registers = All-push (λ (r : Register). IsWidth r.width) d.registers one.0 h.registers (register-wide d n of first one.0 one.1); inputs = h.inputs })
  declared (declarations.Input n of) d e h gives =
      let one = bind-gives (input_with d n of) _ e gives in
      subst HasWidths (gives-same (with_input d one.0) e one.2)
      (record { registers = h.registers; inputs = All-push (λ (i : Input). IsWidth i.width) d.inputs one.0 h.inputs (input-wide d n of one.0 one.1) })
  declared (declarations.Table n input output entries) d e h gives =
      let one = bind-gives (table_with d n input output entries) _ e gives in
      subst HasWidths (gives-same (with_table d one.0) e one.2) (record { registers = h.registers; inputs = h.inputs })
  declared (declarations.Host n input output) d e h gives =
      let one = bind-gives (host_with hosts d n input output) _ e gives in
      subst HasWidths (gives-same (with_host d one.0) e one.2) (record { registers = h.registers; inputs = h.inputs })
  declared (declarations.Function n parameters written body) d e h gives =
      let one = bind-gives (function_with d n parameters written body) _ e gives in
      subst HasWidths (gives-same (with_function d one.0) e one.2) (record { registers = h.registers; inputs = h.inputs })
  declared (declarations.Rule n body) d e h gives =
      let one = bind-gives (rule_with d n body) _ e gives in
      subst HasWidths (gives-same (with_rule d one.0) e one.2) (record { registers = h.registers; inputs = h.inputs })
  declared (declarations.Assert n) d e h gives =
      let one = bind-gives (assert_with d n) _ e gives in
      subst HasWidths (gives-same (with_assert d one.0) e one.2) (record { registers = h.registers; inputs = h.inputs })

  all-declared : (xs : List Declaration) (d e : Checked) → HasWidths d → one_by_one (declare hosts) xs d ≡ Gives e → HasWidths e
  all-declared [] d e h gives = subst HasWidths (gives-same d e gives) h
  all-declared (x ∷ xs) d e h gives =
      let next = bind-gives (declare hosts x d) (one_by_one (declare hosts) xs) e gives in
      all-declared xs next.0 e (declared x d next.0 h next.1) next.2

  module _ (tree : Tree) (d : Checked) (e : checked hosts tree ≡ Gives d) where
    found : HasWidths d
    found =
        let all = bind-gives (one_by_one (declare hosts) tree.declarations nothing) (scheduled tree) d e in
        let nodes = bind-gives (scheduler_nodes tree.scheduler all.0 [] 0) (λ ns. within_limits tree (record all.0 { nodes = ns })) d all.2 in
        let with_nodes : Checked = record all.0 { nodes = nodes.0 } in
        let whole : Checked = record with_nodes { weight = (design_size with_nodes).weight } in
        let both = unless-gives (limits tree (design_size with_nodes)) whole d nodes.2 in
        let h = all-declared tree.declarations nothing all.0 (record { registers = All-nil (λ (r : Register). IsWidth r.width); inputs = All-nil (λ (i : Input). IsWidth i.width) }) all.1 in
        subst HasWidths both.1 (record { registers = h.registers; inputs = h.inputs })

    pub registers-valid : All IsWidth (register_widths d)
    registers-valid = All-map IsWidth (λ (r : Register). r.width) d.registers found.registers

    pub shape-valid : All IsWidth (widths_of (shape_of d).inputs)
    shape-valid = All-map IsWidth (λ (named : NameWidth). named.width) (map of_input d.inputs) (All-map (λ (named : NameWidth). IsWidth named.width) of_input d.inputs found.inputs)
