-- Two designs of the core that one typed design is lowered to do the same: each does what the typed tree does.
use Rattle.std.proofs.Common.{◌≡◌, ℕ, zero, suc, List, [], ◌∷◌, Some, refl, sym, ◌∙◌}
use Rattle.std.specs.Prelude.{map, slice_get}
use Rattle.typed_core.specs.declared.design.Parts.{Parts}
use Rattle.typed_core.specs.declared.design.Rule.{Rule as CoreRule}
use Rattle.koika_check.specs.declared.checked.Checked.{Checked}
use Rattle.koika_check.specs.declared.checked.CheckedRule.{CheckedRule}
use Rattle.koika_lower.specs.Lowering.{IsLowered}
use Rattle.koika_lower.specs.TwoLowerings.{EndAlike, LoweringsDoAlike}

-- what one list has another of the same names has too
named : (rules : List CheckedRule) (cores : List CoreRule) (number : ℕ) (c : CoreRule) → map (λ (x : CoreRule). x.name) cores ≡ map (λ (r : CheckedRule). r.name) rules → slice_get cores number ≡ Some c → (r : CheckedRule) × (slice_get rules number ≡ Some r)
named rules [] number c same at = absurd (cc)
named [] (x ∷ cores) number c same at = absurd (cc)
named (r ∷ rules) (x ∷ cores) zero c same at = (r, refl)
named (r ∷ rules) (x ∷ cores) (suc number) c same at =
    let rests : map (λ (x : CoreRule). x.name) cores ≡ map (λ (r : CheckedRule). r.name) rules = cc in
    named rules cores number c rests at

module _ (d : Checked) (a b : Parts) (left : IsLowered d a) (right : IsLowered d b) where
  end_alike : (number : ℕ) (x y : CoreRule) → slice_get a.rules number ≡ Some x → slice_get b.rules number ≡ Some y → EndAlike d a b x y
  end_alike number x y at also inputs ports wide fit =
      let r = named d.rules a.rules number x left.names at in
      left.at_ports number r.0 x r.1 at inputs ports wide fit ∙ sym (right.at_ports number r.0 y r.1 also inputs ports wide fit)

pub lowerings_do_alike : LoweringsDoAlike
lowerings_do_alike d a b left right = record {
  registers = left.registers ∙ sym right.registers;
  inputs = left.inputs ∙ sym right.inputs;
  tables = left.tables ∙ sym right.tables;
  hosts = left.hosts ∙ sym right.hosts;
  names = left.names ∙ sym right.names;
  nodes = left.nodes ∙ sym right.nodes;
  rules = end_alike d a b left right;
}
