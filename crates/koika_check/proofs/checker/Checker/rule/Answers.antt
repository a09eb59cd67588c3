use Rattle.std.proofs.Common.{ℕ, List, ◌∙◌, ◌++◌, ◌∷◌, [], ap, ap₂, sym, None}
use Rattle.koika_check.specs.inner.Checking.{arrays_of, ready, scope_of}
use Rattle.koika_check.specs.Scopes.{Local, Scope}
use Rattle.koika_check.specs.Types.{agrees}
use Rattle.koika_check.specs.declared.checked.Checked.{Checked}
use Rattle.koika_check.specs.declared.checked.CheckedRule.{CheckedRule}
use Rattle.koika_check.specs.declared.typed.Typed.{Typed}
use Rattle.koika_check.proofs.Answering.{passes-gives}
use Rattle.koika_check.proofs.Declaring.{settled-scope}
use Rattle.koika_check.proofs.Parameters.{rule-chain}
use Rattle.koika_check.proofs.PartTypes.{part-shape}
use Rattle.koika_check.proofs.checker.Checker.rule.Goals as goal

pub block-requires : goal.block-requires
block-requires c = ready c.requires.checker

pub add_rule-requires-clause-settled : goal.add_rule-requires-clause-settled
add_rule-requires-clause-settled c =
    let y = c.in_ok-typing.ensures in
    settled-scope c.args.self.now c.block.new.self c.requires y.kept y.grows y.means.scope_is

pub returns-clause-answers : goal.returns-clause-answers
returns-clause-answers c =
    let y = c.in_ok-typing.ensures in
    let d = c.args.self.now.design in
    let n = c.args.name.now in
    let arrays = arrays_of c.block.new.self in
    let new = c.in_ok-is_new.ensures in
    let rule : CheckedRule = record { name = n.text; body = y.value.typed } in
    let one = λ (m : List ℕ) (b : Typed). let r : CheckedRule = record { name = m; body = b } in r in (
      rule,
      rule-chain d n c.args.body.now new.0 (scope_of c.args.self.now) y.value new.1 new.2.0 (ap (λ (l : List Local). let s : Scope = record { design = d; locals = l } in s) c.requires.unbound) y.gives
          ∙ passes-gives c.agrees.result (agrees None y.value.part) c.in_ok-refuse.field-0 rule
          (c.agrees.ensures arrays y.kept.shapes.arrays tt (part-shape c.block.new.self c.in_ok-typing.typing.part.of y.means.type) ∙ ap (agrees None) (sym y.means.part)) c.in_ok-refuse.ensures,
      c.in_ok-add_rule.ensures.design
          ∙ ap₂ (λ (e : Checked) (r : CheckedRule). let u : Checked = record e { rules = e.rules ++ r ∷ [] } in u) y.grows.design (ap₂ one (c.in_ok-text.ensures ∙ c.as_slice.ensures) (sym y.means.typed)),
    )
