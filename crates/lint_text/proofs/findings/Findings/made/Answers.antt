use Rattle.std.proofs.Common.{◌∙◌, ℕ, map, arith}
use Rattle.lab_lint.specs.Refusals.{made}
use Rattle.lab_lint.specs.Rules.{numbers}
use Rattle.lint_text.proofs.Found.{as_many, item, row-at}
use Rattle.lint_text.proofs.findings.Findings.made.Goals as goal

pub get-requires : goal.get-requires
get-requires c =
    let d = c.args.design.now in
    omega (arith, c.requires.rule, as_many (λ (r : ℕ). map (made d r) (numbers d.registers)) d.rules c.args.self.now.made c.requires.found.made)

pub get-requires-2 : goal.get-requires-2
get-requires-2 c =
    let d = c.args.design.now in
    let row = c.get.ensures ∙ row-at d (made d) c.args.self.now.made c.args.rule _ c.requires.found.made c.requires.rule in
    omega (arith, c.requires.register, as_many (made d c.args.rule) d.registers _ row)

pub returns : goal.returns
returns c =
    let d = c.args.design.now in
    let row = c.get.ensures ∙ row-at d (made d) c.args.self.now.made c.args.rule _ c.requires.found.made c.requires.rule in
    c.as_slice.ensures ∙ c.get-2.ensures ∙ item (made d c.args.rule) d.registers _ c.args.register _ row c.requires.register
