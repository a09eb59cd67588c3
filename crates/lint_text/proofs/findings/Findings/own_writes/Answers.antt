use Rattle.std.proofs.Common.{◌∙◌, ℕ, map, arith}
use Rattle.lab_lint.specs.Refusals.{own_writes}
use Rattle.lab_lint.specs.Rules.{numbers}
use Rattle.lint_text.proofs.Found.{as_many, item, row-at}
use Rattle.lint_text.proofs.findings.Findings.own_writes.Goals as goal

pub get-requires : goal.get-requires
get-requires c =
    let d = c.args.design.now in
    omega (arith, c.requires.rule, as_many (λ (r : ℕ). map (own_writes d r) (numbers d.registers)) d.rules c.args.self.now.own c.requires.found.own)

pub get-requires-2 : goal.get-requires-2
get-requires-2 c =
    let d = c.args.design.now in
    let row = c.get.ensures ∙ row-at d (own_writes d) c.args.self.now.own c.args.rule _ c.requires.found.own c.requires.rule in
    omega (arith, c.requires.register, as_many (own_writes d c.args.rule) d.registers _ row)

pub returns : goal.returns
returns c =
    let d = c.args.design.now in
    let row = c.get.ensures ∙ row-at d (own_writes d) c.args.self.now.own c.args.rule _ c.requires.found.own c.requires.rule in
    c.as_slice.ensures ∙ c.get-2.ensures ∙ item (own_writes d c.args.rule) d.registers _ c.args.register _ row c.requires.register
