use Rattle.std.proofs.Common.{ℕ, Result, sym, subst, ◌∙◌}
use Rattle.aiger_text.specs.Drafts.{Draft, with_gate, with_input, with_latch, with_output}
use Rattle.aiger_text.specs.inner.Steps.{parts_of, ReadsLine}
use Rattle.aiger_text.specs.declared.header.Section.TheVariants as sections
use Rattle.aiger_text.specs.declared.numbers.LineNumbers.{LineNumbers}
use Rattle.aiger_text.proofs.Drafting.{with_line-at}
use Rattle.aiger_text.proofs.draft.Draft.add_line.Goals as goal

pub returns-in-Input : goal.returns-in-Input
returns-in-Input c =
    let at = with_line-at sections.Input c.args.header.now (parts_of c.args.self.now) c.args.line.now (sym c.section.ensures ∙ c.in-Input.is) in
    subst (λ (wanted : Result Draft ℕ). ReadsLine c.add_input.result wanted (parts_of c.add_input.new.self)) (sym at) (subst (λ (numbers : LineNumbers). ReadsLine c.add_input.result (with_input c.args.header.now (parts_of c.args.self.now) numbers) (parts_of c.add_input.new.self)) c.numbers_in.ensures c.add_input.ensures)

pub returns-in-Latch : goal.returns-in-Latch
returns-in-Latch c =
    let at = with_line-at sections.Latch c.args.header.now (parts_of c.args.self.now) c.args.line.now (sym c.section.ensures ∙ c.in-Latch.is) in
    subst (λ (wanted : Result Draft ℕ). ReadsLine c.add_latch.result wanted (parts_of c.add_latch.new.self)) (sym at) (subst (λ (numbers : LineNumbers). ReadsLine c.add_latch.result (with_latch c.args.header.now (parts_of c.args.self.now) numbers) (parts_of c.add_latch.new.self)) c.numbers_in-in-Latch.ensures c.add_latch.ensures)

pub returns-in-Output : goal.returns-in-Output
returns-in-Output c =
    let at = with_line-at sections.Output c.args.header.now (parts_of c.args.self.now) c.args.line.now (sym c.section.ensures ∙ c.in-Output.is) in
    subst (λ (wanted : Result Draft ℕ). ReadsLine c.add_output.result wanted (parts_of c.add_output.new.self)) (sym at) (subst (λ (numbers : LineNumbers). ReadsLine c.add_output.result (with_output c.args.header.now (parts_of c.args.self.now) numbers) (parts_of c.add_output.new.self)) c.numbers_in-in-Output.ensures c.add_output.ensures)

pub returns-in-Gate : goal.returns-in-Gate
returns-in-Gate c =
    let at = with_line-at sections.Gate c.args.header.now (parts_of c.args.self.now) c.args.line.now (sym c.section.ensures ∙ c.in-Gate.is) in
    subst (λ (wanted : Result Draft ℕ). ReadsLine c.add_gate.result wanted (parts_of c.add_gate.new.self)) (sym at) (subst (λ (numbers : LineNumbers). ReadsLine c.add_gate.result (with_gate c.args.header.now (parts_of c.args.self.now) numbers) (parts_of c.add_gate.new.self)) c.numbers_in-in-Gate.ensures c.add_gate.ensures)

pub returns-in-Symbol : goal.returns-in-Symbol
returns-in-Symbol c =
    let at = with_line-at sections.Symbol c.args.header.now (parts_of c.args.self.now) c.args.line.now (sym c.section.ensures ∙ c.in-Symbol.is) in
    subst (λ (wanted : Result Draft ℕ). ReadsLine c.add_symbol.result wanted (parts_of c.add_symbol.new.self)) (sym at) c.add_symbol.ensures
