use Rattle.std.proofs.Common.{◌≡◌, length, get_or, refl, sym, ap, ◌∙◌, arith}
use Rattle.std.proofs.lemmas.Bool.Decides.{nat_tests}
use Rattle.kw_bits.specs.BitVector.{BitVector}
use Rattle.one_rule.proofs.Inputs.{length-inputs_by, get_or-inputs_by, inputs_by-from_each}
use Rattle.one_rule.proofs.stimulus.line.are_inputs_by.Goals as goal

pub returns-then-inputs-widths : goal.returns-then-inputs-widths
returns-then-inputs-widths c =
    let size = length-inputs_by c.args.widths.now c.args.line.now in
    (λ h. absurd cc, λ e. absurd (omega (arith, ap length e)))

pub returns-then-ne : goal.returns-then-ne
returns-then-ne c = (
  λ h. absurd cc,
  λ e.
      let here = ap (λ xs. get_or xs c.loop-input.input c.index-inputs-input.result) e ∙ get_or-inputs_by c.args.widths.now c.args.line.now c.loop-input.input c.index-inputs-input.result (omega arith) in
      let same : c.index-inputs-input.result ≡ c.value_by.result = c.index-inputs-input.is ∙ here ∙ sym c.value_by.ensures in
      let width = ap (λ (b : BitVector). b.width) same in
      let number = ap (λ (b : BitVector). b.number) same in
      absurd (grind (arith, nat_tests)),
)

pub returns : goal.returns
returns c =
    (λ h. inputs_by-from_each c.args.widths.now c.args.line.now c.args.inputs.now (omega arith) (λ k d within. c.loop-input.invariant k d (omega arith)), λ e. refl)
