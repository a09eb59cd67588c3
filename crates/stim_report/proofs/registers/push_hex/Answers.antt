use Rattle.std.proofs.Common.{◌≡◌, ℕ, ◌+◌, ◌-◌, ◌/◌, ◌^◌, List, sym, ap₂, ◌∙◌, subst, arith}
use Rattle.stim_report.specs.inner.Pages.{Gains, HasRoom}
use Rattle.stim_report.specs.Report.{hex, hex_digits}
use Rattle.stim_report.proofs.Hex.{low_digits, split_digits}
use Rattle.stim_report.proofs.Pages.{in_turn, room_first, room_next}
use Rattle.stim_report.proofs.registers.push_hex.Goals as goal

pub returns-then-digits-le16 : goal.returns-then-digits-le16
returns-then-digits-le16 c =
    let count = c.div_ceil-digits.result in
    let number = c.number-number.result in
    let digits : count ≡ (c.args.value.width + 3) / 4 = grind (arith, c.div_ceil-digits.ensures, c.width.ensures.width) in
    let all : hex_digits count number ≡ hex c.args.value.width c.args.value.number = ap₂ hex_digits digits c.number-number.ensures.number in
    subst (λ (ds : List ℕ). Gains c.args.page.now c.push_digits.new.page ds) (low_digits count number c.if-digits-le16.true ∙ all) c.push_digits.ensures

pub push_digits-requires-2-clause-room : goal.push_digits-requires-2-clause-room
push_digits-requires-2-clause-room c =
    let count = c.div_ceil-digits.result in
    let number = c.number-number.result in
    let digits : count ≡ (c.args.value.width + 3) / 4 = grind (arith, c.div_ceil-digits.ensures, c.width.ensures.width) in
    let all : hex_digits count number ≡ hex c.args.value.width c.args.value.number = ap₂ hex_digits digits c.number-number.ensures.number in
    room_first _ (subst (λ (ds : List ℕ). HasRoom c.args.page.now ds) (sym all ∙ split_digits count number (omega (arith, c.if-digits-le16.false))) c.requires)

pub push_digits-requires-3-clause-room : goal.push_digits-requires-3-clause-room
push_digits-requires-3-clause-room c =
    let count = c.div_ceil-digits.result in
    let number = c.number-number.result in
    let digits : count ≡ (c.args.value.width + 3) / 4 = grind (arith, c.div_ceil-digits.ensures, c.width.ensures.width) in
    let all : hex_digits count number ≡ hex c.args.value.width c.args.value.number = ap₂ hex_digits digits c.number-number.ensures.number in
    room_next c.push_digits-2.new.page (hex_digits (count - 16) (number / 2 ^ 64)) c.push_digits-2.ensures
    (subst (λ (ds : List ℕ). HasRoom c.args.page.now ds) (sym all ∙ split_digits count number (omega (arith, c.if-digits-le16.false))) c.requires)

pub returns : goal.returns
returns c =
    let count = c.div_ceil-digits.result in
    let number = c.number-number.result in
    let digits : count ≡ (c.args.value.width + 3) / 4 = grind (arith, c.div_ceil-digits.ensures, c.width.ensures.width) in
    let all : hex_digits count number ≡ hex c.args.value.width c.args.value.number = ap₂ hex_digits digits c.number-number.ensures.number in
    subst (λ (ds : List ℕ). Gains c.args.page.now c.push_digits-3.new.page ds) (sym (split_digits count number (omega (arith, c.if-digits-le16.false))) ∙ all) (in_turn c.push_digits-2.ensures c.push_digits-3.ensures)
