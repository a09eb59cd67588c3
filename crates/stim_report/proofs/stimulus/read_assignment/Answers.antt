use Rattle.std.proofs.Common.{sym, ◌∙◌, get_or}
use Rattle.std.specs.Str.Parse.{digits_value}
use Rattle.stim_report.proofs.AssignmentsRead.{assigns_input, given_fits, given_too_wide, given_twice, input_within, no_input, no_number, no_parts, width_at, width_is}
use Rattle.stim_report.proofs.stimulus.read_assignment.Goals as goal

pub returns-in_default-clause-is : goal.returns-in_default-clause-is
returns-in_default-clause-is c = λ line given. sym (no_parts c.args.inputs.now line c.args.word.now c.in_default.ensures.absent)

pub returns-in_default-numeral_of-clause-is : goal.returns-in_default-numeral_of-clause-is
returns-in_default-numeral_of-clause-is c = λ line given.
    let inputs = c.args.inputs.now in
    let word = c.args.word.now in
    let name = c.in-Some.parts.name.now in
    let value = c.in-Some.parts.value.now in
    let parts = c.in-Some.ensures.found in
    sym (no_number inputs line word name value parts c.in_default-numeral_of.ensures.absent)

pub returns-in_default-find-clause-is : goal.returns-in_default-find-clause-is
returns-in_default-find-clause-is c = λ line given.
    let inputs = c.args.inputs.now in
    let word = c.args.word.now in
    let name = c.in-Some.parts.name.now in
    let value = c.in-Some.parts.value.now in
    let parts = c.in-Some.ensures.found in
    let number = digits_value c.in-Some-numeral_of.value.radix c.in-Some-numeral_of.value.digits.now in
    let writes = c.in-Some-numeral_of.ensures.found.1 in
    sym (no_input inputs line word name value number parts writes (sym c.in_default-find.ensures))

pub returns-then-given-input-clause-is : goal.returns-then-given-input-clause-is
returns-then-given-input-clause-is c = λ line given.
    let inputs = c.args.inputs.now in
    let word = c.args.word.now in
    let name = c.in-Some.parts.name.now in
    let value = c.in-Some.parts.value.now in
    let parts = c.in-Some.ensures.found in
    let number = digits_value c.in-Some-numeral_of.value.radix c.in-Some-numeral_of.value.digits.now in
    let writes = c.in-Some-numeral_of.ensures.found.1 in
    let input = c.in-Some-find.input in
    let found = sym c.in-Some-find.ensures in
    sym (given_twice inputs line word name value number input parts writes found (sym (given.flag_each input) ∙ c.if-given-input.true))

pub bits_of-requires-clause-width : goal.bits_of-requires-clause-width
bits_of-requires-clause-width c =
    let inputs = c.args.inputs.now in
    let input = c.in-Some-find.input in
    width_at inputs input c.index-inputs-input.result (input_within inputs c.in-Some.parts.name.now input c.index-inputs-input.result (sym c.in-Some-find.ensures)) c.requires.widths

pub returns-in-Some-bits_of-clause-is : goal.returns-in-Some-bits_of-clause-is
returns-in-Some-bits_of-clause-is c = λ line given.
    let inputs = c.args.inputs.now in
    let word = c.args.word.now in
    let name = c.in-Some.parts.name.now in
    let value = c.in-Some.parts.value.now in
    let parts = c.in-Some.ensures.found in
    let number = digits_value c.in-Some-numeral_of.value.radix c.in-Some-numeral_of.value.digits.now in
    let writes = c.in-Some-numeral_of.ensures.found.1 in
    let input = c.in-Some-find.input in
    let found = sym c.in-Some-find.ensures in
    let within = input_within inputs name input c.index-inputs-input.result found in
    let width = width_is inputs input c.index-inputs-input.result within in
    let once = sym (given.flag_each input) ∙ c.if-given-input.false in
    given_fits inputs line word name value number input (get_or inputs input c.index-inputs-input.result).width c.in-Some-bits_of.bits parts writes found once width c.in-Some-bits_of.ensures

pub returns-in-Some-bits_of-clause-assigns : goal.returns-in-Some-bits_of-clause-assigns
returns-in-Some-bits_of-clause-assigns c =
    let inputs = c.args.inputs.now in
    let number = digits_value c.in-Some-numeral_of.value.radix c.in-Some-numeral_of.value.digits.now in
    assigns_input inputs c.in-Some.parts.name.now c.in-Some-find.input number c.index-inputs-input.result c.in-Some-bits_of.bits (sym c.in-Some-find.ensures) c.requires.widths c.in-Some-bits_of.ensures

pub returns-in-None-clause-is : goal.returns-in-None-clause-is
returns-in-None-clause-is c = λ line given.
    let inputs = c.args.inputs.now in
    let word = c.args.word.now in
    let name = c.in-Some.parts.name.now in
    let value = c.in-Some.parts.value.now in
    let parts = c.in-Some.ensures.found in
    let number = digits_value c.in-Some-numeral_of.value.radix c.in-Some-numeral_of.value.digits.now in
    let writes = c.in-Some-numeral_of.ensures.found.1 in
    let input = c.in-Some-find.input in
    let found = sym c.in-Some-find.ensures in
    let within = input_within inputs name input c.index-inputs-input.result found in
    let width = width_is inputs input c.index-inputs-input.result within in
    let once = sym (given.flag_each input) ∙ c.if-given-input.false in
    given_too_wide inputs line word name value number input (get_or inputs input c.index-inputs-input.result).width parts writes found once width c.in-None.ensures
