use Rattle.std.proofs.Common.{◌+◌, ◌∙◌}
use Rattle.koika_types.proofs.PartsSoFar.{opened, rest_total, rest_valid}
use Rattle.koika_types.proofs.lookup.field_place.Goals as goal

pub total_width-requires : goal.total_width-requires
total_width-requires c =
    let d = c.args.types.now in
    let fields = c.as_slice-fields.result.now in
    let o = opened d c.args.number c.structs.result.now c.index-structs-number.result fields c.structs.ensures.table c.requires.valid c.structs.ensures.structs c.index-structs-number.is c.as_slice-fields.ensures in
    rest_valid d c.args.number fields o (c.args.field + 1)

pub returns : goal.returns
returns c =
    let d = c.args.types.now in
    let fields = c.as_slice-fields.result.now in
    let o = opened d c.args.number c.structs.result.now c.index-structs-number.result fields c.structs.ensures.table c.requires.valid c.structs.ensures.structs c.index-structs-number.is c.as_slice-fields.ensures in
    c.total_width.ensures ∙ rest_total d c.args.number fields o (c.args.field + 1)
