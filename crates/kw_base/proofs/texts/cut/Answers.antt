use Rattle.std.proofs.Common.{◌++◌, ap, ◌∙◌}
use Rattle.std.proofs.lemmas.List.{nil_from_length}
use Rattle.kw_base.specs.Texts.{separates}
use Rattle.kw_base.proofs.Cutting.{piece_first, piece_last}
use Rattle.kw_base.proofs.texts.cut.Goals as goal

pub returns-in-Some-clause-pieces : goal.returns-in-Some-clause-pieces
returns-in-Some-clause-pieces c =
    let split = c.split_before.ensures in
    let after = c.in-Some.ensures.cases.0 in
    piece_first (separates c.args.at) c.args.bytes.now c.split_before.result.0.now c.in-Some.field-0-0.now c.in-Some.rest.now
    (split.parts ∙ ap (λ r. c.split_before.result.0.now ++ r) after) split.front (rw after at split.rest)

pub returns-in-None-clause-pieces : goal.returns-in-None-clause-pieces
returns-in-None-clause-pieces c =
    let split = c.split_before.ensures in
    piece_last (separates c.args.at) c.args.bytes.now c.split_before.result.0.now c.split_before.result.1.now split.parts split.front (nil_from_length _ c.in-None.ensures.cases)
