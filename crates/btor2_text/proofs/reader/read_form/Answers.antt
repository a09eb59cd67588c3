use Rattle.std.proofs.Common.{◌≤◌, ◌<◌, length, drop, sym, ◌∙◌}
use Rattle.std.proofs.lemmas.Bool.{false≢true}
use Rattle.std.proofs.lemmas.Result.{err_from_is_err_and}
use Rattle.btor2_text.specs.Cut.{words_of}
use Rattle.btor2_text.specs.Forms.{kinds_of}
use Rattle.btor2_text.specs.Lines.{BeginWithArguments, HasMinus}
use Rattle.btor2_text.proofs.FormsOfLines.{malformed, malformed-few, malformed-many, outside-minus, passes}
use Rattle.btor2_text.proofs.reader.read_form.Goals as goal

pub returns-in_default : goal.returns-in_default
returns-in_default c =
    let few : length (words_of c.args.bytes.now) < length (kinds_of c.args.keyword) = rw (← c.kinds-kinds.ensures) c.in_default.ensures.absent in
    malformed-few _ _ _ c.requires few

pub returns-in_err-symbol : goal.returns-in_err-symbol
returns-in_err-symbol c =
    let p = err_from_is_err_and c.from_residual.result c.from_residual.ensures.1 in
    rw (p.1, p.2)
    (passes c.in_err-symbol.field-0.0 _ _ _ _ _ _
    (λ many.
    let behind : 2 ≤ length (drop (length (kinds_of c.args.keyword)) (words_of c.args.bytes.now)) = rw (← c.kinds-kinds.ensures, ← c.in-Some.ensures.found.1) many in
    malformed-many _ _ _ c.requires behind)
    (λ never. absurd never) c.in_err-symbol.ensures)

pub returns-then-has_minus : goal.returns-then-has_minus
returns-then-has_minus c =
    let behind = sym c.in-Some.ensures.found.1 ∙ c.in_ok-symbol.ensures in
    outside-minus _ _ _ c.in_ok-symbol.symbol
    (rw (← c.kinds-kinds.ensures) c.in-Some.ensures.found.0)
    (rw (← c.kinds-kinds.ensures) behind)
    (rw (← c.kinds-kinds.ensures) (c.has_minus.ensures.0 c.if-has_minus.true))

pub returns-in_err-id : goal.returns-in_err-id
returns-in_err-id c =
    let p = err_from_is_err_and c.from_residual-in_err-id.result c.from_residual-in_err-id.ensures.1 in
    rw (p.1, p.2)
    (passes c.in_err-id.field-0.0 _ _ _ _ _ _
    (λ wrong. malformed _ _ _ c.requires (λ line parts. wrong line.id parts.id)
    (λ negation.
    let has : HasMinus c.kinds-kinds.result.now (words_of c.args.bytes.now) = rw c.kinds-kinds.ensures negation.minus in
    false≢true (sym c.if-has_minus.false ∙ c.has_minus.ensures.1 has)))
    (λ never. absurd never) c.in_err-id.ensures)

pub returns-in_err-arguments : goal.returns-in_err-arguments
returns-in_err-arguments c =
    let p = err_from_is_err_and c.from_residual-in_err-arguments.result c.from_residual-in_err-arguments.ensures.1 in
    rw (p.1, p.2)
    (passes c.in_err-arguments.field-0.0 _ _ _ _ _ _
    (λ wrong. malformed _ _ _ c.requires
    (λ line parts.
    let are : BeginWithArguments c.kinds-kinds.result.now (words_of c.args.bytes.now) line.arguments = rw c.kinds-kinds.ensures parts.arguments in
    wrong line.arguments are)
    (λ negation.
    let has : HasMinus c.kinds-kinds.result.now (words_of c.args.bytes.now) = rw c.kinds-kinds.ensures negation.minus in
    false≢true (sym c.if-has_minus.false ∙ c.has_minus.ensures.1 has)))
    (λ never. absurd never) c.in_err-arguments.ensures)
