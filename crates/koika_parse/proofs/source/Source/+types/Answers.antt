use Rattle.std.proofs.Common.{subst, sym}
use Rattle.koika_syntax.specs.Grammar.{IsType, type_leaves}
use Rattle.koika_parse.proofs.Reading.{as_leaves, in_place_of}
use Rattle.koika_parse.proofs.Parts.{is_array_type}
use Rattle.koika_parse.proofs.Calls.{leaves_array_type}
use Rattle.koika_parse.proofs.Expected.{last_part, fails, fails_last, tail, free_last, begin, not_so}
use Rattle.koika_parse.specs.inner.Expected.{Any}
use Rattle.koika_parse.proofs.Words.{some_array_type, type_at_bits, type_at_name, type_elsewhere}
use Rattle.koika_parse.proofs.Steps.{◌past◌, ◌then◌}
use Rattle.koika_parse.specs.inner.Words.{ArrayTypeWord}
use Rattle.koika_parse.proofs.source.Source.+types.Goals as goal

pub array_type-returns-clause-read : goal.array_type-returns-clause-read
array_type-returns-clause-read t c =
    as_leaves _ (leaves_array_type c.in_ok-place.place c.in_ok-element.element c.in_ok-length.length)
    (c.in_ok-place.ensures.read
    then in_place_of type_leaves c.in_ok-element.element c.in_ok-element.ensures c.in_ok-inside.ensures.read
    then c.in_ok-sign.ensures.read then c.in_ok-length.ensures.read then c.in_ok-sign-2.ensures.read)

pub array_type-returns-clause-is : goal.array_type-returns-clause-is
array_type-returns-clause-is t c =
    is_array_type c.in_ok-place.place c.in_ok-element.element c.in_ok-length.length
    (subst IsType (sym c.in_ok-element.ensures) c.in_ok-inside.ensures.is) c.in_ok-length.ensures.is

pub array_type-returns-in_err-place-clause-takes : goal.array_type-returns-in_err-place-clause-takes
array_type-returns-in_err-place-clause-takes t c =
    fails _ c.from_residual.ensures (begin ArrayTypeWord some_array_type) c.in_err-place.ensures.takes

pub array_type-returns-in_err-inside-clause-takes : goal.array_type-returns-in_err-inside-clause-takes
array_type-returns-in_err-inside-clause-takes t c =
    let bracket = begin ArrayTypeWord some_array_type past c.in_ok-place.ensures.takes in
    fails _ c.from_residual-in_err-inside.ensures bracket c.in_err-inside.ensures.takes

pub array_type-returns-in_err-sign-clause-takes : goal.array_type-returns-in_err-sign-clause-takes
array_type-returns-in_err-sign-clause-takes t c =
    let element = begin ArrayTypeWord some_array_type past c.in_ok-place.ensures.takes past c.in_ok-inside.ensures.takes in
    fails _ c.from_residual-in_err-sign.ensures element c.in_err-sign.ensures.takes

pub array_type-returns-in_err-length-clause-takes : goal.array_type-returns-in_err-length-clause-takes
array_type-returns-in_err-length-clause-takes t c =
    let element = begin ArrayTypeWord some_array_type past c.in_ok-place.ensures.takes past c.in_ok-inside.ensures.takes in
    fails _ c.from_residual-in_err-length.ensures (element past c.in_ok-sign.ensures.takes) c.in_err-length.ensures.takes

pub array_type-returns-in_err-sign-2-clause-takes : goal.array_type-returns-in_err-sign-2-clause-takes
array_type-returns-in_err-sign-2-clause-takes t c =
    let element = begin ArrayTypeWord some_array_type past c.in_ok-place.ensures.takes past c.in_ok-inside.ensures.takes in
    let length = element past c.in_ok-sign.ensures.takes past c.in_ok-length.ensures.takes in
    fails_last _ c.from_residual-in_err-sign-2.ensures length c.in_err-sign-2.ensures.takes

pub array_type-returns-clause-takes : goal.array_type-returns-clause-takes
array_type-returns-clause-takes t c =
    let element = begin ArrayTypeWord some_array_type past c.in_ok-place.ensures.takes past c.in_ok-inside.ensures.takes in
    last_part _ (element past c.in_ok-sign.ensures.takes past c.in_ok-length.ensures.takes) c.in_ok-sign-2.ensures.takes

pub type_expression-returns-then-is_at_word-clause-takes : goal.type_expression-returns-then-is_at_word-clause-takes
type_expression-returns-then-is_at_word-clause-takes t c =
    tail c.width_type.result (type_at_bits (c.is_at_word.ensures.0 c.if-is_at_word.true)) c.width_type.ensures.takes (free_last Any)

pub type_expression-returns-then-is_at_name-clause-takes : goal.type_expression-returns-then-is_at_name-clause-takes
type_expression-returns-then-is_at_name-clause-takes t c =
    tail c.named_type.result (type_at_name (c.is_at_name.ensures.0 c.if-is_at_name.true)) c.named_type.ensures.takes (free_last Any)

pub type_expression-returns-clause-takes : goal.type_expression-returns-clause-takes
type_expression-returns-clause-takes t c =
    tail c.array_type.result
    (type_elsewhere (not_so c.is_at_word.ensures c.if-is_at_word.false) (not_so c.is_at_name.ensures c.if-is_at_name.false))
    c.array_type.ensures.takes (free_last Any)
