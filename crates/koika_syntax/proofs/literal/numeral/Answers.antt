use Rattle.std.proofs.Common.{◌≡◌, ◌<◌, ◌^◌, take, drop, [], ◌∷◌, ◌++◌, sym, ap, ◌∙◌, subst, arith, take-append-drop}
use Rattle.std.specs.Char.{is_digit}
use Rattle.std.specs.Str.Parse.{digits_value}
use Rattle.std.proofs.lemmas.Bool.Decides.{Decides-eqb}
use Rattle.std.proofs.lemmas.List.Sums.{prefix_len-le-length}
use Rattle.std.proofs.lemmas.Slice.Eq.{strip_prefix_is}
use Rattle.koika_syntax.specs.inner.LexemeAnswers.{IsAnswer}
use Rattle.koika_syntax.proofs.Fronts.{first_digits, text_begins_number, text_faulty_number}
use Rattle.koika_syntax.proofs.literal.numeral.Goals as goal

pub split_at-requires : goal.split_at-requires
split_at-requires c = rw c.decimal_len.ensures (prefix_len-le-length (λ b. is_digit b 10) c.args.text.now)

pub literal-requires : goal.literal-requires
literal-requires c = rw (c.split_at.ensures.front, c.decimal_len.ensures) (first_digits c.args.text.now c.requires.some_byte c.requires.digit)

pub returns-in-Some : goal.returns-in-Some
returns-in-Some c =
    let behind = rw c.in-Some.is at (strip_prefix_is Decides-eqb c.split_at.result.1.now (39 ∷ []) c.strip_prefix.result c.strip_prefix.ensures.cases) in
    let parts : c.split_at.result.0.now ++ c.split_at.result.1.now ≡ c.args.text.now = rw (c.split_at.ensures.front, c.split_at.ensures.back) (take-append-drop c.decimal_len.result c.args.text.now) in
    subst (λ text. IsAnswer (λ kind. kind) text c.literal.result) (ap (λ l. c.split_at.result.0.now ++ l) (sym behind) ∙ parts) c.literal.ensures

pub returns-in-Some-number_of : goal.returns-in-Some-number_of
returns-in-Some-number_of c =
    let other = rw c.in-None.is at (strip_prefix_is Decides-eqb c.split_at.result.1.now (39 ∷ []) c.strip_prefix.result c.strip_prefix.ensures.cases) in
    let digits = c.split_at.ensures.front ∙ ap (λ n. take n c.args.text.now) c.decimal_len.ensures in
    let behind = c.split_at.ensures.back ∙ ap (λ n. drop n c.args.text.now) c.decimal_len.ensures in
    rw digits
    (text_begins_number c.args.text.now c.requires.some_byte c.requires.digit (λ tail split. other tail (behind ∙ split)) c.in-Some-number_of.number (c.in-Some-number_of.ensures.1 ∙ ap (digits_value 10) digits) (omega (arith, c.in-Some-number_of.ensures)))

pub returns-in-None-number_of : goal.returns-in-None-number_of
returns-in-None-number_of c =
    let other = rw c.in-None.is at (strip_prefix_is Decides-eqb c.split_at.result.1.now (39 ∷ []) c.strip_prefix.result c.strip_prefix.ensures.cases) in
    let digits = c.split_at.ensures.front ∙ ap (λ n. take n c.args.text.now) c.decimal_len.ensures in
    let behind = c.split_at.ensures.back ∙ ap (λ n. drop n c.args.text.now) c.decimal_len.ensures in
    let absent : ¬ (digits_value 10 c.split_at.result.0.now < 2 ^ 32) = c.in-None-number_of.ensures in
    text_faulty_number c.args.text.now c.requires.some_byte c.requires.digit (λ tail split. other tail (behind ∙ split)) (omega (arith, absent, ap (digits_value 10) digits))
