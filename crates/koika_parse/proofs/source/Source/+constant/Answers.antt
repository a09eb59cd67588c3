use Rattle.koika_syntax.specs.Grammar.{IsConstant, constant_leaves}
use Rattle.koika_syntax.specs.inner.Grammar.{constant_field_leaves}
use Rattle.koika_syntax.specs.Tree.{sign}
use Rattle.koika_syntax.specs.declared.symbol.Symbol.TheVariants as symbols
use Rattle.koika_syntax.proofs.Leaves.{struct_constant, array_constant}
use Rattle.koika_parse.specs.inner.Parts.{IsConstantField}
use Rattle.koika_parse.proofs.Reading.{as_leaves}
use Rattle.koika_parse.proofs.Lists.{joined_start, joined_again}
use Rattle.koika_parse.proofs.Parts.{is_constant_array, is_constant_field, is_constant_member, is_constant_struct}
use Rattle.koika_parse.proofs.Calls.{leaves_constant_field, leaves_constant_member}
use Rattle.koika_parse.proofs.Expected.{step, finish, last_part, fails, fails_before, fails_last, tail, free_last, not_so}
use Rattle.koika_parse.specs.inner.Expected.{Any}
use Rattle.koika_parse.proofs.Commas.{commas_start, commas_apart, commas_at, commas_end, commas_first, commas_next}
use Rattle.koika_parse.proofs.ConstantWords.{FieldsTail, constant_array_start, constant_at_bracket, constant_at_name}
use Rattle.koika_parse.proofs.ConstantWords.{constant_elsewhere, constant_field_start, some_constant_field}
use Rattle.koika_parse.proofs.ConstantWords.{named_constant_start, some_fields_tail}
use Rattle.koika_parse.proofs.Witnesses.{some_constant}
use Rattle.koika_parse.proofs.Rows.{name_not_brace, brace_not_name}
use Rattle.koika_parse.proofs.Words.{before_brace, before_bracket}
use Rattle.koika_parse.proofs.Steps.{◌past◌, ◌then◌}
use Rattle.koika_parse.proofs.source.Source.+constant.Goals as goal

pub constants-more-init : goal.constants-more-init
constants-more-init t c = (
  joined_start _ _ _ (sign symbols.Comma) constant_leaves IsConstant c.in_ok-first.first _ c.push.new.self
      c.in_ok-first.ensures.read c.in_ok-first.ensures.is c.new-all.ensures c.in_ok-push.ensures.ok,
  commas_first some_constant c.in_ok-first.ensures.takes tt,
)

pub constants-more-preserved : goal.constants-more-preserved
constants-more-preserved t c = (
  joined_again c.in_ok-next.next c.push-in-more.new.self c.more.invariant.0 c.in_ok-sign.ensures.read
      c.in_ok-next.ensures.read c.in_ok-next.ensures.is c.in_ok-push-2.ensures.ok,
  commas_next some_constant (c.is_at_sign.ensures.0 c.more-test.true) c.more.invariant.1
      c.in_ok-sign.ensures.takes c.in_ok-next.ensures.takes tt,
)

pub constant_fields-more-init : goal.constant_fields-more-init
constant_fields-more-init t c = (
  joined_start _ _ _ (sign symbols.Comma) constant_field_leaves IsConstantField c.in_ok-first.first _ c.push.new.self
      c.in_ok-first.ensures.read c.in_ok-first.ensures.is c.new-all.ensures c.in_ok-push.ensures.ok,
  commas_first some_constant_field c.in_ok-first.ensures.takes tt,
)

pub constant_fields-more-preserved : goal.constant_fields-more-preserved
constant_fields-more-preserved t c = (
  joined_again c.in_ok-next.next c.push-in-more.new.self c.more.invariant.0 c.in_ok-sign.ensures.read
      c.in_ok-next.ensures.read c.in_ok-next.ensures.is c.in_ok-push-2.ensures.ok,
  commas_next some_constant_field (c.is_at_sign.ensures.0 c.more-test.true) c.more.invariant.1
      c.in_ok-sign.ensures.takes c.in_ok-next.ensures.takes tt,
)

pub constant_array-returns-clause-read : goal.constant_array-returns-clause-read
constant_array-returns-clause-read t c =
    as_leaves _ (array_constant c.in_ok-place.place c.in_ok-elements.elements)
    (c.in_ok-place.ensures.read then c.in_ok-elements.ensures.read then c.in_ok-sign.ensures.read)

pub constant_array-returns-clause-is : goal.constant_array-returns-clause-is
constant_array-returns-clause-is t c =
    is_constant_array c.in_ok-place.place c.in_ok-elements.elements c.in_ok-elements.ensures.is c.in_ok-elements.ensures.some

pub constant_field-returns-clause-read : goal.constant_field-returns-clause-read
constant_field-returns-clause-read t c =
    as_leaves _ (leaves_constant_field c.in_ok-name.name c.in_ok-value.value)
    (c.in_ok-name.ensures.read then c.in_ok-sign.ensures.read then c.in_ok-value.ensures.read)

pub constant_field-returns-clause-is : goal.constant_field-returns-clause-is
constant_field-returns-clause-is t c =
    is_constant_field c.in_ok-name.name c.in_ok-value.value c.in_ok-name.ensures.is c.in_ok-value.ensures.is

pub named_constant-returns-then-is_at_name-clause-read : goal.named_constant-returns-then-is_at_name-clause-read
named_constant-returns-then-is_at_name-clause-read t c =
    as_leaves _ (leaves_constant_member c.in_ok-of.of c.in_ok-member.member)
    (c.in_ok-of.ensures.read then c.in_ok-sign.ensures.read then c.in_ok-member.ensures.read)

pub named_constant-returns-then-is_at_name-clause-is : goal.named_constant-returns-then-is_at_name-clause-is
named_constant-returns-then-is_at_name-clause-is t c =
    is_constant_member c.in_ok-of.of c.in_ok-member.member (c.in_ok-of.ensures.is, c.in_ok-member.ensures.is)

pub named_constant-returns-clause-read : goal.named_constant-returns-clause-read
named_constant-returns-clause-read t c =
    as_leaves _ (struct_constant c.in_ok-of.of c.in_ok-fields.fields c.in_ok-close.close)
    (c.in_ok-of.ensures.read then c.in_ok-sign.ensures.read then c.in_ok-sign-2.ensures.read then c.in_ok-fields.ensures.read
    then c.in_ok-close.ensures.read)

pub named_constant-returns-clause-is : goal.named_constant-returns-clause-is
named_constant-returns-clause-is t c =
    is_constant_struct c.in_ok-of.of c.in_ok-fields.fields c.in_ok-close.close c.in_ok-fields.ensures.is
    (c.in_ok-of.ensures.is, c.in_ok-fields.ensures.some)

pub constant-returns-then-is_at_name-clause-takes : goal.constant-returns-then-is_at_name-clause-takes
constant-returns-then-is_at_name-clause-takes t c =
    tail c.named_constant.result (constant_at_name (c.is_at_name.ensures.0 c.if-is_at_name.true)) c.named_constant.ensures.takes
    (free_last Any)

pub constant-returns-then-is_at_sign-clause-takes : goal.constant-returns-then-is_at_sign-clause-takes
constant-returns-then-is_at_sign-clause-takes t c =
    tail c.constant_array.result (constant_at_bracket (c.is_at_sign.ensures.0 c.if-is_at_sign.true))
    c.constant_array.ensures.takes (free_last Any)

pub constant-returns-clause-takes : goal.constant-returns-clause-takes
constant-returns-clause-takes t c =
    tail c.literal_constant.result
    (constant_elsewhere (not_so c.is_at_name.ensures c.if-is_at_name.false) (not_so c.is_at_sign.ensures c.if-is_at_sign.false))
    c.literal_constant.ensures.takes (free_last Any)

pub constant_field-returns-in_err-name-clause-takes : goal.constant_field-returns-in_err-name-clause-takes
constant_field-returns-in_err-name-clause-takes t c = fails _ c.from_residual.ensures constant_field_start c.in_err-name.ensures.takes

pub constant_field-returns-in_err-sign-clause-takes : goal.constant_field-returns-in_err-sign-clause-takes
constant_field-returns-in_err-sign-clause-takes t c =
    fails _ c.from_residual-in_err-sign.ensures (constant_field_start past c.in_ok-name.ensures.takes) c.in_err-sign.ensures.takes

pub constant_field-returns-in_err-value-clause-takes : goal.constant_field-returns-in_err-value-clause-takes
constant_field-returns-in_err-value-clause-takes t c =
    let colon = constant_field_start past c.in_ok-name.ensures.takes past c.in_ok-sign.ensures.takes in
    fails_last _ c.from_residual-in_err-value.ensures colon c.in_err-value.ensures.takes

pub constant_field-returns-clause-takes : goal.constant_field-returns-clause-takes
constant_field-returns-clause-takes t c =
    last_part _ (constant_field_start past c.in_ok-name.ensures.takes past c.in_ok-sign.ensures.takes) c.in_ok-value.ensures.takes

pub constant_array-returns-in_err-place-clause-takes : goal.constant_array-returns-in_err-place-clause-takes
constant_array-returns-in_err-place-clause-takes t c =
    fails _ c.from_residual.ensures constant_array_start c.in_err-place.ensures.takes

pub constant_array-returns-in_err-elements-clause-takes : goal.constant_array-returns-in_err-elements-clause-takes
constant_array-returns-in_err-elements-clause-takes t c =
    let bracket = constant_array_start past c.in_ok-place.ensures.takes in
    fails_before _ c.from_residual-in_err-elements.ensures bracket c.in_err-elements.ensures.takes before_bracket

pub constant_array-returns-in_err-sign-clause-takes : goal.constant_array-returns-in_err-sign-clause-takes
constant_array-returns-in_err-sign-clause-takes t c =
    let elements = step (constant_array_start past c.in_ok-place.ensures.takes) c.in_ok-elements.ensures.takes before_bracket in
    fails_last _ c.from_residual-in_err-sign.ensures elements c.in_err-sign.ensures.takes

pub constant_array-returns-clause-takes : goal.constant_array-returns-clause-takes
constant_array-returns-clause-takes t c =
    let elements = step (constant_array_start past c.in_ok-place.ensures.takes) c.in_ok-elements.ensures.takes before_bracket in
    last_part _ elements c.in_ok-sign.ensures.takes

pub constant_fields-returns-in_err-first-clause-takes : goal.constant_fields-returns-in_err-first-clause-takes
constant_fields-returns-in_err-first-clause-takes t c =
    fails_before _ c.from_residual.ensures (commas_start some_constant_field) c.in_err-first.ensures.takes
    (commas_apart some_constant_field Any tt)

pub constant_fields-returns-in_err-sign-clause-takes : goal.constant_fields-returns-in_err-sign-clause-takes
constant_fields-returns-in_err-sign-clause-takes t c =
    fails _ c.from_residual-in_err-sign.ensures
    (commas_at some_constant_field (c.is_at_sign.ensures.0 c.more-test.true) c.more.invariant.1) c.in_err-sign.ensures.takes

pub constant_fields-returns-in_err-next-clause-takes : goal.constant_fields-returns-in_err-next-clause-takes
constant_fields-returns-in_err-next-clause-takes t c =
    let comma = commas_at some_constant_field (c.is_at_sign.ensures.0 c.more-test.true) c.more.invariant.1 past c.in_ok-sign.ensures.takes in
    fails_before _ c.from_residual-in_err-next.ensures comma c.in_err-next.ensures.takes (commas_apart some_constant_field Any tt)

pub constant_fields-returns-clause-takes : goal.constant_fields-returns-clause-takes
constant_fields-returns-clause-takes t c =
    finish _ (commas_end some_constant_field (not_so c.is_at_sign.ensures c.more-test.false) c.more.invariant.1)

pub constants-returns-in_err-first-clause-takes : goal.constants-returns-in_err-first-clause-takes
constants-returns-in_err-first-clause-takes t c =
    fails_before _ c.from_residual.ensures (commas_start some_constant) c.in_err-first.ensures.takes
    (commas_apart some_constant Any tt)

pub constants-returns-in_err-sign-clause-takes : goal.constants-returns-in_err-sign-clause-takes
constants-returns-in_err-sign-clause-takes t c =
    fails _ c.from_residual-in_err-sign.ensures
    (commas_at some_constant (c.is_at_sign.ensures.0 c.more-test.true) c.more.invariant.1) c.in_err-sign.ensures.takes

pub constants-returns-in_err-next-clause-takes : goal.constants-returns-in_err-next-clause-takes
constants-returns-in_err-next-clause-takes t c =
    let comma = commas_at some_constant (c.is_at_sign.ensures.0 c.more-test.true) c.more.invariant.1 past c.in_ok-sign.ensures.takes in
    fails_before _ c.from_residual-in_err-next.ensures comma c.in_err-next.ensures.takes (commas_apart some_constant Any tt)

pub constants-returns-clause-takes : goal.constants-returns-clause-takes
constants-returns-clause-takes t c =
    finish _ (commas_end some_constant (not_so c.is_at_sign.ensures c.more-test.false) c.more.invariant.1)

pub named_constant-returns-in_err-of-clause-takes : goal.named_constant-returns-in_err-of-clause-takes
named_constant-returns-in_err-of-clause-takes t c = fails _ c.from_residual.ensures named_constant_start c.in_err-of.ensures.takes

pub named_constant-returns-in_err-sign-clause-takes : goal.named_constant-returns-in_err-sign-clause-takes
named_constant-returns-in_err-sign-clause-takes t c =
    fails _ c.from_residual-in_err-sign.ensures (named_constant_start past c.in_ok-of.ensures.takes) c.in_err-sign.ensures.takes

pub named_constant-returns-in_err-member-clause-takes : goal.named_constant-returns-in_err-member-clause-takes
named_constant-returns-in_err-member-clause-takes t c =
    let colons = named_constant_start past c.in_ok-of.ensures.takes past c.in_ok-sign.ensures.takes in
    let member = name_not_brace FieldsTail (c.is_at_name.ensures.0 c.if-is_at_name.true) colons in
    fails_last _ c.from_residual-in_err-member.ensures member c.in_err-member.ensures.takes

pub named_constant-returns-then-is_at_name-clause-takes : goal.named_constant-returns-then-is_at_name-clause-takes
named_constant-returns-then-is_at_name-clause-takes t c =
    let colons = named_constant_start past c.in_ok-of.ensures.takes past c.in_ok-sign.ensures.takes in
    last_part _ (name_not_brace FieldsTail (c.is_at_name.ensures.0 c.if-is_at_name.true) colons) c.in_ok-member.ensures.takes

pub named_constant-returns-in_err-sign-2-clause-takes : goal.named_constant-returns-in_err-sign-2-clause-takes
named_constant-returns-in_err-sign-2-clause-takes t c =
    let colons = named_constant_start past c.in_ok-of.ensures.takes past c.in_ok-sign.ensures.takes in
    let braced = brace_not_name FieldsTail (not_so c.is_at_name.ensures c.if-is_at_name.false) some_fields_tail colons in
    fails _ c.from_residual-in_err-sign-2.ensures braced c.in_err-sign-2.ensures.takes

pub named_constant-returns-in_err-fields-clause-takes : goal.named_constant-returns-in_err-fields-clause-takes
named_constant-returns-in_err-fields-clause-takes t c =
    let colons = named_constant_start past c.in_ok-of.ensures.takes past c.in_ok-sign.ensures.takes in
    let braced = brace_not_name FieldsTail (not_so c.is_at_name.ensures c.if-is_at_name.false) some_fields_tail colons in
    let brace = braced past c.in_ok-sign-2.ensures.takes in
    fails_before _ c.from_residual-in_err-fields.ensures brace c.in_err-fields.ensures.takes before_brace

pub named_constant-returns-in_err-close-clause-takes : goal.named_constant-returns-in_err-close-clause-takes
named_constant-returns-in_err-close-clause-takes t c =
    let colons = named_constant_start past c.in_ok-of.ensures.takes past c.in_ok-sign.ensures.takes in
    let braced = brace_not_name FieldsTail (not_so c.is_at_name.ensures c.if-is_at_name.false) some_fields_tail colons in
    let fields = step (braced past c.in_ok-sign-2.ensures.takes) c.in_ok-fields.ensures.takes before_brace in
    fails_last _ c.from_residual-in_err-close.ensures fields c.in_err-close.ensures.takes

pub named_constant-returns-clause-takes : goal.named_constant-returns-clause-takes
named_constant-returns-clause-takes t c =
    let colons = named_constant_start past c.in_ok-of.ensures.takes past c.in_ok-sign.ensures.takes in
    let braced = brace_not_name FieldsTail (not_so c.is_at_name.ensures c.if-is_at_name.false) some_fields_tail colons in
    let fields = step (braced past c.in_ok-sign-2.ensures.takes) c.in_ok-fields.ensures.takes before_brace in
    last_part _ fields c.in_ok-close.ensures.takes
