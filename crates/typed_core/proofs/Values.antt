-- The values that parts of actions come to have the widths that their types say.
use Rattle.std.proofs.Common.{◌≡◌, ℕ, ◌+◌, ◌-◌, ◌^◌, ◌<◌, ◌≤◌, List, length, Option, Some, All, refl, sym, ap, ◌∙◌, subst, arith}
use Rattle.std.specs.Prelude.{slice_get}
use Rattle.std.proofs.lemmas.Option.{slice_get_within, get_or_from_slice_get}
use Rattle.kw_bits.specs.BitVector.{BitVector}
use Rattle.kw_bits.specs.Host as host
use Rattle.kw_bits.specs.Laws.{HasWidth}
use Rattle.kw_bits.specs.Operators as op
use Rattle.kw_bits.proofs.OperatorLaws as laws
use Rattle.typed_core.specs.Evaluation.{answer_of, apply_one, apply_two, entry_of, unit}
use Rattle.typed_core.specs.Fits.{ValueFits}
use Rattle.typed_core.specs.Valid.{HostHasWidth, IsHost, IsTable, OneHasWidth, TableHasWidth, TwoHasWidth}
use Rattle.typed_core.specs.declared.action.OneOp.{OneOp}
use Rattle.typed_core.specs.declared.action.OneOp.TheVariants.{Not, Neg, RedAnd, RedOr, RedXor}
use Rattle.typed_core.specs.declared.action.TwoOp.{TwoOp}
use Rattle.typed_core.specs.declared.action.TwoOp.TheVariants.{And, Or, Xor, Add, Sub, Mul, Sll, Srl, Sra, EqBits, Ult, Ulte, Slt, Slte, Concat}
use Rattle.kw_bits.specs.declared.host.HostSpec.{HostSpec}
use Rattle.kw_bits.specs.declared.table.TableSpec.{TableSpec}

pub ValueFits-unit : ValueFits 0 unit
ValueFits-unit = record { as_wide = refl; bits = λ h. absurd (omega arith) }

pub ValueFits-bits : (width : ℕ) (value : BitVector) → HasWidth value width → ValueFits width value
ValueFits-bits width value h = record { as_wide = h.1; bits = λ _. h.0 }

pub bits_of : (width : ℕ) (value : BitVector) → 1 ≤ width → ValueFits width value → HasWidth value width
bits_of width value some f = (f.bits some, f.as_wide)

at_width : (v w : ℕ) (value : BitVector) → v ≡ w → HasWidth value v → HasWidth value w
at_width v w value e h = subst (λ (n : ℕ). HasWidth value n) e h

pub one_fits : (operator : OneOp) (operand width : ℕ) (x : BitVector) → HasWidth x operand → OneHasWidth operator operand width → HasWidth (apply_one operator x) width
one_fits Not operand width x h t = at_width _ _ _ (h.1 ∙ t) (laws.not-HasWidth x h.0)
one_fits Neg operand width x h t = at_width _ _ _ (h.1 ∙ t) (laws.neg-HasWidth x h.0)
one_fits RedAnd operand width x h t = at_width _ _ _ (sym t) (laws.redand-HasWidth x h.0)
one_fits RedOr operand width x h t = at_width _ _ _ (sym t) (laws.redor-HasWidth x h.0)
one_fits RedXor operand width x h t = at_width _ _ _ (sym t) (laws.redxor-HasWidth x h.0)

-- operands of one width
alike : (left right : ℕ) (x y : BitVector) → HasWidth x left → HasWidth y right → left ≡ right → x.width ≡ y.width
alike left right x y h k e = h.1 ∙ e ∙ sym k.1

pub two_fits : (operator : TwoOp) (left right width : ℕ) (x y : BitVector) → HasWidth x left → HasWidth y right → TwoHasWidth operator left right width → HasWidth (apply_two operator x y) width
two_fits And left right width x y h k t = at_width _ _ _ (h.1 ∙ sym t.1) (laws.and-HasWidth x y h.0 k.0 (alike _ _ x y h k t.0))
two_fits Or left right width x y h k t = at_width _ _ _ (h.1 ∙ sym t.1) (laws.or-HasWidth x y h.0 k.0 (alike _ _ x y h k t.0))
two_fits Xor left right width x y h k t = at_width _ _ _ (h.1 ∙ sym t.1) (laws.xor-HasWidth x y h.0 k.0 (alike _ _ x y h k t.0))
two_fits Add left right width x y h k t = at_width _ _ _ (h.1 ∙ sym t.1) (laws.add-HasWidth x y h.0 k.0 (alike _ _ x y h k t.0))
two_fits Sub left right width x y h k t = at_width _ _ _ (h.1 ∙ sym t.1) (laws.sub-HasWidth x y h.0 k.0 (alike _ _ x y h k t.0))
two_fits Mul left right width x y h k t = at_width _ _ _ (h.1 ∙ sym t.1) (laws.mul-HasWidth x y h.0 k.0 (alike _ _ x y h k t.0))
two_fits Sll left right width x y h k t = at_width _ _ _ (h.1 ∙ sym t.1) (laws.sll-HasWidth x y h.0 k.0 (alike _ _ x y h k t.0))
two_fits Srl left right width x y h k t = at_width _ _ _ (h.1 ∙ sym t.1) (laws.srl-HasWidth x y h.0 k.0 (alike _ _ x y h k t.0))
two_fits Sra left right width x y h k t = at_width _ _ _ (h.1 ∙ sym t.1) (laws.sra-HasWidth x y h.0 k.0 (alike _ _ x y h k t.0))
two_fits EqBits left right width x y h k t = at_width _ _ _ (sym t.1) (laws.eq_bits-HasWidth x y h.0 k.0 (alike _ _ x y h k t.0))
two_fits Ult left right width x y h k t = at_width _ _ _ (sym t.1) (laws.ult-HasWidth x y h.0 k.0 (alike _ _ x y h k t.0))
two_fits Ulte left right width x y h k t = at_width _ _ _ (sym t.1) (laws.ulte-HasWidth x y h.0 k.0 (alike _ _ x y h k t.0))
two_fits Slt left right width x y h k t = at_width _ _ _ (sym t.1) (laws.slt-HasWidth x y h.0 k.0 (alike _ _ x y h k t.0))
two_fits Slte left right width x y h k t = at_width _ _ _ (sym t.1) (laws.slte-HasWidth x y h.0 k.0 (alike _ _ x y h k t.0))
two_fits Concat left right width x y h k t =
    let sum : x.width + y.width ≡ width = ap (λ n. n + y.width) h.1 ∙ ap (λ n. left + n) k.1 ∙ sym t.1 in
    at_width _ _ _ sum (laws.concat-HasWidth x y h.0 k.0 (omega (arith, t.0, h.1, k.1)))

pub slice_fits : (operand upper lower : ℕ) (x : BitVector) → HasWidth x operand → lower ≤ upper → upper < operand → HasWidth (op.slice x upper lower) (upper - lower + 1)
slice_fits operand upper lower x h order within = laws.slice-HasWidth x upper lower h.0 order (omega (arith, h.1, within))

pub zext_fits : (operand to : ℕ) (x : BitVector) → HasWidth x operand → operand ≤ to → to ≤ 128 → HasWidth (op.zext x to) to
zext_fits operand to x h wider most = laws.zext-HasWidth x to h.0 (omega (arith, h.1, wider)) most

pub sext_fits : (operand to : ℕ) (x : BitVector) → HasWidth x operand → operand ≤ to → to ≤ 128 → HasWidth (op.sext x to) to
sext_fits operand to x h wider most = laws.sext-HasWidth x to h.0 (omega (arith, h.1, wider)) most

-- what holds of all items of a list holds of one that was found in it
pub found_holds : {X : Type 0} (P : X → Type 0) (xs : List X) (k : ℕ) (x : X) → All P xs → slice_get xs k ≡ Some x → P x
found_holds P xs k x all e = subst P (get_or_from_slice_get xs k x x e) (all k x (slice_get_within xs k x e))

-- a table's entry has the table's output width
pub entry_fits : (tables : List TableSpec) (table operand width : ℕ) (x : BitVector) → All IsTable tables → TableHasWidth tables table operand width → HasWidth x operand → HasWidth (entry_of (slice_get tables table) x) width
entry_fits tables table operand width x all (spec, found, takes, gives) h =
    let valid = found_holds IsTable tables table spec all found in
    let within : x.number < length spec.entries = subst (λ (n : ℕ). x.number < n) (ap (λ n. 2 ^ n) (h.1 ∙ sym takes) ∙ sym valid.count) h.0.in_range in
    subst (λ (o : Option TableSpec). HasWidth (entry_of o x) width) (sym found) (at_width _ _ _ gives (valid.entries x.number unit within))

-- a host function's answer has its output width
pub answer_fits : (hosts : List HostSpec) (number operand width : ℕ) (x : BitVector) → All IsHost hosts → HostHasWidth hosts number operand width → HasWidth x operand → HasWidth (answer_of (slice_get hosts number) x) width
answer_fits hosts number operand width x all (spec, found, takes, gives) h =
    let valid = found_holds IsHost hosts number spec all found in
    let same : x.width ≡ spec.in_width = h.1 ∙ sym takes in
    subst (λ (o : Option HostSpec). HasWidth (answer_of o x) width) (sym found)
    (at_width _ _ _ (ap (host.out_width spec.kind) same ∙ gives) (laws.host-HasWidth spec.kind x h.0 (subst (λ (w : ℕ). host.TakesWidth spec.kind w) (sym same) valid)))
