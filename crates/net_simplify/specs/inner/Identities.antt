-- The values of operators where something is known of them. It serves private functions alone.
use Rattle.std.specs.Prelude.{◌≡◌, ◌≢◌, ℕ, ◌-◌, ◌^◌, Bool, true, false, nat_lt}
use Rattle.kw_bits.specs.BitVector.{BitVector, IsBits}
use Rattle.kw_bits.specs.Laws.{HasWidth}
use Rattle.kw_bits.specs.Operators as op
use Rattle.net_graph.specs.Operators.{ite_value, two_value, two_width, TakesTwo}
use Rattle.net_graph.specs.declared.node.NetTwo.{NetTwo}
use Rattle.net_graph.specs.declared.node.NetTwo.TheVariants.{And, Or}
use Rattle.net_simplify.specs.declared.choices.Choice.{Choice}
use Rattle.net_simplify.specs.declared.choices.Choice.TheVariants as choices
use Rattle.net_simplify.specs.declared.identities.Identity.{Identity}
use Rattle.net_simplify.specs.declared.identities.Identity.TheVariants as identities
use Rattle.net_simplify.specs.declared.known.Known.{Known}
use Rattle.net_simplify.specs.declared.known.Known.TheVariants as known

-- all bits 0, and all bits 1
abbrev pub zeros : ℕ → BitVector
zeros width = record { width = width; number = 0 }

abbrev pub ones : ℕ → BitVector
ones width = record { width = width; number = 2 ^ width - 1 }

-- what is known holds of the value
abbrev pub IsKnown : Known → BitVector → Type 0
IsKnown known.Zero x = x.number ≡ 0
IsKnown known.Ones x = x.number ≡ 2 ^ x.width - 1
IsKnown known.One x = x.number ≡ 1
IsKnown known.Nothing x = Unit {0}

-- ---- two operands

-- two bit vectors are as is known, and equal where they are said to be the same
pub record Agree (a b : Known) (same : Bool) (x y : BitVector) : Type 0 where
  pub first : IsBits x
  pub second : IsBits y
  pub first_known : IsKnown a x
  pub second_known : IsKnown b y
  pub equal : same ≡ true → x ≡ y

-- the number of the first is at least that of the second, for all values
abbrev pub IsNeverBelow : Known → Known → Bool → Type 0
IsNeverBelow a b same = (x y : BitVector) → x.width ≡ y.width → Agree a b same x y → nat_lt x.number y.number ≡ false

-- what an identity says that an operator's value is
abbrev pub identity_value : NetTwo → Identity → BitVector → BitVector → BitVector
identity_value operator identities.Itself x y = two_value operator x y
identity_value operator identities.First x y = x
identity_value operator identities.Second x y = y
identity_value operator identities.NotFirst x y = op.not x
identity_value operator identities.NotSecond x y = op.not y
identity_value operator identities.Zero x y = zeros x.width
identity_value operator identities.False x y = zeros 1
identity_value operator identities.True x y = ones 1

-- and its width, by those of the operands
abbrev pub identity_width : NetTwo → Identity → ℕ → ℕ → ℕ
identity_width operator identities.Itself a b = two_width operator a b
identity_width operator identities.First a b = a
identity_width operator identities.Second a b = b
identity_width operator identities.NotFirst a b = a
identity_width operator identities.NotSecond a b = b
identity_width operator identities.Zero a b = a
identity_width operator identities.False a b = 1
identity_width operator identities.True a b = 1

-- which is the operator's
abbrev pub IsAsWide : NetTwo → Identity → Type 0
IsAsWide operator identity = (a b : ℕ) → TakesTwo operator a b → identity_width operator identity a b ≡ two_width operator a b

-- the identity holds of all operands of the operator that agree with what is known
abbrev pub HoldsOf : NetTwo → Known → Known → Bool → Identity → Type 0
HoldsOf operator a b same identity =
    (x y : BitVector) → TakesTwo operator x.width y.width → Agree a b same x y → two_value operator x y ≡ identity_value operator identity x y

-- where the operands are the same, neither `and` nor `or` is left
abbrev pub LeavesOnly : NetTwo → Bool → Identity → Type 0
LeavesOnly And same identities.Itself = same ≡ false
LeavesOnly Or same identities.Itself = same ≡ false
LeavesOnly operator same identity = Unit {0}

-- ---- a choice

-- a condition and what is chosen from are as is known, where they are chosen, and equal where they are said to be the
-- same
pub record Suit (condition a b : Known) (one_bit same : Bool) (c x y : BitVector) : Type 0 where
  pub is_bit : HasWidth c 1
  pub first : IsBits x
  pub second : IsBits y
  pub one_width : x.width ≡ y.width
  pub narrow : one_bit ≡ true → x.width ≡ 1
  pub condition_known : IsKnown condition c
  pub first_known : c.number ≡ 1 → IsKnown a x
  pub second_known : c.number ≢ 1 → IsKnown b y
  pub equal : same ≡ true → x ≡ y

-- the value of a choice
abbrev pub choice_value : Choice → BitVector → BitVector → BitVector → BitVector
choice_value choices.Itself c x y = ite_value c x y
choice_value choices.First c x y = x
choice_value choices.Second c x y = y
choice_value choices.Condition c x y = c
choice_value choices.NotCondition c x y = op.not c
choice_value choices.ConditionOrSecond c x y = op.or c y
choice_value choices.ConditionAndFirst c x y = op.and c x

-- its value is this, in all cases
abbrev pub ComesTo : Known → Known → Known → Bool → Bool → Choice → Type 0
ComesTo condition a b one_bit same choice =
    (c x y : BitVector) → Suit condition a b one_bit same c x y → ite_value c x y ≡ choice_value choice c x y

-- it is left as a choice only between two nodes, and is one bit only where there is one
abbrev pub LeavesChoice : Bool → Bool → Choice → Type 0
LeavesChoice one_bit same choices.Itself = same ≡ false
LeavesChoice one_bit same choices.First = Unit {0}
LeavesChoice one_bit same choices.Second = Unit {0}
LeavesChoice one_bit same _ = one_bit ≡ true

-- an operator that says something of equal operands: neither `and` nor `or`
abbrev pub IsDistinguishing : NetTwo → Type 0
IsDistinguishing And = ⊥
IsDistinguishing Or = ⊥
IsDistinguishing _ = Unit {0}
