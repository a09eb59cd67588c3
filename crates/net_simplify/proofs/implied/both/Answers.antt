use Rattle.std.proofs.Common.{Bool, refl, subst}
use Rattle.std.specs.Prelude.{Option}
use Rattle.net_simplify.specs.inner.Forms.{IsKnownBit}
use Rattle.net_simplify.proofs.Implying.{and-first_clear, and-second_clear, and-set}
use Rattle.net_simplify.proofs.implied.both.Goals as goal

pub returns-then-is_known : goal.returns-then-is_known
returns-then-is_known c = λ x y p q w a b. and-first_clear x y p q w (subst (λ (o : Option Bool). IsKnownBit o x) (c.if-is_known.ensures refl) a)

pub returns-then-is_known-2 : goal.returns-then-is_known-2
returns-then-is_known-2 c = λ x y p q w a b. and-second_clear x y p q w (subst (λ (o : Option Bool). IsKnownBit o y) (c.if-is_known-2.ensures refl) b)

pub returns-then-is_known-4 : goal.returns-then-is_known-4
returns-then-is_known-4 c = λ x y p q w a b. and-set x y p q w (subst (λ (o : Option Bool). IsKnownBit o x) (c.if-is_known-3.ensures refl) a) (subst (λ (o : Option Bool). IsKnownBit o y) (c.if-is_known-4.ensures refl) b)
