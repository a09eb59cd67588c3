use Rattle.std.proofs.Common.{◌^◌, ◌/◌, arith}
use Rattle.std.proofs.Math.Nat.{div-eq_of_lt, lt-div-mul-add}
use Rattle.std.proofs.lemmas.Bool.{eqb-true, eq-eqb}
use Rattle.std.proofs.lemmas.Nat.{pow_pos}
use Rattle.btor2_model.proofs.numeral.is_below.Goals as goal

pub returns-else-width-eq128 : goal.returns-else-width-eq128
returns-else-width-eq128 c = (
  λ none.
      let zero_is = eqb-true (c.args.value / 2 ^ c.args.width) 0 none in
      let within = lt-div-mul-add {a = c.args.value} (pow_pos c.args.width) in
      omega (arith, rw zero_is at within),
  λ below. eq-eqb (c.args.value / 2 ^ c.args.width) 0 (div-eq_of_lt below),
)
