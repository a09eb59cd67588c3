use Rattle.std.proofs.Common.{◌≡◌, ◌+◌, ◌*◌, ◌^◌, ◌<◌, Bool, List, length, map, drop, sym, subst, ap, ◌∙◌, arith}
use Rattle.std.proofs.lemmas.List.{drop_all, length-map}
use Rattle.aig_blast.specs.BitLists.{bit}
use Rattle.aig_blast.specs.BitLists.{number as number_of}
use Rattle.aig_blast.specs.Graphs.{lit_value}
use Rattle.aig_blast.specs.inner.AigSims.{variable_values}
use Rattle.aig_blast.proofs.SimValues.{number-all, number-fits, number-step}
use Rattle.aig_blast.proofs.sim.word_value.Goals as goal

pub loop-k-init : goal.loop-k-init
loop-k-init c =
    let xs : List Bool = map (lit_value (variable_values c.args.values.now)) c.args.lits.now in
    ap number_of (sym (drop_all (length c.args.lits.now) xs (omega (arith, length-map c.args.lits.now (lit_value (variable_values c.args.values.now))))))

pub with_bit-number-requires : goal.with_bit-number-requires
with_bit-number-requires c =
    let xs : List Bool = map (lit_value (variable_values c.args.values.now)) c.args.lits.now in
    subst (λ n. n < 2 ^ 127) (sym c.loop-k.invariant) (number-fits xs c.loop-k.k c.loop-k-test.true (omega (arith, c.requires.most, length-map c.args.lits.now (lit_value (variable_values c.args.values.now)))))

pub loop-k-preserved : goal.loop-k-preserved
loop-k-preserved c =
    c.with_bit-number.ensures ∙ ap (λ b. bit b + 2 * c.loop-k.number) c.lit_value.ensures
    ∙ number-step (variable_values c.args.values.now) c.args.lits.now c.loop-k.k c.loop-k.number c.loop-k-test.true c.loop-k.auto.k c.loop-k.invariant

pub unwrap-requires : goal.unwrap-requires
unwrap-requires c =
    let all : c.loop-k.k ≡ 0 = omega (arith, c.loop-k-test.false) in
    c.new.ensures.some.1 (record {
      some_bit = c.requires.some;
      no_wider = c.requires.most;
      in_range = number-all (variable_values c.args.values.now) c.args.lits.now c.loop-k.number (c.loop-k.invariant ∙ ap (λ n. number_of (drop n (map (lit_value (variable_values c.args.values.now)) c.args.lits.now))) all);
    })
