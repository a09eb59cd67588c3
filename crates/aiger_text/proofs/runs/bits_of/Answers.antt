use Rattle.std.proofs.Common.{◌+◌, ◌*◌, ◌^◌, ◌<◌, length, get_or, false, sym, subst, ap, ◌∙◌}
use Rattle.std.proofs.lemmas.List.{take_all}
use Rattle.aig_blast.specs.BitLists.{bit, number}
use Rattle.aig_blast.proofs.Numbers.{number-lt, number-take-lt}
use Rattle.aig_blast.proofs.SimValues.{number-more}
use Rattle.aiger_text.proofs.runs.bits_of.Goals as goal

pub with_bit-number-requires-clause-number : goal.with_bit-number-requires-clause-number
with_bit-number-requires-clause-number c = subst (λ n. n < 2 ^ c.loop-k.k) (sym c.loop-k.invariant) (number-take-lt c.loop-k.k c.args.flags.now)

pub loop-k-preserved : goal.loop-k-preserved
loop-k-preserved c =
    c.with_bit-number.ensures ∙ ap (λ n. n + 2 ^ c.loop-k.k * bit (get_or c.args.flags.now c.loop-k.k false)) c.loop-k.invariant ∙ sym (number-more c.args.flags.now c.loop-k.k)

pub unwrap-requires : goal.unwrap-requires
unwrap-requires c =
    c.new.ensures.some.1 (record {
      some_bit = c.requires.some;
      no_wider = c.requires.most;
      in_range = subst (λ n. n < 2 ^ length c.args.flags.now) (sym (c.loop-k.invariant ∙ ap number (take_all c.loop-k.k c.args.flags.now c.loop-k-test.false))) (number-lt c.args.flags.now);
    })
