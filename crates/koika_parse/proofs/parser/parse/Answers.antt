use Rattle.std.proofs.Common.{refl, arith, rules, Err}
use Rattle.koika_parse.proofs.Names.{names_stand, starts_stand}
use Rattle.koika_parse.proofs.Reading.{whole}
use Rattle.koika_syntax.specs.declared.tree.Tree.{Tree}
use Rattle.koika_parse.proofs.Designs.{fault_as, reads_back_refused, stands_between}
use Rattle.koika_parse.proofs.Unambiguous.{read_again}
use Rattle.koika_parse.proofs.OneFault.{no_fault, one_refused}
use Rattle.koika_parse.proofs.parser.parse.Goals as goal

pub invariant_of-source : goal.invariant_of-source
invariant_of-source c = record {
  short = search rules;
  starts = starts_stand c.args.text.now c.args.tokens.now c.requires.stands;
  names = names_stand c.args.text.now c.args.tokens.now c.requires.stands;
}

pub returns-in-Ok-clause-derived : goal.returns-in-Ok-clause-derived
returns-in-Ok-clause-derived c = record { design = c.in-Ok.ensures.is; leaves = whole c.in-Ok.ensures.read refl c.in-Ok.ensures.all }

pub returns-in-Ok-clause-few : goal.returns-in-Ok-clause-few
returns-in-Ok-clause-few c = c.in-Ok.ensures.read.few (omega arith)

pub returns-in-Err-clause-fault : goal.returns-in-Err-clause-fault
returns-in-Err-clause-fault c = fault_as {X = Tree} (Err c.refusal.result) c.refusal.ensures (λ fault is. stands_between c.in-Err.stop fault refl refl c.in-Err.ensures.takes is)

pub returns-in-Ok-clause-again : goal.returns-in-Ok-clause-again
returns-in-Ok-clause-again c = λ tree is same few.
    read_again c.args.text.now c.args.tokens.now tree c.in-Ok.tree is same (returns-in-Ok-clause-derived c)

pub returns-in-Err-clause-again : goal.returns-in-Err-clause-again
returns-in-Err-clause-again c = reads_back_refused c.refusal.result refl refl c.in-Err.ensures.takes c.refusal.ensures

pub returns-in-Ok-clause-refused : goal.returns-in-Ok-clause-refused
returns-in-Ok-clause-refused c = λ fault stands. no_fault c.args.text.now c.args.tokens.now c.in-Ok.tree fault (returns-in-Ok-clause-derived c) (returns-in-Ok-clause-few c) stands

pub returns-in-Err-clause-refused : goal.returns-in-Err-clause-refused
returns-in-Err-clause-refused c = λ fault stands. one_refused c.args.text.now c.args.tokens.now c.refusal.result fault (returns-in-Err-clause-fault c) stands
