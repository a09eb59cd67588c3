use Rattle.journal_check.specs.Tokens.{register_names}
use Rattle.journal_check.proofs.NamesFound.{NoneBefore}
use Rattle.journal_check.proofs.names.position_of_register.Given as goal

-- no name so far is it
abbrev pub invariant-loop-number : goal.invariant-loop-number
invariant-loop-number l = NoneBefore (register_names l.design) l.name l.number
