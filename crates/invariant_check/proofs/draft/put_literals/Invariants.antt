use Rattle.std.proofs.Common.{◌≡◌, false, not, eqb, filter, map, take}
use Rattle.std.specs.List.{list_any}
use Rattle.invariant_check.specs.Obligations.{literal_of}
use Rattle.invariant_check.proofs.draft.put_literals.Given as goal

abbrev pub invariant-loop-lit : goal.invariant-loop-lit
invariant-loop-lit l =
    record {
      none : list_any (λ lit. eqb lit 1) (take l.lit-index l.lits) ≡ false;
      literals : l.literals.items ≡ map literal_of (filter (λ lit. not (eqb lit 0)) (take l.lit-index l.lits));
    }
