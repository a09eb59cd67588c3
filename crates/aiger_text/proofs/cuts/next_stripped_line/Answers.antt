use Rattle.std.proofs.Common.{ℕ, List, ◌∷◌, map, sym, ap, ◌∙◌}
use Rattle.aiger_text.specs.Cuts.{lines_of, without_returns}
use Rattle.aiger_text.proofs.cuts.next_stripped_line.Goals as goal

pub returns-in_default-clause-absent : goal.returns-in_default-clause-absent
unfolding lines_of
returns-in_default-clause-absent c = ap (map without_returns) c.in_default.ensures.absent

pub returns-clause-found : goal.returns-clause-found
unfolding lines_of
returns-clause-found c = record {
  first = ap (map without_returns) c.in-Some.ensures.found ∙ ap (λ (bytes : List ℕ). bytes ∷ lines_of c.in-Some.line.rest.now) (sym c.without_returns.ensures);
  shorter = c.in-Some.ensures.shorter;
}
