use Rattle.std.proofs.Common.{ℕ, List, ◌∷◌, map, sym, ap, ◌∙◌}
use Rattle.kw_base.specs.Texts.{lines_of, without_return}
use Rattle.kw_base.proofs.texts.next_line.Goals as goal

pub returns-in_default-clause-absent : goal.returns-in_default-clause-absent
unfolding lines_of
returns-in_default-clause-absent c = ap (map without_return) c.in_default.ensures.absent

pub returns-clause-found : goal.returns-clause-found
unfolding lines_of
returns-clause-found c = ap (map without_return) c.in-Some.ensures.found ∙ ap (λ (bytes : List ℕ). bytes ∷ lines_of c.in-Some.line.rest.now) (sym c.without_return.ensures)
