use Rattle.std.proofs.Common.{ℕ, ◌<◌, Err, refl, sym, subst}
use Rattle.koika_parse.proofs.Expected.{one_takes, too_deep, handed}
use Rattle.koika_parse.proofs.Reading.{one_token, open_behind_next}
use Rattle.koika_parse.specs.inner.Expected.{Any, One, Takes}
use Rattle.koika_parse.proofs.source.Source.step.Goals as goal

pub returns-clause-read : goal.returns-clause-read
returns-clause-read c terminal at =
    one_token c.args.self.now c.args.cursor.now _ c.index-self-cursor.result terminal c.requires at refl
    c.in_ok-depth.ensures.behind c.in_ok-depth.ensures.few

pub returns-clause-takes : goal.returns-clause-takes
returns-clause-takes c terminal at = one_takes _ refl
    (one_token c.args.self.now c.args.cursor.now _ c.index-self-cursor.result terminal c.requires at refl
    c.in_ok-depth.ensures.behind c.in_ok-depth.ensures.few)

pub returns-in_err-depth-clause-takes : goal.returns-in_err-depth-clause-takes
returns-in_err-depth-clause-takes c terminal at =
    let same = open_behind_next c.args.self.now c.args.cursor.now c.index-self-cursor.result terminal c.requires at in
    let deep = c.in_err-depth.ensures.deep in
    handed c.from_residual.result c.from_residual.ensures
    (subst (λ stop. Takes {X = ℕ} c.args.self.now c.args.cursor.now c.args.cursor.now (One terminal) Any (Err stop))
    (sym deep.0) (too_deep terminal at (subst (λ n. 64 < n) (sym same) deep.1)))
