use Rattle.std.proofs.Common.{◌≡◌, ◌<◌, length, ap, ◌∙◌, arith}
use Rattle.clause_check.specs.Refutations.{Progress}
use Rattle.clause_check.proofs.Databases.{kept_more, numbered-nil}
use Rattle.clause_check.specs.inner.Progresses.{progress_of}
use Rattle.clause_check.proofs.database.Database.kept.Goals as goal

pub loop-k-init : goal.loop-k-init
loop-k-init c =
    let begun = c.in_ok-database.ensures.progress in
    let none : c.in_ok-database.database.last ≡ 0 = ap (λ (p : Progress). p.last) begun in
    record {
      variables = c.in_ok-database.ensures.variables;
      below = λ i low within. omega (arith, none, c.args.self.now.kept.positive i within);
      under = omega (arith, none);
      same = λ n. ap (λ (p : Progress). p.there n) begun ∙ numbered-nil n;
    }

pub loop-k-preserved : goal.loop-k-preserved
loop-k-preserved c =
    let d = c.args.self.now in
    let within : c.loop-k.k < length d.numbers.items = omega (arith, c.loop-k-test.true, c.len-k-end.ensures, d.numbers.ok.0) in
    record {
      variables = c.in_ok-keep.ensures.variables ∙ c.loop-k.invariant.variables;
      below = λ i low here. omega (arith, c.in_ok-keep.ensures.last, d.kept.ascends c.loop-k.k i (omega (arith, low)) here);
      under = omega (arith, c.in_ok-keep.ensures.last, d.kept.below c.loop-k.k within);
      same = kept_more d.numbers.items d.places.items d.literals.items c.loop-k.k (progress_of c.loop-k.database).there (progress_of c.keep.new.database).there d.kept.ascends d.kept.lengths within c.in_ok-keep.ensures.kept c.loop-k.invariant.same;
    }
