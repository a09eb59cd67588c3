use Rattle.std.proofs.Common.{refl, ap, map, subst, sym}
use Rattle.std.specs.List.{All}
use Rattle.std.proofs.lemmas.List.Elements.{All-nil}
use Rattle.koika_syntax.specs.Grammar.{IsField, field_leaves}
use Rattle.koika_syntax.specs.Tree.{commas, with_between}
use Rattle.koika_parse.proofs.Reading.{nothing, as_leaves}
use Rattle.koika_parse.proofs.Expected.{finish, not_so, tail}
use Rattle.koika_parse.specs.inner.Expected.{first}
use Rattle.koika_parse.proofs.DeclarationWords.{parameters_at, parameters_end}
use Rattle.koika_parse.proofs.PrimaryWords.{parenthesis_any}
use Rattle.koika_parse.proofs.source.Source.parameters.Goals as goal

pub returns-then-not-is_at_name-clause-read : goal.returns-then-not-is_at_name-clause-read
unfolding with_between
returns-then-not-is_at_name-clause-read c = as_leaves _ (ap (λ xs. commas (map field_leaves xs)) c.new-none.ensures) (nothing c.args.self.now c.args.cursor.now c.args.cursor.now refl)

pub returns-then-not-is_at_name-clause-is : goal.returns-then-not-is_at_name-clause-is
returns-then-not-is_at_name-clause-is c = subst (λ xs. All IsField xs) (sym c.new-none.ensures) (All-nil IsField)

pub returns-then-not-is_at_name-clause-takes : goal.returns-then-not-is_at_name-clause-takes
returns-then-not-is_at_name-clause-takes c = finish _ (parameters_end (not_so c.is_at_name.ensures c.if-not-is_at_name.true))

pub returns-clause-takes : goal.returns-clause-takes
returns-clause-takes c = tail c.fields.result (parameters_at (c.is_at_name.ensures.0 c.if-not-is_at_name.false)) c.fields.ensures.takes (λ v behind. parenthesis_any (first v) behind)
