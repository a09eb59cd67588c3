use Rattle.std.proofs.Common.{◌≡◌, Result, Some, ap, ◌∙◌}
use Rattle.koika_syntax.specs.Grammar.{IsDeclaration, declaration_leaves}
use Rattle.koika_syntax.specs.declared.keyword.Keyword.{Keyword}
use Rattle.koika_parse.specs.declared.cursor.Cursor.{Cursor}
use Rattle.koika_parse.specs.declared.source.Source.{Source}
use Rattle.koika_parse.specs.inner.Stops.{Stop}
use Rattle.koika_parse.specs.inner.Reading.{next}
use Rattle.koika_parse.specs.inner.Expected.{Part, Takes, Any}
use Rattle.koika_parse.specs.inner.Words.{DeclarationWord}
use Rattle.koika_parse.proofs.Expected.{Has, Within, tail, free_last}
use Rattle.koika_parse.proofs.DeclarationWords.{declaration_at, assert_within, declaration_refused, enum_within}
use Rattle.koika_parse.proofs.DeclarationWords.{function_within, host_within, input_within, other_declaration}
use Rattle.koika_parse.proofs.DeclarationWords.{register_within, rule_within, some_assert, some_enum, some_function}
use Rattle.koika_parse.proofs.DeclarationWords.{some_host, some_input, some_register, some_rule, some_struct}
use Rattle.koika_parse.proofs.DeclarationWords.{some_table, struct_within, table_within}
use Rattle.koika_syntax.specs.Tree.{keyword}
use Rattle.koika_parse.proofs.source.Source.begun_declaration.Goals as goal

-- a declaration by the keyword that it begins with
begun_by : {X : Type 0} {source : Source} {old new : Cursor} {result : Result X Stop} {found k : Keyword} →
    next source old ≡ Some (keyword found) → found ≡ k → Has (DeclarationWord k) →
    Within (DeclarationWord k) (Part IsDeclaration declaration_leaves) →
    Takes source old new (DeclarationWord k) Any result →
    Takes source old new (Part IsDeclaration declaration_leaves) Any result
begun_by {result = result} {k = k} at same some within takes =
    tail result (declaration_at k some within (at ∙ ap (λ k. Some (keyword k)) same)) takes (free_last Any)

pub returns-in-Enum-clause-takes : goal.returns-in-Enum-clause-takes
returns-in-Enum-clause-takes c = begun_by c.requires c.in-Enum.is some_enum enum_within c.enum_declaration.ensures.takes

pub returns-in-Struct-clause-takes : goal.returns-in-Struct-clause-takes
returns-in-Struct-clause-takes c =
    begun_by c.requires c.in-Struct.is some_struct struct_within c.struct_declaration.ensures.takes

pub returns-in-Reg-clause-takes : goal.returns-in-Reg-clause-takes
returns-in-Reg-clause-takes c =
    begun_by c.requires c.in-Reg.is some_register register_within c.register_declaration.ensures.takes

pub returns-in-Input-clause-takes : goal.returns-in-Input-clause-takes
returns-in-Input-clause-takes c =
    begun_by c.requires c.in-Input.is some_input input_within c.input_declaration.ensures.takes

pub returns-in-Table-clause-takes : goal.returns-in-Table-clause-takes
returns-in-Table-clause-takes c =
    begun_by c.requires c.in-Table.is some_table table_within c.table_declaration.ensures.takes

pub returns-in-Host-clause-takes : goal.returns-in-Host-clause-takes
returns-in-Host-clause-takes c = begun_by c.requires c.in-Host.is some_host host_within c.host_declaration.ensures.takes

pub returns-in-Fun-clause-takes : goal.returns-in-Fun-clause-takes
returns-in-Fun-clause-takes c =
    begun_by c.requires c.in-Fun.is some_function function_within c.function_declaration.ensures.takes

pub returns-in-Rule-clause-takes : goal.returns-in-Rule-clause-takes
returns-in-Rule-clause-takes c = begun_by c.requires c.in-Rule.is some_rule rule_within c.rule_declaration.ensures.takes

pub returns-in-Assert-clause-takes : goal.returns-in-Assert-clause-takes
returns-in-Assert-clause-takes c =
    begun_by c.requires c.in-Assert.is some_assert assert_within c.assert_declaration.ensures.takes

pub returns-in_default-clause-takes : goal.returns-in_default-clause-takes
returns-in_default-clause-takes c = declaration_refused c.args.begin
    (other_declaration c.args.begin c.in_default.not-Enum c.in_default.not-Struct c.in_default.not-Reg
    c.in_default.not-Input c.in_default.not-Table c.in_default.not-Host c.in_default.not-Fun c.in_default.not-Rule
    c.in_default.not-Assert) c.requires
