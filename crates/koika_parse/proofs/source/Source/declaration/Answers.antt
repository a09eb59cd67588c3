use Rattle.koika_parse.proofs.DeclarationWords.{declaration_none}
use Rattle.koika_parse.proofs.source.Source.declaration.Goals as goal

pub returns-in-Some-clause-takes : goal.returns-in-Some-clause-takes
returns-in-Some-clause-takes c = c.begun_declaration.ensures.takes

pub returns-in-None-clause-takes : goal.returns-in-None-clause-takes
returns-in-None-clause-takes c = declaration_none c.in-None.ensures.none
