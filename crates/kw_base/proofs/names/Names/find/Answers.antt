use Rattle.std.proofs.Common.{sym, ◌∙◌, ap}
use Rattle.std.specs.Str.{bytes_eq}
use Rattle.kw_base.specs.Names.{number_of}
use Rattle.kw_base.proofs.Numbering.{position-map}
use Rattle.kw_base.proofs.names.Names.find.Goals as goal

pub returns-in-Some-clause-number : goal.returns-in-Some-clause-number
returns-in-Some-clause-number c =
    sym c.in-Some.is ∙ c.get_index_of.ensures.index ∙ sym (position-map _ (bytes_eq c.args.name.now) c.self.inside.seen.keys) ∙ ap (λ names. number_of names c.args.name.now) c.self.view_is

pub returns-in-None-clause-number : goal.returns-in-None-clause-number
returns-in-None-clause-number c =
    sym c.in-None.is ∙ c.get_index_of.ensures.index ∙ sym (position-map _ (bytes_eq c.args.name.now) c.self.inside.seen.keys) ∙ ap (λ names. number_of names c.args.name.now) c.self.view_is
