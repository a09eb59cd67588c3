use Rattle.std.proofs.Common.{◌∙◌, ap}
use Rattle.std.specs.Prelude.{slice_get}
use Rattle.koika_syntax.specs.declared.keyword.TheConstants.{KEYWORDS}
use Rattle.koika_syntax.proofs.Places.{option_copied-item}
use Rattle.koika_syntax.proofs.keyword.Keyword.in_place.Goals as goal

pub returns : goal.returns
returns c = c.copied.ensures ∙ option_copied-item KEYWORDS c.from.result c.get.result c.get.ensures.lookup ∙ ap (slice_get KEYWORDS) c.from.ensures
