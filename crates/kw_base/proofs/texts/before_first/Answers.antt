use Rattle.std.proofs.Common.{sym, ap, ◌∙◌}
use Rattle.std.specs.List.{before_first}
use Rattle.kw_base.specs.Texts.{separates}
use Rattle.kw_base.proofs.Cutting.{before_first-append}
use Rattle.kw_base.proofs.texts.before_first.Goals as goal

pub returns : goal.returns
returns c =
    let split = c.split_before.ensures in
    sym (ap (before_first (separates c.args.at)) split.parts ∙ before_first-append (separates c.args.at) c.split_before.result.0.now c.split_before.result.1.now split.front split.rest)
