use Rattle.std.proofs.Common.{sym, ap, ◌∙◌}
use Rattle.std.specs.List.{join_with_byte}
use Rattle.std.proofs.lemmas.List.Splits.{join_with_byte-slice_split}
use Rattle.kw_base.specs.Texts.{pieces_after}
use Rattle.kw_base.specs.declared.texts.Separator.TheVariants as at
use Rattle.stim_report.proofs.source.text_behind.Goals as goal

pub returns-in-Some : goal.returns-in-Some
returns-in-Some c = sym (ap (λ behind. join_with_byte 10 (pieces_after at.LineFeed behind)) c.in-Some.is ∙ join_with_byte-slice_split 10 c.in-Some.text.now)
