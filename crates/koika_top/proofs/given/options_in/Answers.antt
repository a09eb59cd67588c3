use Rattle.std.proofs.Common.{◌∙◌, codes, inl, inr}
use Rattle.clap.specs.Words.{found_of, one_text}
use Rattle.clap.proofs.WalkLemmas.{one_text-rows}
use Rattle.koika_top.proofs.ReadWords.{journal_by_flag, options_same, shown_by_flag}
use Rattle.koika_top.proofs.given.options_in.Goals as goal
use Rattle.koika_top.proofs.given.options_in.Goals.{then-get_flag, else-get_flag}

pub returns : goal.returns
returns c options give =
    let found = found_of c.args.matches.now in
    let shown =
    shown_by_flag (one_text found (codes "summary")) c.get_flag.result options.shown c.if-get_flag.shown (one_text-rows found (codes "summary") ∙ give.shown)
    c.get_flag.ensures.value c.get_flag.ensures.other
    (elim c.if-get_flag.branch [ then-get_flag w ↦ inl (w.if-get_flag.true, w.shown-is) | else-get_flag w ↦ inr (w.if-get_flag.false, w.shown-is) ]) in
    let journal =
    journal_by_flag (one_text found (codes "journal")) c.get_flag-2.result options.journal (one_text-rows found (codes "journal") ∙ give.journal) c.get_flag-2.ensures.value c.get_flag-2.ensures.other in
    options_same _ options (c.number_in.ensures ∙ give.cycles) (c.engine_in.ensures ∙ give.engine) (c.number_in-2.ensures ∙ give.workers) shown journal
