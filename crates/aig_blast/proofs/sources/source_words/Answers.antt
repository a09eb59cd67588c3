use Rattle.std.proofs.Common.{ℕ, List, [], ◌∷◌, ◌++◌, get_or, sym, ap, ap₂, ◌∙◌, arith}
use Rattle.std.proofs.lemmas.List.Sums.{sum_by_more}
use Rattle.aig_blast.specs.inner.Sources.{source_word}
use Rattle.aig_blast.proofs.SourceWords.{source_words-more}
use Rattle.aig_blast.proofs.sources.source_words.Goals as goal

pub loop-width-preserved : goal.loop-width-preserved
loop-width-preserved c =
    let k = c.loop-width.width-index in
    let ws = c.args.widths.now in
    record {
      words = c.in_ok-push.ensures.ok
          ∙ ap₂ (λ (front : List (List ℕ)) (last : List ℕ). front ++ last ∷ []) c.loop-width.invariant.words (c.in_ok-source_word.ensures ∙ ap (λ n. source_word n (get_or ws k 0)) c.loop-width.invariant.next)
          ∙ sym (source_words-more c.args.start ws k c.loop-width-test.true);
      next = omega (arith, c.in_ok-after.ensures.count, c.loop-width.invariant.next, sum_by_more (λ (n : ℕ). n) ws k 0 c.loop-width-test.true);
      few = c.in_ok-after.ensures.few;
    }
