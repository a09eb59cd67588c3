use Rattle.std.proofs.Common.{ℕ, Bool, List, Option, length, sym, ap, ◌∙◌}
use Rattle.aiger_text.specs.Runs.{words_of_bits}
use Rattle.aiger_text.specs.inner.Steps.{parts_of}
use Rattle.aiger_text.proofs.Circuits.{latch_names-count, latch_names-widths}
use Rattle.aiger_text.proofs.read.in_words.Goals as goal

pub latch_words-requires-clause-widths : goal.latch_words-requires-clause-widths
latch_words-requires-clause-widths c =
    latch_names-widths (parts_of c.args.draft.now) c.as_slice-3.result.now c.requires.draft c.requires.few (c.as_slice-3.ensures.value ∙ c.in_ok-words.ensures ∙ ap (words_of_bits 108) c.as_slice-2.ensures.value)

pub latch_words-requires-clause-nexts : goal.latch_words-requires-clause-nexts
latch_words-requires-clause-nexts c =
    c.requires.nexts ∙ c.requires.draft.nexts
    ∙ latch_names-count (parts_of c.args.draft.now) c.as_slice-3.result.now (c.as_slice-3.ensures.value ∙ c.in_ok-words.ensures ∙ ap (words_of_bits 108) c.as_slice-2.ensures.value)

pub latch_words-requires-clause-resets : goal.latch_words-requires-clause-resets
latch_words-requires-clause-resets c =
    ap (λ (resets : List Bool). length resets) c.as_slice-4.ensures.value ∙ c.requires.draft.resets
    ∙ latch_names-count (parts_of c.args.draft.now) c.as_slice-3.result.now (c.as_slice-3.ensures.value ∙ c.in_ok-words.ensures ∙ ap (words_of_bits 108) c.as_slice-2.ensures.value)

pub output_bits-requires : goal.output_bits-requires
output_bits-requires c = c.requires.lits ∙ c.requires.draft.lits ∙ ap (λ (symbols : List (Option (List ℕ))). length symbols) (sym c.as_slice-5.ensures.value)
