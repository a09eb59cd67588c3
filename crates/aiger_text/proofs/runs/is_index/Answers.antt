use Rattle.std.proofs.Common.{decimal, ◌∙◌}
use Rattle.aiger_text.proofs.Running.{index-first, index-is, index-last}
use Rattle.aiger_text.proofs.runs.is_index.Goals as goal

pub returns-then-first-ne91 : goal.returns-then-first-ne91
returns-then-first-ne91 c = index-first c.args.bytes.now c.in-Some.rest.now _ c.in-Some.first.now c.in-Some.ensures.cases.0 c.if-first-ne91.true

pub returns-then-last-ne93 : goal.returns-then-last-ne93
returns-then-last-ne93 c =
    index-last c.args.bytes.now c.in-Some.rest.now c.in-Some-split_last.inner.now (decimal c.args.k) c.in-Some.first.now c.in-Some-split_last.last.now c.in-Some.ensures.cases.0 c.in-Some-split_last.ensures.cases.0 c.if-last-ne93.true

pub returns : goal.returns
returns c =
    index-is c.args.bytes.now c.in-Some.rest.now c.in-Some-split_last.inner.now c.as_bytes-digits.result.now (decimal c.args.k) c.in-Some.first.now c.in-Some-split_last.last.now c.eq.result c.in-Some.ensures.cases.0
    c.in-Some-split_last.ensures.cases.0 c.if-first-ne91.false c.if-last-ne93.false (c.as_bytes-digits.ensures.value ∙ c.format.ensures.text) c.eq.ensures
