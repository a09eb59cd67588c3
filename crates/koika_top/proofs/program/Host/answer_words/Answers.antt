use Rattle.std.proofs.Common.{ap, map, refl, string_bytes, sym, ◌∙◌}
use Rattle.one_rule.specs.Hosts.{host_specs}
use Rattle.koika_top.specs.inner.Answer.{reads_source}
use Rattle.front_end.specs.declared.answer.Answer.TheVariants.{Usage}
use Rattle.koika_top.proofs.Promises.{kept-out_of_memory, kept-source, kept-unread, never-read, never-read-told, tells-alone, tells-source, tells-usage}
use Rattle.front_end.proofs.Told.{keeps-known}
use Rattle.koika_top.proofs.program.Host.answer_words.Goals as goal

pub returns-in-Ok-None : goal.returns-in-Ok-None
returns-in-Ok-None g c =
    let asked = rw c.in-Ok-None.field-0-is at c.in-Ok-None.ensures.command in
    kept-unread _ _ (ap reads_source (sym asked)) refl (never-read _ _ Usage c.write_usage.ensures)
    (tells-usage (host_specs c.args.self.now.hosts.now) (map string_bytes c.args.words.now) _ _ _ asked c.write_usage.ensures)

pub answer_source-requires-clause-crew : goal.answer_source-requires-clause-crew
answer_source-requires-clause-crew g c =
    c.requires.crew c.in-Ok-Some.command (rw c.in-Ok-Some.field-0-is at c.in-Ok-Some.ensures.command) (rw c.in-Ok-Some.field-0-is at c.in-Ok-Some.ensures.few)

pub answer_bytes-requires-clause-crew : goal.answer_bytes-requires-clause-crew
answer_bytes-requires-clause-crew g c =
    c.requires.crew c.in-Ok-Some.command (rw c.in-Ok-Some.field-0-is at c.in-Ok-Some.ensures.command) (rw c.in-Ok-Some.field-0-is at c.in-Ok-Some.ensures.few)

pub returns-then-reads_source : goal.returns-then-reads_source
returns-then-reads_source g c =
    let reads = sym c.reads_source.ensures ∙ c.if-reads_source.true in
    let asked = rw c.in-Ok-Some.field-0-is at c.in-Ok-Some.ensures.command in
    kept-source _ _ (ap reads_source (sym asked) ∙ reads) c.answer_source.ensures.whole c.answer_source.ensures.read_fault
    (tells-source (host_specs c.args.self.now.hosts.now) (map string_bytes c.args.words.now) _ _ _ c.in-Ok-Some.command asked reads c.answer_source.ensures.tells)

pub returns-else-reads_source : goal.returns-else-reads_source
returns-else-reads_source g c =
    let reads = sym c.reads_source.ensures ∙ c.if-reads_source.false in
    let asked = rw c.in-Ok-Some.field-0-is at c.in-Ok-Some.ensures.command in
    kept-unread _ _ (ap reads_source (sym asked) ∙ reads) refl (never-read-told _ _ _ c.answer_bytes.ensures)
    (tells-alone (host_specs c.args.self.now.hosts.now) (map string_bytes c.args.words.now) _ _ _ c.in-Ok-Some.command asked reads c.answer_bytes.ensures)

pub returns-in-Err : goal.returns-in-Err
returns-in-Err g c = kept-out_of_memory _ _ refl (keeps-known _) refl
