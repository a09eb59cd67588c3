use Rattle.std.proofs.Common.{sym, subst}
use Rattle.std.specs.Prelude.{All}
use Rattle.typed_core.specs.Evaluation.{Externs}
use Rattle.typed_core.specs.Valid.{IsHost, IsTable}
use Rattle.net_graph.specs.Values.{value_at}
use Rattle.net_action.specs.Gates.{HasValue}
use Rattle.net_action.specs.inner.Parts.{AskedHasWidth, answer_to}
use Rattle.net_action.proofs.operation.ask.Goals as goal

pub answer-requires-clause-tables : goal.answer-requires-clause-tables
answer-requires-clause-tables g c = subst (λ (e : Externs). All IsTable e.tables) (sym c.requires.externs) c.requires.valid.tables

pub answer-requires-clause-hosts : goal.answer-requires-clause-hosts
answer-requires-clause-hosts g c = subst (λ (e : Externs). All IsHost e.hosts) (sym c.requires.externs) c.requires.valid.hosts

pub answer-requires-clause-asked : goal.answer-requires-clause-asked
answer-requires-clause-asked g c =
    (c.requires.operation.0, c.requires.operation.1, c.requires.operation.2, subst (λ (e : Externs). AskedHasWidth e c.args.asked c.requires.operation.0 c.requires.operation.1) (sym c.requires.externs) c.requires.operation.3)

pub returns-clause-wire : goal.returns-clause-wire
returns-clause-wire g c operand width h t = c.in_ok-wire.ensures.wire operand width h (subst (λ (e : Externs). AskedHasWidth e c.args.asked operand width) (sym c.requires.externs) t)

pub returns-clause-value : goal.returns-clause-value
returns-clause-value g c = subst (λ (e : Externs). HasValue c.answer.new.net (λ values. answer_to e c.args.asked (value_at values c.args.x)) c.in_ok-wire.wire) c.requires.externs c.in_ok-wire.ensures.value
