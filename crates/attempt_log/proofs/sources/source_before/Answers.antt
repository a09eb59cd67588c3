use Rattle.std.proofs.Common.{◌≡◌, ◌<◌, List, length, Some, refl, arith}
use Rattle.std.specs.Prelude.{slice_get}
use Rattle.std.proofs.lemmas.Option.{slice_get_read}
use Rattle.typed_core.specs.declared.access.Event.{Event}
use Rattle.attempt_log.proofs.LookBack.{source_next}
use Rattle.attempt_log.proofs.sources.source_before.Goals as goal

pub loop-number-preserved : goal.loop-number-preserved
loop-number-preserved c =
    let events : List Event = c.args.events.now in
    let number = c.loop-number.number in
    let e : Event = c.index-events-number.result in
    let within : number < length events = omega (arith, c.loop-number-test.true, c.requires) in
    let here : slice_get events number ≡ Some e = slice_get_read events (length events) number e refl within c.index-events-number.is in
    source_next events number c.args.access.now.port c.args.access.now.register e c.loop-number.source c.source_with-source.result here c.loop-number.invariant c.source_with-source.ensures
