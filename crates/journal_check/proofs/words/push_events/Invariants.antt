use Rattle.std.proofs.Common.{◌≡◌, ◌++◌, map, take}
use Rattle.std.specs.List.{flat_map}
use Rattle.journal_check.specs.Printing.{event_text, spaced}
use Rattle.journal_check.proofs.words.push_events.Given as goal

abbrev pub invariant-loop-event : goal.invariant-loop-event
invariant-loop-event l = l.text ≡ l.fn.text ++ flat_map spaced (map (event_text l.design) (take l.event-index l.events))
