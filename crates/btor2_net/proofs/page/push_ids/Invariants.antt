use Rattle.std.proofs.Common.{◌≡◌, ◌++◌, map, take}
use Rattle.btor2_text.specs.declared.line.Argument.TheVariants as arguments
use Rattle.btor2_net.proofs.page.push_ids.Given as goal

abbrev pub invariant-loop-id : goal.invariant-loop-id
invariant-loop-id l = l.given ≡ l.initial.given ++ map arguments.Id (take l.id-index l.ids)
