use Rattle.std.proofs.Common.{◌≡◌, [], Some, rules}
use Rattle.typed_core.specs.Valid.{declarations}
use Rattle.typed_core.proofs.Widths.{Finds-only}
use Rattle.typed_core.proofs.validity.is_unit.Goals as goal

pub returns : goal.returns
returns c =
    let finds = rw c.empty.ensures at c.width_of.ensures in (
      λ t. let found : c.width_of.result ≡ Some 0 = search rules in rw found at finds,
      λ h. let found = Finds-only (declarations c.args.parts.now) c.args.body.now [] 0 c.width_of.result finds h in search rules,
    )
