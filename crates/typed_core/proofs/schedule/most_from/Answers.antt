use Rattle.std.proofs.Common.{◌≡◌, Bool, true, false, cond, max, refl, ap₂, ◌∙◌}
use mir.Val.{bool_byte}
use Rattle.std.proofs.lemmas.Option.{slice_get-get_or}
use Rattle.typed_core.proofs.Paths.{most_at}
use Rattle.typed_core.proofs.schedule.most_from.Goals as goal

byte_is : (b : Bool) → bool_byte b ≡ cond b 1 0
byte_is true = refl
byte_is false = refl

pub returns : goal.returns
returns c =
    let nodes = c.args.nodes.now in
    let most = c.max.ensures ∙ ap₂ max c.number_behind-yes.ensures c.number_behind-no.ensures in
    rw (c.from.ensures, byte_is) (most_at nodes c.args.rule c.args.number _ c.args.most.now c.max.result (slice_get-get_or nodes c.args.number _ c.requires.number) c.requires.ascends c.requires.later most)
