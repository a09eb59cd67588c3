use Rattle.std.proofs.Common.{◌≡◌, drop}
use Rattle.kw_base.specs.declared.fault_number.TheConstants.{WRONG_FIELD}
use Rattle.koika_check.specs.Outcomes.{holds, wrong}
use Rattle.koika_check.specs.Types as types
use Rattle.koika_check.specs.declared.composites.Given.{Given}
use Rattle.koika_check.proofs.composites.wrong_name.Given as goal

abbrev pub invariant-loop-field : goal.invariant-loop-field
invariant-loop-field l =
    types.each (λ (g : Given). holds g.is_in_order (wrong WRONG_FIELD g.place)) (drop l.field-index l.given) ≡ types.each (λ (g : Given). holds g.is_in_order (wrong WRONG_FIELD g.place)) l.given
