-- What holds in every run of a design's bit-level circuit holds in every run of the design.
use Rattle.std.proofs.Common.{List, sym, subst, ◌∙◌}
use Rattle.std.specs.Prelude.{All}
use Rattle.one_rule.specs.declared.rows.Row.{Row}
use Rattle.front_end.specs.Aigs.{IsAigOf}
use Rattle.aig_blast.specs.Aigs.{AigParts}
use Rattle.invariant_check.specs.Kept.{IsKept, IsKeptInEveryRun}
use Rattle.lab_certify.specs.Certificates.{HoldsInEveryRun}
use Rattle.lab_certify.specs.Claims.{Claim}

pub holds-for-design : (circuit : AigParts) (claim : Claim) → IsAigOf claim.design circuit
    → IsKeptInEveryRun circuit claim.invariant claim.rules → HoldsInEveryRun claim
holds-for-design circuit claim is kept stimulus n fits =
    subst (λ (rows : List Row). All (IsKept claim.invariant claim.rules) rows) (is.run stimulus n fits)
    (kept stimulus n (fits.widths ∙ sym is.input_widths) fits.fits)
