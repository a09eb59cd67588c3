use Rattle.std.proofs.Common.{◌+◌, ◌*◌, ap, arith, drop, get_or, sym, ◌∙◌}
use Rattle.koika_check.specs.Types.{all_lengths, width_of}
use Rattle.koika_lower.proofs.TypeWidths.{lengths-next, width-next}
use Rattle.koika_lower.proofs.type_width.width_of.Goals as goal

pub loop-length-preserved : goal.loop-length-preserved
loop-length-preserved c =
    let valid = c.requires in
    let ls = c.as_slice-lengths.result.now in
    let i = c.loop-length.length-index in
    let width = c.loop-length.width in
    let made = c.saturating_mul-width.result in
    let before = ap (λ l. width * all_lengths (drop i l)) c.as_slice-lengths.ensures ∙ c.loop-length.invariant in
    ap (λ l. made * all_lengths (drop (i + 1) l)) (sym c.as_slice-lengths.ensures) ∙
    width-next width (get_or ls i 0) (all_lengths (drop (i + 1) ls)) (width_of c.args.checked.now c.args.of.now) made
    (ap (λ k. width * k) (sym (lengths-next ls i 0 c.loop-length-test.true)) ∙ before) valid.0 valid.1
    (λ few. grind (arith, c.saturating_mul-width.ensures, few))
