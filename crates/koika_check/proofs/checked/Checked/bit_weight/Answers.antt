use Rattle.std.proofs.Common.{◌≡◌, ◌+◌, ◌*◌, sum_by, ap, ap₂, ◌∙◌}
use Rattle.koika_check.specs.BitWeights.{node_squares, rule_squares, squares_of}
use Rattle.koika_check.specs.inner.BitWeights.{cap}
use Rattle.koika_check.proofs.FewSquares.{counted-whole}
use Rattle.koika_check.proofs.Squares.{cap-sum}
use Rattle.koika_check.proofs.checked.Checked.bit_weight.Goals as goal

pub returns : goal.returns
returns c =
    let d = c.args.self.now in
    let squares : c.saturating_add-squares.result ≡ cap (squares_of d) =
    c.saturating_add-squares.ensures ∙ ap₂ (λ m n. cap (m + n)) c.squares_of_rules-rules.ensures c.squares_of_nodes.ensures
    ∙ cap-sum (sum_by (rule_squares d) d.rules) (sum_by (node_squares d) d.nodes) in
    counted-whole d c.requires (128 * c.from-weighed.result) c.saturating_add-squares.result c.register_bits-bits.result c.saturating_mul-held.result c.saturating_add-both.result c.saturating_add.result
    (ap (λ n. 128 * n) c.from-weighed.ensures) squares c.register_bits-bits.ensures
    (c.saturating_mul-held.ensures ∙ ap (λ n. cap (n * c.register_bits-bits.result)) c.len-nodes.ensures) c.saturating_add-both.ensures c.saturating_add.ensures
