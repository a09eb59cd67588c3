use Rattle.std.proofs.Common.{◌≡◌, ℕ, length, false, replicate, refl, ap, ◌∙◌}
use Rattle.typed_core.specs.declared.design.Parts.{Parts}
use Rattle.board_core.proofs.Flags.{flags_none}
use Rattle.board_core.proofs.place.Place.new.Goals as goal

pub returns-clause-at : goal.returns-clause-at
returns-clause-at c =
    let n = length c.args.design.now.rules in
    let rules' : c.len-rules.result ≡ n = c.len-rules.ensures ∙ ap (λ (d : Parts). length d.rules) c.design.view_is in
    record {
      at = c.root.ensures;
      registers = refl;
      fired = c.in_ok-from_elem.ensures.items_if_clones_equal (λ y e. e) ∙ ap (λ (k : ℕ). replicate k false) rules' ∙ flags_none n;
      past = c.in_ok-new.ensures.stands;
      settled = c.in_ok-from_elem-2.ensures.items_if_clones_equal (λ y e. e) ∙ ap (λ (k : ℕ). replicate k false) rules' ∙ flags_none n;
    }
