use Rattle.std.proofs.Common.{◌≡◌, ℕ, nat_eq, Option, Some, ap, sym, ◌∙◌}
use Rattle.std.proofs.lemmas.Map.{update_here}
use Rattle.std.specs.Map.{update}
use Rattle.std.specs.Option.{unwrap_or}
use Rattle.btor2_model.specs.Table.{value_in}
use Rattle.btor2_net.proofs.page.Page.add_sort.Goals as goal

pub returns-clause-id : goal.returns-clause-id
returns-clause-id c =
    let before = value_in c.put.new.self.sorts in
    let same : c.from.result ≡ c.args.width = c.from.ensures in
    sym (ap (λ (f : ℕ → Option ℕ). unwrap_or (f c.args.width) 0) c.in_ok-insert.ensures.ok
    ∙ ap (λ (k : ℕ). unwrap_or (update nat_eq before k (Some c.in_ok-id.id) c.args.width) 0) same
    ∙ ap (λ (o : Option ℕ). unwrap_or o 0) (update_here before c.args.width (Some c.in_ok-id.id)))
