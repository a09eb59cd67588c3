use Rattle.std.proofs.Common.{◌++◌, ◌∷◌, [], sym, ap, ◌∙◌, subst, rules}
use Rattle.std.proofs.lemmas.List.Sorted.{IsNonDecreasingBy-from_sort_by_key}
use Rattle.one_rule.specs.Stimulus.{InputVectors, IsLine}
use Rattle.one_rule.proofs.Cycles.{KeepsLines_push, vectors_of_push}
use Rattle.one_rule.proofs.Inputs.{inputs_by-sorted}
use Rattle.one_rule.proofs.stimulus.Stimulus.push_line.Goals as goal

pub invariant_of-self-2 : goal.invariant_of-self-2
invariant_of-self-2 c =
    let rising = IsNonDecreasingBy-from_sort_by_key (λ a. a.0) _ c.sort_unstable_by_key.ensures.sorted (λ a r q k. search rules) in
    let is_line = subst (λ (s : InputVectors). IsLine s.widths c.args.line.items) (sym c.self.view_is) c.requires in
    rw (c.in_ok-push.ensures.items, c.from_vec.ensures) (KeepsLines_push c.self.inside.widths.items c.self.inside.lines.items c.args.line.items c.sort_unstable_by_key.new.self.items c.self.invariant is_line c.sort_unstable_by_key.ensures.permutation rising)

pub returns-clause-ok : goal.returns-clause-ok
returns-clause-ok c =
    let widths = c.self.inside.widths.items in
    let lines = c.self.inside.lines.items in
    let sorted = c.sort_unstable_by_key.new.self.items in
    let same = inputs_by-sorted widths c.args.line.items sorted c.requires.once c.sort_unstable_by_key.ensures.permutation in
    vectors_of_push c.args.self.now widths lines c.push.new.self.items c.args.line.items sorted c.self.view_is (c.in_ok-push.ensures.items ∙ ap (λ line. lines ++ line ∷ []) c.from_vec.ensures) same
