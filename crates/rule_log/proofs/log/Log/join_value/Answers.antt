use Rattle.std.proofs.Common.{◌≡◌, Bool, true, false, sym, ap, ◌∙◌}
use Rattle.std.specs.Prelude.{if◌then◌else◌}
use Rattle.rule_log.specs.StandsFor.{is_set, written}
use Rattle.rule_log.proofs.log.Log.join_value.Goals as goal

pub returns-then-has_write-clause-here : goal.returns-then-has_write-clause-here
returns-then-has_write-clause-here c =
    let rule = c.args.rule.now in
    let port = c.args.port in
    let register = c.args.register in
    let set : is_set rule true port register ≡ true = sym (c.requires.flags true port) ∙ sym c.has_write.ensures ∙ c.if-has_write.true in
    c.set_value.ensures.here ∙ c.value_at.ensures ∙ ap (λ (b : Bool). if b then written rule port register else written c.args.self.now port register) (sym set)

pub returns-else-has_write-clause-here : goal.returns-else-has_write-clause-here
returns-else-has_write-clause-here c =
    let rule = c.args.rule.now in
    let port = c.args.port in
    let register = c.args.register in
    let clear : is_set rule true port register ≡ false = sym (c.requires.flags true port) ∙ sym c.has_write.ensures ∙ c.if-has_write.false in
    ap (λ (b : Bool). if b then written rule port register else written c.args.self.now port register) (sym clear)
