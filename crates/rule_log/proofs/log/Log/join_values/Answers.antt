use Rattle.std.proofs.Common.{◌≡◌, Bool, true, false, sym, ap, ◌∙◌, arith}
use Rattle.std.specs.Prelude.{if◌then◌else◌}
use Rattle.rule_log.specs.StandsFor.{is_set, written}
use Rattle.rule_log.proofs.log.Log.join_values.Goals as goal

pub returns-else-has_write_from-clause-here : goal.returns-else-has_write_from-clause-here
returns-else-has_write_from-clause-here c port p =
    let rule = c.args.rule.now in
    let register = c.args.register in
    let clear : is_set rule true port register ≡ false = sym (c.requires.flags true port) ∙ c.has_write_from.ensures.0 c.if-has_write_from.false port (omega arith) p in
    ap (λ (b : Bool). if b then written rule port register else written c.args.self.now port register) (sym clear)
