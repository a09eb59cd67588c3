use Rattle.std.proofs.Common.{◌++◌, ◌∷◌, [], ◌∙◌, Bool, false, List, ap, cond, get_or, arith}
use Rattle.std.proofs.lemmas.List.{get_or_default}
use Rattle.std.specs.Prelude.{◌&&◌}
use Rattle.std.specs.List.{list_any}
use Rattle.typed_core.specs.Clash.{clashes}
use Rattle.typed_core.specs.declared.access.Access.{Access}
use Rattle.lab_lint.specs.Occurrences.{rule_part}
use Rattle.lab_lint.specs.Refusals.{is_access, is_refused_in}
use Rattle.lab_lint.proofs.Filtered.{filter-more, filter-whole}
use Rattle.lab_lint.proofs.made.own_writes.Goals as goal

pub loop-access-preserved : goal.loop-access-preserved
loop-access-preserved c =
    let i = c.loop-access.access-index in
    let d : Access = record { write = false; port = 0; register = 0 } in
    let x : Access = get_or c.args.made.now i d in
    filter-more (λ (a : Access). a.write && is_refused_in (rule_part c.args.design.now c.args.rule) a) c.args.made.now i x c.loop-access.some c.push_if.new.some (omega arith) (get_or_default c.args.made.now i d x (omega arith)) c.loop-access.invariant
    (c.in_ok-push_if.ensures ∙ ap (λ (b : Bool). c.loop-access.some ++ cond b (x ∷ []) []) c.is_refused_write.ensures)

pub returns : goal.returns
returns c = filter-whole (λ (a : Access). a.write && is_refused_in (rule_part c.args.design.now c.args.rule) a) c.args.made.now c.loop-access.access-index c.loop-access.some (omega arith) c.loop-access.invariant
