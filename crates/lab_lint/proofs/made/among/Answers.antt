use Rattle.std.proofs.Common.{◌++◌, ◌∷◌, [], ◌∙◌, Bool, false, List, ap, cond, get_or, arith}
use Rattle.std.proofs.lemmas.List.{get_or_default}
use Rattle.std.specs.Prelude.{◌&&◌}
use Rattle.std.specs.List.{list_any}
use Rattle.typed_core.specs.Clash.{clashes}
use Rattle.typed_core.specs.declared.access.Access.{Access}
use Rattle.lab_lint.specs.Occurrences.{rule_part}
use Rattle.lab_lint.specs.Refusals.{is_access, is_refused_in}
use Rattle.lab_lint.proofs.Filtered.{filter-more, filter-whole}
use Rattle.lab_lint.proofs.made.among.Goals as goal

pub loop-access-preserved : goal.loop-access-preserved
loop-access-preserved c =
    let i = c.loop-access.access-index in
    let d : Access = record { write = false; port = 0; register = 0 } in
    let x : Access = get_or c.args.accesses.now i d in
    filter-more (λ (a : Access). list_any (is_access a) c.args.all.now) c.args.accesses.now i x c.loop-access.some c.push_if.new.some (omega arith) (get_or_default c.args.accesses.now i d x (omega arith)) c.loop-access.invariant
    (c.in_ok-push_if.ensures ∙ ap (λ (b : Bool). c.loop-access.some ++ cond b (x ∷ []) []) c.occurs.ensures)

pub returns : goal.returns
returns c = filter-whole (λ (a : Access). list_any (is_access a) c.args.all.now) c.args.accesses.now c.loop-access.access-index c.loop-access.some (omega arith) c.loop-access.invariant
