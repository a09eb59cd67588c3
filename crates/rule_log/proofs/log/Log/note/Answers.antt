use Rattle.std.proofs.Common.{List, length, refl, sym, ap, ◌∙◌, subst}
use Rattle.std.proofs.lemmas.Bool.{both_ways}
use Rattle.rule_log.specs.declared.flags.PortFlags.{PortFlags}
use Rattle.rule_log.specs.StandsFor.{RegisterLog}
use Rattle.rule_log.proofs.Logs.{Kept, noted_from, stands_noted}
use Rattle.rule_log.proofs.log.Log.note.Goals as goal
use Rattle.rule_log.proofs.log.Log.note.Goals.{then-access, else-access}

pub returns-clause-stands : goal.returns-clause-stands
returns-clause-stands c widths events s fit follow =
    let old = c.args.self.now in
    let e = c.args.event in
    let kept : Kept old c.if-access.self e =
    elim c.if-access.branch [
      | then-access w ↦ subst (λ (l : RegisterLog). Kept old l e) (sym w.self-is) (record {
        flags = w.set_value.ensures.flags;
        value = λ is. w.set_value.ensures.here;
        other_values = λ port register p h. w.set_value.ensures.elsewhere port register p h;
        no_value = λ h port register. absurd (both_ways e.access.write h w.if-access.true);
      })
      | else-access w ↦ subst (λ (l : RegisterLog). Kept old l e) (sym w.self-is) (record {
        flags = refl;
        value = λ is. absurd (both_ways e.access.write w.if-access.false is);
        other_values = λ port register p h. refl;
        no_value = λ h port register. refl;
      })
    ] in
    stands_noted widths old c.mark.new.self e (c.mark.ensures.registers ∙ ap (λ (fs : List PortFlags). length fs) kept.flags)
    (noted_from old c.if-access.self c.mark.new.self e c.of.result kept c.mark.ensures.here c.mark.ensures.elsewhere c.mark.ensures.values c.of.ensures) events s fit follow
