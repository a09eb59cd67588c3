use Rattle.std.proofs.Common.{◌≡◌, ◌++◌, take}
use Rattle.std.specs.List.{flat_map}
use Rattle.std.specs.Prelude.{slice_get}
use Rattle.journal_check.specs.Printing.{rule_name}
use Rattle.lab_core.specs.Profiles.{assert_line, cycles_line, rules_text}
use Rattle.lab_core.proofs.profile.Profile.text.Given as goal

abbrev pub invariant-loop-mark : goal.invariant-loop-mark
invariant-loop-mark l =
    l.text ≡ cycles_line l.self.cycles ++ rules_text l.design 0 l.self.rules
    ++ flat_map (λ mark. assert_line (rule_name l.design mark) (slice_get l.self.rules mark)) (take l.mark-index l.marks)
