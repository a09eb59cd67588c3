use Rattle.std.proofs.Common.{◌≡◌, ℕ, List, length, ap, ◌∙◌}
use Rattle.one_rule.specs.Cycle.{system_of}
use Rattle.lab_core.specs.Numbers.{RunNumbers, RuleNumbers}
use Rattle.lab_core.specs.Trials.{trials}
use Rattle.lab_core.specs.inner.Counting.{verdicts_of}
use Rattle.lab_core.proofs.Grown.{profile_grows}
use Rattle.lab_core.proofs.Tables.{table_length}
use Rattle.lab_core.proofs.profile.Profile.add_cycle.Goals as goal

size : (rules : List RuleNumbers) (len result : ℕ) → len ≡ length rules → result ≡ len → result ≡ length rules
size rules len result a b = b ∙ a

pub note_all-requires-clause-count : goal.note_all-requires-clause-count
note_all-requires-clause-count c =
    ap length c.deref.ensures.value ∙ table_length c.len.result c.as_slice.result.now c.in_ok-verdicts.verdicts.items c.in_ok-verdicts.ensures ∙ size c.self.inside.rules.items c.self.inside.rules.len c.len.result c.self.inside.rules.ok.0 c.len.ensures

pub returns-clause-numbers : goal.returns-clause-numbers
returns-clause-numbers c =
    profile_grows c.note_all.result (length c.args.design.now.rules) c.args.cycle c.len.result (trials (system_of c.args.design.now) c.args.inputs.now c.args.regs.now) c.args.self.now
    c.self.inside.rules.items c.note_all.new.rules.items c.deref.result.now
    (ap (λ (n : RunNumbers). n.rules) c.self.view_is) c.requires.next c.requires.rules (size c.self.inside.rules.items c.self.inside.rules.len c.len.result c.self.inside.rules.ok.0 c.len.ensures)
    (c.deref.ensures.value ∙ c.in_ok-verdicts.ensures ∙ ap (verdicts_of c.len.result) (c.as_slice.ensures ∙ c.in_ok-tried.ensures.trials))
    c.note_all.ensures.count c.note_all.ensures.each
