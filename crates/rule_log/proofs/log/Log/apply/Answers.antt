use Rattle.std.proofs.Common.{◌≡◌, ℕ, true, List, length, ap, ◌∙◌, arith}
use Rattle.std.specs.Prelude.{slice_index_or}
use Rattle.std.proofs.lemmas.List.{length-set}
use Rattle.typed_core.specs.Evaluation.{unit}
use Rattle.rule_log.specs.Flags.{is_some}
use Rattle.rule_log.specs.StandsFor.{RegisterLog}
use Rattle.rule_log.specs.Touched.{is_listed}
use Rattle.rule_log.specs.declared.flags.PortFlags.{PortFlags}
use Rattle.rule_log.proofs.Joins.{AppliedAt, UnappliedAt, applied_all, apply_again, apply_elsewhere, apply_first}
use Rattle.rule_log.proofs.Logs.{applied, no_flag}
use Rattle.rule_log.proofs.Walks.{walked_all, walked_more}
use Rattle.rule_log.proofs.log.Log.apply.Goals as goal

pub loop-register-preserved : goal.loop-register-preserved
loop-register-preserved c =
    let l = c.loop-register in
    let log = c.args.self.now in
    let old = c.args.regs.now in
    let new = c.apply_register.new.regs in
    let touched = c.as_slice-register-items.result.now in
    let register : ℕ = slice_index_or touched l.register-index 0 in
    let count : length l.regs ≡ length old = l.invariant.count in
    let step = c.apply_register.ensures in
    record {
      count = ap length (step unit) ∙ length-set l.regs _ _ ∙ count;
      walked = walked_more (AppliedAt log old l.regs) (UnappliedAt old l.regs) (AppliedAt log old new) (UnappliedAt old new) touched l.register-index 0 (omega arith)
          (apply_first log old l.regs new register count step) (apply_again log old l.regs new register count step)
          (λ r ne h d lt. apply_elsewhere log old l.regs new register count step r ne d ∙ h d lt)
          (λ r ne h d. apply_elsewhere log old l.regs new register count step r ne d ∙ h d)
          l.invariant.walked;
    }

pub returns : goal.returns
returns c widths events s =
    let log = c.args.self.now in
    let old = c.args.regs.now in
    let new = c.loop-register.regs in
    let touched = c.as_slice-register-items.result.now in
    let same_flags : c.self.inside.flags.items ≡ log.flags = ap (λ (l : RegisterLog). l.flags) c.self.view_is in
    let same_list : touched ≡ c.self.inside.touched.items = c.as_slice-register-items.ensures in
    let listed : (r : ℕ) → is_some (slice_index_or log.flags r no_flag) ≡ true → is_listed touched r ≡ true =
    λ r h. ap (λ (ts : List ℕ). is_listed ts r) same_list ∙ c.self.invariant.listed r (ap (λ (fs : List PortFlags). is_some (slice_index_or fs r no_flag)) same_flags ∙ h) in
    let walked = walked_all (AppliedAt log old new) (UnappliedAt old new) touched c.loop-register.register-index (omega arith) c.loop-register.invariant.walked in
    applied widths log old new c.requires c.loop-register.invariant.count (λ r d within. applied_all log old new touched walked listed r d within) events s
