use Rattle.std.proofs.Common.{◌≡◌, ℕ, true, List, ap, ◌∙◌, arith}
use Rattle.std.specs.Prelude.{slice_index_or}
use Rattle.rule_log.specs.Flags.{is_some}
use Rattle.rule_log.specs.inner.OneRegister.{JoinedAt, SameAt}
use Rattle.rule_log.specs.StandsFor.{RegisterLog}
use Rattle.rule_log.specs.Touched.{is_listed}
use Rattle.rule_log.specs.declared.flags.PortFlags.{PortFlags}
use Rattle.rule_log.proofs.Joins.{join_again, join_first, join_kept, joined_all, same_kept}
use Rattle.rule_log.proofs.Logs.{no_flag, stands_both}
use Rattle.rule_log.proofs.Walks.{walked_all, walked_more}
use Rattle.rule_log.proofs.log.Log.merge.Goals as goal

pub loop-register-preserved : goal.loop-register-preserved
loop-register-preserved c =
    let l = c.loop-register in
    let old = c.args.self.now in
    let rule = c.args.rule.now in
    let now = l.self in
    let new = c.join_register.new.self in
    let touched = c.as_slice-register-items.result.now in
    let register : ℕ = slice_index_or touched l.register-index 0 in
    record {
      count = c.join_register.ensures.registers ∙ l.invariant.count;
      walked = walked_more (λ (r : ℕ). JoinedAt old rule now r) (λ (r : ℕ). SameAt old now r) (λ (r : ℕ). JoinedAt old rule new r) (λ (r : ℕ). SameAt old new r) touched l.register-index 0 (omega arith)
          (join_first old rule now new register c.join_register.ensures.here) (join_again old rule now new register c.join_register.ensures.here)
          (λ r ne h. join_kept old rule now new r (c.join_register.ensures.elsewhere r ne) h) (λ r ne h. same_kept old now new r (c.join_register.ensures.elsewhere r ne) h)
          l.invariant.walked;
    }

pub returns-clause-stands : goal.returns-clause-stands
returns-clause-stands c widths events rule_events s t follow =
    let old = c.args.self.now in
    let rule = c.args.rule.now in
    let new = c.loop-register.self in
    let touched = c.as_slice-register-items.result.now in
    let same_flags : c.rule.inside.flags.items ≡ rule.flags = ap (λ (l : RegisterLog). l.flags) c.rule.view_is in
    let same_list : touched ≡ c.rule.inside.touched.items = c.as_slice-register-items.ensures in
    let listed : (r : ℕ) → is_some (slice_index_or rule.flags r no_flag) ≡ true → is_listed touched r ≡ true =
    λ r h. ap (λ (ts : List ℕ). is_listed ts r) same_list ∙ c.rule.invariant.listed r (ap (λ (fs : List PortFlags). is_some (slice_index_or fs r no_flag)) same_flags ∙ h) in
    let walked = walked_all (λ (r : ℕ). JoinedAt old rule new r) (λ (r : ℕ). SameAt old new r) touched c.loop-register.register-index (omega arith) c.loop-register.invariant.walked in
    stands_both widths old rule new c.loop-register.invariant.count (λ r within. joined_all old rule new touched walked listed r) events rule_events s t follow
