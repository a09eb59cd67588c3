-- Logs that are joined register by register, and registers that a log is applied to one by one.
use Rattle.std.proofs.Common.{◌≡◌, ◌≢◌, ◌⊎◌, ℕ, ◌+◌, ◌*◌, ◌<◌, ◌≤◌, Bool, true, false, List, length, refl, sym, ap, ap₂, ◌∙◌, inl, inr, eqb-true, arith}
use Rattle.std.specs.Prelude.{◌==◌, ◌||◌, slice_index_or, slice_set, if◌then◌else◌}
use Rattle.std.proofs.lemmas.Bool.{cases_Bool, false_from_ne_true, both_ways, not-false}
use Rattle.std.proofs.lemmas.List.{get_or-set_same, get_or-set_other}
use Rattle.kw_bits.specs.BitVector.{BitVector}
use Rattle.typed_core.specs.Evaluation.{unit}
use Rattle.typed_core.specs.declared.limits.TheConstants.{PORTS}
use Rattle.rule_log.specs.Flags.{has, is_some}
use Rattle.rule_log.specs.inner.OneRegister.{JoinedAt, SameAt, written_below}
use Rattle.rule_log.specs.StandsFor.{RegisterLog, is_set, written}
use Rattle.rule_log.specs.Touched.{is_listed}
use Rattle.rule_log.specs.declared.flags.PortFlags.{PortFlags}
use Rattle.rule_log.proofs.Logs.{below_none, below_twice, no_flag, nothing_set}
use Rattle.rule_log.proofs.Walks.{JoinedBelow, Walked}

-- ---- one register

pub joined_none : (old rule : RegisterLog) (register : ℕ) → JoinedBelow old rule old 0 register
joined_none old rule register = record { flags = refl; done = λ at below p. absurd (omega arith); left = λ at above p. refl; others = λ at other p ne. refl }

pub joined_here : (old rule now new : RegisterLog) (port register : ℕ) (f : PortFlags) → PORTS ≤ port → JoinedBelow old rule now port register → f ≡ slice_index_or rule.flags register no_flag
    → ((write : Bool) (at : ℕ) → is_set new write at register ≡ (is_set now write at register || has f write at)) → new.values ≡ now.values → JoinedAt old rule new register
joined_here old rule now new port register f all joined is here values = record {
  flags = λ write at p. here write at ∙ ap₂ (λ a b. a || b) (ap (λ (fs : List PortFlags). has (slice_index_or fs register no_flag) write at) joined.flags) (ap (λ (x : PortFlags). has x write at) is);
  values = λ at p. ap (λ (vs : List BitVector). slice_index_or vs (PORTS * register + at) unit) values ∙ joined.done at (omega (arith, p)) p;
}

pub joined_elsewhere : (old rule now new : RegisterLog) (port register other : ℕ) → JoinedBelow old rule now port register → other ≢ register
    → ((write : Bool) (at : ℕ) → is_set new write at other ≡ is_set now write at other) → new.values ≡ now.values → SameAt old new other
joined_elsewhere old rule now new port register other joined ne elsewhere values = record {
  flags = λ write at p. elsewhere write at ∙ ap (λ (fs : List PortFlags). has (slice_index_or fs other no_flag) write at) joined.flags;
  values = λ at p. ap (λ (vs : List BitVector). slice_index_or vs (PORTS * other + at) unit) values ∙ joined.others at other p ne;
}

-- ---- one after another

pub join_first : (old rule now new : RegisterLog) (register : ℕ) → JoinedAt now rule new register → SameAt old now register → JoinedAt old rule new register
join_first old rule now new register j s = record {
  flags = λ write at p. j.flags write at p ∙ ap (λ (b : Bool). b || is_set rule write at register) (s.flags write at p);
  values = λ at p. j.values at p ∙ ap (λ (v : BitVector). if is_set rule true at register then written rule at register else v) (s.values at p);
}

or_twice : (a b : Bool) → ((a || b) || b) ≡ (a || b)
or_twice true b = refl
or_twice false true = refl
or_twice false false = refl

chosen_twice : (b : Bool) (x y : BitVector) → (if b then x else (if b then x else y)) ≡ (if b then x else y)
chosen_twice true x y = refl
chosen_twice false x y = refl

pub join_again : (old rule now new : RegisterLog) (register : ℕ) → JoinedAt now rule new register → JoinedAt old rule now register → JoinedAt old rule new register
join_again old rule now new register j k = record {
  flags = λ write at p. j.flags write at p ∙ ap (λ (b : Bool). b || is_set rule write at register) (k.flags write at p) ∙ or_twice (is_set old write at register) (is_set rule write at register);
  values = λ at p. j.values at p ∙ ap (λ (v : BitVector). if is_set rule true at register then written rule at register else v) (k.values at p)
      ∙ chosen_twice (is_set rule true at register) (written rule at register) (written old at register);
}

pub join_kept : (old rule now new : RegisterLog) (register : ℕ) → SameAt now new register → JoinedAt old rule now register → JoinedAt old rule new register
join_kept old rule now new register s j = record { flags = λ write at p. s.flags write at p ∙ j.flags write at p; values = λ at p. s.values at p ∙ j.values at p }

pub same_kept : (old now new : RegisterLog) (register : ℕ) → SameAt now new register → SameAt old now register → SameAt old new register
same_kept old now new register s t = record { flags = λ write at p. s.flags write at p ∙ t.flags write at p; values = λ at p. s.values at p ∙ t.values at p }

-- ---- the registers that aren't listed

pub no_flag_unlisted : (flags : List PortFlags) (touched : List ℕ) → ((register : ℕ) → is_some (slice_index_or flags register (record { 0 = 0 })) ≡ true → is_listed touched register ≡ true)
    → (register : ℕ) → is_listed touched register ≡ false → slice_index_or flags register no_flag ≡ no_flag
no_flag_unlisted flags touched listed register h =
    let none : is_some (slice_index_or flags register no_flag) ≡ false =
    false_from_ne_true (is_some (slice_index_or flags register no_flag)) (λ k. both_ways (is_listed touched register) h (listed register k)) in
    let zero_there : (slice_index_or flags register no_flag).0 ≡ 0 = eqb-true (slice_index_or flags register no_flag).0 0 (not-false ((slice_index_or flags register no_flag).0 == 0) none) in
    ap (λ (n : ℕ). let f : PortFlags = record { 0 = n } in f) zero_there

or_none : (a b : Bool) → b ≡ false → a ≡ (a || b)
or_none true b e = refl
or_none false false e = refl
or_none false true e = absurd cc

pub joined_all : (old rule new : RegisterLog) (touched : List ℕ) → Walked (λ (r : ℕ). JoinedAt old rule new r) (λ (r : ℕ). SameAt old new r) touched
    → ((register : ℕ) → is_some (slice_index_or rule.flags register (record { 0 = 0 })) ≡ true → is_listed touched register ≡ true)
    → (register : ℕ) → JoinedAt old rule new register
joined_all old rule new touched walked listed register = chosen (cases_Bool (is_listed touched register))
  where
    untouched : SameAt old new register → slice_index_or rule.flags register no_flag ≡ no_flag → JoinedAt old rule new register
    untouched s none = record {
      flags = λ write at p. s.flags write at p ∙ or_none (is_set old write at register) (is_set rule write at register) (nothing_set rule register none write at);
      values = λ at p. s.values at p ∙ ap (λ (b : Bool). if b then written rule at register else written old at register) (sym (nothing_set rule register none true at));
    }

    chosen : (is_listed touched register ≡ true) ⊎ (is_listed touched register ≡ false) → JoinedAt old rule new register
    chosen (inl h) = walked.done register h
    chosen (inr h) = untouched (walked.left register h) (no_flag_unlisted rule.flags touched listed register h)

-- ---- the registers that a log is applied to

abbrev pub AppliedAt : RegisterLog → List BitVector → List BitVector → ℕ → Type 0
AppliedAt log old now register = (d : BitVector) → register < length old → slice_index_or now register d ≡ written_below log PORTS register (slice_index_or old register d)

abbrev pub UnappliedAt : List BitVector → List BitVector → ℕ → Type 0
UnappliedAt old now register = (d : BitVector) → slice_index_or now register d ≡ slice_index_or old register d

module _ (log : RegisterLog) (old now new : List BitVector) (register : ℕ) (count : length now ≡ length old) (step : (start : BitVector) → new ≡ slice_set now register (written_below log PORTS register (slice_index_or now register start))) where
  pub apply_first : UnappliedAt old now register → AppliedAt log old new register
  apply_first h d within =
      ap (λ (rs : List BitVector). slice_index_or rs register d) (step d)
      ∙ get_or-set_same now register (written_below log PORTS register (slice_index_or now register d)) d (omega (arith, count))
      ∙ ap (λ (v : BitVector). written_below log PORTS register v) (h d)

  pub apply_again : AppliedAt log old now register → AppliedAt log old new register
  apply_again h d within =
      ap (λ (rs : List BitVector). slice_index_or rs register d) (step d)
      ∙ get_or-set_same now register (written_below log PORTS register (slice_index_or now register d)) d (omega (arith, count))
      ∙ ap (λ (v : BitVector). written_below log PORTS register v) (h d within)
      ∙ below_twice log PORTS register (slice_index_or old register d)

  pub apply_elsewhere : (other : ℕ) → other ≢ register → UnappliedAt now new other
  apply_elsewhere other ne d =
      ap (λ (rs : List BitVector). slice_index_or rs other d) (step d) ∙ get_or-set_other now register other (written_below log PORTS register (slice_index_or now register d)) d ne

pub applied_all : (log : RegisterLog) (old new : List BitVector) (touched : List ℕ) → Walked (AppliedAt log old new) (UnappliedAt old new) touched
    → ((register : ℕ) → is_some (slice_index_or log.flags register (record { 0 = 0 })) ≡ true → is_listed touched register ≡ true)
    → (register : ℕ) → AppliedAt log old new register
applied_all log old new touched walked listed register d within = chosen (cases_Bool (is_listed touched register))
  where
    chosen : (is_listed touched register ≡ true) ⊎ (is_listed touched register ≡ false) → slice_index_or new register d ≡ written_below log PORTS register (slice_index_or old register d)
    chosen (inl h) = walked.done register h d within
    chosen (inr h) =
        walked.left register h d
        ∙ sym (below_none log PORTS register (slice_index_or old register d) (λ at below. nothing_set log register (no_flag_unlisted log.flags touched listed register h) true at))
