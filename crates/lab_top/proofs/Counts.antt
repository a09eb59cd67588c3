-- What is counted of a run, cycle by cycle.
use Rattle.std.proofs.Common.{◌≡◌, ℕ, ◌+◌, ◌-◌, List, [], ◌∷◌, ◌++◌, length, map, sym, ap, ◌∙◌, arith}
use Rattle.std.specs.List.{range_with_len}
use Rattle.std.proofs.lemmas.List.FromFn.{length-map-range_with_len, map-range_with_len_more}
use Rattle.typed_core.specs.Valid.{IsValid}
use Rattle.typed_core.specs.Widths.{HaveWidths}
use Rattle.typed_core.specs.declared.design.Parts.{Parts}
use Rattle.one_rule.specs.Cycle as core_cycle
use Rattle.one_rule.specs.Run as core_run
use Rattle.one_rule.specs.Run.{InputsByCycle}
use Rattle.koika_check.specs.declared.checked.Checked.{Checked}
use Rattle.koika_lower.specs.Lowering.{IsLowered, typed_input_widths}
use Rattle.front_end.proofs.LoweredRuns.{rules-count}
use Rattle.lab_core.specs.Numbers.{RunNumbers, numbers_of}
use Rattle.lab_core.specs.Trials.{trials}
use Rattle.lab_core.specs.declared.trial.Trial.{Trial}
use Rattle.lab_top.specs.Runs.{numbers_in, trials_in}
use Rattle.lab_top.proofs.LabRuns.{trials-same}
use Rattle.lab_top.proofs.Registers.{left}

pub numbers-cycles : (d : Checked) (inputs : InputsByCycle) (n : ℕ) (numbers : RunNumbers) → numbers ≡ numbers_in d inputs n → numbers.cycles ≡ n
unfolding numbers_of
numbers-cycles d inputs n numbers is = ap (λ (all : RunNumbers). all.cycles) is ∙ length-map-range_with_len (trials_in d inputs) 1 n

rules-many : (rules : ℕ) (cycles : List (List Trial)) → length (numbers_of rules cycles).rules ≡ rules
unfolding numbers_of
rules-many rules cycles = length-map-range_with_len _ 0 rules

module _ (d : Checked) (design : Parts) (lowered : IsLowered d design) where
  pub numbers-rules : (inputs : InputsByCycle) (n : ℕ) (numbers : RunNumbers) → numbers ≡ numbers_in d inputs n → length numbers.rules ≡ length design.rules
  numbers-rules inputs n numbers is =
      ap (λ (all : RunNumbers). length all.rules) is ∙ rules-many (length d.rules) (map (trials_in d inputs) (range_with_len 1 n)) ∙ sym (rules-count d design lowered)

  -- before all cycles
  pub numbers-first : (inputs : InputsByCycle) (numbers : RunNumbers) → numbers ≡ numbers_of (length design.rules) [] → numbers ≡ numbers_in d inputs 0
  numbers-first inputs numbers is = is ∙ ap (λ (rules : ℕ). numbers_of rules []) (rules-count d design lowered)

  -- after one more
  module _ (valid : IsValid design) (inputs : InputsByCycle) (fit : (k : ℕ) → HaveWidths (typed_input_widths d) (inputs k)) where
    abbrev tried : ℕ → List Trial
    tried n = trials (core_cycle.system_of design) (inputs (n + 1)) (left (core_cycle.system_of design) inputs (core_run.first_values design) n)

    tried-same : (n : ℕ) → tried n ≡ trials_in d inputs (n + 1)
    tried-same n =
        let back : n ≡ n + 1 - 1 = omega arith in
        ap (λ (k : ℕ). trials (core_cycle.system_of design) (inputs (n + 1)) (left (core_cycle.system_of design) inputs (core_run.first_values design) k)) back
        ∙ trials-same d design lowered valid inputs fit (n + 1)

    pub numbers-next : (n : ℕ) (old new : RunNumbers) → old ≡ numbers_in d inputs n
        → ((cycles : List (List Trial)) → old ≡ numbers_of (length design.rules) cycles → new ≡ numbers_of (length design.rules) (cycles ++ tried n ∷ [])) → new ≡ numbers_in d inputs (n + 1)
    numbers-next n old new is step =
        let so_far : List (List Trial) = map (trials_in d inputs) (range_with_len 1 n) in
        let place : 1 + n ≡ n + 1 = omega arith in
        step so_far (is ∙ ap (λ (rules : ℕ). numbers_of rules so_far) (sym (rules-count d design lowered)))
        ∙ (λ i. numbers_of (rules-count d design lowered i) (so_far ++ tried-same n i ∷ []))
        ∙ ap (numbers_of (length d.rules)) (sym (map-range_with_len_more (trials_in d inputs) 1 n (n + 1) place))
