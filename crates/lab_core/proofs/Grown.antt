-- How the numbers of a rule, and of a run, grow by one cycle more.
use Rattle.std.proofs.Common.{◌≡◌, ℕ, zero, suc, ◌+◌, ◌<◌, Bool, true, false, cond, List, [], ◌∷◌, ◌++◌, length, map, replicate, Option, Some, None, refl, sym, ap, ap₂, ◌∙◌, subst, arith}
use Rattle.std.specs.Prelude.{Err, Ok, OnOk, Result, slice_index_or}
use Rattle.std.specs.List.{count_by, position_from, range_with_len}
use Rattle.std.specs.Option.{option_or}
use Rattle.std.proofs.lemmas.List.{length-map, length_push, map-append, same_lists}
use Rattle.std.proofs.lemmas.List.FromFn.{get_or-map-range_with_len, length-map-range_with_len}
use Rattle.attempt_log.specs.declared.cause.Cause.{Cause}
use Rattle.attempt_log.specs.declared.cause.Cause.TheVariants as cause
use Rattle.lab_core.specs.Numbers.{Counted, RunNumbers, RuleNumbers, cause_in, has_fired, is_abort, is_clash, is_own, is_unwatched, numbers_of, passes, refusals_from, rule_numbers, same_cause, verdict_in, was_untried}
use Rattle.lab_core.specs.declared.trial.Trial.{Trial}
use Rattle.lab_core.specs.declared.trial.TrialVerdict.{TrialVerdict}
use Rattle.lab_core.specs.declared.trial.TrialVerdict.TheVariants as verdict
use Rattle.lab_core.specs.inner.Counting.{first_of, verdicts_of, with_refusal, with_verdict}
use Rattle.lab_core.proofs.Refusals.{count_push, more, refusals_new, refusals_skip}

-- the first place, with one more item
position_push : {X : Type 0} (p : X → Bool) (at end : ℕ) (xs : List X) (x : X) → end ≡ at + length xs
    → position_from p at (xs ++ x ∷ []) ≡ option_or (position_from p at xs) (cond (p x) (Some end) None)
position_push p at end [] x place = let here : at ≡ end = omega (arith, place) in ap (λ (n : ℕ). cond (p x) (Some n) None) here
position_push p at end (y ∷ xs) x place = chosen (p y) (position_push p (at + 1) end xs x (omega (arith, place)))
  where
    chosen : (b : Bool) → position_from p (at + 1) (xs ++ x ∷ []) ≡ option_or (position_from p (at + 1) xs) (cond (p x) (Some end) None)
        → cond b (Some at) (position_from p (at + 1) (xs ++ x ∷ [])) ≡ option_or (cond b (Some at) (position_from p (at + 1) xs)) (cond (p x) (Some end) None)
    chosen true h = refl
    chosen false h = h

abbrev make : ℕ → ℕ → ℕ → ℕ → ℕ → Option ℕ → List Counted → RuleNumbers
make fired aborted own clashed untried unwatched refusals =
    record { fired = fired; aborted = aborted; own = own; clashed = clashed; untried = untried; unwatched = unwatched; refusals = refusals }

-- the refusals with one cycle more
abbrev refusals_with : ℕ → Option Cause → List Counted → List Counted
refusals_with cycle (Some cause.Abort) refusals = refusals
refusals_with cycle (Some (cause.OwnClash a)) refusals = with_refusal cycle (cause.OwnClash a) refusals
refusals_with cycle (Some (cause.Clash a q e)) refusals = with_refusal cycle (cause.Clash a q e) refusals
refusals_with cycle None refusals = refusals

refusals_push : (cycle : ℕ) (causes : List (Option Cause)) (o : Option Cause) → cycle ≡ length causes + 1 → refusals_from 1 [] (causes ++ o ∷ []) ≡ refusals_with cycle o (refusals_from 1 [] causes)
refusals_push cycle causes None place = refusals_skip None (λ c fine. refl) (λ cycle known. refl) 1 [] causes
refusals_push cycle causes (Some cause.Abort) place = refusals_skip (Some cause.Abort) other (λ cycle known. refl) 1 [] causes
  where
    other : (c : Cause) → is_abort c ≡ false → same_cause c cause.Abort ≡ false
    other cause.Abort fine = absurd cc
    other (cause.OwnClash a) fine = refl
    other (cause.Clash a q e) fine = refl
refusals_push cycle causes (Some (cause.OwnClash a)) place = refusals_new (cause.OwnClash a) refl 1 cycle [] causes (omega (arith, place)) refl
refusals_push cycle causes (Some (cause.Clash a q e)) place = refusals_new (cause.Clash a q e) refl 1 cycle [] causes (omega (arith, place)) refl

-- all numbers of a rule with one cycle more
grown : (cycle : ℕ) (verdicts : List (Option TrialVerdict)) (v : Option TrialVerdict) → cycle ≡ length verdicts + 1
    → let n = rule_numbers verdicts in let o = cause_in v in
    rule_numbers (verdicts ++ v ∷ []) ≡ make (more (has_fired v) n.fired) (more (passes is_abort o) n.aborted) (more (passes is_own o) n.own) (more (passes is_clash o) n.clashed) (more (was_untried v) n.untried)
    (option_or n.unwatched (cond (is_unwatched v) (Some cycle) None)) (refusals_with cycle o n.refusals)
grown cycle verdicts v place =
    let all : List (Option TrialVerdict) = verdicts ++ v ∷ [] in
    let causes : List (Option Cause) = map cause_in verdicts in
    let split : map cause_in all ≡ causes ++ cause_in v ∷ [] = map-append cause_in verdicts (v ∷ []) in
    let n : RuleNumbers = rule_numbers verdicts in
    let count : (test : Cause → Bool) → count_by (passes test) (map cause_in all) ≡ more (passes test (cause_in v)) (count_by (passes test) causes) =
    λ test. ap (count_by (passes test)) split ∙ count_push (passes test) causes (cause_in v) in
    let here : cycle ≡ length causes + 1 = omega (arith, place, length-map verdicts cause_in) in
    ap₂ (λ a b. make a b (count_by (passes is_own) (map cause_in all)) (count_by (passes is_clash) (map cause_in all)) (count_by was_untried all) (position_from is_unwatched 1 all) (refusals_from 1 [] (map cause_in all)))
    (count_push has_fired verdicts v) (count is_abort)
    ∙ ap₂ (λ a b. make (more (has_fired v) n.fired) (more (passes is_abort (cause_in v)) n.aborted) a b (count_by was_untried all) (position_from is_unwatched 1 all) (refusals_from 1 [] (map cause_in all)))
    (count is_own) (count is_clash)
    ∙ ap₂ (λ a b. make (more (has_fired v) n.fired) (more (passes is_abort (cause_in v)) n.aborted) (more (passes is_own (cause_in v)) n.own) (more (passes is_clash (cause_in v)) n.clashed) a b (refusals_from 1 [] (map cause_in all)))
    (count_push was_untried verdicts v) (position_push is_unwatched 1 cycle verdicts v (omega (arith, place)))
    ∙ ap (λ r. make (more (has_fired v) n.fired) (more (passes is_abort (cause_in v)) n.aborted) (more (passes is_own (cause_in v)) n.own) (more (passes is_clash (cause_in v)) n.clashed) (more (was_untried v) n.untried)
    (option_or n.unwatched (cond (is_unwatched v) (Some cycle) None)) r)
    (ap (refusals_from 1 []) split ∙ refusals_push cycle causes (cause_in v) here)

-- nothing is added
same : (n : ℕ) → more false n ≡ n
same n = omega arith

or_none : (o : Option ℕ) → option_or o None ≡ o
or_none None = refl
or_none (Some n) = refl

stays : (n : RuleNumbers) (f a o c u : ℕ) (w : Option ℕ) (r : List Counted) → f ≡ n.fired → a ≡ n.aborted → o ≡ n.own → c ≡ n.clashed → u ≡ n.untried → w ≡ n.unwatched
    → make f a o c u w r ≡ make n.fired n.aborted n.own n.clashed n.untried n.unwatched r
stays n f a o c u w r ef ea eo ec eu ew =
    ap₂ (λ x y. make x y o c u w r) ef ea ∙ ap₂ (λ x y. make n.fired n.aborted x y u w r) eo ec ∙ ap₂ (λ x y. make n.fired n.aborted n.own n.clashed x y r) eu ew

-- the numbers of a rule with a verdict more
pub numbers_grow : (cycle : ℕ) (verdicts : List (Option TrialVerdict)) (v : Option TrialVerdict) → cycle ≡ length verdicts + 1 → with_verdict cycle (rule_numbers verdicts) v ≡ rule_numbers (verdicts ++ v ∷ [])
numbers_grow cycle verdicts v place = sym (grown cycle verdicts v place ∙ at v)
  where
    n : RuleNumbers
    n = rule_numbers verdicts

    at : (v : Option TrialVerdict) → let o = cause_in v in
        make (more (has_fired v) n.fired) (more (passes is_abort o) n.aborted) (more (passes is_own o) n.own) (more (passes is_clash o) n.clashed) (more (was_untried v) n.untried)
        (option_or n.unwatched (cond (is_unwatched v) (Some cycle) None)) (refusals_with cycle o n.refusals) ≡ with_verdict cycle n v
    at None = stays (record n { untried = n.untried + 1; unwatched = first_of n.unwatched cycle }) _ _ _ _ _ _ n.refusals (same n.fired) (same n.aborted) (same n.own) (same n.clashed) refl refl
    at (Some verdict.Fired) = stays (record n { fired = n.fired + 1 }) _ _ _ _ _ _ n.refusals refl (same n.aborted) (same n.own) (same n.clashed) (same n.untried) (or_none n.unwatched)
    at (Some (verdict.Refused cause.Abort)) = stays (record n { aborted = n.aborted + 1 }) _ _ _ _ _ _ n.refusals (same n.fired) refl (same n.own) (same n.clashed) (same n.untried) (or_none n.unwatched)
    at (Some (verdict.Refused (cause.OwnClash a))) =
        stays (record n { own = n.own + 1; unwatched = first_of n.unwatched cycle }) _ _ _ _ _ _ (with_refusal cycle (cause.OwnClash a) n.refusals) (same n.fired) (same n.aborted) refl (same n.clashed) (same n.untried) refl
    at (Some (verdict.Refused (cause.Clash a q e))) =
        stays (record n { clashed = n.clashed + 1; unwatched = first_of n.unwatched cycle }) _ _ _ _ _ _ (with_refusal cycle (cause.Clash a q e) n.refusals) (same n.fired) (same n.aborted) (same n.own) refl (same n.untried) refl

-- ---- runs

-- each rule's numbers have grown by its verdict
abbrev pub EachGrows : ℕ → List RuleNumbers → List (Option TrialVerdict) → List RuleNumbers → Type 0
EachGrows cycle old verdicts new =
    (rule : ℕ) (none : RuleNumbers) → rule < length old → slice_index_or new rule none ≡ with_verdict cycle (slice_index_or old rule none) (slice_index_or verdicts rule None)

pub run_grows : (rules cycle : ℕ) (cycles : List (List Trial)) (tried : List Trial) (old : RunNumbers) (new : List RuleNumbers) → old ≡ numbers_of rules cycles → cycle ≡ old.cycles + 1
    → length new ≡ length old.rules → EachGrows cycle old.rules (verdicts_of rules tried) new → record { cycles = cycle; rules = new } ≡ numbers_of rules (cycles ++ tried ∷ [])
unfolding numbers_of
run_grows rules cycle cycles tried old new is next count each =
    ap₂ (λ (c : ℕ) (rs : List RuleNumbers). let n : RunNumbers = record { cycles = c; rules = rs } in n) place (same_lists new all length_same at)
  where
    before : ℕ → RuleNumbers
    before rule = rule_numbers (map (verdict_in rule) cycles)

    after : ℕ → RuleNumbers
    after rule = rule_numbers (map (verdict_in rule) (cycles ++ tried ∷ []))

    all : List RuleNumbers
    all = map after (range_with_len 0 rules)

    old_rules : old.rules ≡ map before (range_with_len 0 rules)
    old_rules = ap (λ (n : RunNumbers). n.rules) is

    place : cycle ≡ length (cycles ++ tried ∷ [])
    place = omega (arith, next, ap (λ (n : RunNumbers). n.cycles) is, length_push cycles tried)

    length_same : length new ≡ length all
    length_same = omega (arith, count, ap length old_rules, length-map-range_with_len before 0 rules, length-map-range_with_len after 0 rules)

    at : (k : ℕ) (d : RuleNumbers) → k < length new → slice_index_or new k d ≡ slice_index_or all k d
    at k d inside =
        let within : k < rules = omega (arith, inside, length_same, length-map-range_with_len after 0 rules) in
        let here : 0 + k ≡ k = omega arith in
        let many : cycle ≡ length (map (verdict_in k) cycles) + 1 = omega (arith, next, ap (λ (n : RunNumbers). n.cycles) is, length-map cycles (verdict_in k)) in
        each k d (omega (arith, inside, count))
        ∙ ap₂ (with_verdict cycle) (ap (λ (rs : List RuleNumbers). slice_index_or rs k d) old_rules ∙ get_or-map-range_with_len before 0 rules k k d within here) (get_or-map-range_with_len (λ rule. verdict_in rule tried) 0 rules k k None within here)
        ∙ numbers_grow cycle (map (verdict_in k) cycles) (verdict_in k tried) many
        ∙ ap rule_numbers (sym (map-append (verdict_in k) cycles (tried ∷ [])))
        ∙ sym (get_or-map-range_with_len after 0 rules k k d within here)

-- no cycle
begins : (n from : ℕ) → replicate n (rule_numbers []) ≡ map (λ (rule : ℕ). rule_numbers (map (verdict_in rule) [])) (range_with_len from n)
begins zero from = refl
begins (suc n) from = ap (λ (rs : List RuleNumbers). rule_numbers [] ∷ rs) (begins n (from + 1))

pub run_begins : (rules n : ℕ) (items : List RuleNumbers) → items ≡ replicate n (rule_numbers []) → n ≡ rules → record { cycles = 0; rules = items } ≡ numbers_of rules []
unfolding numbers_of
run_begins rules n items is same =
    ap (λ (rs : List RuleNumbers). let x : RunNumbers = record { cycles = 0; rules = rs } in x) (is ∙ ap (λ (k : ℕ). replicate k (rule_numbers [])) same ∙ begins rules 0)

-- what holds after a call that succeeded
pub on_ok : {E : Type 0} (r : Result (Unit {0}) E) (A B : Type 0) → OnOk r A → (A → B) → OnOk r B
on_ok (Ok x) A B a f = f a
on_ok (Err e) A B a f = a

pub profile_grows : {E : Type 0} (r : Result (Unit {0}) E) (rules cycle len : ℕ) (tried : List Trial) (old : RunNumbers) (before after : List RuleNumbers) (verdicts : List (Option TrialVerdict))
    → before ≡ old.rules → cycle ≡ old.cycles + 1 → length old.rules ≡ rules → len ≡ length before → verdicts ≡ verdicts_of len tried → length after ≡ length before
    → OnOk r (EachGrows cycle before verdicts after)
    → OnOk r ((cycles : List (List Trial)) → old ≡ numbers_of rules cycles → record { cycles = cycle; rules = after } ≡ numbers_of rules (cycles ++ tried ∷ []))
profile_grows r rules cycle len tried old before after verdicts begun next count size is kept each =
    on_ok r (EachGrows cycle before verdicts after) _ each
    (λ grown cycles same. run_grows rules cycle cycles tried old after same next (kept ∙ ap length begun) (moved grown))
  where
    table : verdicts ≡ verdicts_of rules tried
    table = is ∙ ap (λ (n : ℕ). verdicts_of n tried) (size ∙ ap length begun ∙ count)

    moved : EachGrows cycle before verdicts after → EachGrows cycle old.rules (verdicts_of rules tried) after
    moved grown = subst (λ (rs : List RuleNumbers). EachGrows cycle rs (verdicts_of rules tried) after) begun (subst (λ (vs : List (Option TrialVerdict)). EachGrows cycle before vs after) table grown)
