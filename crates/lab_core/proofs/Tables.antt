-- The verdicts of a cycle by rule, and which rules have none.
use Rattle.std.proofs.Common.{◌≡◌, ◌⊎◌, ℕ, zero, suc, ◌+◌, ◌<◌, ◌≤◌, Bool, true, false, cond, List, [], ◌∷◌, length, map, replicate, Option, Some, None, is_some, refl, sym, ap, ◌∙◌, inl, inr, eq-eqb, arith}
use Rattle.std.specs.Prelude.{◌==◌, ◌||◌, option_map, slice_index_or, slice_set}
use Rattle.std.specs.List.{find, range_with_len}
use Rattle.std.proofs.lemmas.Bool.{cases_eq, ne_eqb}
use Rattle.std.proofs.lemmas.List.{get_or-set_same, get_or-set_other, length-set, same_lists, set_past}
use Rattle.std.proofs.lemmas.List.FromFn.{get_or-map-range_with_len, length-map-range_with_len}
use Rattle.lab_core.specs.Numbers.{verdict_in}
use Rattle.lab_core.specs.Trials.{is_tried}
use Rattle.lab_core.specs.declared.trial.Trial.{Trial}
use Rattle.lab_core.specs.declared.trial.TrialVerdict.{TrialVerdict}
use Rattle.lab_core.specs.inner.Counting.{verdicts_of}

-- no trial
begins_from : (n from : ℕ) → replicate n None ≡ map (λ (rule : ℕ). verdict_in rule []) (range_with_len from n)
begins_from zero from = refl
begins_from (suc n) from = ap (λ (vs : List (Option TrialVerdict)). None ∷ vs) (begins_from n (from + 1))

pub table_begins : (rules : ℕ) → replicate rules None ≡ verdicts_of rules []
table_begins rules = begins_from rules 0

-- no place is set past the end
pub outside : (verdicts : List (Option TrialVerdict)) (rule : ℕ) (v : Option TrialVerdict) → length verdicts ≤ rule → verdicts ≡ slice_set verdicts rule v
outside verdicts rule v h = sym (set_past verdicts rule v h)

-- one trial more in front
pub table_next : (rules : ℕ) (t : Trial) (tried : List Trial) → slice_set (verdicts_of rules tried) t.rule (Some t.verdict) ≡ verdicts_of rules (t ∷ tried)
table_next rules t tried = same_lists old new lengths at
  where
    old : List (Option TrialVerdict)
    old = slice_set (verdicts_of rules tried) t.rule (Some t.verdict)

    new : List (Option TrialVerdict)
    new = verdicts_of rules (t ∷ tried)

    short : ℕ → Option TrialVerdict
    short rule = verdict_in rule tried

    long : ℕ → Option TrialVerdict
    long rule = verdict_in rule (t ∷ tried)

    size : length (verdicts_of rules tried) ≡ rules
    size = length-map-range_with_len short 0 rules

    lengths : length old ≡ length new
    lengths = length-set (verdicts_of rules tried) t.rule (Some t.verdict) ∙ size ∙ sym (length-map-range_with_len long 0 rules)

    at : (k : ℕ) (d : Option TrialVerdict) → k < length old → slice_index_or old k d ≡ slice_index_or new k d
    at k d inside = chosen (cases_eq t.rule k)
      where
        within : k < rules
        within = omega (arith, inside, length-set (verdicts_of rules tried) t.rule (Some t.verdict), size)

        here : 0 + k ≡ k
        here = omega arith

        of_new : slice_index_or new k d ≡ long k
        of_new = get_or-map-range_with_len long 0 rules k k d within here

        chosen : (t.rule ≡ k) ⊎ (t.rule ≡ k → ⊥) → slice_index_or old k d ≡ slice_index_or new k d
        chosen (inl same) =
            ap (λ (r : ℕ). slice_index_or (slice_set (verdicts_of rules tried) r (Some t.verdict)) k d) same
            ∙ get_or-set_same (verdicts_of rules tried) k (Some t.verdict) d (omega (arith, within, size))
            ∙ sym (of_new ∙ ap (λ (b : Bool). option_map (λ (x : Trial). x.verdict) (cond b (Some t) (find (λ (x : Trial). x.rule == k) tried))) (eq-eqb t.rule k same))
        chosen (inr other) =
            get_or-set_other (verdicts_of rules tried) t.rule k (Some t.verdict) d (λ e. other (sym e))
            ∙ get_or-map-range_with_len short 0 rules k k d within here
            ∙ sym (of_new ∙ ap (λ (b : Bool). option_map (λ (x : Trial). x.verdict) (cond b (Some t) (find (λ (x : Trial). x.rule == k) tried))) (ne_eqb t.rule k other))

-- a rule has a verdict where it has a trial
pub tried_some : (rule : ℕ) (tried : List Trial) → is_some (verdict_in rule tried) ≡ is_tried tried rule
tried_some rule [] = refl
tried_some rule (t ∷ tried) = chosen (t.rule == rule) (tried_some rule tried)
  where
    chosen : (b : Bool) → is_some (verdict_in rule tried) ≡ is_tried tried rule
        → is_some (option_map (λ (x : Trial). x.verdict) (cond b (Some t) (find (λ (x : Trial). x.rule == rule) tried))) ≡ (b || is_tried tried rule)
    chosen true h = refl
    chosen false h = h

-- the verdict on a rule in the table
pub verdict_at : (rules rule : ℕ) (tried : List Trial) (verdicts : List (Option TrialVerdict)) (d : Option TrialVerdict) → verdicts ≡ verdicts_of rules tried → rule < rules → slice_index_or verdicts rule d ≡ verdict_in rule tried
verdict_at rules rule tried verdicts d is within =
    ap (λ (vs : List (Option TrialVerdict)). slice_index_or vs rule d) is ∙ get_or-map-range_with_len (λ (r : ℕ). verdict_in r tried) 0 rules rule rule d within (omega arith)

pub table_length : (rules : ℕ) (tried : List Trial) (verdicts : List (Option TrialVerdict)) → verdicts ≡ verdicts_of rules tried → length verdicts ≡ rules
table_length rules tried verdicts is = ap length is ∙ length-map-range_with_len (λ (r : ℕ). verdict_in r tried) 0 rules
