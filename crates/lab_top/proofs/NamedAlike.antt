-- Designs with the same declarations but for what rules do have the same texts.
use Rattle.std.proofs.Common.{◌≡◌, ℕ, zero, suc, ◌+◌, List, [], ◌∷◌, ◌++◌, length, map, Option, refl, sym, ap, ap₂, ◌∙◌, codes}
use Rattle.std.specs.Prelude.{decimal, slice_get, slice_index_or}
use Rattle.std.specs.List.{filter, flat_map}
use Rattle.std.proofs.lemmas.List.{length-map}
use Rattle.kw_bits.specs.BitVector.{BitVector}
use Rattle.typed_core.specs.declared.access.Access.{Access}
use Rattle.typed_core.specs.declared.access.Event.{Event}
use Rattle.typed_core.specs.declared.design.InputDecl.{InputDecl}
use Rattle.typed_core.specs.declared.design.Parts.{Parts}
use Rattle.typed_core.specs.declared.design.RegDecl.{RegDecl}
use Rattle.typed_core.specs.declared.design.Rule.{Rule}
use Rattle.attempt_log.specs.declared.cause.Cause.{Cause}
use Rattle.attempt_log.specs.declared.cause.Cause.TheVariants as cause
use Rattle.stim_report.specs.Report.{registers_text}
use Rattle.stim_report.specs.Shapes.{of_input, of_register}
use Rattle.journal_check.specs.Printing.{access_text, ended, event_text, joined_tokens, name_of_rule, rule_name}
use Rattle.lab_core.specs.Numbers.{Counted, RunNumbers, RuleNumbers}
use Rattle.lab_core.specs.Profiles.{assert_line, counts_line, cycles_line, first_tokens, profile_text, refusal_line, refusal_tokens, rule_text, rules_text}
use Rattle.lab_core.specs.Trials.{untried}
use Rattle.lab_core.specs.Why.{cycle_line, is_asked, trial_line, trials_text, untried_line, verdict_tokens}
use Rattle.lab_core.specs.declared.trial.Trial.{Trial}
use Rattle.lab_core.specs.declared.trial.TrialVerdict.{TrialVerdict}
use Rattle.lab_core.specs.declared.trial.TrialVerdict.TheVariants as verdict

abbrev pub names_in : Parts → List (List ℕ)
names_in design = map (λ (r : Rule). r.name) design.rules

-- the name of a rule is that among the names
name-at : (rules : List Rule) (n : ℕ) → name_of_rule (slice_get rules n) ≡ slice_index_or (map (λ (r : Rule). r.name) rules) n []
name-at [] n = refl
name-at (r ∷ rules) zero = refl
name-at (r ∷ rules) (suc n) = name-at rules n

module _ (a b : Parts) (regs : a.regs ≡ b.regs) (inputs : a.inputs ≡ b.inputs) (names : names_in a ≡ names_in b) where
  rule_name-same : (n : ℕ) → rule_name a n ≡ rule_name b n
  rule_name-same n = name-at a.rules n ∙ ap (λ (all : List (List ℕ)). slice_index_or all n []) names ∙ sym (name-at b.rules n)

  rules-same : length a.rules ≡ length b.rules
  rules-same = sym (length-map a.rules (λ (r : Rule). r.name)) ∙ ap length names ∙ length-map b.rules (λ (r : Rule). r.name)

  access-same : (x : Access) → access_text a x ≡ access_text b x
  access-same x i = access_text (record a { regs = regs i }) x

  event-same : (e : Event) → event_text a e ≡ event_text b e
  event-same e i = event_text (record a { regs = regs i }) e

  -- ---- why

  pub cycle_line-same : (cycle : ℕ) (values held : List BitVector) → cycle_line a cycle values held ≡ cycle_line b cycle values held
  cycle_line-same cycle values held =
      ap₂ (λ (ins : List InputDecl) (own : List RegDecl). ended (codes "cycle " ++ decimal cycle ++ registers_text (map of_input ins) values ++ registers_text (map of_register own) held)) inputs regs

  verdict-same : (v : TrialVerdict) → verdict_tokens a v ≡ verdict_tokens b v
  verdict-same verdict.Fired = refl
  verdict-same (verdict.Refused cause.Abort) = refl
  verdict-same (verdict.Refused (cause.OwnClash x)) = ap (λ (text : List ℕ). codes "own" ∷ text ∷ []) (access-same x)
  verdict-same (verdict.Refused (cause.Clash x rule earlier)) = λ i. codes "clash" ∷ access-same x i ∷ rule_name-same rule i ∷ access-same earlier i ∷ []

  trial_line-same : (t : Trial) → trial_line a t ≡ trial_line b t
  trial_line-same t i = ended (joined_tokens (rule_name-same t.rule i ∷ verdict-same t.verdict i ++ (codes ":" ∷ map (λ (e : Event). event-same e i) t.events)))

  untried_line-same : (rule : ℕ) → untried_line a rule ≡ untried_line b rule
  untried_line-same rule i = ended (joined_tokens (rule_name-same rule i ∷ codes "untried" ∷ []))

  pub trials_text-same : (only : Option ℕ) (tried : List Trial) → trials_text a only tried ≡ trials_text b only tried
  trials_text-same only tried i =
      flat_map (λ (t : Trial). trial_line-same t i) (filter (λ (t : Trial). is_asked only t.rule) tried)
      ++ flat_map (λ (rule : ℕ). untried_line-same rule i) (filter (is_asked only) (untried (rules-same i) tried))

  -- ---- profile

  refusal-same : (name : List ℕ) (c : Cause) → refusal_tokens a name c ≡ refusal_tokens b name c
  refusal-same name cause.Abort = refl
  refusal-same name (cause.OwnClash x) = ap (λ (text : List ℕ). codes "own" ∷ name ∷ text ∷ []) (access-same x)
  refusal-same name (cause.Clash x rule earlier) = λ i. codes "clash" ∷ name ∷ access-same x i ∷ rule_name-same rule i ∷ access-same earlier i ∷ []

  refusal_line-same : (name : List ℕ) (c : Counted) → refusal_line a name c ≡ refusal_line b name c
  refusal_line-same name c = ap (λ (tokens : List (List ℕ)). ended (joined_tokens (tokens ++ (decimal c.count ∷ first_tokens c.first)))) (refusal-same name c.cause)

  rule_text-same : (rule : ℕ) (n : RuleNumbers) → rule_text a (rule_name a rule) n ≡ rule_text b (rule_name b rule) n
  rule_text-same rule n =
      ap (λ (name : List ℕ). rule_text a name n) (rule_name-same rule)
      ∙ (λ i. counts_line (rule_name b rule) n ++ flat_map (λ (c : Counted). refusal_line-same (rule_name b rule) c i) n.refusals)

  rules_text-same : (rule : ℕ) (rules : List RuleNumbers) → rules_text a rule rules ≡ rules_text b rule rules
  rules_text-same rule [] = refl
  rules_text-same rule (n ∷ rules) = ap₂ (λ (x y : List ℕ). x ++ y) (rule_text-same rule n) (rules_text-same (rule + 1) rules)

  pub profile_text-same : (marks : List ℕ) (numbers : RunNumbers) → profile_text a marks numbers ≡ profile_text b marks numbers
  profile_text-same marks numbers i =
      cycles_line numbers.cycles ++ rules_text-same 0 numbers.rules i
      ++ flat_map (λ (mark : ℕ). assert_line (rule_name-same mark i) (slice_get numbers.rules mark)) marks
