-- The bodies of functions and of rules are never stuck.
use Rattle.std.proofs.Common.{◌≡◌, ℕ, zero, suc, ◌<◌, ◌++◌, List, [], ◌∷◌, length, Option, Some, None, slice_get, refl, ap, sym, subst, ◌∙◌}
use Rattle.std.specs.List.{AllByRecursion}
use Rattle.std.specs.Prelude.{reverse}
use Rattle.std.proofs.lemmas.List.{append_assoc, append-nil}
use Rattle.kw_bits.specs.BitVector.{BitVector}
use Rattle.koika_types.specs.declared.value.Value.{Value}
use Rattle.typed_core.specs.Evaluation.{Ending, Value as Reached, Stop, Ports}
use Rattle.typed_core.specs.Fits.{EventsFit, PortsFit}
use Rattle.typed_core.specs.Widths.{HaveWidths}
use Rattle.typed_core.specs.declared.outcome.Stopped.{Stopped}
use Rattle.koika_check.specs.Meaning.{Meaning, RuleSetting, bodies_behind, meaning, rule_body, setting}
use Rattle.koika_check.specs.Typing.{HasType, IsOf, IsType, IsTypedDesign, Pairwise}
use Rattle.koika_check.specs.declared.checked.Checked.{Checked}
use Rattle.koika_check.specs.declared.checked.CheckedFunction.{CheckedFunction}
use Rattle.koika_check.specs.declared.checked.CheckedRule.{CheckedRule}
use Rattle.koika_check.specs.declared.typed.Typed.{Typed}
use Rattle.koika_check.specs.declared.typed.ValueType.{ValueType}
use Rattle.koika_lower.specs.Guarded.{Cause, EndsOfType, guarded_bodies, guarded_body, guarded_meaning, guarded_setting, unstuck, unstuck_ports}
use Rattle.koika_lower.specs.Lowering.{typed_input_widths, register_widths}
use Rattle.koika_lower.proofs.Agreements.{Agrees, AllHave, Ends, HasIf, all-have}
use Rattle.koika_lower.proofs.Calls.{get-front}
use Rattle.koika_lower.proofs.GuardedOperations.{Body}
use Rattle.koika_lower.proofs.Progress.{fine}
use Rattle.koika_lower.proofs.Values.{all-get}

pub get-middle : {X : Type 0} (xs : List X) (x : X) (ys : List X) → slice_get (xs ++ x ∷ ys) (length xs) ≡ Some x
get-middle [] x ys = refl
get-middle (y ∷ xs) x ys = get-middle xs x ys

-- a body that is never stuck at arguments of its parameters' types
abbrev IsFine : Checked → CheckedFunction → Meaning Stopped → Meaning Cause → Type 0
IsFine d f m h = (values : List Value) → AllHave d values (reverse f.parameters) → Agrees (register_widths d) (HasIf d f.result) (m values) (h values)

abbrev AreFine : Checked → List CheckedFunction → List (Meaning Stopped) → List (Meaning Cause) → Type 0
AreFine d [] [] [] = Unit {0}
AreFine d (f ∷ fs) (m ∷ ms) (h ∷ hs) = IsFine d f m h × AreFine d fs ms hs
AreFine d fs ms hs = ⊥

body-at : (d : Checked) (fs : List CheckedFunction) (ms : List (Meaning Stopped)) (hs : List (Meaning Cause)) (number : ℕ) (f : CheckedFunction) → AreFine d fs ms hs → slice_get fs number ≡ Some f → Body d f (slice_get ms number) (slice_get hs number)
body-at d [] ms hs number f are e = absurd (cc)
body-at d (k ∷ fs) [] hs number f are e = absurd are
body-at d (k ∷ fs) (m ∷ ms) [] number f are e = absurd are
body-at d (k ∷ fs) (m ∷ ms) (h ∷ hs) zero f are e =
    let same : k ≡ f = cc in
    subst (λ (x : CheckedFunction). Body d x (Some m) (Some h)) same (record { body = m; guarded = h; is = refl; guarded_is = refl; agrees = are.0 })
body-at d (k ∷ fs) (m ∷ ms) (h ∷ hs) (suc number) f are e = body-at d fs ms hs number f are.1 e

body-more : (d : Checked) (fs : List CheckedFunction) (ms : List (Meaning Stopped)) (hs : List (Meaning Cause)) (f : CheckedFunction) (m : Meaning Stopped) (h : Meaning Cause) → AreFine d fs ms hs → IsFine d f m h →
    AreFine d (fs ++ f ∷ []) (ms ++ m ∷ []) (hs ++ h ∷ [])
body-more d [] [] [] f m h are is = (is, tt)
body-more d [] [] (k ∷ hs) f m h are is = absurd are
body-more d [] (n ∷ ms) hs f m h are is = absurd are
body-more d (g ∷ fs) [] hs f m h are is = absurd are
body-more d (g ∷ fs) (n ∷ ms) [] f m h are is = absurd are
body-more d (g ∷ fs) (n ∷ ms) (k ∷ hs) f m h are is = (are.0, body-more d fs ms hs f m h are.1 is)

-- what ends with a value of the type
ends-of-type : (d : Checked) (of : Option ValueType) (x : Ending (Option Value) Stopped) → Ends (HasIf d of) x → EndsOfType d of x
ends-of-type d None (Reached None) h = tt
ends-of-type d None (Reached (Some v)) h = absurd h
ends-of-type d (Some t) (Reached None) h = absurd h
ends-of-type d (Some t) (Reached (Some v)) h = h.0
ends-of-type d of (Stop stopped) h = tt

module _ (d : Checked) (is : IsTypedDesign d) (inputs : List BitVector) (ports : Ports Stopped) (wide : HaveWidths (typed_input_widths d) inputs) (fit : PortsFit (register_widths d) ports) where
  abbrev plain : List (Meaning Stopped) → RuleSetting Stopped
  plain ms = record { design = d; inputs = inputs; ports = ports; bodies = ms }

  abbrev guarded : List (Meaning Cause) → RuleSetting Cause
  guarded hs = record { design = d; inputs = inputs; ports = unstuck_ports ports; bodies = hs }

  -- settings in which all functions may be called
  record Settled (s : RuleSetting Stopped) (g : RuleSetting Cause) : Type 0 where
    bodies : List (Meaning Stopped)
    others : List (Meaning Cause)
    is_plain : s ≡ plain bodies
    is_guarded : g ≡ guarded others
    callable : (number : ℕ) (f : CheckedFunction) → number < length d.functions → slice_get d.functions number ≡ Some f → Body d f (slice_get bodies number) (slice_get others number)

  settle : (fs done : List CheckedFunction) (ms : List (Meaning Stopped)) (hs : List (Meaning Cause)) → d.functions ≡ done ++ fs → AreFine d done ms hs → Settled (bodies_behind (plain ms) fs) (guarded_bodies (guarded hs) fs)
  settle [] done ms hs e are = record {
    bodies = ms;
    others = hs;
    is_plain = refl;
    is_guarded = refl;
    callable = λ number f below at. body-at d done ms hs number f are (ap (λ (xs : List CheckedFunction). slice_get xs number) (sym (e ∙ append-nil done)) ∙ at);
  }
  settle (f ∷ fs) done ms hs e are =
      let n : ℕ = length done in
      let at : slice_get d.functions n ≡ Some f = ap (λ (xs : List CheckedFunction). slice_get xs n) e ∙ get-middle done f fs in
      let ok = is.functions n f at in
      settle fs (done ++ f ∷ []) (ms ++ meaning (plain ms) f.body ∷ []) (hs ++ guarded_meaning (guarded hs) f.body ∷ []) (e ∙ sym (append_assoc done (f ∷ []) fs))
      (body-more d done ms hs f (meaning (plain ms) f.body) (guarded_meaning (guarded hs) f.body) are
      (λ values have. fine d is n inputs ports wide fit ms hs
      (λ number k below found. body-at d done ms hs number k are (sym (get-front done (f ∷ fs) number below) ∙ ap (λ (xs : List CheckedFunction). slice_get xs number) (sym e) ∙ found))
      f.body (reverse f.parameters) f.result values have ok.body))

  -- an expression of the design
  expression-fine : (e : Typed) (types : List ValueType) (of : Option ValueType) (values : List Value) → AllHave d values types → HasType d (length d.functions) e types of →
      Agrees (register_widths d) (HasIf d of) (meaning (setting d inputs ports) e values) (guarded_meaning (guarded_setting d inputs ports) e values)
  expression-fine e types of values have typed =
      let s = settle d.functions [] [] [] refl tt in
      subst (λ (x : RuleSetting Stopped). Agrees (register_widths d) (HasIf d of) (meaning x e values) (guarded_meaning (guarded_setting d inputs ports) e values)) (sym s.is_plain)
      (subst (λ (x : RuleSetting Cause). Agrees (register_widths d) (HasIf d of) (meaning (plain s.bodies) e values) (guarded_meaning x e values)) (sym s.is_guarded)
      (fine d is (length d.functions) inputs ports wide fit s.bodies s.others s.callable e types of values have typed))

  pub ends-typed : (e : Typed) (types : List ValueType) (of : Option ValueType) (values : List Value) → HasType d (length d.functions) e types of → AllByRecursion (IsType d) types → Pairwise (IsOf d) values types →
      EventsFit (register_widths d) (meaning (setting d inputs ports) e values []).events × EndsOfType d of (meaning (setting d inputs ports) e values []).ending
  ends-typed e types of values typed valid are =
      let it = expression-fine e types of values (all-have d values types valid are) typed [] tt in
      (it.1, ends-of-type d of (meaning (setting d inputs ports) e values []).ending it.2)

  pub rule-unstuck : (number : ℕ) (rule : CheckedRule) → slice_get d.rules number ≡ Some rule → guarded_body d inputs ports rule.body [] ≡ unstuck (rule_body d inputs ports rule.body [])
  rule-unstuck number rule at =
      (expression-fine rule.body [] None [] tt (all-get (λ (r : CheckedRule). HasType d (length d.functions) r.body [] None) d.rules number rule is.rules at) [] tt).0
