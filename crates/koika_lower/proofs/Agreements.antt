-- Parts of a rule's body that come to the same where no definition takes a default, and their values.
use Rattle.std.proofs.Common.{◌≡◌, ℕ, zero, suc, ◌<◌, List, [], ◌∷◌, Bool, true, if◌then◌else◌, nat_eq, Option, Some, None, arith, refl, sym, subst}
use Rattle.std.specs.List.{AllByRecursion}
use Rattle.kw_bits.specs.BitVector.{BitVector}
use Rattle.koika_types.specs.declared.value.Value.{Value}
use Rattle.typed_core.specs.Evaluation.{Ending, Value as Reached, Stop, Progress, Evaluation, ◌>>=◌, bind, comes_to, stops}
use Rattle.typed_core.specs.Fits.{EndingFits, EventsFit, ProgressFits, ValueFits}
use Rattle.typed_core.specs.declared.access.Event.{Event}
use Rattle.typed_core.specs.declared.outcome.Stopped.{Stopped}
use Rattle.koika_check.specs.Typing.{IsOf, IsType, Pairwise}
use Rattle.koika_check.specs.declared.checked.Checked.{Checked}
use Rattle.koika_check.specs.declared.typed.ValueType.{ValueType}
use Rattle.koika_lower.specs.Guarded.{By, Cause, by_bit, unstuck, unstuck_ending, with_some}

-- a value for which something holds, or a stop
abbrev pub Ends : {V : Type 0} → (V → Type 0) → Ending V Stopped → Type 0
Ends P (Reached v) = P v
Ends P (Stop stopped) = Unit {0}

-- after events that fit the guarded part is never stuck and comes to the same, the events fit, and so does the value
abbrev pub Agrees : {V : Type 0} → List ℕ → (V → Type 0) → Evaluation V Stopped → Evaluation V Cause → Type 0
Agrees regs P m g = (events : List Event) → EventsFit regs events →
    (g events ≡ unstuck (m events)) × EventsFit regs (m events).events × Ends P (m events).ending

-- ---- parts in order

module _ {V W : Type 0} (regs : List ℕ) (P : V → Type 0) (Q : W → Type 0) (f : V → Evaluation W Stopped) (g : V → Evaluation W Cause) (next : (v : V) → P v → Agrees regs Q (f v) (g v)) where
  abbrev After : List Event → Ending V Stopped → Progress V Cause → Type 0
  After es x q = (bind q.events q.ending g ≡ unstuck (bind es x f)) × EventsFit regs (bind es x f).events × Ends Q (bind es x f).ending

  goes_on : (es : List Event) (x : Ending V Stopped) (q : Progress V Cause) → q ≡ record { events = es; ending = unstuck_ending x } → EventsFit regs es → Ends P x → After es x q
  goes_on es (Reached v) q same fit is = subst (After es (Reached v)) (sym same) (next v is es fit)
  goes_on es (Stop stopped) q same fit is = subst (After es (Stop stopped)) (sym same) (refl, fit, tt)

  pub agrees-bind : (m : Evaluation V Stopped) (h : Evaluation V Cause) → Agrees regs P m h → Agrees regs Q (m >>= f) (h >>= g)
  agrees-bind m h agrees events fit =
      let first = agrees events fit in
      goes_on (m events).events (m events).ending (h events) first.0 first.1 first.2

pub agrees-value : {V : Type 0} (regs : List ℕ) (P : V → Type 0) (v : V) → P v → Agrees regs P (comes_to v) (comes_to v)
agrees-value regs P v is events fit = (refl, fit, is)

pub agrees-stop : {V : Type 0} (regs : List ℕ) (P : V → Type 0) (stopped : Stopped) → Agrees regs P (stops stopped) (stops (By stopped))
agrees-stop regs P stopped events fit = (refl, fit, tt)

pub agrees-bit : {V : Type 0} (regs : List ℕ) (P : V → Type 0) (number : ℕ) (m n : Evaluation V Stopped) (g h : Evaluation V Cause) → number < 2 → Agrees regs P m g → Agrees regs P n h →
    Agrees regs P (if nat_eq number 1 then m else n) (by_bit number g h)
agrees-bit regs P zero m n g h few first second = second
agrees-bit regs P (suc zero) m n g h few first second = first
agrees-bit regs P (suc (suc number)) m n g h few first second = absurd (omega arith)

pub agrees-test : {V : Type 0} (regs : List ℕ) (P : V → Type 0) (test : Bool) (m : Evaluation V Stopped) (g h : Evaluation V Cause) → test ≡ true → Agrees regs P m g → Agrees regs P m (if test then g else h)
agrees-test regs P test m g h passes agrees = subst (λ b. Agrees regs P m (if b then g else h)) (sym passes) agrees

-- what has to be there is
pub agrees-some : {V W : Type 0} (regs : List ℕ) (P : W → Type 0) (m : Evaluation W Stopped) (next : V → Evaluation W Cause) (o : Option V) (v : V) → o ≡ Some v → Agrees regs P m (next v) →
    Agrees regs P m (with_some next o)
agrees-some regs P m next o v there agrees = subst (λ (x : _). Agrees regs P m (with_some next x)) (sym there) agrees

-- what a port does
port_ends : (width : ℕ) (x : Ending BitVector Stopped) → EndingFits width x → Ends (ValueFits width) x
port_ends width (Reached v) h = h
port_ends width (Stop stopped) h = tt

pub agrees-port : (regs : List ℕ) (width : ℕ) (m : Evaluation BitVector Stopped) → ((events : List Event) → EventsFit regs events → ProgressFits regs width (m events)) →
    Agrees regs (ValueFits width) m (λ events. unstuck (m events))
agrees-port regs width m fits events fit = let p = fits events fit in (refl, p.0, port_ends width (m events).ending p.1)

-- ---- values

module _ (d : Checked) where
  -- a value of a valid type
  abbrev pub Has : Value → ValueType → Type 0
  Has v t = IsOf d v t × IsType d t

  abbrev pub AllHave : List Value → List ValueType → Type 0
  AllHave = Pairwise Has

  -- such a value, or none where it is unit
  abbrev pub HasIf : Option ValueType → Option Value → Type 0
  HasIf None None = Unit {0}
  HasIf (Some t) (Some v) = Has v t
  HasIf of v = ⊥

  -- a value that isn't unit
  module _ {W : Type 0} (regs : List ℕ) (Q : W → Type 0) (t : ValueType) (f : Option Value → Evaluation W Stopped) (g : Value → Evaluation W Cause) (next : (v : Value) → Has v t → Agrees regs Q (f (Some v)) (g v)) where
    some_value : (v : Option Value) → HasIf (Some t) v → Agrees regs Q (f v) (with_some g v)
    some_value None is = absurd is
    some_value (Some v) is = next v is

    pub agrees-known : (m : Evaluation (Option Value) Stopped) (h : Evaluation (Option Value) Cause) → Agrees regs (HasIf (Some t)) m h → Agrees regs Q (m >>= f) (h >>= with_some g)
    agrees-known m h agrees = agrees-bind regs (HasIf (Some t)) Q f (with_some g) some_value m h agrees

  -- values one by one
  pub all-are : (vs : List Value) (ts : List ValueType) → AllHave vs ts → Pairwise (IsOf d) vs ts
  all-are [] [] have = tt
  all-are [] (t ∷ ts) have = absurd have
  all-are (v ∷ vs) [] have = absurd have
  all-are (v ∷ vs) (t ∷ ts) have = (have.0.0, all-are vs ts have.1)

  pub all-valid : (vs : List Value) (ts : List ValueType) → AllHave vs ts → AllByRecursion (IsType d) ts
  all-valid [] [] have = tt
  all-valid [] (t ∷ ts) have = absurd have
  all-valid (v ∷ vs) [] have = absurd have
  all-valid (v ∷ vs) (t ∷ ts) have = (have.0.1, all-valid vs ts have.1)

  pub all-have : (vs : List Value) (ts : List ValueType) → AllByRecursion (IsType d) ts → Pairwise (IsOf d) vs ts → AllHave vs ts
  all-have [] [] valid are = tt
  all-have [] (t ∷ ts) valid are = absurd are
  all-have (v ∷ vs) [] valid are = absurd are
  all-have (v ∷ vs) (t ∷ ts) valid are = ((are.0, valid.0), all-have vs ts valid.1 are.1)
