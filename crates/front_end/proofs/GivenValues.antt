-- What is known of the values of options on a command line.
use Rattle.std.proofs.Common.{◌≡◌, ℕ, ◌==◌, ◌&&◌, Bool, true, false, List, [], ◌∷◌, length, Option, Some, None, is_some, refl, sym, ap, subst, ◌∙◌, nat_le, true≢false}
use Rattle.std.specs.Prelude.{if◌then◌else◌, option_and_then, slice_get, unwrap_or}
use Rattle.std.proofs.lemmas.Bool.{eqb-true}
use Rattle.std.proofs.lemmas.Option.{none-some}
use Rattle.clap.specs.Walk.{Text}
use Rattle.front_end.specs.GivenOnce.{asked_flag, given_once}
use Rattle.front_end.specs.NumberWords.{number_of_word, value_of}

pub some_is : {X : Type 0} (x y : X) → Some x ≡ Some y → x ≡ y
some_is x y e = ap (λ o. unwrap_or o x) e

-- a value that was given once
pub once-is : {X Options : Type 0} (earlier : Option X) (put : X → Options) (value : Option X) (o : Options) → given_once earlier put value ≡ Some o → (v : X) × (earlier ≡ None) × (value ≡ Some v) × (put v ≡ o)
once-is None put None o e = absurd (none-some o e)
once-is None put (Some v) o e = (v, refl, refl, some_is _ o e)
once-is (Some x) put value o e = absurd (none-some o e)

pub flag-none : (b : Bool) → asked_flag b ≡ None → b ≡ false
flag-none false e = refl
flag-none true e = absurd (none-some true (sym e))

pub no_dash : (a b c : Bool) (value n : ℕ) → (if (a && b && false) && c then Some value else None) ≡ Some n → ⊥
no_dash true true c value n e = none-some n e
no_dash true false c value n e = none-some n e
no_dash false b c value n e = none-some n e

pub dash-first : (d : ℕ) (ds : Text) (n : ℕ) → number_of_word (d ∷ ds) ≡ Some n → (d == 45) ≡ false
dash-first d ds n e = go (d == 45) refl
  where
    go : (b : Bool) → (d == 45) ≡ b → b ≡ false
    go false is = refl
    go true is = absurd (no_dash (nat_le 1 (length (45 ∷ ds))) (nat_le (length (45 ∷ ds)) 10) (nat_le (value_of (45 ∷ ds)) 4294967295) (value_of (45 ∷ ds)) n (subst (λ x. number_of_word (x ∷ ds) ≡ Some n) (eqb-true d 45 is) e))

pub no_number : (n : ℕ) → number_of_word [] ≡ Some n → ⊥
no_number n e = none-some n e

pub record IsPlain (v : Text) : Type 0 where
  pub d : ℕ
  pub ds : Text
  pub is : v ≡ d ∷ ds
  pub dash : (d == 45) ≡ false

pub number-plain : (v : Text) (n : ℕ) → number_of_word v ≡ Some n → IsPlain v
number-plain [] n e = absurd (no_number n e)
number-plain (d ∷ ds) n e = record { d = d; ds = ds; is = refl; dash = dash-first d ds n e }

pub both-true : (a b : Bool) → (a && b) ≡ true → (a ≡ true) × (b ≡ true)
both-true true b e = (refl, e)
both-true false b e = absurd (true≢false (sym e))

pub none-there : {X : Type 0} (o : Option X) → o ≡ None → is_some o ≡ true → ⊥
none-there o e s = true≢false (sym s ∙ ap is_some e)

abbrev pub first_as : {X : Type 0} → (Text → Option X) → Option (List Text) → Option X
first_as read given = option_and_then (λ (texts : List Text). option_and_then read (slice_get texts 0)) given
