-- Options of which each is given at most once are few words.
use Rattle.std.proofs.Common.{◌≡◌, ℕ, ◌≤◌, Bool, true, false, Option, Some, None, refl, arith}
use Rattle.std.specs.Prelude.{if◌then◌else◌}
use Rattle.front_end.specs.GivenOnce.{given_once}

-- how many words an option with a value takes at the most
abbrev pub value_words : {X : Type 0} → Option X → ℕ
value_words None = 0
value_words (Some x) = 2

abbrev pub flag_words : Bool → ℕ
flag_words false = 0
flag_words true = 1

pub value_few : {X : Type 0} (o : Option X) → value_words o ≤ 2
value_few None = omega arith
value_few (Some x) = omega arith

pub flag_few : (b : Bool) → flag_words b ≤ 1
flag_few false = omega arith
flag_few true = omega arith

module _ {Options : Type 0} (words_of : Options → ℕ) where
  -- options that may be there take so many words, or more
  abbrev pub Takes : ℕ → Option Options → Type 0
  Takes n None = Unit {0}
  Takes n (Some o) = n ≤ words_of o

  -- a value that is given once is one more
  pub once-takes : {X : Type 0} (earlier : Option X) (put : X → Options) (value : Option X) (n : ℕ) → ((v : X) → earlier ≡ None → n ≤ words_of (put v)) → Takes n (given_once earlier put value)
  once-takes None put None n f = tt
  once-takes None put (Some v) n f = f v refl
  once-takes (Some x) put value n f = tt

  pub fewer : (others : Option Options) (m n : ℕ) → n ≤ m → Takes m others → Takes n others
  fewer None m n h t = tt
  fewer (Some o) m n h t = omega (arith, h, t)

  pub either-takes : (b : Bool) (x y : Option Options) (m : ℕ) → Takes m x → Takes m y → Takes m (if b then x else y)
  either-takes true x y m h k = h
  either-takes false x y m h k = k
