-- Which functions on numbers return what a kind of host function says.
use Rattle.std.specs.Prelude.{◌≡◌, ℕ, ◌+◌, ◌*◌, ◌/◌, ◌^◌, ◌<◌}
use Rattle.kw_bits.specs.Host as host
use Rattle.kw_bits.specs.declared.host.HostKind.{HostKind}

-- a function of one argument may be called on each number of w bits, and then gives the kind's answer. It is given by
-- the arguments that it may be called on, and by the results that it may give for an argument
abbrev pub AnswersOne : HostKind → ℕ → (ℕ → Type 0) → (ℕ → ℕ → Type 0) → Type 0
AnswersOne kind w can gives = (x : ℕ) → x < 2 ^ w → can x × ((r : ℕ) → gives x r → r ≡ host.answer kind w x)

-- a function of two arguments may be called on any two numbers of half of w bits, and then gives the kind's answer to
-- the first above the second
abbrev pub AnswersTwo : HostKind → ℕ → (ℕ → ℕ → Type 0) → (ℕ → ℕ → ℕ → Type 0) → Type 0
AnswersTwo kind w can gives = (x y : ℕ) → x < 2 ^ (w / 2) → y < 2 ^ (w / 2) → can x y × ((r : ℕ) → gives x y r → r ≡ host.answer kind w (x * 2 ^ (w / 2) + y))
