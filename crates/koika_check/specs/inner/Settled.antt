-- What holds of a checker between two declarations. All of it serves private functions alone.
use Rattle.std.specs.Prelude.{◌≡◌, ℕ, ◌<◌, ◌≤◌, ◌^◌, List, [], length, None}
use Rattle.koika_check.specs.inner.Checking.{IsChecker, scope_of}
use Rattle.koika_check.specs.inner.Things.{position_of, thing}
use Rattle.koika_check.specs.declared.checker.Checker.{Checker}
use Rattle.koika_check.specs.declared.things.Kind.TheVariants as kind

-- no name is bound, and an enum or a struct that isn't declared yet has no parts
pub record IsSettled (c : Checker) : Type 0 where
  pub checker : IsChecker c
  pub unbound : (scope_of c).locals ≡ []
  pub no_members : (number : ℕ) (name : List ℕ) → number < 2 ^ 32 → length c.design.enums ≤ number → position_of c.parts (thing kind.Enum number) name ≡ None
  pub no_fields : (number : ℕ) (name : List ℕ) → number < 2 ^ 32 → length c.design.structs ≤ number → position_of c.parts (thing kind.Struct number) name ≡ None
