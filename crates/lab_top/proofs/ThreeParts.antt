-- A text that is written in three parts.
use Rattle.std.proofs.Common.{◌≡◌, ℕ, List, ◌++◌, Option, Result, Ok, Err}
use Rattle.front_end.specs.Streams.{Stream}
use Rattle.front_end.specs.Told.{Told}
use Rattle.front_end.specs.declared.untold.Untold.{Untold}
use Rattle.front_end.specs.declared.untold.Untold.TheVariants as untold
use Rattle.front_end.proofs.Told.{at, told-as, told-cut, told-so-far, told-then}

module _ (first middle last all : List ℕ) (whole : first ++ middle ++ last ≡ all) where
  -- the first part was cut off
  pub told-first : (s : Stream) (e : Untold) → Told first s (Err e) → Told all s (Err e)
  told-first s e one =
      told-as (first ++ middle ++ last) all s (Err e) whole
      (told-cut (first ++ middle) last s e (told-cut first middle s e one))

  module _ (a b c : Option (List ℕ)) (l m k : ℕ) (u : Unit {0}) (one : Told first (at a b l m) (Ok u)) where
    -- after it the second was
    pub told-middle : (e : Untold) → Told middle (at b c m k) (Err e) → Told all (at a c l k) (Err e)
    told-middle e two =
        told-as (first ++ middle ++ last) all (at a c l k) (Err e) whole
        (told-cut (first ++ middle) last (at a c l k) e (told-then first middle a b c l m k u (Err e) one two))

    module _ (v : Unit {0}) (two : Told middle (at b c m k) (Ok v)) where
      both : Told (first ++ middle) (at a c l k) (Ok v)
      both = told-then first middle a b c l m k u (Ok v) one two

      -- there was no memory for the last
      pub told-no_last : Told all (at a c l k) (Err untold.NoMemory)
      told-no_last =
          told-as (first ++ middle ++ last) all (at a c l k) (Err untold.NoMemory) whole
          (told-so-far (first ++ middle) last (at a c l k) v both)

      -- the last was written, or cut off
      pub told-last : (z : Option (List ℕ)) (j : ℕ) (r : Result (Unit {0}) Untold) → Told last (at c z k j) r → Told all (at a z l j) r
      told-last z j r three =
          told-as (first ++ middle ++ last) all (at a z l j) r whole
          (told-then (first ++ middle) last a c z l k j v r both three)
