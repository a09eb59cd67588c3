-- What was written by calls one after another, and what the status of the last one says of it.
use Rattle.std.proofs.Common.{◌≡◌, ℕ, ◌≤◌, List, [], ◌++◌, take, drop, take-append-drop, Option, None, Some, Result, Ok, Err, refl, sym, ap, subst, ◌∙◌, inl, inr, ⊎_elim, append_assoc, append-nil, arith}
use Rattle.std.specs.Io.KnownBytes.{Appends, Keeps}
use Rattle.kw_base.specs.Fault.{IfFault}
use Rattle.kw_base.specs.declared.fault.Refusal.{Refusal}
use Rattle.kw_base.specs.declared.fault.Refusal.TheVariants as refusals
use Rattle.kw_bits.specs.Faults.{Rose}
use Rattle.front_end.specs.Program.{Program, status_of, text_in, text_of}
use Rattle.front_end.specs.Streams.{AppendsFront, Gains, GainsFront, GainsNothing, Stream}
use Rattle.front_end.specs.Told.{TellsMade, TellsText, TellsWhy, Told, status_by}
use Rattle.front_end.specs.declared.answer.Answer.{Answer}
use Rattle.front_end.specs.declared.answer.Answer.TheVariants.{Refused, Written}
use Rattle.front_end.specs.declared.status.Status.{Status}
use Rattle.front_end.specs.declared.status.Status.TheVariants as status
use Rattle.front_end.specs.declared.untold.Untold.{Untold}
use Rattle.front_end.specs.declared.untold.Untold.TheVariants as untold
use Rattle.front_end.specs.inner.Steps.{Makes, Tells, TellsOne}

-- ---- bytes that grow

-- known bytes that stay grow by nothing, and are kept
pub appends-none : (known : Option (List ℕ)) → Appends known known []
appends-none None = tt
appends-none (Some bytes) = sym (append-nil bytes)

pub keeps-known : (known : Option (List ℕ)) → Keeps known known
keeps-known None = tt
keeps-known (Some bytes) = refl

-- known bytes that are kept grow by nothing
pub appends-kept : (old new : Option (List ℕ)) → Keeps old new → Appends old new []
appends-kept None new kept = tt
appends-kept (Some xs) None kept = absurd kept
appends-kept (Some xs) (Some ys) kept = kept ∙ sym (append-nil xs)

-- bytes that grow by one text, and then by another
pub appends-twice : (a b c : Option (List ℕ)) (x y : List ℕ) → Appends a b x → Appends b c y → Appends a c (x ++ y)
appends-twice None b c x y h k = tt
appends-twice (Some xs) None c x y h k = absurd h
appends-twice (Some xs) (Some ys) None x y h k = absurd k
appends-twice (Some xs) (Some ys) (Some zs) x y h k = k ∙ ap (λ l. l ++ y) h ∙ append_assoc xs x y

-- a text that was written whole, and then the first bytes of the next one
front-after : (a b c : Option (List ℕ)) (x y : List ℕ) → Appends a b x → AppendsFront b c y → AppendsFront a c (x ++ y)
front-after a b c x y h (front, rest, is, k) = (x ++ front, rest, append_assoc x front rest ∙ ap (λ l. x ++ l) is, appends-twice a b c x front h k)

-- the first bytes of a first text
front-of-first : (a b : Option (List ℕ)) (x y : List ℕ) → AppendsFront a b x → AppendsFront a b (x ++ y)
front-of-first a b x y (front, rest, is, k) = (front, rest ++ y, sym (append_assoc front rest y) ∙ ap (λ l. l ++ y) is, k)

-- a count that rises after one that doesn't fall has risen
rose-after : (l m n : ℕ) → l ≤ m → Rose m n → Rose l n
rose-after l m n h (inl less) = inl (omega (arith, h, less))
rose-after l m n h (inr last) = inr last

-- ---- texts

abbrev pub at : Option (List ℕ) → Option (List ℕ) → ℕ → ℕ → Stream
at a b m n = record { before = a; after = b; faults_before = m; faults_after = n }

-- all of a text was written
pub told-all : (text : List ℕ) (a b : Option (List ℕ)) (m n : ℕ) (u : Unit {0}) → Appends a b text → m ≤ n → Told text (at a b m n) (Ok u)
told-all text a b m n u all up = record { all = all; front = (text, [], append-nil text, all); cause = λ e. absurd cc; never_falls = up }

-- its first bytes, and then a write failed
pub told-some : (text : List ℕ) (count : ℕ) (a b : Option (List ℕ)) (m n : ℕ) → Appends a b (take count text) → Rose m n → m ≤ n → Told text (at a b m n) (Err untold.WriteFault)
told-some text count a b m n some rose up = record { all = tt; front = (take count text, drop count text, take-append-drop _ _, some); cause = λ e. rose; never_falls = up }

-- nothing, since memory ran out
pub told-none : (text : List ℕ) (a : Option (List ℕ)) (n : ℕ) → Told text (at a a n n) (Err untold.NoMemory)
told-none text a n = record { all = tt; front = ([], text, refl, appends-none a); cause = λ e. absurd cc; never_falls = omega arith }

-- nothing was to be written
pub told-empty : (a : Option (List ℕ)) (n : ℕ) (u : Unit {0}) → Told [] (at a a n n) (Ok u)
told-empty a n u = told-all [] a a n n u (appends-none a) (omega arith)

-- the same text
pub told-as : (x y : List ℕ) (s : Stream) (r : Result (Unit {0}) Untold) → x ≡ y → Told x s r → Told y s r
told-as x y s r e told = subst (λ (text : List ℕ). Told text s r) e told

-- a first part that wasn't written to its end
pub told-cut : (x y : List ℕ) (s : Stream) (e : Untold) → Told x s (Err e) → Told (x ++ y) s (Err e)
told-cut x y s e told = record { all = tt; front = front-of-first s.before s.after x y told.front; cause = told.cause; never_falls = told.never_falls }

-- a first part that was, and then memory ran out
pub told-so-far : (x y : List ℕ) (s : Stream) (u : Unit {0}) → Told x s (Ok u) → Told (x ++ y) s (Err untold.NoMemory)
told-so-far x y s u told = record { all = tt; front = front-of-first s.before s.after x y told.front; cause = λ e. absurd cc; never_falls = told.never_falls }

-- a first part that was, and then a second one
pub told-then : (x y : List ℕ) (a b c : Option (List ℕ)) (l m n : ℕ) (u : Unit {0}) (r : Result (Unit {0}) Untold) → Told x (at a b l m) (Ok u) → Told y (at b c m n) r → Told (x ++ y) (at a c l n) r
told-then x y a b c l m n u (Ok v) one two = told-all (x ++ y) a c l n v (appends-twice a b c x y one.all two.all) (omega (arith, one.never_falls, two.never_falls))
told-then x y a b c l m n u (Err e) one two = record {
  all = tt;
  front = front-after a b c x y one.all two.front;
  cause = λ is. rose-after l m n one.never_falls (two.cause is);
  never_falls = omega (arith, one.never_falls, two.never_falls);
}

-- ---- answers

-- the first bytes of a text are none, where nothing was written
pub front-none : (sink : Stream) (text : List ℕ) → GainsNothing sink → GainsFront sink text
front-none sink text kept = ([], text, refl, appends-kept sink.before sink.after kept)

-- a text that was told, where its status is none of a failure
module _ (whole : Status) (text : List ℕ) (s : Stream) (no_write : whole ≡ status.WriteFault → ⊥) (no_memory : whole ≡ status.NoMemory → ⊥) where
  pub told-text : (r : Result (Unit {0}) Untold) → Told text s r → TellsText whole text s (status_by r whole)
  told-text (Ok u) told = record { status = inl refl; all = λ e. told.all; front = told.front; cause = λ e. absurd (no_write e) }
  told-text (Err untold.WriteFault) told = record { status = inr (inl refl); all = λ e. absurd (no_write (sym e)); front = told.front; cause = λ e. told.cause refl }
  told-text (Err untold.NoMemory) told = record { status = inr (inr refl); all = λ e. absurd (no_memory (sym e)); front = told.front; cause = λ e. let bad : status.NoMemory ≡ status.WriteFault = e in absurd cc }

pub told-done : (text : List ℕ) (s : Stream) (r : Result (Unit {0}) Untold) → Told text s r → TellsText status.Done text s (status_by r status.Done)
told-done text s r told =
    told-text status.Done text s (λ e. let bad : status.Done ≡ status.WriteFault = e in absurd cc) (λ e. let bad : status.Done ≡ status.NoMemory = e in absurd cc) r told

pub told-refused : (text : List ℕ) (s : Stream) (r : Result (Unit {0}) Untold) → Told text s r → TellsText status.Refused text s (status_by r status.Refused)
told-refused text s r told =
    told-text status.Refused text s (λ e. let bad : status.Refused ≡ status.WriteFault = e in absurd cc) (λ e. let bad : status.Refused ≡ status.NoMemory = e in absurd cc) r told

pub told-usage : (text : List ℕ) (s : Stream) (r : Result (Unit {0}) Untold) → Told text s r → TellsText status.Usage text s (status_by r status.Usage)
told-usage text s r told =
    told-text status.Usage text s (λ e. let bad : status.Usage ≡ status.WriteFault = e in absurd cc) (λ e. let bad : status.Usage ≡ status.NoMemory = e in absurd cc) r told

-- ---- answers of a program

-- what is written, as answers and statuses of a program
pub record Embeds {C A S : Type 0} (p : Program C A S) : Type 0 where
  pub of : Status → S
  pub answer : Answer → A
  pub ends : (s : Status) → p.ends (of s) ≡ s
  pub plain : (a : Answer) → p.plain (answer a) ≡ a
  pub answered : (a : Answer) → p.answered (answer a) ≡ of (status_of a)

module _ {C A S : Type 0} (p : Program C A S) (e : Embeds p) where
  -- an answer whose text was told
  pub tells-one : (answer : Answer) (s : Stream) (r : Status) → TellsText (status_of answer) (text_of p.usage_line answer) s r → TellsOne p (e.answer answer) s (e.of r)
  tells-one answer s r told =
      let same : text_of p.usage_line answer ≡ text_in p (e.answer answer) = ap (text_of p.usage_line) (sym (e.plain answer)) in
      record {
        status = ⊎_elim
            (λ is. inl (ap e.of is ∙ sym (e.answered answer)))
            (λ failed. ⊎_elim (λ is. inr (inl (e.ends r ∙ is))) (λ is. inr (inr (e.ends r ∙ is))) failed)
            told.status;
        all = λ is. subst (Gains s) same (told.all (sym (e.ends r) ∙ ap p.ends (is ∙ e.answered answer) ∙ e.ends (status_of answer)));
        front = subst (GainsFront s) same told.front;
        cause = λ is. told.cause (sym (e.ends r) ∙ is);
      }

  module _ (Is : A → Type 0) (s : Stream) (r : Status) where
    -- where memory ran out before anything was written
    pub tells-nothing : GainsNothing s → r ≡ status.NoMemory → Tells p Is s (e.of r)
    tells-nothing kept is = inr (kept, e.ends r ∙ is)

    -- what says why there is no text is such an answer
    pub tells-refusal : (refusal : Refusal) → IfFault {X = Unit {0}} (Err refusal) (λ fault. Is (e.answer (Refused fault))) → TellsWhy refusal s r → Tells p Is s (e.of r)
    tells-refusal (refusals.Fault fault) is told = inl (e.answer (Refused fault), is, tells-one (Refused fault) s r told)
    tells-refusal refusals.NoMemory is told = tells-nothing told.0 told.1

    -- and so is what was made
    pub tells-made : (made : Result (List ℕ) Refusal) → Makes (λ answer. Is (e.answer answer)) made → TellsMade made s r → Tells p Is s (e.of r)
    tells-made (Ok text) is told = inl (e.answer (Written text), is, tells-one (Written text) s r told)
    tells-made (Err (refusals.Fault fault)) is told = inl (e.answer (Refused fault), is, tells-one (Refused fault) s r told)
    tells-made (Err refusals.NoMemory) is told = tells-nothing told.0 told.1

-- an answer of another kind
pub tells-as : {C A S : Type 0} (p : Program C A S) (P Q : A → Type 0) (s : Stream) (r : S) → ((answer : A) → P answer → Q answer) → Tells p P s r → Tells p Q s r
tells-as p P Q s r f (inl (answer, is, told)) = inl (answer, f answer is, told)
tells-as p P Q s r f (inr none) = inr none
