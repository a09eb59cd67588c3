-- What parts of a session wrote, one after another.
use Rattle.std.proofs.Common.{◌≡◌, ℕ, List, [], ◌++◌, Option, None, Some, Result, Ok, Err, refl, sym, ap, subst, ◌∙◌, append_assoc, append-nil}
use Rattle.std.specs.Io.KnownBytes.{Appends}
use Rattle.kw_base.specs.FaultLine.{line_of_fault}
use Rattle.kw_base.specs.declared.fault.Fault.{Fault}
use Rattle.front_end.specs.Streams.{AppendsFront, Stream}
use Rattle.front_end.specs.Told.{Told}
use Rattle.front_end.specs.declared.untold.Untold.{Untold}
use Rattle.front_end.specs.declared.untold.Untold.TheVariants as untold
use Rattle.front_end.proofs.Told.{appends-none, appends-twice}
use Rattle.stream_run.specs.Replies.{Reply}
use Rattle.stream_run.specs.inner.Stops.{stop_by_untold}
use Rattle.stream_run.specs.inner.Telling.{Writes, after_text}
use Rattle.stream_run.specs.declared.stop.Stop.{Stop}
use Rattle.stream_run.specs.declared.stop.Stop.TheVariants as stops

-- a text that was written whole, and then the first bytes of the next one
pub front-after : (a b c : Option (List ℕ)) (x y : List ℕ) → Appends a b x → AppendsFront b c y → AppendsFront a c (x ++ y)
front-after a b c x y h (front, rest, is, k) = (x ++ front, rest, append_assoc x front rest ∙ ap (λ (l : List ℕ). x ++ l) is, appends-twice a b c x front h k)

-- the first bytes of a reply, where the source has no fault
abbrev pub IsNoFault : Stop → Type 0
IsNoFault (stops.Fault fault) = ⊥
IsNoFault stops.ReadFault = Unit {0}
IsNoFault stops.WriteFault = Unit {0}
IsNoFault stops.NoMemory = Unit {0}

pub writes-front : (reply : Reply) (a b : Option (List ℕ)) (stop : Stop) → IsNoFault stop → AppendsFront a b reply.text → Writes reply a b (Err stop)
writes-front reply a b (stops.Fault fault) none front = absurd none
writes-front reply a b stops.ReadFault none front = front
writes-front reply a b stops.WriteFault none front = front
writes-front reply a b stops.NoMemory none front = front

-- nothing yet
pub writes-nothing : (reply : Reply) (a : Option (List ℕ)) (stop : Stop) → IsNoFault stop → Writes reply a a (Err stop)
writes-nothing reply a stop none = writes-front reply a a stop none ([], reply.text, refl, appends-none a)

-- a text that was written before
pub writes-after : (text : List ℕ) (reply : Reply) (a b c : Option (List ℕ)) (r : Result (Unit {0}) Stop) → Appends a b text → Writes reply b c r → Writes (after_text text reply) a c r
writes-after text reply a b c (Ok done) first later = (later.0, appends-twice a b c text reply.text first later.1)
writes-after text reply a b c (Err (stops.Fault fault)) first later =
    (later.0, (text ++ later.1.0, ap (λ (rest : List ℕ). text ++ rest) later.1.1 ∙ sym (append_assoc text later.1.0 (line_of_fault fault)), appends-twice a b c text later.1.0 first later.1.2))
writes-after text reply a b c (Err stops.ReadFault) first later = front-after a b c text reply.text first later
writes-after text reply a b c (Err stops.WriteFault) first later = front-after a b c text reply.text first later
writes-after text reply a b c (Err stops.NoMemory) first later = front-after a b c text reply.text first later

-- the first bytes of a text and of what comes after it
front-of-first : (a b : Option (List ℕ)) (x y : List ℕ) → AppendsFront a b x → AppendsFront a b (x ++ y)
front-of-first a b x y (front, rest, is, some) = (front, rest ++ y, sym (append_assoc front rest y) ∙ ap (λ (all : List ℕ). all ++ y) is, some)

-- a text that wasn't written to its end
pub writes-cut : (text : List ℕ) (reply : Reply) (s : Stream) (e : Untold) → Told text s (Err e) → Writes (after_text text reply) s.before s.after (Err (stop_by_untold e))
writes-cut text reply s untold.WriteFault told = front-of-first s.before s.after text reply.text told.front
writes-cut text reply s untold.NoMemory told = front-of-first s.before s.after text reply.text told.front

-- a last text that was written to its end, or wasn't
pub writes-last : (text : List ℕ) (s : Stream) (e : Untold) → Told text s (Err e) → Writes (record { text = text; fault = None }) s.before s.after (Err (stop_by_untold e))
writes-last text s untold.WriteFault told = told.front
writes-last text s untold.NoMemory told = told.front

-- the same reply
pub writes-as : (x y : Reply) (a b : Option (List ℕ)) (r : Result (Unit {0}) Stop) → x ≡ y → Writes x a b r → Writes y a b r
writes-as x y a b r same writes = subst (λ (reply : Reply). Writes reply a b r) same writes
