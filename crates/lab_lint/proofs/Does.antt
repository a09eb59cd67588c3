-- What a part of a body does, by its occurrences: each event is of an access that occurs in it, and a write that the rule's
-- own accesses refuse has an earlier one.
use Rattle.std.proofs.Common.{◌≡◌, ◌⊎◌, ℕ, inl, inr, Bool, true, false, List, [], ◌∷◌, ◌++◌, append_assoc, append-nil, refl, sym, ap, ◌∙◌, subst}
use Rattle.std.specs.Prelude.{◌||◌, if◌then◌else◌, map}
use Rattle.std.specs.List.{AllByRecursion, list_any}
use Rattle.typed_core.specs.Alone.{alone_ports, is_refused}
use Rattle.typed_core.specs.Clash.{clashes}
use Rattle.typed_core.specs.Evaluation.{Ending, Value, Stop, Evaluation as Run, Ports, Progress, bind, comes_to, notes, stops, unit}
use Rattle.typed_core.specs.Laws.{read_at, write_at}
use Rattle.typed_core.specs.declared.access.Access.{Access}
use Rattle.typed_core.specs.declared.access.Event.{Event}
use Rattle.typed_core.specs.declared.outcome.Stopped.{Stopped}
use Rattle.typed_core.specs.declared.outcome.Stopped.TheVariants as stopped
use Rattle.kw_bits.specs.BitVector.{BitVector}
use Rattle.lab_lint.specs.Occurrences.{Pair, Part, each_before_each, either, in_order, nothing, one}
use Rattle.lab_lint.specs.declared.occurrence.Occurrence.{Occurrence}
use Rattle.lab_lint.specs.declared.occurrence.Occurrence.TheVariants as occurrence
use Rattle.lab_lint.proofs.Among.{Among, all-append, all-weaker, among-flat_map, among-left, among-map, among-right, among-split}

abbrev pub occurs : Access → Occurrence
occurs a = occurrence.Access a

abbrev pub pair : Access → Access → Pair
pair e a = record { earlier = occurs e; later = occurs a }

abbrev pub accesses : List Event → List Access
accesses events = map (λ (e : Event). e.access) events

-- an access that the part can't make after these: it cannot follow one of them, or one that is earlier in the part
pub record RefusedAfter (part : Part) (before : List Event) (a : Access) : Type 0 where
  pub access : Access
  pub is_write : a.write ≡ true
  pub clash : clashes a access ≡ true
  pub earlier : Among access (accesses before) ⊎ Among (pair access a) part.pairs

-- a part that begins after these events and ends so
pub record Does {V : Type 0} (part : Part) (before events : List Event) (ending : Ending V Stopped) : Type 0 where
  pub more : List Event
  pub are : events ≡ before ++ more
  pub occur : AllByRecursion (λ (e : Event). Among (occurs e.access) part.all) more
  pub refused : (a : Access) → ending ≡ Stop (stopped.Refused a) → Among (occurs a) part.all × RefusedAfter part before a

abbrev pub DoesRun : {V : Type 0} → Part → Run V Stopped → Type 0
DoesRun part run = (before : List Event) → Does part before (run before).events (run before).ending

-- ---- parts

-- the occurrences and the pairs of one part are among those of another
pub record IsWithin (a b : Part) : Type 0 where
  pub all : (o : Occurrence) → Among o a.all → Among o b.all
  pub pairs : (p : Pair) → Among p a.pairs → Among p b.pairs

pub nothing-within : (b : Part) → IsWithin nothing b
nothing-within b = record { all = λ o h. absurd h; pairs = λ p h. absurd h }

pub first-within : (a b : Part) → IsWithin a (in_order a b)
first-within a b = record {
  all = λ o h. among-left o a.all b.all h;
  pairs = λ p h. among-left p (a.pairs ++ b.pairs) (each_before_each a.all b.all) (among-left p a.pairs b.pairs h);
}

pub second-within : (a b : Part) → IsWithin b (in_order a b)
second-within a b = record {
  all = λ o h. among-right o a.all b.all h;
  pairs = λ p h. among-left p (a.pairs ++ b.pairs) (each_before_each a.all b.all) (among-right p a.pairs b.pairs h);
}

pub left-within : (a b : Part) → IsWithin a (either a b)
left-within a b = record { all = λ o h. among-left o a.all b.all h; pairs = λ p h. among-left p a.pairs b.pairs h }

pub right-within : (a b : Part) → IsWithin b (either a b)
right-within a b = record { all = λ o h. among-right o a.all b.all h; pairs = λ p h. among-right p a.pairs b.pairs h }

each-before : (x y : Occurrence) (xs ys : List Occurrence) → Among x xs → Among y ys → Among (record { earlier = x; later = y }) (each_before_each xs ys)
each-before x y xs ys h k =
    let p : Occurrence → Occurrence → Pair = λ a b. record { earlier = a; later = b } in
    among-flat_map (λ a. map (p a) ys) x (p x y) xs h (among-map (p x) y ys k)

module _ {V : Type 0} where
  pub does-within : (a b : Part) (before events : List Event) (ending : Ending V Stopped) → IsWithin a b → Does a before events ending → Does b before events ending
  does-within a b before events ending within d = record {
    more = d.more;
    are = d.are;
    occur = all-weaker (λ (e : Event). Among (occurs e.access) a.all) (λ (e : Event). Among (occurs e.access) b.all) d.more (λ e h. within.all (occurs e.access) h) d.occur;
    refused = λ x is. let r = d.refused x is in (within.all (occurs x) r.0, wider x r.1);
  }
    where
      wider : (x : Access) → RefusedAfter a before x → RefusedAfter b before x
      wider x r = record { access = r.access; is_write = r.is_write; clash = r.clash; earlier = elim r.earlier [ inl h ↦ inl h | inr h ↦ inr (within.pairs (pair r.access x) h) ] }

  -- a value, and no event
  pub does-value : (part : Part) (value : V) (before : List Event) → Does part before before (Value value)
  does-value part value before = record { more = []; are = sym (append-nil before); occur = tt; refused = λ a is. absurd cc }

  -- an abort
  pub does-stop : (part : Part) (cause : Stopped) (before : List Event) → ((a : Access) → cause ≡ stopped.Refused a → ⊥) → Does {V = V} part before before (Stop cause)
  does-stop part cause before never =
      record { more = []; are = sym (append-nil before); occur = tt; refused = λ a is. let e : cause ≡ stopped.Refused a = cc in absurd (never a e) }

-- ---- one part and then another

module _ {V W : Type 0} where
  again : (part : Part) (before events : List Event) (cause : Stopped) → Does {V = V} part before events (Stop cause) → Does {V = W} part before events (Stop cause)
  again part before events cause d = record {
    more = d.more;
    are = d.are;
    occur = d.occur;
    refused = λ a is. let e : cause ≡ stopped.Refused a = cc in d.refused a (ap (λ (c : Stopped). let x : Ending V Stopped = Stop c in x) e);
  }

  then-does : (a b : Part) (before events events' : List Event) (value : V) (ending : Ending W Stopped) → Does a before events (Value value) → Does b events events' ending → Does (in_order a b) before events' ending
  then-does a b before events events' value ending d e = record {
    more = d.more ++ e.more;
    are = e.are ∙ ap (λ (xs : List Event). xs ++ e.more) d.are ∙ append_assoc before d.more e.more;
    occur = all-append (λ (x : Event). Among (occurs x.access) (a.all ++ b.all)) d.more e.more
        (all-weaker (λ (x : Event). Among (occurs x.access) a.all) (λ (x : Event). Among (occurs x.access) (a.all ++ b.all)) d.more (λ x h. among-left (occurs x.access) a.all b.all h) d.occur)
        (all-weaker (λ (x : Event). Among (occurs x.access) b.all) (λ (x : Event). Among (occurs x.access) (a.all ++ b.all)) e.more (λ x h. among-right (occurs x.access) a.all b.all h) e.occur);
    refused = λ x is. let r = e.refused x is in (among-right (occurs x) a.all b.all r.0, whole x r.0 r.1);
  }
    where
      -- what was made before the second part was made before both, or in the first
      made : (xs : List Event) (y : Access) → AllByRecursion (λ (z : Event). Among (occurs z.access) a.all) xs → Among y (accesses xs) → Among (occurs y) a.all
      made [] y all h = absurd h
      made (z ∷ xs) y all (inl same) = subst (λ (w : Access). Among (occurs w) a.all) (sym same) all.0
      made (z ∷ xs) y all (inr h) = made xs y all.1 h

      parts : (xs ys : List Event) → accesses (xs ++ ys) ≡ accesses xs ++ accesses ys
      parts [] ys = refl
      parts (x ∷ xs) ys = ap (λ (zs : List Access). x.access ∷ zs) (parts xs ys)

      whole : (x : Access) → Among (occurs x) b.all → RefusedAfter b events x → RefusedAfter (in_order a b) before x
      whole x occurs_x r = record { access = r.access; is_write = r.is_write; clash = r.clash; earlier = elim r.earlier [ inl h ↦ found h | inr h ↦ inr ((second-within a b).pairs (pair r.access x) h) ] }
        where
          found : Among r.access (accesses events) → Among r.access (accesses before) ⊎ Among (pair r.access x) (in_order a b).pairs
          found h =
              let all = subst (λ (xs : List Access). Among r.access xs) (ap (λ (xs : List Event). accesses xs) d.are ∙ parts before d.more) h in
              elim (among-split r.access (accesses before) (accesses d.more) all) [
                | inl k ↦ inl k
                | inr k ↦ inr (among-right (pair r.access x) (a.pairs ++ b.pairs) (each_before_each a.all b.all)
                    (each-before (occurs r.access) (occurs x) a.all b.all (made d.more r.access d.occur k) occurs_x))
              ]

  bind-does : (a b : Part) (before events : List Event) (ending : Ending V Stopped) (next : V → Run W Stopped) → Does a before events ending → ((value : V) → DoesRun b (next value)) →
      Does (in_order a b) before (bind events ending next).events (bind events ending next).ending
  bind-does a b before events (Value value) next d goes = then-does a b before events (next value events).events value (next value events).ending d (goes value events)
  bind-does a b before events (Stop cause) next d goes = does-within a (in_order a b) before events (Stop cause) (first-within a b) (again a before events cause d)

  pub run-bind : (a b : Part) (run : Run V Stopped) (next : V → Run W Stopped) → DoesRun a run → ((value : V) → DoesRun b (next value)) → DoesRun (in_order a b) (λ before. bind (run before).events (run before).ending next)
  run-bind a b run next d goes before = bind-does a b before (run before).events (run before).ending next (d before) goes

  -- and no more than a value of it
  pure-does : (a : Part) (before events : List Event) (ending : Ending V Stopped) (f : V → W) → Does a before events ending → Does a before (bind events ending (λ v. comes_to (f v))).events (bind events ending (λ v. comes_to (f v))).ending
  pure-does a before events (Value value) f d = record { more = d.more; are = d.are; occur = d.occur; refused = λ x is. absurd cc }
  pure-does a before events (Stop cause) f d = again a before events cause d

  pub run-pure : (a : Part) (run : Run V Stopped) (f : V → W) → DoesRun a run → DoesRun a (λ before. bind (run before).events (run before).ending (λ v. comes_to (f v)))
  run-pure a run f d before = pure-does a before (run before).events (run before).ending f (d before)

module _ {V : Type 0} where
  pub run-within : (a b : Part) (run : Run V Stopped) → IsWithin a b → DoesRun a run → DoesRun b run
  run-within a b run within d before = does-within a b before (run before).events (run before).ending within (d before)

  pub run-value : (part : Part) (value : V) → DoesRun part (comes_to value)
  run-value part value before = does-value part value before

-- ---- ports

-- what reads and writes do at these ports
pub record PortsDo (ports : Ports Stopped) : Type 0 where
  pub read : (port register : ℕ) → DoesRun (one (occurs (read_at port register))) (ports.read port register)
  pub write : (port register : ℕ) (value : BitVector) → DoesRun (one (occurs (write_at port register))) (ports.write port register value)
  pub abort : (a : Access) → ports.abort ≡ stopped.Refused a → ⊥

noted : {V : Type 0} (e : Event) (value : V) → DoesRun (one (occurs e.access)) (notes e value)
noted e value before = record { more = e ∷ []; are = refl; occur = (inl refl, tt); refused = λ a is. absurd cc }

hindered : (before : List Event) (a : Access) → is_refused before a ≡ true → (e : Access) × (clashes a e ≡ true) × Among e (accesses before)
hindered [] a h = absurd cc
hindered (x ∷ before) a h = chosen (clashes a x.access) refl h (hindered before a)
  where
    Found : List Event → Type 0
    Found events = (e : Access) × (clashes a e ≡ true) × Among e (accesses events)

    chosen : (b : Bool) → clashes a x.access ≡ b → (b || is_refused before a) ≡ true → (is_refused before a ≡ true → Found before) → Found (x ∷ before)
    chosen true is k rest = (x.access, is, inl refl)
    chosen false is k rest = let found = rest k in (found.0, found.1, inr found.2)

pub alone-do : (regs : List BitVector) → PortsDo (alone_ports regs)
alone-do regs = record {
  read = λ port register before. noted (record { access = read_at port register; value = _ }) _ before;
  write = λ port register value before. written port register value before (is_refused before (write_at port register)) refl;
  abort = λ a is. absurd cc;
}
  where
    written : (port register : ℕ) (value : BitVector) (before : List Event) (b : Bool) → is_refused before (write_at port register) ≡ b →
        let run : Progress BitVector Stopped = if b then stops (stopped.Refused (write_at port register)) before
        else notes (record { access = write_at port register; value = value }) unit before in
        Does (one (occurs (write_at port register))) before run.events run.ending
    written port register value before true is =
        let h = hindered before (write_at port register) is in
        record {
          more = [];
          are = sym (append-nil before);
          occur = tt;
          refused = λ a stop. let same : write_at port register ≡ a = cc in
              (inl (ap occurs (sym same)), subst (λ (x : Access). RefusedAfter (one (occurs (write_at port register))) before x) same (record { access = h.0; is_write = refl; clash = h.1; earlier = inl h.2 }));
        }
    written port register value before false is = noted (record { access = write_at port register; value = value }) _ before
