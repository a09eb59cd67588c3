-- The search of the first commits by kind finds the clash with the earliest rule.
use Rattle.std.proofs.Common.{◌≡◌, ◌⊎◌, ℕ, zero, suc, ◌+◌, ◌-◌, ◌<◌, ◌≤◌, Bool, true, false, List, [], ◌∷◌, length, Option, Some, None, refl, sym, ap, ap₂, ◌∙◌, subst, inl, inr, eq-eqb, eqb-true, arith, add-one}
use Rattle.std.specs.Prelude.{◌==◌, ◌&&◌, ◌||◌, not, nat_lt, option_map, if◌then◌else◌}
use Rattle.std.specs.List.{AllByRecursion}
use Rattle.std.proofs.lemmas.Bool.{and_parts, both_ways, cases_eq, cases_lt, false_from_ne_true, ltb-true, lt-ltb, ne_eqb}
use Rattle.typed_core.specs.Clash.{clashes, ports_clash}
use Rattle.typed_core.specs.Fits.{EventsFit}
use Rattle.typed_core.specs.Valid.{IsPort}
use Rattle.typed_core.specs.declared.access.Access.{Access}
use Rattle.typed_core.specs.declared.access.Event.{Event}
use Rattle.typed_core.specs.declared.limits.TheConstants.{PORTS}
use Rattle.attempt_log.specs.inner.Firsts.{access_of, clash_of, earlier_of, in_the_way, is_write_kind, port_of_kind, row, earliest_below}
use Rattle.attempt_log.specs.Past.{Commits, StandsFor, first_from, has_access, is_access, kind, kinds}
use Rattle.one_rule.specs.declared.cycle.Fired.{Fired}
use Rattle.attempt_log.specs.Verdict.{clash, clash_or, first_clash, named_first, kind_before}
use Rattle.attempt_log.specs.declared.first.Commit.{Commit}
use Rattle.attempt_log.specs.declared.past.Clashing.{Clashing}
use Rattle.attempt_log.proofs.Notes.{access_parts, own_access, same_test}

-- ---- tests

lt_no : (a b : ℕ) → b ≤ a → nat_lt a b ≡ false
lt_no a b h = false_from_ne_true (nat_lt a b) (λ t. not_both (ltb-true a b t))
  where
    not_both : a < b → ⊥
    not_both lt = omega arith

lt_not : (a b : ℕ) → nat_lt a b ≡ false → b ≤ a
lt_not a b h = chosen (cases_lt a b)
  where
    chosen : (a < b) ⊎ (b ≤ a) → b ≤ a
    chosen (inl lt) = absurd (both_ways (nat_lt a b) h (lt-ltb a b lt))
    chosen (inr ge) = ge

-- ---- kinds

-- an access at a port is the one of its kind
access_kind : (a : Access) → IsPort a.port → access_of (kind a.write a.port) a.register ≡ a
access_kind a p = at a.write refl
  where
    at : (w : Bool) → a.write ≡ w → access_of (kind w a.port) a.register ≡ record { write = w; port = a.port; register = a.register }
    at true e =
        let no : nat_lt (PORTS + a.port) PORTS ≡ false = lt_no (PORTS + a.port) PORTS (omega arith) in
        let less : PORTS + a.port - PORTS ≡ a.port = omega arith in
        ap (λ (b : Bool). let x : Access = record { write = not b; port = if b then PORTS + a.port else PORTS + a.port - PORTS; register = a.register } in x) no
        ∙ ap (λ (n : ℕ). let x : Access = record { write = true; port = n; register = a.register } in x) less
    at false e =
        ap (λ (b : Bool). let x : Access = record { write = not b; port = if b then a.port else a.port - PORTS; register = a.register } in x) (lt-ltb a.port PORTS p)

-- the kind of an access of a kind
record KindIs (number : ℕ) : Type 0 where
  port : IsPort (port_of_kind number)
  same : kind (is_write_kind number) (port_of_kind number) ≡ number

kind_is : (number : ℕ) → number < kinds → KindIs number
kind_is number lt = chosen (cases_lt number PORTS)
  where
    at : (b : Bool) → nat_lt number PORTS ≡ b → IsPort (if b then number else number - PORTS) → kind (not b) (if b then number else number - PORTS) ≡ number → KindIs number
    at b h p e = record {
      port = subst (λ (x : Bool). IsPort (if x then number else number - PORTS)) (sym h) p;
      same = ap (λ (x : Bool). kind (not x) (if x then number else number - PORTS)) h ∙ e;
    }

    chosen : (number < PORTS) ⊎ (PORTS ≤ number) → KindIs number
    chosen (inl below) = at true (lt-ltb number PORTS below) below refl
    chosen (inr above) = at false (lt_no number PORTS above) (omega arith) (omega arith)

kind_bound : (write : Bool) (port : ℕ) → IsPort port → kind write port < kinds
kind_bound true port p = omega arith
kind_bound false port p = omega arith

-- kinds are ordered as their numbers
before_number : (v w : Bool) (i j : ℕ) → IsPort i → IsPort j → kind_before v i w j ≡ nat_lt (kind v i) (kind w j)
before_number false false i j p q = refl
before_number false true i j p q = sym (lt-ltb i (PORTS + j) (omega arith))
before_number true false i j p q = sym (lt_no (PORTS + i) j (omega arith))
before_number true true i j p q = shifted (cases_lt i j)
  where
    shifted : (i < j) ⊎ (j ≤ i) → nat_lt i j ≡ nat_lt (PORTS + i) (PORTS + j)
    shifted (inl lt) = lt-ltb i j lt ∙ sym (lt-ltb (PORTS + i) (PORTS + j) (omega arith))
    shifted (inr ge) = lt_no i j ge ∙ sym (lt_no (PORTS + i) (PORTS + j) (omega arith))

-- ---- what of a rule is in the way of an access

-- it is an access of the register, and its kind is the first that hits
record IsLeast (register : ℕ) (a : Access) (hit : ℕ → Bool) : Type 0 where
  port : IsPort a.port
  same : a.register ≡ register
  here : hit (kind a.write a.port) ≡ true
  below : (number : ℕ) → number < kind a.write a.port → hit number ≡ false

-- no kind hits, or this access is the first that does
abbrev Says : ℕ → Option Access → (ℕ → Bool) → Type 0
Says register None hit = (number : ℕ) → number < kinds → hit number ≡ false
Says register (Some a) hit = IsLeast register a hit

module _ (access : Access) where
  abbrev way : ℕ → Bool
  way number = clashes access (access_of number access.register)

  abbrev makes : List Event → ℕ → Bool
  makes events number = has_access (is_write_kind number) (port_of_kind number) access.register events

  -- the rule has an access of this kind that is in the way
  abbrev hits : List Event → ℕ → Bool
  hits events number = way number && makes events number

  same_register : (e : Access) → clashes access e ≡ true → e.register ≡ access.register
  same_register e h = sym (eqb-true access.register e.register (and_parts (access.register == e.register) (ports_clash access.write access.port e.write e.port) h).0)

  and_or : (a b c : Bool) → (a && (b || c)) ≡ ((a && b) || (a && c))
  and_or true b c = refl
  and_or false b c = refl

  -- an event hits with its own kind, where its access clashes
  hit_own : (e : Event) (number : ℕ) → IsPort e.access.port → number < kinds
      → (way number && is_access (is_write_kind number) (port_of_kind number) access.register e) ≡ (clashes access e.access && (kind e.access.write e.access.port == number))
  hit_own e number p lt =
      same_test (way number && is_access (is_write_kind number) (port_of_kind number) access.register e) (clashes access e.access && (kind e.access.write e.access.port == number)) forward back
    where
      is : KindIs number
      is = kind_is number lt

      both : (a b : Bool) → a ≡ true → b ≡ true → (a && b) ≡ true
      both true b g h = h
      both false b g h = absurd cc

      forward : (way number && is_access (is_write_kind number) (port_of_kind number) access.register e) ≡ true → (clashes access e.access && (kind e.access.write e.access.port == number)) ≡ true
      forward h =
          let parts = and_parts (way number) (is_access (is_write_kind number) (port_of_kind number) access.register e) h in
          let own = access_parts (is_write_kind number) (port_of_kind number) access.register e parts.1 in
          let mine : kind e.access.write e.access.port ≡ number = ap₂ kind own.0 own.1 ∙ is.same in
          let same : access_of number access.register ≡ e.access =
          ap₂ access_of (sym mine) (sym own.2) ∙ access_kind e.access p in
          both (clashes access e.access) (kind e.access.write e.access.port == number) (ap (clashes access) (sym same) ∙ parts.0) (eq-eqb (kind e.access.write e.access.port) number mine)

      back : (clashes access e.access && (kind e.access.write e.access.port == number)) ≡ true → (way number && is_access (is_write_kind number) (port_of_kind number) access.register e) ≡ true
      back h =
          let parts = and_parts (clashes access e.access) (kind e.access.write e.access.port == number) h in
          let mine : kind e.access.write e.access.port ≡ number = eqb-true (kind e.access.write e.access.port) number parts.1 in
          let here = same_register e.access parts.0 in
          let same : access_of number access.register ≡ e.access = ap₂ access_of (sym mine) (sym here) ∙ access_kind e.access p in
          both (way number) (is_access (is_write_kind number) (port_of_kind number) access.register e) (ap (clashes access) same ∙ parts.0)
          (own_access (is_write_kind number) (port_of_kind number) access.register e (ap (λ (a : Access). a.write) (sym same)) (ap (λ (a : Access). a.port) (sym same)) here)

  hit_more : (e : Event) (events : List Event) (number : ℕ) → IsPort e.access.port → number < kinds
      → hits (e ∷ events) number ≡ ((clashes access e.access && (kind e.access.write e.access.port == number)) || hits events number)
  hit_more e events number p lt =
      and_or (way number) (is_access (is_write_kind number) (port_of_kind number) access.register e) (makes events number)
      ∙ ap (λ (b : Bool). b || hits events number) (hit_own e number p lt)

  -- the first of a rule's clashing accesses is that of the first kind that hits
  says : (widths : List ℕ) (events : List Event) → EventsFit widths events → Says access.register (first_clash access events) (hits events)
  says widths [] fit = λ number lt. and_false (way number)
    where
      and_false : (a : Bool) → (a && false) ≡ false
      and_false true = refl
      and_false false = refl
  says widths (e ∷ events) fit = more (clashes access e.access) refl (first_clash access events) (says widths events fit.1)
    where
      own : ℕ
      own = kind e.access.write e.access.port

      own_lt : own < kinds
      own_lt = kind_bound e.access.write e.access.port fit.0.port

      step : (b : Bool) → clashes access e.access ≡ b → (number : ℕ) → number < kinds → hits (e ∷ events) number ≡ ((b && (own == number)) || hits events number)
      step b h number lt = hit_more e events number fit.0.port lt ∙ ap (λ (x : Bool). (x && (own == number)) || hits events number) h

      -- e is the first, where nothing below its kind hit before
      first_is_own : clashes access e.access ≡ true → ((number : ℕ) → number < own → hits events number ≡ false) → IsLeast access.register e.access (hits (e ∷ events))
      first_is_own h free = record {
        port = fit.0.port;
        same = same_register e.access h;
        here = step true h own own_lt ∙ ap (λ (x : Bool). x || hits events own) (eq-eqb own own refl);
        below = λ number lt.
            step true h number (omega (arith, own_lt))
            ∙ ap₂ (λ x y. x || y) (ne_eqb own number (differ number lt)) (free number lt);
      }
        where
          differ : (number : ℕ) → number < own → own ≡ number → ⊥
          differ number lt e = omega arith

      at_true : (a : Access) → clashes access e.access ≡ true → IsLeast access.register a (hits events) → (b : Bool) → kind_before a.write a.port e.access.write e.access.port ≡ b → IsLeast access.register (if b then a else e.access) (hits (e ∷ events))
      at_true a h least true before =
          let lt : kind a.write a.port < own = ltb-true (kind a.write a.port) own (sym (before_number a.write e.access.write a.port e.access.port least.port fit.0.port) ∙ before) in
          record {
            port = least.port;
            same = least.same;
            here = step true h (kind a.write a.port) (omega (arith, own_lt)) ∙ ap (λ (x : Bool). (own == kind a.write a.port) || x) least.here ∙ or_true (own == kind a.write a.port);
            below = λ number under.
                step true h number (omega (arith, own_lt))
                ∙ ap₂ (λ x y. x || y) (ne_eqb own number (differ number (kind a.write a.port) under lt)) (least.below number under);
          }
        where
          or_true : (x : Bool) → (x || true) ≡ true
          or_true true = refl
          or_true false = refl

          differ : (number other : ℕ) → number < other → other < own → own ≡ number → ⊥
          differ number other under lt e = omega arith
      at_true a h least false before =
          let ge : own ≤ kind a.write a.port = lt_not (kind a.write a.port) own (sym (before_number a.write e.access.write a.port e.access.port least.port fit.0.port) ∙ before) in
          first_is_own h (λ number lt. least.below number (omega arith))

      more : (b : Bool) → clashes access e.access ≡ b → (o : Option Access) → Says access.register o (hits events) → Says access.register (if b then Some (named_first e.access o) else o) (hits (e ∷ events))
      more true h None none = first_is_own h (λ number lt. none number (omega (arith, own_lt)))
      more true h (Some a) least = at_true a h least (kind_before a.write a.port e.access.write e.access.port) refl
      more false h None none = λ number lt. step false h number lt ∙ none number lt
      more false h (Some a) least = record {
        port = least.port;
        same = least.same;
        here = step false h (kind a.write a.port) (kind_bound a.write a.port least.port) ∙ least.here;
        below = λ number under. step false h number (omega (arith, kind_bound a.write a.port least.port)) ∙ least.below number under;
      }

-- ---- the search

module _ (access : Access) where
  search_step : (first : ℕ → Option Commit) (number : ℕ) → earliest_below access first (suc number) ≡ earlier_of (earliest_below access first number) (in_the_way access first number)
  unfolding earliest_below
  search_step first number = refl

  search_zero : (first : ℕ → Option Commit) → earliest_below access first 0 ≡ None
  unfolding earliest_below
  search_zero first = refl

  -- it looks at the kinds below its bound alone
  search_same : (first second : ℕ → Option Commit) (number : ℕ) → ((k : ℕ) → k < number → in_the_way access first k ≡ in_the_way access second k) → earliest_below access first number ≡ earliest_below access second number
  search_same first second zero same = search_zero first ∙ sym (search_zero second)
  search_same first second (suc number) same =
      search_step first number ∙ ap₂ earlier_of (search_same first second number (λ k lt. same k (omega arith))) (same number (omega arith)) ∙ sym (search_step second number)

  -- a commit that is found has at least this position
  abbrev Late : ℕ → Option Clashing → Type 0
  Late position None = Unit {0}
  Late position (Some found) = position ≤ found.commit.position

  late_earlier : (position : ℕ) (a b : Option Clashing) → Late position a → Late position b → Late position (earlier_of a b)
  late_earlier position None b h k = k
  late_earlier position (Some a) None h k = h
  late_earlier position (Some a) (Some b) h k = chosen (nat_lt b.commit.position a.commit.position)
    where
      chosen : (t : Bool) → Late position (if t then Some b else Some a)
      chosen true = k
      chosen false = h

  abbrev LateFirst : ℕ → Option Commit → Type 0
  LateFirst position None = Unit {0}
  LateFirst position (Some commit) = position ≤ commit.position

  late_way : (position : ℕ) (first : ℕ → Option Commit) (k : ℕ) → LateFirst position (first k) → Late position (in_the_way access first k)
  late_way position first k late = chosen (clashes access (access_of k access.register)) (first k) late
    where
      chosen : (t : Bool) (o : Option Commit) → LateFirst position o → Late position (if t then option_map (λ (commit : Commit). let c : Clashing = record { commit = commit; earlier = access_of k access.register } in c) o else None)
      chosen true None h = tt
      chosen true (Some c) h = h
      chosen false o h = tt

  late_search : (position : ℕ) (first : ℕ → Option Commit) (number : ℕ) → ((k : ℕ) → LateFirst position (first k)) → Late position (earliest_below access first number)
  late_search position first zero late = subst (Late position) (sym (search_zero first)) tt
  late_search position first (suc number) late =
      subst (Late position) (sym (search_step first number)) (late_earlier position (earliest_below access first number) (in_the_way access first number) (late_search position first number late) (late_way position first number (late number)))

  -- the first commits by kind
  abbrev firsts : ℕ → List Fired → ℕ → Option Commit
  firsts position fired k = first_from position (is_write_kind k) (port_of_kind k) access.register fired

  late_firsts : (position least : ℕ) (fired : List Fired) (k : ℕ) → least ≤ position → LateFirst least (firsts position fired k)
  late_firsts position least [] k h = tt
  late_firsts position least (f ∷ fired) k h = chosen (has_access (is_write_kind k) (port_of_kind k) access.register f.events) (late_firsts (position + 1) least fired k (omega arith))
    where
      chosen : (t : Bool) → LateFirst least (firsts (position + 1) fired k) → LateFirst least (if t then Some (record { position = position; rule = f.rule }) else firsts (position + 1) fired k)
      chosen true r = h
      chosen false r = r

  -- what the definition names, with its position
  abbrev found_or : ℕ → ℕ → Option Access → Option Clashing → Option Clashing
  found_or position rule (Some earlier) next = Some (record { commit = record { position = position; rule = rule }; earlier = earlier })
  found_or position rule None next = next

  abbrev found : ℕ → List Fired → Option Clashing
  found position [] = None
  found position (f ∷ fired) = found_or position f.rule (first_clash access f.events) (found (position + 1) fired)

  -- a commit's own accesses, where they hit
  module _ (position rule : ℕ) (events : List Event) (rest : ℕ → Option Commit) (late : (k : ℕ) → LateFirst (position + 1) (rest k)) where
    abbrev commit : Commit
    commit = record { position = position; rule = rule }

    abbrev both : ℕ → Option Commit
    both k = if has_access (is_write_kind k) (port_of_kind k) access.register events then Some commit else rest k

    abbrev found_in : ℕ → Option Commit → Option Clashing
    found_in k o = option_map (λ (c : Commit). let x : Clashing = record { commit = c; earlier = access_of k access.register } in x) o

    abbrev of_kind : ℕ → Clashing
    of_kind k = record { commit = commit; earlier = access_of k access.register }

    way_free : (k : ℕ) → hits access events k ≡ false → in_the_way access both k ≡ in_the_way access rest k
    way_free k h = chosen (clashes access (access_of k access.register)) (has_access (is_write_kind k) (port_of_kind k) access.register events) h
      where
        chosen : (t m : Bool) → (t && m) ≡ false → (if t then found_in k (if m then Some commit else rest k) else None) ≡ (if t then found_in k (rest k) else None)
        chosen true true h = absurd cc
        chosen true false h = refl
        chosen false m h = refl

    way_hit : (k : ℕ) → hits access events k ≡ true → in_the_way access both k ≡ Some (of_kind k)
    way_hit k h = chosen (clashes access (access_of k access.register)) (has_access (is_write_kind k) (port_of_kind k) access.register events) h
      where
        chosen : (t m : Bool) → (t && m) ≡ true → (if t then found_in k (if m then Some commit else rest k) else None) ≡ Some (of_kind k)
        chosen true true h = refl
        chosen true false h = absurd cc
        chosen false m h = absurd cc

    late_both : (k : ℕ) → LateFirst position (both k)
    late_both k = chosen (has_access (is_write_kind k) (port_of_kind k) access.register events) (rest k) (late k)
      where
        chosen : (t : Bool) (o : Option Commit) → LateFirst (position + 1) o → LateFirst position (if t then Some commit else o)
        chosen true o h = omega arith
        chosen false None h = tt
        chosen false (Some c) h = omega arith

    -- what is found later gives way to it
    wins : (o : Option Clashing) (c : Clashing) → c.commit.position ≡ position → Late (position + 1) o → earlier_of o (Some c) ≡ Some c
    wins None c e h = refl
    wins (Some x) c e h = ap (λ (t : Bool). if t then Some c else Some x) (lt-ltb c.commit.position x.commit.position (omega arith))

    -- and it stays
    keeps : (o : Option Clashing) (c : Clashing) → c.commit.position ≡ position → Late position o → earlier_of (Some c) o ≡ Some c
    keeps None c e h = refl
    keeps (Some x) c e h = ap (λ (t : Bool). if t then Some x else Some c) (lt_no x.commit.position c.commit.position (omega arith))

    -- from the first kind that hits on, the search has it
    search_hit : (least number : ℕ) → hits access events least ≡ true → ((k : ℕ) → k < least → hits access events k ≡ false) → least < number → earliest_below access both number ≡ Some (of_kind least)
    search_hit least zero here below lt = absurd (omega arith)
    search_hit least (suc number) here below lt = search_step both number ∙ chosen (cases_eq number least) (λ more. search_hit least number here below more)
      where
        chosen : (number ≡ least) ⊎ (number ≡ least → ⊥) → (least < number → earliest_below access both number ≡ Some (of_kind least)) → earlier_of (earliest_below access both number) (in_the_way access both number) ≡ Some (of_kind least)
        chosen (inl e) more =
            ap₂ earlier_of
            (ap (earliest_below access both) e ∙ search_same both rest least (λ k lt. way_free k (below k lt)))
            (ap (in_the_way access both) e ∙ way_hit least here)
            ∙ wins (earliest_below access rest least) (of_kind least) refl (late_search (position + 1) rest least late)
        chosen (inr ne) more =
            ap (λ (o : Option Clashing). earlier_of o (in_the_way access both number)) (more (omega arith))
            ∙ keeps (in_the_way access both number) (of_kind least) refl (late_way position both number (late_both number))

  -- the search through all kinds finds what the definition names
  search_found : (widths : List ℕ) (position : ℕ) (fired : List Fired) → AllByRecursion (λ (f : Fired). EventsFit widths f.events) fired → earliest_below access (firsts position fired) kinds ≡ found position fired
  search_found widths position [] fit = none kinds
    where
      way_none : (k : ℕ) → in_the_way access (firsts position []) k ≡ None
      way_none k = chosen (clashes access (access_of k access.register))
        where
          chosen : (t : Bool) → (if t then option_map (λ (c : Commit). let x : Clashing = record { commit = c; earlier = access_of k access.register } in x) None else None) ≡ None
          chosen true = refl
          chosen false = refl

      none : (number : ℕ) → earliest_below access (firsts position []) number ≡ None
      none zero = search_zero (firsts position [])
      none (suc number) = search_step (firsts position []) number ∙ ap₂ earlier_of (none number) (way_none number)
  search_found widths position (f ∷ fired) fit = of_clash (first_clash access f.events) (says access widths f.events fit.0) (search_found widths (position + 1) fired fit.1)
    where
      rest : ℕ → Option Commit
      rest = firsts (position + 1) fired

      late : (k : ℕ) → LateFirst (position + 1) (firsts (position + 1) fired k)
      late k = late_firsts (position + 1) (position + 1) fired k (omega arith)

      of_clash : (o : Option Access) → Says access.register o (hits access f.events) → earliest_below access (firsts (position + 1) fired) kinds ≡ found (position + 1) fired → earliest_below access (firsts position (f ∷ fired)) kinds ≡ found_or position f.rule o (found (position + 1) fired)
      of_clash None none next =
          search_same (firsts position (f ∷ fired)) (firsts (position + 1) fired) kinds (λ k lt. way_free position f.rule f.events (firsts (position + 1) fired) late k (none k lt)) ∙ next
      of_clash (Some a) least next =
          let number = kind a.write a.port in
          let is : access_of number access.register ≡ a = ap (access_of number) (sym least.same) ∙ access_kind a least.port in
          search_hit position f.rule f.events (firsts (position + 1) fired) late number kinds least.here least.below (kind_bound a.write a.port least.port)
          ∙ ap (λ (x : Access). let c : Clashing = record { commit = record { position = position; rule = f.rule }; earlier = x } in Some c) is

  clash_found : (position : ℕ) (fired : List Fired) → option_map (clash_of access) (found position fired) ≡ clash access fired
  clash_found position [] = refl
  clash_found position (f ∷ fired) = chosen (first_clash access f.events) (clash_found (position + 1) fired)
    where
      chosen : (o : Option Access) → option_map (clash_of access) (found (position + 1) fired) ≡ clash access fired → option_map (clash_of access) (found_or position f.rule o (found (position + 1) fired)) ≡ clash_or access f.rule o (clash access fired)
      chosen (Some a) h = refl
      chosen None h = h

  -- the search of a past finds the clash, on every list that it stands for
  pub search_is_clash : (widths : List ℕ) (past : Commits) (fired : List Fired) → StandsFor widths past fired → access.register < length widths → option_map (clash_of access) (earliest_below access (row past.firsts access.register) kinds) ≡ clash access fired
  search_is_clash widths past fired s lt =
      ap (option_map (clash_of access))
      (search_same (row past.firsts access.register) (firsts 0 fired) kinds (λ k below.
      ap (λ (o : Option Commit). if clashes access (access_of k access.register) then option_map (λ (c : Commit). let x : Clashing = record { commit = c; earlier = access_of k access.register } in x) o else None)
      (s.firsts (is_write_kind k) (port_of_kind k) access.register (kind_is k below).port lt))
      ∙ search_found widths 0 fired s.fit)
      ∙ clash_found 0 fired

  pub search_next : (first : ℕ → Option Commit) (number : ℕ) → earlier_of (earliest_below access first number) (in_the_way access first number) ≡ earliest_below access first (number + 1)
  search_next first number = sym (search_step first number) ∙ ap (earliest_below access first) (sym (add-one number))

  pub search_begins : (first : ℕ → Option Commit) → None ≡ earliest_below access first 0
  search_begins first = sym (search_zero first)

  -- a kind with nothing in the way changes nothing
  pub search_passes : (first : ℕ → Option Commit) (number : ℕ) → in_the_way access first number ≡ None → earliest_below access first number ≡ earliest_below access first (number + 1)
  search_passes first number none = sym (none_last (earliest_below access first number)) ∙ ap (earlier_of (earliest_below access first number)) (sym none) ∙ search_next first number
    where
      none_last : (o : Option Clashing) → earlier_of o None ≡ o
      none_last None = refl
      none_last (Some a) = refl
