-- What a reader reads: the tokens of a part's leaves, where nothing after them holds to the part; and how that is put
-- together.
use Rattle.std.proofs.Common.{◌≡◌, ℕ, zero, suc, ◌<◌, ◌≤◌, true, cond, Option, Some, None, IfSome, List, []}
use Rattle.std.proofs.Common.{◌∷◌, ◌++◌, length, map, refl, ap, sym, subst, ◌∙◌, arith, length-append, append-nil}
use Rattle.std.specs.Prelude.{⊤}
use Rattle.std.specs.List.{flat_map, AllByRecursion}
use Rattle.std.proofs.Math.Dec.{eqb}
use Rattle.std.proofs.lemmas.Bool.{eq-eqb, ne_eqb}
use Rattle.std.proofs.lemmas.List.Folds.{flat_map-map}
use Rattle.koika_syntax.specs.Tree.{Leaf, Terminal, sign, commas, with_between}
use Rattle.koika_syntax.specs.declared.symbol.Symbol.TheVariants as symbols
use Rattle.koika_parse.proofs.UnambiguousGrammar.{Phrase, Result, Reader, give, refuse, on, then, peek, or, many, phrase}
use Rattle.koika_parse.proofs.UnambiguousGrammar.{grip, skip, separated, grammar}

-- a token with what is made of its place
pub data Item : Type 0 where
  item : Terminal → ℕ → Item

abbrev pub first : List Item → Option Terminal
first [] = None
first (item t p ∷ items) = Some t

abbrev Found : Type 0 → Type 0
Found X = Option (X × List Item)

abbrev after : {X Y : Type 0} → (X → List Item → Found Y) → Found X → Found Y
after next None = None
after next (Some found) = next found.0 found.1

abbrev or_else : {X : Type 0} → Found X → Found X → Found X
or_else None other = other
or_else (Some found) other = Some found

abbrev by_first : {X : Type 0} → (Terminal → ℕ → List Item → Found X) → List Item → Found X
by_first next [] = None
by_first next (item t p ∷ items) = next t p items

abbrev repeated : {X : Type 0} → ℕ → (List Item → Found X) → ℕ → List Item → Found (List X)
repeated k r zero items = Some ([], items)
repeated k r (suc m) items = cond (eqb (grip (first items)) k) (after (λ x more. after (λ xs rest. Some (x ∷ xs, rest)) (repeated k r m more)) (r items)) (Some ([], items))

-- a reader is run with phrases that are not nested deeper than a number
abbrev runs : ((s : Phrase) → List Item → Found (Result s)) → {X : Type 0} → Reader X → List Item → Found X
runs phrases (give x) items = Some (x, items)
runs phrases refuse items = None
runs phrases (on next) items = by_first (λ t p more. runs phrases (next t p) more) items
runs phrases (then r next) items = after (λ x more. runs phrases (next x) more) (runs phrases r items)
runs phrases (peek k r s) items = cond (eqb (grip (first items)) k) (runs phrases r items) (runs phrases s items)
runs phrases (or r s) items = or_else (runs phrases r items) (runs phrases s items)
runs phrases (many k r) items = repeated k (runs phrases r) (length items) items
runs phrases (phrase s) items = phrases s items

abbrev runs_phrase : ℕ → (s : Phrase) → List Item → Found (Result s)
runs_phrase zero s items = None
runs_phrase (suc d) s items = runs (runs_phrase d) (grammar s) items

abbrev pub run : {X : Type 0} → ℕ → Reader X → List Item → Found X
run d r items = runs (runs_phrase d) r items

-- items are these leaves and a rest
abbrev pub Shows : (ℕ → ℕ) → List Leaf → List Item → List Item → Type 0
Shows at [] items rest = items ≡ rest
Shows at (leaf ∷ leaves) [] rest = ⊥
Shows at (leaf ∷ leaves) (item t p ∷ items) rest = (leaf.terminal ≡ t) × IfSome leaf.place (λ place. at place ≡ p) × Shows at leaves items rest

-- a result is read from fewer than n leaves, where what follows holds no more tightly than k
pub record Reads (at : ℕ → ℕ) (d n : ℕ) {X : Type 0} (r : Reader X) (leaves : List Leaf) (x : X) (k : ℕ) : Type 0 where
  pub reads : (items rest : List Item) → length leaves < n → Shows at leaves items rest → grip (first rest) ≤ k → run d r items ≡ Some (x, rest)

-- the first token of leaves, or of what follows them, holds no more tightly than j
abbrev pub Front : ℕ → List Leaf → ℕ → Type 0
Front j [] k = k ≤ j
Front j (leaf ∷ leaves) k = grip (Some leaf.terminal) ≤ j

-- leaves that begin with a token that holds so
abbrev pub Begins : ℕ → List Leaf → Type 0
Begins k [] = ⊥
Begins k (leaf ∷ leaves) = grip (Some leaf.terminal) ≡ k

-- a reader refuses what begins with this token
pub record Refuses (d : ℕ) {X : Type 0} (r : Reader X) (t : Terminal) : Type 0 where
  pub refuses : (q : ℕ) (items : List Item) → run d r (item t q ∷ items) ≡ None

pub refuses_then : {d : ℕ} {X Y : Type 0} {r : Reader X} {next : X → Reader Y} {t : Terminal} → Refuses d r t → Refuses d (then r next) t
refuses_then {d} {next = next} h = record { refuses = λ q items. ap (after (λ x. run d (next x))) (h.refuses q items) }

some_leaf : (k : ℕ) (ls : List Leaf) → Begins k ls → 0 < length ls
some_leaf k [] begins = absurd begins
some_leaf k (leaf ∷ ls) begins = omega arith

-- parts that each begin with a token that holds so
pub front_many : (k : ℕ) {E : Type 0} (leaves : E → List Leaf) (Is : E → Type 0) → ((t : E) → Is t → Begins (suc k) (leaves t)) →
    (ts : List E) → AllByRecursion Is ts → Front (suc k) (flat_map leaves ts) k
front_many k leaves Is begins [] all = omega arith
front_many k leaves Is begins (t ∷ ts) all = front (leaves t) (begins t all.0)
  where
    front : (ls : List Leaf) → Begins (suc k) ls → Front (suc k) (ls ++ flat_map leaves ts) k
    front [] begins = absurd begins
    front (leaf ∷ ls) begins = omega (arith, begins)

module _ (at : ℕ → ℕ) where
  opened : (leaf : Leaf) (ls : List Leaf) (items rest : List Item) → Shows at (leaf ∷ ls) items rest →
      (q : ℕ) × (more : List Item) × (items ≡ item leaf.terminal q ∷ more) × IfSome leaf.place (λ place. at place ≡ q) × Shows at ls more rest
  opened leaf ls [] rest shows = absurd shows
  opened leaf ls (item t q ∷ items) rest shows = (q, items, ap (λ t. item t q ∷ items) (sym shows.0), shows.1, shows.2)

  split : (ls ms : List Leaf) (items rest : List Item) → Shows at (ls ++ ms) items rest → (mid : List Item) × Shows at ls items mid × Shows at ms mid rest
  split [] ms items rest shows = (items, refl, shows)
  split (leaf ∷ ls) ms [] rest shows = absurd shows
  split (leaf ∷ ls) ms (item t p ∷ items) rest shows = let more = split ls ms items rest shows.2 in (more.0, (shows.0, shows.1, more.1), more.2)

  front_of : {j k : ℕ} (ms : List Leaf) (mid rest : List Item) → Front j ms k → Shows at ms mid rest → grip (first rest) ≤ k → grip (first mid) ≤ j
  front_of {j} {k} [] mid rest front shows free = let same = ap (λ items. grip (first items)) shows in omega (arith, front, free, same)
  front_of (leaf ∷ ms) [] rest front shows free = absurd shows
  front_of {j} (leaf ∷ ms) (item t p ∷ mid) rest front shows free = subst (λ t. grip (Some t) ≤ j) shows.0 front

  shown_length : (ls : List Leaf) (items rest : List Item) → Shows at ls items rest → length ls ≤ length items
  shown_length [] items rest shows = omega arith
  shown_length (leaf ∷ ls) [] rest shows = absurd shows
  shown_length (leaf ∷ ls) (item t p ∷ items) rest shows = let more = shown_length ls items rest shows.2 in omega (arith, more)

  begun : (k : ℕ) (ls : List Leaf) (items mid : List Item) → Begins k ls → Shows at ls items mid → grip (first items) ≡ k
  begun k [] items mid begins shows = absurd begins
  begun k (leaf ∷ ls) [] mid begins shows = absurd shows
  begun k (leaf ∷ ls) (item t q ∷ items) mid begins shows = subst (λ t. grip (Some t) ≡ k) shows.0 begins

module _ {at : ℕ → ℕ} {d : ℕ} where
  pub reads_give : {n k : ℕ} {X : Type 0} {x : X} → Reads at d n (give x) [] x k
  reads_give {x = x} = record { reads = λ items rest within shows free. ap (λ items. Some (x, items)) shows }

  -- a token, with its place or without; the leaves after it are fewer
  pub first_placed : {n k : ℕ} {X : Type 0} {f : Terminal → ℕ → Reader X} {t : Terminal} {p : ℕ} {ls : List Leaf} {x : X} →
      Reads at d n (f t (at p)) ls x k → Reads at d (suc n) (on f) (record { terminal = t; place = Some p } ∷ ls) x k
  first_placed {f = f} {t} {p} {ls} {x} h = record {
    reads = λ items rest within shows free.
        let o = opened at (record { terminal = t; place = Some p }) ls items rest shows in
        ap (run d (on f)) o.2 ∙ subst (λ q. run d (f t q) o.1 ≡ Some (x, rest)) o.3 (h.reads o.1 rest (omega (arith, within)) o.4 free);
  }

  pub first_sign : {n k : ℕ} {X : Type 0} {f : Terminal → ℕ → Reader X} {t : Terminal} {ls : List Leaf} {x : X} →
      ((q : ℕ) → Reads at d n (f t q) ls x k) → Reads at d (suc n) (on f) (record { terminal = t; place = None } ∷ ls) x k
  first_sign {f = f} {t} {ls} h = record {
    reads = λ items rest within shows free.
        let o = opened at (record { terminal = t; place = None }) ls items rest shows in ap (run d (on f)) o.2 ∙ (h o.0).reads o.1 rest (omega (arith, within)) o.4 free;
  }

  -- what is read of more leaves is read of fewer, and before what holds less
  pub shorter : {n k : ℕ} {X : Type 0} {r : Reader X} {ls : List Leaf} {x : X} → Reads at d (suc n) r ls x k → Reads at d n r ls x k
  shorter h = record { reads = λ items rest within shows free. h.reads items rest (omega (arith, within)) shows free }

  pub looser : {n j k : ℕ} {X : Type 0} {r : Reader X} {ls : List Leaf} {x : X} → k ≤ j → Reads at d n r ls x j → Reads at d n r ls x k
  looser le h = record { reads = λ items rest within shows free. h.reads items rest within shows (omega (arith, le, free)) }

  -- the same leaves, grouped otherwise, and the same reader
  pub grouped : {n k : ℕ} {X : Type 0} {r : Reader X} {x : X} {ls ms : List Leaf} → ls ≡ ms → Reads at d n r ms x k → Reads at d n r ls x k
  grouped {n} {k} {r = r} {x} same h = subst (λ l. Reads at d n r l x k) (sym same) h

  pub reads_by : {n k : ℕ} {X : Type 0} {r s : Reader X} {x : X} {ls : List Leaf} → r ≡ s → Reads at d n r ls x k → Reads at d n s ls x k
  reads_by {n} {k} {x = x} {ls} same h = subst (λ r. Reads at d n r ls x k) same h

  pub reads_placed : {n k : ℕ} {X : Type 0} {f : Terminal → ℕ → Reader X} {t : Terminal} {p : ℕ} {ls : List Leaf} {x : X} →
      Reads at d n (f t (at p)) ls x k → Reads at d n (on f) (record { terminal = t; place = Some p } ∷ ls) x k
  reads_placed h = shorter (first_placed h)

  pub reads_sign : {n k : ℕ} {X : Type 0} {f : Terminal → ℕ → Reader X} {t : Terminal} {ls : List Leaf} {x : X} →
      ((q : ℕ) → Reads at d n (f t q) ls x k) → Reads at d n (on f) (record { terminal = t; place = None } ∷ ls) x k
  reads_sign h = shorter (first_sign h)

  pub reads_skip : {n k : ℕ} {X : Type 0} {r : Reader X} {t : Terminal} {ls : List Leaf} {x : X} →
      Reads at d n r ls x k → Reads at d n (skip r) (record { terminal = t; place = None } ∷ ls) x k
  reads_skip h = reads_sign (λ q. h)

  -- a part, and what is after it
  pub reads_then : {n j k : ℕ} {X Y : Type 0} {r : Reader X} {next : X → Reader Y} {ls ms : List Leaf} {x : X} {y : Y} →
      Reads at d n r ls x j → Front j ms k → Reads at d n (next x) ms y k → Reads at d n (then r next) (ls ++ ms) y k
  reads_then {next = next} {ls} {ms} h front more = record {
    reads = λ items rest within shows free.
        let len = length-append ls ms in
        let parts = split at ls ms items rest shows in
        ap (after (λ x. run d (next x))) (h.reads items parts.0 (omega (arith, within, len)) parts.1 (front_of at ms parts.0 rest front parts.2 free))
        ∙ more.reads parts.0 rest (omega (arith, within, len)) parts.2 free;
  }

  -- the same where a token is after the part, which has fewer leaves
  pub reads_closed : {n j k : ℕ} {X Y : Type 0} {r : Reader X} {next : X → Reader Y} {leaf : Leaf} {ls ms : List Leaf} {x : X} {y : Y} →
      Reads at d n r ls x j → grip (Some leaf.terminal) ≤ j → Reads at d (suc n) (next x) (leaf ∷ ms) y k → Reads at d (suc n) (then r next) (ls ++ (leaf ∷ ms)) y k
  reads_closed {next = next} {leaf} {ls} {ms} h front more = record {
    reads = λ items rest within shows free.
        let len = length-append ls (leaf ∷ ms) in
        let parts = split at ls (leaf ∷ ms) items rest shows in
        ap (after (λ x. run d (next x))) (h.reads items parts.0 (omega (arith, within, len)) parts.1 (front_of at (leaf ∷ ms) parts.0 rest front parts.2 free))
        ∙ more.reads parts.0 rest (omega (arith, within, len)) parts.2 free;
  }

  -- the same whatever is after the part
  pub reads_freely : {n k : ℕ} {X Y : Type 0} {r : Reader X} {next : X → Reader Y} {ls ms : List Leaf} {x : X} {y : Y} →
      ((j : ℕ) → Reads at d n r ls x j) → Reads at d n (next x) ms y k → Reads at d n (then r next) (ls ++ ms) y k
  reads_freely {next = next} {ls} {ms} h more = record {
    reads = λ items rest within shows free.
        let len = length-append ls ms in
        let parts = split at ls ms items rest shows in
        ap (after (λ x. run d (next x))) ((h (grip (first parts.0))).reads items parts.0 (omega (arith, within, len)) parts.1 (omega arith))
        ∙ more.reads parts.0 rest (omega (arith, within, len)) parts.2 free;
  }

  pub reads_map : {n k : ℕ} {X Y : Type 0} {r : Reader X} {f : X → Y} {ls : List Leaf} {x : X} → Reads at d n r ls x k → Reads at d n (then r (λ x. give (f x))) ls (f x) k
  reads_map {f = f} h = record { reads = λ items rest within shows free. ap (after (λ x items. Some (f x, items))) (h.reads items rest within shows free) }

  pub reads_or : {n k : ℕ} {X : Type 0} {r s : Reader X} {ls : List Leaf} {x : X} → Reads at d n r ls x k → Reads at d n (or r s) ls x k
  reads_or {s = s} h = record { reads = λ items rest within shows free. ap (λ o. or_else o (run d s items)) (h.reads items rest within shows free) }

  pub reads_other : {n k : ℕ} {X : Type 0} {r s : Reader X} {leaf : Leaf} {ls : List Leaf} {x : X} →
      Refuses d r leaf.terminal → Reads at d n s (leaf ∷ ls) x k → Reads at d n (or r s) (leaf ∷ ls) x k
  reads_other {r = r} {s} {leaf} {ls} refuses h = record {
    reads = λ items rest within shows free.
        let o = opened at leaf ls items rest shows in
        ap (λ found. or_else found (run d s items)) (ap (run d r) o.2 ∙ refuses.refuses o.0 o.1) ∙ h.reads items rest within shows free;
  }

  -- by how tightly the next token holds
  pub peek_here : {n j k : ℕ} {X : Type 0} {r s : Reader X} {leaf : Leaf} {ls : List Leaf} {x : X} → eqb (grip (Some leaf.terminal)) k ≡ true →
      Reads at d n r (leaf ∷ ls) x j → Reads at d n (peek k r s) (leaf ∷ ls) x j
  peek_here {k = k} {r = r} {s} {leaf} {ls} here h = record {
    reads = λ items rest within shows free.
        let o = opened at leaf ls items rest shows in
        ap (λ b. cond b (run d r items) (run d s items)) (ap (λ items. eqb (grip (first items)) k) o.2 ∙ here) ∙ h.reads items rest within shows free;
  }

  pub peek_past : {n j k : ℕ} {X : Type 0} {r s : Reader X} {x : X} → j < k → Reads at d n s [] x j → Reads at d n (peek k r s) [] x j
  peek_past {k = k} {r = r} {s = s} less h = record {
    reads = λ items rest within shows free.
        let same = ap (λ items. grip (first items)) shows in
        ap (λ b. cond b (run d r items) (run d s items)) (ne_eqb (grip (first items)) k (λ e. omega (arith, e, same, less, free))) ∙ h.reads items rest within shows free;
  }

  -- parts that each begin with a token that holds so, and are each read before such a token
  module _ {n k : ℕ} {E X : Type 0} {r : Reader X} (leaves : E → List Leaf) (out : E → X) (Is : E → Type 0)
      (claim : (t : E) → Is t → Reads at d n r (leaves t) (out t) (suc k)) (begins : (t : E) → Is t → Begins (suc k) (leaves t)) where
    reads_up_to : (m : ℕ) (ts : List E) → AllByRecursion Is ts → (items rest : List Item) → length (flat_map leaves ts) < n → length (flat_map leaves ts) ≤ m →
        Shows at (flat_map leaves ts) items rest → grip (first rest) ≤ k → repeated (suc k) (run d r) m items ≡ Some (map out ts, rest)
    reads_up_to zero [] all items rest within short shows free = ap (λ items. Some ([], items)) shows
    reads_up_to (suc m) [] all items rest within short shows free =
        let same = ap (λ items. grip (first items)) shows in
        ap (λ b. cond b (after (λ x more. after (λ xs rest. Some (x ∷ xs, rest)) (repeated (suc k) (run d r) m more)) (run d r items)) (Some ([], items)))
        (ne_eqb (grip (first items)) (suc k) (λ e. omega (arith, e, same, free))) ∙ ap (λ items. Some ([], items)) shows
    reads_up_to zero (t ∷ ts) all items rest within short shows free =
        absurd (omega (arith, short, length-append (leaves t) (flat_map leaves ts), some_leaf (suc k) (leaves t) (begins t all.0)))
    reads_up_to (suc m) (t ∷ ts) all items rest within short shows free =
        let len = length-append (leaves t) (flat_map leaves ts) in
        let some = some_leaf (suc k) (leaves t) (begins t all.0) in
        let parts = split at (leaves t) (flat_map leaves ts) items rest shows in
        let front = front_of at (flat_map leaves ts) parts.0 rest (front_many k leaves Is begins ts all.1) parts.2 free in
        ap (λ b. cond b (after (λ x more. after (λ xs rest. Some (x ∷ xs, rest)) (repeated (suc k) (run d r) m more)) (run d r items)) (Some ([], items)))
        (eq-eqb (grip (first items)) (suc k) (begun at (suc k) (leaves t) items parts.0 (begins t all.0) parts.1))
        ∙ ap (after (λ x more. after (λ xs rest. Some (x ∷ xs, rest)) (repeated (suc k) (run d r) m more)))
        ((claim t all.0).reads items parts.0 (omega (arith, within, len)) parts.1 front)
        ∙ ap (after (λ xs rest. Some (out t ∷ xs, rest))) (reads_up_to m ts all.1 parts.0 rest (omega (arith, within, len)) (omega (arith, short, len, some)) parts.2 free)

    pub reads_many : (ts : List E) → AllByRecursion Is ts → Reads at d n (many (suc k) r) (flat_map leaves ts) (map out ts) k
    reads_many ts all = record { reads = λ items rest within shows free. reads_up_to (length items) ts all items rest within (shown_length at (flat_map leaves ts) items rest shows) shows free }

  -- a part with no others after it
  pub reads_alone : {n j k : ℕ} {X Y Z : Type 0} {r : Reader X} {s : Reader Y} {f : X → List Y → Z} {ls : List Leaf} {x : X} → Reads at d n r ls x j → k ≤ j →
      Reads at d n (then r (λ x. then (many (suc k) s) (λ ys. give (f x ys)))) ls (f x []) k
  reads_alone {n} {k = k} {r = r} {s} {f} {ls} {x} h le =
      subst (λ l. Reads at d n (then r (λ x. then (many (suc k) s) (λ ys. give (f x ys)))) l (f x []) k) (append-nil ls)
      (reads_then h le (reads_map {f = f x} (reads_many {E = ⊥} (λ t. absurd t) (λ t. absurd t) (λ t. ⊤) (λ t. absurd t) (λ t. absurd t) [] tt)))

  -- at least one part, with commas between them
  pub reads_separated : {n : ℕ} {E X : Type 0} {r : Reader X} (leaves : E → List Leaf) (out : E → X) (Is : E → Type 0) →
      ((t : E) → Is t → Reads at d n r (leaves t) (out t) 1) → (ts : List E) → 0 < length ts → AllByRecursion Is ts →
      Reads at d n (separated r) (commas (map leaves ts)) (map out ts) 0
  unfolding with_between
  reads_separated leaves out Is claim [] some all = absurd (omega (arith, some))
  reads_separated {n} {r = r} leaves out Is claim (t ∷ ts) some all =
      subst (λ l. Reads at d n (separated r) (leaves t ++ l) (out t ∷ map out ts) 0) (sym (flat_map-map (λ part. sign symbols.Comma ++ part) leaves ts))
      (reads_then (claim t all.0) (front_many 0 (λ t. sign symbols.Comma ++ leaves t) Is (λ t is. refl) ts all.1)
      (reads_map (reads_many (λ t. sign symbols.Comma ++ leaves t) out Is (λ t is. reads_skip (claim t is)) (λ t is. refl) ts all.1)))

-- a phrase, of its grammar
pub reads_phrase : {at : ℕ → ℕ} {d n k : ℕ} {s : Phrase} {ls : List Leaf} {x : Result s} → Reads at d n (grammar s) ls x k → Reads at (suc d) n (phrase s) ls x k
reads_phrase h = record { reads = h.reads }
