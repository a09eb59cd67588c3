-- The cone of literals: it has the sources, the variables of the literals, and with a gate those of its operands.
use Rattle.std.proofs.Common.{◌≡◌, ◌≢◌, ℕ, zero, suc, ◌+◌, ◌/◌, ◌<◌, ◌≤◌, Bool, true, false, cond, List, [], ◌∷◌, length, replicate, length-set, refl, sym, ap, subst, ◌∙◌, arith, inl, inr, true≢false}
use Rattle.std.specs.List.{All}
use Rattle.std.proofs.lemmas.Bool.{cases_eq}
use Rattle.std.proofs.lemmas.List.{get_or-replicate, get_or-set_other, get_or-set_same, get_or_append_left, length-append, length-replicate}
use Rattle.std.proofs.lemmas.List.Elements.{All-cons, All-head, All-nil, All-tail, All-weaker}
use Rattle.aig_blast.specs.Graphs.{AllStand, Below, Stands}
use Rattle.aig_blast.specs.declared.gate.Gate.{Gate}
use Rattle.invariant_check.specs.Cones.{cone_of, greatest, is_needed, sources_alone, with_gate, with_gates, with_literal, with_literals}
use Rattle.invariant_check.proofs.Lists.{set_true}

-- the operands of each gate are of variables before it; the first gate is this variable
abbrev pub EachStands : ℕ → List Gate → Type 0
EachStands first [] = Unit {0}
EachStands first (gate ∷ gates) = (gate.left / 2 < first) × (gate.right / 2 < first) × EachStands (first + 1) gates

-- with a gate its operands are needed
abbrev pub Closed : List Bool → ℕ → List Gate → Type 0
Closed needed first [] = Unit {0}
Closed needed first (gate ∷ gates) =
    (is_needed needed first ≡ true → (is_needed needed (gate.left / 2) ≡ true)
    × (is_needed needed (gate.right / 2) ≡ true)) × Closed needed (first + 1) gates

pub stands-each : (sources : ℕ) (gates : List Gate) → AllStand sources gates → EachStands (1 + sources) gates
stands-each sources [] stand = tt
stands-each sources (gate ∷ gates) stand =
    let own : Stands (sources + 0) gate = stand 0 gate refl in
    let next : 1 + (sources + 1) ≡ 1 + sources + 1 = omega arith in (
      omega (arith, own.left),
      omega (arith, own.right),
      subst (λ n. EachStands n gates) next (stands-each (sources + 1) gates (λ k g at. let e : sources + suc k
          ≡ sources + 1 + k = omega arith in subst (λ n. Stands n g) e (stand (suc k) g at))),
    )

-- ---- what is needed stays needed

pub length-with_literals : (needed : List Bool) (lits : List ℕ) → length (with_literals needed lits) ≡ length needed
length-with_literals needed [] = refl
length-with_literals needed (lit ∷ lits) = length-with_literals (with_literal needed lit) lits
    ∙ length-set needed (lit / 2) true

pub with_literals-keeps : (needed : List Bool) (lits : List ℕ) (v : ℕ) → is_needed needed v ≡ true
    → is_needed (with_literals needed lits) v ≡ true
with_literals-keeps needed [] v is = is
with_literals-keeps needed (lit ∷ lits) v is = with_literals-keeps (with_literal needed lit) lits v
    (set_true needed (lit / 2) v is)

pub with_literals-has : (needed : List Bool) (lits : List ℕ) → All (λ lit. lit / 2 < length needed) lits
    → All (λ lit. is_needed (with_literals needed lits) (lit / 2) ≡ true) lits
with_literals-has needed [] within = All-nil (λ lit. is_needed needed (lit / 2) ≡ true)
with_literals-has needed (lit ∷ lits) within =
    let more : List Bool = with_literal needed lit in
    let own : lit / 2 < length needed = All-head (λ (n : ℕ). n / 2 < length needed) lit lits within in
    let later : All (λ (n : ℕ). n / 2 < length needed) lits = All-tail (λ (n : ℕ). n / 2 < length needed) lit lits
    within in
    let wide : length more ≡ length needed = length-set needed (lit / 2) true in
    All-cons (λ (n : ℕ). is_needed (with_literals more lits) (n / 2) ≡ true) lit lits
    (with_literals-keeps more lits (lit / 2) (get_or-set_same needed (lit / 2) true false own))
    (with_literals-has more lits
    (All-weaker (λ (n : ℕ). n / 2 < length needed) (λ (n : ℕ). n / 2 < length more) (λ n h. omega (arith, h, wide))
    lits later))

with_gate-keeps : (needed : List Bool) (variable : ℕ) (gate : Gate) (v : ℕ) → is_needed needed v ≡ true
    → is_needed (with_gate needed variable gate) v ≡ true
with_gate-keeps needed variable gate v is = by (is_needed needed variable)
  where
    by : (t : Bool) → is_needed (cond t (with_literal (with_literal needed gate.left) gate.right) needed) v ≡ true
    by true = set_true (with_literal needed gate.left) (gate.right / 2) v (set_true needed (gate.left / 2) v is)
    by false = is

length-with_gate : (needed : List Bool) (variable : ℕ) (gate : Gate) → length (with_gate needed variable gate)
    ≡ length needed
length-with_gate needed variable gate = by (is_needed needed variable)
  where
    by : (t : Bool) → length (cond t (with_literal (with_literal needed gate.left) gate.right) needed) ≡ length needed
    by true = length-set (with_literal needed gate.left) (gate.right / 2) true ∙ length-set needed (gate.left / 2) true
    by false = refl

pub with_gates-keeps : (needed : List Bool) (first : ℕ) (gates : List Gate) (v : ℕ) → is_needed needed v ≡ true
    → is_needed (with_gates needed first gates) v ≡ true
with_gates-keeps needed first [] v is = is
with_gates-keeps needed first (gate ∷ gates) v is =
    with_gate-keeps (with_gates needed (first + 1) gates) first gate v (with_gates-keeps needed (first + 1) gates v is)

pub length-with_gates : (needed : List Bool) (first : ℕ) (gates : List Gate) → length (with_gates needed first gates)
    ≡ length needed
length-with_gates needed first [] = refl
length-with_gates needed first (gate ∷ gates) =
    length-with_gate (with_gates needed (first + 1) gates) first gate ∙ length-with_gates needed (first + 1) gates

-- ---- gates need their operands

closed-keeps : (old new : List Bool) (first : ℕ) (gates : List Gate)
    → ((v : ℕ) → first ≤ v → is_needed new v ≡ true → is_needed old v ≡ true)
    → ((v : ℕ) → is_needed old v ≡ true → is_needed new v ≡ true) → Closed old first gates → Closed new first gates
closed-keeps old new first [] back keep closed = tt
closed-keeps old new first (gate ∷ gates) back keep closed = (
  λ is. let operands = closed.0 (back first (omega arith) is) in
      (keep (gate.left / 2) operands.0, keep (gate.right / 2) operands.1),
  closed-keeps old new (first + 1) gates (λ v low is. back v (omega (arith, low)) is) keep closed.1,
)

pub with_gates-closed : (needed : List Bool) (first : ℕ) (gates : List Gate) → EachStands first gates
    → first + length gates ≤ length needed
    → Closed (with_gates needed first gates) first gates
with_gates-closed needed first [] stand room = tt
with_gates-closed needed first (gate ∷ gates) stand room =
    by (length-with_gates needed (first + 1) gates)
    (with_gates-closed needed (first + 1) gates stand.2 (omega (arith, room)))
    (is_needed (with_gates needed (first + 1) gates) first) refl
  where
    by : length (with_gates needed (first + 1) gates) ≡ length needed
        → Closed (with_gates needed (first + 1) gates) (first + 1) gates
        → (t : Bool) → is_needed (with_gates needed (first + 1) gates) first ≡ t
        → Closed (cond t (with_literal (with_literal (with_gates needed (first + 1) gates) gate.left) gate.right)
        (with_gates needed (first + 1) gates)) first (gate ∷ gates)
    by wide rest true is =
        let before : List Bool = with_gates needed (first + 1) gates in
        let one : List Bool = with_literal before gate.left in
        let count : length one ≡ length before = length-set before (gate.left / 2) true in
        let has_left : is_needed one (gate.left / 2)
        ≡ true = get_or-set_same before (gate.left / 2) true false (omega (arith, stand.0, wide, room)) in (
          λ needs. (
            set_true one (gate.right / 2) (gate.left / 2) has_left,
            get_or-set_same one (gate.right / 2) true
                false (omega (arith, stand.1, wide, count, room)),
          ),
          closed-keeps before (with_literal one gate.right) (first + 1) gates
              (λ v low needs.
              let apart : v ≢ gate.right / 2 = omega (arith, stand.1, low) in
              let different : v ≢ gate.left / 2 = omega (arith, stand.0, low) in
              sym (get_or-set_other before (gate.left / 2) v true false different)
              ∙ sym (get_or-set_other one (gate.right / 2) v true false apart) ∙ needs)
              (λ v needs. set_true one (gate.right / 2) v (set_true before (gate.left / 2) v needs))
              rest,
        )
    by wide rest false is = (λ needs. absurd (true≢false (sym needs ∙ is)), rest)

-- ---- the cone

pub length-cone : (sources : ℕ) (gates : List Gate) (lits : List ℕ) → length (cone_of sources gates lits)
    ≡ 1 + sources + length gates
unfolding cone_of
length-cone sources gates lits =
    length-with_gates (with_literals (sources_alone sources gates) lits) (1 + sources) gates
    ∙ length-with_literals (sources_alone sources gates) lits ∙ length-sources_alone sources gates
  where
    length-sources_alone : (sources : ℕ) (gates : List Gate) → length (sources_alone sources gates)
        ≡ 1 + sources + length gates
    length-sources_alone sources gates =
        omega (
          arith,
          length-append (replicate (1 + sources) true) (replicate (length gates) false),
          length-replicate
              (1 + sources) true,
          length-replicate (length gates) false,
        )

pub cone-sources : (sources : ℕ) (gates : List Gate) (lits : List ℕ) (v : ℕ) → v ≤ sources
    → is_needed (cone_of sources gates lits) v ≡ true
unfolding cone_of
cone-sources sources gates lits v within =
    with_gates-keeps (with_literals (sources_alone sources gates) lits) (1 + sources) gates v
    (with_literals-keeps (sources_alone sources gates) lits v
    (get_or_append_left (replicate (1 + sources) true) (replicate (length gates) false) false v
    (omega (arith, length-replicate (1 + sources) true))
    ∙ get_or-replicate (1 + sources) v true false (omega arith)))

pub cone-literals : (sources : ℕ) (gates : List Gate) (lits : List ℕ) → All (Below (sources + length gates)) lits
    → All (λ lit. is_needed (cone_of sources gates lits) (lit / 2) ≡ true) lits
unfolding cone_of
cone-literals sources gates lits below =
    let start : List Bool = sources_alone sources gates in
    let count : length start ≡ 1 + sources + length gates =
    omega (
      arith,
      length-append (replicate (1 + sources) true) (replicate (length gates) false),
      length-replicate
          (1 + sources) true,
      length-replicate (length gates) false,
    ) in
    All-weaker (λ (lit : ℕ). is_needed (with_literals start lits) (lit / 2)
    ≡ true) (λ (lit : ℕ). is_needed (with_gates (with_literals start lits) (1 + sources) gates) (lit / 2) ≡ true)
    (λ lit is. with_gates-keeps (with_literals start lits) (1 + sources) gates (lit / 2) is) lits
    (with_literals-has start lits
    (All-weaker (Below (sources + length gates)) (λ (lit : ℕ). lit / 2 < length start)
    (λ lit h. omega (arith, h, count)) lits below))

pub cone-closed : (sources : ℕ) (gates : List Gate) (lits : List ℕ) → AllStand sources gates
    → Closed (cone_of sources gates lits) (1 + sources) gates
unfolding cone_of
cone-closed sources gates lits stand =
    with_gates-closed (with_literals (sources_alone sources gates) lits) (1 + sources) gates
    (stands-each sources gates stand)
    (omega (
      arith,
      length-with_literals (sources_alone sources gates) lits,
      length-append (replicate (1 + sources) true) (replicate (length gates) false),
      length-replicate (1 + sources) true,
      length-replicate (length gates) false,
    ))

-- ---- the greatest variable that is needed

pub greatest-within : (needed : List Bool) (n : ℕ) → greatest needed n ≤ n
greatest-within needed zero = omega arith
greatest-within needed (suc n) = by (greatest-within needed n) (is_needed needed (suc n))
  where
    by : greatest needed n ≤ n → (t : Bool) → cond t (suc n) (greatest needed n) ≤ suc n
    by rest true = omega arith
    by rest false = omega (arith, rest)

pub greatest-above : (needed : List Bool) (n v : ℕ) → v ≤ n → is_needed needed v ≡ true → v ≤ greatest needed n
greatest-above needed zero v within is = omega (arith, within)
greatest-above needed (suc n) v within is = by (λ small. greatest-above needed n v small is) (is_needed needed (suc n))
    refl
  where
    by : (v ≤ n → v ≤ greatest needed n) → (t : Bool) → is_needed needed (suc n) ≡ t
        → v ≤ cond t (suc n) (greatest needed n)
    by rest true top = within
    by rest false none =
        elim (cases_eq v (suc n)) [
          | inl same ↦ absurd (true≢false (sym is ∙ ap (is_needed needed) same ∙ none))
          | inr other ↦ rest (omega (arith, within, other))
        ]
