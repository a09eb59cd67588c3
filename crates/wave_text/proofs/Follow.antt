-- A dump followed line by line, for one variable up to a time.
use Rattle.std.proofs.Common.{◌≡◌, ◌≢◌, ◌⊎◌, ℕ, zero, suc, ◌+◌, ◌*◌, ◌^◌, ◌<◌, ◌≤◌, true, List, [], ◌∷◌, ◌++◌, Option, Some, None, length, refl, sym, ap, subst, ◌∙◌, append-nil, append_assoc, inl, inr, arith, true≢false}
use Rattle.std.specs.Prelude.{bytes_eq, codes, decimal, if◌then◌else◌, nat_lt, slice_get}
use Rattle.std.specs.List.{AllByRecursion, slice_split}
use Rattle.std.proofs.lemmas.Bool.{cond-false, cond-true, cond_both, eqb-true, false_from_ne_true, le-ltb, lt-ltb}
use Rattle.std.proofs.lemmas.Option.{same_Some}
use Rattle.std.proofs.lemmas.Slice.Eq.{bytes_eq-Decides}
use Rattle.wave_text.specs.Reading.{Said, begins, gives, is_later, neither, said_by, value_after, value_by}
use Rattle.wave_text.specs.Waves.{change, change_if, changes, code, edge, edges, is_same, line, marked, rise, time}
use Rattle.wave_text.specs.declared.level.Level.{Level}
use Rattle.wave_text.specs.declared.level.Level.TheVariants.{Unknown, Known}
use Rattle.wave_text.specs.declared.variable.Variable.{Variable}
use Rattle.wave_text.proofs.Said.{Clear, Shows, begin_said, change_bytes, change_clear, change_is_line, change_said, end_said, is_feed, lines_clear, split_at, time_clear, time_said}

-- each variable has a small number and can show its value
abbrev pub Fine : List Variable → List Level → Type 0
Fine [] now = Unit {0}
Fine (v ∷ vs) [] = Unit {0}
Fine (v ∷ vs) (n ∷ now) = (v.number < 2 ^ 64) × Shows v n × Fine vs now

-- no variable has this code, and no two have one
abbrev pub Apart : List ℕ → List Variable → Type 0
Apart own [] = Unit {0}
Apart own (v ∷ vs) = (code v ≢ own) × Apart own vs

abbrev pub Distinct : List Variable → Type 0
Distinct [] = Unit {0}
Distinct (v ∷ vs) = Apart (code v) vs × Distinct vs

-- what is held is the value before, if that is known
abbrev pub Holds : Option Level → Level → Type 0
Holds held before = (before ≡ Unknown) ⊎ (held ≡ Some before)

same_values : (b n : Level) → is_same b n ≡ true → b ≡ n
same_values Unknown n e = absurd (true≢false (sym e))
same_values (Known b) Unknown e = absurd (true≢false (sym e))
same_values (Known b) (Known n) e = ap Known (eqb-true b n e)

known_before : (b n : Level) → is_same b n ≡ true → b ≡ Unknown → ⊥
known_before Unknown n e none = true≢false (sym e)
known_before (Known b) n e none = cc

none_there : {X : Type 0} (x : X) → None ≡ Some x → ⊥
none_there x e = cc

apart_at : (own : List ℕ) (vs : List Variable) (number : ℕ) (v : Variable) → Apart own vs → slice_get vs number ≡ Some v → code v ≢ own
apart_at own [] number v apart is = absurd (none_there v is)
apart_at own (w ∷ ws) zero v apart is = λ e. apart.0 (ap code (same_Some w v is) ∙ e)
apart_at own (w ∷ ws) (suc number) v apart is = apart_at own ws number v apart.1 is

module _ (own : List ℕ) (at : ℕ) where
  -- the value after a text
  abbrev pub after : Option Level → List ℕ → Option Level
  after held text = value_by own at held (slice_split is_feed text)

  -- ---- lines

  said_line : (held : Option Level) (bytes rest : List ℕ) (said : Said) → Clear is_feed bytes → said_by bytes ≡ said
      → after held (line bytes ++ rest) ≡ (if is_later at said then held else after (value_after own held said) rest)
  said_line held bytes rest said clear is =
      ap (value_by own at held) (ap (slice_split is_feed) (append_assoc bytes (10 ∷ []) rest) ∙ split_at is_feed bytes 10 rest clear refl)
      ∙ ap (λ (s : Said). if is_later at s then held else after (value_after own held s) rest) is

  pub passed : (held : Option Level) (t : ℕ) (rest : List ℕ) → t < 2 ^ 64 → t ≤ at → after held (time t ++ rest) ≡ after held rest
  passed held t rest small le =
      said_line held (35 ∷ decimal t) rest (begins t) (time_clear t small) (time_said t small) ∙ cond-false (nat_lt at t) held (after held rest) (le-ltb at t le)

  pub stopped : (held : Option Level) (t : ℕ) (rest : List ℕ) → t < 2 ^ 64 → at < t → after held (time t ++ rest) ≡ held
  stopped held t rest small lt =
      said_line held (35 ∷ decimal t) rest (begins t) (time_clear t small) (time_said t small) ∙ cond-true (nat_lt at t) held (after held rest) (lt-ltb at t lt)

  skipped : (held : Option Level) (bytes rest : List ℕ) → Clear is_feed bytes → said_by bytes ≡ neither → after held (line bytes ++ rest) ≡ after held rest
  skipped held bytes rest clear is = said_line held bytes rest neither clear is

  pub given_own : (held : Option Level) (bytes rest other : List ℕ) (level : Level) → Clear is_feed bytes → said_by bytes ≡ gives other level → other ≡ own → after held (line bytes ++ rest) ≡ after (Some level) rest
  given_own held bytes rest other level clear is same =
      said_line held bytes rest (gives other level) clear is ∙ ap (λ (h : Option Level). after h rest) (cond-true (bytes_eq other own) (Some level) held ((bytes_eq-Decides other own).1 same))

  pub given_other : (held : Option Level) (bytes rest other : List ℕ) (level : Level) → Clear is_feed bytes → said_by bytes ≡ gives other level → other ≢ own → after held (line bytes ++ rest) ≡ after held rest
  given_other held bytes rest other level clear is differs =
      said_line held bytes rest (gives other level) clear is
      ∙ ap (λ (h : Option Level). after h rest) (cond-false (bytes_eq other own) (Some level) held (false_from_ne_true (bytes_eq other own) (λ e. differs ((bytes_eq-Decides other own).0 e))))

  -- ---- changes

  -- a change of another variable
  other_change : (v : Variable) (b n : Level) (held : Option Level) (rest : List ℕ) → v.number < 2 ^ 64 → Shows v n → code v ≢ own → after held (change_if v b n ++ rest) ≡ after held rest
  other_change v b n held rest small shows differs =
      cond_both (is_same b n) [] (change v n) (λ (t : List ℕ). after held (t ++ rest) ≡ after held rest) (λ e. refl)
      (λ e. ap (λ (t : List ℕ). after held (t ++ rest)) (change_is_line v n) ∙ given_other held (change_bytes v n) rest (code v) n (change_clear v n small shows) (change_said v n small shows) differs)

  pub other_changes : (vs : List Variable) (before now : List Level) (held : Option Level) (rest : List ℕ) → Apart own vs → Fine vs now → after held (changes vs before now ++ rest) ≡ after held rest
  other_changes [] before now held rest apart fine = refl
  other_changes (v ∷ vs) [] now held rest apart fine = refl
  other_changes (v ∷ vs) (b ∷ before) [] held rest apart fine = refl
  other_changes (v ∷ vs) (b ∷ before) (n ∷ now) held rest apart fine =
      ap (after held) (append_assoc (change_if v b n) (changes vs before now) rest)
      ∙ other_change v b n held (changes vs before now ++ rest) fine.0 fine.1 apart.0
      ∙ other_changes vs before now held rest apart.1 fine.2

  -- its own change
  own_change : (v : Variable) (b n : Level) (held : Option Level) (rest : List ℕ) → v.number < 2 ^ 64 → Shows v n → code v ≡ own → Holds held b → after held (change_if v b n ++ rest) ≡ after (Some n) rest
  own_change v b n held rest small shows same holds =
      cond_both (is_same b n) [] (change v n) (λ (t : List ℕ). after held (t ++ rest) ≡ after (Some n) rest)
      (λ e. ap (λ (h : Option Level). after h rest) (elim holds [ inl none ↦ absurd (known_before b n e none) | inr is ↦ is ∙ ap Some (same_values b n e) ]))
      (λ e. ap (λ (t : List ℕ). after held (t ++ rest)) (change_is_line v n) ∙ given_own held (change_bytes v n) rest (code v) n (change_clear v n small shows) (change_said v n small shows) same)

  pub own_changes : (vs : List Variable) (before now : List Level) (number : ℕ) (v : Variable) (b n : Level) (held : Option Level) (rest : List ℕ)
      → slice_get vs number ≡ Some v → slice_get before number ≡ Some b → slice_get now number ≡ Some n
      → Distinct vs → Fine vs now → code v ≡ own → Holds held b → after held (changes vs before now ++ rest) ≡ after (Some n) rest
  own_changes [] before now number v b n held rest v_is b_is n_is distinct fine same holds = absurd (none_there v v_is)
  own_changes (w ∷ ws) [] now number v b n held rest v_is b_is n_is distinct fine same holds = absurd (none_there b b_is)
  own_changes (w ∷ ws) (c ∷ before) [] number v b n held rest v_is b_is n_is distinct fine same holds = absurd (none_there n n_is)
  own_changes (w ∷ ws) (c ∷ before) (m ∷ now) zero v b n held rest v_is b_is n_is distinct fine same holds =
      let code_is : code w ≡ own = ap code (same_Some w v v_is) ∙ same in
      let first : Holds held c = subst (Holds held) (sym (same_Some c b b_is)) holds in
      ap (after held) (append_assoc (change_if w c m) (changes ws before now) rest)
      ∙ own_change w c m held (changes ws before now ++ rest) fine.0 fine.1 code_is first
      ∙ other_changes ws before now (Some m) rest (subst (λ (o : List ℕ). Apart o ws) code_is distinct.0) fine.2
      ∙ ap (λ (l : Level). after (Some l) rest) (same_Some m n n_is)
  own_changes (w ∷ ws) (c ∷ before) (m ∷ now) (suc number) v b n held rest v_is b_is n_is distinct fine same holds =
      let differs : code w ≢ own = λ e. apart_at (code w) ws number v distinct.0 v_is (same ∙ sym e) in
      ap (after held) (append_assoc (change_if w c m) (changes ws before now) rest)
      ∙ other_change w c m held (changes ws before now ++ rest) fine.0 fine.1 differs
      ∙ own_changes ws before now number v b n held rest v_is b_is n_is distinct.1 fine.2 same holds

  -- ---- edges

  -- the marks at time 0 say nothing
  marked_passed : (cycle : ℕ) (text : List ℕ) (held new : Option Level) → ((rest : List ℕ) → after held (text ++ rest) ≡ after new rest)
      → (rest : List ℕ) → after held (marked cycle text ++ rest) ≡ after new rest
  marked_passed zero text held new step rest =
      let dumpvars = line (codes "$dumpvars") in
      let ending = line (codes "$end") in
      ap (after held) (append_assoc (dumpvars ++ text) ending rest ∙ append_assoc dumpvars text (ending ++ rest))
      ∙ skipped held (codes "$dumpvars") (text ++ (ending ++ rest)) lines_clear.2 begin_said
      ∙ step (ending ++ rest)
      ∙ skipped new (codes "$end") rest lines_clear.3 end_said
  marked_passed (suc cycle) text held new step rest = step rest

  five_parts : (a b c d rest : List ℕ) → (a ++ b ++ c ++ d) ++ rest ≡ a ++ (b ++ (c ++ (d ++ rest)))
  five_parts a b c d rest = simp append_assoc

  module _ (vs : List Variable) (Inv : Option Level → List Level → Type 0) (IsOk : List Level → Type 0) (risen fallen : List Level → Level)
      (rises : (before now : List Level) (held : Option Level) → Inv held before → IsOk now → (rest : List ℕ) → after held (rise vs before now ++ rest) ≡ after (Some (risen now)) rest)
      (falls : (now : List Level) (rest : List ℕ) → after (Some (risen now)) (line (codes "0c") ++ rest) ≡ after (Some (fallen now)) rest)
      (next : (now : List Level) → IsOk now → Inv (Some (fallen now)) now)
    where
      edge_begun : (cycle : ℕ) (before now : List Level) (held : Option Level) (rest : List ℕ) → Inv held before → IsOk now → 10 * cycle ≤ at → 10 * cycle < 2 ^ 64
          → after held (edge vs cycle before now ++ rest) ≡ after (Some (risen now)) (time (10 * cycle + 5) ++ (line (codes "0c") ++ rest))
      unfolding edge
      edge_begun cycle before now held rest inv ok le small =
          ap (after held) (five_parts (time (10 * cycle)) (marked cycle (rise vs before now)) (time (10 * cycle + 5)) (line (codes "0c")) rest)
          ∙ passed held (10 * cycle) (marked cycle (rise vs before now) ++ (time (10 * cycle + 5) ++ (line (codes "0c") ++ rest))) small le
          ∙ marked_passed cycle (rise vs before now) held (Some (risen now)) (rises before now held inv ok) (time (10 * cycle + 5) ++ (line (codes "0c") ++ rest))

      edge_half : (cycle : ℕ) (before now : List Level) (held : Option Level) (rest : List ℕ) → Inv held before → IsOk now → 10 * cycle ≤ at → at < 10 * cycle + 5 → 10 * cycle + 5 < 2 ^ 64
          → after held (edge vs cycle before now ++ rest) ≡ Some (risen now)
      edge_half cycle before now held rest inv ok le lt small =
          edge_begun cycle before now held rest inv ok le (omega (arith, small)) ∙ stopped (Some (risen now)) (10 * cycle + 5) (line (codes "0c") ++ rest) small lt

      edge_gone : (cycle : ℕ) (before now : List Level) (held : Option Level) (rest : List ℕ) → Inv held before → IsOk now → 10 * cycle + 5 ≤ at → 10 * cycle + 5 < 2 ^ 64
          → after held (edge vs cycle before now ++ rest) ≡ after (Some (fallen now)) rest
      edge_gone cycle before now held rest inv ok le small =
          edge_begun cycle before now held rest inv ok (omega (arith, le)) (omega (arith, small))
          ∙ passed (Some (risen now)) (10 * cycle + 5) (line (codes "0c") ++ rest) small le
          ∙ falls now rest

      -- the text from an edge on, with the last time
      abbrev rest_from : ℕ → List Level → List (List Level) → List ℕ
      rest_from cycle before later = edges vs cycle before later ++ time (10 * (cycle + length later))

      rest_stops : (cycle : ℕ) (before : List Level) (later : List (List Level)) (held : Option Level) → at < 10 * cycle → 10 * (cycle + length later) < 2 ^ 64 → after held (rest_from cycle before later) ≡ held
      unfolding edge
      rest_stops cycle before [] held lt small = stopped_last cycle held lt small
        where
          stopped_last : (cycle : ℕ) (held : Option Level) → at < 10 * cycle → 10 * (cycle + 0) < 2 ^ 64 → after held (time (10 * (cycle + 0))) ≡ held
          stopped_last cycle held lt small =
              ap (after held) (sym (append-nil (time (10 * (cycle + 0))))) ∙ stopped held (10 * (cycle + 0)) [] small (omega (arith, lt))
      rest_stops cycle before (now ∷ later) held lt small =
          let t = time (10 * (cycle + length (now ∷ later))) in
          ap (after held)
          (append_assoc (edge vs cycle before now) (edges vs (cycle + 1) now later) t
          ∙ five_parts (time (10 * cycle)) (marked cycle (rise vs before now)) (time (10 * cycle + 5)) (line (codes "0c")) (edges vs (cycle + 1) now later ++ t))
          ∙ stopped held (10 * cycle) (marked cycle (rise vs before now) ++ (time (10 * cycle + 5) ++ (line (codes "0c") ++ (edges vs (cycle + 1) now later ++ t)))) (omega (arith, small)) lt

      rest_next : (cycle : ℕ) (before now : List Level) (later : List (List Level)) → rest_from cycle before (now ∷ later) ≡ edge vs cycle before now ++ rest_from (cycle + 1) now later
      rest_next cycle before now later =
          let e : cycle + length (now ∷ later) ≡ cycle + 1 + length later = omega arith in
          append_assoc (edge vs cycle before now) (edges vs (cycle + 1) now later) (time (10 * (cycle + length (now ∷ later))))
          ∙ ap (λ (n : ℕ). edge vs cycle before now ++ (edges vs (cycle + 1) now later ++ time (10 * n))) e

      -- in the first half of a cycle, and in the second
      pub found_risen : (later : List (List Level)) (cycle : ℕ) (before : List Level) (held : Option Level) (k after_edge : ℕ) (now : List Level)
          → AllByRecursion IsOk later → Inv held before → slice_get later k ≡ Some now → at ≡ 10 * (cycle + k) + after_edge → after_edge < 5 → 10 * (cycle + length later) < 2 ^ 64
          → after held (rest_from cycle before later) ≡ Some (risen now)
      found_risen [] cycle before held k d now all inv is at_is less small = absurd (none_there now is)
      found_risen (m ∷ later) cycle before held zero d now all inv is at_is less small =
          ap (after held) (rest_next cycle before m later)
          ∙ edge_half cycle before m held (rest_from (cycle + 1) m later) inv all.0 (omega (arith, at_is)) (omega (arith, at_is, less)) (omega (arith, small))
          ∙ ap (λ (l : List Level). Some (risen l)) (same_Some m now is)
      found_risen (m ∷ later) cycle before held (suc k) d now all inv is at_is less small =
          ap (after held) (rest_next cycle before m later)
          ∙ edge_gone cycle before m held (rest_from (cycle + 1) m later) inv all.0 (omega (arith, at_is)) (omega (arith, small))
          ∙ found_risen later (cycle + 1) m (Some (fallen m)) k d now all.1 (next m all.0) is (omega (arith, at_is)) less (omega (arith, small))

      pub found_fallen : (later : List (List Level)) (cycle : ℕ) (before : List Level) (held : Option Level) (k after_edge : ℕ) (now : List Level)
          → AllByRecursion IsOk later → Inv held before → slice_get later k ≡ Some now → at ≡ 10 * (cycle + k) + after_edge → 5 ≤ after_edge → after_edge < 10 → 10 * (cycle + length later) < 2 ^ 64
          → after held (rest_from cycle before later) ≡ Some (fallen now)
      found_fallen [] cycle before held k d now all inv is at_is low high small = absurd (none_there now is)
      found_fallen (m ∷ later) cycle before held zero d now all inv is at_is low high small =
          ap (after held) (rest_next cycle before m later)
          ∙ edge_gone cycle before m held (rest_from (cycle + 1) m later) inv all.0 (omega (arith, at_is, low)) (omega (arith, small))
          ∙ rest_stops (cycle + 1) m later (Some (fallen m)) (omega (arith, at_is, high)) (omega (arith, small))
          ∙ ap (λ (l : List Level). Some (fallen l)) (same_Some m now is)
      found_fallen (m ∷ later) cycle before held (suc k) d now all inv is at_is low high small =
          ap (after held) (rest_next cycle before m later)
          ∙ edge_gone cycle before m held (rest_from (cycle + 1) m later) inv all.0 (omega (arith, at_is)) (omega (arith, small))
          ∙ found_fallen later (cycle + 1) m (Some (fallen m)) k d now all.1 (next m all.0) is (omega (arith, at_is)) low high (omega (arith, small))
