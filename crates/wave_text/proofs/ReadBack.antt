-- The dump of a run, read back.
use Rattle.std.proofs.Common.{◌≡◌, ◌≢◌, ◌⊎◌, ℕ, zero, suc, ◌+◌, ◌*◌, ◌^◌, ◌<◌, ◌≤◌, Bool, true, false, List, [], ◌∷◌, ◌++◌, Option, Some, None, length, length-append, get_or, map, replicate, refl, sym, ap, ap₂, subst, ◌∙◌, append_assoc, inl, inr, arith}
use Rattle.std.specs.Prelude.{codes, if◌then◌else◌, nat_lt, slice_get}
use Rattle.std.specs.List.{AllByRecursion}
use Rattle.std.proofs.lemmas.Bool.{cases_lt, cond-false, cond-true, le-ltb, lt-ltb}
use Rattle.std.proofs.lemmas.Fmt.{decimal_injective}
use Rattle.std.proofs.lemmas.List.{get_or-replicate, get_or_past, length-map, length-replicate}
use Rattle.std.proofs.lemmas.Option.{same_Some, slice_get-get_or, slice_get_within}
use Rattle.kw_bits.specs.BitVector.{BitVector}
use Rattle.kw_bits.specs.Laws.{HasWidth}
use Rattle.typed_core.specs.Widths.{HaveWidths}
use Rattle.one_rule.specs.Run.{InputsByCycle}
use Rattle.one_rule.specs.declared.rows.Row.{Row}
use Rattle.stim_report.specs.Shapes.{RowMatches, RowsMatch, widths_of}
use Rattle.stim_report.specs.declared.shape.NameWidth.{NameWidth}
use Rattle.stim_report.specs.declared.shape.Shape.{Shape}
use Rattle.wave_text.specs.Reading.{ClockReadsBack, ReadsBack, value_at}
use Rattle.wave_text.specs.Waves.{body, changes, code, edges, flag, known, last_levels, letter, levels, line, moments, no_levels, numbered, of_rule, rise, time, variables}
use Rattle.wave_text.specs.declared.level.Level.{Level}
use Rattle.wave_text.specs.declared.level.Level.TheVariants.{Unknown, Known}
use Rattle.wave_text.specs.declared.variable.VariableKind.{VariableKind}
use Rattle.wave_text.specs.declared.variable.VariableKind.TheVariants.{Input, Register, Rule}
use Rattle.wave_text.specs.declared.variable.Variable.{Variable}
use Rattle.wave_text.proofs.Follow.{Apart, Distinct, Fine, Holds, after, found_fallen, found_risen, given_other, given_own, other_changes, own_changes}
use Rattle.wave_text.proofs.Moments.{length_levels, length_numbered, length_last_levels, length_variables}
use Rattle.wave_text.proofs.Said.{fall_said, lines_clear, rise_said}

-- ---- codes differ

abbrev tail_of : List ℕ → List ℕ
tail_of [] = []
tail_of (x ∷ xs) = xs

abbrev head_of : List ℕ → ℕ
head_of [] = 0
head_of (x ∷ xs) = x

-- those of one kind, with greater numbers
apart_greater : (kind : VariableKind) (number width from : ℕ) (named : List NameWidth) → number < from → from + length named ≤ 2 ^ 32
    → Apart (code (record { kind = kind; number = number; width = width })) (numbered kind from named)
apart_greater kind number width from [] less few = tt
apart_greater kind number width from (one ∷ more) less few = (
  (λ e. absurd (let same : from ≡ number = decimal_injective from number (omega (arith, few)) (omega (arith, less, few)) (ap tail_of e) in omega (arith, same, less))),
  apart_greater kind number width (from + 1) more (omega (arith, less)) (omega (arith, few)),
)

-- those of another kind
apart_letters : (own : List ℕ) (kind : VariableKind) (from : ℕ) (named : List NameWidth) → letter kind ≢ head_of own → Apart own (numbered kind from named)
apart_letters own kind from [] differ = tt
apart_letters own kind from (one ∷ more) differ = ((λ e. differ (ap head_of e)), apart_letters own kind (from + 1) more differ)

apart_append : (own : List ℕ) (vs ws : List Variable) → Apart own vs → Apart own ws → Apart own (vs ++ ws)
apart_append own [] ws first second = second
apart_append own (v ∷ vs) ws first second = (first.0, apart_append own vs ws first.1 second)

distinct_numbered : (kind : VariableKind) (from : ℕ) (named : List NameWidth) → from + length named ≤ 2 ^ 32 → Distinct (numbered kind from named)
distinct_numbered kind from [] few = tt
distinct_numbered kind from (one ∷ more) few =
    (apart_greater kind from one.width (from + 1) more (omega arith) (omega (arith, few)), distinct_numbered kind (from + 1) more (omega (arith, few)))

-- each variable is apart from others
abbrev AllApart : List Variable → List Variable → Type 0
AllApart [] ws = Unit {0}
AllApart (v ∷ vs) ws = Apart (code v) ws × AllApart vs ws

distinct_append : (vs ws : List Variable) → Distinct vs → Distinct ws → AllApart vs ws → Distinct (vs ++ ws)
distinct_append [] ws first second apart = second
distinct_append (v ∷ vs) ws first second apart = (apart_append (code v) vs ws first.0 apart.0, distinct_append vs ws first.1 second apart.1)

kinds_apart : (one other : VariableKind) (from : ℕ) (named others : List NameWidth) → letter other ≢ letter one → AllApart (numbered one from named) (numbered other 0 others)
kinds_apart one other from [] others differ = tt
kinds_apart one other from (n ∷ named) others differ =
    (apart_letters (code (record { kind = one; number = from; width = n.width })) other 0 others differ, kinds_apart one other (from + 1) named others differ)

all_apart_append : (us vs ws : List Variable) → AllApart us ws → AllApart vs ws → AllApart (us ++ vs) ws
all_apart_append [] vs ws first second = second
all_apart_append (u ∷ us) vs ws first second = (first.0, all_apart_append us vs ws first.1 second)

distinct_variables : (shape : Shape) → length (variables shape) ≤ 2 ^ 32 → Distinct (variables shape)
distinct_variables shape few =
    let count = length_variables shape in
    let rules = map of_rule shape.rules in
    let i = numbered Input 0 shape.inputs in
    let r = numbered Register 0 shape.registers in
    let f = numbered Rule 0 rules in
    distinct_append (i ++ r) f
    (distinct_append i r (distinct_numbered Input 0 shape.inputs (omega (arith, count, few))) (distinct_numbered Register 0 shape.registers (omega (arith, count, few)))
    (kinds_apart Input Register 0 shape.inputs shape.registers (λ e. absurd (omega (arith, e)))))
    (distinct_numbered Rule 0 rules (omega (arith, count, few, length-map shape.rules of_rule)))
    (all_apart_append i r f (kinds_apart Input Rule 0 shape.inputs rules (λ e. absurd (omega (arith, e)))) (kinds_apart Register Rule 0 shape.registers rules (λ e. absurd (omega (arith, e)))))

clock_apart : (shape : Shape) → Apart (codes "c") (variables shape)
clock_apart shape =
    apart_append (codes "c") (numbered Input 0 shape.inputs ++ numbered Register 0 shape.registers) (numbered Rule 0 (map of_rule shape.rules))
    (apart_append (codes "c") (numbered Input 0 shape.inputs) (numbered Register 0 shape.registers)
    (apart_letters (codes "c") Input 0 shape.inputs (λ e. absurd (omega (arith, e)))) (apart_letters (codes "c") Register 0 shape.registers (λ e. absurd (omega (arith, e)))))
    (apart_letters (codes "c") Rule 0 (map of_rule shape.rules) (λ e. absurd (omega (arith, e))))

clock_differs : (v : Variable) → codes "c" ≢ code v
clock_differs v e = letter_differs v.kind (ap head_of e)
  where
    letter_differs : (k : VariableKind) → 99 ≡ letter k → ⊥
    letter_differs Input e = absurd (omega (arith, e))
    letter_differs Register e = absurd (omega (arith, e))
    letter_differs Rule e = absurd (omega (arith, e))

-- ---- values can be shown

fine_append : (vs ws : List Variable) (now later : List Level) → length vs ≡ length now → Fine vs now → Fine ws later → Fine (vs ++ ws) (now ++ later)
fine_append [] ws [] later count first second = second
fine_append [] ws (n ∷ now) later count first second = absurd (omega (arith, count))
fine_append (v ∷ vs) ws [] later count first second = absurd (omega (arith, count))
fine_append (v ∷ vs) ws (n ∷ now) later count first second = (first.0, first.1, fine_append vs ws now later (omega (arith, count)) first.2 second)

fine_known : (kind : VariableKind) (from : ℕ) (named : List NameWidth) (values : List BitVector) → HaveWidths (widths_of named) values → from + length named ≤ 2 ^ 32 → Fine (numbered kind from named) (map known values)
fine_known kind from [] values have few = tt
fine_known kind from (one ∷ more) [] have few = tt
fine_known kind from (one ∷ more) (value ∷ values) have few =
    let h : HasWidth value one.width = have.each 0 one.width refl in (
      omega (arith, few),
      (subst (λ w. value.number < 2 ^ w) h.1 h.0.in_range, subst (λ w. w ≤ 128) h.1 h.0.no_wider),
      fine_known kind (from + 1) more values (record { count = omega (arith, have.count); each = λ number width is. have.each (suc number) width is }) (omega (arith, few)),
    )

fine_flags : (from : ℕ) (rules : List (List ℕ)) (fired : List Bool) → from + length rules ≤ 2 ^ 32 → Fine (numbered Rule from (map of_rule rules)) (map flag fired)
fine_flags from [] fired few = tt
fine_flags from (rule ∷ rules) [] few = tt
fine_flags from (rule ∷ rules) (false ∷ fired) few = (omega (arith, few), (omega arith, omega arith), fine_flags (from + 1) rules fired (omega (arith, few)))
fine_flags from (rule ∷ rules) (true ∷ fired) few = (omega (arith, few), (omega arith, omega arith), fine_flags (from + 1) rules fired (omega (arith, few)))

fine_unknown : (kind : VariableKind) (from : ℕ) (named : List NameWidth) (count : ℕ) → from + length named ≤ 2 ^ 32 → Fine (numbered kind from named) (replicate count Unknown)
fine_unknown kind from [] count few = tt
fine_unknown kind from (one ∷ more) zero few = tt
fine_unknown kind from (one ∷ more) (suc count) few = (omega (arith, few), tt, fine_unknown kind (from + 1) more count (omega (arith, few)))

-- ---- each moment

-- it has a value for each variable, which can be shown
record IsMoment (vs : List Variable) (now : List Level) : Type 0 where
  count : length now ≡ length vs
  fine : Fine vs now

module _ (shape : Shape) (few : length (variables shape) ≤ 2 ^ 32) where
  few_inputs : 0 + length shape.inputs ≤ 2 ^ 32
  few_inputs = omega (arith, few, length_variables shape)

  few_registers : 0 + length shape.registers ≤ 2 ^ 32
  few_registers = omega (arith, few, length_variables shape)

  few_rules : 0 + length shape.rules ≤ 2 ^ 32
  few_rules = omega (arith, few, length_variables shape)

  parts_fine : (a b c : List Level) → length shape.inputs ≡ length a → length shape.registers ≡ length b
      → Fine (numbered Input 0 shape.inputs) a → Fine (numbered Register 0 shape.registers) b → Fine (numbered Rule 0 (map of_rule shape.rules)) c → Fine (variables shape) (a ++ b ++ c)
  parts_fine a b c one two i r f =
      let first : length (numbered Input 0 shape.inputs) ≡ length a = length_numbered Input 0 shape.inputs ∙ one in
      let second : length (numbered Register 0 shape.registers) ≡ length b = length_numbered Register 0 shape.registers ∙ two in
      fine_append (numbered Input 0 shape.inputs ++ numbered Register 0 shape.registers) (numbered Rule 0 (map of_rule shape.rules)) (a ++ b) c
      (length-append (numbered Input 0 shape.inputs) (numbered Register 0 shape.registers) ∙ ap₂ (λ (x y : ℕ). x + y) first second ∙ sym (length-append a b))
      (fine_append (numbered Input 0 shape.inputs) (numbered Register 0 shape.registers) a b first i r) f

  inner_moment : (inputs : List BitVector) (row next : Row) → HaveWidths (widths_of shape.inputs) inputs → RowMatches shape.registers shape.rules row → RowMatches shape.registers shape.rules next
      → IsMoment (variables shape) (levels inputs row.regs next.fired)
  inner_moment inputs row next have fits next_fits =
      let count_i : length inputs ≡ length shape.inputs = have.count ∙ length-map shape.inputs (λ (one : NameWidth). one.width) in
      let count_r : length row.regs ≡ length shape.registers = fits.values.count ∙ length-map shape.registers (λ (one : NameWidth). one.width) in
      record {
        count = length_levels inputs row.regs next.fired ∙ omega (arith, count_i, count_r, next_fits.flags, length_variables shape);
        fine = parts_fine (map known inputs) (map known row.regs) (map flag next.fired) (sym (length-map inputs known ∙ count_i)) (sym (length-map row.regs known ∙ count_r))
            (fine_known Input 0 shape.inputs inputs have few_inputs) (fine_known Register 0 shape.registers row.regs fits.values few_registers) (fine_flags 0 shape.rules next.fired few_rules);
      }

  last_moment : (row : Row) → RowMatches shape.registers shape.rules row → IsMoment (variables shape) (last_levels shape row.regs)
  last_moment row fits =
      let count_r : length row.regs ≡ length shape.registers = fits.values.count ∙ length-map shape.registers (λ (one : NameWidth). one.width) in
      record {
        count = length_last_levels shape row.regs count_r;
        fine = parts_fine (replicate (length shape.inputs) Unknown) (map known row.regs) (replicate (length shape.rules) Unknown) (sym (length-replicate (length shape.inputs) Unknown)) (sym (length-map row.regs known ∙ count_r))
            (fine_unknown Input 0 shape.inputs (length shape.inputs) few_inputs) (fine_known Register 0 shape.registers row.regs fits.values few_registers)
            (fine_unknown Rule 0 (map of_rule shape.rules) (length shape.rules) (omega (arith, few_rules, length-map shape.rules of_rule)));
      }

  are_moments : (inputs : InputsByCycle) (cycle : ℕ) (rows : List Row) → ((c : ℕ) → HaveWidths (widths_of shape.inputs) (inputs c)) → RowsMatch shape rows → AllByRecursion (IsMoment (variables shape)) (moments shape inputs cycle rows)
  are_moments inputs cycle [] have fit = tt
  are_moments inputs cycle (row ∷ []) have fit = (last_moment row fit.0, tt)
  are_moments inputs cycle (row ∷ next ∷ rows) have fit =
      (inner_moment (inputs (cycle + 1)) row next (have (cycle + 1)) fit.0 fit.1.0, are_moments inputs (cycle + 1) (next ∷ rows) have fit.1)

length_moments : (shape : Shape) (inputs : InputsByCycle) (cycle : ℕ) (rows : List Row) → length (moments shape inputs cycle rows) ≡ length rows
length_moments shape inputs cycle [] = refl
length_moments shape inputs cycle (row ∷ []) = refl
length_moments shape inputs cycle (row ∷ next ∷ rows) = ap suc (length_moments shape inputs (cycle + 1) (next ∷ rows))

-- ---- a variable

module _ (vs : List Variable) (number : ℕ) (v : Variable) (within : number < length vs) (v_is : slice_get vs number ≡ Some v) (distinct : Distinct vs) (at : ℕ) where
  -- its value in a moment
  abbrev own_level : List Level → Level
  own_level now = get_or now number Unknown

  -- what is held is its value in the moment before
  record Kept (held : Option Level) (before : List Level) : Type 0 where
    length_is : length before ≡ length vs
    holds : Holds held (own_level before)

  there : (now : List Level) → length now ≡ length vs → slice_get now number ≡ Some (own_level now)
  there now count = slice_get-get_or now number Unknown (omega (arith, count, within))

  own_rises : (before now : List Level) (held : Option Level) → Kept held before → IsMoment vs now → (rest : List ℕ)
      → after (code v) at held (rise vs before now ++ rest) ≡ after (code v) at (Some (own_level now)) rest
  own_rises before now held kept moment rest =
      ap (after (code v) at held) (append_assoc (line (codes "1c")) (changes vs before now) rest)
      ∙ given_other (code v) at held (codes "1c") (changes vs before now ++ rest) (codes "c") (Known 1) lines_clear.0 rise_said (clock_differs v)
      ∙ own_changes (code v) at vs before now number v (own_level before) (own_level now) held rest v_is (there before kept.length_is) (there now moment.count) distinct moment.fine refl kept.holds

  own_falls : (now : List Level) (rest : List ℕ) → after (code v) at (Some (own_level now)) (line (codes "0c") ++ rest) ≡ after (code v) at (Some (own_level now)) rest
  own_falls now rest = given_other (code v) at (Some (own_level now)) (codes "0c") rest (codes "c") (Known 0) lines_clear.1 fall_said (clock_differs v)

  own_next : (now : List Level) → IsMoment vs now → Kept (Some (own_level now)) now
  own_next now moment = record { length_is = moment.count; holds = inr refl }

-- ---- the clock

module _ (vs : List Variable) (apart : Apart (codes "c") vs) (at : ℕ) where
  clock_rises : (before now : List Level) (held : Option Level) → Unit {0} → IsMoment vs now → (rest : List ℕ)
      → after (codes "c") at held (rise vs before now ++ rest) ≡ after (codes "c") at (Some (Known 1)) rest
  clock_rises before now held kept moment rest =
      ap (after (codes "c") at held) (append_assoc (line (codes "1c")) (changes vs before now) rest)
      ∙ given_own (codes "c") at held (codes "1c") (changes vs before now ++ rest) (codes "c") (Known 1) lines_clear.0 rise_said refl
      ∙ other_changes (codes "c") at vs before now (Some (Known 1)) rest apart moment.fine

  clock_falls : (now : List Level) (rest : List ℕ) → after (codes "c") at (Some (Known 1)) (line (codes "0c") ++ rest) ≡ after (codes "c") at (Some (Known 0)) rest
  clock_falls now rest = given_own (codes "c") at (Some (Known 1)) (codes "0c") rest (codes "c") (Known 0) lines_clear.1 fall_said refl

-- ---- the law

none_before : (shape : Shape) (number : ℕ) → get_or (no_levels shape) number Unknown ≡ Unknown
none_before shape number = at_any (cases_lt number (length (variables shape)))
  where
    at_any : (number < length (variables shape)) ⊎ (length (variables shape) ≤ number) → get_or (no_levels shape) number Unknown ≡ Unknown
    at_any (inl less) = get_or-replicate (length (variables shape)) number Unknown Unknown less
    at_any (inr le) = get_or_past (no_levels shape) number Unknown (omega (arith, le, length-replicate (length (variables shape)) Unknown))

pub reads_back : ReadsBack
unfolding value_at body
reads_back shape inputs rows run cycle d number now v level less now_is v_is level_is =
    let vs = variables shape in
    let ms = moments shape inputs 0 rows in
    let at = 10 * cycle + d in
    let within : number < length vs = slice_get_within vs number v v_is in
    let distinct = distinct_variables shape run.few_variables in
    let all = are_moments shape run.few_variables inputs 0 rows run.inputs_fit run.rows_fit in
    let few : 10 * (0 + length ms) < 2 ^ 64 = omega (arith, length_moments shape inputs 0 rows, run.few_rows) in
    let text : edges vs 0 (no_levels shape) ms ++ time (10 * length rows) ≡ edges vs 0 (no_levels shape) ms ++ time (10 * (0 + length ms)) =
    ap (λ n. edges vs 0 (no_levels shape) ms ++ time (10 * n)) (omega (arith, length_moments shape inputs 0 rows)) in
    let kept : Kept vs number v within v_is distinct at None (no_levels shape) = record { length_is = length-replicate (length vs) Unknown; holds = inl (none_before shape number) } in
    let value : get_or now number Unknown ≡ level =
    same_Some (get_or now number Unknown) level (sym (slice_get-get_or now number Unknown (slice_get_within now number level level_is)) ∙ level_is) in
    let own = own_level vs number v within v_is distinct at in
    let found : after (code v) at None (edges vs 0 (no_levels shape) ms ++ time (10 * (0 + length ms))) ≡ Some (get_or now number Unknown) =
    elim (cases_lt d 5) [
      | inl first ↦ found_risen (code v) at vs (Kept vs number v within v_is distinct at) (IsMoment vs) own own (own_rises vs number v within v_is distinct at) (own_falls vs number v within v_is distinct at) (own_next vs number v within v_is distinct at)
          ms 0 (no_levels shape) None cycle d now all kept now_is (omega arith) first few
      | inr second ↦ found_fallen (code v) at vs (Kept vs number v within v_is distinct at) (IsMoment vs) own own (own_rises vs number v within v_is distinct at) (own_falls vs number v within v_is distinct at) (own_next vs number v within v_is distinct at)
          ms 0 (no_levels shape) None cycle d now all kept now_is (omega arith) second less few
    ] in
    ap (after (code v) at None) text ∙ found ∙ ap Some value

pub clock_reads_back : ClockReadsBack
unfolding value_at body
clock_reads_back shape inputs rows run cycle d less within =
    let vs = variables shape in
    let ms = moments shape inputs 0 rows in
    let at = 10 * cycle + d in
    let all = are_moments shape run.few_variables inputs 0 rows run.inputs_fit run.rows_fit in
    let few : 10 * (0 + length ms) < 2 ^ 64 = omega (arith, length_moments shape inputs 0 rows, run.few_rows) in
    let text : edges vs 0 (no_levels shape) ms ++ time (10 * length rows) ≡ edges vs 0 (no_levels shape) ms ++ time (10 * (0 + length ms)) =
    ap (λ n. edges vs 0 (no_levels shape) ms ++ time (10 * n)) (omega (arith, length_moments shape inputs 0 rows)) in
    let apart = clock_apart shape in
    let now = get_or ms cycle [] in
    let now_is : slice_get ms cycle ≡ Some now = slice_get-get_or ms cycle [] (omega (arith, within, length_moments shape inputs 0 rows)) in
    let found : after (codes "c") at None (edges vs 0 (no_levels shape) ms ++ time (10 * (0 + length ms))) ≡ Some (Known (if nat_lt d 5 then 1 else 0)) =
    elim (cases_lt d 5) [
      | inl first ↦ found_risen (codes "c") at vs (λ held before. Unit {0}) (IsMoment vs) (λ n. Known 1) (λ n. Known 0) (clock_rises vs apart at) (clock_falls vs apart at) (λ n ok. tt)
          ms 0 (no_levels shape) None cycle d now all tt now_is (omega arith) first few
          ∙ ap (λ n. Some (Known n)) (sym (cond-true (nat_lt d 5) 1 0 (lt-ltb d 5 first)))
      | inr second ↦ found_fallen (codes "c") at vs (λ held before. Unit {0}) (IsMoment vs) (λ n. Known 1) (λ n. Known 0) (clock_rises vs apart at) (clock_falls vs apart at) (λ n ok. tt)
          ms 0 (no_levels shape) None cycle d now all tt now_is (omega arith) second less few
          ∙ ap (λ n. Some (Known n)) (sym (cond-false (nat_lt d 5) 1 0 (le-ltb d 5 second)))
    ] in
    ap (after (codes "c") at None) text ∙ found
