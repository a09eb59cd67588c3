-- The values at the edges of a batch, row by row.
use Rattle.std.proofs.Common.{◌≡◌, ℕ, suc, ◌+◌, ◌-◌, ◌<◌, ◌≤◌, List, [], ◌∷◌, ◌++◌, Bool, length, length-append, drop, get_or, map, replicate, refl, sym, ap, ap₂, subst, ◌∙◌, arith}
use Rattle.std.specs.List.{AllByRecursion}
use Rattle.std.proofs.lemmas.List.{drop_more, length-drop, length-map, length-replicate}
use Rattle.kw_bits.specs.BitVector.{BitVector}
use Rattle.typed_core.specs.Widths.{HaveWidths}
use Rattle.one_rule.specs.Run.{InputsByCycle}
use Rattle.one_rule.specs.declared.rows.Row.{Row}
use Rattle.stim_report.specs.Shapes.{RowMatches, RowsMatch, widths_of}
use Rattle.stim_report.specs.declared.shape.NameWidth.{NameWidth}
use Rattle.stim_report.specs.declared.shape.Shape.{Shape}
use Rattle.wave_text.specs.Parts.{last_of, moments_before_last}
use Rattle.wave_text.specs.Waves.{edge, edges, flag, known, last_levels, levels, numbered, of_rule, variables}
use Rattle.wave_text.specs.declared.level.Level.{Level}
use Rattle.wave_text.specs.declared.level.Level.TheVariants.{Unknown}
use Rattle.wave_text.specs.declared.variable.VariableKind.{VariableKind}
use Rattle.wave_text.specs.declared.variable.VariableKind.TheVariants.{Input, Register, Rule}
use Rattle.wave_text.specs.declared.variable.Variable.{Variable}
use Rattle.wave_text.proofs.Turns.{turned}

-- ---- how many there are

pub length_numbered : (kind : VariableKind) (number : ℕ) (named : List NameWidth) → length (numbered kind number named) ≡ length named
length_numbered kind number [] = refl
length_numbered kind number (one ∷ more) = ap suc (length_numbered kind (number + 1) more)

pub length_variables : (shape : Shape) → length (variables shape) ≡ length shape.inputs + length shape.registers + length shape.rules
length_variables shape =
    length-append (numbered Input 0 shape.inputs ++ numbered Register 0 shape.registers) (numbered Rule 0 (map of_rule shape.rules))
    ∙ ap₂ (λ (a b : ℕ). a + b)
    (length-append (numbered Input 0 shape.inputs) (numbered Register 0 shape.registers) ∙ ap₂ (λ (a b : ℕ). a + b) (length_numbered Input 0 shape.inputs) (length_numbered Register 0 shape.registers))
    (length_numbered Rule 0 (map of_rule shape.rules) ∙ length-map shape.rules of_rule)

pub length_levels : (inputs regs : List BitVector) (fired : List Bool) → length (levels inputs regs fired) ≡ length inputs + length regs + length fired
length_levels inputs regs fired =
    length-append (map known inputs ++ map known regs) (map flag fired)
    ∙ ap₂ (λ (a b : ℕ). a + b)
    (length-append (map known inputs) (map known regs) ∙ ap₂ (λ (a b : ℕ). a + b) (length-map inputs known) (length-map regs known))
    (length-map fired flag)

pub length_last_levels : (shape : Shape) (regs : List BitVector) → length regs ≡ length shape.registers → length (last_levels shape regs) ≡ length (variables shape)
length_last_levels shape regs count =
    length-append (replicate (length shape.inputs) Unknown ++ map known regs) (replicate (length shape.rules) Unknown)
    ∙ ap₂ (λ (a b : ℕ). a + b)
    (length-append (replicate (length shape.inputs) Unknown) (map known regs) ∙ ap₂ (λ (a b : ℕ). a + b) (length-replicate (length shape.inputs) Unknown) (length-map regs known ∙ count))
    (length-replicate (length shape.rules) Unknown)
    ∙ sym (length_variables shape)

-- values that are equal one by one
pub same_levels : (inputs ins regs rs : List BitVector) (fired fs : List Bool) → inputs ≡ ins → regs ≡ rs → fired ≡ fs → levels inputs regs fired ≡ levels ins rs fs
same_levels inputs ins regs rs fired fs one two three =
    ap (λ (x : List BitVector). levels x regs fired) one ∙ ap₂ (λ (x : List BitVector) (y : List Bool). levels ins x y) two three

pub same_edge : (vs ws : List Variable) (cycle : ℕ) (before b now n : List Level) → vs ≡ ws → before ≡ b → now ≡ n → edge vs cycle before now ≡ edge ws cycle b n
same_edge vs ws cycle before b now n one two three =
    ap (λ (x : List Variable). edge x cycle before now) one ∙ ap₂ (λ (x y : List Level). edge ws cycle x y) two three

-- ---- rows that fit

-- what holds of all that is left holds of the next
pub next_fits : {X : Type 0} (P : X → Type 0) (xs : List X) (i : ℕ) (x : X) → i < length xs → x ≡ get_or xs i x → AllByRecursion P (drop i xs) → P x
next_fits P xs i x h is all = subst P (sym is) (subst (AllByRecursion P) (drop_more xs i x h) all).0

pub rest_fits : {X : Type 0} (P : X → Type 0) (xs : List X) (i : ℕ) (x : X) → i < length xs → AllByRecursion P (drop i xs) → AllByRecursion P (drop (i + 1) xs)
rest_fits P xs i x h all = (subst (AllByRecursion P) (drop_more xs i x h) all).1

-- there is a value for each variable
pub count_levels : (shape : Shape) (widths : List ℕ) (inputs : List BitVector) (rows : List Row) (i : ℕ) (row next : Row) → i + 1 < length rows → row ≡ get_or rows i row → next ≡ get_or rows (i + 1) next
    → RowsMatch shape (drop i rows) → widths ≡ widths_of shape.inputs → HaveWidths widths inputs → (now : List Level) → now ≡ levels inputs row.regs next.fired → length now ≡ length (variables shape)
count_levels shape widths inputs rows i row next h row_is next_is fit are have now is =
    let P = RowMatches shape.registers shape.rules in
    let some : i < length rows = omega (arith, h) in
    let first : P row = next_fits P rows i row some row_is fit in
    let second : P next = next_fits P rows (i + 1) next h next_is (rest_fits P rows i row some fit) in
    ap length is ∙ length_levels inputs row.regs next.fired
    ∙ ap₂ (λ (a b : ℕ). a + b)
    (ap₂ (λ (a b : ℕ). a + b)
    (have.count ∙ ap length are ∙ length-map shape.inputs (λ (one : NameWidth). one.width))
    (first.values.count ∙ length-map shape.registers (λ (one : NameWidth). one.width)))
    second.flags
    ∙ sym (length_variables shape)

-- ---- edges

module _ (inputs : InputsByCycle) (rows : List Row) (cycle i : ℕ) (row next : Row) (h : i + 1 < length rows) (row_is : row ≡ get_or rows i row) (next_is : next ≡ get_or rows (i + 1) next) where
  -- the values at the next edge are those of a row and the one after it
  moments_more : moments_before_last inputs (cycle + i) (drop i rows) ≡ levels (inputs (cycle + i + 1)) row.regs next.fired ∷ moments_before_last inputs (cycle + (i + 1)) (drop (i + 1) rows)
  moments_more =
      let rest : drop (i + 1) rows ≡ next ∷ drop (i + 1 + 1) rows = drop_more rows (i + 1) next h ∙ ap (λ (r : Row). r ∷ drop (i + 1 + 1) rows) (sym next_is) in
      let all : drop i rows ≡ row ∷ drop (i + 1) rows = drop_more rows i row (omega (arith, h)) ∙ ap (λ (r : Row). r ∷ drop (i + 1) rows) (sym row_is) in
      let e : cycle + i + 1 ≡ cycle + (i + 1) = omega arith in
      ap (moments_before_last inputs (cycle + i)) (all ∙ ap (λ (rs : List Row). row ∷ rs) rest)
      ∙ ap (λ (rs : List Row). levels (inputs (cycle + i + 1)) row.regs next.fired ∷ moments_before_last inputs (cycle + i + 1) rs) (sym rest)
      ∙ ap (λ (n : ℕ). levels (inputs (cycle + i + 1)) row.regs next.fired ∷ moments_before_last inputs n (drop (i + 1) rows)) e

  module _ (last now : List Level) (is : now ≡ levels (inputs (cycle + i + 1)) row.regs next.fired) where
    next_moments : moments_before_last inputs (cycle + i) (drop i rows) ≡ now ∷ moments_before_last inputs (cycle + (i + 1)) (drop (i + 1) rows)
    next_moments = moments_more ∙ ap (λ (l : List Level). l ∷ moments_before_last inputs (cycle + (i + 1)) (drop (i + 1) rows)) (sym is)

    -- what is written next is that edge
    pub edge_written : (vs : List Variable) (whole text more : List ℕ)
        → text ++ edges vs (cycle + i) last (moments_before_last inputs (cycle + i) (drop i rows)) ≡ whole → more ≡ text ++ edge vs (cycle + i) last now
        → more ++ edges vs (cycle + (i + 1)) now (moments_before_last inputs (cycle + (i + 1)) (drop (i + 1) rows)) ≡ whole
    edge_written vs whole text more left written =
        let e : cycle + i + 1 ≡ cycle + (i + 1) = omega arith in
        let rest = moments_before_last inputs (cycle + (i + 1)) (drop (i + 1) rows) in
        turned whole text more (edges vs (cycle + i) last (moments_before_last inputs (cycle + i) (drop i rows))) (edge vs (cycle + i) last now) (edges vs (cycle + (i + 1)) now rest)
        left (ap (edges vs (cycle + i) last) next_moments ∙ ap (λ (n : ℕ). edge vs (cycle + i) last now ++ edges vs n now rest) e) written

    -- and its values are the last so far
    pub last_more : (whole : List Level) → last_of last (moments_before_last inputs (cycle + i) (drop i rows)) ≡ whole
        → last_of now (moments_before_last inputs (cycle + (i + 1)) (drop (i + 1) rows)) ≡ whole
    last_more whole is_last = sym (ap (last_of last) next_moments) ∙ is_last

-- with the last row no edge is left
no_moments : (inputs : InputsByCycle) (cycle : ℕ) (rows : List Row) → length rows ≤ 1 → moments_before_last inputs cycle rows ≡ []
no_moments inputs cycle [] few = refl
no_moments inputs cycle (row ∷ []) few = refl
no_moments inputs cycle (row ∷ next ∷ rows) few = absurd (omega (arith, few))

pub none_left : (inputs : InputsByCycle) (cycle : ℕ) (rows : List Row) (i : ℕ) → length rows ≤ i + 1 → moments_before_last inputs cycle (drop i rows) ≡ []
none_left inputs cycle rows i few = no_moments inputs cycle (drop i rows) (omega (arith, few, length_drop_i))
  where
    length_drop_i : length (drop i rows) ≡ length rows - i
    length_drop_i = length-drop i rows
