-- The lines that a loop picks out: their ids, the first of them, and the values of ids.
use Rattle.std.proofs.Common.{◌≡◌, ◌≢◌, ◌==◌, ⊎_elim, ℕ, suc, arith, ◌+◌, ◌<◌, nat_eq, Bool, true, false, ◌&&◌, cond, filter, List, [], ◌∷◌, ◌++◌, length, get_or, take, drop, map, Option, Some, refl, sym, ap, ◌∙◌, append-nil}
use Rattle.std.proofs.Math.Path.{fun_ext}
use Rattle.std.proofs.lemmas.List.{drop-drop, drop_more, map-append, take_more}
use Rattle.std.proofs.lemmas.List.Elements.{filter-append}
use Rattle.std.proofs.lemmas.Bool.Decides.{eqb_tells}
use Rattle.std.specs.List.{find, zip}
use Rattle.std.specs.Map.{lookup}
use Rattle.std.specs.Option.{option_map, unwrap_or}
use Rattle.kw_bits.specs.BitVector.{BitVector}
use Rattle.one_rule.specs.Run.{InputsByCycle}
use Rattle.one_rule.specs.declared.rows.Row.{Row}
use Rattle.btor2_text.specs.declared.line.Line.{Line}
use Rattle.btor2_model.specs.Rules.{is_input, is_output, rule_of}
use Rattle.btor2_model.specs.Run.{Values, ids_of, input_values, lines_by_rule, next_values, no_bits, row_behind, rows_behind, states_at, value_set, values_in, width_in}
use Rattle.btor2_model.specs.Scope.{id_at}
use Rattle.btor2_model.specs.inner.SlowRun.{sets}
use Rattle.btor2_model.specs.declared.rule.FormRule.{FormRule}

more-lines : (lines : List Line) (place : ℕ) (line : Line) → place < length lines → line ≡ get_or lines place line → take (place + 1) lines ≡ take place lines ++ line ∷ []
more-lines lines place line within is = take_more lines place line within ∙ ap (λ l. take place lines ++ l ∷ []) (sym is)

ids-more : (test : FormRule → Bool) (lines : List Line) (place : ℕ) (line : Line) (passes : Bool) → place < length lines → line ≡ get_or lines place line → test (rule_of line.keyword) ≡ passes
    → ids_of test (take (place + 1) lines) ≡ ids_of test (take place lines) ++ map (λ (l : Line). l.id) (cond passes (line ∷ []) [])
ids-more test lines place line passes within is tells =
    ap (ids_of test) (more-lines lines place line within is) ∙ ap (map (λ (l : Line). l.id)) (filter-append (λ (l : Line). test (rule_of l.keyword)) (take place lines) (line ∷ []))
    ∙ map-append (λ (l : Line). l.id) (lines_by_rule test (take place lines)) (lines_by_rule test (line ∷ []))
    ∙ ap (λ (b : Bool). ids_of test (take place lines) ++ map (λ (l : Line). l.id) (cond b (line ∷ []) [])) tells

-- the id of one more line that passes
pub ids-with : (test : FormRule → Bool) (lines : List Line) (place : ℕ) (line : Line) (ids : List ℕ) → place < length lines → line ≡ get_or lines place line → test (rule_of line.keyword) ≡ true → ids ≡ ids_of test (take place lines)
    → ids ++ line.id ∷ [] ≡ ids_of test (take (place + 1) lines)
ids-with test lines place line ids within is tells so_far = ap (λ (k : List ℕ). k ++ line.id ∷ []) so_far ∙ sym (ids-more test lines place line true within is tells)

-- and none of one that doesn't
pub ids-without : (test : FormRule → Bool) (lines : List Line) (place : ℕ) (line : Line) (ids : List ℕ) → place < length lines → line ≡ get_or lines place line → test (rule_of line.keyword) ≡ false → ids ≡ ids_of test (take place lines)
    → ids ≡ ids_of test (take (place + 1) lines)
ids-without test lines place line ids within is tells so_far = so_far ∙ sym (ids-more test lines place line false within is tells ∙ append-nil (ids_of test (take place lines)))

one-flag : (narrow : ℕ → Bool) (line : Line) (passes one : Bool) → narrow (id_at line.arguments 0) ≡ one
    → filter narrow (map (λ (l : Line). id_at l.arguments 0) (cond passes (line ∷ []) [])) ≡ cond (passes && one) (id_at line.arguments 0 ∷ []) []
one-flag narrow line true one tells = ap (λ (b : Bool). cond b (id_at line.arguments 0 ∷ []) []) tells
one-flag narrow line false one tells = refl

-- what one more line adds to the ids that outputs name and that pass
pub flags-more : (test : FormRule → Bool) (narrow : ℕ → Bool) (lines : List Line) (place : ℕ) (line : Line) → place < length lines → line ≡ get_or lines place line
    → filter narrow (map (λ (l : Line). id_at l.arguments 0) (lines_by_rule test (take (place + 1) lines)))
    ≡ filter narrow (map (λ (l : Line). id_at l.arguments 0) (lines_by_rule test (take place lines))) ++ cond (test (rule_of line.keyword) && narrow (id_at line.arguments 0)) (id_at line.arguments 0 ∷ []) []
flags-more test narrow lines place line within is =
    let named = λ (ls : List Line). map (λ (l : Line). id_at l.arguments 0) ls in
    let before = lines_by_rule test (take place lines) in
    let last = lines_by_rule test (line ∷ []) in
    ap (λ (ls : List Line). filter narrow (named (lines_by_rule test ls))) (more-lines lines place line within is)
    ∙ ap (λ (ls : List Line). filter narrow (named ls)) (filter-append (λ (l : Line). test (rule_of l.keyword)) (take place lines) (line ∷ []))
    ∙ ap (filter narrow) (map-append (λ (l : Line). id_at l.arguments 0) before last) ∙ filter-append narrow (named before) (named last)
    ∙ ap (λ (ids : List ℕ). filter narrow (named before) ++ ids) (one-flag narrow line (test (rule_of line.keyword)) (narrow (id_at line.arguments 0)) refl)

-- the ids that outputs of one bit name, one line on
pub flags-next : (lines : List Line) (place : ℕ) (line : Line) (flag : Bool) (ids : List ℕ) → place < length lines → line ≡ get_or lines place line
    → (is_output (rule_of line.keyword) && (width_in lines (id_at line.arguments 0) == 1)) ≡ flag
    → ids ≡ filter (λ id. width_in lines id == 1) (map (λ (l : Line). id_at l.arguments 0) (lines_by_rule is_output (take place lines)))
    → ids ++ cond flag (id_at line.arguments 0 ∷ []) [] ≡ filter (λ id. width_in lines id == 1) (map (λ (l : Line). id_at l.arguments 0) (lines_by_rule is_output (take (place + 1) lines)))
flags-next lines place line flag ids within is tells so_far =
    let narrow = λ (id : ℕ). width_in lines id == 1 in
    let before = filter narrow (map (λ (l : Line). id_at l.arguments 0) (lines_by_rule is_output (take place lines))) in
    ap (λ (k : List ℕ). k ++ cond flag (id_at line.arguments 0 ∷ []) []) so_far ∙ ap (λ (b : Bool). before ++ cond b (id_at line.arguments 0 ∷ []) []) (sym tells)
    ∙ sym (flags-more is_output narrow lines place line within is)

find-both : (one other : Line → Bool) (line : Line) (passes : Bool) (rest found : Option Line) → found ≡ rest
    → cond passes (cond (other line) (Some line) found) rest ≡ cond (passes && other line) (Some line) rest
find-both one other line true rest found is = ap (cond (other line) (Some line)) is
find-both one other line false rest found is = refl

find-cond : (other : Line → Bool) (line : Line) (passes : Bool) (kept : List Line) → find other (cond passes (line ∷ kept) kept) ≡ cond passes (cond (other line) (Some line) (find other kept)) (find other kept)
find-cond other line true kept = refl
find-cond other line false kept = refl

-- the first of those that pass one test to pass another passes both
find-filter : (one other : Line → Bool) (lines : List Line) → find other (filter one lines) ≡ find (λ line. one line && other line) lines
find-filter one other [] = refl
find-filter one other (line ∷ lines) =
    find-cond other line (one line) (filter one lines) ∙ find-both one other line (one line) (find other (filter one lines)) (find other (filter one lines)) refl
    ∙ ap (λ (o : Option Line). cond (one line && other line) (Some line) o) (find-filter one other lines)

-- the value that the first line that sets a state gives it
pub set-by : (test : FormRule → Bool) (lines : List Line) (all : Values) (state : ℕ) (found : Option Line) → find (sets test state) lines ≡ found → value_set test lines all state ≡ option_map (λ (line : Line). all (id_at line.arguments 2)) found
set-by test lines all state found is =
    ap (option_map (λ (line : Line). all (id_at line.arguments 2))) (find-filter (λ (line : Line). test (rule_of line.keyword)) (λ (line : Line). nat_eq state (id_at line.arguments 1)) lines ∙ is)

-- the value of one more id
pub map-more : (all : Values) (ids : List ℕ) (place d : ℕ) (found : List BitVector) (value : BitVector) → place < length ids → found ≡ map all (take place ids) → all (get_or ids place d) ≡ value
    → found ++ value ∷ [] ≡ map all (take (place + 1) ids)
map-more all ids place d found value within so_far one =
    ap (λ (vs : List BitVector). vs ++ value ∷ []) so_far ∙ ap (λ (v : BitVector). map all (take place ids) ++ v ∷ []) (sym one) ∙ sym (map-append all (take place ids) (get_or ids place d ∷ []))
    ∙ ap (map all) (sym (take_more ids place d within))

-- no input is given where there are none
pub zip-nil : (ids : List ℕ) → zip {K = ℕ} {X = BitVector} ids [] ≡ []
zip-nil [] = refl
zip-nil (id ∷ ids) = refl

drop-drop-1 : (inputs : List BitVector) (place : ℕ) → drop 1 (drop place inputs) ≡ drop (place + 1) inputs
drop-drop-1 inputs place = drop-drop 1 place inputs

input-first : (id known : ℕ) (ids : List ℕ) (inputs : List BitVector) → nat_eq id known ≡ false → lookup (nat_eq id) (zip (known ∷ ids) inputs) ≡ lookup (nat_eq id) (zip ids (drop 1 inputs))
input-first id known ids [] apart = ap (lookup (nat_eq id)) (sym (zip-nil ids))
input-first id known ids (input ∷ inputs) apart = ap (λ (b : Bool). cond b (Some input) (lookup (nat_eq id) (zip ids inputs))) apart

told-apart : (a b : ℕ) → a ≢ b → nat_eq a b ≡ false
told-apart a b apart = ⊎_elim (λ same. absurd (apart same.1)) (λ others. others.0) (eqb_tells a b)

-- an input of another id isn't looked for
pub input-turn : (id : ℕ) (ids : List ℕ) (inputs : List BitVector) (place d : ℕ) → place < length ids → id ≢ get_or ids place d
    → lookup (nat_eq id) (zip (drop place ids) (drop place inputs)) ≡ lookup (nat_eq id) (zip (drop (place + 1) ids) (drop (place + 1) inputs))
input-turn id ids inputs place d within apart =
    ap (λ (ks : List ℕ). lookup (nat_eq id) (zip ks (drop place inputs))) (drop_more ids place d within) ∙ input-first id (get_or ids place d) (drop (place + 1) ids) (drop place inputs) (told-apart id (get_or ids place d) apart)
    ∙ ap (λ (vs : List BitVector). lookup (nat_eq id) (zip (drop (place + 1) ids) vs)) (drop-drop-1 inputs place)

-- where no input is given, none has a value
pub no-inputs : (lines : List Line) → input_values lines [] ≡ (λ _. no_bits)
no-inputs lines = fun_ext (λ id. ap (λ (es : List (ℕ × BitVector)). unwrap_or (lookup (nat_eq id) es) no_bits) (zip-nil (ids_of is_input lines)))

abbrev row : List BitVector → List Bool → Row
row regs fired = record { regs = regs; fired = fired }

-- rows of the same registers and flags
pub rows-alike : (regs others : List BitVector) (fired flags : List Bool) → regs ≡ others → fired ≡ flags → row regs fired ≡ row others flags
rows-alike regs others fired flags same_regs same_flags = ap (λ (rs : List BitVector). row rs fired) same_regs ∙ ap (row others) same_flags

-- the values of the states one step on, and the rows
pub states-next : (lines : List Line) (inputs : InputsByCycle) (step : ℕ) → states_at lines inputs (step + 1) ≡ next_values lines (values_in lines inputs step)
states-next lines inputs step = let more : step + 1 ≡ suc step = omega arith in ap (states_at lines inputs) more

pub rows-next : (lines : List Line) (inputs : InputsByCycle) (step : ℕ) → rows_behind lines inputs (step + 1) ≡ rows_behind lines inputs step ++ row_behind lines inputs step ∷ []
rows-next lines inputs step = let more : step + 1 ≡ suc step = omega arith in ap (rows_behind lines inputs) more
