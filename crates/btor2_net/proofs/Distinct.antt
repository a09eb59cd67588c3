-- No two lines of an accepted text have one id, so each input of a step has its own value.
use Rattle.std.proofs.Common.{◌≡◌, ℕ, zero, suc, nat_eq, Bool, true, false, cond, List, [], ◌∷◌, Option, None, Some, map, refl, sym, ap, ◌∙◌, subst, arith}
use Rattle.std.specs.Prelude.{slice_get}
use Rattle.std.specs.List.{zip}
use Rattle.std.specs.Map.{lookup}
use Rattle.std.specs.Option.{option_map, unwrap_or}
use Rattle.std.proofs.lemmas.Bool.{eq-eqb, eqb-true}
use Rattle.std.proofs.lemmas.Option.{get_or_from_slice_get, slice_get-map}
use Rattle.kw_bits.specs.BitVector.{BitVector}
use Rattle.net_graph.specs.Values.{no_bits, value_at}
use Rattle.btor2_text.specs.declared.line.Line.{Line}
use Rattle.btor2_model.specs.Acceptance.{fault_in, line_fault, lines_fault}
use Rattle.btor2_model.specs.Rules.{is_input, rule_of}
use Rattle.btor2_model.specs.Run.{Values, ids_of, input_values, lines_by_rule}
use Rattle.btor2_model.specs.Scope.{DeclaredIds, behind, meaning_of, no_lines}
use Rattle.btor2_model.specs.declared.meaning.IdMeaning.{IdMeaning}
use Rattle.btor2_model.specs.declared.rule.FormRule.{FormRule}
use Rattle.btor2_model.proofs.Conditions.{meets}
use Rattle.btor2_model.proofs.Evaluation.{option_map-none, option_or-none}
use Rattle.btor2_model.proofs.Filling.{nothing-there}
use Rattle.btor2_net.specs.inner.Values.{AreGiven}

-- no id stands at two places
unfoldable pub AreDistinct : List ℕ → Type 0
AreDistinct ids = (i j id : ℕ) → slice_get ids i ≡ Some id → slice_get ids j ≡ Some id → i ≡ j

none-before : (here : Bool) (new : IdMeaning) (old : Option IdMeaning) → cond here (Some new) old ≡ None → old ≡ None
none-before true new old is = absurd (cc)
none-before false new old is = is

-- no line is declared before it
fresh-ids : (test : FormRule → Bool) (lines : List Line) (scope : DeclaredIds) (k id : ℕ) → lines_fault scope lines ≡ None → slice_get (ids_of test lines) k ≡ Some id → scope.meanings id ≡ None
fresh-ids test [] scope k id fine at = absurd (cc)
fresh-ids test (line ∷ lines) scope k id fine at =
    by (test (rule_of line.keyword)) refl
    (λ j found. none-before (nat_eq line.id id) (meaning_of scope line) (scope.meanings id)
    (fresh-ids test lines (behind scope line) j id (option_or-none (option_map (fault_in line) (line_fault scope line)) (lines_fault (behind scope line) lines) fine).1 found)) k at
  where
    each : (line_fault scope line ≡ None) × (lines_fault (behind scope line) lines ≡ None)
    each = let e = option_or-none (option_map (fault_in line) (line_fault scope line)) (lines_fault (behind scope line) lines) fine in (option_map-none (fault_in line) (line_fault scope line) e.0, e.1)

    one : ((j : ℕ) → slice_get (ids_of test lines) j ≡ Some id → scope.meanings id ≡ None) → (j : ℕ) → slice_get (line.id ∷ ids_of test lines) j ≡ Some id → scope.meanings id ≡ None
    one later zero found = let same : line.id ≡ id = cc in ap scope.meanings (sym same) ∙ nothing-there (scope.meanings line.id) (meets scope line each.0).fresh
    one later (suc j) found = later j found

    by : (b : Bool) → test (rule_of line.keyword) ≡ b → ((j : ℕ) → slice_get (ids_of test lines) j ≡ Some id → scope.meanings id ≡ None) → (j : ℕ) → slice_get (map (λ (l : Line). l.id) (cond (test (rule_of line.keyword)) (line ∷ lines_by_rule test lines) (lines_by_rule test lines))) j ≡ Some id → scope.meanings id ≡ None
    by true is later j found = one later j (sym (ap (λ (b : Bool). slice_get (map (λ (l : Line). l.id) (cond b (line ∷ lines_by_rule test lines) (lines_by_rule test lines))) j) is) ∙ found)
    by false is later j found = later j (sym (ap (λ (b : Bool). slice_get (map (λ (l : Line). l.id) (cond b (line ∷ lines_by_rule test lines) (lines_by_rule test lines))) j) is) ∙ found)

pub ids-distinct : (test : FormRule → Bool) (lines : List Line) (scope : DeclaredIds) → lines_fault scope lines ≡ None → AreDistinct (ids_of test lines)
unfolding AreDistinct
ids-distinct test [] scope fine = λ i j id one other. absurd (cc)
ids-distinct test (line ∷ lines) scope fine =
    subst AreDistinct (sym (both (test (rule_of line.keyword)) refl)) (by (test (rule_of line.keyword))
    (ids-distinct test lines (behind scope line) (option_or-none (option_map (fault_in line) (line_fault scope line)) (lines_fault (behind scope line) lines) fine).1))
  where
    rest : lines_fault (behind scope line) lines ≡ None
    rest = (option_or-none (option_map (fault_in line) (line_fault scope line)) (lines_fault (behind scope line) lines) fine).1

    both : (b : Bool) → test (rule_of line.keyword) ≡ b → ids_of test (line ∷ lines) ≡ cond (test (rule_of line.keyword)) (line.id ∷ ids_of test lines) (ids_of test lines)
    both true is = ap (λ (b : Bool). map (λ (l : Line). l.id) (cond b (line ∷ lines_by_rule test lines) (lines_by_rule test lines))) is ∙ sym (ap (λ (b : Bool). cond b (line.id ∷ ids_of test lines) (ids_of test lines)) is)
    both false is = ap (λ (b : Bool). map (λ (l : Line). l.id) (cond b (line ∷ lines_by_rule test lines) (lines_by_rule test lines))) is ∙ sym (ap (λ (b : Bool). cond b (line.id ∷ ids_of test lines) (ids_of test lines)) is)

    again : {P : Type 0} (j : ℕ) → slice_get (ids_of test lines) j ≡ Some line.id → P
    again {P} j found =
        let none : (behind scope line).meanings line.id ≡ None = fresh-ids test lines (behind scope line) j line.id rest found in
        let some : (behind scope line).meanings line.id ≡ Some (meaning_of scope line) = ap (λ (b : Bool). cond b (Some (meaning_of scope line)) (scope.meanings line.id)) (eq-eqb line.id line.id refl) in
        absurd (cc)

    grow : AreDistinct (ids_of test lines) → (i j id : ℕ) → slice_get (line.id ∷ ids_of test lines) i ≡ Some id → slice_get (line.id ∷ ids_of test lines) j ≡ Some id → i ≡ j
    grow more zero zero id one other = refl
    grow more zero (suc j) id one other = let same : id ≡ line.id = cc in again j (other ∙ ap Some same)
    grow more (suc i) zero id one other = let same : id ≡ line.id = cc in again i (one ∙ ap Some same)
    grow more (suc i) (suc j) id one other = ap suc (more i j id one other)

    by : (b : Bool) → AreDistinct (ids_of test lines) → AreDistinct (cond b (line.id ∷ ids_of test lines) (ids_of test lines))
    by true more = grow more
    by false more = more

-- what an id among distinct ones is paired with
paired : (ids : List ℕ) (given : List BitVector) (place id : ℕ) → AreDistinct ids → slice_get ids place ≡ Some id → unwrap_or (lookup (nat_eq id) (zip ids given)) no_bits ≡ value_at given place
unfolding AreDistinct
paired [] given place id distinct at = absurd (cc)
paired (x ∷ ids) [] place id distinct at = refl
paired (x ∷ ids) (v ∷ given) zero id distinct at =
    let same : id ≡ x = cc in ap (λ (b : Bool). unwrap_or (cond b (Some v) (lookup (nat_eq id) (zip ids given))) no_bits) (eq-eqb id x same)
paired (x ∷ ids) (v ∷ given) (suc place) id distinct at =
    by (nat_eq id x) refl (paired ids given place id (λ i j k one other. let s : suc i ≡ suc j = distinct (suc i) (suc j) k one other in omega arith) at)
  where
    by : (b : Bool) → nat_eq id x ≡ b → unwrap_or (lookup (nat_eq id) (zip ids given)) no_bits ≡ value_at given place → unwrap_or (cond (nat_eq id x) (Some v) (lookup (nat_eq id) (zip ids given))) no_bits ≡ value_at given place
    by true is more = let zero_is : 0 ≡ suc place = distinct 0 (suc place) id (ap Some (sym (eqb-true id x is))) at in absurd (omega arith)
    by false is more = ap (λ (b : Bool). unwrap_or (cond b (Some v) (lookup (nat_eq id) (zip ids given))) no_bits) is ∙ more

-- the inputs of a step are the values that are given, in order
pub inputs-given : (lines : List Line) (given : List BitVector) → lines_fault no_lines lines ≡ None → AreGiven (ids_of is_input lines) (input_values lines given) given
inputs-given lines given fine place id at = paired (ids_of is_input lines) given place id (ids-distinct is_input lines no_lines fine) at

-- values that were taken in order
pub states-given : (ids : List ℕ) (values : Values) → AreGiven ids values (map values ids)
states-given ids values place id at = sym (get_or_from_slice_get (map values ids) place (values id) no_bits (slice_get-map values ids place ∙ ap (option_map values) at))
