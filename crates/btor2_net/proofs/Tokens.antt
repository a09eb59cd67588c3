-- The names of a text's lines are tokens.
use Rattle.std.proofs.Common.{◌≡◌, ⊎_elim, ℕ, zero, suc, ◌<◌, ◌^◌, Bool, true, false, cond, List, [], ◌∷◌, Option, None, Some, get_or, map, refl, sym, ap, ◌∙◌, subst, arith, lit≤, eqb, All}
use Rattle.std.specs.Prelude.{decimal, slice_get}
use Rattle.std.specs.Char.{digit_value}
use Rattle.std.specs.List.{list_all}
use Rattle.std.specs.Option.{option_map, option_to_list}
use Rattle.std.specs.Str.Parse.{AllDigits}
use Rattle.std.proofs.lemmas.Bool.Decides.{eqb_tells}
use Rattle.std.proofs.lemmas.Option.{slice_get-get_or, slice_get-map}
use Rattle.std.proofs.lemmas.Fmt.{decimal_is_IsNumeral}
use Rattle.btor2_text.specs.Printable.{ArePrintable, AreTokens, IsPlainToken, is_plain}
use Rattle.btor2_text.specs.declared.line.Line.{Line}
use Rattle.btor2_text.proofs.RoundTrip.{plain_digits}
use Rattle.btor2_model.specs.Rules.{is_input, is_output, is_state, rule_of}
use Rattle.btor2_model.specs.Run.{lines_by_rule}
use Rattle.btor2_model.specs.declared.rule.FormRule.{FormRule}
use Rattle.circuit_eval.specs.declared.circuit.InputWire.{InputWire}
use Rattle.circuit_eval.specs.declared.circuit.OutputWire.{OutputWire}
use Rattle.circuit_eval.specs.declared.circuit.StateWire.{StateWire}
use Rattle.circuit_eval.specs.declared.circuit.Wires.{Wires}
use Rattle.btor2_net.specs.Translations.{HasLines, HasTokens, line_name, names_of}

-- `n` and an id
own-name : (id : ℕ) → id < 2 ^ 64 → IsPlainToken (110 ∷ decimal id)
own-name id small = record { some_byte = omega arith; plain = plain_digits 10 (lit≤ tt) (decimal id) (decimal_is_IsNumeral id small).0.1 }

name-by : (id : ℕ) (symbol : Option (List ℕ)) (line : Line) → id < 2 ^ 64 → AreTokens (option_to_list symbol) → IsPlainToken (line_name (record line { id = id; symbol = symbol }))
name-by id (Some name) line small are = are.0
name-by id None line small are = own-name id small

-- the names of lines
line-name : (line : Line) → line.id < 2 ^ 64 → AreTokens (option_to_list line.symbol) → IsPlainToken (line_name line)
line-name line small are = name-by line.id line.symbol line small are

abbrev AllTokens : List (List ℕ) → Type 0
AllTokens names = (k : ℕ) (name : List ℕ) → slice_get names k ≡ Some name → IsPlainToken name

one-more : (name : List ℕ) (names : List (List ℕ)) → IsPlainToken name → AllTokens names → AllTokens (name ∷ names)
one-more name names one all zero other at = let same : name ≡ other = cc in subst IsPlainToken same one
one-more name names one all (suc k) other at = all k other at

names-tokens : (test : FormRule → Bool) (lines : List Line) → ArePrintable lines → AllTokens (names_of test lines)
names-tokens test [] are = λ k name at. absurd (cc)
names-tokens test (line ∷ lines) are = by (test (rule_of line.keyword)) refl (names-tokens test lines are.1)
  where
    by : (b : Bool) → test (rule_of line.keyword) ≡ b → AllTokens (names_of test lines) → AllTokens (names_of test (line ∷ lines))
    by true is rest =
        subst AllTokens (sym (ap (λ (b : Bool). map line_name (cond b (line ∷ lines_by_rule test lines) (lines_by_rule test lines))) is))
        (one-more (line_name line) (names_of test lines) (line-name line are.0.id.1 are.0.symbol) rest)
    by false is rest = subst AllTokens (sym (ap (λ (b : Bool). map line_name (cond b (line ∷ lines_by_rule test lines) (lines_by_rule test lines))) is)) rest

all-of : {W : Type 0} (name : W → List ℕ) (wires : List W) → AllTokens (map name wires) → All (λ (wire : W). IsPlainToken (name wire)) wires
all-of {W} name wires all k d within =
    all k (name (get_or wires k d)) (slice_get-map name wires k ∙ ap (option_map name) (slice_get-get_or wires k d within))

-- so are those of its circuit
pub has-tokens : (lines : List Line) (c : Wires) → ArePrintable lines → HasLines lines c → HasTokens c
has-tokens lines c are has = record {
  inputs = all-of (λ (wire : InputWire). wire.name) c.inputs (subst AllTokens (sym has.inputs) (names-tokens is_input lines are));
  states = all-of (λ (wire : StateWire). wire.name) c.states (subst AllTokens (sym has.states) (names-tokens is_state lines are));
  outputs = all-of (λ (wire : OutputWire). wire.name) c.outputs (subst AllTokens (sym has.outputs) (names-tokens is_output lines are));
}
