-- The inputs of a circuit on its page.
use Rattle.std.proofs.Common.{◌≡◌, ℕ, suc, ◌≤◌, Bool, false, cond, List, [], ◌∷◌, ◌++◌, Some, map, refl, sym, ap, ◌∙◌, subst, append_assoc, append-nil}
use Rattle.std.specs.Prelude.{slice_get}
use Rattle.std.proofs.lemmas.List.{map-append}
use Rattle.circuit_eval.specs.declared.circuit.InputWire.{InputWire}
use Rattle.btor2_text.specs.Printable.{IsPlainToken}
use Rattle.btor2_text.specs.declared.keyword.Keyword.TheVariants as keywords
use Rattle.btor2_text.specs.declared.kind.ArgumentKind.TheVariants as kinds
use Rattle.btor2_text.specs.declared.line.Argument.{Argument}
use Rattle.btor2_text.specs.declared.line.Argument.TheVariants as arguments
use Rattle.btor2_text.specs.declared.line.Line.{Line}
use Rattle.btor2_model.specs.Rules.{is_input}
use Rattle.btor2_model.specs.Run.{StepValues, ids_of, lines_by_rule, values_at}
use Rattle.btor2_model.specs.Scope.{width_wanted}
use Rattle.btor2_model.specs.declared.rule.FormRule.{FormRule}
use Rattle.btor2_model.specs.declared.rule.FormRule.TheVariants as forms
use Rattle.btor2_net.specs.Pages.{Draft, Page, arguments_of, line_on, sort_id, with_input, with_inputs, with_sort}
use Rattle.btor2_net.specs.Translations.{line_name}
use Rattle.btor2_net.proofs.Asking.{asked-one, four, sort-given}
use Rattle.btor2_net.proofs.Keeping.{Good, Keeps, Names, keeps-all, keeps-both, names-keep, value-keep}
use Rattle.btor2_net.proofs.WrittenLines.{HasLine, Pairs, has-line, pairs-push, pairs-weaker}

-- the id is that of an input with the wire's width
pub record IsInputOn (p : Page) (id : ℕ) (wire : InputWire) : Type 0 where
  pub named : Names kinds.Value p id wire.width
  pub value : (step : StepValues) → values_at p.lines step id ≡ step.inputs id

pub input-stays : (p q : Page) (id : ℕ) (wire : InputWire) → Keeps p q → IsInputOn p id wire → IsInputOn q id wire
input-stays p q id wire keeps on = record {
  named = names-keep kinds.Value p q id wire.width keeps on.named;
  value = λ step. value-keep kinds.Value p q step id wire.width keeps on.named ∙ on.value step;
}

-- a page that has these inputs behind another
pub record HasInputs (p : Page) (d : Draft) (wires : List InputWire) : Type 0 where
  pub good : Good d.page
  pub keeps : Keeps p d.page
  pub inputs : Pairs (IsInputOn d.page) d.ids wires
  pub ids : ids_of is_input d.page.lines ≡ d.ids
  pub names : map line_name (lines_by_rule is_input d.page.lines) ≡ map (λ (wire : InputWire). wire.name) wires
  pub same : (test : FormRule → Bool) → test forms.Sort ≡ false → test forms.Input ≡ false → lines_by_rule test d.page.lines ≡ lines_by_rule test p.lines

-- an input that can be written
pub record IsWritable (wire : InputWire) : Type 0 where
  pub some : 1 ≤ wire.width
  pub most : wire.width ≤ 128
  pub token : IsPlainToken wire.name

pub one-more : (p : Page) (d : Draft) (done : List InputWire) (wire : InputWire) → HasInputs p d done → IsWritable wire → HasInputs p (with_input d wire) (done ++ wire ∷ [])
one-more p d done wire h is =
    let w = wire.width in
    let one = with_sort d.page w in
    let given : List Argument = arguments_of (sort_id one w) [] [] in
    let line : Line = line_on one keywords.Input given (Some wire.name) in
    let next : Draft = with_input d wire in
    let l : HasLine d.page one next.page w line forms.Input (four w 0 0 0) =
    has-line d.page w keywords.Input [] [] (Some wire.name) forms.Input (four w 0 0 0) h.good is.some is.most
    (λ s. asked-one one forms.Input keywords.Input refl kinds.Sort (arguments.Id (sort_id one w)) w refl (sort-given one (sort_id one w) w s.good.sound (ap (width_wanted kinds.Sort) s.sort))
    (record { state = refl; first = refl; numeral = refl; fixed = refl }) (record { widths = refl; bounds = refl }))
    (is.token, tt) (λ is. absurd (cc)) in
    let lines : lines_by_rule is_input next.page.lines ≡ lines_by_rule is_input d.page.lines ++ line ∷ [] = l.picked is_input ∙ ap (λ (ls : List Line). ls ++ line ∷ []) (l.sorted.same is_input refl) in
    record {
      good = l.good;
      keeps = keeps-both p d.page next.page h.keeps l.keeps;
      inputs = pairs-push (IsInputOn next.page) d.ids done line.id wire (pairs-weaker (IsInputOn d.page) (IsInputOn next.page) d.ids done (λ id x on. input-stays d.page next.page id x l.keeps on) h.inputs)
          (record { named = ap (width_wanted kinds.Value) l.means; value = l.value });
      ids = ap (map (λ (l : Line). l.id)) lines ∙ map-append (λ (l : Line). l.id) (lines_by_rule is_input d.page.lines) (line ∷ []) ∙ ap (λ (ids : List ℕ). ids ++ line.id ∷ []) h.ids;
      names = ap (map line_name) lines ∙ map-append line_name (lines_by_rule is_input d.page.lines) (line ∷ []) ∙ ap (λ (names : List (List ℕ)). names ++ wire.name ∷ []) h.names
          ∙ sym (map-append (λ (w : InputWire). w.name) done (wire ∷ []));
      same = λ test no_sort no_input. l.picked test ∙ ap (λ (b : Bool). lines_by_rule test one.lines ++ cond b (line ∷ []) []) no_input ∙ append-nil (lines_by_rule test one.lines) ∙ l.sorted.same test no_sort
          ∙ h.same test no_sort no_input;
    }

pub has-inputs : (p : Page) (d : Draft) (done wires : List InputWire) → HasInputs p d done → ((k : ℕ) (wire : InputWire) → slice_get wires k ≡ Some wire → IsWritable wire) → HasInputs p (with_inputs d wires) (done ++ wires)
has-inputs p d done [] h writable = subst (HasInputs p d) (sym (append-nil done)) h
has-inputs p d done (wire ∷ wires) h writable =
    subst (HasInputs p (with_inputs (with_input d wire) wires)) (append_assoc done (wire ∷ []) wires)
    (has-inputs p (with_input d wire) (done ++ wire ∷ []) wires (one-more p d done wire h (writable 0 wire refl)) (λ k w at. writable (suc k) w at))

-- no inputs
pub no-inputs : (p : Page) → Good p → lines_by_rule is_input p.lines ≡ [] → HasInputs p (record { page = p; ids = [] }) []
no-inputs p g none = record {
  good = g;
  keeps = keeps-all p;
  inputs = tt;
  ids = ap (map (λ (l : Line). l.id)) none;
  names = ap (map line_name) none;
  same = λ test no_sort no_input. refl;
}
