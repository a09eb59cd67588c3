-- What the parts of a source tell of the run that it spells.
use Rattle.std.proofs.Common.{◌≡◌, ℕ, ◌≤◌, inr, length, List, [], ◌∷◌, map, Result, Ok, Err, refl, sym, ap, subst, ◌∙◌}
use Rattle.std.specs.List.{AllByRecursion}
use Rattle.std.proofs.lemmas.List.Elements.{All-from_recursion, recursion_from_All}
use Rattle.kw_base.specs.Fault.{IfFault, fault_at}
use Rattle.kw_base.specs.Place.{place_at}
use Rattle.kw_base.specs.declared.fault.Fault.{Fault}
use Rattle.kw_base.specs.declared.fault.Refusal.{Refusal}
use Rattle.kw_base.specs.declared.fault.Refusal.TheVariants as refusals
use Rattle.kw_bits.specs.BitVector.{BitVector}
use Rattle.one_rule.specs.Stimulus.{InputVectors}
use Rattle.std.specs.Prelude.{All, IfOk}
use Rattle.koika_check.specs.Typing.{IsInput, IsTypedDesign}
use Rattle.koika_check.specs.declared.checked.Checked.{Checked}
use Rattle.koika_check.specs.declared.checked.Input.{Input}
use Rattle.typed_core.specs.Valid.{IsWidth}
use Rattle.koika_lower.specs.Lowering.{typed_input_widths}
use Rattle.front_end.specs.Sources.{IsIllTyped, IsUnread, SpellsDesign, SpellsTree, design_part, longest_source, of_input, shape_of, stimulus_in}
use Rattle.kw_bits.specs.declared.host.HostSpec.{HostSpec}
use Rattle.koika_syntax.specs.Grammar.{Derives, tree_leaves}
use Rattle.koika_syntax.specs.Tokens.{AreTokensOf}
use Rattle.koika_syntax.specs.declared.token.Token.{Token}
use Rattle.koika_syntax.specs.declared.tree.Tree.{Tree}
use Rattle.koika_parse.specs.Brackets.{AreFewOpen}
use Rattle.koika_parse.specs.Faults.{StandsBetween}
use Rattle.koika_check.specs.Checks.{checked}
use Rattle.koika_check.specs.Outcomes.{Fails, Gives}
use Rattle.koika_check.specs.declared.stop.Wrong.{Wrong}
use Rattle.kw_base.specs.Texts.{lines_of}
use Rattle.stim_report.specs.Cuts.{parts_of}
use Rattle.stim_report.specs.Shapes.{widths_of}
use Rattle.stim_report.specs.Stimuli.{after, cycles_from, stimulus_of}
use Rattle.stim_report.specs.declared.shape.Shape.{Shape}

-- a fault of a part is one of the whole
pub fault-of-part : (P Q : Fault → Type 0) (e : Refusal) → ((fault : Fault) → P fault → Q fault) → IfFault {X = Unit {0}} (Err e) P → IfFault {X = Unit {0}} (Err e) Q
fault-of-part P Q (refusals.Fault fault) f h = f fault h
fault-of-part P Q refusals.NoMemory f h = tt

-- what is said of a fault holds of the fault that was answered
pub fault-in : (P : Fault → Type 0) (e : Refusal) (fault : Fault) → e ≡ refusals.Fault fault → IfFault {X = Unit {0}} (Err e) P → P fault
fault-in P (refusals.Fault other) fault e h = let same : other ≡ fault = cc in subst P same h
fault-in P refusals.NoMemory fault e h = absurd cc

widths-after : (shape : Shape) (cycles : Result (List (List BitVector)) Fault) (stimulus : InputVectors)
    → after cycles (λ (cycles : List (List BitVector)). Ok (record { widths = widths_of shape.inputs; cycles = cycles })) ≡ Ok stimulus → stimulus.widths ≡ widths_of shape.inputs
widths-after shape (Ok cycles) stimulus e = sym cc
widths-after shape (Err fault) stimulus e = absurd cc

-- a stimulus has the widths of the shape's inputs
pub stimulus-widths : (shape : Shape) (line : ℕ) (text : List ℕ) (stimulus : InputVectors) → stimulus_of shape line text ≡ Ok stimulus → stimulus.widths ≡ widths_of shape.inputs
unfolding stimulus_of
stimulus-widths shape line text stimulus e = widths-after shape (cycles_from shape.inputs line (lines_of text)) stimulus e

widths-named : (inputs : List Input) → widths_of (map of_input inputs) ≡ map (λ (i : Input). i.width) inputs
widths-named [] = refl
widths-named (i ∷ inputs) = ap (λ (widths : List ℕ). i.width ∷ widths) (widths-named inputs)

-- and these are the widths of a design's inputs
pub stimulus-fits : (d : Checked) (shape : Shape) (line : ℕ) (text : List ℕ) (stimulus : InputVectors) → shape ≡ shape_of d → stimulus_of shape line text ≡ Ok stimulus → stimulus.widths ≡ typed_input_widths d
stimulus-fits d shape line text stimulus is e =
    stimulus-widths shape line text stimulus e ∙ ap (λ (s : Shape). widths_of s.inputs) is ∙ widths-named d.inputs

-- they are valid
valid-each : (d : Checked) (inputs : List Input) → All (IsInput d) inputs → All IsWidth (widths_of (map of_input inputs))
valid-each d inputs all = All-from_recursion IsWidth (widths_of (map of_input inputs)) (each inputs (recursion_from_All (IsInput d) inputs all))
  where
    each : (inputs : List Input) → AllByRecursion (IsInput d) inputs → AllByRecursion IsWidth (widths_of (map of_input inputs))
    each [] all = tt
    each (i ∷ inputs) all = (subst IsWidth (sym all.0.width) all.0.of, each inputs all.1)

pub widths-valid : (d : Checked) (shape : Shape) → IsTypedDesign d → shape ≡ shape_of d → All IsWidth (widths_of shape.inputs)
widths-valid d shape typed is = subst (λ (s : Shape). All IsWidth (widths_of s.inputs)) (sym is) (valid-each d d.inputs typed.inputs)

-- ---- what the readers of a source found

-- a tree that the parser found is the source's
pub spelled-by : (source text : List ℕ) (tokens read : List Token) → length source ≤ longest_source → text ≡ design_part source → AreTokensOf tokens text → read ≡ tokens → (r : Result Tree Refusal)
    → IfOk r (λ t. Derives text t read) → IfOk r (λ t. AreFewOpen 0 (tree_leaves t)) → IfOk r (SpellsTree source)
spelled-by source text tokens read short is are same (Ok t) derived few = record {
  short = short;
  tokens = tokens;
  are = subst (AreTokensOf tokens) is are;
  derived = subst (λ x. Derives x t tokens) is (subst (Derives text t) same derived);
  few = few;
}
spelled-by source text tokens read short is are same (Err e) derived few = tt

-- and its fault is one of the grammar
pub unread-by : (source text : List ℕ) (tokens read : List Token) → length source ≤ longest_source → text ≡ design_part source → AreTokensOf tokens text → read ≡ tokens → (r : Result Tree Refusal)
    → IfFault r (StandsBetween text read) → IfFault r (IsUnread source)
unread-by source text tokens read short is are same (Ok t) fault = tt
unread-by source text tokens read short is are same (Err (refusals.Fault f)) fault =
    inr (short, (tokens, subst (AreTokensOf tokens) is are, subst (λ x. StandsBetween x tokens f) is (subst (λ ts. StandsBetween text ts f) same fault)))
unread-by source text tokens read short is are same (Err refusals.NoMemory) fault = tt

-- a typed design that the checker found is the source's
pub typed-by : (hosts : List HostSpec) (source : List ℕ) (tree : Tree) → SpellsTree source tree → (r : Result Checked Refusal) → IfOk r (λ d. checked hosts tree ≡ Gives d) → IfOk r (SpellsDesign hosts source)
typed-by hosts source tree spelled (Ok d) gives = record { tree = tree; spelled = spelled; typed = gives }
typed-by hosts source tree spelled (Err e) gives = tt

-- and its fault is one of names, types or limits
pub ill-by : (hosts : List HostSpec) (source text : List ℕ) (tree : Tree) → text ≡ design_part source → SpellsTree source tree → (r : Result Checked Refusal)
    → IfFault r (λ fault. (wrong : Wrong) × (checked hosts tree ≡ Fails wrong) × (fault ≡ fault_at wrong.number (place_at text wrong.place))) → IfFault r (IsIllTyped hosts source)
ill-by hosts source text tree is spelled (Ok d) fault = tt
ill-by hosts source text tree is spelled (Err (refusals.Fault f)) fault =
    inr (tree, fault.0, spelled, fault.1, fault.2 ∙ ap (λ x. fault_at fault.0.number (place_at x fault.0.place)) is)
ill-by hosts source text tree is spelled (Err refusals.NoMemory) fault = tt

-- what a stimulus comes to for a design
pub stimulus-at : (source : List ℕ) (d : Checked) (shape : Shape) (line : ℕ) (text : List ℕ) (r : Result InputVectors Fault) → shape ≡ shape_of d → line ≡ (parts_of source).first_line → text ≡ (parts_of source).stimulus
    → stimulus_of shape line text ≡ r → stimulus_in source d ≡ r
stimulus-at source d shape line text r is first behind h = sym (λ i. stimulus_of (is i) (first i) (behind i)) ∙ h
