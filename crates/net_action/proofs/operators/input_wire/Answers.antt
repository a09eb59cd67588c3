use Rattle.std.proofs.Common.{◌≡◌, ℕ, ◌<◌, List, length, map, refl, sym, subst, ◌∙◌, arith}
use Rattle.std.specs.Prelude.{slice_get, slice_index_or, Some}
use Rattle.std.proofs.lemmas.Option.{slice_get-map, slice_get_read, slice_get_within}
use Rattle.std.proofs.lemmas.List.{length-map}
use Rattle.typed_core.specs.Widths.{input_widths}
use Rattle.typed_core.specs.declared.design.InputDecl.{InputDecl}
use Rattle.typed_core.specs.declared.design.Parts.{Parts}
use Rattle.net_action.specs.Wires.{HasWire}
use Rattle.net_action.proofs.operators.input_wire.Goals as goal

found : (decls : List InputDecl) (input : ℕ) (decl : InputDecl) → input < length decls → decl ≡ slice_index_or decls input decl → slice_get (map (λ (d : InputDecl). d.width) decls) input ≡ Some decl.width
found decls input decl within is = slice_get-map (λ (d : InputDecl). d.width) decls input ∙ rw (slice_get_read decls (length decls) input decl refl within is) refl

inside : (decls : List InputDecl) (input width : ℕ) → slice_get (map (λ (d : InputDecl). d.width) decls) input ≡ Some width → input < length decls
inside decls input width h = omega (arith, slice_get_within (map (λ (d : InputDecl). d.width) decls) input width h, length-map decls (λ (d : InputDecl). d.width))

same_width : (a b : ℕ) → Some a ≡ Some b → a ≡ b
same_width a b e = cc

pub returns-in_err-id-clause-grows : goal.returns-in_err-id-clause-grows
returns-in_err-id-clause-grows c =
    let within = inside c.design.inside.inputs c.args.input c.requires.0 (subst (λ (d : Parts). slice_get (input_widths d) c.args.input ≡ Some c.requires.0) (sym c.design.view_is) c.requires.1) in
    c.added.ensures.grows (input_widths c.args.design.now) (λ states.
    subst (λ (d : Parts). slice_get (input_widths d) c.args.input ≡ Some c.get.result.now.width) c.design.view_is (found c.design.inside.inputs c.args.input c.get.result.now within c.get.ensures))

pub returns-clause-grows : goal.returns-clause-grows
returns-clause-grows c =
    let within = inside c.design.inside.inputs c.args.input c.requires.0 (subst (λ (d : Parts). slice_get (input_widths d) c.args.input ≡ Some c.requires.0) (sym c.design.view_is) c.requires.1) in
    c.added.ensures.grows (input_widths c.args.design.now) (λ states.
    subst (λ (d : Parts). slice_get (input_widths d) c.args.input ≡ Some c.get.result.now.width) c.design.view_is (found c.design.inside.inputs c.args.input c.get.result.now within c.get.ensures))

pub returns-clause-wire : goal.returns-clause-wire
returns-clause-wire c width h =
    let within = inside c.design.inside.inputs c.args.input c.requires.0 (subst (λ (d : Parts). slice_get (input_widths d) c.args.input ≡ Some c.requires.0) (sym c.design.view_is) c.requires.1) in
    let is = subst (λ (d : Parts). slice_get (input_widths d) c.args.input ≡ Some c.get.result.now.width) c.design.view_is (found c.design.inside.inputs c.args.input c.get.result.now within c.get.ensures) in
    subst (λ (w : ℕ). HasWire c.added.new.net c.in_ok-id.id w) (same_width c.get.result.now.width width (sym is ∙ h)) c.in_ok-id.ensures.wire
