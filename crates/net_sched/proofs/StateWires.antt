-- The wires of registers, one after another.
use Rattle.std.proofs.Common.{◌≡◌, ◌⊎◌, ℕ, ◌+◌, ◌<◌, true, false, List, [], ◌∷◌, ◌++◌, length, map, sym, ap, ◌∙◌, subst, inl, inr, arith, append-nil, Some}
use Rattle.std.specs.Prelude.{slice_get, slice_index_or}
use Rattle.std.specs.List.{list_any}
use Rattle.std.proofs.lemmas.Bool.{both_ways, cases_Bool}
use Rattle.std.proofs.lemmas.List.{get_or-map, length-map}
use Rattle.std.proofs.lemmas.List.Elements.{All-push}
use Rattle.std.proofs.lemmas.Option.{slice_get-get_or}
use Rattle.net_graph.specs.Nets.{Adds, IsNet}
use Rattle.net_graph.specs.Values.{AllRead, Reads}
use Rattle.net_graph.specs.declared.node.NetOp.{NetOp}
use Rattle.net_graph.specs.declared.node.NetOp.TheVariants.{State}
use Rattle.net_graph.proofs.Sharing.{contains_from_found, equal, found_from_contains}
use Rattle.typed_core.specs.Widths.{register_widths}
use Rattle.typed_core.specs.declared.design.Parts.{Parts}
use Rattle.typed_core.specs.declared.design.RegDecl.{RegDecl}
use Rattle.net_action.specs.Wires.{HasWire}
use Rattle.net_action.proofs.Growth.{found_more, wire_more, wire_of_op}
use Rattle.net_sched.specs.inner.Cycles.{nth}
use Rattle.net_sched.proofs.Pushing.{pushed}

-- a register of a design has a width
pub within_widths : (d : Parts) (count register : ℕ) → count ≡ length d.regs → register < count → register < length (register_widths d)
within_widths d count register is within = omega (arith, is, within, length-map d.regs (λ (decl : RegDecl). decl.width))

-- an operator is added behind the others, if at all, and reads what they read
record Added (inputs states : List ℕ) (old new : List NetOp) : Type 0 where
  nodes : List NetOp
  is : new ≡ old ++ nodes
  reads : AllRead inputs states old → AllRead inputs states new

added : (inputs states : List ℕ) (old new : List NetOp) (op : NetOp) (id : ℕ) → Adds old op id new → Reads inputs states op → Added inputs states old new
added inputs states old new op id adds reads = by (cases_Bool (list_any (equal op) old))
  where
    by : (list_any (equal op) old ≡ true) ⊎ (list_any (equal op) old ≡ false) → Added inputs states old new
    by (inl there) =
        let same = adds.shared (contains_from_found old op there) in
        record { nodes = []; is = same ∙ sym (append-nil old); reads = λ all. subst (λ (net : List NetOp). AllRead inputs states net) (sym same) all }
    by (inr absent) =
        let last = adds.last (λ there. both_ways _ absent (found_from_contains old op there)) in
        record { nodes = op ∷ []; is = last; reads = λ all. subst (λ (net : List NetOp). AllRead inputs states net) (sym last) (All-push (Reads inputs states) old op all reads) }

module _ (decls : List RegDecl) (old new : List NetOp) (wires : List ℕ) (register id : ℕ) (decl : RegDecl) (within : register < length decls) (is : decl ≡ slice_index_or decls register decl)
    (adds : Adds old (State register decl.width) id new) (net : IsNet new) (count : length wires ≡ register) where
  abbrev widths : List ℕ
  widths = map (λ (d : RegDecl). d.width) decls

  width_is : nth widths register ≡ decl.width
  width_is = get_or-map (λ (d : RegDecl). d.width) decls register decl 0 within ∙ ap (λ (d : RegDecl). d.width) (sym is)

  declared : slice_get widths register ≡ Some decl.width
  declared = slice_get-get_or widths register 0 (omega (arith, within, length-map decls (λ (d : RegDecl). d.width))) ∙ ap Some width_is

  more : (inputs : List ℕ) → Added inputs widths old new
  more inputs = added inputs widths old new (State register decl.width) id adds declared

  own : slice_get new id ≡ Some (State register (nth widths register))
  own = adds.at ∙ ap (λ (w : ℕ). Some (State register w)) (sym width_is)

  pub reads_more : ((inputs : List ℕ) → AllRead inputs widths old) → (inputs : List ℕ) → AllRead inputs widths new
  reads_more all inputs = (more inputs).reads (all inputs)

  pub nodes_more : ((i : ℕ) → i < register → slice_get old (nth wires i) ≡ Some (State i (nth widths i))) → (i : ℕ) → i < register + 1 → slice_get new (nth (wires ++ id ∷ []) i) ≡ Some (State i (nth widths i))
  nodes_more each =
      let m = more [] in
      pushed (λ i w. slice_get new w ≡ Some (State i (nth widths i))) wires id register count
      (λ i h. subst (λ (n : List NetOp). slice_get n (nth wires i) ≡ Some (State i (nth widths i))) (sym m.is) (found_more old m.nodes (nth wires i) (State i (nth widths i)) (each i h))) own

  pub wires_more : ((i : ℕ) → i < register → HasWire old (nth wires i) (nth widths i)) → (i : ℕ) → i < register + 1 → HasWire new (nth (wires ++ id ∷ []) i) (nth widths i)
  wires_more each =
      let m = more [] in
      pushed (λ i w. HasWire new w (nth widths i)) wires id register count
      (λ i h. subst (λ (n : List NetOp). HasWire n (nth wires i) (nth widths i)) (sym m.is) (wire_more old m.nodes (nth wires i) (nth widths i) (each i h)))
      (wire_of_op new id (State register (nth widths register)) net own)
