-- The parts of an obligation, and its clauses as they are pushed one after another.
use Rattle.std.proofs.Common.{◌≡◌, ℕ, ◌+◌, ◌-◌, Bool, List, [], ◌∷◌, ◌++◌, length, map, flat_map, sym, ap, ap₂, subst, ◌∙◌, append-nil, arith, sum}
use Rattle.std.specs.List.{All}
use Rattle.clause_check.specs.Clauses.{Clause, Cnf}
use Rattle.clause_check.specs.declared.literal.Literal.{Literal}
use Rattle.aig_blast.specs.Aigs.{AigParts, IsAig, input_word_widths, sources, variables}
use Rattle.aig_blast.specs.Graphs.{AllStand, Below}
use Rattle.aig_blast.specs.declared.gate.Gate.{Gate}
use Rattle.invariant_check.specs.Cones.{cone_of, greatest}
use Rattle.invariant_check.specs.inner.Kept.{IsClaim}
use Rattle.invariant_check.specs.Obligations.{claimed_lits, folded, graph_obligation, literals_in, needed_in, needed_lits, next_lit, next_lits, obligation_of, top_of}
use Rattle.invariant_check.proofs.Breaking.{lits_below, nexts_long}
use Rattle.invariant_check.proofs.Cones.{length-cone}
use Rattle.invariant_check.proofs.Drafting.{flat_map-append}

module _ (a : AigParts) (invariant : List Clause) (claimed : List ℕ) (valid : IsAig a)
    (claim : IsClaim a invariant claimed) where
  pub same_sources : (inputs len : ℕ) (nexts : List ℕ) → inputs ≡ sum (input_word_widths a.inputs) → nexts
      ≡ next_lits a.latches → len ≡ length nexts → inputs + len ≡ sources a
  same_sources inputs len nexts e f g = omega (arith, e, g, ap length f, nexts_long a invariant claimed valid claim)

  pub same_lits : (claims nexts lits : List ℕ) (literals : List Literal) → claims ≡ claimed_lits a.outputs claimed
      → nexts ≡ next_lits a.latches → literals ≡ literals_in invariant
      → lits ≡ claims ++ map (next_lit nexts) literals → lits ≡ needed_lits a invariant claimed
  same_lits claims nexts lits literals e f g h =
      h ∙ ap₂ (λ (cs ns : List ℕ). cs ++ map (next_lit ns) literals) e f
      ∙ ap (λ (ls : List Literal). claimed_lits a.outputs claimed ++ map (next_lit (next_lits a.latches)) ls) g

  pub lits_stand : (sources' : ℕ) (gates : List Gate) → sources' ≡ sources a → gates ≡ a.gates → AllStand sources' gates
  lits_stand sources' gates e f = subst (λ n. AllStand n gates) (sym e)
      (subst (λ (gs : List Gate). AllStand (sources a) gs) (sym f) valid.gates)

  pub lits_are_below : (sources' : ℕ) (gates : List Gate) (lits : List ℕ) → sources' ≡ sources a → gates ≡ a.gates
      → lits ≡ needed_lits a invariant claimed → All (Below (sources' + length gates)) lits
  lits_are_below sources' gates lits e f g =
      let count : variables a ≡ sources' + length gates = omega (arith, e, ap length f) in
      subst (λ n. All (Below n) lits) count
      (subst (λ (ls : List ℕ). All (Below (variables a)) ls) (sym g) (lits_below a invariant claimed valid claim))

  pub same_needed : (sources' : ℕ) (gates : List Gate) (lits : List ℕ) (needed : List Bool) → sources' ≡ sources a
      → gates ≡ a.gates → lits ≡ needed_lits a invariant claimed
      → needed ≡ cone_of sources' gates lits → needed ≡ needed_in a invariant claimed
  same_needed sources' gates lits needed e f g h =
      h ∙ ap₂ (λ (n : ℕ) (gs : List Gate). cone_of n gs lits) e f ∙ ap (cone_of (sources a) a.gates) g

  pub needed_long : (needed : List Bool) → needed ≡ needed_in a invariant claimed → length needed ≡ 1 + variables a
  needed_long needed is = omega (arith, ap length is, length-cone (sources a) a.gates (needed_lits a invariant claimed))

  pub same_top : (needed : List Bool) (top : ℕ) → needed ≡ needed_in a invariant claimed → top
      ≡ greatest needed (length needed - 1) → top ≡ top_of a invariant claimed
  same_top needed top is e =
      let last : length needed - 1 ≡ variables a = omega (arith, needed_long needed is) in
      e ∙ ap₂ (λ (ns : List Bool) (n : ℕ). greatest ns n) is last

-- clauses that are pushed one after another
pub all_pushed : (p q r : List (List ℕ)) (last : List ℕ) (c0 c1 c2 c3 c4 : List Clause) → c0 ≡ [] → c1
    ≡ c0 ++ flat_map folded p → c2 ≡ c1 ++ flat_map folded q → c3 ≡ c2 ++ flat_map folded r
    → c4 ≡ c3 ++ folded last → c4 ≡ flat_map folded (p ++ q ++ r ++ last ∷ [])
all_pushed p q r last c0 c1 c2 c3 c4 none first second third fourth =
    let one : c1 ≡ flat_map folded p = first ∙ ap (λ (cs : List Clause). cs ++ flat_map folded p) none in
    let two : c2 ≡ flat_map folded (p ++ q) = second ∙ ap (λ (cs : List Clause). cs ++ flat_map folded q) one
    ∙ sym (flat_map-append folded p q) in
    let three : c3 ≡ flat_map folded (p ++ q ++ r) = third ∙ ap (λ (cs : List Clause). cs ++ flat_map folded r) two
    ∙ sym (flat_map-append folded (p ++ q) r) in
    fourth ∙ ap₂ (λ (cs ds : List Clause). cs ++ ds) three (sym (append-nil (folded last)))
    ∙ sym (flat_map-append folded (p ++ q ++ r) (last ∷ []))

pub formed : (a : AigParts) (invariant : List Clause) (claimed : List ℕ) (formula : Cnf) → formula.variables
    ≡ top_of a invariant claimed + length invariant
    → formula.clauses ≡ flat_map folded (graph_obligation a invariant claimed) → formula
    ≡ obligation_of a invariant claimed
unfolding obligation_of
formed a invariant claimed formula variables' clauses' = ap₂
    (λ (n : ℕ) (cs : List Clause). let f : Cnf = record { variables = n; clauses = cs } in f) variables' clauses'
