use Rattle.std.proofs.Common.{◌≡◌, ◌≤◌, ℕ, ◌+◌, ◌/◌, Bool, List, ◌++◌, length, map, flat_map, ap, ap₂, sym, subst, ◌∙◌, arith}
use Rattle.std.specs.List.{All}
use Rattle.std.proofs.lemmas.List.Elements.{All-append, All-weaker}
use Rattle.clause_check.specs.Clauses.{Clause}
use Rattle.clause_check.specs.Flat.{clauses_by}
use Rattle.clause_check.specs.declared.literal.Literal.{Literal}
use Rattle.clause_check.proofs.Flat.{length-clauses_by}
use Rattle.aig_blast.specs.Aigs.{AigParts, sources}
use Rattle.aig_blast.specs.declared.gate.Gate.{Gate}
use Rattle.invariant_check.specs.Cones.{is_needed}
use Rattle.invariant_check.specs.Obligations.{all_broken_clauses, before_step, broken_lits, claimed_lits, folded, graph_clauses, literals_in, needed_in, next_lit, next_lits, top_of}
use Rattle.invariant_check.proofs.Bounds.{broken_within, claims_bound, literals_by, needed_bound, nexts_bound, source_bound}
use Rattle.invariant_check.proofs.Breaking.{before_part, broken_part, broken_row, graph_part, nexts_long, top_within}
use Rattle.invariant_check.proofs.Obliging.{all_pushed, formed, lits_stand, needed_long, same_sources}
use Rattle.invariant_check.proofs.obligations.draft_of.Goals as goal

pub overflow_add-first : goal.overflow_add-first
overflow_add-first c =
    let parts = c.requires.parts in
    omega (
      arith,
      parts.top,
      top_within c.args.aig.now c.args.invariant.now.clauses c.args.claimed.now parts.aig
          parts.claim,
      parts.aig.few,
    )

pub push_before-requires-clause-bound : goal.push_before-requires-clause-bound
push_before-requires-clause-bound c = λ k d within.
    let a = c.args.aig.now in
    let parts = c.requires.parts in
    let is = c.clauses-clauses.ensures.literals k d within in
    omega (
      arith,
      is.within,
      c.requires.bits,
      parts.inputs,
      parts.top,
      source_bound a c.args.invariant.now.clauses c.args.claimed.now parts.aig parts.claim (sources a) (omega arith),
      c.new-draft.ensures.variables,
      c.in_ok-variables.ensures,
    )

pub push_gates-requires-clause-sources : goal.push_gates-requires-clause-sources
push_gates-requires-clause-sources c =
    let parts = c.requires.parts in
    omega (
      arith,
      same_sources c.args.aig.now c.args.invariant.now.clauses c.args.claimed.now parts.aig parts.claim
          c.args.parts.inputs c.len.result c.args.parts.nexts.items parts.inputs parts.nexts (c.len.ensures
          ∙ c.args.parts.nexts.ok.0),
      parts.aig.few,
    )

pub push_gates-requires-clause-room : goal.push_gates-requires-clause-room
push_gates-requires-clause-room c =
    let a = c.args.aig.now in
    let parts = c.requires.parts in
    let gates = c.as_slice-gates.ensures ∙ ap (λ (x : AigParts). x.gates) c.aig.view_is in
    omega (
      arith,
      same_sources a c.args.invariant.now.clauses c.args.claimed.now parts.aig parts.claim c.args.parts.inputs
          c.len.result c.args.parts.nexts.items parts.inputs parts.nexts (c.len.ensures ∙ c.args.parts.nexts.ok.0),
      needed_long a c.args.invariant.now.clauses c.args.claimed.now parts.aig parts.claim c.as_slice.result.now
          (c.as_slice.ensures.value ∙ parts.needed),
      ap length gates,
    )

pub push_gates-requires-clause-stand : goal.push_gates-requires-clause-stand
push_gates-requires-clause-stand c =
    let a = c.args.aig.now in
    let parts = c.requires.parts in
    let count = same_sources a c.args.invariant.now.clauses c.args.claimed.now parts.aig parts.claim c.args.parts.inputs
    c.len.result c.args.parts.nexts.items parts.inputs parts.nexts (c.len.ensures ∙ c.args.parts.nexts.ok.0) in
    lits_stand a c.args.invariant.now.clauses c.args.claimed.now parts.aig parts.claim
    (c.args.parts.inputs + c.len.result) c.as_slice-gates.result.now count (c.as_slice-gates.ensures
    ∙ ap (λ (x : AigParts). x.gates) c.aig.view_is)

pub push_gates-requires-clause-bound : goal.push_gates-requires-clause-bound
push_gates-requires-clause-bound c = λ v is.
    let a = c.args.aig.now in
    let parts = c.requires.parts in
    omega (
      arith,
      needed_bound a c.args.invariant.now.clauses c.args.claimed.now parts.aig parts.claim v
          (sym (ap (λ (needed : List Bool). is_needed needed v) (c.as_slice.ensures.value ∙ parts.needed)) ∙ is),
      parts.top,
      c.in_ok-push_before.ensures.variables,
      c.new-draft.ensures.variables,
      c.in_ok-variables.ensures,
    )

pub push_broken-requires-clause-variable : goal.push_broken-requires-clause-variable
push_broken-requires-clause-variable c =
    omega (
      arith,
      length-clauses_by c.clauses-clauses.result.literals.now c.clauses-clauses.result.lengths.now,
      ap length c.clauses-clauses.ensures.clauses,
      c.len-2.ensures,
      c.in_ok-push_gates.ensures.variables,
      c.in_ok-push_before.ensures.variables,
      c.new-draft.ensures.variables,
      c.in_ok-variables.ensures,
    )

pub push_broken-requires-clause-within : goal.push_broken-requires-clause-within
push_broken-requires-clause-within c = λ k d within.
    let parts = c.requires.parts in
    let is = c.clauses-clauses.ensures.literals k d within in (
      is.some,
      omega (
        arith,
        is.within,
        c.requires.bits,
        ap length (c.as_slice-2.ensures.value
            ∙ parts.nexts),
        nexts_long c.args.aig.now c.args.invariant.now.clauses c.args.claimed.now parts.aig
            parts.claim,
      ),
    )

pub push_broken-requires-clause-bound : goal.push_broken-requires-clause-bound
push_broken-requires-clause-bound c =
    let a = c.args.aig.now in
    let parts = c.requires.parts in
    let bound = top_of a c.args.invariant.now.clauses c.args.claimed.now in
    let literals = sym (literals_by c.clauses-clauses.result.literals.now c.clauses-clauses.result.lengths.now
    c.clauses-clauses.result.whole) ∙ ap literals_in c.clauses-clauses.ensures.clauses in
    let nexts = c.as_slice-2.ensures.value ∙ parts.nexts in
    let less : bound ≤ c.push_gates.new.self.formula.variables =
    omega (
      arith,
      parts.top,
      c.in_ok-push_gates.ensures.variables,
      c.in_ok-push_before.ensures.variables,
      c.new-draft.ensures.variables,
      c.in_ok-variables.ensures,
    ) in
    subst (λ (lits : List ℕ). All
    (λ (literal : Literal). next_lit lits literal / 2 ≤ c.push_gates.new.self.formula.variables)
    c.clauses-clauses.result.literals.now) (sym nexts)
    (All-weaker (λ (literal : Literal). next_lit (next_lits a.latches) literal / 2 ≤ bound)
    (λ (literal : Literal). next_lit (next_lits a.latches) literal / 2 ≤ c.push_gates.new.self.formula.variables)
    (λ literal h. omega (arith, h, less)) c.clauses-clauses.result.literals.now
    (subst (λ (ls : List Literal). All (λ (literal : Literal). next_lit (next_lits a.latches) literal / 2 ≤ bound) ls)
    (sym literals) (nexts_bound a c.args.invariant.now.clauses c.args.claimed.now parts.aig parts.claim)))

pub push-requires-clause-within : goal.push-requires-clause-within
push-requires-clause-within c =
    let a = c.args.aig.now in
    let parts = c.requires.parts in
    let bound = top_of a c.args.invariant.now.clauses c.args.claimed.now in
    let variables = c.push_broken.new.self.formula.variables in
    let same : variables ≡ c.args.parts.top + c.len-2.result = c.in_ok-push_broken.ensures.variables
    ∙ c.in_ok-push_gates.ensures.variables ∙ c.in_ok-push_before.ensures.variables ∙ c.new-draft.ensures.variables
    ∙ c.in_ok-variables.ensures in
    let less : bound ≤ variables = omega (arith, parts.top, same) in
    let last = c.as_slice-3.ensures.value ∙ c.in_ok-add_broken_lits.ensures
    ∙ ap (λ (lits : List ℕ). lits ++ broken_lits (1 + c.args.parts.top) c.len-3.result) parts.claims in
    subst (λ (lits : List ℕ). All (λ (lit : ℕ). lit / 2 ≤ variables) lits) (sym last)
    (All-append (λ (lit : ℕ). lit / 2 ≤ variables) (claimed_lits a.outputs c.args.claimed.now)
    (broken_lits (1 + c.args.parts.top) c.len-3.result)
    (All-weaker (λ (lit : ℕ). lit / 2 ≤ bound) (λ (lit : ℕ). lit / 2 ≤ variables) (λ lit h. omega (arith, h, less))
    (claimed_lits a.outputs c.args.claimed.now)
    (claims_bound a c.args.invariant.now.clauses c.args.claimed.now parts.aig parts.claim))
    (broken_within (1 + c.args.parts.top) c.len-3.result variables
    (omega (arith, same, c.len-2.ensures, c.len-3.ensures))))

pub returns : goal.returns
returns c =
    let a = c.args.aig.now in
    let invariant = c.args.invariant.now.clauses in
    let claimed = c.args.claimed.now in
    let parts = c.requires.parts in
    let f0 = c.new-draft.result.formula.clauses in
    let f1 = c.push_before.new.self.formula.clauses in
    let f2 = c.push_gates.new.self.formula.clauses in
    let f3 = c.push_broken.new.self.formula.clauses in
    let f4 = c.push.new.self.formula.clauses in
    let clauses = c.clauses-clauses.ensures.clauses in
    let count = same_sources a invariant claimed parts.aig parts.claim c.args.parts.inputs c.len.result
    c.args.parts.nexts.items parts.inputs parts.nexts (c.len.ensures ∙ c.args.parts.nexts.ok.0) in
    let gates = c.as_slice-gates.ensures ∙ ap (λ (x : AigParts). x.gates) c.aig.view_is in
    let first : f1 ≡ f0 ++ flat_map folded (before_part a invariant) =
    c.in_ok-push_before.ensures.clauses
    ∙ ap₂ (λ (m : ℕ) (cs : List Clause). f0
    ++ flat_map folded (map (λ (clause : Clause). map (before_step m) clause) cs)) parts.inputs clauses in
    let second : f2 ≡ f1 ++ flat_map folded (graph_part a invariant claimed) =
    c.in_ok-push_gates.ensures.clauses
    ∙ ap₂ (λ (needed : List Bool) (n : ℕ). f1
    ++ flat_map folded (graph_clauses needed (1 + n) c.as_slice-gates.result.now)) (c.as_slice.ensures.value
    ∙ parts.needed) count
    ∙ ap (λ (gs : List Gate). f1
    ++ flat_map folded (graph_clauses (needed_in a invariant claimed) (1 + sources a) gs)) gates in
    let third : f3 ≡ f2 ++ flat_map folded (broken_part a invariant claimed) =
    c.in_ok-push_broken.ensures.clauses
    ∙ ap₂ (λ (nexts : List ℕ) (n : ℕ). f2
    ++ flat_map folded (all_broken_clauses nexts (1 + n)
    (clauses_by c.clauses-clauses.result.literals.now c.clauses-clauses.result.lengths.now)))
    (c.as_slice-2.ensures.value ∙ parts.nexts) parts.top
    ∙ ap (λ (cs : List Clause). f2
    ++ flat_map folded (all_broken_clauses (next_lits a.latches) (1 + top_of a invariant claimed) cs)) clauses in
    let last : c.as_slice-3.result.now ≡ claimed_lits a.outputs claimed ++ broken_row a invariant claimed =
    c.as_slice-3.ensures.value ∙ c.in_ok-add_broken_lits.ensures
    ∙ ap₂ (λ (lits : List ℕ) (n : ℕ). lits ++ broken_lits (1 + n) c.len-3.result) parts.claims parts.top
    ∙ ap (λ n. claimed_lits a.outputs claimed ++ broken_lits (1 + top_of a invariant claimed) n) c.len-3.ensures in
    let fourth : f4 ≡ f3 ++ folded (claimed_lits a.outputs claimed ++ broken_row a invariant claimed) =
    c.in_ok-push.ensures.clauses ∙ ap (λ (lits : List ℕ). f3 ++ folded lits) last in
    formed a invariant claimed c.push.new.self.formula
    (c.in_ok-push.ensures.variables ∙ c.in_ok-push_broken.ensures.variables ∙ c.in_ok-push_gates.ensures.variables
    ∙ c.in_ok-push_before.ensures.variables ∙ c.new-draft.ensures.variables ∙ c.in_ok-variables.ensures
    ∙ ap₂ (λ (m n : ℕ). m + n) parts.top c.len-2.ensures)
    (all_pushed (before_part a invariant) (graph_part a invariant claimed) (broken_part a invariant claimed)
    (claimed_lits a.outputs claimed ++ broken_row a invariant claimed)
    f0 f1 f2 f3 f4 c.new-draft.ensures.clauses first second third fourth)
