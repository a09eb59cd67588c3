use Rattle.std.proofs.Common.{ℕ, ◌+◌, List, length, ap, sym, subst, ◌∙◌, arith, sum}
use Rattle.std.specs.List.{All}
use Rattle.clause_check.specs.Clauses.{IsLiteral}
use Rattle.aig_blast.specs.Aigs.{AigParts, IsAig, input_word_widths, latch_widths, variables}
use Rattle.aig_blast.specs.declared.aig.InputWord.{InputWord}
use Rattle.aig_blast.specs.declared.aig.OutputBit.{OutputBit}
use Rattle.invariant_check.specs.inner.Kept.{IsClaim}
use Rattle.invariant_check.specs.Obligations.{claimed_lits, literals_in, next_lits}
use Rattle.invariant_check.proofs.Bounds.{clauses_within, literals_by}
use Rattle.invariant_check.proofs.Breaking.{length-next_lits}
use Rattle.invariant_check.proofs.Cones.{length-cone}
use Rattle.invariant_check.proofs.Obliging.{lits_are_below, lits_stand, same_lits, same_needed, same_sources, same_top}
use Rattle.invariant_check.proofs.obligations.parts_of.Goals as goal

pub needed_lits-requires : goal.needed_lits-requires
needed_lits-requires c =
    let a = c.args.aig.now in
    let valid : IsAig a = subst IsAig c.aig.view_is c.aig.invariant in
    let latches = c.as_slice-2.ensures ∙ ap (λ (x : AigParts). x.latches) c.aig.view_is in
    let nexts = c.as_slice-5.ensures.value ∙ c.in_ok-nexts.ensures ∙ ap next_lits latches in
    λ k d within.
    let is = c.clauses-clauses.ensures.literals k d within in (
      is.some,
      omega (
        arith,
        is.within,
        c.requires.bits,
        ap length nexts,
        length-next_lits (variables a) a.latches
            valid.latches,
      ),
    )

pub cone_of-requires-clause-few : goal.cone_of-requires-clause-few
cone_of-requires-clause-few c =
    let a = c.args.aig.now in
    let valid : IsAig a = subst IsAig c.aig.view_is c.aig.invariant in
    let latches = c.as_slice-2.ensures ∙ ap (λ (x : AigParts). x.latches) c.aig.view_is in
    let nexts = c.in_ok-nexts.ensures ∙ ap next_lits latches in
    let inputs = c.count_inputs-inputs.ensures
    ∙ ap (λ (ws : List InputWord). sum (input_word_widths ws)) (c.as_slice.ensures
    ∙ ap (λ (x : AigParts). x.inputs) c.aig.view_is) in
    omega (
      arith,
      inputs,
      c.len.ensures,
      c.in_ok-nexts.nexts.ok.0,
      ap length nexts,
      length-next_lits (variables a)
          a.latches valid.latches,
      valid.few,
    )

pub cone_of-requires-clause-stand : goal.cone_of-requires-clause-stand
cone_of-requires-clause-stand c =
    let a = c.args.aig.now in
    let invariant = c.args.invariant.now.clauses in
    let valid : IsAig a = subst IsAig c.aig.view_is c.aig.invariant in
    let given = subst (λ (n : ℕ). All (IsLiteral n) c.clauses-clauses.result.literals.now) c.requires.bits
    c.clauses-clauses.ensures.literals in
    let claim : IsClaim a invariant c.args.claimed.now = record {
      literals = clauses_within (sum (latch_widths a.latches)) c.clauses-clauses.result.literals.now
          c.clauses-clauses.result.lengths.now invariant c.clauses-clauses.result.whole
          c.clauses-clauses.ensures.clauses given;
      outputs = c.requires.outputs;
    } in
    let nexts = c.in_ok-nexts.ensures
    ∙ ap next_lits (c.as_slice-2.ensures ∙ ap (λ (x : AigParts). x.latches) c.aig.view_is) in
    let inputs = c.count_inputs-inputs.ensures
    ∙ ap (λ (ws : List InputWord). sum (input_word_widths ws)) (c.as_slice.ensures
    ∙ ap (λ (x : AigParts). x.inputs) c.aig.view_is) in
    let count = same_sources a invariant c.args.claimed.now valid claim c.count_inputs-inputs.result c.len.result
    c.in_ok-nexts.nexts.items inputs nexts (c.len.ensures ∙ c.in_ok-nexts.nexts.ok.0) in
    lits_stand a invariant c.args.claimed.now valid claim (c.count_inputs-inputs.result + c.len.result)
    c.as_slice-6.result.now count (c.as_slice-6.ensures ∙ ap (λ (x : AigParts). x.gates) c.aig.view_is)

pub cone_of-requires-clause-below : goal.cone_of-requires-clause-below
cone_of-requires-clause-below c =
    let a = c.args.aig.now in
    let invariant = c.args.invariant.now.clauses in
    let valid : IsAig a = subst IsAig c.aig.view_is c.aig.invariant in
    let given = subst (λ (n : ℕ). All (IsLiteral n) c.clauses-clauses.result.literals.now) c.requires.bits
    c.clauses-clauses.ensures.literals in
    let claim : IsClaim a invariant c.args.claimed.now = record {
      literals = clauses_within (sum (latch_widths a.latches)) c.clauses-clauses.result.literals.now
          c.clauses-clauses.result.lengths.now invariant c.clauses-clauses.result.whole
          c.clauses-clauses.ensures.clauses given;
      outputs = c.requires.outputs;
    } in
    let nexts = c.in_ok-nexts.ensures
    ∙ ap next_lits (c.as_slice-2.ensures ∙ ap (λ (x : AigParts). x.latches) c.aig.view_is) in
    let inputs = c.count_inputs-inputs.ensures
    ∙ ap (λ (ws : List InputWord). sum (input_word_widths ws)) (c.as_slice.ensures
    ∙ ap (λ (x : AigParts). x.inputs) c.aig.view_is) in
    let claims = c.in_ok-claims.ensures
    ∙ ap (λ (os : List OutputBit). claimed_lits os c.args.claimed.now) (c.as_slice-3.ensures
    ∙ ap (λ (x : AigParts). x.outputs) c.aig.view_is) in
    let literals = sym (literals_by c.clauses-clauses.result.literals.now c.clauses-clauses.result.lengths.now
    c.clauses-clauses.result.whole) ∙ ap literals_in c.clauses-clauses.ensures.clauses in
    let count = same_sources a invariant c.args.claimed.now valid claim c.count_inputs-inputs.result c.len.result
    c.in_ok-nexts.nexts.items inputs nexts (c.len.ensures ∙ c.in_ok-nexts.nexts.ok.0) in
    let lits = same_lits a invariant c.args.claimed.now valid claim c.as_slice-4.result.now c.as_slice-5.result.now
    c.in_ok-lits.lits.items c.clauses-clauses.result.literals.now
    (c.as_slice-4.ensures.value ∙ claims) (c.as_slice-5.ensures.value ∙ nexts) literals c.in_ok-lits.ensures in
    lits_are_below a invariant c.args.claimed.now valid claim (c.count_inputs-inputs.result + c.len.result)
    c.as_slice-6.result.now c.as_slice-7.result.now count (c.as_slice-6.ensures
    ∙ ap (λ (x : AigParts). x.gates) c.aig.view_is)
    (c.as_slice-7.ensures.value ∙ lits)

pub greatest-top-requires : goal.greatest-top-requires
greatest-top-requires c =
    let long = ap length (c.as_slice-8.ensures.value ∙ c.in_ok-needed.ensures) in
    omega (
      arith,
      long,
      length-cone (c.count_inputs-inputs.result + c.len.result) c.as_slice-6.result.now
          c.as_slice-7.result.now,
    )

pub returns : goal.returns
returns c =
    let a = c.args.aig.now in
    let invariant = c.args.invariant.now.clauses in
    let claimed = c.args.claimed.now in
    let valid : IsAig a = subst IsAig c.aig.view_is c.aig.invariant in
    let given = subst (λ (n : ℕ). All (IsLiteral n) c.clauses-clauses.result.literals.now) c.requires.bits
    c.clauses-clauses.ensures.literals in
    let claim' : IsClaim a invariant claimed = record {
      literals = clauses_within (sum (latch_widths a.latches)) c.clauses-clauses.result.literals.now
          c.clauses-clauses.result.lengths.now invariant c.clauses-clauses.result.whole
          c.clauses-clauses.ensures.clauses given;
      outputs = c.requires.outputs;
    } in
    let nexts' = c.in_ok-nexts.ensures
    ∙ ap next_lits (c.as_slice-2.ensures ∙ ap (λ (x : AigParts). x.latches) c.aig.view_is) in
    let inputs' = c.count_inputs-inputs.ensures
    ∙ ap (λ (ws : List InputWord). sum (input_word_widths ws)) (c.as_slice.ensures
    ∙ ap (λ (x : AigParts). x.inputs) c.aig.view_is) in
    let claims' = c.in_ok-claims.ensures
    ∙ ap (λ (os : List OutputBit). claimed_lits os claimed) (c.as_slice-3.ensures
    ∙ ap (λ (x : AigParts). x.outputs) c.aig.view_is) in
    let literals = sym (literals_by c.clauses-clauses.result.literals.now c.clauses-clauses.result.lengths.now
    c.clauses-clauses.result.whole) ∙ ap literals_in c.clauses-clauses.ensures.clauses in
    let count = same_sources a invariant claimed valid claim' c.count_inputs-inputs.result c.len.result
    c.in_ok-nexts.nexts.items inputs' nexts' (c.len.ensures ∙ c.in_ok-nexts.nexts.ok.0) in
    let lits = same_lits a invariant claimed valid claim' c.as_slice-4.result.now c.as_slice-5.result.now
    c.in_ok-lits.lits.items c.clauses-clauses.result.literals.now
    (c.as_slice-4.ensures.value ∙ claims') (c.as_slice-5.ensures.value ∙ nexts') literals c.in_ok-lits.ensures in
    let needed' = same_needed a invariant claimed valid claim' (c.count_inputs-inputs.result + c.len.result)
    c.as_slice-6.result.now c.as_slice-7.result.now c.in_ok-needed.needed.items count
    (c.as_slice-6.ensures ∙ ap (λ (x : AigParts). x.gates) c.aig.view_is) (c.as_slice-7.ensures.value
    ∙ lits) c.in_ok-needed.ensures in
    record {
      aig = valid;
      claim = claim';
      inputs = inputs';
      nexts = nexts';
      claims = claims';
      needed = needed';
      top = same_top a invariant claimed valid claim' c.as_slice-8.result.now c.greatest-top.result
          (c.as_slice-8.ensures.value ∙ needed') c.greatest-top.ensures;
    }
