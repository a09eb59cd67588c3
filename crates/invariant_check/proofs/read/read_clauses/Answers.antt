use Rattle.std.proofs.Common.{◌≡◌, ◌≢◌, ℕ, Bool, false, List, ◌∷◌, [], ◌++◌, length, get_or, ap, ap₂, sym, subst, ◌∙◌, arith}
use Rattle.std.specs.List.{All}
use Rattle.std.proofs.lemmas.List.Elements.{All-push}
use Rattle.clause_check.specs.Clauses.{Clause, Cnf, IsLiteral, clause_value}
use Rattle.clause_check.specs.declared.literal.Literal.{Literal}
use Rattle.aig_blast.specs.AigRun.{first_words}
use Rattle.invariant_check.specs.Bits.{bit_values, register_bits}
use Rattle.invariant_check.specs.Kept.{HaveLiterals}
use Rattle.invariant_check.specs.inner.Reading.{with_line}
use Rattle.invariant_check.proofs.Reading.{length-firsts, length-register_bits, lines_more, some_literal}
use Rattle.invariant_check.proofs.read.read_clauses.Goals as goal

pub first_false-false_line-requires : goal.first_false-false_line-requires
first_false-false_line-requires c =
    let latches = c.args.registers.now.latches.now in
    let are = subst (λ (ls : List Literal). All (IsLiteral (length (register_bits latches))) ls)
    (sym c.as_slice-in-Some.ensures.value) c.in_ok-read_line.ensures.literals in
    λ k d within. omega (
      arith,
      (are k d within).within,
      length-register_bits latches,
      ap length
          c.args.registers.now.values ∙ length-firsts latches,
      ap length c.as_slice.ensures.value,
    )

pub push-requires : goal.push-requires
push-requires c =
    let latches = c.args.registers.now.latches.now in
    let are = subst (λ (ls : List Literal). All (IsLiteral (length (register_bits latches))) ls)
    (sym c.as_slice-in-Some-2.ensures.value) c.in_ok-read_line.ensures.literals in
    subst (λ (n : ℕ). All (IsLiteral n) c.as_slice-in-Some-2.result.now) (length-register_bits latches
    ∙ sym c.loop-cut.invariant.variables) are

pub loop-cut-preserved : goal.loop-cut-preserved
loop-cut-preserved c =
    let l = c.loop-cut in
    let latches = c.args.registers.now.latches.now in
    let clause = c.read_line.new.clause.items in
    let some = some_literal clause c.read_line.new.clause.len c.is_empty.result c.read_line.new.clause.ok.0
    c.is_empty.ensures c.if-is_empty.false in
    let pushed : c.push.new.self.clauses ≡ l.formula.clauses ++ clause ∷ [] =
    ap (λ (f : Cnf). f.clauses) c.in_ok-push.ensures.ok
    ∙ ap (λ (own : Clause). l.formula.clauses ++ own ∷ []) c.as_slice-in-Some-2.ensures.value in
    let judged : c.first_false-false_line.result
    ≡ with_line l.false_line (clause_value (bit_values (first_words latches)) clause) l.number =
    c.first_false-false_line.ensures
    ∙ ap₂ (λ (values : List Bool) (own : Clause). with_line l.false_line
    (clause_value (λ (v : ℕ). get_or values v false) own) l.number) (c.as_slice.ensures.value
    ∙ c.args.registers.now.values) c.as_slice-in-Some.ensures.value in
    record {
      read = lines_more (register_bits latches) l.number c.saturating_add-number.result l.rest.now
          c.in-Some.cut.bytes.now c.in-Some.cut.rest.now clause _ (bit_values (first_words latches))
          l.formula.clauses c.push.new.self.clauses l.false_line c.first_false-false_line.result c.in-Some.ensures.found
          c.in_ok-read_line.ensures.read c.saturating_add-number.ensures some pushed judged l.invariant.read;
      literals = subst HaveLiterals (sym pushed)
          (All-push (λ (own : Clause). own ≢ []) l.formula.clauses clause l.invariant.literals some);
      variables = ap (λ (f : Cnf). f.variables) c.in_ok-push.ensures.ok ∙ l.invariant.variables;
    }
