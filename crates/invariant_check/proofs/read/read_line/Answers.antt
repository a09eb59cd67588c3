use Rattle.std.proofs.Common.{◌≡◌, List, Err, length, sym, subst, ◌∙◌, arith}
use Rattle.std.specs.List.{All}
use Rattle.std.proofs.lemmas.List.Elements.{All-push}
use Rattle.kw_base.specs.Fault.{fault_at}
use Rattle.kw_base.specs.declared.fault.Fault.{Fault}
use Rattle.clause_check.specs.Clauses.{IsLiteral}
use Rattle.clause_check.specs.declared.literal.Literal.{Literal}
use Rattle.clause_check.proofs.Refusals.{refused}
use Rattle.invariant_check.specs.Bits.{register_bits}
use Rattle.invariant_check.specs.Invariants.{clause_of}
use Rattle.invariant_check.proofs.Reading.{line_end, line_fault, line_more, literal-within}
use Rattle.invariant_check.proofs.read.read_line.Goals as goal

pub returns-in_default-literal-clause-fault : goal.returns-in_default-literal-clause-fault
returns-in_default-literal-clause-fault c =
    let l = c.loop-word in
    let word = c.in-Some.word in
    let bits = register_bits c.args.registers.now.latches.now in
    refused (Unit {0}) c.fault.result (fault_at 91 c.place_in-place.result)
    (λ (fault : Fault). clause_of bits c.args.line c.args.bytes.now ≡ Err fault) c.fault.ensures
    (line_fault bits c.args.line l.column word.blanks l.clause.items word.bytes.now l.rest.now word.rest.now
    c.args.bytes.now c.place_in-place.result (c.in-Some.ensures.columns l.column) c.place_in-place.ensures
    (sym c.literal.ensures ∙ c.in_default-literal.is) l.invariant.line)

pub loop-word-preserved : goal.loop-word-preserved
loop-word-preserved c =
    let l = c.loop-word in
    let word = c.in-Some.word in
    let bits = register_bits c.args.registers.now.latches.now in
    let reads = sym c.literal.ensures ∙ c.in-Some-literal.is in
    record {
      line = line_more bits c.args.line l.column word.blanks l.clause.items c.push.new.self.items word.bytes.now
          l.rest.now word.rest.now c.place_in-place.result c.in-Some-literal.literal _
          (c.in-Some.ensures.columns l.column) c.place_in-place.ensures reads c.in_ok-push.ensures.items l.invariant.line;
      column = omega (arith, l.invariant.column, c.in-Some.ensures.length);
      literals = subst (λ (ls : List Literal). All (IsLiteral (length bits)) ls) (sym c.in_ok-push.ensures.items)
          (All-push (IsLiteral (length bits)) l.clause.items c.in-Some-literal.literal l.invariant.literals
          (literal-within bits word.bytes.now c.in-Some-literal.literal reads));
    }

pub returns-clause-read : goal.returns-clause-read
returns-clause-read c =
    let l = c.loop-word in
    line_end (register_bits c.args.registers.now.latches.now) c.args.line l.column l.clause.items l.rest.now
    c.args.bytes.now (c.in_default.ensures.no_columns l.column) l.invariant.line
