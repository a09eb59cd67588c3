use Rattle.std.proofs.Common.{◌≡◌, ◌<◌, ◌+◌, ℕ, List, length, get_or, sym, ap, subst, arith}
use Rattle.std.specs.Arc.{arc_value}
use Rattle.std.proofs.lemmas.Result.{err_from_is_err_and}
use Rattle.typed_core.specs.Widths.{HaveWidths, register_widths}
use Rattle.typed_core.specs.declared.design.Parts.{Parts}
use Rattle.one_rule.specs.Rows.{RowsFit}
use Rattle.one_rule.specs.Run.{run_of}
use Rattle.one_rule.specs.Stimulus.{InputVectors, inputs_of}
use Rattle.journal_check.specs.Checking.{IsFaultOf, IsFirstJournalFault, opening_of}
use Rattle.journal_check.specs.declared.journal.Batch.{Batch}
use Rattle.journal_check.proofs.RunsOfBatches.{HasRechecked, fault_onto, last_of_run_fit, next_faulty, next_good, none_rechecked}
use Rattle.journal_check.proofs.batches.recheck.Goals as goal

pub loop-batch-init : goal.loop-batch-init
loop-batch-init c =
    let design = arc_value c.args.design in
    let stimulus = arc_value c.args.stimulus in
    let is : c.in_ok-rows.rows ≡ run_of design (inputs_of stimulus) 0 = subst (λ (d : Parts). c.in_ok-rows.rows ≡ run_of d (inputs_of stimulus) 0) c.deref-3.ensures (c.in_ok-rows.ensures (inputs_of stimulus)) in
    record {
      items = c.as_slice-batch-items.ensures;
      so_far = none_rechecked design stimulus c.args.n c.args.journal c.in_ok-rows.rows is c.requires.fits;
    }

pub recheck_batch-requires-clause-widths : goal.recheck_batch-requires-clause-widths
recheck_batch-requires-clause-widths c =
    let l = c.loop-batch in
    let design = arc_value c.args.design in
    let stimulus = arc_value c.args.stimulus in
    let fit : RowsFit design (run_of design (inputs_of stimulus) l.done.cycle) =
    subst (λ (d : Parts). RowsFit d (run_of d (inputs_of stimulus) l.done.cycle)) c.deref.ensures
    (subst (λ (s : InputVectors). RowsFit c.deref.result.now (run_of c.deref.result.now (inputs_of s) l.done.cycle)) c.deref-2.ensures (c.runs_fit.ensures l.done.cycle)) in
    subst (HaveWidths (register_widths design)) (sym c.in_ok-regs.ensures) (last_of_run_fit design stimulus l.done.cycle l.done.rows l.invariant.so_far.run fit)

pub returns-in_err-recheck_batch-clause-fault : goal.returns-in_err-recheck_batch-clause-fault
returns-in_err-recheck_batch-clause-fault c =
    let l = c.loop-batch in
    let design = arc_value c.args.design in
    let stimulus = arc_value c.args.stimulus in
    let batch = c.batch-item.result in
    let regs = c.in_ok-regs.regs in
    let inside : l.batch-index < length c.args.journal.batches = omega (arith, c.loop-batch-test.true, ap length l.invariant.items) in
    let is : batch ≡ get_or c.args.journal.batches l.batch-index batch = subst (λ (bs : List Batch). batch ≡ get_or bs l.batch-index batch) l.invariant.items c.batch-item.is in
    let p = err_from_is_err_and c.from_residual-in_err-recheck_batch.result c.from_residual-in_err-recheck_batch.ensures.1 in
    rw (p.1, p.2)
    (fault_onto (IsFaultOf c.args.n l.done.cycle (opening_of design stimulus regs batch) batch) (IsFirstJournalFault design stimulus c.args.n c.args.journal) c.in_err-recheck_batch.field-0.0
    (λ fault wrong. next_faulty design stimulus c.args.n c.args.journal l.invariant.so_far batch regs inside is c.in_ok-regs.ensures fault wrong)
    c.in_err-recheck_batch.ensures.fault)

pub loop-batch-preserved : goal.loop-batch-preserved
loop-batch-preserved c =
    let l = c.loop-batch in
    let design = arc_value c.args.design in
    let stimulus = arc_value c.args.stimulus in
    let batch = c.batch-item.result in
    let regs = c.in_ok-regs.regs in
    let inside : l.batch-index < length c.args.journal.batches = omega (arith, c.loop-batch-test.true, ap length l.invariant.items) in
    let is : batch ≡ get_or c.args.journal.batches l.batch-index batch = subst (λ (bs : List Batch). batch ≡ get_or bs l.batch-index batch) l.invariant.items c.batch-item.is in
    let e = c.in_ok-recheck_batch.ensures in
    record {
      items = l.invariant.items;
      so_far =
          subst (λ (to : ℕ). HasRechecked design stimulus c.args.n c.args.journal (l.batch-index + 1) to c.recheck_batch.new.done.rows) (sym e.cycle)
          (next_good design stimulus c.args.n c.args.journal l.invariant.so_far batch regs inside is c.in_ok-regs.ensures c.recheck_batch.new.done.rows e.rows e.good e.left);
    }
