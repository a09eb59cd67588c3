use Rattle.std.proofs.Common.{◌≡◌, ◌+◌, List, [], ◌∷◌, ◌++◌, length, sym, ap, ◌∙◌, arith, subst}
use Rattle.std.proofs.lemmas.List.{length_push}
use Rattle.kw_bits.specs.BitVector.{BitVector}
use Rattle.kw_bits.specs.Reserved.{ReservedList}
use Rattle.one_rule.specs.Cycle.{cycle, system_of}
use Rattle.one_rule.specs.Rows.{RowsFit}
use Rattle.one_rule.specs.Stimulus.{inputs_of}
use Rattle.one_rule.specs.declared.rows.Row.{Row}
use Rattle.plain_run.proofs.Rows.{RowsFit-push, run_step}
use Rattle.plain_run.proofs.runs.run_from.Goals as goal

pub loop-before-preserved : goal.loop-before-preserved
loop-before-preserved c =
    let l = c.loop-before in
    let design = c.args.design.now in
    let inputs = inputs_of c.args.stimulus.now in
    let pushed : c.push.new.self.items ≡ l.rows.items ++ l.last ∷ [] =
    ap (λ (r : ReservedList Row). r.items) c.push.ensures ∙ ap (λ (row : Row). l.rows.items ++ row ∷ []) c.replace.ensures.value in
    let next : c.in_ok-next.next.row ≡ cycle (system_of design) (inputs (l.before + 1)) l.last.regs =
    c.in_ok-next.ensures.cycle ∙ ap (λ (values : List BitVector). cycle (system_of design) values l.last.regs) c.in_ok-inputs.ensures.inputs in
    record {
      same = rw c.replace.ensures.after (run_step (system_of design) inputs c.args.to l.before l.rows.items c.push.new.self.items _ l.last c.in_ok-next.next.row (omega arith) pushed next l.invariant.same);
      room = ap (λ (r : ReservedList Row). r.capacity) c.push.ensures ∙ l.invariant.room;
      count = omega (arith, ap length pushed, length_push l.rows.items l.last, l.invariant.count);
      fit = subst (λ (rows : List Row). RowsFit design rows) (sym pushed) (RowsFit-push design l.rows.items l.last l.invariant.fit l.invariant.last);
      last = rw c.replace.ensures.after c.in_ok-next.ensures.fits;
      logs = c.in_ok-next.ensures.logs;
    }
