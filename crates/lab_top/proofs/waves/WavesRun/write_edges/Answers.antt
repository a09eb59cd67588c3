use Rattle.std.proofs.Common.{◌≡◌, ◌≤◌, ℕ, length, ap, sym, subst, ◌∙◌, arith}
use Rattle.std.proofs.lemmas.Result.{err_from_is_err_and}
use Rattle.one_rule.specs.Run.{first_values}
use Rattle.front_end.specs.Sources.{shape_of}
use Rattle.front_end.specs.Systems as typed
use Rattle.front_end.proofs.FewCycles.{few-cycles}
use Rattle.front_end.proofs.Told.{told-as, told-cut, told-empty, told-none, told-so-far, told-then}
use Rattle.lab_top.specs.inner.Waves.{HasTaken, edges_to}
use Rattle.lab_top.proofs.WaveRuns.{part-begins}
use Rattle.lab_top.proofs.WavesOfSources.{given}
use Rattle.lab_top.proofs.waves.WavesRun.write_edges.Goals as goal

pub returns-in_err-regs-clause-told : goal.returns-in_err-regs-clause-told
returns-in_err-regs-clause-told g c =
    let p = err_from_is_err_and c.from_residual.result c.from_residual.ensures.1 in
    rw (p.1, p.2) (told-none _ _ _)

pub loop-at-init : goal.loop-at-init
loop-at-init g c = record {
  left = c.in_ok-regs.ensures.values ∙ ap first_values c.deref-design.ensures;
  taken = c.requires;
  told = told-empty _ _ tt;
  within = omega arith;
}

pub take_batch-requires-clause-few : goal.take_batch-requires-clause-few
take_batch-requires-clause-few g c =
    let cycles = c.args.self.now.cycles in
    let d = c.args.self.now.lowered.checked in
    omega (arith, c.min-to.ensures, few-cycles cycles (length d.registers) (length d.rules) c.args.self.now.within)

pub returns-in_err-text-clause-told : goal.returns-in_err-text-clause-told
returns-in_err-text-clause-told g c =
    let it = c.args.self.now.lowered in
    let d = it.checked in
    let before = c.loop-at.invariant in
    let residual = c.from_residual-in_err-text in
    let p = err_from_is_err_and residual.result residual.ensures.1 in
    let system = typed.system_of d in
    let first = typed.first_values d in
    let more = part-begins system (given it) first (shape_of d) c.loop-at.at c.args.self.now.cycles before.within in
    let told = told-so-far (edges_to d (given it) c.loop-at.at) more.0 _ tt before.told in
    rw (p.1, p.2) (told-as _ _ _ _ (sym more.1) told)

pub returns-in_err-write_text-clause-told : goal.returns-in_err-write_text-clause-told
returns-in_err-write_text-clause-told g c =
    let it = c.args.self.now.lowered in
    let d = it.checked in
    let before = c.loop-at.invariant in
    let residual = c.from_residual-in_err-write_text in
    let p = err_from_is_err_and residual.result residual.ensures.1 in
    let one = told-as _ _ _ _ c.as_slice.ensures c.in_err-write_text.ensures in
    let two = told-then (edges_to d (given it) c.loop-at.at) c.in_ok-text.text _ _ _ _ _ _ tt _ before.told one in
    let told = told-as _ _ _ _ (sym c.in_ok-text.ensures.text) two in
    let up : c.min-to.result ≤ c.args.self.now.cycles = omega (arith, c.min-to.ensures) in
    let system = typed.system_of d in
    let first = typed.first_values d in
    let more = part-begins system (given it) first (shape_of d) c.min-to.result c.args.self.now.cycles up in
    rw (p.1, p.2)
    (told-as _ _ _ _ (sym more.1) (told-cut (edges_to d (given it) c.min-to.result) more.0 _ _ told))

pub loop-at-preserved : goal.loop-at-preserved
loop-at-preserved g c =
    let it = c.args.self.now.lowered in
    let before = c.loop-at.invariant in
    let so_far = edges_to it.checked (given it) c.loop-at.at in
    let one = told-as _ _ _ _ c.as_slice.ensures c.in_ok-write_text.ensures in
    let two = told-then so_far c.in_ok-text.text _ _ _ _ _ _ tt _ before.told one in
    record {
      left = c.in_ok-text.ensures.registers;
      taken = c.in_ok-text.ensures.taken;
      told = told-as _ _ _ _ (sym c.in_ok-text.ensures.text) two;
      within = omega (arith, c.min-to.ensures);
    }

pub returns-clause-told : goal.returns-clause-told
returns-clause-told g c =
    let it = c.args.self.now.lowered in
    let all : c.loop-at.at ≡ c.args.self.now.cycles =
    omega (arith, c.loop-at.invariant.within, c.loop-at-test.false) in
    told-as _ _ _ _ (ap (edges_to it.checked (given it)) all) c.loop-at.invariant.told

pub returns-clause-taken : goal.returns-clause-taken
returns-clause-taken g c =
    let it = c.args.self.now.lowered in
    let all : c.loop-at.at ≡ c.args.self.now.cycles =
    omega (arith, c.loop-at.invariant.within, c.loop-at-test.false) in
    subst (λ (n : ℕ). HasTaken it.checked (given it) n c.loop-at.waves) all c.loop-at.invariant.taken
