use Rattle.std.proofs.Common.{length, ap, ◌∙◌, arith}
use Rattle.std.proofs.lemmas.Result.{err_from_is_err_and}
use Rattle.front_end.proofs.FewCycles.{few-cycles}
use Rattle.front_end.proofs.Told.{told-as, told-none}
use Rattle.wave_text.specs.Parts.{ending}
use Rattle.wave_text.specs.Waves.{head}
use Rattle.lab_top.proofs.WaveRuns.{taken-cycle}
use Rattle.lab_top.proofs.WavesOfSources.{given, levels-of, registers-of}
use Rattle.lab_top.proofs.ThreeParts.{told-first, told-last, told-middle, told-no_last}
use Rattle.lab_top.proofs.WaveTexts.{whole}
use Rattle.lab_top.proofs.waves.WavesRun.write.Goals as goal

pub returns-in_err-head : goal.returns-in_err-head
returns-in_err-head g c =
    let p = err_from_is_err_and c.from_residual.result c.from_residual.ensures.1 in
    rw (p.1, p.2) (told-none _ _ _)

pub returns-in_err-waves : goal.returns-in_err-waves
returns-in_err-waves g c =
    let p = err_from_is_err_and c.from_residual-in_err-waves.result c.from_residual-in_err-waves.ensures.1 in
    rw (p.1, p.2) (told-none _ _ _)

pub returns-in_err-write_text : goal.returns-in_err-write_text
returns-in_err-write_text g c =
    let it = c.args.self.now.lowered in
    let residual = c.from_residual-in_err-write_text in
    let p = err_from_is_err_and residual.result residual.ensures.1 in
    let text = c.as_slice.ensures ∙ c.in_ok-head.ensures ∙ ap head it.shape_fits in
    let one = told-as _ _ _ _ text c.in_err-write_text.ensures in
    rw (p.1, p.2) (told-first _ _ _ _ (whole it.checked (given it) c.args.self.now.cycles) _ _ one)

pub returns-in_err-write_edges : goal.returns-in_err-write_edges
returns-in_err-write_edges g c =
    let it = c.args.self.now.lowered in
    let residual = c.from_residual-in_err-write_edges in
    let p = err_from_is_err_and residual.result residual.ensures.1 in
    let text = c.as_slice.ensures ∙ c.in_ok-head.ensures ∙ ap head it.shape_fits in
    let one = told-as _ _ _ _ text c.in_ok-write_text.ensures in
    let two = c.in_err-write_edges.ensures.told in
    rw (p.1, p.2) (told-middle _ _ _ _ (whole it.checked (given it) c.args.self.now.cycles) _ _ _ _ _ _ _ one _ two)

pub ending-requires-clause-fits : goal.ending-requires-clause-fits
ending-requires-clause-fits g c =
    levels-of c.args.self.now.lowered c.args.self.now.cycles _ c.in_ok-write_edges.ensures.taken

pub ending-requires-clause-few : goal.ending-requires-clause-few
ending-requires-clause-few g c =
    let it = c.args.self.now.lowered in
    let d = it.checked in
    let cycles = c.args.self.now.cycles in
    let at = taken-cycle d (given it) cycles _ c.in_ok-write_edges.ensures.taken.rows in
    omega (arith, at, few-cycles cycles (length d.registers) (length d.rules) c.args.self.now.within)

pub ending-requires-clause-registers : goal.ending-requires-clause-registers
ending-requires-clause-registers g c =
    registers-of c.args.self.now.lowered c.args.self.now.cycles _ c.in_ok-write_edges.ensures.taken

pub returns-in_err-ending : goal.returns-in_err-ending
returns-in_err-ending g c =
    let it = c.args.self.now.lowered in
    let residual = c.from_residual-in_err-ending in
    let p = err_from_is_err_and residual.result residual.ensures.1 in
    let text = c.as_slice.ensures ∙ c.in_ok-head.ensures ∙ ap head it.shape_fits in
    let one = told-as _ _ _ _ text c.in_ok-write_text.ensures in
    let two = c.in_ok-write_edges.ensures.told in
    rw (p.1, p.2) (told-no_last _ _ _ _ (whole it.checked (given it) c.args.self.now.cycles) _ _ _ _ _ _ _ one _ two)

pub returns : goal.returns
returns g c =
    let it = c.args.self.now.lowered in
    let text = c.as_slice.ensures ∙ c.in_ok-head.ensures ∙ ap head it.shape_fits in
    let one = told-as _ _ _ _ text c.in_ok-write_text.ensures in
    let two = c.in_ok-write_edges.ensures.told in
    let left =
    c.as_slice-2.ensures ∙ c.in_ok-ending.ensures
    ∙ (λ i. ending (it.shape_fits i) (c.in_ok-write_edges.ensures.taken.rows i))
    in
    let three = told-as _ _ _ _ left c.write_text-2.ensures in
    told-last _ _ _ _ (whole it.checked (given it) c.args.self.now.cycles) _ _ _ _ _ _ _ one _ two _ _ _ three
