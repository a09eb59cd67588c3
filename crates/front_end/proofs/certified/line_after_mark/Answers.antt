use Rattle.std.proofs.Common.{◌≡◌, ◌+◌, ◌-◌, ◌<◌, ◌≤◌, length, sym, ap, ◌∙◌, arith}
use Rattle.kw_base.specs.Place.{capped}
use Rattle.stim_report.specs.Cuts.{parts_of}
use Rattle.front_end.proofs.CutAgain.{line-marked, line-unmarked, some_line}
use Rattle.front_end.proofs.certified.line_after_mark.Goals as goal

pub overflow_sub-parts : goal.overflow_sub-parts
overflow_sub-parts c = omega (arith, c.requires.first_line, some_line c.args.rest.now)

pub returns-then-parts-rest : goal.returns-then-parts-rest
returns-then-parts-rest c =
    let rest = c.args.rest.now in
    let less : length (parts_of rest).design < length rest = omega (arith, c.if-parts-rest.true, ap length c.requires.design) in
    let value : c.saturating_add.result ≡ capped (c.args.number + (parts_of rest).first_line - 1) =
    omega (arith, c.saturating_add.ensures, c.requires.first_line, some_line rest)
    in
    value ∙ sym (line-marked c.args.source.now rest c.args.number less)

pub returns-else-parts-rest : goal.returns-else-parts-rest
returns-else-parts-rest c =
    let rest = c.args.rest.now in
    let all : length rest ≤ length (parts_of rest).design = omega (arith, c.if-parts-rest.false, ap length c.requires.design) in
    c.line_after.ensures ∙ sym (line-unmarked c.args.source.now rest c.args.number all)
