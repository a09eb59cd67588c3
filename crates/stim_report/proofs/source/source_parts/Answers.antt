use Rattle.std.proofs.Common.{ℕ, List, sym, ap, ◌∙◌, subst, arith}
use Rattle.stim_report.specs.Cuts.{SourceParts}
use Rattle.kw_base.specs.Texts.{pieces_after}
use Rattle.kw_base.specs.declared.texts.Separator.TheVariants as at
use Rattle.stim_report.proofs.SourceInTurn.{HasPassed, design_is, few_pieces, is_next, one_passed, parts_marked, parts_unmarked, text_fits}
use Rattle.stim_report.proofs.source.source_parts.Goals as goal

pub overflow_sub-bytes : goal.overflow_sub-bytes
overflow_sub-bytes c =
    let l = c.loop-rest in
    let bytes = c.args.bytes.now in
    let text = c.in-Some.text.now in
    let line = c.cut.result.0.now in
    let behind = c.cut.result.1 in
    let passed = subst (λ (left : List (List ℕ)). HasPassed bytes l.lines left) (ap (pieces_after at.LineFeed) c.in-Some.is) l.invariant in
    let cut = subst (λ (left : List (List ℕ)). HasPassed bytes l.lines left) c.cut.ensures.pieces passed in
    let some = (is_next bytes l.lines line (pieces_after at.LineFeed behind) cut).0 in
    text_fits bytes text l.lines passed some

pub returns-then-is_mark-clause-design : goal.returns-then-is_mark-clause-design
returns-then-is_mark-clause-design c =
    let l = c.loop-rest in
    let bytes = c.args.bytes.now in
    let text = c.in-Some.text.now in
    let line = c.cut.result.0.now in
    let behind = c.cut.result.1 in
    let passed = subst (λ (left : List (List ℕ)). HasPassed bytes l.lines left) (ap (pieces_after at.LineFeed) c.in-Some.is) l.invariant in
    let cut = subst (λ (left : List (List ℕ)). HasPassed bytes l.lines left) c.cut.ensures.pieces passed in
    let some = (is_next bytes l.lines line (pieces_after at.LineFeed behind) cut).0 in
    let parts = parts_marked bytes line (pieces_after at.LineFeed behind) l.lines cut (sym c.is_mark.ensures ∙ c.if-is_mark.true) in
    c.split_at.ensures.front ∙ design_is bytes text l.lines passed some ∙ sym (ap (λ (p : SourceParts). p.design) parts)

pub returns-then-is_mark-clause-stimulus : goal.returns-then-is_mark-clause-stimulus
returns-then-is_mark-clause-stimulus c =
    let l = c.loop-rest in
    let bytes = c.args.bytes.now in
    let text = c.in-Some.text.now in
    let line = c.cut.result.0.now in
    let behind = c.cut.result.1 in
    let passed = subst (λ (left : List (List ℕ)). HasPassed bytes l.lines left) (ap (pieces_after at.LineFeed) c.in-Some.is) l.invariant in
    let cut = subst (λ (left : List (List ℕ)). HasPassed bytes l.lines left) c.cut.ensures.pieces passed in
    let some = (is_next bytes l.lines line (pieces_after at.LineFeed behind) cut).0 in
    let parts = parts_marked bytes line (pieces_after at.LineFeed behind) l.lines cut (sym c.is_mark.ensures ∙ c.if-is_mark.true) in
    c.text_behind.ensures ∙ sym (ap (λ (p : SourceParts). p.stimulus) parts)

pub returns-then-is_mark-clause-first_line : goal.returns-then-is_mark-clause-first_line
returns-then-is_mark-clause-first_line c =
    let l = c.loop-rest in
    let bytes = c.args.bytes.now in
    let text = c.in-Some.text.now in
    let line = c.cut.result.0.now in
    let behind = c.cut.result.1 in
    let passed = subst (λ (left : List (List ℕ)). HasPassed bytes l.lines left) (ap (pieces_after at.LineFeed) c.in-Some.is) l.invariant in
    let cut = subst (λ (left : List (List ℕ)). HasPassed bytes l.lines left) c.cut.ensures.pieces passed in
    let some = (is_next bytes l.lines line (pieces_after at.LineFeed behind) cut).0 in
    let parts = parts_marked bytes line (pieces_after at.LineFeed behind) l.lines cut (sym c.is_mark.ensures ∙ c.if-is_mark.true) in
    c.line_number.ensures ∙ sym (ap (λ (p : SourceParts). p.first_line) parts)

pub overflow_add-lines : goal.overflow_add-lines
overflow_add-lines c =
    let l = c.loop-rest in
    let bytes = c.args.bytes.now in
    let text = c.in-Some.text.now in
    let line = c.cut.result.0.now in
    let behind = c.cut.result.1 in
    let passed = subst (λ (left : List (List ℕ)). HasPassed bytes l.lines left) (ap (pieces_after at.LineFeed) c.in-Some.is) l.invariant in
    let cut = subst (λ (left : List (List ℕ)). HasPassed bytes l.lines left) c.cut.ensures.pieces passed in
    let some = (is_next bytes l.lines line (pieces_after at.LineFeed behind) cut).0 in
    omega (arith, some, few_pieces bytes, c.requires)

pub loop-rest-preserved : goal.loop-rest-preserved
loop-rest-preserved c =
    let l = c.loop-rest in
    let bytes = c.args.bytes.now in
    let text = c.in-Some.text.now in
    let line = c.cut.result.0.now in
    let behind = c.cut.result.1 in
    let passed = subst (λ (left : List (List ℕ)). HasPassed bytes l.lines left) (ap (pieces_after at.LineFeed) c.in-Some.is) l.invariant in
    let cut = subst (λ (left : List (List ℕ)). HasPassed bytes l.lines left) c.cut.ensures.pieces passed in
    let some = (is_next bytes l.lines line (pieces_after at.LineFeed behind) cut).0 in
    one_passed bytes l.lines line (pieces_after at.LineFeed behind) cut (sym c.is_mark.ensures ∙ c.if-is_mark.false)

pub returns-clause-design : goal.returns-clause-design
returns-clause-design c =
    let l = c.loop-rest in
    let passed = subst (λ (left : List (List ℕ)). HasPassed c.args.bytes.now l.lines left) (ap (pieces_after at.LineFeed) c.in_default.is) l.invariant in
    let parts = parts_unmarked c.args.bytes.now l.lines passed in
    sym (ap (λ (p : SourceParts). p.design) parts)

pub returns-clause-stimulus : goal.returns-clause-stimulus
returns-clause-stimulus c =
    let l = c.loop-rest in
    let passed = subst (λ (left : List (List ℕ)). HasPassed c.args.bytes.now l.lines left) (ap (pieces_after at.LineFeed) c.in_default.is) l.invariant in
    let parts = parts_unmarked c.args.bytes.now l.lines passed in
    sym (ap (λ (p : SourceParts). p.stimulus) parts)

pub returns-clause-first_line : goal.returns-clause-first_line
returns-clause-first_line c =
    let l = c.loop-rest in
    let passed = subst (λ (left : List (List ℕ)). HasPassed c.args.bytes.now l.lines left) (ap (pieces_after at.LineFeed) c.in_default.is) l.invariant in
    let parts = parts_unmarked c.args.bytes.now l.lines passed in
    c.line_number-end.ensures ∙ sym (ap (λ (p : SourceParts). p.first_line) parts)
