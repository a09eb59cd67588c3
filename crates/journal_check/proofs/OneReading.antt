-- Lines that fit are told apart by their texts.
use Rattle.std.proofs.Common.{◌≡◌, ℕ, List, Option, Some, None, sym, ap, ◌∙◌}
use Rattle.typed_core.specs.declared.design.Parts.{Parts}
use Rattle.one_rule.specs.Stimulus.{InputVectors}
use Rattle.journal_check.specs.Fitting.{IsSmall, LineFits}
use Rattle.journal_check.specs.Printing.{line_text}
use Rattle.journal_check.specs.Reading.{HasPlainNames}
use Rattle.journal_check.specs.inner.Tokens.{line_at, tokens_of}
use Rattle.journal_check.specs.declared.line.JournalLine.{JournalLine}
use Rattle.journal_check.proofs.Cutting.{cut_line}
use Rattle.journal_check.proofs.ReadBack.{line_back}

-- the text of a line that fits is read as the line
pub text_back : (design : Parts) (stimulus : InputVectors) (workers : ℕ) (l : JournalLine) → HasPlainNames design → IsSmall workers → LineFits design stimulus workers l
    → line_at design stimulus (tokens_of (line_text design l)) ≡ Some l
text_back design stimulus workers l names small h = ap (line_at design stimulus) (cut_line design stimulus workers l names small h) ∙ line_back design stimulus workers l small h

abbrev given : {X : Type 0} → X → Option X → X
given x (Some y) = y
given x None = x

pub one_line : (design : Parts) (stimulus : InputVectors) (workers others : ℕ) (a b : JournalLine) → HasPlainNames design → IsSmall workers → IsSmall others → LineFits design stimulus workers a → LineFits design stimulus others b
    → line_text design a ≡ line_text design b → a ≡ b
one_line design stimulus workers others a b names small few h k same =
    ap (given a) (sym (text_back design stimulus workers a names small h) ∙ ap (λ (t : List ℕ). line_at design stimulus (tokens_of t)) same ∙ text_back design stimulus others b names few k)
