-- A journal that is printed is cut into its lines.
use Rattle.std.proofs.Common.{◌≡◌, ℕ, ◌-◌, ◌==◌, ◌&&◌, Bool, true, false, not, List, [], ◌∷◌, ◌++◌, length, map, take, refl, sym, ap, ap₂, ◌∙◌, append_assoc, true≢false, arith}
use Rattle.std.specs.Prelude.{if◌then◌else◌, slice_index}
use Rattle.std.specs.List.{AllByRecursion, list_all}
use Rattle.std.proofs.lemmas.Bool.{lt-ltb, ltb-true, ne_eqb}
use Rattle.std.proofs.lemmas.List.Sums.{AllPass-from_list_all}
use Rattle.typed_core.specs.declared.design.Parts.{Parts}
use Rattle.one_rule.specs.Stimulus.{InputVectors}
use Rattle.kw_base.specs.Texts.{ends_line, lines_of, without_return}
use Rattle.kw_base.proofs.Cutting.{lines_of-more, lines_of-nil, piece_first}
use Rattle.journal_check.specs.Fitting.{IsSmall, LineFits}
use Rattle.journal_check.specs.Journals.{lines_in}
use Rattle.journal_check.specs.Printing.{ended, journal_text, line_text, line_tokens, text_of}
use Rattle.journal_check.specs.Reading.{HasShownNames, is_shown}
use Rattle.journal_check.specs.declared.journal.Journal.{Journal}
use Rattle.journal_check.specs.declared.line.JournalLine.{JournalLine}
use Rattle.journal_check.proofs.Cutting.{HasVisible, joined_in, tokens_in}

visible_shown : HasVisible is_shown
visible_shown b h = lt-ltb 31 b (omega (arith, h))

-- a class of bytes within another
within : (p q : ℕ → Bool) → ((b : ℕ) → p b ≡ true → q b ≡ true) → (bytes : List ℕ) → list_all p bytes ≡ true → list_all q bytes ≡ true
within p q f [] h = refl
within p q f (b ∷ bytes) h = ap₂ (λ (a c : Bool). a && c) (f b (left (p b) (list_all p bytes) h)) (within p q f bytes (right (p b) (list_all p bytes) h))
  where
    left : (x y : Bool) → (x && y) ≡ true → x ≡ true
    left true y e = refl
    left false y e = absurd (true≢false (sym e))

    right : (x y : Bool) → (x && y) ≡ true → y ≡ true
    right true y e = e
    right false y e = absurd (true≢false (sym e))

no_feed : (b : ℕ) → is_shown b ≡ true → not (b == 10) ≡ true
no_feed b h = ap not (ne_eqb b 10 (λ e. absurd (omega (arith, e, ltb-true 31 b h))))

no_return : (b : ℕ) → is_shown b ≡ true → not (b == 13) ≡ true
no_return b h = ap not (ne_eqb b 13 (λ e. absurd (omega (arith, e, ltb-true 31 b h))))

not-true : (b : Bool) → not b ≡ true → b ≡ false
not-true true h = absurd (true≢false (sym h))
not-true false h = refl

-- a line without a carriage return stays
stays : (text : List ℕ) → list_all is_shown text ≡ true → without_return text ≡ text
stays [] h = refl
stays (b ∷ bytes) h =
    let text = b ∷ bytes in
    let last : (slice_index text (length text - 1) == 13) ≡ false =
    not-true (slice_index text (length text - 1) == 13) (AllPass-from_list_all (λ x. not (x == 13)) text (within is_shown (λ x. not (x == 13)) no_return text h) (length text - 1) 0 (omega arith)) in
    ap (λ (c : Bool). if c then take (length text - 1) text else text) last

-- the first line
cut_first : (text rest : List ℕ) → list_all is_shown text ≡ true → lines_of (ended text ++ rest) ≡ text ∷ lines_of rest
cut_first text rest h =
    lines_of-more (ended text ++ rest) text rest
    (piece_first ends_line (ended text ++ rest) text 10 rest (append_assoc text (10 ∷ []) rest)
    (λ k d some. not-true _ (AllPass-from_list_all (λ x. not (x == 10)) text (within is_shown (λ x. not (x == 10)) no_feed text h) k d some)) refl)
    ∙ ap (λ (t : List ℕ). t ∷ lines_of rest) (stays text h)

cut_lines : (design : Parts) (ls : List JournalLine) → AllByRecursion (λ (l : JournalLine). list_all is_shown (line_text design l) ≡ true) ls → lines_of (text_of design ls) ≡ map (line_text design) ls
cut_lines design [] all = lines_of-nil
cut_lines design (l ∷ ls) all = cut_first (line_text design l) (text_of design ls) all.0 ∙ ap (λ (ts : List (List ℕ)). line_text design l ∷ ts) (cut_lines design ls all.1)

lines_shown : (design : Parts) (stimulus : InputVectors) (workers : ℕ) → HasShownNames design → IsSmall workers → (ls : List JournalLine) → AllByRecursion (LineFits design stimulus workers) ls
    → AllByRecursion (λ (l : JournalLine). list_all is_shown (line_text design l) ≡ true) ls
lines_shown design stimulus workers names small [] all = tt
lines_shown design stimulus workers names small (l ∷ ls) all = (
  joined_in is_shown refl (line_tokens design l) (tokens_in is_shown visible_shown design (record { registers = names.registers; rules = names.rules }) stimulus workers l small all.0),
  lines_shown design stimulus workers names small ls all.1,
)

pub printed_is_cut : (design : Parts) (stimulus : InputVectors) (journal : Journal) → HasShownNames design → AllByRecursion (LineFits design stimulus journal.workers) (lines_in journal)
    → lines_of (journal_text design journal) ≡ map (line_text design) (lines_in journal)
printed_is_cut design stimulus journal names fit =
    let small : IsSmall journal.workers = omega (arith, fit.0.1) in
    cut_lines design (lines_in journal) (lines_shown design stimulus journal.workers names small (lines_in journal) fit)
