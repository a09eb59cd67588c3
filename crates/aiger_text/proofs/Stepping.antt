-- How lines of numbers that come in order lead from what is said before them to what is said after them.
use Rattle.std.proofs.Common.{◌≡◌, ℕ, suc, ◌*◌, ◌/◌, ◌%◌, ◌<◌, ◌≤◌, ◌^◌, Bool, true, false, ◌||◌, cond, List, [], ◌∷◌, ◌++◌, length, refl, sym, ap, ap₂, ◌∙◌, arith, append_assoc, Option, None, Some, Result, Ok, Err}
use Rattle.std.specs.Prelude.{◌≢◌, nat_eq, nat_lt}
use Rattle.std.specs.List.{AllByRecursion}
use Rattle.std.proofs.lemmas.Bool.{le-ltb, lt-ltb, ne_eqb}
use Rattle.kw_base.specs.declared.fault.Fault.{Fault}
use Rattle.stim_report.specs.Stimuli.{after, next_line}
use Rattle.aiger_text.specs.Cuts.{numbers_of}
use Rattle.aiger_text.specs.Drafts.{Draft, defined, draft_from, flaw_of, has_above, in_line, is_end, more_gates, more_inputs, more_latches, more_outputs, section_of, unless, with_gate, with_input, with_latch, with_line, with_output}
use Rattle.aiger_text.specs.Headers.{numbers_by, line_numbers}
use Rattle.aiger_text.specs.Places.{is_defined}
use Rattle.aiger_text.specs.Printing.{reset_text}
use Rattle.aiger_text.specs.declared.header.Header.{Header}
use Rattle.aiger_text.specs.declared.header.Section.{Section}
use Rattle.aiger_text.specs.declared.header.Section.TheVariants as sections
use Rattle.aiger_text.proofs.Drafting.{with_line-at}
use Rattle.aiger_text.proofs.PrintedLines.{AllSmall, numbers_line, numbers_of-decimals, words_of-numbers}
use Rattle.aiger_text.proofs.Ranges.{is_defined-range, range}

-- lines lead from one draft to another, whatever comes after them
abbrev pub Leads : Header → Draft → List (List ℕ) → Draft → Type 0
Leads h d lines new = (number : ℕ) (rest : List (List ℕ)) → (n : ℕ) × (draft_from h d number (lines ++ rest) ≡ draft_from h new n rest)

pub leads-none : (h : Header) (d : Draft) → Leads h d [] d
leads-none h d number rest = (number, refl)

pub leads-line : (h : Header) (d more new : Draft) (line : List ℕ) (lines : List (List ℕ)) → with_line h d line ≡ Ok more → is_end (section_of h d) line ≡ false → Leads h more lines new → Leads h d (line ∷ lines) new
leads-line h d more new line lines reads goes leads number rest =
    let next = leads (next_line number) rest in
    let others : Draft → Result Draft Fault = λ d. draft_from h d (next_line number) (lines ++ rest) in (
      next.0,
      ap (λ t. cond {A = Result Draft Fault} t (Ok d) (after (in_line (with_line h d line) number) others)) goes ∙ ap (λ r. after (in_line r number) others) reads ∙ next.1,
    )

pub leads-append : (h : Header) (d mid new : Draft) (xs ys : List (List ℕ)) → Leads h d xs mid → Leads h mid ys new → Leads h d (xs ++ ys) new
leads-append h d mid new xs ys a b number rest =
    let first = a number (ys ++ rest) in
    let second = b first.0 rest in
    (second.0, ap (draft_from h d number) (append_assoc xs ys rest) ∙ first.1 ∙ second.1)

-- ---- sections

abbrev section_by : (i l o g : Bool) → Section
section_by i l o g = cond i sections.Input (cond l sections.Latch (cond o sections.Output (cond g sections.Gate sections.Symbol)))

pub at-input : (h : Header) (d : Draft) → length d.inputs < h.inputs → section_of h d ≡ sections.Input
at-input h d some = ap (λ i. section_by i (nat_lt (length d.latches) h.latches) (nat_lt (length d.outputs) h.outputs) (nat_lt (length d.gates) h.gates)) (lt-ltb (length d.inputs) h.inputs some)

pub at-latch : (h : Header) (d : Draft) → h.inputs ≤ length d.inputs → length d.latches < h.latches → section_of h d ≡ sections.Latch
at-latch h d inputs some =
    ap₂ (λ i l. section_by i l (nat_lt (length d.outputs) h.outputs) (nat_lt (length d.gates) h.gates)) (le-ltb (length d.inputs) h.inputs inputs) (lt-ltb (length d.latches) h.latches some)

pub at-output : (h : Header) (d : Draft) → h.inputs ≤ length d.inputs → h.latches ≤ length d.latches → length d.outputs < h.outputs → section_of h d ≡ sections.Output
at-output h d inputs latches some =
    ap₂ (λ i l. section_by i l (nat_lt (length d.outputs) h.outputs) (nat_lt (length d.gates) h.gates)) (le-ltb (length d.inputs) h.inputs inputs) (le-ltb (length d.latches) h.latches latches)
    ∙ ap (λ o. section_by false false o (nat_lt (length d.gates) h.gates)) (lt-ltb (length d.outputs) h.outputs some)

pub at-gate : (h : Header) (d : Draft) → h.inputs ≤ length d.inputs → h.latches ≤ length d.latches → h.outputs ≤ length d.outputs → length d.gates < h.gates → section_of h d ≡ sections.Gate
at-gate h d inputs latches outputs some =
    ap₂ (λ i l. section_by i l (nat_lt (length d.outputs) h.outputs) (nat_lt (length d.gates) h.gates)) (le-ltb (length d.inputs) h.inputs inputs) (le-ltb (length d.latches) h.latches latches)
    ∙ ap₂ (λ o g. section_by false false o g) (le-ltb (length d.outputs) h.outputs outputs) (lt-ltb (length d.gates) h.gates some)

pub at-symbol : (h : Header) (d : Draft) → h.inputs ≤ length d.inputs → h.latches ≤ length d.latches → h.outputs ≤ length d.outputs → h.gates ≤ length d.gates → section_of h d ≡ sections.Symbol
at-symbol h d inputs latches outputs gates =
    ap₂ (λ i l. section_by i l (nat_lt (length d.outputs) h.outputs) (nat_lt (length d.gates) h.gates)) (le-ltb (length d.inputs) h.inputs inputs) (le-ltb (length d.latches) h.latches latches)
    ∙ ap₂ (λ o g. section_by false false o g) (le-ltb (length d.outputs) h.outputs outputs) (le-ltb (length d.gates) h.gates gates)

-- ---- lines without a fault

pub none_above : (most : ℕ) (lits : List ℕ) → AllByRecursion (λ (lit : ℕ). lit / 2 ≤ most) lits → has_above most lits ≡ false
none_above most [] all = refl
none_above most (lit ∷ lits) all = ap₂ (λ s t. s || t) (le-ltb most (lit / 2) all.0) (none_above most lits all.1)

-- the next variable is defined
pub flaw_of-none : (h : Header) (k : ℕ) (lits : List ℕ) (reset : ℕ) → AllByRecursion (λ (lit : ℕ). lit / 2 ≤ h.most) lits → reset ≤ 1 → flaw_of h (range 0 k) (2 * suc k) lits reset ≡ None
flaw_of-none h k lits reset all bit =
    let half : suc k ≡ 2 * suc k / 2 = omega arith in
    let fresh : is_defined (range 0 k) (2 * suc k / 2) ≡ false = ap (is_defined (range 0 k)) (sym half) ∙ is_defined-range 0 k (suc k) (omega arith) in
    let odd : 2 * suc k % 2 ≢ 1 = λ same. absurd (omega (arith, same)) in
    by (has_above h.most lits) (is_defined (range 0 k) (2 * suc k / 2)) (nat_lt (2 * suc k) 2) (nat_eq (2 * suc k % 2) 1) (nat_lt 1 reset) (none_above h.most lits all) fresh (le-ltb (2 * suc k) 2 (omega arith))
    (ne_eqb (2 * suc k % 2) 1 odd) (le-ltb 1 reset bit)
  where
    by : (a b c e f : Bool) → a ≡ false → b ≡ false → c ≡ false → e ≡ false → f ≡ false
        → cond {A = Option ℕ} a (Some 71) (cond {A = Option ℕ} b (Some 72) (cond {A = Option ℕ} (c || e) (Some 73) (cond {A = Option ℕ} f (Some 75) None))) ≡ None
    by a b c e f above twice low odd left = rw (above, twice, low, odd, left) refl

pub line_numbers-line : (first : ℕ) (others : List ℕ) → first < 2 ^ 63 → AllSmall others → line_numbers (numbers_line first others) ≡ numbers_by (Some (first ∷ others))
line_numbers-line first others small all = ap numbers_by (ap numbers_of (words_of-numbers first others small all) ∙ numbers_of-decimals (first ∷ others) (small, all))

-- ---- one line of each kind

pub input_line : (h : Header) (d : Draft) (k : ℕ) → d.variables ≡ range 0 k → length d.inputs < h.inputs → suc k ≤ h.most → 2 * suc k < 2 ^ 63 → with_line h d (numbers_line (2 * suc k) []) ≡ Ok (more_inputs (defined d (2 * suc k)))
input_line h d k are some fits small =
    with_line-at sections.Input h d (numbers_line (2 * suc k) []) (at-input h d some) ∙ ap (with_input h d) (line_numbers-line (2 * suc k) [] small tt)
    ∙ ap (λ flaw. unless flaw (more_inputs (defined d (2 * suc k)))) (ap (λ vs. flaw_of h vs (2 * suc k) (2 * suc k ∷ []) 0) are ∙ flaw_of-none h k (2 * suc k ∷ []) 0 (omega arith, tt) (omega arith))

pub latch_line_read : (h : Header) (d : Draft) (k next : ℕ) (reset : Bool) → d.variables ≡ range 0 k → h.inputs ≤ length d.inputs → length d.latches < h.latches → suc k ≤ h.most → next / 2 ≤ h.most → 2 * suc k < 2 ^ 63
    → next < 2 ^ 63 → with_line h d (numbers_line (2 * suc k) (next ∷ reset_text reset)) ≡ Ok (record d { variables = d.variables ++ 2 * suc k / 2 ∷ []; latches = d.latches ++ None ∷ []; nexts = d.nexts ++ next ∷ []; resets = d.resets ++ reset ∷ [] })
latch_line_read h d k next true are inputs some fits below small next_small =
    with_line-at sections.Latch h d (numbers_line (2 * suc k) (next ∷ 1 ∷ [])) (at-latch h d inputs some) ∙ ap (with_latch h d) (line_numbers-line (2 * suc k) (next ∷ 1 ∷ []) small (next_small, (omega arith, tt)))
    ∙ ap (λ flaw. unless flaw (more_latches next 1 (defined d (2 * suc k)))) (ap (λ vs. flaw_of h vs (2 * suc k) (2 * suc k ∷ next ∷ []) 1) are ∙ flaw_of-none h k (2 * suc k ∷ next ∷ []) 1 (omega arith, (below, tt)) (omega arith))
latch_line_read h d k next false are inputs some fits below small next_small =
    with_line-at sections.Latch h d (numbers_line (2 * suc k) (next ∷ [])) (at-latch h d inputs some) ∙ ap (with_latch h d) (line_numbers-line (2 * suc k) (next ∷ []) small (next_small, tt))
    ∙ ap (λ flaw. unless flaw (more_latches next 0 (defined d (2 * suc k)))) (ap (λ vs. flaw_of h vs (2 * suc k) (2 * suc k ∷ next ∷ []) 0) are ∙ flaw_of-none h k (2 * suc k ∷ next ∷ []) 0 (omega arith, (below, tt)) (omega arith))

pub output_line : (h : Header) (d : Draft) (lit : ℕ) → h.inputs ≤ length d.inputs → h.latches ≤ length d.latches → length d.outputs < h.outputs → lit / 2 ≤ h.most → lit < 2 ^ 63 → with_line h d (numbers_line lit []) ≡ Ok (more_outputs lit d)
output_line h d lit inputs latches some below small =
    with_line-at sections.Output h d (numbers_line lit []) (at-output h d inputs latches some) ∙ ap (with_output h d) (line_numbers-line lit [] small tt)
    ∙ ap (λ t. cond {A = Result Draft ℕ} t (Err 71) (Ok (more_outputs lit d))) (none_above h.most (lit ∷ []) (below, tt))

pub gate_line : (h : Header) (d : Draft) (k left right : ℕ) → d.variables ≡ range 0 k → h.inputs ≤ length d.inputs → h.latches ≤ length d.latches → h.outputs ≤ length d.outputs → length d.gates < h.gates → suc k ≤ h.most
    → left / 2 ≤ h.most → right / 2 ≤ h.most → 2 * suc k < 2 ^ 63 → left < 2 ^ 63 → right < 2 ^ 63 → with_line h d (numbers_line (2 * suc k) (left ∷ right ∷ [])) ≡ Ok (more_gates left right (defined d (2 * suc k)))
gate_line h d k left right are inputs latches outputs some fits l r small left_small right_small =
    with_line-at sections.Gate h d (numbers_line (2 * suc k) (left ∷ right ∷ [])) (at-gate h d inputs latches outputs some) ∙ ap (with_gate h d) (line_numbers-line (2 * suc k) (left ∷ right ∷ []) small (left_small, (right_small, tt)))
    ∙ ap (λ flaw. unless flaw (more_gates left right (defined d (2 * suc k)))) (ap (λ vs. flaw_of h vs (2 * suc k) (2 * suc k ∷ left ∷ right ∷ []) 0) are ∙ flaw_of-none h k (2 * suc k ∷ left ∷ right ∷ []) 0 (omega arith, (l, (r, tt))) (omega arith))
