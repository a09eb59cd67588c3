-- A circuit that is read from an AIGER text has at most one word of inputs more than the text has bytes.
use Rattle.std.proofs.Common.{◌≡◌, ℕ, zero, suc, ◌+◌, ◌≤◌, Bool, true, false, cond, List, [], ◌∷◌, length, Option, None, Some, Result, Ok, Err, refl, sym, ap, subst, ◌∙◌, arith}
use Rattle.std.specs.Prelude.{count_by, nat_eq, nat_lt}
use Rattle.std.proofs.lemmas.List.{length-map, length_push}
use Rattle.std.proofs.lemmas.List.Splits.{length-slice_split}
use Rattle.std.proofs.lemmas.List.Sums.{length-filter}
use Rattle.std.specs.List.{slice_split}
use Rattle.kw_base.specs.Texts.{but_empty_last, ends_line}
use Rattle.kw_base.specs.declared.fault.Fault.{Fault}
use Rattle.aig_blast.specs.Aigs.{AigParts}
use Rattle.aig_blast.specs.declared.aig.InputWord.{InputWord}
use Rattle.aig_blast.specs.declared.gate.Gate.{Gate}
use Rattle.aiger_text.specs.Cuts.{lines_of, decimal_number, numbers_of, without_returns}
use Rattle.aiger_text.specs.Cuts as cuts
use Rattle.aiger_text.specs.Drafts.{Draft, defined, draft_by, draft_from, draft_in, draft_of, ended, fault_in, flaw_of, has_above, in_line, is_end, more_gates, more_inputs, more_latches, more_outputs, name_after, named_at, no_lines, output_by, put_symbol, section_of, symbol_at, symbol_by, symbol_of, unless, with_gate, with_input, with_latch, with_line, with_line_in, with_output, word_before}
use Rattle.aiger_text.specs.Headers.{header_of, numbers_by}
use Rattle.aiger_text.specs.Reading.{aig_by, aig_of, gates_of, lits_of, nexts_of, parts_by}
use Rattle.aiger_text.specs.Runs.{WordRun, begun, goes_on, wider, words_from, words_of_bits}
use Rattle.aiger_text.proofs.Lines.{aig_by-parts, parts_from}
use Rattle.btor2_net.proofs.FewLines.{filter-fewer, count-fewer}
use Rattle.stim_report.specs.Stimuli.{after, next_line}

-- ---- one line

-- there is at most one input more
abbrev Grows : Draft → Draft → Type 0
Grows d new = length new.inputs ≤ length d.inputs + 1

kept : (d : Draft) → Grows d d
kept d = omega arith

unless-grows : (found : Option ℕ) (d made new : Draft) → Grows d made → unless found made ≡ Ok new → Grows d new
unless-grows None d made new h is = let same : made ≡ new = cc in subst (Grows d) same h
unless-grows (Some fault) d made new h is = absurd (cc)

input-grows : (h : _) (d new : Draft) (line : Option (List ℕ)) → with_input h d (numbers_by line) ≡ Ok new → Grows d new
input-grows h d new None reads = absurd (cc)
input-grows h d new (Some []) reads = absurd (cc)
input-grows h d new (Some (lit ∷ [])) reads =
    unless-grows (flaw_of h d.variables lit (lit ∷ []) 0) d (more_inputs (defined d lit)) new (omega (arith, length_push d.inputs None)) reads
input-grows h d new (Some (a ∷ b ∷ [])) reads = absurd (cc)
input-grows h d new (Some (a ∷ b ∷ c ∷ [])) reads = absurd (cc)
input-grows h d new (Some (a ∷ b ∷ c ∷ e ∷ more)) reads = absurd (cc)

latch-grows : (h : _) (d new : Draft) (line : Option (List ℕ)) → with_latch h d (numbers_by line) ≡ Ok new → Grows d new
latch-grows h d new None reads = absurd (cc)
latch-grows h d new (Some []) reads = absurd (cc)
latch-grows h d new (Some (a ∷ [])) reads = absurd (cc)
latch-grows h d new (Some (lit ∷ next ∷ [])) reads = unless-grows (flaw_of h d.variables lit (lit ∷ next ∷ []) 0) d (more_latches next 0 (defined d lit)) new (kept d) reads
latch-grows h d new (Some (lit ∷ next ∷ reset ∷ [])) reads = unless-grows (flaw_of h d.variables lit (lit ∷ next ∷ []) reset) d (more_latches next reset (defined d lit)) new (kept d) reads
latch-grows h d new (Some (a ∷ b ∷ c ∷ e ∷ more)) reads = absurd (cc)

output_by-grows : (h : _) (d new : Draft) (lit : ℕ) → output_by h d lit ≡ Ok new → Grows d new
output_by-grows h d new lit reads = by (has_above h.most (lit ∷ [])) reads
  where
    by : (t : Bool) → cond {A = Result Draft ℕ} t (Err 71) (Ok (more_outputs lit d)) ≡ Ok new → Grows d new
    by true reads = absurd (cc)
    by false reads = let same : more_outputs lit d ≡ new = cc in subst (Grows d) same (kept d)

output-grows : (h : _) (d new : Draft) (line : Option (List ℕ)) → with_output h d (numbers_by line) ≡ Ok new → Grows d new
output-grows h d new None reads = absurd (cc)
output-grows h d new (Some []) reads = absurd (cc)
output-grows h d new (Some (lit ∷ [])) reads = output_by-grows h d new lit reads
output-grows h d new (Some (a ∷ b ∷ [])) reads = absurd (cc)
output-grows h d new (Some (a ∷ b ∷ c ∷ [])) reads = absurd (cc)
output-grows h d new (Some (a ∷ b ∷ c ∷ e ∷ more)) reads = absurd (cc)

gate-grows : (h : _) (d new : Draft) (line : Option (List ℕ)) → with_gate h d (numbers_by line) ≡ Ok new → Grows d new
gate-grows h d new None reads = absurd (cc)
gate-grows h d new (Some []) reads = absurd (cc)
gate-grows h d new (Some (a ∷ [])) reads = absurd (cc)
gate-grows h d new (Some (a ∷ b ∷ [])) reads = absurd (cc)
gate-grows h d new (Some (lit ∷ left ∷ right ∷ [])) reads = unless-grows (flaw_of h d.variables lit (lit ∷ left ∷ right ∷ []) 0) d (more_gates left right (defined d lit)) new (kept d) reads
gate-grows h d new (Some (a ∷ b ∷ c ∷ e ∷ more)) reads = absurd (cc)

-- a symbol is no input more
length-named_at : (symbols : List (Option (List ℕ))) (k : ℕ) (name : List ℕ) → length (named_at symbols k name) ≡ length symbols
length-named_at [] k name = refl
length-named_at (symbol ∷ symbols) zero name = refl
length-named_at (symbol ∷ symbols) (suc k) name = ap suc (length-named_at symbols k name)

put-grows : (d new : Draft) (symbols : List (Option (List ℕ))) (k : ℕ) (name : List ℕ) (f : List (Option (List ℕ)) → Draft) → Grows d (f (named_at symbols k name))
    → after (put_symbol symbols k name) (λ named. Ok (f named)) ≡ Ok new → Grows d new
put-grows d new symbols k name f grows is = by (nat_lt k (length symbols)) is
  where
    by : (t : Bool) → after (cond {A = Result (List (Option (List ℕ))) ℕ} t (Ok (named_at symbols k name)) (Err 70)) (λ named. Ok (f named)) ≡ Ok new → Grows d new
    by true is = let same : f (named_at symbols k name) ≡ new = cc in subst (Grows d) same grows
    by false is = absurd (cc)

symbol_by-grows : (d new : Draft) (kind k : ℕ) (name : List ℕ) → symbol_by d kind k name ≡ Ok new → Grows d new
symbol_by-grows d new kind k name reads = by (nat_eq kind 105) (nat_eq kind 108) (nat_eq kind 111) reads
  where
    by : (i l o : Bool)
        → cond i (after (put_symbol d.inputs k name) (λ inputs. Ok (record d { inputs = inputs })))
        (cond l (after (put_symbol d.latches k name) (λ latches. Ok (record d { latches = latches })))
        (cond {A = Result Draft ℕ} o (after (put_symbol d.outputs k name) (λ outputs. Ok (record d { outputs = outputs }))) (Err 70))) ≡ Ok new → Grows d new
    by true l o reads = put-grows d new d.inputs k name (λ inputs. record d { inputs = inputs }) (omega (arith, length-named_at d.inputs k name)) reads
    by false true o reads = put-grows d new d.latches k name (λ latches. record d { latches = latches }) (kept d) reads
    by false false true reads = put-grows d new d.outputs k name (λ outputs. record d { outputs = outputs }) (kept d) reads
    by false false false reads = absurd (cc)

symbol_at-grows : (d new : Draft) (kind : ℕ) (index : Option ℕ) (name : List ℕ) → symbol_at d kind index name ≡ Ok new → Grows d new
symbol_at-grows d new kind None name reads = absurd (cc)
symbol_at-grows d new kind (Some k) [] reads = absurd (cc)
symbol_at-grows d new kind (Some k) (b ∷ bytes) reads = symbol_by-grows d new kind k (b ∷ bytes) reads

symbol_of-grows : (d new : Draft) (word name : List ℕ) → symbol_of d word name ≡ Ok new → Grows d new
symbol_of-grows d new [] name reads = absurd (cc)
symbol_of-grows d new (kind ∷ digits) name reads = symbol_at-grows d new kind (decimal_number digits) name reads

-- a line is of one of two sections, as a test says
line-of : (h : _) (d new : Draft) (line : List ℕ) (t : Bool) (x y : _) → (with_line_in x h d line ≡ Ok new → Grows d new) → (with_line_in y h d line ≡ Ok new → Grows d new) → with_line_in (cond t x y) h d line ≡ Ok new → Grows d new
line-of h d new line true x y one other = one
line-of h d new line false x y one other = other

line-grows : (h : _) (d new : Draft) (line : List ℕ) → with_line h d line ≡ Ok new → Grows d new
unfolding with_line
line-grows h d new line =
    let numbers : Option (List ℕ) = numbers_of (cuts.words_of line) in
    line-of h d new line (nat_lt (length d.inputs) h.inputs) _ _ (input-grows h d new numbers)
    (line-of h d new line (nat_lt (length d.latches) h.latches) _ _ (latch-grows h d new numbers)
    (line-of h d new line (nat_lt (length d.outputs) h.outputs) _ _ (output-grows h d new numbers)
    (line-of h d new line (nat_lt (length d.gates) h.gates) _ _ (gate-grows h d new numbers)
    (symbol_of-grows d new (word_before line) (name_after line)))))

-- ---- all lines

-- there are at most so many inputs more
abbrev GrowsBy : ℕ → Draft → Draft → Type 0
GrowsBy count d new = length new.inputs ≤ length d.inputs + count

-- the end is in one of two sections, as a test says
end-of : (d new : Draft) (number : ℕ) (t : Bool) (x y : _) → (ended x d number ≡ Ok new → GrowsBy 0 d new) → (ended y d number ≡ Ok new → GrowsBy 0 d new) → ended (cond t x y) d number ≡ Ok new → GrowsBy 0 d new
end-of d new number true x y one other = one
end-of d new number false x y one other = other

no-end : (d new : Draft) (number : ℕ) → Err (fault_in 70 number) ≡ Ok new → GrowsBy 0 d new
no-end d new number is = absurd (cc)

at-end : (d new : Draft) (all : Result Draft Fault) → all ≡ Ok d → all ≡ Ok new → GrowsBy 0 d new
at-end d new all here is = let same : d ≡ new = cc in subst (GrowsBy 0 d) same (omega arith)

end-grows : (h : _) (d new : Draft) (number : ℕ) → ended (section_of h d) d number ≡ Ok new → GrowsBy 0 d new
end-grows h d new number =
    end-of d new number (nat_lt (length d.inputs) h.inputs) _ _ (no-end d new number)
    (end-of d new number (nat_lt (length d.latches) h.latches) _ _ (no-end d new number)
    (end-of d new number (nat_lt (length d.outputs) h.outputs) _ _ (no-end d new number)
    (end-of d new number (nat_lt (length d.gates) h.gates) _ _ (no-end d new number) (at-end d new (Ok d) refl))))

lines-grow : (h : _) (d new : Draft) (number : ℕ) (lines : List (List ℕ)) → draft_from h d number lines ≡ Ok new → GrowsBy (length lines) d new
lines-grow h d new number [] is = end-grows h d new number is
lines-grow h d new number (line ∷ lines) is =
    by (λ more. lines-grow h more new (next_line number) lines) (is_end (section_of h d) line) (with_line h d line) refl is
  where
    by : ((more : Draft) → draft_from h more (next_line number) lines ≡ Ok new → GrowsBy (length lines) more new) → (t : Bool) (r : Result Draft ℕ) → with_line h d line ≡ r
        → cond {A = Result Draft Fault} t (Ok d) (after (in_line r number) (λ more. draft_from h more (next_line number) lines)) ≡ Ok new → GrowsBy (suc (length lines)) d new
    by goes true r reads is = let same : d ≡ new = cc in subst (GrowsBy (suc (length lines)) d) same (omega arith)
    by goes false (Ok more) reads is = omega (arith, line-grows h d more line reads, goes more is)
    by goes false (Err fault) reads is = absurd (cc)

-- a text has at most one line more than bytes
fewer-pieces : (pieces : List (List ℕ)) → length (but_empty_last pieces) ≤ length pieces
fewer-pieces [] = omega arith
fewer-pieces ([] ∷ []) = omega arith
fewer-pieces ([] ∷ (piece ∷ pieces)) = omega (arith, fewer-pieces (piece ∷ pieces))
fewer-pieces ((b ∷ bytes) ∷ pieces) = omega (arith, fewer-pieces pieces)

few-lines : (text : List ℕ) → length (lines_of text) ≤ length text + 1
unfolding lines_of
few-lines text =
    let pieces : List (List ℕ) = slice_split ends_line text in
    omega (arith, length-map (but_empty_last pieces) without_returns, fewer-pieces pieces, length-slice_split ends_line text, count-fewer ends_line text)

few-drafted : (text : List ℕ) (d : Draft) → draft_of text ≡ Ok d → length d.inputs ≤ length text + 1
unfolding draft_of
few-drafted text d is = by (lines_of text) (few-lines text) is
  where
    found : (h : Option _) (lines : List (List ℕ)) → suc (length lines) ≤ length text + 1 → draft_by h lines ≡ Ok d → length d.inputs ≤ length text + 1
    found None lines few is = absurd (cc)
    found (Some h) lines few is =
        let grown : length d.inputs ≤ 0 + length lines = lines-grow h no_lines d 2 lines is in
        omega (arith, few, grown)

    by : (lines : List (List ℕ)) → length lines ≤ length text + 1 → draft_in lines ≡ Ok d → length d.inputs ≤ length text + 1
    by [] few is = absurd (cc)
    by (line ∷ lines) few is = found (header_of (cuts.words_of line)) lines few is

-- ---- words

one-of : (t : Bool) (xs ys : List InputWord) (n : ℕ) → length xs ≤ n → length ys ≤ n → length (cond t xs ys) ≤ n
one-of true xs ys n h k = h
one-of false xs ys n h k = k

few-from : (kind index : ℕ) (run : WordRun) (symbols : List (Option (List ℕ))) → length (words_from kind index run symbols) ≤ suc (length symbols)
few-from kind index run [] = omega arith
few-from kind index run (symbol ∷ symbols) =
    let wide : List InputWord = words_from kind (index + 1) (wider run) symbols in
    let others : List InputWord = words_from kind (index + 1) (begun kind index symbol) symbols in
    one-of (goes_on run symbol) wide (run.word ∷ others) (suc (suc (length symbols))) (omega (arith, few-from kind (index + 1) (wider run) symbols))
    (omega (arith, few-from kind (index + 1) (begun kind index symbol) symbols))

few-of : (kind : ℕ) (symbols : List (Option (List ℕ))) → length (words_of_bits kind symbols) ≤ length symbols
unfolding words_of_bits
few-of kind [] = omega arith
few-of kind (symbol ∷ symbols) = few-from kind 1 (begun kind 0 symbol) symbols

-- the words of inputs of a circuit
words-in : (d : Draft) (a : AigParts) (nexts lits : Result (List ℕ) Fault) (gates : Result (List Gate) Fault) → parts_from d nexts lits gates ≡ Ok a → a.inputs ≡ words_of_bits 105 d.inputs
words-in d a (Ok nexts) (Ok lits) (Ok gates) is = let same : parts_by d nexts lits gates ≡ a = cc in sym (ap (λ (a : AigParts). a.inputs) same)
words-in d a (Ok nexts) (Ok lits) (Err fault) is = absurd (cc)
words-in d a (Ok nexts) (Err fault) gates is = absurd (cc)
words-in d a (Err fault) lits gates is = absurd (cc)

pub few-words : (text : List ℕ) (a : AigParts) → aig_of text ≡ Ok a → length a.inputs ≤ length text + 1
unfolding aig_of
few-words text a is = by (draft_of text) refl is
  where
    by : (r : Result Draft Fault) → draft_of text ≡ r → after r aig_by ≡ Ok a → length a.inputs ≤ length text + 1
    by (Ok d) reads is =
        let words = words-in d a (nexts_of d) (lits_of d) (gates_of d) (sym (aig_by-parts d) ∙ is) in
        omega (arith, few-drafted text d reads, few-of 105 d.inputs, ap length words)
    by (Err fault) reads is = absurd (cc)
