-- What holds of what the lines of an AIGER text say.
use Rattle.std.proofs.Common.{◌≡◌, ℕ, zero, suc, ◌/◌, ◌%◌, ◌≤◌, Bool, true, false, ◌||◌, cond, List, [], ◌∷◌, ◌++◌, length, Option, None, Some, Result, Ok, Err, refl, sym, ap, subst, ◌∙◌, arith}
use Rattle.std.specs.Prelude.{◌≢◌, nat_eq, nat_lt}
use Rattle.std.specs.List.{AllByRecursion}
use Rattle.std.proofs.lemmas.Bool.{eqb-false, ltb-false, ne_eqb, or_from, or_parts}
use Rattle.std.proofs.lemmas.List.{length_push}
use Rattle.kw_base.specs.declared.fault.Fault.{Fault}
use Rattle.aig_blast.specs.Aigs.{IsSymbol}
use Rattle.stim_report.specs.Stimuli.{after, next_line}
use Rattle.aiger_text.specs.Cuts.{lines_of, decimal_number, words_of}
use Rattle.aiger_text.specs.Drafts.{Draft, defined, draft_by, draft_from, draft_in, draft_of, ended, flaw_of, has_above, in_line, is_end, more_gates, more_inputs, more_latches, more_outputs, name_after, named_at, no_lines, output_by, put_symbol, section_of, symbol_at, symbol_by, symbol_of, unless, with_gate, with_input, with_latch, with_line, with_line_in, with_output, word_before}
use Rattle.aiger_text.specs.Headers.{header_of, line_numbers}
use Rattle.aiger_text.specs.Places.{is_defined}
use Rattle.aiger_text.specs.inner.Sound.{AreApart, AreSymbols, IsDraft}
use Rattle.aiger_text.specs.declared.header.Header.{Header}
use Rattle.aiger_text.specs.declared.header.Section.{Section}
use Rattle.aiger_text.specs.declared.header.Section.TheVariants as sections
use Rattle.aiger_text.specs.declared.numbers.LineNumbers.{LineNumbers}
use Rattle.aiger_text.specs.declared.numbers.LineNumbers.TheVariants as numbers
use Rattle.aiger_text.proofs.Drafting.{with_line-at}
use Rattle.aiger_text.proofs.LineEnds.{IsLine, IsSymbol-after, lines_of-lines}

-- an item without a symbol more
unnamed-more : (symbols : List (Option (List ℕ))) → AreSymbols symbols → AreSymbols (symbols ++ None ∷ [])
unnamed-more [] all = (tt, tt)
unnamed-more (symbol ∷ symbols) all = (all.0, unnamed-more symbols all.1)

unless-ok : (found : Option ℕ) (d new : Draft) → unless found d ≡ Ok new → d ≡ new
unless-ok None d new is = cc
unless-ok (Some fault) d new is = absurd (cc)

-- a literal defines a variable that no line defines so far
record IsFresh (variables : List ℕ) (lit : ℕ) : Type 0 where
  some : lit / 2 ≢ 0
  other : is_defined variables (lit / 2) ≡ false

-- a line without a fault defines such a one
flaw-fresh : (h : Header) (variables : List ℕ) (lit : ℕ) (lits : List ℕ) (reset : ℕ) (d new : Draft) → unless (flaw_of h variables lit lits reset) d ≡ Ok new → IsFresh variables lit
flaw-fresh h variables lit lits reset d new is =
    by (has_above h.most lits) (is_defined variables (lit / 2)) (nat_lt lit 2) (nat_eq (lit % 2) 1) (nat_lt 1 reset) refl refl is
  where
    by : (a b c e f : Bool) → is_defined variables (lit / 2) ≡ b → nat_lt lit 2 ≡ c
        → unless (cond {A = Option ℕ} a (Some 71) (cond {A = Option ℕ} b (Some 72) (cond {A = Option ℕ} (c || e) (Some 73) (cond {A = Option ℕ} f (Some 75) None)))) d ≡ Ok new
        → IsFresh variables lit
    by true b c e f twice low is = absurd (cc)
    by false true c e f twice low is = absurd (cc)
    by false false true e f twice low is = absurd (cc)
    by false false false e f twice low is =
        let above : 2 ≤ lit = ltb-false lit 2 low in
        record { some = λ none. absurd (omega (arith, above, none)); other = twice }

-- a variable more that is apart from all
defined-push : (variables : List ℕ) (v w : ℕ) → is_defined variables v ≡ false → nat_eq v w ≡ false → is_defined (variables ++ w ∷ []) v ≡ false
defined-push [] v w fresh other = or_from (nat_eq v w) false other refl
defined-push (x ∷ variables) v w fresh other =
    let parts = or_parts (nat_eq v x) (is_defined variables v) fresh in
    or_from (nat_eq v x) (is_defined (variables ++ w ∷ []) v) parts.0 (defined-push variables v w parts.1 other)

apart-push : (variables : List ℕ) (w : ℕ) → AreApart variables → w ≢ 0 → is_defined variables w ≡ false → AreApart (variables ++ w ∷ [])
apart-push [] w all some fresh = (some, (refl, tt))
apart-push (v ∷ variables) w all some fresh =
    let parts = or_parts (nat_eq w v) (is_defined variables w) fresh in
    let other : nat_eq v w ≡ false = ne_eqb v w (λ same. eqb-false w v parts.0 (sym same)) in
    (all.0, (defined-push variables v w all.1.0 other, apart-push variables w all.1.1 some parts.1))

fresh-push : (d : Draft) (lit : ℕ) → IsDraft d → IsFresh d.variables lit → AreApart (d.variables ++ lit / 2 ∷ [])
fresh-push d lit draft fresh = apart-push d.variables (lit / 2) draft.apart fresh.some fresh.other

input-sound : (d : Draft) (lit : ℕ) → IsFresh d.variables lit → IsDraft d → IsDraft (more_inputs (defined d lit))
input-sound d lit fresh draft = record {
  inputs = unnamed-more d.inputs draft.inputs;
  latches = draft.latches;
  outputs = draft.outputs;
  nexts = draft.nexts;
  resets = draft.resets;
  lits = draft.lits;
  variables = omega (arith, draft.variables, length_push d.variables (lit / 2), length_push d.inputs None);
  apart = fresh-push d lit draft fresh;
}

latch-sound : (d : Draft) (lit next reset : ℕ) → IsFresh d.variables lit → IsDraft d → IsDraft (more_latches next reset (defined d lit))
latch-sound d lit next reset fresh draft = record {
  inputs = draft.inputs;
  latches = unnamed-more d.latches draft.latches;
  outputs = draft.outputs;
  nexts = omega (arith, draft.nexts, length_push d.nexts next, length_push d.latches None);
  resets = omega (arith, draft.resets, length_push d.resets (nat_eq reset 1), length_push d.latches None);
  lits = draft.lits;
  variables = omega (arith, draft.variables, length_push d.variables (lit / 2), length_push d.latches None);
  apart = fresh-push d lit draft fresh;
}

output-sound : (d : Draft) (lit : ℕ) → IsDraft d → IsDraft (more_outputs lit d)
output-sound d lit draft = record {
  inputs = draft.inputs;
  latches = draft.latches;
  outputs = unnamed-more d.outputs draft.outputs;
  nexts = draft.nexts;
  resets = draft.resets;
  lits = omega (arith, draft.lits, length_push d.lits lit, length_push d.outputs None);
  variables = draft.variables;
  apart = draft.apart;
}

gate-sound : (d : Draft) (lit left right : ℕ) → IsFresh d.variables lit → IsDraft d → IsDraft (more_gates left right (defined d lit))
gate-sound d lit left right fresh draft = record {
  inputs = draft.inputs;
  latches = draft.latches;
  outputs = draft.outputs;
  nexts = draft.nexts;
  resets = draft.resets;
  lits = draft.lits;
  variables = omega (arith, draft.variables, length_push d.variables (lit / 2), length_push d.gates (record { left = left; right = right }));
  apart = fresh-push d lit draft fresh;
}

-- a symbol more
named_at-symbols : (symbols : List (Option (List ℕ))) (k : ℕ) (name : List ℕ) → IsSymbol name → AreSymbols symbols → AreSymbols (named_at symbols k name)
named_at-symbols [] k name is all = tt
named_at-symbols (None ∷ symbols) zero name is all = (is, all.1)
named_at-symbols (Some symbol ∷ symbols) zero name is all = all
named_at-symbols (symbol ∷ symbols) (suc k) name is all = (all.0, named_at-symbols symbols k name is all.1)

length-named_at : (symbols : List (Option (List ℕ))) (k : ℕ) (name : List ℕ) → length (named_at symbols k name) ≡ length symbols
length-named_at [] k name = refl
length-named_at (symbol ∷ symbols) zero name = refl
length-named_at (symbol ∷ symbols) (suc k) name = ap suc (length-named_at symbols k name)

put-sound : (symbols : List (Option (List ℕ))) (k : ℕ) (name : List ℕ) (f : List (Option (List ℕ)) → Draft) (new : Draft) → IsDraft (f (named_at symbols k name)) → after (put_symbol symbols k name) (λ named. Ok (f named)) ≡ Ok new
    → IsDraft new
put-sound symbols k name f new draft is = by (nat_lt k (length symbols)) is
  where
    by : (t : Bool) → after (cond {A = Result (List (Option (List ℕ))) ℕ} t (Ok (named_at symbols k name)) (Err 70)) (λ named. Ok (f named)) ≡ Ok new → IsDraft new
    by true is = let same : f (named_at symbols k name) ≡ new = cc in subst IsDraft same draft
    by false is = absurd (cc)

inputs-named : (d : Draft) (k : ℕ) (name : List ℕ) → IsSymbol name → IsDraft d → IsDraft (record d { inputs = named_at d.inputs k name })
inputs-named d k name is draft = record {
  inputs = named_at-symbols d.inputs k name is draft.inputs;
  latches = draft.latches;
  outputs = draft.outputs;
  nexts = draft.nexts;
  resets = draft.resets;
  lits = draft.lits;
  variables = omega (arith, draft.variables, length-named_at d.inputs k name);
  apart = draft.apart;
}

latches-named : (d : Draft) (k : ℕ) (name : List ℕ) → IsSymbol name → IsDraft d → IsDraft (record d { latches = named_at d.latches k name })
latches-named d k name is draft = record {
  inputs = draft.inputs;
  latches = named_at-symbols d.latches k name is draft.latches;
  outputs = draft.outputs;
  nexts = omega (arith, draft.nexts, length-named_at d.latches k name);
  resets = omega (arith, draft.resets, length-named_at d.latches k name);
  lits = draft.lits;
  variables = omega (arith, draft.variables, length-named_at d.latches k name);
  apart = draft.apart;
}

outputs-named : (d : Draft) (k : ℕ) (name : List ℕ) → IsSymbol name → IsDraft d → IsDraft (record d { outputs = named_at d.outputs k name })
outputs-named d k name is draft = record {
  inputs = draft.inputs;
  latches = draft.latches;
  outputs = named_at-symbols d.outputs k name is draft.outputs;
  nexts = draft.nexts;
  resets = draft.resets;
  lits = omega (arith, draft.lits, length-named_at d.outputs k name);
  variables = draft.variables;
  apart = draft.apart;
}

symbol_by-sound : (d new : Draft) (kind k : ℕ) (name : List ℕ) → IsSymbol name → IsDraft d → symbol_by d kind k name ≡ Ok new → IsDraft new
symbol_by-sound d new kind k name is draft reads = by (nat_eq kind 105) (nat_eq kind 108) (nat_eq kind 111) reads
  where
    by : (i l o : Bool)
        → cond i (after (put_symbol d.inputs k name) (λ inputs. Ok (record d { inputs = inputs })))
        (cond l (after (put_symbol d.latches k name) (λ latches. Ok (record d { latches = latches })))
        (cond {A = Result Draft ℕ} o (after (put_symbol d.outputs k name) (λ outputs. Ok (record d { outputs = outputs }))) (Err 70))) ≡ Ok new → IsDraft new
    by true l o reads = put-sound d.inputs k name (λ inputs. record d { inputs = inputs }) new (inputs-named d k name is draft) reads
    by false true o reads = put-sound d.latches k name (λ latches. record d { latches = latches }) new (latches-named d k name is draft) reads
    by false false true reads = put-sound d.outputs k name (λ outputs. record d { outputs = outputs }) new (outputs-named d k name is draft) reads
    by false false false reads = absurd (cc)

symbol_at-sound : (d new : Draft) (kind : ℕ) (index : Option ℕ) (name : List ℕ) → (name ≢ [] → IsSymbol name) → IsDraft d → symbol_at d kind index name ≡ Ok new → IsDraft new
symbol_at-sound d new kind None name is draft reads = absurd (cc)
symbol_at-sound d new kind (Some k) [] is draft reads = absurd (cc)
symbol_at-sound d new kind (Some k) (b ∷ bytes) is draft reads = symbol_by-sound d new kind k (b ∷ bytes) (is (λ none. absurd (cc))) draft reads

symbol_of-sound : (d new : Draft) (word name : List ℕ) → (name ≢ [] → IsSymbol name) → IsDraft d → symbol_of d word name ≡ Ok new → IsDraft new
symbol_of-sound d new [] name is draft reads = absurd (cc)
symbol_of-sound d new (kind ∷ digits) name is draft reads = symbol_at-sound d new kind (decimal_number digits) name is draft reads

-- a line more
with_input-sound : (h : Header) (d new : Draft) (line : LineNumbers) → IsDraft d → with_input h d line ≡ Ok new → IsDraft new
with_input-sound h d new (numbers.One lit) draft reads = subst IsDraft (unless-ok (flaw_of h d.variables lit (lit ∷ []) 0) (more_inputs (defined d lit)) new reads) (input-sound d lit (flaw-fresh h d.variables lit (lit ∷ []) 0 (more_inputs (defined d lit)) new reads) draft)
with_input-sound h d new (numbers.Two a b) draft reads = absurd (cc)
with_input-sound h d new (numbers.Three a b c) draft reads = absurd (cc)
with_input-sound h d new numbers.Other draft reads = absurd (cc)

with_latch-sound : (h : Header) (d new : Draft) (line : LineNumbers) → IsDraft d → with_latch h d line ≡ Ok new → IsDraft new
with_latch-sound h d new (numbers.One a) draft reads = absurd (cc)
with_latch-sound h d new (numbers.Two lit next) draft reads =
    subst IsDraft (unless-ok (flaw_of h d.variables lit (lit ∷ next ∷ []) 0) (more_latches next 0 (defined d lit)) new reads) (latch-sound d lit next 0 (flaw-fresh h d.variables lit (lit ∷ next ∷ []) 0 (more_latches next 0 (defined d lit)) new reads) draft)
with_latch-sound h d new (numbers.Three lit next reset) draft reads =
    subst IsDraft (unless-ok (flaw_of h d.variables lit (lit ∷ next ∷ []) reset) (more_latches next reset (defined d lit)) new reads) (latch-sound d lit next reset (flaw-fresh h d.variables lit (lit ∷ next ∷ []) reset (more_latches next reset (defined d lit)) new reads) draft)
with_latch-sound h d new numbers.Other draft reads = absurd (cc)

output_by-sound : (h : Header) (d new : Draft) (lit : ℕ) → IsDraft d → output_by h d lit ≡ Ok new → IsDraft new
output_by-sound h d new lit draft reads = by (has_above h.most (lit ∷ [])) reads
  where
    by : (t : Bool) → cond {A = Result Draft ℕ} t (Err 71) (Ok (more_outputs lit d)) ≡ Ok new → IsDraft new
    by true reads = absurd (cc)
    by false reads = let same : more_outputs lit d ≡ new = cc in subst IsDraft same (output-sound d lit draft)

with_output-sound : (h : Header) (d new : Draft) (line : LineNumbers) → IsDraft d → with_output h d line ≡ Ok new → IsDraft new
with_output-sound h d new (numbers.One lit) draft reads = output_by-sound h d new lit draft reads
with_output-sound h d new (numbers.Two a b) draft reads = absurd (cc)
with_output-sound h d new (numbers.Three a b c) draft reads = absurd (cc)
with_output-sound h d new numbers.Other draft reads = absurd (cc)

with_gate-sound : (h : Header) (d new : Draft) (line : LineNumbers) → IsDraft d → with_gate h d line ≡ Ok new → IsDraft new
with_gate-sound h d new (numbers.One a) draft reads = absurd (cc)
with_gate-sound h d new (numbers.Two a b) draft reads = absurd (cc)
with_gate-sound h d new (numbers.Three lit left right) draft reads =
    subst IsDraft (unless-ok (flaw_of h d.variables lit (lit ∷ left ∷ right ∷ []) 0) (more_gates left right (defined d lit)) new reads) (gate-sound d lit left right (flaw-fresh h d.variables lit (lit ∷ left ∷ right ∷ []) 0 (more_gates left right (defined d lit)) new reads) draft)
with_gate-sound h d new numbers.Other draft reads = absurd (cc)

with_line_in-sound : (s : Section) (h : Header) (d new : Draft) (line : List ℕ) → IsLine line → IsDraft d → with_line_in s h d line ≡ Ok new → IsDraft new
with_line_in-sound sections.Input h d new line is draft reads = with_input-sound h d new (line_numbers line) draft reads
with_line_in-sound sections.Latch h d new line is draft reads = with_latch-sound h d new (line_numbers line) draft reads
with_line_in-sound sections.Output h d new line is draft reads = with_output-sound h d new (line_numbers line) draft reads
with_line_in-sound sections.Gate h d new line is draft reads = with_gate-sound h d new (line_numbers line) draft reads
with_line_in-sound sections.Symbol h d new line is draft reads = symbol_of-sound d new (word_before line) (name_after line) (IsSymbol-after line is) draft reads

pub with_line-sound : (h : Header) (d new : Draft) (line : List ℕ) → IsLine line → IsDraft d → with_line h d line ≡ Ok new → IsDraft new
with_line-sound h d new line is draft reads = with_line_in-sound (section_of h d) h d new line is draft (sym (with_line-at (section_of h d) h d line refl) ∙ reads)

-- all lines
ended-sound : (s : Section) (d new : Draft) (number : ℕ) → IsDraft d → ended s d number ≡ Ok new → IsDraft new
ended-sound sections.Symbol d new number draft is = let same : d ≡ new = cc in subst IsDraft same draft
ended-sound sections.Input d new number draft is = absurd (cc)
ended-sound sections.Latch d new number draft is = absurd (cc)
ended-sound sections.Output d new number draft is = absurd (cc)
ended-sound sections.Gate d new number draft is = absurd (cc)

draft_from-sound : (h : Header) (d new : Draft) (number : ℕ) (lines : List (List ℕ)) → AllByRecursion IsLine lines → IsDraft d → draft_from h d number lines ≡ Ok new → IsDraft new
draft_from-sound h d new number [] all draft is = ended-sound (section_of h d) d new number draft is
draft_from-sound h d new number (line ∷ lines) all draft is =
    by (λ more. draft_from-sound h more new (next_line number) lines all.1) (is_end (section_of h d) line) (with_line h d line) refl is
  where
    by : ((more : Draft) → IsDraft more → draft_from h more (next_line number) lines ≡ Ok new → IsDraft new) → (t : Bool) (r : Result Draft ℕ) → with_line h d line ≡ r
        → cond {A = Result Draft Fault} t (Ok d) (after (in_line r number) (λ more. draft_from h more (next_line number) lines)) ≡ Ok new → IsDraft new
    by goes true r reads is = let same : d ≡ new = cc in subst IsDraft same draft
    by goes false (Ok more) reads is = goes more (with_line-sound h d more line all.0 draft reads) is
    by goes false (Err fault) reads is = absurd (cc)

no_lines-sound : IsDraft no_lines
no_lines-sound = record { inputs = tt; latches = tt; outputs = tt; nexts = refl; resets = refl; lits = refl; variables = refl; apart = tt }

pub draft_of-sound : (text : List ℕ) (d : Draft) → draft_of text ≡ Ok d → IsDraft d
unfolding draft_of
draft_of-sound text d is = by (lines_of text) (lines_of-lines text) is
  where
    found : (h : Option Header) (lines : List (List ℕ)) → AllByRecursion IsLine lines → draft_by h lines ≡ Ok d → IsDraft d
    found None lines all is = absurd (cc)
    found (Some h) lines all is = draft_from-sound h no_lines d 2 lines all no_lines-sound is

    by : (lines : List (List ℕ)) → AllByRecursion IsLine lines → draft_in lines ≡ Ok d → IsDraft d
    by [] all is = absurd (cc)
    by (line ∷ lines) all is = found (header_of (words_of line)) lines all.1 is
