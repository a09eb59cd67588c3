-- A text read line by line, and the circuit of what its lines say.
use Rattle.std.proofs.Common.{◌≡◌, ℕ, ◌+◌, true, false, cond, List, [], ◌∷◌, length, None, Some, Result, Ok, Err, refl, sym, ap, ap₂, ◌∙◌}
use Rattle.kw_base.specs.Fault.{IfFault}
use Rattle.kw_base.specs.Place.{capped}
use Rattle.kw_base.specs.declared.fault.Fault.{Fault}
use Rattle.kw_base.specs.declared.fault.Refusal.{Refusal}
use Rattle.kw_base.specs.declared.fault.Refusal.TheVariants as refusals
use Rattle.aig_blast.specs.Aigs.{AigParts}
use Rattle.aig_blast.specs.declared.gate.Gate.{Gate}
use Rattle.stim_report.specs.Stimuli.{after, next_line}
use Rattle.aiger_text.specs.Cuts.{lines_of, words_of}
use Rattle.aiger_text.specs.Drafts.{Draft, draft_by, draft_from, draft_in, draft_of, ended, fault_in, in_line, is_end, no_lines, section_of, with_line}
use Rattle.aiger_text.specs.Headers.{header_of}
use Rattle.aiger_text.specs.Reading.{aig_by, aig_of, all_placed, gates_of, gates_placed, lits_of, nexts_of, parts_by}
use Rattle.aiger_text.specs.declared.header.Header.{Header}
use Rattle.aiger_text.specs.declared.header.Section.{Section}

-- a fault of a part is that of the whole
pub faults_pass : {X Y : Type 0} (e : Refusal) (one : Result X Fault) (whole : Result Y Fault) → IfFault {X = ℕ} (Err e) (λ fault. one ≡ Err fault) → ((fault : Fault) → one ≡ Err fault → whole ≡ Err fault)
    → IfFault {X = ℕ} (Err e) (λ fault. whole ≡ Err fault)
faults_pass (refusals.Fault fault) one whole reads passes = passes fault reads
faults_pass refusals.NoMemory one whole reads passes = tt

-- no line is left
pub read_end : (h : Header) (d : Draft) (number : ℕ) (rest : List ℕ) (s : Section) (whole : Result Draft Fault) → lines_of rest ≡ [] → section_of h d ≡ s
    → draft_from h d number (lines_of rest) ≡ whole → whole ≡ ended s d number
read_end h d number rest s whole none is left = sym left ∙ ap (draft_from h d number) none ∙ ap (λ s. ended s d number) is

-- the line that ends the text
pub read_stop : (h : Header) (d : Draft) (number : ℕ) (rest line behind : List ℕ) (whole : Result Draft Fault) → lines_of rest ≡ line ∷ lines_of behind → is_end (section_of h d) line ≡ true
    → draft_from h d number (lines_of rest) ≡ whole → whole ≡ Ok d
read_stop h d number rest line behind whole cut ends left =
    sym left ∙ ap (draft_from h d number) cut ∙ ap (λ t. cond t (Ok d) (after (in_line (with_line h d line) number) (λ more. draft_from h more (next_line number) (lines_of behind)))) ends

goes : (h : Header) (d : Draft) (number : ℕ) (rest line behind : List ℕ) (read : Result Draft Fault) (whole : Result Draft Fault) → lines_of rest ≡ line ∷ lines_of behind → is_end (section_of h d) line ≡ false
    → in_line (with_line h d line) number ≡ read → draft_from h d number (lines_of rest) ≡ whole → whole ≡ after read (λ more. draft_from h more (next_line number) (lines_of behind))
goes h d number rest line behind read whole cut on is left =
    sym left ∙ ap (draft_from h d number) cut ∙ ap (λ t. cond t (Ok d) (after (in_line (with_line h d line) number) (λ more. draft_from h more (next_line number) (lines_of behind)))) on
    ∙ ap (λ r. after r (λ more. draft_from h more (next_line number) (lines_of behind))) is

-- one line more
pub read_more : (h : Header) (d new : Draft) (number next : ℕ) (rest line behind : List ℕ) (whole : Result Draft Fault) → lines_of rest ≡ line ∷ lines_of behind → is_end (section_of h d) line ≡ false
    → with_line h d line ≡ Ok new → next ≡ next_line number → draft_from h d number (lines_of rest) ≡ whole → draft_from h new next (lines_of behind) ≡ whole
read_more h d new number next rest line behind whole cut on reads is left =
    ap (λ n. draft_from h new n (lines_of behind)) is ∙ sym (goes h d number rest line behind (Ok new) whole cut on (ap (λ r. in_line r number) reads) left)

-- a faulty line
pub read_fault : (h : Header) (d : Draft) (number : ℕ) (rest line behind : List ℕ) (fault : Fault) (whole : Result Draft Fault) → lines_of rest ≡ line ∷ lines_of behind → is_end (section_of h d) line ≡ false
    → in_line (with_line h d line) number ≡ Err fault → draft_from h d number (lines_of rest) ≡ whole → whole ≡ Err fault
read_fault h d number rest line behind fault whole cut on reads left = goes h d number rest line behind (Err fault) whole cut on reads left

-- a text without a line, without a header, and with one
pub no_line : (text : List ℕ) → lines_of text ≡ [] → draft_of text ≡ Err (fault_in 70 1)
unfolding draft_of
no_line text none = ap draft_in none

pub no_header : (text line rest : List ℕ) → lines_of text ≡ line ∷ lines_of rest → header_of (words_of line) ≡ None → draft_of text ≡ Err (fault_in 70 1)
unfolding draft_of
no_header text line rest cut none = ap draft_in cut ∙ ap (λ h. draft_by h (lines_of rest)) none

pub with_header : (text line rest : List ℕ) (h : Header) → lines_of text ≡ line ∷ lines_of rest → header_of (words_of line) ≡ Some h → draft_of text ≡ draft_from h no_lines 2 (lines_of rest)
unfolding draft_of
with_header text line rest h cut is = ap draft_in cut ∙ ap (λ h. draft_by h (lines_of rest)) is

-- the circuit of what lines say, or its first fault
abbrev pub parts_from : Draft → Result (List ℕ) Fault → Result (List ℕ) Fault → Result (List Gate) Fault → Result AigParts Fault
parts_from d nexts lits gates = after nexts (λ nexts. after lits (λ lits. after gates (λ gates. Ok (parts_by d nexts lits gates))))

pub aig_by-parts : (d : Draft) → aig_by d ≡ parts_from d (nexts_of d) (lits_of d) (gates_of d)
unfolding aig_by
aig_by-parts d = refl

pub aig_by-all : (d : Draft) (nexts lits : List ℕ) (gates : List Gate) → nexts_of d ≡ Ok nexts → lits_of d ≡ Ok lits → gates_of d ≡ Ok gates → aig_by d ≡ Ok (parts_by d nexts lits gates)
aig_by-all d nexts lits gates a b c =
    aig_by-parts d ∙ ap (λ r. parts_from d r (lits_of d) (gates_of d)) a ∙ ap (λ r. parts_from d (Ok nexts) r (gates_of d)) b ∙ ap (λ r. parts_from d (Ok nexts) (Ok lits) r) c

pub aig_by-nexts : (d : Draft) (fault : Fault) → nexts_of d ≡ Err fault → aig_by d ≡ Err fault
aig_by-nexts d fault a = aig_by-parts d ∙ ap (λ r. parts_from d r (lits_of d) (gates_of d)) a

pub aig_by-lits : (d : Draft) (nexts : List ℕ) (fault : Fault) → nexts_of d ≡ Ok nexts → lits_of d ≡ Err fault → aig_by d ≡ Err fault
aig_by-lits d nexts fault a b = aig_by-parts d ∙ ap (λ r. parts_from d r (lits_of d) (gates_of d)) a ∙ ap (λ r. parts_from d (Ok nexts) r (gates_of d)) b

pub aig_by-gates : (d : Draft) (nexts lits : List ℕ) (fault : Fault) → nexts_of d ≡ Ok nexts → lits_of d ≡ Ok lits → gates_of d ≡ Err fault → aig_by d ≡ Err fault
aig_by-gates d nexts lits fault a b c =
    aig_by-parts d ∙ ap (λ r. parts_from d r (lits_of d) (gates_of d)) a ∙ ap (λ r. parts_from d (Ok nexts) r (gates_of d)) b ∙ ap (λ r. parts_from d (Ok nexts) (Ok lits) r) c

-- the circuit of a text by what its lines say
pub aig_of-draft : (text : List ℕ) (d : Draft) → draft_of text ≡ Ok d → aig_of text ≡ aig_by d
unfolding aig_of
aig_of-draft text d is = ap (λ r. after r aig_by) is

pub aig_of-fault : (text : List ℕ) (fault : Fault) → draft_of text ≡ Err fault → aig_of text ≡ Err fault
unfolding aig_of
aig_of-fault text fault is = ap (λ r. after r aig_by) is

-- the parts of a draft by the numbers that they are read with
pub nexts_by : (d : Draft) (bound inputs number : ℕ) (lits : List ℕ) (r : Result (List ℕ) Fault) → bound ≡ 1 + length d.variables → inputs ≡ length d.inputs → number ≡ capped (2 + inputs) → lits ≡ d.nexts
    → all_placed d.variables bound number lits ≡ r → nexts_of d ≡ r
nexts_by d bound inputs number lits r a b c e reads =
    sym (ap (λ n. all_placed d.variables n number lits) a ∙ ap (λ n. all_placed d.variables (1 + length d.variables) n lits) (c ∙ ap (λ n. capped (2 + n)) b)
    ∙ ap (all_placed d.variables (1 + length d.variables) (capped (2 + length d.inputs))) e) ∙ reads

pub lits_by : (d : Draft) (bound sources number : ℕ) (lits : List ℕ) (r : Result (List ℕ) Fault) → bound ≡ 1 + length d.variables → sources ≡ length d.inputs + length d.nexts → number ≡ capped (2 + sources) → lits ≡ d.lits
    → all_placed d.variables bound number lits ≡ r → lits_of d ≡ r
lits_by d bound sources number lits r a b c e reads =
    sym (ap (λ n. all_placed d.variables n number lits) a ∙ ap (λ n. all_placed d.variables (1 + length d.variables) n lits) (c ∙ ap (λ n. capped (2 + n)) b)
    ∙ ap (all_placed d.variables (1 + length d.variables) (capped (2 + (length d.inputs + length d.nexts)))) e) ∙ reads

pub gates_by : (d : Draft) (sources outputs number : ℕ) (gates : List Gate) (r : Result (List Gate) Fault) → sources ≡ length d.inputs + length d.nexts → outputs ≡ length d.lits → number ≡ capped (2 + sources + outputs)
    → gates ≡ d.gates → gates_placed d.variables (1 + sources) number gates ≡ r → gates_of d ≡ r
gates_by d sources outputs number gates r a b c e reads =
    let all : ℕ = length d.inputs + length d.nexts in
    sym (ap (λ n. gates_placed d.variables (1 + n) number gates) a ∙ ap (λ n. gates_placed d.variables (1 + all) n gates) (c ∙ ap₂ (λ (n m : ℕ). capped (2 + n + m)) a b)
    ∙ ap (gates_placed d.variables (1 + all) (capped (2 + all + length d.lits))) e) ∙ reads
