-- A line read word by word, and a text read line by line.
use Rattle.std.proofs.Common.{◌≡◌, ℕ, zero, suc, ◌+◌, ◌<◌, Bool, true, false, cond, ◌&&◌, eqb, List, [], ◌∷◌, ◌++◌, length, get_or, take, append_assoc, append-nil, Option, Some, None, Result, Ok, Err, position, bytes_eq, option_map, refl, sym, ap, ap₂, ◌∙◌, subst, arith, sum}
use Rattle.std.specs.List.{flat_map, list_all}
use Rattle.std.proofs.lemmas.Bool.{eqb-false, eqb-true}
use Rattle.std.proofs.lemmas.List.{flat_map_more, length-append, length_push, map_more, map_push, nil_from_length, take_more}
use Rattle.std.proofs.lemmas.List.Quantifiers.{position-Some}
use Rattle.std.proofs.lemmas.List.Sums.{sum_by-cons}
use Rattle.kw_base.specs.Fault.{fault_at}
use Rattle.kw_base.specs.Place.{capped}
use Rattle.kw_base.specs.declared.fault.Fault.{Fault}
use Rattle.kw_base.specs.declared.place.Place.{Place}
use Rattle.clause_check.specs.Clauses.{Assignment, Clause, IsLiteral, clause_value}
use Rattle.kw_base.specs.Texts.{lines_of}
use Rattle.clause_check.specs.declared.literal.Literal.{Literal}
use Rattle.aig_blast.specs.AigRun.{bits_of, first_words}
use Rattle.aig_blast.specs.Steps.{digits}
use Rattle.aig_blast.proofs.Digits.{length-digits}
use Rattle.aig_blast.proofs.SimValues.{bits_of-push}
use Rattle.aig_blast.specs.Aigs.{latch_widths}
use Rattle.aig_blast.specs.declared.aig.LatchWord.{LatchWord}
use Rattle.invariant_check.specs.Bits.{bit_name, bit_names, bit_values, register_bits}
use Rattle.invariant_check.specs.Invariants.{Numbered, after, clause_of, clauses_from, false_line, invariant_of, literal_by, literal_of, literals_of, number_of, only_clauses, or_fault, unless_false, with_clause}
use Rattle.invariant_check.specs.Words.{place_in, words_from}
use Rattle.invariant_check.specs.inner.Reading.{AreRead, after_clauses, after_literals, with_line}

-- ---- literals

-- a literal that was read is of a bit
number-within : (bits : List (List ℕ)) (name : List ℕ) (o : Option ℕ) (b : Bool) (literal : Literal)
    → position (bytes_eq name) bits ≡ o
    → literal_by b (option_map (λ (n : ℕ). n + 1) o) ≡ Some literal → IsLiteral (length bits) literal
number-within bits name None b literal at is = absurd cc
number-within bits name (Some k) b literal at is =
    let within : k < length bits = (position-Some (bytes_eq name) bits k [] at).0 in
    let number : k + 1 ≡ literal.variable = ap (λ (o : Option Literal). variable_in o) is in
    record { some = omega (arith, number); within = omega (arith, number, within) }
  where
    variable_in : Option Literal → ℕ
    variable_in None = 0
    variable_in (Some l) = l.variable

by-within : (bits : List (List ℕ)) (name : List ℕ) (b : Bool) (literal : Literal) → literal_by b (number_of bits name)
    ≡ Some literal → IsLiteral (length bits) literal
by-within bits name b literal is = number-within bits name (position (bytes_eq name) bits) b literal refl is

pub literal-within : (bits : List (List ℕ)) (word : List ℕ) (literal : Literal) → literal_of bits word ≡ Some literal
    → IsLiteral (length bits) literal
unfolding literal_of
literal-within bits [] literal is = by-within bits [] false literal is
literal-within bits (b ∷ word) literal is = by (eqb b 126) is
  where
    by : (t : Bool) → cond t (literal_by true (number_of bits word)) (literal_by false (number_of bits (b ∷ word)))
        ≡ Some literal → IsLiteral (length bits) literal
    by true found = by-within bits word true literal found
    by false found = by-within bits (b ∷ word) false literal found

-- a word that begins with `~`, and one that doesn't
pub literal-negated : (bits : List (List ℕ)) (word name : List ℕ) → word ≡ 126 ∷ name
    → literal_by true (number_of bits name) ≡ literal_of bits word
unfolding literal_of
literal-negated bits word name is = sym (ap (literal_of bits) is)

pub literal-plain : (bits : List (List ℕ)) (word : List ℕ) → ((name : List ℕ) → word ≡ 126 ∷ name → ⊥)
    → literal_by false (number_of bits word) ≡ literal_of bits word
unfolding literal_of
literal-plain bits [] other = refl
literal-plain bits (b ∷ word) other = by (eqb b 126) refl
  where
    by : (t : Bool) → eqb b 126 ≡ t → literal_by false (number_of bits (b ∷ word))
        ≡ cond t (literal_by true (number_of bits word)) (literal_by false (number_of bits (b ∷ word)))
    by true same = absurd (other word (ap (λ n. n ∷ word) (eqb-true b 126 same)))
    by false differs = refl

-- ---- a line

one_literal : (front : Clause) (literal : Literal) (r : Result Clause Fault)
    → after_literals front (after r (λ (literals : Clause). Ok (literal ∷ literals)))
    ≡ after_literals (front ++ literal ∷ []) r
one_literal front literal (Ok literals) = ap Ok (sym (append_assoc front (literal ∷ []) literals))
one_literal front literal (Err fault) = refl

-- what a word gives, and what follows
word_first : (bits : List (List ℕ)) (line column start : ℕ) (word rest behind : List ℕ) (place : Place)
    (r : Result Literal Fault)
    → words_from column rest ≡ (start, word) ∷ words_from (start + length word) behind → place ≡ place_in line start
    → or_fault place (literal_of bits word) ≡ r
    → literals_of bits line (words_from column rest)
    ≡ after r (λ (literal : Literal). after (literals_of bits line (words_from (start + length word) behind))
    (λ (literals : Clause). Ok (literal ∷ literals)))
word_first bits line column start word rest behind place r cut is reads =
    ap (literals_of bits line) cut
    ∙ ap (λ (res : Result Literal Fault). after res
    (λ (literal : Literal). after (literals_of bits line (words_from (start + length word) behind))
    (λ (literals : Clause). Ok (literal ∷ literals))))
    (ap (λ (p : Place). or_fault p (literal_of bits word)) (sym is) ∙ reads)

pub line_more : (bits : List (List ℕ)) (line column blanks : ℕ) (front new : Clause) (word rest behind : List ℕ)
    (place : Place) (literal : Literal) (whole : Result Clause Fault)
    → words_from column rest ≡ (column + blanks, word) ∷ words_from (column + blanks + length word) behind → place
    ≡ place_in line (column + blanks)
    → literal_of bits word ≡ Some literal → new ≡ front ++ literal ∷ []
    → after_literals front (literals_of bits line (words_from column rest)) ≡ whole
    → after_literals new (literals_of bits line (words_from (column + (blanks + length word)) behind)) ≡ whole
line_more bits line column blanks front new word rest behind place literal whole cut is reads more left =
    let e : column + (blanks + length word) ≡ column + blanks + length word = omega arith in
    ap₂ (λ (c : Clause) (n : ℕ). after_literals c (literals_of bits line (words_from n behind))) more e
    ∙ sym (one_literal front literal (literals_of bits line (words_from (column + blanks + length word) behind)))
    ∙ sym (ap (after_literals front)
    (word_first bits line column (column + blanks) word rest behind place (Ok literal) cut is
    (ap (or_fault place) reads))) ∙ left

pub line_fault : (bits : List (List ℕ)) (line column blanks : ℕ) (front : Clause) (word rest behind bytes : List ℕ)
    (place : Place)
    → words_from column rest ≡ (column + blanks, word) ∷ words_from (column + blanks + length word) behind → place
    ≡ place_in line (column + blanks)
    → literal_of bits word ≡ None
    → after_literals front (literals_of bits line (words_from column rest)) ≡ literals_of bits line (words_from 1 bytes)
    → clause_of bits line bytes ≡ Err (fault_at 91 place)
unfolding clause_of
line_fault bits line column blanks front word rest behind bytes place cut is reads left =
    sym left ∙ ap (after_literals front)
    (word_first bits line column (column + blanks) word rest behind place (Err (fault_at 91 place)) cut is
    (ap (or_fault place) reads))

pub line_end : (bits : List (List ℕ)) (line column : ℕ) (front : Clause) (rest bytes : List ℕ) → words_from column rest
    ≡ []
    → after_literals front (literals_of bits line (words_from column rest)) ≡ literals_of bits line (words_from 1 bytes)
    → clause_of bits line bytes ≡ Ok front
unfolding clause_of
line_end bits line column front rest bytes none left =
    sym left ∙ ap (λ (words : List (ℕ × List ℕ)). after_literals front (literals_of bits line words)) none
    ∙ ap Ok (append-nil front)

pub line_begins : (r : Result Clause Fault) → after_literals [] r ≡ r
line_begins (Ok literals) = refl
line_begins (Err fault) = refl

-- ---- lines

one_clause : (front own : List Numbered) (r : Result (List Numbered) Fault)
    → after_clauses front (after r (λ (clauses : List Numbered). Ok (own ++ clauses))) ≡ after_clauses (front ++ own) r
one_clause front own (Ok clauses) = ap Ok (sym (append_assoc front own clauses))
one_clause front own (Err fault) = refl

-- the clause of a line, if it has a literal
abbrev pub own_clause : ℕ → Clause → List Numbered
own_clause line clause = with_clause line clause []

with_own : (line : ℕ) (clause : Clause) (clauses : List Numbered) → with_clause line clause clauses
    ≡ own_clause line clause ++ clauses
with_own line [] clauses = refl
with_own line (literal ∷ literals) clauses = refl

line_first : (bits : List (List ℕ)) (number : ℕ) (rest line behind : List ℕ) (r : Result Clause Fault) → lines_of rest
    ≡ line ∷ lines_of behind → clause_of bits number line ≡ r
    → clauses_from bits number (lines_of rest)
    ≡ after r (λ (clause : Clause). after (clauses_from bits (capped (number + 1)) (lines_of behind))
    (λ (clauses : List Numbered). Ok (with_clause number clause clauses)))
line_first bits number rest line behind r cut reads =
    ap (clauses_from bits number) cut
    ∙ ap (λ (res : Result Clause Fault). after res
    (λ (clause : Clause). after (clauses_from bits (capped (number + 1)) (lines_of behind))
    (λ (clauses : List Numbered). Ok (with_clause number clause clauses)))) reads

same_then : (line : ℕ) (clause : Clause) (r : Result (List Numbered) Fault)
    → after r (λ (clauses : List Numbered). Ok (with_clause line clause clauses))
    ≡ after r (λ (clauses : List Numbered). Ok (own_clause line clause ++ clauses))
same_then line clause (Ok clauses) = ap Ok (with_own line clause clauses)
same_then line clause (Err fault) = refl

pub clauses_more : (bits : List (List ℕ)) (number next : ℕ) (rest line behind : List ℕ) (clause : Clause)
    (front : List Numbered) (whole : Result (List Numbered) Fault)
    → lines_of rest ≡ line ∷ lines_of behind → clause_of bits number line ≡ Ok clause → next ≡ capped (number + 1)
    → after_clauses front (clauses_from bits number (lines_of rest)) ≡ whole
    → after_clauses (front ++ own_clause number clause) (clauses_from bits next (lines_of behind)) ≡ whole
clauses_more bits number next rest line behind clause front whole cut reads is left =
    let later : Result (List Numbered) Fault = clauses_from bits (capped (number + 1)) (lines_of behind) in
    ap (λ (n : ℕ). after_clauses (front ++ own_clause number clause) (clauses_from bits n (lines_of behind))) is
    ∙ sym (one_clause front (own_clause number clause) later)
    ∙ sym (ap (after_clauses front) (line_first bits number rest line behind (Ok clause) cut reads
    ∙ same_then number clause later)) ∙ left

pub clauses_fault : (bits : List (List ℕ)) (number : ℕ) (rest line behind : List ℕ) (fault : Fault)
    (front : List Numbered) (whole : Result (List Numbered) Fault)
    → lines_of rest ≡ line ∷ lines_of behind → clause_of bits number line ≡ Err fault
    → after_clauses front (clauses_from bits number (lines_of rest)) ≡ whole → whole ≡ Err fault
clauses_fault bits number rest line behind fault front whole cut reads left =
    sym left ∙ ap (after_clauses front) (line_first bits number rest line behind (Err fault) cut reads)

pub clauses_end : (bits : List (List ℕ)) (number : ℕ) (rest : List ℕ) (front : List Numbered)
    (whole : Result (List Numbered) Fault) → lines_of rest ≡ []
    → after_clauses front (clauses_from bits number (lines_of rest)) ≡ whole → whole ≡ Ok front
clauses_end bits number rest front whole none left =
    sym left ∙ ap (λ (lines : List (List ℕ)). after_clauses front (clauses_from bits number lines)) none
    ∙ ap Ok (append-nil front)

pub clauses_begin : (r : Result (List Numbered) Fault) → after_clauses [] r ≡ r
clauses_begin (Ok clauses) = refl
clauses_begin (Err fault) = refl

-- ---- clauses that were read

pub only-own : (front : List Numbered) (number : ℕ) (literal : Literal) (literals : Clause)
    → only_clauses (front ++ own_clause number (literal ∷ literals)) ≡ only_clauses front ++ (literal ∷ literals) ∷ []
only-own front number literal literals = map_push (λ (numbered : Numbered). numbered.clause) front
    (record { line = number; clause = literal ∷ literals })

pub false-own : (assignment : Assignment) (front : List Numbered) (number : ℕ) (literal : Literal) (literals : Clause)
    → false_line assignment (front ++ own_clause number (literal ∷ literals))
    ≡ with_line (false_line assignment front) (clause_value assignment (literal ∷ literals)) number
false-own assignment [] number literal literals = by (clause_value assignment (literal ∷ literals))
  where
    by : (t : Bool) → cond t None (Some number) ≡ with_line None t number
    by true = refl
    by false = refl
false-own assignment (first ∷ front) number literal literals = by (false-own assignment front number literal literals)
    (clause_value assignment first.clause)
  where
    by : false_line assignment (front ++ own_clause number (literal ∷ literals))
        ≡ with_line (false_line assignment front) (clause_value assignment (literal ∷ literals)) number
        → (t : Bool) → cond t (false_line assignment (front ++ own_clause number (literal ∷ literals)))
        (Some first.line)
        ≡ with_line (cond t (false_line assignment front) (Some first.line))
        (clause_value assignment (literal ∷ literals)) number
    by rest true = rest
    by rest false = refl

-- where no clause is false, each is true
pub all-true : (assignment : Assignment) (clauses : List Numbered) → false_line assignment clauses ≡ None
    → list_all (clause_value assignment) (only_clauses clauses) ≡ true
all-true assignment [] none = refl
all-true assignment (first ∷ clauses) none = by (λ later. all-true assignment clauses later)
    (clause_value assignment first.clause) none
  where
    by : (false_line assignment clauses ≡ None → list_all (clause_value assignment) (only_clauses clauses) ≡ true)
        → (t : Bool) → cond t (false_line assignment clauses) (Some first.line) ≡ None
        → (t && list_all (clause_value assignment) (only_clauses clauses)) ≡ true
    by rest true later = rest later
    by rest false later = absurd cc

-- ---- the whole text

pub read-ok : (latches : List LatchWord) (first_line : ℕ) (text : List ℕ) (clauses : List Clause) (line : Option ℕ)
    → line ≡ None
    → AreRead (clauses_from (register_bits latches) first_line (lines_of text)) (bit_values (first_words latches))
    clauses line
    → (invariant_of (register_bits latches) (first_words latches) first_line text ≡ Ok clauses)
    × (list_all (clause_value (bit_values (first_words latches))) clauses ≡ true)
unfolding invariant_of
read-ok latches first_line text clauses line none read =
    let values : Assignment = bit_values (first_words latches) in (
      ap (λ (r : Result (List Numbered) Fault). after r
          (λ (cs : List Numbered). unless_false (false_line values cs) (only_clauses cs))) read.1
          ∙ ap₂ (λ (o : Option ℕ) (cs : List Clause). unless_false o cs) (read.3 ∙ none) read.2,
      sym (ap (list_all (clause_value values)) read.2) ∙ all-true values read.0 (read.3 ∙ none),
    )

pub read-false : (latches : List LatchWord) (first_line : ℕ) (text : List ℕ) (clauses : List Clause) (line : Option ℕ)
    (k : ℕ) → line ≡ Some k
    → AreRead (clauses_from (register_bits latches) first_line (lines_of text)) (bit_values (first_words latches))
    clauses line
    → invariant_of (register_bits latches) (first_words latches) first_line text ≡ Err (fault_at 92 (record { line = k; column = 1 }))
unfolding invariant_of
read-false latches first_line text clauses line k some read =
    let values : Assignment = bit_values (first_words latches) in
    ap (λ (r : Result (List Numbered) Fault). after r
    (λ (cs : List Numbered). unless_false (false_line values cs) (only_clauses cs))) read.1
    ∙ ap₂ (λ (o : Option ℕ) (cs : List Clause). unless_false o cs) (read.3 ∙ some) read.2

pub read-fault : (latches : List LatchWord) (first_line : ℕ) (text : List ℕ) (fault : Fault)
    → clauses_from (register_bits latches) first_line (lines_of text) ≡ Err fault
    → invariant_of (register_bits latches) (first_words latches) first_line text ≡ Err fault
unfolding invariant_of
read-fault latches first_line text fault is =
    ap (λ (r : Result (List Numbered) Fault). after r
    (λ (cs : List Numbered). unless_false (false_line (bit_values (first_words latches)) cs) (only_clauses cs))) is

-- ---- the bits of registers

pub length-bit_names : (name : List ℕ) (k : ℕ) → length (bit_names name k) ≡ k
length-bit_names name zero = refl
length-bit_names name (suc k) = omega (arith, length_push (bit_names name k) (bit_name name k), length-bit_names name k)

pub length-register_bits : (latches : List LatchWord) → length (register_bits latches) ≡ sum (latch_widths latches)
length-register_bits [] = refl
length-register_bits (word ∷ latches) =
    omega (
      arith,
      length-append (bit_names word.name word.first.width) (register_bits latches),
      length-bit_names word.name word.first.width,
      length-register_bits latches,
      sum_by-cons (λ (w : ℕ). w) word.first.width (latch_widths latches),
    )

-- one more word
pub flat_more : {X Y : Type 0} (f : X → List Y) (xs : List X) (k : ℕ) (d : X) → k < length xs
    → flat_map f (take (k + 1) xs) ≡ flat_map f (take k xs) ++ f (get_or xs k d)
flat_more f xs k d within = ap (flat_map f) (take_more xs k d within)
    ∙ sym (flat_map_more f [] (take k xs) (get_or xs k d))

pub bits_more : (latches : List LatchWord) (k : ℕ) (word : LatchWord) (name : List ℕ) (width : ℕ) → k < length latches
    → word ≡ get_or latches k word → name ≡ word.name → width ≡ word.first.width
    → register_bits (take k latches) ++ bit_names name width ≡ register_bits (take (k + 1) latches)
bits_more latches k word name width within is named wide =
    ap₂ (λ (n : List ℕ) (w : ℕ). register_bits (take k latches) ++ bit_names n w) named wide
    ∙ ap (λ (w : LatchWord). register_bits (take k latches) ++ bit_names w.name w.first.width) is
    ∙ sym (flat_more (λ (w : LatchWord). bit_names w.name w.first.width) latches k word within)

-- the first values, word by word
pub length-firsts : (latches : List LatchWord) → length (false ∷ bits_of (first_words latches))
    ≡ 1 + sum (latch_widths latches)
length-firsts [] = refl
length-firsts (word ∷ latches) =
    omega (
      arith,
      length-append (digits word.first.number word.first.width) (bits_of (first_words latches)),
      length-digits word.first.number word.first.width,
      length-firsts latches,
      sum_by-cons (λ (w : ℕ). w) word.first.width (latch_widths latches),
    )

pub firsts_more : (latches : List LatchWord) (k : ℕ) (word : LatchWord) (now new : List Bool) → k < length latches
    → word ≡ get_or latches k word
    → now ≡ false ∷ bits_of (first_words (take k latches)) → new ≡ now ++ digits word.first.number word.first.width
    → new ≡ false ∷ bits_of (first_words (take (k + 1) latches))
firsts_more latches k word now new within is so_far made =
    made ∙ ap (λ (bs : List Bool). bs ++ digits word.first.number word.first.width) so_far
    ∙ ap (λ (w : LatchWord). false ∷ (bits_of (first_words (take k latches)) ++ digits w.first.number w.first.width)) is
    ∙ ap (λ (bs : List Bool). false ∷ bs)
    (sym (ap bits_of (map_more (λ (w : LatchWord). w.first) latches k word within)
    ∙ bits_of-push (first_words (take k latches)) (get_or latches k word).first))

-- a word that is no bytes, one that begins with `~`, and any other
pub literal-none : (bits : List (List ℕ)) (word : List ℕ) → word ≡ [] → literal_by false (number_of bits word)
    ≡ literal_of bits word
literal-none bits word none = literal-plain bits word (λ name is. absurd (cc))

pub literal-first : (bits : List (List ℕ)) (word name : List ℕ) (first : ℕ) → word ≡ first ∷ name → first ≡ 126
    → literal_by true (number_of bits name) ≡ literal_of bits word
literal-first bits word name first is tilde = literal-negated bits word name (is ∙ ap (λ n. n ∷ name) tilde)

pub literal-other : (bits : List (List ℕ)) (word name : List ℕ) (first : ℕ) → word ≡ first ∷ name → (first ≡ 126 → ⊥)
    → literal_by false (number_of bits word) ≡ literal_of bits word
literal-other bits word name first is other = literal-plain bits word
    (λ rest same. other (head_same first 126 name rest (sym is ∙ same)))
  where
    head_same : (x y : ℕ) (xs ys : List ℕ) → x ∷ xs ≡ y ∷ ys → x ≡ y
    head_same x y xs ys same = cc

-- ---- a step over a line

-- a line without literals
pub lines_skipped : (bits : List (List ℕ)) (number next : ℕ) (rest line behind : List ℕ) (clause : Clause)
    (whole : Result (List Numbered) Fault) (values : Assignment) (clauses : List Clause) (found : Option ℕ)
    → lines_of rest ≡ line ∷ lines_of behind → clause_of bits number line ≡ Ok clause → next ≡ capped (number + 1)
    → clause ≡ []
    → (front : List Numbered) × (after_clauses front (clauses_from bits number (lines_of rest)) ≡ whole)
    × (only_clauses front ≡ clauses) × (false_line values front ≡ found)
    → (front : List Numbered) × (after_clauses front (clauses_from bits next (lines_of behind)) ≡ whole)
    × (only_clauses front ≡ clauses) × (false_line values front ≡ found)
lines_skipped bits number next rest line behind clause whole values clauses found cut reads is none read = (
  read.0,
  ap (λ (own : List Numbered). after_clauses own (clauses_from bits next (lines_of behind)))
      (sym (ap (λ (c : Clause). read.0 ++ own_clause number c) none ∙ append-nil read.0))
      ∙ clauses_more bits number next rest line behind clause read.0 whole cut reads is read.1,
  read.2,
  read.3,
)

-- a line with literals
pub lines_more : (bits : List (List ℕ)) (number next : ℕ) (rest line behind : List ℕ) (clause : Clause)
    (whole : Result (List Numbered) Fault) (values : Assignment) (clauses new : List Clause) (found now : Option ℕ)
    → lines_of rest ≡ line ∷ lines_of behind → clause_of bits number line ≡ Ok clause → next ≡ capped (number + 1)
    → ¬ (clause ≡ []) → new ≡ clauses ++ clause ∷ []
    → now ≡ with_line found (clause_value values clause) number
    → (front : List Numbered) × (after_clauses front (clauses_from bits number (lines_of rest)) ≡ whole)
    × (only_clauses front ≡ clauses) × (false_line values front ≡ found)
    → (front : List Numbered) × (after_clauses front (clauses_from bits next (lines_of behind)) ≡ whole)
    × (only_clauses front ≡ new) × (false_line values front ≡ now)
lines_more bits number next rest line behind [] whole values clauses new found now cut reads is some pushed judged read
    = absurd (some refl)
lines_more bits number next rest line behind (literal ∷ literals) whole values clauses new found now cut reads is some
    pushed judged read = (
      read.0 ++ own_clause number (literal ∷ literals),
      clauses_more bits number next rest line behind (literal ∷ literals) read.0 whole cut reads is read.1,
      only-own read.0 number literal literals ∙ ap (λ (cs : List Clause). cs ++ (literal ∷ literals) ∷ []) read.2
          ∙ sym pushed,
      false-own values read.0 number literal literals
          ∙ ap (λ (o : Option ℕ). with_line o (clause_value values (literal ∷ literals)) number) read.3 ∙ sym judged,
    )

-- whether a clause is empty, by the test of its length
pub no_literal : (clause : Clause) (n : ℕ) (b : Bool) → n ≡ length clause → b ≡ eqb n 0 → b ≡ true → clause ≡ []
no_literal clause n b count is yes' = nil_from_length clause (sym count ∙ eqb-true n 0 (sym is ∙ yes'))

pub some_literal : (clause : Clause) (n : ℕ) (b : Bool) → n ≡ length clause → b ≡ eqb n 0 → b ≡ false → ¬ (clause ≡ [])
some_literal clause n b count is filled = λ none. eqb-false n 0 (sym is ∙ filled) (count ∙ ap length none)

-- ---- the registers that a reader knows are those of a circuit
pub read_of : (latches others : List LatchWord) (first_line : ℕ) (text : List ℕ) (clauses : List Clause)
    (line : Option ℕ) → others ≡ latches
    → AreRead (clauses_from (register_bits others) first_line (lines_of text)) (bit_values (first_words others)) clauses
    line
    → AreRead (clauses_from (register_bits latches) first_line (lines_of text)) (bit_values (first_words latches))
    clauses line
read_of latches others first_line text clauses line same read =
    subst (λ (words : List LatchWord). AreRead (clauses_from (register_bits words) first_line (lines_of text))
    (bit_values (first_words words)) clauses line) same read
