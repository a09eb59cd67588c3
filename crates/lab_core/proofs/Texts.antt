-- Lines that are written word by word.
use Rattle.std.proofs.Common.{◌≡◌, ℕ, ◌+◌, ◌<◌, Bool, true, false, cond, not, List, [], ◌∷◌, ◌++◌, length, drop, take, get_or, zero, suc, add-one, Option, Some, None, is_some, refl, sym, ap, ap₂, ◌∙◌, append_assoc, append-nil, map, subst, arith}
use Rattle.std.specs.Prelude.{codes, decimal, if◌then◌else◌, slice_get}
use Rattle.std.specs.List.{filter, flat_map, range_with_len}
use Rattle.std.proofs.lemmas.Grind.{flat_map-append}
use Rattle.std.proofs.lemmas.List.{drop_more, length-map, map-id}
use Rattle.std.proofs.lemmas.List.FromFn.{map-range_with_len_more}
use Rattle.std.proofs.lemmas.List.Elements.{filter-append}
use Rattle.kw_bits.specs.BitVector.{BitVector}
use Rattle.typed_core.specs.Widths.{HaveWidths, input_widths, register_widths}
use Rattle.typed_core.specs.declared.design.InputDecl.{InputDecl}
use Rattle.typed_core.specs.declared.design.RegDecl.{RegDecl}
use Rattle.typed_core.specs.declared.design.Parts.{Parts}
use Rattle.stim_report.specs.Report.{hex, registers_text}
use Rattle.stim_report.specs.Shapes.{of_input, of_register, shape_of, widths_of}
use Rattle.stim_report.specs.declared.shape.NameWidth.{NameWidth}
use Rattle.stim_report.specs.declared.shape.Shape.{Shape}
use Rattle.stim_report.proofs.Values.{value_width}
use Rattle.attempt_log.specs.declared.cause.Cause.{Cause}
use Rattle.attempt_log.specs.declared.cause.Cause.TheVariants as cause
use Rattle.journal_check.specs.Printing.{access_text, joined_tokens, rule_name, spaced, value_text}
use Rattle.lab_core.specs.Trials.{is_tried, untried}
use Rattle.lab_core.specs.Why.{is_asked, untried_line}
use Rattle.lab_core.specs.declared.trial.Trial.{Trial}
use Rattle.lab_core.specs.declared.trial.TrialVerdict.{TrialVerdict}
use Rattle.lab_core.specs.inner.Lines.{asked_line, text_at}
use Rattle.lab_core.specs.Numbers.{RuleNumbers, unwatched_count, verdict_in}
use Rattle.lab_core.specs.Profiles.{assert_counts, assert_line, first_tokens, refusal_line, refusal_tokens, unwatched_tokens}
use Rattle.lab_core.proofs.Tables.{tried_some}

-- ---- values

-- a name and its value are what is left next
pub values_more : (named : List NameWidth) (values : List BitVector) (i : ℕ) (one : NameWidth) (value : BitVector) → i < length named → HaveWidths (widths_of named) values
    → one ≡ get_or named i one → value ≡ get_or values i value
    → registers_text (drop i named) (drop i values) ≡ spaced one.name ++ (61 ∷ (value_text value ++ registers_text (drop (i + 1) named) (drop (i + 1) values)))
values_more named values i one value inside have is holds =
    let few : i < length values = omega (arith, inside, have.count, length-map named (λ (x : NameWidth). x.width)) in
    let rest = registers_text (drop (i + 1) named) (drop (i + 1) values) in
    ap₂ registers_text (drop_more named i one inside) (drop_more values i value few)
    ∙ ap₂ (λ (r : NameWidth) (v : BitVector). 32 ∷ ((r.name ++ 61 ∷ hex r.width v.number) ++ rest)) (sym is) (sym holds)
    ∙ ap (λ (w : ℕ). 32 ∷ ((one.name ++ 61 ∷ hex w value.number) ++ rest)) (sym (value_width named values i one value inside have is holds).1)
    ∙ ap (λ (t : List ℕ). 32 ∷ t) (append_assoc one.name (61 ∷ value_text value) rest)

-- a token, a byte and more, one after another
pub four_in_turn : (text a b rest : List ℕ) (byte : ℕ) → (((text ++ a) ++ byte ∷ []) ++ b) ++ rest ≡ text ++ (a ++ (byte ∷ (b ++ rest)))
four_in_turn text a b rest byte =
    append_assoc ((text ++ a) ++ byte ∷ []) b rest ∙ append_assoc (text ++ a) (byte ∷ []) (b ++ rest) ∙ append_assoc text a (byte ∷ (b ++ rest))

-- ---- rules without a trial

pub range_more : (from n at : ℕ) → from + n ≡ at → range_with_len from (n + 1) ≡ range_with_len from n ++ at ∷ []
range_more from n at place =
    sym (map-id (range_with_len from (n + 1))) ∙ map-range_with_len_more (λ (x : ℕ). x) from n at place ∙ ap (λ (r : List ℕ). r ++ at ∷ []) (map-id (range_with_len from n))

-- one rule more, if it has no trial
untried_more : (rule : ℕ) (tried : List Trial) → untried (rule + 1) tried ≡ untried rule tried ++ cond (not (is_tried tried rule)) (rule ∷ []) []
untried_more rule tried =
    let p : ℕ → Bool = λ r. not (is_tried tried r) in
    ap (filter p) (range_more 0 rule rule (omega arith)) ∙ filter-append p (range_with_len 0 rule) (rule ∷ [])

abbrev lines_of : Parts → Option ℕ → List ℕ → List ℕ
lines_of design only rules = flat_map (untried_line design) (filter (is_asked only) rules)

lines_more : (design : Parts) (only : Option ℕ) (rule : ℕ) (tried : List Trial) → lines_of design only (untried (rule + 1) tried) ≡ lines_of design only (untried rule tried) ++ lines_of design only (cond (not (is_tried tried rule)) (rule ∷ []) [])
lines_more design only rule tried =
    let last : List ℕ = cond (not (is_tried tried rule)) (rule ∷ []) [] in
    ap (lines_of design only) (untried_more rule tried)
    ∙ ap (flat_map (untried_line design)) (filter-append (is_asked only) (untried rule tried) last)
    ∙ flat_map-append (untried_line design) (filter (is_asked only) (untried rule tried)) (filter (is_asked only) last)

-- a rule's own line, by its verdict
own_line : (design : Parts) (only : Option ℕ) (rule : ℕ) (v : Option TrialVerdict) → lines_of design only (cond (not (is_some v)) (rule ∷ []) []) ≡ asked_line design only rule v
own_line design only rule (Some v) = refl
own_line design only rule None = chosen (is_asked only rule)
  where
    chosen : (b : Bool) → flat_map (untried_line design) (cond b (rule ∷ []) []) ≡ (if b then untried_line design rule else [])
    chosen true = append-nil (untried_line design rule)
    chosen false = refl

pub line_more : (design : Parts) (only : Option ℕ) (rule : ℕ) (tried : List Trial) (text now next : List ℕ) (v : Option TrialVerdict) → v ≡ verdict_in rule tried
    → now ≡ text ++ flat_map (untried_line design) (filter (is_asked only) (untried rule tried)) → next ≡ now ++ asked_line design only rule v
    → next ≡ text ++ flat_map (untried_line design) (filter (is_asked only) (untried (rule + 1) tried))
line_more design only rule tried text now next v is so_far written =
    let last : lines_of design only (cond (not (is_tried tried rule)) (rule ∷ []) []) ≡ asked_line design only rule v =
    ap (λ (b : Bool). lines_of design only (cond (not b) (rule ∷ []) [])) (sym (ap (λ (o : Option TrialVerdict). is_some o) is ∙ tried_some rule tried)) ∙ own_line design only rule v in
    written ∙ ap (λ (t : List ℕ). t ++ asked_line design only rule v) so_far
    ∙ append_assoc text (lines_of design only (untried rule tried)) (asked_line design only rule v)
    ∙ ap (λ (t : List ℕ). text ++ t) (sym (lines_more design only rule tried ∙ ap (λ (t : List ℕ). lines_of design only (untried rule tried) ++ t) last))

-- ---- shapes

widths_of_inputs : (decls : List InputDecl) → map (λ (decl : InputDecl). decl.width) decls ≡ widths_of (map of_input decls)
widths_of_inputs [] = refl
widths_of_inputs (decl ∷ decls) = ap (λ (widths : List ℕ). decl.width ∷ widths) (widths_of_inputs decls)

widths_of_registers : (decls : List RegDecl) → map (λ (decl : RegDecl). decl.width) decls ≡ widths_of (map of_register decls)
widths_of_registers [] = refl
widths_of_registers (decl ∷ decls) = ap (λ (widths : List ℕ). decl.width ∷ widths) (widths_of_registers decls)

-- values that fit a design fit its shape
pub inputs_fit : (design : Parts) (shape : Shape) (values : List BitVector) → shape ≡ shape_of design → HaveWidths (input_widths design) values → HaveWidths (widths_of shape.inputs) values
inputs_fit design shape values is fit =
    subst (λ (widths : List ℕ). HaveWidths widths values) (widths_of_inputs design.inputs ∙ ap (λ (s : Shape). widths_of s.inputs) (sym is)) fit

pub registers_fit : (design : Parts) (shape : Shape) (values : List BitVector) → shape ≡ shape_of design → HaveWidths (register_widths design) values → HaveWidths (widths_of shape.registers) values
registers_fit design shape values is fit =
    subst (λ (widths : List ℕ). HaveWidths widths values) (widths_of_registers design.regs ∙ ap (λ (s : Shape). widths_of s.registers) (sym is)) fit

-- ---- refusals

-- one item more
pub items_more : {X : Type 0} (f : X → List ℕ) (xs : List X) (n : ℕ) → flat_map f (take (n + 1) xs) ≡ flat_map f (take n xs) ++ text_at f (slice_get xs n)
items_more {X} f xs n = ap (λ (k : ℕ). flat_map f (take k xs)) (add-one n) ∙ more xs n
  where
    more : (ys : List X) (k : ℕ) → flat_map f (take (suc k) ys) ≡ flat_map f (take k ys) ++ text_at f (slice_get ys k)
    more [] zero = refl
    more [] (suc k) = refl
    more (y ∷ ys) zero = append-nil (f y)
    more (y ∷ ys) (suc k) = ap (λ (t : List ℕ). f y ++ t) (more ys k) ∙ sym (append_assoc (f y) (flat_map f (take k ys)) (text_at f (slice_get ys k)))

-- ---- tokens

-- a line of tokens and more tokens
pub joined_more : (t : List ℕ) (ts us : List (List ℕ)) → joined_tokens ((t ∷ ts) ++ us) ≡ joined_tokens (t ∷ ts) ++ flat_map spaced us
joined_more t ts us = ap (λ (x : List ℕ). t ++ x) (flat_map-append spaced ts us) ∙ sym (append_assoc t (flat_map spaced ts) (flat_map spaced us))

refusal_joined : (design : Parts) (name : List ℕ) (c : Cause) (us : List (List ℕ)) → joined_tokens (refusal_tokens design name c ++ us) ≡ joined_tokens (refusal_tokens design name c) ++ flat_map spaced us
refusal_joined design name cause.Abort us = joined_more (codes "abort") (name ∷ []) us
refusal_joined design name (cause.OwnClash a) us = joined_more (codes "own") (name ∷ access_text design a ∷ []) us
refusal_joined design name (cause.Clash a q e) us = joined_more (codes "clash") (name ∷ access_text design a ∷ rule_name design q ∷ access_text design e ∷ []) us

-- a refusal, its count and its first cycle, one after another
pub refusal_written : (design : Parts) (name : List ℕ) (c : Cause) (count first : ℕ) (text : List ℕ)
    → (((text ++ joined_tokens (refusal_tokens design name c)) ++ spaced (decimal count)) ++ flat_map spaced (first_tokens first)) ++ 10 ∷ []
    ≡ text ++ refusal_line design name (record { cause = c; count = count; first = first })
refusal_written design name c count first text =
    let tokens = joined_tokens (refusal_tokens design name c) in
    let last = flat_map spaced (first_tokens first) in
    ap (λ (t : List ℕ). t ++ 10 ∷ []) (append_assoc (text ++ tokens) (spaced (decimal count)) last ∙ append_assoc text tokens (spaced (decimal count) ++ last))
    ∙ append_assoc text (tokens ++ (spaced (decimal count) ++ last)) (10 ∷ [])
    ∙ ap (λ (t : List ℕ). text ++ (t ++ 10 ∷ [])) (sym (refusal_joined design name c (decimal count ∷ first_tokens first)))

-- the counts of an assertion, and its first cycle
pub assert_written : (name : List ℕ) (n : RuleNumbers) (text : List ℕ)
    → ((text ++ joined_tokens (assert_counts name n)) ++ flat_map spaced (unwatched_tokens n.unwatched)) ++ 10 ∷ [] ≡ text ++ assert_line name (Some n)
assert_written name n text =
    let tokens = joined_tokens (assert_counts name n) in
    let last = flat_map spaced (unwatched_tokens n.unwatched) in
    ap (λ (t : List ℕ). t ++ 10 ∷ []) (append_assoc text tokens last) ∙ append_assoc text (tokens ++ last) (10 ∷ [])
    ∙ ap (λ (t : List ℕ). text ++ (t ++ 10 ∷ []))
    (sym (joined_more (codes "assert") (name ∷ codes "held" ∷ decimal n.aborted ∷ codes "violated" ∷ decimal n.fired ∷ codes "unwatched" ∷ decimal (unwatched_count n) ∷ []) (unwatched_tokens n.unwatched)))

-- a word, a token and lists of tokens, one after another
pub five_in_turn : (text word name : List ℕ) (a b c : List (List ℕ))
    → ((((text ++ word) ++ spaced name) ++ flat_map spaced a) ++ flat_map spaced b) ++ flat_map spaced c ≡ text ++ joined_tokens (word ∷ name ∷ (a ++ (b ++ c)))
five_in_turn text word name a b c =
    let x = flat_map spaced a in
    let y = flat_map spaced b in
    let z = flat_map spaced c in
    append_assoc (((text ++ word) ++ spaced name) ++ x) y z
    ∙ append_assoc ((text ++ word) ++ spaced name) x (y ++ z)
    ∙ append_assoc (text ++ word) (spaced name) (x ++ (y ++ z))
    ∙ append_assoc text word (spaced name ++ (x ++ (y ++ z)))
    ∙ ap (λ (t : List ℕ). text ++ (word ++ (spaced name ++ t))) (sym (flat_map-append spaced a (b ++ c) ∙ ap (λ (t : List ℕ). x ++ t) (flat_map-append spaced b c)))
