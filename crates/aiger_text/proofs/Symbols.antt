-- How the symbols of a printed circuit are read, one after another.
use Rattle.std.proofs.Common.{◌≡◌, ℕ, zero, suc, ◌+◌, ◌<◌, ◌≤◌, ◌^◌, Bool, true, false, not, eqb, List, [], ◌∷◌, ◌++◌, length, map, refl, sym, ap, ap₂, subst, ◌∙◌, arith, append_assoc, Option, None, Some, Ok}
use Rattle.std.specs.Prelude.{◌≢◌, bytes_eq, decimal}
use Rattle.std.specs.List.{All, AllByRecursion, AllPass}
use Rattle.std.proofs.lemmas.Bool.{and_left}
use Rattle.std.proofs.lemmas.Fmt.{decimal_is_IsNumeral}
use Rattle.std.proofs.lemmas.List.{length-append, length_push, nil_from_length}
use Rattle.std.proofs.lemmas.List.Elements.{All-from_recursion, recursion_from_All}
use Rattle.stim_report.specs.Stimuli.{after}
use Rattle.kw_base.specs.Texts.{StopsAt, front_of, is_blank, rest_of}
use Rattle.kw_base.proofs.Cutting.{front_of-parts, rest_of-parts}
use Rattle.aiger_text.specs.Cuts.{not_blank, without_blanks}
use Rattle.aiger_text.specs.Drafts.{Draft, is_end, named_at, put_symbol, section_of, symbol_at, symbol_by, symbol_of, with_line, with_symbol, word_before}
use Rattle.aiger_text.specs.declared.header.Header.{Header}
use Rattle.aiger_text.specs.declared.header.Section.TheVariants as sections
use Rattle.aiger_text.proofs.Drafting.{put_symbol-within, with_line-at}
use Rattle.aiger_text.proofs.LineEnds.{all_joined, IsLine}
use Rattle.aiger_text.proofs.Naming.{digits_other}
use Rattle.aiger_text.proofs.PrintedLines.{digits-not_blank, decimal_number-decimal}
use Rattle.aiger_text.proofs.Sections.{nones}
use Rattle.aiger_text.proofs.Stepping.{Leads, leads-line, leads-none}

abbrev pub symbol_row : ℕ → ℕ → List ℕ → List ℕ
symbol_row kind index name = (kind ∷ decimal index) ++ 32 ∷ name

abbrev pub symbol_rows : ℕ → ℕ → List (List ℕ) → List (List ℕ)
symbol_rows kind index [] = []
symbol_rows kind index (name ∷ names) = symbol_row kind index name ∷ symbol_rows kind (suc index) names

pub symbol_rows-append : (kind index : ℕ) (xs ys : List (List ℕ)) → symbol_rows kind index (xs ++ ys) ≡ symbol_rows kind index xs ++ symbol_rows kind (index + length xs) ys
symbol_rows-append kind index [] ys = let same : index ≡ index + 0 = omega arith in ap (λ n. symbol_rows kind n ys) same
symbol_rows-append kind index (x ∷ xs) ys =
    let same : suc index + length xs ≡ index + suc (length xs) = omega arith in
    ap (λ rows. symbol_row kind index x ∷ rows) (symbol_rows-append kind (suc index) xs ys ∙ ap (λ n. symbol_rows kind (suc index) xs ++ symbol_rows kind n ys) same)

-- a name can be read again: it has a byte or more, and begins with no blank
pub record IsReadName (name : List ℕ) : Type 0 where
  pub some : name ≢ []
  pub begins : StopsAt is_blank name

no_byte : (p : ℕ → Bool) → AllPass p []
no_byte p = λ k d within. absurd (omega arith)

starts : (bytes : List ℕ) (p : ℕ → Bool) → StopsAt p bytes → rest_of p bytes ≡ bytes
starts bytes p stops = rest_of-parts p bytes [] bytes refl (no_byte p) stops

word_before-row : (kind index : ℕ) (name : List ℕ) → is_blank kind ≡ false → index < 2 ^ 63 → (word_before (symbol_row kind index name) ≡ kind ∷ decimal index) × (rest_of not_blank (without_blanks (symbol_row kind index name)) ≡ 32 ∷ name)
word_before-row kind index name filled small =
    let line : List ℕ = symbol_row kind index name in
    let whole : without_blanks line ≡ line = starts line is_blank filled in
    let word : AllPass not_blank (kind ∷ decimal index) =
    All-from_recursion (λ (b : ℕ). not_blank b ≡ true) (kind ∷ decimal index) (ap not filled, digits-not_blank (decimal index) (decimal_is_IsNumeral index (omega (arith, small))).0.1) in (
      ap (front_of not_blank) whole ∙ front_of-parts not_blank line (kind ∷ decimal index) (32 ∷ name) refl word refl,
      ap (rest_of not_blank) whole ∙ rest_of-parts not_blank line (kind ∷ decimal index) (32 ∷ name) refl word refl,
    )

symbol_at-name : (d : Draft) (kind k : ℕ) (name : List ℕ) → name ≢ [] → symbol_at d kind (Some k) name ≡ symbol_by d kind k name
symbol_at-name d kind k [] some = absurd (some refl)
symbol_at-name d kind k (b ∷ bytes) some = refl

with_symbol-row : (d : Draft) (kind index : ℕ) (name : List ℕ) → is_blank kind ≡ false → index < 2 ^ 63 → IsReadName name → with_symbol d (symbol_row kind index name) ≡ symbol_by d kind index name
with_symbol-row d kind index name filled small is =
    let parts = word_before-row kind index name filled small in
    ap₂ (λ (word : List ℕ) (rest : List ℕ). symbol_of d word (without_blanks rest)) parts.0 parts.1 ∙ ap (symbol_of d (kind ∷ decimal index)) (starts name is_blank is.begins)
    ∙ ap (λ k. symbol_at d kind k name) (decimal_number-decimal index small) ∙ symbol_at-name d kind index name is.some

-- the first place without a symbol
named_at-next : (done rest : List (Option (List ℕ))) (name : List ℕ) → named_at (done ++ None ∷ rest) (length done) name ≡ done ++ Some name ∷ rest
named_at-next [] rest name = refl
named_at-next (symbol ∷ done) rest name = ap (λ symbols. symbol ∷ symbols) (named_at-next done rest name)

pub length-nones : (m : ℕ) → length (nones m) ≡ m
length-nones zero = refl
length-nones (suc m) = ap suc (length-nones m)

-- symbols of one kind, for drafts that differ in these alone
module _ (h : Header) (kind : ℕ) (with : List (Option (List ℕ)) → Draft) (filled : is_blank kind ≡ false) (other : eqb kind 99 ≡ false)
    (puts : (symbols : List (Option (List ℕ))) (k : ℕ) (name : List ℕ) → symbol_by (with symbols) kind k name ≡ after (put_symbol symbols k name) (λ named. Ok (with named)))
    (count : ℕ) (comes : (symbols : List (Option (List ℕ))) → length symbols ≡ count → section_of h (with symbols) ≡ sections.Symbol) (few : count ≤ 2 ^ 63) where
  pub symbols_lead : (names : List (List ℕ)) (done : List (Option (List ℕ))) (new : Draft) → length done + length names ≡ count → AllByRecursion IsReadName names → new ≡ with (done ++ map Some names)
      → Leads h (with (done ++ nones (length names))) (symbol_rows kind (length done) names) new
  symbols_lead [] done new all are is = subst (Leads h (with (done ++ [])) []) (sym is) (leads-none h (with (done ++ [])))
  symbols_lead (name ∷ names) done new all are is =
      let old : List (Option (List ℕ)) = done ++ None ∷ nones (length names) in
      let more : List (Option (List ℕ)) = done ++ Some name ∷ nones (length names) in
      let long : length old ≡ count = omega (arith, length-append done (None ∷ nones (length names)), length-nones (length names), all) in
      let line : List ℕ = symbol_row kind (length done) name in
      let reads : with_line h (with old) line ≡ Ok (with more) =
      with_line-at sections.Symbol h (with old) line (comes old long) ∙ with_symbol-row (with old) kind (length done) name filled (omega (arith, all, few)) are.0 ∙ puts old (length done) name
      ∙ ap (λ r. after r (λ named. Ok (with named))) (put_symbol-within old (length done) name (omega (arith, long, all)) ∙ ap Ok (named_at-next done (nones (length names)) name)) in
      let pushed : more ≡ (done ++ Some name ∷ []) ++ nones (length names) = sym (append_assoc done (Some name ∷ []) (nones (length names))) in
      let place : suc (length done) ≡ length (done ++ Some name ∷ []) = sym (length_push done (Some name) ∙ omega arith) in
      leads-line h (with old) (with more) new line (symbol_rows kind (suc (length done)) names) reads
      (ap (λ s. is_end s line) (comes old long) ∙ and_left (eqb kind 99) (bytes_eq (decimal (length done) ++ 32 ∷ name) []) other)
      (subst (λ (n : ℕ). Leads h (with more) (symbol_rows kind n names) new) (sym place)
      (subst (λ (symbols : List (Option (List ℕ))). Leads h (with symbols) (symbol_rows kind (length (done ++ Some name ∷ [])) names) new) (sym pushed)
      (symbols_lead names (done ++ Some name ∷ []) new (omega (arith, all, length_push done (Some name))) are.1 (is ∙ ap with (sym (append_assoc done (Some name ∷ []) (map Some names)))))))

-- bytes end as their last part does
last_of : (front name rest : List ℕ) → name ≢ [] → ((rest : List ℕ) → name ≢ rest ++ 13 ∷ []) → front ++ name ≢ rest ++ 13 ∷ []
last_of [] name rest some ends same = ends rest same
last_of (f ∷ front) name [] some ends same = let none : front ++ name ≡ [] = cc in some (nil_from_length name (omega (arith, ap length none, length-append front name)))
last_of (f ∷ front) name (r ∷ rest) some ends same = let next : front ++ name ≡ rest ++ 13 ∷ [] = cc in last_of front name rest some ends next

-- the line of a symbol
pub IsLine-symbol : (kind index : ℕ) (name : List ℕ) → kind ≢ 10 → index < 2 ^ 63 → All (λ (byte : ℕ). byte ≢ 10) name → name ≢ [] → ((rest : List ℕ) → name ≢ rest ++ 13 ∷ []) → IsLine (symbol_row kind index name)
IsLine-symbol kind index name feed small one_line some ends = record {
  one_line =
      all_joined (λ (byte : ℕ). byte ≢ 10) (kind ∷ decimal index) (32 ∷ name) (feed, digits_other (decimal index) 10 refl (decimal_is_IsNumeral index (omega (arith, small))).0.1)
      ((λ same. absurd (omega (arith, same))), recursion_from_All (λ (byte : ℕ). byte ≢ 10) name one_line);
  ends = λ rest same. last_of ((kind ∷ decimal index) ++ 32 ∷ []) name rest some ends (append_assoc (kind ∷ decimal index) (32 ∷ []) name ∙ same);
}
