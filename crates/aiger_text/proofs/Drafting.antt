-- What the steps of reading lines come to.
use Rattle.std.proofs.Common.{◌≡◌, ℕ, zero, suc, ◌<◌, Bool, true, false, cond, List, [], ◌∷◌, length, get_or, set, Option, None, Some, Ok, Err, refl, sym, ap, ◌∙◌, arith, true≢false}
use Rattle.std.specs.Option.{is_some}
use Rattle.std.proofs.lemmas.Bool.{lt-ltb}
use Rattle.aiger_text.specs.Drafts.{Draft, first_symbol, named_at, put_symbol, section_of, with_line, with_line_in}
use Rattle.aiger_text.specs.declared.header.Header.{Header}
use Rattle.aiger_text.specs.declared.header.Section.{Section}

-- a line by its section
pub with_line-at : (s : Section) (h : Header) (d : Draft) (line : List ℕ) → section_of h d ≡ s → with_line h d line ≡ with_line_in s h d line
unfolding with_line
with_line-at s h d line is = ap (λ s. with_line_in s h d line) is

-- a place that has a symbol keeps it, and one that has none takes it
pub named_at-some : (symbols : List (Option (List ℕ))) (k : ℕ) (name symbol : List ℕ) (d : Option (List ℕ)) → k < length symbols → get_or symbols k d ≡ Some symbol → named_at symbols k name ≡ symbols
named_at-some [] k name symbol d within is = refl
named_at-some (s ∷ symbols) zero name symbol d within is = ap (λ s. s ∷ symbols) (ap (λ s. first_symbol s name) is ∙ sym is)
named_at-some (s ∷ symbols) (suc k) name symbol d within is = ap (λ symbols. s ∷ symbols) (named_at-some symbols k name symbol d (omega arith) is)

pub named_at-none : (symbols : List (Option (List ℕ))) (k : ℕ) (name : List ℕ) (d : Option (List ℕ)) → k < length symbols → get_or symbols k d ≡ None → named_at symbols k name ≡ set symbols k (Some name)
named_at-none [] k name d within is = absurd (omega arith)
named_at-none (s ∷ symbols) zero name d within is = ap (λ s. first_symbol s name ∷ symbols) is
named_at-none (s ∷ symbols) (suc k) name d within is = ap (λ symbols. s ∷ symbols) (named_at-none symbols k name d (omega arith) is)

pub put_symbol-within : (symbols : List (Option (List ℕ))) (k : ℕ) (name : List ℕ) → k < length symbols → put_symbol symbols k name ≡ Ok (named_at symbols k name)
put_symbol-within symbols k name within = ap (λ t. cond t (Ok (named_at symbols k name)) (Err 70)) (lt-ltb k (length symbols) within)

-- the same by the symbol that is there
pub put_symbol-kept : (symbols : List (Option (List ℕ))) (k : ℕ) (name : List ℕ) (there : Option (List ℕ)) (b : Bool) → k < length symbols → there ≡ get_or symbols k there → b ≡ is_some there → b ≡ true
    → put_symbol symbols k name ≡ Ok symbols
put_symbol-kept symbols k name None b within at is filled = absurd (true≢false (sym filled ∙ is))
put_symbol-kept symbols k name (Some symbol) b within at is filled = put_symbol-within symbols k name within ∙ ap Ok (named_at-some symbols k name symbol (Some symbol) within (sym at))

pub put_symbol-new : (symbols : List (Option (List ℕ))) (k : ℕ) (name text : List ℕ) (there : Option (List ℕ)) (b : Bool) → k < length symbols → there ≡ get_or symbols k there → b ≡ is_some there → b ≡ false
    → text ≡ name → put_symbol symbols k name ≡ Ok (set symbols k (Some text))
put_symbol-new symbols k name text None b within at is free same =
    put_symbol-within symbols k name within ∙ ap Ok (named_at-none symbols k name None within (sym at)) ∙ ap (λ (t : List ℕ). Ok (set symbols k (Some t))) (sym same)
put_symbol-new symbols k name text (Some symbol) b within at is free same = absurd (true≢false (sym is ∙ free))
