-- What a line says, by its first tokens.
use Rattle.std.proofs.Common.{◌≡◌, ℕ, Bool, true, false, cond, List, [], ◌∷◌, Option, Some, None, Result, Ok, Err, refl, sym, ap, ap₂, ◌∙◌, subst, true≢false}
use Rattle.std.specs.Option.{IfNone, IfSome, is_some, option_map}
use Rattle.std.specs.Prelude.{IfOk}
use Rattle.kw_base.specs.declared.fault.Refusal.{Refusal}
use Rattle.clause_check.specs.Lines.{tokens_of}
use Rattle.clause_check.specs.Steps.{◌>>=◌, skips, adds, drops, addition_in, at_end, literals_in, number_of, numbered_in, numbers_in, step_of}
use Rattle.clause_check.specs.Clauses.{Clause}
use Rattle.clause_check.specs.inner.Tokens.{Closes, IsNumber, NoNumber, NotFirst}
use denote.Ref.{Bor}

-- a line without tokens, and a comment
pub line_empty : (variables : ℕ) (tokens : List (List ℕ)) → tokens ≡ [] → step_of variables tokens ≡ Some skips
unfolding step_of
line_empty variables tokens none = ap (step_of variables) none

pub line_comment : (variables : ℕ) (tokens : List (List ℕ)) (o : Option (Bor (List ℕ))) → is_some o ≡ true → IfSome o (λ rest. tokens ≡ (99 ∷ []) ∷ tokens_of rest.now) → step_of variables tokens ≡ Some skips
unfolding step_of
line_comment variables tokens None is cut = absurd (true≢false (sym is))
line_comment variables tokens (Some rest) is cut = ap (step_of variables) cut

pub no_comment : (letter : ℕ) (tokens : List (List ℕ)) (o : Option (Bor (List ℕ))) → is_some o ≡ false → IfNone o (NotFirst letter tokens) → NotFirst letter tokens
no_comment letter tokens None is other = other
no_comment letter tokens (Some rest) is other = absurd (true≢false is)

by_number : (variables : ℕ) (token : List ℕ) (others : List (List ℕ)) (o : Option ℕ) → NotFirst 99 (token ∷ others) → number_of token ≡ o
    → step_of variables (token ∷ others) ≡ (o >>= λ (number : ℕ). numbered_in variables number others)
unfolding step_of
by_number variables token others o other is = ap₂ (λ (t : Bool) (n : Option ℕ). cond t (Some skips) (n >>= λ (number : ℕ). numbered_in variables number others)) other is

-- a line that begins with a number
pub line_numbered : (variables number : ℕ) (tokens : List (List ℕ)) (rest : List ℕ) → NotFirst 99 tokens → IsNumber tokens number rest → step_of variables tokens ≡ numbered_in variables number (tokens_of rest)
line_numbered variables number tokens rest other is =
    ap (step_of variables) is.3 ∙ by_number variables is.0 (tokens_of rest) (Some number) (subst (NotFirst 99) is.3 other) is.2

-- a line that doesn't
pub line_closed : (variables : ℕ) (tokens : List (List ℕ)) (rest : List ℕ) → NotFirst 99 tokens → Closes tokens rest → step_of variables tokens ≡ None
line_closed variables tokens rest other is = ap (step_of variables) is.3 ∙ by_number variables is.0 (tokens_of rest) None (subst (NotFirst 99) is.3 other) is.2

pub line_malformed : (variables : ℕ) (tokens : List (List ℕ)) → NotFirst 99 tokens → NoNumber tokens → at_end tokens ≡ None → step_of variables tokens ≡ None
line_malformed variables [] other none some = absurd (cc)
line_malformed variables (token ∷ tokens) other none some = by_number variables token tokens None other none.1

-- a line that drops clauses
pub line_drops : (variables number : ℕ) (tokens : List (List ℕ)) (rest : List ℕ) (o : Option (List ℕ)) → tokens ≡ (100 ∷ []) ∷ tokens_of rest → numbers_in (tokens_of rest) ≡ o
    → numbered_in variables number tokens ≡ option_map drops o
line_drops variables number tokens rest o cut is = ap (numbered_in variables number) cut ∙ ap (option_map drops) is

-- a line that adds one
pub line_adds : (variables number : ℕ) (tokens : List (List ℕ)) (clause : Clause) (rest : List ℕ) (o : Option (List ℕ)) → NotFirst 100 tokens → literals_in variables tokens ≡ Some (clause, tokens_of rest) → numbers_in (tokens_of rest) ≡ o
    → numbered_in variables number tokens ≡ (o >>= λ (hints : List ℕ). Some (adds number clause hints))
line_adds variables number [] clause rest o other is hints = absurd (cc)
line_adds variables number (token ∷ tokens) clause rest o other is hints =
    ap (λ t. cond t (option_map drops (numbers_in tokens)) (addition_in variables number (token ∷ tokens))) other
    ∙ ap (λ (f : Option (Clause × List (List ℕ))). f >>= λ (found : Clause × List (List ℕ)). numbers_in found.1 >>= λ (hs : List ℕ). Some (adds number found.0 hs)) is
    ∙ ap (λ (n : Option (List ℕ)). n >>= λ (hs : List ℕ). Some (adds number clause hs)) hints

pub line_no_literals : (variables number : ℕ) (tokens : List (List ℕ)) → NotFirst 100 tokens → literals_in variables tokens ≡ None → numbered_in variables number tokens ≡ None
line_no_literals variables number [] other is = refl
line_no_literals variables number (token ∷ tokens) other is =
    ap (λ t. cond t (option_map drops (numbers_in tokens)) (addition_in variables number (token ∷ tokens))) other
    ∙ ap (λ (f : Option (Clause × List (List ℕ))). f >>= λ (found : Clause × List (List ℕ)). numbers_in found.1 >>= λ (hs : List ℕ). Some (adds number found.0 hs)) is

-- what is read of the rest is read of the line
pub read_so : {X Y : Type 0} (r : Result X Refusal) (x y : Option Y) (f : X → Option Y) → x ≡ y → IfOk r (λ found. y ≡ f found) → IfOk r (λ found. x ≡ f found)
read_so (Ok found) x y f same is = same ∙ is
read_so (Err e) x y f same is = is
