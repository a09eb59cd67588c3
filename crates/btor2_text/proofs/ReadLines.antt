-- What is read can be printed.
use Rattle.std.proofs.Common.{◌≡◌, ℕ, zero, suc, ◌+◌, Bool, true, false, not, cond, ◌&&◌, ◌||◌, List, [], ◌∷◌, ◌++◌, length, take, drop, Option, None, Some, Ok, refl, sym, ap, subst, arith}
use Rattle.std.specs.List.{before_first, filter, list_all, onto_first, prefix_len, slice_split}
use Rattle.std.specs.Option.{option_to_list}
use Rattle.kw_base.specs.Texts.{ends_line, has_bytes, is_blank_or_return, is_semicolon, words_of}
use Rattle.btor2_text.specs.Cut.{lines_of, number_after, tokens_of}
use Rattle.btor2_text.specs.Forms.{keyword_text, kinds_of}
use Rattle.btor2_text.specs.Lines.{IsArgument, BeginWithArguments, IsLine}
use Rattle.btor2_text.specs.Printable.{FitsKind, FitKinds, is_plain, AreTokens, IsPrintable, ArePrintable}
use Rattle.btor2_text.specs.Reading.{Gives, AreLines, AreLinesOf}
use Rattle.btor2_text.specs.declared.kind.ArgumentKind.{ArgumentKind}
use Rattle.btor2_text.specs.declared.kind.ArgumentKind.TheVariants as kinds
use Rattle.btor2_text.specs.declared.line.Argument.{Argument}
use Rattle.btor2_text.specs.declared.line.Line.{Line}
use Rattle.kw_base.proofs.Conjunction.{and-true, and-left, and-right}

-- each part has only bytes that pass
EachPart : (ℕ → Bool) → List (List ℕ) → Type 0
EachPart test [] = Unit {0}
EachPart test (part ∷ parts) = (list_all test part ≡ true) × EachPart test parts

-- the bytes of the parts pass what all bytes pass, and don't end a part
within : (ℕ → Bool) → (ℕ → Bool) → ℕ → Bool
within q p b = q b && not (p b)

each-onto_first : (test : ℕ → Bool) (b : ℕ) (parts : List (List ℕ)) → test b ≡ true → EachPart test parts → EachPart test (onto_first b parts)
unfolding EachPart
each-onto_first test b [] passes each = (and-true (test b) true passes refl, tt)
each-onto_first test b (part ∷ parts) passes each = (and-true (test b) (list_all test part) passes each.0, each.1)

split-step : (q p : ℕ → Bool) (b : ℕ) (bytes : List ℕ) (ends : Bool) → p b ≡ ends → q b ≡ true → EachPart (within q p) (slice_split p bytes)
    → EachPart (within q p) (cond ends ([] ∷ slice_split p bytes) (onto_first b (slice_split p bytes)))
unfolding EachPart within
split-step q p b bytes true is passes each = (refl, each)
split-step q p b bytes false is passes each = each-onto_first (within q p) b (slice_split p bytes) (and-true (q b) (not (p b)) passes (ap not is)) each

each-split : (q p : ℕ → Bool) (bytes : List ℕ) → list_all q bytes ≡ true → EachPart (within q p) (slice_split p bytes)
unfolding EachPart
each-split q p [] all = (refl, tt)
each-split q p (b ∷ bytes) all = split-step q p b bytes (p b) refl (and-left (q b) (list_all q bytes) all) (each-split q p bytes (and-right (q b) (list_all q bytes) all))

-- what stands before the first byte that passes has none that does
cut-step : (p : ℕ → Bool) (q : ℕ → Bool) (b : ℕ) (bytes : List ℕ) (ends : Bool) → p b ≡ ends → q b ≡ true
    → list_all (within q p) (take (prefix_len (λ x. not (p x)) bytes) bytes) ≡ true
    → list_all (within q p) (take (cond (not ends) (1 + prefix_len (λ x. not (p x)) bytes) 0) (b ∷ bytes)) ≡ true
unfolding within
cut-step p q b bytes true is passes rest = refl
cut-step p q b bytes false is passes rest =
    let one : 1 + prefix_len (λ x. not (p x)) bytes ≡ suc (prefix_len (λ x. not (p x)) bytes) = omega arith in
    rw one (and-true (q b && not (p b)) (list_all (λ x. q x && not (p x)) (take (prefix_len (λ x. not (p x)) bytes) bytes)) (and-true (q b) (not (p b)) passes (ap not is)) rest)

before_first-all : (q p : ℕ → Bool) (bytes : List ℕ) → list_all q bytes ≡ true → list_all (within q p) (before_first p bytes) ≡ true
before_first-all q p [] all = refl
before_first-all q p (b ∷ bytes) all = cut-step p q b bytes (p b) refl (and-left (q b) (list_all q bytes) all) (before_first-all q p bytes (and-right (q b) (list_all q bytes) all))

-- a byte that isn't the end of a line, nor the begin of a comment, nor blank, is plain
plain-from : (blank comment ends : Bool) → ((not ends && not comment) && not blank) ≡ true → not ((blank || comment) || ends) ≡ true
plain-from true true true h = h
plain-from true true false h = h
plain-from true false true h = h
plain-from true false false h = h
plain-from false true true h = h
plain-from false true false h = h
plain-from false false true h = h
plain-from false false false h = h

all-plain : (bytes : List ℕ) → list_all (λ b. (not (ends_line b) && not (is_semicolon b)) && not (is_blank_or_return b)) bytes ≡ true → list_all is_plain bytes ≡ true
all-plain [] h = refl
all-plain (b ∷ bytes) h =
    let here = (not (ends_line b) && not (is_semicolon b)) && not (is_blank_or_return b) in
    let rest = list_all (λ x. (not (ends_line x) && not (is_semicolon x)) && not (is_blank_or_return x)) bytes in
    and-true (is_plain b) (list_all is_plain bytes) (plain-from (is_blank_or_return b) (is_semicolon b) (ends_line b) (and-left here rest h)) (all-plain bytes (and-right here rest h))

-- parts that aren't empty are tokens
tokens-filter : (parts : List (List ℕ)) → EachPart (λ b. (not (ends_line b) && not (is_semicolon b)) && not (is_blank_or_return b)) parts → AreTokens (filter has_bytes parts)
unfolding EachPart
tokens-filter [] each = tt
tokens-filter ([] ∷ parts) each = tokens-filter parts each.1
tokens-filter ((b ∷ part) ∷ parts) each = (record { some_byte = omega arith; plain = all-plain (b ∷ part) each.0 }, tokens-filter parts each.1)

-- the tokens of a line are tokens
AreTokens-tokens_of : (line : List ℕ) → list_all (λ b. not (ends_line b)) line ≡ true → AreTokens (tokens_of line)
unfolding words_of within
AreTokens-tokens_of line no_end =
    tokens-filter (slice_split is_blank_or_return (before_first is_semicolon line))
    (each-split (λ b. not (ends_line b) && not (is_semicolon b)) is_blank_or_return (before_first is_semicolon line) (before_first-all (λ b. not (ends_line b)) is_semicolon line no_end))

AreTokens-drop : (n : ℕ) (tokens : List (List ℕ)) → AreTokens tokens → AreTokens (drop n tokens)
AreTokens-drop zero tokens are = are
AreTokens-drop (suc n) [] are = tt
AreTokens-drop (suc n) (token ∷ tokens) are = AreTokens-drop n tokens are.1

FitsKind-IsArgument : (kind : ArgumentKind) (token : List ℕ) (argument : Argument) → IsArgument kind token argument → FitsKind kind argument
FitsKind-IsArgument kinds.Bitvec token argument is = is.1
FitsKind-IsArgument kinds.Number token argument is = (is.0, is.1.high, is.2)
FitsKind-IsArgument kinds.Sort token argument is = (is.0, (is.1.low, is.1.high), is.2)
FitsKind-IsArgument kinds.Value token argument is = (is.0, (is.1.low, is.1.high), is.2)
FitsKind-IsArgument (kinds.Numeral base) token argument is = (token, is.0, is.1)

FitKinds-arguments : (kinds : List ArgumentKind) (tokens : List (List ℕ)) (given : List Argument) → BeginWithArguments kinds tokens given → FitKinds kinds given
FitKinds-arguments [] tokens given are = are
FitKinds-arguments (kind ∷ kinds) [] given are = absurd are
FitKinds-arguments (kind ∷ kinds) (token ∷ tokens) given are = (are.0, are.1, are.2, FitsKind-IsArgument kind token are.0 are.3, FitKinds-arguments kinds tokens are.1 are.4)

IsPrintable-line : (number : ℕ) (tokens : List (List ℕ)) (line : Line) → AreTokens tokens → IsLine number tokens line → IsPrintable line
IsPrintable-line number tokens line are is =
    let split : AreTokens (is.id_token ∷ keyword_text line.keyword ∷ is.others) = subst AreTokens is.parts are in
    record {
      id = (is.id.low, is.id.high);
      arguments = FitKinds-arguments (kinds_of line.keyword) is.others line.arguments is.arguments;
      symbol = subst AreTokens is.symbol (AreTokens-drop (length (kinds_of line.keyword)) is.others split.1.1);
    }

ArePrintable-read : (number : ℕ) (text : List ℕ) (read : Option Line) (others : List Line) → list_all (λ b. not (ends_line b)) text ≡ true → Gives number (tokens_of text) (Ok read) → ArePrintable others
    → ArePrintable (option_to_list read ++ others)
ArePrintable-read number text None others no_end gives are = are
ArePrintable-read number text (Some line) others no_end gives are = (IsPrintable-line number (tokens_of text) line (AreTokens-tokens_of text no_end) gives, are)

ArePrintable-lines : (number : ℕ) (texts : List (List ℕ)) (lines : List Line) → EachPart (λ b. not (ends_line b)) texts → AreLines number texts lines → ArePrintable lines
unfolding EachPart
ArePrintable-lines number [] lines each are = subst ArePrintable (sym are) tt
ArePrintable-lines number (text ∷ texts) lines each are =
    subst ArePrintable (sym are.2) (ArePrintable-read number text are.0 are.1 each.0 are.3 (ArePrintable-lines (number_after number) texts are.1 each.1 are.4))

all-true : (bytes : List ℕ) → list_all (λ _. true) bytes ≡ true
all-true [] = refl
all-true (b ∷ bytes) = all-true bytes

-- the lines that are read of a text can be printed
pub ArePrintable-AreLinesOf : (text : List ℕ) (lines : List Line) → AreLinesOf text lines → ArePrintable lines
unfolding within
ArePrintable-AreLinesOf text lines are = ArePrintable-lines 1 (lines_of text) lines (each-split (λ _. true) ends_line text (all-true text)) are
