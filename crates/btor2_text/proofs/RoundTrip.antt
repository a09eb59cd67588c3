-- A printed line is read again as the line.
use Rattle.std.proofs.Common.{◌≡◌, ℕ, ◌<◌, ◌≤◌, ◌^◌, Bool, true, false, not, ◌||◌, eqb, List, [], ◌∷◌, ◌++◌, length, map, drop, None, Some, refl, sym, ap, ◌∙◌, subst, arith, lit<, lit≤, true≢false, ⊎_elim}
use Rattle.std.specs.Char.{digit_value}
use Rattle.std.specs.List.{All, AllPass, before_first, flat_map, list_all}
use Rattle.std.specs.Option.{option_to_list}
use Rattle.std.specs.Prelude.{decimal}
use Rattle.std.specs.Str.Parse.{AllDigits, IsNumeral}
use Rattle.std.proofs.lemmas.Bool.Decides.{eqb_tells}
use Rattle.std.proofs.lemmas.Fmt.{decimal_is_IsNumeral}
use Rattle.std.proofs.lemmas.List.{append-nil, append_assoc}
use Rattle.std.proofs.lemmas.List.Sums.{AllPass-from_list_all}
use Rattle.kw_base.specs.Texts.{ends_line, is_blank_or_return, is_semicolon}
use Rattle.kw_base.proofs.Cutting.{before_first-append, piece_first}
use Rattle.kw_base.proofs.Words.{none-from_passes, words_of-blank, words_of-nil, words_of-word}
use Rattle.btor2_text.specs.Cut.{lines_of, number_after, words_of, tokens_of}
use Rattle.btor2_text.specs.Forms.{keyword_text, kinds_of, radix_of}
use Rattle.btor2_text.specs.Lines.{IsArgument, BeginWithArguments, IsId, IsLine}
use Rattle.btor2_text.specs.Printable.{IsIdNumber, FitsKind, FitKinds, is_plain, IsPlainToken, AreTokens, IsPrintable, ArePrintable, numbered_from}
use Rattle.btor2_text.specs.Printing.{argument_text, spaced, spaced_argument, line_text, text_of}
use Rattle.btor2_text.specs.Reading.{AreLines}
use Rattle.btor2_text.specs.declared.keyword.Keyword.{Keyword}
use Rattle.btor2_text.specs.declared.keyword.Keyword.TheVariants as keywords
use Rattle.btor2_text.specs.declared.kind.Base.{Base}
use Rattle.btor2_text.specs.declared.kind.Base.TheVariants as bases
use Rattle.btor2_text.specs.declared.kind.ArgumentKind.{ArgumentKind}
use Rattle.btor2_text.specs.declared.kind.ArgumentKind.TheVariants as kinds
use Rattle.btor2_text.specs.declared.line.Argument.{Argument}
use Rattle.btor2_text.specs.declared.line.Line.{Line}
use Rattle.kw_base.proofs.Conjunction.{and-true, and-left, and-right}

-- a test of each byte of joined lists
all-append : (p : ℕ → Bool) (xs ys : List ℕ) → list_all p xs ≡ true → list_all p ys ≡ true → list_all p (xs ++ ys) ≡ true
all-append p [] ys h k = k
all-append p (x ∷ xs) ys h k = and-true (p x) (list_all p (xs ++ ys)) (and-left (p x) (list_all p xs) h) (all-append p xs ys (and-right (p x) (list_all p xs) h) k)

-- a weaker test
all-weaker : (p q : ℕ → Bool) → ((b : ℕ) → p b ≡ true → q b ≡ true) → (xs : List ℕ) → list_all p xs ≡ true → list_all q xs ≡ true
all-weaker p q weaker [] h = refl
all-weaker p q weaker (x ∷ xs) h = and-true (q x) (list_all q xs) (weaker x (and-left (p x) (list_all p xs) h)) (all-weaker p q weaker xs (and-right (p x) (list_all p xs) h))

-- what a plain byte isn't
not-or : (a b c : Bool) → not ((a || b) || c) ≡ true → (not a ≡ true) × (not b ≡ true) × (not c ≡ true)
not-or true b c h = absurd (true≢false (sym h))
not-or false true c h = absurd (true≢false (sym h))
not-or false false true h = absurd (true≢false (sym h))
not-or false false false h = (refl, refl, refl)

plain_no_blank : (b : ℕ) → is_plain b ≡ true → not (is_blank_or_return b) ≡ true
plain_no_blank b h = (not-or (is_blank_or_return b) (is_semicolon b) (ends_line b) h).0

plain_no_comment : (b : ℕ) → is_plain b ≡ true → not (is_semicolon b) ≡ true
plain_no_comment b h = (not-or (is_blank_or_return b) (is_semicolon b) (ends_line b) h).1

plain_no_end : (b : ℕ) → is_plain b ≡ true → not (ends_line b) ≡ true
plain_no_end b h = (not-or (is_blank_or_return b) (is_semicolon b) (ends_line b) h).2

-- tokens with spaces between them have only bytes that pass a test of plain bytes and the space
all-row : (p : ℕ → Bool) → ((b : ℕ) → is_plain b ≡ true → p b ≡ true) → p 32 ≡ true → (tokens : List (List ℕ)) → AreTokens tokens → list_all p (flat_map spaced tokens) ≡ true
all-row p plain space [] are = refl
all-row p plain space (token ∷ tokens) are =
    all-append p (spaced token) (flat_map spaced tokens) (and-true (p 32) (list_all p token) space (all-weaker is_plain p plain token are.0.plain)) (all-row p plain space tokens are.1)

-- bytes that all pass a test of plain bytes aren't cut
none_cut : (p : ℕ → Bool) (bytes : List ℕ) → list_all (λ b. not (p b)) bytes ≡ true → All (λ b. p b ≡ false) bytes
none_cut p bytes all = none-from_passes p bytes (AllPass-from_list_all (λ b. not (p b)) bytes all)

-- no byte of a token is blank
shown : (b : ℕ) (token : List ℕ) → IsPlainToken (b ∷ token) → AllPass (λ x. not (is_blank_or_return x)) (b ∷ token)
shown b token is = AllPass-from_list_all (λ x. not (is_blank_or_return x)) (b ∷ token) (all-weaker is_plain (λ x. not (is_blank_or_return x)) plain_no_blank (b ∷ token) is.plain)

-- they are cut into the tokens again
words_of-row : (token : List ℕ) (tokens : List (List ℕ)) → AreTokens (token ∷ tokens) → words_of (token ++ flat_map spaced tokens) ≡ token ∷ tokens
words_of-row [] tokens are = absurd (omega (arith, are.0.some_byte))
words_of-row (b ∷ token) [] are = words_of-word is_blank_or_return b token [] (shown b token are.0) tt ∙ ap (λ words. (b ∷ token) ∷ words) (words_of-nil is_blank_or_return)
words_of-row (b ∷ token) (next ∷ tokens) are =
    words_of-word is_blank_or_return b token (flat_map spaced (next ∷ tokens)) (shown b token are.0) refl
    ∙ ap (λ words. (b ∷ token) ∷ words) (words_of-blank is_blank_or_return 32 (next ++ flat_map spaced tokens) refl ∙ words_of-row next tokens are.1)

-- digits are plain
apart : (b c : ℕ) → digit_value c ≡ 36 → digit_value b < 36 → eqb b c ≡ false
apart b c none digit = ⊎_elim (λ same. absurd (omega (arith, digit, ap digit_value same.1 ∙ none))) (λ other. other.0) (eqb_tells b c)

plain_digit : (b : ℕ) → digit_value b < 36 → is_plain b ≡ true
plain_digit b digit =
    let space = apart b 32 refl digit in
    let tab = apart b 9 refl digit in
    let carriage = apart b 13 refl digit in
    let comment = apart b 59 refl digit in
    let line = apart b 10 refl digit in
    rw (space, tab, carriage, comment, line) refl

pub plain_digits : (radix : ℕ) → radix ≤ 36 → (digits : List ℕ) → AllDigits radix digits → list_all is_plain digits ≡ true
plain_digits radix small [] all = refl
plain_digits radix small (d ∷ digits) all = and-true (is_plain d) (list_all is_plain digits) (plain_digit d (omega (arith, all.0))) (plain_digits radix small digits all.1)

IsPlainToken-digits : (radix : ℕ) → radix ≤ 36 → (digits : List ℕ) → IsNumeral radix digits → IsPlainToken digits
IsPlainToken-digits radix small digits is = record { some_byte = is.0; plain = plain_digits radix small digits is.1 }

small_radix : (base : Base) → radix_of base ≤ 36
small_radix bases.Binary = lit≤ tt
small_radix bases.Decimal = lit≤ tt
small_radix bases.Hexadecimal = lit≤ tt

IsId-decimal : (id : ℕ) → IsIdNumber id → IsId (decimal id) id
IsId-decimal id is = let written = decimal_is_IsNumeral id is.1 in record { digits = written.0; value = sym written.1; low = is.0; high = is.1 }

IsPlainToken-decimal : (id : ℕ) → id < 2 ^ 64 → IsPlainToken (decimal id)
IsPlainToken-decimal id small = IsPlainToken-digits 10 (lit≤ tt) (decimal id) (decimal_is_IsNumeral id small).0

-- keywords are tokens
IsPlainToken-keyword : (keyword : Keyword) → IsPlainToken (keyword_text keyword)
IsPlainToken-keyword keywords.Sort = record { some_byte = lit< tt; plain = refl }
IsPlainToken-keyword keywords.Input = record { some_byte = lit< tt; plain = refl }
IsPlainToken-keyword keywords.State = record { some_byte = lit< tt; plain = refl }
IsPlainToken-keyword keywords.Zero = record { some_byte = lit< tt; plain = refl }
IsPlainToken-keyword keywords.One = record { some_byte = lit< tt; plain = refl }
IsPlainToken-keyword keywords.Ones = record { some_byte = lit< tt; plain = refl }
IsPlainToken-keyword keywords.Const = record { some_byte = lit< tt; plain = refl }
IsPlainToken-keyword keywords.Constd = record { some_byte = lit< tt; plain = refl }
IsPlainToken-keyword keywords.Consth = record { some_byte = lit< tt; plain = refl }
IsPlainToken-keyword keywords.Not = record { some_byte = lit< tt; plain = refl }
IsPlainToken-keyword keywords.Neg = record { some_byte = lit< tt; plain = refl }
IsPlainToken-keyword keywords.Inc = record { some_byte = lit< tt; plain = refl }
IsPlainToken-keyword keywords.Dec = record { some_byte = lit< tt; plain = refl }
IsPlainToken-keyword keywords.Redand = record { some_byte = lit< tt; plain = refl }
IsPlainToken-keyword keywords.Redor = record { some_byte = lit< tt; plain = refl }
IsPlainToken-keyword keywords.Redxor = record { some_byte = lit< tt; plain = refl }
IsPlainToken-keyword keywords.And = record { some_byte = lit< tt; plain = refl }
IsPlainToken-keyword keywords.Or = record { some_byte = lit< tt; plain = refl }
IsPlainToken-keyword keywords.Xor = record { some_byte = lit< tt; plain = refl }
IsPlainToken-keyword keywords.Nand = record { some_byte = lit< tt; plain = refl }
IsPlainToken-keyword keywords.Nor = record { some_byte = lit< tt; plain = refl }
IsPlainToken-keyword keywords.Xnor = record { some_byte = lit< tt; plain = refl }
IsPlainToken-keyword keywords.Add = record { some_byte = lit< tt; plain = refl }
IsPlainToken-keyword keywords.Sub = record { some_byte = lit< tt; plain = refl }
IsPlainToken-keyword keywords.Mul = record { some_byte = lit< tt; plain = refl }
IsPlainToken-keyword keywords.Sll = record { some_byte = lit< tt; plain = refl }
IsPlainToken-keyword keywords.Srl = record { some_byte = lit< tt; plain = refl }
IsPlainToken-keyword keywords.Sra = record { some_byte = lit< tt; plain = refl }
IsPlainToken-keyword keywords.Eq = record { some_byte = lit< tt; plain = refl }
IsPlainToken-keyword keywords.Neq = record { some_byte = lit< tt; plain = refl }
IsPlainToken-keyword keywords.Ult = record { some_byte = lit< tt; plain = refl }
IsPlainToken-keyword keywords.Ulte = record { some_byte = lit< tt; plain = refl }
IsPlainToken-keyword keywords.Ugt = record { some_byte = lit< tt; plain = refl }
IsPlainToken-keyword keywords.Ugte = record { some_byte = lit< tt; plain = refl }
IsPlainToken-keyword keywords.Slt = record { some_byte = lit< tt; plain = refl }
IsPlainToken-keyword keywords.Slte = record { some_byte = lit< tt; plain = refl }
IsPlainToken-keyword keywords.Sgt = record { some_byte = lit< tt; plain = refl }
IsPlainToken-keyword keywords.Sgte = record { some_byte = lit< tt; plain = refl }
IsPlainToken-keyword keywords.Iff = record { some_byte = lit< tt; plain = refl }
IsPlainToken-keyword keywords.Implies = record { some_byte = lit< tt; plain = refl }
IsPlainToken-keyword keywords.Concat = record { some_byte = lit< tt; plain = refl }
IsPlainToken-keyword keywords.Slice = record { some_byte = lit< tt; plain = refl }
IsPlainToken-keyword keywords.Uext = record { some_byte = lit< tt; plain = refl }
IsPlainToken-keyword keywords.Sext = record { some_byte = lit< tt; plain = refl }
IsPlainToken-keyword keywords.Ite = record { some_byte = lit< tt; plain = refl }
IsPlainToken-keyword keywords.Init = record { some_byte = lit< tt; plain = refl }
IsPlainToken-keyword keywords.Next = record { some_byte = lit< tt; plain = refl }
IsPlainToken-keyword keywords.Output = record { some_byte = lit< tt; plain = refl }
IsPlainToken-keyword keywords.Bad = record { some_byte = lit< tt; plain = refl }

-- an argument's token is the argument again
IsArgument-text : (kind : ArgumentKind) (argument : Argument) → FitsKind kind argument → IsArgument kind (argument_text argument) argument × IsPlainToken (argument_text argument)
IsArgument-text kinds.Bitvec argument fits =
    let P : Argument → Type 0 = λ a. IsArgument kinds.Bitvec (argument_text a) a × IsPlainToken (argument_text a) in
    subst P (sym fits) ((refl, refl), record { some_byte = lit< tt; plain = refl })
IsArgument-text kinds.Number argument fits =
    let P : Argument → Type 0 = λ a. IsArgument kinds.Number (argument_text a) a × IsPlainToken (argument_text a) in
    let wide : fits.0 < 2 ^ 64 = omega (arith, fits.1) in
    let written = decimal_is_IsNumeral fits.0 wide in
    subst P (sym fits.2) ((fits.0, record { digits = written.0; value = sym written.1; high = fits.1 }, refl), IsPlainToken-decimal fits.0 wide)
IsArgument-text kinds.Sort argument fits =
    let P : Argument → Type 0 = λ a. IsArgument kinds.Sort (argument_text a) a × IsPlainToken (argument_text a) in
    subst P (sym fits.2) ((fits.0, IsId-decimal fits.0 fits.1, refl), IsPlainToken-decimal fits.0 fits.1.1)
IsArgument-text kinds.Value argument fits =
    let P : Argument → Type 0 = λ a. IsArgument kinds.Value (argument_text a) a × IsPlainToken (argument_text a) in
    subst P (sym fits.2) ((fits.0, IsId-decimal fits.0 fits.1, refl), IsPlainToken-decimal fits.0 fits.1.1)
IsArgument-text (kinds.Numeral base) argument fits =
    let P : Argument → Type 0 = λ a. IsArgument (kinds.Numeral base) (argument_text a) a × IsPlainToken (argument_text a) in
    subst P (sym fits.2) ((fits.1, refl), IsPlainToken-digits (radix_of base) (small_radix base) fits.0 fits.1)

-- and so are a form's arguments; what follows them is left
record Written (kinds : List ArgumentKind) (given : List Argument) (behind : List (List ℕ)) : Type 0 where
  arguments : BeginWithArguments kinds (map argument_text given ++ behind) given
  rest : drop (length kinds) (map argument_text given ++ behind) ≡ behind
  tokens : AreTokens behind → AreTokens (map argument_text given ++ behind)

written : (kinds : List ArgumentKind) (given : List Argument) (behind : List (List ℕ)) → FitKinds kinds given → Written kinds given behind
written [] given behind fit =
    let P : List Argument → Type 0 = λ list. Written [] list behind in
    subst P (sym fit) (record { arguments = refl; rest = refl; tokens = λ are. are })
written (kind ∷ kinds) given behind fit =
    let P : List Argument → Type 0 = λ list. Written (kind ∷ kinds) list behind in
    let first = IsArgument-text kind fit.0 fit.3 in
    let others = written kinds fit.1 behind fit.4 in
    subst P (sym fit.2) (record {
      arguments = (fit.0, fit.1, refl, first.0, others.arguments);
      rest = others.rest;
      tokens = λ are. (first.1, others.tokens are);
    })

-- the tokens of a line behind its id
row : Line → List (List ℕ)
row line = keyword_text line.keyword ∷ (map argument_text line.arguments ++ option_to_list line.symbol)

flat_map-arguments : (given : List Argument) (behind : List (List ℕ)) → flat_map spaced_argument given ++ flat_map spaced behind ≡ flat_map spaced (map argument_text given ++ behind)
flat_map-arguments [] behind = refl
flat_map-arguments (first ∷ given) behind = append_assoc (spaced_argument first) (flat_map spaced_argument given) (flat_map spaced behind) ∙ ap (λ bytes. spaced_argument first ++ bytes) (flat_map-arguments given behind)

row_text : Line → List ℕ
row_text line = decimal line.id ++ flat_map spaced (row line)

line_text-row : (line : Line) → line_text line ≡ row_text line ++ 10 ∷ []
unfolding row_text row
line_text-row line =
    ap (λ bytes. bytes ++ 10 ∷ [])
    (append_assoc (decimal line.id ++ spaced (keyword_text line.keyword)) (flat_map spaced_argument line.arguments) (flat_map spaced (option_to_list line.symbol))
    ∙ append_assoc (decimal line.id) (spaced (keyword_text line.keyword)) (flat_map spaced_argument line.arguments ++ flat_map spaced (option_to_list line.symbol))
    ∙ ap (λ bytes. decimal line.id ++ (spaced (keyword_text line.keyword) ++ bytes)) (flat_map-arguments line.arguments (option_to_list line.symbol)))

are_tokens : (line : Line) → IsPrintable line → AreTokens (decimal line.id ∷ row line)
unfolding row
are_tokens line is =
    (IsPlainToken-decimal line.id is.id.1, (IsPlainToken-keyword line.keyword, (written (kinds_of line.keyword) line.arguments (option_to_list line.symbol) is.arguments).tokens is.symbol))

-- all of a line's text but its line feed
all-row_text : (p : ℕ → Bool) → ((b : ℕ) → is_plain b ≡ true → p b ≡ true) → p 32 ≡ true → (line : Line) → IsPrintable line → list_all p (row_text line) ≡ true
unfolding row_text
all-row_text p plain space line is =
    let are = are_tokens line is in
    all-append p (decimal line.id) (flat_map spaced (row line)) (all-weaker is_plain p plain (decimal line.id) are.0.plain) (all-row p plain space (row line) are.1)

tokens_of-row_text : (line : Line) → IsPrintable line → tokens_of (row_text line) ≡ decimal line.id ∷ row line
unfolding row_text
tokens_of-row_text line is =
    let code = before_first-append is_semicolon (row_text line) [] (none_cut is_semicolon (row_text line) (all-row_text (λ b. not (is_semicolon b)) plain_no_comment refl line is)) tt in
    ap words_of (ap (before_first is_semicolon) (sym (append-nil (row_text line))) ∙ code) ∙ words_of-row (decimal line.id) (row line) (are_tokens line is)

-- the tokens are the line
IsLine-row : (number : ℕ) (line : Line) → IsPrintable line → IsLine number (decimal line.id ∷ row line) (record line { number = number })
unfolding row
IsLine-row number line is =
    let parts = written (kinds_of line.keyword) line.arguments (option_to_list line.symbol) is.arguments in
    record {
      id_token = decimal line.id;
      others = map argument_text line.arguments ++ option_to_list line.symbol;
      parts = refl;
      id = IsId-decimal line.id is.id;
      arguments = parts.arguments;
      symbol = parts.rest;
      number_is = refl;
    }

lines_of-line_text : (line : Line) (rest : List ℕ) → IsPrintable line → lines_of (line_text line ++ rest) ≡ row_text line ∷ lines_of rest
lines_of-line_text line rest is =
    piece_first ends_line (line_text line ++ rest) (row_text line) 10 rest
    (ap (λ bytes. bytes ++ rest) (line_text-row line) ∙ append_assoc (row_text line) (10 ∷ []) rest)
    (none_cut ends_line (row_text line) (all-row_text (λ b. not (ends_line b)) plain_no_end refl line is))
    refl

-- lines that are printed are read again, numbered anew
pub AreLines-text_of : (number : ℕ) (lines : List Line) → ArePrintable lines → AreLines number (lines_of (text_of lines)) (numbered_from number lines)
AreLines-text_of number [] are = (None, [], refl, words_of-nil is_blank_or_return, refl)
AreLines-text_of number (line ∷ lines) are =
    let P : List (List ℕ) → Type 0 = λ texts. AreLines number texts (numbered_from number (line ∷ lines)) in
    let here : IsLine number (tokens_of (row_text line)) (record line { number = number }) =
    (let Q : List (List ℕ) → Type 0 = λ tokens. IsLine number tokens (record line { number = number }) in subst Q (sym (tokens_of-row_text line are.0)) (IsLine-row number line are.0)) in
    subst P (sym (lines_of-line_text line (text_of lines) are.0)) (Some (record line { number = number }), numbered_from (number_after number) lines, refl, here, AreLines-text_of (number_after number) lines are.1)
