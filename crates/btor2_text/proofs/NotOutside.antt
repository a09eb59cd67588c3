-- No line of a form is one that is left out.
use Rattle.std.proofs.Common.{◌≡◌, ◌≢◌, ℕ, ◌<◌, Bool, true, false, List, [], ◌∷◌, refl, sym, ◌∙◌, subst, arith, ⊎_elim, true≢false}
use Rattle.std.specs.Char.{digit_value}
use Rattle.std.specs.List.{list_any}
use Rattle.std.specs.Str.Parse.{AllDigits}
use Rattle.std.specs.Prelude.{bytes_eq, Contains, codes}
use Rattle.std.proofs.lemmas.Slice.Eq.{bytes_eq-Decides}
use Rattle.btor2_text.specs.Forms.{keyword_text, kinds_of, left_out, radix_of}
use Rattle.btor2_text.specs.Lines.{IsArgument, IsNegative, BeginWithArguments, HasMinus, IsArraySort, IsLine, IsNegated, IsOutside}
use Rattle.btor2_text.specs.declared.keyword.Keyword.{Keyword}
use Rattle.btor2_text.specs.declared.keyword.Keyword.TheVariants as keywords
use Rattle.btor2_text.specs.declared.kind.Base.{Base}
use Rattle.btor2_text.specs.declared.kind.Base.TheVariants as bases
use Rattle.btor2_text.specs.declared.kind.ArgumentKind.{ArgumentKind}
use Rattle.btor2_text.specs.declared.kind.ArgumentKind.TheVariants as kinds
use Rattle.btor2_text.specs.declared.line.Argument.{Argument}
use Rattle.btor2_text.specs.declared.line.Line.{Line}
use Rattle.btor2_text.proofs.FormsOfLines.{negation_of, same_word, same_others}
use Rattle.btor2_text.proofs.KeywordTable.{same_keyword}
use Rattle.btor2_text.proofs.Members.{listed-Decides}

listed : List ℕ → Bool
listed word = list_any (λ w. bytes_eq w word) left_out

listed-keyword_text : (keyword : Keyword) → listed (keyword_text keyword) ≡ false
unfolding listed
listed-keyword_text keywords.Sort = refl
listed-keyword_text keywords.Input = refl
listed-keyword_text keywords.State = refl
listed-keyword_text keywords.Zero = refl
listed-keyword_text keywords.One = refl
listed-keyword_text keywords.Ones = refl
listed-keyword_text keywords.Const = refl
listed-keyword_text keywords.Constd = refl
listed-keyword_text keywords.Consth = refl
listed-keyword_text keywords.Not = refl
listed-keyword_text keywords.Neg = refl
listed-keyword_text keywords.Inc = refl
listed-keyword_text keywords.Dec = refl
listed-keyword_text keywords.Redand = refl
listed-keyword_text keywords.Redor = refl
listed-keyword_text keywords.Redxor = refl
listed-keyword_text keywords.And = refl
listed-keyword_text keywords.Or = refl
listed-keyword_text keywords.Xor = refl
listed-keyword_text keywords.Nand = refl
listed-keyword_text keywords.Nor = refl
listed-keyword_text keywords.Xnor = refl
listed-keyword_text keywords.Add = refl
listed-keyword_text keywords.Sub = refl
listed-keyword_text keywords.Mul = refl
listed-keyword_text keywords.Sll = refl
listed-keyword_text keywords.Srl = refl
listed-keyword_text keywords.Sra = refl
listed-keyword_text keywords.Eq = refl
listed-keyword_text keywords.Neq = refl
listed-keyword_text keywords.Ult = refl
listed-keyword_text keywords.Ulte = refl
listed-keyword_text keywords.Ugt = refl
listed-keyword_text keywords.Ugte = refl
listed-keyword_text keywords.Slt = refl
listed-keyword_text keywords.Slte = refl
listed-keyword_text keywords.Sgt = refl
listed-keyword_text keywords.Sgte = refl
listed-keyword_text keywords.Iff = refl
listed-keyword_text keywords.Implies = refl
listed-keyword_text keywords.Concat = refl
listed-keyword_text keywords.Slice = refl
listed-keyword_text keywords.Uext = refl
listed-keyword_text keywords.Sext = refl
listed-keyword_text keywords.Ite = refl
listed-keyword_text keywords.Init = refl
listed-keyword_text keywords.Next = refl
listed-keyword_text keywords.Output = refl
listed-keyword_text keywords.Bad = refl

listed-Contains : (word : List ℕ) → Contains left_out word → listed word ≡ true
unfolding listed
listed-Contains word among = (listed-Decides left_out word).1 among

-- no keyword of a form is left out
pub not_listed : (keyword : Keyword) → ¬ Contains left_out (keyword_text keyword)
not_listed keyword among = true≢false (sym (listed-Contains (keyword_text keyword) among) ∙ listed-keyword_text keyword)

-- no digit is a minus sign
minus_is_no_digit : (base : Base) → ¬ (digit_value 45 < radix_of base)
minus_is_no_digit bases.Binary = λ h. omega (arith, h)
minus_is_no_digit bases.Decimal = λ h. omega (arith, h)
minus_is_no_digit bases.Hexadecimal = λ h. omega (arith, h)

first_digit : (radix : ℕ) (token digits : List ℕ) → AllDigits radix token → token ≡ 45 ∷ digits → digit_value 45 < radix
first_digit radix token digits all is = (subst (λ t. AllDigits radix t) is all).0

not_negative : (kind : ArgumentKind) (token : List ℕ) (argument : Argument) → IsArgument kind token argument → ¬ IsNegative kind token
not_negative kinds.Bitvec token argument reads = λ negative. true≢false (sym negative.0)
not_negative kinds.Number token argument reads = λ negative. true≢false (sym negative.0)
not_negative kinds.Sort token argument reads = λ negative. true≢false (sym negative.0)
not_negative kinds.Value token argument reads = λ negative. minus_is_no_digit bases.Decimal (first_digit 10 token negative.1.0 reads.1.digits.1 negative.1.1)
not_negative (kinds.Numeral base) token argument reads = λ negative. minus_is_no_digit base (first_digit (radix_of base) token negative.1.0 reads.0.1 negative.1.1)

-- arguments have no minus sign
pub no_minus : (kinds : List ArgumentKind) (tokens : List (List ℕ)) (given : List Argument) → BeginWithArguments kinds tokens given → ¬ HasMinus kinds tokens
no_minus [] tokens given are = λ has. has
no_minus (kind ∷ kinds) [] given are = λ has. has
no_minus (kind ∷ kinds) (token ∷ tokens) given are = λ has. ⊎_elim (λ here. not_negative kind token are.0 are.3 here) (λ later. no_minus kinds tokens are.1 are.4 later) has

bitvec≢array : codes "bitvec" ≢ codes "array"
bitvec≢array = λ e. true≢false (sym ((bytes_eq-Decides (codes "bitvec") (codes "array")).1 e))

no_array_sort : (keyword : Keyword) (others : List (List ℕ)) (given : List Argument) → BeginWithArguments (kinds_of keyword) others given → ¬ IsArraySort (keyword_text keyword) others
no_array_sort keyword others given are = λ array.
    let is : keyword ≡ keywords.Sort = same_keyword keyword keywords.Sort array.0 in
    let sort : BeginWithArguments (kinds_of keywords.Sort) others given = subst (λ k. BeginWithArguments (kinds_of k) others given) is are in
    let spelled : BeginWithArguments (kinds_of keywords.Sort) (codes "array" ∷ array.1.0) given = subst (λ ts. BeginWithArguments (kinds_of keywords.Sort) ts given) array.1.1 sort in
    bitvec≢array (sym spelled.3.0)

-- a line is of a form, and so isn't outside
pub line_not_outside : (number : ℕ) (tokens : List (List ℕ)) (line : Line) → IsLine number tokens line → ¬ IsOutside tokens
line_not_outside number tokens line is = λ outside. ⊎_elim
    (λ left.
    let word_is : keyword_text line.keyword ≡ left.word = same_word _ _ _ _ _ _ (sym is.parts ∙ left.parts) in
    let others_are : is.others ≡ left.others = same_others _ _ _ _ _ _ (sym is.parts ∙ left.parts) in
    ⊎_elim
    (λ among. not_listed line.keyword (subst (λ w. Contains left_out w) (sym word_is) among))
    (λ array. no_array_sort line.keyword is.others line.arguments is.arguments (subst (λ w. IsArraySort w is.others) (sym word_is) (subst (λ ts. IsArraySort left.word ts) (sym others_are) array)))
    left.left)
    (λ negated.
    let negation = negation_of is.id_token line.keyword is.others (subst (λ ts. IsNegated ts) is.parts negated) in
    no_minus _ _ _ is.arguments negation.minus)
    outside
