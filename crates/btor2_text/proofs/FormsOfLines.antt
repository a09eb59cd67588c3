-- What a row of tokens with a known keyword is, and what it is not.
use Rattle.std.proofs.Common.{◌≡◌, ℕ, ◌+◌, ◌<◌, ◌≤◌, List, [], ◌∷◌, length, drop, Option, Some, None, Err, refl, sym, ap, subst, arith, inr, ⊎_elim}
use Rattle.std.specs.Prelude.{Contains}
use Rattle.std.specs.Option.{option_to_list}
use Rattle.std.proofs.lemmas.List.{length-drop}
use Rattle.btor2_text.specs.inner.Flaws.{MatchRead}
use Rattle.btor2_text.specs.Forms.{keyword_text, kinds_of, left_out}
use Rattle.btor2_text.specs.Lines.{IsId, BeginWithArguments, HasMinus, IsLine, IsArraySort, IsLeftOut, IsNegated, IsOutside, IsMalformed}
use Rattle.btor2_text.specs.declared.keyword.Keyword.{Keyword}
use Rattle.btor2_text.specs.declared.kind.ArgumentKind.{ArgumentKind}
use Rattle.btor2_text.specs.declared.line.Argument.{Argument}
use Rattle.btor2_text.specs.declared.line.Line.{Line}
use Rattle.kw_bits.specs.declared.failure.Failure.{Failure}
use Rattle.kw_bits.specs.declared.failure.Failure.TheVariants as failures
use Rattle.btor2_text.specs.declared.reader.Unread.{Unread}
use Rattle.btor2_text.specs.declared.reader.Unread.TheVariants as unread
use Rattle.btor2_text.proofs.KeywordTable.{same_keyword}

-- what a line says of the tokens of this keyword
pub record Parts (keyword : Keyword) (id_token : List ℕ) (others : List (List ℕ)) (line : Line) : Type 0 where
  pub same : line.keyword ≡ keyword
  pub id : IsId id_token line.id
  pub arguments : BeginWithArguments (kinds_of keyword) others line.arguments
  pub symbol : drop (length (kinds_of keyword)) others ≡ option_to_list line.symbol

pub same_id : (a b : List ℕ) (v w : List ℕ) (xs ys : List (List ℕ)) → a ∷ v ∷ xs ≡ b ∷ w ∷ ys → a ≡ b
same_id a b v w xs ys e = cc

pub same_word : (a b : List ℕ) (v w : List ℕ) (xs ys : List (List ℕ)) → a ∷ v ∷ xs ≡ b ∷ w ∷ ys → v ≡ w
same_word a b v w xs ys e = cc

pub same_others : (a b : List ℕ) (v w : List ℕ) (xs ys : List (List ℕ)) → a ∷ v ∷ xs ≡ b ∷ w ∷ ys → xs ≡ ys
same_others a b v w xs ys e = cc

pub parts_of : (number : ℕ) (id : List ℕ) (keyword : Keyword) (others : List (List ℕ)) (line : Line) → IsLine number (id ∷ keyword_text keyword ∷ others) line → Parts keyword id others line
parts_of number id keyword others line is =
    let keyword_is = same_keyword line.keyword keyword (sym (same_word _ _ _ _ _ _ is.parts)) in
    let id_is = same_id _ _ _ _ _ _ is.parts in
    let others_are = same_others _ _ _ _ _ _ is.parts in
    record {
      same = keyword_is;
      id = subst (λ token. IsId token line.id) (sym id_is) is.id;
      arguments = subst (λ k. BeginWithArguments (kinds_of k) others line.arguments) keyword_is (subst (λ ts. BeginWithArguments (kinds_of line.keyword) ts line.arguments) (sym others_are) is.arguments);
      symbol = subst (λ k. drop (length (kinds_of k)) others ≡ option_to_list line.symbol) keyword_is (subst (λ ts. drop (length (kinds_of line.keyword)) ts ≡ option_to_list line.symbol) (sym others_are) is.symbol);
    }

-- a form's arguments take as many tokens
pub enough_tokens : (kinds : List ArgumentKind) (tokens : List (List ℕ)) (given : List Argument) → BeginWithArguments kinds tokens given → length kinds ≤ length tokens
enough_tokens [] tokens given are = omega arith
enough_tokens (kind ∷ kinds) [] given are = absurd are
enough_tokens (kind ∷ kinds) (token ∷ tokens) given are = let rest = enough_tokens kinds tokens are.1 are.4 in omega (arith, rest)

pub length-option_to_list : (symbol : Option (List ℕ)) → length (option_to_list symbol) ≤ 1
length-option_to_list None = omega arith
length-option_to_list (Some symbol) = omega arith

-- what a row that negates an operand or a numeral says, at this keyword
pub record Negation (keyword : Keyword) (others : List (List ℕ)) : Type 0 where
  pub enough : length (kinds_of keyword) ≤ length others
  pub not_more : length others ≤ length (kinds_of keyword) + 1
  pub minus : HasMinus (kinds_of keyword) others

pub negation_of : (id : List ℕ) (keyword : Keyword) (others : List (List ℕ)) → IsNegated (id ∷ keyword_text keyword ∷ others) → Negation keyword others
negation_of id keyword others is =
    let keyword_is = same_keyword is.keyword keyword (sym (same_word _ _ _ _ _ _ is.parts)) in
    let others_are = same_others _ _ _ _ _ _ is.parts in
    let whole : Negation is.keyword is.others = record { enough = is.enough; not_more = is.not_more; minus = is.minus } in
    subst (λ k. Negation k others) keyword_is (subst (λ ts. Negation is.keyword ts) (sym others_are) whole)

-- malformed: no line has the parts, and nothing in them is negated
pub malformed : (id : List ℕ) (keyword : Keyword) (others : List (List ℕ)) → ¬ IsLeftOut (id ∷ keyword_text keyword ∷ others)
    → ((line : Line) → ¬ Parts keyword id others line) → ¬ Negation keyword others → IsMalformed (id ∷ keyword_text keyword ∷ others)
malformed id keyword others not_left no_parts no_negation = record {
  some_token = omega arith;
  no_line = λ number line is. no_parts line (parts_of number id keyword others line is);
  not_outside = λ outside. ⊎_elim (λ left. not_left left) (λ negated. no_negation (negation_of id keyword others negated)) outside;
}

-- too few tokens
pub malformed-few : (id : List ℕ) (keyword : Keyword) (others : List (List ℕ)) → ¬ IsLeftOut (id ∷ keyword_text keyword ∷ others) → length others < length (kinds_of keyword)
    → IsMalformed (id ∷ keyword_text keyword ∷ others)
malformed-few id keyword others not_left few =
    malformed id keyword others not_left (λ line parts. omega (arith, few, enough_tokens _ _ _ parts.arguments)) (λ negation. omega (arith, few, negation.enough))

-- too many tokens
pub malformed-many : (id : List ℕ) (keyword : Keyword) (others : List (List ℕ)) → ¬ IsLeftOut (id ∷ keyword_text keyword ∷ others) → 2 ≤ length (drop (length (kinds_of keyword)) others)
    → IsMalformed (id ∷ keyword_text keyword ∷ others)
malformed-many id keyword others not_left many =
    malformed id keyword others not_left
    (λ line parts. omega (arith, many, ap length parts.symbol, length-option_to_list line.symbol))
    (λ negation. omega (arith, many, length-drop (length (kinds_of keyword)) others, negation.not_more))

-- the right number of tokens, and a minus sign
pub outside-minus : (id : List ℕ) (keyword : Keyword) (others : List (List ℕ)) (symbol : Option (List ℕ)) → length (kinds_of keyword) ≤ length others
    → drop (length (kinds_of keyword)) others ≡ option_to_list symbol → HasMinus (kinds_of keyword) others → IsOutside (id ∷ keyword_text keyword ∷ others)
outside-minus id keyword others symbol enough behind minus =
    inr (record {
      id_token = id;
      keyword = keyword;
      others = others;
      parts = refl;
      enough = enough;
      not_more = omega (arith, enough, ap length behind, length-drop (length (kinds_of keyword)) others, length-option_to_list symbol);
      minus = minus;
    })

-- fewer than two tokens are no line and nothing that is left out
pub malformed-one : (id : List ℕ) → IsMalformed (id ∷ [])
malformed-one id = record {
  some_token = omega arith;
  no_line = λ number line is. let parts = is.parts in cc;
  not_outside = λ outside. ⊎_elim (λ left. let parts = left.parts in cc) (λ negated. let parts = negated.parts in cc) outside;
}

-- a row is left out by its own word
pub not_left_out : (id word : List ℕ) (others : List (List ℕ)) → ¬ Contains left_out word → ¬ IsArraySort word others → ¬ IsLeftOut (id ∷ word ∷ others)
not_left_out id word others not_left not_array = λ left.
    let word_is = same_word _ _ _ _ _ _ left.parts in
    let others_are = same_others _ _ _ _ _ _ left.parts in
    ⊎_elim
    (λ listed. not_left (subst (λ w. Contains left_out w) (sym word_is) listed))
    (λ array. not_array (subst (λ w. IsArraySort w others) (sym word_is) (subst (λ ts. IsArraySort left.word ts) (sym others_are) array)))
    left.left

-- a word that is no keyword
pub malformed-word : (id word : List ℕ) (others : List (List ℕ)) → ((keyword : Keyword) → ¬ (word ≡ keyword_text keyword)) → ¬ Contains left_out word → ¬ IsArraySort word others
    → IsMalformed (id ∷ word ∷ others)
malformed-word id word others unknown not_left not_array = record {
  some_token = omega arith;
  no_line = λ number line is. unknown line.keyword (same_word _ _ _ _ _ _ is.parts);
  not_outside = λ outside. ⊎_elim (λ left. not_left_out id word others not_left not_array left) (λ negated. unknown negated.keyword (same_word _ _ _ _ _ _ negated.parts)) outside;
}

-- an error of a part goes on as the error of the whole
pub passes : {X Y : Type 0} (flaw : Failure Unread) (P : X → Type 0) (Q : Y → Type 0) (M N L K : Type 0) → (M → N) → (L → K) → MatchRead (Err flaw) P M L → MatchRead (Err flaw) Q N K
passes (failures.Why unread.Malformed) P Q M N L K wrong left h = wrong h
passes (failures.Why unread.LeftOut) P Q M N L K wrong left h = left h
passes failures.NoMemory P Q M N L K wrong left h = tt
