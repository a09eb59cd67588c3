-- A walk over a form's kinds and the tokens behind its keyword.
use Rattle.std.proofs.Common.{◌≡◌, ℕ, zero, suc, ◌+◌, ◌<◌, ◌≤◌, List, [], ◌∷◌, ◌++◌, length, drop, get_or, refl, sym, ap, ◌∙◌, subst, arith, inl, inr, ⊎_elim}
use Rattle.std.proofs.lemmas.List.{append-nil, append_assoc, drop_more, drop_all, length-drop}
use Rattle.btor2_text.specs.Lines.{IsArgument, BeginWithArguments, IsNegative, HasMinus}
use Rattle.btor2_text.specs.declared.kind.ArgumentKind.{ArgumentKind}
use Rattle.btor2_text.specs.declared.line.Argument.{Argument}

-- so many kinds are read: what is given so far, and the tokens that are left
pub record Reached (kinds : List ArgumentKind) (tokens : List (List ℕ)) (given : List Argument) (i : ℕ) (left : List (List ℕ)) : Type 0 where
  pub forth : (others : List Argument) → BeginWithArguments (drop i kinds) left others → BeginWithArguments kinds tokens (given ++ others)
  pub back : (all : List Argument) → BeginWithArguments kinds tokens all → (others : List Argument) × BeginWithArguments (drop i kinds) left others

pub Reached-start : (kinds : List ArgumentKind) (tokens : List (List ℕ)) → Reached kinds tokens [] 0 tokens
Reached-start kinds tokens = record { forth = λ others are. are; back = λ all are. (all, are) }

pub Reached-next : (kinds : List ArgumentKind) (tokens : List (List ℕ)) (given : List Argument) (i : ℕ) (left : List (List ℕ)) → Reached kinds tokens given i left
    → (d : ArgumentKind) → i < length kinds → (token : List ℕ) (after : List (List ℕ)) → left ≡ token ∷ after
    → (argument : Argument) → IsArgument (get_or kinds i d) token argument → Reached kinds tokens (given ++ argument ∷ []) (i + 1) after
Reached-next kinds tokens given i left reached d within token after splits argument reads =
    let rest = drop_more kinds i d within in
    record {
      forth = λ others are.
          let whole : BeginWithArguments (drop i kinds) left (argument ∷ others) = rw (rest, splits) (argument, others, refl, reads, are) in
          rw append_assoc (reached.forth (argument ∷ others) whole);
      back = λ all are.
          let found = reached.back all are in
          let whole : BeginWithArguments (get_or kinds i d ∷ drop (i + 1) kinds) (token ∷ after) found.0 = rw (rest, splits) at found.1 in
          (whole.1, whole.4);
    }

pub Reached-none : (kinds : List ArgumentKind) (tokens : List (List ℕ)) (given : List Argument) (i : ℕ) (left : List (List ℕ)) → Reached kinds tokens given i left
    → (d : ArgumentKind) → i < length kinds → left ≡ [] → (all : List Argument) → ¬ BeginWithArguments kinds tokens all
Reached-none kinds tokens given i left reached d within none all = λ are.
    let found = reached.back all are in
    let rest = drop_more kinds i d within in
    let whole : BeginWithArguments (get_or kinds i d ∷ drop (i + 1) kinds) [] found.0 = rw (rest, none) at found.1 in whole

pub Reached-wrong : (kinds : List ArgumentKind) (tokens : List (List ℕ)) (given : List Argument) (i : ℕ) (left : List (List ℕ)) → Reached kinds tokens given i left
    → (d : ArgumentKind) → i < length kinds → (token : List ℕ) (after : List (List ℕ)) → left ≡ token ∷ after
    → ((argument : Argument) → ¬ IsArgument (get_or kinds i d) token argument) → (all : List Argument) → ¬ BeginWithArguments kinds tokens all
Reached-wrong kinds tokens given i left reached d within token after splits wrong all = λ are.
    let found = reached.back all are in
    let rest = drop_more kinds i d within in
    let whole : BeginWithArguments (get_or kinds i d ∷ drop (i + 1) kinds) (token ∷ after) found.0 = rw (rest, splits) at found.1 in
    wrong whole.0 whole.3

pub Reached-end : (kinds : List ArgumentKind) (tokens : List (List ℕ)) (given : List Argument) (i : ℕ) (left : List (List ℕ)) → Reached kinds tokens given i left
    → length kinds ≤ i → BeginWithArguments kinds tokens given
Reached-end kinds tokens given i left reached all =
    let none = drop_all i kinds all in
    let end : BeginWithArguments (drop i kinds) left [] = rw none refl in
    subst (λ whole. BeginWithArguments kinds tokens whole) (append-nil given) (reached.forth [] end)

-- no minus sign so far: one is found in the whole exactly where one is found in what is left
pub record SoFar (kinds : List ArgumentKind) (tokens : List (List ℕ)) (i : ℕ) (left : List (List ℕ)) : Type 0 where
  pub forth : HasMinus (drop i kinds) left → HasMinus kinds tokens
  pub back : HasMinus kinds tokens → HasMinus (drop i kinds) left

pub SoFar-start : (kinds : List ArgumentKind) (tokens : List (List ℕ)) → SoFar kinds tokens 0 tokens
SoFar-start kinds tokens = record { forth = λ has. has; back = λ has. has }

pub SoFar-next : (kinds : List ArgumentKind) (tokens : List (List ℕ)) (i : ℕ) (left : List (List ℕ)) → SoFar kinds tokens i left
    → (d : ArgumentKind) → i < length kinds → (token : List ℕ) (after : List (List ℕ)) → left ≡ token ∷ after
    → ¬ IsNegative (get_or kinds i d) token → SoFar kinds tokens (i + 1) after
SoFar-next kinds tokens i left so_far d within token after splits never =
    let rest = drop_more kinds i d within in
    record {
      forth = λ has. let whole : HasMinus (drop i kinds) left = rw (rest, splits) (inr has) in so_far.forth whole;
      back = λ has.
          let whole : HasMinus (get_or kinds i d ∷ drop (i + 1) kinds) (token ∷ after) = rw (rest, splits) at (so_far.back has) in
          ⊎_elim (λ here. absurd (never here)) (λ later. later) whole;
    }

pub SoFar-here : (kinds : List ArgumentKind) (tokens : List (List ℕ)) (i : ℕ) (left : List (List ℕ)) → SoFar kinds tokens i left
    → (d : ArgumentKind) → i < length kinds → (token : List ℕ) (after : List (List ℕ)) → left ≡ token ∷ after
    → IsNegative (get_or kinds i d) token → HasMinus kinds tokens
SoFar-here kinds tokens i left so_far d within token after splits counts =
    let rest = drop_more kinds i d within in
    let whole : HasMinus (drop i kinds) left = rw (rest, splits) (inl counts) in so_far.forth whole

pub SoFar-none : (kinds : List ArgumentKind) (tokens : List (List ℕ)) (i : ℕ) (left : List (List ℕ)) → SoFar kinds tokens i left
    → (d : ArgumentKind) → i < length kinds → left ≡ [] → ¬ HasMinus kinds tokens
SoFar-none kinds tokens i left so_far d within none = λ has.
    let rest = drop_more kinds i d within in
    let whole : HasMinus (get_or kinds i d ∷ drop (i + 1) kinds) [] = rw (rest, none) at (so_far.back has) in whole

pub SoFar-end : (kinds : List ArgumentKind) (tokens : List (List ℕ)) (i : ℕ) (left : List (List ℕ)) → SoFar kinds tokens i left → length kinds ≤ i → ¬ HasMinus kinds tokens
SoFar-end kinds tokens i left so_far all = λ has.
    let none = drop_all i kinds all in
    let whole : HasMinus [] left = rw none at (so_far.back has) in whole

-- one more token is skipped
pub skipped_more : (tokens left : List (List ℕ)) (i : ℕ) (token : List ℕ) (after : List (List ℕ)) → left ≡ drop i tokens → left ≡ token ∷ after
    → (i + 1 ≤ length tokens) × (after ≡ drop (i + 1) tokens)
skipped_more [] left zero token after is splits = absurd (let e : [] ≡ token ∷ after = sym is ∙ splits in cc)
skipped_more [] left (suc i) token after is splits = absurd (let e : [] ≡ token ∷ after = sym is ∙ splits in cc)
skipped_more (t ∷ tokens) left zero token after is splits =
    let e : t ∷ tokens ≡ token ∷ after = sym is ∙ splits in
    let same : after ≡ tokens = cc in (omega arith, same)
skipped_more (t ∷ tokens) left (suc i) token after is splits =
    let next = skipped_more tokens left i token after is splits in
    let one : suc i + 1 ≡ suc (i + 1) = omega arith in
    (omega (arith, next.0), rw one next.1)

-- no token is left
pub skipped_all : (tokens left : List (List ℕ)) (i : ℕ) → left ≡ drop i tokens → left ≡ [] → length tokens ≤ i
skipped_all tokens left i is none = omega (arith, ap length (sym is ∙ none), length-drop i tokens)
