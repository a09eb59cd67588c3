-- Parts with commas between them, part by part.
use Rattle.std.proofs.Common.{◌≢◌, ◌≡◌, Option, Some, false, List, [], ◌∷◌, ◌++◌, map, refl, sym, ap, ◌∙◌, subst, arith, Ok}
use Rattle.std.specs.List.{All}
use Rattle.std.proofs.lemmas.List.Elements.{All-head, All-tail, All-cons, All-nil}
use Rattle.koika_syntax.specs.Grammar.{IsNonempty}
use Rattle.koika_syntax.specs.Tree.{Leaf, Terminal, symbol, sign, commas, with_between, each_after}
use Rattle.koika_syntax.specs.declared.symbol.Symbol.TheVariants as symbols
use Rattle.koika_parse.specs.inner.Expected.{Any, One, Part, Then, Takes, first, Behind, Commas, is_comma, NoComma}
use Rattle.koika_parse.specs.inner.Reading.{next}
use Rattle.koika_parse.specs.declared.cursor.Cursor.{Cursor}
use Rattle.koika_parse.specs.declared.source.Source.{Source}
use Rattle.koika_parse.proofs.Expected.{Language, Lookahead, same_first, Empty, Apart, Goes, Has, Within, has_within}
use Rattle.koika_parse.proofs.Expected.{kept, starts, step, next_part, narrow, same_of, same_then, same_one}
use Rattle.koika_parse.proofs.Expected.{same_part, some_one, some_then}

-- parts, each with a comma in front of it
abbrev pub More : {X : Type 0} → (X → Type 0) → (X → List Leaf) → Language
More {X} Is leaves = Part (λ xs. All Is xs) (λ xs. each_after (sign symbols.Comma) (map leaves xs))

-- parts with commas between them have been read, and more may follow
abbrev pub CommasGo : {X : Type 0} → Source → (old new : Cursor) → Lookahead → (X → Type 0) → (X → List Leaf) → Type 0
CommasGo source old new Follow Is leaves = Goes source old new (Commas Is leaves) (NoComma Follow) (More Is leaves)

-- a comma and a part more
abbrev pub AtComma : {X : Type 0} → (X → Type 0) → (X → List Leaf) → Language
AtComma Is leaves = Then (One (symbol symbols.Comma)) (Then (Part Is leaves) (More Is leaves))

no_comma : (o : Option Terminal) → is_comma o ≡ false → o ≡ Some (symbol symbols.Comma) → ⊥
no_comma o other is = cc (other, ap is_comma is)

-- where there is a part
module _ {X : Type 0} {Is : X → Type 0} {leaves : X → List Leaf} (some : Has (Part Is leaves)) where
  commas_word : (xs : List X) → IsNonempty xs × All Is xs → Then (Part Is leaves) (More Is leaves) (commas (map leaves xs))
  unfolding with_between
  commas_word [] is = absurd (omega (arith, is.0))
  commas_word (x ∷ xs) is =
      (leaves x, each_after (sign symbols.Comma) (map leaves xs), (x, All-head Is x xs is.1, refl), (xs, All-tail Is x xs is.1, refl), refl)

  commas_made : Within (Then (Part Is leaves) (More Is leaves)) (Commas Is leaves)
  unfolding with_between
  commas_made q both =
      let x = both.2.0 in
      let xs = both.3.0 in
      kept q (commas (map leaves (x ∷ xs))) (x ∷ xs, (omega arith, All-cons Is x xs both.2.1 both.3.1), refl)
      (same_then (leaves x) (each_after (sign symbols.Comma) (map leaves xs)) both (same_part both.2) (same_part both.3))

  abbrev no_more : Has (More Is leaves)
  no_more = ([], ([], All-nil Is, refl))

  pub some_commas : Has (Commas Is leaves)
  some_commas = has_within commas_made (some_then some no_more)

  -- before the first part
  pub commas_start : {source : Source} {cursor : Cursor} {Follow : Lookahead} → Goes source cursor cursor (Commas Is leaves) Follow (Then (Part Is leaves) (More Is leaves))
  commas_start = starts (Then (Part Is leaves) (More Is leaves)) commas_word (some_then some no_more) commas_made

  -- a part may have a comma behind it
  pub commas_apart : (Follow : Lookahead) → Follow (Some (symbol symbols.Comma)) → Apart (More Is leaves) (NoComma Follow) Follow
  commas_apart Follow comma q v more behind = subst (λ l. Behind Follow (l ++ v)) (sym more.2) (apart more.0 behind)
    where
      apart : (xs : List X) → Behind (NoComma Follow) v → Behind Follow (each_after (sign symbols.Comma) (map leaves xs) ++ v)
      apart [] b = b.0
      apart (x ∷ xs) b = comma

  -- the first part
  pub commas_first : {source : Source} {old new : Cursor} {Follow : Lookahead} {x : X} →
      Takes source old new (Part Is leaves) Follow (Ok x) → Follow (Some (symbol symbols.Comma)) → CommasGo source old new Follow Is leaves
  commas_first {Follow = Follow} takes comma = step commas_start takes (commas_apart Follow comma)

  -- at a comma, one part more
  comma_made : Within (AtComma Is leaves) (More Is leaves)
  comma_made q both =
      let x = both.3.2.0 in
      let xs = both.3.3.0 in
      let rest = each_after (sign symbols.Comma) (map leaves xs) in
      kept q (each_after (sign symbols.Comma) (map leaves (x ∷ xs))) (x ∷ xs, All-cons Is x xs both.3.2.1 both.3.3.1, refl)
      (same_then (sign symbols.Comma) (leaves x ++ rest) both (same_one both.2) (same_then (leaves x) rest both.3 (same_part both.3.2) (same_part both.3.3)))

  pub commas_at : {source : Source} {old new : Cursor} {Follow : Lookahead} →
      next source new ≡ Some (symbol symbols.Comma) → CommasGo source old new Follow Is leaves →
      Goes source old new (Commas Is leaves) (NoComma Follow) (AtComma Is leaves)
  commas_at {Follow = Follow} at go = narrow go
      (λ r v more behind next_is. subst (AtComma Is leaves) (sym more.2) (again more.0 v more.1 behind (same_first v (sym more.2) ∙ next_is ∙ at)))
      (some_then (some_one (symbol symbols.Comma)) (some_then some no_more)) comma_made
    where
      again : (xs : List X) (v : List Leaf) → All Is xs → Behind (NoComma Follow) v → first (each_after (sign symbols.Comma) (map leaves xs) ++ v) ≡ Some (symbol symbols.Comma) →
          AtComma Is leaves (each_after (sign symbols.Comma) (map leaves xs))
      again [] v all behind comma = absurd (no_comma (first v) behind.1 comma)
      again (x ∷ xs) v all behind comma = (
        sign symbols.Comma,
        leaves x ++ each_after (sign symbols.Comma) (map leaves xs),
        (_, refl, refl),
        (leaves x, each_after (sign symbols.Comma) (map leaves xs), (x, All-head Is x xs all, refl), (xs, All-tail Is x xs all, refl), refl),
        refl,
      )

  pub commas_next : {Y : Type 0} {source : Source} {old mid beyond new : Cursor} {Follow : Lookahead} {x : X} {y : Y} →
      next source mid ≡ Some (symbol symbols.Comma) → CommasGo source old mid Follow Is leaves →
      Takes source mid beyond (One (symbol symbols.Comma)) Any (Ok y) → Takes source beyond new (Part Is leaves) Follow (Ok x) →
      Follow (Some (symbol symbols.Comma)) → CommasGo source old new Follow Is leaves
  commas_next {Follow = Follow} at go comma takes free = step (next_part (commas_at at go) comma) takes (commas_apart Follow free)

  -- at no comma, no part more
  pub commas_end : {source : Source} {old new : Cursor} {Follow : Lookahead} →
      next source new ≢ Some (symbol symbols.Comma) → CommasGo source old new Follow Is leaves → Goes source old new (Commas Is leaves) (NoComma Follow) Empty
  commas_end {source = source} {new = new} other go = narrow go
      (λ r v more behind next_is. more.2 ∙ none more.0 v (same_first v (sym more.2) ∙ next_is)) ([], refl)
      (λ q empty. kept q [] no_more.1 (same_of (sym empty)))
    where
      none : (xs : List X) (v : List Leaf) → first (each_after (sign symbols.Comma) (map leaves xs) ++ v) ≡ next source new → each_after (sign symbols.Comma) (map leaves xs) ≡ []
      none [] v e = refl
      none (x ∷ xs) v e = absurd (other (sym e))
