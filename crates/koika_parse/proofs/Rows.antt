-- Parts one after another, part by part.
use Rattle.std.proofs.Common.{◌≢◌, ◌≡◌, Some, List, [], ◌∷◌, ◌++◌, refl, sym, ap, ◌∙◌, subst, inl, inr}
use Rattle.std.specs.Prelude.{◌⊎◌}
use Rattle.std.specs.List.{All, flat_map}
use Rattle.std.proofs.lemmas.List.Elements.{All-head, All-tail, All-cons, All-nil}
use Rattle.koika_syntax.specs.Grammar.{IsName}
use Rattle.koika_syntax.specs.declared.symbol.Symbol.TheVariants as symbols
use Rattle.koika_syntax.specs.declared.token.TokenKind.TheVariants as kinds
use Rattle.koika_syntax.specs.Tree.{Leaf, Terminal, symbol, name_leaves}
use Rattle.koika_parse.specs.inner.Expected.{One, Part, Then, first}
use Rattle.koika_parse.specs.inner.Reading.{kind_at}
use Rattle.koika_parse.specs.declared.cursor.Cursor.{Cursor}
use Rattle.koika_parse.specs.declared.source.Source.{Source}
use Rattle.koika_parse.proofs.Expected.{Language, Lookahead, NextTells, same_first, Empty, Goes, Has, Within, kept, narrow, goes_as, same_of, kind_is, sign_or_name, some_one, some_then}
use Rattle.koika_parse.proofs.Witnesses.{some_name}

abbrev pub Rows : {X : Type 0} → (X → Type 0) → (X → List Leaf) → Language
Rows {X} Is leaves = Part (λ xs. All Is xs) (λ xs. flat_map leaves xs)

-- none, or the first and the others
pub rows_cases : {X : Type 0} (Is : X → Type 0) (leaves : X → List Leaf) (r : List Leaf) → Rows Is leaves r → Empty r ⊎ Then (Part Is leaves) (Rows Is leaves) r
rows_cases {X} Is leaves r rows = subst (λ r. Empty r ⊎ Then (Part Is leaves) (Rows Is leaves) r) (sym rows.2) (of rows.0 rows.1)
  where
    of : (xs : List X) → All Is xs → Empty (flat_map leaves xs) ⊎ Then (Part Is leaves) (Rows Is leaves) (flat_map leaves xs)
    of [] all = inl refl
    of (x ∷ xs) all = inr (leaves x, flat_map leaves xs, (x, All-head Is x xs all, refl), (xs, All-tail Is x xs all, refl), refl)

pub rows_made : {X : Type 0} (Is : X → Type 0) (leaves : X → List Leaf) (r : List Leaf) → Then (Part Is leaves) (Rows Is leaves) r → Rows Is leaves r
rows_made Is leaves r both = (both.2.0 ∷ both.3.0, All-cons Is both.2.0 both.3.0 both.2.1 both.3.1, both.4 ∙ ap (λ l. l ++ both.1) both.2.2 ∙ ap (λ l. leaves both.2.0 ++ l) both.3.2)

pub rows_none : {X : Type 0} (Is : X → Type 0) (leaves : X → List Leaf) → Rows Is leaves []
rows_none Is leaves = ([], All-nil Is, refl)

pub rows_again : {X : Type 0} (Is : X → Type 0) (leaves : X → List Leaf) (r : List Leaf) → Empty r ⊎ Then (Part Is leaves) (Rows Is leaves) r → Rows Is leaves r
rows_again Is leaves r (inl empty) = subst (Rows Is leaves) (sym empty) (rows_none Is leaves)
rows_again Is leaves r (inr both) = rows_made Is leaves r both

-- the words of the one language are words of the other
pub as_they_are : (P Q : Language) → ((r : List Leaf) → P r → Q r) → Within P Q
as_they_are P Q each r word = kept r r (each r word) (same_of refl)

-- rows are none, or the first and the others
pub rows_split : {X : Type 0} {source : Source} {old new : Cursor} {Word : Language} {Follow : Lookahead} (Is : X → Type 0) (leaves : X → List Leaf) →
    Goes source old new Word Follow (Rows Is leaves) → Goes source old new Word Follow (λ r. Empty r ⊎ Then (Part Is leaves) (Rows Is leaves) r)
rows_split Is leaves goes = goes_as goes (rows_cases Is leaves) ([], inl refl) (as_they_are _ _ (rows_again Is leaves))

-- one of two, by the next token
pub the_first : {source : Source} {old new : Cursor} {Word : Language} {Follow : Lookahead} {A B : Language} →
    Goes source old new Word Follow (λ u. A u ⊎ B u) → NextTells source new Follow B (λ r. ⊥) → Has A → Goes source old new Word Follow A
the_first {source} {old} {new} {Word} {Follow} {A} {B} goes never some = narrow goes of some (λ q word. kept q q (inl word) (same_of refl))
  where
    of : NextTells source new Follow (λ u. A u ⊎ B u) A
    of r v (inl a) behind at = a
    of r v (inr b) behind at = absurd (never r v b behind at)

pub the_second : {source : Source} {old new : Cursor} {Word : Language} {Follow : Lookahead} {A B : Language} →
    Goes source old new Word Follow (λ u. A u ⊎ B u) → NextTells source new Follow A (λ r. ⊥) → Has B → Goes source old new Word Follow B
the_second {source} {old} {new} {Word} {Follow} {A} {B} goes never some = narrow goes of some (λ q word. kept q q (inr word) (same_of refl))
  where
    of : NextTells source new Follow (λ u. A u ⊎ B u) B
    of r v (inl a) behind at = absurd (never r v a behind at)
    of r v (inr b) behind at = b

-- a part that begins with a known token
pub first_one : (terminal : Terminal) (Q : Language) (u v : List Leaf) → Then (One terminal) Q u → first (u ++ v) ≡ Some terminal
first_one terminal Q u v both = same_first v (both.4 ∙ ap (λ l. l ++ both.1) both.2.2) ∙ ap Some both.2.1

-- a name or what begins with a brace, by the next token
pub name_not_brace : {source : Source} {old new : Cursor} {Word : Language} {Follow : Lookahead} (Q : Language) → kind_at source new ≡ Some kinds.Name →
    Goes source old new Word Follow (λ u. Part IsName name_leaves u ⊎ Then (One (symbol symbols.LeftBrace)) Q u) → Goes source old new Word Follow (Part IsName name_leaves)
name_not_brace {source} {old} {new} Q named goes =
    the_first goes (λ r v brace behind at. sign_or_name (sym (kind_is source new (sym (first_one (symbol symbols.LeftBrace) Q r v brace) ∙ at)) ∙ named)) some_name

pub brace_not_name : {source : Source} {old new : Cursor} {Word : Language} {Follow : Lookahead} (Q : Language) → kind_at source new ≢ Some kinds.Name → Has Q →
    Goes source old new Word Follow (λ u. Part IsName name_leaves u ⊎ Then (One (symbol symbols.LeftBrace)) Q u) → Goes source old new Word Follow (Then (One (symbol symbols.LeftBrace)) Q)
brace_not_name {source} {old} {new} Q other some goes =
    the_second goes (λ r v named behind at. other (kind_is source new (sym (same_first v named.2) ∙ at))) (some_then (some_one (symbol symbols.LeftBrace)) some)
