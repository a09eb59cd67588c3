-- Tokens are derived by one tree at most.
use Rattle.std.proofs.Common.{◌≡◌, ℕ, Option, Some, None, IfSome, List, [], ◌∷◌, map, refl, sym, ◌∙◌, ap₂}
use Rattle.std.specs.List.{AllZip}
use Rattle.koika_syntax.specs.Grammar.{tree_leaves}
use Rattle.koika_syntax.specs.Tree.{Leaf, IsLeafAt, terminal_of}
use Rattle.koika_syntax.specs.declared.token.Token.{Token}
use Rattle.koika_parse.specs.Laws.{OneTree, OneTreeUpToPlaces, ReadAgain}
use Rattle.koika_parse.proofs.UnambiguousReaders.{Item, item, Shows}
use Rattle.koika_parse.proofs.UnambiguousDesigns.{one_moved}
use Rattle.koika_parse.proofs.Unmoved.{tree_stays}

-- tokens of a text with their places, and leaves without places, as a reader gets them
abbrev items_in : List ℕ → List Token → List Item
items_in text tokens = map (λ token. item (terminal_of text token) token.start) tokens

abbrev items_of : List Leaf → List Item
items_of leaves = map (λ leaf. item leaf.terminal 0) leaves

shows_tokens : (text : List ℕ) (leaves : List Leaf) (tokens : List Token) → AllZip (IsLeafAt text) leaves tokens → Shows (λ place. place) leaves (items_in text tokens) []
shows_tokens text [] [] each = refl
shows_tokens text [] (token ∷ tokens) each = absurd each
shows_tokens text (leaf ∷ leaves) [] each = absurd each
shows_tokens text (leaf ∷ leaves) (token ∷ tokens) each = (each.0.0, each.0.1, shows_tokens text leaves tokens each.1)

no_place : (place : Option ℕ) → IfSome place (λ p. ◌≡◌ {A = ℕ} 0 0)
no_place None = tt
no_place (Some p) = refl

shows_leaves : (ls ms : List Leaf) → map (λ leaf. leaf.terminal) ls ≡ map (λ leaf. leaf.terminal) ms → Shows (λ place. 0) ls (items_of ms) []
shows_leaves [] [] same = refl
shows_leaves [] (m ∷ ms) same = cc
shows_leaves (l ∷ ls) [] same = cc
shows_leaves (l ∷ ls) (m ∷ ms) same =
    let first : l.terminal ≡ m.terminal = cc in
    let rest : map (λ leaf. leaf.terminal) ls ≡ map (λ leaf. leaf.terminal) ms = cc in
    (first, no_place l.place, shows_leaves ls ms rest)

same_terminals : (text : List ℕ) (leaves : List Leaf) (tokens : List Token) → AllZip (IsLeafAt text) leaves tokens → map (λ leaf. leaf.terminal) leaves ≡ map (terminal_of text) tokens
same_terminals text [] [] each = refl
same_terminals text [] (token ∷ tokens) each = absurd each
same_terminals text (leaf ∷ leaves) [] each = absurd each
same_terminals text (leaf ∷ leaves) (token ∷ tokens) each = ap₂ (λ t ts. t ∷ ts) each.0.0 (same_terminals text leaves tokens each.1)

pub one_tree : OneTree
one_tree text tokens t u d e =
    let same = one_moved (λ place. place) t u d.design e.design (items_in text tokens) (shows_tokens text (tree_leaves t) tokens d.leaves) (shows_tokens text (tree_leaves u) tokens e.leaves) in
    sym (tree_stays t) ∙ same ∙ tree_stays u

pub one_tree_up_to_places : OneTreeUpToPlaces
one_tree_up_to_places t u is is' same =
    one_moved (λ place. 0) t u is is' (items_of (tree_leaves u)) (shows_leaves (tree_leaves t) (tree_leaves u) same) (shows_leaves (tree_leaves u) (tree_leaves u) refl)

pub read_again : ReadAgain
read_again text tokens t u is same d = one_tree_up_to_places t u is d.design (sym same ∙ sym (same_terminals text (tree_leaves u) tokens d.leaves))
