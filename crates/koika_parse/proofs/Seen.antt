-- Tokens of a text as the leaves of a tree see them.
use Rattle.std.proofs.Common.{◌≡◌, ℕ, ◌≤◌, List, [], ◌∷◌, map, drop, refl, ap, ◌∙◌, subst}
use Rattle.std.specs.List.{AllZip}
use Rattle.koika_syntax.specs.Tree.{Leaf, IsLeafAt, terminal_of}
use Rattle.koika_syntax.specs.declared.token.Token.{Token}
use Rattle.koika_parse.specs.Brackets.{AreFewOpen, open_behind, open_behind_all}
use Rattle.koika_parse.specs.Faults.{seen}

-- equal lists have equal first items and equal rests
head_or : {A : Type 0} → A → List A → A
head_or d [] = d
head_or d (x ∷ xs) = x

pub same_head : {A : Type 0} {x y : A} {xs ys : List A} → x ∷ xs ≡ y ∷ ys → x ≡ y
unfolding head_or
same_head {A} {x} same = ap (head_or x) same

pub same_tail : {A : Type 0} {x y : A} {xs ys : List A} → x ∷ xs ≡ y ∷ ys → xs ≡ ys
same_tail same = ap (drop 1) same

-- leaves at tokens have the tokens' terminals
pub zip_terminals : (text : List ℕ) (leaves : List Leaf) (tokens : List Token) → AllZip (IsLeafAt text) leaves tokens → map (λ leaf. leaf.terminal) leaves ≡ map (terminal_of text) tokens
zip_terminals text [] [] zip = refl
zip_terminals text [] (token ∷ tokens) zip = absurd zip
zip_terminals text (leaf ∷ leaves) [] zip = absurd zip
zip_terminals text (leaf ∷ leaves) (token ∷ tokens) zip = ap (λ t. t ∷ map (λ l. l.terminal) leaves) zip.0.0 ∙ ap (λ ts. terminal_of text token ∷ ts) (zip_terminals text leaves tokens zip.1)

-- brackets count alike where the terminals are the same
pub few_seen : (text : List ℕ) (depth : ℕ) (leaves : List Leaf) (tokens : List Token) → AllZip (IsLeafAt text) leaves tokens → AreFewOpen depth leaves → AreFewOpen depth (seen text tokens)
few_seen text depth [] [] zip few = tt
few_seen text depth [] (token ∷ tokens) zip few = absurd zip
few_seen text depth (leaf ∷ leaves) [] zip few = absurd zip
few_seen text depth (leaf ∷ leaves) (token ∷ tokens) zip few =
    let same : open_behind depth leaf.terminal ≡ open_behind depth (terminal_of text token) = ap (open_behind depth) zip.0.0 in
    (subst (λ n. n ≤ 64) same few.0, few_seen text (open_behind depth (terminal_of text token)) leaves tokens zip.1 (subst (λ n. AreFewOpen n leaves) same few.1))

pub open_seen : (text : List ℕ) (depth : ℕ) (leaves : List Leaf) (tokens : List Token) → AllZip (IsLeafAt text) leaves tokens → open_behind_all depth leaves ≡ open_behind_all depth (seen text tokens)
open_seen text depth [] [] zip = refl
open_seen text depth [] (token ∷ tokens) zip = absurd zip
open_seen text depth (leaf ∷ leaves) [] zip = absurd zip
open_seen text depth (leaf ∷ leaves) (token ∷ tokens) zip =
    ap (λ n. open_behind_all n leaves) (ap (open_behind depth) zip.0.0) ∙ open_seen text (open_behind depth (terminal_of text token)) leaves tokens zip.1
