-- What is read of a list, item by item.
use Rattle.std.proofs.Common.{◌≡◌, List, [], ◌∷◌, ◌++◌, length-append, map, refl, sym, ap, ◌∙◌, subst, append_assoc, append-nil, arith}
use Rattle.std.specs.List.{All, flat_map}
use Rattle.std.proofs.lemmas.Grind.{flat_map-append}
use Rattle.std.proofs.lemmas.List.{map-append}
use Rattle.std.proofs.lemmas.List.Elements.{All-append, All-cons, All-nil}
use Rattle.koika_syntax.specs.Grammar.{IsNonempty}
use Rattle.koika_syntax.specs.Tree.{Leaf, all_of, each_after, with_between}
use Rattle.koika_parse.specs.inner.Reading.{Reads}
use Rattle.koika_parse.specs.declared.cursor.Cursor.{Cursor}
use Rattle.koika_parse.specs.declared.source.Source.{Source}
use Rattle.koika_parse.proofs.Reading.{in_turn, nothing}
use Rattle.koika_parse.proofs.Calls.{all_of_map}

-- items with something between them have been read, at least one
pub record Joined {X : Type 0} (source : Source) (old new : Cursor) (between : List Leaf) (leaves : X → List Leaf) (Is : X → Type 0) (xs : List X) : Type 0 where
  pub read : Reads source old new (with_between between (map leaves xs))
  pub is : All Is xs
  pub some : IsNonempty xs

-- items one after another have been read
pub record Row {X : Type 0} (source : Source) (old new : Cursor) (leaves : X → List Leaf) (Is : X → Type 0) (xs : List X) : Type 0 where
  pub read : Reads source old new (flat_map leaves xs)
  pub is : All Is xs

push_all : {X : Type 0} (Is : X → Type 0) (xs : List X) (x : X) → All Is xs → Is x → All Is (xs ++ x ∷ [])
push_all Is xs x all one = All-append Is xs (x ∷ []) all (All-cons Is x [] one (All-nil Is))

joined_one : (between leaves : List Leaf) → with_between between (leaves ∷ []) ≡ leaves
unfolding with_between
joined_one between leaves = append-nil leaves

joined_more : (between part : List Leaf) (parts : List (List Leaf)) (one : List Leaf) → with_between between ((part ∷ parts) ++ one ∷ []) ≡ (with_between between (part ∷ parts) ++ between) ++ one
unfolding with_between
joined_more between part parts one =
    ap (λ t. part ++ t) (flat_map-append (λ p. between ++ p) parts (one ∷ []) ∙ ap (λ t. each_after between parts ++ t) (append-nil (between ++ one)))
    ∙ sym (append_assoc part (each_after between parts) (between ++ one)) ∙ sym (append_assoc (part ++ each_after between parts) between one)

-- the first item
pub joined_start : {X : Type 0} (source : Source) (old new : Cursor) (between : List Leaf) (leaves : X → List Leaf) (Is : X → Type 0) (x : X) (zs ys : List X) →
    Reads source old new (leaves x) → Is x → zs ≡ [] → ys ≡ zs ++ x ∷ [] → Joined source old new between leaves Is ys
joined_start source old new between leaves Is x zs ys read one none pushed = subst (λ l. Joined source old new between leaves Is l) (sym (pushed ∙ ap (λ l. l ++ x ∷ []) none))
    (record { read = subst (λ l. Reads source old new l) (sym (joined_one between (leaves x))) read; is = All-cons Is x [] one (All-nil Is); some = omega arith })

more_of : {X : Type 0} (source : Source) (old mid next new : Cursor) (between : List Leaf) (leaves : X → List Leaf) (xs : List X) (x : X) → IsNonempty xs →
    Reads source old mid (with_between between (map leaves xs)) → Reads source mid next between →
    Reads source next new (leaves x) → Reads source old new (with_between between (map leaves (xs ++ x ∷ [])))
more_of source old mid next new between leaves [] x some p q r = absurd (omega (arith, some))
more_of source old mid next new between leaves (y ∷ ys) x some p q r =
    subst (λ l. Reads source old new (with_between between l)) (sym (map-append leaves (y ∷ ys) (x ∷ [])))
    (subst (λ l. Reads source old new l) (sym (joined_more between (leaves y) (map leaves ys) (leaves x))) (in_turn (in_turn p q) r))

-- one item more
pub joined_again : {X : Type 0} {source : Source} {old mid next new : Cursor} {between : List Leaf} {leaves : X → List Leaf} {Is : X → Type 0} {xs : List X} (x : X) (ys : List X) →
    Joined source old mid between leaves Is xs → Reads source mid next between → Reads source next new (leaves x) → Is x → ys ≡ xs ++ x ∷ [] → Joined source old new between leaves Is ys
joined_again {X} {source} {old} {mid} {next} {new} {between} {leaves} {Is} {xs} x ys front comma read one pushed = subst (λ l. Joined source old new between leaves Is l) (sym pushed)
    (record { read = more_of source old mid next new between leaves xs x front.some front.read comma read; is = push_all Is xs x front.is one; some = omega (arith, length-append xs (x ∷ [])) })

-- no item
pub row_start : {X : Type 0} (source : Source) (old new : Cursor) (leaves : X → List Leaf) (Is : X → Type 0) (xs : List X) → new ≡ old → xs ≡ [] → Row source old new leaves Is xs
row_start source old new leaves Is xs same none = subst (λ l. Row source old new leaves Is l) (sym none) (record { read = nothing source old new same; is = All-nil Is })

-- one item more
pub row_again : {X : Type 0} {source : Source} {old mid new : Cursor} {leaves : X → List Leaf} {Is : X → Type 0} {xs : List X} (x : X) (ys : List X) →
    Row source old mid leaves Is xs → Reads source mid new (leaves x) → Is x → ys ≡ xs ++ x ∷ [] → Row source old new leaves Is ys
row_again {X} {source} {old} {mid} {new} {leaves} {Is} {xs} x ys front read one pushed = subst (λ l. Row source old new leaves Is l) (sym pushed)
    (record {
      read = subst (λ l. Reads source old new l) (sym (flat_map-append leaves xs (x ∷ []) ∙ ap (λ t. flat_map leaves xs ++ t) (append-nil (leaves x)))) (in_turn front.read read);
      is = push_all Is xs x front.is one;
    })

-- with nothing between them, they stand one after another
pub one_after_another : {X : Type 0} (leaves : X → List Leaf) (xs : List X) → flat_map leaves xs ≡ with_between [] (map leaves xs)
unfolding with_between
one_after_another leaves [] = refl
one_after_another leaves (x ∷ xs) = ap (λ t. leaves x ++ t) (all_of_map leaves xs)

pub parts_after_another : {X : Type 0} (leaves : X → List Leaf) (xs : List X) → all_of (map leaves xs) ≡ with_between [] (map leaves xs)
parts_after_another leaves xs = sym (all_of_map leaves xs) ∙ one_after_another leaves xs
