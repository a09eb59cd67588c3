-- What is read in turn is read as a whole.
use Rattle.std.proofs.Common.{◌≡◌, ℕ, suc, ◌+◌, ◌<◌, ◌≤◌, Some, get_or, drop-cons, List, [], ◌∷◌, ◌++◌, drop, length, length-append, append_assoc, append-nil, sym, ap, ◌∙◌, subst, refl, arith}
use Rattle.std.specs.List.{AllZip}
use Rattle.std.specs.Option.{option_map}
use Rattle.std.proofs.lemmas.List.{drop_all}
use Rattle.std.proofs.lemmas.Option.{slice_get-get_or}
use Rattle.koika_syntax.specs.Tree.{Leaf, IsLeafAt, Terminal, placed, terminal_of}
use Rattle.koika_syntax.specs.declared.token.Token.{Token}
use Rattle.koika_syntax.specs.declared.token.TokenKind.{TokenKind}
use Rattle.koika_syntax.specs.declared.token.TokenKind.TheVariants as kinds
use Rattle.koika_parse.specs.Brackets.{open_behind, open_behind_all, AreFewOpen}
use Rattle.koika_parse.specs.inner.Brackets.{open_behind_kind}
use Rattle.koika_parse.specs.inner.Reading.{Reads, next, token_at, tokens_left}
use Rattle.koika_parse.specs.declared.cursor.Cursor.{Cursor}
use Rattle.koika_parse.specs.declared.source.Source.{Source}

pub zip_append : {A B : Type 0} (R : A → B → Type 0) (xs us : List A) (ys vs : List B) → AllZip R xs ys → AllZip R us vs → AllZip R (xs ++ us) (ys ++ vs)
zip_append R [] us [] vs a b = b
zip_append R [] us (y ∷ ys) vs a b = absurd a
zip_append R (x ∷ xs) us [] vs a b = absurd a
zip_append R (x ∷ xs) us (y ∷ ys) vs a b = (a.0, zip_append R xs us ys vs a.1 b)

open_append : (depth : ℕ) (xs ys : List Leaf) → open_behind_all depth (xs ++ ys) ≡ open_behind_all (open_behind_all depth xs) ys
open_append depth [] ys = refl
open_append depth (x ∷ xs) ys = open_append (open_behind depth x.terminal) xs ys

few_append : (depth : ℕ) (xs ys : List Leaf) → AreFewOpen depth xs → AreFewOpen (open_behind_all depth xs) ys → AreFewOpen depth (xs ++ ys)
few_append depth [] ys a b = b
few_append depth (x ∷ xs) ys a b = (a.0, few_append (open_behind depth x.terminal) xs ys a.1 b)

few_behind : (depth : ℕ) (xs : List Leaf) → depth ≤ 64 → AreFewOpen depth xs → open_behind_all depth xs ≤ 64
few_behind depth [] low a = low
few_behind depth (x ∷ xs) low a = few_behind (open_behind depth x.terminal) xs a.0 a.1

-- one part after another
pub in_turn : {source : Source} {old mid new : Cursor} {xs ys : List Leaf} → Reads source old mid xs → Reads source mid new ys → Reads source old new (xs ++ ys)
in_turn {source} {old} {mid} {new} {xs} {ys} p q = record {
  tokens = p.tokens ++ q.tokens;
  split = p.split ∙ ap (λ t. p.tokens ++ t) q.split ∙ sym (append_assoc p.tokens q.tokens (drop new.at source.tokens.now));
  each = zip_append (IsLeafAt source.text.now) xs ys p.tokens q.tokens p.each q.each;
  left = omega (arith, p.left, q.left, length-append xs ys);
  depth = q.depth ∙ ap (λ n. open_behind_all n ys) p.depth ∙ sym (open_append old.depth xs ys);
  few = λ low. few_append old.depth xs ys (p.few low) (subst (λ n. AreFewOpen n ys) p.depth (q.few (subst (λ n. n ≤ 64) (sym p.depth) (few_behind old.depth xs low (p.few low)))));
}

pub tokens_in_turn : {source : Source} {old mid new : Cursor} {xs ys : List Leaf} (p : Reads source old mid xs) (q : Reads source mid new ys) → (in_turn p q).tokens ≡ p.tokens ++ q.tokens
unfolding in_turn
tokens_in_turn p q = refl

-- nothing is read
pub nothing : (source : Source) (old new : Cursor) → new ≡ old → Reads source old new []
nothing source old new e = subst (λ c. Reads source old c []) (sym e) (record { tokens = []; split = refl; each = tt; left = omega arith; depth = refl; few = λ _. tt })

open_of_kind : (depth : ℕ) (text : List ℕ) (token : Token) → open_behind depth (terminal_of text token) ≡ open_behind_kind depth token.kind
open_of_kind depth text token = of_kind token.kind token.start token.end
  where
    of_kind : (kind : TokenKind) (first last : ℕ) → open_behind depth (terminal_of text (record { kind = kind; start = first; end = last })) ≡ open_behind_kind depth kind
    of_kind kinds.Name first last = refl
    of_kind (kinds.Number n) first last = refl
    of_kind (kinds.Literal bits) first last = refl
    of_kind (kinds.Keyword k) first last = refl
    of_kind (kinds.Symbol s) first last = refl

-- the brackets that are open behind the next token
pub open_behind_next : (source : Source) (old : Cursor) (d : Token) (terminal : Terminal) → old.at < length source.tokens.now → next source old ≡ Some terminal →
    open_behind old.depth terminal ≡ open_behind_kind old.depth (get_or source.tokens.now old.at d).kind
open_behind_next source old d terminal within at_terminal =
    let text = source.text.now in
    let token = get_or source.tokens.now old.at d in
    let some : token_at source old ≡ Some token = slice_get-get_or source.tokens.now old.at d within in
    let same : terminal ≡ terminal_of text token = cc (ap (option_map (terminal_of text)) some, at_terminal) in
    ap (open_behind old.depth) same ∙ open_of_kind old.depth text token

-- one token
pub one_token : (source : Source) (old new : Cursor) (d : Token) (terminal : Terminal) → old.at < length source.tokens.now → next source old ≡ Some terminal → new.at ≡ old.at + 1 →
    new.depth ≡ open_behind_kind old.depth (get_or source.tokens.now old.at d).kind → (old.depth ≤ 64 → new.depth ≤ 64) →
    Reads source old new (placed terminal (get_or source.tokens.now old.at d).start)
one_token source old new d terminal within at_terminal forward depth few =
    let text = source.text.now in
    let all = source.tokens.now in
    let token = get_or all old.at d in
    let some : token_at source old ≡ Some token = slice_get-get_or all old.at d within in
    let same : terminal ≡ terminal_of text token = cc (ap (option_map (terminal_of text)) some, at_terminal) in
    let open_at : open_behind old.depth terminal ≡ new.depth = ap (open_behind old.depth) same ∙ open_of_kind old.depth text token ∙ sym depth in
    let behind : suc old.at ≡ new.at = omega arith in
    record {
      tokens = token ∷ [];
      split = drop-cons all old.at d within ∙ (λ i. token ∷ drop (behind i) all);
      each = ((same, refl), tt);
      left = omega arith;
      depth = sym open_at;
      few = λ low. (subst (λ n. n ≤ 64) (sym open_at) (few low), tt);
    }

-- what begins with a token leaves fewer
pub shorter : {source : Source} {old new : Cursor} {leaf : Leaf} {leaves : List Leaf} → Reads source old new (leaf ∷ leaves) → tokens_left source new < tokens_left source old
shorter r = omega (arith, r.left)

-- the leaves of what is the same
pub in_place_of : {X : Type 0} {source : Source} {old new : Cursor} (leaves : X → List Leaf) {x : X} (y : X) → y ≡ x → Reads source old new (leaves x) → Reads source old new (leaves y)
in_place_of {X} {source} {old} {new} leaves y same r = subst (λ z. Reads source old new (leaves z)) (sym same) r

-- the leaves are those
pub as_leaves : {source : Source} {old new : Cursor} {xs : List Leaf} (ys : List Leaf) → ys ≡ xs → Reads source old new xs → Reads source old new ys
as_leaves {source} {old} {new} ys same r = subst (λ l. Reads source old new l) (sym same) r

-- all of the tokens have been read
pub whole : {source : Source} {old new : Cursor} {leaves : List Leaf} → Reads source old new leaves →
    old.at ≡ 0 → length source.tokens.now ≤ new.at → AllZip (IsLeafAt source.text.now) leaves source.tokens.now
whole {source} {old} {new} {leaves} r begins ends =
    let all = source.tokens.now in
    let none : drop new.at all ≡ [] = drop_all new.at all ends in
    let same : all ≡ r.tokens = ap (λ n. drop n all) (sym begins) ∙ r.split ∙ ap (λ d. r.tokens ++ d) none ∙ append-nil r.tokens in
    subst (λ ts. AllZip (IsLeafAt source.text.now) leaves ts) (sym same) r.each

pub ruleset reading = (in_turn, nothing)
