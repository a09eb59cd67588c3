-- The pipeline design's text is the printed text of each tree that derives its tokens: it is what its own tokens are printed as.
use Rattle.std.proofs.Common.{◌≡◌, ◌≢◌, ℕ, zero, suc, ◌+◌, ◌<◌, ◌≤◌, ◌^◌, Bool, true, false, nat_eq, ◌&&◌, cond, ◌⊎◌, inl, inr, None, List, [], ◌∷◌, ◌++◌, length, map, codes, decimal, refl, sym, ap, ap₂, ◌∙◌, subst, arith, append_assoc, lit≤, lit<}
use Rattle.std.specs.Prelude.{nat_le, slice_index_or}
use Rattle.std.specs.Fmt.{digits}
use Rattle.std.specs.List.{AllByRecursion, AllZip, filter, list_all}
use Rattle.std.proofs.lemmas.Bool.{cases_lt, eq-eqb, eqb-true, false≢true, leb-true}
use Rattle.kw_bits.specs.BitVector.{IsBitVector}
use Rattle.koika_syntax.specs.Grammar.{Derives, tree_leaves}
use Rattle.koika_syntax.specs.Keywords.{keyword_text}
use Rattle.koika_syntax.specs.Lexemes.{continues_word}
use Rattle.koika_syntax.specs.Tokens.{AreTokensOf, IsToken}
use Rattle.koika_syntax.specs.Tree.{IsLeafAt, Leaf, Terminal, keyword, literal, name, number, symbol, terminal_of}
use Rattle.koika_syntax.specs.declared.keyword.Keyword.{Keyword}
use Rattle.koika_syntax.specs.declared.keyword.Keyword.TheVariants as keywords
use Rattle.koika_syntax.specs.declared.symbol.Symbol.TheVariants as symbols
use Rattle.koika_syntax.specs.declared.token.Token.{Token}
use Rattle.koika_syntax.specs.declared.token.TokenKind.TheVariants as kinds
use Rattle.koika_syntax.specs.declared.tree.Tree.{Tree}
use Rattle.koika_syntax.proofs.Cuts.{one_list}
use Rattle.koika_print.specs.Printed.{AreWritable, IsLexedAs, IsWritable, blank_after, printed, written}
use Rattle.koika_print.proofs.Lexed.{lexed_text}
use Rattle.koika_top.specs.Generator.{ascending, descending, drain, fill, filled, move_on, other_registers, pipeline, stage_registers}

-- ---- tokens

-- tokens in a row, each with its blank after it
abbrev pub text_of : List Terminal → List ℕ
text_of [] = []
text_of (t ∷ ts) = written t ++ (blank_after t ∷ text_of ts)

pub text-append : (ts us : List Terminal) → text_of (ts ++ us) ≡ text_of ts ++ text_of us
text-append [] us = refl
text-append (t ∷ ts) us = ap (λ (rest : List ℕ). written t ++ (blank_after t ∷ rest)) (text-append ts us) ∙ sym (append_assoc (written t) (blank_after t ∷ text_of ts) (text_of us))

-- the same with the few numbers of the design spelled out
abbrev plain : ℕ → List ℕ
plain n = cond (nat_eq n 0) (48 ∷ []) (cond (nat_eq n 1) (49 ∷ []) (cond (nat_eq n 32) (51 ∷ 50 ∷ []) (decimal n)))

abbrev shown : Terminal → List ℕ
shown (number n) = plain n
shown (literal l) = plain l.width ++ (codes "'d" ++ plain l.number)
shown other = written other

abbrev text_shown : List Terminal → List ℕ
text_shown [] = []
text_shown (t ∷ ts) = shown t ++ (blank_after t ∷ text_shown ts)

zero-is : 48 ∷ [] ≡ decimal 0
unfolding digits
zero-is = refl

one-is : 49 ∷ [] ≡ decimal 1
unfolding digits
one-is = refl

wide-is : 51 ∷ 50 ∷ [] ≡ decimal 32
unfolding digits
wide-is = refl

-- a number that is told from another or is it
spelled : (n m : ℕ) (text other : List ℕ) → text ≡ decimal m → other ≡ decimal n → cond (nat_eq n m) text other ≡ decimal n
spelled n m text other is rest = by (nat_eq n m) refl
  where
    by : (b : Bool) → nat_eq n m ≡ b → cond b text other ≡ decimal n
    by true same = is ∙ ap decimal (sym (eqb-true n m same))
    by false apart = rest

plain-is : (n : ℕ) → plain n ≡ decimal n
plain-is n = spelled n 0 _ _ zero-is (spelled n 1 _ _ one-is (spelled n 32 _ _ wide-is refl))

shown-is : (t : Terminal) → shown t ≡ written t
shown-is (number n) = plain-is n
shown-is (literal l) = ap₂ (λ (a b : List ℕ). a ++ (codes "'d" ++ b)) (plain-is l.width) (plain-is l.number)
shown-is other = refl

text-is : (ts : List Terminal) → text_shown ts ≡ text_of ts
text-is [] = refl
text-is (t ∷ ts) = ap₂ (λ (a b : List ℕ). a ++ (blank_after t ∷ b)) (shown-is t) (text-is ts)

abbrev pub leaves_of : List Terminal → List Leaf
leaves_of [] = []
leaves_of (t ∷ ts) = record { terminal = t; place = None } ∷ leaves_of ts

pub printed-so : (ts : List Terminal) → printed (leaves_of ts) ≡ text_of ts
printed-so [] = refl
printed-so (t ∷ ts) = append_assoc (written t) (blank_after t ∷ []) (printed (leaves_of ts)) ∙ ap (λ (rest : List ℕ). written t ++ (blank_after t ∷ rest)) (printed-so ts)

pub terminals-so : (ts : List Terminal) → map (λ (leaf : Leaf). leaf.terminal) (leaves_of ts) ≡ ts
terminals-so [] = refl
terminals-so (t ∷ ts) = ap (λ (rest : List Terminal). t ∷ rest) (terminals-so ts)

-- leaves are printed as the tokens that are theirs
printed-of : (text : List ℕ) (leaves : List Leaf) (tokens : List Token) → AllZip (IsLeafAt text) leaves tokens → printed leaves ≡ text_of (map (terminal_of text) tokens)
printed-of text [] [] each = refl
printed-of text [] (token ∷ tokens) each = absurd each
printed-of text (leaf ∷ leaves) [] each = absurd each
printed-of text (leaf ∷ leaves) (token ∷ tokens) each =
    append_assoc (written leaf.terminal) (blank_after leaf.terminal ∷ []) (printed leaves)
    ∙ ap₂ (λ (t : Terminal) (rest : List ℕ). written t ++ (blank_after t ∷ rest)) each.0.0 (printed-of text leaves tokens each.1)

-- ---- names

abbrev v : ℕ → Terminal
v k = name (118 ∷ decimal k)

abbrev d : ℕ → Terminal
d k = name (100 ∷ decimal k)

abbrev move : ℕ → Terminal
move k = name (109 ∷ 111 ∷ 118 ∷ 101 ∷ decimal k)

abbrev total : Terminal
total = name (codes "total")

abbrev feed : Terminal
feed = name (codes "feed")

abbrev v0 : Terminal
v0 = name (codes "v0")

abbrev d0 : Terminal
d0 = name (codes "d0")

abbrev bits : ℕ → ℕ → Terminal
bits width value = literal (record { width = width; number = value })

-- ---- what each template is filled to

unfoldable pub registers_at : ℕ → List Terminal
registers_at k =
    keyword keywords.Reg ∷ v k ∷ symbol symbols.Colon ∷ keyword keywords.Bits ∷ number 1 ∷ symbol symbols.Equals ∷ bits 1 0 ∷ symbol symbols.Semicolon
    ∷ keyword keywords.Reg ∷ d k ∷ symbol symbols.Colon ∷ keyword keywords.Bits ∷ number 32 ∷ symbol symbols.Equals ∷ bits 32 0 ∷ symbol symbols.Semicolon ∷ []

unfoldable pub others : List Terminal
others =
    keyword keywords.Reg ∷ total ∷ symbol symbols.Colon ∷ keyword keywords.Bits ∷ number 32 ∷ symbol symbols.Equals ∷ bits 32 0 ∷ symbol symbols.Semicolon
    ∷ keyword keywords.Reg ∷ feed ∷ symbol symbols.Colon ∷ keyword keywords.Bits ∷ number 32 ∷ symbol symbols.Equals ∷ bits 32 0 ∷ symbol symbols.Semicolon ∷ []

-- `read0 ( .. )` and its like, and `write0 ( .. , ` up to the value
abbrev call : Keyword → Terminal → List Terminal → List Terminal
call k of rest = keyword k ∷ symbol symbols.LeftParenthesis ∷ of ∷ symbol symbols.RightParenthesis ∷ rest

abbrev put : Keyword → Terminal → List Terminal → List Terminal
put k of rest = keyword k ∷ symbol symbols.LeftParenthesis ∷ of ∷ symbol symbols.Comma ∷ rest

-- the end of a rule, which aborts where its condition doesn't hold
abbrev otherwise : List Terminal
otherwise =
    symbol symbols.RightParenthesis ∷ symbol symbols.RightBrace ∷ keyword keywords.Else ∷ symbol symbols.LeftBrace ∷ keyword keywords.Abort ∷ symbol symbols.RightBrace ∷ symbol symbols.RightBrace ∷ []

abbrev begun : Terminal → List Terminal → List Terminal
begun of rest = keyword keywords.Rule ∷ of ∷ symbol symbols.LeftBrace ∷ keyword keywords.If ∷ rest

unfoldable pub drain_at : ℕ → List Terminal
drain_at k =
    begun (name (codes "drain"))
    (call keywords.Read0 (v k)
    (symbol symbols.LeftBrace ∷ put keywords.Write0 (v k)
    (bits 1 0 ∷ symbol symbols.RightParenthesis ∷ symbol symbols.Semicolon ∷ put keywords.Write0 total
    (call keywords.Read0 total (symbol symbols.Plus ∷ call keywords.Read0 (d k) otherwise)))))

unfoldable pub move_at : ℕ → List Terminal
move_at k =
    begun (move k)
    (call keywords.Read0 (v k)
    (symbol symbols.Ampersand ∷ symbol symbols.Tilde ∷ call keywords.Read1 (v (k + 1))
    (symbol symbols.LeftBrace ∷ put keywords.Write0 (v k)
    (bits 1 0 ∷ symbol symbols.RightParenthesis ∷ symbol symbols.Semicolon ∷ put keywords.Write1 (v (k + 1))
    (bits 1 1 ∷ symbol symbols.RightParenthesis ∷ symbol symbols.Semicolon ∷ put keywords.Write1 (d (k + 1))
    (call keywords.Read0 (d k) (symbol symbols.Plus ∷ bits 32 1 ∷ otherwise)))))))

unfoldable pub fill_rule : List Terminal
fill_rule =
    begun (name (codes "fill"))
    (symbol symbols.Tilde ∷ call keywords.Read1 v0
    (symbol symbols.LeftBrace ∷ put keywords.Write1 v0
    (bits 1 1 ∷ symbol symbols.RightParenthesis ∷ symbol symbols.Semicolon ∷ put keywords.Write1 d0
    (call keywords.Read0 feed (symbol symbols.RightParenthesis ∷ symbol symbols.Semicolon ∷ put keywords.Write0 feed
    (call keywords.Read0 feed (symbol symbols.Plus ∷ bits 32 1 ∷ otherwise)))))))

unfoldable pub schedule_begin : List Terminal
schedule_begin = keyword keywords.Schedule ∷ symbol symbols.LeftBrace ∷ name (codes "drain") ∷ symbol symbols.Semicolon ∷ []

unfoldable pub scheduled_at : ℕ → List Terminal
scheduled_at k = move k ∷ symbol symbols.Semicolon ∷ []

unfoldable pub schedule_end : List Terminal
schedule_end = name (codes "fill") ∷ symbol symbols.Semicolon ∷ symbol symbols.RightBrace ∷ []

registers-text : (k : ℕ) → filled stage_registers k ≡ text_of (registers_at k)
unfolding registers_at
registers-text k = text-is (registers_at k)

others-text : (k : ℕ) → filled other_registers k ≡ text_of others
unfolding others
others-text k = text-is others

drain-text : (k : ℕ) → filled drain k ≡ text_of (drain_at k)
unfolding drain_at
drain-text k = text-is (drain_at k)

move-text : (k : ℕ) → filled move_on k ≡ text_of (move_at k)
unfolding move_at
move-text k = text-is (move_at k)

fill-text : (k : ℕ) → filled fill k ≡ text_of fill_rule
unfolding fill_rule
fill-text k = text-is fill_rule

begin-text : (k : ℕ) → filled (codes "schedule {/drain ;/") k ≡ text_of schedule_begin
unfolding schedule_begin
begin-text k = text-is schedule_begin

scheduled-text : (k : ℕ) → filled (codes "move# ;/") k ≡ text_of (scheduled_at k)
unfolding scheduled_at
scheduled-text k = text-is (scheduled_at k)

end-text : (k : ℕ) → filled (codes "fill ;/}/") k ≡ text_of schedule_end
unfolding schedule_end
end-text k = text-is schedule_end

-- ---- the whole text

unfoldable pub ascending_of : (ℕ → List Terminal) → ℕ → List Terminal
ascending_of f zero = []
ascending_of f (suc stage) = ascending_of f stage ++ f stage

unfoldable pub descending_of : (ℕ → List Terminal) → ℕ → List Terminal
descending_of f zero = []
descending_of f (suc stage) = f stage ++ descending_of f stage

both : (x y : List ℕ) (ts us : List Terminal) → x ≡ text_of ts → y ≡ text_of us → x ++ y ≡ text_of (ts ++ us)
both x y ts us first second = ap₂ (λ (a b : List ℕ). a ++ b) first second ∙ sym (text-append ts us)

ascending-text : (template : List ℕ) (f : ℕ → List Terminal) → ((k : ℕ) → filled template k ≡ text_of (f k)) → (n : ℕ) → ascending template n ≡ text_of (ascending_of f n)
unfolding ascending_of
ascending-text template f each zero = refl
ascending-text template f each (suc n) = both (ascending template n) (filled template n) (ascending_of f n) (f n) (ascending-text template f each n) (each n)

descending-text : (template : List ℕ) (f : ℕ → List Terminal) → ((k : ℕ) → filled template k ≡ text_of (f k)) → (n : ℕ) → descending template n ≡ text_of (descending_of f n)
unfolding descending_of
descending-text template f each zero = refl
descending-text template f each (suc n) = both (filled template n) (descending template n) (f n) (descending_of f n) (each n) (descending-text template f each n)

unfoldable pub tokens_at : ℕ → List Terminal
tokens_at k =
    ascending_of registers_at (k + 1) ++ others ++ drain_at k ++ descending_of move_at k ++ fill_rule ++ schedule_begin ++ descending_of scheduled_at k ++ schedule_end

pub pipeline-text : (k : ℕ) → pipeline k ≡ text_of (tokens_at k)
unfolding pipeline tokens_at
pipeline-text k =
    let a = ascending-text stage_registers registers_at registers-text (k + 1) in
    let b = both _ _ _ _ a (others-text k) in
    let c = both _ _ _ _ b (drain-text k) in
    let e = both _ _ _ _ c (descending-text move_on move_at move-text k) in
    let f = both _ _ _ _ e (fill-text k) in
    let g = both _ _ _ _ f (begin-text k) in
    let h = both _ _ _ _ g (descending-text (codes "move# ;/") scheduled_at scheduled-text k) in
    both _ _ _ _ h (end-text k)

-- ---- the tokens can be written

abbrev pub AreFine : List Terminal → Type 0
AreFine ts = AreWritable (leaves_of ts)

-- keywords and symbols always can
abbrev needs : Terminal → Bool
needs (keyword k) = false
needs (symbol s) = false
needs other = true

fine-where : (ts : List Terminal) → AllByRecursion IsWritable (filter needs ts) → AreFine ts
fine-where [] all = tt
fine-where (keyword k ∷ ts) all = (tt, fine-where ts all)
fine-where (symbol s ∷ ts) all = (tt, fine-where ts all)
fine-where (name text ∷ ts) all = (all.0, fine-where ts all.1)
fine-where (number n ∷ ts) all = (all.0, fine-where ts all.1)
fine-where (literal l ∷ ts) all = (all.0, fine-where ts all.1)

fine-both : (ts us : List Terminal) → AreFine ts → AreFine us → AreFine (ts ++ us)
fine-both [] us first second = second
fine-both (t ∷ ts) us first second = (first.0, fine-both ts us first.1 second)

-- up to 101 a number is a few digits, which go on a word
abbrev goes_on : ℕ → Bool
goes_on k = list_all continues_word (decimal k) && nat_le (length (decimal k)) 3

all_go_on : ℕ → Bool
all_go_on zero = true
all_go_on (suc k) = goes_on k && all_go_on k

few-go-on : all_go_on 102 ≡ true
unfolding all_go_on digits
few-go-on = refl

-- each side of an `and`
pub left : (a b : Bool) → (a && b) ≡ true → a ≡ true
left true b is = refl
left false b is = is

pub right : (a b : Bool) → (a && b) ≡ true → b ≡ true
right true b is = is
right false b is = absurd (false≢true is)

one-goes-on : (n k : ℕ) → all_go_on n ≡ true → k < n → goes_on k ≡ true
unfolding all_go_on
one-goes-on zero k all below = absurd (omega (arith, below))
one-goes-on (suc n) k all below = by (cases_lt k n) (one-goes-on n k (right (goes_on n) (all_go_on n) all))
  where
    by : (k < n) ⊎ (n ≤ k) → (k < n → goes_on k ≡ true) → goes_on k ≡ true
    by (inl earlier) rest = rest earlier
    by (inr not_earlier) rest = let same : n ≡ k = omega (arith, below, not_earlier) in subst (λ (j : ℕ). goes_on j ≡ true) same (left (goes_on n) (all_go_on n) all)

-- bytes of this front are no keyword
abbrev at : ℕ → Keyword → ℕ
at place k = slice_index_or (keyword_text k) place 0

apart-first : (b : ℕ) (bytes : List ℕ) (k : Keyword) → nat_eq b (at 0 k) ≡ false → b ∷ bytes ≢ keyword_text k
apart-first b bytes k apart same = let here : b ≡ at 0 k = ap (λ (bs : List ℕ). slice_index_or bs 0 0) same in absurd (false≢true (sym apart ∙ eq-eqb b (at 0 k) here))

apart-second : (b c : ℕ) (bytes : List ℕ) (k : Keyword) → (nat_eq b (at 0 k) && nat_eq c (at 1 k)) ≡ false → b ∷ c ∷ bytes ≢ keyword_text k
apart-second b c bytes k apart same =
    let first : b ≡ at 0 k = ap (λ (bs : List ℕ). slice_index_or bs 0 0) same in
    let second : c ≡ at 1 k = ap (λ (bs : List ℕ). slice_index_or bs 1 0) same in
    absurd (false≢true (sym apart ∙ ap₂ (λ (x y : Bool). x && y) (eq-eqb b (at 0 k) first) (eq-eqb c (at 1 k) second)))

no-v : (k : Keyword) → nat_eq 118 (at 0 k) ≡ false
no-v keywords.Reg = refl
no-v other = refl

no-d : (k : Keyword) → nat_eq 100 (at 0 k) ≡ false
no-d keywords.Reg = refl
no-d other = refl

no-m : (k : Keyword) → nat_eq 109 (at 0 k) ≡ false
no-m keywords.Reg = refl
no-m other = refl

no-to : (k : Keyword) → (nat_eq 116 (at 0 k) && nat_eq 111 (at 1 k)) ≡ false
no-to keywords.Reg = refl
no-to other = refl

no-fe : (k : Keyword) → (nat_eq 102 (at 0 k) && nat_eq 101 (at 1 k)) ≡ false
no-fe keywords.Reg = refl
no-fe other = refl

no-fi : (k : Keyword) → (nat_eq 102 (at 0 k) && nat_eq 105 (at 1 k)) ≡ false
no-fi keywords.Reg = refl
no-fi other = refl

module _ (k : ℕ) (most : k < 102) where
  pub digits-go : list_all continues_word (decimal k) ≡ true
  digits-go = left (list_all continues_word (decimal k)) (nat_le (length (decimal k)) 3) (one-goes-on 102 k few-go-on most)

  pub short : length (decimal k) ≤ 3
  short = leb-true (length (decimal k)) 3 (right (list_all continues_word (decimal k)) (nat_le (length (decimal k)) 3) (one-goes-on 102 k few-go-on most))

  pub v-fine : IsToken kinds.Name (118 ∷ decimal k)
  v-fine = ((refl, digits-go), omega (arith, short), λ other. apart-first 118 (decimal k) other (no-v other))

  pub d-fine : IsToken kinds.Name (100 ∷ decimal k)
  d-fine = ((refl, digits-go), omega (arith, short), λ other. apart-first 100 (decimal k) other (no-d other))

  pub move-fine : IsToken kinds.Name (109 ∷ 111 ∷ 118 ∷ 101 ∷ decimal k)
  move-fine = ((refl, digits-go), omega (arith, short), λ other. apart-first 109 (111 ∷ 118 ∷ 101 ∷ decimal k) other (no-m other))

pub v0-fine : IsToken kinds.Name (codes "v0")
v0-fine = ((refl, refl), lit≤ tt, λ other. apart-first 118 (codes "0") other (no-v other))

pub d0-fine : IsToken kinds.Name (codes "d0")
d0-fine = ((refl, refl), lit≤ tt, λ other. apart-first 100 (codes "0") other (no-d other))

pub total-fine : IsToken kinds.Name (codes "total")
total-fine = ((refl, refl), lit≤ tt, λ other. apart-second 116 111 (codes "tal") other (no-to other))

pub feed-fine : IsToken kinds.Name (codes "feed")
feed-fine = ((refl, refl), lit≤ tt, λ other. apart-second 102 101 (codes "ed") other (no-fe other))

pub drain-fine : IsToken kinds.Name (codes "drain")
drain-fine = ((refl, refl), lit≤ tt, λ other. apart-first 100 (codes "rain") other (no-d other))

pub fill-fine : IsToken kinds.Name (codes "fill")
fill-fine = ((refl, refl), lit≤ tt, λ other. apart-second 102 105 (codes "ll") other (no-fi other))

pub flag : (b : ℕ) → b < 2 ^ 1 → IsBitVector 1 b
flag b small = record { some_bit = lit≤ tt; no_wider = lit≤ tt; in_range = small }

pub word_of : (n : ℕ) → n < 2 ^ 32 → IsBitVector 32 n
word_of n small = record { some_bit = lit≤ tt; no_wider = lit≤ tt; in_range = small }

registers-fine : (k : ℕ) → k < 102 → AreFine (registers_at k)
unfolding registers_at
registers-fine k most = fine-where (registers_at k) (v-fine k most, (lit< tt, (flag 0 (lit< tt), (d-fine k most, (lit< tt, (word_of 0 (lit< tt), tt))))))

others-fine : AreFine others
unfolding others
others-fine = fine-where others (total-fine, (lit< tt, (word_of 0 (lit< tt), (feed-fine, (lit< tt, (word_of 0 (lit< tt), tt))))))

drain-rule-fine : (k : ℕ) → k < 102 → AreFine (drain_at k)
unfolding drain_at
drain-rule-fine k most = fine-where (drain_at k) (drain-fine, (v-fine k most, (v-fine k most, (flag 0 (lit< tt), (total-fine, (total-fine, (d-fine k most, tt)))))))

move-rule-fine : (k : ℕ) → k < 101 → AreFine (move_at k)
unfolding move_at
move-rule-fine k most =
    let here : k < 102 = omega (arith, most) in
    let next : k + 1 < 102 = omega (arith, most) in
    fine-where (move_at k)
    (move-fine k here, (v-fine k here, (v-fine (k + 1) next, (v-fine k here, (flag 0 (lit< tt), (v-fine (k + 1) next, (flag 1 (lit< tt), (d-fine (k + 1) next, (d-fine k here, (word_of 1 (lit< tt), tt))))))))))

fill-rule-fine : AreFine fill_rule
unfolding fill_rule
fill-rule-fine = fine-where fill_rule (fill-fine, (v0-fine, (v0-fine, (flag 1 (lit< tt), (d0-fine, (feed-fine, (feed-fine, (feed-fine, (word_of 1 (lit< tt), tt)))))))))

begin-fine : AreFine schedule_begin
unfolding schedule_begin
begin-fine = fine-where schedule_begin (drain-fine, tt)

scheduled-fine : (k : ℕ) → k < 101 → AreFine (scheduled_at k)
unfolding scheduled_at
scheduled-fine k most = fine-where (scheduled_at k) (move-fine k (omega (arith, most)), tt)

end-fine : AreFine schedule_end
unfolding schedule_end
end-fine = fine-where schedule_end (fill-fine, tt)

ascending-fine : (f : ℕ → List Terminal) (n : ℕ) → ((k : ℕ) → k < n → AreFine (f k)) → AreFine (ascending_of f n)
unfolding ascending_of
ascending-fine f zero each = tt
ascending-fine f (suc n) each = fine-both (ascending_of f n) (f n) (ascending-fine f n (λ k below. each k (omega (arith, below)))) (each n (omega arith))

descending-fine : (f : ℕ → List Terminal) (n : ℕ) → ((k : ℕ) → k < n → AreFine (f k)) → AreFine (descending_of f n)
unfolding descending_of
descending-fine f zero each = tt
descending-fine f (suc n) each = fine-both (f n) (descending_of f n) (each n (omega arith)) (descending-fine f n (λ k below. each k (omega (arith, below))))

pub tokens-fine : (k : ℕ) → k ≤ 100 → AreFine (tokens_at k)
unfolding tokens_at
tokens-fine k most =
    let a = ascending-fine registers_at (k + 1) (λ j below. registers-fine j (omega (arith, below, most))) in
    let b = fine-both _ _ a others-fine in
    let c = fine-both _ _ b (drain-rule-fine k (omega (arith, most))) in
    let e = fine-both _ _ c (descending-fine move_at k (λ j below. move-rule-fine j (omega (arith, below, most)))) in
    let f = fine-both _ _ e fill-rule-fine in
    let g = fine-both _ _ f begin-fine in
    let h = fine-both _ _ g (descending-fine scheduled_at k (λ j below. scheduled-fine j (omega (arith, below, most)))) in
    fine-both _ _ h end-fine

-- the text is cut into these tokens
pub pipeline-lexed : (stages : ℕ) → stages ≤ 100 → IsLexedAs (pipeline stages) (leaves_of (tokens_at stages))
pipeline-lexed stages most =
    let ts : List Terminal = tokens_at stages in
    lexed_text (pipeline stages) (leaves_of ts) (pipeline-text stages ∙ sym (printed-so ts)) (tokens-fine stages most)

-- ---- trees

pub generated : (stages : ℕ) (tokens : List Token) (tree : Tree) → stages ≤ 100 → AreTokensOf tokens (pipeline stages) → Derives (pipeline stages) tree tokens → pipeline stages ≡ printed (tree_leaves tree)
generated stages tokens tree most are derived =
    let ts : List Terminal = tokens_at stages in
    let text : pipeline stages ≡ text_of ts = pipeline-text stages in
    let lexed : IsLexedAs (pipeline stages) (leaves_of ts) = pipeline-lexed stages most in
    let same : map (terminal_of (pipeline stages)) tokens ≡ ts =
    ap (map (terminal_of (pipeline stages))) (one_list (pipeline stages) tokens lexed.tokens are lexed.are) ∙ lexed.same ∙ terminals-so ts in
    text ∙ sym (printed-of (pipeline stages) (tree_leaves tree) tokens derived.leaves ∙ ap text_of same)
