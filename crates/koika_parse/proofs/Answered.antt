-- Reading from a cursor comes to an end: over a word of its language, or where no word goes on. It is put together part by part.
use Rattle.std.proofs.Common.{◌≡◌, ℕ, zero, suc, ◌+◌, ◌<◌, ◌≤◌, Option, None, Some, Ok, Err, List, [], ◌∷◌, ◌++◌, length, inl, inr, refl, ap, arith}
use Rattle.std.specs.Prelude.{◌⊎◌, ⊤}
use Rattle.std.specs.List.{AllZip}
use Rattle.std.proofs.Math.Decide.{ℕ_discrete}
use Rattle.kw_bits.specs.BitVector.{BitVector}
use Rattle.koika_syntax.specs.Keywords.{keyword_text}
use Rattle.koika_syntax.specs.Symbols.{symbol_text}
use Rattle.koika_syntax.proofs.KeywordTable.{same_keyword}
use Rattle.koika_syntax.proofs.SymbolTable.{same_symbol}
use Rattle.koika_syntax.specs.Tree.{IsLeafAt, Leaf, Terminal, name, number, literal, keyword, symbol}
use Rattle.koika_syntax.specs.declared.keyword.Keyword.{Keyword}
use Rattle.koika_syntax.specs.declared.keyword.Keyword.TheVariants as keywords
use Rattle.koika_syntax.specs.declared.symbol.Symbol.{Symbol}
use Rattle.koika_syntax.specs.declared.symbol.Symbol.TheVariants as symbols
use Rattle.koika_syntax.specs.declared.token.Token.{Token}
use Rattle.koika_syntax.specs.declared.token.TokenKind.{TokenKind}
use Rattle.koika_syntax.specs.declared.token.TokenKind.TheVariants as kinds
use Rattle.koika_parse.specs.Brackets.{open_behind}
use Rattle.koika_parse.specs.inner.Expected.{Any, Behind, One, StandAt, Takes, Then, first, spots_of}
use Rattle.koika_parse.specs.inner.Reading.{next, tokens_left}
use Rattle.koika_parse.specs.declared.cursor.Cursor.{Cursor}
use Rattle.koika_parse.specs.declared.source.Source.{Source}
use Rattle.koika_parse.specs.inner.Stops.{Stop}
use Rattle.kw_bits.specs.declared.failure.Failure.TheVariants as failures
use Rattle.koika_parse.specs.declared.stop.Unread.TheVariants as unread
use Rattle.koika_parse.proofs.Expected.{Language, Lookahead, Apart, Empty, Goes, finish, free, free_last, last}
use Rattle.koika_parse.proofs.Expected.{last_stopped, never_none, one_takes, refused_one, same_of_some, step, stopped}
use Rattle.koika_parse.proofs.Expected.{too_deep, within}
use Rattle.koika_parse.proofs.Reading.{one_token, open_behind_next}

-- it is so, or it isn't
abbrev pub Decided : Type 0 → Type 0
Decided P = P ⊎ (P → ⊥)

pub by_case : {P A : Type 0} → Decided P → (P → A) → ((P → ⊥) → A) → A
by_case (inl p) so otherwise = so p
by_case (inr other) so otherwise = otherwise other

pub decide_number : (a b : ℕ) → Decided (a ≡ b)
decide_number a b = of (ℕ_discrete a b)
  where
    of : Dec (a ≡ b) → Decided (a ≡ b)
    of (yes same) = inl same
    of (no other) = inr other

decide_both : {P Q R : Type 0} → Decided P → Decided Q → (P → Q → R) → (R → P × Q) → Decided R
decide_both (inl p) (inl q) made parts = inl (made p q)
decide_both (inl p) (inr other) made parts = inr (λ r. other (parts r).1)
decide_both (inr other) q made parts = inr (λ r. other (parts r).0)

pub decide_as : {P Q : Type 0} → Decided P → (P → Q) → (Q → P) → Decided Q
decide_as (inl p) into back = inl (into p)
decide_as (inr other) into back = inr (λ q. other (back q))

head_or : List ℕ → ℕ
head_or [] = 0
head_or (x ∷ xs) = x

tail_or : List ℕ → List ℕ
tail_or [] = []
tail_or (x ∷ xs) = xs

decide_bytes : (a b : List ℕ) → Decided (a ≡ b)
unfolding head_or tail_or
decide_bytes [] [] = inl refl
decide_bytes [] (y ∷ b) = inr (λ e. omega (arith, ap length e))
decide_bytes (x ∷ a) [] = inr (λ e. omega (arith, ap length e))
decide_bytes (x ∷ a) (y ∷ b) = decide_both (decide_number x y) (decide_bytes a b) (λ p q i. p i ∷ q i) (λ e. (ap head_or e, ap tail_or e))

name_or : Terminal → List ℕ
name_or (name bytes) = bytes
name_or _ = []

number_or : Terminal → ℕ
number_or (number n) = n
number_or _ = 0

literal_or : Terminal → BitVector
literal_or (literal bits) = bits
literal_or _ = record { width = 0; number = 0 }

keyword_or : Terminal → Keyword
keyword_or (keyword k) = k
keyword_or _ = keywords.Abort

abbrev pub symbol_or : Terminal → Symbol
symbol_or (symbol s) = s
symbol_or _ = symbols.Comma

decide_terminal : (a b : Terminal) → Decided (a ≡ b)
unfolding name_or number_or literal_or keyword_or
decide_terminal (name a) (name b) = decide_as (decide_bytes a b) (ap name) (ap name_or)
decide_terminal (number a) (number b) = decide_as (decide_number a b) (ap number) (ap number_or)
decide_terminal (literal a) (literal b) =
    decide_both (decide_number a.width b.width) (decide_number a.number b.number)
    (λ p q i. literal (record { width = p i; number = q i }))
    (λ e. (ap (λ t. (literal_or t).width) e, ap (λ t. (literal_or t).number) e))
decide_terminal (keyword a) (keyword b) = decide_as (decide_bytes (keyword_text a) (keyword_text b)) (λ e. ap keyword (same_keyword a b e)) (λ e. ap (λ t. keyword_text (keyword_or t)) e)
decide_terminal (symbol a) (symbol b) = decide_as (decide_bytes (symbol_text a) (symbol_text b)) (λ e. ap symbol (same_symbol a b e)) (λ e. ap (λ t. symbol_text (symbol_or t)) e)
decide_terminal a b = inr (λ e. cc e)

-- whether a token is next
pub decide_next : (o : Option Terminal) (terminal : Terminal) → Decided (o ≡ Some terminal)
decide_next None terminal = inr never_none
decide_next (Some found) terminal = decide_as (decide_terminal found terminal) (ap Some) same_of_some

-- whether a name is next
pub decide_named : (o : Option TokenKind) → Decided (o ≡ Some kinds.Name)
decide_named (Some kinds.Name) = inl refl
decide_named o = inr (λ e. cc e)

-- whether one number is below another
pub decide_below : (a b : ℕ) → Decided (a < b)
decide_below a b = of (below_or_not a b)
  where
    below_or_not : (a b : ℕ) → (a < b) ⊎ (b ≤ a)
    below_or_not a b = grind arith

    of : (a < b) ⊎ (b ≤ a) → Decided (a < b)
    of (inl below) = inl below
    of (inr above) = inr (λ below. omega (arith, above, below))

-- why reading ends where memory doesn't run out
abbrev pub IsRefusal : Stop → Type 0
IsRefusal failures.NoMemory = ⊥
IsRefusal _ = ⊤

-- no word is read up to this cursor, since the text has none
abbrev pub Refused : Source → (old new : Cursor) → Language → Lookahead → Type 0
Refused source old new Word Follow = (stop : Stop) × IsRefusal stop × Takes {X = ⊤} source old new Word Follow (Err stop)

-- reading comes to an end at this cursor, and at some cursor
abbrev pub Ended : Source → (old new : Cursor) → Language → Lookahead → Type 0
Ended source old new Word Follow = Takes {X = ⊤} source old new Word Follow (Ok tt) ⊎ Refused source old new Word Follow

abbrev pub Answered : Source → Cursor → Language → Lookahead → Type 0
Answered source old Word Follow = (new : Cursor) × Ended source old new Word Follow

-- reading ends unexpectedly
pub unexpected : {source : Source} {old new : Cursor} {Word : Language} {Follow : Lookahead} →
    Takes {X = ⊤} source old new Word Follow (Err (failures.Why unread.Unexpected)) → Answered source old Word Follow
unexpected {new = new} takes = (new, inr (failures.Why unread.Unexpected, tt, takes))

-- at a cursor with fewer tokens left than at this one
abbrev pub Fewer : Source → Cursor → (Cursor → Type 0) → Type 0
Fewer source old At = (mid : Cursor) → tokens_left source mid < tokens_left source old → At mid

-- at each cursor from this one on
abbrev pub Further : Cursor → (Cursor → Type 0) → Type 0
Further old At = (mid : Cursor) → old.at ≤ mid.at → At mid

-- where this is left of a word, reading that word comes to an end
abbrev pub Ends : Source → Cursor → Language → Lookahead → Language → Cursor → Type 0
Ends source old Word Follow Rest new = Goes source old new Word Follow Rest → Answered source old Word Follow

-- what follows for a cursor from all cursors with fewer tokens left holds for each
pub by_tokens : (source : Source) (At : Cursor → Type 0) → ((old : Cursor) → Fewer source old At → At old) → (old : Cursor) → At old
by_tokens source At each old = up_to (suc (tokens_left source old)) old (omega arith)
  where
    up_to : (n : ℕ) (mid : Cursor) → tokens_left source mid < n → At mid
    up_to zero mid less = absurd (omega (arith, less))
    up_to (suc n) mid less = each mid (λ beyond fewer. up_to n beyond (omega (arith, less, fewer)))

-- a part, and then what is left
pub part_then : {source : Source} {old mid : Cursor} {Word : Language} {Follow Mid : Lookahead} {P Q : Language} →
    Goes source old mid Word Follow (Then P Q) → Answered source mid P Mid → Apart Q Follow Mid → Further mid (Ends source old Word Follow Q) → Answered source old Word Follow
part_then {source} {old} {mid} {Word} {Follow} {Mid} {P} {Q} goes part apart more = of part.1
  where
    of : Ended source mid part.0 P Mid → Answered source old Word Follow
    of (inl takes) = more part.0 takes.forward (step goes takes apart)
    of (inr refused) = (part.0, inr (refused.0, refused.1, stopped goes refused.2 apart))

pub any_then : {source : Source} {old mid : Cursor} {Word : Language} {Follow : Lookahead} {P Q : Language} →
    Goes source old mid Word Follow (Then P Q) → Answered source mid P Any → Further mid (Ends source old Word Follow Q) → Answered source old Word Follow
any_then {Follow = Follow} {Q = Q} goes part more = part_then goes part (free Q Follow) more

-- the last part
pub part_last : {source : Source} {old mid : Cursor} {Word : Language} {Follow Mid : Lookahead} {P : Language} →
    Goes source old mid Word Follow P → Answered source mid P Mid → ((v : List Leaf) → Behind Follow v → Behind Mid v) → Answered source old Word Follow
part_last {source} {old} {mid} {Word} {Follow} {Mid} {P} goes part apart = of part.1
  where
    of : Ended source mid part.0 P Mid → Answered source old Word Follow
    of (inl takes) = (part.0, inl (last tt goes takes apart))
    of (inr refused) = (part.0, inr (refused.0, refused.1, last_stopped goes refused.2 apart))

pub any_last :
    {source : Source} {old mid : Cursor} {Word : Language} {Follow : Lookahead} {P : Language} →
    Goes source old mid Word Follow P → Answered source mid P Any → Answered source old Word Follow
any_last {Follow = Follow} goes part = part_last goes part (free_last Follow)

-- nothing is left
pub none_left : {source : Source} {old new : Cursor} {Word : Language} {Follow : Lookahead} → Goes source old new Word Follow Empty → Answered source old Word Follow
none_left {new = new} goes = (new, inl (finish tt goes))

-- one token is read, and the next one is behind it; or none is
abbrev SteppedTo : Source → (old new : Cursor) → Terminal → Type 0
SteppedTo source old new terminal =
    ((new.at ≡ old.at + 1) × (old.at < length source.tokens.now) × Takes {X = ⊤} source old new (One terminal) Any (Ok tt)) ⊎ Refused source old new (One terminal) Any

abbrev Stepped : Source → Cursor → Terminal → Type 0
Stepped source old terminal = (new : Cursor) × SteppedTo source old new terminal

few_or_deep : (n : ℕ) → (n ≤ 64) ⊎ (64 < n)
few_or_deep n = grind arith

stepped : (source : Source) (old : Cursor) (terminal : Terminal) → Stepped source old terminal
stepped source old terminal = of (decide_next (next source old) terminal)
  where
    d : Token
    d = record { kind = kinds.Name; start = 0; end = 0 }

    at_token : next source old ≡ Some terminal → (open_behind old.depth terminal ≤ 64) ⊎ (64 < open_behind old.depth terminal) → Stepped source old terminal
    at_token at (inl few) =
        let new : Cursor = record { at = old.at + 1; depth = open_behind old.depth terminal } in
        let low = within source old at in
        (new, inl (refl, low, one_takes tt refl (one_token source old new d terminal low at refl (open_behind_next source old d terminal low at) (λ less. few))))
    at_token at (inr deep) = (old, inr (failures.Why unread.TooDeep, tt, too_deep terminal at deep))

    of : Decided (next source old ≡ Some terminal) → Stepped source old terminal
    of (inl at) = at_token at (few_or_deep (open_behind old.depth terminal))
    of (inr other) = (old, inr (failures.Why unread.Unexpected, tt, refused_one terminal other))

pub one_then : {source : Source} {old mid : Cursor} {Word : Language} {Follow : Lookahead} {terminal : Terminal} {Q : Language} →
    Goes source old mid Word Follow (Then (One terminal) Q) → Fewer source mid (Ends source old Word Follow Q) → Answered source old Word Follow
one_then {source} {old} {mid} {Word} {Follow} {terminal} {Q} goes more = of (stepped source mid terminal).1
  where
    new : Cursor
    new = (stepped source mid terminal).0

    of : SteppedTo source mid new terminal → Answered source old Word Follow
    of (inl one) = more new (omega (arith, one.0, one.1)) (step goes one.2 (free Q Follow))
    of (inr refused) = (new, inr (refused.0, refused.1, stopped goes refused.2 (free Q Follow)))

pub one_answered : (source : Source) (old : Cursor) (terminal : Terminal) → Answered source old (One terminal) Any
one_answered source old terminal = of (stepped source old terminal).1
  where
    new : Cursor
    new = (stepped source old terminal).0

    of : SteppedTo source old new terminal → Answered source old (One terminal) Any
    of (inl one) = (new, inl one.2)
    of (inr refused) = (new, inr refused)

pub one_last : {source : Source} {old mid : Cursor} {Word : Language} {Follow : Lookahead} {terminal : Terminal} → Goes source old mid Word Follow (One terminal) → Answered source old Word Follow
one_last {source} {old} {mid} {Word} {Follow} {terminal} goes = any_last goes (one_answered source mid terminal)

-- each word has a token
abbrev pub HasToken : Language → Type 0
HasToken P = (q : List Leaf) → P q → (terminal : Terminal) × (first (q ++ []) ≡ Some terminal)

some_length : (q : List Leaf) {terminal : Terminal} → first (q ++ []) ≡ Some terminal → 0 < length q
some_length [] at = absurd (never_none at)
some_length (leaf ∷ q) at = omega arith

zip_length : (text : List ℕ) (leaves : List Leaf) (tokens : List Token) → AllZip (IsLeafAt text) leaves tokens → length leaves ≡ length tokens
zip_length text [] [] each = refl
zip_length text [] (token ∷ tokens) each = absurd each
zip_length text (leaf ∷ leaves) [] each = absurd each
zip_length text (leaf ∷ leaves) (token ∷ tokens) each = ap suc (zip_length text leaves tokens each.1)

stand_length : (text : List ℕ) (leaves : List Leaf) (tokens : List Token) → StandAt leaves (spots_of text tokens ++ []) → length leaves ≡ length tokens
stand_length text [] [] stand = refl
stand_length text [] (token ∷ tokens) stand = absurd stand
stand_length text (leaf ∷ leaves) [] stand = absurd stand
stand_length text (leaf ∷ leaves) (token ∷ tokens) stand = ap suc (stand_length text leaves tokens stand.1)

-- a word with a token leaves fewer tokens
leaves_fewer : {source : Source} {old new : Cursor} {P : Language} {Follow : Lookahead} → HasToken P → Takes {X = ⊤} source old new P Follow (Ok tt) → tokens_left source new < tokens_left source old
leaves_fewer {source} some takes =
    let front = takes.leads in
    let text = source.text.now in
    let tokens = front.reads.tokens in
    let read = zip_length text front.read tokens front.reads.each in
    let whole = stand_length text front.whole tokens front.stands in
    omega (arith, front.reads.left, read, whole, some_length front.whole (some front.whole front.word).1)

pub part_more : {source : Source} {old mid : Cursor} {Word : Language} {Follow Mid : Lookahead} {P Q : Language} → HasToken P →
    Goes source old mid Word Follow (Then P Q) → Answered source mid P Mid → Apart Q Follow Mid → Fewer source mid (Ends source old Word Follow Q) → Answered source old Word Follow
part_more {source} {old} {mid} {Word} {Follow} {Mid} {P} {Q} some goes part apart more = of part.1
  where
    of : Ended source mid part.0 P Mid → Answered source old Word Follow
    of (inl takes) = more part.0 (leaves_fewer some takes) (step goes takes apart)
    of (inr refused) = (part.0, inr (refused.0, refused.1, stopped goes refused.2 apart))
