-- From step to step, what is left of a word of a part.
use Rattle.std.proofs.Common.{◌≢◌, ◌≡◌, ℕ, zero, suc, ◌+◌, ◌<◌, ◌≤◌, Option, None, Some, IfSome, Result, Ok, Err, IsErr}
use Rattle.std.proofs.Common.{IsErrAnd, List, [], ◌∷◌, ◌++◌, drop, length, map, get_or, append_assoc, append-nil, refl}
use Rattle.std.proofs.Common.{sym, ap, ◌∙◌, subst, arith}
use Rattle.std.proofs.lemmas.List.{drop-drop, map-append}
use Rattle.std.proofs.lemmas.Option.{slice_get-get_or}
use Rattle.kw_bits.specs.BitVector.{BitVector}
use Rattle.std.specs.Bool.{⊤}
use Rattle.std.specs.List.{AllZip}
use Rattle.std.specs.Prelude.{slice_get, slice_range, Bool, false, IsTrue, ◌↔◌}
use Rattle.std.specs.Option.{option_map}
use Rattle.koika_syntax.specs.Tree.{Leaf, Terminal, name, number, literal, keyword, symbol, word, sign, placed, terminal_of, IsLeafAt}
use Rattle.koika_syntax.specs.declared.keyword.Keyword.{Keyword}
use Rattle.koika_syntax.specs.declared.symbol.Symbol.{Symbol}
use Rattle.koika_syntax.specs.declared.token.Token.{Token}
use Rattle.koika_syntax.specs.declared.token.TokenKind.{TokenKind}
use Rattle.koika_syntax.specs.declared.token.TokenKind.TheVariants as kinds
use Rattle.koika_parse.specs.Brackets.{AreFewOpen, open_behind}
use Rattle.koika_parse.specs.inner.Expected.{Part, One, Then, first, Any, Behind, AgreesUpTo, Leaves, Ends, Spot, StandAt, spots_of, Front, Leads, Takes}
use Rattle.koika_parse.proofs.Reading.{in_turn, tokens_in_turn, zip_append}
use Rattle.koika_parse.specs.inner.Reading.{Reads, next, kind_at, token_at}
use Rattle.koika_parse.specs.declared.cursor.Cursor.{Cursor}
use Rattle.koika_parse.specs.declared.source.Source.{Source}
use Rattle.koika_parse.specs.inner.Stops.{Stop}
use Rattle.kw_bits.specs.declared.failure.Failure.TheVariants as failures
use Rattle.koika_parse.specs.declared.stop.Unread.TheVariants as unread

infixr 35 ◌⨾◌
-- a set of words
abbrev pub Language : Type 1
Language = List Leaf → Type 0

-- what the next token may be
abbrev pub Lookahead : Type 1
Lookahead = Option Terminal → Type 0

-- the same leaves begin with the same token
pub same_first : {l m : List Leaf} (v : List Leaf) → l ≡ m → first (l ++ v) ≡ first (m ++ v)
same_first v same = ap (λ l. first (l ++ v)) same

-- no token
abbrev pub Empty : Language
Empty u = u ≡ []

-- a language has a word
abbrev pub Has : Language → Type 0
Has P = (q : List Leaf) × P q

-- words of one token, and of a part of a tree
abbrev pub a_placed : (terminal : Terminal) (place : ℕ) → Has (One terminal)
a_placed terminal place = (placed terminal place, (_, refl, refl))

abbrev pub a_word : (k : Keyword) → Has (One (keyword k))
a_word k = (word k, (_, refl, refl))

abbrev pub a_sign : (s : Symbol) → Has (One (symbol s))
a_sign s = (sign s, (_, refl, refl))

abbrev pub a_part : {X : Type 0} {Is : X → Type 0} {leaves : X → List Leaf} (x : X) → Is x → Has (Part Is leaves)
a_part {leaves = leaves} x is = (leaves x, (x, is, refl))

-- a word of one part, and then one of another
abbrev pub ◌⨾◌ : {P Q : Language} → Has P → Has Q → Has (Then P Q)
p ⨾ q = (p.0 ++ q.0, (p.0, q.0, p.1, q.1, refl))

-- the same word, otherwise written
pub word_as : (P : Language) {u : List Leaf} (word : Has P) → u ≡ word.0 → P u
word_as P word same = subst P (sym same) word.1

-- leaves at the places that they say, and at 0 where they say none
abbrev pub place_or : Option ℕ → ℕ
place_or None = 0
place_or (Some place) = place

abbrev pub spots_in : List Leaf → List Spot
spots_in leaves = map (λ leaf. record { terminal = leaf.terminal; place = place_or leaf.place }) leaves

pub stand_in : (leaves : List Leaf) → StandAt leaves (spots_in leaves)
stand_in [] = tt
stand_in (leaf ∷ leaves) = ((refl, said leaf.place), stand_in leaves)
  where
    said : (o : Option ℕ) → IfSome o (λ place. place ≡ place_or o)
    said None = tt
    said (Some place) = refl

-- leaves of tokens stand where these do
pub stand_tokens : (text : List ℕ) (leaves : List Leaf) (tokens : List Token) → AllZip (IsLeafAt text) leaves tokens → StandAt leaves (spots_of text tokens)
stand_tokens text [] [] each = tt
stand_tokens text [] (token ∷ tokens) each = each
stand_tokens text (leaf ∷ leaves) [] each = each
stand_tokens text (leaf ∷ leaves) (token ∷ tokens) each = (each.0, stand_tokens text leaves tokens each.1)

-- leaves of two parts, and the tokens of each
pub stand_append : (a b : List Leaf) (x y : List Spot) → StandAt a x → StandAt b y → StandAt (a ++ b) (x ++ y)
stand_append a b x y p q = zip_append (λ leaf spot. (leaf.terminal ≡ spot.terminal) × IfSome leaf.place (λ place. place ≡ spot.place)) a b x y p q

pub stand_split : (a b : List Leaf) (spots : List Spot) → StandAt (a ++ b) spots → (x y : List Spot) × StandAt a x × StandAt b y × (spots ≡ x ++ y)
stand_split [] b spots stand = ([], spots, tt, stand, refl)
stand_split (leaf ∷ a) b [] stand = absurd stand
stand_split (leaf ∷ a) b (spot ∷ spots) stand = let cut = stand_split a b spots stand.1 in (spot ∷ cut.0, cut.1, (stand.0, cut.2), cut.3, ap (λ t. spot ∷ t) cut.4)

-- a word of the language stands there
abbrev pub Found : Language → List Spot → Type 0
Found Q spots = (r : List Leaf) × Q r × StandAt r spots

-- wherever these leaves stand, a word of the language does
abbrev pub Kept : Language → Language
Kept Q q = (spots : List Spot) → StandAt q spots → Found Q spots

-- wherever a word of the one language stands, one of the other does
abbrev pub Within : (P Q : Language) → Type 0
Within P Q = (q : List Leaf) → P q → Kept Q q

-- wherever the second leaves stand, the first do
abbrev pub Same : List Leaf → List Leaf → Type 0
Same a b = (spots : List Spot) → StandAt b spots → StandAt a spots

pub kept : {Q : Language} (q r : List Leaf) → Q r → Same r q → Kept Q q
kept q r word same spots stand = (r, word, same spots stand)

pub has_within : {P Q : Language} → Within P Q → Has P → Has Q
has_within within some = let found = within some.0 some.1 (spots_in some.0) (stand_in some.0) in (found.0, found.1)

-- of a word of the language such a word is left, and what has been read and any such word are a word of the language
pub record Goes (source : Source) (old new : Cursor) (Word : Language) (Follow : Lookahead) (Rest : Language) : Type 0 where
  pub forward : old.at ≤ new.at
  pub left : (w u v : List Leaf) → AgreesUpTo source new w → Word u → Behind Follow v → drop old.at w ≡ u ++ v → (rest : List Leaf) × Rest rest × Leaves old new w (u ++ v) (rest ++ v)
  pub read : List Leaf
  pub reads : Reads source old new read
  pub some : Has Rest
  pub back : (q : List Leaf) → Rest q → (spots : List Spot) → StandAt q spots → Found Word (spots_of source.text.now reads.tokens ++ spots)

-- the same tokens, part by part
pub same_of : {a b : List Leaf} → a ≡ b → Same a b
same_of same spots stand = subst (λ l. StandAt l spots) (sym same) stand

pub same_again : (a b c : List Leaf) → Same a b → Same b c → Same a c
same_again a b c p q spots stand = p spots (q spots stand)

pub same_append : (a a' b b' : List Leaf) → Same a a' → Same b b' → Same (a ++ b) (a' ++ b')
same_append a a' b b' p q spots stand =
    let cut = stand_split a' b' spots stand in
    subst (StandAt (a ++ b)) (sym cut.4) (stand_append a b cut.0 cut.1 (p cut.0 cut.2) (q cut.1 cut.3))

-- a word stands behind what is read in turn
stand_in_turn : {source : Source} {old mid new : Cursor} {xs ys : List Leaf} (p : Reads source old mid xs) (q : Reads source mid new ys) (word : List Leaf) (rest : List Spot) →
    StandAt word (spots_of source.text.now p.tokens ++ (spots_of source.text.now q.tokens ++ rest)) → StandAt word (spots_of source.text.now (in_turn p q).tokens ++ rest)
stand_in_turn {source} p q word rest stand =
    let spot = λ (token : Token). let s : Spot = record { terminal = terminal_of source.text.now token; place = token.start } in s in
    let both = ap (λ t. map spot t ++ rest) (tokens_in_turn p q) ∙ ap (λ t. t ++ rest) (map-append spot p.tokens q.tokens) in
    subst (StandAt word) (sym (both ∙ append_assoc (map spot p.tokens) (map spot q.tokens) rest)) stand

-- a part of a word that is read to its end, or not
front_then : {source : Source} {old mid new : Cursor} {Word : Language} {Follow : Lookahead} {P Q : Language} →
    Goes source old mid Word Follow (Then P Q) → (rest : List Spot) → Front source mid new P rest → (b : List Leaf) →
    Q b → (spots : List Spot) → StandAt b spots → Front source old new Word (rest ++ spots)
front_then {source} goes rest front b q spots stand =
    let text = source.text.now in
    let tokens = front.reads.tokens in
    let before = spots_of text tokens ++ rest in
    let both = stand_append front.whole b before spots front.stands stand in
    let found = goes.back (front.whole ++ b) (front.whole, b, front.word, q, refl) (before ++ spots) both in
    let again = subst (λ t. StandAt found.0 (spots_of text goes.reads.tokens ++ t)) (append_assoc (spots_of text tokens) rest spots) found.2 in
    record {
      read = goes.read ++ front.read;
      reads = in_turn goes.reads front.reads;
      whole = found.0;
      word = found.1;
      stands = stand_in_turn goes.reads front.reads found.0 (rest ++ spots) again;
    }

front_last : {source : Source} {old mid new : Cursor} {Word : Language} {Follow : Lookahead} {P : Language} →
    Goes source old mid Word Follow P → (rest : List Spot) → Front source mid new P rest → Front source old new Word rest
front_last {source} goes rest front =
    let found = goes.back front.whole front.word (spots_of source.text.now front.reads.tokens ++ rest) front.stands in
    record { read = goes.read ++ front.read; reads = in_turn goes.reads front.reads; whole = found.0; word = found.1; stands = stand_in_turn goes.reads front.reads found.0 rest found.2 }

front_here : {source : Source} {old new : Cursor} {Word : Language} {Follow : Lookahead} {P : Language} →
    Goes source old new Word Follow P → (q : List Leaf) → P q → (rest : List Spot) → StandAt q rest → Front source old new Word rest
front_here goes q word rest stand = let found = goes.back q word rest stand in record { read = goes.read; reads = goes.reads; whole = found.0; word = found.1; stands = found.2 }

leads_then : (X Y : Type 0) {source : Source} {old mid : Cursor} (new : Cursor) {Word : Language} {Follow : Lookahead} {P Q : Language} (stop : Stop) →
    Goes source old mid Word Follow (Then P Q) → Leads {X = X} source mid new P (Err stop) → Leads {X = Y} source old new Word (Err stop)
leads_then X Y new (failures.Why unread.Unexpected) goes leads =
    let b = goes.some.1.1 in
    (leads.0 ++ spots_in b, front_then goes leads.0 leads.1 b goes.some.1.3 (spots_in b) (stand_in b))
leads_then X Y new (failures.Why unread.TooDeep) goes leads =
    let b = goes.some.1.1 in
    (leads.0, leads.1 ++ spots_in b, front_then goes (leads.0 ∷ leads.1) leads.2 b goes.some.1.3 (spots_in b) (stand_in b), leads.3, leads.4)
leads_then X Y new failures.NoMemory goes leads = tt

leads_last : (X Y : Type 0) {source : Source} {old mid : Cursor} (new : Cursor) {Word : Language} {Follow : Lookahead} {P : Language} (stop : Stop) →
    Goes source old mid Word Follow P → Leads {X = X} source mid new P (Err stop) → Leads {X = Y} source old new Word (Err stop)
leads_last X Y new (failures.Why unread.Unexpected) goes leads = (leads.0, front_last goes leads.0 leads.1)
leads_last X Y new (failures.Why unread.TooDeep) goes leads = (leads.0, leads.1, front_last goes (leads.0 ∷ leads.1) leads.2, leads.3, leads.4)
leads_last X Y new failures.NoMemory goes leads = tt

-- nothing has been read
abbrev none_read : (source : Source) (cursor : Cursor) → Reads source cursor cursor []
none_read source cursor = record { tokens = []; split = refl; each = tt; left = omega arith; depth = refl; few = λ low. tt }

before : (source : Source) (mid new : Cursor) (w : List Leaf) → mid.at ≤ new.at → AgreesUpTo source new w → AgreesUpTo source mid w
before source mid new w low agrees = λ cursor at. agrees cursor (omega (arith, low, at))

-- what may stand behind a part, where another part and then such a token follows
abbrev pub Apart : (Q : Language) (Follow Mid : Lookahead) → Type 0
Apart Q Follow Mid = (q v : List Leaf) → Q q → Behind Follow v → Behind Mid (q ++ v)

pub free : (Q : Language) (Follow : Lookahead) → Apart Q Follow Any
free Q Follow q v is behind = tt

-- before anything is read
pub start : {source : Source} {cursor : Cursor} {Word : Language} {Follow : Lookahead} {Rest : Language} → ((u : List Leaf) → Word u → Rest u) → Has Rest → Within Rest Word →
    Goes source cursor cursor Word Follow Rest
start {source} {cursor} into some back = record {
  forward = omega arith;
  left = λ w u v agrees word behind here. (u, into u word, record { rest = here; few = λ few. few });
  read = [];
  reads = none_read source cursor;
  some = some;
  back = back;
}

pub begin : {source : Source} {cursor : Cursor} {Follow : Lookahead} (Word : Language) → Has Word → Goes source cursor cursor Word Follow Word
begin Word some = start (λ u word. word) some (λ q word spots stand. (q, word, stand))

-- what is left stands behind a part more
front_then_stands :
    {source : Source} {old mid new : Cursor} {Word : Language} {Follow : Lookahead} {P Q : Language}
    (goes : Goes source old mid Word Follow (Then P Q)) (front : Front source mid new P []) →
    (q : List Leaf) → Q q → (spots : List Spot) → StandAt q spots → Found Word (spots_of source.text.now (in_turn goes.reads front.reads).tokens ++ spots)
unfolding front_then
front_then_stands goes front q word spots stand = let found = front_then goes [] front q word spots stand in (found.whole, found.word, found.stands)

-- a part more
pub step : {X : Type 0} {source : Source} {old mid new : Cursor} {Word : Language} {Follow Mid : Lookahead} {P Q : Language} {x : X} →
    Goes source old mid Word Follow (Then P Q) → Takes source mid new P Mid (Ok x) → Apart Q Follow Mid → Goes source old new Word Follow Q
step {X} {source} {old} {mid} {new} {Word} {Follow} {Mid} {P} {Q} {x} goes takes apart = record {
  forward = omega (arith, goes.forward, takes.forward);
  left = λ w u v agrees word behind here.
      let found = goes.left w u v (before source mid new w takes.forward agrees) word behind here in
      let a = found.1.0 in
      let q = found.1.1 in
      let same : found.0 ++ v ≡ a ++ (q ++ v) = ap (λ r. r ++ v) found.1.4 ∙ append_assoc a q v in
      let end : Leaves mid new w (a ++ (q ++ v)) (q ++ v) = takes.takes w a (q ++ v) agrees found.1.2 (apart q v found.1.3 behind) (found.2.rest ∙ same) in
      (q, found.1.3, record { rest = end.rest; few = λ few. end.few (subst (AreFewOpen mid.depth) same (found.2.few few)) });
  read = goes.read ++ takes.leads.read;
  reads = in_turn goes.reads takes.leads.reads;
  some = (goes.some.1.1, goes.some.1.3);
  back = λ q word spots stand. front_then_stands goes takes.leads q word spots stand;
}

ends_as : (X Y : Type 0) (stop : Stop) (few few' left left' : Type 0) → (few' → few) → Ends {X = X} (Err stop) few left → Ends {X = Y} (Err stop) few' left'
ends_as X Y (failures.Why unread.Unexpected) few few' left left' fewer ends = ends
ends_as X Y (failures.Why unread.TooDeep) few few' left left' fewer ends = λ f. ends (fewer f)
ends_as X Y failures.NoMemory few few' left left' fewer ends = tt

-- a part that isn't read
pub stopped : {X Y : Type 0} {source : Source} {old mid new : Cursor} {Word : Language} {Follow Mid : Lookahead} {P Q : Language} {stop : Stop} →
    Goes source old mid Word Follow (Then P Q) → Takes {X = X} source mid new P Mid (Err stop) → Apart Q Follow Mid → Takes {X = Y} source old new Word Follow (Err stop)
stopped {X} {Y} {source} {old} {mid} {new} {Word} {Follow} {Mid} {P} {Q} {stop} goes takes apart = record {
  forward = omega (arith, goes.forward, takes.forward);
  takes = λ w u v agrees word behind here.
      let found = goes.left w u v (before source mid new w takes.forward agrees) word behind here in
      let a = found.1.0 in
      let q = found.1.1 in
      let same : found.0 ++ v ≡ a ++ (q ++ v) = ap (λ r. r ++ v) found.1.4 ∙ append_assoc a q v in
      ends_as X Y stop _ _ _ _ (λ few. subst (AreFewOpen mid.depth) same (found.2.few few)) (takes.takes w a (q ++ v) agrees found.1.2 (apart q v found.1.3 behind) (found.2.rest ∙ same));
  leads = leads_then X Y new stop goes takes.leads;
}

-- all of it has been read
pub finish : {X : Type 0} {source : Source} {old new : Cursor} {Word : Language} {Follow : Lookahead} (x : X) → Goes source old new Word Follow Empty → Takes source old new Word Follow (Ok x)
finish {X} {source} {old} {new} x goes = record {
  forward = goes.forward;
  takes = λ w u v agrees word behind here.
      let found = goes.left w u v agrees word behind here in
      subst (λ r. Leaves old new w (u ++ v) (r ++ v)) found.1 found.2;
  leads = front_here goes [] refl [] tt;
}

-- what is left is a word of this language where the next token is what it begins with
abbrev pub NextTells : Source → Cursor → Lookahead → (Rest To : Language) → Type 0
NextTells source new Follow Rest To = (r v : List Leaf) → Rest r → Behind Follow v → first (r ++ v) ≡ next source new → To r

-- the next token tells what is left
pub narrow : {source : Source} {old new : Cursor} {Word : Language} {Follow : Lookahead} {Rest Narrower : Language} →
    Goes source old new Word Follow Rest → NextTells source new Follow Rest Narrower → Has Narrower → Within Narrower Rest → Goes source old new Word Follow Narrower
narrow {source} {old} {new} goes tells some within = record {
  forward = goes.forward;
  left = λ w u v agrees word behind here.
      let found = goes.left w u v agrees word behind here in
      (found.0, tells found.0 v found.1 behind (sym (ap first found.2.rest) ∙ agrees new (omega arith)), found.2);
  read = goes.read;
  reads = goes.reads;
  some = some;
  back = λ q word spots stand. let rest = within q word spots stand in goes.back rest.0 rest.1 spots rest.2;
}

-- the next token cannot be
pub refused : {Y : Type 0} {source : Source} {old new : Cursor} {Word : Language} {Follow : Lookahead} {Rest : Language} →
    Goes source old new Word Follow Rest → NextTells source new Follow Rest (λ r. ⊥) → Takes {X = Y} source old new Word Follow (Err (failures.Why unread.Unexpected))
refused {Y} {source} {old} {new} goes tells = record {
  forward = goes.forward;
  takes = λ w u v agrees word behind here.
      let found = goes.left w u v agrees word behind here in
      tells found.0 v found.1 behind (sym (ap first found.2.rest) ∙ agrees new (omega arith));
  leads = (spots_in goes.some.0, front_here goes goes.some.0 goes.some.1 (spots_in goes.some.0) (stand_in goes.some.0));
}

-- the last part, and what is made of it
pub last : {X Y : Type 0} {source : Source} {old mid new : Cursor} {Word : Language} {Follow Mid : Lookahead} {P : Language} {x : X} (y : Y) →
    Goes source old mid Word Follow P → Takes source mid new P Mid (Ok x) → ((v : List Leaf) → Behind Follow v → Behind Mid v) → Takes source old new Word Follow (Ok y)
last {X} {Y} {source} {old} {mid} {new} {Word} {Follow} {Mid} {P} {x} y goes takes apart = record {
  forward = omega (arith, goes.forward, takes.forward);
  takes = λ w u v agrees word behind here.
      let found = goes.left w u v (before source mid new w takes.forward agrees) word behind here in
      let end : Leaves mid new w (found.0 ++ v) v = takes.takes w found.0 v agrees found.1 (apart v behind) found.2.rest in
      record { rest = end.rest; few = λ few. end.few (found.2.few few) };
  leads = front_last goes [] takes.leads;
}

pub last_stopped : {X Y : Type 0} {source : Source} {old mid new : Cursor} {Word : Language} {Follow Mid : Lookahead} {P : Language} {stop : Stop} →
    Goes source old mid Word Follow P → Takes {X = X} source mid new P Mid (Err stop) → ((v : List Leaf) → Behind Follow v → Behind Mid v) → Takes {X = Y} source old new Word Follow (Err stop)
last_stopped {X} {Y} {source} {old} {mid} {new} {Word} {Follow} {Mid} {P} {stop} goes takes apart = record {
  forward = omega (arith, goes.forward, takes.forward);
  takes = λ w u v agrees word behind here.
      let found = goes.left w u v (before source mid new w takes.forward agrees) word behind here in
      ends_as X Y stop _ _ _ _ (λ few. found.2.few few) (takes.takes w found.0 v agrees found.1 (apart v behind) found.2.rest);
  leads = leads_last X Y new stop goes takes.leads;
}

-- what any token may follow
pub free_last : (Follow : Lookahead) (v : List Leaf) → Behind Follow v → Behind Any v
free_last Follow v behind = tt

-- a result is this stop
abbrev pub StopsBy : {Y : Type 0} → Stop → Result Y Stop → Type 0
StopsBy stop result = IsErr result × IsErrAnd result (λ found. found ≡ stop)

-- a stop that is handed on
pub handed : {Y : Type 0} {source : Source} {old new : Cursor} {Word : Language} {Follow : Lookahead} {stop : Stop} (result : Result Y Stop) →
    StopsBy stop result → Takes {X = Y} source old new Word Follow (Err stop) → Takes source old new Word Follow result
handed {Y} {source} {old} {new} {Word} {Follow} (Ok y) is takes = absurd is.1
handed {Y} {source} {old} {new} {Word} {Follow} (Err found) is takes = subst (λ s. Takes {X = Y} source old new Word Follow (Err s)) (sym is.1) takes

or_this : {A : Type 0} → A → Option A → A
or_this d None = d
or_this d (Some x) = x

pub same_of_some : {A : Type 0} {x y : A} → Some x ≡ Some y → x ≡ y
unfolding or_this
same_of_some {A} {x} {y} e = ap (or_this x) e

IsOne : {A : Type 0} → Option A → Type 0
IsOne None = ⊥
IsOne (Some x) = ⊤

pub never_none : {A : Type 0} {x : A} → None ≡ Some x → ⊥
unfolding IsOne
never_none e = subst IsOne (sym e) tt

-- words of one token each, where the next token is known
pub single : {X : Type 0} {source : Source} {cursor : Cursor} {Is : X → Type 0} {leaves : X → List Leaf} {terminal : Terminal} (leaf : X → Leaf) →
    ((x : X) → leaves x ≡ leaf x ∷ []) → (x : ℕ → X) → ((place : ℕ) → Is (x place)) →
    ((place : ℕ) → (leaf (x place)).terminal ≡ terminal) → ((place : ℕ) → (leaf (x place)).place ≡ Some place) →
    next source cursor ≡ Some terminal →
    Goes source cursor cursor (Part Is leaves) Any (One terminal)
single {X} {source} {cursor} {Is} {leaves} {terminal} leaf each x is one placed at =
    narrow (begin {source = source} {cursor = cursor} {Follow = Any} (Part Is leaves) (leaves (x 0), (x 0, is 0, refl))) told
    (leaf (x 0) ∷ [], (leaf (x 0), one 0, refl)) (λ q word spots stand. at_spot word.0 word.1 spots (subst (λ l. StandAt l spots) word.2 stand))
  where
    told : NextTells source cursor Any (Part Is leaves) (One terminal)
    told r v word behind next_is =
        let only = word.2 ∙ each word.0 in
        (leaf word.0, same_of_some (sym (same_first v only) ∙ next_is ∙ at), only)

    at_spot : (l : Leaf) → l.terminal ≡ terminal → (spots : List Spot) → StandAt (l ∷ []) spots → Found (Part Is leaves) spots
    at_spot l same [] stand = absurd stand
    at_spot l same (spot ∷ spots) stand =
        let y = x spot.place in
        let at_place : IfSome (leaf y).place (λ place. place ≡ spot.place) = subst (λ o. IfSome o (λ place. place ≡ spot.place)) (sym (placed spot.place)) refl in
        let stands : StandAt (leaf y ∷ []) (spot ∷ spots) = ((one spot.place ∙ sym same ∙ stand.0.0, at_place), stand.1) in
        (leaves y, (y, is spot.place, refl), subst (λ ls. StandAt ls (spot ∷ spots)) (sym (each y)) stands)

-- a token has a kind
abbrev pub kind_of : Terminal → TokenKind
kind_of (name bytes) = kinds.Name
kind_of (number n) = kinds.Number n
kind_of (literal bits) = kinds.Literal bits
kind_of (keyword k) = kinds.Keyword k
kind_of (symbol s) = kinds.Symbol s

pub kind_of_next : (source : Source) (cursor : Cursor) → option_map kind_of (next source cursor) ≡ kind_at source cursor
kind_of_next source cursor = of_token (token_at source cursor)
  where
    of_kind : (kind : TokenKind) (start end : ℕ) → kind_of (terminal_of source.text.now (record { kind = kind; start = start; end = end })) ≡ kind
    of_kind kinds.Name start end = refl
    of_kind (kinds.Number n) start end = refl
    of_kind (kinds.Literal bits) start end = refl
    of_kind (kinds.Keyword k) start end = refl
    of_kind (kinds.Symbol s) start end = refl

    of_token : (token : Option Token) → option_map kind_of (option_map (terminal_of source.text.now) token) ≡ option_map (λ t. t.kind) token
    of_token None = refl
    of_token (Some token) = ap Some (of_kind token.kind token.start token.end)

-- where there is a kind, there is a token
pub some_next : (source : Source) (cursor : Cursor) {kind : TokenKind} → kind_at source cursor ≡ Some kind → (terminal : Terminal) × (next source cursor ≡ Some terminal)
some_next source cursor {kind} at = of_next (next source cursor) (kind_of_next source cursor ∙ at)
  where
    of_next : (o : Option Terminal) → option_map kind_of o ≡ Some kind → (terminal : Terminal) × (o ≡ Some terminal)
    of_next None e = absurd (never_none e)
    of_next (Some terminal) e = (terminal, refl)

-- where there is a token, it is one of the text's
pub within : (source : Source) (cursor : Cursor) {terminal : Terminal} → next source cursor ≡ Some terminal → cursor.at < length source.tokens.now
within source cursor {terminal} at = of source.tokens.now cursor.at at
  where
    of : (tokens : List Token) (i : ℕ) → option_map (terminal_of source.text.now) (slice_get tokens i) ≡ Some terminal → i < length tokens
    of [] zero e = absurd (never_none e)
    of [] (suc i) e = absurd (never_none e)
    of (token ∷ tokens) zero e = omega arith
    of (token ∷ tokens) (suc i) e = omega (arith, of tokens i e)

-- the kind of the next token
pub kind_is : (source : Source) (cursor : Cursor) {terminal : Terminal} → Some terminal ≡ next source cursor → kind_at source cursor ≡ Some (kind_of terminal)
kind_is source cursor at = sym (kind_of_next source cursor) ∙ ap (option_map kind_of) (sym at)

-- one token is read
pub one_takes :
    {X : Type 0} {source : Source} {old new : Cursor} {terminal : Terminal} {place : ℕ} (x : X) → new.at ≡ old.at + 1 →
    Reads source old new (placed terminal place) → Takes source old new (One terminal) Any (Ok x)
one_takes {X} {source} {old} {new} {terminal} {place} x forward reads = record {
  forward = omega (arith, forward);
  takes = λ w u v agrees one behind here.
      let front : drop old.at w ≡ one.0 ∷ v = here ∙ ap (λ l. l ++ v) one.2 in
      let depth : open_behind old.depth one.0.terminal ≡ new.depth = ap (open_behind old.depth) one.1 ∙ sym reads.depth in
      record {
        rest = ap (λ n. drop n w) forward ∙ sym (drop-drop 1 old.at w) ∙ ap (drop 1) front;
        few = λ few. subst (λ d. AreFewOpen d v) depth (subst (AreFewOpen old.depth) (ap (λ l. l ++ v) one.2) few).1;
      };
  leads = record {
    read = placed terminal place;
    reads = reads;
    whole = placed terminal place;
    word = (_, refl, refl);
    stands = subst (StandAt (placed terminal place)) (sym (append-nil (spots_of source.text.now reads.tokens))) (stand_tokens source.text.now (placed terminal place) reads.tokens reads.each);
  };
}

-- the same, where any token may follow the part
pub next_part : {X : Type 0} {source : Source} {old mid new : Cursor} {Word : Language} {Follow : Lookahead} {P Q : Language} {x : X} →
    Goes source old mid Word Follow (Then P Q) → Takes source mid new P Any (Ok x) → Goes source old new Word Follow Q
next_part {Follow = Follow} {Q = Q} goes takes = step goes takes (free Q Follow)

pub last_part : {X Y : Type 0} {source : Source} {old mid new : Cursor} {Word : Language} {Follow : Lookahead} {P : Language} {x : X} (y : Y) →
    Goes source old mid Word Follow P → Takes source mid new P Any (Ok x) → Takes source old new Word Follow (Ok y)
last_part {Follow = Follow} y goes takes = last y goes takes (free_last Follow)

-- a part isn't read, and that is handed on
pub fails_before : {X Y : Type 0} {source : Source} {old mid new : Cursor} {Word : Language} {Follow Mid : Lookahead} {P Q : Language} {stop : Stop} (result : Result Y Stop) →
    StopsBy stop result → Goes source old mid Word Follow (Then P Q) → Takes {X = X} source mid new P Mid (Err stop) → Apart Q Follow Mid → Takes source old new Word Follow result
fails_before result is goes takes apart = handed result is (stopped goes takes apart)

pub fails : {X Y : Type 0} {source : Source} {old mid new : Cursor} {Word : Language} {Follow : Lookahead} {P Q : Language} {stop : Stop} (result : Result Y Stop) →
    StopsBy stop result → Goes source old mid Word Follow (Then P Q) → Takes {X = X} source mid new P Any (Err stop) → Takes source old new Word Follow result
fails {Follow = Follow} {Q = Q} result is goes takes = fails_before result is goes takes (free Q Follow)

pub fails_last : {X Y : Type 0} {source : Source} {old mid new : Cursor} {Word : Language} {Follow : Lookahead} {P : Language} {stop : Stop} (result : Result Y Stop) →
    StopsBy stop result → Goes source old mid Word Follow P → Takes {X = X} source mid new P Any (Err stop) → Takes source old new Word Follow result
fails_last {Follow = Follow} result is goes takes = handed result is (last_stopped goes takes (free_last Follow))

-- the words of a part, as their own parts
pub starts : {X : Type 0} {source : Source} {cursor : Cursor} {Is : X → Type 0} {leaves : X → List Leaf} {Follow : Lookahead} (Rest : Language) →
    ((x : X) → Is x → Rest (leaves x)) → Has Rest → Within Rest (Part Is leaves) → Goes source cursor cursor (Part Is leaves) Follow Rest
starts Rest parts some made = start (λ u word. subst Rest (sym word.2) (parts word.0 word.1)) some made

-- what is left is read by another reader
pub tail : {X : Type 0} {source : Source} {old mid new : Cursor} {Word : Language} {Follow Mid : Lookahead} {P : Language} (result : Result X Stop) →
    Goes source old mid Word Follow P → Takes source mid new P Mid result → ((v : List Leaf) → Behind Follow v → Behind Mid v) → Takes source old new Word Follow result
tail (Ok x) goes takes apart = last x goes takes apart
tail (Err stop) goes takes apart = last_stopped goes takes apart

-- a part that begins with a known token
pub before_one : (Follow Mid : Lookahead) (terminal : Terminal) → Mid (Some terminal) → Apart (One terminal) Follow Mid
before_one Follow Mid terminal mid q v one behind = subst (λ l. Behind Mid (l ++ v)) (sym one.2) (subst (λ t. Mid (Some t)) (sym one.1) mid)

pub before_one_then : (Q : Language) (Follow Mid : Lookahead) (terminal : Terminal) → Mid (Some terminal) → Apart (Then (One terminal) Q) Follow Mid
before_one_then Q Follow Mid terminal mid q v both behind = subst (λ l. Behind Mid (l ++ v)) (sym (both.4 ∙ ap (λ l. l ++ both.1) both.2.2)) (subst (λ t. Mid (Some t)) (sym both.2.1) mid)

-- the last part isn't read, and that is handed on
pub fails_last_as : {X Y : Type 0} {source : Source} {old mid new : Cursor} {Word : Language} {Follow Mid : Lookahead} {P : Language} {stop : Stop} (result : Result Y Stop) →
    StopsBy stop result → Goes source old mid Word Follow P → Takes {X = X} source mid new P Mid (Err stop) →
    ((v : List Leaf) → Behind Follow v → Behind Mid v) → Takes source old new Word Follow result
fails_last_as result is goes takes apart = handed result is (last_stopped goes takes apart)

-- what is left, said otherwise
pub goes_as : {source : Source} {old new : Cursor} {Word : Language} {Follow : Lookahead} {Rest Other : Language} →
    Goes source old new Word Follow Rest → ((r : List Leaf) → Rest r → Other r) → Has Other → Within Other Rest → Goes source old new Word Follow Other
goes_as goes other some within = narrow goes (λ r v word behind next_is. other r word) some within

pub name_of : (t : Terminal) → kind_of t ≡ kinds.Name → (bytes : List ℕ) × (t ≡ name bytes)
name_of (name bytes) e = (bytes, refl)
name_of _ e = cc e

pub named_terminal : (text : List ℕ) (token : Token) → token.kind ≡ kinds.Name → name (slice_range text token.start token.end) ≡ terminal_of text token
named_terminal text token named = sym (ap (λ kind. terminal_of text (record { kind = kind; start = token.start; end = token.end })) named)

pub literal_kind :
    (source : Source) (cursor : Cursor) (d : Token) {kind : TokenKind} → cursor.at < length source.tokens.now →
    kind_at source cursor ≡ Some kind → (get_or source.tokens.now cursor.at d).kind ≡ kind
literal_kind source cursor d within at = same_of_some (sym (ap (option_map (λ t. t.kind)) (slice_get-get_or source.tokens.now cursor.at d within)) ∙ at)

-- a part by the next token
pub narrow_part : {X : Type 0} {source : Source} {cursor : Cursor} {Is : X → Type 0} {leaves : X → List Leaf} {Follow : Lookahead} (P : Language) →
    ((x : X) → Is x → (v : List Leaf) → first (leaves x ++ v) ≡ next source cursor → P (leaves x)) → Has P → Within P (Part Is leaves) → Goes source cursor cursor (Part Is leaves) Follow P
narrow_part {X} {source} {cursor} {Is} {leaves} {Follow} P tells some within =
    narrow (begin {source = source} {cursor = cursor} {Follow = Follow} (Part Is leaves) (has_within within some))
    (λ r v word behind next_is. subst P (sym word.2) (tells word.0 word.1 v (same_first v (sym word.2) ∙ next_is))) some within

-- tokens of two kinds differ
terminal_tag : Terminal → ℕ
terminal_tag (name bytes) = 0
terminal_tag (number n) = 1
terminal_tag (literal bits) = 2
terminal_tag (keyword k) = 3
terminal_tag (symbol s) = 4

kind_tag : TokenKind → ℕ
kind_tag kinds.Name = 0
kind_tag (kinds.Number n) = 1
kind_tag (kinds.Literal bits) = 2
kind_tag (kinds.Keyword k) = 3
kind_tag (kinds.Symbol s) = 4

pub name_or_word : {bytes : List ℕ} {k : Keyword} → Some (name bytes) ≡ Some (keyword k) → ⊥
unfolding terminal_tag
name_or_word e = omega (arith, ap terminal_tag (same_of_some e))

pub sign_or_word : {s : Symbol} {k : Keyword} → Some (symbol s) ≡ Some (keyword k) → ⊥
unfolding terminal_tag
sign_or_word e = omega (arith, ap terminal_tag (same_of_some e))

pub literal_or_sign : {bits : BitVector} {s : Symbol} → Some (literal bits) ≡ Some (symbol s) → ⊥
unfolding terminal_tag
literal_or_sign e = omega (arith, ap terminal_tag (same_of_some e))

pub name_or_sign : {bytes : List ℕ} {s : Symbol} → Some (name bytes) ≡ Some (symbol s) → ⊥
unfolding terminal_tag
name_or_sign e = omega (arith, ap terminal_tag (same_of_some e))

pub word_or_name : {k : Keyword} → Some (kinds.Keyword k) ≡ Some kinds.Name → ⊥
unfolding kind_tag
word_or_name e = omega (arith, ap kind_tag (same_of_some e))

pub sign_or_name : {s : Symbol} → Some (kinds.Symbol s) ≡ Some kinds.Name → ⊥
unfolding kind_tag
sign_or_name e = omega (arith, ap kind_tag (same_of_some e))

pub literal_or_name : {bits : BitVector} → Some (kinds.Literal bits) ≡ Some kinds.Name → ⊥
unfolding kind_tag
literal_or_name e = omega (arith, ap kind_tag (same_of_some e))

-- the token is that one
pub takes_word :
    {X : Type 0} {source : Source} {old new : Cursor} {Follow : Lookahead} {result : Result X Stop} {a b : Keyword} →
    a ≡ b → Takes source old new (One (keyword a)) Follow result → Takes source old new (One (keyword b)) Follow result
takes_word {X} {source} {old} {new} {Follow} {result} same takes = subst (λ k. Takes source old new (One (keyword k)) Follow result) same takes

pub takes_sign :
    {X : Type 0} {source : Source} {old new : Cursor} {Follow : Lookahead} {result : Result X Stop} {a b : Symbol} →
    a ≡ b → Takes source old new (One (symbol a)) Follow result → Takes source old new (One (symbol b)) Follow result
takes_sign {X} {source} {old} {new} {Follow} {result} same takes = subst (λ s. Takes source old new (One (symbol s)) Follow result) same takes

-- a test that failed
pub not_so : {b : Bool} {P : Type 0} → (IsTrue b ↔ P) → b ≡ false → P → ⊥
not_so iff fails p = cc (fails, iff.1 p)

-- a token has a word
pub some_one : (terminal : Terminal) → Has (One terminal)
some_one terminal = (record { terminal = terminal; place = None } ∷ [], (record { terminal = terminal; place = None }, refl, refl))

-- a token that cannot be
pub refused_one :
    {Y : Type 0} {source : Source} {cursor : Cursor} (terminal : Terminal) → next source cursor ≢ Some terminal →
    Takes {X = Y} source cursor cursor (One terminal) Any (Err (failures.Why unread.Unexpected))
refused_one terminal other = refused (begin (One terminal) (some_one terminal)) (λ r v one behind next_is. other (sym next_is ∙ same_first v one.2 ∙ ap Some one.1))

-- a bracket too many
pub too_deep :
    {Y : Type 0} {source : Source} {cursor : Cursor} (terminal : Terminal) → next source cursor ≡ Some terminal →
    64 < open_behind cursor.depth terminal → Takes {X = Y} source cursor cursor (One terminal) Any (Err (failures.Why unread.TooDeep))
too_deep {Y} {source} {cursor} terminal at deep = record {
  forward = omega arith;
  takes = λ w u v agrees one behind here few. omega (arith, deep, ap (open_behind cursor.depth) one.1, (subst (λ l. AreFewOpen cursor.depth (l ++ v)) one.2 few).0);
  leads = (
    record { terminal = terminal; place = 0 },
    [],
    record { read = []; reads = none_read source cursor; whole = record { terminal = terminal; place = None } ∷ []; word = (_, refl, refl); stands = ((refl, tt), tt) },
    at,
    deep,
  );
}

-- the parts of a word, as those of another one
pub same_then : {P Q : Language} {q : List Leaf} (l m : List Leaf) (both : Then P Q q) → Same l both.0 → Same m both.1 → Same (l ++ m) q
same_then {q = q} l m both left right = same_again (l ++ m) (both.0 ++ both.1) q (same_append l both.0 m both.1 left right) (same_of (sym both.4))

pub same_one : {terminal : Terminal} {u : List Leaf} (one : One terminal u) → Same (record { terminal = terminal; place = None } ∷ []) u
same_one {terminal} one spots stand = at_spot spots (subst (λ l. StandAt l spots) one.2 stand)
  where
    at_spot : (spots : List Spot) → StandAt (one.0 ∷ []) spots → StandAt (record { terminal = terminal; place = None } ∷ []) spots
    at_spot [] stand = stand
    at_spot (spot ∷ spots) stand = ((sym one.1 ∙ stand.0.0, tt), stand.1)

pub same_part : {X : Type 0} {Is : X → Type 0} {leaves : X → List Leaf} {u : List Leaf} (part : Part Is leaves u) → Same (leaves part.0) u
same_part part = same_of (sym part.2)

-- leaves that are like a word: those of its parts
abbrev pub Like : Language
Like q = (l : List Leaf) × Same l q

abbrev pub like_then : {P Q : Language} {q : List Leaf} (both : Then P Q q) → Like both.0 → Like both.1 → Like q
like_then both left right = (left.0 ++ right.0, same_then left.0 right.0 both left.1 right.1)

abbrev pub like_one : {terminal : Terminal} {u : List Leaf} (one : One terminal u) → Like u
like_one {terminal = terminal} one = (record { terminal = terminal; place = None } ∷ [], same_one one)

abbrev pub like_part : {X : Type 0} {Is : X → Type 0} {leaves : X → List Leaf} {u : List Leaf} (part : Part Is leaves u) → Like u
like_part {leaves = leaves} part = (leaves part.0, same_part part)

-- what is made of the parts of a word
pub made : {X : Type 0} {Is : X → Type 0} {leaves : X → List Leaf} (q : List Leaf) (like : Like q) (x : X) → Is x → leaves x ≡ like.0 → Kept (Part Is leaves) q
made {leaves = leaves} q like x is same spots stand = (leaves x, (x, is, refl), same_of same spots (like.1 spots stand))

-- the place of the token of this index
pub place_in : ℕ → List Spot → ℕ
place_in i [] = 0
place_in zero (spot ∷ spots) = spot.place
place_in (suc i) (spot ∷ spots) = place_in i spots

-- leaves that are like a word where its token of this index stands at this place
pub record LikeAt (i place : ℕ) (q : List Leaf) : Type 0 where
  pub leaves : List Leaf
  pub same : (spots : List Spot) → place_in i spots ≡ place → StandAt q spots → StandAt leaves spots

pub place_one_stands :
    (terminal : Terminal) (place : ℕ) (leaf : Leaf) → leaf.terminal ≡ terminal → (spots : List Spot) →
    place_in 0 spots ≡ place → StandAt (leaf ∷ []) spots → StandAt (placed terminal place) spots
unfolding place_in
place_one_stands terminal place leaf same [] is stand = stand
place_one_stands terminal place leaf same (spot ∷ spots) is stand = ((sym same ∙ stand.0.0, sym is), stand.1)

pub place_then_stands :
    (terminal : Terminal) (place : ℕ) (leaf : Leaf) → leaf.terminal ≡ terminal → (b r : List Leaf) → Same r b →
    (spots : List Spot) → place_in 0 spots ≡ place → StandAt (leaf ∷ b) spots →
    StandAt (placed terminal place ++ r) spots
unfolding place_in
place_then_stands terminal place leaf same b r right [] is stand = absurd stand
place_then_stands terminal place leaf same b r right (spot ∷ spots) is stand = ((sym same ∙ stand.0.0, sym is), right spots stand.1)

place_behind : (i : ℕ) (a : List Leaf) (x y : List Spot) → StandAt a x → place_in (length a + i) (x ++ y) ≡ place_in i y
unfolding place_in
place_behind i [] [] y stand = ap (λ n. place_in n y) (omega arith)
place_behind i [] (spot ∷ x) y stand = absurd stand
place_behind i (leaf ∷ a) [] y stand = absurd stand
place_behind i (leaf ∷ a) (spot ∷ x) y stand =
    let more : suc (length a) + i ≡ suc (length a + i) = omega arith in
    ap (λ n. place_in n (spot ∷ (x ++ y))) more ∙ place_behind i a x y stand.1

pub then_place_stands :
    (i place : ℕ) (a b l r : List Leaf) → Same l a →
    ((spots : List Spot) → place_in i spots ≡ place → StandAt b spots → StandAt r spots) → (spots : List Spot) →
    place_in (length a + i) spots ≡ place → StandAt (a ++ b) spots → StandAt (l ++ r) spots
then_place_stands i place a b l r left right spots is stand =
    let cut = stand_split a b spots stand in
    let at : place_in i cut.1 ≡ place = sym (place_behind i a cut.0 cut.1 cut.2) ∙ ap (place_in (length a + i)) (sym cut.4) ∙ is in
    subst (StandAt (l ++ r)) (sym cut.4) (stand_append l r cut.0 cut.1 (left cut.0 cut.2) (right cut.1 at cut.3))

abbrev pub place_one : {terminal : Terminal} {u : List Leaf} (place : ℕ) (one : One terminal u) → LikeAt 0 place u
place_one {terminal} place one = record { leaves = placed terminal place; same = λ spots is stand. place_one_stands terminal place one.0 one.1 spots is (subst (λ l. StandAt l spots) one.2 stand) }

abbrev pub place_then : {terminal : Terminal} {Q : Language} {q : List Leaf} (place : ℕ) (both : Then (One terminal) Q q) → Like both.1 → LikeAt 0 place q
place_then {terminal} place both right = record {
  leaves = placed terminal place ++ right.0;
  same = λ spots is stand. place_then_stands terminal place both.2.0 both.2.1 both.1 right.0 right.1 spots is (subst (λ l. StandAt l spots) (both.4 ∙ ap (λ l. l ++ both.1) both.2.2) stand);
}

abbrev pub then_place : {P Q : Language} {q : List Leaf} {i place : ℕ} (both : Then P Q q) → Like both.0 → LikeAt i place both.1 → LikeAt (length both.0 + i) place q
then_place {i = i} {place = place} both left right = record {
  leaves = left.0 ++ right.leaves;
  same = λ spots is stand. then_place_stands i place both.0 both.1 left.0 right.leaves left.1 right.same spots is (subst (λ l. StandAt l spots) both.4 stand);
}

-- what is made of the parts of a word, with the place of one of its tokens
pub made_at :
    {X : Type 0} {Is : X → Type 0} {leaves : X → List Leaf} {i : ℕ} (q : List Leaf)
    (like : (place : ℕ) → LikeAt i place q) (x : ℕ → X) → ((place : ℕ) → Is (x place)) →
    ((place : ℕ) → leaves (x place) ≡ (like place).leaves) → Kept (Part Is leaves) q
made_at {leaves = leaves} {i = i} q like x is same spots stand =
    let place = place_in i spots in
    (leaves (x place), (x place, is place, refl), same_of (same place) spots ((like place).same spots refl stand))

-- two words one after the other
pub some_then : {P Q : Language} → Has P → Has Q → Has (Then P Q)
some_then a b = (a.0 ++ b.0, (a.0, b.0, a.1, b.1, refl))
