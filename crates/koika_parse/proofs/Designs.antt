-- What the readers say of whole designs.
use Rattle.std.proofs.Common.{◌≡◌, ℕ, zero, suc, ◌+◌, ◌<◌, ◌≤◌, Some, Result, Ok, Err, List, [], ◌∷◌, ◌++◌, map, drop}
use Rattle.std.proofs.Common.{length, get_or, length-append, append-nil, append_assoc, drop-cons, inl, inr, refl, sym}
use Rattle.std.proofs.Common.{ap, ◌∙◌, subst, arith}
use Rattle.std.specs.Prelude.{slice_get, ⊤}
use Rattle.std.specs.Option.{option_map}
use Rattle.std.proofs.lemmas.List.{drop_all, length-drop, map-append}
use Rattle.kw_base.specs.Fault.{IfFault}
use Rattle.kw_base.specs.Place.{place_at}
use Rattle.kw_base.specs.declared.fault.Fault.{Fault}
use Rattle.kw_base.specs.declared.fault.Refusal.{Refusal}
use Rattle.kw_base.specs.declared.fault.Refusal.TheVariants as refusals
use Rattle.koika_syntax.specs.Grammar.{Derives, IsDesign, tree_leaves}
use Rattle.koika_syntax.specs.Tree.{Leaf, Terminal, terminal_of}
use Rattle.koika_syntax.specs.declared.token.Token.{Token}
use Rattle.koika_syntax.specs.declared.tree.Tree.{Tree}
use Rattle.koika_parse.specs.Brackets.{AreFewOpen, open_behind, open_behind_all}
use Rattle.koika_parse.specs.inner.Expected.{AgreesUpTo, first, Ends, Front, Spot, StandAt, Takes, spots_of}
use Rattle.koika_parse.specs.Faults.{BeginsWith, GoesOn, NoneGoesOn, OpensTooMany, place_behind, seen, StandsBetween}
use Rattle.koika_parse.specs.Laws.{ReadsBack}
use Rattle.koika_parse.specs.inner.Reading.{Reads, next}
use Rattle.koika_parse.specs.inner.Stops.{IsFaultOf, Stop}
use Rattle.koika_parse.specs.inner.Words.{DesignWord, end_follows}
use Rattle.koika_parse.proofs.Expected.{never_none, same_of_some}
use Rattle.koika_parse.proofs.Seen.{few_seen, open_seen, same_head, same_tail}
use Rattle.koika_parse.specs.declared.cursor.Cursor.{Cursor}
use Rattle.koika_parse.specs.declared.source.Source.{Source}
use Rattle.kw_bits.specs.declared.failure.Failure.TheVariants as failures
use Rattle.koika_parse.specs.declared.stop.Unread.TheVariants as unread

-- what is answered is such a fault
pub fault_as : {X : Type 0} {P Q : Fault → Type 0} (result : Result X Refusal) → IfFault result P → ((fault : Fault) → P fault → Q fault) → IfFault result Q
fault_as (Ok x) is as_this = tt
fault_as (Err (refusals.Fault fault)) is as_this = as_this fault is
fault_as (Err refusals.NoMemory) is as_this = tt

-- a design whose terminals are the tokens', up to some token
agrees_front : (text : List ℕ) (w : List Leaf) (before behind : List Token) (rest : List Terminal) (i : ℕ) →
    map (λ leaf. leaf.terminal) w ≡ map (terminal_of text) before ++ rest → i < length before →
    first (drop i w) ≡ option_map (terminal_of text) (slice_get (before ++ behind) i)
agrees_front text w [] behind rest i same low = absurd (omega (arith, low))
agrees_front text [] (token ∷ before) behind rest i same low = absurd (omega (arith, ap length same))
agrees_front text (leaf ∷ w) (token ∷ before) behind rest zero same low = ap Some (same_head same)
agrees_front text (leaf ∷ w) (token ∷ before) behind rest (suc i) same low = agrees_front text w before behind rest i (same_tail same) (omega (arith, low))

agrees_whole : (text : List ℕ) (w : List Leaf) (tokens : List Token) (i : ℕ) → map (λ leaf. leaf.terminal) w ≡ map (terminal_of text) tokens →
    first (drop i w) ≡ option_map (terminal_of text) (slice_get tokens i)
agrees_whole text [] [] zero same = refl
agrees_whole text [] [] (suc i) same = refl
agrees_whole text [] (token ∷ tokens) i same = absurd (omega (arith, ap length same))
agrees_whole text (leaf ∷ w) [] i same = absurd (omega (arith, ap length same))
agrees_whole text (leaf ∷ w) (token ∷ tokens) zero same = ap Some (same_head same)
agrees_whole text (leaf ∷ w) (token ∷ tokens) (suc i) same = agrees_whole text w tokens i (same_tail same)

-- which designs reading refuses
abbrev Refuses : Stop → Tree → Type 0
Refuses (failures.Why unread.Unexpected) tree = ⊤
Refuses (failures.Why unread.TooDeep) tree = AreFewOpen 0 (tree_leaves tree)
Refuses failures.NoMemory tree = ⊥

-- reading a whole text stops so
abbrev pub Stopped : Source → (old new : Cursor) → Stop → Type 0
Stopped source old new stop = Takes {X = Tree} source old new DesignWord end_follows (Err stop)

-- where reading stops, no such design agrees with the tokens
never : {source : Source} {old new : Cursor} {stop : Stop} → old.at ≡ 0 → old.depth ≡ 0 → Stopped source old new stop →
    (tree : Tree) → Refuses stop tree → IsDesign tree → AgreesUpTo source new (tree_leaves tree) → ⊥
never {source} {old} {new} {stop} at depth takes tree such design agrees =
    let w = tree_leaves tree in
    ended stop _ such (takes.takes w w [] agrees (tree, design, refl) refl (ap (λ n. drop n w) at ∙ sym (append-nil w)))
  where
    ended : (stop : Stop) (left : Type 0) → Refuses stop tree → Ends {X = Tree} (Err stop) (AreFewOpen old.depth (tree_leaves tree ++ [])) left → ⊥
    ended (failures.Why unread.Unexpected) left such ends = ends
    ended (failures.Why unread.TooDeep) left such ends = ends (subst (λ d. AreFewOpen d (tree_leaves tree ++ [])) (sym depth) (subst (AreFewOpen 0) (sym (append-nil (tree_leaves tree))) such))
    ended failures.NoMemory left such ends = such

none_goes_on : {source : Source} {old new : Cursor} → old.at ≡ 0 → old.depth ≡ 0 → Stopped source old new (failures.Why unread.Unexpected) →
    (before behind : List Token) → source.tokens.now ≡ before ++ behind → drop new.at source.tokens.now ≡ behind → NoneGoesOn source.text.now before behind
none_goes_on {source} {old} {new} at depth takes before [] split ends = λ tree design same.
    let text = source.text.now in
    let whole : before ≡ source.tokens.now = sym (split ∙ append-nil before) in
    never {stop = failures.Why unread.Unexpected} at depth takes tree tt design
    (λ cursor low. agrees_whole text (tree_leaves tree) source.tokens.now cursor.at (same ∙ ap (map (terminal_of text)) whole))
none_goes_on {source} {old} {new} at depth takes before (token ∷ behind) split ends = λ tree begins.
    let text = source.text.now in
    let all = source.tokens.now in
    let read = before ++ token ∷ [] in
    let front : all ≡ read ++ behind = split ∙ sym (append_assoc before (token ∷ []) behind) in
    let lengths = length-append before (token ∷ behind) in
    let long : length read ≡ new.at + 1 = omega (arith, length-append before (token ∷ []), lengths, ap length split, length-drop new.at all, ap length ends) in
    never {stop = failures.Why unread.Unexpected} at depth takes tree tt begins.design (λ cursor low.
    agrees_front text (tree_leaves tree) read behind begins.rest cursor.at begins.terminals (omega (arith, long, low))
    ∙ ap (λ ts. option_map (terminal_of text) (slice_get ts cursor.at)) (sym front))

-- the next token is the first one behind
next_is : (source : Source) (cursor : Cursor) (behind : List Token) → drop cursor.at source.tokens.now ≡ behind → next source cursor ≡ option_map (terminal_of source.text.now) (slice_get behind 0)
next_is source cursor behind ends = ap (option_map (terminal_of source.text.now)) (at_drop source.tokens.now cursor.at ∙ ap (λ ts. slice_get ts 0) ends)
  where
    at_drop : (tokens : List Token) (i : ℕ) → slice_get tokens i ≡ slice_get (drop i tokens) 0
    at_drop [] zero = refl
    at_drop [] (suc i) = refl
    at_drop (token ∷ tokens) zero = refl
    at_drop (token ∷ tokens) (suc i) = at_drop tokens i

opens : (source : Source) (new : Cursor) (before behind : List Token) (terminal : Terminal) → drop new.at source.tokens.now ≡ behind →
    new.depth ≡ open_behind_all 0 (seen source.text.now before) → next source new ≡ Some terminal → 64 < open_behind new.depth terminal →
    OpensTooMany source.text.now before behind
opens source new before [] terminal ends depth at deep = never_none (sym (next_is source new [] ends) ∙ at)
opens source new before (token ∷ behind) terminal ends depth at deep =
    let same : terminal_of source.text.now token ≡ terminal = same_of_some (sym (next_is source new (token ∷ behind) ends) ∙ at) in
    subst (λ n. 64 < open_behind n (terminal_of source.text.now token)) depth (subst (λ t. 64 < open_behind new.depth t) (sym same) deep)

-- the tokens that were read are those before the fault
split_of : {source : Source} {old new : Cursor} {read : List Leaf} → old.at ≡ 0 → (reads : Reads source old new read) → source.tokens.now ≡ reads.tokens ++ drop new.at source.tokens.now
split_of {source} at reads = ap (λ n. drop n source.tokens.now) (sym at) ∙ reads.split

few_before : {source : Source} {old new : Cursor} (read : List Leaf) → old.depth ≡ 0 → (reads : Reads source old new read) → AreFewOpen 0 (seen source.text.now reads.tokens)
few_before {source} read depth reads = few_seen source.text.now 0 read reads.tokens reads.each (subst (λ d. AreFewOpen d read) depth (reads.few (omega (arith, depth))))

-- the terminals of leaves are those of the tokens where they stand
stand_terminals : (leaves : List Leaf) (spots : List Spot) → StandAt leaves spots → map (λ leaf. leaf.terminal) leaves ≡ map (λ spot. spot.terminal) spots
stand_terminals [] [] stand = refl
stand_terminals [] (spot ∷ spots) stand = absurd stand
stand_terminals (leaf ∷ leaves) [] stand = absurd stand
stand_terminals (leaf ∷ leaves) (spot ∷ spots) stand = (λ i. stand.0.0 i ∷ stand_terminals leaves spots stand.1 i)

terminals_of : (text : List ℕ) (tokens : List Token) → map (λ spot. spot.terminal) (spots_of text tokens) ≡ map (terminal_of text) tokens
terminals_of text [] = refl
terminals_of text (token ∷ tokens) = ap (λ t. terminal_of text token ∷ t) (terminals_of text tokens)

-- some design begins with the tokens that were read
abbrev begun : {source : Source} {old new : Cursor} (rest : List Spot) (front : Front source old new DesignWord rest) → BeginsWith source.text.now front.reads.tokens front.word.0
begun {source} rest front = record {
  design = front.word.1;
  rest = map (λ spot. spot.terminal) rest;
  terminals = ap (map (λ leaf. leaf.terminal)) (sym front.word.2) ∙ stand_terminals front.whole (spots_of source.text.now front.reads.tokens ++ rest) front.stands
      ∙ map-append (λ spot. spot.terminal) (spots_of source.text.now front.reads.tokens) rest
      ∙ ap (λ ts. ts ++ map (λ spot. spot.terminal) rest) (terminals_of source.text.now front.reads.tokens);
}

-- and some design goes on with the token that opens a bracket too many
goes_on : {source : Source} {old new : Cursor} (spot : Spot) (rest : List Spot) (front : Front source old new DesignWord (spot ∷ rest)) →
    next source new ≡ Some spot.terminal → (behind : List Token) → drop new.at source.tokens.now ≡ behind → GoesOn source.text.now front.reads.tokens behind
goes_on {source} {old} {new} spot rest front at [] ends = never_none (sym (next_is source new [] ends) ∙ at)
goes_on {source} {old} {new} spot rest front at (token ∷ behind) ends =
    let text = source.text.now in
    let before = front.reads.tokens in
    let more = map (λ (s : Spot). s.terminal) rest in
    let same : spot.terminal ≡ terminal_of text token = same_of_some (sym at ∙ next_is source new (token ∷ behind) ends) in
    let begins = begun (spot ∷ rest) front in (
      front.word.0,
      record {
        design = begins.design;
        rest = more;
        terminals = begins.terminals ∙ ap (λ t. map (terminal_of text) before ++ (t ∷ more)) same ∙ sym (append_assoc (map (terminal_of text) before) (terminal_of text token ∷ []) more)
            ∙ ap (λ ts. ts ++ more) (sym (map-append (terminal_of text) before (token ∷ [])));
      },
    )

-- the fault stands where reading stops
pub stands_between : {source : Source} {old new : Cursor} (stop : Stop) (fault : Fault) → old.at ≡ 0 → old.depth ≡ 0 → Stopped source old new stop → IsFaultOf source new stop fault →
    StandsBetween source.text.now source.tokens.now fault
stands_between {source} {old} {new} (failures.Why unread.Unexpected) fault at depth takes is =
    let front = takes.leads.1 in
    let split = split_of at front.reads in
    record {
      before = front.reads.tokens;
      behind = drop new.at source.tokens.now;
      split = split;
      few = few_before front.read depth front.reads;
      begun = (front.word.0, begun takes.leads.0 front);
      why = inl (is, none_goes_on at depth takes front.reads.tokens (drop new.at source.tokens.now) split refl);
    }
stands_between {source} {old} {new} (failures.Why unread.TooDeep) fault at depth takes is =
    let spot = takes.leads.0 in
    let rest = takes.leads.1 in
    let front = takes.leads.2 in
    let tokens = front.reads.tokens in
    let behind = drop new.at source.tokens.now in
    let depths : new.depth ≡ open_behind_all 0 (seen source.text.now tokens) =
    front.reads.depth ∙ ap (λ n. open_behind_all n front.read) depth ∙ open_seen source.text.now 0 front.read tokens front.reads.each in
    record {
      before = tokens;
      behind = behind;
      split = split_of at front.reads;
      few = few_before front.read depth front.reads;
      begun = (front.word.0, begun (spot ∷ rest) front);
      why = inr (is, opens source new tokens behind spot.terminal refl depths takes.leads.3 takes.leads.4, goes_on spot rest front takes.leads.3 behind refl);
    }
stands_between {source} {old} {new} failures.NoMemory fault at depth takes is = absurd is

-- where reading stops, no tree with few open brackets has these tokens
none_has : {source : Source} {old new : Cursor} {stop : Stop} → old.at ≡ 0 → old.depth ≡ 0 → Stopped source old new stop → (fault : Fault) → IsFaultOf source new stop fault →
    (tree : Tree) → IsDesign tree → AreFewOpen 0 (tree_leaves tree) → map (λ leaf. leaf.terminal) (tree_leaves tree) ≡ map (terminal_of source.text.now) source.tokens.now → ⊥
none_has {source} {old} {new} {stop} at depth takes fault is tree design few same =
    never at depth takes tree (such stop is) design (λ cursor low. agrees_whole source.text.now (tree_leaves tree) source.tokens.now cursor.at same)
  where
    such : (stop : Stop) → IsFaultOf source new stop fault → Refuses stop tree
    such (failures.Why unread.Unexpected) is = tt
    such (failures.Why unread.TooDeep) is = few
    such failures.NoMemory is = absurd is

pub reads_back_refused : {source : Source} {old new : Cursor} {stop : Stop} (refusal : Refusal) → old.at ≡ 0 → old.depth ≡ 0 →
    Stopped source old new stop → IfFault {X = Tree} (Err refusal) (IsFaultOf source new stop) → ReadsBack source.text.now source.tokens.now (Err refusal)
reads_back_refused (refusals.Fault fault) at depth takes is tree design same few = none_has at depth takes fault is tree design few (sym same)
reads_back_refused refusals.NoMemory at depth takes is tree design same few = tt
