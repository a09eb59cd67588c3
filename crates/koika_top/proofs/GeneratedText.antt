-- The text of the pipeline design is short, has no mark, and is read as a tree: its tokens are those of a tree of the
-- grammar, and between such tokens no fault is.
use Rattle.std.proofs.Common.{◌≡◌, ℕ, zero, suc, ◌+◌, ◌*◌, ◌<◌, ◌≤◌, Bool, true, false, nat_eq, None, List, [], ◌∷◌, ◌++◌, length, length-append, map, codes, decimal, inl, inr, refl, sym, ap, ◌∙◌, subst, arith, append_assoc, append-nil, lit≤}
use Rattle.std.specs.Prelude.{◌==◌, ◌⊎◌, if◌then◌else◌, ◌&&◌, nat_le, not}
use Rattle.std.specs.List.{AllByRecursion, list_all}
use Rattle.std.proofs.lemmas.Bool.{eqb-true, false≢true, leb-true}
use Rattle.std.proofs.lemmas.List.{map-append}
use Rattle.kw_base.specs.Fault.{fault_at}
use Rattle.kw_base.specs.declared.fault.Fault.{Fault}
use Rattle.koika_syntax.specs.Grammar.{Derives, IsDesign, tree_leaves}
use Rattle.koika_syntax.specs.Lexemes.{continues_word}
use Rattle.koika_syntax.specs.Tokens.{AreTokensOf}
use Rattle.koika_syntax.specs.Tree.{Leaf, Terminal, terminal_of}
use Rattle.koika_syntax.specs.declared.token.Token.{Token}
use Rattle.koika_syntax.specs.declared.tree.Tree.{Tree}
use Rattle.koika_parse.specs.Brackets.{AreFewOpen, open_behind, open_behind_all}
use Rattle.koika_parse.specs.Faults.{GoesOn, NoneGoesOn, OpensTooMany, StandsBetween, place_behind, seen}
use Rattle.koika_parse.specs.Laws.{IsParsed}
use Rattle.koika_parse.proofs.EachText.{each_text}
use Rattle.koika_print.specs.Printed.{IsLexedAs, printed}
use Rattle.koika_top.specs.Generator.{ascending, descending, drain, fill, filled, filled_byte, move_on, other_registers, pipeline, stage_registers}
use Rattle.koika_top.proofs.Generated.{ascending_of, descending_of, digits-go, drain_at, fill_rule, generated, leaves_of, left, move_at, others, pipeline-lexed, registers_at, right, schedule_begin, schedule_end, scheduled_at, short, terminals-so, tokens_at}
use Rattle.koika_top.proofs.GeneratedTree.{HasTree, pipeline_tree}

-- ---- brackets

both : (a b : Bool) → a ≡ true → b ≡ true → (a && b) ≡ true
both true b first second = second
both false b first second = first

-- from one depth tokens lead to another, with few brackets open
abbrev leads : ℕ → ℕ → List Terminal → Bool
leads from to [] = nat_eq from to
leads from to (t ∷ ts) = nat_le (open_behind from t) 64 && leads (open_behind from t) to ts

-- the same, with the tokens named
record Leads (from to : ℕ) (ts : List Terminal) : Type 0 where
  is : leads from to ts ≡ true

leads-on : (from mid to : ℕ) (ts us : List Terminal) → leads from mid ts ≡ true → leads mid to us ≡ true → leads from to (ts ++ us) ≡ true
leads-on from mid to [] us first second = subst (λ (n : ℕ). leads n to us ≡ true) (sym (eqb-true from mid first)) second
leads-on from mid to (t ∷ ts) us first second =
    let few = nat_le (open_behind from t) 64 in
    let rest = leads (open_behind from t) mid ts in
    both few _ (left few rest first) (leads-on (open_behind from t) mid to ts us (right few rest first) second)

in_turn : (from mid to : ℕ) (ts us : List Terminal) → Leads from mid ts → Leads mid to us → Leads from to (ts ++ us)
in_turn from mid to ts us first second = record { is = leads-on from mid to ts us first.is second.is }

few-open : (from to : ℕ) (ts : List Terminal) → leads from to ts ≡ true → AreFewOpen from (leaves_of ts)
few-open from to [] all = tt
few-open from to (t ∷ ts) all =
    let few = nat_le (open_behind from t) 64 in
    let rest = leads (open_behind from t) to ts in
    (leb-true (open_behind from t) 64 (left few rest all), few-open (open_behind from t) to ts (right few rest all))

registers-lead : (k : ℕ) → Leads 0 0 (registers_at k)
unfolding registers_at
registers-lead k = record { is = refl }

others-lead : Leads 0 0 others
unfolding others
others-lead = record { is = refl }

drain-leads : (k : ℕ) → Leads 0 0 (drain_at k)
unfolding drain_at
drain-leads k = record { is = refl }

move-leads : (k : ℕ) → Leads 0 0 (move_at k)
unfolding move_at
move-leads k = record { is = refl }

fill-leads : Leads 0 0 fill_rule
unfolding fill_rule
fill-leads = record { is = refl }

begin-leads : Leads 0 1 schedule_begin
unfolding schedule_begin
begin-leads = record { is = refl }

scheduled-leads : (k : ℕ) → Leads 1 1 (scheduled_at k)
unfolding scheduled_at
scheduled-leads k = record { is = refl }

end-leads : Leads 1 0 schedule_end
unfolding schedule_end
end-leads = record { is = refl }

ascending-leads : (f : ℕ → List Terminal) (n : ℕ) → ((k : ℕ) → Leads 0 0 (f k)) → Leads 0 0 (ascending_of f n)
unfolding ascending_of
ascending-leads f zero each = record { is = refl }
ascending-leads f (suc n) each = in_turn 0 0 0 (ascending_of f n) (f n) (ascending-leads f n each) (each n)

descending-leads : (f : ℕ → List Terminal) (depth n : ℕ) → ((k : ℕ) → Leads depth depth (f k)) → Leads depth depth [] → Leads depth depth (descending_of f n)
unfolding descending_of
descending-leads f depth zero each none = none
descending-leads f depth (suc n) each none = in_turn depth depth depth (f n) (descending_of f n) (each n) (descending-leads f depth n each none)

tokens-lead : (k : ℕ) → Leads 0 0 (tokens_at k)
unfolding tokens_at
tokens-lead k =
    let a = ascending-leads registers_at (k + 1) registers-lead in
    let b = in_turn 0 0 0 _ _ a others-lead in
    let c = in_turn 0 0 0 _ _ b (drain-leads k) in
    let e = in_turn 0 0 0 _ _ c (descending-leads move_at 0 k move-leads (record { is = refl })) in
    let f = in_turn 0 0 0 _ _ e fill-leads in
    let g = in_turn 0 0 1 _ _ f begin-leads in
    let h = in_turn 0 1 1 _ _ g (descending-leads scheduled_at 1 k scheduled-leads (record { is = refl })) in
    in_turn 0 1 0 _ _ h end-leads

tokens-few : (k : ℕ) → AreFewOpen 0 (leaves_of (tokens_at k))
tokens-few k = few-open 0 0 (tokens_at k) (tokens-lead k).is

-- ---- no fault

-- the leaves of tokens, by what the grammar sees of them
seen-as : (text : List ℕ) (tokens : List Token) → seen text tokens ≡ leaves_of (map (terminal_of text) tokens)
seen-as text [] = refl
seen-as text (token ∷ tokens) = ap (λ (rest : List Leaf). record { terminal = terminal_of text token; place = None } ∷ rest) (seen-as text tokens)

-- where few brackets are open, a token opens none too many
few-at : (text : List ℕ) (depth : ℕ) (before : List Token) (token : Token) (more : List Token) → AreFewOpen depth (seen text (before ++ token ∷ more)) →
    open_behind (open_behind_all depth (seen text before)) (terminal_of text token) ≤ 64
few-at text depth [] token more few = few.0
few-at text depth (t ∷ before) token more few = few-at text (open_behind depth (terminal_of text t)) before token more few.1

-- where a tree of the grammar, with whatever places, has the tokens and few brackets are open, no fault is between them
no_fault_between : (text : List ℕ) (tokens : List Token) (tree : Tree) (fault : Fault) → IsDesign tree → map (λ leaf. leaf.terminal) (tree_leaves tree) ≡ map (terminal_of text) tokens → AreFewOpen 0 (seen text tokens) → StandsBetween text tokens fault → ⊥
no_fault_between text tokens tree fault design same few stands = why stands.before stands.behind stands.split stands.why
  where
    why : (before behind : List Token) → tokens ≡ before ++ behind
        → ((fault ≡ fault_at 11 (place_behind text behind)) × NoneGoesOn text before behind)
        ⊎ ((fault ≡ fault_at 12 (place_behind text behind)) × OpensTooMany text before behind × GoesOn text before behind) → ⊥
    why before [] split (inl none) = none.1 tree design (same ∙ ap (map (terminal_of text)) (split ∙ append-nil before))
    why before (token ∷ behind) split (inl none) = none.1 tree (record {
      design = design;
      rest = map (terminal_of text) behind;
      terminals = same ∙ ap (map (terminal_of text)) (split ∙ sym (append_assoc before (token ∷ []) behind)) ∙ map-append (terminal_of text) (before ++ token ∷ []) behind;
    })
    why before [] split (inr many) = many.1
    why before (token ∷ behind) split (inr many) = omega (arith, many.1, few-at text 0 before token behind (subst (λ (ts : List Token). AreFewOpen 0 (seen text ts)) split few))

-- ---- lengths, and bytes that are no mark's

-- the bytes are this many at most, and none is `%`
record IsPlain (most : ℕ) (bytes : List ℕ) : Type 0 where
  free : AllByRecursion (λ byte. nat_eq byte 37 ≡ false) bytes
  few : length bytes ≤ most

abbrev pub AreFree : List ℕ → Type 0
AreFree bytes = AllByRecursion (λ byte. nat_eq byte 37 ≡ false) bytes

free-both : (xs ys : List ℕ) → AreFree xs → AreFree ys → AreFree (xs ++ ys)
free-both [] ys first second = second
free-both (x ∷ xs) ys first second = (first.0, free-both xs ys first.1 second)

plain-both : (m n : ℕ) (xs ys : List ℕ) → IsPlain m xs → IsPlain n ys → IsPlain (m + n) (xs ++ ys)
plain-both m n xs ys first second = record { free = free-both xs ys first.free second.free; few = omega (arith, length-append xs ys, first.few, second.few) }

-- what goes on a word is no mark
free-byte : (byte : ℕ) → continues_word byte ≡ true → nat_eq byte 37 ≡ false
free-byte byte goes = by (nat_eq byte 37) refl
  where
    by : (b : Bool) → nat_eq byte 37 ≡ b → b ≡ false
    by false is = refl
    by true is = absurd (false≢true (ap continues_word (sym (eqb-true byte 37 is)) ∙ goes))

free-word : (bytes : List ℕ) → list_all continues_word bytes ≡ true → AreFree bytes
free-word [] all = tt
free-word (byte ∷ bytes) all = (free-byte byte (left (continues_word byte) (list_all continues_word bytes) all), free-word bytes (right (continues_word byte) (list_all continues_word bytes) all))

digits-plain : (k : ℕ) → k < 102 → IsPlain 3 (decimal k)
digits-plain k most = record { free = free-word (decimal k) (digits-go k most); few = short k most }

byte-plain : (k byte : ℕ) → k < 101 → nat_eq byte 37 ≡ false → IsPlain 3 (filled_byte k byte)
byte-plain k byte most free = by (byte == 35) (byte == 64) (byte == 47)
  where
    by : (a b c : Bool) → IsPlain 3 (if a then decimal k else if b then decimal (k + 1) else if c then 10 ∷ [] else byte ∷ [])
    by true b c = digits-plain k (omega (arith, most))
    by false true c = digits-plain (k + 1) (omega (arith, most))
    by false false true = record { free = (refl, tt); few = lit≤ tt }
    by false false false = record { free = (free, tt); few = lit≤ tt }

filled-plain : (k : ℕ) (template : List ℕ) → k < 101 → AreFree template → IsPlain (3 * length template) (filled template k)
filled-plain k [] most free = record { free = tt; few = lit≤ tt }
filled-plain k (byte ∷ template) most free =
    let rest = filled-plain k template most free.1 in
    let all = plain-both 3 (3 * length template) (filled_byte k byte) (filled template k) (byte-plain k byte most free.0) rest in
    record { free = all.free; few = omega (arith, all.few) }

-- a template, of which the bytes are looked at one by one
free_bytes : List ℕ → Bool
free_bytes bytes = list_all (λ byte. not (nat_eq byte 37)) bytes

free-template : (bytes : List ℕ) → free_bytes bytes ≡ true → AreFree bytes
unfolding free_bytes
free-template [] all = tt
free-template (byte ∷ bytes) all =
    (by (nat_eq byte 37) (left (not (nat_eq byte 37)) (list_all (λ b. not (nat_eq b 37)) bytes) all), free-template bytes (right (not (nat_eq byte 37)) (list_all (λ b. not (nat_eq b 37)) bytes) all))
  where
    by : (b : Bool) → not b ≡ true → b ≡ false
    by true is = absurd (false≢true is)
    by false is = refl

-- 600 bytes are more than any template becomes
template-plain : (template : List ℕ) → free_bytes template ≡ true → 3 * length template ≤ 600 → (k : ℕ) → k < 101 → IsPlain 600 (filled template k)
template-plain template free few k most =
    let all = filled-plain k template most (free-template template free) in
    record { free = all.free; few = omega (arith, all.few, few) }

ascending-plain : (template : List ℕ) → ((k : ℕ) → k < 101 → IsPlain 600 (filled template k)) → (n : ℕ) → n ≤ 101 → IsPlain (n * 600) (ascending template n)
ascending-plain template each zero most = record { free = tt; few = omega arith }
ascending-plain template each (suc n) most =
    let all = plain-both (n * 600) 600 (ascending template n) (filled template n) (ascending-plain template each n (omega (arith, most))) (each n (omega (arith, most))) in
    record { free = all.free; few = omega (arith, all.few) }

descending-plain : (template : List ℕ) → ((k : ℕ) → k < 101 → IsPlain 600 (filled template k)) → (n : ℕ) → n ≤ 101 → IsPlain (n * 600) (descending template n)
descending-plain template each zero most = record { free = tt; few = omega arith }
descending-plain template each (suc n) most =
    let all = plain-both 600 (n * 600) (filled template n) (descending template n) (each n (omega (arith, most))) (descending-plain template each n (omega (arith, most))) in
    record { free = all.free; few = omega (arith, all.few) }

pipeline-plain : (k : ℕ) → k ≤ 100 → IsPlain 200000 (pipeline k)
unfolding pipeline free_bytes
pipeline-plain k most =
    let here : k < 101 = omega (arith, most) in
    let a = ascending-plain stage_registers (template-plain stage_registers refl (lit≤ tt)) (k + 1) (omega (arith, most)) in
    let b = plain-both _ _ _ _ a (template-plain other_registers refl (lit≤ tt) k here) in
    let c = plain-both _ _ _ _ b (template-plain drain refl (lit≤ tt) k here) in
    let e = plain-both _ _ _ _ c (descending-plain move_on (template-plain move_on refl (lit≤ tt)) k (omega (arith, most))) in
    let f = plain-both _ _ _ _ e (template-plain fill refl (lit≤ tt) k here) in
    let g = plain-both _ _ _ _ f (template-plain (codes "schedule {/drain ;/") refl (lit≤ tt) k here) in
    let h = plain-both _ _ _ _ g (descending-plain (codes "move# ;/") (template-plain (codes "move# ;/") refl (lit≤ tt)) k (omega (arith, most))) in
    let all = plain-both _ _ _ _ h (template-plain (codes "fill ;/}/") refl (lit≤ tt) k here) in
    record { free = all.free; few = omega (arith, all.few, most) }

pub pipeline-short : (k : ℕ) → k ≤ 100 → length (pipeline k) ≤ 1048576
pipeline-short k most = omega (arith, (pipeline-plain k most).few)

pub pipeline-free : (k : ℕ) → k ≤ 100 → AreFree (pipeline k)
pipeline-free k most = (pipeline-plain k most).free

-- ---- the text is read

-- the text has tokens, and a tree with few open brackets derives them
pub record IsRead (text : List ℕ) : Type 0 where
  pub tokens : List Token
  pub are : AreTokensOf tokens text
  pub tree : Tree
  pub derived : Derives text tree tokens
  pub few : AreFewOpen 0 (tree_leaves tree)
  pub same : text ≡ printed (tree_leaves tree)

pub pipeline-read : (stages : ℕ) → stages ≤ 100 → IsRead (pipeline stages)
pipeline-read stages most = of (each_text text tokens lexed.are (omega (arith, pipeline-short stages most)))
  where
    text : List ℕ
    text = pipeline stages

    lexed : IsLexedAs text (leaves_of (tokens_at stages))
    lexed = pipeline-lexed stages most

    tokens : List Token
    tokens = lexed.tokens

    found : HasTree (tokens_at stages)
    found = pipeline_tree stages most

    seen_so : map (terminal_of text) tokens ≡ tokens_at stages
    seen_so = lexed.same ∙ terminals-so (tokens_at stages)

    of : IsParsed text tokens → IsRead text
    of (inl parsed) = record { tokens = tokens; are = lexed.are; tree = parsed.0; derived = parsed.1; few = parsed.2; same = generated stages tokens parsed.0 most lexed.are parsed.1 }
    of (inr refused) = absurd (no_fault_between text tokens found.tree refused.0 found.design (found.same ∙ sym seen_so)
        (subst (AreFewOpen 0) (sym (seen-as text tokens ∙ ap leaves_of seen_so)) (tokens-few stages)) refused.1)
