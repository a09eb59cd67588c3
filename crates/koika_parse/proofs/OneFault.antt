-- The tokens of a text have one fault at most, and none where a design with few open brackets has them.
use Rattle.std.proofs.Common.{◌≡◌, ℕ, ◌≤◌, List, [], ◌∷◌, ◌++◌, map, append_assoc, append-nil, inl, inr, refl, sym, ap, ◌∙◌, subst, arith, Err}
use Rattle.std.specs.Prelude.{◌⊎◌}
use Rattle.std.proofs.lemmas.List.{map-append}
use Rattle.kw_base.specs.Fault.{IfFault, IsFaultUnlessNoMemory, fault_at}
use Rattle.kw_base.specs.declared.fault.Fault.{Fault}
use Rattle.kw_base.specs.declared.fault.Refusal.{Refusal}
use Rattle.kw_base.specs.declared.fault.Refusal.TheVariants as refusals
use Rattle.koika_syntax.specs.Grammar.{tree_leaves}
use Rattle.koika_syntax.specs.Tree.{terminal_of}
use Rattle.koika_syntax.specs.declared.token.Token.{Token}
use Rattle.koika_syntax.specs.declared.tree.Tree.{Tree}
use Rattle.koika_parse.specs.Brackets.{AreFewOpen, open_behind, open_behind_all}
use Rattle.koika_parse.specs.Faults.{Begins, design_terminals, GoesOn, NoneGoesOn, OpensTooMany, place_behind, seen, StandsBetween}
use Rattle.koika_parse.specs.Laws.{OneFault, NoFault}
use Rattle.koika_parse.proofs.Seen.{few_seen, same_head, same_tail, zip_terminals}

-- the other list goes on behind this one, with the first token behind it
record GoesFurther (before behind other : List Token) : Type 0 where
  token : Token
  behind_it : List Token
  more : List Token
  next : behind ≡ token ∷ behind_it
  further : other ≡ (before ++ token ∷ []) ++ more

longer : (first : Token) {before behind other : List Token} → GoesFurther before behind other → GoesFurther (first ∷ before) behind (first ∷ other)
longer first goes = record { token = goes.token; behind_it = goes.behind_it; more = goes.more; next = goes.next; further = ap (λ ts. first ∷ ts) goes.further }

-- of two fronts of the same tokens, they are the same, or one goes further
abbrev Fronts : (a x b y : List Token) → Type 0
Fronts a x b y = ((a ≡ b) × (x ≡ y)) ⊎ (GoesFurther a x b ⊎ GoesFurther b y a)

fronts : (a x b y : List Token) → a ++ x ≡ b ++ y → Fronts a x b y
fronts [] x [] y same = inl (refl, same)
fronts [] x (t ∷ b) y same = inr (inl (record { token = t; behind_it = b ++ y; more = b; next = same; further = refl }))
fronts (t ∷ a) x [] y same = inr (inr (record { token = t; behind_it = a ++ x; more = a; next = sym same; further = refl }))
fronts (t ∷ a) x (u ∷ b) y same = subst (λ t'. Fronts (t ∷ a) x (t' ∷ b) y) (same_head same) (behind (fronts a x b y (same_tail same)))
  where
    behind : Fronts a x b y → Fronts (t ∷ a) x (t ∷ b) y
    behind (inl both) = inl (ap (λ ts. t ∷ ts) both.0, both.1)
    behind (inr (inl goes)) = inr (inl (longer t goes))
    behind (inr (inr goes)) = inr (inr (longer t goes))

-- a design that begins with more begins with less
begins_less : (text : List ℕ) (less more : List Token) → Begins text (less ++ more) → Begins text less
begins_less text less more begins = (
  begins.0,
  record {
    design = begins.1.design;
    rest = map (terminal_of text) more ++ begins.1.rest;
    terminals =
        begins.1.terminals ∙ ap (λ ts. ts ++ begins.1.rest) (map-append (terminal_of text) less more)
        ∙ append_assoc (map (terminal_of text) less) (map (terminal_of text) more) begins.1.rest;
  },
)

-- where few brackets are open behind more tokens, a token among them opens none too many
few_at : (text : List ℕ) (depth : ℕ) (before : List Token) (token : Token) (more : List Token) → AreFewOpen depth (seen text ((before ++ token ∷ []) ++ more)) →
    open_behind (open_behind_all depth (seen text before)) (terminal_of text token) ≤ 64
few_at text depth [] token more few = few.0
few_at text depth (t ∷ before) token more few = few_at text (open_behind depth (terminal_of text t)) before token more few.1

-- why reading ends
abbrev Why : List ℕ → Fault → (before behind : List Token) → Type 0
Why text fault before behind =
    ((fault ≡ fault_at 11 (place_behind text behind)) × NoneGoesOn text before behind)
    ⊎ ((fault ≡ fault_at 12 (place_behind text behind)) × OpensTooMany text before behind × GoesOn text before behind)

-- a fault doesn't stand before another one
not_before : (text : List ℕ) (tokens : List Token) (f g : Fault) (a : StandsBetween text tokens f) (b : StandsBetween text tokens g) → GoesFurther a.before a.behind b.before → ⊥
not_before text tokens f g a b goes = why a.why
  where
    why : Why text f a.before a.behind → ⊥
    why (inl none) =
        let more = begins_less text (a.before ++ goes.token ∷ []) goes.more (subst (Begins text) goes.further b.begun) in
        subst (NoneGoesOn text a.before) goes.next none.1 more.0 more.1
    why (inr many) =
        let few = few_at text 0 a.before goes.token goes.more (subst (λ ts. AreFewOpen 0 (seen text ts)) goes.further b.few) in
        omega (arith, few, subst (OpensTooMany text a.before) goes.next many.1)

-- where a token can and cannot stand
not_both : (text : List ℕ) (before behind : List Token) → NoneGoesOn text before behind → GoesOn text before behind → ⊥
not_both text before [] none goes = goes
not_both text before (token ∷ behind) none goes = none goes.0 goes.1

same_place : (text : List ℕ) (tokens : List Token) (f g : Fault) (a : StandsBetween text tokens f) (b : StandsBetween text tokens g) → a.before ≡ b.before → a.behind ≡ b.behind → f ≡ g
same_place text tokens f g a b before behind = why a.why b.why
  where
    why : Why text f a.before a.behind → Why text g b.before b.behind → f ≡ g
    why (inl p) (inl q) = p.0 ∙ ap (λ ts. fault_at 11 (place_behind text ts)) behind ∙ sym q.0
    why (inl p) (inr q) = absurd (not_both text b.before b.behind (subst (λ ts. NoneGoesOn text ts b.behind) before (subst (NoneGoesOn text a.before) behind p.1)) q.2)
    why (inr p) (inl q) = absurd (not_both text b.before b.behind q.1 (subst (λ ts. GoesOn text ts b.behind) before (subst (GoesOn text a.before) behind p.2)))
    why (inr p) (inr q) = p.0 ∙ ap (λ ts. fault_at 12 (place_behind text ts)) behind ∙ sym q.0

pub one_fault : OneFault
one_fault text tokens f g a b = of (fronts a.before a.behind b.before b.behind (sym a.split ∙ b.split))
  where
    of : Fronts a.before a.behind b.before b.behind → f ≡ g
    of (inl same) = same_place text tokens f g a b same.0 same.1
    of (inr (inl goes)) = absurd (not_before text tokens f g a b goes)
    of (inr (inr goes)) = absurd (not_before text tokens g f b a goes)

-- a fault that is answered is the one that there is
pub one_refused :
    (text : List ℕ) (tokens : List Token) (refusal : Refusal) (fault : Fault) →
    IfFault {X = Tree} (Err refusal) (StandsBetween text tokens) → StandsBetween text tokens fault →
    IsFaultUnlessNoMemory {X = Tree} (Err refusal) fault
one_refused text tokens (refusals.Fault other) fault is stands = one_fault text tokens other fault is stands
one_refused text tokens refusals.NoMemory fault is stands = tt

pub no_fault : NoFault
no_fault text tokens tree fault derives few a = why a.before a.behind a.split a.why
  where
    same : design_terminals tree ≡ map (terminal_of text) tokens
    same = zip_terminals text (tree_leaves tree) tokens derives.leaves

    few_all : AreFewOpen 0 (seen text tokens)
    few_all = few_seen text 0 (tree_leaves tree) tokens derives.leaves few

    why : (before behind : List Token) → tokens ≡ before ++ behind → Why text fault before behind → ⊥
    why before [] split (inl none) = none.1 tree derives.design (same ∙ ap (map (terminal_of text)) (split ∙ append-nil before))
    why before (token ∷ behind) split (inl none) = none.1 tree (record {
      design = derives.design;
      rest = map (terminal_of text) behind;
      terminals = same ∙ ap (map (terminal_of text)) (split ∙ sym (append_assoc before (token ∷ []) behind)) ∙ map-append (terminal_of text) (before ++ token ∷ []) behind;
    })
    why before [] split (inr many) = many.1
    why before (token ∷ behind) split (inr many) =
        omega (arith, many.1, few_at text 0 before token behind (subst (λ ts. AreFewOpen 0 (seen text ts)) (split ∙ sym (append_assoc before (token ∷ []) behind)) few_all))
