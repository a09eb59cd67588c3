-- What `==` answers of actions and rules.
use Rattle.std.proofs.Common.{◌≡◌, ◌↔◌, ℕ, nat_eq, Bool, true, false, ◌&&◌, List, [], ◌∷◌, refl, sym, ◌∙◌, subst, true≢false, rules}
use Rattle.kw_bits.specs.BitVector.{BitVector}
use Rattle.kw_bits.specs.contracts.bit_vector.BitsPartialEq.TheImpl as bits
use Rattle.std.specs.Cmp.{IsPartialEquivalence}
use Rattle.std.specs.Cmp.Lexicographic.{lists_equiv, lists_per, pointwise, pointwise_decides}
use Rattle.typed_core.specs.Same.{SameAction, SameDesign, SameRule, SameRules}
use Rattle.typed_core.specs.declared.action.Action.{Action}
use Rattle.typed_core.specs.declared.action.Action.TheVariants as action
use Rattle.typed_core.specs.declared.action.OneOp.{OneOp}
use Rattle.typed_core.specs.declared.action.TwoOp.{TwoOp}
use Rattle.typed_core.specs.contracts.action.OneOpPartialEq.TheImpl as one_op
use Rattle.typed_core.specs.contracts.action.TwoOpPartialEq.TheImpl as two_op
use Rattle.typed_core.specs.declared.design.Parts.{Parts}
use Rattle.typed_core.specs.declared.design.Rule.{Rule}
use Rattle.typed_core.specs.contracts.design.RulePartialEq.TheImpl as rule_like
use Rattle.typed_core.specs.contracts.design.RulePartialEq.TheImpl.Laws as rule_partial
use Rattle.typed_core.specs.contracts.design.RuleEq.TheImpl.Laws as rule_full
use Rattle.typed_core.specs.contracts.action.ActionPartialEq.TheImpl as action_eq
use Rattle.typed_core.specs.contracts.action.ActionPartialEq.TheImpl.Laws.{is, unfolded}

-- the test answers whether the fact holds
abbrev Answers : Bool → Type 0 → Type 0
Answers test P = (test ≡ true) ↔ P

one-same : (x y : OneOp) → Answers ((one_op.ghosts).eq x y) (x ≡ y)
one-same x y = search rules

two-same : (x y : TwoOp) → Answers ((two_op.ghosts).eq x y) (x ≡ y)
two-same x y = search rules

number-same : (x y : ℕ) → Answers (nat_eq x y) (x ≡ y)
number-same x y = search rules

value-same : (x y : BitVector) → Answers ((bits.ghosts).eq x y) (x ≡ y)
value-same x y = search rules

-- conjunctions of tests
both : (p q : Bool) {P Q : Type 0} → Answers p P → Answers q Q → Answers (p && q) (P × Q)
both true q f g = (λ e. (f.0 refl, g.0 e), λ r. g.1 r.1)
both false q f g = (λ e. absurd cc, λ r. f.1 r.0)

three : (p q r : Bool) {P Q R : Type 0} → Answers p P → Answers q Q → Answers r R → Answers (p && (q && r)) (P × Q × R)
three true true r f g h = (λ e. (f.0 refl, g.0 refl, h.0 e), λ t. h.1 t.2)
three true false r f g h = (λ e. absurd cc, λ t. g.1 t.1)
three false q r f g h = (λ e. absurd cc, λ t. f.1 t.0)

abbrev eq : Action → Action → Bool
eq = (action_eq.ghosts).eq

by : (a b : Action) {P : Type 0} → Answers (unfolded a b) P → Answers (eq a b) P
by a b {P} h = subst (λ (test : Bool). Answers test P) (sym (is a b)) h

-- `==` answers whether two actions are the same
pub eq-SameAction : (a b : Action) → Answers (eq a b) (SameAction a b)
eq-SameAction action.Unit action.Unit = (λ e. tt, λ h. is action.Unit action.Unit)
eq-SameAction (action.Const v) (action.Const v') = by _ _ (value-same v v')
eq-SameAction (action.Local n) (action.Local n') = by _ _ (number-same n n')
eq-SameAction (action.Input n) (action.Input n') = by _ _ (number-same n n')
eq-SameAction (action.One' o p a) (action.One' o' p' a') = by (action.One' o p a) (action.One' o' p' a') (both _ _ (one-same o o') (eq-SameAction a a'))
eq-SameAction (action.Two' o p a q b) (action.Two' o' p' a' q' b') = by (action.Two' o p a q b) (action.Two' o' p' a' q' b') (three _ _ _ (two-same o o') (eq-SameAction a a') (eq-SameAction b b'))
eq-SameAction (action.Slice' p a u l) (action.Slice' p' a' u' l') = by (action.Slice' p a u l) (action.Slice' p' a' u' l') (three _ _ _ (eq-SameAction a a') (number-same u u') (number-same l l'))
eq-SameAction (action.Zext' p a w) (action.Zext' p' a' w') = by (action.Zext' p a w) (action.Zext' p' a' w') (both _ _ (eq-SameAction a a') (number-same w w'))
eq-SameAction (action.Sext' p a w) (action.Sext' p' a' w') = by (action.Sext' p a w) (action.Sext' p' a' w') (both _ _ (eq-SameAction a a') (number-same w w'))
eq-SameAction (action.Table' n p a) (action.Table' n' p' a') = by (action.Table' n p a) (action.Table' n' p' a') (both _ _ (number-same n n') (eq-SameAction a a'))
eq-SameAction (action.Host' n p a) (action.Host' n' p' a') = by (action.Host' n p a) (action.Host' n' p' a') (both _ _ (number-same n n') (eq-SameAction a a'))
eq-SameAction (action.Let' p a q b) (action.Let' p' a' q' b') = by (action.Let' p a q b) (action.Let' p' a' q' b') (both _ _ (eq-SameAction a a') (eq-SameAction b b'))
eq-SameAction (action.If' p c q a r b) (action.If' p' c' q' a' r' b') = by (action.If' p c q a r b) (action.If' p' c' q' a' r' b') (three _ _ _ (eq-SameAction c c') (eq-SameAction a a') (eq-SameAction b b'))
eq-SameAction (action.Seq' p a q b) (action.Seq' p' a' q' b') = by (action.Seq' p a q b) (action.Seq' p' a' q' b') (both _ _ (eq-SameAction a a') (eq-SameAction b b'))
eq-SameAction (action.Read n r) (action.Read n' r') = by (action.Read n r) (action.Read n' r') (both _ _ (number-same n n') (number-same r r'))
eq-SameAction (action.Write' n r p a) (action.Write' n' r' p' a') = by (action.Write' n r p a) (action.Write' n' r' p' a') (three _ _ _ (number-same n n') (number-same r r') (eq-SameAction a a'))
eq-SameAction action.Abort action.Abort = (λ e. tt, λ h. is action.Abort action.Abort)
eq-SameAction a b = (λ h. absurd (true≢false (sym h ∙ is a b)), λ h. absurd h)

name-same : (x y : List ℕ) → Answers (pointwise nat_eq x y) (x ≡ y)
name-same = pointwise_decides number-same

abbrev rule_eq : Rule → Rule → Bool
rule_eq = (rule_like.ghosts).eq

rule-same : (x y : Rule) → Answers (rule_eq x y) (SameRule x y)
rule-same x y = both _ _ (name-same x.name y.name) (eq-SameAction x.body y.body)

-- `==` answers whether two lists of rules are the same
pub eq-SameRules : (xs ys : List Rule) → Answers (pointwise rule_eq xs ys) (SameRules xs ys)
eq-SameRules [] [] = (λ e. tt, λ h. refl)
eq-SameRules [] (y ∷ ys) = (λ e. absurd cc, λ h. absurd h)
eq-SameRules (x ∷ xs) [] = (λ e. absurd cc, λ h. absurd h)
eq-SameRules (x ∷ xs) (y ∷ ys) = both _ _ (rule-same x y) (eq-SameRules xs ys)

-- equality by value is an equivalence, since `==` is one
abbrev rules_partial : IsPartialEquivalence (pointwise rule_eq)
rules_partial = lists_per rule_partial.laws-law

SameRules-refl : (xs : List Rule) → SameRules xs xs
SameRules-refl xs = (eq-SameRules xs xs).0 ((lists_equiv rule_full.laws-law).refl xs)

SameRules-sym : (xs ys : List Rule) → SameRules xs ys → SameRules ys xs
SameRules-sym xs ys h = (eq-SameRules ys xs).0 (rules_partial.symm ys xs ∙ (eq-SameRules xs ys).1 h)

SameRules-trans : (xs ys zs : List Rule) → SameRules xs ys → SameRules ys zs → SameRules xs zs
SameRules-trans xs ys zs h k = (eq-SameRules xs zs).0 (rules_partial.trans xs ys zs ((eq-SameRules xs ys).1 h) ((eq-SameRules ys zs).1 k))

pub SameDesign-refl : (d : Parts) → SameDesign d d
SameDesign-refl d =
    record { regs = refl; inputs = refl; tables = refl; hosts = refl; rules = SameRules-refl d.rules; nodes = refl }

pub SameDesign-sym : (d e : Parts) → SameDesign d e → SameDesign e d
SameDesign-sym d e h =
    record {
      regs = sym h.regs;
      inputs = sym h.inputs;
      tables = sym h.tables;
      hosts = sym h.hosts;
      rules = SameRules-sym d.rules e.rules h.rules;
      nodes = sym h.nodes;
    }

pub SameDesign-trans : (d e f : Parts) → SameDesign d e → SameDesign e f → SameDesign d f
SameDesign-trans d e f h k =
    record {
      regs = h.regs ∙ k.regs;
      inputs = h.inputs ∙ k.inputs;
      tables = h.tables ∙ k.tables;
      hosts = h.hosts ∙ k.hosts;
      rules = SameRules-trans d.rules e.rules f.rules h.rules k.rules;
      nodes = h.nodes ∙ k.nodes;
    }
