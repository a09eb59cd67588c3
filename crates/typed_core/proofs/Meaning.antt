-- What is the same by value does the same.
use Rattle.std.proofs.Common.{◌≡◌, ℕ, List, [], ◌∷◌, map, refl, ap, ap₂, ◌∙◌}
use Rattle.std.specs.Prelude.{slice_get}
use Rattle.kw_bits.specs.BitVector.{BitVector}
use Rattle.kw_bits.specs.Operators as op
use Rattle.typed_core.specs.Evaluation.{Evaluation, Progress, Environment, Ports, ◌>>=◌, answer_of, apply_one, apply_two, choose, comes_to, entry_of, evaluate}
use Rattle.typed_core.specs.Same.{DoTheSame, SameAction, SameDesign, SameRules}
use Rattle.typed_core.specs.declared.action.Action.{Action}
use Rattle.typed_core.specs.declared.action.Action.TheVariants as action
use Rattle.typed_core.specs.declared.action.OneOp.{OneOp}
use Rattle.typed_core.specs.declared.action.TwoOp.{TwoOp}
use Rattle.typed_core.specs.declared.design.Parts.{Parts}
use Rattle.typed_core.specs.declared.design.Rule.{Rule}

-- an action by the values of the names that are bound round it
abbrev Meaning : Type 0 → Type 0
Meaning S = List BitVector → Evaluation BitVector S

-- what a part comes to goes on so
abbrev on : {S : Type 0} → Meaning S → (List BitVector → BitVector → Evaluation BitVector S) → Meaning S
on f next locals = f locals >>= next locals

-- actions that are the same come to the same in every environment, whatever the ports answer
pub evaluate-same : {S : Type 0} (s : Environment) (ports : Ports S) (a b : Action) → SameAction a b → evaluate s ports a ≡ evaluate s ports b
evaluate-same s ports action.Unit action.Unit h = refl
evaluate-same s ports (action.Const v) (action.Const v') h = ap (λ (x : BitVector). evaluate s ports (action.Const x)) h
evaluate-same s ports (action.Local n) (action.Local n') h = ap (λ (k : ℕ). evaluate s ports (action.Local k)) h
evaluate-same s ports (action.Input n) (action.Input n') h = ap (λ (k : ℕ). evaluate s ports (action.Input k)) h
evaluate-same {S} s ports (action.One' o p a) (action.One' o' p' a') h =
    ap₂ (λ (k : OneOp) (f : Meaning S). on f (λ _ x. comes_to (apply_one k x))) h.0 (evaluate-same s ports a a' h.1)
evaluate-same {S} s ports (action.Two' o p a q b) (action.Two' o' p' a' q' b') h =
    ap (λ (k : TwoOp). evaluate s ports (action.Two' k p a q b)) h.0
    ∙ ap₂ (λ (f g : Meaning S). on f (λ locals x. g locals >>= λ y. comes_to (apply_two o' x y))) (evaluate-same s ports a a' h.1) (evaluate-same s ports b b' h.2)
evaluate-same {S} s ports (action.Slice' p a u l) (action.Slice' p' a' u' l') h =
    ap₂ (λ (m n : ℕ). evaluate s ports (action.Slice' p a m n)) h.1 h.2
    ∙ ap (λ (f : Meaning S). on f (λ _ x. comes_to (op.slice x u' l'))) (evaluate-same s ports a a' h.0)
evaluate-same {S} s ports (action.Zext' p a w) (action.Zext' p' a' w') h =
    ap₂ (λ (f : Meaning S) (n : ℕ). on f (λ _ x. comes_to (op.zext x n))) (evaluate-same s ports a a' h.0) h.1
evaluate-same {S} s ports (action.Sext' p a w) (action.Sext' p' a' w') h =
    ap₂ (λ (f : Meaning S) (n : ℕ). on f (λ _ x. comes_to (op.sext x n))) (evaluate-same s ports a a' h.0) h.1
evaluate-same {S} s ports (action.Table' n p a) (action.Table' n' p' a') h =
    ap₂ (λ (k : ℕ) (f : Meaning S). on f (λ _ x. comes_to (entry_of (slice_get s.externs.tables k) x))) h.0 (evaluate-same s ports a a' h.1)
evaluate-same {S} s ports (action.Host' n p a) (action.Host' n' p' a') h =
    ap₂ (λ (k : ℕ) (f : Meaning S). on f (λ _ x. comes_to (answer_of (slice_get s.externs.hosts k) x))) h.0 (evaluate-same s ports a a' h.1)
evaluate-same {S} s ports (action.Let' p a q b) (action.Let' p' a' q' b') h =
    ap₂ (λ (f g : Meaning S). on f (λ locals x. g (x ∷ locals))) (evaluate-same s ports a a' h.0) (evaluate-same s ports b b' h.1)
evaluate-same {S} s ports (action.If' p c q a r b) (action.If' p' c' q' a' r' b') h =
    ap (λ (f : Meaning S). on f (λ locals x. choose x (evaluate s ports a locals) (evaluate s ports b locals))) (evaluate-same s ports c c' h.0)
    ∙ ap₂ (λ (f g : Meaning S). on (evaluate s ports c') (λ locals x. choose x (f locals) (g locals))) (evaluate-same s ports a a' h.1) (evaluate-same s ports b b' h.2)
evaluate-same {S} s ports (action.Seq' p a q b) (action.Seq' p' a' q' b') h =
    ap₂ (λ (f g : Meaning S). on f (λ locals _. g locals)) (evaluate-same s ports a a' h.0) (evaluate-same s ports b b' h.1)
evaluate-same s ports (action.Read n r) (action.Read n' r') h = ap₂ (λ (j k : ℕ). evaluate s ports (action.Read j k)) h.0 h.1
evaluate-same {S} s ports (action.Write' n r p a) (action.Write' n' r' p' a') h =
    ap₂ (λ (j k : ℕ). evaluate s ports (action.Write' j k p a)) h.0 h.1
    ∙ ap (λ (f : Meaning S). on f (λ _ value. ports.write n' r' value)) (evaluate-same s ports a a' h.2)
evaluate-same s ports action.Abort action.Abort h = refl
evaluate-same s ports a b h = absurd h

names-same : (xs ys : List Rule) → SameRules xs ys → map (λ (rule : Rule). rule.name) xs ≡ map (λ (rule : Rule). rule.name) ys
names-same [] [] h = refl
names-same [] (y ∷ ys) h = absurd h
names-same (x ∷ xs) [] h = absurd h
names-same (x ∷ xs) (y ∷ ys) h = ap₂ (λ (n : List ℕ) ns. n ∷ ns) h.0.0 (names-same xs ys h.1)

bodies-same : {S : Type 0} (s : Environment) (ports : Ports S) (xs ys : List Rule) → SameRules xs ys → map (λ (rule : Rule). evaluate s ports rule.body [] []) xs ≡ map (λ (rule : Rule). evaluate s ports rule.body [] []) ys
bodies-same s ports [] [] h = refl
bodies-same s ports [] (y ∷ ys) h = absurd h
bodies-same s ports (x ∷ xs) [] h = absurd h
bodies-same {S} s ports (x ∷ xs) (y ∷ ys) h =
    ap₂ (λ (p : Progress BitVector S) ps. p ∷ ps) (ap (λ (f : Meaning S). f [] []) (evaluate-same s ports x.body y.body h.0.1)) (bodies-same s ports xs ys h.1)

-- designs that are equal by value do the same
pub DoTheSame-equal : (S : Type 0) (d e : Parts) → SameDesign d e → DoTheSame S d e
DoTheSame-equal S d e h =
    record {
      regs = h.regs;
      inputs = h.inputs;
      tables = h.tables;
      hosts = h.hosts;
      names = names-same d.rules e.rules h.rules;
      bodies = λ s ports. bodies-same s ports d.rules e.rules h.rules;
      nodes = h.nodes;
    }
